-- Where a single pattern is read, it is spelt, over the same law of the patterns within: it stops where neither `::` before parentheses follows, nor `!=`.
use Rattle.std.proofs.Common.{◌≡◌, Bool, true, false, not, ◌&&◌, [], Option, Some, None, is_some, Ok, inl, inr, ◌∙◌, ap, subst}
use Rattle.syn_pat.proofs.pat_laws.words.Tokens.{DelimSpan, Brace, Bracket, Parenthesis, TokenStream, Many, Reader, in_group, sees_group, sees_mark, Visible, Stream, Toks, group}
use Rattle.syn_pat.proofs.pat_laws.words.Paths.{Macro, Place, nothing, IsBarePath}
use Rattle.syn_pat.proofs.pat_laws.words.Forms.{goes_on, position}
use Rattle.syn_pat.proofs.pat_laws.words.Attributes.{expr_macro_of, Expr}
use Rattle.syn_pat.proofs.pat_laws.words.Types.{is_mod_style, IsAnyPath, unqualified, is_segment_word, Manner, loosely, sees_call, Relation, Path, QSelf, Comma}
use Rattle.syn_pat.proofs.pat_laws.words.Patterns.{PatPlace, Single, LeadingVert, a_box, IsSingleWhere, a_binding_pat, a_call, a_path, a_struct, a_tuple_struct, a_verbatim, a_wild, Pat, path_pat_of, struct_of, tuple_struct_of, wild_of, Fields, Readers, after_path, begins_bound, begins_path, binding, box_pat, elements, fields, path_pat, qpath, reference, sees_half_open, single, slice, type_names, IsHead, a_pat_path, a_path_start, types_to}
use Rattle.token_core.specs.Groups as groups
use Rattle.token_core.specs.Tokens as token
use Rattle.token_core.proofs.Suffixes.{follows_trans}
use Rattle.token_core.proofs.Took.{branch, mapped}
use Rattle.token_core.proofs.Turns.{chain}
use Rattle.syn_path.proofs.Words.{TookOne}
use Rattle.syn_path.specs.declared.path.PathStyle.TheVariants.{Expr as expressions}
use Rattle.syn_path.specs.mac.Reading as macs
use Rattle.syn_path.specs.path.Paths.{without}
use Rattle.syn_attr.specs.attr.Attrs.{Attribute as Attr}
use Rattle.syn_forms.specs.verbatim.Reading.{since}
use Rattle.syn_ty.proofs.ty_laws.sound.Held.{holds_since}
use Rattle.syn_ty.proofs.ty_laws.sound.Leaves.{IsHeld, held_sound, named_sound, twice}
use Rattle.syn_pat.specs.declared.pat.PatOf.TheVariants as pat
use Rattle.syn_pat.specs.declared.pat.PatRangeBoundOf.TheVariants as bounds
use Rattle.syn_pat.specs.pat.Reading.{begins_binding, by_mark, by_word, struct_after, tuple_struct_after}
use Rattle.syn_pat.proofs.pat_laws.sound.Bindings.{AllOf, binding_took, elements_sound, paren_took, reference_took, slice_took}
use Rattle.syn_pat.proofs.pat_laws.sound.Calls.{call_took, path_bare, path_ends}
use Rattle.syn_pat.proofs.pat_laws.sound.Fields.{All, fields_sound}
use Rattle.syn_pat.proofs.pat_laws.sound.Names.{no_try, not_self, unbound_or_lone}
use Rattle.syn_pat.proofs.pat_laws.sound.Ranges.{AsStart, after_bound_took, bound_or_range_took, half_took}
use Rattle.syn_path.proofs.Along.{named}
use Rattle.syn_pat.proofs.pat_laws.sound.Within.{and_second, AnyPath, Before, dots_no_sep, Held, IsSomePath, Stopping, SuppliedTold, TookOn}

-- a law that asks nothing of what follows
plain : {A : Type 0} {Is : Relation A} {stops : Toks → Type 0} (s t : Stream) (x : A) → TookOne Is s t x → TookOne (Before stops Is) s t x
plain s t x k = record { left = k.left; seen = k.seen; spelt = λ n stop. k.spelt n }

module _ {X : Type 0} {lone : Toks → Bool} (halts : Stopping lone) (supplied : Place → Reader X) (spells : Place → X → Toks → Type 0) (g : SuppliedTold supplied spells) (r : Readers X) (part : Manner → PatPlace → Relation (Pat X)) (h : Held halts.stops r part) where
  abbrev Q : Type 0
  Q = Option (QSelf (Attr X) (Expr X))

  abbrev P : Type 0
  P = Path (Attr X) (Expr X)

  abbrev pub Of : Pat X → Toks → Toks → Type 0
  Of = IsSingleWhere spells part loosely lone

  -- ---- held verbatim

  box_took : (s t : Stream) (x : Pat X) → Visible s.rest → box_pat r s ≡ Ok (x, t) → TookOne (Before halts.stops Of) s t x
  unfolding box_pat
  box_took s t x v e =
      let c = chain (token.box_word s) _ x t e in
      let k = named_sound {n = 5} s c.rest c.value v c.was in
      let d = chain (r Single c.rest) _ x t c.goes in
      let w = h.took Single c.rest d.rest d.value k.seen d.was in
      let f = mapped (since (position s) d.rest) (λ (z : TokenStream). pat.Verbatim z) x t d.goes in
      let on = follows_trans s c.rest d.rest (named {n = 5} s c.rest c.value c.was) (h.along Single c.rest d.rest d.value d.was) in
      let q = holds_since s d.rest t f.value v w.seen on f.was in
      let all : TookOne (Before halts.stops Of) s d.rest (pat.Verbatim f.value) = record { left = λ n. k.left (w.left n); seen = w.seen; spelt = λ n stop. a_verbatim (a_box (k.spelt (w.left n)) (w.spelt n stop), q.1) } in
      subst (λ z. TookOne (Before halts.stops Of) s t z) f.is (subst (λ z. TookOne (Before halts.stops Of) s z (pat.Verbatim f.value)) q.0 all)

  -- ---- after a path

  -- what is known of the path before
  pub record IsBegun (q : Q) (p : P) (l m : Toks) : Type 0 where
    pub path : IsSomePath spells (q, p) l m
    pub begins : begins_path l ≡ true
    pub no_try : token.sees_try l ≡ false
    pub over : q ≡ None → goes_on m ≡ false

  head : (q : Q) (p : P) (l m : Toks) → IsBegun q p l m → token.sees_path_sep m ≡ false → IsHead spells loosely q p l m
  head q p l m b e = (a_pat_path b.path.0 (b.path.1, b.no_try), not_self spells b.path.0 q p l m b.path.1 b.begins e)

  group_no_sep : (d : _) (s : DelimSpan) (c k m : Toks) → m ≡ group d s c k → token.sees_path_sep m ≡ false
  unfolding sees_mark
  group_no_sep d s c k m e = ap token.sees_path_sep e

  struct_at : (q : Q) (p : P) (x : DelimSpan × Fields X) (l m k : Toks) → IsBegun q p l m → IsHeld Brace (All halts supplied spells g r part h) x m k → Of (pat.Struct (struct_of [] q p (groups.brace x.0) x.1.0 x.1.1)) l k
  struct_at q p x l m k b i = a_struct (subst (λ z. IsHead spells loosely q p l z) i.is (head q p l m b (group_no_sep Brace x.0 i.content k m i.is))) i.holds

  tuple_struct_at : (q : Q) (p : P) (x : DelimSpan × Many (Pat X) Comma) (l m k : Toks) → IsBegun q p l m → IsHeld Parenthesis (AllOf halts spells r part h LeadingVert) x m k →
      Of (pat.TupleStruct (tuple_struct_of [] q p (groups.paren x.0) x.1)) l k
  tuple_struct_at q p x l m k b i = a_tuple_struct (subst (λ z. IsHead spells loosely q p l z) i.is (head q p l m b (group_no_sep Parenthesis x.0 i.content k m i.is))) i.holds

  path_told : (q : Q) (p : P) (l m : Toks) → IsBegun q p l m → not (is_some q) && (sees_call m && is_mod_style p) ≡ false → sees_group Brace m ≡ false → sees_group Parenthesis m ≡ false →
      AsStart supplied spells g halts part (bounds.Path (path_pat_of [] q p)) l m
  path_told q p l m b call brace paren = (
    λ dots. a_path_start (head q p l m b (dots_no_sep m dots)),
    λ dots stop. a_path (a_pat_path b.path.0 (b.path.1, b.no_try)) (unbound_or_lone spells lone b.path.0 q p l m b.path.1 b.begins b.over call brace paren dots (halts.is_told m stop)),
  )

  unqualified_is : (n : _) (p : P) (l m : Toks) → IsAnyPath (types_to spells n) loosely expressions None p l m → is_mod_style p ≡ true → IsBarePath false is_segment_word nothing (without nothing p) l m
  unqualified_is n p l m (unqualified i) e = path_bare spells n p l m i e

  bare : (q : Q) (p : P) (l m : Toks) → IsBegun q p l m → not (is_some q) && (sees_call m && is_mod_style p) ≡ true → IsBarePath false is_segment_word nothing (without nothing p) l m
  bare None p l m b e = unqualified_is b.path.0 p l m b.path.1 (and_second _ _ e)
  bare (Some q) p l m b e = cc e

  pub after_path_took : (q : Q) (p : P) (l : Toks) (s t : Stream) (x : Pat X) → Visible s.rest → after_path supplied (type_names supplied) r q p s ≡ Ok (x, t) → TookOn s t (IsBegun q p l s.rest → Before halts.stops Of x l t.rest)
  unfolding after_path struct_after tuple_struct_after
  after_path_took q p l s t x v e =
      elim (branch (not (is_some q) && (sees_call s.rest && is_mod_style p)) _ _ s (Ok (x, t)) e) [
        | inl y ↦ let k = mapped (macs.call_after (without nothing p) s) (λ (z : Macro). pat.Macro (expr_macro_of [] z)) x t y.1 in
            let w = call_took (without nothing p) l s t k.value v k.was in
            record { left = w.left; seen = w.seen; told = λ n b stop. subst (λ z. Of z l t.rest) k.is (a_call (w.told n (bare q p l s.rest b y.0) b.begins b.no_try)) }
        | inr y ↦ elim (branch (sees_group Brace s.rest) _ _ s (Ok (x, t)) y.1) [
          | inl z ↦ let k = twice (in_group Brace groups.brace_name (fields supplied r) s) (λ u. struct_of [] q p (groups.brace u.0) u.1.0 u.1.1) pat.Struct x t z.1 in
              let w = held_sound Brace (All halts supplied spells g r part h) groups.brace_name (fields supplied r) (fields_sound halts supplied spells g r part h) s t k.value v k.was in
              record { left = w.left; seen = w.seen; told = λ n b stop. subst (λ u. Of u l t.rest) k.is (struct_at q p k.value l s.rest t.rest b (w.spelt n)) }
          | inr z ↦ elim (branch (sees_group Parenthesis s.rest) _ _ s (Ok (x, t)) z.1) [
            | inl u ↦ let f = mapped (tuple_struct_after r q p s) pat.TupleStruct x t u.1 in
                let k = twice (in_group Parenthesis groups.paren_name (elements r LeadingVert) s) (λ o. (groups.paren o.0, o.1)) (λ o. tuple_struct_of [] q p o.0 o.1) f.value t f.was in
                let w = held_sound Parenthesis (AllOf halts spells r part h LeadingVert) groups.paren_name (elements r LeadingVert) (elements_sound halts spells r part h LeadingVert) s t k.value v k.was in
                record { left = w.left; seen = w.seen; told = λ n b stop. subst (λ o. Of o l t.rest) (ap pat.TupleStruct k.is ∙ f.is) (tuple_struct_at q p k.value l s.rest t.rest b (w.spelt n)) }
            | inr u ↦ let w = after_bound_took supplied spells g halts part (bounds.Path (path_pat_of [] q p)) l s t x v u.1 in
                record { left = w.left; seen = w.seen; told = λ n b. w.told n (path_told q p l s.rest b y.0 z.0 u.0) }
          ]
        ]
      ]

  path_pat_took : (s t : Stream) (x : Pat X) → Visible s.rest → begins_path s.rest ≡ true → path_pat supplied (type_names supplied) r s ≡ Ok (x, t) → TookOne (Before halts.stops Of) s t x
  unfolding path_pat
  path_pat_took s t x v b e =
      let c = chain (qpath supplied s) (λ (p : AnyPath X). after_path supplied (type_names supplied) r p.0 p.1) x t e in
      let k = g.path s c.rest c.value v c.was in
      let w = after_path_took c.value.0 c.value.1 s.rest c.rest t x k.seen c.goes in
      record {
        left = λ n. k.left (w.left n);
        seen = w.seen;
        spelt = λ n. w.told n (record { path = k.spelt (w.left n); begins = b; no_try = no_try s.rest v b; over = path_ends supplied s c.rest c.value c.was });
      }

  -- ---- by the first tokens

  by_mark_took : (s t : Stream) (x : Pat X) → Visible s.rest → by_mark supplied (type_names supplied) r s ≡ Ok (x, t) → TookOne (Before halts.stops Of) s t x
  unfolding by_mark
  by_mark_took s t x v e =
      elim (branch (token.sees_and s.rest) _ _ s (Ok (x, t)) e) [
        | inl y ↦ let k = mapped (reference r s) pat.Reference x t y.1 in subst (λ z. TookOne (Before halts.stops Of) s t z) k.is (reference_took halts spells r part h s t k.value v k.was)
        | inr y ↦ elim (branch (sees_group Parenthesis s.rest) _ _ s (Ok (x, t)) y.1) [
          | inl z ↦ plain {Is = Of} s t x (paren_took halts spells r part h s t x v z.1)
          | inr z ↦ elim (branch (sees_group Bracket s.rest) _ _ s (Ok (x, t)) z.1) [
            | inl u ↦ let k = mapped (slice r s) pat.Slice x t u.1 in subst (λ o. TookOne (Before halts.stops Of) s t o) k.is (plain {Is = Of} s t (pat.Slice k.value) (slice_took halts spells r part h s t k.value v k.was))
            | inr u ↦ elim (branch (sees_half_open s.rest) _ _ s (Ok (x, t)) u.1) [
              | inl o ↦ plain {Is = Of} s t x (half_took supplied spells g halts part s t x v o.1)
              | inr o ↦ cc o.1
            ]
          ]
        ]
      ]

  by_word_took : (s t : Stream) (x : Pat X) → Visible s.rest → by_word supplied (type_names supplied) r s ≡ Ok (x, t) → TookOne (Before halts.stops Of) s t x
  unfolding by_word
  by_word_took s t x v e =
      elim (branch (token.sees_underscore s.rest) _ _ s (Ok (x, t)) e) [
        | inl y ↦ let k = twice (token.underscore s) (λ (z : token.Underscore). wild_of {X = X} [] z) pat.Wild x t y.1 in
            let w = named_sound {n = 19} s t k.value v k.was in
            record { left = w.left; seen = w.seen; spelt = λ n stop. subst (λ z. Of z s.rest t.rest) k.is (a_wild (w.spelt n)) }
        | inr y ↦ elim (branch (token.sees_box s.rest) _ _ s (Ok (x, t)) y.1) [
          | inl z ↦ box_took s t x v z.1
          | inr z ↦ elim (branch (begins_bound s.rest) _ _ s (Ok (x, t)) z.1) [
            | inl u ↦ bound_or_range_took supplied spells g halts part s t x v u.0 u.1
            | inr u ↦ elim (branch (begins_binding s.rest) _ _ s (Ok (x, t)) u.1) [
              | inl o ↦ let k = mapped (binding r s) pat.Ident x t o.1 in
                  let w = binding_took halts spells r part h s t k.value v k.was in
                  record { left = w.left; seen = w.seen; spelt = λ n stop. subst (λ z. Of z s.rest t.rest) k.is (a_binding_pat (w.spelt n stop)) }
              | inr o ↦ by_mark_took s t x v o.1
            ]
          ]
        ]
      ]

  pub single_took : (s t : Stream) (x : Pat X) → Visible s.rest → single supplied (type_names supplied) r s ≡ Ok (x, t) → TookOne (Before halts.stops Of) s t x
  unfolding single
  single_took s t x v e =
      elim (branch (begins_path s.rest) (path_pat supplied (type_names supplied) r) (by_word supplied (type_names supplied) r) s (Ok (x, t)) e) [
        | inl y ↦ path_pat_took s t x v y.0 y.1
        | inr y ↦ by_word_took s t x v y.1
      ]
