-- Where a macro call is read after the path of a pattern, it is spelt: its path has no arguments, does not begin with `try`, and is not `self` alone. And where a path without a type that qualifies it was read, no `::` goes on with it.
use Rattle.std.proofs.Common.{◌≡◌, ℕ, zero, suc, Bool, true, false, ◌&&◌, ◌⊎◌, inl, inr, List, [], ◌∷◌, map, Option, Some, None, Ok, refl, sym, ◌∙◌, ap, subst, arith}
use Rattle.std.specs.List.{list_all}
use Rattle.syn_pat.proofs.pat_laws.words.Tokens.{Span, Ident, Spacing, AreListed, Nowhere, none_left, last_value, value_and_mark, Many, listed, never, size, Reader, optional, pure, sees_mark, ◌>>=◌, Visible, last_char, more_chars, IsMark, is_mark, Stream, Toks, word, mark, group, punct}
use Rattle.syn_pat.proofs.pat_laws.words.Paths.{Macro, PathStyle, Place, IsCall, a_macro, ModPath, lone_ident, nothing, IsBarePath, a_bare_path, no_leading, leading, last_segment, more_segments}
use Rattle.syn_pat.proofs.pat_laws.words.Forms.{Plus, ahead, goes_on}
use Rattle.syn_pat.proofs.pat_laws.words.Attributes.{outer, Expr}
use Rattle.syn_pat.proofs.pat_laws.words.Types.{Sep, is_none, is_mod_style, is_segment_word, IsPath, a_path, IsSegment, a_word, a_word_with_arguments, loosely, IsOptional, absent, present, Path, PathSegment, QSelf}
use Rattle.syn_pat.proofs.pat_laws.words.Patterns.{begins_path, qpath, values, IsPatCall, is_self, types_to}
use Rattle.token_core.specs.Loops.{listed_from}
use Rattle.token_core.specs.Tokens as token
use Rattle.token_core.proofs.MarkSpells.{mark_sound, mark_visible}
use Rattle.token_core.proofs.Took.{branch, mapped}
use Rattle.token_core.proofs.Turns.{chain, same_pair}
use Rattle.syn_path.proofs.mac_laws.Sound.{call_sound, took_body}
use Rattle.syn_path.specs.declared.path.PathStyle.TheVariants.{Expr as expressions}
use Rattle.syn_path.specs.mac.Macros.{Held as HeldTokens, macro_of}
use Rattle.syn_path.specs.mac.Reading as macs
use Rattle.syn_path.specs.path.Paths.{path_of, segment_of, without}
use Rattle.syn_path.specs.path.Reading.{leading as read_leading}
use Rattle.syn_path.specs.path.Spelling as bare
use Rattle.syn_path.specs.path.Spelling.{IsLeading}
use Rattle.syn_attr.specs.attr.Attrs.{Attribute as Attr}
use Rattle.syn_forms.specs.paths.Reading as paths
use Rattle.syn_ty.specs.path.Alone as alone
use Rattle.syn_ty.specs.path.Paths.{no_arguments}
use Rattle.syn_ty.specs.ty.Knot as types
use Rattle.syn_ty.specs.ty.Points.{Readers, a_type, some_arguments}
use Rattle.syn_pat.proofs.pat_laws.sound.Names.{contrary, held_is, no_self}
use Rattle.syn_pat.proofs.pat_laws.sound.Within.{AnyPath, TookOn}

-- ---- a path without arguments is a bare path

and_left : (b c : Bool) → b && c ≡ true → b ≡ true
and_left true c h = refl
and_left false c h = cc h

and_right : (b c : Bool) → b && c ≡ true → c ≡ true
and_right true c h = h
and_right false c h = cc h

more_at : (i : Ident) (p : Sep) (ys : _) (qs : List Sep) (m k r : Toks) → is_segment_word i.text ≡ true → IsMark false p m k → bare.AreSegments false is_segment_word nothing ys qs k r →
    bare.AreSegments false is_segment_word nothing (segment_of nothing i ∷ ys) (p ∷ qs) (word i m) r
more_at i p ys qs m k r h (is_mark (more_chars (last_char a))) rest = more_segments h a rest

leading_at : (c : Option Sep) (l m : Toks) → IsOptional (IsMark false) c l m → IsLeading false c l m
leading_at c l m absent = no_leading
leading_at c l m (present (is_mark (more_chars (last_char a)))) = leading a

module _ {X : Type 0} (spells : Place → X → Toks → Type 0) where
  abbrev Segment : Type 0
  Segment = PathSegment (Attr X) (Expr X)

  abbrev Are : ℕ → Bool → List Segment → List Sep → Toks → Toks → Type 0
  Are n = AreListed (λ (_ : Bool). IsSegment (types_to spells n) loosely expressions) (IsMark false) Nowhere

  one_bare : (n : ℕ) (x : Segment) (l r : Toks) → IsSegment (types_to spells n) loosely expressions x l r → is_none x.arguments ≡ true → (l ≡ word x.ident r) × (is_segment_word x.ident.text ≡ true)
  one_bare n x l r (a_word h) e = (refl, h)
  one_bare n x l r (a_word_with_arguments {x = y} {l = k} h g j) e = absurd (contrary (is_none y) e (held_is spells n y k r j))

  segments_bare : (n : ℕ) (b : Bool) (xs : List Segment) (cs : List Sep) (l r : Toks) → Are n b xs cs l r → list_all (λ (s : Segment). is_none s.arguments) xs ≡ true →
      bare.AreSegments false is_segment_word nothing (map (λ (s : Segment). segment_of nothing s.ident) xs) cs l r
  segments_bare n b xs cs l r (none_left h) e = absurd h
  segments_bare n b xs cs l r (last_value {x = x} i) e =
      let w = one_bare n x l r i (and_left _ _ e) in
      subst (λ z. bare.AreSegments false is_segment_word nothing (segment_of nothing x.ident ∷ []) [] z r) (sym w.0) (last_segment w.1)
  segments_bare n b xs cs l r (value_and_mark {x = x} {p = p} {xs = ys} {ps = qs} {m = m} {k = k} i j rest) e =
      let w = one_bare n x l m i (and_left _ _ e) in
      let more = more_at x.ident p (map (λ (s : Segment). segment_of nothing s.ident) ys) qs m k r w.1 j (segments_bare n false ys qs k r rest (and_right _ _ e)) in
      subst (λ z. bare.AreSegments false is_segment_word nothing (segment_of nothing x.ident ∷ map (λ (s : Segment). segment_of nothing s.ident) ys) (p ∷ qs) z r) (sym w.0) more

  pub path_bare : (n : ℕ) (p : Path (Attr X) (Expr X)) (l r : Toks) → IsPath (types_to spells n) loosely expressions p l r → is_mod_style p ≡ true → IsBarePath false is_segment_word nothing (without nothing p) l r
  path_bare n p l r (a_path {c = c} {xs = xs} {cs = cs} {l = k} {m = m} o i) e = a_bare_path (leading_at c k m o) (segments_bare n true xs cs m r i e)

-- ---- its path is not `self` alone

abbrev lone_of : ModPath → Option Ident
lone_of p = lone_ident (λ a. true) p

bare_lone : (p : ModPath) (l r : Toks) → IsBarePath false is_segment_word nothing p l r → (lone_of p ≡ None) ⊎ ((i : Ident) × (lone_of p ≡ Some i) × (l ≡ word i r))
bare_lone p l r (a_bare_path no_leading (last_segment {i = i} h)) = inr (i, refl, refl)
bare_lone p l r (a_bare_path no_leading (more_segments h a (last_segment g))) = inl refl
bare_lone p l r (a_bare_path no_leading (more_segments h a (more_segments g b k))) = inl refl
bare_lone p l r (a_bare_path (leading a) k) = inl refl

path_free : (p : ModPath) (l r : Toks) → IsBarePath false is_segment_word nothing p l r → begins_path l ≡ true → token.sees_path_sep r ≡ false → is_self (lone_of p) ≡ false
path_free p l r i h g =
    elim (bare_lone p l r i) [
      | inl y ↦ ap is_self y
      | inr y ↦ ap is_self y.1 ∙ no_self y.0 r (subst (λ z. begins_path z ≡ true) y.2 h) g
    ]

bang_no_sep : (a : Span) (j : Spacing) (k : Toks) → token.sees_path_sep (mark (punct token.bang_char j a) k) ≡ false
unfolding sees_mark
bang_no_sep a j k = refl

call_free : (x : Macro) (l r : Toks) → IsCall false is_segment_word x l r → begins_path l ≡ true → is_self (lone_of x.path) ≡ false
call_free x l r (a_macro {p = p} {a = a} {j = j} {d = d} {s = s} {c = c} i b f k) h = path_free p l (mark (punct token.bang_char j a) (group d s c r)) i h (bang_no_sep a j (group d s c r))

pub call_took : (p : ModPath) (l : Toks) (s t : Stream) (x : Macro) → Visible s.rest → macs.call_after p s ≡ Ok (x, t) →
    TookOn s t (IsBarePath false is_segment_word nothing p l s.rest → begins_path l ≡ true → token.sees_try l ≡ false → IsPatCall false x l t.rest)
unfolding macs.call_after
call_took p l s t x v e =
    let with : token.Bang → HeldTokens → Macro = λ b h. macro_of p b h in
    let c = chain (token.bang s) _ x t e in
    let k = mark_sound {n = 0} {k = 1} refl (omega arith) s c.rest c.value v c.was in
    let vc = mark_visible false {n = 0} {k = 1} c.value s.rest c.rest.rest k.spelt v in
    let f = mapped (macs.body c.rest) (with c.value) x t c.goes in
    let w = took_body c.rest t f.value vc f.was in
    record {
      left = λ n. sym k.left ∙ sym w.left ∙ n;
      seen = (subst Visible w.is vc).2;
      told = λ n i h g. let q = call_sound is_segment_word p l s t x i v e in ((q.0, g), call_free x l t.rest q.0 h);
    }

-- ---- where a path ends

module _ {A P : Type 0} (value : Bool → Reader A) (more : Toks → Bool) (joint : Reader P) where
  over_from : (n : ℕ) (b : Bool) (s t : Stream) (v : Many A P) → listed_from never value more joint n b s ≡ Ok (v, t) → more t.rest ≡ false
  over_from zero b s t v e = cc
  over_from (suc n) b s t v e =
      let c = chain (value b s) _ v t e in
      elim (branch (more c.rest.rest) _ _ c.rest (Ok (v, t)) c.goes) [
        | inl z ↦ let d = chain (joint c.rest) _ v t z.1 in
            let f = chain (listed_from never value more joint n false d.rest) _ v t d.goes in
            subst (λ (u : Stream). more u.rest ≡ false) (same_pair (c.value ∷ f.value.0, d.value ∷ f.value.1) v f.rest t f.goes).1 (over_from n false d.rest f.rest f.value f.was)
        | inr z ↦ subst (λ (u : Stream). more u.rest ≡ false) (same_pair (c.value ∷ [], []) v c.rest t z.1).1 z.0
      ]

  over : (b : Bool) (s t : Stream) (v : Many A P) → listed never value more joint b s ≡ Ok (v, t) → more t.rest ≡ false
  unfolding listed
  over b s t v e = over_from (suc (size s.rest)) b s t v e

module _ {X : Type 0} (r : Readers (Attr X) (Expr X)) (style : PathStyle) where
  abbrev Segments : Type 0
  Segments = Many (PathSegment (Attr X) (Expr X)) Sep

  abbrev segments : Reader Segments
  segments = paths.segments no_arguments (r some_arguments) goes_on style

  path_over : (s t : Stream) (x : Path (Attr X) (Expr X)) → paths.path no_arguments (r some_arguments) style s ≡ Ok (x, t) → goes_on t.rest ≡ false
  unfolding paths.path read_leading
  path_over s t x e =
      let rest : Option Sep → Reader (Path (Attr X) (Expr X)) = λ c. segments >>= (λ all. pure (path_of c all)) in
      let c = chain (optional token.sees_path_sep token.path_sep s) rest x t e in
      let k = mapped (segments c.rest) (λ (all : Segments). path_of c.value all) x t c.goes in
      over (λ (_ : Bool). paths.segment no_arguments (r some_arguments) style) goes_on token.path_sep true c.rest t k.value k.was

module _ {X : Type 0} (supplied : Place → Reader X) where
  pub path_ends : (s t : Stream) (x : AnyPath X) → qpath supplied s ≡ Ok (x, t) → x.0 ≡ None → goes_on t.rest ≡ false
  unfolding alone.maybe_qualified paths.maybe_qualified
  path_ends s t x e h =
      let r : Readers (Attr X) (Expr X) = types.reads_below (outer supplied) (values supplied) (ahead s) in
      let by : QSelf (Attr X) (Expr X) × Path (Attr X) (Expr X) → AnyPath X = λ p. (Some p.0, p.1) in
      let by_none : Path (Attr X) (Expr X) → AnyPath X = λ p. (None, p) in
      elim (branch (token.sees_lt s.rest) _ _ s (Ok (x, t)) e) [
        | inl y ↦ let k = mapped (paths.qualified (r (a_type Plus)) no_arguments (r some_arguments) expressions s) by x t y.1 in cc (ap (λ (z : AnyPath X). z.0) k.is ∙ h)
        | inr y ↦ let k = mapped (paths.path no_arguments (r some_arguments) expressions s) by_none x t y.1 in path_over r expressions s t k.value k.was
      ]
