-- Where the fields of a struct are read, they are spelt, over the same law of the patterns within: each field, and what the braces hold.
use Rattle.std.proofs.Common.{◌≡◌, ℕ, zero, suc, Bool, true, false, List, [], Option, Some, None, Ok, inl, inr, refl, sym, ◌∙◌, ap, subst, arith}
use Rattle.syn_pat.proofs.pat_laws.words.Tokens.{Member, Ident, TokenStream, AreListed, Anywhere, none_left, last_value, value_and_mark, size, Reader, ident_name, is_done, is_ident, leaves, optional, read_word, ◌>>=◌, Visible, IsMark, IsMember, IsWord, Stream, Toks, done, word}
use Rattle.syn_pat.proofs.pat_laws.words.Paths.{Place}
use Rattle.syn_pat.proofs.pat_laws.words.Forms.{comma, mutable, position}
use Rattle.syn_pat.proofs.pat_laws.words.Attributes.{outer}
use Rattle.syn_pat.proofs.pat_laws.words.Types.{Manner, loosely, Holds, AreMarked, no_further, one_further, IsOptional, absent, present, Relation, Comma}
use Rattle.syn_pat.proofs.pat_laws.words.Patterns.{PatPlace, LeadingVert, AreFields, fields_alone, fields_and_rest, a_boxed_name, IsField, with_colon, without_colon, boxed, Attrs, FieldPat, Pat, binding_of, field_of, rest_of, Fields, Readers, field, fields, fields_from, no_fields, one_field, put_field, outer_spelt}
use Rattle.token_core.specs.declared.member.Member.TheVariants as member
use Rattle.token_core.specs.Members.{read_member}
use Rattle.token_core.specs.Positions.{Item}
use Rattle.token_core.specs.Reads.{Follows}
use Rattle.token_core.specs.Spellings.{named}
use Rattle.token_core.specs.Tokens as token
use Rattle.token_core.proofs.MarkSpells.{mark_sound, mark_visible}
use Rattle.token_core.proofs.MemberSpells.{member_sound, member_visible}
use Rattle.token_core.proofs.Suffixes.{follows_trans}
use Rattle.token_core.proofs.Took.{branch, mapped, took_all, took_word}
use Rattle.token_core.proofs.Turns.{chain, same_pair}
use Rattle.syn_path.proofs.Words.{TookOne}
use Rattle.syn_forms.specs.verbatim.Reading.{since}
use Rattle.syn_forms.proofs.tokens_laws.Fronts.{nothing_left}
use Rattle.syn_ty.proofs.ty_laws.sound.Held.{holds_since}
use Rattle.syn_ty.proofs.ty_laws.sound.Leaves.{comma_seen, named_sound, optional_sound, twice}
use Rattle.syn_pat.specs.declared.pat.PatOf.TheVariants as pat
use Rattle.syn_pat.specs.pat.Reading.{Modes, bound_field, by_ref, has_mode, member_field, modes, plain_field}
use Rattle.syn_pat.proofs.pat_laws.sound.Along.{modes_along}
use Rattle.syn_pat.proofs.pat_laws.sound.Bindings.{mutable_took, ref_took}
use Rattle.syn_path.proofs.Along.{word as word_along}
use Rattle.syn_pat.proofs.pat_laws.sound.Within.{Before, Held, Stopping, SuppliedTold, TookOn}

-- ---- `box`, `ref` and `mut` before a name

abbrev AreModes : Modes → Toks → Toks → Type 0
AreModes n l k = (m : Toks) × (o : Toks) × IsOptional IsWord n.0 l m × IsOptional IsWord n.1 m o × IsOptional IsWord n.2 o k

modes_took : (s t : Stream) (x : Modes) → Visible s.rest → modes s ≡ Ok (x, t) → TookOne AreModes s t x
unfolding modes
modes_took s t x v e =
    let a = chain (optional token.sees_box token.box_word s) _ x t e in
    let ka = optional_sound {Is = IsWord {n = 5}} token.sees_box token.box_word (named_sound {n = 5}) s a.rest a.value v a.was in
    let b = chain (by_ref a.rest) _ x t a.goes in
    let kb = ref_took a.rest b.rest b.value ka.seen b.was in
    let with : Option token.Mut → Modes = λ z. (a.value, b.value, z) in
    let c = mapped (mutable b.rest) with x t b.goes in
    let kc = mutable_took b.rest t c.value kb.seen c.was in
    record {
      left = λ n. ka.left (kb.left (kc.left n));
      seen = kc.seen;
      spelt = λ n. subst (λ z. AreModes z s.rest t.rest) c.is (a.rest.rest, b.rest.rest, ka.spelt (kb.left (kc.left n)), kb.spelt (kc.left n), kc.spelt n);
    }

-- ---- one field

module _ {X : Type 0} {lone : Toks → Bool} (halts : Stopping lone) (supplied : Place → Reader X) (spells : Place → X → Toks → Type 0) (g : SuppliedTold supplied spells) (r : Readers X) (part : Manner → PatPlace → Relation (Pat X)) (h : Held halts.stops r part) where
  abbrev pub Of : FieldPat X → Toks → Toks → Type 0
  Of = IsField spells part loosely

  abbrev Outer : Attrs X → Toks → Toks → Type 0
  Outer = outer_spelt spells false

  colon_at : (a : Attrs X) (n : Member) (c : token.Colon) (x : Pat X) (l m k j i : Toks) → Outer a l m → IsMember n m k → IsMark false c k j → part loosely LeadingVert x j i → Of (field_of a n (Some c) x) l i
  colon_at a n c x l m k j i p q f w = with_colon p q f w

  -- after the member
  member_took : (a : Attrs X) (n : Member) (l m : Toks) (s t : Stream) (x : FieldPat X) → Visible s.rest → member_field r a n s ≡ Ok (x, t) → TookOn s t (Outer a l m → IsMember n m s.rest → Before halts.stops Of x l t.rest)
  unfolding member_field
  member_took a n l m s t x v e =
      let c = chain (token.colon s) _ x t e in
      let k = mark_sound {n = 7} {k = 1} refl (omega arith) s c.rest c.value v c.was in
      let with : Pat X → FieldPat X = λ z. field_of a n (Some c.value) z in
      let f = mapped (r LeadingVert c.rest) with x t c.goes in
      let w = h.took LeadingVert c.rest t f.value (mark_visible false {n = 7} {k = 1} c.value s.rest c.rest.rest k.spelt v) f.was in
      record {
        left = λ n. sym k.left ∙ w.left n;
        seen = w.seen;
        told = λ i o p stop. subst (λ z. Of z l t.rest) f.is (colon_at a n c.value f.value l m s.rest c.rest.rest t.rest o p k.spelt (w.spelt i stop));
      }

  plain_at : (a : Attrs X) (f : Option token.Ref) (u : Option token.Mut) (i : Ident) (l m n o k : Toks) → Outer a l m → IsOptional IsWord f m n → IsOptional IsWord u n o → o ≡ word i k → is_ident i.text ≡ true →
      Of (field_of a (member.Named i) None (pat.Ident (binding_of [] f u i None))) l k
  plain_at a f u i l m n o k p q w e d = without_colon p q (subst (λ z. IsOptional IsWord u n z) e w) d

  none_at : (a : Attrs X) (f : Option token.Ref) (u : Option token.Mut) (i : Ident) (l m n o j k : Toks) → Outer a l m → IsOptional (IsWord {n = 5}) None m n → IsOptional IsWord f n o → IsOptional IsWord u o j → j ≡ word i k → is_ident i.text ≡ true →
      Of (field_of a (member.Named i) None (pat.Ident (binding_of [] f u i None))) l k
  none_at a f u i l m n o j k p absent q w e d = plain_at a f u i l m o j k p q w e d

  boxed_at : (a : Attrs X) (b : token.Box) (f : Option token.Ref) (u : Option token.Mut) (i : Ident) (x : TokenStream) (l m n o j k : Toks) → Outer a l m → IsOptional IsWord (Some b) m n → IsOptional IsWord f n o → IsOptional IsWord u o j →
      j ≡ word i k →
      is_ident i.text ≡ true → Holds x m k → Of (field_of a (member.Named i) None (pat.Verbatim x)) l k
  boxed_at a b f u i x l m n o j k p (present y) q w e d held = boxed p (a_boxed_name y q (subst (λ z. IsOptional IsWord u o z) e w) d, held)

  -- The modes and the name stand between two states of the stream, and so does the field.
  bound_took : (a : Attrs X) (l : Toks) (b : Option token.Box) (f : Option token.Ref) (u : Option token.Mut) (i : Ident) (s c d t : Stream) (x : FieldPat X) → Visible s.rest → Visible d.rest → Follows s d → c.rest ≡ word i d.rest →
      is_ident i.text ≡ true →
      bound_field (position s) a (b, f, u) i d ≡ Ok (x, t) → TookOn d t (Outer a l s.rest → AreModes (b, f, u) s.rest c.rest → Of x l t.rest)
  bound_took a l None f u i s c d t x v vd z w m e =
      let q = same_pair (field_of a (member.Named i) None (pat.Ident (binding_of [] f u i None))) x d t e in
      subst (λ y. TookOn d t (Outer a l s.rest → AreModes (None, f, u) s.rest c.rest → Of y l t.rest)) q.0
      (subst (λ (y : Stream). TookOn d y (Outer a l s.rest → AreModes (None, f, u) s.rest c.rest → Of (field_of a (member.Named i) None (pat.Ident (binding_of [] f u i None))) l y.rest)) q.1
      (record { left = λ n. n; seen = vd; told = λ n o p. none_at a f u i l s.rest p.0 p.1 c.rest d.rest o p.2 p.3 p.4 w m }))
  bound_took a l (Some b) f u i s c d t x v vd z w m e =
      let with : TokenStream → FieldPat X = λ y. field_of a (member.Named i) None (pat.Verbatim y) in
      let k = twice (since (position s) d) (λ (y : TokenStream). pat.Verbatim y) (λ (y : Pat X). field_of a (member.Named i) None y) x t e in
      let q = holds_since s d t k.value v vd z k.was in
      subst (λ y. TookOn d t (Outer a l s.rest → AreModes (Some b, f, u) s.rest c.rest → Of y l t.rest)) k.is
      (subst (λ (y : Stream). TookOn d y (Outer a l s.rest → AreModes (Some b, f, u) s.rest c.rest → Of (with k.value) l y.rest)) q.0
      (record { left = λ n. n; seen = vd; told = λ n o p. boxed_at a b f u i k.value l s.rest p.0 p.1 c.rest d.rest o p.2 p.3 p.4 w m q.1 }))

  named_at : (i : Ident) (m k : Toks) → IsMember (member.Named i) m k → (m ≡ word i k) × (is_ident i.text ≡ true)
  named_at i m k (named e) = (refl, e)

  alone_at : (a : Attrs X) (i : Ident) (l m k : Toks) → Outer a l m → (m ≡ word i k) × (is_ident i.text ≡ true) → Of (field_of a (member.Named i) None (pat.Ident (binding_of [] None None i None))) l k
  alone_at a i l m k p w = plain_at a None None i l m m m k p absent absent w.0 w.1

  -- after a member without modes
  plain_took : (from : List Item) (a : Attrs X) (n : Member) (l m : Toks) (s t : Stream) (x : FieldPat X) → Visible s.rest → plain_field r from a n s ≡ Ok (x, t) → TookOn s t (Outer a l m → IsMember n m s.rest → Before halts.stops Of x l t.rest)
  plain_took from a (member.Unnamed i) l m s t x v e = member_took a (member.Unnamed i) l m s t x v e
  plain_took from a (member.Named i) l m s t x v e =
      elim (branch (token.sees_colon s.rest) _ _ s (Ok (x, t)) e) [
        | inl y ↦ member_took a (member.Named i) l m s t x v y.1
        | inr y ↦ let q = same_pair (field_of a (member.Named i) None (pat.Ident (binding_of [] None None i None))) x s t y.1 in
            subst (λ z. TookOn s t (Outer a l m → IsMember (member.Named i) m s.rest → Before halts.stops Of z l t.rest)) q.0
            (subst (λ (z : Stream). TookOn s z (Outer a l m → IsMember (member.Named i) m s.rest → Before halts.stops Of (field_of a (member.Named i) None (pat.Ident (binding_of [] None None i None))) l z.rest)) q.1
            (record { left = λ n. n; seen = v; told = λ n o p stop. alone_at a i l m s.rest o (named_at i m s.rest p) }))
      ]

  same_front : (b : Option token.Box) (f : Option token.Ref) (u : Option token.Mut) (l m o k : Toks) → has_mode (b, f, u) ≡ false → IsOptional IsWord b l m → IsOptional IsWord f m o → IsOptional IsWord u o k → k ≡ l
  same_front b f u l m o k e absent absent absent = refl
  same_front b f u l m o k e absent absent (present i) = cc e
  same_front b f u l m o k e absent (present i) w = cc e
  same_front b f u l m o k e (present i) q w = cc e

  -- after its attributes
  pub field_took : (a : Attrs X) (l : Toks) (s t : Stream) (x : FieldPat X) → Visible s.rest → field r a s ≡ Ok (x, t) → TookOn s t (Outer a l s.rest → Before halts.stops Of x l t.rest)
  unfolding field
  field_took a l s t x v e =
      let c = chain (modes s) _ x t e in
      let kc = modes_took s c.rest c.value v c.was in
      elim (branch (has_mode c.value) (read_word is_ident ident_name >>= bound_field (position s) a c.value) (read_member >>= plain_field r (position s) a) c.rest (Ok (x, t)) c.goes) [
        | inl y ↦ let d = chain (read_word is_ident ident_name c.rest) (bound_field (position s) a c.value) x t y.1 in
            let w = took_word is_ident ident_name c.rest d.rest d.value kc.seen d.was in
            let on = follows_trans s c.rest d.rest (modes_along s c.rest c.value c.was) (word_along is_ident ident_name c.rest d.rest d.value d.was) in
            let q = bound_took a l c.value.0 c.value.1 c.value.2 d.value s c.rest d.rest t x v (subst Visible w.is kc.seen) on w.is w.meets d.goes in
            record { left = λ n. kc.left (sym w.left ∙ q.left n); seen = q.seen; told = λ n i stop. q.told n i (kc.spelt (sym w.left ∙ q.left n)) }
        | inr y ↦ let d = chain (read_member c.rest) (plain_field r (position s) a) x t y.1 in
            let w = member_sound c.rest d.rest d.value kc.seen d.was in
            let q = plain_took (position s) a d.value l c.rest.rest d.rest t x (member_visible d.value c.rest.rest d.rest.rest w.spelt kc.seen) d.goes in
            let front : t.left ≡ None → c.rest.rest ≡ s.rest = λ n. let i = kc.spelt (sym w.left ∙ q.left n) in same_front c.value.0 c.value.1 c.value.2 s.rest i.0 i.1 c.rest.rest y.0 i.2 i.3 i.4 in
            record { left = λ n. kc.left (sym w.left ∙ q.left n); seen = q.seen; told = λ n i. q.told n (subst (λ z. Outer a l z) (sym (front n)) i) w.spelt }
      ]

  -- ---- what braces hold

  abbrev At : Bool → Fields X → Toks → Type 0
  At b (w, None) l = AreListed (λ (_ : Bool). Of) (IsMark false) Anywhere b w.0 w.1 l done
  At b (w, Some o) l = (m : Toks) × (n : Toks) × AreMarked (λ (_ : Bool). Of) (IsMark false) b w.0 w.1 l m × Outer o.attrs m n × IsMark false o.dot2_token n done

  put_at : (b : Bool) (x : FieldPat X) (c : Comma) (w : Fields X) (l m k : Toks) → Of x l m → IsMark false c m k → At false w k → At b (put_field x c w) l
  put_at b x c (w, None) l m k i j f = value_and_mark i j f
  put_at b x c (w, Some o) l m k i j f = (f.0, f.1, one_further i j f.2, f.3, f.4)

  rest_at : (b : Bool) (a : Attrs X) (d : token.DotDot) (l m k : Toks) → k ≡ done → Outer a l m → IsMark false d m k → At b (no_fields (Some (rest_of a d))) l
  rest_at b a d l m k e i j = (l, m, no_further, i, subst (λ z. IsMark false d m z) e j)

  last_at : (b : Bool) (x : FieldPat X) (l k : Toks) → k ≡ done → Before halts.stops Of x l k → At b (one_field x) l
  last_at b x l k e i = last_value (subst (λ z. Before halts.stops Of x l z) e i halts.at_done)

  none_left_at : (b : Bool) (l : Toks) → l ≡ done → At b (no_fields None) l
  none_left_at b l e = subst (λ z. At b (no_fields None) z) (sym e) (none_left tt)

  -- a field and what follows it
  abbrev Took : Bool → Stream → Fields X → Type 0
  Took b s w = (s.left ≡ None) × At b w s.rest

  from_sound : (n : ℕ) (b : Bool) (s t : Stream) (w : Fields X) → Visible s.rest → fields_from supplied r n s ≡ Ok (w, t) → leaves t ≡ None → Took b s w
  from_sound zero b s t w v e n = cc
  from_sound (suc k) b s t w v e n =
      elim (branch (is_done s.rest) _ _ s (Ok (w, t)) e) [
        | inl y ↦ let q = same_pair (no_fields None) w s t y.1 in
            let ends = ap leaves q.1 ∙ n in
            (nothing_left s ends, subst (λ z. At b z s.rest) q.0 (none_left_at b s.rest (took_all s v ends)))
        | inr y ↦ let c = chain (outer supplied s) _ w t y.1 in
            let kc = g.attrs s c.rest c.value v c.was in
            elim (branch (token.sees_dot_dot c.rest.rest) _ _ c.rest (Ok (w, t)) c.goes) [
              | inl z ↦ let d = mapped (token.dot_dot c.rest) (λ (u : token.DotDot). no_fields (Some (rest_of c.value u))) w t z.1 in
                  let kd = mark_sound {n = 8} {k = 2} refl (omega arith) c.rest t d.value kc.seen d.was in
                  let over = took_all t (mark_visible false {n = 8} {k = 2} d.value c.rest.rest t.rest kd.spelt kc.seen) n in
                  let left = sym kd.left ∙ nothing_left t n in
                  (kc.left left, subst (λ u. At b u s.rest) d.is (rest_at b c.value d.value s.rest c.rest.rest t.rest over (kc.spelt left) kd.spelt))
              | inr z ↦ let d = chain (field r c.value c.rest) _ w t z.1 in
                  let kd = field_took c.value s.rest c.rest d.rest d.value kc.seen d.was in
                  elim (branch (is_done d.rest.rest) _ _ d.rest (Ok (w, t)) d.goes) [
                    | inl u ↦ let q = same_pair (one_field d.value) w d.rest t u.1 in
                        let ends = ap leaves q.1 ∙ n in
                        let left = nothing_left d.rest ends in
                        (kc.left (kd.left left), subst (λ o. At b o s.rest) q.0 (last_at b d.value s.rest d.rest.rest (took_all d.rest kd.seen ends) (kd.told left (kc.spelt (kd.left left)))))
                    | inr u ↦ let f = chain (comma d.rest) _ w t u.1 in
                        let kf = mark_sound {n = 4} {k = 1} refl (omega arith) d.rest f.rest f.value kd.seen f.was in
                        let m = mapped (fields_from supplied r k f.rest) (put_field d.value f.value) w t f.goes in
                        let rest = from_sound k false f.rest t m.value (comma_seen d.rest f.rest f.value kd.seen f.was) m.was n in
                        let left = sym kf.left ∙ rest.0 in (
                          kc.left (kd.left left),
                          subst (λ o. At b o s.rest) m.is (put_at b d.value f.value m.value s.rest d.rest.rest f.rest.rest (kd.told left (kc.spelt (kd.left left)) (halts.at_comma f.value d.rest.rest f.rest.rest kf.spelt)) kf.spelt rest.1),
                        )
                  ]
            ]
      ]

  -- all of them
  abbrev pub All : Fields X → Toks → Type 0
  All w l = AreFields spells part loosely w.0 w.1 l

  all_at : (w : Fields X) (l : Toks) → At true w l → All w l
  all_at (w, None) l i = fields_alone i
  all_at (w, Some o) l i = fields_and_rest i.2 i.3 i.4

  pub fields_sound : (s t : Stream) (w : Fields X) → Visible s.rest → fields supplied r s ≡ Ok (w, t) → leaves t ≡ None → All w s.rest
  unfolding fields
  fields_sound s t w v e n = all_at w s.rest (from_sound (suc (size s.rest)) true s t w v e n).1
