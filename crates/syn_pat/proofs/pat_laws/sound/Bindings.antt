-- Where bindings, references and what parentheses and brackets hold are read, they are spelt, over the same law of the patterns within.
use Rattle.std.proofs.Common.{◌≡◌, Bool, true, false, not, ◌&&◌, List, [], ◌∷◌, Option, Some, None, Ok, inl, inr, refl, sym, ◌∙◌, ap, subst, arith}
use Rattle.syn_pat.proofs.pat_laws.words.Tokens.{DelimSpan, Parenthesis, Bracket, Ident, AreListed, Anywhere, none_left, last_value, value_and_mark, Many, listed, Reader, ident_name, in_group, is_done, is_ident, is_text, leaves, optional, read_word, Visible, IsMark, IsWord, Stream, Toks, done, word, group}
use Rattle.syn_pat.proofs.pat_laws.words.Paths.{Place}
use Rattle.syn_pat.proofs.pat_laws.words.Forms.{at_end, before_end, list_from, comma, mutable}
use Rattle.syn_pat.proofs.pat_laws.words.Types.{Manner, loosely, IsOptional, absent, present, Relation, Comma}
use Rattle.syn_pat.proofs.pat_laws.words.Patterns.{PatPlace, Single, LeadingVert, Element, AreElements, is_tuple, IsBinding, a_binding, IsSingleWhere, a_reference, a_mutable_reference, a_paren, a_tuple, a_slice, IsSubpat, a_subpat, Pat, PatIdent, PatReference, PatSlice, binding_of, is_rest, reference_of, slice_of, Readers, binding, elements, paren_content, paren_or_tuple, reference, slice, is_binding_name}
use Rattle.token_core.specs.Groups as groups
use Rattle.token_core.specs.Reads.{any_text}
use Rattle.token_core.specs.Tokens as token
use Rattle.token_core.proofs.Listings.{listed_sound, listed_visible}
use Rattle.token_core.proofs.MarkSpells.{mark_sound, mark_visible}
use Rattle.token_core.proofs.Took.{Word, branch, mapped, seen_word, took_all, took_word}
use Rattle.token_core.proofs.Turns.{chain, same_pair}
use Rattle.syn_path.proofs.Words.{TookOne}
use Rattle.syn_forms.proofs.tokens_laws.Fronts.{nothing_left, took_as}
use Rattle.syn_ty.proofs.ty_laws.sound.Leaves.{IsHeld, comma_seen, comma_took, held_sound, named_sound, optional_sound, twice}
use Rattle.syn_pat.specs.declared.pat.PatOf.TheVariants as pat
use Rattle.syn_pat.specs.declared.pat.read.groups.InParens.{InParens}
use Rattle.syn_pat.specs.declared.pat.read.groups.InParens.TheVariants as held
use Rattle.syn_pat.specs.pat.Reading.{bound_head, bound_name, by_ref, of_parens, optional_subpat, subpat}
use Rattle.syn_pat.proofs.pat_laws.sound.Within.{Before, Held, listed_before, not_false, not_true, or_left, or_right, Stopping}

-- ---- a name that is bound

abbrev pub IsName : (i : Ident) → Toks → Toks → Type 0
IsName i l r = (l ≡ word i r) × (is_binding_name i.text ≡ true)

name_of : (test : _) (s t : Stream) (i : Ident) → Visible s.rest → Word test s t i → is_binding_name i.text ≡ true → TookOne IsName s t i
name_of test s t i v w h = record { left = λ n. sym w.left ∙ n; seen = subst Visible w.is v; spelt = λ n. (w.is, h) }

pub name_took : (s t : Stream) (i : Ident) → Visible s.rest → bound_name s ≡ Ok (i, t) → TookOne IsName s t i
unfolding bound_name
name_took s t i v e =
    elim (branch (token.sees_self_value s.rest) (read_word any_text ident_name) (read_word is_ident ident_name) s (Ok (i, t)) e) [
      | inl y ↦ let w = took_word any_text ident_name s t i v y.1 in
          let h : is_text token.self_value_text i.text ≡ true = sym (seen_word (is_text token.self_value_text) i t.rest) ∙ ap token.sees_self_value (sym w.is) ∙ y.0 in
          name_of any_text s t i v w (or_right (is_ident i.text) (is_text token.self_value_text i.text) h)
      | inr y ↦ let w = took_word is_ident ident_name s t i v y.1 in name_of is_ident s t i v w (or_left (is_ident i.text) (is_text token.self_value_text i.text) w.meets)
    ]

pub ref_took : (s t : Stream) (x : Option token.Ref) → Visible s.rest → by_ref s ≡ Ok (x, t) → TookOne (IsOptional IsWord) s t x
ref_took s t x v e = optional_sound {Is = IsWord {n = 14}} token.sees_ref token.ref_word (named_sound {n = 14}) s t x v e

pub mutable_took : (s t : Stream) (x : Option token.Mut) → Visible s.rest → mutable s ≡ Ok (x, t) → TookOne (IsOptional IsWord) s t x
mutable_took s t x v e = optional_sound {Is = IsWord {n = 13}} token.sees_mut token.mut_word (named_sound {n = 13}) s t x v e

-- an optional part that is absent was not seen
unseen : {A : Type 0} (sees : Toks → Bool) (p : Reader A) (s t : Stream) (o : Option A) → optional sees p s ≡ Ok (o, t) → o ≡ None → sees s.rest ≡ false
unseen {A} sees p s t o e h =
    elim (branch (sees s.rest) _ _ s (Ok (o, t)) e) [
      | inl y ↦ let k = mapped (p s) (λ (z : A). Some z) o t y.1 in cc (k.is ∙ h)
      | inr y ↦ y.0
    ]

module _ {X : Type 0} {lone : Toks → Bool} (halts : Stopping lone) (spells : Place → X → Toks → Type 0) (r : Readers X) (part : Manner → PatPlace → Relation (Pat X)) (h : Held halts.stops r part) where
  abbrev Of : Pat X → Toks → Toks → Type 0
  Of = IsSingleWhere spells part loosely lone

  -- ---- bindings

  abbrev Sub : token.At × Pat X → Toks → Toks → Type 0
  Sub = IsSubpat spells part loosely

  sub_at : (a : token.At) (x : Pat X) (l m k : Toks) → IsMark false a l m → part loosely Single x m k → Sub (a, x) l k
  sub_at a x l m k i j = a_subpat i j

  subpat_took : (s t : Stream) (x : token.At × Pat X) → Visible s.rest → subpat r s ≡ Ok (x, t) → TookOne (Before halts.stops Sub) s t x
  unfolding subpat
  subpat_took s t x v e =
      let c = chain (token.at s) _ x t e in
      let k = mark_sound {n = 6} {k = 1} refl (omega arith) s c.rest c.value v c.was in
      let with : Pat X → token.At × Pat X = λ z. (c.value, z) in
      let f = mapped (r Single c.rest) with x t c.goes in
      let w = h.took Single c.rest t f.value (mark_visible false {n = 6} {k = 1} c.value s.rest c.rest.rest k.spelt v) f.was in
      record {
        left = λ n. sym k.left ∙ w.left n;
        seen = w.seen;
        spelt = λ n stop. subst (λ z. Sub z s.rest t.rest) f.is (sub_at c.value f.value s.rest c.rest.rest t.rest k.spelt (w.spelt n stop));
      }

  optional_before : {A : Type 0} (Is : Relation A) (o : Option A) (l k : Toks) → halts.stops k → IsOptional (Before halts.stops Is) o l k → IsOptional Is o l k
  optional_before Is o l k stop absent = absent
  optional_before Is o l k stop (present i) = present (i stop)

  binding_at : (f : Option token.Ref) (u : Option token.Mut) (i : Ident) (o : Option (token.At × Pat X)) (l m n k j : Toks) → IsOptional IsWord f l m → IsOptional IsWord u m n → IsName i n k → IsOptional Sub o k j →
      IsBinding spells part loosely (binding_of [] f u i o) l j
  binding_at f u i o l m n k j a b c d = a_binding a (subst (λ z. IsOptional IsWord u m z) c.0 b) c.1 d

  pub binding_took : (s t : Stream) (x : PatIdent X) → Visible s.rest → binding r s ≡ Ok (x, t) → TookOne (Before halts.stops (IsBinding spells part loosely)) s t x
  unfolding binding bound_head
  binding_took s t x v e =
      let d = chain (bound_head s) _ x t e in
      let a = chain (by_ref s) _ d.value d.rest d.was in
      let ka = ref_took s a.rest a.value v a.was in
      let b = chain (mutable a.rest) _ d.value d.rest a.goes in
      let kb = mutable_took a.rest b.rest b.value ka.seen b.was in
      let head : Ident → Option token.Ref × Option token.Mut × Ident = λ i. (a.value, b.value, i) in
      let c = mapped (bound_name b.rest) head d.value d.rest b.goes in
      let kc = name_took b.rest d.rest c.value kb.seen c.was in
      let of : Option token.Ref × Option token.Mut × Ident → Option (token.At × Pat X) → PatIdent X = λ w z. binding_of [] w.0 w.1 w.2 z in
      let f = mapped (optional_subpat r d.rest) (of d.value) x t d.goes in
      let w = optional_sound {Is = Before halts.stops Sub} token.sees_at (subpat r) subpat_took d.rest t f.value kc.seen f.was in
      record {
        left = λ n. ka.left (kb.left (kc.left (w.left n)));
        seen = w.seen;
        spelt = λ n stop.
            let nc = w.left n in
            let nb = kc.left nc in
            subst (λ z. IsBinding spells part loosely z s.rest t.rest) (ap (λ z. of z f.value) c.is ∙ f.is)
            (binding_at a.value b.value c.value f.value s.rest a.rest.rest b.rest.rest d.rest.rest t.rest (ka.spelt (kb.left nb)) (kb.spelt nb) (kc.spelt nc) (optional_before Sub f.value d.rest.rest t.rest stop (w.spelt n)));
      }

  -- ---- references

  reference_at : (a : token.And) (u : Option token.Mut) (x : Pat X) (l m n k : Toks) → IsMark false a l m → (u ≡ None → token.sees_mut m ≡ false) → IsOptional IsWord u m n → part loosely Single x n k → Of (pat.Reference (reference_of [] a u x)) l k
  reference_at a u x l m n k i f absent j = a_reference i (f refl) j
  reference_at a u x l m n k i f (present y) j = a_mutable_reference i y j

  pub reference_took : (s t : Stream) (x : PatReference X) → Visible s.rest → reference r s ≡ Ok (x, t) → TookOne (Before halts.stops Of) s t (pat.Reference x)
  unfolding reference
  reference_took s t x v e =
      let c = chain (token.and s) _ x t e in
      let k = mark_sound {n = 5} {k = 1} refl (omega arith) s c.rest c.value v c.was in
      let d = chain (mutable c.rest) _ x t c.goes in
      let kd = mutable_took c.rest d.rest d.value (mark_visible false {n = 5} {k = 1} c.value s.rest c.rest.rest k.spelt v) d.was in
      let with : Pat X → PatReference X = λ z. reference_of [] c.value d.value z in
      let f = mapped (r Single d.rest) with x t d.goes in
      let w = h.took Single d.rest t f.value kd.seen f.was in
      record {
        left = λ n. sym k.left ∙ kd.left (w.left n);
        seen = w.seen;
        spelt = λ n stop. subst (λ z. Of (pat.Reference z) s.rest t.rest) f.is
            (reference_at c.value d.value f.value s.rest c.rest.rest d.rest.rest t.rest k.spelt (unseen token.sees_mut token.mut_word c.rest d.rest d.value d.was) (kd.spelt (w.left n)) (w.spelt n stop));
      }

  -- ---- patterns in a group

  abbrev pub AllOf : PatPlace → Many (Pat X) Comma → Toks → Type 0
  AllOf place w l = AreElements spells part loosely place w.0 w.1 l

  abbrev Further : PatPlace → Bool → Many (Pat X) Comma → Toks → Type 0
  Further place b w l = AreListed (λ (_ : Bool). part loosely place) (IsMark false) Anywhere b w.0 w.1 l done

  abbrev read_elements : PatPlace → Bool → Reader (Many (Pat X) Comma)
  read_elements place = listed (λ (_ : Bool). is_done) (λ (_ : Bool). r place) (λ l. not (is_done l)) comma

  value_took : (place : PatPlace) (s t : Stream) (x : Pat X) → Visible s.rest → r place s ≡ Ok (x, t) → t.left ≡ None → (s.left ≡ None) × Before halts.stops (part loosely place) x s.rest t.rest
  value_took place s t x v e n = let k = h.took place s t x v e in (k.left n, k.spelt n)

  elements_seen : (place : PatPlace) (b : Bool) (s t : Stream) (w : Many (Pat X) Comma) → Visible s.rest → read_elements place b s ≡ Ok (w, t) → Visible t.rest
  elements_seen place b s t w v e =
      listed_visible (λ (_ : Bool). is_done) (λ (_ : Bool). r place) (λ l. not (is_done l)) comma (λ (_ : Bool). Before halts.stops (part loosely place)) (IsMark false) Anywhere (λ (z : Stream). z.left ≡ None)
      (λ a l q. tt) (λ a c d x u i. (h.took place c d x u i).seen) comma_seen (λ a c d x u q i. value_took place c d x u i) (λ c d x u q i. comma_took c d x u i) b s t w v e

  elements_told : (place : PatPlace) (b : Bool) (s t : Stream) (w : Many (Pat X) Comma) → Visible s.rest → read_elements place b s ≡ Ok (w, t) → leaves t ≡ None → (s.left ≡ None) × Further place b w s.rest
  elements_told place b s t w v e n =
      let k = listed_sound (λ (_ : Bool). is_done) (λ (_ : Bool). r place) (λ l. not (is_done l)) comma (λ (_ : Bool). Before halts.stops (part loosely place)) (IsMark false) Anywhere (λ (z : Stream). z.left ≡ None)
      (λ a l q. tt) (λ a c d x u i. (h.took place c d x u i).seen) comma_seen (λ a c d x u q i. value_took place c d x u i) (λ c d x u q i. comma_took c d x u i) b s t w v e (nothing_left t n) in
      let over = took_all t (elements_seen place b s t w v e) n in
      (k.0, listed_before (part loosely place) (IsMark false) Anywhere halts.stops halts.at_comma b w.0 w.1 s.rest done halts.at_done (subst (λ z. AreListed (λ (_ : Bool). Before halts.stops (part loosely place)) (IsMark false) Anywhere b w.0 w.1 s.rest z) over k.1))

  pub elements_sound : (place : PatPlace) (s t : Stream) (w : Many (Pat X) Comma) → Visible s.rest → elements r place s ≡ Ok (w, t) → leaves t ≡ None → AllOf place w s.rest
  unfolding elements
  elements_sound place s t w v e n = (elements_told place true s t w v e n).1

  -- ---- slices

  slice_at : (p : DelimSpan × Many (Pat X) Comma) (l m : Toks) → IsHeld Bracket (AllOf Element) p l m → Of (pat.Slice (slice_of [] (groups.bracket p.0) p.1)) l m
  slice_at p l m i = subst (λ z. Of (pat.Slice (slice_of [] (groups.bracket p.0) p.1)) z m) (sym i.is) (a_slice i.holds)

  pub slice_took : (s t : Stream) (x : PatSlice X) → Visible s.rest → slice r s ≡ Ok (x, t) → TookOne Of s t (pat.Slice x)
  unfolding slice
  slice_took s t x v e =
      let k = twice (in_group Bracket groups.bracket_name (elements r Element) s) (λ p. (groups.bracket p.0, p.1)) (λ p. slice_of [] p.0 p.1) x t e in
      took_as {Is = IsHeld Bracket (AllOf Element)} {Js = Of} (λ p. pat.Slice (slice_of [] (groups.bracket p.0) p.1)) s t k.value (pat.Slice x) (ap pat.Slice k.is) (λ l m i. slice_at k.value l m i)
      (held_sound Bracket (AllOf Element) groups.bracket_name (elements r Element) (elements_sound Element) s t k.value v k.was)

  -- ---- parentheses and tuples

  abbrev Content : InParens (Pat X) → Toks → Type 0
  Content (held.One x) c = part loosely LeadingVert x c done × (is_rest x ≡ false)
  Content (held.Elements w) c = AllOf LeadingVert w c × (is_tuple w.0 w.1 ≡ true)

  parens_at : (s : DelimSpan) (q : InParens (Pat X)) (c m : Toks) → Content q c → Of (of_parens (groups.paren s) q) (group Parenthesis s c m) m
  parens_at s (held.One x) c m i = a_paren i.0 i.1
  parens_at s (held.Elements w) c m i = a_tuple i.0 i.1

  several : (x : Pat X) (xs : List (Pat X)) (c : Comma) (cs : List Comma) → is_tuple (x ∷ xs) (c ∷ cs) ≡ true
  several x [] c cs = refl
  several x (y ∷ xs) c cs = refl

  abbrev Tuple : Many (Pat X) Comma → Toks → Type 0
  Tuple w c = AllOf LeadingVert w c × (is_tuple w.0 w.1 ≡ true)

  rest_alone : (b c : Bool) → b && not c ≡ false → b ≡ true → c ≡ true
  rest_alone true true e f = refl
  rest_alone true false e f = cc e
  rest_alone false c e f = cc f

  lone_first : (b c : Bool) → b && not c ≡ true → c ≡ false
  lone_first true c e = not_false c e
  lone_first false c e = cc e

  -- elements of which the first was read before
  more_sound : (x : Pat X) (l : Toks) (s t : Stream) (w : Many (Pat X) Comma) → Visible s.rest → is_done s.rest && not (is_rest x) ≡ false → list_from (λ (_ : Bool). at_end) (r LeadingVert) before_end comma x s ≡ Ok (w, t) → leaves t ≡ None →
      (s.left ≡ None) × (Before halts.stops (part loosely LeadingVert) x l s.rest → Tuple w l)
  unfolding list_from
  more_sound x l s t w v alone e n =
      elim (branch (not (is_done s.rest)) _ _ s (Ok (w, t)) e) [
        | inl y ↦ let c = chain (comma s) _ w t y.1 in
            let k = mark_sound {n = 4} {k = 1} refl (omega arith) s c.rest c.value v c.was in
            let with : Many (Pat X) Comma → Many (Pat X) Comma = λ z. (x ∷ z.0, c.value ∷ z.1) in
            let f = mapped (read_elements LeadingVert false c.rest) with w t c.goes in
            let q = elements_told LeadingVert false c.rest t f.value (comma_seen s c.rest c.value v c.was) f.was n in
            (sym k.left ∙ q.0, λ i. subst (λ z. Tuple z l) f.is (value_and_mark (i (halts.at_comma c.value s.rest c.rest.rest k.spelt)) k.spelt q.1, several x f.value.0 c.value f.value.1))
        | inr y ↦ let q = same_pair (x ∷ [], []) w s t y.1 in
            let ends = ap leaves q.1 ∙ n in
            let over = took_all s v ends in
            let rest = rest_alone (is_done s.rest) (is_rest x) alone (not_true (is_done s.rest) y.0) in
            (nothing_left s ends, λ i. subst (λ z. Tuple z l) q.0 (last_value (subst (λ z. Before halts.stops (part loosely LeadingVert) x l z) over i halts.at_done), rest))
      ]

  no_elements : (s : Stream) → s.rest ≡ done → Tuple ([], []) s.rest
  no_elements s e = (subst (λ z. AllOf LeadingVert ([], []) z) (sym e) (none_left tt), refl)

  first_and_more : (x : Pat X) (s c t : Stream) (w : Many (Pat X) Comma) → Visible s.rest → r LeadingVert s ≡ Ok (x, c) → is_done c.rest && not (is_rest x) ≡ false → list_from (λ (_ : Bool). at_end) (r LeadingVert) before_end comma x c ≡ Ok (w, t) →
      leaves t ≡ None → Tuple w s.rest
  first_and_more x s c t w v e alone f n =
      let k = h.took LeadingVert s c x v e in
      let q = more_sound x s.rest c t w k.seen alone f n in
      q.1 (k.spelt q.0)

  content_sound : (s t : Stream) (q : InParens (Pat X)) → Visible s.rest → paren_content r s ≡ Ok (q, t) → leaves t ≡ None → Content q s.rest
  unfolding paren_content
  content_sound s t q v e n =
      elim (branch (is_done s.rest) _ _ s (Ok (q, t)) e) [
        | inl y ↦ let p = same_pair (held.Elements ([], [])) q s t y.1 in subst (λ z. Content z s.rest) p.0 (no_elements s (took_all s v (ap leaves p.1 ∙ n)))
        | inr y ↦ let c = chain (r LeadingVert s) _ q t y.1 in
            let w = h.took LeadingVert s c.rest c.value v c.was in
            elim (branch (is_done c.rest.rest && not (is_rest c.value)) _ _ c.rest (Ok (q, t)) c.goes) [
              | inl z ↦ let p = same_pair (held.One c.value) q c.rest t z.1 in
                  let ends = ap leaves p.1 ∙ n in
                  subst (λ u. Content u s.rest) p.0
                  (subst (λ u. Before halts.stops (part loosely LeadingVert) c.value s.rest u) (took_all c.rest w.seen ends) (w.spelt (nothing_left c.rest ends)) halts.at_done, lone_first (is_done c.rest.rest) (is_rest c.value) z.0)
              | inr z ↦ let f = mapped (list_from (λ (_ : Bool). at_end) (r LeadingVert) before_end comma c.value c.rest) held.Elements q t z.1 in
                  subst (λ u. Content u s.rest) f.is (first_and_more c.value s c.rest t f.value v c.was z.0 f.was n)
            ]
      ]

  group_at : (p : DelimSpan × InParens (Pat X)) (l m : Toks) → IsHeld Parenthesis Content p l m → Of (of_parens (groups.paren p.0) p.1) l m
  group_at p l m i = subst (λ z. Of (of_parens (groups.paren p.0) p.1) z m) (sym i.is) (parens_at p.0 p.1 i.content m i.holds)

  pub paren_took : (s t : Stream) (x : Pat X) → Visible s.rest → paren_or_tuple r s ≡ Ok (x, t) → TookOne Of s t x
  unfolding paren_or_tuple
  paren_took s t x v e =
      let k = twice (in_group Parenthesis groups.paren_name (paren_content r) s) (λ p. (groups.paren p.0, p.1)) (λ p. of_parens p.0 p.1) x t e in
      took_as {Is = IsHeld Parenthesis Content} {Js = Of} (λ p. of_parens (groups.paren p.0) p.1) s t k.value x k.is (λ l m i. group_at k.value l m i)
      (held_sound Parenthesis Content groups.paren_name (paren_content r) content_sound s t k.value v k.was)
