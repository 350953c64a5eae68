-- Where the read of a form answers, the answer spells what was taken by the rules of the whole grammar; where it is open no `+` follows, and where it ends in a plus no word: over the same law of what it holds.
use Rattle.std.proofs.Common.{◌≡◌, Bool, true, false, Option, Some, None, Ok, inl, inr, refl, sym, ◌∙◌, ap, subst, arith}
use Rattle.syn_ty.proofs.ty_laws.words.Tokens.{Lifetime, Parenthesis, Bracket, sees_lifetime, read_lifetime, Reader, in_group, leaves, optional, Visible, IsMark, IsWord, IsLifetime, Stream, Toks, done}
use Rattle.syn_ty.proofs.ty_laws.words.Forms.{TypePlace, Plus, NoPlus, PointerMutability, IsMutability}
use Rattle.syn_ty.proofs.ty_laws.words.Types.{return_of, IsReturn, no_output, an_output, IsPointer, a_pointer, IsBorrow, a_borrow, a_mutable_borrow, a_lifetime_borrow, IsEnclosed, enclosed, IsBracketed, bracketed, Manner, loosely, End, closed, Parts, Readers, a_type, Relation, IsOptional, absent, present, ReturnType, TypeParen, TypePtr, TypeReference, TypeSlice, TypeTree, And, Mut, Star, paren_of, ptr_of, reference_of, slice_of}
use Rattle.token_core.specs.Groups as groups
use Rattle.token_core.specs.Lifetimes.{read_optional_lifetime}
use Rattle.token_core.specs.Marks as marks
use Rattle.token_core.specs.Tokens as token
use Rattle.token_core.proofs.MarkSpells.{mark_sound, mark_visible, mark_seen}
use Rattle.token_core.proofs.Took.{branch, mapped}
use Rattle.token_core.proofs.Turns.{chain}
use Rattle.syn_path.proofs.Words.{TookOne}
use Rattle.syn_forms.specs.forms.Reading as forms
use Rattle.syn_forms.specs.heads.Reading as heads
use Rattle.syn_forms.specs.tokens.Reading as tokens
use Rattle.syn_forms.specs.tokens.Reading.{sees_named, mutable}
use Rattle.syn_forms.proofs.tokens_laws.Fronts.{took_as, took_whole}
use Rattle.syn_forms.proofs.tokens_laws.Mutability.{mutability_sound, visible_mutability}
pub use Rattle.syn_ty.specs.ty.Parts.{Told}
use Rattle.syn_ty.specs.ty.Reading as reading
use Rattle.syn_ty.proofs.ty_laws.sound.Leaves.{optional_sound, named_sound, life_sound, IsHeld, held_sound, twice}

-- what is closed is not open, and does not end in a plus
pub never_open : {P : Type 0} → closed.is_open ≡ true → P
never_open h = cc h

-- ---- bounds joined by `+`

pub not_true : (b : Bool) → (b ≡ true → ⊥) → b ≡ false
not_true true h = absurd (h refl)
not_true false h = refl

pub both : {P : Type 0} (b : Bool) → b ≡ true → b ≡ false → P
both true h k = cc k
both false h k = cc h

-- a bound that a `+` follows is not open
pub before_plus : (e : End) (p : token.Plus) (m k : Toks) → (e.is_open ≡ true → token.sees_plus m ≡ false) → IsMark false p m k → e.is_open ≡ false
before_plus e p m k o i = not_true e.is_open (λ h. both (token.sees_plus m) (mark_seen false {n = 20} {k = 1} p m k i) (o h))

-- ---- an optional part that is absent was not seen

pub unseen : {A : Type 0} (sees : Toks → Bool) (p : Reader A) (s t : Stream) (o : Option A) → optional sees p s ≡ Ok (o, t) → o ≡ None → sees s.rest ≡ false
unseen {A} sees p s t o e h =
    elim (branch (sees s.rest) _ _ s (Ok (o, t)) e) [
      | inl y ↦ let k = mapped (p s) (λ (z : A). Some z) o t y.1 in cc (k.is ∙ h)
      | inr y ↦ y.0
    ]

-- ---- forms of types

module _ {A E : Type 0} (r : Readers A E) (part : Manner → Parts A E)
    (took : (p : TypePlace) (s t : Stream) (x : TypeTree A E) → Visible s.rest → r (a_type p) s ≡ Ok (x, t) → TookOne (Told ((part loosely).ty p)) s t x) where
  abbrev Tree : Type 0
  Tree = TypeTree A E

  abbrev pub TypeIn : TypePlace → Relation Tree
  TypeIn p = Told ((part loosely).ty p)

  -- a type that is all of a content
  abbrev Alone : TypePlace → Tree → Toks → Type 0
  Alone p x c = TypeIn p x c done

  alone : (p : TypePlace) (s t : Stream) (x : Tree) → Visible s.rest → r (a_type p) s ≡ Ok (x, t) → leaves t ≡ None → Alone p x s.rest
  alone p s t x v e h = took_whole {Is = TypeIn p} s t x (took p s t x v e) h

  pub bracketed_took : (s t : Stream) (x : TypeSlice A E) → Visible s.rest → reading.slice r s ≡ Ok (x, t) → TookOne (IsBracketed part loosely) s t x
  unfolding reading.slice
  bracketed_took s t x v e =
      let k = twice (in_group Bracket groups.bracket_name (r (a_type Plus)) s) (λ g. (groups.bracket g.0, g.1)) (λ g. slice_of g.0 g.1) x t e in
      took_as {Is = IsHeld Bracket (Alone Plus)} {Js = IsBracketed part loosely} (λ g. slice_of (groups.bracket g.0) g.1) s t k.value x k.is
      (λ l m i. subst (λ z. IsBracketed part loosely (slice_of (groups.bracket k.value.0) k.value.1) z m) (sym i.is) (bracketed i.holds.1))
      (held_sound Bracket (Alone Plus) groups.bracket_name (r (a_type Plus)) (alone Plus) s t k.value v k.was)

  -- the content stands without plus
  pub enclosed_took : (s t : Stream) (x : TypeParen A E) → Visible s.rest → reading.paren r s ≡ Ok (x, t) → TookOne (IsEnclosed part loosely NoPlus) s t x
  unfolding reading.paren
  enclosed_took s t x v e =
      let k = twice (in_group Parenthesis groups.paren_name (r (a_type NoPlus)) s) (λ g. (groups.paren g.0, g.1)) (λ g. paren_of g.0 g.1) x t e in
      took_as {Is = IsHeld Parenthesis (Alone NoPlus)} {Js = IsEnclosed part loosely NoPlus} (λ g. paren_of (groups.paren g.0) g.1) s t k.value x k.is
      (λ l m i. subst (λ z. IsEnclosed part loosely NoPlus (paren_of (groups.paren k.value.0) k.value.1) z m) (sym i.is) (enclosed i.holds.1))
      (held_sound Parenthesis (Alone NoPlus) groups.paren_name (r (a_type NoPlus)) (alone NoPlus) s t k.value v k.was)

  -- ---- pointers

  abbrev PtrParts : Type 0
  PtrParts = Star × PointerMutability × Tree

  pointer_at : (a : Star) (q : PointerMutability) (x : Tree) (l m n k : Toks) → IsMark false a l m → IsMutability q m n → TypeIn NoPlus x n k → Told (IsPointer part loosely) (ptr_of a q x) l k
  pointer_at a q x l m n k i j w = (w.0, a_pointer i j w.1, w.2, w.3)

  pub pointer_took : (s t : Stream) (x : TypePtr A E) → Visible s.rest → reading.ptr r s ≡ Ok (x, t) → TookOne (Told (IsPointer part loosely)) s t x
  unfolding reading.ptr forms.ptr
  pointer_took s t x v e =
      let of : PtrParts → TypePtr A E = λ p. ptr_of p.0 p.1 p.2 in
      let p = mapped (forms.ptr (r (a_type NoPlus)) s) of x t e in
      let c = chain (tokens.star s) _ p.value t p.was in
      let k = mark_sound {n = 26} {k = 1} refl (omega arith) s c.rest c.value v c.was in
      let f = chain (tokens.mutability c.rest) _ p.value t c.goes in
      let vc = mark_visible false {n = 26} {k = 1} c.value s.rest c.rest.rest k.spelt v in
      let q = mutability_sound c.rest f.rest f.value vc f.was in
      let with : Tree → PtrParts = λ z. (c.value, f.value, z) in
      let g = mapped (r (a_type NoPlus) f.rest) with p.value t f.goes in
      let w = took NoPlus f.rest t g.value (visible_mutability f.value c.rest.rest f.rest.rest q.spelt vc) g.was in
      record {
        left = λ h. sym k.left ∙ sym q.left ∙ w.left h;
        seen = w.seen;
        spelt = λ h. subst (λ z. Told (IsPointer part loosely) z s.rest t.rest) (ap of g.is ∙ p.is) (pointer_at c.value f.value g.value s.rest c.rest.rest f.rest.rest t.rest k.spelt q.spelt (w.spelt h));
      }

  -- ---- references: without lifetime and `mut` the type does not begin with a lifetime

  abbrev ReferenceParts : Type 0
  ReferenceParts = And × Option Lifetime × Option Mut × Tree

  borrow_at : (a : And) (o : Option Lifetime) (u : Option Mut) (x : Tree) (l m n k j : Toks) → IsMark false a l m → IsOptional IsLifetime o m n → (o ≡ None → sees_lifetime m ≡ false) → IsOptional IsWord u n k → TypeIn NoPlus x k j →
      Told (IsBorrow part loosely) (reference_of a o u x) l j
  borrow_at a o u x l m n k j i absent h absent w = (w.0, a_borrow i (h refl) w.1, w.2, w.3)
  borrow_at a o u x l m n k j i absent h (present y) w = (w.0, a_mutable_borrow i y w.1, w.2, w.3)
  borrow_at a o u x l m n k j i (present z) h y w = (w.0, a_lifetime_borrow i z y w.1, w.2, w.3)

  pub borrow_took : (s t : Stream) (x : TypeReference A E) → Visible s.rest → reading.reference r s ≡ Ok (x, t) → TookOne (Told (IsBorrow part loosely)) s t x
  unfolding reading.reference forms.reference
  borrow_took s t x v e =
      let of : ReferenceParts → TypeReference A E = λ p. reference_of p.0 p.1 p.2 p.3 in
      let p = mapped (forms.reference (r (a_type NoPlus)) s) of x t e in
      let c = chain (tokens.and s) _ p.value t p.was in
      let k = mark_sound {n = 5} {k = 1} refl (omega arith) s c.rest c.value v c.was in
      let a = chain (read_optional_lifetime c.rest) _ p.value t c.goes in
      let o = optional_sound {Is = IsLifetime} sees_lifetime read_lifetime life_sound c.rest a.rest a.value (mark_visible false {n = 5} {k = 1} c.value s.rest c.rest.rest k.spelt v) a.was in
      let f = chain (mutable a.rest) _ p.value t a.goes in
      let q = optional_sound {Is = IsWord} (sees_named 13) (marks.read_named 13) named_sound a.rest f.rest f.value o.seen f.was in
      let with : Tree → ReferenceParts = λ z. (c.value, a.value, f.value, z) in
      let g = mapped (r (a_type NoPlus) f.rest) with p.value t f.goes in
      let w = took NoPlus f.rest t g.value q.seen g.was in
      record {
        left = λ h. sym k.left ∙ o.left (q.left (w.left h));
        seen = w.seen;
        spelt = λ h. subst (λ z. Told (IsBorrow part loosely) z s.rest t.rest) (ap of g.is ∙ p.is)
            (borrow_at c.value a.value f.value g.value s.rest c.rest.rest a.rest.rest f.rest.rest t.rest k.spelt (o.spelt (q.left (w.left h))) (unseen sees_lifetime read_lifetime c.rest a.rest a.value a.was) (q.spelt (w.left h)) (w.spelt h));
      }

  -- ---- outputs

  -- `->` and a type
  pub IsArrowed : TypePlace → Relation (token.RArrow × Tree)
  IsArrowed place x l k = (m : Toks) × IsMark false x.0 l m × TypeIn place x.1 m k

  pub arrow_took : (place : TypePlace) (s t : Stream) (x : token.RArrow × Tree) → Visible s.rest → heads.arrow (r (a_type place)) s ≡ Ok (x, t) → TookOne (IsArrowed place) s t x
  unfolding heads.arrow IsArrowed
  arrow_took place s t x v e =
      let c = chain (token.r_arrow s) _ x t e in
      let k = mark_sound {n = 23} {k = 2} refl (omega arith) s c.rest c.value v c.was in
      let with : Tree → token.RArrow × Tree = λ z. (c.value, z) in
      let g = mapped (r (a_type place) c.rest) with x t c.goes in
      let w = took place c.rest t g.value (mark_visible false {n = 23} {k = 2} c.value s.rest c.rest.rest k.spelt v) g.was in
      record {
        left = λ h. sym k.left ∙ w.left h;
        seen = w.seen;
        spelt = λ h. subst (λ z. IsArrowed place z s.rest t.rest) g.is (c.rest.rest, k.spelt, w.spelt h);
      }

  pub output_at : (place : TypePlace) (o : Option (token.RArrow × Tree)) (l k : Toks) → IsOptional (IsArrowed place) o l k → Told (IsReturn part loosely place) (return_of o) l k
  unfolding IsArrowed
  output_at place o l k absent = (closed, no_output, never_open, never_open)
  output_at place o l k (present i) = (i.2.0, an_output i.1 i.2.1, i.2.2, i.2.3)

  pub output_took : (place : TypePlace) (s t : Stream) (x : ReturnType A E) → Visible s.rest → reading.return_type r place s ≡ Ok (x, t) → TookOne (Told (IsReturn part loosely place)) s t x
  unfolding reading.return_type
  output_took place s t x v e =
      let k = mapped (heads.returned (r (a_type place)) s) return_of x t e in
      took_as {Is = IsOptional (IsArrowed place)} {Js = Told (IsReturn part loosely place)} return_of s t k.value x k.is (λ l m i. output_at place k.value l m i)
      (optional_sound {Is = IsArrowed place} token.sees_r_arrow (heads.arrow (r (a_type place))) (arrow_took place) s t k.value v k.was)
