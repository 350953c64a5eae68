-- Where a read of a group, of a list or below a limit answers, the stream stands further on; and so it does for each form over what it holds.
use Rattle.std.proofs.Common.{◌≡◌, ℕ, Bool, true, false, List, Option, None, Some, Ok, refl}
use Rattle.token_core.specs.declared.span.DelimSpan.{DelimSpan}
use Rattle.token_core.specs.Groups as groups
use Rattle.token_core.specs.Positions.{Item}
use Rattle.token_core.specs.Reads.{Reader, Follows, IsSuffix, inside, past}
use Rattle.token_core.specs.Stream.{Stream}
use Rattle.token_core.specs.Toks.{Toks}
use Rattle.token_core.proofs.Invisibles.{suffix_invisible}
use Rattle.token_core.proofs.Suffixes.{follows_past}
use Rattle.syn_path.specs.Took.{Along}
use Rattle.syn_path.proofs.Along.{bind, closed, either, in_group_along, list_along, made, mark, named, on_to, optional_along, refused, stays, terminated_along, word}
use Rattle.syn_path.proofs.Along.{lifetime as lifetime_along}
use Rattle.syn_forms.specs.groups.Reading.{in_brackets, in_invisible, in_parens}
use Rattle.syn_forms.specs.lists.Reading.{list_from}
use Rattle.syn_forms.specs.nested.Below.{below, below_if, held}
use Rattle.syn_forms.specs.verbatim.Reading.{since}

-- what is held as it was written
pub held_since : (from : List Item) → Along (since from)
unfolding since
held_since from = stays _

pub parens_along : {A : Type 0} (p : Reader A) → Along (in_parens p)
parens_along p = made _ (in_group_along _ _ p)

pub brackets_along : {A : Type 0} (p : Reader A) → Along (in_brackets p)
brackets_along p = made _ (in_group_along _ _ p)

invisible_at : (s t : Stream) (x : DelimSpan × Stream) (o : Option (DelimSpan × Toks × Toks)) → ((p : DelimSpan × Toks × Toks) → o ≡ Some p → IsSuffix p.2 s.rest) → groups.invisible_at s o ≡ Ok (x, t) → Follows s t
invisible_at s t x None h k = cc
invisible_at s t x (Some p) h k = on_to s (past s p.2 p.0.closing) t (p.0, inside s p.0 p.1 p.2) x (follows_past s p.2 p.0.closing (h p refl)) k

opening_invisible : Along groups.open_invisible
unfolding groups.open_invisible
opening_invisible s t x e = invisible_at s t x (groups.next_invisible s.rest) (λ p g. suffix_invisible s.rest p g) e

pub invisible_along : {A : Type 0} (p : Reader A) → Along (in_invisible p)
invisible_along p = made _ (bind opening_invisible (λ g. λ s t x e. closed g.0 s t (p g.1) x e))

-- ---- lists

module _ {A P : Type 0} (stops : Bool → Toks → Bool) {value : Reader A} (more : Toks → Bool) {joint : Reader P} (h : Along value) (k : Along joint) where
  pub list_from_along : (x : A) → Along (list_from stops value more joint x)
  unfolding list_from
  list_from_along x = either _ (bind k (λ p. bind (list_along stops more h k false) (λ v. stays _))) (stays _)

-- ---- below a limit

below_at : {A : Type 0} {p : Reader A} (b : Bool) → Along p → (s t : Stream) (x : A) → below_if b p s ≡ Ok (x, t) → Follows s t
below_at true h s t x e = h s t x e
below_at false h s t x e = cc

pub below_along : {A : Type 0} (limit : ℕ) {p : Reader A} → Along p → Along (below limit p)
below_along limit h s t x e = below_at _ h s t x e

pub held_along : {P A : Type 0} (r : P → Reader A) (limit : ℕ) (place : P) → Along (r place) → Along (held r limit place)
unfolding held
held_along r limit place h = below_along limit h

-- what each form is put together of
pub ruleset further = (mark, named, word, lifetime_along, held_since, in_group_along, parens_along, brackets_along, invisible_along, optional_along, terminated_along, list_along, list_from_along, stays, refused, either, bind)
