-- The segment of a path that is one: by the first segment and the second, and by the last one and those before it.
use Rattle.std.proofs.Common.{◌≡◌, List, [], ◌∷◌, ◌++◌, length, Option, Some, None, refl, arith}
use Rattle.std.specs.Prelude.{slice_get, ◌≢◌}
use Rattle.syn_path.specs.declared.path.PathSegmentOf.{PathSegmentOf}
use Rattle.syn_path.specs.path.Paths.{lone_of}

module _ {A : Type 0} where
  abbrev pub first_lone : Option (PathSegmentOf A) → Option (PathSegmentOf A) → Option (PathSegmentOf A)
  first_lone o None = o
  first_lone o (Some t) = None

  pub lone-first : (l : List (PathSegmentOf A)) → lone_of None l ≡ first_lone (slice_get l 0) (slice_get l 1)
  lone-first [] = refl
  lone-first (s ∷ []) = refl
  lone-first (s ∷ t ∷ l) = refl

  pub lone-last : (l : List (PathSegmentOf A)) (s : PathSegmentOf A) → length l ≡ 0 → lone_of None (l ++ s ∷ []) ≡ Some s
  lone-last [] s h = refl
  lone-last (t ∷ l) s h = absurd (omega (arith, h))

  pub more-last : (l : List (PathSegmentOf A)) (s : PathSegmentOf A) → length l ≢ 0 → lone_of None (l ++ s ∷ []) ≡ None
  more-last [] s h = absurd (h refl)
  more-last (t ∷ []) s h = refl
  more-last (t ∷ u ∷ l) s h = refl

pub ruleset firsts = (lone-first)

pub ruleset lasts = (lone-last, more-last)
