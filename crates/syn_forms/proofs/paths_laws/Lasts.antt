-- The arguments of the last segment.
use Rattle.std.proofs.Common.{◌≡◌, List, [], ◌∷◌, ◌++◌, Some, None, refl, ap}
use Rattle.token_core.specs.Lists.{last}
use Rattle.syn_path.specs.declared.path.PathSegmentOf.{PathSegmentOf}
use Rattle.syn_forms.specs.paths.Reading.{last_arguments, last_with, with_arguments}

module _ {G : Type 0} where
  pub last_arguments_some : (x : G) (all : List (PathSegmentOf G)) (s : PathSegmentOf G) → Some s ≡ last all → last_arguments x all ≡ s.arguments
  last_arguments_some x [] s e = cc
  last_arguments_some x (t ∷ []) s e = cc e
  last_arguments_some x (t ∷ u ∷ all) s e = last_arguments_some t.arguments (u ∷ all) s e

  none_left : (t : PathSegmentOf G) (all : List (PathSegmentOf G)) → None ≡ last (t ∷ all) → ⊥
  none_left t [] e = cc e
  none_left t (u ∷ all) e = none_left u all e

  pub last_arguments_none : (x : G) (all : List (PathSegmentOf G)) → None ≡ last all → last_arguments x all ≡ x
  last_arguments_none x [] e = refl
  last_arguments_none x (t ∷ all) e = absurd (none_left t all e)

  pub last_with-append : (x : G) (all : List (PathSegmentOf G)) (s : PathSegmentOf G) → last_with x (all ++ s ∷ []) ≡ all ++ with_arguments s.ident x ∷ []
  last_with-append x [] s = refl
  last_with-append x (t ∷ []) s = refl
  last_with-append x (t ∷ u ∷ all) s = ap (λ z. t ∷ z) (last_with-append x (u ∷ all) s)

pub ruleset lasts = (last_arguments_some, last_arguments_none, last_with-append)
