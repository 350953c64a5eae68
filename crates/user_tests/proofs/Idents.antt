-- What a path that is an identifier has.
use Rattle.std.proofs.Common.{◌≡◌, ◌<◌, Bool, true, List, [], ◌∷◌, length, Option, Some, None, arith}
use Rattle.token_core.specs.Toks.{Bytes}
use Rattle.syn_path.specs.declared.path.PathOf.{PathOf}
use Rattle.syn_path.specs.declared.path.PathSegmentOf.{PathSegmentOf}
use Rattle.syn_path.specs.path.Paths.{Sep, is_text, only, lone_ident}

module _ {A : Type 0} (lacks : A → Bool) where
  only_segment : (t : Bytes) (o : Option Sep) (l : List (PathSegmentOf A)) → is_text t (only lacks o l) ≡ true → 0 < length l
  only_segment t None [] h = absurd (cc)
  only_segment t (Some c) [] h = absurd (cc)
  only_segment t o (s ∷ l) h = omega (arith)

  pub ident_segment : (t : Bytes) (p : PathOf A) → is_text t (lone_ident lacks p) ≡ true → 0 < length p.segments.0
  ident_segment t p h = only_segment t p.leading_colon p.segments.0 h

pub ruleset idents = (ident_segment)
