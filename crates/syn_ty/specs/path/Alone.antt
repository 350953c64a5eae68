-- A path that a type may qualify, by itself, as patterns and expressions hold it.
use Rattle.std.specs.Prelude.{List, Option}
use Rattle.syn_path.specs.declared.path.PathStyle.{PathStyle}
use Rattle.syn_path.specs.Values.{ReadValues}
use Rattle.syn_ty.specs.path.Reading as paths
use Rattle.syn_ty.specs.ty.Knot.{single}
use Rattle.syn_ty.specs.ty.Trees.{Path, QSelf}
use Rattle.token_core.specs.Reads.{Reader}

module _ {A E : Type 0} (attrs : Reader (List A)) (values : ReadValues E) where
  unfoldable pub maybe_qualified : PathStyle → Reader (Option (QSelf A E) × Path A E)
  maybe_qualified style = single attrs values (λ r. paths.maybe_qualified r style)
