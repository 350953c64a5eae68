-- A path that may be qualified, by itself, what it holds read by the knot: where it is read, the stream stands further on.
use Rattle.std.proofs.Common.{List}
use Rattle.syn_ty.proofs.ty_laws.words.Tokens.{Reader}
use Rattle.syn_ty.proofs.ty_laws.words.Paths.{PathStyle, ReadValues, Along}
use Rattle.syn_ty.proofs.ty_laws.words.Forms.{ahead}
use Rattle.syn_ty.proofs.ty_laws.words.Types.{reads_below, Point, Readers}
use Rattle.syn_ty.specs.path.Alone as paths
use Rattle.syn_ty.specs.ty.Knot.{single}
use Rattle.syn_ty.proofs.ty_laws.sound.AlongKnot.{reads_below_along}
use Rattle.syn_ty.proofs.ty_laws.sound.AlongPaths as path

module _ {A E : Type 0} (attrs : Reader (List A)) (values : ReadValues E) (g : Along attrs) (value : Along values.const_argument) where
  pub single_along : {F : Type 0} (form : Readers A E → Reader F) → ((r : Readers A E) → ((q : Point) → Along (r q)) → Along (form r)) → Along (single attrs values form)
  single_along form h s t x e = h (reads_below attrs values (ahead s)) (reads_below_along attrs values g value (ahead s)) s t x e

  pub lone_maybe_qualified : (style : PathStyle) → Along (paths.maybe_qualified attrs values style)
  unfolding paths.maybe_qualified
  lone_maybe_qualified style = single_along _ (λ r al. path.maybe_qualified_along al style)
