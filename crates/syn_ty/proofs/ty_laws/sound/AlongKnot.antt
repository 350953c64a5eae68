-- The reads that go back to themselves: where one answers, the stream stands further on.
use Rattle.std.proofs.Common.{ℕ, zero, suc, List}
use Rattle.syn_ty.proofs.ty_laws.words.Tokens.{Reader}
use Rattle.syn_ty.proofs.ty_laws.words.Paths.{ReadValues, Along}
use Rattle.syn_ty.proofs.ty_laws.words.Forms.{Plus, ahead, below}
use Rattle.syn_ty.proofs.ty_laws.words.Types.{bound, step, read_at, read, reads_below, ty, Point, Readers, a_bound, a_param, a_type, an_argument, some_arguments}
use Rattle.syn_ty.specs.ty.Knot.{argument_in, arguments_in, param}
use Rattle.syn_ty.proofs.ty_laws.sound.AlongBounds.{bound_step_along, param_step_along}
use Rattle.syn_ty.proofs.ty_laws.sound.AlongPaths.{argument_step_along, arguments_step_along}
use Rattle.syn_forms.proofs.along_laws.Kit.{below_along, held_along}
use Rattle.syn_ty.proofs.ty_laws.sound.AlongTypes.{type_step_along}

module _ {A E : Type 0} (attrs : Reader (List A)) (values : ReadValues E) (g : Along attrs) (value : Along values.const_argument) where
  -- one turn, over the readers of all points
  pub step_along : {r : Readers A E} → ((q : Point) → Along (r q)) → (q : Point) → Along (step attrs values r q)
  step_along al (a_type place) = type_step_along attrs values al place
  step_along al (a_bound place) = bound_step_along al place
  step_along al (a_param place) = param_step_along attrs values g value al place
  step_along al an_argument = argument_step_along values value al (type_step_along attrs values al Plus)
  step_along al some_arguments = arguments_step_along al

  pub read_at_along : (n : ℕ) (q : Point) → Along (read_at attrs values n q)
  read_at_along zero q s t x e = cc
  read_at_along (suc n) q s t x e = step_along {r = λ p. below (ahead s) (read_at attrs values n p)} (λ p. below_along (ahead s) (read_at_along n p)) q s t x e

  pub read_along : (q : Point) → Along (read attrs values q)
  unfolding read
  read_along q s t x e = read_at_along (suc (ahead s)) q s t x e

  -- all of them, where less than a limit is left
  pub reads_below_along : (limit : ℕ) (q : Point) → Along (reads_below attrs values limit q)
  reads_below_along limit (a_type place) = held_along (ty attrs values) limit place (read_along (a_type place))
  reads_below_along limit (a_bound place) = held_along (bound attrs values) limit place (read_along (a_bound place))
  reads_below_along limit (a_param place) = held_along (param attrs values) limit place (read_along (a_param place))
  reads_below_along limit an_argument = held_along (argument_in attrs values) limit tt (read_along an_argument)
  reads_below_along limit some_arguments = held_along (arguments_in attrs values) limit tt (read_along some_arguments)
