-- The parameters of one kind that an iterator of generics has left.
use Rattle.std.specs.Prelude.{List}
use Rattle.token_core.specs.Lent.{values_left}
use Rattle.syn_generics.specs.declared.generics.Lifetimes.{Lifetimes}
use Rattle.syn_generics.specs.declared.generics.LifetimesMut.{LifetimesMut}
use Rattle.syn_generics.specs.declared.generics.TypeParams.{TypeParams}
use Rattle.syn_generics.specs.declared.generics.TypeParamsMut.{TypeParamsMut}
use Rattle.syn_generics.specs.declared.generics.ConstParams.{ConstParams}
use Rattle.syn_generics.specs.declared.generics.ConstParamsMut.{ConstParamsMut}
use Rattle.syn_generics.specs.generics.Params.{only, as_lifetime, as_type, as_const}
use Rattle.syn_ty.specs.ty.Trees.{TypeParam, ConstParam}
use Rattle.syn_ty.specs.declared.generics.LifetimeParamOf.{LifetimeParamOf}

module _ {A E : Type 0} where
  abbrev pub lifetimes_left : Lifetimes A E → List (LifetimeParamOf A)
  lifetimes_left s = only as_lifetime s.params

  abbrev pub lifetimes_mut_left : LifetimesMut A E → List (LifetimeParamOf A)
  lifetimes_mut_left s = only as_lifetime (values_left s.params)

  abbrev pub type_params_left : TypeParams A E → List (TypeParam A E)
  type_params_left s = only as_type s.params

  abbrev pub type_params_mut_left : TypeParamsMut A E → List (TypeParam A E)
  type_params_mut_left s = only as_type (values_left s.params)

  abbrev pub const_params_left : ConstParams A E → List (ConstParam A E)
  const_params_left s = only as_const s.params

  abbrev pub const_params_mut_left : ConstParamsMut A E → List (ConstParam A E)
  const_params_mut_left s = only as_const (values_left s.params)
