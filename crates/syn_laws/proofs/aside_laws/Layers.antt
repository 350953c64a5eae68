-- Types, arguments of paths, parameters and bounds without their spans: by their parts.
use Rattle.std.proofs.Common.{◌≡◌, List, [], ◌∷◌, Option, Some, None, map, option_map, refl, sym, ◌∙◌, ap, subst}
use Rattle.token_core.specs.Loops.{Many}
use Rattle.token_core.specs.Tokens as token
use Rattle.token_core.specs.declared.lifetime.Lifetime.{Lifetime}
use Rattle.token_core.specs.declared.token.Paren.{Paren}
use Rattle.token_core.specs.declared.tree.Ident.{Ident}
use Rattle.token_core.specs.Same.{bare_stream}
use Rattle.token_core.specs.Trees.{TokenStream}
use Rattle.syn_ty.specs.declared.generics.GenericParamOf.TheFolds.{fold-roll-GenericParamOf, fold-roll-TypeParamBoundOf, fold-roll-GenericArgumentOf, fold-roll-PathArgumentsOf, fold-roll-TypeOf, fold-roll-TraitBoundOf, fold-roll-TypeParamOf, fold-roll-AssocTypeOf, fold-roll-ConstraintOf, fold-roll-TypeFnPtrOf, fold-roll-TypePathOf}
use Rattle.syn_ty.specs.declared.generics.GenericParamOf.TheOpen as o
use Rattle.syn_ty.specs.declared.generics.GenericParamOf.TheVariants as g
use Rattle.syn_ty.specs.declared.generics.LifetimeParamOf.{LifetimeParamOf}
use Rattle.syn_ty.specs.declared.generics.PreciseCapture.{PreciseCapture}
use Rattle.syn_ty.specs.declared.generics.TraitBoundModifiers.{TraitBoundModifiers}
use Rattle.syn_ty.specs.declared.generics.TypeParamBoundOf.TheVariants as b
use Rattle.syn_ty.specs.declared.path.GenericArgumentOf.TheVariants as k
use Rattle.syn_ty.specs.declared.path.PathArgumentsOf.TheVariants as a
use Rattle.syn_ty.specs.declared.ty.Abi.{Abi}
use Rattle.syn_ty.specs.declared.ty.FnPtrVariadicOf.{FnPtrVariadicOf}
use Rattle.syn_ty.specs.declared.ty.ReturnTypeOf.TheVariants as r
use Rattle.syn_ty.specs.declared.ty.TypeInferOf.{TypeInferOf}
use Rattle.syn_ty.specs.declared.ty.TypeMacroOf.{TypeMacroOf}
use Rattle.syn_ty.specs.declared.ty.TypeNeverOf.{TypeNeverOf}
use Rattle.syn_ty.specs.declared.ty.TypeOf.TheVariants as v
use Rattle.syn_ty.specs.declared.generics.GenericParamOf.{roll-GenericParamOf, map-GenericParamOf}
use Rattle.syn_ty.specs.declared.generics.TypeParamBoundOf.{roll-TypeParamBoundOf, map-TypeParamBoundOf, out-TypeParamBoundOf, roll-out-TypeParamBoundOf}
use Rattle.syn_ty.specs.declared.generics.TraitBoundOf.{roll-TraitBoundOf, map-TraitBoundOf}
use Rattle.syn_ty.specs.declared.generics.TypeParamOf.{roll-TypeParamOf, map-TypeParamOf}
use Rattle.syn_ty.specs.declared.path.GenericArgumentOf.{roll-GenericArgumentOf, map-GenericArgumentOf}
use Rattle.syn_ty.specs.declared.path.PathArgumentsOf.{roll-PathArgumentsOf, map-PathArgumentsOf}
use Rattle.syn_ty.specs.declared.path.AssocTypeOf.{roll-AssocTypeOf, map-AssocTypeOf}
use Rattle.syn_ty.specs.declared.path.ConstraintOf.{roll-ConstraintOf, map-ConstraintOf}
use Rattle.syn_ty.specs.declared.ty.TypeOf.{roll-TypeOf, map-TypeOf}
use Rattle.syn_ty.specs.declared.ty.TypeFnPtrOf.{roll-TypeFnPtrOf, map-TypeFnPtrOf}
use Rattle.syn_ty.specs.declared.ty.TypePathOf.{roll-TypePathOf, map-TypePathOf}
use Rattle.syn_ty.specs.generics.Params.{Colon, Eq, trait_bound_of, type_param_of}
use Rattle.syn_ty.specs.path.Paths.{path_of, parens_of, assoc_type_of, assoc_const_of, constraint_of}
use Rattle.syn_ty.specs.ty.Reading.{is_trait, trait_layer}
use Rattle.syn_ty.specs.ty.Trees.{GenericParam, TypeParam, ConstParam, BoundLifetimes, TypeParamBound, TraitBound, PathArguments, Path, PathSegment, GenericArgument, AngleBracketed, AssocType, Constraint, TypeTree, QSelf, TypeArray, TypeFnPtr, TypeImplTrait, TypeParen, TypePath, TypePtr, TypeReference, TypeSlice, TypeTraitObject, TypeTuple, NamedArg, ReturnType, Layer}
use Rattle.syn_ty.specs.ty.Types.{Plus, Comma, fn_ptr_with, named_arg_of, qualified_with}
use Rattle.syn_path.specs.aside.Paths as paths
use Rattle.syn_path.specs.aside.Tokens as tokens
use Rattle.syn_laws.specs.aside.Types as free

module _ {A E : Type 0} (na : List A → List A) (ne : E → E) where
  by_param : (y : Layer o.GenericParamOf-F A E) → free.param na ne (roll-GenericParamOf A E y) ≡ free.param_step na ne (map-GenericParamOf A E (GenericParam A E) (TypeParamBound A E) (GenericArgument A E) (PathArguments A E) (TypeTree A E) (TraitBound A E) (TypeParam A E) (AssocType A E) (Constraint A E) (TypeFnPtr A E) (TypePath A E) (GenericParam A E) (TypeParamBound A E) (GenericArgument A E) (PathArguments A E) (TypeTree A E) (TraitBound A E) (TypeParam A E) (AssocType A E) (Constraint A E) (TypeFnPtr A E) (TypePath A E) (free.param na ne) (free.bound na ne) (free.argument na ne) (free.arguments na ne) (free.ty na ne) (free.trait_bound na ne) (free.type_param na ne) (free.assoc_type na ne) (free.constraint na ne) (free.fn_ptr na ne) (free.path_type na ne) y)
  unfolding free.param free.bound free.argument free.arguments free.ty free.trait_bound free.type_param free.assoc_type free.constraint free.fn_ptr free.path_type
  by_param y = fold-roll-GenericParamOf A E (GenericParam A E) (TypeParamBound A E) (GenericArgument A E) (PathArguments A E) (TypeTree A E) (TraitBound A E) (TypeParam A E) (AssocType A E) (Constraint A E) (TypeFnPtr A E) (TypePath A E) (free.param_step na ne) (free.bound_step na ne) (free.argument_step na ne) (free.arguments_step na ne) (free.ty_step na ne) (free.trait_bound_step na ne) (free.type_param_step na ne) (free.assoc_type_step na ne) (free.constraint_step na ne) (free.fn_ptr_step na ne) (free.path_type_step na ne) y

  by_bound : (y : Layer o.TypeParamBoundOf-F A E) → free.bound na ne (roll-TypeParamBoundOf A E y) ≡ free.bound_step na ne (map-TypeParamBoundOf A E (GenericParam A E) (TypeParamBound A E) (GenericArgument A E) (PathArguments A E) (TypeTree A E) (TraitBound A E) (TypeParam A E) (AssocType A E) (Constraint A E) (TypeFnPtr A E) (TypePath A E) (GenericParam A E) (TypeParamBound A E) (GenericArgument A E) (PathArguments A E) (TypeTree A E) (TraitBound A E) (TypeParam A E) (AssocType A E) (Constraint A E) (TypeFnPtr A E) (TypePath A E) (free.param na ne) (free.bound na ne) (free.argument na ne) (free.arguments na ne) (free.ty na ne) (free.trait_bound na ne) (free.type_param na ne) (free.assoc_type na ne) (free.constraint na ne) (free.fn_ptr na ne) (free.path_type na ne) y)
  unfolding free.param free.bound free.argument free.arguments free.ty free.trait_bound free.type_param free.assoc_type free.constraint free.fn_ptr free.path_type
  by_bound y = fold-roll-TypeParamBoundOf A E (GenericParam A E) (TypeParamBound A E) (GenericArgument A E) (PathArguments A E) (TypeTree A E) (TraitBound A E) (TypeParam A E) (AssocType A E) (Constraint A E) (TypeFnPtr A E) (TypePath A E) (free.param_step na ne) (free.bound_step na ne) (free.argument_step na ne) (free.arguments_step na ne) (free.ty_step na ne) (free.trait_bound_step na ne) (free.type_param_step na ne) (free.assoc_type_step na ne) (free.constraint_step na ne) (free.fn_ptr_step na ne) (free.path_type_step na ne) y

  by_argument : (y : Layer o.GenericArgumentOf-F A E) → free.argument na ne (roll-GenericArgumentOf A E y) ≡ free.argument_step na ne (map-GenericArgumentOf A E (GenericParam A E) (TypeParamBound A E) (GenericArgument A E) (PathArguments A E) (TypeTree A E) (TraitBound A E) (TypeParam A E) (AssocType A E) (Constraint A E) (TypeFnPtr A E) (TypePath A E) (GenericParam A E) (TypeParamBound A E) (GenericArgument A E) (PathArguments A E) (TypeTree A E) (TraitBound A E) (TypeParam A E) (AssocType A E) (Constraint A E) (TypeFnPtr A E) (TypePath A E) (free.param na ne) (free.bound na ne) (free.argument na ne) (free.arguments na ne) (free.ty na ne) (free.trait_bound na ne) (free.type_param na ne) (free.assoc_type na ne) (free.constraint na ne) (free.fn_ptr na ne) (free.path_type na ne) y)
  unfolding free.param free.bound free.argument free.arguments free.ty free.trait_bound free.type_param free.assoc_type free.constraint free.fn_ptr free.path_type
  by_argument y = fold-roll-GenericArgumentOf A E (GenericParam A E) (TypeParamBound A E) (GenericArgument A E) (PathArguments A E) (TypeTree A E) (TraitBound A E) (TypeParam A E) (AssocType A E) (Constraint A E) (TypeFnPtr A E) (TypePath A E) (free.param_step na ne) (free.bound_step na ne) (free.argument_step na ne) (free.arguments_step na ne) (free.ty_step na ne) (free.trait_bound_step na ne) (free.type_param_step na ne) (free.assoc_type_step na ne) (free.constraint_step na ne) (free.fn_ptr_step na ne) (free.path_type_step na ne) y

  by_arguments : (y : Layer o.PathArgumentsOf-F A E) → free.arguments na ne (roll-PathArgumentsOf A E y) ≡ free.arguments_step na ne (map-PathArgumentsOf A E (GenericParam A E) (TypeParamBound A E) (GenericArgument A E) (PathArguments A E) (TypeTree A E) (TraitBound A E) (TypeParam A E) (AssocType A E) (Constraint A E) (TypeFnPtr A E) (TypePath A E) (GenericParam A E) (TypeParamBound A E) (GenericArgument A E) (PathArguments A E) (TypeTree A E) (TraitBound A E) (TypeParam A E) (AssocType A E) (Constraint A E) (TypeFnPtr A E) (TypePath A E) (free.param na ne) (free.bound na ne) (free.argument na ne) (free.arguments na ne) (free.ty na ne) (free.trait_bound na ne) (free.type_param na ne) (free.assoc_type na ne) (free.constraint na ne) (free.fn_ptr na ne) (free.path_type na ne) y)
  unfolding free.param free.bound free.argument free.arguments free.ty free.trait_bound free.type_param free.assoc_type free.constraint free.fn_ptr free.path_type
  by_arguments y = fold-roll-PathArgumentsOf A E (GenericParam A E) (TypeParamBound A E) (GenericArgument A E) (PathArguments A E) (TypeTree A E) (TraitBound A E) (TypeParam A E) (AssocType A E) (Constraint A E) (TypeFnPtr A E) (TypePath A E) (free.param_step na ne) (free.bound_step na ne) (free.argument_step na ne) (free.arguments_step na ne) (free.ty_step na ne) (free.trait_bound_step na ne) (free.type_param_step na ne) (free.assoc_type_step na ne) (free.constraint_step na ne) (free.fn_ptr_step na ne) (free.path_type_step na ne) y

  by_ty : (y : Layer o.TypeOf-F A E) → free.ty na ne (roll-TypeOf A E y) ≡ free.ty_step na ne (map-TypeOf A E (GenericParam A E) (TypeParamBound A E) (GenericArgument A E) (PathArguments A E) (TypeTree A E) (TraitBound A E) (TypeParam A E) (AssocType A E) (Constraint A E) (TypeFnPtr A E) (TypePath A E) (GenericParam A E) (TypeParamBound A E) (GenericArgument A E) (PathArguments A E) (TypeTree A E) (TraitBound A E) (TypeParam A E) (AssocType A E) (Constraint A E) (TypeFnPtr A E) (TypePath A E) (free.param na ne) (free.bound na ne) (free.argument na ne) (free.arguments na ne) (free.ty na ne) (free.trait_bound na ne) (free.type_param na ne) (free.assoc_type na ne) (free.constraint na ne) (free.fn_ptr na ne) (free.path_type na ne) y)
  unfolding free.param free.bound free.argument free.arguments free.ty free.trait_bound free.type_param free.assoc_type free.constraint free.fn_ptr free.path_type
  by_ty y = fold-roll-TypeOf A E (GenericParam A E) (TypeParamBound A E) (GenericArgument A E) (PathArguments A E) (TypeTree A E) (TraitBound A E) (TypeParam A E) (AssocType A E) (Constraint A E) (TypeFnPtr A E) (TypePath A E) (free.param_step na ne) (free.bound_step na ne) (free.argument_step na ne) (free.arguments_step na ne) (free.ty_step na ne) (free.trait_bound_step na ne) (free.type_param_step na ne) (free.assoc_type_step na ne) (free.constraint_step na ne) (free.fn_ptr_step na ne) (free.path_type_step na ne) y

  by_trait_bound : (y : Layer o.TraitBoundOf-F A E) → free.trait_bound na ne (roll-TraitBoundOf A E y) ≡ free.trait_bound_step na ne (map-TraitBoundOf A E (GenericParam A E) (TypeParamBound A E) (GenericArgument A E) (PathArguments A E) (TypeTree A E) (TraitBound A E) (TypeParam A E) (AssocType A E) (Constraint A E) (TypeFnPtr A E) (TypePath A E) (GenericParam A E) (TypeParamBound A E) (GenericArgument A E) (PathArguments A E) (TypeTree A E) (TraitBound A E) (TypeParam A E) (AssocType A E) (Constraint A E) (TypeFnPtr A E) (TypePath A E) (free.param na ne) (free.bound na ne) (free.argument na ne) (free.arguments na ne) (free.ty na ne) (free.trait_bound na ne) (free.type_param na ne) (free.assoc_type na ne) (free.constraint na ne) (free.fn_ptr na ne) (free.path_type na ne) y)
  unfolding free.param free.bound free.argument free.arguments free.ty free.trait_bound free.type_param free.assoc_type free.constraint free.fn_ptr free.path_type
  by_trait_bound y = fold-roll-TraitBoundOf A E (GenericParam A E) (TypeParamBound A E) (GenericArgument A E) (PathArguments A E) (TypeTree A E) (TraitBound A E) (TypeParam A E) (AssocType A E) (Constraint A E) (TypeFnPtr A E) (TypePath A E) (free.param_step na ne) (free.bound_step na ne) (free.argument_step na ne) (free.arguments_step na ne) (free.ty_step na ne) (free.trait_bound_step na ne) (free.type_param_step na ne) (free.assoc_type_step na ne) (free.constraint_step na ne) (free.fn_ptr_step na ne) (free.path_type_step na ne) y

  by_type_param : (y : Layer o.TypeParamOf-F A E) → free.type_param na ne (roll-TypeParamOf A E y) ≡ free.type_param_step na ne (map-TypeParamOf A E (GenericParam A E) (TypeParamBound A E) (GenericArgument A E) (PathArguments A E) (TypeTree A E) (TraitBound A E) (TypeParam A E) (AssocType A E) (Constraint A E) (TypeFnPtr A E) (TypePath A E) (GenericParam A E) (TypeParamBound A E) (GenericArgument A E) (PathArguments A E) (TypeTree A E) (TraitBound A E) (TypeParam A E) (AssocType A E) (Constraint A E) (TypeFnPtr A E) (TypePath A E) (free.param na ne) (free.bound na ne) (free.argument na ne) (free.arguments na ne) (free.ty na ne) (free.trait_bound na ne) (free.type_param na ne) (free.assoc_type na ne) (free.constraint na ne) (free.fn_ptr na ne) (free.path_type na ne) y)
  unfolding free.param free.bound free.argument free.arguments free.ty free.trait_bound free.type_param free.assoc_type free.constraint free.fn_ptr free.path_type
  by_type_param y = fold-roll-TypeParamOf A E (GenericParam A E) (TypeParamBound A E) (GenericArgument A E) (PathArguments A E) (TypeTree A E) (TraitBound A E) (TypeParam A E) (AssocType A E) (Constraint A E) (TypeFnPtr A E) (TypePath A E) (free.param_step na ne) (free.bound_step na ne) (free.argument_step na ne) (free.arguments_step na ne) (free.ty_step na ne) (free.trait_bound_step na ne) (free.type_param_step na ne) (free.assoc_type_step na ne) (free.constraint_step na ne) (free.fn_ptr_step na ne) (free.path_type_step na ne) y

  by_assoc_type : (y : Layer o.AssocTypeOf-F A E) → free.assoc_type na ne (roll-AssocTypeOf A E y) ≡ free.assoc_type_step na ne (map-AssocTypeOf A E (GenericParam A E) (TypeParamBound A E) (GenericArgument A E) (PathArguments A E) (TypeTree A E) (TraitBound A E) (TypeParam A E) (AssocType A E) (Constraint A E) (TypeFnPtr A E) (TypePath A E) (GenericParam A E) (TypeParamBound A E) (GenericArgument A E) (PathArguments A E) (TypeTree A E) (TraitBound A E) (TypeParam A E) (AssocType A E) (Constraint A E) (TypeFnPtr A E) (TypePath A E) (free.param na ne) (free.bound na ne) (free.argument na ne) (free.arguments na ne) (free.ty na ne) (free.trait_bound na ne) (free.type_param na ne) (free.assoc_type na ne) (free.constraint na ne) (free.fn_ptr na ne) (free.path_type na ne) y)
  unfolding free.param free.bound free.argument free.arguments free.ty free.trait_bound free.type_param free.assoc_type free.constraint free.fn_ptr free.path_type
  by_assoc_type y = fold-roll-AssocTypeOf A E (GenericParam A E) (TypeParamBound A E) (GenericArgument A E) (PathArguments A E) (TypeTree A E) (TraitBound A E) (TypeParam A E) (AssocType A E) (Constraint A E) (TypeFnPtr A E) (TypePath A E) (free.param_step na ne) (free.bound_step na ne) (free.argument_step na ne) (free.arguments_step na ne) (free.ty_step na ne) (free.trait_bound_step na ne) (free.type_param_step na ne) (free.assoc_type_step na ne) (free.constraint_step na ne) (free.fn_ptr_step na ne) (free.path_type_step na ne) y

  by_constraint : (y : Layer o.ConstraintOf-F A E) → free.constraint na ne (roll-ConstraintOf A E y) ≡ free.constraint_step na ne (map-ConstraintOf A E (GenericParam A E) (TypeParamBound A E) (GenericArgument A E) (PathArguments A E) (TypeTree A E) (TraitBound A E) (TypeParam A E) (AssocType A E) (Constraint A E) (TypeFnPtr A E) (TypePath A E) (GenericParam A E) (TypeParamBound A E) (GenericArgument A E) (PathArguments A E) (TypeTree A E) (TraitBound A E) (TypeParam A E) (AssocType A E) (Constraint A E) (TypeFnPtr A E) (TypePath A E) (free.param na ne) (free.bound na ne) (free.argument na ne) (free.arguments na ne) (free.ty na ne) (free.trait_bound na ne) (free.type_param na ne) (free.assoc_type na ne) (free.constraint na ne) (free.fn_ptr na ne) (free.path_type na ne) y)
  unfolding free.param free.bound free.argument free.arguments free.ty free.trait_bound free.type_param free.assoc_type free.constraint free.fn_ptr free.path_type
  by_constraint y = fold-roll-ConstraintOf A E (GenericParam A E) (TypeParamBound A E) (GenericArgument A E) (PathArguments A E) (TypeTree A E) (TraitBound A E) (TypeParam A E) (AssocType A E) (Constraint A E) (TypeFnPtr A E) (TypePath A E) (free.param_step na ne) (free.bound_step na ne) (free.argument_step na ne) (free.arguments_step na ne) (free.ty_step na ne) (free.trait_bound_step na ne) (free.type_param_step na ne) (free.assoc_type_step na ne) (free.constraint_step na ne) (free.fn_ptr_step na ne) (free.path_type_step na ne) y

  by_fn_ptr : (y : Layer o.TypeFnPtrOf-F A E) → free.fn_ptr na ne (roll-TypeFnPtrOf A E y) ≡ free.fn_ptr_step na ne (map-TypeFnPtrOf A E (GenericParam A E) (TypeParamBound A E) (GenericArgument A E) (PathArguments A E) (TypeTree A E) (TraitBound A E) (TypeParam A E) (AssocType A E) (Constraint A E) (TypeFnPtr A E) (TypePath A E) (GenericParam A E) (TypeParamBound A E) (GenericArgument A E) (PathArguments A E) (TypeTree A E) (TraitBound A E) (TypeParam A E) (AssocType A E) (Constraint A E) (TypeFnPtr A E) (TypePath A E) (free.param na ne) (free.bound na ne) (free.argument na ne) (free.arguments na ne) (free.ty na ne) (free.trait_bound na ne) (free.type_param na ne) (free.assoc_type na ne) (free.constraint na ne) (free.fn_ptr na ne) (free.path_type na ne) y)
  unfolding free.param free.bound free.argument free.arguments free.ty free.trait_bound free.type_param free.assoc_type free.constraint free.fn_ptr free.path_type
  by_fn_ptr y = fold-roll-TypeFnPtrOf A E (GenericParam A E) (TypeParamBound A E) (GenericArgument A E) (PathArguments A E) (TypeTree A E) (TraitBound A E) (TypeParam A E) (AssocType A E) (Constraint A E) (TypeFnPtr A E) (TypePath A E) (free.param_step na ne) (free.bound_step na ne) (free.argument_step na ne) (free.arguments_step na ne) (free.ty_step na ne) (free.trait_bound_step na ne) (free.type_param_step na ne) (free.assoc_type_step na ne) (free.constraint_step na ne) (free.fn_ptr_step na ne) (free.path_type_step na ne) y

  by_path_type : (y : Layer o.TypePathOf-F A E) → free.path_type na ne (roll-TypePathOf A E y) ≡ free.path_type_step na ne (map-TypePathOf A E (GenericParam A E) (TypeParamBound A E) (GenericArgument A E) (PathArguments A E) (TypeTree A E) (TraitBound A E) (TypeParam A E) (AssocType A E) (Constraint A E) (TypeFnPtr A E) (TypePath A E) (GenericParam A E) (TypeParamBound A E) (GenericArgument A E) (PathArguments A E) (TypeTree A E) (TraitBound A E) (TypeParam A E) (AssocType A E) (Constraint A E) (TypeFnPtr A E) (TypePath A E) (free.param na ne) (free.bound na ne) (free.argument na ne) (free.arguments na ne) (free.ty na ne) (free.trait_bound na ne) (free.type_param na ne) (free.assoc_type na ne) (free.constraint na ne) (free.fn_ptr na ne) (free.path_type na ne) y)
  unfolding free.param free.bound free.argument free.arguments free.ty free.trait_bound free.type_param free.assoc_type free.constraint free.fn_ptr free.path_type
  by_path_type y = fold-roll-TypePathOf A E (GenericParam A E) (TypeParamBound A E) (GenericArgument A E) (PathArguments A E) (TypeTree A E) (TraitBound A E) (TypeParam A E) (AssocType A E) (Constraint A E) (TypeFnPtr A E) (TypePath A E) (free.param_step na ne) (free.bound_step na ne) (free.argument_step na ne) (free.arguments_step na ne) (free.ty_step na ne) (free.trait_bound_step na ne) (free.type_param_step na ne) (free.assoc_type_step na ne) (free.constraint_step na ne) (free.fn_ptr_step na ne) (free.path_type_step na ne) y

  pub free-Array : (x : TypeArray A E) → free.ty na ne (v.Array x) ≡ v.Array (free.array na ne x)
  free-Array x = ap (free.ty na ne) (sym (v.rolls-Array x)) ∙ by_ty (o.Array x)

  pub free-FnPtr : (x : TypeFnPtr A E) → free.ty na ne (v.FnPtr x) ≡ v.FnPtr (free.fn_ptr na ne x)
  free-FnPtr x = ap (free.ty na ne) (sym (v.rolls-FnPtr x)) ∙ by_ty (o.FnPtr x)

  pub free-ImplTrait : (x : TypeImplTrait A E) → free.ty na ne (v.ImplTrait x) ≡ v.ImplTrait (free.impl_trait na ne x)
  free-ImplTrait x = ap (free.ty na ne) (sym (v.rolls-ImplTrait x)) ∙ by_ty (o.ImplTrait x)

  pub free-Infer : (x : TypeInferOf A) → free.ty na ne (v.Infer x) ≡ v.Infer (free.infer na ne x)
  free-Infer x = ap (free.ty na ne) (sym (v.rolls-Infer x)) ∙ by_ty (o.Infer x)

  pub free-Macro : (x : TypeMacroOf A) → free.ty na ne (v.Macro x) ≡ v.Macro (free.macro_type na ne x)
  free-Macro x = ap (free.ty na ne) (sym (v.rolls-Macro x)) ∙ by_ty (o.Macro x)

  pub free-Never : (x : TypeNeverOf A) → free.ty na ne (v.Never x) ≡ v.Never (free.never na ne x)
  free-Never x = ap (free.ty na ne) (sym (v.rolls-Never x)) ∙ by_ty (o.Never x)

  pub free-Paren : (x : TypeParen A E) → free.ty na ne (v.Paren x) ≡ v.Paren (free.paren na ne x)
  free-Paren x = ap (free.ty na ne) (sym (v.rolls-Paren x)) ∙ by_ty (o.Paren x)

  pub free-Path : (x : TypePath A E) → free.ty na ne (v.Path x) ≡ v.Path (free.path_type na ne x)
  free-Path x = ap (free.ty na ne) (sym (v.rolls-Path x)) ∙ by_ty (o.Path x)

  pub free-Ptr : (x : TypePtr A E) → free.ty na ne (v.Ptr x) ≡ v.Ptr (free.ptr na ne x)
  free-Ptr x = ap (free.ty na ne) (sym (v.rolls-Ptr x)) ∙ by_ty (o.Ptr x)

  pub free-Reference : (x : TypeReference A E) → free.ty na ne (v.Reference x) ≡ v.Reference (free.reference na ne x)
  free-Reference x = ap (free.ty na ne) (sym (v.rolls-Reference x)) ∙ by_ty (o.Reference x)

  pub free-Slice : (x : TypeSlice A E) → free.ty na ne (v.Slice x) ≡ v.Slice (free.slice na ne x)
  free-Slice x = ap (free.ty na ne) (sym (v.rolls-Slice x)) ∙ by_ty (o.Slice x)

  pub free-TraitObject : (x : TypeTraitObject A E) → free.ty na ne (v.TraitObject x) ≡ v.TraitObject (free.trait_object na ne x)
  free-TraitObject x = ap (free.ty na ne) (sym (v.rolls-TraitObject x)) ∙ by_ty (o.TraitObject x)

  pub free-Tuple : (x : TypeTuple A E) → free.ty na ne (v.Tuple x) ≡ v.Tuple (free.tuple na ne x)
  free-Tuple x = ap (free.ty na ne) (sym (v.rolls-Tuple x)) ∙ by_ty (o.Tuple x)

  pub free-Verbatim : (x : TokenStream) → free.ty na ne (v.Verbatim x) ≡ v.Verbatim (bare_stream x)
  free-Verbatim x = ap (free.ty na ne) (sym (v.rolls-Verbatim x)) ∙ by_ty (o.TypeOf::Verbatim x)

  -- ---- forms that lead back through two trees

  typed_map : (l : List (NamedArg A E)) → map (free.named_arg_by na ne (free.within na ne)) (map (λ (z : NamedArg A E). named_arg_of z.attrs z.name (free.ty na ne z.ty)) l) ≡ map (free.named_arg na ne) l
  typed_map [] = refl
  typed_map (x ∷ l) = ap (λ z. free.named_arg na ne x ∷ z) (typed_map l)

  segments_map : (l : List (PathSegment A E)) → map (paths.segment (free.within na ne)) (map (λ (z : PathSegment A E). record { ident = z.ident; arguments = free.arguments na ne z.arguments }) l) ≡ map (free.segment na ne) l
  segments_map [] = refl
  segments_map (x ∷ l) = ap (λ z. free.segment na ne x ∷ z) (segments_map l)

  pub free-path-type : (l : List A) (q : Option (QSelf A E)) (z : Path A E) → free.path_type na ne (qualified_with l q z) ≡ qualified_with (na l) (option_map (free.qself na ne) q) (free.path na ne z)
  free-path-type l None z = by_path_type (record { attrs = l; qself = None; path = z }) ∙ ap (λ t. qualified_with (na l) None (path_of (option_map tokens.mark z.leading_colon) (t, map tokens.mark z.segments.1))) (segments_map z.segments.0)
  free-path-type l (Some q) z = by_path_type (record { attrs = l; qself = Some q; path = z }) ∙ ap (λ t. qualified_with (na l) (Some (free.qself na ne q)) (path_of (option_map tokens.mark z.leading_colon) (t, map tokens.mark z.segments.1))) (segments_map z.segments.0)

  pub free-fn-ptr : (b : List A) (l : Option (BoundLifetimes A E)) (u : Option token.Unsafe) (a : Option Abi) (w : token.Fn) (t : Paren) (k : Many (NamedArg A E) Comma) (m : Option (FnPtrVariadicOf A)) (q : ReturnType A E) →
      free.fn_ptr na ne (fn_ptr_with b l u a w t k m q) ≡
      fn_ptr_with (na b) (option_map (free.bound_lifetimes na ne) l) (option_map tokens.word u) (option_map free.abi a) (tokens.word w) (tokens.paren t) (tokens.many (free.named_arg na ne) tokens.mark k) (option_map (free.variadic na ne) m) (free.return_type na ne q)
  free-fn-ptr b None u a w t k m r.Default =
      by_fn_ptr (record { attrs = b; lifetimes = None; unsafety = u; abi = a; fn_token = w; paren_token = t; inputs = k; variadic = m; output = r.Default })
      ∙ ap (λ z. fn_ptr_with (na b) None (option_map tokens.word u) (option_map free.abi a) (tokens.word w) (tokens.paren t) (z, map tokens.mark k.1) (option_map (free.variadic na ne) m) r.Default) (typed_map k.0)
  free-fn-ptr b None u a w t k m (r.«Type» h x) =
      by_fn_ptr (record { attrs = b; lifetimes = None; unsafety = u; abi = a; fn_token = w; paren_token = t; inputs = k; variadic = m; output = r.«Type» h x })
      ∙ ap (λ z. fn_ptr_with (na b) None (option_map tokens.word u) (option_map free.abi a) (tokens.word w) (tokens.paren t) (z, map tokens.mark k.1) (option_map (free.variadic na ne) m) (free.return_type na ne (r.«Type» h x))) (typed_map k.0)
  free-fn-ptr b (Some l) u a w t k m r.Default =
      by_fn_ptr (record { attrs = b; lifetimes = Some l; unsafety = u; abi = a; fn_token = w; paren_token = t; inputs = k; variadic = m; output = r.Default })
      ∙ ap (λ z. fn_ptr_with (na b) (Some (free.bound_lifetimes na ne l)) (option_map tokens.word u) (option_map free.abi a) (tokens.word w) (tokens.paren t) (z, map tokens.mark k.1) (option_map (free.variadic na ne) m) r.Default) (typed_map k.0)
  free-fn-ptr b (Some l) u a w t k m (r.«Type» h x) =
      by_fn_ptr (record { attrs = b; lifetimes = Some l; unsafety = u; abi = a; fn_token = w; paren_token = t; inputs = k; variadic = m; output = r.«Type» h x })
      ∙ ap (λ z. fn_ptr_with (na b) (Some (free.bound_lifetimes na ne l)) (option_map tokens.word u) (option_map free.abi a) (tokens.word w) (tokens.paren t) (z, map tokens.mark k.1) (option_map (free.variadic na ne) m) (free.return_type na ne (r.«Type» h x))) (typed_map k.0)

  -- ---- parameters and bounds

  pub free-lifetime-param : (x : LifetimeParamOf A) → free.param na ne (g.Lifetime x) ≡ g.Lifetime (free.lifetime_param na ne x)
  free-lifetime-param x = ap (free.param na ne) (sym (g.rolls-Lifetime x)) ∙ by_param (o.GenericParamOf::Lifetime x)

  pub free-named-param : (x : TypeParam A E) → free.param na ne (g.«Type» x) ≡ g.«Type» (free.type_param na ne x)
  free-named-param x = ap (free.param na ne) (sym (g.rolls-Type x)) ∙ by_param (o.GenericParamOf::Type x)

  pub free-constant-param : (x : ConstParam A E) → free.param na ne (g.Const x) ≡ g.Const (free.const_param na ne x)
  free-constant-param x = ap (free.param na ne) (sym (g.rolls-Const x)) ∙ by_param (o.GenericParamOf::Const x)

  pub free-type-param : (a : List A) (i : Ident) (c : Option Colon) (l : Many (TypeParamBound A E) Plus) (d : Option (Eq × TypeTree A E)) →
      free.type_param na ne (type_param_of a i c l d) ≡ type_param_of (na a) (tokens.ident i) (option_map tokens.mark c) (tokens.many (free.bound na ne) tokens.mark l) (option_map (free.given (free.ty na ne)) d)
  free-type-param a i c l None = by_type_param (record { attrs = a; ident = i; colon_token = c; bounds = l; default = None })
  free-type-param a i c l (Some d) = by_type_param (record { attrs = a; ident = i; colon_token = c; bounds = l; default = Some d })

  pub free-trait : (x : TraitBound A E) → free.bound na ne (b.Trait x) ≡ b.Trait (free.trait_bound na ne x)
  free-trait x = ap (free.bound na ne) (sym (b.rolls-Trait x)) ∙ by_bound (o.Trait x)

  pub free-lifetime-bound : (x : Lifetime) → free.bound na ne (b.Lifetime x) ≡ b.Lifetime (tokens.lifetime x)
  free-lifetime-bound x = ap (free.bound na ne) (sym (b.rolls-Lifetime x)) ∙ by_bound (o.TypeParamBoundOf::Lifetime x)

  pub free-verbatim-bound : (x : TokenStream) → free.bound na ne (b.Verbatim x) ≡ b.Verbatim (bare_stream x)
  free-verbatim-bound x = ap (free.bound na ne) (sym (b.rolls-Verbatim x)) ∙ by_bound (o.TypeParamBoundOf::Verbatim x)

  pub free-capture : (x : PreciseCapture) → free.bound na ne (b.PreciseCapture x) ≡ b.PreciseCapture (free.capture x)
  free-capture x = ap (free.bound na ne) (sym (b.rolls-PreciseCapture x)) ∙ by_bound (o.PreciseCapture x)

  pub free-trait-bound : (t : Option Paren) (l : Option (BoundLifetimes A E)) (m : TraitBoundModifiers) (q : Option token.Question) (z : Path A E) →
      free.trait_bound na ne (trait_bound_of t l m q z) ≡ trait_bound_of (option_map tokens.paren t) (option_map (free.bound_lifetimes na ne) l) (free.modifiers m) (option_map tokens.mark q) (free.path na ne z)
  free-trait-bound t None m q z =
      by_trait_bound (record { paren_token = t; lifetimes = None; modifiers = m; maybe = q; path = z })
      ∙ ap (λ y. trait_bound_of (option_map tokens.paren t) None (free.modifiers m) (option_map tokens.mark q) (path_of (option_map tokens.mark z.leading_colon) (y, map tokens.mark z.segments.1))) (segments_map z.segments.0)
  free-trait-bound t (Some l) m q z =
      by_trait_bound (record { paren_token = t; lifetimes = Some l; modifiers = m; maybe = q; path = z })
      ∙ ap (λ y. trait_bound_of (option_map tokens.paren t) (Some (free.bound_lifetimes na ne l)) (free.modifiers m) (option_map tokens.mark q) (path_of (option_map tokens.mark z.leading_colon) (y, map tokens.mark z.segments.1))) (segments_map z.segments.0)

  -- whether a bound names a trait stays
  trait_kept_layer : (y : Layer o.TypeParamBoundOf-F A E) → is_trait (free.bound na ne (roll-TypeParamBoundOf A E y)) ≡ is_trait (roll-TypeParamBoundOf A E y)
  trait_kept_layer (o.Trait x) =
      ap (λ z. is_trait (free.bound na ne z)) (b.rolls-Trait x) ∙ ap is_trait (free-trait x) ∙ ap trait_layer (b.outs-Trait (free.trait_bound na ne x)) ∙ sym (ap trait_layer (b.outs-Trait x)) ∙ ap is_trait (sym (b.rolls-Trait x))
  trait_kept_layer (o.TypeParamBoundOf::Lifetime x) =
      ap (λ z. is_trait (free.bound na ne z)) (b.rolls-Lifetime x) ∙ ap is_trait (free-lifetime-bound x) ∙ ap trait_layer (b.outs-Lifetime (tokens.lifetime x)) ∙ sym (ap trait_layer (b.outs-Lifetime x)) ∙ ap is_trait (sym (b.rolls-Lifetime x))
  trait_kept_layer (o.PreciseCapture x) =
      ap (λ z. is_trait (free.bound na ne z)) (b.rolls-PreciseCapture x) ∙ ap is_trait (free-capture x) ∙ ap trait_layer (b.outs-PreciseCapture (free.capture x)) ∙ sym (ap trait_layer (b.outs-PreciseCapture x)) ∙ ap is_trait (sym (b.rolls-PreciseCapture x))
  trait_kept_layer (o.TypeParamBoundOf::Verbatim x) =
      ap (λ z. is_trait (free.bound na ne z)) (b.rolls-Verbatim x) ∙ ap is_trait (free-verbatim-bound x) ∙ ap trait_layer (b.outs-Verbatim (bare_stream x)) ∙ sym (ap trait_layer (b.outs-Verbatim x)) ∙ ap is_trait (sym (b.rolls-Verbatim x))

  pub trait_kept : (x : TypeParamBound A E) → is_trait (free.bound na ne x) ≡ is_trait x
  trait_kept x = subst (λ z. is_trait (free.bound na ne z) ≡ is_trait z) (roll-out-TypeParamBoundOf A E x) (trait_kept_layer (out-TypeParamBoundOf A E x))

  -- ---- arguments of paths

  pub free-none : free.arguments na ne a.None ≡ a.None
  free-none = ap (free.arguments na ne) (sym a.rolls-None) ∙ by_arguments o.None

  pub free-angle : (x : AngleBracketed A E) → free.arguments na ne (a.AngleBracketed x) ≡ a.AngleBracketed (free.angle na ne x)
  free-angle x = ap (free.arguments na ne) (sym (a.rolls-AngleBracketed x)) ∙ by_arguments (o.AngleBracketed x)

  pub free-parens : (t : Paren) (k : Many (NamedArg A E) Comma) (q : ReturnType A E) → free.arguments na ne (a.Parenthesized (parens_of t k q)) ≡ a.Parenthesized (free.parenthesized na ne (parens_of t k q))
  free-parens t k r.Default =
      let x = parens_of t k r.Default in
      ap (free.arguments na ne) (sym (a.rolls-Parenthesized x)) ∙ by_arguments (o.Parenthesized x) ∙ ap (λ z. a.Parenthesized (parens_of (tokens.paren t) (z, map tokens.mark k.1) r.Default)) (typed_map k.0)
  free-parens t k (r.«Type» h y) =
      let x = parens_of t k (r.«Type» h y) in
      ap (free.arguments na ne) (sym (a.rolls-Parenthesized x)) ∙ by_arguments (o.Parenthesized x) ∙ ap (λ z. a.Parenthesized (parens_of (tokens.paren t) (z, map tokens.mark k.1) (free.return_type na ne (r.«Type» h y)))) (typed_map k.0)

  pub free-lifetime-argument : (x : Lifetime) → free.argument na ne (k.Lifetime x) ≡ k.Lifetime (tokens.lifetime x)
  free-lifetime-argument x = ap (free.argument na ne) (sym (k.rolls-Lifetime x)) ∙ by_argument (o.GenericArgumentOf::Lifetime x)

  pub free-type-argument : (x : TypeTree A E) → free.argument na ne (k.«Type» x) ≡ k.«Type» (free.ty na ne x)
  free-type-argument x = ap (free.argument na ne) (sym (k.rolls-Type x)) ∙ by_argument (o.GenericArgumentOf::Type x)

  pub free-const-argument : (x : E) → free.argument na ne (k.Const x) ≡ k.Const (ne x)
  free-const-argument x = ap (free.argument na ne) (sym (k.rolls-Const x)) ∙ by_argument (o.GenericArgumentOf::Const x)

  pub free-assoc-type : (i : Ident) (q : Option (AngleBracketed A E)) (e : token.Equals) (t : TypeTree A E) →
      free.argument na ne (k.AssocType (assoc_type_of i q e t)) ≡ k.AssocType (assoc_type_of (tokens.ident i) (option_map (free.angle na ne) q) (tokens.mark e) (free.ty na ne t))
  free-assoc-type i None e t =
      let x = assoc_type_of i None e t in
      ap (free.argument na ne) (sym (k.rolls-AssocType x)) ∙ by_argument (o.AssocType x) ∙ ap k.AssocType (by_assoc_type (record { ident = i; generics = None; eq_token = e; ty = t }))
  free-assoc-type i (Some l) e t =
      let x = assoc_type_of i (Some l) e t in
      ap (free.argument na ne) (sym (k.rolls-AssocType x)) ∙ by_argument (o.AssocType x) ∙ ap k.AssocType (by_assoc_type (record { ident = i; generics = Some l; eq_token = e; ty = t }))

  pub free-assoc-const : (i : Ident) (q : Option (AngleBracketed A E)) (e : token.Equals) (t : E) →
      free.argument na ne (k.AssocConst (assoc_const_of i q e t)) ≡ k.AssocConst (assoc_const_of (tokens.ident i) (option_map (free.angle na ne) q) (tokens.mark e) (ne t))
  free-assoc-const i None e t = let x = assoc_const_of i None e t in ap (free.argument na ne) (sym (k.rolls-AssocConst x)) ∙ by_argument (o.AssocConst x)
  free-assoc-const i (Some l) e t = let x = assoc_const_of i (Some l) e t in ap (free.argument na ne) (sym (k.rolls-AssocConst x)) ∙ by_argument (o.AssocConst x)

  pub free-constraint : (i : Ident) (q : Option (AngleBracketed A E)) (c : Colon) (l : Many (TypeParamBound A E) Plus) →
      free.argument na ne (k.Constraint (constraint_of i q c l)) ≡ k.Constraint (constraint_of (tokens.ident i) (option_map (free.angle na ne) q) (tokens.mark c) (tokens.many (free.bound na ne) tokens.mark l))
  free-constraint i None c l =
      let x = constraint_of i None c l in
      ap (free.argument na ne) (sym (k.rolls-Constraint x)) ∙ by_argument (o.Constraint x) ∙ ap k.Constraint (by_constraint (record { ident = i; generics = None; colon_token = c; bounds = l }))
  free-constraint i (Some z) c l =
      let x = constraint_of i (Some z) c l in
      ap (free.argument na ne) (sym (k.rolls-Constraint x)) ∙ by_argument (o.Constraint x) ∙ ap k.Constraint (by_constraint (record { ident = i; generics = Some z; colon_token = c; bounds = l }))
