-- Types, arguments of paths, parameters and bounds without their spans, by what attributes and expressions are without theirs.
use Rattle.std.specs.Prelude.{ℕ, List, map, option_map}
use Rattle.token_core.specs.Loops.{Many}
use Rattle.token_core.specs.Same.{bare_stream}
use Rattle.token_core.specs.declared.tree.Ident.{Ident}
use Rattle.token_core.specs.declared.mark.Mark.{Mark}
use Rattle.syn_forms.specs.declared.tokens.PointerMutability.{PointerMutability}
use Rattle.syn_forms.specs.declared.tokens.PointerMutability.TheVariants as u
use Rattle.syn_ty.specs.declared.generics.BoundConst.{BoundConst}
use Rattle.syn_ty.specs.declared.generics.BoundConst.TheVariants as c
use Rattle.syn_ty.specs.declared.generics.BoundLifetimesOf.{BoundLifetimesOf}
use Rattle.syn_ty.specs.declared.generics.CapturedParam.{CapturedParam}
use Rattle.syn_ty.specs.declared.generics.CapturedParam.TheVariants as captures
use Rattle.syn_ty.specs.declared.generics.GenericParamOf.TheFolds.{fold-GenericParamOf, fold-TypeParamBoundOf, fold-GenericArgumentOf, fold-PathArgumentsOf, fold-TypeOf, fold-TraitBoundOf, fold-TypeParamOf, fold-AssocTypeOf, fold-ConstraintOf, fold-TypeFnPtrOf, fold-TypePathOf}
use Rattle.syn_ty.specs.declared.generics.GenericParamOf.TheOpen as o
use Rattle.syn_ty.specs.declared.generics.GenericParamOf.TheVariants as g
use Rattle.syn_ty.specs.declared.generics.LifetimeParamOf.{LifetimeParamOf}
use Rattle.syn_ty.specs.declared.generics.PreciseCapture.{PreciseCapture}
use Rattle.syn_ty.specs.declared.generics.TraitBoundModifiers.{TraitBoundModifiers}
use Rattle.syn_ty.specs.declared.generics.TypeParamBoundOf.TheVariants as b
use Rattle.syn_ty.specs.declared.path.AngleBracketedGenericArgumentsOf.{AngleBracketedGenericArgumentsOf}
use Rattle.syn_ty.specs.declared.path.GenericArgumentOf.TheVariants as k
use Rattle.syn_ty.specs.declared.path.PathArgumentsOf.TheVariants as a
use Rattle.syn_ty.specs.declared.ty.Abi.{Abi}
use Rattle.syn_ty.specs.declared.ty.FnPtrVariadicOf.{FnPtrVariadicOf}
use Rattle.syn_ty.specs.declared.ty.NamedArgOf.{NamedArgOf}
use Rattle.syn_ty.specs.declared.ty.ReturnTypeOf.{ReturnTypeOf}
use Rattle.syn_ty.specs.declared.ty.ReturnTypeOf.TheVariants as r
use Rattle.syn_ty.specs.declared.ty.TypeInferOf.{TypeInferOf}
use Rattle.syn_ty.specs.declared.ty.TypeMacroOf.{TypeMacroOf}
use Rattle.syn_ty.specs.declared.ty.TypeNeverOf.{TypeNeverOf}
use Rattle.syn_ty.specs.declared.ty.TypeOf.TheVariants as v
use Rattle.syn_path.specs.declared.path.QSelfOf.{QSelfOf}
use Rattle.syn_ty.specs.generics.Modifiers.{modifiers_of}
use Rattle.syn_ty.specs.generics.Params.{bound_lifetimes_of, capture_of, const_param_of, lifetime_param_of, trait_bound_of, type_param_of}
use Rattle.syn_ty.specs.path.Paths.{angle_of, parens_of, assoc_type_of, assoc_const_of, constraint_of}
use Rattle.syn_ty.specs.ty.Trees.{Layer, GenericParam, TypeParam, ConstParam, BoundLifetimes, TypeParamBound, TraitBound, PathArguments, Path, PathSegment, GenericArgument, AngleBracketed, AssocType, Constraint, Parenthesized, TypeTree, QSelf, TypeArray, TypeFnPtr, TypeGroup, TypeImplTrait, TypeParen, TypePath, TypePtr, TypeReference, TypeSlice, TypeTraitObject, TypeTuple, NamedArg, ReturnType}
use Rattle.syn_ty.specs.ty.Types.{array_with, fn_ptr_with, group_with, impl_trait_with, infer_with, macro_type_with, named_arg_of, never_with, paren_with, ptr_with, qself_of, qualified_with, reference_with, slice_with, trait_object_with, tuple_with, variadic_of}
use Rattle.syn_path.specs.aside.Paths as paths
use Rattle.syn_path.specs.aside.Paths.{mac}
use Rattle.syn_path.specs.aside.Tokens.{ident, mark, word, lifetime, str, paren as paren_token, bracket, group_token, many}

-- ---- what holds no type

abbrev pub mutability : PointerMutability → PointerMutability
mutability (u.Const w) = u.Const (word w)
mutability (u.Mut w) = u.Mut (word w)

abbrev pub abi : Abi → Abi
abi x = record { extern_token = word x.extern_token; name = option_map str x.name }

abbrev pub constness : BoundConst → BoundConst
constness (c.Const w) = c.Const (word w)
constness (c.Conditional t w) = c.Conditional (bracket t) (word w)

abbrev pub modifiers : TraitBoundModifiers → TraitBoundModifiers
modifiers x = modifiers_of (option_map constness x.constness) (option_map word x.asyncness)

abbrev pub captured : CapturedParam → CapturedParam
captured (captures.Lifetime x) = captures.Lifetime (lifetime x)
captured (captures.Ident i) = captures.Ident (ident i)

abbrev pub capture : PreciseCapture → PreciseCapture
capture x = capture_of (word x.use_token) (mark x.lt_token) (many captured mark x.params) (mark x.gt_token)

-- the name of an argument, and a value after `=`
abbrev pub name : {n k : ℕ} → Ident × Mark n k → Ident × Mark n k
name x = (ident x.0, mark x.1)

abbrev pub given : {n k : ℕ} {T : Type 0} → (T → T) → Mark n k × T → Mark n k × T
given f x = (mark x.0, f x.1)

-- ---- over what attributes and expressions are without their spans

module _ {A E : Type 0} (attrs : List A → List A) (value : E → E) where
  -- parts whose trees are so
  abbrev pub named_arg_by : {T : Type 0} → (T → T) → NamedArgOf T A → NamedArgOf T A
  named_arg_by f x = named_arg_of (attrs x.attrs) (option_map name x.name) (f x.ty)

  abbrev pub variadic : FnPtrVariadicOf A → FnPtrVariadicOf A
  variadic x = variadic_of (attrs x.attrs) (option_map name x.name) (mark x.dots) (option_map mark x.comma)

  abbrev pub infer : TypeInferOf A → TypeInferOf A
  infer x = infer_with (attrs x.attrs) (word x.underscore_token)

  abbrev pub macro_type : TypeMacroOf A → TypeMacroOf A
  macro_type x = macro_type_with (attrs x.attrs) (mac x.mac)

  abbrev pub never : TypeNeverOf A → TypeNeverOf A
  never x = never_with (attrs x.attrs) (mark x.bang_token)

  abbrev pub lifetime_param : LifetimeParamOf A → LifetimeParamOf A
  lifetime_param x = lifetime_param_of (attrs x.attrs) (lifetime x.lifetime) (option_map mark x.colon_token) (many lifetime mark x.bounds)

  abbrev pub qself_by : {T : Type 0} → (T → T) → QSelfOf T → QSelfOf T
  qself_by f x = qself_of (mark x.lt_token) (f x.ty) x.position (option_map word x.as_token) (mark x.gt_token)

  abbrev pub return_by : {T : Type 0} → (T → T) → ReturnTypeOf T → ReturnTypeOf T
  return_by f r.Default = r.Default
  return_by f (r.«Type» a x) = r.«Type» (mark a) (f x)

  abbrev pub angle_by : {G : Type 0} → (G → G) → AngleBracketedGenericArgumentsOf G → AngleBracketedGenericArgumentsOf G
  angle_by f x = angle_of (option_map mark x.colon2_token) (mark x.lt_token) (many f mark x.args) (mark x.gt_token)

  abbrev pub binder_by : {G : Type 0} → (G → G) → BoundLifetimesOf G → BoundLifetimesOf G
  binder_by f x = bound_lifetimes_of (word x.for_token) (mark x.lt_token) (many f mark x.lifetimes) (mark x.gt_token)

  -- the same of a layer, whose trees within are so already
  abbrev pub within : {T : Type 0} → T → T
  within x = x

  abbrev pub joined : {T P : Type 0} → (P → P) → Many T P → Many T P
  joined f v = (v.0, map f v.1)

  abbrev pub angle_layer : {G : Type 0} → AngleBracketedGenericArgumentsOf G → AngleBracketedGenericArgumentsOf G
  angle_layer x = angle_of (option_map mark x.colon2_token) (mark x.lt_token) (joined mark x.args) (mark x.gt_token)

  abbrev pub binder_layer : {G : Type 0} → BoundLifetimesOf G → BoundLifetimesOf G
  binder_layer x = bound_lifetimes_of (word x.for_token) (mark x.lt_token) (joined mark x.lifetimes) (mark x.gt_token)

  -- one layer of a tree whose trees within are without their spans
  abbrev pub ty_step : Layer o.TypeOf-F A E → TypeTree A E
  ty_step (o.Array x) = v.Array (array_with (attrs x.attrs) (bracket x.bracket_token) x.elem (mark x.semi_token) (value x.len))
  ty_step (o.FnPtr x) = v.FnPtr x
  ty_step (o.Group x) = v.Group (group_with (attrs x.attrs) (group_token x.group_token) x.elem)
  ty_step (o.ImplTrait x) = v.ImplTrait (impl_trait_with (attrs x.attrs) (word x.impl_token) (joined mark x.bounds))
  ty_step (o.Infer x) = v.Infer (infer_with (attrs x.attrs) (word x.underscore_token))
  ty_step (o.Macro x) = v.Macro (macro_type_with (attrs x.attrs) (mac x.mac))
  ty_step (o.Never x) = v.Never (never_with (attrs x.attrs) (mark x.bang_token))
  ty_step (o.Paren x) = v.Paren (paren_with (attrs x.attrs) (paren_token x.paren_token) x.elem)
  ty_step (o.Path x) = v.Path x
  ty_step (o.Ptr x) = v.Ptr (ptr_with (attrs x.attrs) (mark x.star_token) (mutability x.mutability) x.elem)
  ty_step (o.Reference x) = v.Reference (reference_with (attrs x.attrs) (mark x.and_token) (option_map lifetime x.lifetime) (option_map word x.mutability) x.elem)
  ty_step (o.Slice x) = v.Slice (slice_with (attrs x.attrs) (bracket x.bracket_token) x.elem)
  ty_step (o.TraitObject x) = v.TraitObject (trait_object_with (attrs x.attrs) (option_map word x.dyn_token) (joined mark x.bounds))
  ty_step (o.Tuple x) = v.Tuple (tuple_with (attrs x.attrs) (paren_token x.paren_token) (joined mark x.elems))
  ty_step (o.TypeOf::Verbatim x) = v.Verbatim (bare_stream x)

  abbrev pub fn_ptr_step : Layer o.TypeFnPtrOf-F A E → TypeFnPtr A E
  fn_ptr_step x =
      fn_ptr_with (attrs x.attrs) (option_map binder_layer x.lifetimes) (option_map word x.unsafety) (option_map abi x.abi) (word x.fn_token) (paren_token x.paren_token) (many (named_arg_by within) mark x.inputs)
      (option_map variadic x.variadic) (return_by within x.output)

  abbrev pub path_type_step : Layer o.TypePathOf-F A E → TypePath A E
  path_type_step x = qualified_with (attrs x.attrs) (option_map (qself_by within) x.qself) (paths.path within x.path)

  abbrev pub param_step : Layer o.GenericParamOf-F A E → GenericParam A E
  param_step (o.GenericParamOf::Lifetime x) = g.Lifetime (lifetime_param x)
  param_step (o.GenericParamOf::Type x) = g.«Type» x
  param_step (o.GenericParamOf::Const x) = g.Const (const_param_of (attrs x.attrs) (word x.const_token) (ident x.ident) (mark x.colon_token) x.ty (option_map (given value) x.default))

  abbrev pub type_param_step : Layer o.TypeParamOf-F A E → TypeParam A E
  type_param_step x = type_param_of (attrs x.attrs) (ident x.ident) (option_map mark x.colon_token) (joined mark x.bounds) (option_map (given within) x.default)

  abbrev pub bound_step : Layer o.TypeParamBoundOf-F A E → TypeParamBound A E
  bound_step (o.Trait x) = b.Trait x
  bound_step (o.TypeParamBoundOf::Lifetime x) = b.Lifetime (lifetime x)
  bound_step (o.PreciseCapture x) = b.PreciseCapture (capture x)
  bound_step (o.TypeParamBoundOf::Verbatim x) = b.Verbatim (bare_stream x)

  abbrev pub trait_bound_step : Layer o.TraitBoundOf-F A E → TraitBound A E
  trait_bound_step x = trait_bound_of (option_map paren_token x.paren_token) (option_map binder_layer x.lifetimes) (modifiers x.modifiers) (option_map mark x.maybe) (paths.path within x.path)

  abbrev pub arguments_step : Layer o.PathArgumentsOf-F A E → PathArguments A E
  arguments_step o.None = a.None
  arguments_step (o.AngleBracketed x) = a.AngleBracketed (angle_layer x)
  arguments_step (o.Parenthesized x) = a.Parenthesized (parens_of (paren_token x.paren_token) (many (named_arg_by within) mark x.inputs) (return_by within x.output))

  abbrev pub argument_step : Layer o.GenericArgumentOf-F A E → GenericArgument A E
  argument_step (o.GenericArgumentOf::Lifetime x) = k.Lifetime (lifetime x)
  argument_step (o.GenericArgumentOf::Type x) = k.«Type» x
  argument_step (o.GenericArgumentOf::Const x) = k.Const (value x)
  argument_step (o.AssocType x) = k.AssocType x
  argument_step (o.AssocConst x) = k.AssocConst (assoc_const_of (ident x.ident) (option_map angle_layer x.generics) (mark x.eq_token) (value x.value))
  argument_step (o.Constraint x) = k.Constraint x

  abbrev pub assoc_type_step : Layer o.AssocTypeOf-F A E → AssocType A E
  assoc_type_step x = assoc_type_of (ident x.ident) (option_map angle_layer x.generics) (mark x.eq_token) x.ty

  abbrev pub constraint_step : Layer o.ConstraintOf-F A E → Constraint A E
  constraint_step x = constraint_of (ident x.ident) (option_map angle_layer x.generics) (mark x.colon_token) (joined mark x.bounds)

  unfoldable pub param : GenericParam A E → GenericParam A E
  param = fold-GenericParamOf A E (GenericParam A E) (TypeParamBound A E) (GenericArgument A E) (PathArguments A E) (TypeTree A E) (TraitBound A E) (TypeParam A E) (AssocType A E) (Constraint A E) (TypeFnPtr A E) (TypePath A E) param_step bound_step argument_step arguments_step ty_step trait_bound_step type_param_step assoc_type_step constraint_step fn_ptr_step path_type_step

  unfoldable pub bound : TypeParamBound A E → TypeParamBound A E
  bound = fold-TypeParamBoundOf A E (GenericParam A E) (TypeParamBound A E) (GenericArgument A E) (PathArguments A E) (TypeTree A E) (TraitBound A E) (TypeParam A E) (AssocType A E) (Constraint A E) (TypeFnPtr A E) (TypePath A E) param_step bound_step argument_step arguments_step ty_step trait_bound_step type_param_step assoc_type_step constraint_step fn_ptr_step path_type_step

  unfoldable pub argument : GenericArgument A E → GenericArgument A E
  argument = fold-GenericArgumentOf A E (GenericParam A E) (TypeParamBound A E) (GenericArgument A E) (PathArguments A E) (TypeTree A E) (TraitBound A E) (TypeParam A E) (AssocType A E) (Constraint A E) (TypeFnPtr A E) (TypePath A E) param_step bound_step argument_step arguments_step ty_step trait_bound_step type_param_step assoc_type_step constraint_step fn_ptr_step path_type_step

  unfoldable pub arguments : PathArguments A E → PathArguments A E
  arguments = fold-PathArgumentsOf A E (GenericParam A E) (TypeParamBound A E) (GenericArgument A E) (PathArguments A E) (TypeTree A E) (TraitBound A E) (TypeParam A E) (AssocType A E) (Constraint A E) (TypeFnPtr A E) (TypePath A E) param_step bound_step argument_step arguments_step ty_step trait_bound_step type_param_step assoc_type_step constraint_step fn_ptr_step path_type_step

  unfoldable pub ty : TypeTree A E → TypeTree A E
  ty = fold-TypeOf A E (GenericParam A E) (TypeParamBound A E) (GenericArgument A E) (PathArguments A E) (TypeTree A E) (TraitBound A E) (TypeParam A E) (AssocType A E) (Constraint A E) (TypeFnPtr A E) (TypePath A E) param_step bound_step argument_step arguments_step ty_step trait_bound_step type_param_step assoc_type_step constraint_step fn_ptr_step path_type_step

  unfoldable pub trait_bound : TraitBound A E → TraitBound A E
  trait_bound = fold-TraitBoundOf A E (GenericParam A E) (TypeParamBound A E) (GenericArgument A E) (PathArguments A E) (TypeTree A E) (TraitBound A E) (TypeParam A E) (AssocType A E) (Constraint A E) (TypeFnPtr A E) (TypePath A E) param_step bound_step argument_step arguments_step ty_step trait_bound_step type_param_step assoc_type_step constraint_step fn_ptr_step path_type_step

  unfoldable pub type_param : TypeParam A E → TypeParam A E
  type_param = fold-TypeParamOf A E (GenericParam A E) (TypeParamBound A E) (GenericArgument A E) (PathArguments A E) (TypeTree A E) (TraitBound A E) (TypeParam A E) (AssocType A E) (Constraint A E) (TypeFnPtr A E) (TypePath A E) param_step bound_step argument_step arguments_step ty_step trait_bound_step type_param_step assoc_type_step constraint_step fn_ptr_step path_type_step

  unfoldable pub assoc_type : AssocType A E → AssocType A E
  assoc_type = fold-AssocTypeOf A E (GenericParam A E) (TypeParamBound A E) (GenericArgument A E) (PathArguments A E) (TypeTree A E) (TraitBound A E) (TypeParam A E) (AssocType A E) (Constraint A E) (TypeFnPtr A E) (TypePath A E) param_step bound_step argument_step arguments_step ty_step trait_bound_step type_param_step assoc_type_step constraint_step fn_ptr_step path_type_step

  unfoldable pub constraint : Constraint A E → Constraint A E
  constraint = fold-ConstraintOf A E (GenericParam A E) (TypeParamBound A E) (GenericArgument A E) (PathArguments A E) (TypeTree A E) (TraitBound A E) (TypeParam A E) (AssocType A E) (Constraint A E) (TypeFnPtr A E) (TypePath A E) param_step bound_step argument_step arguments_step ty_step trait_bound_step type_param_step assoc_type_step constraint_step fn_ptr_step path_type_step

  unfoldable pub fn_ptr : TypeFnPtr A E → TypeFnPtr A E
  fn_ptr = fold-TypeFnPtrOf A E (GenericParam A E) (TypeParamBound A E) (GenericArgument A E) (PathArguments A E) (TypeTree A E) (TraitBound A E) (TypeParam A E) (AssocType A E) (Constraint A E) (TypeFnPtr A E) (TypePath A E) param_step bound_step argument_step arguments_step ty_step trait_bound_step type_param_step assoc_type_step constraint_step fn_ptr_step path_type_step

  unfoldable pub path_type : TypePath A E → TypePath A E
  path_type = fold-TypePathOf A E (GenericParam A E) (TypeParamBound A E) (GenericArgument A E) (PathArguments A E) (TypeTree A E) (TraitBound A E) (TypeParam A E) (AssocType A E) (Constraint A E) (TypeFnPtr A E) (TypePath A E) param_step bound_step argument_step arguments_step ty_step trait_bound_step type_param_step assoc_type_step constraint_step fn_ptr_step path_type_step

  -- ---- parts of types

  abbrev pub segment : PathSegment A E → PathSegment A E
  segment = paths.segment arguments

  abbrev pub path : Path A E → Path A E
  path = paths.path arguments

  abbrev pub qself : QSelf A E → QSelf A E
  qself = qself_by ty

  abbrev pub angle : AngleBracketed A E → AngleBracketed A E
  angle = angle_by argument

  abbrev pub named_arg : NamedArg A E → NamedArg A E
  named_arg = named_arg_by ty

  abbrev pub return_type : ReturnType A E → ReturnType A E
  return_type = return_by ty

  abbrev pub parenthesized : Parenthesized A E → Parenthesized A E
  parenthesized x = parens_of (paren_token x.paren_token) (many named_arg mark x.inputs) (return_type x.output)

  abbrev pub bound_lifetimes : BoundLifetimes A E → BoundLifetimes A E
  bound_lifetimes = binder_by param

  abbrev pub const_param : ConstParam A E → ConstParam A E
  const_param x = const_param_of (attrs x.attrs) (word x.const_token) (ident x.ident) (mark x.colon_token) (ty x.ty) (option_map (given value) x.default)

  abbrev pub impl_trait : TypeImplTrait A E → TypeImplTrait A E
  impl_trait x = impl_trait_with (attrs x.attrs) (word x.impl_token) (many bound mark x.bounds)

  abbrev pub trait_object : TypeTraitObject A E → TypeTraitObject A E
  trait_object x = trait_object_with (attrs x.attrs) (option_map word x.dyn_token) (many bound mark x.bounds)

  abbrev pub array : TypeArray A E → TypeArray A E
  array x = array_with (attrs x.attrs) (bracket x.bracket_token) (ty x.elem) (mark x.semi_token) (value x.len)

  abbrev pub group : TypeGroup A E → TypeGroup A E
  group x = group_with (attrs x.attrs) (group_token x.group_token) (ty x.elem)

  abbrev pub paren : TypeParen A E → TypeParen A E
  paren x = paren_with (attrs x.attrs) (paren_token x.paren_token) (ty x.elem)

  abbrev pub ptr : TypePtr A E → TypePtr A E
  ptr x = ptr_with (attrs x.attrs) (mark x.star_token) (mutability x.mutability) (ty x.elem)

  abbrev pub reference : TypeReference A E → TypeReference A E
  reference x = reference_with (attrs x.attrs) (mark x.and_token) (option_map lifetime x.lifetime) (option_map word x.mutability) (ty x.elem)

  abbrev pub slice : TypeSlice A E → TypeSlice A E
  slice x = slice_with (attrs x.attrs) (bracket x.bracket_token) (ty x.elem)

  abbrev pub tuple : TypeTuple A E → TypeTuple A E
  tuple x = tuple_with (attrs x.attrs) (paren_token x.paren_token) (many ty mark x.elems)
