-- What each reader of this layer promises on the front of a list: which lists its trees spell up to what follows, and what may follow.
use Rattle.std.specs.Prelude.{Bool, true, false, Option}
use Rattle.token_core.specs.Fronted.{Fronting}
use Rattle.token_core.specs.Headline.{Grammar}
use Rattle.token_core.specs.Rebuilt.{Visible}
use Rattle.token_core.specs.Toks.{Toks}
use Rattle.syn_path.specs.declared.path.PathStyle.TheVariants.{AsWritten, Expr}
use Rattle.syn_path.specs.Traits.{Attributes, Expressions}
use Rattle.syn_forms.specs.declared.places.BoundPlace.TheVariants.{Opaque}
use Rattle.syn_forms.specs.declared.places.ParamPlace.TheVariants.{Binder}
use Rattle.syn_forms.specs.declared.places.TypePlace.{TypePlace}
use Rattle.syn_forms.specs.declared.places.TypePlace.TheVariants.{Plus, NoPlus}
use Rattle.syn_ty.specs.declared.generics.CapturedParam.{CapturedParam}
use Rattle.syn_ty.specs.declared.generics.LifetimeParamOf.{LifetimeParamOf}
use Rattle.syn_ty.specs.declared.generics.PreciseCapture.{PreciseCapture}
use Rattle.syn_ty.specs.declared.ty.Abi.{Abi}
use Rattle.syn_ty.specs.generics.Bounds.{IsBound, IsCapture, IsCaptured, IsFor, IsTraitBound}
use Rattle.syn_ty.specs.generics.Parameters.{IsConstParam, IsParam, IsTypeParam}
use Rattle.syn_ty.specs.path.Arguments.{between_angles, IsArgument}
use Rattle.syn_ty.specs.path.Signed.{IsParens, IsReturn}
use Rattle.syn_ty.specs.path.Spelling.{IsAngle, IsPath, IsSegment, Styled}
use Rattle.syn_ty.specs.ty.Admitted.{IsBorrow, IsBracketed, IsCounted, IsEnclosed, IsPointer, IsTupled, IsType}
use Rattle.syn_ty.specs.ty.Follows.{Carries, anything, follows_abi, follows_argument, follows_binder, follows_bound, follows_bounds, follows_input, follows_optional_abi, follows_param, follows_path, follows_qualified, follows_segment, follows_type}
use Rattle.syn_ty.specs.ty.Functions.{IsAbi, IsFnPtr, IsNamedArg}
use Rattle.syn_ty.specs.ty.Objects.{IsImpl, IsObject}
use Rattle.syn_ty.specs.ty.Parts.{Manner, plainly, is_clear, End, Parts}
use Rattle.syn_ty.specs.ty.Promises as promises
use Rattle.syn_ty.specs.ty.Promises.{manner}
use Rattle.syn_ty.specs.ty.Spelling.{IsOptional, Relation}
use Rattle.syn_ty.specs.ty.Spelt as spelt
use Rattle.syn_ty.specs.ty.Trees.{AngleBracketed, BoundLifetimes, ConstParam, GenericArgument, GenericParam, NamedArg, Parenthesized, Path, PathSegment, ReturnType, TraitBound, TypeArray, TypeFnPtr, TypeGroup, TypeImplTrait, TypeParam, TypeParamBound, TypeParen, TypePath, TypePtr, TypeReference, TypeSlice, TypeTraitObject, TypeTree, TypeTuple}

-- The verbatim parts of a tree are clear where it spells some front plainly, whatever follows.
abbrev pub fronting : {F : Type 0} → Grammar F → (Manner → Relation F) → (Toks → Bool) → Fronting F
fronting G Is follows = record { grammar = G; begins = λ clear x l k. Is (manner clear) x l k; follows = follows; plain = λ x k. (l : Toks) × (r : Toks) × Visible l × Is plainly x l r }

-- The same of a form that may end open, or in a plus: it ends so that this may follow.
abbrev pub fitting : {F : Type 0} → Grammar F → (Manner → Relation F) → (Toks → Bool) → Fronting F
fitting G Is follows = record { grammar = G; begins = λ clear x l k. Is (manner clear) x l k; follows = follows; plain = λ x k. (l : Toks) × (r : Toks) × Visible l × Is plainly x l r × Carries r k }

module _ {A E : Type 0} (attrs : Attributes A) (exprs : Expressions E) where
  -- a form by trees of some height, over what stands within it; and one that may end open
  abbrev pub Begins : {F : Type 0} → ((Manner → Parts A E) → Manner → Relation F) → Manner → Relation F
  Begins = spelt.Begins attrs.spells exprs.spells

  abbrev pub Fits : {F : Type 0} → ((Manner → Parts A E) → Manner → End → Relation F) → Manner → Relation F
  Fits = spelt.BeginsFitting attrs.spells exprs.spells

  -- ---- paths

  abbrev pub path : Fronting (Path A E)
  path = fronting (promises.path attrs exprs) (Begins (λ part how. IsPath part how AsWritten)) (follows_path AsWritten)

  abbrev pub segment : Fronting (PathSegment A E)
  segment = fronting (promises.segment attrs exprs) (Begins (λ part how. IsSegment part how AsWritten)) follows_segment

  -- between angle marks
  abbrev pub argument : Fronting (GenericArgument A E)
  argument = fronting (promises.argument attrs exprs) (Begins (λ part how. IsArgument (IsType part how Plus) part how between_angles)) follows_argument

  abbrev pub angle : Fronting (AngleBracketed A E)
  angle = fronting (promises.angle attrs exprs) (Begins IsAngle) anything

  -- with its `::`
  abbrev pub BeginsTurbofish : Manner → Relation (AngleBracketed A E)
  BeginsTurbofish how x l r = Begins IsAngle how x l r × Styled Expr l

  abbrev pub turbofish : Fronting (AngleBracketed A E)
  turbofish = fronting (promises.turbofish attrs exprs) BeginsTurbofish anything

  abbrev pub parenthesized : Fronting (Parenthesized A E)
  parenthesized = fitting (promises.parenthesized attrs exprs) (Fits IsParens) follows_bound

  -- ---- types, with plus or without

  abbrev pub ty : TypePlace → Fronting (TypeTree A E)
  ty place = fitting (promises.ty attrs exprs place) (Fits (λ part how. IsType part how place)) (follows_type place)

  abbrev pub return_type : TypePlace → Fronting (ReturnType A E)
  return_type place = fitting (promises.return_type attrs exprs place) (Fits (λ part how. IsReturn part how place)) (follows_type place)

  abbrev pub trait_object : TypePlace → Fronting (TypeTraitObject A E)
  trait_object place = fronting (promises.trait_object attrs exprs place) (Begins (λ part how. IsObject part how place)) follows_bounds

  abbrev pub impl_trait : TypePlace → Fronting (TypeImplTrait A E)
  impl_trait place = fitting (promises.impl_trait attrs exprs place) (Fits (λ part how. IsImpl part how place)) follows_bound

  abbrev pub array : Fronting (TypeArray A E)
  array = fronting (promises.array attrs exprs) (Begins IsCounted) anything

  abbrev pub fn_ptr : Fronting (TypeFnPtr A E)
  fn_ptr = fitting (promises.fn_ptr attrs exprs) (Fits IsFnPtr) follows_bound

  -- no front is spelt
  abbrev pub group : Fronting (TypeGroup A E)
  group = fronting (promises.group attrs exprs) (λ how x l r. ⊥) anything

  abbrev pub paren : Fronting (TypeParen A E)
  paren = fronting (promises.paren attrs exprs) (Begins (λ part how. IsEnclosed part how NoPlus)) anything

  abbrev pub path_type : Fronting (TypePath A E)
  path_type = fronting (promises.path_type attrs exprs) (Begins (spelt.IsPathAlone attrs.spells exprs.spells)) follows_qualified

  abbrev pub ptr : Fronting (TypePtr A E)
  ptr = fitting (promises.ptr attrs exprs) (Fits IsPointer) follows_bound

  abbrev pub reference : Fronting (TypeReference A E)
  reference = fitting (promises.reference attrs exprs) (Fits IsBorrow) follows_bound

  abbrev pub slice : Fronting (TypeSlice A E)
  slice = fronting (promises.slice attrs exprs) (Begins IsBracketed) anything

  -- its first element may begin with a lifetime
  abbrev pub tuple : Fronting (TypeTuple A E)
  tuple = fronting (promises.tuple attrs exprs) (Begins (λ part how. IsTupled part how (λ l. Unit {0}))) anything

  abbrev pub named_arg : Fronting (NamedArg A E)
  named_arg = fronting (promises.named_arg attrs exprs) (Begins (λ part how. IsNamedArg part how false)) follows_input

  -- ---- generics

  abbrev pub param : Fronting (GenericParam A E)
  param = fronting (promises.param attrs exprs) (Begins (λ part how. IsParam part how Binder)) follows_param

  abbrev pub type_param : Fronting (TypeParam A E)
  type_param = fronting (promises.type_param attrs exprs) (Begins IsTypeParam) follows_param

  abbrev pub const_param : Fronting (ConstParam A E)
  const_param = fronting (promises.const_param attrs exprs) (Begins IsConstParam) follows_param

  abbrev pub binder : Fronting (BoundLifetimes A E)
  binder = fronting (promises.binder attrs exprs) (Begins IsFor) anything

  abbrev pub optional_binder : Fronting (Option (BoundLifetimes A E))
  optional_binder = fronting (promises.optional_binder attrs exprs) (Begins (λ part how. IsOptional (IsFor part how))) follows_binder

  abbrev pub bound : Fronting (TypeParamBound A E)
  bound = fitting (promises.bound attrs exprs) (Fits (λ part how. IsBound part how Opaque)) follows_bound

  abbrev pub trait_bound : Fronting (TraitBound A E)
  trait_bound = fitting (promises.trait_bound attrs exprs) (Fits (λ part how. IsTraitBound part how false)) follows_bound

-- ---- a lifetime parameter

abbrev pub lifetime_param : {A : Type 0} → Attributes A → Fronting (LifetimeParamOf A)
lifetime_param attrs = fronting (promises.lifetime_param attrs) (spelt.IsLifetimeAlone attrs.spells) follows_param

-- ---- what holds no type

abbrev pub capture : Fronting PreciseCapture
capture = fronting promises.capture (λ how. IsCapture (is_clear how)) anything

abbrev pub captured : Fronting CapturedParam
captured = fronting promises.captured (λ how. IsCaptured) anything

abbrev pub abi : Fronting Abi
abi = fronting promises.abi (λ how. IsAbi) follows_abi

abbrev pub optional_abi : Fronting (Option Abi)
optional_abi = fronting promises.optional_abi (λ how. IsOptional IsAbi) follows_optional_abi
