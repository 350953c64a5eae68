-- What each reader takes on the front of a list: a tree of some height, and where its form may end open, an end that fits what follows.
use Rattle.std.specs.Prelude.{Bool, false, List, Option}
use Rattle.token_core.specs.Toks.{Toks}
use Rattle.syn_path.specs.Values.{SpelledValues}
use Rattle.syn_path.specs.declared.path.PathStyle.TheVariants.{AsWritten, Expr}
use Rattle.syn_forms.specs.declared.places.BoundPlace.TheVariants.{Opaque}
use Rattle.syn_forms.specs.declared.places.ParamPlace.TheVariants.{Binder}
use Rattle.syn_forms.specs.declared.places.TypePlace.{TypePlace}
use Rattle.syn_forms.specs.declared.places.TypePlace.TheVariants.{Plus, NoPlus}
use Rattle.syn_ty.specs.generics.Bounds.{IsBound, IsFor, IsTraitBound}
use Rattle.syn_ty.specs.generics.Parameters.{IsConstParam, IsParam, IsTypeParam}
use Rattle.syn_ty.specs.path.Arguments.{between_angles, IsArgument}
use Rattle.syn_ty.specs.path.Signed.{IsParens, IsReturn}
use Rattle.syn_ty.specs.path.Spelling.{IsAngle, IsAnyPath, IsPath, IsSegment, Styled}
use Rattle.syn_ty.specs.ty.Admitted.{IsBorrow, IsBracketed, IsCounted, IsEnclosed, IsPointer, IsTupled, IsType}
use Rattle.syn_ty.specs.ty.Functions.{IsFnPtr, IsNamedArg}
use Rattle.syn_ty.specs.ty.Groups.{IsGrouped}
use Rattle.syn_ty.specs.ty.Objects.{IsImpl, IsObject}
use Rattle.syn_ty.specs.ty.Parts.{Manner, End, Parts, loosely}
use Rattle.syn_ty.specs.ty.Spelling.{IsOptional, Relation}
use Rattle.syn_ty.specs.ty.Trees.{AngleBracketed, BoundLifetimes, ConstParam, GenericArgument, GenericParam, NamedArg, Parenthesized, Path, PathSegment, QSelf, ReturnType, TraitBound, TypeArray, TypeFnPtr, TypeGroup, TypeImplTrait, TypeParam, TypeParamBound, TypeParen, TypePath, TypePtr, TypeReference, TypeSlice, TypeTraitObject, TypeTree, TypeTuple}
use Rattle.syn_path.specs.declared.path.PathStyle.{PathStyle}
use Rattle.syn_ty.specs.ty.Spelt.{Begins, BeginsFitting, IsPathAlone}

module _ {A E : Type 0} (attrs : Bool → List A → Toks → Toks → Type 0) (values : SpelledValues E) where
  -- a form, over what stands within it; and one that may end open
  abbrev pub Form : Type 0 → Type 1
  Form F = (Manner → Parts A E) → Manner → Relation F

  abbrev pub EndingForm : Type 0 → Type 1
  EndingForm F = (Manner → Parts A E) → Manner → End → Relation F

  -- by trees of some height
  abbrev pub Front : {F : Type 0} → Form F → Relation F
  Front Is = Begins attrs values Is loosely

  abbrev pub FrontEnding : {F : Type 0} → EndingForm F → Relation F
  FrontEnding Is = BeginsFitting attrs values Is loosely

  -- a path that a type may qualify
  abbrev pub IsQualifiedOrNot : PathStyle → Form (Option (QSelf A E) × Path A E)
  IsQualifiedOrNot style part how y l r = IsAnyPath part how style y.0 y.1 l r

  -- ---- for each reader

  -- arguments with their `::`
  abbrev pub turbofish : AngleBracketed A E → Toks → Toks → Type 0
  turbofish x l r = Front IsAngle x l r × Styled Expr l

  -- it stands in an invisible group
  abbrev pub group : TypeGroup A E → Toks → Toks → Type 0
  group x l r = ⊥

  abbrev pub path : Path A E → Toks → Toks → Type 0
  path = Front (λ part how. IsPath part how AsWritten)

  abbrev pub segment : PathSegment A E → Toks → Toks → Type 0
  segment = Front (λ part how. IsSegment part how AsWritten)

  abbrev pub argument : GenericArgument A E → Toks → Toks → Type 0
  argument = Front (λ part how. IsArgument (IsType part how Plus) part how between_angles)

  abbrev pub angle : AngleBracketed A E → Toks → Toks → Type 0
  angle = Front (IsAngle)

  abbrev pub parenthesized : Parenthesized A E → Toks → Toks → Type 0
  parenthesized = FrontEnding (IsParens)

  abbrev pub ty : TypePlace → TypeTree A E → Toks → Toks → Type 0
  ty place = FrontEnding (λ part how. IsType part how place)

  -- a type at an invisible group
  abbrev pub grouped : TypeTree A E → Toks → Toks → Type 0
  grouped = Front (IsGrouped)

  abbrev pub return_type : TypePlace → ReturnType A E → Toks → Toks → Type 0
  return_type place = FrontEnding (λ part how. IsReturn part how place)

  abbrev pub trait_object : TypePlace → TypeTraitObject A E → Toks → Toks → Type 0
  trait_object place = Front (λ part how. IsObject part how place)

  abbrev pub impl_trait : TypePlace → TypeImplTrait A E → Toks → Toks → Type 0
  impl_trait place = FrontEnding (λ part how. IsImpl part how place)

  abbrev pub array : TypeArray A E → Toks → Toks → Type 0
  array = Front (IsCounted)

  abbrev pub fn_ptr : TypeFnPtr A E → Toks → Toks → Type 0
  fn_ptr = FrontEnding (IsFnPtr)

  abbrev pub paren : TypeParen A E → Toks → Toks → Type 0
  paren = Front (λ part how. IsEnclosed part how NoPlus)

  abbrev pub path_type : TypePath A E → Toks → Toks → Type 0
  path_type = Front (IsPathAlone attrs values)

  abbrev pub ptr : TypePtr A E → Toks → Toks → Type 0
  ptr = FrontEnding (IsPointer)

  abbrev pub reference : TypeReference A E → Toks → Toks → Type 0
  reference = FrontEnding (IsBorrow)

  abbrev pub slice : TypeSlice A E → Toks → Toks → Type 0
  slice = Front (IsBracketed)

  abbrev pub tuple : TypeTuple A E → Toks → Toks → Type 0
  tuple = Front (λ part how. IsTupled part how (λ l. Unit {0}))

  abbrev pub named_arg : NamedArg A E → Toks → Toks → Type 0
  named_arg = Front (λ part how. IsNamedArg part how false)

  abbrev pub param : GenericParam A E → Toks → Toks → Type 0
  param = Front (λ part how. IsParam part how Binder)

  abbrev pub type_param : TypeParam A E → Toks → Toks → Type 0
  type_param = Front (IsTypeParam)

  abbrev pub const_param : ConstParam A E → Toks → Toks → Type 0
  const_param = Front (IsConstParam)

  abbrev pub binder : BoundLifetimes A E → Toks → Toks → Type 0
  binder = Front (IsFor)

  abbrev pub optional_binder : Option (BoundLifetimes A E) → Toks → Toks → Type 0
  optional_binder = Front (λ part how. IsOptional (IsFor part how))

  abbrev pub bound : TypeParamBound A E → Toks → Toks → Type 0
  bound = FrontEnding (λ part how. IsBound part how Opaque)

  abbrev pub trait_bound : TraitBound A E → Toks → Toks → Type 0
  trait_bound = FrontEnding (λ part how. IsTraitBound part how false)
