-- Which lists the trees of this layer spell: the relations tied, by the height of a tree, and for each reader all of a list. No list here has an invisible group.
use Rattle.std.specs.Prelude.{ℕ, zero, suc, Bool, false, List, [], Option}
use Rattle.token_core.specs.Toks.{Toks, done}
use Rattle.syn_path.specs.Values.{SpelledValues}
use Rattle.syn_path.specs.declared.path.PathStyle.TheVariants.{AsWritten, Expr}
use Rattle.syn_forms.specs.declared.places.BoundPlace.TheVariants.{Opaque}
use Rattle.syn_forms.specs.declared.places.ParamPlace.TheVariants.{Binder}
use Rattle.syn_forms.specs.declared.places.TypePlace.{TypePlace}
use Rattle.syn_forms.specs.declared.places.TypePlace.TheVariants.{Plus, NoPlus}
use Rattle.syn_ty.specs.declared.generics.CapturedParam.{CapturedParam}
use Rattle.syn_ty.specs.declared.generics.LifetimeParamOf.{LifetimeParamOf}
use Rattle.syn_ty.specs.declared.generics.PreciseCapture.{PreciseCapture}
use Rattle.syn_ty.specs.declared.ty.Abi.{Abi}
use Rattle.syn_ty.specs.generics.Bounds.{IsBound, IsCapture, IsCaptured, IsFor, IsTraitBound}
use Rattle.syn_ty.specs.generics.Parameters.{IsConstParam, IsLifetimeParam, IsParam, IsTypeParam}
use Rattle.syn_ty.specs.path.Arguments.{alone, between_angles, IsArgument}
use Rattle.syn_ty.specs.path.Signed.{IsParens, IsReturn}
use Rattle.syn_ty.specs.path.Spelling.{IsAngle, IsAnyPath, IsArguments, IsPath, IsSegment, Styled}
use Rattle.syn_ty.specs.ty.Admitted.{IsBorrow, IsBracketed, IsCounted, IsEnclosed, IsPointer, IsTupled, IsType}
use Rattle.syn_ty.specs.ty.Functions.{IsAbi, IsFnPtr, IsNamedArg}
use Rattle.syn_ty.specs.ty.Objects.{IsImpl, IsObject}
use Rattle.syn_ty.specs.ty.Parts.{Manner, is_clear, End, Parts, Told}
use Rattle.syn_ty.specs.ty.Spelling.{IsOptional, Relation}
use Rattle.syn_ty.specs.ty.Trees.{AngleBracketed, BoundLifetimes, ConstParam, GenericArgument, GenericParam, NamedArg, Parenthesized, Path, PathSegment, QSelf, ReturnType, TraitBound, TypeArray, TypeFnPtr, TypeGroup, TypeImplTrait, TypeParam, TypeParamBound, TypeParen, TypePath, TypePtr, TypeReference, TypeSlice, TypeTraitObject, TypeTree, TypeTuple}
use Rattle.syn_ty.specs.ty.Types.{qualified_with}

-- ---- the relations tied

-- what attributes spell before what bears them, and expressions in their places, is given
module _ {A E : Type 0} (attrs : Bool → List A → Toks → Toks → Type 0) (values : SpelledValues E) where
  -- one turn: what stands within a form is spelt so
  abbrev pub turn : (Manner → Parts A E) → Manner → Parts A E
  turn part how = record {
    ty = λ place e x l r. IsType part how place e x l r;
    bound = λ place e x l r. IsBound part how place e x l r;
    param = λ place x l r. IsParam part how place x l r;
    argument = λ x l r. IsArgument (IsType part how Plus) part how between_angles x l r;
    arguments = λ x l r. IsArguments part how x l r;
    attrs = λ x l r. attrs (is_clear how) x l r;
    len = λ x l. values.len x l;
    const_argument = λ x l r. values.const_argument (is_clear how) x l r;
    const_default = λ x l r. values.const_default (is_clear how) x l r;
  }

  -- no tree
  abbrev pub nothing_spelt : Manner → Parts A E
  nothing_spelt how = record {
    ty = λ place e x l r. ⊥;
    bound = λ place e x l r. ⊥;
    param = λ place x l r. ⊥;
    argument = λ x l r. ⊥;
    arguments = λ x l r. ⊥;
    attrs = λ x l r. ⊥;
    len = λ x l. ⊥;
    const_argument = λ x l r. ⊥;
    const_default = λ x l r. ⊥;
  }

  -- trees of at most this height
  abbrev pub spelt_to : ℕ → Manner → Parts A E
  spelt_to zero = nothing_spelt
  spelt_to (suc n) = turn (spelt_to n)

  -- the front of a list up to a rest, at some height
  abbrev pub Begins : {F : Type 0} → ((Manner → Parts A E) → Manner → Relation F) → Manner → Relation F
  Begins Is how x l r = (n : ℕ) × Is (spelt_to n) how x l r

  -- however it ends
  abbrev pub BeginsEnding : {F : Type 0} → ((Manner → Parts A E) → Manner → End → Relation F) → Manner → Relation F
  BeginsEnding Is how x l r = (n : ℕ) × (e : End) × Is (spelt_to n) how e x l r

  -- with an end that fits what follows
  abbrev pub BeginsFitting : {F : Type 0} → ((Manner → Parts A E) → Manner → End → Relation F) → Manner → Relation F
  BeginsFitting Is how x l r = (n : ℕ) × Told (Is (spelt_to n) how) x l r

  -- all of a list
  abbrev pub Spells : {F : Type 0} → ((Manner → Parts A E) → Manner → Relation F) → Manner → F → Toks → Type 0
  Spells Is how x l = Begins Is how x l done

  abbrev pub SpellsEnding : {F : Type 0} → ((Manner → Parts A E) → Manner → End → Relation F) → Manner → F → Toks → Type 0
  SpellsEnding Is how x l = BeginsEnding Is how x l done

  -- ---- for each reader: paths

  abbrev pub SpellsPath : Manner → Path A E → Toks → Type 0
  SpellsPath = Spells (λ part how. IsPath part how AsWritten)

  abbrev pub SpellsSegment : Manner → PathSegment A E → Toks → Type 0
  SpellsSegment = Spells (λ part how. IsSegment part how AsWritten)

  abbrev pub SpellsArgument : Manner → GenericArgument A E → Toks → Type 0
  SpellsArgument = Spells (λ part how. IsArgument (IsType part how Plus) part how alone)

  abbrev pub SpellsAngle : Manner → AngleBracketed A E → Toks → Type 0
  SpellsAngle = Spells IsAngle

  -- with its `::`
  abbrev pub SpellsTurbofish : Manner → AngleBracketed A E → Toks → Type 0
  SpellsTurbofish how x l = Spells IsAngle how x l × Styled Expr l

  abbrev pub SpellsParens : Manner → Parenthesized A E → Toks → Type 0
  SpellsParens = SpellsEnding IsParens

  -- ---- types, with plus or without

  abbrev pub SpellsType : TypePlace → Manner → TypeTree A E → Toks → Type 0
  SpellsType place = SpellsEnding (λ part how. IsType part how place)

  abbrev pub SpellsReturn : TypePlace → Manner → ReturnType A E → Toks → Type 0
  SpellsReturn place = SpellsEnding (λ part how. IsReturn part how place)

  abbrev pub SpellsObject : TypePlace → Manner → TypeTraitObject A E → Toks → Type 0
  SpellsObject place = Spells (λ part how. IsObject part how place)

  abbrev pub SpellsImpl : TypePlace → Manner → TypeImplTrait A E → Toks → Type 0
  SpellsImpl place = SpellsEnding (λ part how. IsImpl part how place)

  abbrev pub SpellsArray : Manner → TypeArray A E → Toks → Type 0
  SpellsArray = Spells IsCounted

  abbrev pub SpellsFnPtr : Manner → TypeFnPtr A E → Toks → Type 0
  SpellsFnPtr = SpellsEnding IsFnPtr

  -- it stands in an invisible group
  abbrev pub SpellsGroup : Manner → TypeGroup A E → Toks → Type 0
  SpellsGroup how x l = ⊥

  abbrev pub SpellsParen : Manner → TypeParen A E → Toks → Type 0
  SpellsParen = Spells (λ part how. IsEnclosed part how NoPlus)

  -- also one that begins with `try`
  pub data IsPathAlone (part : Manner → Parts A E) (how : Manner) : TypePath A E → Toks → Toks → Type 0 where
    a_path_alone : {o : Option (QSelf A E)} {p : Path A E} {l r : Toks} → IsAnyPath part how AsWritten o p l r → IsPathAlone part how (qualified_with [] o p) l r

  abbrev pub SpellsTypePath : Manner → TypePath A E → Toks → Type 0
  SpellsTypePath = Spells IsPathAlone

  abbrev pub SpellsPtr : Manner → TypePtr A E → Toks → Type 0
  SpellsPtr = SpellsEnding IsPointer

  abbrev pub SpellsReference : Manner → TypeReference A E → Toks → Type 0
  SpellsReference = SpellsEnding IsBorrow

  abbrev pub SpellsSlice : Manner → TypeSlice A E → Toks → Type 0
  SpellsSlice = Spells IsBracketed

  -- its first element may begin with a lifetime
  abbrev pub SpellsTuple : Manner → TypeTuple A E → Toks → Type 0
  SpellsTuple = Spells (λ part how. IsTupled part how (λ l. Unit {0}))

  -- an argument that is not the first
  abbrev pub SpellsNamedArg : Manner → NamedArg A E → Toks → Type 0
  SpellsNamedArg = Spells (λ part how. IsNamedArg part how false)

  -- ---- generics

  abbrev pub SpellsParam : Manner → GenericParam A E → Toks → Type 0
  SpellsParam = Spells (λ part how. IsParam part how Binder)

  abbrev pub SpellsTypeParam : Manner → TypeParam A E → Toks → Type 0
  SpellsTypeParam = Spells IsTypeParam

  abbrev pub SpellsConstParam : Manner → ConstParam A E → Toks → Type 0
  SpellsConstParam = Spells IsConstParam

  abbrev pub SpellsBinder : Manner → BoundLifetimes A E → Toks → Type 0
  SpellsBinder = Spells IsFor

  abbrev pub SpellsOptionalBinder : Manner → Option (BoundLifetimes A E) → Toks → Type 0
  SpellsOptionalBinder = Spells (λ part how. IsOptional (IsFor part how))

  abbrev pub SpellsBound : Manner → TypeParamBound A E → Toks → Type 0
  SpellsBound = SpellsEnding (λ part how. IsBound part how Opaque)

  abbrev pub SpellsTraitBound : Manner → TraitBound A E → Toks → Type 0
  SpellsTraitBound = SpellsEnding (λ part how. IsTraitBound part how false)

-- ---- a lifetime parameter: within it stand its attributes alone

module _ {A : Type 0} (attrs : Bool → List A → Toks → Toks → Type 0) where
  abbrev pub with_attributes : Manner → Parts A (Unit {0})
  with_attributes how = record {
    ty = λ place e x l r. ⊥;
    bound = λ place e x l r. ⊥;
    param = λ place x l r. ⊥;
    argument = λ x l r. ⊥;
    arguments = λ x l r. ⊥;
    attrs = λ x l r. attrs (is_clear how) x l r;
    len = λ x l. ⊥;
    const_argument = λ x l r. ⊥;
    const_default = λ x l r. ⊥;
  }

  abbrev pub IsLifetimeAlone : Manner → Relation (LifetimeParamOf A)
  IsLifetimeAlone how x l r = IsLifetimeParam with_attributes how x l r

  abbrev pub SpellsLifetimeParam : Manner → LifetimeParamOf A → Toks → Type 0
  SpellsLifetimeParam how x l = IsLifetimeAlone how x l done

-- ---- what holds no type

abbrev pub SpellsCapture : Manner → PreciseCapture → Toks → Type 0
SpellsCapture how x l = IsCapture (is_clear how) x l done

abbrev pub SpellsCaptured : CapturedParam → Toks → Type 0
SpellsCaptured x l = IsCaptured x l done

abbrev pub SpellsAbi : Abi → Toks → Type 0
SpellsAbi x l = IsAbi x l done

abbrev pub SpellsOptionalAbi : Option Abi → Toks → Type 0
SpellsOptionalAbi x l = IsOptional IsAbi x l done
