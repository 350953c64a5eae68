-- Each whole read of this layer is sound: where it answers on a list without invisible groups and leaves nothing over, the answer spells the list by its promise.
use Rattle.std.proofs.Common.{◌≡◌, Bool, false, List, None, Result, Ok, Err}
use Rattle.syn_ty.proofs.ty_laws.words.Tokens.{Reader, Reads, leaves, Visible, Refusal, Stream, Toks}
use Rattle.syn_ty.proofs.ty_laws.words.Paths.{AsWritten, ReadValues, SpelledValues, AttributeLaws, TookOne}
use Rattle.syn_ty.proofs.ty_laws.words.Forms.{Opaque, Binder, TypePlace, NoPlus, allows_plus}
use Rattle.syn_ty.proofs.ty_laws.words.Types.{IsBound, IsCapture, IsCaptured, IsFor, IsTraitBound, IsConstParam, IsParam, IsTypeParam, IsParens, IsReturn, IsAngle, IsPath, IsSegment, IsBorrow, IsBracketed, IsCounted, IsEnclosed, IsPointer, IsTupled, IsType, IsAbi, IsFnPtr, IsNamedArg, IsImpl, IsObject, loosely, LifetimeParamOf, IsOptional, IsPathAlone}
use Rattle.syn_forms.proofs.tokens_laws.Fronts.{took_whole}
use Rattle.syn_ty.specs.generics.Reading as parts
use Rattle.syn_ty.specs.ty.Fronts as fronts
use Rattle.syn_ty.specs.ty.Knot as knot
use Rattle.syn_ty.specs.ty.Reading as reading
use Rattle.syn_path.specs.Took.{Takes}
use Rattle.syn_ty.proofs.ty_laws.sound.Params as params
use Rattle.syn_ty.specs.ty.Spelt as by
use Rattle.syn_ty.proofs.ty_laws.sound.Alone as alone
use Rattle.syn_ty.proofs.ty_laws.sound.Alone.{all_ending, all_of}
use Rattle.syn_ty.proofs.ty_laws.sound.Bound.{capture_took, captured_took}
use Rattle.syn_ty.proofs.ty_laws.sound.Functions.{abi_took, optional_abi_took}
use Rattle.syn_ty.proofs.ty_laws.Given.{Given}

-- ---- of every grammar

-- a whole read is sound: what it answers spells the list
abbrev pub Whole : {F : Type 0} → Reader F → (F → Toks → Type 0) → Type 0
Whole {F} reader Is = (s t : Stream) (a : F) → s.left ≡ None → Visible s.rest → reader s ≡ Ok (a, t) → leaves t ≡ None → Is a s.rest

module _ {A E : Type 0} {attrs : Reader (List A)} {values : ReadValues E} {shown : Bool → List A → Toks → Toks → Type 0} {spelt : SpelledValues E} (g : Given attrs values shown spelt) where
  -- ---- paths

  pub path_sound : Whole (knot.path attrs values AsWritten) (by.SpellsPath shown spelt loosely)
  path_sound s t a n v e c = all_of shown spelt (λ part how. IsPath part how AsWritten) s t a (alone.path_took g AsWritten s t a v e) c

  pub segment_sound : Whole (knot.segment attrs values) (by.SpellsSegment shown spelt loosely)
  segment_sound s t a n v e c = all_of shown spelt (λ part how. IsSegment part how AsWritten) s t a (alone.segment_took g s t a v e) c

  pub argument_sound : Whole (knot.argument attrs values) (by.SpellsArgument shown spelt loosely)
  argument_sound s t a n v e c = alone.argument_alone g s t a v e c

  pub angle_sound : Whole (knot.angle_bracketed attrs values) (by.SpellsAngle shown spelt loosely)
  angle_sound s t a n v e c = all_of shown spelt IsAngle s t a (alone.angle_took g s t a v e) c

  pub turbofish_sound : Whole (knot.turbofish attrs values) (by.SpellsTurbofish shown spelt loosely)
  turbofish_sound s t a n v e c = took_whole {Is = fronts.turbofish shown spelt} s t a (alone.turbofish_took g s t a v e) c

  pub parenthesized_sound : Whole (knot.parenthesized attrs values) (by.SpellsParens shown spelt loosely)
  parenthesized_sound s t a n v e c = all_ending shown spelt IsParens s t a (alone.parenthesized_took g s t a v e) c

  -- ---- types, with plus or without

  pub ty_sound : (place : TypePlace) → Whole (knot.ty attrs values place) (by.SpellsType shown spelt place loosely)
  ty_sound place s t a n v e c = all_ending shown spelt (λ part how. IsType part how place) s t a (alone.ty_took g place s t a v e) c

  pub return_type_sound : (place : TypePlace) → Whole (knot.return_type attrs values place) (by.SpellsReturn shown spelt place loosely)
  return_type_sound place s t a n v e c = all_ending shown spelt (λ part how. IsReturn part how place) s t a (alone.return_type_took g place s t a v e) c

  pub trait_object_sound : (place : TypePlace) → Whole (knot.trait_object attrs values (allows_plus place)) (by.SpellsObject shown spelt place loosely)
  trait_object_sound place s t a n v e c = all_of shown spelt (λ part how. IsObject part how place) s t a (alone.trait_object_took g place s t a v e) c

  pub impl_trait_sound : (place : TypePlace) → Whole (knot.impl_trait attrs values (allows_plus place)) (by.SpellsImpl shown spelt place loosely)
  impl_trait_sound place s t a n v e c = all_ending shown spelt (λ part how. IsImpl part how place) s t a (alone.impl_trait_took g place s t a v e) c

  pub array_sound : Whole (knot.array attrs values) (by.SpellsArray shown spelt loosely)
  array_sound s t a n v e c = all_of shown spelt IsCounted s t a (alone.array_took g s t a v e) c

  pub fn_ptr_sound : Whole (knot.fn_ptr attrs values) (by.SpellsFnPtr shown spelt loosely)
  fn_ptr_sound s t a n v e c = all_ending shown spelt IsFnPtr s t a (alone.fn_ptr_took g s t a v e) c

  -- no group is read there
  pub group_sound : Whole (knot.group attrs values) (by.SpellsGroup shown spelt loosely)
  group_sound s t a n v e c = alone.no_group g s t a v e

  pub paren_sound : Whole (knot.paren attrs values) (by.SpellsParen shown spelt loosely)
  paren_sound s t a n v e c = all_of shown spelt (λ part how. IsEnclosed part how NoPlus) s t a (alone.paren_took g s t a v e) c

  pub path_type_sound : Whole (knot.path_type attrs values) (by.SpellsTypePath shown spelt loosely)
  path_type_sound s t a n v e c = all_of shown spelt (IsPathAlone shown spelt) s t a (alone.path_type_took g s t a v e) c

  pub ptr_sound : Whole (knot.ptr attrs values) (by.SpellsPtr shown spelt loosely)
  ptr_sound s t a n v e c = all_ending shown spelt IsPointer s t a (alone.ptr_took g s t a v e) c

  pub reference_sound : Whole (knot.reference attrs values) (by.SpellsReference shown spelt loosely)
  reference_sound s t a n v e c = all_ending shown spelt IsBorrow s t a (alone.reference_took g s t a v e) c

  pub slice_sound : Whole (knot.slice attrs values) (by.SpellsSlice shown spelt loosely)
  slice_sound s t a n v e c = all_of shown spelt IsBracketed s t a (alone.slice_took g s t a v e) c

  pub tuple_sound : Whole (knot.tuple attrs values) (by.SpellsTuple shown spelt loosely)
  tuple_sound s t a n v e c = all_of shown spelt (λ part how. IsTupled part how (λ l. Unit {0})) s t a (alone.tuple_took g s t a v e) c

  pub named_arg_sound : Whole (knot.named_arg attrs values) (by.SpellsNamedArg shown spelt loosely)
  named_arg_sound s t a n v e c = all_of shown spelt (λ part how. IsNamedArg part how false) s t a (alone.named_arg_took g s t a v e) c

  -- ---- generics

  pub param_sound : Whole (knot.param attrs values Binder) (by.SpellsParam shown spelt loosely)
  param_sound s t a n v e c = all_of shown spelt (λ part how. IsParam part how Binder) s t a (alone.param_took g Binder s t a v e) c

  pub type_param_sound : Whole (knot.type_param attrs values) (by.SpellsTypeParam shown spelt loosely)
  type_param_sound s t a n v e c = all_of shown spelt IsTypeParam s t a (alone.type_param_took g s t a v e) c

  pub const_param_sound : Whole (knot.const_param attrs values) (by.SpellsConstParam shown spelt loosely)
  const_param_sound s t a n v e c = all_of shown spelt IsConstParam s t a (alone.const_param_took g s t a v e) c

  pub binder_sound : Whole (knot.binder attrs values) (by.SpellsBinder shown spelt loosely)
  binder_sound s t a n v e c = all_of shown spelt IsFor s t a (alone.binder_took g s t a v e) c

  pub optional_binder_sound : Whole (knot.optional_binder attrs values) (by.SpellsOptionalBinder shown spelt loosely)
  optional_binder_sound s t a n v e c = all_of shown spelt (λ part how. IsOptional (IsFor part how)) s t a (alone.optional_binder_took g s t a v e) c

  pub bound_sound : Whole (knot.bound attrs values Opaque) (by.SpellsBound shown spelt loosely)
  bound_sound s t a n v e c = all_ending shown spelt (λ part how. IsBound part how Opaque) s t a (alone.bound_took g Opaque s t a v e) c

  pub trait_bound_sound : Whole (knot.trait_bound attrs values) (by.SpellsTraitBound shown spelt loosely)
  trait_bound_sound s t a n v e c = all_ending shown spelt (λ part how. IsTraitBound part how false) s t a (alone.trait_bound_took g s t a v e) c

-- ---- a lifetime parameter

module _ {A : Type 0} {attrs : Reader (List A)} {shown : Bool → List A → Toks → Toks → Type 0} (laws : AttributeLaws attrs shown) where
  pub lifetime_param_took : (s t : Stream) (x : LifetimeParamOf A) → Visible s.rest → parts.lifetime_param attrs s ≡ Ok (x, t) → TookOne (by.IsLifetimeAlone shown loosely) s t x
  lifetime_param_took s t x v e = params.lifetime_param_took attrs (by.with_attributes shown) laws.took s t x v e

  pub lifetime_param_sound : Whole (parts.lifetime_param attrs) (by.SpellsLifetimeParam shown loosely)
  lifetime_param_sound s t a n v e c = took_whole {Is = by.IsLifetimeAlone shown loosely} s t a (lifetime_param_took s t a v e) c

-- ---- what holds no type

pub capture_sound : Whole parts.capture (by.SpellsCapture loosely)
capture_sound s t a n v e c = took_whole {Is = IsCapture false} s t a (capture_took s t a v e) c

pub captured_sound : Whole parts.captured by.SpellsCaptured
captured_sound s t a n v e c = took_whole {Is = IsCaptured} s t a (captured_took s t a v e) c

pub abi_sound : Whole reading.abi by.SpellsAbi
abi_sound s t a n v e c = took_whole {Is = IsAbi} s t a (abi_took s t a v e) c

pub optional_abi_sound : Whole reading.optional_abi by.SpellsOptionalAbi
optional_abi_sound s t a n v e c = took_whole {Is = IsOptional IsAbi} s t a (optional_abi_took s t a v e) c

-- ---- on fronts

-- what is taken is what the clause of a read on the front of a list says
pub takes : {F : Type 0} {Is : F → Toks → Toks → Type 0} {p : Reader F} → ((s t : Stream) (x : F) → Visible s.rest → p s ≡ Ok (x, t) → TookOne Is s t x) → (s t : Stream) (r : Result F Refusal) → Reads (p s) r t → Takes Is s r t
takes h s t (Ok x) e = λ v n. (h s t x v e).spelt n
takes h s t (Err e) k = tt
