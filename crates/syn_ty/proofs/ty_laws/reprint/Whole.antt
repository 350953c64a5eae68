-- Each grammar of this layer is reprinted: what spells all of a list plainly prints its normal form clearly, which is its own and prints the same.
use Rattle.std.proofs.Common.{ℕ, Bool, true, false, List, [], Option, option_map, sym, ◌∙◌}
use Rattle.std.proofs.lemmas.Bool.{true≢false}
use Rattle.syn_ty.proofs.ty_laws.words.Tokens.{Print, IsMark, Toks, done}
use Rattle.syn_ty.proofs.ty_laws.words.Paths.{AsWritten, Expr, NormalValues, SpelledValues, Values}
use Rattle.syn_ty.proofs.ty_laws.words.Forms.{Opaque, Binder, TypePlace, Plus, NoPlus}
use Rattle.syn_ty.proofs.ty_laws.words.Types.{CapturedParam, Abi, IsBound, IsCapture, IsCaptured, IsFor, IsTraitBound, IsConstParam, IsParam, IsTypeParam, ArgumentPlace, alone, IsArgument, IsParens, IsReturn, IsAngle, an_angle, IsPath, IsSegment, Styled, IsBorrow, IsBracketed, IsCounted, IsEnclosed, IsPointer, IsTupled, IsType, IsAbi, IsFnPtr, IsNamedArg, IsImpl, IsObject, Manner, plainly, clearly, End, Parts, Relation, IsOptional, absent, present, IsPathAlone, AngleBracketed}
use Rattle.token_core.specs.Prints as p
use Rattle.token_core.specs.Tokens as token
use Rattle.syn_path.proofs.Words.{Again, AgainFront}
use Rattle.syn_ty.specs.generics.NormalShapes as shapes
use Rattle.syn_ty.specs.generics.Shapes as shown_shapes
use Rattle.syn_ty.specs.path.Printing as shown_paths
use Rattle.syn_ty.specs.ty.Normal as normal
use Rattle.syn_ty.specs.ty.Parts.{is_clear}
use Rattle.syn_ty.specs.ty.Printing as printing
use Rattle.syn_ty.specs.ty.Spelt as by
use Rattle.syn_ty.proofs.ty_laws.reprint.Angles.{angle_again, lt_no_sep, styled_angle_again}
use Rattle.syn_ty.proofs.ty_laws.reprint.Capture as captures
use Rattle.syn_ty.proofs.ty_laws.reprint.Forms.{pointer_again, borrow_again, enclosed_again, bracketed_again, counted_again, tupled_again}
use Rattle.syn_ty.proofs.ty_laws.reprint.Functions as functions
use Rattle.syn_ty.proofs.ty_laws.reprint.Knot.{Known, GivenAgain, known_to, type_turn, bound_turn, param_turn, argument_turn, bounds_of_turn}
use Rattle.syn_ty.proofs.ty_laws.reprint.Params as params
use Rattle.syn_ty.proofs.ty_laws.reprint.Objects as objects
use Rattle.syn_ty.proofs.ty_laws.reprint.Qualified.{path_alone_again}
use Rattle.syn_ty.proofs.ty_laws.reprint.Signatures as signatures
use Rattle.syn_ty.proofs.ty_laws.reprint.Signatures.{optional_front}
use Rattle.syn_ty.proofs.ty_laws.reprint.Paths as paths
use Rattle.syn_ty.proofs.ty_laws.reprint.Bound as bounds

-- ---- of every grammar

abbrev pub Whole : {F : Type 0} → (Manner → F → Toks → Type 0) → (F → F) → (F → Print) → Type 0
Whole {F} Is n f = (x : F) (l : Toks) → Is plainly x l → Again (Is clearly) n f x l

-- the same, before what follows
abbrev pub Fronts : {F : Type 0} → (Manner → Relation F) → (F → F) → (F → Print) → Type 0
Fronts {F} Is n f = (x : F) (l r : Toks) → Is plainly x l r → AgainFront (Is clearly) n f x l r

-- before nothing
pub at_end : {F : Type 0} (S : Relation F) (n : F → F) (f : F → Print) (x : F) (l : Toks) → AgainFront S n f x l done → Again (λ y m. S y m done) n f x l
at_end S n f x l k = record { spelt = k.spelt done; visible = λ u. k.visible done u tt; stays = k.stays; same = k.same }

module _ {A E : Type 0} {na : List A → List A} {ne : NormalValues E} {pa : List A → Print} {pe : Values E} {shown : Bool → List A → Toks → Toks → Type 0} {spelt : SpelledValues E} (g : GivenAgain na ne pa pe shown spelt) where
  abbrev pub To : ℕ → Manner → Parts A E
  To = by.spelt_to shown spelt

  -- at each height, and however it ends
  abbrev pub Each : {F : Type 0} → ((Manner → Parts A E) → Manner → Relation F) → (F → F) → (F → Print) → Type 0
  Each {F} Is n f = (k : ℕ) (x : F) (l r : Toks) → Is (To k) plainly x l r → AgainFront (Is (To k) clearly) n f x l r

  abbrev pub EachEnding : {F : Type 0} → ((Manner → Parts A E) → Manner → End → Relation F) → (F → F) → (F → Print) → Type 0
  EachEnding {F} Is n f = (k : ℕ) (e : End) (x : F) (l r : Toks) → Is (To k) plainly e x l r → AgainFront (Is (To k) clearly e) n f x l r

  module _ {F : Type 0} (n : F → F) (f : F → Print) where
    pub front_of : (Is : (Manner → Parts A E) → Manner → Relation F) → Each Is n f → Fronts (by.Begins shown spelt Is) n f
    front_of Is again x l r i = let k = again i.0 x l r i.1 in record { spelt = λ m. (i.0, k.spelt m); visible = λ m u v. k.visible m u v; seen = λ u. k.seen u; stays = k.stays; same = k.same }

    front_ending : (Is : (Manner → Parts A E) → Manner → End → Relation F) → EachEnding Is n f → Fronts (by.BeginsEnding shown spelt Is) n f
    front_ending Is again x l r i = let k = again i.0 i.1 x l r i.2 in record { spelt = λ m. (i.0, i.1, k.spelt m); visible = λ m u v. k.visible m u v; seen = λ u. k.seen u; stays = k.stays; same = k.same }

    pub all_of : (Is : (Manner → Parts A E) → Manner → Relation F) → Each Is n f → Whole (by.Spells shown spelt Is) n f
    all_of Is again x l i = at_end (by.Begins shown spelt Is clearly) n f x l (front_of Is again x l done i)

    all_ending : (Is : (Manner → Parts A E) → Manner → End → Relation F) → EachEnding Is n f → Whole (by.SpellsEnding shown spelt Is) n f
    all_ending Is again x l i = at_end (by.BeginsEnding shown spelt Is clearly) n f x l (front_ending Is again x l done i)

  pub known : (k : ℕ) → Known na ne pa pe (To k)
  known = known_to na ne pa pe shown spelt g

  -- ---- paths

  pub path_each : Each (λ part how. IsPath part how AsWritten) (normal.path na ne) (shown_paths.path pa pe AsWritten)
  path_each = λ k. paths.path_written_again na ne pa pe (To k) (known k).again

  pub path_again : Whole (by.SpellsPath shown spelt) (normal.path na ne) (shown_paths.path pa pe AsWritten)
  path_again = all_of (normal.path na ne) (shown_paths.path pa pe AsWritten) (λ part how. IsPath part how AsWritten) path_each

  pub segment_each : Each (λ part how. IsSegment part how AsWritten) (normal.segment na ne) (shown_paths.segment pa pe AsWritten)
  segment_each = λ k. paths.segment_written_again na ne pa pe (To k) (known k).again

  pub segment_again : Whole (by.SpellsSegment shown spelt) (normal.segment na ne) (shown_paths.segment pa pe AsWritten)
  segment_again = all_of (normal.segment na ne) (shown_paths.segment pa pe AsWritten) (λ part how. IsSegment part how AsWritten) segment_each

  pub argument_each : (place : ArgumentPlace) → Each (λ part how. IsArgument (IsType part how Plus) part how place) (normal.argument na ne) (printing.argument pa pe)
  argument_each place = λ k. argument_turn na ne pa pe (To k) (known k) place

  pub argument_again : Whole (by.SpellsArgument shown spelt) (normal.argument na ne) (printing.argument pa pe)
  argument_again = all_of (normal.argument na ne) (printing.argument pa pe) (λ part how. IsArgument (IsType part how Plus) part how alone) (argument_each alone)

  pub angle_each : Each IsAngle (normal.angle na ne) (printing.angle pa pe AsWritten)
  angle_each = λ k. angle_again na ne pa pe (To k) (known k).again

  pub angle_whole : Whole (by.SpellsAngle shown spelt) (normal.angle na ne) (printing.angle pa pe AsWritten)
  angle_whole = all_of (normal.angle na ne) (printing.angle pa pe AsWritten) IsAngle angle_each

  -- with its `::`, which is printed
  no_colon : (o : token.Lt) (l m : Toks) → Styled Expr l → IsMark false o l m → ⊥
  no_colon o l m s j = true≢false (sym s ∙ lt_no_sep false o l m j)

  turbofish_at : (k : ℕ) (x : AngleBracketed A E) (l r : Toks) → Styled Expr l → IsAngle (To k) plainly x l r → AgainFront (λ y m n. IsAngle (To k) clearly y m n × Styled Expr m) (normal.angle na ne) (printing.angle pa pe AsWritten) x l r
  turbofish_at k x l r s (an_angle {o = o} {m = m} {n = n} absent j t w) = absurd (no_colon o m n s j)
  turbofish_at k x l r s (an_angle (present i) j t w) = let h = styled_angle_again na ne pa pe (To k) (known k).again Expr x l r s (an_angle (present i) j t w) in record { spelt = λ q. let z = h.spelt q in (z.1, z.0); visible = h.visible; seen = h.seen; stays = h.stays; same = h.same }

  pub turbofish_front : Fronts (λ how x l r. by.Begins shown spelt IsAngle how x l r × Styled Expr l) (normal.angle na ne) (printing.angle pa pe AsWritten)
  turbofish_front x l r i = let k = turbofish_at i.0.0 x l r i.1 i.0.1 in record { spelt = λ m. let z = k.spelt m in ((i.0.0, z.0), z.1); visible = λ m u v. k.visible m u v; seen = λ u. k.seen u; stays = k.stays; same = k.same }

  pub turbofish_again : Whole (by.SpellsTurbofish shown spelt) (normal.angle na ne) (printing.angle pa pe AsWritten)
  turbofish_again x l i = at_end (λ y m n. by.Begins shown spelt IsAngle clearly y m n × Styled Expr m) (normal.angle na ne) (printing.angle pa pe AsWritten) x l (turbofish_front x l done i)

  pub parenthesized_each : EachEnding IsParens (normal.parenthesized na ne) (printing.parenthesized pa pe)
  parenthesized_each = λ k. signatures.parens_again na ne pa pe (To k) (known k).again (known k).supplied

  pub parenthesized_again : Whole (by.SpellsParens shown spelt) (normal.parenthesized na ne) (printing.parenthesized pa pe)
  parenthesized_again = all_ending (normal.parenthesized na ne) (printing.parenthesized pa pe) IsParens parenthesized_each

  -- ---- types, with plus or without

  pub ty_each : (place : TypePlace) → EachEnding (λ part how. IsType part how place) (normal.ty na ne) (printing.ty pa pe)
  ty_each place = λ k. type_turn na ne pa pe (To k) (known k) place

  pub ty_again : (place : TypePlace) → Whole (by.SpellsType shown spelt place) (normal.ty na ne) (printing.ty pa pe)
  ty_again place = all_ending (normal.ty na ne) (printing.ty pa pe) (λ part how. IsType part how place) (ty_each place)

  pub return_type_each : (place : TypePlace) → EachEnding (λ part how. IsReturn part how place) (normal.return_type na ne) (printing.return_type pa pe)
  return_type_each place = λ k. signatures.return_again na ne pa pe (To k) (known k).again place

  pub return_type_again : (place : TypePlace) → Whole (by.SpellsReturn shown spelt place) (normal.return_type na ne) (printing.return_type pa pe)
  return_type_again place = all_ending (normal.return_type na ne) (printing.return_type pa pe) (λ part how. IsReturn part how place) (return_type_each place)

  pub trait_object_each : (place : TypePlace) → Each (λ part how. IsObject part how place) (normal.trait_object na ne) (printing.trait_object pa pe)
  trait_object_each place = λ k. objects.object_again na ne pa pe (To k) (known k).again place g.own

  pub trait_object_again : (place : TypePlace) → Whole (by.SpellsObject shown spelt place) (normal.trait_object na ne) (printing.trait_object pa pe)
  trait_object_again place = all_of (normal.trait_object na ne) (printing.trait_object pa pe) (λ part how. IsObject part how place) (trait_object_each place)

  pub impl_trait_each : (place : TypePlace) → EachEnding (λ part how. IsImpl part how place) (normal.impl_trait na ne) (printing.impl_trait pa pe)
  impl_trait_each place = λ k. objects.impl_again na ne pa pe (To k) (known k).again place g.own

  pub impl_trait_again : (place : TypePlace) → Whole (by.SpellsImpl shown spelt place) (normal.impl_trait na ne) (printing.impl_trait pa pe)
  impl_trait_again place = all_ending (normal.impl_trait na ne) (printing.impl_trait pa pe) (λ part how. IsImpl part how place) (impl_trait_each place)

  pub array_each : Each IsCounted (normal.array na ne) (printing.array pa pe)
  array_each = λ k. counted_again na ne pa pe (To k) (known k).again (known k).supplied (known k).len_stays

  pub array_again : Whole (by.SpellsArray shown spelt) (normal.array na ne) (printing.array pa pe)
  array_again = all_of (normal.array na ne) (printing.array pa pe) IsCounted array_each

  pub fn_ptr_each : EachEnding IsFnPtr (normal.fn_ptr na ne) (printing.fn_ptr pa pe)
  fn_ptr_each = λ k. functions.fn_ptr_again na ne pa pe (To k) (known k).again (known k).supplied

  pub fn_ptr_again : Whole (by.SpellsFnPtr shown spelt) (normal.fn_ptr na ne) (printing.fn_ptr pa pe)
  fn_ptr_again = all_ending (normal.fn_ptr na ne) (printing.fn_ptr pa pe) IsFnPtr fn_ptr_each

  -- none is spelt
  pub group_again : Whole (by.SpellsGroup shown spelt) (normal.group na ne) (printing.group pa pe)
  group_again x l i = absurd i

  pub paren_each : Each (λ part how. IsEnclosed part how NoPlus) (normal.paren na ne) (printing.paren pa pe)
  paren_each = λ k. enclosed_again na ne pa pe (To k) (known k).again (known k).supplied NoPlus

  pub paren_again : Whole (by.SpellsParen shown spelt) (normal.paren na ne) (printing.paren pa pe)
  paren_again = all_of (normal.paren na ne) (printing.paren pa pe) (λ part how. IsEnclosed part how NoPlus) paren_each

  pub path_type_each : Each (IsPathAlone shown spelt) (normal.path_type na ne) (printing.path_type pa pe)
  path_type_each = λ k. path_alone_again na ne pa pe (To k) (known k).again (known k).supplied shown spelt

  pub path_type_again : Whole (by.SpellsTypePath shown spelt) (normal.path_type na ne) (printing.path_type pa pe)
  path_type_again = all_of (normal.path_type na ne) (printing.path_type pa pe) (IsPathAlone shown spelt) path_type_each

  pub ptr_each : EachEnding IsPointer (normal.ptr na ne) (printing.ptr pa pe)
  ptr_each = λ k. pointer_again na ne pa pe (To k) (known k).again (known k).supplied

  pub ptr_again : Whole (by.SpellsPtr shown spelt) (normal.ptr na ne) (printing.ptr pa pe)
  ptr_again = all_ending (normal.ptr na ne) (printing.ptr pa pe) IsPointer ptr_each

  pub reference_each : EachEnding IsBorrow (normal.reference na ne) (printing.reference pa pe)
  reference_each = λ k. borrow_again na ne pa pe (To k) (known k).again (known k).supplied (known k).none

  pub reference_again : Whole (by.SpellsReference shown spelt) (normal.reference na ne) (printing.reference pa pe)
  reference_again = all_ending (normal.reference na ne) (printing.reference pa pe) IsBorrow reference_each

  pub slice_each : Each IsBracketed (normal.slice na ne) (printing.slice pa pe)
  slice_each = λ k. bracketed_again na ne pa pe (To k) (known k).again (known k).supplied

  pub slice_again : Whole (by.SpellsSlice shown spelt) (normal.slice na ne) (printing.slice pa pe)
  slice_again = all_of (normal.slice na ne) (printing.slice pa pe) IsBracketed slice_each

  -- its first element may begin with a lifetime
  pub tuple_each : Each (λ part how. IsTupled part how (λ l. Unit {0})) (normal.tuple na ne) (printing.tuple pa pe)
  tuple_each = λ k. tupled_again na ne pa pe (To k) (known k).again (known k).supplied (λ l. Unit {0}) (λ e x l r i b h. tt)

  pub tuple_again : Whole (by.SpellsTuple shown spelt) (normal.tuple na ne) (printing.tuple pa pe)
  tuple_again = all_of (normal.tuple na ne) (printing.tuple pa pe) (λ part how. IsTupled part how (λ l. Unit {0})) tuple_each

  pub named_arg_each : Each (λ part how. IsNamedArg part how false) (normal.named_arg na ne) (printing.named_arg pa pe)
  named_arg_each = λ k. functions.named_arg_again na ne pa pe (To k) (known k).again (known k).supplied false

  pub named_arg_again : Whole (by.SpellsNamedArg shown spelt) (normal.named_arg na ne) (printing.named_arg pa pe)
  named_arg_again = all_of (normal.named_arg na ne) (printing.named_arg pa pe) (λ part how. IsNamedArg part how false) named_arg_each

  -- ---- generics

  pub param_each : Each (λ part how. IsParam part how Binder) (normal.param na ne) (printing.param pa pe)
  param_each = λ k. param_turn na ne pa pe (To k) (known k) Binder

  pub param_again : Whole (by.SpellsParam shown spelt) (normal.param na ne) (printing.param pa pe)
  param_again = all_of (normal.param na ne) (printing.param pa pe) (λ part how. IsParam part how Binder) param_each

  pub type_param_each : Each IsTypeParam (normal.type_param na ne) (printing.type_param pa pe)
  type_param_each = λ k. params.type_param_again na ne pa pe (To k) (known k).again (known k).supplied (bounds_of_turn na ne pa pe (To k) (known k))

  pub type_param_again : Whole (by.SpellsTypeParam shown spelt) (normal.type_param na ne) (printing.type_param pa pe)
  type_param_again = all_of (normal.type_param na ne) (printing.type_param pa pe) IsTypeParam type_param_each

  pub const_param_each : Each IsConstParam (normal.const_param na ne) (printing.const_param pa pe)
  const_param_each = λ k. params.const_param_again na ne pa pe (To k) (known k).again (known k).supplied

  pub const_param_again : Whole (by.SpellsConstParam shown spelt) (normal.const_param na ne) (printing.const_param pa pe)
  const_param_again = all_of (normal.const_param na ne) (printing.const_param pa pe) IsConstParam const_param_each

  pub binder_each : Each IsFor (normal.bound_lifetimes na ne) (printing.bound_lifetimes pa pe)
  binder_each = λ k. params.for_again na ne pa pe (To k) (known k).again

  pub binder_again : Whole (by.SpellsBinder shown spelt) (normal.bound_lifetimes na ne) (printing.bound_lifetimes pa pe)
  binder_again = all_of (normal.bound_lifetimes na ne) (printing.bound_lifetimes pa pe) IsFor binder_each

  pub optional_binder_each : Each (λ part how. IsOptional (IsFor part how)) (option_map (normal.bound_lifetimes na ne)) (p.optional (printing.bound_lifetimes pa pe))
  optional_binder_each = λ k. params.optional_for_again na ne pa pe (To k) (known k).again

  pub optional_binder_again : Whole (by.SpellsOptionalBinder shown spelt) (option_map (normal.bound_lifetimes na ne)) (p.optional (printing.bound_lifetimes pa pe))
  optional_binder_again = all_of (option_map (normal.bound_lifetimes na ne)) (p.optional (printing.bound_lifetimes pa pe)) (λ part how. IsOptional (IsFor part how)) optional_binder_each

  pub bound_each : EachEnding (λ part how. IsBound part how Opaque) (normal.bound na ne) (printing.bound pa pe)
  bound_each = λ k. bound_turn na ne pa pe (To k) (known k) Opaque

  pub bound_again : Whole (by.SpellsBound shown spelt) (normal.bound na ne) (printing.bound pa pe)
  bound_again = all_ending (normal.bound na ne) (printing.bound pa pe) (λ part how. IsBound part how Opaque) bound_each

  pub trait_bound_each : EachEnding (λ part how. IsTraitBound part how false) (normal.trait_bound na ne) (printing.trait_bound pa pe)
  trait_bound_each = λ k. bounds.trait_bound_again na ne pa pe (To k) (known k).again (known k).supplied false

  pub trait_bound_again : Whole (by.SpellsTraitBound shown spelt) (normal.trait_bound na ne) (printing.trait_bound pa pe)
  trait_bound_again = all_ending (normal.trait_bound na ne) (printing.trait_bound pa pe) (λ part how. IsTraitBound part how false) trait_bound_each

-- ---- a lifetime parameter

module _ {A : Type 0} (na : List A → List A) (pa : List A → Print) (shown : Bool → List A → Toks → Toks → Type 0) (attrs : (x : List A) (l r : Toks) → shown false x l r → AgainFront (shown true) na pa x l r) where
  -- it holds no expression
  abbrev no_normal : NormalValues (Unit {0})
  no_normal = record { len = λ x. x; const_argument = λ x. x }

  abbrev no_print : Values (Unit {0})
  no_print = record { len = λ x. []; const_argument = λ x. [] }

  pub lifetime_param_front : Fronts (by.IsLifetimeAlone shown) (shapes.lifetime_param na no_normal) (shown_shapes.lifetime_param_by pa)
  lifetime_param_front x l r i = params.lifetime_param_again na no_normal pa no_print (by.with_attributes shown) attrs x l r i

  pub lifetime_param_again : Whole (by.SpellsLifetimeParam shown) (shapes.lifetime_param na no_normal) (shown_shapes.lifetime_param_by pa)
  lifetime_param_again x l i = at_end (by.IsLifetimeAlone shown clearly) (shapes.lifetime_param na no_normal) (shown_shapes.lifetime_param_by pa) x l (lifetime_param_front x l done i)

-- ---- what holds no type

pub capture_front : Fronts (λ how. IsCapture (is_clear how)) shapes.capture shown_shapes.capture
capture_front x l r i = captures.capture_again x l r i

pub capture_again : Whole by.SpellsCapture shapes.capture shown_shapes.capture
capture_again x l i = at_end (IsCapture true) shapes.capture shown_shapes.capture x l (capture_front x l done i)

pub captured_front : Fronts (λ how. IsCaptured) (λ x. x) shown_shapes.captured
captured_front x l r i = captures.captured_again x l r i

pub captured_again : Whole (λ how x l. by.SpellsCaptured x l) (λ x. x) shown_shapes.captured
captured_again x l i = at_end IsCaptured (λ (z : CapturedParam). z) shown_shapes.captured x l (captured_front x l done i)

pub abi_front : Fronts (λ how. IsAbi) (λ x. x) printing.abi
abi_front x l r i = signatures.abi_again x l r i

pub abi_again : Whole (λ how x l. by.SpellsAbi x l) (λ x. x) printing.abi
abi_again x l i = at_end IsAbi (λ (z : Abi). z) printing.abi x l (abi_front x l done i)

pub optional_abi_front : Fronts (λ how. IsOptional IsAbi) (λ x. x) printing.optional_abi
optional_abi_front x l r i = optional_front IsAbi IsAbi printing.abi signatures.abi_again x l r i

pub optional_abi_again : Whole (λ how x l. by.SpellsOptionalAbi x l) (λ x. x) printing.optional_abi
optional_abi_again x l i = at_end (IsOptional IsAbi) (λ (z : Option Abi). z) printing.optional_abi x l (optional_abi_front x l done i)
