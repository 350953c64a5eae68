-- Each whole read of this layer is complete: a tree that all of a list spells clearly by its promise is what it answers, and nothing is left over.
use Rattle.std.proofs.Common.{◌≡◌, ℕ, Bool, true, false, List, [], ◌∷◌, Option, None, Ok, refl}
use Rattle.syn_ty.proofs.ty_laws.words.Tokens.{Span, sees_str, Reader, is_done, leaves, sees_mark, sees_word, Visible, Scope, Stream, Bytes, Toks, done}
use Rattle.syn_ty.proofs.ty_laws.words.Paths.{AsWritten, ReadValues, SpelledValues}
use Rattle.syn_ty.proofs.ty_laws.words.Forms.{Opaque, Binder, TypePlace, allows_plus}
use Rattle.syn_ty.proofs.ty_laws.words.Types.{alone, ends_constraint, clearly, closed}
use Rattle.token_core.specs.Tokens as token
use Rattle.token_core.proofs.Steps.{Reads_to}
use Rattle.token_core.proofs.Took.{at, leaves_none}
use Rattle.syn_ty.specs.generics.Reading as parts
use Rattle.syn_ty.specs.ty.Knot as knot
use Rattle.syn_ty.specs.ty.Reading as reading
use Rattle.syn_ty.specs.ty.Spelt as by
use Rattle.syn_ty.proofs.ty_laws.complete.Alone as front
use Rattle.syn_ty.proofs.ty_laws.complete.Bound.{done_fits}
use Rattle.syn_ty.proofs.ty_laws.complete.Capture.{capture_met, captured_met}
use Rattle.syn_ty.proofs.ty_laws.complete.Functions.{abi_met, optional_abi_met}
use Rattle.syn_ty.proofs.ty_laws.complete.Knot.{GivenMeets}
use Rattle.syn_ty.proofs.ty_laws.complete.Within.{PathStops, Stops, ends_param}
use Rattle.syn_ty.proofs.ty_laws.complete.Params.{lifetime_param_met}
use Rattle.syn_ty.proofs.ty_laws.complete.Signatures.{done_ends, nothing_there}
use Rattle.syn_ty.proofs.ty_laws.complete.Signed.{path_stops}

-- ---- of every grammar

-- a whole read is complete: it answers what spells the list, and leaves nothing over
abbrev pub Whole : {F : Type 0} → Reader F → (F → Toks → Type 0) → Type 0
Whole {F} reader Is = (s : Stream) (a : F) → s.left ≡ None → Visible s.rest → Is a s.rest → (t : Stream) × (reader s ≡ Ok (a, t)) × (leaves t ≡ None)

-- a read to the end of a list
pub to_end : {F : Type 0} (reader : Reader F) (s : Stream) (a : F) → s.left ≡ None → Reads_to reader a s.rest done s.left s.last s.scope → (t : Stream) × (reader s ≡ Ok (a, t)) × (leaves t ≡ None)
to_end reader s a n w = (at done s.left w.last s.scope, w.reads, leaves_none s.left w.last s.scope n)

-- ---- what follows all of a list: nothing

stops : Stops done
stops = (done_fits closed).stops

path_ends : PathStops AsWritten done
path_ends = path_stops done stops

pub no_mark : (c : ℕ) (cs : List ℕ) → sees_mark (c ∷ cs) done ≡ false
unfolding sees_mark
no_mark c cs = refl

pub no_word : (test : Bytes → Bool) → sees_word test done ≡ false
unfolding sees_word
no_word test = refl

no_str : sees_str done ≡ false
unfolding sees_str
no_str = refl

param_ends : ends_param done ≡ true
unfolding is_done ends_constraint sees_mark
param_ends = refl

module _ {A E : Type 0} {attrs : Reader (List A)} {values : ReadValues E} {shown : Bool → List A → Toks → Toks → Type 0} {spelt : SpelledValues E} (g : GivenMeets attrs values shown spelt) where
  -- ---- paths

  pub path_complete : Whole (knot.path attrs values AsWritten) (by.SpellsPath shown spelt clearly)
  path_complete s a n v i = to_end (knot.path attrs values AsWritten) s a n (front.path_met g i.0 AsWritten a s.rest done s.left s.last s.scope i.1 path_ends)

  pub segment_complete : Whole (knot.segment attrs values) (by.SpellsSegment shown spelt clearly)
  segment_complete s a n v i = to_end (knot.segment attrs values) s a n (front.segment_met g i.0 a s.rest done s.left s.last s.scope i.1 path_ends.no_arguments)

  -- alone
  pub argument_complete : Whole (knot.argument attrs values) (by.SpellsArgument shown spelt clearly)
  argument_complete s a n v i = to_end (knot.argument attrs values) s a n (front.argument_met g i.0 alone a s.rest done s.left s.last s.scope i.1 nothing_there)

  pub angle_complete : Whole (knot.angle_bracketed attrs values) (by.SpellsAngle shown spelt clearly)
  angle_complete s a n v i = to_end (knot.angle_bracketed attrs values) s a n (front.angle_met g i.0 a s.rest done s.left s.last s.scope i.1)

  pub turbofish_complete : Whole (knot.turbofish attrs values) (by.SpellsTurbofish shown spelt clearly)
  turbofish_complete s a n v i = to_end (knot.turbofish attrs values) s a n (front.turbofish_met g i.0.0 a s.rest done s.left s.last s.scope i.0.1 i.1)

  pub parenthesized_complete : Whole (knot.parenthesized attrs values) (by.SpellsParens shown spelt clearly)
  parenthesized_complete s a n v i = to_end (knot.parenthesized attrs values) s a n (front.parenthesized_met g i.0 i.1 a s.rest done s.left s.last s.scope i.2 (done_fits i.1))

  -- ---- types, with plus or without

  pub ty_complete : (place : TypePlace) → Whole (knot.ty attrs values place) (by.SpellsType shown spelt place clearly)
  ty_complete place s a n v i = to_end (knot.ty attrs values place) s a n (front.ty_met g i.0 place i.1 a s.rest done s.left s.last s.scope i.2 (done_fits i.1) (λ q. no_mark 43 []))

  pub return_type_complete : (place : TypePlace) → Whole (knot.return_type attrs values place) (by.SpellsReturn shown spelt place clearly)
  return_type_complete place s a n v i = to_end (knot.return_type attrs values place) s a n (front.return_type_met g i.0 place i.1 a s.rest done s.left s.last s.scope i.2 (done_fits i.1) (λ q. no_mark 43 []))

  pub trait_object_complete : (place : TypePlace) → Whole (knot.trait_object attrs values (allows_plus place)) (by.SpellsObject shown spelt place clearly)
  trait_object_complete place s a n v i = to_end (knot.trait_object attrs values (allows_plus place)) s a n (front.trait_object_met g i.0 place a s.rest done s.left s.last s.scope i.1 done_fits)

  pub impl_trait_complete : (place : TypePlace) → Whole (knot.impl_trait attrs values (allows_plus place)) (by.SpellsImpl shown spelt place clearly)
  impl_trait_complete place s a n v i = to_end (knot.impl_trait attrs values (allows_plus place)) s a n (front.impl_trait_met g i.0 place i.1 a s.rest done s.left s.last s.scope i.2 (done_fits i.1))

  pub array_complete : Whole (knot.array attrs values) (by.SpellsArray shown spelt clearly)
  array_complete s a n v i = to_end (knot.array attrs values) s a n (front.array_met g i.0 a s.rest done s.left s.last s.scope i.1)

  pub fn_ptr_complete : Whole (knot.fn_ptr attrs values) (by.SpellsFnPtr shown spelt clearly)
  fn_ptr_complete s a n v i = to_end (knot.fn_ptr attrs values) s a n (front.fn_ptr_met g i.0 i.1 a s.rest done s.left s.last s.scope i.2 (done_fits i.1))

  -- none is spelt by such a list
  pub group_complete : Whole (knot.group attrs values) (by.SpellsGroup shown spelt clearly)
  group_complete s a n v i = absurd i

  pub paren_complete : Whole (knot.paren attrs values) (by.SpellsParen shown spelt clearly)
  paren_complete s a n v i = to_end (knot.paren attrs values) s a n (front.paren_met g i.0 a s.rest done s.left s.last s.scope i.1)

  pub path_type_complete : Whole (knot.path_type attrs values) (by.SpellsTypePath shown spelt clearly)
  path_type_complete s a n v i = to_end (knot.path_type attrs values) s a n (front.path_type_met g i.0 a s.rest done s.left s.last s.scope i.1 path_ends stops.no_sep)

  pub ptr_complete : Whole (knot.ptr attrs values) (by.SpellsPtr shown spelt clearly)
  ptr_complete s a n v i = to_end (knot.ptr attrs values) s a n (front.ptr_met g i.0 i.1 a s.rest done s.left s.last s.scope i.2 (done_fits i.1))

  pub reference_complete : Whole (knot.reference attrs values) (by.SpellsReference shown spelt clearly)
  reference_complete s a n v i = to_end (knot.reference attrs values) s a n (front.reference_met g i.0 i.1 a s.rest done s.left s.last s.scope i.2 (done_fits i.1))

  pub slice_complete : Whole (knot.slice attrs values) (by.SpellsSlice shown spelt clearly)
  slice_complete s a n v i = to_end (knot.slice attrs values) s a n (front.slice_met g i.0 a s.rest done s.left s.last s.scope i.1)

  pub tuple_complete : Whole (knot.tuple attrs values) (by.SpellsTuple shown spelt clearly)
  tuple_complete s a n v i = to_end (knot.tuple attrs values) s a n (front.tuple_met g i.0 a s.rest done s.left s.last s.scope i.1)

  pub named_arg_complete : Whole (knot.named_arg attrs values) (by.SpellsNamedArg shown spelt clearly)
  named_arg_complete s a n v i = to_end (knot.named_arg attrs values) s a n (front.named_arg_met g i.0 a s.rest done s.left s.last s.scope i.1 done_ends)

  -- ---- generics

  pub param_complete : Whole (knot.param attrs values Binder) (by.SpellsParam shown spelt clearly)
  param_complete s a n v i = to_end (knot.param attrs values Binder) s a n (front.param_met g i.0 Binder a s.rest done s.left s.last s.scope i.1 param_ends)

  pub type_param_complete : Whole (knot.type_param attrs values) (by.SpellsTypeParam shown spelt clearly)
  type_param_complete s a n v i = to_end (knot.type_param attrs values) s a n (front.type_param_met g i.0 a s.rest done s.left s.last s.scope i.1 param_ends)

  pub const_param_complete : Whole (knot.const_param attrs values) (by.SpellsConstParam shown spelt clearly)
  const_param_complete s a n v i = to_end (knot.const_param attrs values) s a n (front.const_param_met g i.0 a s.rest done s.left s.last s.scope i.1 param_ends)

  pub binder_complete : Whole (knot.binder attrs values) (by.SpellsBinder shown spelt clearly)
  binder_complete s a n v i = to_end (knot.binder attrs values) s a n (front.binder_met g i.0 a s.rest done s.left s.last s.scope i.1)

  pub optional_binder_complete : Whole (knot.optional_binder attrs values) (by.SpellsOptionalBinder shown spelt clearly)
  optional_binder_complete s a n v i = to_end (knot.optional_binder attrs values) s a n (front.optional_binder_met g i.0 a s.rest done s.left s.last s.scope i.1 (λ q. no_word _))

  pub bound_complete : Whole (knot.bound attrs values Opaque) (by.SpellsBound shown spelt clearly)
  bound_complete s a n v i = to_end (knot.bound attrs values Opaque) s a n (front.bound_met g i.0 Opaque i.1 a s.rest done s.left s.last s.scope i.2 (done_fits i.1))

  pub trait_bound_complete : Whole (knot.trait_bound attrs values) (by.SpellsTraitBound shown spelt clearly)
  trait_bound_complete s a n v i = to_end (knot.trait_bound attrs values) s a n (front.trait_bound_met g i.0 i.1 a s.rest done s.left s.last s.scope i.2 (done_fits i.1))

-- ---- a lifetime parameter

module _ {A : Type 0} (attrs : Reader (List A)) (shown : Bool → List A → Toks → Toks → Type 0)
    (attrs_met : (x : List A) (l k : Toks) (f : Option Span) (e : Span) (sc : Scope) → shown true x l k → token.sees_pound k ≡ false → Reads_to attrs x l k f e sc) where
  pub lifetime_param_complete : Whole (parts.lifetime_param attrs) (by.SpellsLifetimeParam shown clearly)
  lifetime_param_complete s a n v i = to_end (parts.lifetime_param attrs) s a n (lifetime_param_met attrs (by.with_attributes shown) attrs_met a s.rest done s.left s.last s.scope i param_ends)

-- ---- what holds no type

pub capture_complete : Whole parts.capture (by.SpellsCapture clearly)
capture_complete s a n v i = to_end parts.capture s a n (capture_met a s.rest done s.left s.last s.scope i)

pub captured_complete : Whole parts.captured by.SpellsCaptured
captured_complete s a n v i = to_end parts.captured s a n (captured_met a s.rest done s.left s.last s.scope i)

pub abi_complete : Whole reading.abi by.SpellsAbi
abi_complete s a n v i = to_end reading.abi s a n (abi_met a s.rest done s.left s.last s.scope i no_str)

pub optional_abi_complete : Whole reading.optional_abi by.SpellsOptionalAbi
optional_abi_complete s a n v i = to_end reading.optional_abi s a n (optional_abi_met a s.rest done s.left s.last s.scope i (no_word _) no_str)
