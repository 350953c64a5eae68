-- Each reader of this layer by itself on the front of a list is complete: at every height of a tree, what is spelt clearly there is what it answers, and it takes no more.
use Rattle.std.proofs.Common.{◌≡◌, ℕ, ◌≤◌, Bool, true, false, List, Option, None, is_some, refl, arith}
use Rattle.syn_ty.proofs.ty_laws.words.Tokens.{Span, Reader, Scope, Toks}
use Rattle.syn_ty.proofs.ty_laws.words.Paths.{PathStyle, AsWritten, Expr, sees_sep, ReadValues, SpelledValues}
use Rattle.syn_ty.proofs.ty_laws.words.Forms.{BoundPlace, Object, ParamPlace, TypePlace, NoPlus, Plus, ahead, sees_arguments, allows_plus}
use Rattle.syn_ty.proofs.ty_laws.words.Types.{IsBound, IsFor, IsTraitBound, IsConstParam, IsParam, IsTypeParam, ArgumentPlace, IsArgument, IsParens, IsReturn, IsAngle, IsAnyPath, IsPath, IsSegment, Styled, IsBorrow, IsBracketed, IsCounted, IsEnclosed, IsPointer, IsTupled, IsType, IsFnPtr, IsNamedArg, reads_below, IsImpl, IsObject, Manner, clearly, End, Parts, Readers, IsOptional, IsPathAlone, spelt_to, AngleBracketed, BoundLifetimes, ConstParam, GenericArgument, GenericParam, NamedArg, Parenthesized, Path, PathSegment, QSelf, ReturnType, TraitBound, TypeArray, TypeFnPtr, TypeImplTrait, TypeParam, TypeParamBound, TypeParen, TypePath, TypePtr, TypeReference, TypeSlice, TypeTraitObject, TypeTree, TypeTuple}
use Rattle.token_core.specs.Tokens as token
use Rattle.token_core.proofs.Steps.{Reads_to}
use Rattle.token_core.proofs.Took.{at}
use Rattle.syn_ty.specs.generics.Reading as generics
use Rattle.syn_ty.specs.path.Alone as paths
use Rattle.syn_ty.specs.path.Reading as reads
use Rattle.syn_ty.specs.ty.Knot as knot
use Rattle.syn_ty.specs.ty.Reading as reading
use Rattle.syn_ty.proofs.ty_laws.complete.Angles as angles
use Rattle.syn_ty.proofs.ty_laws.complete.Arguments.{EndsArgument}
use Rattle.syn_ty.proofs.ty_laws.complete.Forms as forms
use Rattle.syn_ty.proofs.ty_laws.complete.Functions as functions
use Rattle.syn_ty.proofs.ty_laws.sound.Higher.{higher}
use Rattle.syn_ty.proofs.ty_laws.complete.Inputs as inputs
use Rattle.syn_ty.proofs.ty_laws.complete.Knot as of_knot
use Rattle.syn_ty.proofs.ty_laws.complete.Knot.{GivenMeets, firsts_at, knot_met, supplied_to}
use Rattle.syn_ty.proofs.ty_laws.complete.Within.{Firsts, Fits, Meets, PathStops, SuppliedMeets, ends_param}
use Rattle.syn_ty.proofs.ty_laws.complete.Objects as objects
use Rattle.syn_ty.proofs.ty_laws.complete.Params as params
use Rattle.syn_ty.proofs.ty_laws.complete.Paths as of_paths
use Rattle.syn_ty.proofs.ty_laws.complete.Qualified as qualified
use Rattle.syn_ty.proofs.ty_laws.complete.Signatures as signatures
use Rattle.syn_ty.proofs.ty_laws.complete.Signatures.{EndsInput}

module _ {A E : Type 0} {attrs : Reader (List A)} {values : ReadValues E} {shown : Bool → List A → Toks → Toks → Type 0} {spelt : SpelledValues E} (g : GivenMeets attrs values shown spelt) where
  abbrev pub To : ℕ → Manner → Parts A E
  To = spelt_to shown spelt

  pub supplied : (n : ℕ) → SuppliedMeets attrs values (To n)
  supplied = supplied_to attrs values shown spelt g

  pub firsts : (n : ℕ) → Firsts (To n)
  firsts = firsts_at attrs values shown spelt g

  pub below : (limit n : ℕ) → Meets (reads_below attrs values limit) (To n) limit
  below = knot_met attrs values shown spelt g

  -- what a form holds is read below what is left where the form begins
  abbrev within : ℕ → Readers A E
  within = reads_below attrs values

  -- ---- types, bounds, parameters and arguments

  pub ty_met : (n : ℕ) (place : TypePlace) (d : End) (x : TypeTree A E) (l k : Toks) (f : Option Span) (e : Span) (sc : Scope) → IsType (To n) clearly place d x l k → Fits d k → (allows_plus place ≡ true → token.sees_plus k ≡ false) → Reads_to (knot.ty attrs values place) x l k f e sc
  ty_met n place d x l k f e sc i o u = of_knot.type_by attrs values shown spelt g n place d x l k f e sc (below (ahead (at l f e sc))) i o u

  pub bound_met : (n : ℕ) (place : BoundPlace) (d : End) (x : TypeParamBound A E) (l k : Toks) (f : Option Span) (e : Span) (sc : Scope) → IsBound (To n) clearly place d x l k → Fits d k → Reads_to (knot.bound attrs values place) x l k f e sc
  bound_met n place d x l k f e sc i o = of_knot.bound_by attrs values shown spelt g n place d x l k f e sc (below (ahead (at l f e sc))) i o

  pub param_met : (n : ℕ) (place : ParamPlace) (x : GenericParam A E) (l k : Toks) (f : Option Span) (e : Span) (sc : Scope) → IsParam (To n) clearly place x l k → ends_param k ≡ true → Reads_to (knot.param attrs values place) x l k f e sc
  param_met n place x l k f e sc i o = of_knot.param_by attrs values shown spelt g n place x l k f e sc (below (ahead (at l f e sc))) i o

  pub argument_met : (n : ℕ) (place : ArgumentPlace) (x : GenericArgument A E) (l k : Toks) (f : Option Span) (e : Span) (sc : Scope) → IsArgument (IsType (To n) clearly Plus) (To n) clearly place x l k → EndsArgument place k → Reads_to (knot.argument attrs values) x l k f e sc
  argument_met n place x l k f e sc i o = of_knot.argument_by attrs values shown spelt g n place x l k f e sc (below (ahead (at l f e sc))) i o

  -- ---- what stands within a tree of some height is a tree of one height more

  pub within_type : (n : ℕ) (place : TypePlace) (d : End) (x : TypeTree A E) (l k : Toks) → (To n clearly).ty place d x l k → IsType (To n) clearly place d x l k
  within_type n place d x l k i = (higher shown spelt n clearly).ty place d x l k i

  within_bound : (n : ℕ) (place : BoundPlace) (d : End) (x : TypeParamBound A E) (l k : Toks) → (To n clearly).bound place d x l k → IsBound (To n) clearly place d x l k
  within_bound n place d x l k i = (higher shown spelt n clearly).bound place d x l k i

  -- ---- single forms: what they hold is read further on

  single_met : {F : Type 0} (form : Readers A E → Reader F) (x : F) (l k : Toks) (f : Option Span) (e : Span) (sc : Scope) → ((limit : ℕ) → ahead (at l f e sc) ≤ limit → Reads_to (form (within limit)) x l k f e sc) → Reads_to (knot.single attrs values form) x l k f e sc
  single_met form x l k f e sc h = let w = h (ahead (at l f e sc)) (omega arith) in record { last = w.last; reads = w.reads }

  -- ---- paths

  pub path_met : (n : ℕ) (style : PathStyle) (x : Path A E) (l k : Toks) (f : Option Span) (e : Span) (sc : Scope) → IsPath (To n) clearly style x l k → PathStops style k → Reads_to (knot.path attrs values style) x l k f e sc
  unfolding knot.path
  path_met n style x l k f e sc i o = single_met (λ r. reads.path r style) x l k f e sc (λ b h. of_paths.path_met (within b) (To n) b (below b n) style x l k f e sc h i o)

  pub segment_met : (n : ℕ) (x : PathSegment A E) (l k : Toks) (f : Option Span) (e : Span) (sc : Scope) → IsSegment (To n) clearly AsWritten x l k → sees_arguments AsWritten k ≡ false → Reads_to (knot.segment attrs values) x l k f e sc
  unfolding knot.segment
  segment_met n x l k f e sc i o = single_met (λ r. reads.segment r AsWritten) x l k f e sc (λ b h. of_paths.segment_met (within b) (To n) b (below b n) AsWritten x l k f e sc h i o)

  pub angle_met : (n : ℕ) (x : AngleBracketed A E) (l k : Toks) (f : Option Span) (e : Span) (sc : Scope) → IsAngle (To n) clearly x l k → Reads_to (knot.angle_bracketed attrs values) x l k f e sc
  unfolding knot.angle_bracketed
  angle_met n x l k f e sc i = single_met reads.angle_bracketed x l k f e sc (λ b h. angles.angle_met (within b) (To n) b (below b n) x l k f e sc h i)

  pub turbofish_met : (n : ℕ) (x : AngleBracketed A E) (l k : Toks) (f : Option Span) (e : Span) (sc : Scope) → IsAngle (To n) clearly x l k → Styled Expr l → Reads_to (knot.turbofish attrs values) x l k f e sc
  unfolding knot.turbofish
  turbofish_met n x l k f e sc i o = single_met reads.turbofish x l k f e sc (λ b h. angles.turbofish_met (within b) (To n) b (below b n) x l k f e sc h i o)

  pub parenthesized_met : (n : ℕ) (d : End) (x : Parenthesized A E) (l k : Toks) (f : Option Span) (e : Span) (sc : Scope) → IsParens (To n) clearly d x l k → Fits d k → Reads_to (knot.parenthesized attrs values) x l k f e sc
  unfolding knot.parenthesized
  parenthesized_met n d x l k f e sc i o = single_met reads.parenthesized x l k f e sc (λ b h. signatures.parens_met (within b) (To n) b (below b n) d x l k f e sc h i o)

  pub path_type_met : (n : ℕ) (x : TypePath A E) (l k : Toks) (f : Option Span) (e : Span) (sc : Scope) → IsPathAlone shown spelt (To n) clearly x l k → PathStops AsWritten k → sees_sep k ≡ false → Reads_to (knot.path_type attrs values) x l k f e sc
  unfolding knot.path_type
  path_type_met n x l k f e sc i o u = single_met reads.path_type x l k f e sc (λ b h. qualified.path_type_met (within b) (To n) b (below b n) shown spelt x l k f e sc h i o u)

  pub maybe_qualified_met : (n : ℕ) (style : PathStyle) (o : Option (QSelf A E)) (x : Path A E) (l k : Toks) (f : Option Span) (e : Span) (sc : Scope) → IsAnyPath (To n) clearly style o x l k → PathStops style k → (is_some o ≡ true → sees_sep k ≡ false) → Reads_to (paths.maybe_qualified attrs values style) (o, x) l k f e sc
  unfolding paths.maybe_qualified
  maybe_qualified_met n style o x l k f e sc i p u = single_met (λ r. reads.maybe_qualified r style) (o, x) l k f e sc (λ b h. qualified.any_met (within b) (To n) b (below b n) style o x l k f e sc h i p u)

  -- ---- types

  pub return_type_met : (n : ℕ) (place : TypePlace) (d : End) (x : ReturnType A E) (l k : Toks) (f : Option Span) (e : Span) (sc : Scope) → IsReturn (To n) clearly place d x l k → Fits d k → (allows_plus place ≡ true → token.sees_plus k ≡ false) → Reads_to (knot.return_type attrs values place) x l k f e sc
  unfolding knot.return_type
  return_type_met n place d x l k f e sc i o u = single_met (λ r. reading.return_type r place) x l k f e sc (λ b h. signatures.return_met (within b) (To n) b (below b n) place d x l k f e sc h i o u)

  pub trait_object_met : (n : ℕ) (place : TypePlace) (x : TypeTraitObject A E) (l k : Toks) (f : Option Span) (e : Span) (sc : Scope) → IsObject (To n) clearly place x l k → ((d : End) → Fits d k) → Reads_to (knot.trait_object attrs values (allows_plus place)) x l k f e sc
  unfolding knot.trait_object
  trait_object_met n place x l k f e sc i o =
      single_met (λ r. reading.trait_object r (knot.bound attrs values Object) (allows_plus place)) x l k f e sc
      (λ b h. objects.object_met (within b) (To n) b (below b n) (allows_plus place) place refl (knot.bound attrs values Object) (λ d y m j a c s u v w. bound_met n Object d y m j a c s (within_bound n Object d y m j v) w)
      (λ d y m j v. objects.bound_no_dyn (To n) d y m j (within_bound n Object d y m j v)) x l k f e sc h i o)

  pub impl_trait_met : (n : ℕ) (place : TypePlace) (d : End) (x : TypeImplTrait A E) (l k : Toks) (f : Option Span) (e : Span) (sc : Scope) → IsImpl (To n) clearly place d x l k → Fits d k → Reads_to (knot.impl_trait attrs values (allows_plus place)) x l k f e sc
  unfolding knot.impl_trait
  impl_trait_met n place d x l k f e sc i o = single_met (λ r. reading.impl_trait r (allows_plus place)) x l k f e sc (λ b h. objects.impl_met (within b) (To n) b (below b n) (allows_plus place) place refl d x l k f e sc h i o)

  pub array_met : (n : ℕ) (x : TypeArray A E) (l k : Toks) (f : Option Span) (e : Span) (sc : Scope) → IsCounted (To n) clearly x l k → Reads_to (knot.array attrs values) x l k f e sc
  unfolding knot.array
  array_met n x l k f e sc i = single_met (reading.array values) x l k f e sc (λ b h. forms.counted_met (within b) (To n) b (below b n) attrs values (supplied n) x l k f e sc h i)

  pub fn_ptr_met : (n : ℕ) (d : End) (x : TypeFnPtr A E) (l k : Toks) (f : Option Span) (e : Span) (sc : Scope) → IsFnPtr (To n) clearly d x l k → Fits d k → Reads_to (knot.fn_ptr attrs values) x l k f e sc
  unfolding knot.fn_ptr
  fn_ptr_met n d x l k f e sc i o =
      single_met (reading.fn_ptr attrs values) x l k f e sc (λ b h. functions.fn_ptr_met attrs values (within b) (To n) b (below b n) (supplied n) (params.binder_met (within b) (To n) b (below b n)) d x l k f e sc h i o)

  pub paren_met : (n : ℕ) (x : TypeParen A E) (l k : Toks) (f : Option Span) (e : Span) (sc : Scope) → IsEnclosed (To n) clearly NoPlus x l k → Reads_to (knot.paren attrs values) x l k f e sc
  unfolding knot.paren
  paren_met n x l k f e sc i = single_met reading.paren x l k f e sc (λ b h. forms.enclosed_met (within b) (To n) b (below b n) x l k f e sc h i)

  pub ptr_met : (n : ℕ) (d : End) (x : TypePtr A E) (l k : Toks) (f : Option Span) (e : Span) (sc : Scope) → IsPointer (To n) clearly d x l k → Fits d k → Reads_to (knot.ptr attrs values) x l k f e sc
  unfolding knot.ptr
  ptr_met n d x l k f e sc i o = single_met reading.ptr x l k f e sc (λ b h. forms.pointer_met (within b) (To n) b (below b n) d x l k f e sc h i o)

  pub reference_met : (n : ℕ) (d : End) (x : TypeReference A E) (l k : Toks) (f : Option Span) (e : Span) (sc : Scope) → IsBorrow (To n) clearly d x l k → Fits d k → Reads_to (knot.reference attrs values) x l k f e sc
  unfolding knot.reference
  reference_met n d x l k f e sc i o = single_met reading.reference x l k f e sc (λ b h. forms.borrow_met (within b) (To n) b (below b n) d x l k f e sc h i o)

  pub slice_met : (n : ℕ) (x : TypeSlice A E) (l k : Toks) (f : Option Span) (e : Span) (sc : Scope) → IsBracketed (To n) clearly x l k → Reads_to (knot.slice attrs values) x l k f e sc
  unfolding knot.slice
  slice_met n x l k f e sc i = single_met reading.slice x l k f e sc (λ b h. forms.bracketed_met (within b) (To n) b (below b n) x l k f e sc h i)

  -- however its first element begins
  pub tuple_met : (n : ℕ) (x : TypeTuple A E) (l k : Toks) (f : Option Span) (e : Span) (sc : Scope) → IsTupled (To n) clearly (λ l. Unit {0}) x l k → Reads_to (knot.tuple attrs values) x l k f e sc
  unfolding knot.tuple
  tuple_met n x l k f e sc i = single_met reading.tuple x l k f e sc (λ b h. forms.tupled_met (within b) (To n) b (below b n) (λ l. Unit {0}) x l k f e sc h i)

  -- its type is read by the knot itself
  pub named_arg_met : (n : ℕ) (x : NamedArg A E) (l k : Toks) (f : Option Span) (e : Span) (sc : Scope) → IsNamedArg (To n) clearly false x l k → EndsInput k → Reads_to (knot.named_arg attrs values) x l k f e sc
  unfolding knot.named_arg
  named_arg_met n x l k f e sc i o =
      inputs.named_arg_met (To n) (firsts n) (knot.ty attrs values Plus) (ahead (at l f e sc)) (λ d y m j a b s h v w u. ty_met n Plus d y m j a b s (within_type n Plus d y m j v) w (λ q. u)) attrs values (supplied n) x l k f e sc (omega arith) i o

  -- ---- generics

  pub trait_bound_met : (n : ℕ) (d : End) (x : TraitBound A E) (l k : Toks) (f : Option Span) (e : Span) (sc : Scope) → IsTraitBound (To n) clearly false d x l k → Fits d k → Reads_to (knot.trait_bound attrs values) x l k f e sc
  unfolding knot.trait_bound
  trait_bound_met n d x l k f e sc i o = single_met generics.trait_bound x l k f e sc (λ b h. of_knot.trait_turn attrs values shown spelt g (within b) b (below b) n d x l k f e sc h i o)

  pub binder_met : (n : ℕ) (x : BoundLifetimes A E) (l k : Toks) (f : Option Span) (e : Span) (sc : Scope) → IsFor (To n) clearly x l k → Reads_to (knot.binder attrs values) x l k f e sc
  binder_met n x l k f e sc i = params.binder_alone_met attrs values (To n) (λ b. below b n) x l k f e sc i

  pub optional_binder_met : (n : ℕ) (o : Option (BoundLifetimes A E)) (l k : Toks) (f : Option Span) (e : Span) (sc : Scope) → IsOptional (IsFor (To n) clearly) o l k → (o ≡ None → token.sees_for k ≡ false) → Reads_to (knot.optional_binder attrs values) o l k f e sc
  optional_binder_met n o l k f e sc i u = params.optional_binder_alone_met attrs values (To n) (λ b. below b n) o l k f e sc i u

  pub const_param_met : (n : ℕ) (x : ConstParam A E) (l k : Toks) (f : Option Span) (e : Span) (sc : Scope) → IsConstParam (To n) clearly x l k → ends_param k ≡ true → Reads_to (knot.const_param attrs values) x l k f e sc
  const_param_met n x l k f e sc i o = params.const_param_alone_met attrs values (To n) (λ b. below b n) (supplied n) x l k f e sc i o

  pub type_param_met : (n : ℕ) (x : TypeParam A E) (l k : Toks) (f : Option Span) (e : Span) (sc : Scope) → IsTypeParam (To n) clearly x l k → ends_param k ≡ true → Reads_to (knot.type_param attrs values) x l k f e sc
  type_param_met n x l k f e sc i o = params.type_param_alone_met attrs values (To n) (λ b. below b n) (supplied n) x l k f e sc i o
