-- The grammars of this layer meet their laws on the front of a list, where those of attributes and expressions are given: before what may follow, each read is sound and complete, and what is spelt plainly is reprinted.
use Rattle.std.proofs.Common.{◌≡◌, ℕ, Bool, true, false, not, ◌&&◌, List, Ok, refl}
use Rattle.std.proofs.lemmas.Bool.{and_from, and_parts, and_right, not-true, not_from_false}
use Rattle.syn_ty.proofs.ty_laws.words.Tokens.{Parenthesis, Bracket, Print, Reader, Scope, Span, any_text, sees_group, sees_lifetime, sees_word, sees_str, Visible, Stream, Toks}
use Rattle.syn_ty.proofs.ty_laws.words.Paths.{AsWritten, PathStyle, AttributeLaws, sees_sep, TookOne}
use Rattle.syn_ty.proofs.ty_laws.words.Forms.{Binder, NoPlus, Opaque, Plus, TypePlace, allows_plus, goes_on, sees_arguments}
use Rattle.syn_ty.proofs.ty_laws.words.Types.{End, IsAbi, IsAngle, IsArgument, IsBorrow, IsBound, IsBracketed, IsCapture, IsCaptured, IsConstParam, IsCounted, IsEnclosed, IsFnPtr, IsFor, IsImpl, IsNamedArg, IsObject, IsOptional, IsParam, IsParens, IsPath, IsPathAlone, IsPointer, IsReturn, IsSegment, IsTraitBound, IsTupled, IsType, IsTypeParam, Manner, Parts, Relation, between_angles, clearly, loosely, sees_call, spelt_to}
use Rattle.token_core.specs.Fronted.{FrontLaws}
use Rattle.token_core.specs.Tokens as token
use Rattle.token_core.proofs.Steps.{Reads_to}
use Rattle.token_core.proofs.Took.{at}
use Rattle.syn_path.specs.Traits.{Attributes, Expressions}
use Rattle.syn_path.specs.path.Reading.{sees_angle}
use Rattle.syn_path.proofs.Words.{AgainFront}
use Rattle.syn_ty.specs.ty.Follows.{anything, follows_abi, follows_argument, follows_binder, follows_bound, follows_bounds, follows_input, follows_optional_abi, follows_param, follows_path, follows_qualified, follows_segment, follows_type}
use Rattle.syn_ty.specs.ty.Frontings as frontings
use Rattle.syn_ty.specs.ty.Frontings.{fronting, fitting}
use Rattle.syn_ty.specs.ty.Parts.{is_clear}
use Rattle.syn_ty.specs.ty.Promises.{promise}
use Rattle.syn_ty.specs.ty.Spelt as by
use Rattle.syn_ty.proofs.ty_laws.Given.{Given}
use Rattle.syn_ty.proofs.ty_laws.complete.Alone as met
use Rattle.syn_ty.proofs.ty_laws.complete.Capture.{capture_met, captured_met}
use Rattle.syn_ty.proofs.ty_laws.complete.Functions.{abi_met, optional_abi_met}
use Rattle.syn_ty.proofs.ty_laws.complete.Knot.{GivenMeets}
use Rattle.syn_ty.proofs.ty_laws.complete.Params.{Over, lifetime_param_met}
use Rattle.syn_ty.proofs.ty_laws.complete.Signatures.{EndsInput}
use Rattle.syn_ty.proofs.ty_laws.complete.Within.{Fits, PathStops, Stops}
use Rattle.syn_ty.proofs.ty_laws.reprint.Knot.{GivenAgain}
use Rattle.syn_ty.proofs.ty_laws.reprint.Whole as again
use Rattle.syn_ty.proofs.ty_laws.sound.Alone as told
use Rattle.syn_ty.proofs.ty_laws.sound.Bound.{capture_took, captured_took}
use Rattle.syn_ty.proofs.ty_laws.sound.Functions.{abi_took, optional_abi_took}
use Rattle.syn_ty.proofs.ty_laws.sound.Whole.{lifetime_param_took}

-- ---- of every grammar

-- a read that takes what its trees spell loosely
abbrev pub Told : {F : Type 0} → Reader F → (Manner → Relation F) → Type 0
Told {F} reader Is = (s t : Stream) (x : F) → Visible s.rest → reader s ≡ Ok (x, t) → TookOne (Is loosely) s t x

-- before what may follow, it answers what is spelt clearly
abbrev pub Met : {F : Type 0} → Reader F → (Manner → Relation F) → (Toks → Bool) → Type 0
Met {F} reader Is follows = (s : Stream) (x : F) (k : Toks) → Is clearly x s.rest k → follows k ≡ true → Reads_to reader x s.rest k s.left s.last s.scope

pub lawful_on_fronts : {F : Type 0} (Spells : Manner → F → Toks → Type 0) (Is : Manner → Relation F) {n : F → F} {f : F → Print} {reader : Reader F} (follows : Toks → Bool) → Told reader Is → Met reader Is follows → again.Fronts Is n f → FrontLaws (fronting (promise Spells n f reader) Is follows)
lawful_on_fronts Spells Is follows told met reprint = record {
  sound = λ s t a e v h c. let k = told s t a v h in (k.seen, λ o. k.spelt c);
  complete = λ s a k e v i o. let w = met s a k i o in (at k s.left w.last s.scope, w.reads, refl, e);
  spells = λ a l r k i p o. (reprint a p.0 p.1 p.3).spelt k;
  visible = λ a l r k i u p v o. (reprint a p.0 p.1 p.3).visible k p.2 v;
  stays = λ a l r k i p. (reprint a p.0 p.1 p.3).stays;
  same = λ a l r k i p. (reprint a p.0 p.1 p.3).same;
}

-- ---- what may follow

pub bound_stops : (k : Toks) → follows_bound k ≡ true → Stops k
bound_stops k h =
    let a = and_parts (not (sees_sep k)) _ h in
    let b = and_parts (not (sees_angle k)) _ a.1 in
    let c = and_parts (not (sees_call k)) _ b.1 in
    let d = and_parts (not (token.sees_r_arrow k)) _ c.1 in
    let e = and_parts (not (token.sees_question k)) _ d.1 in
    let f = and_parts (not (sees_lifetime k)) _ e.1 in
    let g = and_parts (not (sees_group Parenthesis k)) _ f.1 in
    let i = and_parts (not (sees_group Bracket k)) _ g.1 in
    record {
      no_sep = not-true (sees_sep k) a.0;
      no_angle = not-true (sees_angle k) b.0;
      no_call = not-true (sees_call k) c.0;
      no_arrow = not-true (token.sees_r_arrow k) d.0;
      no_question = not-true (token.sees_question k) e.0;
      no_lifetime = not-true (sees_lifetime k) f.0;
      no_paren = not-true (sees_group Parenthesis k) g.0;
      no_bracket = not-true (sees_group Bracket k) i.0;
      no_pound = not-true (token.sees_pound k) i.1;
    }

type_stops : (place : TypePlace) (k : Toks) → follows_type place k ≡ true → Stops k
type_stops place k h = bound_stops k (and_parts (follows_bound k) _ h).0

-- of two that do not hold at once
pub not_both : (b p : Bool) → not (b && p) ≡ true → b ≡ true → p ≡ false
not_both true p h e = not-true p h
not_both false p h e = cc e

type_no_plus : (place : TypePlace) (k : Toks) → follows_type place k ≡ true → allows_plus place ≡ true → token.sees_plus k ≡ false
type_no_plus place k h e = not_both (allows_plus place) (token.sees_plus k) (and_parts (follows_bound k) _ h).1 e

-- what ends a list may follow
pub stops_follow : (k : Toks) → Stops k → follows_bound k ≡ true
stops_follow k s =
    and_from _ _ (not_from_false (sees_sep k) s.no_sep) (and_from _ _ (not_from_false (sees_angle k) s.no_angle) (and_from _ _ (not_from_false (sees_call k) s.no_call) (and_from _ _ (not_from_false (token.sees_r_arrow k) s.no_arrow) (and_from _ _ (not_from_false (token.sees_question k) s.no_question)
    (and_from _ _ (not_from_false (sees_lifetime k) s.no_lifetime) (and_from _ _ (not_from_false (sees_group Parenthesis k) s.no_paren) (and_from _ _ (not_from_false (sees_group Bracket k) s.no_bracket) (not_from_false (token.sees_pound k) s.no_pound))))))))

pub over_follows : (place : TypePlace) (k : Toks) → Over k → follows_type place k ≡ true
over_follows place k o = and_from (follows_bound k) _ (stops_follow k o.stops) (not_from_false (allows_plus place && token.sees_plus k) (and_right (allows_plus place) (token.sees_plus k) o.no_plus))

bounds_fit : (k : Toks) → follows_bounds k ≡ true → (d : End) → Fits d k
bounds_fit k h d =
    let a = and_parts (follows_bound k) _ h in
    let b = and_parts (not (token.sees_plus k)) _ a.1 in
    record { stops = bound_stops k a.0; no_plus = λ q. not-true (token.sees_plus k) b.0; no_word = λ q. not-true (sees_word any_text k) b.1 }

input_ends : (k : Toks) → follows_input k ≡ true → EndsInput k
input_ends k h =
    let a = and_parts (follows_bounds k) _ h in
    let b = and_parts (follows_bound k) _ a.0 in
    let c = and_parts (not (token.sees_plus k)) _ b.1 in
    record { stops = bound_stops k b.0; no_plus = not-true (token.sees_plus k) c.0; no_word = not-true (sees_word any_text k) c.1; no_colon = not-true (token.sees_colon k) a.1 }

path_stops : (style : PathStyle) (k : Toks) → follows_path style k ≡ true → PathStops style k
path_stops style k h = let a = and_parts (not (goes_on k)) _ h in record { no_more = not-true (goes_on k) a.0; no_arguments = not-true (sees_arguments style k) a.1 }

module _ {A E : Type 0} (attrs : Attributes A) (exprs : Expressions E) (g : Given attrs.reads exprs.reads attrs.spells exprs.spells) (m : GivenMeets attrs.reads exprs.reads attrs.spells exprs.spells)
    (a : GivenAgain attrs.normal exprs.normal attrs.shown exprs.values attrs.spells exprs.spells) where
  abbrev To : ℕ → Manner → Parts A E
  To = spelt_to attrs.spells exprs.spells

  -- a form by trees of some height
  abbrev Begins : {F : Type 0} → ((Manner → Parts A E) → Manner → Relation F) → Manner → Relation F
  Begins = by.Begins attrs.spells exprs.spells

  -- one that may end open, or in a plus
  abbrev FitsBegins : {F : Type 0} → ((Manner → Parts A E) → Manner → End → Relation F) → Manner → Relation F
  FitsBegins = by.BeginsFitting attrs.spells exprs.spells

  ending : {F : Type 0} (Spells : Manner → F → Toks → Type 0) (Is : (Manner → Parts A E) → Manner → End → Relation F) {n : F → F} {f : F → Print} {reader : Reader F} (follows : Toks → Bool) → Told reader (FitsBegins Is) →
      ((k : ℕ) (d : End) (s : Stream) (x : F) (r : Toks) → Is (To k) clearly d x s.rest r → Fits d r → follows r ≡ true → Reads_to reader x s.rest r s.left s.last s.scope) → ((k : Toks) → follows k ≡ true → Stops k) → again.EachEnding a Is n f →
      FrontLaws (fitting (promise Spells n f reader) (FitsBegins Is) follows)
  ending Spells Is follows told met stops reprint = record {
    sound = λ s t x e v h c. let k = told s t x v h in (k.seen, λ o. k.spelt c);
    complete = λ s x k e v i o.
        let w = met i.0 i.1.0 s x k i.1.1 (record { stops = stops k o; no_plus = i.1.2; no_word = i.1.3 }) o in
        (at k s.left w.last s.scope, w.reads, refl, e);
    spells = λ x l r k i p o. (p.3.0, (p.3.1.0, (reprint p.3.0 p.3.1.0 x p.0 p.1 p.3.1.1).spelt k, (λ h. p.4.no_plus (p.3.1.2 h)), (λ h. p.4.no_word (p.3.1.3 h))));
    visible = λ x l r k i u p v o. (reprint p.3.0 p.3.1.0 x p.0 p.1 p.3.1.1).visible k p.2 v;
    stays = λ x l r k i p. (reprint p.3.0 p.3.1.0 x p.0 p.1 p.3.1.1).stays;
    same = λ x l r k i p. (reprint p.3.0 p.3.1.0 x p.0 p.1 p.3.1.1).same;
  }

  -- ---- paths

  pub path_fronts : FrontLaws (frontings.path attrs exprs)
  path_fronts =
      lawful_on_fronts (by.SpellsPath attrs.spells exprs.spells) (Begins (λ part how. IsPath part how AsWritten)) (follows_path AsWritten) (told.path_took g AsWritten) (λ s x k i o. met.path_met m i.0 AsWritten x s.rest k s.left s.last s.scope i.1 (path_stops AsWritten k o))
      (again.front_of a _ _ (λ part how. IsPath part how AsWritten) (again.path_each a))

  pub segment_fronts : FrontLaws (frontings.segment attrs exprs)
  segment_fronts =
      lawful_on_fronts (by.SpellsSegment attrs.spells exprs.spells) (Begins (λ part how. IsSegment part how AsWritten)) follows_segment (told.segment_took g) (λ s x k i o. met.segment_met m i.0 x s.rest k s.left s.last s.scope i.1 (not-true (sees_arguments AsWritten k) o))
      (again.front_of a _ _ (λ part how. IsSegment part how AsWritten) (again.segment_each a))

  -- between angle marks
  pub argument_fronts : FrontLaws (frontings.argument attrs exprs)
  argument_fronts =
      lawful_on_fronts (by.SpellsArgument attrs.spells exprs.spells) (Begins (λ part how. IsArgument (IsType part how Plus) part how between_angles)) follows_argument (told.argument_took g)
      (λ s x k i o. met.argument_met m i.0 between_angles x s.rest k s.left s.last s.scope i.1 o) (again.front_of a _ _ (λ part how. IsArgument (IsType part how Plus) part how between_angles) (again.argument_each a between_angles))

  pub angle_fronts : FrontLaws (frontings.angle attrs exprs)
  angle_fronts = lawful_on_fronts (by.SpellsAngle attrs.spells exprs.spells) (Begins IsAngle) anything (told.angle_took g) (λ s x k i o. met.angle_met m i.0 x s.rest k s.left s.last s.scope i.1) (again.front_of a _ _ IsAngle (again.angle_each a))

  pub turbofish_fronts : FrontLaws (frontings.turbofish attrs exprs)
  turbofish_fronts = lawful_on_fronts (by.SpellsTurbofish attrs.spells exprs.spells) (frontings.BeginsTurbofish attrs exprs) anything (told.turbofish_took g) (λ s x k i o. met.turbofish_met m i.0.0 x s.rest k s.left s.last s.scope i.0.1 i.1) (again.turbofish_front a)

  pub parenthesized_fronts : FrontLaws (frontings.parenthesized attrs exprs)
  parenthesized_fronts = ending (by.SpellsParens attrs.spells exprs.spells) IsParens follows_bound (told.parenthesized_took g) (λ k d s x r i f o. met.parenthesized_met m k d x s.rest r s.left s.last s.scope i f) bound_stops (again.parenthesized_each a)

  -- ---- types, with plus or without

  pub ty_fronts : (place : TypePlace) → FrontLaws (frontings.ty attrs exprs place)
  ty_fronts place =
      ending (by.SpellsType attrs.spells exprs.spells place) (λ part how. IsType part how place) (follows_type place) (told.ty_took g place) (λ k d s x r i f o. met.ty_met m k place d x s.rest r s.left s.last s.scope i f (type_no_plus place r o)) (type_stops place) (again.ty_each a place)

  pub return_type_fronts : (place : TypePlace) → FrontLaws (frontings.return_type attrs exprs place)
  return_type_fronts place =
      ending (by.SpellsReturn attrs.spells exprs.spells place) (λ part how. IsReturn part how place) (follows_type place) (told.return_type_took g place) (λ k d s x r i f o. met.return_type_met m k place d x s.rest r s.left s.last s.scope i f (type_no_plus place r o)) (type_stops place)
      (again.return_type_each a place)

  pub trait_object_fronts : (place : TypePlace) → FrontLaws (frontings.trait_object attrs exprs place)
  trait_object_fronts place =
      lawful_on_fronts (by.SpellsObject attrs.spells exprs.spells place) (Begins (λ part how. IsObject part how place)) follows_bounds (told.trait_object_took g place) (λ s x k i o. met.trait_object_met m i.0 place x s.rest k s.left s.last s.scope i.1 (bounds_fit k o))
      (again.front_of a _ _ (λ part how. IsObject part how place) (again.trait_object_each a place))

  pub impl_trait_fronts : (place : TypePlace) → FrontLaws (frontings.impl_trait attrs exprs place)
  impl_trait_fronts place =
      ending (by.SpellsImpl attrs.spells exprs.spells place) (λ part how. IsImpl part how place) follows_bound (told.impl_trait_took g place) (λ k d s x r i f o. met.impl_trait_met m k place d x s.rest r s.left s.last s.scope i f) bound_stops (again.impl_trait_each a place)

  pub array_fronts : FrontLaws (frontings.array attrs exprs)
  array_fronts = lawful_on_fronts (by.SpellsArray attrs.spells exprs.spells) (Begins IsCounted) anything (told.array_took g) (λ s x k i o. met.array_met m i.0 x s.rest k s.left s.last s.scope i.1) (again.front_of a _ _ IsCounted (again.array_each a))

  pub fn_ptr_fronts : FrontLaws (frontings.fn_ptr attrs exprs)
  fn_ptr_fronts = ending (by.SpellsFnPtr attrs.spells exprs.spells) IsFnPtr follows_bound (told.fn_ptr_took g) (λ k d s x r i f o. met.fn_ptr_met m k d x s.rest r s.left s.last s.scope i f) bound_stops (again.fn_ptr_each a)

  -- none is read there
  pub group_fronts : FrontLaws (frontings.group attrs exprs)
  group_fronts = lawful_on_fronts (by.SpellsGroup attrs.spells exprs.spells) (λ how x l r. ⊥) anything (λ s t x v e. absurd (told.no_group g s t x v e)) (λ s x k i o. absurd i) (λ x l r i. absurd i)

  pub paren_fronts : FrontLaws (frontings.paren attrs exprs)
  paren_fronts =
      lawful_on_fronts (by.SpellsParen attrs.spells exprs.spells) (Begins (λ part how. IsEnclosed part how NoPlus)) anything (told.paren_took g) (λ s x k i o. met.paren_met m i.0 x s.rest k s.left s.last s.scope i.1) (again.front_of a _ _ (λ part how. IsEnclosed part how NoPlus) (again.paren_each a))

  pub path_type_fronts : FrontLaws (frontings.path_type attrs exprs)
  path_type_fronts =
      lawful_on_fronts (by.SpellsTypePath attrs.spells exprs.spells) (Begins (IsPathAlone attrs.spells exprs.spells)) follows_qualified (told.path_type_took g)
      (λ s x k i o. let w = and_parts (follows_path AsWritten k) _ o in met.path_type_met m i.0 x s.rest k s.left s.last s.scope i.1 (path_stops AsWritten k w.0) (not-true (sees_sep k) w.1)) (again.front_of a _ _ (IsPathAlone attrs.spells exprs.spells) (again.path_type_each a))

  pub ptr_fronts : FrontLaws (frontings.ptr attrs exprs)
  ptr_fronts = ending (by.SpellsPtr attrs.spells exprs.spells) IsPointer follows_bound (told.ptr_took g) (λ k d s x r i f o. met.ptr_met m k d x s.rest r s.left s.last s.scope i f) bound_stops (again.ptr_each a)

  pub reference_fronts : FrontLaws (frontings.reference attrs exprs)
  reference_fronts = ending (by.SpellsReference attrs.spells exprs.spells) IsBorrow follows_bound (told.reference_took g) (λ k d s x r i f o. met.reference_met m k d x s.rest r s.left s.last s.scope i f) bound_stops (again.reference_each a)

  pub slice_fronts : FrontLaws (frontings.slice attrs exprs)
  slice_fronts = lawful_on_fronts (by.SpellsSlice attrs.spells exprs.spells) (Begins IsBracketed) anything (told.slice_took g) (λ s x k i o. met.slice_met m i.0 x s.rest k s.left s.last s.scope i.1) (again.front_of a _ _ IsBracketed (again.slice_each a))

  pub tuple_fronts : FrontLaws (frontings.tuple attrs exprs)
  tuple_fronts =
      lawful_on_fronts (by.SpellsTuple attrs.spells exprs.spells) (Begins (λ part how. IsTupled part how (λ l. Unit {0}))) anything (told.tuple_took g) (λ s x k i o. met.tuple_met m i.0 x s.rest k s.left s.last s.scope i.1)
      (again.front_of a _ _ (λ part how. IsTupled part how (λ l. Unit {0})) (again.tuple_each a))

  pub named_arg_fronts : FrontLaws (frontings.named_arg attrs exprs)
  named_arg_fronts =
      lawful_on_fronts (by.SpellsNamedArg attrs.spells exprs.spells) (Begins (λ part how. IsNamedArg part how false)) follows_input (told.named_arg_took g) (λ s x k i o. met.named_arg_met m i.0 x s.rest k s.left s.last s.scope i.1 (input_ends k o))
      (again.front_of a _ _ (λ part how. IsNamedArg part how false) (again.named_arg_each a))

  -- ---- generics

  pub param_fronts : FrontLaws (frontings.param attrs exprs)
  param_fronts =
      lawful_on_fronts (by.SpellsParam attrs.spells exprs.spells) (Begins (λ part how. IsParam part how Binder)) follows_param (told.param_took g Binder) (λ s x k i o. met.param_met m i.0 Binder x s.rest k s.left s.last s.scope i.1 o) (again.front_of a _ _ (λ part how. IsParam part how Binder) (again.param_each a))

  pub type_param_fronts : FrontLaws (frontings.type_param attrs exprs)
  type_param_fronts = lawful_on_fronts (by.SpellsTypeParam attrs.spells exprs.spells) (Begins IsTypeParam) follows_param (told.type_param_took g) (λ s x k i o. met.type_param_met m i.0 x s.rest k s.left s.last s.scope i.1 o) (again.front_of a _ _ IsTypeParam (again.type_param_each a))

  pub const_param_fronts : FrontLaws (frontings.const_param attrs exprs)
  const_param_fronts = lawful_on_fronts (by.SpellsConstParam attrs.spells exprs.spells) (Begins IsConstParam) follows_param (told.const_param_took g) (λ s x k i o. met.const_param_met m i.0 x s.rest k s.left s.last s.scope i.1 o) (again.front_of a _ _ IsConstParam (again.const_param_each a))

  pub binder_fronts : FrontLaws (frontings.binder attrs exprs)
  binder_fronts = lawful_on_fronts (by.SpellsBinder attrs.spells exprs.spells) (Begins IsFor) anything (told.binder_took g) (λ s x k i o. met.binder_met m i.0 x s.rest k s.left s.last s.scope i.1) (again.front_of a _ _ IsFor (again.binder_each a))

  pub optional_binder_fronts : FrontLaws (frontings.optional_binder attrs exprs)
  optional_binder_fronts =
      lawful_on_fronts (by.SpellsOptionalBinder attrs.spells exprs.spells) (Begins (λ part how. IsOptional (IsFor part how))) follows_binder (told.optional_binder_took g) (λ s x k i o. met.optional_binder_met m i.0 x s.rest k s.left s.last s.scope i.1 (λ q. not-true (token.sees_for k) o))
      (again.front_of a _ _ (λ part how. IsOptional (IsFor part how)) (again.optional_binder_each a))

  pub bound_fronts : FrontLaws (frontings.bound attrs exprs)
  bound_fronts =
      ending (by.SpellsBound attrs.spells exprs.spells) (λ part how. IsBound part how Opaque) follows_bound (told.bound_took g Opaque) (λ k d s x r i f o. met.bound_met m k Opaque d x s.rest r s.left s.last s.scope i f) bound_stops (again.bound_each a)

  pub trait_bound_fronts : FrontLaws (frontings.trait_bound attrs exprs)
  trait_bound_fronts =
      ending (by.SpellsTraitBound attrs.spells exprs.spells) (λ part how. IsTraitBound part how false) follows_bound (told.trait_bound_took g) (λ k d s x r i f o. met.trait_bound_met m k d x s.rest r s.left s.last s.scope i f) bound_stops (again.trait_bound_each a)

-- ---- a lifetime parameter

module _ {A : Type 0} (attrs : Attributes A) (laws : AttributeLaws attrs.reads attrs.spells)
    (attrs_met : (x : List A) (l k : Toks) (f : _) (e : Span) (sc : Scope) → attrs.spells true x l k → token.sees_pound k ≡ false → Reads_to attrs.reads x l k f e sc)
    (attrs_again : (x : List A) (l r : Toks) → attrs.spells false x l r → AgainFront (attrs.spells true) attrs.normal attrs.shown x l r) where
  pub lifetime_param_fronts : FrontLaws (frontings.lifetime_param attrs)
  lifetime_param_fronts =
      lawful_on_fronts (by.SpellsLifetimeParam attrs.spells) (by.IsLifetimeAlone attrs.spells) follows_param (lifetime_param_took laws) (λ s x k i o. lifetime_param_met attrs.reads (by.with_attributes attrs.spells) attrs_met x s.rest k s.left s.last s.scope i o)
      (again.lifetime_param_front attrs.normal attrs.shown attrs.spells attrs_again)

-- ---- what holds no type

pub capture_fronts : FrontLaws frontings.capture
capture_fronts = lawful_on_fronts by.SpellsCapture (λ how. IsCapture (is_clear how)) anything capture_took (λ s x k i o. capture_met x s.rest k s.left s.last s.scope i) again.capture_front

pub captured_fronts : FrontLaws frontings.captured
captured_fronts = lawful_on_fronts (λ how x l. by.SpellsCaptured x l) (λ how. IsCaptured) anything captured_took (λ s x k i o. captured_met x s.rest k s.left s.last s.scope i) again.captured_front

pub abi_fronts : FrontLaws frontings.abi
abi_fronts = lawful_on_fronts (λ how x l. by.SpellsAbi x l) (λ how. IsAbi) follows_abi abi_took (λ s x k i o. abi_met x s.rest k s.left s.last s.scope i (not-true (sees_str k) o)) again.abi_front

pub optional_abi_fronts : FrontLaws frontings.optional_abi
optional_abi_fronts =
    lawful_on_fronts (λ how x l. by.SpellsOptionalAbi x l) (λ how. IsOptional IsAbi) follows_optional_abi optional_abi_took
    (λ s x k i o. let w = and_parts (not (token.sees_extern k)) _ o in optional_abi_met x s.rest k s.left s.last s.scope i (not-true (token.sees_extern k) w.0) (not-true (sees_str k) w.1)) again.optional_abi_front
