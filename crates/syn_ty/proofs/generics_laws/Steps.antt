-- Bounds and parameters by what begins them and where they stand.
use Rattle.std.specs.Prelude.{is_some}
use Rattle.std.proofs.Common.{◌≡◌, true, false, List, Option, Some, None, Ok, refl, ap, ◌∙◌}
use Rattle.syn_ty.proofs.ty_laws.words.Tokens.{sees_lifetime, Reader, and_then, Stream}
use Rattle.syn_ty.proofs.ty_laws.words.Paths.{ReadValues}
use Rattle.syn_ty.proofs.ty_laws.words.Forms.{BoundPlace, ParamPlace}
use Rattle.syn_ty.proofs.ty_laws.words.Types.{binder_after, bound_step, in_binder, in_generics, optional_binder, param_after, param_step, Readers, BoundLifetimes}
use Rattle.syn_forms.specs.declared.places.ParamPlace.TheVariants as p
use Rattle.syn_ty.specs.generics.Reading.{capture_in_place, trait_in_place}
use Rattle.token_core.specs.Tokens as token
use Rattle.token_core.proofs.Steps.{chosen}

module _ {A E : Type 0} (r : Readers A E) (place : BoundPlace) (s : Stream) where
  pub capture_bound : sees_lifetime s.rest ≡ false → token.sees_use s.rest ≡ true → bound_step r place s ≡ capture_in_place r place s
  unfolding bound_step
  capture_bound l u = chosen (sees_lifetime s.rest) false _ _ s _ l (chosen (token.sees_use s.rest) true _ _ s _ u refl)

  pub trait_bound : sees_lifetime s.rest ≡ false → token.sees_use s.rest ≡ false → bound_step r place s ≡ trait_in_place r place s
  unfolding bound_step
  trait_bound l u = chosen (sees_lifetime s.rest) false _ _ s _ l (chosen (token.sees_use s.rest) false _ _ s _ u refl)

module _ {A E : Type 0} (r : Readers A E) where
  asked : (q : Option token.Question) (s : Stream) → is_some q ≡ true → binder_after r None q s ≡ optional_binder r s
  asked (Some q) s m = refl
  asked None s m = cc

  -- a binder that may stand behind a `?`
  pub behind : (l : Option (BoundLifetimes A E)) (q : Option token.Question) (s : Stream) → l ≡ None → is_some q ≡ true → binder_after r l q s ≡ optional_binder r s
  behind l q s e m = ap (λ z. binder_after r z q s) e ∙ asked q s m

module _ {A E : Type 0} (attrs : Reader (List A)) (values : ReadValues E) (r : Readers A E) (place : ParamPlace) (s t : Stream) (a : List A) where
  pub binder_param : place ≡ p.Binder → attrs s ≡ Ok (a, t) → param_step attrs values r place s ≡ in_binder attrs values r a t
  unfolding param_step
  binder_param is e = ap (λ o. and_then o (param_after attrs values r place)) e ∙ ap (λ z. param_after attrs values r z a t) is

  pub generics_param : place ≡ p.Generics → attrs s ≡ Ok (a, t) → param_step attrs values r place s ≡ in_generics attrs values r a t
  unfolding param_step
  generics_param is e = ap (λ o. and_then o (param_after attrs values r place)) e ∙ ap (λ z. param_after attrs values r z a t) is
