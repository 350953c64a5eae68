-- The laws of the single forms of types, put together: over what the forms hold, and over the reads of what stands where a form begins.
use Rattle.std.proofs.Common.{◌≡◌, ℕ, ◌<◌, ◌≤◌, true, false, List, [], ◌∷◌, Option, refl, arith}
use Rattle.std.specs.List.{list_any}
use Rattle.syn_ty.proofs.ty_laws.words.Tokens.{Lifetime, Span, sees_lifetime, AfterMark, Nowhere, Many, never, Reader, IsLifetime, Scope, Toks}
use Rattle.syn_ty.proofs.ty_laws.words.Paths.{ReadValues}
use Rattle.syn_ty.proofs.ty_laws.words.Forms.{Object, Plus, ahead, allows_plus}
use Rattle.syn_ty.proofs.ty_laws.words.Types.{IsFor, IsTraitBound, AreBounds, IsType, AreFurther, none_further, some_further, Manner, clearly, End, Parts, Readers, a_type, is_trait, object_of, BoundLifetimes, TraitBound, TypeParamBound, TypeTree, fn_ptr_with}
use Rattle.token_core.specs.Groups as groups
use Rattle.token_core.specs.Tokens as token
use Rattle.token_core.proofs.Steps.{Reads_to, link}
use Rattle.token_core.proofs.Took.{at}
use Rattle.syn_ty.specs.generics.Reading as generics
use Rattle.syn_ty.specs.ty.Reading as reading
use Rattle.syn_ty.proofs.ty_laws.complete.BoundLists.{IsFurther, closed_stopped, each_bound_met, further, nothing_further}
use Rattle.syn_ty.proofs.ty_laws.complete.Forms.{array_type_met, borrow_met, pointer_met, slice_type_met}
use Rattle.syn_ty.proofs.ty_laws.complete.Functions.{after_binder, fn_ptr_after_met}
use Rattle.syn_ty.proofs.ty_laws.complete.Within.{Fits, Meets, SuppliedMeets}
use Rattle.syn_ty.proofs.ty_laws.complete.Objects.{dyn_met, dyn_star_met, impl_met, lifetime_met}
use Rattle.syn_ty.proofs.ty_laws.complete.Parens.{asked_first_met, asked_in_two_met, enclosed_type_met, held_and_plus_met, lifetime_type_met, tupled_type_met, type_no_question}
use Rattle.syn_ty.proofs.ty_laws.complete.Types.{TypeForms}

-- ---- after a first bound, each `+` with a bound

module _ {A E : Type 0} (r : Readers A E) (part : Manner → Parts A E) (limit : ℕ) (meets : Meets r part limit) where
  abbrev Bound : Type 0
  Bound = TypeParamBound A E

  as_further : (y : Bound) (d : End) (xs : List Bound) (ps : List token.Plus) (l k : Toks) → AreFurther part clearly d xs ps l k → Fits d k → IsFurther part Object Nowhere never true y (y ∷ xs, ps) l k
  as_further y d xs ps l k none_further o = nothing_further (o.no_plus refl)
  as_further y d xs ps l k (some_further i j) o = further refl i j (closed_stopped part Object false d k o)

  pub each_object_met : (y : Bound) (d : End) (xs : List Bound) (ps : List token.Plus) (l k : Toks) (f : Option Span) (e : Span) (sc : Scope) → ahead (at l f e sc) < limit → AreFurther part clearly d xs ps l k → Fits d k →
      Reads_to (reading.each_object_from r y) (object_of (y ∷ xs, ps)) l k f e sc
  each_object_met y d xs ps l k f e sc h i o =
      let w = each_bound_met r part limit meets Object y (y ∷ xs, ps) l k f e sc (omega (arith, h)) (as_further y d xs ps l k i o) in
      record { last = w.last; reads = link _ w.reads refl }

-- ---- all of them

module _ {A E : Type 0} (attrs : Reader (List A)) (values : ReadValues E) (r : Readers A E) (part : Manner → Parts A E) (limit : ℕ) (meets : Meets r part limit) (supplied : SuppliedMeets attrs values part)
    (wider : (d : End) (x : TypeTree A E) (l k : Toks) → (part clearly).ty Plus d x l k → IsType part clearly Plus d x l k)
    (life : (d : End) (x : TypeParamBound A E) (l k : Toks) → (part clearly).bound Object d x l k → sees_lifetime l ≡ true → (y : Lifetime) × IsLifetime y l k)
    (reads_binder : (x : BoundLifetimes A E) (l k : Toks) (f : Option Span) (e : Span) (sc : Scope) → ahead (at l f e sc) ≤ limit → IsFor part clearly x l k → Reads_to (generics.binder r) x l k f e sc)
    (reads_first : (d : End) (x : TypeParamBound A E) (l k : Toks) (f : Option Span) (e : Span) (sc : Scope) → ahead (at l f e sc) ≤ limit → (part clearly).bound Object d x l k → Fits d k → Reads_to (generics.bound_step r Object) x l k f e sc)
    (reads_asked : (d : End) (x : TraitBound A E) (l k : Toks) (f : Option Span) (e : Span) (sc : Scope) → ahead (at l f e sc) < limit → IsTraitBound part clearly false d x l k → Fits d k → Reads_to (generics.trait_bound r) x l k f e sc)
    (reads_type : (d : End) (x : TypeTree A E) (l k : Toks) (f : Option Span) (e : Span) (sc : Scope) → ahead (at l f e sc) < limit → IsType part clearly Plus d x l k → Fits d k → token.sees_plus k ≡ false → Reads_to (r (a_type Plus)) x l k f e sc) where
  no_question : (d : End) (x : TypeTree A E) (l k : Toks) → (part clearly).ty Plus d x l k → token.sees_question l ≡ false
  no_question d x l k i = type_no_question part Plus d x l k (wider d x l k i)

  reads_bounds : (d : End) (xs : List (TypeParamBound A E)) (ps : List token.Plus) (l k : Toks) (f : Option Span) (e : Span) (sc : Scope) → ahead (at l f e sc) ≤ limit → sees_lifetime l ≡ true → AreBounds part clearly Object AfterMark true d xs ps l k →
      list_any is_trait xs ≡ true → Fits d k → Reads_to (reading.lifetime_object r) (xs, ps) l k f e sc
  reads_bounds d xs ps l k f e sc h g i n o = lifetime_met r part limit meets reads_first d xs ps l k f e sc h g i n o

  reads_lifetime : (d : End) (x : TypeTree A E) (l k : Toks) (f : Option Span) (e : Span) (sc : Scope) → ahead (at l f e sc) < limit → (part clearly).ty Plus d x l k → sees_lifetime l ≡ true → Fits d k → token.sees_plus k ≡ false →
      (w : Many (TypeParamBound A E) token.Plus) × (object_of w ≡ x) × Reads_to (reading.lifetime_object r) w l k f e sc
  reads_lifetime = lifetime_type_met r part limit wider (λ d xs ps l k f e sc h g i n o. reads_bounds d xs ps l k f e sc (omega (arith, h)) g i n o)

  pub type_forms : TypeForms attrs values r part limit
  type_forms = record {
    pointer = λ d x l k f e sc h i o. pointer_met r part limit meets d x l k f e sc h i o;
    borrow = λ d x l k f e sc h i o. borrow_met r part limit meets d x l k f e sc h i o;
    slice = λ x l k f e sc h i. slice_type_met r part limit meets attrs values supplied x l k f e sc h i;
    array = λ x l k f e sc h i. array_type_met r part limit meets attrs values supplied x l k f e sc h i;
    enclosed = λ p x l k f e sc h i o. enclosed_type_met r p part limit meets no_question reads_lifetime x l k f e sc h i o;
    tupled = λ p x l k f e sc h i. tupled_type_met r p part limit meets no_question x l k f e sc h i;
    asked_first = λ p d q x s xs ps c m k f e sc h i j o. asked_first_met r p part limit (each_object_met r part limit meets) reads_asked d q x s xs ps c m k f e sc h i j o;
    held_and_plus = λ p g d o q s a xs ps c m n k f e sc h i j w z. held_and_plus_met r p part limit (each_object_met r part limit meets) g reads_type d o q s a xs ps c m n k f e sc h i j w z;
    asked_in_two = λ p g d q x s t a xs ps c m n k f e sc h i j w z. asked_in_two_met r p part limit (each_object_met r part limit meets) g reads_type d q x s t a xs ps c m n k f e sc h i j w z;
    dyn = λ place d x l k f e sc h i o. dyn_met r part limit meets (allows_plus place) place refl d x l k f e sc h i o;
    dyn_star = λ place d t w s y l m n k f e sc h i j q g o. dyn_star_met r part limit meets (allows_plus place) place refl d t w s y l m n k f e sc h i j q g o;
    impl = λ place d x l k f e sc h i o. impl_met r part limit meets (allows_plus place) place refl d x l k f e sc h i o;
    lifetime = reads_bounds;
    fn_ptr = λ d b u i w s y z o l m n c j k f e sc h ui ai wi q p fits. fn_ptr_after_met attrs values r part limit meets supplied b d (fn_ptr_with [] b u i w (groups.paren s) y z o) l k f e sc h (after_binder ui ai wi q p) fits;
    binder = reads_binder;
    life = life;
  }
