-- The reads that go back to themselves, tied, are complete: at every height of a tree, what a list spells clearly is what they answer, and they take no more.
use Rattle.std.proofs.Common.{◌≡◌, ◌⊎◌, ℕ, zero, suc, ◌≤◌, Bool, true, false, List, Option, Ok, ◌∙◌, arith, ◌<◌, ap}
use Rattle.token_core.specs.Tokens as token
use Rattle.token_core.proofs.Steps.{Reads_to}
use Rattle.token_core.proofs.Took.{at}
use Rattle.syn_forms.specs.nested.Below.{below_if, held}
use Rattle.syn_ty.specs.generics.Reading as generics
use Rattle.syn_ty.specs.ty.Knot as knot
use Rattle.syn_ty.proofs.ty_laws.complete.Angles.{arguments_met}
use Rattle.syn_ty.proofs.ty_laws.complete.Arguments.{EndsArgument, argument_met, name_is_type}
use Rattle.syn_ty.proofs.ty_laws.complete.Bound.{bound_met}
use Rattle.syn_ty.proofs.ty_laws.complete.Firsts.{GivenBegins, firsts_to, starts_to, type_starts}
use Rattle.syn_ty.proofs.ty_laws.sound.Higher.{bound_higher, higher, trait_bound_higher}
use Rattle.syn_ty.proofs.ty_laws.Knot.{turn}
use Rattle.syn_ty.proofs.ty_laws.complete.Within.{Firsts, Fits, Less, Meets, NoMore, PathsMeet, SuppliedMeets, ends_param}
use Rattle.syn_ty.proofs.ty_laws.complete.Params.{binder_met, param_met}
use Rattle.syn_ty.proofs.ty_laws.complete.Qualified.{paths_met}
use Rattle.syn_ty.proofs.ty_laws.complete.Signatures.{parens_met}
use Rattle.syn_ty.proofs.ty_laws.complete.Signed.{empty_pair}
use Rattle.syn_ty.proofs.ty_laws.complete.Traits.{trait_in_met}
use Rattle.syn_ty.proofs.ty_laws.complete.TypeForms.{type_forms}
use Rattle.syn_ty.proofs.ty_laws.complete.Types.{TypeForms, type_met}
use Rattle.std.proofs.lemmas.Bool.{lt-ltb}
use Rattle.syn_ty.proofs.ty_laws.words.Tokens.{Lifetime, Span, sees_lifetime, Reader, IsLifetime, Scope, Stream, Toks}
use Rattle.syn_ty.proofs.ty_laws.words.Paths.{UsesUp, ReadValues, SpelledValues}
use Rattle.syn_ty.proofs.ty_laws.words.Forms.{BoundPlace, Object, ParamPlace, TypePlace, Plus, ahead, allows_plus}
use Rattle.syn_ty.proofs.ty_laws.words.Types.{IsBound, IsFor, IsTraitBound, IsParam, ArgumentPlace, between_angles, IsArgument, argument_step, arguments_step, parenthesized, sees_const, IsParens, IsArguments, IsType, read, reads_below, step, ty, Manner, clearly, End, Parts, Point, a_bound, a_param, a_type, an_argument, some_arguments, Readers, Tree, type_step, spelt_to, BoundLifetimes, GenericArgument, GenericParam, Parenthesized, PathArguments, TraitBound, TypeParamBound, TypeTree}

-- a read that is asked only where less than a limit is left
pub below_met : {P B : Type 0} (p : P → Reader B) (limit : ℕ) (place : P) (x : B) (l k : Toks) (f : Option Span) (e : Span) (sc : Scope) → ahead (at l f e sc) < limit → Reads_to (p place) x l k f e sc → Reads_to (held p limit place) x l k f e sc
unfolding held
below_met p limit place x l k f e sc h g = record { last = g.last; reads = ap (λ b. below_if b (p place) (at l f e sc)) (lt-ltb _ _ h) ∙ g.reads }

-- ---- attributes, and expressions in their places, however high the trees that hold them

module _ {A E : Type 0} (attrs : Reader (List A)) (values : ReadValues E) (shown : Bool → List A → Toks → Toks → Type 0) (spelt : SpelledValues E) where
  pub record GivenMeets : Type 0 where
    pub attrs_met : (x : List A) (l k : Toks) (f : Option Span) (e : Span) (sc : Scope) → shown true x l k → token.sees_pound k ≡ false → Reads_to attrs x l k f e sc
    pub attrs_begin : (x : List A) (l k : Toks) → shown true x l k → (l ≡ k) ⊎ (token.sees_pound l ≡ true)
    pub attrs_light : (x : List A) (l k : Toks) → shown true x l k → NoMore l k
    pub len : (s : Stream) (x : E) → spelt.len x s.rest → (t : Stream) × (values.len s ≡ Ok (x, t)) × UsesUp s t
    pub argument : (x : E) (l k : Toks) (f : Option Span) (e : Span) (sc : Scope) → spelt.const_argument true x l k → Reads_to values.const_argument x l k f e sc
    pub argument_begins : (x : E) (l k : Toks) → spelt.const_argument true x l k → (sees_const l ≡ true) × Less l k
    pub default : (x : E) (l k : Toks) (f : Option Span) (e : Span) (sc : Scope) → spelt.const_default true x l k → Reads_to values.const_argument x l k f e sc
    pub default_less : (x : E) (l k : Toks) → spelt.const_default true x l k → Less l k

  module _ (g : GivenMeets) where
    pub given_begins : GivenBegins shown spelt
    given_begins = record { attrs_begin = g.attrs_begin; attrs_light = g.attrs_light; argument_begins = g.argument_begins; default_less = g.default_less }

    -- at every height
    pub supplied_to : (n : ℕ) → SuppliedMeets attrs values (spelt_to shown spelt n)
    supplied_to zero = record {
      attrs_met = λ x l k f e sc i. absurd i;
      attrs_begin = λ x l k i. absurd i;
      attrs_light = λ x l k i. absurd i;
      len = λ s x i. absurd i;
      argument = λ x l k f e sc i. absurd i;
      argument_begins = λ x l k i. absurd i;
      default = λ x l k f e sc i. absurd i;
      default_less = λ x l k i. absurd i;
    }
    supplied_to (suc n) = record {
      attrs_met = g.attrs_met;
      attrs_begin = g.attrs_begin;
      attrs_light = g.attrs_light;
      len = g.len;
      argument = g.argument;
      argument_begins = g.argument_begins;
      default = g.default;
      default_less = g.default_less;
    }

    abbrev To : ℕ → Manner → Parts A E
    To = spelt_to shown spelt

    -- ---- one turn, over reads that meet the trees of every height

    module _ (r : Readers A E) (limit : ℕ) (meets : (n : ℕ) → Meets r (To n) limit) where
      paths_at : (n : ℕ) → PathsMeet r (To n) limit
      paths_at n = paths_met r (To n) limit (meets n)

      parens_at : (n : ℕ) (d : End) (x : Parenthesized A E) (l k : Toks) (f : Option Span) (e : Span) (sc : Scope) → ahead (at l f e sc) ≤ limit → IsParens (To n) clearly d x l k → Fits d k → Reads_to (parenthesized r) x l k f e sc
      parens_at n = parens_met r (To n) limit (meets n)

      binder_at : (n : ℕ) (x : BoundLifetimes A E) (l k : Toks) (f : Option Span) (e : Span) (sc : Scope) → ahead (at l f e sc) ≤ limit → IsFor (To n) clearly x l k → Reads_to (generics.binder r) x l k f e sc
      binder_at n = binder_met r (To n) limit (meets n)

      -- an empty pair of angle marks before parentheses is spelt from the first height on: what a bound holds is taken one height more
      pub trait_turn : (n : ℕ) (d : End) (x : TraitBound A E) (l k : Toks) (f : Option Span) (e : Span) (sc : Scope) → ahead (at l f e sc) ≤ limit → IsTraitBound (To n) clearly false d x l k → Fits d k → Reads_to (generics.trait_bound r) x l k f e sc
      trait_turn n d x l k f e sc h i o =
          let m = suc n in
          trait_in_met r (To m) limit (meets m) (paths_at m) (empty_pair (To n)) (parens_at m) (binder_at m) false d x l k f e sc h (trait_bound_higher shown spelt n m (omega arith) clearly d x l k i) o

      bound_turn : (n : ℕ) (p : BoundPlace) (d : End) (x : TypeParamBound A E) (l k : Toks) (f : Option Span) (e : Span) (sc : Scope) → ahead (at l f e sc) ≤ limit → IsBound (To n) clearly p d x l k → Fits d k → Reads_to (generics.bound_step r p) x l k f e sc
      bound_turn n p d x l k f e sc h i o =
          let m = suc n in
          bound_met r (To m) limit (meets m) (paths_at m) (empty_pair (To n)) (parens_at m) (binder_at m) p d x l k f e sc h (bound_higher shown spelt p n m (omega arith) clearly d x l k i) o

      life_at : (n : ℕ) (d : End) (x : TypeParamBound A E) (l k : Toks) → (To n clearly).bound Object d x l k → sees_lifetime l ≡ true → (y : Lifetime) × IsLifetime y l k
      life_at n d x l k i h = let w = (starts_to shown spelt given_begins n).life Object d x l k i h in (w.1, w.2)

      forms_at : (n : ℕ) → TypeForms attrs values r (To n) limit
      forms_at n =
          type_forms attrs values r (To n) limit (meets n) (supplied_to n) (λ d x l k i. (higher shown spelt n clearly).ty Plus d x l k i) (life_at n) (binder_at n)
          (λ d x l k f e sc h i o. bound_turn n Object d x l k f e sc h ((higher shown spelt n clearly).bound Object d x l k i) o)
          (λ d x l k f e sc h i o. trait_turn n d x l k f e sc (omega (arith, h)) i o)
          (λ d x l k f e sc h i o u. (meets (suc n)).ty Plus d x l k f e sc h i o (λ q. u))

      type_turn : (n : ℕ) (p : TypePlace) (d : End) (x : TypeTree A E) (l k : Toks) (f : Option Span) (e : Span) (sc : Scope) → ahead (at l f e sc) ≤ limit → IsType (To n) clearly p d x l k → Fits d k → (allows_plus p ≡ true → token.sees_plus k ≡ false) →
          Reads_to (type_step attrs values r p) x l k f e sc
      type_turn n = type_met attrs values r (To n) limit (meets n) (paths_at n) (forms_at n)

      param_turn : (n : ℕ) (p : ParamPlace) (x : GenericParam A E) (l k : Toks) (f : Option Span) (e : Span) (sc : Scope) → ahead (at l f e sc) ≤ limit → IsParam (To n) clearly p x l k → ends_param k ≡ true → Reads_to (generics.param_step attrs values r p) x l k f e sc
      param_turn n = param_met attrs values r (To n) limit (meets n) (supplied_to n)

      -- alone, or between angle marks
      argument_turn : (n : ℕ) (place : ArgumentPlace) (x : GenericArgument A E) (l k : Toks) (f : Option Span) (e : Span) (sc : Scope) → ahead (at l f e sc) ≤ limit → IsArgument (IsType (To n) clearly Plus) (To n) clearly place x l k → EndsArgument place k →
          Reads_to (argument_step values r (type_step attrs values r Plus)) x l k f e sc
      argument_turn n place =
          argument_met (IsType (To n) clearly Plus) attrs values r (To n) limit (meets n) (supplied_to n) place (type_step attrs values r Plus) (λ d x l k f e sc h i o u. type_turn n Plus d x l k f e sc h i o (λ q. u))
          (λ d x l k i. (type_starts (starts_to shown spelt given_begins n) Plus d x l k i).0) (name_is_type (To n))

      arguments_turn : (n : ℕ) (x : PathArguments A E) (l k : Toks) (f : Option Span) (e : Span) (sc : Scope) → ahead (at l f e sc) ≤ limit → IsArguments (To n) clearly x l k → Reads_to (arguments_step r) x l k f e sc
      arguments_turn n = arguments_met r (To n) limit (meets n)

    -- ---- all turns: each asks for less than what is left where it begins

    -- the reads further on meet the trees of every height
    abbrev Below : Stream → Type 0
    Below s = (n : ℕ) → Meets (reads_below attrs values (ahead s)) (To n) (ahead s)

    by_turn : (q : Point) (x : Tree A E q) (l k : Toks) (f : Option Span) (e : Span) (sc : Scope) → Reads_to (step attrs values (reads_below attrs values (ahead (at l f e sc))) q) x l k f e sc → Reads_to (read attrs values q) x l k f e sc
    by_turn q x l k f e sc w = record { last = w.last; reads = turn attrs values q (at l f e sc) ∙ w.reads }

    -- what is spelt at a point is answered there, where the reads further on meet theirs
    pub type_by : (n : ℕ) (p : TypePlace) (d : End) (x : TypeTree A E) (l k : Toks) (f : Option Span) (e : Span) (sc : Scope) → Below (at l f e sc) → IsType (To n) clearly p d x l k → Fits d k → (allows_plus p ≡ true → token.sees_plus k ≡ false) → Reads_to (knot.ty attrs values p) x l k f e sc
    type_by n p d x l k f e sc m i o u = let s = at l f e sc in by_turn (a_type p) x l k f e sc (type_turn (reads_below attrs values (ahead s)) (ahead s) m n p d x l k f e sc (omega arith) i o u)

    pub bound_by : (n : ℕ) (p : BoundPlace) (d : End) (x : TypeParamBound A E) (l k : Toks) (f : Option Span) (e : Span) (sc : Scope) → Below (at l f e sc) → IsBound (To n) clearly p d x l k → Fits d k → Reads_to (knot.bound attrs values p) x l k f e sc
    bound_by n p d x l k f e sc m i o = let s = at l f e sc in by_turn (a_bound p) x l k f e sc (bound_turn (reads_below attrs values (ahead s)) (ahead s) m n p d x l k f e sc (omega arith) i o)

    pub param_by : (n : ℕ) (p : ParamPlace) (x : GenericParam A E) (l k : Toks) (f : Option Span) (e : Span) (sc : Scope) → Below (at l f e sc) → IsParam (To n) clearly p x l k → ends_param k ≡ true → Reads_to (knot.param attrs values p) x l k f e sc
    param_by n p x l k f e sc m i o = let s = at l f e sc in by_turn (a_param p) x l k f e sc (param_turn (reads_below attrs values (ahead s)) (ahead s) m n p x l k f e sc (omega arith) i o)

    pub argument_by : (n : ℕ) (place : ArgumentPlace) (x : GenericArgument A E) (l k : Toks) (f : Option Span) (e : Span) (sc : Scope) → Below (at l f e sc) → IsArgument (IsType (To n) clearly Plus) (To n) clearly place x l k → EndsArgument place k → Reads_to (knot.argument attrs values) x l k f e sc
    argument_by n place x l k f e sc m i o = let s = at l f e sc in by_turn an_argument x l k f e sc (argument_turn (reads_below attrs values (ahead s)) (ahead s) m n place x l k f e sc (omega arith) i o)

    pub arguments_by : (n : ℕ) (x : PathArguments A E) (l k : Toks) (f : Option Span) (e : Span) (sc : Scope) → Below (at l f e sc) → IsArguments (To n) clearly x l k → Reads_to (knot.arguments attrs values) x l k f e sc
    arguments_by n x l k f e sc m i = let s = at l f e sc in by_turn some_arguments x l k f e sc (arguments_turn (reads_below attrs values (ahead s)) (ahead s) m n x l k f e sc (omega arith) i)

    pub firsts_at : (n : ℕ) → Firsts (To n)
    firsts_at = firsts_to shown spelt given_begins

    -- where the limit is at most a number
    meets_to : (m limit : ℕ) → limit ≤ m → (n : ℕ) → Meets (reads_below attrs values limit) (To n) limit
    meets_to m limit q zero = record {
      ty = λ p d x l k f e sc h i. absurd i;
      bound = λ p d x l k f e sc h i. absurd i;
      param = λ p x l k f e sc h i. absurd i;
      argument = λ x l k f e sc h i. absurd i;
      arguments = λ x l k f e sc h i. absurd i;
      firsts = firsts_at zero;
    }
    meets_to zero limit q (suc n) = record {
      ty = λ p d x l k f e sc h. absurd (omega (arith, q, h));
      bound = λ p d x l k f e sc h. absurd (omega (arith, q, h));
      param = λ p x l k f e sc h. absurd (omega (arith, q, h));
      argument = λ x l k f e sc h. absurd (omega (arith, q, h));
      arguments = λ x l k f e sc h. absurd (omega (arith, q, h));
      firsts = firsts_at (suc n);
    }
    meets_to (suc m) limit q (suc n) = record {
      ty = λ p d x l k f e sc h i o u. below_met (knot.ty attrs values) limit p x l k f e sc h (type_by n p d x l k f e sc (meets_to m (ahead (at l f e sc)) (omega (arith, q, h))) i o u);
      bound = λ p d x l k f e sc h i o. below_met (knot.bound attrs values) limit p x l k f e sc h (bound_by n p d x l k f e sc (meets_to m (ahead (at l f e sc)) (omega (arith, q, h))) i o);
      param = λ p x l k f e sc h i o. below_met (knot.param attrs values) limit p x l k f e sc h (param_by n p x l k f e sc (meets_to m (ahead (at l f e sc)) (omega (arith, q, h))) i o);
      argument = λ x l k f e sc h i o. below_met (knot.argument_in attrs values) limit tt x l k f e sc h (argument_by n between_angles x l k f e sc (meets_to m (ahead (at l f e sc)) (omega (arith, q, h))) i o);
      arguments = λ x l k f e sc h i. below_met (knot.arguments_in attrs values) limit tt x l k f e sc h (arguments_by n x l k f e sc (meets_to m (ahead (at l f e sc)) (omega (arith, q, h))) i);
      firsts = firsts_at (suc n);
    }

    pub knot_met : (limit n : ℕ) → Meets (reads_below attrs values limit) (To n) limit
    knot_met limit = meets_to limit limit (omega arith)
