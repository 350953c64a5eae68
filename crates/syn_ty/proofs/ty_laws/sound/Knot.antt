-- The reads that go back to themselves, tied: what they answer is spelt, by the count of the turns.
use Rattle.std.proofs.Common.{◌≡◌, ℕ, zero, suc, ◌<◌, ◌≤◌, ◌==◌, eqb-true, Bool, true, List, length, None, Ok, refl, sym, ◌∙◌, ap, subst, arith}
use Rattle.syn_ty.proofs.ty_laws.words.Tokens.{Lifetime, none_left, last_value, value_and_mark, Many, Reader, leaves, Visible, IsLifetime, Stream, Toks, done}
use Rattle.syn_ty.proofs.ty_laws.words.Paths.{ReadValues, SpelledValues}
use Rattle.syn_ty.proofs.ty_laws.words.Forms.{Object, Opaque, TypePlace, Plus, ahead, below, allows_plus}
use Rattle.syn_ty.proofs.ty_laws.words.Types.{a_lifetime_bound, alone, IsArgument, is_empty, IsAngle, an_angle, IsType, read, read_at, reads_below, step, AreBareBounds, IsImpl, Manner, loosely, End, closed, Parts, Point, Tree, Readers, a_bound, a_param, a_type, an_argument, some_arguments, spelt_to, AngleBracketed, GenericArgument, PathArguments, TypeImplTrait, TypeParamBound, TypeTree}
use Rattle.token_core.specs.Tokens.{Plus as PlusMark}
use Rattle.syn_path.proofs.Words.{TookOne}
use Rattle.syn_forms.proofs.nested_laws.Below.{out}
use Rattle.syn_ty.specs.declared.generics.GenericParamOf.TheOpen as o
use Rattle.syn_ty.specs.declared.generics.TypeParamBoundOf.TheVariants as bound
use Rattle.syn_ty.specs.declared.path.PathArgumentsOf.TheVariants as a
use Rattle.syn_ty.specs.path.Paths.{empty_layer}
use Rattle.syn_ty.specs.path.Spelling.{some_arguments as angle_arguments}
use Rattle.syn_ty.specs.ty.Reading as reading
use Rattle.syn_ty.proofs.ty_laws.sound.AlongBounds.{binder_along}
use Rattle.syn_ty.proofs.ty_laws.sound.AlongKnot.{step_along}
use Rattle.syn_ty.proofs.ty_laws.sound.AlongTypes.{builtin_along, unsafe_binder_along}
use Rattle.syn_ty.proofs.ty_laws.sound.Angles.{arguments_took}
use Rattle.syn_ty.proofs.ty_laws.sound.Arguments.{argument_alone, argument_took, in_angles}
use Rattle.syn_ty.proofs.ty_laws.sound.Bound.{bound_took}
use Rattle.syn_ty.proofs.ty_laws.sound.Dyn.{dyn_type_took, impl_took}
use Rattle.syn_ty.proofs.ty_laws.sound.Functions.{fn_ptr_after_took}
use Rattle.syn_ty.proofs.ty_laws.sound.Heights.{held_wide, supplied_wide, type_told}
use Rattle.syn_ty.proofs.ty_laws.sound.Higher.{higher}
use Rattle.syn_ty.proofs.ty_laws.Knot.{as_held, enough}
use Rattle.syn_ty.proofs.ty_laws.sound.Objects.{lifetime_object_took}
use Rattle.syn_ty.proofs.ty_laws.sound.Params.{param_took}
use Rattle.syn_ty.proofs.ty_laws.sound.Signed.{EmptyPair}
use Rattle.syn_ty.proofs.ty_laws.sound.Forms.{Told}
use Rattle.syn_ty.proofs.ty_laws.sound.Within.{Held, Supplied}

some_there : (n : ℕ) → (suc n == 0) ≡ true → ⊥
some_there n e = omega (arith, eqb-true (suc n) 0 e)

module _ {A E : Type 0} (r : Readers A E) (part : Manner → Parts A E) (limit : ℕ) (h : Held r part) where
  -- what is known of reads is known of them below a limit
  pub limited : Held (λ q. below limit (r q)) part
  limited = record {
    ty = λ p s t x v e. h.ty p s t x v (out limit (r (a_type p)) s t x e).was;
    bound = λ p s t x v e. h.bound p s t x v (out limit (r (a_bound p)) s t x e).was;
    param = λ p s t x v e. h.param p s t x v (out limit (r (a_param p)) s t x e).was;
    argument = λ s t x v e. h.argument s t x v (out limit (r an_argument) s t x e).was;
    arguments = λ s t x v e. h.arguments s t x v (out limit (r some_arguments) s t x e).was;
    pair = h.pair;
    along = λ q s t x e. h.along q s t x (out limit (r q) s t x e).was;
  }

-- ---- one turn

module _ {A E : Type 0} (shown : Bool → List A → Toks → Toks → Type 0) (spelt : SpelledValues E) where
  -- what is of at most this height
  abbrev To : ℕ → Manner → Parts A E
  To = spelt_to shown spelt

  no_argument : (y : AngleBracketed A E) → is_empty (a.AngleBracketed y) ≡ true → empty_layer (o.AngleBracketed y) ≡ true
  no_argument y e = sym (ap empty_layer (a.outs-AngleBracketed y)) ∙ e

  -- angle marks between which no argument stands are an empty pair
  empty_angle : (n : ℕ) (y : AngleBracketed A E) (l k : Toks) → IsAngle (To n) loosely y l k → empty_layer (o.AngleBracketed y) ≡ true → EmptyPair (To (suc n)) l k
  unfolding EmptyPair
  empty_angle n y l k (an_angle c i (none_left h) j) e = (_, _, _, _, _, c, i, j)
  empty_angle n y l k (an_angle c i (last_value w) j) e = absurd (some_there 0 e)
  empty_angle n y l k (an_angle c i (value_and_mark {xs = xs} w m v) j) e = absurd (some_there (length xs) e)

  pub empty_at : (n : ℕ) (x : PathArguments A E) (l k : Toks) → (To (suc n) loosely).arguments x l k → is_empty x ≡ true → EmptyPair (To (suc n)) l k
  empty_at n x l k (angle_arguments {x = y} i) e = empty_angle n y l k i (no_argument y e)

  -- where there is a bound, a lifetime is one too
  lifetimes : (n : ℕ) (d : End) (x : TypeParamBound A E) (l k : Toks) → (To n loosely).bound Object d x l k → (y : Lifetime) (m j : Toks) → IsLifetime y m j → (To n loosely).bound Object closed (bound.Lifetime y) m j
  lifetimes zero d x l k i y m j w = absurd i
  lifetimes (suc n) d x l k i y m j w = a_lifetime_bound w

  module _ (n : ℕ) (attrs : Reader (List A)) (values : ReadValues E) (r : Readers A E) (h : Held r (To n)) (g : Supplied attrs values (To n)) where
    took_lifetime : (p : TypePlace) (s t : Stream) (w : Many (TypeParamBound A E) PlusMark) → Visible s.rest → reading.lifetime_object r s ≡ Ok (w, t) → TookOne (Told (AreBareBounds (To n) loosely p)) s t w
    took_lifetime p s t w v e = lifetime_object_took r (To n) (h.bound Object) (lifetimes n) p s t w v e

    took_dyn : (p : TypePlace) (s t : Stream) (x : TypeTree A E) → Visible s.rest → reading.dyn_type r (allows_plus p) s ≡ Ok (x, t) → TookOne (Told (IsType (To n) loosely p)) s t x
    took_dyn p s t x v e = dyn_type_took r (To n) (h.bound Object) h.along (allows_plus p) p refl s t x v e

    took_impl : (p : TypePlace) (s t : Stream) (x : TypeImplTrait A E) → Visible s.rest → reading.impl_trait r (allows_plus p) s ≡ Ok (x, t) → TookOne (Told (IsImpl (To n) loosely p)) s t x
    took_impl p s t x v e = impl_took r (To n) (h.bound Opaque) p (allows_plus p) refl s t x v e

    type_turn : (p : TypePlace) (s t : Stream) (x : TypeTree A E) → Visible s.rest → reading.type_step attrs values r p s ≡ Ok (x, t) → TookOne (Told ((To (suc (suc n)) loosely).ty p)) s t x
    type_turn p s t x v e =
        type_told shown spelt n attrs values r h g took_lifetime took_dyn took_impl (λ l k a b y w i. fn_ptr_after_took attrs values r (To n) h g l k a b y w i) (binder_along h.along) builtin_along (unsafe_binder_along h.along) p s t x v e

  module _ (n : ℕ) (attrs : Reader (List A)) (values : ReadValues E) (r : Readers A E) (h : Held r (To (suc n))) (g : Supplied attrs values (To (suc n))) where
    -- over one height more
    over : Held r (To (suc (suc n)))
    over = held_wide (To (suc n)) (To (suc (suc n))) (higher shown spelt (suc n) loosely) r (empty_at (suc n)) h

    more : Supplied attrs values (To (suc (suc n)))
    more = supplied_wide (To (suc n)) (To (suc (suc n))) (higher shown spelt (suc n) loosely) attrs values g

    -- what one turn of these reads answers is two heights more
    pub turned : Held (step attrs values r) (To (suc (suc (suc n))))
    turned = record {
      ty = type_turn (suc n) attrs values r h g;
      bound = λ p s t x v e. bound_took r (To (suc (suc n))) over p s t x v e;
      param = λ p s t x v e. param_took attrs values r (To (suc (suc n))) over more p s t x v e;
      argument = λ s t x v e.
          argument_took attrs values r (To (suc (suc n))) over more (λ y l k i. in_angles (To (suc n)) y l k i) (reading.type_step attrs values r Plus) (type_turn (suc n) attrs values r h g Plus) s t x v e;
      arguments = λ s t x v e. arguments_took r (To (suc (suc n))) over.argument s t x v e;
      pair = empty_at (suc (suc n));
      along = step_along attrs values g.attrs_along g.argument_along h.along;
    }

    -- an argument alone, of one height less
    pub alone_turned : (s t : Stream) (x : GenericArgument A E) → Visible s.rest → step attrs values r an_argument s ≡ Ok (x, t) → leaves t ≡ None → IsArgument (IsType (To (suc (suc n))) loosely Plus) (To (suc (suc n))) loosely alone x s.rest done
    alone_turned s t x v e o =
        argument_alone attrs values r (To (suc (suc n))) over more (λ y l k i. in_angles (To (suc n)) y l k i) (reading.type_step attrs values r Plus) (type_turn (suc n) attrs values r h g Plus) s t x v e o

-- ---- all turns

-- two heights a turn
abbrev pub twice : ℕ → ℕ
twice zero = zero
twice (suc n) = suc (suc (twice n))

module _ {A E : Type 0} (attrs : Reader (List A)) (values : ReadValues E) (shown : Bool → List A → Toks → Toks → Type 0) (spelt : SpelledValues E)
    (supplied : (n : ℕ) → Supplied attrs values (spelt_to shown spelt (suc n))) where
  -- what is read by so many turns
  abbrev pub part : ℕ → Manner → Parts A E
  part n = spelt_to shown spelt (suc (twice n))

  pub at_told : (n : ℕ) → Held (read_at attrs values n) (part n)
  at_told zero = record {
    ty = λ p s t x v e. cc e;
    bound = λ p s t x v e. cc e;
    param = λ p s t x v e. cc e;
    argument = λ s t x v e. cc e;
    arguments = λ s t x v e. cc e;
    pair = empty_at shown spelt zero;
    along = λ q s t x e. cc e;
  }
  at_told (suc n) =
      let w = λ (s : Stream). turned shown spelt (twice n) attrs values (λ q. below (ahead s) (read_at attrs values n q)) (limited (read_at attrs values n) (part n) (ahead s) (at_told n)) (supplied (twice n)) in
      record {
        ty = λ p s t x v e. (w s).ty p s t x v e;
        bound = λ p s t x v e. (w s).bound p s t x v e;
        param = λ p s t x v e. (w s).param p s t x v e;
        argument = λ s t x v e. (w s).argument s t x v e;
        arguments = λ s t x v e. (w s).arguments s t x v e;
        pair = empty_at shown spelt (suc (suc (twice n)));
        along = λ q s t x e. (w s).along q s t x e;
      }

  -- ---- by as many turns as are enough

  -- a read that answers does so by any number of turns over what is left
  pub by_turns : (m : ℕ) (q : Point) (s t : Stream) (x : Tree A E q) → ahead s < m → read attrs values q s ≡ Ok (x, t) → read_at attrs values m q s ≡ Ok (x, t)
  unfolding read
  by_turns m q s t x h e = enough attrs values (suc (ahead s)) s m (suc (ahead s)) q (omega arith) h (omega arith) ∙ e

  -- and so does one below a limit
  below_by : (limit m : ℕ) (q : Point) (s t : Stream) (x : Tree A E q) → limit ≤ m → reads_below attrs values limit q s ≡ Ok (x, t) → read_at attrs values m q s ≡ Ok (x, t)
  below_by limit m q s t x h e =
      let w = out limit (read attrs values q) s t x (subst (λ p. p s ≡ Ok (x, t)) (sym (as_held attrs values limit q)) e) in
      by_turns m q s t x (omega (arith, h, w.less)) w.was

  -- What a form holds is read below what is left where it began: its trees are of that height, or of any further one.
  pub held_below : (limit m : ℕ) → limit ≤ m → Held (reads_below attrs values limit) (part m)
  held_below limit m g =
      let h = at_told m in
      record {
        ty = λ p s t x v e. h.ty p s t x v (below_by limit m (a_type p) s t x g e);
        bound = λ p s t x v e. h.bound p s t x v (below_by limit m (a_bound p) s t x g e);
        param = λ p s t x v e. h.param p s t x v (below_by limit m (a_param p) s t x g e);
        argument = λ s t x v e. h.argument s t x v (below_by limit m an_argument s t x g e);
        arguments = λ s t x v e. h.arguments s t x v (below_by limit m some_arguments s t x g e);
        pair = h.pair;
        along = λ q s t x e. h.along q s t x (below_by limit m q s t x g e);
      }
