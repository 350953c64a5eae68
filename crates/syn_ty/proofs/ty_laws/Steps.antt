-- Types by what begins them: a read that ends in another one is that one.
use Rattle.std.proofs.Common.{◌≡◌, ℕ, Bool, true, false, List, [], Option, Some, None, Result, Ok, Err, refl, sym, ap, subst, ◌∙◌}
use Rattle.syn_ty.proofs.ty_laws.words.Tokens.{Span, GroupToken, sees_invisible, sees_lifetime, Item, Many, Follows, Outcome, Reader, Reads, and_then, here, is_done, pure, sees_group, Refusal, Stream}
use Rattle.syn_ty.proofs.ty_laws.words.Paths.{ReadValues, AsWritten}
use Rattle.syn_ty.proofs.ty_laws.words.Forms.{Object, TypePlace, Plus, ahead, allows_plus, position}
use Rattle.syn_ty.proofs.ty_laws.words.Types.{binder, maybe_qualified, bound, reads_below, Readers, a_bound, a_type, as_path, begins_named, sees_bindable, sees_builtin, sees_fn_ptr, sees_unsafe_binder, type_step, BoundLifetimes, Path, QSelf, TypeParamBound, TypeTraitObject, TypeTree, impl_trait_with, trait_object_with}
use Rattle.syn_forms.specs.groups.Reading as content
use Rattle.syn_ty.specs.ty.Knot as knot
use Rattle.syn_ty.specs.ty.Reading.{after_group, bound_type, builtin_type, by_last_tokens, by_token, dyn_of, dyn_type, fn_ptr_after, group_type, group_with_arguments, group_with_segments, group_without_segments, impl_bounds, impl_trait, named_type, object_bounds, optional_dyn, optional_star, paren_content, paren_type, path_or_object, sees_further_arguments, sees_further_segment, slice_or_array, trait_object, unbound_type, unsafe_binder}
use Rattle.syn_ty.specs.declared.ty.TypeOf.TheVariants.{FnPtr}
use Rattle.token_core.specs.declared.tree.Delimiter.TheVariants as d
use Rattle.token_core.specs.Tokens as token
use Rattle.token_core.proofs.Steps.{chosen, link}

-- what one read answers, the other one does
pub as_told : {A : Type 0} (o p : Outcome A) (r : Result A Refusal) (s t : Stream) → o ≡ p → Reads p r t × Follows s t → Reads o r t × Follows s t
as_told o p r s t e h = (subst (λ z. Reads z r t) (sym e) h.0, h.1)

module _ {A E : Type 0} (r : Readers A E) (s : Stream) where
  pub elements_in_parens : is_done s.rest ≡ false → sees_lifetime s.rest ≡ false → token.sees_question s.rest ≡ false → paren_content r s ≡ content.type_or_elements (r (a_type Plus)) s
  unfolding paren_content content.type_paren_content
  elements_in_parens n l q = chosen (is_done s.rest) false _ _ s _ n (chosen (sees_lifetime s.rest) false _ _ s _ l (chosen (token.sees_question s.rest) false _ _ s _ q refl))

  -- after an invisible group, whose type is boxed
  module _ (g : GroupToken) (x y : TypeTree A E) where
    pub arguments_go_on : sees_further_arguments s.rest ≡ true → y ≡ x → group_without_segments r g x s ≡ group_with_arguments r g y (as_path y) s
    unfolding group_without_segments
    arguments_go_on h e = chosen (sees_further_arguments s.rest) true _ _ s _ h (ap (λ z. group_with_arguments r g z (as_path z) s) (sym e))

    pub segments_go_on : sees_further_segment s.rest ≡ true → y ≡ x → after_group r (g, x) s ≡ group_with_segments r g y (as_path y) s
    unfolding after_group
    segments_go_on h e = chosen (sees_further_segment s.rest) true _ _ s _ h (ap (λ z. group_with_segments r g z (as_path z) s) (sym e))

  pub no_segment_goes_on : (g : GroupToken) (x : TypeTree A E) → sees_further_segment s.rest ≡ false → after_group r (g, x) s ≡ group_without_segments r g x s
  unfolding after_group
  no_segment_goes_on g x h = chosen (sees_further_segment s.rest) false _ _ s _ h refl

module _ {A E : Type 0} (attrs : Reader (List A)) (values : ReadValues E) (r : Readers A E) (s : Stream) where
  -- ---- by the first token

  module _ (plus : Bool) where
    pub token_dyn : token.sees_dyn s.rest ≡ true → by_token attrs values r plus s ≡ dyn_type r plus s
    unfolding by_token
    token_dyn h = chosen (token.sees_dyn s.rest) true _ _ s _ h refl

    pub token_bracket : token.sees_dyn s.rest ≡ false → sees_group d.Bracket s.rest ≡ true → by_token attrs values r plus s ≡ slice_or_array values r s
    unfolding by_token
    token_bracket h b = chosen (token.sees_dyn s.rest) false _ _ s _ h (chosen (sees_group d.Bracket s.rest) true _ _ s _ b refl)

    pub token_last : token.sees_dyn s.rest ≡ false → sees_group d.Bracket s.rest ≡ false → token.sees_star s.rest ≡ false → token.sees_and s.rest ≡ false →
        by_token attrs values r plus s ≡ by_last_tokens attrs values r plus s
    unfolding by_token
    token_last h b p f =
        chosen (token.sees_dyn s.rest) false _ _ s _ h
        (chosen (sees_group d.Bracket s.rest) false _ _ s _ b
        (chosen (token.sees_star s.rest) false _ _ s _ p (chosen (token.sees_and s.rest) false _ _ s _ f refl)))

  module _ (place : TypePlace) (from : List Item) where
    pub unbound_paren : (plus : Bool) → sees_group d.Parenthesis s.rest ≡ true → plus ≡ allows_plus place → unbound_type attrs values r place from s ≡ paren_type r plus s
    unfolding unbound_type
    unbound_paren plus h e = chosen (sees_group d.Parenthesis s.rest) true _ _ s _ h (ap (λ z. paren_type r z s) (sym e))

    pub unbound_named : sees_group d.Parenthesis s.rest ≡ false → begins_named s.rest ≡ true → unbound_type attrs values r place from s ≡ named_type attrs values r place from None s
    unfolding unbound_type
    unbound_named h n = chosen (sees_group d.Parenthesis s.rest) false _ _ s _ h (chosen (begins_named s.rest) true _ _ s _ n refl)

    pub unbound_token : (plus : Bool) → sees_group d.Parenthesis s.rest ≡ false → begins_named s.rest ≡ false → plus ≡ allows_plus place →
        unbound_type attrs values r place from s ≡ by_token attrs values r plus s
    unfolding unbound_type
    unbound_token plus h n e =
        chosen (sees_group d.Parenthesis s.rest) false _ _ s _ h (chosen (begins_named s.rest) false _ _ s _ n (ap (λ z. by_token attrs values r z s) (sym e)))

    -- ---- one turn

    pub step_group : sees_invisible s.rest ≡ true → type_step attrs values r place s ≡ group_type r s
    unfolding type_step
    step_group h = chosen (sees_invisible s.rest) true _ _ s _ h refl

    pub step_bound : sees_invisible s.rest ≡ false → token.sees_for s.rest ≡ true → from ≡ position s → type_step attrs values r place s ≡ bound_type attrs values r place from s
    unfolding type_step
    step_bound h b e =
        chosen (sees_invisible s.rest) false _ _ s _ h (chosen (token.sees_for s.rest) true _ _ s _ b (ap (λ z. bound_type attrs values r place z s) (sym e)))

    pub step_unbound : sees_invisible s.rest ≡ false → token.sees_for s.rest ≡ false → from ≡ position s → type_step attrs values r place s ≡ unbound_type attrs values r place from s
    unfolding type_step
    step_unbound h b e =
        chosen (sees_invisible s.rest) false _ _ s _ h (chosen (token.sees_for s.rest) false _ _ s _ b (ap (λ z. unbound_type attrs values r place z s) (sym e)))

    -- ---- with a name

    pub named_binder : (l : Option (BoundLifetimes A E)) → sees_unsafe_binder s.rest ≡ true → named_type attrs values r place from l s ≡ unsafe_binder r from place s
    unfolding named_type
    named_binder l h = chosen (sees_unsafe_binder s.rest) true _ _ s _ h refl

    pub named_builtin : (l : Option (BoundLifetimes A E)) → sees_unsafe_binder s.rest ≡ false → sees_fn_ptr s.rest ≡ false → sees_builtin s.rest ≡ true →
        named_type attrs values r place from l s ≡ builtin_type from s
    unfolding named_type
    named_builtin l h f b =
        chosen (sees_unsafe_binder s.rest) false _ _ s _ h (chosen (sees_fn_ptr s.rest) false _ _ s _ f (chosen (sees_builtin s.rest) true _ _ s _ b refl))

    pub named_fn_ptr : (l : Option (BoundLifetimes A E)) → sees_unsafe_binder s.rest ≡ false → sees_fn_ptr s.rest ≡ true →
        named_type attrs values r place from l s ≡ and_then (fn_ptr_after attrs values r l s) (λ x. pure (FnPtr x))
    unfolding named_type
    named_fn_ptr l h f = chosen (sees_unsafe_binder s.rest) false _ _ s _ h (chosen (sees_fn_ptr s.rest) true _ _ s _ f refl)

    pub named_path : (l : Option (BoundLifetimes A E)) (plus : Bool) → sees_unsafe_binder s.rest ≡ false → sees_fn_ptr s.rest ≡ false → sees_builtin s.rest ≡ false → plus ≡ allows_plus place →
        named_type attrs values r place from l s ≡ and_then (maybe_qualified r AsWritten s) (path_or_object r plus l)
    unfolding named_type
    named_path l plus h f b k =
        chosen (sees_unsafe_binder s.rest) false _ _ s _ h
        (chosen (sees_fn_ptr s.rest) false _ _ s _ f
        (chosen (sees_builtin s.rest) false _ _ s _ b (ap (λ z. and_then (maybe_qualified r AsWritten s) (path_or_object r z l)) (sym k))))

    -- ---- after a binder

    pub bound_named : (l : BoundLifetimes A E) (t : Stream) → binder r s ≡ Ok (l, t) → sees_bindable t.rest ≡ true →
        bound_type attrs values r place from s ≡ named_type attrs values r place from (Some l) t
    unfolding bound_type
    bound_named l t e h = link _ e (chosen (sees_bindable t.rest) true _ _ t _ h refl)

-- ---- bounds that are refused from a token on

module _ {A E : Type 0} (r : Readers A E) (plus : Bool) (from : Span) (s t : Stream) (w : token.Impl) (h : from ≡ here s) (e : token.impl_word s ≡ Ok (w, t)) where
  pub impl_told : (u : Stream) (v : Many (TypeParamBound A E) token.Plus) → impl_bounds r from plus t ≡ Ok (v, u) → impl_trait r plus s ≡ Ok (impl_trait_with [] w v, u)
  unfolding impl_trait
  impl_told u v k = link _ e (ap (λ o. and_then o (λ x. pure (impl_trait_with [] w x))) (ap (λ z. impl_bounds r z plus t) (sym h) ∙ k))

  pub impl_refused : (k : Refusal) → impl_bounds r from plus t ≡ Err k → impl_trait r plus s ≡ Err k
  unfolding impl_trait
  impl_refused k b = link _ e (ap (λ o. and_then o (λ x. pure (impl_trait_with [] w x))) (ap (λ z. impl_bounds r z plus t) (sym h) ∙ b))

module _ {A E : Type 0} (r : Readers A E) (plus : Bool) (from : Span) (s t u v : Stream) (w : token.Dyn) (q : Option token.Star) (x : TypeParamBound A E) (h : from ≡ here s) (e : token.dyn_word s ≡ Ok (w, t)) (f : optional_star t ≡ Ok (q, u)) (g : r (a_bound Object) u ≡ Ok (x, v)) where
  pub dyn_told : (at : List Item) (b : Many (TypeParamBound A E) token.Plus) (k : Stream) → at ≡ position s → object_bounds r from plus x v ≡ Ok (b, k) → dyn_type r plus s ≡ dyn_of at w q b k
  unfolding dyn_type
  dyn_told at b k i j = link _ e (link _ f (link _ g (link (dyn_of (position s) w q) (ap (λ z. object_bounds r z plus x v) (sym h) ∙ j) (ap (λ z. dyn_of z w q b k) (sym i)))))

  pub dyn_refused : (k : Refusal) → object_bounds r from plus x v ≡ Err k → dyn_type r plus s ≡ Err k
  unfolding dyn_type
  dyn_refused k b = link _ e (link _ f (link _ g (ap (λ o. and_then o (dyn_of (position s) w q)) (ap (λ z. object_bounds r z plus x v) (sym h) ∙ b))))

-- a trait object by itself, whose first bound is read by the knot
module _ {A E : Type 0} (attrs : Reader (List A)) (values : ReadValues E) (plus : Bool) (n : ℕ) (from : Span) (s t u : Stream) (w : Option token.Dyn) (x : TypeParamBound A E) (i : n ≡ ahead s) (h : from ≡ here s) (e : optional_dyn s ≡ Ok (w, t)) (f : bound attrs values Object t ≡ Ok (x, u)) where
  abbrev after : Outcome (Many (TypeParamBound A E) token.Plus) → Outcome (TypeTraitObject A E)
  after o = and_then o (λ b. pure (trait_object_with [] w b))

  same_bounds : object_bounds (reads_below attrs values (ahead s)) (here s) plus x u ≡ object_bounds (reads_below attrs values n) from plus x u
  same_bounds = ap (λ z. object_bounds (reads_below attrs values z) (here s) plus x u) (sym i) ∙ ap (λ z. object_bounds (reads_below attrs values n) z plus x u) (sym h)

  pub object_told : (b : Many (TypeParamBound A E) token.Plus) (k : Stream) → object_bounds (reads_below attrs values n) from plus x u ≡ Ok (b, k) → knot.trait_object attrs values plus s ≡ Ok (trait_object_with [] w b, k)
  unfolding knot.trait_object trait_object
  object_told b k j = link _ e (link _ f (ap after (same_bounds ∙ j)))

  pub object_refused : (k : Refusal) → object_bounds (reads_below attrs values n) from plus x u ≡ Err k → knot.trait_object attrs values plus s ≡ Err k
  unfolding knot.trait_object trait_object
  object_refused k b = link _ e (link _ f (ap after (same_bounds ∙ b)))
