-- What each form of this layer begins with, and that fewer tokens are left after it, at every height of a tree.
use Rattle.std.proofs.lemmas.Bool.{eqb-true}
use Rattle.std.proofs.Common.{◌≡◌, ◌⊎◌, ◌==◌, ◌||◌, if◌then◌else◌, is_some, ℕ, zero, suc, Bool, true, false, List, [], Option, None, inl, inr, refl, sym, ap, subst}
use Rattle.syn_ty.proofs.ty_laws.words.Tokens.{Lifetime, Lit, Parenthesis, Bracket, Ident, sees_lit, is_done, sees_group, sees_mark, last_char, is_mark, IsWord, is_word, IsLifetime, is_lifetime, Toks, done, word, mark, lit, group, enter, leave, punct}
use Rattle.syn_ty.proofs.ty_laws.words.Paths.{Macro, PathOf, PathSegmentOf, AsWritten, IsCall, a_macro, Sep, SpelledValues}
use Rattle.syn_ty.proofs.ty_laws.words.Forms.{ParamPlace, TypePlace, Plus, sees_arguments}
use Rattle.syn_ty.proofs.ty_laws.words.Types.{LifetimeParamOf, IsGiven, given, IsLifetimeParam, a_lone_lifetime, a_lifetime_with_bounds, AreBoundsAfter, no_colon, after_colon, IsAnyType, any_type, IsTypeParam, a_type_param, IsConstParam, a_const_param, IsParam, a_lifetime_param, a_named_param, a_constant_param, a_bare_param, ArgumentPlace, between_angles, IsItemName, an_item, an_item_with_arguments, IsArgument, a_lifetime_argument, a_type_argument, a_const_argument, an_assoc_type, an_assoc_const, a_constraint, sees_const, is_segment_word, IsArguments, IsType, a_path_type, a_macro, a_bound_macro, an_object_with_dyn, an_object_without_dyn, an_impl_type, a_fn_type, a_ptr_type, a_reference_type, a_paren_type, a_tuple_type, a_slice_type, an_array_type, an_infer_type, a_never_type, a_verbatim_type, enclosed, bracketed, counted, no_element, some_elements, Manner, clearly, End, Parts, Relation, an_infer, a_never, turn, spelt_to, AngleBracketed, ConstParam, GenericArgument, GenericParam, PathArguments, TypeParam, TypeParamBound, TypeTree}
use Rattle.token_core.specs.Lits.{next_lit, past_number}
use Rattle.token_core.specs.Tokens as token
use Rattle.token_core.proofs.Unseen.{no_mark-other}
use Rattle.syn_path.specs.path.Spelling as bare
use Rattle.syn_ty.specs.declared.path.PathArgumentsOf.TheVariants as a
use Rattle.syn_ty.specs.path.Spelling.{some_arguments}
use Rattle.syn_ty.proofs.ty_laws.complete.FirstBounds.{bound_life, bound_starts, bounds_no}
use Rattle.syn_ty.proofs.ty_laws.complete.Named.{for_less}
use Rattle.syn_ty.proofs.ty_laws.complete.FirstPaths.{PartBegins, PathStarts, by_word, by_sep, Starts, Worded, worded, angle_starts, any_path_starts, mark_other, mark_there, path_type, starts_on}
use Rattle.syn_ty.proofs.ty_laws.complete.FirstTypes.{bang_starts, bare_starts, binder_starts, borrow_starts, dyn_starts, fn_starts, group_starts, impl_starts, infer_starts, pointer_starts, verbatim_starts}
use Rattle.syn_ty.proofs.ty_laws.complete.Less.{same, some, no_no, no_less, less_no, less_less, word_less, mark_less, group_less, mark_no, word_takes, lifetime_takes, optional_no, listed_no, call_less}
use Rattle.syn_ty.proofs.ty_laws.complete.Within.{Firsts, ItemBegins, Less, NoMore, TypeBegins}

-- ---- macro calls

words_start : {A : Type 0} {none : A} (all : List (PathSegmentOf A)) (seps : List Sep) (l k : Toks) → bare.AreSegments true is_segment_word none all seps l k → Worded l k
unfolding sees_mark
words_start all seps l k (bare.last_segment h) = worded h (λ n. n)
words_start all seps l k (bare.more_segments h a i) = worded h (λ n. refl)

bare_path_starts : {A : Type 0} {none : A} (p : PathOf A) (l k : Toks) → bare.IsBarePath true is_segment_word none p l k → PathStarts l k
bare_path_starts p l k (bare.a_bare_path {all = all} {seps = seps} {m = m} bare.no_leading i) = by_word (words_start all seps m k i)
bare_path_starts p l k (bare.a_bare_path (bare.leading a) i) = by_sep

call_starts : (x : Macro) (l k : Toks) → IsCall true is_segment_word x l k → TypeBegins l k
unfolding sees_mark
call_starts x l k (a_macro {p = p} {a = a} {j = j} {d = d} {s = s} {c = c} i h e t) = let m = mark (punct 33 j a) (group d s c k) in path_type l k (starts_on l m k (bare_path_starts p l m i) refl)

-- ---- parameters and arguments

pound_item : (l : Toks) → token.sees_pound l ≡ true → ItemBegins l
pound_item l h = record { there = mark_there 35 l h; no_gt = mark_other 35 62 refl l h }

word_item : (i : Ident) (k : Toks) → ItemBegins (word i k)
unfolding is_done sees_mark
word_item i k = record { there = refl; no_gt = refl }

const_word_item : (w : token.Const) (l k : Toks) → IsWord w l k → ItemBegins l
const_word_item w l k is_word = word_item _ k

life_item : (x : Lifetime) (l k : Toks) → IsLifetime x l k → ItemBegins l
unfolding is_done sees_mark
life_item x l k is_lifetime = record { there = refl; no_gt = refl }

type_item : (l k : Toks) → TypeBegins l k → ItemBegins l
type_item l k h = record { there = h.there; no_gt = h.no_gt }

const_item : (l : Toks) → sees_const l ≡ true → ItemBegins l
unfolding is_done sees_mark sees_const sees_lit sees_group
const_item done h = cc h
const_item (word i k) h = word_item i k
const_item (mark p k) h = by_char (p.ch == 45) refl
  where
    by_char : (b : Bool) → (p.ch == 45) ≡ b → ItemBegins (mark p k)
    by_char true e = record { there = refl; no_gt = no_mark-other 62 [] p k (ap (λ z. z == 62) (eqb-true p.ch 45 e)) }
    by_char false e = let g : sees_const (mark p k) ≡ false = ap (λ (b : Bool). let o : Option (Lit × Toks) = if b then past_number p.span (next_lit k) else None in is_some o || false) e in cc
const_item (lit x k) h = record { there = refl; no_gt = refl }
const_item (group d s c k) h = record { there = refl; no_gt = refl }
const_item (enter s k) h = let i = const_item k h in record { there = i.there; no_gt = i.no_gt }
const_item (leave k) h = let i = const_item k h in record { there = i.there; no_gt = i.no_gt }

given_no : {V : Type 0} {Is : Relation V} → ((x : V) (l k : Toks) → Is x l k → NoMore l k) → (g : token.Equals × V) (l k : Toks) → IsGiven true Is g l k → NoMore l k
given_no h g l k (given {q = q} {x = x} {m = m} i j) = no_no (mark_no q l m i) (h x m k j)

-- ---- over what they hold

module _ {A E : Type 0} {part : Manner → Parts A E} (s : Starts part) where
  pub type_starts : (p : TypePlace) (e : End) (x : TypeTree A E) (l k : Toks) → IsType part clearly p e x l k → TypeBegins l k × Less l k
  type_starts p e x l k (a_path_type {o = o} {p = q} i) = let h = any_path_starts s AsWritten o q l k i.0 in (path_type l k h.0, h.1)
  type_starts p e x l k (a_macro {x = y} i) = (call_starts y l k i.0, call_less true is_segment_word y l k i.0)
  type_starts p e x l k (a_bound_macro {b = b} {x = y} {m = m} i j h) = (binder_starts s b l m k i, less_less (for_less part s.firsts b l m i) (call_less true is_segment_word y m k j.0))
  type_starts p e x l k (an_object_with_dyn {x = y} i) = dyn_starts s p e y l k i
  type_starts p e x l k (an_object_without_dyn {w = v} i) = bare_starts s p e v l k i
  type_starts p e x l k (an_impl_type {x = y} i) = impl_starts s p e y l k i
  type_starts p e x l k (a_fn_type {x = y} i) = fn_starts s e y l k i
  type_starts p e x l k (a_ptr_type {x = y} i) = pointer_starts s e y l k i
  type_starts p e x l k (a_reference_type {x = y} i) = borrow_starts s e y l k i
  type_starts p e x l k (a_paren_type (enclosed {s = a} {c = c} i)) = (group_starts Parenthesis refl a c k k, group_less Parenthesis a c k)
  type_starts p e x l k (a_tuple_type (no_element {s = a})) = (group_starts Parenthesis refl a done k k, group_less Parenthesis a done k)
  type_starts p e x l k (a_tuple_type (some_elements {s = a} {c = c} h i j t)) = (group_starts Parenthesis refl a c k k, group_less Parenthesis a c k)
  type_starts p e x l k (a_slice_type (bracketed {s = a} {c = c} i)) = (group_starts Bracket refl a c k k, group_less Bracket a c k)
  type_starts p e x l k (an_array_type (counted {s = a} {c = c} i j t)) = (group_starts Bracket refl a c k k, group_less Bracket a c k)
  type_starts p e x l k (an_infer_type (an_infer {w = w} i)) = (infer_starts w l k i, word_takes w l k i)
  type_starts p e x l k (a_never_type (a_never (is_mark (last_char {a = a} {j = j} y)))) = (bang_starts j a k k, mark_less (punct 33 j a) k)
  type_starts p e x l k (a_verbatim_type (i, t)) = verbatim_starts s p e l k i

  -- ---- arguments

  module _ {first : End → Relation (TypeTree A E)} where
    item_starts : (i : Ident) (o : Option (AngleBracketed A E)) (l k : Toks) → IsItemName first part clearly i o l k → ItemBegins l × Less l k
    item_starts i o l k (an_item h) = (word_item i k, word_less i k)
    item_starts i o l k (an_item_with_arguments {x = x} {l = m} h t) = (word_item i m, less_less (word_less i m) (s.firsts.arguments (a.AngleBracketed x) m k t).1)

  module _ (b : PartBegins part) where
    -- over what the types that may begin an argument begin with
    argument_starts : {first : End → Relation (TypeTree A E)} → ((e : End) (x : TypeTree A E) (l k : Toks) → first e x l k → TypeBegins l k × Less l k) →
        (place : ArgumentPlace) (x : GenericArgument A E) (l k : Toks) → IsArgument first part clearly place x l k → ItemBegins l × Less l k
    argument_starts types place x l k (a_lifetime_argument {x = y} i) = (life_item y l k i, lifetime_takes y l k i)
    argument_starts types place x l k (a_type_argument {e = e} {x = y} i) = let h = types e y l k i in (type_item l k h.0, h.1)
    argument_starts types place x l k (a_const_argument {x = y} i) = let h = b.argument_begins y l k i in (const_item l h.0, h.1)
    argument_starts types place x l k (an_assoc_type {i = i} {o = o} {q = q} {e = e} {x = y} {m = m} {n = n} t j u) =
        let h = item_starts i o l m t in (h.0, less_no h.1 (no_no (mark_no q m n j) (some (s.firsts.ty Plus e y n k u).1)))
    argument_starts types place x l k (an_assoc_const {i = i} {o = o} {q = q} {x = y} {m = m} {n = n} t j u) =
        let h = item_starts i o l m t in (h.0, less_no h.1 (no_no (mark_no q m n j) (some (b.argument_begins y n k u).1)))
    argument_starts types place x l k (a_constraint {i = i} {o = o} {c = c} {e = e} {xs = xs} {ps = ps} {m = m} {n = n} t j u) =
        let h = item_starts i o l m t in (h.0, less_no h.1 (no_no (mark_no c m n j) (bounds_no s true e xs ps n k u)))

    -- ---- parameters

    attrs_item : (x : List A) (l m : Toks) → (part clearly).attrs x l m → ItemBegins m → ItemBegins l
    attrs_item x l m i h = by_case (b.attrs_begin x l m i)
      where
        by_case : (l ≡ m) ⊎ (token.sees_pound l ≡ true) → ItemBegins l
        by_case (inl e) = subst ItemBegins (sym e) h
        by_case (inr e) = pound_item l e

    after_attrs : (x : List A) (l m k : Toks) → (part clearly).attrs x l m → ItemBegins m × Less m k → ItemBegins l × Less l k
    after_attrs x l m k i h = (attrs_item x l m i h.0, no_less (b.attrs_light x l m i) h.1)

    lifetime_param_starts : (x : LifetimeParamOf A) (l k : Toks) → IsLifetimeParam part clearly x l k → ItemBegins l × Less l k
    lifetime_param_starts x l k (a_lone_lifetime {a = a} {x = y} {m = m} i j) = after_attrs a l m k i (life_item y m k j, lifetime_takes y m k j)
    lifetime_param_starts x l k (a_lifetime_with_bounds {a = a} {x = y} {c = c} {xs = xs} {ps = ps} {m = m} {n = n} {k = h} i j t u) =
        after_attrs a l m k i (life_item y m n j, less_no (lifetime_takes y m n j) (no_no (mark_no c n h t) (listed_no (λ f. lifetime_takes) mark_no true xs ps h k u)))

    bounds_after_no : (c : Option token.Colon) (xs : List (TypeParamBound A E)) (ps : List token.Plus) (l k : Toks) → AreBoundsAfter part clearly c xs ps l k → NoMore l k
    bounds_after_no c xs ps l k no_colon = same
    bounds_after_no c xs ps l k (after_colon {e = e} {c = d} {m = m} i t) = no_no (mark_no d l m i) (bounds_no s true e xs ps m k t)

    any_type_no : (x : TypeTree A E) (l k : Toks) → IsAnyType part clearly x l k → NoMore l k
    any_type_no x l k (any_type {e = e} i) = some (s.firsts.ty Plus e x l k i).1

    type_param_starts : (x : TypeParam A E) (l k : Toks) → IsTypeParam part clearly x l k → ItemBegins l × Less l k
    type_param_starts x l k (a_type_param {a = a} {i = i} {c = c} {xs = xs} {ps = ps} {d = d} {m = m} {n = n} j h t u) =
        after_attrs a l (word i m) k j (word_item i m, less_no (word_less i m) (no_no (bounds_after_no c xs ps m n t) (optional_no (given_no any_type_no) d n k u)))

    const_param_starts : (x : ConstParam A E) (l k : Toks) → IsConstParam part clearly x l k → ItemBegins l × Less l k
    const_param_starts x l k (a_const_param {a = a} {w = w} {i = i} {c = c} {x = y} {d = d} {m = m} {n = n} {k = h} {j = j} t u g v z q) =
        after_attrs a l m k t (
          const_word_item w m (word i n) u,
          less_less (word_takes w m (word i n) u) (less_no (word_less i n) (no_no (mark_no c n h v)
              (no_no (any_type_no y h j z) (optional_no (given_no (λ e p r f. some (b.default_less e p r f))) d j k q)))),
        )

    param_starts : (p : ParamPlace) (x : GenericParam A E) (l k : Toks) → IsParam part clearly p x l k → ItemBegins l × Less l k
    param_starts p x l k (a_lifetime_param {x = y} i) = lifetime_param_starts y l k i
    param_starts p x l k (a_named_param {x = y} i) = type_param_starts y l k i
    param_starts p x l k (a_constant_param {x = y} i) = const_param_starts y l k i
    param_starts p x l k (a_bare_param {a = a} {i = i} j h) = after_attrs a l (word i k) k j (word_item i k, word_less i k)

-- ---- at every height

module _ {A E : Type 0} (attrs : Bool → List A → Toks → Toks → Type 0) (values : SpelledValues E) where
  -- one turn
  pub turn_starts : (part : Manner → Parts A E) → Starts part → PartBegins part → Starts (turn attrs values part)
  turn_starts part s b = record {
    firsts = record {
      ty = λ p e x l k i. type_starts s p e x l k i;
      bound = λ p e x l k i. bound_starts s p e x l k i;
      param = λ p x l k i. param_starts s b p x l k i;
      argument = λ x l k i. argument_starts s b (λ e y m n j. type_starts s Plus e y m n j) between_angles x l k i;
      arguments = λ x l k i. some_arguments_start x l k i;
    };
    life = λ p e x l k i h. bound_life s p e x l k i h;
  }
    where
      some_arguments_start : (x : PathArguments A E) (l k : Toks) → IsArguments part clearly x l k → (sees_arguments AsWritten l ≡ true) × Less l k
      some_arguments_start x l k (some_arguments {x = y} i) = angle_starts s y l k i

  -- what is given of attributes, and of expressions in their places
  pub record GivenBegins : Type 0 where
    pub attrs_begin : (x : List A) (l k : Toks) → attrs true x l k → (l ≡ k) ⊎ (token.sees_pound l ≡ true)
    pub attrs_light : (x : List A) (l k : Toks) → attrs true x l k → NoMore l k
    pub argument_begins : (x : E) (l k : Toks) → values.const_argument true x l k → (sees_const l ≡ true) × Less l k
    pub default_less : (x : E) (l k : Toks) → values.const_default true x l k → Less l k

  module _ (b : GivenBegins) where
    pub begins_to : (n : ℕ) → PartBegins (spelt_to attrs values n)
    begins_to zero = record { attrs_begin = λ x l k i. absurd i; attrs_light = λ x l k i. absurd i; argument_begins = λ x l k i. absurd i; default_less = λ x l k i. absurd i }
    begins_to (suc n) = record { attrs_begin = b.attrs_begin; attrs_light = b.attrs_light; argument_begins = b.argument_begins; default_less = b.default_less }

    pub starts_to : (n : ℕ) → Starts (spelt_to attrs values n)
    starts_to zero = record {
      firsts = record {
        ty = λ p e x l k i. absurd i;
        bound = λ p e x l k i. absurd i;
        param = λ p x l k i. absurd i;
        argument = λ x l k i. absurd i;
        arguments = λ x l k i. absurd i;
      };
      life = λ p e x l k i h. absurd i;
    }
    starts_to (suc n) = turn_starts (spelt_to attrs values n) (starts_to n) (begins_to n)

    pub firsts_to : (n : ℕ) → Firsts (spelt_to attrs values n)
    firsts_to n = (starts_to n).firsts
