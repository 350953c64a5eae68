-- A type that begins with parentheses, spelt clearly, is what the read of parentheses answers: a type in them, a tuple, or a trait object whose first bound stands in them.
use Rattle.std.specs.List.{list_any}
use Rattle.std.proofs.Common.{◌≡◌, ℕ, ◌<◌, ◌≤◌, Bool, true, false, ◌==◌, if◌then◌else◌, List, [], ◌∷◌, Option, Some, None, is_some, Ok, ◌⊎◌, inl, inr, refl, sym, ◌∙◌, ap, arith}
use Rattle.std.proofs.lemmas.Bool.{eqb-true}
use Rattle.syn_ty.proofs.ty_laws.words.Tokens.{Lifetime, Spans, DelimSpan, Span, Paren, Delimiter, Parenthesis, Ident, Punct, Spacing, Word, front, sees_lifetime, with_ident, AreListed, AfterMark, Nowhere, none_left, last_value, value_and_mark, Many, as_punct, is_done, is_joint, past_mark, past_next, sees_mark, none, IsMark, is_mark, last_char, more_chars, IsWord, is_word, Scope, Toks, done, word, mark, group, punct}
use Rattle.syn_ty.proofs.ty_laws.words.Paths.{Macro, PathStyle, AsWritten, IsCall, no_leading, leading, last_segment, more_segments, a_bare_path}
use Rattle.syn_ty.proofs.ty_laws.words.Forms.{ParenContent, Object, TypePlace, Plus, plus_follows, ahead}
use Rattle.syn_ty.proofs.ty_laws.words.Types.{out-roll-TraitBoundOf, Abi, out-roll-TypePathOf, AreBounds, IsFor, IsTraitBound, a_trait_bound, a_trait_asked, no_constness, some_modifiers, no_modifiers, held_bound, named_bound, trait_bound_of, a_binder, Sep, IsAnyPath, IsPath, IsSegment, a_path, a_word, a_word_with_arguments, by_type, by_type_as_path, is_segment_word, qualified, unqualified, IsType, a_path_type, a_macro, a_bound_macro, an_object_with_dyn, an_object_without_dyn, an_impl_type, a_fn_type, a_ptr_type, a_reference_type, a_paren_type, a_tuple_type, a_slice_type, an_array_type, an_infer_type, a_never_type, a_verbatim_type, IsBorrow, a_borrow, a_mutable_borrow, a_lifetime_borrow, IsPointer, a_pointer, IsEnclosed, enclosed, bracketed, counted, IsElement, an_element, IsTupled, no_element, some_elements, IsVerbatimType, an_unsafe_binder, a_dyn_star, a_builtin, NoLifetime, IsAbi, an_abi, IsFnPtr, a_fn_ptr, AreBareBounds, AreFurther, IsAsked, IsDyn, a_dyn, IsFirst, a_first, a_first_for, an_asked, IsImpl, an_impl, asked_first, asked_in_two, held_and_plus, in_parens, lifetime_first, none_further, path_alone, path_and_plus, some_further, Manner, clearly, End, Parts, Readers, a_type, first_bound, is_trait, object_of, unqualified_layer, IsOptional, absent, present, an_infer, a_never, BoundLifetimes, Path, PathSegment, QSelf, TraitBound, TypeFnPtr, TypeImplTrait, TypeParamBound, TypeParen, TypePtr, TypeReference, TypeTraitObject, TypeTree, TypeTuple, paren_of, qualified_with, trait_object_with, tuple_of}
use Rattle.token_core.specs.Groups as groups
use Rattle.token_core.specs.Lifetimes.{next_word, with_quote}
use Rattle.token_core.specs.Reads.{three}
use Rattle.token_core.specs.Tokens as token
use Rattle.token_core.proofs.MarkSpells.{mark_seen}
use Rattle.token_core.proofs.Steps.{link, chosen, Reads_to}
use Rattle.token_core.proofs.Took.{at}
use Rattle.token_core.proofs.Unseen.{no_mark-other}
use Rattle.syn_path.specs.mac.Spelling.{a_macro as a_call}
use Rattle.syn_forms.specs.declared.groups.ParenContent.TheVariants as held
use Rattle.syn_forms.specs.groups.Reading as inner
use Rattle.syn_forms.proofs.groups_laws.Complete.{content}
use Rattle.syn_forms.proofs.nested_laws.Ahead.{weight-group}
use Rattle.syn_ty.specs.declared.generics.TypeParamBoundOf.TheVariants as b
use Rattle.syn_ty.specs.declared.ty.TypeOf.TheVariants as v
use Rattle.syn_ty.specs.generics.Params as params
use Rattle.syn_ty.specs.generics.Reading.{trait_bound}
use Rattle.syn_ty.specs.ty.Reading as reading
use Rattle.syn_ty.proofs.ty_laws.complete.Leaves.{later, not_more}
use Rattle.syn_ty.proofs.ty_laws.complete.Forms.{comma_ended, done_there, element_begins, element_met, less_inside, more_met, parens_met}
use Rattle.syn_ty.proofs.ty_laws.Kinds as kinds
use Rattle.syn_ty.proofs.ty_laws.complete.Params.{done_over, over_fits}
use Rattle.syn_ty.proofs.ty_laws.complete.Within.{Fits, Meets}
use Rattle.syn_ty.proofs.ty_laws.Steps.{elements_in_parens}

-- ---- what the content of parentheses begins with

-- neither a lifetime nor `?`, nor is it over: a type is read
record Plain (l : Toks) : Type 0 where
  there : is_done l ≡ false
  no_lifetime : sees_lifetime l ≡ false
  no_question : token.sees_question l ≡ false

plain_word : (i : Ident) (k : Toks) → Plain (word i k)
unfolding is_done sees_lifetime sees_mark
plain_word i k = record { there = refl; no_lifetime = refl; no_question = refl }

plain_group : (d : Delimiter) (s : DelimSpan) (c k : Toks) → Plain (group d s c k)
unfolding is_done sees_lifetime sees_mark
plain_group d s c k = record { there = refl; no_lifetime = refl; no_question = refl }

plain_mark : (c : ℕ) (j : Spacing) (a : Span) (k : Toks) → (c == 39) ≡ false → (c == 63) ≡ false → Plain (mark (punct c j a) k)
unfolding is_done sees_lifetime
plain_mark c j a k h g = record { there = refl; no_lifetime = ap (λ (d : Bool). let o : Option (Lifetime × Toks) = if d then (if is_joint j then with_ident a (next_word k) else None) else None in is_some o) h; no_question = no_mark-other 63 [] (punct c j a) k g }

plain_sep : (c : Sep) (l k : Toks) → IsMark true c l k → Plain l
unfolding is_done sees_lifetime sees_mark
plain_sep c l k (is_mark (more_chars y)) = record { there = refl; no_lifetime = refl; no_question = refl }

done_no_comma : token.sees_comma done ≡ false
unfolding sees_mark
done_no_comma = refl

-- a `?`
record Asks (l : Toks) : Type 0 where
  there : is_done l ≡ false
  no_lifetime : sees_lifetime l ≡ false
  question : token.sees_question l ≡ true

asks : (q : token.Question) (l k : Toks) → IsMark true q l k → Asks l
unfolding is_done sees_lifetime sees_mark
asks q l k (is_mark (last_char y)) = record { there = refl; no_lifetime = refl; question = refl }

quote_no_question : (o : Option (Punct × Toks)) → is_some (with_quote o) ≡ true → let q : Option (Spans × Toks) = past_next 63 true (past_mark []) o in is_some q ≡ false
quote_no_question None h = refl
quote_no_question (Some p) h = by_char (p.0.ch == 39) refl h
  where
    unseen : (n : ℕ) → (n == 63) ≡ false → n ≡ p.0.ch → let q : Option (Spans × Toks) = past_next 63 true (past_mark []) (Some p) in is_some q ≡ false
    unseen n g w = ap (λ (d : Bool). let q : Option (Spans × Toks) = if d then Some (three p.0.span p.0.span p.0.span, p.1) else None in is_some q) (ap (λ c. c == 63) (sym w) ∙ g)

    by_char : (d : Bool) → (p.0.ch == 39) ≡ d → let q : Option (Lifetime × Toks) = if d then (if is_joint p.0.spacing then with_ident p.0.span (next_word p.1) else None) else None in is_some q ≡ true → let q : Option (Spans × Toks) = past_next 63 true (past_mark []) (Some p) in is_some q ≡ false
    by_char true g w = unseen 39 refl (sym (eqb-true p.0.ch 39 g))
    by_char false g w = cc w

lifetime_no_question : (l : Toks) → sees_lifetime l ≡ true → token.sees_question l ≡ false
unfolding sees_lifetime sees_mark
lifetime_no_question l h = quote_no_question (as_punct (front l)) h

-- after a group less is left than before it
after_group : (s : DelimSpan) (c k : Toks) (f : Option Span) (e : Span) (sc : Scope) (limit : ℕ) → ahead (at (group Parenthesis s c k) f e sc) ≤ limit → ahead (at k f s.closing sc) < limit
after_group s c k f e sc limit h = let g = weight-group Parenthesis s c k in later (group Parenthesis s c k) k f f e s.closing sc limit (omega (arith, g)) h

module _ {A E : Type 0} (part : Manner → Parts A E) where
  plain_segment : (style : PathStyle) (x : PathSegment A E) (l k : Toks) → IsSegment part clearly style x l k → Plain l
  plain_segment style x l k (a_word w) = plain_word _ _
  plain_segment style x l k (a_word_with_arguments w s z) = plain_word _ _

  plain_segments : (style : PathStyle) (f : Bool) (xs : List (PathSegment A E)) (cs : List Sep) (l k : Toks) → AreListed (λ (_ : Bool). IsSegment part clearly style) (IsMark true) Nowhere f xs cs l k → Plain l
  plain_segments style f xs cs l k (none_left i) = absurd i
  plain_segments style f xs cs l k (last_value {x = x} i) = plain_segment style x l k i
  plain_segments style f xs cs l k (value_and_mark {x = x} {m = m} i j n) = plain_segment style x l m i

  plain_leading : (o : Option Sep) (l m : Toks) → IsOptional (IsMark true) o l m → Plain m → Plain l
  plain_leading o l m absent h = h
  plain_leading o l m (present {a = c} i) h = plain_sep c l m i

  plain_path : (style : PathStyle) (p : Path A E) (l k : Toks) → IsPath part clearly style p l k → Plain l
  plain_path style p l k (a_path {c = o} {xs = xs} {cs = cs} {m = m} i n) = plain_leading o l m i (plain_segments style true xs cs m k n)

  plain_for : (x : BoundLifetimes A E) (l k : Toks) → IsFor part clearly x l k → Plain l
  plain_for x l k (a_binder is_word i j n) = plain_word _ _

  plain_first : (o : Option (BoundLifetimes A E)) (p : Path A E) (l k : Toks) → IsFirst part clearly o p l k → Plain l
  plain_first o p l k (a_first i w) = plain_path AsWritten p l k i
  plain_first o p l k (a_first_for {x = x} {m = m} i j w n) = plain_for x l m i

  plain_any : (style : PathStyle) (o : Option (QSelf A E)) (p : Path A E) (l k : Toks) → IsAnyPath part clearly style o p l k → Plain l
  plain_any style o p l k (unqualified i) = plain_path style p l k i
  plain_any style o p l k (qualified (by_type (is_mark (last_char y)) i g c j)) = plain_mark 60 _ _ _ refl refl
  plain_any style o p l k (qualified (by_type_as_path (is_mark (last_char y)) i g w j m n q)) = plain_mark 60 _ _ _ refl refl

  plain_optional_for : (o : Option (BoundLifetimes A E)) (l m : Toks) → IsOptional (IsFor part clearly) o l m → Plain m → Plain l
  plain_optional_for o l m absent h = h
  plain_optional_for o l m (present {a = x} i) h = plain_for x l m i

  plain_call : (x : Macro) (l k : Toks) → IsCall true is_segment_word x l k → Plain l
  plain_call x l k (a_call (a_bare_path no_leading (last_segment h)) i d g) = plain_word _ _
  plain_call x l k (a_call (a_bare_path no_leading (more_segments h a j)) i d g) = plain_word _ _
  plain_call x l k (a_call (a_bare_path (leading a) j) i d g) = plain_mark 58 _ _ _ refl refl

  plain_dyn : (p : TypePlace) (d : End) (x : TypeTraitObject A E) (l k : Toks) → IsDyn part clearly p d x l k → Plain l
  plain_dyn p d x l k (a_dyn is_word i) = plain_word _ _

  plain_impl : (p : TypePlace) (d : End) (x : TypeImplTrait A E) (l k : Toks) → IsImpl part clearly p d x l k → Plain l
  plain_impl p d x l k (an_impl is_word i j) = plain_word _ _

  plain_optional_word : {n : ℕ} (o : Option (Word n)) (l m : Toks) → IsOptional IsWord o l m → Plain m → Plain l
  plain_optional_word o l m absent h = h
  plain_optional_word o l m (present is_word) h = plain_word _ _

  plain_abi : (o : Option Abi) (l m : Toks) → IsOptional IsAbi o l m → Plain m → Plain l
  plain_abi o l m absent h = h
  plain_abi o l m (present (an_abi is_word i)) h = plain_word _ _

  plain_fn : (d : End) (x : TypeFnPtr A E) (l k : Toks) → IsFnPtr part clearly d x l k → Plain l
  plain_fn d x l k (a_fn_ptr {b = b} {u = u} {i = a} {m = m} {n = n} {k = j} i g h is_word w o) = plain_optional_for b l m i (plain_optional_word u m n g (plain_abi a n j h (plain_word _ _)))

  plain_pointer : (d : End) (x : TypePtr A E) (l k : Toks) → IsPointer part clearly d x l k → Plain l
  plain_pointer d x l k (a_pointer (is_mark (last_char y)) i j) = plain_mark 42 _ _ _ refl refl

  plain_borrow : (d : End) (x : TypeReference A E) (l k : Toks) → IsBorrow part clearly d x l k → Plain l
  plain_borrow d x l k (a_borrow (is_mark (last_char y)) i j) = plain_mark 38 _ _ _ refl refl
  plain_borrow d x l k (a_mutable_borrow (is_mark (last_char y)) i j) = plain_mark 38 _ _ _ refl refl
  plain_borrow d x l k (a_lifetime_borrow (is_mark (last_char y)) i j g) = plain_mark 38 _ _ _ refl refl

  plain_tuple : (x : TypeTuple A E) (l k : Toks) → IsTupled part clearly NoLifetime x l k → Plain l
  plain_tuple x l k no_element = plain_group _ _ _ _
  plain_tuple x l k (some_elements h i j g) = plain_group _ _ _ _

  plain_verbatim : (p : TypePlace) (d : End) (l k : Toks) → IsVerbatimType part clearly p d l k → Plain l
  plain_verbatim p d l k (an_unsafe_binder {b = b} i is_word g h j w) = plain_optional_for b l _ i (plain_word _ _)
  plain_verbatim p d l k (a_dyn_star is_word i j) = plain_word _ _
  plain_verbatim p d l k (a_builtin {b = b} i g h j) = plain_optional_for b l _ i (plain_word _ _)

  -- a trait object that begins with a lifetime, by its bounds
  pub record BeginsWithLifetime (d : End) (x : TypeTree A E) (l k : Toks) : Type 0 where
    pub bounds : Many (TypeParamBound A E) token.Plus
    pub is : object_of bounds ≡ x
    pub seen : sees_lifetime l ≡ true
    pub spelt : AreBounds part clearly Object AfterMark true d bounds.0 bounds.1 l k
    pub names : list_any is_trait bounds.0 ≡ true

  bare_begins : (p : TypePlace) (d : End) (w : Many (TypeParamBound A E) token.Plus) (l k : Toks) → AreBareBounds part clearly p d w l k → Plain l ⊎ BeginsWithLifetime d (object_of w) l k
  bare_begins p d w l k (path_alone {x = x} {p = q} i) = inl (plain_first (Some x) q l k i)
  bare_begins p d w l k (path_and_plus {o = o} {p = q} {m = m} a i j g) = inl (plain_first o q l m i)
  bare_begins p d w l k (held_and_plus a i j g) = inl (plain_group _ _ _ _)
  bare_begins p d w l k (asked_first i j) = inl (plain_group _ _ _ _)
  bare_begins p d w l k (asked_in_two a i j g) = inl (plain_group _ _ _ _)
  bare_begins p d w l k (lifetime_first h i j) = inr (record { bounds = w; is = refl; seen = h; spelt = i; names = j })

  type_begins : (p : TypePlace) (d : End) (x : TypeTree A E) (l k : Toks) → IsType part clearly p d x l k → Plain l ⊎ BeginsWithLifetime d x l k
  type_begins p d x l k (a_path_type {o = o} {p = q} i) = inl (plain_any AsWritten o q l k i.0)
  type_begins p d x l k (a_macro {x = y} i) = inl (plain_call y l k i.0)
  type_begins p d x l k (a_bound_macro {b = b} {m = m} i j g) = inl (plain_for b l m i)
  type_begins p d x l k (an_object_with_dyn {x = y} i) = inl (plain_dyn p d y l k i)
  type_begins p d x l k (an_object_without_dyn {w = w} i) = bare_begins p d w l k i
  type_begins p d x l k (an_impl_type {x = y} i) = inl (plain_impl p d y l k i)
  type_begins p d x l k (a_fn_type {x = y} i) = inl (plain_fn d y l k i)
  type_begins p d x l k (a_ptr_type {x = y} i) = inl (plain_pointer d y l k i)
  type_begins p d x l k (a_reference_type {x = y} i) = inl (plain_borrow d y l k i)
  type_begins p d x l k (a_paren_type (enclosed i)) = inl (plain_group _ _ _ _)
  type_begins p d x l k (a_tuple_type {x = y} i) = inl (plain_tuple y l k i)
  type_begins p d x l k (a_slice_type (bracketed i)) = inl (plain_group _ _ _ _)
  type_begins p d x l k (an_array_type (counted i j g)) = inl (plain_group _ _ _ _)
  type_begins p d x l k (an_infer_type (an_infer is_word)) = inl (plain_word _ _)
  type_begins p d x l k (a_never_type (a_never (is_mark (last_char y)))) = inl (plain_mark 33 _ _ _ refl refl)
  type_begins p d x l k (a_verbatim_type (i, h)) = inl (plain_verbatim p d l k i)

  -- no type begins with `?`
  pub type_no_question : (p : TypePlace) (d : End) (x : TypeTree A E) (l k : Toks) → IsType part clearly p d x l k → token.sees_question l ≡ false
  type_no_question p d x l k i = elim (type_begins p d x l k i) [
    | inl h ↦ h.no_question
    | inr h ↦ lifetime_no_question l h.seen
  ]

  -- one that begins with a lifetime is a trait object that begins with it
  pub type_with_lifetime : (p : TypePlace) (d : End) (x : TypeTree A E) (l k : Toks) → IsType part clearly p d x l k → sees_lifetime l ≡ true → BeginsWithLifetime d x l k
  type_with_lifetime p d x l k i h = elim (type_begins p d x l k i) [
    | inl g ↦ cc (sym h ∙ g.no_lifetime)
    | inr g ↦ g
  ]

-- Where the types within are types of one turn more too, and bounds that begin with a lifetime are read where they are spelt: a type that begins with a lifetime is a trait object whose bounds are read.
module _ {A E : Type 0} (r : Readers A E) (part : Manner → Parts A E) (limit : ℕ) (wider : (d : End) (x : TypeTree A E) (l k : Toks) → (part clearly).ty Plus d x l k → IsType part clearly Plus d x l k)
    (reads : (d : End) (xs : List (TypeParamBound A E)) (ps : List token.Plus) (l k : Toks) (f : Option Span) (e : Span) (sc : Scope) → ahead (at l f e sc) < limit → sees_lifetime l ≡ true → AreBounds part clearly Object AfterMark true d xs ps l k →
    list_any is_trait xs ≡ true → Fits d k → Reads_to (reading.lifetime_object r) (xs, ps) l k f e sc) where
  pub lifetime_type_met : (d : End) (x : TypeTree A E) (l k : Toks) (f : Option Span) (e : Span) (sc : Scope) → ahead (at l f e sc) < limit → (part clearly).ty Plus d x l k → sees_lifetime l ≡ true → Fits d k → token.sees_plus k ≡ false →
      (w : Many (TypeParamBound A E) token.Plus) × (object_of w ≡ x) × Reads_to (reading.lifetime_object r) w l k f e sc
  lifetime_type_met d x l k f e sc h i g o p =
      let q = type_with_lifetime part Plus d x l k (wider d x l k i) g in
      (q.bounds, q.is, reads d q.bounds.0 q.bounds.1 l k f e sc h g q.spelt q.names o)

-- ---- what a type in parentheses is as the first bound

module _ {A E : Type 0} (s : DelimSpan) where
  held_is : (t : Option Paren) (o : Option (BoundLifetimes A E)) (q : Option token.Question) (p : Path A E) → b.Trait (held_bound (groups.paren s) (trait_bound_of t o no_modifiers q p)) ≡ in_parens s o q p
  held_is t o q p = ap (λ z. b.Trait (params.held_layer (groups.paren s) z)) (out-roll-TraitBoundOf A E (record { paren_token = t; lifetimes = o; modifiers = no_modifiers; maybe = q; path = p }))

  lone_is : (t : Option Paren) (o : Option (BoundLifetimes A E)) (q : Option token.Question) (p : Path A E) →
      first_bound (groups.paren s) (object_of (b.Trait (trait_bound_of t o no_modifiers q p) ∷ [], [])) ≡ Some (in_parens s o q p)
  lone_is t o q p =
      kinds.first-TraitObject A E (groups.paren s) (trait_object_with [] None (b.Trait (trait_bound_of t o no_modifiers q p) ∷ [], []))
      ∙ ap Some (kinds.held-Trait A E (groups.paren s) (trait_bound_of t o no_modifiers q p) ∙ held_is t o q p)

  path_is : (p : Path A E) → first_bound (groups.paren s) (v.Path (qualified_with [] None p)) ≡ Some (in_parens s None None p)
  path_is p =
      kinds.first-Path A E (groups.paren s) (qualified_with [] None p) ∙ ap (unqualified_layer (groups.paren s)) (out-roll-TypePathOf A E (record { attrs = []; qself = None; path = p })) ∙ ap Some (held_is None None None p)

-- ---- parentheses, and what follows them

module _ {A E : Type 0} (r : Readers A E) (plus : Bool) where
  abbrev Content : Type 0
  Content = ParenContent (TypeTree A E) (Many (TypeParamBound A E) token.Plus) (TraitBound A E)

  -- by what they hold
  parens_then : (w : Content) (x : TypeTree A E) (s : DelimSpan) (c n k : Toks) (f : Option Span) (e : Span) (sc : Scope) → Reads_to (reading.paren_content r) w c done None none (content Parenthesis s c n f e sc).scope →
      Reads_to (reading.of_parens r plus (groups.paren s) w) x n k f s.closing sc → Reads_to (reading.paren_type r plus) x (group Parenthesis s c n) k f e sc
  unfolding reading.paren_type reading.parens
  parens_then w x s c n k f e sc i j = record { last = j.last; reads = link _ (parens_met (reading.paren_content r) w s c n f e sc i) j.reads }

  -- a type, where no comma follows it
  one_content : (x : TypeTree A E) (c : Toks) (f : Option Span) (e : Span) (sc : Scope) → Plain c → Reads_to (r (a_type Plus)) x c done f e sc → Reads_to (reading.paren_content r) (held.One x) c done f e sc
  one_content x c f e sc i w =
      record { last = w.last; reads = elements_in_parens r (at c f e sc) i.there i.no_lifetime i.no_question ∙ link _ w.reads (chosen (token.sees_comma done) false _ _ (at done f w.last sc) _ done_no_comma refl) }

  -- ---- a type in parentheses

  -- where no `+` may go on with it, whatever it would be as a first bound
  stays_paren : (x : TypeTree A E) (s : DelimSpan) (o : Option (TypeParamBound A E)) (k : Toks) (f : Option Span) (e : Span) (sc : Scope) → (plus ≡ true → token.sees_plus k ≡ false) →
      reading.paren_or_object r plus (groups.paren s) x o (at k f e sc) ≡ Ok (v.Paren (paren_of (groups.paren s) x), at k f e sc)
  stays_paren x s None k f e sc h = refl
  stays_paren x s (Some y) k f e sc h = chosen (plus_follows plus k) false _ _ (at k f e sc) _ (no_plus plus h) refl
    where
      no_plus : (c : Bool) → (c ≡ true → token.sees_plus k ≡ false) → plus_follows c k ≡ false
      no_plus true g = g refl
      no_plus false g = refl

  module _ (part : Manner → Parts A E) (limit : ℕ) (m : Meets r part limit)
      (no_question : (d : End) (x : TypeTree A E) (l k : Toks) → (part clearly).ty Plus d x l k → token.sees_question l ≡ false) where
    plain_element : (x : TypeTree A E) (l k : Toks) → IsElement part clearly x l k → NoLifetime l → Plain l
    plain_element x l k (an_element {e = d} i) h = record { there = (m.firsts.ty Plus d x l k i).0.there; no_lifetime = h; no_question = no_question d x l k i }

    pub tupled_type_met : (x : TypeTuple A E) (l k : Toks) (f : Option Span) (e : Span) (sc : Scope) → ahead (at l f e sc) ≤ limit → IsTupled part clearly NoLifetime x l k → Reads_to (reading.paren_type r plus) (v.Tuple x) l k f e sc
    unfolding reading.of_parens reading.paren_content inner.type_paren_content
    tupled_type_met x l k f e sc h (no_element {s = s}) =
        let z = content Parenthesis s done k f e sc in
        parens_then (held.Elements ([], [])) (v.Tuple (tuple_of (groups.paren s) ([], []))) s done k k f e sc (record { last = none; reads = chosen (is_done done) true _ _ z _ done_there refl }) (record { last = s.closing; reads = refl })
    tupled_type_met x l k f e sc h (some_elements {s = s} {x = y} {k = j} {xs = ys} {ks = cs} {c = c} {m = n} {n = o} q i p g) =
        let z = content Parenthesis s c k f e sc in
        let start = plain_element y c n i q in
        let w = element_met r part limit m y c n None none z.scope (less_inside Parenthesis s c k f e sc limit h) i (comma_ended j n o p) in
        let less = (element_begins r part limit m y c n i).1.lighter in
        let u = more_met r part limit m y j ys cs n o None w.last z.scope (not_more c n None None none w.last z.scope limit (omega (arith, less)) (less_inside Parenthesis s c k f e sc limit h)) p g in
        parens_then (held.Elements (y ∷ ys, j ∷ cs)) (v.Tuple (tuple_of (groups.paren s) (y ∷ ys, j ∷ cs))) s c k k f e sc
        (record { last = u.last; reads = elements_in_parens r z start.there start.no_lifetime start.no_question ∙ link _ w.reads (chosen (token.sees_comma n) true _ _ (at n None w.last z.scope) _ (mark_seen true {n = 4} {k = 1} j n o p) (link _ u.reads refl)) })
        (record { last = s.closing; reads = refl })

    -- one that begins with a lifetime is a trait object whose bounds are read
    module _ (reads_lifetime : (d : End) (x : TypeTree A E) (l k : Toks) (f : Option Span) (e : Span) (sc : Scope) → ahead (at l f e sc) < limit → (part clearly).ty Plus d x l k → sees_lifetime l ≡ true → Fits d k → token.sees_plus k ≡ false →
        (w : Many (TypeParamBound A E) token.Plus) × (object_of w ≡ x) × Reads_to (reading.lifetime_object r) w l k f e sc) where
      enclosed_by : (s : DelimSpan) (d : End) (x : TypeTree A E) (c k : Toks) (f : Option Span) (e : Span) (sc : Scope) → ahead (at (group Parenthesis s c k) f e sc) ≤ limit → (part clearly).ty Plus d x c done → (plus ≡ true → token.sees_plus k ≡ false) →
          (life : Bool) → sees_lifetime c ≡ life → Reads_to (reading.paren_type r plus) (v.Paren (paren_of (groups.paren s) x)) (group Parenthesis s c k) k f e sc
      unfolding reading.of_parens reading.paren_content inner.type_paren_content
      enclosed_by s d x c k f e sc h i o true g =
          let z = content Parenthesis s c k f e sc in
          let start = (m.firsts.ty Plus d x c done i).0 in
          let w = reads_lifetime d x c done None none z.scope (less_inside Parenthesis s c k f e sc limit h) i g (over_fits d done (done_over done done_there)) (done_over done done_there).no_plus in
          parens_then (held.Object w.0) (v.Paren (paren_of (groups.paren s) x)) s c k k f e sc
          (record { last = w.2.last; reads = chosen (is_done c) false _ _ z _ start.there (chosen (sees_lifetime c) true _ _ z _ g (link _ w.2.reads refl)) })
          (record { last = s.closing; reads = ap (λ y. Ok (v.Paren (paren_of (groups.paren s) y), at k f s.closing sc)) w.1 })
      enclosed_by s d x c k f e sc h i o false g =
          let z = content Parenthesis s c k f e sc in
          let w = m.ty Plus d x c done None none z.scope (less_inside Parenthesis s c k f e sc limit h) i (over_fits d done (done_over done done_there)) (λ q. (done_over done done_there).no_plus) in
          parens_then (held.One x) (v.Paren (paren_of (groups.paren s) x)) s c k k f e sc
          (one_content x c None none z.scope (record { there = (m.firsts.ty Plus d x c done i).0.there; no_lifetime = g; no_question = no_question d x c done i }) w)
          (record { last = s.closing; reads = stays_paren x s (first_bound (groups.paren s) x) k f s.closing sc o })

      -- in a place with plus no `+` follows
      pub enclosed_type_met : (x : TypeParen A E) (l k : Toks) (f : Option Span) (e : Span) (sc : Scope) → ahead (at l f e sc) ≤ limit → IsEnclosed part clearly Plus x l k → (plus ≡ true → token.sees_plus k ≡ false) → Reads_to (reading.paren_type r plus) (v.Paren x) l k f e sc
      enclosed_type_met x l k f e sc h (enclosed {s = s} {e = d} {x = y} {c = c} i) o = enclosed_by s d y c k f e sc h i o (sees_lifetime c) refl

  -- ---- a trait object whose first bound stands in parentheses

  -- After its first bound, bounds of which each has its `+` are read.
  module _ (part : Manner → Parts A E) (limit : ℕ)
      (reads_further : (y : TypeParamBound A E) (d : End) (xs : List (TypeParamBound A E)) (ps : List token.Plus) (l k : Toks) (f : Option Span) (e : Span) (sc : Scope) → ahead (at l f e sc) < limit → AreFurther part clearly d xs ps l k → Fits d k →
      Reads_to (reading.each_object_from r y) (object_of (y ∷ xs, ps)) l k f e sc) where
    -- a trait bound with `?`
    module _ (reads_asked : (d : End) (x : TraitBound A E) (l k : Toks) (f : Option Span) (e : Span) (sc : Scope) → ahead (at l f e sc) < limit → IsTraitBound part clearly false d x l k → Fits d k → Reads_to (trait_bound r) x l k f e sc) where
      asked_content : (q : token.Question) (p : Path A E) (c : Toks) (f : Option Span) (e : Span) (sc : Scope) → ahead (at c f e sc) < limit → IsAsked part clearly q p c done →
          Reads_to (reading.paren_content r) (held.Asked (named_bound None (Some q) p)) c done f e sc
      unfolding reading.paren_content inner.type_paren_content
      asked_content q p c f e sc h (an_asked {e = d} {m = n} i j) =
          let start = asks q c n i in
          let w = reads_asked d (named_bound None (Some q) p) c done f e sc h (a_trait_bound (a_trait_asked (some_modifiers no_constness absent) i j)) (over_fits d done (done_over done done_there)) in
          record {
            last = w.last;
            reads = chosen (is_done c) false _ _ (at c f e sc) _ start.there (chosen (sees_lifetime c) false _ _ (at c f e sc) _ start.no_lifetime (chosen (token.sees_question c) true _ _ (at c f e sc) _ start.question (link _ w.reads refl)));
          }

      -- `?` and a path, and perhaps further bounds, in every place
      pub asked_first_met : (d : End) (q : token.Question) (p : Path A E) (s : DelimSpan) (xs : List (TypeParamBound A E)) (ps : List token.Plus) (c n k : Toks) (f : Option Span) (e : Span) (sc : Scope) → ahead (at (group Parenthesis s c n) f e sc) ≤ limit →
          IsAsked part clearly q p c done → AreFurther part clearly d xs ps n k → Fits d k → Reads_to (reading.paren_type r plus) (object_of (in_parens s None (Some q) p ∷ xs, ps)) (group Parenthesis s c n) k f e sc
      unfolding reading.of_parens
      asked_first_met d q p s xs ps c n k f e sc h i j o =
          let z = content Parenthesis s c n f e sc in
          let w = asked_content q p c None none z.scope (less_inside Parenthesis s c n f e sc limit h) i in
          let u = reads_further (b.Trait (held_bound (groups.paren s) (named_bound None (Some q) p))) d xs ps n k f s.closing sc (after_group s c n f e sc limit h) j o in
          parens_then (held.Asked (named_bound None (Some q) p)) (object_of (in_parens s None (Some q) p ∷ xs, ps)) s c n k f e sc w
          (record { last = u.last; reads = u.reads ∙ ap (λ y. Ok (object_of (y ∷ xs, ps), at k f u.last sc)) (held_is s None None (Some q) p) })

    -- where a plus is allowed: a type that may be the first bound, `+` and others
    module _ (with_plus : plus ≡ true)
        (reads_type : (d : End) (x : TypeTree A E) (l k : Toks) (f : Option Span) (e : Span) (sc : Scope) → ahead (at l f e sc) < limit → IsType part clearly Plus d x l k → Fits d k → token.sees_plus k ≡ false → Reads_to (r (a_type Plus)) x l k f e sc) where
      goes_on : (x : TypeTree A E) (y : TypeParamBound A E) (s : DelimSpan) (a : token.Plus) (d g : End) (xs : List (TypeParamBound A E)) (ps : List token.Plus) (c n j k : Toks) (f : Option Span) (e : Span) (sc : Scope) →
          ahead (at (group Parenthesis s c n) f e sc) ≤ limit → Plain c → IsType part clearly Plus g x c done → first_bound (groups.paren s) x ≡ Some y → IsMark true a n j → AreBounds part clearly Object Nowhere false d xs ps j k → Fits d k →
          Reads_to (reading.paren_type r plus) (object_of (y ∷ xs, a ∷ ps)) (group Parenthesis s c n) k f e sc
      unfolding reading.of_parens
      goes_on x y s a d g xs ps c n j k f e sc h start i q p w o =
          let z = content Parenthesis s c n f e sc in
          let t = reads_type g x c done None none z.scope (less_inside Parenthesis s c n f e sc limit h) i (over_fits g done (done_over done done_there)) (done_over done done_there).no_plus in
          let u = reads_further y d xs (a ∷ ps) n k f s.closing sc (after_group s c n f e sc limit h) (some_further p w) o in
          let sees : plus_follows plus n ≡ true = ap (λ z. plus_follows z n) with_plus ∙ mark_seen true {n = 20} {k = 1} a n j p in
          parens_then (held.One x) (object_of (y ∷ xs, a ∷ ps)) s c n k f e sc (one_content x c None none z.scope start t)
          (record { last = u.last; reads = ap (λ z. reading.paren_or_object r plus (groups.paren s) x z (at n f s.closing sc)) q ∙ chosen (plus_follows plus n) true _ _ (at n f s.closing sc) _ sees u.reads })

      -- a path, perhaps after a binder
      pub held_and_plus_met : (d : End) (o : Option (BoundLifetimes A E)) (p : Path A E) (s : DelimSpan) (a : token.Plus) (xs : List (TypeParamBound A E)) (ps : List token.Plus) (c n j k : Toks) (f : Option Span) (e : Span) (sc : Scope) →
          ahead (at (group Parenthesis s c n) f e sc) ≤ limit → IsFirst part clearly o p c done → IsMark true a n j → AreBounds part clearly Object Nowhere false d xs ps j k → Fits d k →
          Reads_to (reading.paren_type r plus) (object_of (in_parens s o None p ∷ xs, a ∷ ps)) (group Parenthesis s c n) k f e sc
      held_and_plus_met d None p s a xs ps c n j k f e sc h (a_first i g) q w o =
          goes_on (v.Path (qualified_with [] None p)) (in_parens s None None p) s a d _ xs ps c n j k f e sc h (plain_path part AsWritten p c done i) (a_path_type (unqualified i, g)) (path_is s p) q w o
      held_and_plus_met d (Some x) p s a xs ps c n j k f e sc h i q w o =
          goes_on (object_of (b.Trait (named_bound (Some x) None p) ∷ [], [])) (in_parens s (Some x) None p) s a d _ xs ps c n j k f e sc h (plain_first part (Some x) p c done i) (an_object_without_dyn (path_alone i)) (lone_is s None (Some x) None p) q w o

      -- `?` and a path in a further pair of parentheses, which is dropped
      pub asked_in_two_met : (d : End) (u : token.Question) (p : Path A E) (s t : DelimSpan) (a : token.Plus) (xs : List (TypeParamBound A E)) (ps : List token.Plus) (c n j k : Toks) (f : Option Span) (e : Span) (sc : Scope) →
          ahead (at (group Parenthesis s (group Parenthesis t c done) n) f e sc) ≤ limit → IsAsked part clearly u p c done → IsMark true a n j → AreBounds part clearly Object Nowhere false d xs ps j k → Fits d k →
          Reads_to (reading.paren_type r plus) (object_of (in_parens s None (Some u) p ∷ xs, a ∷ ps)) (group Parenthesis s (group Parenthesis t c done) n) k f e sc
      asked_in_two_met d u p s t a xs ps c n j k f e sc h i q w o =
          goes_on (object_of (in_parens t None (Some u) p ∷ [], [])) (in_parens s None (Some u) p) s a d _ xs ps (group Parenthesis t c done) n j k f e sc h (plain_group Parenthesis t c done) (an_object_without_dyn (asked_first i none_further)) (lone_is s (Some (groups.paren t)) None (Some u) p) q w o
