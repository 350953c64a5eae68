-- Generics, predicates and where clauses that a list spells clearly are what their reads answer, and they take no more: over the reads of what they hold, and by themselves.
use Rattle.std.proofs.lemmas.Bool.{eqb-true}
use Rattle.std.proofs.lemmas.Slice.Eq.{bytes_eq-Decides}
use Rattle.std.proofs.Common.{◌≡◌, ◌⊎◌, ℕ, zero, suc, ◌<◌, ◌≤◌, Bool, true, false, not, ◌&&◌, ◌||◌, ◌==◌, if◌then◌else◌, List, [], ◌∷◌, Option, Some, None, is_some, inl, inr, refl, sym, ◌∙◌, ap, subst, arith}
use Rattle.syn_generics.proofs.generics_laws.words.Tokens.{Lifetime, Span, Parenthesis, Brace, Bracket, Ident, text_of, sees_lifetime, AreListed, Anywhere, Nowhere, none_left, last_value, value_and_mark, Many, Reader, after_one, builtin_text, is_done, is_ident, is_text, meets, second, sees_group, sees_mark, sees_word, none, IsMark, is_mark, last_char, more_chars, IsWord, is_word, IsLifetime, is_lifetime, Scope, Bytes, Toks, done, word, mark, lit, group, enter, leave, punct}
use Rattle.syn_generics.proofs.generics_laws.words.Paths.{ReadValues, SpelledValues}
use Rattle.syn_generics.proofs.generics_laws.words.Forms.{Binder, Generics, Bounded, Plus, ahead, held, LifetimePredicate, ends_lifetime_predicate, ends_predicate, predicates_to}
use Rattle.syn_generics.proofs.generics_laws.words.Types.{IsFor, begins_as_generics, AreLifetimes, optional_binder, sees_ident, a_binder, reads_below, ty, Manner, clearly, End, Parts, Readers, a_param, IsOptional, absent, present, an_infer, a_never, BoundLifetimes, GenericParam, Path, PathArguments, PathSegment, QSelf, TypeFnPtr, TypeParamBound, TypeTree}
use Rattle.syn_generics.proofs.generics_laws.words.Generics.{GenericsOf, PredicateLifetimeOf, PredicateTypeOf, WhereClauseOf, WherePredicateOf, a_lifetime_predicate, AreBoundsOf, bounds_of, a_type_predicate, a_type_predicate_for, IsPredicate, of_lifetime, of_type, IsWhereClause, a_where_clause, lifetime_after, predicate_after, predicate_bounds, sees_first_param, sees_generics, sees_lifetime_predicate, type_after, generics, AreGenerics, no_generics, some_generics, predicate_lifetime_of, predicate_type_of, generics_of}
use Rattle.token_core.specs.declared.span.DelimSpan.{DelimSpan}
use Rattle.token_core.specs.declared.tree.Punct.{Punct}
use Rattle.token_core.specs.declared.tree.Spacing.TheVariants.{Joint}
use Rattle.token_core.specs.declared.word.Word.{Word}
use Rattle.token_core.specs.Keywords.{is_keyword}
use Rattle.token_core.specs.Tokens as token
use Rattle.token_core.proofs.MarkSpells.{mark_complete, mark_seen, mark_size}
use Rattle.token_core.proofs.Steps.{link, chosen, Reads_to}
use Rattle.token_core.proofs.Took.{at}
use Rattle.token_core.proofs.Unseen.{colon_apart, no_mark-other}
use Rattle.token_core.proofs.WordSpells.{word_complete, word_seen, lifetime_complete, lifetime_seen}
use Rattle.syn_path.specs.declared.mac.Macro.{Macro}
use Rattle.syn_path.specs.declared.path.PathSegmentOf.{PathSegmentOf}
use Rattle.syn_path.specs.declared.path.PathStyle.TheVariants.{AsWritten}
use Rattle.syn_path.specs.declared.path.NoArguments.{NoArguments}
use Rattle.syn_path.specs.mac.Spelling.{IsCall}
use Rattle.syn_path.specs.mac.Spelling as calls
use Rattle.syn_path.specs.path.Paths.{nothing}
use Rattle.syn_path.specs.path.Reading.{sees_angle, sees_sep}
use Rattle.syn_path.specs.path.Spelling as bare
use Rattle.syn_forms.specs.declared.places.BoundPlace.TheVariants.{Parameter}
use Rattle.syn_forms.specs.declared.places.TypePlace.{TypePlace}
use Rattle.syn_forms.specs.inputs.Reading.{sees_ident_or_underscore, sees_name}
use Rattle.syn_forms.specs.paths.Reading.{is_named_word, sees_turbofish}
use Rattle.syn_forms.specs.predicates.Reading as predicates
use Rattle.syn_forms.proofs.lists_laws.Complete.{listed_here}
use Rattle.syn_generics.specs.declared.generics.WherePredicateOf.TheVariants as w
use Rattle.syn_generics.specs.generics.Alone as alone
use Rattle.syn_generics.specs.generics.Declared as declared
use Rattle.syn_ty.specs.path.Paths.{Sep}
use Rattle.syn_ty.specs.path.Reading.{sees_lone_lifetime}
use Rattle.syn_ty.specs.path.Spelling.{is_segment_word, IsSegment, a_word, a_word_with_arguments, IsPath, a_path, by_type, by_type_as_path, IsAnyPath, unqualified, qualified}
use Rattle.syn_ty.specs.ty.Admitted.{IsType, a_path_type, a_macro, a_bound_macro, an_object_with_dyn, an_object_without_dyn, an_impl_type, a_fn_type, a_ptr_type, a_reference_type, a_paren_type, a_tuple_type, a_slice_type, an_array_type, an_infer_type, a_never_type, a_verbatim_type, a_pointer, a_borrow, a_mutable_borrow, a_lifetime_borrow, enclosed, bracketed, counted, no_element, some_elements, IsVerbatimType, an_unsafe_binder, a_dyn_star, a_builtin}
use Rattle.syn_ty.specs.ty.Functions.{an_abi, IsFnPtr, a_fn_ptr}
use Rattle.syn_ty.specs.ty.Objects.{a_dyn, an_impl, IsFirst, a_first, a_first_for, AreBareBounds, path_alone, path_and_plus, held_and_plus, asked_first, asked_in_two, lifetime_first}
use Rattle.syn_ty.specs.ty.Spelt.{spelt_to}
use Rattle.syn_ty.proofs.ty_laws.complete.Leaves.{later, not_more}
use Rattle.syn_ty.proofs.ty_laws.complete.Less.{same, some, no_no, no_less, less_no, less_less, listed_no, mark_takes, word_takes, lifetime_takes}
use Rattle.syn_ty.proofs.ty_laws.complete.Within.{Firsts, Fits, Less, NoMore, TypeBegins, BoundBegins, Meets, SuppliedMeets}
use Rattle.syn_ty.proofs.ty_laws.complete.Params.{bounds_meet, Over, over_fits, absent_met, after_attrs_met, bounds_no, present_met, brace_over, colon_met, colon_over, colon_seen, colon_takes, comma_over, done_no_mark, done_over, equals_over, life_no_pound, lives_met, none_of_four, mapped_met, no_later, of_either, optional_binder_met, other_char, semi_over, params_met}
use Rattle.syn_forms.specs.heads.Reading as heads
use Rattle.syn_ty.proofs.ty_laws.complete.Knot.{below_met}

-- ---- the generics of a declaration

module _ {A E : Type 0} (r : Readers A E) (part : Manner → Parts A E) (limit : ℕ) (meets : Meets r part limit) where
  abbrev generics_as : heads.Angled (GenericParam A E) → GenericsOf A E
  generics_as p = generics_of (Some p.0) p.1 (Some p.2) None

  -- where there are none, before what is no `<`
  pub generics_met : (x : GenericsOf A E) (l k : Toks) (f : Option Span) (e : Span) (sc : Scope) → ahead (at l f e sc) ≤ limit → AreGenerics part clearly x l k → (x.lt_token ≡ None → token.sees_lt k ≡ false) → Reads_to (generics r) x l k f e sc
  unfolding generics
  generics_met x l k f e sc h no_generics n = record { last = e; reads = chosen (token.sees_lt l) false _ _ (at l f e sc) _ (n refl) refl }
  generics_met x l k f e sc h (some_generics {o = o} {xs = xs} {cs = cs} {c = c} {m = m} {n = j} i q s) n =
      let v = mapped_met generics_as (heads.angled (r (a_param Generics))) (o, (xs, cs), c) l k f e sc (params_met r part limit meets Generics o xs cs c l m j k f e sc h i q s) in
      record { last = v.last; reads = chosen (token.sees_lt l) true _ _ (at l f e sc) _ (mark_seen true {n = 2} {k = 1} o l m i) v.reads }

-- ---- what ends a predicate

both_hold : (a b : Bool) → a && not b ≡ true → (a ≡ true) × (b ≡ false)
both_hold true false h = (refl, refl)
both_hold true true h = cc h
both_hold false b h = cc h

predicate_cases : {P : Type 0} (l : Toks) → (is_done l ≡ true → P) → (sees_group Brace l ≡ true → P) → (token.sees_comma l ≡ true → P) → (token.sees_semi l ≡ true → P) → (token.sees_colon l ≡ true → token.sees_path_sep l ≡ false → P) →
    (token.sees_equals l ≡ true → P) → ends_predicate l ≡ true → P
unfolding ends_predicate
predicate_cases l a b c d e g h =
    of_either (is_done l) _ a (of_either (sees_group Brace l) _ b (of_either (token.sees_comma l) _ c (of_either (token.sees_semi l) _ d
    (of_either (token.sees_colon l && not (token.sees_path_sep l)) _ (λ z. let y = both_hold (token.sees_colon l) (token.sees_path_sep l) z in e y.0 y.1) g)))) h

pub predicate_over : (l : Toks) → ends_predicate l ≡ true → Over l
predicate_over l h = predicate_cases l (done_over l) (brace_over l) (comma_over l) (semi_over l) (colon_over l) (equals_over l) h

-- no `<` begins there
pub brace_no_mark : (x : ℕ) (xs : List ℕ) (l : Toks) → sees_group Brace l ≡ true → sees_mark (x ∷ xs) l ≡ false
unfolding sees_mark sees_group
brace_no_mark x xs done h = refl
brace_no_mark x xs (word i k) h = refl
brace_no_mark x xs (mark p k) h = cc h
brace_no_mark x xs (lit y k) h = refl
brace_no_mark x xs (group y s c k) h = refl
brace_no_mark x xs (enter s k) h = brace_no_mark x xs k h
brace_no_mark x xs (leave k) h = brace_no_mark x xs k h

pub predicate_no_lt : (l : Toks) → ends_predicate l ≡ true → token.sees_lt l ≡ false
predicate_no_lt l h = predicate_cases l (done_no_mark 60 [] l) (brace_no_mark 60 [] l) (other_char 44 60 [] [] l refl) (other_char 59 60 [] [] l refl) (λ e g. other_char 58 60 [] [] l refl e) (other_char 61 60 [] [] l refl) h

-- that of a lifetime ends there too
at_colons : (a b c d e g q : Bool) → a || (b || (c || (d || ((e && not g) || q)))) ≡ true → a || (b || (c || (d || (e || q)))) ≡ true
at_colons true b c d e g q h = refl
at_colons false true c d e g q h = refl
at_colons false false true d e g q h = refl
at_colons false false false true e g q h = refl
at_colons false false false false true g q h = refl
at_colons false false false false false g q h = h

lifetime_ends : (l : Toks) → ends_predicate l ≡ true → ends_lifetime_predicate l ≡ true
unfolding ends_predicate ends_lifetime_predicate
lifetime_ends l h = at_colons (is_done l) (sees_group Brace l) (token.sees_comma l) (token.sees_semi l) (token.sees_colon l) (token.sees_path_sep l) (token.sees_equals l) h

comma_ends : (l : Toks) → token.sees_comma l ≡ true → ends_predicate l ≡ true
unfolding ends_predicate
comma_ends l h = at_third (is_done l) (sees_group Brace l) (token.sees_comma l) _ h
  where
    at_third : (a b c d : Bool) → c ≡ true → a || (b || (c || d)) ≡ true
    at_third true b c d h = refl
    at_third false true c d h = refl
    at_third false false true d h = refl
    at_third false false false d h = cc h

-- no lifetime begins there
life_goes : (x : Lifetime) (l k : Toks) → IsLifetime x l k → ends_lifetime_predicate l ≡ false
unfolding ends_lifetime_predicate is_done sees_mark sees_group
life_goes x l k is_lifetime = refl

-- and no bound
none_of_six : (a b c d e q : Bool) → a ≡ false → b ≡ false → c ≡ false → d ≡ false → e ≡ false → q ≡ false → a || (b || (c || (d || (e || q)))) ≡ false
none_of_six false false false false false q h i j m n o = o
none_of_six false false false false true q h i j m n o = cc n
none_of_six false false false true e q h i j m n o = cc m
none_of_six false false true d e q h i j m n o = cc j
none_of_six false true c d e q h i j m n o = cc i
none_of_six true b c d e q h i j m n o = cc h

pub ends_predicate_goes : (l : Toks) → BoundBegins Parameter l → ends_predicate l ≡ false
unfolding ends_predicate
ends_predicate_goes l b =
    none_of_six (is_done l) (sees_group Brace l) (token.sees_comma l) (token.sees_semi l) (token.sees_colon l && not (token.sees_path_sep l)) (token.sees_equals l) b.there b.no_brace b.no_comma b.no_semi b.no_colon b.no_equals

-- ---- a lifetime ends nothing

quote_if : {T : Type 0} (p : Punct) (b : Bool) (o : Option T) → (p.ch == 39) ≡ b → is_some (if b then o else None) ≡ true → p.ch ≡ 39
quote_if p true o h e = eqb-true p.ch 39 h
quote_if p false o h e = cc e

quote_is : (p : Punct) (k : Toks) → sees_lifetime (mark p k) ≡ true → p.ch ≡ 39
unfolding sees_lifetime
quote_is p k h = quote_if p (p.ch == 39) _ refl h

life_no_word : (test : Bytes → Bool) (l : Toks) → sees_lifetime l ≡ true → sees_word test l ≡ false
unfolding sees_lifetime sees_word
life_no_word test done h = refl
life_no_word test (word i k) h = cc h
life_no_word test (mark p k) h = refl
life_no_word test (lit x k) h = refl
life_no_word test (group x s c k) h = refl
life_no_word test (enter s k) h = life_no_word test k h
life_no_word test (leave k) h = life_no_word test k h

quote_no_mark : (x : ℕ) (xs : List ℕ) (l : Toks) → (39 == x) ≡ false → sees_lifetime l ≡ true → sees_mark (x ∷ xs) l ≡ false
unfolding sees_lifetime sees_mark
quote_no_mark x xs done n h = refl
quote_no_mark x xs (word i k) n h = refl
quote_no_mark x xs (mark p k) n h = no_mark-other x xs p k (ap (λ z. z == x) (quote_is p k h) ∙ n)
quote_no_mark x xs (lit y k) n h = refl
quote_no_mark x xs (group y s c k) n h = refl
quote_no_mark x xs (enter s k) n h = quote_no_mark x xs k n h
quote_no_mark x xs (leave k) n h = quote_no_mark x xs k n h

life_there : (l : Toks) → sees_lifetime l ≡ true → is_done l ≡ false
unfolding sees_lifetime is_done
life_there done h = cc h
life_there (word i k) h = refl
life_there (mark p k) h = refl
life_there (lit x k) h = refl
life_there (group x s c k) h = refl
life_there (enter s k) h = life_there k h
life_there (leave k) h = life_there k h

life_no_brace : (l : Toks) → sees_lifetime l ≡ true → sees_group Brace l ≡ false
unfolding sees_lifetime sees_group
life_no_brace done h = refl
life_no_brace (word i k) h = refl
life_no_brace (mark p k) h = refl
life_no_brace (lit x k) h = refl
life_no_brace (group x s c k) h = cc h
life_no_brace (enter s k) h = life_no_brace k h
life_no_brace (leave k) h = life_no_brace k h

life_unended : (l : Toks) → sees_lifetime l ≡ true → ends_predicate l ≡ false
unfolding ends_predicate
life_unended l h =
    none_of_six (is_done l) (sees_group Brace l) (token.sees_comma l) (token.sees_semi l) (token.sees_colon l && not (token.sees_path_sep l)) (token.sees_equals l)
    (life_there l h) (life_no_brace l h) (quote_no_mark 44 [] l refl h) (quote_no_mark 59 [] l refl h) (ap (λ b. b && not (token.sees_path_sep l)) (quote_no_mark 58 [] l refl h)) (quote_no_mark 61 [] l refl h)

-- ---- which test goes which way

life_seen : (x : Lifetime) (c : token.Colon) (l m k : Toks) → IsLifetime x l m → IsMark true c m k → sees_lifetime_predicate l ≡ true
unfolding sees_lifetime_predicate sees_lifetime after_one
life_seen x c l m k is_lifetime i = colon_seen c m k i

-- what is a `+` is no other mark
plus_alone : (o : Option Toks) (c : ℕ) → (43 == c) ≡ false → meets token.sees_plus o ≡ true → meets (sees_mark (c ∷ [])) o ≡ false
plus_alone None c n h = refl
plus_alone (Some m) c n h = other_char 43 c [] [] m n h

not_lone : (a p c : Bool) → a && not p ≡ false → (p ≡ true → c ≡ false) → a && c ≡ false
not_lone false p c h g = refl
not_lone true true c h g = g refl
not_lone true false c h g = cc h

-- a type that begins with a lifetime goes on with a `+`
type_unseen : (l k : Toks) → TypeBegins l k → sees_lifetime_predicate l ≡ false
unfolding sees_lifetime_predicate sees_lone_lifetime
type_unseen l k b = not_lone (sees_lifetime l) (second token.sees_plus l) (second token.sees_colon l) b.no_lone (plus_alone (after_one l) 58 refl)

-- ---- predicates of lifetimes

abbrev life_of : {A : Type 0} → List A → LifetimePredicate → PredicateLifetimeOf A
life_of a p = predicate_lifetime_of a p.0 p.1 p.2

module _ {A : Type 0} (a : List A) where
  pub lifetime_after_met : (x : Lifetime) (c : token.Colon) (xs : List Lifetime) (ps : List token.Plus) (l m n k : Toks) (f : Option Span) (e : Span) (sc : Scope) → IsLifetime x l m → IsMark true c m n → AreLifetimes true xs ps n k → ends_predicate k ≡ true →
      Reads_to (lifetime_after a) (predicate_lifetime_of a x c (xs, ps)) l k f e sc
  unfolding predicates.lifetime_predicate
  lifetime_after_met x c xs ps l m n k f e sc i j g h =
      let u = lifetime_complete x l m f e sc i in
      let v = colon_met c m n f u.last sc j in
      let b = lives_met ends_lifetime_predicate life_goes xs ps n k f v.last sc g (lifetime_ends k h) (predicate_over k h).no_plus in
      let all : Reads_to predicates.lifetime_predicate (x, c, (xs, ps)) l k f e sc = record { last = b.last; reads = link _ u.reads (link _ v.reads (link _ b.reads refl)) } in
      mapped_met (life_of a) predicates.lifetime_predicate (x, c, (xs, ps)) l k f e sc all

-- ---- binders

module _ {A E : Type 0} (part : Manner → Parts A E) where
  for_no_life : (x : BoundLifetimes A E) (l k : Toks) → IsFor part clearly x l k → sees_lifetime_predicate l ≡ false
  unfolding sees_lifetime_predicate sees_lifetime
  for_no_life x l k (a_binder is_word i q s) = refl

  for_no_pound : (x : BoundLifetimes A E) (l k : Toks) → IsFor part clearly x l k → token.sees_pound l ≡ false
  unfolding sees_mark
  for_no_pound x l k (a_binder is_word i q s) = refl

  for_goes : (x : BoundLifetimes A E) (l k : Toks) → IsFor part clearly x l k → ends_predicate l ≡ false
  unfolding ends_predicate is_done sees_group sees_mark
  for_goes x l k (a_binder is_word i q s) = refl

  for_no_generics : (x : BoundLifetimes A E) (l k : Toks) → IsFor part clearly x l k → sees_generics l ≡ false
  unfolding sees_generics sees_mark
  for_no_generics x l k (a_binder is_word i q s) = refl

  pub for_takes : ((x : GenericParam A E) (l k : Toks) → (part clearly).param Binder x l k → Less l k) → (x : BoundLifetimes A E) (l k : Toks) → IsFor part clearly x l k → Less l k
  for_takes takes x l k (a_binder {f = w} {o = o} {xs = xs} {cs = cs} {c = c} {m = m} {n = n} {k = j} is i q s) =
      less_less (word_takes w l m is) (less_less (mark_takes 60 [] refl o m n i)
      (no_less (listed_no (λ (b : Bool) y u v z. takes y u v z) (λ p u v z. some (mark_takes 44 [] refl p u v z)) true xs cs n j q) (mark_takes 62 [] refl c j k s)))

-- ---- predicates, over the read of the type, which may stand where the predicate begins

module _ {A E : Type 0} (attrs : Reader (List A)) (values : ReadValues E) (type : Reader (TypeTree A E)) (r : Readers A E) (part : Manner → Parts A E) (limit : ℕ) (meets : Meets r part limit) (supplied : SuppliedMeets attrs values part)
    (type_met : (d : End) (x : TypeTree A E) (l k : Toks) (f : Option Span) (e : Span) (sc : Scope) → ahead (at l f e sc) ≤ limit → (part clearly).ty Bounded d x l k → Fits d k → token.sees_plus k ≡ false → Reads_to type x l k f e sc) where
  -- a type, `:` and bounds
  rest_met : (a : List A) (o : Option (BoundLifetimes A E)) (d : End) (x : TypeTree A E) (c : token.Colon) (xs : List (TypeParamBound A E)) (ps : List token.Plus) (l m n k : Toks) (f : Option Span) (e : Span) (sc : Scope) → ahead (at l f e sc) ≤ limit →
      Reads_to (optional_binder r) o l m f e sc → NoMore l m → (part clearly).ty Bounded d x m n → AreBoundsOf part clearly c xs ps n k → ends_predicate k ≡ true → Reads_to (type_after type r a) (predicate_type_of a o x c (xs, ps)) l k f e sc
  unfolding type_after predicate_bounds
  rest_met a o d x c xs ps l m n k f e sc h u le t (bounds_of {e = g} {m = j} i q) z =
      let over = predicate_over k z in
      let here = colon_over n (colon_seen c n j i) (colon_apart c n j i) in
      let v = type_met d x m n f u.last sc (no_later l m f f e u.last sc limit le h) t (over_fits d n here) here.no_plus in
      let b = colon_met c n j f v.last sc i in
      let less = no_less le (less_less (meets.firsts.ty Bounded d x m n t).1 (colon_takes c n j i)) in
      let s = bounds_meet r part limit meets Anywhere ends_predicate ends_predicate_goes g xs ps j k f b.last sc (later l j f f e b.last sc limit less.lighter h) q (λ p. over_fits g k over) (λ first may. z) in
      record { last = s.last; reads = link _ u.reads (link _ v.reads (link _ b.reads (link _ s.reads refl))) }

  abbrev Further : List A → WherePredicateOf A E → Toks → Toks → Option Span → Span → Scope → Type 0
  Further a x l k f e sc = Reads_to (predicate_after type r a) x l k f e sc

  as_lifetime : (a : List A) (x : PredicateLifetimeOf A) (l k : Toks) (f : Option Span) (e : Span) (sc : Scope) → sees_lifetime_predicate l ≡ true → Reads_to (lifetime_after a) x l k f e sc → Further a (w.Lifetime x) l k f e sc
  unfolding predicate_after
  as_lifetime a x l k f e sc h q =
      let u = mapped_met (λ (z : PredicateLifetimeOf A). w.Lifetime z) (lifetime_after a) x l k f e sc q in
      record { last = u.last; reads = chosen (sees_lifetime_predicate l) true _ _ (at l f e sc) _ h u.reads }

  as_type : (a : List A) (x : PredicateTypeOf A E) (l k : Toks) (f : Option Span) (e : Span) (sc : Scope) → sees_lifetime_predicate l ≡ false → Reads_to (type_after type r a) x l k f e sc → Further a (w.«Type» x) l k f e sc
  unfolding predicate_after
  as_type a x l k f e sc h q =
      let u = mapped_met (λ (z : PredicateTypeOf A E). w.«Type» z) (type_after type r a) x l k f e sc q in
      record { last = u.last; reads = chosen (sees_lifetime_predicate l) false _ _ (at l f e sc) _ h u.reads }

  pub predicate_met : (x : WherePredicateOf A E) (l k : Toks) (f : Option Span) (e : Span) (sc : Scope) → ahead (at l f e sc) ≤ limit → IsPredicate part clearly x l k → ends_predicate k ≡ true → Reads_to (declared.predicate attrs type r) x l k f e sc
  unfolding declared.predicate
  predicate_met x l k f e sc h (of_lifetime (a_lifetime_predicate {a = a} {x = y} {c = c} {xs = xs} {ps = ps} {m = m} {n = n} {k = j} i g q t)) z =
      after_attrs_met attrs part supplied.attrs_met (predicate_after type r) a x l m k f e sc i (life_no_pound y m n g)
      (λ b. as_lifetime a (predicate_lifetime_of a y c (xs, ps)) m k f b sc (life_seen y c m n j g q) (lifetime_after_met a y c xs ps m n j k f b sc g q t z))
  predicate_met x l k f e sc h (of_type (a_type_predicate {a = a} {e = d} {x = y} {c = c} {xs = xs} {ps = ps} {m = m} {n = n} i s t q)) z =
      let begins = (meets.firsts.ty Bounded d y m n t).0 in
      after_attrs_met attrs part supplied.attrs_met (predicate_after type r) a x l m k f e sc i begins.no_pound
      (λ b. as_type a (predicate_type_of a None y c (xs, ps)) m k f b sc (type_unseen m n begins)
      (rest_met a None d y c xs ps m m n k f b sc (no_later l m f f e b sc limit (supplied.attrs_light a l m i) h)
      (optional_binder_met r part limit meets None m m f b sc (no_later l m f f e b sc limit (supplied.attrs_light a l m i) h) absent (λ p. s)) same t q z))
  predicate_met x l k f e sc h (of_type (a_type_predicate_for {a = a} {o = o} {e = d} {x = y} {c = c} {xs = xs} {ps = ps} {m = m} {n = n} {k = j} i s t q)) z =
      after_attrs_met attrs part supplied.attrs_met (predicate_after type r) a x l m k f e sc i (for_no_pound part o m n s)
      (λ b. as_type a (predicate_type_of a (Some o) y c (xs, ps)) m k f b sc (for_no_life part o m n s)
      (rest_met a (Some o) d y c xs ps m n j k f b sc (no_later l m f f e b sc limit (supplied.attrs_light a l m i) h)
      (optional_binder_met r part limit meets (Some o) m n f b sc (no_later l m f f e b sc limit (supplied.attrs_light a l m i) h) (present s) (λ p. cc p)) (some (for_takes part (λ p u v g. (meets.firsts.param Binder p u v g).1) o m n s)) t q z))

-- ---- where clauses

char_there : (c : ℕ) (l : Toks) → sees_mark (c ∷ []) l ≡ true → is_done l ≡ false
unfolding sees_mark is_done
char_there c done h = cc h
char_there c (word i k) h = refl
char_there c (mark p k) h = refl
char_there c (lit x k) h = refl
char_there c (group x s y k) h = refl
char_there c (enter s k) h = char_there c k h
char_there c (leave k) h = char_there c k h

char_no_brace : (c : ℕ) (l : Toks) → sees_mark (c ∷ []) l ≡ true → sees_group Brace l ≡ false
unfolding sees_mark sees_group
char_no_brace c done h = refl
char_no_brace c (word i k) h = refl
char_no_brace c (mark p k) h = refl
char_no_brace c (lit x k) h = refl
char_no_brace c (group x s y k) h = cc h
char_no_brace c (enter s k) h = char_no_brace c k h
char_no_brace c (leave k) h = char_no_brace c k h

-- an attribute begins no end, and no generics
pound_goes : (l : Toks) → token.sees_pound l ≡ true → ends_predicate l ≡ false
unfolding ends_predicate
pound_goes l h =
    none_of_six (is_done l) (sees_group Brace l) (token.sees_comma l) (token.sees_semi l) (token.sees_colon l && not (token.sees_path_sep l)) (token.sees_equals l)
    (char_there 35 l h) (char_no_brace 35 l h) (other_char 35 44 [] [] l refl h) (other_char 35 59 [] [] l refl h) (ap (λ b. b && not (token.sees_path_sep l)) (other_char 35 58 [] [] l refl h)) (other_char 35 61 [] [] l refl h)

no_angle : (l : Toks) → token.sees_lt l ≡ false → sees_generics l ≡ false
unfolding sees_generics
no_angle l h = ap (λ b. b && (second token.sees_gt l || (second token.sees_pound l || (sees_first_param l || second token.sees_const l)))) h

-- what begins a predicate after its attributes
after_these : (P : Toks → Type 0) (l m : Toks) → (l ≡ m) ⊎ (token.sees_pound l ≡ true) → P m → (token.sees_pound l ≡ true → P l) → P l
after_these P l m (inl e) h g = subst P (sym e) h
after_these P l m (inr e) h g = g e

comma_met : (c : token.Comma) (l k : Toks) (f : Option Span) (e : Span) (sc : Scope) → IsMark true c l k → Reads_to token.comma c l k f e sc
comma_met c l k f e sc i = mark_complete true {n = 4} {k = 1} refl (omega arith) c l k f e sc i

where_seen : {A E : Type 0} (part : Manner → Parts A E) (x : WhereClauseOf A E) (l k : Toks) → IsWhereClause part clearly x l k → token.sees_where l ≡ true
where_seen part x l k (a_where_clause {q = q} {m = m} i g j) = word_seen {n = 18} q l m i

-- Of a type that a predicate begins with it is known that it does not begin as a clause ends, and begins as generics do only where an `Ident` stands between the angle marks.
module _ {A E : Type 0} (attrs : Reader (List A)) (values : ReadValues E) (one : Reader (WherePredicateOf A E)) (part : Manner → Parts A E) (limit : ℕ) (firsts : Firsts part) (supplied : SuppliedMeets attrs values part)
    (type_goes : (d : End) (x : TypeTree A E) (l k : Toks) → (part clearly).ty Bounded d x l k → ends_predicate l ≡ false)
    (type_plain : (d : End) (x : TypeTree A E) (l k : Toks) → (part clearly).ty Bounded d x l k → begins_as_generics l ≡ false → sees_generics l ≡ false)
    (one_met : (x : WherePredicateOf A E) (l k : Toks) (f : Option Span) (e : Span) (sc : Scope) → ahead (at l f e sc) < limit → IsPredicate part clearly x l k → ends_predicate k ≡ true → Reads_to one x l k f e sc) where
  abbrev Is : WherePredicateOf A E → Toks → Toks → Type 0
  Is = IsPredicate part clearly

  goes_on : (x : WherePredicateOf A E) (l k : Toks) → Is x l k → ends_predicate l ≡ false
  goes_on x l k (of_lifetime (a_lifetime_predicate {a = a} {x = y} {m = m} {n = n} i g q t)) = after_these (λ z. ends_predicate z ≡ false) l m (supplied.attrs_begin a l m i) (life_unended m (lifetime_seen y m n g)) (pound_goes l)
  goes_on x l k (of_type (a_type_predicate {a = a} {e = d} {x = y} {m = m} {n = n} i s t q)) = after_these (λ z. ends_predicate z ≡ false) l m (supplied.attrs_begin a l m i) (type_goes d y m n t) (pound_goes l)
  goes_on x l k (of_type (a_type_predicate_for {a = a} {o = o} {m = m} {n = n} i s t q)) = after_these (λ z. ends_predicate z ≡ false) l m (supplied.attrs_begin a l m i) (for_goes part o m n s) (pound_goes l)

  bounds_of_no : (c : token.Colon) (xs : List (TypeParamBound A E)) (ps : List token.Plus) (l k : Toks) → AreBoundsOf part clearly c xs ps l k → NoMore l k
  bounds_of_no c xs ps l k (bounds_of {e = g} {m = j} i q) = no_no (some (colon_takes c l j i)) (bounds_no part Parameter Anywhere (λ b y o z h. (firsts.bound Parameter b y o z h).1) true g xs ps j k q)

  pub predicate_takes : (x : WherePredicateOf A E) (l k : Toks) → Is x l k → Less l k
  predicate_takes x l k (of_lifetime (a_lifetime_predicate {a = a} {x = y} {c = c} {xs = xs} {ps = ps} {m = m} {n = n} {k = j} i g q t)) =
      no_less (supplied.attrs_light a l m i) (less_no (lifetime_takes y m n g) (no_no (some (colon_takes c n j q)) (listed_no (λ (b : Bool) z u v h. lifetime_takes z u v h) (λ p u v h. some (mark_takes 43 [] refl p u v h)) true xs ps j k t)))
  predicate_takes x l k (of_type (a_type_predicate {a = a} {e = d} {x = y} {c = c} {xs = xs} {ps = ps} {m = m} {n = n} i s t q)) =
      no_less (supplied.attrs_light a l m i) (less_no (firsts.ty Bounded d y m n t).1 (bounds_of_no c xs ps n k q))
  predicate_takes x l k (of_type (a_type_predicate_for {a = a} {o = o} {e = d} {x = y} {c = c} {xs = xs} {ps = ps} {m = m} {n = n} {k = j} i s t q)) =
      no_less (supplied.attrs_light a l m i) (less_less (for_takes part (λ p u v g. (firsts.param Binder p u v g).1) o m n s) (less_no (firsts.ty Bounded d y n j t).1 (bounds_of_no c xs ps j k q)))

  -- no generics begin with a predicate that does not begin as they do
  plain : (x : WherePredicateOf A E) (l k : Toks) → Is x l k → begins_as_generics l ≡ false → sees_generics l ≡ false
  plain x l k (of_lifetime (a_lifetime_predicate {a = a} {x = y} {m = m} {n = n} i g q t)) h =
      after_these (λ z. sees_generics z ≡ false) l m (supplied.attrs_begin a l m i) (no_angle m (quote_no_mark 60 [] m refl (lifetime_seen y m n g))) (λ p. no_angle l (other_char 35 60 [] [] l refl p))
  plain x l k (of_type (a_type_predicate {a = a} {e = d} {x = y} {m = m} {n = n} i s t q)) h =
      after_these (λ z. begins_as_generics z ≡ false → sees_generics z ≡ false) l m (supplied.attrs_begin a l m i) (type_plain d y m n t) (λ p b. no_angle l (other_char 35 60 [] [] l refl p)) h
  plain x l k (of_type (a_type_predicate_for {a = a} {o = o} {m = m} {n = n} i s t q)) h =
      after_these (λ z. sees_generics z ≡ false) l m (supplied.attrs_begin a l m i) (for_no_generics part o m n s) (λ p. no_angle l (other_char 35 60 [] [] l refl p))

  abbrev AreThose : List (WherePredicateOf A E) → List token.Comma → Toks → Toks → Type 0
  AreThose = AreListed (λ (_ : Bool). Is) (IsMark true) Anywhere true

  all_plain : (xs : List (WherePredicateOf A E)) (cs : List token.Comma) (l k : Toks) → AreThose xs cs l k → ends_predicate k ≡ true → begins_as_generics l ≡ false → sees_generics l ≡ false
  all_plain xs cs l k (none_left may) z h = no_angle l (predicate_no_lt l z)
  all_plain xs cs l k (last_value {x = x} i) z h = plain x l k i h
  all_plain xs cs l k (value_and_mark {x = x} {m = m} i j q) z h = plain x l m i h

  predicates_met : (xs : List (WherePredicateOf A E)) (cs : List token.Comma) (l k : Toks) (f : Option Span) (e : Span) (sc : Scope) → ahead (at l f e sc) < limit → AreThose xs cs l k → ends_predicate k ≡ true → token.sees_comma k ≡ false →
      Reads_to (predicates_to one) (xs, cs) l k f e sc
  predicates_met xs cs l k f e sc h i z n =
      listed_here (λ (_ : Bool). ends_predicate) (λ (_ : Bool). one) token.sees_comma token.comma (λ (_ : Bool). Is) (IsMark true) Anywhere (λ y. ends_predicate y ≡ true) (λ y. ahead (at y None none sc) < limit) sc
      (λ b x m o u j g a d. one_met x m o a d sc u j g)
      (λ c m o j a d. comma_met c m o a d sc j)
      (λ c m o j. (comma_ends m (mark_seen true {n = 4} {k = 1} c m o j), mark_seen true {n = 4} {k = 1} c m o j))
      (λ b x m o j. goes_on x m o j)
      (λ b x m o j. (predicate_takes x m o j).shorter)
      (λ c m o j. mark_size true {n = 4} {k = 1} c m o j)
      (λ b x c m o q j g u. not_more m q None None none none sc limit (some (less_less (predicate_takes x m o j) (mark_takes 44 [] refl c o q g))).light u)
      true xs cs l k h i
      (record { follows = z; over = n; stops_there = λ b may. z }) f e

  -- before what is no comma
  pub where_met : (x : WhereClauseOf A E) (l k : Toks) (f : Option Span) (e : Span) (sc : Scope) → ahead (at l f e sc) ≤ limit → IsWhereClause part clearly x l k → ends_predicate k ≡ true → token.sees_comma k ≡ false →
      Reads_to (declared.where_clause one) x l k f e sc
  unfolding declared.where_clause declared.no_generics
  where_met x l k f e sc h (a_where_clause {q = q} {xs = xs} {cs = cs} {m = m} i g j) z n =
      let u = word_complete {n = 18} q l m f e sc i in
      let v = predicates_met xs cs m k f u.last sc (later l m f f e u.last sc limit (word_takes q l m i).lighter h) j z n in
      record { last = v.last; reads = link _ u.reads (link _ (chosen (sees_generics m) false _ _ (at m f u.last sc) _ (all_plain xs cs m k j z g) refl) (link _ v.reads refl)) }

-- ---- by themselves: what they hold is read by the knot, further on

-- the reads of the knot below any limit are met, and types where they stand
module _ {A E : Type 0} (attrs : Reader (List A)) (values : ReadValues E) (part : Manner → Parts A E) (supplied : SuppliedMeets attrs values part) (meets : (limit : ℕ) → Meets (reads_below attrs values limit) part limit) where
  pub generics_alone_met : (x : GenericsOf A E) (l k : Toks) (f : Option Span) (e : Span) (sc : Scope) → AreGenerics part clearly x l k → (x.lt_token ≡ None → token.sees_lt k ≡ false) → Reads_to (alone.generics attrs values) x l k f e sc
  unfolding alone.generics
  generics_alone_met x l k f e sc i n =
      let limit = ahead (at l f e sc) in
      let u = generics_met (reads_below attrs values limit) part limit (meets limit) x l k f e sc (omega arith) i n in
      record { last = u.last; reads = u.reads }

  module _ (type_met : (d : End) (x : TypeTree A E) (l k : Toks) (f : Option Span) (e : Span) (sc : Scope) → (part clearly).ty Bounded d x l k → Fits d k → token.sees_plus k ≡ false → Reads_to (ty attrs values Bounded) x l k f e sc) where
    pub predicate_alone_met : (x : WherePredicateOf A E) (l k : Toks) (f : Option Span) (e : Span) (sc : Scope) → IsPredicate part clearly x l k → ends_predicate k ≡ true → Reads_to (alone.predicate attrs values) x l k f e sc
    unfolding alone.predicate
    predicate_alone_met x l k f e sc i z =
        let limit = ahead (at l f e sc) in
        let u = predicate_met attrs values (ty attrs values Bounded) (reads_below attrs values limit) part limit (meets limit) supplied (λ d y m n g b s h. type_met d y m n g b s) x l k f e sc (omega arith) i z in
        record { last = u.last; reads = u.reads }

    module _ (type_goes : (d : End) (x : TypeTree A E) (l k : Toks) → (part clearly).ty Bounded d x l k → ends_predicate l ≡ false)
        (type_plain : (d : End) (x : TypeTree A E) (l k : Toks) → (part clearly).ty Bounded d x l k → begins_as_generics l ≡ false → sees_generics l ≡ false) where
      pub where_alone_met : (x : WhereClauseOf A E) (l k : Toks) (f : Option Span) (e : Span) (sc : Scope) → IsWhereClause part clearly x l k → ends_predicate k ≡ true → token.sees_comma k ≡ false → Reads_to (alone.where_clause attrs values) x l k f e sc
      unfolding alone.where_clause
      where_alone_met x l k f e sc i z n =
          let limit = ahead (at l f e sc) in
          let u = where_met attrs values (held (alone.predicate_in attrs values) limit tt) part limit (meets limit).firsts supplied type_goes type_plain
          (λ y m j g b s h t q. below_met (alone.predicate_in attrs values) limit tt y m j g b s h (predicate_alone_met y m j g b s t q)) x l k f e sc (omega arith) i z n in
          record { last = u.last; reads = u.reads }

      -- where there is none, before what is no `where`
      pub optional_where_alone_met : (o : Option (WhereClauseOf A E)) (l k : Toks) (f : Option Span) (e : Span) (sc : Scope) → IsOptional (IsWhereClause part clearly) o l k → (o ≡ None → token.sees_where k ≡ false) → ends_predicate k ≡ true →
          token.sees_comma k ≡ false → Reads_to (alone.optional_where_clause attrs values) o l k f e sc
      unfolding alone.optional_where_clause
      optional_where_alone_met o l k f e sc absent a z n = absent_met token.sees_where (alone.where_clause attrs values) l f e sc (a refl)
      optional_where_alone_met o l k f e sc (present {a = x} i) a z n = present_met token.sees_where (alone.where_clause attrs values) x l k f e sc (where_seen part x l k i) (where_alone_met x l k f e sc i z n)

-- ---- by the rules of types: how a type begins, before what follows it

-- a character that stands after no first word of a type but where the type has ended
pub record Ending (c : ℕ) : Type 0 where
  pub no_bang : (33 == c) ≡ false
  pub no_pound : (35 == c) ≡ false
  pub no_plus : (43 == c) ≡ false
  pub no_colon : (58 == c) ≡ false
  pub no_lt : (60 == c) ≡ false

both : {P : Type 0} (b : Bool) → b ≡ true → b ≡ false → P
both true h g = cc g
both false h g = cc h

left_of : (a b : Bool) → a && b ≡ true → a ≡ true
left_of true b h = refl
left_of false b h = cc h

left_or : (a b : Bool) → a ≡ true → a || b ≡ true
left_or a b h = ap (λ z. z || b) h

named_segment : (t : Bytes) → is_named_word t ≡ true → is_segment_word t ≡ true
named_segment t h = left_or (is_named_word t) _ h

-- where the type has ended, or goes on
data After : Toks → Toks → Type 0 where
  it_ends : {k : Toks} → After k k
  it_goes : {m k : Toks} → ((c : ℕ) → Ending c → sees_mark (c ∷ []) m ≡ false) → After m k

goes_again : (n m k : Toks) → ((c : ℕ) → Ending c → sees_mark (c ∷ []) m ≡ false) → After n m → After n k
goes_again n m k h it_ends = it_goes h
goes_again n m k h (it_goes q) = it_goes q

-- a character of a mark that begins a type, and no `<`
record Beginning (c : ℕ) : Type 0 where
  no_comma : (c == 44) ≡ false
  no_semi : (c == 59) ≡ false
  no_lt : (c == 60) ≡ false
  no_equals : (c == 61) ≡ false

text_apart : (ok : Bytes → Bool) (u t : Bytes) (b : Bool) → is_text u t ≡ b → ok u ≡ false → ok t ≡ true → is_text u t ≡ false
text_apart ok u t true e h i = let n : true ≡ false = sym i ∙ ap ok ((bytes_eq-Decides t u).0 e) ∙ h in cc n
text_apart ok u t false e h i = e

segment_no_const : (t : Bytes) → is_segment_word t ≡ true → is_text token.const_text t ≡ false
unfolding is_keyword
segment_no_const t h = text_apart is_segment_word token.const_text t (is_text token.const_text t) refl refl h

module _ {A E : Type 0} (part : Manner → Parts A E) where
  -- after a `<` a type, and then `>` or `as`
  data Starts : Toks → Toks → Type 0 where
    at_word : {i : Ident} {m k : Toks} → is_text token.const_text i.text ≡ false → (is_ident i.text ≡ true → After m k) → Starts (word i m) k
    at_mark : {p : Punct} {m k : Toks} → Beginning p.ch → (token.sees_colon (mark p m) && not (token.sees_path_sep (mark p m))) ≡ false → Starts (mark p m) k
    at_paren : {s : DelimSpan} {c m k : Toks} → Starts (group Parenthesis s c m) k
    at_bracket : {s : DelimSpan} {c m k : Toks} → Starts (group Bracket s c m) k
    at_life : {l k : Toks} → sees_lifetime l ≡ true → Starts l k
    at_angle : {o : token.Lt} {d : End} {x : TypeTree A E} {l m n k : Toks} → IsMark true o l m → (part clearly).ty Plus d x m n → ((c : ℕ) → (62 == c) ≡ false → sees_mark (c ∷ []) n ≡ false) → Starts l k

  -- a word of the table begins a type that is no path
  word_starts : {n : ℕ} (u : Word n) (l m k : Toks) → is_text token.const_text (text_of n) ≡ false → is_ident (text_of n) ≡ false → IsWord u l m → Starts l k
  word_starts {n} u l m k h g is_word = at_word h (λ i. both (is_ident (text_of n)) i g)

  word_no_mark : {n : ℕ} (c : ℕ) (u : Word n) (l m : Toks) → IsWord u l m → sees_mark (c ∷ []) l ≡ false
  unfolding sees_mark
  word_no_mark c u l m is_word = refl

  -- ---- paths

  sep_starts : (c : Sep) (l m k : Toks) → IsMark true c l m → Starts l k
  unfolding sees_mark
  sep_starts c l m k (is_mark (more_chars (last_char x))) = at_mark (record { no_comma = refl; no_semi = refl; no_lt = refl; no_equals = refl }) refl

  sep_goes : (c : Sep) (l m k : Toks) → IsMark true c l m → After l k
  sep_goes c l m k i = it_goes (λ x e. other_char 58 x (58 ∷ []) [] l e.no_colon (mark_seen true {n = 1} {k = 2} c l m i))

  module _ (firsts : Firsts part) where
    arguments_go : (x : PathArguments A E) (l m k : Toks) → (part clearly).arguments x l m → After l k
    unfolding sees_turbofish
    arguments_go x l m k i = it_goes (λ c e.
        of_either (sees_angle l) (sees_turbofish l) (λ h. other_char 60 c [] [] l e.no_lt (left_of (token.sees_lt l) _ h)) (λ h. other_char 58 c (58 ∷ []) [] l e.no_colon (left_of (sees_sep l) _ h)) (firsts.arguments x l m i).0)

    segment_starts : (x : PathSegment A E) (l m k : Toks) → IsSegment part clearly AsWritten x l m → After m k → Starts l k
    segment_starts x l m k (a_word {i = i} h) b = at_word (segment_no_const i.text h) (λ u. b)
    segment_starts x l m k (a_word_with_arguments {i = i} {x = y} {l = n} h s g) b = at_word (segment_no_const i.text (named_segment i.text h)) (λ u. arguments_go y n m k g)

    segments_start : (xs : List (PathSegment A E)) (cs : List Sep) (l k : Toks) → AreListed (λ (_ : Bool). IsSegment part clearly AsWritten) (IsMark true) Nowhere true xs cs l k → Starts l k
    segments_start xs cs l k (none_left may) = absurd may
    segments_start xs cs l k (last_value {x = x} i) = segment_starts x l k k i it_ends
    segments_start xs cs l k (value_and_mark {x = x} {p = p} {m = m} {k = n} i j rest) = segment_starts x l m k i (sep_goes p m n k j)

    path_starts : (p : Path A E) (l k : Toks) → IsPath part clearly AsWritten p l k → Starts l k
    path_starts p l k (a_path {xs = xs} {cs = cs} absent i) = segments_start xs cs l k i
    path_starts p l k (a_path {m = m} (present {a = c} h) i) = sep_starts c l m k h

    any_path_starts : (o : Option (QSelf A E)) (p : Path A E) (l k : Toks) → IsAnyPath part clearly AsWritten o p l k → Starts l k
    any_path_starts o p l k (unqualified i) = path_starts p l k i
    any_path_starts o p l k (qualified (by_type {g = g} {n = n} {k = j} i t u v s)) = at_angle i t (λ c e. other_char 62 c [] [] n e (mark_seen true {n = 3} {k = 1} g n j u))
    any_path_starts o p l k (qualified (by_type_as_path {w = u} {n = n} {k = j} i t e h q g v s)) = at_angle i t (λ c d. word_no_mark c u n j h)

    -- one that a `+` follows
    again : (l m k : Toks) → ((c : ℕ) → Ending c → sees_mark (c ∷ []) m ≡ false) → Starts l m → Starts l k
    again l m k h (at_word {m = n} i g) = at_word i (λ u. goes_again n m k h (g u))
    again l m k h (at_mark b e) = at_mark b e
    again l m k h at_paren = at_paren
    again l m k h at_bracket = at_bracket
    again l m k h (at_life e) = at_life e
    again l m k h (at_angle i t e) = at_angle i t e

    -- ---- macro calls

    bare_start : (all : List (PathSegmentOf NoArguments)) (seps : List Sep) (l m k : Toks) → bare.AreSegments true is_segment_word nothing all seps l m → After m k → Starts l k
    bare_start all seps l m k (bare.last_segment {i = i} h) b = at_word (segment_no_const i.text h) (λ u. b)
    bare_start all seps l m k (bare.more_segments {i = i} {a = a} h q rest) b = at_word (segment_no_const i.text h) (λ u. it_goes (λ c e. no_mark-other c [] (punct 58 Joint a) _ e.no_colon))

    call_starts : (x : Macro) (l k : Toks) → IsCall true is_segment_word x l k → Starts l k
    unfolding sees_mark
    call_starts x l k (calls.a_macro {a = a} {j = j} {d = d} {s = s} {c = c} (bare.a_bare_path {all = all} {seps = seps} bare.no_leading i) q e u) =
        bare_start all seps l (mark (punct 33 j a) (group d s c k)) k i (it_goes (λ n h. no_mark-other n [] (punct 33 j a) (group d s c k) h.no_bang))
    call_starts x l k (calls.a_macro (bare.a_bare_path (bare.leading b) i) q e u) = at_mark (record { no_comma = refl; no_semi = refl; no_lt = refl; no_equals = refl }) refl

    -- ---- bounds without `dyn`

    for_starts : (x : BoundLifetimes A E) (l m k : Toks) → IsFor part clearly x l m → Starts l k
    unfolding is_keyword
    for_starts x l m k (a_binder {f = u} {m = n} i j q g) = word_starts {n = 10} u l n k refl refl i

    first_starts : (o : Option (BoundLifetimes A E)) (p : Path A E) (l k : Toks) → IsFirst part clearly o p l k → Starts l k
    first_starts o p l k (a_first i h) = path_starts p l k i
    first_starts o p l k (a_first_for {x = x} {m = m} i j h g) = for_starts x l m k i

    bare_starts : (place : TypePlace) (d : End) (v : Many (TypeParamBound A E) token.Plus) (l k : Toks) → AreBareBounds part clearly place d v l k → Starts l k
    bare_starts place d v l k (path_alone {x = x} {p = p} i) = first_starts (Some x) p l k i
    bare_starts place d v l k (path_and_plus {o = o} {p = p} {c = c} {m = m} {n = n} h i j t) = again l m k (λ y e. other_char 43 y [] [] m e.no_plus (mark_seen true {n = 20} {k = 1} c m n j)) (first_starts o p l m i)
    bare_starts place d v l k (held_and_plus h i j t) = at_paren
    bare_starts place d v l k (asked_first i j) = at_paren
    bare_starts place d v l k (asked_in_two h i j t) = at_paren
    bare_starts place d v l k (lifetime_first h i t) = at_life h

    -- ---- pointers to functions, and what is held verbatim

    fn_starts : (d : End) (x : TypeFnPtr A E) (l k : Toks) → IsFnPtr part clearly d x l k → Starts l k
    unfolding is_keyword
    fn_starts d x l k (a_fn_ptr {b = Some b} {m = m} (present i) j h g t q) = for_starts b l m k i
    fn_starts d x l k (a_fn_ptr {u = Some u} {n = n} absent (present j) h g t q) = word_starts {n = 16} u l n k refl refl j
    fn_starts d x l k (a_fn_ptr absent absent (present (an_abi {w = w} {m = m} h v)) g t q) = word_starts {n = 8} w l m k refl refl h
    fn_starts d x l k (a_fn_ptr {w = w} {s = s} {c = c} {j = j} absent absent absent g t q) = word_starts {n = 9} w l (group Parenthesis s c j) k refl refl g

    builtin_no_const : (t : Bytes) → is_text builtin_text t ≡ true → is_text token.const_text t ≡ false
    builtin_no_const t h = ap (is_text token.const_text) ((bytes_eq-Decides t builtin_text).0 h)

    verbatim_starts : (place : TypePlace) (d : End) (l k : Toks) → IsVerbatimType part clearly place d l k → Starts l k
    unfolding is_keyword
    verbatim_starts place d l k (an_unsafe_binder {b = Some b} {m = m} (present i) j h g t q) = for_starts b l m k i
    verbatim_starts place d l k (an_unsafe_binder {u = u} {n = n} absent j h g t q) = word_starts {n = 16} u l n k refl refl j
    verbatim_starts place d l k (a_dyn_star {w = w} {m = m} i j h) = word_starts {n = 7} w l m k refl refl i
    verbatim_starts place d l k (a_builtin {b = Some b} {w = w} {m = m} (present i) h g q) = for_starts b l (word w m) k i
    verbatim_starts place d l k (a_builtin {w = w} {i = i} {p = p} {s = s} {m = m} {c = c} absent h g q) =
        at_word (builtin_no_const w.text h) (λ u. it_goes (λ y e. other_char 35 y [] [] m e.no_pound (mark_seen true {n = 21} {k = 1} p m (word i (group Parenthesis s c k)) g)))

    -- ---- every form

    type_starts : (place : TypePlace) (d : End) (x : TypeTree A E) (l k : Toks) → IsType part clearly place d x l k → Starts l k
    unfolding is_keyword sees_mark
    type_starts place d x l k (a_path_type {o = o} {p = p} i) = any_path_starts o p l k i.0
    type_starts place d x l k (a_macro {x = y} i) = call_starts y l k i.0
    type_starts place d x l k (a_bound_macro {b = b} {m = m} i j h) = for_starts b l m k i
    type_starts place d x l k (an_object_with_dyn (a_dyn {w = w} {m = m} i j)) = word_starts {n = 7} w l m k refl refl i
    type_starts place d x l k (an_object_without_dyn {w = v} i) = bare_starts place d v l k i
    type_starts place d x l k (an_impl_type (an_impl {w = w} {m = m} i j h)) = word_starts {n = 12} w l m k refl refl i
    type_starts place d x l k (a_fn_type {x = y} i) = fn_starts d y l k i
    type_starts place d x l k (a_ptr_type (a_pointer (is_mark (last_char y)) j h)) = at_mark (record { no_comma = refl; no_semi = refl; no_lt = refl; no_equals = refl }) refl
    type_starts place d x l k (a_reference_type (a_borrow (is_mark (last_char y)) j h)) = at_mark (record { no_comma = refl; no_semi = refl; no_lt = refl; no_equals = refl }) refl
    type_starts place d x l k (a_reference_type (a_mutable_borrow (is_mark (last_char y)) j h)) = at_mark (record { no_comma = refl; no_semi = refl; no_lt = refl; no_equals = refl }) refl
    type_starts place d x l k (a_reference_type (a_lifetime_borrow (is_mark (last_char y)) j h g)) = at_mark (record { no_comma = refl; no_semi = refl; no_lt = refl; no_equals = refl }) refl
    type_starts place d x l k (a_paren_type (enclosed i)) = at_paren
    type_starts place d x l k (a_tuple_type no_element) = at_paren
    type_starts place d x l k (a_tuple_type (some_elements b i j h)) = at_paren
    type_starts place d x l k (a_slice_type (bracketed i)) = at_bracket
    type_starts place d x l k (an_array_type (counted i j h)) = at_bracket
    type_starts place d x l k (an_infer_type (an_infer {w = w} i)) = word_starts {n = 19} w l k k refl refl i
    type_starts place d x l k (a_never_type (a_never (is_mark (last_char y)))) = at_mark (record { no_comma = refl; no_semi = refl; no_lt = refl; no_equals = refl }) refl
    type_starts place d x l k (a_verbatim_type (i, h)) = verbatim_starts place d l k i

-- ---- what is told by how a type begins

first_false : (a b : Bool) → (a ≡ true → b ≡ false) → a && b ≡ false
first_false true b h = h refl
first_false false b h = refl

goes_unseen : (c : ℕ) (m k : Toks) → Ending c → sees_mark (c ∷ []) k ≡ false → After m k → sees_mark (c ∷ []) m ≡ false
goes_unseen c m k e h it_ends = h
goes_unseen c m k e h (it_goes g) = g c e

-- no word `const` begins a type; and where one begins with an `Ident`, a comma or a `=` after it follows the type
pub record Heads (l k : Toks) : Type 0 where
  pub no_const : token.sees_const l ≡ false
  pub alone : (c : ℕ) → Ending c → sees_mark (c ∷ []) k ≡ false → (sees_ident l && second (sees_mark (c ∷ [])) l) ≡ false

module _ {A E : Type 0} (part : Manner → Parts A E) where
  starts_no_const : (l k : Toks) → Starts part l k → token.sees_const l ≡ false
  unfolding sees_word
  starts_no_const l k (at_word h g) = h
  starts_no_const l k (at_mark b e) = refl
  starts_no_const l k at_paren = refl
  starts_no_const l k at_bracket = refl
  starts_no_const l k (at_life h) = life_no_word (is_text token.const_text) l h
  starts_no_const l k (at_angle (is_mark (last_char x)) t e) = refl

  starts_alone : (c : ℕ) (l k : Toks) → Ending c → sees_mark (c ∷ []) k ≡ false → Starts part l k → (sees_ident l && second (sees_mark (c ∷ [])) l) ≡ false
  unfolding sees_word after_one
  starts_alone c l k e h (at_word {i = i} {m = m} n g) = first_false (is_ident i.text) _ (λ u. goes_unseen c m k e h (g u))
  starts_alone c l k e h (at_mark b q) = refl
  starts_alone c l k e h at_paren = refl
  starts_alone c l k e h at_bracket = refl
  starts_alone c l k e h (at_life g) = ap (λ b. b && second (sees_mark (c ∷ [])) l) (life_no_word is_ident l g)
  starts_alone c l k e h (at_angle (is_mark (last_char x)) t q) = refl

  starts_go : (l k : Toks) → Starts part l k → ends_predicate l ≡ false
  unfolding ends_predicate is_done sees_group sees_mark
  starts_go l k (at_word h g) = refl
  starts_go l k (at_mark {p = p} {m = m} b e) = none_of_six false false _ _ _ _ refl refl (no_mark-other 44 [] p m b.no_comma) (no_mark-other 59 [] p m b.no_semi) e (no_mark-other 61 [] p m b.no_equals)
  starts_go l k at_paren = refl
  starts_go l k at_bracket = refl
  starts_go l k (at_life h) = life_unended l h
  starts_go l k (at_angle (is_mark (last_char x)) t e) = refl

  starts_lt : (l k : Toks) → Starts part l k → (token.sees_lt l ≡ false) ⊎ ((o : token.Lt) × (d : End) × (x : TypeTree A E) × (m : Toks) × (n : Toks) × IsMark true o l m × (part clearly).ty Plus d x m n × ((c : ℕ) → (62 == c) ≡ false → sees_mark (c ∷ []) n ≡ false))
  unfolding sees_mark
  starts_lt l k (at_word h g) = inl refl
  starts_lt l k (at_mark {p = p} {m = m} b e) = inl (no_mark-other 60 [] p m b.no_lt)
  starts_lt l k at_paren = inl refl
  starts_lt l k at_bracket = inl refl
  starts_lt l k (at_life h) = inl (quote_no_mark 60 [] l refl h)
  starts_lt l k (at_angle {o = o} {d = d} {x = x} {m = m} {n = n} i t e) = inr (o, d, x, m, n, i, t, e)

-- ---- after a `<`

comma_ending : Ending 44
comma_ending = record { no_bang = refl; no_pound = refl; no_plus = refl; no_colon = refl; no_lt = refl }

equals_ending : Ending 61
equals_ending = record { no_bang = refl; no_pound = refl; no_plus = refl; no_colon = refl; no_lt = refl }

neither : (a b c : Bool) → (a ≡ true → c ≡ false) → (b ≡ true → c ≡ false) → (a || b) && c ≡ false
neither true b c h g = h refl
neither false true c h g = g refl
neither false false c h g = refl

second_false : (a b : Bool) → a ≡ true → a && b ≡ false → b ≡ false
second_false true b h g = g
second_false false b h g = cc h

lone_plus : (a b : Bool) → a ≡ true → a && not b ≡ false → b ≡ true
lone_plus true true h g = refl
lone_plus true false h g = cc g
lone_plus false b h g = cc h

-- what stands behind a first Ident: no `:` but that of `::`, where none follows the type
name_colon : (m n : Toks) → TypeBegins m n → token.sees_colon n ≡ false → sees_ident m ≡ true → (second token.sees_colon m && not (second token.sees_path_sep m)) ≡ false
unfolding sees_name
name_colon m n b h i = second_false (sees_ident_or_underscore m || (false && token.sees_self_value m)) _ (left_or _ _ (left_or (sees_ident m) _ i)) (b.no_name h false)

angle_plain : (o : token.Lt) (l m n : Toks) → IsMark true o l m → TypeBegins m n → Heads m n → ((c : ℕ) → (62 == c) ≡ false → sees_mark (c ∷ []) n ≡ false) → begins_as_generics l ≡ false → sees_generics l ≡ false
unfolding sees_generics sees_first_param sees_lone_lifetime after_one sees_mark
angle_plain o l m n (is_mark (last_char x)) b g e h =
    let plus = λ (i : sees_lifetime m ≡ true). lone_plus (sees_lifetime m) (second token.sees_plus m) i b.no_lone in
    let last = (second token.sees_colon m && not (second token.sees_path_sep m)) in
    none_of_four (token.sees_gt m) (token.sees_pound m) ((sees_lifetime m || sees_ident m) && (second token.sees_gt m || (second token.sees_comma m || (last || second token.sees_equals m)))) (token.sees_const m) b.no_gt b.no_pound
    (neither (sees_lifetime m) (sees_ident m) _
    (λ i. none_of_four (second token.sees_gt m) (second token.sees_comma m) last (second token.sees_equals m) (plus_alone (after_one m) 62 refl (plus i)) (plus_alone (after_one m) 44 refl (plus i))
    (ap (λ z. z && not (second token.sees_path_sep m)) (plus_alone (after_one m) 58 refl (plus i))) (plus_alone (after_one m) 61 refl (plus i)))
    (λ i. none_of_four (second token.sees_gt m) (second token.sees_comma m) last (second token.sees_equals m) (second_false (sees_ident m) (second token.sees_gt m) i h)
    (second_false (sees_ident m) _ i (g.alone 44 comma_ending (e 44 refl))) (name_colon m n b (e 58 refl) i) (second_false (sees_ident m) _ i (g.alone 61 equals_ending (e 61 refl)))))
    g.no_const

-- ---- by the rules of types, what a predicate's type begins with

module _ {A E : Type 0} (part : Manner → Parts A E) (firsts : Firsts part) where
  pub type_heads : (place : TypePlace) (d : End) (x : TypeTree A E) (l k : Toks) → IsType part clearly place d x l k → Heads l k
  type_heads place d x l k i = let s = type_starts part firsts place d x l k i in record { no_const = starts_no_const part l k s; alone = λ c e h. starts_alone part c l k e h s }

  pub type_goes : (place : TypePlace) (d : End) (x : TypeTree A E) (l k : Toks) → IsType part clearly place d x l k → ends_predicate l ≡ false
  type_goes place d x l k i = starts_go part l k (type_starts part firsts place d x l k i)

  -- over the types within
  pub type_plain : ((d : End) (x : TypeTree A E) (l k : Toks) → (part clearly).ty Plus d x l k → Heads l k) → (place : TypePlace) (d : End) (x : TypeTree A E) (l k : Toks) → IsType part clearly place d x l k → begins_as_generics l ≡ false → sees_generics l ≡ false
  type_plain heads place d x l k i h =
      elim (starts_lt part l k (type_starts part firsts place d x l k i)) [
        | inl n ↦ no_angle l n
        | inr q ↦ angle_plain q.0 l q.3 q.4 q.5 (firsts.ty Plus q.1 q.2 q.3 q.4 q.6).0 (heads q.1 q.2 q.3 q.4 q.6) q.7 h
      ]

-- ---- for trees of at most a height

module _ {A E : Type 0} (attrs : Bool → List A → Toks → Toks → Type 0) (values : SpelledValues E) (firsts : (n : ℕ) → Firsts (spelt_to attrs values n)) where
  pub heads_to : (n : ℕ) (place : TypePlace) (d : End) (x : TypeTree A E) (l k : Toks) → (spelt_to attrs values n clearly).ty place d x l k → Heads l k
  heads_to zero place d x l k i = absurd i
  heads_to (suc n) place d x l k i = type_heads (spelt_to attrs values n) (firsts n) place d x l k i

  pub goes_to : (n : ℕ) (place : TypePlace) (d : End) (x : TypeTree A E) (l k : Toks) → (spelt_to attrs values n clearly).ty place d x l k → ends_predicate l ≡ false
  goes_to zero place d x l k i = absurd i
  goes_to (suc n) place d x l k i = type_goes (spelt_to attrs values n) (firsts n) place d x l k i

  pub plain_to : (n : ℕ) (place : TypePlace) (d : End) (x : TypeTree A E) (l k : Toks) → (spelt_to attrs values n clearly).ty place d x l k → begins_as_generics l ≡ false → sees_generics l ≡ false
  plain_to zero place d x l k i h = absurd i
  plain_to (suc n) place d x l k i h = type_plain (spelt_to attrs values n) (firsts n) (heads_to n Plus) place d x l k i h
