-- No type begins with a `:` that is not the first half of `::`.
use Rattle.std.proofs.Common.{◌≡◌, Bool, true, false, ◌&&◌, ◌==◌, if◌then◌else◌, List, Option, Some, None, is_some, refl, sym, ap, subst}
use Rattle.std.proofs.lemmas.Bool.{eqb-true}
use Rattle.syn_pat.proofs.pat_laws.words.Tokens.{DelimSpan, Span, Delimiter, Parenthesis, Ident, Punct, Spacing, Joint, Word, AreListed, Nowhere, none_left, last_value, value_and_mark, after_one, sees_group, sees_mark, Visible, last_char, more_chars, IsMark, is_mark, IsWord, is_word, Bytes, Toks, done, word, mark, lit, group, enter, leave, punct}
use Rattle.syn_pat.proofs.pat_laws.words.Paths.{Macro, PathStyle, IsCall, a_macro, ModPath, nothing, IsBarePath, a_bare_path, no_leading, leading, last_segment, more_segments}
use Rattle.syn_pat.proofs.pat_laws.words.Types.{IsAnyPath, qualified, unqualified, by_type, by_type_as_path, IsPath, a_path, IsSegment, a_word, a_word_with_arguments, Manner, loosely, End, Parts, IsOptional, absent, present, Path, PathSegment, QSelf, TypeTree}
use Rattle.token_core.specs.declared.mark.Spans.{Spans}
use Rattle.token_core.specs.declared.tree.Spacing.TheVariants.{Alone}
use Rattle.token_core.specs.Lifetimes.{sees_lifetime}
use Rattle.token_core.specs.Reads.{put_first}
use Rattle.token_core.specs.Tokens as token
use Rattle.syn_path.specs.declared.path.PathStyle.TheVariants.{AsWritten}
use Rattle.syn_path.specs.path.Paths.{Sep}
use Rattle.syn_forms.specs.declared.places.TypePlace.{TypePlace}
use Rattle.syn_ty.specs.generics.Bounds.{IsFor}
use Rattle.syn_ty.specs.generics.Spelling.{a_binder}
use Rattle.syn_ty.specs.ty.Admitted.{a_borrow, a_mutable_borrow, a_lifetime_borrow, bracketed, counted, enclosed, a_pointer, no_element, some_elements, IsType, a_path_type, a_macro, a_bound_macro, an_object_with_dyn, an_object_without_dyn, an_impl_type, a_fn_type, a_ptr_type, a_reference_type, a_paren_type, a_tuple_type, a_slice_type, an_array_type, an_infer_type, a_never_type, a_verbatim_type, IsVerbatimType, an_unsafe_binder, a_dyn_star, a_builtin}
use Rattle.syn_ty.specs.ty.Functions.{a_fn_ptr, an_abi}
use Rattle.syn_ty.specs.ty.Objects.{IsFirst, a_first, a_first_for, a_dyn, an_impl, path_alone, path_and_plus, held_and_plus, asked_first, asked_in_two, lifetime_first}
use Rattle.syn_ty.specs.ty.Parts.{is_clear}
use Rattle.syn_ty.specs.ty.Spelling.{an_infer, a_never}
use Rattle.syn_ty.specs.ty.Trees.{BoundLifetimes}
use Rattle.syn_pat.proofs.pat_laws.sound.Within.{and_second, chosen_some, sees_called, Stops}

-- a `:` there is the first half of `::`
abbrev pub Starts : Toks → Type 0
Starts l = token.sees_colon l ≡ true → token.sees_path_sep l ≡ true

text_starts : (i : Ident) (k : Toks) → Starts (word i k)
unfolding sees_mark
text_starts i k h = cc h

group_starts : (d : Delimiter) (s : DelimSpan) (c k : Toks) → Starts (group d s c k)
unfolding sees_mark
group_starts d s c k h = cc h

word_starts : {n : _} (w : Word n) (l k : Toks) → IsWord w l k → Starts l
unfolding sees_mark
word_starts w l k is_word h = cc h

quote_starts : (p : Punct) (k : Toks) → p.ch ≡ 39 → token.sees_colon (mark p k) ≡ false
unfolding sees_mark
quote_starts p k h = ap (λ c. token.sees_colon (mark (punct c p.spacing p.span) k)) h

quote_char : (p : Punct) (k : Toks) → sees_lifetime (mark p k) ≡ true → p.ch ≡ 39
unfolding sees_lifetime
quote_char p k h = eqb-true p.ch 39 (chosen_some (p.ch == 39) _ h)

never_both : {Q : Type 0} (b : Bool) → b ≡ false → b ≡ true → Q
never_both true h g = cc h
never_both false h g = cc g

lifetime_starts : (l : Toks) → sees_lifetime l ≡ true → Starts l
unfolding sees_lifetime sees_mark
lifetime_starts done h g = cc g
lifetime_starts (word i k) h g = cc g
lifetime_starts (mark p k) h g = never_both (token.sees_colon (mark p k)) (quote_starts p k (quote_char p k h)) g
lifetime_starts (lit x k) h g = cc g
lifetime_starts (group d s c k) h g = cc g
lifetime_starts (enter s k) h g = lifetime_starts k h g
lifetime_starts (leave k) h g = lifetime_starts k h g

module _ (clear : Bool) where
  sep_starts : (c : Sep) (l k : Toks) → IsMark clear c l k → Starts l
  unfolding sees_mark
  sep_starts c l k (is_mark (more_chars (last_char a))) h = refl

  lt_starts : (c : token.Lt) (l k : Toks) → IsMark clear c l k → Starts l
  unfolding sees_mark
  lt_starts c l k (is_mark (last_char a)) h = cc h

  star_starts : (c : token.Star) (l k : Toks) → IsMark clear c l k → Starts l
  unfolding sees_mark
  star_starts c l k (is_mark (last_char a)) h = cc h

  and_starts : (c : token.And) (l k : Toks) → IsMark clear c l k → Starts l
  unfolding sees_mark
  and_starts c l k (is_mark (last_char a)) h = cc h

  bang_starts : (c : token.Bang) (l k : Toks) → IsMark clear c l k → Starts l
  unfolding sees_mark
  bang_starts c l k (is_mark (last_char a)) h = cc h

  sep_or : (c : Option Sep) (l m : Toks) → IsOptional (IsMark clear) c l m → Starts m → Starts l
  sep_or c l m absent h = h
  sep_or c l m (present {a = a} i) h = sep_starts a l m i

  bare_starts : (ok : Bytes → Bool) (p : ModPath) (l k : Toks) → IsBarePath clear ok nothing p l k → Starts l
  unfolding sees_mark
  bare_starts ok p l k (a_bare_path no_leading (last_segment {i = i} h)) = text_starts i k
  bare_starts ok p l k (a_bare_path no_leading (more_segments {i = i} {a = x} {b = y} {j = j} {l = m} h a n)) = text_starts i (mark (punct token.colon_char Joint x) (mark (punct token.colon_char j y) m))
  bare_starts ok p l k (a_bare_path (leading a) j) = λ h. refl

  call_starts : (ok : Bytes → Bool) (x : Macro) (l k : Toks) → IsCall clear ok x l k → Starts l
  call_starts ok x l k (a_macro {p = p} i b d t) = bare_starts ok p l _ i

module _ {A E : Type 0} (part : Manner → Parts A E) (how : Manner) where
  segment_starts : (style : PathStyle) (x : PathSegment A E) (l k : Toks) → IsSegment part how style x l k → Starts l
  segment_starts style x l k (a_word {i = i} h) = text_starts i k
  segment_starts style x l k (a_word_with_arguments {i = i} {l = m} h g j) = text_starts i m

  segments_start : (style : PathStyle) (b : Bool) (xs : List (PathSegment A E)) (cs : List Sep) (l k : Toks) → AreListed (λ (_ : Bool). IsSegment part how style) (IsMark (is_clear how)) Nowhere b xs cs l k → Starts l
  segments_start style b xs cs l k (none_left h) = absurd h
  segments_start style b xs cs l k (last_value {x = x} i) = segment_starts style x l k i
  segments_start style b xs cs l k (value_and_mark {x = x} {m = m} i j rest) = segment_starts style x l m i

  path_starts : (style : PathStyle) (p : Path A E) (l k : Toks) → IsPath part how style p l k → Starts l
  path_starts style p l k (a_path {c = c} {xs = xs} {cs = cs} {m = m} o i) = sep_or (is_clear how) c l m o (segments_start style true xs cs m k i)

  any_starts : (style : PathStyle) (q : Option (QSelf A E)) (p : Path A E) (l k : Toks) → IsAnyPath part how style q p l k → Starts l
  any_starts style q p l k (unqualified i) = path_starts style p l k i
  any_starts style q p l k (qualified (by_type {o = o} {m = m} a b c d e)) = lt_starts (is_clear how) o l m a
  any_starts style q p l k (qualified (by_type_as_path {o = o} {m = m} a b c d e f g h)) = lt_starts (is_clear how) o l m a

  for_starts : (x : BoundLifetimes A E) (l k : Toks) → IsFor part how x l k → Starts l
  for_starts x l k (a_binder {f = f} {m = m} i a b c) = word_starts f l m i

  for_or : (x : Option (BoundLifetimes A E)) (l m : Toks) → IsOptional (IsFor part how) x l m → Starts m → Starts l
  for_or x l m absent h = h
  for_or x l m (present {a = a} i) h = for_starts a l m i

  first_starts : (o : Option (BoundLifetimes A E)) (p : Path A E) (l k : Toks) → IsFirst part how o p l k → Starts l
  first_starts o p l k (a_first i h) = path_starts AsWritten p l k i
  first_starts o p l k (a_first_for {x = x} {m = m} i j h g) = for_starts x l m i

  verbatim_starts : (place : TypePlace) (e : End) (l k : Toks) → IsVerbatimType part how place e l k → Starts l
  verbatim_starts place e l k (an_unsafe_binder {b = b} {u = u} {m = m} {n = n} o i c d f t) = for_or b l m o (word_starts u m n i)
  verbatim_starts place e l k (a_dyn_star {w = w} {m = m} i c d) = word_starts w l m i
  verbatim_starts place e l k (a_builtin {b = b} {w = w} {m = m} o f c g) = for_or b l (word w m) o (text_starts w m)

module _ {A E : Type 0} (part : Manner → Parts A E) (place : TypePlace) where
  word_or : {n : _} (w : Option (Word n)) (l m : Toks) → IsOptional IsWord w l m → Starts m → Starts l
  word_or w l m absent h = h
  word_or w l m (present {a = a} i) h = word_starts a l m i

  pub type_starts : (e : End) (x : TypeTree A E) (l k : Toks) → IsType part loosely place e x l k → Starts l
  type_starts e x l k (a_path_type {o = o} {p = p} i) = any_starts part loosely AsWritten o p l k i.0
  type_starts e x l k (a_macro {x = y} i) = call_starts false _ y l k i.0
  type_starts e x l k (a_bound_macro {b = b} {m = m} i j h) = for_starts part loosely b l m i
  type_starts e x l k (an_object_with_dyn (a_dyn {w = w} {m = m} i j)) = word_starts w l m i
  type_starts e x l k (an_object_without_dyn (path_alone {x = y} {p = p} i)) = first_starts part loosely (Some y) p l k i
  type_starts e x l k (an_object_without_dyn (path_and_plus {o = o} {p = p} {m = m} h i j rest)) = first_starts part loosely o p l m i
  type_starts e x l k (an_object_without_dyn (held_and_plus {s = s} {c = c} {m = m} h i j rest)) = group_starts Parenthesis s c m
  type_starts e x l k (an_object_without_dyn (asked_first {s = s} {c = c} {m = m} i rest)) = group_starts Parenthesis s c m
  type_starts e x l k (an_object_without_dyn (asked_in_two {s = s} {i = i} {c = c} {m = m} h a j rest)) = group_starts Parenthesis s (group Parenthesis i c done) m
  type_starts e x l k (an_object_without_dyn (lifetime_first h i f)) = lifetime_starts l h
  type_starts e x l k (an_impl_type (an_impl {w = w} {m = m} i j h)) = word_starts w l m i
  type_starts e x l k (a_fn_type (a_fn_ptr {b = b} {u = u} {w = w} {s = s} {l = z} {m = m} {n = n} {c = c} {j = j} o f absent i v r)) = for_or part loosely b l m o (word_or u m n f (word_starts w n (group Parenthesis s c j) i))
  type_starts e x l k (a_fn_type (a_fn_ptr {b = b} {u = u} {l = z} {m = m} {n = n} o f (present (an_abi {w = a} {m = y} g q)) i v r)) = for_or part loosely b l m o (word_or u m n f (word_starts a n y g))
  type_starts e x l k (a_ptr_type (a_pointer {s = s} {m = m} i j h)) = star_starts false s l m i
  type_starts e x l k (a_reference_type (a_borrow {a = a} {m = m} i h j)) = and_starts false a l m i
  type_starts e x l k (a_reference_type (a_mutable_borrow {a = a} {m = m} i h j)) = and_starts false a l m i
  type_starts e x l k (a_reference_type (a_lifetime_borrow {a = a} {m = m} i h j f)) = and_starts false a l m i
  type_starts e x l k (a_paren_type (enclosed {s = s} {c = c} i)) = group_starts Parenthesis s c k
  type_starts e x l k (a_tuple_type (no_element {s = s})) = group_starts Parenthesis s done k
  type_starts e x l k (a_tuple_type (some_elements {s = s} {c = c} b i j rest)) = group_starts Parenthesis s c k
  type_starts e x l k (a_slice_type (bracketed {s = s} {c = c} i)) = group_starts _ s c k
  type_starts e x l k (an_array_type (counted {s = s} {c = c} i j h)) = group_starts _ s c k
  type_starts e x l k (an_infer_type (an_infer {w = w} i)) = word_starts w l k i
  type_starts e x l k (a_never_type (a_never {b = b} i)) = bang_starts false b l k i
  type_starts e x l k (a_verbatim_type {t = t} i) = verbatim_starts part loosely place e l k i.0

-- ---- a `:` that is read from a `::` before parentheses leaves a lone one

group_after : (j : Spacing) (b : Span) (k : Toks) → Visible k → sees_group Parenthesis k ≡ true → token.sees_path_sep (mark (punct 58 j b) k) ≡ false
unfolding sees_mark sees_group
group_after j b done v h = cc h
group_after j b (word i k) v h = cc h
group_after j b (mark p k) v h = cc h
group_after j b (lit x k) v h = cc h
group_after Joint b (group d s c k) v h = refl
group_after Alone b (group d s c k) v h = refl
group_after j b (enter s k) v h = absurd v
group_after j b (leave k) v h = absurd v

first_char : (a : Span) (b c : Bool) (x : Spans × Toks) → is_some (put_first a (if b then Some x else None)) && c ≡ true → b ≡ true
first_char a true c x h = refl
first_char a false c x h = cc h

second_char : (a : Span) (q : Punct) (k : Toks) → sees_called (mark (punct 58 Joint a) (mark q k)) ≡ true → q.ch ≡ 58
unfolding sees_mark
second_char a q k h = eqb-true q.ch 58 (first_char a (q.ch == 58) _ _ h)

group_second : (a : Span) (j : Spacing) (b : Span) (k : Toks) → sees_called (mark (punct 58 Joint a) (mark (punct 58 j b) k)) ≡ true → sees_group Parenthesis k ≡ true
unfolding after_one
group_second a j b k h = and_second _ _ h

colon_seen : (j : Spacing) (b : Span) (k : Toks) → token.sees_colon (mark (punct 58 j b) k) ≡ true
unfolding sees_mark
colon_seen j b k = refl

abbrev Lone : Toks → Type 0
Lone l = (token.sees_colon l ≡ true) × (token.sees_path_sep l ≡ false)

lone_second : (a : Span) (q : Punct) (k : Toks) → Visible k → sees_called (mark (punct 58 Joint a) (mark q k)) ≡ true → Lone (mark q k)
lone_second a q k v h =
    let same : mark q k ≡ mark (punct 58 q.spacing q.span) k = ap (λ c. mark (punct c q.spacing q.span) k) (second_char a q k h) in
    let e = subst (λ z. sees_called (mark (punct 58 Joint a) z) ≡ true) same h in
    subst (λ z. Lone z) (sym same) (colon_seen q.spacing q.span k, group_after q.spacing q.span k v (group_second a q.spacing q.span k e))

lone_after : (j : Spacing) (a : Span) (l : Toks) → Visible l → sees_called (mark (punct 58 j a) l) ≡ true → Lone l
unfolding sees_mark
lone_after Alone a l v h = cc h
lone_after Joint a done v h = cc h
lone_after Joint a (word i k) v h = cc h
lone_after Joint a (mark q k) v h = lone_second a q k v h
lone_after Joint a (lit x k) v h = cc h
lone_after Joint a (group d s c k) v h = cc h
lone_after Joint a (enter s k) v h = absurd v
lone_after Joint a (leave k) v h = absurd v

-- a pattern stops before a `:` that a type follows
not_called : (b : Bool) → (b ≡ true → ⊥) → b ≡ false
not_called true h = absurd (h refl)
not_called false h = refl

pub colon_stops : (c : token.Colon) (l m : Toks) → Visible m → IsMark false c l m → Starts m → Stops l
unfolding sees_mark
colon_stops c l m v (is_mark (last_char {a = a} {j = j} h)) f =
    (not_called (sees_called (mark (punct 58 j a) m)) (λ e. let i = lone_after j a m v e in never_both (token.sees_path_sep m) i.1 (f i.0)), refl)
