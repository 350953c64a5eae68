-- What bounds begin with, and that fewer tokens are left after them: over the same of what they hold.
use Rattle.std.proofs.Common.{◌≡◌, ◌&&◌, ℕ, Bool, true, false, List, Option, refl, ap}
use Rattle.syn_ty.proofs.ty_laws.words.Tokens.{Lifetime, DelimSpan, Span, Parenthesis, Bracket, Ident, Spacing, Joint, Word, sees_lifetime, AreListed, Nowhere, none_left, last_value, value_and_mark, is_done, sees_group, sees_mark, sees_word, last_char, more_chars, IsMark, is_mark, IsWord, is_word, IsLifetime, is_lifetime, Bytes, Toks, word, mark, group, punct}
use Rattle.syn_ty.proofs.ty_laws.words.Paths.{AsWritten, Sep}
use Rattle.syn_ty.proofs.ty_laws.words.Forms.{BoundPlace, TypePlace, NoPlus, sees_bound, allows_const}
use Rattle.syn_ty.proofs.ty_laws.words.Types.{CapturedParam, PreciseCapture, TraitBoundModifiers, IsCaptured, a_lifetime_captured, a_name_captured, IsCapture, a_capture, AreModifiers, IsFor, IsTrait, a_trait, a_trait_for, a_trait_asked, IsTraitBound, a_trait_bound, IsBound, a_lifetime_bound, a_bare_bound, a_bound_in_parens, a_capture_bound, AreBounds, no_bounds, last_plus, last_bound, bound_and_plus, a_binder, IsReturn, no_output, an_output, IsParens, a_parens, IsDropped, nothing_dropped, a_sep_dropped, a_pair_dropped, IsSigned, a_signed, AreSigned, signed_last, signed_after, IsBoundPath, without_parens, with_parens, IsSegment, a_word, a_word_with_arguments, IsPath, a_path, Manner, clearly, End, Parts, is_trait, IsOptional, absent, present, BoundLifetimes, Parenthesized, Path, PathSegment, ReturnType, TraitBound, TypeParamBound}
use Rattle.token_core.specs.Tokens as token
use Rattle.syn_ty.proofs.ty_laws.complete.FirstPaths.{Starts, path_less, segment_less, word_bound, sep_bound}
use Rattle.syn_ty.proofs.ty_laws.Kinds as kinds
use Rattle.syn_ty.proofs.ty_laws.complete.Modifiers.{modifiers_begin, modifiers_no}
use Rattle.syn_ty.proofs.ty_laws.complete.Named.{for_less}
use Rattle.syn_ty.proofs.ty_laws.complete.Less.{same, some, no_no, no_less, less_no, less_less, word_less, group_less, mark_no, lifetime_takes, optional_no, listed_no}
use Rattle.syn_ty.proofs.ty_laws.complete.Within.{BoundBegins, Less, NoMore}

-- ---- the first token of a bound that is no lifetime

pub data BoundStarts (place : BoundPlace) : Toks → Type 0 where
  at_word : {i : Ident} {m : Toks} → BoundStarts place (word i m)
  at_sep : {a b : Span} {j : Spacing} {m : Toks} → BoundStarts place (mark (punct 58 Joint a) (mark (punct 58 j b) m))
  at_question : {a : Span} {j : Spacing} {m : Toks} → BoundStarts place (mark (punct 63 j a) m)
  at_paren : {s : DelimSpan} {c m : Toks} → BoundStarts place (group Parenthesis s c m)
  -- where `const` forms may stand
  at_bracket : {s : DelimSpan} {c m : Toks} → allows_const place ≡ true → BoundStarts place (group Bracket s c m)

pub bound_begins : (place : BoundPlace) (l : Toks) → BoundStarts place l → BoundBegins place l
unfolding is_done sees_mark sees_word sees_group sees_lifetime sees_bound
bound_begins place l (at_word {i = i} {m = m}) = word_bound place i m
bound_begins place l (at_sep {a = a} {b = b} {j = j} {m = m}) = sep_bound place a b j m
bound_begins place l at_question = record { there = refl; sees = refl; no_comma = refl; no_gt = refl; no_equals = refl; no_semi = refl; no_brace = refl; no_colon = refl }
bound_begins place l at_paren = record { there = refl; sees = refl; no_comma = refl; no_gt = refl; no_equals = refl; no_semi = refl; no_brace = refl; no_colon = refl }
bound_begins place l (at_bracket h) = record { there = refl; sees = ap (λ b. b && true) h; no_comma = refl; no_gt = refl; no_equals = refl; no_semi = refl; no_brace = refl; no_colon = refl }

no_life : (place : BoundPlace) (l : Toks) → BoundStarts place l → sees_lifetime l ≡ false
unfolding sees_lifetime
no_life place l at_word = refl
no_life place l at_sep = refl
no_life place l at_question = refl
no_life place l at_paren = refl
no_life place l (at_bracket h) = refl

lifetime_begins : (place : BoundPlace) (x : Lifetime) (l k : Toks) → IsLifetime x l k → BoundBegins place l
unfolding is_done sees_mark sees_word sees_group sees_lifetime sees_bound
lifetime_begins place x l k is_lifetime = record { there = refl; sees = refl; no_comma = refl; no_gt = refl; no_equals = refl; no_semi = refl; no_brace = refl; no_colon = refl }

-- ---- captures

captured_less : (x : CapturedParam) (l k : Toks) → IsCaptured x l k → Less l k
captured_less x l k (a_lifetime_captured {x = y} i) = lifetime_takes y l k i
captured_less x l k (a_name_captured {i = i} h) = word_less i k

capture_starts : (place : BoundPlace) (x : PreciseCapture) (l k : Toks) → IsCapture true x l k → BoundStarts place l × Less l k
capture_starts place x l k (a_capture {o = o} {xs = xs} {cs = cs} {g = g} {m = m} {n = n} {k = j} is_word d v e) =
    (at_word, less_no (word_less _ m) (no_no (mark_no o m n d) (no_no (listed_no (λ b. captured_less) mark_no true xs cs n j v) (mark_no g j k e))))

question_starts : (place : BoundPlace) (q : token.Question) (l k : Toks) → IsMark true q l k → BoundStarts place l
question_starts place q l k (is_mark (last_char y)) = at_question

-- ---- modifiers

modifiers_start : (place : BoundPlace) (x : TraitBoundModifiers) (l k : Toks) → AreModifiers (allows_const place) x l k → BoundStarts place k → BoundStarts place l
modifiers_start place = modifiers_begin (allows_const place) (BoundStarts place) word_start (λ s c k h. at_bracket h) word_start
  where
    word_start : {n : ℕ} (w : Word n) (l k : Toks) → IsWord w l k → BoundStarts place l
    word_start w l k is_word = at_word

-- ---- over what they hold

module _ {A E : Type 0} {part : Manner → Parts A E} (s : Starts part) where
  -- ---- arguments in parentheses

  pub return_no : (p : TypePlace) (e : End) (o : ReturnType A E) (l k : Toks) → IsReturn part clearly p e o l k → NoMore l k
  return_no p e o l k no_output = same
  return_no p e o l k (an_output {c = c} {x = x} {m = m} i t) = no_no (mark_no c l m i) (some (s.firsts.ty p e x m k t).1)

  parens_less : (e : End) (x : Parenthesized A E) (l k : Toks) → IsParens part clearly e x l k → Less l k
  parens_less e x l k (a_parens {s = a} {o = o} {c = c} {m = m} i t) = less_no (group_less Parenthesis a c m) (return_no NoPlus e o m k t)

  dropped_no : (t : Bytes) (l k : Toks) → IsDropped part clearly t l k → NoMore l k
  dropped_no t l k nothing_dropped = same
  dropped_no t l k (a_sep_dropped {c = c} i) = mark_no c l k i
  dropped_no t l k (a_pair_dropped {b = b} {c = c} {o = o} {g = g} {m = m} {n = n} {k = j} h i d e f) = no_no (optional_no mark_no b l m i) (no_no (mark_no o m n d) (no_no (mark_no g n j e) (optional_no mark_no c j k f)))

  -- ---- the path of a trait bound

  module _ (place : BoundPlace) where
    leading_starts : (c : Option Sep) (l m : Toks) → IsOptional (IsMark true) c l m → BoundStarts place m → BoundStarts place l
    leading_starts c l m absent w = w
    leading_starts c l m (present (is_mark (more_chars (last_char x)))) w = at_sep

    segment_bound : (x : PathSegment A E) (l k : Toks) → IsSegment part clearly AsWritten x l k → BoundStarts place l
    segment_bound x l k (a_word h) = at_word
    segment_bound x l k (a_word_with_arguments h t i) = at_word

    segments_bound : (b : Bool) (xs : List (PathSegment A E)) (cs : List Sep) (l k : Toks) → AreListed (λ (_ : Bool). IsSegment part clearly AsWritten) (IsMark true) Nowhere b xs cs l k → BoundStarts place l
    segments_bound b xs cs l k (none_left e) = absurd e
    segments_bound b xs cs l k (last_value {x = x} i) = segment_bound x l k i
    segments_bound b xs cs l k (value_and_mark {x = x} {m = m} i j t) = segment_bound x l m i

    signed_starts : (e : End) (xs : List (PathSegment A E)) (cs : List Sep) (l k : Toks) → AreSigned part clearly e xs cs l k → BoundStarts place l
    signed_starts e xs cs l k (signed_last (a_signed h d i)) = at_word
    signed_starts e xs cs l k (signed_after {s = x} {m = m} i j t) = segment_bound x l m i

    path_bound : (x : Path A E) (l k : Toks) → IsPath part clearly AsWritten x l k → BoundStarts place l
    path_bound x l k (a_path {c = c} {xs = xs} {cs = cs} {m = m} i n) = leading_starts c l m i (segments_bound true xs cs m k n)

    bound_path_starts : (e : End) (x : Path A E) (l k : Toks) → IsBoundPath part clearly e x l k → BoundStarts place l
    bound_path_starts e x l k (without_parens i) = path_bound x l k i
    bound_path_starts e x l k (with_parens {c = c} {xs = xs} {cs = cs} {m = m} i n) = leading_starts c l m i (signed_starts e xs cs m k n)

  signed_less : (e : End) (x : PathSegment A E) (l k : Toks) → IsSigned part clearly e x l k → Less l k
  signed_less e x l k (a_signed {i = i} {x = y} {l = m} {m = n} h d j) = less_less (word_less i m) (no_less (dropped_no i.text m n d) (parens_less e y n k j))

  are_signed_less : (e : End) (xs : List (PathSegment A E)) (cs : List Sep) (l k : Toks) → AreSigned part clearly e xs cs l k → Less l k
  are_signed_less e xs cs l k (signed_last {s = x} i) = signed_less e x l k i
  are_signed_less e xs cs l k (signed_after {s = x} {c = c} {xs = ys} {cs = ds} {m = m} {k = n} i j t) = less_no (segment_less s AsWritten x l m i) (no_no (mark_no c m n j) (some (are_signed_less e ys ds n k t)))

  pub bound_path_less : (e : End) (x : Path A E) (l k : Toks) → IsBoundPath part clearly e x l k → Less l k
  bound_path_less e x l k (without_parens i) = path_less s AsWritten x l k i
  bound_path_less e x l k (with_parens {c = c} {xs = xs} {cs = cs} {m = m} i n) = no_less (optional_no mark_no c l m i) (are_signed_less e xs cs m k n)

  -- ---- binders

  binder_starts : (place : BoundPlace) (x : BoundLifetimes A E) (l k : Toks) → IsFor part clearly x l k → BoundStarts place l
  binder_starts place x l k (a_binder is_word d v e) = at_word

  -- ---- trait bounds

  trait_starts : (place : BoundPlace) (e : End) (o : Option (BoundLifetimes A E)) (y : TraitBoundModifiers) (q : Option token.Question) (p : Path A E) (l k : Toks) → IsTrait part clearly (allows_const place) e o y q p l k → BoundStarts place l × Less l k
  trait_starts place e o y q p l k (a_trait {m = m} j i) = (modifiers_start place y l m j (bound_path_starts place e p m k i), no_less (modifiers_no (allows_const place) y l m j) (bound_path_less e p m k i))
  trait_starts place e o y q p l k (a_trait_for {o = x} {m = m} {n = n} b j i) =
      (binder_starts place x l m b, less_less (for_less part s.firsts x l m b) (no_less (modifiers_no (allows_const place) y m n j) (bound_path_less e p n k i)))
  trait_starts place e o y q p l k (a_trait_asked {q = x} {m = m} {n = n} j h i) =
      (modifiers_start place y l m j (question_starts place x m n h), no_less (modifiers_no (allows_const place) y l m j) (no_less (mark_no x m n h) (bound_path_less e p n k i)))

  trait_bound_starts : (place : BoundPlace) (e : End) (x : TraitBound A E) (l k : Toks) → IsTraitBound part clearly (allows_const place) e x l k → BoundStarts place l × Less l k
  trait_bound_starts place e x l k (a_trait_bound {o = o} {x = y} {q = q} {p = p} i) = trait_starts place e o y q p l k i

  -- ---- bounds in a place

  pub bound_starts : (place : BoundPlace) (e : End) (x : TypeParamBound A E) (l k : Toks) → IsBound part clearly place e x l k → BoundBegins place l × Less l k
  bound_starts place e x l k (a_lifetime_bound {x = y} i) = (lifetime_begins place y l k i, lifetime_takes y l k i)
  bound_starts place e x l k (a_bare_bound {x = y} i) = let h = trait_bound_starts place e y l k i in (bound_begins place l h.0, h.1)
  bound_starts place e x l k (a_bound_in_parens {s = a} {c = c} i) = (bound_begins place l at_paren, group_less Parenthesis a c k)
  bound_starts place e x l k (a_capture_bound {x = y} h i) = let g = capture_starts place y l k i in (bound_begins place l g.0, g.1)

  -- one that begins with a lifetime
  abbrev IsLife : TypeParamBound A E → Toks → Toks → Type 0
  IsLife x l k = (is_trait x ≡ false) × (y : Lifetime) × IsLifetime y l k

  not_life : (place : BoundPlace) (x : TypeParamBound A E) (l k : Toks) → BoundStarts place l → sees_lifetime l ≡ true → IsLife x l k
  not_life place x l k h g = let n = no_life place l h in cc

  pub bound_life : (place : BoundPlace) (e : End) (x : TypeParamBound A E) (l k : Toks) → IsBound part clearly place e x l k → sees_lifetime l ≡ true → IsLife x l k
  bound_life place e x l k (a_lifetime_bound {x = y} i) h = (kinds.trait-Lifetime A E y, y, i)
  bound_life place e x l k (a_bare_bound {x = y} i) h = not_life place x l k (trait_bound_starts place e y l k i).0 h
  bound_life place e x l k (a_bound_in_parens i) h = not_life place x l k at_paren h
  bound_life place e x l k (a_capture_bound {x = y} g i) h = not_life place x l k (capture_starts place y l k i).0 h

  -- ---- bounds joined by `+`

  module _ {place : BoundPlace} {Ends : Bool → Type 0} where
    pub bounds_no : (b : Bool) (e : End) (xs : List (TypeParamBound A E)) (ps : List token.Plus) (l k : Toks) → AreBounds part clearly place Ends b e xs ps l k → NoMore l k
    bounds_no b e xs ps l k (no_bounds h) = same
    bounds_no b e xs ps l k (last_plus h) = same
    bounds_no b e xs ps l k (last_bound {e = d} {x = x} i) = some (s.firsts.bound place d x l k i).1
    bounds_no b e xs ps l k (bound_and_plus {e = d} {f = f} {x = x} {p = p} {xs = ys} {ps = qs} {m = m} {k = n} i o j t) = no_no (some (s.firsts.bound place d x l m i).1) (no_no (mark_no p m n j) (bounds_no false f ys qs n k t))

    -- where one is there
    pub bounds_start : (b : Bool) → (Ends b → ⊥) → (e : End) (xs : List (TypeParamBound A E)) (ps : List token.Plus) (l k : Toks) → AreBounds part clearly place Ends b e xs ps l k → BoundBegins place l × Less l k
    bounds_start b never e xs ps l k (no_bounds h) = absurd (never h)
    bounds_start b never e xs ps l k (last_plus h) = absurd (never h)
    bounds_start b never e xs ps l k (last_bound {e = d} {x = x} i) = s.firsts.bound place d x l k i
    bounds_start b never e xs ps l k (bound_and_plus {e = d} {f = f} {x = x} {p = p} {xs = ys} {ps = qs} {m = m} {k = n} i o j t) =
        let h = s.firsts.bound place d x l m i in
        (h.0, less_no h.1 (no_no (mark_no p m n j) (bounds_no false f ys qs n k t)))
