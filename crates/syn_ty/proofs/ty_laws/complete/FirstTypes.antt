-- What types begin with, and that fewer tokens are left after them: over the same of what they hold.
use Rattle.std.specs.List.{list_any}
use Rattle.std.proofs.Common.{◌≡◌, true, false, List, [], ◌∷◌, Option, refl, ap}
use Rattle.std.proofs.lemmas.Bool.{or_from}
use Rattle.std.proofs.lemmas.Slice.Eq.{bytes_eq-Decides}
use Rattle.syn_ty.proofs.ty_laws.words.Tokens.{Lifetime, LitStr, DelimSpan, Span, Delimiter, Parenthesis, Brace, Ident, Spacing, is_keyword, sees_lifetime, AfterMark, sees_lit, Many, after_one, builtin_text, is_done, is_text, sees_group, sees_mark, sees_word, last_char, IsMark, is_mark, IsWord, is_word, IsLifetime, is_lifetime, IsStr, Toks, done, word, mark, group, punct}
use Rattle.syn_ty.proofs.ty_laws.words.Paths.{AsWritten}
use Rattle.syn_ty.proofs.ty_laws.words.Forms.{BoundPlace, Object, Opaque, TypePlace, NoPlus, sees_name}
use Rattle.syn_ty.proofs.ty_laws.words.Types.{Abi, IsFor, AreBounds, no_bounds, last_bound, bound_and_plus, a_binder, sees_const, sees_lone_lifetime, is_segment_word, IsPointer, a_pointer, IsBorrow, a_borrow, a_mutable_borrow, a_lifetime_borrow, IsVerbatimType, an_unsafe_binder, a_dyn_star, a_builtin, IsAbi, an_abi, IsFnPtr, a_fn_ptr, IsBoundList, several_bounds, one_bound, AreObjectBounds, object_bounds, IsDyn, a_dyn, IsImpl, an_impl, IsFirst, a_first, a_first_for, AreFurther, none_further, some_further, AreBareBounds, path_alone, path_and_plus, held_and_plus, asked_first, asked_in_two, lifetime_first, Manner, clearly, End, Parts, is_trait, last_place, IsOptional, absent, present, BoundLifetimes, Path, TypeFnPtr, TypeImplTrait, TypeParamBound, TypePtr, TypeReference, TypeTraitObject}
use Rattle.token_core.specs.Reads.{same_delimiter}
use Rattle.token_core.specs.Spellings.{a_str}
use Rattle.token_core.specs.Tokens as token
use Rattle.syn_ty.specs.ty.Types.{Underscore}
use Rattle.syn_ty.proofs.ty_laws.complete.FirstBounds.{bounds_no, bounds_start, return_no}
use Rattle.syn_ty.proofs.ty_laws.complete.Named.{for_less}
use Rattle.syn_ty.proofs.ty_laws.complete.FirstPaths.{NoColon, Starts, lt_no_colon, path_less, path_starts, path_type, segment_no_lit, segment_no_mut, starts_on, unnamed, unseen_colon, word_starts}
use Rattle.syn_ty.proofs.ty_laws.complete.Less.{same, some, no_no, no_less, less_no, less_less, word_less, mark_less, group_less, mark_no, word_takes, lifetime_takes, mutability_takes, str_takes, optional_no, listed_no}
use Rattle.syn_ty.proofs.ty_laws.complete.Within.{BoundBegins, Less, NoMore, TypeBegins}

-- ---- types that begin with a mark or a group

star_starts : (j : Spacing) (a : Span) (m k : Toks) → TypeBegins (mark (punct 42 j a) m) k
unfolding is_done sees_mark sees_word sees_lit sees_const sees_group sees_lone_lifetime sees_lifetime sees_name
star_starts j a m k = record { there = refl; no_gt = refl; no_mut = refl; no_pound = refl; no_dots = refl; no_const = refl; no_lone = refl; no_name = λ q. unnamed (mark (punct 42 j a) m) refl refl }

and_starts : (j : Spacing) (a : Span) (m k : Toks) → TypeBegins (mark (punct 38 j a) m) k
unfolding is_done sees_mark sees_word sees_lit sees_const sees_group sees_lone_lifetime sees_lifetime sees_name
and_starts j a m k = record { there = refl; no_gt = refl; no_mut = refl; no_pound = refl; no_dots = refl; no_const = refl; no_lone = refl; no_name = λ q. unnamed (mark (punct 38 j a) m) refl refl }

pub bang_starts : (j : Spacing) (a : Span) (m k : Toks) → TypeBegins (mark (punct 33 j a) m) k
unfolding is_done sees_mark sees_word sees_lit sees_const sees_group sees_lone_lifetime sees_lifetime sees_name
bang_starts j a m k = record { there = refl; no_gt = refl; no_mut = refl; no_pound = refl; no_dots = refl; no_const = refl; no_lone = refl; no_name = λ q. unnamed (mark (punct 33 j a) m) refl refl }

pub group_starts : (d : Delimiter) → same_delimiter d Brace ≡ false → (s : DelimSpan) (c m k : Toks) → TypeBegins (group d s c m) k
unfolding is_done sees_mark sees_word sees_lit sees_const sees_group sees_lone_lifetime sees_lifetime sees_name
group_starts d h s c m k = record { there = refl; no_gt = refl; no_mut = refl; no_pound = refl; no_dots = refl; no_const = h; no_lone = refl; no_name = λ q. unnamed (group d s c m) refl refl }

-- a lifetime before a `+`
lifetime_starts : (y : Lifetime) (p : token.Plus) (l m n k : Toks) → IsLifetime y l m → IsMark true p m n → TypeBegins l k
unfolding is_done sees_mark sees_word sees_lit sees_const sees_group sees_lone_lifetime sees_lifetime sees_name after_one
lifetime_starts y p l m n k is_lifetime (is_mark (last_char x)) = record { there = refl; no_gt = refl; no_mut = refl; no_pound = refl; no_dots = refl; no_const = refl; no_lone = refl; no_name = λ q. unnamed l refl refl }

-- ---- types that begin with a keyword, whatever follows them

record Keyed (l : Toks) : Type 0 where
  apart : NoColon l
  starts : (k : Toks) → TypeBegins l k

key_starts : (i : Ident) (m : Toks) → token.sees_mut (word i m) ≡ false → sees_lit (word i m) ≡ false → NoColon m → Keyed (word i m)
unfolding sees_mark
key_starts i m h g n = record { apart = refl; starts = λ k. word_starts i m k h g (λ f. n) }

fn_keyed : (w : token.Fn) (l m : Toks) → IsWord w l m → NoColon m → Keyed l
unfolding sees_word sees_lit
fn_keyed w l m is_word n = key_starts _ m refl refl n

unsafe_keyed : (w : token.Unsafe) (l m : Toks) → IsWord w l m → NoColon m → Keyed l
unfolding sees_word sees_lit
unsafe_keyed w l m is_word n = key_starts _ m refl refl n

dyn_keyed : (w : token.Dyn) (l m : Toks) → IsWord w l m → NoColon m → Keyed l
unfolding sees_word sees_lit
dyn_keyed w l m is_word n = key_starts _ m refl refl n

impl_keyed : (w : token.Impl) (l m : Toks) → IsWord w l m → NoColon m → Keyed l
unfolding sees_word sees_lit
impl_keyed w l m is_word n = key_starts _ m refl refl n

-- `_`, before what follows it
pub infer_starts : (w : Underscore) (l k : Toks) → IsWord w l k → TypeBegins l k
unfolding sees_word sees_lit
infer_starts w l k is_word = word_starts _ k k refl refl (λ f. unseen_colon k f)

-- before one of the keywords there, perhaps an ABI
str_apart : (o : Option LitStr) (l m : Toks) → IsOptional IsStr o l m → NoColon m → NoColon l
unfolding sees_mark
str_apart o l m absent n = n
str_apart o l m (present a_str) n = refl

abi_keyed : (o : Option Abi) (l m : Toks) → IsOptional IsAbi o l m → Keyed m → Keyed l
unfolding sees_word sees_lit
abi_keyed o l m absent h = h
abi_keyed o l m (present (an_abi {o = t} {m = n} is_word i)) h = key_starts _ n refl refl (str_apart t n m i h.apart)

-- perhaps `unsafe`
optional_unsafe_keyed : (o : Option token.Unsafe) (l m : Toks) → IsOptional IsWord o l m → Keyed m → Keyed l
optional_unsafe_keyed o l m absent h = h
optional_unsafe_keyed o l m (present {a = w} i) h = unsafe_keyed w l m i h.apart

-- `builtin` before a `#`
builtin_keyed : (w : Ident) (p : token.Pound) (m n : Toks) → is_text builtin_text w.text ≡ true → IsMark true p m n → Keyed (word w m)
unfolding sees_mark is_keyword
builtin_keyed w p m n h (is_mark (last_char x)) =
    let g : is_segment_word w.text ≡ true = ap is_segment_word ((bytes_eq-Decides w.text builtin_text).0 h) in
    key_starts w m (segment_no_mut w m g) (segment_no_lit w m g) refl

star_apart : (q : token.Star) (l m : Toks) → IsMark true q l m → NoColon l
unfolding sees_mark
star_apart q l m (is_mark (last_char x)) = refl

abi_less : (x : Abi) (l m : Toks) → IsAbi x l m → Less l m
abi_less x l m (an_abi {w = w} {o = o} {m = n} i j) = less_no (word_takes w l n i) (optional_no (λ t u v k. some (str_takes t u v k)) o n m j)

-- ---- over what they hold

module _ {A E : Type 0} {part : Manner → Parts A E} (s : Starts part) where
  binder_keyed : (x : BoundLifetimes A E) (l k : Toks) → IsFor part clearly x l k → Keyed l
  unfolding sees_word sees_lit
  binder_keyed x l k (a_binder {o = o} {m = m} {n = n} is_word d v e) = key_starts _ m refl refl (lt_no_colon o m n d)

  pub binder_starts : (x : BoundLifetimes A E) (l m k : Toks) → IsFor part clearly x l m → TypeBegins l k
  binder_starts x l m k i = (binder_keyed x l m i).starts k

  optional_binder_keyed : (o : Option (BoundLifetimes A E)) (l k : Toks) → IsOptional (IsFor part clearly) o l k → Keyed k → Keyed l
  optional_binder_keyed o l k absent h = h
  optional_binder_keyed o l k (present {a = x} i) h = binder_keyed x l k i

  optional_binder_no : (o : Option (BoundLifetimes A E)) (l k : Toks) → IsOptional (IsFor part clearly) o l k → NoMore l k
  optional_binder_no = optional_no (λ x l k i. some (for_less part s.firsts x l k i))

  -- ---- pointers to functions

  pub fn_starts : (e : End) (x : TypeFnPtr A E) (l k : Toks) → IsFnPtr part clearly e x l k → TypeBegins l k × Less l k
  unfolding sees_mark
  fn_starts e x l k (a_fn_ptr {b = b} {u = u} {i = i} {w = w} {s = a} {o = o} {m = m} {n = n} {k = h} {c = c} {j = j} d f g t v z) =
      let q = fn_keyed w h (group Parenthesis a c j) t refl in
      let y = optional_binder_keyed b l m d (optional_unsafe_keyed u m n f (abi_keyed i n h g q)) in (
        y.starts k,
        no_less (optional_binder_no b l m d) (no_less (optional_no (λ z l k i. some (word_takes z l k i)) u m n f) (no_less (optional_no (λ z l k i. some (abi_less z l k i)) i n h g)
            (less_less (word_takes w h (group Parenthesis a c j) t) (less_no (group_less Parenthesis a c j) (return_no s NoPlus e o j k z))))),
      )

  -- ---- bounds after `dyn` and `impl`

  list_starts : (p : TypePlace) (kind : BoundPlace) (e : End) (v : Many (TypeParamBound A E) token.Plus) (l k : Toks) → IsBoundList part clearly p kind e v l k → BoundBegins kind l × Less l k
  list_starts p kind e v l k (several_bounds {xs = xs} {ps = ps} h i) = bounds_start s true (λ z. z) e xs ps l k i
  list_starts p kind e v l k (one_bound {x = x} h i) = s.firsts.bound kind e x l k i

  object_starts : (p : TypePlace) (e : End) (v : Many (TypeParamBound A E) token.Plus) (l k : Toks) → AreObjectBounds part clearly p e v l k → BoundBegins Object l × Less l k
  object_starts p e v l k (object_bounds i h) = list_starts p Object e v l k i

  pub dyn_starts : (p : TypePlace) (e : End) (x : TypeTraitObject A E) (l k : Toks) → IsDyn part clearly p e x l k → TypeBegins l k × Less l k
  dyn_starts p e x l k (a_dyn {w = w} {v = v} {m = m} i j) = let h = object_starts p e v m k j in ((dyn_keyed w l m i h.0.no_colon).starts k, less_less (word_takes w l m i) h.1)

  pub impl_starts : (p : TypePlace) (e : End) (x : TypeImplTrait A E) (l k : Toks) → IsImpl part clearly p e x l k → TypeBegins l k × Less l k
  impl_starts p e x l k (an_impl {w = w} {v = v} {m = m} i j g) = let h = list_starts p Opaque e v m k j in ((impl_keyed w l m i h.0.no_colon).starts k, less_less (word_takes w l m i) h.1)

  -- ---- trait objects without `dyn`

  plus_apart : (c : token.Plus) (l k : Toks) → IsMark true c l k → NoColon l
  unfolding sees_mark
  plus_apart c l k (is_mark (last_char x)) = refl

  first_starts : (o : Option (BoundLifetimes A E)) (p : Path A E) (l m k : Toks) → IsFirst part clearly o p l m → NoColon m → TypeBegins l k × Less l m
  first_starts o p l m k (a_first i t) n = (path_type l k (starts_on l m k (path_starts s AsWritten p l m i) n), path_less s AsWritten p l m i)
  first_starts o p l m k (a_first_for {x = x} {m = h} b i t u) n = (binder_starts x l h k b, less_less (for_less part s.firsts x l h b) (path_less s AsWritten p h m i))

  further_no : (e : End) (xs : List (TypeParamBound A E)) (ps : List token.Plus) (l k : Toks) → AreFurther part clearly e xs ps l k → NoMore l k
  further_no e xs ps l k none_further = same
  further_no e xs ps l k (some_further {p = p} {xs = ys} {ps = qs} {m = m} i j) = no_no (mark_no p l m i) (bounds_no s false e ys qs m k j)

  lone_object : (x : TypeParamBound A E) → is_trait x ≡ false → list_any is_trait (x ∷ []) ≡ false
  lone_object x h = or_from _ _ h refl

  lifetime_object_starts : (e : End) (xs : List (TypeParamBound A E)) (ps : List token.Plus) (l k : Toks) → sees_lifetime l ≡ true → AreBounds part clearly Object AfterMark true e xs ps l k → list_any is_trait xs ≡ true → TypeBegins l k
  lifetime_object_starts e xs ps l k h (no_bounds z) g = absurd z
  lifetime_object_starts e xs ps l k h (last_bound {e = d} {x = x} i) g = let n = lone_object x (s.life Object d x l k i h).0 in cc
  lifetime_object_starts e xs ps l k h (bound_and_plus {e = d} {x = x} {p = p} {m = m} {k = n} i o j t) g = let y = s.life Object d x l m i h in lifetime_starts y.1 p l m n k y.2 j

  pub bare_starts : (place : TypePlace) (e : End) (v : Many (TypeParamBound A E) token.Plus) (l k : Toks) → AreBareBounds part clearly place e v l k → TypeBegins l k × Less l k
  bare_starts place e v l k (path_alone (a_first_for {x = x} {p = p} {m = h} b i t u)) = (binder_starts x l h k b, less_less (for_less part s.firsts x l h b) (path_less s AsWritten p h k i))
  bare_starts place e v l k (path_and_plus {o = o} {p = p} {c = c} {xs = xs} {ps = ps} {m = m} {n = n} h i j t) =
      let y = first_starts o p l m k i (plus_apart c m n j) in
      (y.0, less_no y.1 (no_no (mark_no c m n j) (bounds_no s false e xs ps n k t)))
  bare_starts place e v l k (held_and_plus {s = a} {k = q} {xs = xs} {ps = ps} {c = c} {m = m} {n = n} h i j t) =
      (group_starts Parenthesis refl a c m k, less_no (group_less Parenthesis a c m) (no_no (mark_no q m n j) (bounds_no s false e xs ps n k t)))
  bare_starts place e v l k (asked_first {s = a} {xs = xs} {ps = ps} {c = c} {m = m} i t) = (group_starts Parenthesis refl a c m k, less_no (group_less Parenthesis a c m) (further_no e xs ps m k t))
  bare_starts place e v l k (asked_in_two {s = a} {i = b} {k = q} {xs = xs} {ps = ps} {c = c} {m = m} {n = n} h i j t) =
      (group_starts Parenthesis refl a (group Parenthesis b c done) m k, less_no (group_less Parenthesis a (group Parenthesis b c done) m) (no_no (mark_no q m n j) (bounds_no s false e xs ps n k t)))
  bare_starts place e v l k (lifetime_first {xs = xs} {ps = ps} h t g) = (lifetime_object_starts e xs ps l k h t g, (bounds_start s true (λ z. z) e xs ps l k t).1)

  -- ---- pointers and references

  pub pointer_starts : (e : End) (x : TypePtr A E) (l k : Toks) → IsPointer part clearly e x l k → TypeBegins l k × Less l k
  pointer_starts e x l k (a_pointer {q = q} {x = y} {m = m} {n = n} (is_mark (last_char {a = a} {j = j} z)) i t) =
      (star_starts j a m k, less_less (mark_less (punct 42 j a) m) (less_less (mutability_takes q m n i) (s.firsts.ty NoPlus e y n k t).1))

  pub borrow_starts : (e : End) (x : TypeReference A E) (l k : Toks) → IsBorrow part clearly e x l k → TypeBegins l k × Less l k
  borrow_starts e x l k (a_borrow {x = y} {m = m} (is_mark (last_char {a = a} {j = j} z)) h t) = (and_starts j a m k, less_less (mark_less (punct 38 j a) m) (s.firsts.ty NoPlus e y m k t).1)
  borrow_starts e x l k (a_mutable_borrow {u = u} {x = y} {m = m} {n = n} (is_mark (last_char {a = a} {j = j} z)) i t) =
      (and_starts j a m k, less_less (mark_less (punct 38 j a) m) (less_less (word_takes u m n i) (s.firsts.ty NoPlus e y n k t).1))
  borrow_starts e x l k (a_lifetime_borrow {y = w} {u = u} {x = y} {m = m} {n = n} {k = h} (is_mark (last_char {a = a} {j = j} z)) i g t) =
      (and_starts j a m k, less_less (mark_less (punct 38 j a) m) (less_less (lifetime_takes w m n i) (no_less (optional_no (λ z l k i. some (word_takes z l k i)) u n h g) (s.firsts.ty NoPlus e y h k t).1)))

  -- ---- what is held verbatim

  pub verbatim_starts : (place : TypePlace) (e : End) (l k : Toks) → IsVerbatimType part clearly place e l k → TypeBegins l k × Less l k
  verbatim_starts place e l k (an_unsafe_binder {b = b} {u = u} {o = o} {xs = xs} {cs = cs} {g = g} {x = x} {m = m} {n = n} {k = h} {j = j} {i = i} d w q v c t) =
      let y = optional_binder_keyed b l m d (unsafe_keyed u m n w (lt_no_colon o n h q)) in
      (y.starts k, no_less (optional_binder_no b l m d) (less_less (word_takes u m n w) (no_less (mark_no o n h q) (no_less (listed_no (λ b. lifetime_takes) mark_no true xs cs h j v) (no_less (mark_no g j i c) (s.firsts.ty (last_place place) e x i k t).1)))))
  verbatim_starts place e l k (a_dyn_star {w = w} {s = q} {v = v} {m = m} {n = n} i j t) =
      ((dyn_keyed w l m i (star_apart q m n j)).starts k, less_less (word_takes w l m i) (no_less (mark_no q m n j) (object_starts place e v n k t).1))
  verbatim_starts place e l k (a_builtin {b = b} {w = w} {i = i} {p = p} {s = a} {m = m} {c = c} d h j g) =
      let y = optional_binder_keyed b l (word w m) d (builtin_keyed w p m (word i (group Parenthesis a c k)) h j) in
      (y.starts k, no_less (optional_binder_no b l (word w m) d) (less_less (word_less w m) (no_less (mark_no p m (word i (group Parenthesis a c k)) j) (less_less (word_less i (group Parenthesis a c k)) (group_less Parenthesis a c k)))))
