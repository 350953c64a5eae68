-- Types do not end in a mark that is glued to what follows, but perhaps in a `!`, where what stands within them does not.
use Rattle.std.proofs.Common.{true, List, Option, refl}
use Rattle.syn_ty.proofs.ty_laws.words.Tokens.{Parenthesis, Many, is_mark, Toks, group}
use Rattle.syn_ty.proofs.ty_laws.words.Paths.{Ended, Shut}
use Rattle.syn_ty.proofs.ty_laws.words.Forms.{BoundPlace, TypePlace}
use Rattle.syn_ty.proofs.ty_laws.words.Types.{Abi, TypeNeverOf, IsFor, IsPointer, a_pointer, IsBorrow, a_borrow, a_mutable_borrow, a_lifetime_borrow, IsEnclosed, enclosed, IsBracketed, bracketed, IsCounted, counted, IsTupled, no_element, some_elements, IsVerbatimType, an_unsafe_binder, a_dyn_star, a_builtin, IsType, a_path_type, a_macro, a_bound_macro, an_object_with_dyn, an_object_without_dyn, an_impl_type, a_fn_type, a_ptr_type, a_reference_type, a_paren_type, a_tuple_type, a_slice_type, an_array_type, an_infer_type, a_never_type, a_verbatim_type, IsAbi, an_abi, IsMutSelf, mut_self, mut_self_typed, named_mut_self, IsFnPtr, a_fn_ptr, IsBoundList, several_bounds, one_bound, AreObjectBounds, object_bounds, IsDyn, a_dyn, IsImpl, an_impl, IsFirst, a_first, a_first_for, AreFurther, none_further, some_further, AreBareBounds, path_alone, path_and_plus, held_and_plus, asked_first, asked_in_two, lifetime_first, Manner, clearly, End, Parts, IsNever, a_never, IsOptional, an_infer, BoundLifetimes, Path, TypeArray, TypeFnPtr, TypeImplTrait, TypeParamBound, TypeParen, TypePtr, TypeReference, TypeSlice, TypeTraitObject, TypeTree, TypeTuple}
use Rattle.token_core.specs.Tokens as token
use Rattle.syn_path.proofs.Ends.{call_over, char_over, chars_on, group_on, lifetime_over, listed_on, str_over, word_on, word_over}
use Rattle.syn_ty.proofs.ty_laws.reprint.EndsBounds.{bounds_shut, for_on}
use Rattle.syn_ty.proofs.ty_laws.reprint.EndsParts.{Ending, comma_on, mutability_on, optional_on, plus_over}
use Rattle.syn_ty.proofs.ty_laws.reprint.EndsPaths.{any_path_over, path_over, return_shut}
use Rattle.syn_ty.proofs.ty_laws.reprint.MovesParts.{lifetime_there}

abi_on : (x : Abi) (l r : Toks) → IsAbi x l r → Ended r → Ended l
abi_on x l r (an_abi i j) h = let k = optional_on j (λ x l r i u. str_over i u.apart) h in word_over i k.apart

never_over : {A : Type 0} {x : TypeNeverOf A} {l r : Toks} → IsNever true x l r → Shut r → Ended l
never_over (a_never (is_mark i)) h = char_over 33 refl i h

module _ {A E : Type 0} (part : Manner → Parts A E) (up : Ending (part clearly)) where
  optional_for_on : {o : Option (BoundLifetimes A E)} {l r : Toks} → IsOptional (IsFor part clearly) o l r → Ended r → Ended l
  optional_for_on i h = optional_on i (λ x l r j u. for_on part up j u) h

  -- ---- bounds after `dyn` and `impl`

  bound_list_shut : {place : TypePlace} {kind : BoundPlace} {e : End} {v : Many (TypeParamBound A E) token.Plus} {l r : Toks} → IsBoundList part clearly place kind e v l r → Shut r → Shut l
  bound_list_shut (several_bounds e i) h = bounds_shut part up i h
  bound_list_shut (one_bound e i) h = let k = up.bound _ _ _ _ _ i h in k.apart

  object_bounds_shut : {place : TypePlace} {e : End} {v : Many (TypeParamBound A E) token.Plus} {l r : Toks} → AreObjectBounds part clearly place e v l r → Shut r → Shut l
  object_bounds_shut (object_bounds i e) h = bound_list_shut i h

  dyn_over : {place : TypePlace} {e : End} {x : TypeTraitObject A E} {l r : Toks} → IsDyn part clearly place e x l r → Shut r → Ended l
  dyn_over (a_dyn w i) h = word_over w (object_bounds_shut i h)

  impl_over : {place : TypePlace} {e : End} {x : TypeImplTrait A E} {l r : Toks} → IsImpl part clearly place e x l r → Shut r → Ended l
  impl_over (an_impl w i e) h = word_over w (bound_list_shut i h)

  -- ---- trait objects without `dyn`

  first_over : {o : Option (BoundLifetimes A E)} {x : Path A E} {l r : Toks} → IsFirst part clearly o x l r → Shut r → Ended l
  first_over (a_first i e) h = path_over part up i h
  first_over (a_first_for f i e s) h = for_on part up f (path_over part up i h)

  further_shut : {e : End} {xs : List (TypeParamBound A E)} {ps : List token.Plus} {l r : Toks} → AreFurther part clearly e xs ps l r → Shut r → Shut l
  further_shut none_further h = h
  further_shut (some_further p i) h = let k = plus_over p (bounds_shut part up i h) in k.apart

  bare_bounds_over : {place : TypePlace} {e : End} {v : Many (TypeParamBound A E) token.Plus} {l r : Toks} → AreBareBounds part clearly place e v l r → Shut r → Ended l
  bare_bounds_over (path_alone i) h = first_over i h
  bare_bounds_over (path_and_plus e i p j) h = let k = plus_over p (bounds_shut part up j h) in first_over i k.apart
  bare_bounds_over (held_and_plus e i p j) h = let k = plus_over p (bounds_shut part up j h) in group_on _ _ _ _ k.apart
  bare_bounds_over (asked_first i j) h = group_on _ _ _ _ (further_shut j h)
  bare_bounds_over (asked_in_two e i p j) h = let k = plus_over p (bounds_shut part up j h) in group_on _ _ _ _ k.apart
  bare_bounds_over {l = l} (lifetime_first s i t) h = record { there = lifetime_there l s; apart = bounds_shut part up i h }

  -- ---- pointers to functions

  pub mut_self_over : {l r : Toks} → IsMutSelf part clearly l r → Shut r → Ended l
  mut_self_over (mut_self u w) h = let k = word_over w h in word_over u k.apart
  mut_self_over (mut_self_typed u w (is_mark c) i) h =
      let k = chars_on c (up.ty _ _ _ _ _ i h) in
      let m = word_over w k.apart in
      word_over u m.apart
  mut_self_over (named_mut_self n (is_mark c) u w) h =
      let k = word_over w h in
      let m = chars_on c (word_over u k.apart) in
      word_on _ _ m.apart

  fn_ptr_over : {e : End} {x : TypeFnPtr A E} {l r : Toks} → IsFnPtr part clearly e x l r → Shut r → Ended l
  fn_ptr_over (a_fn_ptr {s = s} {c = c} {j = j} b u a w i o) h =
      let k = group_on Parenthesis s c j (return_shut part up o h) in
      optional_for_on b (optional_on u (λ x l r i u. word_over i u.apart) (optional_on a abi_on (word_over w k.apart)))

  -- ---- forms that hold a type

  pointer_over : {e : End} {x : TypePtr A E} {l r : Toks} → IsPointer part clearly e x l r → Shut r → Ended l
  pointer_over (a_pointer (is_mark s) m i) h = chars_on s (mutability_on m (up.ty _ _ _ _ _ i h))

  borrow_over : {e : End} {x : TypeReference A E} {l r : Toks} → IsBorrow part clearly e x l r → Shut r → Ended l
  borrow_over (a_borrow (is_mark s) n i) h = chars_on s (up.ty _ _ _ _ _ i h)
  borrow_over (a_mutable_borrow (is_mark s) u i) h = let k = up.ty _ _ _ _ _ i h in chars_on s (word_over u k.apart)
  borrow_over (a_lifetime_borrow (is_mark s) y u i) h =
      let k = optional_on u (λ x l r i u. word_over i u.apart) (up.ty _ _ _ _ _ i h) in
      chars_on s (lifetime_over y k.apart)

  enclosed_over : {place : TypePlace} {x : TypeParen A E} {l r : Toks} → IsEnclosed part clearly place x l r → Shut r → Ended l
  enclosed_over (enclosed i) h = group_on _ _ _ _ h

  bracketed_over : {x : TypeSlice A E} {l r : Toks} → IsBracketed part clearly x l r → Shut r → Ended l
  bracketed_over (bracketed i) h = group_on _ _ _ _ h

  counted_over : {x : TypeArray A E} {l r : Toks} → IsCounted part clearly x l r → Shut r → Ended l
  counted_over (counted i m n) h = group_on _ _ _ _ h

  tupled_over : {Begins : Toks → Type 0} {x : TypeTuple A E} {l r : Toks} → IsTupled part clearly Begins x l r → Shut r → Ended l
  tupled_over no_element h = group_on _ _ _ _ h
  tupled_over (some_elements b i c j) h = group_on _ _ _ _ h

  -- ---- what is held verbatim

  pub verbatim_over : {place : TypePlace} {e : End} {l r : Toks} → IsVerbatimType part clearly place e l r → Shut r → Ended l
  verbatim_over (an_unsafe_binder b u (is_mark o) xs (is_mark g) i) h =
      let k = chars_on o (listed_on (λ b x l r i u. lifetime_over i u.apart) comma_on xs (chars_on g (up.ty _ _ _ _ _ i h))) in
      optional_for_on b (word_over u k.apart)
  verbatim_over (a_dyn_star w (is_mark s) i) h = let k = char_over 42 refl s (object_bounds_shut i h) in word_over w k.apart
  verbatim_over {r = r} (a_builtin {i = i} {s = s} {c = c} b w (is_mark p) n) h =
      let k = group_on Parenthesis s c r h in
      let m = chars_on p (word_on i (group Parenthesis s c r) k.apart) in
      optional_for_on b (word_on _ _ m.apart)

  -- ---- a type

  pub type_over : {place : TypePlace} {e : End} {x : TypeTree A E} {l r : Toks} → IsType part clearly place e x l r → Shut r → Ended l
  type_over (a_path_type i) h = any_path_over part up i.0 h
  type_over (a_macro i) h = call_over i.0 h
  type_over (a_bound_macro b i n) h = for_on part up b (call_over i.0 h)
  type_over (an_object_with_dyn i) h = dyn_over i h
  type_over (an_object_without_dyn i) h = bare_bounds_over i h
  type_over (an_impl_type i) h = impl_over i h
  type_over (a_fn_type i) h = fn_ptr_over i h
  type_over (a_ptr_type i) h = pointer_over i h
  type_over (a_reference_type i) h = borrow_over i h
  type_over (a_paren_type i) h = enclosed_over i h
  type_over (a_tuple_type i) h = tupled_over i h
  type_over (a_slice_type i) h = bracketed_over i h
  type_over (an_array_type i) h = counted_over i h
  type_over (an_infer_type (an_infer i)) h = word_over i h
  type_over (a_never_type i) h = never_over i h
  type_over (a_verbatim_type i) h = verbatim_over i.0 h
