-- Types grow with what stands within: where the one grammar spells it, the other does.
use Rattle.std.proofs.Common.{Bool, List, Option}
use Rattle.syn_ty.proofs.ty_laws.words.Tokens.{Many, Toks}
use Rattle.syn_ty.proofs.ty_laws.words.Forms.{BoundPlace, TypePlace}
use Rattle.syn_ty.proofs.ty_laws.words.Types.{FnPtrVariadicOf, IsFor, IsPointer, a_pointer, IsBorrow, a_borrow, a_mutable_borrow, a_lifetime_borrow, IsEnclosed, enclosed, IsBracketed, bracketed, IsCounted, counted, IsElement, an_element, IsTupled, no_element, some_elements, IsVerbatimType, an_unsafe_binder, a_dyn_star, a_builtin, IsType, a_path_type, a_macro, a_bound_macro, an_object_with_dyn, an_object_without_dyn, an_impl_type, a_fn_type, a_ptr_type, a_reference_type, a_paren_type, a_tuple_type, a_slice_type, an_array_type, an_infer_type, a_never_type, a_verbatim_type, IsMutSelf, mut_self, mut_self_typed, named_mut_self, IsNamedArg, a_named_argument, a_verbatim_argument, IsVariadic, dots, named_dots, AreInputs, plain_inputs, variadic_inputs, IsFnPtr, a_fn_ptr, IsBoundList, several_bounds, one_bound, AreObjectBounds, object_bounds, IsDyn, a_dyn, IsImpl, an_impl, IsFirst, a_first, a_first_for, IsAsked, an_asked, AreFurther, none_further, some_further, AreBareBounds, path_alone, path_and_plus, held_and_plus, asked_first, asked_in_two, lifetime_first, Manner, End, Parts, IsOptional, BoundLifetimes, NamedArg, Path, TypeArray, TypeFnPtr, TypeImplTrait, TypeParamBound, TypeParen, TypePtr, TypeReference, TypeSlice, TypeTraitObject, TypeTree, TypeTuple}
use Rattle.token_core.specs.Tokens as token
use Rattle.syn_ty.specs.ty.Functions.{an_argument}
use Rattle.syn_ty.proofs.ty_laws.sound.HigherBounds.{for_up, bounds_up}
use Rattle.syn_ty.proofs.ty_laws.sound.HigherParts.{Up, held_up, listed_up, marked_up, optional_up}
use Rattle.syn_ty.proofs.ty_laws.sound.HigherPaths.{bound_path_up, no_try_up, path_up, return_up}

module _ {A E : Type 0} {part over : Manner → Parts A E} (up : (how : Manner) → Up (part how) (over how)) where
  -- a binder that may be there
  pub optional_for_up : {how : Manner} {o : Option (BoundLifetimes A E)} {l r : Toks} → IsOptional (IsFor part how) o l r → IsOptional (IsFor over how) o l r
  optional_for_up i = optional_up i (λ x l r j. for_up up j)

  -- ---- bounds after `dyn` and `impl`

  pub bound_list_up : {how : Manner} {place : TypePlace} {kind : BoundPlace} {e : End} {v : Many (TypeParamBound A E) token.Plus} {l r : Toks} → IsBoundList part how place kind e v l r → IsBoundList over how place kind e v l r
  bound_list_up (several_bounds a i) = several_bounds a (bounds_up up i)
  bound_list_up {how} (one_bound a i) = one_bound a ((up how).bound _ _ _ _ _ i)

  pub object_bounds_up : {how : Manner} {place : TypePlace} {e : End} {v : Many (TypeParamBound A E) token.Plus} {l r : Toks} → AreObjectBounds part how place e v l r → AreObjectBounds over how place e v l r
  object_bounds_up (object_bounds i t) = object_bounds (bound_list_up i) t

  pub dyn_up : {how : Manner} {place : TypePlace} {e : End} {x : TypeTraitObject A E} {l r : Toks} → IsDyn part how place e x l r → IsDyn over how place e x l r
  dyn_up (a_dyn w i) = a_dyn w (object_bounds_up i)

  pub impl_up : {how : Manner} {place : TypePlace} {e : End} {x : TypeImplTrait A E} {l r : Toks} → IsImpl part how place e x l r → IsImpl over how place e x l r
  impl_up (an_impl w i t) = an_impl w (bound_list_up i) t

  -- ---- trait objects without `dyn`

  pub first_up : {how : Manner} {o : Option (BoundLifetimes A E)} {x : Path A E} {l r : Toks} → IsFirst part how o x l r → IsFirst over how o x l r
  first_up (a_first i t) = a_first (path_up up i) t
  first_up (a_first_for f i t s) = a_first_for (for_up up f) (path_up up i) t s

  pub asked_up : {how : Manner} {q : token.Question} {x : Path A E} {l r : Toks} → IsAsked part how q x l r → IsAsked over how q x l r
  asked_up (an_asked q i) = an_asked q (bound_path_up up i)

  pub further_up : {how : Manner} {e : End} {xs : List (TypeParamBound A E)} {ps : List token.Plus} {l r : Toks} → AreFurther part how e xs ps l r → AreFurther over how e xs ps l r
  further_up none_further = none_further
  further_up (some_further p i) = some_further p (bounds_up up i)

  pub bare_bounds_up : {how : Manner} {place : TypePlace} {e : End} {v : Many (TypeParamBound A E) token.Plus} {l r : Toks} → AreBareBounds part how place e v l r → AreBareBounds over how place e v l r
  bare_bounds_up (path_alone i) = path_alone (first_up i)
  bare_bounds_up (path_and_plus a i p j) = path_and_plus a (first_up i) p (bounds_up up j)
  bare_bounds_up (held_and_plus a i p j) = held_and_plus a (first_up i) p (bounds_up up j)
  bare_bounds_up (asked_first i j) = asked_first (asked_up i) (further_up j)
  bare_bounds_up (asked_in_two a i p j) = asked_in_two a (asked_up i) p (bounds_up up j)
  bare_bounds_up (lifetime_first s i t) = lifetime_first s (bounds_up up i) t

  -- ---- pointers to functions

  pub mut_self_up : {how : Manner} {l r : Toks} → IsMutSelf part how l r → IsMutSelf over how l r
  mut_self_up (mut_self u w) = mut_self u w
  mut_self_up {how} (mut_self_typed u w c i) = mut_self_typed u w c ((up how).ty _ _ _ _ _ i)
  mut_self_up (named_mut_self n c u w) = named_mut_self n c u w

  pub named_arg_up : {how : Manner} {first : Bool} {x : NamedArg A E} {l r : Toks} → IsNamedArg part how first x l r → IsNamedArg over how first x l r
  named_arg_up {how} (an_argument a i) = an_argument ((up how).attrs _ _ _ a) ((up how).ty _ _ _ _ _ i)
  named_arg_up {how} (a_named_argument a n c i) = a_named_argument ((up how).attrs _ _ _ a) n c ((up how).ty _ _ _ _ _ i)
  named_arg_up {how} {r = r} (a_verbatim_argument {t = t} {m = m} a i) = a_verbatim_argument ((up how).attrs _ _ _ a) (held_up (IsMutSelf part) (IsMutSelf over) (λ n l r j. mut_self_up j) how t m r i)

  pub variadic_up : {how : Manner} {x : FnPtrVariadicOf A} {l : Toks} → IsVariadic part how x l → IsVariadic over how x l
  variadic_up {how} (dots a d o) = dots ((up how).attrs _ _ _ a) d o
  variadic_up {how} (named_dots a n c d o) = named_dots ((up how).attrs _ _ _ a) n c d o

  pub inputs_up : {how : Manner} {v : Many (NamedArg A E) token.Comma} {d : Option (FnPtrVariadicOf A)} {l : Toks} → AreInputs part how v d l → AreInputs over how v d l
  inputs_up (plain_inputs i) = plain_inputs (listed_up i (λ b x l r j. named_arg_up j))
  inputs_up (variadic_inputs i d) = variadic_inputs (marked_up i (λ b x l r j. named_arg_up j)) (variadic_up d)

  pub fn_ptr_up : {how : Manner} {e : End} {x : TypeFnPtr A E} {l r : Toks} → IsFnPtr part how e x l r → IsFnPtr over how e x l r
  fn_ptr_up (a_fn_ptr b u a w i o) = a_fn_ptr (optional_for_up b) u a w (inputs_up i) (return_up up o)

  -- ---- forms that hold a type

  pub pointer_up : {how : Manner} {e : End} {x : TypePtr A E} {l r : Toks} → IsPointer part how e x l r → IsPointer over how e x l r
  pointer_up {how} (a_pointer s q i) = a_pointer s q ((up how).ty _ _ _ _ _ i)

  pub borrow_up : {how : Manner} {e : End} {x : TypeReference A E} {l r : Toks} → IsBorrow part how e x l r → IsBorrow over how e x l r
  borrow_up {how} (a_borrow a n i) = a_borrow a n ((up how).ty _ _ _ _ _ i)
  borrow_up {how} (a_mutable_borrow a u i) = a_mutable_borrow a u ((up how).ty _ _ _ _ _ i)
  borrow_up {how} (a_lifetime_borrow a y u i) = a_lifetime_borrow a y u ((up how).ty _ _ _ _ _ i)

  pub enclosed_up : {how : Manner} {place : TypePlace} {x : TypeParen A E} {l r : Toks} → IsEnclosed part how place x l r → IsEnclosed over how place x l r
  enclosed_up {how} (enclosed i) = enclosed ((up how).ty _ _ _ _ _ i)

  pub bracketed_up : {how : Manner} {x : TypeSlice A E} {l r : Toks} → IsBracketed part how x l r → IsBracketed over how x l r
  bracketed_up {how} (bracketed i) = bracketed ((up how).ty _ _ _ _ _ i)

  pub counted_up : {how : Manner} {x : TypeArray A E} {l r : Toks} → IsCounted part how x l r → IsCounted over how x l r
  counted_up {how} (counted i q n) = counted ((up how).ty _ _ _ _ _ i) q ((up how).len _ _ n)

  pub element_up : {how : Manner} {x : TypeTree A E} {l r : Toks} → IsElement part how x l r → IsElement over how x l r
  element_up {how} (an_element i) = an_element ((up how).ty _ _ _ _ _ i)

  pub tupled_up : {how : Manner} {Begins : Toks → Type 0} {x : TypeTuple A E} {l r : Toks} → IsTupled part how Begins x l r → IsTupled over how Begins x l r
  tupled_up no_element = no_element
  tupled_up (some_elements b i k j) = some_elements b (element_up i) k (listed_up j (λ c x l r n. element_up n))

  -- ---- a type

  pub verbatim_type_up : {how : Manner} {place : TypePlace} {e : End} {l r : Toks} → IsVerbatimType part how place e l r → IsVerbatimType over how place e l r
  verbatim_type_up {how} (an_unsafe_binder b u o xs g i) = an_unsafe_binder (optional_for_up b) u o xs g ((up how).ty _ _ _ _ _ i)
  verbatim_type_up (a_dyn_star w s i) = a_dyn_star w s (object_bounds_up i)
  verbatim_type_up (a_builtin b w p n) = a_builtin (optional_for_up b) w p n

  pub type_up : {how : Manner} {place : TypePlace} {e : End} {x : TypeTree A E} {l r : Toks} → IsType part how place e x l r → IsType over how place e x l r
  type_up (a_path_type i) = a_path_type (no_try_up up i)
  type_up (a_macro i) = a_macro i
  type_up (a_bound_macro b i n) = a_bound_macro (for_up up b) i n
  type_up (an_object_with_dyn i) = an_object_with_dyn (dyn_up i)
  type_up (an_object_without_dyn i) = an_object_without_dyn (bare_bounds_up i)
  type_up (an_impl_type i) = an_impl_type (impl_up i)
  type_up (a_fn_type i) = a_fn_type (fn_ptr_up i)
  type_up (a_ptr_type i) = a_ptr_type (pointer_up i)
  type_up (a_reference_type i) = a_reference_type (borrow_up i)
  type_up (a_paren_type i) = a_paren_type (enclosed_up i)
  type_up (a_tuple_type i) = a_tuple_type (tupled_up i)
  type_up (a_slice_type i) = a_slice_type (bracketed_up i)
  type_up (an_array_type i) = an_array_type (counted_up i)
  type_up (an_infer_type i) = an_infer_type i
  type_up (a_never_type i) = a_never_type i
  type_up {how} {place} {e = e} {l = l} {r = r} (a_verbatim_type {t = t} i) = a_verbatim_type (held_up (λ m. IsVerbatimType part m place e) (λ m. IsVerbatimType over m place e) (λ m l r j. verbatim_type_up j) how t l r i)
