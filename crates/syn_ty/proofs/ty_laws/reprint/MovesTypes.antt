-- Types are spelt clearly before other tokens too, where what stands within them is.
use Rattle.std.proofs.Common.{true, List, Option, refl, ◌∙◌, ap}
use Rattle.syn_ty.proofs.ty_laws.words.Tokens.{Many, Toks, TokenStream, trees}
use Rattle.syn_ty.proofs.ty_laws.words.Paths.{Macro, Calm, Moved}
use Rattle.syn_ty.proofs.ty_laws.words.Forms.{BoundPlace, TypePlace}
use Rattle.syn_ty.proofs.ty_laws.words.Types.{Abi, TypeInferOf, TypeNeverOf, IsFor, IsPointer, a_pointer, IsBorrow, a_borrow, a_mutable_borrow, a_lifetime_borrow, IsEnclosed, enclosed, IsBracketed, bracketed, IsCounted, counted, IsTupled, no_element, some_elements, IsVerbatimType, an_unsafe_binder, a_dyn_star, a_builtin, IsTypeCall, IsType, a_path_type, a_macro, a_bound_macro, an_object_with_dyn, an_object_without_dyn, an_impl_type, a_fn_type, a_ptr_type, a_reference_type, a_paren_type, a_tuple_type, a_slice_type, an_array_type, an_infer_type, a_never_type, a_verbatim_type, IsAbi, an_abi, IsMutSelf, mut_self, mut_self_typed, named_mut_self, IsFnPtr, a_fn_ptr, IsBoundList, several_bounds, one_bound, AreObjectBounds, object_bounds, IsDyn, a_dyn, IsImpl, an_impl, IsFirst, a_first, a_first_for, AreFurther, none_further, some_further, AreBareBounds, path_alone, path_and_plus, held_and_plus, asked_first, asked_in_two, lifetime_first, Manner, clearly, End, Holds, Parts, IsInfer, an_infer, IsNever, a_never, IsOptional, BoundLifetimes, Path, TypeArray, TypeFnPtr, TypeImplTrait, TypeParamBound, TypeParen, TypePtr, TypeReference, TypeSlice, TypeTraitObject, TypeTree, TypeTuple}
use Rattle.token_core.specs.Tokens as token
use Rattle.syn_path.specs.Ends.{before}
use Rattle.syn_path.proofs.Ends.{call_over, shut_of}
use Rattle.syn_path.proofs.Moves.{steady, bang_moves, call_moves, colon_moves, free_moves, lifetime_moves, listed_moves, lt_moves, row_before, str_moves, word_moves, words_before}
use Rattle.syn_ty.proofs.ty_laws.reprint.EndsPaths.{path_over}
use Rattle.syn_ty.proofs.ty_laws.reprint.MovesBounds.{bounds_move, for_moves}
use Rattle.syn_ty.proofs.ty_laws.reprint.MovesParts.{Moving, lifetime_there, mutability_moves, optional_moves}
use Rattle.syn_ty.proofs.ty_laws.reprint.MovesPaths.{no_try_moves, path_moves, return_moves}

abi_moves : {x : Abi} {l r : Toks} (k : Toks) → IsAbi x l r → Calm l → Moved (IsAbi x) k l r
abi_moves k (an_abi i j) q = let a = word_moves k i q in let b = optional_moves k j a.calm (λ x l r i q. str_moves k i q) in record { calm = b.calm; is = an_abi a.is b.is }

infer_moves : {A : Type 0} {x : TypeInferOf A} {l r : Toks} (k : Toks) → IsInfer x l r → Calm l → Moved (IsInfer x) k l r
infer_moves k (an_infer i) q = let a = word_moves k i q in record { calm = a.calm; is = an_infer a.is }

never_moves : {A : Type 0} {x : TypeNeverOf A} {l r : Toks} (k : Toks) → IsNever true x l r → Calm l → Moved (IsNever true x) k l r
never_moves k (a_never i) q = let a = bang_moves k i q in record { calm = a.calm; is = a_never a.is }

pub type_call_moves : {x : Macro} {l r : Toks} (k : Toks) → IsTypeCall true x l r → Calm l → Moved (IsTypeCall true x) k l r
type_call_moves {l = l} {r = r} k (i, h) q =
    let a = call_moves k i q in
    let u = call_over i (shut_of r a.calm) in
    record { calm = a.calm; is = (a.is, words_before k l u.there _ ∙ h) }

pub holds_before : (t : TokenStream) (l r k : Toks) → Holds t l r → Holds t (before l k) (before r k)
holds_before t l r k h = ap (λ z. before z k) h ∙ row_before (trees t) r k

module _ {A E : Type 0} (part : Manner → Parts A E) (k : Toks) (up : Moving k (part clearly)) where
  optional_for_moves : {o : Option (BoundLifetimes A E)} {l r : Toks} → IsOptional (IsFor part clearly) o l r → Calm l → Moved (IsOptional (IsFor part clearly) o) k l r
  optional_for_moves i q = optional_moves k i q (λ x l r j u. for_moves part k up j u)

  -- ---- bounds after `dyn` and `impl`

  bound_list_moves : {place : TypePlace} {kind : BoundPlace} {e : End} {v : Many (TypeParamBound A E) token.Plus} {l r : Toks} → IsBoundList part clearly place kind e v l r → Calm l → Moved (IsBoundList part clearly place kind e v) k l r
  bound_list_moves (several_bounds h i) q = let a = bounds_move part k up i q in record { calm = a.calm; is = several_bounds h a.is }
  bound_list_moves (one_bound h i) q = let a = up.bound _ _ _ _ _ i q in record { calm = a.calm; is = one_bound h a.is }

  object_bounds_move : {place : TypePlace} {e : End} {v : Many (TypeParamBound A E) token.Plus} {l r : Toks} → AreObjectBounds part clearly place e v l r → Calm l → Moved (AreObjectBounds part clearly place e v) k l r
  object_bounds_move (object_bounds i h) q = let a = bound_list_moves i q in record { calm = a.calm; is = object_bounds a.is h }

  dyn_moves : {place : TypePlace} {e : End} {x : TypeTraitObject A E} {l r : Toks} → IsDyn part clearly place e x l r → Calm l → Moved (IsDyn part clearly place e x) k l r
  dyn_moves (a_dyn w i) q = let a = word_moves k w q in let b = object_bounds_move i a.calm in record { calm = b.calm; is = a_dyn a.is b.is }

  impl_moves : {place : TypePlace} {e : End} {x : TypeImplTrait A E} {l r : Toks} → IsImpl part clearly place e x l r → Calm l → Moved (IsImpl part clearly place e x) k l r
  impl_moves (an_impl w i h) q = let a = word_moves k w q in let b = bound_list_moves i a.calm in record { calm = b.calm; is = an_impl a.is b.is h }

  -- ---- trait objects without `dyn`

  first_moves : {o : Option (BoundLifetimes A E)} {x : Path A E} {l r : Toks} → IsFirst part clearly o x l r → Calm l → Moved (IsFirst part clearly o x) k l r
  first_moves {l = l} {r = r} (a_first i h) q =
      let a = path_moves part k up i q in
      let u = path_over part up.ends i (shut_of r a.calm) in
      record { calm = a.calm; is = a_first a.is (words_before k l u.there _ ∙ h) }
  first_moves {r = r} (a_first_for {m = m} f i h s) q =
      let a = for_moves part k up f q in
      let b = path_moves part k up i a.calm in
      let w = path_over part up.ends i (shut_of r b.calm) in
      let u = steady k m w.there a.calm in
      record { calm = b.calm; is = a_first_for a.is b.is (u.words _ ∙ h) (u.sep ∙ s) }

  further_move : {e : End} {xs : List (TypeParamBound A E)} {ps : List token.Plus} {l r : Toks} → AreFurther part clearly e xs ps l r → Calm l → Moved (AreFurther part clearly e xs ps) k l r
  further_move none_further q = record { calm = q; is = none_further }
  further_move (some_further p i) q = let a = free_moves (λ l. refl) k p q in let b = bounds_move part k up i a.calm in record { calm = b.calm; is = some_further a.is b.is }

  bare_bounds_move : {place : TypePlace} {e : End} {v : Many (TypeParamBound A E) token.Plus} {l r : Toks} → AreBareBounds part clearly place e v l r → Calm l → Moved (AreBareBounds part clearly place e v) k l r
  bare_bounds_move (path_alone i) q = let a = first_moves i q in record { calm = a.calm; is = path_alone a.is }
  bare_bounds_move (path_and_plus h i p j) q =
      let a = first_moves i q in
      let b = free_moves (λ l. refl) k p a.calm in
      let c = bounds_move part k up j b.calm in
      record { calm = c.calm; is = path_and_plus h a.is b.is c.is }
  bare_bounds_move (held_and_plus h i p j) q = let b = free_moves (λ l. refl) k p q in let c = bounds_move part k up j b.calm in record { calm = c.calm; is = held_and_plus h i b.is c.is }
  bare_bounds_move (asked_first i j) q = let a = further_move j q in record { calm = a.calm; is = asked_first i a.is }
  bare_bounds_move (asked_in_two h i p j) q = let b = free_moves (λ l. refl) k p q in let c = bounds_move part k up j b.calm in record { calm = c.calm; is = asked_in_two h i b.is c.is }
  bare_bounds_move {l = l} (lifetime_first s i t) q = let a = bounds_move part k up i q in record { calm = a.calm; is = lifetime_first ((steady k l (lifetime_there l s) q).lives ∙ s) a.is t }

  -- ---- pointers to functions

  pub mut_self_moves : {l r : Toks} → IsMutSelf part clearly l r → Calm l → Moved (IsMutSelf part clearly) k l r
  mut_self_moves (mut_self u w) q = let a = word_moves k u q in let b = word_moves k w a.calm in record { calm = b.calm; is = mut_self a.is b.is }
  mut_self_moves (mut_self_typed u w c i) q =
      let a = word_moves k u q in
      let b = word_moves k w a.calm in
      let d = colon_moves k c b.calm in
      let f = up.ty _ _ _ _ _ i d.calm in
      record { calm = f.calm; is = mut_self_typed a.is b.is d.is f.is }
  mut_self_moves (named_mut_self n c u w) q =
      let d = colon_moves k c q in
      let a = word_moves k u d.calm in
      let b = word_moves k w a.calm in
      record { calm = b.calm; is = named_mut_self n d.is a.is b.is }

  fn_ptr_moves : {e : End} {x : TypeFnPtr A E} {l r : Toks} → IsFnPtr part clearly e x l r → Calm l → Moved (IsFnPtr part clearly e x) k l r
  fn_ptr_moves (a_fn_ptr b u a w i o) q =
      let c = optional_for_moves b q in
      let d = optional_moves k u c.calm (λ x l r i q. word_moves k i q) in
      let f = optional_moves k a d.calm (λ x l r i q. abi_moves k i q) in
      let g = word_moves k w f.calm in
      let h = return_moves part k up o g.calm in
      record { calm = h.calm; is = a_fn_ptr c.is d.is f.is g.is i h.is }

  -- ---- forms that hold a type

  pointer_moves : {e : End} {x : TypePtr A E} {l r : Toks} → IsPointer part clearly e x l r → Calm l → Moved (IsPointer part clearly e x) k l r
  pointer_moves (a_pointer s m i) q =
      let a = free_moves (λ l. refl) k s q in
      let b = mutability_moves k m a.calm in
      let c = up.ty _ _ _ _ _ i b.calm in
      record { calm = c.calm; is = a_pointer a.is b.is c.is }

  borrow_moves : {e : End} {x : TypeReference A E} {l r : Toks} → IsBorrow part clearly e x l r → Calm l → Moved (IsBorrow part clearly e x) k l r
  borrow_moves {r = r} (a_borrow {m = m} s n i) q =
      let a = free_moves (λ l. refl) k s q in
      let c = up.ty _ _ _ _ _ i a.calm in
      let u = up.ends.ty _ _ _ m r i (shut_of r c.calm) in
      record { calm = c.calm; is = a_borrow a.is ((steady k m u.there a.calm).lives ∙ n) c.is }
  borrow_moves (a_mutable_borrow s u i) q =
      let a = free_moves (λ l. refl) k s q in
      let b = word_moves k u a.calm in
      let c = up.ty _ _ _ _ _ i b.calm in
      record { calm = c.calm; is = a_mutable_borrow a.is b.is c.is }
  borrow_moves (a_lifetime_borrow s y u i) q =
      let a = free_moves (λ l. refl) k s q in
      let d = lifetime_moves k y a.calm in
      let b = optional_moves k u d.calm (λ x l r i q. word_moves k i q) in
      let c = up.ty _ _ _ _ _ i b.calm in
      record { calm = c.calm; is = a_lifetime_borrow a.is d.is b.is c.is }

  enclosed_moves : {place : TypePlace} {x : TypeParen A E} {l r : Toks} → IsEnclosed part clearly place x l r → Calm l → Moved (IsEnclosed part clearly place x) k l r
  enclosed_moves (enclosed i) q = record { calm = q; is = enclosed i }

  bracketed_moves : {x : TypeSlice A E} {l r : Toks} → IsBracketed part clearly x l r → Calm l → Moved (IsBracketed part clearly x) k l r
  bracketed_moves (bracketed i) q = record { calm = q; is = bracketed i }

  counted_moves : {x : TypeArray A E} {l r : Toks} → IsCounted part clearly x l r → Calm l → Moved (IsCounted part clearly x) k l r
  counted_moves (counted i m n) q = record { calm = q; is = counted i m n }

  tupled_moves : {Begins : Toks → Type 0} {x : TypeTuple A E} {l r : Toks} → IsTupled part clearly Begins x l r → Calm l → Moved (IsTupled part clearly Begins x) k l r
  tupled_moves no_element q = record { calm = q; is = no_element }
  tupled_moves (some_elements b i c j) q = record { calm = q; is = some_elements b i c j }

  -- ---- what is held verbatim

  pub verbatim_moves : {place : TypePlace} {e : End} {l r : Toks} → IsVerbatimType part clearly place e l r → Calm l → Moved (IsVerbatimType part clearly place e) k l r
  verbatim_moves (an_unsafe_binder b u o xs g i) q =
      let c = optional_for_moves b q in
      let d = word_moves k u c.calm in
      let f = lt_moves k o d.calm in
      let h = listed_moves k xs f.calm (λ b x l r i q. lifetime_moves k i q) (λ p l r i q. free_moves (λ l. refl) k i q) in
      let j = free_moves (λ l. refl) k g h.calm in
      let m = up.ty _ _ _ _ _ i j.calm in
      record { calm = m.calm; is = an_unsafe_binder c.is d.is f.is h.is j.is m.is }
  verbatim_moves (a_dyn_star w s i) q =
      let a = word_moves k w q in
      let b = free_moves (λ l. refl) k s a.calm in
      let c = object_bounds_move i b.calm in
      record { calm = c.calm; is = a_dyn_star a.is b.is c.is }
  verbatim_moves (a_builtin b w p n) q = let c = optional_for_moves b q in let d = free_moves (λ l. refl) k p c.calm in record { calm = d.calm; is = a_builtin c.is w d.is n }

  -- ---- a type

  pub type_moves : {place : TypePlace} {e : End} {x : TypeTree A E} {l r : Toks} → IsType part clearly place e x l r → Calm l → Moved (IsType part clearly place e x) k l r
  type_moves (a_path_type i) q = let a = no_try_moves part k up i q in record { calm = a.calm; is = a_path_type a.is }
  type_moves (a_macro i) q = let a = type_call_moves k i q in record { calm = a.calm; is = a_macro a.is }
  type_moves {r = r} (a_bound_macro {m = m} b i n) q =
      let a = for_moves part k up b q in
      let c = type_call_moves k i a.calm in
      let u = call_over i.0 (shut_of r c.calm) in
      record { calm = c.calm; is = a_bound_macro a.is c.is ((steady k m u.there a.calm).sep ∙ n) }
  type_moves (an_object_with_dyn i) q = let a = dyn_moves i q in record { calm = a.calm; is = an_object_with_dyn a.is }
  type_moves (an_object_without_dyn i) q = let a = bare_bounds_move i q in record { calm = a.calm; is = an_object_without_dyn a.is }
  type_moves (an_impl_type i) q = let a = impl_moves i q in record { calm = a.calm; is = an_impl_type a.is }
  type_moves (a_fn_type i) q = let a = fn_ptr_moves i q in record { calm = a.calm; is = a_fn_type a.is }
  type_moves (a_ptr_type i) q = let a = pointer_moves i q in record { calm = a.calm; is = a_ptr_type a.is }
  type_moves (a_reference_type i) q = let a = borrow_moves i q in record { calm = a.calm; is = a_reference_type a.is }
  type_moves (a_paren_type i) q = let a = enclosed_moves i q in record { calm = a.calm; is = a_paren_type a.is }
  type_moves (a_tuple_type i) q = let a = tupled_moves i q in record { calm = a.calm; is = a_tuple_type a.is }
  type_moves (a_slice_type i) q = let a = bracketed_moves i q in record { calm = a.calm; is = a_slice_type a.is }
  type_moves (an_array_type i) q = let a = counted_moves i q in record { calm = a.calm; is = an_array_type a.is }
  type_moves (an_infer_type i) q = let a = infer_moves k i q in record { calm = a.calm; is = an_infer_type a.is }
  type_moves (a_never_type i) q = let a = never_moves k i q in record { calm = a.calm; is = a_never_type a.is }
  type_moves {l = l} {r = r} (a_verbatim_type {t = t} (i, h)) q = let a = verbatim_moves i q in record { calm = a.calm; is = a_verbatim_type (a.is, holds_before t l r k h) }
