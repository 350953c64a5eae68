-- Types on lists that are the same aside from spans.
use Rattle.std.proofs.Common.{◌≡◌, Bool, true, List, [], ◌∷◌, Option, Some, None, option_map, refl, sym, ap, ap₂, ◌∙◌}
use Rattle.token_core.specs.declared.lifetime.Lifetime.{Lifetime}
use Rattle.token_core.specs.declared.lit.LitStr.{LitStr}
use Rattle.token_core.specs.declared.span.DelimSpan.{DelimSpan}
use Rattle.token_core.specs.declared.tree.Delimiter.TheVariants.{Parenthesis}
use Rattle.token_core.specs.declared.tree.Ident.{Ident}
use Rattle.token_core.specs.Groups as groups
use Rattle.token_core.specs.Loops.{Many}
use Rattle.token_core.specs.Reads.{builtin_text, is_ident, is_text}
use Rattle.token_core.specs.Spans.{none, delim_span}
use Rattle.token_core.specs.Spellings.{IsMark, IsWord}
use Rattle.token_core.specs.Tokens as token
use Rattle.token_core.specs.Toks.{Toks, done, word, group}
use Rattle.token_core.specs.Trees.{ident}
use Rattle.syn_path.specs.declared.mac.Macro.{Macro}
use Rattle.syn_forms.specs.declared.places.TypePlace.{TypePlace}
use Rattle.syn_forms.specs.declared.places.TypePlace.TheVariants.{Plus, NoPlus}
use Rattle.syn_ty.specs.declared.ty.Abi.{Abi}
use Rattle.syn_ty.specs.declared.ty.FnPtrVariadicOf.{FnPtrVariadicOf}
use Rattle.syn_ty.specs.declared.ty.TypeInferOf.{TypeInferOf}
use Rattle.syn_ty.specs.declared.ty.TypeMacroOf.{TypeMacroOf}
use Rattle.syn_ty.specs.declared.ty.TypeNeverOf.{TypeNeverOf}
use Rattle.syn_ty.specs.declared.ty.TypeOf.TheVariants as v
use Rattle.syn_ty.specs.generics.Bounds.{IsFor}
use Rattle.syn_ty.specs.path.Signed.{IsReturn}
use Rattle.syn_ty.specs.ty.Admitted.{IsPointer, a_pointer, IsBorrow, a_borrow, a_mutable_borrow, a_lifetime_borrow, IsEnclosed, enclosed, IsBracketed, bracketed, IsCounted, counted, IsElement, an_element, IsTupled, no_element, some_elements, IsVerbatimType, an_unsafe_binder, a_dyn_star, a_builtin, IsTypeCall, IsType, a_path_type, a_macro, a_bound_macro, an_object_with_dyn, an_object_without_dyn, an_impl_type, a_fn_type, a_ptr_type, a_reference_type, a_paren_type, a_tuple_type, a_slice_type, an_array_type, an_infer_type, a_never_type, a_verbatim_type}
use Rattle.syn_ty.specs.ty.Functions.{IsAbi, an_abi, is_name, is_argument_name, IsMutSelf, mut_self, mut_self_typed, named_mut_self, IsNamedArg, an_argument, a_named_argument, a_verbatim_argument, IsVariadic, dots, named_dots, AreInputs, plain_inputs, variadic_inputs, IsFnPtr, a_fn_ptr}
use Rattle.syn_ty.specs.ty.Parts.{Manner, clearly, closed, End, Parts}
use Rattle.syn_ty.specs.ty.Spelling.{IsOptional, IsInfer, an_infer, IsNever, a_never, IsMacroType, a_macro_type}
use Rattle.syn_ty.specs.ty.Trees.{BoundLifetimes, NamedArg, Path, QSelf, ReturnType, TypeArray, TypeFnPtr, TypeParen, TypePtr, TypeReference, TypeSlice, TypeTree, TypeTuple}
use Rattle.syn_ty.specs.ty.Types.{And, Comma, Mut, array_of, array_with, fn_ptr_with, infer_with, infer_of, macro_type_of, macro_type_with, named_arg_of, never_of, never_with, paren_of, paren_with, ptr_of, ptr_with, qualified_with, reference_of, reference_with, slice_of, slice_with, trait_object_with, tuple_of, tuple_with, variadic_of}
use Rattle.syn_path.specs.aside.Paths as paths
use Rattle.syn_path.specs.aside.Tokens as tokens
use Rattle.syn_laws.specs.aside.Types as free
use Rattle.syn_laws.proofs.aside_laws.Attrs.{Kept}
use Rattle.syn_path.proofs.aside_laws.Both.{cons_same, more, of3, of4}
use Rattle.syn_laws.proofs.aside_laws.BoundForms.{for_moves, optional_for_moves, object_bounds_move, dyn_moves, impl_moves, bare_bounds_move}
use Rattle.syn_path.proofs.aside_laws.Held.{put_in, MovedForm, held_moves, lifetime_seen}
use Rattle.syn_laws.proofs.aside_laws.Layers.{free-Array, free-FnPtr, free-ImplTrait, free-Infer, free-Macro, free-Never, free-Paren, free-Path, free-Ptr, free-Reference, free-Slice, free-TraitObject, free-Tuple, free-Verbatim, free-path-type, free-fn-ptr}
use Rattle.syn_laws.proofs.aside_laws.Parts.{Moving, optional_moves, mutability_moves, marked_move}
use Rattle.syn_laws.proofs.aside_laws.PathForms.{no_try_moves, return_moves}
use Rattle.syn_path.proofs.aside_laws.Paths.{call_moves}
use Rattle.syn_path.proofs.aside_laws.Same.{Same, same_done, same_word, same_group, Rest, all_left, past_word, past_group, onward, Moved}
use Rattle.syn_path.proofs.aside_laws.Tokens.{ended, listed_ended, listed_move, mark_moves, word_moves, lifetime_moves, str_moves, mark_seen, word_seen}

pub abi_moves : {x : Abi} {l r m : Toks} → IsAbi x l r → Same l m → Moved free.abi IsAbi x r m
abi_moves (an_abi i j) s =
    let a = word_moves i s in
    let b = optional_moves tokens.str j a.on (λ x l r m. str_moves) in
    record { tree = record { extern_token = a.tree; name = b.tree }; rest = b.rest; is = an_abi a.is b.is; same = ap₂ (λ (a : token.Extern) (b : Option LitStr). record { extern_token = a; name = b }) a.same b.same; on = b.on; part = onward b.part a.part }

module _ {A E : Type 0} (na : List A → List A) (ne : E → E) where
  -- ---- types that hold no type

  pub infer_moves : {x : TypeInferOf A} {l r m : Toks} → IsInfer x l r → Same l m → Moved (free.infer na ne) IsInfer x r m
  infer_moves (an_infer i) s = let q = word_moves i s in record { tree = infer_of q.tree; rest = q.rest; is = an_infer q.is; same = ap (infer_with (na [])) q.same; on = q.on; part = q.part }

  pub never_moves : {x : TypeNeverOf A} {l r m : Toks} → IsNever true x l r → Same l m → Moved (free.never na ne) (IsNever true) x r m
  never_moves (a_never i) s = let q = mark_moves i s in record { tree = never_of q.tree; rest = q.rest; is = a_never q.is; same = ap (never_with (na [])) q.same; on = q.on; part = q.part }

  pub macro_type_moves : {x : TypeMacroOf A} {l r m : Toks} → IsMacroType true x l r → Same l m → Moved (free.macro_type na ne) (IsMacroType true) x r m
  macro_type_moves (a_macro_type i) s = let q = call_moves i s in record { tree = macro_type_of q.tree; rest = q.rest; is = a_macro_type q.is; same = ap (macro_type_with (na [])) q.same; on = q.on; part = q.part }

pub type_call_moves : {x : Macro} {l r m : Toks} → IsTypeCall true x l r → Same l m → Moved paths.mac (IsTypeCall true) x r m
type_call_moves (i, h) s = let q = call_moves i s in record { tree = q.tree; rest = q.rest; is = (q.is, sym (word_seen _ s) ∙ h); same = q.same; on = q.on; part = q.part }

module _ {A E : Type 0} (na : List A → List A) (ne : E → E) (part : Manner → Parts A E) (up : Moving na ne (part clearly)) where
  -- ---- forms that hold a type

  pub pointer_moves : {e : End} {x : TypePtr A E} {l r m : Toks} → IsPointer part clearly e x l r → Same l m → Moved (free.ptr na ne) (IsPointer part clearly e) x r m
  pointer_moves (a_pointer i j t) s =
      let a = mark_moves i s in
      let b = mutability_moves j a.on in
      let c = up.ty _ _ _ _ _ _ t b.on in
      record { tree = ptr_of a.tree b.tree c.tree; rest = c.rest; is = a_pointer a.is b.is c.is; same = of3 (ptr_with (na [])) a.same b.same c.same; on = c.on; part = onward c.part (onward b.part a.part) }

  pub borrow_moves : {e : End} {x : TypeReference A E} {l r m : Toks} → IsBorrow part clearly e x l r → Same l m → Moved (free.reference na ne) (IsBorrow part clearly e) x r m
  borrow_moves (a_borrow i h t) s =
      let a = mark_moves i s in
      let c = up.ty _ _ _ _ _ _ t a.on in
      record { tree = reference_of a.tree None None c.tree; rest = c.rest; is = a_borrow a.is (sym (lifetime_seen a.on) ∙ h) c.is; same = ap₂ (λ (a : And) (c : TypeTree A E). reference_with (na []) a None None c) a.same c.same; on = c.on; part = onward c.part a.part }
  borrow_moves (a_mutable_borrow i j t) s =
      let a = mark_moves i s in
      let b = word_moves j a.on in
      let c = up.ty _ _ _ _ _ _ t b.on in
      record { tree = reference_of a.tree None (Some b.tree) c.tree; rest = c.rest; is = a_mutable_borrow a.is b.is c.is; same = of3 (λ (a : And) (b : Mut) (c : TypeTree A E). reference_with (na []) a None (Some b) c) a.same b.same c.same; on = c.on; part = onward c.part (onward b.part a.part) }
  borrow_moves (a_lifetime_borrow i j k t) s =
      let a = mark_moves i s in
      let b = lifetime_moves j a.on in
      let d = optional_moves tokens.word k b.on (λ x l r m. word_moves) in
      let c = up.ty _ _ _ _ _ _ t d.on in
      record {
        tree = reference_of a.tree (Some b.tree) d.tree c.tree;
        rest = c.rest;
        is = a_lifetime_borrow a.is b.is d.is c.is;
        same = of4 (λ (a : And) (b : Lifetime) (d : Option Mut) (c : TypeTree A E). reference_with (na []) a (Some b) d c) a.same b.same d.same c.same;
        on = c.on;
        part = onward c.part (onward d.part (onward b.part a.part));
      }

  pub enclosed_moves : {place : TypePlace} {x : TypeParen A E} {l r m : Toks} → IsEnclosed part clearly place x l r → Same l m → Moved (free.paren na ne) (IsEnclosed part clearly place) x r m
  enclosed_moves (enclosed i) (same_group {b = f} v c s) =
      let q = up.ty _ _ _ _ _ _ i c in
      record { tree = paren_of (groups.paren f) q.tree; rest = _; is = enclosed (ended q); same = ap (paren_with (na []) (groups.paren (delim_span none none))) q.same; on = s; part = past_group all_left }

  pub bracketed_moves : {x : TypeSlice A E} {l r m : Toks} → IsBracketed part clearly x l r → Same l m → Moved (free.slice na ne) (IsBracketed part clearly) x r m
  bracketed_moves (bracketed i) (same_group {b = f} v c s) =
      let q = up.ty _ _ _ _ _ _ i c in
      record { tree = slice_of (groups.bracket f) q.tree; rest = _; is = bracketed (ended q); same = ap (slice_with (na []) (groups.bracket (delim_span none none))) q.same; on = s; part = past_group all_left }

  pub counted_moves : {x : TypeArray A E} {l r m : Toks} → IsCounted part clearly x l r → Same l m → Moved (free.array na ne) (IsCounted part clearly) x r m
  counted_moves (counted i j k) (same_group {b = f} v c s) =
      let q = up.ty _ _ _ _ _ _ i c in
      let p = mark_moves j q.on in
      let n = up.len _ _ _ k p.on in
      record {
        tree = array_of (groups.bracket f) q.tree p.tree n.tree;
        rest = _;
        is = counted q.is p.is n.is;
        same = of3 (array_with (na []) (groups.bracket (delim_span none none))) q.same p.same n.same;
        on = s;
        part = past_group all_left;
      }

  element_moves : {x : TypeTree A E} {l r m : Toks} → IsElement part clearly x l r → Same l m → Moved (free.ty na ne) (IsElement part clearly) x r m
  element_moves (an_element i) s = let q = up.ty _ _ _ _ _ _ i s in record { tree = q.tree; rest = q.rest; is = an_element q.is; same = q.same; on = q.on; part = q.part }

  pub tupled_moves : {Begins : Toks → Type 0} (seen : (l m : Toks) → Same l m → Begins l → Begins m) {x : TypeTuple A E} {l r m : Toks} → IsTupled part clearly Begins x l r → Same l m → Moved (free.tuple na ne) (IsTupled part clearly Begins) x r m
  tupled_moves seen no_element (same_group {b = f} v same_done s) = record { tree = tuple_of (groups.paren f) ([], []); rest = _; is = no_element; same = refl; on = s; part = past_group all_left }
  tupled_moves seen (some_elements h i j k) (same_group {b = f} v c s) =
      let q = element_moves i c in
      let p = mark_moves j q.on in
      let t = listed_move (free.ty na ne) tokens.mark k p.on (λ b x l r m. element_moves) (λ x l r m. mark_moves) in
      record {
        tree = tuple_of (groups.paren f) (q.tree ∷ t.values, p.tree ∷ t.marks);
        rest = _;
        is = some_elements (seen _ _ c h) q.is p.is (listed_ended t);
        same = ap₂ (λ (x : List (TypeTree A E)) (y : List Comma). tuple_with (na []) (groups.paren (delim_span none none)) (x, y)) (cons_same q.same t.same) (cons_same p.same t.same_marks);
        on = s;
        part = past_group all_left;
      }

  -- ---- pointers to functions

  mut_self_moves : {l r m : Toks} → IsMutSelf part clearly l r → Same l m → MovedForm (IsMutSelf part clearly) r m
  mut_self_moves (mut_self i j) s = let a = word_moves i s in let b = word_moves j a.on in record { rest = b.rest; is = mut_self a.is b.is; on = b.on; part = onward b.part a.part }
  mut_self_moves (mut_self_typed i j k t) s =
      let a = word_moves i s in
      let b = word_moves j a.on in
      let c = mark_moves k b.on in
      let d = up.ty _ _ _ _ _ _ t c.on in
      record { rest = d.rest; is = mut_self_typed a.is b.is c.is d.is; on = d.on; part = onward d.part (onward c.part (onward b.part a.part)) }
  mut_self_moves (named_mut_self h i j k) (same_word s) =
      let a = mark_moves i s in
      let b = word_moves j a.on in
      let c = word_moves k b.on in
      record { rest = c.rest; is = named_mut_self h a.is b.is c.is; on = c.on; part = onward c.part (onward b.part (onward a.part (past_word all_left))) }

  named_arg_at : {first : Bool} {a : List A} {i : Ident} {c : token.Colon} (e : End) {x : TypeTree A E} {l n r m k : Toks} (b : List A) → Same (word i l) k → Rest k m → (part clearly).attrs b m k → na b ≡ na a → is_argument_name first i.text ≡ true →
      IsMark true c l n → (part clearly).ty Plus e x n r → Moved (free.named_arg na ne) (IsNamedArg part clearly first) (named_arg_of a (Some (i, c)) x) r m
  named_arg_at e b (same_word {t = t} {b = f} s) w at h n j y =
      let c = mark_moves j s in
      let q = up.ty _ _ _ _ _ _ y c.on in
      record {
        tree = named_arg_of b (Some (ident t f, c.tree)) q.tree;
        rest = q.rest;
        is = a_named_argument at n c.is q.is;
        same = of3 (λ (b : List A) (c : token.Colon) (x : TypeTree A E). named_arg_of b (Some (ident t none, c)) x) h c.same q.same;
        on = q.on;
        part = onward q.part (onward c.part (onward (past_word all_left) w));
      }

  pub named_arg_moves : {first : Bool} {x : NamedArg A E} {l r m : Toks} → IsNamedArg part clearly first x l r → Same l m → Moved (free.named_arg na ne) (IsNamedArg part clearly first) x r m
  named_arg_moves (an_argument i j) s =
      let a = up.attrs _ _ _ _ i s in
      let b = up.ty _ _ _ _ _ _ j a.on in
      record { tree = named_arg_of a.tree None b.tree; rest = b.rest; is = an_argument a.is b.is; same = ap₂ (λ (a : List A) (x : TypeTree A E). named_arg_of a None x) a.same b.same; on = b.on; part = onward b.part a.part }
  named_arg_moves (a_named_argument i n j t) s = let a = up.attrs _ _ _ _ i s in named_arg_at _ a.tree a.on a.part a.is a.same n j t
  named_arg_moves (a_verbatim_argument {t = t} i (j, h)) s =
      let a = up.attrs _ _ _ _ i s in
      let b = held_moves t h a.on (mut_self_moves j a.on) in
      record {
        tree = named_arg_of a.tree None (v.Verbatim b.tree);
        rest = b.rest;
        is = a_verbatim_argument a.is b.is;
        same = ap₂ (λ (a : List A) (x : TypeTree A E). named_arg_of a None x) a.same (free-Verbatim na ne b.tree ∙ ap v.Verbatim b.same ∙ sym (free-Verbatim na ne t));
        on = b.on;
        part = onward b.part a.part;
      }

  variadic_at : {a : List A} {i : Ident} {c : token.Colon} {d : token.DotDotDot} {o : Option Comma} {l n j m k : Toks} (b : List A) → Same (word i l) k → (part clearly).attrs b m k → na b ≡ na a → is_name i.text ≡ true →
      IsMark true c l n → IsMark true d n j → IsOptional (IsMark true) o j done → Kept (free.variadic na ne) (IsVariadic part clearly) (variadic_of a (Some (i, c)) d o) m
  variadic_at b (same_word {t = t} {b = f} s) at h n i j k =
      let c = mark_moves i s in
      let d = mark_moves j c.on in
      let o = optional_moves tokens.mark k d.on (λ x l r m. mark_moves) in
      record {
        tree = variadic_of b (Some (ident t f, c.tree)) d.tree o.tree;
        is = named_dots at n c.is d.is (ended o);
        same = of4 (λ (b : List A) (c : token.Colon) (d : token.DotDotDot) (o : Option Comma). variadic_of b (Some (ident t none, c)) d o) h c.same d.same o.same;
      }

  variadic_moves : {x : FnPtrVariadicOf A} {l m : Toks} → IsVariadic part clearly x l → Same l m → Kept (free.variadic na ne) (IsVariadic part clearly) x m
  variadic_moves (dots i j k) s =
      let a = up.attrs _ _ _ _ i s in
      let d = mark_moves j a.on in
      let o = optional_moves tokens.mark k d.on (λ x l r m. mark_moves) in
      record { tree = variadic_of a.tree None d.tree o.tree; is = dots a.is d.is (ended o); same = of3 (λ (b : List A) (d : token.DotDotDot) (o : Option Comma). variadic_of b None d o) a.same d.same o.same }
  variadic_moves (named_dots i n j k h) s = let a = up.attrs _ _ _ _ i s in variadic_at a.tree a.on a.is a.same n j k h

  abbrev Inputs : Type 0
  Inputs = Many (NamedArg A E) Comma × Option (FnPtrVariadicOf A)

  abbrev inputs : Inputs → Inputs
  inputs x = (tokens.many (free.named_arg na ne) tokens.mark x.0, option_map (free.variadic na ne) x.1)

  inputs_move : {x : Many (NamedArg A E) Comma} {o : Option (FnPtrVariadicOf A)} {l m : Toks} → AreInputs part clearly x o l → Same l m → Kept inputs (λ z. AreInputs part clearly z.0 z.1) (x, o) m
  inputs_move (plain_inputs i) s =
      let t = listed_move (free.named_arg na ne) tokens.mark i s (λ b x l r m. named_arg_moves) (λ x l r m. mark_moves) in
      record { tree = ((t.values, t.marks), None); is = plain_inputs (listed_ended t); same = ap₂ (λ (x : List (NamedArg A E)) (y : List Comma). ((x, y), None)) t.same t.same_marks }
  inputs_move (variadic_inputs i j) s =
      let t = marked_move (free.named_arg na ne) tokens.mark i s (λ b x l r m. named_arg_moves) (λ x l r m. mark_moves) in
      let q = variadic_moves j t.on in
      record { tree = ((t.values, t.marks), Some q.tree); is = variadic_inputs t.is q.is; same = of3 (λ (x : List (NamedArg A E)) (y : List Comma) (o : FnPtrVariadicOf A). ((x, y), Some o)) t.same t.same_marks q.same }

  fn_at : {e : End} {b : Option (BoundLifetimes A E)} {u : Option token.Unsafe} {i : Option Abi} {w : token.Fn} {s : DelimSpan} {v : Many (NamedArg A E) Comma} {d : Option (FnPtrVariadicOf A)} {o : ReturnType A E} {c j r m k : Toks}
      (b' : Option (BoundLifetimes A E)) (u' : Option token.Unsafe) (i' : Option Abi) (w' : token.Fn) (x y z : Toks) → Same (group Parenthesis s c j) k → Rest k m → IsOptional (IsFor part clearly) b' m x → IsOptional IsWord u' x y → IsOptional IsAbi i' y z →
      IsWord w' z k → option_map (free.bound_lifetimes na ne) b' ≡ option_map (free.bound_lifetimes na ne) b → option_map tokens.word u' ≡ option_map tokens.word u → option_map free.abi i' ≡ option_map free.abi i → tokens.word w' ≡ tokens.word w →
      AreInputs part clearly v d c → IsReturn part clearly NoPlus e o j r → Moved (free.fn_ptr na ne) (IsFnPtr part clearly e) (fn_ptr_with [] b u i w (groups.paren s) v d o) r m
  fn_at {b = b} {u = u} {i = i} {w = w} {s = s} {v = v} {d = d} {o = o} b' u' i' w' x y z (same_group {b = f} vis h q) g ib iu ii iw eb eu ei ew inp out =
      let t = inputs_move inp h in
      let p = return_moves na ne part up out q in
      record {
        tree = fn_ptr_with [] b' u' i' w' (groups.paren f) t.tree.0 t.tree.1 p.tree;
        rest = p.rest;
        is = a_fn_ptr ib iu ii iw t.is p.is;
        same =
            free-fn-ptr na ne [] b' u' i' w' (groups.paren f) t.tree.0 t.tree.1 p.tree
            ∙ more (more (of4 {R = Inputs → ReturnType A E → TypeFnPtr A E} (λ (b : Option (BoundLifetimes A E)) (u : Option token.Unsafe) (i : Option Abi) (w : token.Fn) (t : Inputs) (o : ReturnType A E). fn_ptr_with (na []) b u i w (groups.paren (delim_span none none)) t.0 t.1 o) eb eu ei ew) t.same) p.same
            ∙ sym (free-fn-ptr na ne [] b u i w (groups.paren s) v d o);
        on = p.on;
        part = onward p.part (onward (past_group all_left) g);
      }

  pub fn_ptr_moves : {e : End} {x : TypeFnPtr A E} {l r m : Toks} → IsFnPtr part clearly e x l r → Same l m → Moved (free.fn_ptr na ne) (IsFnPtr part clearly e) x r m
  fn_ptr_moves (a_fn_ptr i j k w t o) s =
      let a = optional_for_moves na ne part up i s in
      let b = optional_moves tokens.word j a.on (λ x l r m. word_moves) in
      let c = optional_moves free.abi k b.on (λ x l r m. abi_moves) in
      let d = word_moves w c.on in
      fn_at a.tree b.tree c.tree d.tree _ _ _ d.on (onward d.part (onward c.part (onward b.part a.part))) a.is b.is c.is d.is a.same b.same c.same d.same t o

  -- ---- what is held verbatim

  builtin_last : (place : TypePlace) {i x : Ident} {d : DelimSpan} {c r m k g : Toks} (b : Option (BoundLifetimes A E)) (q : token.Pound) → Same (word i (group Parenthesis d c r)) g → Rest g k → Rest (word x k) m → IsOptional (IsFor part clearly) b m (word x k) →
      is_text builtin_text x.text ≡ true → IsMark true q k g → is_ident i.text ≡ true → MovedForm (IsVerbatimType part clearly place closed) r m
  builtin_last place b q (same_word (same_group v h s)) w z o t mk n = record { rest = _; is = a_builtin o t mk n; on = s; part = onward (past_word (past_group all_left)) (onward w (onward (past_word all_left) z)) }

  builtin_at : (place : TypePlace) {w i : Ident} {p : token.Pound} {d : DelimSpan} {l c r m k : Toks} (b : Option (BoundLifetimes A E)) → Same (word w l) k → Rest k m → IsOptional (IsFor part clearly) b m k → is_text builtin_text w.text ≡ true →
      IsMark true p l (word i (group Parenthesis d c r)) → is_ident i.text ≡ true → MovedForm (IsVerbatimType part clearly place closed) r m
  builtin_at place b (same_word s) z o t mk n = let q = mark_moves mk s in builtin_last place b q.tree q.on q.part z o t q.is n

  verbatim_moves : {place : TypePlace} {e : End} {l r m : Toks} → IsVerbatimType part clearly place e l r → Same l m → MovedForm (IsVerbatimType part clearly place e) r m
  verbatim_moves (an_unsafe_binder i j k t g y) s =
      let a = optional_for_moves na ne part up i s in
      let b = word_moves j a.on in
      let c = mark_moves k b.on in
      let d = listed_move tokens.lifetime tokens.mark t c.on (λ b x l r m. lifetime_moves) (λ x l r m. mark_moves) in
      let f = mark_moves g d.on in
      let h = up.ty _ _ _ _ _ _ y f.on in
      record { rest = h.rest; is = an_unsafe_binder a.is b.is c.is d.is f.is h.is; on = h.on; part = onward h.part (onward f.part (onward d.part (onward c.part (onward b.part a.part)))) }
  verbatim_moves (a_dyn_star i j k) s =
      let a = word_moves i s in
      let b = mark_moves j a.on in
      let c = object_bounds_move na ne part up k b.on in
      record { rest = c.rest; is = a_dyn_star a.is b.is c.is; on = c.on; part = onward c.part (onward b.part a.part) }
  verbatim_moves {place} (a_builtin i h j n) s = let a = optional_for_moves na ne part up i s in builtin_at place a.tree a.on a.part a.is h j n

  -- ---- a type

  abbrev Named : Type 0
  Named = Option (QSelf A E) × Path A E

  pub type_moves : {place : TypePlace} {e : End} {x : TypeTree A E} {l r m : Toks} → IsType part clearly place e x l r → Same l m → Moved (free.ty na ne) (IsType part clearly place e) x r m
  type_moves (a_path_type {o = o} {p = p} i) s =
      let q = no_try_moves na ne part up i s in
      record {
        tree = v.Path (qualified_with [] q.tree.0 q.tree.1);
        rest = q.rest;
        is = a_path_type q.is;
        same =
            free-Path na ne (qualified_with [] q.tree.0 q.tree.1)
            ∙ ap v.Path (free-path-type na ne [] q.tree.0 q.tree.1 ∙ ap (λ (z : Named). qualified_with (na []) z.0 z.1) q.same ∙ sym (free-path-type na ne [] o p))
            ∙ sym (free-Path na ne (qualified_with [] o p));
        on = q.on;
        part = q.part;
      }
  type_moves (a_macro i) s = put_in (λ x. v.Macro (macro_type_of x)) (λ x. v.Macro (macro_type_with (na []) x)) (λ x. free-Macro na ne (macro_type_of x)) (λ y k i. a_macro i) (type_call_moves i s)
  type_moves (a_bound_macro {x = x} i j h) s =
      let a = for_moves na ne part up i s in
      let q = type_call_moves j a.on in
      record {
        tree = v.Macro (macro_type_of q.tree);
        rest = q.rest;
        is = a_bound_macro a.is q.is (sym (mark_seen _ a.on) ∙ h);
        same = free-Macro na ne (macro_type_of q.tree) ∙ ap (λ (z : Macro). v.Macro (macro_type_with (na []) z)) q.same ∙ sym (free-Macro na ne (macro_type_of x));
        on = q.on;
        part = onward q.part a.part;
      }
  type_moves (an_object_with_dyn i) s = put_in v.TraitObject v.TraitObject (free-TraitObject na ne) (λ y k i. an_object_with_dyn i) (dyn_moves na ne part up i s)
  type_moves (an_object_without_dyn i) s =
      put_in (λ w. v.TraitObject (trait_object_with [] None w)) (λ w. v.TraitObject (trait_object_with (na []) None w)) (λ w. free-TraitObject na ne (trait_object_with [] None w)) (λ y k i. an_object_without_dyn i) (bare_bounds_move na ne part up i s)
  type_moves (an_impl_type i) s = put_in v.ImplTrait v.ImplTrait (free-ImplTrait na ne) (λ y k i. an_impl_type i) (impl_moves na ne part up i s)
  type_moves (a_fn_type i) s = put_in v.FnPtr v.FnPtr (free-FnPtr na ne) (λ y k i. a_fn_type i) (fn_ptr_moves i s)
  type_moves (a_ptr_type i) s = put_in v.Ptr v.Ptr (free-Ptr na ne) (λ y k i. a_ptr_type i) (pointer_moves i s)
  type_moves (a_reference_type i) s = put_in v.Reference v.Reference (free-Reference na ne) (λ y k i. a_reference_type i) (borrow_moves i s)
  type_moves (a_paren_type i) s = put_in v.Paren v.Paren (free-Paren na ne) (λ y k i. a_paren_type i) (enclosed_moves i s)
  type_moves (a_tuple_type i) s = put_in v.Tuple v.Tuple (free-Tuple na ne) (λ y k i. a_tuple_type i) (tupled_moves (λ l m s h. sym (lifetime_seen s) ∙ h) i s)
  type_moves (a_slice_type i) s = put_in v.Slice v.Slice (free-Slice na ne) (λ y k i. a_slice_type i) (bracketed_moves i s)
  type_moves (an_array_type i) s = put_in v.Array v.Array (free-Array na ne) (λ y k i. an_array_type i) (counted_moves i s)
  type_moves (an_infer_type i) s = put_in v.Infer v.Infer (free-Infer na ne) (λ y k i. an_infer_type i) (infer_moves na ne i s)
  type_moves (a_never_type i) s = put_in v.Never v.Never (free-Never na ne) (λ y k i. a_never_type i) (never_moves na ne i s)
  type_moves (a_verbatim_type {t = t} (i, h)) s = put_in v.Verbatim v.Verbatim (free-Verbatim na ne) (λ y k i. a_verbatim_type i) (held_moves t h s (verbatim_moves i s))
