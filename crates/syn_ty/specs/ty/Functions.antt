-- Which lists pointers to functions spell, and their arguments.
use Rattle.std.specs.Prelude.{◌≡◌, ◌&&◌, ◌||◌, Bool, true, List, [], Option, Some, None}
use Rattle.token_core.specs.declared.lit.LitStr.{LitStr}
use Rattle.token_core.specs.declared.span.DelimSpan.{DelimSpan}
use Rattle.token_core.specs.declared.tree.Delimiter.TheVariants.{Parenthesis}
use Rattle.token_core.specs.declared.tree.Ident.{Ident}
use Rattle.token_core.specs.Trees.{TokenStream}
use Rattle.token_core.specs.Groups as groups
use Rattle.token_core.specs.Listed.{AreListed, Anywhere}
use Rattle.token_core.specs.Loops.{Many}
use Rattle.token_core.specs.Reads.{is_ident, is_text}
use Rattle.token_core.specs.Spellings.{IsMark, IsWord, IsStr}
use Rattle.token_core.specs.Toks.{Bytes, Toks, done, word, group}
use Rattle.syn_forms.specs.declared.places.TypePlace.TheVariants.{Plus, NoPlus}
use Rattle.syn_ty.specs.declared.ty.Abi.{Abi}
use Rattle.syn_ty.specs.declared.ty.FnPtrVariadicOf.{FnPtrVariadicOf}
use Rattle.syn_ty.specs.declared.ty.TypeOf.TheVariants as v
use Rattle.syn_ty.specs.generics.Bounds.{IsFor}
use Rattle.syn_ty.specs.path.Signed.{IsReturn}
use Rattle.syn_ty.specs.ty.Parts.{Manner, is_clear, End, Parts, IsVerbatim, AreMarked}
use Rattle.syn_ty.specs.ty.Spelling.{IsOptional}
use Rattle.syn_ty.specs.ty.Trees.{BoundLifetimes, NamedArg, ReturnType, TypeFnPtr, TypeTree}
use Rattle.syn_ty.specs.ty.Types.{fn_ptr_with, named_arg_of, variadic_of}
use Rattle.token_core.specs.Tokens as token

-- `extern`, and perhaps a string
pub data IsAbi : Abi → Toks → Toks → Type 0 where
  an_abi : {w : token.Extern} {o : Option LitStr} {l m r : Toks} → IsWord w l m → IsOptional IsStr o m r → IsAbi (record { extern_token = w; name = o }) l r

-- an `Ident` or `_`
abbrev pub is_name : Bytes → Bool
is_name t = is_ident t || is_text token.underscore_text t

-- the name of an argument: of the first one also `self`
abbrev pub is_argument_name : Bool → Bytes → Bool
is_argument_name first t = is_name t || (first && is_text token.self_value_text t)

module _ {A E : Type 0} (part : Manner → Parts A E) (how : Manner) where
  -- `mut self`, `mut self: T` and `x: mut self`: there is no tree for these
  pub data IsMutSelf : Toks → Toks → Type 0 where
    mut_self : {u : token.Mut} {w : token.SelfValue} {l m r : Toks} → IsWord u l m → IsWord w m r → IsMutSelf l r
    mut_self_typed : {u : token.Mut} {w : token.SelfValue} {c : token.Colon} {e : End} {x : TypeTree A E} {l m n k r : Toks} →
        IsWord u l m → IsWord w m n → IsMark (is_clear how) c n k → (part how).ty Plus e x k r → IsMutSelf l r
    named_mut_self : {i : Ident} {c : token.Colon} {u : token.Mut} {w : token.SelfValue} {l m n r : Toks} →
        is_name i.text ≡ true → IsMark (is_clear how) c l m → IsWord u m n → IsWord w n r → IsMutSelf (word i l) r

module _ {A E : Type 0} (part : Manner → Parts A E) (how : Manner) where
  -- an argument, whether it is the first one: a type, perhaps after a name and `:`; as the first one also what is about `mut self`, held verbatim
  pub data IsNamedArg : Bool → NamedArg A E → Toks → Toks → Type 0 where
    an_argument : {first : Bool} {a : List A} {e : End} {x : TypeTree A E} {l m r : Toks} → (part how).attrs a l m → (part how).ty Plus e x m r → IsNamedArg first (named_arg_of a None x) l r
    a_named_argument : {first : Bool} {a : List A} {i : Ident} {c : token.Colon} {e : End} {x : TypeTree A E} {l m n r : Toks} →
        (part how).attrs a l (word i m) → is_argument_name first i.text ≡ true → IsMark (is_clear how) c m n → (part how).ty Plus e x n r → IsNamedArg first (named_arg_of a (Some (i, c)) x) l r
    a_verbatim_argument : {a : List A} {t : TokenStream} {l m r : Toks} → (part how).attrs a l m → IsVerbatim (IsMutSelf part) how t m r → IsNamedArg true (named_arg_of a None (v.Verbatim t)) l r

  -- perhaps an `Ident` or `_` and `:`; `...`; and perhaps a comma
  pub data IsVariadic : FnPtrVariadicOf A → Toks → Type 0 where
    dots : {a : List A} {d : token.DotDotDot} {o : Option token.Comma} {l m n : Toks} → (part how).attrs a l m → IsMark (is_clear how) d m n → IsOptional (IsMark (is_clear how)) o n done → IsVariadic (variadic_of a None d o) l
    named_dots : {a : List A} {i : Ident} {c : token.Colon} {d : token.DotDotDot} {o : Option token.Comma} {l m n k : Toks} →
        (part how).attrs a l (word i m) → is_name i.text ≡ true → IsMark (is_clear how) c m n → IsMark (is_clear how) d n k → IsOptional (IsMark (is_clear how)) o k done → IsVariadic (variadic_of a (Some (i, c)) d o) l

  -- what the parentheses hold: arguments joined by commas, of which there may be none and the last may have its comma; or arguments that each have their comma, and a variadic
  pub data AreInputs : Many (NamedArg A E) token.Comma → Option (FnPtrVariadicOf A) → Toks → Type 0 where
    plain_inputs : {xs : List (NamedArg A E)} {cs : List token.Comma} {l : Toks} → AreListed IsNamedArg (IsMark (is_clear how)) Anywhere true xs cs l done → AreInputs (xs, cs) None l
    variadic_inputs : {xs : List (NamedArg A E)} {cs : List token.Comma} {x : FnPtrVariadicOf A} {l m : Toks} → AreMarked IsNamedArg (IsMark (is_clear how)) true xs cs l m → IsVariadic x m → AreInputs (xs, cs) (Some x) l

  -- perhaps a binder, perhaps `unsafe`, perhaps an ABI; `fn`; the arguments in parentheses; and an output without plus
  pub data IsFnPtr : End → TypeFnPtr A E → Toks → Toks → Type 0 where
    a_fn_ptr : {e : End} {b : Option (BoundLifetimes A E)} {u : Option token.Unsafe} {i : Option Abi} {w : token.Fn} {s : DelimSpan} {v : Many (NamedArg A E) token.Comma} {d : Option (FnPtrVariadicOf A)}
        {o : ReturnType A E} {l m n k c j r : Toks} → IsOptional (IsFor part how) b l m → IsOptional IsWord u m n → IsOptional IsAbi i n k → IsWord w k (group Parenthesis s c j) → AreInputs v d c →
        IsReturn part how NoPlus e o j r → IsFnPtr e (fn_ptr_with [] b u i w (groups.paren s) v d o) l r
