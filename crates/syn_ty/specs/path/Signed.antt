-- Which lists arguments in parentheses spell, and the path of a trait bound, whose last segment may have them.
use Rattle.std.specs.Prelude.{◌≡◌, Bool, true, List, [], ◌∷◌, Option, None}
use Rattle.token_core.specs.declared.span.DelimSpan.{DelimSpan}
use Rattle.token_core.specs.declared.tree.Delimiter.TheVariants.{Parenthesis}
use Rattle.token_core.specs.declared.tree.Ident.{Ident}
use Rattle.token_core.specs.Groups as groups
use Rattle.token_core.specs.Listed.{AreListed, Anywhere}
use Rattle.token_core.specs.Spellings.{IsMark}
use Rattle.token_core.specs.Toks.{Bytes, Toks, done, word, group}
use Rattle.syn_path.specs.declared.path.PathStyle.TheVariants.{AsWritten}
use Rattle.syn_path.specs.path.Paths.{path_of}
use Rattle.syn_forms.specs.declared.places.TypePlace.{TypePlace}
use Rattle.syn_forms.specs.declared.places.TypePlace.TheVariants.{Plus, NoPlus}
use Rattle.syn_forms.specs.paths.Reading.{is_named_word, with_arguments}
use Rattle.syn_ty.specs.declared.path.PathArgumentsOf.TheVariants as a
use Rattle.syn_ty.specs.declared.ty.ReturnTypeOf.TheVariants as output
use Rattle.syn_ty.specs.path.Paths.{Sep, parens_of}
use Rattle.syn_ty.specs.path.Spelling.{is_segment_word, IsSegment, IsPath}
use Rattle.syn_ty.specs.ty.Parts.{Manner, is_clear, End, closed, Parts}
use Rattle.syn_ty.specs.ty.Spelling.{IsOptional}
use Rattle.syn_ty.specs.ty.Trees.{NamedArg, Parenthesized, Path, PathSegment, ReturnType, TypeTree}
use Rattle.syn_ty.specs.ty.Types.{named_arg_of}
use Rattle.token_core.specs.Tokens as token

module _ {A E : Type 0} (part : Manner → Parts A E) (how : Manner) where
  -- ---- arguments in parentheses

  -- nothing, or `->` and a type in this place
  pub data IsReturn (place : TypePlace) : End → ReturnType A E → Toks → Toks → Type 0 where
    no_output : {r : Toks} → IsReturn place closed output.Default r r
    an_output : {e : End} {c : token.RArrow} {x : TypeTree A E} {l m r : Toks} → IsMark (is_clear how) c l m → (part how).ty place e x m r → IsReturn place e (output.«Type» c x) l r

  -- a type alone, without attributes and name
  pub data IsInput : NamedArg A E → Toks → Toks → Type 0 where
    an_input : {e : End} {x : TypeTree A E} {l r : Toks} → (part how).ty Plus e x l r → IsInput (named_arg_of [] None x) l r

  -- parentheses that hold types joined by commas, of which there may be none and the last may have its comma, and an output without plus
  pub data IsParens : End → Parenthesized A E → Toks → Toks → Type 0 where
    a_parens : {s : DelimSpan} {e : End} {xs : List (NamedArg A E)} {cs : List token.Comma} {o : ReturnType A E} {c m r : Toks} →
        AreListed (λ (_ : Bool). IsInput) (IsMark (is_clear how)) Anywhere true xs cs c done → IsReturn NoPlus e o m r → IsParens e (parens_of (groups.paren s) (xs, cs) o) (group Parenthesis s c m) r

  -- ---- the path of a trait bound

  -- What may stand between the word of a segment and its parentheses, and is dropped: `::`; and after a word that may have angle arguments an empty pair, before and after which `::` may stand.
  pub data IsDropped (t : Bytes) : Toks → Toks → Type 0 where
    nothing_dropped : {r : Toks} → IsDropped t r r
    a_sep_dropped : {c : Sep} {l r : Toks} → IsMark (is_clear how) c l r → IsDropped t l r
    a_pair_dropped : {b c : Option Sep} {o : token.Lt} {g : token.Gt} {l m n k r : Toks} → is_named_word t ≡ true →
        IsOptional (IsMark (is_clear how)) b l m → IsMark (is_clear how) o m n → IsMark (is_clear how) g n k → IsOptional (IsMark (is_clear how)) c k r → IsDropped t l r

  -- a segment with arguments in parentheses, whatever its word
  pub data IsSigned : End → PathSegment A E → Toks → Toks → Type 0 where
    a_signed : {i : Ident} {e : End} {x : Parenthesized A E} {l m r : Toks} → is_segment_word i.text ≡ true → IsDropped i.text l m → IsParens e x m r → IsSigned e (with_arguments i (a.Parenthesized x)) (word i l) r

  -- segments in the style of types, of which the last has arguments in parentheses
  pub data AreSigned : End → List (PathSegment A E) → List Sep → Toks → Toks → Type 0 where
    signed_last : {e : End} {s : PathSegment A E} {l r : Toks} → IsSigned e s l r → AreSigned e (s ∷ []) [] l r
    signed_after : {e : End} {s : PathSegment A E} {c : Sep} {xs : List (PathSegment A E)} {cs : List Sep} {l m k r : Toks} →
        IsSegment part how AsWritten s l m → IsMark (is_clear how) c m k → AreSigned e xs cs k r → AreSigned e (s ∷ xs) (c ∷ cs) l r

  -- a path in the style of types, or one whose last segment has arguments in parentheses
  pub data IsBoundPath : End → Path A E → Toks → Toks → Type 0 where
    without_parens : {p : Path A E} {l r : Toks} → IsPath part how AsWritten p l r → IsBoundPath closed p l r
    with_parens : {e : End} {c : Option Sep} {xs : List (PathSegment A E)} {cs : List Sep} {l m r : Toks} → IsOptional (IsMark (is_clear how)) c l m → AreSigned e xs cs m r → IsBoundPath e (path_of c (xs, cs)) l r
