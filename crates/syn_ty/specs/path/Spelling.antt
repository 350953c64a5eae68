-- Which lists paths with their arguments spell, in the style of types and of expressions, and paths that a type qualifies.
use Rattle.std.specs.Prelude.{◌≡◌, ◌||◌, Bool, true, false, length, List, Option, Some, None}
use Rattle.token_core.specs.declared.tree.Ident.{Ident}
use Rattle.token_core.specs.Listed.{AreListed, Anywhere, Nowhere}
use Rattle.token_core.specs.Spellings.{IsMark, IsWord}
use Rattle.token_core.specs.Toks.{Bytes, Toks, word}
use Rattle.syn_path.specs.declared.path.PathStyle.{PathStyle}
use Rattle.syn_path.specs.declared.path.PathStyle.TheVariants.{AsWritten, Expr}
use Rattle.syn_path.specs.path.Paths.{segment_of, path_of}
use Rattle.syn_forms.specs.declared.places.TypePlace.TheVariants.{Plus}
use Rattle.syn_forms.specs.paths.Reading.{is_bare_word, is_named_word, longer, with_arguments}
use Rattle.syn_ty.specs.declared.path.PathArgumentsOf.TheVariants as a
use Rattle.syn_ty.specs.path.Paths.{Sep, angle_of, no_arguments}
use Rattle.syn_ty.specs.ty.Parts.{Manner, is_clear, End, Parts}
use Rattle.syn_ty.specs.ty.Spelling.{IsOptional}
use Rattle.syn_ty.specs.ty.Trees.{AngleBracketed, GenericArgument, Path, PathArguments, PathSegment, QSelf, TypeTree}
use Rattle.syn_ty.specs.ty.Types.{qself_of}
use Rattle.token_core.specs.Tokens as token

-- an `Ident` or `Self`, which may have arguments, or `self`, `super`, `crate` or `try`, which have none in angle brackets
abbrev pub is_segment_word : Bytes → Bool
is_segment_word t = is_named_word t || is_bare_word t

-- in expressions `::` stands before the arguments
abbrev pub Styled : PathStyle → Toks → Type 0
Styled AsWritten l = Unit {0}
Styled Expr l = token.sees_path_sep l ≡ true

module _ {A E : Type 0} (part : Manner → Parts A E) (how : Manner) where
  -- ---- arguments in angle brackets

  -- perhaps `::`, and between angle marks arguments joined by commas: there may be none, and the last may have its comma
  pub data IsAngle : AngleBracketed A E → Toks → Toks → Type 0 where
    an_angle : {c : Option Sep} {o : token.Lt} {xs : List (GenericArgument A E)} {cs : List token.Comma} {g : token.Gt} {l m n k r : Toks} →
        IsOptional (IsMark (is_clear how)) c l m → IsMark (is_clear how) o m n → AreListed (λ (_ : Bool). (part how).argument) (IsMark (is_clear how)) Anywhere true xs cs n k → IsMark (is_clear how) g k r →
        IsAngle (angle_of c o (xs, cs) g) l r

  -- as the arguments of a segment
  pub data IsArguments : PathArguments A E → Toks → Toks → Type 0 where
    some_arguments : {x : AngleBracketed A E} {l r : Toks} → IsAngle x l r → IsArguments (a.AngleBracketed x) l r

  -- ---- paths in a style

  module _ (style : PathStyle) where
    pub data IsSegment : PathSegment A E → Toks → Toks → Type 0 where
      a_word : {i : Ident} {r : Toks} → is_segment_word i.text ≡ true → IsSegment (segment_of no_arguments i) (word i r) r
      a_word_with_arguments : {i : Ident} {x : PathArguments A E} {l r : Toks} → is_named_word i.text ≡ true → Styled style l → (part how).arguments x l r → IsSegment (with_arguments i x) (word i l) r

    -- segments joined by `::`: one or more, and no `::` after the last
    abbrev pub AreSegments : List (PathSegment A E) → List Sep → Toks → Toks → Type 0
    AreSegments = AreListed (λ (_ : Bool). IsSegment) (IsMark (is_clear how)) Nowhere true

    -- perhaps a leading `::`, and the segments
    pub data IsPath : Path A E → Toks → Toks → Type 0 where
      a_path : {c : Option Sep} {xs : List (PathSegment A E)} {cs : List Sep} {l m r : Toks} → IsOptional (IsMark (is_clear how)) c l m → AreSegments xs cs m r → IsPath (path_of c (xs, cs)) l r

  -- ---- qualified paths

  module _ (style : PathStyle) where
    -- `<`, a type, `>`, `::` and segments: the `::` is the path's leading one. With `as` and a path in the style of types before the `>`, the segments go on with that path, and it has the
    -- leading `::`; the type before `as` does not end in the `+` of a list.
    pub data IsQualified : QSelf A E → Path A E → Toks → Toks → Type 0 where
      by_type : {o : token.Lt} {e : End} {x : TypeTree A E} {g : token.Gt} {c : Sep} {xs : List (PathSegment A E)} {cs : List Sep} {l m n k j r : Toks} →
          IsMark (is_clear how) o l m → (part how).ty Plus e x m n → IsMark (is_clear how) g n k → IsMark (is_clear how) c k j → AreSegments style xs cs j r →
          IsQualified (qself_of o x 0 None g) (path_of (Some c) (xs, cs)) l r
      by_type_as_path : {o : token.Lt} {e : End} {x : TypeTree A E} {w : token.As} {p : Path A E} {g : token.Gt} {c : Sep} {xs : List (PathSegment A E)} {cs : List Sep} {l m n k j i h r : Toks} →
          IsMark (is_clear how) o l m → (part how).ty Plus e x m n → e.in_plus ≡ false → IsWord w n k → IsPath AsWritten p k j → IsMark (is_clear how) g j i → IsMark (is_clear how) c i h →
          AreSegments style xs cs h r → IsQualified (qself_of o x (length p.segments.0) (Some w) g) (longer p c (xs, cs)) l r

    -- a path that a type may qualify
    pub data IsAnyPath : Option (QSelf A E) → Path A E → Toks → Toks → Type 0 where
      unqualified : {p : Path A E} {l r : Toks} → IsPath style p l r → IsAnyPath None p l r
      qualified : {q : QSelf A E} {p : Path A E} {l r : Toks} → IsQualified q p l r → IsAnyPath (Some q) p l r

    -- which does not begin with `try`
    abbrev pub IsNoTry : Option (QSelf A E) → Path A E → Toks → Toks → Type 0
    IsNoTry q p l r = IsAnyPath q p l r × (token.sees_try l ≡ false)
