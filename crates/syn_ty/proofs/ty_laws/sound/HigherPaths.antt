-- Paths and their arguments grow with what stands within: where the one grammar spells it, the other does.
use Rattle.std.proofs.Common.{List, Option}
use Rattle.syn_ty.proofs.ty_laws.words.Tokens.{Bytes, Toks}
use Rattle.syn_ty.proofs.ty_laws.words.Paths.{PathStyle}
use Rattle.syn_ty.proofs.ty_laws.words.Forms.{TypePlace}
use Rattle.syn_ty.proofs.ty_laws.words.Types.{Sep, IsReturn, no_output, an_output, IsInput, an_input, IsParens, a_parens, IsDropped, nothing_dropped, a_sep_dropped, a_pair_dropped, IsSigned, a_signed, AreSigned, signed_last, signed_after, IsBoundPath, without_parens, with_parens, IsAngle, an_angle, IsArguments, IsSegment, a_word, a_word_with_arguments, AreSegments, IsPath, a_path, IsQualified, by_type, by_type_as_path, IsAnyPath, unqualified, qualified, IsNoTry, Manner, End, Parts, AngleBracketed, NamedArg, Parenthesized, Path, PathArguments, PathSegment, QSelf, ReturnType}
use Rattle.syn_ty.specs.path.Spelling.{some_arguments}
use Rattle.syn_ty.proofs.ty_laws.sound.HigherParts.{Up, listed_up}

module _ {A E : Type 0} {part over : Manner → Parts A E} (up : (how : Manner) → Up (part how) (over how)) where
  -- ---- arguments in angle brackets

  pub angle_up : {how : Manner} {x : AngleBracketed A E} {l r : Toks} → IsAngle part how x l r → IsAngle over how x l r
  angle_up {how} (an_angle c o i g) = an_angle c o (listed_up i (λ b. (up how).argument)) g

  pub arguments_up : {how : Manner} {x : PathArguments A E} {l r : Toks} → IsArguments part how x l r → IsArguments over how x l r
  arguments_up (some_arguments i) = some_arguments (angle_up i)

  -- ---- paths in a style

  pub segment_up : {how : Manner} {style : PathStyle} {x : PathSegment A E} {l r : Toks} → IsSegment part how style x l r → IsSegment over how style x l r
  segment_up (a_word w) = a_word w
  segment_up {how} (a_word_with_arguments w s i) = a_word_with_arguments w s ((up how).arguments _ _ _ i)

  pub segments_up : {how : Manner} {style : PathStyle} {xs : List (PathSegment A E)} {cs : List Sep} {l r : Toks} → AreSegments part how style xs cs l r → AreSegments over how style xs cs l r
  segments_up i = listed_up i (λ b x l r j. segment_up j)

  pub path_up : {how : Manner} {style : PathStyle} {x : Path A E} {l r : Toks} → IsPath part how style x l r → IsPath over how style x l r
  path_up (a_path c i) = a_path c (segments_up i)

  -- ---- qualified paths

  pub qualified_up : {how : Manner} {style : PathStyle} {q : QSelf A E} {x : Path A E} {l r : Toks} → IsQualified part how style q x l r → IsQualified over how style q x l r
  qualified_up {how} (by_type o i g c j) = by_type o ((up how).ty _ _ _ _ _ i) g c (segments_up j)
  qualified_up {how} (by_type_as_path o i n w k g c j) = by_type_as_path o ((up how).ty _ _ _ _ _ i) n w (path_up k) g c (segments_up j)

  pub any_path_up : {how : Manner} {style : PathStyle} {q : Option (QSelf A E)} {x : Path A E} {l r : Toks} → IsAnyPath part how style q x l r → IsAnyPath over how style q x l r
  any_path_up (unqualified i) = unqualified (path_up i)
  any_path_up (qualified i) = qualified (qualified_up i)

  pub no_try_up : {how : Manner} {style : PathStyle} {q : Option (QSelf A E)} {x : Path A E} {l r : Toks} → IsNoTry part how style q x l r → IsNoTry over how style q x l r
  no_try_up i = (any_path_up i.0, i.1)

  -- ---- arguments in parentheses

  pub return_up : {how : Manner} {place : TypePlace} {e : End} {x : ReturnType A E} {l r : Toks} → IsReturn part how place e x l r → IsReturn over how place e x l r
  return_up no_output = no_output
  return_up {how} (an_output c i) = an_output c ((up how).ty _ _ _ _ _ i)

  pub input_up : {how : Manner} {x : NamedArg A E} {l r : Toks} → IsInput part how x l r → IsInput over how x l r
  input_up {how} (an_input i) = an_input ((up how).ty _ _ _ _ _ i)

  pub parens_up : {how : Manner} {e : End} {x : Parenthesized A E} {l r : Toks} → IsParens part how e x l r → IsParens over how e x l r
  parens_up (a_parens i j) = a_parens (listed_up i (λ b x l r k. input_up k)) (return_up j)

  -- ---- the path of a trait bound

  pub dropped_up : {how : Manner} {t : Bytes} {l r : Toks} → IsDropped part how t l r → IsDropped over how t l r
  dropped_up nothing_dropped = nothing_dropped
  dropped_up (a_sep_dropped c) = a_sep_dropped c
  dropped_up (a_pair_dropped w b o g c) = a_pair_dropped w b o g c

  pub signed_up : {how : Manner} {e : End} {x : PathSegment A E} {l r : Toks} → IsSigned part how e x l r → IsSigned over how e x l r
  signed_up (a_signed w d i) = a_signed w (dropped_up d) (parens_up i)

  pub all_signed_up : {how : Manner} {e : End} {xs : List (PathSegment A E)} {cs : List Sep} {l r : Toks} → AreSigned part how e xs cs l r → AreSigned over how e xs cs l r
  all_signed_up (signed_last i) = signed_last (signed_up i)
  all_signed_up (signed_after i c j) = signed_after (segment_up i) c (all_signed_up j)

  pub bound_path_up : {how : Manner} {e : End} {x : Path A E} {l r : Toks} → IsBoundPath part how e x l r → IsBoundPath over how e x l r
  bound_path_up (without_parens i) = without_parens (path_up i)
  bound_path_up (with_parens c i) = with_parens c (all_signed_up i)
