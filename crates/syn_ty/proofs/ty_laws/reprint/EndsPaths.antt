-- Paths and their arguments do not end in a mark that is glued to what follows, but perhaps in a `!`, where what stands within them does not.
use Rattle.std.proofs.Common.{List, Option}
use Rattle.syn_ty.proofs.ty_laws.words.Tokens.{is_mark, Bytes, Toks}
use Rattle.syn_ty.proofs.ty_laws.words.Paths.{PathStyle, Ended, Shut}
use Rattle.syn_ty.proofs.ty_laws.words.Forms.{TypePlace}
use Rattle.syn_ty.proofs.ty_laws.words.Types.{Sep, IsReturn, no_output, an_output, IsParens, a_parens, IsDropped, nothing_dropped, a_sep_dropped, a_pair_dropped, IsSigned, a_signed, AreSigned, signed_last, signed_after, IsBoundPath, without_parens, with_parens, IsAngle, an_angle, IsArguments, IsSegment, a_word, a_word_with_arguments, AreSegments, IsPath, a_path, IsQualified, by_type, by_type_as_path, IsAnyPath, unqualified, qualified, Manner, clearly, End, Parts, AngleBracketed, Parenthesized, Path, PathArguments, PathSegment, QSelf, ReturnType}
use Rattle.syn_path.proofs.Ends.{chars_on, group_on, listed_on, listed_over, word_on, word_over}
use Rattle.syn_ty.specs.path.Spelling.{some_arguments}
use Rattle.syn_ty.proofs.ty_laws.reprint.EndsParts.{Ending, comma_on, gt_over, optional_on, sep_on}

module _ {A E : Type 0} (part : Manner → Parts A E) (up : Ending (part clearly)) where
  -- ---- arguments in angle brackets

  pub angle_over : {x : AngleBracketed A E} {l r : Toks} → IsAngle part clearly x l r → Shut r → Ended l
  angle_over (an_angle i (is_mark j) v g) h = optional_on i sep_on (chars_on j (listed_on (λ b. up.argument) comma_on v (gt_over g h)))

  pub arguments_over : {x : PathArguments A E} {l r : Toks} → IsArguments part clearly x l r → Shut r → Ended l
  arguments_over (some_arguments i) h = angle_over i h

  -- ---- paths in a style

  pub segment_over : {style : PathStyle} {x : PathSegment A E} {l r : Toks} → IsSegment part clearly style x l r → Shut r → Ended l
  segment_over (a_word w) h = word_on _ _ h
  segment_over (a_word_with_arguments w s i) h = let k = up.arguments _ _ _ i h in word_on _ _ k.apart

  pub segments_over : {style : PathStyle} {xs : List (PathSegment A E)} {cs : List Sep} {l r : Toks} → AreSegments part clearly style xs cs l r → Shut r → Ended l
  segments_over i h = listed_over (λ b x l r j u. segment_over j u) sep_on (λ b e. e) i h

  pub path_over : {style : PathStyle} {x : Path A E} {l r : Toks} → IsPath part clearly style x l r → Shut r → Ended l
  path_over (a_path i j) h = optional_on i sep_on (segments_over j h)

  -- ---- qualified paths

  qualified_over : {style : PathStyle} {x : QSelf A E} {p : Path A E} {l r : Toks} → IsQualified part clearly style x p l r → Shut r → Ended l
  qualified_over (by_type (is_mark i) t (is_mark g) (is_mark c) j) h =
      let k = chars_on g (chars_on c (segments_over j h)) in
      chars_on i (up.ty _ _ _ _ _ t k.apart)
  qualified_over (by_type_as_path (is_mark i) t n w p (is_mark g) (is_mark c) j) h =
      let k = chars_on g (chars_on c (segments_over j h)) in
      let m = path_over p k.apart in
      let o = word_over w m.apart in
      chars_on i (up.ty _ _ _ _ _ t o.apart)

  pub any_path_over : {style : PathStyle} {x : Option (QSelf A E)} {p : Path A E} {l r : Toks} → IsAnyPath part clearly style x p l r → Shut r → Ended l
  any_path_over (unqualified i) h = path_over i h
  any_path_over (qualified i) h = qualified_over i h

  -- ---- arguments in parentheses

  pub return_shut : {place : TypePlace} {e : End} {x : ReturnType A E} {l r : Toks} → IsReturn part clearly place e x l r → Shut r → Shut l
  return_shut no_output h = h
  return_shut (an_output (is_mark c) i) h = let k = chars_on c (up.ty _ _ _ _ _ i h) in k.apart

  pub parens_over : {e : End} {x : Parenthesized A E} {l r : Toks} → IsParens part clearly e x l r → Shut r → Ended l
  parens_over (a_parens i j) h = group_on _ _ _ _ (return_shut j h)

  -- ---- the path of a trait bound

  dropped_on : {t : Bytes} {l r : Toks} → IsDropped part clearly t l r → Ended r → Ended l
  dropped_on nothing_dropped h = h
  dropped_on (a_sep_dropped (is_mark c)) h = chars_on c h
  dropped_on (a_pair_dropped w i (is_mark j) (is_mark g) c) h = optional_on i sep_on (chars_on j (chars_on g (optional_on c sep_on h)))

  signed_over : {e : End} {x : PathSegment A E} {l r : Toks} → IsSigned part clearly e x l r → Shut r → Ended l
  signed_over (a_signed w i j) h = let k = dropped_on i (parens_over j h) in word_on _ _ k.apart

  all_signed_over : {e : End} {xs : List (PathSegment A E)} {cs : List Sep} {l r : Toks} → AreSigned part clearly e xs cs l r → Shut r → Ended l
  all_signed_over (signed_last i) h = signed_over i h
  all_signed_over (signed_after i (is_mark c) j) h = let k = chars_on c (all_signed_over j h) in segment_over i k.apart

  pub bound_path_over : {e : End} {x : Path A E} {l r : Toks} → IsBoundPath part clearly e x l r → Shut r → Ended l
  bound_path_over (without_parens i) h = path_over i h
  bound_path_over (with_parens c i) h = optional_on c sep_on (all_signed_over i h)
