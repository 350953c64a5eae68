-- Paths and their arguments are spelt clearly before other tokens too, where what stands within them is.
use Rattle.std.proofs.Common.{true, List, Option, refl, ◌∙◌}
use Rattle.syn_ty.proofs.ty_laws.words.Tokens.{IsMark, Bytes, Toks}
use Rattle.syn_ty.proofs.ty_laws.words.Paths.{PathStyle, AsWritten, Expr, Calm, Moved}
use Rattle.syn_ty.proofs.ty_laws.words.Forms.{TypePlace}
use Rattle.syn_ty.proofs.ty_laws.words.Types.{Sep, IsReturn, no_output, an_output, IsParens, a_parens, IsDropped, nothing_dropped, a_sep_dropped, a_pair_dropped, IsSigned, a_signed, AreSigned, signed_last, signed_after, IsBoundPath, without_parens, with_parens, Styled, IsAngle, an_angle, IsArguments, IsSegment, a_word, a_word_with_arguments, AreSegments, IsPath, a_path, IsQualified, by_type, by_type_as_path, IsAnyPath, unqualified, qualified, IsNoTry, Manner, clearly, End, Parts, AngleBracketed, Parenthesized, Path, PathArguments, PathSegment, QSelf, ReturnType}
use Rattle.syn_path.specs.Ends.{before}
use Rattle.syn_path.proofs.Ends.{shut_of}
use Rattle.syn_path.proofs.Moves.{steady, free_moves, listed_moves, lt_moves, word_moves, words_before}
use Rattle.syn_ty.specs.path.Spelling.{some_arguments}
use Rattle.syn_ty.proofs.ty_laws.reprint.EndsPaths.{any_path_over}
use Rattle.syn_ty.proofs.ty_laws.reprint.MovesParts.{Moving, optional_moves, sep_there}

module _ {A E : Type 0} (part : Manner → Parts A E) (k : Toks) (up : Moving k (part clearly)) where
  abbrev Seps : Type 0
  Seps = (c : Sep) (l r : Toks) → IsMark true c l r → Calm l → Moved (IsMark true c) k l r

  seps : Seps
  seps c l r i q = free_moves (λ l. refl) k i q

  -- ---- arguments in angle brackets

  pub angle_moves : {x : AngleBracketed A E} {l r : Toks} → IsAngle part clearly x l r → Calm l → Moved (IsAngle part clearly x) k l r
  angle_moves (an_angle i j v g) q =
      let a = optional_moves k i q seps in
      let b = lt_moves k j a.calm in
      let w = listed_moves k v b.calm (λ b. up.argument) (λ p l r i q. free_moves (λ l. refl) k i q) in
      let c = free_moves (λ l. refl) k g w.calm in
      record { calm = c.calm; is = an_angle a.is b.is w.is c.is }

  pub arguments_move : {x : PathArguments A E} {l r : Toks} → IsArguments part clearly x l r → Calm l → Moved (IsArguments part clearly x) k l r
  arguments_move (some_arguments i) q = let a = angle_moves i q in record { calm = a.calm; is = some_arguments a.is }

  -- ---- paths in a style

  styled_moves : (style : PathStyle) (l : Toks) → Styled style l → Calm l → Styled style (before l k)
  styled_moves AsWritten l h q = tt
  styled_moves Expr l h q = (steady k l (sep_there l h) q).sep ∙ h

  pub segment_moves : {style : PathStyle} {x : PathSegment A E} {l r : Toks} → IsSegment part clearly style x l r → Calm l → Moved (IsSegment part clearly style x) k l r
  segment_moves (a_word w) q = record { calm = q; is = a_word w }
  segment_moves {style = style} (a_word_with_arguments {l = m} w s i) q = let a = up.arguments _ _ _ i q in record { calm = a.calm; is = a_word_with_arguments w (styled_moves style m s q) a.is }

  pub segments_move : {style : PathStyle} {xs : List (PathSegment A E)} {cs : List Sep} {l r : Toks} → AreSegments part clearly style xs cs l r → Calm l → Moved (AreSegments part clearly style xs cs) k l r
  segments_move i q = listed_moves k i q (λ b x l r j u. segment_moves j u) seps

  pub path_moves : {style : PathStyle} {x : Path A E} {l r : Toks} → IsPath part clearly style x l r → Calm l → Moved (IsPath part clearly style x) k l r
  path_moves (a_path i j) q = let a = optional_moves k i q seps in let b = segments_move j a.calm in record { calm = b.calm; is = a_path a.is b.is }

  -- ---- qualified paths

  pub qualified_moves : {style : PathStyle} {x : QSelf A E} {p : Path A E} {l r : Toks} → IsQualified part clearly style x p l r → Calm l → Moved (IsQualified part clearly style x p) k l r
  qualified_moves (by_type i t g c j) q =
      let a = lt_moves k i q in
      let b = up.ty _ _ _ _ _ t a.calm in
      let d = free_moves (λ l. refl) k g b.calm in
      let e = free_moves (λ l. refl) k c d.calm in
      let f = segments_move j e.calm in
      record { calm = f.calm; is = by_type a.is b.is d.is e.is f.is }
  qualified_moves (by_type_as_path i t n w p g c j) q =
      let a = lt_moves k i q in
      let b = up.ty _ _ _ _ _ t a.calm in
      let u = word_moves k w b.calm in
      let v = path_moves p u.calm in
      let d = free_moves (λ l. refl) k g v.calm in
      let e = free_moves (λ l. refl) k c d.calm in
      let f = segments_move j e.calm in
      record { calm = f.calm; is = by_type_as_path a.is b.is n u.is v.is d.is e.is f.is }

  pub any_path_moves : {style : PathStyle} {x : Option (QSelf A E)} {p : Path A E} {l r : Toks} → IsAnyPath part clearly style x p l r → Calm l → Moved (IsAnyPath part clearly style x p) k l r
  any_path_moves (unqualified i) q = let a = path_moves i q in record { calm = a.calm; is = unqualified a.is }
  any_path_moves (qualified i) q = let a = qualified_moves i q in record { calm = a.calm; is = qualified a.is }

  pub no_try_moves : {style : PathStyle} {x : Option (QSelf A E)} {p : Path A E} {l r : Toks} → IsNoTry part clearly style x p l r → Calm l → Moved (IsNoTry part clearly style x p) k l r
  no_try_moves {l = l} {r = r} (i, h) q =
      let a = any_path_moves i q in
      let u = any_path_over part up.ends i (shut_of r a.calm) in
      record { calm = a.calm; is = (a.is, words_before k l u.there _ ∙ h) }

  -- ---- arguments in parentheses

  pub return_moves : {place : TypePlace} {e : End} {x : ReturnType A E} {l r : Toks} → IsReturn part clearly place e x l r → Calm l → Moved (IsReturn part clearly place e x) k l r
  return_moves no_output q = record { calm = q; is = no_output }
  return_moves (an_output c i) q = let a = free_moves (λ l. refl) k c q in let b = up.ty _ _ _ _ _ i a.calm in record { calm = b.calm; is = an_output a.is b.is }

  pub parens_move : {e : End} {x : Parenthesized A E} {l r : Toks} → IsParens part clearly e x l r → Calm l → Moved (IsParens part clearly e x) k l r
  parens_move (a_parens i j) q = let a = return_moves j q in record { calm = a.calm; is = a_parens i a.is }

  -- ---- the path of a trait bound

  dropped_moves : {t : Bytes} {l r : Toks} → IsDropped part clearly t l r → Calm l → Moved (IsDropped part clearly t) k l r
  dropped_moves nothing_dropped q = record { calm = q; is = nothing_dropped }
  dropped_moves (a_sep_dropped c) q = let a = free_moves (λ l. refl) k c q in record { calm = a.calm; is = a_sep_dropped a.is }
  dropped_moves (a_pair_dropped w i j g c) q =
      let a = optional_moves k i q seps in
      let b = lt_moves k j a.calm in
      let d = free_moves (λ l. refl) k g b.calm in
      let e = optional_moves k c d.calm seps in
      record { calm = e.calm; is = a_pair_dropped w a.is b.is d.is e.is }

  signed_moves : {e : End} {x : PathSegment A E} {l r : Toks} → IsSigned part clearly e x l r → Calm l → Moved (IsSigned part clearly e x) k l r
  signed_moves (a_signed w i j) q = let a = dropped_moves i q in let b = parens_move j a.calm in record { calm = b.calm; is = a_signed w a.is b.is }

  all_signed_move : {e : End} {xs : List (PathSegment A E)} {cs : List Sep} {l r : Toks} → AreSigned part clearly e xs cs l r → Calm l → Moved (AreSigned part clearly e xs cs) k l r
  all_signed_move (signed_last i) q = let a = signed_moves i q in record { calm = a.calm; is = signed_last a.is }
  all_signed_move (signed_after i c j) q =
      let a = segment_moves i q in
      let b = free_moves (λ l. refl) k c a.calm in
      let d = all_signed_move j b.calm in
      record { calm = d.calm; is = signed_after a.is b.is d.is }

  pub bound_path_moves : {e : End} {x : Path A E} {l r : Toks} → IsBoundPath part clearly e x l r → Calm l → Moved (IsBoundPath part clearly e x) k l r
  bound_path_moves (without_parens i) q = let a = path_moves i q in record { calm = a.calm; is = without_parens a.is }
  bound_path_moves (with_parens c i) q = let a = optional_moves k c q seps in let b = all_signed_move i a.calm in record { calm = b.calm; is = with_parens a.is b.is }
