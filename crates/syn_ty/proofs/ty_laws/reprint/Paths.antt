-- Segments and paths print clearly in their normal form in each style, where the arguments of a segment do; and what does not begin with `try` prints no `try` at its start.
use Rattle.std.proofs.Common.{◌≡◌, ℕ, zero, suc, Bool, true, false, List, [], ◌++◌, Option, refl, sym, ◌∙◌, ap, subst}
use Rattle.syn_ty.proofs.ty_laws.words.Tokens.{Ident, AreListed, none_left, last_value, value_and_mark, Nowhere, Many, Print, sees_word, IsMark, is_mark, last_char, more_chars, Toks, row}
use Rattle.syn_ty.proofs.ty_laws.words.Paths.{PathStyle, AsWritten, segment_of, path_of, NormalValues, SpelledValues, Values}
use Rattle.syn_ty.proofs.ty_laws.words.Forms.{is_named_word, with_arguments}
use Rattle.syn_ty.proofs.ty_laws.words.Types.{many, Sep, no_arguments, is_segment_word, Styled, IsSegment, a_word, a_word_with_arguments, AreSegments, IsPath, a_path, Manner, plainly, clearly, Parts, absent, present, turn, spelt_to, Path, PathArguments, PathSegment}
use Rattle.token_core.specs.Prints as p
use Rattle.token_core.specs.Tokens as token
use Rattle.token_core.proofs.MarkSpells.{mark_again}
use Rattle.token_core.proofs.Rebuilds.{tree-ident}
use Rattle.token_core.proofs.Rows.{row-append}
use Rattle.syn_path.proofs.Words.{AgainFront}
use Rattle.syn_ty.specs.path.Printing as paths
use Rattle.syn_ty.specs.ty.Normal as normal
use Rattle.syn_ty.specs.ty.Printing as printing
use Rattle.syn_ty.proofs.ty_laws.reprint.Within.{Again}
use Rattle.syn_ty.proofs.ty_laws.reprint.Angles.{Then, then_front, made_front, IsIdent, ident_front, optional_front, arguments_again}
use Rattle.syn_ty.proofs.ty_laws.reprint.Normals.{normal-None}
use Rattle.syn_ty.proofs.ty_laws.Prints.{arguments-None}
use Rattle.syn_ty.proofs.ty_laws.reprint.Leaves.{mark_front, listed_front}

-- neither `::` nor `<` is `try`
sep_no_try : (c : Sep) (l r : Toks) → IsMark true c l r → token.sees_try l ≡ false
unfolding sees_word
sep_no_try c l r (is_mark (more_chars x)) = refl

pub lt_no_try : (c : token.Lt) (l r : Toks) → IsMark true c l r → token.sees_try l ≡ false
unfolding sees_word
lt_no_try c l r (is_mark (last_char x)) = refl

module _ {A E : Type 0} (na : List A → List A) (ne : NormalValues E) (pa : List A → Print) (pe : Values E) (part : Manner → Parts A E) where
  -- the arguments of a segment that may stand in this style print clearly in it
  abbrev pub IsStyled : PathStyle → PathArguments A E → Toks → Toks → Type 0
  IsStyled style z l r = Styled style l × (part clearly).arguments z l r

  abbrev pub StyledAgain : PathStyle → Type 0
  StyledAgain style = (x : PathArguments A E) (l r : Toks) → Styled style l → (part plainly).arguments x l r → AgainFront (IsStyled style) (normal.arguments na ne) (printing.arguments pa pe style) x l r

  -- in that of types each does
  pub written_again : Again na ne pa pe part → StyledAgain AsWritten
  written_again again x l r s i = let k = again.arguments x l r i in record { spelt = λ h. (tt, k.spelt h); visible = k.visible; seen = k.seen; stays = k.stays; same = k.same }

  module _ (style : PathStyle) (styled : StyledAgain style) where
    abbrev make_segment : Ident × PathArguments A E → PathSegment A E
    make_segment z = with_arguments z.0 z.1

    named : (z : Ident × PathArguments A E) (l r : Toks) → Then (IsIdent is_named_word) (IsStyled style) z l r → IsSegment part clearly style (make_segment z) l r
    named z l r i = subst (λ k. IsSegment part clearly style (make_segment z) k r) (sym i.1.1) (a_word_with_arguments i.1.0 i.2.0 i.2.1)

    pub segment_again : (x : PathSegment A E) (l r : Toks) → IsSegment part plainly style x l r → AgainFront (IsSegment part clearly style) (normal.segment na ne) (paths.segment pa pe style) x l r
    segment_again x l r (a_word {i = i} h) =
        made_front (IsIdent is_segment_word) (IsSegment part clearly style) (λ (z : Ident). z) (normal.segment na ne) (λ (z : Ident). p.ident z) (paths.segment pa pe style) (segment_of no_arguments)
        (λ x l r i. subst (λ k. IsSegment part clearly style (segment_of no_arguments x) k r) (sym i.1) (a_word i.0))
        (λ x. ap (λ z. segment_of z x) (normal-None na ne)) (λ x. ap (λ z. p.ident x ++ z) (arguments-None pa pe style)) i l r (ident_front is_segment_word i r h)
    segment_again x l r (a_word_with_arguments {i = i} {x = y} {l = m} h s t) =
        made_front (Then (IsIdent is_named_word) (IsStyled style)) (IsSegment part clearly style) _ (normal.segment na ne) _ (paths.segment pa pe style) make_segment named (λ x. refl) (λ x. refl) (i, y) l r
        (then_front (ident_front is_named_word i m h) (styled y m r s t))

    -- segments joined by `::`
    abbrev pub Segments : Many (PathSegment A E) Sep → Toks → Toks → Type 0
    Segments z = AreSegments part clearly style z.0 z.1

    pub segments_again : (xs : List (PathSegment A E)) (cs : List Sep) (l r : Toks) → AreSegments part plainly style xs cs l r →
        AgainFront Segments (many (normal.segment na ne)) (paths.segments pa pe style) (xs, cs) l r
    segments_again xs cs l r i =
        listed_front (λ (b : Bool). IsSegment part plainly style) (λ (b : Bool). IsSegment part clearly style) (IsMark false) (IsMark true) Nowhere (normal.segment na ne) (paths.segment pa pe style) p.mark
        (λ b. segment_again) mark_front true xs cs l r i

    pub path_again : (x : Path A E) (l r : Toks) → IsPath part plainly style x l r → AgainFront (IsPath part clearly style) (normal.path na ne) (paths.path pa pe style) x l r
    path_again x l r (a_path {c = c} {xs = xs} {cs = cs} {m = m} i t) =
        made_front (Then _ Segments) (IsPath part clearly style) _ (normal.path na ne) _ (paths.path pa pe style) (λ (z : Option Sep × Many (PathSegment A E) Sep). path_of z.0 z.1)
        (λ x l r i. a_path i.1 i.2) (λ x. refl) (λ x. refl) (c, (xs, cs)) l r (then_front (optional_front c l m i) (segments_again xs cs m r t))

    -- ---- what begins with `try`

    -- a segment prints the word that it begins with
    segment_try : (x : PathSegment A E) (l r k : Toks) → IsSegment part plainly style x l r → token.sees_try (row (paths.segment pa pe style x) k) ≡ token.sees_try l
    unfolding sees_word
    segment_try x l r k (a_word {i = i} h) = ap token.sees_try (tree-ident i (row (printing.arguments pa pe style no_arguments) k))
    segment_try x l r k (a_word_with_arguments {i = i} {x = y} h s t) = ap token.sees_try (tree-ident i (row (printing.arguments pa pe style y) k))

    segments_try : (b : Bool) (xs : List (PathSegment A E)) (cs : List Sep) (l r k : Toks) → AreListed (λ (_ : Bool). IsSegment part plainly style) (IsMark false {n = 1} {k = 2}) Nowhere b xs cs l r →
        token.sees_try (row (paths.segments pa pe style (xs, cs)) k) ≡ token.sees_try l
    segments_try b xs cs l r k (none_left u) = absurd u
    segments_try b xs cs l r k (last_value {x = x} i) = ap token.sees_try (row-append (paths.segment pa pe style x) [] k) ∙ segment_try x l r k i
    segments_try b xs cs l r k (value_and_mark {x = x} {p = c} {xs = ys} {ps = ds} {m = m} i j t) =
        let more = p.mark c ++ paths.segments pa pe style (ys, ds) in
        ap token.sees_try (row-append (paths.segment pa pe style x) more k) ∙ segment_try x l m (row more k) i

    pub path_no_try : (x : Path A E) (l r k : Toks) → token.sees_try l ≡ false → IsPath part plainly style x l r → token.sees_try (row (paths.path pa pe style x) k) ≡ false
    path_no_try x l r k h (a_path {xs = xs} {cs = cs} absent t) = segments_try true xs cs l r k t ∙ h
    path_no_try x l r k h (a_path {xs = xs} {cs = cs} {m = m} (present {a = c} i) t) =
        let rest = row (paths.segments pa pe style (xs, cs)) k in
        ap token.sees_try (row-append (p.mark c) (paths.segments pa pe style (xs, cs)) k) ∙ sep_no_try c (row (p.mark c) rest) rest (mark_again false c l m rest i)

-- ---- in the style of types

module _ {A E : Type 0} (na : List A → List A) (ne : NormalValues E) (pa : List A → Print) (pe : Values E) (part : Manner → Parts A E) (again : Again na ne pa pe part) where
  pub segment_written_again : (x : PathSegment A E) (l r : Toks) → IsSegment part plainly AsWritten x l r → AgainFront (IsSegment part clearly AsWritten) (normal.segment na ne) (paths.segment pa pe AsWritten) x l r
  segment_written_again = segment_again na ne pa pe part AsWritten (written_again na ne pa pe part again)

  pub path_written_again : (x : Path A E) (l r : Toks) → IsPath part plainly AsWritten x l r → AgainFront (IsPath part clearly AsWritten) (normal.path na ne) (paths.path pa pe AsWritten) x l r
  path_written_again = path_again na ne pa pe part AsWritten (written_again na ne pa pe part again)

-- ---- where the relations are tied

module _ {A E : Type 0} (na : List A → List A) (ne : NormalValues E) (pa : List A → Print) (pe : Values E) (attrs : Bool → List A → Toks → Toks → Type 0) (values : SpelledValues E) (style : PathStyle) where
  pub turn_styled : (part : Manner → Parts A E) → Again na ne pa pe part → StyledAgain na ne pa pe (turn attrs values part) style
  turn_styled part again x l r s i = arguments_again na ne pa pe part again style x l r s i

  -- at each height, where it is so at those below
  pub styled_to : ((n : ℕ) → Again na ne pa pe (spelt_to attrs values n)) → (n : ℕ) → StyledAgain na ne pa pe (spelt_to attrs values n) style
  styled_to again zero x l r s i = absurd i
  styled_to again (suc n) x l r s i = turn_styled (spelt_to attrs values n) (again n) x l r s i
