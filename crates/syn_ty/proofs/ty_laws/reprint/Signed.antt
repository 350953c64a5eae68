-- The path of a bound prints its normal form clearly, where what it holds does: what stood between the last word and its parentheses is not printed.
use Rattle.std.proofs.Common.{◌≡◌, false, true, List, [], ◌∷◌, ◌++◌, map, Option, refl, sym, ◌∙◌, ap, subst}
use Rattle.syn_ty.proofs.ty_laws.words.Tokens.{Ident, none_left, last_value, value_and_mark, Many, Print, sees_mark, sees_word, Visible, IsMark, is_mark, more_chars, Bytes, Toks, word, row}
use Rattle.syn_ty.proofs.ty_laws.words.Paths.{AsWritten, path_of, NormalValues, Values}
use Rattle.syn_ty.proofs.ty_laws.words.Forms.{with_arguments}
use Rattle.syn_ty.proofs.ty_laws.words.Types.{many, Sep, IsDropped, nothing_dropped, a_sep_dropped, a_pair_dropped, IsSigned, a_signed, AreSigned, signed_last, signed_after, IsBoundPath, without_parens, with_parens, IsPath, a_path, AreSegments, IsSegment, a_word, a_word_with_arguments, Manner, plainly, clearly, End, Parts, IsOptional, absent, present, Parenthesized, Path, PathSegment}
use Rattle.token_core.specs.Prints as p
use Rattle.token_core.specs.Tokens as token
use Rattle.token_core.proofs.MarkSpells.{mark_again, mark_seen, mark_visible}
use Rattle.token_core.proofs.Rebuilds.{tree-ident}
use Rattle.token_core.proofs.Rows.{row-append}
use Rattle.syn_path.proofs.Words.{AgainFront}
use Rattle.syn_ty.specs.declared.path.PathArgumentsOf.TheVariants as a
use Rattle.syn_ty.specs.path.Printing.{segment, segments, path}
use Rattle.syn_ty.specs.path.Shapes.{colon}
use Rattle.syn_ty.specs.ty.Normal as normal
use Rattle.syn_ty.specs.ty.Printing as printing
use Rattle.syn_ty.proofs.ty_laws.reprint.Within.{Again, SuppliedAgain}
use Rattle.syn_ty.proofs.ty_laws.reprint.Normals.{normal-Parenthesized}
use Rattle.syn_ty.proofs.ty_laws.reprint.Paths.{path_written_again, segment_written_again}
use Rattle.syn_ty.proofs.ty_laws.Prints.{arguments-Parenthesized}
use Rattle.syn_ty.proofs.ty_laws.reprint.Leaves.{mark_front}
use Rattle.syn_ty.proofs.ty_laws.reprint.Signatures.{parens_again}

-- a leading `::`, where it is there
pub colon_front : (c : Option Sep) (l r : Toks) → IsOptional (IsMark false) c l r → AgainFront (IsOptional (IsMark true)) (λ (z : Option Sep). z) colon c l r
colon_front c l r absent = record { spelt = λ k. absent; visible = λ k u w. w; seen = λ u. u; stays = refl; same = refl }
colon_front c l r (present {a = m} i) = let h = mark_front m l r i in record { spelt = λ k. present (h.spelt k); visible = λ k u w. h.visible k u w; seen = λ u. h.seen u; stays = refl; same = refl }

-- ---- what begins a path begins its print

-- both begin with this word, or with this `::`
pub data Alike : Toks → Toks → Type 0 where
  by_word : {i : Ident} {l m : Toks} → Alike (word i l) (word i m)
  by_sep : {c : Sep} {l m n k : Toks} → IsMark false c l n → IsMark true c m k → Alike l m

pub alike_try : (l m : Toks) → Alike l m → token.sees_try l ≡ false → token.sees_try m ≡ false
unfolding sees_word
alike_try l m by_word h = h
alike_try l m (by_sep i (is_mark (more_chars y))) h = refl

pub alike_sep : (l m : Toks) → Alike l m → token.sees_path_sep l ≡ false → token.sees_path_sep m ≡ false
unfolding sees_mark
alike_sep l m by_word h = refl
alike_sep l m (by_sep {c = c} {n = n} i j) h = let g = mark_seen false c l n i in cc

module _ {A E : Type 0} (na : List A → List A) (ne : NormalValues E) (pa : List A → Print) (pe : Values E) (part : Manner → Parts A E) where
  segment_begins : (x : PathSegment A E) (l r k : Toks) (rest : Print) → IsSegment part plainly AsWritten x l r → Alike l (row (segment pa pe AsWritten x ++ rest) k)
  segment_begins x l r k rest (a_word {i = i} h) = subst (Alike l) (sym (tree-ident i (row (printing.arguments pa pe AsWritten x.arguments ++ rest) k))) by_word
  segment_begins x l r k rest (a_word_with_arguments {i = i} h s t) = subst (Alike l) (sym (tree-ident i (row (printing.arguments pa pe AsWritten x.arguments ++ rest) k))) by_word

  segments_begin : (xs : List (PathSegment A E)) (cs : List Sep) (l r k : Toks) → AreSegments part plainly AsWritten xs cs l r → Alike l (row (segments pa pe AsWritten (xs, cs)) k)
  segments_begin xs cs l r k (none_left h) = absurd h
  segments_begin xs cs l r k (last_value {x = x} i) = segment_begins x l r k [] i
  segments_begin xs cs l r k (value_and_mark {x = x} {p = c} {xs = ys} {ps = ds} {m = m} i j t) = segment_begins x l m k (p.mark c ++ segments pa pe AsWritten (ys, ds)) i

  pub path_begins : (x : Path A E) (l r k : Toks) → IsPath part plainly AsWritten x l r → Alike l (row (path pa pe AsWritten x) k)
  path_begins x l r k (a_path {xs = xs} {cs = cs} absent t) = segments_begin xs cs l r k t
  path_begins x l r k (a_path {xs = xs} {cs = cs} {m = m} (present {a = c} i) t) =
      let rest = segments pa pe AsWritten (xs, cs) in by_sep i (subst (λ z. IsMark true c z (row rest k)) (sym (row-append (p.mark c) rest k)) (mark_again false c l m (row rest k) i))

  -- ---- a path whose last segment may have arguments in parentheses

  dropped_visible : (t : Bytes) (l r : Toks) → IsDropped part plainly t l r → Visible l → Visible r
  dropped_visible t l r nothing_dropped u = u
  dropped_visible t l r (a_sep_dropped {c = c} i) u = mark_visible false c l r i u
  dropped_visible t l r (a_pair_dropped {b = b} {c = c} {o = o} {g = g} {m = m} {n = n} {k = k} w h i j d) u =
      (colon_front c k r d).seen (mark_visible false g n k j (mark_visible false o m n i ((colon_front b l m h).seen u)))

  abbrev args : Parenthesized A E → Print
  args y = printing.arguments pa pe AsWritten (a.Parenthesized y)

  args_are : (y : Parenthesized A E) → args y ≡ printing.parenthesized pa pe y
  args_are y = arguments-Parenthesized pa pe AsWritten y

  once : (y : Parenthesized A E) → normal.arguments na ne (a.Parenthesized y) ≡ a.Parenthesized (normal.parenthesized na ne y)
  once y = normal-Parenthesized na ne y

  module _ (again : Again na ne pa pe part) (supplied : SuppliedAgain na ne pa pe part) where
    pub signed_again : (e : End) (x : PathSegment A E) (l r : Toks) → IsSigned part plainly e x l r → AgainFront (IsSigned part clearly e) (normal.segment na ne) (segment pa pe AsWritten) x l r
    signed_again e x l r (a_signed {i = i} {x = y} {l = n} {m = m} h d j) =
        let k = parens_again na ne pa pe part again supplied e y m r j in
        let z = normal.parenthesized na ne y in
        let seen = λ (b : Toks). tree-ident i (row (args y) b) ∙ ap (λ q. word i (row q b)) (args_are y) in
        record {
          spelt = λ b. subst (λ q. IsSigned part clearly e (with_arguments i q) (row (segment pa pe AsWritten x) b) b) (sym (once y))
              (subst (λ q. IsSigned part clearly e (with_arguments i (a.Parenthesized z)) q b) (sym (seen b)) (a_signed h nothing_dropped (k.spelt b)));
          visible = λ b u w. subst Visible (sym (seen b)) (k.visible b (dropped_visible i.text n m d u) w);
          seen = λ u. k.seen (dropped_visible i.text n m d u);
          stays = ap (λ q. with_arguments i (normal.arguments na ne q)) (once y) ∙ ap (with_arguments i) (once z) ∙ ap (λ q. with_arguments i (a.Parenthesized q)) k.stays ∙ ap (with_arguments i) (sym (once y));
          same = ap (λ q. p.ident i ++ printing.arguments pa pe AsWritten q) (once y) ∙ ap (λ q. p.ident i ++ q) (args_are z ∙ k.same ∙ sym (args_are y));
        }

    pub are_signed_again : (e : End) (xs : List (PathSegment A E)) (cs : List Sep) (l r : Toks) → AreSigned part plainly e xs cs l r →
        AgainFront (λ (z : Many (PathSegment A E) Sep). AreSigned part clearly e z.0 z.1) (many (normal.segment na ne)) (segments pa pe AsWritten) (xs, cs) l r
    are_signed_again e xs cs l r (signed_last {s = x} i) =
        let k = signed_again e x l r i in
        let seen = λ (b : Toks). row-append (segment pa pe AsWritten x) [] b in
        record {
          spelt = λ b. subst (λ q. AreSigned part clearly e (normal.segment na ne x ∷ []) [] q b) (sym (seen b)) (signed_last (k.spelt b));
          visible = λ b u w. subst Visible (sym (seen b)) (k.visible b u w);
          seen = λ u. k.seen u;
          stays = ap (λ q. (q ∷ [], [])) k.stays;
          same = ap (λ q. q ++ []) k.same;
        }
    are_signed_again e xs cs l r (signed_after {s = x} {c = c} {xs = ys} {cs = ds} {m = m} {k = o} i j t) =
        let k = segment_written_again na ne pa pe part again x l m i in
        let d = mark_front c m o j in
        let h = are_signed_again e ys ds o r t in
        let rest = segments pa pe AsWritten (ys, ds) in
        let seen = λ (b : Toks). row-append (segment pa pe AsWritten x) (p.mark c ++ rest) b ∙ ap (row (segment pa pe AsWritten x)) (row-append (p.mark c) rest b) in
        record {
          spelt = λ b. subst (λ q. AreSigned part clearly e (normal.segment na ne x ∷ map (normal.segment na ne) ys) (c ∷ ds) q b) (sym (seen b)) (signed_after (k.spelt (row (p.mark c) (row rest b))) (d.spelt (row rest b)) (h.spelt b));
          visible = λ b u w. subst Visible (sym (seen b)) (k.visible (row (p.mark c) (row rest b)) u (d.visible (row rest b) (k.seen u) (h.visible b (d.seen (k.seen u)) w)));
          seen = λ u. h.seen (d.seen (k.seen u));
          stays = ap (λ q. (q ∷ map (normal.segment na ne) (map (normal.segment na ne) ys), c ∷ ds)) k.stays ∙ ap (λ (q : Many (PathSegment A E) Sep). (normal.segment na ne x ∷ q.0, c ∷ q.1)) h.stays;
          same = ap (λ q. q ++ (p.mark c ++ segments pa pe AsWritten (map (normal.segment na ne) ys, ds))) k.same ∙ ap (λ q. segment pa pe AsWritten x ++ (p.mark c ++ q)) h.same;
        }

    pub bound_path_again : (e : End) (x : Path A E) (l r : Toks) → IsBoundPath part plainly e x l r → AgainFront (IsBoundPath part clearly e) (normal.path na ne) (path pa pe AsWritten) x l r
    bound_path_again e x l r (without_parens i) = let k = path_written_again na ne pa pe part again x l r i in record { spelt = λ b. without_parens (k.spelt b); visible = λ b u w. k.visible b u w; seen = λ u. k.seen u; stays = k.stays; same = k.same }
    bound_path_again e x l r (with_parens {c = c} {xs = xs} {cs = cs} {m = m} i j) =
        let d = colon_front c l m i in
        let k = are_signed_again e xs cs m r j in
        let rest = segments pa pe AsWritten (xs, cs) in
        let seen = λ (b : Toks). row-append (colon c) rest b in
        record {
          spelt = λ b. subst (λ q. IsBoundPath part clearly e (path_of c (many (normal.segment na ne) (xs, cs))) q b) (sym (seen b)) (with_parens (d.spelt (row rest b)) (k.spelt b));
          visible = λ b u w. subst Visible (sym (seen b)) (d.visible (row rest b) u (k.visible b (d.seen u) w));
          seen = λ u. k.seen (d.seen u);
          stays = ap (path_of c) k.stays;
          same = ap (λ q. colon c ++ q) k.same;
        }
