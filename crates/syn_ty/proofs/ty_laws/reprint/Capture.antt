-- A capture prints its normal form clearly: its lifetimes first, with a comma that stands nowhere where the last one has none and others follow.
use Rattle.std.proofs.Common.{◌≡◌, Bool, true, false, List, [], ◌∷◌, ◌++◌, map, refl, sym, ◌∙◌, ap, subst}
use Rattle.syn_ty.proofs.ty_laws.words.Tokens.{AreListed, Anywhere, Many, Visible, IsMark, Toks, row}
use Rattle.syn_ty.proofs.ty_laws.words.Types.{CapturedParam, PreciseCapture, IsCaptured, a_lifetime_captured, a_name_captured, IsCapture, a_capture, sort, sorted, capture, Comma}
use Rattle.token_core.specs.Prints as p
use Rattle.token_core.proofs.Rebuilds.{tree-ident}
use Rattle.token_core.proofs.Rows.{row-append}
use Rattle.syn_path.proofs.Words.{AgainFront}
use Rattle.syn_forms.proofs.tokens_laws.Mutability.{word_front}
use Rattle.syn_ty.specs.declared.generics.CapturedParam.TheVariants as captured
use Rattle.syn_ty.specs.generics.Params.{capture_of}
use Rattle.syn_ty.specs.generics.Shapes as shapes
use Rattle.syn_ty.specs.generics.Shapes.{is_captured_lifetime}
use Rattle.syn_ty.proofs.ty_laws.reprint.AnglesSorted.{normal_sorted, sorted_again}
use Rattle.syn_ty.proofs.ty_laws.reprint.Leaves.{mark_front}
use Rattle.syn_ty.proofs.ty_laws.reprint.Signatures.{lifetime_front}
use Rattle.syn_ty.proofs.ty_laws.reprint.Steps.{within_front}

pub captured_again : (x : CapturedParam) (l r : Toks) → IsCaptured x l r → AgainFront IsCaptured (λ (z : CapturedParam). z) shapes.captured x l r
captured_again x l r (a_lifetime_captured {x = y} i) =
    let k = lifetime_front y l r i in
    record { spelt = λ h. a_lifetime_captured (k.spelt h); visible = λ h u w. k.visible h u w; seen = λ u. k.seen u; stays = refl; same = refl }
captured_again x l r (a_name_captured {i = i} h) =
    record {
      spelt = λ k. subst (λ z. IsCaptured (captured.Ident i) z k) (sym (tree-ident i k)) (a_name_captured h);
      visible = λ k u w. subst Visible (sym (tree-ident i k)) w;
      seen = λ u. u;
      stays = refl;
      same = refl;
    }

abbrev Captured : Type 0
Captured = Many CapturedParam Comma

abbrev Are : Bool → Captured → Toks → Toks → Type 0
Are clear z = AreListed (λ (_ : Bool). IsCaptured) (IsMark clear) Anywhere true z.0 z.1

abbrev first_ones : Captured → Captured
first_ones = sort is_captured_lifetime

abbrev each_first : Captured → Captured
each_first = normal_sorted IsCaptured IsCaptured (λ (z : CapturedParam). z) shapes.captured captured_again is_captured_lifetime (λ x. refl)

same_values : (xs : List CapturedParam) → map (λ (z : CapturedParam). z) xs ≡ xs
same_values [] = refl
same_values (x ∷ xs) = ap (λ z. x ∷ z) (same_values xs)

pub captures_again : (xs : List CapturedParam) (cs : List Comma) (l r : Toks) → AreListed (λ (_ : Bool). IsCaptured) (IsMark false) Anywhere true xs cs l r →
    AgainFront (λ (z : Captured). AreListed (λ (_ : Bool). IsCaptured) (IsMark true) Anywhere true z.0 z.1) (sort is_captured_lifetime) (sorted is_captured_lifetime shapes.captured) (xs, cs) l r
captures_again xs cs l r i =
    let shown = sorted is_captured_lifetime shapes.captured in
    within_front (Are true) (Are true) first_ones each_first shown shown (λ v. v) (λ (v : Captured). ap (λ z. first_ones (z, v.1)) (sym (same_values v.0))) (λ v k b i. i) (λ v. refl) (xs, cs) l r
    (sorted_again IsCaptured IsCaptured (λ (z : CapturedParam). z) shapes.captured captured_again is_captured_lifetime (λ x. refl) xs cs l r i)

pub capture_again : (x : PreciseCapture) (l r : Toks) → IsCapture false x l r → AgainFront (IsCapture true) capture shapes.capture x l r
capture_again x l r (a_capture {u = a} {o = o} {xs = xs} {cs = cs} {g = g} {l = b} {m = m} {n = n} {k = j} h i t e) =
    let w = word_front a l m h in
    let d = mark_front o m n i in
    let k = captures_again xs cs n j t in
    let f = mark_front g j r e in
    let all = sorted is_captured_lifetime shapes.captured (xs, cs) in
    let end = λ (q : Toks). row (p.mark g) q in
    let rest = λ (q : Toks). row all (end q) in
    let more = λ (q : Toks). row (p.mark o) (rest q) in
    let seen = λ (q : Toks). row-append (p.word a) (p.mark o ++ (all ++ p.mark g)) q ∙ ap (row (p.word a)) (row-append (p.mark o) (all ++ p.mark g) q ∙ ap (row (p.mark o)) (row-append all (p.mark g) q)) in
    record {
      spelt = λ q. subst (λ z. IsCapture true (capture_of a o (first_ones (xs, cs)) g) z q) (sym (seen q)) (a_capture (w.spelt (more q)) (d.spelt (rest q)) (k.spelt (end q)) (f.spelt q));
      visible = λ q u v. subst Visible (sym (seen q)) (w.visible (more q) u (d.visible (rest q) (w.seen u) (k.visible (end q) (d.seen (w.seen u)) (f.visible q (k.seen (d.seen (w.seen u))) v))));
      seen = λ u. f.seen (k.seen (d.seen (w.seen u)));
      stays = ap (λ z. capture_of a o z g) k.stays;
      same = ap (λ z. p.word a ++ (p.mark o ++ (z ++ p.mark g))) k.same;
    }
