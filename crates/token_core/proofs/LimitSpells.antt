-- The limits of a range are read where they stand, and print themselves.
use Rattle.std.proofs.Common.{◌≡◌, Bool, true, false, ◌&&◌, not, Option, Ok, inl, inr, refl, ◌∙◌, ap, subst, arith}
use Rattle.token_core.specs.declared.span.Span.{Span}
use Rattle.token_core.specs.declared.range.RangeLimits.{RangeLimits}
use Rattle.token_core.specs.declared.range.RangeLimits.TheVariants as x
use Rattle.token_core.specs.Toks.{Toks}
use Rattle.token_core.specs.Trees.{row}
use Rattle.token_core.specs.Rebuilt.{Visible}
use Rattle.token_core.specs.Stream.{Scope, Stream}
use Rattle.token_core.specs.Marks as marks
use Rattle.token_core.specs.Reads.{sees_mark}
use Rattle.token_core.specs.Ranges.{DotDotEq, sees_dot2, sees_dot3, sees_dot2_eq, no_limits, read, closed_by, read_obsolete, print}
use Rattle.token_core.specs.Spellings.{last_char, more_chars, IsMark, is_mark, AreLimits, half_open, closed, AreOldLimits, new_limits, old_limits}
use Rattle.token_core.proofs.Took.{at, branch, mapped}
use Rattle.token_core.proofs.Steps.{Reads_to, link, chosen}
use Rattle.token_core.proofs.Unseen.{dots_apart, dots_no_eq}
use Rattle.token_core.proofs.MarkSpells.{Taken, mark_sound, mark_complete, mark_seen, mark_print, mark_length, mark_again, mark_visible, mark_whole}

-- ---- sound

pub limits_sound : (s t : Stream) (l : RangeLimits) → Visible s.rest → read s ≡ Ok (l, t) → Taken (AreLimits false) s t l
unfolding read
limits_sound s t l v e =
    elim (branch (sees_dot2_eq s.rest) _ _ s (Ok (l, t)) e) [
      | inl y ↦ let k = mapped (marks.read 10 3 s) x.Closed l t y.1 in
          let w = mark_sound {n = 10} {k = 3} refl (omega arith) s t k.value v k.was in
          record { spelt = subst (λ z. AreLimits false z s.rest t.rest) k.is (closed w.spelt); left = w.left }
      | inr y ↦ elim (branch (sees_dot2 s.rest && not (sees_dot3 s.rest)) _ _ s (Ok (l, t)) y.1) [
        | inl z ↦ let k = mapped (marks.read 8 2 s) x.HalfOpen l t z.1 in
            let w = mark_sound {n = 8} {k = 2} refl (omega arith) s t k.value v k.was in
            record { spelt = subst (λ u. AreLimits false u s.rest t.rest) k.is (half_open w.spelt); left = w.left }
        | inr z ↦ stuck z.1
      ]
    ]
  where
    stuck : no_limits s ≡ Ok (l, t) → Taken (AreLimits false) s t l
    stuck h = cc

pub old_limits_sound : (s t : Stream) (l : RangeLimits) → Visible s.rest → read_obsolete s ≡ Ok (l, t) → Taken (AreOldLimits false) s t l
unfolding read_obsolete
old_limits_sound s t l v e =
    elim (branch (sees_dot3 s.rest) _ _ s (Ok (l, t)) e) [
      | inl y ↦ let k = mapped (marks.read 9 3 s) closed_by l t y.1 in
          let w = mark_sound {n = 9} {k = 3} refl (omega arith) s t k.value v k.was in
          record { spelt = subst (λ z. AreOldLimits false z s.rest t.rest) k.is (old_limits w.spelt); left = w.left }
      | inr y ↦ let w = limits_sound s t l v y.1 in record { spelt = new_limits w.spelt; left = w.left }
    ]

-- ---- complete

-- `..=` is not `...`
eq_not_dots3 : (clear : Bool) (d : DotDotEq) (l r : Toks) → IsMark clear d l r → sees_dot3 l ≡ false
unfolding sees_mark
eq_not_dots3 clear d l r (is_mark (more_chars (more_chars (last_char a)))) = refl

pub limits_complete : (y : RangeLimits) (l r : Toks) (f : Option Span) (e : Span) (sc : Scope) → AreLimits true y l r → Reads_to read y l r f e sc
unfolding read
limits_complete y l r f e sc (half_open {d = d} i) =
    let q = mark_complete true {n = 8} {k = 2} refl (omega arith) d l r f e sc i in
    let seen : (sees_dot2 l && not (sees_dot3 l)) ≡ true = ap (λ b. b && not (sees_dot3 l)) (mark_seen true {n = 8} {k = 2} d l r i) ∙ ap not (dots_apart d l r i) in
    record { last = q.last; reads = chosen (sees_dot2_eq l) false _ _ (at l f e sc) _ (dots_no_eq d l r i) (chosen (sees_dot2 l && not (sees_dot3 l)) true _ _ (at l f e sc) _ seen (link _ q.reads refl)) }
limits_complete y l r f e sc (closed {d = d} i) =
    let q = mark_complete true {n = 10} {k = 3} refl (omega arith) d l r f e sc i in
    record { last = q.last; reads = chosen (sees_dot2_eq l) true _ _ (at l f e sc) _ (mark_seen true {n = 10} {k = 3} d l r i) (link _ q.reads refl) }

limits_not_old : (y : RangeLimits) (l r : Toks) → AreLimits true y l r → sees_dot3 l ≡ false
limits_not_old y l r (half_open {d = d} i) = dots_apart d l r i
limits_not_old y l r (closed {d = d} i) = eq_not_dots3 true d l r i

pub old_limits_complete : (y : RangeLimits) (l r : Toks) (f : Option Span) (e : Span) (sc : Scope) → AreOldLimits true y l r → Reads_to read_obsolete y l r f e sc
unfolding read_obsolete
old_limits_complete y l r f e sc (new_limits i) =
    let q = limits_complete y l r f e sc i in
    record { last = q.last; reads = chosen (sees_dot3 l) false _ _ (at l f e sc) _ (limits_not_old y l r i) q.reads }
old_limits_complete y l r f e sc (old_limits {d = d} i) =
    let q = mark_complete true {n = 9} {k = 3} refl (omega arith) d l r f e sc i in
    record { last = q.last; reads = chosen (sees_dot3 l) true _ _ (at l f e sc) _ (mark_seen true {n = 9} {k = 3} d l r i) (link _ q.reads refl) }

-- ---- print

pub limits_again : (clear : Bool) (y : RangeLimits) (l r h : Toks) → AreLimits clear y l r → AreLimits true y (row (print y) h) h
limits_again clear y l r h (half_open {d = d} i) = half_open (mark_again clear d l r h i)
limits_again clear y l r h (closed {d = d} i) = closed (mark_again clear d l r h i)

-- a kept `...` is printed as `..=`
pub old_limits_again : (clear : Bool) (y : RangeLimits) (l r h : Toks) → AreOldLimits clear y l r → AreOldLimits true y (row (print y) h) h
old_limits_again clear y l r h (new_limits i) = new_limits (limits_again clear y l r h i)
old_limits_again clear y l r h (old_limits {d = d} i) = new_limits (closed (mark_print {n = 10} {k = 3} (record { spans = d.spans }) h (mark_length clear d l r i)))

pub limits_visible : (clear : Bool) (y : RangeLimits) (l r : Toks) → AreLimits clear y l r → Visible l → Visible r
limits_visible clear y l r (half_open {d = d} i) v = mark_visible clear d l r i v
limits_visible clear y l r (closed {d = d} i) v = mark_visible clear d l r i v

pub old_limits_visible : (clear : Bool) (y : RangeLimits) (l r : Toks) → AreOldLimits clear y l r → Visible l → Visible r
old_limits_visible clear y l r (new_limits i) v = limits_visible clear y l r i v
old_limits_visible clear y l r (old_limits {d = d} i) v = mark_visible clear d l r i v

pub limits_whole : (clear : Bool) (y : RangeLimits) (l r : Toks) → AreLimits clear y l r → Visible r → Visible l
limits_whole clear y l r (half_open {d = d} i) v = mark_whole clear d l r i v
limits_whole clear y l r (closed {d = d} i) v = mark_whole clear d l r i v

pub old_limits_whole : (clear : Bool) (y : RangeLimits) (l r : Toks) → AreOldLimits clear y l r → Visible r → Visible l
old_limits_whole clear y l r (new_limits i) v = limits_whole clear y l r i v
old_limits_whole clear y l r (old_limits {d = d} i) v = mark_whole clear d l r i v
