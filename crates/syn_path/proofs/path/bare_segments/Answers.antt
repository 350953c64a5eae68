use Rattle.std.specs.Prelude.{slice_get}
use Rattle.std.specs.Slice.{IsItemAt}
use Rattle.std.proofs.Common.{◌≡◌, ℕ, zero, suc, ◌≤◌, List, [], ◌∷◌, ◌++◌, ◌+◌, ◌<◌, Option, Some, None, option_map, Bor, length, map, drop, get_or, rules, refl, sym, ap, ◌∙◌, append_assoc, length-append, arith}
use Rattle.std.proofs.lemmas.Grind.{common_steps}
use Rattle.std.proofs.lemmas.Option.{slice_get_past, slice_get_read, slice_get_within}
use Rattle.token_core.proofs.Parted.{drop_next, drop_some, drop_none, none_after}
use Rattle.syn_path.specs.declared.path.PathSegmentOf.{PathSegmentOf}
use Rattle.syn_path.specs.path.Paths.{segment_of}
use Rattle.syn_path.proofs.path.bare_segments.Goals as goal
use Rattle.syn_path.proofs.path.bare_segments.Goals.{in-Some+in_ok-push_punct, in_default}

-- what `get` gives, as one equation
got : {P : Type 0} (xs : List P) (i : ℕ) (r : Option (Bor P)) → IsItemAt xs i r → option_map (λ x. x.now) r ≡ slice_get xs i
got xs i None h = sym (slice_get_past xs i h.3)
got xs i (Some x) h = sym (slice_get_read xs (length xs) i x.now refl h.3.0 h.1)

past : {P : Type 0} (xs : List P) (i : ℕ) → None ≡ slice_get xs i → length xs ≤ i
past [] i e = omega arith
past (y ∷ xs) zero e = absurd (cc e)
past (y ∷ xs) (suc i) e = let h = past xs i e in omega (arith, h)

pub loop-i-preserved : goal.loop-i-preserved
loop-i-preserved g c =
    let f = λ (s : PathSegmentOf g.row.A.Denot). segment_of g.B.Arguments.absent s.ident in
    let values = c.args.segments.now.0 in
    let marks = c.args.segments.now.1 in
    let i = c.loop-i.i in
    let x = c.segment-item.result in
    let h : i < length values = omega (arith, c.loop-i-test.true, ap length c.values-segment-items.ensures) in
    let e : x ≡ get_or values i x = c.segment-item.is ∙ ap (λ l. get_or l i x) c.values-segment-items.ensures in
    let found : option_map (λ m. m.now) c.get.result ≡ slice_get marks i = got c.marks-marks.result.now i c.get.result c.get.ensures.lookup ∙ ap (λ l. slice_get l i) c.marks-marks.ensures.marks in
    let one_more = length-append c.loop-i.bare.0 (f x ∷ []) in
    let valued : c.match-get.bare.0 ≡ c.loop-i.bare.0 ++ f x ∷ [] → c.match-get.bare.0 ++ map f (drop (i + 1) values) ≡ map f values =
    λ b. ap (λ z. z ++ map f (drop (i + 1) values)) b ∙ append_assoc c.loop-i.bare.0 (f x ∷ []) (map f (drop (i + 1) values)) ∙ ap (λ z. c.loop-i.bare.0 ++ map f z) (sym (drop_next values i x h e)) ∙ c.loop-i.invariant.values in
    elim c.match-get.branch [
      | in-Some+in_ok-push_punct w ↦
          let m = w.in-Some.mark.now in
          let k : Some m ≡ slice_get marks i = sym (ap (option_map (λ z. z.now)) w.in-Some.is) ∙ found in
          let b : c.match-get.bare ≡ (c.loop-i.bare.0 ++ f x ∷ [], c.loop-i.bare.1 ++ m ∷ []) = first_of (search rules, grind (arith, common_steps)) in
          record {
            values = valued (ap (λ z. z.0) b);
            marks = ap (λ z. z.1 ++ drop (i + 1) marks) b ∙ append_assoc c.loop-i.bare.1 (m ∷ []) (drop (i + 1) marks) ∙ ap (λ z. c.loop-i.bare.1 ++ z) (sym (drop_some marks i m k)) ∙ c.loop-i.invariant.marks;
            taken = omega (arith, ap (λ z. length z.0) b, one_more, c.loop-i.invariant.taken);
            between = omega (arith, ap (λ z. length z.1) b, length-append c.loop-i.bare.1 (m ∷ []), c.loop-i.invariant.between, slice_get_within marks i m (sym k));
          }
      | in_default w ↦
          let k : None ≡ slice_get marks i = first_of (search rules, grind (arith, common_steps)) in
          let b : c.match-get.bare ≡ (c.loop-i.bare.0 ++ f x ∷ [], c.loop-i.bare.1) = first_of (search rules, grind (arith, common_steps)) in
          record {
            values = valued (ap (λ z. z.0) b);
            marks = ap (λ z. z.1 ++ drop (i + 1) marks) b ∙ ap (λ z. c.loop-i.bare.1 ++ z) (none_after marks i k ∙ sym (drop_none marks i k)) ∙ c.loop-i.invariant.marks;
            taken = omega (arith, ap (λ z. length z.0) b, one_more, c.loop-i.invariant.taken);
            between = omega (arith, ap (λ z. length z.1) b, c.loop-i.invariant.between, past marks i k);
          }
    ]
