use Rattle.std.proofs.Common.{◌≡◌, ◌+◌, ◌-◌, ◌++◌, length, chars, codes, string_bytes, refl, ap, ◌∙◌}
use Rattle.std.proofs.lemmas.Result.{IfOk-weaker}
use Rattle.token_text.specs.Characters.{size}
use Rattle.token_text.specs.Note as spec
use Rattle.token_text.proofs.NoteLaws.{length-drawn, noted}
use Rattle.token_text.proofs.notes.note_from.Goals as goal

pub returns : goal.returns
returns c =
    let name = c.args.name.now in
    let text = c.args.text.now in
    let message = c.args.message.now in
    let cut = c.cut.ensures in
    let p = spec.shown_place text c.args.start c.args.end in
    let q = c.shown_place-start.result in
    let is_place : q ≡ p = c.shown_place-start.ensures in
    let head = spec.within p.0 (chars text) in
    let rest = spec.beyond p.0 (chars text) in
    let is_head : chars c.cut.result.0.now ≡ head = cut.front ∙ ap (λ x. spec.within x.0 (chars text)) is_place in
    let is_rest : chars c.cut.result.1.now ≡ rest = cut.rest ∙ ap (λ x. spec.beyond x.0 (chars text)) is_place in
    let is_size : length c.cut.result.0.now ≡ size head = cut.size ∙ ap (λ x. size (spec.within x.0 (chars text))) is_place in
    let left : c.saturating_sub.result ≡ p.1 - size head =
    c.saturating_sub.ensures ∙ ap (λ k. q.1 - k) is_size ∙ ap (λ x. x.1 - size head) is_place in
    let line = c.first_line-following.result.now in
    let is_line : chars line ≡ spec.first_line rest = c.first_line-following.ensures ∙ ap spec.first_line is_rest in
    let inside : chars c.cut-2.result.0.now ≡ spec.within (p.1 - size head) (spec.first_line rest) =
    c.cut-2.ensures.front ∙ ap (λ k. spec.within k (chars line)) left ∙ ap (spec.within (p.1 - size head)) is_line in
    let before = string_bytes c.in_ok-before.before in
    let after = string_bytes c.in_ok-after.after in
    let b = string_bytes c.in_ok-blanks.blanks in
    let m = string_bytes c.in_ok-marks.marks in
    let heading = string_bytes c.in_ok-heading.heading in
    let shown = spec.visible (spec.last_line head) in
    let marked = spec.visible (spec.within (p.1 - size head) (spec.first_line rest)) in
    let is_before : before ≡ shown = c.in_ok-before.ensures ∙ ap spec.visible (c.last_line.ensures ∙ ap spec.last_line is_head) in
    let is_after : after ≡ spec.visible (spec.first_line rest) = c.in_ok-after.ensures ∙ ap spec.visible is_line in
    let is_marked : string_bytes c.in_ok-marked.marked ≡ marked = c.in_ok-marked.ensures ∙ ap spec.visible inside in
    let is_b : b ≡ spec.blanks (chars shown) = c.in_ok-blanks.ensures ∙ ap (λ t. spec.blanks (chars t)) (c.as_str-front.ensures.value ∙ is_before) in
    let is_m : m ≡ spec.marks (chars marked) = c.in_ok-marks.ensures ∙ ap (λ t. spec.marks (chars t)) (c.as_str-pointed.ensures.value ∙ is_marked) in
    let number = c.args.line + c.line_feeds.result in
    let is_number : number ≡ c.args.line + spec.line_feeds head = ap (λ k. c.args.line + k) (c.line_feeds.ensures.count ∙ ap spec.line_feeds is_head) in
    let column = 1 + length c.as_str-under.result.now in
    let is_column : column ≡ 1 + spec.columns (chars shown) =
    ap (λ k. 1 + k) (ap length (c.as_str-under.ensures.value ∙ is_b) ∙ length-drawn 32 9 (chars shown)) in
    let whole : heading ++ (codes "\n" ++ (before ++ (after ++ (codes "\n" ++ (b ++ m))))) ≡ spec.between name c.args.line message p.1 head rest =
    noted name message heading before after b m number column p.1 c.args.line head rest c.in_ok-heading.ensures is_number is_column is_before is_after is_b is_m in
    let same : c.as_str-first.result.now ++ (codes "\n" ++ (c.as_str-front.result.now ++ (c.as_str-back.result.now ++ (codes "\n" ++ (c.as_str-under.result.now ++ c.as_str-carets.result.now)))))
    ≡ heading ++ (codes "\n" ++ (before ++ (after ++ (codes "\n" ++ (b ++ m))))) =
    rw (c.as_str-first.ensures.value, c.as_str-front.ensures.value, c.as_str-back.ensures.value, c.as_str-under.ensures.value, c.as_str-carets.ensures.value) refl in
    IfOk-weaker c.joined.result
    (λ s. string_bytes s
    ≡ c.as_str-first.result.now ++ (codes "\n" ++ (c.as_str-front.result.now ++ (c.as_str-back.result.now ++ (codes "\n" ++ (c.as_str-under.result.now ++ c.as_str-carets.result.now))))))
    (λ s. string_bytes s ≡ spec.note_from name c.args.line text message c.args.start c.args.end) (λ s e. e ∙ same ∙ whole) c.joined.ensures
