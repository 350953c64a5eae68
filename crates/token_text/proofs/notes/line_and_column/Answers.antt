use Rattle.std.proofs.Common.{◌≡◌, ◌+◌, length, chars, string_bytes, refl, ap, ◌∙◌}
use Rattle.token_text.specs.Note as spec
use Rattle.token_text.proofs.NoteLaws.{length-drawn}
use Rattle.token_text.proofs.notes.line_and_column.Goals as goal

pub returns : goal.returns
returns c =
    let text = c.args.text.now in
    let p = spec.shown_place text c.args.start c.args.start in
    let head = spec.within p.0 (chars text) in
    let is_head : chars c.cut.result.0.now ≡ head = c.cut.ensures.front ∙ ap (λ x. spec.within x.0 (chars text)) c.shown_place-start.ensures in
    let shown = spec.visible (spec.last_line head) in
    let before = string_bytes c.in_ok-before.before in
    let is_before : before ≡ shown = c.in_ok-before.ensures ∙ ap spec.visible (c.last_line.ensures ∙ ap spec.last_line is_head) in
    let under = string_bytes c.in_ok-under.under in
    let is_under : under ≡ spec.blanks (chars shown) = c.in_ok-under.ensures ∙ ap (λ t. spec.blanks (chars t)) (c.as_str.ensures.value ∙ is_before) in
    let is_number : c.args.line + c.line_feeds.result ≡ c.args.line + spec.line_feeds head = ap (λ k. c.args.line + k) (c.line_feeds.ensures.count ∙ ap spec.line_feeds is_head) in
    let is_column : 1 + length c.as_str-blanks.result.now ≡ 1 + spec.columns (chars shown) =
    ap (λ k. 1 + k) (ap length (c.as_str-blanks.ensures.value ∙ is_under) ∙ length-drawn 32 9 (chars shown)) in
    rw (is_number, is_column) refl
