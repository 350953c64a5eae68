use Rattle.std.proofs.Common.{false, unwrap_or, ap, ◌∙◌}
use Rattle.unicode_width.specs.Width.{char_width}
use Rattle.token_text.proofs.NoteLaws.{is_tab, no_tab}
use Rattle.token_text.proofs.notes.columns_of.Goals as goal

pub returns-then-ch-eq9 : goal.returns-then-ch-eq9
returns-then-ch-eq9 c = is_tab c.args.ch 1 (unwrap_or (char_width false c.args.ch) 1) c.if-ch-eq9.true

pub returns-else-ch-eq9 : goal.returns-else-ch-eq9
returns-else-ch-eq9 c =
    c.unwrap_or.ensures ∙ ap (λ w. unwrap_or w 1) c.width.ensures.value ∙ no_tab c.args.ch 1 (unwrap_or (char_width false c.args.ch) 1) c.if-ch-eq9.false
