use Rattle.token_core.proofs.Choices.{choices_listed}
use Rattle.token_core.proofs.lookahead.choices.Goals as goal

pub returns-in_ok-push_commas-in-len1-up : goal.returns-in_ok-push_commas-in-len1-up
returns-in_ok-push_commas-in-len1-up c =
    rw (c.in_ok-push_commas-in-len1-up.ensures, c.in_ok-text-in-len1-up.ensures, c.token_name-in-len1-up.ensures)
    (choices_listed c.args.missing.now c.in-len1-up.len_at_least)
