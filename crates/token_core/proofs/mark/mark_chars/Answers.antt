use Rattle.token_core.proofs.mark.mark_chars.Goals as goal

pub returns : goal.returns
returns c = c.chars_at.ensures
