use Rattle.token_core.proofs.token_names.other_name.Goals as goal

pub returns : goal.returns
returns c = c.other_at.ensures
