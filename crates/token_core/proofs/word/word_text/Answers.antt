use Rattle.token_core.proofs.word.word_text.Goals as goal

pub returns : goal.returns
returns c = c.text_at.ensures
