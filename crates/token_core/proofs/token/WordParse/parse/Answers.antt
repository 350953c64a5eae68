use Rattle.token_core.proofs.TokenFronts.{word_fronted, word_promised}
use Rattle.token_core.proofs.token.WordParse.parse.Goals as goal

pub returns-clause-promise : goal.returns-clause-promise
returns-clause-promise g c = word_promised _ _ _ c.parse_word.ensures.parses.0

pub returns-clause-fronts : goal.returns-clause-fronts
returns-clause-fronts g c = word_fronted _ _ _ c.parse_word.ensures.parses.0
