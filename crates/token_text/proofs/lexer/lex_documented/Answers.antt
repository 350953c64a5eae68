use Rattle.token_text.proofs.DocLaws.{doc_value}
use Rattle.token_text.proofs.lexer.lex_documented.Goals as goal

pub returns-clause-says : goal.returns-clause-says
returns-clause-says c = doc_value
