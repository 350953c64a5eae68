use Rattle.token_core.specs.Trees.{trees}
use Rattle.token_text.proofs.TextLaws.{gives_spelled, gives_all, gives_refused, gives_refusal}
use Rattle.token_text.proofs.lexer.lex_with.Goals as goal

pub returns-clause-read : goal.returns-clause-read
returns-clause-read c = gives_spelled c.args.docs trees c.args.text.now c.read.result c.read.ensures

pub returns-clause-all : goal.returns-clause-all
returns-clause-all c = gives_all c.args.docs trees c.args.text.now c.read.result c.read.ensures

pub returns-clause-refused : goal.returns-clause-refused
returns-clause-refused c = gives_refused c.args.docs trees c.args.text.now c.read.result c.read.ensures

pub returns-clause-refuses : goal.returns-clause-refuses
returns-clause-refuses c = gives_refusal c.args.docs trees c.args.text.now c.read.result c.read.ensures
