use Rattle.std.proofs.lemmas.Result.{err_from_is_err_and}
use Rattle.token_text.proofs.WholeLaws.{unread, unkept, reads_all, keeps_all}
use Rattle.token_text.proofs.whole.read_with.Goals as goal

pub returns-in_err-tokens-clause-reads : goal.returns-in_err-tokens-clause-reads
returns-in_err-tokens-clause-reads g c =
    let p = err_from_is_err_and c.from_residual.result c.from_residual.ensures.1 in
    rw (p.1, p.2) (unread c.args.docs c.args.text.now c.in_err-tokens.field-0.0 c.in_err-tokens.ensures.all (g.P.Parser.reads c.args.parser) (g.P.Parser.refuses c.args.parser))

pub returns-in_err-tokens-clause-promise : goal.returns-in_err-tokens-clause-promise
returns-in_err-tokens-clause-promise g c =
    let p = err_from_is_err_and c.from_residual.result c.from_residual.ensures.1 in
    rw (p.1, p.2) (unkept c.args.docs c.args.text.now c.in_err-tokens.field-0.0 c.in_err-tokens.ensures.all (g.P.Parser.promise c.args.parser))

pub returns-clause-reads : goal.returns-clause-reads
returns-clause-reads g c =
    reads_all c.args.docs c.args.text.now c.in_ok-tokens.tokens c.in_ok-tokens.ensures.all c.read_scoped.result (g.P.Parser.reads c.args.parser) (g.P.Parser.refuses c.args.parser)
    c.new-end.result c.new-end.ensures c.read_scoped.ensures.reads

pub returns-clause-promise : goal.returns-clause-promise
returns-clause-promise g c =
    keeps_all c.args.docs c.args.text.now c.in_ok-tokens.tokens c.in_ok-tokens.ensures.all c.read_scoped.result (g.P.Parser.promise c.args.parser) c.read_scoped.ensures.promise
