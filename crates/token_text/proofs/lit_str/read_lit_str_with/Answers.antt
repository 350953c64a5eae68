use Rattle.std.proofs.lemmas.Result.{err_from_is_err_and}
use Rattle.token_text.proofs.MovingLaws.{malformed_so, unread_string, unkept_string, refuses_string, untold_string, reads_string, keeps_string, not_refused, told_string}
use Rattle.token_text.proofs.lit_str.read_lit_str_with.Goals as goal

pub returns-in_err-content : goal.returns-in_err-content
returns-in_err-content g c =
    let p = err_from_is_err_and c.from_residual.result c.from_residual.ensures.1 in
    let no = malformed_so c.in_err-content.ensures.malformed in
    rw (p.1, p.2) (record {
      reads = unread_string no (g.P.Parser.reads c.args.parser) (g.P.Parser.refuses c.args.parser);
      promise = unkept_string no (g.P.Parser.promise c.args.parser);
      refuses = refuses_string no;
      told = untold_string no;
    })

pub returns-in_err-tokens : goal.returns-in_err-tokens
returns-in_err-tokens g c =
    let p = err_from_is_err_and c.from_residual-in_err-tokens.result c.from_residual-in_err-tokens.ensures.1 in
    let no = c.in_err-tokens.ensures.refused in
    rw (p.1, p.2) (record {
      reads = unread_string no (g.P.Parser.reads c.args.parser) (g.P.Parser.refuses c.args.parser);
      promise = unkept_string no (g.P.Parser.promise c.args.parser);
      refuses = refuses_string no;
      told = untold_string no;
    })

pub returns : goal.returns
returns g c =
    let h = c.in_ok-tokens.ensures.held in
    let r = c.read_scoped.result in
    record {
      reads = reads_string h r (g.P.Parser.reads c.args.parser) (g.P.Parser.refuses c.args.parser) c.read_scoped.ensures.reads;
      promise = keeps_string h r (g.P.Parser.promise c.args.parser) c.read_scoped.ensures.promise;
      refuses = not_refused h r;
      told = told_string h r;
    }
