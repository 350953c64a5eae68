use Rattle.std.specs.Prelude.{string_bytes}
use Rattle.std.proofs.Common.{ap}
use Rattle.std.proofs.lemmas.Result.{err_from_is_err_and}
use Rattle.syn_run.specs.Readers.{category}
use Rattle.syn_run.proofs.Said.{by_no_memory, of_unread, of_refused, of_answer}
use Rattle.syn_run.proofs.run.reprinted.Goals as goal

pub returns-in_err-tokens : goal.returns-in_err-tokens
returns-in_err-tokens g c =
    let C = category g.X.Subtree c.args.reader in
    let x = c.in_err-tokens.ensures in
    let p = err_from_is_err_and c.from_residual.result c.from_residual.ensures.1 in
    rw (p.1, p.2) (of_unread c.args.docs C c.args.scope c.args.text.now string_bytes c.in_err-tokens.field-0.0 x.refused x.all)

pub returns-in_err-print : goal.returns-in_err-print
returns-in_err-print g c =
    let C = category g.X.Subtree c.args.reader in
    let x = c.in_ok-tokens.ensures in
    let p = err_from_is_err_and c.from_residual-in_err-print.result c.from_residual-in_err-print.ensures.1 in
    rw (p.1, p.2) (of_refused c.args.docs C c.args.scope c.args.text.now string_bytes c.in_ok-tokens.tokens (record { utf8 = c.utf8.text; spells = x.read }) x.all
    c.in_err-print.field-0.0 c.in_err-print.ensures)

pub returns-in_err-text_of : goal.returns-in_err-text_of
returns-in_err-text_of g c =
    let C = category g.X.Subtree c.args.reader in
    let p = err_from_is_err_and c.from_residual-in_err-text_of.result c.from_residual-in_err-text_of.ensures.1 in
    rw (p.1) (by_no_memory c.args.docs C c.args.scope c.args.text.now string_bytes p.0 (ap (λ e. e.kind) p.2))

pub returns : goal.returns
returns g c =
    let C = category g.X.Subtree c.args.reader in
    let x = c.in_ok-tokens.ensures in
    of_answer c.args.docs C c.args.scope c.args.text.now string_bytes c.in_ok-tokens.tokens (record { utf8 = c.utf8.text; spells = x.read }) x.all
    c.in_ok-print.print _ c.in_ok-print.ensures c.in_ok-text_of.ensures
