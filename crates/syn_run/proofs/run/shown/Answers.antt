use Rattle.std.specs.Prelude.{string_bytes}
use Rattle.std.proofs.Common.{Global, Err, subst}
use Rattle.std.proofs.lemmas.Result.{err_from_is_err_and}
use Rattle.token_core.specs.declared.span.Span.{Span}
use Rattle.token_core.specs.Spans.{none}
use Rattle.token_core.specs.Toks.{Bytes}
use Rattle.token_text.specs.declared.piece.Docs.TheVariants.{Refuse}
use Rattle.syn_run.specs.Readers.{category}
use Rattle.syn_run.specs.Run.{Replies}
use Rattle.syn_run.proofs.Said.{of_bytes, of_reply}
use Rattle.syn_run.proofs.run.shown.Goals as goal

pub returns-in-Err : goal.returns-in-Err
returns-in-Err g c = of_bytes (category g.X.Subtree c.args.reader) none c.args.input.now c.in-Err.ensures.cases.0

pub returns-in_err-reprinted-in-Ok : goal.returns-in_err-reprinted-in-Ok
returns-in_err-reprinted-in-Ok g c =
    let C = category g.X.Subtree c.args.reader in
    let e = c.in_err-reprinted-in-Ok.field-0.0 in
    let p = err_from_is_err_and c.from_residual.result c.from_residual.ensures.1 in
    let In : Span → Type 0 = λ s. Replies Refuse C s c.in-Ok.text.now (string_bytes {Z = Global}) (Err e) in
    let Of : Bytes → Type 0 = λ t. Replies Refuse C none t (string_bytes {Z = Global}) (Err e) in
    let h : Of c.args.input.now = subst Of c.in-Ok.ensures.cases.0 (subst In c.none.ensures c.in_err-reprinted-in-Ok.ensures) in
    rw (p.1, p.2) (of_reply C none c.args.input.now (string_bytes {Z = Global}) (Err e) c.in-Ok.ensures.cases.1 h)
