use Rattle.std.proofs.Common.{◌≡◌, Err, ap, rules, arith}
use Rattle.std.proofs.lemmas.Grind.{common_steps}
use Rattle.std.proofs.lemmas.Result.{err_from_is_err_and}
use Rattle.token_core.specs.Headline.{Headline}
use Rattle.token_core.specs.Reads.{Gives, Fails}
use Rattle.token_core.specs.Trees.{toks}
use Rattle.item_small.specs.part.Fronts as parts
use Rattle.syn_readers.proofs.Whole.{refused-prints}
use Rattle.syn_run.specs.Items as spec
use Rattle.syn_run.proofs.items.reprint_head.Goals as goal

pub returns-in_err-item : goal.returns-in_err-item
returns-in_err-item g c =
    let e = c.in_err-item.field-0.0 in
    let was : c.taken.result ≡ Err e = first_of (search rules, grind (arith, common_steps)) in
    let back : c.from_residual.result ≡ Err e = first_of (search rules, grind (arith, common_steps)) in
    let G = (parts.item {A = g.row.A.Denot} {E = g.row.E.Denot} g.A.Attributes g.E.Value).grammar in
    refused-prints (Gives G.reader) (Fails G.reader) (Headline G) (spec.marker_head g.A.Attributes.shown g.E.Value.values)
    c.args.scope (toks c.args.tokens) c.taken.result c.from_residual.result e was back c.taken.ensures.reads c.taken.ensures.promise

pub returns-in_err-head_of : goal.returns-in_err-head_of
returns-in_err-head_of g c =
    let p = err_from_is_err_and c.from_residual-in_err-head_of.result c.from_residual-in_err-head_of.ensures.1 in
    rw (p.1) (λ k. absurd (k (ap (λ e. e.kind) p.2)))
