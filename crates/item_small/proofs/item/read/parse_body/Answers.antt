use Rattle.std.proofs.Common.{Err, false, sym, ap}
use Rattle.token_core.proofs.Steps.{chosen}
use Rattle.token_core.proofs.Suffixes.{follows_self}
use Rattle.item_small.specs.item.Promises as promises
use Rattle.item_small.specs.item.Reading.{body}
use Rattle.token_core.proofs.fronts_laws.Refused.{refused_front}
use Rattle.item_small.proofs.item_laws.Bodies.{no_body, no_semi, semi_fronted}
use Rattle.item_small.proofs.item.read.parse_body.Goals as goal

pub returns-then-not-peek-clause-parses : goal.returns-then-not-peek-clause-parses
unfolding body
returns-then-not-peek-clause-parses g c = (
  λ k. chosen _ false _ _ _ _ (sym c.if-peek.ensures) (chosen _ false _ _ _ _ (sym c.if-not-peek.ensures) (ap (λ z. Err z) (sym (c.expected.ensures k)))),
  follows_self _,
)

pub returns-then-not-peek-clause-fronts : goal.returns-then-not-peek-clause-fronts
returns-then-not-peek-clause-fronts g c = λ fits. no_body g.A.Part.front g.T.Part.front c.args.input.now c.expected.result (sym c.if-peek.ensures) (sym c.if-not-peek.ensures)

pub returns-in_err-parse-clause-fronts : goal.returns-in_err-parse-clause-fronts
returns-in_err-parse-clause-fronts g c = λ fits.
    let e = c.in_err-parse.field-0.0 in
    refused_front (promises.body g.A.Part.front g.T.Part.front) c.args.input.now _ _ e c.from_residual.ensures
    (no_semi g.A.Part.front g.T.Part.front c.args.input.now e (sym c.if-peek.ensures) c.in_err-parse.ensures.reads)

pub returns-clause-fronts : goal.returns-clause-fronts
returns-clause-fronts g c = λ fits. semi_fronted g.A.Part.front g.T.Part.front c.args.input.now _ _ (sym c.if-peek.ensures) c.in_ok-parse.ensures.reads
