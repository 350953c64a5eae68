use Rattle.std.proofs.Common.{inl, inr}
use Rattle.token_core.proofs.Terminations.{refused_so}
use Rattle.token_core.proofs.fronts_laws.Both.{first_kept, pair_kept, second_kept}
use Rattle.token_core.proofs.fronts_laws.Refused.{kept_err, refusal_is}
use Rattle.token_core.proofs.parse.Tuple2Parse.parse.Goals as goal

pub returns-in_err-first-clause-reads : goal.returns-in_err-first-clause-reads
returns-in_err-first-clause-reads g c = let e = c.in_err-first.field-0.0 in refused_so _ _ _ _ e (refusal_is _ e c.from_residual.ensures) (λ k. inl (c.in_err-first.ensures.reads k))

pub returns-in_err-first-clause-fronts : goal.returns-in_err-first-clause-fronts
returns-in_err-first-clause-fronts g c =
    let e = c.in_err-first.field-0.0 in
    kept_err _ _ _ _ e c.from_residual.ensures (first_kept g.A.Parse.fronts g.B.Parse.fronts _ _ e c.in_err-first.ensures.fronts)

pub returns-in_err-second-clause-reads : goal.returns-in_err-second-clause-reads
returns-in_err-second-clause-reads g c =
    let e = c.in_err-second.field-0.0 in
    refused_so _ _ _ _ e (refusal_is _ e c.from_residual-in_err-second.ensures) (λ k. inr (record { value = _; between = _; begins = c.in_ok-first.ensures.reads; refused = c.in_err-second.ensures.reads k }))

pub returns-in_err-second-clause-fronts : goal.returns-in_err-second-clause-fronts
returns-in_err-second-clause-fronts g c =
    let e = c.in_err-second.field-0.0 in
    kept_err _ _ _ _ e c.from_residual-in_err-second.ensures (second_kept g.A.Parse.fronts g.B.Parse.fronts _ _ _ _ e c.in_ok-first.ensures.fronts c.in_err-second.ensures.fronts)

pub returns-clause-reads : goal.returns-clause-reads
returns-clause-reads g c = record { between = _; begins = c.in_ok-first.ensures.reads; ends = c.in_ok-second.ensures.reads }

pub returns-clause-fronts : goal.returns-clause-fronts
returns-clause-fronts g c = pair_kept g.A.Parse.fronts g.B.Parse.fronts _ _ _ _ _ c.in_ok-first.ensures.fronts c.in_ok-second.ensures.fronts c.in_ok-second.ensures.within
