use Rattle.std.proofs.Common.{refl}
use Rattle.token_core.proofs.Steps.{link}
use Rattle.syn_path.proofs.Steps.{passed_on, stopped}
use Rattle.syn_laws.specs.pair.Fronts.{read}
use Rattle.syn_laws.proofs.pair_laws.Fronts.{keeps_no_comma, keeps_no_first, keeps_no_second, keeps_pair}
use Rattle.syn_laws.proofs.pair.parse_pair.Goals as goal

pub returns-in_err-first-clause-reads : goal.returns-in_err-first-clause-reads
unfolding read
returns-in_err-first-clause-reads g c = λ f b.
    let e = c.in_err-first.field-0.0 in
    passed_on _ _ _ _ e c.from_residual.ensures (λ k. b.stops _ e (c.in_err-first.ensures.reads k)) (λ h. stopped _ e h)

pub returns-in_err-first-clause-fronts : goal.returns-in_err-first-clause-fronts
returns-in_err-first-clause-fronts g c = keeps_no_first g.T.Parse.fronts _ _ c.in_err-first.field-0.0 _ c.from_residual.ensures c.in_err-first.ensures.fronts

pub returns-in_err-comma-clause-reads : goal.returns-in_err-comma-clause-reads
unfolding read
returns-in_err-comma-clause-reads g c = λ f b.
    let e = c.in_err-comma.field-0.0 in
    passed_on _ _ _ _ e c.from_residual-in_err-comma.ensures c.in_err-comma.ensures.reads (λ h. link _ (b.answers _ _ _ c.in_ok-first.ensures.reads) (stopped _ e h))

pub returns-in_err-comma-clause-fronts : goal.returns-in_err-comma-clause-fronts
returns-in_err-comma-clause-fronts g c =
    keeps_no_comma g.T.Parse.fronts _ _ _ _ c.in_err-comma.field-0.0 _ c.from_residual-in_err-comma.ensures c.in_ok-first.ensures.fronts c.in_err-comma.ensures.reads

pub returns-in_err-second-clause-reads : goal.returns-in_err-second-clause-reads
unfolding read
returns-in_err-second-clause-reads g c = λ f b.
    let e = c.in_err-second.field-0.0 in
    passed_on _ _ _ _ e c.from_residual-in_err-second.ensures (λ k. b.stops _ e (c.in_err-second.ensures.reads k))
    (λ h. link _ (b.answers _ _ _ c.in_ok-first.ensures.reads) (link _ c.in_ok-comma.ensures.reads (stopped _ e h)))

pub returns-in_err-second-clause-fronts : goal.returns-in_err-second-clause-fronts
returns-in_err-second-clause-fronts g c =
    keeps_no_second g.T.Parse.fronts _ _ _ _ _ _ c.in_err-second.field-0.0 _ c.from_residual-in_err-second.ensures c.in_ok-first.ensures.fronts c.in_ok-comma.ensures.reads c.in_err-second.ensures.fronts

pub returns-clause-reads : goal.returns-clause-reads
unfolding read
returns-clause-reads g c = λ f b. link _ (b.answers _ _ _ c.in_ok-first.ensures.reads) (link _ c.in_ok-comma.ensures.reads (link _ (b.answers _ _ _ c.in_ok-second.ensures.reads) refl))

pub returns-clause-fronts : goal.returns-clause-fronts
returns-clause-fronts g c =
    keeps_pair g.T.Parse.fronts _ _ _ _ _ _ _ c.in_ok-first.ensures.fronts c.in_ok-comma.ensures.reads c.in_ok-second.ensures.fronts c.in_ok-comma.ensures.within c.in_ok-second.ensures.within
