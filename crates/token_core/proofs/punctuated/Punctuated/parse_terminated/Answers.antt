use Rattle.token_core.proofs.fronts_laws.Lists.{turns_kept, turns_read}
use Rattle.token_core.proofs.punctuated.Punctuated.parse_terminated.Goals as goal

pub returns-clause-reads : goal.returns-clause-reads
returns-clause-reads g c = turns_read g.T.Parse.reads g.T.Parse.refuses g.P.Parse.reads g.P.Parse.refuses g.T.Parse.fronts g.P.Parse.fronts _ _ _ c.parse_turns.ensures.reads

pub returns-clause-fronts : goal.returns-clause-fronts
returns-clause-fronts g c = turns_kept g.T.Parse.reads g.T.Parse.refuses g.P.Parse.reads g.P.Parse.refuses g.T.Parse.fronts g.P.Parse.fronts _ _ _ c.parse_turns.ensures.reads
