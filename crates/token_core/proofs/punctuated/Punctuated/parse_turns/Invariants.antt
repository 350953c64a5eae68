use Rattle.std.proofs.Common.{◌≡◌, length}
use Rattle.token_core.specs.Refusal.{Refusal}
use Rattle.token_core.specs.Stream.{Stream}
use Rattle.token_core.specs.Reads.{Follows}
use Rattle.token_core.specs.Loops.{size, Many, onto}
use Rattle.token_core.specs.Terminated.{Answers, Refused}
use Rattle.token_core.specs.fronts.Lists.{Read, Stopped}
use Rattle.token_core.proofs.punctuated.Punctuated.parse_turns.Given as goal

abbrev pub invariant-turn : goal.invariant-turn
invariant-turn g l = record {
  answers : (v : Many g.row.T.Denot g.row.P.Denot) (t : Stream) → Answers (Read g.T.Parse.reads g.T.Parse.fronts) (Read g.P.Parse.reads g.P.Parse.fronts) l.input v t →
      Answers (Read g.T.Parse.reads g.T.Parse.fronts) (Read g.P.Parse.reads g.P.Parse.fronts) l.initial.input (onto l.list v) t;
  refused : (e : Refusal) →
      Refused (Read g.T.Parse.reads g.T.Parse.fronts) (Read g.P.Parse.reads g.P.Parse.fronts) (Stopped g.T.Parse.refuses g.T.Parse.fronts) (Stopped g.P.Parse.refuses g.P.Parse.fronts) e l.input →
      Refused (Read g.T.Parse.reads g.T.Parse.fronts) (Read g.P.Parse.reads g.P.Parse.fronts) (Stopped g.T.Parse.refuses g.T.Parse.fronts) (Stopped g.P.Parse.refuses g.P.Parse.fronts) e l.initial.input;
  whole : length l.list.0 ≡ length l.list.1;
  within : Follows l.initial.input l.input;
}

abbrev pub decreases-turn : goal.decreases-turn
decreases-turn g l = size l.input.rest
