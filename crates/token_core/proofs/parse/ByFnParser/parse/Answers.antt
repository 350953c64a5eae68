use Rattle.std.proofs.Common.{Result, Ok, Err, refl}
use Rattle.token_core.specs.Refusal.{Refusal}
use Rattle.token_core.specs.Stream.{Stream}
use Rattle.token_core.specs.Reads.{Parsed}
use Rattle.token_core.specs.ByFns.{Post, Answers, RefusesBy}
use Rattle.token_core.proofs.parse.ByFnParser.parse.Goals as goal

parsed : {A : Type 0} (post : Post A) (old : Stream) (r : Result A Refusal) (new : Stream) → Answers post old r new →
    Parsed (λ a last. Answers post old (Ok a) last) (RefusesBy post old) r new
parsed post old (Ok a) new h = h
parsed post old (Err e) new h = λ _. (new, h)

pub returns-clause-reads : goal.returns-clause-reads
returns-clause-reads g c = parsed _ _ _ _ (record { alloc = c.args.alloc; before = _; after = _; begins = refl; ends = refl; call = c.f.ensures })
