-- What was read so far stood before what is left.
use Rattle.std.proofs.Common.{◌≡◌, length}
use Rattle.std.specs.Io.KnownBytes.{Consumes}
use Rattle.syn_run.proofs.channel.PlainSource.read_all.Given as goal

abbrev pub invariant-loop : goal.invariant-loop
invariant-loop g l = record { taken : Consumes (g.R.Read.remaining l.initial.self.0) (g.R.Read.remaining l.self.0) l.bytes.items; room : length l.chunk ≡ 4096 }
