use Rattle.std.specs.Prelude.{string_bytes}
use Rattle.std.specs.Io.KnownBytes.{Appends}
use Rattle.std.proofs.Common.{◌++◌, codes, ap, refl}
use Rattle.syn_run.specs.Run.{shown}
use Rattle.syn_run.proofs.Said.{ends_so}
use Rattle.syn_run.proofs.run.run.Goals as goal

pub returns-in-Ok : goal.returns-in-Ok
returns-in-Ok g c =
    let takes = Appends (g.W.Sink.contents c.args.output.now) (g.W.Sink.contents c.end.new.output) in
    record {
      answer = shown (string_bytes c.in-Ok.text);
      says = c.in-Ok.ensures;
      ends = ends_so takes (g.W.Sink.can_fail c.args.output.now) _ _ _ _ _ (ap (λ t. t ++ codes "\n") c.as_str.ensures.value) refl c.end.ensures;
    }
