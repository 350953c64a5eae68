use Rattle.std.proofs.Common.{◌≡◌, ◌++◌, ◌∙◌, ap, codes}
use Rattle.std.specs.Io.KnownBytes.{Appends}
use Rattle.syn_run.specs.Run.{line}
use Rattle.syn_run.specs.Faults as faults
use Rattle.syn_run.proofs.Said.{fault-line, ends_so}
use Rattle.syn_run.proofs.run.refuse.Goals as goal

pub returns : goal.returns
returns g c =
    let fault = c.args.fault.now in
    let is : codes "error: " ++ c.text.result.now ++ codes "\n" ≡ line (faults.of_fault fault) = ap (λ t. codes "error: " ++ t ++ codes "\n") c.text.ensures ∙ fault-line fault in
    let takes = Appends (g.W.Sink.contents c.args.output.now) (g.W.Sink.contents c.end.new.output) in
    ends_so takes (g.W.Sink.can_fail c.args.output.now) _ _ _ _ _ is c.status.ensures c.end.ensures
