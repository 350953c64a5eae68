use Rattle.std.proofs.Common.{refl, inl}
use Rattle.syn_run.specs.Calls.{unknown}
use Rattle.syn_run.proofs.call.read_into.Goals as goal

pub returns-in-Err : goal.returns-in-Err
returns-in-Err g c = record { came = unknown; is = inl (c.in-Err.ensures.cases.0, refl); tells = c.tell.ensures }
