use Rattle.syn_laws.proofs.aside_laws.Readers.{mod_paths}
use Rattle.syn_laws.proofs.aside.mod_paths_aside.Goals as goal

pub returns : goal.returns
returns g c = mod_paths g.A.Arguments.absent g.A.Arguments.shown g.A.Arguments.silent
