use Rattle.std.proofs.Common.{◌≡◌}
use Rattle.syn_run.proofs.readers.PatternReader.print_next.Goals as goal

pub returns-in-In-clause-shown : goal.returns-in-In-clause-shown
returns-in-In-clause-shown g c = rw c.in-In.is c.show_pat.ensures.shown

pub returns-in-Guarded-clause-shown : goal.returns-in-Guarded-clause-shown
returns-in-Guarded-clause-shown g c = rw c.in-Guarded.is c.show_guarded.ensures.shown

pub returns-in-Typed-clause-shown : goal.returns-in-Typed-clause-shown
returns-in-Typed-clause-shown g c = rw c.in-Typed.is c.show_typed.ensures.shown
