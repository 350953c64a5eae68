-- What the caller is told.
use Rattle.std.specs.Prelude.{ℕ}
use Rattle.syn_run.specs.declared.call.Call.{Call}
use Rattle.kulojenta_c.specs.declared.Report.{Report}

-- what a call says, from its status and its report
abbrev pub call_of : ℕ → Report → Call
call_of result r = record { status = result; bytes = r.bytes; kind = r.kind; start = r.start; end = r.end }
