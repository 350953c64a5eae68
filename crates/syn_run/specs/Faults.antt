-- What is said of a fault.
use Rattle.std.specs.Prelude.{ℕ, Result, Ok, Err, codes}
use Rattle.token_core.specs.declared.error.ErrorKind.{ErrorKind}
use Rattle.token_core.specs.declared.error.ErrorKind.TheVariants as k
use Rattle.token_core.specs.Toks.{Bytes}
use Rattle.token_core.specs.Refusal.{Refusal}
use Rattle.syn_run.specs.declared.channel.Unread.{Unread}
use Rattle.syn_run.specs.declared.channel.Unread.TheVariants as u
use Rattle.syn_run.specs.declared.fault.Fault.{Fault}
use Rattle.syn_run.specs.declared.fault.Fault.TheVariants as f
use Rattle.syn_run.specs.Run as run
use Rattle.syn_run.specs.Run.{Answer, shown, refused, unknown}

abbrev pub text : Fault → Bytes
text f.UnknownReader = codes "unknown reader"
text f.CannotRead = codes "cannot read input"
text f.NotUtf8 = codes "input is not UTF-8"
text f.OutOfMemory = codes "out of memory"
text (f.Refused e) = e.text

abbrev pub of_fault : Fault → Answer
of_fault f.UnknownReader = unknown
of_fault f.CannotRead = run.unreadable
of_fault f.NotUtf8 = run.not_text
of_fault f.OutOfMemory = run.no_memory
of_fault (f.Refused e) = refused e.text

abbrev pub status : Fault → ℕ
status fault = run.status (of_fault fault)

abbrev pub of_unread : Unread → Fault
of_unread u.OutOfMemory = f.OutOfMemory
of_unread u.CannotRead = f.CannotRead

abbrev pub of_kind : ErrorKind → Refusal → Fault
of_kind k.OutOfMemory e = f.OutOfMemory
of_kind _ e = f.Refused e

abbrev pub of_refusal : Refusal → Fault
of_refusal e = of_kind e.kind e

abbrev pub faulty : {A : Type 0} → Result A Refusal → Result A Fault
faulty (Ok a) = Ok a
faulty (Err e) = Err (of_refusal e)

-- what is said of an answer whose text is read by `text_of`
abbrev pub answer : {A : Type 0} → (A → Bytes) → Result A Fault → Answer
answer text_of (Ok a) = shown (text_of a)
answer text_of (Err e) = of_fault e
