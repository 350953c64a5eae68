-- What is said to people where nothing was read.
use Rattle.std.specs.Prelude.{◌++◌, codes}
use Rattle.token_core.specs.Toks.{Bytes}
use Rattle.token_text.specs.Note as note
use Rattle.syn_run.specs.declared.fault.Fault.{Fault}
use Rattle.syn_run.specs.declared.fault.Fault.TheVariants as f
use Rattle.syn_run.specs.Faults.{text}

abbrev named : Bytes → Fault → Bytes
named name fault = name ++ (codes ": " ++ text fault)

-- of a refusal its note, of any other fault the name and what it is
abbrev pub complaint : Bytes → Bytes → Fault → Bytes
complaint name input (f.Refused e) = note.of_refusal name input e
complaint name input f.UnknownReader = named name f.UnknownReader
complaint name input f.CannotRead = named name f.CannotRead
complaint name input f.NotUtf8 = named name f.NotUtf8
complaint name input f.OutOfMemory = named name f.OutOfMemory
