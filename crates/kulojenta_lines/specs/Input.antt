-- The lines of an input.
use Rattle.std.specs.Prelude.{if◌then◌else◌}
use Rattle.std.specs.Io.BufRead.{ends_with_byte, strip_last}
use Rattle.token_core.specs.Toks.{Bytes}

-- without a line feed at its end, and a carriage return before that
abbrev pub without_end : Bytes → Bytes
without_end line = if ends_with_byte 10 line then strip_last 13 (strip_last 10 line) else strip_last 10 line
