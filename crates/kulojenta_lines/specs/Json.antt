-- Answers as lines of JSON.
use Rattle.std.specs.Prelude.{ℕ, ◌-◌, ◌^◌, Bool, false, ◌&&◌, ◌||◌, if◌then◌else◌, ◌==◌, nat_lt, nat_le, List, [], ◌∷◌, ◌++◌, codes, chars, encode_utf8}
use Rattle.std.specs.Fmt.{decimal, digits, padded_integral, format_spec}
use Rattle.token_core.specs.Toks.{Bytes}
use Rattle.kulojenta_lines.specs.declared.json.Place.{Place}

-- ---- strings

-- four hexadecimal digits, and more where they are wanted
abbrev pub hexadecimal : ℕ → Bytes
hexadecimal n = padded_integral (format_spec 32 0 4 4 (2 ^ 64 - 1)) false [] (digits 16 false n)

-- characters of control, and two that end a line for some readers of JSON
abbrev pub is_coded : ℕ → Bool
is_coded c = nat_lt c 32 || ((nat_le 127 c && nat_le c 159) || (c == 8232 || c == 8233))

-- a quote or a backslash behind a backslash, and any other character itself
abbrev pub quoted : ℕ → Bytes
quoted c = if c == 34 || c == 92 then 92 ∷ encode_utf8 c else encode_utf8 c

-- what stands for a character
abbrev pub escaped_char : ℕ → Bytes
escaped_char c = if is_coded c then codes "\\u" ++ hexadecimal c else quoted c

-- a text as it stands between the quotes
abbrev pub escaped : List ℕ → Bytes
escaped [] = []
escaped (c ∷ cs) = escaped_char c ++ escaped cs

-- ---- lines

-- of a text that was read
abbrev pub print_line : Bytes → Bytes
print_line print = codes "{\"print\":\"" ++ (escaped (chars print) ++ codes "\"}")

-- of one that has no answer, for a reason without a place
abbrev pub placeless_line : Bytes → Bytes → Bytes
placeless_line kind text = codes "{\"kind\":\"" ++ (escaped (chars kind) ++ (codes "\",\"text\":\"" ++ (escaped (chars text) ++ codes "\"}")))

abbrev pub placed : Place → Bytes
placed p =
    codes ",\"start\":" ++ (decimal p.start ++ (codes ",\"end\":" ++ (decimal p.end ++ (codes ",\"line\":" ++ (decimal p.line ++ (codes ",\"column\":" ++ (decimal p.column ++ codes "}")))))))

-- of one that is refused
abbrev pub refusal_line : Bytes → Bytes → Place → Bytes
refusal_line kind text place = codes "{\"kind\":\"" ++ (escaped (chars kind) ++ (codes "\",\"text\":\"" ++ (escaped (chars text) ++ (codes "\"" ++ placed place))))
