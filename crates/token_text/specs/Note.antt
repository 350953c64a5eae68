-- The note for a refusal: where it points in a text, what it says, and the line as it is shown, with marks under the place.
use Rattle.std.specs.Prelude.{ℕ, zero, suc, ◌+◌, ◌-◌, ◌^◌, max, Bool, true, false, not, ◌&&◌, ◌||◌, if◌then◌else◌, ◌==◌, nat_lt, nat_le, List, [], ◌∷◌, ◌++◌, replicate, reverse, length, unwrap_or, chars, codes, encode_utf8, Result, Ok, Err}
use Rattle.std.specs.Char.{len_utf8}
use Rattle.std.specs.Fmt.{decimal, digits, padded_integral, format_spec}
use Rattle.std.specs.List.{list_any}
use Rattle.unicode_width.specs.Width.{char_width}
use Rattle.token_core.specs.declared.error.ErrorKind.{ErrorKind}
use Rattle.token_core.specs.declared.error.ErrorKind.TheVariants.{OutOfMemory}
use Rattle.token_core.specs.Toks.{Bytes}
use Rattle.token_core.specs.Refusal.{Refusal}
use Rattle.token_text.specs.declared.piece.Docs.TheVariants.{Refuse}
use Rattle.token_text.specs.declared.piece.Leaf.TheVariants.{Blank, Doc, Word, Lifetime, Literal, Mark}
use Rattle.token_text.specs.declared.piece.Piece.{Piece}
use Rattle.token_text.specs.declared.piece.Piece.TheVariants.{Leaf, Open, Close}
use Rattle.token_text.specs.Characters.{Text, size, begins_with}
use Rattle.token_text.specs.Front.{Found, front}
use Rattle.token_text.specs.Pieces.{is_char}

-- ---- places

-- the characters that end within the first n bytes
abbrev pub within : ℕ → Text → Text
within n [] = []
within n (c ∷ cs) = if nat_lt n (len_utf8 c) then [] else c ∷ within (n - len_utf8 c) cs

-- and those after them
abbrev pub beyond : ℕ → Text → Text
beyond n [] = []
beyond n (c ∷ cs) = if nat_lt n (len_utf8 c) then c ∷ cs else beyond (n - len_utf8 c) cs

-- ---- lines

-- a line ends at a line feed, or at a carriage return before one
abbrev pub ends_line : ℕ → Text → Bool
ends_line c cs = c == 10 || (c == 13 && begins_with (is_char 10) cs)

-- up to the first end of a line
abbrev pub first_line : Text → Text
first_line [] = []
first_line (c ∷ cs) = if ends_line c cs then [] else c ∷ first_line cs

-- from there on
abbrev pub line_end : Text → Text
line_end [] = []
line_end (c ∷ cs) = if ends_line c cs then c ∷ cs else line_end cs

abbrev pub before_feed : Text → Text
before_feed [] = []
before_feed (c ∷ cs) = if c == 10 then [] else c ∷ before_feed cs

-- after the last line feed
abbrev pub last_line : Text → Text
last_line cs = reverse (before_feed (reverse cs))

abbrev pub line_feeds : Text → ℕ
line_feeds [] = 0
line_feeds (c ∷ cs) = (if c == 10 then 1 else 0) + line_feeds cs

-- ---- the end of the input

-- a piece that is neither a blank nor a comment
abbrev pub is_token : Piece → Bool
is_token (Leaf Blank) = false
is_token (Leaf (Doc s f)) = true
is_token (Leaf Word) = true
is_token (Leaf Lifetime) = true
is_token (Leaf (Literal k)) = true
is_token (Leaf (Mark c j)) = true
is_token (Open d) = true
is_token (Close d) = true

-- after the piece at the front of c ∷ cs: how many more characters it has after its first, and what follows the last token. Where no piece
-- begins, as at a comment of documentation, the rest of the line is taken for a token
abbrev pub past_piece : Text → Text → Result Found ErrorKind → ℕ × Text
past_piece last cs (Ok f) = (length f.spelled - 1, if is_token f.piece then f.rest else last)
past_piece last cs (Err k) = (length (first_line cs), line_end cs)

-- What follows the last token of a text, of which `last` follows those before. The number counts the characters that are left of a piece.
unfoldable pub past_pieces : ℕ → Text → Text → Text
past_pieces left last [] = last
past_pieces (suc left) last (c ∷ cs) = past_pieces left last cs
past_pieces zero last (c ∷ cs) = past_pieces (past_piece last cs (front Refuse (c ∷ cs))).0 (past_piece last cs (front Refuse (c ∷ cs))).1 cs

-- what follows the last token of a text: blanks and comments
abbrev pub after_tokens : Text → Text
after_tokens cs = past_pieces 0 cs cs

-- where its last token ends
abbrev pub input_end : Bytes → ℕ
input_end text = length text - size (after_tokens (chars text))

-- the end of a text, and what is past it, is shown there
abbrev pub shown_place : Bytes → ℕ → ℕ → ℕ × ℕ
shown_place text start end = if nat_lt start (length text) then (start, end) else (input_end text, input_end text)

-- ---- what stands for a character

-- characters that show nothing, or change how the text about them is shown: soft hyphens, joiners, spaces without a width, marks of direction
-- and of order, fillers, and the byte order mark
abbrev pub hidden : List ℕ
hidden =
    173 ∷ 847 ∷ 1564 ∷ 4447 ∷ 4448 ∷ 6068 ∷ 6069 ∷ 6155 ∷ 6156 ∷ 6157 ∷ 6158 ∷ 8203 ∷ 8204 ∷ 8205 ∷ 8206 ∷ 8207 ∷ 8232 ∷ 8233 ∷ 8234 ∷ 8235 ∷ 8236 ∷ 8237
    ∷ 8238 ∷ 8288 ∷ 8289 ∷ 8290 ∷ 8291 ∷ 8292 ∷ 8293 ∷ 8294 ∷ 8295 ∷ 8296 ∷ 8297 ∷ 8298 ∷ 8299 ∷ 8300 ∷ 8301 ∷ 8302 ∷ 8303 ∷ 12644 ∷ 65279 ∷ 65440 ∷ 65529
    ∷ 65530 ∷ 65531 ∷ []

-- these, and those of control from U+0080 on
abbrev pub is_hidden : ℕ → Bool
is_hidden c = (nat_le 128 c && nat_le c 159) || list_any (λ d. d == c) hidden

-- four hexadecimal digits, and more where they are wanted
abbrev pub hexadecimal : ℕ → Bytes
hexadecimal n = padded_integral (format_spec 32 0 4 4 (2 ^ 64 - 1)) false [] (digits 16 true n)

-- the picture of a character of control below U+0080 but the tab, and any other character itself
abbrev pub picture : ℕ → ℕ
picture c = if c == 127 then 9249 else if nat_lt c 32 && not (c == 9) then 9216 + c else c

abbrev pub visible_char : ℕ → Bytes
visible_char c = if is_hidden c then codes "<U+" ++ hexadecimal c ++ codes ">" else encode_utf8 (picture c)

-- a text as it is shown
abbrev pub visible : Text → Bytes
visible [] = []
visible (c ∷ cs) = visible_char c ++ visible cs

-- ---- columns

-- a tab and any other control character take one
abbrev pub columns_of : ℕ → ℕ
columns_of c = if c == 9 then 1 else unwrap_or (char_width false c) 1

abbrev pub columns : Text → ℕ
columns [] = 0
columns (c ∷ cs) = columns_of c + columns cs

-- as many characters as a text takes columns, and another one for a tab
abbrev pub drawn : ℕ → ℕ → Text → Text
drawn fill tab [] = []
drawn fill tab (c ∷ cs) = replicate (columns_of c) (if c == 9 then tab else fill) ++ drawn fill tab cs

-- what stands under a text so that what follows stands where the text ends: blanks, and its tabs
abbrev pub blanks : Text → Bytes
blanks = drawn 32 9

abbrev pub one_at_least : Bytes → Bytes
one_at_least [] = codes "^"
one_at_least (b ∷ bs) = b ∷ bs

-- the marks under a text
abbrev pub marks : Text → Bytes
marks cs = one_at_least (drawn 94 94 cs)

-- ---- the note

abbrev pub written : Bytes → ℕ → ℕ → Bytes → Bytes → Bytes → Bytes
written name line column message shown under =
    name ++ codes ":" ++ decimal line ++ codes ":" ++ decimal column ++ codes ": " ++ message ++ codes "\n" ++ shown ++ codes "\n" ++ under

-- of a place between two texts, up to a byte, where the first line has this number
abbrev pub between : Bytes → ℕ → Bytes → ℕ → Text → Text → Bytes
between name first message end head rest =
    written name (first + line_feeds head) (1 + columns (chars (visible (last_line head)))) message (visible (last_line head) ++ visible (first_line rest))
    (blanks (chars (visible (last_line head))) ++ marks (chars (visible (within (end - size head) (first_line rest)))))

abbrev pub at_place : Bytes → ℕ → Bytes → Bytes → ℕ × ℕ → Bytes
at_place name first text message p = between name first message p.1 (within p.0 (chars text)) (beyond p.0 (chars text))

-- of the bytes of a text from the first to the second place, where its first line has this number
abbrev pub note_from : Bytes → ℕ → Bytes → Bytes → ℕ → ℕ → Bytes
note_from name first text message start end = at_place name first text message (shown_place text start end)

abbrev pub note : Bytes → Bytes → Bytes → ℕ → ℕ → Bytes
note name text message start end = note_from name 1 text message start end

-- the line and the column that it says
abbrev pub position : ℕ → Text → ℕ × ℕ
position first head = (first + line_feeds head, 1 + columns (chars (visible (last_line head))))

abbrev pub line_and_column : ℕ → Bytes → ℕ → ℕ × ℕ
line_and_column first text start = position first (within (shown_place text start start).0 (chars text))

-- where a refusal of a text begins; one that points nowhere, as at the end of a whole read, at the end of the text
abbrev pub start_of : Bytes → Refusal → ℕ
start_of text e = if e.start.hi == 0 then length text else e.start.lo

-- from where to where it points
abbrev pub place_of : Bytes → Refusal → ℕ × ℕ
place_of text e = (start_of text e, max (start_of text e) e.end.hi)

abbrev pub placed : Bytes → Bytes → Refusal → Bytes
placed name text e = note name text e.text (place_of text e).0 (place_of text e).1

-- that memory ran out has no place
abbrev pub of_kind : ErrorKind → Bytes → Bytes → Refusal → Bytes
of_kind OutOfMemory name text e = name ++ (codes ": " ++ e.text)
of_kind _ name text e = placed name text e

abbrev pub of_refusal : Bytes → Bytes → Refusal → Bytes
of_refusal name text e = of_kind e.kind name text e
