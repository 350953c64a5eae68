-- The named marks and words, by their numbers.
use Rattle.std.specs.Prelude.{ℕ, List, [], ◌∷◌, ◌++◌, get_or, replicate, slice_set}
use Rattle.token_core.specs.declared.span.Span.{Span}
use Rattle.token_core.specs.declared.mark.Spans.{Spans}
use Rattle.token_core.specs.declared.mark.Mark.{Mark}
use Rattle.token_core.specs.declared.word.Word.{Word}
use Rattle.token_core.specs.declared.tree.Ident.{Ident}
use Rattle.token_core.specs.Toks.{Bytes}
pub use Rattle.token_core.specs.Keywords.{text_of}
use Rattle.token_core.specs.Reads.{Reader, ◌<$>◌, read_mark, read_word, is_text}

-- the characters of the marks, by their numbers
abbrev pub mark_table : List (List ℕ)
mark_table =
    (33 ∷ []) ∷ (58 ∷ 58 ∷ []) ∷ (60 ∷ []) ∷ (62 ∷ []) ∷ (44 ∷ []) ∷ (38 ∷ [])
    ∷ (64 ∷ []) ∷ (58 ∷ []) ∷ (46 ∷ 46 ∷ []) ∷ (46 ∷ 46 ∷ 46 ∷ []) ∷ (46 ∷ 46 ∷ 61 ∷ []) ∷ (61 ∷ [])
    ∷ (61 ∷ 61 ∷ []) ∷ (61 ∷ 62 ∷ []) ∷ (60 ∷ 61 ∷ []) ∷ (45 ∷ []) ∷ (33 ∷ 61 ∷ []) ∷ (124 ∷ [])
    ∷ (124 ∷ 61 ∷ []) ∷ (124 ∷ 124 ∷ []) ∷ (43 ∷ []) ∷ (35 ∷ []) ∷ (63 ∷ []) ∷ (45 ∷ 62 ∷ [])
    ∷ (59 ∷ []) ∷ (60 ∷ 60 ∷ 61 ∷ []) ∷ (42 ∷ []) ∷ []

abbrev pub mark_count : ℕ
mark_count = 27

-- the characters of a mark; a number that names none has no character
abbrev pub chars_of : ℕ → List ℕ
chars_of n = get_or mark_table n []

-- a text between back quotes, as refusals name it
abbrev pub quoted : Bytes → Bytes
quoted t = 96 ∷ (t ++ 96 ∷ [])

unfoldable pub mark_name : ℕ → Bytes
mark_name n = quoted (chars_of n)

unfoldable pub word_name : ℕ → Bytes
word_name n = quoted (text_of n)

-- as many spans as a mark has characters
abbrev pub spread : ℕ → Spans → List Span
spread n s = slice_set (slice_set (replicate n s.third) 0 s.first) 1 s.second

abbrev pub mark_of : (n l : ℕ) → Spans → Mark n l
mark_of n l s = record { spans = spread l s }

abbrev pub word_of : (n : ℕ) → Span → Word n
word_of n s = record { span = s }

-- the reader of a mark, and of a word
abbrev pub read : (n l : ℕ) → Reader (Mark n l)
read n l = mark_of n l <$> read_mark (chars_of n) (mark_name n)

abbrev pub read_named : (n : ℕ) → Reader (Word n)
read_named n = (λ (i : Ident). word_of n i.span) <$> read_word (is_text (text_of n)) (word_name n)
