-- How deep a text nests: as its tokens do (`token_core/specs/Levels.antt`).
use Rattle.std.specs.Prelude.{ℕ, zero, suc, ◌+◌, ◌-◌, List, [], ◌∷◌, ◌++◌, length, chars, encode_utf8_all, Option, Ok, Err}
use Rattle.std.specs.Char.{len_utf8}
use Rattle.token_core.specs.declared.class.Class.TheVariants as classes
use Rattle.token_core.specs.declared.levels.Last.TheVariants.{Value, Other}
use Rattle.token_core.specs.declared.span.Span.{Span}
use Rattle.token_core.specs.declared.tree.Spacing.TheVariants.{Joint}
use Rattle.token_core.specs.Classes.{text_class}
use Rattle.token_core.specs.Levels.{State, Token, tokens, passes, start, plus, ident, mark, with_last, open_group, close_group}
use Rattle.token_core.specs.Spans.{none, span}
use Rattle.token_core.specs.Toks.{Bytes}
use Rattle.token_text.specs.declared.piece.Docs.{Docs}
use Rattle.token_text.specs.declared.piece.Leaf as leaves
use Rattle.token_text.specs.declared.piece.Leaf.TheVariants.{Blank, Doc, Word, Lifetime, Literal, Mark}
use Rattle.token_text.specs.declared.piece.Piece.{Piece}
use Rattle.token_text.specs.declared.piece.Piece.TheVariants.{Leaf, Open, Close}
use Rattle.token_text.specs.Characters.{Text, size}
use Rattle.token_text.specs.Front.{Found, front}
use Rattle.token_text.specs.Pieces.{past_quote, trees_of}

-- ---- the tokens of a text

-- the tokens of a piece whose place and bytes these are
abbrev pub piece_tokens : Piece → Span → Bytes → List Token
piece_tokens (Leaf k) s b = tokens (trees_of k s b)
piece_tokens (Open d) s b = (classes.Open d, s) ∷ []
piece_tokens (Close d) s b = (classes.End, none) ∷ []

abbrev pub found_tokens : ℕ → Found → List Token
found_tokens at f = piece_tokens f.piece (span at (at + size f.spelled)) (encode_utf8_all f.spelled)

-- The tokens of the pieces of a text that begins at an offset, up to where none begins. The first number counts the characters that are left of a piece.
unfoldable pub tokens_from : Docs → ℕ → ℕ → Text → List Token
tokens_from docs left at [] = []
tokens_from docs (suc left) at (c ∷ cs) = tokens_from docs left (at + len_utf8 c) cs
tokens_from docs zero at (c ∷ cs) =
    elim (front docs (c ∷ cs)) [ Ok f ↦ found_tokens at f ++ tokens_from docs (length f.spelled - 1) (at + len_utf8 c) cs | Err k ↦ [] ]

abbrev pub text_tokens : Docs → Bytes → List Token
text_tokens docs text = tokens_from docs 0 0 (chars text)

-- the place of the first token of a text whose level is above a limit
abbrev pub deep_at : Docs → ℕ → Bytes → Option Span
deep_at docs limit text = passes limit (text_tokens docs text) start

-- ---- the levels after a piece of these bytes

abbrev pub after_leaf : leaves.Leaf → Bytes → State → State
after_leaf Blank b x = x
after_leaf (Doc style form) b x = with_last Other x
after_leaf Word b x = ident (text_class b) x
after_leaf Lifetime b x = ident (text_class (past_quote b)) (mark Joint 39 x)
after_leaf (Literal k) b x = with_last Value x
after_leaf (Mark c j) b x = mark j c x

abbrev pub after_piece : Piece → Bytes → State → State
after_piece (Leaf k) b x = after_leaf k b x
after_piece (Open d) b x = open_group d x
after_piece (Close d) b x = close_group x

-- the greatest level of a piece after which the levels are these: the attribute of a comment of documentation has a group
abbrev pub highest : Piece → State → ℕ
highest (Leaf Blank) y = y.here
highest (Leaf (Doc style form)) y = plus y.here 1
highest (Leaf Word) y = y.here
highest (Leaf Lifetime) y = y.here
highest (Leaf (Literal k)) y = y.here
highest (Leaf (Mark c j)) y = y.here
highest (Open d) y = y.here
highest (Close d) y = y.here

-- where a piece at this place may pass a limit: a closing bracket doesn't
abbrev pub place : Piece → Span → Span
place (Leaf k) s = s
place (Open d) s = s
place (Close d) s = none
