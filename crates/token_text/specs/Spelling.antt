-- What a text spells, rule by rule.
use Rattle.std.specs.Prelude.{◌≡◌, ◌⊎◌, ℕ, zero, ◌+◌, true, false, ◌&&◌, ◌==◌, Bool, List, [], ◌∷◌, ◌++◌, drop, codes, encode_utf8_all, chars, Option, Some, None}
use Rattle.std.specs.Char.{len_utf8}
use Rattle.token_core.specs.declared.tree.Delimiter.{Delimiter}
use Rattle.token_core.specs.declared.tree.Delimiter.TheVariants.{Parenthesis, Brace, Bracket, None as Invisible}
use Rattle.token_core.specs.declared.tree.LitKind.{LitKind}
use Rattle.token_core.specs.declared.tree.TokenTree.{TokenTree}
use Rattle.token_core.specs.declared.span.Span.{Span}
use Rattle.token_core.specs.declared.error.ErrorKind.{ErrorKind}
use Rattle.token_core.specs.declared.error.ErrorKind.TheVariants.{UnclosedDelimiter, UnexpectedClosingDelimiter, UnknownToken, UnterminatedToken, DocComment, MalformedNumber}
use Rattle.token_core.specs.Refusal.{Refusal, named}
use Rattle.token_core.specs.Spans.{span}
use Rattle.token_core.specs.Toks.{Bytes}
use Rattle.token_text.specs.declared.class.Class.TheVariants.{NoLineFeed}
use Rattle.token_text.specs.declared.piece.Closing.{Closing}
use Rattle.token_text.specs.declared.piece.Docs.{Docs}
use Rattle.token_text.specs.declared.piece.Docs.TheVariants.{Refuse, Read}
use Rattle.token_text.specs.declared.piece.Form.TheVariants.{Line, Block}
use Rattle.token_text.specs.declared.piece.Leaf as leaves
use Rattle.token_text.specs.declared.piece.Leaf.TheVariants.{Blank, Doc, Word, Lifetime, Literal, Mark}
use Rattle.token_text.specs.declared.piece.Piece.{Piece}
use Rattle.token_text.specs.declared.piece.Piece.TheVariants.{Leaf, Open, Close}
use Rattle.token_text.specs.Characters.{Text, size, upto, begins_with, is_blank, is_mark}
use Rattle.token_text.specs.Literals.{Run, IsAnyWord, Opens, Closes, IsSuffix, IsNumber, IsMalformed, IsComment}
use Rattle.token_text.specs.Pieces.{begins_char, trees_of, group_tree, begins_comment, spacing, is_char, is_line_doc, is_block_doc, style_of, has_lone_return}

-- ---- the pieces

abbrev pub opens : Delimiter → Text
opens Parenthesis = codes "("
opens Brace = codes "{"
opens Bracket = codes "["
opens Invisible = codes "\\("

abbrev pub closes : Delimiter → Text
closes Parenthesis = codes ")"
closes Brace = codes "}"
closes Bracket = codes "]"
closes Invisible = codes "\\)"

-- `b'`
abbrev pub begins_byte : Text → Bool
begins_byte [] = false
begins_byte (c ∷ cs) = c == 98 && begins_with (is_char 39) cs

-- no literal begins here with letters, nor `b'`
pub record NoLiteral (cs : Text) : Type 0 where
  pub no_literal : (k : LitKind) (how : Closing) (ds : Text) → Opens k how cs ds → ⊥
  pub no_byte : begins_byte cs ≡ false

-- The text is the piece and then the rest: so the piece is the longest that may begin there.
pub data IsPiece (docs : Docs) : Piece → Text → Text → Type 0 where
  blank : {c : ℕ} {rest : Text} → is_blank c ≡ true → IsPiece docs (Leaf Blank) (c ∷ rest) rest
  line_comment : {cs rest : Text} → is_line_doc cs ≡ false → Run NoLineFeed cs rest → IsPiece docs (Leaf Blank) (47 ∷ 47 ∷ cs) rest
  block_comment : {cs rest : Text} → is_block_doc cs ≡ false → IsComment zero cs rest → IsPiece docs (Leaf Blank) (47 ∷ 42 ∷ cs) rest
  -- where it is read, documentation, in which no carriage return stands without a line feed behind it
  line_doc : {cs rest : Text} → docs ≡ Read → is_line_doc cs ≡ true → Run NoLineFeed cs rest → has_lone_return (upto cs (drop 1 rest)) ≡ false →
      IsPiece docs (Leaf (Doc (style_of cs) Line)) (47 ∷ 47 ∷ cs) rest
  block_doc : {cs rest : Text} → docs ≡ Read → is_block_doc cs ≡ true → IsComment zero cs rest → has_lone_return (upto cs rest) ≡ false →
      IsPiece docs (Leaf (Doc (style_of cs) Block)) (47 ∷ 42 ∷ cs) rest
  word : {cs rest : Text} → IsAnyWord cs rest → NoLiteral cs → IsPiece docs (Leaf Word) cs rest
  lifetime : {cs rest : Text} → begins_char cs ≡ false → IsAnyWord cs rest → IsPiece docs (Leaf Lifetime) (39 ∷ cs) rest
  literal : {k : LitKind} {how : Closing} {cs ds es rest : Text} → Opens k how cs ds → Closes how ds es → IsSuffix es rest → IsPiece docs (Leaf (Literal k)) cs rest
  number : {k : LitKind} {cs ds rest : Text} → IsNumber k cs ds → IsSuffix ds rest → IsPiece docs (Leaf (Literal k)) cs rest
  mark : {c : ℕ} {rest : Text} → is_mark c ≡ true → begins_comment c rest ≡ false → IsPiece docs (Leaf (Mark c (spacing rest))) (c ∷ rest) rest
  opening : {d : Delimiter} {rest : Text} → IsPiece docs (Open d) (opens d ++ rest) rest
  closing : {d : Delimiter} {rest : Text} → IsPiece docs (Close d) (closes d ++ rest) rest

-- the text cs is the piece w and then the rest
pub record Begins (docs : Docs) (p : Piece) (cs w rest : Text) : Type 0 where
  pub whole : cs ≡ w ++ rest
  pub is_piece : IsPiece docs p cs rest

-- ---- the trees

-- The text cs, whose offset is `at`, is the trees and then the rest, whose offset is `end`.
pub data Spelled (docs : Docs) : ℕ → Text → List TokenTree → ℕ → Text → Type 0 where
  nothing : (at : ℕ) (rest : Text) → Spelled docs at rest [] at rest
  a_leaf : (at end : ℕ) (cs w ds rest : Text) (t : leaves.Leaf) (l : List TokenTree) →
      Begins docs (Leaf t) cs w ds → Spelled docs (at + size w) ds l end rest →
      Spelled docs at cs (trees_of t (span at (at + size w)) (encode_utf8_all w) ++ l) end rest
  a_group : (at inner_end end : ℕ) (cs w ds es v fs rest : Text) (d : Delimiter) (inner l : List TokenTree) →
      Begins docs (Open d) cs w ds → Spelled docs (at + size w) ds inner inner_end es →
      Begins docs (Close d) es v fs → Spelled docs (inner_end + size v) fs l end rest →
      Spelled docs at cs (group_tree d (span at (at + size w)) (span inner_end (inner_end + size v)) inner ∷ l) end rest

-- the whole text spells the trees
abbrev pub SpellsWith : Docs → Bytes → List TokenTree → Type 0
SpellsWith docs text l = (end : ℕ) × Spelled docs 0 (chars text) l end []

-- in it no comment of documentation stands,
abbrev pub Spells : Bytes → List TokenTree → Type 0
Spells text l = SpellsWith Refuse text l

-- or each such comment is the attribute that it stands for
abbrev pub SpellsDocumented : Bytes → List TokenTree → Type 0
SpellsDocumented text l = SpellsWith Read text l

-- ---- the refusals

-- no piece begins here, for this reason
pub data Named (docs : Docs) : ErrorKind → Text → Type 0 where
  -- a literal that doesn't end
  no_end : {k : LitKind} {how : Closing} {cs ds : Text} → Opens k how cs ds → ((rest : Text) → Closes how ds rest → ⊥) → Named docs UnterminatedToken cs
  -- a comment that doesn't end
  no_comment_end : {cs : Text} → is_block_doc cs ≡ false → ((rest : Text) → IsComment zero cs rest → ⊥) → Named docs UnterminatedToken (47 ∷ 42 ∷ cs)
  no_doc_end : {cs : Text} → docs ≡ Read → is_block_doc cs ≡ true → ((rest : Text) → IsComment zero cs rest → ⊥) → Named docs UnterminatedToken (47 ∷ 42 ∷ cs)
  -- documentation, where it is refused
  line_doc_refused : {cs : Text} → docs ≡ Refuse → is_line_doc cs ≡ true → Named docs DocComment (47 ∷ 47 ∷ cs)
  block_doc_refused : {cs : Text} → docs ≡ Refuse → is_block_doc cs ≡ true → Named docs DocComment (47 ∷ 42 ∷ cs)
  malformed : {cs : Text} → IsMalformed cs → Named docs MalformedNumber cs

-- neither a piece nor one of these begins here
pub record NothingKnown (docs : Docs) (cs : Text) : Type 0 where
  pub no_piece : (p : Piece) (w rest : Text) → Begins docs p cs w rest → ⊥
  pub no_name : (k : ErrorKind) → Named docs k cs → ⊥

abbrev pub Faulty : Docs → ErrorKind → Text → Type 0
Faulty docs k cs = Named docs k cs ⊎ ((k ≡ UnknownToken) × NothingKnown docs cs)

-- a group by its bracket, and where that stands
abbrev pub Opening : Type 0
Opening = Delimiter × Span

-- The text cs, whose offset is `at`, is trees and the brackets of groups that stay open, and then the rest,
-- whose offset is `end`. The innermost of these groups is given, where there is one.
pub data Reaches (docs : Docs) : ℕ → Text → Option Opening → ℕ → Text → Type 0 where
  outside : (at end : ℕ) (cs rest : Text) (l : List TokenTree) → Spelled docs at cs l end rest → Reaches docs at cs None end rest
  inside : (at middle end : ℕ) (cs es w ds rest : Text) (o : Option Opening) (d : Delimiter) (l : List TokenTree) →
      Reaches docs at cs o middle es → Begins docs (Open d) es w ds → Spelled docs (middle + size w) ds l end rest →
      Reaches docs at cs (Some (d, span middle (middle + size w))) end rest

-- a closing bracket that doesn't belong to the innermost open group
abbrev pub ClosesNone : Delimiter → Option Opening → Type 0
ClosesNone d None = Unit {0}
ClosesNone d (Some o) = ¬ (o.0 ≡ d)

-- the text spells no trees, for this reason and at this place
pub data RefusedWith (docs : Docs) (text : Bytes) : Refusal → Type 0 where
  unclosed : (end : ℕ) (o : Opening) → Reaches docs 0 (chars text) (Some o) end [] → RefusedWith docs text (named UnclosedDelimiter o.1)
  unexpected : (end : ℕ) (rest w ds : Text) (o : Option Opening) (d : Delimiter) →
      Reaches docs 0 (chars text) o end rest → Begins docs (Close d) rest w ds → ClosesNone d o →
      RefusedWith docs text (named UnexpectedClosingDelimiter (span end (end + size w)))
  -- where no piece begins, its first character
  faulty : (k : ErrorKind) (end c : ℕ) (ds : Text) (o : Option Opening) →
      Reaches docs 0 (chars text) o end (c ∷ ds) → Faulty docs k (c ∷ ds) → RefusedWith docs text (named k (span end (end + len_utf8 c)))

abbrev pub Refused : Bytes → Refusal → Type 0
Refused text e = RefusedWith Refuse text e

abbrev pub RefusedDocumented : Bytes → Refusal → Type 0
RefusedDocumented text e = RefusedWith Read text e
