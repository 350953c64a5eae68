-- The reads of the sample, as functions of the stream.
use Rattle.std.specs.Prelude.{ℕ, zero, suc, Bool, false, ◌&&◌, Option, Err, if◌then◌else◌, codes}
use Rattle.token_core.specs.declared.error.ErrorKind.TheVariants.{Unexpected}
use Rattle.token_core.specs.declared.mark.Mark.{Mark}
use Rattle.token_core.specs.declared.tree.Delimiter.TheVariants.{Parenthesis}
use Rattle.token_core.specs.declared.tree.Ident.{Ident}
use Rattle.token_core.specs.Toks.{Toks}
use Rattle.token_core.specs.Reads.{Reader, ◌>>=◌, ◌<$>◌, pure, peek, optional, refuse, expected, is_done, sees_mark, sees_word, sees_group, in_group, read_word, any_text, ident_name}
use Rattle.token_core.specs.Groups.{paren_name}
use Rattle.token_core.specs.Marks as marks
use Rattle.token_core.specs.Lits.{sees_lit, read_lit}
use Rattle.token_core.specs.Loops.{Many, joined, terminated}
use Rattle.syn_path.specs.path.Spelling.{is_mod_word}
use Rattle.syn_path.specs.declared.supplied.Place.{Place}
use Rattle.syn_path.specs.declared.supplied.Place.TheVariants.{ArrayLen, Value, Guard, Block}
use Rattle.syn_sample.specs.declared.sample.Sample.{Sample}
use Rattle.syn_sample.specs.declared.sample.Sample.TheVariants.{Sum, Statements}
use Rattle.syn_sample.specs.declared.sample.Atom.{Atom}
use Rattle.syn_sample.specs.declared.sample.Atom.TheVariants as a
use Rattle.syn_sample.specs.declared.sample.ModPath.{ModPath}
use Rattle.syn_sample.specs.sample.Parts.{Sep, Semi, Atoms, path_of, group_of, lone, groups}
use Rattle.token_core.specs.Tokens as token

-- values joined by a mark, at least one; the first is as the others
abbrev pub joined_by : {A : Type 0} → (n k : ℕ) → Reader A → Reader (Many A (Mark n k))
joined_by n k value = joined (λ first. value) (sees_mark (marks.chars_of n)) (marks.read n k) false

abbrev pub sees_sep : Toks → Bool
sees_sep = token.sees_path_sep

-- an identifier of a path
unfoldable pub segment : Reader Ident
segment = do
  here ← peek (sees_word is_mod_word)
  if here then read_word any_text ident_name else (λ s. Err (expected ident_name s))

-- a `::` that may be there
unfoldable pub leading : Reader (Option Sep)
leading = optional sees_sep token.path_sep

unfoldable pub path : Reader ModPath
path = do
  colon ← leading
  all ← joined_by 1 2 segment
  pure (path_of colon all)

-- atoms in parentheses, as they are read there
abbrev pub group_by : Reader Atoms → Reader Atom
group_by inside = (λ g. group_of g.0 g.1) <$> in_group Parenthesis paren_name inside

-- a literal, a group, or a path
abbrev pub atom_by : Reader Atom → Reader Atom
atom_by in_parens = do
  here ← peek sees_lit
  if here then a.Lit <$> read_lit else (do
    opens ← peek (sees_group Parenthesis)
    if opens then in_parens else (a.Path <$> path))

-- atoms joined by `+`, in less than n groups
abbrev pub atoms_at : ℕ → Reader Atoms
atoms_at zero = refuse Unexpected
atoms_at (suc n) = joined_by 20 1 (atom_by (group_by (atoms_at n)))

-- they stand in no more groups than there are
unfoldable pub atoms : Reader Atoms
atoms s = atoms_at (suc (groups s.rest)) s

unfoldable pub grouped : Reader Atom
grouped = group_by atoms

unfoldable pub atom : Reader Atom
atom = atom_by grouped

unfoldable pub sum : Reader Sample
sum = Sum <$> atoms

-- not a literal that ends the stream
unfoldable pub value : Reader Sample
value = do
  v ← atoms
  over ← peek is_done
  if lone v.0 && over then (λ s. Err (expected (codes "`+`") s)) else pure (Sum v)

-- sums up to the end of the stream, each ended by `;`, which the last may lack
unfoldable pub statements : Reader (Many Atoms Semi)
statements = terminated is_done atoms token.semi

unfoldable pub block : Reader Sample
block = Statements <$> statements

abbrev pub at_place : Place → Reader Sample
at_place ArrayLen = sum
at_place Value = value
at_place Guard = sum
at_place Block = block
