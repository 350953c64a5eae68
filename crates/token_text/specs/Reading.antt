-- What a text is read as, piece by piece, with the groups that are still open.
use Rattle.std.specs.Prelude.{◌≡◌, ◌⊎◌, ℕ, zero, suc, ◌+◌, ◌-◌, Bool, List, [], ◌∷◌, ◌++◌, map, length, reverse, chars, encode_utf8_all, if◌then◌else◌, Result, Ok, Err, MatchResult}
use Rattle.std.specs.Char.{len_utf8}
use denote.Enum.Bare.{sameb}
use Rattle.token_core.specs.contracts.tree.Delimiter.{the_type}
use Rattle.token_core.specs.declared.tree.Delimiter.{Delimiter}
use Rattle.token_core.specs.declared.tree.TokenTree.{TokenTree}
use Rattle.token_core.specs.declared.span.Span.{Span}
use Rattle.token_core.specs.declared.error.ErrorKind.{ErrorKind}
use Rattle.token_core.specs.declared.error.ErrorKind.TheVariants.{UnclosedDelimiter, UnexpectedClosingDelimiter}
use Rattle.token_core.specs.Refusal.{Refusal, named, out_of_memory}
use Rattle.token_core.specs.Spans.{span}
use Rattle.token_core.specs.Toks.{Bytes}
use Rattle.token_core.specs.Trees.{trees}
use Rattle.token_text.specs.declared.state.Open as code_open
use Rattle.token_text.specs.declared.state.State as code
use Rattle.token_text.specs.declared.piece.Docs.{Docs}
use Rattle.token_text.specs.declared.piece.Docs.TheVariants.{Refuse, Read}
use Rattle.token_text.specs.declared.piece.Leaf as leaves
use Rattle.token_text.specs.declared.piece.Piece.{Piece}
use Rattle.token_text.specs.declared.piece.Piece.TheVariants.{Leaf, Open, Close}
use Rattle.token_text.specs.Characters.{Text, size}
use Rattle.token_text.specs.Front.{Found, front}
use Rattle.token_text.specs.Pieces.{trees_of, group_tree}

-- a group whose closing bracket is still to come: its bracket, where that stands, and the trees before it
pub record Frame : Type 0 where
  pub delimiter : Delimiter
  pub span : Span
  pub before : List TokenTree

abbrev pub frame : Delimiter → Span → List TokenTree → Frame
frame d s ts = record { delimiter = d; span = s; before = ts }

-- the open groups, innermost first, and the trees so far of the innermost
pub record State : Type 0 where
  pub open_groups : List Frame
  pub so_far : List TokenTree

abbrev pub state : List Frame → List TokenTree → State
state fs ts = record { open_groups = fs; so_far = ts }

abbrev pub start : State
start = state [] []

unfoldable pub same : Delimiter → Delimiter → Bool
same = sameb the_type

abbrev pub unexpected : Span → Refusal
unexpected s = named UnexpectedClosingDelimiter s

abbrev pub closed : Delimiter → Span → List Frame → List TokenTree → Result State Refusal
closed d s [] ts = Err (unexpected s)
closed d s (f ∷ fs) ts = if same f.delimiter d then Ok (state fs (f.before ++ group_tree d f.span s ts ∷ [])) else Err (unexpected s)

abbrev pub closed_by : Delimiter → Span → State → Result State Refusal
closed_by d s x = closed d s x.open_groups x.so_far

abbrev pub opened : Delimiter → Span → State → State
opened d s x = state (frame d s x.so_far ∷ x.open_groups) []

abbrev pub with_tree : TokenTree → State → State
with_tree t x = state x.open_groups (x.so_far ++ t ∷ [])

abbrev pub leaf_piece : leaves.Leaf → Piece
leaf_piece t = Leaf t

-- after a piece with its place and its bytes
abbrev pub act : Span → Bytes → Piece → State → Result State Refusal
act s b (Leaf t) x = Ok (state x.open_groups (x.so_far ++ trees_of t s b))
act s b (Open d) x = Ok (opened d s x)
act s b (Close d) x = closed_by d s x

-- at the end of the text
abbrev pub finished : List Frame → List TokenTree → Result (List TokenTree) Refusal
finished [] ts = Ok ts
finished (f ∷ fs) ts = Err (named UnclosedDelimiter f.span)

abbrev pub finish : State → Result (List TokenTree) Refusal
finish x = finished x.open_groups x.so_far

-- a state, and how many more characters the piece has after its first
abbrev pub with_more : ℕ → Result State Refusal → Result (State × ℕ) Refusal
with_more n (Ok x) = Ok (x, n)
with_more n (Err e) = Err e

-- at the first character of what is no piece
abbrev pub faulty : ErrorKind → ℕ → ℕ → Refusal
faulty k at c = named k (span at (at + len_utf8 c))

abbrev pub turn : ℕ → ℕ → State → Result Found ErrorKind → Result (State × ℕ) Refusal
turn at c x (Err k) = Err (faulty k at c)
turn at c x (Ok f) = with_more (length f.spelled - 1) (act (span at (at + size f.spelled)) (encode_utf8_all f.spelled) f.piece x)

-- The trees of a text that begins at an offset, or the refusal. The first number counts the characters that are left of a piece.
unfoldable pub reads : Docs → ℕ → ℕ → State → Text → Result (List TokenTree) Refusal
reads docs left at x [] = finish x
reads docs (suc left) at x (c ∷ cs) = reads docs left (at + len_utf8 c) x cs
reads docs zero at x (c ∷ cs) = elim (turn at c x (front docs (c ∷ cs))) [ Ok y ↦ reads docs y.1 (at + len_utf8 c) y.0 cs | Err e ↦ Err e ]

abbrev pub lexed_with : Docs → Bytes → Result (List TokenTree) Refusal
lexed_with docs text = reads docs 0 0 start (chars text)

abbrev pub lexed : Bytes → Result (List TokenTree) Refusal
lexed text = lexed_with Refuse text

-- the same where comments of documentation are read
abbrev pub lexed_documented : Bytes → Result (List TokenTree) Refusal
lexed_documented text = lexed_with Read text

-- ---- how results stand to what is read

-- memory ran out, or it is that refusal
abbrev pub Fails : {B : Type 0} → Refusal → Result B Refusal → Type 0
Fails e o = (e ≡ out_of_memory) ⊎ (o ≡ Err e)

abbrev pub Gives : {A B : Type 0} → (A → B) → Result A Refusal → Result B Refusal → Type 0
Gives f r o = MatchResult r (λ a. o ≡ Ok (f a)) (λ e. Fails e o)

abbrev pub frame_of : code_open.Open → Frame
frame_of o = frame o.delimiter o.span (trees o.before)

abbrev pub state_of : code.State → State
state_of r = state (map frame_of (reverse r.open_groups.items)) (trees r.trees)
