-- Tokens of what a string literal holds, moved to where they stand in the literal.
use Rattle.std.specs.Prelude.{◌≡◌, ◌⊎◌, ℕ, ◌-◌, Result, MatchResult, List, [], length, map, slice_get, Option, Some, None, codes}
use Rattle.token_core.specs.declared.lit.LitStr.{LitStr}
use Rattle.token_core.specs.declared.span.Span.{Span}
use Rattle.token_core.specs.declared.span.DelimSpan.{DelimSpan}
use Rattle.token_core.specs.declared.tree.Group.{Group}
use Rattle.token_core.specs.declared.tree.TokenTree.{TokenTree}
use Rattle.token_core.specs.declared.tree.TokenTree.TheOpen as o
use Rattle.token_core.specs.declared.tree.TokenTree.TheFolds.{fold-TokenTree, fold-Group}
use Rattle.token_core.specs.declared.tree.TokenTree.TheVariants as trees
use Rattle.token_core.specs.Reads.{WholeRead, Promised}
use Rattle.token_core.specs.Refusal.{Refusal, refusal, custom, out_of_memory}
use Rattle.token_core.specs.Spans.{span, delim_span}
use Rattle.token_core.specs.Stream.{Stream, started}
use Rattle.token_core.specs.Toks.{Toks}
use Rattle.token_core.specs.Trees.{toks, ident, punct, literal, group_of}
use Rattle.token_text.specs.Characters.{Text}
use Rattle.token_text.specs.Spelling.{Spells, Refused as RefusedText}
use Rattle.token_text.specs.Strings.{Content, IsString, Malformed, inside, offset, text_of, places_of}
use Rattle.token_text.specs.Wholes.{RefusedSo}

-- ---- places

abbrev pub from_of : Span → Option Span → ℕ
from_of closing None = closing.lo
from_of closing (Some s) = s.lo

abbrev pub to_of : Span → Option Span → ℕ
to_of closing None = closing.hi
to_of closing (Some s) = s.hi

-- from where the character of its first byte begins to where that of its last one ends; `places` has those of all bytes, and behind them stands the closing quote
unfoldable pub moved : List Span → Span → Span → Span
moved places closing s = span (from_of closing (slice_get places s.lo)) (to_of closing (slice_get places (s.hi - 1)))

abbrev pub Move : Type 0
Move = Span → Span

abbrev pub move_of : Content → Move
move_of c = moved (places_of c.held) c.closing

-- ---- tokens, with each of their places moved

abbrev pub moved_sides : Move → DelimSpan → DelimSpan
moved_sides f s = delim_span (f s.opening) (f s.closing)

abbrev pub tree_step : Move → o.TokenTree-F TokenTree Group → TokenTree
tree_step f (o.Ident i) = trees.Ident (ident i.text (f i.span))
tree_step f (o.Punct p) = trees.Punct (punct p.ch p.spacing (f p.span))
tree_step f (o.Literal l) = trees.Literal (literal l.kind l.text (f l.span))
tree_step f (o.Group g) = trees.Group g

abbrev pub group_step : Move → o.Group-F TokenTree Group → Group
group_step f g = group_of g.content.1 g.content.0 (moved_sides f g.span)

abbrev pub moved_tree : Move → TokenTree → TokenTree
moved_tree f = fold-TokenTree TokenTree Group (tree_step f) (group_step f)

abbrev pub moved_group : Move → Group → Group
moved_group f = fold-Group TokenTree Group (tree_step f) (group_step f)

abbrev pub moved_trees : Move → List TokenTree → List TokenTree
moved_trees f l = map (moved_tree f) l

abbrev pub moved_refusal : Move → Refusal → Refusal
moved_refusal f e = refusal e.kind e.text (f e.start) (f e.end)

-- ---- what is read of a string literal

-- The literal is a string without a suffix; what it holds spells tokens, and these are they, moved. Behind them stands its closing quote.
pub record HoldsTokens (s : LitStr) (closing : Span) (l : List TokenTree) : Type 0 where
  pub content : Content
  pub is_string : IsString s content
  pub bare : content.suffix ≡ []
  pub inner : List TokenTree
  pub spells : Spells (text_of content.held) inner
  pub moved : l ≡ moved_trees (move_of content) inner
  pub place : closing ≡ content.closing

-- at the suffix, to the end of the literal
abbrev pub suffixed_at : LitStr → Text → Refusal
suffixed_at s cs =
    let place = inside s (offset s cs) (length s.text) in
    custom place place (codes "unexpected suffix on string literal")

-- no tokens can be read of it, for this reason
pub data Refused (s : LitStr) : Refusal → Type 0 where
  malformed : {e : Refusal} → Malformed s e → Refused s e
  suffixed : {c : Content} → IsString s c → ¬ (c.suffix ≡ []) → Refused s (suffixed_at s c.suffix)
  inner : {c : Content} {e : Refusal} → IsString s c → c.suffix ≡ [] → RefusedText (text_of c.held) e → Refused s (moved_refusal (move_of c) e)

-- a whole read of its tokens
abbrev pub ReadsString : {A : Type 0} → (Stream → A → Stream → Type 0) → (Stream → Refusal → Type 0) → LitStr → Result A Refusal → Type 0
ReadsString reads refuses s r = (closing : Span) (l : List TokenTree) → HoldsTokens s closing l → WholeRead reads refuses (started closing (toks l)) r

-- what is promised of them
abbrev pub KeepsString : {A : Type 0} → (Toks → Option A → Type 0) → LitStr → Result A Refusal → Type 0
KeepsString promise s r = (closing : Span) (l : List TokenTree) → HoldsTokens s closing l → Promised (promise (toks l)) r

-- what the literal itself is refused for
abbrev pub RefusesString : {A : Type 0} → LitStr → Result A Refusal → Type 0
RefusesString s r = (e : Refusal) → Refused s e → RefusedSo e r

-- An answer is that of its tokens; a refusal is for memory, one that the literal has, or one of a read of its tokens.
abbrev pub ToldString : {A : Type 0} → LitStr → Result A Refusal → Type 0
ToldString s r =
    MatchResult r (λ _. (closing : Span) × (l : List TokenTree) × HoldsTokens s closing l)
    (λ e. (e ≡ out_of_memory) ⊎ Refused s e ⊎ ((closing : Span) × (l : List TokenTree) × HoldsTokens s closing l))
