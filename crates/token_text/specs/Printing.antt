-- The text of trees.
use Rattle.std.specs.Prelude.{Bool, true, false, List, [], ◌∷◌, ◌++◌, map, if◌then◌else◌, codes, encode_utf8}
use Rattle.token_core.specs.declared.tree.Delimiter.{Delimiter}
use Rattle.token_core.specs.declared.tree.Delimiter.TheVariants.{Parenthesis, Brace, Bracket, None}
use Rattle.token_core.specs.declared.tree.Spacing.{Spacing}
use Rattle.token_core.specs.declared.tree.Spacing.TheVariants.{Joint, Alone}
use Rattle.token_core.specs.declared.tree.TokenTree.{TokenTree}
use Rattle.token_core.specs.declared.tree.TokenTree.TheOpen as o
use Rattle.token_core.specs.declared.tree.TokenTree.TheFolds.{fold-TokenTree, fold-Group}
use Rattle.token_core.specs.declared.tree.Group.{Group}
use Rattle.token_core.specs.Trees.{TokenStream}
use Rattle.token_core.specs.Toks.{Bytes}

-- a tree's text, and whether the next tree stands right after it
pub record Shown : Type 0 where
  pub text : Bytes
  pub joint : Bool

abbrev pub shown_alone : Bytes → Shown
shown_alone t = record { text = t; joint = false }

abbrev pub is_joint : Spacing → Bool
is_joint Joint = true
is_joint Alone = false

abbrev pub gap : Bool → Bytes
gap joint = if joint then [] else codes " "

-- each tree after one space, unless it is the first or after a joint mark
abbrev pub joined : Bool → List Shown → Bytes
joined joint [] = []
joined joint (t ∷ ts) = gap joint ++ t.text ++ joined t.joint ts

abbrev pub is_none : List Shown → Bool
is_none [] = true
is_none (t ∷ ts) = false

-- what stands before the content of a group, and after it
abbrev pub before : Delimiter → Bytes
before Parenthesis = codes "("
before Bracket = codes "["
before Brace = codes "{ "
before None = codes "\\("

abbrev pub after : Delimiter → Bool → Bytes
after Parenthesis is_empty = codes ")"
after Bracket is_empty = codes "]"
after Brace is_empty = if is_empty then codes "}" else codes " }"
after None is_empty = codes "\\)"

abbrev pub tree_step : o.TokenTree-F Shown Bytes → Shown
tree_step (o.Ident i) = shown_alone i.text
tree_step (o.Punct p) = record { text = encode_utf8 p.ch; joint = is_joint p.spacing }
tree_step (o.Literal l) = shown_alone l.text
tree_step (o.Group g) = shown_alone g

abbrev pub group_step : o.Group-F Shown Bytes → Bytes
group_step g = before g.content.1 ++ joined true g.content.0 ++ after g.content.1 (is_none g.content.0)

abbrev pub shown : TokenTree → Shown
shown = fold-TokenTree Shown Bytes tree_step group_step

abbrev pub shown_all : TokenStream → List Shown
shown_all c = map shown c

abbrev pub group_text : Group → Bytes
group_text = fold-Group Shown Bytes tree_step group_step

abbrev pub text_of : TokenStream → Bytes
text_of s = joined true (shown_all s)
