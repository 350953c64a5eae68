-- Token lists that are equal, spans aside: each tree without its spans.
use Rattle.std.specs.Prelude.{◌≡◌, map}
use Rattle.token_core.specs.declared.tree.TokenTree.{TokenTree}
use Rattle.token_core.specs.declared.tree.TokenTree.TheVariants as t
use Rattle.token_core.specs.declared.tree.TokenTree.TheOpen as o
use Rattle.token_core.specs.declared.tree.TokenTree.TheFolds.{fold-TokenTree, fold-Group}
use Rattle.token_core.specs.declared.tree.Group.{Group}
use Rattle.token_core.specs.Spans.{none, delim_span}
use Rattle.token_core.specs.Trees.{TokenStream, ident, punct, literal, group_of}

abbrev pub tree_step : o.TokenTree-F TokenTree Group → TokenTree
tree_step (o.Ident i) = t.Ident (ident i.text none)
tree_step (o.Punct p) = t.Punct (punct p.ch p.spacing none)
tree_step (o.Literal l) = t.Literal (literal l.kind l.text none)
tree_step (o.Group g) = t.Group g

abbrev pub group_step : o.Group-F TokenTree Group → Group
group_step g = group_of g.content.1 g.content.0 (delim_span none none)

unfoldable pub bare_tree : TokenTree → TokenTree
bare_tree = fold-TokenTree TokenTree Group tree_step group_step

unfoldable pub bare_group : Group → Group
bare_group = fold-Group TokenTree Group tree_step group_step

unfoldable pub bare_stream : TokenStream → TokenStream
bare_stream c = map bare_tree c

abbrev pub Same : TokenStream → TokenStream → Type 0
Same a b = bare_stream a ≡ bare_stream b
