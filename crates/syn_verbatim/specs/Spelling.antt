-- Which lists tokens that are held spell, by their place, and what they print.
use Rattle.std.specs.Prelude.{◌≡◌, Bool, true, not, ◌&&◌}
use Rattle.token_core.specs.Front.{front}
use Rattle.token_core.specs.Prints.{Print}
use Rattle.token_core.specs.Reads.{is_done}
use Rattle.token_core.specs.Toks.{Toks}
use Rattle.token_core.specs.Trees.{TokenStream, trees, stream_of_trees}
use Rattle.syn_path.specs.declared.supplied.Place.{Place}
use Rattle.syn_path.specs.declared.supplied.Place.TheVariants.{ArrayLen, Value, Guard, Block}
use Rattle.syn_path.specs.Supplied.{lone_literal, attribute_ahead}
use Rattle.syn_verbatim.specs.declared.expr.VerbatimExpr.{VerbatimExpr}
use Rattle.syn_verbatim.specs.Held.{held}

abbrev pub verbatim_of : TokenStream → VerbatimExpr
verbatim_of c = record { tokens = c }

abbrev pub print : VerbatimExpr → Print
print x = trees x.tokens

-- a token, and neither one literal alone nor an attribute
abbrev pub is_value : Toks → Bool
is_value l = not (is_done l) && (not (lone_literal (front l)) && not (attribute_ahead (front l)))

-- what may stand in a place
abbrev pub fits : Place → Toks → Bool
fits ArrayLen l = not (is_done l)
fits Value l = is_value l
fits Guard l = not (is_done l)
fits Block l = true

-- it holds all trees of a list that may stand there
abbrev pub spells : Place → VerbatimExpr → Toks → Type 0
spells p x l = (x.tokens ≡ stream_of_trees (held l)) × (fits p l ≡ true)
