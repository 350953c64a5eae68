-- What the traits of what is supplied say, a record each: the reads of a subtree, of attributes, and of expressions in types, what they spell, their normal form and their print.
use Rattle.syn_path.specs.declared.supplied.Attributes as attributes
use Rattle.syn_path.specs.declared.supplied.Subtree as subtree
use Rattle.syn_path.specs.declared.supplied.Value as value

abbrev pub Attributes : Type 0 → Type 1
Attributes A = attributes.Ghosts A

abbrev pub Expressions : Type 0 → Type 1
Expressions E = value.Ghosts E

abbrev pub Subtree : Type 0 → Type 1
Subtree X = subtree.Ghosts X
