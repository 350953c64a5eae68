-- What the sample prints.
use Rattle.std.specs.Prelude.{◌++◌, Option}
use Rattle.token_core.specs.declared.tree.Delimiter.TheVariants.{Parenthesis}
use Rattle.token_core.specs.declared.tree.Ident.{Ident}
use Rattle.token_core.specs.Prints as p
use Rattle.token_core.specs.Prints.{Print}
use Rattle.token_core.specs.Lists.{joined}
use Rattle.token_core.specs.Lits as lits
use Rattle.token_core.specs.Loops.{Many}
use Rattle.token_core.specs.Trees.{stream_of_trees}
use Rattle.syn_sample.specs.declared.sample.Sample.{Sample}
use Rattle.syn_sample.specs.declared.sample.Sample.TheVariants.{Sum, Statements}
use Rattle.syn_sample.specs.declared.sample.Atom.{Atom}
use Rattle.syn_sample.specs.declared.sample.Atom.TheFolds.{fold-Atom}
use Rattle.syn_sample.specs.declared.sample.Atom.TheOpen as o
use Rattle.syn_sample.specs.declared.sample.ModPath.{ModPath}
use Rattle.syn_sample.specs.sample.Parts.{Sep, Plus, Semi, Atoms}

abbrev pub colon : Option Sep → Print
colon c = p.optional p.mark c

abbrev pub segments : Many Ident Sep → Print
segments v = joined p.ident p.mark v.0 v.1

abbrev pub path : ModPath → Print
path x = colon x.leading_colon ++ segments x.segments

-- atoms with their `+`, where the print of each is given
abbrev pub atoms_by : {A : Type 0} → (A → Print) → Many A Plus → Print
atoms_by one v = joined one p.mark v.0 v.1

abbrev pub atom_step : o.Atom-F Print → Print
atom_step (o.Lit x) = lits.print x
atom_step (o.Path x) = path x
atom_step (o.Group t v) = p.group Parenthesis (stream_of_trees (atoms_by (λ x. x) v)) t.span

unfoldable pub atom : Atom → Print
atom = fold-Atom Print atom_step

abbrev pub atoms : Atoms → Print
atoms = atoms_by atom

-- sums with their `;`
abbrev pub statements : Many Atoms Semi → Print
statements v = joined atoms p.mark v.0 v.1

abbrev pub sample : Sample → Print
sample (Sum v) = atoms v
sample (Statements v) = statements v
