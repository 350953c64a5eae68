-- The sample's trees without their spans.
use Rattle.std.specs.Prelude.{map, option_map}
use Rattle.syn_path.specs.aside.Tokens.{ident, mark, lit, paren, many}
use Rattle.syn_sample.specs.declared.sample.Sample.{Sample}
use Rattle.syn_sample.specs.declared.sample.Sample.TheVariants.{Sum, Statements}
use Rattle.syn_sample.specs.declared.sample.Atom.{Atom}
use Rattle.syn_sample.specs.declared.sample.Atom.TheFolds.{fold-Atom}
use Rattle.syn_sample.specs.declared.sample.Atom.TheOpen as o
use Rattle.syn_sample.specs.declared.sample.Atom.TheVariants as a
use Rattle.syn_sample.specs.declared.sample.ModPath.{ModPath}
use Rattle.syn_sample.specs.sample.Parts.{Atoms, path_of}

abbrev pub path : ModPath → ModPath
path x = path_of (option_map mark x.leading_colon) (many ident mark x.segments)

-- atoms in parentheses are without theirs already
abbrev pub atom_step : o.Atom-F Atom → Atom
atom_step (o.Lit x) = a.Lit (lit x)
atom_step (o.Path x) = a.Path (path x)
atom_step (o.Group t v) = a.Group (paren t) (v.0, map mark v.1)

unfoldable pub atom : Atom → Atom
atom = fold-Atom Atom atom_step

abbrev pub atoms : Atoms → Atoms
atoms = many atom mark

abbrev pub sample : Sample → Sample
sample (Sum v) = Sum (atoms v)
sample (Statements v) = Statements (many atoms mark v)
