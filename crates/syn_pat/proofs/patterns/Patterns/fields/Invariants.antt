use Rattle.std.proofs.Common.{◌≡◌, ◌<◌, length}
use Rattle.syn_forms.specs.nested.Below.{ahead}
use Rattle.syn_pat.proofs.pat_laws.Fields.{Told}
use Rattle.syn_pat.specs.pat.Knot.{pats_below}
use Rattle.syn_pat.specs.pat.Reading.{fields, named}
use Rattle.token_core.specs.Reads.{Follows}
use Rattle.syn_pat.proofs.patterns.Patterns.fields.Given as goal

abbrev pub invariant-turn : goal.invariant-turn
invariant-turn g l = record {
  told : Told g.X.Subtree.reads (pats_below g.X.Subtree.reads (named g.Q.Qualifier.reads g.G.Arguments.is_absent) (length l.fn.self.begin)) (fields g.X.Subtree.reads (pats_below g.X.Subtree.reads (named g.Q.Qualifier.reads g.G.Arguments.is_absent) (length l.fn.self.begin)) l.fn.input) l.list l.input;
  whole : length l.list.0 ≡ length l.list.1;
  few : ahead l.input < length l.fn.self.begin;
  within : Follows l.fn.input l.input;
}

abbrev pub decreases-turn : goal.decreases-turn
decreases-turn g l = ahead l.input
