use Rattle.syn_forms.specs.nested.Below.{ahead}
use Rattle.syn_pat.proofs.knot.+knot.Given as goal

abbrev pub decreases-parse_pat : goal.decreases-parse_pat
decreases-parse_pat g l = ahead l.input.now
