use Rattle.std.proofs.Common.{◌≡◌, ◌<◌, length}
use Rattle.token_core.specs.Reads.{Follows}
use Rattle.syn_forms.specs.inputs.Reading.{inputs}
use Rattle.syn_forms.specs.nested.Below.{ahead, held}
use Rattle.syn_forms.proofs.inputs_laws.Turns.{Told}
use Rattle.syn_forms.proofs.nested.Nested.inputs.Given as goal

abbrev pub invariant-turn : goal.invariant-turn
invariant-turn g l = record {
  told : Told (g.K.Argument.make l.fn.make) g.B.Attributes.reads (held g.T.Tree.read (length l.fn.self.begin) l.fn.place) (g.V.Verbatim.verbatim l.fn.verbatim)
      (inputs (g.K.Argument.make l.fn.make) g.B.Attributes.reads (held g.T.Tree.read (length l.fn.self.begin) l.fn.place) (g.V.Verbatim.verbatim l.fn.verbatim) l.fn.input) l.list l.first l.input;
  whole : length l.list.0 ≡ length l.list.1;
  few : ahead l.input < length l.fn.self.begin;
  within : Follows l.fn.input l.input;
}

abbrev pub decreases-turn : goal.decreases-turn
decreases-turn g l = ahead l.input
