use Rattle.std.proofs.Common.{◌≡◌, ◌≤◌, true, length}
use Rattle.token_core.specs.Loops.{after, never}
use Rattle.token_core.specs.Reads.{Follows}
use Rattle.syn_path.specs.path.Reading.{sep}
use Rattle.syn_forms.specs.nested.Below.{ahead, held}
use Rattle.syn_forms.specs.paths.Reading.{segment, segments}
use Rattle.syn_forms.proofs.lists_laws.Turns.{Told}
use Rattle.syn_forms.proofs.paths.Nested+unit+G+F.segments_after.Given as goal

-- the first segment is read as the others are
abbrev pub invariant-turn : goal.invariant-turn
invariant-turn g l = record {
  told : Told never (segment g.G.Arguments.absent (held g.G.Tree.read (length l.fn.self.begin) tt) l.fn.style) (g.S.Further.more l.fn.further) sep
      (after l.fn.segments (segments g.G.Arguments.absent (held g.G.Tree.read (length l.fn.self.begin) tt) (g.S.Further.more l.fn.further) l.fn.style l.fn.input)) l.segments true l.input;
  whole : length l.segments.0 ≡ length l.segments.1;
  few : ahead l.input ≤ length l.fn.self.begin;
  within : Follows l.fn.input l.input;
}

abbrev pub decreases-turn : goal.decreases-turn
decreases-turn g l = ahead l.input
