use Rattle.std.proofs.Common.{length, sym, ap}
use Rattle.syn_generics.specs.generics.Alone.{generics}
use Rattle.syn_generics.specs.generics.Declared as declared
use Rattle.syn_ty.specs.ty.Knot.{reads_below}
use Rattle.syn_forms.proofs.lists_laws.Turns.{told_by}
use Rattle.syn_generics.proofs.generics.declared.parse_generics.Goals as goal

pub returns : goal.returns
unfolding generics
returns g c =
    record {
      parses = (
        told_by _ _ (ap (λ n. declared.generics (reads_below g.A.Attributes.reads g.E.Value.reads n) c.args.input.now) (sym (ap length c.cursor-begin.ensures))) c.generics_from.ensures.parses.0,
        c.generics_from.ensures.parses.1,
      );
    }
