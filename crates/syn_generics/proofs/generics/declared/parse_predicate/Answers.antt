use Rattle.std.proofs.Common.{length, sym, ap}
use Rattle.syn_forms.specs.declared.places.TypePlace.TheVariants.{Bounded}
use Rattle.syn_generics.specs.generics.Alone.{predicate}
use Rattle.syn_generics.specs.generics.Declared as declared
use Rattle.syn_ty.specs.ty.Knot.{reads_below, ty}
use Rattle.syn_forms.proofs.lists_laws.Turns.{told_by}
use Rattle.syn_generics.proofs.generics.declared.parse_predicate.Goals as goal

pub returns : goal.returns
unfolding predicate
returns g c =
    record {
      parses = (
        told_by _ _ (ap (λ n. declared.predicate g.A.Attributes.reads (ty g.A.Attributes.reads g.E.Value.reads Bounded) (reads_below g.A.Attributes.reads g.E.Value.reads n) c.args.input.now) (sym (ap length c.cursor-begin.ensures))) c.predicate_from.ensures.parses.0,
        c.predicate_from.ensures.parses.1,
      );
    }
