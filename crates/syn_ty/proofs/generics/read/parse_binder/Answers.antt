use Rattle.std.proofs.Common.{◌≡◌, length, rules, subst, arith}
use Rattle.std.proofs.lemmas.Grind.{common_steps}
use Rattle.token_core.specs.Reads.{Parses}
use Rattle.syn_forms.specs.nested.Below.{ahead}
use Rattle.syn_ty.specs.generics.Reading as reading
use Rattle.syn_ty.specs.ty.Knot as knot
use Rattle.syn_ty.proofs.generics.read.parse_binder.Goals as goal

pub returns : goal.returns
unfolding knot.binder
returns g c =
    let at : length c.cursor-begin.result ≡ ahead c.args.input.now = first_of (search rules, grind (arith, common_steps)) in
    record { parses = subst (λ n. Parses (reading.binder (knot.reads_below g.A.Attributes.reads g.E.Value.reads n)) c.binder_from.result c.args.input.now c.binder_from.new.input) at c.binder_from.ensures.parses }
