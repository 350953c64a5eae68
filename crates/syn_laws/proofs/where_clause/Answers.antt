use Rattle.std.proofs.Common.{Some}
use Rattle.syn_generics.proofs.generics_laws.WholeLaws.{optional_where_clause_reprinted}
use Rattle.syn_ty.proofs.ty_laws.Given.{given}
use Rattle.syn_ty.proofs.ty_laws.GivenWhole.{given_again, given_meets}
use Rattle.syn_laws.proofs.where_clause.Goals as goal

pub returns : goal.returns
returns g c = record {
  again =
      optional_where_clause_reprinted g.A.Attributes g.E.Value (given g.met.A.Attributes.told g.met.E.Value.consts g.met.E.Value.lengths) (given_meets g.met.A.Attributes.met g.met.E.Value.met g.met.E.Value.lengths)
      (given_again g.met.A.Attributes.met g.met.E.Value.met g.met.E.Value.lengths g.met.A.Attributes.bare) (Some c.args.tree.now);
}
