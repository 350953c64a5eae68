use Rattle.syn_ty.proofs.ty_laws.Given.{given}
use Rattle.syn_ty.proofs.ty_laws.GivenWhole.{given_again, given_meets}
use Rattle.syn_laws.proofs.normal_laws.Admitted.{ty_admitted}
use Rattle.syn_laws.proofs.ty_laws.SamePrint.{ty_same}
use Rattle.syn_laws.proofs.ty_laws.Stays.{ty_stays}
use Rattle.syn_laws.proofs.ty.Goals as goal

pub returns-clause-admitted : goal.returns-clause-admitted
returns-clause-admitted g c =
    ty_admitted g.A.Attributes g.E.Value (given g.met.A.Attributes.told g.met.E.Value.consts g.met.E.Value.lengths) (given_meets g.met.A.Attributes.met g.met.E.Value.met g.met.E.Value.lengths)
    (given_again g.met.A.Attributes.met g.met.E.Value.met g.met.E.Value.lengths g.met.A.Attributes.bare) c.args.tree.now

pub returns-clause-stays : goal.returns-clause-stays
returns-clause-stays g c = λ attrs values. ty_stays g.A.Attributes.normal g.E.Value.normal attrs values c.args.tree.now

pub returns-clause-same : goal.returns-clause-same
returns-clause-same g c = λ attrs values. ty_same g.A.Attributes.normal g.E.Value.normal g.A.Attributes.shown g.E.Value.values attrs values c.args.tree.now
