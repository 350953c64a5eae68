use Rattle.item_small.proofs.part_laws.Whole.{struct_fronts, struct_promise}
use Rattle.item_small.proofs.structs.StructItemOfParse.parse.Goals as goal

pub returns-clause-promise : goal.returns-clause-promise
returns-clause-promise g c =
    struct_promise g.A.Attributes g.E.Value g.met.A.Attributes.met c.args.input.now c.parse_item.new.input c.parse_item.result c.parse_item.ensures.fronts

pub returns-clause-fronts : goal.returns-clause-fronts
returns-clause-fronts g c =
    struct_fronts g.A.Attributes g.E.Value g.met.A.Attributes.met c.args.input.now c.parse_item.new.input c.parse_item.result c.parse_item.ensures.fronts
