use Rattle.item_small.proofs.part_laws.Fronts.{attrs_fronted}
use Rattle.item_small.proofs.part.ItemsPart.read.Goals as goal

pub returns-clause-fronts : goal.returns-clause-fronts
returns-clause-fronts g c = attrs_fronted g.A.Attributes g.met.A.Attributes.told g.met.A.Attributes.met c.args.input.now c.read_outer.new.input c.read_outer.result c.read_outer.ensures.reads
