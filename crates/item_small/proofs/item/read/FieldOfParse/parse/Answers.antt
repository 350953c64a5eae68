use Rattle.item_small.proofs.item_laws.Single.{as_read}
use Rattle.item_small.proofs.item.read.FieldOfParse.parse.Goals as goal

pub returns-clause-reads : goal.returns-clause-reads
returns-clause-reads g c = as_read g.A.Part.front g.T.Part.front _ _ c.parse_field.result c.parse_field.ensures.parses c.parse_field.ensures.fronts
