use Rattle.token_core.specs.Trees.{toks}
use Rattle.syn_readers.proofs.Whole.{prints-reprints}
use Rattle.syn_run.specs.Items.{items_category}
use Rattle.syn_run.specs.declared.items.ItemReader.TheVariants as i
use Rattle.syn_run.proofs.items.ItemReader.reprint_over.Goals as goal

pub returns-in-Struct : goal.returns-in-Struct
returns-in-Struct g c =
    let C = items_category g.A.Attributes g.E.Value i.Struct in
    rw c.in-Struct.is (prints-reprints C c.args.scope (toks c.args.tokens) c.reprint.result c.reprint.ensures)

pub returns-in-Head : goal.returns-in-Head
returns-in-Head g c =
    let C = items_category g.A.Attributes g.E.Value i.Head in
    rw c.in-Head.is (prints-reprints C c.args.scope (toks c.args.tokens) c.reprint_head.result c.reprint_head.ensures)
