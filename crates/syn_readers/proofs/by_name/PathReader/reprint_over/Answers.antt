use Rattle.token_core.specs.Trees.{toks}
use Rattle.syn_readers.proofs.Whole.{prints-reprints}
use Rattle.syn_readers.specs.Readers.{paths_category}
use Rattle.syn_readers.specs.declared.by_name.PathReader.TheVariants as r
use Rattle.syn_readers.proofs.by_name.PathReader.reprint_over.Goals as goal

pub returns-in-Whole : goal.returns-in-Whole
returns-in-Whole g c =
    let C = paths_category g.A.Attributes g.E.Value r.Whole in
    rw c.in-Whole.is (prints-reprints C c.args.scope (toks c.args.tokens) c.reprint.result c.reprint.ensures)

pub returns-in-Segment : goal.returns-in-Segment
returns-in-Segment g c =
    let C = paths_category g.A.Attributes g.E.Value r.Segment in
    rw c.in-Segment.is (prints-reprints C c.args.scope (toks c.args.tokens) c.reprint-in-Segment.result c.reprint-in-Segment.ensures)

pub returns-in-Argument : goal.returns-in-Argument
returns-in-Argument g c =
    let C = paths_category g.A.Attributes g.E.Value r.Argument in
    rw c.in-Argument.is (prints-reprints C c.args.scope (toks c.args.tokens) c.reprint-in-Argument.result c.reprint-in-Argument.ensures)

pub returns-in-AngleBracketed : goal.returns-in-AngleBracketed
returns-in-AngleBracketed g c =
    let C = paths_category g.A.Attributes g.E.Value r.AngleBracketed in
    rw c.in-AngleBracketed.is (prints-reprints C c.args.scope (toks c.args.tokens) c.reprint-in-AngleBracketed.result c.reprint-in-AngleBracketed.ensures)

pub returns-in-ParseTurbofish : goal.returns-in-ParseTurbofish
returns-in-ParseTurbofish g c =
    let C = paths_category g.A.Attributes g.E.Value r.ParseTurbofish in
    rw c.in-ParseTurbofish.is (prints-reprints C c.args.scope (toks c.args.tokens) c.reprint_with.result c.reprint_with.ensures)

pub returns-in-Parenthesized : goal.returns-in-Parenthesized
returns-in-Parenthesized g c =
    let C = paths_category g.A.Attributes g.E.Value r.Parenthesized in
    rw c.in-Parenthesized.is (prints-reprints C c.args.scope (toks c.args.tokens) c.reprint-in-Parenthesized.result c.reprint-in-Parenthesized.ensures)
