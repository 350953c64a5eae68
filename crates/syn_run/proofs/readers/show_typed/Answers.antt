use Rattle.std.proofs.Common.{◌≡◌, ◌∙◌, ap}
use Rattle.syn_pat.specs.pat.Printing as patterns
use Rattle.syn_run.proofs.readers.show_typed.Goals as goal

pub returns-clause-shown : goal.returns-clause-shown
returns-clause-shown g c =
    let e : c.get.result.now ≡ c.in_ok-parse_typed.field-0 = c.get.ensures ∙ c.in_ok-pat.ensures in
    (c.in_ok-parse_typed.field-0, c.in_ok-parse_typed.ensures.parses.0, c.in_ok-print_of_typed.ensures ∙ ap (patterns.typed g.X.Subtree.prints (patterns.shown g.Q.Qualifier.shown g.T.ToTokens.print)) e)
