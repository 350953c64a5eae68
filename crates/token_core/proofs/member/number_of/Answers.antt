use Rattle.std.proofs.Common.{◌+◌, drop, get_or, ap, sym, ◌∙◌, arith}
use Rattle.std.proofs.lemmas.List.{drop_more}
use Rattle.std.proofs.lemmas.Bool.{ne_eqb}
use Rattle.token_core.specs.Members.{number_after, fitting}
use Rattle.token_core.proofs.member_laws.{stuck}
use Rattle.token_core.proofs.member.number_of.Goals as goal

pub returns-in-None : goal.returns-in-None
returns-in-None c =
    let l = c.args.digits.now in
    let i = c.digits.at in
    let d = drop_more l i 0 c.digits-test.true in
    let k = stuck c.args.base (get_or l i 0) c.digits.number (drop (i + 1) l) (omega arith) (ne_eqb _ _ c.if-ch-ne95.true) (cc) in
    sym (ap fitting (sym c.digits.invariant.told) ∙ ap (λ z. fitting (number_after c.args.base c.digits.number z)) d ∙ k)
