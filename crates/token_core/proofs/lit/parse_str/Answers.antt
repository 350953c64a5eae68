use Rattle.std.proofs.Common.{◌≡◌, Some, rules, arith}
use Rattle.std.proofs.lemmas.Grind.{common_steps}
use Rattle.token_core.specs.Lits.{lit_str, past_str}
use Rattle.token_core.proofs.lit_laws.{suffix_str}
use Rattle.token_core.proofs.lit.parse_str.Goals as goal

pub go_on-requires : goal.go_on-requires
go_on-requires c =
    let e : past_str c.args.input.now.rest ≡ Some (lit_str c.in-Some.literal.now.text c.in-Some.literal.now.span, c.in-Some.more) = first_of (search rules, grind (arith, common_steps)) in
    suffix_str _ _ e
