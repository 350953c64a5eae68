use Rattle.std.proofs.Common.{◌≡◌, Some, rules, arith}
use Rattle.std.proofs.lemmas.Grind.{common_steps}
use Rattle.token_core.specs.Lits.{found, past_lit}
use Rattle.token_core.proofs.lit_laws.{suffix_lit}
use Rattle.token_core.proofs.lit.parse_lit.Goals as goal

pub go_on-requires : goal.go_on-requires
go_on-requires c =
    let e : past_lit c.args.input.now.rest ≡ Some (found c.in-Some.found, c.in-Some.more) = first_of (search rules, grind (arith, common_steps)) in
    suffix_lit _ _ e
