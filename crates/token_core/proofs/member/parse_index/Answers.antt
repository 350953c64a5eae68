use Rattle.std.proofs.Common.{◌≡◌, Some, rules, arith}
use Rattle.std.proofs.lemmas.Grind.{common_steps}
use Rattle.token_core.specs.Lits.{next_lit}
use Rattle.token_core.proofs.lit_laws.{suffix_literal}
use Rattle.token_core.proofs.member.parse_index.Goals as goal

pub go_on-requires : goal.go_on-requires
go_on-requires c =
    let e : next_lit c.args.input.now.rest ≡ Some (c.in-Some.literal.now, c.in-Some.more) = first_of (search rules, grind (arith, common_steps)) in
    suffix_literal _ _ e
