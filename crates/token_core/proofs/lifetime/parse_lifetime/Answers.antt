use Rattle.std.proofs.Common.{◌≡◌, Some, rules, arith}
use Rattle.std.proofs.lemmas.Grind.{common_steps}
use Rattle.token_core.specs.Lifetimes.{lifetime, past_lifetime}
use Rattle.token_core.proofs.lifetime_laws.{suffix_lifetime}
use Rattle.token_core.proofs.lifetime.parse_lifetime.Goals as goal

pub go_on-requires : goal.go_on-requires
go_on-requires c =
    let e : past_lifetime c.args.input.now.rest ≡ Some (lifetime c.in-Some.apostrophe c.in-Some.ident.now, c.in-Some.more) = first_of (search rules, grind (arith, common_steps)) in
    suffix_lifetime _ _ e
