use Rattle.std.proofs.Common.{◌≡◌, Some, rules, arith}
use Rattle.std.proofs.lemmas.Grind.{common_steps}
use Rattle.token_core.specs.Trees.{span_of}
use Rattle.token_core.specs.Groups.{next_invisible}
use Rattle.token_core.proofs.Invisibles.{suffix_invisible}
use Rattle.token_core.proofs.parse_stream.ParseStream.invisible.Goals as goal

pub go_on-requires : goal.go_on-requires
go_on-requires c =
    let e : next_invisible c.args.self.now.rest ≡ Some (span_of c.in-Some.group.now, c.in-Some.inside, c.in-Some.after) = first_of (search rules, grind (arith, common_steps)) in
    suffix_invisible _ _ e
