use Rattle.std.proofs.Common.{◌≡◌, Some, rules}
use Rattle.token_core.specs.Reads.{after_one}
use Rattle.token_core.proofs.Suffixes.{suffix_one}
use Rattle.token_core.proofs.parse_stream.ParseStream.after_one.Goals as goal

pub at-requires : goal.at-requires
at-requires c =
    let e : after_one c.args.self.now.rest ≡ Some c.in-Some.more = search rules in
    suffix_one _ _ e
