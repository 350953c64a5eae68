use Rattle.std.proofs.Common.{◌≡◌, Some, rules, arith}
use Rattle.std.proofs.lemmas.Grind.{common_steps}
use Rattle.token_core.specs.Front.{front}
use Rattle.token_core.specs.Reads.{as_word}
use Rattle.token_core.proofs.Suffixes.{suffix_word}
use Rattle.token_core.proofs.parse_stream.ParseStream.next_ident.Goals as goal

pub past-requires : goal.past-requires
past-requires c =
    let e : as_word (front c.args.self.now.rest) ≡ Some (c.in-Some.ident.now, c.in-Some.more) = first_of (search rules, grind (arith, common_steps)) in
    suffix_word _ _ _ e
