use Rattle.std.proofs.Common.{◌≡◌, Some, sym, ap, ◌∙◌, rules, arith}
use Rattle.std.proofs.lemmas.Grind.{common_steps}
use Rattle.token_core.specs.Trees.{delimiter_of, span_of, content_of, toks}
use Rattle.token_core.specs.Front.{past_ends, settled}
use Rattle.token_core.specs.Rebuilt.{stream_of}
use Rattle.token_core.specs.Reads.{as_group, delimited}
use Rattle.token_core.proofs.Rebuilds.{stream_of-toks}
use Rattle.token_core.proofs.Suffixes.{suffix_outside, follows_past, as_group-settled}
use Rattle.token_core.proofs.parse_stream.ParseStream.delimited.Goals as goal

pub returns-in_ok-stream-in-Some-clause-parses : goal.returns-in_ok-stream-in-Some-clause-parses
unfolding delimited
returns-in_ok-stream-in-Some-clause-parses c =
    let g = c.in-Some.group.now in
    let s : as_group (settled (past_ends c.args.self.now.rest)) ≡ Some (delimiter_of g, span_of g, c.in-Some.field-0-1, c.in-Some.after) = first_of (search rules, grind (arith, common_steps)) in
    let e = sym (as_group-settled (past_ends c.args.self.now.rest)) ∙ s in
    let l : c.in-Some.field-0-1 ≡ toks (content_of g) = first_of (search rules, grind (arith, common_steps)) in
    let b = ap stream_of l ∙ stream_of-toks (content_of g) in
    (rw (c.past.ensures, e, b) (first_of (search rules, grind (arith, common_steps))), rw c.past.ensures (follows_past _ _ _ (suffix_outside _ _ e)))

pub past-requires : goal.past-requires
past-requires c =
    let g = c.in-Some.group.now in
    let s : as_group (settled (past_ends c.args.self.now.rest)) ≡ Some (delimiter_of g, span_of g, c.in-Some.field-0-1, c.in-Some.after) = first_of (search rules, grind (arith, common_steps)) in
    let e = sym (as_group-settled (past_ends c.args.self.now.rest)) ∙ s in
    suffix_outside _ _ e
