use Rattle.std.proofs.Common.{◌≡◌, true, false, Some, Err, sym, ap, ◌∙◌, rules, arith}
use Rattle.std.proofs.lemmas.Grind.{common_steps}
use Rattle.token_core.specs.Trees.{delimiter_of, span_of}
use Rattle.token_core.specs.Front.{front}
use Rattle.token_core.specs.Reads.{as_group, open_group, sees_group, same_delimiter, expected}
use Rattle.token_core.proofs.Suffixes.{suffix_group, follows_past, follows_self}
use Rattle.token_core.proofs.SeenClasses.{group_refused, group_same}
use Rattle.token_core.proofs.Places.{holds_group}
use Rattle.token_core.proofs.parse_stream.ParseStream.open_group.Goals as goal

pub inside-child-requires : goal.inside-child-requires
inside-child-requires c =
    let g = c.in-Some.group.now in
    let e : as_group (front c.args.self.now.rest) ≡ Some (delimiter_of g, span_of g, c.in-Some.inside, c.in-Some.after) = first_of (search rules, grind (arith, common_steps)) in
    holds_group _ _ e

pub past-requires : goal.past-requires
past-requires c =
    let g = c.in-Some.group.now in
    let e : as_group (front c.args.self.now.rest) ≡ Some (delimiter_of g, span_of g, c.in-Some.inside, c.in-Some.after) = first_of (search rules, grind (arith, common_steps)) in
    suffix_group _ _ e

pub returns-in-Some-clause-parses : goal.returns-in-Some-clause-parses
unfolding open_group
returns-in-Some-clause-parses c =
    let g = c.in-Some.group.now in
    let e : as_group (front c.args.self.now.rest) ≡ Some (delimiter_of g, span_of g, c.in-Some.inside, c.in-Some.after) = first_of (search rules, grind (arith, common_steps)) in
    let b : sees_group c.args.delimiter c.args.self.now.rest ≡ true = search rules in
    let h : same_delimiter (delimiter_of g) c.args.delimiter ≡ true = group_same _ _ _ b e in
    (first_of (search (rules, h), grind (arith, common_steps, h)), rw c.past.ensures (follows_past _ _ _ (suffix_group _ _ e)))

pub returns-then-not-peek_group-clause-parses : goal.returns-then-not-peek_group-clause-parses
unfolding open_group
returns-then-not-peek_group-clause-parses c =
    let h : sees_group c.args.delimiter c.args.self.now.rest ≡ false = search rules in
    (λ k. group_refused c.args.delimiter c.args.self.now (expected c.args.name.now c.args.self.now) h ∙ ap Err (sym (c.expected.ensures k)), follows_self _)
