use Rattle.std.proofs.Common.{◌≡◌, ◌+◌, ◌*◌, ◌<◌, ◌≤◌, true, false, ◌++◌, ◌∷◌, [], Ok, Err, sym, ap, ◌∙◌, rules, arith, append_assoc, append-nil}
use Rattle.std.proofs.lemmas.Grind.{common_steps}
use Rattle.token_core.specs.Groups.{sees_invisible}
use Rattle.token_core.specs.Loops.{size}
use Rattle.token_core.specs.Reads.{is_done}
use Rattle.token_core.specs.Trees.{trees, stream_of_trees}
use Rattle.token_core.proofs.Suffixes.{follows}
use Rattle.token_core.proofs.Turns.{size_suffix}
use Rattle.syn_path.proofs.path_laws.Turns.{refused_by}
use Rattle.syn_verbatim.specs.Held.{held, ended}
use Rattle.syn_verbatim.specs.Reading.{rest}
use Rattle.syn_verbatim.proofs.Steps.{invisible-moves, invisible-answers, invisible-holds, token-moves, token-answers, no_more, stays}
use Rattle.syn_verbatim.proofs.rest.+rest.Goals as goal

pub take_invisible-take_rest-requires : goal.take_invisible-take_rest-requires
take_invisible-take_rest-requires t c =
    let is : 2 * size c.args.input.now.rest ≡ t = c.decreases in
    let few : size c.in_ok-token.content.rest < size c.args.input.now.rest = invisible-holds c.args.input.now c.invisible.new.self (c.in_ok-token.token, c.in_ok-token.content) c.in_ok-token.ensures.parses.0 in
    let less : 2 * size c.in_ok-token.content.rest + 1 < t = omega (arith, is, few) in
    (less, tt)

pub take_rest-take_invisible-requires : goal.take_rest-take_invisible-requires
take_rest-take_invisible-requires t c =
    let is : 2 * size c.args.input.now.rest + 1 ≡ t = c.decreases in
    let few : size c.turn.input.rest ≤ size c.args.input.now.rest = size_suffix c.turn.invariant.within.suffix in
    let less : 2 * size c.turn.input.rest < t = omega (arith, is, few) in
    (less, tt)

pub take_rest-returns-in_err-group-clause-reads : goal.take_rest-returns-in_err-group-clause-reads
take_rest-returns-in_err-group-clause-reads t c =
    let h : sees_invisible c.turn.input.rest ≡ true = first_of (search rules, grind (arith, common_steps)) in
    let e = c.in_err-group.field-0.0 in
    let was : c.take_invisible.result ≡ Err e = first_of (search rules, grind (arith, common_steps)) in
    let back : c.from_residual.result ≡ Err e = first_of (search rules, grind (arith, common_steps)) in
    refused_by _ _ _ _ _ _ e was back c.take_invisible.ensures.reads (λ k. absurd (invisible-answers c.turn.input e h k))

pub take_rest-turn-smaller-in-Continue-branch-2 : goal.take_rest-turn-smaller-in-Continue-branch-2
take_rest-turn-smaller-in-Continue-branch-2 t c = (invisible-moves c.turn.input c.take_invisible.new.input c.in_ok-group.group c.in_ok-group.ensures.reads).less

pub take_rest-turn-preserved-in-Continue-branch-2 : goal.take_rest-turn-preserved-in-Continue-branch-2
take_rest-turn-preserved-in-Continue-branch-2 t c =
    let w = invisible-moves c.turn.input c.take_invisible.new.input c.in_ok-group.group c.in_ok-group.ensures.reads in
    let v : trees c.push.new.self ≡ trees c.turn.trees ++ c.in_ok-group.group ∷ [] = first_of (search rules, grind (arith, common_steps)) in
    let more = held c.take_invisible.new.input.rest in
    record {
      holds = c.turn.invariant.holds ∙ ap (λ z. trees c.turn.trees ++ z) w.holds ∙ sym (append_assoc (trees c.turn.trees) (c.in_ok-group.group ∷ []) more) ∙ ap (λ z. z ++ more) (sym v);
      ends = c.turn.invariant.ends ∙ w.ends;
      within = grind (arith, follows);
    }

pub take_rest-returns-then-is_empty-clause-reads : goal.take_rest-returns-then-is_empty-clause-reads
unfolding rest
take_rest-returns-then-is_empty-clause-reads t c =
    let d : is_done c.turn.input.rest ≡ true = first_of (search rules, grind (arith, common_steps)) in
    let h : sees_invisible c.turn.input.rest ≡ false = first_of (search rules, grind (arith, common_steps)) in
    let old = c.args.input.now in
    ap (λ z. Ok (stream_of_trees z, ended old)) (c.turn.invariant.holds ∙ ap (λ z. trees c.turn.trees ++ z) (no_more c.turn.input d h) ∙ append-nil (trees c.turn.trees))
    ∙ ap (λ z. Ok (c.turn.trees, z)) (c.turn.invariant.ends ∙ stays c.turn.input d h)

pub take_rest-returns-in_err-token-clause-reads : goal.take_rest-returns-in_err-token-clause-reads
take_rest-returns-in_err-token-clause-reads t c =
    let d : is_done c.turn.input.rest ≡ false = first_of (search rules, grind (arith, common_steps)) in
    let h : sees_invisible c.turn.input.rest ≡ false = first_of (search rules, grind (arith, common_steps)) in
    let e = c.in_err-token.field-0.0 in
    let was : c.take_token.result ≡ Err e = first_of (search rules, grind (arith, common_steps)) in
    let back : c.from_residual-in_err-token.result ≡ Err e = first_of (search rules, grind (arith, common_steps)) in
    refused_by _ _ _ _ _ _ e was back c.take_token.ensures.reads (λ k. absurd (token-answers c.turn.input d h e k))

pub take_rest-turn-smaller : goal.take_rest-turn-smaller
take_rest-turn-smaller t c =
    let d : is_done c.turn.input.rest ≡ false = first_of (search rules, grind (arith, common_steps)) in
    let h : sees_invisible c.turn.input.rest ≡ false = first_of (search rules, grind (arith, common_steps)) in
    (token-moves c.turn.input d h c.take_token.new.input c.in_ok-token.token c.in_ok-token.ensures.reads).less

pub take_rest-turn-preserved : goal.take_rest-turn-preserved
take_rest-turn-preserved t c =
    let d : is_done c.turn.input.rest ≡ false = first_of (search rules, grind (arith, common_steps)) in
    let h : sees_invisible c.turn.input.rest ≡ false = first_of (search rules, grind (arith, common_steps)) in
    let w = token-moves c.turn.input d h c.take_token.new.input c.in_ok-token.token c.in_ok-token.ensures.reads in
    let v : trees c.push-else-peek.new.self ≡ trees c.turn.trees ++ c.in_ok-token.token ∷ [] = first_of (search rules, grind (arith, common_steps)) in
    let more = held c.take_token.new.input.rest in
    record {
      holds = c.turn.invariant.holds ∙ ap (λ z. trees c.turn.trees ++ z) w.holds ∙ sym (append_assoc (trees c.turn.trees) (c.in_ok-token.token ∷ []) more) ∙ ap (λ z. z ++ more) (sym v);
      ends = c.turn.invariant.ends ∙ w.ends;
      within = grind (arith, follows);
    }
