use Rattle.std.proofs.Common.{◌≡◌, ◌++◌, ◌∷◌, [], true, false, Err, ◌∙◌, rules, arith}
use Rattle.std.proofs.lemmas.Grind.{common_steps}
use Rattle.token_core.specs.declared.error.ErrorKind.TheVariants.{Unexpected}
use Rattle.token_core.specs.Refusal.{fixed}
use Rattle.token_core.specs.Reads.{is_done}
use Rattle.token_core.specs.Positions.{is_before}
use Rattle.token_core.specs.Terminated.{no_value_there, no_mark_there, nothing_taken, later}
use Rattle.token_core.specs.Reads.{Follows}
use Rattle.token_core.specs.Positions.{items}
use Rattle.token_core.proofs.Suffixes.{follows}
use Rattle.token_core.proofs.Places.{moved, moved_on, stayed}
use Rattle.token_core.proofs.Terminations.{refused_so, ended, last_turn, next_turn, refused_there}
use Rattle.token_core.specs.fronts.Lists.{Read}
use Rattle.token_core.proofs.punctuated.Punctuated.parse_turns.Goals as goal

pub returns-in_err-parse-clause-reads : goal.returns-in_err-parse-clause-reads
returns-in_err-parse-clause-reads g c =
    let d : is_done c.turn.input.rest ≡ false = first_of (search rules, grind (arith, common_steps)) in
    let e = c.in_err-parse.field-0.0 in
    let back : c.from_residual.result ≡ Err e = first_of (search rules, grind (arith, common_steps)) in
    refused_so _ _ _ _ e back (λ k. c.turn.invariant.refused e (no_value_there d (record { was = c.in_err-parse.ensures.reads k; end = _; fronts = c.in_err-parse.ensures.fronts })))

pub returns-then-is_empty-clause-reads : goal.returns-then-is_empty-clause-reads
returns-then-is_empty-clause-reads g c =
    let d : is_done c.turn.input.rest ≡ false = first_of (search rules, grind (arith, common_steps)) in
    let e : is_done c.parse.new.input.rest ≡ true = first_of (search rules, grind (arith, common_steps)) in
    let v : c.push_value.new.self ≡ (c.turn.list.0 ++ c.in_ok-parse.field-0 ∷ [], c.turn.list.1) = first_of (search rules, grind (arith, common_steps)) in
    last_turn (Read g.T.Parse.reads g.T.Parse.fronts) (Read g.P.Parse.reads g.P.Parse.fronts) _ _ _ _ _ _ c.turn.invariant.answers d (record { was = c.in_ok-parse.ensures.reads; within = c.in_ok-parse.ensures.within; fronts = c.in_ok-parse.ensures.fronts }) e v

pub returns-in_err-parse-2-clause-reads : goal.returns-in_err-parse-2-clause-reads
returns-in_err-parse-2-clause-reads g c =
    let d : is_done c.turn.input.rest ≡ false = first_of (search rules, grind (arith, common_steps)) in
    let f : is_done c.parse.new.input.rest ≡ false = first_of (search rules, grind (arith, common_steps)) in
    let e = c.in_err-parse-2.field-0.0 in
    let back : c.from_residual-in_err-parse-2.result ≡ Err e = first_of (search rules, grind (arith, common_steps)) in
    refused_so _ _ _ _ e back (λ k. c.turn.invariant.refused e (no_mark_there d (record { was = c.in_ok-parse.ensures.reads; within = c.in_ok-parse.ensures.within; fronts = c.in_ok-parse.ensures.fronts }) f (record { was = c.in_err-parse-2.ensures.reads k; end = _; fronts = c.in_err-parse-2.ensures.fronts })))

pub returns-then-not-is_before-clause-reads : goal.returns-then-not-is_before-clause-reads
returns-then-not-is_before-clause-reads g c = λ k.
    let d : is_done c.turn.input.rest ≡ false = first_of (search rules, grind (arith, common_steps)) in
    let f : is_done c.parse.new.input.rest ≡ false = first_of (search rules, grind (arith, common_steps)) in
    let b : is_before (items c.turn.input.rest ++ c.turn.input.scope.after) (items c.parse-in-turn.new.input.rest ++ c.parse-in-turn.new.input.scope.after) ≡ false = first_of (search rules, grind (arith, common_steps)) in
    let w : Follows c.turn.input c.parse-in-turn.new.input = grind (arith, follows) in
    let s = stayed c.turn.input c.parse-in-turn.new.input w b in
    let o = w.scope in
    c.turn.invariant.refused c.refuse.result
    (nothing_taken d (record { was = c.in_ok-parse.ensures.reads; within = c.in_ok-parse.ensures.within; fronts = c.in_ok-parse.ensures.fronts }) f (record { was = c.in_ok-parse-2.ensures.reads; within = c.in_ok-parse-2.ensures.within; fronts = c.in_ok-parse-2.ensures.fronts }) s (c.refuse.ensures k ∙ refused_there Unexpected (fixed Unexpected) c.turn.input c.parse-in-turn.new.input s o))

pub turn-preserved : goal.turn-preserved
turn-preserved g c =
    let d : is_done c.turn.input.rest ≡ false = first_of (search rules, grind (arith, common_steps)) in
    let f : is_done c.parse.new.input.rest ≡ false = first_of (search rules, grind (arith, common_steps)) in
    let b : is_before (items c.turn.input.rest ++ c.turn.input.scope.after) (items c.parse-in-turn.new.input.rest ++ c.parse-in-turn.new.input.scope.after) ≡ true = first_of (search rules, grind (arith, common_steps)) in
    let w : Follows c.turn.input c.parse-in-turn.new.input = grind (arith, follows) in
    let n = moved c.turn.input c.parse-in-turn.new.input w b in
    let v : c.push_punct.new.self ≡ (c.turn.list.0 ++ c.in_ok-parse.field-0 ∷ [], c.turn.list.1 ++ c.in_ok-parse-2.field-0 ∷ []) = first_of (search rules, grind (arith, common_steps)) in
    record {
      answers = next_turn (Read g.T.Parse.reads g.T.Parse.fronts) (Read g.P.Parse.reads g.P.Parse.fronts) _ _ _ _ _ _ _ _ c.turn.invariant.answers d (record { was = c.in_ok-parse.ensures.reads; within = c.in_ok-parse.ensures.within; fronts = c.in_ok-parse.ensures.fronts }) f (record { was = c.in_ok-parse-2.ensures.reads; within = c.in_ok-parse-2.ensures.within; fronts = c.in_ok-parse-2.ensures.fronts }) n v;
      refused = λ e i. c.turn.invariant.refused e (later d (record { was = c.in_ok-parse.ensures.reads; within = c.in_ok-parse.ensures.within; fronts = c.in_ok-parse.ensures.fronts }) f (record { was = c.in_ok-parse-2.ensures.reads; within = c.in_ok-parse-2.ensures.within; fronts = c.in_ok-parse-2.ensures.fronts }) n i);
      whole = grind (arith, common_steps);
      within = grind (arith, follows);
    }

pub turn-smaller : goal.turn-smaller
turn-smaller g c =
    let b : is_before (items c.turn.input.rest ++ c.turn.input.scope.after) (items c.parse-in-turn.new.input.rest ++ c.parse-in-turn.new.input.scope.after) ≡ true = first_of (search rules, grind (arith, common_steps)) in
    let w : Follows c.turn.input c.parse-in-turn.new.input = grind (arith, follows) in
    moved_on c.turn.input c.parse-in-turn.new.input w b

pub returns-clause-reads : goal.returns-clause-reads
returns-clause-reads g c =
    let d : is_done c.turn.input.rest ≡ true = first_of (search rules, grind (arith, common_steps)) in
    ended (Read g.T.Parse.reads g.T.Parse.fronts) (Read g.P.Parse.reads g.P.Parse.fronts) _ _ _ c.turn.invariant.answers d
