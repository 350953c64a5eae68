use Rattle.std.proofs.Common.{◌≡◌, true, false, rules}
use Rattle.token_core.specs.Positions.{is_before}
use Rattle.token_core.proofs.Cuts.{kept_step, kept_within, kept_less, entered_step, left_step}
use Rattle.token_core.proofs.verbatim.part.Goals as goal

pub returns-then-is_before : goal.returns-then-is_before
returns-then-is_before c =
    let b : is_before c.args.end.now c.in-Some.after ≡ true = search rules in
    let s = entered_step c.in-Some.tree.now c.args.cursor.now c.in-Some.after c.args.end.now c.in-Some.ensures c.requires.within c.requires.before b in
    rw c.past_bound.ensures (record { trees = s.trees; within = s.within; less = s.less })

pub returns-else-is_before : goal.returns-else-is_before
returns-else-is_before c =
    let b : is_before c.args.end.now c.in-Some.after ≡ false = search rules in
    record {
      trees = kept_step c.in-Some.tree.now c.args.cursor.now c.in-Some.after c.args.end.now c.in-Some.ensures c.requires.within b;
      within = kept_within c.in-Some.tree.now c.args.cursor.now c.in-Some.after c.args.end.now c.in-Some.ensures c.requires.within b;
      less = kept_less c.in-Some.tree.now c.args.cursor.now c.in-Some.after c.args.end.now c.in-Some.ensures;
    }

pub returns-in-None : goal.returns-in-None
returns-in-None c =
    let s = left_step c.args.cursor.now c.args.end.now c.requires.within c.requires.before c.in-None.ensures in
    rw c.past_bound-in-None.ensures (record { trees = s.trees; within = s.within; less = s.less })
