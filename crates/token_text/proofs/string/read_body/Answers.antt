use Rattle.token_text.proofs.Pasts.{past_trans}
use Rattle.token_text.proofs.StringLaws.{stored_so, stuck_there, more_there, found_there, nothing_yes, nothing_no}
use Rattle.token_text.proofs.string.read_body.Goals as goal

pub returns-in_default-clause-malformed : goal.returns-in_default-clause-malformed
returns-in_default-clause-malformed c =
    let r = c.in_ok-rest.ensures in
    stored_so _ _ c.stuck.ensures (stuck_there c.args.lit.now c.args.closing _ c.requires.opens c.in_ok-rest.rest.now _ _ r.taken r.stops.0 c.in_default.ensures)

pub returns-then-not-is_end-clause-malformed : goal.returns-then-not-is_end-clause-malformed
returns-then-not-is_end-clause-malformed c =
    let r = c.in_ok-rest.ensures in
    stored_so _ _ c.no_string.ensures (more_there c.args.lit.now c.args.closing _ c.requires.opens c.in_ok-rest.rest.now _ _ r.taken _ c.in-Some.ensures.0
    (nothing_no _ _ _ c.is_end.ensures c.if-not-is_end.true c.after_suffix.ensures.rest))

pub returns-clause-found : goal.returns-clause-found
returns-clause-found c =
    let r = c.in_ok-rest.ensures in
    let e = c.in-Some.ensures in (
      found_there c.args.lit.now c.args.closing _ c.requires.opens c.in_ok-rest.rest.now _ _ r.taken _ _ e.0
          (nothing_yes _ _ _ c.is_end.ensures c.if-not-is_end.false c.after_suffix.ensures.rest) c.between-closing.ensures,
      past_trans r.stops.1 e.1,
    )
