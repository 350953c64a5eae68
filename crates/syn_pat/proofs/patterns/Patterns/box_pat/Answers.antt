use Rattle.std.proofs.Common.{List, length, refl, sym, ap, subst, ◌∙◌, arith}
use Rattle.syn_pat.specs.pat.Reading.{box_pat}
use Rattle.token_core.specs.Positions.{IsReached, there}
use Rattle.syn_forms.specs.verbatim.Reading.{position, since}
use Rattle.syn_forms.proofs.verbatim_laws.Reached.{reached_later}
use Rattle.syn_pat.specs.declared.place.PatPlace.TheVariants.{Single}
use Rattle.syn_pat.specs.pat.Knot.{pats_below}
use Rattle.syn_pat.specs.pat.Reading.{named}
use Rattle.token_core.specs.Positions.{Item}
use Rattle.token_core.proofs.Suffixes.{follows_trans}
use Rattle.token_core.proofs.Steps.{link}
use Rattle.syn_forms.proofs.lists_laws.Turns.{passed_on, stopped}
use Rattle.syn_pat.proofs.patterns.Patterns.box_pat.Goals as goal

pub returns-in_err-parse_box : goal.returns-in_err-parse_box
unfolding box_pat
returns-in_err-parse_box g c =
    let e = c.in_err-parse_box.field-0.0 in
    record { parses = (passed_on _ _ _ _ e c.from_residual.ensures c.in_err-parse_box.ensures.parses.0 (λ h. stopped _ e h), c.parse_box.ensures.parses.1) }

pub boxed-requires-clause-few : goal.boxed-requires-clause-few
boxed-requires-clause-few g c =
    let few = c.requires.few in
    let is = ap length c.patterns.ensures.begin in
    let less = c.in_ok-parse_box.ensures.taken in
    omega (arith, few, is, less)

pub returns-in_err-boxed : goal.returns-in_err-boxed
unfolding box_pat
returns-in_err-boxed g c =
    let e = c.in_err-boxed.field-0.0 in
    let same = ap (λ (b : List Item). pats_below {T = g.row.T.Denot} g.X.Subtree.reads (named g.Q.Qualifier.reads g.G.Arguments.is_absent) (length b) Single c.parse_box.new.input) (sym c.patterns.ensures.begin) in
    record {
      parses = (
        passed_on _ _ _ _ e c.from_residual-in_err-boxed.ensures c.in_err-boxed.ensures.parses.0 (λ h. link _ c.in_ok-parse_box.ensures.parses.0 (stopped _ e (same ∙ h))),
        follows_trans _ _ _ c.parse_box.ensures.parses.1 c.boxed.ensures.parses.1,
      );
    }

pub since-requires : goal.since-requires
since-requires g c =
    let from0 = subst (λ (z : List Item). IsReached (position c.args.input.now) z) (sym c.cursor-from.ensures) there in
    record { reached = reached_later _ _ _ (reached_later _ _ _ from0 c.parse_box.ensures.parses.1) c.boxed.ensures.parses.1 }

pub returns-in_err-since : goal.returns-in_err-since
unfolding box_pat
returns-in_err-since g c =
    let e = c.in_err-since.field-0.0 in
    let same = ap (λ (b : List Item). pats_below {T = g.row.T.Denot} g.X.Subtree.reads (named g.Q.Qualifier.reads g.G.Arguments.is_absent) (length b) Single c.parse_box.new.input) (sym c.patterns.ensures.begin) in
    let at = ap (λ (z : List Item). since z c.boxed.new.input) (sym c.cursor-from.ensures) in
    record {
      parses = (
        passed_on _ _ _ _ e c.from_residual-in_err-since.ensures c.in_err-since.ensures.reads (λ h. link _ c.in_ok-parse_box.ensures.parses.0 (link _ (same ∙ c.in_ok-boxed.ensures.parses.0) (stopped _ e (at ∙ h)))),
        follows_trans _ _ _ c.parse_box.ensures.parses.1 c.boxed.ensures.parses.1,
      );
    }

pub returns : goal.returns
unfolding box_pat
returns g c =
    let same = ap (λ (b : List Item). pats_below {T = g.row.T.Denot} g.X.Subtree.reads (named g.Q.Qualifier.reads g.G.Arguments.is_absent) (length b) Single c.parse_box.new.input) (sym c.patterns.ensures.begin) in
    let at = ap (λ (z : List Item). since z c.boxed.new.input) (sym c.cursor-from.ensures) in
    record {
      parses = (
        link _ c.in_ok-parse_box.ensures.parses.0 (link _ (same ∙ c.in_ok-boxed.ensures.parses.0) (link _ (at ∙ c.in_ok-since.ensures.reads) refl)),
        follows_trans _ _ _ c.parse_box.ensures.parses.1 c.boxed.ensures.parses.1,
      );
    }
