use Rattle.std.specs.Prelude.{is_some}
use Rattle.std.proofs.Common.{◌≡◌, Ok, true, ◌||◌, List, length, sym, ap, ◌∙◌, rules, arith}
use Rattle.std.proofs.lemmas.Grind.{common_steps}
use Rattle.syn_pat.specs.pat.Reading.{alternatives, sees_vert}
use Rattle.syn_forms.specs.lists.Reading.{list_from}
use Rattle.token_core.specs.Loops.{never}
use Rattle.syn_pat.specs.declared.pat.PatOf.TheVariants as v
use Rattle.syn_pat.specs.declared.place.PatPlace.TheVariants.{Single}
use Rattle.syn_pat.specs.pat.Knot.{pats_below}
use Rattle.syn_pat.specs.pat.Pats.{or_of}
use Rattle.syn_pat.specs.pat.Reading.{named}
use Rattle.token_core.specs.Tokens as token
use Rattle.token_core.specs.Positions.{Item}
use Rattle.token_core.proofs.Steps.{chosen, link}
use Rattle.syn_forms.proofs.lists_laws.Turns.{passed_on, stopped, told_by}
use Rattle.syn_pat.proofs.patterns.Patterns.alternatives.Goals as goal

pub list_from-requires-clause-few : goal.list_from-requires-clause-few
list_from-requires-clause-few g c =
    let few = c.requires.few in
    let is = ap length c.patterns.ensures.begin in
    omega (arith, few, is)

pub returns-in_err-cases : goal.returns-in_err-cases
unfolding alternatives
returns-in_err-cases g c =
    let e = c.in_err-cases.field-0.0 in
    let goes : (is_some c.args.leading_vert || sees_vert c.args.input.now.rest) ≡ true = first_of (search rules, grind (arith, common_steps)) in
    let same = ap (λ (b : List Item). list_from never (pats_below {T = g.row.T.Denot} g.X.Subtree.reads (named g.Q.Qualifier.reads g.G.Arguments.is_absent) (length b) Single) sees_vert token.bar c.args.first c.args.input.now) (sym c.patterns.ensures.begin)
    ∙ ap (λ z. list_from never (pats_below {T = g.row.T.Denot} g.X.Subtree.reads (named g.Q.Qualifier.reads g.G.Arguments.is_absent) (length c.patterns.result.begin) Single) sees_vert token.bar z c.args.input.now) (sym c.into_inner.ensures) in
    record {
      parses = (
        passed_on _ _ _ _ e c.from_residual.ensures c.in_err-cases.ensures.parses.0 (λ h. chosen _ true _ _ _ _ goes (stopped _ e (same ∙ h))),
        c.list_from.ensures.parses.1,
      );
    }

pub returns : goal.returns
unfolding alternatives
returns g c =
    let goes : (is_some c.args.leading_vert || sees_vert c.args.input.now.rest) ≡ true = first_of (search rules, grind (arith, common_steps)) in
    let same = ap (λ (b : List Item). list_from never (pats_below {T = g.row.T.Denot} g.X.Subtree.reads (named g.Q.Qualifier.reads g.G.Arguments.is_absent) (length b) Single) sees_vert token.bar c.args.first c.args.input.now) (sym c.patterns.ensures.begin)
    ∙ ap (λ z. list_from never (pats_below {T = g.row.T.Denot} g.X.Subtree.reads (named g.Q.Qualifier.reads g.G.Arguments.is_absent) (length c.patterns.result.begin) Single) sees_vert token.bar z c.args.input.now) (sym c.into_inner.ensures) in
    record {
      parses = (
        told_by _ _ (chosen _ true _ _ _ _ goes (link _ (same ∙ c.in_ok-cases.ensures.parses.0) (ap (λ z. Ok (v.Or (or_of z c.args.leading_vert c.in_ok-cases.cases), c.list_from.new.input)) (sym c.new.ensures)))) c.boxed_pat.ensures.reads,
        c.list_from.ensures.parses.1,
      );
    }
