use Rattle.std.proofs.Common.{true, List, length, refl, sym, ap, ◌∙◌, arith}
use Rattle.syn_pat.specs.pat.Reading.{subpat}
use Rattle.syn_pat.specs.declared.place.PatPlace.TheVariants.{Single}
use Rattle.syn_pat.specs.pat.Knot.{pats_below}
use Rattle.syn_pat.specs.pat.Reading.{named}
use Rattle.token_core.specs.Positions.{Item}
use Rattle.token_core.proofs.Suffixes.{follows_trans}
use Rattle.token_core.proofs.Steps.{chosen, link}
use Rattle.syn_forms.proofs.lists_laws.Turns.{passed_on, stopped}
use Rattle.syn_pat.proofs.patterns.Patterns.subpat.Goals as goal

pub returns-in_err-at_token : goal.returns-in_err-at_token
unfolding subpat
returns-in_err-at_token g c =
    let e = c.in_err-at_token.field-0.0 in
    record {
      parses = (
        passed_on _ _ _ _ e c.from_residual.ensures c.in_err-at_token.ensures.parses.0 (λ h. chosen _ true _ _ _ _ (sym c.if-not-peek.ensures) (stopped _ e (stopped _ e h))),
        c.parse_at.ensures.parses.1,
      );
    }

pub boxed-requires-clause-few : goal.boxed-requires-clause-few
boxed-requires-clause-few g c =
    let few = c.requires.few in
    let is = ap length c.patterns.ensures.begin in
    let less = c.in_ok-at_token.ensures.taken in
    omega (arith, few, is, less)

pub returns-in_err-pat : goal.returns-in_err-pat
unfolding subpat
returns-in_err-pat g c =
    let e = c.in_err-pat.field-0.0 in
    let same = ap (λ (b : List Item). pats_below {T = g.row.T.Denot} g.X.Subtree.reads (named g.Q.Qualifier.reads g.G.Arguments.is_absent) (length b) Single c.parse_at.new.input) (sym c.patterns.ensures.begin) in
    record {
      parses = (
        passed_on _ _ _ _ e c.from_residual-in_err-pat.ensures c.in_err-pat.ensures.parses.0 (λ h. chosen _ true _ _ _ _ (sym c.if-not-peek.ensures) (stopped _ e (link _ c.in_ok-at_token.ensures.parses.0 (stopped _ e (same ∙ h))))),
        follows_trans _ _ _ c.parse_at.ensures.parses.1 c.boxed.ensures.parses.1,
      );
    }

pub returns : goal.returns
unfolding subpat
returns g c =
    let same = ap (λ (b : List Item). pats_below {T = g.row.T.Denot} g.X.Subtree.reads (named g.Q.Qualifier.reads g.G.Arguments.is_absent) (length b) Single c.parse_at.new.input) (sym c.patterns.ensures.begin) in
    record {
      parses = (
        chosen _ true _ _ _ _ (sym c.if-not-peek.ensures) (link _ (link _ c.in_ok-at_token.ensures.parses.0 (link _ (same ∙ c.in_ok-pat.ensures.parses.0) refl)) refl),
        follows_trans _ _ _ c.parse_at.ensures.parses.1 c.boxed.ensures.parses.1,
      );
    }
