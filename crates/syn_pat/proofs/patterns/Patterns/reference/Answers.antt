use Rattle.std.proofs.Common.{Ok, List, length, sym, ap, ◌∙◌, arith}
use Rattle.syn_pat.specs.pat.Reading.{reference}
use Rattle.syn_pat.specs.declared.place.PatPlace.TheVariants.{Single}
use Rattle.syn_pat.specs.pat.Knot.{pats_below}
use Rattle.syn_pat.specs.pat.Pats.{reference_of}
use Rattle.syn_pat.specs.pat.Reading.{named}
use Rattle.token_core.specs.Positions.{Item}
use Rattle.token_core.proofs.Suffixes.{follows_trans}
use Rattle.token_core.proofs.Steps.{link}
use Rattle.syn_forms.proofs.lists_laws.Turns.{passed_on, stopped}
use Rattle.syn_forms.proofs.nested_laws.Ahead.{ahead_follows}
use Rattle.syn_pat.proofs.patterns.Patterns.reference.Goals as goal

pub returns-in_err-and_token : goal.returns-in_err-and_token
unfolding reference
returns-in_err-and_token g c =
    let e = c.in_err-and_token.field-0.0 in
    record { parses = (passed_on _ _ _ _ e c.from_residual.ensures c.in_err-and_token.ensures.parses.0 (λ h. stopped _ e h), c.parse_and.ensures.parses.1) }

pub returns-in_err-mutability : goal.returns-in_err-mutability
unfolding reference
returns-in_err-mutability g c =
    let e = c.in_err-mutability.field-0.0 in
    record {
      parses = (
        passed_on _ _ _ _ e c.from_residual-in_err-mutability.ensures c.in_err-mutability.ensures.parses.0 (λ h. link _ c.in_ok-and_token.ensures.parses.0 (stopped _ e h)),
        follows_trans _ _ _ c.parse_and.ensures.parses.1 c.parse_mut.ensures.parses.1,
      );
    }

pub boxed-requires-clause-few : goal.boxed-requires-clause-few
boxed-requires-clause-few g c =
    let few = c.requires.few in
    let is = ap length c.patterns.ensures.begin in
    let less = c.in_ok-and_token.ensures.taken in
    let le = ahead_follows _ _ c.parse_mut.ensures.parses.1 in
    omega (arith, few, is, less, le)

pub returns-in_err-pat : goal.returns-in_err-pat
unfolding reference
returns-in_err-pat g c =
    let e = c.in_err-pat.field-0.0 in
    let same = ap (λ (b : List Item). pats_below {T = g.row.T.Denot} g.X.Subtree.reads (named g.Q.Qualifier.reads g.G.Arguments.is_absent) (length b) Single c.parse_mut.new.input) (sym c.patterns.ensures.begin) in
    record {
      parses = (
        passed_on _ _ _ _ e c.from_residual-in_err-pat.ensures c.in_err-pat.ensures.parses.0 (λ h. link _ c.in_ok-and_token.ensures.parses.0 (link _ c.in_ok-mutability.ensures.parses.0 (stopped _ e (same ∙ h)))),
        follows_trans _ _ _ c.parse_and.ensures.parses.1 (follows_trans _ _ _ c.parse_mut.ensures.parses.1 c.boxed.ensures.parses.1),
      );
    }

pub returns : goal.returns
unfolding reference
returns g c =
    let same = ap (λ (b : List Item). pats_below {T = g.row.T.Denot} g.X.Subtree.reads (named g.Q.Qualifier.reads g.G.Arguments.is_absent) (length b) Single c.parse_mut.new.input) (sym c.patterns.ensures.begin) in
    record {
      parses = (
        link _ c.in_ok-and_token.ensures.parses.0 (link _ c.in_ok-mutability.ensures.parses.0 (link _ (same ∙ c.in_ok-pat.ensures.parses.0) (ap (λ z. Ok (reference_of z c.in_ok-and_token.and_token c.in_ok-mutability.mutability c.in_ok-pat.pat, c.boxed.new.input)) (sym c.new.ensures)))),
        follows_trans _ _ _ c.parse_and.ensures.parses.1 (follows_trans _ _ _ c.parse_mut.ensures.parses.1 c.boxed.ensures.parses.1),
      );
    }
