use Rattle.std.proofs.Common.{Ok, length, sym, ap, ◌∙◌, arith}
use Rattle.syn_pat.specs.pat.Reading.{paren_or_tuple}
use Rattle.syn_forms.proofs.inputs_laws.Parens.{read_inside, refused_inside}
use Rattle.syn_pat.specs.pat.Knot.{pats_below}
use Rattle.syn_pat.specs.pat.Reading.{named, of_parens, paren_content}
use Rattle.token_core.proofs.Suffixes.{follows_trans}
use Rattle.token_core.proofs.Steps.{link}
use Rattle.syn_forms.proofs.lists_laws.Turns.{passed_on, stopped}
use Rattle.syn_pat.proofs.patterns.Patterns.paren_or_tuple.Goals as goal

pub paren_content-requires-clause-patterns : goal.paren_content-requires-clause-patterns
paren_content-requires-clause-patterns g c = c.requires.patterns

pub paren_content-requires-clause-few : goal.paren_content-requires-clause-few
paren_content-requires-clause-few g c =
    let few = c.requires.few in
    let less = c.in_ok-paren_token.ensures.inside in
    omega (arith, few, less)

pub returns-in_err-held : goal.returns-in_err-held
unfolding paren_or_tuple
returns-in_err-held g c =
    let e = c.in_err-held.field-0.0 in
    let r = pats_below {T = g.row.T.Denot} g.X.Subtree.reads (named g.Q.Qualifier.reads g.G.Arguments.is_absent) (length c.args.self.now.begin) in
    record {
      parses = (
        passed_on _ _ _ _ e c.from_residual-in_err-held.ensures c.in_err-held.ensures.parses.0 (λ h. stopped _ e (refused_inside (paren_content r) c.args.input.now c.open_parens.new.input c.in_ok-paren_token.content c.in_ok-paren_token.paren_token e c.in_ok-paren_token.ensures.parses.0 h)),
        c.open_parens.ensures.parses.1,
      );
    }

pub returns : goal.returns
unfolding paren_or_tuple
returns g c =
    let r = pats_below {T = g.row.T.Denot} g.X.Subtree.reads (named g.Q.Qualifier.reads g.G.Arguments.is_absent) (length c.args.self.now.begin) in
    record {
      parses = (
        link _ (read_inside (paren_content r) c.args.input.now c.open_parens.new.input c.in_ok-paren_token.content c.paren_content.new.input c.in_ok-paren_token.paren_token c.in_ok-held.held c.in_ok-paren_token.ensures.parses.0 c.in_ok-held.ensures.parses.0) (ap (λ z. Ok (of_parens c.in_ok-paren_token.paren_token c.in_ok-held.held, z)) (sym c.finish.ensures.finished) ∙ ap (λ z. Ok (z, c.finish.new.self)) (sym c.of_parens.ensures)),
        follows_trans _ _ _ c.open_parens.ensures.parses.1 c.finish.ensures.within,
      );
    }
