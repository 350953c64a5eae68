use Rattle.std.proofs.Common.{◌≡◌, Ok, sym, ap, ◌∙◌, length}
use Rattle.token_core.proofs.Suffixes.{follows_trans}
use Rattle.syn_forms.proofs.inputs_laws.Parens.{read_inside}
use Rattle.syn_pat.specs.declared.place.PatPlace.TheVariants.{LeadingVert}
use Rattle.syn_pat.specs.pat.Knot.{pats_below}
use Rattle.syn_pat.specs.pat.Reading.{elements, named}
use Rattle.syn_pat.proofs.patterns.Patterns.in_parens.Goals as goal

pub returns : goal.returns
returns g c =
    let r = pats_below {T = g.row.T.Denot} g.X.Subtree.reads (named g.Q.Qualifier.reads g.G.Arguments.is_absent) (length c.args.self.now.begin) in
    record {
      parses = (
        read_inside (elements r LeadingVert) c.args.input.now c.open_parens.new.input c.in_ok-paren_token.content c.elements.new.input c.in_ok-paren_token.paren_token c.in_ok-elems.elems c.in_ok-paren_token.ensures.parses.0
            c.in_ok-elems.ensures.parses.0 ∙ ap (λ z. Ok ((c.in_ok-paren_token.paren_token, c.in_ok-elems.elems), z)) (sym c.finish.ensures.finished),
        follows_trans _ _ _ c.in_ok-paren_token.ensures.parses.1 c.finish.ensures.within,
      );
    }
