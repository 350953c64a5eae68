use Rattle.std.proofs.Common.{◌≡◌, [], Ok, sym, ap, ◌∙◌, length}
use Rattle.token_core.proofs.Suffixes.{follows_trans}
use Rattle.syn_pat.specs.pat.Knot.{pats_below}
use Rattle.syn_pat.specs.pat.Pats.{slice_of}
use Rattle.syn_pat.specs.pat.Reading.{named}
use Rattle.syn_pat.proofs.pat_laws.Groups.{slice_read}
use Rattle.syn_pat.proofs.patterns.Patterns.slice.Goals as goal

pub returns : goal.returns
returns g c =
    let r = pats_below {T = g.row.T.Denot} g.X.Subtree.reads (named g.Q.Qualifier.reads g.G.Arguments.is_absent) (length c.args.self.now.begin) in
    let k = c.in_ok-bracket_token.bracket_token in
    let all = c.in_ok-elems.elems in
    record {
      parses = (
        slice_read r c.args.input.now c.open_brackets.new.input c.in_ok-bracket_token.content c.elements.new.input k all c.in_ok-bracket_token.ensures.parses.0 c.in_ok-elems.ensures.parses.0
            ∙ ap (λ z. Ok (slice_of [] k all, z)) (sym c.finish.ensures.finished) ∙ ap (λ z. Ok (slice_of z k all, c.finish.new.self)) (sym c.new.ensures),
        follows_trans _ _ _ c.in_ok-bracket_token.ensures.parses.1 c.finish.ensures.within,
      );
    }
