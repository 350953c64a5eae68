use Rattle.std.proofs.Common.{◌≡◌, ◌&&◌, ◌∙◌, not, false, List, Ok, subst, sym, ap, length, rules, arith}
use Rattle.std.proofs.lemmas.Grind.{common_steps}
use Rattle.token_core.specs.Positions.{Item}
use Rattle.token_core.specs.Reads.{is_done}
use Rattle.token_core.proofs.Steps.{chosen, link}
use Rattle.token_core.proofs.Suffixes.{follows_trans}
use Rattle.syn_forms.proofs.lists_laws.Turns.{passed_on, stopped}
use Rattle.syn_forms.proofs.nested_laws.Ahead.{ahead_follows}
use Rattle.syn_forms.specs.lists.Reading.{at_end, before_end, list_from}
use Rattle.syn_forms.specs.tokens.Reading.{comma}
use Rattle.syn_pat.specs.declared.place.PatPlace.TheVariants.{LeadingVert}
use Rattle.syn_pat.specs.pat.Knot.{pats_below}
use Rattle.syn_pat.specs.pat.Pats.{is_rest}
use Rattle.syn_pat.specs.pat.Reading.{named, paren_content}
use Rattle.syn_pat.proofs.pat_laws.Groups.{content_read_on}
use Rattle.syn_pat.proofs.patterns.Patterns.paren_content.Goals as goal

pub returns : goal.returns
returns g c =
    let below = pats_below {T = g.row.T.Denot} g.X.Subtree.reads (named g.Q.Qualifier.reads g.G.Arguments.is_absent) in
    let s = c.args.input.now in
    let t = c.boxed.new.input in
    let u = c.list_from.new.input in
    let x = c.in_ok-first.first in
    let all = c.in_ok-elems.elems in
    let goes : is_done s.rest ≡ false = first_of (search rules, grind (arith, common_steps)) in
    let one = subst (λ (b : List Item). below (length b) LeadingVert s ≡ Ok (x, t)) c.patterns.ensures.begin c.in_ok-first.ensures.parses.0 in
    let more : (is_done t.rest && not (is_rest x)) ≡ false = first_of (search rules, grind (arith, common_steps)) in
    let on = subst (λ (b : List Item). list_from (λ first. at_end) (below (length b) LeadingVert) before_end comma x t ≡ Ok (all, u)) c.patterns-2.ensures.begin
    (ap (λ z. list_from (λ first. at_end) (below (length c.patterns-2.result.begin) LeadingVert) before_end comma z t) (sym c.into_inner.ensures) ∙ c.in_ok-elems.ensures.parses.0) in
    record { parses = (content_read_on (below (length c.args.self.now.begin)) s t u x all goes one more on, follows_trans _ _ _ c.in_ok-first.ensures.parses.1 c.in_ok-elems.ensures.parses.1) }

pub boxed-requires-clause-few : goal.boxed-requires-clause-few
boxed-requires-clause-few g c =
    let few = c.requires.few in
    let is = ap length c.patterns.ensures.begin in
    omega (arith, few, is)

pub list_from-requires-clause-few : goal.list_from-requires-clause-few
list_from-requires-clause-few g c =
    let few = c.requires.few in
    let is = ap length c.patterns-2.ensures.begin in
    let le = ahead_follows _ _ c.boxed.ensures.parses.1 in
    omega (arith, few, is, le)

pub returns-in_err-first : goal.returns-in_err-first
unfolding paren_content
returns-in_err-first g c =
    let e = c.in_err-first.field-0.0 in
    let below = pats_below {T = g.row.T.Denot} g.X.Subtree.reads (named g.Q.Qualifier.reads g.G.Arguments.is_absent) in
    let same = ap (λ (b : List Item). below (length b) LeadingVert c.args.input.now) (sym c.patterns.ensures.begin) in
    record { parses = (passed_on _ _ _ _ e c.from_residual.ensures c.in_err-first.ensures.parses.0 (λ h. chosen _ false _ _ _ _ (sym c.if-is_empty.ensures) (stopped _ e (same ∙ h))), c.boxed.ensures.parses.1) }

pub returns-in_err-elems : goal.returns-in_err-elems
unfolding paren_content
returns-in_err-elems g c =
    let e = c.in_err-elems.field-0.0 in
    let below = pats_below {T = g.row.T.Denot} g.X.Subtree.reads (named g.Q.Qualifier.reads g.G.Arguments.is_absent) in
    let same = ap (λ (b : List Item). below (length b) LeadingVert c.args.input.now) (sym c.patterns.ensures.begin) in
    let on = ap (λ (b : List Item). list_from (λ first. at_end) (below (length b) LeadingVert) before_end comma c.in_ok-first.first c.boxed.new.input) (sym c.patterns-2.ensures.begin)
    ∙ ap (λ z. list_from (λ first. at_end) (below (length c.patterns-2.result.begin) LeadingVert) before_end comma z c.boxed.new.input) (sym c.into_inner.ensures) in
    let more : (is_done c.boxed.new.input.rest && not (is_rest c.in_ok-first.first)) ≡ false = first_of (search rules, grind (arith, common_steps)) in
    record {
      parses = (
        passed_on _ _ _ _ e c.from_residual-in_err-elems.ensures c.in_err-elems.ensures.parses.0 (λ h. chosen _ false _ _ _ _ (sym c.if-is_empty.ensures) (link _ (same ∙ c.in_ok-first.ensures.parses.0) (chosen _ false _ _ _ _ more (stopped _ e (on ∙ h))))),
        follows_trans _ _ _ c.boxed.ensures.parses.1 c.list_from.ensures.parses.1,
      );
    }
