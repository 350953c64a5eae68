use Rattle.std.proofs.Common.{◌≡◌, ◌++◌, ◌∷◌, [], true, false, Err, sym, ap, ◌∙◌, rules, arith}
use Rattle.std.proofs.lemmas.Grind.{common_steps}
use Rattle.token_core.proofs.Suffixes.{follows, follows_self}
use Rattle.syn_attr.specs.attr.Reading.{sees_pound, one_outer, outer}
use Rattle.syn_path.proofs.path_laws.Turns.{stuck_by}
use Rattle.syn_attr.proofs.attr_laws.Many.{before, before_nothing, turn_none, turn_refused, turn_on}
use Rattle.syn_attr.proofs.attr_laws.Takes.{outer_takes}
use Rattle.syn_attr.proofs.attr.read.parse_outers.Goals as goal

pub turn-init : goal.turn-init
turn-init g c =
    let v : c.new-attrs.result ≡ [] = first_of (search rules, grind (arith, common_steps)) in
    record {
      told = before_nothing (outer g.X.Subtree.reads c.args.input.now) ∙ ap (λ z. before z (outer g.X.Subtree.reads c.args.input.now)) (sym v);
      within = follows_self c.args.input.now;
    }

pub returns : goal.returns
returns g c =
    let here : sees_pound c.turn.input.rest ≡ false = first_of (search rules, grind (arith, common_steps)) in
    record { parses = (c.turn.invariant.told ∙ turn_none sees_pound (one_outer g.X.Subtree.reads) c.turn.attrs c.turn.input here, grind (arith, follows)) }

pub returns-in_err-single_parse_outer : goal.returns-in_err-single_parse_outer
returns-in_err-single_parse_outer g c =
    let here : sees_pound c.turn.input.rest ≡ true = first_of (search rules, grind (arith, common_steps)) in
    let e = c.in_err-single_parse_outer.field-0.0 in
    let back : c.from_residual.result ≡ Err e = first_of (search rules, grind (arith, common_steps)) in
    record {
      parses = (
        stuck_by (one_outer g.X.Subtree.reads c.turn.input) _ _ _ e back c.in_err-single_parse_outer.ensures.parses.0
            (λ h. c.turn.invariant.told ∙ turn_refused sees_pound (one_outer g.X.Subtree.reads) c.turn.attrs c.turn.input e here h),
        grind (arith, follows),
      );
    }

pub turn-smaller : goal.turn-smaller
turn-smaller g c = outer_takes g.X.Subtree.reads c.turn.input c.single_parse_outer.new.input c.in_ok-single_parse_outer.field-0 c.in_ok-single_parse_outer.ensures.parses.0

pub turn-preserved : goal.turn-preserved
turn-preserved g c =
    let here : sees_pound c.turn.input.rest ≡ true = first_of (search rules, grind (arith, common_steps)) in
    let v : c.push.new.self ≡ c.turn.attrs ++ c.in_ok-single_parse_outer.field-0 ∷ [] = first_of (search rules, grind (arith, common_steps)) in
    record {
      told = c.turn.invariant.told
          ∙ turn_on sees_pound (one_outer g.X.Subtree.reads) (outer_takes g.X.Subtree.reads) c.turn.attrs c.turn.input c.single_parse_outer.new.input c.in_ok-single_parse_outer.field-0 here c.in_ok-single_parse_outer.ensures.parses.0
          ∙ ap (λ z. before z (outer g.X.Subtree.reads c.single_parse_outer.new.input)) (sym v);
      within = grind (arith, follows);
    }
