use Rattle.std.proofs.Common.{Ok, length, sym, ap, ◌∙◌, arith}
use Rattle.token_core.proofs.Suffixes.{follows_trans}
use Rattle.token_core.specs.Groups as groups
use Rattle.syn_forms.proofs.groups_laws.Inside.{not_opened, read_inside, refused_inside}
use Rattle.syn_forms.specs.nested.Below.{held}
use Rattle.syn_forms.proofs.lists_laws.Turns.{passed_on}
use Rattle.syn_forms.proofs.nested_laws.Ahead.{ahead_follows}
use Rattle.syn_forms.proofs.nested.Nested.in_invisible.Goals as goal

pub returns-in_err-group_token-clause-parses : goal.returns-in_err-group_token-clause-parses
returns-in_err-group_token-clause-parses g c =
    let e = c.in_err-group_token.field-0.0 in (
      passed_on _ _ _ _ e c.from_residual.ensures c.in_err-group_token.ensures.parses.0 (λ h. not_opened groups.group_token groups.open_invisible (λ k x. (k, x)) (held g.T.Tree.read (length c.args.self.now.begin) c.args.place) _ e h),
      c.open_invisible.ensures.parses.1,
    )

pub boxed-requires-clause-nests : goal.boxed-requires-clause-nests
boxed-requires-clause-nests g c = c.requires.nests

pub boxed-requires-clause-few : goal.boxed-requires-clause-few
boxed-requires-clause-few g c =
    let few = c.requires.few in
    let less = c.in_ok-group_token.ensures.inside in
    omega (arith, few, less)

pub returns-in_err-held-clause-parses : goal.returns-in_err-held-clause-parses
returns-in_err-held-clause-parses g c =
    let e = c.in_err-held.field-0.0 in (
      passed_on _ _ _ _ e c.from_residual-in_err-held.ensures c.in_err-held.ensures.parses.0 (λ h. refused_inside groups.group_token groups.open_invisible (λ k x. (k, x)) (held g.T.Tree.read (length c.args.self.now.begin) c.args.place) _ _ _ _ e c.in_ok-group_token.ensures.parses.0 (h)),
      c.open_invisible.ensures.parses.1,
    )

pub returns-clause-parses : goal.returns-clause-parses
returns-clause-parses g c = (
  read_inside groups.group_token groups.open_invisible (λ k x. (k, x)) (held g.T.Tree.read (length c.args.self.now.begin) c.args.place) _ _ _ _ _ _ c.in_ok-group_token.ensures.parses.0 (c.in_ok-held.ensures.parses.0) ∙ ap (λ z. Ok ((c.in_ok-group_token.group_token, c.in_ok-held.held), z)) (sym c.finish.ensures.finished),
  follows_trans _ _ _ c.open_invisible.ensures.parses.1 c.finish.ensures.within,
)

pub returns-clause-taken : goal.returns-clause-taken
returns-clause-taken g c =
    let less = c.in_ok-group_token.ensures.taken in
    let le = ahead_follows _ _ c.finish.ensures.within in
    omega (arith, less, le)
