use Rattle.std.proofs.Common.{sym, subst, arith}
use Rattle.token_core.specs.Positions.{IsReached}
use Rattle.token_core.proofs.Places.{reached_follows}
use Rattle.token_core.proofs.Suffixes.{follows_trans}
use Rattle.syn_forms.specs.inputs.Reading.{named_argument}
use Rattle.syn_forms.specs.verbatim.Reading.{position}
use Rattle.syn_forms.proofs.lists_laws.Turns.{passed_on, stopped}
use Rattle.syn_forms.proofs.nested_laws.Ahead.{ahead_follows}
use Rattle.syn_forms.proofs.nested.Nested.named_argument.Goals as goal

pub returns-in_err-name-clause-parses : goal.returns-in_err-name-clause-parses
unfolding named_argument
returns-in_err-name-clause-parses g c =
    let e = c.in_err-name.field-0.0 in
    (passed_on _ _ _ _ e c.from_residual.ensures c.in_err-name.ensures.parses.0 (λ h. stopped _ e h), c.parse_optional_name.ensures.parses.1)

pub returns-in_err-name-clause-fewer : goal.returns-in_err-name-clause-fewer
returns-in_err-name-clause-fewer g c = c.parse_optional_name.ensures.fewer

pub parse_own-requires : goal.parse_own-requires
parse_own-requires g c = record { reached = subst (λ z. IsReached (position c.parse_optional_name.new.input) z) (sym c.cursor-from.ensures) (reached_follows _ _ c.parse_optional_name.ensures.parses.1) }

pub value-requires-clause-nests : goal.value-requires-clause-nests
value-requires-clause-nests g c = c.requires.nests

pub value-requires-clause-few : goal.value-requires-clause-few
value-requires-clause-few g c =
    let few = c.requires.few in
    let le = c.parse_optional_name.ensures.fewer in
    omega (arith, few, le)

pub returns-in_err-ty-clause-fewer : goal.returns-in_err-ty-clause-fewer
returns-in_err-ty-clause-fewer g c = ahead_follows _ _ (follows_trans _ _ _ c.parse_optional_name.ensures.parses.1 c.value.ensures.parses.1)

pub returns-clause-fewer : goal.returns-clause-fewer
returns-clause-fewer g c = ahead_follows _ _ (follows_trans _ _ _ c.parse_optional_name.ensures.parses.1 c.value.ensures.parses.1)
