use Rattle.std.proofs.Common.{refl}
use Rattle.token_core.proofs.Suffixes.{follows_trans}
use Rattle.token_core.proofs.Steps.{link}
use Rattle.syn_forms.specs.predicates.Reading.{lifetime_predicate}
use Rattle.syn_forms.proofs.lists_laws.Turns.{passed_on, stopped}
use Rattle.syn_forms.proofs.predicates.parse_lifetime_predicate.Goals as goal

pub returns-in_err-lifetime : goal.returns-in_err-lifetime
unfolding lifetime_predicate
returns-in_err-lifetime c =
    let e = c.in_err-lifetime.field-0.0 in
    record { parses = (passed_on _ _ _ _ e c.from_residual.ensures c.in_err-lifetime.ensures.parses.0 (λ h. stopped _ e h), c.parse_any_lifetime.ensures.parses.1) }

pub returns-in_err-colon_token : goal.returns-in_err-colon_token
unfolding lifetime_predicate
returns-in_err-colon_token c =
    let e = c.in_err-colon_token.field-0.0 in
    record { parses = (passed_on _ _ _ _ e c.from_residual-in_err-colon_token.ensures c.in_err-colon_token.ensures.parses.0 (λ h. link _ c.in_ok-lifetime.ensures.parses.0 (stopped _ e h)), follows_trans _ _ _ c.parse_any_lifetime.ensures.parses.1 c.parse_colon.ensures.parses.1) }

pub returns-in_err-bounds : goal.returns-in_err-bounds
unfolding lifetime_predicate
returns-in_err-bounds c =
    let e = c.in_err-bounds.field-0.0 in
    record { parses = (passed_on _ _ _ _ e c.from_residual-in_err-bounds.ensures c.in_err-bounds.ensures.parses.0 (λ h. link _ c.in_ok-lifetime.ensures.parses.0 (link _ c.in_ok-colon_token.ensures.parses.0 (stopped _ e h))), follows_trans _ _ _ c.parse_any_lifetime.ensures.parses.1 (follows_trans _ _ _ c.parse_colon.ensures.parses.1 c.parse_lifetime_bounds.ensures.parses.1)) }

pub returns : goal.returns
unfolding lifetime_predicate
returns c = record { parses = (link _ c.in_ok-lifetime.ensures.parses.0 (link _ c.in_ok-colon_token.ensures.parses.0 (link _ c.in_ok-bounds.ensures.parses.0 refl)), follows_trans _ _ _ c.parse_any_lifetime.ensures.parses.1 (follows_trans _ _ _ c.parse_colon.ensures.parses.1 c.parse_lifetime_bounds.ensures.parses.1)) }
