use Rattle.token_core.proofs.Suffixes.{follows_trans}
use Rattle.token_core.proofs.Steps.{link}
use Rattle.syn_forms.proofs.lists_laws.Turns.{passed_on, stopped}
use Rattle.syn_ty.specs.ty.Reading.{builtin}
use Rattle.syn_ty.proofs.ty.read.tokens.parse_builtin.Goals as goal

pub returns-in_err-parse_any : goal.returns-in_err-parse_any
unfolding builtin
returns-in_err-parse_any c =
    let e = c.in_err-parse_any.field-0.0 in
    record { parses = (passed_on _ _ _ _ e c.from_residual.ensures c.in_err-parse_any.ensures.parses.0 (λ h. stopped _ e h), c.parse_any.ensures.parses.1) }

pub returns-in_err-parse : goal.returns-in_err-parse
unfolding builtin
returns-in_err-parse c =
    let e = c.in_err-parse.field-0.0 in
    record { parses = (passed_on _ _ _ _ e c.from_residual-in_err-parse.ensures c.in_err-parse.ensures.reads (λ h. link _ c.in_ok-parse_any.ensures.parses.0 (stopped _ e h)), follows_trans _ _ _ c.parse_any.ensures.parses.1 c.parse.ensures.within) }

pub returns-in_err-parse-2 : goal.returns-in_err-parse-2
unfolding builtin
returns-in_err-parse-2 c =
    let e = c.in_err-parse-2.field-0.0 in
    record { parses = (passed_on _ _ _ _ e c.from_residual-in_err-parse-2.ensures c.in_err-parse-2.ensures.reads (λ h. link _ c.in_ok-parse_any.ensures.parses.0 (link _ c.in_ok-parse.ensures.reads (stopped _ e h))), follows_trans _ _ _ c.parse_any.ensures.parses.1 (follows_trans _ _ _ c.parse.ensures.within c.parse-2.ensures.within)) }
