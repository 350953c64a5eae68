use Rattle.syn_pat.specs.pat.Reading.{const_block}
use Rattle.token_core.proofs.Suffixes.{follows_trans}
use Rattle.token_core.proofs.Steps.{link}
use Rattle.syn_forms.proofs.lists_laws.Turns.{passed_on, stopped}
use Rattle.syn_pat.proofs.pat.read.ranges.parse_const_block.Goals as goal

pub returns-in_err-const_token : goal.returns-in_err-const_token
unfolding const_block
returns-in_err-const_token g c =
    let e = c.in_err-const_token.field-0.0 in
    record { parses = (passed_on _ _ _ _ e c.from_residual.ensures c.in_err-const_token.ensures.reads (λ h. stopped _ e h), c.parse.ensures.within) }

pub returns-in_err-brace_token : goal.returns-in_err-brace_token
unfolding const_block
returns-in_err-brace_token g c =
    let e = c.in_err-brace_token.field-0.0 in
    record {
      parses = (
        passed_on _ _ _ _ e c.from_residual-in_err-brace_token.ensures c.in_err-brace_token.ensures.parses.0 (λ h. link _ c.in_ok-const_token.ensures.reads (stopped _ e h)),
        follows_trans _ _ _ c.parse.ensures.within c.parse_body.ensures.parses.1,
      );
    }
