use Rattle.std.proofs.Common.{refl}
use Rattle.token_core.proofs.Suffixes.{follows_trans}
use Rattle.token_core.proofs.Steps.{link}
use Rattle.syn_forms.specs.groups.Reading.{length}
use Rattle.syn_forms.proofs.lists_laws.Turns.{passed_on, stopped}
use Rattle.syn_forms.proofs.groups.parse_length.Goals as goal

pub returns-in_err-semi_token : goal.returns-in_err-semi_token
unfolding length
returns-in_err-semi_token g c =
    let e = c.in_err-semi_token.field-0.0 in
    record {
      parses = (
        passed_on _ _ _ _ e c.from_residual.ensures c.in_err-semi_token.ensures.reads (λ h. stopped _ e h),
        c.parse.ensures.within,
      );
    }

pub returns-in_err-len : goal.returns-in_err-len
unfolding length
returns-in_err-len g c =
    let e = c.in_err-len.field-0.0 in
    record {
      parses = (
        passed_on _ _ _ _ e c.from_residual-in_err-len.ensures c.in_err-len.ensures.reads (λ h. link _ c.in_ok-semi_token.ensures.reads (stopped _ e h)),
        follows_trans _ _ _ c.parse.ensures.within c.read_len.ensures.within,
      );
    }

pub returns : goal.returns
unfolding length
returns g c =
    record {
      parses = (
        link _ c.in_ok-semi_token.ensures.reads (link _ c.in_ok-len.ensures.reads refl),
        follows_trans _ _ _ c.parse.ensures.within c.read_len.ensures.within,
      );
    }
