use Rattle.std.proofs.Common.{refl}
use Rattle.token_text.proofs.StringLaws.{nothing_yes, nothing_no}
use Rattle.token_text.proofs.MovingLaws.{found_tokens, found_refused, found_suffixed}
use Rattle.token_text.proofs.lit_str.tokens.Goals as goal

pub returns-then-not-is_end-clause-refused : goal.returns-then-not-is_end-clause-refused
returns-then-not-is_end-clause-refused c = found_suffixed c.requires.0 c.suffixed.result (nothing_no _ _ _ c.is_end.ensures c.if-not-is_end.true refl) c.suffixed.ensures

pub returns-in_ok-moved_tokens-in-Ok-clause-held : goal.returns-in_ok-moved_tokens-in-Ok-clause-held
returns-in_ok-moved_tokens-in-Ok-clause-held c =
    found_tokens c.requires.0 c.in-Ok.tokens c.in_ok-moved_tokens-in-Ok.field-0 (nothing_yes _ _ _ c.is_end.ensures c.if-not-is_end.false refl)
    (rw c.as_str.ensures.value at c.in-Ok.ensures.read) c.in_ok-moved_tokens-in-Ok.ensures

pub returns-in-Err-clause-refused : goal.returns-in-Err-clause-refused
returns-in-Err-clause-refused c =
    found_refused c.requires.0 c.in-Err.e c.moved_error.result (nothing_yes _ _ _ c.is_end.ensures c.if-not-is_end.false refl)
    (rw c.as_str.ensures.value at c.in-Err.ensures.refused) c.moved_error.ensures.moved c.moved_error.ensures.memory
