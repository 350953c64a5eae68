use Rattle.token_text.proofs.Choices.{plain_number}
use Rattle.token_text.proofs.Pasts.{tells_past}
use Rattle.token_text.proofs.front.plain.Goals as goal

pub returns-then-is_ascii_digit : goal.returns-then-is_ascii_digit
returns-then-is_ascii_digit c =
    tells_past _ _ _ _ _ c.requires.1 (plain_number c.args.first _ (cc) (cc)) c.number.ensures
