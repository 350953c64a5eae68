use Rattle.std.proofs.lemmas.Result.{err_from_is_err_and}
use Rattle.token_text.proofs.MovingLaws.{value_read, value_all, value_no, unvalued, unvalued_so}
use Rattle.token_text.proofs.lit_str.lit_str_value.Goals as goal

pub returns-in_err-read_content-clause-all : goal.returns-in_err-read_content-clause-all
returns-in_err-read_content-clause-all c =
    let p = err_from_is_err_and c.from_residual.result c.from_residual.ensures.1 in
    rw (p.1, p.2) (unvalued c.in_err-read_content.ensures.malformed)

pub returns-in_err-read_content-clause-refuses : goal.returns-in_err-read_content-clause-refuses
returns-in_err-read_content-clause-refuses c =
    let p = err_from_is_err_and c.from_residual.result c.from_residual.ensures.1 in
    rw (p.1, p.2) (unvalued_so c.in_err-read_content.ensures.malformed)

pub returns-clause-read : goal.returns-clause-read
returns-clause-read c = value_read c.in_ok-read_content.ensures.found.0

pub returns-clause-all : goal.returns-clause-all
returns-clause-all c = value_all c.in_ok-read_content.ensures.found.0

pub returns-clause-refuses : goal.returns-clause-refuses
returns-clause-refuses c = λ e m. absurd (value_no c.in_ok-read_content.ensures.found.0 e m)
