use Rattle.token_text.proofs.Words.{spelled_so, raw_form_found, raw_form_lacks}
use Rattle.token_text.proofs.word.after_any_word.Goals as goal

pub returns-then-has_raw_form : goal.returns-then-has_raw_form
returns-then-has_raw_form c =
    let e = c.in-Some.ensures in
    let same = spelled_so c.args.text.now c.up_to.result.now c.in-Some.rest.now e.1 c.up_to.ensures in
    (raw_form_found _ _ c.up_to.result.now e.0 same (cc), e.1)

pub returns-else-has_raw_form : goal.returns-else-has_raw_form
returns-else-has_raw_form c =
    let e = c.in-Some.ensures in
    let same = spelled_so c.args.text.now c.up_to.result.now c.in-Some.rest.now e.1 c.up_to.ensures in
    raw_form_lacks _ _ c.up_to.result.now e.0 same (cc)
