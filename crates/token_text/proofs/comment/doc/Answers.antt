use Rattle.std.proofs.Common.{chars}
use Rattle.token_text.proofs.Choices.{doc_refused, doc_found}
use Rattle.token_text.proofs.Words.{chars_upto}
use Rattle.token_text.proofs.comment.doc.Goals as goal

pub returns-then-has_lone_return : goal.returns-then-has_lone_return
returns-then-has_lone_return c =
    let said = chars_upto c.args.text.now c.up_to.result.now c.args.until.now c.requires.1 c.up_to.ensures c.up_to.utf8 in
    doc_refused c.args.form (chars c.args.text.now) (chars c.args.rest.now) _ _ c.has_lone_return.result said c.has_lone_return.ensures c.if-has_lone_return.true

pub returns-else-has_lone_return : goal.returns-else-has_lone_return
returns-else-has_lone_return c =
    let said = chars_upto c.args.text.now c.up_to.result.now c.args.until.now c.requires.1 c.up_to.ensures c.up_to.utf8 in
    (doc_found c.args.form (chars c.args.text.now) (chars c.args.rest.now) _ _ c.has_lone_return.result said c.has_lone_return.ensures c.style_of.result c.if-has_lone_return.false c.style_of.ensures, c.requires.0)
