use Rattle.token_text.proofs.DocLaws.{literal_is}
use Rattle.token_text.proofs.doc.literal.Goals as goal

pub returns : goal.returns
returns c =
    literal_is c.args.form c.args.comment.now c.after_three.result.now _ _ _ _ c.new-out.ensures.bytes c.in_ok-push.ensures.bytes c.after_three.ensures c.in_ok-push_said.ensures c.in_ok-push-2.ensures.bytes
