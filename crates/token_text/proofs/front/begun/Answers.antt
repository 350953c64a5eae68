use Rattle.token_text.proofs.Pasts.{past_trans, tells_past}
use Rattle.token_text.proofs.PieceLaws.{alone_look, plain_word_look}
use Rattle.token_text.proofs.front.begun.Goals as goal

pub returns-then-stands_alone : goal.returns-then-stands_alone
returns-then-stands_alone c = tells_past _ _ _ _ _ c.requires.1 (alone_look c.args.docs _ _ c.args.first c.requires.0 (cc)) c.alone.ensures

pub returns-then-starts_word : goal.returns-then-starts_word
returns-then-starts_word c = (
  plain_word_look c.args.docs _ _ _ c.args.first c.requires.0 (cc) c.after_run.ensures.rest,
  past_trans c.requires.1 c.after_run.ensures.past,
)
