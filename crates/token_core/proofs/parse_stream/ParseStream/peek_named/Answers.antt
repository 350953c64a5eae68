use Rattle.std.proofs.Common.{[], ◌≤◌, sym, ap, ◌∙◌, arith}
use Rattle.std.proofs.lemmas.List.{get_or_past}
use Rattle.token_core.specs.Keywords.{words, word_count}
use Rattle.token_core.specs.Reads.{sees_word, is_text}
use Rattle.token_core.proofs.SeenClasses.{named_seen}
use Rattle.token_core.proofs.parse_stream.ParseStream.peek_named.Goals as goal

pub returns-then-n-lt-WORDS : goal.returns-then-n-lt-WORDS
returns-then-n-lt-WORDS c = c.is_word.ensures ∙ named_seen c.args.n c.args.self.now.rest c.class.result (omega arith) c.class.ensures

pub returns-else-n-lt-WORDS : goal.returns-else-n-lt-WORDS
returns-else-n-lt-WORDS c =
    let past : word_count ≤ c.args.n = omega arith in
    c.peek_word.ensures ∙ ap (λ t. sees_word (is_text t) c.args.self.now.rest) (sym (get_or_past words c.args.n [] past))
