use Rattle.std.proofs.Common.{◌≡◌, true, false, Some, Err, sym, ap, ◌∙◌, rules}
use Rattle.token_core.specs.Reads.{is_ident, ident_name, sees_word, next_word, read_word, expected}
use Rattle.token_core.proofs.Suffixes.{follows_self, follows_word}
use Rattle.token_core.proofs.SeenClasses.{word_refused, word_taken}
use Rattle.token_core.proofs.parse_stream.ParseStream.read_ident.Goals as goal

pub returns-then-not-peek_ident-clause-parses : goal.returns-then-not-peek_ident-clause-parses
unfolding read_word
returns-then-not-peek_ident-clause-parses c =
    let h : sees_word is_ident c.args.self.now.rest ≡ false = search rules in
    (λ k. word_refused is_ident c.args.self.now (expected ident_name c.args.self.now) h ∙ ap Err (sym (c.expected.ensures k)), follows_self _)

pub returns-in-Some-clause-parses : goal.returns-in-Some-clause-parses
unfolding read_word
returns-in-Some-clause-parses c =
    let h : sees_word is_ident c.args.self.now.rest ≡ true = search rules in
    let e : next_word c.args.self.now ≡ Some (c.in-Some.ident.now, c.in-Some.more) = search rules in
    (word_taken is_ident c.args.self.now (expected ident_name c.args.self.now) _ _ h e, follows_word _ _ _ e)
