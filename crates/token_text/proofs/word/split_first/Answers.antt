use Rattle.std.proofs.Common.{◌≡◌, ◌++◌, length, sym, ap, ◌∙◌, arith, length-append, chars, encode_utf8}
use Rattle.std.proofs.lemmas.Str.{chars_past_char, chars-nil}
use Rattle.std.proofs.lemmas.List.{nil_from_length}
use Rattle.token_text.proofs.Words.{encode_utf8_nonempty}
use Rattle.token_text.proofs.Pasts.{past_first}
use Rattle.token_text.proofs.word.split_first.Goals as goal

pub returns-in-Some : goal.returns-in-Some
returns-in-Some c =
    let first = c.in-Some.c in
    let rest = c.as_str.result.now in
    let e : c.args.text.now ≡ encode_utf8 first ++ rest =
    sym c.chars-chars.ensures.rest ∙ c.in-Some.ensures.steps.0 ∙ ap (λ t. encode_utf8 first ++ t) (sym c.as_str.ensures) in
    let all = chars_past_char _ rest first c.utf8.text e in (
      all,
      e,
      omega (arith, ap length e, length-append (encode_utf8 first) rest, encode_utf8_nonempty first),
      past_first c.args.text.now rest first all e,
    )

pub returns-in-None : goal.returns-in-None
returns-in-None c =
    let none = sym c.chars-chars.ensures.rest ∙ nil_from_length _ c.in-None.ensures.steps.0.0 in
    (ap chars none ∙ chars-nil, none)
