use Rattle.std.proofs.Common.{◌≡◌, ◌++◌, length, sym, ap, ◌∙◌, arith, length-append, chars, encode_utf8}
use Rattle.std.proofs.lemmas.Str.{chars_past_char, chars-nil, length-encode, len_utf8_bounds}
use Rattle.std.proofs.lemmas.List.{nil_from_length}
use Rattle.kulojenta_lines.proofs.json.split_first.Goals as goal

pub returns-in-Some : goal.returns-in-Some
returns-in-Some c =
    let first = c.in-Some.c in
    let rest = c.as_str.result.now in
    let e : c.args.text.now ≡ encode_utf8 first ++ rest =
    sym c.chars-chars.ensures.rest ∙ c.in-Some.ensures.steps.0 ∙ ap (λ t. encode_utf8 first ++ t) (sym c.as_str.ensures) in
    let bounds = len_utf8_bounds first in (
      chars_past_char _ rest first c.utf8.text e,
      omega (arith, ap length e, length-append (encode_utf8 first) rest, length-encode first),
    )

pub returns-in-None : goal.returns-in-None
returns-in-None c =
    let none = sym c.chars-chars.ensures.rest ∙ nil_from_length _ c.in-None.ensures.steps.0.0 in
    (ap chars none ∙ chars-nil, none)
