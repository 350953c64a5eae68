use Rattle.std.proofs.Common.{sym, ap, ◌∙◌}
use Rattle.std.specs.List.{slice_get}
use Rattle.token_text.proofs.Blanks.{blank_cut, blank_found, no_blank, nothing_there}
use Rattle.token_text.proofs.word.after_blank.Goals as goal

pub returns-in_err-first-clause-blank : goal.returns-in_err-first-clause-blank
returns-in_err-first-clause-blank c =
    let none = ap (λ t. slice_get t 0) (sym c.as_bytes.ensures.value) ∙ sym c.in_err-first.ensures.value in
    rw c.from_residual.ensures (nothing_there c.args.text.now none)

pub range_from-requires : goal.range_from-requires
range_from-requires c =
    let first = ap (λ t. slice_get t 0) (sym c.as_bytes.ensures.value) ∙ sym c.in_ok-first.ensures.value in
    λ _. blank_cut c.args.text.now c.in_ok-first.first.now c.utf8.text first (sym c.is_blank.ensures ∙ c.if-is_blank.true)

pub returns-then-is_blank-clause-blank : goal.returns-then-is_blank-clause-blank
returns-then-is_blank-clause-blank c =
    let first = ap (λ t. slice_get t 0) (sym c.as_bytes.ensures.value) ∙ sym c.in_ok-first.ensures.value in
    blank_found c.args.text.now c.in_ok-first.first.now c.utf8.text first (sym c.is_blank.ensures ∙ c.if-is_blank.true) c.range_from.result.now c.range_from.ensures.value

pub returns-else-is_blank-clause-blank : goal.returns-else-is_blank-clause-blank
returns-else-is_blank-clause-blank c =
    let first = ap (λ t. slice_get t 0) (sym c.as_bytes.ensures.value) ∙ sym c.in_ok-first.ensures.value in
    no_blank c.args.text.now c.in_ok-first.first.now c.utf8.text first (sym c.is_blank.ensures ∙ c.if-is_blank.false)
