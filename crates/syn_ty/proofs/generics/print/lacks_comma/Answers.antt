use Rattle.std.proofs.Common.{◌≡◌, ◌<◌, ◌&&◌, [], false, Some, option_map, length, sym, ap, ◌∙◌, arith}
use Rattle.token_core.specs.Lists.{last, pairs}
use Rattle.syn_ty.specs.generics.Members.{some_left, those}
use Rattle.syn_ty.specs.ty.Types.{Comma}
use Rattle.syn_ty.proofs.generics_laws.Sorted.{adds_last}
use Rattle.syn_ty.proofs.generics.print.lacks_comma.Goals as goal

pub returns-then-is_lifetime : goal.returns-then-is_lifetime
returns-then-is_lifetime g c =
    let first = g.M.Member.first in
    let v = c.args.list.now in
    let more : length v.1 < length v.0 = omega (arith, c.if-values-marks.false, ap length c.values.ensures, ap length c.marks.ensures.marks) in
    let ends : last v.0 ≡ Some c.in-Some.member.now = sym c.last.ensures ∙ ap (option_map (λ x. x.now)) c.in-Some.is in
    c.has_other.ensures ∙ ap (λ z. some_left (those first false (pairs {P = Comma} z []))) c.values-then-is_lifetime.ensures
    ∙ ap (λ z. z && some_left (those first false (pairs {P = Comma} v.0 []))) (sym c.if-is_lifetime.true ∙ c.is_lifetime.ensures)
    ∙ sym (adds_last first v c.in-Some.member.now more ends)

pub returns-else-is_lifetime : goal.returns-else-is_lifetime
returns-else-is_lifetime g c =
    let first = g.M.Member.first in
    let v = c.args.list.now in
    let more : length v.1 < length v.0 = omega (arith, c.if-values-marks.false, ap length c.values.ensures, ap length c.marks.ensures.marks) in
    let ends : last v.0 ≡ Some c.in-Some.member.now = sym c.last.ensures ∙ ap (option_map (λ x. x.now)) c.in-Some.is in
    c.if-is_lifetime.false ∙ ap (λ z. z && some_left (those first false (pairs {P = Comma} v.0 []))) (sym c.if-is_lifetime.false ∙ c.is_lifetime.ensures)
    ∙ sym (adds_last first v c.in-Some.member.now more ends)
