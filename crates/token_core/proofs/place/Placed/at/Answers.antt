use Rattle.std.proofs.Common.{◌≡◌, sym, ap, ◌∙◌, subst, refl, length, drop, ◌-◌, arith}
use Rattle.token_core.specs.Reads.{IsSuffix}
use Rattle.token_core.specs.Positions.{Placed, items, entries_items}
use Rattle.token_core.proofs.Places.{Ends, suffix_ends, ends_shorter, placed, stands_on}
use Rattle.token_core.proofs.place.Placed.at.Goals as goal

pub overflow_sub-past : goal.overflow_sub-past
overflow_sub-past c =
    let v = ap (λ (p : Placed). p.rest) c.self.view_is in
    let h : Ends (items c.args.place) (items c.self.inside.place) = suffix_ends _ _ (subst (λ z. IsSuffix c.args.place z) (sym v) c.requires) in
    omega (arith, c.len.ensures, c.len-2.ensures, ends_shorter (items c.args.place) (items c.self.inside.place) h)

pub invariant_of-result : goal.invariant_of-result
invariant_of-result c =
    let v = ap (λ (p : Placed). p.rest) c.self.view_is in
    let m = items c.self.inside.place in
    let l = items c.args.place in
    let h : Ends l m = suffix_ends _ _ (subst (λ z. IsSuffix c.args.place z) (sym v) c.requires) in
    let f : c.len.result - c.len-2.result ≡ length m - length l = omega (arith, c.len.ensures, c.len-2.ensures) in
    let a = drop (length m) (entries_items c.self.inside.entries.now) in
    let s = stands_on c.self.inside.entries.now m l a c.args.place a (c.len.result - c.len-2.result) c.self.invariant.0 c.self.invariant.1 h f refl in
    (s.nested, s.is)

pub returns : goal.returns
returns c =
    let v = ap (λ (p : Placed). p.rest) c.self.view_is in
    let m = items c.self.inside.place in
    let l = items c.args.place in
    let h : Ends l m = suffix_ends _ _ (subst (λ z. IsSuffix c.args.place z) (sym v) c.requires) in
    let f : c.len.result - c.len-2.result ≡ length m - length l = omega (arith, c.len.ensures, c.len-2.ensures) in
    let a = drop (length m) (entries_items c.self.inside.entries.now) in
    let s = stands_on c.self.inside.entries.now m l a c.args.place a (c.len.result - c.len-2.result) c.self.invariant.0 c.self.invariant.1 h f refl in
    ap (placed c.args.place) (s.after_is ∙ ap (λ (p : Placed). p.after) c.self.view_is)
