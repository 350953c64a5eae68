use Rattle.std.proofs.Common.{◌≡◌, ap, ◌∙◌, append_assoc, length, drop, ◌+◌, ◌-◌, ◌∷◌, ◌++◌, arith}
use Rattle.std.proofs.lemmas.List.{length-append}
use Rattle.token_core.specs.Positions.{Placed, items, an_end, entries_items}
use Rattle.token_core.proofs.Places.{Ends, placed, stands_on}
use Rattle.token_core.proofs.place.Placed.inside.Goals as goal

pub invariant_of-result : goal.invariant_of-result
invariant_of-result c =
    let v = ap (λ (p : Placed). p.rest) c.self.view_is in
    let m = items c.self.inside.place in
    let x = items c.args.content in
    let k = items c.args.more.now in
    let l = x ++ an_end ∷ k in
    let h : Ends l m = record { before = c.requires.before; is = ap items v ∙ c.requires.is } in
    let n = c.len.result - (c.len-2.result + 1 + c.len-3.result) in
    let f : n ≡ length m - length l = omega (arith, c.len.ensures, c.len-2.ensures, c.len-3.ensures, length-append x (an_end ∷ k)) in
    let a = drop (length m) (entries_items c.self.inside.entries.now) in
    let s = stands_on c.self.inside.entries.now m l a c.args.content (an_end ∷ (k ++ a)) n c.self.invariant.0 c.self.invariant.1 h f (append_assoc x (an_end ∷ k) a) in
    (s.nested, s.is)

pub returns : goal.returns
returns c =
    let v = ap (λ (p : Placed). p.rest) c.self.view_is in
    let m = items c.self.inside.place in
    let x = items c.args.content in
    let k = items c.args.more.now in
    let l = x ++ an_end ∷ k in
    let h : Ends l m = record { before = c.requires.before; is = ap items v ∙ c.requires.is } in
    let n = c.len.result - (c.len-2.result + 1 + c.len-3.result) in
    let f : n ≡ length m - length l = omega (arith, c.len.ensures, c.len-2.ensures, c.len-3.ensures, length-append x (an_end ∷ k)) in
    let a = drop (length m) (entries_items c.self.inside.entries.now) in
    let s = stands_on c.self.inside.entries.now m l a c.args.content (an_end ∷ (k ++ a)) n c.self.invariant.0 c.self.invariant.1 h f (append_assoc x (an_end ∷ k) a) in
    ap (placed c.args.content) (s.after_is ∙ ap (λ (p : Placed). an_end ∷ (k ++ p.after)) c.self.view_is)
