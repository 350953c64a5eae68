use Rattle.std.proofs.Common.{◌≡◌, ◌++◌, [], ◌∷◌, false, if◌then◌else◌, take, sym, ap, ◌∙◌, arith}
use Rattle.token_core.specs.Looks.{Looks, is_noted, noted}
use Rattle.token_core.proofs.Choices.{take_set, known_more, has_place}
use Rattle.token_core.proofs.lookahead.Lookahead.note_number.Goals as goal

pub bounds-self-inside-self-inside : goal.bounds-self-inside-self-inside
bounds-self-inside-self-inside c =
    let s = c.self.inside in
    let new : is_noted (take s.count s.missing) c.args.number ≡ false = cc in
    has_place s.missing s.count c.args.number (omega (arith, c.self.told, c.self.invariant.0)) c.self.invariant.1 c.requires.known new

pub invariant_of-self : goal.invariant_of-self
invariant_of-self c =
    let s = c.self.inside in
    let new : is_noted (take s.count s.missing) c.args.number ≡ false = cc in
    let place = has_place s.missing s.count c.args.number (omega (arith, c.self.told, c.self.invariant.0)) c.self.invariant.1 c.requires.known new in
    let noted = known_more (take s.count s.missing) c.args.number c.self.invariant.1 c.requires.known new in
    (omega (arith, place), rw (take_set s.missing s.count c.args.number (omega (arith, place, c.self.told))) noted)

pub returns-then-not-contains-clause-missing : goal.returns-then-not-contains-clause-missing
returns-then-not-contains-clause-missing c =
    let s = c.self.inside in
    let new : is_noted (take s.count s.missing) c.args.number ≡ false = cc in
    let place = has_place s.missing s.count c.args.number (omega (arith, c.self.told, c.self.invariant.0)) c.self.invariant.1 c.requires.known new in
    take_set s.missing s.count c.args.number (omega (arith, place, c.self.told))
    ∙ ap (λ b. if b then take s.count s.missing else take s.count s.missing ++ c.args.number ∷ []) (sym new)
    ∙ ap (λ (l : Looks). noted l.missing c.args.number) c.self.view_is
