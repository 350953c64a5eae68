use Rattle.std.proofs.Common.{◌≡◌, ◌-◌, length, ap, arith, length-append, encode_utf8_all}
use Rattle.std.proofs.lemmas.Str.{IsCharBoundary-at_seam}
use Rattle.token_text.proofs.word.up_to.Goals as goal

pub range-requires-clause-end_boundary : goal.range-requires-clause-end_boundary
range-requires-clause-end_boundary c =
    let front = encode_utf8_all c.requires.front in
    let e = c.requires.split in
    let n : length front ≡ length c.args.text.now - length c.args.rest.now = omega (arith, ap length e, length-append front c.args.rest.now) in
    let at = IsCharBoundary-at_seam c.args.text.now front c.args.rest.now e c.utf8.rest in
    rw (← n) at
