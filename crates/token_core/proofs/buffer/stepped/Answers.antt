use Rattle.std.proofs.Common.{◌≡◌, [], refl, arith}
use Rattle.std.proofs.Math.ListN.{drop_of_length-le}
use Rattle.token_core.proofs.buffer.stepped.Goals as goal

pub returns-then-entries-eq0 : goal.returns-then-entries-eq0
returns-then-entries-eq0 c =
    let none : c.args.entries.now ≡ [] = drop_of_length-le c.args.entries.now {i = 0} (omega arith) in
    rw none (record { class = refl; more = refl })
