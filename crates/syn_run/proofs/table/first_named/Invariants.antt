use Rattle.std.proofs.Common.{◌≡◌, map, drop}
use Rattle.syn_run.specs.Table.{first_named}
use Rattle.syn_run.proofs.table.first_named.Given as goal

abbrev pub invariant-loop-it : goal.invariant-loop-it
invariant-loop-it l = first_named l.name (map (λ r. (r.0.now, r.1)) l.table) ≡ first_named l.name (map (λ r. (r.0.now, r.1)) (drop l.it-index l.table))
