use Rattle.std.proofs.Common.{arith, ◌≡◌, ◌<◌, length, ap, ◌∙◌}
use Rattle.syn_run.proofs.channel.PlainSource.read_all.Goals as goal
use Rattle.syn_run.proofs.channel.PlainSource.read_all.Goals.{in-Ok+in_ok-extend_from_slice-in-Ok, in-Err+else-ne}
use Rattle.syn_run.proofs.Consumed.{consumes-more, consumes-keeps, consumes-last}

pub returns-in-Ok-eq0-clause-ok : goal.returns-in-Ok-eq0-clause-ok
returns-in-Ok-eq0-clause-ok g c =
    let h = c.in-Ok-eq0.ensures.bytes in
    let room : 0 < length c.read.new.buf = omega (arith, c.read.auto.buf, c.loop.invariant.room) in
    consumes-last _ _ _ c.loop.bytes.items c.in-Ok-eq0.field-0 c.read.new.buf c.in-Ok-eq0.field-0-test c.loop.invariant.taken h.0 (h.1 c.in-Ok-eq0.field-0-test room)

pub loop-preserved : goal.loop-preserved
loop-preserved g c =
    let room : length c.read.new.buf ≡ 4096 = omega (arith, c.read.auto.buf, c.loop.invariant.room) in
    elim c.match-read.branch [
      | in-Ok+in_ok-extend_from_slice-in-Ok w ↦
          let e = ap (λ v. v.items) w.bytes-is ∙ w.in_ok-extend_from_slice-in-Ok.ensures.items in
          record { taken = rw e (consumes-more _ _ _ c.loop.bytes.items _ c.loop.invariant.taken w.in-Ok.ensures.bytes.0); room = room }
      | in-Err+else-ne w ↦
          let e = ap (λ v. v.items) w.bytes-is in
          record { taken = rw e (consumes-keeps _ _ _ c.loop.bytes.items c.loop.invariant.taken w.in-Err.ensures.bytes); room = room }
    ]
