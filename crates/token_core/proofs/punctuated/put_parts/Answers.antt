use Rattle.std.proofs.Common.{◌≡◌, ◌<◌, length, get_or, ap, ◌∙◌, arith}
use Rattle.token_core.specs.Trees.{trees}
use Rattle.token_core.proofs.Parted.{put_next}
use Rattle.token_core.proofs.Puts.{puts}
use Rattle.token_core.proofs.punctuated.put_parts.Goals as goal

pub loop-i-preserved : goal.loop-i-preserved
loop-i-preserved g c =
    let values = c.args.list.now.0 in
    let h : c.loop-i.i < length values = omega (arith, c.loop-i-test.true, ap length c.values-value-items.ensures) in
    let e : c.value-item.result ≡ get_or values c.loop-i.i c.value-item.result = c.value-item.is ∙ ap (λ l. get_or l c.loop-i.i c.value-item.result) c.values-value-items.ensures in
    record {
      told = put_next g.T.ToTokens.print g.P.ToTokens.print values c.args.list.now.1 c.loop-i.i c.value-item.result c.mark.result _ (trees c.append_tokens.new.out) _ _
          h e c.mark.ensures c.loop-i.invariant.told c.in_ok-append_tokens.ensures.ok c.in_ok-append_tokens-2.ensures.ok;
      kept = grind (arith, puts);
    }
