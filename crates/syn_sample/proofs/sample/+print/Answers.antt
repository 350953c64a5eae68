use Rattle.std.proofs.Common.{◌≡◌, suc, ◌+◌, ◌*◌, ◌<◌, length, get_or, ap, ◌∙◌, arith}
use Rattle.token_core.specs.Prints as p
use Rattle.token_core.specs.Trees.{trees}
use Rattle.token_core.proofs.Parted.{put_next}
use Rattle.token_core.proofs.Puts.{puts}
use Rattle.syn_sample.specs.sample.Printing.{atom}
use Rattle.syn_sample.proofs.Weights.{weight, weights, group-weight, at_place}
use Rattle.syn_sample.proofs.sample.+print.Goals as goal

pub print_atom-print_atoms-requires : goal.print_atom-print_atoms-requires
print_atom-print_atoms-requires t c =
    let is : 2 * weight c.args.atom.now ≡ t = c.decreases in
    let w : weight c.args.atom.now ≡ suc (weights c.in-Group.atoms.0) = ap weight c.in-Group.is ∙ group-weight c.in-Group.paren_token c.in-Group.atoms in
    let less : 2 * weights c.in-Group.atoms.0 + 1 < t = omega (arith, is, w) in
    (less, tt)

pub print_atoms-print_atom-requires : goal.print_atoms-print_atom-requires
print_atoms-print_atom-requires t c =
    let is : 2 * weights c.args.atoms.now.0 + 1 ≡ t = c.decreases in
    let values = c.args.atoms.now.0 in
    let h : c.loop-i.i < length values = omega (arith, c.loop-i-test.true, ap length c.values-atom-items.ensures) in
    let e : c.atom-item.result ≡ get_or values c.loop-i.i c.atom-item.result = c.atom-item.is ∙ ap (λ l. get_or l c.loop-i.i c.atom-item.result) c.values-atom-items.ensures in
    let one = at_place values c.loop-i.i c.atom-item.result h e in
    let less : 2 * weight c.atom-item.result < t = omega (arith, is, one) in
    (less, tt)

pub print_atoms-loop-i-preserved : goal.print_atoms-loop-i-preserved
print_atoms-loop-i-preserved t c =
    let values = c.args.atoms.now.0 in
    let h : c.loop-i.i < length values = omega (arith, c.loop-i-test.true, ap length c.values-atom-items.ensures) in
    let e : c.atom-item.result ≡ get_or values c.loop-i.i c.atom-item.result = c.atom-item.is ∙ ap (λ l. get_or l c.loop-i.i c.atom-item.result) c.values-atom-items.ensures in
    record {
      told = put_next atom p.mark values c.args.atoms.now.1 c.loop-i.i c.atom-item.result c.mark.result _ (trees c.print_atom.new.out) _ _
          h e c.mark.ensures c.loop-i.invariant.told c.in_ok-print_atom.ensures.ok c.in_ok-append_tokens.ensures.ok;
      kept = grind (arith, puts);
    }
