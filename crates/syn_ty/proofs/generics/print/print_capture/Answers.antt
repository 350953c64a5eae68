use Rattle.std.proofs.Common.{rules}
use Rattle.token_core.specs.Trees.{trees}
use Rattle.token_core.specs.Prints.{Extends}
use Rattle.token_core.proofs.Puts.{extends_on}
use Rattle.syn_ty.proofs.generics.print.print_capture.Goals as goal

pub returns-in_err-print_sorted-clause-err : goal.returns-in_err-print_sorted-clause-err
returns-in_err-print_sorted-clause-err c =
    let kept : Extends (trees c.args.out.now) (trees c.print_sorted.new.out) =
    extends_on _ _ _ _ c.in_ok-to_tokens.ensures.ok (extends_on _ _ _ _ c.in_ok-to_tokens-2.ensures.ok c.in_err-print_sorted.ensures.err) in
    search rules
