use Rattle.std.proofs.Common.{rules}
use Rattle.std.proofs.lemmas.Result.{on_err_weaker}
use Rattle.token_core.specs.Prints.{Extends}
use Rattle.token_core.specs.Trees.{trees}
use Rattle.token_core.proofs.Puts.{extends_on}
use Rattle.syn_ty.proofs.ty_laws.Pieces.{still}
use Rattle.syn_generics.proofs.generics.print.print_predicate_type.Goals as goal

pub returns-in_err-print_binder-clause-err : goal.returns-in_err-print_binder-clause-err
returns-in_err-print_binder-clause-err g c =
    let kept : Extends (trees c.args.out.now) (trees c.print_binder.new.out) = extends_on _ _ _ _ c.in_ok-print_outer.ensures.ok c.in_err-print_binder.ensures.err in
    search rules

pub returns-in_err-print_type-clause-err : goal.returns-in_err-print_type-clause-err
returns-in_err-print_type-clause-err g c =
    let kept : Extends (trees c.args.out.now) (trees c.print_type.new.out) = extends_on _ _ _ _ c.in_ok-print_outer.ensures.ok (extends_on _ _ _ _ c.in_ok-print_binder.ensures.ok c.in_err-print_type.ensures.err) in
    search rules

pub returns-in_err-to_tokens-clause-err : goal.returns-in_err-to_tokens-clause-err
returns-in_err-to_tokens-clause-err g c =
    let kept : Extends (trees c.args.out.now) (trees c.to_tokens.new.out) = extends_on _ _ _ _ c.in_ok-print_outer.ensures.ok (extends_on _ _ _ _ c.in_ok-print_binder.ensures.ok (extends_on _ _ _ _ c.in_ok-print_type.ensures.ok (still _ _ c.in_err-to_tokens.ensures.err))) in
    search rules

pub returns-clause-err : goal.returns-clause-err
returns-clause-err g c = on_err_weaker c.to_tokens-2.result (λ h. extends_on _ _ _ _ c.in_ok-print_outer.ensures.ok (extends_on _ _ _ _ c.in_ok-print_binder.ensures.ok (extends_on _ _ _ _ c.in_ok-print_type.ensures.ok (extends_on _ _ _ _ c.in_ok-to_tokens.ensures.ok (still _ _ h))))) c.to_tokens-2.ensures.err
