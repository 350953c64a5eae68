use Rattle.std.proofs.Common.{rules, ◌≡◌, true, false, ◌++◌, ◌∙◌, sym, ap}
use Rattle.std.proofs.lemmas.Result.{on_ok_weaker, on_err_weaker}
use Rattle.token_core.specs.Trees.{trees}
use Rattle.token_core.proofs.Puts.{puts, extends_append, extends_on, err_on}
use Rattle.syn_attr.specs.attr.Printing.{is_outer, if_outer, outer_by, meta, value}
use Rattle.syn_attr.specs.laws.Prints.{prints_other, prints_literal, prints_expr_path, prints_const, prints_macro, prints_block}
use Rattle.syn_attr.proofs.attr_laws.Prints.{put_attribute, put_outer, pass_inner, put_name_value, put_node, put_started, put_unstarted, put_end, err_kept}
use Rattle.syn_attr.proofs.+print.Goals.{attr::print::print_outer-then-is_outer+in_ok-print_meta+in_ok-print_around, attr::print::print_outer-else-is_outer}
use Rattle.syn_attr.proofs.+print.Goals as goal

pub attr::print::print_name_value-returns : goal.attr::print::print_name_value-returns
attr::print::print_name_value-returns g m c =
    record { appends = (on_ok_weaker c.print_value.result (λ h. put_name_value g.X.Subtree.prints c.args.meta.now _ _ _ _ c.in_ok-print_mod_path.ensures.appends.0 c.in_ok-to_tokens.ensures.ok h) c.print_value.ensures.appends.0, on_err_weaker c.print_value.result (λ h. extends_on _ _ _ _ c.in_ok-print_mod_path.ensures.appends.0 (extends_on _ _ _ _ c.in_ok-to_tokens.ensures.ok h)) c.print_value.ensures.appends.1) }

pub expr::print::print_value-returns-in_ok-print_outer-in-Lit : goal.expr::print::print_value-returns-in_ok-print_outer-in-Lit
expr::print::print_value-returns-in_ok-print_outer-in-Lit g t c =
    let px = g.X.Subtree.prints in
    record {
      appends = (
        on_ok_weaker c.to_tokens.result
            (λ h. put_node px c.args.value.now _ _ _ _ _ (ap (value px) c.in-Lit.is ∙ prints_literal px c.in-Lit.expr) c.in_ok-print_outer-in-Lit.ensures.appends.0 h) c.to_tokens.ensures.ok,
        err_on _ _ _ _ _ c.in_ok-print_outer-in-Lit.ensures.appends.0 (err_kept _ _ _ c.to_tokens.ensures.err),
      );
    }

pub expr::print::print_value-returns-in_ok-print_outer-in-Path : goal.expr::print::print_value-returns-in_ok-print_outer-in-Path
expr::print::print_value-returns-in_ok-print_outer-in-Path g t c =
    let px = g.X.Subtree.prints in
    record {
      appends = (
        on_ok_weaker c.print_mod_path.result
            (λ h. put_node px c.args.value.now _ _ _ _ _ (ap (value px) c.in-Path.is ∙ prints_expr_path px c.in-Path.expr) c.in_ok-print_outer-in-Path.ensures.appends.0 h) c.print_mod_path.ensures.appends.0,
        search (rules, puts),
      );
    }

pub expr::print::print_value-returns-in_ok-print_outer-in-Const : goal.expr::print::print_value-returns-in_ok-print_outer-in-Const
expr::print::print_value-returns-in_ok-print_outer-in-Const g t c =
    let px = g.X.Subtree.prints in
    record {
      appends = (
        on_ok_weaker c.print_const_block.result
            (λ h. put_node px c.args.value.now _ _ _ _ _ (ap (value px) c.in-Const.is ∙ prints_const px c.in-Const.expr) c.in_ok-print_outer-in-Const.ensures.appends.0 h) c.print_const_block.ensures.appends.0,
        search (rules, puts),
      );
    }

pub expr::print::print_value-returns-in_ok-print_outer-in-Macro : goal.expr::print::print_value-returns-in_ok-print_outer-in-Macro
expr::print::print_value-returns-in_ok-print_outer-in-Macro g t c =
    let px = g.X.Subtree.prints in
    record {
      appends = (
        on_ok_weaker c.to_tokens-in-Macro.result
            (λ h. put_node px c.args.value.now _ _ _ _ _ (ap (value px) c.in-Macro.is ∙ prints_macro px c.in-Macro.expr) c.in_ok-print_outer-in-Macro.ensures.appends.0 h) c.to_tokens-in-Macro.ensures.ok,
        err_on _ _ _ _ _ c.in_ok-print_outer-in-Macro.ensures.appends.0 (err_kept _ _ _ c.to_tokens-in-Macro.ensures.err),
      );
    }

pub expr::print::print_value-returns-in_ok-print_outer-in-Block : goal.expr::print::print_value-returns-in_ok-print_outer-in-Block
expr::print::print_value-returns-in_ok-print_outer-in-Block g t c =
    let px = g.X.Subtree.prints in
    record {
      appends = (
        on_ok_weaker c.print_body.result
            (λ h. put_node px c.args.value.now _ _ _ _ _ (ap (value px) c.in-Block.is ∙ prints_block px c.in-Block.expr) c.in_ok-print_outer-in-Block.ensures.appends.0 h) c.print_body.ensures.appends.0,
        search (rules, puts),
      );
    }

pub expr::print::print_value-returns-in-Other : goal.expr::print::print_value-returns-in-Other
expr::print::print_value-returns-in-Other g t c =
    let px = g.X.Subtree.prints in
    record { appends = (on_ok_weaker c.print.result (λ h. h ∙ ap (λ z. trees c.args.out.now ++ z) (sym (ap (value px) c.in-Other.is ∙ prints_other px c.in-Other.tree))) c.print.ensures.ok, err_kept _ _ _ c.print.ensures.err) }

pub expr::print::print_range_end-returns-in-Some : goal.expr::print::print_range_end-returns-in-Some
expr::print::print_range_end-returns-in-Some g t c =
    let px = g.X.Subtree.prints in
    record {
      appends = (
        on_ok_weaker c.print_value.result
            (λ h. put_end px c.args.expr.now c.in-Some.end _ _ _ c.in-Some.is c.in_ok-to_tokens.ensures.ok (h ∙ ap (λ z. trees c.to_tokens.new.out ++ value px z) c.get.ensures)) c.print_value.ensures.appends.0,
        err_on _ _ _ _ _ c.in_ok-to_tokens.ensures.ok c.print_value.ensures.appends.1,
      );
    }

pub expr::print::print_range-returns-in_ok-print_value-in-Some : goal.expr::print::print_range-returns-in_ok-print_value-in-Some
expr::print::print_range-returns-in_ok-print_value-in-Some g t c =
    let px = g.X.Subtree.prints in
    record {
      appends = (
        on_ok_weaker c.print_range_end.result
            (λ h. put_started px c.args.expr.now c.in-Some.start _ _ _ _ c.in-Some.is c.in_ok-print_outer.ensures.appends.0 (c.in_ok-print_value-in-Some.ensures.appends.0 ∙ ap (λ z. trees c.print_outer.new.out ++ value px z) c.get.ensures) h) c.print_range_end.ensures.appends.0,
        err_on _ _ _ _ _ c.in_ok-print_outer.ensures.appends.0 (err_on _ _ _ _ _ c.in_ok-print_value-in-Some.ensures.appends.0 c.print_range_end.ensures.appends.1),
      );
    }

pub expr::print::print_range-returns-in-None : goal.expr::print::print_range-returns-in-None
expr::print::print_range-returns-in-None g t c =
    record { appends = (on_ok_weaker c.print_range_end-in-None.result (λ h. put_unstarted g.X.Subtree.prints c.args.expr.now _ _ _ c.in-None.is c.in_ok-print_outer.ensures.appends.0 h) c.print_range_end-in-None.ensures.appends.0, search (rules, puts)) }

pub attr::print::print_outer-loop-attr-preserved : goal.attr::print::print_outer-loop-attr-preserved
attr::print::print_outer-loop-attr-preserved g t c =
    let px = g.X.Subtree.prints in
    let x = c.attr-item.result in
    let old = trees c.args.out.now in
    let mid = trees c.loop-attr.out in
    let all = c.as_slice-attr-items.result.now in
    let put : trees c.if-is_outer.out ≡ mid ++ if_outer (meta px) x = elim c.if-is_outer.branch [
      | attr::print::print_outer-then-is_outer+in_ok-print_meta+in_ok-print_around w ↦
          (let b : is_outer x.style ≡ true = search rules in
          let content : trees w.print_meta.new.out ≡ meta px x.meta = search rules in
          ap trees w.out-is ∙ put_outer (meta px) x w.print_meta.new.out mid _ b content w.in_ok-print_around.ensures.appends.0)
      | attr::print::print_outer-else-is_outer w ↦
          (let b : is_outer x.style ≡ false = search rules in
          ap trees w.out-is ∙ pass_inner (meta px) x mid b)
    ] in
    record {
      told = put_attribute (meta px) all c.loop-attr.attr-index x old mid _ (outer_by (meta px) all) c.loop-attr-test.true c.attr-item.is c.loop-attr.invariant.told put;
      kept = rw put (extends_append old mid _ c.loop-attr.invariant.kept);
    }
