use Rattle.std.proofs.Common.{Ok, length, sym, ap, ◌∙◌, arith}
use Rattle.token_core.proofs.Suffixes.{follows_trans}
use Rattle.token_core.specs.Groups as groups
use Rattle.token_core.specs.Reads.{open_group}
use Rattle.token_core.specs.declared.tree.Delimiter.TheVariants.{Parenthesis}
use Rattle.syn_forms.proofs.groups_laws.Inside.{not_opened, read_inside, refused_inside}
use Rattle.syn_forms.specs.nested.Below.{held}
use Rattle.syn_forms.proofs.lists_laws.Turns.{passed_on}
use Rattle.syn_forms.proofs.nested.Nested.paren.Goals as goal

pub returns-in_err-paren_token : goal.returns-in_err-paren_token
returns-in_err-paren_token g c =
    let e = c.in_err-paren_token.field-0.0 in
    record {
      parses = (
        passed_on _ _ _ _ e c.from_residual.ensures c.in_err-paren_token.ensures.parses.0 (λ h. not_opened groups.paren (open_group Parenthesis groups.paren_name) (λ k x. (k, x)) (held g.T.Tree.read (length c.args.self.now.begin) c.args.place) _ e h),
        c.open_parens.ensures.parses.1,
      );
    }

pub boxed-requires-clause-nests : goal.boxed-requires-clause-nests
boxed-requires-clause-nests g c = c.requires.nests

pub boxed-requires-clause-few : goal.boxed-requires-clause-few
boxed-requires-clause-few g c =
    let few = c.requires.few in
    let less = c.in_ok-paren_token.ensures.inside in
    omega (arith, few, less)

pub returns-in_err-tree : goal.returns-in_err-tree
returns-in_err-tree g c =
    let e = c.in_err-tree.field-0.0 in
    record {
      parses = (
        passed_on _ _ _ _ e c.from_residual-in_err-tree.ensures c.in_err-tree.ensures.parses.0 (λ h. refused_inside groups.paren (open_group Parenthesis groups.paren_name) (λ k x. (k, x)) (held g.T.Tree.read (length c.args.self.now.begin) c.args.place) _ _ _ _ e c.in_ok-paren_token.ensures.parses.0 (h)),
        c.open_parens.ensures.parses.1,
      );
    }

pub returns : goal.returns
returns g c =
    record {
      parses = (
        read_inside groups.paren (open_group Parenthesis groups.paren_name) (λ k x. (k, x)) (held g.T.Tree.read (length c.args.self.now.begin) c.args.place) _ _ _ _ _ _ c.in_ok-paren_token.ensures.parses.0 (c.in_ok-tree.ensures.parses.0) ∙ ap (λ z. Ok ((c.in_ok-paren_token.paren_token, c.in_ok-tree.tree), z)) (sym c.finish.ensures.finished),
        follows_trans _ _ _ c.open_parens.ensures.parses.1 c.finish.ensures.within,
      );
    }
