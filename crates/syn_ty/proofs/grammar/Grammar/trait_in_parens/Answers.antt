use Rattle.std.proofs.Common.{Ok, length, sym, ap, ◌∙◌, arith}
use Rattle.token_core.proofs.Suffixes.{follows_trans}
use Rattle.syn_forms.proofs.inputs_laws.Parens.{read_inside, refused_inside}
use Rattle.syn_forms.proofs.lists_laws.Turns.{passed_on}
use Rattle.syn_ty.specs.generics.Reading.{trait_in}
use Rattle.syn_ty.specs.ty.Knot as knot
use Rattle.syn_ty.proofs.grammar.Grammar.trait_in_parens.Goals as goal

pub trait_in-requires-clause-few : goal.trait_in-requires-clause-few
trait_in-requires-clause-few g c =
    let few = c.requires.few in
    let less = c.in_ok-paren_token.ensures.inside in
    omega (arith, few, less)

pub returns-in_err-bound : goal.returns-in_err-bound
returns-in_err-bound g c =
    let e = c.in_err-bound.field-0.0 in
    let r = knot.reads_below g.A.Attributes.reads g.E.Value.reads (length c.args.self.now.begin) in
    let content = trait_in r c.args.consts in
    record { parses = (passed_on _ _ _ _ e c.from_residual-in_err-bound.ensures c.in_err-bound.ensures.parses.0 (λ h. refused_inside content c.args.input.now c.open_parens.new.input c.in_ok-paren_token.content c.in_ok-paren_token.paren_token e c.in_ok-paren_token.ensures.parses.0 h), c.open_parens.ensures.parses.1) }

pub returns : goal.returns
returns g c =
    let r = knot.reads_below g.A.Attributes.reads g.E.Value.reads (length c.args.self.now.begin) in
    let content = trait_in r c.args.consts in
    record { parses = (read_inside content c.args.input.now c.open_parens.new.input c.in_ok-paren_token.content c.trait_in.new.input c.in_ok-paren_token.paren_token c.in_ok-bound.bound c.in_ok-paren_token.ensures.parses.0 c.in_ok-bound.ensures.parses.0 ∙ ap (λ z. Ok ((c.in_ok-paren_token.paren_token, c.in_ok-bound.bound), z)) (sym c.finish.ensures.finished), follows_trans _ _ _ c.open_parens.ensures.parses.1 c.finish.ensures.within) }
