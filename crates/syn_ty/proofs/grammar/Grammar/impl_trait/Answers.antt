use Rattle.std.proofs.Common.{Ok, length, sym, ap, ◌∙◌, arith}
use Rattle.token_core.proofs.Suffixes.{follows_trans}
use Rattle.syn_forms.proofs.lists_laws.Turns.{passed_on, stopped}
use Rattle.syn_forms.proofs.nested_laws.Ahead.{ahead_follows}
use Rattle.syn_ty.proofs.ty_laws.Steps.{impl_refused, impl_told}
use Rattle.syn_ty.specs.ty.Reading.{impl_trait}
use Rattle.syn_ty.specs.ty.Knot as knot
use Rattle.syn_ty.proofs.grammar.Grammar.impl_trait.Goals as goal

pub returns-in_err-impl_token-clause-parses : goal.returns-in_err-impl_token-clause-parses
unfolding impl_trait
returns-in_err-impl_token-clause-parses g c =
    let e = c.in_err-impl_token.field-0.0 in
    (passed_on _ _ _ _ e c.from_residual.ensures c.in_err-impl_token.ensures.parses.0 (λ h. stopped _ e h), c.parse_impl.ensures.parses.1)

pub returns-in_err-impl_token-clause-fewer : goal.returns-in_err-impl_token-clause-fewer
returns-in_err-impl_token-clause-fewer g c = ahead_follows _ _ c.parse_impl.ensures.parses.1

pub impl_bounds-requires-clause-few : goal.impl_bounds-requires-clause-few
impl_bounds-requires-clause-few g c =
    let few = c.requires.few in
    let less = c.in_ok-impl_token.ensures.taken in
    omega (arith, few, less)

pub returns-in_err-bounds-clause-parses : goal.returns-in_err-bounds-clause-parses
returns-in_err-bounds-clause-parses g c =
    let e = c.in_err-bounds.field-0.0 in
    let r = knot.reads_below g.A.Attributes.reads g.E.Value.reads (length c.args.self.now.begin) in
    (passed_on _ _ _ _ e c.from_residual-in_err-bounds.ensures c.in_err-bounds.ensures.parses.0 (λ h. impl_refused r c.args.plus c.span-from.result c.args.input.now _ _ c.span-from.ensures c.in_ok-impl_token.ensures.parses.0 e h), follows_trans _ _ _ c.parse_impl.ensures.parses.1 c.impl_bounds.ensures.parses.1)

pub returns-in_err-bounds-clause-fewer : goal.returns-in_err-bounds-clause-fewer
returns-in_err-bounds-clause-fewer g c = ahead_follows _ _ (follows_trans _ _ _ c.parse_impl.ensures.parses.1 c.impl_bounds.ensures.parses.1)

pub returns-clause-parses : goal.returns-clause-parses
returns-clause-parses g c =
    let r = knot.reads_below g.A.Attributes.reads g.E.Value.reads (length c.args.self.now.begin) in
    (impl_told r c.args.plus c.span-from.result c.args.input.now _ _ c.span-from.ensures c.in_ok-impl_token.ensures.parses.0 _ _ c.in_ok-bounds.ensures.parses.0 ∙ ap (λ z. Ok (z, c.impl_bounds.new.input)) (sym c.bare_impl_trait.ensures), follows_trans _ _ _ c.parse_impl.ensures.parses.1 c.impl_bounds.ensures.parses.1)

pub returns-clause-fewer : goal.returns-clause-fewer
returns-clause-fewer g c = ahead_follows _ _ (follows_trans _ _ _ c.parse_impl.ensures.parses.1 c.impl_bounds.ensures.parses.1)
