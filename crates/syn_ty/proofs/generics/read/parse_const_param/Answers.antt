use Rattle.std.proofs.Common.{refl, sym, ap, length, arith, ◌∙◌}
use Rattle.token_core.proofs.Suffixes.{follows_trans}
use Rattle.token_core.proofs.Steps.{link}
use Rattle.syn_forms.proofs.lists_laws.Turns.{passed_on, stopped}
use Rattle.syn_forms.proofs.nested_laws.Ahead.{ahead_follows}
use Rattle.syn_forms.specs.declared.places.TypePlace.TheVariants.{Plus}
use Rattle.syn_forms.specs.params.Reading.{const_parts}
use Rattle.syn_ty.specs.generics.Reading.{const_param}
use Rattle.syn_ty.specs.ty.Knot as knot
use Rattle.syn_ty.specs.ty.Points.{a_type}
use Rattle.syn_ty.proofs.generics.read.parse_const_param.Goals as goal

pub returns-in_err-attrs : goal.returns-in_err-attrs
unfolding knot.const_param const_param
returns-in_err-attrs g c =
    let e = c.in_err-attrs.field-0.0 in
    record { parses = (passed_on _ _ _ _ e c.from_residual.ensures c.in_err-attrs.ensures.reads (λ h. stopped _ e h), c.read_outer.ensures.within) }

pub parse_const_parts-requires : goal.parse_const_parts-requires
parse_const_parts-requires g c =
    let few = ap length c.cursor-begin.ensures in
    let le = ahead_follows _ _ c.read_outer.ensures.within in
    record { few = omega (arith, few, le) }

pub returns-in_err-const_token : goal.returns-in_err-const_token
unfolding knot.const_param const_param
returns-in_err-const_token g c =
    let at = ap (λ n. const_parts (knot.reads_below g.A.Attributes.reads g.E.Value.reads n (a_type Plus)) g.E.Value.reads.const_argument c.read_outer.new.input) (ap length c.cursor-begin.ensures) in
    let e = c.in_err-const_token.field-0.0 in
    record { parses = (passed_on _ _ _ _ e c.from_residual-in_err-const_token.ensures c.in_err-const_token.ensures.parses.0 (λ h. link _ c.in_ok-attrs.ensures.reads (stopped _ e (sym at ∙ h))), follows_trans _ _ _ c.read_outer.ensures.within c.parse_const_parts.ensures.parses.1) }

pub returns : goal.returns
unfolding knot.const_param const_param
returns g c =
    let at = ap (λ n. const_parts (knot.reads_below g.A.Attributes.reads g.E.Value.reads n (a_type Plus)) g.E.Value.reads.const_argument c.read_outer.new.input) (ap length c.cursor-begin.ensures) in
    record { parses = (link _ c.in_ok-attrs.ensures.reads (link _ (sym at ∙ c.in_ok-const_token.ensures.parses.0) refl), follows_trans _ _ _ c.read_outer.ensures.within c.parse_const_parts.ensures.parses.1) }
