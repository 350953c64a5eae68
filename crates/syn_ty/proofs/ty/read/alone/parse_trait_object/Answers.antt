use Rattle.std.proofs.Common.{◌≡◌, Err, Ok, ap, length, rules, subst, sym, ◌∙◌, arith}
use Rattle.std.proofs.lemmas.Grind.{common_steps}
use Rattle.token_core.proofs.Suffixes.{follows}
use Rattle.syn_path.proofs.path_laws.Turns.{refused_by}
use Rattle.syn_forms.specs.declared.places.BoundPlace.TheVariants.{Object}
use Rattle.syn_ty.specs.ty.Knot.{bound}
use Rattle.syn_ty.proofs.ty_laws.Steps.{object_refused, object_told}
use Rattle.syn_ty.proofs.ty.read.alone.parse_trait_object.Goals as goal

pub returns-in_err-bounds : goal.returns-in_err-bounds
returns-in_err-bounds g c =
    let e = c.in_err-bounds.field-0.0 in
    let was : c.object_bounds.result ≡ Err e = first_of (search rules, grind (arith, common_steps)) in
    let back : c.from_residual-in_err-bounds.result ≡ Err e = first_of (search rules, grind (arith, common_steps)) in
    let first = subst (λ z. bound g.A.Attributes.reads g.E.Value.reads Object c.parse_optional_dyn.new.input ≡ Ok (z, c.read_bound.new.input)) (sym c.into_inner.ensures) c.in_ok-first.ensures.parses.0 in
    record {
      parses = (
        refused_by _ _ _ _ _ _ e was back c.object_bounds.ensures.parses.0
            (object_refused g.A.Attributes.reads g.E.Value.reads c.args.plus _ c.span-from.result c.args.input.now _ _ _ _ (ap length c.cursor.ensures) c.span-from.ensures c.in_ok-dyn_token.ensures.parses.0 first e),
        grind (arith, follows),
      );
    }

pub returns : goal.returns
returns g c =
    let first = subst (λ z. bound g.A.Attributes.reads g.E.Value.reads Object c.parse_optional_dyn.new.input ≡ Ok (z, c.read_bound.new.input)) (sym c.into_inner.ensures) c.in_ok-first.ensures.parses.0 in
    record {
      parses = (
        object_told g.A.Attributes.reads g.E.Value.reads c.args.plus _ c.span-from.result c.args.input.now _ _ _ _ (ap length c.cursor.ensures) c.span-from.ensures c.in_ok-dyn_token.ensures.parses.0 first _ _ c.in_ok-bounds.ensures.parses.0
            ∙ ap (λ z. Ok (z, c.object_bounds.new.input)) (sym c.bare_trait_object.ensures),
        grind (arith, follows),
      );
    }
