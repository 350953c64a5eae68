use Rattle.std.proofs.Common.{Ok, None, sym, ap}
use Rattle.token_core.proofs.Steps.{link}
use Rattle.syn_forms.proofs.lists_laws.Turns.{passed_on, stopped, told_by}
use Rattle.syn_ty.specs.declared.generics.GenericParamOf.TheVariants as params
use Rattle.syn_ty.specs.generics.Params.{type_param_of}
use Rattle.syn_ty.proofs.generics.read.underscore_after.Goals as goal

pub returns-in_err-ident : goal.returns-in_err-ident
returns-in_err-ident g c =
    let e = c.in_err-ident.field-0.0 in
    record { parses = (passed_on _ _ _ _ e c.from_residual.ensures c.in_err-ident.ensures.parses.0 (λ h. stopped _ e h), c.parse_any_ident.ensures.parses.1) }

pub returns : goal.returns
returns g c =
    record {
      parses = (
        told_by _ _ (link _ c.in_ok-ident.ensures.parses.0 (ap (λ z. Ok (params.«Type» (type_param_of c.args.attrs c.in_ok-ident.ident None z None), c.parse_any_ident.new.input)) (sym c.new.ensures))) c.boxed_param.ensures.reads,
        c.parse_any_ident.ensures.parses.1,
      );
    }
