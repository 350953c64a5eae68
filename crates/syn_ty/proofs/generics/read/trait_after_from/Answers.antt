use Rattle.std.proofs.Common.{◌≡◌, Err, length, rules, arith}
use Rattle.std.proofs.lemmas.Grind.{common_steps}
use Rattle.token_core.proofs.Suffixes.{follows}
use Rattle.syn_path.proofs.path_laws.Turns.{refused_by}
use Rattle.syn_ty.specs.ty.Knot as knot
use Rattle.syn_ty.proofs.generics_laws.Traits.{signature_refused}
use Rattle.syn_ty.proofs.generics.read.trait_after_from.Goals as goal

pub returns-in_err-path-2 : goal.returns-in_err-path-2
returns-in_err-path-2 g c =
    let e = c.in_err-path-2.field-0.0 in
    let was : c.signed_from.result ≡ Err e = first_of (search rules, grind (arith, common_steps)) in
    let back : c.from_residual-in_err-path-2.result ≡ Err e = first_of (search rules, grind (arith, common_steps)) in
    let r = knot.reads_below g.A.Attributes.reads g.E.Value.reads (length c.args.begin.now) in
    record {
      parses = (
        refused_by _ _ _ _ _ _ e was back c.signed_from.ensures.parses.0
            (λ h. signature_refused r c.args.lifetimes c.args.modifiers _ _ _ _ _ _ _ e c.in_ok-maybe.ensures.parses.0 c.in_ok-lifetimes.ensures.parses.0 c.in_ok-path.ensures.parses.0 h),
        grind (arith, follows),
      );
    }
