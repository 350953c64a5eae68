use Rattle.std.proofs.Common.{◌≡◌, Err, rules, arith}
use Rattle.std.proofs.lemmas.Grind.{common_steps}
use Rattle.token_core.specs.Headline.{Headline}
use Rattle.token_core.specs.Reads.{Gives, Fails}
use Rattle.token_core.specs.Trees.{toks}
use Rattle.syn_generics.specs.declared.generics.GenericsOf.{GenericsOf}
use Rattle.syn_generics.specs.generics.Alone as alone
use Rattle.syn_generics.specs.generics.Promises as promises
use Rattle.syn_readers.specs.Readers as spec
use Rattle.syn_readers.proofs.Whole.{refused-prints}
use Rattle.syn_readers.proofs.by_name.reprint_impl_generics.Goals as goal

pub returns-in_err-generics : goal.returns-in_err-generics
returns-in_err-generics g c =
    let e = c.in_err-generics.field-0.0 in
    let was : c.taken.result ≡ Err e = first_of (search rules, grind (arith, common_steps)) in
    let back : c.from_residual.result ≡ Err e = first_of (search rules, grind (arith, common_steps)) in
    refused-prints (Gives {A = GenericsOf g.row.A.Denot g.row.E.Denot} (alone.generics g.A.Attributes.reads g.E.Value.reads)) (Fails (alone.generics g.A.Attributes.reads g.E.Value.reads))
    (Headline (promises.generics {A = g.row.A.Denot} g.A.Attributes g.E.Value))
    (spec.impl_generics g.A.Attributes.shown g.E.Value.values) c.args.scope (toks c.args.tokens) c.taken.result c.from_residual.result e was back c.taken.ensures.reads c.taken.ensures.promise
