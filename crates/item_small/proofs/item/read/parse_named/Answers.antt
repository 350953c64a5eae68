use Rattle.std.proofs.Common.{Ok, sym, subst, ap, ◌∙◌}
use Rattle.token_core.specs.declared.tree.Delimiter.TheVariants.{Brace}
use Rattle.token_core.specs.Fronted.{Fronted}
use Rattle.token_core.specs.Groups.{brace_name}
use Rattle.token_core.specs.Reads.{open_group}
use Rattle.token_core.proofs.Suffixes.{follows_trans}
use Rattle.item_small.specs.declared.item.BodyOf.TheVariants as b
use Rattle.item_small.specs.item.Promises as promises
use Rattle.token_core.proofs.fronts_laws.Refused.{passed_on, refused_front}
use Rattle.item_small.proofs.item_laws.Bodies.{braces_opened, braces_refused, fields_fronted, fields_read, fields_refused, named_read, named_refused, no_braces, no_fields, not_opened, read_fields}
use Rattle.item_small.proofs.item.read.parse_named.Goals as goal

pub returns-in_err-brace_token-clause-parses : goal.returns-in_err-brace_token-clause-parses
returns-in_err-brace_token-clause-parses g c =
    let e = c.in_err-brace_token.field-0.0 in (
      passed_on _ _ _ _ e c.from_residual.ensures c.in_err-brace_token.ensures.parses.0 (λ h. not_opened g.A.Part.front g.T.Part.front _ e h),
      c.braced.ensures.parses.1,
    )

pub returns-in_err-brace_token-clause-fronts : goal.returns-in_err-brace_token-clause-fronts
returns-in_err-brace_token-clause-fronts g c = λ sees fits.
    let e = c.in_err-brace_token.field-0.0 in
    refused_front (promises.body g.A.Part.front g.T.Part.front) c.args.input.now _ _ e c.from_residual.ensures
    (no_braces g.A.Part.front g.T.Part.front c.args.input.now e sees (λ k. braces_refused (open_group Brace brace_name c.args.input.now) e (c.in_err-brace_token.ensures.parses.0 k)))

pub returns-in_err-fields-clause-parses : goal.returns-in_err-fields-clause-parses
returns-in_err-fields-clause-parses g c =
    let e = c.in_err-fields.field-0.0 in
    let a = g.A.Part.front in
    let t = g.T.Part.front in (
      passed_on _ (read_fields a t c.in_ok-brace_token.content) _ _ e c.from_residual-in_err-fields.ensures (λ k. fields_refused a t _ e (c.in_err-fields.ensures.reads k))
          (λ h. named_refused a t _ _ _ _ c.in_ok-brace_token.ensures.parses.0 e h),
      c.braced.ensures.parses.1,
    )

pub returns-in_err-fields-clause-fronts : goal.returns-in_err-fields-clause-fronts
returns-in_err-fields-clause-fronts g c = λ sees fits.
    let e = c.in_err-fields.field-0.0 in
    refused_front (promises.body g.A.Part.front g.T.Part.front) c.args.input.now _ _ e c.from_residual-in_err-fields.ensures
    (no_fields g.A.Part.front g.T.Part.front fits c.args.input.now _ _ _ e (braces_opened (open_group Brace brace_name c.args.input.now) _ _ _ c.in_ok-brace_token.ensures.parses.0) c.in_err-fields.ensures.reads)

pub returns-clause-parses : goal.returns-clause-parses
returns-clause-parses g c =
    let a = g.A.Part.front in
    let t = g.T.Part.front in (
      named_read a t _ _ _ _ c.in_ok-brace_token.ensures.parses.0 _ _ (fields_read a t _ _ _ c.in_ok-fields.ensures.reads) ∙ ap (λ z. Ok (b.Named c.in_ok-brace_token.brace_token c.in_ok-fields.fields, z)) (sym c.finish.ensures.finished),
      follows_trans _ _ _ c.braced.ensures.parses.1 c.finish.ensures.within,
    )

pub returns-clause-fronts : goal.returns-clause-fronts
returns-clause-fronts g c = λ sees fits.
    let a = g.A.Part.front in
    let t = g.T.Part.front in
    subst (λ z. Fronted (promises.body a t) c.args.input.now (Ok (b.Named c.in_ok-brace_token.brace_token c.in_ok-fields.fields)) z) (sym c.finish.ensures.finished)
    (fields_fronted a t fits c.args.input.now _ _ _ _ _ _ (braces_opened (open_group Brace brace_name c.args.input.now) _ _ _ c.in_ok-brace_token.ensures.parses.0) c.in_ok-fields.ensures.reads)
