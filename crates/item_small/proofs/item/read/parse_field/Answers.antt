use Rattle.std.proofs.Common.{Ok, refl, arith}
use Rattle.token_core.proofs.Steps.{link}
use Rattle.token_core.proofs.Suffixes.{follows_trans}
use Rattle.item_small.specs.item.Promises as promises
use Rattle.item_small.specs.item.Reading.{field}
use Rattle.token_core.proofs.fronts_laws.Refused.{passed_on, refused_front, stopped}
use Rattle.item_small.proofs.front_laws.Tokens.{mark_fronted, mark_refused, name_fronted, name_refused}
use Rattle.item_small.proofs.item_laws.Single.{field_fronted, no_attrs, no_colon, no_name, no_type}
use Rattle.item_small.proofs.item.read.parse_field.Goals as goal

pub returns-in_err-attrs-clause-parses : goal.returns-in_err-attrs-clause-parses
unfolding field
returns-in_err-attrs-clause-parses g c =
    let e = c.in_err-attrs.field-0.0 in
    (passed_on _ _ _ _ e c.from_residual.ensures c.in_err-attrs.ensures.reads (λ h. stopped _ e h), c.in_err-attrs.ensures.within)

pub returns-in_err-attrs-clause-fronts : goal.returns-in_err-attrs-clause-fronts
returns-in_err-attrs-clause-fronts g c = λ fits.
    let e = c.in_err-attrs.field-0.0 in
    refused_front (promises.field g.A.Part.front g.T.Part.front) c.args.input.now _ _ e c.from_residual.ensures (no_attrs g.A.Part.front g.T.Part.front fits c.args.input.now e c.in_err-attrs.ensures.fronts)

pub returns-in_err-ident-clause-parses : goal.returns-in_err-ident-clause-parses
unfolding field
returns-in_err-ident-clause-parses g c =
    let e = c.in_err-ident.field-0.0 in (
      passed_on _ _ _ _ e c.from_residual-in_err-ident.ensures c.in_err-ident.ensures.reads (λ h. link _ c.in_ok-attrs.ensures.reads (stopped _ e h)),
      follows_trans _ _ _ c.in_ok-attrs.ensures.within c.in_err-ident.ensures.within,
    )

pub returns-in_err-ident-clause-fronts : goal.returns-in_err-ident-clause-fronts
returns-in_err-ident-clause-fronts g c = λ fits.
    let e = c.in_err-ident.field-0.0 in
    refused_front (promises.field g.A.Part.front g.T.Part.front) c.args.input.now _ _ e c.from_residual-in_err-ident.ensures
    (no_name g.A.Part.front g.T.Part.front fits c.args.input.now _ _ c.in_ok-attrs.ensures.fronts e (name_refused _ e c.in_err-ident.ensures.reads))

pub returns-in_err-colon_token-clause-parses : goal.returns-in_err-colon_token-clause-parses
unfolding field
returns-in_err-colon_token-clause-parses g c =
    let e = c.in_err-colon_token.field-0.0 in (
      passed_on _ _ _ _ e c.from_residual-in_err-colon_token.ensures c.in_err-colon_token.ensures.reads (λ h. link _ c.in_ok-attrs.ensures.reads (link _ c.in_ok-ident.ensures.reads (stopped _ e h))),
      follows_trans _ _ _ c.in_ok-attrs.ensures.within (follows_trans _ _ _ c.in_ok-ident.ensures.within c.in_err-colon_token.ensures.within),
    )

pub returns-in_err-colon_token-clause-fronts : goal.returns-in_err-colon_token-clause-fronts
returns-in_err-colon_token-clause-fronts g c = λ fits.
    let e = c.in_err-colon_token.field-0.0 in
    refused_front (promises.field g.A.Part.front g.T.Part.front) c.args.input.now _ _ e c.from_residual-in_err-colon_token.ensures
    (no_colon g.A.Part.front g.T.Part.front fits c.args.input.now _ _ c.in_ok-attrs.ensures.fronts _ _ (name_fronted _ _ (Ok _) c.in_ok-ident.ensures.reads) e
    (mark_refused {n = 7} {k = 1} refl (omega arith) _ e c.in_err-colon_token.ensures.reads))

pub returns-in_err-ty-clause-parses : goal.returns-in_err-ty-clause-parses
unfolding field
returns-in_err-ty-clause-parses g c =
    let e = c.in_err-ty.field-0.0 in (
      passed_on _ _ _ _ e c.from_residual-in_err-ty.ensures c.in_err-ty.ensures.reads
          (λ h. link _ c.in_ok-attrs.ensures.reads (link _ c.in_ok-ident.ensures.reads (link _ c.in_ok-colon_token.ensures.reads (stopped _ e h)))),
      follows_trans _ _ _ c.in_ok-attrs.ensures.within
          (follows_trans _ _ _ c.in_ok-ident.ensures.within (follows_trans _ _ _ c.in_ok-colon_token.ensures.within c.in_err-ty.ensures.within)),
    )

pub returns-in_err-ty-clause-fronts : goal.returns-in_err-ty-clause-fronts
returns-in_err-ty-clause-fronts g c = λ fits.
    let e = c.in_err-ty.field-0.0 in
    refused_front (promises.field g.A.Part.front g.T.Part.front) c.args.input.now _ _ e c.from_residual-in_err-ty.ensures
    (no_type g.A.Part.front g.T.Part.front fits c.args.input.now _ _ c.in_ok-attrs.ensures.fronts _ _ (name_fronted _ _ (Ok _) c.in_ok-ident.ensures.reads) _ _
    (mark_fronted {n = 7} {k = 1} refl (omega arith) _ _ (Ok _) c.in_ok-colon_token.ensures.reads) e c.in_err-ty.ensures.fronts)

pub returns-clause-parses : goal.returns-clause-parses
unfolding field
returns-clause-parses g c = (
  link _ c.in_ok-attrs.ensures.reads (link _ c.in_ok-ident.ensures.reads (link _ c.in_ok-colon_token.ensures.reads (link _ c.in_ok-ty.ensures.reads refl))),
  follows_trans _ _ _ c.in_ok-attrs.ensures.within
      (follows_trans _ _ _ c.in_ok-ident.ensures.within (follows_trans _ _ _ c.in_ok-colon_token.ensures.within c.in_ok-ty.ensures.within)),
)

pub returns-clause-fronts : goal.returns-clause-fronts
returns-clause-fronts g c = λ fits.
    let f3 = c.in_ok-ty.ensures.within in
    let f2 = follows_trans _ _ _ c.in_ok-colon_token.ensures.within f3 in
    let f1 = follows_trans _ _ _ c.in_ok-ident.ensures.within f2 in
    field_fronted g.A.Part.front g.T.Part.front fits c.args.input.now _ _ c.in_ok-attrs.ensures.fronts _ _ (name_fronted _ _ (Ok _) c.in_ok-ident.ensures.reads) _ _
    (mark_fronted {n = 7} {k = 1} refl (omega arith) _ _ (Ok _) c.in_ok-colon_token.ensures.reads) _ _ c.in_ok-ty.ensures.fronts f1 f2 f3
