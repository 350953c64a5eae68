use Rattle.std.proofs.Common.{Ok, refl}
use Rattle.token_core.proofs.Steps.{link}
use Rattle.token_core.proofs.Suffixes.{follows_trans}
use Rattle.item_small.specs.item.Promises as promises
use Rattle.item_small.specs.item.Reading.{item}
use Rattle.token_core.proofs.fronts_laws.Refused.{passed_on, refused_front, stopped}
use Rattle.item_small.proofs.front_laws.Tokens.{name_fronted, name_refused, word_fronted, word_refused}
use Rattle.item_small.proofs.item_laws.Items.{item_fronted, no_attrs, no_body, no_clause, no_generics, no_name, no_word}
use Rattle.item_small.proofs.item.read.parse_item.Goals as goal

pub returns-in_err-attrs-clause-parses : goal.returns-in_err-attrs-clause-parses
unfolding item
returns-in_err-attrs-clause-parses g c =
    let e = c.in_err-attrs.field-0.0 in
    (passed_on _ _ _ _ e c.from_residual.ensures c.in_err-attrs.ensures.reads (λ h. stopped _ e h), c.in_err-attrs.ensures.within)

pub returns-in_err-attrs-clause-fronts : goal.returns-in_err-attrs-clause-fronts
returns-in_err-attrs-clause-fronts g c = λ fits.
    let e = c.in_err-attrs.field-0.0 in
    refused_front (promises.item g.A.Part.front g.G.Part.front g.W.Part.front g.T.Part.front) c.args.input.now _ _ e c.from_residual.ensures (no_attrs g.A.Part.front g.G.Part.front g.W.Part.front g.T.Part.front fits c.args.input.now e c.in_err-attrs.ensures.fronts)

pub returns-in_err-struct_token-clause-parses : goal.returns-in_err-struct_token-clause-parses
unfolding item
returns-in_err-struct_token-clause-parses g c =
    let e = c.in_err-struct_token.field-0.0 in
    (passed_on _ _ _ _ e c.from_residual-in_err-struct_token.ensures c.in_err-struct_token.ensures.reads (λ h. link _ c.in_ok-attrs.ensures.reads (stopped _ e h)), follows_trans _ _ _ c.in_ok-attrs.ensures.within c.in_err-struct_token.ensures.within)

pub returns-in_err-struct_token-clause-fronts : goal.returns-in_err-struct_token-clause-fronts
returns-in_err-struct_token-clause-fronts g c = λ fits.
    let e = c.in_err-struct_token.field-0.0 in
    refused_front (promises.item g.A.Part.front g.G.Part.front g.W.Part.front g.T.Part.front) c.args.input.now _ _ e c.from_residual-in_err-struct_token.ensures (no_word g.A.Part.front g.G.Part.front g.W.Part.front g.T.Part.front fits c.args.input.now _ _ c.in_ok-attrs.ensures.fronts e (word_refused {n = 43} _ e c.in_err-struct_token.ensures.reads))

pub returns-in_err-ident-clause-parses : goal.returns-in_err-ident-clause-parses
unfolding item
returns-in_err-ident-clause-parses g c =
    let e = c.in_err-ident.field-0.0 in
    (passed_on _ _ _ _ e c.from_residual-in_err-ident.ensures c.in_err-ident.ensures.reads (λ h. link _ c.in_ok-attrs.ensures.reads (link _ c.in_ok-struct_token.ensures.reads (stopped _ e h))), follows_trans _ _ _ c.in_ok-attrs.ensures.within (follows_trans _ _ _ c.in_ok-struct_token.ensures.within c.in_err-ident.ensures.within))

pub returns-in_err-ident-clause-fronts : goal.returns-in_err-ident-clause-fronts
returns-in_err-ident-clause-fronts g c = λ fits.
    let e = c.in_err-ident.field-0.0 in
    refused_front (promises.item g.A.Part.front g.G.Part.front g.W.Part.front g.T.Part.front) c.args.input.now _ _ e c.from_residual-in_err-ident.ensures (no_name g.A.Part.front g.G.Part.front g.W.Part.front g.T.Part.front fits c.args.input.now _ _ c.in_ok-attrs.ensures.fronts _ _ (word_fronted {n = 43} _ _ (Ok _) c.in_ok-struct_token.ensures.reads) e (name_refused _ e c.in_err-ident.ensures.reads))

pub returns-in_err-generics-clause-parses : goal.returns-in_err-generics-clause-parses
unfolding item
returns-in_err-generics-clause-parses g c =
    let e = c.in_err-generics.field-0.0 in
    (passed_on _ _ _ _ e c.from_residual-in_err-generics.ensures c.in_err-generics.ensures.reads (λ h. link _ c.in_ok-attrs.ensures.reads (link _ c.in_ok-struct_token.ensures.reads (link _ c.in_ok-ident.ensures.reads (stopped _ e h)))), follows_trans _ _ _ c.in_ok-attrs.ensures.within (follows_trans _ _ _ c.in_ok-struct_token.ensures.within (follows_trans _ _ _ c.in_ok-ident.ensures.within c.in_err-generics.ensures.within)))

pub returns-in_err-generics-clause-fronts : goal.returns-in_err-generics-clause-fronts
returns-in_err-generics-clause-fronts g c = λ fits.
    let e = c.in_err-generics.field-0.0 in
    refused_front (promises.item g.A.Part.front g.G.Part.front g.W.Part.front g.T.Part.front) c.args.input.now _ _ e c.from_residual-in_err-generics.ensures (no_generics g.A.Part.front g.G.Part.front g.W.Part.front g.T.Part.front fits c.args.input.now _ _ c.in_ok-attrs.ensures.fronts _ _ (word_fronted {n = 43} _ _ (Ok _) c.in_ok-struct_token.ensures.reads) _ _ (name_fronted _ _ (Ok _) c.in_ok-ident.ensures.reads) e c.in_err-generics.ensures.fronts)

pub returns-in_err-where_clause-clause-parses : goal.returns-in_err-where_clause-clause-parses
unfolding item
returns-in_err-where_clause-clause-parses g c =
    let e = c.in_err-where_clause.field-0.0 in
    (passed_on _ _ _ _ e c.from_residual-in_err-where_clause.ensures c.in_err-where_clause.ensures.reads (λ h. link _ c.in_ok-attrs.ensures.reads (link _ c.in_ok-struct_token.ensures.reads (link _ c.in_ok-ident.ensures.reads (link _ c.in_ok-generics.ensures.reads (stopped _ e h))))), follows_trans _ _ _ c.in_ok-attrs.ensures.within (follows_trans _ _ _ c.in_ok-struct_token.ensures.within (follows_trans _ _ _ c.in_ok-ident.ensures.within (follows_trans _ _ _ c.in_ok-generics.ensures.within c.in_err-where_clause.ensures.within))))

pub returns-in_err-where_clause-clause-fronts : goal.returns-in_err-where_clause-clause-fronts
returns-in_err-where_clause-clause-fronts g c = λ fits.
    let e = c.in_err-where_clause.field-0.0 in
    refused_front (promises.item g.A.Part.front g.G.Part.front g.W.Part.front g.T.Part.front) c.args.input.now _ _ e c.from_residual-in_err-where_clause.ensures (no_clause g.A.Part.front g.G.Part.front g.W.Part.front g.T.Part.front fits c.args.input.now _ _ c.in_ok-attrs.ensures.fronts _ _ (word_fronted {n = 43} _ _ (Ok _) c.in_ok-struct_token.ensures.reads) _ _ (name_fronted _ _ (Ok _) c.in_ok-ident.ensures.reads) _ _ c.in_ok-generics.ensures.fronts e c.in_err-where_clause.ensures.fronts)

pub returns-in_err-body-clause-parses : goal.returns-in_err-body-clause-parses
unfolding item
returns-in_err-body-clause-parses g c =
    let e = c.in_err-body.field-0.0 in
    (passed_on _ _ _ _ e c.from_residual-in_err-body.ensures c.in_err-body.ensures.parses.0 (λ h. link _ c.in_ok-attrs.ensures.reads (link _ c.in_ok-struct_token.ensures.reads (link _ c.in_ok-ident.ensures.reads (link _ c.in_ok-generics.ensures.reads (link _ c.in_ok-where_clause.ensures.reads (stopped _ e h)))))), follows_trans _ _ _ c.in_ok-attrs.ensures.within (follows_trans _ _ _ c.in_ok-struct_token.ensures.within (follows_trans _ _ _ c.in_ok-ident.ensures.within (follows_trans _ _ _ c.in_ok-generics.ensures.within (follows_trans _ _ _ c.in_ok-where_clause.ensures.within c.in_err-body.ensures.parses.1)))))

pub returns-in_err-body-clause-fronts : goal.returns-in_err-body-clause-fronts
returns-in_err-body-clause-fronts g c = λ fits.
    let e = c.in_err-body.field-0.0 in
    refused_front (promises.item g.A.Part.front g.G.Part.front g.W.Part.front g.T.Part.front) c.args.input.now _ _ e c.from_residual-in_err-body.ensures (no_body g.A.Part.front g.G.Part.front g.W.Part.front g.T.Part.front fits c.args.input.now _ _ c.in_ok-attrs.ensures.fronts _ _ (word_fronted {n = 43} _ _ (Ok _) c.in_ok-struct_token.ensures.reads) _ _ (name_fronted _ _ (Ok _) c.in_ok-ident.ensures.reads) _ _ c.in_ok-generics.ensures.fronts _ _ c.in_ok-where_clause.ensures.fronts e (c.in_err-body.ensures.fronts fits.field))

pub returns-clause-parses : goal.returns-clause-parses
unfolding item
returns-clause-parses g c = (link _ c.in_ok-attrs.ensures.reads (link _ c.in_ok-struct_token.ensures.reads (link _ c.in_ok-ident.ensures.reads (link _ c.in_ok-generics.ensures.reads (link _ c.in_ok-where_clause.ensures.reads (link _ c.in_ok-body.ensures.parses.0 refl))))), follows_trans _ _ _ c.in_ok-attrs.ensures.within (follows_trans _ _ _ c.in_ok-struct_token.ensures.within (follows_trans _ _ _ c.in_ok-ident.ensures.within (follows_trans _ _ _ c.in_ok-generics.ensures.within (follows_trans _ _ _ c.in_ok-where_clause.ensures.within c.in_ok-body.ensures.parses.1)))))

pub returns-clause-fronts : goal.returns-clause-fronts
returns-clause-fronts g c = λ fits.
    let f5 = c.in_ok-body.ensures.parses.1 in
    let f4 = follows_trans _ _ _ c.in_ok-where_clause.ensures.within f5 in
    let f3 = follows_trans _ _ _ c.in_ok-generics.ensures.within f4 in
    let f2 = follows_trans _ _ _ c.in_ok-ident.ensures.within f3 in
    let f1 = follows_trans _ _ _ c.in_ok-struct_token.ensures.within f2 in
    item_fronted g.A.Part.front g.G.Part.front g.W.Part.front g.T.Part.front fits c.args.input.now _ _ c.in_ok-attrs.ensures.fronts _ _ (word_fronted {n = 43} _ _ (Ok _) c.in_ok-struct_token.ensures.reads) _ _ (name_fronted _ _ (Ok _) c.in_ok-ident.ensures.reads) _ _ c.in_ok-generics.ensures.fronts _ _ c.in_ok-where_clause.ensures.fronts _ _ (c.in_ok-body.ensures.fronts fits.field) f1 f2 f3 f4 f5
