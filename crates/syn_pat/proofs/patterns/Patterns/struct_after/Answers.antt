use Rattle.std.proofs.Common.{Ok, [], length, sym, ap, ◌∙◌, arith}
use Rattle.syn_pat.specs.pat.Reading.{struct_after}
use Rattle.syn_pat.proofs.pat_laws.Steps.{braces_held_refused, braces_read, braces_refused}
use Rattle.syn_pat.specs.pat.Knot.{pats_below}
use Rattle.syn_pat.specs.pat.Pats.{struct_of}
use Rattle.syn_pat.specs.pat.Reading.{fields, named}
use Rattle.token_core.proofs.Suffixes.{follows_trans}
use Rattle.syn_forms.proofs.lists_laws.Turns.{passed_on}
use Rattle.syn_pat.proofs.patterns.Patterns.struct_after.Goals as goal

pub returns-in_err-brace_token : goal.returns-in_err-brace_token
unfolding struct_after
returns-in_err-brace_token g c =
    let e = c.in_err-brace_token.field-0.0 in
    let r = pats_below {T = g.row.T.Denot} g.X.Subtree.reads (named g.Q.Qualifier.reads g.G.Arguments.is_absent) (length c.args.self.now.begin) in
    record {
      parses = (
        passed_on _ _ _ _ e c.from_residual.ensures c.in_err-brace_token.ensures.parses.0 (λ h. braces_refused (fields g.X.Subtree.reads r) (λ k v. struct_of [] c.args.qself c.args.path k v.0 v.1) c.args.input.now e h),
        c.open_braces.ensures.parses.1,
      );
    }

pub fields-requires-clause-patterns : goal.fields-requires-clause-patterns
fields-requires-clause-patterns g c = c.requires.patterns

pub fields-requires-clause-few : goal.fields-requires-clause-few
fields-requires-clause-few g c =
    let few = c.requires.few in
    let less = c.in_ok-brace_token.ensures.inside in
    omega (arith, few, less)

pub returns-in_err-fields : goal.returns-in_err-fields
unfolding struct_after
returns-in_err-fields g c =
    let e = c.in_err-fields.field-0.0 in
    let r = pats_below {T = g.row.T.Denot} g.X.Subtree.reads (named g.Q.Qualifier.reads g.G.Arguments.is_absent) (length c.args.self.now.begin) in
    record {
      parses = (
        passed_on _ _ _ _ e c.from_residual-in_err-fields.ensures c.in_err-fields.ensures.parses.0 (λ h. braces_held_refused (fields g.X.Subtree.reads r) (λ k v. struct_of [] c.args.qself c.args.path k v.0 v.1) c.args.input.now c.open_braces.new.input c.in_ok-brace_token.content c.in_ok-brace_token.brace_token e c.in_ok-brace_token.ensures.parses.0 h),
        c.open_braces.ensures.parses.1,
      );
    }

pub returns : goal.returns
unfolding struct_after
returns g c =
    let r = pats_below {T = g.row.T.Denot} g.X.Subtree.reads (named g.Q.Qualifier.reads g.G.Arguments.is_absent) (length c.args.self.now.begin) in
    record {
      parses = (
        braces_read (fields g.X.Subtree.reads r) (λ k v. struct_of [] c.args.qself c.args.path k v.0 v.1) c.args.input.now c.open_braces.new.input c.in_ok-brace_token.content c.fields.new.input c.in_ok-brace_token.brace_token (c.in_ok-fields.fields, c.in_ok-fields.rest) c.in_ok-brace_token.ensures.parses.0 c.in_ok-fields.ensures.parses.0 ∙ ap (λ z. Ok (struct_of [] c.args.qself c.args.path c.in_ok-brace_token.brace_token c.in_ok-fields.fields c.in_ok-fields.rest, z)) (sym c.finish.ensures.finished) ∙ ap (λ z. Ok (struct_of z c.args.qself c.args.path c.in_ok-brace_token.brace_token c.in_ok-fields.fields c.in_ok-fields.rest, c.finish.new.self)) (sym c.new.ensures),
        follows_trans _ _ _ c.open_braces.ensures.parses.1 c.finish.ensures.within,
      );
    }
