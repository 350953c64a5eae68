use Rattle.token_core.specs.Trees.{toks}
use Rattle.syn_ty.proofs.ty_laws.Given.{given}
use Rattle.syn_ty.proofs.ty_laws.GivenWhole.{given_again, given_meets}
use Rattle.syn_generics.proofs.generics_laws.WholeLaws.{stripped_reprinted}
use Rattle.syn_generics.specs.generics.Promises as promises
use Rattle.syn_generics.specs.generics.Views as views
use Rattle.syn_readers.proofs.Whole.{prints-reprints, viewed-prints}
use Rattle.syn_readers.specs.Readers.{generics_category, impl_generics}
use Rattle.syn_readers.specs.declared.by_name.GenericsReader.TheVariants as r
use Rattle.syn_readers.proofs.by_name.GenericsReader.reprint_over.Goals as goal

pub returns-in-Param : goal.returns-in-Param
returns-in-Param g c =
    let C = generics_category g.A.Attributes g.E.Value r.Param in
    rw c.in-Param.is (prints-reprints C c.args.scope (toks c.args.tokens) c.reprint.result c.reprint.ensures)

pub returns-in-LifetimeParam : goal.returns-in-LifetimeParam
returns-in-LifetimeParam g c =
    let C = generics_category g.A.Attributes g.E.Value r.LifetimeParam in
    rw c.in-LifetimeParam.is (prints-reprints C c.args.scope (toks c.args.tokens) c.reprint-in-LifetimeParam.result c.reprint-in-LifetimeParam.ensures)

pub returns-in-TypeParam : goal.returns-in-TypeParam
returns-in-TypeParam g c =
    let C = generics_category g.A.Attributes g.E.Value r.TypeParam in
    rw c.in-TypeParam.is (prints-reprints C c.args.scope (toks c.args.tokens) c.reprint-in-TypeParam.result c.reprint-in-TypeParam.ensures)

pub returns-in-ConstParam : goal.returns-in-ConstParam
returns-in-ConstParam g c =
    let C = generics_category g.A.Attributes g.E.Value r.ConstParam in
    rw c.in-ConstParam.is (prints-reprints C c.args.scope (toks c.args.tokens) c.reprint-in-ConstParam.result c.reprint-in-ConstParam.ensures)

pub returns-in-BoundLifetimes : goal.returns-in-BoundLifetimes
returns-in-BoundLifetimes g c =
    let C = generics_category g.A.Attributes g.E.Value r.BoundLifetimes in
    rw c.in-BoundLifetimes.is (prints-reprints C c.args.scope (toks c.args.tokens) c.reprint-in-BoundLifetimes.result c.reprint-in-BoundLifetimes.ensures)

pub returns-in-OptionalBoundLifetimes : goal.returns-in-OptionalBoundLifetimes
returns-in-OptionalBoundLifetimes g c =
    let C = generics_category g.A.Attributes g.E.Value r.OptionalBoundLifetimes in
    rw c.in-OptionalBoundLifetimes.is (prints-reprints C c.args.scope (toks c.args.tokens) c.reprint_with.result c.reprint_with.ensures)

pub returns-in-Bound : goal.returns-in-Bound
returns-in-Bound g c =
    let C = generics_category g.A.Attributes g.E.Value r.Bound in
    rw c.in-Bound.is (prints-reprints C c.args.scope (toks c.args.tokens) c.reprint-in-Bound.result c.reprint-in-Bound.ensures)

pub returns-in-TraitBound : goal.returns-in-TraitBound
returns-in-TraitBound g c =
    let C = generics_category g.A.Attributes g.E.Value r.TraitBound in
    rw c.in-TraitBound.is (prints-reprints C c.args.scope (toks c.args.tokens) c.reprint-in-TraitBound.result c.reprint-in-TraitBound.ensures)

pub returns-in-Capture : goal.returns-in-Capture
returns-in-Capture g c =
    let C = generics_category g.A.Attributes g.E.Value r.Capture in
    rw c.in-Capture.is (prints-reprints C c.args.scope (toks c.args.tokens) c.reprint-in-Capture.result c.reprint-in-Capture.ensures)

pub returns-in-Captured : goal.returns-in-Captured
returns-in-Captured g c =
    let C = generics_category g.A.Attributes g.E.Value r.Captured in
    rw c.in-Captured.is (prints-reprints C c.args.scope (toks c.args.tokens) c.reprint-in-Captured.result c.reprint-in-Captured.ensures)

pub returns-in-Declared : goal.returns-in-Declared
returns-in-Declared g c =
    let C = generics_category g.A.Attributes g.E.Value r.Declared in
    rw c.in-Declared.is (prints-reprints C c.args.scope (toks c.args.tokens) c.reprint-in-Declared.result c.reprint-in-Declared.ensures)

pub returns-in-ImplGenerics : goal.returns-in-ImplGenerics
returns-in-ImplGenerics g c =
    let C = generics_category g.A.Attributes g.E.Value r.ImplGenerics in
    let G = promises.generics g.A.Attributes g.E.Value in
    let law = stripped_reprinted g.A.Attributes g.E.Value (given g.met.A.Attributes.told g.met.E.Value.consts g.met.E.Value.lengths) (given_meets g.met.A.Attributes.met g.met.E.Value.met g.met.E.Value.lengths)
    (given_again g.met.A.Attributes.met g.met.E.Value.met g.met.E.Value.lengths g.met.A.Attributes.bare) in
    rw c.in-ImplGenerics.is (prints-reprints C c.args.scope (toks c.args.tokens) c.reprint_impl_generics.result
    (viewed-prints G views.stripped law (impl_generics g.A.Attributes.shown g.E.Value.values) c.args.scope (toks c.args.tokens) c.reprint_impl_generics.result c.reprint_impl_generics.ensures))

pub returns-in-TypeGenerics : goal.returns-in-TypeGenerics
returns-in-TypeGenerics g c =
    let C = generics_category g.A.Attributes g.E.Value r.TypeGenerics in
    rw c.in-TypeGenerics.is (prints-reprints C c.args.scope (toks c.args.tokens) c.reprint_type_generics.result c.reprint_type_generics.ensures)

pub returns-in-Turbofish : goal.returns-in-Turbofish
returns-in-Turbofish g c =
    let C = generics_category g.A.Attributes g.E.Value r.Turbofish in
    rw c.in-Turbofish.is (prints-reprints C c.args.scope (toks c.args.tokens) c.reprint_turbofish.result c.reprint_turbofish.ensures)

pub returns-in-WhereClause : goal.returns-in-WhereClause
returns-in-WhereClause g c =
    let C = generics_category g.A.Attributes g.E.Value r.WhereClause in
    rw c.in-WhereClause.is (prints-reprints C c.args.scope (toks c.args.tokens) c.reprint-in-WhereClause.result c.reprint-in-WhereClause.ensures)

pub returns-in-OptionalWhereClause : goal.returns-in-OptionalWhereClause
returns-in-OptionalWhereClause g c =
    let C = generics_category g.A.Attributes g.E.Value r.OptionalWhereClause in
    rw c.in-OptionalWhereClause.is (prints-reprints C c.args.scope (toks c.args.tokens) c.reprint_with-in-OptionalWhereClause.result c.reprint_with-in-OptionalWhereClause.ensures)

pub returns-in-Predicate : goal.returns-in-Predicate
returns-in-Predicate g c =
    let C = generics_category g.A.Attributes g.E.Value r.Predicate in
    rw c.in-Predicate.is (prints-reprints C c.args.scope (toks c.args.tokens) c.reprint-in-Predicate.result c.reprint-in-Predicate.ensures)
