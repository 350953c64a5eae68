use Rattle.token_core.specs.Trees.{toks}
use Rattle.syn_readers.proofs.Whole.{prints-reprints}
use Rattle.syn_run.specs.Readers.{category}
use Rattle.syn_run.specs.declared.readers.Reader.TheVariants as r
use Rattle.syn_run.proofs.readers.Reader.reprint.Goals as goal

pub returns-in-Macro : goal.returns-in-Macro
returns-in-Macro g c = rw c.in-Macro.is (prints-reprints (category g.X.Subtree r.Macro) c.args.scope (toks c.args.tokens) c.reprint.result c.reprint.ensures)

pub returns-in-ModStyle : goal.returns-in-ModStyle
returns-in-ModStyle g c = rw c.in-ModStyle.is (prints-reprints (category g.X.Subtree r.ModStyle) c.args.scope (toks c.args.tokens) c.reprint_with.result c.reprint_with.ensures)

pub returns-in-Meta : goal.returns-in-Meta
returns-in-Meta g c = rw c.in-Meta.is (prints-reprints (category g.X.Subtree r.Meta) c.args.scope (toks c.args.tokens) c.reprint-in-Meta.result c.reprint-in-Meta.ensures)

pub returns-in-MetaList : goal.returns-in-MetaList
returns-in-MetaList g c = rw c.in-MetaList.is (prints-reprints (category g.X.Subtree r.MetaList) c.args.scope (toks c.args.tokens) c.reprint-in-MetaList.result c.reprint-in-MetaList.ensures)

pub returns-in-MetaNameValue : goal.returns-in-MetaNameValue
returns-in-MetaNameValue g c = rw c.in-MetaNameValue.is (prints-reprints (category g.X.Subtree r.MetaNameValue) c.args.scope (toks c.args.tokens) c.reprint-in-MetaNameValue.result c.reprint-in-MetaNameValue.ensures)

pub returns-in-Outer : goal.returns-in-Outer
returns-in-Outer g c = rw c.in-Outer.is (prints-reprints (category g.X.Subtree r.Outer) c.args.scope (toks c.args.tokens) c.reprint_attributes.result c.reprint_attributes.ensures)

pub returns-in-Inner : goal.returns-in-Inner
returns-in-Inner g c = rw c.in-Inner.is (prints-reprints (category g.X.Subtree r.Inner) c.args.scope (toks c.args.tokens) c.reprint_attributes-in-Inner.result c.reprint_attributes-in-Inner.ensures)

pub returns-in-PointerMutability : goal.returns-in-PointerMutability
returns-in-PointerMutability g c = rw c.in-PointerMutability.is (prints-reprints (category g.X.Subtree r.PointerMutability) c.args.scope (toks c.args.tokens) c.reprint-in-PointerMutability.result c.reprint-in-PointerMutability.ensures)

pub returns-in-Types : goal.returns-in-Types
returns-in-Types g c = rw c.in-Types.is c.reprint_over.ensures

pub returns-in-Paths : goal.returns-in-Paths
returns-in-Paths g c = rw c.in-Paths.is c.reprint_over-in-Paths.ensures

pub returns-in-Generics : goal.returns-in-Generics
returns-in-Generics g c = rw c.in-Generics.is c.reprint_over-in-Generics.ensures

pub returns-in-Patterns : goal.returns-in-Patterns
returns-in-Patterns g c = rw c.in-Patterns.is c.reprint_over-in-Patterns.ensures

pub returns-in-Items : goal.returns-in-Items
returns-in-Items g c = rw c.in-Items.is c.reprint_over-in-Items.ensures
