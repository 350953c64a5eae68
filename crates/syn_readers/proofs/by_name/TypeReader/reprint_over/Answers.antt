use Rattle.token_core.specs.Trees.{toks}
use Rattle.syn_readers.proofs.Whole.{prints-reprints}
use Rattle.syn_readers.specs.Readers.{types_category}
use Rattle.syn_readers.specs.declared.by_name.TypeReader.TheVariants as r
use Rattle.syn_readers.proofs.by_name.TypeReader.reprint_over.Goals as goal

pub returns-in-Any : goal.returns-in-Any
returns-in-Any g c =
    let C = types_category g.A.Attributes g.E.Value r.Any in
    rw c.in-Any.is (prints-reprints C c.args.scope (toks c.args.tokens) c.reprint.result c.reprint.ensures)

pub returns-in-WithoutPlus : goal.returns-in-WithoutPlus
returns-in-WithoutPlus g c =
    let C = types_category g.A.Attributes g.E.Value r.WithoutPlus in
    rw c.in-WithoutPlus.is (prints-reprints C c.args.scope (toks c.args.tokens) c.reprint_with.result c.reprint_with.ensures)

pub returns-in-Array : goal.returns-in-Array
returns-in-Array g c =
    let C = types_category g.A.Attributes g.E.Value r.Array in
    rw c.in-Array.is (prints-reprints C c.args.scope (toks c.args.tokens) c.reprint-in-Array.result c.reprint-in-Array.ensures)

pub returns-in-FnPtr : goal.returns-in-FnPtr
returns-in-FnPtr g c =
    let C = types_category g.A.Attributes g.E.Value r.FnPtr in
    rw c.in-FnPtr.is (prints-reprints C c.args.scope (toks c.args.tokens) c.reprint-in-FnPtr.result c.reprint-in-FnPtr.ensures)

pub returns-in-Group : goal.returns-in-Group
returns-in-Group g c =
    let C = types_category g.A.Attributes g.E.Value r.Group in
    rw c.in-Group.is (prints-reprints C c.args.scope (toks c.args.tokens) c.reprint-in-Group.result c.reprint-in-Group.ensures)

pub returns-in-ImplTrait : goal.returns-in-ImplTrait
returns-in-ImplTrait g c =
    let C = types_category g.A.Attributes g.E.Value r.ImplTrait in
    rw c.in-ImplTrait.is (prints-reprints C c.args.scope (toks c.args.tokens) c.reprint-in-ImplTrait.result c.reprint-in-ImplTrait.ensures)

pub returns-in-ImplWithoutPlus : goal.returns-in-ImplWithoutPlus
returns-in-ImplWithoutPlus g c =
    let C = types_category g.A.Attributes g.E.Value r.ImplWithoutPlus in
    rw c.in-ImplWithoutPlus.is (prints-reprints C c.args.scope (toks c.args.tokens) c.reprint_with-in-ImplWithoutPlus.result c.reprint_with-in-ImplWithoutPlus.ensures)

pub returns-in-Infer : goal.returns-in-Infer
returns-in-Infer g c =
    let C = types_category g.A.Attributes g.E.Value r.Infer in
    rw c.in-Infer.is (prints-reprints C c.args.scope (toks c.args.tokens) c.reprint-in-Infer.result c.reprint-in-Infer.ensures)

pub returns-in-Macro : goal.returns-in-Macro
returns-in-Macro g c =
    let C = types_category g.A.Attributes g.E.Value r.Macro in
    rw c.in-Macro.is (prints-reprints C c.args.scope (toks c.args.tokens) c.reprint-in-Macro.result c.reprint-in-Macro.ensures)

pub returns-in-Never : goal.returns-in-Never
returns-in-Never g c =
    let C = types_category g.A.Attributes g.E.Value r.Never in
    rw c.in-Never.is (prints-reprints C c.args.scope (toks c.args.tokens) c.reprint-in-Never.result c.reprint-in-Never.ensures)

pub returns-in-Paren : goal.returns-in-Paren
returns-in-Paren g c =
    let C = types_category g.A.Attributes g.E.Value r.Paren in
    rw c.in-Paren.is (prints-reprints C c.args.scope (toks c.args.tokens) c.reprint-in-Paren.result c.reprint-in-Paren.ensures)

pub returns-in-Path : goal.returns-in-Path
returns-in-Path g c =
    let C = types_category g.A.Attributes g.E.Value r.Path in
    rw c.in-Path.is (prints-reprints C c.args.scope (toks c.args.tokens) c.reprint-in-Path.result c.reprint-in-Path.ensures)

pub returns-in-Ptr : goal.returns-in-Ptr
returns-in-Ptr g c =
    let C = types_category g.A.Attributes g.E.Value r.Ptr in
    rw c.in-Ptr.is (prints-reprints C c.args.scope (toks c.args.tokens) c.reprint-in-Ptr.result c.reprint-in-Ptr.ensures)

pub returns-in-Reference : goal.returns-in-Reference
returns-in-Reference g c =
    let C = types_category g.A.Attributes g.E.Value r.Reference in
    rw c.in-Reference.is (prints-reprints C c.args.scope (toks c.args.tokens) c.reprint-in-Reference.result c.reprint-in-Reference.ensures)

pub returns-in-Slice : goal.returns-in-Slice
returns-in-Slice g c =
    let C = types_category g.A.Attributes g.E.Value r.Slice in
    rw c.in-Slice.is (prints-reprints C c.args.scope (toks c.args.tokens) c.reprint-in-Slice.result c.reprint-in-Slice.ensures)

pub returns-in-TraitObject : goal.returns-in-TraitObject
returns-in-TraitObject g c =
    let C = types_category g.A.Attributes g.E.Value r.TraitObject in
    rw c.in-TraitObject.is (prints-reprints C c.args.scope (toks c.args.tokens) c.reprint-in-TraitObject.result c.reprint-in-TraitObject.ensures)

pub returns-in-ObjectWithoutPlus : goal.returns-in-ObjectWithoutPlus
returns-in-ObjectWithoutPlus g c =
    let C = types_category g.A.Attributes g.E.Value r.ObjectWithoutPlus in
    rw c.in-ObjectWithoutPlus.is (prints-reprints C c.args.scope (toks c.args.tokens) c.reprint_with-in-ObjectWithoutPlus.result c.reprint_with-in-ObjectWithoutPlus.ensures)

pub returns-in-Tuple : goal.returns-in-Tuple
returns-in-Tuple g c =
    let C = types_category g.A.Attributes g.E.Value r.Tuple in
    rw c.in-Tuple.is (prints-reprints C c.args.scope (toks c.args.tokens) c.reprint-in-Tuple.result c.reprint-in-Tuple.ensures)

pub returns-in-Return : goal.returns-in-Return
returns-in-Return g c =
    let C = types_category g.A.Attributes g.E.Value r.Return in
    rw c.in-Return.is (prints-reprints C c.args.scope (toks c.args.tokens) c.reprint-in-Return.result c.reprint-in-Return.ensures)

pub returns-in-ReturnWithoutPlus : goal.returns-in-ReturnWithoutPlus
returns-in-ReturnWithoutPlus g c =
    let C = types_category g.A.Attributes g.E.Value r.ReturnWithoutPlus in
    rw c.in-ReturnWithoutPlus.is (prints-reprints C c.args.scope (toks c.args.tokens) c.reprint_with-in-ReturnWithoutPlus.result c.reprint_with-in-ReturnWithoutPlus.ensures)

pub returns-in-NamedArg : goal.returns-in-NamedArg
returns-in-NamedArg g c =
    let C = types_category g.A.Attributes g.E.Value r.NamedArg in
    rw c.in-NamedArg.is (prints-reprints C c.args.scope (toks c.args.tokens) c.reprint-in-NamedArg.result c.reprint-in-NamedArg.ensures)

pub returns-in-Abi : goal.returns-in-Abi
returns-in-Abi g c =
    let C = types_category g.A.Attributes g.E.Value r.Abi in
    rw c.in-Abi.is (prints-reprints C c.args.scope (toks c.args.tokens) c.reprint-in-Abi.result c.reprint-in-Abi.ensures)

pub returns-in-OptionalAbi : goal.returns-in-OptionalAbi
returns-in-OptionalAbi g c =
    let C = types_category g.A.Attributes g.E.Value r.OptionalAbi in
    rw c.in-OptionalAbi.is (prints-reprints C c.args.scope (toks c.args.tokens) c.reprint_with-in-OptionalAbi.result c.reprint_with-in-OptionalAbi.ensures)
