-- The one table of readers, by their names.
use Rattle.std.specs.Prelude.{if◌then◌else◌, ℕ, List, [], ◌∷◌, Option, Some, None, map, codes}
use Rattle.std.specs.List.{slice_get}
use Rattle.std.specs.Str.{bytes_eq}
use Rattle.token_core.specs.Toks.{Bytes}
use Rattle.syn_pat.specs.declared.place.PatPlace.TheVariants.{LeadingVert, Multi, Single}
use Rattle.syn_readers.specs.declared.by_name.TypeReader.TheVariants as t
use Rattle.syn_readers.specs.declared.by_name.PathReader.TheVariants as p
use Rattle.syn_readers.specs.declared.by_name.GenericsReader.TheVariants as g
use Rattle.syn_run.specs.declared.items.ItemReader.TheVariants as i
use Rattle.syn_run.specs.declared.readers.PatternReader.TheVariants as q
use Rattle.syn_run.specs.declared.readers.Reader.{Reader}
use Rattle.syn_run.specs.declared.readers.Reader.TheVariants.{Macro, ModStyle, Meta, MetaList, MetaNameValue, Outer, Inner, PointerMutability, Types, Paths, Generics, Items, Patterns}

-- each reader, by its name
unfoldable pub table : List (Bytes × Reader)
table =
    (codes "Macro", Macro)
    ∷ (codes "Meta", Meta)
    ∷ (codes "MetaList", MetaList)
    ∷ (codes "MetaNameValue", MetaNameValue)
    ∷ (codes "Attribute::parse_outer", Outer)
    ∷ (codes "Attribute::parse_inner", Inner)
    ∷ (codes "Path", Paths p.Whole)
    ∷ (codes "Path::parse_mod_style", ModStyle)
    ∷ (codes "PathSegment", Paths p.Segment)
    ∷ (codes "GenericArgument", Paths p.Argument)
    ∷ (codes "AngleBracketedGenericArguments", Paths p.AngleBracketed)
    ∷ (codes "AngleBracketedGenericArguments::parse_turbofish", Paths p.ParseTurbofish)
    ∷ (codes "ParenthesizedGenericArguments", Paths p.Parenthesized)
    ∷ (codes "Type", Types t.Any)
    ∷ (codes "Type::without_plus", Types t.WithoutPlus)
    ∷ (codes "TypeArray", Types t.Array)
    ∷ (codes "TypeFnPtr", Types t.FnPtr)
    ∷ (codes "TypeGroup", Types t.Group)
    ∷ (codes "TypeImplTrait", Types t.ImplTrait)
    ∷ (codes "TypeImplTrait::without_plus", Types t.ImplWithoutPlus)
    ∷ (codes "TypeInfer", Types t.Infer)
    ∷ (codes "TypeMacro", Types t.Macro)
    ∷ (codes "TypeNever", Types t.Never)
    ∷ (codes "TypeParen", Types t.Paren)
    ∷ (codes "TypePath", Types t.Path)
    ∷ (codes "TypePtr", Types t.Ptr)
    ∷ (codes "TypeReference", Types t.Reference)
    ∷ (codes "TypeSlice", Types t.Slice)
    ∷ (codes "TypeTraitObject", Types t.TraitObject)
    ∷ (codes "TypeTraitObject::without_plus", Types t.ObjectWithoutPlus)
    ∷ (codes "TypeTuple", Types t.Tuple)
    ∷ (codes "ReturnType", Types t.Return)
    ∷ (codes "ReturnType::without_plus", Types t.ReturnWithoutPlus)
    ∷ (codes "PointerMutability", PointerMutability)
    ∷ (codes "NamedArg", Types t.NamedArg)
    ∷ (codes "Abi", Types t.Abi)
    ∷ (codes "Abi::parse_optional", Types t.OptionalAbi)
    ∷ (codes "GenericParam", Generics g.Param)
    ∷ (codes "LifetimeParam", Generics g.LifetimeParam)
    ∷ (codes "TypeParam", Generics g.TypeParam)
    ∷ (codes "ConstParam", Generics g.ConstParam)
    ∷ (codes "BoundLifetimes", Generics g.BoundLifetimes)
    ∷ (codes "BoundLifetimes::parse_optional", Generics g.OptionalBoundLifetimes)
    ∷ (codes "TypeParamBound", Generics g.Bound)
    ∷ (codes "TraitBound", Generics g.TraitBound)
    ∷ (codes "PreciseCapture", Generics g.Capture)
    ∷ (codes "CapturedParam", Generics g.Captured)
    ∷ (codes "Generics", Generics g.Declared)
    ∷ (codes "ImplGenerics", Generics g.ImplGenerics)
    ∷ (codes "TypeGenerics", Generics g.TypeGenerics)
    ∷ (codes "Turbofish", Generics g.Turbofish)
    ∷ (codes "WhereClause", Generics g.WhereClause)
    ∷ (codes "WhereClause::parse_optional", Generics g.OptionalWhereClause)
    ∷ (codes "WherePredicate", Generics g.Predicate)
    ∷ (codes "StructItem", Items i.Struct)
    ∷ (codes "ImplHead", Items i.Head)
    ∷ (codes "Pat::parse_single", Patterns (q.In Single))
    ∷ (codes "Pat::parse_multi", Patterns (q.In Multi))
    ∷ (codes "Pat::parse_multi_with_leading_vert", Patterns (q.In LeadingVert))
    ∷ (codes "Pat::parse_multi_with_leading_vert_and_guard", Patterns q.Guarded)
    ∷ (codes "PatType", Patterns q.Typed)
    ∷ []

-- the first reader of a table that has a name
abbrev pub first_named : Bytes → List (Bytes × Reader) → Option Reader
first_named name [] = None
first_named name ((it, reader) ∷ more) = if bytes_eq name it then Some reader else first_named name more

-- the reader of a name
unfoldable pub named : Bytes → Option Reader
named name = first_named name table

-- the name that stands there, from 0
abbrev pub name_at : ℕ → Option Bytes
name_at index = slice_get (map (λ r. r.0) table) index
