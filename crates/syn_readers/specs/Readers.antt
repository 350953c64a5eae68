-- The readers of types, paths and generics, and what is said of any reader.
use Rattle.std.specs.Prelude.{◌≡◌, ◌≢◌, true, List, Option, Some, None, Result, Ok, Err}
use Rattle.token_core.specs.declared.error.ErrorKind.TheVariants.{OutOfMemory}
use Rattle.token_core.specs.Toks.{Toks}
use Rattle.token_core.specs.Trees.{TokenStream, trees}
use Rattle.token_core.specs.Rebuilt.{Visible}
use Rattle.token_core.specs.Refusal.{Refusal}
use Rattle.token_core.specs.Headline.{Grammar, Headline, Reprinted, end_of}
use Rattle.token_core.specs.Prints.{Print}
use Rattle.token_core.specs.declared.span.Span.{Span}
use Rattle.token_core.specs.Stream.{Stream, started}
use Rattle.token_core.specs.Reads.{Ends, Refuses, Reader as R}
use Rattle.syn_ty.specs.ty.Grammars as types
use Rattle.syn_ty.specs.ty.Trees as ty
use Rattle.syn_ty.specs.ty.Promises as promises
use Rattle.syn_generics.specs.generics.Printing as generics_printing
use Rattle.syn_generics.specs.generics.Promises as generics_promises
use Rattle.syn_generics.specs.generics.Views as views
use Rattle.syn_ty.specs.declared.generics.CapturedParam as captured
use Rattle.syn_generics.specs.declared.generics.GenericsOf.{GenericsOf}
use Rattle.syn_ty.specs.declared.generics.LifetimeParamOf as lifetime
use Rattle.syn_ty.specs.declared.generics.PreciseCapture as capture
use Rattle.syn_generics.specs.declared.generics.WhereClauseOf.{WhereClauseOf}
use Rattle.syn_generics.specs.declared.generics.WherePredicateOf.{WherePredicateOf}
use Rattle.syn_ty.specs.declared.ty.Abi as abi
use Rattle.syn_forms.specs.declared.places.TypePlace.TheVariants.{Plus, NoPlus}
use Rattle.syn_ty.specs.declared.ty.TypeInferOf as infer
use Rattle.syn_ty.specs.declared.ty.TypeMacroOf as macro
use Rattle.syn_ty.specs.declared.ty.TypeNeverOf as never
use Rattle.syn_path.specs.Traits.{Attributes, Expressions}
use Rattle.syn_path.specs.Values.{Values}
use Rattle.syn_readers.specs.declared.by_name.TypeReader.{TypeReader}
use Rattle.syn_readers.specs.declared.by_name.TypeReader.TheVariants as t
use Rattle.syn_readers.specs.declared.by_name.PathReader.{PathReader}
use Rattle.syn_readers.specs.declared.by_name.PathReader.TheVariants as p
use Rattle.syn_readers.specs.declared.by_name.GenericsReader.{GenericsReader}
use Rattle.syn_readers.specs.declared.by_name.GenericsReader.TheVariants as g

-- What a run says of a reader: what it reads, what its trees print, and what a whole read promises. It tells which tree a list spells clearly: by the promise
-- that tree is the answer, and there is none where the list is refused.
pub record Category (A : Type 0) : Type 1 where
  pub reader : R A
  pub print : A → Print
  pub promise : Toks → Option A → Type 0
  pub clear : A → Toks → Type 0
  pub refused : (l : Toks) (a : A) → promise l None → Visible l → clear a l → ⊥
  pub unique : (l : Toks) (a b : A) → promise l (Some b) → Visible l → clear a l → a ≡ b

-- with the whole promise
abbrev pub of_grammar : {A : Type 0} → Grammar A → Category A
of_grammar G = record { reader = G.reader; print = G.print; promise = Headline G; clear = G.spells true; refused = λ l a h v c. h v a c; unique = λ l a b h v c. (h v).unique a c }

-- the whole promise; and of an answer that is plain, its view, a tree of its own, is printed as it is read again
abbrev pub Viewed : {A : Type 0} → Grammar A → (A → A) → Toks → Option A → Type 0
Viewed G view l (Some a) = Headline G l (Some a) × (G.plain a → Reprinted G (view a))
Viewed G view l None = Headline G l None

-- with a view of a tree that prints as a tree does, as the same reader reads
abbrev pub of_tree_view : {A : Type 0} → Grammar A → (A → A) → Category A
of_tree_view G view = record { reader = G.reader; print = λ a. G.print (view a); promise = Viewed G view; clear = G.spells true; refused = λ l a h v c. h v a c; unique = λ l a b h v c. (h.0 v).unique a c }

-- with the view of a tree as its print
abbrev pub of_view : {A : Type 0} → Grammar A → (A → Print) → Category A
of_view G print = record { reader = G.reader; print = print; promise = Headline G; clear = G.spells true; refused = λ l a h v c. h v a c; unique = λ l a b h v c. (h v).unique a c }

-- what generics print for an implementation
abbrev pub impl_generics : {A E : Type 0} → (List A → Print) → Values E → GenericsOf A E → Print
impl_generics pa pe x = generics_printing.generics pa pe (views.stripped x)

-- the trees of a reader of types, over attributes and expressions
abbrev pub TypesTree : Type 0 → Type 0 → TypeReader → Type 0
TypesTree A E t.Any = ty.TypeTree A E
TypesTree A E t.WithoutPlus = ty.TypeTree A E
TypesTree A E t.Array = ty.TypeArray A E
TypesTree A E t.FnPtr = ty.TypeFnPtr A E
TypesTree A E t.Group = ty.TypeGroup A E
TypesTree A E t.ImplTrait = ty.TypeImplTrait A E
TypesTree A E t.ImplWithoutPlus = ty.TypeImplTrait A E
TypesTree A E t.Infer = infer.TypeInferOf A
TypesTree A E t.Macro = macro.TypeMacroOf A
TypesTree A E t.Never = never.TypeNeverOf A
TypesTree A E t.Paren = ty.TypeParen A E
TypesTree A E t.Path = ty.TypePath A E
TypesTree A E t.Ptr = ty.TypePtr A E
TypesTree A E t.Reference = ty.TypeReference A E
TypesTree A E t.Slice = ty.TypeSlice A E
TypesTree A E t.TraitObject = ty.TypeTraitObject A E
TypesTree A E t.ObjectWithoutPlus = ty.TypeTraitObject A E
TypesTree A E t.Tuple = ty.TypeTuple A E
TypesTree A E t.Return = ty.ReturnType A E
TypesTree A E t.ReturnWithoutPlus = ty.ReturnType A E
TypesTree A E t.NamedArg = ty.NamedArg A E
TypesTree A E t.Abi = abi.Abi
TypesTree A E t.OptionalAbi = Option abi.Abi

-- of paths, over attributes and expressions
abbrev pub PathsTree : Type 0 → Type 0 → PathReader → Type 0
PathsTree A E p.Whole = ty.Path A E
PathsTree A E p.Segment = ty.PathSegment A E
PathsTree A E p.Argument = ty.GenericArgument A E
PathsTree A E p.AngleBracketed = ty.AngleBracketed A E
PathsTree A E p.ParseTurbofish = ty.AngleBracketed A E
PathsTree A E p.Parenthesized = ty.Parenthesized A E

-- of generics, over attributes and expressions
abbrev pub GenericsTree : Type 0 → Type 0 → GenericsReader → Type 0
GenericsTree A E g.Param = ty.GenericParam A E
GenericsTree A E g.LifetimeParam = lifetime.LifetimeParamOf A
GenericsTree A E g.TypeParam = ty.TypeParam A E
GenericsTree A E g.ConstParam = ty.ConstParam A E
GenericsTree A E g.BoundLifetimes = ty.BoundLifetimes A E
GenericsTree A E g.OptionalBoundLifetimes = Option (ty.BoundLifetimes A E)
GenericsTree A E g.Bound = ty.TypeParamBound A E
GenericsTree A E g.TraitBound = ty.TraitBound A E
GenericsTree A E g.Capture = capture.PreciseCapture
GenericsTree A E g.Captured = captured.CapturedParam
GenericsTree A E g.Declared = GenericsOf A E
GenericsTree A E g.ImplGenerics = GenericsOf A E
GenericsTree A E g.TypeGenerics = GenericsOf A E
GenericsTree A E g.Turbofish = GenericsOf A E
GenericsTree A E g.WhereClause = WhereClauseOf A E
GenericsTree A E g.OptionalWhereClause = Option (WhereClauseOf A E)
GenericsTree A E g.Predicate = WherePredicateOf A E

module _ {A E : Type 0} (attrs : Attributes A) (exprs : Expressions E) where
  abbrev pub types_category : (r : TypeReader) → Category (TypesTree A E r)
  types_category t.Any = of_grammar (promises.ty attrs exprs Plus)
  types_category t.WithoutPlus = of_grammar (promises.ty attrs exprs NoPlus)
  types_category t.Array = of_grammar (promises.array attrs exprs)
  types_category t.FnPtr = of_grammar (promises.fn_ptr attrs exprs)
  types_category t.Group = of_grammar (promises.group attrs exprs)
  types_category t.ImplTrait = of_grammar (promises.impl_trait attrs exprs Plus)
  types_category t.ImplWithoutPlus = of_grammar (promises.impl_trait attrs exprs NoPlus)
  types_category t.Infer = of_grammar (types.infer attrs.normal)
  types_category t.Macro = of_grammar (types.macro_type attrs.normal)
  types_category t.Never = of_grammar (types.never attrs.normal)
  types_category t.Paren = of_grammar (promises.paren attrs exprs)
  types_category t.Path = of_grammar (promises.path_type attrs exprs)
  types_category t.Ptr = of_grammar (promises.ptr attrs exprs)
  types_category t.Reference = of_grammar (promises.reference attrs exprs)
  types_category t.Slice = of_grammar (promises.slice attrs exprs)
  types_category t.TraitObject = of_grammar (promises.trait_object attrs exprs Plus)
  types_category t.ObjectWithoutPlus = of_grammar (promises.trait_object attrs exprs NoPlus)
  types_category t.Tuple = of_grammar (promises.tuple attrs exprs)
  types_category t.Return = of_grammar (promises.return_type attrs exprs Plus)
  types_category t.ReturnWithoutPlus = of_grammar (promises.return_type attrs exprs NoPlus)
  types_category t.NamedArg = of_grammar (promises.named_arg attrs exprs)
  types_category t.Abi = of_grammar promises.abi
  types_category t.OptionalAbi = of_grammar promises.optional_abi

  abbrev pub paths_category : (r : PathReader) → Category (PathsTree A E r)
  paths_category p.Whole = of_grammar (promises.path attrs exprs)
  paths_category p.Segment = of_grammar (promises.segment attrs exprs)
  paths_category p.Argument = of_grammar (promises.argument attrs exprs)
  paths_category p.AngleBracketed = of_grammar (promises.angle attrs exprs)
  paths_category p.ParseTurbofish = of_grammar (promises.turbofish attrs exprs)
  paths_category p.Parenthesized = of_grammar (promises.parenthesized attrs exprs)

  abbrev pub generics_category : (r : GenericsReader) → Category (GenericsTree A E r)
  generics_category g.Param = of_grammar (promises.param attrs exprs)
  generics_category g.LifetimeParam = of_grammar (promises.lifetime_param attrs)
  generics_category g.TypeParam = of_grammar (promises.type_param attrs exprs)
  generics_category g.ConstParam = of_grammar (promises.const_param attrs exprs)
  generics_category g.BoundLifetimes = of_grammar (promises.binder attrs exprs)
  generics_category g.OptionalBoundLifetimes = of_grammar (promises.optional_binder attrs exprs)
  generics_category g.Bound = of_grammar (promises.bound attrs exprs)
  generics_category g.TraitBound = of_grammar (promises.trait_bound attrs exprs)
  generics_category g.Capture = of_grammar promises.capture
  generics_category g.Captured = of_grammar promises.captured
  generics_category g.Declared = of_grammar (generics_promises.generics attrs exprs)
  generics_category g.ImplGenerics = of_tree_view (generics_promises.generics attrs exprs) views.stripped
  generics_category g.TypeGenerics = of_view (generics_promises.generics attrs exprs) views.names
  generics_category g.Turbofish = of_view (generics_promises.generics attrs exprs) views.turbofish
  generics_category g.WhereClause = of_grammar (generics_promises.where_clause attrs exprs)
  generics_category g.OptionalWhereClause = of_grammar (generics_promises.optional_where_clause attrs exprs)
  generics_category g.Predicate = of_grammar (generics_promises.predicate attrs exprs)

-- A read answers the print of the tree that the read of the category answers, and leaves the stream where that does.
abbrev pub Shows : {A : Type 0} → Category A → Stream → TokenStream → Stream → Type 0
Shows {A = A} C s out new = (a : A) × (C.reader s ≡ Ok (a, new)) × (trees out ≡ C.print a)

-- a whole read in a scope: refusals at the list's end point at it
abbrev pub whole_in : {A : Type 0} → R A → Span → Toks → Result A Refusal
whole_in reader scope l = end_of (reader (started scope l))

-- A read in a scope that answers prints the tree that the read of the category answers there, and keeps its promise. One that is refused is refused as the
-- read of the category is, and keeps the promise of a refusal.
abbrev pub Reprints : {A : Type 0} → Category A → Span → Toks → Result TokenStream Refusal → Type 0
Reprints {A = A} C scope l (Ok s) = (a : A) × (whole_in C.reader scope l ≡ Ok a) × C.promise l (Some a) × (trees s ≡ C.print a)
Reprints C scope l (Err e) = e.kind ≢ OutOfMemory → (whole_in C.reader scope l ≡ Err e) × C.promise l None

-- the same by the relations of a read and its promise
abbrev pub Prints : {A : Type 0} → (Stream → A → Stream → Type 0) → (Stream → Refusal → Type 0) → (Toks → Option A → Type 0) → (A → Print) → Span → Toks → Result TokenStream Refusal → Type 0
Prints {A = A} reads refuses promise print scope l (Ok s) = (a : A) × Ends reads (started scope l) a None × promise l (Some a) × (trees s ≡ print a)
Prints reads refuses promise print scope l (Err e) = e.kind ≢ OutOfMemory → Refuses reads refuses (started scope l) e × promise l None
