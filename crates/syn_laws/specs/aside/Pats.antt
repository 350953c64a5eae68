-- Patterns without their spans, by what a supplied subtree is without its own.
use Rattle.std.specs.Prelude.{Option, map, option_map}
use Rattle.token_core.specs.Loops.{Many}
use Rattle.token_core.specs.Same.{bare_stream}
use Rattle.token_core.specs.Tokens as token
use Rattle.syn_attr.specs.attr.Attrs.{Attribute as Attr, expr_macro_of}
use Rattle.syn_attr.specs.declared.expr.Expr.{Expr}
use Rattle.syn_pat.specs.declared.pat.PatOf.TheFolds.{fold-PatOf}
use Rattle.syn_pat.specs.declared.pat.PatOf.TheOpen as o
use Rattle.syn_pat.specs.declared.pat.PatOf.TheVariants as v
use Rattle.syn_pat.specs.declared.pat.PatRangeBoundOf.TheVariants as bounds
use Rattle.syn_pat.specs.declared.pat.PatWild.{PatWild}
use Rattle.syn_pat.specs.pat.Pats.{Attrs, LayerOf, Pat, PatGuard, PatIdent, PatOr, PatParen, PatPath, PatRange, PatRangeBound, PatReference, PatRest, PatSlice, PatStruct, PatTuple, PatTupleStruct, PatType, FieldPat, guard_of, binding_of, or_of, paren_of, reference_of, slice_of, struct_of, tuple_of, tuple_struct_of, path_pat_of, pat_range_of, typed_of, field_of, rest_of, wild_of}
use Rattle.syn_ty.specs.ty.Trees.{Path, QSelf, TypeTree}
use Rattle.syn_laws.specs.aside.Attrs as attr
use Rattle.syn_path.specs.aside.Paths as paths
use Rattle.syn_path.specs.aside.Tokens.{ident, mark, word, member, limits_of, many, brace, bracket, paren as paren_token}
use Rattle.syn_laws.specs.aside.Types as types

module _ {X : Type 0} (subtree : X → X) where
  abbrev pub attrs : Attrs X → Attrs X
  attrs = attr.attributes subtree

  abbrev pub value : Expr X → Expr X
  value = attr.value subtree

  abbrev pub qself : Option (QSelf (Attr X) (Expr X)) → Option (QSelf (Attr X) (Expr X))
  qself = option_map (types.qself attrs value)

  abbrev pub path : Path (Attr X) (Expr X) → Path (Attr X) (Expr X)
  path = types.path attrs value

  abbrev pub ty : TypeTree (Attr X) (Expr X) → TypeTree (Attr X) (Expr X)
  ty = types.ty attrs value

  abbrev pub rest : PatRest X → PatRest X
  rest x = rest_of (attrs x.attrs) (mark x.dot2_token)

  abbrev pub wild : PatWild X → PatWild X
  wild x = wild_of (attrs x.attrs) (word x.underscore_token)

  abbrev pub by_path : PatPath X → PatPath X
  by_path x = path_pat_of (attrs x.attrs) (qself x.qself) (path x.path)

  abbrev pub range_bound : PatRangeBound X → PatRangeBound X
  range_bound (bounds.Const x) = bounds.Const (attr.expr_const subtree x)
  range_bound (bounds.Lit x) = bounds.Lit (attr.expr_lit subtree x)
  range_bound (bounds.Path x) = bounds.Path (by_path x)

  abbrev pub range : PatRange X → PatRange X
  range x = pat_range_of (attrs x.attrs) (option_map range_bound x.start) (limits_of x.limits) (option_map range_bound x.end)

  -- parts of a layer, whose patterns within are without their spans
  abbrev pub field_layer : FieldPat X → FieldPat X
  field_layer x = field_of (attrs x.attrs) (member x.member) (option_map mark x.colon_token) x.pat

  abbrev pub subpat_layer : token.At × Pat X → token.At × Pat X
  subpat_layer x = (mark x.0, x.1)

  abbrev pub joined : {P : Type 0} → (P → P) → Many (Pat X) P → Many (Pat X) P
  joined f w = (w.0, map f w.1)

  abbrev pub pat_step : LayerOf X (Pat X) → Pat X
  pat_step (o.Const x) = v.Const (attr.expr_const subtree x)
  pat_step (o.Guard x) = v.Guard (guard_of (attrs x.attrs) x.pat (word x.if_token) (value x.guard))
  pat_step (o.Ident x) = v.Ident (binding_of (attrs x.attrs) (option_map word x.by_ref) (option_map word x.mutability) (ident x.ident) (option_map subpat_layer x.subpat))
  pat_step (o.Lit x) = v.Lit (attr.expr_lit subtree x)
  pat_step (o.Macro x) = v.Macro (expr_macro_of (attrs x.attrs) (paths.mac x.mac))
  pat_step (o.Or x) = v.Or (or_of (attrs x.attrs) (option_map mark x.leading_vert) (joined mark x.cases))
  pat_step (o.Paren x) = v.Paren (paren_of (attrs x.attrs) (paren_token x.paren_token) x.pat)
  pat_step (o.Path x) = v.Path (by_path x)
  pat_step (o.Range x) = v.Range (range x)
  pat_step (o.Reference x) = v.Reference (reference_of (attrs x.attrs) (mark x.and_token) (option_map word x.mutability) x.pat)
  pat_step (o.Rest x) = v.Rest (rest x)
  pat_step (o.Slice x) = v.Slice (slice_of (attrs x.attrs) (bracket x.bracket_token) (joined mark x.elems))
  pat_step (o.Struct x) = v.Struct (struct_of (attrs x.attrs) (qself x.qself) (path x.path) (brace x.brace_token) (many field_layer mark x.fields) (option_map rest x.rest))
  pat_step (o.Tuple x) = v.Tuple (tuple_of (attrs x.attrs) (paren_token x.paren_token) (joined mark x.elems))
  pat_step (o.TupleStruct x) = v.TupleStruct (tuple_struct_of (attrs x.attrs) (qself x.qself) (path x.path) (paren_token x.paren_token) (joined mark x.elems))
  pat_step (o.«Type» x) = v.«Type» (typed_of (attrs x.attrs) x.pat (mark x.colon_token) (ty x.ty))
  pat_step (o.Verbatim x) = v.Verbatim (bare_stream x)
  pat_step (o.Wild x) = v.Wild (wild x)

  unfoldable pub pat : Pat X → Pat X
  pat = fold-PatOf (Attr X) (Path (Attr X) (Expr X)) (QSelf (Attr X) (Expr X)) (TypeTree (Attr X) (Expr X)) X (Pat X) pat_step

  abbrev pub subpat : token.At × Pat X → token.At × Pat X
  subpat x = (mark x.0, pat x.1)

  abbrev pub field : FieldPat X → FieldPat X
  field x = field_of (attrs x.attrs) (member x.member) (option_map mark x.colon_token) (pat x.pat)

  abbrev pub guarded : PatGuard X → PatGuard X
  guarded x = guard_of (attrs x.attrs) (pat x.pat) (word x.if_token) (value x.guard)

  abbrev pub binding : PatIdent X → PatIdent X
  binding x = binding_of (attrs x.attrs) (option_map word x.by_ref) (option_map word x.mutability) (ident x.ident) (option_map subpat x.subpat)

  abbrev pub alternatives : PatOr X → PatOr X
  alternatives x = or_of (attrs x.attrs) (option_map mark x.leading_vert) (many pat mark x.cases)

  abbrev pub paren : PatParen X → PatParen X
  paren x = paren_of (attrs x.attrs) (paren_token x.paren_token) (pat x.pat)

  abbrev pub reference : PatReference X → PatReference X
  reference x = reference_of (attrs x.attrs) (mark x.and_token) (option_map word x.mutability) (pat x.pat)

  abbrev pub slice : PatSlice X → PatSlice X
  slice x = slice_of (attrs x.attrs) (bracket x.bracket_token) (many pat mark x.elems)

  abbrev pub fielded : PatStruct X → PatStruct X
  fielded x = struct_of (attrs x.attrs) (qself x.qself) (path x.path) (brace x.brace_token) (many field mark x.fields) (option_map rest x.rest)

  abbrev pub tuple : PatTuple X → PatTuple X
  tuple x = tuple_of (attrs x.attrs) (paren_token x.paren_token) (many pat mark x.elems)

  abbrev pub tuple_struct : PatTupleStruct X → PatTupleStruct X
  tuple_struct x = tuple_struct_of (attrs x.attrs) (qself x.qself) (path x.path) (paren_token x.paren_token) (many pat mark x.elems)

  abbrev pub typed : PatType X → PatType X
  typed x = typed_of (attrs x.attrs) (pat x.pat) (mark x.colon_token) (ty x.ty)
