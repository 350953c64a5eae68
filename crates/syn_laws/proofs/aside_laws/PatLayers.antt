-- Patterns without their spans: by their parts, and what is asked of them.
use Rattle.std.proofs.Common.{◌≡◌, Bool, false, List, [], ◌∷◌, Option, Some, None, is_some, map, option_map, refl, sym, ◌∙◌, ap, subst}
use Rattle.token_core.specs.declared.range.RangeLimits.{RangeLimits}
use Rattle.token_core.specs.declared.tree.Ident.{Ident}
use Rattle.token_core.specs.Same.{bare_stream}
use Rattle.token_core.specs.Tokens as token
use Rattle.token_core.specs.Trees.{TokenStream}
use Rattle.syn_attr.specs.attr.Attrs.{Attribute as Attr, expr_macro_of}
use Rattle.syn_attr.specs.declared.expr.Expr.{Expr}
use Rattle.syn_attr.specs.declared.expr.ExprConstOf.{ExprConstOf}
use Rattle.syn_attr.specs.declared.expr.ExprLitOf.{ExprLitOf}
use Rattle.syn_attr.specs.declared.expr.ExprMacroOf.{ExprMacroOf}
use Rattle.syn_pat.specs.declared.pat.PatOf.{roll-PatOf, out-PatOf, roll-out-PatOf, map-PatOf}
use Rattle.syn_pat.specs.declared.pat.PatOf.TheFolds.{fold-roll-PatOf}
use Rattle.syn_pat.specs.declared.pat.PatOf.TheOpen as o
use Rattle.syn_pat.specs.declared.pat.PatOf.TheVariants as v
use Rattle.syn_pat.specs.declared.pat.PatWild.{PatWild}
use Rattle.syn_pat.specs.pat.Pats.{Attrs, LayerOf, Pat, PatGuard, PatIdent, PatOr, PatParen, PatPath, PatRange, PatRangeBound, PatReference, PatRest, PatSlice, PatStruct, PatTuple, PatTupleStruct, PatType, FieldPat, binding_of, struct_of, field_of, pat_range_of, is_rest, is_rest_layer}
use Rattle.syn_pat.specs.pat.Reading.{open_range, open_range_layer}
use Rattle.syn_ty.specs.ty.Trees.{Path, QSelf, TypeTree}
use Rattle.syn_laws.specs.aside.Attrs as attr
use Rattle.syn_path.specs.aside.Paths as paths
use Rattle.syn_laws.specs.aside.Pats as free
use Rattle.syn_path.specs.aside.Tokens as tokens

module _ {X : Type 0} (fx : X → X) where
  by_layer : (y : LayerOf X (Pat X)) → free.pat fx (roll-PatOf (Attr X) (Path (Attr X) (Expr X)) (QSelf (Attr X) (Expr X)) (TypeTree (Attr X) (Expr X)) X y) ≡ free.pat_step fx (map-PatOf (Attr X) (Path (Attr X) (Expr X)) (QSelf (Attr X) (Expr X)) (TypeTree (Attr X) (Expr X)) X (Pat X) (Pat X) (free.pat fx) y)
  unfolding free.pat
  by_layer y = fold-roll-PatOf (Attr X) (Path (Attr X) (Expr X)) (QSelf (Attr X) (Expr X)) (TypeTree (Attr X) (Expr X)) X (Pat X) (free.pat_step fx) y

  pub free-Const : (x : ExprConstOf (Attr X) X) → free.pat fx (v.Const x) ≡ v.Const (attr.expr_const fx x)
  free-Const x = ap (free.pat fx) (sym (v.rolls-Const x)) ∙ by_layer (o.Const x)

  pub free-Guard : (x : PatGuard X) → free.pat fx (v.Guard x) ≡ v.Guard (free.guarded fx x)
  free-Guard x = ap (free.pat fx) (sym (v.rolls-Guard x)) ∙ by_layer (o.Guard x)

  pub free-Lit : (x : ExprLitOf (Attr X)) → free.pat fx (v.Lit x) ≡ v.Lit (attr.expr_lit fx x)
  free-Lit x = ap (free.pat fx) (sym (v.rolls-Lit x)) ∙ by_layer (o.Lit x)

  pub free-Macro : (x : ExprMacroOf (Attr X)) → free.pat fx (v.Macro x) ≡ v.Macro (expr_macro_of (free.attrs fx x.attrs) (paths.mac x.mac))
  free-Macro x = ap (free.pat fx) (sym (v.rolls-Macro x)) ∙ by_layer (o.Macro x)

  pub free-Or : (x : PatOr X) → free.pat fx (v.Or x) ≡ v.Or (free.alternatives fx x)
  free-Or x = ap (free.pat fx) (sym (v.rolls-Or x)) ∙ by_layer (o.Or x)

  pub free-Paren : (x : PatParen X) → free.pat fx (v.Paren x) ≡ v.Paren (free.paren fx x)
  free-Paren x = ap (free.pat fx) (sym (v.rolls-Paren x)) ∙ by_layer (o.Paren x)

  pub free-Path : (x : PatPath X) → free.pat fx (v.Path x) ≡ v.Path (free.by_path fx x)
  free-Path x = ap (free.pat fx) (sym (v.rolls-Path x)) ∙ by_layer (o.Path x)

  pub free-Range : (x : PatRange X) → free.pat fx (v.Range x) ≡ v.Range (free.range fx x)
  free-Range x = ap (free.pat fx) (sym (v.rolls-Range x)) ∙ by_layer (o.Range x)

  pub free-Reference : (x : PatReference X) → free.pat fx (v.Reference x) ≡ v.Reference (free.reference fx x)
  free-Reference x = ap (free.pat fx) (sym (v.rolls-Reference x)) ∙ by_layer (o.Reference x)

  pub free-Rest : (x : PatRest X) → free.pat fx (v.Rest x) ≡ v.Rest (free.rest fx x)
  free-Rest x = ap (free.pat fx) (sym (v.rolls-Rest x)) ∙ by_layer (o.Rest x)

  pub free-Slice : (x : PatSlice X) → free.pat fx (v.Slice x) ≡ v.Slice (free.slice fx x)
  free-Slice x = ap (free.pat fx) (sym (v.rolls-Slice x)) ∙ by_layer (o.Slice x)

  pub free-Tuple : (x : PatTuple X) → free.pat fx (v.Tuple x) ≡ v.Tuple (free.tuple fx x)
  free-Tuple x = ap (free.pat fx) (sym (v.rolls-Tuple x)) ∙ by_layer (o.Tuple x)

  pub free-TupleStruct : (x : PatTupleStruct X) → free.pat fx (v.TupleStruct x) ≡ v.TupleStruct (free.tuple_struct fx x)
  free-TupleStruct x = ap (free.pat fx) (sym (v.rolls-TupleStruct x)) ∙ by_layer (o.TupleStruct x)

  pub free-Type : (x : PatType X) → free.pat fx (v.«Type» x) ≡ v.«Type» (free.typed fx x)
  free-Type x = ap (free.pat fx) (sym (v.rolls-Type x)) ∙ by_layer (o.«Type» x)

  pub free-Verbatim : (x : TokenStream) → free.pat fx (v.Verbatim x) ≡ v.Verbatim (bare_stream x)
  free-Verbatim x = ap (free.pat fx) (sym (v.rolls-Verbatim x)) ∙ by_layer (o.Verbatim x)

  pub free-Wild : (x : PatWild X) → free.pat fx (v.Wild x) ≡ v.Wild (free.wild fx x)
  free-Wild x = ap (free.pat fx) (sym (v.rolls-Wild x)) ∙ by_layer (o.Wild x)

  binding_by : (a : Attrs X) (r : Option token.Ref) (m : Option token.Mut) (i : Ident) (z : Option (token.At × Pat X)) → free.pat fx (v.Ident (binding_of a r m i z)) ≡ v.Ident (free.binding fx (binding_of a r m i z))
  binding_by a r m i None = ap (free.pat fx) (sym (v.rolls-Ident (binding_of a r m i None))) ∙ by_layer (o.Ident (binding_of a r m i None))
  binding_by a r m i (Some z) = ap (free.pat fx) (sym (v.rolls-Ident (binding_of a r m i (Some z)))) ∙ by_layer (o.Ident (binding_of a r m i (Some z)))

  pub free-Ident : (x : PatIdent X) → free.pat fx (v.Ident x) ≡ v.Ident (free.binding fx x)
  free-Ident x = binding_by x.attrs x.by_ref x.mutability x.ident x.subpat

  fields_map : (l : List (FieldPat X)) → map (free.field_layer fx) (map (λ (x : FieldPat X). field_of x.attrs x.member x.colon_token (free.pat fx x.pat)) l) ≡ map (free.field fx) l
  fields_map [] = refl
  fields_map (x ∷ l) = ap (λ z. free.field fx x ∷ z) (fields_map l)

  pub free-Struct : (x : PatStruct X) → free.pat fx (v.Struct x) ≡ v.Struct (free.fielded fx x)
  free-Struct x =
      ap (free.pat fx) (sym (v.rolls-Struct x)) ∙ by_layer (o.Struct x)
      ∙ ap (λ z. v.Struct (struct_of (free.attrs fx x.attrs) (free.qself fx x.qself) (free.path fx x.path) (tokens.brace x.brace_token) (z, map tokens.mark x.fields.1) (option_map (free.rest fx) x.rest))) (fields_map x.fields.0)

  -- ---- what is asked of a pattern stays: whether it is `..`, and whether it is a range that lacks a bound

  abbrev layer : Pat X → LayerOf X (Pat X)
  layer x = out-PatOf (Attr X) (Path (Attr X) (Expr X)) (QSelf (Attr X) (Expr X)) (TypeTree (Attr X) (Expr X)) X x

  rest_layer : (y : LayerOf X (Pat X)) → is_rest_layer (layer (free.pat fx (roll-PatOf (Attr X) (Path (Attr X) (Expr X)) (QSelf (Attr X) (Expr X)) (TypeTree (Attr X) (Expr X)) X y))) ≡ is_rest_layer (layer (roll-PatOf (Attr X) (Path (Attr X) (Expr X)) (QSelf (Attr X) (Expr X)) (TypeTree (Attr X) (Expr X)) X y))
  rest_layer (o.Const x) = ap (λ z. is_rest_layer (layer (free.pat fx z))) (v.rolls-Const x) ∙ ap (λ z. is_rest_layer (layer z)) (free-Const x) ∙ ap is_rest_layer (v.outs-Const (attr.expr_const fx x)) ∙ sym (ap is_rest_layer (v.outs-Const x)) ∙ ap (λ z. is_rest_layer (layer z)) (sym (v.rolls-Const x))
  rest_layer (o.Guard x) = ap (λ z. is_rest_layer (layer (free.pat fx z))) (v.rolls-Guard x) ∙ ap (λ z. is_rest_layer (layer z)) (free-Guard x) ∙ ap is_rest_layer (v.outs-Guard (free.guarded fx x)) ∙ sym (ap is_rest_layer (v.outs-Guard x)) ∙ ap (λ z. is_rest_layer (layer z)) (sym (v.rolls-Guard x))
  rest_layer (o.Ident x) = ap (λ z. is_rest_layer (layer (free.pat fx z))) (v.rolls-Ident x) ∙ ap (λ z. is_rest_layer (layer z)) (free-Ident x) ∙ ap is_rest_layer (v.outs-Ident (free.binding fx x)) ∙ sym (ap is_rest_layer (v.outs-Ident x)) ∙ ap (λ z. is_rest_layer (layer z)) (sym (v.rolls-Ident x))
  rest_layer (o.Lit x) = ap (λ z. is_rest_layer (layer (free.pat fx z))) (v.rolls-Lit x) ∙ ap (λ z. is_rest_layer (layer z)) (free-Lit x) ∙ ap is_rest_layer (v.outs-Lit (attr.expr_lit fx x)) ∙ sym (ap is_rest_layer (v.outs-Lit x)) ∙ ap (λ z. is_rest_layer (layer z)) (sym (v.rolls-Lit x))
  rest_layer (o.Macro x) = ap (λ z. is_rest_layer (layer (free.pat fx z))) (v.rolls-Macro x) ∙ ap (λ z. is_rest_layer (layer z)) (free-Macro x) ∙ ap is_rest_layer (v.outs-Macro (expr_macro_of (free.attrs fx x.attrs) (paths.mac x.mac))) ∙ sym (ap is_rest_layer (v.outs-Macro x)) ∙ ap (λ z. is_rest_layer (layer z)) (sym (v.rolls-Macro x))
  rest_layer (o.Or x) = ap (λ z. is_rest_layer (layer (free.pat fx z))) (v.rolls-Or x) ∙ ap (λ z. is_rest_layer (layer z)) (free-Or x) ∙ ap is_rest_layer (v.outs-Or (free.alternatives fx x)) ∙ sym (ap is_rest_layer (v.outs-Or x)) ∙ ap (λ z. is_rest_layer (layer z)) (sym (v.rolls-Or x))
  rest_layer (o.Paren x) = ap (λ z. is_rest_layer (layer (free.pat fx z))) (v.rolls-Paren x) ∙ ap (λ z. is_rest_layer (layer z)) (free-Paren x) ∙ ap is_rest_layer (v.outs-Paren (free.paren fx x)) ∙ sym (ap is_rest_layer (v.outs-Paren x)) ∙ ap (λ z. is_rest_layer (layer z)) (sym (v.rolls-Paren x))
  rest_layer (o.Path x) = ap (λ z. is_rest_layer (layer (free.pat fx z))) (v.rolls-Path x) ∙ ap (λ z. is_rest_layer (layer z)) (free-Path x) ∙ ap is_rest_layer (v.outs-Path (free.by_path fx x)) ∙ sym (ap is_rest_layer (v.outs-Path x)) ∙ ap (λ z. is_rest_layer (layer z)) (sym (v.rolls-Path x))
  rest_layer (o.Range x) = ap (λ z. is_rest_layer (layer (free.pat fx z))) (v.rolls-Range x) ∙ ap (λ z. is_rest_layer (layer z)) (free-Range x) ∙ ap is_rest_layer (v.outs-Range (free.range fx x)) ∙ sym (ap is_rest_layer (v.outs-Range x)) ∙ ap (λ z. is_rest_layer (layer z)) (sym (v.rolls-Range x))
  rest_layer (o.Reference x) = ap (λ z. is_rest_layer (layer (free.pat fx z))) (v.rolls-Reference x) ∙ ap (λ z. is_rest_layer (layer z)) (free-Reference x) ∙ ap is_rest_layer (v.outs-Reference (free.reference fx x)) ∙ sym (ap is_rest_layer (v.outs-Reference x)) ∙ ap (λ z. is_rest_layer (layer z)) (sym (v.rolls-Reference x))
  rest_layer (o.Rest x) = ap (λ z. is_rest_layer (layer (free.pat fx z))) (v.rolls-Rest x) ∙ ap (λ z. is_rest_layer (layer z)) (free-Rest x) ∙ ap is_rest_layer (v.outs-Rest (free.rest fx x)) ∙ sym (ap is_rest_layer (v.outs-Rest x)) ∙ ap (λ z. is_rest_layer (layer z)) (sym (v.rolls-Rest x))
  rest_layer (o.Slice x) = ap (λ z. is_rest_layer (layer (free.pat fx z))) (v.rolls-Slice x) ∙ ap (λ z. is_rest_layer (layer z)) (free-Slice x) ∙ ap is_rest_layer (v.outs-Slice (free.slice fx x)) ∙ sym (ap is_rest_layer (v.outs-Slice x)) ∙ ap (λ z. is_rest_layer (layer z)) (sym (v.rolls-Slice x))
  rest_layer (o.Struct x) = ap (λ z. is_rest_layer (layer (free.pat fx z))) (v.rolls-Struct x) ∙ ap (λ z. is_rest_layer (layer z)) (free-Struct x) ∙ ap is_rest_layer (v.outs-Struct (free.fielded fx x)) ∙ sym (ap is_rest_layer (v.outs-Struct x)) ∙ ap (λ z. is_rest_layer (layer z)) (sym (v.rolls-Struct x))
  rest_layer (o.Tuple x) = ap (λ z. is_rest_layer (layer (free.pat fx z))) (v.rolls-Tuple x) ∙ ap (λ z. is_rest_layer (layer z)) (free-Tuple x) ∙ ap is_rest_layer (v.outs-Tuple (free.tuple fx x)) ∙ sym (ap is_rest_layer (v.outs-Tuple x)) ∙ ap (λ z. is_rest_layer (layer z)) (sym (v.rolls-Tuple x))
  rest_layer (o.TupleStruct x) = ap (λ z. is_rest_layer (layer (free.pat fx z))) (v.rolls-TupleStruct x) ∙ ap (λ z. is_rest_layer (layer z)) (free-TupleStruct x) ∙ ap is_rest_layer (v.outs-TupleStruct (free.tuple_struct fx x)) ∙ sym (ap is_rest_layer (v.outs-TupleStruct x)) ∙ ap (λ z. is_rest_layer (layer z)) (sym (v.rolls-TupleStruct x))
  rest_layer (o.«Type» x) = ap (λ z. is_rest_layer (layer (free.pat fx z))) (v.rolls-Type x) ∙ ap (λ z. is_rest_layer (layer z)) (free-Type x) ∙ ap is_rest_layer (v.outs-Type (free.typed fx x)) ∙ sym (ap is_rest_layer (v.outs-Type x)) ∙ ap (λ z. is_rest_layer (layer z)) (sym (v.rolls-Type x))
  rest_layer (o.Verbatim x) = ap (λ z. is_rest_layer (layer (free.pat fx z))) (v.rolls-Verbatim x) ∙ ap (λ z. is_rest_layer (layer z)) (free-Verbatim x) ∙ ap is_rest_layer (v.outs-Verbatim (bare_stream x)) ∙ sym (ap is_rest_layer (v.outs-Verbatim x)) ∙ ap (λ z. is_rest_layer (layer z)) (sym (v.rolls-Verbatim x))
  rest_layer (o.Wild x) = ap (λ z. is_rest_layer (layer (free.pat fx z))) (v.rolls-Wild x) ∙ ap (λ z. is_rest_layer (layer z)) (free-Wild x) ∙ ap is_rest_layer (v.outs-Wild (free.wild fx x)) ∙ sym (ap is_rest_layer (v.outs-Wild x)) ∙ ap (λ z. is_rest_layer (layer z)) (sym (v.rolls-Wild x))

  pub rest_kept : (x : Pat X) → is_rest (free.pat fx x) ≡ is_rest x
  rest_kept x = subst (λ z. is_rest (free.pat fx z) ≡ is_rest z) (roll-out-PatOf (Attr X) (Path (Attr X) (Expr X)) (QSelf (Attr X) (Expr X)) (TypeTree (Attr X) (Expr X)) X x) (rest_layer (layer x))

  abbrev lacks : LayerOf X (Pat X) → Bool
  lacks y = is_some (open_range_layer y)

  lacks_parts : (a : Attrs X) (s : Option (PatRangeBound X)) (t : RangeLimits) (e : Option (PatRangeBound X)) → lacks (o.Range (free.range fx (pat_range_of a s t e))) ≡ lacks (o.Range (pat_range_of a s t e))
  lacks_parts a None t None = refl
  lacks_parts a None t (Some e) = refl
  lacks_parts a (Some s) t None = refl
  lacks_parts a (Some s) t (Some e) = refl

  lacks_range : (x : PatRange X) → lacks (o.Range (free.range fx x)) ≡ lacks (o.Range x)
  lacks_range x = lacks_parts x.attrs x.start x.limits x.end

  open_layer : (y : LayerOf X (Pat X)) → lacks (layer (free.pat fx (roll-PatOf (Attr X) (Path (Attr X) (Expr X)) (QSelf (Attr X) (Expr X)) (TypeTree (Attr X) (Expr X)) X y))) ≡ lacks (layer (roll-PatOf (Attr X) (Path (Attr X) (Expr X)) (QSelf (Attr X) (Expr X)) (TypeTree (Attr X) (Expr X)) X y))
  open_layer (o.Const x) = ap (λ z. lacks (layer (free.pat fx z))) (v.rolls-Const x) ∙ ap (λ z. lacks (layer z)) (free-Const x) ∙ ap lacks (v.outs-Const (attr.expr_const fx x)) ∙ sym (ap lacks (v.outs-Const x)) ∙ ap (λ z. lacks (layer z)) (sym (v.rolls-Const x))
  open_layer (o.Guard x) = ap (λ z. lacks (layer (free.pat fx z))) (v.rolls-Guard x) ∙ ap (λ z. lacks (layer z)) (free-Guard x) ∙ ap lacks (v.outs-Guard (free.guarded fx x)) ∙ sym (ap lacks (v.outs-Guard x)) ∙ ap (λ z. lacks (layer z)) (sym (v.rolls-Guard x))
  open_layer (o.Ident x) = ap (λ z. lacks (layer (free.pat fx z))) (v.rolls-Ident x) ∙ ap (λ z. lacks (layer z)) (free-Ident x) ∙ ap lacks (v.outs-Ident (free.binding fx x)) ∙ sym (ap lacks (v.outs-Ident x)) ∙ ap (λ z. lacks (layer z)) (sym (v.rolls-Ident x))
  open_layer (o.Lit x) = ap (λ z. lacks (layer (free.pat fx z))) (v.rolls-Lit x) ∙ ap (λ z. lacks (layer z)) (free-Lit x) ∙ ap lacks (v.outs-Lit (attr.expr_lit fx x)) ∙ sym (ap lacks (v.outs-Lit x)) ∙ ap (λ z. lacks (layer z)) (sym (v.rolls-Lit x))
  open_layer (o.Macro x) = ap (λ z. lacks (layer (free.pat fx z))) (v.rolls-Macro x) ∙ ap (λ z. lacks (layer z)) (free-Macro x) ∙ ap lacks (v.outs-Macro (expr_macro_of (free.attrs fx x.attrs) (paths.mac x.mac))) ∙ sym (ap lacks (v.outs-Macro x)) ∙ ap (λ z. lacks (layer z)) (sym (v.rolls-Macro x))
  open_layer (o.Or x) = ap (λ z. lacks (layer (free.pat fx z))) (v.rolls-Or x) ∙ ap (λ z. lacks (layer z)) (free-Or x) ∙ ap lacks (v.outs-Or (free.alternatives fx x)) ∙ sym (ap lacks (v.outs-Or x)) ∙ ap (λ z. lacks (layer z)) (sym (v.rolls-Or x))
  open_layer (o.Paren x) = ap (λ z. lacks (layer (free.pat fx z))) (v.rolls-Paren x) ∙ ap (λ z. lacks (layer z)) (free-Paren x) ∙ ap lacks (v.outs-Paren (free.paren fx x)) ∙ sym (ap lacks (v.outs-Paren x)) ∙ ap (λ z. lacks (layer z)) (sym (v.rolls-Paren x))
  open_layer (o.Path x) = ap (λ z. lacks (layer (free.pat fx z))) (v.rolls-Path x) ∙ ap (λ z. lacks (layer z)) (free-Path x) ∙ ap lacks (v.outs-Path (free.by_path fx x)) ∙ sym (ap lacks (v.outs-Path x)) ∙ ap (λ z. lacks (layer z)) (sym (v.rolls-Path x))
  open_layer (o.Range x) = ap (λ z. lacks (layer (free.pat fx z))) (v.rolls-Range x) ∙ ap (λ z. lacks (layer z)) (free-Range x) ∙ ap lacks (v.outs-Range (free.range fx x)) ∙ lacks_range x ∙ sym (ap lacks (v.outs-Range x)) ∙ ap (λ z. lacks (layer z)) (sym (v.rolls-Range x))
  open_layer (o.Reference x) = ap (λ z. lacks (layer (free.pat fx z))) (v.rolls-Reference x) ∙ ap (λ z. lacks (layer z)) (free-Reference x) ∙ ap lacks (v.outs-Reference (free.reference fx x)) ∙ sym (ap lacks (v.outs-Reference x)) ∙ ap (λ z. lacks (layer z)) (sym (v.rolls-Reference x))
  open_layer (o.Rest x) = ap (λ z. lacks (layer (free.pat fx z))) (v.rolls-Rest x) ∙ ap (λ z. lacks (layer z)) (free-Rest x) ∙ ap lacks (v.outs-Rest (free.rest fx x)) ∙ sym (ap lacks (v.outs-Rest x)) ∙ ap (λ z. lacks (layer z)) (sym (v.rolls-Rest x))
  open_layer (o.Slice x) = ap (λ z. lacks (layer (free.pat fx z))) (v.rolls-Slice x) ∙ ap (λ z. lacks (layer z)) (free-Slice x) ∙ ap lacks (v.outs-Slice (free.slice fx x)) ∙ sym (ap lacks (v.outs-Slice x)) ∙ ap (λ z. lacks (layer z)) (sym (v.rolls-Slice x))
  open_layer (o.Struct x) = ap (λ z. lacks (layer (free.pat fx z))) (v.rolls-Struct x) ∙ ap (λ z. lacks (layer z)) (free-Struct x) ∙ ap lacks (v.outs-Struct (free.fielded fx x)) ∙ sym (ap lacks (v.outs-Struct x)) ∙ ap (λ z. lacks (layer z)) (sym (v.rolls-Struct x))
  open_layer (o.Tuple x) = ap (λ z. lacks (layer (free.pat fx z))) (v.rolls-Tuple x) ∙ ap (λ z. lacks (layer z)) (free-Tuple x) ∙ ap lacks (v.outs-Tuple (free.tuple fx x)) ∙ sym (ap lacks (v.outs-Tuple x)) ∙ ap (λ z. lacks (layer z)) (sym (v.rolls-Tuple x))
  open_layer (o.TupleStruct x) = ap (λ z. lacks (layer (free.pat fx z))) (v.rolls-TupleStruct x) ∙ ap (λ z. lacks (layer z)) (free-TupleStruct x) ∙ ap lacks (v.outs-TupleStruct (free.tuple_struct fx x)) ∙ sym (ap lacks (v.outs-TupleStruct x)) ∙ ap (λ z. lacks (layer z)) (sym (v.rolls-TupleStruct x))
  open_layer (o.«Type» x) = ap (λ z. lacks (layer (free.pat fx z))) (v.rolls-Type x) ∙ ap (λ z. lacks (layer z)) (free-Type x) ∙ ap lacks (v.outs-Type (free.typed fx x)) ∙ sym (ap lacks (v.outs-Type x)) ∙ ap (λ z. lacks (layer z)) (sym (v.rolls-Type x))
  open_layer (o.Verbatim x) = ap (λ z. lacks (layer (free.pat fx z))) (v.rolls-Verbatim x) ∙ ap (λ z. lacks (layer z)) (free-Verbatim x) ∙ ap lacks (v.outs-Verbatim (bare_stream x)) ∙ sym (ap lacks (v.outs-Verbatim x)) ∙ ap (λ z. lacks (layer z)) (sym (v.rolls-Verbatim x))
  open_layer (o.Wild x) = ap (λ z. lacks (layer (free.pat fx z))) (v.rolls-Wild x) ∙ ap (λ z. lacks (layer z)) (free-Wild x) ∙ ap lacks (v.outs-Wild (free.wild fx x)) ∙ sym (ap lacks (v.outs-Wild x)) ∙ ap (λ z. lacks (layer z)) (sym (v.rolls-Wild x))

  none_of : {A : Type 0} (x : Option A) → is_some x ≡ false → x ≡ None
  none_of None e = refl
  none_of (Some x) e = cc

  pub open_kept : (x y : Pat X) → free.pat fx y ≡ free.pat fx x → open_range x ≡ None → open_range y ≡ None
  open_kept x y e h = none_of (open_range y) (sym (kept y) ∙ ap (λ z. lacks (layer z)) e ∙ kept x ∙ ap is_some h)
    where
      kept : (z : Pat X) → lacks (layer (free.pat fx z)) ≡ lacks (layer z)
      kept z = subst (λ t. lacks (layer (free.pat fx t)) ≡ lacks (layer t)) (roll-out-PatOf (Attr X) (Path (Attr X) (Expr X)) (QSelf (Attr X) (Expr X)) (TypeTree (Attr X) (Expr X)) X z) (open_layer (layer z))
