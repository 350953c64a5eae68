-- The normal form of each kind of pattern, and that a pattern stays of its kind.
use Rattle.std.proofs.Common.{◌≡◌, List, [], ◌∷◌, Option, Some, None, map, refl, sym, ◌∙◌, ap}
use Rattle.syn_pat.proofs.pat_laws.words.Tokens.{Mark, Word, Ident, TokenStream}
use Rattle.syn_pat.proofs.pat_laws.words.Paths.{Place}
use Rattle.syn_pat.proofs.pat_laws.words.Attributes.{ExprConstOf, Expr, normal_values_of}
use Rattle.syn_pat.proofs.pat_laws.words.Types.{Path, QSelf, TypeTree}
use Rattle.syn_pat.proofs.pat_laws.words.Patterns.{out-PatOf, map-PatOf, fold-roll-PatOf, fold_out-PatOf, Attrs, Pat, PatIdent, PatRange, PatReference, PatRest, PatSlice, PatType, FieldPat, is_rest, binding_of, struct_of, field_of}
use Rattle.syn_pat.specs.declared.pat.PatOf.TheOpen as o
use Rattle.syn_pat.specs.declared.pat.PatOf.TheVariants as v
use Rattle.syn_pat.specs.declared.pat.PatWild.{PatWild}
use Rattle.syn_attr.specs.declared.expr.ExprLitOf.{ExprLitOf}
use Rattle.syn_attr.specs.declared.expr.ExprMacroOf.{ExprMacroOf}
use Rattle.syn_attr.specs.attr.Normal as attr
use Rattle.syn_attr.specs.attr.Attrs.{Attribute as Attr}
use Rattle.syn_pat.specs.pat.Pats.{LayerOf, PatGuard, PatOr, PatParen, PatPath, PatStruct, PatTuple, PatTupleStruct, is_rest_layer}
use Rattle.syn_pat.specs.pat.Normal as n
use Rattle.syn_ty.specs.ty.Normal as types
use Rattle.syn_pat.specs.pat.Normal.{pat, pat_step}

module _ {X : Type 0} (nx : Place → X → X) where
  -- a field after its pattern
  abbrev inside : FieldPat X → FieldPat X
  inside x = field_of x.attrs x.member x.colon_token (pat nx x.pat)

  fields_mapped : (l : List (FieldPat X)) → map (n.field_around nx) (map inside l) ≡ map (n.field nx) l
  fields_mapped [] = refl
  fields_mapped (x ∷ l) = ap (λ z. n.field nx x ∷ z) (fields_mapped l)

  pub normal-Const : (x : ExprConstOf (Attr X) X) → pat nx (v.Const x) ≡ v.Const (attr.expr_const nx x)
  unfolding pat
  normal-Const x = ap (pat nx) (sym (v.rolls-Const x)) ∙ fold-roll-PatOf (Attr X) (Path (Attr X) (Expr X)) (QSelf (Attr X) (Expr X)) (TypeTree (Attr X) (Expr X)) X (Pat X) (pat_step nx) (o.Const x)

  pub normal-Guard : (x : PatGuard X) → pat nx (v.Guard x) ≡ v.Guard (n.guarded nx x)
  unfolding pat
  normal-Guard x = ap (pat nx) (sym (v.rolls-Guard x)) ∙ fold-roll-PatOf (Attr X) (Path (Attr X) (Expr X)) (QSelf (Attr X) (Expr X)) (TypeTree (Attr X) (Expr X)) X (Pat X) (pat_step nx) (o.Guard x)

  -- by the pattern after its `@`
  binding_by : (a : Attrs X) (r : Option (Word 14)) (m : Option (Word 13)) (i : Ident) (z : Option (Mark 6 1 × Pat X)) → pat nx (v.Ident (binding_of a r m i z)) ≡ v.Ident (n.binding nx (binding_of a r m i z))
  unfolding pat
  binding_by a r m i None = ap (pat nx) (sym (v.rolls-Ident (binding_of a r m i None))) ∙ fold-roll-PatOf (Attr X) (Path (Attr X) (Expr X)) (QSelf (Attr X) (Expr X)) (TypeTree (Attr X) (Expr X)) X (Pat X) (pat_step nx) (o.Ident (binding_of a r m i None))
  binding_by a r m i (Some z) = ap (pat nx) (sym (v.rolls-Ident (binding_of a r m i (Some z)))) ∙ fold-roll-PatOf (Attr X) (Path (Attr X) (Expr X)) (QSelf (Attr X) (Expr X)) (TypeTree (Attr X) (Expr X)) X (Pat X) (pat_step nx) (o.Ident (binding_of a r m i (Some z)))

  pub normal-Ident : (x : PatIdent X) → pat nx (v.Ident x) ≡ v.Ident (n.binding nx x)
  normal-Ident x = binding_by x.attrs x.by_ref x.mutability x.ident x.subpat

  pub normal-Lit : (x : ExprLitOf (Attr X)) → pat nx (v.Lit x) ≡ v.Lit (attr.literal nx x)
  unfolding pat
  normal-Lit x = ap (pat nx) (sym (v.rolls-Lit x)) ∙ fold-roll-PatOf (Attr X) (Path (Attr X) (Expr X)) (QSelf (Attr X) (Expr X)) (TypeTree (Attr X) (Expr X)) X (Pat X) (pat_step nx) (o.Lit x)

  pub normal-Macro : (x : ExprMacroOf (Attr X)) → pat nx (v.Macro x) ≡ v.Macro (attr.expr_macro nx x)
  unfolding pat
  normal-Macro x = ap (pat nx) (sym (v.rolls-Macro x)) ∙ fold-roll-PatOf (Attr X) (Path (Attr X) (Expr X)) (QSelf (Attr X) (Expr X)) (TypeTree (Attr X) (Expr X)) X (Pat X) (pat_step nx) (o.Macro x)

  pub normal-Or : (x : PatOr X) → pat nx (v.Or x) ≡ v.Or (n.alternatives nx x)
  unfolding pat
  normal-Or x = ap (pat nx) (sym (v.rolls-Or x)) ∙ fold-roll-PatOf (Attr X) (Path (Attr X) (Expr X)) (QSelf (Attr X) (Expr X)) (TypeTree (Attr X) (Expr X)) X (Pat X) (pat_step nx) (o.Or x)

  pub normal-Paren : (x : PatParen X) → pat nx (v.Paren x) ≡ v.Paren (n.paren nx x)
  unfolding pat
  normal-Paren x = ap (pat nx) (sym (v.rolls-Paren x)) ∙ fold-roll-PatOf (Attr X) (Path (Attr X) (Expr X)) (QSelf (Attr X) (Expr X)) (TypeTree (Attr X) (Expr X)) X (Pat X) (pat_step nx) (o.Paren x)

  pub normal-Path : (x : PatPath X) → pat nx (v.Path x) ≡ v.Path (n.by_path nx x)
  unfolding pat
  normal-Path x = ap (pat nx) (sym (v.rolls-Path x)) ∙ fold-roll-PatOf (Attr X) (Path (Attr X) (Expr X)) (QSelf (Attr X) (Expr X)) (TypeTree (Attr X) (Expr X)) X (Pat X) (pat_step nx) (o.Path x)

  pub normal-Range : (x : PatRange X) → pat nx (v.Range x) ≡ v.Range (n.range nx x)
  unfolding pat
  normal-Range x = ap (pat nx) (sym (v.rolls-Range x)) ∙ fold-roll-PatOf (Attr X) (Path (Attr X) (Expr X)) (QSelf (Attr X) (Expr X)) (TypeTree (Attr X) (Expr X)) X (Pat X) (pat_step nx) (o.Range x)

  pub normal-Reference : (x : PatReference X) → pat nx (v.Reference x) ≡ v.Reference (n.reference nx x)
  unfolding pat
  normal-Reference x = ap (pat nx) (sym (v.rolls-Reference x)) ∙ fold-roll-PatOf (Attr X) (Path (Attr X) (Expr X)) (QSelf (Attr X) (Expr X)) (TypeTree (Attr X) (Expr X)) X (Pat X) (pat_step nx) (o.Reference x)

  pub normal-Rest : (x : PatRest X) → pat nx (v.Rest x) ≡ v.Rest (n.rest nx x)
  unfolding pat
  normal-Rest x = ap (pat nx) (sym (v.rolls-Rest x)) ∙ fold-roll-PatOf (Attr X) (Path (Attr X) (Expr X)) (QSelf (Attr X) (Expr X)) (TypeTree (Attr X) (Expr X)) X (Pat X) (pat_step nx) (o.Rest x)

  pub normal-Slice : (x : PatSlice X) → pat nx (v.Slice x) ≡ v.Slice (n.slice nx x)
  unfolding pat
  normal-Slice x = ap (pat nx) (sym (v.rolls-Slice x)) ∙ fold-roll-PatOf (Attr X) (Path (Attr X) (Expr X)) (QSelf (Attr X) (Expr X)) (TypeTree (Attr X) (Expr X)) X (Pat X) (pat_step nx) (o.Slice x)

  pub normal-Struct : (x : PatStruct X) → pat nx (v.Struct x) ≡ v.Struct (n.fielded nx x)
  unfolding pat
  normal-Struct x =
      ap (pat nx) (sym (v.rolls-Struct x)) ∙ fold-roll-PatOf (Attr X) (Path (Attr X) (Expr X)) (QSelf (Attr X) (Expr X)) (TypeTree (Attr X) (Expr X)) X (Pat X) (pat_step nx) (o.Struct x)
      ∙ ap (λ z. v.Struct (struct_of (n.attrs nx x.attrs) (types.optional_qself (n.attrs nx) (normal_values_of nx) x.qself) (types.path (n.attrs nx) (normal_values_of nx) x.path) x.brace_token (z, x.fields.1) (n.optional_rest nx x.rest))) (fields_mapped x.fields.0)

  pub normal-Tuple : (x : PatTuple X) → pat nx (v.Tuple x) ≡ v.Tuple (n.tuple nx x)
  unfolding pat
  normal-Tuple x = ap (pat nx) (sym (v.rolls-Tuple x)) ∙ fold-roll-PatOf (Attr X) (Path (Attr X) (Expr X)) (QSelf (Attr X) (Expr X)) (TypeTree (Attr X) (Expr X)) X (Pat X) (pat_step nx) (o.Tuple x)

  pub normal-TupleStruct : (x : PatTupleStruct X) → pat nx (v.TupleStruct x) ≡ v.TupleStruct (n.tuple_struct nx x)
  unfolding pat
  normal-TupleStruct x = ap (pat nx) (sym (v.rolls-TupleStruct x)) ∙ fold-roll-PatOf (Attr X) (Path (Attr X) (Expr X)) (QSelf (Attr X) (Expr X)) (TypeTree (Attr X) (Expr X)) X (Pat X) (pat_step nx) (o.TupleStruct x)

  pub normal-Type : (x : PatType X) → pat nx (v.«Type» x) ≡ v.«Type» (n.typed nx x)
  unfolding pat
  normal-Type x = ap (pat nx) (sym (v.rolls-Type x)) ∙ fold-roll-PatOf (Attr X) (Path (Attr X) (Expr X)) (QSelf (Attr X) (Expr X)) (TypeTree (Attr X) (Expr X)) X (Pat X) (pat_step nx) (o.«Type» x)

  pub normal-Verbatim : (x : TokenStream) → pat nx (v.Verbatim x) ≡ v.Verbatim x
  unfolding pat
  normal-Verbatim x = ap (pat nx) (sym (v.rolls-Verbatim x)) ∙ fold-roll-PatOf (Attr X) (Path (Attr X) (Expr X)) (QSelf (Attr X) (Expr X)) (TypeTree (Attr X) (Expr X)) X (Pat X) (pat_step nx) (o.Verbatim x)

  pub normal-Wild : (x : PatWild X) → pat nx (v.Wild x) ≡ v.Wild (n.wild nx x)
  unfolding pat
  normal-Wild x = ap (pat nx) (sym (v.rolls-Wild x)) ∙ fold-roll-PatOf (Attr X) (Path (Attr X) (Expr X)) (QSelf (Attr X) (Expr X)) (TypeTree (Attr X) (Expr X)) X (Pat X) (pat_step nx) (o.Wild x)

  -- a pattern stays of its kind
  kept_layer : (y : LayerOf X (Pat X)) → is_rest (pat_step nx (map-PatOf (Attr X) (Path (Attr X) (Expr X)) (QSelf (Attr X) (Expr X)) (TypeTree (Attr X) (Expr X)) X (Pat X) (Pat X) (pat nx) y)) ≡ is_rest_layer y
  kept_layer (o.Const x) = ap is_rest_layer (v.outs-Const _)
  kept_layer (o.Guard x) = ap is_rest_layer (v.outs-Guard _)
  kept_layer (o.Ident x) = ap is_rest_layer (v.outs-Ident _)
  kept_layer (o.Lit x) = ap is_rest_layer (v.outs-Lit _)
  kept_layer (o.Macro x) = ap is_rest_layer (v.outs-Macro _)
  kept_layer (o.Or x) = ap is_rest_layer (v.outs-Or _)
  kept_layer (o.Paren x) = ap is_rest_layer (v.outs-Paren _)
  kept_layer (o.Path x) = ap is_rest_layer (v.outs-Path _)
  kept_layer (o.Range x) = ap is_rest_layer (v.outs-Range _)
  kept_layer (o.Reference x) = ap is_rest_layer (v.outs-Reference _)
  kept_layer (o.Rest x) = ap is_rest_layer (v.outs-Rest _)
  kept_layer (o.Slice x) = ap is_rest_layer (v.outs-Slice _)
  kept_layer (o.Struct x) = ap is_rest_layer (v.outs-Struct _)
  kept_layer (o.Tuple x) = ap is_rest_layer (v.outs-Tuple _)
  kept_layer (o.TupleStruct x) = ap is_rest_layer (v.outs-TupleStruct _)
  kept_layer (o.«Type» x) = ap is_rest_layer (v.outs-Type _)
  kept_layer (o.Verbatim x) = ap is_rest_layer (v.outs-Verbatim _)
  kept_layer (o.Wild x) = ap is_rest_layer (v.outs-Wild _)

  pub kind_kept : (x : Pat X) → is_rest (pat nx x) ≡ is_rest x
  unfolding pat
  kind_kept x = ap is_rest (fold_out-PatOf (Attr X) (Path (Attr X) (Expr X)) (QSelf (Attr X) (Expr X)) (TypeTree (Attr X) (Expr X)) X (Pat X) (pat_step nx) x) ∙ kept_layer (out-PatOf (Attr X) (Path (Attr X) (Expr X)) (QSelf (Attr X) (Expr X)) (TypeTree (Attr X) (Expr X)) X x)
