-- Whether a pattern begins with `mut` is told by its tree, and so is whether it is a range that lacks an end: both stay in its normal form.
use Rattle.std.proofs.Common.{◌≡◌, Bool, true, false, not, ◌||◌, if◌then◌else◌, is_some, List, Option, Some, None, refl, sym, ◌∙◌, ap}
use Rattle.syn_pat.proofs.pat_laws.words.Tokens.{Lit, RangeLimits, Ident, Joint, is_keyword, AreListed, none_left, last_value, value_and_mark, Nowhere, text_of, is_done, is_text, sees_word, last_char, more_chars, IsLit, a_literal, a_bool, a_negative, IsMark, is_mark, is_word, AreLimits, half_open, closed, Bytes, Toks, done, word, mark, TokenStream, punct, row, trees}
use Rattle.syn_pat.proofs.pat_laws.words.Paths.{Macro, PathStyle, Place, IsCall, a_macro, ModPath, nothing, IsBarePath, a_bare_path, no_leading, leading, last_segment, more_segments}
use Rattle.syn_pat.proofs.pat_laws.words.Attributes.{Expr, ExprConstOf}
use Rattle.syn_pat.proofs.pat_laws.words.Types.{Sep, is_segment_word, IsAnyPath, unqualified, qualified, by_type, by_type_as_path, IsSegment, a_word, a_word_with_arguments, Manner, loosely, plainly, clearly, IsVerbatim, Parts, absent, present, Relation, Path, PathSegment, QSelf, TypeTree}
use Rattle.syn_pat.proofs.pat_laws.words.Patterns.{out-PatOf, map-PatOf, fold_out-PatOf, PatPlace, IsBinding, a_binding, IsBoxed, a_box, IsSingle, a_binding_pat, a_wild, a_rest, a_const, a_call, a_path, a_range, a_reference, a_mutable_reference, a_paren, a_tuple, a_slice, a_tuple_struct, a_struct, a_verbatim, Pat, PatIdent, PatRange, PatRangeBound, open_range, is_binding_name, types_to, IsConstBlock, a_const_block, IsPatPath, a_pat_path, IsRange, without_end, without_start, with_both, IsStart, a_literal_start, a_path_start, a_const_start}
use Rattle.token_core.specs.Tokens as token
use Rattle.token_core.proofs.Took.{seen_word}
use Rattle.syn_path.specs.declared.path.PathStyle.TheVariants.{Expr as expressions}
use Rattle.syn_attr.specs.attr.Attrs.{Attribute as Attr}
use Rattle.syn_forms.specs.paths.Reading.{is_named_word}
use Rattle.syn_ty.specs.path.Spelling.{a_path as a_written_path}
use Rattle.syn_ty.specs.ty.Parts.{is_clear}
use Rattle.syn_path.proofs.Moves.{row_before, words_before}
use Rattle.syn_pat.specs.declared.pat.PatOf.TheOpen as o
use Rattle.syn_pat.specs.declared.pat.PatOf.TheVariants as v
use Rattle.syn_pat.specs.pat.Admitted.{a_literal as a_literal_pat}
use Rattle.syn_pat.specs.pat.Normal.{optional_bound, pat, pat_step, range}
use Rattle.syn_pat.specs.pat.Pats.{LayerOf}
use Rattle.syn_pat.specs.pat.Reading.{limits_span, open_limits, open_range_layer}
use Rattle.syn_pat.proofs.pat_laws.complete.Names.{unlike}

-- ---- by the tree

-- `mut` without `ref` before it
abbrev mut_of : Option token.Ref → Option token.Mut → Bool
mut_of None u = is_some u
mut_of (Some f) u = false

module _ {X : Type 0} where
  abbrev mut_layer : {T : Type 0} → LayerOf X T → Bool
  mut_layer (o.Const x) = false
  mut_layer (o.Guard x) = false
  mut_layer (o.Ident x) = mut_of x.by_ref x.mutability
  mut_layer (o.Lit x) = false
  mut_layer (o.Macro x) = false
  mut_layer (o.Or x) = false
  mut_layer (o.Paren x) = false
  mut_layer (o.Path x) = false
  mut_layer (o.Range x) = false
  mut_layer (o.Reference x) = false
  mut_layer (o.Rest x) = false
  mut_layer (o.Slice x) = false
  mut_layer (o.Struct x) = false
  mut_layer (o.Tuple x) = false
  mut_layer (o.TupleStruct x) = false
  mut_layer (o.«Type» x) = false
  mut_layer (o.Verbatim x) = false
  mut_layer (o.Wild x) = false

  abbrev pub mut_first : Pat X → Bool
  mut_first x = mut_layer (out-PatOf (Attr X) (Path (Attr X) (Expr X)) (QSelf (Attr X) (Expr X)) (TypeTree (Attr X) (Expr X)) X x)

module _ {X : Type 0} (nx : Place → X → X) where
  abbrev mapped : LayerOf X (Pat X) → LayerOf X (Pat X)
  mapped y = map-PatOf (Attr X) (Path (Attr X) (Expr X)) (QSelf (Attr X) (Expr X)) (TypeTree (Attr X) (Expr X)) X (Pat X) (Pat X) (pat nx) y

  mut_layers : (y : LayerOf X (Pat X)) → mut_first (pat_step nx (mapped y)) ≡ mut_layer y
  mut_layers (o.Const x) = ap mut_layer (v.outs-Const _)
  mut_layers (o.Guard x) = ap mut_layer (v.outs-Guard _)
  mut_layers (o.Ident x) = ap mut_layer (v.outs-Ident _)
  mut_layers (o.Lit x) = ap mut_layer (v.outs-Lit _)
  mut_layers (o.Macro x) = ap mut_layer (v.outs-Macro _)
  mut_layers (o.Or x) = ap mut_layer (v.outs-Or _)
  mut_layers (o.Paren x) = ap mut_layer (v.outs-Paren _)
  mut_layers (o.Path x) = ap mut_layer (v.outs-Path _)
  mut_layers (o.Range x) = ap mut_layer (v.outs-Range _)
  mut_layers (o.Reference x) = ap mut_layer (v.outs-Reference _)
  mut_layers (o.Rest x) = ap mut_layer (v.outs-Rest _)
  mut_layers (o.Slice x) = ap mut_layer (v.outs-Slice _)
  mut_layers (o.Struct x) = ap mut_layer (v.outs-Struct _)
  mut_layers (o.Tuple x) = ap mut_layer (v.outs-Tuple _)
  mut_layers (o.TupleStruct x) = ap mut_layer (v.outs-TupleStruct _)
  mut_layers (o.«Type» x) = ap mut_layer (v.outs-Type _)
  mut_layers (o.Verbatim x) = ap mut_layer (v.outs-Verbatim _)
  mut_layers (o.Wild x) = ap mut_layer (v.outs-Wild _)

  pub mut_kept : (x : Pat X) → mut_first (pat nx x) ≡ mut_first x
  unfolding pat
  mut_kept x = ap mut_first (fold_out-PatOf (Attr X) (Path (Attr X) (Expr X)) (QSelf (Attr X) (Expr X)) (TypeTree (Attr X) (Expr X)) X (Pat X) (pat_step nx) x) ∙ mut_layers (out-PatOf (Attr X) (Path (Attr X) (Expr X)) (QSelf (Attr X) (Expr X)) (TypeTree (Attr X) (Expr X)) X x)

  end_kept : (x : Option (PatRangeBound X)) → is_some (optional_bound nx x) ≡ is_some x
  end_kept None = refl
  end_kept (Some x) = refl

  -- as many ends, and the same limits
  limits_kept : (x : PatRange X) → open_limits (range nx x) ≡ open_limits x
  limits_kept x =
      ap (λ b. if not b || not (is_some (optional_bound nx x.end)) then Some (limits_span x.limits) else None) (end_kept x.start) ∙ ap (λ b. if not (is_some x.start) || not b then Some (limits_span x.limits) else None) (end_kept x.end)

  open_layers : (y : LayerOf X (Pat X)) → open_range (pat_step nx (mapped y)) ≡ open_range_layer y
  open_layers (o.Const x) = ap open_range_layer (v.outs-Const _)
  open_layers (o.Guard x) = ap open_range_layer (v.outs-Guard _)
  open_layers (o.Ident x) = ap open_range_layer (v.outs-Ident _)
  open_layers (o.Lit x) = ap open_range_layer (v.outs-Lit _)
  open_layers (o.Macro x) = ap open_range_layer (v.outs-Macro _)
  open_layers (o.Or x) = ap open_range_layer (v.outs-Or _)
  open_layers (o.Paren x) = ap open_range_layer (v.outs-Paren _)
  open_layers (o.Path x) = ap open_range_layer (v.outs-Path _)
  open_layers (o.Range x) = ap open_range_layer (v.outs-Range _) ∙ limits_kept x
  open_layers (o.Reference x) = ap open_range_layer (v.outs-Reference _)
  open_layers (o.Rest x) = ap open_range_layer (v.outs-Rest _)
  open_layers (o.Slice x) = ap open_range_layer (v.outs-Slice _)
  open_layers (o.Struct x) = ap open_range_layer (v.outs-Struct _)
  open_layers (o.Tuple x) = ap open_range_layer (v.outs-Tuple _)
  open_layers (o.TupleStruct x) = ap open_range_layer (v.outs-TupleStruct _)
  open_layers (o.«Type» x) = ap open_range_layer (v.outs-Type _)
  open_layers (o.Verbatim x) = ap open_range_layer (v.outs-Verbatim _)
  open_layers (o.Wild x) = ap open_range_layer (v.outs-Wild _)

  pub open_kept : (x : Pat X) → open_range (pat nx x) ≡ open_range x
  unfolding pat
  open_kept x = ap open_range (fold_out-PatOf (Attr X) (Path (Attr X) (Expr X)) (QSelf (Attr X) (Expr X)) (TypeTree (Attr X) (Expr X)) X (Pat X) (pat_step nx) x) ∙ open_layers (out-PatOf (Attr X) (Path (Attr X) (Expr X)) (QSelf (Attr X) (Expr X)) (TypeTree (Attr X) (Expr X)) X x)

-- ---- no keyword begins a path

-- `mut` is none of its words
no_mut_word : (ok : Bytes → Bool) (i : Ident) (k : Toks) → ok (text_of 13) ≡ false → ok i.text ≡ true → token.sees_mut (word i k) ≡ false
no_mut_word ok i k h g = seen_word (is_text (text_of 13)) i k ∙ unlike ok (text_of 13) i.text h g

segment_word : (i : Ident) (k : Toks) → is_segment_word i.text ≡ true → token.sees_mut (word i k) ≡ false
unfolding is_keyword
segment_word i k h = no_mut_word is_segment_word i k refl h

named_word : (i : Ident) (k : Toks) → is_named_word i.text ≡ true → token.sees_mut (word i k) ≡ false
unfolding is_keyword
named_word i k h = no_mut_word is_named_word i k refl h

-- nor is a mark a word
sep_no_mut : (clear : Bool) (c : Sep) (l r : Toks) → IsMark clear c l r → token.sees_mut l ≡ false
unfolding sees_word
sep_no_mut clear c l r (is_mark (more_chars x)) = refl

lt_no_mut : (clear : Bool) (c : token.Lt) (l r : Toks) → IsMark clear c l r → token.sees_mut l ≡ false
unfolding sees_word
lt_no_mut clear c l r (is_mark (last_char x)) = refl

dots_no_mut : (clear : Bool) (c : token.DotDot) (l r : Toks) → IsMark clear c l r → token.sees_mut l ≡ false
unfolding sees_word
dots_no_mut clear c l r (is_mark (more_chars x)) = refl

and_no_mut : (clear : Bool) (c : token.And) (l r : Toks) → IsMark clear c l r → token.sees_mut l ≡ false
unfolding sees_word
and_no_mut clear c l r (is_mark (last_char x)) = refl

limits_no_mut : (clear : Bool) (t : RangeLimits) (l r : Toks) → AreLimits clear t l r → token.sees_mut l ≡ false
unfolding sees_word
limits_no_mut clear t l r (half_open (is_mark (more_chars x))) = refl
limits_no_mut clear t l r (closed (is_mark (more_chars x))) = refl

lit_no_mut : (x : Lit) (l r : Toks) → IsLit x l r → token.sees_mut l ≡ false
unfolding sees_word
lit_no_mut x l r a_literal = refl
lit_no_mut x l r (a_bool {b = true}) = refl
lit_no_mut x l r (a_bool {b = false}) = refl
lit_no_mut x l r (a_negative h) = refl

module _ {A E : Type 0} (part : Manner → Parts A E) (how : Manner) (style : PathStyle) where
  segment_no_mut : (x : PathSegment A E) (l r : Toks) → IsSegment part how style x l r → token.sees_mut l ≡ false
  segment_no_mut x l r (a_word {i = i} h) = segment_word i r h
  segment_no_mut x l r (a_word_with_arguments {i = i} {l = k} h s j) = named_word i k h

  segments_no_mut : (b : Bool) (xs : List (PathSegment A E)) (cs : List Sep) (l r : Toks) → AreListed (λ (_ : Bool). IsSegment part how style) (IsMark (is_clear how)) Nowhere b xs cs l r → token.sees_mut l ≡ false
  segments_no_mut b xs cs l r (none_left h) = absurd h
  segments_no_mut b xs cs l r (last_value {x = x} i) = segment_no_mut x l r i
  segments_no_mut b xs cs l r (value_and_mark {x = x} {m = m} i j t) = segment_no_mut x l m i

  path_no_mut : (q : Option (QSelf A E)) (p : Path A E) (l r : Toks) → IsAnyPath part how style q p l r → token.sees_mut l ≡ false
  path_no_mut q p l r (unqualified (a_written_path {xs = xs} {cs = cs} absent i)) = segments_no_mut true xs cs l r i
  path_no_mut q p l r (unqualified (a_written_path {m = m} (present {a = c} j) i)) = sep_no_mut (is_clear how) c l m j
  path_no_mut q p l r (qualified (by_type {o = o} {m = m} i t u s w)) = lt_no_mut (is_clear how) o l m i
  path_no_mut q p l r (qualified (by_type_as_path {o = o} {m = m} i t plus w x u s z)) = lt_no_mut (is_clear how) o l m i

bare_no_mut : (clear : Bool) (x : ModPath) (l r : Toks) → IsBarePath clear is_segment_word nothing x l r → token.sees_mut l ≡ false
unfolding sees_word
bare_no_mut clear x l r (a_bare_path no_leading (last_segment {i = i} h)) = segment_word i r h
bare_no_mut clear x l r (a_bare_path no_leading (more_segments {i = i} {a = b} {b = c} {j = j} {l = m} h a q)) = segment_word i (mark (punct token.colon_char Joint b) (mark (punct token.colon_char j c) m)) h
bare_no_mut clear x l r (a_bare_path (leading a) j) = refl

call_no_mut : (clear : Bool) (x : Macro) (l r : Toks) → IsCall clear is_segment_word x l r → token.sees_mut l ≡ false
call_no_mut clear x l r (a_macro {p = p} i z u h) = bare_no_mut clear p l _ i

-- ---- so is what a single pattern begins with

binding_word : (i : Ident) (k : Toks) → is_binding_name i.text ≡ true → token.sees_mut (word i k) ≡ false
unfolding is_keyword
binding_word i k h = no_mut_word is_binding_name i k refl h

module _ {X : Type 0} (spells : Place → X → Toks → Type 0) (part : Manner → PatPlace → Relation (Pat X)) (how : Manner) where
  block_no_mut : (x : ExprConstOf (Attr X) X) (l r : Toks) → IsConstBlock spells x l r → token.sees_mut l ≡ false
  unfolding sees_word
  block_no_mut x l r (a_const_block is_word j) = refl

  pat_path_no_mut : (q : Option (QSelf (Attr X) (Expr X))) (p : Path (Attr X) (Expr X)) (l r : Toks) → IsPatPath spells how q p l r → token.sees_mut l ≡ false
  pat_path_no_mut q p l r (a_pat_path n i) = path_no_mut (types_to spells n) how expressions q p l r i.0

  start_no_mut : (x : PatRangeBound X) (l r : Toks) → IsStart spells how x l r → token.sees_mut l ≡ false
  start_no_mut x l r (a_literal_start {x = y} i) = lit_no_mut y l r i
  start_no_mut x l r (a_path_start {q = q} {p = p} i) = pat_path_no_mut q p l r i.0
  start_no_mut x l r (a_const_start {x = y} i) = block_no_mut y l r i

  range_no_mut : (x : PatRange X) (l r : Toks) → IsRange spells how x l r → token.sees_mut l ≡ false
  range_no_mut x l r (without_end {x = y} {m = m} i j) = start_no_mut y l m i
  range_no_mut x l r (without_start {t = t} {m = m} i j) = limits_no_mut (is_clear how) t l m i
  range_no_mut x l r (with_both {x = y} {m = m} i j h) = start_no_mut y l m i

  binding_mut : (x : PatIdent X) (l r : Toks) → IsBinding spells part how x l r → token.sees_mut l ≡ mut_of x.by_ref x.mutability
  unfolding sees_word
  binding_mut x l r (a_binding {i = i} {n = n} absent absent h s) = binding_word i n h
  binding_mut x l r (a_binding absent (present is_word) h s) = refl
  binding_mut x l r (a_binding (present is_word) q h s) = refl

module _ {X : Type 0} (part : Manner → PatPlace → Relation (Pat X)) where
  box_no_mut : (how : Manner) (l r : Toks) → IsBoxed part how l r → token.sees_mut l ≡ false
  unfolding sees_word
  box_no_mut how l r (a_box is_word j) = refl

  box_there : (how : Manner) (l r : Toks) → IsBoxed part how l r → is_done l ≡ false
  unfolding is_done
  box_there how l r (a_box is_word j) = refl

  -- what is held begins as it does by itself
  held_no_mut : (how : Manner) (t : TokenStream) (l r : Toks) → IsVerbatim (IsBoxed part) how t l r → token.sees_mut l ≡ false
  held_no_mut loosely t l r (i, h) = box_no_mut loosely l r i
  held_no_mut plainly t l r ((i, q), h) =
      let own = row (trees t) done in
      ap token.sees_mut (h ∙ sym (row_before (trees t) done r)) ∙ words_before r own (box_there clearly own done i) _ ∙ box_no_mut clearly own done i
  held_no_mut clearly t l r (i, h) = box_no_mut clearly l r i

  module _ (spells : Place → X → Toks → Type 0) (how : Manner) where
    pub single_mut : (x : Pat X) (l r : Toks) → IsSingle spells part how x l r → token.sees_mut l ≡ mut_first x
    unfolding sees_word
    single_mut x l r (a_binding_pat {x = y} i) = binding_mut spells part how y l r i ∙ sym (ap mut_layer (v.outs-Ident y))
    single_mut x l r (a_wild is_word) = sym (ap mut_layer (v.outs-Wild _))
    single_mut x l r (a_rest {d = d} i) = dots_no_mut (is_clear how) d l r i ∙ sym (ap mut_layer (v.outs-Rest _))
    single_mut x l r (a_literal_pat {x = y} i) = lit_no_mut y l r i ∙ sym (ap mut_layer (v.outs-Lit _))
    single_mut x l r (a_const {x = y} i) = block_no_mut spells part how y l r i ∙ sym (ap mut_layer (v.outs-Const _))
    single_mut x l r (a_call {x = y} i) = call_no_mut (is_clear how) y l r i.0.0 ∙ sym (ap mut_layer (v.outs-Macro _))
    single_mut x l r (a_path {q = q} {p = p} i h) = pat_path_no_mut spells part how q p l r i ∙ sym (ap mut_layer (v.outs-Path _))
    single_mut x l r (a_range {x = y} i) = range_no_mut spells part how y l r i ∙ sym (ap mut_layer (v.outs-Range _))
    single_mut x l r (a_reference {a = a} {m = m} i h j) = and_no_mut (is_clear how) a l m i ∙ sym (ap mut_layer (v.outs-Reference _))
    single_mut x l r (a_mutable_reference {a = a} {m = m} i h j) = and_no_mut (is_clear how) a l m i ∙ sym (ap mut_layer (v.outs-Reference _))
    single_mut x l r (a_paren i h) = sym (ap mut_layer (v.outs-Paren _))
    single_mut x l r (a_tuple i h) = sym (ap mut_layer (v.outs-Tuple _))
    single_mut x l r (a_slice i) = sym (ap mut_layer (v.outs-Slice _))
    single_mut x l r (a_tuple_struct {q = q} {p = p} i j) = pat_path_no_mut spells part how q p l _ i.0 ∙ sym (ap mut_layer (v.outs-TupleStruct _))
    single_mut x l r (a_struct {q = q} {p = p} i j) = pat_path_no_mut spells part how q p l _ i.0 ∙ sym (ap mut_layer (v.outs-Struct _))
    single_mut x l r (a_verbatim {t = t} i) = held_no_mut how t l r i ∙ sym (ap mut_layer (v.outs-Verbatim t))
