-- The reads of patterns, over the reads of the patterns that they hold.
use Rattle.std.specs.Prelude.{ℕ, zero, suc, Bool, not, ◌&&◌, ◌||◌, if◌then◌else◌, List, [], ◌∷◌, get_or, Option, Some, None, is_some, Err}
use Rattle.syn_attr.specs.attr.Attrs.{Attribute as Attr, const_of, expr_macro_of, lit_of}
use Rattle.syn_attr.specs.laws.Lengths.{lens}
use Rattle.syn_attr.specs.attr.Reading.{const_argument, outer}
use Rattle.syn_attr.specs.declared.expr.Expr.{Expr}
use Rattle.syn_attr.specs.declared.expr.ExprConstOf.{ExprConstOf}
use Rattle.syn_forms.specs.groups.Reading.{in_brackets, in_parens}
use Rattle.syn_forms.specs.lists.Reading.{at_end, before_end, list_from}
use Rattle.syn_forms.specs.tokens.Choices as k
use Rattle.syn_forms.specs.tokens.Choices.{none_of}
use Rattle.syn_forms.specs.tokens.Reading.{comma, mutable}
use Rattle.syn_forms.specs.verbatim.Reading.{begin, since}
use Rattle.syn_pat.specs.declared.pat.PatIdentOf.{PatIdentOf}
use Rattle.syn_pat.specs.declared.pat.PatReferenceOf.{PatReferenceOf}
use Rattle.syn_pat.specs.declared.pat.PatSliceOf.{PatSliceOf}
use Rattle.syn_pat.specs.declared.pat.PatStructOf.{PatStructOf}
use Rattle.syn_pat.specs.declared.pat.PatTupleStructOf.{PatTupleStructOf}
use Rattle.syn_pat.specs.declared.pat.FieldPatOf.{FieldPatOf}
use Rattle.syn_pat.specs.declared.pat.PatOf.{out-PatOf}
use Rattle.syn_pat.specs.declared.pat.PatOf.TheOpen as o
use Rattle.syn_pat.specs.declared.pat.PatOf.TheVariants as v
use Rattle.syn_pat.specs.declared.pat.PatRangeBoundOf.TheVariants as b
use Rattle.syn_pat.specs.declared.pat.PatWild.{PatWild}
use Rattle.syn_pat.specs.declared.pat.read.groups.InParens.{InParens}
use Rattle.syn_pat.specs.declared.pat.read.groups.InParens.TheVariants as held
use Rattle.syn_pat.specs.declared.place.PatPlace.{PatPlace}
use Rattle.syn_pat.specs.declared.place.PatPlace.TheVariants.{Single, Multi, LeadingVert, Element}
use Rattle.syn_pat.specs.pat.Pats.{Attrs, FieldPat, LayerOver, Pat, PatOver, PatRest, RangeBoundOver, RangeOver, binding_of, field_of, is_rest, or_of, paren_of, pat_range_of, path_pat_of, reference_of, rest_of, slice_of, struct_of, tuple_of, tuple_struct_of, wild_of}
use Rattle.syn_path.specs.declared.path.PathStyle.TheVariants as styles
use Rattle.syn_path.specs.declared.supplied.Place.{Place}
use Rattle.syn_path.specs.declared.supplied.Place.TheVariants.{Block}
use Rattle.syn_path.specs.mac.Reading as macs
use Rattle.syn_path.specs.path.Spelling.{is_mod_word}
use Rattle.syn_path.specs.Values.{ReadValues}
use Rattle.syn_ty.specs.path.Alone.{maybe_qualified}
use Rattle.syn_path.specs.path.Paths.{is_mod_style, nothing, without}
use Rattle.syn_ty.specs.path.Paths.{is_none}
use Rattle.syn_ty.specs.ty.Reading.{sees_call}
use Rattle.syn_path.specs.declared.path.PathOf.{PathOf}
use Rattle.syn_ty.specs.ty.Trees.{Path, PathArguments, QSelf}
use Rattle.syn_ty.specs.ty.Types.{Comma}
use Rattle.token_core.specs.declared.error.ErrorKind.TheVariants.{OpenRangeInSlice, RangeWithoutEnd, Unexpected}
use Rattle.token_core.specs.declared.member.Member.{Member}
use Rattle.token_core.specs.declared.member.Member.TheVariants as member
use Rattle.token_core.specs.declared.range.RangeLimits.{RangeLimits}
use Rattle.token_core.specs.declared.range.RangeLimits.TheVariants as limits
use Rattle.token_core.specs.declared.span.Span.{Span}
use Rattle.token_core.specs.declared.token.Brace.{Brace}
use Rattle.token_core.specs.declared.token.Paren.{Paren}
use Rattle.token_core.specs.declared.tree.Delimiter.TheVariants as d
use Rattle.token_core.specs.declared.tree.Ident.{Ident}
use Rattle.token_core.specs.Groups as groups
use Rattle.token_core.specs.Lits.{read_lit, sees_lit}
use Rattle.token_core.specs.Loops.{Many, never, size, terminated}
use Rattle.token_core.specs.Members.{read_member}
use Rattle.token_core.specs.Positions.{Item}
use Rattle.token_core.specs.Ranges as ranges
use Rattle.token_core.specs.Reads.{Reader, ◌>>=◌, ◌<$>◌, any_text, ident_name, in_group, is_done, is_ident, optional, peek, pure, read_word, refuse, second, sees_group, sees_word}
use Rattle.token_core.specs.Refusal.{fixed, refusal}
use Rattle.token_core.specs.Spans.{none}
use Rattle.token_core.specs.TokenNames.{mark_number, word_number, lit_number}
use Rattle.token_core.specs.Toks.{Toks}
use Rattle.token_core.specs.Tokens as token

-- what patterns read of paths: a path that a type may qualify, in the style of expressions, and which arguments are none
pub record Named (G Q : Type 0) : Type 0 where
  pub path : Reader (Option Q × PathOf G)
  pub lacks : G → Bool

abbrev pub named : {G Q : Type 0} → Reader (Option Q × PathOf G) → (G → Bool) → Named G Q
named p a = record { path = p; lacks = a }

-- ---- tests

-- an identifier before what makes it a path: `::`, `!`, braces, parentheses or `..`
unfoldable pub sees_named_path : Toks → Bool
sees_named_path l = sees_word is_ident l && (second token.sees_path_sep l || (second token.sees_bang l || (second (sees_group d.Brace) l || (second (sees_group d.Parenthesis) l || second token.sees_dot_dot l))))

-- `self` and `::`
unfoldable pub sees_self_path : Toks → Bool
sees_self_path l = token.sees_self_value l && second token.sees_path_sep l

-- a pattern that begins with a path
unfoldable pub begins_path : Toks → Bool
begins_path l = sees_named_path l || (sees_self_path l || (token.sees_path_sep l || (token.sees_lt l || (token.sees_self_type l || (token.sees_super l || token.sees_crate l)))))

-- a literal, perhaps after `-`, or a const block
unfoldable pub begins_bound : Toks → Bool
begins_bound l = token.sees_minus l || (sees_lit l || token.sees_const l)

unfoldable pub begins_binding : Toks → Bool
begins_binding l = token.sees_ref l || (token.sees_mut l || (token.sees_self_value l || sees_word is_ident l))

-- a `..` that is not `...`
unfoldable pub sees_half_open : Toks → Bool
sees_half_open l = token.sees_dot_dot l && not (token.sees_dot_dot_dot l)

-- a `|` that is neither `||` nor `|=`
unfoldable pub sees_vert : Toks → Bool
sees_vert l = token.sees_bar l && (not (token.sees_bar_bar l) && not (token.sees_bar_eq l))

-- a path that a bound may be
unfoldable pub sees_bound_path : Toks → Bool
sees_bound_path l = sees_word is_mod_word l || (token.sees_path_sep l || token.sees_lt l)

-- a `:` that is not `::`
abbrev pub sees_lone_colon : Toks → Bool
sees_lone_colon l = token.sees_colon l && not (token.sees_path_sep l)

-- a range ends without a bound at the end of the input, `|`, `=`, `:`, `,`, `;` and `if`
unfoldable pub ends_range : Toks → Bool
ends_range l = is_done l || (token.sees_bar l || (token.sees_equals l || (sees_lone_colon l || (token.sees_comma l || (token.sees_semi l || token.sees_if l)))))

-- ---- refusals

-- tokens by their numbers
abbrev pub a_literal : ℕ
a_literal = lit_number

abbrev pub a_dot_dot : ℕ
a_dot_dot = mark_number 8

abbrev pub a_mut : ℕ
a_mut = word_number 13

abbrev pub a_ref : ℕ
a_ref = word_number 14

-- what is looked for where a pattern may begin; a `..` was seen before a `...`
abbrev pub missing : Bool → List ℕ
missing dots = k.an_ident ∷ k.a_sep ∷ k.a_lt ∷ k.an_underscore ∷ a_literal ∷ k.a_const ∷ a_ref ∷ a_mut ∷ k.an_and ∷ k.a_paren ∷ k.a_bracket ∷ (if dots then [] else (a_dot_dot ∷ []))

-- and where a bound of a range may
abbrev pub missing_bound : List ℕ
missing_bound = a_literal ∷ k.an_ident ∷ k.a_sep ∷ k.a_lt ∷ k.a_self_value ∷ k.a_self_type ∷ k.a_super ∷ k.a_crate ∷ k.a_const ∷ []

-- ---- questions about trees that were read

-- the first and the last span of a range's limits
abbrev pub limits_span : RangeLimits → Span × Span
limits_span (limits.HalfOpen w) = (get_or w.spans 0 none, get_or w.spans 1 none)
limits_span (limits.Closed w) = (get_or w.spans 0 none, get_or w.spans 2 none)

module _ {X G Q : Type 0} where
  -- the limits of a range that lacks a bound
  abbrev pub open_limits : RangeOver X G Q → Option (Span × Span)
  open_limits x = if not (is_some x.start) || not (is_some x.end) then Some (limits_span x.limits) else None

module _ {X G Q T : Type 0} where
  abbrev pub open_range_layer : {P : Type 0} → LayerOver X G Q T P → Option (Span × Span)
  open_range_layer (o.Range x) = open_limits x
  open_range_layer (o.Const x) = None
  open_range_layer (o.Guard x) = None
  open_range_layer (o.Ident x) = None
  open_range_layer (o.Lit x) = None
  open_range_layer (o.Macro x) = None
  open_range_layer (o.Or x) = None
  open_range_layer (o.Paren x) = None
  open_range_layer (o.Path x) = None
  open_range_layer (o.Reference x) = None
  open_range_layer (o.Rest x) = None
  open_range_layer (o.Slice x) = None
  open_range_layer (o.Struct x) = None
  open_range_layer (o.Tuple x) = None
  open_range_layer (o.TupleStruct x) = None
  open_range_layer (o.«Type» x) = None
  open_range_layer (o.Verbatim x) = None
  open_range_layer (o.Wild x) = None

  abbrev pub open_range : PatOver X G Q T → Option (Span × Span)
  open_range x = open_range_layer (out-PatOf (Attr X) (PathOf G) Q T X x)

  -- an element of a slice is no range that lacks a bound
  abbrev pub unless_open : Option (Span × Span) → PatOver X G Q T → Reader (PatOver X G Q T)
  unless_open None x = pure x
  unless_open (Some p) x = λ s. Err (refusal OpenRangeInSlice (fixed OpenRangeInSlice) p.0 p.1)

  abbrev pub as_element : PatOver X G Q T → Reader (PatOver X G Q T)
  as_element x = unless_open (open_range x) x

-- ---- bounds and ranges

abbrev pub wild : {X : Type 0} → Reader (PatWild X)
wild = wild_of [] <$> token.underscore

module _ {X G Q T : Type 0} where
  abbrev pub bound_as_pat : RangeBoundOver X G Q → PatOver X G Q T
  bound_as_pat (b.Const x) = v.Const x
  bound_as_pat (b.Lit x) = v.Lit x
  bound_as_pat (b.Path x) = v.Path x

  abbrev pub range : Option (RangeBoundOver X G Q) → RangeLimits → Option (RangeBoundOver X G Q) → PatOver X G Q T
  range s t e = v.Range (pat_range_of [] s t e)

  -- `..=` needs an end
  abbrev pub ended : Option (RangeBoundOver X G Q) → RangeLimits → Option (RangeBoundOver X G Q) → Reader (PatOver X G Q T)
  ended s (limits.HalfOpen w) e = pure (range s (limits.HalfOpen w) e)
  ended s (limits.Closed w) (Some e) = pure (range s (limits.Closed w) (Some e))
  ended s (limits.Closed w) None = refuse RangeWithoutEnd

  -- without a start, a `..` alone is what is left over
  abbrev pub half_of : RangeLimits → Option (RangeBoundOver X G Q) → Reader (PatOver X G Q T)
  half_of t (Some e) = ended None t (Some e)
  half_of (limits.HalfOpen w) None = pure (v.Rest (rest_of [] w))
  half_of (limits.Closed w) None = refuse RangeWithoutEnd

module _ {X : Type 0} (supplied : Place → Reader X) where
  -- a body in braces
  abbrev pub body : Reader (Brace × X)
  body = (λ g. (groups.brace g.0, g.1)) <$> in_group d.Brace groups.brace_name (supplied Block)

  -- `const { .. }`
  unfoldable pub const_block : Reader (ExprConstOf (Attr X) X)
  const_block = do
    w ← token.const_word
    g ← body
    pure (const_of [] w g.0 g.1)

module _ {X G Q : Type 0} (supplied : Place → Reader X) (names : Named G Q) where
  unfoldable pub bound : Reader (RangeBoundOver X G Q)
  bound = do
    is_lit ← peek sees_lit
    if is_lit then (λ x. b.Lit (lit_of [] x)) <$> read_lit else (do
      is_path ← peek sees_bound_path
      if is_path then (λ p. b.Path (path_pat_of [] p.0 p.1)) <$> names.path else (do
        is_const ← peek token.sees_const
        if is_const then b.Const <$> const_block supplied else none_of missing_bound))

  unfoldable pub optional_bound : Reader (Option (RangeBoundOver X G Q))
  optional_bound = do
    over ← peek ends_range
    if over then pure None else Some <$> bound

  -- after its start, where `...` is read as `..=`
  unfoldable pub range_after : {T : Type 0} → RangeBoundOver X G Q → Reader (PatOver X G Q T)
  range_after s = do
    t ← ranges.read_obsolete
    e ← optional_bound
    ended (Some s) t e

  unfoldable pub half_open : {T : Type 0} → Reader (PatOver X G Q T)
  half_open = do
    t ← ranges.read
    e ← optional_bound
    half_of t e

  -- a bound, or the range that it begins
  unfoldable pub after_bound : {T : Type 0} → RangeBoundOver X G Q → Reader (PatOver X G Q T)
  after_bound s = do
    goes ← peek token.sees_dot_dot
    if goes then range_after s else pure (bound_as_pat s)

  unfoldable pub bound_or_range : {T : Type 0} → Reader (PatOver X G Q T)
  bound_or_range = bound >>= after_bound

-- ---- bindings

unfoldable pub bound_name : Reader Ident
bound_name = do
  own ← peek token.sees_self_value
  if own then read_word any_text ident_name else read_word is_ident ident_name

-- `ref` that may be there
abbrev pub by_ref : Reader (Option token.Ref)
by_ref = optional token.sees_ref token.ref_word

unfoldable pub bound_head : Reader (Option token.Ref × Option token.Mut × Ident)
bound_head = do
  f ← by_ref
  u ← mutable
  i ← bound_name
  pure (f, u, i)

-- ---- what parentheses hold

module _ {X G Q T : Type 0} where
  abbrev pub of_parens : Paren → InParens (PatOver X G Q T) → PatOver X G Q T
  of_parens g (held.One x) = v.Paren (paren_of [] g x)
  of_parens g (held.Elements all) = v.Tuple (tuple_of [] g all)

  -- a macro call by the path before it, which has no arguments
  abbrev pub macro_after : PathOf G → Reader (PatOver X G Q T)
  macro_after p = (λ x. v.Macro (expr_macro_of [] x)) <$> macs.call_after (without nothing p)

-- ---- the fields of a struct

-- `box`, `ref` and `mut` before the name that a field binds
abbrev pub Modes : Type 0
Modes = Option token.Box × Option token.Ref × Option token.Mut

unfoldable pub modes : Reader Modes
modes = do
  x ← optional token.sees_box token.box_word
  f ← by_ref
  u ← mutable
  pure (x, f, u)

abbrev pub has_mode : Modes → Bool
has_mode n = is_some n.0 || (is_some n.1 || is_some n.2)

-- fields, and `..` at the end
abbrev pub FieldsOver : Type 0 → Type 0 → Type 0 → Type 0 → Type 0
FieldsOver X G Q T = Many (FieldPatOf (PatOver X G Q T) (Attr X)) Comma × Option (PatRest X)

module _ {X G Q T : Type 0} where
  -- the pattern of a field that binds its name; with `box` it is held as it was written, from a position on
  abbrev pub binds : List Item → Modes → Ident → Reader (PatOver X G Q T)
  binds from (Some x, f, u) i = v.Verbatim <$> since from
  binds from (None, f, u) i = pure (v.Ident (binding_of [] f u i None))

  abbrev pub bound_field : List Item → Attrs X → Modes → Ident → Reader (FieldPatOf (PatOver X G Q T) (Attr X))
  bound_field from a n i = (λ x. field_of a (member.Named i) None x) <$> binds from n i

  abbrev pub no_fields : Option (PatRest X) → FieldsOver X G Q T
  no_fields rest = (([], []), rest)

  abbrev pub one_field : FieldPatOf (PatOver X G Q T) (Attr X) → FieldsOver X G Q T
  one_field x = ((x ∷ [], []), None)

  abbrev pub put_field : FieldPatOf (PatOver X G Q T) (Attr X) → Comma → FieldsOver X G Q T → FieldsOver X G Q T
  put_field x c w = ((x ∷ w.0.0, c ∷ w.0.1), w.1)

-- ---- forms, over the read of a pattern in its place

-- a reader for each place
abbrev pub ReadersOver : Type 0 → Type 0 → Type 0 → Type 0 → Type 0
ReadersOver X G Q T = PatPlace → Reader (PatOver X G Q T)

module _ {X G Q T : Type 0} (r : ReadersOver X G Q T) where
  unfoldable pub subpat : Reader (token.At × PatOver X G Q T)
  subpat = do
    a ← token.at
    x ← r Single
    pure (a, x)

  abbrev pub optional_subpat : Reader (Option (token.At × PatOver X G Q T))
  optional_subpat = optional token.sees_at subpat

  unfoldable pub binding : Reader (PatIdentOf (PatOver X G Q T) (Attr X))
  binding = do
    h ← bound_head
    s ← optional_subpat
    pure (binding_of [] h.0 h.1 h.2 s)

  unfoldable pub reference : Reader (PatReferenceOf (PatOver X G Q T) (Attr X))
  reference = do
    a ← token.and
    u ← mutable
    x ← r Single
    pure (reference_of [] a u x)

  -- `box` and a pattern are held as they were written
  unfoldable pub box_pat : Reader (PatOver X G Q T)
  box_pat = do
    from ← begin
    w ← token.box_word
    x ← r Single
    t ← since from
    pure (v.Verbatim t)

  -- patterns up to the end of a group: a comma is needed between them, and may follow the last
  unfoldable pub elements : PatPlace → Reader (Many (PatOver X G Q T) Comma)
  elements place = terminated is_done (r place) comma

  unfoldable pub slice : Reader (PatSliceOf (PatOver X G Q T) (Attr X))
  slice = (λ g. slice_of [] g.0 g.1) <$> in_brackets (elements Element)

  -- a pattern alone is one in parentheses, but `..` is a tuple
  unfoldable pub paren_content : Reader (InParens (PatOver X G Q T))
  paren_content = do
    over ← peek is_done
    if over then pure (held.Elements ([], [])) else (do
      x ← r LeadingVert
      lone ← peek (λ l. is_done l && not (is_rest x))
      if lone then pure (held.One x) else held.Elements <$> list_from (λ first. at_end) (r LeadingVert) before_end comma x)

  unfoldable pub paren_or_tuple : Reader (PatOver X G Q T)
  paren_or_tuple = (λ g. of_parens g.0 g.1) <$> in_parens paren_content

  -- ---- fields

  -- a member, `:` and a pattern
  unfoldable pub member_field : Attrs X → Member → Reader (FieldPatOf (PatOver X G Q T) (Attr X))
  member_field a n = do
    c ← token.colon
    x ← r LeadingVert
    pure (field_of a n (Some c) x)

  -- an index needs a pattern; a name without one binds itself
  abbrev pub plain_field : List Item → Attrs X → Member → Reader (FieldPatOf (PatOver X G Q T) (Attr X))
  plain_field from a (member.Unnamed i) = member_field a (member.Unnamed i)
  plain_field from a (member.Named i) = do
    goes ← peek token.sees_colon
    if goes then member_field a (member.Named i) else bound_field from a (None, None, None) i

  -- a field after its attributes; after `box`, `ref` or `mut` a name follows
  unfoldable pub field : Attrs X → Reader (FieldPatOf (PatOver X G Q T) (Attr X))
  field a = do
    from ← begin
    n ← modes
    if has_mode n then (read_word is_ident ident_name >>= bound_field from a n) else (read_member >>= plain_field from a)

module _ {X G Q T : Type 0} (supplied : Place → Reader X) (r : ReadersOver X G Q T) where
  -- at most n of them. A `..` ends them, and nothing is read after it.
  abbrev pub fields_from : ℕ → Reader (FieldsOver X G Q T)
  fields_from zero = refuse Unexpected
  fields_from (suc n) = do
    over ← peek is_done
    if over then pure (no_fields None) else (do
      a ← outer supplied
      last ← peek token.sees_dot_dot
      if last then (λ w. no_fields (Some (rest_of a w))) <$> token.dot_dot else (do
        x ← field r a
        ends ← peek is_done
        if ends then pure (one_field x) else (do
          c ← comma
          more ← fields_from n
          pure (put_field x c more))))

  unfoldable pub fields : Reader (FieldsOver X G Q T)
  fields s = fields_from (suc (size s.rest)) s

  -- ---- after a path

  unfoldable pub struct_after : Option Q → PathOf G → Reader (PatStructOf (PatOver X G Q T) (Attr X) (PathOf G) Q)
  struct_after q p = (λ g. struct_of [] q p (groups.brace g.0) g.1.0 g.1.1) <$> in_group d.Brace groups.brace_name fields

module _ {X G Q T : Type 0} (r : ReadersOver X G Q T) where
  unfoldable pub tuple_struct_after : Option Q → PathOf G → Reader (PatTupleStructOf (PatOver X G Q T) (Attr X) (PathOf G) Q)
  tuple_struct_after q p = (λ g. tuple_struct_of [] q p g.0 g.1) <$> in_parens (elements r LeadingVert)

module _ {X G Q T : Type 0} (supplied : Place → Reader X) (names : Named G Q) (r : ReadersOver X G Q T) where
  -- a macro call after an unqualified path without arguments; a struct, a tuple struct, a range, or the path alone
  unfoldable pub after_path : Option Q → PathOf G → Reader (PatOver X G Q T)
  after_path q p = do
    call ← peek (λ l. not (is_some q) && (sees_call l && is_mod_style names.lacks p))
    if call then macro_after p else (do
      brace ← peek (sees_group d.Brace)
      if brace then v.Struct <$> struct_after supplied r q p else (do
        paren ← peek (sees_group d.Parenthesis)
        if paren then v.TupleStruct <$> tuple_struct_after r q p else after_bound supplied names (b.Path (path_pat_of [] q p))))

  unfoldable pub path_pat : Reader (PatOver X G Q T)
  path_pat = names.path >>= (λ p. after_path p.0 p.1)

  -- ---- one pattern, by its first tokens

  unfoldable pub by_mark : Reader (PatOver X G Q T)
  by_mark = do
    and ← peek token.sees_and
    if and then v.Reference <$> reference r else (do
      paren ← peek (sees_group d.Parenthesis)
      if paren then paren_or_tuple r else (do
        bracket ← peek (sees_group d.Bracket)
        if bracket then v.Slice <$> slice r else (do
          half ← peek sees_half_open
          if half then half_open supplied names else (λ s. none_of (missing (token.sees_dot_dot s.rest)) s))))

  unfoldable pub by_word : Reader (PatOver X G Q T)
  by_word = do
    any ← peek token.sees_underscore
    if any then v.Wild <$> wild else (do
      boxed ← peek token.sees_box
      if boxed then box_pat r else (do
        is_bound ← peek begins_bound
        if is_bound then bound_or_range supplied names else (do
          binds ← peek begins_binding
          if binds then v.Ident <$> binding r else by_mark)))

  unfoldable pub single : Reader (PatOver X G Q T)
  single = do
    is_path ← peek begins_path
    if is_path then path_pat else by_word

module _ {X G Q T : Type 0} (r : ReadersOver X G Q T) where
  -- further patterns after `|`: one that none follows is itself, unless a `|` stood before it
  unfoldable pub alternatives : Option token.Bar → PatOver X G Q T → Reader (PatOver X G Q T)
  alternatives first_bar x = do
    goes ← peek sees_vert
    if is_some first_bar || goes then (λ all. v.Or (or_of [] first_bar all)) <$> list_from never (r Single) sees_vert token.bar x else pure x

module _ {X G Q T : Type 0} (supplied : Place → Reader X) (names : Named G Q) (r : ReadersOver X G Q T) where
  unfoldable pub multi : Reader (PatOver X G Q T)
  multi = single supplied names r >>= alternatives r None

  unfoldable pub leading : Reader (PatOver X G Q T)
  leading = do
    first_bar ← optional token.sees_bar token.bar
    x ← single supplied names r
    alternatives r first_bar x

  unfoldable pub element : Reader (PatOver X G Q T)
  element = leading >>= as_element

  -- one turn
  abbrev pub pat_step : PatPlace → Reader (PatOver X G Q T)
  pat_step Single = single supplied names r
  pat_step Multi = multi
  pat_step LeadingVert = leading
  pat_step Element = element

-- ---- over the types that are read with a supplied subtree

abbrev pub Readers : Type 0 → Type 0
Readers X = PatPlace → Reader (Pat X)

abbrev pub Fields : Type 0 → Type 0
Fields X = Many (FieldPat X) Comma × Option (PatRest X)

module _ {X : Type 0} (supplied : Place → Reader X) where
  -- what expressions read in the place of a length and of a const argument
  abbrev pub values : ReadValues (Expr X)
  values = record { len = lens supplied; const_argument = const_argument supplied }

  -- a path that a type may qualify, in the style of expressions
  abbrev pub qpath : Reader (Option (QSelf (Attr X) (Expr X)) × Path (Attr X) (Expr X))
  qpath = maybe_qualified (outer supplied) values styles.Expr

  abbrev pub type_names : Named (PathArguments (Attr X) (Expr X)) (QSelf (Attr X) (Expr X))
  type_names = named qpath is_none
