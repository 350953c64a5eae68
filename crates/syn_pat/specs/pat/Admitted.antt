-- Which lists a pattern spells in its place: every form.
use Rattle.std.specs.Prelude.{◌≡◌, ◌&&◌, Bool, true, false, not, List, [], ◌∷◌, Option, Some, None}
use Rattle.token_core.specs.declared.lit.Lit.{Lit}
use Rattle.token_core.specs.declared.member.Member.{Member}
use Rattle.token_core.specs.declared.member.Member.TheVariants as member
use Rattle.token_core.specs.declared.span.DelimSpan.{DelimSpan}
use Rattle.token_core.specs.declared.tree.Delimiter.TheVariants.{Parenthesis, Brace, Bracket}
use Rattle.token_core.specs.declared.tree.Ident.{Ident}
use Rattle.token_core.specs.Trees.{TokenStream}
use Rattle.token_core.specs.Groups as groups
use Rattle.token_core.specs.Listed.{AreListed, Anywhere, Nowhere}
use Rattle.token_core.specs.Loops.{Many}
use Rattle.token_core.specs.Reads.{is_ident}
use Rattle.token_core.specs.Spellings.{IsMark, IsWord, IsLit, IsMember}
use Rattle.token_core.specs.Toks.{Toks, done, word, group}
use Rattle.syn_path.specs.declared.mac.Macro.{Macro}
use Rattle.syn_path.specs.declared.supplied.Place.{Place}
use Rattle.syn_attr.specs.attr.Attrs.{Attribute as Attr, expr_macro_of, lit_of}
use Rattle.syn_attr.specs.declared.expr.Expr.{Expr}
use Rattle.syn_attr.specs.declared.expr.ExprConstOf.{ExprConstOf}
use Rattle.syn_ty.specs.ty.Parts.{Manner, is_clear, IsVerbatim, AreMarked}
use Rattle.syn_ty.specs.ty.Spelling.{IsOptional, Relation}
use Rattle.syn_ty.specs.ty.Trees.{Path, QSelf}
use Rattle.syn_ty.specs.ty.Types.{Comma}
use Rattle.syn_pat.specs.declared.pat.PatOf.TheVariants as v
use Rattle.syn_pat.specs.declared.place.PatPlace.{PatPlace}
use Rattle.syn_pat.specs.declared.place.PatPlace.TheVariants.{Single, Multi, LeadingVert, Element}
use Rattle.syn_pat.specs.pat.Pats.{Attrs, FieldPat, Pat, PatIdent, PatRange, PatRest, binding_of, field_of, is_rest, or_of, paren_of, path_pat_of, reference_of, rest_of, slice_of, struct_of, tuple_of, tuple_struct_of, wild_of}
use Rattle.syn_pat.specs.pat.Reading.{open_range}
use Rattle.syn_pat.specs.pat.Spelling.{outer_spelt, is_binding, is_binding_name, lone_word, IsConstBlock, IsHead, IsPatCall, IsPatPath, IsRange}
use Rattle.token_core.specs.Tokens as token

-- ---- places

-- further cases may stand after `|`
abbrev pub allows_cases : PatPlace → Bool
allows_cases Single = false
allows_cases Multi = true
allows_cases LeadingVert = true
allows_cases Element = true

-- and a `|` before the first
abbrev pub allows_vert : PatPlace → Bool
allows_vert Single = false
allows_vert Multi = false
allows_vert LeadingVert = true
allows_vert Element = true

-- a path is a lone word that a pattern binds before none
abbrev pub nowhere : Toks → Bool
nowhere r = false

-- ---- patterns that stand alone in their group, and elements

module _ {X : Type 0} where
  -- one element without a comma is in parentheses, unless it is `..`
  abbrev pub is_tuple : List (Pat X) → List Comma → Bool
  is_tuple (x ∷ []) [] = is_rest x
  is_tuple xs cs = true

  -- an element of a slice is not itself a range without start or end
  abbrev pub Fits : PatPlace → Pat X → Type 0
  Fits Single x = Unit {0}
  Fits Multi x = Unit {0}
  Fits LeadingVert x = Unit {0}
  Fits Element x = open_range x ≡ None

-- ---- held verbatim in a field

-- `box`, perhaps `ref`, perhaps `mut`, and the name: there is no tree for it
pub data IsBoxedName : Ident → Toks → Toks → Type 0 where
  a_boxed_name : {b : token.Box} {f : Option token.Ref} {u : Option token.Mut} {i : Ident} {l m n r : Toks} →
      IsWord b l m → IsOptional IsWord f m n → IsOptional IsWord u n (word i r) → is_ident i.text ≡ true → IsBoxedName i l r

-- `box` and a single pattern: there is no tree for it
module _ {X : Type 0} (part : Manner → PatPlace → Relation (Pat X)) (how : Manner) where
  pub data IsBoxed : Toks → Toks → Type 0 where
    a_box : {b : token.Box} {x : Pat X} {l m r : Toks} → IsWord b l m → part how Single x m r → IsBoxed l r

-- what a supplied subtree spells in a place is given, and what a pattern spells within another
module _ {X : Type 0} (spells : Place → X → Toks → Type 0) (part : Manner → PatPlace → Relation (Pat X)) (how : Manner) where
  -- ---- bindings

  pub data IsSubpat : token.At × Pat X → Toks → Toks → Type 0 where
    a_subpat : {a : token.At} {x : Pat X} {l m r : Toks} → IsMark (is_clear how) a l m → part how Single x m r → IsSubpat (a, x) l r

  -- perhaps `ref`, perhaps `mut`, an `Ident` or `self`, and perhaps `@` and a pattern
  pub data IsBinding : PatIdent X → Toks → Toks → Type 0 where
    a_binding : {f : Option token.Ref} {u : Option token.Mut} {i : Ident} {s : Option (token.At × Pat X)} {l m n r : Toks} →
        IsOptional IsWord f l m → IsOptional IsWord u m (word i n) → is_binding_name i.text ≡ true → IsOptional IsSubpat s n r → IsBinding (binding_of [] f u i s) l r

  -- ---- the fields of a struct

  pub data IsField : FieldPat X → Toks → Toks → Type 0 where
    with_colon : {a : Attrs X} {n : Member} {c : token.Colon} {x : Pat X} {l m k j r : Toks} →
        outer_spelt spells (is_clear how) a l m → IsMember n m k → IsMark (is_clear how) c k j → part how LeadingVert x j r → IsField (field_of a n (Some c) x) l r
    without_colon : {a : Attrs X} {f : Option token.Ref} {u : Option token.Mut} {i : Ident} {l m n r : Toks} →
        outer_spelt spells (is_clear how) a l m → IsOptional IsWord f m n → IsOptional IsWord u n (word i r) → is_ident i.text ≡ true →
        IsField (field_of a (member.Named i) None (v.Ident (binding_of [] f u i None))) l r
    boxed : {a : Attrs X} {i : Ident} {t : TokenStream} {l m r : Toks} → outer_spelt spells (is_clear how) a l m → IsVerbatim (λ (m : Manner). IsBoxedName i) how t m r → IsField (field_of a (member.Named i) None (v.Verbatim t)) l r

  -- what the braces hold: fields joined by commas, of which there may be none and the last may have its comma; or fields that each have their comma, and `..`
  pub data AreFields : Many (FieldPat X) Comma → Option (PatRest X) → Toks → Type 0 where
    fields_alone : {xs : List (FieldPat X)} {cs : List Comma} {l : Toks} → AreListed (λ (_ : Bool). IsField) (IsMark (is_clear how)) Anywhere true xs cs l done → AreFields (xs, cs) None l
    fields_and_rest : {xs : List (FieldPat X)} {cs : List Comma} {a : Attrs X} {d : token.DotDot} {l m n : Toks} →
        AreMarked (λ (_ : Bool). IsField) (IsMark (is_clear how)) true xs cs l m → outer_spelt spells (is_clear how) a m n → IsMark (is_clear how) d n done → AreFields (xs, cs) (Some (rest_of a d)) l

  -- ---- patterns in a group

  -- all of what a group holds: patterns joined by commas, of which there may be none and the last may have its comma
  abbrev pub AreElements : PatPlace → List (Pat X) → List Comma → Toks → Type 0
  AreElements place xs cs c = AreListed (λ (_ : Bool). part how place) (IsMark (is_clear how)) Anywhere true xs cs c done

  -- ---- a single pattern, where a path may be a lone word that a pattern binds before these

  pub data IsSingleWhere (lone : Toks → Bool) : Pat X → Toks → Toks → Type 0 where
    a_binding_pat : {x : PatIdent X} {l r : Toks} → IsBinding x l r → IsSingleWhere lone (v.Ident x) l r
    a_wild : {w : token.Underscore} {l r : Toks} → IsWord w l r → IsSingleWhere lone (v.Wild (wild_of [] w)) l r
    a_rest : {d : token.DotDot} {l r : Toks} → IsMark (is_clear how) d l r → IsSingleWhere lone (v.Rest (rest_of [] d)) l r
    a_literal : {x : Lit} {l r : Toks} → IsLit x l r → IsSingleWhere lone (v.Lit (lit_of [] x)) l r
    a_const : {x : ExprConstOf (Attr X) X} {l r : Toks} → IsConstBlock spells x l r → IsSingleWhere lone (v.Const x) l r
    a_call : {x : Macro} {l r : Toks} → IsPatCall (is_clear how) x l r → IsSingleWhere lone (v.Macro (expr_macro_of [] x)) l r
    -- not a lone `Ident` or `self`, but where that may be
    a_path : {q : Option (QSelf (Attr X) (Expr X))} {p : Path (Attr X) (Expr X)} {l r : Toks} → IsPatPath spells how q p l r → not (lone r) && is_binding (lone_word q p) ≡ false → IsSingleWhere lone (v.Path (path_pat_of [] q p)) l r
    a_range : {x : PatRange X} {l r : Toks} → IsRange spells how x l r → IsSingleWhere lone (v.Range x) l r
    -- without `mut` it does not begin with `mut`
    a_reference : {a : token.And} {x : Pat X} {l m r : Toks} → IsMark (is_clear how) a l m → token.sees_mut m ≡ false → part how Single x m r → IsSingleWhere lone (v.Reference (reference_of [] a None x)) l r
    a_mutable_reference : {a : token.And} {u : token.Mut} {x : Pat X} {l m n r : Toks} → IsMark (is_clear how) a l m → IsWord u m n → part how Single x n r → IsSingleWhere lone (v.Reference (reference_of [] a (Some u) x)) l r
    -- not `..`
    a_paren : {s : DelimSpan} {x : Pat X} {c r : Toks} → part how LeadingVert x c done → is_rest x ≡ false → IsSingleWhere lone (v.Paren (paren_of [] (groups.paren s) x)) (group Parenthesis s c r) r
    a_tuple : {s : DelimSpan} {xs : List (Pat X)} {cs : List Comma} {c r : Toks} → AreElements LeadingVert xs cs c → is_tuple xs cs ≡ true → IsSingleWhere lone (v.Tuple (tuple_of [] (groups.paren s) (xs, cs))) (group Parenthesis s c r) r
    a_slice : {s : DelimSpan} {xs : List (Pat X)} {cs : List Comma} {c r : Toks} → AreElements Element xs cs c → IsSingleWhere lone (v.Slice (slice_of [] (groups.bracket s) (xs, cs))) (group Bracket s c r) r
    a_tuple_struct : {q : Option (QSelf (Attr X) (Expr X))} {p : Path (Attr X) (Expr X)} {s : DelimSpan} {xs : List (Pat X)} {cs : List Comma} {l c r : Toks} →
        IsHead spells how q p l (group Parenthesis s c r) → AreElements LeadingVert xs cs c → IsSingleWhere lone (v.TupleStruct (tuple_struct_of [] q p (groups.paren s) (xs, cs))) l r
    a_struct : {q : Option (QSelf (Attr X) (Expr X))} {p : Path (Attr X) (Expr X)} {s : DelimSpan} {w : Many (FieldPat X) Comma} {o : Option (PatRest X)} {l c r : Toks} →
        IsHead spells how q p l (group Brace s c r) → AreFields w o c → IsSingleWhere lone (v.Struct (struct_of [] q p (groups.brace s) w o)) l r
    -- `box` and a single pattern are held verbatim
    a_verbatim : {t : TokenStream} {l r : Toks} → IsVerbatim (IsBoxed part) how t l r → IsSingleWhere lone (v.Verbatim t) l r

  -- ---- a pattern in its place

  -- a first case and, after `|`, further ones
  pub data AreCasesWhere (lone : Toks → Bool) : List (Pat X) → List token.Bar → Toks → Toks → Type 0 where
    cases : {x : Pat X} {c : token.Bar} {xs : List (Pat X)} {cs : List token.Bar} {l m n r : Toks} →
        IsSingleWhere lone x l m → IsMark (is_clear how) c m n → AreListed (λ (_ : Bool). part how Single) (IsMark (is_clear how)) Nowhere true xs cs n r → AreCasesWhere lone (x ∷ xs) (c ∷ cs) l r

  pub data IsPatWhere (lone : Toks → Bool) (place : PatPlace) : Pat X → Toks → Toks → Type 0 where
    a_single : {x : Pat X} {l r : Toks} → IsSingleWhere lone x l r → Fits place x → IsPatWhere lone place x l r
    some_cases : {xs : List (Pat X)} {cs : List token.Bar} {l r : Toks} → allows_cases place ≡ true → AreCasesWhere lone xs cs l r → IsPatWhere lone place (v.Or (or_of [] None (xs, cs))) l r
    one_after_vert : {b : token.Bar} {x : Pat X} {l m r : Toks} → allows_vert place ≡ true → IsMark (is_clear how) b l m → IsSingleWhere lone x m r → IsPatWhere lone place (v.Or (or_of [] (Some b) (x ∷ [], []))) l r
    some_after_vert : {b : token.Bar} {xs : List (Pat X)} {cs : List token.Bar} {l m r : Toks} → allows_vert place ≡ true → IsMark (is_clear how) b l m → AreCasesWhere lone xs cs m r → IsPatWhere lone place (v.Or (or_of [] (Some b) (xs, cs))) l r

  -- ---- what is admitted: it is so nowhere

  abbrev pub IsSingle : Pat X → Toks → Toks → Type 0
  IsSingle = IsSingleWhere nowhere

  abbrev pub AreCases : List (Pat X) → List token.Bar → Toks → Toks → Type 0
  AreCases = AreCasesWhere nowhere

  abbrev pub IsPat : PatPlace → Pat X → Toks → Toks → Type 0
  IsPat = IsPatWhere nowhere
