-- Which lists the parts of patterns spell that hold no pattern: paths, macro calls, const blocks and ranges.
use Rattle.std.specs.Prelude.{◌≡◌, ◌||◌, ℕ, Bool, true, false, [], Option, Some, None}
use Rattle.token_core.specs.declared.lit.Lit.{Lit}
use Rattle.token_core.specs.declared.range.RangeLimits.{RangeLimits}
use Rattle.token_core.specs.declared.range.RangeLimits.TheVariants as limits
use Rattle.token_core.specs.declared.span.DelimSpan.{DelimSpan}
use Rattle.token_core.specs.declared.tree.Delimiter.TheVariants.{Brace}
use Rattle.token_core.specs.declared.tree.Ident.{Ident}
use Rattle.token_core.specs.Groups as groups
use Rattle.token_core.specs.Reads.{is_ident, is_text}
use Rattle.token_core.specs.Spellings.{IsMark, IsWord, IsLit, AreLimits, AreOldLimits}
use Rattle.token_core.specs.Toks.{Bytes, Toks, group}
use Rattle.syn_path.specs.Values.{SpelledValues}
use Rattle.syn_path.specs.declared.mac.Macro.{Macro}
use Rattle.syn_path.specs.declared.path.PathStyle.TheVariants.{Expr as expressions}
use Rattle.syn_path.specs.declared.supplied.Place.{Place}
use Rattle.syn_path.specs.declared.supplied.Place.TheVariants.{Block}
use Rattle.syn_path.specs.path.Paths.{lone_ident}
use Rattle.syn_attr.specs.attr.Attrs.{Attribute as Attr, const_of, lit_of}
use Rattle.syn_attr.specs.laws.Lengths.{spells_len}
use Rattle.syn_attr.specs.attr.Spelling.{AreAll, IsOuter, IsConst, IsConstDefault}
use Rattle.syn_attr.specs.declared.expr.Expr.{Expr}
use Rattle.syn_attr.specs.declared.expr.ExprConstOf.{ExprConstOf}
use Rattle.syn_ty.specs.path.Paths.{is_none}
use Rattle.syn_ty.specs.path.Spelling.{IsNoTry}
use Rattle.syn_ty.specs.ty.Admitted.{IsTypeCall}
use Rattle.syn_ty.specs.ty.Parts.{Manner, is_clear, Parts}
use Rattle.syn_ty.specs.ty.Spelt.{spelt_to}
use Rattle.syn_ty.specs.ty.Trees.{Path, QSelf}
use Rattle.syn_pat.specs.declared.pat.PatRangeBoundOf.TheVariants as b
use Rattle.syn_pat.specs.pat.Pats.{Attrs, PatRange, PatRangeBound, pat_range_of, path_pat_of}
use Rattle.token_core.specs.Tokens as token

-- ---- lone words

-- `self`
abbrev pub is_self : Option Ident → Bool
is_self None = false
is_self (Some i) = is_text token.self_value_text i.text

-- an `Ident` or `self`
abbrev pub is_binding_name : Bytes → Bool
is_binding_name t = is_ident t || is_text token.self_value_text t

abbrev pub is_binding : Option Ident → Bool
is_binding None = false
is_binding (Some i) = is_binding_name i.text

-- the word of a path that is one, without arguments
abbrev pub lone_word : {A E : Type 0} → Option (QSelf A E) → Path A E → Option Ident
lone_word (Some q) p = None
lone_word None p = lone_ident is_none p

-- ---- over what a supplied subtree spells in a place

module _ {X : Type 0} (spells : Place → X → Toks → Type 0) where
  abbrev pub outer_spelt : Bool → Attrs X → Toks → Toks → Type 0
  outer_spelt clear = AreAll (IsOuter spells clear)

  abbrev pub values_spelt : SpelledValues (Expr X)
  values_spelt = record { len = spells_len spells; const_argument = λ clear. IsConst spells; const_default = λ clear. IsConstDefault spells }

  -- what stands within a type of at most this height
  abbrev pub types_to : ℕ → Manner → Parts (Attr X) (Expr X)
  types_to = spelt_to outer_spelt values_spelt

  -- `const`, and braces that hold a body
  pub data IsConstBlock : ExprConstOf (Attr X) X → Toks → Toks → Type 0 where
    a_const_block : {w : token.Const} {s : DelimSpan} {x : X} {l c r : Toks} → IsWord w l (group Brace s c r) → spells Block x c → IsConstBlock (const_of [] w (groups.brace s) x) l r

  module _ (how : Manner) where
    -- a path in the style of expressions, which a type may qualify, and which does not begin with `try`
    pub data IsPatPath : Option (QSelf (Attr X) (Expr X)) → Path (Attr X) (Expr X) → Toks → Toks → Type 0 where
      a_pat_path : {q : Option (QSelf (Attr X) (Expr X))} {p : Path (Attr X) (Expr X)} {l r : Toks} → (n : ℕ) → IsNoTry (types_to n) how expressions q p l r → IsPatPath q p l r

    -- one that is not `self` alone
    abbrev pub IsHead : Option (QSelf (Attr X) (Expr X)) → Path (Attr X) (Expr X) → Toks → Toks → Type 0
    IsHead q p l r = IsPatPath q p l r × (is_self (lone_word q p) ≡ false)

    -- ---- ranges

    -- an end
    pub data IsEnd : PatRangeBound X → Toks → Toks → Type 0 where
      a_literal_end : {x : Lit} {l r : Toks} → IsLit x l r → IsEnd (b.Lit (lit_of [] x)) l r
      a_path_end : {q : Option (QSelf (Attr X) (Expr X))} {p : Path (Attr X) (Expr X)} {l r : Toks} → IsPatPath q p l r → IsEnd (b.Path (path_pat_of [] q p)) l r
      a_const_end : {x : ExprConstOf (Attr X) X} {l r : Toks} → IsConstBlock x l r → IsEnd (b.Const x) l r

    -- a start: not `self` alone
    pub data IsStart : PatRangeBound X → Toks → Toks → Type 0 where
      a_literal_start : {x : Lit} {l r : Toks} → IsLit x l r → IsStart (b.Lit (lit_of [] x)) l r
      a_path_start : {q : Option (QSelf (Attr X) (Expr X))} {p : Path (Attr X) (Expr X)} {l r : Toks} → IsHead q p l r → IsStart (b.Path (path_pat_of [] q p)) l r
      a_const_start : {x : ExprConstOf (Attr X) X} {l r : Toks} → IsConstBlock x l r → IsStart (b.Const x) l r

    -- a start and `..`; `..` or `..=` and an end; a start, `..`, `..=` or `...`, and an end
    pub data IsRange : PatRange X → Toks → Toks → Type 0 where
      without_end : {x : PatRangeBound X} {d : token.DotDot} {l m r : Toks} → IsStart x l m → IsMark (is_clear how) d m r → IsRange (pat_range_of [] (Some x) (limits.HalfOpen d) None) l r
      without_start : {t : RangeLimits} {y : PatRangeBound X} {l m r : Toks} → AreLimits (is_clear how) t l m → IsEnd y m r → IsRange (pat_range_of [] None t (Some y)) l r
      with_both : {x : PatRangeBound X} {t : RangeLimits} {y : PatRangeBound X} {l m n r : Toks} → IsStart x l m → AreOldLimits (is_clear how) t m n → IsEnd y n r → IsRange (pat_range_of [] (Some x) t (Some y)) l r

-- ---- macro calls

module _ (clear : Bool) where
  -- by a path that is not `self` alone
  abbrev pub IsPatCall : Macro → Toks → Toks → Type 0
  IsPatCall x l r = IsTypeCall clear x l r × (is_self (lone_ident (λ a. true) x.path) ≡ false)
