-- Which first tokens spell a mark, a word, a lifetime, a literal, a member or the limits of a range. Each relation ends in
-- those tokens with what follows them, and in what follows.
use Rattle.std.specs.Prelude.{◌≡◌, ℕ, Bool, true, List, [], ◌∷◌, Some}
use Rattle.token_core.specs.declared.span.Span.{Span}
use Rattle.token_core.specs.declared.tree.Ident.{Ident}
use Rattle.token_core.specs.declared.tree.Literal.{Literal}
use Rattle.token_core.specs.declared.tree.LitKind.TheVariants.{Str, Int}
use Rattle.token_core.specs.declared.tree.Spacing.{Spacing}
use Rattle.token_core.specs.declared.tree.Spacing.TheVariants.{Joint}
use Rattle.token_core.specs.declared.mark.Mark.{Mark}
use Rattle.token_core.specs.declared.word.Word.{Word}
use Rattle.token_core.specs.declared.lifetime.Lifetime.{Lifetime}
use Rattle.token_core.specs.declared.lit.Lit.{Lit}
use Rattle.token_core.specs.declared.lit.Lit.TheVariants as v
use Rattle.token_core.specs.declared.lit.LitStr.{LitStr}
use Rattle.token_core.specs.declared.member.Index.{Index}
use Rattle.token_core.specs.declared.member.Member.{Member}
use Rattle.token_core.specs.declared.member.Member.TheVariants as m
use Rattle.token_core.specs.declared.range.RangeLimits.{RangeLimits}
use Rattle.token_core.specs.declared.range.RangeLimits.TheVariants as limits
use Rattle.token_core.specs.Toks.{Bytes, Toks, word, mark, lit}
use Rattle.token_core.specs.Trees.{ident, punct, literal}
use Rattle.token_core.specs.Clear.{Apart}
use Rattle.token_core.specs.Marks.{chars_of, text_of, word_of}
use Rattle.token_core.specs.Reads.{is_ident}
use Rattle.token_core.specs.Lifetimes.{lifetime}
use Rattle.token_core.specs.Lits.{lit_bool, lit_str, negative, bool_text, is_number}
use Rattle.token_core.specs.Members.{index, value}
use Rattle.token_core.specs.Ranges.{DotDot, DotDotDot, DotDotEq, closed_by}

-- ---- marks

module _ (clear : Bool) (all : List ℕ) where
  -- the characters that are left of a mark of them all: each but the last is Joint; where the spelling is clear, the mark stands apart
  pub data AreChars : List ℕ → List Span → Toks → Toks → Type 0 where
    no_char : {r : Toks} → AreChars [] [] r r
    last_char : {c : ℕ} {a : Span} {j : Spacing} {r : Toks} → Apart clear all j r → AreChars (c ∷ []) (a ∷ []) (mark (punct c j a) r) r
    more_chars : {c d : ℕ} {cs : List ℕ} {a : Span} {ss : List Span} {l r : Toks} → AreChars (d ∷ cs) ss l r → AreChars (c ∷ d ∷ cs) (a ∷ ss) (mark (punct c Joint a) l) r

-- a mark with the spans of its characters
abbrev pub mark_at : (n k : ℕ) → List Span → Mark n k
mark_at n k ss = record { spans = ss }

module _ (clear : Bool) {n k : ℕ} where
  pub data IsMark : Mark n k → Toks → Toks → Type 0 where
    is_mark : {ss : List Span} {l r : Toks} → AreChars clear (chars_of n) (chars_of n) ss l r → IsMark (mark_at n k ss) l r

-- ---- words and lifetimes

module _ {n : ℕ} where
  pub data IsWord : Word n → Toks → Toks → Type 0 where
    is_word : {a : Span} {r : Toks} → IsWord (word_of n a) (word (ident (text_of n) a) r) r

pub data IsLifetime : Lifetime → Toks → Toks → Type 0 where
  is_lifetime : {a : Span} {i : Ident} {r : Toks} → IsLifetime (lifetime a i) (mark (punct 39 Joint a) (word i r)) r

-- ---- literals: a minus before a number is no part of a longer mark, so that each spelling is clear

pub data IsLit : Lit → Toks → Toks → Type 0 where
  a_literal : {x : Literal} {r : Toks} → IsLit (v.Literal x) (lit x r) r
  a_bool : {b : Bool} {a : Span} {r : Toks} → IsLit (v.Bool (lit_bool b a)) (word (ident (bool_text b) a) r) r
  a_negative : {a : Span} {j : Spacing} {x : Literal} {r : Toks} → is_number x.kind ≡ true → IsLit (v.Negative (negative a x)) (mark (punct 45 j a) (lit x r)) r

pub data IsStr : LitStr → Toks → Toks → Type 0 where
  a_str : {t : Bytes} {a : Span} {r : Toks} → IsStr (lit_str t a) (lit (literal Str t a) r) r

-- ---- members: an index by any text of its value

pub data IsIndex : Index → Toks → Toks → Type 0 where
  an_index : {t : Bytes} {n : ℕ} {a : Span} {r : Toks} → value t ≡ Some n → IsIndex (index n a) (lit (literal Int t a) r) r

pub data IsMember : Member → Toks → Toks → Type 0 where
  named : {i : Ident} {r : Toks} → is_ident i.text ≡ true → IsMember (m.Named i) (word i r) r
  unnamed : {i : Index} {l r : Toks} → IsIndex i l r → IsMember (m.Unnamed i) l r

-- ---- limits of ranges

module _ (clear : Bool) where
  pub data AreLimits : RangeLimits → Toks → Toks → Type 0 where
    half_open : {d : DotDot} {l r : Toks} → IsMark clear d l r → AreLimits (limits.HalfOpen d) l r
    closed : {d : DotDotEq} {l r : Toks} → IsMark clear d l r → AreLimits (limits.Closed d) l r

  -- the same, or `...`, which is kept as `..=`
  pub data AreOldLimits : RangeLimits → Toks → Toks → Type 0 where
    new_limits : {x : RangeLimits} {l r : Toks} → AreLimits x l r → AreOldLimits x l r
    old_limits : {d : DotDotDot} {l r : Toks} → IsMark clear d l r → AreOldLimits (closed_by d) l r
