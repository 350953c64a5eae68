-- What a pattern begins with that a list spells clearly, and that it takes tokens.
use Rattle.std.proofs.Common.{◌≡◌, ℕ, ◌==◌, true, false, List, [], ◌∷◌, Option, None, refl, arith}
use Rattle.syn_pat.proofs.pat_laws.words.Tokens.{Lit, RangeLimits, DelimSpan, Delimiter, Brace, Ident, Punct, Reader, is_done, sees_mark, last_char, more_chars, IsLit, a_literal, a_bool, a_negative, is_mark, IsWord, is_word, AreLimits, half_open, closed, AreOldLimits, new_limits, old_limits, Toks, word, mark, lit, group}
use Rattle.syn_pat.proofs.pat_laws.words.Paths.{Macro, Place, IsCall, a_macro}
use Rattle.syn_pat.proofs.pat_laws.words.Attributes.{Expr, ExprConstOf}
use Rattle.syn_pat.proofs.pat_laws.words.Types.{is_segment_word, Manner, clearly, IsOptional, absent, present, Relation, Path, QSelf}
use Rattle.syn_pat.proofs.pat_laws.words.Patterns.{PatPlace, Single, a_box, AreCases, cases, IsBinding, a_binding, IsPat, a_single, some_cases, one_after_vert, some_after_vert, IsSubpat, a_subpat, IsSingle, a_binding_pat, a_wild, a_rest, a_const, a_call, a_path, a_range, a_reference, a_mutable_reference, a_paren, a_tuple, a_slice, a_tuple_struct, a_struct, a_verbatim, Pat, PatIdent, PatRange, PatRangeBound, IsConstBlock, a_const_block, IsEnd, a_literal_end, a_path_end, a_const_end, IsPatPath, IsRange, without_end, without_start, with_both, IsStart, a_literal_start, a_path_start, a_const_start}
use Rattle.token_core.specs.declared.tree.Literal.{Literal}
use Rattle.token_core.specs.Tokens as token
use Rattle.token_core.proofs.Unseen.{no_mark-other}
use Rattle.syn_attr.specs.attr.Attrs.{Attribute as Attr}
use Rattle.syn_ty.proofs.ty_laws.complete.Less.{call_less, group_less, less_less, less_no, listed_no, mark_no, mark_takes, no_less, no_no, same, some, word_takes}
use Rattle.syn_ty.proofs.ty_laws.complete.Within.{Less, NoMore}
use Rattle.syn_pat.specs.pat.Admitted.{a_literal as a_literal_pat}
use Rattle.syn_pat.proofs.pat_laws.complete.Bindings.{head_less}
use Rattle.syn_pat.proofs.pat_laws.complete.Calls.{call_is_path}
use Rattle.syn_pat.proofs.pat_laws.complete.Names.{Opens, by_name, by_sep, by_lt}
use Rattle.syn_pat.proofs.pat_laws.complete.Ranges.{path_opens}
use Rattle.syn_pat.proofs.pat_laws.complete.Within.{SuppliedMeets}

-- ---- a first token that is no `|`

pub data IsFirst : Toks → Type 0 where
  a_word : {i : Ident} {k : Toks} → IsFirst (word i k)
  a_lit : {x : Literal} {k : Toks} → IsFirst (lit x k)
  a_group : {d : Delimiter} {s : DelimSpan} {c k : Toks} → IsFirst (group d s c k)
  a_mark : {p : Punct} {k : Toks} → (p.ch == 124) ≡ false → IsFirst (mark p k)

pub first_there : (l : Toks) → IsFirst l → is_done l ≡ false
unfolding is_done
first_there l a_word = refl
first_there l a_lit = refl
first_there l a_group = refl
first_there l (a_mark h) = refl

pub first_no_bar : (l : Toks) → IsFirst l → token.sees_bar l ≡ false
unfolding sees_mark
first_no_bar l a_word = refl
first_no_bar l a_lit = refl
first_no_bar l a_group = refl
first_no_bar l (a_mark {p = p} {k = k} h) = no_mark-other 124 [] p k h

first_path : (l : Toks) → Opens l → IsFirst l
first_path l (by_name h) = a_word
first_path l (by_sep (is_mark (more_chars (last_char x)))) = a_mark refl
first_path l (by_lt (is_mark (last_char x))) = a_mark refl

first_lit : (x : Lit) (l k : Toks) → IsLit x l k → IsFirst l
first_lit x l k a_literal = a_lit
first_lit x l k a_bool = a_word
first_lit x l k (a_negative h) = a_mark refl

first_word : {n : ℕ} (w : _) (l k : Toks) → IsWord {n = n} w l k → IsFirst l
first_word w l k is_word = a_word

first_limits : (t : RangeLimits) (l k : Toks) → AreLimits true t l k → IsFirst l
first_limits t l k (half_open (is_mark (more_chars (last_char x)))) = a_mark refl
first_limits t l k (closed (is_mark (more_chars (more_chars (last_char x))))) = a_mark refl

-- ---- it takes tokens

lit_less : (x : Lit) (l k : Toks) → IsLit x l k → Less l k
lit_less x l k a_literal = record { lighter = omega arith; shorter = omega arith }
lit_less x l k a_bool = record { lighter = omega arith; shorter = omega arith }
lit_less x l k (a_negative h) = record { lighter = omega arith; shorter = omega arith }

limits_no : (t : RangeLimits) (l k : Toks) → AreOldLimits true t l k → NoMore l k
limits_no t l k (new_limits (half_open {d = d} i)) = mark_no {clear = true} {n = 8} {k = 2} d l k i
limits_no t l k (new_limits (closed {d = d} i)) = mark_no {clear = true} {n = 10} {k = 3} d l k i
limits_no t l k (old_limits {d = d} i) = mark_no {clear = true} {n = 9} {k = 3} d l k i

module _ {X : Type 0} (supplied : Place → Reader X) (spells : Place → X → Toks → Type 0) (g : SuppliedMeets supplied spells) where
  block_less : (x : ExprConstOf (Attr X) X) (l k : Toks) → IsConstBlock spells x l k → Less l k
  block_less x l k (a_const_block {w = w} {s = s} {c = c} i j) = less_less (word_takes w l (group Brace s c k) i) (group_less Brace s c k)

  start_less : (x : PatRangeBound X) (l k : Toks) → IsStart spells clearly x l k → Less l k
  start_less x l k (a_literal_start {x = y} i) = lit_less y l k i
  start_less x l k (a_path_start {q = q} {p = p} i) = g.path_less q p l k i.0
  start_less x l k (a_const_start {x = y} i) = block_less y l k i

  end_less : (x : PatRangeBound X) (l k : Toks) → IsEnd spells clearly x l k → Less l k
  end_less x l k (a_literal_end {x = y} i) = lit_less y l k i
  end_less x l k (a_path_end {q = q} {p = p} i) = g.path_less q p l k i
  end_less x l k (a_const_end {x = y} i) = block_less y l k i

  range_less : (x : PatRange X) (l k : Toks) → IsRange spells clearly x l k → Less l k
  range_less x l k (without_end {x = y} {d = d} {m = m} i j) = less_no (start_less y l m i) (mark_no {clear = true} {n = 8} {k = 2} d m k j)
  range_less x l k (without_start {t = t} {y = y} {m = m} i j) = no_less (limits_no t l m (new_limits i)) (end_less y m k j)
  range_less x l k (with_both {x = y} {t = t} {y = z} {m = m} {n = n} i j h) = less_no (start_less y l m i) (no_no (limits_no t m n j) (some (end_less z n k h)))

  path_first : (q : Option (QSelf (Attr X) (Expr X))) (p : Path (Attr X) (Expr X)) (l k : Toks) → IsPatPath spells clearly q p l k → IsFirst l
  path_first q p l k i = first_path l (path_opens supplied spells g q p l k i)

  start_first : (x : PatRangeBound X) (l k : Toks) → IsStart spells clearly x l k → IsFirst l
  start_first x l k (a_literal_start {x = y} i) = first_lit y l k i
  start_first x l k (a_path_start {q = q} {p = p} i) = path_first q p l k i.0
  start_first x l k (a_const_start (a_const_block {w = w} i j)) = first_word w l _ i

  range_first : (x : PatRange X) (l k : Toks) → IsRange spells clearly x l k → IsFirst l
  range_first x l k (without_end {x = y} {m = m} i j) = start_first y l m i
  range_first x l k (without_start {t = t} {m = m} i j) = first_limits t l m i
  range_first x l k (with_both {x = y} {m = m} i j h) = start_first y l m i

  call_first : (x : Macro) (l k : Toks) → IsCall true is_segment_word x l k → token.sees_try l ≡ false → IsFirst l
  call_first x l k (a_macro {p = p} i z u h) t = path_first None _ l _ (call_is_path spells p l _ i t)

  module _ (part : Manner → PatPlace → Relation (Pat X)) (less : (p : PatPlace) (x : Pat X) (l k : Toks) → part clearly p x l k → Less l k) where
    binding_first : (x : PatIdent X) (l k : Toks) → IsBinding spells part clearly x l k → IsFirst l
    binding_first x l k (a_binding absent absent h s) = a_word
    binding_first x l k (a_binding absent (present is_word) h s) = a_word
    binding_first x l k (a_binding (present is_word) q h s) = a_word

    pub single_first : (x : Pat X) (l k : Toks) → IsSingle spells part clearly x l k → IsFirst l
    single_first x l k (a_binding_pat {x = y} i) = binding_first y l k i
    single_first x l k (a_wild {w = w} i) = first_word w l k i
    single_first x l k (a_rest (is_mark (more_chars (last_char y)))) = a_mark refl
    single_first x l k (a_literal_pat {x = y} i) = first_lit y l k i
    single_first x l k (a_const (a_const_block {w = w} i j)) = first_word w l _ i
    single_first x l k (a_call {x = y} i) = call_first y l k i.0.0 i.0.1
    single_first x l k (a_path {q = q} {p = p} i h) = path_first q p l k i
    single_first x l k (a_range {x = y} i) = range_first y l k i
    single_first x l k (a_reference (is_mark (last_char y)) h j) = a_mark refl
    single_first x l k (a_mutable_reference (is_mark (last_char y)) h j) = a_mark refl
    single_first x l k (a_paren i h) = a_group
    single_first x l k (a_tuple i h) = a_group
    single_first x l k (a_slice i) = a_group
    single_first x l k (a_tuple_struct {q = q} {p = p} i j) = path_first q p l _ i.0
    single_first x l k (a_struct {q = q} {p = p} i j) = path_first q p l _ i.0
    single_first x l k (a_verbatim (a_box {b = w} i j, h)) = first_word w l _ i

    sub_no : (x : Option (token.At × Pat X)) (l k : Toks) → IsOptional (IsSubpat spells part clearly) x l k → NoMore l k
    sub_no x l k absent = same
    sub_no x l k (present (a_subpat {a = a} {x = y} {m = m} i j)) = no_no (mark_no {clear = true} {n = 6} {k = 1} a l m i) (some (less Single y m k j))

    binding_less : (x : PatIdent X) (l k : Toks) → IsBinding spells part clearly x l k → Less l k
    binding_less x l k (a_binding {f = o} {u = u} {i = i} {s = s} {m = m} {n = n} p q h j) = less_no (head_less o u i l m n p q) (sub_no s n k j)

    pub single_less : (x : Pat X) (l k : Toks) → IsSingle spells part clearly x l k → Less l k
    single_less x l k (a_binding_pat {x = y} i) = binding_less y l k i
    single_less x l k (a_wild {w = w} i) = word_takes w l k i
    single_less x l k (a_rest {d = d} i) = mark_takes 46 (46 ∷ []) refl d l k i
    single_less x l k (a_literal_pat {x = y} i) = lit_less y l k i
    single_less x l k (a_const {x = y} i) = block_less y l k i
    single_less x l k (a_call {x = y} i) = call_less true is_segment_word y l k i.0.0
    single_less x l k (a_path {q = q} {p = p} i h) = g.path_less q p l k i
    single_less x l k (a_range {x = y} i) = range_less y l k i
    single_less x l k (a_reference {a = a} {x = y} {m = m} i h j) = less_less (mark_takes 38 [] refl a l m i) (less Single y m k j)
    single_less x l k (a_mutable_reference {a = a} {u = u} {x = y} {m = m} {n = n} i h j) = less_less (mark_takes 38 [] refl a l m i) (less_less (word_takes u m n h) (less Single y n k j))
    single_less x l k (a_paren {s = s} {c = c} i h) = group_less _ s c k
    single_less x l k (a_tuple {s = s} {c = c} i h) = group_less _ s c k
    single_less x l k (a_slice {s = s} {c = c} i) = group_less _ s c k
    single_less x l k (a_tuple_struct {q = q} {p = p} {s = s} {c = c} i j) = less_less (g.path_less q p l _ i.0) (group_less _ s c k)
    single_less x l k (a_struct {q = q} {p = p} {s = s} {c = c} i j) = less_less (g.path_less q p l _ i.0) (group_less _ s c k)
    single_less x l k (a_verbatim (a_box {b = w} {x = y} {m = m} i j, h)) = less_less (word_takes w l m i) (less Single y m k j)

    cases_less : (xs : List (Pat X)) (cs : List token.Bar) (l k : Toks) → AreCases spells part clearly xs cs l k → Less l k
    cases_less xs cs l k (cases {x = x} {c = c} {xs = ys} {cs = ds} {m = m} {n = n} i j rest) =
        less_no (single_less x l m i) (no_no (mark_no {clear = true} {n = 17} {k = 1} c m n j) (listed_no (λ b y z t w. less Single y z t w) (λ d z t w. mark_no {clear = true} {n = 17} {k = 1} d z t w) true ys ds n k rest))

    cases_first : (xs : List (Pat X)) (cs : List token.Bar) (l k : Toks) → AreCases spells part clearly xs cs l k → IsFirst l
    cases_first xs cs l k (cases {x = x} {m = m} i j rest) = single_first x l m i

    pub pat_less : (p : PatPlace) (x : Pat X) (l k : Toks) → IsPat spells part clearly p x l k → Less l k
    pat_less p x l k (a_single i h) = single_less x l k i
    pat_less p x l k (some_cases {xs = xs} {cs = cs} h i) = cases_less xs cs l k i
    pat_less p x l k (one_after_vert {b = b} {x = y} {m = m} h i j) = no_less (mark_no {clear = true} {n = 17} {k = 1} b l m i) (single_less y m k j)
    pat_less p x l k (some_after_vert {b = b} {xs = xs} {cs = cs} {m = m} h i j) = no_less (mark_no {clear = true} {n = 17} {k = 1} b l m i) (cases_less xs cs m k j)

    pub pat_there : (p : PatPlace) (x : Pat X) (l k : Toks) → IsPat spells part clearly p x l k → is_done l ≡ false
    unfolding is_done
    pat_there p x l k (a_single i h) = first_there l (single_first x l k i)
    pat_there p x l k (some_cases {xs = xs} {cs = cs} h i) = first_there l (cases_first xs cs l k i)
    pat_there p x l k (one_after_vert h (is_mark (last_char y)) j) = refl
    pat_there p x l k (some_after_vert h (is_mark (last_char y)) j) = refl
