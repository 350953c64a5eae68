-- A single pattern is spelt clearly before other tokens too, where no longer mark begins with `..` before these: each of its forms, over the patterns within.
use Rattle.std.proofs.Common.{◌≡◌, ◌||◌, ◌&&◌, ℕ, Bool, true, false, List, [], ◌∷◌, Option, refl, ◌∙◌, ap}
use Rattle.syn_pat.proofs.pat_laws.words.Tokens.{RangeLimits, Span, Brace, Parenthesis, Ident, Spacing, Joint, is_done, sees_mark, IsMark, is_mark, last_char, more_chars, AreLimits, half_open, closed, AreOldLimits, new_limits, old_limits, Toks, done, word, mark, lit, group, enter, leave, punct}
use Rattle.syn_pat.proofs.pat_laws.words.Paths.{Macro, Place}
use Rattle.syn_pat.proofs.pat_laws.words.Attributes.{Expr, ExprConstOf}
use Rattle.syn_pat.proofs.pat_laws.words.Types.{Manner, clearly, IsOptional, absent, present, Relation, Path, QSelf}
use Rattle.syn_pat.proofs.pat_laws.words.Patterns.{PatPlace, Single, IsBoxed, a_box, IsBoxedName, a_boxed_name, IsSubpat, a_subpat, IsBinding, a_binding, IsSingle, a_binding_pat, a_wild, a_rest, a_literal, a_const, a_call, a_path, a_range, a_reference, a_mutable_reference, a_paren, a_tuple, a_slice, a_tuple_struct, a_struct, a_verbatim, IsPat, a_single, some_cases, one_after_vert, some_after_vert, Pat, PatIdent, PatRange, PatRangeBound, outer_spelt, values_spelt, types_to, IsConstBlock, a_const_block, IsPatPath, a_pat_path, IsHead, IsEnd, a_literal_end, a_path_end, a_const_end, IsStart, a_literal_start, a_path_start, a_const_start, IsRange, without_end, without_start, with_both, IsPatCall}
use Rattle.token_core.specs.Clear.{Apart, is_glued}
use Rattle.token_core.specs.Reads.{is_joint}
use Rattle.token_core.specs.Tokens as token
use Rattle.syn_path.specs.Ends.{before, Calm, Ended, Moved, Shut}
use Rattle.syn_path.proofs.Ends.{call_over, chars_on, group_on, lit_over, on, over, shut_of, word_on, word_over}
use Rattle.syn_path.proofs.Moves.{steady, calm_after, free_moves, lit_moves, word_moves, words_before}
use Rattle.syn_attr.specs.attr.Attrs.{Attribute as Attr}
use Rattle.syn_ty.proofs.ty_laws.reprint.MovesKnot.{GivenMoves, moving_to}
use Rattle.syn_ty.proofs.ty_laws.reprint.EndsParts.{optional_on}
use Rattle.syn_ty.proofs.ty_laws.reprint.EndsPaths.{any_path_over}
use Rattle.syn_ty.proofs.ty_laws.reprint.MovesParts.{optional_moves}
use Rattle.syn_ty.proofs.ty_laws.reprint.MovesPaths.{no_try_moves}
use Rattle.syn_ty.proofs.ty_laws.reprint.MovesTypes.{holds_before, type_call_moves}

-- ---- `..`

-- no longer mark begins with `..` before these
abbrev pub NoDots : Toks → Type 0
NoDots k = is_glued (46 ∷ 46 ∷ []) k ≡ false

-- what stands after nothing more
past_done : (cs : List ℕ) (l k : Toks) → is_done l ≡ true → sees_mark cs (before l k) ≡ sees_mark cs k
unfolding is_done sees_mark
past_done cs done k h = refl
past_done cs (word i l) k h = cc h
past_done cs (mark p l) k h = cc h
past_done cs (lit x l) k h = cc h
past_done cs (group d s c l) k h = cc h
past_done [] (enter s l) k h = refl
past_done (c ∷ cs) (enter s l) k h = past_done (c ∷ cs) l k h
past_done [] (leave l) k h = refl
past_done (c ∷ cs) (leave l) k h = past_done (c ∷ cs) l k h

module _ (k : Toks) (no_dots : NoDots k) where
  dots_apart : (a : Span) (j : Spacing) (l : Toks) → Calm l → Apart true (46 ∷ 46 ∷ []) j l → Apart true (46 ∷ 46 ∷ []) j (before l k)
  dots_apart a j l q h = λ y f. by_end (is_done l) refl f
    where
      by_end : (b : Bool) → is_done l ≡ b → j ≡ Joint → is_glued (46 ∷ 46 ∷ []) (before l k) ≡ false
      by_end true e f = ap (λ z. z || (sees_mark (61 ∷ []) (before l k) || false)) (past_done (46 ∷ []) l k e) ∙ ap (λ z. sees_mark (46 ∷ []) k || (z || false)) (past_done (61 ∷ []) l k e) ∙ no_dots
      by_end false e f =
          let s = steady k l e q in
          ap (λ z. z || (sees_mark (61 ∷ []) (before l k) || false)) (s.one 46) ∙ ap (λ z. sees_mark (46 ∷ []) l || (z || false)) (s.one 61) ∙ h refl f

  dots_move : {x : token.DotDot} {l r : Toks} → IsMark true x l r → Calm l → Moved (IsMark true x) k l r
  dots_move (is_mark (more_chars {a = a} {l = m} (last_char {a = b} {j = j} {r = r} h))) q =
      let p = calm_after (punct 46 j b) r (calm_after (punct 46 Joint a) m q) in
      record { calm = p; is = is_mark (more_chars (last_char (dots_apart b j r p h))) }

  limits_move : {x : RangeLimits} {l r : Toks} → AreLimits true x l r → Calm l → Moved (AreLimits true x) k l r
  limits_move (half_open i) q = let a = dots_move i q in record { calm = a.calm; is = half_open a.is }
  limits_move (closed i) q = let a = free_moves (λ l. refl) k i q in record { calm = a.calm; is = closed a.is }

  old_limits_move : {x : RangeLimits} {l r : Toks} → AreOldLimits true x l r → Calm l → Moved (AreOldLimits true x) k l r
  old_limits_move (new_limits i) q = let a = limits_move i q in record { calm = a.calm; is = new_limits a.is }
  old_limits_move (old_limits i) q = let a = free_moves (λ l. refl) k i q in record { calm = a.calm; is = old_limits a.is }

-- ---- how they end

neither : (b : Bool) → (b && false) ≡ false
neither true = refl
neither false = refl

dots_over : {x : token.DotDot} {l r : Toks} → IsMark true x l r → Shut r → Ended l
dots_over (is_mark (more_chars {a = a} {l = m} (last_char {a = b} {j = j} {r = r} e))) h = on (punct 46 Joint a) m (over (punct 46 j b) r (neither (is_joint j)) h)

limits_on : {x : RangeLimits} {l r : Toks} → AreLimits true x l r → Ended r → Ended l
limits_on (half_open (is_mark i)) h = chars_on i h
limits_on (closed (is_mark i)) h = chars_on i h

old_limits_on : {x : RangeLimits} {l r : Toks} → AreOldLimits true x l r → Ended r → Ended l
old_limits_on (new_limits i) h = limits_on i h
old_limits_on (old_limits (is_mark i)) h = chars_on i h

-- ---- the name of a field that is held verbatim

pub boxed_name_moves : {i : Ident} (k : Toks) {l r : Toks} → IsBoxedName i l r → Calm l → Moved (IsBoxedName i) k l r
boxed_name_moves k (a_boxed_name b f u h) q =
    let a = word_moves k b q in
    let c = optional_moves k f a.calm (λ x l r i q. word_moves k i q) in
    let d = optional_moves k u c.calm (λ x l r i q. word_moves k i q) in
    record { calm = d.calm; is = a_boxed_name a.is c.is d.is h }

pub boxed_name_over : {i : Ident} {l r : Toks} → IsBoxedName i l r → Shut r → Ended l
boxed_name_over (a_boxed_name b f u e) h =
    let k = optional_on f (λ x l r i u. word_over i u.apart) (optional_on u (λ x l r i u. word_over i u.apart) (word_on _ _ h)) in word_over b k.apart

-- ---- what is known of single patterns within a form

module _ {X : Type 0} where
  pub record SinglesMove (part : PatPlace → Relation (Pat X)) : Type 0 where
    pub single : (k : Toks) → NoDots k → (x : Pat X) (l r : Toks) → part Single x l r → Calm l → Moved (part Single x) k l r
    pub ends : (x : Pat X) (l r : Toks) → part Single x l r → Shut r → Ended l

module _ {X : Type 0} (spells : Place → X → Toks → Type 0) (types : GivenMoves (outer_spelt spells) (values_spelt spells)) where
  -- ---- paths, const blocks and ranges

  pat_path_moves : {o : Option (QSelf (Attr X) (Expr X))} {p : Path (Attr X) (Expr X)} {l r : Toks} (k : Toks) → IsPatPath spells clearly o p l r → Calm l → Moved (IsPatPath spells clearly o p) k l r
  pat_path_moves k (a_pat_path n i) q = let a = no_try_moves (types_to spells n) k (moving_to (outer_spelt spells) (values_spelt spells) types k n) i q in record { calm = a.calm; is = a_pat_path n a.is }

  pat_path_over : {o : Option (QSelf (Attr X) (Expr X))} {p : Path (Attr X) (Expr X)} {l r : Toks} → IsPatPath spells clearly o p l r → Shut r → Ended l
  pat_path_over (a_pat_path n i) h = let up = moving_to (outer_spelt spells) (values_spelt spells) types done n in any_path_over (types_to spells n) up.ends i.0 h

  head_moves : {o : Option (QSelf (Attr X) (Expr X))} {p : Path (Attr X) (Expr X)} {l r : Toks} (k : Toks) → IsHead spells clearly o p l r → Calm l → Moved (IsHead spells clearly o p) k l r
  head_moves k (i, h) q = let a = pat_path_moves k i q in record { calm = a.calm; is = (a.is, h) }

  block_moves : {x : ExprConstOf (Attr X) X} {l r : Toks} (k : Toks) → IsConstBlock spells x l r → Calm l → Moved (IsConstBlock spells x) k l r
  block_moves k (a_const_block i j) q = let a = word_moves k i q in record { calm = a.calm; is = a_const_block a.is j }

  block_over : {x : ExprConstOf (Attr X) X} {l r : Toks} → IsConstBlock spells x l r → Shut r → Ended l
  block_over {r = r} (a_const_block {s = s} {c = c} i j) h = let k = group_on Brace s c r h in word_over i k.apart

  end_moves : {x : PatRangeBound X} {l r : Toks} (k : Toks) → IsEnd spells clearly x l r → Calm l → Moved (IsEnd spells clearly x) k l r
  end_moves k (a_literal_end i) q = let a = lit_moves k i q in record { calm = a.calm; is = a_literal_end a.is }
  end_moves k (a_path_end i) q = let a = pat_path_moves k i q in record { calm = a.calm; is = a_path_end a.is }
  end_moves k (a_const_end i) q = let a = block_moves k i q in record { calm = a.calm; is = a_const_end a.is }

  start_moves : {x : PatRangeBound X} {l r : Toks} (k : Toks) → IsStart spells clearly x l r → Calm l → Moved (IsStart spells clearly x) k l r
  start_moves k (a_literal_start i) q = let a = lit_moves k i q in record { calm = a.calm; is = a_literal_start a.is }
  start_moves k (a_path_start i) q = let a = head_moves k i q in record { calm = a.calm; is = a_path_start a.is }
  start_moves k (a_const_start i) q = let a = block_moves k i q in record { calm = a.calm; is = a_const_start a.is }

  end_over : {x : PatRangeBound X} {l r : Toks} → IsEnd spells clearly x l r → Shut r → Ended l
  end_over (a_literal_end i) h = lit_over i h
  end_over (a_path_end i) h = pat_path_over i h
  end_over (a_const_end i) h = block_over i h

  start_over : {x : PatRangeBound X} {l r : Toks} → IsStart spells clearly x l r → Shut r → Ended l
  start_over (a_literal_start i) h = lit_over i h
  start_over (a_path_start i) h = pat_path_over i.0 h
  start_over (a_const_start i) h = block_over i h

  range_moves : {x : PatRange X} {l r : Toks} (k : Toks) → NoDots k → IsRange spells clearly x l r → Calm l → Moved (IsRange spells clearly x) k l r
  range_moves k n (without_end i d) q = let a = start_moves k i q in let b = dots_move k n d a.calm in record { calm = b.calm; is = without_end a.is b.is }
  range_moves k n (without_start t i) q = let a = limits_move k n t q in let b = end_moves k i a.calm in record { calm = b.calm; is = without_start a.is b.is }
  range_moves k n (with_both i t j) q =
      let a = start_moves k i q in
      let b = old_limits_move k n t a.calm in
      let c = end_moves k j b.calm in
      record { calm = c.calm; is = with_both a.is b.is c.is }

  range_over : {x : PatRange X} {l r : Toks} → IsRange spells clearly x l r → Shut r → Ended l
  range_over (without_end i d) h = let k = dots_over d h in start_over i k.apart
  range_over (without_start t i) h = limits_on t (end_over i h)
  range_over (with_both i t j) h = let k = old_limits_on t (end_over j h) in start_over i k.apart

  call_moves : {x : Macro} {l r : Toks} (k : Toks) → IsPatCall true x l r → Calm l → Moved (IsPatCall true x) k l r
  call_moves k (i, h) q = let a = type_call_moves k i q in record { calm = a.calm; is = (a.is, h) }

  -- ---- over single patterns within

  module _ (part : Manner → PatPlace → Relation (Pat X)) (up : SinglesMove (part clearly)) where
    pub boxed_moves : (k : Toks) → NoDots k → {l r : Toks} → IsBoxed part clearly l r → Calm l → Moved (IsBoxed part clearly) k l r
    boxed_moves k n (a_box b i) q = let a = word_moves k b q in let c = up.single k n _ _ _ i a.calm in record { calm = c.calm; is = a_box a.is c.is }

    pub boxed_over : {l r : Toks} → IsBoxed part clearly l r → Shut r → Ended l
    boxed_over (a_box b i) h = let k = up.ends _ _ _ i h in word_over b k.apart

    module _ (k : Toks) (n : NoDots k) where
      sub_moves : {x : token.At × Pat X} {l r : Toks} → IsSubpat spells part clearly x l r → Calm l → Moved (IsSubpat spells part clearly x) k l r
      sub_moves (a_subpat i j) q = let a = free_moves (λ l. refl) k i q in let b = up.single k n _ _ _ j a.calm in record { calm = b.calm; is = a_subpat a.is b.is }

      binding_moves : {x : PatIdent X} {l r : Toks} → IsBinding spells part clearly x l r → Calm l → Moved (IsBinding spells part clearly x) k l r
      binding_moves (a_binding f u h s) q =
          let a = optional_moves k f q (λ x l r i q. word_moves k i q) in
          let b = optional_moves k u a.calm (λ x l r i q. word_moves k i q) in
          let c = optional_moves k s b.calm (λ x l r i q. sub_moves i q) in
          record { calm = c.calm; is = a_binding a.is b.is h c.is }

      pub single_moves : (x : Pat X) (l r : Toks) → IsSingle spells part clearly x l r → Calm l → Moved (IsSingle spells part clearly x) k l r
      single_moves x l r (a_binding_pat i) q = let a = binding_moves i q in record { calm = a.calm; is = a_binding_pat a.is }
      single_moves x l r (a_wild i) q = let a = word_moves k i q in record { calm = a.calm; is = a_wild a.is }
      single_moves x l r (a_rest i) q = let a = dots_move k n i q in record { calm = a.calm; is = a_rest a.is }
      single_moves x l r (a_literal i) q = let a = lit_moves k i q in record { calm = a.calm; is = a_literal a.is }
      single_moves x l r (a_const i) q = let a = block_moves k i q in record { calm = a.calm; is = a_const a.is }
      single_moves x l r (a_call i) q = let a = call_moves k i q in record { calm = a.calm; is = a_call a.is }
      single_moves x l r (a_path i h) q = let a = pat_path_moves k i q in record { calm = a.calm; is = a_path a.is h }
      single_moves x l r (a_range i) q = let a = range_moves k n i q in record { calm = a.calm; is = a_range a.is }
      single_moves x l r (a_reference {m = m} i h j) q =
          let a = free_moves (λ l. refl) k i q in
          let b = up.single k n _ _ _ j a.calm in
          let u = up.ends _ m r j (shut_of r b.calm) in
          record { calm = b.calm; is = a_reference a.is (words_before k m u.there _ ∙ h) b.is }
      single_moves x l r (a_mutable_reference i u j) q =
          let a = free_moves (λ l. refl) k i q in
          let b = word_moves k u a.calm in
          let c = up.single k n _ _ _ j b.calm in
          record { calm = c.calm; is = a_mutable_reference a.is b.is c.is }
      single_moves x l r (a_paren i h) q = record { calm = q; is = a_paren i h }
      single_moves x l r (a_tuple i h) q = record { calm = q; is = a_tuple i h }
      single_moves x l r (a_slice i) q = record { calm = q; is = a_slice i }
      single_moves x l r (a_tuple_struct i j) q = let a = head_moves k i q in record { calm = a.calm; is = a_tuple_struct a.is j }
      single_moves x l r (a_struct i j) q = let a = head_moves k i q in record { calm = a.calm; is = a_struct a.is j }
      single_moves x l r (a_verbatim {t = t} (i, h)) q = let a = boxed_moves k n i q in record { calm = a.calm; is = a_verbatim (a.is, holds_before t l r k h) }

    sub_shut : {x : Option (token.At × Pat X)} {l r : Toks} → IsOptional (IsSubpat spells part clearly) x l r → Shut r → Shut l
    sub_shut absent h = h
    sub_shut (present (a_subpat (is_mark i) j)) h = let k = chars_on i (up.ends _ _ _ j h) in k.apart

    binding_over : {x : PatIdent X} {l r : Toks} → IsBinding spells part clearly x l r → Shut r → Ended l
    binding_over (a_binding f u e s) h = optional_on f (λ x l r i u. word_over i u.apart) (optional_on u (λ x l r i u. word_over i u.apart) (word_on _ _ (sub_shut s h)))

    pub single_over : (x : Pat X) (l r : Toks) → IsSingle spells part clearly x l r → Shut r → Ended l
    single_over x l r (a_binding_pat i) h = binding_over i h
    single_over x l r (a_wild i) h = word_over i h
    single_over x l r (a_rest i) h = dots_over i h
    single_over x l r (a_literal i) h = lit_over i h
    single_over x l r (a_const i) h = block_over i h
    single_over x l r (a_call i) h = call_over i.0.0 h
    single_over x l r (a_path i e) h = pat_path_over i h
    single_over x l r (a_range i) h = range_over i h
    single_over x l r (a_reference (is_mark i) e j) h = chars_on i (up.ends _ _ _ j h)
    single_over x l r (a_mutable_reference (is_mark i) u j) h = let k = up.ends _ _ _ j h in chars_on i (word_over u k.apart)
    single_over x l r (a_paren i e) h = group_on _ _ _ _ h
    single_over x l r (a_tuple i e) h = group_on _ _ _ _ h
    single_over x l r (a_slice i) h = group_on _ _ _ _ h
    single_over x l r (a_tuple_struct {s = s} {c = c} i j) h = let k = group_on Parenthesis s c r h in pat_path_over i.0 k.apart
    single_over x l r (a_struct {s = s} {c = c} i j) h = let k = group_on Brace s c r h in pat_path_over i.0 k.apart
    single_over x l r (a_verbatim i) h = boxed_over i.0 h

    -- ---- in the place of a single pattern

    pub pat_moves : (k : Toks) → NoDots k → (x : Pat X) (l r : Toks) → IsPat spells part clearly Single x l r → Calm l → Moved (IsPat spells part clearly Single x) k l r
    pat_moves k n x l r (a_single i h) q = let a = single_moves k n x l r i q in record { calm = a.calm; is = a_single a.is h }
    pat_moves k n x l r (some_cases h i) q = cc h
    pat_moves k n x l r (one_after_vert h i j) q = cc h
    pat_moves k n x l r (some_after_vert h i j) q = cc h

    pub pat_ends : (x : Pat X) (l r : Toks) → IsPat spells part clearly Single x l r → Shut r → Ended l
    pat_ends x l r (a_single i e) h = single_over x l r i h
    pat_ends x l r (some_cases e i) h = cc e
    pat_ends x l r (one_after_vert e i j) h = cc e
    pat_ends x l r (some_after_vert e i j) h = cc e
