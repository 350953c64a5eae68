-- What spells tokens clearly does not end in a mark that is glued to what follows, but perhaps in a `!`: marks, words, lifetimes, literals, values with marks between them, paths without arguments and macro calls.
use Rattle.std.proofs.Common.{◌≡◌, ◌||◌, ◌&&◌, ◌==◌, ℕ, Bool, true, false, if◌then◌else◌, List, [], ◌∷◌, refl, ◌∙◌, ap}
use Rattle.token_core.specs.declared.lifetime.Lifetime.{Lifetime}
use Rattle.token_core.specs.declared.lit.Lit.{Lit}
use Rattle.token_core.specs.declared.lit.LitStr.{LitStr}
use Rattle.token_core.specs.declared.span.Span.{Span}
use Rattle.token_core.specs.declared.tree.Punct.{Punct}
use Rattle.token_core.specs.declared.tree.Spacing.TheVariants.{Joint}
use Rattle.token_core.specs.declared.word.Word.{Word}
use Rattle.token_core.specs.Listed.{AreListed, none_left, last_value, value_and_mark}
use Rattle.token_core.specs.Reads.{is_done, is_joint}
use Rattle.token_core.specs.Spellings.{AreChars, last_char, more_chars, IsWord, is_word, IsLifetime, is_lifetime, IsLit, a_literal, a_bool, a_negative, IsStr, a_str}
use Rattle.token_core.specs.Toks.{Bytes, Toks, done, word, mark, lit, group, enter, leave}
use Rattle.token_core.specs.Trees.{punct}
use Rattle.syn_path.specs.declared.mac.Macro.{Macro}
use Rattle.syn_path.specs.declared.path.PathOf.{PathOf}
use Rattle.syn_path.specs.declared.path.PathSegmentOf.{PathSegmentOf}
use Rattle.syn_path.specs.Ends.{Calm, Ended, NoBang, Shut, ends_with, is_glued_bang, is_other_glued, may_go_on}
use Rattle.syn_path.specs.mac.Spelling.{IsCall, a_macro}
use Rattle.syn_path.specs.path.Paths.{Sep}
use Rattle.syn_path.specs.path.Spelling.{no_leading, leading, AreSegments, last_segment, more_segments, IsBarePath, a_bare_path}

-- ---- before what is there, and before nothing

-- where tokens follow
pub on : (p : Punct) (l : Toks) → Ended l → Ended (mark p l)
unfolding is_done
on p l h = record { there = refl; apart = ap (λ (b : Bool). if b then is_other_glued p else ends_with is_other_glued l) h.there ∙ h.apart }

-- whatever follows
pub over : (p : Punct) (l : Toks) → is_other_glued p ≡ false → Shut l → Ended (mark p l)
unfolding is_done
over p l e h = record { there = refl; apart = by_end (is_done l) }
  where
    by_end : (b : Bool) → (if b then is_other_glued p else ends_with is_other_glued l) ≡ false
    by_end true = e
    by_end false = h

pub word_on : (i : _) (l : Toks) → Shut l → Ended (word i l)
unfolding is_done
word_on i l h = record { there = refl; apart = h }

pub lit_on : (x : _) (l : Toks) → Shut l → Ended (lit x l)
unfolding is_done
lit_on x l h = record { there = refl; apart = h }

pub group_on : (d : _) (s : _) (c l : Toks) → Shut l → Ended (group d s c l)
unfolding is_done
group_on d s c l h = record { there = refl; apart = h }

-- ---- marks, words, lifetimes and literals

-- a mark before what is there
pub chars_on : {clear : Bool} {all : List ℕ} {c : ℕ} {cs : List ℕ} {ss : List Span} {l r : Toks} → AreChars clear all (c ∷ cs) ss l r → Ended r → Ended l
chars_on (last_char {r = r} x) h = on _ r h
chars_on (more_chars {l = m} x) h = on _ m (chars_on x h)

-- a mark of one character that is none of these
not_joint : (j b : Bool) → b ≡ false → (j && b) ≡ false
not_joint true b e = e
not_joint false b e = refl

pub char_over : (c : ℕ) (other : (c == 58 || (c == 61 || (c == 60 || (c == 124 || c == 39)))) ≡ false) {clear : Bool} {all : List ℕ} {ss : List Span} {l r : Toks} → AreChars clear all (c ∷ []) ss l r → Shut r → Ended l
char_over c other (last_char {a = a} {j = j} {r = r} x) h = over (punct c j a) r (not_joint (is_joint j) (c == 58 || (c == 61 || (c == 60 || (c == 124 || c == 39)))) other) h

pub word_over : {n : ℕ} {x : Word n} {l r : Toks} → IsWord x l r → Shut r → Ended l
word_over (is_word {r = r}) h = word_on _ r h

pub lifetime_over : {x : Lifetime} {l r : Toks} → IsLifetime x l r → Shut r → Ended l
lifetime_over (is_lifetime {a = a} {i = i} {r = r}) h = on (punct 39 Joint a) (word i r) (word_on i r h)

pub lit_over : {x : Lit} {l r : Toks} → IsLit x l r → Shut r → Ended l
lit_over (a_literal {r = r}) h = lit_on _ r h
lit_over (a_bool {r = r}) h = word_on _ r h
lit_over (a_negative {a = a} {j = j} {x = x} {r = r} e) h = on (punct 45 j a) (lit x r) (lit_on x r h)

pub str_over : {x : LitStr} {l r : Toks} → IsStr x l r → Shut r → Ended l
str_over (a_str {r = r}) h = lit_on _ r h

-- ---- values with marks between them, before what is there

module _ {A P : Type 0} {V : Bool → A → Toks → Toks → Type 0} {M : P → Toks → Toks → Type 0} {Ends : Bool → Type 0} (values : (b : Bool) (x : A) (l r : Toks) → V b x l r → Ended r → Ended l) (marks : (p : P) (l r : Toks) → M p l r → Ended r → Ended l) where
  pub listed_on : {b : Bool} {xs : List A} {ps : List P} {l r : Toks} → AreListed V M Ends b xs ps l r → Ended r → Ended l
  listed_on (none_left e) h = h
  listed_on (last_value i) h = values _ _ _ _ i h
  listed_on (value_and_mark i j k) h = values _ _ _ _ i (marks _ _ _ j (listed_on k h))

-- values that end whatever follows, of which the last has no mark
module _ {A P : Type 0} {V : Bool → A → Toks → Toks → Type 0} {M : P → Toks → Toks → Type 0} {Ends : Bool → Type 0} (values : (b : Bool) (x : A) (l r : Toks) → V b x l r → Shut r → Ended l) (marks : (p : P) (l r : Toks) → M p l r → Ended r → Ended l) (never : (b : Bool) → Ends b → ⊥) where
  pub listed_over : {b : Bool} {xs : List A} {ps : List P} {l r : Toks} → AreListed V M Ends b xs ps l r → Shut r → Ended l
  listed_over (none_left e) h = absurd (never _ e)
  listed_over (last_value i) h = values _ _ _ _ i h
  listed_over (value_and_mark i j k) h = values _ _ _ _ i (marks _ _ _ j (listed_over k h)).apart

-- ---- paths without arguments, and macro calls

module _ {clear : Bool} (ok : Bytes → Bool) {A : Type 0} (none : A) where
  pub segments_over : {xs : List (PathSegmentOf A)} {ps : List Sep} {l r : Toks} → AreSegments clear ok none xs ps l r → Shut r → Ended l
  segments_over (last_segment {r = r} e) h = word_on _ r h
  segments_over (more_segments {i = i} {a = a} {b = b} {j = j} {l = m} e p k) h =
      let n = on (punct 58 Joint a) (mark (punct 58 j b) m) (on (punct 58 j b) m (segments_over k h)) in word_on i (mark (punct 58 Joint a) (mark (punct 58 j b) m)) n.apart

  pub bare_path_over : {p : PathOf A} {l r : Toks} → IsBarePath clear ok none p l r → Shut r → Ended l
  bare_path_over (a_bare_path no_leading j) h = segments_over j h
  bare_path_over (a_bare_path (leading {a = a} {b = b} {j = i} {r = m} e) j) h = on (punct 58 Joint a) (mark (punct 58 i b) m) (on (punct 58 i b) m (segments_over j h))

pub call_over : {clear : Bool} {ok : Bytes → Bool} {x : Macro} {l r : Toks} → IsCall clear ok x l r → Shut r → Ended l
call_over {ok = ok} (a_macro {a = a} {j = j} {d = d} {s = s} {c = c} {r = r} i q e t) h =
    let n = on (punct 33 j a) (group d s c r) (group_on d s c r h) in bare_path_over ok _ i n.apart

-- ---- a last token that is none of these

neither : (a b : Bool) → a ≡ false → b ≡ false → (a || b) ≡ false
neither false b e f = f
neither true b e f = cc e

pub calm_of : (l : Toks) → NoBang l → Shut l → Calm l
calm_of done e h = refl
calm_of (word i l) e h = calm_of l e h
calm_of (mark p l) e h = by_end (calm_of l) (is_done l) e h
  where
    by_end : (NoBang l → Shut l → Calm l) → (b : Bool) → (if b then is_glued_bang p else ends_with is_glued_bang l) ≡ false → (if b then is_other_glued p else ends_with is_other_glued l) ≡ false → (if b then may_go_on p else ends_with may_go_on l) ≡ false
    by_end next true e h = neither (is_glued_bang p) (is_other_glued p) e h
    by_end next false e h = next e h
calm_of (lit x l) e h = calm_of l e h
calm_of (group d s c l) e h = calm_of l e h
calm_of (enter s l) e h = calm_of l e h
calm_of (leave l) e h = calm_of l e h

second_no : (a b : Bool) → (a || b) ≡ false → b ≡ false
second_no false b e = e
second_no true b e = cc e

pub shut_of : (l : Toks) → Calm l → Shut l
shut_of done e = refl
shut_of (word i l) e = shut_of l e
shut_of (mark p l) e = by_end (shut_of l) (is_done l) e
  where
    by_end : (Calm l → Shut l) → (b : Bool) → (if b then may_go_on p else ends_with may_go_on l) ≡ false → (if b then is_other_glued p else ends_with is_other_glued l) ≡ false
    by_end next true e = second_no (is_glued_bang p) (is_other_glued p) e
    by_end next false e = next e
shut_of (lit x l) e = shut_of l e
shut_of (group d s c l) e = shut_of l e
shut_of (enter s l) e = shut_of l e
shut_of (leave l) e = shut_of l e
