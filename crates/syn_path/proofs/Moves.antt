-- What spells tokens clearly spells them so before other tokens too, where their last token may not go on there: marks, words, lifetimes, literals, values with marks between them, paths without arguments and macro calls.
use Rattle.std.proofs.Common.{◌≡◌, ℕ, Bool, true, false, ◌==◌, ◌||◌, ◌&&◌, if◌then◌else◌, List, [], ◌∷◌, map, Option, Some, None, is_some, refl, sym, ◌∙◌, ap, subst}
use Rattle.token_core.specs.declared.lifetime.Lifetime.{Lifetime}
use Rattle.token_core.specs.declared.lit.Lit.{Lit}
use Rattle.token_core.specs.declared.lit.LitStr.{LitStr}
use Rattle.token_core.specs.declared.mark.Mark.{Mark}
use Rattle.token_core.specs.declared.mark.Spans.{Spans}
use Rattle.token_core.specs.declared.span.Span.{Span}
use Rattle.token_core.specs.declared.tree.Punct.{Punct}
use Rattle.token_core.specs.declared.tree.Spacing.{Spacing}
use Rattle.token_core.specs.declared.span.DelimSpan.{DelimSpan}
use Rattle.token_core.specs.declared.tree.Delimiter.{Delimiter}
use Rattle.token_core.specs.declared.tree.Delimiter.TheVariants as d
use Rattle.token_core.specs.declared.tree.Group.{Group, roll-Group, map-Group}
use Rattle.token_core.specs.declared.tree.TokenTree.{TokenTree, roll-TokenTree, map-TokenTree}
use Rattle.token_core.specs.declared.tree.TokenTree.TheOpen as o
use Rattle.token_core.specs.declared.tree.TokenTree.TheFolds.{ind-TokenTree}
use Rattle.token_core.specs.declared.tree.Spacing.TheVariants.{Joint}
use Rattle.token_core.specs.declared.word.Word.{Word}
use Rattle.token_core.specs.Clear.{Apart, is_glued}
use Rattle.token_core.specs.Lifetimes.{sees_lifetime, next_word, with_ident}
use Rattle.token_core.specs.Listed.{AreListed, none_left, last_value, value_and_mark}
use Rattle.token_core.specs.Marks.{chars_of}
use Rattle.token_core.specs.Reads.{is_done, is_joint, past_mark, put_first, sees_mark, sees_word}
use Rattle.token_core.specs.Spellings.{AreChars, no_char, last_char, more_chars, IsMark, is_mark, IsWord, is_word, IsLifetime, is_lifetime, IsLit, a_literal, a_bool, a_negative, IsStr, a_str}
use Rattle.token_core.specs.Tokens as token
use Rattle.token_core.specs.Toks.{Bytes, Toks, done, word, mark, lit, group, enter, leave}
use Rattle.token_core.specs.Trees as s
use Rattle.token_core.specs.Trees.{TokenStream, grouped, punct, row}
use Rattle.token_core.proofs.Flats.{tree-roll, group-roll, stream-roll}
use Rattle.syn_path.specs.declared.mac.Macro.{Macro}
use Rattle.syn_path.specs.declared.path.PathOf.{PathOf}
use Rattle.syn_path.specs.declared.path.PathSegmentOf.{PathSegmentOf}
use Rattle.syn_path.specs.Ends.{before, Calm, ends_with, is_glued_bang, is_other_glued, may_go_on, Moved}
use Rattle.syn_path.specs.mac.Spelling.{IsCall, a_macro}
use Rattle.syn_path.specs.path.Paths.{Sep}
use Rattle.syn_path.specs.path.Spelling.{IsLeading, no_leading, leading, AreSegments, last_segment, more_segments, IsBarePath, a_bare_path}

-- ---- the last token, where all is used up

calm_done : (l : Toks) → is_done l ≡ true → Calm l
unfolding is_done
calm_done done h = refl
calm_done (word i l) h = cc h
calm_done (mark p l) h = cc h
calm_done (lit x l) h = cc h
calm_done (group d s c l) h = cc h
calm_done (enter s l) h = calm_done l h
calm_done (leave l) h = calm_done l h

-- what is so of the last token after a mark
pub calm_after : (p : Punct) (l : Toks) → Calm (mark p l) → Calm l
calm_after p l q = by_end (is_done l) refl q
  where
    by_end : (b : Bool) → is_done l ≡ b → (if b then may_go_on p else ends_with may_go_on l) ≡ false → ends_with may_go_on l ≡ false
    by_end true e h = calm_done l e
    by_end false e h = h

-- a mark that nothing follows
calm_last : (p : Punct) (l : Toks) → is_done l ≡ true → Calm (mark p l) → may_go_on p ≡ false
calm_last p l e q = ap (λ (b : Bool). if b then may_go_on p else ends_with may_go_on l) (sym e) ∙ q

-- ---- what is seen before others, where something stands there

-- the same is seen
pub record Steady (k l : Toks) : Type 0 where
  pub one : (c : ℕ) → sees_mark (c ∷ []) (before l k) ≡ sees_mark (c ∷ []) l
  pub less : sees_mark (60 ∷ 61 ∷ []) (before l k) ≡ sees_mark (60 ∷ 61 ∷ []) l
  pub sep : sees_mark (58 ∷ 58 ∷ []) (before l k) ≡ sees_mark (58 ∷ 58 ∷ []) l
  pub lives : sees_lifetime (before l k) ≡ sees_lifetime l
  pub words : (test : Bytes → Bool) → sees_word test (before l k) ≡ sees_word test l

some_if : {A : Type 0} (b : Bool) (x y : Option A) → is_some x ≡ is_some y → is_some (if b then x else None) ≡ is_some (if b then y else None)
some_if true x y e = e
some_if false x y e = refl

put_some : (a : Span) (x y : Option (Spans × Toks)) → is_some x ≡ is_some y → is_some (put_first a x) ≡ is_some (put_first a y)
put_some a None None e = refl
put_some a None (Some y) e = cc
put_some a (Some x) None e = cc
put_some a (Some x) (Some y) e = refl

or_right : (a b : Bool) → b ≡ true → (a || b) ≡ true
or_right true b e = refl
or_right false b e = e

or_left : (a b : Bool) → a ≡ true → (a || b) ≡ true
or_left true b e = refl
or_left false b e = cc e

both : (a b : Bool) → a ≡ true → b ≡ true → (a && b) ≡ true
both true b e f = f
both false b e f = cc e

-- which characters may go on, where they are Joint
abbrev Goes : ℕ → Type 0
Goes c = (p : Punct) → (p.ch == c) ≡ true → is_joint p.spacing ≡ true → may_go_on p ≡ true

-- one of five tests
module _ (b c d e f : Bool) where
  second : b ≡ true → (b || (c || (d || (e || f)))) ≡ true
  second h = or_left b (c || (d || (e || f))) h

  third : c ≡ true → (b || (c || (d || (e || f)))) ≡ true
  third h = or_right b (c || (d || (e || f))) (or_left c (d || (e || f)) h)

  fourth : d ≡ true → (b || (c || (d || (e || f)))) ≡ true
  fourth h = or_right b (c || (d || (e || f))) (or_right c (d || (e || f)) (or_left d (e || f) h))

  sixth : f ≡ true → (b || (c || (d || (e || f)))) ≡ true
  sixth h = or_right b (c || (d || (e || f))) (or_right c (d || (e || f)) (or_right d (e || f) (or_right e f h)))

module _ (p : Punct) where
  abbrev any : Bool
  any = p.ch == 58 || (p.ch == 61 || (p.ch == 60 || (p.ch == 124 || p.ch == 39)))

  of_five : any ≡ true → is_joint p.spacing ≡ true → may_go_on p ≡ true
  of_five h j = or_right (is_glued_bang p) (is_other_glued p) (both (is_joint p.spacing) any j h)

bang_goes : Goes 33
bang_goes p e j = or_left (is_glued_bang p) (is_other_glued p) (both (is_joint p.spacing) (p.ch == 33) j e)

colon_goes : Goes 58
colon_goes p e = of_five p (second (p.ch == 58) (p.ch == 61) (p.ch == 60) (p.ch == 124) (p.ch == 39) e)

equals_goes : Goes 61
equals_goes p e = of_five p (third (p.ch == 58) (p.ch == 61) (p.ch == 60) (p.ch == 124) (p.ch == 39) e)

lt_goes : Goes 60
lt_goes p e = of_five p (fourth (p.ch == 58) (p.ch == 61) (p.ch == 60) (p.ch == 124) (p.ch == 39) e)

quote_goes : Goes 39
quote_goes p e = of_five p (sixth (p.ch == 58) (p.ch == 61) (p.ch == 60) (p.ch == 124) (p.ch == 39) e)

module _ (p : Punct) (k l : Toks) (q : Calm (mark p l)) where
  -- a mark that may go on is not the last token
  there : may_go_on p ≡ true → is_done l ≡ false
  there g = by_end (is_done l) refl
    where
      by_end : (b : Bool) → is_done l ≡ b → b ≡ false
      by_end true e = sym g ∙ calm_last p l e q
      by_end false e = refl

  -- two characters
  module _ (a x : ℕ) (goes : (p.ch == a) ≡ true → is_joint p.spacing ≡ true → may_go_on p ≡ true) (h : is_done l ≡ false → sees_mark (x ∷ []) (before l k) ≡ sees_mark (x ∷ []) l) where
    by_joint : (j : Bool) → is_joint p.spacing ≡ j → (p.ch == a) ≡ true →
        let o : Option (Spans × Toks) = if j then put_first p.span (past_mark (x ∷ []) (before l k)) else None in
        let u : Option (Spans × Toks) = if j then put_first p.span (past_mark (x ∷ []) l) else None in is_some o ≡ is_some u
    unfolding sees_mark
    by_joint false f e = refl
    by_joint true f e = put_some p.span (past_mark (x ∷ []) (before l k)) (past_mark (x ∷ []) l) (h (there (goes e f)))

    by_char : (b : Bool) → (p.ch == a) ≡ b →
        let o : Option (Spans × Toks) = if b then (if is_joint p.spacing then put_first p.span (past_mark (x ∷ []) (before l k)) else None) else None in
        let u : Option (Spans × Toks) = if b then (if is_joint p.spacing then put_first p.span (past_mark (x ∷ []) l) else None) else None in is_some o ≡ is_some u
    by_char false e = refl
    by_char true e = by_joint (is_joint p.spacing) refl e

    pair_seen : sees_mark (a ∷ x ∷ []) (mark p (before l k)) ≡ sees_mark (a ∷ x ∷ []) (mark p l)
    unfolding sees_mark
    pair_seen = by_char (p.ch == a) refl

-- an identifier after a quote
ident_there : (a : Span) (k l : Toks) → is_done l ≡ false → is_some (with_ident a (next_word (before l k))) ≡ is_some (with_ident a (next_word l))
unfolding is_done
ident_there a k done e = cc e
ident_there a k (word i l) e = refl
ident_there a k (mark p l) e = refl
ident_there a k (lit x l) e = refl
ident_there a k (group d s c l) e = refl
ident_there a k (enter s l) e = ident_there a k l e
ident_there a k (leave l) e = ident_there a k l e

module _ (p : Punct) (k l : Toks) (q : Calm (mark p l)) where
  after_quote : (j : Bool) → is_joint p.spacing ≡ j → (p.ch == 39) ≡ true →
      let o : Option (Lifetime × Toks) = if j then with_ident p.span (next_word (before l k)) else None in
      let u : Option (Lifetime × Toks) = if j then with_ident p.span (next_word l) else None in is_some o ≡ is_some u
  after_quote false f e = refl
  after_quote true f e = ident_there p.span k l (there p k l q (quote_goes p e f))

  at_quote : (b : Bool) → (p.ch == 39) ≡ b →
      let o : Option (Lifetime × Toks) = if b then (if is_joint p.spacing then with_ident p.span (next_word (before l k)) else None) else None in
      let u : Option (Lifetime × Toks) = if b then (if is_joint p.spacing then with_ident p.span (next_word l) else None) else None in is_some o ≡ is_some u
  at_quote false e = refl
  at_quote true e = after_quote (is_joint p.spacing) refl e

  quote_seen : sees_lifetime (mark p (before l k)) ≡ sees_lifetime (mark p l)
  unfolding sees_lifetime
  quote_seen = at_quote (p.ch == 39) refl

pub steady : (k l : Toks) → is_done l ≡ false → Calm l → Steady k l
unfolding is_done sees_mark sees_word sees_lifetime
steady k done e q = cc e
steady k (word i l) e q = record { one = λ c. refl; less = refl; sep = refl; lives = refl; words = λ t. refl }
steady k (mark p l) e q =
    let next = λ (d : is_done l ≡ false). steady k l d (calm_after p l q) in
    record { one = λ c. some_if (p.ch == c) _ _ refl; less = pair_seen p k l q 60 61 (lt_goes p) (λ d. (next d).one 61); sep = pair_seen p k l q 58 58 (colon_goes p) (λ d. (next d).one 58); lives = quote_seen p k l q; words = λ t. refl }
steady k (lit x l) e q = record { one = λ c. refl; less = refl; sep = refl; lives = refl; words = λ t. refl }
steady k (group d s c l) e q = record { one = λ c. refl; less = refl; sep = refl; lives = refl; words = λ t. refl }
steady k (enter s l) e q = let z = steady k l e q in record { one = z.one; less = z.less; sep = z.sep; lives = z.lives; words = z.words }
steady k (leave l) e q = let z = steady k l e q in record { one = z.one; less = z.less; sep = z.sep; lives = z.lives; words = z.words }

pub words_before : (k l : Toks) → is_done l ≡ false → (test : Bytes → Bool) → sees_word test (before l k) ≡ sees_word test l
unfolding is_done sees_word
words_before k done e test = cc e
words_before k (word i l) e test = refl
words_before k (mark p l) e test = refl
words_before k (lit x l) e test = refl
words_before k (group d s c l) e test = refl
words_before k (enter s l) e test = words_before k l e test
words_before k (leave l) e test = words_before k l e test

-- ---- marks

-- a mark that no longer one begins with
module _ (all : List ℕ) (free : (l : Toks) → is_glued all l ≡ false) where
  chars_move : {cs : List ℕ} {ss : List Span} {l r : Toks} (k : Toks) → AreChars true all cs ss l r → Calm l → Moved (AreChars true all cs ss) k l r
  chars_move k no_char q = record { calm = q; is = no_char }
  chars_move k (last_char {c = c} {a = a} {j = j} {r = r} h) q = record { calm = calm_after (punct c j a) r q; is = last_char (λ e f. free (before r k)) }
  chars_move k (more_chars {c = c} {a = a} {l = m} i) q = let n = chars_move k i (calm_after (punct c Joint a) m q) in record { calm = n.calm; is = more_chars n.is }

  pub free_chars : {cs : List ℕ} {ss : List Span} {l r : Toks} (k : Toks) → AreChars true all cs ss l r → Calm l → Moved (AreChars true all cs ss) k l r
  free_chars = chars_move

pub free_moves : {n j : ℕ} (free : (l : Toks) → is_glued (chars_of n) l ≡ false) {x : Mark n j} {l r : Toks} (k : Toks) → IsMark true x l r → Calm l → Moved (IsMark true x) k l r
free_moves {n = n} free k (is_mark i) q = let m = free_chars (chars_of n) free k i q in record { calm = m.calm; is = is_mark m.is }

-- a mark of one character that may go on
module _ (c : ℕ) (own : (c == c) ≡ true) (goes : Goes c) (same : (k l : Toks) → Steady k l → is_glued (c ∷ []) (before l k) ≡ is_glued (c ∷ []) l) where
  tied_apart : (a : Span) (j : Spacing) (k l : Toks) → Calm (mark (punct c j a) l) → Apart true (c ∷ []) j l → Apart true (c ∷ []) j (before l k)
  tied_apart a j k l q h = λ y f. by_end (is_done l) refl f
    where
      by_end : (b : Bool) → is_done l ≡ b → j ≡ Joint → is_glued (c ∷ []) (before l k) ≡ false
      by_end true e f = let w : true ≡ false = sym (goes (punct c j a) own (ap is_joint f)) ∙ calm_last (punct c j a) l e q in absurd (cc w)
      by_end false e f = same k l (steady k l e (calm_after (punct c j a) l q)) ∙ h refl f

  pub tied_chars : {ss : List Span} {l r : Toks} (k : Toks) → AreChars true (c ∷ []) (c ∷ []) ss l r → Calm l → Moved (AreChars true (c ∷ []) (c ∷ []) ss) k l r
  tied_chars k (last_char {a = a} {j = j} {r = r} h) q = record { calm = calm_after (punct c j a) r q; is = last_char (tied_apart a j k r q h) }

pub bang_moves : {x : token.Bang} {l r : Toks} (k : Toks) → IsMark true x l r → Calm l → Moved (IsMark true x) k l r
bang_moves k (is_mark i) q = let m = tied_chars 33 refl bang_goes (λ k l s. ap (λ z. z || false) (s.one 61)) k i q in record { calm = m.calm; is = is_mark m.is }

pub colon_moves : {x : token.Colon} {l r : Toks} (k : Toks) → IsMark true x l r → Calm l → Moved (IsMark true x) k l r
colon_moves k (is_mark i) q = let m = tied_chars 58 refl colon_goes (λ k l s. ap (λ z. z || false) (s.one 58)) k i q in record { calm = m.calm; is = is_mark m.is }

pub equals_moves : {x : token.Equals} {l r : Toks} (k : Toks) → IsMark true x l r → Calm l → Moved (IsMark true x) k l r
equals_moves k (is_mark i) q =
    let m = tied_chars 61 refl equals_goes (λ k l s. ap (λ z. z || (sees_mark (62 ∷ []) (before l k) || false)) (s.one 61) ∙ ap (λ z. sees_mark (61 ∷ []) l || (z || false)) (s.one 62)) k i q in record { calm = m.calm; is = is_mark m.is }

pub lt_moves : {x : token.Lt} {l r : Toks} (k : Toks) → IsMark true x l r → Calm l → Moved (IsMark true x) k l r
lt_moves k (is_mark i) q =
    let m = tied_chars 60 refl lt_goes (λ k l s. ap (λ z. z || (sees_mark (60 ∷ 61 ∷ []) (before l k) || false)) (s.one 61) ∙ ap (λ z. sees_mark (61 ∷ []) l || (z || false)) s.less) k i q in record { calm = m.calm; is = is_mark m.is }

-- ---- words, lifetimes and literals

pub word_moves : {n : ℕ} {x : Word n} {l r : Toks} (k : Toks) → IsWord x l r → Calm l → Moved (IsWord x) k l r
word_moves k is_word q = record { calm = q; is = is_word }

pub lifetime_moves : {x : Lifetime} {l r : Toks} (k : Toks) → IsLifetime x l r → Calm l → Moved (IsLifetime x) k l r
unfolding is_done
lifetime_moves k is_lifetime q = record { calm = q; is = is_lifetime }

pub lit_moves : {x : Lit} {l r : Toks} (k : Toks) → IsLit x l r → Calm l → Moved (IsLit x) k l r
unfolding is_done
lit_moves k a_literal q = record { calm = q; is = a_literal }
lit_moves k a_bool q = record { calm = q; is = a_bool }
lit_moves k (a_negative h) q = record { calm = q; is = a_negative h }

pub str_moves : {x : LitStr} {l r : Toks} (k : Toks) → IsStr x l r → Calm l → Moved (IsStr x) k l r
str_moves k a_str q = record { calm = q; is = a_str }

-- ---- values with marks between them

module _ {A P : Type 0} {V : Bool → A → Toks → Toks → Type 0} {M : P → Toks → Toks → Type 0} {Ends : Bool → Type 0} where
  pub listed_moves : {b : Bool} {xs : List A} {ps : List P} {l r : Toks} (k : Toks) → AreListed V M Ends b xs ps l r → Calm l → ((b : Bool) (x : A) (l r : Toks) → V b x l r → Calm l → Moved (V b x) k l r) →
      ((p : P) (l r : Toks) → M p l r → Calm l → Moved (M p) k l r) → Moved (AreListed V M Ends b xs ps) k l r
  listed_moves k (none_left h) q f g = record { calm = q; is = none_left h }
  listed_moves k (last_value i) q f g = let a = f _ _ _ _ i q in record { calm = a.calm; is = last_value a.is }
  listed_moves k (value_and_mark i j n) q f g =
      let a = f _ _ _ _ i q in
      let b = g _ _ _ j a.calm in
      let c = listed_moves k n b.calm f g in
      record { calm = c.calm; is = value_and_mark a.is b.is c.is }

-- ---- paths without arguments, and macro calls

leading_moves : {o : Option Sep} {l r : Toks} (k : Toks) → IsLeading true o l r → Calm l → Moved (IsLeading true o) k l r
leading_moves k no_leading q = record { calm = q; is = no_leading }
leading_moves k (leading {a = a} {b = b} {j = j} {r = r} h) q =
    record { calm = calm_after (punct 58 j b) r (calm_after (punct 58 Joint a) (mark (punct 58 j b) r) q); is = leading (λ e f. refl) }

module _ (ok : Bytes → Bool) {A : Type 0} (none : A) where
  segments_move : {xs : List (PathSegmentOf A)} {ps : List Sep} {l r : Toks} (k : Toks) → AreSegments true ok none xs ps l r → Calm l → Moved (AreSegments true ok none xs ps) k l r
  segments_move k (last_segment h) q = record { calm = q; is = last_segment h }
  segments_move k (more_segments {a = a} {b = b} {j = j} {l = m} h p i) q =
      let n = segments_move k i (calm_after (punct 58 j b) m (calm_after (punct 58 Joint a) (mark (punct 58 j b) m) q)) in
      record { calm = n.calm; is = more_segments h (λ e f. refl) n.is }

  pub bare_path_moves : {p : PathOf A} {l r : Toks} (k : Toks) → IsBarePath true ok none p l r → Calm l → Moved (IsBarePath true ok none p) k l r
  bare_path_moves k (a_bare_path i j) q = let a = leading_moves k i q in let b = segments_move k j a.calm in record { calm = b.calm; is = a_bare_path a.is b.is }

bang_group : (d : _) (s : _) (c r : Toks) → is_glued (33 ∷ []) (group d s c r) ≡ false
unfolding sees_mark
bang_group d s c r = refl

pub call_moves : {ok : Bytes → Bool} {x : Macro} {l r : Toks} (k : Toks) → IsCall true ok x l r → Calm l → Moved (IsCall true ok x) k l r
call_moves {ok = ok} k (a_macro {a = a} {j = j} {d = d} {s = s} {c = c} {r = r} i h e t) q =
    let n = bare_path_moves ok _ k i q in
    record { calm = calm_after (punct 33 j a) (group d s c r) n.calm; is = a_macro n.is (λ y f. bang_group d s c (before r k)) e t }

-- ---- what is held, before others

abbrev Holds : TokenTree → Type 0
Holds x = (r k : Toks) → before (s.tree x r) k ≡ s.tree x (before r k)

abbrev Within : Group → Type 0
Within g = (r k : Toks) → before (s.inside g r) k ≡ s.inside g (before r k)

abbrev Tree : Type 0
Tree = (x : TokenTree) × Holds x

abbrev Inside : Type 0
Inside = (g : Group) × Within g

abbrev trees_of : List Tree → TokenStream
trees_of l = map (λ (a : Tree). a.0) l

all_before : (l : List Tree) (r k : Toks) → before (row (trees_of l) r) k ≡ row (trees_of l) (before r k)
all_before [] r k = refl
all_before (a ∷ l) r k = a.1 (row (trees_of l) r) k ∙ ap (s.tree a.0) (all_before l r k)

content_before : (l : List Tree) (r k : Toks) → before (s.stream (trees_of l) r) k ≡ s.stream (trees_of l) (before r k)
content_before l r k = let e = stream-roll (trees_of l) in ap (λ f. before (f r) k) e ∙ all_before l r k ∙ sym (ap (λ f. f (before r k)) e)

grouped_before : (d : Delimiter) (p : DelimSpan) (l : List Tree) (r k : Toks) → before (grouped d p (s.stream (trees_of l)) r) k ≡ grouped d p (s.stream (trees_of l)) (before r k)
grouped_before d.Parenthesis p l r k = refl
grouped_before d.Brace p l r k = refl
grouped_before d.Bracket p l r k = refl
grouped_before d.None p l r k = ap (enter p) (content_before l (leave r) k)

tree_layer : (y : o.TokenTree-F Tree Inside) → Holds (roll-TokenTree (map-TokenTree Tree Inside TokenTree Group (λ a. a.0) (λ b. b.0) y))
tree_layer (o.Ident i) = λ r k. let e = tree-roll (o.Ident i) in ap (λ f. before (f r) k) e ∙ sym (ap (λ f. f (before r k)) e)
tree_layer (o.Punct p) = λ r k. let e = tree-roll (o.Punct p) in ap (λ f. before (f r) k) e ∙ sym (ap (λ f. f (before r k)) e)
tree_layer (o.Literal l) = λ r k. let e = tree-roll (o.Literal l) in ap (λ f. before (f r) k) e ∙ sym (ap (λ f. f (before r k)) e)
tree_layer (o.Group g) = λ r k. let e = tree-roll (o.Group g.0) in ap (λ f. before (f r) k) e ∙ g.1 r k ∙ sym (ap (λ f. f (before r k)) e)

group_layer : (y : o.Group-F Tree Inside) → Within (roll-Group (map-Group Tree Inside TokenTree Group (λ a. a.0) (λ b. b.0) y))
group_layer y = λ r k.
    let e = group-roll (record { content = (trees_of y.content.0, y.content.1); span = y.span }) in
    ap (λ f. before (f r) k) e ∙ grouped_before y.content.1 y.span y.content.0 r k ∙ sym (ap (λ f. f (before r k)) e)

tree_before : (x : TokenTree) → Holds x
tree_before = ind-TokenTree Holds Within (λ x y is. subst (λ z. Holds (roll-TokenTree z)) is (tree_layer y)) (λ x y is. subst (λ z. Within (roll-Group z)) is (group_layer y))

pub row_before : (t : List TokenTree) (r k : Toks) → before (row t r) k ≡ row t (before r k)
row_before [] r k = refl
row_before (x ∷ t) r k = tree_before x (row t r) k ∙ ap (s.tree x) (row_before t r k)
