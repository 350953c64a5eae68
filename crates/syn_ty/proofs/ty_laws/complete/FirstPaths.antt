-- What paths and their segments begin with, and that fewer tokens are left after them: over the same of what they hold.
use Rattle.std.proofs.lemmas.Bool.{and_from, and_left, and_right, eqb-true, or_from, or_left}
use Rattle.std.proofs.lemmas.Slice.Eq.{bytes_eq-Decides}
use Rattle.std.proofs.Common.{◌≡◌, ◌⊎◌, ◌&&◌, ◌||◌, ◌==◌, ℕ, not, if◌then◌else◌, is_some, Bool, true, false, List, [], ◌∷◌, Option, Some, None, refl, ◌∙◌, ap}
use Rattle.syn_ty.proofs.ty_laws.words.Tokens.{Lifetime, Lit, Span, Ident, Spacing, Joint, is_keyword, sees_lifetime, AreListed, Nowhere, none_left, last_value, value_and_mark, sees_lit, text_of, after_one, is_done, is_text, sees_group, sees_mark, sees_word, third, last_char, more_chars, IsMark, is_mark, IsLifetime, Bytes, Toks, done, word, mark, lit, group, enter, leave, punct}
use Rattle.syn_ty.proofs.ty_laws.words.Paths.{PathStyle, AsWritten, Sep}
use Rattle.syn_ty.proofs.ty_laws.words.Forms.{BoundPlace, Plus, sees_name, sees_bound, sees_arguments, sees_turbofish}
use Rattle.syn_ty.proofs.ty_laws.words.Types.{sees_const, sees_lone_lifetime, is_segment_word, IsAngle, an_angle, IsSegment, a_word, a_word_with_arguments, IsPath, a_path, IsQualified, by_type, by_type_as_path, IsAnyPath, unqualified, qualified, Manner, clearly, End, Parts, is_trait, IsOptional, absent, present, AngleBracketed, Path, PathSegment, QSelf, TypeParamBound}
use Rattle.token_core.specs.declared.lit.Lit.TheVariants as v
use Rattle.token_core.specs.Lits.{false_text, lit_bool, true_text}
use Rattle.token_core.specs.Tokens as token
use Rattle.token_core.proofs.MarkSpells.{mark_seen}
use Rattle.token_core.proofs.Unseen.{no_mark-other, lt_apart, lt_no_shift}
use Rattle.syn_ty.proofs.ty_laws.complete.Less.{no_no, no_less, less_no, less_less, word_less, mark_no, mark_takes, word_takes, optional_no, listed_no, listed_less}
use Rattle.syn_ty.proofs.ty_laws.complete.Within.{BoundBegins, Firsts, Less, NoMore, TypeBegins}

-- ---- what is known by the height of a tree

module _ {A E : Type 0} (part : Manner → Parts A E) where
  pub record Starts : Type 0 where
    pub firsts : Firsts part
    -- a bound that begins with a lifetime is that lifetime
    pub life : (p : BoundPlace) (d : End) (x : TypeParamBound A E) (l k : Toks) → (part clearly).bound p d x l k → sees_lifetime l ≡ true → (is_trait x ≡ false) × (y : Lifetime) × IsLifetime y l k

  -- of attributes, and of expressions in their places
  pub record PartBegins : Type 0 where
    pub attrs_begin : (x : List A) (l k : Toks) → (part clearly).attrs x l k → (l ≡ k) ⊎ (token.sees_pound l ≡ true)
    pub attrs_light : (x : List A) (l k : Toks) → (part clearly).attrs x l k → NoMore l k
    pub argument_begins : (x : E) (l k : Toks) → (part clearly).const_argument x l k → (sees_const l ≡ true) × Less l k
    pub default_less : (x : E) (l k : Toks) → (part clearly).const_default x l k → Less l k

-- ---- no `:` by itself

-- a `:` is that of `::`
abbrev pub NoColon : Toks → Type 0
NoColon l = (token.sees_colon l && not (token.sees_path_sep l)) ≡ false

pub unseen_colon : (l : Toks) → token.sees_colon l ≡ false → NoColon l
unseen_colon l h = and_left _ _ h

pub sep_no_colon : {clear : Bool} (c : Sep) (l r : Toks) → IsMark clear c l r → NoColon l
unfolding sees_mark
sep_no_colon c l r (is_mark (more_chars (last_char x))) = refl

pub lt_no_colon : {clear : Bool} (c : token.Lt) (l r : Toks) → IsMark clear c l r → NoColon l
unfolding sees_mark
lt_no_colon c l r (is_mark (last_char x)) = refl

-- where a mark of one character stands there is a token, and no mark of another one
pub mark_there : (c : ℕ) (l : Toks) → sees_mark (c ∷ []) l ≡ true → is_done l ≡ false
unfolding is_done sees_mark
mark_there c done h = cc h
mark_there c (word i k) h = refl
mark_there c (mark p k) h = refl
mark_there c (lit x k) h = refl
mark_there c (group d s e k) h = refl
mark_there c (enter s k) h = mark_there c k h
mark_there c (leave k) h = mark_there c k h

pub mark_other : (c d : ℕ) → (c == d) ≡ false → (l : Toks) → sees_mark (c ∷ []) l ≡ true → sees_mark (d ∷ []) l ≡ false
unfolding sees_mark
mark_other c d n done h = refl
mark_other c d n (word i k) h = refl
mark_other c d n (mark p k) h = by_char (p.ch == c) refl
  where
    by_char : (b : Bool) → (p.ch == c) ≡ b → sees_mark (d ∷ []) (mark p k) ≡ false
    by_char true e = no_mark-other d [] p k (ap (λ z. z == d) (eqb-true p.ch c e) ∙ n)
    by_char false e = let g = no_mark-other c [] p k e in cc
mark_other c d n (lit x k) h = refl
mark_other c d n (group b s e k) h = refl
mark_other c d n (enter s k) h = mark_other c d n k h
mark_other c d n (leave k) h = mark_other c d n k h

-- before arguments
arguments_no_colon : (l : Toks) → sees_arguments AsWritten l ≡ true → NoColon l
unfolding sees_turbofish
arguments_no_colon l h = by_sep (token.sees_path_sep l) (token.sees_lt l) refl refl h
  where
    by_sep : (b c : Bool) → token.sees_path_sep l ≡ b → token.sees_lt l ≡ c → ((c && (not (token.sees_le l) && not (token.sees_shl_eq l))) || (b && third token.sees_lt l)) ≡ true → NoColon l
    by_sep true c e f g = and_right (token.sees_colon l) _ (ap not e)
    by_sep false true e f g = unseen_colon l (mark_other 60 58 refl l f)
    by_sep false false e f g = cc

-- ---- words of segments

-- a word that is none of a segment
not_text : (w t : Bytes) → is_segment_word w ≡ false → is_segment_word t ≡ true → is_text w t ≡ false
not_text w t h g = by_test (is_text w t) refl
  where
    by_test : (b : Bool) → is_text w t ≡ b → b ≡ false
    by_test true e = let k = ap is_segment_word ((bytes_eq-Decides t w).0 e) in cc
    by_test false e = refl

module _ (i : Ident) (m : Toks) (h : is_segment_word i.text ≡ true) where
  pub segment_no_mut : token.sees_mut (word i m) ≡ false
  unfolding sees_word is_keyword
  segment_no_mut = not_text (text_of 13) i.text refl h

  pub segment_no_lit : sees_lit (word i m) ≡ false
  unfolding sees_lit is_keyword
  segment_no_lit = by_tests (is_text true_text i.text) (is_text false_text i.text) (not_text true_text i.text refl h) (not_text false_text i.text refl h)
    where
      by_tests : (b c : Bool) → b ≡ false → c ≡ false → let o : Option (Lit × Toks) = if b then Some (v.Bool (lit_bool true i.span), m) else (if c then Some (v.Bool (lit_bool false i.span), m) else None) in is_some o ≡ false
      by_tests true c e f = cc
      by_tests false true e f = cc
      by_tests false false e f = refl

-- ---- types that begin with a word, with `::` or with `<`

pub word_starts : (i : Ident) (m k : Toks) → token.sees_mut (word i m) ≡ false → sees_lit (word i m) ≡ false → (token.sees_colon k ≡ false → NoColon m) → TypeBegins (word i m) k
unfolding is_done sees_mark sees_const sees_group sees_lone_lifetime sees_lifetime sees_name after_one
word_starts i m k h g n = record {
  there = refl;
  no_gt = refl;
  no_mut = h;
  no_pound = refl;
  no_dots = refl;
  no_const = or_from _ _ g refl;
  no_lone = refl;
  no_name = λ f own. and_right _ _ (n f);
}

-- before what follows it: a word of a segment, and no `:` by itself after it where none follows
pub data Worded : Toks → Toks → Type 0 where
  worded : {i : Ident} {m r : Toks} → is_segment_word i.text ≡ true → (NoColon r → NoColon m) → Worded (word i m) r

pub data PathStarts : Toks → Toks → Type 0 where
  by_word : {l k : Toks} → Worded l k → PathStarts l k
  by_sep : {a b : Span} {j : Spacing} {m k : Toks} → PathStarts (mark (punct 58 Joint a) (mark (punct 58 j b) m)) k
  by_lt : {a : Span} {j : Spacing} {m k : Toks} → PathStarts (mark (punct 60 j a) m) k

worded_on : (l m k : Toks) → Worded l m → NoColon m → Worded l k
worded_on l m k (worded h f) n = worded h (λ g. f n)

pub starts_on : (l m k : Toks) → PathStarts l m → NoColon m → PathStarts l k
starts_on l m k (by_word w) n = by_word (worded_on l m k w n)
starts_on l m k by_sep n = by_sep
starts_on l m k by_lt n = by_lt

worded_type : (l k : Toks) → Worded l k → TypeBegins l k
worded_type l k (worded {i = i} {m = m} h f) = word_starts i m k (segment_no_mut i m h) (segment_no_lit i m h) (λ g. f (unseen_colon k g))

-- no name, the first one of a list or not
pub unnamed : (l : Toks) → sees_name true l ≡ false → sees_name false l ≡ false → (own : Bool) → sees_name own l ≡ false
unnamed l h g true = h
unnamed l h g false = g

pub path_type : (l k : Toks) → PathStarts l k → TypeBegins l k
unfolding is_done sees_mark sees_word sees_lit sees_const sees_group sees_lone_lifetime sees_lifetime sees_name after_one
path_type l k (by_word w) = worded_type l k w
path_type l k by_sep = record { there = refl; no_gt = refl; no_mut = refl; no_pound = refl; no_dots = refl; no_const = refl; no_lone = refl; no_name = λ f. unnamed l refl refl }
path_type l k by_lt = record { there = refl; no_gt = refl; no_mut = refl; no_pound = refl; no_dots = refl; no_const = refl; no_lone = refl; no_name = λ f. unnamed l refl refl }

-- ---- bounds that begin so

pub word_bound : (p : BoundPlace) (i : Ident) (m : Toks) → BoundBegins p (word i m)
unfolding is_done sees_mark sees_word sees_group sees_lifetime sees_bound
word_bound p i m = record { there = refl; sees = refl; no_comma = refl; no_gt = refl; no_equals = refl; no_semi = refl; no_brace = refl; no_colon = refl }

pub sep_bound : (p : BoundPlace) (a b : Span) (j : Spacing) (m : Toks) → BoundBegins p (mark (punct 58 Joint a) (mark (punct 58 j b) m))
unfolding is_done sees_mark sees_word sees_group sees_lifetime sees_bound
sep_bound p a b j m = record { there = refl; sees = refl; no_comma = refl; no_gt = refl; no_equals = refl; no_semi = refl; no_brace = refl; no_colon = refl }

-- ---- over what they hold

module _ {A E : Type 0} {part : Manner → Parts A E} (s : Starts part) where
  -- ---- arguments in angle brackets

  angle_seen : (c : Option Sep) (o : token.Lt) (l m r : Toks) → IsOptional (IsMark true) c l m → IsMark true o m r → sees_arguments AsWritten l ≡ true
  unfolding sees_turbofish sees_mark after_one
  angle_seen c o l m r absent i = or_left _ _ (and_from _ _ (mark_seen true {n = 2} {k = 1} o l r i) (and_from _ _ (ap not (lt_apart o l r i)) (ap not (lt_no_shift o l r i))))
  angle_seen c o l m r (present (is_mark (more_chars (last_char x)))) (is_mark (last_char y)) = refl

  pub angle_starts : (x : AngleBracketed A E) (l k : Toks) → IsAngle part clearly x l k → (sees_arguments AsWritten l ≡ true) × Less l k
  angle_starts x l k (an_angle {c = c} {o = o} {xs = xs} {cs = cs} {g = g} {m = m} {n = n} {k = j} i d v e) = (
    angle_seen c o l m n i d,
    no_less (optional_no mark_no c l m i) (less_no (mark_takes 60 [] refl o m n d) (no_no (listed_no (λ b y t u w. (s.firsts.argument y t u w).1) mark_no true xs cs n j v) (mark_no g j k e))),
  )

  -- ---- segments and paths

  segment_starts : (style : PathStyle) (x : PathSegment A E) (l k : Toks) → IsSegment part clearly style x l k → Worded l k
  segment_starts style x l k (a_word h) = worded h (λ n. n)
  segment_starts style x l k (a_word_with_arguments {x = y} {l = m} h t i) = worded (or_left _ _ h) (λ n. arguments_no_colon m (s.firsts.arguments y m k i).0)

  pub segment_less : (style : PathStyle) (x : PathSegment A E) (l k : Toks) → IsSegment part clearly style x l k → Less l k
  segment_less style x l k (a_word {i = i} h) = word_less i k
  segment_less style x l k (a_word_with_arguments {i = i} {x = y} {l = m} h t j) = less_less (word_less i m) (s.firsts.arguments y m k j).1

  abbrev Segments : PathStyle → Bool → List (PathSegment A E) → List Sep → Toks → Toks → Type 0
  Segments style = AreListed (λ (_ : Bool). IsSegment part clearly style) (IsMark true) Nowhere

  segments_start : (style : PathStyle) (b : Bool) (xs : List (PathSegment A E)) (cs : List Sep) (l k : Toks) → Segments style b xs cs l k → Worded l k
  segments_start style b xs cs l k (none_left e) = absurd e
  segments_start style b xs cs l k (last_value {x = x} i) = segment_starts style x l k i
  segments_start style b xs cs l k (value_and_mark {x = x} {p = c} {m = m} {k = n} i j t) = worded_on l m k (segment_starts style x l m i) (sep_no_colon c m n j)

  segments_less : (style : PathStyle) (b : Bool) (xs : List (PathSegment A E)) (cs : List Sep) (l k : Toks) → Segments style b xs cs l k → Less l k
  segments_less style b = listed_less (λ f x l r i. segment_less style x l r i) mark_no b (λ e. e)

  -- perhaps a leading `::`
  leading_starts : (c : Option Sep) (l m k : Toks) → IsOptional (IsMark true) c l m → Worded m k → PathStarts l k
  leading_starts c l m k absent w = by_word w
  leading_starts c l m k (present (is_mark (more_chars (last_char x)))) w = by_sep

  pub path_starts : (style : PathStyle) (x : Path A E) (l k : Toks) → IsPath part clearly style x l k → PathStarts l k
  path_starts style x l k (a_path {c = c} {xs = xs} {cs = cs} {m = m} i n) = leading_starts c l m k i (segments_start style true xs cs m k n)

  pub path_less : (style : PathStyle) (x : Path A E) (l k : Toks) → IsPath part clearly style x l k → Less l k
  path_less style x l k (a_path {c = c} {xs = xs} {cs = cs} {m = m} i n) = no_less (optional_no mark_no c l m i) (segments_less style true xs cs m k n)

  -- ---- qualified paths

  qualified_starts : (style : PathStyle) (q : QSelf A E) (x : Path A E) (l k : Toks) → IsQualified part clearly style q x l k → PathStarts l k
  qualified_starts style q x l k (by_type (is_mark (last_char y)) i g c n) = by_lt
  qualified_starts style q x l k (by_type_as_path (is_mark (last_char y)) i d w p g c n) = by_lt

  qualified_less : (style : PathStyle) (q : QSelf A E) (x : Path A E) (l k : Toks) → IsQualified part clearly style q x l k → Less l k
  qualified_less style q x l k (by_type {o = o} {e = e} {x = y} {g = g} {c = c} {xs = xs} {cs = cs} {m = m} {n = n} {k = j} {j = h} i t u v z) =
      no_less (mark_no o l m i) (less_less (s.firsts.ty Plus e y m n t).1 (no_less (mark_no g n j u) (no_less (mark_no c j h v) (segments_less style true xs cs h k z))))
  qualified_less style q x l k (by_type_as_path {o = o} {e = e} {x = y} {w = w} {p = p} {g = g} {c = c} {xs = xs} {cs = cs} {m = m} {n = n} {k = k2} {j = j} {i = i2} {h = h} i t d u b v a z) =
      no_less (mark_no o l m i) (less_less (s.firsts.ty Plus e y m n t).1 (less_less (word_takes w n k2 u) (less_less (path_less AsWritten p k2 j b) (no_less (mark_no g j i2 v) (no_less (mark_no c i2 h a) (segments_less style true xs cs h k z))))))

  pub any_path_starts : (style : PathStyle) (o : Option (QSelf A E)) (x : Path A E) (l k : Toks) → IsAnyPath part clearly style o x l k → PathStarts l k × Less l k
  any_path_starts style o x l k (unqualified i) = (path_starts style x l k i, path_less style x l k i)
  any_path_starts style o x l k (qualified {q = q} i) = (qualified_starts style q x l k i, qualified_less style q x l k i)
