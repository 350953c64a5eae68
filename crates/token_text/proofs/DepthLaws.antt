-- The levels of a text's pieces are those of the list that it spells.
use Rattle.std.proofs.Common.{◌≡◌, ℕ, zero, suc, ◌+◌, ◌-◌, ◌<◌, ◌≤◌, inl, inr, Bool, true, false, if◌then◌else◌, List, [], ◌∷◌, ◌++◌, map, length, take, drop, take_at, drop_at, chars, codes, encode_utf8_all, Option, Some, None, Result, Ok, Err, refl, sym, ap, ap₂, ◌∙◌, arith, append_assoc, append-nil, length-append}
use Rattle.std.specs.Prelude.{nat_lt}
use Rattle.std.specs.Char.{len_utf8}
use Rattle.std.proofs.lemmas.Bool.{cases_Bool}
use Rattle.std.proofs.lemmas.List.{map-append, append_cancel_right}
use Rattle.token_core.specs.declared.class.Class.{Class}
use Rattle.token_core.specs.declared.class.Class.TheVariants as c
use Rattle.token_core.specs.declared.error.ErrorKind.{ErrorKind}
use Rattle.token_core.specs.declared.error.ErrorKind.TheVariants.{NestedTooDeep}
use Rattle.token_core.specs.declared.levels.Last.TheVariants.{Quote, Value, Other}
use Rattle.token_core.specs.declared.span.Span.{Span}
use Rattle.token_core.specs.declared.tree.Delimiter.{Delimiter}
use Rattle.token_core.specs.declared.tree.Delimiter.TheVariants.{Bracket}
use Rattle.token_core.specs.declared.tree.LitKind.{LitKind}
use Rattle.token_core.specs.declared.tree.LitKind.TheVariants.{Str}
use Rattle.token_core.specs.declared.tree.Spacing.{Spacing}
use Rattle.token_core.specs.declared.tree.Spacing.TheVariants.{Joint, Alone}
use Rattle.token_core.specs.declared.tree.TokenTree.{TokenTree}
use Rattle.token_core.specs.Classes.{classed, text_class, word_number, is_raw}
use Rattle.token_core.specs.Levels as levels
use Rattle.token_core.specs.Levels.{Token, token, tokens, passes, plus, step, ident, with_last, too_deep, Checked}
use Rattle.token_core.specs.Positions.{an_end, tree_items, row_items}
use Rattle.token_core.specs.Refusal.{Refusal, named, out_of_memory, Stored}
use Rattle.token_core.specs.Spans.{none, span, delim_span}
use Rattle.token_core.specs.Toks.{Bytes}
use Rattle.token_core.specs.Trees as trees
use Rattle.token_core.specs.Trees.{stream_of_trees}
use Rattle.token_core.proofs.Cuts.{stream_items}
use Rattle.token_core.proofs.Positions.{ident_items, punct_items, literal_items, delimited_items}
use Rattle.token_text.specs.Characters.{Text, size, upto, is_nothing, is_blank, passes as passes_class, after_run}
use Rattle.token_text.specs.Depth.{piece_tokens, found_tokens, tokens_from, text_tokens, deep_at, after_piece, highest, place}
use Rattle.token_text.specs.Front.{Found, found, Past, look, front}
use Rattle.token_text.specs.Pieces.{trees_of, group_tree, word_tree, mark_tree, past_quote, doc_marks, doc_group, doc_literal}
use Rattle.token_text.specs.Reading.{Frame, State, state, start, same, closed, opened, act, with_more, finished, turn, reads}
use Rattle.token_text.specs.Spelling as rules
use Rattle.token_text.specs.Spelling.{SpellsWith}
use Rattle.token_text.specs.declared.class.Class.TheVariants as classes
use Rattle.token_text.specs.declared.piece.Docs.{Docs}
use Rattle.token_text.specs.declared.piece.Form.{Form}
use Rattle.token_text.specs.declared.piece.Style.{Style}
use Rattle.token_text.specs.declared.piece.Style.TheVariants.{Outer, Inner}
use Rattle.token_text.specs.declared.piece.Leaf.TheVariants.{Blank, Doc, Word, Lifetime, Literal, Mark}
use Rattle.token_text.specs.declared.piece.Piece.{Piece}
use Rattle.token_text.specs.declared.piece.Piece.TheVariants.{Leaf, Open, Close}
use Rattle.token_text.proofs.TextLaws.{same_is, lexed_spelled}
use Rattle.token_text.proofs.Steps.{size-cons, look_ahead, front_looked}
use Rattle.token_text.proofs.PieceLaws.{front_splits, front_only}
use Rattle.token_text.proofs.CharacterLaws.{which}
use Rattle.token_text.proofs.Words.{spelled_so}

then_is : {A : Type 0} (b : Bool) (x y : A) → b ≡ true → (if b then x else y) ≡ x
then_is true x y h = refl
then_is false x y h = cc

else_is : {A : Type 0} (b : Bool) (x y : A) → b ≡ false → (if b then x else y) ≡ y
else_is true x y h = cc
else_is false x y h = refl

some_none : (s : Span) → Some s ≡ None → ⊥
some_none s e = cc

-- ---- the tokens of lists

row_append : (a b : List TokenTree) → row_items (a ++ b) ≡ row_items a ++ row_items b
row_append [] b = refl
row_append (x ∷ a) b = ap (λ z. tree_items x ++ z) (row_append a b) ∙ sym (append_assoc (tree_items x) (row_items a) (row_items b))

tokens_append : (a b : List TokenTree) → tokens (a ++ b) ≡ tokens a ++ tokens b
tokens_append a b = ap (map token) (row_append a b) ∙ map-append token (row_items a) (row_items b)

tokens_group : (d : Delimiter) (o s : Span) (ts : List TokenTree) → tokens (group_tree d o s ts ∷ []) ≡ (c.Open d, o) ∷ (tokens ts ++ (c.End, none) ∷ [])
tokens_group d o s ts =
    ap (map token) (append-nil (tree_items (group_tree d o s ts)) ∙ delimited_items d (delim_span o s) (stream_of_trees ts))
    ∙ ap (λ z. (c.Open d, o) ∷ map token (z ++ an_end ∷ [])) (stream_items ts)
    ∙ ap (λ z. (c.Open d, o) ∷ z) (map-append token (row_items ts) (an_end ∷ []))

-- after the tokens of a list
abbrev pub passed : List Token → levels.State → levels.State
passed [] x = x
passed (t ∷ l) x = passed l (step t.0 x)

passes_append : (limit : ℕ) (a b : List Token) (x : levels.State) → passes limit a x ≡ None → passes limit (a ++ b) x ≡ passes limit b (passed a x)
passes_append limit [] b x h = refl
passes_append limit (t ∷ a) b x h = elim (cases_Bool (nat_lt limit (step t.0 x).here)) [
  | inl e ↦ (let f = then_is (nat_lt limit (step t.0 x).here) (Some t.1) (passes limit a (step t.0 x)) e in absurd (some_none t.1 (sym f ∙ h)))
  | inr e ↦ else_is (nat_lt limit (step t.0 x).here) _ _ e ∙ passes_append limit a b (step t.0 x) (sym (else_is (nat_lt limit (step t.0 x).here) _ _ e) ∙ h)
]

passes_before : (limit : ℕ) (a b : List Token) (x : levels.State) (s : Span) → passes limit a x ≡ Some s → passes limit (a ++ b) x ≡ Some s
passes_before limit [] b x s h = cc
passes_before limit (t ∷ a) b x s h = elim (cases_Bool (nat_lt limit (step t.0 x).here)) [
  | inl e ↦ then_is (nat_lt limit (step t.0 x).here) _ _ e ∙ (sym (then_is (nat_lt limit (step t.0 x).here) (Some t.1) (passes limit a (step t.0 x)) e) ∙ h)
  | inr e ↦ else_is (nat_lt limit (step t.0 x).here) _ _ e ∙ passes_before limit a b (step t.0 x) s (sym (else_is (nat_lt limit (step t.0 x).here) _ _ e) ∙ h)
]

-- ---- the tokens of what is read so far

abbrev pub flat : List Frame → List TokenTree → List Token
flat [] ts = tokens ts
flat (f ∷ fs) ts = flat fs f.before ++ (c.Open f.delimiter, f.span) ∷ tokens ts

abbrev pub flat_of : State → List Token
flat_of x = flat x.open_groups x.so_far

flat_more : (fs : List Frame) (ts us : List TokenTree) → flat fs (ts ++ us) ≡ flat fs ts ++ tokens us
flat_more [] ts us = tokens_append ts us
flat_more (f ∷ fs) ts us =
    ap (λ z. flat fs f.before ++ (c.Open f.delimiter, f.span) ∷ z) (tokens_append ts us)
    ∙ sym (append_assoc (flat fs f.before) ((c.Open f.delimiter, f.span) ∷ tokens ts) (tokens us))

flat_close : (d : Delimiter) (s : Span) (fs : List Frame) (ts : List TokenTree) (y : State) → closed d s fs ts ≡ Ok y → flat_of y ≡ flat fs ts ++ (c.End, none) ∷ []
flat_close d s [] ts y h = cc
flat_close d s (f ∷ fs) ts y h = elim (cases_Bool (same f.delimiter d)) [
  | inl e ↦ (
      let g = group_tree d f.span s ts in
      let k : Ok (state fs (f.before ++ g ∷ [])) ≡ Ok y = sym (then_is (same f.delimiter d) _ _ e) ∙ h in
      let is : state fs (f.before ++ g ∷ []) ≡ y = cc in
      ap flat_of (sym is) ∙ flat_more fs f.before (g ∷ []) ∙ ap (λ z. flat fs f.before ++ z) (tokens_group d f.span s ts)
      ∙ ap (λ b. flat fs f.before ++ ((c.Open b, f.span) ∷ (tokens ts ++ (c.End, none) ∷ []))) (sym (same_is f.delimiter d e))
      ∙ sym (append_assoc (flat fs f.before) ((c.Open f.delimiter, f.span) ∷ tokens ts) ((c.End, none) ∷ [])))
  | inr e ↦ (let k = sym (else_is (same f.delimiter d) _ _ e) ∙ h in cc)
]

pub flat_act : (s : Span) (b : Bytes) (p : Piece) (x y : State) → act s b p x ≡ Ok y → flat_of y ≡ flat_of x ++ piece_tokens p s b
flat_act s b (Leaf k) x y h =
    let is : state x.open_groups (x.so_far ++ trees_of k s b) ≡ y = cc in
    ap flat_of (sym is) ∙ flat_more x.open_groups x.so_far (trees_of k s b)
flat_act s b (Open d) x y h = let is : opened d s x ≡ y = cc in ap flat_of (sym is)
flat_act s b (Close d) x y h = flat_close d s x.open_groups x.so_far y h

flat_end : (fs : List Frame) (ts l : List TokenTree) → finished fs ts ≡ Ok l → tokens l ≡ flat fs ts
flat_end [] ts l h = let is : ts ≡ l = cc in ap tokens (sym is)
flat_end (f ∷ fs) ts l h = cc

-- ---- the tokens of a text, piece by piece

module _ (docs : Docs) where
  abbrev from : ℕ → ℕ → Text → List Token
  from left at cs = tokens_from docs left at cs

  from_left : (n at : ℕ) (cs : Text) → from n at cs ≡ from 0 (at + size (take n cs)) (drop n cs)
  unfolding tokens_from
  from_left zero at cs = let e : at ≡ at + 0 = omega arith in ap (λ a. from 0 a cs) e
  from_left (suc n) at [] = refl
  from_left (suc n) at (c ∷ cs) =
      let e : (at + len_utf8 c) + size (take n cs) ≡ at + size (c ∷ take n cs) = omega (arith, size-cons c (take n cs)) in
      from_left n (at + len_utf8 c) cs ∙ ap (λ a. from 0 a (drop n cs)) e

  from_found : (at d : ℕ) (cs : Text) (f : Found) → front docs (d ∷ cs) ≡ Ok f → from 0 at (d ∷ cs) ≡ found_tokens at f ++ from (length f.spelled - 1) (at + len_utf8 d) cs
  unfolding tokens_from
  from_found at d cs f h = rw (h, tokens_from) refl

  from_fault : (at d : ℕ) (cs : Text) (k : ErrorKind) → front docs (d ∷ cs) ≡ Err k → from 0 at (d ∷ cs) ≡ []
  unfolding tokens_from
  from_fault at d cs k h = rw (h, tokens_from) refl

  from_end : (at : ℕ) → from 0 at [] ≡ []
  unfolding tokens_from
  from_end at = refl

  from_piece : (at : ℕ) (cs w rest : Text) (p : Piece) → front docs cs ≡ Ok (found p w rest)
      → from 0 at cs ≡ piece_tokens p (span at (at + size w)) (encode_utf8_all w) ++ from 0 (at + size w) rest
  from_piece at cs [] rest p h = let s = front_splits docs cs (found p [] rest) h in absurd (omega (arith, s.some))
  from_piece at [] (c ∷ w) rest p h = let s = front_splits docs [] (found p (c ∷ w) rest) h in let e = s.whole in cc
  from_piece at (d ∷ cs) (c ∷ w) rest p h =
      let s = front_splits docs (d ∷ cs) (found p (c ∷ w) rest) h in
      let whole = s.whole in
      let same : d ≡ c = cc in
      let tail : cs ≡ w ++ rest = cc in
      let n : suc (length w) - 1 ≡ length w = omega arith in
      let e : (at + len_utf8 d) + size w ≡ at + size (c ∷ w) = omega (arith, size-cons c w, ap len_utf8 same) in
      let here = piece_tokens p (span at (at + size (c ∷ w))) (encode_utf8_all (c ∷ w)) in
      from_found at d cs (found p (c ∷ w) rest) h
      ∙ ap (λ m. here ++ from m (at + len_utf8 d) cs) n
      ∙ ap (λ z. here ++ z)
      (from_left (length w) (at + len_utf8 d) cs
      ∙ ap₂ (λ (a : ℕ) (r : Text). from 0 a r)
      (ap (λ u. (at + len_utf8 d) + size u) (ap (take (length w)) tail ∙ take_at w rest (length w) refl) ∙ e)
      (ap (drop (length w)) tail ∙ drop_at w rest (length w) refl))

  from_blank : (at d : ℕ) (cs : Text) → is_blank d ≡ true → from 0 at (d ∷ cs) ≡ from 0 (at + len_utf8 d) cs
  from_blank at d cs h =
      let one : size (d ∷ []) ≡ len_utf8 d = omega (arith, size-cons d []) in
      let begins = front_only docs (Leaf Blank) (d ∷ cs) (d ∷ []) cs (record { whole = refl; is_piece = rules.blank h }) in
      from_piece at (d ∷ cs) (d ∷ []) cs (Leaf Blank) begins ∙ ap (λ n. from 0 (at + n) cs) one

  from_blanks : (at : ℕ) (cs : Text) → (w : Text) × (cs ≡ w ++ after_run classes.Blank cs) × (from 0 at cs ≡ from 0 (at + size w) (after_run classes.Blank cs))
  unfolding passes_class
  from_blanks at [] = let e : at ≡ at + 0 = omega arith in ([], refl, ap (λ n. from 0 n []) e)
  from_blanks at (d ∷ cs) =
      which (λ ds. (w : Text) × (d ∷ cs ≡ w ++ ds) × (from 0 at (d ∷ cs) ≡ from 0 (at + size w) ds)) (is_blank d)
      (λ h. (let more = from_blanks (at + len_utf8 d) cs in
      let e : (at + len_utf8 d) + size more.0 ≡ at + size (d ∷ more.0) = omega (arith, size-cons d more.0) in
      (d ∷ more.0, ap (λ t. d ∷ t) more.1, from_blank at d cs h ∙ more.2 ∙ ap (λ n. from 0 n (after_run classes.Blank cs)) e)))
      (λ h. (let e : at ≡ at + 0 = omega arith in ([], refl, ap (λ n. from 0 n (d ∷ cs)) e)))

  -- what is read of a text has these tokens
  act_by : (l : List TokenTree) (at d : ℕ) (x : State) (cs : Text) (f : Found) (o : Result State Refusal)
      → act (span at (at + size f.spelled)) (encode_utf8_all f.spelled) f.piece x ≡ o
      → (elim (with_more (length f.spelled - 1) o) as (λ (_ : Result (State × ℕ) Refusal). Result (List TokenTree) Refusal) [ Ok y ↦ reads docs y.1 (at + len_utf8 d) y.0 cs | Err e ↦ Err e ]) ≡ Ok l
      → ((y : State) (n : ℕ) → reads docs n (at + len_utf8 d) y cs ≡ Ok l → tokens l ≡ flat_of y ++ from n (at + len_utf8 d) cs)
      → tokens l ≡ flat_of x ++ (found_tokens at f ++ from (length f.spelled - 1) (at + len_utf8 d) cs)
  act_by l at d x cs f (Err e) a h go = cc
  act_by l at d x cs f (Ok z) a h go =
      let n = length f.spelled - 1 in
      let more = from n (at + len_utf8 d) cs in
      go z n h ∙ ap (λ k. k ++ more) (flat_act (span at (at + size f.spelled)) (encode_utf8_all f.spelled) f.piece x z a) ∙ append_assoc (flat_of x) (found_tokens at f) more

  front_by : (l : List TokenTree) (at d : ℕ) (x : State) (cs : Text) (o : Result Found ErrorKind)
      → (elim (turn at d x o) as (λ (_ : Result (State × ℕ) Refusal). Result (List TokenTree) Refusal) [ Ok y ↦ reads docs y.1 (at + len_utf8 d) y.0 cs | Err e ↦ Err e ]) ≡ Ok l
      → ((y : State) (n : ℕ) → reads docs n (at + len_utf8 d) y cs ≡ Ok l → tokens l ≡ flat_of y ++ from n (at + len_utf8 d) cs)
      → tokens l ≡ flat_of x ++ (elim o as (λ (_ : Result Found ErrorKind). List Token) [ Ok f ↦ found_tokens at f ++ from (length f.spelled - 1) (at + len_utf8 d) cs | Err k ↦ [] ])
  front_by l at d x cs (Err k) h go = cc
  front_by l at d x cs (Ok f) h go = act_by l at d x cs f (act (span at (at + size f.spelled)) (encode_utf8_all f.spelled) f.piece x) refl h go

  reads_tokens : (n at : ℕ) (x : State) (cs : Text) (l : List TokenTree) → reads docs n at x cs ≡ Ok l → tokens l ≡ flat_of x ++ from n at cs
  unfolding reads tokens_from
  reads_tokens n at x [] l h = flat_end x.open_groups x.so_far l h ∙ sym (append-nil (flat_of x))
  reads_tokens (suc n) at x (d ∷ cs) l h = reads_tokens n (at + len_utf8 d) x cs l h
  reads_tokens zero at x (d ∷ cs) l h = front_by l at d x cs (front docs (d ∷ cs)) h (λ y n k. reads_tokens n (at + len_utf8 d) y cs l k)

  pub listed : (limit : ℕ) (text : Bytes) (l : List TokenTree) → SpellsWith docs text l → deep_at docs limit text ≡ too_deep limit l
  unfolding too_deep
  listed limit text l s = ap (λ k. passes limit k levels.start) (sym (reads_tokens 0 0 start (chars text) l (lexed_spelled docs text l s)))

-- ---- the levels after a piece

classed_step : (o : Option ℕ) (b : Bytes) (x : levels.State) → step (classed o b) x ≡ ident (classed o b) x
classed_step (Some n) b x = refl
classed_step None b x = elim (is_raw b) as (λ r. step (if r then c.Raw else c.Ident) x ≡ ident (if r then c.Raw else c.Ident) x) [ true ↦ refl | false ↦ refl ]

ident_step : (b : Bytes) (x : levels.State) → step (text_class b) x ≡ ident (text_class b) x
unfolding text_class
ident_step b x = classed_step _ b x

-- the name of a lifetime changes no level
quoted_here : (k : Class) (x : levels.State) → (ident k (with_last Quote x)).here ≡ x.here
quoted_here (c.Word n) x = refl
quoted_here c.Raw x = refl
quoted_here c.Ident x = refl
quoted_here (c.Mark j d) x = refl
quoted_here (c.Literal k) x = refl
quoted_here (c.Open b) x = refl
quoted_here c.End x = refl

word_tokens : (b : Bytes) (s : Span) → tokens (word_tree b s ∷ []) ≡ (text_class b, s) ∷ []
word_tokens b s = ap (λ z. map token (z ++ [])) (ident_items (trees.ident b s))

mark_tokens : (d : ℕ) (j : Spacing) (s : Span) → tokens (mark_tree d j s ∷ []) ≡ (c.Mark j d, s) ∷ []
mark_tokens d j s = ap (λ z. map token (z ++ [])) (punct_items (trees.punct d j s))

literal_tokens : (k : LitKind) (b : Bytes) (s : Span) → tokens (trees_of (Literal k) s b) ≡ (c.Literal k, s) ∷ []
literal_tokens k b s = ap (λ z. map token (z ++ [])) (literal_items (trees.literal k b s))

lifetime_tokens : (b : Bytes) (s : Span) → tokens (trees_of Lifetime s b) ≡ (c.Mark Joint 39, span s.lo (s.lo + 1)) ∷ (text_class (past_quote b), span (s.lo + 1) s.hi) ∷ []
lifetime_tokens b s =
    tokens_append (mark_tree 39 Joint (span s.lo (s.lo + 1)) ∷ []) (word_tree (past_quote b) (span (s.lo + 1) s.hi) ∷ [])
    ∙ ap (λ z. z ++ tokens (word_tree (past_quote b) (span (s.lo + 1) s.hi) ∷ [])) (mark_tokens 39 Joint (span s.lo (s.lo + 1)))
    ∙ ap (λ z. (c.Mark Joint 39, span s.lo (s.lo + 1)) ∷ z) (word_tokens (past_quote b) (span (s.lo + 1) s.hi))

-- the tokens of the attribute of a comment of documentation
abbrev before_group : Style → Span → List Token
before_group Outer s = (c.Mark Alone 35, s) ∷ []
before_group Inner s = (c.Mark Alone 35, s) ∷ (c.Mark Alone 33, s) ∷ []

abbrev of_group : Span → List Token
of_group s = (c.Open Bracket, s) ∷ (c.Ident, s) ∷ (c.Mark Alone 61, s) ∷ (c.Literal Str, s) ∷ (c.End, none) ∷ []

doc_class : text_class (codes "doc") ≡ c.Ident
unfolding text_class word_number
doc_class = refl

marks_tokens : (style : Style) (s : Span) → tokens (doc_marks style s) ≡ before_group style s
marks_tokens Outer s = mark_tokens 35 Alone s
marks_tokens Inner s =
    tokens_append (mark_tree 35 Alone s ∷ []) (mark_tree 33 Alone s ∷ [])
    ∙ ap (λ z. z ++ tokens (mark_tree 33 Alone s ∷ [])) (mark_tokens 35 Alone s)
    ∙ ap (λ z. (c.Mark Alone 35, s) ∷ z) (mark_tokens 33 Alone s)

content_tokens : (s : Span) (b : Bytes)
    → tokens (word_tree (codes "doc") s ∷ mark_tree 61 Alone s ∷ trees_of (Literal Str) s b) ≡ (c.Ident, s) ∷ (c.Mark Alone 61, s) ∷ (c.Literal Str, s) ∷ []
content_tokens s b =
    let last = trees_of (Literal Str) s b in
    tokens_append (word_tree (codes "doc") s ∷ []) (mark_tree 61 Alone s ∷ last)
    ∙ ap (λ z. z ++ tokens (mark_tree 61 Alone s ∷ last)) (word_tokens (codes "doc") s ∙ ap (λ k. (k, s) ∷ []) doc_class)
    ∙ ap (λ z. (c.Ident, s) ∷ z)
    (tokens_append (mark_tree 61 Alone s ∷ []) last
    ∙ ap (λ z. z ++ tokens last) (mark_tokens 61 Alone s)
    ∙ ap (λ z. (c.Mark Alone 61, s) ∷ z) (literal_tokens Str b s))

group_tokens : (s : Span) (b : Bytes) → tokens (doc_group s b ∷ []) ≡ of_group s
group_tokens s b =
    tokens_group Bracket s s (word_tree (codes "doc") s ∷ mark_tree 61 Alone s ∷ trees_of (Literal Str) s b)
    ∙ ap (λ z. (c.Open Bracket, s) ∷ (z ++ (c.End, none) ∷ [])) (content_tokens s b)

doc_tokens : (style : Style) (form : Form) (s : Span) (b : Bytes) → tokens (trees_of (Doc style form) s b) ≡ before_group style s ++ of_group s
doc_tokens style form s b =
    let g = doc_group s (doc_literal form b) ∷ [] in
    tokens_append (doc_marks style s) g ∙ ap (λ z. z ++ tokens g) (marks_tokens style s) ∙ ap (λ z. before_group style s ++ z) (group_tokens s (doc_literal form b))

doc_passed : (style : Style) (s : Span) (x : levels.State) → passed (before_group style s ++ of_group s) x ≡ with_last Other x
doc_passed Outer s x = refl
doc_passed Inner s x = refl

piece_passed : (p : Piece) (s : Span) (b : Bytes) (x : levels.State) → passed (piece_tokens p s b) x ≡ after_piece p b x
piece_passed (Leaf Blank) s b x = refl
piece_passed (Leaf (Doc style form)) s b x = ap (λ l. passed l x) (doc_tokens style form s b) ∙ doc_passed style s x
piece_passed (Leaf Word) s b x = ap (λ l. passed l x) (word_tokens b s) ∙ ident_step b x
piece_passed (Leaf Lifetime) s b x = ap (λ l. passed l x) (lifetime_tokens b s) ∙ ident_step (past_quote b) (with_last Quote x)
piece_passed (Leaf (Literal k)) s b x = ap (λ l. passed l x) (literal_tokens k b s)
piece_passed (Leaf (Mark d j)) s b x = ap (λ l. passed l x) (mark_tokens d j s)
piece_passed (Open d) s b x = refl
piece_passed (Close d) s b x = refl

one_within : (limit : ℕ) (t : Token) (x : levels.State) → nat_lt limit (step t.0 x).here ≡ false → passes limit (t ∷ []) x ≡ None
one_within limit t x h = else_is (nat_lt limit (step t.0 x).here) _ _ h

one_beyond : (limit : ℕ) (t : Token) (l : List Token) (x : levels.State) → nat_lt limit (step t.0 x).here ≡ true → passes limit (t ∷ l) x ≡ Some t.1
one_beyond limit t l x h = then_is (nat_lt limit (step t.0 x).here) _ _ h

one_past : (limit : ℕ) (t : Token) (l : List Token) (x : levels.State) → nat_lt limit (step t.0 x).here ≡ false → passes limit (t ∷ l) x ≡ passes limit l (step t.0 x)
one_past limit t l x h = else_is (nat_lt limit (step t.0 x).here) _ _ h

ident_here : (limit : ℕ) (b : Bytes) (x : levels.State) (r : Bool) → nat_lt limit (ident (text_class b) x).here ≡ r → nat_lt limit (step (text_class b) x).here ≡ r
ident_here limit b x r h = ap (λ (y : levels.State). nat_lt limit y.here) (ident_step b x) ∙ h

pub at_most : (n limit : ℕ) → n ≤ limit → nat_lt limit n ≡ false
at_most n limit h = grind (arith, h)

pub beyond : (n limit : ℕ) → limit < n → nat_lt limit n ≡ true
beyond n limit h = grind (arith, h)

under : (n limit : ℕ) → nat_lt limit n ≡ false → n ≤ limit
under n limit h = grind (arith, h)

marks_past : (limit : ℕ) (style : Style) (s : Span) (l : List Token) (x : levels.State) → nat_lt limit x.here ≡ false
    → passes limit (before_group style s ++ l) x ≡ passes limit l (with_last Other x)
marks_past limit Outer s l x h = one_past limit (c.Mark Alone 35, s) l x h
marks_past limit Inner s l x h = one_past limit (c.Mark Alone 35, s) ((c.Mark Alone 33, s) ∷ l) x h ∙ one_past limit (c.Mark Alone 33, s) l (with_last Other x) h

abbrev in_group : levels.State → levels.State
in_group x = levels.open_group Bracket x

group_within : (limit : ℕ) (s : Span) (x : levels.State) → nat_lt limit x.here ≡ false → nat_lt limit (plus x.here 1) ≡ false → passes limit (of_group s) x ≡ None
group_within limit s x h n =
    one_past limit (c.Open Bracket, s) ((c.Ident, s) ∷ (c.Mark Alone 61, s) ∷ (c.Literal Str, s) ∷ (c.End, none) ∷ []) x n
    ∙ one_past limit (c.Ident, s) ((c.Mark Alone 61, s) ∷ (c.Literal Str, s) ∷ (c.End, none) ∷ []) (in_group x) n
    ∙ one_past limit (c.Mark Alone 61, s) ((c.Literal Str, s) ∷ (c.End, none) ∷ []) (levels.name (in_group x)) n
    ∙ one_past limit (c.Literal Str, s) ((c.End, none) ∷ []) (with_last Other (in_group x)) n
    ∙ one_within limit (c.End, none) (with_last Value (in_group x)) h

-- a piece passes a limit where its greatest level is above
piece_within : (limit : ℕ) (p : Piece) (s : Span) (b : Bytes) (x : levels.State) → x.here ≤ limit → nat_lt limit (highest p (after_piece p b x)) ≡ false
    → passes limit (piece_tokens p s b) x ≡ None
piece_within limit (Leaf Blank) s b x le h = refl
piece_within limit (Leaf (Doc style form)) s b x le h =
    let low = at_most x.here limit le in
    ap (λ l. passes limit l x) (doc_tokens style form s b) ∙ marks_past limit style s (of_group s) x low ∙ group_within limit s (with_last Other x) low h
piece_within limit (Leaf Word) s b x le h = ap (λ l. passes limit l x) (word_tokens b s) ∙ one_within limit (text_class b, s) x (ident_here limit b x false h)
piece_within limit (Leaf Lifetime) s b x le h =
    ap (λ l. passes limit l x) (lifetime_tokens b s) ∙ else_is (nat_lt limit x.here) _ _ (at_most x.here limit le)
    ∙ one_within limit (text_class (past_quote b), span (s.lo + 1) s.hi) (with_last Quote x) (ident_here limit (past_quote b) (with_last Quote x) false h)
piece_within limit (Leaf (Literal k)) s b x le h = ap (λ l. passes limit l x) (literal_tokens k b s) ∙ one_within limit (c.Literal k, s) x h
piece_within limit (Leaf (Mark d j)) s b x le h = ap (λ l. passes limit l x) (mark_tokens d j s) ∙ one_within limit (c.Mark j d, s) x h
piece_within limit (Open d) s b x le h = one_within limit (c.Open d, s) x h
piece_within limit (Close d) s b x le h = one_within limit (c.End, none) x h

-- and then the levels stay within the limit
piece_stays : (limit : ℕ) (p : Piece) (b : Bytes) (x : levels.State) → x.here ≤ limit → nat_lt limit (highest p (after_piece p b x)) ≡ false → (after_piece p b x).here ≤ limit
piece_stays limit (Leaf Blank) b x le h = le
piece_stays limit (Leaf (Doc style form)) b x le h = le
piece_stays limit (Leaf Word) b x le h = under _ limit h
piece_stays limit (Leaf Lifetime) b x le h = under _ limit h
piece_stays limit (Leaf (Literal k)) b x le h = under _ limit h
piece_stays limit (Leaf (Mark d j)) b x le h = under _ limit h
piece_stays limit (Open d) b x le h = under _ limit h
piece_stays limit (Close d) b x le h = under _ limit h

piece_beyond : (limit : ℕ) (p : Piece) (s : Span) (b : Bytes) (x : levels.State) → x.here ≤ limit → nat_lt limit (highest p (after_piece p b x)) ≡ true
    → passes limit (piece_tokens p s b) x ≡ Some (place p s)
piece_beyond limit (Leaf Blank) s b x le h = let e : false ≡ true = sym (at_most x.here limit le) ∙ h in cc
piece_beyond limit (Leaf (Doc style form)) s b x le h =
    ap (λ l. passes limit l x) (doc_tokens style form s b) ∙ marks_past limit style s (of_group s) x (at_most x.here limit le)
    ∙ one_beyond limit (c.Open Bracket, s) ((c.Ident, s) ∷ (c.Mark Alone 61, s) ∷ (c.Literal Str, s) ∷ (c.End, none) ∷ []) (with_last Other x) h
piece_beyond limit (Leaf Word) s b x le h = ap (λ l. passes limit l x) (word_tokens b s) ∙ one_beyond limit (text_class b, s) [] x (ident_here limit b x true h)
piece_beyond limit (Leaf Lifetime) s b x le h =
    let e : false ≡ true = sym (at_most x.here limit le) ∙ ap (nat_lt limit) (sym (quoted_here (text_class (past_quote b)) x)) ∙ h in cc
piece_beyond limit (Leaf (Literal k)) s b x le h = ap (λ l. passes limit l x) (literal_tokens k b s) ∙ one_beyond limit (c.Literal k, s) [] x h
piece_beyond limit (Leaf (Mark d j)) s b x le h = ap (λ l. passes limit l x) (mark_tokens d j s) ∙ one_beyond limit (c.Mark j d, s) [] x h
piece_beyond limit (Open d) s b x le h = one_beyond limit (c.Open d, s) [] x h
piece_beyond limit (Close d) s b x le h = one_beyond limit (c.End, none) [] x h

-- ---- the loop over a text

module _ (docs : Docs) (limit : ℕ) (text : Bytes) where
  -- Where the text passes the limit is where what is left of it does, from these levels on.
  abbrev pub Reached : ℕ → Text → levels.State → Type 0
  Reached at cs y = (y.here ≤ limit) × (deep_at docs limit text ≡ passes limit (tokens_from docs 0 at cs) y)

  pub reached_first : (y : levels.State) → y ≡ levels.start → Reached 0 (chars text) y
  reached_first y e = let here : y.here ≡ 0 = ap (λ (z : levels.State). z.here) e in (omega (arith, here), ap (passes limit (text_tokens docs text)) (sym e))

  pub reached_end : (at : ℕ) (cs : Text) (y : levels.State) → is_nothing cs ≡ true → Reached at cs y → Checked (deep_at docs limit text) (Ok tt)
  reached_end at [] y h r = r.1 ∙ ap (λ k. passes limit k y) (from_end docs at)
  reached_end at (d ∷ cs) y h r = cc

  pub reached_fault : (at : ℕ) (cs : Text) (k : ErrorKind) (y : levels.State) → is_nothing cs ≡ false → front docs cs ≡ Err k → Reached at cs y
      → Checked (deep_at docs limit text) (Ok tt)
  reached_fault at [] k y n h r = cc
  reached_fault at (d ∷ cs) k y n h r = r.1 ∙ ap (λ t. passes limit t y) (from_fault docs at d cs k h)

  module _ (rest after : List ℕ) (y : levels.State) (le : length rest ≤ length text) (past : Past rest after) where
    abbrev At : ℕ
    At = length text - length rest

    abbrev Then : ℕ
    Then = length text - length after

    -- blanks are passed over
    pub reached_blanks : chars after ≡ after_run classes.Blank (chars rest) → Reached At (chars rest) y → Reached Then (chars after) y
    reached_blanks run r =
        let more = from_blanks docs At (chars rest) in
        let same : more.0 ≡ past.front = append_cancel_right more.0 past.front (chars after) (ap (λ t. more.0 ++ t) run ∙ sym more.1 ∙ past.whole) in
        let e : At + size more.0 ≡ Then = omega (arith, le, ap size same, ap length past.split, length-append (encode_utf8_all past.front) after) in
        (r.0, r.1 ∙ ap (λ k. passes limit k y) (more.2 ∙ ap₂ (λ (n : ℕ) (t : Text). tokens_from docs 0 n t) e (sym run)))

    module _ (p : Piece) (found_there : look docs (chars rest) ≡ Ok (p, chars after)) (s : Span) (b : List ℕ) (cut : rest ≡ b ++ after)
        (is : s ≡ span (length text - length rest) (length text - length after)) where
      abbrev W : Text
      W = upto (chars rest) (chars after)

      bytes : encode_utf8_all W ≡ b
      bytes = spelled_so rest b after past cut

      ends : At + size W ≡ Then
      ends = let n : length rest ≡ length b + length after = ap length cut ∙ length-append b after in omega (arith, le, n, ap length bytes)

      -- the tokens of the piece stand before those of what follows it
      goes : tokens_from docs 0 At (chars rest) ≡ piece_tokens p s b ++ tokens_from docs 0 Then (chars after)
      goes =
          from_piece docs At (chars rest) W (chars after) p (front_looked docs (chars rest) (chars after) p found_there)
          ∙ ap (λ n. piece_tokens p (span At n) (encode_utf8_all W) ++ tokens_from docs 0 n (chars after)) ends
          ∙ ap (λ c. piece_tokens p (span At Then) c ++ tokens_from docs 0 Then (chars after)) bytes
          ∙ ap (λ t. piece_tokens p t b ++ tokens_from docs 0 Then (chars after)) (sym is)

      pub reached_more : Reached At (chars rest) y → nat_lt limit (highest p (after_piece p b y)) ≡ false → Reached Then (chars after) (after_piece p b y)
      reached_more r n =
          let more = tokens_from docs 0 Then (chars after) in (
            piece_stays limit p b y r.0 n,
            r.1 ∙ ap (λ k. passes limit k y) goes ∙ passes_append limit (piece_tokens p s b) more y (piece_within limit p s b y r.0 n)
                ∙ ap (passes limit more) (piece_passed p s b y),
          )

      refused_there : (o : Option Span) (t : Span) (f : Refusal) → o ≡ Some t → Stored f (named NestedTooDeep t) → Checked o (Err f)
      refused_there (Some u) t f e (inl h) = let q : u ≡ t = cc in inr (rw q h)
      refused_there (Some u) t f e (inr h) = inl h
      refused_there None t f e h = cc

      pub reached_limit : Reached At (chars rest) y → nat_lt limit (highest p (after_piece p b y)) ≡ true → (f : Refusal) → Stored f (named NestedTooDeep (place p s))
          → Checked (deep_at docs limit text) (Err f)
      reached_limit r n f h =
          let more = tokens_from docs 0 Then (chars after) in
          refused_there (deep_at docs limit text) (place p s) f
          (r.1 ∙ ap (λ k. passes limit k y) goes ∙ passes_before limit (piece_tokens p s b) more y (place p s) (piece_beyond limit p s b y r.0 n)) h

  pub no_memory : (f : Refusal) → f ≡ out_of_memory → Checked (deep_at docs limit text) (Err f)
  no_memory f h = inl h

-- a piece takes something
pub look_less : (docs : Docs) (rest after : List ℕ) (p : Piece) → look docs (chars rest) ≡ Ok (p, chars after) → Past rest after → length after < length rest
look_less docs rest after p h past =
    let at : 0 ≡ length rest - length rest = omega arith in
    let le : length rest ≤ length rest = omega arith in
    look_ahead docs rest rest after p start (ap (λ n. reads docs 0 n start (chars rest)) at) le h past
