-- What tests see of classes is what they are defined to see.
use Rattle.std.proofs.Common.{◌≡◌, ℕ, zero, suc, ◌+◌, ◌<◌, ◌≤◌, Bool, true, false, not, ◌&&◌, ◌||◌, ◌==◌, List, [], ◌∷◌, ◌++◌, Option, Some, None, Ok, Err, is_some, if◌then◌else◌, refl, sym, ap, ap₂, ◌∙◌, nat_eq, nat_lt, inl, inr, length, map, drop, get_or, arith}
use Rattle.std.specs.Str.{bytes_eq}
use Rattle.std.proofs.lemmas.Bool.{cases_Bool, false≢true}
use Rattle.std.proofs.lemmas.Slice.Eq.{bytes_eq-Decides}
use Rattle.std.proofs.lemmas.List.{drop-map}
use Rattle.token_core.specs.declared.class.Class.{Class}
use Rattle.token_core.specs.declared.class.Class.TheVariants.{Word, Raw, Ident, Open, End}
use Rattle.token_core.specs.declared.span.Span.{Span}
use Rattle.token_core.specs.declared.mark.Spans.{Spans}
use Rattle.token_core.specs.declared.tree.Punct.{Punct}
use Rattle.token_core.specs.declared.tree.Delimiter.{Delimiter}
use Rattle.token_core.specs.Toks.{Bytes, Toks, done, word, mark, lit, group, enter, leave}
use Rattle.token_core.specs.Seen.{Seen, view, saw_word, saw_mark, saw_lit, saw_group, saw_enter, saw_leave, saw_delimiter, view-nil, view-word, view-mark, view-lit, view-group, view-enter, view-leave}
use Rattle.token_core.specs.Front.{front, settled}
use Rattle.token_core.specs.Keywords.{keywords, keyword_count, weak_keywords, words, word_count, is_one_of, is_keyword}
use Rattle.token_core.specs.Classes.{numbered, among, word_number, builtin_number, true_number, false_number, is_raw, classed, text_class, layer_class, class_of, is_end}
use Rattle.token_core.specs.Reads as reads
use Rattle.token_core.specs.Reads.{past, next_word, word_past, word_if, as_word, as_punct, as_group, as_lit, word_meets, group_meets, sees_word, sees_mark, sees_group, any_text, is_text, past_mark, past_next, put_first, is_last, is_joint, after_one, is_done}
use Rattle.token_core.specs.Lifetimes.{with_ident, with_quote, sees_lifetime}
use Rattle.token_core.specs.Marks.{text_of}
use Rattle.token_core.specs.Lits as lits
use Rattle.token_core.specs.Members.{is_int, int_meets, sees_int}
use Rattle.token_core.specs.declared.lit.Lit.TheVariants as variant
use Rattle.token_core.specs.declared.span.DelimSpan.{DelimSpan}
use Rattle.token_core.specs.declared.tree.Delimiter.TheVariants as d
use Rattle.token_core.specs.declared.tree.TokenTree.TheOpen as o
use Rattle.token_core.specs.Trees.{TokenStream, delimiter_of, span_of, content_of}
use Rattle.token_core.specs.declared.class.Entry.{Entry}
use Rattle.token_core.specs.declared.tree.TokenTree.{out-TokenTree}
use Rattle.token_core.specs.Groups.{as_invisible, is_there}
use Rattle.token_core.specs.Entries.{Layer, saw, saw_layer, entries_view, Nested}
use Rattle.token_core.specs.Positions.{Item, item, entered}
use Rattle.token_core.specs.Front as f
use Rattle.token_core.specs.declared.tree.Ident as tree
use Rattle.token_core.specs.Stream.{Stream}
use Rattle.token_core.specs.Refusal.{Refusal}
use Rattle.token_core.proofs.Classes.{layer_classed, both_left, both_right}
use Rattle.token_core.proofs.Fronts.{settled-front, nested_from}
use Rattle.token_core.specs.Sees as sees
use Rattle.token_core.specs.Sees.{class_at, rest_of, first_class, after_first, is_any_ident, is_ident, is_word, is_group, is_quote, is_char, are_chars, is_lifetime, after_class, literal_kind, kind_meets, is_lit, is_lit_at, bounds}

-- ---- the first entry that is no bound

pub class_first : (l : List Seen) → first_class l ≡ class_at (view l)
class_first [] = rw view-nil refl
class_first (saw_word i ∷ l) = rw view-word refl
class_first (saw_mark p ∷ l) = rw view-mark refl
class_first (saw_lit k ∷ l) = rw view-lit refl
class_first (saw_group b s c n ∷ l) = rw view-group refl
class_first (saw_enter s c n ∷ l) = rw view-enter refl
class_first (saw_leave ∷ l) = rw view-leave refl

-- ---- bounds, and groups

-- what a test says of each class of an identifier
module _ {A : Type 0} (f : Class → A) (v : A) (r : f Raw ≡ v) (i : f Ident ≡ v) (t : Bytes) where
  plain_is : f (classed None t) ≡ v
  plain_is = at (is_raw t)
    where
      at : (z : Bool) → f (if z then Raw else Ident) ≡ v
      at true = r
      at false = i

  text_is : ((n : ℕ) → f (Word n) ≡ v) → f (text_class t) ≡ v
  unfolding text_class
  text_is w = at (word_number t)
    where
      at : (o : Option ℕ) → f (classed o t) ≡ v
      at (Some n) = w n
      at None = plain_is

no_text : (f : Class → Bool) (t : Bytes) → ((n : ℕ) → f (Word n) ≡ false) → f Raw ≡ false → f Ident ≡ false → f (text_class t) ≡ false
no_text f t w r i = text_is f false r i t w

any_text_class : (t : Bytes) → is_any_ident (text_class t) ≡ true
any_text_class t = text_is is_any_ident true refl refl t (λ n. refl)

eq_same : (a b : ℕ) → a ≡ b → nat_eq a b ≡ true
eq_same a b h = grind (arith, h)

eq_less : (a b : ℕ) → a < b → nat_eq a b ≡ false
eq_less a b h = grind (arith, h)

eq_more : (a b : ℕ) → b < a → nat_eq a b ≡ false
eq_more a b h = grind (arith, h)

less : (a b : ℕ) → a < b → nat_lt a b ≡ true
less a b h = grind (arith, h)

not_less : (a b : ℕ) → b ≤ a → nat_lt a b ≡ false
not_less a b h = grind (arith, h)

-- an entry that is an end or none
abbrev seen_as : Bool → Entry → Seen
seen_as b e = if b then saw_leave else saw_layer e.content (out-TokenTree e.tree.now)

delimiter_bounds : (b : Delimiter) (s : DelimSpan) (c : TokenStream) (n : ℕ) → bounds (class_of (saw_delimiter b s c n)) ≡ f.bounds (saw_delimiter b s c n)
delimiter_bounds d.Parenthesis s c n = refl
delimiter_bounds d.Brace s c n = refl
delimiter_bounds d.Bracket s c n = refl
delimiter_bounds d.None s c n = refl

layer_bounds : (n : ℕ) (x : Layer) → bounds (class_of (saw_layer n x)) ≡ f.bounds (saw_layer n x)
layer_bounds n (o.Ident i) = no_text bounds i.text (λ m. refl) refl refl
layer_bounds n (o.Punct p) = refl
layer_bounds n (o.Literal k) = refl
layer_bounds n (o.Group g) = delimiter_bounds (delimiter_of g) (span_of g) (content_of g) n

pub bounds_classed : (e : Entry) → bounds (class_of (saw e)) ≡ f.bounds (saw e)
bounds_classed e = at (is_end e.class)
  where
    at : (b : Bool) → bounds (class_of (seen_as b e)) ≡ f.bounds (seen_as b e)
    at true = refl
    at false = layer_bounds e.content (out-TokenTree e.tree.now)

-- ---- the class of an entry

layer_end : (x : Layer) → is_end (layer_class x) ≡ false
layer_end (o.Ident i) = no_text is_end i.text (λ n. refl) refl refl
layer_end (o.Punct p) = refl
layer_end (o.Literal k) = refl
layer_end (o.Group g) = refl

pub tree_end : (c : Class) (x : Layer) → c ≡ layer_class x → is_end c ≡ false
tree_end c x h = ap is_end h ∙ layer_end x

delimiter_ends : (b : Delimiter) (s : DelimSpan) (c : TokenStream) (n : ℕ) → f.ends (saw_delimiter b s c n) ≡ false
delimiter_ends d.Parenthesis s c n = refl
delimiter_ends d.Brace s c n = refl
delimiter_ends d.Bracket s c n = refl
delimiter_ends d.None s c n = refl

layer_ends : (n : ℕ) (x : Layer) → f.ends (saw_layer n x) ≡ false
layer_ends n (o.Ident i) = refl
layer_ends n (o.Punct p) = refl
layer_ends n (o.Literal k) = refl
layer_ends n (o.Group g) = delimiter_ends (delimiter_of g) (span_of g) (content_of g) n

pub ends_classed : (e : Entry) → is_end e.class ≡ f.ends (saw e)
ends_classed e = at (is_end e.class)
  where
    at : (b : Bool) → b ≡ f.ends (seen_as b e)
    at true = refl
    at false = sym (layer_ends e.content (out-TokenTree e.tree.now))

pub entry_classed : (e : Entry) → e.class ≡ class_of (saw e)
entry_classed e = e.is ∙ at (is_end e.class)
  where
    at : (b : Bool) → (if b then End else layer_class (out-TokenTree e.tree.now)) ≡ class_of (seen_as b e)
    at true = refl
    at false = sym (layer_classed e.content (out-TokenTree e.tree.now))

-- ---- identifiers

module _ (t : Bytes) where
  ident_weak : (n : ℕ) (ws : List Bytes) → keyword_count ≤ n → is_ident (classed (among (numbered n ws) t) t) ≡ true
  ident_weak n [] h = plain_is is_ident true refl refl t
  ident_weak n (w ∷ ws) h = elim (cases_Bool (bytes_eq t w)) [
    | inl e ↦ ap (λ z. is_ident (classed (if z then Some n else among (numbered (n + 1) ws) t) t)) e ∙ ap not (not_less n keyword_count h)
    | inr e ↦ ap (λ z. is_ident (classed (if z then Some n else among (numbered (n + 1) ws) t) t)) e ∙ ident_weak (n + 1) ws (omega (arith, h))
  ]

  ident_among : (n : ℕ) (ks ws : List Bytes) → n + length ks ≡ keyword_count → is_ident (classed (among (numbered n (ks ++ ws)) t) t) ≡ not (is_one_of ks t)
  ident_among n [] ws h = ident_weak n ws (omega (arith, h))
  ident_among n (k ∷ ks) ws h = elim (cases_Bool (bytes_eq t k)) [
    | inl e ↦
        ap (λ z. is_ident (classed (if z then Some n else among (numbered (n + 1) (ks ++ ws)) t) t)) e ∙ ap not (less n keyword_count (omega (arith, h)))
        ∙ sym (ap (λ z. not (z || is_one_of ks t)) e)
    | inr e ↦
        ap (λ z. is_ident (classed (if z then Some n else among (numbered (n + 1) (ks ++ ws)) t) t)) e ∙ ident_among (n + 1) ks ws (omega (arith, h))
        ∙ sym (ap (λ z. not (z || is_one_of ks t)) e)
  ]

  ident_text : is_ident (text_class t) ≡ reads.is_ident t
  unfolding text_class word_number is_keyword
  ident_text = ident_among 0 keywords weak_keywords refl

pub any_at : (t : Toks) → is_any_ident (class_at t) ≡ word_meets any_text (as_word t)
any_at done = refl
any_at (word i k) = any_text_class i.text
any_at (mark p k) = refl
any_at (lit l k) = refl
any_at (group b s c k) = refl
any_at (enter s k) = refl
any_at (leave k) = refl

pub any_ident_seen : (l : Toks) → is_any_ident (class_at (front l)) ≡ sees_word any_text l
unfolding sees_word
any_ident_seen l = any_at (front l)

ident_at : (t : Toks) → is_ident (class_at t) ≡ word_meets reads.is_ident (as_word t)
ident_at done = refl
ident_at (word i k) = ident_text i.text
ident_at (mark p k) = refl
ident_at (lit l k) = refl
ident_at (group b s c k) = refl
ident_at (enter s k) = refl
ident_at (leave k) = refl

pub ident_seen : (l : Toks) → is_ident (class_at (front l)) ≡ sees_word reads.is_ident l
unfolding sees_word
ident_seen l = ident_at (front l)

pub end_seen : (l : Toks) → is_end (class_at (front l)) ≡ is_done l
unfolding is_done
end_seen done = refl
end_seen (word i k) = no_text is_end i.text (λ n. refl) refl refl
end_seen (mark p k) = refl
end_seen (lit l k) = refl
end_seen (group b s c k) = refl
end_seen (enter s k) = end_seen k
end_seen (leave k) = end_seen k

-- ---- openings

delimiter_invisible : (b : Delimiter) (s : DelimSpan) (c : TokenStream) (n : ℕ) (l : List Seen) →
    is_group (class_of (saw_delimiter b s c n)) d.None ≡ is_there (as_invisible (view (saw_delimiter b s c n ∷ l)))
delimiter_invisible d.Parenthesis s c n l = rw view-group refl
delimiter_invisible d.Brace s c n l = rw view-group refl
delimiter_invisible d.Bracket s c n l = rw view-group refl
delimiter_invisible d.None s c n l = rw view-enter refl

layer_invisible : (n : ℕ) (x : Layer) (l : List Seen) → is_group (class_of (saw_layer n x)) d.None ≡ is_there (as_invisible (view (saw_layer n x ∷ l)))
layer_invisible n (o.Ident i) l = no_text (λ c. is_group c d.None) i.text (λ m. refl) refl refl ∙ sym (ap (λ t. is_there (as_invisible t)) (view-word i l))
layer_invisible n (o.Punct p) l = rw view-mark refl
layer_invisible n (o.Literal k) l = rw view-lit refl
layer_invisible n (o.Group g) l = delimiter_invisible (delimiter_of g) (span_of g) (content_of g) n l

pub invisible_first : (l : List Entry) → is_group (first_class (map saw l)) d.None ≡ is_there (as_invisible (entries_view l))
invisible_first [] = rw view-nil refl
invisible_first (e ∷ l) = at (is_end e.class)
  where
    at : (b : Bool) → is_group (class_of (seen_as b e)) d.None ≡ is_there (as_invisible (view (seen_as b e ∷ map saw l)))
    at true = rw view-leave refl
    at false = layer_invisible e.content (out-TokenTree e.tree.now) (map saw l)

text_opens : (t : Bytes) (b : Delimiter) → text_class t ≡ Open b → ⊥
text_opens t b e = false≢true (sym (ap is_any_ident e) ∙ any_text_class t)

pub opens : (x : Seen) (b : Delimiter) (l : List Item) → class_of x ≡ Open b → Some l ≡ entered (item x ∷ l)
opens (saw_word i) b l e = absurd (text_opens i.text b e)
opens (saw_mark p) b l e = cc
opens (saw_lit k) b l e = cc
opens (saw_group a s c n) b l e = refl
opens (saw_enter s c n) b l e = refl
opens saw_leave b l e = cc

-- ---- reads of a word that is tested for first

module _ (test : Bytes → Bool) (s : Stream) (e : Refusal) where
  pub word_refused : sees_word test s.rest ≡ false → word_if test e (next_word s) ≡ Err e
  unfolding sees_word next_word
  word_refused = at (as_word (front s.rest))
    where
      at : (o : Option (tree.Ident × Toks)) → word_meets test o ≡ false → word_if test e (word_past s o) ≡ Err e
      at None h = refl
      at (Some p) h = ap (λ b. if b then Ok (p.0, past s p.1 p.0.span) else Err e) h

  pub word_taken : (w : tree.Ident) (t : Stream) → sees_word test s.rest ≡ true → next_word s ≡ Some (w, t) → word_if test e (next_word s) ≡ Ok (w, t)
  unfolding sees_word next_word
  word_taken w t = at (as_word (front s.rest))
    where
      at : (o : Option (tree.Ident × Toks)) → word_meets test o ≡ true → word_past s o ≡ Some (w, t) → word_if test e (word_past s o) ≡ Ok (w, t)
      at None h g = cc
      at (Some p) h g =
          let f : ◌≡◌ {A = tree.Ident × Stream} (p.0, past s p.1 p.0.span) (w, t) = cc in
          ap (λ b. if b then Ok (p.0, past s p.1 p.0.span) else Err e) h ∙ ap Ok f

pub mark_refused : (cs : List ℕ) (s : Stream) (e : Refusal) → sees_mark cs s.rest ≡ false → reads.goes_on (λ (m : Spans). m.third) e s (past_mark cs s.rest) ≡ Err e
unfolding sees_mark
mark_refused cs s e = at (past_mark cs s.rest)
  where
    at : (o : Option (Spans × Toks)) → is_some o ≡ false → reads.goes_on (λ (m : Spans). m.third) e s o ≡ Err e
    at None h = refl
    at (Some p) h = cc

pub group_refused : (b : Delimiter) (s : Stream) (e : Refusal) → sees_group b s.rest ≡ false → reads.opened b e s (as_group (front s.rest)) ≡ Err e
unfolding sees_group
group_refused b s e = at (as_group (front s.rest))
  where
    at : (o : Option (Delimiter × DelimSpan × Toks × Toks)) → group_meets b o ≡ false → reads.opened b e s o ≡ Err e
    at None h = refl
    at (Some p) h = ap (λ z. if z then Ok ((p.1, reads.inside s p.1 p.2 p.3), past s p.3 p.1.closing) else Err e) h

pub group_same : (b : Delimiter) (l : Toks) (p : Delimiter × DelimSpan × Toks × Toks) → sees_group b l ≡ true → as_group (front l) ≡ Some p → reads.same_delimiter p.0 b ≡ true
unfolding sees_group
group_same b l p h e = sym (ap (group_meets b) e) ∙ h

-- ---- the word of a number

abbrev apart : Bytes → List Bytes → Bool
apart w [] = true
apart w (x ∷ xs) = not (bytes_eq w x) && apart w xs

abbrev all_apart : List Bytes → Bool
all_apart [] = true
all_apart (w ∷ ws) = apart w ws && all_apart ws

apart_at : (w : Bytes) (ws : List Bytes) (j : ℕ) → j < length ws → apart w ws ≡ true → bytes_eq w (get_or ws j []) ≡ false
apart_at w [] j h a = absurd (omega (arith, h))
apart_at w (x ∷ xs) zero h a = elim (cases_Bool (bytes_eq w x)) [
  | inl e ↦ cc
  | inr e ↦ e
]
apart_at w (x ∷ xs) (suc j) h a = apart_at w xs j (omega (arith, h)) (both_right (not (bytes_eq w x)) (apart w xs) a)

module _ (t : Bytes) where
  above : (k m : ℕ) (ws : List Bytes) → m < k → is_word (classed (among (numbered k ws) t) t) m ≡ false
  above k m [] h = plain_is (λ c. is_word c m) false refl refl t
  above k m (w ∷ ws) h = elim (cases_Bool (bytes_eq t w)) [
    | inl e ↦ ap (λ z. is_word (classed (if z then Some k else among (numbered (k + 1) ws) t) t) m) e ∙ eq_more k m h
    | inr e ↦ ap (λ z. is_word (classed (if z then Some k else among (numbered (k + 1) ws) t) t) m) e ∙ above (k + 1) m ws (omega (arith, h))
  ]

  same_word : (w x : Bytes) → bytes_eq t w ≡ true → bytes_eq w x ≡ false → bytes_eq t x ≡ false
  same_word w x e f = rw ((bytes_eq-Decides t w).0 e) f

  word_among : (m i : ℕ) (ws : List Bytes) → i < length ws → all_apart ws ≡ true → is_word (classed (among (numbered m ws) t) t) (m + i) ≡ bytes_eq t (get_or ws i [])
  word_among m i [] h a = absurd (omega (arith, h))
  word_among m zero (w ∷ ws) h a = elim (cases_Bool (bytes_eq t w)) [
    | inl e ↦ ap (λ z. is_word (classed (if z then Some m else among (numbered (m + 1) ws) t) t) (m + 0)) e ∙ eq_same m (m + 0) (omega arith) ∙ sym e
    | inr e ↦ ap (λ z. is_word (classed (if z then Some m else among (numbered (m + 1) ws) t) t) (m + 0)) e ∙ above (m + 1) (m + 0) ws (omega arith) ∙ sym e
  ]
  word_among m (suc j) (w ∷ ws) h a = elim (cases_Bool (bytes_eq t w)) [
    | inl e ↦
        ap (λ z. is_word (classed (if z then Some m else among (numbered (m + 1) ws) t) t) (m + suc j)) e ∙ eq_less m (m + suc j) (omega arith)
        ∙ sym (same_word w (get_or ws j []) e (apart_at w ws j (omega (arith, h)) (both_left (apart w ws) (all_apart ws) a)))
    | inr e ↦
        ap (λ z. is_word (classed (if z then Some m else among (numbered (m + 1) ws) t) t) (m + suc j)) e
        ∙ ap (λ k. is_word (classed (among (numbered (m + 1) ws) t) t) k) (omega arith)
        ∙ word_among (m + 1) j ws (omega (arith, h)) (both_right (apart w ws) (all_apart ws) a)
  ]

  word_text : (n : ℕ) → n < word_count → is_word (text_class t) n ≡ bytes_eq t (text_of n)
  unfolding text_class word_number
  word_text n h = ap (λ k. is_word (classed (among (numbered 0 words) t) t) k) (omega arith) ∙ word_among 0 n words h refl

word_at : (n : ℕ) (t : Toks) → n < word_count → is_word (class_at t) n ≡ word_meets (is_text (text_of n)) (as_word t)
word_at n done h = refl
word_at n (word i k) h = word_text i.text n h
word_at n (mark p k) h = refl
word_at n (lit l k) h = refl
word_at n (group b s c k) h = refl
word_at n (enter s k) h = refl
word_at n (leave k) h = refl

pub word_seen : (n : ℕ) (l : Toks) → n < word_count → is_word (class_at (front l)) n ≡ sees_word (is_text (text_of n)) l
unfolding sees_word
word_seen n l h = word_at n (front l) h

pub builtin_seen : (l : Toks) → is_word (class_at (front l)) builtin_number ≡ sees_word (is_text reads.builtin_text) l
builtin_seen l = word_seen builtin_number l (omega arith)

-- the named words
pub named_seen : (n : ℕ) (l : Toks) (c : Class) → n < word_count → c ≡ class_at (front l) → is_word c n ≡ sees_word (is_text (text_of n)) l
named_seen n l c h e = ap (λ k. is_word k n) e ∙ word_seen n l h

-- ---- groups

pub group_seen : (b : Delimiter) (l : Toks) → is_group (class_at (front l)) b ≡ sees_group b l
unfolding sees_group
group_seen b done = refl
group_seen b (word i k) = no_text (λ c. is_group c b) i.text (λ n. refl) refl refl
group_seen b (mark p k) = refl
group_seen b (lit l k) = refl
group_seen b (group a s c k) = refl
group_seen b (enter s k) = group_seen b k
group_seen b (leave k) = group_seen b k

-- ---- marks

put_there : (a : Span) (o : Option (Spans × Toks)) → is_some (put_first a o) ≡ is_some o
put_there a None = refl
put_there a (Some p) = refl

module _ (c : ℕ) (cs : List ℕ) (more : (k : Toks) → are_chars cs k ≡ is_some (past_mark cs k)) where
  char_here : (cs : List ℕ) (p : Punct) (k : Toks) (b j : Bool) → ((k : Toks) → are_chars cs k ≡ is_some (past_mark cs k)) →
      (if (if b then (if is_last cs then true else j) else false) then are_chars cs k else false)
      ≡ is_some (if b then (if is_last cs then Some (reads.three p.span p.span p.span, k) else (if j then put_first p.span (past_mark cs k) else None)) else None)
  char_here [] p k true j h = refl
  char_here (x ∷ xs) p k true true h = h k ∙ sym (put_there p.span (past_mark (x ∷ xs) k))
  char_here (x ∷ xs) p k true false h = refl
  char_here cs p k false j h = refl

  char_next : (last : Bool) (p : Punct) (k : Toks) → past_next c last (past_mark cs) (Some (p, k)) ≡ (if p.ch == c then (if last then Some (reads.three p.span p.span p.span, k) else (if is_joint p.spacing then put_first p.span (past_mark cs k) else None)) else None)
  char_next true p k = refl
  char_next false p k = refl

  none : (last : Bool) → false ≡ is_some (past_next c last (past_mark cs) None)
  none true = refl
  none false = refl

  char_at : (t : Toks) → (if is_char (class_at t) c (is_last cs) then are_chars cs (rest_of t) else false) ≡ is_some (past_next c (is_last cs) (past_mark cs) (as_punct t))
  char_at done = none (is_last cs)
  char_at (word i k) = rw (no_text (λ x. is_char x c (is_last cs)) i.text (λ n. refl) refl refl) (none (is_last cs))
  char_at (mark p k) = char_here cs p k (p.ch == c) (is_joint p.spacing) more ∙ sym (ap is_some (char_next (is_last cs) p k))
  char_at (lit l k) = none (is_last cs)
  char_at (group b s x k) = none (is_last cs)
  char_at (enter s k) = none (is_last cs)
  char_at (leave k) = none (is_last cs)

chars_past : (cs : List ℕ) (l : Toks) → are_chars cs l ≡ is_some (past_mark cs l)
chars_past [] l = refl
chars_past (c ∷ cs) l = char_at c cs (chars_past cs) (front l)

pub mark_seen : (cs : List ℕ) (l : Toks) → are_chars cs l ≡ sees_mark cs l
unfolding sees_mark
mark_seen cs l = chars_past cs l

-- ---- lifetimes

with_there : (a : Span) (t : Toks) → is_any_ident (class_at t) ≡ is_some (with_ident a (as_word t))
with_there a done = refl
with_there a (word i k) = any_text_class i.text
with_there a (mark p k) = refl
with_there a (lit l k) = refl
with_there a (group b s c k) = refl
with_there a (enter s k) = refl
with_there a (leave k) = refl

quote_here : (p : Punct) (k : Toks) (b j : Bool) → (if (if b then j else false) then is_any_ident (class_at (front k)) else false) ≡ is_some (if b then (if j then with_ident p.span (as_word (front k)) else None) else None)
quote_here p k true true = with_there p.span (front k)
quote_here p k true false = refl
quote_here p k false j = refl

lifetime_at : (t : Toks) → (if is_quote (class_at t) then is_any_ident (class_at (front (rest_of t))) else false) ≡ is_some (with_quote (as_punct t))
lifetime_at done = refl
lifetime_at (word i k) = rw (no_text is_quote i.text (λ n. refl) refl refl) refl
lifetime_at (mark p k) = quote_here p k (p.ch == 39) (is_joint p.spacing)
lifetime_at (lit l k) = refl
lifetime_at (group b s c k) = refl
lifetime_at (enter s k) = refl
lifetime_at (leave k) = refl

pub lifetime_seen : (l : Toks) → is_lifetime l ≡ sees_lifetime l
unfolding sees_lifetime
lifetime_seen l = lifetime_at (front l)

-- ---- what follows the first tree

after_quoted : (k : Toks) (t : Toks) → (if is_any_ident (class_at t) then rest_of t else k) ≡ reads.after_quote k (as_word t)
after_quoted k done = refl
after_quoted k (word i r) = rw (any_text_class i.text) refl
after_quoted k (mark p r) = refl
after_quoted k (lit l r) = refl
after_quoted k (group b s c r) = refl
after_quoted k (enter s r) = refl
after_quoted k (leave r) = refl

after_here : (k : Toks) (b j : Bool) → (if (if b then j else false) then (if is_any_ident (class_at (front k)) then rest_of (front k) else k) else k) ≡ (if b then (if j then reads.after_quote k (as_word (front k)) else k) else k)
after_here k true true = after_quoted k (front k)
after_here k true false = refl
after_here k false j = refl

after_text : (t : Bytes) (k : Toks) → after_class (text_class t) k ≡ Some k
unfolding text_class
after_text t k = at (word_number t)
  where
    plain : (z : Bool) → after_class (if z then Raw else Ident) k ≡ Some k
    plain true = refl
    plain false = refl

    at : (o : Option ℕ) → after_class (classed o t) k ≡ Some k
    at (Some n) = refl
    at None = plain (is_raw t)

pub one_seen : (l : Toks) → after_class (class_at (front l)) (rest_of (front l)) ≡ after_one l
unfolding after_one
one_seen done = refl
one_seen (word i k) = after_text i.text k
one_seen (mark p k) = ap Some (after_here k (p.ch == 39) (is_joint p.spacing))
one_seen (lit l k) = refl
one_seen (group b s c k) = refl
one_seen (enter s k) = one_seen k
one_seen (leave k) = one_seen k

-- ---- literals

kind_some : {X : Type 0} (a : X) (b : Bool) → b ≡ is_some (if b then Some a else None)
kind_some a true = refl
kind_some a false = refl

str_at : (t : Toks) → kind_meets lits.is_str (literal_kind (class_at t)) ≡ is_some (lits.str_of (as_lit t))
str_at done = refl
str_at (word i k) = no_text (λ c. kind_meets lits.is_str (literal_kind c)) i.text (λ n. refl) refl refl
str_at (mark p k) = refl
str_at (lit l k) = kind_some (lits.lit_str l.text l.span, k) (lits.is_str l.kind)
str_at (group b s c k) = refl
str_at (enter s k) = refl
str_at (leave k) = refl

pub str_seen : (l : Toks) → kind_meets lits.is_str (literal_kind (class_at (front l))) ≡ lits.sees_str l
unfolding lits.sees_str
str_seen l = str_at (front l)

int_at : (t : Toks) → kind_meets is_int (literal_kind (class_at t)) ≡ int_meets (as_lit t)
int_at done = refl
int_at (word i k) = no_text (λ c. kind_meets is_int (literal_kind c)) i.text (λ n. refl) refl refl
int_at (mark p k) = refl
int_at (lit l k) = refl
int_at (group b s c k) = refl
int_at (enter s k) = refl
int_at (leave k) = refl

pub int_seen : (l : Toks) → kind_meets is_int (literal_kind (class_at (front l))) ≡ sees_int l
unfolding sees_int
int_seen l = int_at (front l)

number_at : (m : Span) (t : Toks) → kind_meets lits.is_number (literal_kind (class_at t)) ≡ is_some (lits.past_number m (as_lit t))
number_at m done = refl
number_at m (word i k) = no_text (λ c. kind_meets lits.is_number (literal_kind c)) i.text (λ n. refl) refl refl
number_at m (mark p k) = refl
number_at m (lit l k) = kind_some (variant.Negative (lits.negative m l), k) (lits.is_number l.kind)
number_at m (group b s c k) = refl
number_at m (enter s k) = refl
number_at m (leave k) = refl

minus_here : (p : Punct) (k : Toks) (b : Bool) → (if b then kind_meets lits.is_number (literal_kind (class_at (front k))) else false) ≡ is_some (if b then lits.past_number p.span (as_lit (front k)) else None)
minus_here p k true = number_at p.span (front k)
minus_here p k false = refl

lit_classed : (t : Bytes) (k : Toks) → is_lit_at (text_class t) k ≡ (is_word (text_class t) true_number || is_word (text_class t) false_number)
unfolding text_class
lit_classed t k = at (word_number t)
  where
    plain : (z : Bool) → is_lit_at (if z then Raw else Ident) k ≡ (is_word (if z then Raw else Ident) true_number || is_word (if z then Raw else Ident) false_number)
    plain true = refl
    plain false = refl

    at : (o : Option ℕ) → is_lit_at (classed o t) k ≡ (is_word (classed o t) true_number || is_word (classed o t) false_number)
    at (Some n) = refl
    at None = plain (is_raw t)

bool_here : {X : Type 0} (x y : X) (a b : Bool) → (a || b) ≡ is_some (if a then Some x else (if b then Some y else None))
bool_here x y true b = refl
bool_here x y false true = refl
bool_here x y false false = refl

lit_here : (t : Toks) → is_lit_at (class_at t) (rest_of t) ≡ is_some (lits.lit_at t)
lit_here done = refl
lit_here (word i k) =
    lit_classed i.text k ∙ ap₂ (λ a b. a || b) (word_text i.text true_number (omega arith)) (word_text i.text false_number (omega arith))
    ∙ bool_here (variant.Bool (lits.lit_bool true i.span), k) (variant.Bool (lits.lit_bool false i.span), k) (bytes_eq i.text lits.true_text) (bytes_eq i.text lits.false_text)
lit_here (mark p k) = minus_here p k (p.ch == 45)
lit_here (lit l k) = refl
lit_here (group b s c k) = refl
lit_here (enter s k) = refl
lit_here (leave k) = refl

pub lit_seen : (l : Toks) → is_lit l ≡ lits.sees_lit l
unfolding lits.sees_lit
lit_seen l = lit_here (front l)

-- ---- the first entry and what follows its tree

settled_enter : (s : DelimSpan) (k t : Toks) → enter s k ≡ front t → ⊥
settled_enter s k t e =
    let f : done ≡ front t = ap settled e ∙ settled-front t in
    cc

pub after_seen : (l : List Seen) (t : Toks) → view l ≡ front t → view (after_first l) ≡ rest_of (front t)
after_seen [] t e = view-nil ∙ ap rest_of (sym view-nil ∙ e)
after_seen (saw_word i ∷ l) t e = ap rest_of (sym (view-word i l) ∙ e)
after_seen (saw_mark p ∷ l) t e = ap rest_of (sym (view-mark p l) ∙ e)
after_seen (saw_lit k ∷ l) t e = ap rest_of (sym (view-lit k l) ∙ e)
after_seen (saw_group b s c n ∷ l) t e = ap rest_of (sym (view-group b s c n l) ∙ e)
after_seen (saw_enter s c n ∷ l) t e = absurd (settled_enter s (view l) t (sym (view-enter s c n l) ∙ e))
after_seen (saw_leave ∷ l) t e = ap rest_of (sym (view-leave l) ∙ e)

pub nested_after : (l : List Seen) → Nested l → Nested (after_first l)
nested_after [] h = tt
nested_after (saw_word i ∷ l) h = h
nested_after (saw_mark p ∷ l) h = h
nested_after (saw_lit k ∷ l) h = h
nested_after (saw_group b s c n ∷ l) h = nested_from l (n + 1) h.1
nested_after (saw_enter s c n ∷ l) h = nested_from l (n + 1) h.1
nested_after (saw_leave ∷ l) h = h

delimiter_after : (b : Delimiter) (s : DelimSpan) (c : TokenStream) (n : ℕ) (l : List Seen) → drop (n + 1) l ≡ after_first (saw_delimiter b s c n ∷ l)
delimiter_after d.Parenthesis s c n l = refl
delimiter_after d.Brace s c n l = refl
delimiter_after d.Bracket s c n l = refl
delimiter_after d.None s c n l = refl

tree_after : (n : ℕ) (x : Layer) (l : List Entry) → map saw (sees.past (layer_class x) n l) ≡ after_first (saw_layer n x ∷ map saw l)
tree_after n (o.Ident i) l = ap (map saw) (text_is (λ c. sees.past c n l) l refl refl i.text (λ m. refl))
tree_after n (o.Punct p) l = refl
tree_after n (o.Literal k) l = refl
tree_after n (o.Group g) l = sym (drop-map saw (n + 1) l) ∙ delimiter_after (delimiter_of g) (span_of g) (content_of g) n (map saw l)

pub entry_after : (e : Entry) (l : List Entry) → map saw (sees.past e.class e.content l) ≡ after_first (saw e ∷ map saw l)
entry_after e l = ap (λ c. map saw (sees.past c e.content l)) e.is ∙ at (is_end e.class)
  where
    at : (b : Bool) → map saw (sees.past (if b then End else layer_class (out-TokenTree e.tree.now)) e.content l) ≡ after_first (seen_as b e ∷ map saw l)
    at true = refl
    at false = tree_after e.content (out-TokenTree e.tree.now) l
