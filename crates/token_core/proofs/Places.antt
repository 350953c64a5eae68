-- Positions: the tree that stands there, what is left of the buffer, and their order.
use Rattle.std.proofs.Common.{◌≡◌, ◌⊎◌, inl, inr, ℕ, suc, ◌+◌, ◌-◌, ◌<◌, ◌≤◌, true, false, Some, List, [], ◌∷◌, ◌++◌, map, length, take, drop, refl, sym, ◌∙◌, ap, subst, append_assoc, append-nil, arith}
use Rattle.std.proofs.lemmas.Bool.{ltb-true, ltb-false}
use Rattle.std.proofs.lemmas.List.{length-append, drop-map, take_rest}
use Rattle.token_core.specs.declared.tree.Delimiter.{Delimiter}
use Rattle.token_core.specs.declared.tree.Delimiter.TheVariants as d
use Rattle.token_core.specs.declared.span.DelimSpan.{DelimSpan}
use Rattle.token_core.specs.declared.tree.TokenTree.{TokenTree, out-TokenTree}
use Rattle.token_core.specs.declared.tree.TokenTree.TheOpen as o
use Rattle.token_core.specs.declared.tree.TokenTree.TheVariants as t
use Rattle.token_core.specs.declared.tree.TokenTree.TheVariants.{outs-Group}
use Rattle.token_core.specs.declared.tree.Group.{Group}
use Rattle.token_core.specs.declared.class.Entry.{Entry}
use Rattle.token_core.specs.Toks.{Toks, done, word, mark, lit, group, enter, leave}
use Rattle.token_core.specs.Trees.{TokenStream, delimiter_of, span_of, content_of}
use Rattle.token_core.specs.Seen.{view, saw_delimiter, view-enter}
use Rattle.token_core.specs.Entries.{Flat, saw, saw_layer, entries_view, Nested, Inside}
use Rattle.token_core.specs.Front.{front, past_ends}
use Rattle.token_core.specs.Stream.{Stream}
use Rattle.token_core.specs.Loops.{size}
use Rattle.token_core.specs.Reads.{IsSuffix, all_of, past_word, past_punct, past_lit, past_group, past_enter, past_leave, Follows, as_group}
use Rattle.token_core.specs.Positions.{Item, an_ident, a_punct, a_literal, a_beginning, an_end, items, item, tree_items, entries_items, entered, left, is_before, IsReached, there, past, Holds, Placed}
use Rattle.token_core.proofs.Fronts.{nested_tail, nested_drop}
use Rattle.token_core.proofs.Positions.{a_group_items, items_seen, parts_seen, group_seen, item_group}

-- ---- the tree that stands there

pub none_left : (l : List Entry) (x : List Item) → entries_items l ≡ x → length l ≡ 0 → x ≡ []
none_left [] x e h = sym e
none_left (y ∷ l) x e h = absurd (omega (arith, h))

insides : (b : Delimiter) (p : DelimSpan) (c : TokenStream) (n : ℕ) (l : Flat) → Nested (saw_delimiter b p c n ∷ l) → Inside c n l × Nested l
insides d.Parenthesis p c n l h = h
insides d.Brace p c n l h = h
insides d.Bracket p c n l h = h
insides d.None p c n l h = h

module _ (x : TokenTree) (g : Group) (n : ℕ) (more after : List Entry) (e : x ≡ t.Group g) (h : Nested (saw_layer n (out-TokenTree x) ∷ map saw more)) (a : after ≡ drop (n + 1) more) where
  opened : out-TokenTree x ≡ o.Group g
  opened = ap out-TokenTree e ∙ outs-Group g

  -- a group stands there, and these entries follow it
  pub tree_past : item (saw_layer n (out-TokenTree x)) ∷ entries_items more ≡ tree_items x ++ entries_items after
  tree_past =
      let i = insides (delimiter_of g) (span_of g) (content_of g) n (map saw more) (subst (λ y. Nested (saw_layer n y ∷ map saw more)) opened h) in
      ap (λ y. item (saw_layer n y) ∷ entries_items more) opened ∙ ap (λ y. y ∷ entries_items more) (item_group (delimiter_of g) (span_of g) (content_of g) n)
      ∙ group_seen (content_of g) n (map saw more) i.0 i.1 (delimiter_of g) (span_of g)
      ∙ ap (λ y. y ++ map item (drop (n + 1) (map saw more))) (sym (a_group_items g) ∙ ap tree_items (sym e))
      ∙ ap (λ l. tree_items x ++ map item l) (drop-map saw (n + 1) more ∙ ap (map saw) (sym a))

  pub nested_past : Nested (map saw after)
  nested_past = subst (λ l. Nested (map saw l)) (sym a) (nested_drop more (n + 1) (nested_tail (saw_layer n (out-TokenTree x)) (map saw more) h))

-- ---- a group that is left in a scope

later : (x : Item) (t k c m : Toks) → items t ≡ x ∷ items k → Holds k c m → Holds t c m
later x t k c m e h = record { before = x ∷ h.before; begun = omega arith; is = e ∙ ap (λ z. x ∷ z) h.is }

pub holds_group : (t : Toks) (p : Delimiter × DelimSpan × Toks × Toks) → as_group (front t) ≡ Some p → Holds t p.2 p.3
holds_group done p e = cc
holds_group (word v r) p e = cc
holds_group (mark c r) p e = cc
holds_group (lit v r) p e = cc
holds_group (group g z y r) p e =
    let f : ◌≡◌ {A = Delimiter × DelimSpan × Toks × Toks} (g, z, y, r) p = cc in
    subst (λ (q : Delimiter × DelimSpan × Toks × Toks). Holds (group g z y r) q.2 q.3) f (record { before = a_beginning g z ∷ []; begun = omega arith; is = refl })
holds_group (enter s r) p e = later (a_beginning d.None s) (enter s r) r p.2 p.3 refl (holds_group r p e)
holds_group (leave r) p e = later an_end (leave r) r p.2 p.3 refl (holds_group r p e)

pub holds_outside : (t c m : Toks) → Holds (past_ends t) c m → Holds t c m
holds_outside done c m h = h
holds_outside (word v r) c m h = h
holds_outside (mark v r) c m h = h
holds_outside (lit v r) c m h = h
holds_outside (group g z y r) c m h = h
holds_outside (enter s r) c m h = h
holds_outside (leave r) c m h = later an_end (leave r) r c m refl (holds_outside r c m h)

module _ (p : DelimSpan) (c : TokenStream) (n : ℕ) where
  pub holds_invisible : (b : Delimiter) (l : Flat) (x y : Toks) → b ≡ d.None → x ≡ view (take n l) → y ≡ view (drop (n + 1) l) → Nested (saw_delimiter b p c n ∷ l) → Holds (view (saw_delimiter b p c n ∷ l)) x y
  holds_invisible d.None l x y e f g h =
      record {
        before = a_beginning d.None p ∷ [];
        begun = omega arith;
        is = ap items (view-enter p c n l) ∙ ap (λ z. a_beginning d.None p ∷ z)
            (parts_seen c n l h.0 h.1 ∙ ap (λ z. items z ++ an_end ∷ items (view (drop (n + 1) l))) (sym f) ∙ ap (λ z. items x ++ an_end ∷ items z) (sym g));
      }
  holds_invisible d.Parenthesis l x y e f g h = cc
  holds_invisible d.Brace l x y e f g h = cc
  holds_invisible d.Bracket l x y e f g h = cc

-- ---- further on in a scope

pub record Ends (l : List Item) (m : List Item) : Type 0 where
  pub before : List Item
  pub is : m ≡ before ++ l

after_more : (x : Item) (l m : List Item) → Ends l m → Ends l (x ∷ m)
after_more x l m h = record { before = x ∷ h.before; is = ap (λ z. x ∷ z) h.is }

-- a suffix of tokens has the last of their items
pub suffix_ends : (r t : Toks) → IsSuffix r t → Ends (items r) (items t)
suffix_ends r t all_of = record { before = []; is = refl }
suffix_ends r t (past_word {k = k} i p) = after_more (an_ident i) (items r) (items k) (suffix_ends r k p)
suffix_ends r t (past_punct {k = k} i p) = after_more (a_punct i) (items r) (items k) (suffix_ends r k p)
suffix_ends r t (past_lit {k = k} i p) = after_more (a_literal i) (items r) (items k) (suffix_ends r k p)
suffix_ends r t (past_group {k = k} b s c p) =
    let h = suffix_ends r k p in
    record {
      before = a_beginning b s ∷ (items c ++ an_end ∷ h.before);
      is = ap (λ z. a_beginning b s ∷ (items c ++ an_end ∷ z)) h.is ∙ ap (λ z. a_beginning b s ∷ z) (sym (append_assoc (items c) (an_end ∷ h.before) (items r)));
    }
suffix_ends r t (past_enter {k = k} s p) = after_more (a_beginning d.None s) (items r) (items k) (suffix_ends r k p)
suffix_ends r t (past_leave {k = k} p) = after_more an_end (items r) (items k) (suffix_ends r k p)

drop_front : (xs ys : List Item) → drop (length xs) (xs ++ ys) ≡ ys
drop_front [] ys = refl
drop_front (x ∷ xs) ys = drop_front xs ys

-- what is left of the buffer there
module _ (l m : List Item) where
  pub ends_shorter : Ends l m → length l ≤ length m
  ends_shorter h = omega (arith, ap length h.is, length-append h.before l)

  ends_left : (after : List Item) (h : Ends l m) (n : ℕ) (whole : List Item) → whole ≡ m ++ after → n + length l ≡ length m → drop n whole ≡ l ++ after
  ends_left after h n whole e f =
      let k : n ≡ length h.before = omega (arith, f, ap length h.is, length-append h.before l) in
      ap (drop n) (e ∙ ap (λ z. z ++ after) h.is ∙ append_assoc h.before l after) ∙ ap (λ i. drop i (h.before ++ (l ++ after))) k ∙ drop_front h.before (l ++ after)

drop_scope : (l after : List Item) → drop (length l) (l ++ after) ≡ after
drop_scope l after = drop_front l after

-- a place in a scope, with what follows the scope
abbrev pub placed : Toks → List Item → Placed
placed r a = record { rest = r; after = a }

-- the entries from a place in a scope on, to the end of the buffer
pub record Stands (l : List Entry) (place : Toks) (after : List Item) : Type 0 where
  pub nested : Nested (map saw l)
  pub is : entries_items l ≡ items place ++ drop (length (items place)) (entries_items l)
  pub after_is : drop (length (items place)) (entries_items l) ≡ after

stands : (l : List Entry) (x : Toks) (after : List Item) → Nested (map saw l) → entries_items l ≡ items x ++ after → Stands l x after
stands l x after h e =
    let d : drop (length (items x)) (entries_items l) ≡ after = ap (drop (length (items x))) e ∙ drop_scope (items x) after in
    record { nested = h; is = e ∙ ap (λ z. items x ++ z) (sym d); after_is = d }

pub stands_first : (l : List Entry) (x : Toks) → Nested (map saw l) → entries_view l ≡ x → Stands l x []
stands_first l x h e = stands l x [] h (items_seen l x h e ∙ sym (append-nil (items x)))

-- further on, where these items are left
pub stands_on : (whole : List Entry) (m l after : List Item) (x : Toks) (more : List Item) (n : ℕ) → Nested (map saw whole) → entries_items whole ≡ m ++ after → Ends l m →
    n ≡ length m - length l → l ++ after ≡ items x ++ more → Stands (take (length whole - n) (drop n whole)) x more
stands_on whole m l after x more n i e h f q =
    let s = ends_shorter l m h in
    let t = take_rest whole n in
    let d : entries_items (drop n whole) ≡ drop n (entries_items whole) = ap (map item) (sym (drop-map saw n whole)) ∙ sym (drop-map item n (map saw whole)) in
    subst (λ z. Stands z x more) (sym t) (stands (drop n whole) x more (nested_drop whole n i) (d ∙ ends_left l m after h n (entries_items whole) e (omega (arith, f, s)) ∙ q))

-- ---- the order of positions

pub reached_shorter : (a w : List Item) → IsReached a w → length a ≤ length w
reached_shorter a w there = omega arith
reached_shorter a w (past {l = l} x p) = let h = reached_shorter a l p in omega (arith, h)

pub reached_trans : (a b c : List Item) → IsReached a b → IsReached b c → IsReached a c
reached_trans a b c p there = p
reached_trans a b c p (past {l = l} x q) = past x (reached_trans a b l p q)

pub reached_after : (xs l : List Item) → IsReached l (xs ++ l)
reached_after [] l = there
reached_after (x ∷ xs) l = past x (reached_after xs l)

same_length : (a w : List Item) → IsReached a w → length w ≤ length a → IsReached w a
same_length a w there h = there
same_length a w (past {l = l} x p) h = let k = reached_shorter a l p in absurd (omega (arith, h, k))

-- of two positions of one buffer, the one where less is left is reached from the other
pub reached_of : (a b w : List Item) → IsReached a w → IsReached b w → length a ≤ length b → IsReached a b
reached_of a b w there q h = same_length b w q h
reached_of a b w (past {l = l} x p) there h = past x p
reached_of a b w (past {l = l} x p) (past y q) h = reached_of a b l p q h

-- fewer tokens are left, and fewer items
pub record Fewer (a b : Toks) : Type 0 where
  pub tokens : size a < size b
  pub counts : length (items a) < length (items b)

-- a later place of a scope is the same one, or less is left there
abbrev pub Later : Toks → Toks → Type 0
Later a b = (a ≡ b) ⊎ Fewer a b

fewer_on : (a k t : Toks) → size t ≡ suc (size k) → length (items k) < length (items t) → Later a k → Later a t
fewer_on a k t e f (inl h) = inr (record { tokens = omega (arith, e, ap size h); counts = omega (arith, f, ap (λ z. length (items z)) h) })
fewer_on a k t e f (inr h) = inr (record { tokens = omega (arith, e, h.tokens); counts = omega (arith, f, h.counts) })

pub later_place : (a b : Toks) → IsSuffix a b → Later a b
later_place a b all_of = inl refl
later_place a b (past_word {k = k} t p) = fewer_on a k b refl (omega arith) (later_place a k p)
later_place a b (past_punct {k = k} m p) = fewer_on a k b refl (omega arith) (later_place a k p)
later_place a b (past_lit {k = k} x p) = fewer_on a k b refl (omega arith) (later_place a k p)
later_place a b (past_group {k = k} d x c p) = fewer_on a k b refl (omega (arith, length-append (items c) (an_end ∷ items k))) (later_place a k p)
later_place a b (past_enter {k = k} x p) = fewer_on a k b refl (omega arith) (later_place a k p)
later_place a b (past_leave {k = k} p) = fewer_on a k b refl (omega arith) (later_place a k p)

-- a stream stands where it stood, or goes on
-- what is left of the whole buffer where a stream stands
abbrev pub Place : Stream → List Item
Place x = items x.rest ++ x.scope.after

module _ (s u : Stream) (f : Follows s u) where
  place_length : (x : Stream) → length (Place x) ≡ length (items x.rest) + length x.scope.after
  place_length x = length-append (items x.rest) x.scope.after

  after_length : length u.scope.after ≡ length s.scope.after
  after_length = ap (λ z. length z.after) f.scope

  pub moved : is_before (Place s) (Place u) ≡ true → u.rest ≡ s.rest → ⊥
  moved h e = let n : length (items u.rest) ≡ length (items s.rest) = ap (λ z. length (items z)) e in let m = ltb-true (length (Place u)) (length (Place s)) h in
      omega (arith, m, n, place_length u, place_length s, after_length)

  pub stayed : is_before (Place s) (Place u) ≡ false → u.rest ≡ s.rest
  stayed h = by_order (later_place u.rest s.rest f.suffix)
    where
      by_order : Later u.rest s.rest → u.rest ≡ s.rest
      by_order (inl e) = e
      by_order (inr l) = let m = ltb-false (length (Place u)) (length (Place s)) h in let n = l.counts in absurd (omega (arith, m, n, place_length u, place_length s, after_length))

  pub moved_on : is_before (Place s) (Place u) ≡ true → size u.rest < size s.rest
  moved_on h = by_order (later_place u.rest s.rest f.suffix)
    where
      by_order : Later u.rest s.rest → size u.rest < size s.rest
      by_order (inl e) = absurd (moved h e)
      by_order (inr l) = l.tokens

-- a stream's later position is reached from its earlier one
pub reached_follows : (s u : Stream) → Follows s u → IsReached (items u.rest ++ u.scope.after) (items s.rest ++ s.scope.after)
reached_follows s u f =
    let h = suffix_ends u.rest s.rest f.suffix in
    subst (λ z. IsReached (items u.rest ++ z) (items s.rest ++ s.scope.after)) (ap (λ z. z.after) (sym f.scope))
    (subst (λ z. IsReached (items u.rest ++ s.scope.after) z) (sym (append_assoc h.before (items u.rest) s.scope.after) ∙ ap (λ z. z ++ s.scope.after) (sym h.is))
    (reached_after h.before (items u.rest ++ s.scope.after)))

-- after the ends of invisible groups a later position stands
pub reached_outside : (r : Toks) (after from : List Item) → IsReached (items r ++ after) from → IsReached (items (past_ends r) ++ after) from
reached_outside done after from p = p
reached_outside (word i k) after from p = p
reached_outside (mark m k) after from p = p
reached_outside (lit l k) after from p = p
reached_outside (group d s c k) after from p = p
reached_outside (enter s k) after from p = p
reached_outside (leave k) after from p = reached_outside k after from (reached_trans (items k ++ after) (an_end ∷ (items k ++ after)) from (past an_end there) p)

-- ---- each move goes forward

pub reached_tree : (x : TokenTree) (v r : List Item) → v ≡ tree_items x ++ r → IsReached r v
reached_tree x v r e = subst (λ z. IsReached r z) (sym e) (reached_after (tree_items x) r)

pub reached_entered : (v r : List Item) → Some r ≡ entered v → IsReached r v
reached_entered [] r e = cc
reached_entered (an_ident i ∷ l) r e = cc
reached_entered (a_punct p ∷ l) r e = cc
reached_entered (a_literal k ∷ l) r e = cc
reached_entered (a_beginning b s ∷ l) r e = let f : r ≡ l = cc in subst (λ z. IsReached z (a_beginning b s ∷ l)) (sym f) (past (a_beginning b s) there)
reached_entered (an_end ∷ l) r e = cc

pub reached_left : (v r : List Item) → Some r ≡ left v → IsReached r v
reached_left [] r e = cc
reached_left (an_ident i ∷ l) r e = cc
reached_left (a_punct p ∷ l) r e = cc
reached_left (a_literal k ∷ l) r e = cc
reached_left (a_beginning b s ∷ l) r e = cc
reached_left (an_end ∷ l) r e = let f : r ≡ l = cc in subst (λ z. IsReached z (an_end ∷ l)) (sym f) (past an_end there)

pub ruleset positions = (reached_tree, reached_entered, reached_left, reached_trans, reached_follows, there)
