-- Entries at a place of a buffer, and the tokens that they show.
use Rattle.std.proofs.Common.{◌≡◌, ℕ, zero, suc, ◌+◌, ◌<◌, ◌≤◌, true, false, List, [], ◌∷◌, ◌++◌, map, length, get_or, take, drop, sym, ◌∙◌, ap, refl, subst}
use Rattle.std.proofs.lemmas.List.{drop_more, take-map, drop-map}
use Rattle.std.proofs.Math.ListN.{drop_of_length-le}
use Rattle.token_core.specs.declared.class.Entry.{Entry}
use Rattle.token_core.specs.declared.tree.Delimiter.{Delimiter}
use Rattle.token_core.specs.declared.tree.Delimiter.TheVariants.{Parenthesis, Brace, Bracket, None}
use Rattle.token_core.specs.declared.span.DelimSpan.{DelimSpan}
use Rattle.token_core.specs.Trees.{TokenStream}
use Rattle.token_core.specs.Toks.{Toks, done, word, mark, lit, group, enter, leave}
use Rattle.token_core.specs.Seen.{Seen, view, saw_word, saw_mark, saw_lit, saw_group, saw_enter, saw_leave, saw_delimiter, view-nil, view-word, view-mark, view-lit, view-group, view-enter, view-leave}
use Rattle.token_core.specs.Entries.{saw, entries_view, Nested, Inside, flat_stream}
use Rattle.token_core.proofs.Flats.{nested_flat, take_whole}
use Rattle.token_core.specs.Front.{front, past_ends, bounds, is_bound, ends, is_end, settled}

pub at-drop : {X : Type 0} (xs : List X) (i : ℕ) (x : X) → i < length xs → x ≡ get_or xs i x → drop i xs ≡ x ∷ drop (i + 1) xs
at-drop xs i x h e = drop_more xs i x h ∙ ap (λ y. y ∷ drop (i + 1) xs) (sym e)

bound_step : (s : Seen) (r : List Seen) → bounds s ≡ true → front (view (s ∷ r)) ≡ front (view r)
bound_step (saw_enter p c n) r b = ap front (view-enter p c n r)
bound_step saw_leave r b = ap front (view-leave r)
bound_step (saw_word t) r b = cc
bound_step (saw_mark p) r b = cc
bound_step (saw_lit k) r b = cc
bound_step (saw_group d s c n) r b = cc

pub past_bound : (l : List Entry) (i : ℕ) (e : Entry) → i < length l → e ≡ get_or l i e → is_bound e ≡ true →
    front (entries_view (drop (i + 1) l)) ≡ front (entries_view (drop i l))
past_bound l i e h at b = sym (ap (λ xs. front (entries_view xs)) (at-drop l i e h at) ∙ bound_step (saw e) (map saw (drop (i + 1) l)) b)

no_bound : (s : Seen) (r : List Seen) → bounds s ≡ false → view (s ∷ r) ≡ front (view (s ∷ r))
no_bound (saw_enter p c n) r b = cc
no_bound saw_leave r b = cc
no_bound (saw_word t) r b = rw view-word refl
no_bound (saw_mark p) r b = rw view-mark refl
no_bound (saw_lit k) r b = rw view-lit refl
no_bound (saw_group d s c n) r b = rw view-group refl

pub settled_at : (l : List Entry) (i : ℕ) (e : Entry) → i < length l → e ≡ get_or l i e → is_bound e ≡ false →
    entries_view (drop i l) ≡ front (entries_view (drop i l))
settled_at l i e h at b = rw (at-drop l i e h at) (no_bound (saw e) (map saw (drop (i + 1) l)) b)

pub settled_end : (l : List Entry) (i : ℕ) → length l ≤ i → entries_view (drop i l) ≡ front (entries_view (drop i l))
settled_end l i h = rw (drop_of_length-le l h, view-nil) refl

end_step : (s : Seen) (r : List Seen) → ends s ≡ true → past_ends (view (s ∷ r)) ≡ past_ends (view r)
end_step (saw_enter p c n) r b = cc
end_step saw_leave r b = ap past_ends (view-leave r)
end_step (saw_word t) r b = cc
end_step (saw_mark p) r b = cc
end_step (saw_lit k) r b = cc
end_step (saw_group d s c n) r b = cc

pub past_end : (l : List Entry) (i : ℕ) (e : Entry) → i < length l → e ≡ get_or l i e → is_end e ≡ true →
    past_ends (entries_view (drop (i + 1) l)) ≡ past_ends (entries_view (drop i l))
past_end l i e h at b = sym (ap (λ xs. past_ends (entries_view xs)) (at-drop l i e h at) ∙ end_step (saw e) (map saw (drop (i + 1) l)) b)

no_end : (s : Seen) (r : List Seen) → ends s ≡ false → view (s ∷ r) ≡ past_ends (view (s ∷ r))
no_end (saw_enter p c n) r b = rw view-enter refl
no_end saw_leave r b = cc
no_end (saw_word t) r b = rw view-word refl
no_end (saw_mark p) r b = rw view-mark refl
no_end (saw_lit k) r b = rw view-lit refl
no_end (saw_group d s c n) r b = rw view-group refl

pub left_at : (l : List Entry) (i : ℕ) (e : Entry) → i < length l → e ≡ get_or l i e → is_end e ≡ false →
    entries_view (drop i l) ≡ past_ends (entries_view (drop i l))
left_at l i e h at b = rw (at-drop l i e h at) (no_end (saw e) (map saw (drop (i + 1) l)) b)

pub left_end : (l : List Entry) (i : ℕ) → length l ≤ i → entries_view (drop i l) ≡ past_ends (entries_view (drop i l))
left_end l i h = rw (drop_of_length-le l h, view-nil) refl

-- ---- what follows is nested too

pub nested_tail : (s : Seen) (l : List Seen) → Nested (s ∷ l) → Nested l
nested_tail (saw_word t) l h = h
nested_tail (saw_mark p) l h = h
nested_tail (saw_lit k) l h = h
nested_tail (saw_group d s c n) l h = h.1
nested_tail (saw_enter s c n) l h = h.1
nested_tail saw_leave l h = h

pub nested_from : (l : List Seen) (i : ℕ) → Nested l → Nested (drop i l)
nested_from l zero h = h
nested_from [] (suc i) h = tt
nested_from (s ∷ l) (suc i) h = nested_from l i (nested_tail s l h)

pub nested_drop : (l : List Entry) (i : ℕ) → Nested (map saw l) → Nested (map saw (drop i l))
nested_drop l i h = subst Nested (drop-map saw i l) (nested_from (map saw l) i h)

pub settled-front : (t : Toks) → settled (front t) ≡ front t
settled-front done = refl
settled-front (word t k) = refl
settled-front (mark p k) = refl
settled-front (lit l k) = refl
settled-front (group d s c k) = refl
settled-front (enter s k) = settled-front k
settled-front (leave k) = settled-front k

pub ruleset views = (view-nil, view-word, view-mark, view-lit, view-group, view-enter, view-leave, take-map, drop-map, settled-front)

-- ---- the entries of a group's content

take_less : {X : Type 0} (n : ℕ) (l : List X) → take n (take (suc n) l) ≡ take n l
take_less zero l = refl
take_less (suc n) [] = refl
take_less (suc n) (x ∷ l) = ap (λ k. x ∷ k) (take_less n l)

pub inside_taken : (c : TokenStream) (n : ℕ) (l : List Seen) → Inside c n l → take n l ≡ flat_stream c
inside_taken c n l i = sym (take_less n l) ∙ ap (take n) i.1 ∙ ap (λ m. take m (flat_stream c ++ saw_leave ∷ [])) i.0 ∙ take_whole (flat_stream c) (saw_leave ∷ [])

-- ---- a visible group at the front of a buffer

module _ (s : DelimSpan) (c : TokenStream) (n : ℕ) where
  visible_view : (d : Delimiter) (l : List Seen) → (d ≡ None → ⊥) → settled (view (saw_delimiter d s c n ∷ l)) ≡ group d s (view (take n l)) (view (drop (n + 1) l))
  visible_view Parenthesis l h = ap settled (view-group Parenthesis s c n l)
  visible_view Brace l h = ap settled (view-group Brace s c n l)
  visible_view Bracket l h = ap settled (view-group Bracket s c n l)
  visible_view None l h = absurd (h refl)

  visible_inside : (d : Delimiter) (l : List Seen) → (d ≡ None → ⊥) → Nested (saw_delimiter d s c n ∷ l) → (take n l ≡ flat_stream c) × Nested l
  visible_inside Parenthesis l h i = (inside_taken c n l i.0, i.1)
  visible_inside Brace l h i = (inside_taken c n l i.0, i.1)
  visible_inside Bracket l h i = (inside_taken c n l i.0, i.1)
  visible_inside None l h i = absurd (h refl)

  pub group_shown : (d : Delimiter) (more inside after : List Entry) → (d ≡ None → ⊥) → inside ≡ take n more → after ≡ drop (n + 1) more →
      group d s (entries_view inside) (entries_view after) ≡ settled (view (saw_delimiter d s c n ∷ map saw more))
  group_shown d more inside after h i a =
      ap (λ x. group d s (entries_view x) (entries_view after)) i ∙ ap (λ x. group d s (entries_view (take n more)) (entries_view x)) a
      ∙ ap (λ x. group d s (view x) (view (map saw (drop (n + 1) more)))) (sym (take-map saw n more))
      ∙ ap (λ x. group d s (view (take n (map saw more))) (view x)) (sym (drop-map saw (n + 1) more))
      ∙ sym (visible_view d (map saw more) h)

  pub group_nested : (d : Delimiter) (more inside after : List Entry) → (d ≡ None → ⊥) → inside ≡ take n more → after ≡ drop (n + 1) more →
      Nested (saw_delimiter d s c n ∷ map saw more) → Nested (map saw inside) × Nested (map saw after) × (map saw inside ≡ flat_stream c)
  group_nested d more inside after h i a k =
      let v = visible_inside d (map saw more) h k in
      let same : map saw inside ≡ flat_stream c = ap (map saw) i ∙ sym (take-map saw n more) ∙ v.0 in
      (subst Nested (sym same) (nested_flat c), subst (λ x. Nested (map saw x)) (sym a) (nested_drop more (n + 1) v.1), same)
