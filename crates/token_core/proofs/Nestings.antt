-- What lists are to those who count their levels; and a limit is passed exactly where a list nests deeper.
use Rattle.std.proofs.Common.{◌≡◌, ◌≤◌, ◌<◌, ◌↔◌, ℕ, Bool, true, false, if◌then◌else◌, inl, inr, max, reverse, List, [], ◌∷◌, ◌++◌, map, Option, Some, None, refl, sym, ap, ◌∙◌, append_assoc, arith}
use Rattle.std.specs.Prelude.{nat_lt}
use Rattle.std.proofs.lemmas.Bool.{cases_Bool}
use Rattle.std.proofs.lemmas.List.{map-append, reverse-append}
use Rattle.token_core.specs.declared.class.Class.TheVariants.{Mark, Literal, Open, End}
use Rattle.token_core.specs.declared.tree.Ident.{Ident}
use Rattle.token_core.specs.declared.tree.Punct.{Punct}
use Rattle.token_core.specs.declared.tree.Literal as lit
use Rattle.token_core.specs.declared.tree.Group.{Group}
use Rattle.token_core.specs.declared.tree.TokenTree.{TokenTree}
use Rattle.token_core.specs.declared.tree.TokenTree.TheVariants as t
use Rattle.token_core.specs.declared.span.Span.{Span}
use Rattle.token_core.specs.Classes.{text_class}
use Rattle.token_core.specs.Levels.{Token, State, start, token, front, layer_token, pending, tree_tokens, tokens, greatest, nesting, passes, too_deep, step}
use Rattle.token_core.specs.Positions.{a_beginning, an_end, tree_items, row_items, items}
use Rattle.token_core.specs.Spans.{none}
use Rattle.token_core.specs.Trees.{TokenStream, delimiter_of, span_of, content_of, toks}
use Rattle.token_core.proofs.Positions.{ident_items, punct_items, literal_items, a_group_items}
use Rattle.token_core.proofs.Cuts.{stream_items}

-- ---- the tokens of each kind of tree

pub ident_tokens : (i : Ident) → tree_tokens (t.Ident i) ≡ (text_class i.text, i.span) ∷ []
ident_tokens i = ap (map token) (ident_items i)

pub punct_tokens : (p : Punct) → tree_tokens (t.Punct p) ≡ (Mark p.spacing p.ch, p.span) ∷ []
punct_tokens p = ap (map token) (punct_items p)

pub literal_tokens : (l : lit.Literal) → tree_tokens (t.Literal l) ≡ (Literal l.kind, l.span) ∷ []
literal_tokens l = ap (map token) (literal_items l)

pub group_tokens : (g : Group) → tree_tokens (t.Group g) ≡ (Open (delimiter_of g), (span_of g).opening) ∷ (tokens (content_of g) ++ (End, none) ∷ [])
group_tokens g =
    ap (map token) (a_group_items g) ∙ ap (λ z. token (a_beginning (delimiter_of g) (span_of g)) ∷ z)
    (map-append token (items (toks (content_of g))) (an_end ∷ []) ∙ ap (λ z. map token z ++ (End, none) ∷ []) (stream_items (content_of g)))

pub tokens_first : (x : TokenTree) (l : List TokenTree) → tokens (x ∷ l) ≡ tree_tokens x ++ tokens l
tokens_first x l = map-append token (tree_items x) (row_items l)

then_is : {A : Type 0} (b : Bool) (x y : A) → b ≡ true → (if b then x else y) ≡ x
then_is true x y h = refl
then_is false x y h = cc

else_is : {A : Type 0} (b : Bool) (x y : A) → b ≡ false → (if b then x else y) ≡ y
else_is true x y h = cc
else_is false x y h = refl

some_none : (s : Span) → Some s ≡ None → ⊥
some_none s e = cc

-- ---- a walk

pub ident_front : (x : TokenTree) (i : Ident) (l : List Token) → x ≡ t.Ident i → front x ∷ l ≡ tree_tokens x ++ l
ident_front x i l e = ap (λ z. front z ∷ l) e ∙ ap (λ z. layer_token z ∷ l) (t.outs-Ident i) ∙ sym (ap (λ z. z ++ l) (ap tree_tokens e ∙ ident_tokens i))

pub punct_front : (x : TokenTree) (p : Punct) (l : List Token) → x ≡ t.Punct p → front x ∷ l ≡ tree_tokens x ++ l
punct_front x p l e = ap (λ z. front z ∷ l) e ∙ ap (λ z. layer_token z ∷ l) (t.outs-Punct p) ∙ sym (ap (λ z. z ++ l) (ap tree_tokens e ∙ punct_tokens p))

pub literal_front : (x : TokenTree) (k : lit.Literal) (l : List Token) → x ≡ t.Literal k → front x ∷ l ≡ tree_tokens x ++ l
literal_front x k l e = ap (λ z. front z ∷ l) e ∙ ap (λ z. layer_token z ∷ l) (t.outs-Literal k) ∙ sym (ap (λ z. z ++ l) (ap tree_tokens e ∙ literal_tokens k))

pub group_front : (x : TokenTree) (g : Group) (rest : List TokenTree) (after : List (List TokenTree)) → x ≡ t.Group g →
    front x ∷ (tokens (content_of g) ++ pending (rest ∷ after)) ≡ tree_tokens x ++ (tokens rest ++ pending after)
group_front x g rest after e =
    let l = tokens rest ++ pending after in
    ap (λ z. front z ∷ (tokens (content_of g) ++ (End, none) ∷ l)) e ∙ ap (λ z. layer_token z ∷ (tokens (content_of g) ++ (End, none) ∷ l)) (t.outs-Group g)
    ∙ ap (λ z. (Open (delimiter_of g), (span_of g).opening) ∷ z) (sym (append_assoc (tokens (content_of g)) ((End, none) ∷ []) l))
    ∙ sym (ap (λ z. z ++ l) (ap tree_tokens e ∙ group_tokens g))

pub first_front : (x : TokenTree) (rest : List TokenTree) (after : List Token) → tokens (x ∷ rest) ++ after ≡ tree_tokens x ++ (tokens rest ++ after)
first_front x rest after = ap (λ z. z ++ after) (tokens_first x rest) ∙ append_assoc (tree_tokens x) (tokens rest) after

-- the last of a list is the first of it from behind
pub behind : {A B : Type 0} (f : A → B) (l : List A) (x : A) → map f (reverse (l ++ x ∷ [])) ≡ f x ∷ map f (reverse l)
behind f l x = ap (map f) (reverse-append l (x ∷ []))

-- ---- a limit

pub grows : (l : List Token) (x : State) (most : ℕ) → most ≤ greatest l x most
grows [] x most = omega arith
grows (t ∷ l) x most =
    let y = step t.0 x in
    let h = grows l y (max most y.here) in
    grind (arith, h)

-- where no token passes it, the greatest level is within it
pub within : (limit : ℕ) (l : List Token) (x : State) (most : ℕ) → most ≤ limit → passes limit l x ≡ None → greatest l x most ≤ limit
within limit [] x most h n = h
within limit (t ∷ l) x most h n =
    let y = step t.0 x in
    elim (cases_Bool (nat_lt limit y.here)) [
      | inl e ↦ absurd (some_none t.1 (sym (then_is (nat_lt limit y.here) _ _ e) ∙ n))
      | inr e ↦ within limit l y (max most y.here) (grind (arith, h, e)) (sym (else_is (nat_lt limit y.here) _ _ e) ∙ n)
    ]

-- and where that is within it, no token passes it
pub below : (limit : ℕ) (l : List Token) (x : State) (most : ℕ) → greatest l x most ≤ limit → passes limit l x ≡ None
below limit [] x most h = refl
below limit (t ∷ l) x most h =
    let y = step t.0 x in
    let g = grows l y (max most y.here) in
    let e : nat_lt limit y.here ≡ false = grind (arith, g, h) in
    else_is (nat_lt limit y.here) _ _ e ∙ below limit l y (max most y.here) h

pub deeper_than : (limit : ℕ) (l : TokenStream) → (too_deep limit l ≡ None) ↔ (nesting l ≤ limit)
unfolding too_deep nesting
deeper_than limit l = (λ h. within limit (tokens l) start 0 (omega arith) h, λ h. below limit (tokens l) start 0 h)
