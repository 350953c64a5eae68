-- The entries of a buffer as contracts see them: one flat list, in which a group tells its content and how many entries that has.
use Rattle.std.specs.Prelude.{◌≡◌, ℕ, zero, suc, ◌+◌, ◌≤◌, List, [], ◌∷◌, length, take, drop, refl}
use Rattle.std.proofs.Common.{ap, arith}
use Rattle.std.proofs.lemmas.List.{length-take, length-drop}
use Rattle.token_core.specs.declared.tree.Delimiter.{Delimiter}
use Rattle.token_core.specs.declared.tree.Delimiter.TheVariants.{Parenthesis, Brace, Bracket, None}
use Rattle.token_core.specs.declared.span.DelimSpan.{DelimSpan}
use Rattle.token_core.specs.declared.tree.Ident.{Ident}
use Rattle.token_core.specs.declared.tree.Punct.{Punct}
use Rattle.token_core.specs.declared.tree.Literal.{Literal}
use Rattle.token_core.specs.Trees.{TokenStream}
use Rattle.token_core.specs.Toks.{Toks, done, word, mark, lit, group, enter, leave}

pub data Seen : Type 0 where
  saw_word : Ident → Seen
  saw_mark : Punct → Seen
  saw_lit : Literal → Seen
  saw_group : Delimiter → DelimSpan → TokenStream → ℕ → Seen
  saw_enter : DelimSpan → TokenStream → ℕ → Seen
  saw_leave : Seen

abbrev pub saw_delimiter : Delimiter → DelimSpan → TokenStream → ℕ → Seen
saw_delimiter None s c n = saw_enter s c n
saw_delimiter Parenthesis s c n = saw_group Parenthesis s c n
saw_delimiter Brace s c n = saw_group Brace s c n
saw_delimiter Bracket s c n = saw_group Bracket s c n

-- the number bounds the length
abbrev pub read : ℕ → List Seen → Toks
read zero l = done
read (suc f) [] = done
read (suc f) (saw_word t ∷ l) = word t (read f l)
read (suc f) (saw_mark p ∷ l) = mark p (read f l)
read (suc f) (saw_lit k ∷ l) = lit k (read f l)
read (suc f) (saw_group d s c n ∷ l) = group d s (read f (take n l)) (read f (drop (n + 1) l))
read (suc f) (saw_enter s c n ∷ l) = enter s (read f l)
read (suc f) (saw_leave ∷ l) = leave (read f l)

-- the tokens of a list of entries
unfoldable pub view : List Seen → Toks
view l = read (length l) l

pub read-same : (f g : ℕ) (l : List Seen) → length l ≤ f → length l ≤ g → read f l ≡ read g l
read-same zero zero l p q = refl
read-same zero (suc g) [] p q = refl
read-same zero (suc g) (x ∷ l) p q = absurd (omega (arith, p))
read-same (suc f) zero [] p q = refl
read-same (suc f) zero (x ∷ l) p q = absurd (omega (arith, q))
read-same (suc f) (suc g) [] p q = refl
read-same (suc f) (suc g) (saw_word t ∷ l) p q = ap (word t) (read-same f g l (omega arith) (omega arith))
read-same (suc f) (suc g) (saw_mark m ∷ l) p q = ap (mark m) (read-same f g l (omega arith) (omega arith))
read-same (suc f) (suc g) (saw_lit k ∷ l) p q = ap (lit k) (read-same f g l (omega arith) (omega arith))
read-same (suc f) (suc g) (saw_group d s c n ∷ l) p q =
    let inside : read f (take n l) ≡ read g (take n l) = read-same f g (take n l) (omega (arith, length-take n l)) (omega (arith, length-take n l)) in
    let after : read f (drop (n + 1) l) ≡ read g (drop (n + 1) l) = read-same f g (drop (n + 1) l) (omega (arith, length-drop (n + 1) l)) (omega (arith, length-drop (n + 1) l)) in
    cc
read-same (suc f) (suc g) (saw_enter s c n ∷ l) p q = ap (enter s) (read-same f g l (omega arith) (omega arith))
read-same (suc f) (suc g) (saw_leave ∷ l) p q = ap leave (read-same f g l (omega arith) (omega arith))

pub view-nil : view [] ≡ done
unfolding view
view-nil = refl

pub view-word : (t : Ident) (l : List Seen) → view (saw_word t ∷ l) ≡ word t (view l)
unfolding view
view-word t l = refl

pub view-mark : (p : Punct) (l : List Seen) → view (saw_mark p ∷ l) ≡ mark p (view l)
unfolding view
view-mark p l = refl

pub view-lit : (k : Literal) (l : List Seen) → view (saw_lit k ∷ l) ≡ lit k (view l)
unfolding view
view-lit k l = refl

pub view-enter : (s : DelimSpan) (c : TokenStream) (n : ℕ) (l : List Seen) → view (saw_enter s c n ∷ l) ≡ enter s (view l)
unfolding view
view-enter s c n l = refl

pub view-leave : (l : List Seen) → view (saw_leave ∷ l) ≡ leave (view l)
unfolding view
view-leave l = refl

pub view-group : (d : Delimiter) (s : DelimSpan) (c : TokenStream) (n : ℕ) (l : List Seen) → view (saw_group d s c n ∷ l) ≡ group d s (view (take n l)) (view (drop (n + 1) l))
unfolding view
view-group d s c n l =
    let inside : read (length l) (take n l) ≡ read (length (take n l)) (take n l) = read-same (length l) (length (take n l)) (take n l) (omega (arith, length-take n l)) (omega arith) in
    let after : read (length l) (drop (n + 1) l) ≡ read (length (drop (n + 1) l)) (drop (n + 1) l) = read-same (length l) (length (drop (n + 1) l)) (drop (n + 1) l) (omega (arith, length-drop (n + 1) l)) (omega arith) in
    cc
