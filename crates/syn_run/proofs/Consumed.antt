-- What reads one after the other take of the bytes that are left.
use Rattle.std.proofs.Common.{◌≡◌, ℕ, [], ◌++◌, Option, Some, None, IfSome, ap, sym, ◌∙◌, append_assoc, append-nil, take, subst, rules}
use Rattle.std.specs.Io.KnownBytes.{Consumes, Keeps, IsAtEnd}
use Rattle.token_core.specs.Toks.{Bytes}

pub consumes-more : (a b c : Option Bytes) (x y : Bytes) → Consumes a b x → Consumes b c y → Consumes a c (x ++ y)
consumes-more None b c x y h k = tt
consumes-more (Some xs) None c x y h k = absurd h
consumes-more (Some xs) (Some ys) None x y h k = absurd k
consumes-more (Some xs) (Some ys) (Some zs) x y h k = h ∙ ap (λ z. x ++ z) k ∙ sym (append_assoc x y zs)

pub consumes-keeps : (a b c : Option Bytes) (x : Bytes) → Consumes a b x → Keeps b c → Consumes a c x
consumes-keeps None b c x h k = tt
consumes-keeps (Some xs) None c x h k = absurd h
consumes-keeps (Some xs) (Some ys) None x h k = absurd k
consumes-keeps (Some xs) (Some ys) (Some zs) x h k = h ∙ ap (λ z. x ++ z) (sym k)

pub consumes-end : (a b : Option Bytes) (x : Bytes) → Consumes a b x → IsAtEnd b → IfSome a (λ xs. x ≡ xs)
consumes-end None b x h e = tt
consumes-end (Some xs) None x h e = absurd h
consumes-end (Some xs) (Some ys) x h e = sym (h ∙ ap (λ z. x ++ z) e ∙ append-nil x)

take_none : (buf : Bytes) → take 0 buf ≡ []
take_none buf = search rules

-- a read that took nothing found the end
pub consumes-last : (a b c : Option Bytes) (x : Bytes) (n : ℕ) (buf : Bytes) → n ≡ 0 → Consumes a b x → Consumes b c (take n buf) → IsAtEnd c → IfSome a (λ xs. x ≡ xs)
consumes-last a b c x n buf z h k e =
    let w : take n buf ≡ [] = ap (λ m. take m buf) z ∙ take_none buf in
    consumes-end a c x (let P : Bytes → Type 0 = λ y. Consumes a c y in subst P (ap (λ y. x ++ y) w ∙ append-nil x) (consumes-more a b c x (take n buf) h k)) e
