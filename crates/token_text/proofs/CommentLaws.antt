-- Comments: what is found is one by the rules, and only that.
use Rattle.std.proofs.Common.{◌≡◌, ℕ, zero, suc, ◌+◌, ◌-◌, Bool, true, false, ◌&&◌, ◌||◌, ◌==◌, [], ◌∷◌, Option, Some, None, refl, sym, ap, ◌∙◌, subst, arith}
use Rattle.token_text.specs.Characters.{Text}
use Rattle.token_text.specs.Front.{comment}
use Rattle.token_text.specs.Literals.{is_pair, IsComment, ends, inner_begins, inner_ends, goes_on}
use Rattle.token_text.proofs.CharacterLaws.{same_number, which, left, right}
use Rattle.token_text.proofs.Scans.{not_same}

neither : (a b : Bool) → (a || b) ≡ false → (a ≡ false) × (b ≡ false)
neither true b h = cc
neither false b h = (refl, h)

comment_goes_on : (n c : ℕ) (cs : Text) → is_pair (c ∷ cs) ≡ false → comment n (c ∷ cs) ≡ comment n cs
unfolding comment
comment_goes_on n c [] h = refl
comment_goes_on n c (d ∷ cs) h = let e = neither (c == 47 && d == 42) (c == 42 && d == 47) h in rw (e.0, e.1) refl

pub comment_only : {n : ℕ} {cs rest : Text} → IsComment n cs rest → comment n cs ≡ Some rest
unfolding comment
comment_only ends = refl
comment_only (inner_begins {n = n} {cs = cs} c) = let e : n + 1 ≡ suc n = omega arith in ap (λ m. comment m cs) e ∙ comment_only c
comment_only (inner_ends {n = n} {cs = cs} c) =
    let e : suc n - 1 ≡ n = omega arith in
    let more : (suc n == 0) ≡ false = not_same (suc n) 0 (λ z. absurd (omega (arith, z))) in
    rw more (ap (λ m. comment m cs) e ∙ comment_only c)
comment_only (goes_on {n = n} {c = c} {cs = cs} h d) = comment_goes_on n c cs h ∙ comment_only d

abbrev pub CommentSaid : ℕ → Text → Option Text → Type 0
CommentSaid n cs None = Unit {0}
CommentSaid n cs (Some rest) = IsComment n cs rest

not_pair : (a b : ℕ) (cs : Text) → (a == 47 && b == 42) ≡ false → (a == 42 && b == 47) ≡ false → is_pair (a ∷ b ∷ cs) ≡ false
not_pair a b cs h k = rw (h, k) refl

both : (P : Text → Type 0) (a b c d : ℕ) (cs : Text) → (a == c && b == d) ≡ true → P (c ∷ d ∷ cs) → P (a ∷ b ∷ cs)
both P a b c d cs h p =
    let e : a ≡ c = same_number a c (left _ _ h) in
    let f : b ≡ d = same_number b d (right (a == c) _ h) in
    subst (λ x. P (x ∷ b ∷ cs)) (sym e) (subst (λ x. P (c ∷ x ∷ cs)) (sym f) p)

opens_said : (n : ℕ) (cs : Text) (o : Option Text) → CommentSaid (n + 1) cs o → CommentSaid n (47 ∷ 42 ∷ cs) o
opens_said n cs None s = tt
opens_said n cs (Some rest) s = let e : n + 1 ≡ suc n = omega arith in inner_begins (subst (λ m. IsComment m cs rest) e s)

closes_said : (n : ℕ) (cs : Text) (o : Option Text) → (n == 0) ≡ false → CommentSaid (n - 1) cs o → CommentSaid n (42 ∷ 47 ∷ cs) o
closes_said n cs None h s = tt
closes_said zero cs (Some rest) h s = cc
closes_said (suc n) cs (Some rest) h s = let e : suc n - 1 ≡ n = omega arith in inner_ends (subst (λ m. IsComment m cs rest) e s)

goes_said : (n a : ℕ) (cs : Text) (o : Option Text) → is_pair (a ∷ cs) ≡ false → CommentSaid n cs o → CommentSaid n (a ∷ cs) o
goes_said n a cs None h s = tt
goes_said n a cs (Some rest) h s = goes_on h s

ends_said : (n : ℕ) (cs : Text) → (n == 0) ≡ true → CommentSaid n (42 ∷ 47 ∷ cs) (Some cs)
ends_said n cs h = subst (λ m. IsComment m (42 ∷ 47 ∷ cs) cs) (sym (same_number n 0 h)) ends

pub comment_said : (n : ℕ) (cs : Text) → CommentSaid n cs (comment n cs)
unfolding comment
comment_said n [] = tt
comment_said n (a ∷ []) = tt
comment_said n (a ∷ b ∷ cs) =
    let all = a ∷ b ∷ cs in
    which (CommentSaid n all) (a == 47 && b == 42)
    (λ e. both (λ t. CommentSaid n t (comment (n + 1) cs)) a b 47 42 cs e (opens_said n cs (comment (n + 1) cs) (comment_said (n + 1) cs))) (λ h.
    which (CommentSaid n all) (a == 42 && b == 47)
    (λ e. which (CommentSaid n all) (n == 0)
    (λ z. both (λ t. CommentSaid n t (Some cs)) a b 42 47 cs e (ends_said n cs z))
    (λ z. both (λ t. CommentSaid n t (comment (n - 1) cs)) a b 42 47 cs e (closes_said n cs (comment (n - 1) cs) z (comment_said (n - 1) cs))))
    (λ k. goes_said n a (b ∷ cs) (comment n (b ∷ cs)) (not_pair a b cs h k) (comment_said n (b ∷ cs))))
