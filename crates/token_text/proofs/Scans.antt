-- The steps of the functions that look for an end.
use Rattle.std.proofs.Common.{◌≡◌, ℕ, suc, ◌+◌, ◌-◌, Bool, true, false, not, ◌&&◌, ◌||◌, ◌==◌, if◌then◌else◌, [], ◌∷◌, drop, Some, None, refl, ap, eq-eqb}
use Rattle.std.proofs.lemmas.Bool.{eqb-true}
use Rattle.token_text.specs.Pieces.{has_hashes, is_char, has_lone_return}
use Rattle.token_text.specs.Characters.{Text, begins_with}
use Rattle.token_text.specs.Front.{comment, hashes, quoted, hashed, after_char}

pub not_same : (a b : ℕ) → ¬ (a ≡ b) → (a == b) ≡ false
not_same a b h =
    let P : Bool → Type 0 = λ t. (a == b) ≡ t → t ≡ false in
    let f : P (a == b) = elim (a == b) as P [ true ↦ λ e. absurd (h (eqb-true a b e)) | false ↦ λ e. refl ] in f refl

-- ---- comments

pub comment_none : (n : ℕ) (cs : Text) → cs ≡ [] → comment n cs ≡ None
unfolding comment
comment_none n cs e = rw e refl

pub comment_short : (n : ℕ) (cs ds : Text) (a : ℕ) → cs ≡ a ∷ ds → ds ≡ [] → comment n cs ≡ None
unfolding comment
comment_short n cs ds a e f = rw (e, f) refl

pub comment_opens : (n : ℕ) (cs ds es : Text) (a b : ℕ) → cs ≡ a ∷ ds → ds ≡ b ∷ es → (a == 47 && b == 42) ≡ true → comment n cs ≡ comment (n + 1) es
unfolding comment
comment_opens n cs ds es a b e f h = rw (e, f, h) refl

pub comment_ends : (n : ℕ) (cs ds es : Text) (a b : ℕ) → cs ≡ a ∷ ds → ds ≡ b ∷ es → (a == 47 && b == 42) ≡ false → (a == 42 && b == 47) ≡ true
    → n ≡ 0 → comment n cs ≡ Some es
unfolding comment
comment_ends n cs ds es a b e f g h k = rw (e, f, g, h, eq-eqb n 0 k) refl

pub comment_closes : (n : ℕ) (cs ds es : Text) (a b : ℕ) → cs ≡ a ∷ ds → ds ≡ b ∷ es → (a == 47 && b == 42) ≡ false → (a == 42 && b == 47) ≡ true
    → ¬ (n ≡ 0) → comment n cs ≡ comment (n - 1) es
unfolding comment
comment_closes n cs ds es a b e f g h k = rw (e, f, g, h, not_same n 0 k) refl

pub comment_goes : (n : ℕ) (cs ds es : Text) (a b : ℕ) → cs ≡ a ∷ ds → ds ≡ b ∷ es → (a == 47 && b == 42) ≡ false → (a == 42 && b == 47) ≡ false
    → comment n cs ≡ comment n ds
unfolding comment
comment_goes n cs ds es a b e f g h = rw (e, f, g, h) refl

-- ---- hashes

no_hash : (a b : Bool) → (not a || b) ≡ true → (a && not b) ≡ false
no_hash true true h = refl
no_hash true false h = cc
no_hash false b h = refl

one_hash : (a b : Bool) → (not a || b) ≡ false → (a && not b) ≡ true
one_hash true true h = cc
one_hash true false h = refl
one_hash false b h = cc

pub hashes_none : (n : ℕ) (cs : Text) → cs ≡ [] → hashes n cs ≡ None
unfolding hashes
hashes_none n cs e = rw e refl

pub hashes_end : (n : ℕ) (cs ds : Text) (c : ℕ) → cs ≡ c ∷ ds → c ≡ 34 → hashes n cs ≡ Some (n, ds)
unfolding hashes
hashes_end n cs ds c e h = rw (e, eq-eqb c 34 h) refl

pub hashes_stop : (n : ℕ) (cs ds : Text) (c : ℕ) → cs ≡ c ∷ ds → ¬ (c ≡ 34) → (not (c == 35) || n == 255) ≡ true → hashes n cs ≡ None
unfolding hashes
hashes_stop n cs ds c e h k = rw (e, not_same c 34 h, no_hash (c == 35) (n == 255) k) refl

pub hashes_goes : (n : ℕ) (cs ds : Text) (c : ℕ) → cs ≡ c ∷ ds → ¬ (c ≡ 34) → (not (c == 35) || n == 255) ≡ false → hashes n cs ≡ hashes (n + 1) ds
unfolding hashes
hashes_goes n cs ds c e h k = rw (e, not_same c 34 h, one_hash (c == 35) (n == 255) k) refl

-- ---- strings

pub quoted_none : (b : Bool) (cs : Text) → cs ≡ [] → quoted b cs ≡ None
unfolding quoted
quoted_none b cs e = rw e refl

pub quoted_end : (b : Bool) (cs ds : Text) (c : ℕ) → cs ≡ c ∷ ds → (not b && c == 34) ≡ true → quoted b cs ≡ Some ds
unfolding quoted
quoted_end b cs ds c e h = rw (e, h) refl

pub quoted_goes : (b : Bool) (cs ds : Text) (c : ℕ) → cs ≡ c ∷ ds → (not b && c == 34) ≡ false → quoted b cs ≡ quoted (not b && c == 92) ds
unfolding quoted
quoted_goes b cs ds c e h = rw (e, h) refl

pub has_hashes_end : (n : ℕ) (cs : Text) → n ≡ 0 → has_hashes n cs ≡ true
unfolding has_hashes
has_hashes_end n cs e = rw e refl

pub has_hashes_none : (n : ℕ) (cs : Text) → after_char 35 cs ≡ None → has_hashes (suc n) cs ≡ false
unfolding has_hashes
has_hashes_none n [] e = refl
has_hashes_none n (c ∷ cs) e =
    let P : Bool → Type 0 = λ b. (if b then Some cs else None) ≡ None → (b && has_hashes n cs) ≡ false in
    let f : P (c == 35) = elim (c == 35) as P [ true ↦ λ h. cc | false ↦ λ h. refl ] in f e

pub has_hashes_goes : (n : ℕ) (cs ds : Text) → after_char 35 cs ≡ Some ds → (has_hashes (suc n) cs ≡ has_hashes n ds) × (drop (suc n) cs ≡ drop n ds)
unfolding has_hashes
has_hashes_goes n [] ds e = cc
has_hashes_goes n (c ∷ cs) ds e =
    let P : Bool → Type 0 = λ b. (if b then Some cs else None) ≡ Some ds → ((b && has_hashes n cs) ≡ has_hashes n ds) × (drop n cs ≡ drop n ds) in
    let f : P (c == 35) = elim (c == 35) as P [
      | true ↦ λ h. (let same : cs ≡ ds = cc in (ap (has_hashes n) same, ap (drop n) same))
      | false ↦ λ h. cc
    ] in f e

pub hashed_none : (n : ℕ) (cs : Text) → cs ≡ [] → hashed n cs ≡ None
unfolding hashed
hashed_none n cs e = rw e refl

pub hashed_end : (n : ℕ) (cs ds : Text) (c : ℕ) → cs ≡ c ∷ ds → c ≡ 34 → has_hashes n ds ≡ true → hashed n cs ≡ Some (drop n ds)
unfolding hashed
hashed_end n cs ds c e h k = rw (e, eq-eqb c 34 h, k) refl

pub hashed_over : (n : ℕ) (cs ds : Text) (c : ℕ) → cs ≡ c ∷ ds → c ≡ 34 → has_hashes n ds ≡ false → hashed n cs ≡ hashed n ds
unfolding hashed
hashed_over n cs ds c e h k = rw (e, eq-eqb c 34 h, k) refl

pub hashed_goes : (n : ℕ) (cs ds : Text) (c : ℕ) → cs ≡ c ∷ ds → ¬ (c ≡ 34) → hashed n cs ≡ hashed n ds
unfolding hashed
hashed_goes n cs ds c e h = rw (e, not_same c 34 h) refl

-- ---- carriage returns

pub lone_none : (cs : Text) → cs ≡ [] → has_lone_return cs ≡ false
unfolding has_lone_return
lone_none cs e = rw e refl

pub lone_here : (cs ds : Text) (c : ℕ) (b : Bool) → cs ≡ c ∷ ds → b ≡ begins_with (is_char 10) ds → (c == 13 && not b) ≡ true → has_lone_return cs ≡ true
unfolding has_lone_return
lone_here cs ds c b e f h = rw (e, ← f, h) refl

pub lone_goes : (cs ds : Text) (c : ℕ) (b : Bool) → cs ≡ c ∷ ds → b ≡ begins_with (is_char 10) ds → (c == 13 && not b) ≡ false
    → has_lone_return cs ≡ has_lone_return ds
unfolding has_lone_return
lone_goes cs ds c b e f h = rw (e, ← f, h) refl
