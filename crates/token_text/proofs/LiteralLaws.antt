-- Literals and comments: what is found is so by the rules, and only that.
use Rattle.std.proofs.Common.{◌≡◌, ℕ, suc, ◌+◌, ◌≤◌, Bool, true, false, not, ◌&&◌, ◌==◌, [], ◌∷◌, drop, Option, Some, None, refl, sym, ap, ◌∙◌, subst, arith, eq-eqb}
use Rattle.token_core.specs.declared.tree.LitKind.{LitKind}
use Rattle.token_core.specs.declared.tree.LitKind.TheVariants.{Str, ByteStr, CStr, Byte, Char}
use Rattle.token_text.specs.Pieces.{begins_char, has_hashes}
use Rattle.token_text.specs.declared.class.Class.TheVariants.{NoQuote}
use Rattle.token_text.specs.declared.piece.Closing.{Closing}
use Rattle.token_text.specs.declared.piece.Closing.TheVariants.{DoubleQuote, Hashes, Quote}
use Rattle.token_text.specs.Characters.{Text, after_run}
use Rattle.token_text.specs.Front.{after_char, hashes, Opening, with_hashes, with_char, string_after, after_b, opening, quoted, hashed, escaped_char, one_char, closed}
use Rattle.token_text.specs.Literals.{Run, AreHashes, no_hash, a_hash, Opens, string, byte_string, c_string, raw_string, raw_byte_string, raw_c_string, char, byte, IsQuoted, double_quote, escape, other, IsHashed, here, later, IsChar, escaped, one, Closes}
use Rattle.token_text.proofs.CharacterLaws.{same_number, which, left, right}
use Rattle.token_text.proofs.RunLaws.{run_is, run_only}
use Rattle.token_text.proofs.Scans.{not_same}

-- ---- how literals begin

pub hashes_only : {k : ℕ} {cs ds : Text} → AreHashes k cs ds → (n : ℕ) → n + k ≤ 255 → hashes n cs ≡ Some (n + k, ds)
unfolding hashes
hashes_only (no_hash {cs = cs}) n le = let e : n ≡ n + 0 = omega arith in ap (λ m. Some (m, cs)) e
hashes_only (a_hash {n = k} {rest = ds} h) n le =
    let few : (n == 255) ≡ false = not_same n 255 (λ e. absurd (omega (arith, e, le))) in
    let e : (n + 1) + k ≡ n + suc k = omega arith in
    rw few (hashes_only h (n + 1) (omega (arith, le)) ∙ ap (λ m. Some (m, ds)) e)

-- what was counted is so
pub record HashesSaid (n : ℕ) (cs : Text) (x : ℕ × Text) : Type 0 where
  pub more : ℕ
  pub are : AreHashes more cs x.1
  pub count : x.0 ≡ n + more
  pub few : x.0 ≤ 255

abbrev pub HashesVerdict : ℕ → Text → Option (ℕ × Text) → Type 0
HashesVerdict n cs None = Unit {0}
HashesVerdict n cs (Some x) = HashesSaid n cs x

hashes_ended : (n c : ℕ) (cs : Text) → n ≤ 255 → (c == 34) ≡ true → HashesSaid n (c ∷ cs) (n, cs)
hashes_ended n c cs le e = record {
  more = 0;
  are = subst (λ d. AreHashes 0 (d ∷ cs) cs) (sym (same_number c 34 e)) no_hash;
  count = omega arith;
  few = le;
}

hashes_more : (n c : ℕ) (cs : Text) (o : Option (ℕ × Text)) → (c == 35) ≡ true → HashesVerdict (n + 1) cs o → HashesVerdict n (c ∷ cs) o
hashes_more n c cs None e v = tt
hashes_more n c cs (Some x) e v = record {
  more = suc v.more;
  are = subst (λ d. AreHashes (suc v.more) (d ∷ cs) x.1) (sym (same_number c 35 e)) (a_hash v.are);
  count = omega (arith, v.count);
  few = v.few;
}

pub not_so : (b : Bool) → not b ≡ true → b ≡ false
not_so true h = cc
not_so false h = refl

by_ne : (n : ℕ) → n ≤ 255 → ¬ (n ≡ 255) → n + 1 ≤ 255
by_ne n le ne = omega (arith, le, ne)

one_more : (n : ℕ) → n ≤ 255 → (n == 255) ≡ false → n + 1 ≤ 255
one_more n le h =
    let ne : ¬ (n ≡ 255) = λ e. (let bad = sym h ∙ eq-eqb n 255 e in cc) in
    by_ne n le ne

hashes_verdict : (n : ℕ) (cs : Text) → n ≤ 255 → HashesVerdict n cs (hashes n cs)
unfolding hashes
hashes_verdict n [] le = tt
hashes_verdict n (c ∷ cs) le =
    which (HashesVerdict n (c ∷ cs)) (c == 34) (λ e. hashes_ended n c cs le e) (λ _.
    which (HashesVerdict n (c ∷ cs)) (c == 35 && not (n == 255))
    (λ e. hashes_more n c cs (hashes (n + 1) cs) (left _ _ e) (hashes_verdict (n + 1) cs (one_more n le (not_so _ (right (c == 35) _ e)))))
    (λ _. tt))

-- what was found to begin is so
abbrev pub OpeningSaid : Text → Option Opening → Type 0
OpeningSaid cs None = Unit {0}
OpeningSaid cs (Some x) = Opens x.0 x.1 cs x.2

with_char_said : (k : LitKind) (cs ds : Text) → (begins_char ds ≡ true → Opens k Quote cs ds) → OpeningSaid cs (with_char k ds)
with_char_said k cs ds f = which (OpeningSaid cs) (begins_char ds) f (λ _. tt)

with_hashes_by : (k : LitKind) (cs ds : Text) → ((n : ℕ) (es : Text) → n ≤ 255 → AreHashes n ds es → Opens k (Hashes n) cs es) → (o : Option (ℕ × Text))
    → HashesVerdict 0 ds o → OpeningSaid cs (with_hashes k o)
with_hashes_by k cs ds f None v = tt
with_hashes_by k cs ds f (Some x) v =
    let e : v.more ≡ x.0 = omega (arith, v.count) in
    f x.0 x.1 v.few (subst (λ n. AreHashes n ds x.1) e v.are)

with_hashes_said : (k : LitKind) (cs ds : Text) → ((n : ℕ) (es : Text) → n ≤ 255 → AreHashes n ds es → Opens k (Hashes n) cs es) → OpeningSaid cs (with_hashes k (hashes 0 ds))
with_hashes_said k cs ds f = with_hashes_by k cs ds f (hashes 0 ds) (hashes_verdict 0 ds (omega arith))

pub first_is : (P : Text → Type 0) (c d : ℕ) (cs : Text) → (c == d) ≡ true → P (d ∷ cs) → P (c ∷ cs)
first_is P c d cs e p = subst (λ b. P (b ∷ cs)) (sym (same_number c d e)) p

pub second_is : (P : Text → Type 0) (a c d : ℕ) (cs : Text) → (c == d) ≡ true → P (a ∷ d ∷ cs) → P (a ∷ c ∷ cs)
second_is P a c d cs e p = subst (λ b. P (a ∷ b ∷ cs)) (sym (same_number c d e)) p

after_b_said : (cs : Text) → OpeningSaid (98 ∷ cs) (after_b cs)
after_b_said [] = tt
after_b_said (c ∷ cs) =
    let all = 98 ∷ c ∷ cs in
    which (OpeningSaid all) (c == 39) (λ e. with_char_said Byte all cs (λ h. second_is (λ t. Opens Byte Quote t cs) 98 c 39 cs e (byte h))) (λ _.
    which (OpeningSaid all) (c == 34) (λ e. second_is (λ t. Opens ByteStr DoubleQuote t cs) 98 c 34 cs e byte_string) (λ _.
    which (OpeningSaid all) (c == 114)
    (λ e. with_hashes_said ByteStr all cs (λ n es le h. second_is (λ t. Opens ByteStr (Hashes n) t es) 98 c 114 cs e (raw_byte_string le h)))
    (λ _. tt)))

after_c_said : (cs : Text) → OpeningSaid (99 ∷ cs) (string_after CStr cs)
after_c_said [] = tt
after_c_said (c ∷ cs) =
    let all = 99 ∷ c ∷ cs in
    which (OpeningSaid all) (c == 34) (λ e. second_is (λ t. Opens CStr DoubleQuote t cs) 99 c 34 cs e c_string) (λ _.
    which (OpeningSaid all) (c == 114)
    (λ e. with_hashes_said CStr all cs (λ n es le h. second_is (λ t. Opens CStr (Hashes n) t es) 99 c 114 cs e (raw_c_string le h)))
    (λ _. tt))

pub opening_said : (cs : Text) → OpeningSaid cs (opening cs)
unfolding opening
opening_said [] = tt
opening_said (c ∷ cs) =
    let all = c ∷ cs in
    which (OpeningSaid all) (c == 34) (λ e. first_is (λ t. Opens Str DoubleQuote t cs) c 34 cs e string) (λ _.
    which (OpeningSaid all) (c == 39) (λ e. with_char_said Char all cs (λ h. first_is (λ t. Opens Char Quote t cs) c 39 cs e (char h))) (λ _.
    which (OpeningSaid all) (c == 114)
    (λ e. with_hashes_said Str all cs (λ n es le h. first_is (λ t. Opens Str (Hashes n) t es) c 114 cs e (raw_string le h))) (λ _.
    which (OpeningSaid all) (c == 98) (λ e. first_is (λ t. OpeningSaid t (after_b cs)) c 98 cs e (after_b_said cs)) (λ _.
    which (OpeningSaid all) (c == 99) (λ e. first_is (λ t. OpeningSaid t (string_after CStr cs)) c 99 cs e (after_c_said cs)) (λ _. tt)))))

hashes_found : {n : ℕ} {cs ds : Text} (k : LitKind) → n ≤ 255 → AreHashes n cs ds → with_hashes k (hashes 0 cs) ≡ Some (k, Hashes n, ds)
hashes_found {n} {cs} {ds} k le h =
    let e : 0 + n ≡ n = omega arith in
    ap (with_hashes k) (hashes_only h 0 (omega (arith, le)) ∙ ap (λ m. Some (m, ds)) e)

pub opening_only : {k : LitKind} {how : Closing} {cs ds : Text} → Opens k how cs ds → opening cs ≡ Some (k, how, ds)
unfolding opening
opening_only string = refl
opening_only byte_string = refl
opening_only c_string = refl
opening_only (raw_string le h) = hashes_found Str le h
opening_only (raw_byte_string le h) = hashes_found ByteStr le h
opening_only (raw_c_string le h) = hashes_found CStr le h
opening_only (char h) = rw h refl
opening_only (byte h) = rw h refl

-- ---- how they end

pub quoted_only : {cs rest : Text} → IsQuoted cs rest → quoted false cs ≡ Some rest
unfolding quoted
quoted_only double_quote = refl
quoted_only (escape q) = quoted_only q
quoted_only (other h k q) = rw (h, k) (quoted_only q)

-- where the first character is escaped, the backslash before it stands too
abbrev QuotedSaid : Bool → Text → Option Text → Type 0
QuotedSaid b cs None = Unit {0}
QuotedSaid true cs (Some rest) = IsQuoted (92 ∷ cs) rest
QuotedSaid false cs (Some rest) = IsQuoted cs rest

escape_said : (c : ℕ) (cs : Text) (o : Option Text) → QuotedSaid false cs o → QuotedSaid true (c ∷ cs) o
escape_said c cs None v = tt
escape_said c cs (Some rest) v = escape v

quoted_more : (c : ℕ) (cs : Text) (b : Bool) (o : Option Text) → (c == 34) ≡ false → (c == 92) ≡ b → QuotedSaid b cs o → QuotedSaid false (c ∷ cs) o
quoted_more c cs b None h e v = tt
quoted_more c cs true (Some rest) h e v = first_is (λ t. IsQuoted t rest) c 92 cs e v
quoted_more c cs false (Some rest) h e v = other h e v

quoted_said : (b : Bool) (cs : Text) → QuotedSaid b cs (quoted b cs)
unfolding quoted
quoted_said b [] = tt
quoted_said true (c ∷ cs) = escape_said c cs (quoted false cs) (quoted_said false cs)
quoted_said false (c ∷ cs) =
    which (QuotedSaid false (c ∷ cs)) (c == 34) (λ e. first_is (λ t. IsQuoted t cs) c 34 cs e double_quote)
    (λ h. quoted_more c cs (c == 92) (quoted (c == 92) cs) h refl (quoted_said (c == 92) cs))

pub hashed_only : {n : ℕ} {cs rest : Text} → IsHashed n cs rest → hashed n cs ≡ Some rest
unfolding hashed
hashed_only (here h) = rw h refl
hashed_only (later h q) = rw h (hashed_only q)

abbrev HashedSaid : ℕ → Text → Option Text → Type 0
HashedSaid n cs None = Unit {0}
HashedSaid n cs (Some rest) = IsHashed n cs rest

hashed_more : (n c : ℕ) (cs : Text) (o : Option Text) → (c == 34 && has_hashes n cs) ≡ false → HashedSaid n cs o → HashedSaid n (c ∷ cs) o
hashed_more n c cs None h v = tt
hashed_more n c cs (Some rest) h v = later h v

hashed_said : (n : ℕ) (cs : Text) → HashedSaid n cs (hashed n cs)
unfolding hashed
hashed_said n [] = tt
hashed_said n (c ∷ cs) =
    which (HashedSaid n (c ∷ cs)) (c == 34 && has_hashes n cs)
    (λ e. first_is (λ t. IsHashed n t (drop n cs)) c 34 cs (left _ _ e) (here (right (c == 34) _ e)))
    (λ h. hashed_more n c cs (hashed n cs) h (hashed_said n cs))

pub char_only : {cs rest : Text} → IsChar cs rest → one_char cs ≡ Some rest
unfolding one_char
char_only (escaped r) = ap (after_char 39) (run_only r)
char_only (one h k) = rw (h, k) refl

abbrev CharSaid : Text → Option Text → Type 0
CharSaid cs None = Unit {0}
CharSaid cs (Some rest) = IsChar cs rest

quote_said : (ds : Text) (P : Text → Type 0) (Q : Option Text → Type 0) → Q None → ((rest : Text) → ds ≡ 39 ∷ rest → Q (Some rest)) → Q (after_char 39 ds)
quote_said [] P Q n f = n
quote_said (d ∷ ds) P Q n f = which Q (d == 39) (λ e. f ds (ap (λ c. c ∷ ds) (same_number d 39 e))) (λ _. n)

escaped_said : (cs : Text) → CharSaid (92 ∷ cs) (escaped_char cs)
escaped_said [] = tt
escaped_said (c ∷ cs) =
    quote_said (after_run NoQuote cs) (λ _. Unit {0}) (CharSaid (92 ∷ c ∷ cs)) tt (λ rest e. escaped (subst (Run NoQuote cs) e (run_is NoQuote cs)))

char_said : (cs : Text) → CharSaid cs (one_char cs)
unfolding one_char
char_said [] = tt
char_said (c ∷ cs) =
    which (CharSaid (c ∷ cs)) (c == 92) (λ e. first_is (λ t. CharSaid t (escaped_char cs)) c 92 cs e (escaped_said cs)) (λ h.
    which (CharSaid (c ∷ cs)) (c == 39) (λ _. tt) (λ k.
    quote_said cs (λ _. Unit {0}) (CharSaid (c ∷ cs)) tt (λ rest e. subst (λ t. IsChar (c ∷ t) rest) (sym e) (one h k))))

abbrev pub ClosedSaid : Closing → Text → Option Text → Type 0
ClosedSaid how cs None = Unit {0}
ClosedSaid how cs (Some rest) = Closes how cs rest

of_quoted : (cs : Text) (o : Option Text) → QuotedSaid false cs o → ClosedSaid DoubleQuote cs o
of_quoted cs None v = tt
of_quoted cs (Some rest) v = v

of_hashed : (n : ℕ) (cs : Text) (o : Option Text) → HashedSaid n cs o → ClosedSaid (Hashes n) cs o
of_hashed n cs None v = tt
of_hashed n cs (Some rest) v = v

of_char : (cs : Text) (o : Option Text) → CharSaid cs o → ClosedSaid Quote cs o
of_char cs None v = tt
of_char cs (Some rest) v = v

pub closed_said : (how : Closing) (cs : Text) → ClosedSaid how cs (closed how cs)
unfolding closed
closed_said DoubleQuote cs = of_quoted cs (quoted false cs) (quoted_said false cs)
closed_said (Hashes n) cs = of_hashed n cs (hashed n cs) (hashed_said n cs)
closed_said Quote cs = of_char cs (one_char cs) (char_said cs)

pub closed_only : (how : Closing) (cs rest : Text) → Closes how cs rest → closed how cs ≡ Some rest
unfolding closed
closed_only DoubleQuote cs rest q = quoted_only q
closed_only (Hashes n) cs rest q = hashed_only q
closed_only Quote cs rest q = char_only q
