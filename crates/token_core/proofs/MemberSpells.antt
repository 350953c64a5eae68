-- Indices and members are read where they stand; an index prints the decimal digits of its value.
use Rattle.std.specs.Char.{digit_value, is_digit}
use Rattle.std.specs.Fmt.{decimal}
use Rattle.std.specs.Option.{unwrap_or}
use Rattle.std.specs.Prelude.{nat_le}
use Rattle.std.specs.Str.Parse.{AllDigits, IsNumeral, digits_value_after}
use Rattle.std.proofs.lemmas.Fmt.{decimal_is_IsNumeral}
use Rattle.std.proofs.lemmas.Bool.{ne_eqb, lt-ltb, leb-true}
use Rattle.std.proofs.Common.{◌≡◌, ℕ, ◌+◌, ◌*◌, ◌^◌, ◌<◌, ◌≤◌, Bool, true, false, ◌==◌, ◌&&◌, ◌||◌, if◌then◌else◌, [], ◌∷◌, drop, Option, Some, None, Ok, Err, inl, inr, refl, sym, ◌∙◌, ap, subst, arith}
use Rattle.token_core.specs.declared.tree.Ident.{Ident}
use Rattle.token_core.specs.declared.tree.Literal.{Literal}
use Rattle.token_core.specs.declared.tree.LitKind.{LitKind}
use Rattle.token_core.specs.declared.tree.LitKind.TheVariants.{Str, ByteStr, CStr, Byte, Char, Int, Float}
use Rattle.token_core.specs.declared.span.Span.{Span}
use Rattle.token_core.specs.declared.member.Index.{Index}
use Rattle.token_core.specs.declared.member.Member.{Member}
use Rattle.token_core.specs.declared.member.Member.TheVariants as m
use Rattle.token_core.specs.Toks.{Bytes, Toks, done, word, mark, lit, group, enter, leave}
use Rattle.token_core.specs.Trees.{literal, row}
use Rattle.token_core.specs.Rebuilt.{Visible}
use Rattle.token_core.specs.Stream.{Scope, Stream}
use Rattle.token_core.specs.Reads.{Outcome, is_ident, ident_name, sees_word, read_word, next_word, expected}
use Rattle.token_core.specs.Lits.{next_lit}
use Rattle.token_core.specs.Members.{index, number_after, begins, number, fit, fitting, value, is_int, int_name, index_if, index_at, read_index, sees_int, no_member, read_member, print_index, print}
use Rattle.token_core.specs.Spellings.{IsIndex, an_index, IsMember, named, unnamed}
use Rattle.token_core.proofs.Turns.{same_pair}
use Rattle.token_core.proofs.Took.{at, branch, mapped, took_word}
use Rattle.token_core.proofs.Steps.{Reads_to, link, chosen}
use Rattle.token_core.proofs.Rebuilds.{tree-ident, tree-literal}
use Rattle.token_core.proofs.MarkSpells.{Taken}
use Rattle.token_core.proofs.member_laws.{fit-some}

-- ---- the number that decimal digits write

no_line : (c base : ℕ) → base ≤ 16 → digit_value c < base → (c == 95) ≡ false
no_line c base h k = ne_eqb c 95 (λ e. let w : digit_value c ≡ 36 = ap digit_value e in omega (arith, w, h, k))

digit_step : (base c : ℕ) (n : Option ℕ) (cs : Bytes) → base ≤ 16 → digit_value c < base → number_after base n (c ∷ cs) ≡ number_after base (Some (unwrap_or n 0 * base + digit_value c)) cs
digit_step base c n cs h k = by_tests (c == 95) (is_digit c base) (no_line c base h k) (lt-ltb (digit_value c) base k)
  where
    by_tests : (u d : Bool) → u ≡ false → d ≡ true → (if u || d then number_after base (if u then n else Some (unwrap_or n 0 * base + digit_value c)) cs else None) ≡ number_after base (Some (unwrap_or n 0 * base + digit_value c)) cs
    by_tests true d e g = cc
    by_tests false true e g = refl
    by_tests false false e g = cc

digits_number : (base c : ℕ) (n : Option ℕ) (cs : Bytes) → base ≤ 16 → AllDigits base (c ∷ cs) → number_after base n (c ∷ cs) ≡ Some (digits_value_after base (unwrap_or n 0) (c ∷ cs))
digits_number base c n [] h k = digit_step base c n [] h k.0
digits_number base c n (d ∷ cs) h k = digit_step base c n (d ∷ cs) h k.0 ∙ digits_number base d (Some (unwrap_or n 0 * base + digit_value c)) cs h k.1

number_ten : (cs : Bytes) → IsNumeral 10 cs → number_after 10 None cs ≡ Some (digits_value_after 10 0 cs)
number_ten [] h = absurd (omega (arith, h.0))
number_ten (c ∷ cs) h = digits_number 10 c None cs (omega arith) h.1

no_base : (b : ℕ) (cs : Bytes) → 10 ≤ digit_value b → AllDigits 10 cs → begins b cs ≡ false
no_base b [] h k = refl
no_base b (z ∷ []) h k = refl
no_base b (z ∷ c ∷ cs) h k = by_test (z == 48) (c == b) (ne_eqb c b (λ e. let w : digit_value c ≡ digit_value b = ap digit_value e in let g = k.1.0 in omega (arith, w, h, g)))
  where
    by_test : (x y : Bool) → y ≡ false → (x && y) ≡ false
    by_test true y e = e
    by_test false y e = refl

decimal_number : (n : ℕ) → n < 2 ^ 64 → number (decimal n) ≡ Some n
decimal_number n h = by_tests (begins 120 d) (begins 111 d) (begins 98 d) (no_base 120 d (omega arith) k.0.1) (no_base 111 d (omega arith) k.0.1) (no_base 98 d (omega arith) k.0.1)
  where
    d : Bytes
    d = decimal n

    k : IsNumeral 10 (decimal n) × (digits_value_after 10 0 (decimal n) ≡ n)
    k = decimal_is_IsNumeral n h

    by_tests : (x y z : Bool) → x ≡ false → y ≡ false → z ≡ false →
        (if x then number_after 16 None (drop 2 (decimal n)) else (if y then number_after 8 None (drop 2 (decimal n)) else (if z then number_after 2 None (drop 2 (decimal n)) else number_after 10 None (decimal n)))) ≡ Some n
    by_tests true y z e g f = cc
    by_tests false true z e g f = cc
    by_tests false false true e g f = cc
    by_tests false false false e g f = number_ten (decimal n) k.0 ∙ ap (λ (x : ℕ). Some x) k.1

fit_low : (n : ℕ) (b : Bool) → nat_le n 4294967295 ≡ b → (if b then Some n else None) ≡ Some n → n ≤ 4294967295
fit_low n true h e = leb-true n 4294967295 h
fit_low n false h e = cc

fitting-some : (o : Option ℕ) (n : ℕ) → fitting o ≡ Some n → fit n ≡ Some n
fitting-some None n e = cc
fitting-some (Some k) n e = fit-some k n e

-- the decimal digits of a value have that value
pub decimal_value : (t : Bytes) (n : ℕ) → value t ≡ Some n → value (decimal n) ≡ Some n
unfolding value
decimal_value t n e =
    let f = fitting-some (number t) n e in
    let low = fit_low n (nat_le n 4294967295) refl f in
    ap fitting (decimal_number n (omega (arith, low))) ∙ f

-- ---- indices

int_is : (k : LitKind) → is_int k ≡ true → k ≡ Int
int_is Int e = refl
int_is Float e = cc
int_is Str e = cc
int_is ByteStr e = cc
int_is CStr e = cc
int_is Byte e = cc
int_is Char e = cc

module _ (k : Toks) (f : Option Span) (e : Span) (sc : Scope) (x : Literal) where
  abbrev here : Stream
  here = at (lit x k) f e sc

  index_value : (i : Index) (t : Stream) (o : Option ℕ) → x.kind ≡ Int → value x.text ≡ o → index_if here (x, k) o ≡ Ok (i, t) → Taken IsIndex here t i
  index_value i t None h g r = cc
  index_value i t (Some n) h g r =
      let u = same_pair (index n x.span) i (at k f x.span sc) t r in
      let w : lit (literal Int x.text x.span) k ≡ lit x k = ap (λ z. lit (literal z x.text x.span) k) (sym h) in
      record {
        spelt = subst (λ z. IsIndex z (lit x k) t.rest) u.0 (subst (λ (z : Stream). IsIndex (index n x.span) (lit x k) z.rest) u.1 (subst (λ z. IsIndex (index n x.span) z k) w (an_index g)));
        left = ap (λ (z : Stream). z.left) (sym u.1);
      }

  index_kind : (i : Index) (t : Stream) (b : Bool) → is_int x.kind ≡ b → ◌≡◌ {A = Outcome Index} (if b then index_if here (x, k) (value x.text) else Err (expected int_name here)) (Ok (i, t)) → Taken IsIndex here t i
  index_kind i t true h r = index_value i t (value x.text) (int_is x.kind h) refl r
  index_kind i t false h r = cc

index_from : (l : Toks) (f : Option Span) (e : Span) (sc : Scope) (t : Stream) (i : Index) → Visible l → index_at (at l f e sc) (next_lit l) ≡ Ok (i, t) → Taken IsIndex (at l f e sc) t i
index_from done f e sc t i v h = cc
index_from (word j k) f e sc t i v h = cc
index_from (mark x k) f e sc t i v h = cc
index_from (lit x k) f e sc t i v h = index_kind k f e sc x i t (is_int x.kind) refl h
index_from (group d x c k) f e sc t i v h = cc
index_from (enter x k) f e sc t i v h = absurd v
index_from (leave k) f e sc t i v h = absurd v

pub index_sound : (s t : Stream) (i : Index) → Visible s.rest → read_index s ≡ Ok (i, t) → Taken IsIndex s t i
unfolding read_index
index_sound s t i v h = index_from s.rest s.left s.last s.scope t i v h

pub index_complete : (i : Index) (l r : Toks) (f : Option Span) (e : Span) (sc : Scope) → IsIndex i l r → Reads_to read_index i l r f e sc
unfolding read_index
index_complete i l r f e sc (an_index {t = t} {n = n} {a = a} h) = record { last = a; reads = ap (index_if (at l f e sc) (literal Int t a, r)) h }

pub int_seen : (i : Index) (l r : Toks) → IsIndex i l r → sees_int l ≡ true
unfolding sees_int
int_seen i l r (an_index h) = refl

pub index_again : (i : Index) (l r h : Toks) → IsIndex i l r → IsIndex i (row (print_index i) h) h
index_again i l r h (an_index {t = t} {n = n} {a = a} k) =
    subst (λ z. IsIndex (index n a) z h) (sym (tree-literal (literal Int (decimal n) a) h)) (an_index (decimal_value t n k))

pub index_visible : (i : Index) (l r : Toks) → IsIndex i l r → Visible l → Visible r
index_visible i l r (an_index h) v = v

pub index_whole : (i : Index) (l r : Toks) → IsIndex i l r → Visible r → Visible l
index_whole i l r (an_index h) v = v

-- ---- members

pub member_sound : (s t : Stream) (x : Member) → Visible s.rest → read_member s ≡ Ok (x, t) → Taken IsMember s t x
unfolding read_member
member_sound s t x v e =
    elim (branch (sees_word is_ident s.rest) _ _ s (Ok (x, t)) e) [
      | inl y ↦ let k = mapped (read_word is_ident ident_name s) m.Named x t y.1 in
          let w = took_word is_ident ident_name s t k.value v k.was in
          record { spelt = subst (λ z. IsMember z s.rest t.rest) k.is (subst (λ z. IsMember (m.Named k.value) z t.rest) (sym w.is) (named w.meets)); left = w.left }
      | inr y ↦ elim (branch (sees_int s.rest) _ _ s (Ok (x, t)) y.1) [
        | inl z ↦ let k = mapped (read_index s) m.Unnamed x t z.1 in
            let w = index_sound s t k.value v k.was in
            record { spelt = subst (λ u. IsMember u s.rest t.rest) k.is (unnamed w.spelt); left = w.left }
        | inr z ↦ stuck z.1
      ]
    ]
  where
    stuck : no_member s ≡ Ok (x, t) → Taken IsMember s t x
    stuck h = cc

sees_named : (i : Ident) (r : Toks) → is_ident i.text ≡ true → sees_word is_ident (word i r) ≡ true
unfolding sees_word
sees_named i r h = h

reads_named : (i : Ident) (r : Toks) (f : Option Span) (e : Span) (sc : Scope) → is_ident i.text ≡ true → read_word is_ident ident_name (at (word i r) f e sc) ≡ Ok (i, at r f i.span sc)
unfolding read_word next_word
reads_named i r f e sc h = ap (λ (b : Bool). if b then Ok (i, at r f i.span sc) else Err (expected ident_name (at (word i r) f e sc))) h

no_name : (i : Index) (l r : Toks) → IsIndex i l r → sees_word is_ident l ≡ false
unfolding sees_word
no_name i l r (an_index h) = refl

pub member_complete : (x : Member) (l r : Toks) (f : Option Span) (e : Span) (sc : Scope) → IsMember x l r → Reads_to read_member x l r f e sc
unfolding read_member
member_complete x l r f e sc (named {i = i} h) =
    record { last = i.span; reads = chosen (sees_word is_ident (word i r)) true _ _ (at (word i r) f e sc) _ (sees_named i r h) (link _ (reads_named i r f e sc h) refl) }
member_complete x l r f e sc (unnamed {i = i} k) =
    let q = index_complete i l r f e sc k in
    record {
      last = q.last;
      reads = chosen (sees_word is_ident l) false _ _ (at l f e sc) _ (no_name i l r k) (chosen (sees_int l) true _ _ (at l f e sc) _ (int_seen i l r k) (link _ q.reads refl));
    }

pub member_again : (x : Member) (l r h : Toks) → IsMember x l r → IsMember x (row (print x) h) h
member_again x l r h (named {i = i} k) = subst (λ z. IsMember (m.Named i) z h) (sym (tree-ident i h)) (named k)
member_again x l r h (unnamed {i = i} k) = unnamed (index_again i l r h k)

pub member_visible : (x : Member) (l r : Toks) → IsMember x l r → Visible l → Visible r
member_visible x l r (named h) v = v
member_visible x l r (unnamed {i = i} k) v = index_visible i l r k v

pub member_whole : (x : Member) (l r : Toks) → IsMember x l r → Visible r → Visible l
member_whole x l r (named h) v = v
member_whole x l r (unnamed {i = i} k) v = index_whole i l r k v
