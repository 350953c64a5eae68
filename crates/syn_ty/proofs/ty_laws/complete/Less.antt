-- Fewer tokens are left after a token, after a list of values that each take some, and after a macro call.
use Rattle.std.proofs.Common.{◌≡◌, ℕ, Bool, false, List, ◌∷◌, Option, subst, arith}
use Rattle.syn_ty.proofs.ty_laws.words.Tokens.{Lifetime, LitStr, Mark, DelimSpan, Span, Delimiter, Ident, Punct, Joint, Word, AreListed, none_left, last_value, value_and_mark, last_char, more_chars, IsMark, is_mark, IsWord, is_word, IsLifetime, is_lifetime, IsStr, Bytes, Toks, word, mark, group, punct}
use Rattle.syn_ty.proofs.ty_laws.words.Paths.{Macro, PathOf, PathSegmentOf, IsCall, a_macro, Sep, IsLeading, no_leading, leading, AreSegments, last_segment, more_segments, IsBarePath, a_bare_path}
use Rattle.syn_ty.proofs.ty_laws.words.Forms.{PointerMutability, IsMutability, a_const, a_mut}
use Rattle.syn_ty.proofs.ty_laws.words.Types.{Relation, IsOptional, absent, present}
use Rattle.token_core.specs.Marks.{chars_of}
use Rattle.token_core.specs.Spellings.{AreChars, no_char, a_str}
use Rattle.syn_forms.proofs.nested_laws.Ahead.{weight-group}
use Rattle.syn_ty.proofs.ty_laws.complete.Within.{Less, NoMore}

-- ---- one after the other

pub same : {l : Toks} → NoMore l l
same = record { light = omega arith; short = omega arith }

pub some : {l k : Toks} → Less l k → NoMore l k
some h = let a = h.lighter in let b = h.shorter in record { light = omega (arith, a); short = omega (arith, b) }

pub no_no : {l m k : Toks} → NoMore l m → NoMore m k → NoMore l k
no_no h g =
    let a = h.light in
    let b = g.light in
    let c = h.short in
    let d = g.short in
    record { light = omega (arith, a, b); short = omega (arith, c, d) }

pub no_less : {l m k : Toks} → NoMore l m → Less m k → Less l k
no_less h g =
    let a = h.light in
    let b = g.lighter in
    let c = h.short in
    let d = g.shorter in
    record { lighter = omega (arith, a, b); shorter = omega (arith, c, d) }

pub less_no : {l m k : Toks} → Less l m → NoMore m k → Less l k
less_no h g =
    let a = h.lighter in
    let b = g.light in
    let c = h.shorter in
    let d = g.short in
    record { lighter = omega (arith, a, b); shorter = omega (arith, c, d) }

pub less_less : {l m k : Toks} → Less l m → Less m k → Less l k
less_less h g = less_no h (some g)

-- ---- one token

pub word_less : (i : Ident) (k : Toks) → Less (word i k) k
word_less i k = record { lighter = omega arith; shorter = omega arith }

pub mark_less : (p : Punct) (k : Toks) → Less (mark p k) k
mark_less p k = record { lighter = omega arith; shorter = omega arith }

pub group_less : (d : Delimiter) (s : DelimSpan) (c k : Toks) → Less (group d s c k) k
group_less d s c k = let h = weight-group d s c k in record { lighter = omega (arith, h); shorter = omega arith }

-- ---- marks, words, lifetimes and strings

module _ (clear : Bool) (all : List ℕ) where
  chars_no : (cs : List ℕ) (ss : List Span) (l r : Toks) → AreChars clear all cs ss l r → NoMore l r
  chars_no cs ss l r no_char = same
  chars_no cs ss l r (last_char {c = c} {a = a} {j = j} x) = some (mark_less (punct c j a) r)
  chars_no cs ss l r (more_chars {c = c} {d = d} {cs = ds} {a = a} {ss = ts} {l = m} x) = some (less_no (mark_less (punct c Joint a) m) (chars_no (d ∷ ds) ts m r x))

  chars_less : (c : ℕ) (cs : List ℕ) (ss : List Span) (l r : Toks) → AreChars clear all (c ∷ cs) ss l r → Less l r
  chars_less c cs ss l r (last_char {a = a} {j = j} x) = mark_less (punct c j a) r
  chars_less c cs ss l r (more_chars {d = d} {cs = ds} {a = a} {ss = ts} {l = m} x) = less_no (mark_less (punct c Joint a) m) (chars_no (d ∷ ds) ts m r x)

module _ {clear : Bool} {n k : ℕ} where
  pub mark_no : (m : Mark n k) (l r : Toks) → IsMark clear m l r → NoMore l r
  mark_no m l r (is_mark {ss = ss} i) = chars_no clear (chars_of n) (chars_of n) ss l r i

  -- of a character or more
  pub mark_takes : (c : ℕ) (cs : List ℕ) → chars_of n ≡ c ∷ cs → (m : Mark n k) (l r : Toks) → IsMark clear m l r → Less l r
  mark_takes c cs h m l r (is_mark {ss = ss} i) = chars_less clear (chars_of n) c cs ss l r (subst (λ z. AreChars clear (chars_of n) z ss l r) h i)

pub word_takes : {n : ℕ} (w : Word n) (l r : Toks) → IsWord w l r → Less l r
word_takes w l r is_word = word_less _ r

pub lifetime_takes : (x : Lifetime) (l r : Toks) → IsLifetime x l r → Less l r
lifetime_takes x l r (is_lifetime {a = a} {i = i}) = less_less (mark_less (punct 39 Joint a) (word i r)) (word_less i r)

pub str_takes : (x : LitStr) (l r : Toks) → IsStr x l r → Less l r
str_takes x l r a_str = record { lighter = omega arith; shorter = omega arith }

pub mutability_takes : (q : PointerMutability) (l r : Toks) → IsMutability q l r → Less l r
mutability_takes q l r (a_const {w = w} i) = word_takes w l r i
mutability_takes q l r (a_mut {w = w} i) = word_takes w l r i

-- ---- what may be there

pub optional_no : {A : Type 0} {Is : Relation A} → ((a : A) (l r : Toks) → Is a l r → NoMore l r) → (o : Option A) (l r : Toks) → IsOptional Is o l r → NoMore l r
optional_no h o l r absent = same
optional_no h o l r (present {a = a} i) = h a l r i

-- ---- lists

module _ {A P : Type 0} {V : Bool → A → Toks → Toks → Type 0} {M : P → Toks → Toks → Type 0} {Ends : Bool → Type 0} (values : (b : Bool) (x : A) (l r : Toks) → V b x l r → Less l r) (marks : (p : P) (l r : Toks) → M p l r → NoMore l r) where
  pub listed_no : (b : Bool) (xs : List A) (ps : List P) (l r : Toks) → AreListed V M Ends b xs ps l r → NoMore l r
  listed_no b xs ps l r (none_left e) = same
  listed_no b xs ps l r (last_value {x = x} i) = some (values b x l r i)
  listed_no b xs ps l r (value_and_mark {x = x} {p = p} {xs = ys} {ps = qs} {m = m} {k = k} i j n) = no_no (some (values b x l m i)) (no_no (marks p m k j) (listed_no false ys qs k r n))

  -- one that is not empty
  pub listed_less : (b : Bool) → (Ends b → ⊥) → (xs : List A) (ps : List P) (l r : Toks) → AreListed V M Ends b xs ps l r → Less l r
  listed_less b never xs ps l r (none_left e) = absurd (never e)
  listed_less b never xs ps l r (last_value {x = x} i) = values b x l r i
  listed_less b never xs ps l r (value_and_mark {x = x} {p = p} {xs = ys} {ps = qs} {m = m} {k = k} i j n) = less_no (values b x l m i) (no_no (marks p m k j) (listed_no false ys qs k r n))

-- ---- macro calls

module _ (clear : Bool) where
  leading_no : (o : Option Sep) (l r : Toks) → IsLeading clear o l r → NoMore l r
  leading_no o l r no_leading = same
  leading_no o l r (leading {a = a} {b = b} {j = j} c) = some (less_less (mark_less (punct 58 Joint a) (mark (punct 58 j b) r)) (mark_less (punct 58 j b) r))

  module _ {A : Type 0} {none : A} (ok : Bytes → Bool) where
    segments_less : (all : List (PathSegmentOf A)) (seps : List Sep) (l r : Toks) → AreSegments clear ok none all seps l r → Less l r
    segments_less all seps l r (last_segment {i = i} h) = word_less i r
    segments_less all seps l r (more_segments {i = i} {a = a} {b = b} {j = j} {all = xs} {seps = ps} {l = k} h c n) =
        less_less (word_less i (mark (punct 58 Joint a) (mark (punct 58 j b) k)))
        (less_less (mark_less (punct 58 Joint a) (mark (punct 58 j b) k)) (less_less (mark_less (punct 58 j b) k) (segments_less xs ps k r n)))

    bare_path_less : (p : PathOf A) (l r : Toks) → IsBarePath clear ok none p l r → Less l r
    bare_path_less p l r (a_bare_path {o = o} {all = all} {seps = seps} {m = k} i n) = no_less (leading_no o l k i) (segments_less all seps k r n)

  pub call_less : (ok : Bytes → Bool) (x : Macro) (l r : Toks) → IsCall clear ok x l r → Less l r
  call_less ok x l r (a_macro {p = p} {a = a} {j = j} {d = d} {s = b} {c = c} i h e k) =
      less_less (bare_path_less ok p l (mark (punct 33 j a) (group d b c r)) i) (less_less (mark_less (punct 33 j a) (group d b c r)) (group_less d b c r))
