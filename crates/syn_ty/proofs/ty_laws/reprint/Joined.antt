-- What is made of forms that print clearly prints clearly: one after the other, what may be there, and lists after a colon.
use Rattle.std.proofs.Common.{◌≡◌, Bool, true, false, List, [], ◌∷◌, ◌++◌, map, Option, Some, None, option_map, refl, sym, ◌∙◌, ap, subst}
use Rattle.syn_ty.proofs.ty_laws.words.Tokens.{Lifetime, Ident, none_left, Anywhere, joined, Many, Print, Visible, IsMark, IsLifetime, Bytes, Toks, word, row}
use Rattle.syn_ty.proofs.ty_laws.words.Types.{colon, many, AreLifetimes, Relation, IsOptional, absent, present}
use Rattle.token_core.specs.Lifetimes as lifetimes
use Rattle.token_core.specs.Prints as p
use Rattle.token_core.specs.Tokens as token
use Rattle.token_core.proofs.Rebuilds.{tree-ident}
use Rattle.token_core.proofs.Rows.{row-append}
use Rattle.token_core.proofs.WordSpells.{lifetime_again, lifetime_visible, lifetime_whole}
use Rattle.syn_path.proofs.Words.{AgainFront}
use Rattle.syn_ty.specs.generics.Shapes.{lifetimes_joined}
use Rattle.syn_ty.specs.generics.Shapes as shown
use Rattle.syn_ty.proofs.ty_laws.reprint.Leaves.{mark_front, listed_front}

-- ---- forms made of others

-- one after the other
abbrev pub Then : {A B : Type 0} → Relation A → Relation B → Relation (A × B)
Then S T z l r = (m : Toks) × S z.0 l m × T z.1 m r

module _ {A B : Type 0} (S : Relation A) (n : A → A) (f : A → Print) (T : Relation B) (q : B → B) (g : B → Print) where
  pub then_front : (x : A) (y : B) (l m r : Toks) → AgainFront S n f x l m → AgainFront T q g y m r → AgainFront (Then S T) (λ z. (n z.0, q z.1)) (λ z. f z.0 ++ g z.1) (x, y) l r
  then_front x y l m r h t =
      record {
        spelt = λ k. subst (λ z. Then S T (n x, q y) z k) (sym (row-append (f x) (g y) k)) (row (g y) k, h.spelt (row (g y) k), t.spelt k);
        visible = λ k u v. subst Visible (sym (row-append (f x) (g y) k)) (h.visible (row (g y) k) u (t.visible k (h.seen u) v));
        seen = λ u. t.seen (h.seen u);
        stays = ap (λ z. (z, q (q y))) h.stays ∙ ap (λ z. (n x, z)) t.stays;
        same = ap (λ z. z ++ g (q y)) h.same ∙ ap (λ z. f x ++ z) t.same;
      }

-- a form that is made of another
module _ {A B : Type 0} (S : Relation A) (n : A → A) (f : A → Print) (T : Relation B) (m : B → B) (g : B → Print) (of : A → B)
    (norm : (x : A) → m (of x) ≡ of (n x)) (prints : (x : A) → g (of x) ≡ f x) (spells : (x : A) (l r : Toks) → S x l r → T (of x) l r) where
  pub made_front : (x : A) (l r : Toks) → AgainFront S n f x l r → AgainFront T m g (of x) l r
  made_front x l r h =
      record {
        spelt = λ k. subst (λ z. T z (row (g (of x)) k) k) (sym (norm x)) (subst (λ z. T (of (n x)) (row z k) k) (sym (prints x)) (spells (n x) (row (f x) k) k (h.spelt k)));
        visible = λ k u v. subst (λ z. Visible (row z k)) (sym (prints x)) (h.visible k u v);
        seen = λ u. h.seen u;
        stays = ap m (norm x) ∙ norm (n x) ∙ ap of h.stays ∙ sym (norm x);
        same = ap g (norm x) ∙ prints (n x) ∙ h.same ∙ sym (prints x);
      }

-- what may be there
module _ {A : Type 0} (S T : Relation A) (n : A → A) (f : A → Print) (again : (x : A) (l r : Toks) → S x l r → AgainFront T n f x l r) where
  pub optional_again : (o : Option A) (l r : Toks) → IsOptional S o l r → AgainFront (IsOptional T) (option_map n) (p.optional f) o l r
  optional_again o l r absent = record { spelt = λ k. absent; visible = λ k u v. v; seen = λ u. u; stays = refl; same = refl }
  optional_again o l r (present {a = x} i) =
      let h = again x l r i in
      record { spelt = λ k. present (h.spelt k); visible = λ k u v. h.visible k u v; seen = λ u. h.seen u; stays = ap (λ z. Some z) h.stays; same = h.same }

-- ---- lifetimes and identifiers

pub lifetime_front : (x : Lifetime) (l r : Toks) → IsLifetime x l r → AgainFront IsLifetime (λ (z : Lifetime). z) lifetimes.print x l r
lifetime_front x l r i =
    let again = λ (k : Toks). lifetime_again x l r k i in
    record { spelt = again; visible = λ k u v. lifetime_whole x (row (lifetimes.print x) k) k (again k) v; seen = λ u. lifetime_visible x l r i u; stays = refl; same = refl }

-- an identifier whose text meets a test
abbrev pub IsNamed : (Bytes → Bool) → Relation Ident
IsNamed test i l r = (l ≡ word i r) × (test i.text ≡ true)

pub named_front : (test : Bytes → Bool) (i : Ident) (r : Toks) → test i.text ≡ true → AgainFront (IsNamed test) (λ (z : Ident). z) p.ident i (word i r) r
named_front test i r h = record { spelt = λ k. (tree-ident i k, h); visible = λ k u v. subst Visible (sym (tree-ident i k)) v; seen = λ u. u; stays = refl; same = refl }

pub lifetimes_front : (v : Many Lifetime token.Plus) (l r : Toks) → AreLifetimes false v.0 v.1 l r →
    AgainFront (λ (z : Many Lifetime token.Plus). AreLifetimes true z.0 z.1) (many (λ (z : Lifetime). z)) lifetimes_joined v l r
lifetimes_front v l r i = listed_front (λ (_ : Bool). IsLifetime) (λ (_ : Bool). IsLifetime) (IsMark false) (IsMark true) Anywhere (λ z. z) lifetimes.print p.mark (λ _. lifetime_front) mark_front true v.0 v.1 l r i

-- ---- what stands after a colon

module _ {B : Type 0} (clear : Bool) (Are : Relation (Many B token.Plus)) where
  -- nothing, or `:` and a list
  pub data IsAfter : Option token.Colon × Many B token.Plus → Toks → Toks → Type 0 where
    none_after : {r : Toks} → IsAfter (None, ([], [])) r r
    some_after : {c : token.Colon} {v : Many B token.Plus} {l m r : Toks} → IsMark clear c l m → Are v m r → IsAfter (Some c, v) l r

-- a colon with an empty list is dropped
module _ {B : Type 0} (P Q : Relation (Many B token.Plus)) (n : B → B) (f : B → Print)
    (again : (v : Many B token.Plus) (l r : Toks) → P v l r → AgainFront Q (many n) (λ (z : Many B token.Plus). joined f p.mark z.0 z.1) v l r)
    (empty : (ps : List token.Plus) (l r : Toks) → P ([], ps) l r → (l ≡ r) × (ps ≡ [])) where
  abbrev pub After : Type 0
  After = Option token.Colon × Many B token.Plus

  abbrev pub normal_after : After → After
  normal_after z = (colon z.0 z.1.0, many n z.1)

  abbrev pub shown_after : After → Print
  shown_after z = shown.after_colon f z.0 z.1

  at_colon : (c : token.Colon) (xs : List B) (ps : List token.Plus) (l m r : Toks) → IsMark false c l m → P (xs, ps) m r → AgainFront (IsAfter true Q) normal_after shown_after (Some c, (xs, ps)) l r
  at_colon c [] ps l m r i j =
      let e = empty ps m r j in
      record {
        spelt = λ k. subst (λ (z : List token.Plus). IsAfter true Q (None, ([], z)) k k) (sym e.1) none_after;
        visible = λ k u v. v;
        seen = λ u. subst Visible e.0 ((mark_front c l m i).seen u);
        stays = refl;
        same = refl;
      }
  at_colon c (x ∷ xs) ps l m r i j =
      let h = then_front (IsMark true) (λ (z : token.Colon). z) (λ (z : token.Colon). p.mark z) Q (many n) (λ (z : Many B token.Plus). joined f p.mark z.0 z.1) c (x ∷ xs, ps) l m r (mark_front c l m i) (again (x ∷ xs, ps) m r j) in
      record {
        spelt = λ k. let t = h.spelt k in some_after t.1 t.2;
        visible = λ k u v. h.visible k u v;
        seen = λ u. h.seen u;
        stays = ap (λ (z : token.Colon × Many B token.Plus). (Some c, z.1)) h.stays;
        same = h.same;
      }

  pub after_front : (z : After) (l r : Toks) → IsAfter false P z l r → AgainFront (IsAfter true Q) normal_after shown_after z l r
  after_front z l r none_after = record { spelt = λ k. none_after; visible = λ k u v. v; seen = λ u. u; stays = refl; same = refl }
  after_front z l r (some_after {c = c} {v = v} {m = m} i j) = at_colon c v.0 v.1 l m r i j

-- ---- lifetimes after their colon

abbrev pub AreLives : Bool → Relation (Many Lifetime token.Plus)
AreLives clear v l r = AreLifetimes clear v.0 v.1 l r

no_lives : (ps : List token.Plus) (l r : Toks) → AreLives false ([], ps) l r → (l ≡ r) × (ps ≡ [])
no_lives ps l r (none_left u) = (refl, refl)

map_same : {T : Type 0} (l : List T) → map (λ z. z) l ≡ l
map_same [] = refl
map_same (x ∷ l) = ap (λ z. x ∷ z) (map_same l)

abbrev pub lives_after : Bool → Relation (Option token.Colon × Many Lifetime token.Plus)
lives_after clear = IsAfter clear (AreLives clear)

abbrev pub LivesAfter : Type 0
LivesAfter = Option token.Colon × Many Lifetime token.Plus

pub lives_front : (z : LivesAfter) (l r : Toks) → lives_after false z l r → AgainFront (lives_after true) (λ (y : LivesAfter). (colon y.0 y.1.0, y.1)) (λ (y : LivesAfter). shown.after_colon lifetimes.print y.0 y.1) z l r
lives_front z l r i =
    made_front (lives_after true) (λ (y : LivesAfter). (colon y.0 y.1.0, many (λ x. x) y.1)) (λ (y : LivesAfter). shown.after_colon lifetimes.print y.0 y.1)
    (lives_after true) (λ (y : LivesAfter). (colon y.0 y.1.0, y.1)) (λ (y : LivesAfter). shown.after_colon lifetimes.print y.0 y.1) (λ y. y)
    (λ y. ap (λ (x : List Lifetime). (colon y.0 y.1.0, (x, y.1.1))) (sym (map_same y.1.0))) (λ y. refl) (λ y a b h. h) z l r
    (after_front (AreLives false) (AreLives true) (λ x. x) lifetimes.print lifetimes_front no_lives z l r i)

-- lifetimes are their own normal form
pub lives_again : (v : Many Lifetime token.Plus) (l r : Toks) → AreLives false v l r → AgainFront (AreLives true) (λ (z : Many Lifetime token.Plus). z) lifetimes_joined v l r
lives_again v l r i =
    made_front (AreLives true) (many (λ x. x)) lifetimes_joined (AreLives true) (λ (z : Many Lifetime token.Plus). z) lifetimes_joined (λ y. y)
    (λ y. ap (λ (x : List Lifetime). (x, y.1)) (sym (map_same y.0))) (λ y. refl) (λ y a b h. h) v l r (lifetimes_front v l r i)
