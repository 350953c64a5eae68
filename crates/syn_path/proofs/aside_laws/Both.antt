-- What is made of equal parts is equal.
use Rattle.std.proofs.Common.{◌≡◌, List, ◌∷◌, ap₂}

module _ {A B C R : Type 0} where
  pub of3 : (f : A → B → C → R) {a x : A} {b y : B} {c z : C} → a ≡ x → b ≡ y → c ≡ z → f a b c ≡ f x y z
  of3 f e g h = ap₂ (λ (k : C → R) (t : C). k t) (ap₂ f e g) h

module _ {A B C D R : Type 0} where
  pub of4 : (f : A → B → C → D → R) {a x : A} {b y : B} {c z : C} {d w : D} → a ≡ x → b ≡ y → c ≡ z → d ≡ w → f a b c d ≡ f x y z w
  of4 f e g h i = ap₂ (λ (k : D → R) (t : D). k t) (of3 f e g h) i

module _ {A B C D E R : Type 0} where
  pub of5 : (f : A → B → C → D → E → R) {a x : A} {b y : B} {c z : C} {d w : D} {o v : E} → a ≡ x → b ≡ y → c ≡ z → d ≡ w → o ≡ v → f a b c d o ≡ f x y z w v
  of5 f e g h i j = ap₂ (λ (k : E → R) (t : E). k t) (of4 f e g h i) j

module _ {A R : Type 0} where
  pub more : {f g : A → R} {a x : A} → f ≡ g → a ≡ x → f a ≡ g x
  more e h = ap₂ (λ (k : A → R) (t : A). k t) e h

module _ {A : Type 0} where
  pub cons_same : {x y : A} {xs ys : List A} → x ≡ y → xs ≡ ys → ◌≡◌ {A = List A} (x ∷ xs) (y ∷ ys)
  cons_same e f = ap₂ (λ (z : A) (zs : List A). z ∷ zs) e f
