-- Where a bound is read in its place, it is spelt by the rules of the whole grammar: a lifetime, a capture, or a trait bound, also in parentheses.
use Rattle.std.proofs.Common.{◌≡◌, Bool, true, false, not, [], ◌∷◌, Option, Some, None, Ok, inl, inr, refl, sym, ◌∙◌, ap, subst, arith}
use Rattle.syn_ty.proofs.ty_laws.words.Tokens.{DelimSpan, Paren, Parenthesis, Ident, sees_lifetime, read_lifetime, AreListed, Anywhere, Many, Reader, any_text, here, ident_name, in_group, leaves, pure, read_word, sees_group, sees_word, Visible, IsMark, IsWord, IsLifetime, Stream, Toks, done, word, group}
use Rattle.syn_ty.proofs.ty_laws.words.Forms.{BoundPlace, Binder, list, is_named_word, allows_const, refuse_since}
use Rattle.syn_ty.proofs.ty_laws.words.Types.{CapturedParam, PreciseCapture, out-roll-TraitBoundOf, TraitBoundModifiers, IsCaptured, a_lifetime_captured, a_name_captured, IsCapture, a_capture, IsTraitBound, a_trait_bound, IsBound, a_lifetime_bound, a_bare_bound, a_bound_in_parens, a_capture_bound, held_bound, trait_bound_of, captured_comma, listed_captured, trait_in, Manner, loosely, End, closed, Parts, Readers, BoundLifetimes, Path, TraitBound, TypeParamBound}
use Rattle.token_core.specs.declared.error.ErrorKind.TheVariants.{CaptureNotAllowed}
use Rattle.token_core.specs.Groups as groups
use Rattle.token_core.specs.Tokens as token
use Rattle.token_core.proofs.Listings.{listed_sound, listed_visible}
use Rattle.token_core.proofs.MarkSpells.{mark_sound, mark_visible}
use Rattle.token_core.proofs.Took.{branch, mapped, took_word}
use Rattle.token_core.proofs.Turns.{chain, same_pair}
use Rattle.syn_path.proofs.Words.{TookOne}
use Rattle.syn_forms.specs.places.Reading.{allows_capture}
use Rattle.syn_forms.specs.tokens.Choices.{none_of, a_gt, a_lifetime, an_ident}
use Rattle.syn_forms.proofs.tokens_laws.Fronts.{took_as, took_whole}
use Rattle.syn_ty.specs.declared.generics.CapturedParam.TheVariants as c
use Rattle.syn_ty.specs.declared.generics.TypeParamBoundOf.TheVariants as b
use Rattle.syn_ty.specs.generics.Params.{capture_of, held_layer}
use Rattle.syn_ty.specs.generics.Reading as reading
use Rattle.syn_ty.specs.generics.Reading.{captured_or, sees_captured_ident}
use Rattle.syn_ty.proofs.ty_laws.sound.Leaves.{IsHeld, comma_seen, comma_took, held_sound, life_sound, named_sound, twice}
use Rattle.syn_ty.proofs.ty_laws.sound.Forms.{Told, never_open}
use Rattle.syn_ty.proofs.ty_laws.sound.Traits.{trait_in_took}
use Rattle.syn_ty.proofs.ty_laws.sound.Within.{Held}

-- ---- captures

abbrev Refuses : {A : Type 0} → Reader A → Type 0
Refuses {A} p = (s t : Stream) (x : A) → p s ≡ Ok (x, t) → ⊥

-- an `Ident` or `Self`
named_word : (i : Ident) (k : Toks) → sees_captured_ident (word i k) ≡ true → is_named_word i.text ≡ true
unfolding sees_word
named_word i k h = h

captured_or_took : (other : Reader CapturedParam) → Refuses other → (s t : Stream) (x : CapturedParam) → Visible s.rest → captured_or other s ≡ Ok (x, t) → TookOne IsCaptured s t x
captured_or_took other never s t x v e =
    elim (branch (sees_lifetime s.rest) _ _ s (Ok (x, t)) e) [
      | inl y ↦ let k = mapped (read_lifetime s) c.Lifetime x t y.1 in
          took_as {Is = IsLifetime} {Js = IsCaptured} c.Lifetime s t k.value x k.is (λ l m i. a_lifetime_captured i) (life_sound s t k.value v k.was)
      | inr y ↦ elim (branch (sees_captured_ident s.rest) _ _ s (Ok (x, t)) y.1) [
        | inl z ↦ let k = mapped (read_word any_text ident_name s) c.Ident x t z.1 in
            let w = took_word any_text ident_name s t k.value v k.was in
            let m = named_word k.value t.rest (subst (λ l. sees_captured_ident l ≡ true) w.is z.0) in
            record {
              left = λ n. sym w.left ∙ n;
              seen = subst Visible w.is v;
              spelt = λ n. subst (λ q. IsCaptured q s.rest t.rest) k.is (subst (λ q. IsCaptured (c.Ident k.value) q t.rest) (sym w.is) (a_name_captured m));
            }
        | inr z ↦ absurd (never s t x z.1)
      ]
    ]

pub captured_took : (s t : Stream) (x : CapturedParam) → Visible s.rest → reading.captured s ≡ Ok (x, t) → TookOne IsCaptured s t x
unfolding reading.captured
captured_took s t x v e = captured_or_took (none_of (a_lifetime ∷ an_ident ∷ [])) (λ a d y i. cc i) s t x v e

listed_took : (s t : Stream) (x : CapturedParam) → Visible s.rest → listed_captured s ≡ Ok (x, t) → TookOne IsCaptured s t x
unfolding listed_captured
listed_took s t x v e = captured_or_took (none_of (a_lifetime ∷ an_ident ∷ a_gt ∷ [])) (λ a d y i. cc i) s t x v e

is_comma : (s t : Stream) (x : token.Comma) → captured_comma s ≡ Ok (x, t) → token.comma s ≡ Ok (x, t)
unfolding captured_comma
is_comma s t x e = elim (branch (token.sees_comma s.rest) _ _ s (Ok (x, t)) e) [ inl y ↦ y.1 | inr y ↦ cc y.1 ]

abbrev Params : Type 0
Params = Many CapturedParam token.Comma

abbrev AreCaptured : Params → Toks → Toks → Type 0
AreCaptured w l k = AreListed (λ (_ : Bool). IsCaptured) (IsMark false) Anywhere true w.0 w.1 l k

abbrev params : Reader Params
params = list (λ first. token.sees_gt) listed_captured (λ l. not (token.sees_gt l)) captured_comma true

params_took : (s t : Stream) (w : Params) → Visible s.rest → params s ≡ Ok (w, t) → TookOne AreCaptured s t w
params_took s t w v e =
    let all = listed_sound (λ (_ : Bool). token.sees_gt) (λ (_ : Bool). listed_captured) (λ l. not (token.sees_gt l)) captured_comma (λ (_ : Bool). IsCaptured) (IsMark false) Anywhere (λ (z : Stream). z.left ≡ None)
    (λ f l k. tt) (λ f a d x u i. (listed_took a d x u i).seen) (λ a d x u i. comma_seen a d x u (is_comma a d x i))
    (λ f a d x u g i n. let k = listed_took a d x u i in (k.left n, k.spelt n)) (λ a d x u g i. comma_took a d x u (is_comma a d x i)) true s t w v e in
    record {
      left = λ n. (all n).0;
      seen = listed_visible (λ (_ : Bool). token.sees_gt) (λ (_ : Bool). listed_captured) (λ l. not (token.sees_gt l)) captured_comma (λ (_ : Bool). IsCaptured) (IsMark false) Anywhere (λ (z : Stream). z.left ≡ None)
          (λ f l k. tt) (λ f a d x u i. (listed_took a d x u i).seen) (λ a d x u i. comma_seen a d x u (is_comma a d x i))
          (λ f a d x u g i n. let k = listed_took a d x u i in (k.left n, k.spelt n)) (λ a d x u g i. comma_took a d x u (is_comma a d x i)) true s t w v e;
      spelt = λ n. (all n).1;
    }

capture_at : (u : token.Use) (o : token.Lt) (w : Params) (g : token.Gt) (l m n k j : Toks) → IsWord u l m → IsMark false o m n → AreCaptured w n k → IsMark false g k j → IsCapture false (capture_of u o w g) l j
capture_at u o w g l m n k j a d f i = a_capture a d f i

pub capture_took : (s t : Stream) (x : PreciseCapture) → Visible s.rest → reading.capture s ≡ Ok (x, t) → TookOne (IsCapture false) s t x
unfolding reading.capture
capture_took s t x v e =
    let a = chain (token.use_word s) _ x t e in
    let ka = named_sound {n = 17} s a.rest a.value v a.was in
    let d = chain (token.lt a.rest) _ x t a.goes in
    let kd = mark_sound {n = 2} {k = 1} refl (omega arith) a.rest d.rest d.value ka.seen d.was in
    let vd = mark_visible false {n = 2} {k = 1} d.value a.rest.rest d.rest.rest kd.spelt ka.seen in
    let f = chain (params d.rest) _ x t d.goes in
    let kf = params_took d.rest f.rest f.value vd f.was in
    let g = chain (token.gt f.rest) _ x t f.goes in
    let kg = mark_sound {n = 3} {k = 1} refl (omega arith) f.rest g.rest g.value kf.seen g.was in
    let q = same_pair (capture_of a.value d.value f.value g.value) x g.rest t g.goes in
    let w : TookOne (IsCapture false) s g.rest (capture_of a.value d.value f.value g.value) = record {
      left = λ n. ka.left (sym kd.left ∙ kf.left (sym kg.left ∙ n));
      seen = mark_visible false {n = 3} {k = 1} g.value f.rest.rest g.rest.rest kg.spelt kf.seen;
      spelt = λ n.
          let nf = sym kg.left ∙ n in
          capture_at a.value d.value f.value g.value s.rest a.rest.rest d.rest.rest f.rest.rest g.rest.rest (ka.spelt (sym kd.left ∙ kf.left nf)) kd.spelt (kf.spelt nf) kg.spelt;
    } in
    subst (λ z. TookOne (IsCapture false) s z x) q.1 (subst (λ z. TookOne (IsCapture false) s g.rest z) q.0 w)

-- ---- bounds in their places

module _ {A E : Type 0} (r : Readers A E) (part : Manner → Parts A E) (h : Held r part) where
  abbrev Bound : Type 0
  Bound = TypeParamBound A E

  abbrev Trait : Type 0
  Trait = TraitBound A E

  abbrev For : Type 0
  For = Option (BoundLifetimes A E)

  module _ (place : BoundPlace) where
    abbrev Of : Bound → Toks → Toks → Type 0
    Of = Told (IsBound part loosely place)

    at_answer : (s c t : Stream) (x y : Bound) → (x ≡ y) × (c ≡ t) → TookOne Of s c x → TookOne Of s t y
    at_answer s c t x y g w = subst (λ z. TookOne Of s t z) g.0 (subst (λ z. TookOne Of s z x) g.1 w)

    abbrev inner : Reader Trait
    inner = trait_in r (allows_const place)

    abbrev InPlace : Trait → Toks → Toks → Type 0
    InPlace = Told (IsTraitBound part loosely (allows_const place))

    inner_took : (s t : Stream) (x : Trait) → Visible s.rest → inner s ≡ Ok (x, t) → TookOne InPlace s t x
    inner_took = trait_in_took r part h.ty (h.param Binder) h.arguments h.pair (allows_const place)

    -- ---- in parentheses

    -- as all of a content
    abbrev IsAll : Trait → Toks → Type 0
    IsAll x l = InPlace x l done

    all_took : (s t : Stream) (x : Trait) → Visible s.rest → inner s ≡ Ok (x, t) → leaves t ≡ None → IsAll x s.rest
    all_took s t x v e n = took_whole {Is = InPlace} s t x (inner_took s t x v e) n

    held_is : (p : Paren) (o : For) (m : TraitBoundModifiers) (q : Option token.Question) (x : Path A E) → held_bound p (trait_bound_of None o m q x) ≡ trait_bound_of (Some p) o m q x
    held_is p o m q x = ap (held_layer p) (out-roll-TraitBoundOf A E (record { paren_token = None; lifetimes = o; modifiers = m; maybe = q; path = x }))

    bound_in_parens : (i : DelimSpan) (e : End) (x : Trait) (l k : Toks) → IsTraitBound part loosely (allows_const place) e x l done → IsBound part loosely place closed (b.Trait (held_bound (groups.paren i) x)) (group Parenthesis i l k) k
    bound_in_parens i e x l k (a_trait_bound {o = o} {x = m} {q = q} {p = p} w) =
        subst (λ z. IsBound part loosely place closed (b.Trait z) (group Parenthesis i l k) k) (sym (held_is (groups.paren i) o m q p)) (a_bound_in_parens w)

    held_at : (g : DelimSpan × Trait) (l k : Toks) → IsHeld Parenthesis IsAll g l k → Of (b.Trait (held_bound (groups.paren g.0) g.1)) l k
    held_at g l k w =
        (closed, subst (λ z. IsBound part loosely place closed (b.Trait (held_bound (groups.paren g.0) g.1)) z k) (sym w.is) (bound_in_parens g.0 w.holds.0 g.1 w.content k w.holds.1), never_open, never_open)

    -- what is neither a lifetime nor a capture
    pub trait_in_place_took : (s t : Stream) (x : Bound) → Visible s.rest → reading.trait_in_place r place s ≡ Ok (x, t) → TookOne Of s t x
    unfolding reading.trait_in_place
    trait_in_place_took s t x v e =
        elim (branch (sees_group Parenthesis s.rest) _ _ s (Ok (x, t)) e) [
          | inl y ↦ let k = twice (in_group Parenthesis groups.paren_name inner s) (λ g. (groups.paren g.0, g.1)) (λ g. b.Trait (held_bound g.0 g.1)) x t y.1 in
              took_as {Is = IsHeld Parenthesis IsAll} {Js = Of} (λ g. b.Trait (held_bound (groups.paren g.0) g.1)) s t k.value x k.is (held_at k.value)
              (held_sound Parenthesis IsAll groups.paren_name inner all_took s t k.value v k.was)
          | inr y ↦ let k = mapped (inner s) b.Trait x t y.1 in
              took_as {Is = InPlace} {Js = Of} b.Trait s t k.value x k.is (λ l m i. (i.0, a_bare_bound i.1, i.2, i.3)) (inner_took s t k.value v k.was)
        ]

    pub capture_in_place_took : (s t : Stream) (x : Bound) → Visible s.rest → reading.capture_in_place r place s ≡ Ok (x, t) → TookOne Of s t x
    unfolding reading.capture_in_place
    capture_in_place_took s t x v e =
        let d = chain (reading.capture s) _ x t e in
        let k = capture_took s d.rest d.value v d.was in
        elim (branch (allows_capture place) (pure (b.PreciseCapture d.value)) (refuse_since CaptureNotAllowed (here s)) d.rest (Ok (x, t)) d.goes) [
          | inl y ↦ at_answer s d.rest t (b.PreciseCapture d.value) x (same_pair (b.PreciseCapture d.value) x d.rest t y.1)
              (record { left = k.left; seen = k.seen; spelt = λ n. (closed, a_capture_bound y.0 (k.spelt n), never_open, never_open) })
          | inr y ↦ cc y.1
        ]

    -- a turn of the knot
    pub bound_took : (s t : Stream) (x : Bound) → Visible s.rest → reading.bound_step r place s ≡ Ok (x, t) → TookOne Of s t x
    unfolding reading.bound_step
    bound_took s t x v e =
        elim (branch (sees_lifetime s.rest) _ _ s (Ok (x, t)) e) [
          | inl y ↦ let k = mapped (read_lifetime s) b.Lifetime x t y.1 in
              took_as {Is = IsLifetime} {Js = Of} b.Lifetime s t k.value x k.is (λ l m i. (closed, a_lifetime_bound i, never_open, never_open)) (life_sound s t k.value v k.was)
          | inr y ↦ elim (branch (token.sees_use s.rest) _ _ s (Ok (x, t)) y.1) [
            | inl z ↦ capture_in_place_took s t x v z.1
            | inr z ↦ trait_in_place_took s t x v z.1
          ]
        ]
