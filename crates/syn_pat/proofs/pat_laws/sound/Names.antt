-- What the first tokens of a pattern tell of the path that it begins with: it does not begin with `try`, and where it is a lone word, that is what stands before what follows it.
use Rattle.std.proofs.Common.{◌≡◌, ℕ, zero, suc, Bool, true, false, not, ◌&&◌, ◌||◌, ◌⊎◌, ◌==◌, if◌then◌else◌, inl, inr, List, Option, Some, None, is_some, refl, sym, ◌∙◌, ap, subst}
use Rattle.std.proofs.lemmas.Bool.{eqb-true}
use Rattle.std.proofs.lemmas.Slice.Eq.{bytes_eq-Decides}
use Rattle.syn_pat.proofs.pat_laws.words.Tokens.{Brace, Parenthesis, Ident, Punct, is_keyword, none_left, last_value, value_and_mark, sees_lit, text_of, after_one, is_ident, is_text, sees_group, sees_mark, sees_word, Visible, punct, Bytes, Toks, done, word, mark, lit, group, enter, leave}
use Rattle.syn_pat.proofs.pat_laws.words.Paths.{Place, is_mod_word}
use Rattle.syn_pat.proofs.pat_laws.words.Forms.{goes_on}
use Rattle.syn_pat.proofs.pat_laws.words.Attributes.{Expr}
use Rattle.syn_pat.proofs.pat_laws.words.Types.{is_none, is_mod_style, AreSegments, IsAnyPath, qualified, unqualified, IsSegment, IsPath, a_path, a_word, a_word_with_arguments, loosely, sees_call, absent, present, Path, PathSegment, QSelf}
use Rattle.syn_pat.proofs.pat_laws.words.Patterns.{begins_bound, begins_path, sees_bound_path, sees_named_path, sees_self_path, is_binding, is_binding_name, is_self, lone_word, types_to}
use Rattle.token_core.specs.Reads.{third}
use Rattle.token_core.specs.Tokens as token
use Rattle.syn_path.specs.declared.path.PathStyle.TheVariants.{Expr as expressions}
use Rattle.syn_path.specs.path.Paths.{lone, path_of}
use Rattle.syn_attr.specs.attr.Attrs.{Attribute as Attr}
use Rattle.syn_forms.specs.paths.Reading.{with_arguments}
use Rattle.syn_ty.specs.declared.path.PathArgumentsOf.TheVariants as a
use Rattle.syn_ty.specs.path.Paths.{no_arguments, none_layer}
use Rattle.syn_ty.specs.path.Spelling.{IsArguments, some_arguments}
use Rattle.syn_ty.specs.ty.Trees.{PathArguments}
use Rattle.syn_pat.proofs.pat_laws.sound.Within.{or_none, sees_called, Stops}

-- ---- what a word begins, by its text

abbrev begins_word : Bytes → Toks → Bool
begins_word t k =
    (is_ident t && (token.sees_path_sep k || (token.sees_bang k || (sees_group Brace k || (sees_group Parenthesis k || token.sees_dot_dot k)))))
    || ((is_text token.self_value_text t && token.sees_path_sep k) || (false || (false || (is_text token.self_type_text t || (is_text token.super_text t || is_text token.crate_text t)))))

word_begins : (i : Ident) (k : Toks) → begins_path (word i k) ≡ begins_word i.text k
unfolding begins_path sees_named_path sees_self_path sees_word sees_mark after_one
word_begins i k = refl

-- ---- no path of a pattern begins with `try`

try_begins : (t : Bytes) (k : Toks) → is_text token.try_text t ≡ true → begins_word t k ≡ false
unfolding is_keyword
try_begins t k h = ap (λ z. begins_word z k) ((bytes_eq-Decides t _).0 h)

try_mod : (t : Bytes) → is_text token.try_text t ≡ true → is_mod_word t ≡ false
unfolding is_keyword
try_mod t h = ap is_mod_word ((bytes_eq-Decides t _).0 h)

-- where a test that fails on `try` holds
not_try : (b c : Bool) → (b ≡ true → c ≡ false) → c ≡ true → b ≡ false
not_try true c f h = cc (f refl, h)
not_try false c f h = refl

pub no_try : (l : Toks) → Visible l → begins_path l ≡ true → token.sees_try l ≡ false
unfolding sees_word
no_try done v h = refl
no_try (word i k) v h = not_try (is_text token.try_text i.text) (begins_word i.text k) (try_begins i.text k) (sym (word_begins i k) ∙ h)
no_try (mark p k) v h = refl
no_try (lit x k) v h = refl
no_try (group d s c k) v h = refl
no_try (enter s k) v h = absurd v
no_try (leave k) v h = absurd v

bound_word : (i : Ident) (k : Toks) → sees_bound_path (word i k) ≡ (is_mod_word i.text || (false || false))
unfolding sees_bound_path sees_word sees_mark
bound_word i k = refl

mod_only : (b : Bool) → b || (false || false) ≡ true → b ≡ true
mod_only true h = refl
mod_only false h = cc h

pub no_try_bound : (l : Toks) → Visible l → sees_bound_path l ≡ true → token.sees_try l ≡ false
unfolding sees_word
no_try_bound done v h = refl
no_try_bound (word i k) v h = not_try (is_text token.try_text i.text) (is_mod_word i.text) (try_mod i.text) (mod_only (is_mod_word i.text) (sym (bound_word i k) ∙ h))
no_try_bound (mark p k) v h = refl
no_try_bound (lit x k) v h = refl
no_try_bound (group d s c k) v h = refl
no_try_bound (enter s k) v h = absurd v
no_try_bound (leave k) v h = absurd v

-- what begins a bound and is no literal is no path

const_mod : (t : Bytes) → is_text (text_of 6) t ≡ true → is_mod_word t ≡ false
unfolding is_keyword
const_mod t h = ap is_mod_word ((bytes_eq-Decides t _).0 h)

pub contrary : (b : Bool) → b ≡ true → b ≡ false → ⊥
contrary true h g = cc g
contrary false h g = cc h

one_char : {A : Type 0} (b : Bool) (x : A) → is_some (if b then Some x else None) ≡ true → b ≡ true
one_char true x h = refl
one_char false x h = cc h

minus_char : (p : Punct) (k : Toks) → token.sees_minus (mark p k) ≡ true → p.ch ≡ 45
unfolding sees_mark
minus_char p k h = eqb-true p.ch 45 (one_char (p.ch == 45) _ h)

minus_no_path : (p : Punct) (k : Toks) → p.ch ≡ 45 → sees_bound_path (mark p k) ≡ false
unfolding sees_bound_path sees_word sees_mark
minus_no_path p k h = ap (λ c. sees_bound_path (mark (punct c p.spacing p.span) k)) h

minus_only : (p : Punct) (k : Toks) → begins_bound (mark p k) ≡ true → sees_lit (mark p k) ≡ false → token.sees_minus (mark p k) ≡ true
unfolding begins_bound sees_word
minus_only p k h n = mod_only (token.sees_minus (mark p k)) (subst (λ z. token.sees_minus (mark p k) || (z || false) ≡ true) n h)

const_only : (i : Ident) (k : Toks) → begins_bound (word i k) ≡ true → sees_lit (word i k) ≡ false → is_text (text_of 6) i.text ≡ true
unfolding begins_bound sees_word sees_mark
const_only i k h n = subst (λ z. z || is_text (text_of 6) i.text ≡ true) n h

pub no_path_bound : (l : Toks) → Visible l → begins_bound l ≡ true → sees_lit l ≡ false → sees_bound_path l ≡ true → ⊥
unfolding sees_bound_path sees_word sees_mark sees_lit
no_path_bound done v h n g = cc g
no_path_bound (word i k) v h n g = contrary (is_mod_word i.text) (mod_only (is_mod_word i.text) (sym (bound_word i k) ∙ g)) (const_mod i.text (const_only i k h n))
no_path_bound (mark p k) v h n g = contrary (sees_bound_path (mark p k)) g (minus_no_path p k (minus_char p k (minus_only p k h n)))
no_path_bound (lit x k) v h n g = cc n
no_path_bound (group d s c k) v h n g = cc g
no_path_bound (enter s k) v h n g = absurd v
no_path_bound (leave k) v h n g = absurd v

-- ---- a lone word

-- `self` begins a path only before `::`
self_begins : (t : Bytes) (k : Toks) → is_text token.self_value_text t ≡ true → token.sees_path_sep k ≡ false → begins_word t k ≡ false
unfolding is_keyword
self_begins t k h g = ap (λ z. begins_word z k) ((bytes_eq-Decides t _).0 h) ∙ ap (λ z. z || false) g

pub no_self : (i : Ident) (k : Toks) → begins_path (word i k) ≡ true → token.sees_path_sep k ≡ false → is_text token.self_value_text i.text ≡ false
no_self i k h g = not_try (is_text token.self_value_text i.text) (begins_word i.text k) (λ e. self_begins i.text k e g) (sym (word_begins i k) ∙ h)

-- with neither `::` nor anything else behind that makes it a path, it is a word that none binds
last_of : (b s c : Bool) → (b && false) || ((s && false) || (false || (false || c))) ≡ true → c ≡ true
last_of true true c h = h
last_of true false c h = h
last_of false true c h = h
last_of false false c h = h

either : (b c : Bool) → b || c ≡ true → (b ≡ true) ⊎ (c ≡ true)
either true c h = inl refl
either false c h = inr h

self_type_free : (t : Bytes) → is_text token.self_type_text t ≡ true → is_binding_name t ≡ false
unfolding is_keyword
self_type_free t h = ap is_binding_name ((bytes_eq-Decides t _).0 h)

super_free : (t : Bytes) → is_text token.super_text t ≡ true → is_binding_name t ≡ false
unfolding is_keyword
super_free t h = ap is_binding_name ((bytes_eq-Decides t _).0 h)

crate_free : (t : Bytes) → is_text token.crate_text t ≡ true → is_binding_name t ≡ false
unfolding is_keyword
crate_free t h = ap is_binding_name ((bytes_eq-Decides t _).0 h)

path_word_free : (t : Bytes) → is_text token.self_type_text t || (is_text token.super_text t || is_text token.crate_text t) ≡ true → is_binding_name t ≡ false
path_word_free t h =
    elim (either (is_text token.self_type_text t) _ h) [
      | inl y ↦ self_type_free t y
      | inr y ↦ elim (either (is_text token.super_text t) _ y) [
        | inl z ↦ super_free t z
        | inr z ↦ crate_free t z
      ]
    ]

abbrev Behind : Toks → Bool
Behind k = token.sees_path_sep k || (token.sees_bang k || (sees_group Brace k || (sees_group Parenthesis k || token.sees_dot_dot k)))

no_binding : (i : Ident) (k : Toks) → begins_path (word i k) ≡ true → token.sees_path_sep k ≡ false → Behind k ≡ false → is_binding_name i.text ≡ false
no_binding i k h g n =
    let others : Bool = is_text token.self_type_text i.text || (is_text token.super_text i.text || is_text token.crate_text i.text) in
    let own : Bool = is_text token.self_value_text i.text in
    let e : begins_word i.text k ≡ true = sym (word_begins i k) ∙ h in
    let e1 : (is_ident i.text && false) || ((own && token.sees_path_sep k) || (false || (false || others))) ≡ true =
    subst (λ z. (is_ident i.text && z) || ((own && token.sees_path_sep k) || (false || (false || others))) ≡ true) n e in
    let e2 : (is_ident i.text && false) || ((own && false) || (false || (false || others))) ≡ true =
    subst (λ z. (is_ident i.text && false) || ((own && z) || (false || (false || others))) ≡ true) g e1 in
    path_word_free i.text (last_of (is_ident i.text) own others e2)

-- ---- a path that is a lone word spells it

module _ {X : Type 0} (spells : Place → X → Toks → Type 0) where
  abbrev Segment : Type 0
  Segment = PathSegment (Attr X) (Expr X)

  abbrev pub ArePathSegments : ℕ → List Segment → List token.PathSep → Toks → Toks → Type 0
  ArePathSegments n = AreSegments (types_to spells n) loosely expressions

  none_is : is_none {A = Attr X} {E = Expr X} no_arguments ≡ true
  none_is = ap none_layer a.outs-None

  some_is : {part : _} {how : _} (x : PathArguments (Attr X) (Expr X)) (l r : Toks) → IsArguments part how x l r → is_none x ≡ false
  some_is x l r (some_arguments i) = ap none_layer (a.outs-AngleBracketed _)

  -- what a segment holds that has arguments
  pub held_is : (n : ℕ) (x : PathArguments (Attr X) (Expr X)) (l r : Toks) → (types_to spells n loosely).arguments x l r → is_none x ≡ false
  held_is zero x l r i = absurd i
  held_is (suc n) x l r i = some_is x l r i

  -- a lone word, or something else
  abbrev pub LoneOrNot : Option (QSelf (Attr X) (Expr X)) → Path (Attr X) (Expr X) → Toks → Toks → Type 0
  LoneOrNot q p l r = (lone_word q p ≡ None) ⊎ ((i : Ident) × (lone_word q p ≡ Some i) × (l ≡ word i r) × (q ≡ None) × (is_mod_style p ≡ true))

  if_none : (i : Ident) (x : PathArguments (Attr X) (Expr X)) (b : Bool) → is_none x ≡ b → lone_word None (lone (with_arguments i x)) ≡ (if b then Some i else None)
  if_none i x b h = ap (λ (z : Bool). if z then Some i else None) h

  one_lone : (n : ℕ) (x : Segment) (l r : Toks) → IsSegment (types_to spells n) loosely expressions x l r → LoneOrNot None (lone x) l r
  one_lone n x l r (a_word {i = i} h) = inr (i, if_none i no_arguments true none_is, refl, refl, ap (λ (z : Bool). z && true) none_is)
  one_lone n x l r (a_word_with_arguments {i = i} {x = y} {l = k} h g j) = inl (if_none i y false (held_is n y k r j))

  segments_lone : (n : ℕ) (xs : List Segment) (cs : List token.PathSep) (l r : Toks) → ArePathSegments n xs cs l r → LoneOrNot None (path_of None (xs, cs)) l r
  segments_lone n xs cs l r (none_left h) = absurd h
  segments_lone n xs cs l r (last_value {x = x} i) = one_lone n x l r i
  segments_lone n xs cs l r (value_and_mark i j (none_left h)) = absurd h
  segments_lone n xs cs l r (value_and_mark i j (last_value k)) = inl refl
  segments_lone n xs cs l r (value_and_mark i j (value_and_mark k m rest)) = inl refl

  path_lone : (n : ℕ) (p : Path (Attr X) (Expr X)) (l r : Toks) → IsPath (types_to spells n) loosely expressions p l r → LoneOrNot None p l r
  path_lone n p l r (a_path {xs = xs} {cs = cs} absent i) = segments_lone n xs cs l r i
  path_lone n p l r (a_path (present c) i) = inl refl

  pub lone_or_not : (n : ℕ) (q : Option (QSelf (Attr X) (Expr X))) (p : Path (Attr X) (Expr X)) (l r : Toks) → IsAnyPath (types_to spells n) loosely expressions q p l r → LoneOrNot q p l r
  lone_or_not n q p l r (unqualified i) = path_lone n p l r i
  lone_or_not n q p l r (qualified i) = inl refl

  -- it is not `self`, where no `::` follows
  pub not_self : (n : ℕ) (q : Option (QSelf (Attr X) (Expr X))) (p : Path (Attr X) (Expr X)) (l r : Toks) → IsAnyPath (types_to spells n) loosely expressions q p l r → begins_path l ≡ true → token.sees_path_sep r ≡ false →
      is_self (lone_word q p) ≡ false
  not_self n q p l r i h g =
      elim (lone_or_not n q p l r i) [
        | inl y ↦ ap is_self y
        | inr y ↦ ap is_self y.1 ∙ no_self y.0 r (subst (λ z. begins_path z ≡ true) y.2 h) g
      ]

  no_sep : (b c : Bool) → b && not c ≡ false → b && c ≡ false → b ≡ false
  no_sep true true h g = cc g
  no_sep true false h g = cc h
  no_sep false c h g = refl

  sep_unseen : (k : Toks) → goes_on k ≡ false → sees_called k ≡ false → token.sees_path_sep k ≡ false
  unfolding goes_on
  sep_unseen k h g = no_sep (token.sees_path_sep k) (third (sees_group Parenthesis) k) h g

  trues : (b : Bool) → (b && true) && true ≡ false → b ≡ false
  trues true h = cc h
  trues false h = refl

  bang_unseen : (k : Toks) (m : Bool) → sees_call k && m ≡ false → m ≡ true → token.sees_ne k ≡ false → token.sees_bang k ≡ false
  unfolding sees_call
  bang_unseen k m h e g = trues (token.sees_bang k) (subst (λ z. (token.sees_bang k && not z) && true ≡ false) g (subst (λ z. (token.sees_bang k && not (token.sees_ne k)) && z ≡ false) e h))

  -- Where it stands alone, and the pattern stops, it is no word that a pattern binds.
  pub unbound : (n : ℕ) (q : Option (QSelf (Attr X) (Expr X))) (p : Path (Attr X) (Expr X)) (l k : Toks) → IsAnyPath (types_to spells n) loosely expressions q p l k → begins_path l ≡ true →
      (q ≡ None → goes_on k ≡ false) → not (is_some q) && (sees_call k && is_mod_style p) ≡ false → sees_group Brace k ≡ false → sees_group Parenthesis k ≡ false → token.sees_dot_dot k ≡ false → Stops k →
      is_binding (lone_word q p) ≡ false
  unbound n q p l k i h over call brace paren dots stop =
      elim (lone_or_not n q p l k i) [
        | inl y ↦ ap is_binding y
        | inr y ↦ let sep = sep_unseen k (over y.3) stop.0 in
            let bang = bang_unseen k (is_mod_style p) (subst (λ (z : Option (QSelf (Attr X) (Expr X))). not (is_some z) && (sees_call k && is_mod_style p) ≡ false) y.3 call) y.4 stop.1 in
            ap is_binding y.1 ∙ no_binding y.0 k (subst (λ z. begins_path z ≡ true) y.2 h) sep (or_none _ _ sep (or_none _ _ bang (or_none _ _ brace (or_none _ _ paren dots))))
      ]

  unless : (b c : Bool) → c ≡ false → b && c ≡ false
  unless true c h = h
  unless false c h = refl

  -- the same where a path may be a lone word
  pub unbound_or_lone : (lone : Toks → Bool) (n : ℕ) (q : Option (QSelf (Attr X) (Expr X))) (p : Path (Attr X) (Expr X)) (l k : Toks) → IsAnyPath (types_to spells n) loosely expressions q p l k → begins_path l ≡ true →
      (q ≡ None → goes_on k ≡ false) → not (is_some q) && (sees_call k && is_mod_style p) ≡ false → sees_group Brace k ≡ false → sees_group Parenthesis k ≡ false → token.sees_dot_dot k ≡ false → (lone k ≡ true) ⊎ Stops k →
      not (lone k) && is_binding (lone_word q p) ≡ false
  unbound_or_lone lone n q p l k i h over call brace paren dots told =
      elim told [
        | inl y ↦ ap (λ b. not b && is_binding (lone_word q p)) y
        | inr y ↦ unless (not (lone k)) _ (unbound n q p l k i h over call brace paren dots y)
      ]
