-- The modifiers of a trait bound print themselves clearly, and begin with no lifetime where what follows them begins with none.
use Rattle.std.proofs.Common.{◌≡◌, Bool, false, Option, Some, refl}
use Rattle.syn_ty.proofs.ty_laws.words.Tokens.{Bracket, sees_lifetime, Print, IsWord, is_word, Toks, done}
use Rattle.syn_ty.proofs.ty_laws.words.Types.{BoundConst, TraitBoundModifiers, IsConstness, no_constness, a_const, a_conditional_const, AreModifiers, some_modifiers, IsOptional, absent, present}
use Rattle.token_core.specs.Groups as groups
use Rattle.token_core.specs.Prints as p
use Rattle.token_core.specs.Tokens as token
use Rattle.syn_path.proofs.Words.{AgainFront}
use Rattle.syn_forms.proofs.tokens_laws.Mutability.{word_front}
use Rattle.syn_ty.specs.declared.generics.BoundConst.TheVariants as c
use Rattle.syn_ty.specs.generics.Modifiers.{modifiers_of}
use Rattle.syn_ty.specs.generics.Shapes.{bound_const, modifiers}
use Rattle.syn_ty.proofs.ty_laws.reprint.Angles.{Then, then_front, made_front}
use Rattle.syn_ty.proofs.ty_laws.reprint.Signatures.{optional_front}
use Rattle.syn_ty.proofs.ty_laws.reprint.Steps.{within_front, grouped_front}

async_no_lifetime : (a : Option token.Async) (l r : Toks) → IsOptional IsWord a l r → sees_lifetime r ≡ false → sees_lifetime l ≡ false
unfolding sees_lifetime
async_no_lifetime a l r absent h = h
async_no_lifetime a l r (present is_word) h = refl

module _ (consts : Bool) where
  abbrev print_const : Option BoundConst → Print
  print_const z = p.optional bound_const z

  constness_again : (x : Option BoundConst) (l r : Toks) → IsConstness consts x l r → AgainFront (IsConstness consts) (λ (z : Option BoundConst). z) print_const x l r
  constness_again x l r no_constness = record { spelt = λ h. no_constness; visible = λ h u v. v; seen = λ u. u; stays = refl; same = refl }
  constness_again x l r (a_const {w = w} on i) =
      within_front (IsConstness consts) IsWord (λ z. z) (λ z. z) print_const (λ z. p.word z) (λ (z : token.Const). Some (c.Const z)) (λ z. refl) (λ z l r i. a_const on i) (λ z. refl) w l r (word_front w l r i)
  constness_again x l r (a_conditional_const {w = w} {s = s} {k = k} on i) =
      grouped_front (IsConstness consts) IsWord (λ z. z) (λ z. z) print_const (λ z. p.word z) (λ (z : token.Const). Some (c.Conditional (groups.bracket s) z)) (λ z. refl) Bracket s tt (λ z k r i. a_conditional_const on i) (λ z. refl) w k r
      (word_front w k done i)

  pub modifiers_again : (x : TraitBoundModifiers) (l r : Toks) → AreModifiers consts x l r → AgainFront (AreModifiers consts) (λ (z : TraitBoundModifiers). z) modifiers x l r
  modifiers_again x l r (some_modifiers {c = c} {a = a} {m = m} i j) =
      made_front (Then (IsConstness consts) (IsOptional IsWord)) (AreModifiers consts) _ (λ z. z) _ modifiers (λ (z : Option BoundConst × Option token.Async). modifiers_of z.0 z.1) (λ z l r i. some_modifiers i.1 i.2) (λ z. refl) (λ z. refl) (c, a) l r
      (then_front (constness_again c l m i) (optional_front IsWord IsWord (λ z. p.word z) word_front a m r j))

  constness_no_lifetime : (x : Option BoundConst) (l r : Toks) → IsConstness consts x l r → sees_lifetime r ≡ false → sees_lifetime l ≡ false
  unfolding sees_lifetime
  constness_no_lifetime x l r no_constness h = h
  constness_no_lifetime x l r (a_const on is_word) h = refl
  constness_no_lifetime x l r (a_conditional_const on i) h = refl

  pub modifiers_no_lifetime : (x : TraitBoundModifiers) (l r : Toks) → AreModifiers consts x l r → sees_lifetime r ≡ false → sees_lifetime l ≡ false
  modifiers_no_lifetime x l r (some_modifiers {c = c} {a = a} {m = m} i j) h = constness_no_lifetime c l m i (async_no_lifetime a m r j h)
