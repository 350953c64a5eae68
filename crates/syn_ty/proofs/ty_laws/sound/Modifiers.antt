-- Where the modifiers of a bound are read, they are spelt by the rules of the whole grammar: where it is allowed a `const` form, and `async`; and the stream stands further on.
use Rattle.std.proofs.Common.{◌≡◌, Bool, true, false, Option, Some, None, Ok, inl, inr, refl, sym, subst}
use Rattle.syn_ty.proofs.ty_laws.words.Tokens.{Bracket, in_group, leaves, sees_group, Visible, IsWord, Stream, Toks, done}
use Rattle.syn_ty.proofs.ty_laws.words.Paths.{Along}
use Rattle.syn_ty.proofs.ty_laws.words.Forms.{in_brackets}
use Rattle.syn_ty.proofs.ty_laws.words.Types.{BoundConst, TraitBoundModifiers, IsConstness, no_constness, a_const, a_conditional_const, AreModifiers, some_modifiers}
use Rattle.token_core.specs.Groups as groups
use Rattle.token_core.specs.Tokens as token
use Rattle.token_core.proofs.Took.{branch, mapped}
use Rattle.token_core.proofs.Turns.{chain, same_pair}
use Rattle.syn_path.proofs.Words.{TookOne}
use Rattle.syn_forms.specs.tokens.Reading.{asyncness}
use Rattle.syn_forms.proofs.along_laws.Forms.{asyncness_along}
use Rattle.syn_forms.proofs.along_laws.Kit.{further}
use Rattle.syn_forms.proofs.tokens_laws.Fronts.{took_as, took_whole}
use Rattle.syn_ty.specs.declared.generics.BoundConst.TheVariants as c
use Rattle.syn_ty.specs.generics.Modifiers.{modifiers_of}
use Rattle.syn_ty.specs.generics.Reading.{allowed, const_form, constness, modifiers}
use Rattle.syn_ty.proofs.ty_laws.sound.Leaves.{IsHeld, held_sound, named_sound, optional_sound}

-- ---- the stream stands further on

pub const_form_along : Along const_form
unfolding const_form
const_form_along = search further

allowed_along : (consts : Bool) (o : Option BoundConst) → Along (allowed consts o)
allowed_along true o = search further
allowed_along false None = search further
allowed_along false (Some x) = search further

pub constness_along : (consts : Bool) → Along (constness consts)
unfolding constness
constness_along consts = search (further, const_form_along, allowed_along)

pub modifiers_along : (consts : Bool) → Along (modifiers consts)
unfolding modifiers
modifiers_along consts = search (further, constness_along, asyncness_along)

-- ---- `const` forms

-- `const` as all of a content
abbrev IsConst : token.Const → Toks → Type 0
IsConst w l = IsWord w l done

const_whole : (s t : Stream) (w : token.Const) → Visible s.rest → token.const_word s ≡ Ok (w, t) → leaves t ≡ None → IsConst w s.rest
const_whole s t w v e h = took_whole {Is = IsWord {n = 6}} s t w (named_sound {n = 6} s t w v e) h

-- a form that may stand anywhere
pub const_form_took : (s t : Stream) (x : Option BoundConst) → Visible s.rest → const_form s ≡ Ok (x, t) → TookOne (IsConstness true) s t x
unfolding const_form
const_form_took s t x v e =
    elim (branch (sees_group Bracket s.rest) _ _ s (Ok (x, t)) e) [
      | inl y ↦ let k = mapped (in_brackets token.const_word s) (λ g. Some (c.Conditional g.0 g.1)) x t y.1 in
          let g = mapped (in_group Bracket groups.bracket_name token.const_word s) (λ g. (groups.bracket g.0, g.1)) k.value t k.was in
          took_as {Is = IsHeld Bracket IsConst} {Js = IsConstness true} (λ z. Some (c.Conditional (groups.bracket z.0) z.1)) s t g.value x (subst (λ z. Some (c.Conditional z.0 z.1) ≡ x) (sym g.is) k.is)
          (λ l m i. subst (λ z. IsConstness true (Some (c.Conditional (groups.bracket g.value.0) g.value.1)) z m) (sym i.is) (a_conditional_const refl i.holds))
          (held_sound Bracket IsConst groups.bracket_name token.const_word const_whole s t g.value v g.was)
      | inr y ↦ elim (branch (token.sees_const s.rest) _ _ s (Ok (x, t)) y.1) [
        | inl z ↦ let k = mapped (token.const_word s) (λ w. Some (c.Const w)) x t z.1 in
            took_as {Is = IsWord {n = 6}} {Js = IsConstness true} (λ w. Some (c.Const w)) s t k.value x k.is (λ l m i. a_const refl i) (named_sound {n = 6} s t k.value v k.was)
        | inr z ↦ let g = same_pair None x s t z.1 in
            subst (λ u. TookOne (IsConstness true) s t u) g.0 (subst (λ u. TookOne (IsConstness true) s u None) g.1 (record { left = λ n. n; seen = v; spelt = λ n. no_constness }))
      ]
    ]

-- where none may stand, none is answered
allowed_took : (consts : Bool) (s d t : Stream) (o x : Option BoundConst) → TookOne (IsConstness true) s d o → allowed consts o d ≡ Ok (x, t) → TookOne (IsConstness consts) s t x
allowed_took true s d t o x w e =
    let g = same_pair o x d t e in
    subst (λ u. TookOne (IsConstness true) s t u) g.0 (subst (λ u. TookOne (IsConstness true) s u o) g.1 w)
allowed_took false s d t None x w e =
    let g = same_pair None x d t e in
    subst (λ u. TookOne (IsConstness false) s t u) g.0 (subst (λ u. TookOne (IsConstness false) s u None) g.1
    (took_as {Is = IsConstness true} {Js = IsConstness false} (λ z. z) s d None None refl none_in w))
  where
    none_in : (l m : Toks) → IsConstness true None l m → IsConstness false None l m
    none_in l m no_constness = no_constness
allowed_took false s d t (Some y) x w e = cc e

pub constness_took : (consts : Bool) (s t : Stream) (x : Option BoundConst) → Visible s.rest → constness consts s ≡ Ok (x, t) → TookOne (IsConstness consts) s t x
unfolding constness
constness_took consts s t x v e =
    let d = chain (const_form s) (allowed consts) x t e in
    allowed_took consts s d.rest t d.value x (const_form_took s d.rest d.value v d.was) d.goes

-- ---- modifiers

pub modifiers_took : (consts : Bool) (s t : Stream) (x : TraitBoundModifiers) → Visible s.rest → modifiers consts s ≡ Ok (x, t) → TookOne (AreModifiers consts) s t x
unfolding modifiers
modifiers_took consts s t x v e =
    let a = chain (constness consts s) _ x t e in
    let ka = constness_took consts s a.rest a.value v a.was in
    let d = mapped (asyncness a.rest) (modifiers_of a.value) x t a.goes in
    let kd = optional_sound {Is = IsWord {n = 21}} token.sees_async token.async_word named_sound a.rest t d.value ka.seen d.was in
    record {
      left = λ n. ka.left (kd.left n);
      seen = kd.seen;
      spelt = λ n. subst (λ z. AreModifiers consts z s.rest t.rest) d.is (some_modifiers (ka.spelt (kd.left n)) (kd.spelt n));
    }
