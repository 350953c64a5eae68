-- What is known of the reads of attributes and expressions, however high the trees that hold them; and from it what forms suppose of them at each height.
use Rattle.std.proofs.Common.{◌≡◌, ℕ, suc, Bool, true, false, List, None, Ok, sym, ◌∙◌, ap}
use Rattle.syn_ty.proofs.ty_laws.words.Tokens.{Print, Reader, leaves, Visible, Stream, Toks}
use Rattle.syn_ty.proofs.ty_laws.words.Paths.{AttributeLaws, ReadValues, SpelledValues, Along}
use Rattle.syn_ty.proofs.ty_laws.words.Types.{sees_const, spelt_to}
use Rattle.token_core.proofs.Turns.{same_pair}
use Rattle.syn_path.proofs.Words.{TookOne}
use Rattle.syn_path.specs.Lengths.{ConstLaws, LengthLaws}
use Rattle.syn_forms.proofs.tokens_laws.Fronts.{nothing_left}
use Rattle.syn_ty.proofs.ty_laws.sound.Within.{Supplied}

-- ---- lengths that meet their laws

module _ {E : Type 0} {lens : Reader E} {spells : E → Toks → Type 0} {normal : E → E} {print : E → Print} (laws : LengthLaws lens spells normal print) where
  -- where nothing is left over in the end, nothing was before
  pub nothing_before : (s t : Stream) (x : E) → lens s ≡ Ok (x, t) → leaves t ≡ None → s.left ≡ None
  nothing_before s t x e n =
      let k = laws.complete s x (laws.sound s t x e n) in
      let q = same_pair x x k.0 t (sym k.1 ∙ e) in
      sym k.2.left ∙ ap (λ (z : Stream). z.left) q.1 ∙ nothing_left t n

-- ---- attributes, lengths and const arguments

module _ {A E : Type 0} (attrs : Reader (List A)) (values : ReadValues E) (shown : Bool → List A → Toks → Toks → Type 0) (spelt : SpelledValues E) where
  pub record Given : Type 0 where
    pub attrs_took : (s t : Stream) (x : List A) → Visible s.rest → attrs s ≡ Ok (x, t) → TookOne (shown false) s t x
    pub attrs_along : Along attrs
    -- a length that is all of a list, before which nothing was left over
    pub len : (s t : Stream) (x : E) → Visible s.rest → values.len s ≡ Ok (x, t) → leaves t ≡ None → spelt.len x s.rest
    pub len_left : (s t : Stream) (x : E) → values.len s ≡ Ok (x, t) → leaves t ≡ None → s.left ≡ None
    -- what begins as a const argument does
    pub argument_took : (s t : Stream) (x : E) → Visible s.rest → sees_const s.rest ≡ true → values.const_argument s ≡ Ok (x, t) → TookOne (spelt.const_argument false) s t x
    pub default_took : (s t : Stream) (x : E) → Visible s.rest → values.const_argument s ≡ Ok (x, t) → TookOne (spelt.const_default false) s t x
    pub argument_along : Along values.const_argument

  pub supplied : Given → (n : ℕ) → Supplied attrs values (spelt_to shown spelt (suc n))
  supplied g n = record {
    attrs_took = g.attrs_took;
    len = g.len;
    argument = g.argument_took;
    default = g.default_took;
    attrs_along = g.attrs_along;
    len_left = g.len_left;
    argument_along = g.argument_along;
  }

-- by the laws of what is supplied
pub given : {A E : Type 0} {attrs : Reader (List A)} {values : ReadValues E} {shown : Bool → List A → Toks → Toks → Type 0} {spelt : SpelledValues E} {normal : E → E} {print : E → Print} →
    AttributeLaws attrs shown → ConstLaws values.const_argument spelt.const_argument spelt.const_default → LengthLaws values.len spelt.len normal print → Given attrs values shown spelt
unfolding sees_const
given a c l = record {
  attrs_took = a.took;
  attrs_along = a.along;
  len = λ s t x v e n. l.sound s t x e n;
  len_left = λ s t x e n. nothing_before l s t x e n;
  argument_took = c.took_argument;
  default_took = c.took_default;
  argument_along = c.along;
}
