-- Generics without their defaults print their normal form clearly, where with them they spell a list plainly: a parameter spells its list up to where its default begins.
use Rattle.std.proofs.Common.{◌≡◌, Bool, true, false, List, [], Option, None, map, sym, ◌∙◌, ap, subst}
use Rattle.syn_generics.proofs.generics_laws.words.Tokens.{Ident, AreListed, none_left, last_value, value_and_mark, Anywhere, Many, Print, Visible, IsMark, Toks}
use Rattle.syn_generics.proofs.generics_laws.words.Paths.{NormalValues, Values}
use Rattle.syn_generics.proofs.generics_laws.words.Types.{a_type_param, a_const_param, IsParam, a_lifetime_param, a_named_param, a_constant_param, a_bare_param, const_param_of, type_param_of, strip, strip_layer, Manner, plainly, clearly, Parts, Relation, absent, ConstParam, GenericParam, TypeParamBound, TypeTree}
use Rattle.syn_generics.proofs.generics_laws.words.Generics.{GenericsOf, AreGenerics, no_generics, some_generics, stripped}
use Rattle.token_core.specs.Tokens as token
use Rattle.syn_path.proofs.Words.{AgainFront}
use Rattle.syn_forms.specs.declared.places.ParamPlace.{ParamPlace}
use Rattle.syn_forms.specs.declared.places.ParamPlace.TheVariants as params
use Rattle.syn_generics.proofs.generics_laws.reprint.Generics.{AgainGenerics, held_again, nothing_again}
use Rattle.syn_ty.specs.declared.generics.GenericParamOf.TheVariants as g
use Rattle.syn_ty.specs.declared.generics.LifetimeParamOf.{LifetimeParamOf}
use Rattle.syn_ty.specs.declared.generics.TypeParamOf.{out-roll-TypeParamOf}
use Rattle.syn_ty.specs.ty.Normal as normal
use Rattle.syn_ty.specs.ty.Printing as printing
use Rattle.syn_ty.proofs.ty_laws.reprint.Within.{Again}

-- ---- a parameter without its default

module _ {A E : Type 0} where
  strip-Lifetime : (x : LifetimeParamOf A) → strip {E = E} (g.Lifetime x) ≡ g.Lifetime x
  strip-Lifetime x = ap (strip_layer {E = E}) (g.outs-Lifetime x)

  strip-Type : (a : List A) (i : Ident) (c : Option token.Colon) (b : Many (TypeParamBound A E) token.Plus) (d : Option (token.Equals × TypeTree A E)) → strip (g.«Type» (type_param_of a i c b d)) ≡ g.«Type» (type_param_of a i c b None)
  strip-Type a i c b d =
      ap strip_layer (g.outs-Type (type_param_of a i c b d)) ∙ ap (λ z. g.«Type» (type_param_of z.attrs z.ident z.colon_token z.bounds None)) (out-roll-TypeParamOf A E (record { attrs = a; ident = i; colon_token = c; bounds = b; default = d }))

  strip-Const : (x : ConstParam A E) → strip (g.Const x) ≡ g.Const (const_param_of x.attrs x.const_token x.ident x.colon_token x.ty None)
  strip-Const x = ap strip_layer (g.outs-Const x)

  module _ (part : Manner → Parts A E) (how : Manner) where
    abbrev Before : ParamPlace → GenericParam A E → Toks → Type 0
    Before place x l = (n : Toks) × IsParam part how place x l n

    pub before_default : (place : ParamPlace) (x : GenericParam A E) (l r : Toks) → IsParam part how place x l r → Before place (strip x) l
    before_default place x l r (a_lifetime_param {x = y} i) = subst (λ z. Before place z l) (sym (strip-Lifetime y)) (r, a_lifetime_param i)
    before_default place x l r (a_named_param (a_type_param {a = a} {i = i} {c = c} {xs = xs} {ps = ps} {d = d} {n = n} b e t j)) =
        subst (λ z. Before place z l) (sym (strip-Type a i c (xs, ps) d)) (n, a_named_param (a_type_param b e t absent))
    before_default place x l r (a_constant_param (a_const_param {a = a} {w = w} {i = i} {c = c} {x = y} {d = d} {j = j} at b e f h t)) =
        subst (λ z. Before place z l) (sym (strip-Const (const_param_of a w i c y d))) (j, a_constant_param (a_const_param at b e f h absent))
    before_default place x l r (a_bare_param {a = a} {i = i} b e) = subst (λ z. Before params.Generics z l) (sym (strip-Type a i None ([], []) None)) (r, a_bare_param b e)

-- ---- generics without their defaults, where so it is of their parameters

module _ {A E : Type 0} (na : List A → List A) (ne : NormalValues E) (pa : List A → Print) (pe : Values E) (part : Manner → Parts A E) (held : Again na ne pa pe part) where
  -- a parameter is spelt up to some place, and something may stand between that and what follows
  abbrev Begins : Relation (GenericParam A E)
  Begins x l r = ((n : Toks) × (part plainly).param params.Generics x l n) × (Visible l → Visible r)

  begins_again : (x : GenericParam A E) (l r : Toks) → Begins x l r → AgainFront ((part clearly).param params.Generics) (normal.param na ne) (printing.param pa pe) x l r
  begins_again x l r i = let h = held.param params.Generics x l i.0.0 i.0.1 in record { spelt = h.spelt; visible = h.visible; seen = i.1; stays = h.stays; same = h.same }

  module _ (before : (x : GenericParam A E) (l r : Toks) → (part plainly).param params.Generics x l r → (n : Toks) × (part plainly).param params.Generics (strip x) l n) where
    strip_begins : (x : GenericParam A E) (l r : Toks) → (part plainly).param params.Generics x l r → Begins (strip x) l r
    strip_begins x l r i = (before x l r i, (held.param params.Generics x l r i).seen)

    all_begin : (first : Bool) (xs : List (GenericParam A E)) (cs : List token.Comma) (l r : Toks) → AreListed (λ (_ : Bool). (part plainly).param params.Generics) (IsMark false) Anywhere first xs cs l r →
        AreListed (λ (_ : Bool). Begins) (IsMark false) Anywhere first (map strip xs) cs l r
    all_begin first xs cs l r (none_left u) = none_left u
    all_begin first xs cs l r (last_value {x = x} i) = last_value (strip_begins x l r i)
    all_begin first xs cs l r (value_and_mark {x = x} {xs = ys} {ps = ds} {m = m} {k = k} i j t) = value_and_mark (strip_begins x l m i) j (all_begin false ys ds k r t)

    pub stripped_again : (x : GenericsOf A E) (l r : Toks) → AreGenerics part plainly x l r → AgainGenerics na ne pa pe part (stripped x) l r
    stripped_again x l r no_generics = nothing_again na ne pa pe part r
    stripped_again x l r (some_generics {o = o} {xs = xs} {cs = cs} {c = c} {m = m} {n = n} i j t) = held_again na ne pa pe part Begins begins_again o (map strip xs) cs c l m n r i (all_begin true xs cs m n j) t
