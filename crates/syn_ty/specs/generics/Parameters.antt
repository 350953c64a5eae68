-- Which lists parameters spell, each in its place, and how the generics of a declaration may begin.
use Rattle.std.specs.Prelude.{◌≡◌, Bool, true, List, [], Option, Some, None, ◌&&◌}
use Rattle.token_core.specs.declared.lifetime.Lifetime.{Lifetime}
use Rattle.token_core.specs.declared.tree.Ident.{Ident}
use Rattle.token_core.specs.Listed.{AreListed, Anywhere}
use Rattle.token_core.specs.Reads.{is_ident, is_text, second, sees_word, third}
use Rattle.token_core.specs.Spellings.{IsMark, IsWord, IsLifetime}
use Rattle.token_core.specs.Toks.{Toks, word}
use Rattle.syn_forms.specs.declared.places.BoundPlace.TheVariants.{Parameter}
use Rattle.syn_forms.specs.declared.places.ParamPlace.{ParamPlace}
use Rattle.syn_forms.specs.declared.places.ParamPlace.TheVariants as params
use Rattle.syn_forms.specs.declared.places.TypePlace.TheVariants.{Plus}
use Rattle.syn_ty.specs.declared.generics.GenericParamOf.TheVariants as g
use Rattle.syn_ty.specs.declared.generics.LifetimeParamOf.{LifetimeParamOf}
use Rattle.syn_ty.specs.generics.Bounds.{AreBounds}
use Rattle.syn_ty.specs.generics.Params.{const_param_of, lifetime_param_of, type_param_of}
use Rattle.syn_ty.specs.ty.Parts.{Manner, is_clear, End, Parts}
use Rattle.syn_ty.specs.ty.Spelling.{Relation, IsOptional}
use Rattle.syn_ty.specs.ty.Trees.{ConstParam, GenericParam, TypeParam, TypeParamBound, TypeTree}
use Rattle.token_core.specs.Tokens as token

-- `=`, and a value
module _ (clear : Bool) {V : Type 0} (Is : Relation V) where
  pub data IsGiven : token.Equals × V → Toks → Toks → Type 0 where
    given : {q : token.Equals} {x : V} {l m r : Toks} → IsMark clear q l m → Is x m r → IsGiven (q, x) l r

module _ (clear : Bool) where
  -- lifetimes joined by `+`: there may be none, and the last may have its `+`
  abbrev pub AreLifetimes : List Lifetime → List token.Plus → Toks → Toks → Type 0
  AreLifetimes = AreListed (λ (_ : Bool). IsLifetime) (IsMark clear) Anywhere true

module _ {A E : Type 0} (part : Manner → Parts A E) (how : Manner) where
  -- ---- parameters

  -- a lifetime, and perhaps `:` and lifetimes
  pub data IsLifetimeParam : LifetimeParamOf A → Toks → Toks → Type 0 where
    a_lone_lifetime : {a : List A} {x : Lifetime} {l m r : Toks} → (part how).attrs a l m → IsLifetime x m r → IsLifetimeParam (lifetime_param_of a x None ([], [])) l r
    a_lifetime_with_bounds : {a : List A} {x : Lifetime} {c : token.Colon} {xs : List Lifetime} {ps : List token.Plus} {l m n k r : Toks} →
        (part how).attrs a l m → IsLifetime x m n → IsMark (is_clear how) c n k → AreLifetimes (is_clear how) xs ps k r → IsLifetimeParam (lifetime_param_of a x (Some c) (xs, ps)) l r

  -- nothing, or `:` and bounds, of which there may be none and the last may have its `+`; they may be `const`
  pub data AreBoundsAfter : Option token.Colon → List (TypeParamBound A E) → List token.Plus → Toks → Toks → Type 0 where
    no_colon : {r : Toks} → AreBoundsAfter None [] [] r r
    after_colon : {e : End} {c : token.Colon} {xs : List (TypeParamBound A E)} {ps : List token.Plus} {l m r : Toks} →
        IsMark (is_clear how) c l m → AreBounds part how Parameter Anywhere true e xs ps m r → AreBoundsAfter (Some c) xs ps l r

  -- a type in its place with plus, however it ends
  pub data IsAnyType : TypeTree A E → Toks → Toks → Type 0 where
    any_type : {e : End} {x : TypeTree A E} {l r : Toks} → (part how).ty Plus e x l r → IsAnyType x l r

  -- an `Ident`, perhaps bounds, and perhaps a default
  pub data IsTypeParam : TypeParam A E → Toks → Toks → Type 0 where
    a_type_param : {a : List A} {i : Ident} {c : Option token.Colon} {xs : List (TypeParamBound A E)} {ps : List token.Plus} {d : Option (token.Equals × TypeTree A E)} {l m n r : Toks} →
        (part how).attrs a l (word i m) → is_ident i.text ≡ true → AreBoundsAfter c xs ps m n → IsOptional (IsGiven (is_clear how) IsAnyType) d n r → IsTypeParam (type_param_of a i c (xs, ps) d) l r

  -- `const`, an `Ident`, `:`, a type, and perhaps a default
  pub data IsConstParam : ConstParam A E → Toks → Toks → Type 0 where
    a_const_param : {a : List A} {w : token.Const} {i : Ident} {c : token.Colon} {x : TypeTree A E} {d : Option (token.Equals × E)} {l m n k j r : Toks} →
        (part how).attrs a l m → IsWord w m (word i n) → is_ident i.text ≡ true → IsMark (is_clear how) c n k → IsAnyType x k j → IsOptional (IsGiven (is_clear how) (part how).const_default) d j r →
        IsConstParam (const_param_of a w i c x d) l r

  -- a parameter in its place: in the generics of a declaration also a bare `_`
  pub data IsParam : ParamPlace → GenericParam A E → Toks → Toks → Type 0 where
    a_lifetime_param : {place : ParamPlace} {x : LifetimeParamOf A} {l r : Toks} → IsLifetimeParam x l r → IsParam place (g.Lifetime x) l r
    a_named_param : {place : ParamPlace} {x : TypeParam A E} {l r : Toks} → IsTypeParam x l r → IsParam place (g.«Type» x) l r
    a_constant_param : {place : ParamPlace} {x : ConstParam A E} {l r : Toks} → IsConstParam x l r → IsParam place (g.Const x) l r
    a_bare_param : {a : List A} {i : Ident} {l r : Toks} → (part how).attrs a l (word i r) → is_text token.underscore_text i.text ≡ true → IsParam params.Generics (g.«Type» (type_param_of a i None ([], []) None)) l r

-- ---- the generics of a declaration

-- `<`, an `Ident` and `>`, as the generics of a declaration may be
abbrev pub begins_as_generics : Toks → Bool
begins_as_generics l = token.sees_lt l && (second (sees_word is_ident) l && third token.sees_gt l)
