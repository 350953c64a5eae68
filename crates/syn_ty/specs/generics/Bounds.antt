-- Which lists bounds spell, each in its place, and bounds joined by `+`.
use Rattle.std.specs.Prelude.{◌≡◌, Bool, true, false, List, [], ◌∷◌, Option, Some, None}
use Rattle.token_core.specs.declared.lifetime.Lifetime.{Lifetime}
use Rattle.token_core.specs.declared.span.DelimSpan.{DelimSpan}
use Rattle.token_core.specs.declared.tree.Delimiter.TheVariants.{Parenthesis, Bracket}
use Rattle.token_core.specs.declared.tree.Ident.{Ident}
use Rattle.token_core.specs.Groups as groups
use Rattle.token_core.specs.Listed.{AreListed, Anywhere}
use Rattle.token_core.specs.Spellings.{IsMark, IsWord, IsLifetime}
use Rattle.token_core.specs.Toks.{Toks, done, word, group}
use Rattle.syn_forms.specs.declared.places.BoundPlace.{BoundPlace}
use Rattle.syn_forms.specs.declared.places.ParamPlace.TheVariants.{Binder}
use Rattle.syn_forms.specs.paths.Reading.{is_named_word}
use Rattle.syn_forms.specs.places.Reading.{allows_const, allows_capture}
use Rattle.syn_ty.specs.declared.generics.BoundConst.{BoundConst}
use Rattle.syn_ty.specs.declared.generics.BoundConst.TheVariants as c
use Rattle.syn_ty.specs.declared.generics.CapturedParam.{CapturedParam}
use Rattle.syn_ty.specs.declared.generics.CapturedParam.TheVariants as captured
use Rattle.syn_ty.specs.declared.generics.PreciseCapture.{PreciseCapture}
use Rattle.syn_ty.specs.declared.generics.TraitBoundModifiers.{TraitBoundModifiers}
use Rattle.syn_ty.specs.declared.generics.TypeParamBoundOf.TheVariants as b
use Rattle.syn_ty.specs.generics.Modifiers.{modifiers_of}
use Rattle.syn_ty.specs.generics.Params.{capture_of, trait_bound_of}
use Rattle.syn_ty.specs.generics.Spelling.{IsBinder}
use Rattle.syn_ty.specs.path.Signed.{IsBoundPath}
use Rattle.syn_ty.specs.ty.Parts.{Manner, is_clear, End, closed, after_plus, going_on, Parts}
use Rattle.syn_ty.specs.ty.Spelling.{IsOptional}
use Rattle.syn_ty.specs.ty.Trees.{BoundLifetimes, Path, TraitBound, TypeParamBound}
use Rattle.token_core.specs.Tokens as token

-- ---- captures

pub data IsCaptured : CapturedParam → Toks → Toks → Type 0 where
  a_lifetime_captured : {x : Lifetime} {l r : Toks} → IsLifetime x l r → IsCaptured (captured.Lifetime x) l r
  a_name_captured : {i : Ident} {r : Toks} → is_named_word i.text ≡ true → IsCaptured (captured.Ident i) (word i r) r

module _ (clear : Bool) where
  -- `use`, and between angle marks lifetimes and names joined by commas: there may be none, and the last may have its comma
  pub data IsCapture : PreciseCapture → Toks → Toks → Type 0 where
    a_capture : {u : token.Use} {o : token.Lt} {xs : List CapturedParam} {cs : List token.Comma} {g : token.Gt} {l m n k r : Toks} →
        IsWord u l m → IsMark clear o m n → AreListed (λ (_ : Bool). IsCaptured) (IsMark clear) Anywhere true xs cs n k → IsMark clear g k r → IsCapture (capture_of u o (xs, cs) g) l r

-- ---- modifiers

module _ (consts : Bool) where
  -- where they are allowed, `const` or `const` in brackets
  pub data IsConstness : Option BoundConst → Toks → Toks → Type 0 where
    no_constness : {r : Toks} → IsConstness None r r
    a_const : {w : token.Const} {l r : Toks} → consts ≡ true → IsWord w l r → IsConstness (Some (c.Const w)) l r
    a_conditional_const : {w : token.Const} {s : DelimSpan} {k r : Toks} → consts ≡ true → IsWord w k done → IsConstness (Some (c.Conditional (groups.bracket s) w)) (group Bracket s k r) r

  -- a `const` form, and `async`, each of which may be missing
  pub data AreModifiers : TraitBoundModifiers → Toks → Toks → Type 0 where
    some_modifiers : {c : Option BoundConst} {a : Option token.Async} {l m r : Toks} → IsConstness c l m → IsOptional IsWord a m r → AreModifiers (modifiers_of c a) l r

module _ {A E : Type 0} (part : Manner → Parts A E) (how : Manner) where
  abbrev pub IsFor : BoundLifetimes A E → Toks → Toks → Type 0
  IsFor = IsBinder (is_clear how) ((part how).param Binder)

  -- ---- trait bounds

  module _ (consts : Bool) where
    -- the path of a trait after its modifiers, perhaps with a binder before them or with `?` behind them
    pub data IsTrait : End → Option (BoundLifetimes A E) → TraitBoundModifiers → Option token.Question → Path A E → Toks → Toks → Type 0 where
      a_trait : {e : End} {x : TraitBoundModifiers} {p : Path A E} {l m r : Toks} → AreModifiers consts x l m → IsBoundPath part how e p m r → IsTrait e None x None p l r
      a_trait_for : {e : End} {o : BoundLifetimes A E} {x : TraitBoundModifiers} {p : Path A E} {l m n r : Toks} →
          IsFor o l m → AreModifiers consts x m n → IsBoundPath part how e p n r → IsTrait e (Some o) x None p l r
      a_trait_asked : {e : End} {x : TraitBoundModifiers} {q : token.Question} {p : Path A E} {l m n r : Toks} →
          AreModifiers consts x l m → IsMark (is_clear how) q m n → IsBoundPath part how e p n r → IsTrait e None x (Some q) p l r

    -- without parentheses
    pub data IsTraitBound : End → TraitBound A E → Toks → Toks → Type 0 where
      a_trait_bound : {e : End} {o : Option (BoundLifetimes A E)} {x : TraitBoundModifiers} {q : Option token.Question} {p : Path A E} {l r : Toks} → IsTrait e o x q p l r → IsTraitBound e (trait_bound_of None o x q p) l r

-- ---- bounds in a place

module _ {A E : Type 0} (part : Manner → Parts A E) (how : Manner) (place : BoundPlace) where
  -- a lifetime; a trait bound, also in parentheses, with `const` forms where they are allowed; and where it is allowed a capture
  pub data IsBound : End → TypeParamBound A E → Toks → Toks → Type 0 where
    a_lifetime_bound : {x : Lifetime} {l r : Toks} → IsLifetime x l r → IsBound closed (b.Lifetime x) l r
    a_bare_bound : {e : End} {x : TraitBound A E} {l r : Toks} → IsTraitBound part how (allows_const place) e x l r → IsBound e (b.Trait x) l r
    a_bound_in_parens : {e : End} {o : Option (BoundLifetimes A E)} {x : TraitBoundModifiers} {q : Option token.Question} {p : Path A E} {s : DelimSpan} {c r : Toks} →
        IsTrait part how (allows_const place) e o x q p c done → IsBound closed (b.Trait (trait_bound_of (Some (groups.paren s)) o x q p)) (group Parenthesis s c r) r
    a_capture_bound : {x : PreciseCapture} {l r : Toks} → allows_capture place ≡ true → IsCapture (is_clear how) x l r → IsBound closed (b.PreciseCapture x) l r

  -- ---- bounds joined by `+`

  -- A bound that a `+` follows is not open to it. `Ends` says where the list may end without a bound: at first, where it is then empty, and after a `+`.
  module _ (Ends : Bool → Type 0) where
    pub data AreBounds : Bool → End → List (TypeParamBound A E) → List token.Plus → Toks → Toks → Type 0 where
      no_bounds : {r : Toks} → Ends true → AreBounds true closed [] [] r r
      last_plus : {r : Toks} → Ends false → AreBounds false after_plus [] [] r r
      last_bound : {first : Bool} {e : End} {x : TypeParamBound A E} {l r : Toks} → (part how).bound place e x l r → AreBounds first (going_on e) (x ∷ []) [] l r
      bound_and_plus : {first : Bool} {e f : End} {x : TypeParamBound A E} {p : token.Plus} {xs : List (TypeParamBound A E)} {ps : List token.Plus} {l m k r : Toks} →
          (part how).bound place e x l m → e.is_open ≡ false → IsMark (is_clear how) p m k → AreBounds false f xs ps k r → AreBounds first f (x ∷ xs) (p ∷ ps) l r
