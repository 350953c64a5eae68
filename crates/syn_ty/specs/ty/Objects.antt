-- Which lists the bounds after `dyn` and `impl` spell, and those of a trait object without `dyn`.
use Rattle.std.specs.Prelude.{◌≡◌, true, false, List, [], ◌∷◌, Option, Some, None}
use Rattle.std.specs.List.{list_any}
use Rattle.token_core.specs.declared.span.DelimSpan.{DelimSpan}
use Rattle.token_core.specs.declared.tree.Delimiter.TheVariants.{Parenthesis}
use Rattle.token_core.specs.Groups as groups
use Rattle.token_core.specs.Lifetimes.{sees_lifetime}
use Rattle.token_core.specs.Listed.{Anywhere, Nowhere, AfterMark}
use Rattle.token_core.specs.Loops.{Many}
use Rattle.token_core.specs.Spellings.{IsMark, IsWord}
use Rattle.token_core.specs.Toks.{Toks, done, group}
use Rattle.syn_path.specs.declared.path.PathStyle.TheVariants.{AsWritten}
use Rattle.syn_forms.specs.declared.places.BoundPlace.{BoundPlace}
use Rattle.syn_forms.specs.declared.places.BoundPlace.TheVariants.{Object, Opaque}
use Rattle.syn_forms.specs.declared.places.TypePlace.{TypePlace}
use Rattle.syn_forms.specs.places.Reading.{allows_plus}
use Rattle.syn_ty.specs.declared.generics.TypeParamBoundOf.TheVariants as b
use Rattle.syn_ty.specs.generics.Bounds.{IsFor, AreBounds}
use Rattle.syn_ty.specs.generics.Modifiers.{no_modifiers}
use Rattle.syn_ty.specs.generics.Params.{named_bound, trait_bound_of}
use Rattle.syn_ty.specs.path.Signed.{IsBoundPath}
use Rattle.syn_ty.specs.path.Spelling.{IsPath}
use Rattle.syn_ty.specs.ty.Parts.{Manner, is_clear, End, opened, Parts}
use Rattle.syn_ty.specs.ty.Reading.{is_trait}
use Rattle.syn_ty.specs.ty.Spelling.{IsOptional}
use Rattle.syn_ty.specs.ty.Trees.{BoundLifetimes, Path, TypeImplTrait, TypeParamBound, TypeTraitObject}
use Rattle.syn_ty.specs.ty.Types.{impl_trait_with, trait_object_with}
use Rattle.token_core.specs.Tokens as token

-- how a lone bound ends that further ones may follow where a plus is allowed
abbrev pub ends_lone : TypePlace → End
ends_lone place = record { is_open = allows_plus place; in_plus = false }

-- a bound of a path in parentheses, without modifiers
abbrev pub in_parens : {A E : Type 0} → DelimSpan → Option (BoundLifetimes A E) → Option token.Question → Path A E → TypeParamBound A E
in_parens s o q p = b.Trait (trait_bound_of (Some (groups.paren s)) o no_modifiers q p)

module _ {A E : Type 0} (part : Manner → Parts A E) (how : Manner) where
  -- ---- after `dyn` and `impl`

  module _ (place : TypePlace) where
    -- with plus, bounds joined by `+`, one or more, and the last may have its `+`; without plus, one bound
    pub data IsBoundList (kind : BoundPlace) : End → Many (TypeParamBound A E) token.Plus → Toks → Toks → Type 0 where
      several_bounds : {e : End} {xs : List (TypeParamBound A E)} {ps : List token.Plus} {l r : Toks} → allows_plus place ≡ true → AreBounds part how kind AfterMark true e xs ps l r → IsBoundList kind e (xs, ps) l r
      one_bound : {e : End} {x : TypeParamBound A E} {l r : Toks} → allows_plus place ≡ false → (part how).bound kind e x l r → IsBoundList kind e (x ∷ [], []) l r

    -- of a trait object: one names a trait
    pub data AreObjectBounds : End → Many (TypeParamBound A E) token.Plus → Toks → Toks → Type 0 where
      object_bounds : {e : End} {v : Many (TypeParamBound A E) token.Plus} {l r : Toks} → IsBoundList Object e v l r → list_any is_trait v.0 ≡ true → AreObjectBounds e v l r

    -- `dyn` and bounds
    pub data IsDyn : End → TypeTraitObject A E → Toks → Toks → Type 0 where
      a_dyn : {e : End} {w : token.Dyn} {v : Many (TypeParamBound A E) token.Plus} {l m r : Toks} → IsWord w l m → AreObjectBounds e v m r → IsDyn e (trait_object_with [] (Some w) v) l r

    -- a trait object by itself, whose `dyn` may be missing
    pub data IsObject : TypeTraitObject A E → Toks → Toks → Type 0 where
      an_object : {e : End} {w : Option token.Dyn} {v : Many (TypeParamBound A E) token.Plus} {l m r : Toks} → IsOptional IsWord w l m → AreObjectBounds e v m r → IsObject (trait_object_with [] w v) l r

    -- `impl` and bounds: one names a trait
    pub data IsImpl : End → TypeImplTrait A E → Toks → Toks → Type 0 where
      an_impl : {e : End} {w : token.Impl} {v : Many (TypeParamBound A E) token.Plus} {l m r : Toks} →
          IsWord w l m → IsBoundList Opaque e v m r → list_any is_trait v.0 ≡ true → IsImpl e (impl_trait_with [] w v) l r

  -- ---- without `dyn`, as a type

  -- The path of a type as the first bound, without parentheses, perhaps after a binder: then it has no leading `::`.
  pub data IsFirst : Option (BoundLifetimes A E) → Path A E → Toks → Toks → Type 0 where
    a_first : {p : Path A E} {l r : Toks} → IsPath part how AsWritten p l r → token.sees_try l ≡ false → IsFirst None p l r
    a_first_for : {x : BoundLifetimes A E} {p : Path A E} {l m r : Toks} → IsFor part how x l m → IsPath part how AsWritten p m r → token.sees_try m ≡ false → token.sees_path_sep m ≡ false → IsFirst (Some x) p l r

  -- `?` and a path
  pub data IsAsked : token.Question → Path A E → Toks → Toks → Type 0 where
    an_asked : {e : End} {q : token.Question} {p : Path A E} {l m r : Toks} → IsMark (is_clear how) q l m → IsBoundPath part how e p m r → IsAsked q p l r

  -- after the first bound: each `+` has a bound
  pub data AreFurther : End → List (TypeParamBound A E) → List token.Plus → Toks → Toks → Type 0 where
    none_further : {r : Toks} → AreFurther opened [] [] r r
    some_further : {e : End} {p : token.Plus} {xs : List (TypeParamBound A E)} {ps : List token.Plus} {l m r : Toks} →
        IsMark (is_clear how) p l m → AreBounds part how Object Nowhere false e xs ps m r → AreFurther e xs (p ∷ ps) l r

  pub data AreBareBounds (place : TypePlace) : End → Many (TypeParamBound A E) token.Plus → Toks → Toks → Type 0 where
    -- a path after a binder, alone
    path_alone : {x : BoundLifetimes A E} {p : Path A E} {l r : Toks} → IsFirst (Some x) p l r → AreBareBounds place (ends_lone place) (b.Trait (named_bound (Some x) None p) ∷ [], []) l r
    -- with plus: a path and `+`, and perhaps further bounds, of which the last may have its `+`
    path_and_plus : {e : End} {o : Option (BoundLifetimes A E)} {p : Path A E} {c : token.Plus} {xs : List (TypeParamBound A E)} {ps : List token.Plus} {l m n r : Toks} → allows_plus place ≡ true →
        IsFirst o p l m → IsMark (is_clear how) c m n → AreBounds part how Object Anywhere false e xs ps n r → AreBareBounds place e (b.Trait (named_bound o None p) ∷ xs, c ∷ ps) l r
    -- with plus: a path in parentheses, `+` and further bounds
    held_and_plus : {e : End} {o : Option (BoundLifetimes A E)} {p : Path A E} {s : DelimSpan} {k : token.Plus} {xs : List (TypeParamBound A E)} {ps : List token.Plus} {c m n r : Toks} → allows_plus place ≡ true →
        IsFirst o p c done → IsMark (is_clear how) k m n → AreBounds part how Object Nowhere false e xs ps n r → AreBareBounds place e (in_parens s o None p ∷ xs, k ∷ ps) (group Parenthesis s c m) r
    -- `?` and a path in parentheses, and perhaps further bounds
    asked_first : {e : End} {q : token.Question} {p : Path A E} {s : DelimSpan} {xs : List (TypeParamBound A E)} {ps : List token.Plus} {c m r : Toks} →
        IsAsked q p c done → AreFurther e xs ps m r → AreBareBounds place e (in_parens s None (Some q) p ∷ xs, ps) (group Parenthesis s c m) r
    -- with plus: the same in a further pair of parentheses, which is dropped, `+` and further bounds
    asked_in_two : {e : End} {q : token.Question} {p : Path A E} {s i : DelimSpan} {k : token.Plus} {xs : List (TypeParamBound A E)} {ps : List token.Plus} {c m n r : Toks} → allows_plus place ≡ true →
        IsAsked q p c done → IsMark (is_clear how) k m n → AreBounds part how Object Nowhere false e xs ps n r →
        AreBareBounds place e (in_parens s None (Some q) p ∷ xs, k ∷ ps) (group Parenthesis s (group Parenthesis i c done) m) r
    -- a lifetime and further bounds, one of which names a trait; the last may have its `+`
    lifetime_first : {e : End} {xs : List (TypeParamBound A E)} {ps : List token.Plus} {l r : Toks} → sees_lifetime l ≡ true → AreBounds part how Object AfterMark true e xs ps l r →
        list_any is_trait xs ≡ true → AreBareBounds place e (xs, ps) l r
