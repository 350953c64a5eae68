-- What stands within a form is spelt clearly before other tokens too: what is known of it; a part that may be there, a given value, a binder, `const` or `mut`, and that something stands there.
use Rattle.std.proofs.Common.{◌≡◌, true, false, List, Option, refl}
use Rattle.syn_ty.proofs.ty_laws.words.Tokens.{sees_lifetime, is_done, sees_mark, Toks, done, word, mark, lit, group, enter, leave}
use Rattle.syn_ty.proofs.ty_laws.words.Paths.{Calm, Moved}
use Rattle.syn_ty.proofs.ty_laws.words.Forms.{BoundPlace, ParamPlace, TypePlace, PointerMutability, IsMutability, a_const, a_mut}
use Rattle.syn_ty.proofs.ty_laws.words.Types.{IsGiven, given, IsBinder, a_binder, End, Parts, Relation, IsOptional, absent, present, BoundLifetimes, GenericArgument, GenericParam, PathArguments, TypeParamBound, TypeTree}
use Rattle.token_core.specs.Tokens as token
use Rattle.syn_path.proofs.Moves.{equals_moves, free_moves, listed_moves, lt_moves, word_moves}
use Rattle.syn_ty.proofs.ty_laws.reprint.EndsParts.{Ending}

-- ---- what is known of what a form holds

pub record Moving {A E : Type 0} (k : Toks) (p : Parts A E) : Type 0 where
  pub ty : (place : TypePlace) (e : End) (x : TypeTree A E) (l r : Toks) → p.ty place e x l r → Calm l → Moved (p.ty place e x) k l r
  pub bound : (place : BoundPlace) (e : End) (x : TypeParamBound A E) (l r : Toks) → p.bound place e x l r → Calm l → Moved (p.bound place e x) k l r
  pub param : (place : ParamPlace) (x : GenericParam A E) (l r : Toks) → p.param place x l r → Calm l → Moved (p.param place x) k l r
  pub argument : (x : GenericArgument A E) (l r : Toks) → p.argument x l r → Calm l → Moved (p.argument x) k l r
  pub arguments : (x : PathArguments A E) (l r : Toks) → p.arguments x l r → Calm l → Moved (p.arguments x) k l r
  pub attrs : (x : List A) (l r : Toks) → p.attrs x l r → Calm l → Moved (p.attrs x) k l r
  pub const_argument : (x : E) (l r : Toks) → p.const_argument x l r → Calm l → Moved (p.const_argument x) k l r
  pub const_default : (x : E) (l r : Toks) → p.const_default x l r → Calm l → Moved (p.const_default x) k l r
  pub ends : Ending p

-- ---- something stands there

pub lifetime_there : (l : Toks) → sees_lifetime l ≡ true → is_done l ≡ false
unfolding is_done sees_lifetime
lifetime_there done h = cc h
lifetime_there (word i l) h = refl
lifetime_there (mark p l) h = refl
lifetime_there (lit x l) h = refl
lifetime_there (group d s c l) h = refl
lifetime_there (enter s l) h = lifetime_there l h
lifetime_there (leave l) h = lifetime_there l h

pub sep_there : (l : Toks) → token.sees_path_sep l ≡ true → is_done l ≡ false
unfolding is_done sees_mark
sep_there done h = cc h
sep_there (word i l) h = refl
sep_there (mark p l) h = refl
sep_there (lit x l) h = refl
sep_there (group d s c l) h = refl
sep_there (enter s l) h = sep_there l h
sep_there (leave l) h = sep_there l h

-- ---- parts of forms

module _ {A : Type 0} {V : Relation A} (k : Toks) where
  pub optional_moves : {o : Option A} {l r : Toks} → IsOptional V o l r → Calm l → ((x : A) (l r : Toks) → V x l r → Calm l → Moved (V x) k l r) → Moved (IsOptional V o) k l r
  optional_moves absent q f = record { calm = q; is = absent }
  optional_moves (present i) q f = let a = f _ _ _ i q in record { calm = a.calm; is = present a.is }

  pub given_moves : {x : token.Equals × A} {l r : Toks} → IsGiven true V x l r → Calm l → ((x : A) (l r : Toks) → V x l r → Calm l → Moved (V x) k l r) → Moved (IsGiven true V x) k l r
  given_moves (given i j) q f = let a = equals_moves k i q in let b = f _ _ _ j a.calm in record { calm = b.calm; is = given a.is b.is }

pub mutability_moves : {x : PointerMutability} {l r : Toks} (k : Toks) → IsMutability x l r → Calm l → Moved (IsMutability x) k l r
mutability_moves k (a_const i) q = let a = word_moves k i q in record { calm = a.calm; is = a_const a.is }
mutability_moves k (a_mut i) q = let a = word_moves k i q in record { calm = a.calm; is = a_mut a.is }

module _ {A E : Type 0} {V : Relation (GenericParam A E)} (k : Toks) where
  pub binder_moves : {x : BoundLifetimes A E} {l r : Toks} → IsBinder true V x l r → Calm l → ((x : GenericParam A E) (l r : Toks) → V x l r → Calm l → Moved (V x) k l r) → Moved (IsBinder true V x) k l r
  binder_moves (a_binder i j v g) q f =
      let a = word_moves k i q in
      let b = lt_moves k j a.calm in
      let w = listed_moves k v b.calm (λ b. f) (λ p l r i q. free_moves (λ l. refl) k i q) in
      let c = free_moves (λ l. refl) k g w.calm in
      record { calm = c.calm; is = a_binder a.is b.is w.is c.is }
