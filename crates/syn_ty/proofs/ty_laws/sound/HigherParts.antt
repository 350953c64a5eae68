-- What one grammar spells within a form, another spells too: so it is of values that marks join, of a part that may be missing, of what is held verbatim, of a binder and of a given value.
use Rattle.std.proofs.Common.{Bool, List, Option}
use Rattle.syn_ty.proofs.ty_laws.words.Tokens.{AreListed, none_left, last_value, value_and_mark, Toks, done, TokenStream, row, trees}
use Rattle.syn_ty.proofs.ty_laws.words.Forms.{BoundPlace, ParamPlace, TypePlace}
use Rattle.syn_ty.proofs.ty_laws.words.Types.{IsGiven, given, IsBinder, a_binder, Manner, loosely, plainly, clearly, End, Parts, AreMarked, no_further, one_further, Relation, IsOptional, absent, present, BoundLifetimes, GenericArgument, GenericParam, PathArguments, TypeParamBound, TypeTree}
use Rattle.token_core.specs.Tokens as token
use Rattle.syn_ty.specs.ty.Parts.{IsVerbatim}

-- what the first spells, the second spells
pub record Up {A E : Type 0} (p q : Parts A E) : Type 0 where
  pub ty : (place : TypePlace) (e : End) (x : TypeTree A E) (l r : Toks) → p.ty place e x l r → q.ty place e x l r
  pub bound : (place : BoundPlace) (e : End) (x : TypeParamBound A E) (l r : Toks) → p.bound place e x l r → q.bound place e x l r
  pub param : (place : ParamPlace) (x : GenericParam A E) (l r : Toks) → p.param place x l r → q.param place x l r
  pub argument : (x : GenericArgument A E) (l r : Toks) → p.argument x l r → q.argument x l r
  pub arguments : (x : PathArguments A E) (l r : Toks) → p.arguments x l r → q.arguments x l r
  pub attrs : (x : List A) (l r : Toks) → p.attrs x l r → q.attrs x l r
  pub len : (x : E) (l : Toks) → p.len x l → q.len x l
  pub const_argument : (x : E) (l r : Toks) → p.const_argument x l r → q.const_argument x l r
  pub const_default : (x : E) (l r : Toks) → p.const_default x l r → q.const_default x l r

-- ---- lists of values

module _ {A P : Type 0} {V W : Bool → A → Toks → Toks → Type 0} {M : P → Toks → Toks → Type 0} where
  pub listed_up : {Ends : Bool → Type 0} {b : Bool} {xs : List A} {ps : List P} {l r : Toks} → AreListed V M Ends b xs ps l r → ((b : Bool) (x : A) (l r : Toks) → V b x l r → W b x l r) → AreListed W M Ends b xs ps l r
  listed_up (none_left h) f = none_left h
  listed_up (last_value i) f = last_value (f _ _ _ _ i)
  listed_up (value_and_mark i j k) f = value_and_mark (f _ _ _ _ i) j (listed_up k f)

  pub marked_up : {b : Bool} {xs : List A} {ps : List P} {l r : Toks} → AreMarked V M b xs ps l r → ((b : Bool) (x : A) (l r : Toks) → V b x l r → W b x l r) → AreMarked W M b xs ps l r
  marked_up no_further f = no_further
  marked_up (one_further i j k) f = one_further (f _ _ _ _ i) j (marked_up k f)

-- ---- one value

module _ {A : Type 0} {V W : Relation A} where
  pub optional_up : {o : Option A} {l r : Toks} → IsOptional V o l r → ((x : A) (l r : Toks) → V x l r → W x l r) → IsOptional W o l r
  optional_up absent f = absent
  optional_up (present i) f = present (f _ _ _ i)

  pub given_up : {clear : Bool} {x : token.Equals × A} {l r : Toks} → IsGiven clear V x l r → ((x : A) (l r : Toks) → V x l r → W x l r) → IsGiven clear W x l r
  given_up (given i j) f = given i (f _ _ _ j)

-- ---- what is held verbatim

module _ (V W : Manner → Toks → Toks → Type 0) (up : (how : Manner) (l r : Toks) → V how l r → W how l r) where
  pub held_up : (how : Manner) (t : TokenStream) (l r : Toks) → IsVerbatim V how t l r → IsVerbatim W how t l r
  held_up loosely t l r (i, h) = (up loosely l r i, h)
  held_up plainly t l r (i, h) = ((up clearly (row (trees t) done) done i.0, i.1), h)
  held_up clearly t l r (i, h) = (up clearly l r i, h)

-- ---- a binder

module _ {A E : Type 0} {V W : Relation (GenericParam A E)} where
  pub binder_up : {clear : Bool} {x : BoundLifetimes A E} {l r : Toks} → IsBinder clear V x l r → ((x : GenericParam A E) (l r : Toks) → V x l r → W x l r) → IsBinder clear W x l r
  binder_up (a_binder i j k g) f = a_binder i j (listed_up k (λ b. f)) g
