-- What stands within a form does not end in a mark that is glued to what follows, but perhaps in a `!`: what is known of it; marks, a part that may be there, a given value, a binder, `const` or `mut`.
use Rattle.std.proofs.Common.{true, List, Option, refl}
use Rattle.syn_ty.proofs.ty_laws.words.Tokens.{IsMark, is_mark, Toks}
use Rattle.syn_ty.proofs.ty_laws.words.Paths.{Ended, Shut}
use Rattle.syn_ty.proofs.ty_laws.words.Forms.{BoundPlace, ParamPlace, TypePlace, PointerMutability, IsMutability, a_const, a_mut}
use Rattle.syn_ty.proofs.ty_laws.words.Types.{IsGiven, given, IsBinder, a_binder, Sep, End, Parts, Relation, IsOptional, absent, present, BoundLifetimes, GenericArgument, GenericParam, PathArguments, TypeParamBound, TypeTree}
use Rattle.token_core.specs.Tokens as token
use Rattle.syn_path.proofs.Ends.{char_over, chars_on, listed_on, word_over}

-- Types, bounds and arguments in angle brackets end so whatever follows; the others where something does.
pub record Ending {A E : Type 0} (p : Parts A E) : Type 0 where
  pub ty : (place : TypePlace) (e : End) (x : TypeTree A E) (l r : Toks) → p.ty place e x l r → Shut r → Ended l
  pub bound : (place : BoundPlace) (e : End) (x : TypeParamBound A E) (l r : Toks) → p.bound place e x l r → Shut r → Ended l
  pub param : (place : ParamPlace) (x : GenericParam A E) (l r : Toks) → p.param place x l r → Ended r → Ended l
  pub argument : (x : GenericArgument A E) (l r : Toks) → p.argument x l r → Ended r → Ended l
  pub arguments : (x : PathArguments A E) (l r : Toks) → p.arguments x l r → Shut r → Ended l
  pub attrs : (x : List A) (l r : Toks) → p.attrs x l r → Ended r → Ended l
  pub const_argument : (x : E) (l r : Toks) → p.const_argument x l r → Ended r → Ended l
  pub const_default : (x : E) (l r : Toks) → p.const_default x l r → Ended r → Ended l

-- ---- marks before what is there

pub sep_on : (c : Sep) (l r : Toks) → IsMark true c l r → Ended r → Ended l
sep_on c l r (is_mark i) h = chars_on i h

pub comma_on : (c : token.Comma) (l r : Toks) → IsMark true c l r → Ended r → Ended l
comma_on c l r (is_mark i) h = chars_on i h

pub plus_on : (c : token.Plus) (l r : Toks) → IsMark true c l r → Ended r → Ended l
plus_on c l r (is_mark i) h = chars_on i h

-- ---- and whatever follows

pub plus_over : {c : token.Plus} {l r : Toks} → IsMark true c l r → Shut r → Ended l
plus_over (is_mark i) h = char_over 43 refl i h

pub gt_over : {c : token.Gt} {l r : Toks} → IsMark true c l r → Shut r → Ended l
gt_over (is_mark i) h = char_over 62 refl i h

-- ---- parts of forms

module _ {A : Type 0} {V : Relation A} where
  pub optional_on : {o : Option A} {l r : Toks} → IsOptional V o l r → ((x : A) (l r : Toks) → V x l r → Ended r → Ended l) → Ended r → Ended l
  optional_on absent f h = h
  optional_on (present i) f h = f _ _ _ i h

  pub given_on : {x : token.Equals × A} {l r : Toks} → IsGiven true V x l r → ((x : A) (l r : Toks) → V x l r → Ended r → Ended l) → Ended r → Ended l
  given_on (given (is_mark i) j) f h = chars_on i (f _ _ _ j h)

pub mutability_on : {x : PointerMutability} {l r : Toks} → IsMutability x l r → Ended r → Ended l
mutability_on (a_const i) h = word_over i h.apart
mutability_on (a_mut i) h = word_over i h.apart

module _ {A E : Type 0} {V : Relation (GenericParam A E)} where
  pub binder_on : {x : BoundLifetimes A E} {l r : Toks} → IsBinder true V x l r → ((x : GenericParam A E) (l r : Toks) → V x l r → Ended r → Ended l) → Ended r → Ended l
  binder_on (a_binder i (is_mark j) v (is_mark g)) f h = let k = chars_on j (listed_on (λ b. f) comma_on v (chars_on g h)) in word_over i k.apart
