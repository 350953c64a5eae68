-- What is known of the reads that a form holds: each took what its answer spells, and stands further on; and the same of attributes and expressions.
use Rattle.std.proofs.Common.{◌≡◌, true, List, None, Ok}
use Rattle.syn_ty.proofs.ty_laws.words.Tokens.{Reader, leaves, Visible, Stream, Toks}
use Rattle.syn_ty.proofs.ty_laws.words.Paths.{Along, TookOne, ReadValues}
use Rattle.syn_ty.proofs.ty_laws.words.Forms.{BoundPlace, ParamPlace, TypePlace}
use Rattle.syn_ty.proofs.ty_laws.words.Types.{is_empty, sees_const, Manner, loosely, Parts, Point, Readers, a_bound, a_param, a_type, an_argument, some_arguments, GenericArgument, GenericParam, PathArguments, TypeParamBound, TypeTree}
use Rattle.syn_ty.proofs.ty_laws.sound.Signed.{EmptyPair}
use Rattle.syn_ty.proofs.ty_laws.sound.Forms.{Told}

module _ {A E : Type 0} where
  -- the five points
  pub record Held (r : Readers A E) (part : Manner → Parts A E) : Type 0 where
    pub ty : (p : TypePlace) (s t : Stream) (x : TypeTree A E) → Visible s.rest → r (a_type p) s ≡ Ok (x, t) → TookOne (Told ((part loosely).ty p)) s t x
    pub bound : (p : BoundPlace) (s t : Stream) (x : TypeParamBound A E) → Visible s.rest → r (a_bound p) s ≡ Ok (x, t) → TookOne (Told ((part loosely).bound p)) s t x
    pub param : (p : ParamPlace) (s t : Stream) (x : GenericParam A E) → Visible s.rest → r (a_param p) s ≡ Ok (x, t) → TookOne ((part loosely).param p) s t x
    pub argument : (s t : Stream) (x : GenericArgument A E) → Visible s.rest → r an_argument s ≡ Ok (x, t) → TookOne (part loosely).argument s t x
    pub arguments : (s t : Stream) (x : PathArguments A E) → Visible s.rest → r some_arguments s ≡ Ok (x, t) → TookOne (part loosely).arguments s t x
    pub pair : (x : PathArguments A E) (l k : Toks) → (part loosely).arguments x l k → is_empty x ≡ true → EmptyPair part l k
    pub along : (q : Point) → Along (r q)

  -- attributes, and expressions in their places
  pub record Supplied (attrs : Reader (List A)) (values : ReadValues E) (part : Manner → Parts A E) : Type 0 where
    pub attrs_took : (s t : Stream) (x : List A) → Visible s.rest → attrs s ≡ Ok (x, t) → TookOne (part loosely).attrs s t x
    pub len : (s t : Stream) (x : E) → Visible s.rest → values.len s ≡ Ok (x, t) → leaves t ≡ None → (part loosely).len x s.rest
    pub len_left : (s t : Stream) (x : E) → values.len s ≡ Ok (x, t) → leaves t ≡ None → s.left ≡ None
    -- what begins as a const argument does
    pub argument : (s t : Stream) (x : E) → Visible s.rest → sees_const s.rest ≡ true → values.const_argument s ≡ Ok (x, t) → TookOne (part loosely).const_argument s t x
    pub default : (s t : Stream) (x : E) → Visible s.rest → values.const_argument s ≡ Ok (x, t) → TookOne (part loosely).const_default s t x
    pub attrs_along : Along attrs
    pub argument_along : Along values.const_argument
