-- The laws of each grammar of patterns follow from those of a supplied subtree alone.
use Rattle.std.proofs.Common.{◌≡◌, None, Ok, refl}
use Rattle.syn_pat.proofs.pat_laws.words.Tokens.{leaves, Stream, Toks}
use Rattle.syn_pat.proofs.pat_laws.words.Paths.{Place, Reprints, SameOutcome, UsesUp}
use Rattle.syn_pat.proofs.pat_laws.words.Attributes.{normal_values_of, values_of, outer}
use Rattle.syn_pat.proofs.pat_laws.words.Patterns.{PatPlace, values, outer_spelt, values_spelt}
use Rattle.token_core.specs.Headline.{Lawful}
use Rattle.syn_path.specs.Traits.{Subtree}
use Rattle.syn_path.specs.declared.supplied.Place.TheVariants.{Value}
use Rattle.syn_path.specs.Lengths.{LengthLaws}
use Rattle.syn_path.specs.Supplied.{IsApart}
use Rattle.syn_path.specs.Whole.{AttributesMeet, ConstsMeet}
use Rattle.syn_attr.specs.laws.Lengths.{length_laws}
use Rattle.syn_attr.specs.laws.ConstsMeet.{consts_meet}
use Rattle.syn_attr.specs.laws.OuterMeet.{attributes_meet}
use Rattle.syn_ty.proofs.ty_laws.GivenWhole.{given_again, given_meets}
use Rattle.syn_ty.proofs.ty_laws.reprint.Knot.{GivenAgain}
use Rattle.syn_ty.proofs.ty_laws.complete.Knot.{GivenMeets}
use Rattle.syn_pat.specs.pat.Normal as normal
use Rattle.syn_pat.specs.pat.Printing as printing
use Rattle.syn_pat.specs.pat.Promises as promises
use Rattle.syn_pat.proofs.pat_laws.WholeLaws as laws

module _ {X : Type 0} (sub : Subtree X)
    (steady : (p : Place) (s t : Stream) → s.rest ≡ t.rest → SameOutcome (sub.reads p s) (sub.reads p t))
    (sound : (p : Place) (s t : Stream) (x : X) → sub.reads p s ≡ Ok (x, t) → leaves t ≡ None → sub.spells p x s.rest)
    (complete : (p : Place) (s : Stream) (x : X) → sub.spells p x s.rest → (t : Stream) × (sub.reads p s ≡ Ok (x, t)) × UsesUp s t)
    (reprint : (p : Place) (x : X) (l : Toks) → sub.spells p x l → Reprints (sub.spells p) (sub.normal p) (sub.prints p) x l)
    (apart : (x : X) (l : Toks) → sub.spells Value x l → IsApart l) where
  attrs : AttributesMeet (outer sub.reads) (outer_spelt sub.spells) (normal.attrs sub.normal) (printing.attrs sub.prints)
  attrs = attributes_meet sub.reads sub.spells sub.normal sub.prints complete reprint apart

  consts : ConstsMeet (values sub.reads).const_argument (values_spelt sub.spells).const_argument (values_spelt sub.spells).const_default (normal_values_of sub.normal).const_argument (values_of sub.prints).const_argument
  consts = consts_meet sub.reads sub.spells sub.normal sub.prints complete reprint

  lens : LengthLaws (values sub.reads).len (values_spelt sub.spells).len (normal_values_of sub.normal).len (values_of sub.prints).len
  lens = length_laws sub.reads sub.spells sub.normal sub.prints steady sound complete reprint

  pub meets : GivenMeets (outer sub.reads) (values sub.reads) (outer_spelt sub.spells) (values_spelt sub.spells)
  meets = given_meets attrs consts lens

  pub types : GivenAgain (normal.attrs sub.normal) (normal_values_of sub.normal) (printing.attrs sub.prints) (values_of sub.prints) (outer_spelt sub.spells) (values_spelt sub.spells)
  types = given_again attrs consts lens (record { stays = refl; silent = refl })

  pub pat_lawful : (place : PatPlace) → Lawful (promises.pat sub place)
  pat_lawful = laws.pat_lawful sub steady sound complete reprint meets types

  pub guarded_lawful : Lawful (promises.guarded sub)
  guarded_lawful = laws.guarded_lawful sub steady sound complete reprint meets types

  pub typed_lawful : Lawful (promises.typed sub)
  typed_lawful = laws.typed_lawful sub steady sound complete reprint meets types
