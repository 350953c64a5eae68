-- The laws of each grammar of patterns, where those of a supplied subtree are given: its read is sound and complete, and what it spells plainly is reprinted.
use Rattle.std.proofs.Common.{◌≡◌, None, Ok, sym, ◌∙◌, subst}
use Rattle.syn_pat.proofs.pat_laws.words.Tokens.{leaves, none, Stream, Toks, done, row}
use Rattle.syn_pat.proofs.pat_laws.words.Paths.{Place, Block, Guard, Reprints, SameOutcome, UsesUp}
use Rattle.syn_pat.proofs.pat_laws.words.Attributes.{normal_values_of, values_of, outer}
use Rattle.syn_pat.proofs.pat_laws.words.Patterns.{PatPlace, values, outer_spelt, values_spelt, SpellsGuarded, SpellsPat, SpellsPatType}
use Rattle.token_core.specs.Headline.{Lawful}
use Rattle.token_core.specs.Stream.{started}
use Rattle.token_core.proofs.Turns.{same_pair}
use Rattle.syn_path.specs.Traits.{Subtree}
use Rattle.syn_ty.proofs.ty_laws.reprint.Knot.{GivenAgain}
use Rattle.syn_ty.proofs.ty_laws.complete.Knot.{GivenMeets}
use Rattle.syn_pat.specs.pat.Normal as normal
use Rattle.syn_pat.specs.pat.Printing as printing
use Rattle.syn_pat.specs.pat.Promises as promises
use Rattle.syn_ty.proofs.ty_laws.WholeLaws.{lawful}
use Rattle.syn_pat.proofs.pat_laws.reprint.Parts.{SuppliedAgain}
use Rattle.syn_pat.proofs.pat_laws.reprint.Whole as again
use Rattle.syn_pat.proofs.pat_laws.complete.Whole as met
use Rattle.syn_pat.proofs.pat_laws.sound.Whole as told

module _ {X : Type 0} (sub : Subtree X)
    (steady : (p : Place) (s t : Stream) → s.rest ≡ t.rest → SameOutcome (sub.reads p s) (sub.reads p t))
    (sound : (p : Place) (s t : Stream) (x : X) → sub.reads p s ≡ Ok (x, t) → leaves t ≡ None → sub.spells p x s.rest)
    (complete : (p : Place) (s : Stream) (x : X) → sub.spells p x s.rest → (t : Stream) × (sub.reads p s ≡ Ok (x, t)) × UsesUp s t)
    (reprint : (p : Place) (x : X) (l : Toks) → sub.spells p x l → Reprints (sub.spells p) (sub.normal p) (sub.prints p) x l)
    (meets : GivenMeets (outer sub.reads) (values sub.reads) (outer_spelt sub.spells) (values_spelt sub.spells))
    (types : GivenAgain (normal.attrs sub.normal) (normal_values_of sub.normal) (printing.attrs sub.prints) (values_of sub.prints) (outer_spelt sub.spells) (values_spelt sub.spells)) where
  -- the print of a subtree spells its normal form, and that of this one
  supplied_stays : (w : Place) (x : X) (l : Toks) → sub.spells w x l → sub.normal w (sub.normal w x) ≡ sub.normal w x
  supplied_stays w x l i =
      let r = reprint w x l i in
      let t = row (sub.prints w x) done in
      let q = reprint w (sub.normal w x) t r.again in
      let a = complete w (started none t) (sub.normal w x) r.again in
      let b = complete w (started none t) (sub.normal w (sub.normal w x)) (subst (λ z. sub.spells w (sub.normal w (sub.normal w x)) (row z done)) r.same q.again) in
      (same_pair (sub.normal w (sub.normal w x)) (sub.normal w x) b.0 a.0 (sym b.1 ∙ a.1)).0

  pub supplied : SuppliedAgain sub.spells sub.normal sub.prints
  supplied = record { types = types; body = reprint Block; body_stays = supplied_stays Block; guard = reprint Guard; guard_stays = supplied_stays Guard }

  pub pat_lawful : (place : PatPlace) → Lawful (promises.pat sub place)
  pat_lawful place = lawful (SpellsPat sub.spells place) (told.pat_sound sub.reads sub.spells sub.normal sub.prints steady sound complete reprint place) (met.pat_complete sub.reads sub.spells meets complete place) (again.pat_whole sub.spells sub.normal sub.prints supplied place)

  pub guarded_lawful : Lawful (promises.guarded sub)
  guarded_lawful = lawful (SpellsGuarded sub.spells) (told.guarded_sound sub.reads sub.spells sub.normal sub.prints steady sound complete reprint) (met.guarded_complete sub.reads sub.spells meets complete) (again.guarded_whole sub.spells sub.normal sub.prints supplied)

  pub typed_lawful : Lawful (promises.typed sub)
  typed_lawful = lawful (SpellsPatType sub.spells) (told.typed_sound sub.reads sub.spells sub.normal sub.prints steady sound complete reprint) (met.typed_complete sub.reads sub.spells meets complete) (again.typed_whole sub.spells sub.normal sub.prints supplied)
