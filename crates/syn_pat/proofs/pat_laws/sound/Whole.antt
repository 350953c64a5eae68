-- Over the laws of a supplied subtree each whole read of a pattern, of a pattern with a guard and of one with a type is sound.
use Rattle.std.proofs.Common.{◌≡◌, suc, None, Ok, sym, ◌∙◌, ap}
use Rattle.syn_pat.proofs.pat_laws.words.Tokens.{Print, Reader, leaves, Stream, Toks}
use Rattle.syn_pat.proofs.pat_laws.words.Paths.{Place, Block, Guard, Reprints, SameOutcome, UsesUp}
use Rattle.syn_pat.proofs.pat_laws.words.Forms.{Plus}
use Rattle.syn_pat.proofs.pat_laws.words.Attributes.{outer}
use Rattle.syn_pat.proofs.pat_laws.words.Types.{loosely}
use Rattle.syn_pat.proofs.pat_laws.words.Patterns.{PatPlace, values, type_names, outer_spelt, values_spelt, SpellsGuarded, SpellsPat, SpellsPatType}
use Rattle.token_core.proofs.Turns.{same_pair}
use Rattle.syn_path.specs.declared.path.PathStyle.TheVariants.{Expr as expressions}
use Rattle.syn_attr.specs.laws.Lengths.{length_laws}
use Rattle.syn_attr.specs.laws.Told.{attributes_told, consts_told}
use Rattle.syn_forms.proofs.tokens_laws.Fronts.{nothing_left}
use Rattle.syn_ty.proofs.ty_laws.sound.Alone.{maybe_qualified_took, ty_took}
use Rattle.syn_ty.proofs.ty_laws.sound.AlongAlone.{lone_maybe_qualified}
use Rattle.syn_ty.proofs.ty_laws.Given.{Given, given}
use Rattle.syn_ty.proofs.ty_laws.sound.Whole.{Whole}
use Rattle.syn_pat.specs.pat.Knot as knot
use Rattle.syn_pat.proofs.pat_laws.sound.Knot as told
use Rattle.syn_pat.proofs.pat_laws.sound.Within.{SuppliedTold}

module _ {X : Type 0} (reads : Place → Reader X) (spells : Place → X → Toks → Type 0) (normals : Place → X → X) (prints : Place → X → Print)
    (steady : (p : Place) (s t : Stream) → s.rest ≡ t.rest → SameOutcome (reads p s) (reads p t))
    (sound : (p : Place) (s t : Stream) (x : X) → reads p s ≡ Ok (x, t) → leaves t ≡ None → spells p x s.rest)
    (complete : (p : Place) (s : Stream) (x : X) → spells p x s.rest → (t : Stream) × (reads p s ≡ Ok (x, t)) × UsesUp s t)
    (reprint : (p : Place) (x : X) (l : Toks) → spells p x l → Reprints (spells p) (normals p) (prints p) x l) where
  -- what types ask of attributes and expressions
  within : Given (outer reads) (values reads) (outer_spelt spells) (values_spelt spells)
  within = given (attributes_told reads spells sound) (consts_told reads spells sound) (length_laws reads spells normals prints steady sound complete reprint)

  -- what leaves nothing over had nothing left over before
  nothing_before : (p : Place) (s t : Stream) (x : X) → reads p s ≡ Ok (x, t) → leaves t ≡ None → s.left ≡ None
  nothing_before p s t x e n =
      let k = complete p s x (sound p s t x e n) in
      let q = same_pair x x k.0 t (sym k.1 ∙ e) in
      sym k.2.left ∙ ap (λ (z : Stream). z.left) q.1 ∙ nothing_left t n

  pub supplied : SuppliedTold reads spells
  supplied = record {
    path = maybe_qualified_took within expressions;
    ty = λ s t x v e. let k = ty_took within Plus s t x v e in record { left = k.left; seen = k.seen; spelt = λ n. let i = k.spelt n in (suc i.0, i.1) };
    attrs = (attributes_told reads spells sound).took;
    body = λ s t x v e n. sound Block s t x e n;
    guard = λ s t x v e n. (nothing_before Guard s t x e n, sound Guard s t x e n);
    path_along = lone_maybe_qualified (outer reads) (values reads) (attributes_told reads spells sound).along (consts_told reads spells sound).along expressions;
    attrs_along = (attributes_told reads spells sound).along;
  }

  pub pat_sound : (place : PatPlace) → Whole (knot.pat reads (type_names reads) place) (SpellsPat spells place loosely)
  pat_sound place s t x n v e c = told.pat_sound reads spells supplied place s t x v e c

  pub guarded_sound : Whole (knot.guarded reads (type_names reads)) (SpellsGuarded spells loosely)
  guarded_sound s t x n v e c = told.guarded_sound reads spells supplied s t x v e c

  pub typed_sound : Whole (knot.typed reads) (SpellsPatType spells loosely)
  typed_sound s t x n v e c = told.typed_sound reads spells supplied s t x v e c
