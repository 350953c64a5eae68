-- The promise of each reader of patterns: which lists its trees spell, their normal form, their print, which have clear verbatim parts, and the read.
use Rattle.std.specs.Prelude.{◌≡◌, Bool, false, not, ◌&&◌, [], ◌∷◌}
use Rattle.token_core.specs.Clear.{is_glued}
use Rattle.token_core.specs.Fronted.{Fronting}
use Rattle.token_core.specs.Headline.{Grammar}
use Rattle.token_core.specs.Rebuilt.{Visible}
use Rattle.token_core.specs.Toks.{Toks}
use Rattle.syn_forms.specs.declared.places.TypePlace.TheVariants.{Plus}
use Rattle.syn_path.specs.Traits.{Subtree}
use Rattle.syn_ty.specs.ty.Follows.{follows_type}
use Rattle.syn_ty.specs.ty.Frontings.{fitting}
use Rattle.syn_ty.specs.ty.Parts.{plainly}
use Rattle.syn_ty.specs.ty.Promises.{manner, promise}
use Rattle.syn_pat.specs.declared.place.PatPlace.{PatPlace}
use Rattle.syn_pat.specs.pat.Admitted.{allows_cases}
use Rattle.syn_pat.specs.pat.Knot as knot
use Rattle.syn_pat.specs.pat.Normal as normal
use Rattle.syn_pat.specs.pat.Pats.{Pat, PatType}
use Rattle.syn_pat.specs.pat.Printing as shown
use Rattle.syn_pat.specs.pat.Printing.{types_shown}
use Rattle.syn_pat.specs.pat.Reading.{ends_range, sees_vert, type_names}
use Rattle.syn_pat.specs.pat.Spelt.{BeginsPat, BeginsPatType, SpellsGuarded, SpellsPat, SpellsPatType}

-- What may follow a pattern: the end, a comma, `;`, `=`, a `:` that is not `::`, `if`, and where it takes no further case a `|`.
abbrev pub follows_pat : PatPlace → Toks → Bool
follows_pat place k = ends_range k && not (allows_cases place && sees_vert k)

-- over what a supplied subtree reads, spells, has as its normal form and prints in each place
module _ {X : Type 0} (sub : Subtree X) where
  -- single, multi, with leading vert
  abbrev pub pat : PatPlace → Grammar (Pat X)
  pat place = promise (SpellsPat sub.spells place) (normal.pat sub.normal) (shown.pat sub.prints (types_shown sub.prints)) (knot.pat sub.reads (type_names sub.reads) place)

  abbrev pub guarded : Grammar (Pat X)
  guarded = promise (SpellsGuarded sub.spells) (normal.pat sub.normal) (shown.pat sub.prints (types_shown sub.prints)) (knot.guarded sub.reads (type_names sub.reads))

  abbrev pub typed : Grammar (PatType X)
  typed = promise (SpellsPatType sub.spells) (normal.typed sub.normal) (shown.typed sub.prints (types_shown sub.prints)) (knot.typed sub.reads)

  -- ---- on the front of a list

  -- The print is promised to be read again where a `..` at its end may stand glued: before no `=` and no `.`.
  abbrev pub pat_front : PatPlace → Fronting (Pat X)
  pat_front place = record {
    grammar = pat place;
    begins = λ clear x l k. BeginsPat sub.spells place (manner clear) x l k;
    follows = follows_pat place;
    plain = λ x k. (l : Toks) × (r : Toks) × Visible l × BeginsPat sub.spells place plainly x l r × (is_glued (46 ∷ 46 ∷ []) k ≡ false);
  }

  abbrev pub typed_front : Fronting (PatType X)
  typed_front = fitting typed (BeginsPatType sub.spells) (follows_type Plus)
