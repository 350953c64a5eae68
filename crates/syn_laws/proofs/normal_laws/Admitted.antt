-- An admitted tree whose verbatim parts are clear prints its normal form, which is its own and prints the same: of every grammar that meets its laws, and of the value of a meta.
use Rattle.std.proofs.Common.{◌≡◌, false, List, None, Ok, sym, ◌∙◌, ap}
use Rattle.token_core.specs.Headline.{Grammar, Lawful, printed}
use Rattle.token_core.specs.Reads.{leaves}
use Rattle.token_core.specs.Stream.{Stream}
use Rattle.token_core.specs.Toks.{Toks}
use Rattle.token_core.proofs.Headlines.{again}
use Rattle.syn_path.specs.Supplied.{IsApart, Reprints, SameOutcome, UsesUp}
use Rattle.syn_path.specs.Traits.{Attributes, Expressions, Subtree}
use Rattle.syn_path.specs.declared.supplied.Place.{Place}
use Rattle.syn_path.specs.declared.supplied.Place.TheVariants.{Value}
use Rattle.syn_attr.specs.declared.attr.Meta.{Meta}
use Rattle.syn_attr.specs.declared.expr.Expr.{Expr}
use Rattle.syn_attr.specs.declared.expr.Expr.TheVariants as e
use Rattle.syn_attr.specs.attr.Attrs.{Attribute}
use Rattle.syn_attr.specs.attr.Grammars as grammars
use Rattle.syn_attr.specs.attr.Normal as normal
use Rattle.syn_attr.specs.attr.Printing as printing
use Rattle.syn_attr.specs.laws.Prints.{normal_literal, normal_other, prints_other}
use Rattle.syn_attr.specs.laws.Reprint.{supplied_stays}
use Rattle.syn_attr.specs.attr.Spelling.{IsValue, a_literal, supplied}
use Rattle.syn_attr.proofs.attr_laws.Laws.{inner_lawful, meta_lawful, outer_lawful}
use Rattle.syn_forms.specs.declared.places.TypePlace.{TypePlace}
use Rattle.syn_ty.specs.ty.Promises as types
use Rattle.syn_ty.specs.ty.Trees.{TypeTree}
use Rattle.syn_ty.proofs.ty_laws.Given.{Given}
use Rattle.syn_ty.proofs.ty_laws.reprint.Knot.{GivenAgain}
use Rattle.syn_ty.proofs.ty_laws.complete.Knot.{GivenMeets}
use Rattle.syn_ty.proofs.ty_laws.WholeLaws.{ty_lawful}
use Rattle.syn_generics.specs.declared.generics.GenericsOf.{GenericsOf}
use Rattle.syn_generics.specs.generics.Promises as generics
use Rattle.syn_generics.proofs.generics_laws.WholeLaws.{generics_lawful}
use Rattle.syn_pat.specs.declared.place.PatPlace.{PatPlace}
use Rattle.syn_pat.specs.pat.Pats.{Pat}
use Rattle.syn_pat.specs.pat.Promises as patterns
use Rattle.syn_pat.proofs.pat_laws.GivenLaws.{pat_lawful}
use Rattle.syn_laws.specs.Normal.{Admitted}

-- ---- of a grammar

pub admitted : {F : Type 0} (G : Grammar F) → Lawful G → (x : F) → Admitted G x
admitted G laws x l v i p =
    let spells = laws.spells x l i v p in
    let visible = laws.visible x l i v p in
    record { spells = spells; visible = visible; stays = laws.stays x l i p; same = laws.same x l i p; again = again G laws (printed G x) (G.normal x) visible spells }

-- ---- of a value

module _ {X : Type 0} (sub : Subtree X)
    (complete : (p : Place) (s : Stream) (x : X) → sub.spells p x s.rest → (t : Stream) × (sub.reads p s ≡ Ok (x, t)) × UsesUp s t)
    (reprint : (p : Place) (x : X) (l : Toks) → sub.spells p x l → Reprints (sub.spells p) (sub.normal p) (sub.prints p) x l) where
  pub value_admitted : (x : Expr X) (l : Toks) → IsValue sub.spells false x l → (normal.value sub.normal (normal.value sub.normal x) ≡ normal.value sub.normal x) × (printing.value sub.prints (normal.value sub.normal x) ≡ printing.value sub.prints x)
  value_admitted x l (a_literal {x = y} i) = let n = normal_literal sub.normal y in (ap (normal.value sub.normal) n, ap (printing.value sub.prints) n)
  value_admitted x l (supplied {x = y} i) =
      let n = normal_other sub.normal y in (
        ap (normal.value sub.normal) n ∙ normal_other sub.normal (sub.normal Value y) ∙ ap (λ (z : X). e.Other z) (supplied_stays sub.reads sub.spells sub.normal sub.prints complete reprint Value y l i) ∙ sym n,
        ap (printing.value sub.prints) n ∙ prints_other sub.prints (sub.normal Value y) ∙ (reprint Value y l i).same ∙ sym (prints_other sub.prints y),
      )

-- ---- for each tree, over the laws of what is supplied

module _ {X : Type 0} (sub : Subtree X)
    (steady : (p : Place) (s t : Stream) → s.rest ≡ t.rest → SameOutcome (sub.reads p s) (sub.reads p t))
    (sound : (p : Place) (s t : Stream) (x : X) → sub.reads p s ≡ Ok (x, t) → leaves t ≡ None → sub.spells p x s.rest)
    (complete : (p : Place) (s : Stream) (x : X) → sub.spells p x s.rest → (t : Stream) × (sub.reads p s ≡ Ok (x, t)) × UsesUp s t)
    (reprint : (p : Place) (x : X) (l : Toks) → sub.spells p x l → Reprints (sub.spells p) (sub.normal p) (sub.prints p) x l)
    (apart : (x : X) (l : Toks) → sub.spells Value x l → IsApart l) where
  pub meta_admitted : (x : Meta X) → Admitted (grammars.meta sub) x
  meta_admitted = admitted (grammars.meta sub) (meta_lawful sub sound complete reprint apart)

  pub outer_admitted : (x : List (Attribute X)) → Admitted (grammars.outer sub) x
  outer_admitted = admitted (grammars.outer sub) (outer_lawful sub sound complete reprint apart)

  pub inner_admitted : (x : List (Attribute X)) → Admitted (grammars.inner sub) x
  inner_admitted = admitted (grammars.inner sub) (inner_lawful sub sound complete reprint apart)

  pub pat_admitted : (x : Pat X) (place : PatPlace) → Admitted (patterns.pat sub place) x
  pat_admitted x place = admitted (patterns.pat sub place) (pat_lawful sub steady sound complete reprint apart place) x

module _ {A E : Type 0} (attrs : Attributes A) (exprs : Expressions E) (g : Given attrs.reads exprs.reads attrs.spells exprs.spells) (m : GivenMeets attrs.reads exprs.reads attrs.spells exprs.spells)
    (a : GivenAgain attrs.normal exprs.normal attrs.shown exprs.values attrs.spells exprs.spells) where
  pub ty_admitted : (x : TypeTree A E) (place : TypePlace) → Admitted (types.ty attrs exprs place) x
  ty_admitted x place = admitted (types.ty attrs exprs place) (ty_lawful attrs exprs g m a place) x

  pub generics_admitted : (x : GenericsOf A E) → Admitted (generics.generics attrs exprs) x
  generics_admitted = admitted (generics.generics attrs exprs) (generics_lawful attrs exprs g m a)
