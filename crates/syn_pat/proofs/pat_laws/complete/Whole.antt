-- Over what types ask of attributes and expressions, and over the law of a supplied subtree, each whole read of a pattern, of a pattern with a guard and of one with a type is complete.
use Rattle.std.proofs.Common.{◌≡◌, ℕ, zero, suc, false, Option, Ok, refl}
use Rattle.std.proofs.lemmas.Bool.{and_left}
use Rattle.syn_pat.proofs.pat_laws.words.Tokens.{Span, Reader, Scope, Stream, Toks}
use Rattle.syn_pat.proofs.pat_laws.words.Paths.{Place, Block, Guard, UsesUp}
use Rattle.syn_pat.proofs.pat_laws.words.Forms.{Plus, goes_on}
use Rattle.syn_pat.proofs.pat_laws.words.Attributes.{outer, Expr}
use Rattle.syn_pat.proofs.pat_laws.words.Types.{clearly, End, Path, QSelf, TypeTree}
use Rattle.syn_pat.proofs.pat_laws.words.Patterns.{PatPlace, qpath, values, type_names, IsPatPath, a_pat_path, outer_spelt, types_to, values_spelt, SpellsGuarded, SpellsPat, SpellsPatType}
use Rattle.token_core.specs.Tokens as token
use Rattle.token_core.proofs.Steps.{Reads_to}
use Rattle.syn_path.specs.declared.path.PathStyle.TheVariants.{Expr as expressions}
use Rattle.syn_attr.specs.attr.Attrs.{Attribute as Attr}
use Rattle.syn_forms.specs.paths.Reading.{sees_turbofish}
use Rattle.syn_ty.proofs.ty_laws.complete.Alone.{maybe_qualified_met, ty_met}
use Rattle.syn_ty.proofs.ty_laws.complete.FirstPaths.{any_path_starts}
use Rattle.syn_ty.proofs.ty_laws.complete.Firsts.{starts_to}
use Rattle.syn_ty.proofs.ty_laws.complete.Knot.{GivenMeets, given_begins}
use Rattle.syn_ty.proofs.ty_laws.complete.Within.{Fits, Less, PathStops}
use Rattle.syn_ty.proofs.ty_laws.complete.Whole.{Whole}
use Rattle.syn_pat.specs.pat.Knot as knot
use Rattle.syn_pat.proofs.pat_laws.complete.Knot as met
use Rattle.syn_pat.proofs.pat_laws.complete.Within.{SuppliedMeets}

-- where no `::` follows, a path in the style of expressions is over
path_over : (k : Toks) → token.sees_path_sep k ≡ false → PathStops expressions k
unfolding goes_on sees_turbofish
path_over k h = record { no_more = and_left (token.sees_path_sep k) _ h; no_arguments = and_left (token.sees_path_sep k) _ h }

module _ {X : Type 0} (reads : Place → Reader X) (spells : Place → X → Toks → Type 0) (given : GivenMeets (outer reads) (values reads) (outer_spelt spells) (values_spelt spells))
    (complete : (p : Place) (s : Stream) (x : X) → spells p x s.rest → (t : Stream) × (reads p s ≡ Ok (x, t)) × UsesUp s t) where
  path_met : (q : Option (QSelf (Attr X) (Expr X))) (p : Path (Attr X) (Expr X)) (l k : Toks) (f : Option Span) (e : Span) (sc : Scope) → IsPatPath spells clearly q p l k → token.sees_path_sep k ≡ false → Reads_to (qpath reads) (q, p) l k f e sc
  path_met q p l k f e sc (a_pat_path n i) h = maybe_qualified_met given n expressions q p l k f e sc i.0 (path_over k h) (λ z. h)

  path_less : (q : Option (QSelf (Attr X) (Expr X))) (p : Path (Attr X) (Expr X)) (l k : Toks) → IsPatPath spells clearly q p l k → Less l k
  path_less q p l k (a_pat_path n i) =
      let begins = given_begins (outer reads) (values reads) (outer_spelt spells) (values_spelt spells) given in
      (any_path_starts (starts_to (outer_spelt spells) (values_spelt spells) begins n) expressions q p l k i.0).1

  type_met : (n : ℕ) (d : End) (x : TypeTree (Attr X) (Expr X)) (l k : Toks) (f : Option Span) (e : Span) (sc : Scope) → (types_to spells n clearly).ty Plus d x l k → Fits d k → token.sees_plus k ≡ false → Reads_to (knot.ty reads) x l k f e sc
  type_met zero d x l k f e sc i o u = absurd i
  type_met (suc n) d x l k f e sc i o u = ty_met given n Plus d x l k f e sc i o (λ z. u)

  pub supplied : SuppliedMeets reads spells
  supplied = record {
    path = path_met;
    path_less = path_less;
    ty = type_met;
    attrs = given.attrs_met;
    attrs_begin = given.attrs_begin;
    attrs_light = given.attrs_light;
    body = λ s x i. complete Block s x i;
    guard = λ s x i. complete Guard s x i;
  }

  pub pat_complete : (place : PatPlace) → Whole (knot.pat reads (type_names reads) place) (SpellsPat spells place clearly)
  pat_complete place s x n v i = met.pat_complete reads spells supplied place s x n i

  pub guarded_complete : Whole (knot.guarded reads (type_names reads)) (SpellsGuarded spells clearly)
  guarded_complete s x n v i = met.guarded_complete reads spells supplied s x n i

  pub typed_complete : Whole (knot.typed reads) (SpellsPatType spells clearly)
  typed_complete s x n v i = met.typed_complete reads spells supplied s x n i
