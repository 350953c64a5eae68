-- Patterns joined by `|`, and a pattern in its place, print their normal form clearly, where the patterns that they hold do.
use Rattle.std.proofs.Common.{Bool, true, false, List, [], ◌∷◌, ◌++◌, Some, None, refl, ◌∙◌, ap, append-nil}
use Rattle.syn_pat.proofs.pat_laws.words.Tokens.{AreListed, Nowhere, Many, Print, IsMark, Toks}
use Rattle.syn_pat.proofs.pat_laws.words.Paths.{Place}
use Rattle.syn_pat.proofs.pat_laws.words.Types.{many, Manner, plainly, clearly, Relation}
use Rattle.syn_pat.proofs.pat_laws.words.Patterns.{types_shown, PatPlace, Single, Multi, LeadingVert, Element, AreCases, cases, IsPat, a_single, some_cases, one_after_vert, some_after_vert, IsSingle, Pat, or_of}
use Rattle.token_core.specs.Prints as p
use Rattle.token_core.specs.Tokens as token
use Rattle.syn_path.proofs.Words.{AgainFront}
use Rattle.syn_ty.proofs.ty_laws.reprint.Angles.{Then, then_front, made_front}
use Rattle.syn_ty.proofs.ty_laws.reprint.Leaves.{listed_front, mark_front}
use Rattle.syn_pat.specs.declared.pat.PatOf.TheVariants as v
use Rattle.syn_pat.specs.pat.Admitted.{Fits}
use Rattle.syn_pat.specs.pat.Printing as printing
use Rattle.syn_pat.proofs.pat_laws.reprint.Begins.{open_kept}
use Rattle.syn_pat.proofs.pat_laws.reprint.Fields.{PatsAgain, np, pp}
use Rattle.syn_pat.proofs.pat_laws.reprint.Normals.{normal-Or}
use Rattle.syn_pat.proofs.pat_laws.reprint.Parts.{SuppliedAgain, Stopped, bar_stops, listed_stop}
use Rattle.syn_pat.proofs.pat_laws.Prints.{pat-Or}
use Rattle.syn_pat.proofs.pat_laws.reprint.Singles.{single_again}

module _ {X : Type 0} (spells : Place → X → Toks → Type 0) (nx : Place → X → X) (px : Place → X → Print) (g : SuppliedAgain spells nx px) (part : Manner → PatPlace → Relation (Pat X)) (again : PatsAgain spells nx px part) where
  abbrev N : Pat X → Pat X
  N = np spells nx px

  abbrev P : Pat X → Print
  P = pp spells nx px

  abbrev Cases : Type 0
  Cases = Many (Pat X) token.Bar

  abbrev Are : Cases → Toks → Toks → Type 0
  Are z = AreCases spells part clearly z.0 z.1

  abbrev More : Cases → Toks → Toks → Type 0
  More z = AreListed (λ (_ : Bool). Stopped (part clearly Single)) (IsMark true) Nowhere true z.0 z.1

  abbrev print_cases : Cases → Print
  print_cases z = printing.list px (types_shown px) z

  abbrev with_first : Pat X × (token.Bar × Cases) → Cases
  with_first z = (z.0 ∷ z.1.1.0, z.1.0 ∷ z.1.1.1)

  cases_again : (xs : List (Pat X)) (cs : List token.Bar) (l r : Toks) → AreCases spells part plainly xs cs l r → AgainFront (Stopped Are) (many N) print_cases (xs, cs) l r
  cases_again xs cs l r (cases {x = x} {c = c} {xs = ys} {cs = ds} {m = m} {n = n} i j rest) =
      made_front (Then (Stopped (IsSingle spells part clearly)) (Then (IsMark true) More)) (Stopped Are) _ (many N) _ print_cases with_first (λ z l r i e. cases (i.1 (bar_stops _ _ _ i.2.1)) i.2.1 (listed_stop bar_stops i.2.2 e)) (λ z. refl) (λ z. refl) (x, (c, (ys, ds))) l r
      (then_front (single_again spells nx px g part again x l m i) (then_front (mark_front c m n j)
      (listed_front (λ (_ : Bool). part plainly Single) (λ (_ : Bool). Stopped (part clearly Single)) (IsMark false) (IsMark true) Nowhere N P p.mark (λ _. again.pat Single) mark_front true ys ds n r rest)))

  fits : (place : PatPlace) (x : Pat X) → Fits place x → Fits place (N x)
  fits Single x h = tt
  fits Multi x h = tt
  fits LeadingVert x h = tt
  fits Element x h = open_kept nx x ∙ h

  module _ (place : PatPlace) where
    abbrev Is : Pat X → Toks → Toks → Type 0
    Is = IsPat spells part clearly place

    abbrev alone_after : token.Bar × Pat X → Pat X
    alone_after z = v.Or (or_of [] (Some z.0) (z.1 ∷ [], []))

    pub pat_again : (x : Pat X) (l r : Toks) → IsPat spells part plainly place x l r → AgainFront (Stopped Is) N P x l r
    pat_again x l r (a_single i h) =
        let k = single_again spells nx px g part again x l r i in
        record { spelt = λ o e. a_single (k.spelt o e) (fits place x h); visible = k.visible; seen = k.seen; stays = k.stays; same = k.same }
    pat_again x l r (some_cases {xs = xs} {cs = cs} h i) =
        made_front (Stopped Are) (Stopped Is) (many N) N print_cases P (λ z. v.Or (or_of [] None z)) (λ z l r i e. some_cases h (i e)) (λ z. normal-Or nx (or_of [] None z)) (λ z. pat-Or px (types_shown px) (or_of [] None z)) (xs, cs) l r (cases_again xs cs l r i)
    pat_again x l r (one_after_vert {b = b} {x = y} {m = m} h i j) =
        made_front (Then (IsMark true) (Stopped (IsSingle spells part clearly))) (Stopped Is) _ N _ P alone_after (λ z l r i e. one_after_vert h i.1 (i.2 e)) (λ z. normal-Or nx (or_of [] (Some z.0) (z.1 ∷ [], [])))
        (λ z. pat-Or px (types_shown px) (or_of [] (Some z.0) (z.1 ∷ [], [])) ∙ ap (λ k. p.mark z.0 ++ k) (append-nil (P z.1))) (b, y) l r (then_front (mark_front b l m i) (single_again spells nx px g part again y m r j))
    pat_again x l r (some_after_vert {b = b} {xs = xs} {cs = cs} {m = m} h i j) =
        made_front (Then (IsMark true) (Stopped Are)) (Stopped Is) _ N _ P (λ (z : token.Bar × Cases). v.Or (or_of [] (Some z.0) z.1)) (λ z l r i e. some_after_vert h i.1 (i.2 e)) (λ z. normal-Or nx (or_of [] (Some z.0) z.1)) (λ z. pat-Or px (types_shown px) (or_of [] (Some z.0) z.1)) (b, (xs, cs)) l r
        (then_front (mark_front b l m i) (cases_again xs cs m r j))
