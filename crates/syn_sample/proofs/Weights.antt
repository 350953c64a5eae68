-- How much a print of atoms has to go through.
use Rattle.std.proofs.Common.{◌≡◌, ℕ, zero, suc, ◌+◌, ◌<◌, ◌≤◌, List, [], ◌∷◌, map, length, get_or, refl, sym, ◌∙◌, ap, arith}
use Rattle.token_core.specs.declared.token.Paren.{Paren}
use Rattle.syn_sample.specs.declared.sample.Atom.{Atom}
use Rattle.syn_sample.specs.declared.sample.Atom.TheFolds.{fold-Atom, fold-roll-Atom}
use Rattle.syn_sample.specs.declared.sample.Atom.TheOpen as o
use Rattle.syn_sample.specs.declared.sample.Atom.TheVariants as a
use Rattle.syn_sample.specs.sample.Parts.{Atoms}

abbrev total : List ℕ → ℕ
total [] = 0
total (n ∷ l) = n + total l

abbrev weight_step : o.Atom-F ℕ → ℕ
weight_step (o.Lit x) = 1
weight_step (o.Path p) = 1
weight_step (o.Group t v) = suc (total v.0)

-- how many atoms there are in it, and how many groups
unfoldable pub weight : Atom → ℕ
weight = fold-Atom ℕ weight_step

abbrev pub weights : List Atom → ℕ
weights [] = 0
weights (x ∷ l) = weight x + weights l

total-map : (l : List Atom) → total (map weight l) ≡ weights l
total-map [] = refl
total-map (x ∷ l) = ap (λ n. weight x + n) (total-map l)

pub group-weight : (t : Paren) (v : Atoms) → weight (a.Group t v) ≡ suc (weights v.0)
unfolding weight
group-weight t v = ap weight (sym (a.rolls-Group t v)) ∙ fold-roll-Atom ℕ weight_step (o.Group t v) ∙ ap suc (total-map v.0)

-- a value that is one of them
pub at_place : (l : List Atom) (i : ℕ) (x : Atom) → i < length l → x ≡ get_or l i x → weight x ≤ weights l
at_place [] i x h e = absurd (omega (arith, h))
at_place (y ∷ l) zero x h e = let k : weight x ≡ weight y = ap weight e in omega (arith, k)
at_place (y ∷ l) (suc i) x h e = let k = at_place l i x (omega (arith, h)) e in omega (arith, k)
