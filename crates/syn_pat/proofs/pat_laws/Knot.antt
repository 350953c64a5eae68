-- The read of patterns meets its equation: one turn, over the reads of streams of which less is left.
use Rattle.std.proofs.Common.{◌≡◌, ℕ, zero, suc, ◌<◌, refl, ◌∙◌, ap, arith}
use Rattle.std.proofs.Math.Path.{fun_ext}
use Rattle.syn_pat.proofs.pat_laws.words.Tokens.{Reader, Stream}
use Rattle.syn_pat.proofs.pat_laws.words.Paths.{Place}
use Rattle.syn_pat.proofs.pat_laws.words.Forms.{ahead}
use Rattle.syn_pat.proofs.pat_laws.words.Patterns.{PatPlace, pat, ReadersOver, pat_step}
use Rattle.syn_forms.specs.nested.Below.{below, held}
use Rattle.syn_forms.proofs.nested_laws.Below.{below_same}
use Rattle.syn_pat.specs.pat.Knot.{read_at, pats_below}
use Rattle.syn_pat.specs.pat.Reading.{Named}

module _ {X G Q T : Type 0} (supplied : Place → Reader X) (names : Named G Q) where
  -- readers that are asked below a limit
  abbrev limited : ℕ → ReadersOver X G Q T → ReadersOver X G Q T
  limited limit r place = below limit (r place)

  -- more turns than there is left change nothing
  enough : (k : ℕ) (s : Stream) (m n : ℕ) (place : PatPlace) → ahead s < k → ahead s < m → ahead s < n → read_at {T = T} supplied names m place s ≡ read_at supplied names n place s
  enough zero s m n place h hm hn = absurd (omega (arith, h))
  enough (suc k) s zero n place h hm hn = absurd (omega (arith, hm))
  enough (suc k) s (suc m) zero place h hm hn = absurd (omega (arith, hn))
  enough (suc k) s (suc m) (suc n) place h hm hn =
      let same : limited (ahead s) (read_at {T = T} supplied names m) ≡ limited (ahead s) (read_at supplied names n) =
      fun_ext (λ p. below_same (ahead s) (read_at supplied names m p) (read_at supplied names n p) (λ t e. enough k t m n p (omega (arith, e, h)) (omega (arith, e, hm)) (omega (arith, e, hn)))) in
      ap (λ r. pat_step supplied names r place s) same

  as_held : (n : ℕ) (p : PatPlace) → below n (pat {T = T} supplied names p) ≡ pats_below supplied names n p
  unfolding held
  as_held n p = refl

  here : (n : ℕ) → limited n (read_at supplied names n) ≡ pats_below supplied names n
  unfolding pat
  here n = fun_ext (λ p. below_same n (read_at supplied names n p) (pat supplied names p) (λ s e. enough n s n (suc (ahead s)) p e e (omega arith)) ∙ as_held n p)

  pub turn : (place : PatPlace) (s : Stream) → pat {T = T} supplied names place s ≡ pat_step supplied names (pats_below supplied names (ahead s)) place s
  unfolding pat
  turn place s = ap (λ r. pat_step supplied names r place s) (here (ahead s))

pub ruleset turns = (turn)
