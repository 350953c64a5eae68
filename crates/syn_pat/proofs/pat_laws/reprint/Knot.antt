-- The grammar of patterns tied: at every height, what spells a list plainly prints its normal form clearly, where what is supplied does.
use Rattle.std.proofs.Common.{◌≡◌, ℕ, zero, suc}
use Rattle.syn_pat.proofs.pat_laws.words.Tokens.{Print, Toks}
use Rattle.syn_pat.proofs.pat_laws.words.Paths.{Place}
use Rattle.syn_pat.proofs.pat_laws.words.Types.{Manner, Relation}
use Rattle.syn_pat.proofs.pat_laws.words.Patterns.{PatPlace, Single, IsPat, a_single, some_cases, one_after_vert, some_after_vert, Pat, pats_to}
use Rattle.token_core.specs.Tokens as token
use Rattle.syn_pat.proofs.pat_laws.reprint.Begins.{mut_first, single_mut}
use Rattle.syn_pat.proofs.pat_laws.reprint.Cases.{pat_again}
use Rattle.syn_pat.proofs.pat_laws.reprint.Fields.{PatsAgain}
use Rattle.syn_pat.proofs.pat_laws.reprint.Parts.{SuppliedAgain}
use Rattle.syn_pat.proofs.pat_laws.reprint.PatsMove.{pat_ends, pat_moves}

module _ {X : Type 0} (spells : Place → X → Toks → Type 0) (nx : Place → X → X) (px : Place → X → Print) where
  -- a single pattern has no cases
  begins_turn : (part : Manner → PatPlace → Relation (Pat X)) (how : Manner) (x : Pat X) (l r : Toks) → IsPat spells part how Single x l r → token.sees_mut l ≡ mut_first x
  begins_turn part how x l r (a_single i h) = single_mut part spells how x l r i
  begins_turn part how x l r (some_cases h i) = cc h
  begins_turn part how x l r (one_after_vert h i j) = cc h
  begins_turn part how x l r (some_after_vert h i j) = cc h

  module _ (g : SuppliedAgain spells nx px) where
    pub pats_again : (n : ℕ) → PatsAgain spells nx px (pats_to spells n)
    pats_again zero = record { pat = λ p x l r i. absurd i; moves = record { single = λ k e x l r i. absurd i; ends = λ x l r i. absurd i }; begins = λ how x l r i. absurd i }
    pats_again (suc n) =
        let k = pats_again n in
        record {
          pat = λ p. pat_again spells nx px g (pats_to spells n) k p;
          moves = record { single = pat_moves spells g.types.moves (pats_to spells n) k.moves; ends = pat_ends spells g.types.moves (pats_to spells n) k.moves };
          begins = begins_turn (pats_to spells n);
        }
