-- At every height, the print of a type begins with `for` only where the type does, and as generics only where it does.
use Rattle.std.proofs.Common.{◌≡◌, ℕ, zero, suc, Bool, true, false, List, ◌++◌, refl, ap, ◌∙◌, ◌⊎◌}
use Rattle.syn_ty.proofs.ty_laws.words.Tokens.{Print, sees_mark, IsMark, is_mark, last_char, Toks, row}
use Rattle.syn_ty.proofs.ty_laws.words.Paths.{SpelledValues, Values, AsWritten}
use Rattle.syn_ty.proofs.ty_laws.words.Forms.{Object, Plus, TypePlace}
use Rattle.syn_ty.proofs.ty_laws.words.Types.{sorted, is_lifetime, IsAngle, an_angle, IsType, Manner, plainly, clearly, End, Parts, absent, present, spelt_to, turn, AngleBracketed, TypeTree}
use Rattle.token_core.specs.Prints as p
use Rattle.token_core.specs.Tokens as token
use Rattle.token_core.proofs.MarkSpells.{mark_again}
use Rattle.token_core.proofs.Rows.{row-append}
use Rattle.syn_ty.specs.path.Spelling.{some_arguments}
use Rattle.syn_ty.specs.ty.Printing as printing
use Rattle.syn_ty.proofs.ty_laws.reprint.Begins.{Kept, ArgumentsBegin, sep_no_gt}
use Rattle.syn_ty.proofs.ty_laws.reprint.FirstBounds.{bound_lives}
use Rattle.syn_ty.proofs.ty_laws.reprint.MovesKnot.{GivenMoves, moving_to}
use Rattle.syn_ty.proofs.ty_laws.reprint.MovesParts.{Moving}
use Rattle.syn_ty.proofs.ty_laws.Prints.{arguments-AngleBracketed}
use Rattle.syn_ty.proofs.ty_laws.reprint.TypesBegin.{LivesKept, type_kept}

lt_no_gt : (o : token.Lt) (l r : Toks) → IsMark true o l r → token.sees_gt l ≡ false
unfolding sees_mark
lt_no_gt o l r (is_mark (last_char y)) = refl

module _ {A E : Type 0} (pa : List A → Print) (pe : Values E) where
  -- what is known by the height of a tree
  pub record KeptParts (part : Manner → Parts A E) : Type 0 where
    pub ty : (place : TypePlace) (e : End) (x : TypeTree A E) (l r : Toks) → (part plainly).ty place e x l r → Kept l r (printing.ty pa pe x)
    pub arguments : ArgumentsBegin pa pe part
    pub lives : LivesKept pa pe part

  module _ (part : Manner → Parts A E) where
    angle_begins : (x : AngleBracketed A E) (l r : Toks) → IsAngle part plainly x l r → (k : Toks) → token.sees_gt (row (printing.angle pa pe AsWritten x) k) ≡ false
    angle_begins x l r (an_angle {o = o} {xs = xs} {cs = cs} {g = g} {m = m} {n = n} absent i t j) k =
        let rest = sorted is_lifetime (printing.argument pa pe) (xs, cs) ++ p.mark g in
        ap token.sees_gt (row-append (p.mark o) rest k) ∙ lt_no_gt o (row (p.mark o) (row rest k)) (row rest k) (mark_again false o m n (row rest k) i)
    angle_begins x l r (an_angle {o = o} {xs = xs} {cs = cs} {g = g} {m = m} (present {a = c} h) i t j) k =
        let rest = sorted is_lifetime (printing.argument pa pe) (xs, cs) ++ p.mark g in
        let next = row (p.mark o) (row rest k) in
        ap token.sees_gt (row-append (p.mark c ++ p.mark o) rest k ∙ row-append (p.mark c) (p.mark o) (row rest k)) ∙ sep_no_gt c (row (p.mark c) next) next (mark_again false c l m next h)

    -- one turn
    module _ (moving : (k : Toks) → Moving k (part clearly)) (kept : KeptParts part) where
      pub types_kept : (place : TypePlace) (e : End) (x : TypeTree A E) (l r : Toks) → IsType part plainly place e x l r → Kept l r (printing.ty pa pe x)
      types_kept place e x l r i = type_kept pa pe part kept.arguments (λ f y m n j. (kept.ty Plus f y m n j).alone) kept.lives moving place e x l r i

  module _ (attrs : Bool → List A → Toks → Toks → Type 0) (values : SpelledValues E) where
    pub turn_kept : (part : Manner → Parts A E) → ((k : Toks) → Moving k (part clearly)) → KeptParts part → KeptParts (turn attrs values part)
    turn_kept part moving kept = record {
      ty = λ place e x l r i. types_kept part moving kept place e x l r i;
      arguments = λ x l r i k. by_arguments x l r i k;
      lives = λ e x l r i h k. bound_lives pa pe part plainly Object e x l r i h k;
    }
      where
        by_arguments : ArgumentsBegin pa pe (turn attrs values part)
        by_arguments x l r (some_arguments {x = y} i) k = ap (λ z. token.sees_gt (row z k)) (arguments-AngleBracketed pa pe AsWritten y) ∙ angle_begins part y l r i k

    -- at every height
    pub kept_to : GivenMoves attrs values → (n : ℕ) → KeptParts (spelt_to attrs values n)
    kept_to g zero = record { ty = λ place e x l r i. absurd i; arguments = λ x l r i k. absurd i; lives = λ e x l r i h k. absurd i }
    kept_to g (suc n) = turn_kept (spelt_to attrs values n) (λ k. moving_to attrs values g k n) (kept_to g n)

-- ---- what where clauses ask of attributes

module _ {A E : Type 0} (pa : List A → Print) (pe : Values E) (part : Manner → Parts A E) where
  -- attributes print nothing only where nothing is spelt for them, and what they print does not begin with `<`
  abbrev pub AttrsBegin : Type 0
  AttrsBegin = (a : List A) (l r : Toks) → (part plainly).attrs a l r → (k : Toks) → ((l ≡ r) × (row (pa a) k ≡ k)) ⊎ (token.sees_lt (row (pa a) k) ≡ false)
