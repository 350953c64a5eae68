-- The grammar tied: at every height, what is spelt clearly is so before other tokens too, and ends in no mark that is glued to what follows but perhaps in a `!`, where so it is of attributes, and of expressions in their places.
use Rattle.std.proofs.Common.{ℕ, zero, suc, Bool, true, List}
use Rattle.syn_ty.proofs.ty_laws.words.Tokens.{Toks}
use Rattle.syn_ty.proofs.ty_laws.words.Paths.{Calm, Ended, Moved, SpelledValues}
use Rattle.syn_ty.proofs.ty_laws.words.Forms.{Plus}
use Rattle.syn_ty.proofs.ty_laws.words.Types.{IsType, Manner, clearly, Parts, spelt_to, turn}
use Rattle.syn_ty.proofs.ty_laws.reprint.EndsBounds.{argument_on, bound_over, param_on}
use Rattle.syn_ty.proofs.ty_laws.reprint.EndsParts.{Ending}
use Rattle.syn_ty.proofs.ty_laws.reprint.EndsPaths.{arguments_over}
use Rattle.syn_ty.proofs.ty_laws.reprint.EndsTypes.{type_over}
use Rattle.syn_ty.proofs.ty_laws.reprint.MovesBounds.{argument_moves, bound_moves, param_moves}
use Rattle.syn_ty.proofs.ty_laws.reprint.MovesParts.{Moving}
use Rattle.syn_ty.proofs.ty_laws.reprint.MovesPaths.{arguments_move}
use Rattle.syn_ty.proofs.ty_laws.reprint.MovesTypes.{type_moves}

module _ {A E : Type 0} (attrs : Bool → List A → Toks → Toks → Type 0) (values : SpelledValues E) where
  -- of attributes, and of expressions in their places
  pub record GivenMoves : Type 0 where
    pub attrs_move : (k : Toks) (x : List A) (l r : Toks) → attrs true x l r → Calm l → Moved (attrs true x) k l r
    pub argument_moves : (k : Toks) (x : E) (l r : Toks) → values.const_argument true x l r → Calm l → Moved (values.const_argument true x) k l r
    pub default_moves : (k : Toks) (x : E) (l r : Toks) → values.const_default true x l r → Calm l → Moved (values.const_default true x) k l r
    pub attrs_end : (x : List A) (l r : Toks) → attrs true x l r → Ended r → Ended l
    pub argument_ends : (x : E) (l r : Toks) → values.const_argument true x l r → Ended r → Ended l
    pub default_ends : (x : E) (l r : Toks) → values.const_default true x l r → Ended r → Ended l

  -- what ends in no mark that is glued to what follows, but perhaps in a `!`: one turn
  ending_turn : GivenMoves → (part : Manner → Parts A E) → Ending (part clearly) → Ending (turn attrs values part clearly)
  ending_turn g part up = record {
    ty = λ p e x l r i h. type_over part up i h;
    bound = λ p e x l r i h. bound_over part up i h;
    param = λ p x l r i h. param_on part up i h;
    argument = λ x l r i h. argument_on part up (IsType part clearly Plus) (λ e x l r i h. type_over part up i h) i h;
    arguments = λ x l r i h. arguments_over part up i h;
    attrs = g.attrs_end;
    const_argument = g.argument_ends;
    const_default = g.default_ends;
  }

  module _ (g : GivenMoves) (k : Toks) where
    -- one turn
    pub moving_turn : (part : Manner → Parts A E) → Moving k (part clearly) → Moving k (turn attrs values part clearly)
    moving_turn part up = record {
      ty = λ p e x l r i q. type_moves part k up i q;
      bound = λ p e x l r i q. bound_moves part k up i q;
      param = λ p x l r i q. param_moves part k up i q;
      argument = λ x l r i q. argument_moves part k up (IsType part clearly Plus) (λ e x l r i q. type_moves part k up i q) i q;
      arguments = λ x l r i q. arguments_move part k up i q;
      attrs = g.attrs_move k;
      const_argument = g.argument_moves k;
      const_default = g.default_moves k;
      ends = ending_turn g part up.ends;
    }

    -- at every height
    pub moving_to : (n : ℕ) → Moving k (spelt_to attrs values n clearly)
    moving_to zero = record {
      ty = λ p e x l r i. absurd i;
      bound = λ p e x l r i. absurd i;
      param = λ p x l r i. absurd i;
      argument = λ x l r i. absurd i;
      arguments = λ x l r i. absurd i;
      attrs = λ x l r i. absurd i;
      const_argument = λ x l r i. absurd i;
      const_default = λ x l r i. absurd i;
      ends = record {
        ty = λ p e x l r i. absurd i;
        bound = λ p e x l r i. absurd i;
        param = λ p x l r i. absurd i;
        argument = λ x l r i. absurd i;
        arguments = λ x l r i. absurd i;
        attrs = λ x l r i. absurd i;
        const_argument = λ x l r i. absurd i;
        const_default = λ x l r i. absurd i;
      };
    }
    moving_to (suc n) = moving_turn (spelt_to attrs values n) (moving_to n)
