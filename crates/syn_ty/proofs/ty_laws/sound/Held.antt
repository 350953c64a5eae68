-- What is held verbatim is what was read: its tokens, and then those that are left.
use Rattle.std.proofs.Common.{◌≡◌, ◌++◌, Ok, refl, sym, ◌∙◌, ap, append_assoc}
use Rattle.syn_ty.proofs.ty_laws.words.Tokens.{Follows, Visible, Scope, Stream, Toks, done, word, mark, lit, group, enter, leave, TokenStream, row, trees}
use Rattle.syn_ty.proofs.ty_laws.words.Forms.{outside, position, since}
use Rattle.syn_ty.proofs.ty_laws.words.Types.{Holds}
use Rattle.token_core.specs.Cut.{between, trees_between}
use Rattle.token_core.specs.Front.{past_ends}
use Rattle.token_core.specs.Positions.{items, row_items}
use Rattle.token_core.proofs.Cuts.{between_trees, leads}
use Rattle.token_core.proofs.Turns.{same_pair}

-- no end of an invisible group stands at the front
no_ends : (l : Toks) → Visible l → past_ends l ≡ l
no_ends done v = refl
no_ends (word i k) v = refl
no_ends (mark p k) v = refl
no_ends (lit x k) v = refl
no_ends (group d s c k) v = refl
no_ends (enter s k) v = refl
no_ends (leave k) v = absurd v

-- what was read between two states of a stream is what is held from the first one on
pub holds_since : (s t u : Stream) (x : TokenStream) → Visible s.rest → Visible t.rest → Follows s t → since (position s) t ≡ Ok (x, u) → (t ≡ u) × Holds x s.rest t.rest
unfolding since
holds_since s t u x v w f e =
    let k = same_pair (between (position s) (outside t)) x t u e in
    let h = leads s.rest t.rest f.suffix v in
    let after : s.scope.after ≡ t.scope.after = ap (λ (z : Scope). z.after) (sym f.scope) in
    let left : items t.rest ++ s.scope.after ≡ outside t = ap (λ z. items t.rest ++ z) after ∙ ap (λ z. items z ++ t.scope.after) (sym (no_ends t.rest w)) in
    let whole : position s ≡ row_items h.trees ++ outside t = ap (λ z. z ++ s.scope.after) h.whole ∙ append_assoc (row_items h.trees) (items t.rest) s.scope.after ∙ ap (λ z. row_items h.trees ++ z) left in
    let cut : trees_between (position s) (outside t) ≡ h.trees = between_trees h.trees (position s) (outside t) whole in
    let is : trees x ≡ h.trees = sym k.0 ∙ cut in
    (k.1, sym h.tokens ∙ ap (λ z. row z t.rest) (sym is))
