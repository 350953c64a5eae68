-- An example: `box 1..`, whose dots are glued to what follows, is held plainly, as in `(box 1..,x)` and `box 1..|x`.
use Rattle.std.proofs.Common.{◌≡◌, [], ◌∷◌, codes, refl, sym, ◌∙◌, ap, subst}
use Rattle.syn_pat.proofs.pat_laws.words.Tokens.{Span, Joint, is_done, is_mark, last_char, more_chars, is_word, a_literal, Toks, done, word, mark, lit, TokenStream, punct, row, trees}
use Rattle.syn_pat.proofs.pat_laws.words.Paths.{Place}
use Rattle.syn_pat.proofs.pat_laws.words.Types.{plainly, clearly, IsVerbatim}
use Rattle.syn_pat.proofs.pat_laws.words.Patterns.{IsBoxed, a_box, a_single, a_range, a_literal_start, without_end, pats_to}
use Rattle.token_core.specs.declared.tree.LitKind.TheVariants.{Int}
use Rattle.token_core.specs.declared.tree.TokenTree.TheVariants as t
use Rattle.token_core.specs.Trees.{ident, literal}
use Rattle.token_core.proofs.Rebuilds.{tree-ident, tree-literal, tree-punct}
use Rattle.syn_path.specs.Ends.{NoBang}
use Rattle.syn_pat.proofs.pat_laws.reprint.Parts.{stops_done}

module _ {X : Type 0} (spells : Place → X → Toks → Type 0) (a b c d : Span) where
  -- `box`, `1`, and two dots, both Joint
  abbrev held : TokenStream
  held = t.Ident (ident (codes "box") a) ∷ t.Literal (literal Int (codes "1") b) ∷ t.Punct (punct 46 Joint c) ∷ t.Punct (punct 46 Joint d) ∷ []

  abbrev shown : Toks → Toks
  shown r = word (ident (codes "box") a) (lit (literal Int (codes "1") b) (mark (punct 46 Joint c) (mark (punct 46 Joint d) r)))

  is_shown : (r : Toks) → row (trees held) r ≡ shown r
  is_shown r =
      let dots = tree-punct (punct 46 Joint c) (row (t.Punct (punct 46 Joint d) ∷ []) r) ∙ ap (mark (punct 46 Joint c)) (tree-punct (punct 46 Joint d) r) in
      let one = tree-literal (literal Int (codes "1") b) (row (t.Punct (punct 46 Joint c) ∷ t.Punct (punct 46 Joint d) ∷ []) r) ∙ ap (lit (literal Int (codes "1") b)) dots in
      tree-ident (ident (codes "box") a) (row (t.Literal (literal Int (codes "1") b) ∷ t.Punct (punct 46 Joint c) ∷ t.Punct (punct 46 Joint d) ∷ []) r) ∙ ap (word (ident (codes "box") a)) one

  by_itself : IsBoxed (pats_to spells 1) clearly (shown done) done
  by_itself = a_box is_word (a_single (a_range (without_end (a_literal_start a_literal) (is_mark (more_chars (last_char (λ e f. stops_done)))))) tt)

  no_bang : NoBang (shown done)
  unfolding is_done
  no_bang = refl

  pub held_plainly : (r : Toks) → IsVerbatim (IsBoxed (pats_to spells 1)) plainly held (row (trees held) r) r
  held_plainly r = ((subst (λ z. IsBoxed (pats_to spells 1) clearly z done) (sym (is_shown done)) by_itself, subst NoBang (sym (is_shown done)) no_bang), refl)
