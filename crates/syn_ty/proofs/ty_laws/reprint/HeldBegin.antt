-- What is held verbatim as a type begins as it did, whatever follows it.
use Rattle.std.proofs.Common.{◌≡◌, true, false, List, [], ◌∷◌, Some, refl, sym, ◌∙◌, ap, subst}
use Rattle.std.proofs.lemmas.Slice.Eq.{bytes_eq-Decides}
use Rattle.syn_ty.proofs.ty_laws.words.Tokens.{DelimSpan, Delimiter, Ident, TokenTree, is_keyword, text_of, builtin_text, is_text, sees_mark, sees_word, is_mark, last_char, is_word, Bytes, Toks, done, word, TokenStream, row, trees}
use Rattle.syn_ty.proofs.ty_laws.words.Forms.{TypePlace}
use Rattle.syn_ty.proofs.ty_laws.words.Types.{IsFor, a_binder, IsVerbatimType, an_unsafe_binder, a_dyn_star, a_builtin, Manner, clearly, End, Parts, Holds, absent, present}
use Rattle.token_core.specs.declared.tree.Delimiter.TheVariants as d
use Rattle.token_core.specs.declared.tree.Group.{Group, roll-out-Group}
use Rattle.token_core.specs.declared.tree.TokenTree.TheOpen as o
use Rattle.token_core.specs.declared.tree.TokenTree.TheVariants as t
use Rattle.token_core.specs.declared.tree.TokenTree.{roll-TokenTree, out-TokenTree, roll-out-TokenTree}
use Rattle.token_core.specs.Tokens as token
use Rattle.token_core.specs.Trees.{content_of, delimiter_of, group_of, span_of}
use Rattle.token_core.specs.Trees as s
use Rattle.token_core.proofs.Rebuilds.{tree-group, tree-ident, tree-literal, tree-punct}
use Rattle.syn_ty.proofs.ty_laws.reprint.Begins.{Quiet, quiet_before, quiet_word, Kept, named, no_generics}

-- ---- a tree that is an identifier before some tokens is it before others

module _ (i : Ident) where
  abbrev One : TokenTree → Type 0
  One x = (q m k : Toks) → s.tree x q ≡ word i m → s.tree x k ≡ word i k

  no_group : (b : Delimiter) (c : TokenStream) (e : DelimSpan) → One (t.Group (group_of b c e))
  no_group d.Parenthesis c e q m k h = let g = sym (tree-group d.Parenthesis c e q) ∙ h in cc
  no_group d.Brace c e q m k h = let g = sym (tree-group d.Brace c e q) ∙ h in cc
  no_group d.Bracket c e q m k h = let g = sym (tree-group d.Bracket c e q) ∙ h in cc
  no_group d.None c e q m k h = let g = sym (tree-group d.None c e q) ∙ h in cc

  same_word_is : (x : Ident) (q m k : Toks) → word x q ≡ word i m → word x k ≡ word i k
  same_word_is x q m k h = let e : x ≡ i = cc in ap (λ z. word z k) e

  one : (x : TokenTree) → One x
  one x = subst One (roll-out-TokenTree x) (layer (out-TokenTree x))
    where
      layer : (y : o.TokenTree-F TokenTree Group) → One (roll-TokenTree y)
      layer (o.Ident x) = subst One (sym (t.rolls-Ident x)) (λ q m k h. tree-ident x k ∙ same_word_is x q m k (sym (tree-ident x q) ∙ h))
      layer (o.Punct x) = subst One (sym (t.rolls-Punct x)) (λ q m k h. let g = sym (tree-punct x q) ∙ h in cc)
      layer (o.Literal x) = subst One (sym (t.rolls-Literal x)) (λ q m k h. let g = sym (tree-literal x q) ∙ h in cc)
      layer (o.Group g) = subst One (sym (t.rolls-Group g)) (subst (λ z. One (t.Group z)) (roll-out-Group g) (no_group (delimiter_of g) (content_of g) (span_of g)))

-- ---- what a form that is held begins with

for_begins : (i : Ident) (k : Toks) → is_text (text_of 10) i.text ≡ true → token.sees_for (word i k) ≡ true
unfolding sees_word
for_begins i k h = h

-- the first word: `for`, or another
data First (l : Toks) : Type 0 where
  first_for : {i : Ident} {m : Toks} → l ≡ word i m → is_text (text_of 10) i.text ≡ true → token.sees_lt l ≡ false → named l ≡ false → First l
  first_quiet : {i : Ident} {m : Toks} → l ≡ word i m → Quiet l → First l

no_for_builtin : (x : Bytes) → is_text builtin_text x ≡ true → is_text (text_of 10) x ≡ false
no_for_builtin x h = ap (is_text (text_of 10)) ((bytes_eq-Decides x builtin_text).0 h)

module _ {A E : Type 0} (part : Manner → Parts A E) where
  binder_first : (x : _) (l r : Toks) → IsFor part clearly x l r → First l
  unfolding sees_word sees_mark is_keyword
  binder_first x l r (a_binder is_word j t q) = first_for refl refl refl refl

  verbatim_first : (place : TypePlace) (e : End) (l r : Toks) → IsVerbatimType part clearly place e l r → First l
  unfolding is_keyword sees_mark
  verbatim_first place e l r (an_unsafe_binder {b = Some x} {m = m} (present f) w o xs g y) = binder_first x l m f
  verbatim_first place e l r (an_unsafe_binder absent is_word o xs g y) = first_quiet refl (quiet_word _ _ refl refl)
  verbatim_first place e l r (a_dyn_star is_word j y) = first_quiet refl (quiet_word _ _ refl refl)
  verbatim_first place e l r (a_builtin {b = Some x} {w = w} {m = m} (present f) h j g) = binder_first x l (word w m) f
  verbatim_first place e l r (a_builtin {w = w} absent h (is_mark (last_char y)) g) = first_quiet refl (quiet_before w _ (no_for_builtin w.text h) refl)

  no_done : First done → ⊥
  no_done (first_for e h g n) = absurd (cc)
  no_done (first_quiet e q) = absurd (cc)

  -- where the trees are seen to begin with `for`, they do before anything
  for_again : (ts : List TokenTree) (i : Ident) (m r k : Toks) → First (row ts done) → row ts k ≡ word i m → is_text (text_of 10) i.text ≡ true → token.sees_for (row ts r) ≡ true
  for_again [] i m r k f e h = absurd (no_done f)
  for_again (x ∷ ts) i m r k f e h = ap token.sees_for (one i x (row ts k) m (row ts r) e) ∙ for_begins i (row ts r) h

  pub held_kept : (place : TypePlace) (e : End) (x : TokenStream) (l r : Toks) → ((k : Toks) → IsVerbatimType part clearly place e (row (trees x) k) k) → Holds x l r → Kept l r (trees x)
  held_kept place e x l r i h =
      let ts = trees x in
      let at = λ (k : Toks). verbatim_first place e (row ts k) k (i k) in
      record {
        for_kept = λ n k. no_for k (at k) n;
        lt_kept = λ n k. no_generics (row ts k) (no_lt k (at k));
        alone = λ k n. let g = no_named k (at k) in absurd (cc);
      }
    where
      no_for : (k : Toks) → First (row (trees x) k) → token.sees_for l ≡ false → token.sees_for (row (trees x) k) ≡ false
      no_for k (first_for {i = y} {m = m} e t g n) u =
          let f : token.sees_for l ≡ true = ap token.sees_for h ∙ for_again (trees x) y m r k (verbatim_first place _ (row (trees x) done) done (i done)) e t in
          absurd (cc)
      no_for k (first_quiet e q) u = q.no_for

      no_lt : (k : Toks) → First (row (trees x) k) → token.sees_lt (row (trees x) k) ≡ false
      no_lt k (first_for e t g n) = g
      no_lt k (first_quiet e q) = q.no_lt

      no_named : (k : Toks) → First (row (trees x) k) → named (row (trees x) k) ≡ false
      no_named k (first_for e t g n) = n
      no_named k (first_quiet e q) = q.no_named
