-- Token trees on lists that are the same aside from spans, what is held verbatim, and parts that may be missing.
use Rattle.std.proofs.Common.{◌≡◌, ◌==◌, if◌then◌else◌, List, [], ◌∷◌, None, is_some, map, refl, sym, ap, ◌∙◌, subst}
use Rattle.token_core.specs.declared.span.DelimSpan.{DelimSpan}
use Rattle.token_core.specs.declared.span.Span.{Span}
use Rattle.token_core.specs.declared.tree.Delimiter.{Delimiter}
use Rattle.token_core.specs.declared.tree.Delimiter.TheVariants.{Parenthesis, Brace, Bracket, None as invisible}
use Rattle.token_core.specs.declared.tree.Group.{Group, out-Group, roll-out-Group, out-roll-Group}
use Rattle.token_core.specs.declared.tree.Ident.{Ident}
use Rattle.token_core.specs.declared.tree.Literal.{Literal}
use Rattle.token_core.specs.declared.tree.Punct.{Punct}
use Rattle.token_core.specs.declared.tree.TokenTree.{TokenTree, out-TokenTree, roll-TokenTree, roll-out-TokenTree}
use Rattle.token_core.specs.declared.tree.TokenTree.TheOpen as o
use Rattle.token_core.specs.declared.tree.TokenTree.TheVariants as t
use Rattle.token_core.specs.Lifetimes.{sees_lifetime, with_ident, next_word}
use Rattle.token_core.specs.Rebuilt.{stream_of}
use Rattle.token_core.specs.Reads.{is_joint}
use Rattle.token_core.specs.Same.{bare_tree, bare_stream}
use Rattle.token_core.specs.Spans.{none, delim_span}
use Rattle.token_core.specs.Toks.{Toks, word, mark, lit, group, enter}
use Rattle.token_core.specs.Trees as s
use Rattle.token_core.specs.Trees.{TokenStream, group_of, ident, punct, literal, row, toks, trees}
use Rattle.token_core.proofs.Bares.{bare-ident, bare-punct, bare-literal, bare-of-group, bare_group_is, bare_stream_is}
use Rattle.token_core.proofs.Rebuilds.{tree-ident, tree-punct, tree-literal, tree-group, visible-tree, toks-stream_of, stream_of-toks}
use Rattle.syn_path.proofs.aside_laws.Both.{cons_same}
use Rattle.syn_path.proofs.aside_laws.Same.{Same, same_done, same_word, same_mark, same_lit, same_group, same_size, visible_same, Rest, all_left, past_word, past_mark, past_lit, past_group, onward, one_rest, Moved}
use Rattle.syn_path.proofs.aside_laws.Tokens.{some_if}
use Rattle.syn_path.proofs.aside_laws.Paths.{stream_same}

-- ---- a token tree

record MovedTree (x : TokenTree) (r m : Toks) : Type 0 where
  pub tree : TokenTree
  pub rest : Toks
  pub is : m ≡ s.tree tree rest
  pub same : bare_tree tree ≡ bare_tree x
  pub on : Same r rest
  pub part : Rest rest m

from_word : {i : Ident} {k m : Toks} → Same (word i k) m → MovedTree (t.Ident i) k m
from_word (same_word {t = x} {a = a} {b = b} {m = m} h) = record { tree = t.Ident (ident x b); rest = m; is = sym (tree-ident (ident x b) m); same = bare-ident (ident x b) ∙ sym (bare-ident (ident x a)); on = h; part = past_word all_left }

from_mark : {p : Punct} {k m : Toks} → Same (mark p k) m → MovedTree (t.Punct p) k m
from_mark (same_mark {c = c} {j = j} {a = a} {b = b} {m = m} h) = record { tree = t.Punct (punct c j b); rest = m; is = sym (tree-punct (punct c j b) m); same = bare-punct (punct c j b) ∙ sym (bare-punct (punct c j a)); on = h; part = past_mark all_left }

from_lit : {p : Literal} {k m : Toks} → Same (lit p k) m → MovedTree (t.Literal p) k m
from_lit (same_lit {d = d} {t = x} {a = a} {b = b} {m = m} h) = record { tree = t.Literal (literal d x b); rest = m; is = sym (tree-literal (literal d x b) m); same = bare-literal (literal d x b) ∙ sym (bare-literal (literal d x a)); on = h; part = past_lit all_left }

pub seen_group : (d : Delimiter) (a : DelimSpan) (c : TokenStream) → bare_tree (t.Group (group_of d c a)) ≡ t.Group (group_of d (bare_stream c) (delim_span none none))
seen_group d a c =
    bare-of-group (group_of d c a)
    ∙ ap t.Group (bare_group_is (group_of d c a) ∙ ap (λ (y : o.Group-F TokenTree Group). group_of y.content.1 (bare_stream y.content.0) (delim_span none none)) (out-roll-Group (record { content = (c, d); span = a })))

from_group : (x : TokenStream) {d : Delimiter} {a : DelimSpan} {c k m : Toks} → c ≡ toks x → Same (group d a c k) m → MovedTree (t.Group (group_of d x a)) k m
from_group x h (same_group {d = d} {a = a} {b = b} {e = e} {m = m} v i q) = record {
  tree = t.Group (group_of d (stream_of e) b);
  rest = m;
  is = ap (λ z. group d b z m) (sym (toks-stream_of e (visible_same i))) ∙ sym (visible-tree d (stream_of e) b m v);
  same =
      seen_group d b (stream_of e)
      ∙ ap (λ z. t.Group (group_of d z (delim_span none none))) (sym (stream_same i) ∙ ap bare_stream (ap stream_of h ∙ stream_of-toks x)) ∙ sym (seen_group d a x);
  on = q;
  part = past_group all_left;
}

no_enter : {A : Type 0} (a : DelimSpan) (k m : Toks) → Same (enter a k) m → A
no_enter a k m h = elim h [ ]

group_moves : (d : Delimiter) (c : TokenStream) (a : DelimSpan) (k m : Toks) → Same (s.tree (t.Group (group_of d c a)) k) m → MovedTree (t.Group (group_of d c a)) k m
group_moves Parenthesis c a k m h = from_group c refl (subst (λ z. Same z m) (tree-group Parenthesis c a k) h)
group_moves Brace c a k m h = from_group c refl (subst (λ z. Same z m) (tree-group Brace c a k) h)
group_moves Bracket c a k m h = from_group c refl (subst (λ z. Same z m) (tree-group Bracket c a k) h)
group_moves invisible c a k m h = no_enter _ _ _ (subst (λ z. Same z m) (tree-group invisible c a k) h)

abbrev AnyMoves : TokenTree → Type 0
AnyMoves x = (k m : Toks) → Same (s.tree x k) m → MovedTree x k m

layer_moves : (y : o.TokenTree-F TokenTree Group) → AnyMoves (roll-TokenTree y)
layer_moves (o.Ident i) = subst AnyMoves (sym (t.rolls-Ident i)) (λ k m h. from_word (subst (λ z. Same z m) (tree-ident i k) h))
layer_moves (o.Punct p) = subst AnyMoves (sym (t.rolls-Punct p)) (λ k m h. from_mark (subst (λ z. Same z m) (tree-punct p k) h))
layer_moves (o.Literal p) = subst AnyMoves (sym (t.rolls-Literal p)) (λ k m h. from_lit (subst (λ z. Same z m) (tree-literal p k) h))
layer_moves (o.Group g) = subst AnyMoves (sym (t.rolls-Group g)) (subst (λ z. AnyMoves (t.Group z)) (roll-out-Group g) (group_moves (out-Group g).content.1 (out-Group g).content.0 (out-Group g).span))

tree_moves : (x : TokenTree) → AnyMoves x
tree_moves x = subst AnyMoves (roll-out-TokenTree x) (layer_moves (out-TokenTree x))

-- ---- token trees in a row

record MovedRow (x : List TokenTree) (r m : Toks) : Type 0 where
  pub row_of : List TokenTree
  pub rest : Toks
  pub is : m ≡ row row_of rest
  pub same : map bare_tree row_of ≡ map bare_tree x
  pub on : Same r rest
  pub part : Rest rest m

row_moves : (x : List TokenTree) (r m : Toks) → Same (row x r) m → MovedRow x r m
row_moves [] r m h = record { row_of = []; rest = m; is = refl; same = refl; on = h; part = all_left }
row_moves (x ∷ xs) r m h =
    let q = tree_moves x (row xs r) m h in
    let t = row_moves xs r q.rest q.on in
    record { row_of = q.tree ∷ t.row_of; rest = t.rest; is = q.is ∙ ap (s.tree q.tree) t.is; same = cons_same q.same t.same; on = t.on; part = onward t.part q.part }

-- what a form without a tree spells
pub record MovedForm (Form : Toks → Toks → Type 0) (r m : Toks) : Type 0 where
  pub rest : Toks
  pub is : Form m rest
  pub on : Same r rest
  pub part : Rest rest m

pub held_moves : {Form : Toks → Toks → Type 0} (x : TokenStream) {l r m : Toks} → l ≡ row (trees x) r → Same l m → MovedForm Form r m → Moved bare_stream (λ t l r. Form l r × (l ≡ row (trees t) r)) x r m
held_moves {Form} x {l} {r} {m} h s q =
    let t = row_moves (trees x) r m (subst (λ z. Same z m) h s) in
    let e : t.rest ≡ q.rest = one_rest t.rest q.rest m t.part q.part (sym (same_size t.on) ∙ same_size q.on) in
    record {
      tree = t.row_of;
      rest = q.rest;
      is = (q.is, t.is ∙ ap (row t.row_of) e);
      same = bare_stream_is t.row_of ∙ t.same ∙ sym (bare_stream_is x);
      on = q.on;
      part = q.part;
    }

-- ---- a lifetime that is seen

word_after : (a b : Span) {k m : Toks} → Same k m → is_some (with_ident a (next_word k)) ≡ is_some (with_ident b (next_word m))
word_after a b same_done = refl
word_after a b (same_word h) = refl
word_after a b (same_mark h) = refl
word_after a b (same_lit h) = refl
word_after a b (same_group v i h) = refl

pub lifetime_seen : {l m : Toks} → Same l m → sees_lifetime l ≡ sees_lifetime m
unfolding sees_lifetime
lifetime_seen same_done = refl
lifetime_seen (same_word h) = refl
lifetime_seen (same_lit h) = refl
lifetime_seen (same_group v i h) = refl
lifetime_seen (same_mark {c = c} {j = j} {a = a} {b = b} {k = k} {m = m} h) =
    some_if (c == 39) (if is_joint j then with_ident a (next_word k) else None) (if is_joint j then with_ident b (next_word m) else None)
    (some_if (is_joint j) (with_ident a (next_word k)) (with_ident b (next_word m)) (word_after a b h))

-- ---- a tree in another one

pub put_in : {A B : Type 0} {fa : A → A} {fb : B → B} {V : A → Toks → Toks → Type 0} {W : B → Toks → Toks → Type 0} {x : A} {r m : Toks} (f g : A → B) → ((y : A) → fb (f y) ≡ g (fa y)) → ((y : A) (k : Toks) → V y m k → W (f y) m k) →
    Moved fa V x r m → Moved fb W (f x) r m
put_in {x = x} f g e i q = record { tree = f q.tree; rest = q.rest; is = i q.tree q.rest q.is; same = e q.tree ∙ ap g q.same ∙ sym (e x); on = q.on; part = q.part }
