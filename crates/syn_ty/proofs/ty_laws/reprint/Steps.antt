-- Where what a tree holds prints its normal form clearly, so does the tree, also in a group; and trees that are held are as visible before other tokens.
use Rattle.std.proofs.Common.{◌≡◌, List, [], ◌∷◌, sym, ◌∙◌, ap, subst}
use Rattle.syn_ty.proofs.ty_laws.words.Tokens.{DelimSpan, Delimiter, TokenTree, Print, Visible, IsVisible, Toks, done, group, TokenStream, row, trees, stream_of_trees}
use Rattle.token_core.specs.declared.tree.Delimiter.TheVariants as d
use Rattle.token_core.specs.declared.tree.Group.{Group, roll-out-Group}
use Rattle.token_core.specs.declared.tree.TokenTree.{out-TokenTree, roll-out-TokenTree, roll-TokenTree}
use Rattle.token_core.specs.declared.tree.TokenTree.TheOpen as o
use Rattle.token_core.specs.declared.tree.TokenTree.TheVariants as t
use Rattle.token_core.specs.Prints as p
use Rattle.token_core.specs.Trees as s
use Rattle.token_core.specs.Trees.{delimiter_of, content_of, span_of, group_of}
use Rattle.token_core.proofs.Rebuilds.{tree-ident, tree-punct, tree-literal, tree-group}
use Rattle.syn_path.proofs.Words.{AgainFront, row-group}

-- ---- trees within others

-- where what a tree holds is spelt, so is the tree
module _ {A B : Type 0} (S : A → Toks → Toks → Type 0) (T : B → Toks → Toks → Type 0) (n : A → A) (m : B → B) (pr : A → Print) (q : B → Print) (f : B → A) (once : (y : B) → n (f y) ≡ f (m y)) where
  module _ (into : (y : B) (l r : Toks) → T y l r → S (f y) l r) (prints : (y : B) → pr (f y) ≡ q y) where
    pub within_front : (y : B) (l r : Toks) → AgainFront T m q y l r → AgainFront S n pr (f y) l r
    within_front y l r h =
        record {
          spelt = λ k. subst (λ z. S z (row (pr (f y)) k) k) (sym (once y)) (subst (λ z. S (f (m y)) (row z k) k) (sym (prints y)) (into (m y) (row (q y) k) k (h.spelt k)));
          visible = λ k u w. subst (λ z. Visible (row z k)) (sym (prints y)) (h.visible k u w);
          seen = λ u. h.seen u;
          stays = ap n (once y) ∙ once (m y) ∙ ap f h.stays ∙ sym (once y);
          same = ap pr (once y) ∙ prints (m y) ∙ h.same ∙ sym (prints y);
        }

  -- the same, in a group
  module _ (b : Delimiter) (x : DelimSpan) (whole : IsVisible b) (into : (y : B) (c r : Toks) → T y c done → S (f y) (group b x c r) r) (prints : (y : B) → pr (f y) ≡ p.group b (stream_of_trees (q y)) x) where
    pub grouped_front : (y : B) (c r : Toks) → AgainFront T m q y c done → AgainFront S n pr (f y) (group b x c r) r
    grouped_front y c r h =
        let seen = λ (k : Toks). ap (λ z. row z k) (prints y) ∙ row-group b x (q y) k whole in
        record {
          spelt = λ k. subst (λ z. S z (row (pr (f y)) k) k) (sym (once y)) (subst (λ z. S (f (m y)) z k) (sym (seen k)) (into (m y) (row (q y) done) k (h.spelt done)));
          visible = λ k u w. subst Visible (sym (seen k)) (whole, h.visible done u.1 tt, w);
          seen = λ u. u.2;
          stays = ap n (once y) ∙ once (m y) ∙ ap f h.stays ∙ sym (once y);
          same = ap pr (once y) ∙ prints (m y) ∙ ap (λ z. p.group b (stream_of_trees z) x) h.same ∙ sym (prints y);
        }

-- ---- tokens that are held, before others

record Shows (x : TokenTree) : Type 0 where
  seen : (r : Toks) → Visible (s.tree x r) → Visible r
  put : (r k : Toks) → Visible (s.tree x r) → Visible k → Visible (s.tree x k)

shows_group : (b : Delimiter) (c : TokenStream) (a : DelimSpan) → Shows (t.Group (group_of b c a))
shows_group d.Parenthesis c a = let e = tree-group d.Parenthesis c a in record { seen = λ r u. (subst Visible (e r) u).2; put = λ r k u w. subst Visible (sym (e k)) (tt, (subst Visible (e r) u).1, w) }
shows_group d.Brace c a = let e = tree-group d.Brace c a in record { seen = λ r u. (subst Visible (e r) u).2; put = λ r k u w. subst Visible (sym (e k)) (tt, (subst Visible (e r) u).1, w) }
shows_group d.Bracket c a = let e = tree-group d.Bracket c a in record { seen = λ r u. (subst Visible (e r) u).2; put = λ r k u w. subst Visible (sym (e k)) (tt, (subst Visible (e r) u).1, w) }
shows_group d.None c a = let e = tree-group d.None c a in record { seen = λ r u. absurd (subst Visible (e r) u); put = λ r k u w. absurd (subst Visible (e r) u) }

shows : (x : TokenTree) → Shows x
shows x = subst Shows (roll-out-TokenTree x) (layer (out-TokenTree x))
  where
    layer : (y : o.TokenTree-F TokenTree Group) → Shows (roll-TokenTree y)
    layer (o.Ident i) = subst Shows (sym (t.rolls-Ident i)) (record { seen = λ r u. subst Visible (tree-ident i r) u; put = λ r k u w. subst Visible (sym (tree-ident i k)) w })
    layer (o.Punct m) = subst Shows (sym (t.rolls-Punct m)) (record { seen = λ r u. subst Visible (tree-punct m r) u; put = λ r k u w. subst Visible (sym (tree-punct m k)) w })
    layer (o.Literal l) = subst Shows (sym (t.rolls-Literal l)) (record { seen = λ r u. subst Visible (tree-literal l r) u; put = λ r k u w. subst Visible (sym (tree-literal l k)) w })
    layer (o.Group g) = subst Shows (sym (t.rolls-Group g)) (subst (λ z. Shows (t.Group z)) (roll-out-Group g) (shows_group (delimiter_of g) (content_of g) (span_of g)))

pub row_seen : (l : List TokenTree) (r : Toks) → Visible (row l r) → Visible r
row_seen [] r u = u
row_seen (x ∷ l) r u = row_seen l r ((shows x).seen (row l r) u)

pub row_visible : (l : List TokenTree) (r k : Toks) → Visible (row l r) → Visible k → Visible (row l k)
row_visible [] r k u w = w
row_visible (x ∷ l) r k u w = (shows x).put (row l r) (row l k) u (row_visible l r k ((shows x).seen (row l r) u) w)
