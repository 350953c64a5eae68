-- Where a list of fields ends, what follows a field there, and how much is left after a comma.
use Rattle.std.proofs.Common.{◌≡◌, ℕ, ◌<◌, ◌≤◌, ◌||◌, Bool, true, false, List, [], ◌∷◌, map, Ok, refl, sym, ◌∙◌, ap, subst, arith}
use Rattle.token_core.specs.declared.span.Span.{Span}
use Rattle.token_core.specs.declared.tree.Ident.{Ident}
use Rattle.token_core.specs.declared.span.DelimSpan.{DelimSpan}
use Rattle.token_core.specs.declared.tree.Delimiter.{Delimiter}
use Rattle.token_core.specs.declared.tree.Delimiter.TheVariants as d
use Rattle.token_core.specs.declared.tree.TokenTree.{TokenTree, roll-TokenTree, map-TokenTree}
use Rattle.token_core.specs.declared.tree.TokenTree.TheOpen as o
use Rattle.token_core.specs.declared.tree.TokenTree.TheFolds.{ind-TokenTree}
use Rattle.token_core.specs.declared.tree.Group.{Group, roll-Group, map-Group}
use Rattle.token_core.specs.Loops.{size}
use Rattle.token_core.specs.Prints.{Print}
use Rattle.token_core.specs.Marks.{chars_of, mark_name, mark_of}
use Rattle.token_core.specs.Reads.{is_done, read_mark}
use Rattle.token_core.specs.Rebuilt.{Visible}
use Rattle.token_core.specs.Spellings.{AreChars, last_char, more_chars, IsMark, is_mark}
use Rattle.token_core.specs.Stream.{Stream}
use Rattle.token_core.specs.Toks.{Toks, done, word, mark, lit, group, enter, leave}
use Rattle.token_core.specs.Trees.{grouped, row}
use Rattle.token_core.specs.Trees as trees
use Rattle.token_core.specs.Tokens as token
use Rattle.token_core.proofs.MarkSpells.{mark_complete, mark_seen}
use Rattle.token_core.proofs.Flats.{tree-roll, group-roll}
use Rattle.token_core.proofs.Steps.{Reads_to}
use Rattle.token_core.proofs.Takes.{named_takes}
use Rattle.token_core.proofs.Took.{at, mapped, went}
use Rattle.token_core.proofs.Turns.{same_pair}
use Rattle.item_small.specs.item.Promises.{ends_field}
use Rattle.item_small.specs.item.Reading.{comma}
use Rattle.item_small.specs.item.Spelling.{IsName, a_name}
use Rattle.item_small.specs.item.Trees.{Comma}

-- ---- the end

pub over : is_done done ≡ true
unfolding is_done
over = refl

pub done_of : (l : Toks) → Visible l → is_done l ≡ true → l ≡ done
unfolding is_done
done_of done v h = refl
done_of (word i k) v h = cc
done_of (mark p k) v h = cc
done_of (lit x k) v h = cc
done_of (group d s c k) v h = cc
done_of (enter s k) v h = absurd v
done_of (leave k) v h = absurd v

pub not_over : (l : Toks) → l ≡ done → is_done l ≡ false → ⊥
not_over l e h = let w = sym over ∙ ap is_done (sym e) ∙ h in absurd (cc w)

-- ---- what follows a field

or_true : (a b : Bool) → b ≡ true → a || b ≡ true
or_true true b h = refl
or_true false b h = h

or_first : (a b : Bool) → a ≡ true → a || b ≡ true
or_first true b h = refl
or_first false b h = cc

pub end_follows : ends_field done ≡ true
end_follows = or_first (is_done done) (token.sees_comma done) over

pub comma_follows : (clear : Bool) (c : Comma) (l k : Toks) → IsMark clear c l k → ends_field l ≡ true
comma_follows clear c l k i = or_true (is_done l) (token.sees_comma l) (mark_seen clear c l k i)

-- ---- commas

pub comma_met : (s : Stream) (c : Comma) (l n : Toks) → s.rest ≡ l → IsMark true c l n → Reads_to comma c s.rest n s.left s.last s.scope
comma_met s c l n e i = mark_complete true refl (omega arith) c s.rest n s.left s.last s.scope (subst (λ z. IsMark true c z n) (sym e) i)

pub comma_same : (s t : Stream) (c d : Comma) (l n : Toks) → comma s ≡ Ok (c, t) → s.rest ≡ l → IsMark true d l n → (d ≡ c) × (t.rest ≡ n) × (t.left ≡ s.left)
comma_same s t c d l n g e i =
    let m = comma_met s d l n e i in
    let same = same_pair d c (at n s.left m.last s.scope) t (sym m.reads ∙ g) in
    (same.0, ap (λ (z : Stream). z.rest) (sym same.1), ap (λ (z : Stream). z.left) (sym same.1))

pub comma_takes : (s t : Stream) (c : Comma) → comma s ≡ Ok (c, t) → size t.rest < size s.rest
comma_takes s t c e = named_takes 4 1 44 [] refl s c t e

-- it leaves no tree over
pub comma_left : (s t : Stream) (c : Comma) → comma s ≡ Ok (c, t) → t.left ≡ s.left
comma_left s t c e =
    let m = mapped (read_mark (chars_of 4) (mark_name 4) s) (mark_of 4 1) c t e in
    (went (chars_of 4) (mark_name 4) s t m.value m.was).left

-- where one stands, the list goes on
chars_go : (clear : Bool) (all : List ℕ) (c : ℕ) (cs : List ℕ) (ss : List Span) (l r : Toks) → AreChars clear all (c ∷ cs) ss l r → is_done l ≡ false
unfolding is_done
chars_go clear all c cs ss l r (last_char i) = refl
chars_go clear all c cs ss l r (more_chars i) = refl

pub comma_goes : (clear : Bool) (c : Comma) (l r : Toks) → IsMark clear c l r → is_done l ≡ false
comma_goes clear c l r (is_mark {ss = ss} i) = chars_go clear (44 ∷ []) 44 [] ss l r i

pub name_goes : (i : Ident) (l r : Toks) → IsName i l r → is_done l ≡ false
unfolding is_done
name_goes i l r (a_name h) = refl

-- ---- a print without invisible groups is no shorter than what follows it

-- so of the tokens of a tree, of which then none that follow are invisible
abbrev NoShorter : (Toks → Toks) → Type 0
NoShorter f = (k : Toks) → Visible (f k) → (size k ≤ size (f k)) × Visible k

grouped_size : (d : Delimiter) (p : DelimSpan) (f : Toks → Toks) → NoShorter (grouped d p f)
grouped_size d.Parenthesis p f k v = (omega arith, v.2)
grouped_size d.Brace p f k v = (omega arith, v.2)
grouped_size d.Bracket p f k v = (omega arith, v.2)
grouped_size d.None p f k v = absurd v

module _ where
  abbrev P : TokenTree → Type 0
  P x = NoShorter (trees.tree x)

  abbrev Q : Group → Type 0
  Q g = NoShorter (trees.inside g)

  abbrev A : Type 0
  A = (x : TokenTree) × P x

  abbrev B : Type 0
  B = (g : Group) × Q g

  tree_layer : (y : o.TokenTree-F A B) → P (roll-TokenTree (map-TokenTree A B TokenTree Group (λ a. a.0) (λ b. b.0) y))
  tree_layer (o.Ident i) = subst NoShorter (sym (tree-roll (o.Ident i))) (λ k v. (omega arith, v))
  tree_layer (o.Punct p) = subst NoShorter (sym (tree-roll (o.Punct p))) (λ k v. (omega arith, v))
  tree_layer (o.Literal l) = subst NoShorter (sym (tree-roll (o.Literal l))) (λ k v. (omega arith, v))
  tree_layer (o.Group g) = subst NoShorter (sym (tree-roll (o.Group g.0))) g.1

  group_layer : (y : o.Group-F A B) → Q (roll-Group (map-Group A B TokenTree Group (λ a. a.0) (λ b. b.0) y))
  group_layer y =
      let c = map (λ (a : A). a.0) y.content.0 in
      subst NoShorter (sym (group-roll (record { content = (c, y.content.1); span = y.span }))) (grouped_size y.content.1 y.span (trees.stream c))

  tree_size : (x : TokenTree) → P x
  tree_size = ind-TokenTree P Q (λ x y is. subst (λ z. P (roll-TokenTree z)) is (tree_layer y)) (λ x y is. subst (λ z. Q (roll-Group z)) is (group_layer y))

pub row_size : (p : Print) (k : Toks) → Visible (row p k) → size k ≤ size (row p k)
row_size [] k v = omega arith
row_size (x ∷ p) k v =
    let a = tree_size x (row p k) v in
    let b = row_size p k a.1 in
    let c = a.0 in
    omega (arith, b, c)
