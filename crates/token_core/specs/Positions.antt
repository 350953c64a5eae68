-- Positions in a buffer: what is left of the whole buffer from there on, one item an entry.
use Rattle.std.specs.Prelude.{Bool, true, false, ◌≡◌, ◌⊎◌, Option, Some, None, List, [], ◌∷◌, ◌++◌, ◌<◌, length, map, nat_lt, refl}
use Rattle.std.proofs.Common.{inl, inr}
use Rattle.std.specs.Coded.{Coded, code_by, coded×, coded⊎, coded_bool, coded_list}
use Rattle.token_core.specs.declared.class.Entry.{Entry}
use Rattle.token_core.specs.declared.tree.Delimiter.{Delimiter}
use Rattle.token_core.specs.declared.tree.Delimiter.TheVariants as d
use Rattle.token_core.specs.declared.span.DelimSpan.{DelimSpan}
use Rattle.token_core.specs.declared.tree.Ident.{Ident}
use Rattle.token_core.specs.declared.tree.Punct.{Punct}
use Rattle.token_core.specs.declared.tree.Literal.{Literal}
use Rattle.token_core.specs.declared.tree.TokenTree.{TokenTree}
use Rattle.token_core.specs.Toks.{Toks, done, word, mark, lit, group, enter, leave}
use Rattle.token_core.specs.Trees.{tree}
use Rattle.token_core.specs.Codes.{delimiter_code, delim_span_code, ident_code, punct_code, literal_code}
use Rattle.token_core.specs.Pieces.{toks_code}
use Rattle.token_core.specs.Seen.{Seen, saw_word, saw_mark, saw_lit, saw_group, saw_enter, saw_leave}
use Rattle.token_core.specs.Entries.{saw}

-- a group, visible or not, is its beginning, its content and its end
pub data Item : Type 0 where
  an_ident : Ident → Item
  a_punct : Punct → Item
  a_literal : Literal → Item
  a_beginning : Delimiter → DelimSpan → Item
  an_end : Item

-- the items of tokens
abbrev pub items : Toks → List Item
items done = []
items (word i k) = an_ident i ∷ items k
items (mark p k) = a_punct p ∷ items k
items (lit l k) = a_literal l ∷ items k
items (group b s c k) = a_beginning b s ∷ (items c ++ an_end ∷ items k)
items (enter s k) = a_beginning d.None s ∷ items k
items (leave k) = an_end ∷ items k

-- the items of a tree
abbrev pub tree_items : TokenTree → List Item
tree_items t = items (tree t done)

-- the items of trees, in order
abbrev pub row_items : List TokenTree → List Item
row_items [] = []
row_items (t ∷ l) = tree_items t ++ row_items l

-- ---- what stands at a position

-- a tree stands there, and neither the end of a group nor that of the buffer
abbrev pub has_tree : List Item → Bool
has_tree [] = false
has_tree (an_ident i ∷ l) = true
has_tree (a_punct p ∷ l) = true
has_tree (a_literal k ∷ l) = true
has_tree (a_beginning b s ∷ l) = true
has_tree (an_end ∷ l) = false

-- inside the group that stands there
abbrev pub entered : List Item → Option (List Item)
entered [] = None
entered (an_ident i ∷ l) = None
entered (a_punct p ∷ l) = None
entered (a_literal k ∷ l) = None
entered (a_beginning b s ∷ l) = Some l
entered (an_end ∷ l) = None

-- after the group whose end stands there
abbrev pub left : List Item → Option (List Item)
left [] = None
left (an_ident i ∷ l) = None
left (a_punct p ∷ l) = None
left (a_literal k ∷ l) = None
left (a_beginning b s ∷ l) = None
left (an_end ∷ l) = Some l

-- ---- the order of positions

-- more is left at the first position; of two positions of one buffer that is the one that stands before the other
abbrev pub is_before : List Item → List Item → Bool
is_before a b = nat_lt (length b) (length a)

-- a position that is reached from another one by going forward
pub data IsReached : List Item → List Item → Type 0 where
  there : {l : List Item} → IsReached l l
  past : {r l : List Item} (x : Item) → IsReached r l → IsReached r (x ∷ l)

-- ---- what the entries of a buffer show

abbrev pub item : Seen → Item
item (saw_word i) = an_ident i
item (saw_mark p) = a_punct p
item (saw_lit l) = a_literal l
item (saw_group b s c n) = a_beginning b s
item (saw_enter s c n) = a_beginning d.None s
item saw_leave = an_end

abbrev pub entries_items : List Entry → List Item
entries_items l = map item (map saw l)

-- ---- a position in a scope, and what follows the scope

pub record Placed : Type 0 where
  pub rest : Toks
  pub after : List Item

-- the tokens of a group's content and of what follows the group, where these are left, and the group's beginning before them
pub record Holds (rest content more : Toks) : Type 0 where
  pub before : List Item
  pub begun : 0 < length before
  pub is : items rest ≡ before ++ (items content ++ an_end ∷ items more)

-- ---- codes

abbrev Stored : Type 0
Stored = (Ident ⊎ Punct) ⊎ ((Literal ⊎ (Delimiter × DelimSpan)) ⊎ Bool)

abbrev store : Item → Stored
store (an_ident i) = inl (inl i)
store (a_punct p) = inl (inr p)
store (a_literal l) = inr (inl (inl l))
store (a_beginning b s) = inr (inl (inr (b, s)))
store an_end = inr (inr true)

abbrev unstore : Stored → Item
unstore (inl (inl i)) = an_ident i
unstore (inl (inr p)) = a_punct p
unstore (inr (inl (inl l))) = a_literal l
unstore (inr (inl (inr p))) = a_beginning p.0 p.1
unstore (inr (inr b)) = an_end

pub unstore-store : (x : Item) → unstore (store x) ≡ x
unstore-store (an_ident i) = refl
unstore-store (a_punct p) = refl
unstore-store (a_literal l) = refl
unstore-store (a_beginning b s) = refl
unstore-store an_end = refl

abbrev pub items_code : Coded (List Item)
items_code = coded_list (code_by Stored (coded⊎ (coded⊎ ident_code punct_code) (coded⊎ (coded⊎ literal_code (coded× delimiter_code delim_span_code)) coded_bool)) store unstore unstore-store)

abbrev pub placed_code : Coded Placed
placed_code = code_by (Toks × List Item) (coded× toks_code items_code) (λ p. (p.rest, p.after)) (λ p. record { rest = p.0; after = p.1 }) (λ _. refl)
