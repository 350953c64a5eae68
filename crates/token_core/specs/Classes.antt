-- The classes of entries.
use Rattle.std.specs.Prelude.{◌≡◌, ℕ, ◌+◌, Bool, true, false, if◌then◌else◌, List, [], ◌∷◌, Option, Some, None, codes, nat_eq}
use Rattle.std.specs.List.{starts_with}
use Rattle.std.specs.Str.{bytes_eq}
use Rattle.token_core.specs.declared.class.Class.{Class}
use Rattle.token_core.specs.declared.class.Class.TheVariants.{Word, Raw, Ident, Mark, Literal, Open, End}
use Rattle.token_core.specs.declared.tree.Delimiter.TheVariants as d
use Rattle.token_core.specs.declared.tree.TokenTree.{TokenTree}
use Rattle.token_core.specs.declared.tree.TokenTree.TheOpen as o
use Rattle.token_core.specs.declared.tree.Group.{Group}
use Rattle.token_core.specs.Toks.{Bytes}
use Rattle.token_core.specs.Trees.{delimiter_of}
use Rattle.token_core.specs.Seen.{Seen, saw_word, saw_mark, saw_lit, saw_group, saw_enter, saw_leave}
use Rattle.token_core.specs.Keywords.{words}

-- ---- words by their numbers

abbrev pub Numbered : Type 0
Numbered = List (ℕ × Bytes)

abbrev pub numbered : ℕ → List Bytes → Numbered
numbered n [] = []
numbered n (w ∷ ws) = (n, w) ∷ numbered (n + 1) ws

-- the number of the first that is this text
abbrev pub among : Numbered → Bytes → Option ℕ
among [] t = None
among (p ∷ l) t = if bytes_eq t p.1 then Some p.0 else among l t

abbrev pub begins : ℕ → Bytes → Bool
begins b [] = false
begins b (c ∷ cs) = nat_eq b c

-- those that begin with this byte
abbrev pub beginning : ℕ → Numbered → Numbered
beginning b [] = []
beginning b (p ∷ l) = if begins b p.1 then p ∷ beginning b l else beginning b l

unfoldable pub words_from : ℕ → Numbered
words_from b = beginning b (numbered 0 words)

unfoldable pub word_number : Bytes → Option ℕ
word_number t = among (numbered 0 words) t

abbrev pub builtin_number : ℕ
builtin_number = 52

abbrev pub true_number : ℕ
true_number = 45

abbrev pub false_number : ℕ
false_number = 29

-- ---- classes

abbrev pub is_raw : Bytes → Bool
is_raw t = starts_with nat_eq t (codes "r#")

abbrev pub classed : Option ℕ → Bytes → Class
classed (Some n) t = Word n
classed None t = if is_raw t then Raw else Ident

-- of an identifier's text
unfoldable pub text_class : Bytes → Class
text_class t = classed (word_number t) t

abbrev pub layer_class : o.TokenTree-F TokenTree Group → Class
layer_class (o.Ident i) = text_class i.text
layer_class (o.Punct p) = Mark p.spacing p.ch
layer_class (o.Literal l) = Literal l.kind
layer_class (o.Group g) = Open (delimiter_of g)

-- the end of a group, or of the list
abbrev pub is_end : Class → Bool
is_end (Word m) = false
is_end Raw = false
is_end Ident = false
is_end (Mark j c) = false
is_end (Literal k) = false
is_end (Open a) = false
is_end End = true

-- the class of an entry of a tree: that of an end, or of the tree
abbrev pub IsClass : Class → o.TokenTree-F TokenTree Group → Type 0
IsClass c x = c ≡ (if is_end c then End else layer_class x)

abbrev pub class_of : Seen → Class
class_of (saw_word i) = text_class i.text
class_of (saw_mark p) = Mark p.spacing p.ch
class_of (saw_lit l) = Literal l.kind
class_of (saw_group b s c n) = Open b
class_of (saw_enter s c n) = Open d.None
class_of saw_leave = End
