-- What a test sees of classes alone: of the first tree, and of what follows it.
use Rattle.std.specs.Prelude.{ℕ, Bool, true, false, not, ◌||◌, ◌==◌, if◌then◌else◌, List, [], ◌∷◌, drop, ◌+◌, Option, Some, None, nat_eq, nat_lt}
use Rattle.token_core.specs.declared.class.Class.{Class}
use Rattle.token_core.specs.declared.class.Class.TheVariants.{Word, Raw, Ident, Mark, Literal, Open, End}
use Rattle.token_core.specs.declared.tree.Delimiter.{Delimiter}
use Rattle.token_core.specs.declared.tree.Delimiter.TheVariants as d
use Rattle.token_core.specs.declared.tree.LitKind.{LitKind}
use Rattle.token_core.specs.Toks.{Toks, done, word, mark, lit, group, enter, leave}
use Rattle.token_core.specs.Seen.{Seen, saw_word, saw_mark, saw_lit, saw_group, saw_enter, saw_leave}
use Rattle.token_core.specs.Front.{front}
use Rattle.token_core.specs.Classes.{text_class, class_of, true_number, false_number}
use Rattle.token_core.specs.Keywords.{keyword_count}
use Rattle.token_core.specs.Reads.{same_delimiter, is_joint, is_last}
use Rattle.token_core.specs.Lits as lits

-- ---- the class of the first token, and what follows it

abbrev pub class_at : Toks → Class
class_at done = End
class_at (word i k) = text_class i.text
class_at (mark p k) = Mark p.spacing p.ch
class_at (lit l k) = Literal l.kind
class_at (group b s c k) = Open b
class_at (enter s k) = Open d.None
class_at (leave k) = End

abbrev pub rest_of : Toks → Toks
rest_of done = done
rest_of (word i k) = k
rest_of (mark p k) = k
rest_of (lit l k) = k
rest_of (group b s c k) = k
rest_of (enter s k) = k
rest_of (leave k) = k

-- the same of entries
abbrev pub first_class : List Seen → Class
first_class [] = End
first_class (s ∷ l) = class_of s

abbrev pub after_first : List Seen → List Seen
after_first [] = []
after_first (saw_word i ∷ l) = l
after_first (saw_mark p ∷ l) = l
after_first (saw_lit k ∷ l) = l
after_first (saw_group b s c n ∷ l) = drop (n + 1) l
after_first (saw_enter s c n ∷ l) = drop (n + 1) l
after_first (saw_leave ∷ l) = l

-- what follows a tree of a class, whose content has that many entries
abbrev pub past : {A : Type 0} → Class → ℕ → List A → List A
past (Word m) n l = l
past Raw n l = l
past Ident n l = l
past (Mark j c) n l = l
past (Literal k) n l = l
past (Open b) n l = drop (n + 1) l
past End n l = l

-- ---- tests

-- an identifier, keywords too
abbrev pub is_any_ident : Class → Bool
is_any_ident (Word n) = true
is_any_ident Raw = true
is_any_ident Ident = true
is_any_ident (Mark j c) = false
is_any_ident (Literal k) = false
is_any_ident (Open b) = false
is_any_ident End = false

-- one that is no keyword
abbrev pub is_ident : Class → Bool
is_ident (Word n) = not (nat_lt n keyword_count)
is_ident Raw = true
is_ident Ident = true
is_ident (Mark j c) = false
is_ident (Literal k) = false
is_ident (Open b) = false
is_ident End = false

-- the word of a number
abbrev pub is_word : Class → ℕ → Bool
is_word (Word m) n = nat_eq m n
is_word Raw n = false
is_word Ident n = false
is_word (Mark j c) n = false
is_word (Literal k) n = false
is_word (Open b) n = false
is_word End n = false

abbrev pub is_group : Class → Delimiter → Bool
is_group (Word m) b = false
is_group Raw b = false
is_group Ident b = false
is_group (Mark j c) b = false
is_group (Literal k) b = false
is_group (Open a) b = same_delimiter a b
is_group End b = false

-- a quote that belongs with what follows
abbrev pub is_quote : Class → Bool
is_quote (Word m) = false
is_quote Raw = false
is_quote Ident = false
is_quote (Mark j c) = if c == 39 then is_joint j else false
is_quote (Literal k) = false
is_quote (Open a) = false
is_quote End = false

-- the kind of a literal tree
abbrev pub literal_kind : Class → Option LitKind
literal_kind (Word m) = None
literal_kind Raw = None
literal_kind Ident = None
literal_kind (Mark j c) = None
literal_kind (Literal k) = Some k
literal_kind (Open a) = None
literal_kind End = None

abbrev pub kind_meets : (LitKind → Bool) → Option LitKind → Bool
kind_meets test None = false
kind_meets test (Some k) = test k

-- a bound of an invisible group
abbrev pub bounds : Class → Bool
bounds (Word m) = false
bounds Raw = false
bounds Ident = false
bounds (Mark j c) = false
bounds (Literal k) = false
bounds (Open a) = same_delimiter a d.None
bounds End = true

-- ---- marks

-- this character, which belongs with the next one where that is asked
abbrev pub is_char : Class → ℕ → Bool → Bool
is_char (Word m) c last = false
is_char Raw c last = false
is_char Ident c last = false
is_char (Mark j x) c last = if x == c then (if last then true else is_joint j) else false
is_char (Literal k) c last = false
is_char (Open a) c last = false
is_char End c last = false

-- a mark of these characters
abbrev pub are_chars : List ℕ → Toks → Bool
are_chars [] l = true
are_chars (c ∷ cs) l = if is_char (class_at (front l)) c (is_last cs) then are_chars cs (rest_of (front l)) else false

-- ---- what follows the first tree; a quote that belongs with an identifier counts as one with it

abbrev pub after_mark : Class → Toks → Toks
after_mark c k = if is_quote c then (if is_any_ident (class_at (front k)) then rest_of (front k) else k) else k

abbrev pub after_class : Class → Toks → Option Toks
after_class (Word m) k = Some k
after_class Raw k = Some k
after_class Ident k = Some k
after_class (Mark j c) k = Some (after_mark (Mark j c) k)
after_class (Literal x) k = Some k
after_class (Open a) k = Some k
after_class End k = None

-- ---- two trees

abbrev pub is_lifetime : Toks → Bool
is_lifetime l = if is_quote (class_at (front l)) then is_any_ident (class_at (front (rest_of (front l)))) else false

-- ---- literals: a literal tree, `true` or `false`, or a minus and a number

abbrev pub is_lit_at : Class → Toks → Bool
is_lit_at (Word m) k = nat_eq m true_number || nat_eq m false_number
is_lit_at Raw k = false
is_lit_at Ident k = false
is_lit_at (Mark j c) k = if c == 45 then kind_meets lits.is_number (literal_kind (class_at (front k))) else false
is_lit_at (Literal x) k = true
is_lit_at (Open a) k = false
is_lit_at End k = false

abbrev pub is_lit : Toks → Bool
is_lit l = is_lit_at (class_at (front l)) (rest_of (front l))
