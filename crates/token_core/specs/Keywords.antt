-- The words: the keywords, which are no `Ident`, and those that are keywords in their places alone.
use Rattle.std.specs.Prelude.{ℕ, Bool, false, List, [], ◌∷◌, ◌++◌, ◌||◌, codes, get_or}
use Rattle.std.specs.Str.{bytes_eq}
use Rattle.token_core.specs.Toks.{Bytes}

-- in the order of their numbers, by which types and proofs name them
abbrev pub keywords : List Bytes
keywords =
    codes "Self"
    ∷ codes "self"
    ∷ codes "super"
    ∷ codes "crate"
    ∷ codes "as"
    ∷ codes "box"
    ∷ codes "const"
    ∷ codes "dyn"
    ∷ codes "extern"
    ∷ codes "fn"
    ∷ codes "for"
    ∷ codes "if"
    ∷ codes "impl"
    ∷ codes "mut"
    ∷ codes "ref"
    ∷ codes "try"
    ∷ codes "unsafe"
    ∷ codes "use"
    ∷ codes "where"
    ∷ codes "_"
    ∷ codes "abstract"
    ∷ codes "async"
    ∷ codes "await"
    ∷ codes "become"
    ∷ codes "break"
    ∷ codes "continue"
    ∷ codes "do"
    ∷ codes "else"
    ∷ codes "enum"
    ∷ codes "false"
    ∷ codes "final"
    ∷ codes "in"
    ∷ codes "let"
    ∷ codes "loop"
    ∷ codes "macro"
    ∷ codes "match"
    ∷ codes "mod"
    ∷ codes "move"
    ∷ codes "override"
    ∷ codes "priv"
    ∷ codes "pub"
    ∷ codes "return"
    ∷ codes "static"
    ∷ codes "struct"
    ∷ codes "trait"
    ∷ codes "true"
    ∷ codes "type"
    ∷ codes "typeof"
    ∷ codes "unsized"
    ∷ codes "virtual"
    ∷ codes "while"
    ∷ codes "yield"
    ∷ []

abbrev pub keyword_count : ℕ
keyword_count = 52

-- keywords in their places alone, and else identifiers
abbrev pub weak_keywords : List Bytes
weak_keywords = codes "builtin" ∷ codes "union" ∷ []

-- the words by their numbers
abbrev pub words : List Bytes
words = keywords ++ weak_keywords

abbrev pub word_count : ℕ
word_count = 54

-- the text of a word; a number that names none has no text
abbrev pub text_of : ℕ → Bytes
text_of n = get_or words n []

abbrev pub is_one_of : List Bytes → Bytes → Bool
is_one_of [] t = false
is_one_of (k ∷ ks) t = bytes_eq t k || is_one_of ks t

unfoldable pub is_keyword : Bytes → Bool
is_keyword t = is_one_of keywords t
