-- The pieces of a text, and their trees.
use Rattle.std.specs.Prelude.{ℕ, zero, suc, ◌+◌, Bool, true, false, not, ◌&&◌, ◌||◌, ◌==◌, if◌then◌else◌, List, [], ◌∷◌, ◌++◌, drop, codes, chars, encode_utf8_all}
use Rattle.std.specs.List.{list_any}
use Rattle.std.specs.Str.{bytes_eq}
use Rattle.token_core.specs.declared.tree.Delimiter.{Delimiter}
use Rattle.token_core.specs.declared.tree.Delimiter.TheVariants.{Bracket}
use Rattle.token_core.specs.declared.tree.LitKind.TheVariants.{Str}
use Rattle.token_core.specs.declared.tree.Spacing.{Spacing}
use Rattle.token_core.specs.declared.tree.Spacing.TheVariants.{Joint, Alone}
use Rattle.token_core.specs.declared.tree.TokenTree.{TokenTree}
use Rattle.token_core.specs.declared.tree.TokenTree.TheVariants as trees
use Rattle.token_core.specs.declared.span.Span.{Span}
use Rattle.token_core.specs.Spans.{span, delim_span}
use Rattle.token_core.specs.Toks.{Bytes}
use Rattle.token_core.specs.Trees.{ident, literal, punct, group_of, stream_of_trees}
use Rattle.token_text.specs.declared.piece.Form.{Form}
use Rattle.token_text.specs.declared.piece.Form.TheVariants.{Line, Block}
use Rattle.token_text.specs.declared.piece.Leaf.{Leaf}
use Rattle.token_text.specs.declared.piece.Leaf.TheVariants.{Blank, Doc, Word, Lifetime, Literal, Mark}
use Rattle.token_text.specs.declared.piece.Style.{Style}
use Rattle.token_text.specs.declared.piece.Style.TheVariants.{Outer, Inner}
use Rattle.token_text.specs.Characters.{Text, is_mark, is_nothing, begins_with}

-- ---- trees

-- the identifier of a lifetime, which follows its quote
abbrev pub past_quote : Bytes → Bytes
past_quote [] = []
past_quote (c ∷ b) = if c == 39 then b else c ∷ b

abbrev pub word_tree : Bytes → Span → TokenTree
word_tree b s = trees.Ident (ident b s)

abbrev pub mark_tree : ℕ → Spacing → Span → TokenTree
mark_tree c j s = trees.Punct (punct c j s)

abbrev pub group_tree : Delimiter → Span → Span → List TokenTree → TokenTree
group_tree d o c ts = trees.Group (group_of d (stream_of_trees ts) (delim_span o c))

-- this character stands here, and nothing more
unfoldable pub is_last : ℕ → Text → Bool
is_last d [] = false
is_last d (c ∷ cs) = c == d && is_nothing cs

-- a comment of documentation ends here: with its line, of which a carriage return is no part, or with `*/`
unfoldable pub ends_here : Form → ℕ → Text → Bool
ends_here Line c cs = c == 13 && is_nothing cs
ends_here Block c cs = c == 42 && is_last 47 cs

abbrev pub up_to_end : Form → Text → Text
up_to_end f [] = []
up_to_end f (c ∷ cs) = if ends_here f c cs then [] else c ∷ up_to_end f cs

-- what a comment of documentation says: what follows its first three characters, up to its end
abbrev pub doc_text : Form → Text → Text
doc_text f cs = up_to_end f (drop 3 cs)

-- how a character stands in a string: a line feed, a carriage return, a tab, a zero, `"` and `\` by an escape
unfoldable pub escape : ℕ → Text
escape c =
    if c == 10 then codes "\\n"
    else (if c == 13 then codes "\\r"
    else (if c == 9 then codes "\\t"
    else (if c == 0 then codes "\\0"
    else (if c == 34 then codes "\\\""
    else (if c == 92 then codes "\\\\" else c ∷ [])))))

abbrev pub escaped : Text → Text
escaped [] = []
escaped (c ∷ cs) = escape c ++ escaped cs

-- the string literal that holds a text
abbrev pub quoted : Text → Text
quoted cs = codes "\"" ++ escaped cs ++ codes "\""

abbrev pub doc_literal : Form → Bytes → Bytes
doc_literal f b = encode_utf8_all (quoted (doc_text f (chars b)))

-- `[doc = ".."]`
abbrev pub doc_group : Span → Bytes → TokenTree
doc_group s b = group_tree Bracket s s (word_tree (codes "doc") s ∷ mark_tree 61 Alone s ∷ trees.Literal (literal Str b s) ∷ [])

-- `#`, and `!` of an inner one
abbrev pub doc_marks : Style → Span → List TokenTree
doc_marks Outer s = mark_tree 35 Alone s ∷ []
doc_marks Inner s = mark_tree 35 Alone s ∷ mark_tree 33 Alone s ∷ []

-- the trees of a piece whose place and bytes these are: those of a comment of documentation stand where it stands, and so do the brackets
abbrev pub trees_of : Leaf → Span → Bytes → List TokenTree
trees_of Blank s b = []
trees_of (Doc style form) s b = doc_marks style s ++ doc_group s (doc_literal form b) ∷ []
trees_of Word s b = word_tree b s ∷ []
trees_of Lifetime s b = mark_tree 39 Joint (span s.lo (s.lo + 1)) ∷ word_tree (past_quote b) (span (s.lo + 1) s.hi) ∷ []
trees_of (Literal k) s b = trees.Literal (literal k b s) ∷ []
trees_of (Mark c j) s b = mark_tree c j s ∷ []

-- ---- tests of what stands at the front of a text

-- five words have no raw form
unfoldable pub has_raw_form : Bytes → Bool
has_raw_form w = not (list_any (λ v. bytes_eq v w) (codes "r#_" ∷ codes "r#crate" ∷ codes "r#self" ∷ codes "r#super" ∷ codes "r#Self" ∷ []))

abbrev pub is_char : ℕ → ℕ → Bool
is_char d c = c == d

-- `//` and `/*` begin comments
unfoldable pub begins_comment : ℕ → Text → Bool
begins_comment c rest = c == 47 && begins_with (λ d. d == 47 || d == 42) rest

-- a mark is joint where another one follows that begins no comment
unfoldable pub spacing : Text → Spacing
spacing [] = Alone
spacing (c ∷ cs) = if is_mark c && not (begins_comment c cs) then Joint else Alone

-- after `//`: a line comment is documentation
unfoldable pub is_line_doc : Text → Bool
is_line_doc [] = false
is_line_doc (c ∷ cs) = c == 33 || (c == 47 && not (begins_with (is_char 47) cs))

-- after `/*`
unfoldable pub is_block_doc : Text → Bool
is_block_doc [] = false
is_block_doc (c ∷ cs) = c == 33 || (c == 42 && not (begins_with (λ d. d == 42 || d == 47) cs))

-- after `//` or `/*`, of documentation
abbrev pub style_of : Text → Style
style_of cs = if begins_with (is_char 33) cs then Inner else Outer

-- a carriage return stands here that no line feed follows
unfoldable pub has_lone_return : Text → Bool
has_lone_return [] = false
has_lone_return (c ∷ cs) = (c == 13 && not (begins_with (is_char 10) cs)) || has_lone_return cs

-- after a quote a character literal goes on, and not a lifetime
unfoldable pub begins_char : Text → Bool
begins_char [] = false
begins_char (c ∷ cs) = if c == 92 then true else (if c == 39 then false else begins_with (is_char 39) cs)

-- at least as many `#`
unfoldable pub has_hashes : ℕ → Text → Bool
has_hashes zero cs = true
has_hashes (suc n) [] = false
has_hashes (suc n) (c ∷ cs) = c == 35 && has_hashes n cs

-- after a sign that may stand or not
abbrev pub after_sign : Text → Text
after_sign [] = []
after_sign (c ∷ cs) = if c == 43 || c == 45 then cs else c ∷ cs

-- an exponent begins so
abbrev pub is_e : ℕ → Bool
is_e c = c == 101 || c == 69
