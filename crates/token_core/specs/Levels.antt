-- How deep a list nests: an upper bound of how many calls within calls read it, where it is read as types, patterns or generics.
--
-- The list is gone through from its front, and each token has a level. Levels are taken
--
-- - by each group, one for what it holds, and after it the level is what it was before;
-- - by each open `<`, three, up to its `>` or the end of its group (but after a literal and parentheses, where it is an operator);
-- - by what a type, a bound or a pattern goes on after, one each: `&` and `*` (but after these and identifiers), `@`, `->`, and the words
--   `dyn`, `impl`, `fn`, `for` and `box`; by `unsafe` two.
--
-- So a level of types that takes more of the stack counts as more levels.
--
-- What no `<` is open around goes back to the level at which its group begins, at each `,` and after braces. So it does, and each `<` of the
-- group is closed, at `;`, `|`, `=>` and at words by which items, statements and expressions begin, since no type goes on there.
use Rattle.std.specs.Prelude.{◌≡◌, ◌⊎◌, ℕ, ◌+◌, ◌-◌, ◌<◌, ◌^◌, Bool, true, false, ◌||◌, ◌==◌, nat_lt, if◌then◌else◌, min, max, List, [], ◌∷◌, ◌++◌, map, Option, Some, None, Result, MatchResult}
use Rattle.token_core.specs.declared.class.Class.{Class}
use Rattle.token_core.specs.declared.class.Class.TheVariants.{Word, Raw, Ident, Mark, Literal, Open, End}
use Rattle.token_core.specs.declared.error.ErrorKind.TheVariants.{NestedTooDeep}
use Rattle.token_core.specs.declared.levels.Around.{Around}
use Rattle.token_core.specs.declared.levels.Last.{Last}
use Rattle.token_core.specs.declared.levels.Last.TheVariants.{Minus, Equals, Quote, Name, Value, Other}
use Rattle.token_core.specs.declared.levels.Step.{Step}
use Rattle.token_core.specs.declared.levels.Step.TheVariants as steps
use Rattle.token_core.specs.declared.span.Span.{Span}
use Rattle.token_core.specs.declared.tree.Delimiter.{Delimiter}
use Rattle.token_core.specs.declared.tree.Delimiter.TheVariants as d
use Rattle.token_core.specs.declared.tree.Spacing.{Spacing}
use Rattle.token_core.specs.declared.tree.Spacing.TheVariants.{Joint, Alone}
use Rattle.token_core.specs.declared.tree.TokenTree.{TokenTree, out-TokenTree}
use Rattle.token_core.specs.declared.tree.TokenTree.TheOpen as o
use Rattle.token_core.specs.declared.tree.Group.{Group}
use Rattle.token_core.specs.Classes.{text_class}
use Rattle.token_core.specs.Positions.{Item, a_beginning, an_end, an_ident, a_punct, a_literal, tree_items, row_items}
use Rattle.token_core.specs.Refusal.{Refusal, named, out_of_memory}
use Rattle.token_core.specs.Spans.{none}
use Rattle.token_core.specs.Trees.{TokenStream, delimiter_of, span_of}

-- the levels around each open group, the innermost first; the level at which the innermost begins, that of the last token, and how many
-- `<` are open in the group; and what the last token is for the next one
pub record State : Type 0 where
  pub around : List Around
  pub base : ℕ
  pub here : ℕ
  pub angles : ℕ
  pub last : Last

abbrev pub state : List Around → ℕ → ℕ → ℕ → Last → State
state a b h n l = record { around = a; base = b; here = h; angles = n; last = l }

abbrev pub start : State
start = state [] 0 0 0 Other

-- a number past the greatest `usize` counts as that
abbrev pub plus : ℕ → ℕ → ℕ
plus a b = min (a + b) (2 ^ 64 - 1)

-- ---- words, by their numbers (`Keywords`)

-- `box`, `dyn`, `fn`, `for`, `impl`, `unsafe`
abbrev pub deepens : ℕ → Bool
deepens n = n == 5 || (n == 7 || (n == 9 || (n == 10 || (n == 12 || n == 16))))

-- `if`, `else`, `enum`, `let`, `match`, `mod`, `return`, `static`, `struct`, `trait`, `type`, `while`
abbrev pub begins_anew : ℕ → Bool
begins_anew n = n == 11 || (n == 27 || (n == 28 || (n == 32 || (n == 35 || (n == 36 || (n == 41 || (n == 42 || (n == 43 || (n == 44 || (n == 46 || n == 50))))))))))

-- ---- the next token

abbrev pub is_quote : Last → Bool
is_quote Minus = false
is_quote Equals = false
is_quote Quote = true
is_quote Name = false
is_quote Value = false
is_quote Other = false

-- a literal or parentheses
abbrev pub is_value : Last → Bool
is_value Minus = false
is_value Equals = false
is_value Quote = false
is_value Name = false
is_value Value = true
is_value Other = false

abbrev pub with_last : Last → State → State
with_last l x = state x.around x.base x.here x.angles l

abbrev pub deeper : ℕ → State → State
deeper n x = state x.around x.base (plus x.here n) x.angles Other

abbrev pub anew : State → State
anew x = state x.around x.base x.base 0 Other

abbrev pub word : ℕ → State → State
word n x =
    if is_quote x.last then with_last Other x else (
    if deepens n then deeper (if n == 16 then 2 else 1) x else (
    if begins_anew n then anew x else with_last Other x))

abbrev pub name : State → State
name x = with_last (if is_quote x.last then Other else Name) x

abbrev pub open_angle : State → State
open_angle x = if is_value x.last then x else state x.around x.base (plus x.here 3) (plus x.angles 1) Other

abbrev pub close_angle : State → State
close_angle x = if x.angles == 0 then with_last Other x else state x.around x.base (x.here - 3) (x.angles - 1) Other

abbrev pub greater_after : Last → State → State
greater_after Minus x = deeper 1 x
greater_after Equals x = anew x
greater_after Quote x = close_angle x
greater_after Name x = close_angle x
greater_after Value x = close_angle x
greater_after Other x = close_angle x

abbrev pub greater : State → State
greater x = greater_after x.last x

abbrev pub comma : State → State
comma x = state x.around x.base (if x.angles == 0 then x.base else x.here) x.angles Other

abbrev pub prefix_after : Last → State → State
prefix_after Minus x = deeper 1 x
prefix_after Equals x = deeper 1 x
prefix_after Quote x = deeper 1 x
prefix_after Name x = x
prefix_after Value x = x
prefix_after Other x = deeper 1 x

abbrev pub prefix : State → State
prefix x = prefix_after x.last x

-- `-`, `=` and a quote that belong with the next mark
abbrev pub joint_mark : ℕ → Last
joint_mark c = if c == 45 then Minus else (if c == 61 then Equals else (if c == 39 then Quote else Other))

abbrev pub last_mark : ℕ → Spacing → Last
last_mark c Joint = joint_mark c
last_mark c Alone = Other

abbrev pub mark : Spacing → ℕ → State → State
mark j c x =
    if c == 60 then open_angle x else (
    if c == 62 then greater x else (
    if c == 44 then comma x else (
    if c == 59 || c == 124 then anew x else (
    if c == 38 || c == 42 then prefix x else (
    if c == 64 then deeper 1 x else with_last (last_mark c j) x)))))

abbrev pub around_of : Delimiter → State → Around
around_of b x = record { delimiter = b; base = x.base; here = x.here; angles = x.angles }

abbrev pub open_group : Delimiter → State → State
open_group b x = state (around_of b x ∷ x.around) (plus x.here 1) (plus x.here 1) 0 Other

-- parentheses may be an operand, and braces end what stands before them
abbrev pub after_group : Delimiter → State → State
after_group d.Parenthesis x = with_last Value x
after_group d.Brace x = comma x
after_group d.Bracket x = with_last Other x
after_group d.None x = with_last Other x

abbrev pub leave : Around → State → State
leave a x = after_group a.delimiter (state x.around a.base a.here a.angles Other)

abbrev pub close_group_of : List Around → State → State
close_group_of [] x = with_last Other x
close_group_of (a ∷ l) x = leave a (state l x.base x.here x.angles Other)

abbrev pub close_group : State → State
close_group x = close_group_of x.around x

-- an identifier of this class
abbrev pub ident : Class → State → State
ident (Word n) x = word n x
ident Raw x = name x
ident Ident x = name x
ident (Mark j c) x = name x
ident (Literal k) x = name x
ident (Open b) x = name x
ident End x = name x

-- after a token of this class
abbrev pub step : Class → State → State
step (Word n) x = word n x
step Raw x = name x
step Ident x = name x
step (Mark j c) x = mark j c x
step (Literal k) x = with_last Value x
step (Open b) x = open_group b x
step End x = close_group x

-- ---- a list

-- a token as it is seen here: its class, and where it begins; the end of a group begins nowhere
abbrev pub Token : Type 0
Token = Class × Span

abbrev pub token : Item → Token
token (an_ident i) = (text_class i.text, i.span)
token (a_punct p) = (Mark p.spacing p.ch, p.span)
token (a_literal l) = (Literal l.kind, l.span)
token (a_beginning b s) = (Open b, s.opening)
token an_end = (End, none)

abbrev pub tree_tokens : TokenTree → List Token
tree_tokens t = map token (tree_items t)

-- of trees, in order
abbrev pub tokens : List TokenTree → List Token
tokens l = map token (row_items l)

-- the greatest level, from a state on
abbrev pub greatest : List Token → State → ℕ → ℕ
greatest [] x most = most
greatest (t ∷ l) x most = greatest l (step t.0 x) (max most (step t.0 x).here)

-- how deep a list nests
unfoldable pub nesting : TokenStream → ℕ
nesting l = greatest (tokens l) start 0

-- the place of the first token whose level is above a limit
abbrev pub passes : ℕ → List Token → State → Option Span
passes limit [] x = None
passes limit (t ∷ l) x = if nat_lt limit (step t.0 x).here then Some t.1 else passes limit l (step t.0 x)

unfoldable pub too_deep : ℕ → TokenStream → Option Span
too_deep limit l = passes limit (tokens l) start

-- the refusal at a place
abbrev pub refused_at : Option Span → Refusal → Type 0
refused_at None e = ⊥
refused_at (Some s) e = e ≡ named NestedTooDeep s

abbrev pub Checked : Option Span → Result (Unit {0}) Refusal → Type 0
Checked p r = MatchResult r (λ _. p ≡ None) (λ e. (e ≡ out_of_memory) ⊎ refused_at p e)

-- ---- a list that is walked

-- the ends of open groups, and what follows each
abbrev pub pending : List (List TokenTree) → List Token
pending [] = []
pending (r ∷ l) = (End, none) ∷ (tokens r ++ pending l)

abbrev pub layer_token : o.TokenTree-F TokenTree Group → Token
layer_token (o.Ident i) = (text_class i.text, i.span)
layer_token (o.Punct p) = (Mark p.spacing p.ch, p.span)
layer_token (o.Literal l) = (Literal l.kind, l.span)
layer_token (o.Group g) = (Open (delimiter_of g), (span_of g).opening)

-- how a tree begins
abbrev pub front : TokenTree → Token
front t = layer_token (out-TokenTree t)

abbrev pub token_of : Step → Token
token_of (steps.Tree t) = front t.now
token_of steps.End = (End, none)
