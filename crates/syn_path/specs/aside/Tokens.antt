-- Tokens as parts of trees, without their spans.
use Rattle.std.specs.Prelude.{ℕ, List, map}
use Rattle.token_core.specs.declared.lifetime.Lifetime.{Lifetime}
use Rattle.token_core.specs.declared.lit.Lit.{Lit}
use Rattle.token_core.specs.declared.lit.Lit.TheVariants as v
use Rattle.token_core.specs.declared.lit.LitStr.{LitStr}
use Rattle.token_core.specs.declared.mark.Mark.{Mark}
use Rattle.token_core.specs.declared.member.Index.{Index}
use Rattle.token_core.specs.declared.member.Member.{Member}
use Rattle.token_core.specs.declared.member.Member.TheVariants as m
use Rattle.token_core.specs.declared.range.RangeLimits.{RangeLimits}
use Rattle.token_core.specs.declared.range.RangeLimits.TheVariants as limits
use Rattle.token_core.specs.declared.span.Span.{Span}
use Rattle.token_core.specs.declared.token.Brace.{Brace}
use Rattle.token_core.specs.declared.token.Bracket.{Bracket}
use Rattle.token_core.specs.declared.token.GroupToken.{GroupToken}
use Rattle.token_core.specs.declared.token.Paren.{Paren}
use Rattle.token_core.specs.declared.tree.Ident.{Ident}
use Rattle.token_core.specs.declared.tree.Literal.{Literal}
use Rattle.token_core.specs.declared.word.Word.{Word}
use Rattle.token_core.specs.Groups as groups
use Rattle.token_core.specs.Lifetimes as lifetimes
use Rattle.token_core.specs.Lits.{lit_bool, lit_str, negative}
use Rattle.token_core.specs.Loops.{Many}
use Rattle.token_core.specs.Marks.{word_of}
use Rattle.token_core.specs.Members as members
use Rattle.token_core.specs.Spans.{none, delim_span}
use Rattle.token_core.specs.Spellings.{mark_at}
use Rattle.token_core.specs.Trees as trees

abbrev pub ident : Ident → Ident
ident i = trees.ident i.text none

abbrev pub spans : List Span → List Span
spans = map (λ a. none)

abbrev pub mark : {n k : ℕ} → Mark n k → Mark n k
mark {n} {k} x = mark_at n k (spans x.spans)

abbrev pub word : {n : ℕ} → Word n → Word n
word {n} x = word_of n none

abbrev pub lifetime : Lifetime → Lifetime
lifetime x = lifetimes.lifetime none (ident x.ident)

abbrev pub literal : Literal → Literal
literal x = trees.literal x.kind x.text none

abbrev pub lit : Lit → Lit
lit (v.Literal x) = v.Literal (literal x)
lit (v.Bool x) = v.Bool (lit_bool x.value none)
lit (v.Negative x) = v.Negative (negative none (literal x.number))

abbrev pub str : LitStr → LitStr
str x = lit_str x.text none

abbrev pub index : Index → Index
index x = members.index x.index none

abbrev pub member : Member → Member
member (m.Named i) = m.Named (ident i)
member (m.Unnamed i) = m.Unnamed (index i)

abbrev pub limits_of : RangeLimits → RangeLimits
limits_of (limits.HalfOpen d) = limits.HalfOpen (mark d)
limits_of (limits.Closed d) = limits.Closed (mark d)

abbrev pub paren : Paren → Paren
paren x = groups.paren (delim_span none none)

abbrev pub brace : Brace → Brace
brace x = groups.brace (delim_span none none)

abbrev pub bracket : Bracket → Bracket
bracket x = groups.bracket (delim_span none none)

abbrev pub group_token : GroupToken → GroupToken
group_token x = groups.group_token (delim_span none none)

-- values with marks between them
abbrev pub many : {A P : Type 0} → (A → A) → (P → P) → Many A P → Many A P
many f g v = (map f v.0, map g v.1)
