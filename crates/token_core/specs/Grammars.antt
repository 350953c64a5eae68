-- The promises of the readers of tokens. A token is its own normal form, has no verbatim part, and is read whatever follows it.
use Rattle.std.specs.Prelude.{◌≡◌, ℕ, Bool, true, ◌==◌, Option, length}
use Rattle.token_core.specs.declared.tree.Ident.{Ident}
use Rattle.token_core.specs.declared.mark.Mark.{Mark}
use Rattle.token_core.specs.declared.word.Word.{Word}
use Rattle.token_core.specs.declared.lifetime.Lifetime.{Lifetime}
use Rattle.token_core.specs.declared.lit.Lit.{Lit}
use Rattle.token_core.specs.declared.lit.LitStr.{LitStr}
use Rattle.token_core.specs.declared.member.Index.{Index}
use Rattle.token_core.specs.declared.member.Member.{Member}
use Rattle.token_core.specs.declared.range.RangeLimits.{RangeLimits}
use Rattle.token_core.specs.Fronted.{Fronting}
use Rattle.token_core.specs.Headline.{Headline}
use Rattle.token_core.specs.Lifetimes as lifetimes
use Rattle.token_core.specs.Lits as lits
use Rattle.token_core.specs.Marks as marks
use Rattle.token_core.specs.Members as members
use Rattle.token_core.specs.Names as names
use Rattle.token_core.specs.Prints as prints
use Rattle.token_core.specs.Prints.{Print}
use Rattle.token_core.specs.Ranges as ranges
use Rattle.token_core.specs.Reads.{Reader}
use Rattle.token_core.specs.Spellings.{IsMark, IsWord, IsLifetime, IsLit, IsStr, IsIndex, IsMember, AreLimits, AreOldLimits}
use Rattle.token_core.specs.Toks.{Toks, done}

-- what is its own normal form, by what it spells
abbrev pub token : {A : Type 0} → (Bool → A → Toks → Toks → Type 0) → (A → Print) → Reader A → Fronting A
token Is print reader = record {
  grammar = record { spells = λ clear x l. Is clear x l done; normal = λ x. x; print = print; plain = λ x. Unit {0}; reader = reader };
  begins = Is;
  follows = λ l. true;
  plain = λ x k. Unit {0};
}

-- ---- marks: what is promised is promised of a mark of as many characters as its number says

abbrev pub is_named : ℕ → ℕ → Bool
is_named n k = length (marks.chars_of n) == k

abbrev pub mark : (n k : ℕ) → Fronting (Mark n k)
mark n k = record {
  grammar = (token (λ clear. IsMark clear) prints.mark (marks.read n k)).grammar;
  begins = λ clear. IsMark clear;
  follows = λ l. is_named n k;
  plain = λ x l. Unit {0};
}

abbrev pub whole_mark : (n k : ℕ) → Toks → Option (Mark n k) → Type 0
whole_mark n k l o = is_named n k ≡ true → Headline (mark n k).grammar l o

-- ---- words and others

abbrev pub word : (n : ℕ) → Fronting (Word n)
word n = token (λ clear. IsWord) prints.word (marks.read_named n)

abbrev pub ident : Fronting Ident
ident = token names.IsName prints.ident names.name

abbrev pub lifetime : Fronting Lifetime
lifetime = token (λ clear. IsLifetime) lifetimes.print lifetimes.read_lifetime

abbrev pub lit : Fronting Lit
lit = token (λ clear. IsLit) lits.print lits.read_lit

abbrev pub lit_str : Fronting LitStr
lit_str = token (λ clear. IsStr) lits.print_str lits.read_str

abbrev pub index : Fronting Index
index = token (λ clear. IsIndex) members.print_index members.read_index

abbrev pub member : Fronting Member
member = token (λ clear. IsMember) members.print members.read_member

abbrev pub limits : Fronting RangeLimits
limits = token (λ clear. AreLimits clear) ranges.print ranges.read

abbrev pub obsolete_limits : Fronting RangeLimits
obsolete_limits = token (λ clear. AreOldLimits clear) ranges.print ranges.read_obsolete
