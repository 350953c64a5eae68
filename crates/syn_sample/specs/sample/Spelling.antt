-- Which lists the sample's trees spell.
use Rattle.std.specs.Prelude.{◌≡◌, ℕ, zero, suc, true, false, Some, None}
use Rattle.token_core.specs.declared.span.DelimSpan.{DelimSpan}
use Rattle.token_core.specs.declared.tree.Delimiter.{Delimiter}
use Rattle.token_core.specs.declared.tree.Delimiter.TheVariants as d
use Rattle.token_core.specs.declared.tree.Ident.{Ident}
use Rattle.token_core.specs.declared.mark.Mark.{Mark}
use Rattle.token_core.specs.declared.lit.Lit.{Lit}
use Rattle.token_core.specs.Toks.{Toks, done, word, mark, lit, group, enter, leave}
use Rattle.token_core.specs.Loops.{Many}
use Rattle.token_core.specs.Listed.{AreListed, Anywhere, Nowhere}
use Rattle.token_core.specs.Spellings.{IsMark, IsLit}
use Rattle.syn_path.specs.path.Spelling.{is_mod_word}
use Rattle.syn_path.specs.declared.supplied.Place.{Place}
use Rattle.syn_path.specs.declared.supplied.Place.TheVariants.{ArrayLen, Value, Guard, Block}
use Rattle.syn_sample.specs.declared.sample.Sample.{Sample}
use Rattle.syn_sample.specs.declared.sample.Sample.TheVariants.{Sum, Statements}
use Rattle.syn_sample.specs.declared.sample.Atom.{Atom}
use Rattle.syn_sample.specs.declared.sample.Atom.TheVariants as a
use Rattle.syn_sample.specs.declared.sample.ModPath.{ModPath}
use Rattle.syn_sample.specs.sample.Parts.{Sep, Semi, Atoms, path_of, group_of, lone}

-- ---- the tokens of a list, as they stand in its invisible groups

-- no token is an invisible group: such a group is flat between its bounds
abbrev pub seen_delimiter : Delimiter → Delimiter
seen_delimiter d.Parenthesis = d.Parenthesis
seen_delimiter d.Brace = d.Brace
seen_delimiter d.Bracket = d.Bracket
seen_delimiter d.None = d.Brace

abbrev pub shown : Toks → Toks
shown done = done
shown (word i k) = word i (shown k)
shown (mark p k) = mark p (shown k)
shown (lit x k) = lit x (shown k)
shown (group b s c k) = group (seen_delimiter b) s (shown c) (shown k)
shown (enter s k) = shown k
shown (leave k) = shown k

-- ---- the first tokens spell it, and then come the second

pub data IsSegment : Ident → Toks → Toks → Type 0 where
  a_segment : {i : Ident} {r : Toks} → is_mod_word i.text ≡ true → IsSegment i (word i r) r

-- values joined by a mark, at least one; the first is as the others
abbrev pub AreJoined : {A : Type 0} → (n k : ℕ) → (A → Toks → Toks → Type 0) → Many A (Mark n k) → Toks → Toks → Type 0
AreJoined n k V v l r = AreListed (λ first. V) (IsMark false) Nowhere false v.0 v.1 l r

pub data IsPath : ModPath → Toks → Toks → Type 0 where
  a_path : {v : Many Ident Sep} {l r : Toks} → AreJoined 1 2 IsSegment v l r → IsPath (path_of None v) l r
  a_global_path : {m : Sep} {v : Many Ident Sep} {l k r : Toks} → IsMark false m l k → AreJoined 1 2 IsSegment v k r → IsPath (path_of (Some m) v) l r

-- what spells the content of a group is given
module _ (Inside : Atoms → Toks → Type 0) where
  pub data IsAtom : Atom → Toks → Toks → Type 0 where
    an_atom_lit : {x : Lit} {l r : Toks} → IsLit x l r → IsAtom (a.Lit x) l r
    an_atom_path : {p : ModPath} {l r : Toks} → IsPath p l r → IsAtom (a.Path p) l r
    an_atom_group : {s : DelimSpan} {v : Atoms} {c r : Toks} → Inside v c → IsAtom (group_of s v) (group d.Parenthesis s c r) r

-- atoms joined by `+`, in less than n groups
abbrev pub AreAtoms : ℕ → Atoms → Toks → Toks → Type 0
AreAtoms zero v l r = ⊥
AreAtoms (suc n) v l r = AreJoined 20 1 (IsAtom (λ w c. AreAtoms n w c done)) v l r

-- in any number of groups
abbrev pub AreSummed : Atoms → Toks → Toks → Type 0
AreSummed v l r = (n : ℕ) × AreAtoms n v l r

-- sums, each ended by `;`, which the last may lack; there may be none
abbrev pub AreStatements : Many Atoms Semi → Toks → Toks → Type 0
AreStatements v l r = AreListed (λ first. AreSummed) (IsMark false) Anywhere true v.0 v.1 l r

-- ---- all of a list, by its place

abbrev pub IsSum : Sample → Toks → Type 0
IsSum (Sum v) l = AreSummed v l done
IsSum (Statements v) l = ⊥

-- no lone literal
abbrev pub IsValue : Sample → Toks → Type 0
IsValue (Sum v) l = AreSummed v l done × (lone v.0 ≡ false)
IsValue (Statements v) l = ⊥

abbrev pub IsBlock : Sample → Toks → Type 0
IsBlock (Sum v) l = ⊥
IsBlock (Statements v) l = AreStatements v l done

-- of a list without invisible groups
abbrev pub IsAt : Place → Sample → Toks → Type 0
IsAt ArrayLen = IsSum
IsAt Value = IsValue
IsAt Guard = IsSum
IsAt Block = IsBlock

abbrev pub spells : Place → Sample → Toks → Type 0
spells q x l = IsAt q x (shown l)
