-- The sample's trees by their parts.
use Rattle.std.specs.Prelude.{◌≡◌, ℕ, suc, ◌+◌, Bool, true, false, List, [], ◌∷◌, Option, Some, None, slice_get, refl}
use Rattle.std.proofs.Common.{ap}
use Rattle.token_core.specs.declared.span.DelimSpan.{DelimSpan}
use Rattle.token_core.specs.declared.token.Paren.{Paren}
use Rattle.token_core.specs.declared.lit.Lit.{Lit}
use Rattle.token_core.specs.declared.tree.Ident.{Ident}
use Rattle.token_core.specs.Toks.{Toks, done, word, mark, lit, group, enter, leave}
use Rattle.token_core.specs.Groups.{paren}
use Rattle.token_core.specs.Loops.{Many}
use Rattle.syn_sample.specs.declared.sample.Atom.{Atom, out-Atom}
use Rattle.syn_sample.specs.declared.sample.Atom.TheOpen as o
use Rattle.syn_sample.specs.declared.sample.Atom.TheVariants as a
use Rattle.syn_sample.specs.declared.sample.ModPath.{ModPath}
pub use Rattle.token_core.specs.Tokens.{Plus, Semi}
use Rattle.token_core.specs.Tokens as token

-- `::`, beside `+` and `;`
abbrev pub Sep : Type 0
Sep = token.PathSep

abbrev pub path_of : Option Sep → Many Ident Sep → ModPath
path_of o v = record { leading_colon = o; segments = v }

-- atoms with their `+`
abbrev pub Atoms : Type 0
Atoms = Many Atom Plus

-- atoms in parentheses
abbrev pub group_of : DelimSpan → Atoms → Atom
group_of s v = a.Group (paren s) v

-- ---- a literal

abbrev pub layer_is_lit : o.Atom-F Atom → Bool
layer_is_lit (o.Lit x) = true
layer_is_lit (o.Path p) = false
layer_is_lit (o.Group t v) = false

abbrev pub is_lit : Atom → Bool
is_lit x = layer_is_lit (out-Atom x)

pub lit-is_lit : (x : Lit) → is_lit (a.Lit x) ≡ true
lit-is_lit x = ap layer_is_lit (a.outs-Lit x)

pub path-is_lit : (p : ModPath) → is_lit (a.Path p) ≡ false
path-is_lit p = ap layer_is_lit (a.outs-Path p)

pub group-is_lit : (t : Paren) (v : Atoms) → is_lit (a.Group t v) ≡ false
group-is_lit t v = ap layer_is_lit (a.outs-Group t v)

pub ruleset kinds = (lit-is_lit, path-is_lit, group-is_lit)

-- no `+`, and a literal
abbrev pub lone : List Atom → Bool
lone [] = false
lone (x ∷ []) = is_lit x
lone (x ∷ y ∷ l) = false

-- the same, of the first and the second
abbrev pub lone_first : Option Atom → Option Atom → Bool
lone_first None o = false
lone_first (Some x) None = is_lit x
lone_first (Some x) (Some y) = false

pub lone-first : (l : List Atom) → lone l ≡ lone_first (slice_get l 0) (slice_get l 1)
lone-first [] = refl
lone-first (x ∷ []) = refl
lone-first (x ∷ y ∷ l) = refl

pub ruleset firsts = (lone-first)

-- ---- tokens

-- how many groups there are, at any depth
abbrev pub groups : Toks → ℕ
groups done = 0
groups (word i k) = groups k
groups (mark p k) = groups k
groups (lit x k) = groups k
groups (group d s c k) = suc (groups c + groups k)
groups (enter s k) = groups k
groups (leave k) = groups k
