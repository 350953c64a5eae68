-- What a run into a room says.
use Rattle.std.specs.Prelude.{◌≡◌, ◌↔◌, ◌+◌, ◌≤◌, ℕ, Some, ◌++◌, length}
use Rattle.token_core.specs.Toks.{Bytes}
use Rattle.syn_readers.specs.Readers.{Category}
use Rattle.syn_run.specs.declared.readers.Reader.{Reader}
use Rattle.syn_run.specs.Table.{named}
use Rattle.syn_run.specs.Run.{Answer, Answers, shown, refused, unknown, line}

abbrev pub IsShown : Answer → Type 0
IsShown (shown text) = Unit {0}
IsShown (refused text) = ⊥
IsShown unknown = ⊥

-- A run of a name on bytes into room for n bytes, which held some and holds others: it says one thing, which is right, and it ends with 0 exactly where that
-- is the text of a tree and the line fits. The line is then written.
pub record RanWithin {T : Reader → Type 0} (of : (r : Reader) → Category (T r)) (n : ℕ) (name input old new : Bytes) (untouched : Type 0) (result : ℕ) : Type 0 where
  pub answer : Answer
  pub says : Answers of (named name) (Some input) ⊥ untouched answer
  pub zero : result ≡ 0 ↔ (IsShown answer × (length old + length (line answer) ≤ n))
  pub written : result ≡ 0 → new ≡ old ++ line answer
