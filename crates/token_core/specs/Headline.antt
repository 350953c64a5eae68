-- What a whole read of a tree promises.
use Rattle.std.specs.Prelude.{◌≡◌, Bool, true, false, Option, Some, None, Result, Ok, Err}
use Rattle.token_core.specs.declared.span.Span.{Span}
use Rattle.token_core.specs.Toks.{Toks, done}
use Rattle.token_core.specs.Trees.{row}
use Rattle.token_core.specs.Rebuilt.{Visible}
use Rattle.token_core.specs.Prints.{Print}
use Rattle.token_core.specs.Refusal.{Refusal}
use Rattle.token_core.specs.Spans.{none}
use Rattle.token_core.specs.Stream.{Stream, started}
use Rattle.token_core.specs.Reads.{Reader, Outcome, Keeps, leaves, left_over}

-- A grammar: which lists an admitted tree spells, clearly or not; the normal form and the print of a tree;
-- which trees have clear verbatim parts; and the read of the category, a function of the stream.
pub record Grammar (A : Type 0) : Type 1 where
  pub spells : Bool → A → Toks → Type 0
  pub normal : A → A
  pub print : A → Print
  pub plain : A → Type 0
  pub reader : Reader A

-- a whole read: the read answers and leaves nothing over
abbrev pub ended : {A : Type 0} → A → Stream → Option Span → Result A Refusal
ended a s None = Ok a
ended a s (Some at) = Err (left_over at)

abbrev pub end_of : {A : Type 0} → Outcome A → Result A Refusal
end_of (Ok p) = ended p.0 p.1 (leaves p.1)
end_of (Err e) = Err e

abbrev pub whole : {A : Type 0} → Reader A → Toks → Result A Refusal
whole reader l = end_of (reader (started none l))

abbrev pub printed : {A : Type 0} → Grammar A → A → Toks
printed G a = row (G.print a) done

-- The print is a clear spelling of the normal form, which is its own and has the same print; and the same read answers it.
pub record Reprinted {A : Type 0} (G : Grammar A) (a : A) : Type 0 where
  pub spells : G.spells true (G.normal a) (printed G a)
  pub visible : Visible (printed G a)
  pub stays : G.normal (G.normal a) ≡ G.normal a
  pub same : G.print (G.normal a) ≡ G.print a
  pub again : whole G.reader (printed G a) ≡ Ok (G.normal a)

-- An answer spells the list, every tree that spells it clearly is the answer, and its print is read again.
pub record Answered {A : Type 0} (G : Grammar A) (l : Toks) (a : A) : Type 0 where
  pub sound : G.spells false a l
  pub unique : (b : A) → G.spells true b l → b ≡ a
  pub reprint : G.plain a → Reprinted G a

-- A list without invisible groups is answered so; and where it is refused, no tree spells it clearly.
abbrev pub Headline : {A : Type 0} → Grammar A → Toks → Option A → Type 0
Headline G l (Some a) = Visible l → Answered G l a
Headline G l None = Visible l → (b : _) → G.spells true b l → ⊥

-- the same, of a read of a stream: a whole read that begins here keeps it
abbrev pub Heads : {A : Type 0} → Grammar A → Stream → Result A Refusal → Stream → Type 0
Heads G = Keeps (Headline G)

-- ---- the laws of a grammar and its read, from which it follows

pub record Lawful {A : Type 0} (G : Grammar A) : Type 0 where
  pub sound : (s t : Stream) (a : A) → s.left ≡ None → Visible s.rest → G.reader s ≡ Ok (a, t) → leaves t ≡ None → G.spells false a s.rest
  pub complete : (s : Stream) (a : A) → s.left ≡ None → Visible s.rest → G.spells true a s.rest → (t : Stream) × (G.reader s ≡ Ok (a, t)) × (leaves t ≡ None)
  pub spells : (a : A) (l : Toks) → G.spells false a l → Visible l → G.plain a → G.spells true (G.normal a) (printed G a)
  pub visible : (a : A) (l : Toks) → G.spells false a l → Visible l → G.plain a → Visible (printed G a)
  pub stays : (a : A) (l : Toks) → G.spells false a l → G.plain a → G.normal (G.normal a) ≡ G.normal a
  pub same : (a : A) (l : Toks) → G.spells false a l → G.plain a → G.print (G.normal a) ≡ G.print a
