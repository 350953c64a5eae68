-- What a read promises on the front of a list, where it is known what may follow.
use Rattle.std.specs.Prelude.{◌≡◌, ◌≢◌, Bool, true, false, None, Result, Ok, Err}
use Rattle.token_core.specs.declared.error.ErrorKind.TheVariants.{OutOfMemory}
use Rattle.token_core.specs.Headline.{Grammar}
use Rattle.token_core.specs.Rebuilt.{Visible}
use Rattle.token_core.specs.Refusal.{Refusal}
use Rattle.token_core.specs.Stream.{Stream}
use Rattle.token_core.specs.Toks.{Toks}
use Rattle.token_core.specs.Trees.{row}

-- A grammar on the front of a list: which lists its admitted trees spell up to what follows, clearly or not, and what may follow; and which trees have clear verbatim parts, and end so that this may follow them.
pub record Fronting (A : Type 0) : Type 1 where
  pub grammar : Grammar A
  pub begins : Bool → A → Toks → Toks → Type 0
  pub follows : Toks → Bool
  pub plain : A → Toks → Type 0

-- a print, before this
abbrev pub printed_on : {A : Type 0} → Fronting A → A → Toks → Toks
printed_on F a k = row (F.grammar.print a) k

-- a read that answers and stands there, with no tree left over in a group that was finished
abbrev pub ReadTo : {A : Type 0} → Fronting A → A → Stream → Toks → Type 0
ReadTo F a s k = (t : Stream) × (F.grammar.reader s ≡ Ok (a, t)) × (t.rest ≡ k) × (t.left ≡ None)

-- Before what may follow, the print is a clear spelling of the normal form, which is its own and has the same print; and where a stream begins with it, the same read answers the normal form and stands after it.
pub record FrontAgain {A : Type 0} (F : Fronting A) (a : A) (k : Toks) : Type 0 where
  pub spells : F.begins true (F.grammar.normal a) (printed_on F a k) k
  pub visible : Visible (printed_on F a k)
  pub stays : F.grammar.normal (F.grammar.normal a) ≡ F.grammar.normal a
  pub same : F.grammar.print (F.grammar.normal a) ≡ F.grammar.print a
  pub again : (s : Stream) → s.left ≡ None → s.rest ≡ printed_on F a k → ReadTo F (F.grammar.normal a) s k

-- Before what may follow, an answer spells what was taken, and its print is read again. Each tree that spells a front clearly, before what may follow, is the answer.
pub record Begun {A : Type 0} (F : Fronting A) (s t : Stream) (a : A) : Type 0 where
  pub visible : Visible t.rest
  pub sound : F.follows t.rest ≡ true → F.begins false a s.rest t.rest
  pub unique : (b : A) (k : Toks) → F.begins true b s.rest k → F.follows k ≡ true → (b ≡ a) × (t.rest ≡ k)
  pub reprint : F.follows t.rest ≡ true → (k : Toks) → F.plain a k → Visible k → F.follows k ≡ true → FrontAgain F a k

-- What a read of a list without invisible groups promises, where nothing was left over before: its answer is so, if it left no tree over in a group; if it left one, or was refused, no tree spells a front clearly before what may follow.
abbrev pub Fronted : {A : Type 0} → Fronting A → Stream → Result A Refusal → Stream → Type 0
Fronted F s (Ok a) t = s.left ≡ None → Visible s.rest → (t.left ≡ None → Begun F s t a) × ((b : _) (k : Toks) → F.begins true b s.rest k → F.follows k ≡ true → t.left ≡ None)
Fronted F s (Err e) t = e.kind ≢ OutOfMemory → s.left ≡ None → Visible s.rest → (b : _) (k : Toks) → F.begins true b s.rest k → F.follows k ≡ true → ⊥

-- What a type says of fronts: nothing, or what its grammar promises, perhaps where something holds of its parts.
pub data Fronts (A : Type 0) : Type 1 where
  unsaid : Fronts A
  said : Fronting A → Fronts A
  given : Type 0 → Fronting A → Fronts A

abbrev pub KeepsFront : {A : Type 0} → Fronts A → Stream → Result A Refusal → Stream → Type 0
KeepsFront unsaid s r t = Unit {0}
KeepsFront (said F) s r t = Fronted F s r t
KeepsFront (given P F) s r t = P → Fronted F s r t

-- what is said by what a part says
abbrev pub also : {A : Type 0} → Type 0 → Fronts A → Fronts A
also P unsaid = unsaid
also P (said F) = given P F
also P (given Q F) = given (P × Q) F

abbrev pub by_part : {A B : Type 0} → Fronts A → (Fronting A → Fronts B) → Fronts B
by_part unsaid f = unsaid
by_part (said F) f = f F
by_part (given P F) f = also P (f F)

-- ---- the laws of a grammar and its read on fronts, from which it follows

pub record FrontLaws {A : Type 0} (F : Fronting A) : Type 0 where
  pub sound : (s t : Stream) (a : A) → s.left ≡ None → Visible s.rest → F.grammar.reader s ≡ Ok (a, t) → t.left ≡ None → Visible t.rest × (F.follows t.rest ≡ true → F.begins false a s.rest t.rest)
  pub complete : (s : Stream) (a : A) (k : Toks) → s.left ≡ None → Visible s.rest → F.begins true a s.rest k → F.follows k ≡ true → ReadTo F a s k
  pub spells : (a : A) (l r k : Toks) → F.begins false a l r → F.plain a k → F.follows k ≡ true → F.begins true (F.grammar.normal a) (printed_on F a k) k
  pub visible : (a : A) (l r k : Toks) → F.begins false a l r → Visible l → F.plain a k → Visible k → F.follows k ≡ true → Visible (printed_on F a k)
  pub stays : (a : A) (l r k : Toks) → F.begins false a l r → F.plain a k → F.grammar.normal (F.grammar.normal a) ≡ F.grammar.normal a
  pub same : (a : A) (l r k : Toks) → F.begins false a l r → F.plain a k → F.grammar.print (F.grammar.normal a) ≡ F.grammar.print a
