-- Two values with a comma between them: which lists they spell, what they print, how they are read, and what that read promises on the front of a list.
use Rattle.std.specs.Prelude.{◌≡◌, Bool, true, ◌++◌, Result, Ok, Err}
use Rattle.token_core.specs.Fronted.{Fronting, Fronts, unsaid, said, given, Fronted, printed_on}
use Rattle.token_core.specs.Headline.{Grammar}
use Rattle.token_core.specs.Prints as p
use Rattle.token_core.specs.Reads.{Reader, ◌>>=◌, pure}
use Rattle.token_core.specs.Refusal.{Refusal}
use Rattle.token_core.specs.Spellings.{IsMark}
use Rattle.token_core.specs.Stream.{Stream}
use Rattle.token_core.specs.Tokens as token
use Rattle.token_core.specs.Toks.{Toks, done}
use Rattle.token_core.specs.Trees.{row}
use Rattle.syn_laws.specs.declared.pair.Pair.{Pair}

abbrev pub pair_of : {T : Type 0} → T → token.Comma → T → Pair T
pair_of a c b = record { first = a; comma = c; second = b }

unfoldable pub read : {T : Type 0} → Reader T → Reader (Pair T)
read value = do
  a ← value
  c ← token.comma
  b ← value
  pure (pair_of a c b)

-- the read is this function
pub record IsReadBy {T : Type 0} (reads : Stream → T → Stream → Type 0) (refuses : Stream → Refusal → Type 0) (f : Reader T) : Type 0 where
  pub answers : (s t : Stream) (a : T) → reads s a t → f s ≡ Ok (a, t)
  pub stops : (s : Stream) (e : Refusal) → refuses s e → f s ≡ Err e

module _ {T : Type 0} (F : Fronting T) (clear : Bool) where
  -- the first up to the comma, the comma, and the second up to what follows
  pub record Begins (x : Pair T) (l k : Toks) : Type 0 where
    pub at : Toks
    pub past : Toks
    pub first : F.begins clear x.first l at
    pub comma : IsMark clear x.comma at past
    pub second : F.begins clear x.second past k

module _ {T : Type 0} (F : Fronting T) where
  abbrev pub grammar : Grammar (Pair T)
  grammar = record {
    spells = λ clear x l. Begins F clear x l done;
    normal = λ x. pair_of (F.grammar.normal x.first) x.comma (F.grammar.normal x.second);
    print = λ x. F.grammar.print x.first ++ p.mark x.comma ++ F.grammar.print x.second;
    plain = λ x. F.grammar.plain x.first × F.grammar.plain x.second;
    reader = read F.grammar.reader;
  }

  -- what may follow the second may follow the pair
  abbrev pub fronting : Fronting (Pair T)
  fronting = record { grammar = grammar; begins = Begins F; follows = F.follows; plain = λ x k. F.plain x.first (row (p.mark x.comma) (printed_on F x.second k)) × F.plain x.second k }

  -- a comma may follow a value
  abbrev pub BeforeComma : Type 0
  BeforeComma = (k : Toks) → token.sees_comma k ≡ true → F.follows k ≡ true

-- what a read of a pair promises, by what the type says of fronts
abbrev pub KeepsPair : {T : Type 0} → Fronts T → Stream → Result (Pair T) Refusal → Stream → Type 0
KeepsPair unsaid s r t = Unit {0}
KeepsPair (said F) s r t = BeforeComma F → Fronted (fronting F) s r t
KeepsPair (given P F) s r t = P → BeforeComma F → Fronted (fronting F) s r t
