-- Values and marks in turn, up to the end of a stream: which lists they spell, and what a read of them promises.
use Rattle.std.specs.Prelude.{◌≡◌, ◌<◌, Bool, true, false, List, [], ◌∷◌, map, Result, Ok, Err}
use Rattle.token_core.specs.Fronted.{Fronting, Fronts, given, by_part, KeepsFront, printed_on}
use Rattle.token_core.specs.Listed.{AreListed, Anywhere}
use Rattle.token_core.specs.Lists.{joined}
use Rattle.token_core.specs.Loops.{Many, size, terminated}
use Rattle.token_core.specs.Prints.{Print}
use Rattle.token_core.specs.Reads.{Follows, Parsed, is_done, is_end}
use Rattle.token_core.specs.Refusal.{Refusal}
use Rattle.token_core.specs.Stream.{Stream}
use Rattle.token_core.specs.Terminated.{Answers, Refused}
use Rattle.token_core.specs.Toks.{Toks, done}
use Rattle.token_core.specs.Trees.{row}

module _ {A P : Type 0} (F : Fronting A) (G : Fronting P) where
  -- values and marks that spell all of a list, from a first value on or after others
  abbrev pub Are : Bool → Bool → List A → List P → Toks → Type 0
  Are clear b xs ps l = AreListed (λ (_ : Bool). F.begins clear) (G.begins clear) Anywhere b xs ps l done

  abbrev pub each_normal : Many A P → Many A P
  each_normal v = (map F.grammar.normal v.0, map G.grammar.normal v.1)

  abbrev pub print_each : Many A P → Print
  print_each v = joined F.grammar.print G.grammar.print v.0 v.1

  -- each is plain before what is printed behind it
  abbrev pub each_plain : List A → List P → Toks → Type 0
  each_plain [] ps k = Unit {0}
  each_plain (x ∷ xs) [] k = F.plain x k
  each_plain (x ∷ xs) (p ∷ ps) k = F.plain x (printed_on G p (row (print_each (xs, ps)) k)) × G.plain p (row (print_each (xs, ps)) k) × each_plain xs ps k

  -- the list, which is all of a stream
  abbrev pub listing : Fronting (Many A P)
  listing = record {
    grammar = record {
      spells = λ clear v l. Are clear true v.0 v.1 l;
      normal = each_normal;
      print = print_each;
      plain = λ v. each_plain v.0 v.1 done;
      reader = terminated is_done F.grammar.reader G.grammar.reader;
    };
    begins = λ clear v l k. AreListed (λ (_ : Bool). F.begins clear) (G.begins clear) Anywhere true v.0 v.1 l k;
    follows = is_end;
    plain = λ v k. each_plain v.0 v.1 k;
  }

  -- A mark or the end may follow a value, anything may follow a mark, and both take tokens.
  pub record Joins : Type 0 where
    pub ends : F.follows done ≡ true
    pub before : (clear : Bool) (p : P) (l k : Toks) → G.begins clear p l k → F.follows l ≡ true
    pub after : (k : Toks) → G.follows k ≡ true
    pub starts : (x : A) (l k : Toks) → F.begins true x l k → is_done l ≡ false
    pub goes : (p : P) (l k : Toks) → G.begins true p l k → is_done l ≡ false
    pub takes : (p : P) (l k : Toks) → G.begins true p l k → size k < size l

-- what is promised of a list, by what its values and its marks say
abbrev pub listings : {A P : Type 0} → Fronts A → Fronts P → Fronts (Many A P)
listings f g = by_part f (λ F. by_part g (λ G. given (Joins F G) (listing F G)))

-- ---- what a read answered, further on, and what it says of fronts

pub record Read {A : Type 0} (reads : Stream → A → Stream → Type 0) (f : Fronts A) (s : Stream) (a : A) (t : Stream) : Type 0 where
  pub was : reads s a t
  pub within : Follows s t
  pub fronts : KeepsFront f s (Ok a) t

pub record Stopped {A : Type 0} (refuses : Stream → Refusal → Type 0) (f : Fronts A) (s : Stream) (e : Refusal) : Type 0 where
  pub was : refuses s e
  pub end : Stream
  pub fronts : KeepsFront f s (Err e) end

-- values and marks in turn, with what is said of each
module _ {A P : Type 0} (va : Stream → A → Stream → Type 0) (na : Stream → Refusal → Type 0) (vp : Stream → P → Stream → Type 0) (np : Stream → Refusal → Type 0) where
  abbrev pub ReadTurns : Fronts A → Fronts P → Stream → Result (Many A P) Refusal → Stream → Type 0
  ReadTurns f g s r t = Parsed (Answers (Read va f) (Read vp g) s) (λ e. Refused (Read va f) (Read vp g) (Stopped na f) (Stopped np g) e s) r t
