-- One thing after another on the front of a list.
use Rattle.std.specs.Prelude.{◌≡◌, ◌⊎◌, Bool, true, ◌++◌}
use Rattle.token_core.specs.Fronted.{Fronting, Fronts, given, by_part, printed_on}
use Rattle.token_core.specs.Reads.{Reader, ◌>>=◌, pure}
use Rattle.token_core.specs.Refusal.{Refusal}
use Rattle.token_core.specs.Stream.{Stream}
use Rattle.token_core.specs.Toks.{Toks, done}

abbrev pub read_both : {A B : Type 0} → Reader A → Reader B → Reader (A × B)
read_both p q = do
  a ← p
  b ← q
  pure (a, b)

module _ {A B : Type 0} (F : Fronting A) (G : Fronting B) where
  -- the first up to where the second begins
  abbrev pub BothBegin : Bool → A × B → Toks → Toks → Type 0
  BothBegin clear x l k = (m : Toks) × F.begins clear x.0 l m × G.begins clear x.1 m k

  abbrev pub both : Fronting (A × B)
  both = record {
    grammar = record {
      spells = λ clear x l. BothBegin clear x l done;
      normal = λ x. (F.grammar.normal x.0, G.grammar.normal x.1);
      print = λ x. F.grammar.print x.0 ++ G.grammar.print x.1;
      plain = λ x. F.grammar.plain x.0 × G.grammar.plain x.1;
      reader = read_both F.grammar.reader G.grammar.reader;
    };
    begins = BothBegin;
    follows = G.follows;
    plain = λ x k. F.plain x.0 (printed_on G x.1 k) × G.plain x.1 k;
  }

  -- the second may follow the first
  abbrev pub Fit : Type 0
  Fit = (clear : Bool) (b : B) (l k : Toks) → G.begins clear b l k → G.follows k ≡ true → F.follows l ≡ true

-- what is promised of both, by what is said of each
abbrev pub pairs : {A B : Type 0} → Fronts A → Fronts B → Fronts (A × B)
pairs f g = by_part f (λ F. by_part g (λ G. given (Fit F G) (both F G)))

-- ---- the relations of both reads

module _ {A B : Type 0} (first : Stream → A → Stream → Type 0) where
  pub record ReadBoth (second : Stream → B → Stream → Type 0) (s : Stream) (x : A × B) (t : Stream) : Type 0 where
    pub between : Stream
    pub begins : first s x.0 between
    pub ends : second between x.1 t

module _ {A : Type 0} (first : Stream → A → Stream → Type 0) (no_first no_second : Stream → Refusal → Type 0) (s : Stream) (e : Refusal) where
  pub record RefusedSecond : Type 0 where
    pub value : A
    pub between : Stream
    pub begins : first s value between
    pub refused : no_second between e

  abbrev pub RefusedBoth : Type 0
  RefusedBoth = no_first s e ⊎ RefusedSecond
