-- What may be there, on the front of a list: it is read where a test sees it.
use Rattle.std.specs.Prelude.{◌≡◌, ◌&&◌, Bool, true, false, not, Option, Some, None, option_map}
use Rattle.token_core.specs.Fronted.{Fronting, Fronts, given, by_part}
use Rattle.token_core.specs.Prints as prints
use Rattle.token_core.specs.Reads.{optional}
use Rattle.token_core.specs.Toks.{Toks, done}

module _ {A : Type 0} (sees : Toks → Bool) (F : Fronting A) where
  -- nothing, where the test doesn't see it, or a tree, where it does
  pub data IsOptional (clear : Bool) : Option A → Toks → Toks → Type 0 where
    absent : {r : Toks} → sees r ≡ false → IsOptional clear None r r
    present : {a : A} {l r : Toks} → F.begins clear a l r → sees l ≡ true → IsOptional clear (Some a) l r

  abbrev pub optional_plain : Option A → Toks → Type 0
  optional_plain None k = Unit {0}
  optional_plain (Some a) k = F.plain a k

  -- what may follow the tree, and isn't seen as one more
  abbrev pub option : Fronting (Option A)
  option = record {
    grammar = record {
      spells = λ clear x l. IsOptional clear x l done;
      normal = option_map F.grammar.normal;
      print = prints.optional F.grammar.print;
      plain = λ x. optional_plain x done;
      reader = optional sees F.grammar.reader;
    };
    begins = IsOptional;
    follows = λ k. F.follows k && not (sees k);
    plain = optional_plain;
  }

  -- what is spelt clearly is seen
  abbrev pub Seen : Type 0
  Seen = (a : A) (l k : Toks) → F.begins true a l k → sees l ≡ true

-- what is promised of it, by what is said of the tree
abbrev pub options : {A : Type 0} → (Toks → Bool) → Fronts A → Fronts (Option A)
options sees f = by_part f (λ F. given (Seen sees F) (option sees F))
