-- A visible group on the front of a list, and what is read whole in it.
use Rattle.std.specs.Prelude.{◌≡◌, ◌⊎◌, Bool, Ok, Err}
use Rattle.token_core.specs.declared.span.DelimSpan.{DelimSpan}
use Rattle.token_core.specs.declared.tree.Delimiter.{Delimiter}
use Rattle.token_core.specs.Fronted.{Fronting, Fronts, said, by_part}
use Rattle.token_core.specs.Prints as prints
use Rattle.token_core.specs.Reads.{in_group, open_group, finished}
use Rattle.token_core.specs.Refusal.{Refusal}
use Rattle.token_core.specs.Stream.{Stream}
use Rattle.token_core.specs.Toks.{Bytes, Toks, done, group}

module _ {A : Type 0} (d : Delimiter) (F : Fronting A) (clear : Bool) where
  -- a group of this delimiter, and a tree that all it holds spells
  pub data IsGrouped : DelimSpan × A → Toks → Toks → Type 0 where
    holds : {s : DelimSpan} {a : A} {c r : Toks} → F.begins clear a c done → IsGrouped (s, a) (group d s c r) r

module _ {A : Type 0} (d : Delimiter) (name : Bytes) where
  -- anything may follow the group, if the end may follow the tree
  abbrev pub grouped : Fronting A → Fronting (DelimSpan × A)
  grouped F = record {
    grammar = record {
      spells = λ clear x l. IsGrouped d F clear x l done;
      normal = λ x. (x.0, F.grammar.normal x.1);
      print = λ x. prints.group d (F.grammar.print x.1) x.0;
      plain = λ x. F.grammar.plain x.1;
      reader = in_group d name F.grammar.reader;
    };
    begins = IsGrouped d F;
    follows = λ k. F.follows done;
    plain = λ x k. F.plain x.1 done;
  }

  -- what is promised of a group, by what is said of what it holds
  abbrev pub groupings : Fronts A → Fronts (DelimSpan × A)
  groupings f = by_part f (λ F. said (grouped F))

  -- the group was opened, this was read in it, and then it was finished
  pub record ReadIn (reads : Stream → A → Stream → Type 0) (s : Stream) (x : DelimSpan × A) (t : Stream) : Type 0 where
    pub child : Stream
    pub after : Stream
    pub end : Stream
    pub opens : open_group d name s ≡ Ok ((x.0, child), after)
    pub was : reads child x.1 end
    pub ends : t ≡ finished end after

module _ (d : Delimiter) (name : Bytes) (refuses : Stream → Refusal → Type 0) (s : Stream) (e : Refusal) where
  -- the group was opened, and a read in it refused
  pub record RefusedIn : Type 0 where
    pub span : DelimSpan
    pub child : Stream
    pub after : Stream
    pub opens : open_group d name s ≡ Ok ((span, child), after)
    pub was : refuses child e

  -- that, or there is no such group
  abbrev pub NotIn : Type 0
  NotIn = (open_group d name s ≡ Err e) ⊎ RefusedIn
