-- A closure that keeps an invariant, under which it may be called at a property and leaves the stream further on, is careful.
use Rattle.std.specs.declared.alloc.Global.{Global}
use denote.Ref.{MutBor}
use Rattle.token_core.specs.Reads.{Follows}
use Rattle.syn_attr.specs.meta.Turns.{ParseNestedMeta, Answer, Step, Pre, HasSegment, Reached, handed_in, called, Careful}

module _ {F : Type 0} {pre : Pre F} {step : Step F} (holds : F → Type 0)
    (callable : (g : F) → holds g → (alloc : Global) (meta : MutBor ParseNestedMeta) → HasSegment meta → pre g alloc meta)
    (follows : (g : F) → holds g → (alloc : Global) (old : MutBor ParseNestedMeta) → HasSegment old → (answer : Answer) (new : MutBor ParseNestedMeta) (h : F) → step g alloc old answer new h → Follows old.now.input new.now.input × holds h) where
  kept : (f g : F) → holds f → Reached step f g → holds g
  kept f g i handed_in = i
  kept f g i (called {g = k} {alloc = alloc} {old = old} {new = new} {answer = answer} r s c) = (follows k (kept f k i r) alloc old s answer new g c).1

  pub careful : (f : F) → holds f → Careful pre step f
  careful f i = record {
    callable = λ g r alloc meta s. callable g (kept f g i r) alloc meta s;
    follows = λ g r alloc old s answer new h c. (follows g (kept f g i r) alloc old s answer new h c).0;
  }
