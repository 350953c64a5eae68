-- Each whole read of a pattern keeps its promise, where a supplied subtree meets its laws.
use Rattle.std.proofs.Common.{◌≡◌, Some, None, Ok, Err}
use Rattle.token_core.specs.Toks.{Toks}
use Rattle.token_core.specs.Refusal.{Refusal}
use Rattle.token_core.specs.Stream.{Stream}
use Rattle.token_core.specs.Reads.{leaves}
use Rattle.token_core.specs.declared.span.Span.{Span}
use Rattle.syn_path.specs.Traits.{Subtree}
use Rattle.syn_path.specs.Supplied.{SameOutcome, UsesUp, IsApart, Reprints as Reprinted}
use Rattle.syn_pat.specs.pat.Promises as promises
use Rattle.syn_pat.proofs.pat_laws.GivenLaws.{pat_lawful, guarded_lawful, typed_lawful}
use Rattle.syn_path.specs.declared.supplied.Place.{Place}
use Rattle.syn_path.specs.declared.supplied.Place.TheVariants.{Value}
use Rattle.syn_readers.proofs.Whole.{lawful-keeps, lawful-refuses}
use Rattle.syn_readers.specs.Readers.{whole_in}
use Rattle.syn_run.specs.declared.readers.PatternReader.{PatternReader}
use Rattle.syn_run.specs.declared.readers.PatternReader.TheVariants.{In, Guarded, Typed}
use Rattle.syn_run.specs.Readers.{PatternsTree, patterns_category}

module _ {X : Type 0} (sub : Subtree X)
    (steady : (p : Place) (s t : Stream) → s.rest ≡ t.rest → SameOutcome (sub.reads p s) (sub.reads p t))
    (sound : (p : Place) (s t : Stream) (x : X) → sub.reads p s ≡ Ok (x, t) → leaves t ≡ None → sub.spells p x s.rest)
    (complete : (p : Place) (s : Stream) (x : X) → sub.spells p x s.rest → (t : Stream) × (sub.reads p s ≡ Ok (x, t)) × UsesUp s t)
    (reprint : (p : Place) (x : X) (l : Toks) → sub.spells p x l → Reprinted (sub.spells p) (sub.normal p) (sub.prints p) x l)
    (apart : (x : X) (l : Toks) → sub.spells Value x l → IsApart l) where
  pub pattern-keeps : (q : PatternReader) (scope : Span) (l : Toks) (a : PatternsTree X q) → whole_in (patterns_category sub q).reader scope l ≡ Ok a → (patterns_category sub q).promise l (Some a)
  pattern-keeps (In place) = lawful-keeps (promises.pat sub place) (pat_lawful sub steady sound complete reprint apart place)
  pattern-keeps Guarded = lawful-keeps (promises.guarded sub) (guarded_lawful sub steady sound complete reprint apart)
  pattern-keeps Typed = lawful-keeps (promises.typed sub) (typed_lawful sub steady sound complete reprint apart)

  pub pattern-refuses : (q : PatternReader) (scope : Span) (l : Toks) (e : Refusal) → whole_in (patterns_category sub q).reader scope l ≡ Err e → (patterns_category sub q).promise l None
  pattern-refuses (In place) = lawful-refuses (promises.pat sub place) (pat_lawful sub steady sound complete reprint apart place)
  pattern-refuses Guarded = lawful-refuses (promises.guarded sub) (guarded_lawful sub steady sound complete reprint apart)
  pattern-refuses Typed = lawful-refuses (promises.typed sub) (typed_lawful sub steady sound complete reprint apart)
