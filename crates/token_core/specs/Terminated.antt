-- Values and marks in turn, up to the end of the stream, by the relations of their reads. Each turn of a value and a mark leaves the
-- stream at another position: one that takes nothing would come again without end, and is refused.
use Rattle.std.specs.Prelude.{◌≡◌, ◌≢◌, true, false, List, [], ◌∷◌}
use Rattle.token_core.specs.declared.error.ErrorKind.TheVariants.{Unexpected}
use Rattle.token_core.specs.Refusal.{Refusal, fixed}
use Rattle.token_core.specs.Stream.{Stream}
use Rattle.token_core.specs.Reads.{is_done, refused}
use Rattle.token_core.specs.Loops.{Many}

module _ {A P : Type 0} (value : Stream → A → Stream → Type 0) (joint : Stream → P → Stream → Type 0) where
  -- a read of the first stream answers these values and marks, and leaves the second
  pub data Terminates : Stream → List A → List P → Stream → Type 0 where
    at_end : {s : Stream} → is_done s.rest ≡ true → Terminates s [] [] s
    last_value : {s t : Stream} {x : A} → is_done s.rest ≡ false → value s x t → is_done t.rest ≡ true → Terminates s (x ∷ []) [] t
    value_and_mark : {s t u v : Stream} {x : A} {p : P} {xs : List A} {ps : List P} → is_done s.rest ≡ false → value s x t → is_done t.rest ≡ false → joint t p u → u.rest ≢ s.rest → Terminates u xs ps v →
        Terminates s (x ∷ xs) (p ∷ ps) v

  abbrev pub Answers : Stream → Many A P → Stream → Type 0
  Answers s v t = Terminates s v.0 v.1 t

  -- a read of the stream is refused: a value is, or a mark after a value that doesn't end the stream, or both take nothing
  pub data Refused (no_value no_mark : Stream → Refusal → Type 0) (e : Refusal) : Stream → Type 0 where
    no_value_there : {s : Stream} → is_done s.rest ≡ false → no_value s e → Refused no_value no_mark e s
    no_mark_there : {s t : Stream} {x : A} → is_done s.rest ≡ false → value s x t → is_done t.rest ≡ false → no_mark t e → Refused no_value no_mark e s
    nothing_taken : {s t u : Stream} {x : A} {p : P} → is_done s.rest ≡ false → value s x t → is_done t.rest ≡ false → joint t p u → u.rest ≡ s.rest → e ≡ refused Unexpected (fixed Unexpected) s → Refused no_value no_mark e s
    later : {s t u : Stream} {x : A} {p : P} → is_done s.rest ≡ false → value s x t → is_done t.rest ≡ false → joint t p u → u.rest ≢ s.rest → Refused no_value no_mark e u → Refused no_value no_mark e s
