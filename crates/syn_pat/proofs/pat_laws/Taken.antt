-- Less is left after `@`, after `|` and after `box`.
use Rattle.std.specs.Prelude.{IfOk, Result}
use Rattle.std.proofs.Common.{ℕ, ◌<◌, ◌≡◌, [], ◌∷◌, Ok, Err, refl}
use Rattle.syn_pat.proofs.pat_laws.words.Tokens.{Mark, Word, Refusal, Stream}
use Rattle.syn_pat.proofs.pat_laws.words.Forms.{ahead}
use Rattle.syn_forms.proofs.nested_laws.Ahead.{ahead_less, mark_ahead, named_word_takes}
use Rattle.token_core.specs.Marks.{chars_of, read, read_named}
use Rattle.token_core.specs.Reads.{Fails, Follows, Gives, Parsed}

taken : (n l c : ℕ) (cs : _) → chars_of n ≡ c ∷ cs → (s t : Stream) (r : Result (Mark n l) Refusal) → Parsed (Gives (read n l) s) (Fails (read n l) s) r t → Follows s t → IfOk r (λ _. ahead t < ahead s)
taken n l c cs h s t (Ok m) e f = mark_ahead n l c cs h s t m e f
taken n l c cs h s t (Err x) e f = tt

pub at_taken : (s t : Stream) (r : Result (Mark 6 1) Refusal) → Parsed (Gives (read 6 1) s) (Fails (read 6 1) s) r t → Follows s t → IfOk r (λ _. ahead t < ahead s)
at_taken = taken 6 1 64 [] refl

pub bar_taken : (s t : Stream) (r : Result (Mark 17 1) Refusal) → Parsed (Gives (read 17 1) s) (Fails (read 17 1) s) r t → Follows s t → IfOk r (λ _. ahead t < ahead s)
bar_taken = taken 17 1 124 [] refl

pub box_taken : (s t : Stream) (r : Result (Word 5) Refusal) → Parsed (Gives (read_named 5) s) (Fails (read_named 5) s) r t → Follows s t → IfOk r (λ _. ahead t < ahead s)
box_taken s t (Ok w) e f = ahead_less s t f (named_word_takes 5 s t w e)
box_taken s t (Err x) e f = tt

pub ruleset past_tokens = (at_taken, bar_taken, box_taken)
