-- Steps of the reads of patterns: a token that may be there, and what braces hold.
use Rattle.std.proofs.Common.{◌≡◌, Ok, Err, refl, ◌∙◌, ap}
use Rattle.syn_pat.proofs.pat_laws.words.Tokens.{DelimSpan, Outcome, Reader, and_then, in_group, pure, Refusal, Stream}
use Rattle.token_core.specs.declared.token.Brace.{Brace}
use Rattle.token_core.specs.declared.tree.Delimiter.TheVariants as d
use Rattle.token_core.specs.Groups as groups
use Rattle.token_core.specs.Reads.{◌<$>◌, closing, finished, open_group}
pub use Rattle.syn_path.proofs.Steps.{optional_read, optional_refused}

-- ---- braces

module _ {A B : Type 0} (p : Reader A) (f : Brace → A → B) where
  -- the child stream is finished where the reader leaves it
  abbrev finish : Brace → Stream → Outcome A → Outcome B
  finish k t (Err e) = Err e
  finish k t (Ok q) = Ok (f k q.0, finished q.1 t)

  abbrev content : Outcome (Brace × Stream) → Outcome B
  content (Err e) = Err e
  content (Ok g) = finish g.0.0 g.1 (p g.0.1)

  content_read : (s : DelimSpan) (t : Stream) (o : Outcome A) → and_then (closing s t o) (λ g. pure (f (groups.brace g.0) g.1)) ≡ finish (groups.brace s) t o
  content_read s t (Err e) = refl
  content_read s t (Ok q) = refl

  content_of : (o : Outcome (DelimSpan × Stream)) → and_then (and_then o (λ g. λ t. closing g.0 t (p g.1))) (λ g. pure (f (groups.brace g.0) g.1)) ≡ content (groups.opened groups.brace o)
  content_of (Err e) = refl
  content_of (Ok g) = content_read g.0.0 g.1 (p g.0.1)

  abbrev pub in_braces : Reader B
  in_braces = (λ g. f (groups.brace g.0) g.1) <$> in_group d.Brace groups.brace_name p

  abbrev pub opens : Reader (Brace × Stream)
  opens s = groups.opened groups.brace (open_group d.Brace groups.brace_name s)

  -- they are refused
  pub braces_refused : (s : Stream) (e : Refusal) → opens s ≡ Err e → in_braces s ≡ Err e
  braces_refused s e h = content_of (open_group d.Brace groups.brace_name s) ∙ ap content h

  opened_read : (s t c : Stream) (k : Brace) → opens s ≡ Ok ((k, c), t) → in_braces s ≡ finish k t (p c)
  opened_read s t c k h = content_of (open_group d.Brace groups.brace_name s) ∙ ap content h

  -- what they hold is read
  pub braces_read : (s t c u : Stream) (k : Brace) (x : A) → opens s ≡ Ok ((k, c), t) → p c ≡ Ok (x, u) → in_braces s ≡ Ok (f k x, finished u t)
  braces_read s t c u k x h g = opened_read s t c k h ∙ ap (finish k t) g

  -- and what they hold is refused
  pub braces_held_refused : (s t c : Stream) (k : Brace) (e : Refusal) → opens s ≡ Ok ((k, c), t) → p c ≡ Err e → in_braces s ≡ Err e
  braces_held_refused s t c k e h g = opened_read s t c k h ∙ ap (finish k t) g
