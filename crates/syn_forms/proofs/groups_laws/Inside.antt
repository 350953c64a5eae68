-- What a reader reads in a group, step by step.
use Rattle.std.proofs.Common.{◌≡◌, Ok, Err, refl, ◌∙◌, ap}
use Rattle.token_core.specs.declared.span.DelimSpan.{DelimSpan}
use Rattle.token_core.specs.Groups as groups
use Rattle.token_core.specs.Refusal.{Refusal}
use Rattle.token_core.specs.Stream.{Stream}
use Rattle.token_core.specs.Reads.{Reader, Outcome, and_then, ◌>>=◌, ◌<$>◌, pure, closing, finished}

-- over the group's token, how it is opened, and what is made of the token and of what is read in it
module _ {T A B : Type 0} (token : DelimSpan → T) (opening : Reader (DelimSpan × Stream)) (made : T → A → B) (p : Reader A) where
  abbrev pub in_it : Reader B
  in_it = (λ g. made (token g.0) g.1) <$> (opening >>= (λ g. λ s. closing g.0 s (p g.1)))

  -- the child stream is finished where the reader leaves it
  abbrev finish : T → Stream → Outcome A → Outcome B
  finish k t (Err e) = Err e
  finish k t (Ok q) = Ok (made k q.0, finished q.1 t)

  abbrev content : Outcome (T × Stream) → Outcome B
  content (Err e) = Err e
  content (Ok g) = finish g.0.0 g.1 (p g.0.1)

  content_read : (s : DelimSpan) (t : Stream) (o : Outcome A) → and_then (closing s t o) (λ g. pure (made (token g.0) g.1)) ≡ finish (token s) t o
  content_read s t (Err e) = refl
  content_read s t (Ok q) = refl

  content_of : (o : Outcome (DelimSpan × Stream)) → and_then (and_then o (λ g. λ t. closing g.0 t (p g.1))) (λ g. pure (made (token g.0) g.1)) ≡ content (groups.opened token o)
  content_of (Err e) = refl
  content_of (Ok g) = content_read g.0.0 g.1 (p g.0.1)

  opened_read : (s t c : Stream) (k : T) → groups.opened token (opening s) ≡ Ok ((k, c), t) → in_it s ≡ finish k t (p c)
  opened_read s t c k h = content_of (opening s) ∙ ap content h

  -- it answers
  pub read_inside : (s t c u : Stream) (k : T) (x : A) → groups.opened token (opening s) ≡ Ok ((k, c), t) → p c ≡ Ok (x, u) → in_it s ≡ Ok (made k x, finished u t)
  read_inside s t c u k x h g = opened_read s t c k h ∙ ap (finish k t) g

  -- it is refused
  pub refused_inside : (s t c : Stream) (k : T) (e : Refusal) → groups.opened token (opening s) ≡ Ok ((k, c), t) → p c ≡ Err e → in_it s ≡ Err e
  refused_inside s t c k e h g = opened_read s t c k h ∙ ap (finish k t) g

  -- it isn't there
  pub not_opened : (s : Stream) (e : Refusal) → groups.opened token (opening s) ≡ Err e → in_it s ≡ Err e
  not_opened s e h = content_of (opening s) ∙ ap content h
