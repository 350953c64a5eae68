-- What patterns in groups read, step by step.
use Rattle.std.proofs.Common.{◌≡◌, ◌&&◌, not, false, [], Ok, Err, refl, ◌∙◌, ap}
use Rattle.syn_pat.proofs.pat_laws.words.Tokens.{DelimSpan, Many, Reader, Outcome, and_then, pure, is_done, Stream}
use Rattle.syn_pat.proofs.pat_laws.words.Forms.{at_end, before_end, list_from, comma}
use Rattle.syn_pat.proofs.pat_laws.words.Types.{Comma}
use Rattle.syn_pat.proofs.pat_laws.words.Patterns.{Element, LeadingVert, PatOver, is_rest, slice_of, ReadersOver, elements, paren_content, slice}
use Rattle.token_core.specs.declared.token.Bracket.{Bracket}
use Rattle.token_core.specs.declared.tree.Delimiter.TheVariants as d
use Rattle.token_core.specs.Groups as groups
use Rattle.token_core.specs.Reads.{open_group, closing, finished}
use Rattle.token_core.proofs.Steps.{chosen, link}
use Rattle.syn_forms.specs.groups.Reading.{in_brackets}
use Rattle.syn_pat.specs.declared.pat.read.groups.InParens.TheVariants as held

-- ---- brackets

module _ {A : Type 0} (p : Reader A) where
  -- the child stream is finished where the reader leaves it
  abbrev finish : Bracket → Stream → Outcome A → Outcome (Bracket × A)
  finish k t (Err e) = Err e
  finish k t (Ok q) = Ok ((k, q.0), finished q.1 t)

  abbrev content : Outcome (Bracket × Stream) → Outcome (Bracket × A)
  content (Err e) = Err e
  content (Ok g) = finish g.0.0 g.1 (p g.0.1)

  content_read : (s : DelimSpan) (t : Stream) (o : Outcome A) → and_then (closing s t o) (λ g. pure (groups.bracket g.0, g.1)) ≡ finish (groups.bracket s) t o
  content_read s t (Err e) = refl
  content_read s t (Ok q) = refl

  content_of : (o : Outcome (DelimSpan × Stream)) → and_then (and_then o (λ g. λ t. closing g.0 t (p g.1))) (λ g. pure (groups.bracket g.0, g.1)) ≡ content (groups.opened groups.bracket o)
  content_of (Err e) = refl
  content_of (Ok g) = content_read g.0.0 g.1 (p g.0.1)

  in_brackets_read : (s t c u : Stream) (k : Bracket) (x : A) → groups.opened groups.bracket (open_group d.Bracket groups.bracket_name s) ≡ Ok ((k, c), t) → p c ≡ Ok (x, u) → in_brackets p s ≡ Ok ((k, x), finished u t)
  in_brackets_read s t c u k x h g = content_of (open_group d.Bracket groups.bracket_name s) ∙ ap content h ∙ ap (finish k t) g

module _ {X G Q T : Type 0} (r : ReadersOver X G Q T) where
  pub slice_read : (s t c u : Stream) (k : Bracket) (all : Many (PatOver X G Q T) Comma) → groups.opened groups.bracket (open_group d.Bracket groups.bracket_name s) ≡ Ok ((k, c), t) → elements r Element c ≡ Ok (all, u) → slice r s ≡ Ok (slice_of [] k all, finished u t)
  unfolding slice
  slice_read s t c u k all h g = link _ (in_brackets_read (elements r Element) s t c u k all h g) refl

  -- ---- parentheses

  -- several patterns, or one with a comma, or `..`
  pub content_read_on : (s t u : Stream) (x : PatOver X G Q T) (all : Many (PatOver X G Q T) Comma) → is_done s.rest ≡ false → r LeadingVert s ≡ Ok (x, t) → (is_done t.rest && not (is_rest x)) ≡ false →
      list_from (λ first. at_end) (r LeadingVert) before_end comma x t ≡ Ok (all, u) → paren_content r s ≡ Ok (held.Elements all, u)
  unfolding paren_content
  content_read_on s t u x all h a k e = chosen (is_done s.rest) false _ _ s _ h (link _ a (chosen (is_done t.rest && not (is_rest x)) false _ _ t _ k (link _ e refl)))
