-- Where tokens stand, by what was found so far and what is left.
use Rattle.std.proofs.Common.{◌≡◌, Bool, true, false, List, [], ◌∷◌, map, Option, Some, None, unwrap_or, nat_eq, if◌then◌else◌, refl, ap}
use Rattle.token_core.specs.declared.span.Span.{Span}
use Rattle.token_core.specs.declared.tree.TokenTree.{TokenTree}
use Rattle.token_core.specs.Spans.{span, none}
use Rattle.syn_walk.specs.Spanned.{stands, given, last_of, ends, span_of, joined, further}

-- where all stands, where that was found and these are left
abbrev pub told : Option Span → List Span → Span
told None l = ends l
told (Some s) l = span s.lo (last_of s l).hi

last_end : (s t : Span) (l : List Span) → s.hi ≡ t.hi → (last_of s l).hi ≡ (last_of t l).hi
last_end s t [] e = e
last_end s t (x ∷ l) e = refl

told_joined : (found : Option Span) (x : Span) (l : List Span) → told (joined found x) l ≡ told found (x ∷ l)
told_joined None x l = refl
told_joined (Some s) x l = ap (λ z. span s.lo z) (last_end (span s.lo x.hi) x l refl)

pub told_next : (found : Option Span) (x : Span) (l : List Span) → told (further found x) (given l) ≡ told found (given (x ∷ l))
told_next found x l = same (nat_eq x.hi 0)
  where
    same : (b : Bool) → told (if b then found else joined found x) (given l) ≡ told found (if b then given l else x ∷ given l)
    same true = refl
    same false = told_joined found x (given l)

pub told_all : (found : Option Span) → told found [] ≡ unwrap_or found none
told_all None = refl
told_all (Some s) = refl

pub ruleset spans = (told_next, told_all)
