-- Bounds joined by `+` that a list spells clearly are what the reads of lists of bounds answer: one by one, or after a first bound that was read before.
use Rattle.std.proofs.Common.{◌≡◌, ◌&&◌, ◌||◌, not, ℕ, zero, suc, ◌<◌, ◌≤◌, Bool, true, false, List, [], ◌∷◌, Option, refl, sym, ◌∙◌, ap, arith}
use Rattle.syn_ty.proofs.ty_laws.words.Tokens.{Span, Parenthesis, Bracket, sees_lifetime, Nowhere, AfterMark, Many, listed, listed_from, never, size, any_text, sees_group, sees_mark, sees_word, last_char, IsMark, is_mark, Scope, Toks}
use Rattle.syn_ty.proofs.ty_laws.words.Forms.{BoundPlace, bounds_from, bounds_to, list_from, plus_follows, sees_bound, stops_bound, ahead, allows_const}
use Rattle.syn_ty.proofs.ty_laws.words.Types.{AreBounds, no_bounds, last_plus, last_bound, bound_and_plus, Manner, clearly, End, going_on, Parts, Readers, a_bound, sees_call, TypeParamBound}
use Rattle.token_core.specs.Tokens as token
use Rattle.token_core.proofs.MarkSpells.{mark_complete, mark_seen}
use Rattle.token_core.proofs.Steps.{link, chosen, Reads_to}
use Rattle.token_core.proofs.Took.{at}
use Rattle.syn_forms.specs.lists.Reading.{bounds, each_bound_from}
use Rattle.syn_ty.proofs.ty_laws.complete.Leaves.{later, not_more}
use Rattle.syn_ty.proofs.ty_laws.complete.Within.{Stops, Fits, Less, BoundBegins, Meets}

-- ---- a `+`

pub plus_less : (p : token.Plus) (l r : Toks) → IsMark true p l r → Less l r
plus_less p l r (is_mark (last_char x)) = record { lighter = omega arith; shorter = omega arith }

-- a bound and a type stop there
pub plus_stops : (p : token.Plus) (l r : Toks) → IsMark true p l r → Stops l
unfolding sees_mark sees_lifetime sees_group sees_call
plus_stops p l r (is_mark (last_char x)) = record { no_sep = refl; no_angle = refl; no_call = refl; no_arrow = refl; no_question = refl; no_lifetime = refl; no_paren = refl; no_bracket = refl; no_pound = refl }

pub plus_no_word : (p : token.Plus) (l r : Toks) → IsMark true p l r → sees_word any_text l ≡ false
unfolding sees_word
plus_no_word p l r (is_mark (last_char x)) = refl

-- it fits what is not open
pub plus_fits : (d : End) (p : token.Plus) (l r : Toks) → d.is_open ≡ false → IsMark true p l r → Fits d l
plus_fits d p l r o i = record { stops = plus_stops p l r i; no_plus = λ h. cc (sym o ∙ h); no_word = λ h. plus_no_word p l r i }

pub plus_there : (p : token.Plus) (l r : Toks) → IsMark true p l r → token.sees_plus l ≡ true
plus_there p l r i = mark_seen true {n = 20} {k = 1} p l r i

pub plus_reads : (p : token.Plus) (l r : Toks) (f : Option Span) (e : Span) (sc : Scope) → IsMark true p l r → Reads_to token.plus p l r f e sc
plus_reads p l r f e sc i = mark_complete true {n = 20} {k = 1} refl (omega arith) p l r f e sc i

-- ---- what follows a list

-- a bound at the end of a list of bounds fits what the list fits
pub last_fits : (d : End) (k : Toks) → Fits (going_on d) k → Fits d k
last_fits d k h = record { stops = h.stops; no_plus = λ o. h.no_plus refl; no_word = h.no_word }

all_false : (a b c d e f : Bool) → a ≡ false → b ≡ false → c ≡ false → d ≡ false → e ≡ false → f ≡ false → (a || (b || (c || (d || (e || f))))) ≡ false
all_false a b c d e f h i j m n o = ap (λ z. z || (b || (c || (d || (e || f))))) h ∙ ap (λ z. z || (c || (d || (e || f)))) i ∙ ap (λ z. z || (d || (e || f))) j ∙ ap (λ z. z || (e || f)) m ∙ ap (λ z. z || f) n ∙ o

and_false : (a b : Bool) → b ≡ false → (a && b) ≡ false
and_false true b h = h
and_false false b h = refl

-- after a `+` that ends a list no bound begins
pub no_bound_follows : (consts : Bool) (d : End) (k : Toks) → d.in_plus ≡ true → Fits d k → sees_bound consts k ≡ false
unfolding sees_bound
no_bound_follows consts d k g h =
    all_false (sees_word any_text k) (token.sees_path_sep k) (token.sees_question k) (sees_lifetime k) (sees_group Parenthesis k) (consts && sees_group Bracket k)
    (h.no_word g) h.stops.no_sep h.stops.no_question h.stops.no_lifetime h.stops.no_paren (and_false consts (sees_group Bracket k) h.stops.no_bracket)

-- ---- bounds joined by `+`, by where a list may end without a bound and by the test before a bound

-- after a first bound a list may end as well where another rule lets it end
pub ends_as : {A E : Type 0} (part : Manner → Parts A E) (place : BoundPlace) (Ends Others : Bool → Type 0) → (Ends false → Others false) →
    (first : Bool) (d : End) (xs : List (TypeParamBound A E)) (ps : List token.Plus) (l k : Toks) → first ≡ false → AreBounds part clearly place Ends first d xs ps l k → AreBounds part clearly place Others first d xs ps l k
ends_as part place Ends Others h first d xs ps l k e (no_bounds a) = cc e
ends_as part place Ends Others h first d xs ps l k e (last_plus a) = last_plus (h a)
ends_as part place Ends Others h first d xs ps l k e (last_bound i) = last_bound i
ends_as part place Ends Others h first d xs ps l k e (bound_and_plus {xs = ys} {ps = qs} {k = n} i o j rest) = bound_and_plus i o j (ends_as part place Ends Others h false d ys qs n k refl rest)

module _ {A E : Type 0} (part : Manner → Parts A E) (place : BoundPlace) (Ends : Bool → Type 0) (stops : Bool → Toks → Bool) where
  abbrev Bound : Type 0
  Bound = TypeParamBound A E

  abbrev Listed : Bool → End → List Bound → List token.Plus → Toks → Toks → Type 0
  Listed = AreBounds part clearly place Ends

  -- the test stops where the list ends without a bound, and what follows the last bound does not go on with it
  pub record Stopped (first : Bool) (d : End) (k : Toks) : Type 0 where
    pub at_first : first ≡ true → Ends true → stops true k ≡ true
    pub after_last : Ends false → d.in_plus ≡ true → stops false k ≡ true
    pub fits : d.is_open ≡ true → Fits d k

  pub later_stopped : (first : Bool) (d : End) (k : Toks) → Stopped first d k → Stopped false d k
  later_stopped first d k o = record { at_first = λ z. cc z; after_last = o.after_last; fits = o.fits }

  -- after a first bound: no `+` that goes on with it; or one, and further bounds
  pub data IsFurther (plus : Bool) (x : Bound) : Many Bound token.Plus → Toks → Toks → Type 0 where
    nothing_further : {k : Toks} → plus_follows plus k ≡ false → IsFurther plus x (x ∷ [], []) k k
    further : {d : End} {p : token.Plus} {xs : List Bound} {ps : List token.Plus} {l m k : Toks} → plus ≡ true → IsMark true p l m → Listed false d xs ps m k → Stopped false d k → IsFurther plus x (x ∷ xs, p ∷ ps) l k

  -- the first bound of a list, and what follows it
  pub record FirstOf (plus : Bool) (v : Many Bound token.Plus) (l k : Toks) : Type 0 where
    pub end : End
    pub bound : Bound
    pub middle : Toks
    pub spelt : (part clearly).bound place end bound l middle
    pub fits : Fits end middle
    pub rest : IsFurther plus bound v middle k

  pub first_of : (first : Bool) (d : End) (xs : List Bound) (ps : List token.Plus) (l k : Toks) → (Ends true → ⊥) → first ≡ true → Listed first d xs ps l k → Stopped first d k → FirstOf true (xs, ps) l k
  first_of first d xs ps l k n h (no_bounds a) o = absurd (n a)
  first_of first d xs ps l k n h (last_plus a) o = cc h
  first_of first d xs ps l k n h (last_bound {e = e} {x = x} i) o = let g = o.fits refl in record { end = e; bound = x; middle = k; spelt = i; fits = last_fits e k g; rest = nothing_further (g.no_plus refl) }
  first_of first d xs ps l k n h (bound_and_plus {e = e} {x = x} {p = p} {m = m} {k = j} i a c rest) o =
      record { end = e; bound = x; middle = m; spelt = i; fits = plus_fits e p m j a c; rest = further refl c rest (later_stopped first d k o) }

-- ---- they are read one by one

-- The test does not stop where a bound begins.
module _ {A E : Type 0} (r : Readers A E) (part : Manner → Parts A E) (limit : ℕ) (meets : Meets r part limit) (place : BoundPlace) (Ends : Bool → Type 0) (stops : Bool → Toks → Bool)
    (goes : (first : Bool) (l : Toks) → BoundBegins place l → stops first l ≡ false) where
  abbrev Tree : Type 0
  Tree = TypeParamBound A E

  abbrev Trees : Bool → End → List Tree → List token.Plus → Toks → Toks → Type 0
  Trees = AreBounds part clearly place Ends

  abbrev After : Bool → End → Toks → Type 0
  After = Stopped part place Ends stops

  abbrev Rest : Bool → Tree → Many Tree token.Plus → Toks → Toks → Type 0
  Rest = IsFurther part place Ends stops

  bound_goes : (first : Bool) (e : End) (x : Tree) (l m : Toks) → (part clearly).bound place e x l m → stops first l ≡ false
  bound_goes first e x l m i = goes first l (meets.firsts.bound place e x l m i).0

  complete_from : (n : ℕ) (first : Bool) (d : End) (xs : List Tree) (ps : List token.Plus) (l k : Toks) (f : Option Span) (e : Span) (sc : Scope) → size l < n → ahead (at l f e sc) < limit → Trees first d xs ps l k → After first d k →
      Reads_to (listed_from stops (λ (_ : Bool). r (a_bound place)) token.sees_plus token.plus n first) (xs, ps) l k f e sc
  complete_from zero first d xs ps l k f e sc h u i o = absurd (omega (arith, h))
  complete_from (suc n) first d xs ps l k f e sc h u (no_bounds a) o = record { last = e; reads = chosen (stops true k) true _ _ (at k f e sc) _ (o.at_first refl a) refl }
  complete_from (suc n) first d xs ps l k f e sc h u (last_plus a) o = record { last = e; reads = chosen (stops false k) true _ _ (at k f e sc) _ (o.after_last a refl) refl }
  complete_from (suc n) first d xs ps l k f e sc h u (last_bound {e = b} {x = x} i) o =
      let g = o.fits refl in
      let q = meets.bound place b x l k f e sc u i (last_fits b k g) in
      record { last = q.last; reads = chosen (stops first l) false _ _ (at l f e sc) _ (bound_goes first b x l k i) (link _ q.reads (chosen (token.sees_plus k) false _ _ (at k f q.last sc) _ (g.no_plus refl) refl)) }
  complete_from (suc n) first d xs ps l k f e sc h u (bound_and_plus {e = b} {x = x} {p = p} {xs = ys} {ps = qs} {m = m} {k = j} i a c rest) o =
      let less = (meets.firsts.bound place b x l m i).1 in
      let plus = plus_less p m j c in
      let q = meets.bound place b x l m f e sc u i (plus_fits b p m j a c) in
      let w = plus_reads p m j f q.last sc c in
      let v = complete_from n false d ys qs j k f w.last sc (omega (arith, h, less.shorter, plus.shorter)) (not_more l j f f e w.last sc limit (omega (arith, less.lighter, plus.lighter)) u) rest
      (later_stopped part place Ends stops first d k o) in
      record {
        last = v.last;
        reads = chosen (stops first l) false _ _ (at l f e sc) _ (bound_goes first b x l m i) (link _ q.reads (chosen (token.sees_plus m) true _ _ (at m f q.last sc) _ (plus_there p m j c) (link _ w.reads (link _ v.reads refl))));
      }

  pub listed_met : (first : Bool) (d : End) (xs : List Tree) (ps : List token.Plus) (l k : Toks) (f : Option Span) (e : Span) (sc : Scope) → ahead (at l f e sc) < limit → Trees first d xs ps l k → After first d k →
      Reads_to (listed stops (λ (_ : Bool). r (a_bound place)) token.sees_plus token.plus first) (xs, ps) l k f e sc
  unfolding listed
  listed_met first d xs ps l k f e sc h i o = let q = complete_from (suc (size l)) first d xs ps l k f e sc (omega arith) h i o in record { last = q.last; reads = q.reads }

  -- after a first bound, where at most a limit is left
  pub further_met : (plus : Bool) (x : Tree) (v : Many Tree token.Plus) (l k : Toks) (f : Option Span) (e : Span) (sc : Scope) → ahead (at l f e sc) ≤ limit → Rest plus x v l k →
      Reads_to (list_from stops (r (a_bound place)) (plus_follows plus) token.plus x) v l k f e sc
  unfolding list_from
  further_met plus x v l k f e sc h (nothing_further o) = record { last = e; reads = chosen (plus_follows plus k) false _ _ (at k f e sc) _ o refl }
  further_met true x v l k f e sc h (further {d = d} {p = p} {xs = xs} {ps = ps} {m = m} g i rest o) =
      let w = plus_reads p l m f e sc i in
      let less = plus_less p l m i in
      let q = listed_met false d xs ps m k f w.last sc (later l m f f e w.last sc limit less.lighter h) rest o in
      record { last = q.last; reads = chosen (token.sees_plus l) true _ _ (at l f e sc) _ (plus_there p l m i) (link _ w.reads (link _ q.reads refl)) }
  further_met false x v l k f e sc h (further g i rest o) = cc g

-- ---- where a list ends: after a `+`, where no bound begins; or at no `+`

stops_after : (consts : Bool) (d : End) (k : Toks) → d.in_plus ≡ true → Fits d k → stops_bound consts false k ≡ true
stops_after consts d k g h = ap not (no_bound_follows consts d k g h)

goes_at : (place : BoundPlace) (first : Bool) (l : Toks) → BoundBegins place l → stops_bound (allows_const place) first l ≡ false
goes_at place true l h = refl
goes_at place false l h = ap not h.sees

module _ {A E : Type 0} (part : Manner → Parts A E) (place : BoundPlace) where
  pub plus_stopped : (first : Bool) (d : End) (k : Toks) → Fits d k → Stopped part place AfterMark (stops_bound (allows_const place)) first d k
  plus_stopped first d k h = record { at_first = λ z a. absurd a; after_last = λ a g. stops_after (allows_const place) d k g h; fits = λ o. h }

  pub closed_stopped : (first : Bool) (d : End) (k : Toks) → Fits d k → Stopped part place Nowhere never first d k
  closed_stopped first d k h = record { at_first = λ z a. absurd a; after_last = λ a g. absurd a; fits = λ o. h }

  -- up to an end
  pub end_stopped : (Ends : Bool → Type 0) (ends : Toks → Bool) (first : Bool) (d : End) (k : Toks) → (d.is_open ≡ true → Fits d k) → ((b : Bool) → Ends b → ends k ≡ true) → Stopped part place Ends (λ (_ : Bool). ends) first d k
  end_stopped Ends ends first d k h g = record { at_first = λ z a. g true a; after_last = λ a z. g false a; fits = h }

-- ---- the reads of lists of bounds

module _ {A E : Type 0} (r : Readers A E) (part : Manner → Parts A E) (limit : ℕ) (meets : Meets r part limit) (place : BoundPlace) where
  -- one or more, of which the last may have its `+`
  pub bounds_met : (d : End) (xs : List (TypeParamBound A E)) (ps : List token.Plus) (l k : Toks) (f : Option Span) (e : Span) (sc : Scope) → ahead (at l f e sc) < limit → AreBounds part clearly place AfterMark true d xs ps l k → Fits d k →
      Reads_to (bounds (r (a_bound place)) (allows_const place) true) (xs, ps) l k f e sc
  bounds_met d xs ps l k f e sc h i o = listed_met r part limit meets place AfterMark (stops_bound (allows_const place)) (goes_at place) true d xs ps l k f e sc h i (plus_stopped part place true d k o)

  -- one, where no plus is allowed
  pub one_bound_met : (d : End) (x : TypeParamBound A E) (l k : Toks) (f : Option Span) (e : Span) (sc : Scope) → ahead (at l f e sc) < limit → (part clearly).bound place d x l k → Fits d k →
      Reads_to (bounds (r (a_bound place)) (allows_const place) false) (x ∷ [], []) l k f e sc
  unfolding listed
  one_bound_met d x l k f e sc h i o = let q = meets.bound place d x l k f e sc h i o in record { last = q.last; reads = link _ q.reads refl }

  -- after a first bound, of which the last may have its `+`
  pub bounds_from_met : (plus : Bool) (x : TypeParamBound A E) (v : Many (TypeParamBound A E) token.Plus) (l k : Toks) (f : Option Span) (e : Span) (sc : Scope) → ahead (at l f e sc) ≤ limit →
      IsFurther part place AfterMark (stops_bound (allows_const place)) plus x v l k → Reads_to (bounds_from (r (a_bound place)) (allows_const place) plus x) v l k f e sc
  bounds_from_met = further_met r part limit meets place AfterMark (stops_bound (allows_const place)) (goes_at place)

  -- after a first bound, each `+` with a bound
  pub each_bound_met : (x : TypeParamBound A E) (v : Many (TypeParamBound A E) token.Plus) (l k : Toks) (f : Option Span) (e : Span) (sc : Scope) → ahead (at l f e sc) ≤ limit →
      IsFurther part place Nowhere never true x v l k → Reads_to (each_bound_from (r (a_bound place)) x) v l k f e sc
  each_bound_met = further_met r part limit meets place Nowhere never (λ first l b. refl) true

  -- up to an end, which does not stand where a bound begins, and stands where the list ends without a bound; what follows a last bound fits its end
  pub bounds_to_met : (Ends : Bool → Type 0) (ends : Toks → Bool) → ((l : Toks) → BoundBegins place l → ends l ≡ false) → (d : End) (xs : List (TypeParamBound A E)) (ps : List token.Plus) (l k : Toks) (f : Option Span) (e : Span) (sc : Scope) →
      ahead (at l f e sc) < limit → AreBounds part clearly place Ends true d xs ps l k → (d.is_open ≡ true → Fits d k) → ((b : Bool) → Ends b → ends k ≡ true) → Reads_to (bounds_to (r (a_bound place)) ends) (xs, ps) l k f e sc
  bounds_to_met Ends ends goes d xs ps l k f e sc h i o g =
      listed_met r part limit meets place Ends (λ (_ : Bool). ends) (λ first l b. goes l b) true d xs ps l k f e sc h i (end_stopped part place Ends ends true d k o g)
