-- A pattern in its place that a list spells clearly is what one turn answers, over the reads of the patterns within: one case, or several with `|` between them and perhaps before the first.
use Rattle.std.specs.Prelude.{is_some}
use Rattle.std.proofs.Common.{◌≡◌, ℕ, ◌<◌, ◌≤◌, Bool, true, false, ◌||◌, List, [], ◌∷◌, Option, Some, None, refl, ap, arith}
use Rattle.std.proofs.lemmas.Bool.{or_right}
use Rattle.syn_pat.proofs.pat_laws.words.Tokens.{Span, AreListed, Nowhere, none_left, last_value, value_and_mark, Many, listed, never, Reader, ◌>>=◌, none, IsMark, Scope, Toks}
use Rattle.syn_pat.proofs.pat_laws.words.Paths.{Place}
use Rattle.syn_pat.proofs.pat_laws.words.Forms.{list_from, ahead}
use Rattle.syn_pat.proofs.pat_laws.words.Types.{Manner, clearly, IsOptional, absent, present, Relation}
use Rattle.syn_pat.proofs.pat_laws.words.Patterns.{PatPlace, Single, Multi, LeadingVert, Element, AreCases, cases, IsPat, a_single, some_cases, one_after_vert, some_after_vert, IsSingle, Pat, or_of, Readers, open_range, pat_step, sees_vert, single, type_names}
use Rattle.token_core.specs.Tokens as token
use Rattle.token_core.proofs.MarkSpells.{mark_complete, mark_seen, mark_size}
use Rattle.token_core.proofs.Steps.{Reads_to, chosen, link}
use Rattle.token_core.proofs.Took.{at}
use Rattle.syn_forms.proofs.lists_laws.Complete.{listed_here}
use Rattle.syn_ty.proofs.ty_laws.complete.Leaves.{later, not_more}
use Rattle.syn_ty.proofs.ty_laws.complete.Less.{less_no, mark_no, mark_takes, some}
use Rattle.syn_ty.proofs.ty_laws.complete.Params.{absent_met, present_met}
use Rattle.syn_pat.specs.declared.pat.PatOf.TheVariants as v
use Rattle.syn_pat.specs.pat.Pats.{PatOr}
use Rattle.syn_pat.specs.pat.Reading.{alternatives, element, leading, multi, open_range_layer, unless_open}
use Rattle.syn_pat.proofs.pat_laws.complete.Firsts.{first_no_bar, single_first, single_less}
use Rattle.syn_pat.proofs.pat_laws.complete.Singles.{single_met}
use Rattle.syn_pat.proofs.pat_laws.complete.Within.{Ends, EndsIn, Meets, SuppliedMeets, at_bar, single_in, vert_seen}

bar_met : (c : token.Bar) (l k : Toks) (f : Option Span) (e : Span) (sc : Scope) → IsMark true c l k → Reads_to token.bar c l k f e sc
bar_met c l k f e sc i = mark_complete true {n = 17} {k = 1} refl (omega arith) c l k f e sc i

module _ {X : Type 0} (supplied : Place → Reader X) (spells : Place → X → Toks → Type 0) (g : SuppliedMeets supplied spells) (r : Readers X) (part : Manner → PatPlace → Relation (Pat X)) (limit : ℕ) (meets : Meets r part limit) where
  abbrev One : Pat X → Toks → Toks → Type 0
  One = IsSingle spells part clearly

  abbrev Listed : Bool → List (Pat X) → List token.Bar → Toks → Toks → Type 0
  Listed b xs cs l k = AreListed (λ (_ : Bool). part clearly Single) (IsMark true) Nowhere b xs cs l k

  -- ---- further cases

  after_first : (xs : List (Pat X)) (cs : List token.Bar) (l k : Toks) → Listed true xs cs l k → Listed false xs cs l k
  after_first xs cs l k (none_left may) = absurd may
  after_first xs cs l k (last_value i) = last_value i
  after_first xs cs l k (value_and_mark i j rest) = value_and_mark i j rest

  further_met : (xs : List (Pat X)) (cs : List token.Bar) (l k : Toks) (f : Option Span) (e : Span) (sc : Scope) → ahead (at l f e sc) < limit → Listed true xs cs l k → Ends k → sees_vert k ≡ false →
      Reads_to (listed never (λ (_ : Bool). r Single) sees_vert token.bar false) (xs, cs) l k f e sc
  further_met xs cs l k f e sc h i o n =
      listed_here never (λ (_ : Bool). r Single) sees_vert token.bar (λ (_ : Bool). part clearly Single) (IsMark true) Nowhere Ends (λ m. ahead (at m None none sc) < limit) sc
      (λ b x m j u w z a d. meets.pat Single x m j a d sc u w (single_in j z))
      (λ c m j w a d. bar_met c m j a d sc w)
      (λ c m j w. (at_bar c m j w, vert_seen c m j w))
      (λ b x m j w. refl)
      (λ b x m j w. (meets.less Single x m j w).shorter)
      (λ c m j w. mark_size true {n = 17} {k = 1} c m j w)
      (λ b x c m j q w z u. let le = (some (less_no (meets.less Single x m j w) (mark_no {clear = true} {n = 17} {k = 1} c j q z))).light in not_more m q None None none none sc limit le u)
      false xs cs l k h (after_first xs cs l k i) (record { follows = o; over = n; stops_there = λ b may. absurd may }) f e

  -- ---- after a first case

  abbrev rest_from : Pat X → Reader (Many (Pat X) token.Bar)
  rest_from x = list_from never (r Single) sees_vert token.bar x

  no_more_met : (x : Pat X) (k : Toks) (f : Option Span) (e : Span) (sc : Scope) → sees_vert k ≡ false → Reads_to (rest_from x) (x ∷ [], []) k k f e sc
  unfolding list_from
  no_more_met x k f e sc n = record { last = e; reads = chosen (sees_vert k) false _ _ (at k f e sc) _ n refl }

  more_met : (x : Pat X) (c : token.Bar) (xs : List (Pat X)) (cs : List token.Bar) (m n k : Toks) (f : Option Span) (e : Span) (sc : Scope) → ahead (at m f e sc) ≤ limit → IsMark true c m n → Listed true xs cs n k → Ends k → sees_vert k ≡ false →
      Reads_to (rest_from x) (x ∷ xs, c ∷ cs) m k f e sc
  unfolding list_from
  more_met x c xs cs m n k f e sc h i j o z =
      let a = bar_met c m n f e sc i in
      let u = further_met xs cs n k f a.last sc (later m n f f e a.last sc limit (mark_takes 124 [] refl c m n i).lighter h) j o z in
      record { last = u.last; reads = chosen (sees_vert m) true _ _ (at m f e sc) _ (vert_seen c m n i) (link _ a.reads (link _ u.reads refl)) }

  -- none, where no `|` stood before
  alone_met : (x : Pat X) (k : Toks) (f : Option Span) (e : Span) (sc : Scope) → sees_vert k ≡ false → Reads_to (alternatives r None x) x k k f e sc
  unfolding alternatives
  alone_met x k f e sc n = record { last = e; reads = chosen (is_some {T = token.Bar} None || sees_vert k) false _ _ (at k f e sc) _ n refl }

  -- none, after a `|`
  one_met : (b : token.Bar) (x : Pat X) (k : Toks) (f : Option Span) (e : Span) (sc : Scope) → sees_vert k ≡ false → Reads_to (alternatives r (Some b) x) (v.Or (or_of [] (Some b) (x ∷ [], []))) k k f e sc
  unfolding alternatives
  one_met b x k f e sc n = let u = no_more_met x k f e sc n in record { last = u.last; reads = link _ u.reads refl }

  several_met : (p : Option token.Bar) (x : Pat X) (c : token.Bar) (xs : List (Pat X)) (cs : List token.Bar) (m n k : Toks) (f : Option Span) (e : Span) (sc : Scope) → ahead (at m f e sc) ≤ limit → IsMark true c m n → Listed true xs cs n k → Ends k →
      sees_vert k ≡ false → Reads_to (alternatives r p x) (v.Or (or_of [] p (x ∷ xs, c ∷ cs))) m k f e sc
  unfolding alternatives
  several_met p x c xs cs m n k f e sc h i j o z =
      let u = more_met x c xs cs m n k f e sc h i j o z in
      record { last = u.last; reads = chosen (is_some p || sees_vert m) true _ _ (at m f e sc) _ (or_right (is_some p) (sees_vert m) (vert_seen c m n i)) (link _ u.reads refl) }

  -- ---- a first case, and what follows it

  one : (x : Pat X) (l k : Toks) (f : Option Span) (e : Span) (sc : Scope) → ahead (at l f e sc) ≤ limit → One x l k → Ends k → Reads_to (single supplied (type_names supplied) r) x l k f e sc
  one = single_met supplied spells g r part limit meets

  not_grown : (x : Pat X) (l m : Toks) (f : Option Span) (e d : Span) (sc : Scope) → ahead (at l f e sc) ≤ limit → One x l m → ahead (at m f d sc) ≤ limit
  not_grown x l m f e d sc h i = let k = later l m f f e d sc limit (single_less supplied spells g part meets.less x l m i).lighter h in omega (arith, k)

  -- what is read from a first case on, where a `|` stood before it or not
  abbrev from : Option token.Bar → Reader (Pat X)
  from p s = (single supplied (type_names supplied) r >>= alternatives r p) s

  single_from : (x : Pat X) (l k : Toks) (f : Option Span) (e : Span) (sc : Scope) → ahead (at l f e sc) ≤ limit → One x l k → Ends k → sees_vert k ≡ false → Reads_to (from None) x l k f e sc
  single_from x l k f e sc h i o n =
      let a = one x l k f e sc h i o in
      let u = alone_met x k f a.last sc n in
      record { last = u.last; reads = link _ a.reads u.reads }

  vert_from : (b : token.Bar) (x : Pat X) (l k : Toks) (f : Option Span) (e : Span) (sc : Scope) → ahead (at l f e sc) ≤ limit → One x l k → Ends k → sees_vert k ≡ false → Reads_to (from (Some b)) (v.Or (or_of [] (Some b) (x ∷ [], []))) l k f e sc
  vert_from b x l k f e sc h i o n =
      let a = one x l k f e sc h i o in
      let u = one_met b x k f a.last sc n in
      record { last = u.last; reads = link _ a.reads u.reads }

  cases_from : (p : Option token.Bar) (xs : List (Pat X)) (cs : List token.Bar) (l k : Toks) (f : Option Span) (e : Span) (sc : Scope) → ahead (at l f e sc) ≤ limit → AreCases spells part clearly xs cs l k → Ends k → sees_vert k ≡ false →
      Reads_to (from p) (v.Or (or_of [] p (xs, cs))) l k f e sc
  cases_from p xs cs l k f e sc h (cases {x = x} {c = c} {xs = ys} {cs = ds} {m = m} {n = n} i j rest) o z =
      let a = one x l m f e sc h i (at_bar c m n j) in
      let u = several_met p x c ys ds m n k f a.last sc (not_grown x l m f e a.last sc h i) j rest o z in
      record { last = u.last; reads = link _ a.reads u.reads }

  -- ---- in each place

  single_in_place : (x : Pat X) (l k : Toks) (f : Option Span) (e : Span) (sc : Scope) → ahead (at l f e sc) ≤ limit → IsPat spells part clearly Single x l k → EndsIn Single k → Reads_to (single supplied (type_names supplied) r) x l k f e sc
  single_in_place x l k f e sc h (a_single i z) o = one x l k f e sc h i o.ends
  single_in_place x l k f e sc h (some_cases z i) o = cc z
  single_in_place x l k f e sc h (one_after_vert z b i) o = cc z
  single_in_place x l k f e sc h (some_after_vert z b i) o = cc z

  multi_met : (x : Pat X) (l k : Toks) (f : Option Span) (e : Span) (sc : Scope) → ahead (at l f e sc) ≤ limit → IsPat spells part clearly Multi x l k → EndsIn Multi k → Reads_to (multi supplied (type_names supplied) r) x l k f e sc
  unfolding multi
  multi_met x l k f e sc h (a_single i z) o = let u = single_from x l k f e sc h i o.ends (o.no_vert refl) in record { last = u.last; reads = u.reads }
  multi_met x l k f e sc h (some_cases {xs = xs} {cs = cs} z i) o = let u = cases_from None xs cs l k f e sc h i o.ends (o.no_vert refl) in record { last = u.last; reads = u.reads }
  multi_met x l k f e sc h (one_after_vert z b i) o = cc z
  multi_met x l k f e sc h (some_after_vert z b i) o = cc z

  no_bar : (x : Pat X) (l k : Toks) → One x l k → token.sees_bar l ≡ false
  no_bar x l k i = first_no_bar l (single_first supplied spells g part meets.less x l k i)

  cases_no_bar : (xs : List (Pat X)) (cs : List token.Bar) (l k : Toks) → AreCases spells part clearly xs cs l k → token.sees_bar l ≡ false
  cases_no_bar xs cs l k (cases {x = x} {m = m} i j rest) = no_bar x l m i

  -- perhaps a `|`, and what is read from the first case on
  leading_by : (p : Option token.Bar) (y : Pat X) (l m k : Toks) (f : Option Span) (e : Span) (sc : Scope) → IsOptional (IsMark true) p l m → token.sees_bar m ≡ false → ((d : Span) → Reads_to (from p) y m k f d sc) → Reads_to (leading supplied (type_names supplied) r) y l k f e sc
  unfolding leading
  leading_by p y l m k f e sc absent n h =
      let a = absent_met token.sees_bar token.bar l f e sc n in
      let u = h a.last in
      record { last = u.last; reads = link _ a.reads u.reads }
  leading_by p y l m k f e sc (present {a = b} i) n h =
      let a = present_met token.sees_bar token.bar b l m f e sc (mark_seen true {n = 17} {k = 1} b l m i) (bar_met b l m f e sc i) in
      let u = h a.last in
      record { last = u.last; reads = link _ a.reads u.reads }

  bar_light : (b : token.Bar) (l m : Toks) (f : Option Span) (e d : Span) (sc : Scope) → ahead (at l f e sc) ≤ limit → IsMark true b l m → ahead (at m f d sc) ≤ limit
  bar_light b l m f e d sc h i = let k = later l m f f e d sc limit (mark_takes 124 [] refl b l m i).lighter h in omega (arith, k)

  -- with a `|` before the first case or not
  leading_place : (p : PatPlace) (x : Pat X) (l k : Toks) (f : Option Span) (e : Span) (sc : Scope) → ahead (at l f e sc) ≤ limit → IsPat spells part clearly p x l k → Ends k → sees_vert k ≡ false → Reads_to (leading supplied (type_names supplied) r) x l k f e sc
  leading_place p x l k f e sc h (a_single i z) o n = leading_by None x l l k f e sc absent (no_bar x l k i) (λ d. single_from x l k f d sc h i o n)
  leading_place p x l k f e sc h (some_cases {xs = xs} {cs = cs} z i) o n = leading_by None x l l k f e sc absent (cases_no_bar xs cs l k i) (λ d. cases_from None xs cs l k f d sc h i o n)
  leading_place p x l k f e sc h (one_after_vert {b = b} {x = y} {m = m} z j i) o n = leading_by (Some b) x l m k f e sc (present j) (no_bar y m k i) (λ d. vert_from b y m k f d sc (bar_light b l m f e d sc h j) i o n)
  leading_place p x l k f e sc h (some_after_vert {b = b} {xs = xs} {cs = cs} {m = m} z j i) o n =
      leading_by (Some b) x l m k f e sc (present j) (cases_no_bar xs cs m k i) (λ d. cases_from (Some b) xs cs m k f d sc (bar_light b l m f e d sc h j) i o n)

  -- an element is no range that lacks a bound
  or_closed : (x : PatOr X) → open_range {X = X} (v.Or x) ≡ None
  or_closed x = ap (open_range_layer {X = X}) (v.outs-Or x)

  fits : (x : Pat X) (l k : Toks) → IsPat spells part clearly Element x l k → open_range x ≡ None
  fits x l k (a_single i h) = h
  fits x l k (some_cases {xs = xs} {cs = cs} h i) = or_closed (or_of [] None (xs, cs))
  fits x l k (one_after_vert {b = b} {x = y} h j i) = or_closed (or_of [] (Some b) (y ∷ [], []))
  fits x l k (some_after_vert {b = b} {xs = xs} {cs = cs} h j i) = or_closed (or_of [] (Some b) (xs, cs))

  element_met : (x : Pat X) (l k : Toks) (f : Option Span) (e : Span) (sc : Scope) → ahead (at l f e sc) ≤ limit → IsPat spells part clearly Element x l k → EndsIn Element k → Reads_to (element supplied (type_names supplied) r) x l k f e sc
  unfolding element
  element_met x l k f e sc h i o =
      let a = leading_place Element x l k f e sc h i o.ends (o.no_vert refl) in
      record { last = a.last; reads = link _ a.reads (ap (λ z. unless_open z x (at k f a.last sc)) (fits x l k i)) }

  -- one turn
  pub turn_met : (p : PatPlace) (x : Pat X) (l k : Toks) (f : Option Span) (e : Span) (sc : Scope) → ahead (at l f e sc) ≤ limit → IsPat spells part clearly p x l k → EndsIn p k → Reads_to (pat_step supplied (type_names supplied) r p) x l k f e sc
  turn_met Single x l k f e sc h i o = let u = single_in_place x l k f e sc h i o in record { last = u.last; reads = u.reads }
  turn_met Multi x l k f e sc h i o = let u = multi_met x l k f e sc h i o in record { last = u.last; reads = u.reads }
  turn_met LeadingVert x l k f e sc h i o = let u = leading_place LeadingVert x l k f e sc h i o.ends (o.no_vert refl) in record { last = u.last; reads = u.reads }
  turn_met Element x l k f e sc h i o = let u = element_met x l k f e sc h i o in record { last = u.last; reads = u.reads }
