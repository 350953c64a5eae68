-- Where a pattern is read in its place, it is spelt, over the same law of the patterns within: a single pattern, cases joined by `|`, and a `|` before the first.
use Rattle.std.proofs.Common.{◌≡◌, Bool, true, false, ◌||◌, List, [], ◌∷◌, Option, Some, None, is_some, Ok, inl, inr, refl, sym, ◌∙◌, subst, arith}
use Rattle.syn_pat.proofs.pat_laws.words.Tokens.{Span, AreListed, Nowhere, none_left, last_value, value_and_mark, Many, listed, never, Reader, optional, Visible, IsMark, Stream, Toks}
use Rattle.syn_pat.proofs.pat_laws.words.Paths.{Place}
use Rattle.syn_pat.proofs.pat_laws.words.Forms.{list_from}
use Rattle.syn_pat.proofs.pat_laws.words.Types.{Manner, loosely, IsOptional, absent, present, Relation}
use Rattle.syn_pat.proofs.pat_laws.words.Patterns.{PatPlace, Single, Multi, LeadingVert, Element, cases, a_single, some_cases, one_after_vert, some_after_vert, IsSingleWhere, Pat, or_of, Readers, open_range, pat_step, sees_vert, single, type_names}
use Rattle.token_core.specs.Tokens as token
use Rattle.token_core.proofs.Listings.{listed_sound, listed_visible}
use Rattle.token_core.proofs.MarkSpells.{mark_sound, mark_visible}
use Rattle.token_core.proofs.Took.{branch, mapped}
use Rattle.token_core.proofs.Turns.{chain, same_pair}
use Rattle.syn_path.proofs.Words.{TookOne}
use Rattle.syn_forms.proofs.tokens_laws.Fronts.{plainly}
use Rattle.syn_ty.proofs.ty_laws.sound.Leaves.{optional_sound}
use Rattle.syn_pat.specs.declared.pat.PatOf.TheVariants as pat
use Rattle.syn_pat.specs.pat.Admitted.{Fits, IsPatWhere, allows_cases, allows_vert}
use Rattle.syn_pat.specs.pat.Reading.{alternatives, as_element, element, leading, multi, unless_open}
use Rattle.syn_pat.proofs.pat_laws.sound.Singles.{single_took}
use Rattle.syn_pat.proofs.pat_laws.sound.Within.{Before, Held, listed_before, Stopping, SuppliedTold, TookOn}

bar_seen : (s t : Stream) (c : token.Bar) → Visible s.rest → token.bar s ≡ Ok (c, t) → Visible t.rest
bar_seen s t c v e = mark_visible false {n = 17} {k = 1} c s.rest t.rest (mark_sound {n = 17} {k = 1} refl (omega arith) s t c v e).spelt v

bar_took : (s t : Stream) (c : token.Bar) → Visible s.rest → token.bar s ≡ Ok (c, t) → t.left ≡ None → (s.left ≡ None) × IsMark false c s.rest t.rest
bar_took s t c v e n = let k = mark_sound {n = 17} {k = 1} refl (omega arith) s t c v e in (sym k.left ∙ n, k.spelt)

one_bar : (s t : Stream) (c : token.Bar) → Visible s.rest → token.bar s ≡ Ok (c, t) → TookOne (IsMark false) s t c
one_bar s t c v e = plainly {Is = IsMark false {n = 17} {k = 1}} (λ a l r i w. mark_visible false {n = 17} {k = 1} a l r i w) s t c v (mark_sound {n = 17} {k = 1} refl (omega arith) s t c v e)

module _ {X : Type 0} {lone : Toks → Bool} (halts : Stopping lone) (supplied : Place → Reader X) (spells : Place → X → Toks → Type 0) (g : SuppliedTold supplied spells) (r : Readers X) (part : Manner → PatPlace → Relation (Pat X)) (h : Held halts.stops r part) where
  abbrev Cases : Type 0
  Cases = Many (Pat X) token.Bar

  abbrev One : Pat X → Toks → Toks → Type 0
  One = IsSingleWhere spells part loosely lone

  abbrev pub In : PatPlace → Pat X → Toks → Toks → Type 0
  In place = IsPatWhere spells part loosely lone place

  -- ---- further cases

  abbrev Listed : Bool → Cases → Toks → Toks → Type 0
  Listed b w l k = AreListed (λ (_ : Bool). part loosely Single) (IsMark false) Nowhere b w.0 w.1 l k

  as_first : (xs : List (Pat X)) (cs : List token.Bar) (l k : Toks) → Listed false (xs, cs) l k → Listed true (xs, cs) l k
  as_first xs cs l k (none_left may) = absurd may
  as_first xs cs l k (last_value i) = last_value i
  as_first xs cs l k (value_and_mark i j rest) = value_and_mark i j rest

  never_ends : (b : Bool) (l : Toks) → never b l ≡ true → Nowhere b
  never_ends b l e = cc e

  value_took : (s t : Stream) (x : Pat X) → Visible s.rest → r Single s ≡ Ok (x, t) → t.left ≡ None → (s.left ≡ None) × Before halts.stops (part loosely Single) x s.rest t.rest
  value_took s t x v e n = let k = h.took Single s t x v e in (k.left n, k.spelt n)

  further_took : (s t : Stream) (w : Cases) → Visible s.rest → listed never (λ (_ : Bool). r Single) sees_vert token.bar false s ≡ Ok (w, t) → TookOn s t (halts.stops t.rest → Listed true w s.rest t.rest)
  further_took s t w v e =
      let both = listed_sound never (λ (_ : Bool). r Single) sees_vert token.bar (λ (_ : Bool). Before halts.stops (part loosely Single)) (IsMark false) Nowhere (λ (z : Stream). z.left ≡ None) never_ends
      (λ b c d x u i. (h.took Single c d x u i).seen) bar_seen (λ b c d x u q i. value_took c d x u i) (λ c d x u q i. bar_took c d x u i) false s t w v e in
      record {
        left = λ n. (both n).0;
        seen = listed_visible never (λ (_ : Bool). r Single) sees_vert token.bar (λ (_ : Bool). Before halts.stops (part loosely Single)) (IsMark false) Nowhere (λ (z : Stream). z.left ≡ None) never_ends
            (λ b c d x u i. (h.took Single c d x u i).seen) bar_seen (λ b c d x u q i. value_took c d x u i) (λ c d x u q i. bar_took c d x u i) false s t w v e;
        told = λ n stop. as_first w.0 w.1 s.rest t.rest (listed_before (part loosely Single) (IsMark false) Nowhere halts.stops halts.at_bar false w.0 w.1 s.rest t.rest stop (both n).1);
      }

  -- ---- what follows a first case

  module _ (place : PatPlace) (some : allows_cases place ≡ true) (fits : (x : Pat X) → Fits place x) where
    -- perhaps a `|`, and a first case
    abbrev Begun : Option token.Bar → Pat X → Toks → Toks → Toks → Type 0
    Begun o x l m k = IsOptional (IsMark false) o l m × Before halts.stops One x m k

    several_at : (o : Option token.Bar) (x : Pat X) (c : token.Bar) (w : Cases) (l m n k j : Toks) → (is_some o ≡ true → allows_vert place ≡ true) → IsOptional (IsMark false) o l m → One x m n → IsMark false c n k → Listed true w k j →
        In place (pat.Or (or_of [] o (x ∷ w.0, c ∷ w.1))) l j
    several_at o x c w l m n k j f absent i b rest = some_cases some (cases i b rest)
    several_at o x c w l m n k j f (present a) i b rest = some_after_vert (f refl) a (cases i b rest)

    one_at : (o : Option token.Bar) (x : Pat X) (b : Bool) (l m k : Toks) → (is_some o ≡ true → allows_vert place ≡ true) → is_some o || b ≡ true → b ≡ false → IsOptional (IsMark false) o l m → One x m k →
        In place (pat.Or (or_of [] o (x ∷ [], []))) l k
    one_at o x true l m k f e n a i = cc n
    one_at o x false l m k f e n absent i = cc e
    one_at o x false l m k f e n (present a) i = one_after_vert (f refl) a i

    cases_took : (o : Option token.Bar) (x : Pat X) (l m : Toks) (s t : Stream) (w : Cases) → (is_some o ≡ true → allows_vert place ≡ true) → Visible s.rest → is_some o || sees_vert s.rest ≡ true →
        list_from never (r Single) sees_vert token.bar x s ≡ Ok (w, t) →
        TookOn s t (Begun o x l m s.rest → halts.stops t.rest → In place (pat.Or (or_of [] o w)) l t.rest)
    unfolding list_from
    cases_took o x l m s t w f v some e =
        elim (branch (sees_vert s.rest) _ _ s (Ok (w, t)) e) [
          | inl y ↦ let c = chain (token.bar s) _ w t y.1 in
              let k = mark_sound {n = 17} {k = 1} refl (omega arith) s c.rest c.value v c.was in
              let with : Cases → Cases = λ z. (x ∷ z.0, c.value ∷ z.1) in
              let d = mapped (listed never (λ (_ : Bool). r Single) sees_vert token.bar false c.rest) with w t c.goes in
              let q = further_took c.rest t d.value (bar_seen s c.rest c.value v c.was) d.was in
              record {
                left = λ n. sym k.left ∙ q.left n;
                seen = q.seen;
                told = λ n i stop. subst (λ z. In place (pat.Or (or_of [] o z)) l t.rest) d.is
                    (several_at o x c.value d.value l m s.rest c.rest.rest t.rest f i.0 (i.1 (halts.at_bar c.value s.rest c.rest.rest k.spelt)) k.spelt (q.told n stop));
              }
          | inr y ↦ let q = same_pair (x ∷ [], []) w s t y.1 in
              subst (λ z. TookOn s t (Begun o x l m s.rest → halts.stops t.rest → In place (pat.Or (or_of [] o z)) l t.rest)) q.0
              (subst (λ (z : Stream). TookOn s z (Begun o x l m s.rest → halts.stops z.rest → In place (pat.Or (or_of [] o (x ∷ [], []))) l z.rest)) q.1
              (record { left = λ n. n; seen = v; told = λ n i stop. one_at o x (sees_vert s.rest) l m s.rest f some y.0 i.0 (i.1 stop) }))
        ]

    alone_at : (o : Option token.Bar) (x : Pat X) (b : Bool) (l m k : Toks) → is_some o || b ≡ false → IsOptional (IsMark false) o l m → One x m k → In place x l k
    alone_at o x b l m k e absent i = a_single i (fits x)
    alone_at o x b l m k e (present a) i = cc e

    alternatives_took : (o : Option token.Bar) (x : Pat X) (l m : Toks) (s t : Stream) (y : Pat X) → (is_some o ≡ true → allows_vert place ≡ true) → Visible s.rest → alternatives r o x s ≡ Ok (y, t) →
        TookOn s t (Begun o x l m s.rest → Before halts.stops (In place) y l t.rest)
    unfolding alternatives
    alternatives_took o x l m s t y f v e =
        elim (branch (is_some o || sees_vert s.rest) _ _ s (Ok (y, t)) e) [
          | inl z ↦ let k = mapped (list_from never (r Single) sees_vert token.bar x s) (λ (w : Cases). pat.Or (or_of [] o w)) y t z.1 in
              let q = cases_took o x l m s t k.value f v z.0 k.was in
              record { left = q.left; seen = q.seen; told = λ n i stop. subst (λ u. In place u l t.rest) k.is (q.told n i stop) }
          | inr z ↦ let q = same_pair x y s t z.1 in
              subst (λ u. TookOn s t (Begun o x l m s.rest → Before halts.stops (In place) u l t.rest)) q.0
              (subst (λ (u : Stream). TookOn s u (Begun o x l m s.rest → Before halts.stops (In place) x l u.rest)) q.1
              (record { left = λ n. n; seen = v; told = λ n i stop. alone_at o x (sees_vert s.rest) l m s.rest z.0 i.0 (i.1 stop) }))
        ]

  -- ---- in each place

  single_in : (s t : Stream) (x : Pat X) → Visible s.rest → single supplied (type_names supplied) r s ≡ Ok (x, t) → TookOne (Before halts.stops (In Single)) s t x
  single_in s t x v e = let k = single_took halts supplied spells g r part h s t x v e in record { left = k.left; seen = k.seen; spelt = λ n stop. a_single (k.spelt n stop) tt }

  multi_in : (s t : Stream) (x : Pat X) → Visible s.rest → multi supplied (type_names supplied) r s ≡ Ok (x, t) → TookOne (Before halts.stops (In Multi)) s t x
  unfolding multi
  multi_in s t x v e =
      let c = chain (single supplied (type_names supplied) r s) (alternatives r None) x t e in
      let k = single_took halts supplied spells g r part h s c.rest c.value v c.was in
      let w = alternatives_took Multi refl (λ y. tt) None c.value s.rest s.rest c.rest t x (λ f. cc f) k.seen c.goes in
      record { left = λ n. k.left (w.left n); seen = w.seen; spelt = λ n. w.told n (absent, k.spelt (w.left n)) }

  leading_in : (s t : Stream) (x : Pat X) → Visible s.rest → leading supplied (type_names supplied) r s ≡ Ok (x, t) → TookOne (Before halts.stops (In LeadingVert)) s t x
  unfolding leading
  leading_in s t x v e =
      let a = chain (optional token.sees_bar token.bar s) _ x t e in
      let o = optional_sound {Is = IsMark false {n = 17} {k = 1}} token.sees_bar token.bar one_bar s a.rest a.value v a.was in
      let c = chain (single supplied (type_names supplied) r a.rest) (alternatives r a.value) x t a.goes in
      let k = single_took halts supplied spells g r part h a.rest c.rest c.value o.seen c.was in
      let w = alternatives_took LeadingVert refl (λ y. tt) a.value c.value s.rest a.rest.rest c.rest t x (λ f. refl) k.seen c.goes in
      record { left = λ n. o.left (k.left (w.left n)); seen = w.seen; spelt = λ n. w.told n (o.spelt (k.left (w.left n)), k.spelt (w.left n)) }

  kept_if : (o : Option (Span × Span)) (x y : Pat X) (s t : Stream) → unless_open o x s ≡ Ok (y, t) → (o ≡ None) × (x ≡ y) × (s ≡ t)
  kept_if None x y s t e = let q = same_pair x y s t e in (refl, q.0, q.1)
  kept_if (Some p) x y s t e = cc

  -- what a slice may hold
  fitting : (x : Pat X) (l k : Toks) → open_range x ≡ None → In LeadingVert x l k → In Element x l k
  fitting x l k e (a_single i f) = a_single i e
  fitting x l k e (some_cases f i) = some_cases refl i
  fitting x l k e (one_after_vert f a i) = one_after_vert refl a i
  fitting x l k e (some_after_vert f a i) = some_after_vert refl a i

  element_in : (s t : Stream) (x : Pat X) → Visible s.rest → element supplied (type_names supplied) r s ≡ Ok (x, t) → TookOne (Before halts.stops (In Element)) s t x
  unfolding element
  element_in s t x v e =
      let c = chain (leading supplied (type_names supplied) r s) as_element x t e in
      let k = leading_in s c.rest c.value v c.was in
      let f = kept_if (open_range c.value) c.value x c.rest t c.goes in
      let all : TookOne (Before halts.stops (In Element)) s c.rest c.value = record { left = k.left; seen = k.seen; spelt = λ n stop. fitting c.value s.rest c.rest.rest f.0 (k.spelt n stop) } in
      subst (λ z. TookOne (Before halts.stops (In Element)) s z x) f.2 (subst (λ z. TookOne (Before halts.stops (In Element)) s c.rest z) f.1 all)

  -- one turn
  pub turn_took : (p : PatPlace) (s t : Stream) (x : Pat X) → Visible s.rest → pat_step supplied (type_names supplied) r p s ≡ Ok (x, t) → TookOne (Before halts.stops (In p)) s t x
  turn_took Single = single_in
  turn_took Multi = multi_in
  turn_took LeadingVert = leading_in
  turn_took Element = element_in
