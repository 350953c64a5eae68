-- A read of a pair keeps what it promises on the front of a list, by what the reads of its values promise there.
use Rattle.std.specs.Prelude.{◌≢◌, IsErr, IsErrAnd}
use Rattle.std.proofs.Common.{◌≡◌, true, false, ◌++◌, Option, Some, None, Result, Ok, Err, refl, sym, ◌∙◌, ap, subst, arith}
use Rattle.token_core.specs.declared.error.ErrorKind.TheVariants.{OutOfMemory}
use Rattle.token_core.specs.declared.span.Span.{Span}
use Rattle.token_core.specs.Fronted.{Begun, FrontAgain, Fronting, Fronts, unsaid, said, given, Fronted, KeepsFront, ReadTo, printed_on}
use Rattle.token_core.specs.Prints as p
use Rattle.token_core.specs.Reads.{Follows, Outcome, first_of}
use Rattle.token_core.specs.Rebuilt.{Visible}
use Rattle.token_core.specs.Refusal.{Refusal}
use Rattle.token_core.specs.Spellings.{IsMark}
use Rattle.token_core.specs.Stream.{Stream}
use Rattle.token_core.specs.Tokens as token
use Rattle.token_core.specs.Toks.{Toks}
use Rattle.token_core.specs.Trees.{row}
use Rattle.token_core.proofs.MarkSpells.{mark_again, mark_complete, mark_seen, mark_sound, mark_visible, mark_whole}
use Rattle.token_core.proofs.Rows.{row-append}
use Rattle.token_core.proofs.Steps.{Reads_to, link}
use Rattle.token_core.proofs.Took.{at}
use Rattle.token_core.proofs.Turns.{same_pair}
use Rattle.syn_laws.specs.declared.pair.Pair.{Pair}
use Rattle.syn_laws.specs.pair.Fronts.{BeforeComma, Begins, KeepsPair, fronting, grammar, pair_of, read}

-- where none was left over after, none was before
none_at : (a b : Option Span) → first_of a b ≡ b → b ≡ None → a ≡ None
none_at None b h e = refl
none_at (Some x) b h e = cc

none_before : (s t : Stream) → Follows s t → t.left ≡ None → s.left ≡ None
none_before s t h e = none_at s.left t.left h.kept e

-- ---- the comma

-- where one is spelt, it is read
comma_met : (s : Stream) (c : token.Comma) (l n : Toks) → s.rest ≡ l → IsMark true c l n → Reads_to token.comma c s.rest n s.left s.last s.scope
comma_met s c l n e i = mark_complete true refl (omega arith) c s.rest n s.left s.last s.scope (subst (λ z. IsMark true c z n) (sym e) i)

comma_same : (s t : Stream) (c d : token.Comma) (l n : Toks) → token.comma s ≡ Ok (c, t) → s.rest ≡ l → IsMark true d l n → (d ≡ c) × (t.rest ≡ n) × (t.left ≡ s.left)
comma_same s t c d l n g e i =
    let m = comma_met s d l n e i in
    let same = same_pair d c (at n s.left m.last s.scope) t (sym m.reads ∙ g) in
    (same.0, ap (λ (z : Stream). z.rest) (sym same.1), ap (λ (z : Stream). z.left) (sym same.1))

module _ {T : Type 0} (F : Fronting T) (may : BeforeComma F) where
  -- what follows the first of a pair that is spelt
  comma_after : (x : Pair T) (l k : Toks) (i : Begins F true x l k) → F.follows i.at ≡ true
  comma_after x l k i = may i.at (mark_seen true x.comma i.at i.past i.comma)

  -- the first of a pair that is spelt is what was read
  first_same : (s t : Stream) (a : T) → Fronted F s (Ok a) t → s.left ≡ None → Visible s.rest → (x : Pair T) (k : Toks) (i : Begins F true x s.rest k) → (x.first ≡ a) × (t.rest ≡ i.at) × (t.left ≡ None) × Visible i.at
  first_same s t a h n v x k i =
      let o = comma_after x s.rest k i in
      let e = (h n v).1 x.first i.at i.first o in
      let b = (h n v).0 e in
      let u = b.unique x.first i.at i.first o in
      (u.0, u.1, e, subst Visible u.1 b.visible)

  -- ---- refused

  pub no_first : (s t : Stream) (e : Refusal) → Fronted F s (Err e) t → Fronted (fronting F) s (Err e) t
  no_first s t e h = λ k n v x m i o. h k n v x.first i.at i.first (comma_after x s.rest m i)

  pub no_comma : (s t u : Stream) (a : T) (e : Refusal) → Fronted F s (Ok a) t → (e.kind ≢ OutOfMemory → token.comma t ≡ Err e) → Fronted (fronting F) s (Err e) u
  no_comma s t u a e h r = λ k n v x m i o.
      let f = first_same s t a h n v x m i in
      let c = comma_met t x.comma i.at i.past f.1 i.comma in
      let w : ◌≡◌ {A = Outcome token.Comma} (Err e) (Ok (x.comma, at i.past t.left c.last t.scope)) = sym (r k) ∙ c.reads in
      absurd (cc)

  pub no_second : (s t u w : Stream) (a : T) (c : token.Comma) (e : Refusal) → Fronted F s (Ok a) t → token.comma t ≡ Ok (c, u) → Fronted F u (Err e) w → Fronted (fronting F) s (Err e) w
  no_second s t u w a c e h g r = λ k n v x m i o.
      let f = first_same s t a h n v x m i in
      let d = comma_same t u c x.comma i.at i.past g f.1 i.comma in
      let z = mark_visible true x.comma i.at i.past i.comma f.3 in
      r k (d.2 ∙ f.2) (subst Visible (sym d.1) z) x.second m (subst (λ y. F.begins true x.second y m) (sym d.1) i.second) o

  -- ---- answered

  printed_parts : (a b : T) (c : token.Comma) (k : Toks) → printed_on (fronting F) (pair_of a c b) k ≡ printed_on F a (row (p.mark c) (printed_on F b k))
  printed_parts a b c k = row-append (F.grammar.print a ++ p.mark c) (F.grammar.print b) k ∙ row-append (F.grammar.print a) (p.mark c) (printed_on F b k)

  module _ (a b : T) (c : token.Comma) (k : Toks) (mark : IsMark true c (row (p.mark c) (printed_on F b k)) (printed_on F b k)) (first : FrontAgain F a (row (p.mark c) (printed_on F b k))) (second : FrontAgain F b k) where
    read_again : (s : Stream) → s.left ≡ None → s.rest ≡ printed_on (fronting F) (pair_of a c b) k → ReadTo (fronting F) ((grammar F).normal (pair_of a c b)) s k
    unfolding read
    read_again s n e =
        let f = first.again s n (e ∙ printed_parts a b c k) in
        let m = comma_met f.0 c (row (p.mark c) (printed_on F b k)) (printed_on F b k) f.2 mark in
        let g = second.again (at (printed_on F b k) f.0.left m.last f.0.scope) f.3 refl in
        (g.0, link _ f.1 (link _ m.reads (link _ g.1 refl)), g.2, g.3)

    pair_again : FrontAgain (fronting F) (pair_of a c b) k
    pair_again = record {
      spells = subst (λ l. Begins F true ((grammar F).normal (pair_of a c b)) l k) (sym (printed_parts a b c k))
          (record { at = row (p.mark c) (printed_on F b k); past = printed_on F b k; first = first.spells; comma = mark; second = second.spells });
      visible = subst Visible (sym (printed_parts a b c k)) first.visible;
      stays = ap (λ x. pair_of x c (F.grammar.normal (F.grammar.normal b))) first.stays ∙ ap (λ x. pair_of (F.grammar.normal a) c x) second.stays;
      same = ap (λ x. x ++ p.mark c ++ F.grammar.print (F.grammar.normal b)) first.same ∙ ap (λ x. F.grammar.print a ++ p.mark c ++ x) second.same;
      again = read_again;
    }

  module _ (s t u w : Stream) (a b : T) (c : token.Comma) (h : Fronted F s (Ok a) t) (g : token.comma t ≡ Ok (c, u)) (i : Fronted F u (Ok b) w) (n : s.left ≡ None) (v : Visible s.rest) where
    -- one that is spelt is the one that was read, up to its second
    parts_same : (x : Pair T) (k : Toks) (q : Begins F true x s.rest k) → (x.first ≡ a) × (x.comma ≡ c) × (u.rest ≡ q.past) × (u.left ≡ None) × Visible u.rest
    parts_same x k q =
        let f = first_same s t a h n v x k q in
        let d = comma_same t u c x.comma q.at q.past g f.1 q.comma in
        (f.0, d.0, d.1, d.2 ∙ f.2, subst Visible (sym d.1) (mark_visible true x.comma q.at q.past q.comma f.3))

    -- and so is its second
    left_none : (x : Pair T) (k : Toks) → Begins F true x s.rest k → F.follows k ≡ true → w.left ≡ None
    left_none x k q o = let d = parts_same x k q in (i d.3 d.4).1 x.second k (subst (λ y. F.begins true x.second y k) (sym d.2) q.second) o

    module _ (first : Begun F s t a) (second : Begun F u w b) (mark : IsMark false c t.rest u.rest) where
      pair_same : (x : Pair T) (k : Toks) → Begins F true x s.rest k → F.follows k ≡ true → (x ≡ pair_of a c b) × (w.rest ≡ k)
      pair_same x k q o =
          let d = parts_same x k q in
          let e = second.unique x.second k (subst (λ y. F.begins true x.second y k) (sym d.2) q.second) o in
          (ap (λ y. pair_of y x.comma x.second) d.0 ∙ ap (λ y. pair_of a y x.second) d.1 ∙ ap (λ y. pair_of a c y) e.0, e.1)

      -- a comma follows the first
      comma_follows : F.follows t.rest ≡ true
      comma_follows = may t.rest (mark_seen false c t.rest u.rest mark)

      reprinted : F.follows w.rest ≡ true → (k : Toks) → F.plain a (row (p.mark c) (printed_on F b k)) → F.plain b k → Visible k → F.follows k ≡ true → FrontAgain (fronting F) (pair_of a c b) k
      reprinted f k x y z o =
          let e = second.reprint f k y z o in
          let m = mark_again false c t.rest u.rest (printed_on F b k) mark in
          let l = row (p.mark c) (printed_on F b k) in
          pair_again a b c k m (first.reprint comma_follows l x (mark_whole true c l (printed_on F b k) m e.visible) (may l (mark_seen true c l (printed_on F b k) m))) e

      begun : Begun (fronting F) s w (pair_of a c b)
      begun = record {
        visible = second.visible;
        sound = λ o. record { at = t.rest; past = u.rest; first = first.sound comma_follows; comma = mark; second = second.sound o };
        unique = pair_same;
        reprint = λ f k x. reprinted f k x.0 x.1;
      }

    begun_clean : Follows t u → Follows u w → w.left ≡ None → Begun (fronting F) s w (pair_of a c b)
    begun_clean f j e =
        let un = none_before u w j e in
        let tn = none_before t u f un in
        let first = (h n v).0 tn in
        let m = mark_sound {n = 4} {k = 1} refl (omega arith) t u c first.visible g in
        begun first ((i un (mark_visible false c t.rest u.rest m.spelt first.visible)).0 e) m.spelt

  pub paired : (s t u w : Stream) (a b : T) (c : token.Comma) → Fronted F s (Ok a) t → token.comma t ≡ Ok (c, u) → Fronted F u (Ok b) w → Follows t u → Follows u w → Fronted (fronting F) s (Ok (pair_of a c b)) w
  paired s t u w a b c h g i f j = λ n v. (begun_clean s t u w a b c h g i n v f j, left_none s t u w a b c h g i n v)

-- ---- of what a type says of fronts

refusal_is : {A : Type 0} (r : Result A Refusal) (e : Refusal) → IsErr r × IsErrAnd r (λ z. z ≡ e) → r ≡ Err e
refusal_is (Ok x) e h = absurd h.1
refusal_is (Err d) e h = ap (λ z. Err z) h.1

module _ {T : Type 0} where
  pub keeps_no_first : (f : Fronts T) (s t : Stream) (e : Refusal) (r : Result (Pair T) Refusal) → IsErr r × IsErrAnd r (λ z. z ≡ e) → KeepsFront f s (Err e) t → KeepsPair f s r t
  keeps_no_first unsaid s t e r q h = tt
  keeps_no_first (said F) s t e r q h = λ may. subst (λ z. Fronted (fronting F) s z t) (sym (refusal_is r e q)) (no_first F may s t e h)
  keeps_no_first (given P F) s t e r q h = λ p may. subst (λ z. Fronted (fronting F) s z t) (sym (refusal_is r e q)) (no_first F may s t e (h p))

  pub keeps_no_comma : (f : Fronts T) (s t u : Stream) (a : T) (e : Refusal) (r : Result (Pair T) Refusal) → IsErr r × IsErrAnd r (λ z. z ≡ e) → KeepsFront f s (Ok a) t → (e.kind ≢ OutOfMemory → token.comma t ≡ Err e) → KeepsPair f s r u
  keeps_no_comma unsaid s t u a e r q h g = tt
  keeps_no_comma (said F) s t u a e r q h g = λ may. subst (λ z. Fronted (fronting F) s z u) (sym (refusal_is r e q)) (no_comma F may s t u a e h g)
  keeps_no_comma (given P F) s t u a e r q h g = λ p may. subst (λ z. Fronted (fronting F) s z u) (sym (refusal_is r e q)) (no_comma F may s t u a e (h p) g)

  pub keeps_no_second : (f : Fronts T) (s t u w : Stream) (a : T) (c : token.Comma) (e : Refusal) (r : Result (Pair T) Refusal) → IsErr r × IsErrAnd r (λ z. z ≡ e) →
      KeepsFront f s (Ok a) t → token.comma t ≡ Ok (c, u) → KeepsFront f u (Err e) w → KeepsPair f s r w
  keeps_no_second unsaid s t u w a c e r q h g i = tt
  keeps_no_second (said F) s t u w a c e r q h g i = λ may. subst (λ z. Fronted (fronting F) s z w) (sym (refusal_is r e q)) (no_second F may s t u w a c e h g i)
  keeps_no_second (given P F) s t u w a c e r q h g i = λ p may. subst (λ z. Fronted (fronting F) s z w) (sym (refusal_is r e q)) (no_second F may s t u w a c e (h p) g (i p))

  pub keeps_pair : (f : Fronts T) (s t u w : Stream) (a b : T) (c : token.Comma) → KeepsFront f s (Ok a) t → token.comma t ≡ Ok (c, u) → KeepsFront f u (Ok b) w → Follows t u → Follows u w → KeepsPair f s (Ok (pair_of a c b)) w
  keeps_pair unsaid s t u w a b c h g i j k = tt
  keeps_pair (said F) s t u w a b c h g i j k = λ may. paired F may s t u w a b c h g i j k
  keeps_pair (given P F) s t u w a b c h g i j k = λ p may. paired F may s t u w a b c (h p) g (i p) j k
