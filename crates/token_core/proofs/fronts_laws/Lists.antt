-- Values and marks in turn, up to the end of a stream: what is promised of the list, by what is promised of each value and mark.
use Rattle.std.specs.Prelude.{◌≢◌, not}
use Rattle.std.proofs.Common.{◌≡◌, ℕ, zero, suc, ◌<◌, ◌≤◌, Bool, true, false, List, [], ◌∷◌, ◌++◌, map, None, Result, Ok, Err, refl, sym, ◌∙◌, ap, subst, arith, append-nil}
use Rattle.token_core.specs.declared.error.ErrorKind.TheVariants.{OutOfMemory}
use Rattle.token_core.specs.Fronted.{Begun, FrontAgain, Fronting, Fronted, Fronts, unsaid, said, given, by_part, KeepsFront, ReadTo, printed_on}
use Rattle.token_core.specs.Listed.{AreListed, Anywhere, none_left, last_value, value_and_mark}
use Rattle.token_core.specs.Lists.{joined}
use Rattle.token_core.specs.Loops.{Many, listed, listed_from, size, terminated}
use Rattle.token_core.specs.Prints.{Print}
use Rattle.token_core.specs.Reads.{Follows, Parsed, Reader, is_done, is_end}
use Rattle.token_core.specs.Rebuilt.{Visible}
use Rattle.token_core.specs.Refusal.{Refusal}
use Rattle.token_core.specs.Stream.{Stream}
use Rattle.token_core.specs.Terminated as turns
use Rattle.token_core.specs.Terminated.{Terminates, Refused}
use Rattle.token_core.specs.Toks.{Toks, done}
use Rattle.token_core.specs.Trees.{row}
use Rattle.token_core.specs.fronts.Lists.{Are, each_normal, print_each, each_plain, listing, Joins, listings, Read, Stopped, ReadTurns}
use Rattle.token_core.proofs.Ends.{done_of, ended, not_over, over, row_size}
use Rattle.token_core.proofs.Rows.{row-append}
use Rattle.token_core.proofs.Steps.{chosen, link}
use Rattle.token_core.proofs.Turns.{size_suffix}
use Rattle.token_core.proofs.fronts_laws.Both.{none_before}

module _ {A P : Type 0} (F : Fronting A) (G : Fronting P) where
  abbrev some : ℕ → Bool → Reader (Many A P)
  some = listed_from (λ first. is_done) (λ first. F.grammar.reader) (λ l. not (is_done l)) G.grammar.reader

  abbrev printed_list : Many A P → Toks
  printed_list v = row (print_each F G v) done

  abbrev ReadAll : ℕ → Bool → Many A P → Stream → Type 0
  ReadAll n b v s = (t : Stream) × (some n b s ≡ Ok (each_normal F G v, t)) × (t.rest ≡ done) × (t.left ≡ None)

  -- the print of the list is a clear spelling of its normal form, and is read again to it
  record Again (b : Bool) (v : Many A P) : Type 0 where
    spells : Are F G true b (each_normal F G v).0 (each_normal F G v).1 (printed_list v)
    visible : Visible (printed_list v)
    stays : each_normal F G (each_normal F G v) ≡ each_normal F G v
    same : print_each F G (each_normal F G v) ≡ print_each F G v
    again : (n : ℕ) (s : Stream) → s.left ≡ None → s.rest ≡ printed_list v → size s.rest < n → ReadAll n b v s

  record Told (b : Bool) (s : Stream) (xs : List A) (ps : List P) (t : Stream) : Type 0 where
    ends : t.rest ≡ done
    sound : Are F G false b xs ps s.rest
    unique : (ys : List A) (qs : List P) → Are F G true b ys qs s.rest → (ys ≡ xs) × (qs ≡ ps)
    reprint : each_plain F G xs ps done → Again b (xs, ps)

  module _ (joins : Joins F G) where
    -- ---- the print

    none_again : (b : Bool) → Again b ([], [])
    none_again b = record { spells = none_left tt; visible = tt; stays = refl; same = refl; again = λ n s k e h. read_none n s k e h }
      where
        read_none : (n : ℕ) (s : Stream) → s.left ≡ None → s.rest ≡ done → size s.rest < n → ReadAll n b ([], []) s
        read_none zero s k e h = absurd (omega (arith, h))
        read_none (suc n) s k e h = (s, chosen (is_done s.rest) true _ _ s _ (ap is_done e ∙ over) refl, e, k)

    module _ (x : A) where
      -- alone
      alone_row : (k : Toks) → row (F.grammar.print x ++ []) k ≡ printed_on F x k
      alone_row k = ap (λ z. row z k) (append-nil (F.grammar.print x))

      alone_read : FrontAgain F x done → (b : Bool) (n : ℕ) (s : Stream) → s.left ≡ None → s.rest ≡ printed_list (x ∷ [], []) → size s.rest < n → ReadAll n b (x ∷ [], []) s
      alone_read f b zero s k e h = absurd (omega (arith, h))
      alone_read f b (suc n) s k e h =
          let r = f.again s k (e ∙ alone_row done) in
          let goes = ap is_done (e ∙ alone_row done) ∙ joins.starts (F.grammar.normal x) (printed_on F x done) done f.spells in
          (r.0, chosen (is_done s.rest) false _ _ s _ goes (link _ r.1 (chosen (not (is_done r.0.rest)) false _ _ r.0 _ (ap not (ap is_done r.2 ∙ over)) refl)), r.2, r.3)

      alone_again : FrontAgain F x done → (b : Bool) → Again b (x ∷ [], [])
      alone_again f b = record {
        spells = subst (λ l. Are F G true b (F.grammar.normal x ∷ []) [] l) (sym (alone_row done)) (last_value f.spells);
        visible = subst Visible (sym (alone_row done)) f.visible;
        stays = ap (λ z. (z ∷ [], [])) f.stays;
        same = ap (λ z. z ++ []) f.same;
        again = alone_read f b;
      }

      -- before a mark and others
      module _ (p : P) (v : Many A P) (m : FrontAgain G p (printed_list v)) (f : FrontAgain F x (printed_on G p (printed_list v))) (g : Again false v) where
        abbrev whole : Many A P
        whole = (x ∷ v.0, p ∷ v.1)

        whole_row : printed_list whole ≡ printed_on F x (printed_on G p (printed_list v))
        whole_row = row-append (F.grammar.print x) (G.grammar.print p ++ print_each F G v) done ∙ ap (row (F.grammar.print x)) (row-append (G.grammar.print p) (print_each F G v) done)

        more_read : (b : Bool) (n : ℕ) (s : Stream) → s.left ≡ None → s.rest ≡ printed_list whole → size s.rest < n → ReadAll n b whole s
        more_read b zero s k e h = absurd (omega (arith, h))
        more_read b (suc n) s k e h =
            let r = f.again s k (e ∙ whole_row) in
            let goes = ap is_done (e ∙ whole_row) ∙ joins.starts (F.grammar.normal x) _ _ f.spells in
            let q = m.again r.0 r.3 r.2 in
            let less = joins.takes (G.grammar.normal p) (printed_on G p (printed_list v)) (printed_list v) m.spells in
            let long = row_size (F.grammar.print x) (printed_on G p (printed_list v)) f.visible in
            let there = ap size (e ∙ whole_row) in
            let here = ap size q.2 in
            let w = g.again n q.0 q.3 q.2 (omega (arith, h, less, long, there, here)) in (
              w.0,
              chosen (is_done s.rest) false _ _ s _ goes
                  (link {s = r.0} _ r.1
                  (chosen (not (is_done r.0.rest)) true _ _ r.0 _ (ap not (ap is_done r.2 ∙ joins.goes (G.grammar.normal p) _ _ m.spells)) (link {s = q.0} _ q.1 (link _ w.1 refl)))),
              w.2,
              w.3,
            )

        more_again : (b : Bool) → Again b whole
        more_again b = record {
          spells = subst (λ l. Are F G true b (F.grammar.normal x ∷ (each_normal F G v).0) (G.grammar.normal p ∷ (each_normal F G v).1) l) (sym whole_row) (value_and_mark f.spells m.spells g.spells);
          visible = subst Visible (sym whole_row) f.visible;
          stays = ap (λ z. (z ∷ map F.grammar.normal (each_normal F G v).0, map G.grammar.normal (G.grammar.normal p ∷ (each_normal F G v).1))) f.stays
              ∙ ap (λ z. (F.grammar.normal x ∷ map F.grammar.normal (each_normal F G v).0, z ∷ map G.grammar.normal (each_normal F G v).1)) m.stays
              ∙ ap (λ (z : Many A P). (F.grammar.normal x ∷ z.0, G.grammar.normal p ∷ z.1)) g.stays;
          same = ap (λ z. z ++ (G.grammar.print (G.grammar.normal p) ++ print_each F G (each_normal F G v))) f.same
              ∙ ap (λ z. F.grammar.print x ++ (z ++ print_each F G (each_normal F G v))) m.same
              ∙ ap (λ z. F.grammar.print x ++ (G.grammar.print p ++ z)) g.same;
          again = more_read b;
        }

    -- ---- what was read

    module _ (V : Stream → A → Stream → Type 0) (v_within : (s t : Stream) (x : A) → V s x t → Follows s t) (v_fronts : (s t : Stream) (x : A) → V s x t → Fronted F s (Ok x) t)
        (M : Stream → P → Stream → Type 0) (m_within : (s t : Stream) (p : P) → M s p t → Follows s t) (m_fronts : (s t : Stream) (p : P) → M s p t → Fronted G s (Ok p) t) where
      -- no tree was left over before
      left_before : (s t : Stream) (xs : List A) (ps : List P) → Terminates V M s xs ps t → t.left ≡ None → s.left ≡ None
      left_before s t xs ps (turns.at_end e) o = o
      left_before s t xs ps (turns.last_value {x = x} d v e) o = none_before s t (v_within s t x v) o
      left_before s t xs ps (turns.value_and_mark {t = a} {u = u} {x = x} {p = p} {xs = ys} {ps = qs} d v e g q i) o =
          none_before s a (v_within s a x v) (none_before a u (m_within a u p g) (left_before u t ys qs i o))

      -- what was read is what is spelt first
      one_same : (s t : Stream) (x : A) (l k : Toks) (y : A) → V s x t → s.left ≡ None → Visible s.rest → s.rest ≡ l → F.begins true y l k → F.follows k ≡ true → (y ≡ x) × (t.rest ≡ k) × (t.left ≡ None) × Visible t.rest
      one_same s t x l k y v n z e i o =
          let w = subst (λ m. F.begins true y m k) (sym e) i in
          let h = v_fronts s t x v n z in
          let c = h.1 y k w o in
          let b = h.0 c in
          let u = b.unique y k w o in
          (u.0, u.1, c, b.visible)

      mark_same : (s t : Stream) (p : P) (l k : Toks) (q : P) → M s p t → s.left ≡ None → Visible s.rest → s.rest ≡ l → G.begins true q l k → (q ≡ p) × (t.rest ≡ k) × (t.left ≡ None) × Visible t.rest
      mark_same s t p l k q v n z e i =
          let w = subst (λ m. G.begins true q m k) (sym e) i in
          let h = m_fronts s t p v n z in
          let c = h.1 q k w (joins.after k) in
          let b = h.0 c in
          let u = b.unique q k w (joins.after k) in
          (u.0, u.1, c, b.visible)

      -- where a list is spelt, no tree was left over in a group
      left_none : (s t : Stream) (xs : List A) (ps : List P) (b : Bool) (ys : List A) (qs : List P) (l : Toks) → Terminates V M s xs ps t → s.left ≡ None → Visible s.rest → s.rest ≡ l → Are F G true b ys qs l → t.left ≡ None
      left_none s t xs ps b ys qs l (turns.at_end e) n z q i = n
      left_none s t xs ps b ys qs l (turns.last_value d v e) n z q (none_left may) = absurd (not_over s.rest q d)
      left_none s t xs ps b ys qs l (turns.last_value {x = x} d v e) n z q (last_value {x = y} w) = (one_same s t x l done y v n z q w joins.ends).2
      left_none s t xs ps b ys qs l (turns.last_value {x = x} d v e) n z q (value_and_mark {x = y} {p = p} {m = m} {k = k} w j i) = (one_same s t x l m y v n z q w (joins.before true p m k j)).2
      left_none s t xs ps b ys qs l (turns.value_and_mark d v e g f i) n z q (none_left may) = absurd (not_over s.rest q d)
      left_none s t xs ps b ys qs l (turns.value_and_mark {t = a} {x = x} d v e g f i) n z q (last_value {x = y} w) = absurd (not_over a.rest (one_same s a x l done y v n z q w joins.ends).1 e)
      left_none s t xs ps b ys qs l (turns.value_and_mark {t = a} {u = u} {x = x} {p = p} {xs = xr} {ps = pr} d v e g f i) n z q (value_and_mark {x = y} {p = c} {xs = yr} {ps = cr} {m = m} {k = k} w j r) =
          let o = one_same s a x l m y v n z q w (joins.before true c m k j) in
          let c_same = mark_same a u p m k c g o.2 o.3 o.1 j in
          left_none u t xr pr false yr cr k i c_same.2 c_same.3 c_same.1 r

      told : (s t : Stream) (xs : List A) (ps : List P) (b : Bool) → Terminates V M s xs ps t → s.left ≡ None → Visible s.rest → t.left ≡ None → Told b s xs ps t
      told s t xs ps b (turns.at_end e) n z o = none_told s b (done_of s.rest z e)
        where
          none_told : (s : Stream) (b : Bool) → s.rest ≡ done → Told b s [] [] s
          none_told s b q = record {
            ends = q;
            sound = subst (λ l. Are F G false b [] [] l) (sym q) (none_left tt);
            unique = λ ys qs i. nothing_else ys qs (subst (λ l. Are F G true b ys qs l) q i);
            reprint = λ f. none_again b;
          }
            where
              nothing_else : (ys : List A) (qs : List P) → Are F G true b ys qs done → (ys ≡ []) × (qs ≡ [])
              nothing_else ys qs (none_left may) = (refl, refl)
              nothing_else ys qs (last_value {x = y} w) = absurd (not_over done refl (joins.starts y done done w))
              nothing_else ys qs (value_and_mark {x = y} {m = m} w j i) = absurd (not_over done refl (joins.starts y done m w))
      told s t xs ps b (turns.last_value {x = x} d v e) n z o =
          let f = (v_fronts s t x v n z).0 o in
          let q = done_of t.rest f.visible e in
          let may = ap F.follows q ∙ joins.ends in
          record {
            ends = q;
            sound = last_value (subst (λ l. F.begins false x s.rest l) q (f.sound may));
            unique = λ ys qs i. one_only ys qs s.rest refl i;
            reprint = λ g. alone_again x (f.reprint may done g tt joins.ends) b;
          }
        where
          one_only : (ys : List A) (qs : List P) (l : Toks) → s.rest ≡ l → Are F G true b ys qs l → (ys ≡ x ∷ []) × (qs ≡ [])
          one_only ys qs l q (none_left may) = absurd (not_over s.rest q d)
          one_only ys qs l q (last_value {x = y} w) = (ap (λ a. a ∷ []) (one_same s t x l done y v n z q w joins.ends).0, refl)
          one_only ys qs l q (value_and_mark {x = y} {p = p} {m = m} {k = k} w j i) =
              let u = one_same s t x l m y v n z q w (joins.before true p m k j) in
              let bad = sym e ∙ ap is_done u.1 ∙ joins.goes p m k j in
              absurd (cc bad)
      told s t xs ps b (turns.value_and_mark {t = a} {u = u} {x = x} {p = p} {xs = xr} {ps = pr} d v e g q i) n z o =
          let u_left = left_before u t xr pr i o in
          let a_left = none_before a u (m_within a u p g) u_left in
          let f = (v_fronts s a x v n z).0 a_left in
          let m = (m_fronts a u p g a_left f.visible).0 u_left in
          let rest = told u t xr pr false i u_left m.visible o in
          let mark = m.sound (joins.after u.rest) in
          let may = joins.before false p a.rest u.rest mark in
          record {
            ends = rest.ends;
            sound = value_and_mark (f.sound may) mark rest.sound;
            unique = λ ys qs j. same_list rest ys qs s.rest refl j;
            reprint = λ y. again_list f may m (rest.reprint y.2) y.0 y.1;
          }
        where
          same_list : Told false u xr pr t → (ys : List A) (qs : List P) (l : Toks) → s.rest ≡ l → Are F G true b ys qs l → (ys ≡ x ∷ xr) × (qs ≡ p ∷ pr)
          same_list rest ys qs l j (none_left may) = absurd (not_over s.rest j d)
          same_list rest ys qs l j (last_value {x = y} w) = absurd (not_over a.rest (one_same s a x l done y v n z j w joins.ends).1 e)
          same_list rest ys qs l j (value_and_mark {x = y} {p = c} {xs = yr} {ps = cr} {m = lm} {k = lk} w jm r) =
              let o = one_same s a x l lm y v n z j w (joins.before true c lm lk jm) in
              let c_same = mark_same a u p lm lk c g o.2 o.3 o.1 jm in
              let others = rest.unique yr cr (subst (λ k. Are F G true false yr cr k) (sym c_same.1) r) in
              (ap (λ q. q ∷ yr) o.0 ∙ ap (λ q. x ∷ q) others.0, ap (λ q. q ∷ cr) c_same.0 ∙ ap (λ q. p ∷ q) others.1)

          again_list : Begun F s a x → F.follows a.rest ≡ true → Begun G a u p → Again false (xr, pr) → F.plain x (printed_on G p (printed_list (xr, pr))) → G.plain p (printed_list (xr, pr)) → Again b (x ∷ xr, p ∷ pr)
          again_list f may m g y w =
              let c = m.reprint (joins.after u.rest) (printed_list (xr, pr)) w g.visible (joins.after (printed_list (xr, pr))) in
              let k = printed_on G p (printed_list (xr, pr)) in
              more_again x p (xr, pr) c (f.reprint may k y c.visible (joins.before true (G.grammar.normal p) k (printed_list (xr, pr)) c.spells)) g b

      listed_again : (v : Many A P) → Again true v → FrontAgain (listing F G) v done
      unfolding listed
      listed_again v g = record {
        spells = g.spells;
        visible = g.visible;
        stays = g.stays;
        same = g.same;
        again = λ s n e. g.again (suc (size s.rest)) s n e (omega arith);
      }

      pub listed_fronted : (s t : Stream) (v : Many A P) → Terminates V M s v.0 v.1 t → Fronted (listing F G) s (Ok v) t
      listed_fronted s t v i = λ n z. (λ c. begun (told s t v.0 v.1 true i n z c), λ w k j o. left_none s t v.0 v.1 true w.0 w.1 s.rest i n z refl (whole w k j o))
        where
          whole : (w : Many A P) (k : Toks) → (listing F G).begins true w s.rest k → is_end k ≡ true → Are F G true true w.0 w.1 s.rest
          whole w k j o = subst (λ m. (listing F G).begins true w s.rest m) (ended k o) j

          begun : Told true s v.0 v.1 t → Begun (listing F G) s t v
          begun h = record {
            visible = subst Visible (sym h.ends) tt;
            sound = λ o. subst (λ m. (listing F G).begins false v s.rest m) (sym h.ends) h.sound;
            unique = λ w k j o. let u = h.unique w.0 w.1 (whole w k j o) in (ap (λ z. (z, w.1)) u.0 ∙ ap (λ z. (v.0, z)) u.1, h.ends ∙ sym (ended k o));
            reprint = λ o k q y r. subst (λ m. FrontAgain (listing F G) v m) (sym (ended k r)) (listed_again v (h.reprint (subst (λ m. each_plain F G v.0 v.1 m) (ended k r) q)));
          }

      -- ---- what was refused

      module _ (N : Stream → Refusal → Type 0) (v_refused : (s : Stream) (e : Refusal) → N s e → Fronted F s (Err e) s) (O : Stream → Refusal → Type 0) (m_refused : (s : Stream) (e : Refusal) → O s e → Fronted G s (Err e) s) where
        no_list : (e : Refusal) (s : Stream) (b : Bool) (ys : List A) (qs : List P) (l : Toks) → Refused V M N O e s → e.kind ≢ OutOfMemory → s.left ≡ None → Visible s.rest → s.rest ≡ l → Are F G true b ys qs l → ⊥
        no_list e s b ys qs l (turns.no_value_there d f) k n z q (none_left may) = not_over s.rest q d
        no_list e s b ys qs l (turns.no_value_there d f) k n z q (last_value {x = y} w) = v_refused s e f k n z y done (subst (λ m. F.begins true y m done) (sym q) w) joins.ends
        no_list e s b ys qs l (turns.no_value_there d f) k n z q (value_and_mark {x = y} {p = c} {m = m} {k = r} w j i) = v_refused s e f k n z y m (subst (λ h. F.begins true y h m) (sym q) w) (joins.before true c m r j)
        no_list e s b ys qs l (turns.no_mark_there d v h f) k n z q (none_left may) = not_over s.rest q d
        no_list e s b ys qs l (turns.no_mark_there {t = t} {x = x} d v h f) k n z q (last_value {x = y} w) = not_over t.rest (one_same s t x l done y v n z q w joins.ends).1 h
        no_list e s b ys qs l (turns.no_mark_there {t = t} {x = x} d v h f) k n z q (value_and_mark {x = y} {p = c} {m = m} {k = r} w j i) =
            let o = one_same s t x l m y v n z q w (joins.before true c m r j) in
            m_refused t e f k o.2 o.3 c r (subst (λ y. G.begins true c y r) (sym o.1) j) (joins.after r)
        no_list e s b ys qs l (turns.nothing_taken d v h g r w) k n z q (none_left may) = not_over s.rest q d
        no_list e s b ys qs l (turns.nothing_taken {t = t} {x = x} d v h g r w) k n z q (last_value {x = y} j) = not_over t.rest (one_same s t x l done y v n z q j joins.ends).1 h
        no_list e s b ys qs l (turns.nothing_taken {t = t} {u = u} {x = x} {p = p} d v h g r w) k n z q (value_and_mark {x = y} {p = c} {m = m} {k = a} j f i) =
            let o = one_same s t x l m y v n z q j (joins.before true c m a f) in
            let same = mark_same t u p m a c g o.2 o.3 o.1 f in
            let less = joins.takes c m a f in
            let on = size_suffix (v_within s t x v).suffix in
            let at_u = ap size same.1 in
            let at_t = ap size o.1 in
            let at_s = ap size r in
            omega (arith, less, on, at_u, at_t, at_s)
        no_list e s b ys qs l (turns.later d v h g r f) k n z q (none_left may) = not_over s.rest q d
        no_list e s b ys qs l (turns.later {t = t} {x = x} d v h g r f) k n z q (last_value {x = y} w) = not_over t.rest (one_same s t x l done y v n z q w joins.ends).1 h
        no_list e s b ys qs l (turns.later {t = t} {u = u} {x = x} {p = p} d v h g r f) k n z q (value_and_mark {x = y} {p = c} {xs = yr} {ps = cr} {m = m} {k = a} w j i) =
            let o = one_same s t x l m y v n z q w (joins.before true c m a j) in
            let same = mark_same t u p m a c g o.2 o.3 o.1 j in
            no_list e u false yr cr a f k same.2 same.3 same.1 i

        listed_refused : (s t : Stream) (e : Refusal) → (e.kind ≢ OutOfMemory → Refused V M N O e s) → Fronted (listing F G) s (Err e) t
        listed_refused s t e i = λ k n z w m j o. no_list e s true w.0 w.1 s.rest (i k) k n z refl (subst (λ m. (listing F G).begins true w s.rest m) (ended m o) j)

        listed_kept : (s t : Stream) (r : Result (Many A P) Refusal) → Parsed (turns.Answers V M s) (λ e. Refused V M N O e s) r t → Fronted (listing F G) s r t
        listed_kept s t (Ok v) h = listed_fronted s t v h
        listed_kept s t (Err e) h = listed_refused s t e h

-- ---- of what values and marks say

module _ {A P : Type 0} (va : Stream → A → Stream → Type 0) (na : Stream → Refusal → Type 0) (vp : Stream → P → Stream → Type 0) (np : Stream → Refusal → Type 0) where
  abbrev Turns : Fronts A → Fronts P → Stream → Result (Many A P) Refusal → Stream → Type 0
  Turns = ReadTurns va na vp np

  kept_by : (f : Fronts A) (g : Fronts P) (F : Fronting A) (G : Fronting P) → ((s t : Stream) (r : Result A Refusal) → KeepsFront f s r t → Fronted F s r t) → ((s t : Stream) (r : Result P Refusal) → KeepsFront g s r t → Fronted G s r t) →
      Joins F G → (s t : Stream) (r : Result (Many A P) Refusal) → Turns f g s r t → Fronted (listing F G) s r t
  kept_by f g F G a p joins s t r h =
      listed_kept F G joins (Read va f) (λ s t x v. v.within) (λ s t x v. a s t (Ok x) v.fronts) (Read vp g) (λ s t x v. v.within) (λ s t x v. p s t (Ok x) v.fronts)
      (Stopped na f) (λ s e v. a s v.end (Err e) v.fronts) (Stopped np g) (λ s e v. p s v.end (Err e) v.fronts) s t r h

  pub turns_kept : (f : Fronts A) (g : Fronts P) (s t : Stream) (r : Result (Many A P) Refusal) → Turns f g s r t → KeepsFront (listings f g) s r t
  turns_kept unsaid g s t r h = tt
  turns_kept (said F) unsaid s t r h = tt
  turns_kept (said F) (said G) s t r h = λ j. kept_by (said F) (said G) F G (λ s t r k. k) (λ s t r k. k) j s t r h
  turns_kept (said F) (given Q G) s t r h = λ j. kept_by (said F) (given Q G) F G (λ s t r k. k) (λ s t r k. k j.0) j.1 s t r h
  turns_kept (given P F) unsaid s t r h = tt
  turns_kept (given P F) (said G) s t r h = λ j. kept_by (given P F) (said G) F G (λ s t r k. k j.0) (λ s t r k. k) j.1 s t r h
  turns_kept (given P F) (given Q G) s t r h = λ j. kept_by (given P F) (given Q G) F G (λ s t r k. k j.0) (λ s t r k. k j.1.0) j.1.1 s t r h

  module _ (f : Fronts A) (g : Fronts P) where
    answers : (s t : Stream) (xs : List A) (ps : List P) → Terminates (Read va f) (Read vp g) s xs ps t → Terminates va vp s xs ps t
    answers s t xs ps (turns.at_end e) = turns.at_end e
    answers s t xs ps (turns.last_value d v e) = turns.last_value d v.was e
    answers s t xs ps (turns.value_and_mark {u = u} {xs = ys} {ps = qs} d v e g n i) = turns.value_and_mark d v.was e g.was n (answers u t ys qs i)

    refuses : (e : Refusal) (s : Stream) → Refused (Read va f) (Read vp g) (Stopped na f) (Stopped np g) e s → Refused va vp na np e s
    refuses e s (turns.no_value_there d v) = turns.no_value_there d v.was
    refuses e s (turns.no_mark_there d v h m) = turns.no_mark_there d v.was h m.was
    refuses e s (turns.nothing_taken d v h m n w) = turns.nothing_taken d v.was h m.was n w
    refuses e s (turns.later {u = u} d v h m n i) = turns.later d v.was h m.was n (refuses e u i)

    -- without what is promised
    pub turns_read : (s t : Stream) (r : Result (Many A P) Refusal) → Turns f g s r t → Parsed (turns.Answers va vp s) (λ e. Refused va vp na np e s) r t
    turns_read s t (Ok v) h = answers s t v.0 v.1 h
    turns_read s t (Err e) h = λ k. refuses e s (h k)
