-- Values with commas between them, up to the end of a stream: how the list is read, and what is promised of it by what is promised of each value.
use Rattle.std.specs.Prelude.{◌≢◌, not}
use Rattle.std.proofs.Common.{◌≡◌, ℕ, zero, suc, ◌<◌, Bool, true, false, List, [], ◌∷◌, ◌++◌, map, None, Ok, Err, refl, sym, ◌∙◌, ap, subst, arith, append-nil}
use Rattle.token_core.specs.declared.error.ErrorKind.TheVariants.{OutOfMemory}
use Rattle.token_core.specs.Fronted.{Begun, FrontAgain, Fronting, Fronted, printed_on}
use Rattle.token_core.specs.Listed.{AreListed, Anywhere, none_left, last_value, value_and_mark}
use Rattle.token_core.specs.Lists.{joined}
use Rattle.token_core.specs.Loops.{Many, listed, listed_from, size, terminated}
use Rattle.token_core.specs.Prints as p
use Rattle.token_core.specs.Reads.{Fails, Follows, Gives, Outcome, Reader, is_done}
use Rattle.token_core.specs.Rebuilt.{Visible}
use Rattle.token_core.specs.Refusal.{Refusal}
use Rattle.token_core.specs.Spellings.{IsMark}
use Rattle.token_core.specs.Stream.{Stream}
use Rattle.token_core.specs.Terminated as turns
use Rattle.token_core.specs.Terminated.{Terminates, Refused}
use Rattle.token_core.specs.Toks.{Toks, done}
use Rattle.token_core.specs.Trees.{row}
use Rattle.token_core.proofs.MarkSpells.{mark_again, mark_sound, mark_visible, mark_whole}
use Rattle.token_core.proofs.Rows.{row-append}
use Rattle.token_core.proofs.Steps.{chosen, link}
use Rattle.token_core.proofs.Took.{at}
use Rattle.token_core.proofs.Turns.{size_suffix}
use Rattle.item_small.specs.item.Promises.{ends_field}
use Rattle.item_small.specs.item.Reading.{comma}
use Rattle.item_small.specs.item.Trees.{Comma}
use Rattle.token_core.proofs.fronts_laws.Both.{none_before}
use Rattle.token_core.proofs.fronts_laws.Refused.{stopped}
use Rattle.item_small.proofs.item_laws.Ends.{comma_follows, comma_goes, comma_left, comma_met, comma_same, comma_takes, done_of, end_follows, not_over, over, row_size}

module _ {X : Type 0} (reader : Reader X) where
  -- at most n values up to the end
  abbrev pub some : ℕ → Bool → Reader (Many X Comma)
  some = listed_from (λ first. is_done) (λ first. reader) (λ l. not (is_done l)) comma

-- a comma after what was read further on is not where that began
same_left : (s t u : Stream) (c : Comma) → Follows s t → comma t ≡ Ok (c, u) → u.rest ≡ s.rest → ⊥
same_left s t u c f e q =
    let a = comma_takes t u c e in
    let b = size_suffix f.suffix in
    let w = ap size q in
    absurd (omega (arith, a, b, w))

-- ---- each value is what its reference reader answers, further on: so is the list

module _ {X : Type 0} (reader : Reader X) (V : Stream → X → Stream → Type 0) (gives : (s t : Stream) (x : X) → V s x t → reader s ≡ Ok (x, t)) (within : (s t : Stream) (x : X) → V s x t → Follows s t) where
  -- less is left after a value and a comma
  less_left : (n : ℕ) (s t u : Stream) (x : X) (c : Comma) → size s.rest < suc n → V s x t → comma t ≡ Ok (c, u) → size u.rest < n
  less_left n s t u x c h v e =
      let a = comma_takes t u c e in
      let b = size_suffix (within s t x v).suffix in
      omega (arith, h, a, b)

  read_some : (n : ℕ) (b : Bool) (s t : Stream) (xs : List X) (cs : List Comma) → size s.rest < n → Terminates V (Gives comma) s xs cs t → some reader n b s ≡ Ok ((xs, cs), t)
  read_some zero b s t xs cs h i = absurd (omega (arith, h))
  read_some (suc n) b s t xs cs h (turns.at_end e) = chosen (is_done s.rest) true _ _ s _ e refl
  read_some (suc n) b s t xs cs h (turns.last_value {x = x} d v e) = chosen (is_done s.rest) false _ _ s _ d (link _ (gives s t x v) (chosen (not (is_done t.rest)) false _ _ t _ (ap not e) refl))
  read_some (suc n) b s t xs cs h (turns.value_and_mark {t = m} {u = u} {x = x} {p = c} {xs = ys} {ps = ds} d v e g q i) =
      let rest = read_some n false u t ys ds (less_left n s m u x c h v g) i in
      chosen (is_done s.rest) false _ _ s _ d (link _ (gives s m x v) (chosen (not (is_done m.rest)) true _ _ m _ (ap not e) (link _ g (link _ rest refl))))

  pub read_list : (s t : Stream) (xs : List X) (cs : List Comma) → Terminates V (Gives comma) s xs cs t → terminated is_done reader comma s ≡ Ok ((xs, cs), t)
  unfolding listed
  read_list s t xs cs i = read_some (suc (size s.rest)) true s t xs cs (omega arith) i

  module _ (N : Stream → Refusal → Type 0) (fails : (s : Stream) (e : Refusal) → N s e → reader s ≡ Err e) where
    refused_some : (n : ℕ) (b : Bool) (s : Stream) (e : Refusal) → size s.rest < n → Refused V (Gives comma) N (Fails comma) e s → some reader n b s ≡ Err e
    refused_some zero b s e h i = absurd (omega (arith, h))
    refused_some (suc n) b s e h (turns.no_value_there d f) = chosen (is_done s.rest) false _ _ s _ d (stopped _ e (fails s e f))
    refused_some (suc n) b s e h (turns.no_mark_there {t = t} {x = x} d v k f) =
        chosen (is_done s.rest) false _ _ s _ d (link _ (gives s t x v) (chosen (not (is_done t.rest)) true _ _ t _ (ap not k) (stopped _ e f)))
    refused_some (suc n) b s e h (turns.nothing_taken {t = t} {u = u} {x = x} {p = c} d v k g q w) = absurd (same_left s t u c (within s t x v) g q)
    refused_some (suc n) b s e h (turns.later {t = m} {u = u} {x = x} {p = c} d v k g q i) =
        let rest = refused_some n false u e (less_left n s m u x c h v g) i in
        chosen (is_done s.rest) false _ _ s _ d (link _ (gives s m x v) (chosen (not (is_done m.rest)) true _ _ m _ (ap not k) (link _ g (stopped _ e rest))))

    pub refused_list : (s : Stream) (e : Refusal) → Refused V (Gives comma) N (Fails comma) e s → terminated is_done reader comma s ≡ Err e
    unfolding listed
    refused_list s e i = refused_some (suc (size s.rest)) true s e (omega arith) i

-- ---- what is promised of the list

module _ {X : Type 0} (F : Fronting X) where
  -- all of a list
  abbrev pub Are : Bool → Bool → List X → List Comma → Toks → Type 0
  Are clear b xs cs l = AreListed (λ (_ : Bool). F.begins clear) (IsMark clear) Anywhere b xs cs l done

  abbrev pub normals : List X → List X
  normals = map F.grammar.normal

  abbrev pub shown : List X → List Comma → p.Print
  shown = joined F.grammar.print p.mark

  abbrev pub printed_list : List X → List Comma → Toks
  printed_list xs cs = row (shown xs cs) done

  abbrev pub Plain : List X → Type 0
  Plain [] = Unit {0}
  Plain (x ∷ xs) = F.grammar.plain x × Plain xs

  -- the print of the list is a clear spelling of its normal form, and is read again to it
  pub record Again (b : Bool) (xs : List X) (cs : List Comma) : Type 0 where
    pub spells : Are true b (normals xs) cs (printed_list xs cs)
    pub visible : Visible (printed_list xs cs)
    pub stays : normals (normals xs) ≡ normals xs
    pub same : shown (normals xs) cs ≡ shown xs cs
    pub again : (n : ℕ) (s : Stream) → s.left ≡ None → s.rest ≡ printed_list xs cs → size s.rest < n → (t : Stream) × (some F.grammar.reader n b s ≡ Ok ((normals xs, cs), t)) × (t.rest ≡ done) × (t.left ≡ None)

  pub record Told (b : Bool) (s : Stream) (xs : List X) (cs : List Comma) (t : Stream) : Type 0 where
    pub ends : t.rest ≡ done
    pub sound : Are false b xs cs s.rest
    pub unique : (ys : List X) (ds : List Comma) → Are true b ys ds s.rest → (ys ≡ xs) × (ds ≡ cs)
    pub reprint : Plain xs → Again b xs cs

  module _ (fits : (k : Toks) → ends_field k ≡ true → F.follows k ≡ true) (starts : (x : X) (l k : Toks) → F.begins true x l k → is_done l ≡ false) (keeps : (x : X) (k : Toks) → ends_field k ≡ true → F.grammar.plain x → F.plain x k) where
    -- ---- the print

    none_again : (b : Bool) → Again b [] []
    none_again b = record {
      spells = none_left tt;
      visible = tt;
      stays = refl;
      same = refl;
      again = λ n s k e h. read_none n s k e h;
    }
      where
        read_none : (n : ℕ) (s : Stream) → s.left ≡ None → s.rest ≡ done → size s.rest < n → (t : Stream) × (some F.grammar.reader n b s ≡ Ok (([], []), t)) × (t.rest ≡ done) × (t.left ≡ None)
        read_none zero s k e h = absurd (omega (arith, h))
        read_none (suc n) s k e h = (s, chosen (is_done s.rest) true _ _ s _ (ap is_done e ∙ over) refl, e, k)

    module _ (x : X) where
      -- alone
      alone_row : (k : Toks) → row (F.grammar.print x ++ []) k ≡ printed_on F x k
      alone_row k = ap (λ z. row z k) (append-nil (F.grammar.print x))

      alone_read : FrontAgain F x done → (b : Bool) (n : ℕ) (s : Stream) → s.left ≡ None → s.rest ≡ printed_list (x ∷ []) [] → size s.rest < n →
          (t : Stream) × (some F.grammar.reader n b s ≡ Ok ((F.grammar.normal x ∷ [], []), t)) × (t.rest ≡ done) × (t.left ≡ None)
      alone_read f b zero s k e h = absurd (omega (arith, h))
      alone_read f b (suc n) s k e h =
          let r = f.again s k (e ∙ alone_row done) in
          let goes = ap is_done (e ∙ alone_row done) ∙ starts (F.grammar.normal x) (printed_on F x done) done f.spells in
          (r.0, chosen (is_done s.rest) false _ _ s _ goes (link _ r.1 (chosen (not (is_done r.0.rest)) false _ _ r.0 _ (ap not (ap is_done r.2 ∙ over)) refl)), r.2, r.3)

      alone_again : FrontAgain F x done → (b : Bool) → Again b (x ∷ []) []
      alone_again f b = record {
        spells = subst (λ l. Are true b (F.grammar.normal x ∷ []) [] l) (sym (alone_row done)) (last_value f.spells);
        visible = subst Visible (sym (alone_row done)) f.visible;
        stays = ap (λ z. z ∷ []) f.stays;
        same = ap (λ z. z ++ []) f.same;
        again = alone_read f b;
      }

      -- before a comma and others
      module _ (c : Comma) (xs : List X) (cs : List Comma) (mark : IsMark true c (row (p.mark c) (printed_list xs cs)) (printed_list xs cs)) (f : FrontAgain F x (row (p.mark c) (printed_list xs cs))) (g : Again false xs cs) where
        whole_row : printed_list (x ∷ xs) (c ∷ cs) ≡ printed_on F x (row (p.mark c) (printed_list xs cs))
        whole_row = row-append (F.grammar.print x) (p.mark c ++ shown xs cs) done ∙ ap (row (F.grammar.print x)) (row-append (p.mark c) (shown xs cs) done)

        more_read : (b : Bool) (n : ℕ) (s : Stream) → s.left ≡ None → s.rest ≡ printed_list (x ∷ xs) (c ∷ cs) → size s.rest < n →
            (t : Stream) × (some F.grammar.reader n b s ≡ Ok ((F.grammar.normal x ∷ normals xs, c ∷ cs), t)) × (t.rest ≡ done) × (t.left ≡ None)
        more_read b zero s k e h = absurd (omega (arith, h))
        more_read b (suc n) s k e h =
            let r = f.again s k (e ∙ whole_row) in
            let goes = ap is_done (e ∙ whole_row) ∙ starts (F.grammar.normal x) _ _ f.spells in
            let m = comma_met r.0 c (row (p.mark c) (printed_list xs cs)) (printed_list xs cs) r.2 mark in
            let u : Stream = at (printed_list xs cs) r.0.left m.last r.0.scope in
            let less = comma_takes r.0 u c m.reads in
            let here = ap size r.2 in
            let long = row_size (F.grammar.print x) (row (p.mark c) (printed_list xs cs)) f.visible in
            let there = ap size (e ∙ whole_row) in
            let w = g.again n u r.3 refl (omega (arith, h, less, here, long, there)) in (
              w.0,
              chosen (is_done s.rest) false _ _ s _ goes
                  (link {s = r.0} _ r.1 (chosen (not (is_done r.0.rest)) true _ _ r.0 _ (ap not (ap is_done r.2 ∙ comma_goes true c _ _ mark)) (link {s = u} _ m.reads (link _ w.1 refl)))),
              w.2,
              w.3,
            )

        more_again : (b : Bool) → Again b (x ∷ xs) (c ∷ cs)
        more_again b = record {
          spells = subst (λ l. Are true b (F.grammar.normal x ∷ normals xs) (c ∷ cs) l) (sym whole_row) (value_and_mark f.spells mark g.spells);
          visible = subst Visible (sym whole_row) f.visible;
          stays = ap (λ z. z ∷ normals (normals xs)) f.stays ∙ ap (λ z. F.grammar.normal x ∷ z) g.stays;
          same = ap (λ z. z ++ (p.mark c ++ shown (normals xs) cs)) f.same ∙ ap (λ z. F.grammar.print x ++ (p.mark c ++ z)) g.same;
          again = more_read b;
        }

    -- ---- what was read

    module _ (V : Stream → X → Stream → Type 0) (within : (s t : Stream) (x : X) → V s x t → Follows s t) (fronts : (s t : Stream) (x : X) → V s x t → Fronted F s (Ok x) t) where
      after_comma : (t u : Stream) (c : Comma) → comma t ≡ Ok (c, u) → Visible t.rest → IsMark false c t.rest u.rest × (u.left ≡ t.left) × Visible u.rest
      after_comma t u c e v =
          let m = mark_sound {n = 4} {k = 1} refl (omega arith) t u c v e in
          (m.spelt, m.left, mark_visible false c t.rest u.rest m.spelt v)

      -- no tree was left over before
      left_before : (s t : Stream) (xs : List X) (cs : List Comma) → Terminates V (Gives comma) s xs cs t → t.left ≡ None → s.left ≡ None
      left_before s t xs cs (turns.at_end e) o = o
      left_before s t xs cs (turns.last_value {x = x} d v e) o = none_before s t (within s t x v) o
      left_before s t xs cs (turns.value_and_mark {t = a} {u = u} {x = x} {p = c} {xs = ys} {ps = ds} d v e g q i) o =
          none_before s a (within s a x v) (sym (comma_left a u c g) ∙ left_before u t ys ds i o)

      -- what was read is what is spelt first
      one_same : (s t : Stream) (x : X) (l k : Toks) (y : X) → V s x t → s.left ≡ None → Visible s.rest → s.rest ≡ l → F.begins true y l k → ends_field k ≡ true → (y ≡ x) × (t.rest ≡ k) × (t.left ≡ None) × Visible t.rest
      one_same s t x l k y v n z e i o =
          let w = subst (λ m. F.begins true y m k) (sym e) i in
          let h = fronts s t x v n z in
          let c = h.1 y k w (fits k o) in
          let b = h.0 c in
          let u = b.unique y k w (fits k o) in
          (u.0, u.1, c, b.visible)

      -- where a list is spelt, no tree was left over in a group
      pub left_none : (s t : Stream) (xs : List X) (cs : List Comma) (b : Bool) (ys : List X) (ds : List Comma) (l : Toks) → Terminates V (Gives comma) s xs cs t → s.left ≡ None → Visible s.rest → s.rest ≡ l → Are true b ys ds l → t.left ≡ None
      left_none s t xs cs b ys ds l (turns.at_end e) n z q i = n
      left_none s t xs cs b ys ds l (turns.last_value d v e) n z q (none_left may) = absurd (not_over s.rest q d)
      left_none s t xs cs b ys ds l (turns.last_value {x = x} d v e) n z q (last_value {x = y} w) = (one_same s t x l done y v n z q w end_follows).2
      left_none s t xs cs b ys ds l (turns.last_value {x = x} d v e) n z q (value_and_mark {x = y} {p = c} {m = m} {k = k} w j i) = (one_same s t x l m y v n z q w (comma_follows true c m k j)).2
      left_none s t xs cs b ys ds l (turns.value_and_mark d v e g f i) n z q (none_left may) = absurd (not_over s.rest q d)
      left_none s t xs cs b ys ds l (turns.value_and_mark {t = a} {x = x} d v e g f i) n z q (last_value {x = y} w) = absurd (not_over a.rest (one_same s a x l done y v n z q w end_follows).1 e)
      left_none s t xs cs b ys ds l (turns.value_and_mark {t = a} {u = u} {x = x} {p = c} {xs = xr} {ps = cr} d v e g f i) n z q (value_and_mark {x = y} {p = y_c} {xs = yr} {ps = dr} {m = m} {k = k} w j r) =
          let o = one_same s a x l m y v n z q w (comma_follows true y_c m k j) in
          let c_same = comma_same a u c y_c m k g o.1 j in
          left_none u t xr cr false yr dr k i (c_same.2 ∙ o.2) (after_comma a u c g o.3).2 c_same.1 r

      pub told : (s t : Stream) (xs : List X) (cs : List Comma) (b : Bool) → Terminates V (Gives comma) s xs cs t → s.left ≡ None → Visible s.rest → t.left ≡ None → Told b s xs cs t
      told s t xs cs b (turns.at_end e) n z o = none_told s b (done_of s.rest z e)
        where
          none_told : (s : Stream) (b : Bool) → s.rest ≡ done → Told b s [] [] s
          none_told s b q = record {
            ends = q;
            sound = subst (λ l. Are false b [] [] l) (sym q) (none_left tt);
            unique = λ ys ds i. nothing_else ys ds (subst (λ l. Are true b ys ds l) q i);
            reprint = λ p. none_again b;
          }
            where
              nothing_else : (ys : List X) (ds : List Comma) → Are true b ys ds done → (ys ≡ []) × (ds ≡ [])
              nothing_else ys ds (none_left may) = (refl, refl)
              nothing_else ys ds (last_value {x = y} w) = absurd (not_over done refl (starts y done done w))
              nothing_else ys ds (value_and_mark {x = y} {m = m} w j i) = absurd (not_over done refl (starts y done m w))
      told s t xs cs b (turns.last_value {x = x} d v e) n z o =
          let f = (fronts s t x v n z).0 o in
          let q = done_of t.rest f.visible e in
          let may = fits t.rest (ap ends_field q ∙ end_follows) in
          record {
            ends = q;
            sound = last_value (subst (λ l. F.begins false x s.rest l) q (f.sound may));
            unique = λ ys ds i. one_only ys ds s.rest refl i;
            reprint = λ p. alone_again x (f.reprint may done (keeps x done end_follows p.0) tt (fits done end_follows)) b;
          }
        where
          one_only : (ys : List X) (ds : List Comma) (l : Toks) → s.rest ≡ l → Are true b ys ds l → (ys ≡ x ∷ []) × (ds ≡ [])
          one_only ys ds l q (none_left may) = absurd (not_over s.rest q d)
          one_only ys ds l q (last_value {x = y} w) = (ap (λ a. a ∷ []) (one_same s t x l done y v n z q w end_follows).0, refl)
          one_only ys ds l q (value_and_mark {x = y} {p = c} {m = m} {k = k} w j i) =
              let u = one_same s t x l m y v n z q w (comma_follows true c m k j) in
              let c_goes = ap is_done u.1 ∙ comma_goes true c m k j in
              let bad = sym e ∙ c_goes in
              absurd (cc bad)
      told s t xs cs b (turns.value_and_mark {t = a} {u = u} {x = x} {p = c} {xs = xr} {ps = cr} d v e g q i) n z o =
          let a_left = clean in
          let f = (fronts s a x v n z).0 a_left in
          let m = after_comma a u c g f.visible in
          let rest = told u t xr cr false i (m.1 ∙ a_left) m.2 o in
          let may = fits a.rest (comma_follows false c a.rest u.rest m.0) in
          record {
            ends = rest.ends;
            sound = value_and_mark (f.sound may) m.0 rest.sound;
            unique = λ ys ds j. same_list f m rest ys ds s.rest refl j;
            reprint = λ p. again_list f may m (rest.reprint p.1) p.0;
          }
        where
          clean : a.left ≡ None
          clean = sym (comma_left a u c g) ∙ left_before u t xr cr i o

          same_list : Begun F s a x → IsMark false c a.rest u.rest × (u.left ≡ a.left) × Visible u.rest → Told false u xr cr t → (ys : List X) (ds : List Comma) (l : Toks) → s.rest ≡ l → Are true b ys ds l → (ys ≡ x ∷ xr) × (ds ≡ c ∷ cr)
          same_list f m rest ys ds l j (none_left may) = absurd (not_over s.rest j d)
          same_list f m rest ys ds l j (last_value {x = y} w) = absurd (not_over a.rest (one_same s a x l done y v n z j w end_follows).1 e)
          same_list f m rest ys ds l j (value_and_mark {x = y} {p = dc} {xs = yr} {ps = dr} {m = lm} {k = lk} w jm r) =
              let o = one_same s a x l lm y v n z j w (comma_follows true dc lm lk jm) in
              let c_same = comma_same a u c dc lm lk g o.1 jm in
              let others = rest.unique yr dr (subst (λ k. Are true false yr dr k) (sym c_same.1) r) in
              (ap (λ q. q ∷ yr) o.0 ∙ ap (λ q. x ∷ q) others.0, ap (λ q. q ∷ dr) c_same.0 ∙ ap (λ q. c ∷ q) others.1)

          again_list : Begun F s a x → F.follows a.rest ≡ true → IsMark false c a.rest u.rest × (u.left ≡ a.left) × Visible u.rest → Again false xr cr → F.grammar.plain x → Again b (x ∷ xr) (c ∷ cr)
          again_list f may m g h =
              let mark = mark_again false c a.rest u.rest (printed_list xr cr) m.0 in
              let k = row (p.mark c) (printed_list xr cr) in
              more_again x c xr cr mark (f.reprint may k (keeps x k (comma_follows true c k (printed_list xr cr) mark) h) (mark_whole true c k (printed_list xr cr) mark g.visible) (fits k (comma_follows true c k (printed_list xr cr) mark))) g b

      -- ---- what was refused

      module _ (N : Stream → Refusal → Type 0) (refused : (s : Stream) (e : Refusal) → N s e → Fronted F s (Err e) s) where
        pub no_list : (e : Refusal) (s : Stream) (b : Bool) (ys : List X) (ds : List Comma) (l : Toks) → Refused V (Gives comma) N (Fails comma) e s → e.kind ≢ OutOfMemory → s.left ≡ None → Visible s.rest → s.rest ≡ l → Are true b ys ds l → ⊥
        no_list e s b ys ds l (turns.no_value_there d f) k n z q (none_left may) = absurd (not_over s.rest q d)
        no_list e s b ys ds l (turns.no_value_there d f) k n z q (last_value {x = y} w) = refused s e f k n z y done (subst (λ m. F.begins true y m done) (sym q) w) (fits done end_follows)
        no_list e s b ys ds l (turns.no_value_there d f) k n z q (value_and_mark {x = y} {p = c} {m = m} {k = r} w j i) = refused s e f k n z y m (subst (λ h. F.begins true y h m) (sym q) w) (fits m (comma_follows true c m r j))
        no_list e s b ys ds l (turns.no_mark_there d v h f) k n z q (none_left may) = absurd (not_over s.rest q d)
        no_list e s b ys ds l (turns.no_mark_there {t = t} {x = x} d v h f) k n z q (last_value {x = y} w) = absurd (not_over t.rest (one_same s t x l done y v n z q w end_follows).1 h)
        no_list e s b ys ds l (turns.no_mark_there {t = t} {x = x} d v h f) k n z q (value_and_mark {x = y} {p = c} {m = m} {k = r} w j i) =
            let o = one_same s t x l m y v n z q w (comma_follows true c m r j) in
            let g = comma_met t c m r o.1 j in
            let bad : ◌≡◌ {A = Outcome Comma} (Err e) (Ok (c, at r t.left g.last t.scope)) = sym f ∙ g.reads in
            absurd (cc bad)
        no_list e s b ys ds l (turns.nothing_taken {t = t} {u = u} {x = x} {p = c} d v h g r w) k n z q i = absurd (same_left s t u c (within s t x v) g r)
        no_list e s b ys ds l (turns.later d v h g r f) k n z q (none_left may) = absurd (not_over s.rest q d)
        no_list e s b ys ds l (turns.later {t = t} {x = x} d v h g r f) k n z q (last_value {x = y} w) = absurd (not_over t.rest (one_same s t x l done y v n z q w end_follows).1 h)
        no_list e s b ys ds l (turns.later {t = t} {u = u} {x = x} {p = c} d v h g r f) k n z q (value_and_mark {x = y} {p = dc} {xs = yr} {ps = dr} {m = m} {k = lk} w j i) =
            let o = one_same s t x l m y v n z q w (comma_follows true dc m lk j) in
            let c_same = comma_same t u c dc m lk g o.1 j in
            no_list e u false yr dr lk f k (c_same.2 ∙ o.2) (after_comma t u c g o.3).2 c_same.1 i
