-- A sorted list of values with commas prints clearly in its normal form, where each value does: those that come first, a comma where they need one, and the others.
use Rattle.std.proofs.Common.{◌≡◌, Bool, true, false, not, ◌&&◌, if◌then◌else◌, List, [], ◌∷◌, ◌++◌, Some, None, map, refl, sym, ◌∙◌, ap, subst, append_assoc, append-nil}
use Rattle.std.specs.Prelude.{cond, filter}
use Rattle.syn_ty.proofs.ty_laws.words.Tokens.{AreListed, none_left, last_value, value_and_mark, Anywhere, Many, Print, Visible, IsMark, Toks, row}
use Rattle.syn_ty.proofs.ty_laws.words.Types.{Member, comma_of, lacks, some_left, adds, each, members, firsts, others, sorted, sort, many, Comma, comma}
use Rattle.token_core.specs.Prints as p
use Rattle.token_core.proofs.MarkSpells.{mark_again, mark_print, mark_visible, mark_whole}
use Rattle.token_core.proofs.Rows.{row-append}
use Rattle.syn_path.proofs.Words.{AgainFront}
use Rattle.syn_ty.specs.generics.Members.{completed, commas_of, values_of, added, first_members, in_order}
use Rattle.syn_ty.proofs.generics_laws.Members.{true_false, sort_stays, sort_prints, sort_map, sorted_map, sorted_agrees}
use Rattle.syn_ty.proofs.generics_laws.Sorted.{each_append}
use Rattle.syn_ty.proofs.ty_laws.Each.{Each, map_stays}

-- ---- what is known of each value, and of each comma

module _ {A : Type 0} (G : A → Type 0) (C : Comma → Type 0) where
  -- each but the last has a comma; each has one
  abbrev Ends : List (Member A) → Type 0
  Ends [] = Unit {0}
  Ends ((x, None) ∷ []) = G x
  Ends ((x, None) ∷ y ∷ l) = ⊥
  Ends ((x, Some c) ∷ l) = G x × C c × Ends l

  abbrev Full : List (Member A) → Type 0
  Full [] = Unit {0}
  Full ((x, None) ∷ l) = ⊥
  Full ((x, Some c) ∷ l) = G x × C c × Full l

  ends_filter : (q : Member A → Bool) (l : List (Member A)) → Ends l → Ends (filter q l)
  ends_filter q [] h = tt
  ends_filter q ((x, None) ∷ []) h = elim (q (x, None)) as (λ b. Ends (cond b ((x, None) ∷ []) [])) [ true ↦ h | false ↦ tt ]
  ends_filter q ((x, None) ∷ y ∷ l) h = absurd h
  ends_filter q ((x, Some c) ∷ l) h =
      let k = ends_filter q l h.2 in elim (q (x, Some c)) as (λ b. Ends (cond b ((x, Some c) ∷ filter q l) (filter q l))) [ true ↦ (h.0, h.1, k) | false ↦ k ]

  full_unless : (l : List (Member A)) → Ends l → lacks l ≡ false → Full l
  full_unless [] h e = tt
  full_unless ((x, None) ∷ []) h e = true_false e
  full_unless ((x, None) ∷ y ∷ l) h e = absurd h
  full_unless ((x, Some c) ∷ []) h e = (h.0, h.1, tt)
  full_unless ((x, Some c) ∷ y ∷ l) h e = (h.0, h.1, full_unless (y ∷ l) h.2 e)

  ends_append : (a b : List (Member A)) → Full a → Ends b → Ends (a ++ b)
  ends_append [] b h k = k
  ends_append ((x, None) ∷ l) b h k = absurd h
  ends_append ((x, Some c) ∷ l) b h k = (h.0, h.1, ends_append l b h.2 k)

  -- the comma that stands nowhere is one
  module _ (stands : C comma) where
    ends_members : (xs : List A) (cs : List Comma) → Each G xs → Each C cs → Ends (members xs cs)
    ends_members [] cs h k = tt
    ends_members (x ∷ []) [] h k = h.0
    ends_members (x ∷ y ∷ l) [] h k = (h.0, stands, ends_members (y ∷ l) [] h.1 k)
    ends_members (x ∷ l) (c ∷ cs) h k = (h.0, k.0, ends_members l cs h.1 k.1)

    full_completed : (l : List (Member A)) → Ends l → Full (completed l)
    full_completed [] h = tt
    full_completed ((x, None) ∷ []) h = (h, stands, tt)
    full_completed ((x, None) ∷ y ∷ l) h = absurd h
    full_completed ((x, Some c) ∷ []) h = (h.0, h.1, tt)
    full_completed ((x, Some c) ∷ y ∷ l) h = (h.0, h.1, full_completed (y ∷ l) h.2)

    ends_order : (b : Bool) (l r : List (Member A)) → adds l r ≡ b → Ends l → Ends r → Ends ((if b then completed l else l) ++ r)
    ends_order true l r e h k = ends_append (completed l) r (full_completed l h) k
    ends_order false l [] e h k = subst Ends (sym (append-nil l)) h
    ends_order false l (y ∷ r) e h k =
        ends_append l (y ∷ r) (full_unless l h (elim (lacks l) as (λ b. b && true ≡ false → b ≡ false) [ true ↦ λ d. d | false ↦ λ d. refl ] e)) k

    ends_sorted : (q : A → Bool) (xs : List A) (cs : List Comma) → Each G xs → Each C cs → Ends (in_order q (xs, cs))
    ends_sorted q xs cs h k =
        let m = ends_members xs cs h k in
        ends_order (adds (firsts q (xs, cs)) (others q (xs, cs))) (firsts q (xs, cs)) (others q (xs, cs)) refl (ends_filter (λ x. q x.0) (members xs cs) m) (ends_filter (λ x. not (q x.0)) (members xs cs) m)

-- ---- a sorted list prints its values in their order

module _ {A : Type 0} (f : A → Print) where
  each_completed : (l : List (Member A)) → lacks l ≡ true → each f (completed l) ≡ each f l ++ p.mark comma
  each_completed [] e = true_false (sym e)
  each_completed ((x, None) ∷ []) e = ap (λ z. f x ++ z) (append-nil (p.mark comma)) ∙ ap (λ z. z ++ p.mark comma) (sym (append-nil (f x)))
  each_completed ((x, Some c) ∷ []) e = true_false (sym e)
  each_completed (x ∷ y ∷ l) e =
      ap (λ z. f x.0 ++ (comma_of x.1 ++ z)) (each_completed (y ∷ l) e) ∙ ap (λ z. f x.0 ++ z) (sym (append_assoc (comma_of x.1) (each f (y ∷ l)) (p.mark comma)))
      ∙ sym (append_assoc (f x.0) (comma_of x.1 ++ each f (y ∷ l)) (p.mark comma))

  order_prints : (b : Bool) (l r : List (Member A)) → adds l r ≡ b → each f (if b then completed l else l) ≡ each f l ++ (if b then p.mark comma else [])
  order_prints true l r e = each_completed l (elim (lacks l) as (λ b. b && some_left r ≡ true → b ≡ true) [ true ↦ λ d. refl | false ↦ λ d. d ] e)
  order_prints false l r e = sym (append-nil (each f l))

  prints_in_order : (q : A → Bool) (v : Many A Comma) → each f (in_order q v) ≡ sorted q f v
  prints_in_order q v =
      each_append f (first_members q v) (others q v)
      ∙ ap (λ z. z ++ each f (others q v)) (order_prints (adds (firsts q v) (others q v)) (firsts q v) (others q v) refl) ∙ append_assoc (each f (firsts q v)) (added q v) (each f (others q v))

-- ---- values that each print clearly

-- a comma prints clearly, whatever follows
abbrev IsClear : Comma → Type 0
IsClear c = (k : Toks) → IsMark true c (row (p.mark c) k) k

comma_clear : IsClear comma
comma_clear k = mark_print comma k refl

-- values joined by commas, of which there may be none, and the last may have its comma
abbrev pub AreCommas : {A : Type 0} → (A → Toks → Toks → Type 0) → Bool → Bool → List A → List Comma → Toks → Toks → Type 0
AreCommas {A = A} Is clear first xs cs l r = AreListed {A = A} {P = Comma} (λ (_ : Bool). Is) (IsMark clear {n = 4} {k = 1}) Anywhere first xs cs l r

module _ {A : Type 0} (Js : A → Toks → Toks → Type 0) (n : A → A) (f : A → Print) (V : Type 0) where
  -- the same as `AgainFront`, where a fact of the whole list makes the value visible
  record Prints (x : A) : Type 0 where
    spelt : (k : Toks) → Js (n x) (row (f x) k) k
    visible : (k : Toks) → V → Visible k → Visible (row (f x) k)
    stays : n (n x) ≡ n x
    same : f (n x) ≡ f x

  abbrev AllPrint : List (Member A) → Type 0
  AllPrint = Ends Prints IsClear

  row-member : (x : A) (c : Comma) (l : List (Member A)) (k : Toks) → row (each f ((x, Some c) ∷ l)) k ≡ row (f x) (row (p.mark c) (row (each f l) k))
  row-member x c l k = row-append (f x) (p.mark c ++ each f l) k ∙ ap (row (f x)) (row-append (p.mark c) (each f l) k)

  listed_each : (first : Bool) (l : List (Member A)) (k : Toks) → AllPrint l → AreCommas Js true first (map n (values_of l)) (commas_of l) (row (each f l) k) k
  listed_each first [] k h = none_left tt
  listed_each first ((x, None) ∷ []) k h = subst (λ z. AreCommas Js true first (n x ∷ []) [] z k) (sym (row-append (f x) [] k)) (last_value (h.spelt k))
  listed_each first ((x, None) ∷ y ∷ l) k h = absurd h
  listed_each first ((x, Some c) ∷ l) k h =
      subst (λ z. AreCommas Js true first (n x ∷ map n (values_of l)) (c ∷ commas_of l) z k) (sym (row-member x c l k))
      (value_and_mark (h.0.spelt (row (p.mark c) (row (each f l) k))) (h.1 (row (each f l) k)) (listed_each false l k h.2))

  visible_each : (l : List (Member A)) (k : Toks) → AllPrint l → V → Visible k → Visible (row (each f l) k)
  visible_each [] k h v w = w
  visible_each ((x, None) ∷ []) k h v w = subst Visible (sym (row-append (f x) [] k)) (h.visible k v w)
  visible_each ((x, None) ∷ y ∷ l) k h v w = absurd h
  visible_each ((x, Some c) ∷ l) k h v w =
      let rest = row (each f l) k in
      subst Visible (sym (row-member x c l k)) (h.0.visible (row (p.mark c) rest) v (mark_whole true c (row (p.mark c) rest) rest (h.1 rest) (visible_each l k h.2 v w)))

-- what is known of a list whose values print clearly
module _ {A : Type 0} (Is Js : A → Toks → Toks → Type 0) (n : A → A) (f : A → Print) (value : (x : A) (l r : Toks) → Is x l r → AgainFront Js n f x l r) where
  -- of a fact that makes the list visible
  record Listed (V : Type 0) (xs : List A) (cs : List Comma) (r : Toks) : Type 0 where
    values : Each (Prints Js n f V) xs
    commas : Each IsClear cs
    seen : V → Visible r

  listed_prints : (V : Type 0) (first : Bool) (xs : List A) (cs : List Comma) (l r : Toks) → (V → Visible l) → AreCommas Is false first xs cs l r → Listed V xs cs r
  listed_prints V first xs cs l r v (none_left u) = record { values = tt; commas = tt; seen = v }
  listed_prints V first xs cs l r v (last_value {x = x} i) =
      let k = value x l r i in
      record { values = (record { spelt = k.spelt; visible = λ h u w. k.visible h (v u) w; stays = k.stays; same = k.same }, tt); commas = tt; seen = λ u. k.seen (v u) }
  listed_prints V first xs cs l r v (value_and_mark {x = x} {p = c} {xs = ys} {ps = ds} {m = m} {k = o} i j t) =
      let k = value x l m i in
      let w = listed_prints V false ys ds o r (λ u. mark_visible false c m o j (k.seen (v u))) t in
      record {
        values = (record { spelt = k.spelt; visible = λ h u y. k.visible h (v u) y; stays = k.stays; same = k.same }, w.values);
        commas = (λ h. mark_again false c m o h j, w.commas);
        seen = w.seen;
      }

  all_stay : (V : Type 0) (xs : List A) → Each (Prints Js n f V) xs → Each (λ x. n (n x) ≡ n x) xs
  all_stay V [] h = tt
  all_stay V (x ∷ xs) h = (h.0.stays, all_stay V xs h.1)

  all_same : (V : Type 0) (xs : List A) → Each (Prints Js n f V) xs → Each (λ x. f (n x) ≡ f x) xs
  all_same V [] h = tt
  all_same V (x ∷ xs) h = (h.0.same, all_same V xs h.1)

  -- by a test of values that their normal form meets where they do
  module _ (is : A → Bool) (keep : (x : A) → is (n x) ≡ is x) where
    abbrev pub normal_sorted : Many A Comma → Many A Comma
    normal_sorted v = sort is (many n v)

    sorted_stays : (v : Many A Comma) → Each (λ x. n (n x) ≡ n x) v.0 → normal_sorted (normal_sorted v) ≡ normal_sorted v
    sorted_stays v h = sort_map n is is keep (sort is (many n v)) ∙ ap (many n) (sort_stays is (many n v)) ∙ sym (sort_map n is is keep (many n v)) ∙ ap (λ z. sort is (z, v.1)) (map_stays n v.0 h)

    sorted_same : (v : Many A Comma) → Each (λ x. f (n x) ≡ f x) v.0 → sorted is f (normal_sorted v) ≡ sorted is f v
    sorted_same v h = sort_prints is (many n v) f ∙ sorted_map n is is keep v f ∙ sorted_agrees (λ x. f (n x)) f is v h

    pub sorted_again : (xs : List A) (cs : List Comma) (l r : Toks) → AreCommas Is false true xs cs l r →
        AgainFront (λ (z : Many A Comma). AreCommas Js true true z.0 z.1) normal_sorted (sorted is f) (xs, cs) l r
    sorted_again xs cs l r i =
        let v : Many A Comma = (xs, cs) in
        let k = listed_prints (Visible l) true xs cs l r (λ u. u) i in
        let all = ends_sorted (Prints Js n f (Visible l)) IsClear comma_clear is xs cs k.values k.commas in
        let shown = prints_in_order f is v in
        record {
          spelt = λ h. subst (λ (z : Many A Comma). AreCommas Js true true z.0 z.1 (row (sorted is f v) h) h) (sym (sort_map n is is keep v))
              (subst (λ z. AreCommas Js true true (map n (sort is v).0) (sort is v).1 (row z h) h) shown (listed_each Js n f (Visible l) true (in_order is v) h all));
          visible = λ h u w. subst (λ z. Visible (row z h)) shown (visible_each Js n f (Visible l) (in_order is v) h all u w);
          seen = k.seen;
          stays = sorted_stays v (all_stay (Visible l) xs k.values);
          same = sorted_same v (all_same (Visible l) xs k.values);
        }
