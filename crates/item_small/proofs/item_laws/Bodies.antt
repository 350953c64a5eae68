-- The body of an item: how it is read, and what is promised of it by what is promised of its fields, or of its `;`.
use Rattle.std.specs.Prelude.{◌≢◌}
use Rattle.std.proofs.Common.{◌≡◌, ℕ, suc, Bool, true, false, if◌then◌else◌, List, [], ◌∷◌, Option, Some, None, Ok, Err, refl, sym, ◌∙◌, ap, subst, arith}
use Rattle.token_core.specs.declared.error.ErrorKind.TheVariants.{OutOfMemory}
use Rattle.token_core.specs.declared.span.DelimSpan.{DelimSpan}
use Rattle.token_core.specs.declared.span.Span.{Span}
use Rattle.token_core.specs.declared.token.Brace.{Brace}
use Rattle.token_core.specs.declared.tree.Delimiter.{Delimiter}
use Rattle.token_core.specs.declared.tree.Delimiter.TheVariants as d
use Rattle.token_core.specs.Fronted.{Begun, FrontAgain, Fronting, Fronted, ReadTo, printed_on}
use Rattle.token_core.specs.Front.{front}
use Rattle.token_core.specs.Groups.{brace, brace_name, opened}
use Rattle.token_core.specs.Loops.{Many, listed, size}
use Rattle.token_core.specs.Prints as p
use Rattle.token_core.specs.Reads as reads
use Rattle.token_core.specs.Reads.{Fails, Gives, Outcome, Reader, closing, expected, finished, first_of, in_group, inside, leaves, open_group, past, same_delimiter, sees_group}
use Rattle.token_core.specs.Rebuilt.{Visible}
use Rattle.token_core.specs.Refusal.{Refusal}
use Rattle.token_core.specs.Spellings.{AreChars, last_char, more_chars, IsMark, is_mark}
use Rattle.token_core.specs.Stream.{Scope, Stream}
use Rattle.token_core.specs.Terminated.{Terminates, Refused}
use Rattle.token_core.specs.Tokens as token
use Rattle.token_core.specs.Toks.{Toks, done, word, mark, lit, group, enter, leave}
use Rattle.token_core.proofs.MarkSpells.{mark_seen}
use Rattle.token_core.proofs.Rebuilds.{stream-trees, visible-tree}
use Rattle.token_core.proofs.Steps.{chosen, link}
use Rattle.token_core.proofs.Took.{at}
use Rattle.token_core.proofs.Turns.{same_pair}
use Rattle.item_small.specs.declared.item.BodyOf.{BodyOf}
use Rattle.item_small.specs.declared.item.BodyOf.TheVariants as b
use Rattle.item_small.specs.declared.item.FieldOf.{FieldOf}
use Rattle.item_small.specs.item.Normal as normal
use Rattle.item_small.specs.item.Promises as promises
use Rattle.item_small.specs.item.Promises.{FieldFits, FieldRead, FieldRefused}
use Rattle.item_small.specs.item.Reading as reading
use Rattle.item_small.specs.item.Reading.{comma}
use Rattle.item_small.specs.item.Spelling.{IsBody, IsField, a_field, named, unit}
use Rattle.item_small.specs.item.Trees.{Comma, Semi}
use Rattle.token_core.proofs.fronts_laws.Heads.{at_end, no_left}
use Rattle.item_small.proofs.front_laws.Tokens.{mark_front, mark_fronted, mark_refused}
use Rattle.token_core.proofs.fronts_laws.Refused.{stopped}
use Rattle.item_small.proofs.item_laws.Ends.{name_goes}
use Rattle.item_small.proofs.item_laws.Fields as list

-- ---- braces

-- the braces at the front, with their child stream
pub record Braces (s : Stream) (x : DelimSpan) (c t : Stream) : Type 0 where
  pub content : Toks
  pub is : s.rest ≡ group d.Brace x content t.rest
  pub child : c ≡ inside s x content t.rest
  pub left : t.left ≡ s.left

brace_is : (x : Delimiter) → same_delimiter x d.Brace ≡ true → x ≡ d.Brace
brace_is d.Parenthesis e = cc
brace_is d.Brace e = refl
brace_is d.Bracket e = cc
brace_is d.None e = cc

opens_if : (w : Delimiter) (y : DelimSpan) (i k : Toks) (f : Option Span) (e : Span) (sc : Scope) (r : Refusal) (x : DelimSpan) (c t : Stream) (z : Bool) → same_delimiter w d.Brace ≡ z →
    ◌≡◌ {A = Outcome (DelimSpan × Stream)} (if z then Ok ((y, inside (at (group w y i k) f e sc) y i k), past (at (group w y i k) f e sc) k y.closing) else Err r) (Ok ((x, c), t)) → Braces (at (group w y i k) f e sc) x c t
opens_if w y i k f e sc r x c t true h q =
    let s = at (group w y i k) f e sc in
    let g = same_pair (y, inside s y i k) (x, c) (past s k y.closing) t q in
    let gx : y ≡ x = ap (λ (m : DelimSpan × Stream). m.0) g.0 in
    let gc : inside s y i k ≡ c = ap (λ (m : DelimSpan × Stream). m.1) g.0 in
    subst (λ (m : DelimSpan). Braces s m c t) gx
    (subst (λ (m : Stream). Braces s y m t) gc
    (subst (λ (m : Stream). Braces s y (inside s y i k) m) g.1 (record { content = i; is = ap (λ m. group m y i k) (brace_is w h); child = refl; left = refl })))
opens_if w y i k f e sc r x c t false h q = cc

opens_at : (l : Toks) (f : Option Span) (e : Span) (sc : Scope) (x : DelimSpan) (c t : Stream) → Visible l → open_group d.Brace brace_name (at l f e sc) ≡ Ok ((x, c), t) → Braces (at l f e sc) x c t
unfolding open_group
opens_at done f e sc x c t v h = cc
opens_at (word i k) f e sc x c t v h = cc
opens_at (mark m k) f e sc x c t v h = cc
opens_at (lit y k) f e sc x c t v h = cc
opens_at (group w y i k) f e sc x c t v h = opens_if w y i k f e sc (expected brace_name (at (group w y i k) f e sc)) x c t (same_delimiter w d.Brace) refl h
opens_at (enter y k) f e sc x c t v h = absurd v
opens_at (leave k) f e sc x c t v h = absurd v

pub opens : (s : Stream) (x : DelimSpan) (c t : Stream) → Visible s.rest → open_group d.Brace brace_name s ≡ Ok ((x, c), t) → Braces s x c t
opens s x c t v h = opens_at s.rest s.left s.last s.scope x c t v h

-- the token of braces, as they are opened
pub braces_opened : (o : Outcome (DelimSpan × Stream)) (y : Brace) (c t : Stream) → opened brace o ≡ Ok ((y, c), t) → o ≡ Ok ((y.span, c), t)
braces_opened (Err e) y c t h = cc
braces_opened (Ok q) y c t h =
    let g = same_pair (brace q.0.0, q.0.1) (y, c) q.1 t h in
    ap (λ (m : Brace × Stream). Ok ((m.0.span, m.1), q.1)) g.0 ∙ ap (λ (m : Stream). Ok ((y.span, c), m)) g.1

pub braces_refused : (o : Outcome (DelimSpan × Stream)) (e : Refusal) → opened brace o ≡ Err e → o ≡ Err e
braces_refused (Err r) e h = cc
braces_refused (Ok q) e h = cc

pub sees_brace : (x : DelimSpan) (c k : Toks) → sees_group d.Brace (group d.Brace x c k) ≡ true
unfolding sees_group
sees_brace x c k = refl

opens_there : (x : DelimSpan) (c k : Toks) (f : Option Span) (e : Span) (sc : Scope) → open_group d.Brace brace_name (at (group d.Brace x c k) f e sc) ≡ Ok ((x, inside (at (group d.Brace x c k) f e sc) x c k), at k f x.closing sc)
unfolding open_group
opens_there x c k f e sc = refl

refused_if : (x : DelimSpan) (c k : Toks) (s : Stream) (r e : Refusal) (z : Bool) → z ≡ true → ◌≡◌ {A = Outcome (DelimSpan × Stream)} (if z then Ok ((x, inside s x c k), past s k x.closing) else Err r) (Err e) → ⊥
refused_if x c k s r e true f h = absurd (cc h)
refused_if x c k s r e false f h = absurd (cc f)

never : (l : Toks) (s : Stream) (e : Refusal) → sees_group d.Brace l ≡ true → reads.opened d.Brace (expected brace_name s) s (reads.as_group (front l)) ≡ Err e → ⊥
unfolding sees_group
never done s e z h = absurd (cc z)
never (word i k) s e z h = absurd (cc z)
never (mark i k) s e z h = absurd (cc z)
never (lit i k) s e z h = absurd (cc z)
never (group w x c k) s e z h = refused_if x c k s (expected brace_name s) e (same_delimiter w d.Brace) z h
never (enter x k) s e z h = never k s e z h
never (leave k) s e z h = never k s e z h

never_refused : (s : Stream) (e : Refusal) → sees_group d.Brace s.rest ≡ true → open_group d.Brace brace_name s ≡ Err e → ⊥
unfolding open_group
never_refused s e z h = never s.rest s e z h

-- no mark stands there
chars_no_brace : (clear : Bool) (all : List ℕ) (c : ℕ) (cs : List ℕ) (ss : List Span) (x : DelimSpan) (i k l r : Toks) → l ≡ group d.Brace x i k → AreChars clear all (c ∷ cs) ss l r → ⊥
chars_no_brace clear all c cs ss x i k l r e (last_char h) = absurd (cc e)
chars_no_brace clear all c cs ss x i k l r e (more_chars h) = absurd (cc e)

semi_no_brace : (clear : Bool) (q : Semi) (x : DelimSpan) (i k l r : Toks) → l ≡ group d.Brace x i k → IsMark clear q l r → ⊥
semi_no_brace clear q x i k l r e (is_mark {ss = ss} h) = chars_no_brace clear (59 ∷ []) 59 [] ss x i k l r e h

-- no braces stand where a mark does
chars_brace : (clear : Bool) (all : List ℕ) (c : ℕ) (cs : List ℕ) (ss : List Span) (l r : Toks) → AreChars clear all (c ∷ cs) ss l r → sees_group d.Brace l ≡ false
unfolding sees_group
chars_brace clear all c cs ss l r (last_char h) = refl
chars_brace clear all c cs ss l r (more_chars h) = refl

abbrev Closing : Fronting Semi
Closing = mark_front {n = 24} {k = 1}

none_first : (f g : Option Span) → f ≡ None → first_of f g ≡ g
none_first None g e = refl
none_first (Some a) g e = cc

-- ---- what is read in braces

module _ {A : Type 0} (q : Reader A) where
  inside_read : (x : DelimSpan) (c k : Toks) (f : Option Span) (e : Span) (sc : Scope) (v : A) (u : Stream) → q (inside (at (group d.Brace x c k) f e sc) x c k) ≡ Ok (v, u) → f ≡ None → leaves u ≡ None →
      in_group d.Brace brace_name q (at (group d.Brace x c k) f e sc) ≡ Ok ((x, v), at k f x.closing sc)
  unfolding finished
  inside_read x c k f e sc v u h n o =
      link (λ g. λ s. closing g.0 s (q g.1)) (opens_there x c k f e sc)
      (ap (closing x (at k f x.closing sc)) h ∙ ap (λ m. Ok ((x, v), at k m x.closing sc)) (ap (first_of f) o ∙ none_first f None n ∙ sym n))

  pub group_read : (s : Stream) (x : DelimSpan) (c k : Toks) (v : A) (u : Stream) → s.rest ≡ group d.Brace x c k → q (inside s x c k) ≡ Ok (v, u) → s.left ≡ None → leaves u ≡ None → in_group d.Brace brace_name q s ≡ Ok ((x, v), past s k x.closing)
  group_read s x c k v u e h n o =
      subst (λ l. in_group d.Brace brace_name q (at l s.left s.last s.scope) ≡ Ok ((x, v), at k s.left x.closing s.scope)) (sym e) (inside_read x c k s.left s.last s.scope v u h n o)

-- ---- over the fronts of attributes and types

module _ {A T : Type 0} (a : Fronting A) (t : Fronting T) where
  abbrev pub Field : Fronting (FieldOf A T)
  Field = promises.field a t

  abbrev pub Body : Fronting (BodyOf A T)
  Body = promises.body a t

  abbrev pub read_fields : Reader (Many (FieldOf A T) Comma)
  read_fields = reading.fields a.grammar.reader t.grammar.reader

  -- ---- how they are read

  pub fields_read : (c r : Stream) (v : Many (FieldOf A T) Comma) → Terminates (FieldRead a t) (Gives comma) c v.0 v.1 r → read_fields c ≡ Ok (v, r)
  fields_read c r v i = list.read_list Field.grammar.reader (FieldRead a t) (λ _ _ _ h. h.gives) (λ _ _ _ h. h.within) c r v.0 v.1 i

  pub fields_refused : (c : Stream) (e : Refusal) → Refused (FieldRead a t) (Gives comma) (FieldRefused a t) (Fails comma) e c → read_fields c ≡ Err e
  fields_refused c e i = list.refused_list Field.grammar.reader (FieldRead a t) (λ _ _ _ h. h.gives) (λ _ _ _ h. h.within) (FieldRefused a t) (λ _ _ h. h.fails) c e i

  abbrev read_named : Reader (BodyOf A T)
  read_named = reading.named a.grammar.reader t.grammar.reader

  pub not_opened : (s : Stream) (e : Refusal) → opened brace (open_group d.Brace brace_name s) ≡ Err e → read_named s ≡ Err e
  not_opened s e h = stopped _ e (stopped (λ g. λ u. closing g.0 u (read_fields g.1)) e (braces_refused (open_group d.Brace brace_name s) e h))

  module _ (s u c : Stream) (x : Brace) (o : opened brace (open_group d.Brace brace_name s) ≡ Ok ((x, c), u)) where
    pub named_refused : (e : Refusal) → read_fields c ≡ Err e → read_named s ≡ Err e
    named_refused e h = stopped _ e (link (λ g. λ z. closing g.0 z (read_fields g.1)) (braces_opened (open_group d.Brace brace_name s) x c u o) (ap (closing x.span u) h))

    pub named_read : (r : Stream) (v : Many (FieldOf A T) Comma) → read_fields c ≡ Ok (v, r) → read_named s ≡ Ok (b.Named x v, finished r u)
    named_read r v h = link _ (link (λ g. λ z. closing g.0 z (read_fields g.1)) (braces_opened (open_group d.Brace brace_name s) x c u o) (ap (closing x.span u) h)) refl

  module _ (fits : FieldFits a t) where
    field_starts : (x : FieldOf A T) (l k : Toks) → IsField a t true x l k → reads.is_done l ≡ false
    field_starts x l k (a_field {x = y} {i = i} {m = m} {n = n} h j c q) = fits.starts y l m h (name_goes i m n j)

    ends : (k : Toks) → promises.ends_field k ≡ true → promises.ends_field k ≡ true
    ends k o = o

    keeps : (x : FieldOf A T) (k : Toks) → promises.ends_field k ≡ true → Field.grammar.plain x → Field.plain x k
    keeps x k o h = (h.0, fits.ty_plain x.ty k o h.1)

    -- ---- the print of fields in braces

    plain_fields : (xs : List (FieldOf A T)) → promises.AllPlain a t xs → list.Plain Field xs
    plain_fields [] h = tt
    plain_fields (x ∷ xs) h = (h.0, plain_fields xs h.1)

    module _ (x : DelimSpan) (xs : List (FieldOf A T)) (cs : List Comma) (k : Toks) where
      abbrev this : BodyOf A T
      this = b.Named (brace x) (xs, cs)

      printed_braces : printed_on Body this k ≡ group d.Brace x (list.printed_list Field xs cs) k
      printed_braces = visible-tree d.Brace (list.shown Field xs cs) x k tt ∙ ap (λ z. group d.Brace x z k) (stream-trees (list.shown Field xs cs) done)

      module _ (h : list.Again Field true xs cs) (v : Visible k) where
        braces_read : (s : Stream) → s.left ≡ None → s.rest ≡ printed_on Body this k → ReadTo Body (normal.body a t this) s k
        unfolding reading.body listed
        braces_read s n e =
            let q = e ∙ printed_braces in
            let child : Stream = inside s x (list.printed_list Field xs cs) k in
            let r = h.again (suc (size child.rest)) child refl refl (omega arith) in
            let g = group_read read_fields s x (list.printed_list Field xs cs) k (list.normals Field xs, cs) r.0 q r.1 n (at_end r.0 r.2 r.3) in
            (past s k x.closing, chosen (sees_group d.Brace s.rest) true _ _ s _ (ap (sees_group d.Brace) q ∙ sees_brace x _ k) (link _ g refl), refl, n)

        braces_again : FrontAgain Body this k
        braces_again = record {
          spells = subst (λ l. IsBody a t true (normal.body a t this) l k) (sym printed_braces) (named h.spells);
          visible = subst Visible (sym printed_braces) (tt, h.visible, v);
          stays = ap (λ z. b.Named (brace x) (z, cs)) h.stays;
          same = ap (λ z. p.group d.Brace z x) h.same;
          again = braces_read;
        }

    -- ---- fields in braces that were read

    module _ (s c u r : Stream) (x : DelimSpan) (xs : List (FieldOf A T)) (cs : List Comma) (o : open_group d.Brace brace_name s ≡ Ok ((x, c), u)) (i : Terminates (FieldRead a t) (Gives comma) c xs cs r) where
      abbrev end : Stream
      end = finished r u

      abbrev made : BodyOf A T
      made = b.Named (brace x) (xs, cs)

      module _ (n : s.left ≡ None) (v : Visible s.rest) where
        at_front : Braces s x c u
        at_front = opens s x c u v o

        seen : Visible (group d.Brace x at_front.content u.rest)
        seen = subst Visible at_front.is v

        child_left : c.left ≡ None
        child_left = ap (λ (z : Stream). z.left) at_front.child

        child_rest : c.rest ≡ at_front.content
        child_rest = ap (λ (z : Stream). z.rest) at_front.child

        child_seen : Visible c.rest
        child_seen = subst Visible (sym child_rest) seen.1

        end_left : end.left ≡ leaves r
        unfolding finished
        end_left = none_first u.left (leaves r) (at_front.left ∙ n)

        end_rest : end.rest ≡ u.rest
        unfolding finished
        end_rest = refl

        fields_told : r.left ≡ None → list.Told Field true c xs cs r
        fields_told e = list.told Field ends field_starts keeps (FieldRead a t) (λ _ _ _ h. h.within) (λ _ _ _ h. h.fronts fits) c r xs cs true i child_left child_seen e

        -- what is spelt there are fields in these braces
        body_same : (y : BodyOf A T) (k l : Toks) → s.rest ≡ l → IsBody a t true y l k → list.Told Field true c xs cs r → (y ≡ made) × (end.rest ≡ k)
        body_same y k l e (named {s = z} {xs = ys} {cs = ds} {l = m} j) h =
            let w : group d.Brace x at_front.content u.rest ≡ group d.Brace z m k = sym at_front.is ∙ e in
            let wx : x ≡ z = cc w in
            let wm : at_front.content ≡ m = cc w in
            let wk : u.rest ≡ k = cc w in
            let same = h.unique ys ds (subst (λ q. list.Are Field true true ys ds q) (sym wm ∙ sym child_rest) j) in
            (ap (λ q. b.Named (brace q) (ys, ds)) (sym wx) ∙ ap (λ q. b.Named (brace x) (q, ds)) same.0 ∙ ap (λ q. b.Named (brace x) (xs, q)) same.1, end_rest ∙ wk)
        body_same y k l e (unit {q = q} j) h = absurd (semi_no_brace true q x at_front.content u.rest l k (sym e ∙ at_front.is) j)

        body_left : (y : BodyOf A T) (k l : Toks) → s.rest ≡ l → IsBody a t true y l k → end.left ≡ None
        body_left y k l e (named {s = z} {xs = ys} {cs = ds} {l = m} j) =
            let w : group d.Brace x at_front.content u.rest ≡ group d.Brace z m k = sym at_front.is ∙ e in
            let wm : at_front.content ≡ m = cc w in
            let none = list.left_none Field ends field_starts keeps (FieldRead a t) (λ _ _ _ h. h.within) (λ _ _ _ h. h.fronts fits) c r xs cs true ys ds m i child_left child_seen (child_rest ∙ wm) j in
            end_left ∙ at_end r (fields_told none).ends none
        body_left y k l e (unit {q = q} j) = absurd (semi_no_brace true q x at_front.content u.rest l k (sym e ∙ at_front.is) j)

        body_begun : end.left ≡ None → Begun Body s end made
        body_begun e =
            let h = fields_told (no_left r (sym end_left ∙ e)) in
            record {
              visible = subst Visible (sym end_rest) seen.2;
              sound = λ q. subst (λ l. IsBody a t false made l end.rest) (sym at_front.is)
                  (subst (λ m. IsBody a t false made (group d.Brace x at_front.content u.rest) m) (sym end_rest) (named (subst (λ l. list.Are Field false true xs cs l) child_rest h.sound)));
              unique = λ y k j q. body_same y k s.rest refl j h;
              reprint = λ q k g z m. braces_again x xs cs k (h.reprint (plain_fields xs g)) z;
            }

      pub fields_fronted : Fronted Body s (Ok made) end
      fields_fronted = λ n v. (body_begun n v, λ y k j q. body_left n v y k s.rest refl j)

    -- the fields that are spelt in the braces were refused
    pub no_fields : (s c u : Stream) (x : DelimSpan) (e : Refusal) → open_group d.Brace brace_name s ≡ Ok ((x, c), u) → (e.kind ≢ OutOfMemory → Refused (FieldRead a t) (Gives comma) (FieldRefused a t) (Fails comma) e c) → Fronted Body s (Err e) s
    no_fields s c u x e o i = λ k n v y m j q. none_spelt k n v (opens s x c u v o) y m s.rest refl j
      where
        none_spelt : e.kind ≢ OutOfMemory → s.left ≡ None → Visible s.rest → Braces s x c u → (y : BodyOf A T) (m l : Toks) → s.rest ≡ l → IsBody a t true y l m → ⊥
        none_spelt k n v f y m l g (named {s = z} {xs = ys} {cs = ds} {l = q} j) =
            let w : group d.Brace x f.content u.rest ≡ group d.Brace z q m = sym f.is ∙ g in
            let wq : f.content ≡ q = cc w in
            let rest = ap (λ (z : Stream). z.rest) f.child in
            list.no_list Field ends field_starts keeps (FieldRead a t) (λ _ _ _ h. h.within) (λ _ _ _ h. h.fronts fits) (FieldRefused a t) (λ _ _ h. h.fronts fits) e c true ys ds q (i k) k
            (ap (λ (z : Stream). z.left) f.child) (subst Visible (sym rest) (subst Visible f.is v).1) (rest ∙ wq) j
        none_spelt k n v f y m l g (unit {q = q} j) = absurd (semi_no_brace true q x f.content u.rest l m (sym g ∙ f.is) j)

  -- ---- a body that is no braces

  no_named : (s : Stream) → sees_group d.Brace s.rest ≡ false → (x : DelimSpan) (c k : Toks) → s.rest ≡ group d.Brace x c k → ⊥
  no_named s f x c k e = let w = sym f ∙ ap (sees_group d.Brace) e ∙ sees_brace x c k in absurd (cc w)

  semi_same : (s u : Stream) (q : Semi) → sees_group d.Brace s.rest ≡ false → Begun Closing s u q → (y : BodyOf A T) (k l : Toks) → s.rest ≡ l → IsBody a t true y l k → (y ≡ b.Unit q) × (u.rest ≡ k)
  semi_same s u q f h y k l e (named {s = z} {l = m} j) = absurd (no_named s f z m k e)
  semi_same s u q f h y k l e (unit {q = r} j) = let w = h.unique r k (subst (λ m. IsMark true r m k) (sym e) j) refl in (ap b.Unit w.0, w.1)

  semi_left : (s u : Stream) (q : Semi) → sees_group d.Brace s.rest ≡ false → Fronted Closing s (Ok q) u → s.left ≡ None → Visible s.rest → (y : BodyOf A T) (k l : Toks) → s.rest ≡ l → IsBody a t true y l k → u.left ≡ None
  semi_left s u q f h n v y k l e (named {s = z} {l = m} j) = absurd (no_named s f z m k e)
  semi_left s u q f h n v y k l e (unit {q = r} j) = (h n v).1 r k (subst (λ m. IsMark true r m k) (sym e) j) refl

  semi_read : (s : Stream) (q : Semi) (k l : Toks) → s.left ≡ None → s.rest ≡ l → IsMark true q l k → ReadTo Closing q s k → ReadTo Body (b.Unit q) s k
  unfolding reading.body
  semi_read s q k l n e i r = (
    r.0,
    chosen (sees_group d.Brace s.rest) false _ _ s _ (semi_brace s.rest l e i)
        (chosen (token.sees_semi s.rest) true _ _ s _ (ap token.sees_semi e ∙ mark_seen true q l k i) (link _ r.1 refl)),
    r.2,
    r.3,
  )
    where
      semi_brace : (m l : Toks) → m ≡ l → IsMark true q l k → sees_group d.Brace m ≡ false
      semi_brace m l e i = ap (sees_group d.Brace) e ∙ mark_brace l i
        where
          mark_brace : (l : Toks) → IsMark true q l k → sees_group d.Brace l ≡ false
          mark_brace l (is_mark {ss = ss} h) = chars_brace true (59 ∷ []) 59 [] ss l k h

  semi_again : (q : Semi) (k : Toks) → FrontAgain Closing q k → FrontAgain Body (b.Unit q) k
  semi_again q k h = record {
    spells = unit h.spells;
    visible = h.visible;
    stays = refl;
    same = refl;
    again = λ s n e. semi_read s q k (printed_on Body (b.Unit q) k) n e h.spells (h.again s n e);
  }

  pub semi_fronted : (s u : Stream) (q : Semi) → sees_group d.Brace s.rest ≡ false → reading.semi s ≡ Ok (q, u) → Fronted Body s (Ok (b.Unit q)) u
  semi_fronted s u q f e = λ n v. (λ c. begun n v ((h n v).0 c), λ y k i o. semi_left s u q f h n v y k s.rest refl i)
    where
      h : Fronted Closing s (Ok q) u
      h = mark_fronted refl (omega arith) s u (Ok q) e

      begun : s.left ≡ None → Visible s.rest → Begun Closing s u q → Begun Body s u (b.Unit q)
      begun n v g = record {
        visible = g.visible;
        sound = λ o. unit (g.sound o);
        unique = λ y k i o. semi_same s u q f g y k s.rest refl i;
        reprint = λ o k p z w. semi_again q k (g.reprint o k p z w);
      }

  -- neither braces nor a `;` that is read
  no_other : (s : Stream) (e : Refusal) → sees_group d.Brace s.rest ≡ false → ((q : Semi) (k : Toks) → IsMark true q s.rest k → ⊥) → (y : BodyOf A T) (k l : Toks) → s.rest ≡ l → IsBody a t true y l k → ⊥
  no_other s e f g y k l h (named {s = z} {l = m} j) = no_named s f z m k h
  no_other s e f g y k l h (unit {q = q} j) = g q k (subst (λ m. IsMark true q m k) (sym h) j)

  pub no_semi : (s : Stream) (e : Refusal) → sees_group d.Brace s.rest ≡ false → (e.kind ≢ OutOfMemory → reading.semi s ≡ Err e) → Fronted Body s (Err e) s
  no_semi s e f h = λ k n v y m i o. no_other s e f (λ q r j. mark_refused {n = 24} {k = 1} refl (omega arith) s e h k n v q r j refl) y m s.rest refl i

  pub no_body : (s : Stream) (e : Refusal) → sees_group d.Brace s.rest ≡ false → token.sees_semi s.rest ≡ false → Fronted Body s (Err e) s
  no_body s e f g = λ k n v y m i o. no_other s e f (λ q r j. not_seen q r j) y m s.rest refl i
    where
      not_seen : (q : Semi) (k : Toks) → IsMark true q s.rest k → ⊥
      not_seen q k j = let w = sym g ∙ mark_seen true q s.rest k j in absurd (cc w)

  -- braces that are seen are opened
  pub no_braces : (s : Stream) (e : Refusal) → sees_group d.Brace s.rest ≡ true → (e.kind ≢ OutOfMemory → open_group d.Brace brace_name s ≡ Err e) → Fronted Body s (Err e) s
  no_braces s e f h = λ k n v y m i o. never_refused s e f (h k)
