-- The turns of nested properties are the lists of the grammar.
use Rattle.std.proofs.Common.{◌≡◌, ◌≢◌, ◌⊎◌, true, false, ◌<◌, length, [], ◌∷◌, Option, Some, None, Result, Ok, Err, inl, inr, refl, sym, ◌∙◌, ap, subst, codes}
use Rattle.token_core.specs.declared.mark.Spans.{Spans}
use Rattle.token_core.specs.declared.span.DelimSpan.{DelimSpan}
use Rattle.token_core.specs.declared.span.Span.{Span}
use Rattle.token_core.specs.declared.token.Paren.{Paren}
use Rattle.token_core.specs.declared.tree.Delimiter.{Delimiter}
use Rattle.token_core.specs.declared.tree.Delimiter.TheVariants as d
use Rattle.token_core.specs.declared.tree.Spacing.{Spacing}
use Rattle.token_core.specs.Front.{front}
use Rattle.token_core.specs.Groups.{opened, paren, paren_name}
use Rattle.token_core.specs.Marks.{mark_name}
use Rattle.token_core.specs.Reads as reads
use Rattle.token_core.specs.Reads.{Ends, Follows, Outcome, Parsed, Refuses, WholeRead, advanced, as_group, as_punct, expected, finished, forked, inside, is_done, is_end, open_group, past, past_mark, past_next, read_mark, three}
use Rattle.token_core.specs.Refusal.{Refusal}
use Rattle.token_core.specs.Spellings.{mark_at}
use Rattle.token_core.specs.Stream.{Stream}
use Rattle.token_core.specs.Toks.{Toks, done, word, mark, lit, group, enter, leave}
use Rattle.token_core.specs.Trees.{punct}
use Rattle.token_core.proofs.Steps.{link}
use Rattle.token_core.proofs.Turns.{same_pair}
use Rattle.syn_attr.specs.meta.Spelling as spelling
use Rattle.syn_attr.specs.meta.Spelling.{IsComma, is_comma, NoComma, NoParentheses, Property, AreProperties, Listed, MayList, ListsAll, Encloses}
use Rattle.syn_attr.specs.meta.Turns as turns
use Rattle.syn_attr.specs.meta.Turns.{Answer, Step, Pre, Careful, HasSegment, Reached, handed_in, called, Called, Turn, Turns, Turned, Properties, ReadsProperties, Descends, Comma, comma, opening}
use Rattle.syn_attr.proofs.meta_laws.Told.{no, char_at, end_is, path_some, path_sound, refused_sound, stop}

-- ---- the end

ended : (l : Toks) → is_done l ≡ true → front l ≡ done
unfolding is_done
ended l h = end_is (front l) h

unended : (l : Toks) → is_done l ≡ false → front l ≢ done
unfolding is_done
unended l h e = no (sym h ∙ ap is_end e)

-- ---- commas

comma_past : (a : Span) (j : Spacing) (l r : Toks) → front l ≡ mark (punct 44 j a) r → past_mark (44 ∷ []) l ≡ Some (three a a a, r)
comma_past a j l r h = ap (λ z. past_next 44 true (past_mark []) (as_punct z)) h

comma_read : (s : Stream) (a : Span) (r : Toks) → IsComma a s.rest r → comma s ≡ Ok (mark_at 4 1 (a ∷ []), past s r a)
unfolding read_mark
comma_read s a r (is_comma {j = j} h) = link _ (ap (reads.goes_on (λ (z : Spans). z.third) (expected (mark_name 4) s) s) (comma_past a j s.rest r h)) refl

no_comma_past : (l : Toks) → NoComma l → past_mark (44 ∷ []) l ≡ None
no_comma_past l n = by_spans (past_mark (44 ∷ []) l) refl
  where
    by_spans : (o : Option (Spans × Toks)) → past_mark (44 ∷ []) l ≡ o → o ≡ None
    by_spans None h = refl
    by_spans (Some q) h = let c = char_at 44 l (front l) q refl h in absurd (n c.span q.1 (is_comma c.is))

comma_refused : (s : Stream) → NoComma s.rest → comma s ≡ Err (expected (codes "`,`") s)
unfolding read_mark mark_name
comma_refused s n = stop _ (ap (reads.goes_on (λ (z : Spans). z.third) (expected (mark_name 4) s) s) (no_comma_past s.rest n))

comma_at : (l : Toks) → ((a : Span) × (r : Toks) × IsComma a l r) ⊎ NoComma l
comma_at l = by_spans (past_mark (44 ∷ []) l) refl
  where
    by_spans : (o : Option (Spans × Toks)) → past_mark (44 ∷ []) l ≡ o → ((a : Span) × (r : Toks) × IsComma a l r) ⊎ NoComma l
    by_spans None h = inr (λ a r i. none a r i h)
      where
        none : (a : Span) (r : Toks) → IsComma a l r → past_mark (44 ∷ []) l ≡ None → ⊥
        none a r (is_comma {j = j} k) h = let w : ◌≡◌ {A = Option (Spans × Toks)} None (Some (three a a a, r)) = sym h ∙ comma_past a j l r k in cc w
    by_spans (Some q) h = let c = char_at 44 l (front l) q refl h in inl (c.span, q.1, is_comma c.is)

record CommaTo (s t : Stream) : Type 0 where
  span : Span
  spelt : IsComma span s.rest t.rest
  stands : t ≡ past s t.rest span

comma_sound : (s t : Stream) (m : Comma) → comma s ≡ Ok (m, t) → CommaTo s t
comma_sound s t m h =
    elim (comma_at s.rest) [
      | inl k ↦ let w = same_pair (mark_at 4 1 (k.0 ∷ [])) m (past s k.1 k.0) t (sym (comma_read s k.0 k.1 k.2) ∙ h) in
          record { span = k.0; spelt = subst (λ (z : Stream). IsComma k.0 s.rest z.rest) w.1 k.2; stands = sym w.1 ∙ ap (λ (z : Stream). past s z.rest k.0) w.1 }
      | inr n ↦ let w : ◌≡◌ {A = Outcome Comma} (Err (expected (codes "`,`") s)) (Ok (m, t)) = sym (comma_refused s n) ∙ h in cc w
    ]

comma_unspelt : (s : Stream) (e : Refusal) → comma s ≡ Err e → NoComma s.rest × (e ≡ expected (codes "`,`") s)
comma_unspelt s e h =
    elim (comma_at s.rest) [
      | inl k ↦ let w : ◌≡◌ {A = Outcome Comma} (Ok (mark_at 4 1 (k.0 ∷ []), past s k.1 k.0)) (Err e) = sym (comma_read s k.0 k.1 k.2) ∙ h in cc w
      | inr n ↦ let w : ◌≡◌ {A = Outcome Comma} (Err (expected (codes "`,`") s)) (Err e) = sym (comma_refused s n) ∙ h in
          let u : expected (codes "`,`") s ≡ e = cc w in (n, sym u)
    ]

-- ---- parentheses

abbrev Group : Type 0
Group = Option (Delimiter × DelimSpan × Toks × Toks)

abbrev opens : Stream → Group → Outcome (Paren × Stream)
opens s o = opened paren (reads.opened d.Parenthesis (expected paren_name s) s o)

opens_at : (s : Stream) → opening s ≡ opens s (as_group (front s.rest))
unfolding open_group
opens_at s = refl

parens_read : (s : Stream) (b : DelimSpan) (c r : Toks) → front s.rest ≡ group d.Parenthesis b c r → opening s ≡ Ok ((paren b, inside s b c r), past s r b.closing)
parens_read s b c r h = opens_at s ∙ ap (λ z. opens s (as_group z)) h

record Parens (l : Toks) : Type 0 where
  span : DelimSpan
  content : Toks
  after : Toks
  is : front l ≡ group d.Parenthesis span content after

parens_at : (s : Stream) (x : Toks) → front s.rest ≡ x → Parens s.rest ⊎ (opens s (as_group x) ≡ Err (expected paren_name s))
parens_at s done h = inr refl
parens_at s (word i k) h = inr refl
parens_at s (mark p k) h = inr refl
parens_at s (lit x k) h = inr refl
parens_at s (group d.Parenthesis b c k) h = inl (record { span = b; content = c; after = k; is = h })
parens_at s (group d.Brace b c k) h = inr refl
parens_at s (group d.Bracket b c k) h = inr refl
parens_at s (group d.None b c k) h = inr refl
parens_at s (enter b k) h = inr refl
parens_at s (leave k) h = inr refl

parens_ways : (s : Stream) → Parens s.rest ⊎ (NoParentheses s.rest × (opening s ≡ Err (expected paren_name s)))
parens_ways s =
    elim (parens_at s (front s.rest) refl) [
      | inl k ↦ inl k
      | inr h ↦ let e = opens_at s ∙ h in
          inr (λ b c r k. let w : ◌≡◌ {A = Outcome (Paren × Stream)} (Ok ((paren b, inside s b c r), past s r b.closing)) (Err (expected paren_name s)) = sym (parens_read s b c r k) ∙ e in cc w, e)
    ]

parens_unspelt : (s : Stream) (e : Refusal) → opening s ≡ Err e → NoParentheses s.rest × (e ≡ expected paren_name s)
parens_unspelt s e h =
    elim (parens_ways s) [
      | inl k ↦ let w : ◌≡◌ {A = Outcome (Paren × Stream)} (Ok ((paren k.span, inside s k.span k.content k.after), past s k.after k.span.closing)) (Err e) = sym (parens_read s k.span k.content k.after k.is) ∙ h in cc w
      | inr n ↦ let w : ◌≡◌ {A = Outcome (Paren × Stream)} (Err (expected paren_name s)) (Err e) = sym n.1 ∙ h in
          let u : expected paren_name s ≡ e = cc w in (n.0, sym u)
    ]

record ParensTo (s a : Stream) (c : Paren × Stream) : Type 0 where
  span : DelimSpan
  content : Toks
  after : Toks
  is : front s.rest ≡ group d.Parenthesis span content after
  inner : inside s span content after ≡ c.1
  stands : past s after span.closing ≡ a

parens_sound : (s a : Stream) (c : Paren × Stream) → opening s ≡ Ok (c, a) → ParensTo s a c
parens_sound s a c h =
    elim (parens_ways s) [
      | inl k ↦ let w = same_pair (paren k.span, inside s k.span k.content k.after) c (past s k.after k.span.closing) a (sym (parens_read s k.span k.content k.after k.is) ∙ h) in
          record { span = k.span; content = k.content; after = k.after; is = k.is; inner = ap (λ (z : Paren × Stream). z.1) w.0; stands = w.1 }
      | inr n ↦ let w : ◌≡◌ {A = Outcome (Paren × Stream)} (Err (expected paren_name s)) (Ok (c, a)) = sym n.1 ∙ h in cc w
    ]

-- ---- whole reads

module _ {A : Type 0} {reads also : Stream → A → Stream → Type 0} {refuses too : Stream → Refusal → Type 0} (on : (s : Stream) (a : A) (t : Stream) → reads s a t → also s a t) (off : (s : Stream) (e : Refusal) → refuses s e → too s e) where
  whole_ends : (s : Stream) (a : A) (o : Option Span) → Ends reads s a o → Ends also s a o
  whole_ends s a o k = record { last = k.last; read = on s a k.last k.read; is = k.is }

  whole_refuses : (s : Stream) (e : Refusal) → Refuses reads refuses s e → Refuses also too s e
  whole_refuses s e (inl k) = inl (off s e k)
  whole_refuses s e (inr k) = inr (k.0, k.1, whole_ends s k.0 (Some k.1) k.2, k.3)

  -- what a whole read says, by relations that say as much
  pub whole : (s : Stream) (r : Result A Refusal) → WholeRead reads refuses s r → WholeRead also too s r
  whole s (Ok a) k = whole_ends s a None k
  whole s (Err e) k = λ h. whole_refuses s e (k h)

-- ---- turns

module _ {F : Type 0} {pre : Pre F} {step : Step F} {f : F} (careful : Careful pre step f) where
  has_segment : (g h : F) (s t : Stream) (answer : Answer) (k : Turn step g s answer t h) → HasSegment k.call.before
  has_segment g h s t answer k = subst (λ z. 0 < length z.segments.0) (sym k.call.path) (path_some k.path s.rest k.before.rest (path_sound s k.before k.path k.reads).spelt)

  property : (g h : F) (s t : Stream) (answer : Answer) → Reached step f g → Turn step g s answer t h → Property step g s answer t h
  property g h s t answer r k =
      let w = path_sound s k.before k.path k.reads in
      let c = subst (λ (z : Stream). Called step g k.path (forked z) answer k.after h) w.stands k.call in
      record {
        path = k.path;
        rest = k.before.rest;
        after = k.after;
        spelt = w.spelt;
        apart = w.apart;
        call = c;
        later = subst (λ z. Follows z k.after) (k.call.begins ∙ ap forked w.stands) (subst (Follows k.call.before.now.input) k.call.ends
            (careful.follows g r k.call.alloc k.call.before (has_segment g h s t answer k) answer k.call.after h k.call.call));
        stands = k.stands ∙ ap (λ z. advanced z k.after) w.stands;
      }

  properties_from : (g h : F) (s t : Stream) (answer : Answer) → Reached step f g → Turns step g s answer t h → AreProperties step g s answer t h
  properties_from g h s t answer r (turns.no_path {e = e} w) = spelling.no_path (λ k. refused_sound s e (w k))
  properties_from g h s t answer r (turns.stopped k) = spelling.stopped (property g h s t answer r k)
  properties_from g h s t answer r (turns.last k w) = spelling.last (property g h s t answer r k) (ended t.rest w)
  properties_from g h s t answer r (turns.no_comma {a = a} {e = e} k w n) = spelling.no_comma (property g h s a (Ok tt) r k) (unended a.rest w) (λ u. comma_unspelt a e (n u))
  properties_from g h s t answer r (turns.last_comma {a = a} {m = m} k u c n) =
      let w = comma_sound a t m c in
      subst (λ z. AreProperties step g s (Ok tt) z h) (sym w.stands) (spelling.last_comma (property g h s a (Ok tt) r k) w.spelt (ended t.rest n))
  properties_from g h s t answer r (turns.next {g = i} {a = a} {b = b} {m = m} k u c n more) =
      let w = comma_sound a b m c in
      let q : Reached step f i = called r (has_segment g i s a (Ok tt) k) k.call.call in
      spelling.next (property g i s a (Ok tt) r k) w.spelt (unended b.rest n) (subst (λ z. AreProperties step i z answer t h) w.stands (properties_from i h b t answer q more))

  pub properties_are : (s t : Stream) (answer : Answer) → Turned step f s answer t → Listed step f s answer t
  properties_are s t answer k = (k.0, properties_from f k.0 s t answer handed_in k.1)

  pub may_list : (s t : Stream) (answer : Answer) → Properties step f s answer t → MayList step f s answer t
  may_list s t answer (inl k) = subst (λ z. MayList step f s z t) (sym k.1) (subst (λ z. MayList step f s (Ok tt) z) (sym k.2) (spelling.none (ended s.rest k.0)))
  may_list s t answer (inr k) = spelling.some (unended s.rest k.0) (properties_are s t answer k.1)

  pub lists_all : (s : Stream) (answer : Answer) → ReadsProperties step f s answer → ListsAll step f s answer
  lists_all s answer k =
      whole {reads = λ u a t. Properties step f u (Ok a) t} {also = λ u a t. MayList step f u (Ok a) t} {refuses = λ u e. (t : Stream) × Properties step f u (Err e) t} {too = λ u e. (t : Stream) × MayList step f u (Err e) t}
      (λ u a t h. may_list u t (Ok a) h) (λ u e h. (h.0, may_list u h.0 (Err e) h.1)) s answer k

  pub encloses : (s t : Stream) (answer : Answer) → Descends step f s answer t → Encloses step f s answer t
  encloses s t answer (turns.no_parentheses {e = e} h) = spelling.no_parentheses (λ k. parens_unspelt s e (h k))
  encloses s t answer (turns.refused_inside {t = u} {c = c} {e = e} h k) =
      let w = parens_sound s t c h in
      subst (λ z. Encloses step f s (Err e) z) w.stands (spelling.refused_inside {t = u} w.is (subst (λ z. Listed step f z (Err e) u) (sym w.inner) (properties_are c.1 u (Err e) k)))
  encloses s t answer (turns.all_inside {a = a} {t = u} {c = c} h k) =
      let w = parens_sound s a c h in
      subst (λ z. Encloses step f s (Ok tt) (finished u z)) w.stands (spelling.all_inside {t = u} w.is (subst (λ z. Listed step f z (Ok tt) u) (sym w.inner) (properties_are c.1 u (Ok tt) k)))

  -- what the parser says of a list that isn't empty, and of one that is
  pub parsed : (s t : Stream) (answer : Answer) → is_done s.rest ≡ false → Turned step f s answer t →
      Parsed (λ a u. Properties step f s (Ok a) u × MayList step f s (Ok a) u) (λ e. (u : Stream) × Properties step f s (Err e) u × MayList step f s (Err e) u) answer t
  parsed s t (Ok tt) h k = (inr (h, k), may_list s t (Ok tt) (inr (h, k)))
  parsed s t (Err e) h k = λ _. (t, inr (h, k), may_list s t (Err e) (inr (h, k)))

pub parsed_none : {F : Type 0} {step : Step F} {f : F} (s : Stream) → is_done s.rest ≡ true → Properties step f s (Ok tt) s × MayList step f s (Ok tt) s
parsed_none s h = (inl (h, refl, refl), spelling.none (ended s.rest h))

-- of a whole read that says both, the turns
pub read_turns : {F : Type 0} (step : Step F) (f : F) (s : Stream) (answer : Answer) →
    WholeRead (λ u a t. Properties step f u (Ok a) t × MayList step f u (Ok a) t) (λ u e. (t : Stream) × Properties step f u (Err e) t × MayList step f u (Err e) t) s answer → ReadsProperties step f s answer
read_turns step f s answer k =
    whole {reads = λ u a t. Properties step f u (Ok a) t × MayList step f u (Ok a) t} {also = λ u a t. Properties step f u (Ok a) t}
    {refuses = λ u e. (t : Stream) × Properties step f u (Err e) t × MayList step f u (Err e) t} {too = λ u e. (t : Stream) × Properties step f u (Err e) t}
    (λ u a t h. h.0) (λ u e h. (h.0, h.1)) s answer k
