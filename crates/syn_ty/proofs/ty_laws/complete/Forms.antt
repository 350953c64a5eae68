-- Pointers, references, tuples, slices, arrays and a type in parentheses, spelt clearly, are what their reads answer and all that they take.
use Rattle.std.specs.Prelude.{is_some, not}
use Rattle.std.proofs.Common.{◌≡◌, ℕ, ◌<◌, ◌≤◌, Bool, true, false, List, [], ◌∷◌, Option, Some, None, Ok, refl, ap, arith}
use Rattle.syn_ty.proofs.ty_laws.words.Tokens.{Lifetime, DelimSpan, Span, Delimiter, Parenthesis, Bracket, sees_lifetime, AreListed, Anywhere, terminated, Outcome, Reader, is_done, optional, sees_group, sees_mark, sees_word, none, Scope, IsMark, is_mark, last_char, IsWord, is_word, IsLifetime, is_lifetime, Toks, done, group}
use Rattle.syn_ty.proofs.ty_laws.words.Paths.{ReadValues}
use Rattle.syn_ty.proofs.ty_laws.words.Forms.{TypePlace, Plus, NoPlus, in_brackets, in_parens, more_elements, ahead, allows_plus}
use Rattle.syn_ty.proofs.ty_laws.words.Types.{IsPointer, a_pointer, IsBorrow, a_borrow, a_mutable_borrow, a_lifetime_borrow, IsEnclosed, enclosed, IsBracketed, bracketed, IsCounted, counted, IsElement, an_element, IsTupled, no_element, some_elements, Manner, clearly, End, Parts, Readers, a_type, sees_call, Relation, IsOptional, absent, present, TypeTree, TypeArray, TypeParen, TypePtr, TypeReference, TypeSlice, TypeTuple, And, Comma, Mut, reference_of}
use Rattle.token_core.specs.Groups as groups
use Rattle.token_core.specs.Tokens as token
use Rattle.token_core.proofs.MarkSpells.{mark_complete, mark_seen, mark_size}
use Rattle.token_core.proofs.Steps.{link, chosen, Reads_to}
use Rattle.token_core.proofs.Took.{at, leaves_none}
use Rattle.token_core.proofs.WordSpells.{word_complete, word_seen, lifetime_complete, lifetime_seen}
use Rattle.syn_path.proofs.Words.{Uses, uses_none}
use Rattle.syn_forms.specs.declared.groups.InBrackets.TheVariants.{Element, Counted}
use Rattle.syn_forms.specs.forms.Reading as forms
use Rattle.syn_forms.specs.groups.Reading as inner
use Rattle.syn_forms.specs.groups.Reading.{bracket_content, tuple_content}
use Rattle.syn_forms.specs.tokens.Reading as tokens
use Rattle.syn_forms.proofs.groups_laws.Complete.{content, content_ahead, reads_inside}
use Rattle.syn_forms.proofs.lists_laws.Complete.{any_first, listed_here}
use Rattle.syn_forms.proofs.nested_laws.Ahead.{weight}
use Rattle.syn_ty.specs.declared.ty.TypeOf.TheVariants as v
use Rattle.syn_ty.specs.ty.Reading as reading
use Rattle.syn_ty.specs.ty.Types.{Semi}
use Rattle.syn_ty.proofs.ty_laws.complete.Leaves.{array_complete, later, not_more, paren_complete, ptr_complete, slice_complete}
use Rattle.syn_ty.proofs.ty_laws.complete.Params.{Over, done_over, over_fits}
use Rattle.syn_ty.proofs.ty_laws.complete.Within.{Fits, Less, Meets, SuppliedMeets, TypeBegins}

-- ---- a token that may be there

-- Where it is not there, its test does not see it in what follows.
module _ {B : Type 0} (Is : Relation B) (sees : Toks → Bool) (p : Reader B) (seen : (x : B) (l k : Toks) → Is x l k → sees l ≡ true)
    (met : (x : B) (l k : Toks) (f : Option Span) (e : Span) (sc : Scope) → Is x l k → Reads_to p x l k f e sc) where
  pub optional_met : (o : Option B) (l k : Toks) (f : Option Span) (e : Span) (sc : Scope) → IsOptional Is o l k → (is_some o ≡ false → sees k ≡ false) → Reads_to (optional sees p) o l k f e sc
  optional_met o l k f e sc absent h = record { last = e; reads = chosen (sees l) false _ _ (at l f e sc) _ (h refl) refl }
  optional_met o l k f e sc (present {a = x} i) h =
      let w = met x l k f e sc i in
      record { last = w.last; reads = chosen (sees l) true _ _ (at l f e sc) _ (seen x l k i) (link _ w.reads refl) }

-- ---- where everything ends

pub comma_ended : (c : Comma) (l k : Toks) → IsMark true c l k → Over l
unfolding sees_lifetime sees_group sees_word sees_mark sees_call
comma_ended c l k (is_mark (last_char x)) = record { stops = record { no_sep = refl; no_angle = refl; no_call = refl; no_arrow = refl; no_question = refl; no_lifetime = refl; no_paren = refl; no_bracket = refl; no_pound = refl }; no_plus = refl; no_word = refl }

pub semi_ended : (q : Semi) (l k : Toks) → IsMark true q l k → Over l
unfolding sees_lifetime sees_group sees_word sees_mark sees_call
semi_ended q l k (is_mark (last_char x)) = record { stops = record { no_sep = refl; no_angle = refl; no_call = refl; no_arrow = refl; no_question = refl; no_lifetime = refl; no_paren = refl; no_bracket = refl; no_pound = refl }; no_plus = refl; no_word = refl }

-- ---- tokens before a type

and_light : (a : And) (l k : Toks) → IsMark true a l k → weight k < weight l
and_light a l k (is_mark (last_char x)) = omega arith

life_light : (o : Option Lifetime) (l k : Toks) → IsOptional IsLifetime o l k → weight k ≤ weight l
life_light o l k absent = omega arith
life_light o l k (present is_lifetime) = omega arith

mut_light : (o : Option Mut) (l k : Toks) → IsOptional IsWord o l k → weight k ≤ weight l
mut_light o l k absent = omega arith
mut_light o l k (present is_word) = omega arith

mut_no_lifetime : (u : Mut) (l k : Toks) → IsWord u l k → sees_lifetime l ≡ false
unfolding sees_lifetime
mut_no_lifetime u l k is_word = refl

-- ---- groups

-- less is left in a group
pub less_inside : (d : Delimiter) (s : DelimSpan) (c k : Toks) (f : Option Span) (e : Span) (sc : Scope) (limit : ℕ) → ahead (at (group d s c k) f e sc) ≤ limit → ahead (content d s c k f e sc) < limit
less_inside d s c k f e sc limit h = let g = content_ahead d groups.paren_name s c k f e sc in omega (arith, h, g)

-- a read of all that a group holds
pub parens_met : {B : Type 0} (p : Reader B) (x : B) (s : DelimSpan) (c k : Toks) (f : Option Span) (e : Span) (sc : Scope) → Reads_to p x c done None none (content Parenthesis s c k f e sc).scope →
    in_parens p (at (group Parenthesis s c k) f e sc) ≡ Ok ((groups.paren s, x), at k f s.closing sc)
parens_met p x s c k f e sc w =
    let z = content Parenthesis s c k f e sc in
    link _ (reads_inside Parenthesis groups.paren_name p x s c k (at done None w.last z.scope) f e sc w.reads (leaves_none None w.last z.scope refl)) refl

brackets_met : {B : Type 0} (p : Reader B) (x : B) (s : DelimSpan) (c k : Toks) (f : Option Span) (e : Span) (sc : Scope) → Uses p x (content Bracket s c k f e sc) →
    in_brackets p (at (group Bracket s c k) f e sc) ≡ Ok ((groups.bracket s, x), at k f s.closing sc)
brackets_met p x s c k f e sc w = link _ (reads_inside Bracket groups.bracket_name p x s c k w.0 f e sc w.1 (uses_none (content Bracket s c k f e sc) w.0 refl w.2)) refl

pub done_there : is_done done ≡ true
unfolding is_done
done_there = refl

comma_there : (c : Comma) (l k : Toks) → IsMark true c l k → is_done l ≡ false
unfolding is_done
comma_there c l k (is_mark (last_char x)) = refl

comma_light : (c : Comma) (l k : Toks) → IsMark true c l k → weight k ≤ weight l
comma_light c l k (is_mark (last_char x)) = omega arith

done_no_semi : token.sees_semi done ≡ false
unfolding sees_mark
done_no_semi = refl

module _ {A E : Type 0} (r : Readers A E) (part : Manner → Parts A E) (limit : ℕ) (m : Meets r part limit) where
  -- ---- pointers

  -- a type that ends so, and what may follow it
  abbrev Ending : End → TypePlace → Relation (TypeTree A E)
  Ending d p x l k = (part clearly).ty p d x l k

  abbrev Follows : End → TypePlace → Toks → Type 0
  Follows d p k = Fits d k × (allows_plus p ≡ true → token.sees_plus k ≡ false)

  ending_met : (d : End) (p : TypePlace) (x : TypeTree A E) (l k : Toks) (f : Option Span) (e : Span) (sc : Scope) → ahead (at l f e sc) < limit → Ending d p x l k → Follows d p k → Reads_to (r (a_type p)) x l k f e sc
  ending_met d p x l k f e sc h i o = m.ty p d x l k f e sc h i o.0 o.1

  without_plus : (d : End) (k : Toks) → Fits d k → Follows d NoPlus k
  without_plus d k o = (o, λ q. cc q)

  pub pointer_met : (d : End) (x : TypePtr A E) (l k : Toks) (f : Option Span) (e : Span) (sc : Scope) → ahead (at l f e sc) ≤ limit → IsPointer part clearly d x l k → Fits d k → Reads_to (reading.ptr r) x l k f e sc
  pointer_met d x l k f e sc h (a_pointer {s = b} {q = q} {x = y} {m = u} {n = n} i j g) o = ptr_complete r (Ending d) (Follows d) limit (ending_met d) b q y l u n k f e sc h i j g (without_plus d k o)

  -- ---- references

  -- by its parts: where no lifetime stands, none is seen in what follows
  borrow : (d : End) (a : And) (o : Option Lifetime) (q : Option Mut) (x : TypeTree A E) (l n c b k : Toks) (f : Option Span) (e : Span) (sc : Scope) → ahead (at l f e sc) ≤ limit → IsMark true a l n →
      IsOptional IsLifetime o n c → (is_some o ≡ false → sees_lifetime c ≡ false) → IsOptional IsWord q c b → (part clearly).ty NoPlus d x b k → Fits d k → Reads_to (reading.reference r) (reference_of a o q x) l k f e sc
  unfolding reading.reference forms.reference
  borrow d a o q x l n c b k f e sc h i j none g y z =
      let start = (m.firsts.ty NoPlus d x b k y).0 in
      let w = mark_complete true {n = 5} {k = 1} refl (omega arith) a l n f e sc i in
      let u = optional_met IsLifetime sees_lifetime _ lifetime_seen lifetime_complete o n c f w.last sc j none in
      let v = optional_met IsWord token.sees_mut _ word_seen word_complete q c b f u.last sc g (λ p. start.no_mut) in
      let less = and_light a l n i in
      let le = life_light o n c j in
      let same = mut_light q c b g in
      let t = m.ty NoPlus d x b k f v.last sc (later l b f f e v.last sc limit (omega (arith, less, le, same)) h) y z (λ p. cc p) in
      let parts : ◌≡◌ {A = Outcome (And × Option Lifetime × Option Mut × TypeTree A E)} (forms.reference (r (a_type NoPlus)) (at l f e sc)) (Ok ((a, o, q, x), at k f t.last sc)) = link _ w.reads (link _ u.reads (link _ v.reads (link _ t.reads refl))) in
      record { last = t.last; reads = link _ parts refl }

  pub borrow_met : (d : End) (x : TypeReference A E) (l k : Toks) (f : Option Span) (e : Span) (sc : Scope) → ahead (at l f e sc) ≤ limit → IsBorrow part clearly d x l k → Fits d k → Reads_to (reading.reference r) x l k f e sc
  borrow_met d x l k f e sc h (a_borrow {a = a} {x = y} {m = n} i g j) o = borrow d a None None y l n n n k f e sc h i absent (λ p. g) absent j o
  borrow_met d x l k f e sc h (a_mutable_borrow {a = a} {u = u} {x = y} {m = n} {n = c} i w j) o = borrow d a None (Some u) y l n n c k f e sc h i absent (λ p. mut_no_lifetime u n c w) (present w) j o
  borrow_met d x l k f e sc h (a_lifetime_borrow {a = a} {y = b} {u = u} {x = y} {m = n} {n = c} {k = g} i q w j) o = borrow d a (Some b) u y l n c g k f e sc h i (present q) (λ p. cc p) w j o

  -- ---- one type in a group, however it ends

  nothing_follows : (d : End) (p : TypePlace) → Follows d p done
  nothing_follows d p = (over_fits d done (done_over done done_there), λ q. (done_over done done_there).no_plus)

  pub enclosed_met : (x : TypeParen A E) (l k : Toks) (f : Option Span) (e : Span) (sc : Scope) → ahead (at l f e sc) ≤ limit → IsEnclosed part clearly NoPlus x l k → Reads_to (reading.paren r) x l k f e sc
  enclosed_met x l k f e sc h (enclosed {s = b} {e = d} {x = y} {c = c} i) = paren_complete r (Ending d) (Follows d) limit (ending_met d) (nothing_follows d) b y c k f e sc h i

  pub bracketed_met : (x : TypeSlice A E) (l k : Toks) (f : Option Span) (e : Span) (sc : Scope) → ahead (at l f e sc) ≤ limit → IsBracketed part clearly x l k → Reads_to (reading.slice r) x l k f e sc
  bracketed_met x l k f e sc h (bracketed {s = b} {e = d} {x = y} {c = c} i) = slice_complete r (Ending d) (Follows d) limit (ending_met d) (nothing_follows d) b y c k f e sc h i

  -- ---- tuples

  -- an element, however it ends, before the end or a comma
  pub element_met : (x : TypeTree A E) (l k : Toks) (f : Option Span) (e : Span) (sc : Scope) → ahead (at l f e sc) < limit → IsElement part clearly x l k → Over k → Reads_to (r (a_type Plus)) x l k f e sc
  element_met x l k f e sc h (an_element {e = d} i) o = m.ty Plus d x l k f e sc h i (over_fits d k o) (λ q. o.no_plus)

  pub element_begins : (x : TypeTree A E) (l k : Toks) → IsElement part clearly x l k → TypeBegins l k × Less l k
  element_begins x l k (an_element {e = d} i) = m.firsts.ty Plus d x l k i

  rest_met : (xs : List (TypeTree A E)) (cs : List Comma) (l : Toks) (f : Option Span) (e : Span) (sc : Scope) → ahead (at l f e sc) < limit → AreListed (λ (_ : Bool). IsElement part clearly) (IsMark true) Anywhere false xs cs l done →
      Reads_to (terminated is_done (r (a_type Plus)) tokens.comma) (xs, cs) l done f e sc
  rest_met xs cs l f e sc h j =
      listed_here (λ (_ : Bool). is_done) (λ (_ : Bool). r (a_type Plus)) (λ k. not (is_done k)) tokens.comma (λ (_ : Bool). IsElement part clearly) (IsMark true) Anywhere Over (λ k. ahead (at k None none sc) < limit) sc
      (λ b x k n u i o g a. element_met x k n g a sc u i o)
      (λ c k n i g a. mark_complete true {n = 4} {k = 1} refl (omega arith) c k n g a sc i)
      (λ c k n i. (comma_ended c k n i, ap not (comma_there c k n i)))
      (λ b x k n i. (element_begins x k n i).0.there)
      (λ b x k n i. (element_begins x k n i).1.shorter)
      (λ c k n i. mark_size true {n = 4} {k = 1} c k n i)
      (λ b x c k n o i g u. let less = (element_begins x k n i).1.lighter in let le = comma_light c n o g in not_more k o None None none none sc limit (omega (arith, less, le)) u)
      true xs cs l done h (any_first (IsElement part clearly) (IsMark true) false true xs cs l done j)
      (record { follows = done_over done done_there; over = ap not done_there; stops_there = λ b may. done_there }) f e

  -- a comma after the first element, and others
  pub more_met : (x : TypeTree A E) (c : Comma) (xs : List (TypeTree A E)) (cs : List Comma) (l k : Toks) (f : Option Span) (e : Span) (sc : Scope) → ahead (at l f e sc) < limit → IsMark true c l k →
      AreListed (λ (_ : Bool). IsElement part clearly) (IsMark true) Anywhere false xs cs k done → Reads_to (more_elements (r (a_type Plus)) x) (x ∷ xs, c ∷ cs) l done f e sc
  unfolding more_elements
  more_met x c xs cs l k f e sc h i j =
      let w = mark_complete true {n = 4} {k = 1} refl (omega arith) c l k f e sc i in
      let u = rest_met xs cs k f w.last sc (not_more l k f f e w.last sc limit (comma_light c l k i) h) j in
      record { last = u.last; reads = link _ w.reads (link _ u.reads refl) }

  elements_met : (x : TypeTree A E) (c : Comma) (xs : List (TypeTree A E)) (cs : List Comma) (l n k : Toks) (f : Option Span) (e : Span) (sc : Scope) → ahead (at l f e sc) < limit → IsElement part clearly x l n → IsMark true c n k →
      AreListed (λ (_ : Bool). IsElement part clearly) (IsMark true) Anywhere false xs cs k done → Reads_to (tuple_content (r (a_type Plus))) (x ∷ xs, c ∷ cs) l done f e sc
  unfolding tuple_content
  elements_met x c xs cs l n k f e sc h i j g =
      let w = element_met x l n f e sc h i (comma_ended c n k j) in
      let start = element_begins x l n i in
      let less = start.1.lighter in
      let u = more_met x c xs cs n k f w.last sc (not_more l n f f e w.last sc limit (omega (arith, less)) h) j g in
      record { last = u.last; reads = chosen (is_done l) false _ _ (at l f e sc) _ start.0.there (link _ w.reads u.reads) }

  -- whether a first element begins with a lifetime or not
  pub tupled_met : (Begins : Toks → Type 0) (x : TypeTuple A E) (l k : Toks) (f : Option Span) (e : Span) (sc : Scope) → ahead (at l f e sc) ≤ limit → IsTupled part clearly Begins x l k → Reads_to (reading.tuple r) x l k f e sc
  unfolding reading.tuple tuple_content
  tupled_met Begins x l k f e sc h (no_element {s = s}) =
      let z = content Parenthesis s done k f e sc in
      record { last = s.closing; reads = link _ (parens_met (tuple_content (r (a_type Plus))) ([], []) s done k f e sc (record { last = none; reads = chosen (is_done done) true _ _ z _ done_there refl })) refl }
  tupled_met Begins x l k f e sc h (some_elements {s = s} {x = y} {k = b} {xs = ys} {ks = cs} {c = c} {m = n} {n = o} q i j g) =
      let z = content Parenthesis s c k f e sc in
      let w = elements_met y b ys cs c n o None none z.scope (less_inside Parenthesis s c k f e sc limit h) i j g in
      record { last = s.closing; reads = link _ (parens_met (tuple_content (r (a_type Plus))) (y ∷ ys, b ∷ cs) s c k f e sc w) refl }

  -- ---- what brackets hold: a type alone, or a length after it

  module _ (attrs : Reader (List A)) (values : ReadValues E) (given : SuppliedMeets attrs values part) where
    pub counted_met : (x : TypeArray A E) (l k : Toks) (f : Option Span) (e : Span) (sc : Scope) → ahead (at l f e sc) ≤ limit → IsCounted part clearly x l k → Reads_to (reading.array values r) x l k f e sc
    counted_met x l k f e sc h (counted {s = b} {e = d} {x = y} {q = q} {n = n} {c = c} {m = u} {k = o} i j g) =
        array_complete r (Ending d) (Follows d) limit (ending_met d) values (part clearly).len given.len (λ q n c w. let o = semi_ended q n c w in (over_fits d n o, λ z. o.no_plus)) b y q n c u o k f e sc h i j g

    one_content : (d : End) (x : TypeTree A E) (c : Toks) (f : Option Span) (e : Span) (sc : Scope) → ahead (at c f e sc) < limit → (part clearly).ty Plus d x c done → Uses (bracket_content values.len (r (a_type Plus))) (Element x) (at c f e sc)
    unfolding bracket_content
    one_content d x c f e sc h i =
        let w = m.ty Plus d x c done f e sc h i (over_fits d done (done_over done done_there)) (λ q. (done_over done done_there).no_plus) in
        (at done f w.last sc, link _ w.reads (chosen (token.sees_semi done) false _ _ (at done f w.last sc) _ done_no_semi refl), record { ends = done_there; left = refl })

    counted_content : (d : End) (x : TypeTree A E) (q : Semi) (n : E) (c b k : Toks) (f : Option Span) (e : Span) (sc : Scope) → ahead (at c f e sc) < limit → (part clearly).ty Plus d x c b → IsMark true q b k → (part clearly).len n k →
        Uses (bracket_content values.len (r (a_type Plus))) (Counted x (q, n)) (at c f e sc)
    unfolding bracket_content inner.length
    counted_content d x q n c b k f e sc h i j g =
        let o = semi_ended q b k j in
        let w = m.ty Plus d x c b f e sc h i (over_fits d b o) (λ z. o.no_plus) in
        let u = mark_complete true {n = 24} {k = 1} refl (omega arith) q b k f w.last sc j in
        let v = given.len (at k f u.last sc) n g in
        let all : ◌≡◌ {A = Outcome (inner.Length E)} (inner.length values.len (at b f w.last sc)) (Ok ((q, n), v.0)) = link _ u.reads (link _ v.1 refl) in
        (v.0, link _ w.reads (chosen (token.sees_semi b) true _ _ (at b f w.last sc) _ (mark_seen true {n = 24} {k = 1} q b k j) (link _ all refl)), record { ends = v.2.ends; left = v.2.left })

    pub slice_type_met : (x : TypeSlice A E) (l k : Toks) (f : Option Span) (e : Span) (sc : Scope) → ahead (at l f e sc) ≤ limit → IsBracketed part clearly x l k → Reads_to (reading.slice_or_array values r) (v.Slice x) l k f e sc
    unfolding reading.slice_or_array
    slice_type_met x l k f e sc h (bracketed {s = s} {e = d} {x = y} {c = c} i) =
        let z = content Bracket s c k f e sc in
        let w = one_content d y c None none z.scope (less_inside Bracket s c k f e sc limit h) i in
        record { last = s.closing; reads = link _ (brackets_met (bracket_content values.len (r (a_type Plus))) (Element y) s c k f e sc w) refl }

    pub array_type_met : (x : TypeArray A E) (l k : Toks) (f : Option Span) (e : Span) (sc : Scope) → ahead (at l f e sc) ≤ limit → IsCounted part clearly x l k → Reads_to (reading.slice_or_array values r) (v.Array x) l k f e sc
    unfolding reading.slice_or_array
    array_type_met x l k f e sc h (counted {s = s} {e = d} {x = y} {q = q} {n = n} {c = c} {m = b} {k = o} i j g) =
        let z = content Bracket s c k f e sc in
        let w = counted_content d y q n c b o None none z.scope (less_inside Bracket s c k f e sc limit h) i j g in
        record { last = s.closing; reads = link _ (brackets_met (bracket_content values.len (r (a_type Plus))) (Counted y (q, n)) s c k f e sc w) refl }
