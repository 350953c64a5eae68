-- Where an array, a slice or a tuple is read, it is spelt by the rules of the whole grammar: what its group holds, over the same law of types and of lengths.
use Rattle.std.proofs.Common.{◌≡◌, Bool, false, List, None, Ok, inl, inr, refl, sym, ◌∙◌, ap, subst, arith}
use Rattle.syn_ty.proofs.ty_laws.words.Tokens.{DelimSpan, Parenthesis, Bracket, AreListed, none_left, last_value, value_and_mark, Anywhere, Many, Reader, Follows, in_group, leaves, Visible, IsMark, Stream, Toks, done, group}
use Rattle.syn_ty.proofs.ty_laws.words.Paths.{ReadValues}
use Rattle.syn_ty.proofs.ty_laws.words.Forms.{TypePlace, Plus}
use Rattle.syn_ty.proofs.ty_laws.words.Types.{bracketed, IsCounted, counted, IsElement, an_element, IsTupled, no_element, some_elements, IsType, a_slice_type, an_array_type, Manner, loosely, End, closed, Parts, Readers, a_type, Relation, TypeTree, TypeArray, TypeTuple, Comma, array_of, tuple_of}
use Rattle.token_core.specs.Groups as groups
use Rattle.token_core.proofs.MarkSpells.{mark_sound, mark_visible}
use Rattle.token_core.proofs.Took.{branch, mapped}
use Rattle.token_core.proofs.Turns.{chain, same_pair}
use Rattle.syn_path.proofs.Words.{TookOne, first_parts}
use Rattle.syn_forms.specs.declared.groups.InBrackets.{InBrackets}
use Rattle.syn_forms.specs.declared.groups.InBrackets.TheVariants.{Element, Counted}
use Rattle.syn_forms.specs.groups.Reading as inner
use Rattle.syn_forms.specs.groups.Reading.{Length}
use Rattle.syn_forms.specs.tokens.Reading as tokens
use Rattle.syn_forms.proofs.tokens_laws.Fronts.{took_as, took_whole}
use Rattle.syn_ty.specs.ty.Reading as reading
use Rattle.syn_ty.proofs.ty_laws.sound.Leaves as plain
use Rattle.syn_ty.proofs.ty_laws.sound.Leaves.{IsHeld, held_sound, tuple_content_sound, twice}
use Rattle.syn_ty.proofs.ty_laws.sound.Forms.{Told, never_open}
use Rattle.syn_ty.proofs.ty_laws.sound.Within.{Held, Supplied}

-- where nothing is left over later on, nothing was before
pub left_before : (s t : Stream) → Follows s t → t.left ≡ None → s.left ≡ None
left_before s t f h = (first_parts s.left t.left (f.kept ∙ h)).0

-- values that spell more loosely
module _ {A P : Type 0} {V W : Relation A} {M : Relation P} {Ends : Bool → Type 0} (f : (x : A) (l r : Toks) → V x l r → W x l r) where
  pub listed_as : (b : Bool) (xs : List A) (ps : List P) (l r : Toks) → AreListed (λ (_ : Bool). V) M Ends b xs ps l r → AreListed (λ (_ : Bool). W) M Ends b xs ps l r
  listed_as b xs ps l r (none_left h) = none_left h
  listed_as b xs ps l r (last_value {x = x} i) = last_value (f x l r i)
  listed_as b xs ps l r (value_and_mark {x = x} {xs = ys} {ps = qs} {m = m} {k = k} i j n) = value_and_mark (f x l m i) j (listed_as false ys qs k r n)

module _ {A E : Type 0} (attrs : Reader (List A)) (values : ReadValues E) (r : Readers A E) (part : Manner → Parts A E) (h : Held r part) (g : Supplied attrs values part) where
  abbrev Tree : Type 0
  Tree = TypeTree A E

  abbrev typ : Reader Tree
  typ = r (a_type Plus)

  abbrev Ends : Tree → Toks → Toks → Type 0
  Ends = Told ((part loosely).ty Plus)

  -- ---- a type and a length

  -- `;` and a length are all of a list
  abbrev IsLength : Length E → Toks → Type 0
  IsLength n l = (k : Toks) × IsMark false n.0 l k × (part loosely).len n.1 k

  length_sound : (s t : Stream) (n : Length E) → Visible s.rest → inner.length values.len s ≡ Ok (n, t) → leaves t ≡ None → (s.left ≡ None) × IsLength n s.rest
  unfolding inner.length
  length_sound s t n v e o =
      let c = chain (tokens.semi s) _ n t e in
      let k = mark_sound {n = 24} {k = 1} refl (omega arith) s c.rest c.value v c.was in
      let vc = mark_visible false {n = 24} {k = 1} c.value s.rest c.rest.rest k.spelt v in
      let w = mapped (values.len c.rest) (λ (z : E). (c.value, z)) n t c.goes in
      (sym k.left ∙ g.len_left c.rest t w.value w.was o, subst (λ (z : Length E). IsLength z s.rest) w.is (c.rest.rest, k.spelt, g.len c.rest t w.value vc w.was o))

  abbrev IsCount : Tree → Length E → Toks → Type 0
  IsCount x n l = (e : End) × (m : Toks) × (part loosely).ty Plus e x l m × IsLength n m

  count_at : (x : Tree) (n : Length E) (s c t : Stream) → Visible s.rest → typ s ≡ Ok (x, c) → inner.length values.len c ≡ Ok (n, t) → leaves t ≡ None → IsCount x n s.rest
  count_at x n s c t v e f o =
      let k = h.ty Plus s c x v e in
      let q = length_sound c t n k.seen f o in
      let i = k.spelt q.0 in
      (i.0, c.rest, i.1, q.1)

  counted_at : (s : DelimSpan) (x : Tree) (n : Length E) (c l k : Toks) → l ≡ group Bracket s c k → IsCount x n c → IsCounted part loosely (array_of (groups.bracket s) x n.0 n.1) l k
  counted_at s x n c l k e i = subst (λ z. IsCounted part loosely (array_of (groups.bracket s) x n.0 n.1) z k) (sym e) (counted i.2 i.3.1 i.3.2)

  -- ---- arrays by themselves

  abbrev HoldsBoth : Tree × Length E → Toks → Type 0
  HoldsBoth w l = IsCount w.0 w.1 l

  both_sound : (s t : Stream) (w : Tree × Length E) → Visible s.rest → inner.array_content values.len typ s ≡ Ok (w, t) → leaves t ≡ None → HoldsBoth w s.rest
  unfolding inner.array_content
  both_sound s t w v e o =
      let c = chain (typ s) _ w t e in
      let k = mapped (inner.length values.len c.rest) (λ (z : Length E). (c.value, z)) w t c.goes in
      subst (λ u. HoldsBoth u s.rest) k.is (count_at c.value k.value s c.rest t v c.was k.was o)

  pub counted_took : (s t : Stream) (x : TypeArray A E) → Visible s.rest → reading.array values r s ≡ Ok (x, t) → TookOne (IsCounted part loosely) s t x
  unfolding reading.array
  counted_took s t x v e =
      let k = twice (in_group Bracket groups.bracket_name (inner.array_content values.len typ) s) (λ y. (groups.bracket y.0, y.1.0, y.1.1)) (λ y. array_of y.0 y.1 y.2.0 y.2.1) x t e in
      took_as {Is = IsHeld Bracket HoldsBoth} {Js = IsCounted part loosely} (λ y. array_of (groups.bracket y.0) y.1.0 y.1.1.0 y.1.1.1) s t k.value x k.is
      (λ l m i. counted_at k.value.0 k.value.1.0 k.value.1.1 i.content l m i.is i.holds)
      (held_sound Bracket HoldsBoth groups.bracket_name (inner.array_content values.len typ) both_sound s t k.value v k.was)

  -- ---- a slice or an array

  abbrev HoldsEither : InBrackets Tree E → Toks → Type 0
  HoldsEither (Element x) l = (e : End) × (part loosely).ty Plus e x l done
  HoldsEither (Counted x n) l = IsCount x n l

  either_sound : (s t : Stream) (w : InBrackets Tree E) → Visible s.rest → inner.bracket_content values.len typ s ≡ Ok (w, t) → leaves t ≡ None → HoldsEither w s.rest
  unfolding inner.bracket_content
  either_sound s t w v e o =
      let c = chain (typ s) _ w t e in
      elim (branch (tokens.sees_semi c.rest.rest) _ _ c.rest (Ok (w, t)) c.goes) [
        | inl y ↦ let k = mapped (inner.length values.len c.rest) (Counted c.value) w t y.1 in subst (λ u. HoldsEither u s.rest) k.is (count_at c.value k.value s c.rest t v c.was k.was o)
        | inr y ↦ let q = same_pair (Element c.value) w c.rest t y.1 in
            let i = took_whole {Is = Ends} s c.rest c.value (h.ty Plus s c.rest c.value v c.was) (ap leaves q.1 ∙ o) in
            subst (λ u. HoldsEither u s.rest) q.0 (i.0, i.1)
      ]

  either_at : (place : TypePlace) (s : DelimSpan) (w : InBrackets Tree E) (c l k : Toks) → l ≡ group Bracket s c k → HoldsEither w c → Told (IsType part loosely place) (reading.bracketed (groups.bracket s) w) l k
  either_at place s (Element x) c l k e i = subst (λ z. Told (IsType part loosely place) (reading.bracketed (groups.bracket s) (Element x)) z k) (sym e) (closed, a_slice_type (bracketed i.1), never_open, never_open)
  either_at place s (Counted x n) c l k e i = (closed, an_array_type (counted_at s x n c l k e i), never_open, never_open)

  -- brackets, as a type
  pub brackets_took : (place : TypePlace) (s t : Stream) (x : Tree) → Visible s.rest → reading.slice_or_array values r s ≡ Ok (x, t) → TookOne (Told (IsType part loosely place)) s t x
  unfolding reading.slice_or_array
  brackets_took place s t x v e =
      let k = twice (in_group Bracket groups.bracket_name (inner.bracket_content values.len typ) s) (λ y. (groups.bracket y.0, y.1)) (λ y. reading.bracketed y.0 y.1) x t e in
      took_as {Is = IsHeld Bracket HoldsEither} {Js = Told (IsType part loosely place)} (λ y. reading.bracketed (groups.bracket y.0) y.1) s t k.value x k.is
      (λ l m i. either_at place k.value.0 k.value.1 i.content l m i.is i.holds)
      (held_sound Bracket HoldsEither groups.bracket_name (inner.bracket_content values.len typ) either_sound s t k.value v k.was)

-- ---- tuples

module _ {A E : Type 0} (r : Readers A E) (part : Manner → Parts A E) (h : Held r part) where
  abbrev pub TypeAt : TypePlace → Relation (TypeTree A E)
  TypeAt p = Told ((part loosely).ty p)

  -- elements that are all of a list
  abbrev pub Elements : Many (TypeTree A E) Comma → Toks → Type 0
  Elements w l = plain.AreElements TypeAt w.0 w.1 l

  tupled_in : (Begins : Toks → Type 0) (s : DelimSpan) (xs : List (TypeTree A E)) (cs : List Comma) (c k : Toks) → plain.AreElements TypeAt xs cs c → Begins c →
      IsTupled part loosely Begins (tuple_of (groups.paren s) (xs, cs)) (group Parenthesis s c k) k
  tupled_in Begins s xs cs c k plain.no_elements b = no_element
  tupled_in Begins s xs cs c k (plain.some_elements {xs = ys} {cs = ds} {k = m} i j n) b =
      some_elements b (an_element i.1) j (listed_as {V = TypeAt Plus} {W = IsElement part loosely} {Ends = Anywhere} (λ x l o w. an_element w.1) false ys ds m done n)

  pub tupled_at : (Begins : Toks → Type 0) (s : DelimSpan) (w : Many (TypeTree A E) Comma) (c l k : Toks) → l ≡ group Parenthesis s c k → Elements w c → Begins c → IsTupled part loosely Begins (tuple_of (groups.paren s) w) l k
  tupled_at Begins s w c l k e i b = subst (λ z. IsTupled part loosely Begins (tuple_of (groups.paren s) w) z k) (sym e) (tupled_in Begins s w.0 w.1 c k i b)

  -- by itself, however it begins
  pub tupled_took : (s t : Stream) (x : TypeTuple A E) → Visible s.rest → reading.tuple r s ≡ Ok (x, t) → TookOne (IsTupled part loosely (λ l. Unit {0})) s t x
  unfolding reading.tuple
  tupled_took s t x v e =
      let k = twice (in_group Parenthesis groups.paren_name (inner.tuple_content (r (a_type Plus))) s) (λ y. (groups.paren y.0, y.1)) (λ y. tuple_of y.0 y.1) x t e in
      took_as {Is = IsHeld Parenthesis Elements} {Js = IsTupled part loosely (λ l. Unit {0})} (λ y. tuple_of (groups.paren y.0) y.1) s t k.value x k.is
      (λ l m i. tupled_at (λ l. Unit {0}) k.value.0 k.value.1 i.content l m i.is i.holds tt)
      (held_sound Parenthesis Elements groups.paren_name (inner.tuple_content (r (a_type Plus))) (tuple_content_sound r TypeAt h.ty) s t k.value v k.was)
