-- A generic argument that a list spells clearly is what its read answers, and it takes no more: over the read of a type at its front, in both places.
use Rattle.std.proofs.lemmas.Bool.{eqb-true}
use Rattle.std.proofs.lemmas.Slice.Eq.{bytes_eq-Decides}
use Rattle.std.proofs.Common.{◌≡◌, ℕ, ◌<◌, ◌≤◌, Bool, true, false, not, ◌==◌, ◌&&◌, ◌||◌, if◌then◌else◌, List, [], ◌∷◌, Option, Some, None, is_some, refl, sym, ◌∙◌, ap}
use Rattle.syn_ty.proofs.ty_laws.words.Tokens.{Lifetime, Lit, Span, Ident, Punct, is_keyword, read_lifetime, sees_lifetime, with_ident, sees_lit, Many, Reader, after_one, is_done, is_ident, is_joint, is_text, second, sees_group, sees_word, IsMark, IsLifetime, is_lifetime, Scope, Bytes, Toks, done, word, mark, lit, group, enter, leave, last_value}
use Rattle.syn_ty.proofs.ty_laws.words.Paths.{segment_of, path_of, is_mod_word, ReadValues}
use Rattle.syn_ty.proofs.ty_laws.words.Forms.{Parameter, Plus, bounds_to, ahead, with_arguments}
use Rattle.syn_ty.proofs.ty_laws.words.Types.{out-PathArgumentsOf, out-roll-TypePathOf, ArgumentPlace, alone, between_angles, ConstraintEnds, IsItemName, an_item, an_item_with_arguments, IsArgument, a_lifetime_argument, a_type_argument, a_const_argument, an_assoc_type, an_assoc_const, a_constraint, assoc_const_of, assoc_type_of, constraint_of, no_arguments, ItemName, after_type, argument_step, ends_constraint, generics_layer, item_of_path, sees_const, sees_lone_lifetime, with_name, is_segment_word, a_word, a_word_with_arguments, a_path, unqualified, IsType, a_path_type, Manner, clearly, End, closed, Parts, Readers, a_bound, a_type, Relation, absent, AngleBracketed, GenericArgument, Path, PathArguments, PathSegment, TypeParamBound, TypeTree, qualified_with}
use Rattle.token_core.specs.Lifetimes as lifetimes
use Rattle.token_core.specs.Lits.{false_text, past_number, next_lit, true_text}
use Rattle.token_core.specs.Tokens as token
use Rattle.token_core.proofs.Steps.{link, chosen, Reads_to}
use Rattle.token_core.proofs.Took.{at}
use Rattle.token_core.proofs.Unseen.{colon_apart}
use Rattle.token_core.proofs.WordSpells.{lifetime_complete}
use Rattle.syn_ty.specs.declared.path.GenericArgumentOf.TheVariants as k
use Rattle.syn_ty.specs.declared.path.PathArgumentsOf.TheVariants as a
use Rattle.syn_ty.specs.declared.ty.TypeOf.TheVariants as form
use Rattle.syn_ty.specs.path.Reading.{after_item, assoc, constraint, item_layer, item_of, item_of_path_layer}
use Rattle.syn_ty.proofs.ty_laws.complete.Leaves.{later}
use Rattle.syn_ty.proofs.ty_laws.complete.Less.{less_less, word_less}
use Rattle.syn_ty.proofs.ty_laws.complete.Within.{Fits, Less, TypeBegins, BoundBegins, Meets, SuppliedMeets}
use Rattle.syn_ty.proofs.ty_laws.complete.Params.{bounds_meet, Over, over_fits, colon_met, colon_over, colon_seen, colon_takes, constraint_no_mark, constraint_over, done_no_mark, done_over, equals_met, equals_over, equals_seen, equals_takes, mapped_met, other_char}

-- ---- what follows an argument in its place

-- alone nothing, and between angle marks a comma or a `>`
abbrev pub EndsArgument : ArgumentPlace → Toks → Type 0
EndsArgument alone l = is_done l ≡ true
EndsArgument between_angles l = ends_constraint l ≡ true

record Ended (place : ArgumentPlace) (l : Toks) : Type 0 where
  over : Over l
  no_equals : token.sees_equals l ≡ false
  no_colon : token.sees_colon l ≡ false
  bounds_end : (first : Bool) → ConstraintEnds place first → ends_constraint l ≡ true

ended : (place : ArgumentPlace) (l : Toks) → EndsArgument place l → Ended place l
ended alone l h = record { over = done_over l h; no_equals = done_no_mark 61 [] l h; no_colon = done_no_mark 58 [] l h; bounds_end = λ first may. absurd may }
ended between_angles l h = record { over = constraint_over l h; no_equals = constraint_no_mark 61 [] l refl refl h; no_colon = constraint_no_mark 58 [] l refl refl h; bounds_end = λ first may. h }

-- ---- no bound begins where the bounds of an associated type end

pub ends_constraint_goes : (l : Toks) → BoundBegins Parameter l → ends_constraint l ≡ false
unfolding ends_constraint
ends_constraint_goes l b = ap (λ z. z || token.sees_gt l) b.no_comma ∙ b.no_gt

-- ---- which test goes which way

-- a lifetime that no `+` follows
lone_seen : (x : Lifetime) (l m : Toks) → IsLifetime x l m → token.sees_plus m ≡ false → sees_lone_lifetime l ≡ true
unfolding sees_lone_lifetime sees_lifetime after_one
lone_seen x l m is_lifetime h = ap not h

-- what begins a constant is no lifetime
minus_no_quote : (p : Punct) (m : Toks) (b : Bool) → (p.ch == 45) ≡ b → is_some {T = Lit × Toks} (if b then past_number p.span (next_lit m) else None) || false ≡ true → sees_lifetime (mark p m) ≡ false
unfolding sees_lifetime
minus_no_quote p m true h e = ap (λ n. is_some (if n == 39 then (if is_joint p.spacing then with_ident p.span (lifetimes.next_word m) else None) else None)) (eqb-true p.ch 45 h)
minus_no_quote p m false h e = cc e

const_no_lone : (l : Toks) → sees_const l ≡ true → sees_lone_lifetime l ≡ false
unfolding sees_lone_lifetime sees_const sees_lifetime sees_lit sees_group after_one
const_no_lone done h = refl
const_no_lone (word i m) h = refl
const_no_lone (mark p m) h = ap (λ b. b && not (second token.sees_plus (mark p m))) (minus_no_quote p m (p.ch == 45) refl h)
const_no_lone (lit x m) h = refl
const_no_lone (group x s c m) h = refl
const_no_lone (enter s m) h = const_no_lone m h
const_no_lone (leave m) h = const_no_lone m h

-- a word of mod style is no literal
unlike : (w t : Bytes) (b : Bool) → is_text w t ≡ b → is_mod_word w ≡ false → is_mod_word t ≡ true → is_text w t ≡ false
unlike w t true e h i = let n : true ≡ false = sym i ∙ ap is_mod_word ((bytes_eq-Decides t w).0 e) ∙ h in cc n
unlike w t false e h i = e

no_bool : (b c : Bool) (x y : Lit × Toks) → b ≡ false → c ≡ false → is_some {T = Lit × Toks} (if b then Some x else (if c then Some y else None)) || false ≡ false
no_bool false false x y h i = refl
no_bool false true x y h i = cc i
no_bool true c x y h i = cc h

word_no_const : (i : Ident) (m : Toks) → is_mod_word i.text ≡ true → sees_const (word i m) ≡ false
unfolding sees_const sees_lit sees_group is_keyword
word_no_const i m h = no_bool (is_text true_text i.text) (is_text false_text i.text) _ _ (unlike true_text i.text (is_text true_text i.text) refl refl h) (unlike false_text i.text (is_text false_text i.text) refl refl h)

word_no_lone : (i : Ident) (m : Toks) → sees_lone_lifetime (word i m) ≡ false
unfolding sees_lone_lifetime sees_lifetime
word_no_lone i m = refl

-- ---- the name of an associated item, as a type

named_mod : (i u s y c : Bool) → i || y ≡ true → i || (u || (s || (y || c))) ≡ true
named_mod true u s y c h = refl
named_mod false true s y c h = refl
named_mod false false true y c h = refl
named_mod false false false true c h = refl
named_mod false false false false c h = cc h

module _ {A E : Type 0} where
  abbrev name_segment : Ident → Option (AngleBracketed A E) → PathSegment A E
  name_segment i None = segment_of no_arguments i
  name_segment i (Some x) = with_arguments i (a.AngleBracketed x)

  abbrev name_path : Ident → Option (AngleBracketed A E) → Path A E
  name_path i o = path_of None (name_segment i o ∷ [], [])

  -- a path of one segment
  abbrev pub name_type : Ident → Option (AngleBracketed A E) → TypeTree A E
  name_type i o = form.Path (qualified_with [] None (name_path i o))

  segment_named : (i : Ident) (o : Option (AngleBracketed A E)) → with_name i (generics_layer (out-PathArgumentsOf A E (name_segment i o).arguments)) ≡ Some (i, o)
  segment_named i None = ap (λ z. with_name i (generics_layer z)) a.outs-None
  segment_named i (Some x) = ap (λ z. with_name i (generics_layer z)) (a.outs-AngleBracketed x)

  path_named : (i : Ident) (o : Option (AngleBracketed A E)) → item_of_path None (name_path i o).leading_colon (name_path i o).segments.0 ≡ Some (i, o)
  path_named i None = segment_named i None
  path_named i (Some x) = segment_named i (Some x)

  pub name_named : (i : Ident) (o : Option (AngleBracketed A E)) → item_of (name_type i o) ≡ Some (i, o)
  name_named i o = ap item_layer (form.outs-Path (qualified_with [] None (name_path i o))) ∙ ap (item_of_path_layer {A = A} {E = E}) (out-roll-TypePathOf A E (record { attrs = []; qself = None; path = name_path i o })) ∙ path_named i o

module _ {A E : Type 0} (first : End → Relation (TypeTree A E)) (part : Manner → Parts A E) where
  abbrev IsName : Ident → Option (AngleBracketed A E) → Toks → Toks → Type 0
  IsName = IsItemName first part clearly

  module _ (takes : (x : PathArguments A E) (l m : Toks) → (part clearly).arguments x l m → Less l m) where
    name_takes : (i : Ident) (o : Option (AngleBracketed A E)) (l m : Toks) → IsName i o l m → Less l m
    name_takes i o l m (an_item h) = word_less i m
    name_takes i o l m (an_item_with_arguments {x = x} {l = n} h g) = less_less (word_less i n) (takes (a.AngleBracketed x) n m g)

  name_no_const : (i : Ident) (o : Option (AngleBracketed A E)) (l m : Toks) → IsName i o l m → sees_const l ≡ false
  name_no_const i o l m (an_item h) = word_no_const i m h
  name_no_const i o l m (an_item_with_arguments {l = n} h g) = word_no_const i n (named_mod (is_ident i.text) (is_text token.super_text i.text) (is_text token.self_value_text i.text) (is_text token.self_type_text i.text) (is_text token.crate_text i.text) h)

  name_no_lone : (i : Ident) (o : Option (AngleBracketed A E)) (l m : Toks) → IsName i o l m → sees_lone_lifetime l ≡ false
  name_no_lone i o l m (an_item h) = word_no_lone i m
  name_no_lone i o l m (an_item_with_arguments {l = n} h g) = word_no_lone i n

-- ---- an argument

module _ {A E : Type 0} (first : End → Relation (TypeTree A E)) (attrs : Reader (List A)) (values : ReadValues E) (r : Readers A E) (part : Manner → Parts A E) (limit : ℕ) (meets : Meets r part limit) (supplied : SuppliedMeets attrs values part)
    (place : ArgumentPlace) where
  -- after the name of an associated item and `=`: a constant at a literal or braces, else a type
  assoc_const_met : (i : Ident) (o : Option (AngleBracketed A E)) (q : token.Equals) (x : E) (l m : Toks) (f : Option Span) (e : Span) (sc : Scope) → (part clearly).const_argument x l m →
      Reads_to (assoc values r i o q) (k.AssocConst (assoc_const_of i o q x)) l m f e sc
  assoc_const_met i o q x l m f e sc h =
      let w = mapped_met (λ (z : E). k.AssocConst (assoc_const_of i o q z)) values.const_argument x l m f e sc (supplied.argument x l m f e sc h) in
      record { last = w.last; reads = chosen (sees_const l) true _ _ (at l f e sc) _ (supplied.argument_begins x l m h).0 w.reads }

  assoc_type_met : (i : Ident) (o : Option (AngleBracketed A E)) (q : token.Equals) (d : End) (x : TypeTree A E) (l m : Toks) (f : Option Span) (e : Span) (sc : Scope) → ahead (at l f e sc) < limit → (part clearly).ty Plus d x l m → Over m →
      Reads_to (assoc values r i o q) (k.AssocType (assoc_type_of i o q x)) l m f e sc
  assoc_type_met i o q d x l m f e sc h t b =
      let w = mapped_met (λ (z : TypeTree A E). k.AssocType (assoc_type_of i o q z)) (r (a_type Plus)) x l m f e sc (meets.ty Plus d x l m f e sc h t (over_fits d m b) (λ p. b.no_plus)) in
      record { last = w.last; reads = chosen (sees_const l) false _ _ (at l f e sc) _ (meets.firsts.ty Plus d x l m t).0.no_const w.reads }

  -- what follows a type that names an item
  after_equals : (t : TypeTree A E) (i : Ident) (o : Option (AngleBracketed A E)) (q : token.Equals) (x : GenericArgument A E) (l m n : Toks) (f : Option Span) (e : Span) (sc : Scope) → IsMark true q l m →
      ((d : Span) → Reads_to (assoc values r i o q) x m n f d sc) → Reads_to (after_item values r t i o) x l n f e sc
  unfolding after_item
  after_equals t i o q x l m n f e sc h g =
      let w = equals_met q l m f e sc h in
      let u = g w.last in
      record { last = u.last; reads = chosen (token.sees_equals l) true _ _ (at l f e sc) _ (equals_seen q l m h) (link _ w.reads u.reads) }

  after_colon : (t : TypeTree A E) (i : Ident) (o : Option (AngleBracketed A E)) (c : token.Colon) (x : GenericArgument A E) (l m n : Toks) (f : Option Span) (e : Span) (sc : Scope) → IsMark true c l m →
      ((d : Span) → Reads_to (constraint values r i o c) x m n f d sc) → Reads_to (after_item values r t i o) x l n f e sc
  unfolding after_item
  after_colon t i o c x l m n f e sc h g =
      let w = colon_met c l m f e sc h in
      let u = g w.last in
      let s = colon_seen c l m h in
      record { last = u.last; reads = chosen (token.sees_equals l) false _ _ (at l f e sc) _ (other_char 58 61 [] [] l refl s) (chosen (token.sees_colon l) true _ _ (at l f e sc) _ s (link _ w.reads u.reads)) }

  nothing_after : (t : TypeTree A E) (o : Option (ItemName A E)) (l : Toks) (f : Option Span) (e : Span) (sc : Scope) → token.sees_equals l ≡ false → token.sees_colon l ≡ false → Reads_to (after_type values r t o) (k.«Type» t) l l f e sc
  unfolding after_item
  nothing_after t None l f e sc h g = record { last = e; reads = refl }
  nothing_after t (Some n) l f e sc h g = record { last = e; reads = chosen (token.sees_equals l) false _ _ (at l f e sc) _ h (chosen (token.sees_colon l) false _ _ (at l f e sc) _ g refl) }

  -- Types at the front are read where they are spelt and at most the limit is left; the name of an item is one.
  module _ (reader : Reader (TypeTree A E))
      (first_met : (d : End) (x : TypeTree A E) (l m : Toks) (f : Option Span) (e : Span) (sc : Scope) → ahead (at l f e sc) ≤ limit → first d x l m → Fits d m → token.sees_plus m ≡ false → Reads_to reader x l m f e sc)
      (first_begins : (d : End) (x : TypeTree A E) (l m : Toks) → first d x l m → TypeBegins l m)
      (name_first : (i : Ident) (o : Option (AngleBracketed A E)) (l m : Toks) → IsItemName first part clearly i o l m → first closed (name_type i o) l m) where
    by_type : (t : TypeTree A E) (x : GenericArgument A E) (l m n : Toks) (f : Option Span) (e : Span) (sc : Scope) → sees_lone_lifetime l ≡ false → sees_const l ≡ false → Reads_to reader t l m f e sc →
        ((d : Span) → Reads_to (after_type values r t (item_of t)) x m n f d sc) → Reads_to (argument_step values r reader) x l n f e sc
    unfolding argument_step
    by_type t x l m n f e sc h g w after =
        let u = after w.last in
        record { last = u.last; reads = chosen (sees_lone_lifetime l) false _ _ (at l f e sc) _ h (chosen (sees_const l) false _ _ (at l f e sc) _ g (link _ w.reads u.reads)) }

    -- the name of an item, before `=` or `:`
    by_name : (i : Ident) (o : Option (AngleBracketed A E)) (x : GenericArgument A E) (l m n : Toks) (f : Option Span) (e : Span) (sc : Scope) → ahead (at l f e sc) ≤ limit → IsItemName first part clearly i o l m → Over m →
        ((d : Span) → Reads_to (after_item values r (name_type i o) i o) x m n f d sc) → Reads_to (argument_step values r reader) x l n f e sc
    by_name i o x l m n f e sc h is b after =
        by_type (name_type i o) x l m n f e sc (name_no_lone first part i o l m is) (name_no_const first part i o l m is)
        (first_met closed (name_type i o) l m f e sc h (name_first i o l m is) (over_fits closed m b) b.no_plus)
        (λ d. let u = after d in record { last = u.last; reads = ap (λ z. after_type values r (name_type i o) z (at m f d sc)) (name_named i o) ∙ u.reads })

    -- in its place
    pub argument_met : (x : GenericArgument A E) (l m : Toks) (f : Option Span) (e : Span) (sc : Scope) → ahead (at l f e sc) ≤ limit → IsArgument first part clearly place x l m → EndsArgument place m → Reads_to (argument_step values r reader) x l m f e sc
    unfolding argument_step
    argument_met x l m f e sc h (a_lifetime_argument {x = y} i) b =
        let w = mapped_met (λ (z : Lifetime). k.Lifetime z) read_lifetime y l m f e sc (lifetime_complete y l m f e sc i) in
        record { last = w.last; reads = chosen (sees_lone_lifetime l) true _ _ (at l f e sc) _ (lone_seen y l m i (ended place m b).over.no_plus) w.reads }
    argument_met x l m f e sc h (a_type_argument {e = d} {x = y} i) b =
        let o = ended place m b in
        let t = first_begins d y l m i in
        by_type y x l m m f e sc t.no_lone t.no_const (first_met d y l m f e sc h i (over_fits d m o.over) o.over.no_plus) (λ s. nothing_after y (item_of y) m f s sc o.no_equals o.no_colon)
    argument_met x l m f e sc h (a_const_argument {x = y} i) b =
        let c = (supplied.argument_begins y l m i).0 in
        let w = mapped_met (λ (z : E). k.Const z) values.const_argument y l m f e sc (supplied.argument y l m f e sc i) in
        record { last = w.last; reads = chosen (sees_lone_lifetime l) false _ _ (at l f e sc) _ (const_no_lone l c) (chosen (sees_const l) true _ _ (at l f e sc) _ c w.reads) }
    argument_met x l m f e sc h (an_assoc_type {i = i} {o = o} {q = q} {e = d} {x = y} {m = n} {n = j} is g t) b =
        let less = less_less (name_takes first part (λ z u v w. (meets.firsts.arguments z u v w).1) i o l n is) (equals_takes q n j g) in
        by_name i o x l n m f e sc h is (equals_over n (equals_seen q n j g))
        (λ s. after_equals (name_type i o) i o q x n j m f s sc g (λ u. assoc_type_met i o q d y j m f u sc (later l j f f e u sc limit less.lighter h) t (ended place m b).over))
    argument_met x l m f e sc h (an_assoc_const {i = i} {o = o} {q = q} {x = y} {m = n} {n = j} is g t) b =
        by_name i o x l n m f e sc h is (equals_over n (equals_seen q n j g)) (λ s. after_equals (name_type i o) i o q x n j m f s sc g (λ u. assoc_const_met i o q y j m f u sc t))
    argument_met x l m f e sc h (a_constraint {i = i} {o = o} {c = c} {e = d} {xs = xs} {ps = ps} {m = n} {n = j} is g t) b =
        let less = less_less (name_takes first part (λ z u v w. (meets.firsts.arguments z u v w).1) i o l n is) (colon_takes c n j g) in
        let z = ended place m b in
        by_name i o x l n m f e sc h is (colon_over n (colon_seen c n j g) (colon_apart c n j g))
        (λ s. after_colon (name_type i o) i o c x n j m f s sc g
        (λ u. mapped_met (λ (v : Many (TypeParamBound A E) token.Plus). k.Constraint (constraint_of i o c v)) (bounds_to (r (a_bound Parameter)) ends_constraint) (xs, ps) j m f u sc
        (bounds_meet r part limit meets (ConstraintEnds place) ends_constraint ends_constraint_goes d xs ps j m f u sc (later l j f f e u sc limit less.lighter h) t (λ p. over_fits d m z.over) z.bounds_end)))

-- ---- by the rules of types, the name of an item is a type

segment_of_mod : (i u s y c t : Bool) → i || (u || (s || (y || c))) ≡ true → (i || y) || (u || (s || (c || t))) ≡ true
segment_of_mod true u s y c t h = refl
segment_of_mod false u s true c t h = refl
segment_of_mod false true s false c t h = refl
segment_of_mod false false true false c t h = refl
segment_of_mod false false false false true t h = refl
segment_of_mod false false false false false t h = cc h

mod_segment : (t : Bytes) → is_mod_word t ≡ true → is_segment_word t ≡ true
mod_segment t h = segment_of_mod (is_ident t) (is_text token.super_text t) (is_text token.self_value_text t) (is_text token.self_type_text t) (is_text token.crate_text t) (is_text token.try_text t) h

mod_no_try : (i : Ident) (m : Toks) → is_mod_word i.text ≡ true → token.sees_try (word i m) ≡ false
unfolding sees_word is_keyword
mod_no_try i m h = unlike token.try_text i.text (is_text token.try_text i.text) refl refl h

module _ {A E : Type 0} (part : Manner → Parts A E) where
  pub name_is_type : (i : Ident) (o : Option (AngleBracketed A E)) (l m : Toks) → IsItemName (IsType part clearly Plus) part clearly i o l m → IsType part clearly Plus closed (name_type i o) l m
  name_is_type i o l m (an_item h) = a_path_type (unqualified (a_path absent (last_value (a_word (mod_segment i.text h)))), mod_no_try i m h)
  name_is_type i o l m (an_item_with_arguments {l = n} h g) =
      a_path_type (unqualified (a_path absent (last_value (a_word_with_arguments h tt g))), mod_no_try i n (named_mod (is_ident i.text) (is_text token.super_text i.text) (is_text token.self_value_text i.text) (is_text token.self_type_text i.text) (is_text token.crate_text i.text) h))
