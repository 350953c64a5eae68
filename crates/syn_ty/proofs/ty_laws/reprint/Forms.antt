-- Pointers, borrows, types in parentheses and brackets, arrays, tuples and macro calls print their normal form clearly, where the types that they hold do.
use Rattle.std.proofs.Common.{◌≡◌, Bool, true, false, List, [], ◌∷◌, ◌++◌, map, Option, Some, None, refl, sym, ◌∙◌, ap, subst, append-nil}
use Rattle.syn_ty.proofs.ty_laws.words.Tokens.{Lifetime, DelimSpan, Parenthesis, Bracket, sees_lifetime, AreListed, value_and_mark, Anywhere, Many, Print, is_text, sees_word, Visible, IsMark, IsWord, IsLifetime, Bytes, Toks, done, mark, group, punct, row, stream_of_trees, toks}
use Rattle.syn_ty.proofs.ty_laws.words.Paths.{Macro, mac, IsCall, a_macro, Sep, no_leading, leading, AreSegments, last_segment, more_segments, IsBarePath, a_bare_path, NormalValues, Values}
use Rattle.syn_ty.proofs.ty_laws.words.Forms.{TypePlace, Plus, NoPlus}
use Rattle.syn_ty.proofs.ty_laws.words.Types.{IsPointer, a_pointer, IsBorrow, a_borrow, a_mutable_borrow, a_lifetime_borrow, IsEnclosed, enclosed, IsBracketed, bracketed, IsCounted, counted, IsElement, an_element, IsTupled, no_element, some_elements, IsTypeCall, NoLifetime, Manner, plainly, clearly, End, Parts, lone_comma, Relation, IsOptional, absent, present, TypeTree, TypeArray, TypeParen, TypePtr, TypeReference, TypeSlice, TypeTuple, And, Comma, Mut, array_of, paren_of, ptr_of, reference_of, slice_of, tuple_of}
use Rattle.token_core.specs.Groups as groups
use Rattle.token_core.specs.Lifetimes as lifetimes
use Rattle.token_core.specs.Lists as lists
use Rattle.token_core.specs.Prints as p
use Rattle.token_core.specs.Tokens as token
use Rattle.token_core.proofs.Rows.{row-append}
use Rattle.syn_path.specs.path.Paths.{ModPath, ModSegment, nothing}
use Rattle.syn_path.proofs.mac_laws.Reprint.{macro_again, whole_macro, held_visible}
use Rattle.syn_path.proofs.mac_laws.Sound.{visible_call}
use Rattle.syn_path.proofs.Words.{AgainFront, row-group}
use Rattle.syn_forms.specs.tokens.Printing.{pointer}
use Rattle.syn_forms.proofs.tokens_laws.Mutability.{word_front, mutability_again}
use Rattle.syn_ty.specs.ty.Normal as normal
use Rattle.syn_ty.specs.ty.Printing as printing
use Rattle.syn_ty.specs.ty.Types.{array_with, paren_with, ptr_with, reference_with, slice_with, tuple_with}
use Rattle.syn_ty.proofs.ty_laws.reprint.Within.{Again, SuppliedAgain}
use Rattle.syn_ty.proofs.ty_laws.reprint.Leaves.{listed_front, mark_front}
use Rattle.syn_ty.proofs.ty_laws.reprint.Signatures.{lifetime_front, normal_front, optional_front}

-- ---- a macro call

-- whether the path of a call begins with `try`
abbrev segments_try : List ModSegment → Bool
segments_try [] = false
segments_try (s ∷ all) = is_text token.try_text s.ident.text

abbrev path_try : Option Sep → List ModSegment → Bool
path_try None all = segments_try all
path_try (Some c) all = false

segments_seen : (clear : Bool) {ok : Bytes → Bool} (all : List ModSegment) (seps : List Sep) (l r : Toks) → AreSegments clear ok nothing all seps l r → token.sees_try l ≡ segments_try all
unfolding sees_word
segments_seen clear all seps l r (last_segment h) = refl
segments_seen clear all seps l r (more_segments h c q) = refl

path_seen : (clear : Bool) {ok : Bytes → Bool} (x : ModPath) (l r : Toks) → IsBarePath clear ok nothing x l r → token.sees_try l ≡ path_try x.leading_colon x.segments.0
unfolding sees_word
path_seen clear x l r (a_bare_path {all = all} {seps = seps} no_leading q) = segments_seen clear all seps l r q
path_seen clear x l r (a_bare_path (leading c) q) = refl

call_seen : (clear : Bool) {ok : Bytes → Bool} (x : Macro) (l r : Toks) → IsCall clear ok x l r → token.sees_try l ≡ path_try x.path.leading_colon x.path.segments.0
call_seen clear x l r (a_macro {p = q} {a = a} {j = j} {d = d} {s = s} {c = c} i apart h g) = path_seen clear q l (mark (punct 33 j a) (group d s c r)) i

pub type_call_again : (x : Macro) (l r : Toks) → IsTypeCall false x l r → AgainFront (IsTypeCall true) (λ (z : Macro). z) mac x l r
type_call_again x l r i =
    let again = λ (h : Toks). macro_again false x l r h i.0 in
    record {
      spelt = λ h. (again h, call_seen true x (row (mac x) h) h (again h) ∙ sym (call_seen false x l r i.0) ∙ i.1);
      visible = λ h u w. whole_macro true x (row (mac x) h) h (again h) (λ ts e. subst (λ z. Visible (toks z)) e (held_visible x l r i.0 u)) w;
      seen = λ u. visible_call x l r i.0 u;
      stays = refl;
      same = refl;
    }

-- ---- forms that hold a type

module _ {A E : Type 0} (pa : List A → Print) (pe : Values E) (part : Manner → Parts A E) where
  -- a type that does not begin with a lifetime prints none first
  abbrev pub NoneFirst : Type 0
  NoneFirst = (p : TypePlace) (e : End) (x : TypeTree A E) (l r : Toks) → (part plainly).ty p e x l r → sees_lifetime l ≡ false → (k : Toks) → sees_lifetime (row (printing.ty pa pe x) k) ≡ false

module _ {A E : Type 0} (na : List A → List A) (ne : NormalValues E) (pa : List A → Print) (pe : Values E) (part : Manner → Parts A E) (again : Again na ne pa pe part) (supplied : SuppliedAgain na ne pa pe part) where
  abbrev nt : TypeTree A E → TypeTree A E
  nt = normal.ty na ne

  abbrev pt : TypeTree A E → Print
  pt = printing.ty pa pe

  abbrev bare_ptr : TypePtr A E → TypePtr A E
  bare_ptr x = ptr_of x.star_token x.mutability (nt x.elem)

  pub pointer_again : (e : End) (x : TypePtr A E) (l r : Toks) → IsPointer part plainly e x l r → AgainFront (IsPointer part clearly e) (normal.ptr na ne) (printing.ptr pa pe) x l r
  pointer_again e x l r (a_pointer {s = s} {q = q} {x = y} {m = m} {n = o} i j g) =
      let d = mark_front s l m i in
      let w = mutability_again q m o j in
      let k = again.ty NoPlus e y o r g in
      let last = λ (h : Toks). row (pt y) h in
      let more = λ (h : Toks). row (pointer q) (last h) in
      let seen = λ (h : Toks). row-append (p.mark s) (pointer q ++ pt y) h ∙ ap (row (p.mark s)) (row-append (pointer q) (pt y) h) in
      normal_front (IsPointer part clearly e) (normal.ptr na ne) bare_ptr (printing.ptr pa pe) (ptr_of s q y) l r (ap (λ z. ptr_with z s q (nt y)) supplied.own) (ap (λ z. ptr_with z s q (nt (nt y))) supplied.own) (record {
        spelt = λ h. subst (λ z. IsPointer part clearly e (ptr_of s q (nt y)) z h) (sym (seen h)) (a_pointer (d.spelt (more h)) (w.spelt (last h)) (k.spelt h));
        visible = λ h u v. subst Visible (sym (seen h)) (d.visible (more h) u (w.visible (last h) (d.seen u) (k.visible h (w.seen (d.seen u)) v)));
        seen = λ u. k.seen (w.seen (d.seen u));
        stays = ap (ptr_of s q) k.stays;
        same = ap (λ z. p.mark s ++ (pointer q ++ z)) k.same;
      })

  -- ---- references

  abbrev bare_reference : TypeReference A E → TypeReference A E
  bare_reference x = reference_of x.and_token x.lifetime x.mutability (nt x.elem)

  abbrev IsBorrowed : End → Relation (TypeReference A E)
  IsBorrowed = IsBorrow part clearly

  -- in each case
  borrow_by : (e : End) (a : And) (o : Option Lifetime) (q : Option Mut) (y : TypeTree A E) (l m n b r : Toks) → IsMark false a l m → IsOptional IsLifetime o m n → IsOptional IsWord q n b → (part plainly).ty NoPlus e y b r →
      ((h : Toks) → IsMark true a (row (p.mark a) (row (printing.lifetime o) (row (printing.optional_word q) (row (pt y) h)))) (row (printing.lifetime o) (row (printing.optional_word q) (row (pt y) h))) →
      IsOptional IsLifetime o (row (printing.lifetime o) (row (printing.optional_word q) (row (pt y) h))) (row (printing.optional_word q) (row (pt y) h)) → IsOptional IsWord q (row (printing.optional_word q) (row (pt y) h)) (row (pt y) h) →
      (part clearly).ty NoPlus e (nt y) (row (pt y) h) h → IsBorrowed e (reference_of a o q (nt y)) (row (p.mark a) (row (printing.lifetime o) (row (printing.optional_word q) (row (pt y) h)))) h) →
      AgainFront (IsBorrowed e) (normal.reference na ne) (printing.reference pa pe) (reference_of a o q y) l r
  borrow_by e a o q y l m n b r i j g t build =
      let d = mark_front a l m i in
      let c = optional_front IsLifetime IsLifetime lifetimes.print lifetime_front o m n j in
      let w = optional_front (IsWord {n = 13}) IsWord (λ (z : Mut). p.word z) word_front q n b g in
      let k = again.ty NoPlus e y b r t in
      let last = λ (h : Toks). row (pt y) h in
      let more = λ (h : Toks). row (printing.optional_word q) (last h) in
      let all = λ (h : Toks). row (printing.lifetime o) (more h) in
      let seen = λ (h : Toks). row-append (p.mark a) (printing.lifetime o ++ (printing.optional_word q ++ pt y)) h
      ∙ ap (row (p.mark a)) (row-append (printing.lifetime o) (printing.optional_word q ++ pt y) h ∙ ap (row (printing.lifetime o)) (row-append (printing.optional_word q) (pt y) h)) in
      normal_front (IsBorrowed e) (normal.reference na ne) bare_reference (printing.reference pa pe) (reference_of a o q y) l r (ap (λ z. reference_with z a o q (nt y)) supplied.own) (ap (λ z. reference_with z a o q (nt (nt y))) supplied.own) (record {
        spelt = λ h. subst (λ z. IsBorrowed e (reference_of a o q (nt y)) z h) (sym (seen h)) (build h (d.spelt (all h)) (c.spelt (more h)) (w.spelt (last h)) (k.spelt h));
        visible = λ h u v. subst Visible (sym (seen h)) (d.visible (all h) u (c.visible (more h) (d.seen u) (w.visible (last h) (c.seen (d.seen u)) (k.visible h (w.seen (c.seen (d.seen u))) v))));
        seen = λ u. k.seen (w.seen (c.seen (d.seen u)));
        stays = ap (reference_of a o q) k.stays;
        same = ap (λ z. p.mark a ++ (printing.lifetime o ++ (printing.optional_word q ++ z))) k.same;
      })

  some_word : (w : Mut) (l r : Toks) → IsOptional IsWord (Some w) l r → IsWord w l r
  some_word w l r (present i) = i

  some_lifetime : (x : Lifetime) (l r : Toks) → IsOptional IsLifetime (Some x) l r → IsLifetime x l r
  some_lifetime x l r (present i) = i

  pub borrow_again : NoneFirst pa pe part → (e : End) (x : TypeReference A E) (l r : Toks) → IsBorrow part plainly e x l r → AgainFront (IsBorrowed e) (normal.reference na ne) (printing.reference pa pe) x l r
  borrow_again first e x l r (a_borrow {a = a} {x = y} {m = m} i j g) = borrow_by e a None None y l m m m r i absent absent g (λ h d c w k. a_borrow d (first NoPlus e y m r g j h) k)
  borrow_again first e x l r (a_mutable_borrow {a = a} {u = q} {x = y} {m = m} {n = n} i j g) = borrow_by e a None (Some q) y l m m n r i absent (present j) g (λ h d c w k. a_mutable_borrow d (some_word q _ _ w) k)
  borrow_again first e x l r (a_lifetime_borrow {a = a} {y = o} {u = q} {x = y} {m = m} {n = n} {k = b} i j w g) = borrow_by e a (Some o) q y l m n b r i (present j) w g (λ h d c w k. a_lifetime_borrow d (some_lifetime o _ _ c) w k)

  -- ---- in parentheses and brackets

  abbrev bare_paren : TypeParen A E → TypeParen A E
  bare_paren x = paren_of x.paren_token (nt x.elem)

  pub enclosed_again : (place : TypePlace) (x : TypeParen A E) (l r : Toks) → IsEnclosed part plainly place x l r → AgainFront (IsEnclosed part clearly place) (normal.paren na ne) (printing.paren pa pe) x l r
  enclosed_again place x l r (enclosed {s = s} {e = e} {x = y} {c = c} i) =
      let k = again.ty place e y c done i in
      let seen = λ (h : Toks). row-group Parenthesis s (pt y) h tt in
      normal_front (IsEnclosed part clearly place) (normal.paren na ne) bare_paren (printing.paren pa pe) (paren_of (groups.paren s) y) l r (ap (λ z. paren_with z (groups.paren s) (nt y)) supplied.own) (ap (λ z. paren_with z (groups.paren s) (nt (nt y))) supplied.own) (record {
        spelt = λ h. subst (λ z. IsEnclosed part clearly place (paren_of (groups.paren s) (nt y)) z h) (sym (seen h)) (enclosed (k.spelt done));
        visible = λ h u w. subst Visible (sym (seen h)) (tt, k.visible done u.1 tt, w);
        seen = λ u. u.2;
        stays = ap (paren_of (groups.paren s)) k.stays;
        same = ap (λ z. p.group Parenthesis (stream_of_trees z) s) k.same;
      })

  abbrev bare_slice : TypeSlice A E → TypeSlice A E
  bare_slice x = slice_of x.bracket_token (nt x.elem)

  pub bracketed_again : (x : TypeSlice A E) (l r : Toks) → IsBracketed part plainly x l r → AgainFront (IsBracketed part clearly) (normal.slice na ne) (printing.slice pa pe) x l r
  bracketed_again x l r (bracketed {s = s} {e = e} {x = y} {c = c} i) =
      let k = again.ty Plus e y c done i in
      let seen = λ (h : Toks). row-group Bracket s (pt y) h tt in
      normal_front (IsBracketed part clearly) (normal.slice na ne) bare_slice (printing.slice pa pe) (slice_of (groups.bracket s) y) l r (ap (λ z. slice_with z (groups.bracket s) (nt y)) supplied.own) (ap (λ z. slice_with z (groups.bracket s) (nt (nt y))) supplied.own) (record {
        spelt = λ h. subst (λ z. IsBracketed part clearly (slice_of (groups.bracket s) (nt y)) z h) (sym (seen h)) (bracketed (k.spelt done));
        visible = λ h u w. subst Visible (sym (seen h)) (tt, k.visible done u.1 tt, w);
        seen = λ u. u.2;
        stays = ap (slice_of (groups.bracket s)) k.stays;
        same = ap (λ z. p.group Bracket (stream_of_trees z) s) k.same;
      })

  -- ---- arrays, where the normal form of a length is its own

  abbrev bare_array : TypeArray A E → TypeArray A E
  bare_array x = array_of x.bracket_token (nt x.elem) x.semi_token (ne.len x.len)

  pub counted_again : ((x : E) (l : Toks) → (part plainly).len x l → ne.len (ne.len x) ≡ ne.len x) → (x : TypeArray A E) (l r : Toks) → IsCounted part plainly x l r →
      AgainFront (IsCounted part clearly) (normal.array na ne) (printing.array pa pe) x l r
  counted_again len_stays x l r (counted {s = s} {e = e} {x = y} {q = q} {n = n} {c = c} {m = m} {k = o} i j g) =
      let k = again.ty Plus e y c m i in
      let d = mark_front q m o j in
      let w = supplied.len n o g in
      let last = pe.len n in
      let rest = row last done in
      let seen = λ (h : Toks). row-group Bracket s (pt y ++ (p.mark q ++ last)) h tt
      ∙ ap (λ z. group Bracket s z h) (row-append (pt y) (p.mark q ++ last) done ∙ ap (row (pt y)) (row-append (p.mark q) last done)) in
      normal_front (IsCounted part clearly) (normal.array na ne) bare_array (printing.array pa pe) (array_of (groups.bracket s) y q n) l r (ap (λ z. array_with z (groups.bracket s) (nt y) q (ne.len n)) supplied.own) (ap (λ z. array_with z (groups.bracket s) (nt (nt y)) q (ne.len (ne.len n))) supplied.own) (record {
        spelt = λ h. subst (λ z. IsCounted part clearly (array_of (groups.bracket s) (nt y) q (ne.len n)) z h) (sym (seen h)) (counted (k.spelt (row (p.mark q) rest)) (d.spelt rest) w.again);
        visible = λ h u v. subst Visible (sym (seen h)) (tt, k.visible (row (p.mark q) rest) u.1 (d.visible rest (k.seen u.1) (w.visible (d.seen (k.seen u.1)))), v);
        seen = λ u. u.2;
        stays = ap (λ z. array_of (groups.bracket s) z q (ne.len (ne.len n))) k.stays ∙ ap (array_of (groups.bracket s) (nt y) q) (len_stays n o g);
        same = ap (λ z. p.group Bracket (stream_of_trees (z ++ (p.mark q ++ pe.len (ne.len n)))) s) k.same ∙ ap (λ z. p.group Bracket (stream_of_trees (pt y ++ (p.mark q ++ z))) s) w.same;
      })

  -- ---- tuples

  pub element_again : (x : TypeTree A E) (l r : Toks) → IsElement part plainly x l r → AgainFront (IsElement part clearly) nt pt x l r
  element_again x l r (an_element {e = e} i) = let k = again.ty Plus e x l r i in record { spelt = λ h. an_element (k.spelt h); visible = λ h u w. k.visible h u w; seen = λ u. k.seen u; stays = k.stays; same = k.same }

  abbrev Elements : Type 0
  Elements = Many (TypeTree A E) Comma

  abbrev bare_tuple : TypeTuple A E → TypeTuple A E
  bare_tuple x = tuple_of x.paren_token (map nt x.elems.0, x.elems.1)

  abbrev inside : Elements → Print
  inside z = printing.elements pa pe z ++ lone_comma z.0 z.1

  lone_marked : {T : Type 0} (x : T) (c : Comma) (xs : List T) (cs : List Comma) → lone_comma (x ∷ xs) (c ∷ cs) ≡ []
  lone_marked x c [] cs = refl
  lone_marked x c (y ∷ xs) cs = refl

  no_lone : (x : TypeTree A E) (c : Comma) (xs : List (TypeTree A E)) (cs : List Comma) → inside (x ∷ xs, c ∷ cs) ≡ printing.elements pa pe (x ∷ xs, c ∷ cs)
  no_lone x c xs cs = ap (λ z. printing.elements pa pe (x ∷ xs, c ∷ cs) ++ z) (lone_marked x c xs cs) ∙ append-nil (printing.elements pa pe (x ∷ xs, c ∷ cs))

  module _ (Begins : Toks → Type 0) (first : (e : End) (x : TypeTree A E) (l r : Toks) → (part plainly).ty Plus e x l r → Begins l → (k : Toks) → Begins (row (pt x) k)) where
    first_element : (x : TypeTree A E) (l r : Toks) → IsElement part plainly x l r → Begins l → (k : Toks) → Begins (row (pt x) k)
    first_element x l r (an_element {e = e} i) b k = first e x l r i b k

    some_tupled : (s : DelimSpan) (x : TypeTree A E) (c : Comma) (xs : List (TypeTree A E)) (cs : List Comma) (l r : Toks) → Begins l → AreListed (λ (b : Bool). IsElement part clearly) (IsMark true) Anywhere true (x ∷ xs) (c ∷ cs) l done →
        IsTupled part clearly Begins (tuple_of (groups.paren s) (x ∷ xs, c ∷ cs)) (group Parenthesis s l r) r
    some_tupled s x c xs cs l r b (value_and_mark i j t) = some_elements b i j t

    pub tupled_again : (x : TypeTuple A E) (l r : Toks) → IsTupled part plainly Begins x l r → AgainFront (IsTupled part clearly Begins) (normal.tuple na ne) (printing.tuple pa pe) x l r
    tupled_again x l r (no_element {s = s}) =
        let seen = λ (h : Toks). row-group Parenthesis s [] h tt in
        normal_front (IsTupled part clearly Begins) (normal.tuple na ne) bare_tuple (printing.tuple pa pe) (tuple_of (groups.paren s) ([], [])) l r (ap (λ z. tuple_with z (groups.paren s) ([], [])) supplied.own) (ap (λ z. tuple_with z (groups.paren s) ([], [])) supplied.own) (record {
          spelt = λ h. subst (λ z. IsTupled part clearly Begins (tuple_of (groups.paren s) ([], [])) z h) (sym (seen h)) no_element;
          visible = λ h u w. subst Visible (sym (seen h)) (tt, tt, w);
          seen = λ u. u.2;
          stays = refl;
          same = refl;
        })
    tupled_again x l r (some_elements {s = s} {x = y} {k = q} {xs = ys} {ks = qs} {c = c} {m = m} {n = n} b i j t) =
        let k = listed_front (λ (b : Bool). IsElement part plainly) (λ (b : Bool). IsElement part clearly) (IsMark false) (IsMark true) Anywhere nt pt p.mark (λ b. element_again) mark_front true (y ∷ ys) (q ∷ qs) c done (value_and_mark i j t) in
        let is = no_lone y q ys qs in
        let all = printing.elements pa pe (y ∷ ys, q ∷ qs) in
        let starts = subst Begins (sym (row-append (pt y) (p.mark q ++ lists.joined pt p.mark ys qs) done)) (first_element y c m i b (row (p.mark q ++ lists.joined pt p.mark ys qs) done)) in
        let seen = λ (h : Toks). row-group Parenthesis s (inside (y ∷ ys, q ∷ qs)) h tt ∙ ap (λ z. group Parenthesis s (row z done) h) is in
        normal_front (IsTupled part clearly Begins) (normal.tuple na ne) bare_tuple (printing.tuple pa pe) (tuple_of (groups.paren s) (y ∷ ys, q ∷ qs)) l r (ap (λ z. tuple_with z (groups.paren s) (map nt (y ∷ ys), q ∷ qs)) supplied.own) (ap (λ z. tuple_with z (groups.paren s) (map nt (map nt (y ∷ ys)), q ∷ qs)) supplied.own) (record {
          spelt = λ h. subst (λ z. IsTupled part clearly Begins (tuple_of (groups.paren s) (map nt (y ∷ ys), q ∷ qs)) z h) (sym (seen h)) (some_tupled s (nt y) q (map nt ys) qs (row all done) h starts (k.spelt done));
          visible = λ h u w. subst Visible (sym (seen h)) (tt, k.visible done u.1 tt, w);
          seen = λ u. u.2;
          stays = ap (tuple_of (groups.paren s)) k.stays;
          same = ap (λ z. p.group Parenthesis (stream_of_trees z) s) (no_lone (nt y) q (map nt ys) qs ∙ k.same ∙ sym is);
        })

  -- one that does not begin with a lifetime
  pub tuple_again : NoneFirst pa pe part → (x : TypeTuple A E) (l r : Toks) → IsTupled part plainly NoLifetime x l r → AgainFront (IsTupled part clearly NoLifetime) (normal.tuple na ne) (printing.tuple pa pe) x l r
  tuple_again first = tupled_again NoLifetime (λ e x l r i q k. first Plus e x l r i q k)
