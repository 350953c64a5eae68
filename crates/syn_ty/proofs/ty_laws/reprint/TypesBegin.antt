-- The print of each form of types begins as the type does: over what is known of arguments, of bounds that begin with a lifetime, and of what is held verbatim.
use Rattle.std.proofs.Common.{◌≡◌, ◌==◌, if◌then◌else◌, is_some, Bool, true, false, List, [], ◌∷◌, ◌++◌, Option, Some, None, refl, sym, ◌∙◌, ap, subst}
use Rattle.std.proofs.lemmas.Bool.{eqb-true}
use Rattle.syn_ty.proofs.ty_laws.words.Tokens.{DelimSpan, Delimiter, Parenthesis, Bracket, Joint, is_keyword, sees_lifetime, with_ident, AfterMark, joined, Many, Print, after_one, is_joint, sees_mark, sees_word, IsVisible, IsMark, is_mark, last_char, Toks, done, word, mark, lit, group, enter, leave, TokenStream, punct, row, stream_of_trees}
use Rattle.syn_ty.proofs.ty_laws.words.Paths.{Values, Macro, AsWritten, mac, IsCall, a_macro, path_by, a_bare_path, leading, no_leading, last_segment, more_segments}
use Rattle.syn_ty.proofs.ty_laws.words.Forms.{Object, TypePlace}
use Rattle.syn_ty.proofs.ty_laws.words.Types.{Abi, AreBounds, no_bounds, last_bound, bound_and_plus, no_modifiers, named_bound, trait_bound_of, is_segment_word, IsAnyPath, unqualified, qualified, IsType, a_path_type, a_bound_macro, an_object_with_dyn, an_object_without_dyn, an_impl_type, a_fn_type, a_ptr_type, a_reference_type, a_paren_type, a_tuple_type, a_slice_type, an_array_type, an_infer_type, a_never_type, a_verbatim_type, a_pointer, a_borrow, a_mutable_borrow, a_lifetime_borrow, enclosed, bracketed, counted, no_element, some_elements, IsTypeCall, IsVerbatimType, IsFnPtr, a_fn_ptr, a_dyn, an_impl, a_first, a_first_for, AreBareBounds, path_alone, path_and_plus, held_and_plus, asked_first, asked_in_two, lifetime_first, in_parens, Manner, plainly, clearly, End, Parts, absent, present, an_infer, a_never, BoundLifetimes, GenericParam, Path, QSelf, TypeFnPtr, TypeParamBound, TypeTree, And, Star, macro_type_of, qualified_with, trait_object_with}
use Rattle.token_core.specs.Groups as groups
use Rattle.token_core.specs.Lifetimes as lifetimes
use Rattle.token_core.specs.Prints as p
use Rattle.token_core.specs.Tokens as token
use Rattle.token_core.proofs.MarkSpells.{mark_again}
use Rattle.token_core.proofs.Rows.{row-append}
use Rattle.syn_path.proofs.mac_laws.Reprint.{macro_again}
use Rattle.syn_forms.specs.tokens.Printing.{pointer}
use Rattle.syn_ty.specs.declared.generics.TypeParamBoundOf.TheVariants as b
use Rattle.syn_ty.specs.declared.ty.TypeOf.TheVariants as v
use Rattle.syn_ty.specs.generics.Parameters.{begins_as_generics}
use Rattle.syn_ty.specs.generics.Shapes.{bare_trait_by}
use Rattle.syn_ty.specs.ty.Admitted.{a_macro as a_macro_type}
use Rattle.syn_ty.specs.ty.Printing as printing
use Rattle.syn_ty.proofs.ty_laws.reprint.Begins.{Quiet, quiet_mark, quiet_before, segment_no_for, Kept, quiet_kept, binder_kept, same_kept, word_quiet, group_quiet, for_first, for_seen, no_second, named, ArgumentsBegin, TypesAlone, path_kept, qualified_kept}
use Rattle.syn_ty.proofs.ty_laws.reprint.HeldBegin.{held_kept}
use Rattle.syn_ty.proofs.ty_laws.reprint.EndsTypes.{verbatim_over}
use Rattle.syn_ty.proofs.ty_laws.reprint.HeldForms.{held_before}
use Rattle.syn_ty.proofs.ty_laws.reprint.MovesParts.{Moving}
use Rattle.syn_ty.proofs.ty_laws.reprint.MovesTypes.{verbatim_moves}
use Rattle.syn_ty.proofs.ty_laws.Prints.{ty-Array, ty-FnPtr, ty-ImplTrait, ty-Infer, ty-Macro, ty-Never, ty-Paren, ty-Path, ty-Ptr, ty-Reference, ty-Slice, ty-TraitObject, ty-Tuple, ty-Verbatim, path_type_parts, fn_ptr_parts, trait_bound_parts, bound-Trait}

-- ---- marks

star_quiet : (s : Star) (l r : Toks) → IsMark true s l r → Quiet l
star_quiet s l r (is_mark (last_char {a = a} {j = j} y)) = quiet_mark (punct 42 j a) r refl

and_quiet : (s : And) (l r : Toks) → IsMark true s l r → Quiet l
and_quiet s l r (is_mark (last_char {a = a} {j = j} y)) = quiet_mark (punct 38 j a) r refl

bang_quiet : (s : token.Bang) (l r : Toks) → IsMark true s l r → Quiet l
bang_quiet s l r (is_mark (last_char {a = a} {j = j} y)) = quiet_mark (punct 33 j a) r refl

plus_no_gt : (s : token.Plus) (l r : Toks) → IsMark true s l r → token.sees_gt l ≡ false
unfolding sees_mark
plus_no_gt s l r (is_mark (last_char y)) = refl

-- ---- calls: after a word stands `!` or `::`

call_quiet : (x : Macro) (l r : Toks) → IsCall true is_segment_word x l r → Quiet l
unfolding sees_mark
call_quiet x l r (a_macro {a = a} {j = j} {d = d} {s = s} {c = c} (a_bare_path no_leading (last_segment {i = i} h)) q e g) = quiet_before i (mark (punct 33 j a) (group d s c r)) (segment_no_for i.text h) refl
call_quiet x l r (a_macro (a_bare_path no_leading (more_segments {i = i} {a = a} {b = b} {j = j} {l = m} h q t)) u e g) = quiet_before i (mark (punct 58 Joint a) (mark (punct 58 j b) m)) (segment_no_for i.text h) refl
call_quiet x l r (a_macro (a_bare_path (leading {a = a} {b = b} {j = j} {r = m} q) t) u e g) = quiet_mark (punct 58 Joint a) (mark (punct 58 j b) m) refl

-- ---- a lifetime

quiet_enter : (s : DelimSpan) (k : Toks) → Quiet k → Quiet (enter s k)
unfolding sees_word sees_mark after_one
quiet_enter s k h = record { no_for = h.no_for; no_lt = h.no_lt; no_named = h.no_named }

quiet_leave : (k : Toks) → Quiet k → Quiet (leave k)
unfolding sees_word sees_mark after_one
quiet_leave k h = record { no_for = h.no_for; no_lt = h.no_lt; no_named = h.no_named }

life_quiet : (l : Toks) → sees_lifetime l ≡ true → Quiet l
unfolding sees_lifetime
life_quiet done h = cc h
life_quiet (word i k) h = cc h
life_quiet (mark x k) h = by_char (x.ch == 39) refl
  where
    by_char : (b : Bool) → (x.ch == 39) ≡ b → Quiet (mark x k)
    by_char true e = quiet_mark x k (ap (λ z. z == 60) (eqb-true x.ch 39 e))
    by_char false e = let g : sees_lifetime (mark x k) ≡ false = ap (λ (b : Bool). is_some (if b then (if is_joint x.spacing then with_ident x.span (lifetimes.next_word k) else None) else None)) e in cc
life_quiet (lit x k) h = cc h
life_quiet (group d s c k) h = cc h
life_quiet (enter s k) h = quiet_enter s k (life_quiet k h)
life_quiet (leave k) h = quiet_leave k (life_quiet k h)

-- a list that is joined prints its first value first
first_joined : {T P : Type 0} (f : T → Print) (g : P → Print) (x : T) (xs : List T) (ps : List P) → (q : Print) × (joined f g (x ∷ xs) ps ≡ f x ++ q)
first_joined f g x xs [] = (joined f g xs [], refl)
first_joined f g x xs (y ∷ ps) = (g y ++ joined f g xs ps, refl)

-- a print before a `+`
plus_kept : (q s : Print) (c : token.Plus) (l m n r : Toks) → Kept l m q → IsMark false c m n → Kept l r (q ++ (p.mark c ++ s))
plus_kept q s c l m n r h i =
    let next = λ (k : Toks). row (p.mark c) (row s k) in
    let seen = λ (k : Toks). row-append q (p.mark c ++ s) k ∙ ap (row q) (row-append (p.mark c) s k) in
    record {
      for_kept = λ e k. ap token.sees_for (seen k) ∙ h.for_kept e (next k);
      lt_kept = λ e k. ap begins_as_generics (seen k) ∙ h.lt_kept e (next k);
      alone = λ k e.
          let a = h.alone (next k) (ap named (sym (seen k)) ∙ e) in
          let n : named (row q (next k)) ≡ false = ap named a.prints ∙ no_second a.name (next k) (plus_no_gt c (next k) (row s k) (mark_again false c m n (row s k) i)) in
          let t : named (row q (next k)) ≡ true = ap named (sym (seen k)) ∙ e in
          absurd (cc);
    }

module _ {A E : Type 0} (pa : List A → Print) (pe : Values E) (part : Manner → Parts A E) where
  -- a bound that begins with a lifetime prints one first
  abbrev pub LivesKept : Type 0
  LivesKept = (e : End) (x : TypeParamBound A E) (l r : Toks) → (part plainly).bound Object e x l r → sees_lifetime l ≡ true → (k : Toks) → sees_lifetime (row (printing.bound pa pe x) k) ≡ true

module _ {A E : Type 0} (pa : List A → Print) (pe : Values E) (part : Manner → Parts A E) (arguments_begin : ArgumentsBegin pa pe part) (types_alone : TypesAlone pa pe part) where
  abbrev pt : TypeTree A E → Print
  pt = printing.ty pa pe

  abbrev pb : TypeParamBound A E → Print
  pb = printing.bound pa pe

  any_kept : (o : Option (QSelf A E)) (x : Path A E) (l r : Toks) → IsAnyPath part plainly AsWritten o x l r → Kept l r (printing.qpath pa pe AsWritten o x)
  any_kept o x l r (unqualified i) = path_kept pa pe part arguments_begin x l r i
  any_kept o x l r (qualified {q = q} i) = qualified_kept pa pe part arguments_begin types_alone q x l r i

  call_kept : (x : Macro) (l m r : Toks) → IsTypeCall false x m r → Kept l r (pt (v.Macro (macro_type_of x)))
  call_kept x l m r i = same_kept l r _ (mac x) (ty-Macro pa pe (macro_type_of x)) (quiet_kept l r (mac x) (λ k. call_quiet x (row (mac x) k) k (macro_again false x m r k i.0)))

  -- ---- the bounds of an object without `dyn`

  -- the first bound is a group
  group_first : (s : DelimSpan) (o : Option (BoundLifetimes A E)) (q : Option token.Question) (z : Path A E) (xs : List (TypeParamBound A E)) (ps : List token.Plus) (l r : Toks) → Kept l r (printing.bounds_joined pa pe (in_parens s o q z ∷ xs, ps))
  group_first s o q z xs ps l r =
      let all = first_joined pb p.mark (in_parens s o q z) xs ps in
      let one = bound-Trait pa pe (trait_bound_of (Some (groups.paren s)) o no_modifiers q z) ∙ trait_bound_parts pa pe (Some (groups.paren s)) o no_modifiers q z in
      same_kept l r _ _ (all.1 ∙ ap (λ y. y ++ all.0) one) (quiet_kept l r _ (group_quiet Parenthesis s (stream_of_trees (bare_trait_by (printing.param pa pe) (printing.arguments pa pe AsWritten) o no_modifiers q z)) all.0 tt))

  -- or stands after a binder
  binder_first : (x : BoundLifetimes A E) (z : Path A E) (xs : List (TypeParamBound A E)) (ps : List token.Plus) (l r : Toks) → token.sees_for l ≡ true → Kept l r (printing.bounds_joined pa pe (b.Trait (named_bound (Some x) None z) ∷ xs, ps))
  binder_first x z xs ps l r e =
      let y = b.Trait (named_bound (Some x) None z) in
      let all = first_joined pb p.mark y xs ps in
      let one = bound-Trait pa pe (named_bound (Some x) None z) ∙ trait_bound_parts pa pe None (Some x) no_modifiers None z in
      let rest = (p.mark x.lt_token ++ (joined (printing.param pa pe) p.mark x.lifetimes.0 x.lifetimes.1 ++ p.mark x.gt_token)) ++ path_by (printing.arguments pa pe AsWritten) z in
      same_kept l r _ (p.word x.for_token ++ (rest ++ all.0)) (all.1 ∙ ap (λ k. k ++ all.0) one)
      (binder_kept l r (p.word x.for_token ++ (rest ++ all.0)) e (λ k. (for_first x.for_token (rest ++ all.0) k).0) (λ k. (for_first x.for_token (rest ++ all.0) k).1))

  module _ (lives_kept : LivesKept pa pe part) (moving : (k : Toks) → Moving k (part clearly)) where
    lives_first : (e : End) (xs : List (TypeParamBound A E)) (ps : List token.Plus) (l r : Toks) → sees_lifetime l ≡ true → AreBounds part plainly Object AfterMark true e xs ps l r → Kept l r (printing.bounds_joined pa pe (xs, ps))
    lives_first e xs ps l r h (no_bounds u) = absurd u
    lives_first e xs ps l r h (last_bound {e = f} {x = x} i) =
        quiet_kept l r (pb x ++ []) (λ k. subst Quiet (sym (row-append (pb x) [] k)) (life_quiet (row (pb x) k) (lives_kept f x l r i h k)))
    lives_first e xs ps l r h (bound_and_plus {e = f} {x = x} {p = a} {xs = ys} {ps = qs} {m = m} i c j t) =
        let rest = p.mark a ++ printing.bounds_joined pa pe (ys, qs) in
        quiet_kept l r (pb x ++ rest) (λ k. subst Quiet (sym (row-append (pb x) rest k)) (life_quiet (row (pb x) (row rest k)) (lives_kept f x l m i h (row rest k))))

    bare_kept : (place : TypePlace) (e : End) (w : Many (TypeParamBound A E) token.Plus) (l r : Toks) → AreBareBounds part plainly place e w l r → Kept l r (printing.bounds_joined pa pe w)
    bare_kept place e w l r (path_alone {x = x} {p = z} (a_first_for {m = m} f i n t)) = binder_first x z [] [] l r (for_seen part plainly x l m f)
    bare_kept place e w l r (path_and_plus {p = z} {c = c} {xs = xs} {ps = ps} {m = m} {n = n} a (a_first i u) j t) =
        let one = bound-Trait pa pe (named_bound None None z) ∙ trait_bound_parts pa pe None None no_modifiers None z in
        let rest = printing.bounds_joined pa pe (xs, ps) in
        let q = path_by (printing.arguments pa pe AsWritten) z in
        same_kept l r _ (q ++ (p.mark c ++ rest)) (ap (λ k. k ++ (p.mark c ++ rest)) one) (plus_kept q rest c l m n r (path_kept pa pe part arguments_begin z l m i) j)
    bare_kept place e w l r (path_and_plus {p = z} {c = c} {xs = xs} {ps = ps} a (a_first_for {x = x} {m = m} f i u s) j t) = binder_first x z xs (c ∷ ps) l r (for_seen part plainly x l m f)
    bare_kept place e w l r (held_and_plus {o = o} {p = z} {s = s} {k = k} {xs = xs} {ps = ps} a i j t) = group_first s o None z xs (k ∷ ps) l r
    bare_kept place e w l r (asked_first {q = q} {p = z} {s = s} {xs = xs} {ps = ps} i t) = group_first s None (Some q) z xs ps l r
    bare_kept place e w l r (asked_in_two {q = q} {p = z} {s = s} {k = k} {xs = xs} {ps = ps} a i j t) = group_first s None (Some q) z xs (k ∷ ps) l r
    bare_kept place e w l r (lifetime_first {xs = xs} {ps = ps} h i t) = lives_first e xs ps l r h i

    -- ---- pointers to functions

    fn_plain : (u : Option token.Unsafe) (a : Option Abi) (w : token.Fn) (q : Print) (k : Toks) → Quiet (row (printing.fn_head_by {G = GenericParam A E} None u a w ++ q) k)
    unfolding is_keyword
    fn_plain (Some u) a w q k = word_quiet u ((printing.optional_abi a ++ p.word w) ++ q) refl refl k
    fn_plain None (Some a) w q k = word_quiet a.extern_token ((printing.convention a.name ++ p.word w) ++ q) refl refl k
    fn_plain None None w q k = word_quiet w q refl refl k

    fn_kept : (e : End) (x : TypeFnPtr A E) (l r : Toks) → IsFnPtr part plainly e x l r → Kept l r (pt (v.FnPtr x))
    fn_kept e x l r (a_fn_ptr {u = u} {i = i} {w = w} {s = s} {v = vs} {d = d} {o = o} absent f g h j t) =
        let rest = printing.fn_arguments_by pa pe pt (groups.paren s) vs d ++ printing.return_type pa pe o in
        same_kept l r _ (printing.fn_head_by {G = GenericParam A E} None u i w ++ rest) (ty-FnPtr pa pe x ∙ fn_ptr_parts pa pe [] None u i w (groups.paren s) vs d o) (quiet_kept l r _ (fn_plain u i w rest))
    fn_kept e x l r (a_fn_ptr {b = Some y} {u = u} {i = i} {w = w} {s = s} {v = vs} {d = d} {o = o} {m = m} (present n) f g h j t) =
        let rest = p.mark y.lt_token ++ (joined (printing.param pa pe) p.mark y.lifetimes.0 y.lifetimes.1 ++ (printing.fn_head_by (Some y) u i w ++ (printing.fn_arguments_by pa pe pt (groups.paren s) vs d ++ printing.return_type pa pe o))) in
        same_kept l r _ (p.word y.for_token ++ rest) (ty-FnPtr pa pe x ∙ fn_ptr_parts pa pe [] (Some y) u i w (groups.paren s) vs d o)
        (binder_kept l r (p.word y.for_token ++ rest) (for_seen part plainly y l m n) (λ k. (for_first y.for_token rest k).0) (λ k. (for_first y.for_token rest k).1))

    -- ---- types

    group_kept : (d : Delimiter) (s : DelimSpan) (c : TokenStream) (q : Print) (l r : Toks) → IsVisible d → q ≡ p.group d c s → Kept l r q
    group_kept d s c q l r h e = same_kept l r q (p.group d c s) e (quiet_kept l r (p.group d c s) (group_quiet d s c [] h))

    and_kept : (a : And) (q s : Print) (l m r : Toks) → IsMark false a l m → q ≡ p.mark a ++ s → Kept l r q
    and_kept a q s l m r i e = same_kept l r q (p.mark a ++ s) e (quiet_kept l r (p.mark a ++ s) (λ k. subst Quiet (sym (row-append (p.mark a) s k)) (and_quiet a (row (p.mark a) (row s k)) (row s k) (mark_again false a l m (row s k) i))))

    pub type_kept : (place : TypePlace) (e : End) (x : TypeTree A E) (l r : Toks) → IsType part plainly place e x l r → Kept l r (pt x)
    unfolding is_keyword
    type_kept place e x l r (a_path_type {o = o} {p = z} i) = same_kept l r _ _ (ty-Path pa pe (qualified_with [] o z) ∙ path_type_parts pa pe [] o z) (any_kept o z l r i.0)
    type_kept place e x l r (a_macro_type {x = y} i) = call_kept y l l r i
    type_kept place e x l r (a_bound_macro {x = y} {m = m} f i n) = call_kept y l m r i
    type_kept place e x l r (an_object_with_dyn {x = y} (a_dyn {w = w} {v = z} i t)) =
        same_kept l r _ _ (ty-TraitObject pa pe y) (quiet_kept l r (p.word w ++ printing.bounds_joined pa pe z) (word_quiet w (printing.bounds_joined pa pe z) refl refl))
    type_kept place e x l r (an_object_without_dyn {w = z} i) = same_kept l r _ _ (ty-TraitObject pa pe (trait_object_with [] None z)) (bare_kept place e z l r i)
    type_kept place e x l r (an_impl_type {x = y} (an_impl {w = w} {v = z} i t h)) =
        same_kept l r _ _ (ty-ImplTrait pa pe y) (quiet_kept l r (p.word w ++ printing.bounds_joined pa pe z) (word_quiet w (printing.bounds_joined pa pe z) refl refl))
    type_kept place e x l r (a_fn_type {x = y} i) = fn_kept e y l r i
    type_kept place e x l r (a_ptr_type {x = y} (a_pointer {s = s} {q = q} {x = z} {m = m} i j t)) =
        let rest = pointer q ++ pt z in
        same_kept l r _ _ (ty-Ptr pa pe y) (quiet_kept l r (p.mark s ++ rest) (λ k. subst Quiet (sym (row-append (p.mark s) rest k)) (star_quiet s (row (p.mark s) (row rest k)) (row rest k) (mark_again false s l m (row rest k) i))))
    type_kept place e x l r (a_reference_type {x = y} (a_borrow {a = a} {m = m} i n t)) = and_kept a _ _ l m r i (ty-Reference pa pe y)
    type_kept place e x l r (a_reference_type {x = y} (a_mutable_borrow {a = a} {m = m} i j t)) = and_kept a _ _ l m r i (ty-Reference pa pe y)
    type_kept place e x l r (a_reference_type {x = y} (a_lifetime_borrow {a = a} {m = m} i j g t)) = and_kept a _ _ l m r i (ty-Reference pa pe y)
    type_kept place e x l r (a_paren_type {x = y} (enclosed {s = s} i)) = group_kept Parenthesis s _ _ l r tt (ty-Paren pa pe y)
    type_kept place e x l r (a_tuple_type {x = y} (no_element {s = s})) = group_kept Parenthesis s _ _ l r tt (ty-Tuple pa pe y)
    type_kept place e x l r (a_tuple_type {x = y} (some_elements {s = s} h i j t)) = group_kept Parenthesis s _ _ l r tt (ty-Tuple pa pe y)
    type_kept place e x l r (a_slice_type {x = y} (bracketed {s = s} i)) = group_kept Bracket s _ _ l r tt (ty-Slice pa pe y)
    type_kept place e x l r (an_array_type {x = y} (counted {s = s} i j t)) = group_kept Bracket s _ _ l r tt (ty-Array pa pe y)
    type_kept place e x l r (an_infer_type {x = y} (an_infer {w = w} i)) = same_kept l r _ _ (ty-Infer pa pe y) (quiet_kept l r (p.word w) (word_quiet w [] refl refl))
    type_kept place e x l r (a_never_type {x = y} (a_never {b = a} i)) = same_kept l r _ _ (ty-Never pa pe y) (quiet_kept l r (p.mark a) (λ k. bang_quiet a (row (p.mark a) k) k (mark_again false a l r k i)))
    type_kept place e x l r (a_verbatim_type {e = f} {t = t} (i, h)) = same_kept l r _ _ (ty-Verbatim pa pe t) (held_kept part place f t l r (held_before (λ m. IsVerbatimType part m place f) (λ k l r j q. verbatim_moves part k (moving k) j q) (λ l r j q. verbatim_over part (moving done).ends j q) t i.0 i.1) h)
