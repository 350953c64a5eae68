-- A type that does not begin with a lifetime prints none first: of its forms bounds without `dyn` alone may begin with one.
use Rattle.std.proofs.Common.{◌≡◌, ℕ, Bool, true, false, List, [], Option, None, refl, ◌∙◌, ap}
use Rattle.syn_ty.proofs.ty_laws.words.Tokens.{Parenthesis, Ident, Word, sees_lifetime, Print, IsMark, is_mark, last_char, IsWord, is_word, Bytes, Toks, done, word, mark, group, punct, row, trees}
use Rattle.syn_ty.proofs.ty_laws.words.Paths.{Macro, AsWritten, mac, IsCall, Sep, AreSegments, last_segment, more_segments, IsBarePath, a_bare_path, leading, no_leading, NormalValues, Values}
use Rattle.syn_ty.proofs.ty_laws.words.Forms.{TypePlace, Plus}
use Rattle.syn_ty.proofs.ty_laws.words.Types.{Abi, IsFor, a_binder, IsAnyPath, unqualified, qualified, by_type, by_type_as_path, NoLifetime, IsPointer, a_pointer, IsBorrow, a_borrow, a_mutable_borrow, a_lifetime_borrow, IsEnclosed, enclosed, IsBracketed, bracketed, IsCounted, counted, IsTupled, no_element, some_elements, IsVerbatimType, an_unsafe_binder, a_dyn_star, a_builtin, IsType, a_path_type, a_macro, a_bound_macro, an_object_with_dyn, an_object_without_dyn, an_impl_type, a_fn_type, a_ptr_type, a_reference_type, a_paren_type, a_tuple_type, a_slice_type, an_array_type, an_infer_type, a_never_type, a_verbatim_type, IsAbi, an_abi, IsFnPtr, a_fn_ptr, IsDyn, a_dyn, IsImpl, an_impl, Manner, plainly, clearly, End, Parts, IsOptional, absent, present, an_infer, a_never, BoundLifetimes, Path, QSelf, TypeArray, TypeFnPtr, TypeImplTrait, TypeParen, TypePtr, TypeReference, TypeSlice, TypeTraitObject, TypeTree, TypeTuple, macro_type_of, qualified_with, trait_object_with}
use Rattle.token_core.specs.Prints as p
use Rattle.syn_path.specs.mac.Macros.{Bang}
use Rattle.syn_path.specs.mac.Spelling.{a_macro as a_call}
use Rattle.syn_path.specs.path.Paths.{nothing, ModPath, ModSegment}
use Rattle.syn_forms.proofs.tokens_laws.Mutability.{word_front}
use Rattle.syn_ty.specs.ty.Normal as normal
use Rattle.syn_ty.specs.ty.Printing as printing
use Rattle.syn_ty.proofs.ty_laws.reprint.Within.{Again, SuppliedAgain}
use Rattle.syn_ty.proofs.ty_laws.reprint.FirstBounds.{bare_no_lifetime, path_no_lifetime}
use Rattle.syn_ty.proofs.ty_laws.reprint.Forms.{NoneFirst, type_call_again, pointer_again, borrow_again, enclosed_again, bracketed_again, counted_again, tuple_again}
use Rattle.syn_ty.proofs.ty_laws.reprint.Functions.{fn_ptr_again}
use Rattle.syn_ty.proofs.ty_laws.reprint.EndsTypes.{verbatim_over}
use Rattle.syn_ty.proofs.ty_laws.reprint.HeldForms.{held_before}
use Rattle.syn_ty.proofs.ty_laws.reprint.MovesTypes.{verbatim_moves}
use Rattle.syn_ty.proofs.ty_laws.reprint.Objects.{dyn_again, impl_again}
use Rattle.syn_ty.proofs.ty_laws.Prints.{ty-Array, ty-FnPtr, ty-ImplTrait, ty-Infer, ty-Macro, ty-Never, ty-Paren, ty-Path, ty-Ptr, ty-Reference, ty-Slice, ty-TraitObject, ty-Tuple, ty-Verbatim, path_type_parts}
use Rattle.syn_ty.proofs.ty_laws.reprint.Qualified.{no_try_again}
use Rattle.syn_ty.proofs.ty_laws.reprint.Leaves.{mark_front}
use Rattle.syn_ty.proofs.ty_laws.reprint.Types.{styled}

-- ---- what begins with no lifetime

segments_none : (clear : Bool) {ok : Bytes → Bool} (all : List ModSegment) (seps : List Sep) (l r : Toks) → AreSegments clear ok nothing all seps l r → sees_lifetime l ≡ false
unfolding sees_lifetime
segments_none clear all seps l r (last_segment h) = refl
segments_none clear all seps l r (more_segments h c q) = refl

bare_path_none : (clear : Bool) {ok : Bytes → Bool} (x : ModPath) (l r : Toks) → IsBarePath clear ok nothing x l r → sees_lifetime l ≡ false
unfolding sees_lifetime
bare_path_none clear x l r (a_bare_path {all = all} {seps = seps} no_leading q) = segments_none clear all seps l r q
bare_path_none clear x l r (a_bare_path (leading c) q) = refl

call_none : (clear : Bool) {ok : Bytes → Bool} (x : Macro) (l r : Toks) → IsCall clear ok x l r → sees_lifetime l ≡ false
call_none clear x l r (a_call {p = q} {a = a} {j = j} {d = d} {s = s} {c = c} i apart h g) = bare_path_none clear q l (mark (punct 33 j a) (group d s c r)) i

word_none : {n : ℕ} (w : Word n) (l r : Toks) → IsWord w l r → sees_lifetime l ≡ false
unfolding sees_lifetime
word_none w l r is_word = refl

ident_none : (i : Ident) (k : Toks) → sees_lifetime (word i k) ≡ false
unfolding sees_lifetime
ident_none i k = refl

bang_none : (clear : Bool) (b : Bang) (l r : Toks) → IsMark clear b l r → sees_lifetime l ≡ false
unfolding sees_lifetime
bang_none clear b l r (is_mark (last_char y)) = refl

abi_none : (o : Option Abi) (l r : Toks) → IsOptional IsAbi o l r → sees_lifetime r ≡ false → sees_lifetime l ≡ false
abi_none o l r absent h = h
abi_none o l r (present (an_abi {w = w} {m = m} i j)) h = word_none w l m i

optional_none : {n : ℕ} (o : Option (Word n)) (l r : Toks) → IsOptional IsWord o l r → sees_lifetime r ≡ false → sees_lifetime l ≡ false
optional_none o l r absent h = h
optional_none o l r (present {a = w} i) h = word_none w l r i

module _ {A E : Type 0} (part : Manner → Parts A E) (how : Manner) where
  binder_none : (o : Option (BoundLifetimes A E)) (l r : Toks) → IsOptional (IsFor part how) o l r → sees_lifetime r ≡ false → sees_lifetime l ≡ false
  binder_none o l r absent h = h
  binder_none o l r (present (a_binder {f = f} {m = m} i j t q)) h = word_none f l m i

  any_path_none : (o : Option (QSelf A E)) (x : Path A E) (l r : Toks) → IsAnyPath part how AsWritten o x l r → sees_lifetime l ≡ false
  unfolding sees_lifetime
  any_path_none o x l r (unqualified i) = path_no_lifetime part how x l r i
  any_path_none o x l r (qualified (by_type (is_mark (last_char y)) t w d s)) = refl
  any_path_none o x l r (qualified (by_type_as_path (is_mark (last_char y)) t a w u d f s)) = refl

  dyn_none : (place : TypePlace) (e : End) (x : TypeTraitObject A E) (l r : Toks) → IsDyn part how place e x l r → sees_lifetime l ≡ false
  dyn_none place e x l r (a_dyn {w = w} {m = m} i j) = word_none w l m i

  impl_none : (place : TypePlace) (e : End) (x : TypeImplTrait A E) (l r : Toks) → IsImpl part how place e x l r → sees_lifetime l ≡ false
  impl_none place e x l r (an_impl {w = w} {m = m} i j h) = word_none w l m i

  fn_ptr_none : (e : End) (x : TypeFnPtr A E) (l r : Toks) → IsFnPtr part how e x l r → sees_lifetime l ≡ false
  fn_ptr_none e x l r (a_fn_ptr {b = b} {u = u} {i = i} {w = w} {s = s} {m = m} {n = n} {k = k} {c = c} {j = j} ib iu ii iw iv io) =
      binder_none b l m ib (optional_none u m n iu (abi_none i n k ii (word_none w k (group Parenthesis s c j) iw)))

  pointer_none : (e : End) (x : TypePtr A E) (l r : Toks) → IsPointer part how e x l r → sees_lifetime l ≡ false
  unfolding sees_lifetime
  pointer_none e x l r (a_pointer (is_mark (last_char y)) j g) = refl

  borrow_none : (e : End) (x : TypeReference A E) (l r : Toks) → IsBorrow part how e x l r → sees_lifetime l ≡ false
  unfolding sees_lifetime
  borrow_none e x l r (a_borrow (is_mark (last_char y)) j g) = refl
  borrow_none e x l r (a_mutable_borrow (is_mark (last_char y)) j g) = refl
  borrow_none e x l r (a_lifetime_borrow (is_mark (last_char y)) j w g) = refl

  enclosed_none : (place : TypePlace) (x : TypeParen A E) (l r : Toks) → IsEnclosed part how place x l r → sees_lifetime l ≡ false
  unfolding sees_lifetime
  enclosed_none place x l r (enclosed i) = refl

  bracketed_none : (x : TypeSlice A E) (l r : Toks) → IsBracketed part how x l r → sees_lifetime l ≡ false
  unfolding sees_lifetime
  bracketed_none x l r (bracketed i) = refl

  counted_none : (x : TypeArray A E) (l r : Toks) → IsCounted part how x l r → sees_lifetime l ≡ false
  unfolding sees_lifetime
  counted_none x l r (counted i j g) = refl

  tupled_none : (Begins : Toks → Type 0) (x : TypeTuple A E) (l r : Toks) → IsTupled part how Begins x l r → sees_lifetime l ≡ false
  unfolding sees_lifetime
  tupled_none Begins x l r no_element = refl
  tupled_none Begins x l r (some_elements b i j t) = refl

  verbatim_none : (place : TypePlace) (e : End) (l r : Toks) → IsVerbatimType part how place e l r → sees_lifetime l ≡ false
  verbatim_none place e l r (an_unsafe_binder {b = b} {u = u} {m = m} {n = n} f h i j g t) = binder_none b l m f (word_none u m n h)
  verbatim_none place e l r (a_dyn_star {w = w} {m = m} h i j) = word_none w l m h
  verbatim_none place e l r (a_builtin {b = b} {w = w} {m = m} f h i g) = binder_none b l (word w m) f (ident_none w m)

-- ---- a type in its place

module _ {A E : Type 0} (na : List A → List A) (ne : NormalValues E) (pa : List A → Print) (pe : Values E) (part : Manner → Parts A E) (again : Again na ne pa pe part) (supplied : SuppliedAgain na ne pa pe part)
    (none : NoneFirst pa pe part) (len_stays : (x : E) (l : Toks) → (part plainly).len x l → ne.len (ne.len x) ≡ ne.len x) (place : TypePlace) where
  abbrev pt : TypeTree A E → Print
  pt = printing.ty pa pe

  -- its print is that of its form
  by_form : (x : TypeTree A E) (q : Print) (k : Toks) → pt x ≡ q → sees_lifetime (row q k) ≡ false → sees_lifetime (row (pt x) k) ≡ false
  by_form x q k e h = ap (λ z. sees_lifetime (row z k)) e ∙ h

  pub none_first : (e : End) (x : TypeTree A E) (l r : Toks) → IsType part plainly place e x l r → sees_lifetime l ≡ false → (k : Toks) → sees_lifetime (row (pt x) k) ≡ false
  none_first e x l r (a_path_type {o = o} {p = z} i) h k =
      let w = no_try_again na ne pa pe part again AsWritten (styled na ne pa pe part again) o z l r i in
      by_form x (printing.qpath pa pe AsWritten o z) k (ty-Path pa pe (qualified_with [] o z) ∙ path_type_parts pa pe [] o z) (any_path_none part clearly (normal.optional_qself na ne o) (normal.path na ne z) (row (printing.qpath pa pe AsWritten o z) k) k (w.spelt k).0)
  none_first e x l r (a_macro {x = y} i) h k = by_form x (mac y) k (ty-Macro pa pe (macro_type_of y)) (call_none true y (row (mac y) k) k ((type_call_again y l r i).spelt k).0)
  none_first e x l r (a_bound_macro {x = y} {m = m} f i g) h k = by_form x (mac y) k (ty-Macro pa pe (macro_type_of y)) (call_none true y (row (mac y) k) k ((type_call_again y m r i).spelt k).0)
  none_first e x l r (an_object_with_dyn {x = y} i) h k =
      let q = printing.trait_object pa pe y in
      by_form x q k (ty-TraitObject pa pe y) (dyn_none part clearly place e (normal.trait_object na ne y) (row q k) k ((dyn_again na ne pa pe part again place supplied.own e y l r i).spelt k))
  none_first e x l r (an_object_without_dyn {w = w} i) h k =
      by_form x (printing.bounds_joined pa pe w) k (ty-TraitObject pa pe (trait_object_with [] None w)) (bare_no_lifetime na ne pa pe part again place e w l r i h k)
  none_first e x l r (an_impl_type {x = y} i) h k =
      let q = printing.impl_trait pa pe y in
      by_form x q k (ty-ImplTrait pa pe y) (impl_none part clearly place e (normal.impl_trait na ne y) (row q k) k ((impl_again na ne pa pe part again place supplied.own e y l r i).spelt k))
  none_first e x l r (a_fn_type {x = y} i) h k =
      let q = printing.fn_ptr pa pe y in
      by_form x q k (ty-FnPtr pa pe y) (fn_ptr_none part clearly e (normal.fn_ptr na ne y) (row q k) k ((fn_ptr_again na ne pa pe part again supplied e y l r i).spelt k))
  none_first e x l r (a_ptr_type {x = y} i) h k =
      let q = printing.ptr pa pe y in
      by_form x q k (ty-Ptr pa pe y) (pointer_none part clearly e (normal.ptr na ne y) (row q k) k ((pointer_again na ne pa pe part again supplied e y l r i).spelt k))
  none_first e x l r (a_reference_type {x = y} i) h k =
      let q = printing.reference pa pe y in
      by_form x q k (ty-Reference pa pe y) (borrow_none part clearly e (normal.reference na ne y) (row q k) k ((borrow_again na ne pa pe part again supplied none e y l r i).spelt k))
  none_first e x l r (a_paren_type {x = y} i) h k =
      let q = printing.paren pa pe y in
      by_form x q k (ty-Paren pa pe y) (enclosed_none part clearly Plus (normal.paren na ne y) (row q k) k ((enclosed_again na ne pa pe part again supplied Plus y l r i).spelt k))
  none_first e x l r (a_tuple_type {x = y} i) h k =
      let q = printing.tuple pa pe y in
      by_form x q k (ty-Tuple pa pe y) (tupled_none part clearly NoLifetime (normal.tuple na ne y) (row q k) k ((tuple_again na ne pa pe part again supplied none y l r i).spelt k))
  none_first e x l r (a_slice_type {x = y} i) h k =
      let q = printing.slice pa pe y in
      by_form x q k (ty-Slice pa pe y) (bracketed_none part clearly (normal.slice na ne y) (row q k) k ((bracketed_again na ne pa pe part again supplied y l r i).spelt k))
  none_first e x l r (an_array_type {x = y} i) h k =
      let q = printing.array pa pe y in
      by_form x q k (ty-Array pa pe y) (counted_none part clearly (normal.array na ne y) (row q k) k ((counted_again na ne pa pe part again supplied len_stays y l r i).spelt k))
  none_first e x l r (an_infer_type {x = y} (an_infer {w = w} i)) h k = by_form x (p.word w) k (ty-Infer pa pe y) (word_none w (row (p.word w) k) k ((word_front w l r i).spelt k))
  none_first e x l r (a_never_type {x = y} (a_never {b = b} i)) h k = by_form x (p.mark b) k (ty-Never pa pe y) (bang_none true b (row (p.mark b) k) k ((mark_front b l r i).spelt k))
  none_first e x l r (a_verbatim_type {t = t} (i, j)) h k = by_form x (trees t) k (ty-Verbatim pa pe t) (verbatim_none part clearly place e (row (trees t) k) k (held_before (λ m. IsVerbatimType part m place e) (λ k l r j q. verbatim_moves part k (again.moving k) j q) (λ l r j q. verbatim_over part (again.moving done).ends j q) t i.0 i.1 k))
