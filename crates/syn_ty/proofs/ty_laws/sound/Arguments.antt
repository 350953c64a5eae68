-- Where a generic argument is read, it is spelt by the rules of the whole grammar, over the law of the type that may begin it; and one that is all of a list is spelt as an argument alone.
use Rattle.std.specs.Prelude.{is_some}
use Rattle.std.proofs.Common.{◌≡◌, ℕ, zero, suc, Bool, true, false, ◌||◌, List, [], ◌∷◌, Option, Some, None, Ok, inl, inr, refl, sym, ◌∙◌, ap, subst, arith}
use Rattle.syn_ty.proofs.ty_laws.words.Tokens.{Ident, front, read_lifetime, none_left, last_value, value_and_mark, Anywhere, Nowhere, Many, listed, listed_from, never, size, Reader, any_text, as_punct, as_word, is_ident, is_last, is_text, leaves, past_mark, past_next, sees_mark, sees_word, Visible, IsMark, IsLifetime, Stream, Toks, done, word, mark, lit, group, enter, leave}
use Rattle.syn_ty.proofs.ty_laws.words.Paths.{AsWritten, is_mod_word, ReadValues}
use Rattle.syn_ty.proofs.ty_laws.words.Forms.{Parameter, Plus, bounds_to}
use Rattle.syn_ty.proofs.ty_laws.words.Types.{out-PathArgumentsOf, out-roll-TypePathOf, AreBounds, ArgumentPlace, alone, between_angles, ConstraintEnds, IsItemName, an_item, an_item_with_arguments, IsArgument, a_lifetime_argument, a_type_argument, a_const_argument, an_assoc_type, an_assoc_const, a_constraint, assoc_const_of, assoc_type_of, constraint_of, ItemName, after_type, argument_step, ends_constraint, generics_layer, item_of_path, sees_const, sees_lone_lifetime, with_name, is_segment_word, IsArguments, IsSegment, a_word, a_word_with_arguments, a_path, IsAnyPath, unqualified, qualified, IsType, a_path_type, a_macro, a_bound_macro, an_object_with_dyn, an_object_without_dyn, an_impl_type, a_fn_type, a_ptr_type, a_reference_type, a_paren_type, a_tuple_type, a_slice_type, an_array_type, an_infer_type, a_never_type, a_verbatim_type, Manner, loosely, End, Parts, Readers, a_bound, a_type, absent, present, AngleBracketed, GenericArgument, Path, PathArguments, PathSegment, QSelf, TypeParamBound, TypeTree, qualified_with}
use Rattle.token_core.specs.Reads.{word_meets}
use Rattle.token_core.specs.Tokens as token
use Rattle.token_core.proofs.MarkSpells.{mark_sound, mark_visible}
use Rattle.token_core.proofs.Steps.{chosen, link}
use Rattle.token_core.proofs.Took.{branch, mapped, took_all}
use Rattle.token_core.proofs.Turns.{chain, same_pair}
use Rattle.syn_path.proofs.Words.{TookOne}
use Rattle.syn_forms.proofs.tokens_laws.Fronts.{nothing_left, took_as}
use Rattle.syn_ty.specs.declared.path.GenericArgumentOf.TheVariants as k
use Rattle.syn_ty.specs.declared.path.PathArgumentsOf.TheVariants as a
use Rattle.syn_ty.specs.declared.ty.TypeOf.TheVariants as form
use Rattle.syn_ty.specs.path.Reading.{after_item, assoc, constraint, item_layer, item_of, item_of_path_layer}
use Rattle.syn_ty.specs.path.Spelling.{some_arguments}
use Rattle.syn_ty.proofs.ty_laws.sound.Bounds.{bounds_took}
use Rattle.syn_ty.proofs.ty_laws.sound.Leaves.{life_sound}
use Rattle.syn_ty.proofs.ty_laws.sound.Forms.{Told, both}
use Rattle.syn_ty.proofs.ty_laws.sound.Within.{Held, Supplied}

-- ---- the name of an associated item

-- a word of a segment that is not `try` is one of mod style
mod_of : (i y u s c t : Bool) → (i || y) || (u || (s || (c || t))) ≡ true → t ≡ false → i || (u || (s || (y || c))) ≡ true
mod_of true y u s c t h n = refl
mod_of false y true s c t h n = refl
mod_of false y false true c t h n = refl
mod_of false true false false c t h n = refl
mod_of false false false false true t h n = refl
mod_of false false false false false t h n = both t h n

mod_word : (i : Ident) (r : Toks) → is_segment_word i.text ≡ true → token.sees_try (word i r) ≡ false → is_mod_word i.text ≡ true
unfolding sees_word
mod_word i r h n = mod_of (is_ident i.text) (is_text token.self_type_text i.text) (is_text token.super_text i.text) (is_text token.self_value_text i.text) (is_text token.crate_text i.text) (is_text token.try_text i.text) h n

module _ {A E : Type 0} (part : Manner → Parts A E) where
  abbrev Tree : Type 0
  Tree = TypeTree A E

  abbrev Angle : Type 0
  Angle = AngleBracketed A E

  abbrev Name : Type 0
  Name = ItemName A E

  abbrev First : End → Tree → Toks → Toks → Type 0
  First = IsType part loosely Plus

  abbrev Item : Name → Toks → Toks → Type 0
  Item n = IsItemName First part loosely n.0 n.1

  -- arguments of a segment stand in angle brackets
  abbrev pub InAngles : Type 0
  InAngles = (x : PathArguments A E) (l r : Toks) → (part loosely).arguments x l r → (y : Angle) × (x ≡ a.AngleBracketed y)

  module _ (angled : InAngles) where
    no_name : {P : Type 0} (n : Name) (o : Option Name) → o ≡ None → o ≡ Some n → P
    no_name n o h i = cc

    same_name : (n m : Name) (o : Option Name) (l r : Toks) → o ≡ Some m → o ≡ Some n → Item m l r → Item n l r
    same_name n m o l r h i w = let same : m ≡ n = cc in subst (λ z. Item z l r) same w

    abbrev named : Ident → PathArguments A E → Option Name
    named i x = with_name i (generics_layer (out-PathArgumentsOf A E x))

    with_angles : (n : Name) (i : Ident) (x : PathArguments A E) (y : Angle) (l r : Toks) → x ≡ a.AngleBracketed y → named i x ≡ Some n → Item (i, Some y) l r → Item n l r
    with_angles n i x y l r g h w = same_name n (i, Some y) (named i x) l r (ap (named i) g ∙ ap (λ z. with_name i (generics_layer z)) (a.outs-AngleBracketed y)) h w

    in_segment : (n : Name) (x : PathSegment A E) (l r : Toks) → IsSegment part loosely AsWritten x l r → token.sees_try l ≡ false → named x.ident x.arguments ≡ Some n → Item n l r
    in_segment n x l r (a_word {i = i} w) t h = same_name n (i, None) (named i a.None) l r (ap (λ z. with_name i (generics_layer z)) a.outs-None) h (an_item (mod_word i r w t))
    in_segment n x l r (a_word_with_arguments {i = i} {x = y} {l = m} w s g) t h =
        let z = angled y m r g in
        with_angles n i y z.0 l r z.1 h (an_item_with_arguments w (subst (λ u. (part loosely).arguments u m r) z.1 g))

    in_path : (n : Name) (q : Option (QSelf A E)) (p : Path A E) (l r : Toks) → IsAnyPath part loosely AsWritten q p l r → token.sees_try l ≡ false → item_of_path q p.leading_colon p.segments.0 ≡ Some n → Item n l r
    in_path n q p l r (unqualified (a_path (present c) i)) t h = cc h
    in_path n q p l r (unqualified (a_path absent (none_left i))) t h = absurd i
    in_path n q p l r (unqualified (a_path absent (last_value {x = x} i))) t h = in_segment n x l r i t h
    in_path n q p l r (unqualified (a_path absent (value_and_mark i j (none_left w)))) t h = absurd w
    in_path n q p l r (unqualified (a_path absent (value_and_mark i j (last_value w)))) t h = cc h
    in_path n q p l r (unqualified (a_path absent (value_and_mark i j (value_and_mark w u z)))) t h = cc h
    in_path n q p l r (qualified i) t h = cc h

    -- what a type that is a path names is what the path does
    path_names : (q : Option (QSelf A E)) (p : Path A E) → item_of (form.Path (qualified_with [] q p)) ≡ item_of_path q p.leading_colon p.segments.0
    path_names q p = ap item_layer (form.outs-Path (qualified_with [] q p)) ∙ ap (item_of_path_layer {A = A} {E = E}) (out-roll-TypePathOf A E (record { attrs = []; qself = q; path = p }))

    -- a type that names an item spells its name
    pub item_told : (e : End) (x : Tree) (n : Name) (l r : Toks) → First e x l r → item_of x ≡ Some n → Item n l r
    item_told e x n l r (a_path_type {o = q} {p = p} i) h = in_path n q p l r i.0 i.1 (sym (path_names q p) ∙ h)
    item_told e x n l r (a_macro i) h = no_name n (item_of x) (ap item_layer (form.outs-Macro _)) h
    item_told e x n l r (a_bound_macro i j w) h = no_name n (item_of x) (ap item_layer (form.outs-Macro _)) h
    item_told e x n l r (an_object_with_dyn i) h = no_name n (item_of x) (ap item_layer (form.outs-TraitObject _)) h
    item_told e x n l r (an_object_without_dyn i) h = no_name n (item_of x) (ap item_layer (form.outs-TraitObject _)) h
    item_told e x n l r (an_impl_type i) h = no_name n (item_of x) (ap item_layer (form.outs-ImplTrait _)) h
    item_told e x n l r (a_fn_type i) h = no_name n (item_of x) (ap item_layer (form.outs-FnPtr _)) h
    item_told e x n l r (a_ptr_type i) h = no_name n (item_of x) (ap item_layer (form.outs-Ptr _)) h
    item_told e x n l r (a_reference_type i) h = no_name n (item_of x) (ap item_layer (form.outs-Reference _)) h
    item_told e x n l r (a_paren_type i) h = no_name n (item_of x) (ap item_layer (form.outs-Paren _)) h
    item_told e x n l r (a_tuple_type i) h = no_name n (item_of x) (ap item_layer (form.outs-Tuple _)) h
    item_told e x n l r (a_slice_type i) h = no_name n (item_of x) (ap item_layer (form.outs-Slice _)) h
    item_told e x n l r (an_array_type i) h = no_name n (item_of x) (ap item_layer (form.outs-Array _)) h
    item_told e x n l r (an_infer_type i) h = no_name n (item_of x) (ap item_layer (form.outs-Infer _)) h
    item_told e x n l r (a_never_type i) h = no_name n (item_of x) (ap item_layer (form.outs-Never _)) h
    item_told e x n l r (a_verbatim_type i) h = no_name n (item_of x) (ap item_layer (form.outs-Verbatim _)) h

-- by the rules, arguments of a segment stand in angle brackets
pub in_angles : {A E : Type 0} (part : Manner → Parts A E) (x : PathArguments A E) (l r : Toks) → IsArguments part loosely x l r → (y : AngleBracketed A E) × (x ≡ a.AngleBracketed y)
in_angles part x l r (some_arguments {x = y} i) = (y, refl)

-- ---- lists that stop at nothing

-- where a list that stops at a test ends before what the test does not see, it never stopped
module _ {A P : Type 0} (stops : Toks → Bool) (value : Reader A) (more : Toks → Bool) (joint : Reader P) where
  never_from : (n : ℕ) (b : Bool) (s t : Stream) (v : Many A P) → listed_from (λ (_ : Bool). stops) (λ (_ : Bool). value) more joint n b s ≡ Ok (v, t) → stops t.rest ≡ false →
      listed_from never (λ (_ : Bool). value) more joint n b s ≡ Ok (v, t)
  never_from zero b s t v e h = cc
  never_from (suc n) b s t v e h =
      elim (branch (stops s.rest) _ _ s (Ok (v, t)) e) [
        | inl y ↦ both (stops s.rest) y.0 (ap (λ (z : Stream). stops z.rest) (same_pair ([], []) v s t y.1).1 ∙ h)
        | inr y ↦ let c = chain (value s) _ v t y.1 in
            elim (branch (more c.rest.rest) _ _ c.rest (Ok (v, t)) c.goes) [
              | inl z ↦ let d = chain (joint c.rest) _ v t z.1 in
                  let f = chain (listed_from (λ (_ : Bool). stops) (λ (_ : Bool). value) more joint n false d.rest) _ v t d.goes in
                  let last : f.rest ≡ t = (same_pair (c.value ∷ f.value.0, d.value ∷ f.value.1) v f.rest t f.goes).1 in
                  let i = never_from n false d.rest f.rest f.value f.was (ap (λ (u : Stream). stops u.rest) last ∙ h) in
                  link _ c.was (chosen (more c.rest.rest) true _ _ c.rest _ z.0 (link _ d.was (link _ i f.goes)))
              | inr z ↦ link _ c.was (chosen (more c.rest.rest) false _ _ c.rest _ z.0 z.1)
            ]
      ]

  pub never_stopped : (b : Bool) (s t : Stream) (v : Many A P) → listed (λ (_ : Bool). stops) (λ (_ : Bool). value) more joint b s ≡ Ok (v, t) → stops t.rest ≡ false → listed never (λ (_ : Bool). value) more joint b s ≡ Ok (v, t)
  unfolding listed
  never_stopped b s t v e h = never_from (suc (size s.rest)) b s t v e h

-- ---- the bounds of an associated type

-- a mark is no word
mark_no_word : (c : ℕ) (cs : List ℕ) (l : Toks) → sees_mark (c ∷ cs) l ≡ true → sees_word any_text l ≡ false
unfolding sees_mark sees_word
mark_no_word c cs l h = at_front (front l) h
  where
    at_front : (m : Toks) → is_some (past_next c (is_last cs) (past_mark cs) (as_punct m)) ≡ true → word_meets any_text (as_word m) ≡ false
    at_front done h = refl
    at_front (word i k) h = cc h
    at_front (mark p k) h = refl
    at_front (lit x k) h = refl
    at_front (group d s x k) h = refl
    at_front (enter s k) h = refl
    at_front (leave k) h = refl

comma_or_gt : (b c d : Bool) → (b ≡ true → d ≡ false) → (c ≡ true → d ≡ false) → b || c ≡ true → d ≡ false
comma_or_gt true c d f g h = f refl
comma_or_gt false c d f g h = g h

no_word_ends : (l : Toks) → ends_constraint l ≡ true → sees_word any_text l ≡ false
unfolding ends_constraint
no_word_ends l h = comma_or_gt (token.sees_comma l) (token.sees_gt l) (sees_word any_text l) (mark_no_word 44 [] l) (mark_no_word 62 [] l) h

-- what follows an argument in its place
abbrev pub Stands : ArgumentPlace → Toks → Type 0
Stands alone l = ends_constraint l ≡ false
Stands between_angles l = Unit {0}

module _ {A E : Type 0} (attrs : Reader (List A)) (values : ReadValues E) (r : Readers A E) (part : Manner → Parts A E) (held : Held r part) (supplied : Supplied attrs values part) where
  abbrev Bounds : Type 0
  Bounds = Many (TypeParamBound A E) token.Plus

  abbrev ListedIn : ArgumentPlace → Bounds → Toks → Toks → Type 0
  ListedIn place v l m = (e : End) × AreBounds part loosely Parameter (ConstraintEnds place) true e v.0 v.1 l m

  abbrev Bound : Reader (TypeParamBound A E)
  Bound = r (a_bound Parameter)

  anywhere : (s t : Stream) (v : Bounds) → Visible s.rest → bounds_to Bound ends_constraint s ≡ Ok (v, t) → TookOne (ListedIn between_angles) s t v
  anywhere s t v h e =
      let w = bounds_took part Parameter Anywhere (λ (_ : Bool). ends_constraint) Bound (λ b l i. tt) no_word_ends (held.bound Parameter) true s t v h e in
      record { left = w.left; seen = w.seen; spelt = λ n. let i = w.spelt n in (i.0, i.1) }

  nowhere : (s t : Stream) (v : Bounds) → Visible s.rest → bounds_to Bound ends_constraint s ≡ Ok (v, t) → ends_constraint t.rest ≡ false → TookOne (ListedIn alone) s t v
  nowhere s t v h e g =
      let w = bounds_took part Parameter Nowhere never Bound (λ b l i. cc i) (λ l i. cc i) (held.bound Parameter) true s t v h (never_stopped ends_constraint Bound token.sees_plus token.plus true s t v e g) in
      record { left = w.left; seen = w.seen; spelt = λ n. let i = w.spelt n in (i.0, i.1) }

  bounds_in : (place : ArgumentPlace) (s t : Stream) (v : Bounds) → Visible s.rest → bounds_to Bound ends_constraint s ≡ Ok (v, t) → TookOne (λ (x : Bounds) l m. Stands place m → ListedIn place x l m) s t v
  bounds_in alone s t v h e = let w = anywhere s t v h e in record { left = w.left; seen = w.seen; spelt = λ n g. (nowhere s t v h e g).spelt n }
  bounds_in between_angles s t v h e = let w = anywhere s t v h e in record { left = w.left; seen = w.seen; spelt = λ n g. w.spelt n }

  -- ---- an argument, over the law of the type that may begin it

  module _ (angled : InAngles part) (place : ArgumentPlace) where
    abbrev Is : GenericArgument A E → Toks → Toks → Type 0
    Is = IsArgument (First part) part loosely place

    abbrev Of : GenericArgument A E → Toks → Toks → Type 0
    Of x l m = Stands place m → Is x l m

    -- what was taken after a part that was read, if what is said of that part holds
    abbrev Further : Type 0 → GenericArgument A E → Toks → Stream → Stream → Type 0
    Further Before x l s t = (t.left ≡ None → s.left ≡ None) × Visible t.rest × (t.left ≡ None → Before → Of x l t.rest)

    -- after `=`
    assoc_took : (n : Name part) (q : token.Equals) (l m : Toks) (s t : Stream) (x : GenericArgument A E) → Visible s.rest → assoc values r n.0 n.1 q s ≡ Ok (x, t) → Further (Item part n l m × IsMark false q m s.rest) x l s t
    assoc_took n q l m s t x v e =
        elim (branch (sees_const s.rest) _ _ s (Ok (x, t)) e) [
          | inl y ↦ let of : E → GenericArgument A E = λ z. k.AssocConst (assoc_const_of n.0 n.1 q z) in
              let c = mapped (values.const_argument s) of x t y.1 in
              let w = supplied.argument s t c.value v y.0 c.was in
              (w.left, w.seen, λ h i. subst (λ z. Of z l t.rest) c.is (λ g. an_assoc_const i.0 i.1 (w.spelt h)))
          | inr y ↦ let of : Tree part → GenericArgument A E = λ z. k.AssocType (assoc_type_of n.0 n.1 q z) in
              let c = mapped (r (a_type Plus) s) of x t y.1 in
              let w = held.ty Plus s t c.value v c.was in
              (w.left, w.seen, λ h i. subst (λ z. Of z l t.rest) c.is (λ g. an_assoc_type i.0 i.1 (w.spelt h).1))
        ]

    -- after `:`
    constraint_took : (n : Name part) (q : token.Colon) (l m : Toks) (s t : Stream) (x : GenericArgument A E) → Visible s.rest → constraint values r n.0 n.1 q s ≡ Ok (x, t) → Further (Item part n l m × IsMark false q m s.rest) x l s t
    constraint_took n q l m s t x v e =
        let of : Bounds → GenericArgument A E = λ z. k.Constraint (constraint_of n.0 n.1 q z) in
        let c = mapped (bounds_to Bound ends_constraint s) of x t e in
        let w = bounds_in place s t c.value v c.was in
        (w.left, w.seen, λ h i. subst (λ z. Of z l t.rest) c.is (λ g. a_constraint i.0 i.1 (w.spelt h g).1))

    type_at : (y : Tree part) (l m : Toks) → Told (First part) y l m → Of (k.«Type» y) l m
    type_at y l m w = λ g. a_type_argument w.1

    alone_took : (y : Tree part) (x : GenericArgument A E) (l : Toks) (s t : Stream) → Visible s.rest → (k.«Type» y ≡ x) × (s ≡ t) → Further (Told (First part) y l s.rest) x l s t
    alone_took y x l s t v g =
        (λ n. ap (λ (z : Stream). z.left) g.1 ∙ n, subst (λ (z : Stream). Visible z.rest) g.1 v, λ n w. subst (λ z. Of z l t.rest) g.0 (type_at y l t.rest (subst (λ (z : Stream). Told (First part) y l z.rest) g.1 w)))

    item_took : (y : Tree part) (n : Name part) (l : Toks) (s t : Stream) (x : GenericArgument A E) → Visible s.rest → item_of y ≡ Some n → after_item values r y n.0 n.1 s ≡ Ok (x, t) → Further (Told (First part) y l s.rest) x l s t
    unfolding after_item
    item_took y n l s t x v is e =
        let name : Told (First part) y l s.rest → Item part n l s.rest = λ w. item_told part angled w.0 y n l s.rest w.1 is in
        elim (branch (token.sees_equals s.rest) _ _ s (Ok (x, t)) e) [
          | inl z ↦ let c = chain (token.equals s) (assoc values r n.0 n.1) x t z.1 in
              let m = mark_sound {n = 11} {k = 1} refl (omega arith) s c.rest c.value v c.was in
              let w = assoc_took n c.value l s.rest c.rest t x (mark_visible false {n = 11} {k = 1} c.value s.rest c.rest.rest m.spelt v) c.goes in
              (λ h. sym m.left ∙ w.0 h, w.1, λ h u. w.2 h (name u, m.spelt))
          | inr z ↦ elim (branch (token.sees_colon s.rest) _ _ s (Ok (x, t)) z.1) [
            | inl u ↦ let c = chain (token.colon s) (constraint values r n.0 n.1) x t u.1 in
                let m = mark_sound {n = 7} {k = 1} refl (omega arith) s c.rest c.value v c.was in
                let w = constraint_took n c.value l s.rest c.rest t x (mark_visible false {n = 7} {k = 1} c.value s.rest c.rest.rest m.spelt v) c.goes in
                (λ h. sym m.left ∙ w.0 h, w.1, λ h i. w.2 h (name i, m.spelt))
            | inr u ↦ alone_took y x l s t v (same_pair (k.«Type» y) x s t u.1)
          ]
        ]

    type_took : (y : Tree part) (o : Option (Name part)) (l : Toks) (s t : Stream) (x : GenericArgument A E) → Visible s.rest → item_of y ≡ o → after_type values r y o s ≡ Ok (x, t) → Further (Told (First part) y l s.rest) x l s t
    type_took y None l s t x v is e = alone_took y x l s t v (same_pair (k.«Type» y) x s t e)
    type_took y (Some n) l s t x v is e = item_took y n l s t x v is e

    module _ (first : Reader (TypeTree A E)) (took_first : (s t : Stream) (x : TypeTree A E) → Visible s.rest → first s ≡ Ok (x, t) → TookOne (Told (IsType part loosely Plus)) s t x) where
      -- in its place
      placed_took : (s t : Stream) (x : GenericArgument A E) → Visible s.rest → argument_step values r first s ≡ Ok (x, t) → TookOne Of s t x
      unfolding argument_step
      placed_took s t x v e =
          elim (branch (sees_lone_lifetime s.rest) _ _ s (Ok (x, t)) e) [
            | inl y ↦ let c = mapped (read_lifetime s) k.Lifetime x t y.1 in
                took_as {Is = IsLifetime} {Js = Of} k.Lifetime s t c.value x c.is (λ l m i g. a_lifetime_argument i) (life_sound s t c.value v c.was)
            | inr y ↦ elim (branch (sees_const s.rest) _ _ s (Ok (x, t)) y.1) [
              | inl z ↦ let c = mapped (values.const_argument s) k.Const x t z.1 in
                  took_as {Is = (part loosely).const_argument} {Js = Of} k.Const s t c.value x c.is (λ l m i g. a_const_argument i) (supplied.argument s t c.value v z.0 c.was)
              | inr z ↦ let c = chain (first s) (λ u. after_type values r u (item_of u)) x t z.1 in
                  let w = took_first s c.rest c.value v c.was in
                  let u = type_took c.value (item_of c.value) s.rest c.rest t x w.seen refl c.goes in
                  record { left = λ n. w.left (u.0 n); seen = u.1; spelt = λ n. u.2 n (w.spelt (u.0 n)) }
            ]
          ]

  module _ (angled : InAngles part) (first : Reader (TypeTree A E)) (took_first : (s t : Stream) (x : TypeTree A E) → Visible s.rest → first s ≡ Ok (x, t) → TookOne (Told (IsType part loosely Plus)) s t x) where
    -- between angle marks
    pub argument_took : (s t : Stream) (x : GenericArgument A E) → Visible s.rest → argument_step values r first s ≡ Ok (x, t) → TookOne (IsArgument (IsType part loosely Plus) part loosely between_angles) s t x
    argument_took s t x v e = let w = placed_took angled between_angles first took_first s t x v e in record { left = w.left; seen = w.seen; spelt = λ n. w.spelt n tt }

    -- alone: all of a list
    pub argument_alone : (s t : Stream) (x : GenericArgument A E) → Visible s.rest → argument_step values r first s ≡ Ok (x, t) → leaves t ≡ None → IsArgument (IsType part loosely Plus) part loosely alone x s.rest done
    unfolding ends_constraint sees_mark
    argument_alone s t x v e n =
        let w = placed_took angled alone first took_first s t x v e in
        subst (λ z. Of angled alone x s.rest z) (took_all t w.seen n) (w.spelt (nothing_left t n)) refl
