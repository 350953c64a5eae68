-- A bound that begins with a lifetime prints one at its start, and the bounds of a trait object that do not begin with one print none at theirs.
use Rattle.std.proofs.Common.{◌≡◌, Bool, true, false, List, [], ◌∷◌, ◌++◌, Option, None, Some, refl, sym, ◌∙◌, ap, subst}
use Rattle.syn_ty.proofs.ty_laws.words.Tokens.{DelimSpan, Parenthesis, sees_lifetime, AreListed, none_left, last_value, value_and_mark, Nowhere, Many, Print, IsMark, is_mark, last_char, more_chars, is_word, Toks, done, group, row, stream_of_trees}
use Rattle.syn_ty.proofs.ty_laws.words.Paths.{AsWritten, NormalValues, Values}
use Rattle.syn_ty.proofs.ty_laws.words.Forms.{BoundPlace, TypePlace, allows_const}
use Rattle.syn_ty.proofs.ty_laws.words.Types.{PreciseCapture, TraitBoundModifiers, IsCapture, a_capture, IsTrait, a_trait, a_trait_for, a_trait_asked, a_trait_bound, IsBound, a_lifetime_bound, a_bare_bound, a_bound_in_parens, a_capture_bound, no_modifiers, binder_by, a_binder, Sep, AreSigned, signed_last, signed_after, a_signed, IsBoundPath, without_parens, IsPath, a_path, IsSegment, a_word, a_word_with_arguments, IsFirst, a_first, a_first_for, AreBareBounds, path_alone, path_and_plus, held_and_plus, asked_first, asked_in_two, lifetime_first, Manner, plainly, clearly, End, Parts, IsOptional, absent, present, BoundLifetimes, Path, PathSegment, TypeParamBound}
use Rattle.token_core.specs.Groups as groups
use Rattle.token_core.specs.Lifetimes as lifetimes
use Rattle.token_core.specs.Prints as p
use Rattle.token_core.specs.Tokens as token
use Rattle.token_core.proofs.Rows.{row-append}
use Rattle.token_core.proofs.WordSpells.{lifetime_again, lifetime_seen}
use Rattle.syn_path.proofs.Words.{row-group}
use Rattle.syn_ty.specs.declared.generics.TypeParamBoundOf.TheVariants as b
use Rattle.syn_ty.specs.path.Signed as signed
use Rattle.syn_ty.specs.ty.Normal as normal
use Rattle.syn_ty.specs.ty.Parts.{is_clear}
use Rattle.syn_ty.specs.ty.Printing as printing
use Rattle.syn_ty.proofs.ty_laws.reprint.Within.{Again}
use Rattle.syn_ty.proofs.ty_laws.reprint.BareBounds.{first_again}
use Rattle.syn_ty.proofs.ty_laws.reprint.Bound.{named_prints, print_named, with_parens}
use Rattle.syn_ty.proofs.ty_laws.reprint.Modifiers.{modifiers_no_lifetime}
use Rattle.syn_ty.proofs.ty_laws.Prints.{bound-Lifetime}

-- ---- what begins with no lifetime

group_no_lifetime : (s : DelimSpan) (c k : Toks) → sees_lifetime (group Parenthesis s c k) ≡ false
unfolding sees_lifetime
group_no_lifetime s c k = refl

module _ (clear : Bool) where
  leading_no_lifetime : (o : Option Sep) (l m : Toks) → IsOptional (IsMark clear) o l m → sees_lifetime m ≡ false → sees_lifetime l ≡ false
  unfolding sees_lifetime
  leading_no_lifetime o l m absent h = h
  leading_no_lifetime o l m (present (is_mark (more_chars y))) h = refl

question_no_lifetime : (clear : Bool) (q : token.Question) (l m : Toks) → IsMark clear q l m → sees_lifetime l ≡ false
unfolding sees_lifetime
question_no_lifetime clear q l m (is_mark (last_char y)) = refl

capture_no_lifetime : (clear : Bool) (x : PreciseCapture) (l m : Toks) → IsCapture clear x l m → sees_lifetime l ≡ false
unfolding sees_lifetime
capture_no_lifetime clear x l m (a_capture is_word i j n) = refl

module _ {A E : Type 0} (part : Manner → Parts A E) (how : Manner) where
  segment_no_lifetime : (x : PathSegment A E) (l m : Toks) → IsSegment part how AsWritten x l m → sees_lifetime l ≡ false
  unfolding sees_lifetime
  segment_no_lifetime x l m (a_word h) = refl
  segment_no_lifetime x l m (a_word_with_arguments h s z) = refl

  listed_no_lifetime : (f : Bool) (xs : List (PathSegment A E)) (cs : List Sep) (l m : Toks) → AreListed (λ (_ : Bool). IsSegment part how AsWritten) (IsMark (is_clear how)) Nowhere f xs cs l m → sees_lifetime l ≡ false
  listed_no_lifetime f xs cs l m (none_left i) = absurd i
  listed_no_lifetime f xs cs l m (last_value {x = x} i) = segment_no_lifetime x l m i
  listed_no_lifetime f xs cs l m (value_and_mark {x = x} {m = k} i j n) = segment_no_lifetime x l k i

  signed_no_lifetime : (e : End) (xs : List (PathSegment A E)) (cs : List Sep) (l m : Toks) → AreSigned part how e xs cs l m → sees_lifetime l ≡ false
  unfolding sees_lifetime
  signed_no_lifetime e xs cs l m (signed_last (a_signed h j s)) = refl
  signed_no_lifetime e xs cs l m (signed_after {s = x} {m = k} i j n) = segment_no_lifetime x l k i

  pub path_no_lifetime : (p : Path A E) (l m : Toks) → IsPath part how AsWritten p l m → sees_lifetime l ≡ false
  path_no_lifetime p l m (a_path {c = o} {xs = xs} {cs = cs} {m = k} i n) = leading_no_lifetime (is_clear how) o l k i (listed_no_lifetime true xs cs k m n)

  bound_path_no_lifetime : (e : End) (p : Path A E) (l m : Toks) → IsBoundPath part how e p l m → sees_lifetime l ≡ false
  bound_path_no_lifetime e p l m (without_parens i) = path_no_lifetime p l m i
  bound_path_no_lifetime e p l m (signed.with_parens {c = o} {xs = xs} {cs = cs} {m = k} i n) = leading_no_lifetime (is_clear how) o l k i (signed_no_lifetime e xs cs k m n)

  trait_no_lifetime : (consts : Bool) (e : End) (o : Option (BoundLifetimes A E)) (x : TraitBoundModifiers) (q : Option token.Question) (p : Path A E) (l m : Toks) → IsTrait part how consts e o x q p l m → sees_lifetime l ≡ false
  unfolding sees_lifetime
  trait_no_lifetime consts e o x q p l m (a_trait {m = k} i j) = modifiers_no_lifetime consts x l k i (bound_path_no_lifetime e p k m j)
  trait_no_lifetime consts e o x q p l m (a_trait_for (a_binder is_word i j n) k h) = refl
  trait_no_lifetime consts e o x q p l m (a_trait_asked {q = a} {m = k} {n = n} i j h) = modifiers_no_lifetime consts x l k i (question_no_lifetime (is_clear how) a k n j)

  first_no_lifetime : (o : Option (BoundLifetimes A E)) (p : Path A E) (l m : Toks) → IsFirst part how o p l m → sees_lifetime l ≡ false
  unfolding sees_lifetime
  first_no_lifetime o p l m (a_first i h) = path_no_lifetime p l m i
  first_no_lifetime o p l m (a_first_for (a_binder is_word i j n) k h g) = refl

-- ---- a bound that begins with a lifetime

unseen : {R : Type 0} (l : Toks) → sees_lifetime l ≡ true → sees_lifetime l ≡ false → R
unseen l h g = cc

module _ {A E : Type 0} (pa : List A → Print) (pe : Values E) (part : Manner → Parts A E) (how : Manner) (place : BoundPlace) where
  pub bound_lives : (e : End) (x : TypeParamBound A E) (l r : Toks) → IsBound part how place e x l r → sees_lifetime l ≡ true → (k : Toks) → sees_lifetime (row (printing.bound pa pe x) k) ≡ true
  bound_lives e x l r (a_lifetime_bound {x = y} i) h k =
      subst (λ z. sees_lifetime (row z k) ≡ true) (sym (bound-Lifetime pa pe y)) (lifetime_seen y (row (lifetimes.print y) k) k (lifetime_again y l r k i))
  bound_lives e x l r (a_bare_bound (a_trait_bound {o = o} {x = y} {q = q} {p = p} i)) h k = unseen l h (trait_no_lifetime part how (allows_const place) e o y q p l r i)
  bound_lives e x l r (a_bound_in_parens {s = s} {c = c} i) h k = unseen l h (group_no_lifetime s c r)
  bound_lives e x l r (a_capture_bound {x = y} g i) h k = unseen l h (capture_no_lifetime (is_clear how) y l r i)

-- ---- bounds without `dyn` that begin with no lifetime

module _ {A E : Type 0} (na : List A → List A) (ne : NormalValues E) (pa : List A → Print) (pe : Values E) (part : Manner → Parts A E) where
  abbrev Bound : Type 0
  Bound = TypeParamBound A E

  abbrev Bounds : Type 0
  Bounds = Many Bound token.Plus

  abbrev ps : Bounds → Print
  ps = printing.bounds_joined pa pe

  -- a first bound, and what follows it
  first_seen : (x : Bound) (xs : List Bound) (qs : List token.Plus) (q : Print) → printing.bound pa pe x ≡ q → ((k : Toks) → sees_lifetime (row q k) ≡ false) → (k : Toks) → sees_lifetime (row (ps (x ∷ xs, qs)) k) ≡ false
  first_seen x xs [] q e h k = let rest = ps (xs, []) in ap sees_lifetime (row-append (printing.bound pa pe x) rest k ∙ ap (λ z. row z (row rest k)) e) ∙ h (row rest k)
  first_seen x xs (c ∷ qs) q e h k = let rest = p.mark c ++ ps (xs, qs) in ap sees_lifetime (row-append (printing.bound pa pe x) rest k ∙ ap (λ z. row z (row rest k)) e) ∙ h (row rest k)

  held_seen : (s : DelimSpan) (q : Print) (k : Toks) → sees_lifetime (row (p.group Parenthesis (stream_of_trees q) s) k) ≡ false
  held_seen s q k = ap sees_lifetime (row-group Parenthesis s q k tt) ∙ group_no_lifetime s (row q done) k

  module _ (again : Again na ne pa pe part) where
    bare_seen : (o : Option (BoundLifetimes A E)) (z : Path A E) (l r : Toks) → IsFirst part plainly o z l r → (k : Toks) → sees_lifetime (row (print_named pa pe (o, no_modifiers, None, z)) k) ≡ false
    bare_seen o z l r i k =
        first_no_lifetime part clearly (binder_by (normal.param na ne) o) (normal.path na ne z) (row (print_named pa pe (o, no_modifiers, None, z)) k) k ((first_again na ne pa pe part again o z l r i).spelt k)

    pub bare_no_lifetime : (place : TypePlace) (e : End) (v : Bounds) (l r : Toks) → AreBareBounds part plainly place e v l r → sees_lifetime l ≡ false → (k : Toks) → sees_lifetime (row (printing.bounds_joined pa pe v) k) ≡ false
    bare_no_lifetime place e v l r (path_alone {x = x} {p = z} i) h = first_seen (b.Trait (with_parens None (Some x, no_modifiers, None, z))) [] [] (print_named pa pe (Some x, no_modifiers, None, z)) (named_prints pa pe None (Some x, no_modifiers, None, z)) (bare_seen (Some x) z l r i)
    bare_no_lifetime place e v l r (path_and_plus {o = o} {p = z} {c = c} {xs = xs} {ps = qs} {m = m} a i j t) h =
        first_seen (b.Trait (with_parens None (o, no_modifiers, None, z))) xs (c ∷ qs) (print_named pa pe (o, no_modifiers, None, z)) (named_prints pa pe None (o, no_modifiers, None, z)) (bare_seen o z l m i)
    bare_no_lifetime place e v l r (held_and_plus {o = o} {p = z} {s = s} {k = c} {xs = xs} {ps = qs} a i j t) h =
        first_seen (b.Trait (with_parens (Some (groups.paren s)) (o, no_modifiers, None, z))) xs (c ∷ qs) (p.group Parenthesis (stream_of_trees (print_named pa pe (o, no_modifiers, None, z))) s) (named_prints pa pe (Some (groups.paren s)) (o, no_modifiers, None, z)) (held_seen s (print_named pa pe (o, no_modifiers, None, z)))
    bare_no_lifetime place e v l r (asked_first {q = q} {p = z} {s = s} {xs = xs} {ps = qs} i t) h =
        first_seen (b.Trait (with_parens (Some (groups.paren s)) (None, no_modifiers, Some q, z))) xs qs (p.group Parenthesis (stream_of_trees (print_named pa pe (None, no_modifiers, Some q, z))) s) (named_prints pa pe (Some (groups.paren s)) (None, no_modifiers, Some q, z))
        (held_seen s (print_named pa pe (None, no_modifiers, Some q, z)))
    bare_no_lifetime place e v l r (asked_in_two {q = q} {p = z} {s = s} {k = c} {xs = xs} {ps = qs} a i j t) h =
        first_seen (b.Trait (with_parens (Some (groups.paren s)) (None, no_modifiers, Some q, z))) xs (c ∷ qs) (p.group Parenthesis (stream_of_trees (print_named pa pe (None, no_modifiers, Some q, z))) s) (named_prints pa pe (Some (groups.paren s)) (None, no_modifiers, Some q, z))
        (held_seen s (print_named pa pe (None, no_modifiers, Some q, z)))
    bare_no_lifetime place e v l r (lifetime_first g i t) h = unseen l g h
