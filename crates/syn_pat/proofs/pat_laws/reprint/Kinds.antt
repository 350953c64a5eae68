-- What the grammar asks of the kind of a pattern or of a path is so of its normal form too.
use Rattle.std.proofs.Common.{◌≡◌, ℕ, zero, suc, Bool, true, false, if◌then◌else◌, List, [], ◌∷◌, map, Option, Some, None, refl, sym, ◌∙◌, ap}
use Rattle.syn_pat.proofs.pat_laws.words.Tokens.{none_left, last_value, value_and_mark, Toks}
use Rattle.syn_pat.proofs.pat_laws.words.Paths.{Place}
use Rattle.syn_pat.proofs.pat_laws.words.Attributes.{Expr}
use Rattle.syn_pat.proofs.pat_laws.words.Types.{Sep, is_none, IsAnyPath, unqualified, qualified, a_path, AreSegments, IsSegment, a_word, a_word_with_arguments, plainly, absent, present, Path, PathSegment, QSelf, Comma}
use Rattle.syn_pat.proofs.pat_laws.words.Patterns.{is_tuple, Attrs, Pat, is_rest, lone_word, types_to}
use Rattle.syn_path.specs.declared.path.PathStyle.TheVariants.{Expr as expressions}
use Rattle.syn_path.specs.path.Paths.{only}
use Rattle.syn_path.specs.Values.{NormalValues}
use Rattle.syn_attr.specs.attr.Attrs.{Attribute as Attr}
use Rattle.syn_ty.specs.declared.path.PathArgumentsOf.TheVariants as a
use Rattle.syn_ty.specs.path.Paths.{none_layer}
use Rattle.syn_ty.specs.path.Spelling.{some_arguments}
use Rattle.syn_ty.specs.ty.Normal as types
use Rattle.syn_ty.specs.ty.Trees.{PathArguments}
use Rattle.syn_ty.proofs.ty_laws.reprint.Normals.{normal-None, normal-AngleBracketed}
use Rattle.syn_pat.specs.pat.Printing.{tuple_comma, comma_unless}

-- ---- paths that are one word

module _ {X : Type 0} (spells : Place → X → Toks → Type 0) (na : Attrs X → Attrs X) (ne : NormalValues (Expr X)) where
  abbrev Segment : Type 0
  Segment = PathSegment (Attr X) (Expr X)

  -- what a segment holds that has arguments
  held_kept : (n : ℕ) (x : PathArguments (Attr X) (Expr X)) (l r : Toks) → (types_to spells n plainly).arguments x l r → is_none (types.arguments na ne x) ≡ is_none x
  held_kept zero x l r i = absurd i
  held_kept (suc n) x l r (some_arguments {x = y} i) = ap is_none (normal-AngleBracketed na ne y) ∙ ap none_layer (a.outs-AngleBracketed (types.angle na ne y)) ∙ sym (ap none_layer (a.outs-AngleBracketed y))

  segment_kept : (n : ℕ) (x : Segment) (l r : Toks) → IsSegment (types_to spells n) plainly expressions x l r → is_none (types.arguments na ne x.arguments) ≡ is_none x.arguments
  segment_kept n x l r (a_word h) = ap is_none (normal-None na ne)
  segment_kept n x l r (a_word_with_arguments {x = y} {l = k} h g j) = held_kept n y k r j

  segments_kept : (n : ℕ) (xs : List Segment) (cs : List Sep) (l r : Toks) → AreSegments (types_to spells n) plainly expressions xs cs l r → only is_none None (map (types.segment na ne) xs) ≡ only is_none None xs
  segments_kept n xs cs l r (none_left h) = absurd h
  segments_kept n xs cs l r (last_value {x = x} i) = ap (λ (b : Bool). if b then Some x.ident else None) (segment_kept n x l r i)
  segments_kept n xs cs l r (value_and_mark i j (none_left h)) = absurd h
  segments_kept n xs cs l r (value_and_mark i j (last_value k)) = refl
  segments_kept n xs cs l r (value_and_mark i j (value_and_mark k m rest)) = refl

  pub lone_kept : (n : ℕ) (q : Option (QSelf (Attr X) (Expr X))) (x : Path (Attr X) (Expr X)) (l r : Toks) → IsAnyPath (types_to spells n) plainly expressions q x l r → lone_word (types.optional_qself na ne q) (types.path na ne x) ≡ lone_word q x
  lone_kept n q x l r (unqualified (a_path {xs = xs} {cs = cs} absent i)) = segments_kept n xs cs l r i
  lone_kept n q x l r (unqualified (a_path (present c) i)) = refl
  lone_kept n q x l r (qualified i) = refl

-- ---- tuples

module _ {X : Type 0} where
  -- no comma is added to a list that is a tuple
  pub no_comma : (xs : List (Pat X)) (cs : List Comma) → is_tuple xs cs ≡ true → tuple_comma is_rest xs cs ≡ []
  no_comma [] cs h = refl
  no_comma (x ∷ []) [] h = ap (λ b. comma_unless b (x ∷ []) []) h
  no_comma (x ∷ []) (c ∷ cs) h = both (is_rest x)
    where
      both : (b : Bool) → comma_unless b (x ∷ []) (c ∷ cs) ≡ []
      both true = refl
      both false = refl
  no_comma (x ∷ y ∷ xs) cs h = both (is_rest x)
    where
      both : (b : Bool) → comma_unless b (x ∷ y ∷ xs) cs ≡ []
      both true = refl
      both false = refl

  pub tuple_kept : (f : Pat X → Pat X) → ((x : Pat X) → is_rest (f x) ≡ is_rest x) → (xs : List (Pat X)) (cs : List Comma) → is_tuple (map f xs) cs ≡ is_tuple xs cs
  tuple_kept f h [] cs = refl
  tuple_kept f h (x ∷ []) [] = h x
  tuple_kept f h (x ∷ []) (c ∷ cs) = refl
  tuple_kept f h (x ∷ y ∷ xs) cs = refl
