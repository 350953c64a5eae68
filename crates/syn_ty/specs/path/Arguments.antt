-- Which lists a generic argument spells, over the types that may begin it.
use Rattle.std.specs.Prelude.{◌≡◌, Bool, true, List, Option, Some, None}
use Rattle.token_core.specs.declared.lifetime.Lifetime.{Lifetime}
use Rattle.token_core.specs.declared.tree.Ident.{Ident}
use Rattle.token_core.specs.Listed.{Anywhere, Nowhere}
use Rattle.token_core.specs.Spellings.{IsMark, IsLifetime}
use Rattle.token_core.specs.Toks.{Toks, word}
use Rattle.syn_path.specs.path.Spelling.{is_mod_word}
use Rattle.syn_forms.specs.declared.places.BoundPlace.TheVariants.{Parameter}
use Rattle.syn_forms.specs.declared.places.TypePlace.TheVariants.{Plus}
use Rattle.syn_forms.specs.paths.Reading.{is_named_word}
use Rattle.syn_ty.specs.declared.path.GenericArgumentOf.TheVariants as k
use Rattle.syn_ty.specs.declared.path.PathArgumentsOf.TheVariants as a
use Rattle.syn_ty.specs.generics.Bounds.{AreBounds}
use Rattle.syn_ty.specs.path.Paths.{assoc_const_of, assoc_type_of, constraint_of}
use Rattle.syn_ty.specs.ty.Parts.{Manner, is_clear, End, Parts}
use Rattle.syn_ty.specs.ty.Spelling.{Relation}
use Rattle.syn_ty.specs.ty.Trees.{AngleBracketed, GenericArgument, TypeParamBound, TypeTree}
use Rattle.token_core.specs.Tokens as token

-- Where an argument stands: alone, or between angle marks.
pub data ArgumentPlace : Type 0 where
  alone : ArgumentPlace
  between_angles : ArgumentPlace

-- where the bounds of an associated type may end without a bound: alone they are not empty, and the last has no `+`
abbrev pub ConstraintEnds : ArgumentPlace → Bool → Type 0
ConstraintEnds alone = Nowhere
ConstraintEnds between_angles = Anywhere

-- types with plus as they stand where the argument does are spelt by the first relation
module _ {A E : Type 0} (first : End → Relation (TypeTree A E)) (part : Manner → Parts A E) (how : Manner) where
  -- the name of an associated item: a word of mod style, of which an `Ident` and `Self` may have arguments in angle brackets
  pub data IsItemName : Ident → Option (AngleBracketed A E) → Toks → Toks → Type 0 where
    an_item : {i : Ident} {r : Toks} → is_mod_word i.text ≡ true → IsItemName i None (word i r) r
    an_item_with_arguments : {i : Ident} {x : AngleBracketed A E} {l r : Toks} → is_named_word i.text ≡ true → (part how).arguments (a.AngleBracketed x) l r → IsItemName i (Some x) (word i l) r

  pub data IsArgument (place : ArgumentPlace) : GenericArgument A E → Toks → Toks → Type 0 where
    a_lifetime_argument : {x : Lifetime} {l r : Toks} → IsLifetime x l r → IsArgument place (k.Lifetime x) l r
    a_type_argument : {e : End} {x : TypeTree A E} {l r : Toks} → first e x l r → IsArgument place (k.«Type» x) l r
    a_const_argument : {x : E} {l r : Toks} → (part how).const_argument x l r → IsArgument place (k.Const x) l r
    an_assoc_type : {i : Ident} {o : Option (AngleBracketed A E)} {q : token.Equals} {e : End} {x : TypeTree A E} {l m n r : Toks} →
        IsItemName i o l m → IsMark (is_clear how) q m n → (part how).ty Plus e x n r → IsArgument place (k.AssocType (assoc_type_of i o q x)) l r
    an_assoc_const : {i : Ident} {o : Option (AngleBracketed A E)} {q : token.Equals} {x : E} {l m n r : Toks} →
        IsItemName i o l m → IsMark (is_clear how) q m n → (part how).const_argument x n r → IsArgument place (k.AssocConst (assoc_const_of i o q x)) l r
    a_constraint : {i : Ident} {o : Option (AngleBracketed A E)} {c : token.Colon} {e : End} {xs : List (TypeParamBound A E)} {ps : List token.Plus} {l m n r : Toks} →
        IsItemName i o l m → IsMark (is_clear how) c m n → AreBounds part how Parameter (ConstraintEnds place) true e xs ps n r → IsArgument place (k.Constraint (constraint_of i o c (xs, ps))) l r
