-- What stands within a form, on lists that are the same aside from spans; parts that may be missing, binders, and values after `=`.
use Rattle.std.proofs.Common.{◌≡◌, Bool, true, List, [], ◌∷◌, ◌++◌, Option, Some, None, length, map, option_map, refl, sym, ap, ap₂, ◌∙◌}
use Rattle.std.proofs.Math.ListN.{length-map}
use Rattle.token_core.specs.Tokens as token
use Rattle.token_core.specs.Toks.{Toks}
use Rattle.syn_forms.specs.declared.places.BoundPlace.{BoundPlace}
use Rattle.syn_forms.specs.declared.places.ParamPlace.{ParamPlace}
use Rattle.syn_forms.specs.declared.places.TypePlace.{TypePlace}
use Rattle.syn_forms.specs.declared.tokens.PointerMutability.{PointerMutability}
use Rattle.syn_forms.specs.declared.tokens.PointerMutability.TheVariants as u
use Rattle.syn_forms.specs.tokens.Spelling.{IsMutability, a_const, a_mut}
use Rattle.syn_ty.specs.declared.path.PathArgumentsOf.TheVariants as a
use Rattle.syn_ty.specs.generics.Parameters.{IsGiven, given}
use Rattle.syn_ty.specs.generics.Params.{bound_lifetimes_of}
use Rattle.syn_ty.specs.generics.Spelling.{IsBinder, a_binder}
use Rattle.syn_ty.specs.ty.Parts.{End, Parts, AreMarked, no_further, one_further}
use Rattle.syn_ty.specs.ty.Spelling.{Relation, IsOptional, absent, present}
use Rattle.syn_ty.specs.ty.Trees.{BoundLifetimes, GenericParam}
use Rattle.syn_path.specs.aside.Tokens as tokens
use Rattle.syn_laws.specs.aside.Types as free
use Rattle.syn_laws.proofs.aside_laws.Attrs.{Kept}
use Rattle.syn_path.proofs.aside_laws.Both.{cons_same, of5}
use Rattle.syn_path.proofs.aside_laws.Same.{Same, all_left, onward, Moved, Mover}
use Rattle.syn_path.proofs.aside_laws.Tokens.{MovedMany, listed_move, mark_moves, word_moves}

pub record Moving {A E : Type 0} (na : List A → List A) (ne : E → E) (p : Parts A E) : Type 0 where
  pub ty : (place : TypePlace) (e : End) → Mover (free.ty na ne) (p.ty place e)
  pub bound : (place : BoundPlace) (e : End) → Mover (free.bound na ne) (p.bound place e)
  pub param : (place : ParamPlace) → Mover (free.param na ne) (p.param place)
  pub argument : Mover (free.argument na ne) p.argument
  pub arguments : Mover (free.arguments na ne) p.arguments
  pub angle : Mover (free.angle na ne) (λ x. p.arguments (a.AngleBracketed x))
  pub attrs : Mover na p.attrs
  pub len : (x : E) (l m : Toks) → p.len x l → Same l m → Kept ne p.len x m
  pub const_argument : Mover ne p.const_argument
  pub const_default : Mover ne p.const_default

-- ---- one value

module _ {A : Type 0} (fr : A → A) {V : A → Toks → Toks → Type 0} where
  pub optional_moves : {x : Option A} {l r m : Toks} → IsOptional V x l r → Same l m → Mover fr V → Moved (option_map fr) (IsOptional V) x r m
  optional_moves absent s f = record { tree = None; rest = _; is = absent; same = refl; on = s; part = all_left }
  optional_moves (present i) s f = let q = f _ _ _ _ i s in record { tree = Some q.tree; rest = q.rest; is = present q.is; same = ap Some q.same; on = q.on; part = q.part }

  pub given_moves : {x : token.Equals × A} {l r m : Toks} → IsGiven true V x l r → Same l m → Mover fr V → Moved (free.given fr) (IsGiven true V) x r m
  given_moves (given i j) s f =
      let a = mark_moves i s in
      let b = f _ _ _ _ j a.on in
      record { tree = (a.tree, b.tree); rest = b.rest; is = given a.is b.is; same = ap₂ (λ (x : token.Equals) (y : A). (x, y)) a.same b.same; on = b.on; part = onward b.part a.part }

pub mutability_moves : {x : PointerMutability} {l r m : Toks} → IsMutability x l r → Same l m → Moved free.mutability IsMutability x r m
mutability_moves (a_const i) s = let q = word_moves i s in record { tree = u.Const q.tree; rest = q.rest; is = a_const q.is; same = ap u.Const q.same; on = q.on; part = q.part }
mutability_moves (a_mut i) s = let q = word_moves i s in record { tree = u.Mut q.tree; rest = q.rest; is = a_mut q.is; same = ap u.Mut q.same; on = q.on; part = q.part }

-- ---- values of which each has its mark

module _ {A P : Type 0} (free_value : A → A) (free_mark : P → P) {V : Bool → A → Toks → Toks → Type 0} {M : P → Toks → Toks → Type 0} where
  pub marked_move : {first : Bool} {xs : List A} {ps : List P} {l r m : Toks} → AreMarked V M first xs ps l r → Same l m → ((b : Bool) → Mover free_value (V b)) → Mover free_mark M →
      MovedMany free_value free_mark (AreMarked V M first) xs ps r m
  marked_move no_further s f g = record { values = []; marks = []; rest = _; is = no_further; same = refl; same_marks = refl; on = s; part = all_left }
  marked_move (one_further i j k) s f g =
      let q = f _ _ _ _ _ i s in
      let p = g _ _ _ _ j q.on in
      let t = marked_move k p.on f g in
      record {
        values = q.tree ∷ t.values;
        marks = p.tree ∷ t.marks;
        rest = t.rest;
        is = one_further q.is p.is t.is;
        same = cons_same q.same t.same;
        same_marks = cons_same p.same t.same_marks;
        on = t.on;
        part = onward t.part (onward p.part q.part);
      }

-- ---- a binder

module _ {A E : Type 0} (na : List A → List A) (ne : E → E) {V : Relation (GenericParam A E)} where
  pub binder_moves : {x : BoundLifetimes A E} {l r m : Toks} → IsBinder true V x l r → Same l m → Mover (free.param na ne) V → Moved (free.bound_lifetimes na ne) (IsBinder true V) x r m
  binder_moves (a_binder i j k g) s f =
      let a = word_moves i s in
      let b = mark_moves j a.on in
      let t = listed_move (free.param na ne) tokens.mark k b.on (λ b. f) (λ x l r m. mark_moves) in
      let c = mark_moves g t.on in
      record {
        tree = bound_lifetimes_of a.tree b.tree (t.values, t.marks) c.tree;
        rest = c.rest;
        is = a_binder a.is b.is t.is c.is;
        same = of5 (λ a b v w c. bound_lifetimes_of a b (v, w) c) a.same b.same t.same t.same_marks c.same;
        on = c.on;
        part = onward c.part (onward t.part (onward b.part a.part));
      }

-- ---- lists, one after the other

pub map_onto : {A B : Type 0} (f : A → B) (l k : List A) → map f (l ++ k) ≡ map f l ++ map f k
map_onto f [] k = refl
map_onto f (x ∷ l) k = ap (λ z. f x ∷ z) (map_onto f l k)

pub onto_same : {A : Type 0} (f : A → A) (l k m n : List A) → map f l ≡ map f m → map f k ≡ map f n → map f (l ++ k) ≡ map f (m ++ n)
onto_same f l k m n e h = map_onto f l k ∙ ap₂ (λ (x y : List _). x ++ y) e h ∙ sym (map_onto f m n)

pub as_long : {A : Type 0} (f : A → A) (l m : List A) → map f l ≡ map f m → length l ≡ length m
as_long f l m e = sym (length-map l f) ∙ ap length e ∙ length-map m f
