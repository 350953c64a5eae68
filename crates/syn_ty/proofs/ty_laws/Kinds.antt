-- Questions about bounds and types that were read, case by case.
use Rattle.std.proofs.Common.{◌≡◌, if◌then◌else◌, Bool, true, false, List, [], ◌∷◌, ◌++◌, Option, Some, None, Ok, refl, ap}
use Rattle.std.specs.Prelude.{slice_get}
use Rattle.syn_ty.proofs.ty_laws.words.Tokens.{Lifetime, Paren, TokenStream, Many, pure, Stream}
use Rattle.syn_ty.proofs.ty_laws.words.Forms.{plus_follows}
use Rattle.syn_ty.proofs.ty_laws.words.Types.{PreciseCapture, TypeInferOf, TypeMacroOf, TypeNeverOf, TypeOf, out-TypePathOf, held_bound, Readers, as_path, first_bound, trait_layer, unqualified_layer, TypeParamBound, TypeTree, paren_of}
use Rattle.syn_ty.specs.declared.generics.TraitBoundOf.{TraitBoundOf}
use Rattle.syn_ty.specs.declared.generics.TypeParamBoundOf.{TypeParamBoundOf, out-TypeParamBoundOf}
use Rattle.syn_ty.specs.declared.generics.TypeParamBoundOf.TheVariants as b
use Rattle.syn_ty.specs.declared.ty.TypeArrayOf.{TypeArrayOf}
use Rattle.syn_ty.specs.declared.ty.TypeFnPtrOf.{TypeFnPtrOf}
use Rattle.syn_ty.specs.declared.ty.TypeGroupOf.{TypeGroupOf}
use Rattle.syn_ty.specs.declared.ty.TypeImplTraitOf.{TypeImplTraitOf}
use Rattle.syn_ty.specs.declared.ty.TypeOf.TheVariants as t
use Rattle.syn_ty.specs.declared.ty.TypeParenOf.{TypeParenOf}
use Rattle.syn_ty.specs.declared.ty.TypePathOf.{TypePathOf}
use Rattle.syn_ty.specs.declared.ty.TypePtrOf.{TypePtrOf}
use Rattle.syn_ty.specs.declared.ty.TypeReferenceOf.{TypeReferenceOf}
use Rattle.syn_ty.specs.declared.ty.TypeSliceOf.{TypeSliceOf}
use Rattle.syn_ty.specs.declared.ty.TypeTraitObjectOf.{TypeTraitObjectOf}
use Rattle.syn_ty.specs.declared.ty.TypeTupleOf.{TypeTupleOf}
use Rattle.syn_ty.specs.ty.Reading.{each_object_from, first_bound_layer, held_in, held_layer, is_lone, lone_bound, paren_or_object, path_layer}
use Rattle.token_core.specs.Lists.{put_last}
use Rattle.token_core.specs.Tokens as token

-- ---- bounds

module _ (A E : Type 0) where
  pub trait-Lifetime : (x : Lifetime) → trait_layer (out-TypeParamBoundOf A E (b.Lifetime x)) ≡ false
  trait-Lifetime x = ap (trait_layer {A = A} {E = E}) (b.outs-Lifetime x)

  pub trait-PreciseCapture : (x : PreciseCapture) → trait_layer (out-TypeParamBoundOf A E (b.PreciseCapture x)) ≡ false
  trait-PreciseCapture x = ap (trait_layer {A = A} {E = E}) (b.outs-PreciseCapture x)

  pub trait-Verbatim : (x : TokenStream) → trait_layer (out-TypeParamBoundOf A E (b.Verbatim x)) ≡ false
  trait-Verbatim x = ap (trait_layer {A = A} {E = E}) (b.outs-Verbatim x)

  pub trait-Trait : (x : TraitBoundOf A E) → trait_layer (out-TypeParamBoundOf A E (b.Trait x)) ≡ true
  trait-Trait x = ap trait_layer (b.outs-Trait x)

pub ruleset bound_kinds = (trait-Trait, trait-Lifetime, trait-PreciseCapture, trait-Verbatim)

module _ (A E : Type 0) (p : Paren) where
  pub held-Lifetime : (x : Lifetime) → held_in {A = A} {E = E} p (b.Lifetime x) ≡ b.Lifetime x
  held-Lifetime x = ap (held_layer {A = A} {E = E} p (b.Lifetime x)) (b.outs-Lifetime x)

  pub held-PreciseCapture : (x : PreciseCapture) → held_in {A = A} {E = E} p (b.PreciseCapture x) ≡ b.PreciseCapture x
  held-PreciseCapture x = ap (held_layer {A = A} {E = E} p (b.PreciseCapture x)) (b.outs-PreciseCapture x)

  pub held-Verbatim : (x : TokenStream) → held_in {A = A} {E = E} p (b.Verbatim x) ≡ b.Verbatim x
  held-Verbatim x = ap (held_layer {A = A} {E = E} p (b.Verbatim x)) (b.outs-Verbatim x)

  pub held-Trait : (x : TraitBoundOf A E) → held_in p (b.Trait x) ≡ b.Trait (held_bound p x)
  held-Trait x = ap (held_layer p (b.Trait x)) (b.outs-Trait x)

pub ruleset held_kinds = (held-Trait, held-Lifetime, held-PreciseCapture, held-Verbatim)

-- ---- a lone bound

module _ {A E : Type 0} where
  -- by the first value, the second one and the first mark
  abbrev pub lone_by : Option token.Dyn → Option (TypeParamBound A E) → Option (TypeParamBound A E) → Option token.Plus → Bool
  lone_by None (Some x) None None = true
  lone_by None (Some x) None (Some m) = false
  lone_by None (Some x) (Some y) m = false
  lone_by None None y m = false
  lone_by (Some w) x y m = false

  pub lone_parts : (d : Option token.Dyn) (v : Many (TypeParamBound A E) token.Plus) → is_lone d v ≡ lone_by d (slice_get v.0 0) (slice_get v.0 1) (slice_get v.1 0)
  lone_parts (Some w) v = refl
  lone_parts None ([], ms) = refl
  lone_parts None (x ∷ [], []) = refl
  lone_parts None (x ∷ [], m ∷ ms) = refl
  lone_parts None (x ∷ y ∷ l, ms) = refl

pub ruleset lone_kinds = (lone_parts)

module _ {A E : Type 0} (p : Paren) where
  -- it is the last one
  pub lone_popped : (d : Option token.Dyn) (v w : Many (TypeParamBound A E) token.Plus) (x : TypeParamBound A E × Option token.Plus) → is_lone d v ≡ true → v ≡ put_last w x → lone_bound p d v ≡ Some (held_in p x.0)
  lone_popped (Some k) v w x h e = cc
  lone_popped None ([], ms) w x h e = cc
  lone_popped None (y ∷ z ∷ l, ms) w x h e = cc
  lone_popped None (y ∷ [], m ∷ ms) w x h e = cc
  lone_popped None (y ∷ [], []) ([], ns) x h e =
      let f : y ∷ [] ≡ x.0 ∷ [] = ap (λ z. z.0) e in
      let g : y ≡ x.0 = cc in
      ap (λ z. Some (held_in p z)) g
  lone_popped None (y ∷ [], []) (u ∷ us, ns) x h e =
      let f : y ∷ [] ≡ u ∷ (us ++ x.0 ∷ []) = ap (λ z. z.0) e in
      let g : [] ≡ us ++ x.0 ∷ [] = cc in
      no_more us x.0 g
    where
      no_more : (us : List (TypeParamBound A E)) (z : TypeParamBound A E) → [] ≡ us ++ z ∷ [] → lone_bound p None (y ∷ [], []) ≡ Some (held_in p z)
      no_more [] z g = cc
      no_more (v ∷ vs) z g = cc

  pub not_lone : (d : Option token.Dyn) (v : Many (TypeParamBound A E) token.Plus) → is_lone d v ≡ false → lone_bound p d v ≡ None
  not_lone (Some k) v h = refl
  not_lone None ([], ms) h = refl
  not_lone None (y ∷ z ∷ l, ms) h = refl
  not_lone None (y ∷ [], m ∷ ms) h = refl
  not_lone None (y ∷ [], []) h = cc

pub ruleset lone_bounds = (lone_popped, not_lone)

-- ---- types

module _ (A E : Type 0) (p : Paren) where
  pub first-Array : (x : TypeArrayOf (TypeOf A E) A E) → first_bound {A = A} {E = E} p (t.Array x) ≡ None
  first-Array x = ap (first_bound_layer {A = A} {E = E} p) (t.outs-Array x)

  pub first-FnPtr : (x : TypeFnPtrOf A E) → first_bound {A = A} {E = E} p (t.FnPtr x) ≡ None
  first-FnPtr x = ap (first_bound_layer {A = A} {E = E} p) (t.outs-FnPtr x)

  pub first-Group : (x : TypeGroupOf (TypeOf A E) A) → first_bound {A = A} {E = E} p (t.Group x) ≡ None
  first-Group x = ap (first_bound_layer {A = A} {E = E} p) (t.outs-Group x)

  pub first-ImplTrait : (x : TypeImplTraitOf (TypeParamBoundOf A E) A) → first_bound {A = A} {E = E} p (t.ImplTrait x) ≡ None
  first-ImplTrait x = ap (first_bound_layer {A = A} {E = E} p) (t.outs-ImplTrait x)

  pub first-Infer : (x : TypeInferOf A) → first_bound {A = A} {E = E} p (t.Infer x) ≡ None
  first-Infer x = ap (first_bound_layer {A = A} {E = E} p) (t.outs-Infer x)

  pub first-Macro : (x : TypeMacroOf A) → first_bound {A = A} {E = E} p (t.Macro x) ≡ None
  first-Macro x = ap (first_bound_layer {A = A} {E = E} p) (t.outs-Macro x)

  pub first-Never : (x : TypeNeverOf A) → first_bound {A = A} {E = E} p (t.Never x) ≡ None
  first-Never x = ap (first_bound_layer {A = A} {E = E} p) (t.outs-Never x)

  pub first-Paren : (x : TypeParenOf (TypeOf A E) A) → first_bound {A = A} {E = E} p (t.Paren x) ≡ None
  first-Paren x = ap (first_bound_layer {A = A} {E = E} p) (t.outs-Paren x)

  pub first-Ptr : (x : TypePtrOf (TypeOf A E) A) → first_bound {A = A} {E = E} p (t.Ptr x) ≡ None
  first-Ptr x = ap (first_bound_layer {A = A} {E = E} p) (t.outs-Ptr x)

  pub first-Reference : (x : TypeReferenceOf (TypeOf A E) A) → first_bound {A = A} {E = E} p (t.Reference x) ≡ None
  first-Reference x = ap (first_bound_layer {A = A} {E = E} p) (t.outs-Reference x)

  pub first-Slice : (x : TypeSliceOf (TypeOf A E) A) → first_bound {A = A} {E = E} p (t.Slice x) ≡ None
  first-Slice x = ap (first_bound_layer {A = A} {E = E} p) (t.outs-Slice x)

  pub first-Tuple : (x : TypeTupleOf (TypeOf A E) A) → first_bound {A = A} {E = E} p (t.Tuple x) ≡ None
  first-Tuple x = ap (first_bound_layer {A = A} {E = E} p) (t.outs-Tuple x)

  pub first-Verbatim : (x : TokenStream) → first_bound {A = A} {E = E} p (t.Verbatim x) ≡ None
  first-Verbatim x = ap (first_bound_layer {A = A} {E = E} p) (t.outs-Verbatim x)

  pub first-TraitObject : (x : TypeTraitObjectOf (TypeParamBoundOf A E) A) → first_bound {A = A} {E = E} p (t.TraitObject x) ≡ lone_bound p x.dyn_token x.bounds
  first-TraitObject x = ap (first_bound_layer {A = A} {E = E} p) (t.outs-TraitObject x)

  pub first-Path : (x : TypePathOf A E) → first_bound {A = A} {E = E} p (t.Path x) ≡ unqualified_layer p (out-TypePathOf A E x)
  first-Path x = ap (first_bound_layer {A = A} {E = E} p) (t.outs-Path x)

pub ruleset first_bounds = (first-Array, first-FnPtr, first-Group, first-ImplTrait, first-Infer, first-Macro, first-Never, first-Paren, first-Ptr, first-Reference, first-Slice, first-Tuple, first-Verbatim, first-TraitObject, first-Path)

module _ (A E : Type 0) where
  pub path-Array : (x : TypeArrayOf (TypeOf A E) A E) → as_path {A = A} {E = E} (t.Array x) ≡ None
  path-Array x = ap (path_layer {A = A} {E = E}) (t.outs-Array x)

  pub path-FnPtr : (x : TypeFnPtrOf A E) → as_path {A = A} {E = E} (t.FnPtr x) ≡ None
  path-FnPtr x = ap (path_layer {A = A} {E = E}) (t.outs-FnPtr x)

  pub path-Group : (x : TypeGroupOf (TypeOf A E) A) → as_path {A = A} {E = E} (t.Group x) ≡ None
  path-Group x = ap (path_layer {A = A} {E = E}) (t.outs-Group x)

  pub path-ImplTrait : (x : TypeImplTraitOf (TypeParamBoundOf A E) A) → as_path {A = A} {E = E} (t.ImplTrait x) ≡ None
  path-ImplTrait x = ap (path_layer {A = A} {E = E}) (t.outs-ImplTrait x)

  pub path-Infer : (x : TypeInferOf A) → as_path {A = A} {E = E} (t.Infer x) ≡ None
  path-Infer x = ap (path_layer {A = A} {E = E}) (t.outs-Infer x)

  pub path-Macro : (x : TypeMacroOf A) → as_path {A = A} {E = E} (t.Macro x) ≡ None
  path-Macro x = ap (path_layer {A = A} {E = E}) (t.outs-Macro x)

  pub path-Never : (x : TypeNeverOf A) → as_path {A = A} {E = E} (t.Never x) ≡ None
  path-Never x = ap (path_layer {A = A} {E = E}) (t.outs-Never x)

  pub path-Paren : (x : TypeParenOf (TypeOf A E) A) → as_path {A = A} {E = E} (t.Paren x) ≡ None
  path-Paren x = ap (path_layer {A = A} {E = E}) (t.outs-Paren x)

  pub path-Ptr : (x : TypePtrOf (TypeOf A E) A) → as_path {A = A} {E = E} (t.Ptr x) ≡ None
  path-Ptr x = ap (path_layer {A = A} {E = E}) (t.outs-Ptr x)

  pub path-Reference : (x : TypeReferenceOf (TypeOf A E) A) → as_path {A = A} {E = E} (t.Reference x) ≡ None
  path-Reference x = ap (path_layer {A = A} {E = E}) (t.outs-Reference x)

  pub path-Slice : (x : TypeSliceOf (TypeOf A E) A) → as_path {A = A} {E = E} (t.Slice x) ≡ None
  path-Slice x = ap (path_layer {A = A} {E = E}) (t.outs-Slice x)

  pub path-Tuple : (x : TypeTupleOf (TypeOf A E) A) → as_path {A = A} {E = E} (t.Tuple x) ≡ None
  path-Tuple x = ap (path_layer {A = A} {E = E}) (t.outs-Tuple x)

  pub path-Verbatim : (x : TokenStream) → as_path {A = A} {E = E} (t.Verbatim x) ≡ None
  path-Verbatim x = ap (path_layer {A = A} {E = E}) (t.outs-Verbatim x)

  pub path-TraitObject : (x : TypeTraitObjectOf (TypeParamBoundOf A E) A) → as_path {A = A} {E = E} (t.TraitObject x) ≡ None
  path-TraitObject x = ap (path_layer {A = A} {E = E}) (t.outs-TraitObject x)

  pub path-Path : (x : TypePathOf A E) → as_path {A = A} {E = E} (t.Path x) ≡ Some x
  path-Path x = ap (path_layer {A = A} {E = E}) (t.outs-Path x)

pub ruleset type_paths = (path-Array, path-FnPtr, path-Group, path-ImplTrait, path-Infer, path-Macro, path-Never, path-Paren, path-Ptr, path-Reference, path-Slice, path-Tuple, path-Verbatim, path-TraitObject, path-Path)

-- ---- a type in parentheses that no plus follows

pub no_plus : {A E : Type 0} (r : Readers A E) (plus : Bool) (p : Paren) (x : TypeTree A E) (o : Option (TypeParamBound A E)) (s : Stream) → plus_follows plus s.rest ≡ false → paren_or_object r plus p x o s ≡ Ok (t.Paren (paren_of p x), s)
no_plus r plus p x None s h = refl
no_plus r plus p x (Some y) s h = ap (λ (goes : Bool). (if goes then each_object_from r y else pure (t.Paren (paren_of p x))) s) h

pub ruleset parens = (no_plus)
