-- Each reader of this layer on the front of a list without invisible groups: where it answers, what was taken is spelt by the whole grammar, by trees of some height.
use Rattle.std.proofs.Common.{◌≡◌, ℕ, suc, ◌<◌, ◌≤◌, Bool, false, List, [], Option, Some, None, Ok, refl, subst, arith}
use Rattle.syn_ty.proofs.ty_laws.words.Tokens.{DelimSpan, sees_invisible, Reader, closing, leaves, Visible, Stream, Toks}
use Rattle.syn_ty.proofs.ty_laws.words.Paths.{PathStyle, AsWritten, ReadValues, SpelledValues}
use Rattle.syn_ty.proofs.ty_laws.words.Forms.{BoundPlace, Object, Opaque, ParamPlace, Binder, TypePlace, Plus, NoPlus, in_invisible, sees_name, ahead, allows_plus}
use Rattle.syn_ty.proofs.ty_laws.words.Types.{IsBound, IsFor, IsTraitBound, IsConstParam, IsParam, IsTypeParam, alone, between_angles, IsArgument, IsParens, IsReturn, IsAngle, IsPath, IsSegment, IsBorrow, IsBracketed, IsCounted, IsEnclosed, IsPointer, IsTupled, IsType, IsFnPtr, IsNamedArg, reads_below, IsImpl, IsObject, Manner, loosely, Parts, Readers, a_bound, a_param, a_type, an_argument, IsOptional, IsPathAlone, spelt_to, AngleBracketed, BoundLifetimes, ConstParam, GenericArgument, GenericParam, NamedArg, Parenthesized, Path, PathSegment, QSelf, ReturnType, TraitBound, TypeArray, TypeFnPtr, TypeGroup, TypeImplTrait, TypeParam, TypeParamBound, TypeParen, TypePath, TypePtr, TypeReference, TypeSlice, TypeTraitObject, TypeTree, TypeTuple}
use Rattle.token_core.specs.Groups.{invisible_at, is_there, next_invisible, open_invisible}
use Rattle.token_core.proofs.Took.{mapped}
use Rattle.token_core.proofs.Turns.{chain}
use Rattle.syn_path.proofs.Words.{TookOne}
use Rattle.syn_forms.proofs.nested_laws.Ahead.{ahead_follows}
use Rattle.syn_forms.proofs.tokens_laws.Fronts.{took_whole}
use Rattle.syn_ty.specs.path.Alone as paths
use Rattle.syn_ty.specs.ty.Knot as knot
use Rattle.syn_ty.specs.ty.Reading as reading
use Rattle.syn_ty.specs.ty.Spelt.{BeginsEnding, Spells, SpellsEnding}
use Rattle.syn_ty.specs.ty.Types.{group_with}
use Rattle.syn_ty.proofs.ty_laws.sound.AlongTypes.{optional_dyn_along}
use Rattle.syn_ty.proofs.ty_laws.sound.Angles as angles
use Rattle.syn_ty.proofs.ty_laws.sound.Dyn as dyns
use Rattle.syn_ty.proofs.ty_laws.sound.Functions as functions
use Rattle.syn_ty.proofs.ty_laws.Given.{Given, supplied}
use Rattle.syn_ty.proofs.ty_laws.sound.Groups as groups
use Rattle.syn_ty.proofs.ty_laws.sound.Heights as heights
use Rattle.syn_ty.proofs.ty_laws.Knot.{turn}
use Rattle.syn_ty.proofs.ty_laws.sound.Knot.{alone_turned, at_told, by_turns, held_below, twice}
use Rattle.syn_ty.proofs.ty_laws.sound.Objects as objects
use Rattle.syn_ty.proofs.ty_laws.sound.Params as params
use Rattle.syn_ty.proofs.ty_laws.sound.Paths as of_paths
use Rattle.syn_ty.proofs.ty_laws.sound.Signed as signed
use Rattle.syn_ty.proofs.ty_laws.sound.Forms as told
use Rattle.syn_ty.proofs.ty_laws.sound.Forms.{Told}
use Rattle.syn_ty.proofs.ty_laws.sound.Traits as traits
use Rattle.syn_ty.proofs.ty_laws.sound.TypePaths as type_paths
use Rattle.syn_ty.proofs.ty_laws.sound.Types.{none_invisible}
use Rattle.syn_ty.proofs.ty_laws.sound.Within.{Held, Supplied}
use Rattle.syn_ty.specs.ty.Fronts as fronts
pub use Rattle.syn_ty.specs.ty.Fronts.{Form, EndingForm, Front, FrontEnding}

-- ---- by trees of some height

module _ {A E : Type 0} (shown : Bool → List A → Toks → Toks → Type 0) (spelt : SpelledValues E) where
  pub front : {F : Type 0} (Is : Form shown spelt F) (n : ℕ) (s t : Stream) (x : F) → TookOne (Is (spelt_to shown spelt n) loosely) s t x → TookOne (Front shown spelt Is) s t x
  front Is n s t x k = record { left = k.left; seen = k.seen; spelt = λ h. (n, k.spelt h) }

  ending : {F : Type 0} (Is : EndingForm shown spelt F) (n : ℕ) (s t : Stream) (x : F) → TookOne (Told (Is (spelt_to shown spelt n) loosely)) s t x → TookOne (FrontEnding shown spelt Is) s t x
  ending Is n s t x k = record { left = k.left; seen = k.seen; spelt = λ h. (n, k.spelt h) }

  -- however it ends
  pub begun_ending : {F : Type 0} (Is : EndingForm shown spelt F) (s t : Stream) (x : F) → TookOne (FrontEnding shown spelt Is) s t x → TookOne (BeginsEnding shown spelt Is loosely) s t x
  begun_ending Is s t x k = record { left = k.left; seen = k.seen; spelt = λ h. let i = k.spelt h in (i.0, i.1.0, i.1.1) }

  -- where nothing is left over in the end, all of a list
  pub all_of : {F : Type 0} (Is : Form shown spelt F) (s t : Stream) (x : F) → TookOne (Front shown spelt Is) s t x → leaves t ≡ None → Spells shown spelt Is loosely x s.rest
  all_of Is s t x k h = took_whole {Is = Front shown spelt Is} s t x k h

  pub all_ending : {F : Type 0} (Is : EndingForm shown spelt F) (s t : Stream) (x : F) → TookOne (FrontEnding shown spelt Is) s t x → leaves t ≡ None → SpellsEnding shown spelt Is loosely x s.rest
  all_ending Is s t x k h = took_whole {Is = BeginsEnding shown spelt Is loosely} s t x (begun_ending Is s t x k) h

-- ---- an invisible group stands on no list that is without them

not_there : (s t : Stream) (o : Option (DelimSpan × Toks × Toks)) (y : DelimSpan × Stream) → is_there o ≡ false → invisible_at s o ≡ Ok (y, t) → ⊥
not_there s t None y h e = cc
not_there s t (Some p) y h e = cc

module _ {A E : Type 0} {attrs : Reader (List A)} {values : ReadValues E} {shown : Bool → List A → Toks → Toks → Type 0} {spelt : SpelledValues E} (g : Given attrs values shown spelt) where
  abbrev To : ℕ → Manner → Parts A E
  To = spelt_to shown spelt

  -- so many turns
  abbrev pub turns : ℕ → Manner → Parts A E
  turns m = To (suc (twice m))

  pub given : (m : ℕ) → Supplied attrs values (turns m)
  given m = supplied attrs values shown spelt g (twice m)

  pub below : (limit m : ℕ) → limit ≤ m → Held (reads_below attrs values limit) (turns m)
  below = held_below attrs values shown spelt (supplied attrs values shown spelt g)

  -- what a form holds is read below what is left where the form begins
  abbrev within : Stream → Readers A E
  within s = reads_below attrs values (ahead s)

  abbrev pub part : Stream → Manner → Parts A E
  part s = turns (ahead s)

  pub here : (s : Stream) → Held (within s) (part s)
  here s = below (ahead s) (ahead s) (omega arith)

  -- ---- types, bounds, parameters and arguments, by as many turns as are enough

  pub type_by : (m : ℕ) (place : TypePlace) (s t : Stream) (x : TypeTree A E) → ahead s < m → Visible s.rest → knot.ty attrs values place s ≡ Ok (x, t) → TookOne (Told ((turns m loosely).ty place)) s t x
  type_by m place s t x h v e =
      let known = supplied attrs values shown spelt g in
      (at_told attrs values shown spelt known m).ty place s t x v (by_turns attrs values shown spelt known m (a_type place) s t x h e)

  bound_by : (m : ℕ) (place : BoundPlace) (s t : Stream) (x : TypeParamBound A E) → ahead s < m → Visible s.rest → knot.bound attrs values place s ≡ Ok (x, t) → TookOne (Told ((turns m loosely).bound place)) s t x
  bound_by m place s t x h v e =
      let known = supplied attrs values shown spelt g in
      (at_told attrs values shown spelt known m).bound place s t x v (by_turns attrs values shown spelt known m (a_bound place) s t x h e)

  -- one turn more than is left
  abbrev pub enough : Stream → ℕ
  enough s = twice (suc (ahead s))

  pub ty_took : (place : TypePlace) (s t : Stream) (x : TypeTree A E) → Visible s.rest → knot.ty attrs values place s ≡ Ok (x, t) → TookOne (FrontEnding shown spelt (λ part how. IsType part how place)) s t x
  ty_took place s t x v e = ending shown spelt (λ part how. IsType part how place) (enough s) s t x (type_by (suc (ahead s)) place s t x (omega arith) v e)

  pub bound_took : (place : BoundPlace) (s t : Stream) (x : TypeParamBound A E) → Visible s.rest → knot.bound attrs values place s ≡ Ok (x, t) → TookOne (FrontEnding shown spelt (λ part how. IsBound part how place)) s t x
  bound_took place s t x v e = ending shown spelt (λ part how. IsBound part how place) (enough s) s t x (bound_by (suc (ahead s)) place s t x (omega arith) v e)

  pub param_took : (place : ParamPlace) (s t : Stream) (x : GenericParam A E) → Visible s.rest → knot.param attrs values place s ≡ Ok (x, t) → TookOne (Front shown spelt (λ part how. IsParam part how place)) s t x
  param_took place s t x v e =
      let known = supplied attrs values shown spelt g in
      front shown spelt (λ part how. IsParam part how place) (enough s) s t x
      ((at_told attrs values shown spelt known (suc (ahead s))).param place s t x v (by_turns attrs values shown spelt known (suc (ahead s)) (a_param place) s t x (omega arith) e))

  -- between angle marks
  pub argument_took : (s t : Stream) (x : GenericArgument A E) → Visible s.rest → knot.argument attrs values s ≡ Ok (x, t) → TookOne (Front shown spelt (λ part how. IsArgument (IsType part how Plus) part how between_angles)) s t x
  argument_took s t x v e =
      let known = supplied attrs values shown spelt g in
      front shown spelt (λ part how. IsArgument (IsType part how Plus) part how between_angles) (enough s) s t x
      ((at_told attrs values shown spelt known (suc (ahead s))).argument s t x v (by_turns attrs values shown spelt known (suc (ahead s)) an_argument s t x (omega arith) e))

  -- alone, all of a list
  pub argument_alone : (s t : Stream) (x : GenericArgument A E) → Visible s.rest → knot.argument attrs values s ≡ Ok (x, t) → leaves t ≡ None → Spells shown spelt (λ part how. IsArgument (IsType part how Plus) part how alone) loosely x s.rest
  argument_alone s t x v e c =
      (enough s, alone_turned shown spelt (twice (ahead s)) attrs values (within s) (here s) (given (ahead s)) s t x v (subst (λ z. z ≡ Ok (x, t)) (turn attrs values an_argument s) e) c)

  -- ---- paths

  abbrev pub height : Stream → ℕ
  height s = suc (twice (ahead s))

  pub path_took : (style : PathStyle) (s t : Stream) (x : Path A E) → Visible s.rest → knot.path attrs values style s ≡ Ok (x, t) → TookOne (Front shown spelt (λ part how. IsPath part how style)) s t x
  unfolding knot.path
  path_took style s t x v e = front shown spelt (λ part how. IsPath part how style) (height s) s t x (of_paths.path_took (within s) (part s) (here s).arguments style s t x v e)

  pub segment_took : (s t : Stream) (x : PathSegment A E) → Visible s.rest → knot.segment attrs values s ≡ Ok (x, t) → TookOne (Front shown spelt (λ part how. IsSegment part how AsWritten)) s t x
  unfolding knot.segment
  segment_took s t x v e = front shown spelt (λ part how. IsSegment part how AsWritten) (height s) s t x (of_paths.segment_took (within s) (part s) (here s).arguments AsWritten s t x v e)

  pub angle_took : (s t : Stream) (x : AngleBracketed A E) → Visible s.rest → knot.angle_bracketed attrs values s ≡ Ok (x, t) → TookOne (Front shown spelt IsAngle) s t x
  unfolding knot.angle_bracketed
  angle_took s t x v e = front shown spelt IsAngle (height s) s t x (angles.angle_took (within s) (part s) (here s).argument s t x v e)

  pub turbofish_took : (s t : Stream) (x : AngleBracketed A E) → Visible s.rest → knot.turbofish attrs values s ≡ Ok (x, t) → TookOne (fronts.turbofish shown spelt) s t x
  unfolding knot.turbofish
  turbofish_took s t x v e =
      let k = angles.turbofish_took (within s) (part s) (here s).argument s t x v e in
      record { left = k.left; seen = k.seen; spelt = λ n. let i = k.spelt n in ((height s, i.0), i.1) }

  pub parenthesized_took : (s t : Stream) (x : Parenthesized A E) → Visible s.rest → knot.parenthesized attrs values s ≡ Ok (x, t) → TookOne (FrontEnding shown spelt IsParens) s t x
  unfolding knot.parenthesized
  parenthesized_took s t x v e = ending shown spelt IsParens (height s) s t x (signed.parens_took (within s) (part s) (here s).ty s t x v e)

  pub maybe_qualified_took : (style : PathStyle) (s t : Stream) (y : Option (QSelf A E) × Path A E) → Visible s.rest → paths.maybe_qualified attrs values style s ≡ Ok (y, t) → TookOne (Front shown spelt (fronts.IsQualifiedOrNot shown spelt style)) s t y
  unfolding paths.maybe_qualified
  maybe_qualified_took style s t y v e = front shown spelt (fronts.IsQualifiedOrNot shown spelt style) (height s) s t y (type_paths.any_path_took (within s) (part s) (here s) style s t y v e)

  pub path_type_took : (s t : Stream) (x : TypePath A E) → Visible s.rest → knot.path_type attrs values s ≡ Ok (x, t) → TookOne (Front shown spelt (IsPathAlone shown spelt)) s t x
  unfolding knot.path_type
  path_type_took s t x v e = front shown spelt (IsPathAlone shown spelt) (height s) s t x (heights.path_type_took shown spelt (within s) (part s) (here s) s t x v e)

  -- ---- types

  pub return_type_took : (place : TypePlace) (s t : Stream) (x : ReturnType A E) → Visible s.rest → knot.return_type attrs values place s ≡ Ok (x, t) → TookOne (FrontEnding shown spelt (λ part how. IsReturn part how place)) s t x
  unfolding knot.return_type
  return_type_took place s t x v e = ending shown spelt (λ part how. IsReturn part how place) (height s) s t x (told.output_took (within s) (part s) (here s).ty place s t x v e)

  -- the first bound is read where no more is left than at the trait object
  pub trait_object_took : (place : TypePlace) (s t : Stream) (x : TypeTraitObject A E) → Visible s.rest → knot.trait_object attrs values (allows_plus place) s ≡ Ok (x, t) → TookOne (Front shown spelt (λ part how. IsObject part how place)) s t x
  unfolding knot.trait_object
  trait_object_took place s t x v e =
      let m = suc (ahead s) in
      front shown spelt (λ part how. IsObject part how place) (suc (twice m)) s t x
      (objects.object_took (within s) (turns m) ((below (ahead s) m (omega arith)).bound Object) (allows_plus place) place refl (knot.bound attrs values Object) (λ u. ahead u ≤ ahead s)
      (λ u w y a i j. bound_by m Object u w y (omega (arith, a)) i j) s t x (λ w u i. ahead_follows s u (optional_dyn_along s u w i)) v e)

  pub impl_trait_took : (place : TypePlace) (s t : Stream) (x : TypeImplTrait A E) → Visible s.rest → knot.impl_trait attrs values (allows_plus place) s ≡ Ok (x, t) → TookOne (FrontEnding shown spelt (λ part how. IsImpl part how place)) s t x
  unfolding knot.impl_trait
  impl_trait_took place s t x v e = ending shown spelt (λ part how. IsImpl part how place) (height s) s t x (dyns.impl_took (within s) (part s) ((here s).bound Opaque) place (allows_plus place) refl s t x v e)

  pub array_took : (s t : Stream) (x : TypeArray A E) → Visible s.rest → knot.array attrs values s ≡ Ok (x, t) → TookOne (Front shown spelt IsCounted) s t x
  unfolding knot.array
  array_took s t x v e = front shown spelt IsCounted (height s) s t x (groups.counted_took attrs values (within s) (part s) (here s) (given (ahead s)) s t x v e)

  pub fn_ptr_took : (s t : Stream) (x : TypeFnPtr A E) → Visible s.rest → knot.fn_ptr attrs values s ≡ Ok (x, t) → TookOne (FrontEnding shown spelt IsFnPtr) s t x
  unfolding knot.fn_ptr
  fn_ptr_took s t x v e = ending shown spelt IsFnPtr (height s) s t x (functions.fn_ptr_took attrs values (within s) (part s) (here s) (given (ahead s)) s t x v e)

  -- no group is read
  pub no_group : (s t : Stream) (x : TypeGroup A E) → Visible s.rest → knot.group attrs values s ≡ Ok (x, t) → ⊥
  unfolding knot.group reading.group open_invisible sees_invisible
  no_group s t x v e =
      let r = within s (a_type Plus) in
      let k = mapped (in_invisible r s) (λ y. group_with [] y.0 y.1) x t e in
      let m = mapped _ _ k.value t k.was in
      let o = chain (open_invisible s) (λ y. λ u. closing y.0 u (r y.1)) m.value t m.was in
      not_there s o.rest (next_invisible s.rest) o.value (none_invisible s.rest v) o.was

  pub paren_took : (s t : Stream) (x : TypeParen A E) → Visible s.rest → knot.paren attrs values s ≡ Ok (x, t) → TookOne (Front shown spelt (λ part how. IsEnclosed part how NoPlus)) s t x
  unfolding knot.paren
  paren_took s t x v e = front shown spelt (λ part how. IsEnclosed part how NoPlus) (height s) s t x (told.enclosed_took (within s) (part s) (here s).ty s t x v e)

  pub ptr_took : (s t : Stream) (x : TypePtr A E) → Visible s.rest → knot.ptr attrs values s ≡ Ok (x, t) → TookOne (FrontEnding shown spelt IsPointer) s t x
  unfolding knot.ptr
  ptr_took s t x v e = ending shown spelt IsPointer (height s) s t x (told.pointer_took (within s) (part s) (here s).ty s t x v e)

  pub reference_took : (s t : Stream) (x : TypeReference A E) → Visible s.rest → knot.reference attrs values s ≡ Ok (x, t) → TookOne (FrontEnding shown spelt IsBorrow) s t x
  unfolding knot.reference
  reference_took s t x v e = ending shown spelt IsBorrow (height s) s t x (told.borrow_took (within s) (part s) (here s).ty s t x v e)

  pub slice_took : (s t : Stream) (x : TypeSlice A E) → Visible s.rest → knot.slice attrs values s ≡ Ok (x, t) → TookOne (Front shown spelt IsBracketed) s t x
  unfolding knot.slice
  slice_took s t x v e = front shown spelt IsBracketed (height s) s t x (told.bracketed_took (within s) (part s) (here s).ty s t x v e)

  -- however its first element begins
  pub tuple_took : (s t : Stream) (x : TypeTuple A E) → Visible s.rest → knot.tuple attrs values s ≡ Ok (x, t) → TookOne (Front shown spelt (λ part how. IsTupled part how (λ l. Unit {0}))) s t x
  unfolding knot.tuple
  tuple_took s t x v e = front shown spelt (λ part how. IsTupled part how (λ l. Unit {0})) (height s) s t x (groups.tupled_took (within s) (part s) (here s) s t x v e)

  -- its type is read where no more is left than at the argument
  pub named_arg_took : (s t : Stream) (x : NamedArg A E) → Visible s.rest → knot.named_arg attrs values s ≡ Ok (x, t) → TookOne (Front shown spelt (λ part how. IsNamedArg part how false)) s t x
  unfolding knot.named_arg
  named_arg_took s t x v e =
      let m = suc (ahead s) in
      front shown spelt (λ part how. IsNamedArg part how false) (suc (twice m)) s t x
      (functions.named_arg_took (turns m) (knot.ty attrs values Plus) (λ u. ahead u ≤ ahead s) (λ u w y a i j. type_by m Plus u w y (omega (arith, a)) i j) attrs (given m).attrs_took s t x
      (λ a u i n w j. let k = ahead_follows s u (g.attrs_along s u a i) in let o = ahead_follows u w (functions.along_optional_name (sees_name false) u w n j) in omega (arith, k, o)) v e)

  -- ---- generics

  pub type_param_took : (s t : Stream) (x : TypeParam A E) → Visible s.rest → knot.type_param attrs values s ≡ Ok (x, t) → TookOne (Front shown spelt IsTypeParam) s t x
  type_param_took s t x v e = front shown spelt IsTypeParam (height s) s t x (params.type_param_alone_took attrs values (part s) s t x (here s) (given (ahead s)) v e)

  pub const_param_took : (s t : Stream) (x : ConstParam A E) → Visible s.rest → knot.const_param attrs values s ≡ Ok (x, t) → TookOne (Front shown spelt IsConstParam) s t x
  const_param_took s t x v e = front shown spelt IsConstParam (height s) s t x (params.const_param_alone_took attrs values (part s) s t x (here s) (given (ahead s)) v e)

  pub binder_took : (s t : Stream) (x : BoundLifetimes A E) → Visible s.rest → knot.binder attrs values s ≡ Ok (x, t) → TookOne (Front shown spelt IsFor) s t x
  binder_took s t x v e = front shown spelt IsFor (height s) s t x (params.for_alone_took attrs values (part s) s t x (here s) v e)

  pub optional_binder_took : (s t : Stream) (o : Option (BoundLifetimes A E)) → Visible s.rest → knot.optional_binder attrs values s ≡ Ok (o, t) → TookOne (Front shown spelt (λ part how. IsOptional (IsFor part how))) s t o
  optional_binder_took s t o v e = front shown spelt (λ part how. IsOptional (IsFor part how)) (height s) s t o (params.optional_for_alone_took attrs values (part s) s t o (here s) v e)

  pub trait_bound_took : (s t : Stream) (x : TraitBound A E) → Visible s.rest → knot.trait_bound attrs values s ≡ Ok (x, t) → TookOne (FrontEnding shown spelt (λ part how. IsTraitBound part how false)) s t x
  unfolding knot.trait_bound
  trait_bound_took s t x v e = let h = here s in ending shown spelt (λ part how. IsTraitBound part how false) (height s) s t x (traits.trait_in_took (within s) (part s) h.ty (h.param Binder) h.arguments h.pair false s t x v e)
