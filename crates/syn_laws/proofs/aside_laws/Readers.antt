-- The promise of each reader aside from spans.
use Rattle.std.proofs.Common.{◌≡◌, ℕ, Bool, true, false, List, [], None, Ok, option_map, refl, sym, ◌∙◌}
use Rattle.token_core.specs.Headline.{Grammar, Lawful}
use Rattle.token_core.specs.Prints.{Print}
use Rattle.token_core.specs.Reads.{leaves}
use Rattle.token_core.specs.Stream.{Stream}
use Rattle.token_core.specs.Toks.{Toks, done}
use Rattle.syn_path.specs.declared.path.PathStyle.TheVariants.{AsWritten, Expr as expressions}
use Rattle.syn_path.specs.declared.supplied.Place.{Place}
use Rattle.syn_path.specs.declared.supplied.Place.TheVariants.{Value}
use Rattle.syn_path.specs.Lengths.{LengthLaws}
use Rattle.syn_path.specs.Supplied.{IsApart, Reprints, SameOutcome, UsesUp}
use Rattle.syn_path.specs.Traits.{Attributes, Expressions, Subtree}
use Rattle.syn_path.specs.Values.{SpelledValues}
use Rattle.syn_path.specs.Whole.{AttributesMeet, ConstsMeet}
use Rattle.syn_attr.specs.attr.Attrs.{Attribute as Attr}
use Rattle.syn_attr.specs.attr.Consts.{outer}
use Rattle.syn_attr.specs.laws.ConstsMeet.{consts_meet}
use Rattle.syn_attr.specs.laws.Lengths.{bare_laws, length_laws}
use Rattle.syn_attr.specs.laws.OuterMeet.{attributes_meet}
use Rattle.syn_attr.specs.laws.Told.{attributes_told, consts_told}
use Rattle.syn_attr.specs.attr.Traits as given_by_subtree
use Rattle.syn_attr.specs.declared.expr.Expr.{Expr}
use Rattle.syn_attr.proofs.attr_laws.Laws.{inner_lawful, meta_lawful, name_value_lawful, outer_lawful}
use Rattle.syn_forms.specs.declared.places.BoundPlace.TheVariants.{Opaque}
use Rattle.syn_forms.specs.declared.places.ParamPlace.TheVariants.{Binder}
use Rattle.syn_forms.specs.declared.places.TypePlace.TheVariants.{Plus, NoPlus}
use Rattle.syn_forms.specs.tokens.Spelling.{IsMutability}
use Rattle.syn_generics.specs.generics.Clauses.{IsPredicate, IsWhereClause}
use Rattle.syn_generics.specs.generics.Parameters.{AreGenerics}
use Rattle.syn_ty.specs.declared.generics.LifetimeParamOf.{LifetimeParamOf}
use Rattle.syn_ty.specs.ty.Trees.{AngleBracketed}
use Rattle.syn_ty.specs.generics.Bounds.{IsBound, IsCapture, IsCaptured, IsFor, IsTraitBound}
use Rattle.syn_ty.specs.generics.Parameters.{IsConstParam, IsParam, IsTypeParam}
use Rattle.syn_ty.specs.path.Arguments.{alone, IsArgument}
use Rattle.syn_ty.specs.path.Signed.{IsParens, IsReturn}
use Rattle.syn_ty.specs.path.Spelling.{IsAngle, IsPath, IsSegment, Styled}
use Rattle.syn_ty.specs.ty.Admitted.{IsBorrow, IsBracketed, IsCounted, IsEnclosed, IsPointer, IsTupled, IsType}
use Rattle.syn_ty.specs.ty.Functions.{IsAbi, IsFnPtr, IsNamedArg}
use Rattle.syn_ty.specs.ty.Grammars as plain
use Rattle.syn_ty.specs.ty.Objects.{IsImpl, IsObject}
use Rattle.syn_ty.specs.ty.Parts.{Manner, clearly, End, Parts}
use Rattle.syn_ty.specs.ty.Promises as promises
use Rattle.syn_ty.specs.ty.Spelling.{Relation, IsOptional, IsInfer, IsNever, IsMacroType}
use Rattle.syn_ty.specs.ty.Spelt.{spelt_to, Begins, IsLifetimeAlone, IsPathAlone, with_attributes}
use Rattle.syn_forms.specs.tokens.Grammars as forms
use Rattle.syn_forms.proofs.tokens_laws.Mutability.{mutability_lawful}
use Rattle.syn_ty.proofs.ty_laws.Given.{Given, given as given_by}
use Rattle.syn_ty.proofs.ty_laws.GivenWhole.{attributes_again, attributes_met, given_again, given_meets}
use Rattle.syn_ty.proofs.ty_laws.reprint.Knot.{GivenAgain}
use Rattle.syn_ty.proofs.ty_laws.complete.Knot.{GivenMeets}
use Rattle.syn_ty.proofs.ty_laws.Leaves as plain_laws
use Rattle.syn_ty.proofs.ty_laws.WholeLaws as type_laws
use Rattle.syn_generics.proofs.generics_laws.WholeLaws as clause_laws
use Rattle.syn_pat.proofs.pat_laws.GivenLaws.{guarded_lawful, pat_lawful, typed_lawful}
use Rattle.syn_generics.specs.generics.Promises as clauses
use Rattle.syn_laws.specs.aside.Attrs as free_attrs
use Rattle.syn_laws.specs.aside.Generics as free_generics
use Rattle.syn_path.specs.aside.Lists.{Asides, MovesSubtree}
use Rattle.syn_laws.specs.aside.Readers as readers
use Rattle.syn_laws.specs.aside.Types as free
use Rattle.syn_laws.proofs.aside_laws.Attrs.{Kept, const_moves, default_moves, kept_moves, len_moves, inner_aside, list_aside, meta_aside, name_value_aside, outer_aside}
use Rattle.syn_laws.proofs.aside_laws.BoundForms.{bound_moves, capture_moves, captured_moves, const_param_moves, for_moves, impl_moves, lifetime_param_moves, object_moves, optional_for_moves, param_moves, trait_bound_moves, type_param_moves}
use Rattle.syn_laws.proofs.aside_laws.ClauseForms.{clause_moves, generics_move, predicate_moves}
use Rattle.syn_laws.proofs.aside_laws.Knot.{path_alone_moves}
use Rattle.syn_laws.proofs.aside_laws.Parts.{Moving, mutability_moves, optional_moves}
use Rattle.syn_laws.proofs.aside_laws.PatForms.{guarded_aside, pat_aside, typed_aside}
use Rattle.syn_laws.proofs.aside_laws.PathForms.{angle_moves, argument_moves, parens_move, path_moves, return_moves, segment_moves}
use Rattle.syn_path.proofs.aside_laws.Paths.{macro_aside, mod_style_aside}
use Rattle.syn_laws.proofs.aside_laws.PatParts.{attrs_move, types_move}
use Rattle.syn_path.proofs.aside_laws.Same.{Same, Moved, Mover, aside, moves}
use Rattle.syn_path.proofs.aside_laws.Tokens.{ended, mark_seen}
use Rattle.syn_laws.proofs.aside_laws.TypeForms.{abi_moves, borrow_moves, bracketed_moves, counted_moves, enclosed_moves, fn_ptr_moves, infer_moves, macro_type_moves, named_arg_moves, never_moves, pointer_moves, tupled_moves, type_moves}

-- by what a tree spells on the front of a list
by_front : {A : Type 0} (G : Grammar A) (fr : A → A) → Lawful G → (Is : A → Toks → Toks → Type 0) → ((x : A) (l : Toks) → G.spells true x l → Is x l done) → ((x : A) (l : Toks) → Is x l done → G.spells true x l) → Mover fr Is → Asides G fr
by_front G fr laws Is there back f = aside G fr laws (moves G fr Is there back f)

pub without_values : readers.WithoutValues
without_values = record {
  macro_call = macro_aside;
  meta_list = list_aside;
  mutability = by_front forms.mutability free.mutability mutability_lawful IsMutability (λ x l i. i) (λ x l i. i) (λ x l r m i s. mutability_moves i s);
  abi = by_front promises.abi free.abi type_laws.abi_lawful IsAbi (λ x l i. i) (λ x l i. i) (λ x l r m i s. abi_moves i s);
  optional_abi = by_front promises.optional_abi (option_map free.abi) type_laws.optional_abi_lawful (IsOptional IsAbi) (λ x l i. i) (λ x l i. i) (λ x l r m i s. optional_moves free.abi i s (λ x l r m i s. abi_moves i s));
  capture = by_front promises.capture free.capture type_laws.capture_lawful (IsCapture true) (λ x l i. i) (λ x l i. i) (λ x l r m i s. capture_moves i s);
  captured = by_front promises.captured free.captured type_laws.captured_lawful IsCaptured (λ x l i. i) (λ x l i. i) (λ x l r m i s. captured_moves i s);
}

pub mod_paths : {G : Type 0} (none : G) (shown : G → Print) → shown none ≡ [] → readers.ModPaths none shown
mod_paths none shown silent = record { mod_style = λ f. mod_style_aside none f shown silent }

module _ {X : Type 0} (sub : Subtree X) (given : MovesSubtree sub.spells sub.bare)
    (steady : (p : Place) (s t : Stream) → s.rest ≡ t.rest → SameOutcome (sub.reads p s) (sub.reads p t))
    (sound : (p : Place) (s t : Stream) (x : X) → sub.reads p s ≡ Ok (x, t) → leaves t ≡ None → sub.spells p x s.rest)
    (complete : (p : Place) (s : Stream) (x : X) → sub.spells p x s.rest → (t : Stream) × (sub.reads p s ≡ Ok (x, t)) × UsesUp s t)
    (reprint : (p : Place) (x : X) (l : Toks) → sub.spells p x l → Reprints (sub.spells p) (sub.normal p) (sub.prints p) x l)
    (apart : (x : X) (l : Toks) → sub.spells Value x l → IsApart l) where
  pub attributes : readers.Attributes sub
  attributes = record {
    meta = meta_aside sub given (meta_lawful sub sound complete reprint apart);
    name_value = name_value_aside sub given (name_value_lawful sub sound complete reprint apart);
    outer = outer_aside sub given (outer_lawful sub sound complete reprint apart);
    inner = inner_aside sub given (inner_lawful sub sound complete reprint apart);
  }

  pub patterns : readers.Patterns sub
  patterns = record {
    pat = λ place. pat_aside sub.spells sub.bare given place _ _ _ (pat_lawful sub steady sound complete reprint apart place);
    guarded = guarded_aside sub.spells sub.bare given _ _ _ (guarded_lawful sub steady sound complete reprint apart);
    typed = typed_aside sub.spells sub.bare given _ _ _ (typed_lawful sub steady sound complete reprint apart);
  }

  -- ---- types and what they hold

  abbrev na : List (Attr X) → List (Attr X)
  na = free_attrs.attributes sub.bare

  abbrev ne : Expr X → Expr X
  ne = free_attrs.value sub.bare

  abbrev attrs : Attributes (Attr X)
  attrs = given_by_subtree.attributes sub

  abbrev exprs : Expressions (Expr X)
  exprs = given_by_subtree.expressions sub

  abbrev sa : Bool → List (Attr X) → Toks → Toks → Type 0
  sa = attrs.spells

  abbrev se : SpelledValues (Expr X)
  se = exprs.spells

  -- the laws of attributes and expressions over it
  lens : LengthLaws exprs.reads.len se.len exprs.normal.len exprs.values.len
  lens = length_laws sub.reads sub.spells sub.normal sub.prints steady sound complete reprint

  attrs_meet : AttributesMeet attrs.reads sa attrs.normal attrs.shown
  attrs_meet = attributes_meet sub.reads sub.spells sub.normal sub.prints complete reprint apart

  values_meet : ConstsMeet exprs.reads.const_argument se.const_argument se.const_default exprs.normal.const_argument exprs.values.const_argument
  values_meet = consts_meet sub.reads sub.spells sub.normal sub.prints complete reprint

  g : Given attrs.reads exprs.reads sa se
  g = given_by (attributes_told sub.reads sub.spells sound) (consts_told sub.reads sub.spells sound) lens

  m : GivenMeets attrs.reads exprs.reads sa se
  m = given_meets attrs_meet values_meet lens

  a : GivenAgain attrs.normal exprs.normal attrs.shown exprs.values sa se
  a = given_again attrs_meet values_meet lens (bare_laws sub.normal sub.prints)

  up : (n : ℕ) → Moving na ne (spelt_to sa se n clearly)
  up = types_move sub.spells sub.bare given

  by_height : {F : Type 0} (G : Grammar F) (fr : F → F) → Lawful G → (Is : (Manner → Parts (Attr X) (Expr X)) → Manner → Relation F) → ((x : F) (l : Toks) → G.spells true x l → Begins sa se Is clearly x l done) → ((x : F) (l : Toks) → Begins sa se Is clearly x l done → G.spells true x l) →
      ((n : ℕ) → Mover fr (Is (spelt_to sa se n) clearly)) → Asides G fr
  by_height G fr laws Is there back f = by_front G fr laws (Begins sa se Is clearly) there back (λ x l r m i s. let q = f i.0 x l r m i.1 s in record { tree = q.tree; rest = q.rest; is = (i.0, q.is); same = q.same; on = q.on; part = q.part })

  by_ending : {F : Type 0} (G : Grammar F) (fr : F → F) → Lawful G → (Is : (Manner → Parts (Attr X) (Expr X)) → Manner → End → Relation F) → ((x : F) (l : Toks) → G.spells true x l → (n : ℕ) × (e : End) × Is (spelt_to sa se n) clearly e x l done) →
      ((x : F) (l : Toks) → ((n : ℕ) × (e : End) × Is (spelt_to sa se n) clearly e x l done) → G.spells true x l) → ((n : ℕ) (e : End) → Mover fr (Is (spelt_to sa se n) clearly e)) → Asides G fr
  by_ending G fr laws Is there back f =
      by_front G fr laws (λ x l r. (n : ℕ) × (e : End) × Is (spelt_to sa se n) clearly e x l r) there back
      (λ x l r m i s. let q = f i.0 i.1 x l r m i.2 s in record { tree = q.tree; rest = q.rest; is = (i.0, i.1, q.is); same = q.same; on = q.on; part = q.part })

  -- arguments after `::`
  turbofish_moves : (x : AngleBracketed (Attr X) (Expr X)) (l m : Toks) → ((n : ℕ) × IsAngle (spelt_to sa se n) clearly x l done) × Styled expressions l → Same l m →
      Kept (free.angle na ne) (λ x l. ((n : ℕ) × IsAngle (spelt_to sa se n) clearly x l done) × Styled expressions l) x m
  turbofish_moves x l m ((n, i), h) s = let q = angle_moves na ne (spelt_to sa se n) (up n) i s in record { tree = q.tree; is = ((n, ended q), sym (mark_seen _ s) ∙ h); same = q.same }

  turbofish_aside : Asides (promises.turbofish attrs exprs) (free.angle na ne)
  turbofish_aside = let G = promises.turbofish attrs exprs in aside G (free.angle na ne) (type_laws.turbofish_lawful attrs exprs g m a) (kept_moves G (free.angle na ne) turbofish_moves)

  path_alone : (n : ℕ) → Mover (free.path_type na ne) (IsPathAlone sa se (spelt_to sa se n) clearly)
  path_alone =
      path_alone_moves na ne sa se (λ x l r m i s. attrs_move sub.spells sub.bare given i s) (λ x l m i s. len_moves sub.spells sub.bare given i s) (λ x l r m i s. const_moves sub.spells sub.bare given i s) (λ x l r m i s. default_moves sub.spells sub.bare given i s)

  -- what a lifetime parameter by itself holds
  attributes_alone : Moving na (λ (x : Unit {0}). x) (with_attributes sa clearly)
  attributes_alone = record {
    ty = λ place e x l r m i s. absurd i;
    bound = λ place e x l r m i s. absurd i;
    param = λ place x l r m i s. absurd i;
    argument = λ x l r m i s. absurd i;
    arguments = λ x l r m i s. absurd i;
    angle = λ x l r m i s. absurd i;
    attrs = λ x l r m i s. attrs_move sub.spells sub.bare given i s;
    len = λ x l m i s. absurd i;
    const_argument = λ x l r m i s. absurd i;
    const_default = λ x l r m i s. absurd i;
  }

  lifetime_moved : {x : LifetimeParamOf (Attr X)} {l r m : Toks} → IsLifetimeAlone sa clearly x l r → Same l m → Moved (free.lifetime_param na ne) (IsLifetimeAlone sa clearly) x r m
  lifetime_moved i s = let q = lifetime_param_moves na (λ (x : Unit {0}). x) (with_attributes sa) attributes_alone i s in record { tree = q.tree; rest = q.rest; is = q.is; same = q.same; on = q.on; part = q.part }

  pub paths : readers.Paths sub
  paths = record {
    path = by_height (promises.path attrs exprs) (free.path na ne) (type_laws.path_lawful attrs exprs g m a) (λ part how. IsPath part how AsWritten) (λ x l i. i) (λ x l i. i) (λ n x l r m i s. path_moves na ne (spelt_to sa se n) (up n) i s);
    segment = by_height (promises.segment attrs exprs) (free.segment na ne) (type_laws.segment_lawful attrs exprs g m a) (λ part how. IsSegment part how AsWritten) (λ x l i. i) (λ x l i. i) (λ n x l r m i s. segment_moves na ne (spelt_to sa se n) (up n) i s);
    argument = by_height (promises.argument attrs exprs) (free.argument na ne) (type_laws.argument_lawful attrs exprs g m a) (λ part how. IsArgument (IsType part how Plus) part how alone) (λ x l i. i) (λ x l i. i) (λ n x l r m i s. argument_moves na ne (spelt_to sa se n) (up n) (λ e x l r m i s. type_moves na ne (spelt_to sa se n) (up n) i s) i s);
    angle = by_height (promises.angle attrs exprs) (free.angle na ne) (type_laws.angle_lawful attrs exprs g m a) (IsAngle) (λ x l i. i) (λ x l i. i) (λ n x l r m i s. angle_moves na ne (spelt_to sa se n) (up n) i s);
    turbofish = turbofish_aside;
    parenthesized = by_ending (promises.parenthesized attrs exprs) (free.parenthesized na ne) (type_laws.parenthesized_lawful attrs exprs g m a) (IsParens) (λ x l i. i) (λ x l i. i) (λ n e x l r m i s. parens_move na ne (spelt_to sa se n) (up n) i s);
  }

  pub types : readers.Types sub
  types = record {
    ty = λ place. by_ending (promises.ty attrs exprs place) (free.ty na ne) (type_laws.ty_lawful attrs exprs g m a place) (λ part how. IsType part how place) (λ x l i. i) (λ x l i. i) (λ n e x l r m i s. type_moves na ne (spelt_to sa se n) (up n) i s);
    return_type = λ place. by_ending (promises.return_type attrs exprs place) (free.return_type na ne) (type_laws.return_type_lawful attrs exprs g m a place) (λ part how. IsReturn part how place) (λ x l i. i) (λ x l i. i) (λ n e x l r m i s. return_moves na ne (spelt_to sa se n) (up n) i s);
    trait_object = λ place. by_height (promises.trait_object attrs exprs place) (free.trait_object na ne) (type_laws.trait_object_lawful attrs exprs g m a place) (λ part how. IsObject part how place) (λ x l i. i) (λ x l i. i) (λ n x l r m i s. object_moves na ne (spelt_to sa se n) (up n) i s);
    impl_trait = λ place. by_ending (promises.impl_trait attrs exprs place) (free.impl_trait na ne) (type_laws.impl_trait_lawful attrs exprs g m a place) (λ part how. IsImpl part how place) (λ x l i. i) (λ x l i. i) (λ n e x l r m i s. impl_moves na ne (spelt_to sa se n) (up n) i s);
    array = by_height (promises.array attrs exprs) (free.array na ne) (type_laws.array_lawful attrs exprs g m a) (IsCounted) (λ x l i. i) (λ x l i. i) (λ n x l r m i s. counted_moves na ne (spelt_to sa se n) (up n) i s);
    fn_ptr = by_ending (promises.fn_ptr attrs exprs) (free.fn_ptr na ne) (type_laws.fn_ptr_lawful attrs exprs g m a) (IsFnPtr) (λ x l i. i) (λ x l i. i) (λ n e x l r m i s. fn_ptr_moves na ne (spelt_to sa se n) (up n) i s);
    group = aside (promises.group attrs exprs) (free.group na ne) (type_laws.group_lawful attrs exprs g m a) (λ b m l v i s. absurd i);
    paren = by_height (promises.paren attrs exprs) (free.paren na ne) (type_laws.paren_lawful attrs exprs g m a) (λ part how. IsEnclosed part how NoPlus) (λ x l i. i) (λ x l i. i) (λ n x l r m i s. enclosed_moves na ne (spelt_to sa se n) (up n) i s);
    path_type = by_height (promises.path_type attrs exprs) (free.path_type na ne) (type_laws.path_type_lawful attrs exprs g m a) (IsPathAlone sa se) (λ x l i. i) (λ x l i. i) (λ n x l r m i s. path_alone n x l r m i s);
    ptr = by_ending (promises.ptr attrs exprs) (free.ptr na ne) (type_laws.ptr_lawful attrs exprs g m a) (IsPointer) (λ x l i. i) (λ x l i. i) (λ n e x l r m i s. pointer_moves na ne (spelt_to sa se n) (up n) i s);
    reference = by_ending (promises.reference attrs exprs) (free.reference na ne) (type_laws.reference_lawful attrs exprs g m a) (IsBorrow) (λ x l i. i) (λ x l i. i) (λ n e x l r m i s. borrow_moves na ne (spelt_to sa se n) (up n) i s);
    slice = by_height (promises.slice attrs exprs) (free.slice na ne) (type_laws.slice_lawful attrs exprs g m a) (IsBracketed) (λ x l i. i) (λ x l i. i) (λ n x l r m i s. bracketed_moves na ne (spelt_to sa se n) (up n) i s);
    tuple = by_height (promises.tuple attrs exprs) (free.tuple na ne) (type_laws.tuple_lawful attrs exprs g m a) (λ part how. IsTupled part how (λ l. Unit {0})) (λ x l i. i) (λ x l i. i) (λ n x l r m i s. tupled_moves na ne (spelt_to sa se n) (up n) (λ l m s h. h) i s);
    named_arg = by_height (promises.named_arg attrs exprs) (free.named_arg na ne) (type_laws.named_arg_lawful attrs exprs g m a) (λ part how. IsNamedArg part how false) (λ x l i. i) (λ x l i. i) (λ n x l r m i s. named_arg_moves na ne (spelt_to sa se n) (up n) i s);
    infer = by_front (plain.infer attrs.normal) (free.infer na ne) (plain_laws.infer_lawful attrs.normal refl) (IsInfer) (λ x l i. i) (λ x l i. i) (λ x l r m i s. infer_moves na ne i s);
    never = by_front (plain.never attrs.normal) (free.never na ne) (plain_laws.never_lawful attrs.normal refl) (IsNever true) (λ x l i. i) (λ x l i. i) (λ x l r m i s. never_moves na ne i s);
    macro_type = by_front (plain.macro_type attrs.normal) (free.macro_type na ne) (plain_laws.macro_type_lawful attrs.normal refl) (IsMacroType true) (λ x l i. i) (λ x l i. i) (λ x l r m i s. macro_type_moves na ne i s);
  }

  pub parameters : readers.Parameters sub
  parameters = record {
    param = by_height (promises.param attrs exprs) (free.param na ne) (type_laws.param_lawful attrs exprs g m a) (λ part how. IsParam part how Binder) (λ x l i. i) (λ x l i. i) (λ n x l r m i s. param_moves na ne (spelt_to sa se n) (up n) i s);
    lifetime_param = by_front (promises.lifetime_param attrs) (free.lifetime_param na ne) (type_laws.lifetime_param_lawful attrs (attributes_told sub.reads sub.spells sound) (attributes_met attrs_meet) (attributes_again attrs_meet)) (IsLifetimeAlone sa clearly) (λ x l i. i) (λ x l i. i) (λ x l r m i s. lifetime_moved i s);
    type_param = by_height (promises.type_param attrs exprs) (free.type_param na ne) (type_laws.type_param_lawful attrs exprs g m a) (IsTypeParam) (λ x l i. i) (λ x l i. i) (λ n x l r m i s. type_param_moves na ne (spelt_to sa se n) (up n) i s);
    const_param = by_height (promises.const_param attrs exprs) (free.const_param na ne) (type_laws.const_param_lawful attrs exprs g m a) (IsConstParam) (λ x l i. i) (λ x l i. i) (λ n x l r m i s. const_param_moves na ne (spelt_to sa se n) (up n) i s);
    binder = by_height (promises.binder attrs exprs) (free.bound_lifetimes na ne) (type_laws.binder_lawful attrs exprs g m a) (IsFor) (λ x l i. i) (λ x l i. i) (λ n x l r m i s. for_moves na ne (spelt_to sa se n) (up n) i s);
    optional_binder = by_height (promises.optional_binder attrs exprs) (option_map (free.bound_lifetimes na ne)) (type_laws.optional_binder_lawful attrs exprs g m a) (λ part how. IsOptional (IsFor part how)) (λ x l i. i) (λ x l i. i) (λ n x l r m i s. optional_for_moves na ne (spelt_to sa se n) (up n) i s);
    bound = by_ending (promises.bound attrs exprs) (free.bound na ne) (type_laws.bound_lawful attrs exprs g m a) (λ part how. IsBound part how Opaque) (λ x l i. i) (λ x l i. i) (λ n e x l r m i s. bound_moves na ne (spelt_to sa se n) (up n) i s);
    trait_bound = by_ending (promises.trait_bound attrs exprs) (free.trait_bound na ne) (type_laws.trait_bound_lawful attrs exprs g m a) (λ part how. IsTraitBound part how false) (λ x l i. i) (λ x l i. i) (λ n e x l r m i s. trait_bound_moves na ne (spelt_to sa se n) (up n) i s);
  }

  pub generics : readers.Generics sub
  generics = record {
    generics = by_height (clauses.generics attrs exprs) (free_generics.generics na ne) (clause_laws.generics_lawful attrs exprs g m a) (AreGenerics) (λ x l i. i) (λ x l i. i) (λ n x l r m i s. generics_move na ne (spelt_to sa se n) (up n) i s);
    where_clause = by_height (clauses.where_clause attrs exprs) (free_generics.where_clause na ne) (clause_laws.where_clause_lawful attrs exprs g m a) (IsWhereClause) (λ x l i. i) (λ x l i. i) (λ n x l r m i s. clause_moves na ne (spelt_to sa se n) (up n) i s);
    optional_where_clause = by_height (clauses.optional_where_clause attrs exprs) (option_map (free_generics.where_clause na ne)) (clause_laws.optional_where_clause_lawful attrs exprs g m a) (λ part how. IsOptional (IsWhereClause part how)) (λ x l i. i) (λ x l i. i) (λ n x l r m i s. optional_moves (free_generics.where_clause na ne) i s (λ x l r m i s. clause_moves na ne (spelt_to sa se n) (up n) i s));
    predicate = by_height (clauses.predicate attrs exprs) (free_generics.predicate na ne) (clause_laws.predicate_lawful attrs exprs g m a) (IsPredicate) (λ x l i. i) (λ x l i. i) (λ n x l r m i s. predicate_moves na ne (spelt_to sa se n) (up n) i s);
  }
