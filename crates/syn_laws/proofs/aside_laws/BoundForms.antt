-- Bounds, parameters and trait objects on lists that are the same aside from spans.
use Rattle.std.proofs.Common.{◌≡◌, Bool, true, ◌||◌, List, [], ◌∷◌, Option, Some, None, map, option_map, refl, sym, ap, ap₂, ◌∙◌}
use Rattle.std.specs.List.{list_any}
use Rattle.token_core.specs.declared.lifetime.Lifetime.{Lifetime}
use Rattle.token_core.specs.declared.span.DelimSpan.{DelimSpan}
use Rattle.token_core.specs.declared.tree.Ident.{Ident}
use Rattle.token_core.specs.Groups as groups
use Rattle.token_core.specs.Loops.{Many}
use Rattle.token_core.specs.Reads.{is_ident, is_text}
use Rattle.token_core.specs.Spans.{none, delim_span}
use Rattle.token_core.specs.Spellings.{IsMark, IsWord}
use Rattle.token_core.specs.Tokens as token
use Rattle.token_core.specs.Toks.{Toks, done, word}
use Rattle.token_core.specs.Trees.{ident}
use Rattle.syn_forms.specs.declared.places.BoundPlace.{BoundPlace}
use Rattle.syn_forms.specs.declared.places.ParamPlace.{ParamPlace}
use Rattle.syn_forms.specs.declared.places.ParamPlace.TheVariants as params
use Rattle.syn_forms.specs.declared.places.TypePlace.{TypePlace}
use Rattle.syn_ty.specs.declared.generics.BoundConst.{BoundConst}
use Rattle.syn_ty.specs.declared.generics.BoundConst.TheVariants as c
use Rattle.syn_ty.specs.declared.generics.CapturedParam.{CapturedParam}
use Rattle.syn_ty.specs.declared.generics.CapturedParam.TheVariants as captures
use Rattle.syn_ty.specs.declared.generics.GenericParamOf.TheVariants as g
use Rattle.syn_ty.specs.declared.generics.LifetimeParamOf.{LifetimeParamOf}
use Rattle.syn_ty.specs.declared.generics.PreciseCapture.{PreciseCapture}
use Rattle.syn_ty.specs.declared.generics.TraitBoundModifiers.{TraitBoundModifiers}
use Rattle.syn_ty.specs.declared.generics.TypeParamBoundOf.TheVariants as b
use Rattle.syn_ty.specs.generics.Bounds.{IsCaptured, a_lifetime_captured, a_name_captured, IsCapture, a_capture, IsConstness, no_constness, a_const, a_conditional_const, AreModifiers, some_modifiers, IsFor, IsTrait, a_trait, a_trait_for, a_trait_asked, IsTraitBound, a_trait_bound, IsBound, a_lifetime_bound, a_bare_bound, a_bound_in_parens, a_capture_bound}
use Rattle.syn_ty.specs.generics.Modifiers.{modifiers_of, no_modifiers}
use Rattle.syn_ty.specs.generics.Parameters.{IsLifetimeParam, a_lone_lifetime, a_lifetime_with_bounds, AreBoundsAfter, no_colon, after_colon, IsAnyType, any_type, IsTypeParam, a_type_param, IsConstParam, a_const_param, IsParam, a_lifetime_param, a_named_param, a_constant_param, a_bare_param, IsGiven}
use Rattle.syn_ty.specs.generics.Params.{capture_of, const_param_of, lifetime_param_of, named_bound, trait_bound_of, type_param_of}
use Rattle.syn_ty.specs.ty.Objects.{in_parens, IsBoundList, several_bounds, one_bound, AreObjectBounds, object_bounds, IsDyn, a_dyn, IsObject, an_object, IsImpl, an_impl, IsFirst, a_first, a_first_for, IsAsked, an_asked, AreFurther, none_further, some_further, AreBareBounds, path_alone, path_and_plus, held_and_plus, asked_first, asked_in_two, lifetime_first}
use Rattle.syn_ty.specs.ty.Parts.{Manner, clearly, End, Parts}
use Rattle.syn_ty.specs.ty.Reading.{is_trait}
use Rattle.syn_ty.specs.ty.Spelling.{IsOptional}
use Rattle.syn_ty.specs.ty.Trees.{BoundLifetimes, ConstParam, GenericParam, Path, TraitBound, TypeImplTrait, TypeParam, TypeParamBound, TypeTraitObject, TypeTree}
use Rattle.syn_ty.specs.ty.Types.{impl_trait_with, trait_object_with}
use Rattle.syn_path.specs.aside.Tokens as tokens
use Rattle.syn_laws.specs.aside.Types as free
use Rattle.syn_path.proofs.aside_laws.Both.{cons_same, of3, of5}
use Rattle.syn_path.proofs.aside_laws.Held.{put_in, lifetime_seen}
use Rattle.syn_laws.proofs.aside_laws.Layers.{free-lifetime-param, free-named-param, free-constant-param, free-type-param, free-trait, free-lifetime-bound, free-capture, free-trait-bound, trait_kept}
use Rattle.syn_laws.proofs.aside_laws.Parts.{Moving, optional_moves, given_moves, binder_moves}
use Rattle.syn_laws.proofs.aside_laws.PathForms.{path_moves, bound_path_moves, bounds_move}
use Rattle.syn_path.proofs.aside_laws.Same.{Same, same_done, same_word, same_group, Rest, all_left, past_word, past_group, onward, Moved}
use Rattle.syn_path.proofs.aside_laws.Tokens.{MovedMany, listed_move, mark_moves, word_moves, lifetime_moves, mark_seen, word_seen}

-- ---- captures

pub captured_moves : {x : CapturedParam} {l r m : Toks} → IsCaptured x l r → Same l m → Moved free.captured IsCaptured x r m
captured_moves (a_lifetime_captured i) s = let q = lifetime_moves i s in record { tree = captures.Lifetime q.tree; rest = q.rest; is = a_lifetime_captured q.is; same = ap captures.Lifetime q.same; on = q.on; part = q.part }
captured_moves (a_name_captured h) (same_word {t = t} {b = b} s) = record { tree = captures.Ident (ident t b); rest = _; is = a_name_captured h; same = refl; on = s; part = past_word all_left }

pub capture_moves : {x : PreciseCapture} {l r m : Toks} → IsCapture true x l r → Same l m → Moved free.capture (IsCapture true) x r m
capture_moves (a_capture i j t g) s =
    let a = word_moves i s in
    let b = mark_moves j a.on in
    let v = listed_move free.captured tokens.mark t b.on (λ b x l r m. captured_moves) (λ x l r m. mark_moves) in
    let c = mark_moves g v.on in
    record {
      tree = capture_of a.tree b.tree (v.values, v.marks) c.tree;
      rest = c.rest;
      is = a_capture a.is b.is v.is c.is;
      same = of5 (λ a b x p c. capture_of a b (x, p) c) a.same b.same v.same v.same_marks c.same;
      on = c.on;
      part = onward c.part (onward v.part (onward b.part a.part));
    }

-- ---- modifiers

word_ended : {n : _} {x : _} {m : Toks} → Moved tokens.word (IsWord {n = n}) x done m → Moved tokens.word (λ y k r. IsWord {n = n} y k done) x done m
word_ended {n} {x} {m} q = record { tree = q.tree; rest = q.rest; is = ended q.rest q.on q.is; same = q.same; on = q.on; part = q.part }
  where
    ended : (k : Toks) → Same done k → IsWord q.tree m k → IsWord q.tree m done
    ended k same_done i = i

constness_moves : {consts : Bool} {x : Option BoundConst} {l r m : Toks} → IsConstness consts x l r → Same l m → Moved (option_map free.constness) (IsConstness consts) x r m
constness_moves no_constness s = record { tree = None; rest = _; is = no_constness; same = refl; on = s; part = all_left }
constness_moves (a_const h i) s = let q = word_moves i s in record { tree = Some (c.Const q.tree); rest = q.rest; is = a_const h q.is; same = ap (λ (z : token.Const). Some (c.Const z)) q.same; on = q.on; part = q.part }
constness_moves (a_conditional_const h i) (same_group {b = f} v k s) =
    let q = word_ended (word_moves i k) in
    record { tree = Some (c.Conditional (groups.bracket f) q.tree); rest = _; is = a_conditional_const h q.is; same = ap (λ (z : token.Const). Some (c.Conditional (groups.bracket (delim_span none none)) z)) q.same; on = s; part = past_group all_left }

modifiers_move : {consts : Bool} {x : TraitBoundModifiers} {l r m : Toks} → AreModifiers consts x l r → Same l m → Moved free.modifiers (AreModifiers consts) x r m
modifiers_move (some_modifiers i j) s =
    let a = constness_moves i s in
    let b = optional_moves tokens.word j a.on (λ x l r m. word_moves) in
    record { tree = modifiers_of a.tree b.tree; rest = b.rest; is = some_modifiers a.is b.is; same = ap₂ (λ (a : Option BoundConst) (b : Option token.Async). modifiers_of a b) a.same b.same; on = b.on; part = onward b.part a.part }

module _ {A E : Type 0} (na : List A → List A) (ne : E → E) (part : Manner → Parts A E) (up : Moving na ne (part clearly)) where
  pub for_moves : {x : BoundLifetimes A E} {l r m : Toks} → IsFor part clearly x l r → Same l m → Moved (free.bound_lifetimes na ne) (IsFor part clearly) x r m
  for_moves i s = binder_moves na ne i s (up.param _)

  pub optional_for_moves : {x : Option (BoundLifetimes A E)} {l r m : Toks} → IsOptional (IsFor part clearly) x l r → Same l m → Moved (option_map (free.bound_lifetimes na ne)) (IsOptional (IsFor part clearly)) x r m
  optional_for_moves i s = optional_moves (free.bound_lifetimes na ne) i s (λ x l r m. for_moves)

  -- ---- trait bounds, by their parts

  abbrev Traits : Type 0
  Traits = Option (BoundLifetimes A E) × TraitBoundModifiers × Option token.Question × Path A E

  abbrev traits : Traits → Traits
  traits x = (option_map (free.bound_lifetimes na ne) x.0, free.modifiers x.1, option_map tokens.mark x.2, free.path na ne x.3)

  trait_moves : {consts : Bool} {e : End} {o : Option (BoundLifetimes A E)} {x : TraitBoundModifiers} {q : Option token.Question} {p : Path A E} {l r m : Toks} → IsTrait part clearly consts e o x q p l r → Same l m →
      Moved traits (λ z. IsTrait part clearly consts e z.0 z.1 z.2 z.3) (o, x, q, p) r m
  trait_moves (a_trait i j) s =
      let a = modifiers_move i s in
      let b = bound_path_moves na ne part up j a.on in
      record { tree = (None, a.tree, None, b.tree); rest = b.rest; is = a_trait a.is b.is; same = ap₂ (λ (a : TraitBoundModifiers) (b : Path A E). (None, a, None, b)) a.same b.same; on = b.on; part = onward b.part a.part }
  trait_moves (a_trait_for i j k) s =
      let o = for_moves i s in
      let a = modifiers_move j o.on in
      let b = bound_path_moves na ne part up k a.on in
      record {
        tree = (Some o.tree, a.tree, None, b.tree);
        rest = b.rest;
        is = a_trait_for o.is a.is b.is;
        same = of3 (λ (o : BoundLifetimes A E) (a : TraitBoundModifiers) (b : Path A E). (Some o, a, None, b)) o.same a.same b.same;
        on = b.on;
        part = onward b.part (onward a.part o.part);
      }
  trait_moves (a_trait_asked i j k) s =
      let a = modifiers_move i s in
      let o = mark_moves j a.on in
      let b = bound_path_moves na ne part up k o.on in
      record {
        tree = (None, a.tree, Some o.tree, b.tree);
        rest = b.rest;
        is = a_trait_asked a.is o.is b.is;
        same = of3 (λ (a : TraitBoundModifiers) (o : token.Question) (b : Path A E). (None, a, Some o, b)) a.same o.same b.same;
        on = b.on;
        part = onward b.part (onward o.part a.part);
      }

  pub trait_bound_moves : {consts : Bool} {e : End} {x : TraitBound A E} {l r m : Toks} → IsTraitBound part clearly consts e x l r → Same l m → Moved (free.trait_bound na ne) (IsTraitBound part clearly consts e) x r m
  trait_bound_moves (a_trait_bound {o = o} {x = x} {q = q} {p = p} i) s =
      put_in (λ (z : Traits). trait_bound_of None z.0 z.1 z.2 z.3) (λ (z : Traits). trait_bound_of None z.0 z.1 z.2 z.3) (λ z. free-trait-bound na ne None z.0 z.1 z.2 z.3) (λ z k i. a_trait_bound i) (trait_moves i s)

  held_trait : {e : End} {o : Option (BoundLifetimes A E)} {x : TraitBoundModifiers} {q : Option token.Question} {p : Path A E} {consts : Bool} {m : Toks} →
      Moved traits (λ z. IsTrait part clearly consts e z.0 z.1 z.2 z.3) (o, x, q, p) done m → Moved traits (λ z k r. IsTrait part clearly consts e z.0 z.1 z.2 z.3 k done) (o, x, q, p) done m
  held_trait {e = e} {consts = consts} {m = m} q = record { tree = q.tree; rest = q.rest; is = ended q.rest q.on q.is; same = q.same; on = q.on; part = q.part }
    where
      ended : (k : Toks) → Same done k → IsTrait part clearly consts e q.tree.0 q.tree.1 q.tree.2 q.tree.3 m k → IsTrait part clearly consts e q.tree.0 q.tree.1 q.tree.2 q.tree.3 m done
      ended k same_done i = i

  pub bound_moves : {place : BoundPlace} {e : End} {x : TypeParamBound A E} {l r m : Toks} → IsBound part clearly place e x l r → Same l m → Moved (free.bound na ne) (IsBound part clearly place e) x r m
  bound_moves (a_lifetime_bound i) s = put_in b.Lifetime b.Lifetime (free-lifetime-bound na ne) (λ y k i. a_lifetime_bound i) (lifetime_moves i s)
  bound_moves (a_bare_bound i) s = put_in b.Trait b.Trait (free-trait na ne) (λ y k i. a_bare_bound i) (trait_bound_moves i s)
  bound_moves (a_bound_in_parens {o = o} {x = x} {q = q} {p = p} {s = h} i) (same_group {b = f} v k s) =
      let t = held_trait (trait_moves i k) in
      record {
        tree = b.Trait (trait_bound_of (Some (groups.paren f)) t.tree.0 t.tree.1 t.tree.2 t.tree.3);
        rest = _;
        is = a_bound_in_parens t.is;
        same =
            free-trait na ne (trait_bound_of (Some (groups.paren f)) t.tree.0 t.tree.1 t.tree.2 t.tree.3)
            ∙ ap b.Trait (free-trait-bound na ne (Some (groups.paren f)) t.tree.0 t.tree.1 t.tree.2 t.tree.3 ∙ ap (λ (z : Traits). trait_bound_of (Some (groups.paren (delim_span none none))) z.0 z.1 z.2 z.3) t.same
            ∙ sym (free-trait-bound na ne (Some (groups.paren h)) o x q p))
            ∙ sym (free-trait na ne (trait_bound_of (Some (groups.paren h)) o x q p));
        on = s;
        part = past_group all_left;
      }
  bound_moves (a_capture_bound h i) s = put_in b.PreciseCapture b.PreciseCapture (free-capture na ne) (λ y k i. a_capture_bound h i) (capture_moves i s)

  -- ---- parameters

  pub lifetime_param_moves : {x : LifetimeParamOf A} {l r m : Toks} → IsLifetimeParam part clearly x l r → Same l m → Moved (free.lifetime_param na ne) (IsLifetimeParam part clearly) x r m
  lifetime_param_moves (a_lone_lifetime i j) s =
      let a = up.attrs _ _ _ _ i s in
      let b = lifetime_moves j a.on in
      record { tree = lifetime_param_of a.tree b.tree None ([], []); rest = b.rest; is = a_lone_lifetime a.is b.is; same = ap₂ (λ (a : List A) (b : Lifetime). lifetime_param_of a b None ([], [])) a.same b.same; on = b.on; part = onward b.part a.part }
  lifetime_param_moves (a_lifetime_with_bounds i j k t) s =
      let a = up.attrs _ _ _ _ i s in
      let b = lifetime_moves j a.on in
      let c = mark_moves k b.on in
      let v = listed_move tokens.lifetime tokens.mark t c.on (λ b x l r m. lifetime_moves) (λ x l r m. mark_moves) in
      record {
        tree = lifetime_param_of a.tree b.tree (Some c.tree) (v.values, v.marks);
        rest = v.rest;
        is = a_lifetime_with_bounds a.is b.is c.is v.is;
        same = of5 (λ (a : List A) b c x p. lifetime_param_of a b (Some c) (x, p)) a.same b.same c.same v.same v.same_marks;
        on = v.on;
        part = onward v.part (onward c.part (onward b.part a.part));
      }

  abbrev After : Type 0
  After = Option token.Colon × List (TypeParamBound A E) × List token.Plus

  abbrev after : After → After
  after x = (option_map tokens.mark x.0, map (free.bound na ne) x.1, map tokens.mark x.2)

  bounds_after_move : {c : Option token.Colon} {xs : List (TypeParamBound A E)} {ps : List token.Plus} {l r m : Toks} → AreBoundsAfter part clearly c xs ps l r → Same l m →
      Moved after (λ z. AreBoundsAfter part clearly z.0 z.1 z.2) (c, xs, ps) r m
  bounds_after_move no_colon s = record { tree = (None, [], []); rest = _; is = no_colon; same = refl; on = s; part = all_left }
  bounds_after_move (after_colon i j) s =
      let a = mark_moves i s in
      let v = bounds_move na ne part up j a.on in
      record { tree = (Some a.tree, v.values, v.marks); rest = v.rest; is = after_colon a.is v.is; same = of3 (λ (a : token.Colon) (x : List (TypeParamBound A E)) (p : List token.Plus). (Some a, x, p)) a.same v.same v.same_marks; on = v.on; part = onward v.part a.part }

  pub any_type_moves : {x : TypeTree A E} {l r m : Toks} → IsAnyType part clearly x l r → Same l m → Moved (free.ty na ne) (IsAnyType part clearly) x r m
  any_type_moves (any_type i) s = let q = up.ty _ _ _ _ _ _ i s in record { tree = q.tree; rest = q.rest; is = any_type q.is; same = q.same; on = q.on; part = q.part }

  type_param_at : {a : List A} {i : Ident} {c : Option token.Colon} {xs : List (TypeParamBound A E)} {ps : List token.Plus} {d : Option (token.Equals × TypeTree A E)} {l n r m : Toks} {k : Toks} (b : List A) → Same (word i l) k → Rest k m →
      (part clearly).attrs b m k → na b ≡ na a → is_ident i.text ≡ true → AreBoundsAfter part clearly c xs ps l n → IsOptional (IsGiven true (IsAnyType part clearly)) d n r →
      Moved (free.type_param na ne) (IsTypeParam part clearly) (type_param_of a i c (xs, ps) d) r m
  type_param_at {a} {i} {c} {xs} {ps} {d} b (same_word {t = t} {b = f} s) w at h n j k =
      let v = bounds_after_move j s in
      let o = optional_moves (free.given (free.ty na ne)) k v.on (λ x l r m i s. given_moves (free.ty na ne) i s (λ x l r m. any_type_moves)) in
      record {
        tree = type_param_of b (ident t f) v.tree.0 (v.tree.1, v.tree.2) o.tree;
        rest = o.rest;
        is = a_type_param at n v.is o.is;
        same =
            free-type-param na ne b (ident t f) v.tree.0 (v.tree.1, v.tree.2) o.tree
            ∙ of3 (λ (x : List A) (z : After) (d : Option (token.Equals × TypeTree A E)). type_param_of x (ident t none) z.0 (z.1, z.2) d) h v.same o.same ∙ sym (free-type-param na ne a i c (xs, ps) d);
        on = o.on;
        part = onward o.part (onward v.part (onward (past_word all_left) w));
      }

  pub type_param_moves : {x : TypeParam A E} {l r m : Toks} → IsTypeParam part clearly x l r → Same l m → Moved (free.type_param na ne) (IsTypeParam part clearly) x r m
  type_param_moves (a_type_param i n j k) s = let a = up.attrs _ _ _ _ i s in type_param_at a.tree a.on a.part a.is a.same n j k

  const_param_at : {a : List A} {w : token.Const} {i : Ident} {c : token.Colon} {x : TypeTree A E} {d : Option (token.Equals × E)} {n k j r m q o : Toks} (b : List A) (u : token.Const) → Same (word i n) q → Rest q o → Rest o m →
      (part clearly).attrs b m o → na b ≡ na a → IsWord u o q → tokens.word u ≡ tokens.word w → is_ident i.text ≡ true → IsMark true c n k → IsAnyType part clearly x k j → IsOptional (IsGiven true (part clearly).const_default) d j r →
      Moved (free.const_param na ne) (IsConstParam part clearly) (const_param_of a w i c x d) r m
  const_param_at b u (same_word {t = t} {b = f} s) z y at h wo g n p v e =
      let c = mark_moves p s in
      let x = any_type_moves v c.on in
      let o = optional_moves (free.given ne) e x.on (λ x l r m i s. given_moves ne i s up.const_default) in
      record {
        tree = const_param_of b u (ident t f) c.tree x.tree o.tree;
        rest = o.rest;
        is = a_const_param at wo n c.is x.is o.is;
        same = of5 (λ (b : List A) (u : token.Const) (c : token.Colon) (x : TypeTree A E) (o : Option (token.Equals × E)). const_param_of b u (ident t none) c x o) h g c.same x.same o.same;
        on = o.on;
        part = onward o.part (onward x.part (onward c.part (onward (past_word all_left) (onward z y))));
      }

  pub const_param_moves : {x : ConstParam A E} {l r m : Toks} → IsConstParam part clearly x l r → Same l m → Moved (free.const_param na ne) (IsConstParam part clearly) x r m
  const_param_moves (a_const_param i w n c t d) s =
      let a = up.attrs _ _ _ _ i s in
      let u = word_moves w a.on in
      const_param_at a.tree u.tree u.on u.part a.part a.is a.same u.is u.same n c t d

  bare_param_at : {a : List A} {i : Ident} {l m k : Toks} (b : List A) → Same (word i l) k → Rest k m → (part clearly).attrs b m k → na b ≡ na a → is_text token.underscore_text i.text ≡ true →
      Moved (free.param na ne) (IsParam part clearly params.Generics) (g.«Type» (type_param_of a i None ([], []) None)) l m
  bare_param_at {a} {i} b (same_word {t = t} {b = f} s) w at h n = record {
    tree = g.«Type» (type_param_of b (ident t f) None ([], []) None);
    rest = _;
    is = a_bare_param at n;
    same =
        free-named-param na ne (type_param_of b (ident t f) None ([], []) None)
        ∙ ap g.«Type» (free-type-param na ne b (ident t f) None ([], []) None ∙ ap (λ (x : List A). type_param_of x (ident t none) None ([], []) None) h ∙ sym (free-type-param na ne a i None ([], []) None))
        ∙ sym (free-named-param na ne (type_param_of a i None ([], []) None));
    on = s;
    part = onward (past_word all_left) w;
  }

  pub param_moves : {place : ParamPlace} {x : GenericParam A E} {l r m : Toks} → IsParam part clearly place x l r → Same l m → Moved (free.param na ne) (IsParam part clearly place) x r m
  param_moves (a_lifetime_param i) s = put_in g.Lifetime g.Lifetime (free-lifetime-param na ne) (λ y k i. a_lifetime_param i) (lifetime_param_moves i s)
  param_moves (a_named_param i) s = put_in g.«Type» g.«Type» (free-named-param na ne) (λ y k i. a_named_param i) (type_param_moves i s)
  param_moves (a_constant_param i) s = put_in g.Const g.Const (free-constant-param na ne) (λ y k i. a_constant_param i) (const_param_moves i s)
  param_moves (a_bare_param i h) s = let a = up.attrs _ _ _ _ i s in bare_param_at a.tree a.on a.part a.is a.same h

  -- ---- bounds after `dyn` and `impl`

  any_kept : (xs : List (TypeParamBound A E)) → list_any is_trait (map (free.bound na ne) xs) ≡ list_any is_trait xs
  any_kept [] = refl
  any_kept (x ∷ xs) = ap₂ (λ (a b : Bool). a || b) (trait_kept na ne x) (any_kept xs)

  any_same : (xs ys : List (TypeParamBound A E)) → map (free.bound na ne) xs ≡ map (free.bound na ne) ys → list_any is_trait ys ≡ true → list_any is_trait xs ≡ true
  any_same xs ys e h = sym (any_kept xs) ∙ ap (list_any is_trait) e ∙ any_kept ys ∙ h

  abbrev Bounds : Type 0
  Bounds = Many (TypeParamBound A E) token.Plus

  abbrev bounds : Bounds → Bounds
  bounds = tokens.many (free.bound na ne) tokens.mark

  bound_list_moves : {place : TypePlace} {kind : BoundPlace} {e : End} {v : Bounds} {l r m : Toks} → IsBoundList part clearly place kind e v l r → Same l m → Moved bounds (IsBoundList part clearly place kind e) v r m
  bound_list_moves (several_bounds h i) s = let v = bounds_move na ne part up i s in record { tree = (v.values, v.marks); rest = v.rest; is = several_bounds h v.is; same = ap₂ (λ (x : List (TypeParamBound A E)) (p : List token.Plus). (x, p)) v.same v.same_marks; on = v.on; part = v.part }
  bound_list_moves (one_bound h i) s = let q = up.bound _ _ _ _ _ _ i s in record { tree = (q.tree ∷ [], []); rest = q.rest; is = one_bound h q.is; same = ap (λ (x : TypeParamBound A E). (x ∷ [], [])) q.same; on = q.on; part = q.part }

  pub object_bounds_move : {place : TypePlace} {e : End} {v : Bounds} {l r m : Toks} → AreObjectBounds part clearly place e v l r → Same l m → Moved bounds (AreObjectBounds part clearly place e) v r m
  object_bounds_move (object_bounds {v = v} i h) s =
      let q = bound_list_moves i s in record { tree = q.tree; rest = q.rest; is = object_bounds q.is (any_same q.tree.0 v.0 (ap (λ (z : Bounds). z.0) q.same) h); same = q.same; on = q.on; part = q.part }

  pub dyn_moves : {place : TypePlace} {e : End} {x : TypeTraitObject A E} {l r m : Toks} → IsDyn part clearly place e x l r → Same l m → Moved (free.trait_object na ne) (IsDyn part clearly place e) x r m
  dyn_moves (a_dyn i j) s =
      let a = word_moves i s in
      let v = object_bounds_move j a.on in
      record { tree = trait_object_with [] (Some a.tree) v.tree; rest = v.rest; is = a_dyn a.is v.is; same = ap₂ (λ (a : token.Dyn) (v : Bounds). trait_object_with (na []) (Some a) v) a.same v.same; on = v.on; part = onward v.part a.part }

  pub object_moves : {place : TypePlace} {x : TypeTraitObject A E} {l r m : Toks} → IsObject part clearly place x l r → Same l m → Moved (free.trait_object na ne) (IsObject part clearly place) x r m
  object_moves (an_object i j) s =
      let a = optional_moves tokens.word i s (λ x l r m. word_moves) in
      let v = object_bounds_move j a.on in
      record { tree = trait_object_with [] a.tree v.tree; rest = v.rest; is = an_object a.is v.is; same = ap₂ (λ (a : Option token.Dyn) (v : Bounds). trait_object_with (na []) a v) a.same v.same; on = v.on; part = onward v.part a.part }

  pub impl_moves : {place : TypePlace} {e : End} {x : TypeImplTrait A E} {l r m : Toks} → IsImpl part clearly place e x l r → Same l m → Moved (free.impl_trait na ne) (IsImpl part clearly place e) x r m
  impl_moves (an_impl {v = v} i j h) s =
      let a = word_moves i s in
      let q = bound_list_moves j a.on in
      record {
        tree = impl_trait_with [] a.tree q.tree;
        rest = q.rest;
        is = an_impl a.is q.is (any_same q.tree.0 v.0 (ap (λ (z : Bounds). z.0) q.same) h);
        same = ap₂ (λ (a : token.Impl) (v : Bounds). impl_trait_with (na []) a v) a.same q.same;
        on = q.on;
        part = onward q.part a.part;
      }

  -- ---- without `dyn`

  abbrev First : Type 0
  First = Option (BoundLifetimes A E) × Path A E

  abbrev first : First → First
  first x = (option_map (free.bound_lifetimes na ne) x.0, free.path na ne x.1)

  first_moves : {o : Option (BoundLifetimes A E)} {p : Path A E} {l r m : Toks} → IsFirst part clearly o p l r → Same l m → Moved first (λ z. IsFirst part clearly z.0 z.1) (o, p) r m
  first_moves (a_first i h) s = let q = path_moves na ne part up i s in record { tree = (None, q.tree); rest = q.rest; is = a_first q.is (sym (word_seen _ s) ∙ h); same = ap (λ (z : Path A E). (None, z)) q.same; on = q.on; part = q.part }
  first_moves (a_first_for i j h n) s =
      let a = for_moves i s in
      let q = path_moves na ne part up j a.on in
      record {
        tree = (Some a.tree, q.tree);
        rest = q.rest;
        is = a_first_for a.is q.is (sym (word_seen _ a.on) ∙ h) (sym (mark_seen _ a.on) ∙ n);
        same = ap₂ (λ (a : BoundLifetimes A E) (z : Path A E). (Some a, z)) a.same q.same;
        on = q.on;
        part = onward q.part a.part;
      }

  abbrev Asked : Type 0
  Asked = token.Question × Path A E

  abbrev asked : Asked → Asked
  asked x = (tokens.mark x.0, free.path na ne x.1)

  asked_moves : {q : token.Question} {p : Path A E} {l r m : Toks} → IsAsked part clearly q p l r → Same l m → Moved asked (λ z. IsAsked part clearly z.0 z.1) (q, p) r m
  asked_moves (an_asked i j) s =
      let a = mark_moves i s in
      let q = bound_path_moves na ne part up j a.on in
      record { tree = (a.tree, q.tree); rest = q.rest; is = an_asked a.is q.is; same = ap₂ (λ (a : token.Question) (z : Path A E). (a, z)) a.same q.same; on = q.on; part = onward q.part a.part }

  further_move : {e : End} {xs : List (TypeParamBound A E)} {ps : List token.Plus} {l r m : Toks} → AreFurther part clearly e xs ps l r → Same l m → MovedMany (free.bound na ne) tokens.mark (AreFurther part clearly e) xs ps r m
  further_move none_further s = record { values = []; marks = []; rest = _; is = none_further; same = refl; same_marks = refl; on = s; part = all_left }
  further_move (some_further i j) s =
      let a = mark_moves i s in
      let v = bounds_move na ne part up j a.on in
      record { values = v.values; marks = a.tree ∷ v.marks; rest = v.rest; is = some_further a.is v.is; same = v.same; same_marks = cons_same a.same v.same_marks; on = v.on; part = onward v.part a.part }

  -- a bound without modifiers, by its parts
  plain_same : (t u : Option _) (x y : First) (q w : Option token.Question) → option_map tokens.paren t ≡ option_map tokens.paren u → first x ≡ first y → option_map tokens.mark q ≡ option_map tokens.mark w →
      free.bound na ne (b.Trait (trait_bound_of t x.0 no_modifiers q x.1)) ≡ free.bound na ne (b.Trait (trait_bound_of u y.0 no_modifiers w y.1))
  plain_same t u x y q w e f h =
      free-trait na ne (trait_bound_of t x.0 no_modifiers q x.1)
      ∙ ap b.Trait (free-trait-bound na ne t x.0 no_modifiers q x.1 ∙ of3 (λ t (z : First) q. trait_bound_of t z.0 no_modifiers q z.1) e f h ∙ sym (free-trait-bound na ne u y.0 no_modifiers w y.1))
      ∙ sym (free-trait na ne (trait_bound_of u y.0 no_modifiers w y.1))

  pair_same : {x y : List (TypeParamBound A E)} {p q : List token.Plus} → x ≡ y → p ≡ q → ◌≡◌ {A = Bounds} (x, p) (y, q)
  pair_same e f = ap₂ (λ (x : List (TypeParamBound A E)) (p : List token.Plus). (x, p)) e f

  -- what stands in parentheses ends there
  first_ended : {o : Option (BoundLifetimes A E)} {p : Path A E} {m : Toks} (q : Moved first (λ z. IsFirst part clearly z.0 z.1) (o, p) done m) → IsFirst part clearly q.tree.0 q.tree.1 m done
  first_ended {m = m} q = ended q.rest q.on q.is
    where
      ended : (k : Toks) → Same done k → IsFirst part clearly q.tree.0 q.tree.1 m k → IsFirst part clearly q.tree.0 q.tree.1 m done
      ended k same_done i = i

  asked_ended : {q : token.Question} {p : Path A E} {m : Toks} (a : Moved asked (λ z. IsAsked part clearly z.0 z.1) (q, p) done m) → IsAsked part clearly a.tree.0 a.tree.1 m done
  asked_ended {m = m} a = ended a.rest a.on a.is
    where
      ended : (k : Toks) → Same done k → IsAsked part clearly a.tree.0 a.tree.1 m k → IsAsked part clearly a.tree.0 a.tree.1 m done
      ended k same_done i = i

  asked_same : (s t : DelimSpan) (x y : Asked) → asked x ≡ asked y → free.bound na ne (in_parens s None (Some x.0) x.1) ≡ free.bound na ne (in_parens t None (Some y.0) y.1)
  asked_same s t x y e =
      plain_same (Some (groups.paren s)) (Some (groups.paren t)) (None, x.1) (None, y.1) (Some x.0) (Some y.0) refl (ap (λ (z : Asked). (None, z.1)) e) (ap (λ (z : Asked). Some z.0) e)

  pub bare_bounds_move : {place : TypePlace} {e : End} {v : Bounds} {l r m : Toks} → AreBareBounds part clearly place e v l r → Same l m → Moved bounds (AreBareBounds part clearly place e) v r m
  bare_bounds_move (path_alone {x = x} {p = p} (a_first_for i j h n)) s =
      let a = for_moves i s in
      let q = path_moves na ne part up j a.on in
      record {
        tree = (b.Trait (named_bound (Some a.tree) None q.tree) ∷ [], []);
        rest = q.rest;
        is = path_alone (a_first_for a.is q.is (sym (word_seen _ a.on) ∙ h) (sym (mark_seen _ a.on) ∙ n));
        same = pair_same (cons_same (plain_same None None (Some a.tree, q.tree) (Some x, p) None None refl (ap₂ (λ (a : BoundLifetimes A E) (z : Path A E). (Some a, z)) a.same q.same) refl) refl) refl;
        on = q.on;
        part = onward q.part a.part;
      }
  bare_bounds_move (path_and_plus {o = o} {p = p} h i j k) s =
      let q = first_moves i s in
      let c = mark_moves j q.on in
      let v = bounds_move na ne part up k c.on in
      record {
        tree = (b.Trait (named_bound q.tree.0 None q.tree.1) ∷ v.values, c.tree ∷ v.marks);
        rest = v.rest;
        is = path_and_plus h q.is c.is v.is;
        same = pair_same (cons_same (plain_same None None q.tree (o, p) None None refl q.same refl) v.same) (cons_same c.same v.same_marks);
        on = v.on;
        part = onward v.part (onward c.part q.part);
      }
  bare_bounds_move (held_and_plus {o = o} {p = p} {s = d} h i j k) (same_group {b = f} g t s) =
      let q = first_moves i t in
      let c = mark_moves j s in
      let v = bounds_move na ne part up k c.on in
      record {
        tree = (in_parens f q.tree.0 None q.tree.1 ∷ v.values, c.tree ∷ v.marks);
        rest = v.rest;
        is = held_and_plus h (first_ended q) c.is v.is;
        same = pair_same (cons_same (plain_same (Some (groups.paren f)) (Some (groups.paren d)) q.tree (o, p) None None refl q.same refl) v.same) (cons_same c.same v.same_marks);
        on = v.on;
        part = onward v.part (onward c.part (past_group all_left));
      }
  bare_bounds_move (asked_first {q = x} {p = p} {s = d} i k) (same_group {b = f} g t s) =
      let q = asked_moves i t in
      let v = further_move k s in
      record {
        tree = (in_parens f None (Some q.tree.0) q.tree.1 ∷ v.values, v.marks);
        rest = v.rest;
        is = asked_first (asked_ended q) v.is;
        same = pair_same (cons_same (asked_same f d q.tree (x, p) q.same) v.same) v.same_marks;
        on = v.on;
        part = onward v.part (past_group all_left);
      }
  bare_bounds_move (asked_in_two {q = x} {p = p} {s = d} h i j k) (same_group {b = f} g (same_group w t same_done) s) =
      let q = asked_moves i t in
      let c = mark_moves j s in
      let v = bounds_move na ne part up k c.on in
      record {
        tree = (in_parens f None (Some q.tree.0) q.tree.1 ∷ v.values, c.tree ∷ v.marks);
        rest = v.rest;
        is = asked_in_two h (asked_ended q) c.is v.is;
        same = pair_same (cons_same (asked_same f d q.tree (x, p) q.same) v.same) (cons_same c.same v.same_marks);
        on = v.on;
        part = onward v.part (onward c.part (past_group all_left));
      }
  bare_bounds_move (lifetime_first {xs = xs} h i n) s =
      let v = bounds_move na ne part up i s in
      record { tree = (v.values, v.marks); rest = v.rest; is = lifetime_first (sym (lifetime_seen s) ∙ h) v.is (any_same v.values xs v.same n); same = pair_same v.same v.same_marks; on = v.on; part = v.part }
