-- Types, paths, bounds, parameters and generics of any height on lists that are the same aside from spans.
use Rattle.std.proofs.Common.{◌≡◌, ℕ, zero, suc, Bool, true, List, [], Option, Some, None, refl, sym, ap, ◌∙◌, subst}
use Rattle.token_core.specs.Toks.{Toks}
use Rattle.syn_path.specs.Values.{SpelledValues}
use Rattle.syn_ty.specs.declared.generics.GenericParamOf.TheOpen as o
use Rattle.syn_ty.specs.declared.path.PathArgumentsOf.{out-PathArgumentsOf}
use Rattle.syn_ty.specs.declared.path.PathArgumentsOf.TheVariants as a
use Rattle.syn_ty.specs.path.Spelling.{IsAngle, IsArguments, some_arguments}
use Rattle.syn_ty.specs.ty.Parts.{Manner, clearly, Parts}
use Rattle.syn_ty.specs.ty.Spelt.{spelt_to, IsPathAlone, a_path_alone}
use Rattle.syn_ty.specs.ty.Trees.{AngleBracketed, Layer, Path, PathArguments, QSelf}
use Rattle.syn_ty.specs.ty.Types.{qualified_with}
use Rattle.syn_laws.specs.aside.Types as free
use Rattle.syn_laws.proofs.aside_laws.Attrs.{Kept}
use Rattle.syn_laws.proofs.aside_laws.BoundForms.{bound_moves, param_moves}
use Rattle.syn_laws.proofs.aside_laws.Layers.{free-path-type}
use Rattle.syn_laws.proofs.aside_laws.Parts.{Moving}
use Rattle.syn_laws.proofs.aside_laws.PathForms.{angle_moves, any_path_moves, argument_moves, arguments_move}
use Rattle.syn_path.proofs.aside_laws.Same.{Same, Mover}
use Rattle.syn_laws.proofs.aside_laws.TypeForms.{type_moves}

-- ---- arguments in angle brackets

abbrev in_layer : {A E : Type 0} → Layer o.PathArgumentsOf-F A E → Option (AngleBracketed A E)
in_layer o.None = None
in_layer (o.AngleBracketed x) = Some x
in_layer (o.Parenthesized x) = None

one : {A : Type 0} (x y : A) → ◌≡◌ {A = Option A} (Some x) (Some y) → x ≡ y
one x y e = cc

module _ {A E : Type 0} where
  one_angle : (x y : AngleBracketed A E) → a.AngleBracketed x ≡ a.AngleBracketed y → x ≡ y
  one_angle x y e = one x y (sym (ap in_layer (a.outs-AngleBracketed x)) ∙ ap (λ (z : PathArguments A E). in_layer (out-PathArgumentsOf A E z)) e ∙ ap in_layer (a.outs-AngleBracketed y))

  angle_in : (part : Manner → Parts A E) {y : PathArguments A E} {l r : Toks} → IsArguments part clearly y l r → (x : AngleBracketed A E) → y ≡ a.AngleBracketed x → IsAngle part clearly x l r
  angle_in part {l = l} {r = r} (some_arguments {x = z} i) x e = subst (λ t. IsAngle part clearly t l r) (one_angle z x e) i

-- ---- heights

module _ {A E : Type 0} (na : List A → List A) (ne : E → E) (attrs : Bool → List A → Toks → Toks → Type 0) (values : SpelledValues E)
    (attrs_move : Mover na (attrs true)) (len_moves : (x : E) (l m : Toks) → values.len x l → Same l m → Kept ne values.len x m) (argument_moved : Mover ne (values.const_argument true)) (default_moved : Mover ne (values.const_default true)) where
  pub knot : (n : ℕ) → Moving na ne (spelt_to attrs values n clearly)
  knot zero = record {
    ty = λ place e x l r m i s. absurd i;
    bound = λ place e x l r m i s. absurd i;
    param = λ place x l r m i s. absurd i;
    argument = λ x l r m i s. absurd i;
    arguments = λ x l r m i s. absurd i;
    angle = λ x l r m i s. absurd i;
    attrs = λ x l r m i s. absurd i;
    len = λ x l m i s. absurd i;
    const_argument = λ x l r m i s. absurd i;
    const_default = λ x l r m i s. absurd i;
  }
  knot (suc n) = record {
    ty = λ place e x l r m i s. type_moves na ne (spelt_to attrs values n) (knot n) i s;
    bound = λ place e x l r m i s. bound_moves na ne (spelt_to attrs values n) (knot n) i s;
    param = λ place x l r m i s. param_moves na ne (spelt_to attrs values n) (knot n) i s;
    argument = λ x l r m i s. argument_moves na ne (spelt_to attrs values n) (knot n) (λ e x l r m i s. type_moves na ne (spelt_to attrs values n) (knot n) i s) i s;
    arguments = λ x l r m i s. arguments_move na ne (spelt_to attrs values n) (knot n) i s;
    angle = λ x l r m i s. let q = angle_moves na ne (spelt_to attrs values n) (knot n) (angle_in (spelt_to attrs values n) i x refl) s in record { tree = q.tree; rest = q.rest; is = some_arguments q.is; same = q.same; on = q.on; part = q.part };
    attrs = attrs_move;
    len = len_moves;
    const_argument = argument_moved;
    const_default = default_moved;
  }

  -- a path type by itself
  abbrev Named : Type 0
  Named = Option (QSelf A E) × Path A E

  pub path_alone_moves : (n : ℕ) → Mover (free.path_type na ne) (IsPathAlone attrs values (spelt_to attrs values n) clearly)
  path_alone_moves n x l r m (a_path_alone {o = o} {p = p} i) s =
      let q = any_path_moves na ne (spelt_to attrs values n) (knot n) i s in
      record {
        tree = qualified_with [] q.tree.0 q.tree.1;
        rest = q.rest;
        is = a_path_alone q.is;
        same = free-path-type na ne [] q.tree.0 q.tree.1 ∙ ap (λ (z : Named). qualified_with (na []) z.0 z.1) q.same ∙ sym (free-path-type na ne [] o p);
        on = q.on;
        part = q.part;
      }
