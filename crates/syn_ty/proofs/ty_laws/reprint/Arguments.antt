-- Arguments of paths, alone and between angle marks, print clearly in their normal form, where the types that may begin them do, and so do the names of associated items.
use Rattle.std.proofs.Common.{◌≡◌, true, List, ◌++◌, Option, Some, None, refl, sym, ◌∙◌, ap, subst, append_assoc}
use Rattle.syn_ty.proofs.ty_laws.words.Tokens.{Lifetime, Ident, Many, Print, Visible, IsLifetime, Toks, row}
use Rattle.syn_ty.proofs.ty_laws.words.Paths.{AsWritten, is_mod_word, NormalValues, Values}
use Rattle.syn_ty.proofs.ty_laws.words.Forms.{Parameter, Plus, is_named_word}
use Rattle.syn_ty.proofs.ty_laws.words.Types.{out-PathArgumentsOf, AreBounds, ArgumentPlace, ConstraintEnds, IsItemName, an_item, an_item_with_arguments, IsArgument, a_lifetime_argument, a_type_argument, a_const_argument, an_assoc_type, an_assoc_const, a_constraint, assoc_const_of, assoc_type_of, constraint_of, Manner, plainly, clearly, End, Parts, Relation, AngleBracketed, GenericArgument, Layer, TypeParamBound, TypeTree}
use Rattle.token_core.specs.Lifetimes as lifetimes
use Rattle.token_core.specs.Prints as p
use Rattle.token_core.specs.Tokens as token
use Rattle.token_core.proofs.WordSpells.{lifetime_again, lifetime_visible, lifetime_whole}
use Rattle.syn_path.proofs.Words.{AgainFront}
use Rattle.syn_ty.specs.declared.generics.GenericParamOf.TheOpen as o
use Rattle.syn_ty.specs.declared.path.GenericArgumentOf.TheVariants as k
use Rattle.syn_ty.specs.declared.path.PathArgumentsOf.TheVariants as a
use Rattle.syn_ty.specs.ty.Normal as normal
use Rattle.syn_ty.specs.ty.Printing as printing
use Rattle.syn_ty.proofs.ty_laws.reprint.Within.{Again, SuppliedAgain}
use Rattle.syn_ty.proofs.ty_laws.reprint.Angles.{Then, then_front, made_front, IsIdent, ident_front}
use Rattle.syn_ty.proofs.ty_laws.reprint.Normals.{normal-AngleBracketed, normal-argument-Lifetime, normal-argument-Type, normal-argument-Const, normal-argument-AssocType, normal-argument-AssocConst, normal-argument-Constraint, assoc_type_normal, constraint_normal}
use Rattle.syn_ty.proofs.ty_laws.Prints.{arguments-AngleBracketed, argument-Lifetime, argument-Type, argument-Const, argument-AssocType, argument-AssocConst, argument-Constraint, assoc_type_parts, constraint_parts}
use Rattle.syn_ty.proofs.ty_laws.reprint.Leaves.{mark_front}

-- a lifetime is its own normal form
pub lifetime_front : (x : Lifetime) (l r : Toks) → IsLifetime x l r → AgainFront IsLifetime (λ (z : Lifetime). z) lifetimes.print x l r
lifetime_front x l r i =
    record {
      spelt = λ h. lifetime_again x l r h i;
      visible = λ h u w. lifetime_whole x (row (lifetimes.print x) h) h (lifetime_again x l r h i) w;
      seen = λ u. lifetime_visible x l r i u;
      stays = refl;
      same = refl;
    }

-- ---- arguments of a segment in angle brackets are one tree

module _ {A E : Type 0} where
  -- what they hold, or those given where they hold none
  angle_layer : AngleBracketed A E → Layer o.PathArgumentsOf-F A E → AngleBracketed A E
  angle_layer x o.None = x
  angle_layer x (o.AngleBracketed y) = y
  angle_layer x (o.Parenthesized y) = x

  same_angle : (x y : AngleBracketed A E) → a.AngleBracketed x ≡ a.AngleBracketed y → x ≡ y
  unfolding angle_layer
  same_angle x y h = sym (ap (angle_layer x) (a.outs-AngleBracketed x)) ∙ ap (λ z. angle_layer x (out-PathArgumentsOf A E z)) h ∙ ap (angle_layer x) (a.outs-AngleBracketed y)

module _ {A E : Type 0} (na : List A → List A) (ne : NormalValues E) (pa : List A → Print) (pe : Values E) (part : Manner → Parts A E) (again : Again na ne pa pe part) where
  -- arguments in angle brackets, by those of a segment
  pub angle_part_again : (x : AngleBracketed A E) (l r : Toks) → (part plainly).arguments (a.AngleBracketed x) l r →
      AgainFront (λ (z : AngleBracketed A E). (part clearly).arguments (a.AngleBracketed z)) (normal.angle na ne) (printing.angle pa pe AsWritten) x l r
  angle_part_again x l r i =
      let h = again.arguments (a.AngleBracketed x) l r i in
      let once = normal-AngleBracketed na ne x in
      let shown = arguments-AngleBracketed pa pe AsWritten x in
      let y = normal.angle na ne x in
      record {
        spelt = λ t. subst (λ z. (part clearly).arguments (a.AngleBracketed y) (row z t) t) shown (subst (λ z. (part clearly).arguments z (row (printing.arguments pa pe AsWritten (a.AngleBracketed x)) t) t) once (h.spelt t));
        visible = λ t u w. subst (λ z. Visible (row z t)) shown (h.visible t u w);
        seen = h.seen;
        stays = same_angle (normal.angle na ne y) y (sym (normal-AngleBracketed na ne y) ∙ ap (normal.arguments na ne) (sym once) ∙ h.stays ∙ once);
        same = sym (arguments-AngleBracketed pa pe AsWritten y) ∙ ap (printing.arguments pa pe AsWritten) (sym once) ∙ h.same ∙ shown;
      }

  -- ---- types that may begin an argument, by how their spelling is told

  module _ (first other : End → Relation (TypeTree A E)) where
    -- the name of an associated item and its arguments
    abbrev pub Item : Type 0
    Item = Ident × Option (AngleBracketed A E)

    abbrev pub Named : Item → Toks → Toks → Type 0
    Named z l r = IsItemName other part clearly z.0 z.1 l r

    abbrev pub normal_item : Item → Item
    normal_item z = (z.0, normal.optional_angle na ne z.1)

    abbrev pub print_item : Item → Print
    print_item z = p.ident z.0 ++ printing.optional_angle pa pe z.1

    with_angle : (z : Ident × AngleBracketed A E) (l r : Toks) → Then (IsIdent is_named_word) (λ (z : AngleBracketed A E). (part clearly).arguments (a.AngleBracketed z)) z l r → Named (z.0, Some z.1) l r
    with_angle z l r i = subst (λ m. Named (z.0, Some z.1) m r) (sym i.1.1) (an_item_with_arguments i.1.0 i.2)

    pub item_again : (i : Ident) (g : Option (AngleBracketed A E)) (l r : Toks) → IsItemName first part plainly i g l r → AgainFront Named normal_item print_item (i, g) l r
    item_again i g l r (an_item h) =
        made_front (IsIdent is_mod_word) Named (λ (z : Ident). z) normal_item (λ (z : Ident). p.ident z) print_item (λ (z : Ident). (z, None))
        (λ z l r i. subst (λ m. Named (z, None) m r) (sym i.1) (an_item i.0)) (λ z. refl) (λ z. refl) i l r (ident_front is_mod_word i r h)
    item_again i g l r (an_item_with_arguments {x = x} {l = m} h t) =
        made_front (Then (IsIdent is_named_word) (λ (z : AngleBracketed A E). (part clearly).arguments (a.AngleBracketed z))) Named _ normal_item _ print_item (λ (z : Ident × AngleBracketed A E). (z.0, Some z.1))
        with_angle (λ z. refl) (λ z. refl) (i, x) l r (then_front (ident_front is_named_word i m h) (angle_part_again x m r t))

    -- ---- arguments in a place

    module _ (supplied : SuppliedAgain na ne pa pe part) (place : ArgumentPlace)
        (types : (e : End) (x : TypeTree A E) (l r : Toks) → first e x l r → AgainFront (other e) (normal.ty na ne) (printing.ty pa pe) x l r)
        (bounds : (e : End) (xs : List (TypeParamBound A E)) (ps : List token.Plus) (l r : Toks) → AreBounds part plainly Parameter (ConstraintEnds place) true e xs ps l r →
        AgainFront (λ (z : Many (TypeParamBound A E) token.Plus). AreBounds part clearly Parameter (ConstraintEnds place) true e z.0 z.1) (normal.bounds na ne) (printing.bounds_joined pa pe) (xs, ps) l r) where
      abbrev Clear : GenericArgument A E → Toks → Toks → Type 0
      Clear = IsArgument other part clearly place

      abbrev form : GenericArgument A E → GenericArgument A E
      form = normal.argument na ne

      abbrev shown : GenericArgument A E → Print
      shown = printing.argument pa pe

      -- what is told of an item: a type, an expression, or bounds
      abbrev make_type : Item × (token.Equals × TypeTree A E) → GenericArgument A E
      make_type z = k.AssocType (assoc_type_of z.0.0 z.0.1 z.1.0 z.1.1)

      abbrev make_const : Item × (token.Equals × E) → GenericArgument A E
      make_const z = k.AssocConst (assoc_const_of z.0.0 z.0.1 z.1.0 z.1.1)

      abbrev make_constraint : Item × (token.Colon × Many (TypeParamBound A E) token.Plus) → GenericArgument A E
      make_constraint z = k.Constraint (constraint_of z.0.0 z.0.1 z.1.0 z.1.1)

      type_form : (z : Item × (token.Equals × TypeTree A E)) → form (make_type z) ≡ make_type (normal_item z.0, (z.1.0, normal.ty na ne z.1.1))
      type_form z = normal-argument-AssocType na ne (assoc_type_of z.0.0 z.0.1 z.1.0 z.1.1) ∙ ap k.AssocType (assoc_type_normal na ne z.0.0 z.0.1 z.1.0 z.1.1)

      type_shown : (z : Item × (token.Equals × TypeTree A E)) → shown (make_type z) ≡ print_item z.0 ++ (p.mark z.1.0 ++ printing.ty pa pe z.1.1)
      type_shown z =
          argument-AssocType pa pe (assoc_type_of z.0.0 z.0.1 z.1.0 z.1.1) ∙ assoc_type_parts pa pe z.0.0 z.0.1 z.1.0 z.1.1
          ∙ sym (append_assoc (p.ident z.0.0) (printing.optional_angle pa pe z.0.1) (p.mark z.1.0 ++ printing.ty pa pe z.1.1))

      const_shown : (z : Item × (token.Equals × E)) → shown (make_const z) ≡ print_item z.0 ++ (p.mark z.1.0 ++ pe.const_argument z.1.1)
      const_shown z = argument-AssocConst pa pe (assoc_const_of z.0.0 z.0.1 z.1.0 z.1.1) ∙ sym (append_assoc (p.ident z.0.0) (printing.optional_angle pa pe z.0.1) (p.mark z.1.0 ++ pe.const_argument z.1.1))

      constraint_form : (z : Item × (token.Colon × Many (TypeParamBound A E) token.Plus)) → form (make_constraint z) ≡ make_constraint (normal_item z.0, (z.1.0, normal.bounds na ne z.1.1))
      constraint_form z = normal-argument-Constraint na ne (constraint_of z.0.0 z.0.1 z.1.0 z.1.1) ∙ ap k.Constraint (constraint_normal na ne z.0.0 z.0.1 z.1.0 z.1.1)

      constraint_shown : (z : Item × (token.Colon × Many (TypeParamBound A E) token.Plus)) → shown (make_constraint z) ≡ print_item z.0 ++ (p.mark z.1.0 ++ printing.bounds_joined pa pe z.1.1)
      constraint_shown z =
          argument-Constraint pa pe (constraint_of z.0.0 z.0.1 z.1.0 z.1.1) ∙ constraint_parts pa pe z.0.0 z.0.1 z.1.0 z.1.1
          ∙ sym (append_assoc (p.ident z.0.0) (printing.optional_angle pa pe z.0.1) (p.mark z.1.0 ++ printing.bounds_joined pa pe z.1.1))

      pub argument_again : (x : GenericArgument A E) (l r : Toks) → IsArgument first part plainly place x l r → AgainFront Clear form shown x l r
      argument_again x l r (a_lifetime_argument {x = y} i) =
          made_front IsLifetime Clear (λ (z : Lifetime). z) form lifetimes.print shown k.Lifetime (λ z l r i. a_lifetime_argument i) (normal-argument-Lifetime na ne) (argument-Lifetime pa pe) y l r (lifetime_front y l r i)
      argument_again x l r (a_type_argument {e = e} {x = y} i) =
          made_front (other e) Clear (normal.ty na ne) form (printing.ty pa pe) shown k.«Type» (λ z l r i. a_type_argument i) (normal-argument-Type na ne) (argument-Type pa pe) y l r (types e y l r i)
      argument_again x l r (a_const_argument {x = y} i) =
          made_front (part clearly).const_argument Clear ne.const_argument form pe.const_argument shown k.Const (λ z l r i. a_const_argument i) (normal-argument-Const na ne) (argument-Const pa pe) y l r (supplied.const_argument y l r i)
      argument_again x l r (an_assoc_type {i = i} {o = g} {q = q} {e = e} {x = y} {m = m} {n = n} t j w) =
          made_front _ Clear _ form _ shown make_type (λ z l r i. an_assoc_type i.1 i.2.1 i.2.2) type_form type_shown ((i, g), (q, y)) l r (then_front (item_again i g l m t) (then_front (mark_front q m n j) (again.ty Plus e y n r w)))
      argument_again x l r (an_assoc_const {i = i} {o = g} {q = q} {x = y} {m = m} {n = n} t j w) =
          made_front _ Clear _ form _ shown make_const (λ z l r i. an_assoc_const i.1 i.2.1 i.2.2) (λ z. normal-argument-AssocConst na ne (assoc_const_of z.0.0 z.0.1 z.1.0 z.1.1)) const_shown ((i, g), (q, y)) l r
          (then_front (item_again i g l m t) (then_front (mark_front q m n j) (supplied.const_argument y n r w)))
      argument_again x l r (a_constraint {i = i} {o = g} {c = c} {e = e} {xs = xs} {ps = ps} {m = m} {n = n} t j w) =
          made_front _ Clear _ form _ shown make_constraint (λ z l r i. a_constraint i.1 i.2.1 i.2.2) constraint_form constraint_shown ((i, g), (c, (xs, ps))) l r
          (then_front (item_again i g l m t) (then_front (mark_front c m n j) (bounds e xs ps n r w)))
