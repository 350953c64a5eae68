-- A type read at an invisible group is what follows the group says it is.
use Rattle.std.proofs.Common.{◌≡◌, Bool, true, false, not, ◌&&◌, List, [], Option, Some, None, Ok, inl, inr, refl, sym, ◌∙◌, ap, subst}
use Rattle.syn_ty.proofs.ty_laws.words.Tokens.{GroupToken, sees_invisible, Reader, pure, Stream}
use Rattle.syn_ty.proofs.ty_laws.words.Paths.{ReadValues, AsWritten}
use Rattle.syn_ty.proofs.ty_laws.words.Forms.{TypePlace, Plus, in_invisible, ahead}
use Rattle.syn_ty.proofs.ty_laws.words.Types.{path, reads_below, ty, Readers, a_type, some_arguments, as_path, type_step, TypePath, TypeTree, qualified_with}
use Rattle.syn_forms.specs.paths.Reading as paths
use Rattle.syn_ty.specs.declared.ty.TypeOf.TheVariants as v
use Rattle.syn_ty.specs.path.Reading.{rest}
use Rattle.syn_ty.specs.ty.GroupCases.{ReadsOn, IsReadGrouped, alone, arguments, grouped, qualifies, segments}
use Rattle.syn_ty.specs.ty.Groups.{takes_arguments}
use Rattle.syn_ty.specs.ty.Reading.{after_group, group_type, group_with_arguments, group_with_segments, group_without_segments, has_arguments, path_within, qself_in, sees_further_arguments, sees_further_segment, with_arguments, with_path}
use Rattle.syn_ty.specs.ty.Types.{group_with}
use Rattle.token_core.proofs.Took.{branch, mapped}
use Rattle.token_core.proofs.Turns.{chain, same_pair}
use Rattle.syn_ty.proofs.ty_laws.Knot.{ty-turn}

module _ {A E : Type 0} (r : Readers A E) (g : GroupToken) (x : TypeTree A E) (s t : Stream) (y : TypeTree A E) where
  -- the group by itself
  by_itself : sees_further_segment s.rest ≡ false → (sees_further_arguments s.rest && takes_arguments (as_path x)) ≡ false →
      pure (v.Group (group_with [] g x)) s ≡ Ok (y, t) → ReadsOn r g x s y t
  by_itself h k e =
      let w = same_pair (v.Group (group_with [] g x)) y s t e in
      subst (λ z. ReadsOn r g x s z t) w.0 (subst (λ z. ReadsOn r g x s (v.Group (group_with [] g x)) z) w.1 (alone h k))

  with_segments : sees_further_segment s.rest ≡ true → (o : Option (TypePath A E)) → as_path x ≡ o → group_with_segments r g x o s ≡ Ok (y, t) → ReadsOn r g x s y t
  unfolding group_with_segments
  with_segments h (Some p) k e =
      let w = mapped (rest r (path_within p) s) (λ q. v.Path (with_path p q)) y t e in
      subst (λ z. ReadsOn r g x s z t) w.is (segments h k w.was)
  with_segments h None k e =
      let w = mapped (path r AsWritten s) (λ q. v.Path (qualified_with [] (Some (qself_in g x)) q)) y t e in
      subst (λ z. ReadsOn r g x s z t) w.is (qualifies h k w.was)

  takes : (p : TypePath A E) → sees_further_segment s.rest ≡ false → sees_further_arguments s.rest ≡ true → as_path x ≡ Some p → has_arguments (path_within p) ≡ false →
      with_arguments r p s ≡ Ok (y, t) → ReadsOn r g x s y t
  takes p h j k n e =
      let a = chain (r some_arguments s) _ y t e in
      let w = chain (rest r (paths.path_with a.value (path_within p)) a.rest) (λ q. pure (v.Path (with_path p q))) y t a.goes in
      let f = same_pair (v.Path (with_path p w.value)) y w.rest t w.goes in
      subst (λ z. ReadsOn r g x s z t) f.0 (arguments h j k n a.was (w.was ∙ ap (λ (z : Stream). Ok (w.value, z)) f.1))

  takes_none : {o : Option (TypePath A E)} → as_path x ≡ o → takes_arguments o ≡ false → (sees_further_arguments s.rest && takes_arguments (as_path x)) ≡ false
  takes_none {o} k n = ap (λ z. sees_further_arguments s.rest && takes_arguments z) k ∙ ap (λ z. sees_further_arguments s.rest && z) n ∙ never (sees_further_arguments s.rest)
    where
      never : (b : Bool) → (b && false) ≡ false
      never true = refl
      never false = refl

  with_more : sees_further_segment s.rest ≡ false → sees_further_arguments s.rest ≡ true → (o : Option (TypePath A E)) → as_path x ≡ o →
      group_with_arguments r g x o s ≡ Ok (y, t) → ReadsOn r g x s y t
  unfolding group_with_arguments
  with_more h j None k e = by_itself h (takes_none k refl) e
  with_more h j (Some p) k e =
      elim (branch (has_arguments (path_within p)) _ _ s (Ok (y, t)) e) [
        | inl n ↦ by_itself h (takes_none k (ap not n.0)) n.1
        | inr n ↦ takes p h j k n.0 n.1
      ]

  without : sees_further_segment s.rest ≡ false → group_without_segments r g x s ≡ Ok (y, t) → ReadsOn r g x s y t
  unfolding group_without_segments
  without h e =
      elim (branch (sees_further_arguments s.rest) _ _ s (Ok (y, t)) e) [
        | inl j ↦ with_more h j.0 (as_path x) refl j.1
        | inr j ↦ by_itself h (ap (λ z. z && takes_arguments (as_path x)) j.0) j.1
      ]

  goes_on : after_group r (g, x) s ≡ Ok (y, t) → ReadsOn r g x s y t
  unfolding after_group
  goes_on e =
      elim (branch (sees_further_segment s.rest) _ _ s (Ok (y, t)) e) [
        | inl h ↦ with_segments h.0 (as_path x) refl h.1
        | inr h ↦ without h.0 h.1
      ]

pub group_read : {A E : Type 0} (r : Readers A E) (s t : Stream) (y : TypeTree A E) → group_type r s ≡ Ok (y, t) → IsReadGrouped r s y t
unfolding group_type
group_read r s t y e =
    let k = chain (in_invisible (r (a_type Plus)) s) (after_group r) y t e in
    grouped k.was (goes_on r k.value.0 k.value.1 k.rest t y k.goes)

-- in each place
pub type_group : {A E : Type 0} (attrs : Reader (List A)) (values : ReadValues E) (place : TypePlace) (s t : Stream) (y : TypeTree A E) → sees_invisible s.rest ≡ true →
    ty attrs values place s ≡ Ok (y, t) → IsReadGrouped (reads_below attrs values (ahead s)) s y t
unfolding type_step
type_group attrs values place s t y h e =
    elim (branch (sees_invisible s.rest) _ _ s (Ok (y, t)) (sym (ty-turn attrs values place s) ∙ e)) [
      | inl k ↦ group_read (reads_below attrs values (ahead s)) s t y k.1
      | inr k ↦ let f : true ≡ false = sym h ∙ k.0 in cc
    ]

pub ruleset groups = (type_group)
