-- `Content` as a type that may hold the type that holds it.
use mathlib.Core.Path.{◌≡◌, refl, sym, ap}
use mathlib.Core.Logic.{◌⊎◌, inl, inr}
use mathlib.Core.List.{List, []}
use mathlib.Core.Former.{Former, this, const, pair, or, list, via, children}
use base.Stored.{code_map, gcons}
use denote.Hole.Carrier.{listed, list-listed}
use Rattle.std.specs.Prelude.{map}
use Rattle.token_core.specs.formers.items.Items as items
use Rattle.token_core.specs.contracts.items.Items as T
use denote.RattleType.{RattleType}
use denote.HoleLaws.{Alike}
use denote.HolePlaces.{Recodes, eachs, struct_places, enum_places, laid}
use denote.Hole.Fix.{over}
use denote.Param.Weighed.{Weighed, w_list}
use denote.Model.Placed.{held, view_places}
use Rattle.token_core.specs.declared.tree.Delimiter.{Delimiter}
use Rattle.token_core.specs.declared.tree.Delimiter.TheVariants.{Parenthesis}
use Rattle.token_core.specs.Codes.{delimiter_code}
use Rattle.token_core.specs.Kept.{list_of, delimiter_of}
use Rattle.token_core.specs.formers.content.Held as lone
use Rattle.token_core.specs.declared.content.Keep.{Keep}
use Rattle.token_core.specs.declared.content.Keep.TheVariants.{Own, Shared}
use Rattle.token_core.specs.contracts.content.Keep as K
use Rattle.token_core.specs.declared.content.Content.TheInside.{Inside}
use Rattle.token_core.specs.declared.content.Content.TheView.{view, invariant}
use Rattle.token_core.specs.contracts.content.Content as C
use Rattle.token_core.specs.contracts.content.Content.TheInside as I

abbrev pub the_former : Former {0} → Former {0}
the_former g = pair (list g) (const Delimiter)

abbrev pub the_weighed : {g : Former {0}} → Weighed g → Weighed (the_former g)
the_weighed w = record { weight = λ X μ v. (w_list w).weight X μ v.0; puts = λ X μ v. (w_list w).puts X μ v.0 }

pub the_empty : List ⊥ × Delimiter
the_empty = ([], Parenthesis)

abbrev pub the_items : (X : Type 0) → List X × Delimiter → List X
the_items X d = d.0

pub the_items_listed : (X : Type 0) (d : List X × Delimiter) → listed _ (children (the_former this) X d) ≡ the_items X d
the_items_listed X d = list-listed X d.0

module _ {X : Type 0} where
  abbrev split : Keep X → (List X × Delimiter) ⊎ (List X × Delimiter)
  split (Own d x) = inl (x, d)
  split (Shared d x) = inr (x, d)

  abbrev join : (List X × Delimiter) ⊎ (List X × Delimiter) → Keep X
  join (inl p) = Own p.1 p.0
  join (inr p) = Shared p.1 p.0

  join-split : (k : Keep X) → join (split k) ≡ k
  join-split (Own d x) = refl
  join-split (Shared d x) = refl

  split-join : (s : (List X × Delimiter) ⊎ (List X × Delimiter)) → split (join s) ≡ s
  split-join (inl p) = refl
  split-join (inr p) = refl

abbrev kinds : Former {0}
kinds = via (or (pair (list this) (const Delimiter)) (pair (list this) (const Delimiter))) (λ X. Keep X) (λ X. split) (λ X. join) (λ X. join-split) (λ X. split-join)

abbrev fields : Former {0}
fields = via kinds Inside (λ X a. a.kept) (λ X v. record { kept = v }) (λ X a. refl) (λ X v. refl)

abbrev over_kind : {X Y : Type 0} → (X → Y) → Keep X → Keep Y
over_kind h (Own d x) = Own d (map h x)
over_kind h (Shared d x) = Shared d (map h x)

-- what contracts see of it
abbrev seen : {X : Type 0} → Keep X → List X × Delimiter
seen k = (list_of k, delimiter_of k)

module _ (X : Type 0) where
  keeps : (k : Keep X) → held (the_former this) X (seen k) ≡ held fields X (record { kept = k })
  keeps (Own d x) = refl
  keeps (Shared d x) = refl

  module _ (Y : Type 0) (h : X → Y) where
    over_kinds : (k : Keep X) → kinds.map X Y h k ≡ over_kind h k
    over_kinds (Own d x) = refl
    over_kinds (Shared d x) = refl

    natural : (k : Keep X) → seen (kinds.map X Y h k) ≡ (the_former this).map X Y h (seen k)
    natural (Own d x) = refl
    natural (Shared d x) = refl

module _ (R S : RattleType) (h : R.Denot → S.Denot) where
  variant : (k : Keep R.Denot)
      → (K.enum S).as_values (over_kind h k)
      ≡ eachs (K.enum R).parts (K.enum S).parts ((λ n. n, (map h, tt)), ((λ n. n, (map h, tt)), tt)) ((K.enum R).as_values k)
  variant (Own d x) = refl
  variant (Shared d x) = refl

  pub the_places : Alike R S h → Alike (C.the_row R) (C.the_row S) ((the_former this).map R.Denot S.Denot h)
  the_places a =
      let top = enum_places (K.enum R) (K.enum S) ((λ n. n, (map h, tt)), ((λ n. n, (map h, tt)), tt)) (over_kind h) variant refl
      (((refl, (λ n. refl, λ n. refl)), (laid _ _ _ (items.the_places R S h a), tt)), (((refl, (λ n. refl, λ n. refl)), (laid _ _ _ (lone.the_places (T.the_row R) (T.the_row S) (map h) (items.the_places R S h a)), tt)), tt)) in
      view_places fields (the_former this) view (λ X Y k u. natural X Y k u.kept) (λ X u. keeps X u.kept)
      R.Denot S.Denot h (C.the_row R).coded (C.the_row S).coded
      (invariant R.Denot) (invariant S.Denot) (λ u p q. refl) (λ u p q. refl) (λ u e. tt) (λ u e. tt)
      (over (I.the_row R)) (over (I.the_row S))
      (struct_places (I.the_type R) (I.the_type S) (over_kind h, tt) _ (λ d i. (over_kinds R.Denot S.Denot h d.kept i, tt)) refl (laid _ _ _ top, tt))

  pub the_codes_placed : Recodes R S h → Recodes (C.the_row R) (C.the_row S) ((the_former this).map R.Denot S.Denot h)
  the_codes_placed e d = ap (λ x. gcons x (delimiter_code.code d.1)) (sym (code_map R.coded.code S.coded.code h (λ x. sym (e x)) d.0))
