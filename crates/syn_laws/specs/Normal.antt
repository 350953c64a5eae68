-- The words of the laws of normal forms: what is said of an admitted tree, and what is asked of a supplied subtree where a tree need not be one.
use Rattle.std.specs.Prelude.{◌≡◌, false, List}
use Rattle.token_core.specs.Headline.{Grammar, Reprinted}
use Rattle.token_core.specs.Prints.{Print}
use Rattle.token_core.specs.Rebuilt.{Visible}
use Rattle.token_core.specs.Toks.{Toks}
use Rattle.syn_path.specs.declared.supplied.Place.{Place}

-- Where the tree spells a list without invisible groups, its verbatim parts being clear: its print spells its normal form, which is its own and prints the same, and the reader answers that form there.
abbrev pub Admitted : {F : Type 0} → Grammar F → F → Type 0
Admitted G x = (l : Toks) → Visible l → G.spells false x l → G.plain x → Reprinted G x

-- in each place the normal form of every supplied subtree is its own
abbrev pub Own : {X : Type 0} → (Place → X → X) → Type 0
Own {X} normal = (w : Place) (x : X) → normal w (normal w x) ≡ normal w x

-- and prints the same
abbrev pub SamePrint : {X : Type 0} → (Place → X → X) → (Place → X → Print) → Type 0
SamePrint {X} normal prints = (w : Place) (x : X) → prints w (normal w x) ≡ prints w x

-- lists of attributes whose normal form is its own
abbrev pub OwnList : {A : Type 0} → (List A → List A) → Type 0
OwnList {A} normal = (l : List A) → normal (normal l) ≡ normal l

-- and prints the same
abbrev pub SameList : {A : Type 0} → (List A → List A) → (List A → Print) → Type 0
SameList {A} normal shown = (l : List A) → shown (normal l) ≡ shown l
