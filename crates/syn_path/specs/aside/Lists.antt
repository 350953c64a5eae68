-- What a whole read promises of lists and trees that are the same aside from spans.
use Rattle.std.specs.Prelude.{◌≡◌, true, Option, Some, None}
use Rattle.token_core.specs.Headline.{Grammar, Headline}
use Rattle.token_core.specs.Prints.{Print}
use Rattle.token_core.specs.Rebuilt.{Visible}
use Rattle.token_core.specs.Same.{Same}
use Rattle.token_core.specs.Spans.{none, delim_span}
use Rattle.token_core.specs.Toks.{Toks, done, word, mark, lit, group, enter, leave}
use Rattle.token_core.specs.Trees.{ident, punct, literal}
use Rattle.syn_path.specs.declared.supplied.Place.{Place}

-- the tokens without their spans
abbrev pub bare : Toks → Toks
bare done = done
bare (word i k) = word (ident i.text none) (bare k)
bare (mark p k) = mark (punct p.ch p.spacing none) (bare k)
bare (lit l k) = lit (literal l.kind l.text none) (bare k)
bare (group d s c k) = group d (delim_span none none) (bare c) (bare k)
bare (enter s k) = enter (delim_span none none) (bare k)
bare (leave k) = leave (bare k)

abbrev pub AreSame : Toks → Toks → Type 0
AreSame l m = bare l ≡ bare m

-- A tree without its spans is given by the function. Whatever tree clearly spells a list that is the same as this one, it is the same as the answer; where there is no answer, there is no such tree.
abbrev pub Aside : {A : Type 0} → Grammar A → (A → A) → Toks → Option A → Type 0
Aside G free l (Some a) = Visible l → (m : Toks) → AreSame m l → (b : _) → G.spells true b m → free b ≡ free a
Aside G free l None = Visible l → (m : Toks) → AreSame m l → (b : _) → G.spells true b m → ⊥

-- What a whole read promises, it promises aside from spans. And whatever was read, also where memory ran out: any two trees that clearly spell lists that are the same are the same.
pub record Asides {A : Type 0} (G : Grammar A) (free : A → A) : Type 0 where
  pub read : (l : Toks) (o : Option A) → Headline G l o → Aside G free l o
  pub trees : (l m : Toks) → Visible l → AreSame m l → (a b : A) → G.spells true a l → G.spells true b m → free b ≡ free a

-- the law of a grammar from which that follows: what a tree clearly spells, a tree that is the same spells with other spans
abbrev pub Moves : {A : Type 0} → Grammar A → (A → A) → Type 0
Moves G free = (b : _) (m l : Toks) → Visible l → G.spells true b m → AreSame m l → (a : _) × G.spells true a l × (free a ≡ free b)

-- the law of a supplied subtree: what a tree spells in a place, a tree that is the same spells there with other spans
abbrev pub MovesSubtree : {X : Type 0} → (Place → X → Toks → Type 0) → (X → X) → Type 0
MovesSubtree spells free = (w : Place) (x : _) (m l : Toks) → Visible m → Visible l → spells w x m → AreSame m l → (y : _) × spells w y l × (free y ≡ free x)

-- the law of what a supplied subtree is without its spans: trees that are the same print lists that are the same
abbrev pub PrintsAlike : {X : Type 0} → (Place → X → Print) → (X → X) → Type 0
PrintsAlike prints free = (w : Place) (x y : _) → free x ≡ free y → Same (prints w x) (prints w y)
