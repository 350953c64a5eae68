-- What tokens print: a printed mark ends Alone.
use Rattle.std.specs.Prelude.{◌≡◌, ℕ, List, [], ◌∷◌, ◌++◌, take, length, Option, Some, None, Result, OnOk, OnErr}
use Rattle.token_core.specs.declared.span.Span.{Span}
use Rattle.token_core.specs.declared.span.DelimSpan.{DelimSpan}
use Rattle.token_core.specs.declared.mark.Mark.{Mark}
use Rattle.token_core.specs.declared.word.Word.{Word}
use Rattle.token_core.specs.declared.tree.Delimiter.{Delimiter}
use Rattle.token_core.specs.declared.tree.Ident.{Ident}
use Rattle.token_core.specs.declared.tree.Spacing.TheVariants.{Joint, Alone}
use Rattle.token_core.specs.Trees.{TokenStream}
use Rattle.token_core.specs.declared.tree.TokenTree.{TokenTree}
use Rattle.token_core.specs.declared.tree.TokenTree.TheVariants as t
use Rattle.token_core.specs.Marks.{chars_of, text_of}
use Rattle.token_core.specs.Spans.{none}
use Rattle.token_core.specs.Trees as s

abbrev pub Print : Type 0
Print = List TokenTree

abbrev pub ident : Ident → Print
ident i = t.Ident i ∷ []

-- the characters with their spans, each but the last Joint
abbrev pub puncts : List ℕ → List Span → Print
puncts [] ss = []
puncts (c ∷ []) [] = t.Punct (s.punct c Alone none) ∷ []
puncts (c ∷ []) (a ∷ ss) = t.Punct (s.punct c Alone a) ∷ []
puncts (c ∷ d ∷ cs) [] = t.Punct (s.punct c Joint none) ∷ puncts (d ∷ cs) []
puncts (c ∷ d ∷ cs) (a ∷ ss) = t.Punct (s.punct c Joint a) ∷ puncts (d ∷ cs) ss

abbrev pub mark : {n l : ℕ} → Mark n l → Print
mark {n = n} m = puncts (chars_of n) m.spans

abbrev pub word : {n : ℕ} → Word n → Print
word {n = n} w = t.Ident (s.ident (text_of n) w.span) ∷ []

abbrev pub group : Delimiter → TokenStream → DelimSpan → Print
group d c p = t.Group (s.group_of d c p) ∷ []

-- what is there, if it is there
abbrev pub optional : {T A : Type 0} → (T → List A) → Option T → List A
optional f None = []
optional f (Some x) = f x

-- what is there, or something in its place
abbrev pub or_default : {T A : Type 0} → (T → List A) → T → Option T → List A
or_default f d None = f d
or_default f d (Some x) = f x

-- one after the other
abbrev pub each : {T A : Type 0} → (T → List A) → List T → List A
each f [] = []
each f (x ∷ xs) = f x ++ each f xs

-- a value with its mark, if it has one
abbrev pub marked : {T P A : Type 0} → (T → List A) → (P → List A) → T × Option P → List A
marked f g x = f x.0 ++ optional g x.1

-- what stood before is kept
abbrev pub Extends : Print → Print → Type 0
Extends old new = take (length old) new ≡ old

-- what a function that prints ensures: these trees are appended; refused, what stood before is kept
abbrev pub Appends : {A E : Type 0} → Print → Result A E → TokenStream → TokenStream → Type 0
Appends p result old new = OnOk result (s.trees new ≡ s.trees old ++ p) × OnErr result (Extends (s.trees old) (s.trees new))
