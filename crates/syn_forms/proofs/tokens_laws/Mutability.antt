-- The read of `const` or `mut` meets the laws of its grammar.
use Rattle.std.specs.Prelude.{IfOk}
use Rattle.std.proofs.Common.{◌≡◌, ℕ, true, false, Option, Result, Ok, inl, inr, refl}
use Rattle.token_core.specs.declared.span.Span.{Span}
use Rattle.token_core.specs.declared.word.Word.{Word}
use Rattle.token_core.specs.Fronted.{FrontLaws}
use Rattle.token_core.specs.Headline.{Lawful}
use Rattle.token_core.specs.Marks as marks
use Rattle.token_core.specs.Prints as p
use Rattle.token_core.specs.Reads.{Reads, sees_word}
use Rattle.token_core.specs.Rebuilt.{Visible}
use Rattle.token_core.specs.Refusal.{Refusal}
use Rattle.token_core.specs.Spellings.{IsWord, is_word}
use Rattle.token_core.specs.Stream.{Stream, Scope}
use Rattle.token_core.specs.Toks.{Toks, done}
use Rattle.token_core.specs.Trees.{row}
use Rattle.token_core.proofs.MarkSpells.{Taken}
use Rattle.token_core.proofs.Steps.{link, chosen, Reads_to}
use Rattle.token_core.proofs.Took.{at, branch, mapped}
use Rattle.token_core.proofs.WordSpells.{word_sound, word_visible, word_complete, word_seen, word_again, word_whole}
use Rattle.syn_path.proofs.Words.{AgainFront}
use Rattle.syn_forms.specs.declared.tokens.PointerMutability.{PointerMutability}
use Rattle.syn_forms.specs.declared.tokens.PointerMutability.TheVariants as pointer
use Rattle.syn_forms.specs.tokens.Grammars as grammars
use Rattle.syn_forms.specs.tokens.Printing as printing
use Rattle.syn_forms.specs.tokens.Reading.{sees_named, mutability}
use Rattle.syn_forms.specs.tokens.Spelling.{IsMutability, a_const, a_mut}
use Rattle.syn_forms.proofs.tokens_laws.Fronts.{taken_as, taken_front, plainly, lawful_by, front_lawful_by}

pub mutability_sound : (s t : Stream) (q : PointerMutability) → Visible s.rest → mutability s ≡ Ok (q, t) → Taken IsMutability s t q
unfolding mutability
mutability_sound s t q v e =
    elim (branch (sees_named 6 s.rest) _ _ s (Ok (q, t)) e) [
      | inl y ↦ let k = mapped (marks.read_named 6 s) pointer.Const q t y.1 in
          let w = word_sound s t k.value v k.was in
          taken_as {Is = IsMutability} s t (pointer.Const k.value) q k.is (a_const w.spelt) w.left
      | inr y ↦ elim (branch (sees_named 13 s.rest) _ _ s (Ok (q, t)) y.1) [
        | inl z ↦ let k = mapped (marks.read_named 13 s) pointer.Mut q t z.1 in
            let w = word_sound s t k.value v k.was in
            taken_as {Is = IsMutability} s t (pointer.Mut k.value) q k.is (a_mut w.spelt) w.left
        | inr z ↦ cc (z.1)
      ]
    ]

pub visible_mutability : (q : PointerMutability) (l r : Toks) → IsMutability q l r → Visible l → Visible r
visible_mutability q l r (a_const {w = w} i) v = word_visible w l r i v
visible_mutability q l r (a_mut {w = w} i) v = word_visible w l r i v

no_const : (w : Word 13) (l r : Toks) → IsWord w l r → sees_named 6 l ≡ false
unfolding sees_word
no_const w l r is_word = refl

pub mutability_complete : (x : PointerMutability) (l r : Toks) (f : Option Span) (e : Span) (sc : Scope) → IsMutability x l r → Reads_to mutability x l r f e sc
unfolding mutability
mutability_complete x l r f e sc (a_const {w = w} i) =
    let k = word_complete w l r f e sc i in
    record { last = k.last; reads = chosen (sees_named 6 l) true _ _ (at l f e sc) _ (word_seen w l r i) (link _ k.reads refl) }
mutability_complete x l r f e sc (a_mut {w = w} i) =
    let k = word_complete w l r f e sc i in
    record { last = k.last; reads = chosen (sees_named 6 l) false _ _ (at l f e sc) _ (no_const w l r i) (chosen (sees_named 13 l) true _ _ (at l f e sc) _ (word_seen w l r i) (link _ k.reads refl)) }

-- a word is its own normal form
pub word_front : {n : ℕ} (x : Word n) (l r : Toks) → IsWord x l r → AgainFront (IsWord {n = n}) (λ (z : Word n). z) (λ (z : Word n). p.word z) x l r
word_front x l r i =
    record {
      spelt = λ h. word_again x l r h i;
      visible = λ h u w. word_whole x (row (p.word x) h) h (word_again x l r h i) w;
      seen = λ u. word_visible x l r i u;
      stays = refl;
      same = refl;
    }

pub mutability_again : (x : PointerMutability) (l r : Toks) → IsMutability x l r → AgainFront IsMutability (λ (z : PointerMutability). z) printing.pointer x l r
mutability_again x l r (a_const {w = a} i) = let k = word_front a l r i in record { spelt = λ h. a_const (k.spelt h); visible = λ h u w. k.visible h u w; seen = λ u. k.seen u; stays = refl; same = refl }
mutability_again x l r (a_mut {w = a} i) = let k = word_front a l r i in record { spelt = λ h. a_mut (k.spelt h); visible = λ h u w. k.visible h u w; seen = λ u. k.seen u; stays = refl; same = refl }

pub mutability_lawful : Lawful grammars.mutability
mutability_lawful = lawful_by (λ clear. IsMutability) (λ (z : PointerMutability). z) printing.pointer mutability (λ s t a v e. plainly {Is = IsMutability} visible_mutability s t a v (mutability_sound s t a v e)) (λ s a h. mutability_complete a s.rest done s.left s.last s.scope h) mutability_again

-- on the front of a list, whatever follows
pub mutability_front_lawful : FrontLaws grammars.mutability_front
mutability_front_lawful =
    front_lawful_by grammars.mutability_front (λ s t a v e. plainly {Is = IsMutability} visible_mutability s t a v (mutability_sound s t a v e)) (λ s a k h o. mutability_complete a s.rest k s.left s.last s.scope h) mutability_again

-- what was taken
pub mutability_front : (s t : Stream) (q : Result (PointerMutability) Refusal) → Reads (mutability s) q t → Visible s.rest → IfOk q (λ x. IsMutability x s.rest t.rest)
mutability_front = taken_front {Is = IsMutability} mutability mutability_sound
