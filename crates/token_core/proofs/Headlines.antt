-- A grammar and its read that meet the laws keep the promise.
use Rattle.std.proofs.Common.{◌≡◌, true, false, Option, Some, None, Result, Ok, Err, refl, sym, ◌∙◌, ap}
use Rattle.token_core.specs.declared.span.Span.{Span}
use Rattle.token_core.specs.Toks.{Toks}
use Rattle.token_core.specs.Rebuilt.{Visible}
use Rattle.token_core.specs.Refusal.{Refusal}
use Rattle.token_core.specs.Spans.{none}
use Rattle.token_core.specs.Stream.{Stream, started}
use Rattle.token_core.specs.Reads.{Outcome, Reads, kept, leaves}
use Rattle.token_core.specs.Headline.{Grammar, whole, end_of, ended, printed, Reprinted, Answered, Headline, Heads, Lawful}
use Rattle.token_core.proofs.Turns.{same_pair}

module _ {A : Type 0} (G : Grammar A) (laws : Lawful G) where
  again_at : (a : A) (o : Outcome A) (t : Stream) → o ≡ Ok (a, t) → leaves t ≡ None → end_of o ≡ Ok a
  again_at a o t e n = ap end_of e ∙ ap (ended a t) n

  -- a whole read answers what is spelt clearly
  pub again : (l : Toks) (a : A) → Visible l → G.spells true a l → whole G.reader l ≡ Ok a
  again l a v h = let k = laws.complete (started none l) a refl v h in again_at a (G.reader (started none l)) k.0 k.1 k.2

  reprinted : (l : Toks) (a : A) → Visible l → G.spells false a l → G.plain a → Reprinted G a
  reprinted l a v h p =
      let spells = laws.spells a l h v p in
      let visible = laws.visible a l h v p in
      record { spells = spells; visible = visible; stays = laws.stays a l h p; same = laws.same a l h p; again = again (printed G a) (G.normal a) visible spells }

  same_answer : (s t : Stream) (a b : A) → s.left ≡ None → Visible s.rest → G.reader s ≡ Ok (a, t) → G.spells true b s.rest → b ≡ a
  same_answer s t a b n v e h = let k = laws.complete s b n v h in (same_pair b a k.0 t (sym k.1 ∙ e)).0

  answered : (s t : Stream) (a : A) → s.left ≡ None → Visible s.rest → G.reader s ≡ Ok (a, t) → leaves t ≡ None → Answered G s.rest a
  answered s t a n v e c =
      let h = laws.sound s t a n v e c in
      record { sound = h; unique = λ b k. same_answer s t a b n v e k; reprint = λ p. reprinted s.rest a v h p }

  left : (s t : Stream) (a b : A) (at : Span) → s.left ≡ None → Visible s.rest → G.reader s ≡ Ok (a, t) → leaves t ≡ Some at → G.spells true b s.rest → ⊥
  left s t a b at n v e c h =
      let k = laws.complete s b n v h in
      let same = (same_pair b a k.0 t (sym k.1 ∙ e)).1 in
      let w : ◌≡◌ {A = Option Span} None (Some at) = sym k.2 ∙ ap leaves same ∙ c in
      absurd (cc)

  refused : (s : Stream) (b : A) (e : Refusal) → s.left ≡ None → Visible s.rest → G.reader s ≡ Err e → G.spells true b s.rest → ⊥
  refused s b e n v r h =
      let k = laws.complete s b n v h in
      let w : ◌≡◌ {A = Outcome A} (Err e) (Ok (b, k.0)) = sym r ∙ k.1 in
      absurd (cc)

  heads_at : (s t : Stream) (a : A) (o : Option Span) → s.left ≡ None → G.reader s ≡ Ok (a, t) → leaves t ≡ o → Headline G s.rest (kept a o)
  heads_at s t a None n e c = λ v. answered s t a n v e c
  heads_at s t a (Some at) n e c = λ v b h. left s t a b at n v e c h

  -- of a read
  pub heads : (s t : Stream) (r : Result A Refusal) → Reads (G.reader s) r t → Heads G s r t
  heads s t (Ok a) h = λ n. heads_at s t a (leaves t) n h refl
  heads s t (Err e) h = λ k n v b i. refused s b e n v (h k) i
