-- Reading, a piece at a time.
use Rattle.std.proofs.Common.{◌≡◌, ℕ, zero, suc, ◌<◌, ◌+◌, ◌-◌, ◌≤◌, List, [], ◌∷◌, ◌++◌, length, take, drop, encode_utf8, encode_utf8_all, Result, Ok, Err, refl, sym, ap, ap₂, ◌∙◌, arith, length-append, append-nil, true, drop_at, take_at, inl, inr, chars}
use Rattle.std.proofs.lemmas.List.{append_cancel_right}
use Rattle.std.proofs.lemmas.Str.{length-encode, length-le-encodes}
use Rattle.std.specs.Char.{len_utf8}
use Rattle.token_core.specs.Refusal.{Refusal, Stored}
use Rattle.token_core.specs.Spans.{span}
use Rattle.token_core.specs.declared.span.Span.{Span}
use Rattle.token_text.specs.Characters.{Text, size, upto, is_blank, passes, after_run}
use Rattle.token_core.specs.declared.error.ErrorKind.{ErrorKind}
use Rattle.token_text.specs.declared.class.Class.TheVariants.{Blank}
use Rattle.token_text.specs.declared.piece.Docs.{Docs}
use Rattle.token_text.specs.declared.piece.Leaf.TheVariants as leaves
use Rattle.token_text.specs.declared.piece.Piece.{Piece}
use Rattle.token_text.specs.declared.piece.Piece.TheVariants.{Leaf}
use Rattle.token_text.specs.Front.{Past, found, found_in, look, front}
use Rattle.token_text.specs.Reading.{State, state, act, finish, turn, faulty, reads, lexed_with, Fails}
use Rattle.token_text.proofs.PieceLaws.{front_splits, front_only}
use Rattle.token_text.specs.Spelling as rules
use Rattle.token_text.proofs.CharacterLaws.{which}
use Rattle.token_text.proofs.Words.{spelled_so}

pub size-cons : (c : ℕ) (cs : Text) → size (c ∷ cs) ≡ len_utf8 c + size cs
size-cons c cs = length-append (encode_utf8 c) (encode_utf8_all cs) ∙ ap (λ n. n + size cs) (length-encode c)

pub fails_so : {A B : Type 0} (r : Refusal) (o : Result A Refusal) (u : Result B Refusal) → Fails r o → (o ≡ Err r → u ≡ Err r) → Fails r u
fails_so r o u (inl h) f = inl h
fails_so r o u (inr h) f = inr (f h)

pub made_fails : {A : Type 0} (e r : Refusal) (o : Result A Refusal) → Stored e r → o ≡ Err r → Fails e o
made_fails e r o (inl h) f = inr (rw h f)
made_fails e r o (inr h) f = inl h

module _ (docs : Docs) where
  -- what is left of a piece is passed over
  pub reads_left : (n at : ℕ) (x : State) (cs : Text) → reads docs n at x cs ≡ reads docs 0 (at + size (take n cs)) x (drop n cs)
  unfolding reads
  reads_left zero at x cs = let e : at ≡ at + 0 = omega arith in ap (λ a. reads docs 0 a x cs) e
  reads_left (suc n) at x [] = refl
  reads_left (suc n) at x (c ∷ cs) =
      let e : (at + len_utf8 c) + size (take n cs) ≡ at + size (c ∷ take n cs) = omega (arith, size-cons c (take n cs)) in
      reads_left n (at + len_utf8 c) x cs ∙ ap (λ a. reads docs 0 a x (drop n cs)) e

  pub reads_end : (at : ℕ) (x : State) → reads docs 0 at x [] ≡ finish x
  unfolding reads
  reads_end at x = refl

  pub reads_faulty : (k : ErrorKind) (at c : ℕ) (x : State) (cs : Text) → front docs (c ∷ cs) ≡ Err k → reads docs 0 at x (c ∷ cs) ≡ Err (faulty k at c)
  unfolding reads
  reads_faulty k at c x cs h = rw (h, reads) refl

  reads_turn_err : (at c : ℕ) (x : State) (cs : Text) (e : Refusal) → turn at c x (front docs (c ∷ cs)) ≡ Err e → reads docs 0 at x (c ∷ cs) ≡ Err e
  unfolding reads
  reads_turn_err at c x cs e h = rw (h, reads) refl

  reads_turn_ok : (at c : ℕ) (x y : State) (n : ℕ) (cs : Text) → turn at c x (front docs (c ∷ cs)) ≡ Ok (y, n) → reads docs 0 at x (c ∷ cs) ≡ reads docs n (at + len_utf8 c) y cs
  unfolding reads
  reads_turn_ok at c x y n cs h = rw (h, reads) refl

  -- the piece at the front is taken
  pub reads_piece : (at : ℕ) (x y : State) (cs w rest : Text) (p : Piece) → front docs cs ≡ Ok (found p w rest) → act (span at (at + size w)) (encode_utf8_all w) p x ≡ Ok y
      → reads docs 0 at x cs ≡ reads docs 0 (at + size w) y rest
  reads_piece at x y cs [] rest p h a = let s = front_splits docs cs (found p [] rest) h in absurd (omega (arith, s.some))
  reads_piece at x y [] (c ∷ w) rest p h a = let s = front_splits docs [] (found p (c ∷ w) rest) h in let e = s.whole in cc
  reads_piece at x y (d ∷ cs) (c ∷ w) rest p h a =
      let s = front_splits docs (d ∷ cs) (found p (c ∷ w) rest) h in
      let whole = s.whole in
      let same : d ≡ c = cc in
      let tail : cs ≡ w ++ rest = cc in
      let n : suc (length w) - 1 ≡ length w = omega arith in
      let t : turn at d x (front docs (d ∷ cs)) ≡ Ok (y, length w) = rw (h, a) (ap (λ m. Ok (y, m)) n) in
      let e : (at + len_utf8 d) + size w ≡ at + size (c ∷ w) = omega (arith, size-cons c w, ap len_utf8 same) in
      reads_turn_ok at d x y (length w) cs t ∙ reads_left (length w) (at + len_utf8 d) y cs
      ∙ ap₂ (λ (a : ℕ) (r : Text). reads docs 0 a y r)
      (ap (λ u. (at + len_utf8 d) + size u) (ap (take (length w)) tail ∙ take_at w rest (length w) refl) ∙ e)
      (ap (drop (length w)) tail ∙ drop_at w rest (length w) refl)

  pub reads_refused : (at : ℕ) (x : State) (cs w rest : Text) (p : Piece) (e : Refusal) → front docs cs ≡ Ok (found p w rest) → act (span at (at + size w)) (encode_utf8_all w) p x ≡ Err e
      → reads docs 0 at x cs ≡ Err e
  reads_refused at x [] w rest p e h a = let s = front_splits docs [] (found p w rest) h in absurd (omega (arith, s.some, ap length s.whole, length-append w rest))
  reads_refused at x (c ∷ cs) w rest p e h a = reads_turn_err at c x cs e (rw (h, a) refl)

  -- blanks are passed over
  reads_blank : (at c : ℕ) (x : State) (cs : Text) → is_blank c ≡ true → reads docs 0 at x (c ∷ cs) ≡ reads docs 0 (at + len_utf8 c) x cs
  reads_blank at c x cs h =
      let one : size (c ∷ []) ≡ len_utf8 c = omega (arith, size-cons c []) in
      let begins = front_only docs (Leaf leaves.Blank) (c ∷ cs) (c ∷ []) cs (record { whole = refl; is_piece = rules.blank h }) in
      reads_piece at x x (c ∷ cs) (c ∷ []) cs (Leaf leaves.Blank) begins (ap (λ ts. Ok (state x.open_groups ts)) (append-nil x.so_far))
      ∙ ap (λ n. reads docs 0 (at + n) x cs) one

  reads_blanks : (at : ℕ) (x : State) (cs : Text) → (w : Text) × (cs ≡ w ++ after_run Blank cs) × (reads docs 0 at x cs ≡ reads docs 0 (at + size w) x (after_run Blank cs))
  unfolding passes
  reads_blanks at x [] = let e : at ≡ at + 0 = omega arith in ([], refl, ap (λ n. reads docs 0 n x []) e)
  reads_blanks at x (c ∷ cs) =
      which (λ ds. (w : Text) × (c ∷ cs ≡ w ++ ds) × (reads docs 0 at x (c ∷ cs) ≡ reads docs 0 (at + size w) x ds)) (is_blank c)
      (λ h. (let more = reads_blanks (at + len_utf8 c) x cs in
      let e : (at + len_utf8 c) + size more.0 ≡ at + size (c ∷ more.0) = omega (arith, size-cons c more.0) in
      (c ∷ more.0, ap (λ t. c ∷ t) more.1, reads_blank at c x cs h ∙ more.2 ∙ ap (λ n. reads docs 0 n x (after_run Blank cs)) e)))
      (λ h. (let e : at ≡ at + 0 = omega arith in ([], refl, ap (λ n. reads docs 0 n x (c ∷ cs)) e)))

  -- ---- the loop over a text

  module _ (text rest after : List ℕ) (x : State) (known : lexed_with docs text ≡ reads docs 0 (length text - length rest) x (chars rest)) (le : length rest ≤ length text)
      (past : Past rest after) (run : chars after ≡ after_run Blank (chars rest)) where
    pub blanks_go : lexed_with docs text ≡ reads docs 0 (length text - length after) x (chars after)
    blanks_go =
        let more = reads_blanks (length text - length rest) x (chars rest) in
        let same : more.0 ≡ past.front = append_cancel_right more.0 past.front (chars after) (ap (λ t. more.0 ++ t) run ∙ sym more.1 ∙ past.whole) in
        let e : (length text - length rest) + size more.0 ≡ length text - length after =
        omega (arith, le, ap size same, ap length past.split, length-append (encode_utf8_all past.front) after) in
        known ∙ more.2 ∙ ap₂ (λ (n : ℕ) (t : Text). reads docs 0 n x t) e (sym run)

  module _ (text rest after : List ℕ) (w : Text) (p : Piece) (x : State) (known : lexed_with docs text ≡ reads docs 0 (length text - length rest) x (chars rest))
      (le : length rest ≤ length text) (h : front docs (chars rest) ≡ Ok (found p w (chars after))) (e : rest ≡ encode_utf8_all w ++ after) where
    lengths : length rest ≡ size w + length after
    lengths = ap length e ∙ length-append (encode_utf8_all w) after

    ahead : length after < length rest
    ahead =
        let s = front_splits docs (chars rest) (found p w (chars after)) h in
        omega (arith, lengths, s.some, length-le-encodes w)

    place : (length text - length rest) + size w ≡ length text - length after
    place = omega (arith, lengths)

    loop_goes : (s : Span) (b : List ℕ) (y : State) → encode_utf8_all w ≡ b → s ≡ span (length text - length rest) (length text - length after) → act s b p x ≡ Ok y
        → lexed_with docs text ≡ reads docs 0 (length text - length after) y (chars after)
    loop_goes s b y same is a =
        known ∙ reads_piece (length text - length rest) x y (chars rest) w (chars after) p h (rw (place, ← is, same) a)
        ∙ ap (λ n. reads docs 0 n y (chars after)) place

    loop_stops : (s : Span) (b : List ℕ) (r : Refusal) → encode_utf8_all w ≡ b → s ≡ span (length text - length rest) (length text - length after) → act s b p x ≡ Err r → lexed_with docs text ≡ Err r
    loop_stops s b r same is a = known ∙ reads_refused (length text - length rest) x (chars rest) w (chars after) p r h (rw (place, ← is, same) a)

  pub front_looked : (cs ds : Text) (p : Piece) → look docs cs ≡ Ok (p, ds) → front docs cs ≡ Ok (found p (upto cs ds) ds)
  unfolding front
  front_looked cs ds p h = ap (found_in cs) h

  pub front_refused : (cs : Text) (k : ErrorKind) → look docs cs ≡ Err k → front docs cs ≡ Err k
  unfolding front
  front_refused cs k h = ap (found_in cs) h

  -- the same of the piece that was found, whose bytes are b
  module _ (text rest after : List ℕ) (p : Piece) (x : State) (known : lexed_with docs text ≡ reads docs 0 (length text - length rest) x (chars rest))
      (le : length rest ≤ length text) (h : look docs (chars rest) ≡ Ok (p, chars after)) (past : Past rest after) where
    cut_at : (b : List ℕ) → rest ≡ b ++ after → rest ≡ encode_utf8_all (upto (chars rest) (chars after)) ++ after
    cut_at b e = e ∙ ap (λ t. t ++ after) (sym (spelled_so rest b after past e))

    pub look_ahead : length after < length rest
    look_ahead =
        ahead text rest after (upto (chars rest) (chars after)) p x known le (front_looked (chars rest) (chars after) p h) (cut_at (encode_utf8_all past.front) past.split)

    pub look_goes : (s : Span) (b : List ℕ) (y : State) → rest ≡ b ++ after → s ≡ span (length text - length rest) (length text - length after) → act s b p x ≡ Ok y
        → lexed_with docs text ≡ reads docs 0 (length text - length after) y (chars after)
    look_goes s b y e is a =
        loop_goes text rest after (upto (chars rest) (chars after)) p x known le (front_looked (chars rest) (chars after) p h) (cut_at b e) s b y (spelled_so rest b after past e) is a

    pub look_stops : (s : Span) (b : List ℕ) (r : Refusal) → rest ≡ b ++ after → s ≡ span (length text - length rest) (length text - length after) → act s b p x ≡ Err r
        → lexed_with docs text ≡ Err r
    look_stops s b r e is a =
        loop_stops text rest after (upto (chars rest) (chars after)) p x known le (front_looked (chars rest) (chars after) p h) (cut_at b e) s b r (spelled_so rest b after past e) is a
