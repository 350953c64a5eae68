-- What is read of a text is what it spells, and what it spells is read.
use Rattle.std.proofs.Common.{◌≡◌, ℕ, zero, suc, ◌≤◌, ◌+◌, Bool, true, false, ◌⊎◌, inl, inr, List, [], ◌∷◌, ◌++◌, length, chars, encode_utf8_all, Option, Some, None, Result, Ok, Err, refl, sym, ap, ◌∙◌, subst, arith, append_assoc, append-nil, length-append, rules, IfOk, IfErr, MatchResult}
use denote.Enum.Bare.{same_true}
use Rattle.token_core.specs.contracts.tree.Delimiter.{the_type}
use Rattle.token_core.specs.declared.tree.Delimiter.{Delimiter}
use Rattle.token_core.specs.declared.tree.Delimiter.TheVariants as delimiters
use Rattle.token_core.specs.declared.tree.TokenTree.{TokenTree}
use Rattle.token_core.specs.declared.span.Span.{Span}
use Rattle.token_core.specs.declared.error.ErrorKind.TheVariants.{UnclosedDelimiter}
use Rattle.token_core.specs.Refusal.{Refusal, named, out_of_memory}
use Rattle.token_core.specs.Spans.{span}
use Rattle.token_core.specs.Toks.{Bytes}
use Rattle.token_text.specs.Characters.{Text, size}
use Rattle.token_core.specs.declared.error.ErrorKind.{ErrorKind}
use Rattle.token_text.specs.declared.piece.Docs.{Docs}
use Rattle.token_text.specs.declared.piece.Leaf as leaves
use Rattle.token_text.specs.declared.piece.Piece.{Piece}
use Rattle.token_text.specs.declared.piece.Piece.TheVariants.{Leaf, Open, Close}
use Rattle.token_text.specs.Front.{Found, found, front}
use Rattle.token_text.specs.Pieces.{trees_of, group_tree}
use Rattle.token_text.specs.Reading.{Frame, frame, state, start, same, unexpected as unexpected_at, closed, act, finished, reads, lexed_with, Gives}
use Rattle.token_text.specs.Spelling.{Begins, Spelled, nothing, a_leaf, a_group, SpellsWith, Opening, Reaches, outside, inside, ClosesNone, RefusedWith, unclosed, unexpected, faulty}
use Rattle.token_text.proofs.Steps.{reads_end, reads_faulty, reads_piece, reads_refused}
use Rattle.token_text.proofs.PieceLaws.{front_splits, front_is, front_only, front_faulty, faulty_front}

same_self : (d : Delimiter) → same d d ≡ true
unfolding same
same_self delimiters.Parenthesis = refl
same_self delimiters.Brace = refl
same_self delimiters.Bracket = refl
same_self delimiters.None = refl

pub same_is : (d e : Delimiter) → same d e ≡ true → d ≡ e
unfolding same
same_is d e h = same_true the_type (search rules) d e h

-- ---- what a text spells is read

closed_same : (d : Delimiter) (o s : Span) (before ts : List TokenTree) (fs : List Frame)
    → closed d s (frame d o before ∷ fs) ts ≡ Ok (state fs (before ++ group_tree d o s ts ∷ []))
closed_same d o s before ts fs = rw (same_self d) refl

-- the text up to a place is the trees so far of each open group, innermost first, and the brackets that open these groups
data Stack (docs : Docs) (text : Text) : List Frame → List TokenTree → ℕ → Text → Type 0 where
  bottom : (ts : List TokenTree) (at : ℕ) (cs : Text) → Spelled docs 0 text ts at cs → Stack docs text [] ts at cs
  deeper : (f : Frame) (fs : List Frame) (ts : List TokenTree) (at middle : ℕ) (cs es w ds : Text) → Stack docs text fs f.before middle es
      → Begins docs (Open f.delimiter) es w ds → f.span ≡ span middle (middle + size w) → Spelled docs (middle + size w) ds ts at cs
      → Stack docs text (f ∷ fs) ts at cs

-- the trees of a piece that begins at an offset
abbrev leaf_trees : leaves.Leaf → ℕ → Text → List TokenTree
leaf_trees t at w = trees_of t (span at (at + size w)) (encode_utf8_all w)

module _ (docs : Docs) where
  pub reads_spelled : {at end : ℕ} {cs rest : Text} {l : List TokenTree} → Spelled docs at cs l end rest → (fs : List Frame) (ts : List TokenTree)
      → reads docs 0 at (state fs ts) cs ≡ reads docs 0 end (state fs (ts ++ l)) rest
  reads_spelled (nothing at rest) fs ts = ap (λ l. reads docs 0 at (state fs l) rest) (sym (append-nil ts))
  reads_spelled (a_leaf at end cs w ds rest t l b more) fs ts =
      let here = leaf_trees t at w in
      reads_piece docs at (state fs ts) (state fs (ts ++ here)) cs w ds (Leaf t) (front_only docs (Leaf t) cs w ds b) refl
      ∙ reads_spelled more fs (ts ++ here)
      ∙ ap (λ ls. reads docs 0 end (state fs ls) rest) (append_assoc ts here l)
  reads_spelled (a_group at inner_end end cs w ds es v gs rest d inner l b more c others) fs ts =
      let o = span at (at + size w) in
      let s = span inner_end (inner_end + size v) in
      let here = group_tree d o s inner in
      reads_piece docs at (state fs ts) (state (frame d o ts ∷ fs) []) cs w ds (Open d) (front_only docs (Open d) cs w ds b) refl
      ∙ reads_spelled more (frame d o ts ∷ fs) []
      ∙ reads_piece docs inner_end (state (frame d o ts ∷ fs) inner) (state fs (ts ++ here ∷ [])) es v gs (Close d) (front_only docs (Close d) es v gs c) (closed_same d o s ts inner fs)
      ∙ reads_spelled others fs (ts ++ here ∷ [])
      ∙ ap (λ ls. reads docs 0 end (state fs ls) rest) (append_assoc ts (here ∷ []) l)

  pub lexed_spelled : (text : Bytes) (l : List TokenTree) → SpellsWith docs text l → lexed_with docs text ≡ Ok l
  lexed_spelled text l s = reads_spelled s.1 [] [] ∙ reads_end docs s.0 (state [] l)

  -- ---- what is read of a text it spells, and why it is refused

  spelled_more : {at middle end : ℕ} {cs es rest : Text} {l m : List TokenTree} → Spelled docs at cs l middle es → Spelled docs middle es m end rest
      → Spelled docs at cs (l ++ m) end rest
  spelled_more (nothing at rest) s = s
  spelled_more {end = end} {rest = rest} {m = m} (a_leaf at middle cs w ds es t l b more) s =
      subst (λ k. Spelled docs at cs k end rest) (sym (append_assoc (leaf_trees t at w) l m)) (a_leaf at end cs w ds rest t (l ++ m) b (spelled_more more s))
  spelled_more {end = end} {rest = rest} {m = m} (a_group at inner_end middle cs w ds hs v gs es d inner l b more c others) s =
      a_group at inner_end end cs w ds hs v gs rest d inner (l ++ m) b more c (spelled_more others s)

  stack_more : {text cs ds : Text} {fs : List Frame} {ts l : List TokenTree} {at next : ℕ} → Stack docs text fs ts at cs → Spelled docs at cs l next ds
      → Stack docs text fs (ts ++ l) next ds
  stack_more {ds = ds} {l = l} {next = next} (bottom ts at cs s) more = bottom (ts ++ l) next ds (spelled_more s more)
  stack_more {ds = ds} {l = l} {next = next} (deeper f fs ts at middle cs es w hs below b e s) more =
      deeper f fs (ts ++ l) next middle ds es w hs below b e (spelled_more s more)

  stack_leaf : {text cs w ds : Text} {fs : List Frame} {ts : List TokenTree} {at : ℕ} (t : leaves.Leaf) → Stack docs text fs ts at cs → Begins docs (Leaf t) cs w ds
      → Stack docs text fs (ts ++ leaf_trees t at w) (at + size w) ds
  stack_leaf {text} {cs} {w} {ds} {fs} {ts} {at} t s b =
      subst (λ k. Stack docs text fs (ts ++ k) (at + size w) ds) (append-nil (leaf_trees t at w))
      (stack_more s (a_leaf at (at + size w) cs w ds ds t [] b (nothing (at + size w) ds)))

  stack_opening : {text cs w ds : Text} {fs : List Frame} {ts : List TokenTree} {at : ℕ} (d : Delimiter) → Stack docs text fs ts at cs → Begins docs (Open d) cs w ds
      → Stack docs text (frame d (span at (at + size w)) ts ∷ fs) [] (at + size w) ds
  stack_opening {text} {cs} {w} {ds} {fs} {ts} {at} d s b =
      deeper (frame d (span at (at + size w)) ts) fs [] (at + size w) at ds cs w ds s b refl (nothing (at + size w) ds)

  stack_closing : {text cs v gs : Text} {f : Frame} {fs : List Frame} {ts : List TokenTree} {at : ℕ} → Stack docs text (f ∷ fs) ts at cs → Begins docs (Close f.delimiter) cs v gs
      → Stack docs text fs (f.before ++ group_tree f.delimiter f.span (span at (at + size v)) ts ∷ []) (at + size v) gs
  stack_closing {text} {v = v} {gs = gs} (deeper f fs ts at middle cs es w ds below b e s) c =
      let here = group_tree f.delimiter (span middle (middle + size w)) (span at (at + size v)) ts in
      let more : Spelled docs middle es (here ∷ []) (at + size v) gs =
      a_group middle at (at + size v) es w ds cs v gs gs f.delimiter ts [] b s c (nothing (at + size v) gs) in
      subst (λ o. Stack docs text fs (f.before ++ group_tree f.delimiter o (span at (at + size v)) ts ∷ []) (at + size v) gs) (sym e) (stack_more below more)

  abbrev innermost : List Frame → Option Opening
  innermost [] = None
  innermost (f ∷ fs) = Some (f.delimiter, f.span)

  stack_reaches : {text cs : Text} {fs : List Frame} {ts : List TokenTree} {at : ℕ} → Stack docs text fs ts at cs → Reaches docs 0 text (innermost fs) at cs
  stack_reaches {text} (bottom ts at cs s) = outside 0 at text cs ts s
  stack_reaches {text} (deeper f fs ts at middle cs es w ds below b e s) =
      subst (λ o. Reaches docs 0 text (Some (f.delimiter, o)) at cs) (sym e)
      (inside 0 middle at text es w ds cs (innermost fs) f.delimiter ts (stack_reaches below) b s)

  -- the trees that a text spells, or why it is refused
  abbrev Verdict : Bytes → Result (List TokenTree) Refusal → Type 0
  Verdict text (Ok l) = SpellsWith docs text l
  Verdict text (Err e) = RefusedWith docs text e

  -- what holds of what is left of a text, where that is at most n characters
  abbrev Sound : Bytes → ℕ → Type 0
  Sound text n = (cs : Text) → length cs ≤ n → (at : ℕ) (fs : List Frame) (ts : List TokenTree) → Stack docs (chars text) fs ts at cs
      → Verdict text (reads docs 0 at (state fs ts) cs)

  sound_end : (text : Bytes) (at : ℕ) (fs : List Frame) (ts : List TokenTree) → Stack docs (chars text) fs ts at [] → Verdict text (finished fs ts)
  sound_end text at [] ts (bottom _ _ _ s) = (at, s)
  sound_end text at (f ∷ fs) ts s = unclosed at (f.delimiter, f.span) (stack_reaches s)

  differs : (d e : Delimiter) → same e d ≡ false → ¬ (e ≡ d)
  differs d e h alike = let bad = sym h ∙ ap (λ k. same k d) alike ∙ same_self d in cc

  module _ (text : Bytes) (n : ℕ) (sound : Sound text n) (cs w ds : Text) (at : ℕ) (short : length ds ≤ n) (ts : List TokenTree) where
    abbrev Told : List Frame → Type 0
    Told fs = Verdict text (reads docs 0 at (state fs ts) cs)

    told_next : (p : Piece) (fs gs : List Frame) (next : List TokenTree) → front docs cs ≡ Ok (found p w ds)
        → act (span at (at + size w)) (encode_utf8_all w) p (state fs ts) ≡ Ok (state gs next) → Stack docs (chars text) gs next (at + size w) ds → Told fs
    told_next p fs gs next h a s =
        subst (Verdict text) (sym (reads_piece docs at (state fs ts) (state gs next) cs w ds p h a)) (sound ds short (at + size w) gs next s)

    told_unexpected : (d : Delimiter) (fs : List Frame) → front docs cs ≡ Ok (found (Close d) w ds) → ClosesNone d (innermost fs)
        → closed d (span at (at + size w)) fs ts ≡ Err (unexpected_at (span at (at + size w))) → Stack docs (chars text) fs ts at cs → Told fs
    told_unexpected d fs h none a s =
        subst (Verdict text) (sym (reads_refused docs at (state fs ts) cs w ds (Close d) (unexpected_at (span at (at + size w))) h a))
        (unexpected at cs w ds (innermost fs) d (stack_reaches s) (front_is docs cs (found (Close d) w ds) h) none)

    told_closing : (d : Delimiter) (fs : List Frame) → front docs cs ≡ Ok (found (Close d) w ds) → Stack docs (chars text) fs ts at cs → Told fs
    told_closing d [] h s = told_unexpected d [] h tt refl s
    told_closing d (f ∷ fs) h s =
        let P : Bool → Type 0 = λ b. same f.delimiter d ≡ b → Told (f ∷ fs) in
        let by : P (same f.delimiter d) = elim (same f.delimiter d) as P [
          | true ↦ λ e.
              let g = h ∙ ap (λ k. Ok (found (Close k) w ds)) (sym (same_is f.delimiter d e)) in
              told_next (Close f.delimiter) (f ∷ fs) fs (f.before ++ group_tree f.delimiter f.span (span at (at + size w)) ts ∷ []) g
              (closed_same f.delimiter f.span (span at (at + size w)) f.before ts fs)
              (stack_closing s (front_is docs cs (found (Close f.delimiter) w ds) g))
          | false ↦ λ e. told_unexpected d (f ∷ fs) h (differs d f.delimiter e) (rw e refl) s
        ] in by refl

    told_piece : (p : Piece) (fs : List Frame) → front docs cs ≡ Ok (found p w ds) → Stack docs (chars text) fs ts at cs → Told fs
    told_piece (Leaf t) fs h s =
        told_next (Leaf t) fs fs (ts ++ leaf_trees t at w) h refl (stack_leaf t s (front_is docs cs (found (Leaf t) w ds) h))
    told_piece (Open d) fs h s =
        told_next (Open d) fs (frame d (span at (at + size w)) ts ∷ fs) [] h refl (stack_opening d s (front_is docs cs (found (Open d) w ds) h))
    told_piece (Close d) fs h s = told_closing d fs h s

  sound_front : (text : Bytes) (n : ℕ) → Sound text n → (c : ℕ) (cs : Text) → length cs ≤ n → (o : Result Found ErrorKind) → front docs (c ∷ cs) ≡ o
      → (at : ℕ) (fs : List Frame) (ts : List TokenTree) → Stack docs (chars text) fs ts at (c ∷ cs) → Verdict text (reads docs 0 at (state fs ts) (c ∷ cs))
  sound_front text n sound c cs le (Err k) h at fs ts s =
      subst (Verdict text) (sym (reads_faulty docs k at c (state fs ts) cs h)) (faulty k at c cs (innermost fs) (stack_reaches s) (front_faulty docs (c ∷ cs) k h))
  sound_front text n sound c cs le (Ok f) h at fs ts s =
      let e = front_splits docs (c ∷ cs) f h in
      let short : length f.rest ≤ n = omega (arith, e.some, ap length e.whole, length-append f.spelled f.rest) in
      told_piece text n sound (c ∷ cs) f.spelled f.rest at short ts f.piece fs h s

  reads_sound : (text : Bytes) (n : ℕ) → Sound text n
  reads_sound text n [] le at fs ts s = subst (Verdict text) (sym (reads_end docs at (state fs ts))) (sound_end text at fs ts s)
  reads_sound text zero (c ∷ cs) le at fs ts s = absurd (omega arith)
  reads_sound text (suc n) (c ∷ cs) le at fs ts s =
      sound_front text n (reads_sound text n) c cs (omega arith) (front docs (c ∷ cs)) refl at fs ts s

  lexed_verdict : (text : Bytes) → Verdict text (lexed_with docs text)
  lexed_verdict text =
      let cs = chars text in
      reads_sound text (length cs) cs (omega arith) 0 [] [] (bottom [] 0 cs (nothing 0 cs))

  pub spelled_lexed : (text : Bytes) (l : List TokenTree) → lexed_with docs text ≡ Ok l → SpellsWith docs text l
  spelled_lexed text l h = subst (Verdict text) h (lexed_verdict text)

  pub refused_lexed : (text : Bytes) (e : Refusal) → lexed_with docs text ≡ Err e → RefusedWith docs text e
  refused_lexed text e h = subst (Verdict text) h (lexed_verdict text)

  -- ---- what is refused by a rule is refused

  abbrev IsInnermost : Option Opening → List Frame → Type 0
  IsInnermost None fs = fs ≡ []
  IsInnermost (Some o) fs = (f : Frame) × (gs : List Frame) × (fs ≡ f ∷ gs) × (f.delimiter ≡ o.0) × (f.span ≡ o.1)

  -- reading a text from its start comes to the place, in this state
  abbrev Comes : ℕ → Text → Option Opening → ℕ → Text → Type 0
  Comes at cs o end rest =
      (fs : List Frame) × (ts : List TokenTree) × IsInnermost o fs × (reads docs 0 at start cs ≡ reads docs 0 end (state fs ts) rest)

  reads_reaches : {at end : ℕ} {cs rest : Text} {o : Option Opening} → Reaches docs at cs o end rest → Comes at cs o end rest
  reads_reaches (outside at end cs rest l s) = ([], l, refl, reads_spelled s [] [])
  reads_reaches (inside at middle end cs es w ds rest o d l below b s) =
      let c = reads_reaches below in
      let f = frame d (span middle (middle + size w)) c.1 in (
        f ∷ c.0,
        l,
        (f, c.0, refl, refl, refl),
        c.3 ∙ reads_piece docs middle (state c.0 c.1) (state (f ∷ c.0) []) es w ds (Open d) (front_only docs (Open d) es w ds b) refl
            ∙ reads_spelled s (f ∷ c.0) [],
      )

  closes_none : (d : Delimiter) (s : Span) (o : Option Opening) (fs : List Frame) (ts : List TokenTree) → IsInnermost o fs → ClosesNone d o
      → closed d s fs ts ≡ Err (unexpected_at s)
  closes_none d s None fs ts i none = rw i refl
  closes_none d s (Some o) fs ts i none =
      let P : Bool → Type 0 = λ b. same i.0.delimiter d ≡ b → closed d s (i.0 ∷ i.1) ts ≡ Err (unexpected_at s) in
      let by : P (same i.0.delimiter d) = elim (same i.0.delimiter d) as P [
        | true ↦ λ e. absurd (none (sym i.3 ∙ same_is i.0.delimiter d e))
        | false ↦ λ e. rw e refl
      ] in
      ap (λ gs. closed d s gs ts) i.2 ∙ by refl

  pub lexed_refused : (text : Bytes) (e : Refusal) → RefusedWith docs text e → lexed_with docs text ≡ Err e
  lexed_refused text e (unclosed end o r) =
      let c = reads_reaches r in
      c.3 ∙ reads_end docs end (state c.0 c.1) ∙ ap (λ fs. finished fs c.1) c.2.2 ∙ ap (λ s. Err (named UnclosedDelimiter s)) c.2.4
  lexed_refused text e (unexpected end rest w ds o d r b none) =
      let c = reads_reaches r in
      c.3 ∙ reads_refused docs end (state c.0 c.1) rest w ds (Close d) (unexpected_at (span end (end + size w))) (front_only docs (Close d) rest w ds b)
      (closes_none d (span end (end + size w)) o c.0 c.1 c.2 none)
  lexed_refused text e (faulty k end ch ds o r h) =
      let c = reads_reaches r in
      c.3 ∙ reads_faulty docs k end ch (state c.0 c.1) ds (faulty_front docs (ch ∷ ds) k h)

  -- ---- how the result of reading stands to what a text spells

  module _ {A : Type 0} (f : A → List TokenTree) (text : Bytes) where
    pub gives_spelled : (r : Result A Refusal) → Gives f r (lexed_with docs text) → IfOk r (λ a. SpellsWith docs text (f a))
    gives_spelled (Ok a) h = spelled_lexed text (f a) h
    gives_spelled (Err e) h = tt

    pub gives_all : (r : Result A Refusal) → Gives f r (lexed_with docs text) → (l : List TokenTree) → SpellsWith docs text l
        → MatchResult r (λ a. f a ≡ l) (λ e. e ≡ out_of_memory)
    gives_all (Ok a) h l s = let e = sym h ∙ lexed_spelled text l s in cc
    gives_all (Err e) (inl h) l s = h
    gives_all (Err e) (inr h) l s = let bad = sym h ∙ lexed_spelled text l s in cc

    pub gives_refused : (r : Result A Refusal) → Gives f r (lexed_with docs text) → IfErr r (λ e. (e ≡ out_of_memory) ⊎ RefusedWith docs text e)
    gives_refused (Ok a) h = tt
    gives_refused (Err e) (inl h) = inl h
    gives_refused (Err e) (inr h) = inr (refused_lexed text e h)

    pub gives_refusal : (r : Result A Refusal) → Gives f r (lexed_with docs text) → (e : Refusal) → RefusedWith docs text e
        → MatchResult r (λ _. ⊥) (λ g. (g ≡ e) ⊎ (g ≡ out_of_memory))
    gives_refusal (Ok a) h e s = let bad = sym h ∙ lexed_refused text e s in cc
    gives_refusal (Err g) (inl h) e s = inr h
    gives_refusal (Err g) (inr h) e s = let same_refusal = sym h ∙ lexed_refused text e s in inl (cc)
