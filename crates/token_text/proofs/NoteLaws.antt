-- Laws of the parts of a note.
use Rattle.std.proofs.Common.{◌≡◌, ℕ, zero, suc, ◌+◌, ◌-◌, ◌<◌, ◌≤◌, Bool, true, false, cond, ◌==◌, nat_lt, [], ◌∷◌, ◌++◌, length, drop, replicate, reverse, chars, encode_utf8_all, IsUtf8, codes, Ok, Err, refl, sym, ap, ◌∙◌, arith, append_assoc, append-nil, length-append, drop_at}
use Rattle.std.proofs.lemmas.List.{append_cancel_right, reverse-append, length-replicate}
use Rattle.std.proofs.lemmas.Str.{encodes_same, encodes-chars, length-le-encodes}
use Rattle.std.proofs.lemmas.Bool.{eq-eqb, ne_eqb, lt-ltb, le-ltb}
use Rattle.std.specs.Char.{len_utf8}
use Rattle.std.specs.Fmt.{decimal}
use Rattle.token_core.specs.Toks.{Bytes}
use Rattle.token_core.specs.declared.error.ErrorKind.{ErrorKind}
use Rattle.token_text.specs.declared.piece.Docs.TheVariants.{Refuse}
use Rattle.token_text.specs.declared.piece.Piece.{Piece}
use Rattle.token_text.specs.Characters.{Text, size, upto}
use Rattle.token_text.specs.Front.{Past, found, found_in, look, front}
use Rattle.token_text.specs.Note.{within, beyond, ends_line, first_line, line_end, before_feed, last_line, line_feeds, is_token, past_piece, past_pieces, visible_char, visible, columns_of, columns, drawn, blanks, marks, written, between}
use Rattle.token_text.proofs.PieceLaws.{front_splits}
use Rattle.token_text.proofs.Steps.{front_refused}
use Rattle.token_text.proofs.Words.{spelled_so}

-- ---- parts of a text

-- the characters of what stands before an end of a text
pub front_so : (text w rest : Bytes) (f : Text) → Past text rest → IsUtf8 w → text ≡ w ++ rest → f ++ chars rest ≡ chars text → chars w ≡ f
front_so text w rest f p u e h =
    encodes_same (chars w) p.front (encodes-chars w u ∙ sym (append_cancel_right (encode_utf8_all p.front) w rest (sym p.split ∙ e)))
    ∙ append_cancel_right p.front f (chars rest) (sym p.whole ∙ sym h)

pub cut_whole : (n : ℕ) (cs : Text) → within n cs ++ beyond n cs ≡ cs
cut_whole n [] = refl
cut_whole n (c ∷ cs) =
    let P : Bool → Type 0 = λ b. cond b [] (c ∷ within (n - len_utf8 c) cs) ++ cond b (c ∷ cs) (beyond (n - len_utf8 c) cs) ≡ c ∷ cs in
    let f : P (nat_lt n (len_utf8 c)) = elim (nat_lt n (len_utf8 c)) as P [ true ↦ refl | false ↦ ap (λ t. c ∷ t) (cut_whole (n - len_utf8 c) cs) ] in f

-- ---- lines

pub first_line_whole : (cs : Text) → first_line cs ++ line_end cs ≡ cs
first_line_whole [] = refl
first_line_whole (c ∷ cs) =
    let P : Bool → Type 0 = λ b. cond b [] (c ∷ first_line cs) ++ cond b (c ∷ cs) (line_end cs) ≡ c ∷ cs in
    let f : P (ends_line c cs) = elim (ends_line c cs) as P [ true ↦ refl | false ↦ ap (λ t. c ∷ t) (first_line_whole cs) ] in f

reverse-cons : (c : ℕ) (cs : Text) → reverse (c ∷ cs) ≡ reverse cs ++ c ∷ []
reverse-cons c cs = reverse-append (c ∷ []) cs

last_line_more : (f : Text) (c : ℕ) → last_line (f ++ c ∷ []) ≡ cond (c == 10) [] (last_line f ++ c ∷ [])
last_line_more f c =
    let P : Bool → Type 0 = λ b. reverse (cond b [] (c ∷ before_feed (reverse f))) ≡ cond b [] (last_line f ++ c ∷ []) in
    let g : P (c == 10) = elim (c == 10) as P [ true ↦ refl | false ↦ reverse-cons c (before_feed (reverse f)) ] in
    ap (λ t. reverse (before_feed t)) (reverse-append f (c ∷ [])) ∙ g

-- what a line begins with, as far as a text was read
abbrev pub Begun : Bytes → Bytes → Bytes → Type 0
Begun text line rest = (f : Text) × (chars text ≡ f ++ chars rest) × (chars line ≡ last_line f ++ chars rest)

begun_more : (text rest after : Bytes) (f : Text) (c : ℕ) → chars text ≡ f ++ chars rest → chars rest ≡ c ∷ chars after → chars text ≡ (f ++ c ∷ []) ++ chars after
begun_more text rest after f c e r = e ∙ ap (λ t. f ++ t) r ∙ sym (append_assoc f (c ∷ []) (chars after))

pub begun_anew : (text line rest after : Bytes) (c : ℕ) → Begun text line rest → chars rest ≡ c ∷ chars after → c ≡ 10 → Begun text after after
begun_anew text line rest after c (f, e, l) r feed =
    let t : (c == 10) ≡ true = eq-eqb c 10 feed in
    let none : last_line (f ++ c ∷ []) ≡ [] = last_line_more f c ∙ ap (λ b. cond b [] (last_line f ++ c ∷ [])) t in
    (f ++ c ∷ [], begun_more text rest after f c e r, sym (ap (λ x. x ++ chars after) none))

pub begun_goes : (text line rest after : Bytes) (c : ℕ) → Begun text line rest → chars rest ≡ c ∷ chars after → (c ≡ 10 → ⊥) → Begun text line after
begun_goes text line rest after c (f, e, l) r other =
    let t : (c == 10) ≡ false = ne_eqb c 10 other in
    let more : last_line (f ++ c ∷ []) ≡ last_line f ++ c ∷ [] = last_line_more f c ∙ ap (λ b. cond b [] (last_line f ++ c ∷ [])) t in
    (f ++ c ∷ [], begun_more text rest after f c e r, l ∙ ap (λ x. last_line f ++ x) r ∙ sym (append_assoc (last_line f) (c ∷ []) (chars after)) ∙ sym (ap (λ x. x ++ chars after) more))

-- ---- the end of the input

past_turn : (last cs y : Text) (c n : ℕ) → past_piece last cs (front Refuse (c ∷ cs)) ≡ (n, y) → past_pieces 0 last (c ∷ cs) ≡ past_pieces n y cs
unfolding past_pieces
past_turn last cs y c n h = rw (h, past_pieces) refl

past_left : (n : ℕ) (last cs : Text) → past_pieces n last cs ≡ past_pieces 0 last (drop n cs)
unfolding past_pieces
past_left zero last cs = refl
past_left (suc n) last [] = refl
past_left (suc n) last (c ∷ cs) = past_left n last cs

pub past_end : (last cs : Text) → cs ≡ [] → past_pieces 0 last cs ≡ last
unfolding past_pieces
past_end last cs e = rw e refl

past_front : (p : Piece) (cs w rest last : Text) → front Refuse cs ≡ Ok (found p w rest) → past_pieces 0 last cs ≡ past_pieces 0 (cond (is_token p) rest last) rest
past_front p cs [] rest last h = let s = front_splits Refuse cs (found p [] rest) h in absurd (omega (arith, s.some))
past_front p [] (c ∷ w) rest last h = let s = front_splits Refuse [] (found p (c ∷ w) rest) h in let e = s.whole in cc
past_front p (d ∷ cs) (c ∷ w) rest last h =
    let s = front_splits Refuse (d ∷ cs) (found p (c ∷ w) rest) h in
    let whole = s.whole in
    let tail : cs ≡ w ++ rest = cc in
    let n : suc (length w) - 1 ≡ length w = omega arith in
    let next = cond (is_token p) rest last in
    let t : past_piece last cs (front Refuse (d ∷ cs)) ≡ (length w, next) = rw h (ap (λ m. (m, next)) n) in
    past_turn last cs next d (length w) t ∙ past_left (length w) next cs
    ∙ ap (λ r. past_pieces 0 next r) (ap (drop (length w)) tail ∙ drop_at w rest (length w) refl)

front_looked : (cs ds : Text) (p : Piece) → look Refuse cs ≡ Ok (p, ds) → front Refuse cs ≡ Ok (found p (upto cs ds) ds)
unfolding front
front_looked cs ds p h = ap (found_in cs) h

-- a piece is passed over
pub past_goes : (cs rest last : Text) (p : Piece) → look Refuse cs ≡ Ok (p, rest) → past_pieces 0 last cs ≡ past_pieces 0 (cond (is_token p) rest last) rest
past_goes cs rest last p h = past_front p cs (upto cs rest) rest last (front_looked cs rest p h)

-- where none begins, the line is
pub past_stuck : (cs ds last : Text) (c : ℕ) (k : ErrorKind) → cs ≡ c ∷ ds → look Refuse cs ≡ Err k → past_pieces 0 last cs ≡ past_pieces 0 (line_end ds) (line_end ds)
past_stuck cs ds last c k e h =
    let none : front Refuse (c ∷ ds) ≡ Err k = front_refused Refuse (c ∷ ds) k (ap (look Refuse) (sym e) ∙ h) in
    let t : past_piece last ds (front Refuse (c ∷ ds)) ≡ (length (first_line ds), line_end ds) = rw none refl in
    ap (past_pieces 0 last) e ∙ past_turn last ds (line_end ds) c (length (first_line ds)) t ∙ past_left (length (first_line ds)) (line_end ds) ds
    ∙ ap (λ r. past_pieces 0 (line_end ds) r)
    (ap (drop (length (first_line ds))) (sym (first_line_whole ds)) ∙ drop_at (first_line ds) (line_end ds) (length (first_line ds)) refl)

-- a piece has a character
pub look_less : (text rest : Bytes) (p : Piece) → look Refuse (chars text) ≡ Ok (p, chars rest) → Past text rest → length rest < length text
look_less text rest p h past =
    let w = upto (chars text) (chars rest) in
    let s = front_splits Refuse (chars text) (found p w (chars rest)) (front_looked (chars text) (chars rest) p h) in
    let e : text ≡ encode_utf8_all w ++ rest = past.split ∙ ap (λ t. t ++ rest) (sym (spelled_so text (encode_utf8_all past.front) rest past past.split)) in
    omega (arith, ap length e, length-append (encode_utf8_all w) rest, s.some, length-le-encodes w)

-- ---- what is shown

-- a step: `out` is what was shown, and what stands for the character is put after it
pub visible_goes : (cs ds : Text) (c : ℕ) (whole out new : Bytes) → whole ≡ out ++ visible cs → cs ≡ c ∷ ds → new ≡ out ++ visible_char c → whole ≡ new ++ visible ds
visible_goes cs ds c whole out new h e n =
    h ∙ ap (λ t. out ++ visible t) e ∙ sym (append_assoc out (visible_char c) (visible ds)) ∙ ap (λ t. t ++ visible ds) (sym n)

-- ---- columns

pub length-drawn : (fill tab : ℕ) (cs : Text) → length (drawn fill tab cs) ≡ columns cs
length-drawn fill tab [] = refl
length-drawn fill tab (c ∷ cs) =
    length-append (replicate (columns_of c) (cond (c == 9) tab fill)) (drawn fill tab cs)
    ∙ ap (λ n. n + length (drawn fill tab cs)) (length-replicate (columns_of c) (cond (c == 9) tab fill))
    ∙ ap (λ n. columns_of c + n) (length-drawn fill tab cs)

pub is_tab : (c x y : ℕ) → c ≡ 9 → x ≡ cond (c == 9) x y
is_tab c x y h = let t : (c == 9) ≡ true = eq-eqb c 9 h in rw t refl

pub no_tab : (c x y : ℕ) → (c ≡ 9 → ⊥) → y ≡ cond (c == 9) x y
no_tab c x y h = let t : (c == 9) ≡ false = ne_eqb c 9 h in rw t refl

-- ---- the note

pub size_so : (w : Bytes) (f : Text) → IsUtf8 w → chars w ≡ f → length w ≡ size f
size_so w f u e = ap length (sym (encodes-chars w u)) ∙ ap size e

regroup : (name message before after b m : Bytes) (line column : ℕ) →
    (name ++ (codes ":" ++ (decimal line ++ (codes ":" ++ (decimal column ++ (codes ": " ++ message)))))) ++ (codes "\n" ++ (before ++ (after ++ (codes "\n" ++ (b ++ m)))))
    ≡ written name line column message (before ++ after) (b ++ m)
regroup name message before after b m line column = simp append_assoc

-- what is written of the parts of a text
pub noted : (name message heading before after b m : Bytes) (line column end first : ℕ) (head rest : Text) →
    heading ≡ name ++ (codes ":" ++ (decimal line ++ (codes ":" ++ (decimal column ++ (codes ": " ++ message))))) →
    line ≡ first + line_feeds head → column ≡ 1 + columns (chars (visible (last_line head))) →
    before ≡ visible (last_line head) → after ≡ visible (first_line rest) →
    b ≡ blanks (chars (visible (last_line head))) → m ≡ marks (chars (visible (within (end - size head) (first_line rest)))) →
    heading ++ (codes "\n" ++ (before ++ (after ++ (codes "\n" ++ (b ++ m))))) ≡ between name first message end head rest
noted name message heading before after b m line column end first head rest h l k f g d e =
    let lines = first + line_feeds head in
    let columns_before = 1 + columns (chars (visible (last_line head))) in
    let shown = visible (last_line head) ++ visible (first_line rest) in
    ap (λ t. t ++ (codes "\n" ++ (before ++ (after ++ (codes "\n" ++ (b ++ m)))))) h
    ∙ regroup name message before after b m line column
    ∙ ap (λ n. written name n column message (before ++ after) (b ++ m)) l
    ∙ ap (λ n. written name lines n message (before ++ after) (b ++ m)) k
    ∙ ap (λ t. written name lines columns_before message (t ++ after) (b ++ m)) f
    ∙ ap (λ t. written name lines columns_before message (visible (last_line head) ++ t) (b ++ m)) g
    ∙ ap (λ t. written name lines columns_before message shown (t ++ m)) d
    ∙ ap (λ t. written name lines columns_before message shown (blanks (chars (visible (last_line head))) ++ t)) e
