-- Steps over the characters of a text.
use Rattle.std.proofs.Common.{◌≡◌, ℕ, ◌<◌, ◌-◌, Bool, true, false, cond, ◌==◌, List, [], ◌∷◌, ◌++◌, length, chars, encode_utf8, encode_utf8_all, IsUtf8, Some, None, refl, sym, ap, ◌∙◌, arith, length-append, take_at}
use Rattle.std.proofs.lemmas.Str.{length-encode, len_utf8_bounds, chars_from_encodes}
use Rattle.std.proofs.lemmas.Bool.{eqb-true}
use Rattle.std.proofs.lemmas.List.{append_cancel_right}
use Rattle.token_text.specs.declared.class.Class.{Class}
use Rattle.token_text.specs.declared.class.Class.TheVariants.{Blank}
use Rattle.token_text.specs.Characters.{Text, upto, is_blank, passes, after_run}
use Rattle.token_text.specs.Front.{Past, after_blank, raw_word, any_word}
use Rattle.token_text.specs.Pieces.{has_raw_form, past_quote}

pub encode_utf8_nonempty : (c : ℕ) → 0 < length (encode_utf8 c)
encode_utf8_nonempty c = let bounds = len_utf8_bounds c in omega (arith, length-encode c)

pub upto_front : (w rest : Text) → upto (w ++ rest) rest ≡ w
upto_front w rest =
    let n : length (w ++ rest) - length rest ≡ length w = omega (arith, length-append w rest) in take_at w rest (length (w ++ rest) - length rest) (sym n)

-- the text before its end is spelled by the characters before it
pub spelled_so : (text w rest : List ℕ) → Past text rest → text ≡ w ++ rest → encode_utf8_all (upto (chars text) (chars rest)) ≡ w
spelled_so text w rest p e =
    ap (λ t. encode_utf8_all (upto t (chars rest))) p.whole ∙ ap encode_utf8_all (upto_front p.front (chars rest))
    ∙ append_cancel_right (encode_utf8_all p.front) w rest (sym p.split ∙ e)

-- and these are its characters
pub chars_upto : (text w rest : List ℕ) → Past text rest → text ≡ w ++ rest → IsUtf8 w → chars w ≡ upto (chars text) (chars rest)
chars_upto text w rest p e u =
    let same : encode_utf8_all p.front ≡ w = append_cancel_right (encode_utf8_all p.front) w rest (sym p.split ∙ e) in
    sym (chars_from_encodes p.front w u same) ∙ sym (ap (λ t. upto t (chars rest)) p.whole ∙ upto_front p.front (chars rest))

-- a step over a character of a class
pub run_goes_on : (p : Class) (cs ds : Text) (c : ℕ) → cs ≡ c ∷ ds → passes p c ≡ true → after_run p cs ≡ after_run p ds
run_goes_on p cs ds c e pass = rw (e, pass) refl

-- a step over a blank
pub blanks_go_on : (cs ds : Text) → after_blank cs ≡ Some ds → after_run Blank cs ≡ after_run Blank ds
unfolding passes
blanks_go_on [] ds h = cc
blanks_go_on (c ∷ cs) ds h =
    let P : Bool → Type 0 = λ b. cond b (Some cs) None ≡ Some ds → cond b (after_run Blank cs) (c ∷ cs) ≡ after_run Blank ds in
    let f : P (is_blank c) = elim (is_blank c) as P [ true ↦ λ e. (let same : cs ≡ ds = cc in ap (after_run Blank) same) | false ↦ λ bad. cc ] in f h

pub blanks_end : (cs : Text) → after_blank cs ≡ None → after_run Blank cs ≡ cs
unfolding passes
blanks_end [] h = refl
blanks_end (c ∷ cs) h =
    let P : Bool → Type 0 = λ b. cond b (Some cs) None ≡ None → cond b (after_run Blank cs) (c ∷ cs) ≡ c ∷ cs in
    let f : P (is_blank c) = elim (is_blank c) as P [ true ↦ λ bad. cc | false ↦ λ e. refl ] in f h

pub raw_form_found : (cs rest : Text) (w : List ℕ) → raw_word cs ≡ Some rest → encode_utf8_all (upto cs rest) ≡ w → has_raw_form w ≡ true → any_word cs ≡ Some rest
unfolding any_word
raw_form_found cs rest w e same form = rw (e, same, form) refl

pub raw_form_lacks : (cs rest : Text) (w : List ℕ) → raw_word cs ≡ Some rest → encode_utf8_all (upto cs rest) ≡ w → has_raw_form w ≡ false → any_word cs ≡ None
unfolding any_word
raw_form_lacks cs rest w e same form = rw (e, same, form) refl

-- a text without a quote at its front stays
pub no_quote : (b : List ℕ) → ((rest : List ℕ) → b ≡ 39 ∷ rest → ⊥) → b ≡ past_quote b
no_quote [] h = refl
no_quote (c ∷ b) h =
    let P : Bool → Type 0 = λ t. (c == 39) ≡ t → c ∷ b ≡ cond t b (c ∷ b) in
    let f : P (c == 39) = elim (c == 39) as P [ true ↦ λ e. absurd (h b (ap (λ d. d ∷ b) (eqb-true c 39 e))) | false ↦ λ e. refl ] in f refl
