-- The literal of a comment of documentation is a string literal that holds what the comment says.
use Rattle.std.proofs.Common.{◌≡◌, ℕ, zero, suc, true, false, ◌&&◌, ◌==◌, map, Some, List, [], ◌∷◌, ◌++◌, encode_utf8_all, refl, sym, ap, ◌∙◌, append_assoc, append-nil, ap₂, encode_utf8, drop, chars}
use Rattle.std.proofs.lemmas.Str.{encodes-append, scalars-chars, chars_from_encodes}
use Rattle.std.specs.Str.{IsUtf8}
use lib.Utf8.{scalar, scalars}
use Rattle.token_core.specs.declared.lit.LitStr.{LitStr}
use Rattle.token_core.specs.declared.span.Span.{Span}
use Rattle.token_core.specs.declared.tree.LitKind.TheVariants.{Str}
use Rattle.token_core.specs.Lits.{lit_str}
use Rattle.token_core.specs.Toks.{Bytes}
use Rattle.token_text.specs.declared.piece.Closing.TheVariants.{DoubleQuote}
use Rattle.token_text.specs.declared.piece.Form.{Form}
use Rattle.token_text.specs.Characters.{Text}
use Rattle.token_text.specs.Pieces.{ends_here, up_to_end, doc_text, escape, escaped, quoted, doc_literal, has_hashes}
use Rattle.token_text.specs.Front.{opening, after_suffix}
use Rattle.token_text.specs.Strings as strings
use Rattle.token_text.specs.Strings.{shown, after_closing, between, Held, held, Holds, nothing, a_char, HasValue}
use Rattle.token_text.proofs.CharacterLaws.{which, left, right, same_number}

-- ---- step by step

abbrev pub said : Form → Text → Bytes
said f cs = encode_utf8_all (escaped (up_to_end f cs))

pub said_none : (f : Form) (cs : Text) → cs ≡ [] → said f cs ≡ []
said_none f cs e = rw e refl

pub said_ends : (f : Form) (cs ds : Text) (c : ℕ) → cs ≡ c ∷ ds → ends_here f c ds ≡ true → said f cs ≡ []
said_ends f cs ds c e h = rw (e, h) refl

pub said_goes : (f : Form) (cs ds : Text) (c : ℕ) → cs ≡ c ∷ ds → ends_here f c ds ≡ false → said f cs ≡ encode_utf8_all (escape c) ++ said f ds
said_goes f cs ds c e h = rw (e, h) (encodes-append (escape c) (escaped (up_to_end f ds)))

-- what was written and what is left are what was to be written
pub written_more : (out new all : Bytes) (f : Form) (cs ds : Text) (c : ℕ) → out ++ said f cs ≡ all → cs ≡ c ∷ ds → ends_here f c ds ≡ false
    → new ≡ out ++ encode_utf8_all (escape c) → new ++ said f ds ≡ all
written_more out new all f cs ds c i e h w =
    ap (λ t. t ++ said f ds) w ∙ append_assoc out (encode_utf8_all (escape c)) (said f ds) ∙ ap (λ t. out ++ t) (sym (said_goes f cs ds c e h)) ∙ i

pub written_all : (out all : Bytes) (f : Form) (cs : Text) → out ++ said f cs ≡ all → said f cs ≡ [] → out ≡ all
written_all out all f cs i e = sym (append-nil out) ∙ ap (λ t. out ++ t) (sym e) ∙ i

-- between quotes it is the literal
pub literal_is : (f : Form) (comment text none one two all : Bytes) → none ≡ [] → one ≡ none ++ encode_utf8 34 → chars text ≡ drop 3 (chars comment)
    → two ≡ one ++ said f (chars text) → all ≡ two ++ encode_utf8 34 → all ≡ doc_literal f comment
literal_is f comment text none one two all e g h k l =
    let quote = encode_utf8 34 in
    let there = said f (drop 3 (chars comment)) in
    let opened : one ≡ quote = g ∙ ap (λ t. t ++ quote) e in
    let two_is : two ≡ quote ++ there = k ∙ ap₂ (λ (t u : Bytes). t ++ u) opened (ap (said f) h) in
    let closed : encode_utf8_all (escaped (doc_text f (chars comment)) ++ 34 ∷ []) ≡ there ++ quote =
    encodes-append (escaped (doc_text f (chars comment))) (34 ∷ []) ∙ ap (λ t. there ++ t) (append-nil quote) in
    l ∙ ap (λ t. t ++ quote) two_is ∙ append_assoc quote there quote ∙ ap (λ t. quote ++ t) (sym closed)

-- ---- what the literal holds

-- an escape stands for its character
module _ (c : ℕ) (ds : Text) where
  stands_for : (d : ℕ) (w : Text) → (c == d) ≡ true → shown DoubleQuote (w ++ ds) ≡ Some (Some d, ds) → shown DoubleQuote (w ++ ds) ≡ Some (Some c, ds)
  stands_for d w e h = h ∙ ap (λ (x : ℕ). Some (Some x, ds)) (sym (same_number c d e))

  as_it_is : (c == 13) ≡ false → (c == 34) ≡ false → (c == 92) ≡ false → shown DoubleQuote (c ∷ ds) ≡ Some (Some c, ds)
  unfolding shown after_closing strings.unit
  as_it_is h k l = rw (h, k, l) refl

  escape_stands : shown DoubleQuote (escape c ++ ds) ≡ Some (Some c, ds)
  unfolding escape shown after_closing strings.unit strings.escaped strings.letter
  escape_stands =
      let P : Text → Type 0 = λ w. shown DoubleQuote (w ++ ds) ≡ Some (Some c, ds) in
      which P (c == 10) (λ e. stands_for 10 (92 ∷ 110 ∷ []) e refl) (λ _.
      which P (c == 13) (λ e. stands_for 13 (92 ∷ 114 ∷ []) e refl) (λ h.
      which P (c == 9) (λ e. stands_for 9 (92 ∷ 116 ∷ []) e refl) (λ _.
      which P (c == 0) (λ e. stands_for 0 (92 ∷ 48 ∷ []) e refl) (λ _.
      which P (c == 34) (λ e. stands_for 34 (92 ∷ 34 ∷ []) e refl) (λ k.
      which P (c == 92) (λ e. stands_for 92 (92 ∷ 92 ∷ []) e refl) (λ l. as_it_is h k l))))))

-- the characters of these are the text
abbrev Says : LitStr → Text → Text → Type 0
Says s cs body = (l : List Held) × Holds s DoubleQuote body l (34 ∷ []) × (map (λ (x : Held). x.ch) l ≡ cs)

says : (s : LitStr) (cs : Text) → Says s cs (escaped cs ++ 34 ∷ [])
says s [] = ([], nothing, refl)
says s (c ∷ cs) =
    let more = says s cs in
    let rest = escaped cs ++ 34 ∷ [] in
    let e : shown DoubleQuote ((escape c ++ escaped cs) ++ 34 ∷ []) ≡ Some (Some c, rest) =
    ap (shown DoubleQuote) (append_assoc (escape c) (escaped cs) (34 ∷ [])) ∙ escape_stands c rest in
    (held c (between s ((escape c ++ escaped cs) ++ 34 ∷ []) rest) ∷ more.0, a_char e more.1, ap (λ t. c ∷ t) more.2)

opens_so : (body : Text) → opening (34 ∷ body) ≡ Some (Str, DoubleQuote, body)
unfolding opening
opens_so body = refl

closes_so : after_closing DoubleQuote (34 ∷ []) ≡ Some []
unfolding after_closing has_hashes
closes_so = refl

no_suffix : after_suffix [] ≡ []
unfolding after_suffix
no_suffix = refl

holds_quoted : (s : LitStr) (cs : Text) → chars s.text ≡ quoted cs → HasValue s (encode_utf8_all cs)
holds_quoted s cs e =
    let h = says s cs in
    let place = between s (34 ∷ []) [] in (
      record { held = h.0; closing = place; suffix = [] },
      record {
        how = DoubleQuote;
        end = 34 ∷ [];
        reaches = record { body = escaped cs ++ 34 ∷ []; opens = ap opening e ∙ opens_so (escaped cs ++ 34 ∷ []); holds = h.1 };
        closes = closes_so;
        suffix = no_suffix;
        closing = refl;
      },
      ap encode_utf8_all (sym h.2),
    )

-- ---- it is text

scalars_append : (cs ds : Text) → scalars cs ≡ true → scalars ds ≡ true → scalars (cs ++ ds) ≡ true
scalars_append [] ds h k = k
scalars_append (c ∷ cs) ds h k = ap (λ b. b && scalars (cs ++ ds)) (left (scalar c) (scalars cs) h) ∙ scalars_append cs ds (right (scalar c) (scalars cs) h) k

scalars_drop : (n : ℕ) (cs : Text) → scalars cs ≡ true → scalars (drop n cs) ≡ true
scalars_drop zero cs h = h
scalars_drop (suc n) [] h = h
scalars_drop (suc n) (c ∷ cs) h = scalars_drop n cs (right (scalar c) (scalars cs) h)

scalars_until : (f : Form) (cs : Text) → scalars cs ≡ true → scalars (up_to_end f cs) ≡ true
scalars_until f [] h = h
scalars_until f (c ∷ cs) h =
    which (λ t. scalars t ≡ true) (ends_here f c cs) (λ _. refl)
    (λ _. ap (λ b. b && scalars (up_to_end f cs)) (left (scalar c) (scalars cs) h) ∙ scalars_until f cs (right (scalar c) (scalars cs) h))

scalars_escape : (c : ℕ) → scalar c ≡ true → scalars (escape c) ≡ true
unfolding escape
scalars_escape c h =
    let P : Text → Type 0 = λ w. scalars w ≡ true in
    which P (c == 10) (λ _. refl) (λ _. which P (c == 13) (λ _. refl) (λ _. which P (c == 9) (λ _. refl) (λ _.
    which P (c == 0) (λ _. refl) (λ _. which P (c == 34) (λ _. refl) (λ _. which P (c == 92) (λ _. refl) (λ _. ap (λ b. b && true) h))))))

scalars_escaped : (cs : Text) → scalars cs ≡ true → scalars (escaped cs) ≡ true
scalars_escaped [] h = refl
scalars_escaped (c ∷ cs) h =
    scalars_append (escape c) (escaped cs) (scalars_escape c (left (scalar c) (scalars cs) h)) (scalars_escaped cs (right (scalar c) (scalars cs) h))

scalars_quoted : (cs : Text) → scalars cs ≡ true → scalars (quoted cs) ≡ true
scalars_quoted cs h = scalars_append (escaped cs) (34 ∷ []) (scalars_escaped cs h) refl

-- `lit_str_value` of a comment's literal is what the comment says
pub doc_value : (f : Form) (b : Bytes) (s : Span) → IsUtf8 b → HasValue (lit_str (doc_literal f b) s) (encode_utf8_all (doc_text f (chars b)))
doc_value f b s u =
    let cs = doc_text f (chars b) in
    let good : scalars (quoted cs) ≡ true = scalars_quoted cs (scalars_until f (drop 3 (chars b)) (scalars_drop 3 (chars b) (scalars-chars b u))) in
    holds_quoted (lit_str (doc_literal f b) s) cs (sym (chars_from_encodes (quoted cs) (doc_literal f b) (quoted cs, (good, refl)) refl))
