-- Ends of texts by their characters, and what the rules leave of a text.
use Rattle.std.proofs.Common.{◌≡◌, ℕ, zero, suc, ◌<◌, [], ◌∷◌, ◌++◌, length, drop, true, false, ◌||◌, ◌==◌, if◌then◌else◌, refl, ap, ◌∙◌, arith}
use Rattle.token_core.specs.declared.tree.LitKind.{LitKind}
use Rattle.token_text.specs.Pieces.{after_sign}
use Rattle.token_text.specs.declared.class.Class.{Class}
use Rattle.token_text.specs.declared.piece.Closing.{Closing}
use Rattle.token_text.specs.declared.piece.Closing.TheVariants.{DoubleQuote, Hashes, Quote}
use Rattle.token_text.specs.declared.piece.Docs.{Docs}
use Rattle.token_text.specs.declared.piece.Piece.{Piece}
use Rattle.token_core.specs.declared.tree.Delimiter.{Delimiter}
use Rattle.token_core.specs.declared.tree.Delimiter.TheVariants as delimiters
use Rattle.token_text.specs.Characters.{Text, upto}
use Rattle.token_text.specs.Literals.{Run, run_ends, run_goes, IsWord, a_word, IsAnyWord, plain, raw, AreHashes, no_hash, a_hash, Opens, string, byte_string, c_string, raw_string, raw_byte_string, raw_c_string, char, byte, IsQuoted, double_quote, escape, other, IsHashed, here, later, IsChar, escaped, one, Closes, IsSuffix, none, suffix, IsBase, hexadecimal, octal, binary, IsDecimal, digits, IsFraction, whole, fraction, IsExponent, absent, exponent, IsNumber, of_base, decimal, IsComment, ends, inner_begins, inner_ends, goes_on}
use Rattle.token_text.specs.Spelling.{IsPiece, blank, line_comment, block_comment, line_doc, block_doc, word, lifetime, literal, number, mark, opening, closing, opens, closes}
use Rattle.token_text.proofs.Words.{upto_front}

pub data End : Text → Text → Type 0 where
  all : {cs : Text} → End cs cs
  past : {c : ℕ} {cs rest : Text} → End cs rest → End (c ∷ cs) rest

-- an end that is not the whole
pub data Strict : Text → Text → Type 0 where
  strict : {c : ℕ} {cs rest : Text} → End cs rest → Strict (c ∷ cs) rest

end_of : {cs rest : Text} → Strict cs rest → End cs rest
end_of (strict e) = past e

end_trans : {cs ds es : Text} → End cs ds → End ds es → End cs es
end_trans all f = f
end_trans (past e) f = past (end_trans e f)

strict_trans : {cs ds es : Text} → Strict cs ds → End ds es → Strict cs es
strict_trans (strict e) f = strict (end_trans e f)

end_drop : (n : ℕ) (cs : Text) → End cs (drop n cs)
end_drop zero cs = all
end_drop (suc n) [] = all
end_drop (suc n) (c ∷ cs) = past (end_drop n cs)

front_of_end : {cs rest : Text} → End cs rest → (w : Text) × (cs ≡ w ++ rest)
front_of_end all = ([], refl)
front_of_end (past {c = c} e) = let f = front_of_end e in (c ∷ f.0, ap (λ t. c ∷ t) f.1)

-- the characters w and the rest are the text, and w is not empty
pub record Splits (cs w rest : Text) : Type 0 where
  pub whole : cs ≡ w ++ rest
  pub some : 0 < length w

front_of_strict : {cs rest : Text} → Strict cs rest → (w : Text) × Splits cs w rest
front_of_strict (strict {c = c} e) = let f = front_of_end e in (c ∷ f.0, record { whole = ap (λ t. c ∷ t) f.1; some = omega arith })

pub strict_splits : (cs rest : Text) → Strict cs rest → Splits cs (upto cs rest) rest
strict_splits cs rest s =
    let f = front_of_strict s in
    let e : upto cs rest ≡ f.0 = ap (λ t. upto t rest) f.1.whole ∙ upto_front f.0 rest in
    rw e f.1

-- ---- what the rules leave

run_end : {p : Class} {cs rest : Text} → Run p cs rest → End cs rest
run_end (run_ends h) = all
run_end (run_goes h r) = past (run_end r)

word_end : {cs rest : Text} → IsWord cs rest → Strict cs rest
word_end (a_word h r) = strict (run_end r)

any_word_end : {cs rest : Text} → IsAnyWord cs rest → Strict cs rest
any_word_end (plain n w) = word_end w
any_word_end (raw w h) = strict (past (end_of (word_end w)))

hashes_end : {n : ℕ} {cs rest : Text} → AreHashes n cs rest → End cs rest
hashes_end no_hash = past all
hashes_end (a_hash h) = past (hashes_end h)

opens_end : {k : LitKind} {how : Closing} {cs ds : Text} → Opens k how cs ds → Strict cs ds
opens_end string = strict all
opens_end byte_string = strict (past all)
opens_end c_string = strict (past all)
opens_end (raw_string h r) = strict (hashes_end r)
opens_end (raw_byte_string h r) = strict (past (hashes_end r))
opens_end (raw_c_string h r) = strict (past (hashes_end r))
opens_end (char h) = strict all
opens_end (byte h) = strict (past all)

quoted_end : {cs rest : Text} → IsQuoted cs rest → End cs rest
quoted_end double_quote = past all
quoted_end (escape q) = past (past (quoted_end q))
quoted_end (other h k q) = past (quoted_end q)

hashed_end : {n : ℕ} {cs rest : Text} → IsHashed n cs rest → End cs rest
hashed_end {n} (here {cs = cs} h) = past (end_drop n cs)
hashed_end (later h q) = past (hashed_end q)

char_end : {cs rest : Text} → IsChar cs rest → End cs rest
char_end (escaped r) = past (past (end_trans (run_end r) (past all)))
char_end (one h k) = past (past all)

closes_end : (how : Closing) {cs rest : Text} → Closes how cs rest → End cs rest
closes_end DoubleQuote q = quoted_end q
closes_end (Hashes n) q = hashed_end q
closes_end Quote q = char_end q

suffix_end : {cs rest : Text} → IsSuffix cs rest → End cs rest
suffix_end (none h) = all
suffix_end (suffix h r) = run_end r

base_end : {b : Class} {cs rest : Text} → IsBase b cs rest → Strict cs rest
base_end (hexadecimal h) = strict (past all)
base_end (octal h) = strict (past all)
base_end (binary h) = strict (past all)

decimal_end : {cs rest : Text} → IsDecimal cs rest → Strict cs rest
decimal_end (digits h n r) = strict (run_end r)

fraction_end : {k : LitKind} {cs rest : Text} → IsFraction k cs rest → End cs rest
fraction_end (whole h) = all
fraction_end (fraction h r) = past (run_end r)

sign_end : (cs : Text) → End cs (after_sign cs)
sign_end [] = all
sign_end (c ∷ cs) = elim (c == 43 || c == 45) as (λ b. End (c ∷ cs) (if b then cs else c ∷ cs)) [ true ↦ past all | false ↦ all ]

exponent_end : {j k : LitKind} {cs rest : Text} → IsExponent j k cs rest → End cs rest
exponent_end (absent h) = all
exponent_end (exponent {cs = cs} h d r) = past (end_trans (sign_end cs) (run_end r))

number_end : {k : LitKind} {cs rest : Text} → IsNumber k cs rest → Strict cs rest
number_end (of_base b r h) = strict_trans (base_end b) (run_end r)
number_end (decimal d f e) = strict_trans (decimal_end d) (end_trans (fraction_end f) (exponent_end e))

comment_end : {n : ℕ} {cs rest : Text} → IsComment n cs rest → End cs rest
comment_end ends = past (past all)
comment_end (inner_begins c) = past (past (comment_end c))
comment_end (inner_ends c) = past (past (comment_end c))
comment_end (goes_on h c) = past (comment_end c)

opening_end : (d : Delimiter) (rest : Text) → Strict (opens d ++ rest) rest
opening_end delimiters.Parenthesis rest = strict all
opening_end delimiters.Brace rest = strict all
opening_end delimiters.Bracket rest = strict all
opening_end delimiters.None rest = strict (past all)

closing_end : (d : Delimiter) (rest : Text) → Strict (closes d ++ rest) rest
closing_end delimiters.Parenthesis rest = strict all
closing_end delimiters.Brace rest = strict all
closing_end delimiters.Bracket rest = strict all
closing_end delimiters.None rest = strict (past all)

piece_end : {docs : Docs} {p : Piece} {cs rest : Text} → IsPiece docs p cs rest → Strict cs rest
piece_end (blank h) = strict all
piece_end (line_comment h r) = strict (past (run_end r))
piece_end (block_comment h c) = strict (past (comment_end c))
piece_end (line_doc d h r e) = strict (past (run_end r))
piece_end (block_doc d h c e) = strict (past (comment_end c))
piece_end (word w n) = any_word_end w
piece_end (lifetime h w) = strict (end_of (any_word_end w))
piece_end (literal {how = how} o c s) = strict_trans (opens_end o) (end_trans (closes_end how c) (suffix_end s))
piece_end (number n s) = strict_trans (number_end n) (suffix_end s)
piece_end (mark h k) = strict all
piece_end (opening {d = d} {rest = rest}) = opening_end d rest
piece_end (closing {d = d} {rest = rest}) = closing_end d rest

pub piece_splits : {docs : Docs} {p : Piece} {cs rest : Text} → IsPiece docs p cs rest → Splits cs (upto cs rest) rest
piece_splits {cs = cs} {rest = rest} p = strict_splits cs rest (piece_end p)
