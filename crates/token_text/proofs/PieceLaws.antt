-- The front that is found is the piece with which the text begins, and the only one; and where none is found, there is a reason.
use Rattle.std.proofs.Common.{◌≡◌, ◌⊎◌, inl, inr, ℕ, Bool, true, false, cond, not, ◌&&◌, ◌||◌, ◌==◌, if◌then◌else◌, [], ◌∷◌, ◌++◌, drop, codes, Option, Some, None, Result, Ok, Err, refl, sym, ap, ◌∙◌, subst}
use Rattle.std.specs.Char.{is_ascii_digit}
use Rattle.token_core.specs.declared.error.ErrorKind.{ErrorKind}
use Rattle.token_core.specs.declared.error.ErrorKind.TheVariants.{UnknownToken, DocComment}
use Rattle.token_core.specs.declared.tree.Delimiter.{Delimiter}
use Rattle.token_core.specs.declared.tree.Delimiter.TheVariants as delimiters
use Rattle.token_core.specs.declared.tree.LitKind.{LitKind}
use Rattle.token_core.specs.declared.tree.LitKind.TheVariants.{Char}
use Rattle.token_text.specs.declared.class.Class.TheVariants.{Continue, NoLineFeed}
use Rattle.token_text.specs.declared.piece.Closing.{Closing}
use Rattle.token_text.specs.declared.piece.Docs.{Docs}
use Rattle.token_text.specs.declared.piece.Docs.TheVariants.{Refuse, Read}
use Rattle.token_text.specs.declared.piece.Form.TheVariants.{Line, Block}
use Rattle.token_text.specs.declared.piece.Closing.TheVariants.{Quote}
use Rattle.token_text.specs.declared.piece.Leaf.TheVariants.{Blank, Doc, Word, Lifetime, Literal}
use Rattle.token_text.specs.declared.piece.Piece.{Piece}
use Rattle.token_text.specs.declared.piece.Piece.TheVariants.{Leaf, Open, Close}
use Rattle.token_text.specs.Characters.{Text, upto, begins_with, is_blank, is_mark, stands_alone, starts_word, is_start, after_run}
use Rattle.token_text.specs.Front.{Look, Opening, opening, closed, comment, after_suffix, ends, known, lifetime_piece, mark_piece, marked, numeral, number, any_word, before, single, word_or_single, line_comment, block_comment, slash, backslash, plain, unopened, other, opened_or_other, look, Found, found, front}
use Rattle.token_text.specs.Front as f
use Rattle.token_text.specs.Literals.{Run, IsAnyWord, Opens, Closes, IsComment}
use Rattle.token_text.specs.Pieces.{begins_char, is_char, begins_comment, is_line_doc, is_block_doc, style_of, has_lone_return}
use Rattle.token_text.specs.Spelling as rules
use Rattle.token_text.specs.Spelling.{opens, closes, begins_byte, NoLiteral, IsPiece, Begins, Named, no_end, no_comment_end, no_doc_end, line_doc_refused, block_doc_refused, malformed, Faulty}
use Rattle.token_text.proofs.CharacterLaws.{same_number, which, listed, off, lone, lone_starts, lone_digit, clash, start_clash, mark_lone, alone_lone, blank_lone, word_start, no_digit_starts}
use Rattle.token_text.proofs.RunLaws.{run_is, run_only, AnyWordSaid, any_word_said, any_word_only, any_word_starts, no_word, plain_word, suffix_is, suffix_only}
use Rattle.token_text.proofs.LiteralLaws.{first_is, second_is, OpeningSaid, opening_said, opening_only, ClosedSaid, closed_said, closed_only}
use Rattle.token_text.proofs.NumberLaws.{NumberSaid, number_said, number_of, number_only_of, malformed_of, Digit, number_digit, malformed_digit}
use Rattle.token_text.proofs.CommentLaws.{CommentSaid, comment_said, comment_only}
use Rattle.token_text.proofs.Ends.{Splits, piece_splits}
use Rattle.token_text.proofs.Words.{upto_front}

module _ (docs : Docs) where
  -- what is found is so, and what is not found has its reason
  abbrev LookSaid : Text → Look → Type 0
  LookSaid cs (Ok x) = IsPiece docs x.0 cs x.1
  LookSaid cs (Err k) = Named docs k cs ⊎ (k ≡ UnknownToken)

  -- ---- literals that have a beginning and an end

  none_closes : (how : Closing) (ds : Text) → closed how ds ≡ None → (rest : Text) → Closes how ds rest → ⊥
  none_closes how ds h rest q = let bad = sym h ∙ closed_only how ds rest q in cc

  literal_said : (k : LitKind) (how : Closing) (cs ds : Text) (o : Option Text) → Opens k how cs ds → closed how ds ≡ o → ClosedSaid how ds o → LookSaid cs (f.literal k o)
  literal_said k how cs ds None b h s = inl (no_end b (none_closes how ds h))
  literal_said k how cs ds (Some rest) b h s = rules.literal b s (suffix_is rest)

  -- ---- comments

  no_comment : (cs : Text) → comment 0 cs ≡ None → (rest : Text) → IsComment 0 cs rest → ⊥
  no_comment cs h rest c = let bad = sym h ∙ comment_only c in cc

  line_read_said : (cs rest : Text) → docs ≡ Read → is_line_doc cs ≡ true → Run NoLineFeed cs rest → LookSaid (47 ∷ 47 ∷ cs) (f.line_doc_to cs rest)
  line_read_said cs rest d h r =
      which (LookSaid (47 ∷ 47 ∷ cs)) (has_lone_return (upto cs (drop 1 rest))) (λ _. inr refl) (λ e. rules.line_doc d h r e)

  line_doc_by : (k : Docs) (cs : Text) → docs ≡ k → is_line_doc cs ≡ true → LookSaid (47 ∷ 47 ∷ cs) (f.line_doc k cs)
  unfolding f.line_doc
  line_doc_by Refuse cs d h = inl (line_doc_refused d h)
  line_doc_by Read cs d h = line_read_said cs (after_run NoLineFeed cs) d h (run_is NoLineFeed cs)

  line_doc_said : (cs : Text) → is_line_doc cs ≡ true → LookSaid (47 ∷ 47 ∷ cs) (f.line_doc docs cs)
  line_doc_said cs h = line_doc_by docs cs refl h

  block_read_said : (cs : Text) (o : Option Text) → docs ≡ Read → is_block_doc cs ≡ true → comment 0 cs ≡ o → CommentSaid 0 cs o → LookSaid (47 ∷ 42 ∷ cs) (f.block_doc_to cs o)
  block_read_said cs None d h e s = inl (no_doc_end d h (no_comment cs e))
  block_read_said cs (Some rest) d h e s =
      which (LookSaid (47 ∷ 42 ∷ cs)) (has_lone_return (upto cs rest)) (λ _. inr refl) (λ e. rules.block_doc d h s e)

  block_doc_by : (k : Docs) (cs : Text) → docs ≡ k → is_block_doc cs ≡ true → LookSaid (47 ∷ 42 ∷ cs) (f.block_doc k cs)
  unfolding f.block_doc
  block_doc_by Refuse cs d h = inl (block_doc_refused d h)
  block_doc_by Read cs d h = block_read_said cs (comment 0 cs) d h refl (comment_said 0 cs)

  block_doc_said : (cs : Text) → is_block_doc cs ≡ true → LookSaid (47 ∷ 42 ∷ cs) (f.block_doc docs cs)
  block_doc_said cs h = block_doc_by docs cs refl h

  line_said : (cs : Text) → LookSaid (47 ∷ 47 ∷ cs) (line_comment docs cs)
  unfolding line_comment
  line_said cs =
      which (LookSaid (47 ∷ 47 ∷ cs)) (is_line_doc cs) (λ e. line_doc_said cs e) (λ e. rules.line_comment e (run_is NoLineFeed cs))

  block_by : (cs : Text) (o : Option Text) → is_block_doc cs ≡ false → comment 0 cs ≡ o → CommentSaid 0 cs o → LookSaid (47 ∷ 42 ∷ cs) (ends (Leaf Blank) o)
  block_by cs None d h s = inl (no_comment_end d (no_comment cs h))
  block_by cs (Some rest) d h s = rules.block_comment d s

  block_said : (cs : Text) → LookSaid (47 ∷ 42 ∷ cs) (block_comment docs cs)
  unfolding block_comment
  block_said cs =
      which (LookSaid (47 ∷ 42 ∷ cs)) (is_block_doc cs) (λ e. block_doc_said cs e) (λ e. block_by cs (comment 0 cs) e refl (comment_said 0 cs))

  slash_mark : (c : ℕ) (cs : Text) → (c == 47) ≡ false → (c == 42) ≡ false → begins_comment 47 (c ∷ cs) ≡ false
  unfolding begins_comment
  slash_mark c cs h k = rw (h, k) refl

  slash_ends : begins_comment 47 [] ≡ false
  unfolding begins_comment
  slash_ends = refl

  slash_said : (cs : Text) → LookSaid (47 ∷ cs) (slash docs cs)
  unfolding slash
  slash_said [] = rules.mark refl slash_ends
  slash_said (c ∷ cs) =
      which (LookSaid (47 ∷ c ∷ cs)) (c == 47) (λ e. second_is (λ t. LookSaid t (line_comment docs cs)) 47 c 47 cs e (line_said cs)) (λ h.
      which (LookSaid (47 ∷ c ∷ cs)) (c == 42) (λ e. second_is (λ t. LookSaid t (block_comment docs cs)) 47 c 42 cs e (block_said cs))
      (λ k. rules.mark refl (slash_mark c cs h k)))

  backslash_said : (cs : Text) → LookSaid (92 ∷ cs) (backslash cs)
  unfolding backslash
  backslash_said [] = inr refl
  backslash_said (c ∷ cs) =
      which (LookSaid (92 ∷ c ∷ cs)) (c == 40) (λ e. second_is (λ t. IsPiece docs (Open delimiters.None) t cs) 92 c 40 cs e (rules.opening {d = delimiters.None})) (λ _.
      which (LookSaid (92 ∷ c ∷ cs)) (c == 41) (λ e. second_is (λ t. IsPiece docs (Close delimiters.None) t cs) 92 c 41 cs e (rules.closing {d = delimiters.None})) (λ _. inr refl))

  -- ---- single characters, words and numbers

  no_slash : (c : ℕ) (cs : Text) → (c == 47) ≡ false → begins_comment c cs ≡ false
  unfolding begins_comment
  no_slash c cs h = rw h refl

  single_said : (c : ℕ) (cs : Text) → (c == 47) ≡ false → LookSaid (c ∷ cs) (before cs (single c cs))
  unfolding single
  single_said c cs slash =
      let P : Result Piece ErrorKind → Type 0 = λ r. LookSaid (c ∷ cs) (before cs r) in
      which P (is_blank c) (λ e. rules.blank e) (λ _.
      which P (c == 40) (λ e. first_is (λ t. IsPiece docs (Open delimiters.Parenthesis) t cs) c 40 cs e (rules.opening {d = delimiters.Parenthesis})) (λ _.
      which P (c == 41) (λ e. first_is (λ t. IsPiece docs (Close delimiters.Parenthesis) t cs) c 41 cs e (rules.closing {d = delimiters.Parenthesis})) (λ _.
      which P (c == 91) (λ e. first_is (λ t. IsPiece docs (Open delimiters.Bracket) t cs) c 91 cs e (rules.opening {d = delimiters.Bracket})) (λ _.
      which P (c == 93) (λ e. first_is (λ t. IsPiece docs (Close delimiters.Bracket) t cs) c 93 cs e (rules.closing {d = delimiters.Bracket})) (λ _.
      which P (c == 123) (λ e. first_is (λ t. IsPiece docs (Open delimiters.Brace) t cs) c 123 cs e (rules.opening {d = delimiters.Brace})) (λ _.
      which P (c == 125) (λ e. first_is (λ t. IsPiece docs (Close delimiters.Brace) t cs) c 125 cs e (rules.closing {d = delimiters.Brace})) (λ _.
      which P (is_mark c) (λ e. rules.mark e (no_slash c cs slash)) (λ _. inr refl))))))))

  word_said : (c : ℕ) (cs : Text) (o : Option Text) → (c == 47) ≡ false → NoLiteral (c ∷ cs) → AnyWordSaid (c ∷ cs) o → LookSaid (c ∷ cs) (word_or_single c cs o)
  word_said c cs None h n s = single_said c cs h
  word_said c cs (Some rest) h n s = rules.word s n

  number_piece : (c : ℕ) (cs : Text) (r : f.Numeral) → NumberSaid (c ∷ cs) r → LookSaid (c ∷ cs) (numeral r)
  number_piece c cs (Ok x) s = rules.number s (suffix_is x.1)
  number_piece c cs (Err k) s = inl (subst (λ e. Named docs e (c ∷ cs)) (sym s.0) (malformed s.1))

  no_opening : (cs : Text) → opening cs ≡ None → (k : LitKind) (how : Closing) (ds : Text) → Opens k how cs ds → ⊥
  no_opening cs h k how ds b = let bad = sym h ∙ opening_only b in cc

  plain_said : (c : ℕ) (cs : Text) → (c == 47) ≡ false → opening (c ∷ cs) ≡ None → LookSaid (c ∷ cs) (plain c cs)
  unfolding plain
  plain_said c cs h none =
      which (LookSaid (c ∷ cs)) (c == 98 && begins_with (is_char 39) cs) (λ _. inr refl) (λ byte.
      which (LookSaid (c ∷ cs)) (is_ascii_digit c) (λ e. number_piece c cs (number c cs) (number_said c cs e)) (λ _.
      word_said c cs (any_word (c ∷ cs)) h (record { no_literal = no_opening (c ∷ cs) none; no_byte = byte }) (any_word_said (c ∷ cs))))

  lifetime_said : (cs : Text) (o : Option Text) → begins_char cs ≡ false → AnyWordSaid cs o → LookSaid (39 ∷ cs) (known lifetime_piece o)
  lifetime_said cs None h s = inr refl
  lifetime_said cs (Some rest) h s = rules.lifetime h s

  no_char : (cs : Text) → opening (39 ∷ cs) ≡ None → begins_char cs ≡ false
  unfolding opening
  no_char cs h =
      let P : Bool → Type 0 = λ b. cond b (f.opened Char Quote cs) None ≡ None → b ≡ false in
      let g : P (begins_char cs) = elim (begins_char cs) as P [ true ↦ λ bad. cc | false ↦ λ _. refl ] in g h

  unopened_said : (c : ℕ) (cs : Text) → opening (c ∷ cs) ≡ None → LookSaid (c ∷ cs) (unopened docs c cs)
  unfolding unopened
  unopened_said c cs none =
      which (LookSaid (c ∷ cs)) (c == 47) (λ e. first_is (λ t. LookSaid t (slash docs cs)) c 47 cs e (slash_said cs)) (λ h.
      which (LookSaid (c ∷ cs)) (c == 39)
      (λ e. first_is (λ t. LookSaid t (known lifetime_piece (any_word cs))) c 39 cs e
      (lifetime_said cs (any_word cs) (no_char cs (subst (λ d. opening (d ∷ cs) ≡ None) (same_number c 39 e) none)) (any_word_said cs)))
      (λ _. which (LookSaid (c ∷ cs)) (c == 92) (λ e. first_is (λ t. LookSaid t (backslash cs)) c 92 cs e (backslash_said cs)) (λ _. plain_said c cs h none)))

  other_said : (cs : Text) → opening cs ≡ None → LookSaid cs (other docs cs)
  other_said [] none = inr refl
  other_said (c ∷ cs) none = unopened_said c cs none

  look_by : (cs : Text) (o : Option Opening) → opening cs ≡ o → OpeningSaid cs o → LookSaid cs (opened_or_other docs cs o)
  look_by cs None h s = other_said cs h
  look_by cs (Some x) h s = literal_said x.0 x.1 cs x.2 (closed x.1 x.2) s refl (closed_said x.1 x.2)

  look_said : (cs : Text) → LookSaid cs (look docs cs)
  unfolding look
  look_said cs = look_by cs (opening cs) refl (opening_said cs)

  -- ---- only that

  -- where nothing with a beginning and an end stands
  look_other : (cs : Text) → opening cs ≡ None → look docs cs ≡ other docs cs
  unfolding look
  look_other cs h = ap (opened_or_other docs cs) h

  look_opened : (cs : Text) (k : LitKind) (how : Closing) (ds : Text) → Opens k how cs ds → look docs cs ≡ f.literal k (closed how ds)
  unfolding look
  look_opened cs k how ds b = ap (opened_or_other docs cs) (opening_only b)

  -- a character that begins no longer piece
  lone_opening : (c : ℕ) (cs : Text) → lone c ≡ true → opening (c ∷ cs) ≡ None
  unfolding opening
  lone_opening c cs h =
      rw (clash lone c 34 h refl, clash lone c 39 h refl, clash lone c 114 h refl, clash lone c 98 h refl, clash lone c 99 h refl) refl

  lone_unopened : (c : ℕ) (cs : Text) → lone c ≡ true → unopened docs c cs ≡ before cs (single c cs)
  unfolding unopened plain
  lone_unopened c cs h =
      rw (
        clash lone c 47 h refl,
        clash lone c 39 h refl,
        clash lone c 92 h refl,
        clash lone c 98 h refl,
        lone_digit c h,
        no_word c cs (lone_starts c h) (clash lone c 114 h refl),
      ) refl

  lone_look : (c : ℕ) (cs : Text) → lone c ≡ true → look docs (c ∷ cs) ≡ before cs (single c cs)
  lone_look c cs h = look_other (c ∷ cs) (lone_opening c cs h) ∙ lone_unopened c cs h

  pub alone_look : (cs ds : Text) (c : ℕ) → cs ≡ c ∷ ds → stands_alone c ≡ true → look docs cs ≡ before ds (single c ds)
  alone_look cs ds c e h = ap (look docs) e ∙ lone_look c ds (alone_lone c h)

  single_blank : (c : ℕ) (cs : Text) → is_blank c ≡ true → single c cs ≡ Ok (Leaf Blank)
  unfolding single
  single_blank c cs h = rw h refl

  opening_look : (d : Delimiter) (rest : Text) → look docs (opens d ++ rest) ≡ Ok (Open d, rest)
  unfolding single look opening unopened backslash
  opening_look delimiters.Parenthesis rest = lone_look 40 rest refl
  opening_look delimiters.Brace rest = lone_look 123 rest refl
  opening_look delimiters.Bracket rest = lone_look 91 rest refl
  opening_look delimiters.None rest = refl

  closing_look : (d : Delimiter) (rest : Text) → look docs (closes d ++ rest) ≡ Ok (Close d, rest)
  unfolding single look opening unopened backslash
  closing_look delimiters.Parenthesis rest = lone_look 41 rest refl
  closing_look delimiters.Brace rest = lone_look 125 rest refl
  closing_look delimiters.Bracket rest = lone_look 93 rest refl
  closing_look delimiters.None rest = refl

  single_mark : (c : ℕ) (cs : Text) → is_mark c ≡ true → single c cs ≡ Ok (mark_piece c cs)
  unfolding single
  single_mark c cs h =
      rw (
        off (is_blank c) (listed (λ d. not (is_blank d)) c (codes "!#$%&*+,-./:;<=>?@^~|") h refl),
        clash is_mark c 40 h refl,
        clash is_mark c 41 h refl,
        clash is_mark c 91 h refl,
        clash is_mark c 93 h refl,
        clash is_mark c 123 h refl,
        clash is_mark c 125 h refl,
        h,
      ) refl

  no_comment_mark : (cs : Text) → begins_comment 47 cs ≡ false → slash docs cs ≡ marked 47 cs
  unfolding begins_comment slash
  no_comment_mark [] h = refl
  no_comment_mark (c ∷ cs) h =
      let P : Bool → Type 0 = λ b. (b || c == 42) ≡ false → cond b (line_comment docs cs) (if c == 42 then block_comment docs cs else marked 47 (c ∷ cs)) ≡ marked 47 (c ∷ cs) in
      let Q : Bool → Type 0 = λ b. b ≡ false → cond b (block_comment docs cs) (marked 47 (c ∷ cs)) ≡ marked 47 (c ∷ cs) in
      let g : Q (c == 42) = elim (c == 42) as Q [ true ↦ λ bad. cc | false ↦ λ _. refl ] in
      let k : P (c == 47) = elim (c == 47) as P [ true ↦ λ bad. cc | false ↦ λ more. g more ] in k h

  slash_look : (cs : Text) → look docs (47 ∷ cs) ≡ slash docs cs
  unfolding look opening unopened
  slash_look cs = refl

  mark_look : (c : ℕ) (rest : Text) → is_mark c ≡ true → begins_comment c rest ≡ false → look docs (c ∷ rest) ≡ marked c rest
  mark_look c rest h k =
      let P : Bool → Type 0 = λ b. (c == 47) ≡ b → look docs (c ∷ rest) ≡ marked c rest in
      let g : P (c == 47) = elim (c == 47) as P [
        | true ↦ λ e. (let same = same_number c 47 e in
            subst (λ d. look docs (d ∷ rest) ≡ marked d rest) (sym same)
            (slash_look rest ∙ no_comment_mark rest (subst (λ d. begins_comment d rest ≡ false) same k)))
        | false ↦ λ e. lone_look c rest (mark_lone c h e) ∙ ap (before rest) (single_mark c rest h)
      ] in g refl

  -- words

  none_opens : (cs : Text) (o : Option Opening) → OpeningSaid cs o → NoLiteral cs → o ≡ None
  none_opens cs None s n = refl
  none_opens cs (Some x) s n = absurd (n.no_literal x.0 x.1 x.2 s)

  word_unopened : (cs rest : Text) → begins_with is_start cs ≡ true → begins_byte cs ≡ false → any_word cs ≡ Some rest → other docs cs ≡ Ok (Leaf Word, rest)
  unfolding unopened plain
  word_unopened [] rest h n w = cc
  word_unopened (c ∷ cs) rest h n w =
      rw (start_clash c 47 h refl, start_clash c 39 h refl, start_clash c 92 h refl, n, no_digit_starts c h, w) refl

  word_look : (cs rest : Text) → IsAnyWord cs rest → NoLiteral cs → look docs cs ≡ Ok (Leaf Word, rest)
  word_look cs rest w n =
      look_other cs (none_opens cs (opening cs) (opening_said cs) n) ∙ word_unopened cs rest (any_word_starts w) n.no_byte (any_word_only w)

  plain_word_opening : (c : ℕ) (cs : Text) → starts_word c ≡ true → opening (c ∷ cs) ≡ None
  unfolding opening
  plain_word_opening c cs h =
      rw (
        clash starts_word c 34 h refl,
        clash starts_word c 39 h refl,
        clash starts_word c 114 h refl,
        clash starts_word c 98 h refl,
        clash starts_word c 99 h refl,
      ) refl

  no_byte_begins : (c : ℕ) (cs : Text) → (c == 98) ≡ false → begins_byte (c ∷ cs) ≡ false
  no_byte_begins c cs h = rw h refl

  pub plain_word_look : (cs ds rest : Text) (c : ℕ) → cs ≡ c ∷ ds → starts_word c ≡ true → rest ≡ after_run Continue ds → look docs cs ≡ Ok (Leaf Word, rest)
  plain_word_look cs ds rest c e h k =
      let start = word_start c h in
      let word = plain_word c ds start (clash starts_word c 114 h refl) ∙ ap Some (sym k) in
      ap (look docs) e ∙ look_other (c ∷ ds) (plain_word_opening c ds h)
      ∙ word_unopened (c ∷ ds) rest start (no_byte_begins c ds (clash starts_word c 98 h refl)) word

  lifetime_look : (cs rest : Text) → begins_char cs ≡ false → IsAnyWord cs rest → look docs (39 ∷ cs) ≡ Ok (Leaf Lifetime, rest)
  unfolding look opening unopened
  lifetime_look cs rest h w = rw h (ap (known lifetime_piece) (any_word_only w))

  -- numbers

  digit_look : (cs : Text) → Digit cs → look docs cs ≡ numeral (number_of cs)
  unfolding opening unopened plain
  digit_look cs (c, ds, e, h) =
      let none : opening (c ∷ ds) ≡ None =
      rw (clash is_ascii_digit c 34 h refl, clash is_ascii_digit c 39 h refl, clash is_ascii_digit c 114 h refl, clash is_ascii_digit c 98 h refl, clash is_ascii_digit c 99 h refl) refl in
      let more : unopened docs c ds ≡ numeral (number c ds) =
      rw (clash is_ascii_digit c 47 h refl, clash is_ascii_digit c 39 h refl, clash is_ascii_digit c 92 h refl, clash is_ascii_digit c 98 h refl, h) refl in
      subst (λ t. look docs t ≡ numeral (number_of t)) (sym e) (look_other (c ∷ ds) none ∙ more)

  line_look : (cs : Text) → look docs (47 ∷ 47 ∷ cs) ≡ line_comment docs cs
  unfolding look opening unopened slash
  line_look cs = refl

  block_look : (cs : Text) → look docs (47 ∷ 42 ∷ cs) ≡ block_comment docs cs
  unfolding look opening unopened slash
  block_look cs = refl

  line_only : (cs rest : Text) → is_line_doc cs ≡ false → after_run NoLineFeed cs ≡ rest → line_comment docs cs ≡ Ok (Leaf Blank, rest)
  unfolding line_comment
  line_only cs rest h e = rw (h, e) refl

  block_only : (cs : Text) (o : Option Text) → is_block_doc cs ≡ false → comment 0 cs ≡ o → block_comment docs cs ≡ ends (Leaf Blank) o
  unfolding block_comment
  block_only cs o h e = rw (h, e) refl

  line_doc_only : (cs : Text) → is_line_doc cs ≡ true → line_comment docs cs ≡ f.line_doc docs cs
  unfolding line_comment
  line_doc_only cs h = rw h refl

  block_doc_only : (cs : Text) → is_block_doc cs ≡ true → block_comment docs cs ≡ f.block_doc docs cs
  unfolding block_comment
  block_doc_only cs h = rw h refl

  line_doc_no : (cs : Text) → docs ≡ Refuse → f.line_doc docs cs ≡ Err DocComment
  unfolding f.line_doc
  line_doc_no cs d = rw d refl

  block_doc_no : (cs : Text) → docs ≡ Refuse → f.block_doc docs cs ≡ Err DocComment
  unfolding f.block_doc
  block_doc_no cs d = rw d refl

  line_doc_read : (cs rest : Text) → docs ≡ Read → after_run NoLineFeed cs ≡ rest → has_lone_return (upto cs (drop 1 rest)) ≡ false
      → f.line_doc docs cs ≡ Ok (Leaf (Doc (style_of cs) Line), rest)
  unfolding f.line_doc
  line_doc_read cs rest d e h = rw (d, e, h) refl

  block_doc_read : (cs : Text) (o : Option Text) → docs ≡ Read → comment 0 cs ≡ o → f.block_doc docs cs ≡ f.block_doc_to cs o
  unfolding f.block_doc
  block_doc_read cs o d e = rw (d, e) refl

  block_doc_to_is : (cs rest : Text) → has_lone_return (upto cs rest) ≡ false → f.block_doc_to cs (Some rest) ≡ Ok (Leaf (Doc (style_of cs) Block), rest)
  block_doc_to_is cs rest h = rw h refl

  -- the piece with which a text begins is what is found
  look_only : {p : Piece} {cs rest : Text} → IsPiece docs p cs rest → look docs cs ≡ Ok (p, rest)
  look_only (rules.blank {c = c} {rest = rest} h) = lone_look c rest (blank_lone c h) ∙ ap (before rest) (single_blank c rest h)
  look_only (rules.line_comment {cs = cs} h r) = line_look cs ∙ line_only cs _ h (run_only r)
  look_only (rules.block_comment {cs = cs} h c) = block_look cs ∙ block_only cs _ h (comment_only c)
  look_only (rules.line_doc {cs = cs} {rest = rest} d h r e) = line_look cs ∙ line_doc_only cs h ∙ line_doc_read cs rest d (run_only r) e
  look_only (rules.block_doc {cs = cs} {rest = rest} d h c e) =
      block_look cs ∙ block_doc_only cs h ∙ block_doc_read cs (Some rest) d (comment_only c) ∙ block_doc_to_is cs rest e
  look_only (rules.word {cs = cs} {rest = rest} w n) = word_look cs rest w n
  look_only (rules.lifetime {cs = cs} {rest = rest} h w) = lifetime_look cs rest h w
  look_only (rules.literal {k = k} {how = how} {cs = cs} {ds = ds} {es = es} b c s) =
      look_opened cs k how ds b ∙ ap (f.literal k) (closed_only how ds es c) ∙ ap (λ t. Ok (Leaf (Literal k), t)) (suffix_only s)
  look_only (rules.number {k = k} {cs = cs} n s) =
      digit_look cs (number_digit n) ∙ ap numeral (number_only_of n) ∙ ap (λ t. Ok (Leaf (Literal k), t)) (suffix_only s)
  look_only (rules.mark {c = c} {rest = rest} h k) = mark_look c rest h k
  look_only (rules.opening {d = d} {rest = rest}) = opening_look d rest
  look_only (rules.closing {d = d} {rest = rest}) = closing_look d rest

  no_closed : (how : Closing) (ds : Text) (o : Option Text) → ClosedSaid how ds o → ((rest : Text) → Closes how ds rest → ⊥) → o ≡ None
  no_closed how ds None s n = refl
  no_closed how ds (Some rest) s n = absurd (n rest s)

  no_comment_found : (ds : Text) (o : Option Text) → CommentSaid 0 ds o → ((rest : Text) → IsComment 0 ds rest → ⊥) → o ≡ None
  no_comment_found ds None s n = refl
  no_comment_found ds (Some rest) s n = absurd (n rest s)

  -- and why there is none is what is said
  named_only : {k : ErrorKind} {cs : Text} → Named docs k cs → look docs cs ≡ Err k
  named_only (no_end {k = k} {how = how} {cs = cs} {ds = ds} b n) =
      look_opened cs k how ds b ∙ ap (f.literal k) (no_closed how ds (closed how ds) (closed_said how ds) n)
  named_only (no_comment_end {cs = cs} h n) = block_look cs ∙ block_only cs _ h (no_comment_found cs (comment 0 cs) (comment_said 0 cs) n)
  named_only (no_doc_end {cs = cs} d h n) =
      block_look cs ∙ block_doc_only cs h ∙ block_doc_read cs None d (no_comment_found cs (comment 0 cs) (comment_said 0 cs) n)
  named_only (line_doc_refused {cs = cs} d h) = line_look cs ∙ line_doc_only cs h ∙ line_doc_no cs d
  named_only (block_doc_refused {cs = cs} d h) = block_look cs ∙ block_doc_only cs h ∙ block_doc_no cs d
  named_only (malformed {cs = cs} m) = digit_look cs (malformed_digit m) ∙ ap numeral (malformed_of m)

  -- ---- the front

  found_piece : (cs : Text) (r : Look) (x : Found) → LookSaid cs r → f.found_in cs r ≡ Ok x → IsPiece docs x.piece cs x.rest × (x.spelled ≡ upto cs x.rest)
  found_piece cs (Ok y) x s h =
      let e : found y.0 (upto cs y.1) y.1 ≡ x = cc in
      (subst (λ (z : Found). IsPiece docs z.piece cs z.rest) e s, subst (λ (z : Found). z.spelled ≡ upto cs z.rest) e refl)
  found_piece cs (Err k) x s h = cc

  front_parts : (cs : Text) (x : Found) → front docs cs ≡ Ok x → IsPiece docs x.piece cs x.rest × (x.spelled ≡ upto cs x.rest)
  unfolding front
  front_parts cs x h = found_piece cs (look docs cs) x (look_said cs) h

  pub front_splits : (cs : Text) (x : Found) → front docs cs ≡ Ok x → Splits cs x.spelled x.rest
  front_splits cs x h =
      let p = front_parts cs x h in
      subst (λ w. Splits cs w x.rest) (sym p.1) (piece_splits p.0)

  -- what is found is the piece with which the text begins
  pub front_is : (cs : Text) (x : Found) → front docs cs ≡ Ok x → Begins docs x.piece cs x.spelled x.rest
  front_is cs x h = record { whole = (front_splits cs x h).whole; is_piece = (front_parts cs x h).0 }

  -- the piece with which the text begins is what is found
  pub front_only : (p : Piece) (cs w rest : Text) → Begins docs p cs w rest → front docs cs ≡ Ok (found p w rest)
  unfolding front
  front_only p cs w rest b =
      let e : upto cs rest ≡ w = ap (λ t. upto t rest) b.whole ∙ upto_front w rest in
      ap (f.found_in cs) (look_only b.is_piece) ∙ ap (λ v. Ok (found p v rest)) e

  fault_reason : (cs : Text) (r : Look) (k : ErrorKind) → LookSaid cs r → f.found_in cs r ≡ Err k → Named docs k cs ⊎ (k ≡ UnknownToken)
  fault_reason cs (Ok x) k s h = cc
  fault_reason cs (Err e) k s h = let same : e ≡ k = cc in subst (λ c. Named docs c cs ⊎ (c ≡ UnknownToken)) same s

  named_front : (k : ErrorKind) (cs : Text) → Named docs k cs → front docs cs ≡ Err k
  unfolding front
  named_front k cs n = ap (f.found_in cs) (named_only n)

  named_is : {k : ErrorKind} {cs : Text} → Named docs k cs → k ≡ UnknownToken → ⊥
  named_is (no_end b n) e = cc
  named_is (no_comment_end h n) e = cc
  named_is (no_doc_end d h n) e = cc
  named_is (line_doc_refused d h) e = cc
  named_is (block_doc_refused d h) e = cc
  named_is (malformed m) e = cc

  no_name_of : (cs : Text) (k e : ErrorKind) → k ≡ UnknownToken → front docs cs ≡ Err k → Named docs e cs → ⊥
  no_name_of cs k e u h n =
      let both = sym h ∙ named_front e cs n in
      let same : k ≡ e = cc in named_is n (sym same ∙ u)

  faulty_by : (cs : Text) (k : ErrorKind) → front docs cs ≡ Err k → Named docs k cs ⊎ (k ≡ UnknownToken) → Faulty docs k cs
  faulty_by cs k h (inl n) = inl n
  faulty_by cs k h (inr u) = inr (
    u,
    record {
      no_piece = λ p w rest b. (let bad = sym h ∙ front_only p cs w rest b in cc);
      no_name = λ e n. no_name_of cs k e u h n;
    },
  )

  -- where none is found, the text is faulty
  pub front_faulty : (cs : Text) (k : ErrorKind) → front docs cs ≡ Err k → Faulty docs k cs
  unfolding front
  front_faulty cs k h = faulty_by cs k h (fault_reason cs (look docs cs) k (look_said cs) h)

  front_unknown : (cs : Text) (r : Result Found ErrorKind) → front docs cs ≡ r → rules.NothingKnown docs cs → r ≡ Err UnknownToken
  front_unknown cs (Ok x) h n = absurd (n.no_piece x.piece x.spelled x.rest (front_is cs x h))
  front_unknown cs (Err k) h n = elim (front_faulty cs k h) [ inl a ↦ absurd (n.no_name k a) | inr b ↦ ap (λ e. Err e) b.0 ]

  pub faulty_front : (cs : Text) (k : ErrorKind) → Faulty docs k cs → front docs cs ≡ Err k
  faulty_front cs k (inl n) = named_front k cs n
  faulty_front cs k (inr u) = front_unknown cs (front docs cs) refl u.1 ∙ ap (λ e. Err e) (sym u.0)
