-- A code for tokens: their pieces in order, brackets in pairs.
use Rattle.std.specs.Prelude.{◌≡◌, Bool, true, false, List, [], ◌∷◌, ◌++◌, refl, ◌⊎◌}
use Rattle.std.proofs.Common.{ap, ◌∙◌, inl, inr, append_assoc}
use Rattle.std.specs.Coded.{Coded, code_by, coded×, coded⊎, coded_bool, coded_list}
use Rattle.token_core.specs.declared.tree.Delimiter.{Delimiter}
use Rattle.token_core.specs.declared.span.DelimSpan.{DelimSpan}
use Rattle.token_core.specs.declared.tree.Ident.{Ident}
use Rattle.token_core.specs.declared.tree.Punct.{Punct}
use Rattle.token_core.specs.declared.tree.Literal.{Literal}
use Rattle.token_core.specs.Toks.{Toks, done, word, mark, lit, group, enter, leave}
use Rattle.token_core.specs.Codes.{delimiter_code, delim_span_code, ident_code, punct_code, literal_code}

pub data Piece : Type 0 where
  a_word : Ident → Piece
  a_mark : Punct → Piece
  a_lit : Literal → Piece
  an_opening : Delimiter → DelimSpan → Piece
  an_enter : DelimSpan → Piece
  a_leave : Piece
  a_closing : Piece

abbrev pub pieces : Toks → List Piece
pieces done = []
pieces (word i k) = a_word i ∷ pieces k
pieces (mark p k) = a_mark p ∷ pieces k
pieces (lit l k) = a_lit l ∷ pieces k
pieces (group d s c k) = an_opening d s ∷ (pieces c ++ a_closing ∷ pieces k)
pieces (enter s k) = an_enter s ∷ pieces k
pieces (leave k) = a_leave ∷ pieces k

-- the tokens up to the next closing piece without an opening one, and those between the later ones
abbrev pub Levels : Type 0
Levels = Toks × List Toks

abbrev pub opens : Delimiter → DelimSpan → Levels → Levels
opens d s (x, []) = (group d s x done, [])
opens d s (x, y ∷ more) = (group d s x y, more)

abbrev pub levels : List Piece → Levels
levels [] = (done, [])
levels (a_word i ∷ l) = (word i (levels l).0, (levels l).1)
levels (a_mark p ∷ l) = (mark p (levels l).0, (levels l).1)
levels (a_lit k ∷ l) = (lit k (levels l).0, (levels l).1)
levels (an_opening d s ∷ l) = opens d s (levels l)
levels (an_enter s ∷ l) = (enter s (levels l).0, (levels l).1)
levels (a_leave ∷ l) = (leave (levels l).0, (levels l).1)
levels (a_closing ∷ l) = (done, (levels l).0 ∷ (levels l).1)

abbrev pub Level : Toks → List Piece → Type 0
Level t l = levels (pieces t ++ a_closing ∷ l) ≡ (t, (levels l).0 ∷ (levels l).1)

pub closed : (t : Toks) (l : List Piece) → Level t l
closed done l = refl
closed (word i k) l = ap (λ (v : Levels). (word i v.0, v.1)) (closed k l)
closed (mark p k) l = ap (λ (v : Levels). (mark p v.0, v.1)) (closed k l)
closed (lit s k) l = ap (λ (v : Levels). (lit s v.0, v.1)) (closed k l)
closed (group d s c k) l =
    ap (λ z. levels (an_opening d s ∷ z)) (append_assoc (pieces c) (a_closing ∷ pieces k) (a_closing ∷ l))
    ∙ ap (opens d s) (closed c (pieces k ++ a_closing ∷ l))
    ∙ ap (λ (v : Levels). (group d s c v.0, v.1)) (closed k l)
closed (enter s k) l = ap (λ (v : Levels). (enter s v.0, v.1)) (closed k l)
closed (leave k) l = ap (λ (v : Levels). (leave v.0, v.1)) (closed k l)

pub ends : (t : Toks) → levels (pieces t) ≡ (t, [])
ends done = refl
ends (word i k) = ap (λ (v : Levels). (word i v.0, v.1)) (ends k)
ends (mark p k) = ap (λ (v : Levels). (mark p v.0, v.1)) (ends k)
ends (lit s k) = ap (λ (v : Levels). (lit s v.0, v.1)) (ends k)
ends (group d s c k) = ap (opens d s) (closed c (pieces k)) ∙ ap (λ (v : Levels). (group d s c v.0, v.1)) (ends k)
ends (enter s k) = ap (λ (v : Levels). (enter s v.0, v.1)) (ends k)
ends (leave k) = ap (λ (v : Levels). (leave v.0, v.1)) (ends k)

abbrev pub Stored : Type 0
Stored = (Ident ⊎ Punct) ⊎ ((Literal ⊎ (Delimiter × DelimSpan)) ⊎ (DelimSpan ⊎ Bool))

abbrev pub store : Piece → Stored
store (a_word t) = inl (inl t)
store (a_mark p) = inl (inr p)
store (a_lit l) = inr (inl (inl l))
store (an_opening d s) = inr (inl (inr (d, s)))
store (an_enter s) = inr (inr (inl s))
store a_leave = inr (inr (inr true))
store a_closing = inr (inr (inr false))

abbrev pub unstore : Stored → Piece
unstore (inl (inl t)) = a_word t
unstore (inl (inr p)) = a_mark p
unstore (inr (inl (inl l))) = a_lit l
unstore (inr (inl (inr p))) = an_opening p.0 p.1
unstore (inr (inr (inl s))) = an_enter s
unstore (inr (inr (inr true))) = a_leave
unstore (inr (inr (inr false))) = a_closing

pub unstore-store : (s : Piece) → unstore (store s) ≡ s
unstore-store (a_word t) = refl
unstore-store (a_mark p) = refl
unstore-store (a_lit l) = refl
unstore-store (an_opening d s) = refl
unstore-store (an_enter s) = refl
unstore-store a_leave = refl
unstore-store a_closing = refl

abbrev pub piece_code : Coded Piece
piece_code = code_by Stored (coded⊎ (coded⊎ ident_code punct_code) (coded⊎ (coded⊎ literal_code (coded× delimiter_code delim_span_code)) (coded⊎ delim_span_code coded_bool))) store unstore unstore-store

pub back : (t : Toks) → (levels (pieces t)).0 ≡ t
back t = ap (λ (v : Levels). v.0) (ends t)

abbrev pub toks_code : Coded Toks
toks_code = code_by (List Piece) (coded_list piece_code) pieces (λ l. (levels l).0) back
