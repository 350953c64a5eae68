-- What is known of the reads that a pattern holds: where a list spells a tree clearly and what follows does not go on with it, the read answers that tree and takes no more; and the same of paths, types, attributes and supplied subtrees.
use Rattle.std.proofs.Common.{◌≡◌, ◌⊎◌, ℕ, ◌<◌, ◌==◌, Bool, true, false, not, ◌&&◌, ◌||◌, List, [], ◌∷◌, Option, Ok, inl, inr, refl, ◌∙◌, ap}
use Rattle.std.proofs.lemmas.Bool.{and_left, and_parts, not-true, or_cases}
use Rattle.syn_pat.proofs.pat_laws.words.Tokens.{Span, Parenthesis, Brace, Reader, is_done, sees_group, sees_mark, sees_word, last_char, IsMark, is_mark, IsWord, is_word, Scope, Stream, Bytes, Toks, done}
use Rattle.syn_pat.proofs.pat_laws.words.Paths.{Place, Block, Guard, UsesUp}
use Rattle.syn_pat.proofs.pat_laws.words.Forms.{Plus, ahead}
use Rattle.syn_pat.proofs.pat_laws.words.Attributes.{outer, Expr}
use Rattle.syn_pat.proofs.pat_laws.words.Types.{Manner, clearly, End, Relation, Path, QSelf, TypeTree}
use Rattle.syn_pat.proofs.pat_laws.words.Patterns.{PatPlace, Single, Attrs, Pat, Readers, ends_range, qpath, sees_vert, IsPatPath, outer_spelt, types_to}
use Rattle.token_core.specs.Tokens as token
use Rattle.token_core.proofs.MarkSpells.{mark_seen}
use Rattle.token_core.proofs.Steps.{Reads_to}
use Rattle.token_core.proofs.Took.{at}
use Rattle.token_core.proofs.Unseen.{colon_apart, or_apart, or_no_eq, word_no_mark}
use Rattle.token_core.proofs.WordSpells.{word_seen}
use Rattle.syn_attr.specs.attr.Attrs.{Attribute as Attr}
use Rattle.syn_ty.proofs.ty_laws.complete.Within.{Fits, Less, NoMore}
use Rattle.syn_ty.proofs.ty_laws.complete.Tokens.{other_mark}
use Rattle.syn_pat.specs.pat.Admitted.{allows_cases}
use Rattle.syn_pat.proofs.pat_laws.sound.Within.{Stops}
use Rattle.syn_pat.specs.pat.Knot as knot
use Rattle.syn_pat.specs.pat.Reading.{sees_lone_colon}
use Rattle.syn_pat.proofs.pat_laws.complete.Fronts.{done_no_group, done_no_mark, mark_apart, no_longer, word_apart}

-- ---- what may follow

-- Nothing that a pattern goes on with, whatever it is: what a range that lacks an end stands before.
pub record Ends (k : Toks) : Type 0 where
  pub over : ends_range k ≡ true
  pub no_sep : token.sees_path_sep k ≡ false
  pub no_bang : token.sees_bang k ≡ false
  pub no_dots : token.sees_dot_dot k ≡ false
  pub no_at : token.sees_at k ≡ false
  pub no_brace : sees_group Brace k ≡ false
  pub no_paren : sees_group Parenthesis k ≡ false

-- And nothing that it goes on with in its place.
pub record EndsIn (p : PatPlace) (k : Toks) : Type 0 where
  pub ends : Ends k
  pub no_vert : allows_cases p ≡ true → sees_vert k ≡ false

-- ---- what a range ends before

-- a mark of another character than those that a pattern goes on with
by_mark : (c : ℕ) (cs : List ℕ) (k : Toks) → ends_range k ≡ true → sees_mark (c ∷ cs) k ≡ true → token.sees_path_sep k ≡ false → (c == 33) ≡ false → (c == 46) ≡ false → (c == 64) ≡ false → Ends k
by_mark c cs k o h sep bang dot a = record {
  over = o;
  no_sep = sep;
  no_bang = other_mark c 33 cs [] k h bang;
  no_dots = other_mark c 46 cs (46 ∷ []) k h dot;
  no_at = other_mark c 64 cs [] k h a;
  no_brace = mark_apart c cs Brace k h;
  no_paren = mark_apart c cs Parenthesis k h;
}

by_end : (k : Toks) → ends_range k ≡ true → is_done k ≡ true → Ends k
by_end k o h = record {
  over = o;
  no_sep = done_no_mark 58 (58 ∷ []) k h;
  no_bang = done_no_mark 33 [] k h;
  no_dots = done_no_mark 46 (46 ∷ []) k h;
  no_at = done_no_mark 64 [] k h;
  no_brace = done_no_group Brace k h;
  no_paren = done_no_group Parenthesis k h;
}

by_word : (test : Bytes → Bool) (k : Toks) → ends_range k ≡ true → sees_word test k ≡ true → Ends k
by_word test k o h = record {
  over = o;
  no_sep = word_no_mark test 58 (58 ∷ []) k h;
  no_bang = word_no_mark test 33 [] k h;
  no_dots = word_no_mark test 46 (46 ∷ []) k h;
  no_at = word_no_mark test 64 [] k h;
  no_brace = word_apart test Brace k h;
  no_paren = word_apart test Parenthesis k h;
}

-- it is all that has to be asked
pub ends : (k : Toks) → ends_range k ≡ true → Ends k
unfolding ends_range
ends k o =
    elim (or_cases (is_done k) _ o) [
      | inl h ↦ by_end k o h
      | inr p ↦ elim (or_cases (token.sees_bar k) _ p) [
        | inl h ↦ by_mark 124 [] k o h (other_mark 124 58 [] (58 ∷ []) k h refl) refl refl refl
        | inr q ↦ elim (or_cases (token.sees_equals k) _ q) [
          | inl h ↦ by_mark 61 [] k o h (other_mark 61 58 [] (58 ∷ []) k h refl) refl refl refl
          | inr r ↦ elim (or_cases (sees_lone_colon k) _ r) [
            | inl h ↦ let w = and_parts (token.sees_colon k) _ h in by_mark 58 [] k o w.0 (not-true (token.sees_path_sep k) w.1) refl refl refl
            | inr s ↦ elim (or_cases (token.sees_comma k) _ s) [
              | inl h ↦ by_mark 44 [] k o h (other_mark 44 58 [] (58 ∷ []) k h refl) refl refl refl
              | inr t ↦ elim (or_cases (token.sees_semi k) _ t) [
                | inl h ↦ by_mark 59 [] k o h (other_mark 59 58 [] (58 ∷ []) k h refl) refl refl refl
                | inr h ↦ by_word _ k o h
              ]
            ]
          ]
        ]
      ]
    ]

-- ---- before it a lone word is no path

pub ends_stop : (k : Toks) → Ends k → Stops k
ends_stop k o = (and_left (token.sees_path_sep k) _ o.no_sep, no_longer 33 (61 ∷ []) k o.no_bang)

-- ---- what follows a pattern in the grammar: the end, a comma, `|`, `if`, and a `:` that stands apart

pub at_end : Ends done
unfolding ends_range is_done
at_end = ends done refl

pub at_comma : (c : token.Comma) (l r : Toks) → IsMark true c l r → Ends l
unfolding ends_range is_done sees_mark sees_word
at_comma c l r (is_mark (last_char x)) = ends l refl

pub at_bar : (c : token.Bar) (l r : Toks) → IsMark true c l r → Ends l
unfolding ends_range is_done sees_mark
at_bar c l r (is_mark (last_char x)) = ends l refl

pub at_if : (w : token.If) (l r : Toks) → IsWord w l r → Ends l
unfolding ends_range is_done sees_mark sees_word
at_if w l r is_word = ends l refl

colon_over : (l : Toks) → token.sees_colon l ≡ true → token.sees_path_sep l ≡ false → token.sees_bar l || (token.sees_equals l || (sees_lone_colon l || (token.sees_comma l || (token.sees_semi l || token.sees_if l)))) ≡ true
colon_over l h g = by (token.sees_bar l) (token.sees_equals l) (token.sees_colon l) (token.sees_path_sep l) _ h g
  where
    by : (a b c d e : Bool) → c ≡ true → d ≡ false → a || (b || ((c && not d) || e)) ≡ true
    by true b c d e h g = refl
    by false true c d e h g = refl
    by false false true true e h g = cc g
    by false false true false e h g = refl
    by false false false d e h g = cc h

pub at_colon : (c : token.Colon) (l r : Toks) → IsMark true c l r → Ends l
unfolding ends_range is_done
at_colon c l r (is_mark (last_char x)) = let i = is_mark (last_char x) in ends l (colon_over l (mark_seen true {n = 7} {k = 1} c l r i) (colon_apart c l r i))

-- before these no further case follows
no_vert_by : (l : Toks) → token.sees_bar l ≡ false → sees_vert l ≡ false
unfolding sees_vert
no_vert_by l h = and_left (token.sees_bar l) _ h

pub end_in : (p : PatPlace) → EndsIn p done
unfolding is_done
end_in p = record { ends = at_end; no_vert = λ h. no_vert_by done (done_no_mark 124 [] done refl) }

pub comma_in : (p : PatPlace) (c : token.Comma) (l r : Toks) → IsMark true c l r → EndsIn p l
comma_in p c l r i = record { ends = at_comma c l r i; no_vert = λ h. no_vert_by l (other_mark 44 124 [] [] l (mark_seen true {n = 4} {k = 1} c l r i) refl) }

pub if_in : (p : PatPlace) (w : token.If) (l r : Toks) → IsWord w l r → EndsIn p l
if_in p w l r i = record { ends = at_if w l r i; no_vert = λ h. no_vert_by l (word_no_mark _ 124 [] l (word_seen w l r i)) }

pub single_in : (l : Toks) → Ends l → EndsIn Single l
single_in l h = record { ends = h; no_vert = λ g. cc g }

-- a `|` that stands apart is one before a further case
pub vert_seen : (c : token.Bar) (l r : Toks) → IsMark true c l r → sees_vert l ≡ true
unfolding sees_vert
vert_seen c l r i = ap (λ z. z && (not (token.sees_bar_bar l) && not (token.sees_bar_eq l))) (mark_seen true {n = 17} {k = 1} c l r i) ∙ ap (λ z. not z && not (token.sees_bar_eq l)) (or_apart c l r i) ∙ ap not (or_no_eq c l r i)

-- ---- what is known

module _ {X : Type 0} where
  -- of the patterns within, where less than a limit is left
  pub record Meets (r : Readers X) (part : Manner → PatPlace → Relation (Pat X)) (limit : ℕ) : Type 0 where
    pub pat : (p : PatPlace) (x : Pat X) (l k : Toks) (f : Option Span) (e : Span) (sc : Scope) → ahead (at l f e sc) < limit → part clearly p x l k → EndsIn p k → Reads_to (r p) x l k f e sc
    -- each takes tokens
    pub there : (p : PatPlace) (x : Pat X) (l k : Toks) → part clearly p x l k → is_done l ≡ false
    pub less : (p : PatPlace) (x : Pat X) (l k : Toks) → part clearly p x l k → Less l k

  -- of paths, types, attributes and supplied subtrees
  pub record SuppliedMeets (supplied : Place → Reader X) (spells : Place → X → Toks → Type 0) : Type 0 where
    -- a path that a type may qualify, in the style of expressions
    pub path : (q : Option (QSelf (Attr X) (Expr X))) (p : Path (Attr X) (Expr X)) (l k : Toks) (f : Option Span) (e : Span) (sc : Scope) → IsPatPath spells clearly q p l k → token.sees_path_sep k ≡ false → Reads_to (qpath supplied) (q, p) l k f e sc
    pub path_less : (q : Option (QSelf (Attr X) (Expr X))) (p : Path (Attr X) (Expr X)) (l k : Toks) → IsPatPath spells clearly q p l k → Less l k
    -- the type of a pattern
    pub ty : (n : ℕ) (d : End) (x : TypeTree (Attr X) (Expr X)) (l k : Toks) (f : Option Span) (e : Span) (sc : Scope) → (types_to spells n clearly).ty Plus d x l k → Fits d k → token.sees_plus k ≡ false → Reads_to (knot.ty supplied) x l k f e sc
    -- attributes before a field
    pub attrs : (x : Attrs X) (l k : Toks) (f : Option Span) (e : Span) (sc : Scope) → outer_spelt spells true x l k → token.sees_pound k ≡ false → Reads_to (outer supplied) x l k f e sc
    pub attrs_begin : (x : Attrs X) (l k : Toks) → outer_spelt spells true x l k → (l ≡ k) ⊎ (token.sees_pound l ≡ true)
    pub attrs_light : (x : Attrs X) (l k : Toks) → outer_spelt spells true x l k → NoMore l k
    -- the body of a const block is all of what its braces hold, and a guard all of what is left
    pub body : (s : Stream) (x : X) → spells Block x s.rest → (t : Stream) × (supplied Block s ≡ Ok (x, t)) × UsesUp s t
    pub guard : (s : Stream) (x : X) → spells Guard x s.rest → (t : Stream) × (supplied Guard s ≡ Ok (x, t)) × UsesUp s t
