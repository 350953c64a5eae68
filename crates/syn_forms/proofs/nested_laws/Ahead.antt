-- How much of the buffer is left: less after a token, and inside a group.
use Rattle.std.specs.Prelude.{IfOk, Result}
use Rattle.std.proofs.Common.{◌≡◌, ◌<◌, ◌≤◌, ◌+◌, ℕ, suc, Bool, true, false, if◌then◌else◌, [], ◌∷◌, ◌++◌, ◌∙◌, sym, length, Option, Some, None, Ok, Err, refl, ap, subst, arith}
use Rattle.std.proofs.lemmas.List.{length-append}
use Rattle.token_core.specs.declared.span.DelimSpan.{DelimSpan}
use Rattle.token_core.specs.declared.tree.Delimiter.{Delimiter}
use Rattle.token_core.specs.declared.mark.Mark.{Mark}
use Rattle.token_core.specs.declared.lifetime.Lifetime.{Lifetime}
use Rattle.token_core.specs.declared.tree.Ident.{Ident}
use Rattle.token_core.specs.declared.word.Word.{Word}
use Rattle.token_core.specs.Front.{front}
use Rattle.token_core.specs.Groups as groups
use Rattle.token_core.specs.Loops.{size}
use Rattle.token_core.specs.Marks.{chars_of, text_of, word_name, word_of, read, read_named}
use Rattle.token_core.specs.Lifetimes.{read_lifetime}
use Rattle.token_core.specs.Positions.{items, an_end, Holds}
use Rattle.token_core.specs.Refusal.{Refusal}
use Rattle.token_core.specs.Stream.{Stream}
use Rattle.token_core.specs.Toks.{Bytes, Toks, done, word, mark, lit, group, enter, leave}
use Rattle.token_core.specs.Reads.{Outcome, Reads, Follows, Parsed, Gives, Fails, IsSuffix, all_of, past_word, past_punct, past_lit, past_group, past_enter, past_leave, as_group, same_delimiter, inside, past, opened, open_group, expected, is_text, read_word}
use Rattle.token_core.proofs.Takes.{named_takes, lifetime_takes}
use Rattle.token_core.proofs.Took.{mapped}
use Rattle.token_core.proofs.Turns.{same_pair, size_suffix, word_takes}
use Rattle.syn_forms.specs.nested.Below.{ahead}

-- the number of a list's items
abbrev pub weight : Toks → ℕ
weight l = length (items l)

pub weight-group : (d : Delimiter) (s : DelimSpan) (c k : Toks) → weight (group d s c k) ≡ suc (weight c + suc (weight k))
weight-group d s c k = ap suc (length-append (items c) (an_end ∷ items k))

pub ahead-is : (s : Stream) → ahead s ≡ weight s.rest + length s.scope.after
ahead-is s = length-append (items s.rest) s.scope.after

weight_suffix : {r t : Toks} → IsSuffix r t → weight r ≤ weight t
weight_suffix all_of = omega arith
weight_suffix (past_word t p) = let h = weight_suffix p in omega (arith, h)
weight_suffix (past_punct m p) = let h = weight_suffix p in omega (arith, h)
weight_suffix (past_lit s p) = let h = weight_suffix p in omega (arith, h)
weight_suffix (past_group {k = k} d s c p) = let h = weight_suffix p in let g = weight-group d s c k in omega (arith, h, g)
weight_suffix (past_enter s p) = let h = weight_suffix p in omega (arith, h)
weight_suffix (past_leave p) = let h = weight_suffix p in omega (arith, h)

-- where fewer tokens stand, there are fewer items
weight_less : {r t : Toks} → IsSuffix r t → size r < size t → weight r < weight t
weight_less all_of e = absurd (omega (arith, e))
weight_less (past_word t p) e = let h = weight_suffix p in omega (arith, h)
weight_less (past_punct m p) e = let h = weight_suffix p in omega (arith, h)
weight_less (past_lit s p) e = let h = weight_suffix p in omega (arith, h)
weight_less (past_group {k = k} d s c p) e = let h = weight_suffix p in let g = weight-group d s c k in omega (arith, h, g)
weight_less (past_enter s p) e = let h = weight_suffix p in omega (arith, h)
weight_less (past_leave p) e = let h = weight_suffix p in omega (arith, h)

same_after : (s t : Stream) → Follows s t → length t.scope.after ≡ length s.scope.after
same_after s t f = ap (λ z. length z.after) f.scope

-- a later state has no more left
pub ahead_follows : (s t : Stream) → Follows s t → ahead t ≤ ahead s
ahead_follows s t f =
    let w = weight_suffix f.suffix in
    let a = same_after s t f in
    let x = ahead-is s in
    let y = ahead-is t in
    omega (arith, w, a, x, y)

-- and less where a token was taken
pub ahead_less : (s t : Stream) → Follows s t → size t.rest < size s.rest → ahead t < ahead s
ahead_less s t f e =
    let w = weight_less f.suffix e in
    let a = same_after s t f in
    let x = ahead-is s in
    let y = ahead-is t in
    omega (arith, w, a, x, y)

-- the other way: where less is left, fewer tokens stand
size_less : {r t : Toks} → IsSuffix r t → weight r < weight t → size r < size t
size_less all_of e = absurd (omega (arith, e))
size_less (past_word t p) e = let h = size_suffix p in omega (arith, h)
size_less (past_punct m p) e = let h = size_suffix p in omega (arith, h)
size_less (past_lit s p) e = let h = size_suffix p in omega (arith, h)
size_less (past_group d s c p) e = let h = size_suffix p in omega (arith, h)
size_less (past_enter s p) e = let h = size_suffix p in omega (arith, h)
size_less (past_leave p) e = let h = size_suffix p in omega (arith, h)

pub fewer_tokens : (s t u : Stream) → Follows s t → Follows t u → ahead u < ahead t → size u.rest < size s.rest
fewer_tokens s t u f g e =
    let a = same_after t u g in
    let x = ahead-is t in
    let y = ahead-is u in
    let less = size_less g.suffix (omega (arith, e, a, x, y)) in
    let le = size_suffix f.suffix in
    omega (arith, less, le)

pub mark_ahead : (n l c : ℕ) (cs : _) → chars_of n ≡ c ∷ cs → (s t : Stream) (m : Mark n l) → read n l s ≡ Ok (m, t) → Follows s t → ahead t < ahead s
mark_ahead n l c cs h s t m e f = ahead_less s t f (named_takes n l c cs h s m t e)

-- ---- groups

abbrev Shown : Type 0
Shown = Delimiter × DelimSpan × Toks × Toks

group_weight : (l : Toks) (p : Shown) → as_group (front l) ≡ Some p → weight p.2 + suc (weight p.3) < weight l
group_weight done p e = cc
group_weight (word i k) p e = cc
group_weight (mark m k) p e = cc
group_weight (lit x k) p e = cc
group_weight (group d s c k) p e =
    let f : ◌≡◌ {A = Shown} (d, s, c, k) p = cc in
    let a : weight c ≡ weight p.2 = ap (λ (q : Shown). weight q.2) f in
    let b : weight k ≡ weight p.3 = ap (λ (q : Shown). weight q.3) f in
    let g = weight-group d s c k in
    omega (arith, a, b, g)
group_weight (enter s k) p e = let h = group_weight k p e in omega (arith, h)
group_weight (leave k) p e = let h = group_weight k p e in omega (arith, h)

inside_less : (s : Stream) (p : Shown) → as_group (front s.rest) ≡ Some p → ahead (inside s p.1 p.2 p.3) < ahead s
inside_less s p e =
    let w = group_weight s.rest p e in
    let x = ahead-is s in
    let y = ahead-is (inside s p.1 p.2 p.3) in
    let z = length-append (items p.3) s.scope.after in
    omega (arith, w, x, y, z)

opened_less : (x : Delimiter) (r : Refusal) (s t : Stream) (g : DelimSpan × Stream) (o : Option Shown) → as_group (front s.rest) ≡ o → opened x r s o ≡ Ok (g, t) → ahead g.1 < ahead s
opened_less x r s t g None h e = cc
opened_less x r s t g (Some p) h e = by_test (same_delimiter p.0 x) e
  where
    by_test : (b : Bool) → ◌≡◌ {A = Outcome (DelimSpan × Stream)} (if b then Ok ((p.1, inside s p.1 p.2 p.3), past s p.3 p.1.closing) else Err r) (Ok (g, t)) → ahead g.1 < ahead s
    by_test true e = let q = same_pair (p.1, inside s p.1 p.2 p.3) g (past s p.3 p.1.closing) t e in subst (λ (z : DelimSpan × Stream). ahead z.1 < ahead s) q.0 (inside_less s p h)
    by_test false e = cc

pub open_ahead : (d : Delimiter) (name : Bytes) (s t : Stream) (g : DelimSpan × Stream) → open_group d name s ≡ Ok (g, t) → ahead g.1 < ahead s
unfolding open_group
open_ahead d name s t g e = opened_less d (expected name s) s t g (as_group (front s.rest)) refl e

-- the same, with the group's token
pub opened_ahead : {T : Type 0} (f : DelimSpan → T) (d : Delimiter) (name : Bytes) (s t : Stream) (g : T × Stream) → groups.opened f (open_group d name s) ≡ Ok (g, t) → ahead g.1 < ahead s
opened_ahead {T} f d name s t g e = by_outcome (open_group d name s) refl e
  where
    by_outcome : (o : Outcome (DelimSpan × Stream)) → open_group d name s ≡ o → groups.opened f o ≡ Ok (g, t) → ahead g.1 < ahead s
    by_outcome (Ok p) h e = let q = same_pair (f p.0.0, p.0.1) g p.1 t e in subst (λ (z : T × Stream). ahead z.1 < ahead s) q.0 (open_ahead d name s p.1 p.0 h)
    by_outcome (Err r) h e = cc

-- ---- invisible groups: where the buffer holds one, less is left in it

pub holds_less : (s t c : Stream) → Holds s.rest c.rest t.rest → c.scope.after ≡ an_end ∷ (items t.rest ++ s.scope.after) → ahead c < ahead s
holds_less s t c h e =
    let x = ahead-is s in
    let y = ahead-is c in
    let a = ap length e in
    let z = length-append (items t.rest) s.scope.after in
    let b = ap length h.is in
    let d = length-append h.before (items c.rest ++ an_end ∷ items t.rest) in
    let f = length-append (items c.rest) (an_end ∷ items t.rest) in
    let g = h.begun in
    omega (arith, x, y, a, z, b, d, f, g)

invisible_after : {T : Type 0} (f : DelimSpan → T) (s t : Stream) (g : T × Stream) → groups.opened f (groups.open_invisible s) ≡ Ok (g, t) → g.1.scope.after ≡ an_end ∷ (items t.rest ++ s.scope.after)
unfolding groups.open_invisible
invisible_after {T} f s t g e = by_group (groups.next_invisible s.rest) e
  where
    by_group : (o : Option (DelimSpan × Toks × Toks)) → groups.opened f (groups.invisible_at s o) ≡ Ok (g, t) → g.1.scope.after ≡ an_end ∷ (items t.rest ++ s.scope.after)
    by_group None e = cc
    by_group (Some p) e =
        let q = same_pair (f p.0, inside s p.0 p.1 p.2) g (past s p.2 p.0.closing) t e in
        ap (λ (z : T × Stream). z.1.scope.after) (sym q.0) ∙ ap (λ (z : Stream). an_end ∷ (items z.rest ++ s.scope.after)) q.1

pub invisible_ahead : {T : Type 0} (f : DelimSpan → T) (s t : Stream) (g : T × Stream) → Holds s.rest g.1.rest t.rest → groups.opened f (groups.open_invisible s) ≡ Ok (g, t) → ahead g.1 < ahead s
invisible_ahead f s t g h e = holds_less s t g.1 h (invisible_after f s t g e)

-- and less after it
pub holds_taken : (s t c : Stream) → Holds s.rest c.rest t.rest → Follows s t → ahead t < ahead s
holds_taken s t c h f =
    let x = ahead-is s in
    let y = ahead-is t in
    let a = same_after s t f in
    let b = ap length h.is in
    let d = length-append h.before (items c.rest ++ an_end ∷ items t.rest) in
    let e = length-append (items c.rest) (an_end ∷ items t.rest) in
    let g = h.begun in
    omega (arith, x, y, a, b, d, e, g)

-- a read of a mark, by its relations
taken : (n l c : ℕ) (cs : _) → chars_of n ≡ c ∷ cs → (s t : Stream) (r : Result (Mark n l) Refusal) → Parsed (Gives (read n l) s) (Fails (read n l) s) r t → Follows s t → IfOk r (λ _. ahead t < ahead s)
taken n l c cs h s t (Ok m) e f = mark_ahead n l c cs h s t m e f
taken n l c cs h s t (Err x) e f = tt

pub comma_taken : (s t : Stream) (r : Result (Mark 4 1) Refusal) → Parsed (Gives (read 4 1) s) (Fails (read 4 1) s) r t → Follows s t → IfOk r (λ _. ahead t < ahead s)
comma_taken = taken 4 1 44 [] refl

pub and_taken : (s t : Stream) (r : Result (Mark 5 1) Refusal) → Parsed (Gives (read 5 1) s) (Fails (read 5 1) s) r t → Follows s t → IfOk r (λ _. ahead t < ahead s)
and_taken = taken 5 1 38 [] refl

pub star_taken : (s t : Stream) (r : Result (Mark 26 1) Refusal) → Parsed (Gives (read 26 1) s) (Fails (read 26 1) s) r t → Follows s t → IfOk r (λ _. ahead t < ahead s)
star_taken = taken 26 1 42 [] refl

pub lt_taken : (s t : Stream) (r : Result (Mark 2 1) Refusal) → Parsed (Gives (read 2 1) s) (Fails (read 2 1) s) r t → Follows s t → IfOk r (λ _. ahead t < ahead s)
lt_taken = taken 2 1 60 [] refl

pub gt_taken : (s t : Stream) (r : Result (Mark 3 1) Refusal) → Parsed (Gives (read 3 1) s) (Fails (read 3 1) s) r t → Follows s t → IfOk r (λ _. ahead t < ahead s)
gt_taken = taken 3 1 62 [] refl

pub plus_taken : (s t : Stream) (r : Result (Mark 20 1) Refusal) → Parsed (Gives (read 20 1) s) (Fails (read 20 1) s) r t → Follows s t → IfOk r (λ _. ahead t < ahead s)
plus_taken = taken 20 1 43 [] refl

pub sep_taken : (s t : Stream) (r : Result (Mark 1 2) Refusal) → Parsed (Gives (read 1 2) s) (Fails (read 1 2) s) r t → Follows s t → IfOk r (λ _. ahead t < ahead s)
sep_taken = taken 1 2 58 (58 ∷ []) refl

pub equals_taken : (s t : Stream) (r : Result (Mark 11 1) Refusal) → Parsed (Gives (read 11 1) s) (Fails (read 11 1) s) r t → Follows s t → IfOk r (λ _. ahead t < ahead s)
equals_taken = taken 11 1 61 ([]) refl

pub colon_taken : (s t : Stream) (r : Result (Mark 7 1) Refusal) → Parsed (Gives (read 7 1) s) (Fails (read 7 1) s) r t → Follows s t → IfOk r (λ _. ahead t < ahead s)
colon_taken = taken 7 1 58 ([]) refl

pub arrow_taken : (s t : Stream) (r : Result (Mark 23 2) Refusal) → Parsed (Gives (read 23 2) s) (Fails (read 23 2) s) r t → Follows s t → IfOk r (λ _. ahead t < ahead s)
arrow_taken = taken 23 2 45 (62 ∷ []) refl

-- and that of a word
pub named_word_takes : (n : ℕ) (s t : Stream) (w : Word n) → read_named n s ≡ Ok (w, t) → size t.rest < size s.rest
named_word_takes n s t w e =
    let k = mapped (read_word (is_text (text_of n)) (word_name n) s) (λ (i : Ident). word_of n i.span) w t e in
    word_takes (is_text (text_of n)) (word_name n) s t k.value k.was

word_taken : (n : ℕ) (s t : Stream) (r : Result (Word n) Refusal) → Parsed (Gives (read_named n) s) (Fails (read_named n) s) r t → Follows s t → IfOk r (λ _. ahead t < ahead s)
word_taken n s t (Ok w) e f = ahead_less s t f (named_word_takes n s t w e)
word_taken n s t (Err x) e f = tt

pub const_taken : (s t : Stream) (r : Result (Word 6) Refusal) → Parsed (Gives (read_named 6) s) (Fails (read_named 6) s) r t → Follows s t → IfOk r (λ _. ahead t < ahead s)
const_taken = word_taken 6

pub dyn_taken : (s t : Stream) (r : Result (Word 7) Refusal) → Parsed (Gives (read_named 7) s) (Fails (read_named 7) s) r t → Follows s t → IfOk r (λ _. ahead t < ahead s)
dyn_taken = word_taken 7

pub extern_taken : (s t : Stream) (r : Result (Word 8) Refusal) → Parsed (Gives (read_named 8) s) (Fails (read_named 8) s) r t → Follows s t → IfOk r (λ _. ahead t < ahead s)
extern_taken = word_taken 8

pub fn_taken : (s t : Stream) (r : Result (Word 9) Refusal) → Parsed (Gives (read_named 9) s) (Fails (read_named 9) s) r t → Follows s t → IfOk r (λ _. ahead t < ahead s)
fn_taken = word_taken 9

pub for_taken : (s t : Stream) (r : Result (Word 10) Refusal) → Parsed (Gives (read_named 10) s) (Fails (read_named 10) s) r t → Follows s t → IfOk r (λ _. ahead t < ahead s)
for_taken = word_taken 10

pub impl_taken : (s t : Stream) (r : Result (Word 12) Refusal) → Parsed (Gives (read_named 12) s) (Fails (read_named 12) s) r t → Follows s t → IfOk r (λ _. ahead t < ahead s)
impl_taken = word_taken 12

pub unsafe_taken : (s t : Stream) (r : Result (Word 16) Refusal) → Parsed (Gives (read_named 16) s) (Fails (read_named 16) s) r t → Follows s t → IfOk r (λ _. ahead t < ahead s)
unsafe_taken = word_taken 16

pub use_taken : (s t : Stream) (r : Result (Word 17) Refusal) → Parsed (Gives (read_named 17) s) (Fails (read_named 17) s) r t → Follows s t → IfOk r (λ _. ahead t < ahead s)
use_taken = word_taken 17

pub where_taken : (s t : Stream) (r : Result (Word 18) Refusal) → Parsed (Gives (read_named 18) s) (Fails (read_named 18) s) r t → Follows s t → IfOk r (λ _. ahead t < ahead s)
where_taken = word_taken 18

pub any_ident_taken : (test : Bytes → Bool) (name : Bytes) (s t : Stream) (r : Result Ident Refusal) → Reads (read_word test name s) r t → Follows s t → IfOk r (λ _. ahead t < ahead s)
any_ident_taken test name s t (Ok w) e f = ahead_less s t f (word_takes test name s t w e)
any_ident_taken test name s t (Err x) e f = tt

pub lifetime_taken : (s t : Stream) (r : Result Lifetime Refusal) → Parsed (Gives read_lifetime s) (Fails read_lifetime s) r t → Follows s t → IfOk r (λ _. ahead t < ahead s)
lifetime_taken s t (Ok x) e f = ahead_less s t f (lifetime_takes s t x e)
lifetime_taken s t (Err x) e f = tt

-- any identifier whose text meets a test
pub ident_taken : (test : Bytes → Bool) (name : Bytes) (s t : Stream) (r : Result Ident Refusal) → Parsed (Gives (read_word test name) s) (Fails (read_word test name) s) r t → Follows s t → IfOk r (λ _. ahead t < ahead s)
ident_taken test name s t (Ok w) e f = ahead_less s t f (word_takes test name s t w e)
ident_taken test name s t (Err x) e f = tt

pub ruleset later = (ahead_follows)

pub ruleset inside_groups = (opened_ahead)

pub ruleset inside_invisible = (invisible_ahead, holds_taken)

pub ruleset past_lifetimes = (lifetime_taken)

pub ruleset past_tokens = (comma_taken, plus_taken, and_taken, star_taken, lt_taken, gt_taken, sep_taken, equals_taken, colon_taken, arrow_taken, const_taken, dyn_taken, extern_taken, fn_taken, for_taken, impl_taken, unsafe_taken, use_taken, where_taken, ident_taken, any_ident_taken)
