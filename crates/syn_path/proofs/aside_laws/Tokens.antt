-- Marks, words, lifetimes, literals, members and limits of ranges on lists that are the same aside from spans.
use Rattle.std.proofs.Common.{◌≡◌, ℕ, Bool, true, false, ◌==◌, ◌||◌, if◌then◌else◌, List, [], ◌∷◌, Option, Some, None, is_some, map, refl, sym, ap, ◌∙◌}
use Rattle.token_core.specs.declared.span.Span.{Span}
use Rattle.token_core.specs.declared.lifetime.Lifetime.{Lifetime}
use Rattle.token_core.specs.declared.lit.Lit.{Lit}
use Rattle.token_core.specs.declared.lit.Lit.TheVariants as v
use Rattle.token_core.specs.declared.lit.LitStr.{LitStr}
use Rattle.token_core.specs.declared.mark.Mark.{Mark}
use Rattle.token_core.specs.declared.mark.Spans.{Spans}
use Rattle.token_core.specs.declared.member.Index.{Index}
use Rattle.token_core.specs.declared.member.Member.{Member}
use Rattle.token_core.specs.declared.member.Member.TheVariants as m
use Rattle.token_core.specs.declared.range.RangeLimits.{RangeLimits}
use Rattle.token_core.specs.declared.range.RangeLimits.TheVariants as limits
use Rattle.token_core.specs.declared.tree.Delimiter.{Delimiter}
use Rattle.token_core.specs.declared.tree.Spacing.{Spacing}
use Rattle.token_core.specs.declared.word.Word.{Word}
use Rattle.token_core.specs.Clear.{Apart, continues, glued_to, longer}
use Rattle.token_core.specs.Lifetimes.{lifetime}
use Rattle.token_core.specs.Listed.{AreListed, none_left, last_value, value_and_mark}
use Rattle.token_core.specs.Lits.{lit_bool, lit_str, negative}
use Rattle.token_core.specs.Marks.{word_of}
use Rattle.token_core.specs.Members.{index}
use Rattle.token_core.specs.Reads.{sees_mark, sees_word, sees_group, is_done, past_mark, past_next, is_last, is_joint, put_first, as_punct}
use Rattle.token_core.specs.Spellings.{AreChars, no_char, last_char, more_chars, mark_at, IsMark, is_mark, IsWord, is_word, IsLifetime, is_lifetime, IsLit, a_literal, a_bool, a_negative, IsStr, a_str, IsIndex, an_index, IsMember, named, unnamed, AreLimits, half_open, closed}
use Rattle.token_core.specs.Spans.{none}
use Rattle.token_core.specs.Toks.{Bytes, Toks, done}
use Rattle.token_core.specs.Trees.{ident, literal}
use Rattle.syn_path.specs.aside.Tokens as free
use Rattle.syn_path.proofs.aside_laws.Both.{cons_same}
use Rattle.syn_path.proofs.aside_laws.Same.{Same, same_done, same_word, same_mark, same_lit, same_group, Rest, all_left, past_word, past_mark as past_one_mark, past_lit, onward, Moved, Mover}

-- ---- tests

pub some_if : {A : Type 0} (b : Bool) (x y : Option A) → is_some x ≡ is_some y → is_some (if b then x else None) ≡ is_some (if b then y else None)
some_if true x y e = e
some_if false x y e = refl

put_some : (a b : Span) (x y : Option (Spans × Toks)) → is_some x ≡ is_some y → is_some (put_first a x) ≡ is_some (put_first b y)
put_some a b None None e = refl
put_some a b None (Some y) e = cc
put_some a b (Some x) None e = cc
put_some a b (Some x) (Some y) e = refl

next_same : (c : ℕ) (last : Bool) (f : Toks → Option (Spans × Toks)) → ((l m : Toks) → Same l m → is_some (f l) ≡ is_some (f m)) → (l m : Toks) → Same l m →
    is_some (past_next c last f (as_punct l)) ≡ is_some (past_next c last f (as_punct m))
next_same c last f e _ _ same_done = refl
next_same c last f e _ _ (same_word s) = refl
next_same c last f e _ _ (same_lit s) = refl
next_same c last f e _ _ (same_group v i s) = refl
next_same c true f e _ _ (same_mark {c = d} s) = some_if (d == c) _ _ refl
next_same c false f e _ _ (same_mark {c = d} {j = j} {a = a} {b = b} {k = k} {m = m} s) = some_if (d == c) _ _ (some_if (is_joint j) (put_first a (f k)) (put_first b (f m)) (put_some a b (f k) (f m) (e k m s)))

-- a list that is the same begins with no bound of an invisible group
past_same : (cs : List ℕ) (l m : Toks) → Same l m → is_some (past_mark cs l) ≡ is_some (past_mark cs m)
past_same [] l m s = refl
past_same (c ∷ cs) _ _ same_done = refl
past_same (c ∷ cs) _ _ (same_word s) = refl
past_same (c ∷ cs) _ _ (same_lit s) = refl
past_same (c ∷ cs) _ _ (same_group v i s) = refl
past_same (c ∷ cs) _ _ (same_mark s) = next_same c (is_last cs) (past_mark cs) (past_same cs) _ _ (same_mark s)

pub mark_seen : (cs : List ℕ) {l m : Toks} → Same l m → sees_mark cs l ≡ sees_mark cs m
unfolding sees_mark
mark_seen cs s = past_same cs _ _ s

pub word_seen : (test : Bytes → Bool) {l m : Toks} → Same l m → sees_word test l ≡ sees_word test m
unfolding sees_word
word_seen test same_done = refl
word_seen test (same_word s) = refl
word_seen test (same_mark s) = refl
word_seen test (same_lit s) = refl
word_seen test (same_group v i s) = refl

pub group_seen : (d : Delimiter) {l m : Toks} → Same l m → sees_group d l ≡ sees_group d m
unfolding sees_group
group_seen d same_done = refl
group_seen d (same_word s) = refl
group_seen d (same_mark s) = refl
group_seen d (same_lit s) = refl
group_seen d (same_group v i s) = refl

pub done_seen : {l m : Toks} → Same l m → is_done l ≡ is_done m
unfolding is_done
done_seen same_done = refl
done_seen (same_word s) = refl
done_seen (same_mark s) = refl
done_seen (same_lit s) = refl
done_seen (same_group v i s) = refl

glued_by : (cs m : List ℕ) {l k : Toks} → Same l k → continues cs m l ≡ continues cs m k
glued_by [] [] s = refl
glued_by [] (m ∷ ms) s = mark_seen (m ∷ ms) s
glued_by (c ∷ cs) [] s = refl
glued_by (c ∷ cs) (m ∷ ms) s = ap (λ z. if c == m then z else false) (glued_by cs ms s)

glued_to_same : (cs : List ℕ) (ms : List (List ℕ)) {l k : Toks} → Same l k → glued_to cs ms l ≡ glued_to cs ms k
glued_to_same cs [] s = refl
glued_to_same cs (m ∷ ms) {l} {k} s = ap (λ z. z || glued_to cs ms l) (glued_by cs m s) ∙ ap (λ z. continues cs m k || z) (glued_to_same cs ms s)

pub apart_on : (clear : Bool) (cs : List ℕ) (j : Spacing) {l k : Toks} → Same l k → Apart clear cs j l → Apart clear cs j k
apart_on clear cs j s h = λ e f. sym (glued_to_same cs longer s) ∙ h e f

-- ---- marks and words

pub chars_move : {clear : Bool} {all cs : List ℕ} {ss : List Span} {l r m : Toks} → AreChars clear all cs ss l r → Same l m → Moved free.spans (AreChars clear all cs) ss r m
chars_move no_char s = record { tree = []; rest = _; is = no_char; same = refl; on = s; part = all_left }
chars_move {clear = clear} {all = all} (last_char {j = j} a) (same_mark {b = b} s) = record { tree = b ∷ []; rest = _; is = last_char (apart_on clear all j s a); same = refl; on = s; part = past_one_mark all_left }
chars_move (more_chars i) (same_mark {b = b} s) = let q = chars_move i s in record { tree = b ∷ q.tree; rest = q.rest; is = more_chars q.is; same = ap (λ z. none ∷ z) q.same; on = q.on; part = past_one_mark q.part }

pub mark_moves : {clear : Bool} {n k : ℕ} {x : Mark n k} {l r m : Toks} → IsMark clear x l r → Same l m → Moved free.mark (IsMark clear {n = n} {k = k}) x r m
mark_moves {n = n} {k = k} (is_mark i) s = let q = chars_move i s in record { tree = mark_at n k q.tree; rest = q.rest; is = is_mark q.is; same = ap (mark_at n k) q.same; on = q.on; part = q.part }

pub word_moves : {n : ℕ} {x : Word n} {l r m : Toks} → IsWord x l r → Same l m → Moved free.word (IsWord {n = n}) x r m
word_moves {n = n} is_word (same_word {b = b} s) = record { tree = word_of n b; rest = _; is = is_word; same = refl; on = s; part = past_word all_left }

pub lifetime_moves : {x : Lifetime} {l r m : Toks} → IsLifetime x l r → Same l m → Moved free.lifetime IsLifetime x r m
lifetime_moves is_lifetime (same_mark {b = a} (same_word {t = t} {b = b} s)) = record { tree = lifetime a (ident t b); rest = _; is = is_lifetime; same = refl; on = s; part = past_one_mark (past_word all_left) }

-- ---- literals and members

pub lit_moves : {x : Lit} {l r m : Toks} → IsLit x l r → Same l m → Moved free.lit IsLit x r m
lit_moves a_literal (same_lit {d = d} {t = t} {b = b} s) = record { tree = v.Literal (literal d t b); rest = _; is = a_literal; same = refl; on = s; part = past_lit all_left }
lit_moves (a_bool {b = x}) (same_word {b = b} s) = record { tree = v.Bool (lit_bool x b); rest = _; is = a_bool; same = refl; on = s; part = past_word all_left }
lit_moves (a_negative h) (same_mark {b = a} (same_lit {d = d} {t = t} {b = b} s)) = record { tree = v.Negative (negative a (literal d t b)); rest = _; is = a_negative h; same = refl; on = s; part = past_one_mark (past_lit all_left) }

pub str_moves : {x : LitStr} {l r m : Toks} → IsStr x l r → Same l m → Moved free.str IsStr x r m
str_moves (a_str {t = t}) (same_lit {b = b} s) = record { tree = lit_str t b; rest = _; is = a_str; same = refl; on = s; part = past_lit all_left }

pub index_moves : {x : Index} {l r m : Toks} → IsIndex x l r → Same l m → Moved free.index IsIndex x r m
index_moves (an_index {n = n} h) (same_lit {b = b} s) = record { tree = index n b; rest = _; is = an_index h; same = refl; on = s; part = past_lit all_left }

pub member_moves : {x : Member} {l r m : Toks} → IsMember x l r → Same l m → Moved free.member IsMember x r m
member_moves (named h) (same_word {t = t} {b = b} s) = record { tree = m.Named (ident t b); rest = _; is = named h; same = refl; on = s; part = past_word all_left }
member_moves (unnamed i) s = let q = index_moves i s in record { tree = m.Unnamed q.tree; rest = q.rest; is = unnamed q.is; same = ap m.Unnamed q.same; on = q.on; part = q.part }

-- ---- limits of ranges

pub limits_move : {clear : Bool} {x : RangeLimits} {l r m : Toks} → AreLimits clear x l r → Same l m → Moved free.limits_of (AreLimits clear) x r m
limits_move (half_open i) s = let q = mark_moves i s in record { tree = limits.HalfOpen q.tree; rest = q.rest; is = half_open q.is; same = ap limits.HalfOpen q.same; on = q.on; part = q.part }
limits_move (closed i) s = let q = mark_moves i s in record { tree = limits.Closed q.tree; rest = q.rest; is = closed q.is; same = ap limits.Closed q.same; on = q.on; part = q.part }

-- ---- values with marks between them

pub record MovedMany {A P : Type 0} (free_value : A → A) (free_mark : P → P) (Are : List A → List P → Toks → Toks → Type 0) (xs : List A) (ps : List P) (r m : Toks) : Type 0 where
  pub values : List A
  pub marks : List P
  pub rest : Toks
  pub is : Are values marks m rest
  pub same : map free_value values ≡ map free_value xs
  pub same_marks : map free_mark marks ≡ map free_mark ps
  pub on : Same r rest
  pub part : Rest rest m

module _ {A P : Type 0} (free_value : A → A) (free_mark : P → P) {V : Bool → A → Toks → Toks → Type 0} {M : P → Toks → Toks → Type 0} where
  pub listed_move : {Ends : Bool → Type 0} {first : Bool} {xs : List A} {ps : List P} {l r m : Toks} → AreListed V M Ends first xs ps l r → Same l m → ((b : Bool) → Mover free_value (V b)) → Mover free_mark M →
      MovedMany free_value free_mark (AreListed V M Ends first) xs ps r m
  listed_move (none_left h) s f g = record { values = []; marks = []; rest = _; is = none_left h; same = refl; same_marks = refl; on = s; part = all_left }
  listed_move (last_value i) s f g = let q = f _ _ _ _ _ i s in record { values = q.tree ∷ []; marks = []; rest = q.rest; is = last_value q.is; same = ap (λ z. z ∷ []) q.same; same_marks = refl; on = q.on; part = q.part }
  listed_move (value_and_mark i j k) s f g =
      let q = f _ _ _ _ _ i s in
      let p = g _ _ _ _ j q.on in
      let t = listed_move k p.on f g in
      record {
        values = q.tree ∷ t.values;
        marks = p.tree ∷ t.marks;
        rest = t.rest;
        is = value_and_mark q.is p.is t.is;
        same = cons_same q.same t.same;
        same_marks = cons_same p.same t.same_marks;
        on = t.on;
        part = onward t.part (onward p.part q.part);
      }

-- ---- at the end of a list

-- what a relation told of a value at the end of a list
pub ended : {A : Type 0} {fr : A → A} {Is : A → Toks → Toks → Type 0} {x : A} {m : Toks} (q : Moved fr Is x done m) → Is q.tree m done
ended {Is = Is} {m = m} q = there q.rest q.on q.is
  where
    there : (k : Toks) → Same done k → Is q.tree m k → Is q.tree m done
    there k same_done i = i

pub listed_ended : {A P : Type 0} {fa : A → A} {fp : P → P} {Are : List A → List P → Toks → Toks → Type 0} {xs : List A} {ps : List P} {m : Toks} (q : MovedMany fa fp Are xs ps done m) → Are q.values q.marks m done
listed_ended {Are = Are} {m = m} q = there q.rest q.on q.is
  where
    there : (k : Toks) → Same done k → Are q.values q.marks m k → Are q.values q.marks m done
    there k same_done i = i
