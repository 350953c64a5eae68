-- The readers of tokens keep their promises, whatever follows.
use Rattle.std.specs.Prelude.{nat_le}
use Rattle.std.proofs.lemmas.Bool.{eqb-true, leb-true}
use Rattle.std.proofs.Common.{◌≡◌, ℕ, zero, suc, ◌≤◌, Bool, true, false, ◌==◌, ◌&&◌, if◌then◌else◌, List, [], ◌∷◌, length, get_or, Option, Some, None, Result, Ok, Err, refl, sym, ◌∙◌, ap, subst}
use Rattle.token_core.specs.declared.tree.Ident.{Ident}
use Rattle.token_core.specs.declared.mark.Mark.{Mark}
use Rattle.token_core.specs.declared.word.Word.{Word}
use Rattle.token_core.specs.declared.lifetime.Lifetime.{Lifetime}
use Rattle.token_core.specs.declared.lit.Lit.{Lit}
use Rattle.token_core.specs.declared.lit.LitStr.{LitStr}
use Rattle.token_core.specs.declared.member.Index.{Index}
use Rattle.token_core.specs.declared.member.Member.{Member}
use Rattle.token_core.specs.declared.range.RangeLimits.{RangeLimits}
use Rattle.token_core.specs.declared.span.Span.{Span}
use Rattle.token_core.specs.Fronted.{Fronting, Fronted, FrontLaws}
use Rattle.token_core.specs.Grammars as g
use Rattle.token_core.specs.Headline.{Heads, Lawful}
use Rattle.token_core.specs.Lifetimes as lifetimes
use Rattle.token_core.specs.Lits as lits
use Rattle.token_core.specs.Marks.{chars_of, mark_table, read, read_named}
use Rattle.token_core.specs.Members as members
use Rattle.token_core.specs.Names.{IsName, a_name, name}
use Rattle.token_core.specs.Prints as p
use Rattle.token_core.specs.Prints.{Print}
use Rattle.token_core.specs.Ranges as ranges
use Rattle.token_core.specs.Reads.{Reader, Reads, Keeps, is_ident, ident_name, read_word, next_word, expected, read_mark, past_mark}
use Rattle.token_core.specs.Rebuilt.{Visible}
use Rattle.token_core.specs.Refusal.{Refusal}
use Rattle.token_core.specs.Spellings.{IsMark, IsWord, IsLifetime, IsLit, IsStr, IsIndex, IsMember, AreLimits, AreOldLimits}
use Rattle.token_core.specs.Stream.{Scope, Stream}
use Rattle.token_core.specs.Toks.{Toks, done, word}
use Rattle.token_core.specs.Trees.{row}
use Rattle.token_core.proofs.Fronteds.{fronted}
use Rattle.token_core.proofs.Headlines.{heads}
use Rattle.token_core.proofs.LimitSpells as limit
use Rattle.token_core.proofs.LitSpells as lit
use Rattle.token_core.proofs.MarkSpells.{Taken, mark_again, mark_complete, mark_rest, mark_sound, mark_visible, mark_whole}
use Rattle.token_core.proofs.MemberSpells as member
use Rattle.token_core.proofs.Rebuilds.{tree-ident}
use Rattle.token_core.proofs.Steps.{Reads_to}
use Rattle.token_core.proofs.Took.{at, leaves_none, took_all, took_word}
use Rattle.token_core.proofs.WordSpells as words

module _ {A : Type 0} (Is : Bool → A → Toks → Toks → Type 0) (print : A → Print) (reader : Reader A)
    (sound : (s t : Stream) (x : A) → Visible s.rest → reader s ≡ Ok (x, t) → Taken (Is false) s t x)
    (complete : (x : A) (l r : Toks) (f : Option Span) (e : Span) (sc : Scope) → Is true x l r → Reads_to reader x l r f e sc)
    (again : (x : A) (l r h : Toks) → Is false x l r → Is true x (row (print x) h) h)
    (visible : (x : A) (l r : Toks) → Is false x l r → Visible l → Visible r)
    (whole : (x : A) (l r : Toks) → Is true x l r → Visible r → Visible l) where
  token_laws : FrontLaws (g.token Is print reader)
  token_laws = record {
    sound = λ s t x n v e c. let h = sound s t x v e in (visible x s.rest t.rest h.spelt v, λ o. h.spelt);
    complete = λ s x k n v i o. let m = complete x s.rest k s.left s.last s.scope i in (at k s.left m.last s.scope, m.reads, refl, n);
    spells = λ x l r k i q o. again x l r k i;
    visible = λ x l r k i v q u o. whole x (row (print x) k) k (again x l r k i) u;
    stays = λ x l r k i q. refl;
    same = λ x l r k i q. refl;
  }

  pub token_lawful : Lawful (g.token Is print reader).grammar
  token_lawful = record {
    sound = λ s t x n v e c. let h = sound s t x v e in subst (λ z. Is false x s.rest z) (took_all t (visible x s.rest t.rest h.spelt v) c) h.spelt;
    complete = λ s x n v i. let m = complete x s.rest done s.left s.last s.scope i in (at done s.left m.last s.scope, m.reads, leaves_none s.left m.last s.scope n);
    spells = λ x l i v q. again x l done done i;
    visible = λ x l i v q. whole x (row (print x) done) done (again x l done done i) tt;
    stays = λ x l i q. refl;
    same = λ x l i q. refl;
  }

  token_fronted : (s t : Stream) (r : Result A Refusal) → Reads (reader s) r t → Fronted (g.token Is print reader) s r t
  token_fronted s t r h = fronted (g.token Is print reader) token_laws s t r h

  token_heads : (s t : Stream) (r : Result A Refusal) → Reads (reader s) r t → Heads (g.token Is print reader).grammar s r t
  token_heads s t r h = heads (g.token Is print reader).grammar token_lawful s t r h

-- ---- marks

abbrev all_short : List (List ℕ) → Bool
all_short [] = true
all_short (x ∷ xs) = nat_le (length x) 3 && all_short xs

both : (a b : Bool) → (a && b) ≡ true → (a ≡ true) × (b ≡ true)
both true b h = (refl, h)
both false b h = cc

short_at : (xs : List (List ℕ)) (n : ℕ) → all_short xs ≡ true → nat_le (length (get_or xs n [])) 3 ≡ true
short_at [] n h = refl
short_at (x ∷ xs) zero h = (both (nat_le (length x) 3) (all_short xs) h).0
short_at (x ∷ xs) (suc n) h = short_at xs n (both (nat_le (length x) 3) (all_short xs) h).1

module _ (n k : ℕ) (named : g.is_named n k ≡ true) where
  fits : length (chars_of n) ≡ k
  fits = eqb-true (length (chars_of n)) k named

  short : k ≤ 3
  short = subst (λ z. z ≤ 3) fits (leb-true (length (chars_of n)) 3 (short_at mark_table n refl))

  sound : (s t : Stream) (x : Mark n k) → Visible s.rest → read n k s ≡ Ok (x, t) → Taken (IsMark false) s t x
  sound s t x v e = mark_sound fits short s t x v e

  complete : (x : Mark n k) (l r : Toks) (f : Option Span) (e : Span) (sc : Scope) → IsMark true x l r → Reads_to (read n k) x l r f e sc
  complete x l r f e sc i = mark_complete true fits short x l r f e sc i

module _ {n k : ℕ} where
  again : (x : Mark n k) (l r h : Toks) → IsMark false x l r → IsMark true x (row (p.mark x) h) h
  again x l r h i = mark_again false x l r h i

  whole_print : (x : Mark n k) (l r h : Toks) → IsMark false x l r → Visible h → Visible (row (p.mark x) h)
  whole_print x l r h i v = mark_whole true x (row (p.mark x) h) h (again x l r h i) v

  mark_laws : FrontLaws (g.mark n k)
  mark_laws = record {
    sound = λ s t x m v e c. (mark_rest s t x v e, λ o. (sound n k o s t x v e).spelt);
    complete = λ s x h m v i o. let q = complete n k o x s.rest h s.left s.last s.scope i in (at h s.left q.last s.scope, q.reads, refl, m);
    spells = λ x l r h i q o. again x l r h i;
    visible = λ x l r h i v q u o. whole_print x l r h i u;
    stays = λ x l r k i q. refl;
    same = λ x l r k i q. refl;
  }

  mark_heads : g.is_named n k ≡ true → (s t : Stream) (r : Result (Mark n k) Refusal) → Reads (read n k s) r t → Heads (g.mark n k).grammar s r t
  mark_heads named = token_heads (λ clear. IsMark clear) p.mark (read n k) (sound n k named) (complete n k named) again (λ x l r i v. mark_visible false x l r i v) (λ x l r i v. mark_whole true x l r i v)

  pub mark_promised : (s t : Stream) (r : Result (Mark n k) Refusal) → Reads (read n k s) r t → Keeps (g.whole_mark n k) s r t
  mark_promised s t (Ok a) h = λ m named. mark_heads named s t (Ok a) h m
  mark_promised s t (Err e) h = λ d m named. mark_heads named s t (Err e) h d m

  pub mark_fronted : (s t : Stream) (r : Result (Mark n k) Refusal) → Reads (read n k s) r t → Fronted (g.mark n k) s r t
  mark_fronted s t r h = fronted (g.mark n k) mark_laws s t r h

-- ---- words

module _ {n : ℕ} where
  pub word_promised : (s t : Stream) (r : Result (Word n) Refusal) → Reads (read_named n s) r t → Heads (g.word n).grammar s r t
  word_promised = token_heads (λ clear. IsWord) p.word (read_named n) words.word_sound words.word_complete words.word_again words.word_visible words.word_whole

  pub word_fronted : (s t : Stream) (r : Result (Word n) Refusal) → Reads (read_named n s) r t → Fronted (g.word n) s r t
  word_fronted = token_fronted (λ clear. IsWord) p.word (read_named n) words.word_sound words.word_complete words.word_again words.word_visible words.word_whole

-- ---- identifiers

name_sound : (s t : Stream) (x : Ident) → Visible s.rest → name s ≡ Ok (x, t) → Taken (IsName false) s t x
name_sound s t x v e =
    let w = took_word is_ident ident_name s t x v e in
    record { spelt = subst (λ z. IsName false x z t.rest) (sym w.is) (a_name w.meets); left = w.left }

name_complete : (x : Ident) (l r : Toks) (f : Option Span) (e : Span) (sc : Scope) → IsName true x l r → Reads_to name x l r f e sc
unfolding read_word next_word
name_complete x l r f e sc (a_name h) = record { last = x.span; reads = ap (λ (b : Bool). if b then Ok (x, at r f x.span sc) else Err (expected ident_name (at (word x r) f e sc))) h }

name_again : (x : Ident) (l r h : Toks) → IsName false x l r → IsName true x (row (p.ident x) h) h
name_again x l r h (a_name m) = subst (λ z. IsName true x z h) (sym (tree-ident x h)) (a_name m)

name_visible : (x : Ident) (l r : Toks) → IsName false x l r → Visible l → Visible r
name_visible x l r (a_name m) v = v

name_whole : (x : Ident) (l r : Toks) → IsName true x l r → Visible r → Visible l
name_whole x l r (a_name m) v = v

pub ident_promised : (s t : Stream) (r : Result Ident Refusal) → Reads (name s) r t → Heads g.ident.grammar s r t
ident_promised = token_heads IsName p.ident name name_sound name_complete name_again name_visible name_whole

pub ident_fronted : (s t : Stream) (r : Result Ident Refusal) → Reads (name s) r t → Fronted g.ident s r t
ident_fronted = token_fronted IsName p.ident name name_sound name_complete name_again name_visible name_whole

-- ---- lifetimes

pub lifetime_promised : (s t : Stream) (r : Result Lifetime Refusal) → Reads (lifetimes.read_lifetime s) r t → Heads g.lifetime.grammar s r t
lifetime_promised = token_heads (λ clear. IsLifetime) lifetimes.print lifetimes.read_lifetime words.lifetime_sound words.lifetime_complete words.lifetime_again words.lifetime_visible words.lifetime_whole

pub lifetime_fronted : (s t : Stream) (r : Result Lifetime Refusal) → Reads (lifetimes.read_lifetime s) r t → Fronted g.lifetime s r t
lifetime_fronted = token_fronted (λ clear. IsLifetime) lifetimes.print lifetimes.read_lifetime words.lifetime_sound words.lifetime_complete words.lifetime_again words.lifetime_visible words.lifetime_whole

-- ---- literals

pub lit_promised : (s t : Stream) (r : Result Lit Refusal) → Reads (lits.read_lit s) r t → Heads g.lit.grammar s r t
lit_promised = token_heads (λ clear. IsLit) lits.print lits.read_lit lit.lit_sound lit.lit_complete lit.lit_again lit.lit_visible lit.lit_whole

pub lit_fronted : (s t : Stream) (r : Result Lit Refusal) → Reads (lits.read_lit s) r t → Fronted g.lit s r t
lit_fronted = token_fronted (λ clear. IsLit) lits.print lits.read_lit lit.lit_sound lit.lit_complete lit.lit_again lit.lit_visible lit.lit_whole

pub str_promised : (s t : Stream) (r : Result LitStr Refusal) → Reads (lits.read_str s) r t → Heads g.lit_str.grammar s r t
str_promised = token_heads (λ clear. IsStr) lits.print_str lits.read_str lit.str_sound lit.str_complete lit.str_again lit.str_visible lit.str_whole

pub str_fronted : (s t : Stream) (r : Result LitStr Refusal) → Reads (lits.read_str s) r t → Fronted g.lit_str s r t
str_fronted = token_fronted (λ clear. IsStr) lits.print_str lits.read_str lit.str_sound lit.str_complete lit.str_again lit.str_visible lit.str_whole

-- ---- members

pub index_promised : (s t : Stream) (r : Result Index Refusal) → Reads (members.read_index s) r t → Heads g.index.grammar s r t
index_promised = token_heads (λ clear. IsIndex) members.print_index members.read_index member.index_sound member.index_complete member.index_again member.index_visible member.index_whole

pub index_fronted : (s t : Stream) (r : Result Index Refusal) → Reads (members.read_index s) r t → Fronted g.index s r t
index_fronted = token_fronted (λ clear. IsIndex) members.print_index members.read_index member.index_sound member.index_complete member.index_again member.index_visible member.index_whole

pub member_promised : (s t : Stream) (r : Result Member Refusal) → Reads (members.read_member s) r t → Heads g.member.grammar s r t
member_promised = token_heads (λ clear. IsMember) members.print members.read_member member.member_sound member.member_complete member.member_again member.member_visible member.member_whole

pub member_fronted : (s t : Stream) (r : Result Member Refusal) → Reads (members.read_member s) r t → Fronted g.member s r t
member_fronted = token_fronted (λ clear. IsMember) members.print members.read_member member.member_sound member.member_complete member.member_again member.member_visible member.member_whole

-- ---- limits of ranges

pub limits_promised : (s t : Stream) (r : Result RangeLimits Refusal) → Reads (ranges.read s) r t → Heads g.limits.grammar s r t
limits_promised = token_heads (λ clear. AreLimits clear) ranges.print ranges.read limit.limits_sound limit.limits_complete (limit.limits_again false) (limit.limits_visible false) (limit.limits_whole true)

pub limits_fronted : (s t : Stream) (r : Result RangeLimits Refusal) → Reads (ranges.read s) r t → Fronted g.limits s r t
limits_fronted = token_fronted (λ clear. AreLimits clear) ranges.print ranges.read limit.limits_sound limit.limits_complete (limit.limits_again false) (limit.limits_visible false) (limit.limits_whole true)

pub old_limits_promised : (s t : Stream) (r : Result RangeLimits Refusal) → Reads (ranges.read_obsolete s) r t → Heads g.obsolete_limits.grammar s r t
old_limits_promised = token_heads (λ clear. AreOldLimits clear) ranges.print ranges.read_obsolete limit.old_limits_sound limit.old_limits_complete (limit.old_limits_again false) (limit.old_limits_visible false) (limit.old_limits_whole true)

pub old_limits_fronted : (s t : Stream) (r : Result RangeLimits Refusal) → Reads (ranges.read_obsolete s) r t → Fronted g.obsolete_limits s r t
old_limits_fronted = token_fronted (λ clear. AreOldLimits clear) ranges.print ranges.read_obsolete limit.old_limits_sound limit.old_limits_complete (limit.old_limits_again false) (limit.old_limits_visible false) (limit.old_limits_whole true)
