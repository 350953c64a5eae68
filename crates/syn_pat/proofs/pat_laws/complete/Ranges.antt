-- A const block, a bound of a range and a range that a list spells clearly are what their reads answer, where what follows does not go on with them.
use Rattle.std.specs.Prelude.{is_some}
use Rattle.std.proofs.Common.{◌≡◌, Bool, true, false, not, ◌&&◌, ◌||◌, if◌then◌else◌, [], Option, Some, None, Ok, refl, ◌∙◌, ap}
use Rattle.syn_pat.proofs.pat_laws.words.Tokens.{Lit, RangeLimits, Span, Brace, Ident, is_keyword, sees_lit, Reader, is_done, is_text, sees_mark, sees_word, last_char, more_chars, IsLit, a_literal, a_bool, a_negative, IsMark, is_mark, IsWord, is_word, AreLimits, half_open, closed, AreOldLimits, new_limits, old_limits, Scope, Stream, Toks, word, group}
use Rattle.syn_pat.proofs.pat_laws.words.Paths.{Place, Block, is_mod_word}
use Rattle.syn_pat.proofs.pat_laws.words.Attributes.{lit_of, Expr, ExprConstOf}
use Rattle.syn_pat.proofs.pat_laws.words.Types.{clearly, Path, QSelf, TypeTree}
use Rattle.syn_pat.proofs.pat_laws.words.Patterns.{Pat, PatRangeBound, pat_range_of, path_pat_of, rest_of, after_bound, bound_or_range, ends_range, range_after, sees_bound_path, sees_half_open, type_names, IsConstBlock, a_const_block, IsPatPath, a_pat_path, IsEnd, a_literal_end, a_path_end, a_const_end}
use Rattle.token_core.specs.declared.range.RangeLimits.TheVariants as limits
use Rattle.token_core.specs.Groups as groups
use Rattle.token_core.specs.Lits.{false_text, true_text}
use Rattle.token_core.specs.Tokens as token
use Rattle.token_core.proofs.LimitSpells.{limits_complete, old_limits_complete}
use Rattle.token_core.proofs.LitSpells.{lit_complete, lit_seen}
use Rattle.token_core.proofs.MarkSpells.{mark_seen}
use Rattle.token_core.proofs.Steps.{Reads_to, chosen, link}
use Rattle.token_core.proofs.Took.{at}
use Rattle.token_core.proofs.Unseen.{dots_apart}
use Rattle.token_core.proofs.WordSpells.{word_complete, word_seen}
use Rattle.syn_path.proofs.Words.{uses_none}
use Rattle.syn_attr.specs.attr.Attrs.{Attribute as Attr}
use Rattle.syn_forms.proofs.groups_laws.Complete.{content, reads_inside}
use Rattle.syn_pat.specs.declared.pat.PatOf.TheVariants as v
use Rattle.syn_pat.specs.declared.pat.PatRangeBoundOf.TheVariants as b
use Rattle.syn_pat.specs.pat.Reading.{body, bound, bound_as_pat, const_block, ended, half_open as read_half_open, optional_bound, range}
use Rattle.syn_pat.proofs.pat_laws.complete.Names.{Opens, by_name, by_sep, by_lt, any_opens, not_mod}
use Rattle.syn_pat.proofs.pat_laws.complete.Within.{SuppliedMeets}

-- ---- limits

pub dots_seen : (clear : Bool) (t : RangeLimits) (l r : Toks) → AreOldLimits clear t l r → token.sees_dot_dot l ≡ true
unfolding sees_mark
dots_seen clear t l r (new_limits (half_open (is_mark (more_chars (last_char x))))) = refl
dots_seen clear t l r (new_limits (closed (is_mark (more_chars (more_chars (last_char x)))))) = refl
dots_seen clear t l r (old_limits (is_mark (more_chars (more_chars (last_char x))))) = refl

closed_no_dots : (d : token.DotDotEq) (l r : Toks) → IsMark true d l r → token.sees_dot_dot_dot l ≡ false
unfolding sees_mark
closed_no_dots d l r (is_mark (more_chars (more_chars (last_char x)))) = refl

-- no `...`
pub limits_seen : (t : RangeLimits) (l r : Toks) → AreLimits true t l r → sees_half_open l ≡ true
unfolding sees_half_open
limits_seen t l r (half_open {d = d} i) = ap (λ z. z && not (token.sees_dot_dot_dot l)) (mark_seen true {n = 8} {k = 2} d l r i) ∙ ap not (dots_apart d l r i)
limits_seen t l r (closed {d = d} i) = ap (λ z. z && not (token.sees_dot_dot_dot l)) (dots_seen true (limits.Closed d) l r (new_limits (closed i))) ∙ ap not (closed_no_dots d l r i)

-- ---- what begins a bound: it ends no range, and one kind of bound is no other

lit_goes : (x : Lit) (l r : Toks) → IsLit x l r → ends_range l ≡ false
unfolding ends_range is_done sees_mark sees_word
lit_goes x l r a_literal = refl
lit_goes x l r (a_bool {b = true}) = refl
lit_goes x l r (a_bool {b = false}) = refl
lit_goes x l r (a_negative h) = refl

const_goes : (w : token.Const) (l r : Toks) → IsWord w l r → ends_range l ≡ false
unfolding ends_range is_done sees_mark sees_word
const_goes w l r is_word = refl

const_no_lit : (w : token.Const) (l r : Toks) → IsWord w l r → sees_lit l ≡ false
unfolding sees_lit
const_no_lit w l r is_word = refl

const_no_path : (w : token.Const) (l r : Toks) → IsWord w l r → sees_bound_path l ≡ false
unfolding sees_bound_path sees_word sees_mark is_keyword
const_no_path w l r is_word = refl

name_goes : (i : Ident) (k : Toks) → is_mod_word i.text ≡ true → ends_range (word i k) ≡ false
unfolding ends_range is_done sees_mark sees_word is_keyword
name_goes i k h = not_mod token.if_text i.text refl h

no_bool : {A : Type 0} (a b : Bool) (x y : A) → a ≡ false → b ≡ false → is_some (if a then Some x else (if b then Some y else None)) ≡ false
no_bool true b x y h g = cc h
no_bool false true x y h g = cc g
no_bool false false x y h g = refl

-- a word that is neither `true` nor `false`
pub word_no_lit : (i : Ident) (k : Toks) → is_text true_text i.text ≡ false → is_text false_text i.text ≡ false → sees_lit (word i k) ≡ false
unfolding sees_lit
word_no_lit i k h g = no_bool _ _ _ _ h g

name_no_lit : (i : Ident) (k : Toks) → is_mod_word i.text ≡ true → sees_lit (word i k) ≡ false
unfolding is_keyword
name_no_lit i k h = word_no_lit i k (not_mod true_text i.text refl h) (not_mod false_text i.text refl h)

path_goes : (l : Toks) → Opens l → ends_range l ≡ false
unfolding ends_range is_done sees_mark sees_word
path_goes l (by_name {i = i} {k = k} h) = name_goes i k h
path_goes l (by_sep (is_mark (more_chars (last_char x)))) = refl
path_goes l (by_lt (is_mark (last_char x))) = refl

path_no_lit : (l : Toks) → Opens l → sees_lit l ≡ false
unfolding sees_lit
path_no_lit l (by_name {i = i} {k = k} h) = name_no_lit i k h
path_no_lit l (by_sep (is_mark (more_chars (last_char x)))) = refl
path_no_lit l (by_lt (is_mark (last_char x))) = refl

path_seen : (l : Toks) → Opens l → sees_bound_path l ≡ true
unfolding sees_bound_path sees_word sees_mark
path_seen l (by_name {i = i} {k = k} h) = ap (λ z. z || (false || false)) h
path_seen l (by_sep (is_mark (more_chars (last_char x)))) = refl
path_seen l (by_lt (is_mark (last_char x))) = refl

-- ---- the reads

module _ {X : Type 0} (supplied : Place → Reader X) (spells : Place → X → Toks → Type 0) (g : SuppliedMeets supplied spells) where
  pub block_met : (x : ExprConstOf (Attr X) X) (l k : Toks) (f : Option Span) (e : Span) (sc : Scope) → IsConstBlock spells x l k → Reads_to (const_block supplied) x l k f e sc
  unfolding const_block
  block_met x l k f e sc (a_const_block {w = w} {s = s} {x = y} {c = c} i j) =
      let a = word_complete {n = 6} w l (group Brace s c k) f e sc i in
      let z = content Brace s c k f a.last sc in
      let u = g.body z y j in
      record { last = s.closing; reads = link _ a.reads (link _ (link _ (reads_inside Brace groups.brace_name (supplied Block) y s c k u.0 f a.last sc u.1 (uses_none z u.0 refl u.2)) refl) refl) }

  pub lit_bound : (x : Lit) (l k : Toks) (f : Option Span) (e : Span) (sc : Scope) → IsLit x l k → Reads_to (bound supplied (type_names supplied)) (b.Lit (lit_of [] x)) l k f e sc
  unfolding bound
  lit_bound x l k f e sc i =
      let a = lit_complete x l k f e sc i in
      record { last = a.last; reads = chosen (sees_lit l) true _ _ (at l f e sc) _ (lit_seen x l k i) (link _ a.reads refl) }

  pub path_opens : (q : Option (QSelf (Attr X) (Expr X))) (p : Path (Attr X) (Expr X)) (l k : Toks) → IsPatPath spells clearly q p l k → Opens l
  path_opens q p l k (a_pat_path n i) = any_opens _ q p l k i.0 i.1

  -- before no `::`
  path_bound : (q : Option (QSelf (Attr X) (Expr X))) (p : Path (Attr X) (Expr X)) (l k : Toks) (f : Option Span) (e : Span) (sc : Scope) → IsPatPath spells clearly q p l k → token.sees_path_sep k ≡ false →
      Reads_to (bound supplied (type_names supplied)) (b.Path (path_pat_of [] q p)) l k f e sc
  unfolding bound
  path_bound q p l k f e sc i n =
      let o = path_opens q p l k i in
      let a = g.path q p l k f e sc i n in
      record { last = a.last; reads = chosen (sees_lit l) false _ _ (at l f e sc) _ (path_no_lit l o) (chosen (sees_bound_path l) true _ _ (at l f e sc) _ (path_seen l o) (link _ a.reads refl)) }

  pub const_bound : (x : ExprConstOf (Attr X) X) (l k : Toks) (f : Option Span) (e : Span) (sc : Scope) → IsConstBlock spells x l k → Reads_to (bound supplied (type_names supplied)) (b.Const x) l k f e sc
  unfolding bound
  const_bound x l k f e sc (a_const_block {w = w} {s = s} {x = y} {c = c} i j) =
      let a = block_met x l k f e sc (a_const_block i j) in
      let m = group Brace s c k in
      record {
        last = a.last;
        reads = chosen (sees_lit l) false _ _ (at l f e sc) _ (const_no_lit w l m i)
            (chosen (sees_bound_path l) false _ _ (at l f e sc) _ (const_no_path w l m i) (chosen (token.sees_const l) true _ _ (at l f e sc) _ (word_seen {n = 6} w l m i) (link _ a.reads refl)));
      }

  -- ---- ends

  end_goes : (x : PatRangeBound X) (l k : Toks) → IsEnd spells clearly x l k → ends_range l ≡ false
  end_goes x l k (a_literal_end {x = y} i) = lit_goes y l k i
  end_goes x l k (a_path_end {q = q} {p = p} i) = path_goes l (path_opens q p l k i)
  end_goes x l k (a_const_end (a_const_block {w = w} i j)) = const_goes w l _ i

  pub end_met : (x : PatRangeBound X) (l k : Toks) (f : Option Span) (e : Span) (sc : Scope) → IsEnd spells clearly x l k → token.sees_path_sep k ≡ false → Reads_to (bound supplied (type_names supplied)) x l k f e sc
  end_met x l k f e sc (a_literal_end {x = y} i) n = lit_bound y l k f e sc i
  end_met x l k f e sc (a_path_end {q = q} {p = p} i) n = path_bound q p l k f e sc i n
  end_met x l k f e sc (a_const_end {x = y} i) n = const_bound y l k f e sc i

  no_bound_met : (k : Toks) (f : Option Span) (e : Span) (sc : Scope) → ends_range k ≡ true → Reads_to (optional_bound supplied (type_names supplied)) None k k f e sc
  unfolding optional_bound
  no_bound_met k f e sc h = record { last = e; reads = chosen (ends_range k) true _ _ (at k f e sc) _ h refl }

  a_bound_met : (x : PatRangeBound X) (l k : Toks) (f : Option Span) (e : Span) (sc : Scope) → IsEnd spells clearly x l k → token.sees_path_sep k ≡ false → Reads_to (optional_bound supplied (type_names supplied)) (Some x) l k f e sc
  unfolding optional_bound
  a_bound_met x l k f e sc i n =
      let a = end_met x l k f e sc i n in
      record { last = a.last; reads = chosen (ends_range l) false _ _ (at l f e sc) _ (end_goes x l k i) (link _ a.reads refl) }

  -- ---- ranges

  -- what follows a start
  pub open_met : (x : PatRangeBound X) (d : token.DotDot) (m k : Toks) (f : Option Span) (e : Span) (sc : Scope) → IsMark true d m k → ends_range k ≡ true →
      Reads_to {A = Pat X} (range_after supplied (type_names supplied) x) (v.Range (pat_range_of [] (Some x) (limits.HalfOpen d) None)) m k f e sc
  unfolding range_after
  open_met x d m k f e sc i h =
      let a = old_limits_complete (limits.HalfOpen d) m k f e sc (new_limits (half_open i)) in
      let u = no_bound_met k f a.last sc h in
      record { last = u.last; reads = link _ a.reads (link _ u.reads refl) }

  some_end : (s : Option (PatRangeBound X)) (t : RangeLimits) (y : PatRangeBound X) (z : Stream) → ended {T = TypeTree (Attr X) (Expr X)} s t (Some y) z ≡ Ok (range s t (Some y), z)
  some_end s (limits.HalfOpen w) y z = refl
  some_end s (limits.Closed w) y z = refl

  pub both_met : (x y : PatRangeBound X) (t : RangeLimits) (m n k : Toks) (f : Option Span) (e : Span) (sc : Scope) → AreOldLimits true t m n → IsEnd spells clearly y n k → token.sees_path_sep k ≡ false →
      Reads_to {A = Pat X} (range_after supplied (type_names supplied) x) (v.Range (pat_range_of [] (Some x) t (Some y))) m k f e sc
  unfolding range_after
  both_met x y t m n k f e sc i j h =
      let a = old_limits_complete t m n f e sc i in
      let u = a_bound_met y n k f a.last sc j h in
      record { last = u.last; reads = link _ a.reads (link _ u.reads (some_end (Some x) t y (at k f u.last sc))) }

  -- without a start, and `..` alone
  pub start_met : (t : RangeLimits) (y : PatRangeBound X) (l m k : Toks) (f : Option Span) (e : Span) (sc : Scope) → AreLimits true t l m → IsEnd spells clearly y m k → token.sees_path_sep k ≡ false →
      Reads_to {A = Pat X} (read_half_open supplied (type_names supplied)) (v.Range (pat_range_of [] None t (Some y))) l k f e sc
  unfolding read_half_open
  start_met t y l m k f e sc i j h =
      let a = limits_complete t l m f e sc i in
      let u = a_bound_met y m k f a.last sc j h in
      record { last = u.last; reads = link _ a.reads (link _ u.reads (some_end None t y (at k f u.last sc))) }

  pub rest_met : (d : token.DotDot) (l k : Toks) (f : Option Span) (e : Span) (sc : Scope) → IsMark true d l k → ends_range k ≡ true → Reads_to {A = Pat X} (read_half_open supplied (type_names supplied)) (v.Rest (rest_of [] d)) l k f e sc
  unfolding read_half_open
  rest_met d l k f e sc i h =
      let a = limits_complete (limits.HalfOpen d) l k f e sc (half_open i) in
      let u = no_bound_met k f a.last sc h in
      record { last = u.last; reads = link _ a.reads (link _ u.reads refl) }

  -- ---- a bound, or the range that it begins

  -- by itself, where no `..` follows
  pub alone_met : (x : PatRangeBound X) (k : Toks) (f : Option Span) (e : Span) (sc : Scope) → token.sees_dot_dot k ≡ false → Reads_to {A = Pat X} (after_bound supplied (type_names supplied) x) (bound_as_pat x) k k f e sc
  unfolding after_bound
  alone_met x k f e sc h = record { last = e; reads = chosen (token.sees_dot_dot k) false _ _ (at k f e sc) _ h refl }

  pub after_met : (x : PatRangeBound X) (y : Pat X) (m k : Toks) (f : Option Span) (e : Span) (sc : Scope) → token.sees_dot_dot m ≡ true → Reads_to {A = Pat X} (range_after supplied (type_names supplied) x) y m k f e sc → Reads_to {A = Pat X} (after_bound supplied (type_names supplied) x) y m k f e sc
  unfolding after_bound
  after_met x y m k f e sc h u = record { last = u.last; reads = chosen (token.sees_dot_dot m) true _ _ (at m f e sc) _ h u.reads }

  pub bound_then : (x : PatRangeBound X) (y : Pat X) (l m k : Toks) (f : Option Span) (e : Span) (sc : Scope) (a : Reads_to (bound supplied (type_names supplied)) x l m f e sc) → Reads_to {A = Pat X} (after_bound supplied (type_names supplied) x) y m k f a.last sc → Reads_to (bound_or_range supplied (type_names supplied)) y l k f e sc
  unfolding bound_or_range
  bound_then x y l m k f e sc a u = record { last = u.last; reads = link _ a.reads u.reads }
