-- A single pattern that a list spells clearly is what its read answers, over the reads of the patterns within, where nothing follows that a pattern goes on with.
use Rattle.std.proofs.Common.{◌≡◌, ℕ, ◌≤◌, Bool, true, false, ◌||◌, [], ◌∷◌, Option, None, refl, arith}
use Rattle.std.proofs.lemmas.Bool.{or_from}
use Rattle.syn_pat.proofs.pat_laws.words.Tokens.{Span, Brace, Parenthesis, Reader, sees_group, sees_mark, IsWord, half_open, new_limits, Scope, Toks, mark, group, TokenStream, punct}
use Rattle.syn_pat.proofs.pat_laws.words.Paths.{Macro, Place, IsCall, a_macro, lone_ident}
use Rattle.syn_pat.proofs.pat_laws.words.Forms.{ahead}
use Rattle.syn_pat.proofs.pat_laws.words.Attributes.{expr_macro_of, Expr}
use Rattle.syn_pat.proofs.pat_laws.words.Types.{is_segment_word, Manner, clearly, Holds, IsOptional, absent, present, Relation, Path, QSelf}
use Rattle.syn_pat.proofs.pat_laws.words.Patterns.{PatPlace, Single, a_box, IsBinding, a_binding, IsSubpat, a_subpat, IsSingle, a_binding_pat, a_wild, a_rest, a_literal, a_const, a_call, a_path, a_range, a_reference, a_mutable_reference, a_paren, a_tuple, a_slice, a_tuple_struct, a_struct, a_verbatim, Pat, PatIdent, PatRange, PatRangeBound, path_pat_of, Readers, after_path, begins_path, box_pat, path_pat, range_after, single, type_names, a_const_block, IsPatPath, a_pat_path, IsRange, without_end, without_start, with_both, IsStart, a_literal_start, a_path_start, a_const_start, is_binding, is_self, lone_word}
use Rattle.token_core.specs.declared.range.RangeLimits.TheVariants as limits
use Rattle.token_core.specs.Tokens as token
use Rattle.token_core.proofs.MarkSpells.{mark_seen}
use Rattle.token_core.proofs.Steps.{Reads_to, link}
use Rattle.token_core.proofs.Took.{at}
use Rattle.token_core.proofs.WordSpells.{word_complete}
use Rattle.syn_attr.specs.attr.Attrs.{Attribute as Attr}
use Rattle.syn_ty.proofs.ty_laws.complete.Calls.{as_path}
use Rattle.syn_ty.proofs.ty_laws.complete.Capture.{since_met}
use Rattle.syn_ty.proofs.ty_laws.complete.Leaves.{later}
use Rattle.syn_ty.proofs.ty_laws.complete.Less.{word_takes}
use Rattle.syn_ty.proofs.ty_laws.complete.Tokens.{other_mark}
use Rattle.syn_pat.specs.declared.pat.PatOf.TheVariants as v
use Rattle.syn_pat.specs.declared.pat.PatRangeBoundOf.TheVariants as b
use Rattle.syn_pat.proofs.pat_laws.complete.Bindings.{binding_met, mutable_reference_met, reference_met, wild_met}
use Rattle.syn_pat.proofs.pat_laws.complete.Calls.{bang_no_sep, bound_goes, call_begins, call_goes, call_is_path, group_no_sep, struct_goes, tuple_struct_goes}
use Rattle.syn_pat.proofs.pat_laws.complete.Fronts.{mark_apart}
use Rattle.syn_pat.proofs.pat_laws.complete.Groups.{paren_met, slice_met, tuple_met}
use Rattle.syn_pat.proofs.pat_laws.complete.Names.{Behind, head_starts, unbound_starts}
use Rattle.syn_pat.proofs.pat_laws.complete.Ranges.{after_met, alone_met, both_met, bound_then, const_bound, dots_seen, lit_bound, open_met, rest_met, start_met}
use Rattle.syn_pat.proofs.pat_laws.complete.Turns.{and_turn, binding_turn, box_turn, bracket_turn, const_turn, limits_turn, lit_turn, paren_turn, path_turn, wild_turn}
use Rattle.syn_pat.proofs.pat_laws.complete.Within.{Ends, Meets, SuppliedMeets, single_in}
use Rattle.syn_pat.proofs.pat_laws.sound.Within.{dots_no_sep}

-- ---- what stands behind a first word

-- nothing that makes a path of it
behind_none : (k : Toks) → token.sees_path_sep k ≡ false → token.sees_bang k ≡ false → sees_group Brace k ≡ false → sees_group Parenthesis k ≡ false → token.sees_dot_dot k ≡ false → Behind k ≡ false
behind_none k a b c d e = or_from _ _ a (or_from _ _ b (or_from _ _ c (or_from _ _ d e)))

ends_behind : (k : Toks) → Ends k → Behind k ≡ false
ends_behind k o = behind_none k o.no_sep o.no_bang o.no_brace o.no_paren o.no_dots

at_behind : (k : Toks) → token.sees_at k ≡ true → Behind k ≡ false
at_behind k h =
    behind_none k (other_mark 64 58 [] (58 ∷ []) k h refl) (other_mark 64 33 [] [] k h refl) (mark_apart 64 [] Brace k h) (mark_apart 64 [] Parenthesis k h) (other_mark 64 46 [] (46 ∷ []) k h refl)

-- or what does
brace_behind : (s : _) (c k : Toks) → Behind (group Brace s c k) ≡ true
unfolding sees_mark sees_group
brace_behind s c k = refl

paren_behind : (s : _) (c k : Toks) → Behind (group Parenthesis s c k) ≡ true
unfolding sees_mark sees_group
paren_behind s c k = refl

last_of : (a b c d e : Bool) → e ≡ true → a || (b || (c || (d || e))) ≡ true
last_of true b c d e h = refl
last_of false true c d e h = refl
last_of false false true d e h = refl
last_of false false false true e h = refl
last_of false false false false e h = h

dots_behind : (k : Toks) → token.sees_dot_dot k ≡ true → Behind k ≡ true
dots_behind k h = last_of (token.sees_path_sep k) (token.sees_bang k) (sees_group Brace k) (sees_group Parenthesis k) (token.sees_dot_dot k) h

module _ {X : Type 0} (supplied : Place → Reader X) (spells : Place → X → Toks → Type 0) (g : SuppliedMeets supplied spells) (r : Readers X) (part : Manner → PatPlace → Relation (Pat X)) (limit : ℕ) (meets : Meets r part limit) where
  abbrev Q : Type 0
  Q = Option (QSelf (Attr X) (Expr X))

  abbrev P : Type 0
  P = Path (Attr X) (Expr X)

  abbrev Reads : Pat X → Toks → Toks → Option Span → Span → Scope → Type 0
  Reads y l k f e sc = Reads_to (single supplied (type_names supplied) r) y l k f e sc

  -- ---- bindings

  sub_behind : (x : Option (token.At × Pat X)) (n k : Toks) → IsOptional (IsSubpat spells part clearly) x n k → Ends k → Behind n ≡ false
  sub_behind x n k absent o = ends_behind n o
  sub_behind x n k (present (a_subpat {a = a} {m = m} i j)) o = at_behind n (mark_seen true {n = 6} {k = 1} a n m i)

  binding_single : (x : PatIdent X) (l k : Toks) (f : Option Span) (e : Span) (sc : Scope) → ahead (at l f e sc) ≤ limit → IsBinding spells part clearly x l k → Ends k → Reads (v.Ident x) l k f e sc
  binding_single x l k f e sc lim (a_binding {f = o} {u = u} {i = i} {s = s} {m = m} {n = n} p q h j) z =
      binding_turn supplied r o u i x l m n k f e sc p q h (sub_behind s n k j z) (binding_met spells r part limit meets x l k f e sc lim (a_binding p q h j) z)

  -- ---- held verbatim: `box` and a single pattern

  pub verbatim_single : (w : token.Box) (x : Pat X) (t : TokenStream) (l m k : Toks) (f : Option Span) (e : Span) (sc : Scope) → ahead (at l f e sc) ≤ limit → IsWord w l m → part clearly Single x m k → Holds t l k → Ends k → Reads (v.Verbatim t) l k f e sc
  unfolding box_pat
  verbatim_single w x t l m k f e sc lim i j h z =
      let a = word_complete {n = 5} w l m f e sc i in
      let u = meets.pat Single x m k f a.last sc (later l m f f e a.last sc limit (word_takes w l m i).lighter lim) j (single_in k z) in
      box_turn supplied r w (v.Verbatim t) l m k f e sc i (record { last = u.last; reads = link _ a.reads (link _ u.reads (link _ (since_met t l k f f e u.last sc h) refl)) })

  -- ---- what begins with a path

  -- the path, and what is read after it
  path_then : (q : Q) (p : P) (y : Pat X) (l m k : Toks) (f : Option Span) (e : Span) (sc : Scope) → IsPatPath spells clearly q p l m → token.sees_path_sep m ≡ false → begins_path l ≡ true → ((d : Span) → Reads_to (after_path supplied (type_names supplied) r q p) y m k f d sc) →
      Reads y l k f e sc
  unfolding path_pat
  path_then q p y l m k f e sc i n h u =
      let a = g.path q p l m f e sc i n in
      let w = u a.last in
      path_turn supplied r y l k f e sc h (record { last = w.last; reads = link _ a.reads w.reads })

  unbound : (q : Q) (p : P) (l k : Toks) → IsPatPath spells clearly q p l k → is_binding (lone_word q p) ≡ false → begins_path l ≡ true
  unbound q p l k (a_pat_path n i) h = unbound_starts _ q p l k i.0 i.1 h

  head : (q : Q) (p : P) (l k : Toks) → IsPatPath spells clearly q p l k → is_self (lone_word q p) ≡ false → Behind k ≡ true → begins_path l ≡ true
  head q p l k (a_pat_path n i) h o = head_starts _ q p l k i.0 i.1 h o

  -- less is left after the path
  after : (q : Q) (p : P) (l m : Toks) (f : Option Span) (e d : Span) (sc : Scope) → ahead (at l f e sc) ≤ limit → IsPatPath spells clearly q p l m → ahead (at m f d sc) ≤ limit
  after q p l m f e d sc lim i = let h = later l m f f e d sc limit (g.path_less q p l m i).lighter lim in omega (arith, h)

  call_single : (x : Macro) (l k : Toks) (f : Option Span) (e : Span) (sc : Scope) → IsCall true is_segment_word x l k → token.sees_try l ≡ false → is_self (lone_ident (λ z. true) x.path) ≡ false → Reads (v.Macro (expr_macro_of [] x)) l k f e sc
  call_single x l k f e sc (a_macro {p = p} {a = a} {j = j} {e = w} {d = d} {s = s} {c = c} {tokens = tokens} i z u h) t n =
      let m = mark (punct 33 j a) (group d s c k) in
      path_then None (as_path (Attr X) (Expr X) p) (v.Macro (expr_macro_of [] x)) l m k f e sc (call_is_path spells p l m i t) (bang_no_sep j a (group d s c k)) (call_begins p l j a (group d s c k) i t n)
      (λ y. call_goes supplied spells g r part limit meets p a j w d s c k tokens f y sc u h)

  -- the path alone
  alone_single : (q : Q) (p : P) (l k : Toks) (f : Option Span) (e : Span) (sc : Scope) → IsPatPath spells clearly q p l k → is_binding (lone_word q p) ≡ false → Ends k → Reads (v.Path (path_pat_of [] q p)) l k f e sc
  alone_single q p l k f e sc i h o =
      path_then q p (v.Path (path_pat_of [] q p)) l k k f e sc i o.no_sep (unbound q p l k i h)
      (λ d. bound_goes supplied spells g r part limit meets q p (v.Path (path_pat_of [] q p)) k k f d sc o.no_bang o.no_brace o.no_paren (alone_met supplied spells g (b.Path (path_pat_of [] q p)) k f d sc o.no_dots))

  -- ---- ranges

  -- a start, and the range that it begins
  start_single : (x : PatRangeBound X) (y : Pat X) (l m k : Toks) (f : Option Span) (e : Span) (sc : Scope) → IsStart spells clearly x l m → token.sees_dot_dot m ≡ true → ((d : Span) → Reads_to (range_after supplied (type_names supplied) x) y m k f d sc) → Reads y l k f e sc
  start_single x y l m k f e sc (a_literal_start {x = z} i) h u =
      let a = lit_bound supplied spells g z l m f e sc i in
      lit_turn supplied r z y l m k f e sc i (bound_then supplied spells g x y l m k f e sc a (after_met supplied spells g x y m k f a.last sc h (u a.last)))
  start_single x y l m k f e sc (a_const_start {x = z} (a_const_block {w = w} {s = s} {c = c} i j)) h u =
      let a = const_bound supplied spells g z l m f e sc (a_const_block i j) in
      const_turn supplied r w y l (group Brace s c m) k f e sc i (bound_then supplied spells g x y l m k f e sc a (after_met supplied spells g x y m k f a.last sc h (u a.last)))
  start_single x y l m k f e sc (a_path_start {q = q} {p = p} i) h u =
      path_then q p y l m k f e sc i.0 (dots_no_sep m h) (head q p l m i.0 i.1 (dots_behind m h))
      (λ d. bound_goes supplied spells g r part limit meets q p y m k f d sc (other_mark 46 33 (46 ∷ []) [] m h refl) (mark_apart 46 (46 ∷ []) Brace m h) (mark_apart 46 (46 ∷ []) Parenthesis m h) (after_met supplied spells g x y m k f d sc h (u d)))

  range_single : (x : PatRange X) (l k : Toks) (f : Option Span) (e : Span) (sc : Scope) → IsRange spells clearly x l k → Ends k → Reads (v.Range x) l k f e sc
  range_single x l k f e sc (without_end {x = y} {d = d} {m = m} i j) o =
      start_single y (v.Range x) l m k f e sc i (dots_seen true (limits.HalfOpen d) m k (new_limits (half_open j))) (λ z. open_met supplied spells g y d m k f z sc j o.over)
  range_single x l k f e sc (without_start {t = t} {y = y} {m = m} i j) o = limits_turn supplied r (v.Range x) t l m k f e sc i (start_met supplied spells g t y l m k f e sc i j o.no_sep)
  range_single x l k f e sc (with_both {x = y} {t = t} {y = z} {m = m} {n = n} i j h) o =
      start_single y (v.Range x) l m k f e sc i (dots_seen true t m n j) (λ d. both_met supplied spells g y z t m n k f d sc j h o.no_sep)

  -- ---- one turn of a single pattern

  pub single_met : (x : Pat X) (l k : Toks) (f : Option Span) (e : Span) (sc : Scope) → ahead (at l f e sc) ≤ limit → IsSingle spells part clearly x l k → Ends k → Reads x l k f e sc
  single_met x l k f e sc lim (a_binding_pat {x = y} i) o = binding_single y l k f e sc lim i o
  single_met x l k f e sc lim (a_wild {w = w} i) o = wild_turn supplied r w l k f e sc i (wild_met w l k f e sc i)
  single_met x l k f e sc lim (a_rest {d = d} i) o = limits_turn supplied r x (limits.HalfOpen d) l k k f e sc (half_open i) (rest_met supplied spells g d l k f e sc i o.over)
  single_met x l k f e sc lim (a_literal {x = y} i) o =
      let a = lit_bound supplied spells g y l k f e sc i in
      lit_turn supplied r y x l k k f e sc i (bound_then supplied spells g _ x l k k f e sc a (alone_met supplied spells g _ k f a.last sc o.no_dots))
  single_met x l k f e sc lim (a_const {x = y} (a_const_block {w = w} {s = s} {c = c} i j)) o =
      let a = const_bound supplied spells g y l k f e sc (a_const_block i j) in
      const_turn supplied r w x l (group Brace s c k) k f e sc i (bound_then supplied spells g _ x l k k f e sc a (alone_met supplied spells g _ k f a.last sc o.no_dots))
  single_met x l k f e sc lim (a_call {x = y} i) o = call_single y l k f e sc i.0.0 i.0.1 i.1
  single_met x l k f e sc lim (a_path {q = q} {p = p} i h) o = alone_single q p l k f e sc i h o
  single_met x l k f e sc lim (a_range {x = y} i) o = range_single y l k f e sc i o
  single_met x l k f e sc lim (a_reference {a = a} {x = y} {m = m} i h j) o = and_turn supplied r a _ l m k f e sc i (reference_met spells r part limit meets a y l m k f e sc lim i h j o)
  single_met x l k f e sc lim (a_mutable_reference {a = a} {u = u} {x = y} {m = m} {n = n} i h j) o = and_turn supplied r a _ l m k f e sc i (mutable_reference_met spells r part limit meets a u y l m n k f e sc lim i h j o)
  single_met x l k f e sc lim (a_paren {s = s} {x = y} {c = c} i h) o = paren_turn supplied r x s c k f e sc (paren_met spells r part limit meets y s c k f e sc lim i h)
  single_met x l k f e sc lim (a_tuple {s = s} {xs = xs} {cs = cs} {c = c} i h) o = paren_turn supplied r x s c k f e sc (tuple_met spells r part limit meets xs cs s c k f e sc lim i h)
  single_met x l k f e sc lim (a_slice {s = s} {xs = xs} {cs = cs} {c = c} i) o = bracket_turn supplied r _ s c k f e sc (slice_met spells r part limit meets xs cs s c k f e sc lim i)
  single_met x l k f e sc lim (a_tuple_struct {q = q} {p = p} {s = s} {xs = xs} {cs = cs} {c = c} i j) o =
      let m = group Parenthesis s c k in
      path_then q p x l m k f e sc i.0 (group_no_sep Parenthesis s c k) (head q p l m i.0 i.1 (paren_behind s c k)) (λ d. tuple_struct_goes supplied spells g r part limit meets q p xs cs s c k f d sc (after q p l m f e d sc lim i.0) j)
  single_met x l k f e sc lim (a_struct {q = q} {p = p} {s = s} {w = w} {o = z} {c = c} i j) o =
      let m = group Brace s c k in
      path_then q p x l m k f e sc i.0 (group_no_sep Brace s c k) (head q p l m i.0 i.1 (brace_behind s c k)) (λ d. struct_goes supplied spells g r part limit meets q p w z s c k f d sc (after q p l m f e d sc lim i.0) j)
  single_met x l k f e sc lim (a_verbatim {t = t} (a_box {b = w} {x = y} {m = m} i j, h)) o = verbatim_single w y t l m k f e sc lim i j h o
