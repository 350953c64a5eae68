-- A type that begins with a path, perhaps after a binder, goes the way of what follows the path: it is a macro call, a trait object, or the path.
use Rattle.std.proofs.Common.{◌≡◌, ℕ, ◌≤◌, Bool, true, false, ◌||◌, List, Option, is_some, refl, ap}
use Rattle.syn_ty.proofs.ty_laws.words.Tokens.{Span, Parenthesis, Ident, sees_invisible, AreListed, Nowhere, none_left, last_value, value_and_mark, Item, Reader, is_text, sees_group, sees_mark, sees_word, IsMark, is_mark, last_char, more_chars, is_word, Scope, Bytes, Toks, word}
use Rattle.syn_ty.proofs.ty_laws.words.Paths.{AsWritten, sees_sep, ReadValues}
use Rattle.syn_ty.proofs.ty_laws.words.Forms.{Binder, TypePlace, ahead, is_bare_word, is_named_word, allows_plus, position}
use Rattle.syn_ty.proofs.ty_laws.words.Types.{IsFor, binder, a_binder, Sep, is_segment_word, IsSegment, a_word, a_word_with_arguments, IsPath, a_path, IsQualified, by_type, by_type_as_path, IsAnyPath, unqualified, qualified, Manner, clearly, Parts, Readers, begins_named, sees_bindable, sees_builtin, sees_fn_ptr, sees_unsafe_binder, IsOptional, absent, present, BoundLifetimes, Path, PathSegment, QSelf, TypeFnPtr, TypeTree}
use Rattle.token_core.specs.Tokens as token
use Rattle.token_core.proofs.Steps.{Reads_to, chosen, link}
use Rattle.token_core.proofs.Took.{at}
use Rattle.syn_ty.specs.declared.ty.TypeOf.TheVariants as v
use Rattle.syn_ty.specs.ty.Reading as reading
use Rattle.syn_ty.proofs.ty_laws.complete.Less.{less_no, listed_no, mark_no, no_no, word_takes}
use Rattle.syn_ty.proofs.ty_laws.complete.Within.{Firsts, Less, PathStops, PathsMeet}
use Rattle.syn_ty.proofs.ty_laws.complete.Tokens.{NameBegins, PathBegins, Turn, lt_begins, mod_segment, no_pound_arguments, sep_begins, word_begins, word_no_lt}

-- ---- what a path begins with

-- and what follows its first token is `#` only where that follows the path
pub record PathFirst (l k : Toks) : Type 0 where
  pub after : Toks
  pub begins : PathBegins l after
  pub pound : token.sees_pound k ≡ false → token.sees_pound after ≡ false

named_word : (t : Bytes) → is_named_word t ≡ true → is_segment_word t ≡ true
named_word t h = ap (λ b. b || is_bare_word t) h

sep_no_pound : (c : Sep) (l r : Toks) → IsMark true c l r → token.sees_pound l ≡ false
unfolding sees_mark
sep_no_pound c l r (is_mark (more_chars (last_char x))) = refl

try_text : (i : Ident) (k : Toks) → token.sees_try (word i k) ≡ false → is_text token.try_text i.text ≡ false
unfolding sees_word
try_text i k h = h

module _ {A E : Type 0} (part : Manner → Parts A E) (firsts : Firsts part) where
  abbrev Segment : Type 0
  Segment = PathSegment A E

  abbrev Is : Segment → Toks → Toks → Type 0
  Is = IsSegment part clearly AsWritten

  segment_first : (x : Segment) (l k : Toks) → Is x l k → token.sees_try l ≡ false → PathFirst l k
  segment_first x l k (a_word {i = i} h) n = record { after = k; begins = word_begins i k (mod_segment i.text h (try_text i k n)); pound = λ e. e }
  segment_first x l k (a_word_with_arguments {i = i} {x = y} {l = m} h s j) n =
      record { after = m; begins = word_begins i m (mod_segment i.text (named_word i.text h) (try_text i m n)); pound = λ e. no_pound_arguments m (firsts.arguments y m k j).0 }

  -- before what is no `#`
  first_on : (l m k : Toks) → PathFirst l m → token.sees_pound m ≡ false → PathFirst l k
  first_on l m k b n = record { after = b.after; begins = b.begins; pound = λ e. b.pound n }

  segments_first : (b : Bool) (xs : List Segment) (cs : List Sep) (l k : Toks) → AreListed (λ (_ : Bool). Is) (IsMark true) Nowhere b xs cs l k → token.sees_try l ≡ false → PathFirst l k
  segments_first b xs cs l k (none_left h) n = absurd h
  segments_first b xs cs l k (last_value {x = x} i) n = segment_first x l k i n
  segments_first b xs cs l k (value_and_mark {x = x} {p = c} {m = m} {k = j} i o q) n = first_on l m k (segment_first x l m i n) (sep_no_pound c m j o)

  pub path_first : (p : Path A E) (l k : Toks) → IsPath part clearly AsWritten p l k → token.sees_try l ≡ false → PathFirst l k
  path_first p l k (a_path {xs = xs} {cs = cs} absent j) n = segments_first true xs cs l k j n
  path_first p l k (a_path {m = m} (present {a = c} i) j) n = record { after = k; begins = sep_begins c l m k i; pound = λ e. e }

  qualified_first : (q : QSelf A E) (p : Path A E) (l k : Toks) → IsQualified part clearly AsWritten q p l k → PathFirst l k
  qualified_first q p l k (by_type {o = o} {m = m} i j g c s) = record { after = k; begins = lt_begins o l m k i; pound = λ e. e }
  qualified_first q p l k (by_type_as_path {o = o} {m = m} i j e w u g c s) = record { after = k; begins = lt_begins o l m k i; pound = λ n. n }

  pub any_path_first : (o : Option (QSelf A E)) (p : Path A E) (l k : Toks) → IsAnyPath part clearly AsWritten o p l k → token.sees_try l ≡ false → PathFirst l k
  any_path_first o p l k (unqualified i) n = path_first p l k i n
  any_path_first o p l k (qualified {q = q} i) n = qualified_first q p l k i

  -- no `<` begins a path that no type qualifies
  segments_no_lt : (b : Bool) (xs : List Segment) (cs : List Sep) (l k : Toks) → AreListed (λ (_ : Bool). Is) (IsMark true) Nowhere b xs cs l k → token.sees_lt l ≡ false
  segments_no_lt b xs cs l k (none_left h) = absurd h
  segments_no_lt b xs cs l k (last_value (a_word {i = i} h)) = word_no_lt i k
  segments_no_lt b xs cs l k (last_value (a_word_with_arguments {i = i} {l = m} h s j)) = word_no_lt i m
  segments_no_lt b xs cs l k (value_and_mark {m = m} (a_word {i = i} h) o q) = word_no_lt i m
  segments_no_lt b xs cs l k (value_and_mark (a_word_with_arguments {i = i} {l = m} h s j) o q) = word_no_lt i m

  sep_no_lt : (c : Sep) (l r : Toks) → IsMark true c l r → token.sees_lt l ≡ false
  unfolding sees_mark
  sep_no_lt c l r (is_mark (more_chars (last_char x))) = refl

  pub path_no_lt : (p : Path A E) (l k : Toks) → IsPath part clearly AsWritten p l k → token.sees_lt l ≡ false
  path_no_lt p l k (a_path {xs = xs} {cs = cs} absent j) = segments_no_lt true xs cs l k j
  path_no_lt p l k (a_path {m = m} (present {a = c} i) j) = sep_no_lt c l m i

  -- ---- fewer tokens are left after a binder

  pub for_less : (b : BoundLifetimes A E) (l k : Toks) → IsFor part clearly b l k → Less l k
  for_less b l k (a_binder {f = w} {o = o} {xs = xs} {cs = cs} {c = g} {m = m} {n = n} {k = j} h i q z) =
      less_no (word_takes w l m h) (no_no (mark_no o m n i) (no_no (listed_no (λ d x t u y. (firsts.param Binder x t u y).1) (λ d t u y. mark_no d t u y) true xs cs n j q) (mark_no g j k z)))

  -- a binder begins with `for`
  for_seen : (b : BoundLifetimes A E) (l k : Toks) → IsFor part clearly b l k → (sees_invisible l ≡ false) × (token.sees_for l ≡ true)
  unfolding sees_invisible sees_word
  for_seen b l k (a_binder is_word i q z) = (refl, refl)

-- ---- the reads

module _ {A E : Type 0} (attrs : Reader (List A)) (values : ReadValues E) (r : Readers A E) (part : Manner → Parts A E) (limit : ℕ) (firsts : Firsts part)
    (binder_met : (b : BoundLifetimes A E) (l k : Toks) (f : Option Span) (e : Span) (sc : Scope) → ahead (at l f e sc) ≤ limit → IsFor part clearly b l k → Reads_to (binder r) b l k f e sc) (place : TypePlace) where
  abbrev Tree : Type 0
  Tree = TypeTree A E

  abbrev For : Type 0
  For = Option (BoundLifetimes A E)

  abbrev plus : Bool
  plus = allows_plus place

  abbrev Named : List Item → For → Tree → Toks → Toks → Option Span → Span → Scope → Type 0
  Named from o x m k f e sc = Reads_to (reading.named_type attrs values r place from o) x m k f e sc

  -- from where the type begins
  abbrev NamedFrom : For → Tree → Toks → Toks → Toks → Option Span → Span → Scope → Type 0
  NamedFrom o x l m k f e sc = (d : Span) → Named (position (at l f e sc)) o x m k f d sc

  pub perhaps_bound : (x : Tree) (o : For) (l m k : Toks) (f : Option Span) (e : Span) (sc : Scope) → ahead (at l f e sc) ≤ limit → IsOptional (IsFor part clearly) o l m → NameBegins m →
      (is_some o ≡ true → sees_bindable m ≡ true) → NamedFrom o x l m k f e sc → Turn attrs values r place x l k f e sc
  unfolding reading.type_step reading.unbound_type reading.bound_type
  perhaps_bound x o l m k f e sc lim absent b g h =
      let q = h e in
      record {
        last = q.last;
        reads = chosen (sees_invisible l) false _ _ (at l f e sc) _ b.no_invisible (chosen (token.sees_for l) false _ _ (at l f e sc) _ b.no_for
            (chosen (sees_group Parenthesis l) false _ _ (at l f e sc) _ b.no_paren (chosen (begins_named l) true _ _ (at l f e sc) _ b.named q.reads)));
      }
  perhaps_bound x o l m k f e sc lim (present {a = y} i) b g h =
      let s = for_seen part firsts y l m i in
      let w = binder_met y l m f e sc lim i in
      let q = h w.last in
      record {
        last = q.last;
        reads = chosen (sees_invisible l) false _ _ (at l f e sc) _ s.0 (chosen (token.sees_for l) true _ _ (at l f e sc) _ s.1
            (link _ w.reads (chosen (sees_bindable m) true _ _ (at m f w.last sc) _ (g refl) q.reads)));
      }

  -- ---- what the tests see

  pub by_fn : (from : List Item) (o : For) (y : TypeFnPtr A E) (m k : Toks) (f : Option Span) (e : Span) (sc : Scope) → sees_unsafe_binder m ≡ false → sees_fn_ptr m ≡ true →
      Reads_to (reading.fn_ptr_after attrs values r o) y m k f e sc → Named from o (v.FnPtr y) m k f e sc
  unfolding reading.named_type
  by_fn from o y m k f e sc g h q = record { last = q.last; reads = chosen (sees_unsafe_binder m) false _ _ (at m f e sc) _ g (chosen (sees_fn_ptr m) true _ _ (at m f e sc) _ h (link _ q.reads refl)) }

  pub by_unsafe : (from : List Item) (o : For) (x : Tree) (m k : Toks) (f : Option Span) (e : Span) (sc : Scope) → sees_unsafe_binder m ≡ true → Reads_to (reading.unsafe_binder r from place) x m k f e sc → Named from o x m k f e sc
  unfolding reading.named_type
  by_unsafe from o x m k f e sc g q = record { last = q.last; reads = chosen (sees_unsafe_binder m) true _ _ (at m f e sc) _ g q.reads }

  pub by_builtin : (from : List Item) (o : For) (x : Tree) (m n k : Toks) (f : Option Span) (e : Span) (sc : Scope) → PathBegins m n → sees_builtin m ≡ true → Reads_to (reading.builtin_type from) x m k f e sc → Named from o x m k f e sc
  unfolding reading.named_type
  by_builtin from o x m n k f e sc b g q = record {
    last = q.last;
    reads = chosen (sees_unsafe_binder m) false _ _ (at m f e sc) _ b.no_unsafe (chosen (sees_fn_ptr m) false _ _ (at m f e sc) _ b.no_fn (chosen (sees_builtin m) true _ _ (at m f e sc) _ g q.reads));
  }

  module _ (paths : PathsMeet r part limit) where
    -- what follows a path goes on with no path
    pub by_path : (from : List Item) (o : For) (q : Option (QSelf A E)) (p : Path A E) (x : Tree) (m n k : Toks) (f : Option Span) (e : Span) (sc : Scope) → ahead (at m f e sc) ≤ limit → PathFirst m n → token.sees_pound n ≡ false →
        IsAnyPath part clearly AsWritten q p m n → PathStops AsWritten n → (is_some q ≡ true → sees_sep n ≡ false) → ((d : Span) → Reads_to (reading.path_or_object r plus o (q, p)) x n k f d sc) → Named from o x m k f e sc
    unfolding reading.named_type
    by_path from o q p x m n k f e sc lim b np i stops no_sep goes =
        let w = paths.any AsWritten q p m n f e sc lim i stops no_sep in
        let u = goes w.last in
        record {
          last = u.last;
          reads = chosen (sees_unsafe_binder m) false _ _ (at m f e sc) _ b.begins.no_unsafe (chosen (sees_fn_ptr m) false _ _ (at m f e sc) _ b.begins.no_fn
              (chosen (sees_builtin m) false _ _ (at m f e sc) _ (b.begins.no_builtin (b.pound np)) (link _ w.reads u.reads)));
        }
