-- A path that a list spells clearly, in the style of types or of expressions, is what its read answers, over the reads of the arguments that its segments hold.
use Rattle.std.proofs.Common.{◌≡◌, ℕ, ◌<◌, ◌≤◌, ◌==◌, Bool, true, false, ◌||◌, if◌then◌else◌, List, Option, None, Ok, Err, refl, sym, ◌∙◌, ap, arith}
use Rattle.std.proofs.lemmas.Bool.{true≢false, and_left, eqb-true, or_from}
use Rattle.std.proofs.lemmas.Slice.Eq.{bytes_eq-Decides}
use Rattle.syn_ty.proofs.ty_laws.words.Tokens.{Span, Ident, Punct, is_keyword, AreListed, Nowhere, none_left, last_value, value_and_mark, never, after_one, any_text, expected, ident_name, is_text, next_word, read_word, sees_group, sees_mark, sees_word, none, IsMark, is_mark, last_char, more_chars, Scope, Bytes, Toks, done, word, mark, lit, group, enter, leave}
use Rattle.syn_ty.proofs.ty_laws.words.Paths.{PathStyle, AsWritten, Expr, segment_of, sees_sep, sep}
use Rattle.syn_ty.proofs.ty_laws.words.Forms.{ahead, goes_on, is_bare_word, is_named_word, sees_arguments, sees_turbofish}
use Rattle.syn_ty.proofs.ty_laws.words.Types.{Sep, no_arguments, Styled, IsSegment, a_word, a_word_with_arguments, AreSegments, IsPath, a_path, Manner, clearly, Parts, Readers, some_arguments, IsOptional, absent, present, Path, PathSegment}
use Rattle.token_core.specs.Tokens as token
use Rattle.token_core.proofs.MarkSpells.{mark_seen}
use Rattle.token_core.proofs.Steps.{Reads_to, chosen, link}
use Rattle.token_core.proofs.Took.{at, seen_word}
use Rattle.token_core.proofs.Unseen.{no_mark-other}
use Rattle.syn_path.specs.path.Reading.{leading}
use Rattle.syn_forms.specs.paths.Reading as paths
use Rattle.syn_forms.proofs.lists_laws.Complete.{listed_here}
use Rattle.syn_forms.proofs.nested_laws.Ahead.{weight}
use Rattle.syn_ty.specs.path.Reading as reads
use Rattle.syn_ty.proofs.ty_laws.complete.Angles.{no_further, optional_sep_light, sep_less, sep_reads}
use Rattle.syn_ty.proofs.ty_laws.complete.Leaves.{later}
use Rattle.syn_ty.proofs.ty_laws.complete.Within.{Firsts, Less, Meets, PathStops}

-- ---- one of two holds, and the other does not

or_first : (b c : Bool) → c ≡ false → (b || c) ≡ true → b ≡ true
or_first true c k h = refl
or_first false c k h = absurd (true≢false (sym h ∙ k))

or_second : (b c : Bool) → b ≡ false → (b || c) ≡ true → c ≡ true
or_second true c k h = absurd (true≢false k)
or_second false c k h = h

-- ---- words

-- a word that is another than w
apart_at : (w t : Bytes) (b : Bool) → is_text w t ≡ b → is_named_word w ≡ false → is_named_word t ≡ true → is_text w t ≡ false
apart_at w t true h k n = absurd (true≢false (sym n ∙ ap is_named_word ((bytes_eq-Decides t w).0 h) ∙ k))
apart_at w t false h k n = h

-- a word that may have arguments is none of those that have none
named_not_bare : (t : Bytes) → is_named_word t ≡ true → is_bare_word t ≡ false
unfolding is_keyword
named_not_bare t n =
    or_from _ _ (apart_at token.super_text t _ refl refl n)
    (or_from _ _ (apart_at token.self_value_text t _ refl refl n) (or_from _ _ (apart_at token.crate_text t _ refl refl n) (apart_at token.try_text t _ refl refl n)))

read_named_word : (i : Ident) (k : Toks) (f : Option Span) (e : Span) (sc : Scope) → is_named_word i.text ≡ true → read_word is_named_word ident_name (at (word i k) f e sc) ≡ Ok (i, at k f i.span sc)
unfolding read_word next_word
read_named_word i k f e sc h = ap (λ (b : Bool). if b then Ok (i, at k f i.span sc) else Err (expected ident_name (at (word i k) f e sc))) h

read_any_word : (i : Ident) (k : Toks) (f : Option Span) (e : Span) (sc : Scope) → read_word any_text ident_name (at (word i k) f e sc) ≡ Ok (i, at k f i.span sc)
unfolding read_word next_word
read_any_word i k f e sc = refl

-- ---- where arguments begin

sep_no_lt-mark : (p : Punct) (k : Toks) (b : Bool) → (p.ch == 58) ≡ b → sees_sep (mark p k) ≡ true → token.sees_lt (mark p k) ≡ false
sep_no_lt-mark p k true h s = no_mark-other 60 _ p k (ap (λ n. n == 60) (eqb-true p.ch 58 h))
sep_no_lt-mark p k false h s = absurd (true≢false (sym s ∙ no_mark-other 58 _ p k h))

-- no `<` stands where a `::` does
pub sep_no_lt : (l : Toks) → sees_sep l ≡ true → token.sees_lt l ≡ false
unfolding sees_mark
sep_no_lt done s = refl
sep_no_lt (word i k) s = refl
sep_no_lt (mark p k) s = sep_no_lt-mark p k (p.ch == 58) refl s
sep_no_lt (lit x k) s = refl
sep_no_lt (group d a c k) s = refl
sep_no_lt (enter a k) s = sep_no_lt k s
sep_no_lt (leave k) s = sep_no_lt k s

-- in expressions they begin with `::`
styled_seen : (style : PathStyle) (l : Toks) → Styled style l → sees_arguments AsWritten l ≡ true → sees_arguments style l ≡ true
styled_seen AsWritten l s h = h
styled_seen Expr l s h = or_second _ _ (and_left _ _ (sep_no_lt l s)) h

-- ---- what follows a segment in the middle: a `::` and an identifier

pub data AtWord : Toks → Type 0 where
  at_word : {i : Ident} {k : Toks} → AtWord (word i k)

no_sep_word : (l : Toks) → AtWord l → sees_sep l ≡ false
unfolding sees_mark
no_sep_word l at_word = refl

-- no arguments begin with it
sep_no_arguments : (style : PathStyle) (c : Sep) (l k : Toks) → IsMark true c l k → AtWord k → sees_arguments style l ≡ false
unfolding sees_turbofish sees_mark after_one
sep_no_arguments AsWritten c l k (is_mark (more_chars (last_char x))) at_word = refl
sep_no_arguments Expr c l k (is_mark (more_chars (last_char x))) at_word = refl

sep_goes_on : (c : Sep) (l k : Toks) → IsMark true c l k → AtWord k → goes_on l ≡ true
unfolding goes_on sees_mark sees_group after_one
sep_goes_on c l k (is_mark (more_chars (last_char x))) at_word = refl

pub sep_seen : (c : Sep) (l k : Toks) → IsMark true c l k → AtWord k → sees_sep l ≡ true
sep_seen c l k i a = mark_seen true {n = 1} {k = 2} c l k i

module _ {A E : Type 0} (part : Manner → Parts A E) (firsts : Firsts part) (style : PathStyle) where
  abbrev Segment : Type 0
  Segment = PathSegment A E

  abbrev Is : Segment → Toks → Toks → Type 0
  Is = IsSegment part clearly style

  pub segment_word : (x : Segment) (l k : Toks) → Is x l k → AtWord l
  segment_word x l k (a_word h) = at_word
  segment_word x l k (a_word_with_arguments h s i) = at_word

  pub segment_less : (x : Segment) (l k : Toks) → Is x l k → Less l k
  segment_less x l k (a_word h) = record { lighter = omega arith; shorter = omega arith }
  segment_less x l k (a_word_with_arguments {x = y} {l = m} h s i) =
      let u = (firsts.arguments y m k i).1 in
      let a = u.lighter in
      let b = u.shorter in
      record { lighter = omega (arith, a); shorter = omega (arith, b) }

  -- a `::` between two
  abbrev Between : Sep → Toks → Toks → Type 0
  Between c l k = IsMark true c l k × AtWord k

  pub segments_word : (first : Bool) (xs : List Segment) (cs : List Sep) (l k : Toks) → AreListed (λ (_ : Bool). Is) (IsMark true) Nowhere first xs cs l k → AtWord l
  segments_word first xs cs l k (none_left h) = absurd h
  segments_word first xs cs l k (last_value {x = x} v) = segment_word x l k v
  segments_word first xs cs l k (value_and_mark {x = x} {m = m} v i j) = segment_word x l m v

  between : (first : Bool) (xs : List Segment) (cs : List Sep) (l k : Toks) → AreListed (λ (_ : Bool). Is) (IsMark true) Nowhere first xs cs l k → AreListed (λ (_ : Bool). Is) Between Nowhere first xs cs l k
  between first xs cs l k (none_left h) = absurd h
  between first xs cs l k (last_value v) = last_value v
  between first xs cs l k (value_and_mark {xs = ys} {ps = ds} {k = n} v i j) = value_and_mark v (i, segments_word false ys ds n k j) (between false ys ds n k j)

  pub segments_less : (first : Bool) (xs : List Segment) (cs : List Sep) (l k : Toks) → AreListed (λ (_ : Bool). Is) (IsMark true) Nowhere first xs cs l k → Less l k
  segments_less first xs cs l k (none_left h) = absurd h
  segments_less first xs cs l k (last_value {x = x} v) = segment_less x l k v
  segments_less first xs cs l k (value_and_mark {x = x} {p = c} {xs = ys} {ps = ds} {m = m} {k = n} v i j) =
      let u = segment_less x l m v in
      let a = u.lighter in
      let b = u.shorter in
      let w = sep_less c m n i in
      let d = w.lighter in
      let e = w.shorter in
      let q = segments_less false ys ds n k j in
      let g = q.lighter in
      let h = q.shorter in
      record { lighter = omega (arith, a, d, g); shorter = omega (arith, b, e, h) }

  pub path_less : (x : Path A E) (l k : Toks) → IsPath part clearly style x l k → Less l k
  path_less x l k (a_path {c = c} {xs = xs} {cs = cs} {m = m} i j) =
      let u = optional_sep_light c l m i in
      let a = u.light in
      let b = u.short in
      let w = segments_less true xs cs m k j in
      let d = w.lighter in
      let e = w.shorter in
      record { lighter = omega (arith, a, d); shorter = omega (arith, b, e) }

-- ---- the reads

module _ {A E : Type 0} (r : Readers A E) (part : Manner → Parts A E) (limit : ℕ) (meets : Meets r part limit) (style : PathStyle) where
  -- an `Ident` or `Self`, and what follows it
  pub segment_met : (x : PathSegment A E) (l k : Toks) (f : Option Span) (e : Span) (sc : Scope) → ahead (at l f e sc) ≤ limit → IsSegment part clearly style x l k → sees_arguments style k ≡ false →
      Reads_to (reads.segment r style) x l k f e sc
  unfolding paths.segment
  segment_met x l k f e sc h (a_word {i = i} w) n = by_word (is_bare_word i.text) refl
    where
      by_word : (b : Bool) → is_bare_word i.text ≡ b → Reads_to (reads.segment r style) (segment_of no_arguments i) (word i k) k f e sc
      by_word true g = record { last = i.span; reads = chosen (sees_word is_bare_word (word i k)) true _ _ (at (word i k) f e sc) _ (seen_word is_bare_word i k ∙ g) (link _ (read_any_word i k f e sc) refl) }
      by_word false g =
          record {
            last = i.span;
            reads = chosen (sees_word is_bare_word (word i k)) false _ _ (at (word i k) f e sc) _ (seen_word is_bare_word i k ∙ g)
                (link _ (read_named_word i k f e sc (or_first _ _ g w)) (chosen (sees_arguments style k) false _ _ (at k f i.span sc) _ n refl));
          }
  segment_met x l k f e sc h (a_word_with_arguments {i = i} {x = y} {l = m} w s v) n =
      let less : weight m < weight (word i m) = omega arith in
      let u = meets.arguments y m k f i.span sc (later (word i m) m f f e i.span sc limit less h) v in
      let seen = styled_seen style m s (meets.firsts.arguments y m k v).0 in
      record {
        last = u.last;
        reads = chosen (sees_word is_bare_word (word i m)) false _ _ (at (word i m) f e sc) _ (seen_word is_bare_word i m ∙ named_not_bare i.text w)
            (link _ (read_named_word i m f e sc w) (chosen (sees_arguments style m) true _ _ (at m f i.span sc) _ seen (link _ u.reads refl)));
      }

  -- segments, as long as a test says that one goes on: it sees each `::` between two
  module _ (more : Toks → Bool) (sees : (c : Sep) (l k : Toks) → IsMark true c l k → AtWord k → more l ≡ true) where
    pub segments_met : (xs : List (PathSegment A E)) (cs : List Sep) (l k : Toks) (f : Option Span) (e : Span) (sc : Scope) → ahead (at l f e sc) ≤ limit → AreSegments part clearly style xs cs l k →
        sees_arguments style k ≡ false → more k ≡ false → Reads_to (paths.segments no_arguments (r some_arguments) more style) (xs, cs) l k f e sc
    segments_met xs cs l k f e sc h i n o =
        listed_here never (λ (_ : Bool). reads.segment r style) more sep (λ (_ : Bool). IsSegment part clearly style) (Between part meets.firsts style) Nowhere (λ m. sees_arguments style m ≡ false) (λ m. ahead (at m nothing none sc) ≤ limit) sc
        (λ b x m j u v g a d. segment_met x m j a d sc u v g)
        (λ c m j v a d. sep_reads c m j a d sc v.0)
        (λ c m j v. (sep_no_arguments style c m j v.0 v.1, sees c m j v.0 v.1))
        (λ b x m j v. refl)
        (λ b x m j v. (segment_less part meets.firsts style x m j v).shorter)
        (λ c m j v. let w = (sep_less c m j v.0).shorter in omega (arith, w))
        (λ b x c m j q v g u.
        let less = (segment_less part meets.firsts style x m j v).lighter in
        let w = (sep_less c j q g.0).lighter in
        no_further m q nothing nothing none none sc limit (omega (arith, less, w)) u)
        true xs cs l k h (between part meets.firsts style true xs cs l k i) (record { follows = n; over = o; stops_there = λ b may. absurd may }) f e
      where
        nothing : Option Span
        nothing = None

  leading_met : (c : Option Sep) (l k : Toks) (f : Option Span) (e : Span) (sc : Scope) → IsOptional (IsMark true) c l k → AtWord k → Reads_to leading c l k f e sc
  unfolding leading
  leading_met c l k f e sc absent a = record { last = e; reads = chosen (sees_sep l) false _ _ (at l f e sc) _ (no_sep_word l a) refl }
  leading_met c l k f e sc (present {a = s} i) a =
      let u = sep_reads s l k f e sc i in
      record { last = u.last; reads = chosen (sees_sep l) true _ _ (at l f e sc) _ (sep_seen s l k i a) (link _ u.reads refl) }

  pub path_met : (x : Path A E) (l k : Toks) (f : Option Span) (e : Span) (sc : Scope) → ahead (at l f e sc) ≤ limit → IsPath part clearly style x l k → PathStops style k → Reads_to (reads.path r style) x l k f e sc
  unfolding paths.path
  path_met x l k f e sc h (a_path {c = c} {xs = xs} {cs = cs} {m = m} i j) o =
      let u = leading_met c l m f e sc i (segments_word part meets.firsts style true xs cs m k j) in
      let le = (optional_sep_light c l m i).light in
      let w = segments_met goes_on sep_goes_on xs cs m k f u.last sc (no_further l m f f e u.last sc limit le h) j o.no_arguments o.no_more in
      record { last = w.last; reads = link _ u.reads (link _ w.reads refl) }
