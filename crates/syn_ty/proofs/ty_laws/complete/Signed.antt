-- The path of a trait bound, spelt clearly, is what is read up to its arguments in parentheses and then with them, and all that is taken.
use Rattle.std.specs.Prelude.{not}
use Rattle.std.proofs.Common.{◌≡◌, ◌&&◌, ◌||◌, ℕ, ◌<◌, ◌≤◌, Bool, true, false, List, [], ◌∷◌, Option, Some, None, Ok, refl, ◌∙◌, ap, arith}
use Rattle.syn_ty.proofs.ty_laws.words.Tokens.{Span, Parenthesis, Ident, AreListed, Nowhere, none_left, last_value, value_and_mark, after_one, optional, sees_group, sees_mark, third, last_char, more_chars, IsMark, is_mark, Scope, Bytes, Toks, word}
use Rattle.syn_ty.proofs.ty_laws.words.Paths.{AsWritten, path_of, segment_of, sees_sep, sep}
use Rattle.syn_ty.proofs.ty_laws.words.Forms.{ahead, goes_on, is_bare_word, is_named_word, last_with, sees_turbofish, with_arguments}
use Rattle.syn_ty.proofs.ty_laws.words.Types.{Sep, angle_of, is_empty, no_arguments, parenthesized, sees_signature, signed, takes_signature, AreSigned, IsBoundPath, IsParens, a_pair_dropped, a_parens, a_sep_dropped, a_signed, nothing_dropped, signed_after, signed_last, with_parens, without_parens, AreSegments, IsArguments, IsSegment, an_angle, is_segment_word, a_path, a_word, a_word_with_arguments, Manner, clearly, End, Parts, Readers, IsOptional, absent, present, Parenthesized, Path, PathArguments, PathSegment}
use Rattle.token_core.specs.Tokens as token
use Rattle.token_core.proofs.MarkSpells.{mark_complete, mark_seen}
use Rattle.token_core.proofs.Steps.{link, chosen, Reads_to}
use Rattle.token_core.proofs.Took.{at}
use Rattle.syn_forms.specs.paths.Reading.{last_arguments}
use Rattle.syn_forms.proofs.nested_laws.Ahead.{weight, ahead-is}
use Rattle.syn_ty.specs.declared.path.PathArgumentsOf.TheVariants as a
use Rattle.syn_ty.specs.path.Paths.{empty_layer}
use Rattle.syn_ty.specs.path.Reading as reads
use Rattle.syn_ty.specs.path.Spelling.{some_arguments}
use Rattle.syn_ty.proofs.ty_laws.complete.Within.{Fits, Meets, PathStops, PathsMeet, Stops}

-- ---- what a path begins with

-- the word of a segment, or `::`
pub data Starts : Toks → Type 0 where
  a_first_word : {i : Ident} {k : Toks} → is_segment_word i.text ≡ true → Starts (word i k)
  a_first_sep : {c : Sep} {l k : Toks} → IsMark true c l k → Starts l

or_named : (t : Bytes) → is_named_word t ≡ true → is_segment_word t ≡ true
or_named t h = ap (λ b. b || is_bare_word t) h

-- ---- tests of what follows

no_signature : (k : Toks) → Stops k → sees_signature k ≡ false
unfolding sees_signature
no_signature k s = ap (λ b. b || (sees_sep k && third (sees_group Parenthesis) k)) s.no_paren ∙ ap (λ b. b && third (sees_group Parenthesis) k) s.no_sep

-- what follows a bound goes on with no path
pub path_stops : (k : Toks) → Stops k → PathStops AsWritten k
unfolding goes_on sees_turbofish
path_stops k s = record {
  no_more = ap (λ b. b && not (third (sees_group Parenthesis) k)) s.no_sep;
  no_arguments = ap (λ b. b || (sees_sep k && third token.sees_lt k)) s.no_angle ∙ ap (λ b. b && third token.sees_lt k) s.no_sep;
}

and_false : (b c : Bool) → c ≡ false → b && c ≡ false
and_false true c h = h
and_false false c h = refl

and_true : (b c : Bool) → b ≡ true → c ≡ true → b && c ≡ true
and_true b c h k = ap (λ z. z && c) h ∙ k

-- ---- how much is left

sep_light : (c : Sep) (l k : Toks) → IsMark true c l k → weight k < weight l
sep_light c l k (is_mark (more_chars (last_char x))) = omega arith

perhaps_light : (o : Option Sep) (l k : Toks) → IsOptional (IsMark true) o l k → weight k ≤ weight l
perhaps_light o l k absent = omega arith
perhaps_light o l k (present {a = c} i) = let h = sep_light c l k i in omega (arith, h)

lt_light : (o : token.Lt) (l k : Toks) → IsMark true o l k → weight k < weight l
lt_light o l k (is_mark (last_char x)) = omega arith

gt_light : (o : token.Gt) (l k : Toks) → IsMark true o l k → weight k < weight l
gt_light o l k (is_mark (last_char x)) = omega arith

pub left_after : (l k : Toks) (f g : Option Span) (d e : Span) (sc : Scope) (limit : ℕ) → weight k ≤ weight l → ahead (at l f d sc) ≤ limit → ahead (at k g e sc) ≤ limit
left_after l k f g d e sc limit h lim =
    let x = ahead-is (at l f d sc) in
    let y = ahead-is (at k g e sc) in
    omega (arith, h, lim, x, y)

perhaps_sep_met : (o : Option Sep) (l k : Toks) (f : Option Span) (e : Span) (sc : Scope) → IsOptional (IsMark true) o l k → sees_sep k ≡ false → Reads_to (optional sees_sep sep) o l k f e sc
perhaps_sep_met o l k f e sc absent h = record { last = e; reads = chosen (sees_sep l) false _ _ (at l f e sc) _ h refl }
perhaps_sep_met o l k f e sc (present {a = c} i) h =
    let w = mark_complete true {n = 1} {k = 2} refl (omega arith) c l k f e sc i in
    record { last = w.last; reads = chosen (sees_sep l) true _ _ (at l f e sc) _ (mark_seen true {n = 1} {k = 2} c l k i) (link _ w.reads refl) }

module _ {A E : Type 0} (part : Manner → Parts A E) where
  -- ---- arguments in parentheses, perhaps after `::`: there the path before them stops

  before_parens : (d : End) (o : Option Sep) (x : Parenthesized A E) (l m k : Toks) → IsOptional (IsMark true) o l m → IsParens part clearly d x m k → PathStops AsWritten l
  unfolding goes_on sees_turbofish sees_mark sees_group after_one
  before_parens d o x l m k absent (a_parens i j) = record { no_more = refl; no_arguments = refl }
  before_parens d o x l m k (present (is_mark (more_chars (last_char y)))) (a_parens i j) = record { no_more = refl; no_arguments = refl }

  signature_seen : (d : End) (o : Option Sep) (x : Parenthesized A E) (l m k : Toks) → IsOptional (IsMark true) o l m → IsParens part clearly d x m k → sees_signature l ≡ true
  unfolding sees_signature sees_mark sees_group after_one
  signature_seen d o x l m k absent (a_parens i j) = refl
  signature_seen d o x l m k (present (is_mark (more_chars (last_char y)))) (a_parens i j) = refl

  parens_no_sep : (d : End) (x : Parenthesized A E) (m k : Toks) → IsParens part clearly d x m k → sees_sep m ≡ false
  unfolding sees_mark
  parens_no_sep d x m k (a_parens i j) = refl

  -- ---- a path begins with the word of a segment, or `::`

  segment_starts : (x : PathSegment A E) (l k : Toks) → IsSegment part clearly AsWritten x l k → Starts l
  segment_starts x l k (a_word {i = i} h) = a_first_word h
  segment_starts x l k (a_word_with_arguments {i = i} {l = m} h s g) = a_first_word (or_named i.text h)

  segments_start : (xs : List (PathSegment A E)) (cs : List Sep) (l k : Toks) → AreSegments part clearly AsWritten xs cs l k → Starts l
  segments_start xs cs l k (none_left h) = absurd h
  segments_start xs cs l k (last_value {x = x} i) = segment_starts x l k i
  segments_start xs cs l k (value_and_mark {x = x} {m = m} i j g) = segment_starts x l m i

  signed_start : (d : End) (xs : List (PathSegment A E)) (cs : List Sep) (l k : Toks) → AreSigned part clearly d xs cs l k → Starts l
  signed_start d xs cs l k (signed_last (a_signed {i = i} {l = m} h g j)) = a_first_word h
  signed_start d xs cs l k (signed_after {s = x} {m = m} i j g) = segment_starts x l m i

  after_leading : (o : Option Sep) (l m : Toks) → IsOptional (IsMark true) o l m → Starts m → Starts l
  after_leading o l m absent s = s
  after_leading o l m (present {a = c} i) s = a_first_sep i

  pub bound_path_starts : (d : End) (p : Path A E) (l k : Toks) → IsBoundPath part clearly d p l k → Starts l
  bound_path_starts d p l k (without_parens (a_path {c = c} {xs = xs} {cs = cs} {m = m} i j)) = after_leading c l m i (segments_start xs cs m k j)
  bound_path_starts d p l k (with_parens {c = c} {xs = xs} {cs = cs} {m = m} i j) = after_leading c l m i (signed_start d xs cs m k j)

-- ---- the path up to the arguments in parentheses, and those

-- a pair of angle marks between which nothing stands is spelt as the arguments of a segment
pub empty_pair : {A E : Type 0} (part : Manner → Parts A E) (b : Option Sep) (o : token.Lt) (g : token.Gt) (l n j k : Toks) → IsOptional (IsMark true) b l n → IsMark true o n j → IsMark true g j k →
    IsArguments part clearly (a.AngleBracketed (angle_of b o ([], []) g)) l k
empty_pair part b o g l n j k p q z = some_arguments (an_angle p q (none_left tt) z)

module _ {A E : Type 0} (r : Readers A E) (part : Manner → Parts A E) (limit : ℕ) (m : Meets r part limit) (paths : PathsMeet r part limit)
    (pair : (b : Option Sep) (o : token.Lt) (g : token.Gt) (l n j k : Toks) → IsOptional (IsMark true) b l n → IsMark true o n j → IsMark true g j k → (part clearly).arguments (a.AngleBracketed (angle_of b o ([], []) g)) l k)
    (parens_met : (d : End) (x : Parenthesized A E) (l k : Toks) (f : Option Span) (e : Span) (sc : Scope) → ahead (at l f e sc) ≤ limit → IsParens part clearly d x l k → Fits d k → Reads_to (parenthesized r) x l k f e sc) where
  abbrev Segment : Type 0
  Segment = PathSegment A E

  abbrev ArePlain : Bool → List Segment → List Sep → Toks → Toks → Type 0
  ArePlain = AreListed (λ (_ : Bool). IsSegment part clearly AsWritten) (IsMark true) Nowhere

  -- the segments as they are read before the parentheses: the last has no arguments, or an empty pair
  record Plain (d : End) (xs : List Segment) (cs : List Sep) (l k : Toks) : Type 0 where
    first : Segment
    others : List Segment
    middle : Toks
    after : Toks
    sep : Option Sep
    parens : Parenthesized A E
    are : (b : Bool) → ArePlain b (first ∷ others) cs l middle
    dropped : IsOptional (IsMark true) sep middle after
    is : IsParens part clearly d parens after k
    empty : (z : PathArguments A E) → is_empty (last_arguments z (first ∷ others)) ≡ true
    again : last_with (a.Parenthesized parens) (first ∷ others) ≡ xs
    less : weight after < weight l

  segment_less : (x : Segment) (l k : Toks) → IsSegment part clearly AsWritten x l k → weight k < weight l
  segment_less x l k (a_word h) = omega arith
  segment_less x l k (a_word_with_arguments {x = y} {l = n} h s g) = let w = (m.firsts.arguments y n k g).1.lighter in omega (arith, w)

  none_empty : is_empty (no_arguments {A = A} {E = E}) ≡ true
  none_empty = ap empty_layer a.outs-None

  pair_empty : (b : Option Sep) (o : token.Lt) (g : token.Gt) → is_empty {A = A} {E = E} (a.AngleBracketed (angle_of b o ([], []) g)) ≡ true
  pair_empty b o g = ap empty_layer (a.outs-AngleBracketed (angle_of b o ([], []) g))

  plain_signed : (d : End) (xs : List Segment) (cs : List Sep) (l k : Toks) → AreSigned part clearly d xs cs l k → Plain d xs cs l k
  plain_signed d xs cs l k (signed_last (a_signed {i = i} {x = x} {l = n} h nothing_dropped g)) = record {
    first = segment_of no_arguments i;
    others = [];
    middle = n;
    after = n;
    sep = None;
    parens = x;
    are = λ b. last_value (a_word h);
    dropped = absent;
    is = g;
    empty = λ z. none_empty;
    again = refl;
    less = omega arith;
  }
  plain_signed d xs cs l k (signed_last (a_signed {i = i} {x = x} {l = n} {m = j} h (a_sep_dropped {c = c} w) g)) =
      let le = sep_light c n j w in
      record {
        first = segment_of no_arguments i;
        others = [];
        middle = n;
        after = j;
        sep = Some c;
        parens = x;
        are = λ b. last_value (a_word h);
        dropped = present w;
        is = g;
        empty = λ z. none_empty;
        again = refl;
        less = omega (arith, le);
      }
  plain_signed d xs cs l k (signed_last (a_signed {i = i} {x = x} {l = n} {m = j} h (a_pair_dropped {b = b} {c = c} {o = o} {g = t} {m = u} {n = v} {k = y} named p q z w) g)) =
      let p' = perhaps_light b n u p in
      let q' = lt_light o u v q in
      let z' = gt_light t v y z in
      let w' = perhaps_light c y j w in
      record {
        first = with_arguments i (a.AngleBracketed (angle_of b o ([], []) t));
        others = [];
        middle = y;
        after = j;
        sep = c;
        parens = x;
        are = λ f. last_value (a_word_with_arguments named tt (pair b o t n u v y p q z));
        dropped = w;
        is = g;
        empty = λ s. pair_empty b o t;
        again = refl;
        less = omega (arith, p', q', z', w');
      }
  plain_signed d xs cs l k (signed_after {s = x} {c = c} {xs = ys} {cs = ds} {m = n} {k = j} i w g) =
      let s = plain_signed d ys ds j k g in
      let i' = segment_less x l n i in
      let w' = sep_light c n j w in
      let s' = s.less in
      record {
        first = x;
        others = s.first ∷ s.others;
        middle = s.middle;
        after = s.after;
        sep = s.sep;
        parens = s.parens;
        are = λ b. value_and_mark i w (s.are false);
        dropped = s.dropped;
        is = s.is;
        empty = λ z. s.empty x.arguments;
        again = ap (λ z. x ∷ z) s.again;
        less = omega (arith, i', w', s');
      }

  -- the read of a path, and then of what stands after it
  pub record Goes (p : Path A E) (l k : Toks) (f : Option Span) (e : Span) (sc : Scope) : Type 0 where
    pub before : Path A E
    pub middle : Toks
    pub there : Span
    pub last : Span
    pub path_reads : reads.path r AsWritten (at l f e sc) ≡ Ok (before, at middle f there sc)
    pub signed_reads : signed r before (at middle f there sc) ≡ Ok (p, at k f last sc)

  nothing_signed : (p : Path A E) (k : Toks) (f : Option Span) (e : Span) (sc : Scope) → Stops k → signed r p (at k f e sc) ≡ Ok (p, at k f e sc)
  unfolding signed
  nothing_signed p k f e sc s = chosen (takes_signature p && sees_signature k) false _ _ (at k f e sc) _ (and_false (takes_signature p) (sees_signature k) (no_signature k s)) refl

  signed_met : (d : End) (c : Option Sep) (xs : List Segment) (cs : List Sep) (l k : Toks) (f : Option Span) (e : Span) (sc : Scope) (s : Plain d xs cs l k) → ahead (at s.after f e sc) ≤ limit → Fits d k →
      Reads_to (signed r (path_of c (s.first ∷ s.others, cs))) (path_of c (xs, cs)) s.middle k f e sc
  unfolding signed
  signed_met d c xs cs l k f e sc s h o =
      let w = perhaps_sep_met s.sep s.middle s.after f e sc s.dropped (parens_no_sep part d s.parens s.after k s.is) in
      let y = parens_met d s.parens s.after k f w.last sc h s.is o in
      let seen = and_true (takes_signature (path_of c (s.first ∷ s.others, cs))) (sees_signature s.middle) (s.empty no_arguments) (signature_seen part d s.sep s.parens s.middle s.after k s.dropped s.is) in
      record {
        last = y.last;
        reads = chosen (takes_signature (path_of c (s.first ∷ s.others, cs)) && sees_signature s.middle) true _ _ (at s.middle f e sc) _ seen
            (link _ w.reads (link _ y.reads (ap (λ z. Ok (path_of c (z, cs), at k f y.last sc)) s.again)));
      }

  pub bound_path_met : (d : End) (p : Path A E) (l k : Toks) (f : Option Span) (e : Span) (sc : Scope) → ahead (at l f e sc) ≤ limit → IsBoundPath part clearly d p l k → Fits d k → Goes p l k f e sc
  bound_path_met d p l k f e sc h (without_parens i) o =
      let w = paths.path AsWritten p l k f e sc h i (path_stops k o.stops) in
      record { before = p; middle = k; there = w.last; last = w.last; path_reads = w.reads; signed_reads = nothing_signed p k f w.last sc o.stops }
  bound_path_met d p l k f e sc h (with_parens {c = c} {xs = xs} {cs = cs} {m = n} i j) o =
      let s = plain_signed d xs cs n k j in
      let q = path_of c (s.first ∷ s.others, cs) in
      let w = paths.path AsWritten q l s.middle f e sc h (a_path i (s.are true)) (before_parens part d s.sep s.parens s.middle s.after k s.dropped s.is) in
      let le = perhaps_light c l n i in
      let less = s.less in
      let y = signed_met d c xs cs n k f w.last sc s (left_after l s.after f f e w.last sc limit (omega (arith, le, less)) h) o in
      record { before = q; middle = s.middle; there = w.last; last = y.last; path_reads = w.reads; signed_reads = y.reads }
