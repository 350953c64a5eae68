-- A path that a type qualifies, or none, is what its read answers where a list spells it clearly: over the reads of the types and arguments that it holds.
use Rattle.std.specs.Prelude.{is_some}
use Rattle.std.proofs.Common.{◌≡◌, ℕ, ◌<◌, ◌≤◌, Bool, true, false, List, Option, Some, None, refl, sym, ◌∙◌, arith}
use Rattle.std.proofs.lemmas.Bool.{true≢false}
use Rattle.syn_ty.proofs.ty_laws.words.Tokens.{Span, Word, sees_lifetime, Many, sees_group, sees_mark, sees_word, IsMark, is_mark, last_char, IsWord, is_word, Scope, Toks}
use Rattle.syn_ty.proofs.ty_laws.words.Paths.{PathStyle, AsWritten, Expr, sees_sep, sep, SpelledValues}
use Rattle.syn_ty.proofs.ty_laws.words.Forms.{Plus, ahead, goes_on, sees_arguments, sees_turbofish}
use Rattle.syn_ty.proofs.ty_laws.words.Types.{Sep, no_arguments, IsAnyPath, qualified, unqualified, IsPath, a_path, IsQualified, by_type, by_type_as_path, Manner, clearly, End, Parts, Readers, a_type, some_arguments, sees_call, IsOptional, absent, present, IsPathAlone, a_path_alone, Path, PathSegment, QSelf, TypePath, TypeTree}
use Rattle.token_core.specs.Tokens as token
use Rattle.token_core.proofs.MarkSpells.{mark_complete, mark_seen}
use Rattle.token_core.proofs.Steps.{Reads_to, chosen, link}
use Rattle.token_core.proofs.Took.{at}
use Rattle.token_core.proofs.WordSpells.{word_complete, word_seen}
use Rattle.syn_forms.specs.paths.Reading as paths
use Rattle.syn_forms.specs.paths.Reading.{qualified_of}
use Rattle.syn_forms.proofs.nested_laws.Ahead.{weight}
use Rattle.syn_ty.specs.path.Reading as reads
use Rattle.syn_ty.proofs.ty_laws.complete.Angles.{gt_less, lt_less, no_further, sep_less, sep_reads}
use Rattle.syn_ty.proofs.ty_laws.complete.Leaves.{later}
use Rattle.syn_ty.proofs.ty_laws.complete.Within.{Fits, Meets, PathStops, PathsMeet}
use Rattle.syn_ty.proofs.ty_laws.complete.Paths.{AtWord, at_word, path_less, path_met, segments_met, segments_word, sep_no_lt, sep_seen}

-- ---- what follows a type that qualifies a path: a `>`, or `as`

pub gt_fits : (d : End) (c : token.Gt) (l k : Toks) → IsMark true c l k → Fits d l
unfolding sees_mark sees_call sees_lifetime sees_group sees_word
gt_fits d c l k (is_mark (last_char x)) =
    record {
      stops = record { no_sep = refl; no_angle = refl; no_call = refl; no_arrow = refl; no_question = refl; no_lifetime = refl; no_paren = refl; no_bracket = refl; no_pound = refl };
      no_plus = λ o. refl;
      no_word = λ o. refl;
    }

pub word_fits : {n : ℕ} (d : End) (w : Word n) (l k : Toks) → d.in_plus ≡ false → IsWord w l k → Fits d l
unfolding sees_mark sees_call sees_lifetime sees_group
word_fits d w l k p is_word =
    record {
      stops = record { no_sep = refl; no_angle = refl; no_call = refl; no_arrow = refl; no_question = refl; no_lifetime = refl; no_paren = refl; no_bracket = refl; no_pound = refl };
      no_plus = λ o. refl;
      no_word = λ o. absurd (true≢false (sym o ∙ p));
    }

no_plus_gt : (c : token.Gt) (l k : Toks) → IsMark true c l k → token.sees_plus l ≡ false
unfolding sees_mark
no_plus_gt c l k (is_mark (last_char x)) = refl

no_plus_word : {n : ℕ} (w : Word n) (l k : Toks) → IsWord w l k → token.sees_plus l ≡ false
unfolding sees_mark
no_plus_word w l k is_word = refl

no_as_gt : (c : token.Gt) (l k : Toks) → IsMark true c l k → token.sees_as l ≡ false
unfolding sees_word
no_as_gt c l k (is_mark (last_char x)) = refl

-- a `>` ends a path
pub gt_path_stops : (style : PathStyle) (c : token.Gt) (l k : Toks) → IsMark true c l k → PathStops style l
unfolding goes_on sees_turbofish sees_mark
gt_path_stops AsWritten c l k (is_mark (last_char x)) = record { no_more = refl; no_arguments = refl }
gt_path_stops Expr c l k (is_mark (last_char x)) = record { no_more = refl; no_arguments = refl }

word_light : {n : ℕ} (w : Word n) (l k : Toks) → IsWord w l k → weight k < weight l
word_light w l k is_word = omega arith

-- no `<` begins a path that no type qualifies
no_lt_word : (l : Toks) → AtWord l → token.sees_lt l ≡ false
unfolding sees_mark
no_lt_word l at_word = refl

no_lt_leading : (c : Option Sep) (l k : Toks) → IsOptional (IsMark true) c l k → AtWord k → token.sees_lt l ≡ false
no_lt_leading c l k absent a = no_lt_word l a
no_lt_leading c l k (present {a = s} i) a = sep_no_lt l (sep_seen s l k i a)

-- ---- the reads

module _ {A E : Type 0} (r : Readers A E) (part : Manner → Parts A E) (limit : ℕ) (meets : Meets r part limit) where
  -- before a `>`
  type_met : (d : End) (x : TypeTree A E) (c : token.Gt) (l m k : Toks) (f : Option Span) (e : Span) (sc : Scope) → ahead (at l f e sc) < limit → (part clearly).ty Plus d x l m → IsMark true c m k → Reads_to (r (a_type Plus)) x l m f e sc
  type_met d x c l m k f e sc h i j = meets.ty Plus d x l m f e sc h i (gt_fits d c m k j) (λ o. no_plus_gt c m k j)

  type_as_met : (d : End) (x : TypeTree A E) (w : token.As) (l m k : Toks) (f : Option Span) (e : Span) (sc : Scope) → ahead (at l f e sc) < limit → (part clearly).ty Plus d x l m → d.in_plus ≡ false → IsWord w m k →
      Reads_to (r (a_type Plus)) x l m f e sc
  type_as_met d x w l m k f e sc h i p j = meets.ty Plus d x l m f e sc h i (word_fits d w m k p j) (λ o. no_plus_word w m k j)

  no_as : (c : token.Gt) (l k : Toks) (f : Option Span) (e : Span) (sc : Scope) → IsMark true c l k → Reads_to (paths.as_path no_arguments (r some_arguments)) None l l f e sc
  unfolding paths.as_path
  no_as c l k f e sc i = record { last = e; reads = chosen (token.sees_as l) false _ _ (at l f e sc) _ (no_as_gt c l k i) refl }

  -- `as` and a path up to a `>`
  as_met : (w : token.As) (p : Path A E) (c : token.Gt) (l m n k : Toks) (f : Option Span) (e : Span) (sc : Scope) → ahead (at l f e sc) ≤ limit → IsWord w l m → IsPath part clearly AsWritten p m n → IsMark true c n k →
      Reads_to (paths.as_path no_arguments (r some_arguments)) (Some (w, p)) l n f e sc
  unfolding paths.as_path
  as_met w p c l m n k f e sc h i j g =
      let a = word_complete {n = 4} w l m f e sc i in
      let less = word_light w l m i in
      let u = path_met r part limit meets AsWritten p m n f a.last sc (no_further l m f f e a.last sc limit (omega (arith, less)) h) j (gt_path_stops AsWritten c n k g) in
      record { last = u.last; reads = chosen (token.sees_as l) true _ _ (at l f e sc) _ (word_seen {n = 4} w l m i) (link _ a.reads (link _ u.reads refl)) }

  module _ (style : PathStyle) where
    -- step by step
    steps : (o : token.Lt) (x : TypeTree A E) (a : Option (token.As × Path A E)) (g : token.Gt) (c : Sep) (all : Many (PathSegment A E) Sep) (l m n k j h i : Toks) (f : Option Span) (e : Span) (sc : Scope)
        (r1 : Reads_to token.lt o l m f e sc) (r2 : Reads_to (r (a_type Plus)) x m n f r1.last sc) (r3 : Reads_to (paths.as_path no_arguments (r some_arguments)) a n k f r2.last sc) (r4 : Reads_to token.gt g k j f r3.last sc)
        (r5 : Reads_to sep c j h f r4.last sc) (r6 : Reads_to (paths.segments no_arguments (r some_arguments) sees_sep style) all h i f r5.last sc) →
        Reads_to (paths.qualified (r (a_type Plus)) no_arguments (r some_arguments) style) (qualified_of o x a g c all) l i f e sc
    unfolding paths.qualified
    steps o x a g c all l m n k j h i f e sc r1 r2 r3 r4 r5 r6 = record { last = r6.last; reads = link _ r1.reads (link _ r2.reads (link _ r3.reads (link _ r4.reads (link _ r5.reads (link _ r6.reads refl))))) }

    pub qualified_met : (q : QSelf A E) (x : Path A E) (l k : Toks) (f : Option Span) (e : Span) (sc : Scope) → ahead (at l f e sc) ≤ limit → IsQualified part clearly style q x l k → sees_arguments style k ≡ false →
        sees_sep k ≡ false → Reads_to (paths.qualified (r (a_type Plus)) no_arguments (r some_arguments) style) (q, x) l k f e sc
    qualified_met q x l z f e sc h (by_type {o = o} {e = d} {x = y} {g = g} {c = c} {xs = xs} {cs = cs} {m = m} {n = n} {k = k} {j = j} i1 i2 i3 i4 i5) clear over =
        let w1 = (lt_less o l m i1).lighter in
        let w2 = (meets.firsts.ty Plus d y m n i2).1.lighter in
        let w3 = (gt_less g n k i3).lighter in
        let w4 = (sep_less c k j i4).lighter in
        let r1 = mark_complete true {n = 2} {k = 1} refl (omega arith) o l m f e sc i1 in
        let r2 = type_met d y g m n k f r1.last sc (later l m f f e r1.last sc limit w1 h) i2 i3 in
        let r3 = no_as g n k f r2.last sc i3 in
        let r4 = mark_complete true {n = 3} {k = 1} refl (omega arith) g n k f r3.last sc i3 in
        let r5 = sep_reads c k j f r4.last sc i4 in
        let r6 = segments_met r part limit meets style sees_sep sep_seen xs cs j z f r5.last sc (no_further l j f f e r5.last sc limit (omega (arith, w1, w2, w3, w4)) h) i5 clear over in
        steps o y None g c (xs, cs) l m n n k j z f e sc r1 r2 r3 r4 r5 r6
    qualified_met q x l z f e sc h (by_type_as_path {o = o} {e = d} {x = y} {w = w} {p = p} {g = g} {c = c} {xs = xs} {cs = cs} {m = m} {n = n} {k = k} {j = j} {i = u} {h = v} i1 i2 plus i3 i4 i5 i6 i7) clear over =
        let w1 = (lt_less o l m i1).lighter in
        let w2 = (meets.firsts.ty Plus d y m n i2).1.lighter in
        let w3 = word_light w n k i3 in
        let w4 = (path_less part meets.firsts AsWritten p k j i4).lighter in
        let w5 = (gt_less g j u i5).lighter in
        let w6 = (sep_less c u v i6).lighter in
        let r1 = mark_complete true {n = 2} {k = 1} refl (omega arith) o l m f e sc i1 in
        let r2 = type_as_met d y w m n k f r1.last sc (later l m f f e r1.last sc limit w1 h) i2 plus i3 in
        let r3 = as_met w p g n k j u f r2.last sc (no_further l n f f e r2.last sc limit (omega (arith, w1, w2)) h) i3 i4 i5 in
        let r4 = mark_complete true {n = 3} {k = 1} refl (omega arith) g j u f r3.last sc i5 in
        let r5 = sep_reads c u v f r4.last sc i6 in
        let r6 = segments_met r part limit meets style sees_sep sep_seen xs cs v z f r5.last sc (no_further l v f f e r5.last sc limit (omega (arith, w1, w2, w3, w4, w5, w6)) h) i7 clear over in
        steps o y (Some (w, p)) g c (xs, cs) l m n j u v z f e sc r1 r2 r3 r4 r5 r6

    qualified_lt : (q : QSelf A E) (x : Path A E) (l k : Toks) → IsQualified part clearly style q x l k → token.sees_lt l ≡ true
    qualified_lt q x l k (by_type {o = o} {m = m} i t u s v) = mark_seen true {n = 2} {k = 1} o l m i
    qualified_lt q x l k (by_type_as_path {o = o} {m = m} i t plus w p u s v) = mark_seen true {n = 2} {k = 1} o l m i

    path_no_lt : (x : Path A E) (l k : Toks) → IsPath part clearly style x l k → token.sees_lt l ≡ false
    path_no_lt x l k (a_path {c = c} {xs = xs} {cs = cs} {m = m} i j) = no_lt_leading c l m i (segments_word part meets.firsts style true xs cs m k j)

    -- after a qualified path no `::` follows, not even before parentheses
    pub any_met : (o : Option (QSelf A E)) (x : Path A E) (l k : Toks) (f : Option Span) (e : Span) (sc : Scope) → ahead (at l f e sc) ≤ limit → IsAnyPath part clearly style o x l k → PathStops style k →
        (is_some o ≡ true → sees_sep k ≡ false) → Reads_to (reads.maybe_qualified r style) (o, x) l k f e sc
    unfolding paths.maybe_qualified
    any_met o x l k f e sc h (unqualified i) stops over =
        let u = path_met r part limit meets style x l k f e sc h i stops in
        record { last = u.last; reads = chosen (token.sees_lt l) false _ _ (at l f e sc) _ (path_no_lt x l k i) (link _ u.reads refl) }
    any_met o x l k f e sc h (qualified {q = q} i) stops over =
        let u = qualified_met q x l k f e sc h i stops.no_arguments (over refl) in
        record { last = u.last; reads = chosen (token.sees_lt l) true _ _ (at l f e sc) _ (qualified_lt q x l k i) (link _ u.reads refl) }

  pub paths_met : PathsMeet r part limit
  paths_met = record { path = path_met r part limit meets; any = any_met }

  -- by itself
  pub path_type_met : (attrs : Bool → List A → Toks → Toks → Type 0) (values : SpelledValues E) (x : TypePath A E) (l k : Toks) (f : Option Span) (e : Span) (sc : Scope) → ahead (at l f e sc) ≤ limit → IsPathAlone attrs values part clearly x l k → PathStops AsWritten k → sees_sep k ≡ false →
      Reads_to (reads.path_type r) x l k f e sc
  unfolding reads.path_type
  path_type_met attrs values x l k f e sc h (a_path_alone {o = o} {p = p} i) stops over = let u = any_met AsWritten o p l k f e sc h i stops (λ q. over) in record { last = u.last; reads = link _ u.reads refl }
