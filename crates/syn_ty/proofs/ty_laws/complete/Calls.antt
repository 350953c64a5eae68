-- What follows the path that a type begins with is read after it: a macro call, which drops a binder, the bounds of a trait object, or nothing.
use Rattle.std.proofs.Common.{◌≡◌, ℕ, ◌≤◌, Bool, true, false, ◌&&◌, ◌||◌, List, [], ◌∷◌, Option, Some, None, is_some, refl, ◌∙◌, ap, map}
use Rattle.std.specs.List.{list_all}
use Rattle.syn_ty.proofs.ty_laws.words.Tokens.{DelimSpan, Span, Delimiter, Spacing, Joint, AreListed, AfterMark, Anywhere, Nowhere, last_value, value_and_mark, sees_mark, IsMark, is_mark, last_char, more_chars, Scope, Toks, mark, group, TokenStream, punct, toks}
use Rattle.syn_ty.proofs.ty_laws.words.Paths.{AsWritten, macro_of, path_of, IsBarePath, IsLeading, a_bare_path, last_segment, leading, more_segments, no_leading}
use Rattle.syn_ty.proofs.ty_laws.words.Forms.{Object, list_from, plus_follows, ahead, goes_on, sees_turbofish}
use Rattle.syn_ty.proofs.ty_laws.words.Types.{AreBounds, named_bound, Sep, is_none, no_arguments, nothing, segment_of, without, is_mod_style, is_segment_word, IsSegment, a_word, IsPath, a_path, Manner, clearly, End, Parts, Readers, object_of, sees_call, IsOptional, absent, present, BoundLifetimes, Path, PathSegment, QSelf, TypeParamBound, TypeTree, macro_type_of, qualified_with}
use Rattle.token_core.specs.declared.tree.Spacing.TheVariants.{Alone}
use Rattle.token_core.specs.Tokens as token
use Rattle.token_core.proofs.Steps.{Reads_to, chosen, link}
use Rattle.token_core.proofs.Took.{at}
use Rattle.syn_path.specs.declared.mac.MacroDelimiter.{MacroDelimiter}
use Rattle.syn_path.specs.mac.Reading as macs
use Rattle.syn_path.specs.mac.Spelling.{Delimits, bang_at}
use Rattle.syn_path.specs.path.Spelling as bare
use Rattle.syn_path.proofs.mac_laws.Complete.{call_after_complete}
use Rattle.syn_ty.specs.declared.generics.TypeParamBoundOf.TheVariants as b
use Rattle.syn_ty.specs.declared.ty.TypeOf.TheVariants as v
use Rattle.syn_ty.specs.path.Paths.{ModPath, ModSegment}
use Rattle.syn_ty.specs.path.Silent as silent
use Rattle.syn_ty.specs.ty.Reading as reading
use Rattle.syn_ty.specs.ty.Types.{path_type_of}
use Rattle.syn_ty.proofs.ty_laws.complete.BoundLists.{bounds_from_met, ends_as, further, plus_stopped}
use Rattle.syn_ty.proofs.ty_laws.complete.Within.{Fits, Meets, PathStops}

-- ---- the path of a call, with what stands for no arguments

module _ (A E : Type 0) where
  abbrev pub bare_segment : ModSegment → PathSegment A E
  bare_segment s = segment_of no_arguments s.ident

  abbrev pub as_path : ModPath → Path A E
  as_path p = path_of p.leading_colon (map bare_segment p.segments.0, p.segments.1)

  back : (all : List ModSegment) → map (λ (s : PathSegment A E). segment_of nothing s.ident) (map bare_segment all) ≡ all
  back [] = refl
  back (s ∷ all) = ap (λ z. s ∷ z) (back all)

  pub without_back : (p : ModPath) → without nothing (as_path p) ≡ p
  without_back p = ap (λ z. path_of p.leading_colon (z, p.segments.1)) (back p.segments.0)

  all_bare : (all : List ModSegment) → list_all (λ (s : PathSegment A E). is_none s.arguments) (map bare_segment all) ≡ true
  all_bare [] = refl
  all_bare (s ∷ all) = ap (λ z. z && list_all (λ (s : PathSegment A E). is_none s.arguments) (map bare_segment all)) (silent.absent A E) ∙ all_bare all

  pub mod_style : (p : ModPath) → is_mod_style (as_path p) ≡ true
  mod_style p = all_bare p.segments.0

module _ {A E : Type 0} (part : Manner → Parts A E) where
  abbrev Is : PathSegment A E → Toks → Toks → Type 0
  Is = IsSegment part clearly AsWritten

  segments_as : (b : Bool) (all : List ModSegment) (cs : List Sep) (l r : Toks) → bare.AreSegments true is_segment_word nothing all cs l r → AreListed (λ (_ : Bool). Is) (IsMark true) Nowhere b (map (bare_segment A E) all) cs l r
  segments_as b all cs l r (last_segment h) = last_value (a_word h)
  segments_as b all cs l r (more_segments {all = xs} {seps = ds} {l = k} h x i) = value_and_mark (a_word h) (is_mark (more_chars (last_char x))) (segments_as false xs ds k r i)

  leading_as : (o : Option Sep) (l r : Toks) → IsLeading true o l r → IsOptional (IsMark true) o l r
  leading_as o l r no_leading = absent
  leading_as o l r (leading x) = present (is_mark (more_chars (last_char x)))

  pub call_path : (p : ModPath) (l r : Toks) → IsBarePath true is_segment_word nothing p l r → IsPath part clearly AsWritten (as_path A E p) l r
  call_path p l r (a_bare_path {o = o} {all = xs} {seps = cs} {m = m} i j) = a_path (leading_as o l m i) (segments_as true xs cs m r j)

-- ---- what follows it

module _ (b : Span) (j : Spacing) (d : Delimiter) (s : DelimSpan) (c r : Toks) where
  abbrev bang : Toks
  bang = mark (punct 33 j b) (group d s c r)

  pub bang_stops : PathStops AsWritten bang
  unfolding goes_on sees_turbofish sees_mark
  bang_stops = record { no_more = refl; no_arguments = refl }

  pub bang_no_pound : token.sees_pound bang ≡ false
  unfolding sees_mark
  bang_no_pound = refl

  pub bang_call : sees_call bang ≡ true
  unfolding sees_call sees_mark
  bang_call = by_spacing j
    where
      by_spacing : (i : Spacing) → sees_call (mark (punct 33 i b) (group d s c r)) ≡ true
      by_spacing Joint = refl
      by_spacing Alone = refl

module _ {A E : Type 0} (r : Readers A E) (plus : Bool) where
  abbrev For : Type 0
  For = Option (BoundLifetimes A E)

  -- what is read after a path
  abbrev Goes : For → Option (QSelf A E) → Path A E → TypeTree A E → Toks → Toks → Option Span → Span → Scope → Type 0
  Goes o q p x n k f e sc = Reads_to (reading.path_or_object r plus o (q, p)) x n k f e sc

  first_false : (c d : Bool) → c ≡ false → c && d ≡ false
  first_false c d h = ap (λ z. z && d) h

  -- a path that a type qualifies goes on with nothing
  pub qualified_goes : (o : For) (q : QSelf A E) (p : Path A E) (k : Toks) (f : Option Span) (e : Span) (sc : Scope) → Goes o (Some q) p (v.Path (qualified_with [] (Some q) p)) k k f e sc
  unfolding reading.path_or_object
  qualified_goes o q p k f e sc = record { last = e; reads = refl }

  pub path_goes : (p : Path A E) (k : Toks) (f : Option Span) (e : Span) (sc : Scope) → sees_call k ≡ false → plus_follows plus k ≡ false → Goes None None p (v.Path (path_type_of p)) k k f e sc
  unfolding reading.path_or_object reading.after_path
  path_goes p k f e sc h g = record {
    last = e;
    reads = chosen (sees_call k && is_mod_style p) false _ _ (at k f e sc) _ (first_false (sees_call k) (is_mod_style p) h) (chosen (plus_follows plus k) false _ _ (at k f e sc) _ g refl);
  }

  -- a lone bound after a binder
  pub lone_goes : (x : BoundLifetimes A E) (p : Path A E) (k : Toks) (f : Option Span) (e : Span) (sc : Scope) → sees_call k ≡ false → plus_follows plus k ≡ false →
      Goes (Some x) None p (object_of (b.Trait (named_bound (Some x) None p) ∷ [], [])) k k f e sc
  unfolding reading.path_or_object reading.after_path list_from
  lone_goes x p k f e sc h g = record {
    last = e;
    reads = chosen (sees_call k && is_mod_style p) false _ _ (at k f e sc) _ (first_false (sees_call k) (is_mod_style p) h) (link _ (chosen (plus_follows plus k) false _ _ (at k f e sc) _ g refl) refl);
  }

  or_second : (c d : Bool) → d ≡ true → c || d ≡ true
  or_second true d h = refl
  or_second false d h = h

  pub object_goes : (o : For) (p : Path A E) (y : TypeTree A E) (n k : Toks) (f : Option Span) (e : Span) (sc : Scope) → sees_call n ≡ false → plus_follows plus n ≡ true → Reads_to (reading.path_object r plus o p) y n k f e sc →
      Goes o None p y n k f e sc
  unfolding reading.path_or_object reading.after_path
  object_goes o p y n k f e sc h g i = record {
    last = i.last;
    reads = chosen (sees_call n && is_mod_style p) false _ _ (at n f e sc) _ (first_false (sees_call n) (is_mod_style p) h)
        (chosen (is_some o || plus_follows plus n) true _ _ (at n f e sc) _ (or_second (is_some o) (plus_follows plus n) g) i.reads);
  }

  -- a call: its path has no arguments
  pub call_goes : (o : For) (p : ModPath) (a : Span) (j : Spacing) (w : MacroDelimiter) (d : Delimiter) (s : DelimSpan) (c k : Toks) (tokens : TokenStream) (f : Option Span) (e : Span) (sc : Scope) → Delimits w d s → c ≡ toks tokens →
      Goes o None (as_path A E p) (v.Macro (macro_type_of (macro_of p (bang_at a) (w, tokens)))) (mark (punct 33 j a) (group d s c k)) k f e sc
  unfolding reading.path_or_object reading.after_path
  call_goes o p a j w d s c k tokens f e sc h g =
      let l = mark (punct 33 j a) (group d s c k) in
      let q = ap (λ z. macs.call_after z (at l f e sc)) (without_back A E p) ∙ call_after_complete p a j w d s c k tokens f e sc h g in
      record {
        last = s.closing;
        reads = chosen (sees_call l && is_mod_style (as_path A E p)) true _ _ (at l f e sc) _ (ap (λ z. z && is_mod_style (as_path A E p)) (bang_call a j d s c k) ∙ mod_style A E p) (link _ q refl);
      }

-- ---- the bounds after a path and `+`

module _ {A E : Type 0} (r : Readers A E) (part : Manner → Parts A E) (limit : ℕ) (meets : Meets r part limit) where
  pub path_object_met : (d : End) (o : Option (BoundLifetimes A E)) (p : Path A E) (q : token.Plus) (xs : List (TypeParamBound A E)) (ps : List token.Plus) (l m k : Toks) (f : Option Span) (e : Span) (sc : Scope) → ahead (at l f e sc) ≤ limit →
      IsMark true q l m → AreBounds part clearly Object Anywhere false d xs ps m k → Fits d k → Reads_to (reading.path_object r true o p) (object_of (b.Trait (named_bound o None p) ∷ xs, q ∷ ps)) l k f e sc
  path_object_met d o p q xs ps l m k f e sc lim i j fits =
      let first = b.Trait (named_bound o None p) in
      let w = bounds_from_met r part limit meets Object true first (first ∷ xs, q ∷ ps) l k f e sc lim
      (further refl i (ends_as part Object Anywhere AfterMark (λ z. z) false d xs ps m k refl j) (plus_stopped part Object false d k fits)) in
      record { last = w.last; reads = link _ w.reads refl }
