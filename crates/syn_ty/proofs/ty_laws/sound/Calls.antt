-- Where a macro call is read after its path, which was read in the style of types and has no arguments, it is spelt by the words of that path.
use Rattle.std.proofs.Common.{◌≡◌, Bool, true, false, ◌&&◌, List, [], ◌∷◌, Option, Some, Ok, refl, sym, ◌∙◌, ap, subst, arith, map}
use Rattle.std.specs.List.{list_all}
use Rattle.syn_ty.proofs.ty_laws.words.Tokens.{AreListed, none_left, last_value, value_and_mark, Nowhere, Visible, IsMark, is_mark, last_char, more_chars, Stream, Toks}
use Rattle.syn_ty.proofs.ty_laws.words.Paths.{Macro, AsWritten, macro_of, IsLeading, no_leading, leading, AreSegments, last_segment, more_segments, IsBarePath, a_bare_path}
use Rattle.syn_ty.proofs.ty_laws.words.Types.{Sep, is_none, nothing, segment_of, without, is_mod_style, is_segment_word, IsSegment, a_word, a_word_with_arguments, IsPath, a_path, Manner, loosely, Parts, IsOptional, absent, present, Path, PathArguments, PathSegment}
use Rattle.token_core.proofs.MarkSpells.{mark_sound, mark_visible}
use Rattle.token_core.proofs.Turns.{chain, same_pair}
use Rattle.syn_path.specs.mac.Reading as macs
use Rattle.syn_path.proofs.mac_laws.Sound.{took_body}
use Rattle.syn_ty.specs.path.Paths.{ModPath}
use Rattle.syn_ty.proofs.ty_laws.sound.Paths.{and_first}
use Rattle.syn_ty.proofs.ty_laws.sound.Forms.{both}

pub and_second : (b c : Bool) → b && c ≡ true → c ≡ true
and_second true c h = h
and_second false c h = cc h

-- ---- what follows a path

-- it holds no invisible group, and nothing more is left over
pub call_seen : (p : ModPath) (s t : Stream) (x : Macro) → Visible s.rest → macs.call_after p s ≡ Ok (x, t) → (t.left ≡ s.left) × Visible t.rest
unfolding macs.call_after
call_seen p s t x v e =
    let d = chain (macs.bang s) _ x t e in
    let k = mark_sound {n = 0} {k = 1} refl (omega arith) s d.rest d.value v d.was in
    let w = mark_visible false {n = 0} {k = 1} d.value s.rest d.rest.rest k.spelt v in
    let f = chain (macs.body d.rest) _ x t d.goes in
    let b = took_body d.rest f.rest f.value w f.was in
    let q = same_pair (macro_of p d.value f.value) x f.rest t f.goes in
    let inner = subst Visible b.is w in
    (ap (λ (z : Stream). z.left) (sym q.1) ∙ b.left ∙ k.left, subst (λ (z : Stream). Visible z.rest) q.1 inner.2)

-- ---- the path itself: a word with arguments has some

sep_is : (c : Sep) (l m : Toks) → IsMark false c l m → IsLeading false (Some c) l m
sep_is c l m (is_mark (more_chars (last_char y))) = leading y

leading_is : (o : Option Sep) (l m : Toks) → IsOptional (IsMark false) o l m → IsLeading false o l m
leading_is o l m absent = no_leading
leading_is o l m (present {a = c} i) = sep_is c l m i

module _ {A E : Type 0} (part : Manner → Parts A E) (some : (x : PathArguments A E) (l k : Toks) → (part loosely).arguments x l k → is_none x ≡ false) where
  abbrev Segment : Type 0
  Segment = PathSegment A E

  abbrev Is : Segment → Toks → Toks → Type 0
  Is = IsSegment part loosely AsWritten

  abbrev Bare : List Segment → List Sep → Toks → Toks → Type 0
  Bare xs cs l r = AreSegments false is_segment_word nothing (map (λ (s : Segment). segment_of nothing s.ident) xs) cs l r

  last_bare : (x : Segment) (l r : Toks) → Is x l r → is_none x.arguments ≡ true → Bare (x ∷ []) [] l r
  last_bare x l r (a_word w) e = last_segment w
  last_bare x l r (a_word_with_arguments {x = y} {l = m} w s z) e = both (is_none y) e (some y m r z)

  more_bare : (x : Segment) (c : Sep) (xs : List Segment) (cs : List Sep) (l m k r : Toks) → Is x l m → is_none x.arguments ≡ true → IsMark false c m k → Bare xs cs k r → Bare (x ∷ xs) (c ∷ cs) l r
  more_bare x c xs cs l m k r (a_word w) e (is_mark (more_chars (last_char y))) n = more_segments w y n
  more_bare x c xs cs l m k r (a_word_with_arguments {x = y} {l = q} w s z) e j n = both (is_none y) e (some y q m z)

  bare_segments : (b : Bool) (xs : List Segment) (cs : List Sep) (l r : Toks) → AreListed (λ (_ : Bool). Is) (IsMark false) Nowhere b xs cs l r → list_all (λ (s : Segment). is_none s.arguments) xs ≡ true → Bare xs cs l r
  bare_segments b xs cs l r (none_left i) e = absurd i
  bare_segments b xs cs l r (last_value {x = x} i) e = last_bare x l r i (and_first _ _ e)
  bare_segments b xs cs l r (value_and_mark {x = x} {p = c} {xs = ys} {ps = ds} {m = m} {k = k} i j n) e =
      more_bare x c ys ds l m k r i (and_first _ _ e) j (bare_segments false ys ds k r n (and_second _ _ e))

  -- a path without arguments, as that of a call
  pub bare_path : (p : Path A E) (l r : Toks) → IsPath part loosely AsWritten p l r → is_mod_style p ≡ true → IsBarePath false is_segment_word nothing (without nothing p) l r
  bare_path p l r (a_path {c = o} {xs = xs} {cs = cs} {m = m} i n) e = a_bare_path (leading_is o l m i) (bare_segments true xs cs m r n e)
