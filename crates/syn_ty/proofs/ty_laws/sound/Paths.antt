-- Where paths are read, in the style of types or of expressions, they are spelt by the rules of the whole grammar, over the same law of the arguments of a segment.
use Rattle.std.proofs.Common.{◌≡◌, Bool, true, false, ◌&&◌, ◌||◌, Option, None, Ok, inl, inr, refl, sym, ◌∙◌, ap, subst, arith}
use Rattle.syn_ty.proofs.ty_laws.words.Tokens.{Ident, AreListed, Nowhere, Many, never, Reader, any_text, ident_name, optional, pure, read_word, sees_word, ◌>>=◌, ◌<$>◌, Visible, IsMark, Stream, Toks, word}
use Rattle.syn_ty.proofs.ty_laws.words.Paths.{PathStyle, AsWritten, Expr, path_of, segment_of}
use Rattle.syn_ty.proofs.ty_laws.words.Forms.{is_bare_word, is_named_word, sees_arguments, sees_turbofish, with_arguments}
use Rattle.syn_ty.proofs.ty_laws.words.Types.{Sep, no_arguments, Styled, IsSegment, a_word, a_word_with_arguments, IsPath, a_path, Manner, loosely, Parts, Readers, some_arguments, Path, PathArguments, PathSegment}
use Rattle.token_core.specs.Tokens as token
use Rattle.token_core.proofs.Listings.{listed_sound, listed_visible}
use Rattle.token_core.proofs.MarkSpells.{mark_sound, mark_visible}
use Rattle.token_core.proofs.Took.{branch, mapped, seen_word, took_word}
use Rattle.token_core.proofs.Turns.{chain, same_pair}
use Rattle.syn_path.proofs.Words.{TookOne}
use Rattle.syn_path.specs.path.Reading.{leading}
use Rattle.syn_forms.specs.paths.Reading as paths
use Rattle.syn_forms.proofs.tokens_laws.Fronts.{plainly}
use Rattle.syn_ty.proofs.ty_laws.sound.Leaves.{optional_sound}

-- ---- truths joined by `or` and `and`

pub or_first : (b c : Bool) → b ≡ true → b || c ≡ true
or_first true c h = refl
or_first false c h = cc h

or_second : (b c : Bool) → c ≡ true → b || c ≡ true
or_second true c h = refl
or_second false c h = h

pub and_first : (b c : Bool) → b && c ≡ true → b ≡ true
and_first true c h = refl
and_first false c h = cc h

-- `::`
pub sep_took : (s t : Stream) (c : Sep) → Visible s.rest → token.path_sep s ≡ Ok (c, t) → TookOne (IsMark false) s t c
sep_took s t c v e = plainly {Is = IsMark false {n = 1} {k = 2}} (λ a l r i w. mark_visible false {n = 1} {k = 2} a l r i w) s t c v (mark_sound {n = 1} {k = 2} refl (omega arith) s t c v e)

-- in expressions arguments begin with `::`
styled : (style : PathStyle) (l : Toks) → sees_arguments style l ≡ true → Styled style l
unfolding sees_turbofish
styled AsWritten l h = tt
styled Expr l h = and_first _ _ h

module _ {A E : Type 0} (r : Readers A E) (part : Manner → Parts A E)
    (took : (s t : Stream) (x : PathArguments A E) → Visible s.rest → r some_arguments s ≡ Ok (x, t) → TookOne (part loosely).arguments s t x) (style : PathStyle) where
  abbrev Segment : Type 0
  Segment = PathSegment A E

  abbrev Is : Segment → Toks → Toks → Type 0
  Is = IsSegment part loosely style

  named_took : (i : Ident) (l : Toks) (s t : Stream) (x : Segment) → Visible s.rest → l ≡ word i s.rest → is_named_word i.text ≡ true → paths.named_segment no_arguments (r some_arguments) style i s ≡ Ok (x, t) →
      (t.left ≡ None → s.left ≡ None) × Visible t.rest × (t.left ≡ None → Is x l t.rest)
  named_took i l s t x v h m e =
      elim (branch (sees_arguments style s.rest) (with_arguments i <$> r some_arguments) (pure (segment_of no_arguments i)) s (Ok (x, t)) e) [
        | inl y ↦ let k = mapped (r some_arguments s) (with_arguments i) x t y.1 in
            let w = took s t k.value v k.was in
            (w.left, w.seen, λ n. subst (λ z. Is z l t.rest) k.is (subst (λ z. Is (with_arguments i k.value) z t.rest) (sym h) (a_word_with_arguments m (styled style s.rest y.0) (w.spelt n))))
        | inr y ↦ let g = same_pair (segment_of no_arguments i) x s t y.1 in (
          λ n. ap (λ (z : Stream). z.left) g.1 ∙ n,
          subst (λ (z : Stream). Visible z.rest) g.1 v,
          λ n. subst (λ z. Is z l t.rest) g.0 (subst (λ (z : Stream). Is (segment_of no_arguments i) l z.rest) g.1 (subst (λ z. Is (segment_of no_arguments i) z s.rest) (sym h) (a_word (or_first _ _ m)))),
        )
      ]

  pub segment_took : (s t : Stream) (x : Segment) → Visible s.rest → paths.segment no_arguments (r some_arguments) style s ≡ Ok (x, t) → TookOne Is s t x
  unfolding paths.segment
  segment_took s t x v e =
      elim (branch (sees_word is_bare_word s.rest) (segment_of no_arguments <$> read_word any_text ident_name) (read_word is_named_word ident_name >>= paths.named_segment no_arguments (r some_arguments) style) s (Ok (x, t)) e) [
        | inl y ↦ let k = mapped (read_word any_text ident_name s) (segment_of no_arguments) x t y.1 in
            let w = took_word any_text ident_name s t k.value v k.was in
            let m : is_bare_word k.value.text ≡ true = sym (seen_word is_bare_word k.value t.rest) ∙ ap (sees_word is_bare_word) (sym w.is) ∙ y.0 in
            record {
              left = λ n. sym w.left ∙ n;
              seen = subst Visible w.is v;
              spelt = λ n. subst (λ z. Is z s.rest t.rest) k.is (subst (λ z. Is (segment_of no_arguments k.value) z t.rest) (sym w.is) (a_word (or_second _ _ m)));
            }
        | inr y ↦ let c = chain (read_word is_named_word ident_name s) (paths.named_segment no_arguments (r some_arguments) style) x t y.1 in
            let w = took_word is_named_word ident_name s c.rest c.value v c.was in
            let q = named_took c.value s.rest c.rest t x (subst Visible w.is v) w.is w.meets c.goes in
            record { left = λ n. sym w.left ∙ q.0 n; seen = q.1; spelt = q.2 }
      ]

  -- ---- paths

  abbrev pub Segments : Type 0
  Segments = Many Segment Sep

  abbrev pub All : Segments → Toks → Toks → Type 0
  All v l k = AreListed (λ (_ : Bool). Is) (IsMark false) Nowhere true v.0 v.1 l k

  never_ends : (b : Bool) (l : Toks) → never b l ≡ true → Nowhere b
  never_ends b l h = cc h

  pub segments_took : (more : Toks → Bool) (s t : Stream) (v : Segments) → Visible s.rest → paths.segments no_arguments (r some_arguments) more style s ≡ Ok (v, t) → TookOne All s t v
  segments_took more s t v h e =
      let read : Reader Segment = paths.segment no_arguments (r some_arguments) style in
      let both = listed_sound never (λ (_ : Bool). read) more token.path_sep (λ (_ : Bool). Is) (IsMark false) Nowhere (λ (z : Stream). z.left ≡ None) never_ends (λ b a c x u i. (segment_took a c x u i).seen)
      (λ a c x u i. (sep_took a c x u i).seen) (λ b a c x u g i j. let k = segment_took a c x u i in (k.left j, k.spelt j)) (λ a c x u g i j. let k = sep_took a c x u i in (k.left j, k.spelt j)) true s t v h e in
      record {
        left = λ n. (both n).0;
        seen = listed_visible never (λ (_ : Bool). read) more token.path_sep (λ (_ : Bool). Is) (IsMark false) Nowhere (λ (z : Stream). z.left ≡ None) never_ends (λ b a c x u i. (segment_took a c x u i).seen)
            (λ a c x u i. (sep_took a c x u i).seen) (λ b a c x u g i j. let k = segment_took a c x u i in (k.left j, k.spelt j)) (λ a c x u g i j. let k = sep_took a c x u i in (k.left j, k.spelt j)) true s t v h e;
        spelt = λ n. (both n).1;
      }

  pub path_took : (s t : Stream) (x : Path A E) → Visible s.rest → paths.path no_arguments (r some_arguments) style s ≡ Ok (x, t) → TookOne (IsPath part loosely style) s t x
  unfolding paths.path leading
  path_took s t x v e =
      let rest : Option Sep → Reader (Path A E) = λ c. paths.segments no_arguments (r some_arguments) paths.goes_on style >>= (λ all. pure (path_of c all)) in
      let c = chain (optional token.sees_path_sep token.path_sep s) rest x t e in
      let o = optional_sound {Is = IsMark false {n = 1} {k = 2}} token.sees_path_sep token.path_sep sep_took s c.rest c.value v c.was in
      let k = mapped (paths.segments no_arguments (r some_arguments) paths.goes_on style c.rest) (λ (all : Segments). path_of c.value all) x t c.goes in
      let w = segments_took paths.goes_on c.rest t k.value o.seen k.was in
      record {
        left = λ n. o.left (w.left n);
        seen = w.seen;
        spelt = λ n. subst (λ z. IsPath part loosely style z s.rest t.rest) k.is (a_path (o.spelt (w.left n)) (w.spelt n));
      }
