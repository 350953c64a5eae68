-- Where const blocks, the ends of ranges and ranges are read, they are spelt; what follows a start is told by what the start spells before it.
use Rattle.std.proofs.Common.{◌≡◌, Bool, true, false, [], Option, Some, None, Ok, inl, inr, subst}
use Rattle.syn_pat.proofs.pat_laws.words.Tokens.{Lit, RangeLimits, DelimSpan, Brace, sees_lit, Reader, in_group, Visible, IsLit, IsWord, AreLimits, half_open, AreOldLimits, new_limits, Stream, Toks}
use Rattle.syn_pat.proofs.pat_laws.words.Paths.{Place, Block}
use Rattle.syn_pat.proofs.pat_laws.words.Attributes.{lit_of, ExprConstOf}
use Rattle.syn_pat.proofs.pat_laws.words.Types.{Manner, loosely, IsOptional, absent, present, Relation}
use Rattle.syn_pat.proofs.pat_laws.words.Patterns.{PatPlace, IsSingleWhere, a_const, a_literal, a_range, a_rest, Pat, PatRange, PatRangeBound, pat_range_of, path_pat_of, rest_of, after_bound, begins_bound, bound_or_range, ends_range, qpath, range_after, sees_bound_path, type_names, IsConstBlock, a_const_block, a_pat_path, IsEnd, a_literal_end, a_path_end, a_const_end, IsStart, a_literal_start, a_const_start, IsRange, without_end, without_start, with_both}
use Rattle.token_core.specs.declared.range.RangeLimits.TheVariants as limits
use Rattle.token_core.specs.Groups as groups
use Rattle.token_core.specs.Lits.{read_lit}
use Rattle.token_core.specs.Ranges as ranges
use Rattle.token_core.specs.Tokens as token
use Rattle.token_core.proofs.LimitSpells.{limits_sound, limits_visible, old_limits_sound, old_limits_visible}
use Rattle.token_core.proofs.LitSpells.{lit_sound, lit_visible}
use Rattle.token_core.proofs.Took.{branch, mapped}
use Rattle.token_core.proofs.Turns.{chain, same_pair}
use Rattle.syn_path.proofs.Words.{TookOne}
use Rattle.syn_attr.specs.attr.Attrs.{Attribute as Attr, const_of}
use Rattle.syn_forms.proofs.tokens_laws.Fronts.{plainly, took_as}
use Rattle.syn_ty.proofs.ty_laws.sound.Leaves.{IsHeld, held_sound, named_sound, twice}
use Rattle.syn_pat.specs.declared.pat.PatOf.TheVariants as v
use Rattle.syn_pat.specs.declared.pat.PatRangeBoundOf.TheVariants as b
use Rattle.syn_pat.specs.pat.Reading.{bound, bound_as_pat, const_block, ended, half_of, half_open as half_open_range, optional_bound, range}
use Rattle.syn_pat.proofs.pat_laws.sound.Names.{no_path_bound, no_try_bound}
use Rattle.syn_pat.proofs.pat_laws.sound.Within.{AnyPath, Before, IsSomePath, Stopping, SuppliedTold, TookOn}

module _ {X : Type 0} (supplied : Place → Reader X) (spells : Place → X → Toks → Type 0) (g : SuppliedTold supplied spells) where
  -- ---- const blocks

  block_at : (w : token.Const) (p : DelimSpan × X) (l m k : Toks) → IsWord w l m → IsHeld Brace (spells Block) p m k → IsConstBlock spells (const_of [] w (groups.brace p.0) p.1) l k
  block_at w p l m k i j = a_const_block (subst (λ z. IsWord w l z) j.is i) j.holds

  pub block_took : (s t : Stream) (x : ExprConstOf (Attr X) X) → Visible s.rest → const_block supplied s ≡ Ok (x, t) → TookOne (IsConstBlock spells) s t x
  unfolding const_block
  block_took s t x v e =
      let c = chain (token.const_word s) _ x t e in
      let k = named_sound {n = 6} s c.rest c.value v c.was in
      let h = twice (in_group Brace groups.brace_name (supplied Block) c.rest) (λ p. (groups.brace p.0, p.1)) (λ p. const_of [] c.value p.0 p.1) x t c.goes in
      let w = held_sound Brace (spells Block) groups.brace_name (supplied Block) g.body c.rest t h.value k.seen h.was in
      record {
        left = λ n. k.left (w.left n);
        seen = w.seen;
        spelt = λ n. subst (λ z. IsConstBlock spells z s.rest t.rest) h.is (block_at c.value h.value s.rest c.rest.rest t.rest (k.spelt (w.left n)) (w.spelt n));
      }

  -- ---- ends

  lit_took : (s t : Stream) (x : Lit) → Visible s.rest → read_lit s ≡ Ok (x, t) → TookOne IsLit s t x
  lit_took s t x v e = plainly {Is = IsLit} lit_visible s t x v (lit_sound s t x v e)

  abbrev pub End : PatRangeBound X → Toks → Toks → Type 0
  End = IsEnd spells loosely

  path_end : (q : AnyPath X) (l r : Toks) → token.sees_try l ≡ false → IsSomePath spells q l r → End (b.Path (path_pat_of [] q.0 q.1)) l r
  path_end q l r h i = a_path_end (a_pat_path i.0 (i.1, h))

  pub bound_took : (s t : Stream) (x : PatRangeBound X) → Visible s.rest → bound supplied (type_names supplied) s ≡ Ok (x, t) → TookOne End s t x
  unfolding bound
  bound_took s t x v e =
      elim (branch (sees_lit s.rest) _ _ s (Ok (x, t)) e) [
        | inl y ↦ let k = mapped (read_lit s) (λ z. b.Lit (lit_of [] z)) x t y.1 in
            took_as {Is = IsLit} {Js = End} (λ z. b.Lit (lit_of [] z)) s t k.value x k.is (λ l m i. a_literal_end i) (lit_took s t k.value v k.was)
        | inr y ↦ elim (branch (sees_bound_path s.rest) _ _ s (Ok (x, t)) y.1) [
          | inl z ↦ let k = mapped (qpath supplied s) (λ p. b.Path (path_pat_of [] p.0 p.1)) x t z.1 in
              let w = g.path s t k.value v k.was in
              record { left = w.left; seen = w.seen; spelt = λ n. subst (λ u. End u s.rest t.rest) k.is (path_end k.value s.rest t.rest (no_try_bound s.rest v z.0) (w.spelt n)) }
          | inr z ↦ elim (branch (token.sees_const s.rest) _ _ s (Ok (x, t)) z.1) [
            | inl u ↦ let k = mapped (const_block supplied s) b.Const x t u.1 in
                took_as {Is = IsConstBlock spells} {Js = End} b.Const s t k.value x k.is (λ l m i. a_const_end i) (block_took s t k.value v k.was)
            | inr u ↦ cc u.1
          ]
        ]
      ]

  pub optional_bound_took : (s t : Stream) (x : Option (PatRangeBound X)) → Visible s.rest → optional_bound supplied (type_names supplied) s ≡ Ok (x, t) → TookOne (IsOptional End) s t x
  unfolding optional_bound
  optional_bound_took s t x v e =
      elim (branch (ends_range s.rest) _ _ s (Ok (x, t)) e) [
        | inl y ↦ let q = same_pair None x s t y.1 in
            subst (λ z. TookOne (IsOptional End) s t z) q.0 (subst (λ z. TookOne (IsOptional End) s z None) q.1 (record { left = λ n. n; seen = v; spelt = λ n. absent }))
        | inr y ↦ let k = mapped (bound supplied (type_names supplied) s) (λ (z : PatRangeBound X). Some z) x t y.1 in
            took_as {Is = End} {Js = IsOptional End} (λ (z : PatRangeBound X). Some z) s t k.value x k.is (λ l m i. present i) (bound_took s t k.value v k.was)
      ]

  old_limits_took : (s t : Stream) (x : RangeLimits) → Visible s.rest → ranges.read_obsolete s ≡ Ok (x, t) → TookOne (AreOldLimits false) s t x
  old_limits_took s t x v e = plainly {Is = AreOldLimits false} (old_limits_visible false) s t x v (old_limits_sound s t x v e)

  limits_took : (s t : Stream) (x : RangeLimits) → Visible s.rest → ranges.read s ≡ Ok (x, t) → TookOne (AreLimits false) s t x
  limits_took s t x v e = plainly {Is = AreLimits false} (limits_visible false) s t x v (limits_sound s t x v e)

  -- ---- ranges

  module _ {lone : Toks → Bool} (halts : Stopping lone) (part : Manner → PatPlace → Relation (Pat X)) where
    abbrev Single : Pat X → Toks → Toks → Type 0
    Single = IsSingleWhere spells part loosely lone

    abbrev Start : PatRangeBound X → Toks → Toks → Type 0
    Start = IsStart spells loosely

    abbrev Of : PatRange X → Toks → Toks → Type 0
    Of = IsRange spells loosely

    open_at : (x : PatRangeBound X) (d : token.DotDot) (l m n k : Toks) → Start x l m → AreOldLimits false (limits.HalfOpen d) m n → IsOptional End None n k → Of (pat_range_of [] (Some x) (limits.HalfOpen d) None) l k
    open_at x d l m n k i (new_limits (half_open j)) absent = without_end i j

    both_at : (x y : PatRangeBound X) (o : RangeLimits) (l m n k : Toks) → Start x l m → AreOldLimits false o m n → IsOptional End (Some y) n k → Of (pat_range_of [] (Some x) o (Some y)) l k
    both_at x y o l m n k i j (present h) = with_both i j h

    -- a range that was ended
    ended_is : (x : PatRangeBound X) (o : RangeLimits) (f : Option (PatRangeBound X)) (l m n : Toks) (s t : Stream) (y : Pat X) → ended (Some x) o f s ≡ Ok (y, t) →
        (s ≡ t) × (Start x l m → AreOldLimits false o m n → IsOptional End f n s.rest → Single y l s.rest)
    ended_is x (limits.HalfOpen d) None l m n s t y e =
        let q = same_pair (range (Some x) (limits.HalfOpen d) None) y s t e in (q.1, λ i j h. subst (λ z. Single z l s.rest) q.0 (a_range (open_at x d l m n s.rest i j h)))
    ended_is x (limits.HalfOpen d) (Some f) l m n s t y e =
        let q = same_pair (range (Some x) (limits.HalfOpen d) (Some f)) y s t e in (q.1, λ i j h. subst (λ z. Single z l s.rest) q.0 (a_range (both_at x f (limits.HalfOpen d) l m n s.rest i j h)))
    ended_is x (limits.Closed d) (Some f) l m n s t y e =
        let q = same_pair (range (Some x) (limits.Closed d) (Some f)) y s t e in (q.1, λ i j h. subst (λ z. Single z l s.rest) q.0 (a_range (both_at x f (limits.Closed d) l m n s.rest i j h)))
    ended_is x (limits.Closed d) None l m n s t y e = cc

    pub range_after_took : (x : PatRangeBound X) (l : Toks) (s t : Stream) (y : Pat X) → Visible s.rest → range_after supplied (type_names supplied) x s ≡ Ok (y, t) → TookOn s t (Start x l s.rest → Single y l t.rest)
    unfolding range_after
    range_after_took x l s t y v e =
        let c = chain (ranges.read_obsolete s) _ y t e in
        let k = old_limits_took s c.rest c.value v c.was in
        let d = chain (optional_bound supplied (type_names supplied) c.rest) _ y t c.goes in
        let w = optional_bound_took c.rest d.rest d.value k.seen d.was in
        let q = ended_is x c.value d.value l s.rest c.rest.rest d.rest t y d.goes in
        let all : TookOn s d.rest (Start x l s.rest → Single y l d.rest.rest) = record { left = λ n. k.left (w.left n); seen = w.seen; told = λ n i. q.1 i (k.spelt (w.left n)) (w.spelt n) } in
        subst (λ (z : Stream). TookOn s z (Start x l s.rest → Single y l z.rest)) q.0 all

    -- without a start
    start_at : (y : PatRangeBound X) (o : RangeLimits) (l m k : Toks) → AreLimits false o l m → IsOptional End (Some y) m k → Of (pat_range_of [] None o (Some y)) l k
    start_at y o l m k i (present h) = without_start i h

    rest_at : (d : token.DotDot) (l m k : Toks) → AreLimits false (limits.HalfOpen d) l m → IsOptional End None m k → Single (v.Rest (rest_of [] d)) l k
    rest_at d l m k (half_open i) absent = a_rest i

    half_is : (o : RangeLimits) (f : Option (PatRangeBound X)) (l m : Toks) (s t : Stream) (y : Pat X) → half_of o f s ≡ Ok (y, t) → (s ≡ t) × (AreLimits false o l m → IsOptional End f m s.rest → Single y l s.rest)
    half_is (limits.HalfOpen d) None l m s t y e = let q = same_pair (v.Rest (rest_of [] d)) y s t e in (q.1, λ i h. subst (λ z. Single z l s.rest) q.0 (rest_at d l m s.rest i h))
    half_is (limits.HalfOpen d) (Some f) l m s t y e =
        let q = same_pair (range None (limits.HalfOpen d) (Some f)) y s t e in (q.1, λ i h. subst (λ z. Single z l s.rest) q.0 (a_range (start_at f (limits.HalfOpen d) l m s.rest i h)))
    half_is (limits.Closed d) (Some f) l m s t y e =
        let q = same_pair (range None (limits.Closed d) (Some f)) y s t e in (q.1, λ i h. subst (λ z. Single z l s.rest) q.0 (a_range (start_at f (limits.Closed d) l m s.rest i h)))
    half_is (limits.Closed d) None l m s t y e = cc

    -- `..`, or `..` or `..=` and an end
    pub half_took : (s t : Stream) (y : Pat X) → Visible s.rest → half_open_range supplied (type_names supplied) s ≡ Ok (y, t) → TookOne Single s t y
    unfolding half_open_range
    half_took s t y v e =
        let c = chain (ranges.read s) _ y t e in
        let k = limits_took s c.rest c.value v c.was in
        let d = chain (optional_bound supplied (type_names supplied) c.rest) _ y t c.goes in
        let w = optional_bound_took c.rest d.rest d.value k.seen d.was in
        let q = half_is c.value d.value s.rest c.rest.rest d.rest t y d.goes in
        let all : TookOne Single s d.rest y = record { left = λ n. k.left (w.left n); seen = w.seen; spelt = λ n. q.1 (k.spelt (w.left n)) (w.spelt n) } in
        subst (λ z. TookOne Single s z y) q.0 all

    -- ---- a bound, or the range that it begins

    -- as a start, where `..` follows, and else as a pattern by itself
    abbrev pub AsStart : PatRangeBound X → Toks → Toks → Type 0
    AsStart x l r = (token.sees_dot_dot r ≡ true → Start x l r) × (token.sees_dot_dot r ≡ false → Before halts.stops Single (bound_as_pat x) l r)

    pub after_bound_took : (x : PatRangeBound X) (l : Toks) (s t : Stream) (y : Pat X) → Visible s.rest → after_bound supplied (type_names supplied) x s ≡ Ok (y, t) → TookOn s t (AsStart x l s.rest → Before halts.stops Single y l t.rest)
    unfolding after_bound
    after_bound_took x l s t y v e =
        elim (branch (token.sees_dot_dot s.rest) _ _ s (Ok (y, t)) e) [
          | inl z ↦ let w = range_after_took x l s t y v z.1 in record { left = w.left; seen = w.seen; told = λ n i o. w.told n (i.0 z.0) }
          | inr z ↦ let q = same_pair (bound_as_pat x) y s t z.1 in
              subst (λ u. TookOn s t (AsStart x l s.rest → Before halts.stops Single u l t.rest)) q.0
              (subst (λ (u : Stream). TookOn s u (AsStart x l s.rest → Before halts.stops Single (bound_as_pat x) l u.rest)) q.1 (record { left = λ n. n; seen = v; told = λ n i. i.1 z.0 }))
        ]

    literal_told : (x : Lit) (l r : Toks) → IsLit x l r → AsStart (b.Lit (lit_of [] x)) l r
    literal_told x l r i = (λ h. a_literal_start i, λ h o. a_literal i)

    block_told : (x : ExprConstOf (Attr X) X) (l r : Toks) → IsConstBlock spells x l r → AsStart (b.Const x) l r
    block_told x l r i = (λ h. a_const_start i, λ h o. a_const i)

    -- a literal or a const block
    begun_took : (s t : Stream) (x : PatRangeBound X) → Visible s.rest → begins_bound s.rest ≡ true → bound supplied (type_names supplied) s ≡ Ok (x, t) → TookOne AsStart s t x
    unfolding bound
    begun_took s t x v h e =
        elim (branch (sees_lit s.rest) _ _ s (Ok (x, t)) e) [
          | inl y ↦ let k = mapped (read_lit s) (λ z. b.Lit (lit_of [] z)) x t y.1 in
              took_as {Is = IsLit} {Js = AsStart} (λ z. b.Lit (lit_of [] z)) s t k.value x k.is (λ l m i. literal_told k.value l m i) (lit_took s t k.value v k.was)
          | inr y ↦ elim (branch (sees_bound_path s.rest) _ _ s (Ok (x, t)) y.1) [
            | inl z ↦ absurd (no_path_bound s.rest v h y.0 z.0)
            | inr z ↦ elim (branch (token.sees_const s.rest) _ _ s (Ok (x, t)) z.1) [
              | inl u ↦ let k = mapped (const_block supplied s) b.Const x t u.1 in
                  took_as {Is = IsConstBlock spells} {Js = AsStart} b.Const s t k.value x k.is (λ l m i. block_told k.value l m i) (block_took s t k.value v k.was)
              | inr u ↦ cc u.1
            ]
          ]
        ]

    pub bound_or_range_took : (s t : Stream) (y : Pat X) → Visible s.rest → begins_bound s.rest ≡ true → bound_or_range supplied (type_names supplied) s ≡ Ok (y, t) → TookOne (Before halts.stops Single) s t y
    unfolding bound_or_range
    bound_or_range_took s t y v h e =
        let c = chain (bound supplied (type_names supplied) s) (after_bound supplied (type_names supplied)) y t e in
        let k = begun_took s c.rest c.value v h c.was in
        let w = after_bound_took c.value s.rest c.rest t y k.seen c.goes in
        record { left = λ n. k.left (w.left n); seen = w.seen; spelt = λ n. w.told n (k.spelt (w.left n)) }
