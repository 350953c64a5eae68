-- The law of patterns, tied by the count of turns; and so where all of a list is read as a pattern, as one with a guard or with a type, it is spelt.
use Rattle.std.proofs.Common.{◌≡◌, ℕ, zero, suc, Bool, false, [], None, Ok, inl, inr, refl, sym, ◌∙◌, ap, subst, arith}
use Rattle.syn_pat.proofs.pat_laws.words.Tokens.{Reader, leaves, Visible, IsMark, IsWord, Stream, Toks, done}
use Rattle.syn_pat.proofs.pat_laws.words.Paths.{Place, Guard}
use Rattle.syn_pat.proofs.pat_laws.words.Forms.{Plus, ahead}
use Rattle.syn_pat.proofs.pat_laws.words.Attributes.{Expr}
use Rattle.syn_pat.proofs.pat_laws.words.Types.{Manner, loosely, End, Relation, TypeTree}
use Rattle.syn_pat.proofs.pat_laws.words.Patterns.{PatPlace, Single, LeadingVert, pat, Pat, PatType, Readers, type_names, outer_spelt, types_to, values_spelt, SpellsGuarded, without_guard, with_guard, SpellsPat, SpellsPatType, a_pat_type, pats_to}
use Rattle.token_core.specs.Tokens as token
use Rattle.token_core.proofs.MarkSpells.{mark_sound, mark_visible}
use Rattle.token_core.proofs.Took.{branch, mapped}
use Rattle.token_core.proofs.Turns.{chain, same_pair}
use Rattle.syn_path.proofs.Words.{TookOne}
use Rattle.syn_attr.specs.attr.Attrs.{Attribute as Attr}
use Rattle.syn_attr.specs.declared.expr.Expr.TheVariants as e
use Rattle.syn_forms.specs.nested.Below.{below}
use Rattle.syn_forms.proofs.nested_laws.Below.{out}
use Rattle.syn_forms.proofs.tokens_laws.Fronts.{took_whole}
use Rattle.syn_ty.specs.ty.Fronts as types
use Rattle.syn_ty.specs.ty.Parts.{Told}
use Rattle.syn_ty.proofs.ty_laws.sound.Leaves.{named_sound}
use Rattle.syn_pat.specs.declared.pat.PatOf.TheVariants as pats
use Rattle.syn_pat.specs.pat.Knot as knot
use Rattle.syn_pat.specs.pat.Knot.{guard_after, guarded, read_at, typed, typed_over}
use Rattle.syn_pat.specs.pat.Fronts as fronts
use Rattle.syn_pat.specs.pat.Admitted.{IsPatWhere}
use Rattle.syn_pat.specs.pat.Fronts.{IsSomePat, fronts_to, some_pat_type}
use Rattle.syn_pat.specs.pat.Pats.{guard_of, typed_of}
use Rattle.syn_pat.proofs.pat_laws.sound.Along.{turn_along}
use Rattle.syn_pat.proofs.pat_laws.sound.Cases.{turn_took}
use Rattle.syn_pat.proofs.pat_laws.sound.Colons.{Starts, colon_stops, type_starts}
use Rattle.syn_forms.proofs.along_laws.Kit.{below_along}
use Rattle.syn_pat.proofs.pat_laws.sound.Within.{Before, Held, IsSomeType, Stopping, Stops, SuppliedTold, admitted, done_stops, not_lone, on_fronts, word_stops}

module _ {X : Type 0} (supplied : Place → Reader X) (spells : Place → X → Toks → Type 0) (g : SuppliedTold supplied spells) where
  -- ---- the turns, where a path may be a lone word, and before what stops a pattern there

  below_held : (stops : Toks → Type 0) (limit : ℕ) (r : Readers X) (part : Manner → PatPlace → Relation (Pat X)) → Held stops r part → Held stops (λ (p : PatPlace). below limit (r p)) part
  below_held stops limit r part h = record {
    took = λ p s t x v e. h.took p s t x v (out limit (r p) s t x e).was;
    along = λ p. below_along limit (h.along p);
  }

  module _ {lone : Toks → Bool} (halts : Stopping lone) (part : ℕ → Manner → PatPlace → Relation (Pat X)) (turned : (n : ℕ) (p : PatPlace) (x : Pat X) (l r : Toks) → IsPatWhere spells (part n) loosely lone p x l r → part (suc n) loosely p x l r) where
    no_turn : Held halts.stops (read_at supplied (type_names supplied) zero) (part zero)
    no_turn = record { took = λ p s t x v e. cc e; along = λ p s t x e. cc e }

    a_turn : (n : ℕ) → Held halts.stops (read_at supplied (type_names supplied) n) (part n) → Held halts.stops (read_at supplied (type_names supplied) (suc n)) (part (suc n))
    a_turn n h = record {
      took = λ p s t x v e.
          let k = turn_took halts supplied spells g (λ (q : PatPlace). below (ahead s) (read_at supplied (type_names supplied) n q)) (part n) (below_held halts.stops (ahead s) (read_at supplied (type_names supplied) n) (part n) h) p s t x v e in
          record { left = k.left; seen = k.seen; spelt = λ m stop. turned n p x s.rest t.rest (k.spelt m stop) };
      along = λ p s t x e. turn_along supplied (type_names supplied) g.path_along (λ (q : PatPlace). below (ahead s) (read_at supplied (type_names supplied) n q)) (below_held halts.stops (ahead s) (read_at supplied (type_names supplied) n) (part n) h).along p s t x e;
    }

    turns : (n : ℕ) → Held halts.stops (read_at supplied (type_names supplied) n) (part n)
    turns zero = no_turn
    turns (suc n) = a_turn n (turns n)

  pub turns_told : (n : ℕ) → Held Stops (read_at supplied (type_names supplied) n) (pats_to spells n)
  turns_told = turns admitted (pats_to spells) (λ n p x l r i. i)

  -- ---- patterns, at some height

  -- an admitted one, where neither `::` before parentheses nor `!=` follows
  pub pat_told : (place : PatPlace) (s t : Stream) (x : Pat X) → Visible s.rest → pat supplied (type_names supplied) place s ≡ Ok (x, t) → TookOne (Before Stops (IsSomePat spells place)) s t x
  unfolding pat
  pat_told place s t x v e =
      let k = (turns_told (suc (ahead s))).took place s t x v e in
      record { left = k.left; seen = k.seen; spelt = λ n stop. (ahead s, k.spelt n stop) }

  -- on the front of a list: its last word may be a path there, and is none where it stops
  pub pat_took : (place : PatPlace) (s t : Stream) (x : Pat X) → Visible s.rest → pat supplied (type_names supplied) place s ≡ Ok (x, t) → TookOne (fronts.pat spells place) s t x
  unfolding pat
  pat_took place s t x v e =
      let k = (turns on_fronts (fronts_to spells) (λ n p y l r i. i) (suc (ahead s))).took place s t x v e in
      let a = pat_told place s t x v e in
      record { left = k.left; seen = k.seen; spelt = λ n. ((ahead s, k.spelt n tt), λ h. a.spelt n (not_lone t.rest h)) }

  -- all of a list
  pub pat_sound : (place : PatPlace) (s t : Stream) (x : Pat X) → Visible s.rest → pat supplied (type_names supplied) place s ≡ Ok (x, t) → leaves t ≡ None → SpellsPat spells place loosely x s.rest
  pat_sound place s t x v e n = took_whole {Is = Before Stops (IsSomePat spells place)} s t x (pat_told place s t x v e) n done_stops

  -- ---- with a guard

  guard_at : (x : Pat X) (w : token.If) (y : X) (l m k : Toks) → IsSomePat spells LeadingVert x l m → IsWord w m k → spells Guard y k → SpellsGuarded spells loosely (pats.Guard (guard_of [] x w (e.Other y))) l
  guard_at x w y l m k i j f = with_guard i.0 i.1 j f

  pub guarded_sound : (s t : Stream) (x : Pat X) → Visible s.rest → guarded supplied (type_names supplied) s ≡ Ok (x, t) → leaves t ≡ None → SpellsGuarded spells loosely x s.rest
  unfolding guarded
  guarded_sound s t x v d n =
      let c = chain (pat supplied (type_names supplied) LeadingVert s) (guard_after supplied (type_names supplied)) x t d in
      let k = pat_told LeadingVert s c.rest c.value v c.was in
      elim (branch (token.sees_if c.rest.rest) _ _ c.rest (Ok (x, t)) c.goes) [
        | inl y ↦ let f = chain (token.if_word c.rest) _ x t y.1 in
            let w = named_sound {n = 11} c.rest f.rest f.value k.seen f.was in
            let with : X → Pat X = λ z. pats.Guard (guard_of [] c.value f.value (e.Other z)) in
            let m = mapped (supplied Guard f.rest) with x t f.goes in
            let q = g.guard f.rest t m.value w.seen m.was n in
            let i = w.spelt q.0 in
            subst (λ z. SpellsGuarded spells loosely z s.rest) m.is
            (guard_at c.value f.value m.value s.rest c.rest.rest f.rest.rest (k.spelt (w.left q.0) (word_stops f.value c.rest.rest f.rest.rest i)) i q.1)
        | inr y ↦ let q = same_pair c.value x c.rest t y.1 in
            let ends = ap leaves q.1 ∙ n in
            subst (λ z. SpellsGuarded spells loosely z s.rest) q.0 (without_guard (took_whole {Is = Before Stops (IsSomePat spells LeadingVert)} s c.rest c.value k ends done_stops))
      ]

  -- ---- with a type

  -- it does not begin with a lone `:`
  some_starts : (n : ℕ) (f : End) (x : TypeTree (Attr X) (Expr X)) (l k : Toks) → (types_to spells n loosely).ty Plus f x l k → Starts l
  some_starts zero f x l k i = absurd i
  some_starts (suc n) f x l k i = type_starts (types_to spells n) Plus f x l k i

  -- a type of some height is what the reader of types takes on a front
  some_type : (n : ℕ) (x : TypeTree (Attr X) (Expr X)) (l k : Toks) → Told ((types_to spells n loosely).ty Plus) x l k → types.ty (outer_spelt spells) (values_spelt spells) Plus x l k
  some_type zero x l k i = absurd i.1
  some_type (suc n) x l k i = (n, i)

  -- what a pattern, `:` and a type spell, where the pattern stops before the `:`
  typed_at : (x : Pat X) (c : token.Colon) (y : TypeTree (Attr X) (Expr X)) (l m j r : Toks) → Visible j → Before Stops (IsSomePat spells Single) x l m → IsMark false c m j → IsSomeType spells y j r → fronts.typed spells (typed_of [] x c y) l r
  typed_at x c y l m j r v i k f = some_pat_type (i (colon_stops c m j v k (some_starts f.0 f.1.0 y j r f.1.1))) k (some_type f.0 y j r f.1)

  -- on the front of a list
  pub typed_took : (s t : Stream) (x : PatType X) → Visible s.rest → typed supplied s ≡ Ok (x, t) → TookOne (fronts.typed spells) s t x
  unfolding typed_over
  typed_took s t x v d =
      let c = chain (pat supplied (type_names supplied) Single s) _ x t d in
      let k = pat_told Single s c.rest c.value v c.was in
      let f = chain (token.colon c.rest) _ x t c.goes in
      let kf = mark_sound {n = 7} {k = 1} refl (omega arith) c.rest f.rest f.value k.seen f.was in
      let vf = mark_visible false {n = 7} {k = 1} f.value c.rest.rest f.rest.rest kf.spelt k.seen in
      let with : TypeTree (Attr X) (Expr X) → PatType X = λ z. typed_of [] c.value f.value z in
      let m = mapped (knot.ty supplied f.rest) with x t f.goes in
      let q = g.ty f.rest t m.value vf m.was in
      record {
        left = λ n. k.left (sym kf.left ∙ q.left n);
        seen = q.seen;
        spelt = λ n. subst (λ z. fronts.typed spells z s.rest t.rest) m.is
            (typed_at c.value f.value m.value s.rest c.rest.rest f.rest.rest t.rest vf (k.spelt (sym kf.left ∙ q.left n)) kf.spelt (q.spelt n));
      }

  -- all of a list
  pub typed_whole : (x : PatType X) (l : Toks) → fronts.typed spells x l done → SpellsPatType spells loosely x l
  typed_whole x l (some_pat_type i j h) = a_pat_type i.0 (suc h.0) h.1.0 i.1 j h.1.1

  pub typed_sound : (s t : Stream) (x : PatType X) → Visible s.rest → typed supplied s ≡ Ok (x, t) → leaves t ≡ None → SpellsPatType spells loosely x s.rest
  typed_sound s t x v d n = typed_whole x s.rest (took_whole {Is = fronts.typed spells} s t x (typed_took s t x v d) n)
