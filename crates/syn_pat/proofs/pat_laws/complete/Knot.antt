-- The read of patterns, tied, is complete: at every height of a pattern, what a list spells clearly is what it answers, and it takes no more; and so is the read of one with a guard and of one with a type.
use Rattle.std.proofs.Common.{◌≡◌, ℕ, zero, suc, ◌≤◌, true, false, [], Option, None, Ok, refl, ◌∙◌, arith}
use Rattle.syn_pat.proofs.pat_laws.words.Tokens.{Span, IsMark, Reader, is_done, leaves, sees_mark, sees_word, Scope, Stream, Toks, done}
use Rattle.syn_pat.proofs.pat_laws.words.Paths.{Place}
use Rattle.syn_pat.proofs.pat_laws.words.Forms.{Plus, ahead}
use Rattle.syn_pat.proofs.pat_laws.words.Types.{clearly, End, TypeTree}
use Rattle.syn_pat.proofs.pat_laws.words.Attributes.{Expr}
use Rattle.syn_pat.proofs.pat_laws.words.Patterns.{types_to, type_names, PatPlace, Single, LeadingVert, IsPat, pat, Pat, PatType, SpellsGuarded, without_guard, with_guard, SpellsPat, SpellsPatType, a_pat_type, pats_to}
use Rattle.token_core.specs.Tokens as token
use Rattle.token_core.proofs.MarkSpells.{mark_complete}
use Rattle.token_core.proofs.Steps.{Reads_to, chosen, link}
use Rattle.token_core.proofs.Took.{at, leaves_none}
use Rattle.token_core.proofs.WordSpells.{word_complete, word_seen}
use Rattle.syn_path.proofs.Words.{uses_none}
use Rattle.syn_attr.specs.attr.Attrs.{Attribute as Attr}
use Rattle.syn_ty.proofs.ty_laws.complete.Knot.{below_met}
use Rattle.syn_ty.proofs.ty_laws.complete.Bound.{done_fits}
use Rattle.syn_ty.proofs.ty_laws.complete.Within.{Fits, Less}
use Rattle.syn_pat.specs.pat.Pats.{typed_of}
use Rattle.syn_pat.specs.pat.Knot.{guard_after, guarded, pats_below, typed, typed_over}
use Rattle.syn_pat.proofs.pat_laws.complete.Cases.{turn_met}
use Rattle.syn_pat.proofs.pat_laws.complete.Firsts.{pat_less, pat_there}
use Rattle.syn_pat.proofs.pat_laws.Knot.{turn}
use Rattle.syn_pat.proofs.pat_laws.complete.Within.{EndsIn, Meets, SuppliedMeets, at_colon, end_in, if_in, single_in}

module _ {X : Type 0} (supplied : Place → Reader X) (spells : Place → X → Toks → Type 0) (g : SuppliedMeets supplied spells) where
  -- ---- at each height a pattern takes tokens

  less_to : (n : ℕ) (p : PatPlace) (x : Pat X) (l k : Toks) → pats_to spells n clearly p x l k → Less l k
  less_to zero p x l k i = absurd i
  less_to (suc n) p x l k i = pat_less supplied spells g (pats_to spells n) (less_to n) p x l k i

  there_to : (n : ℕ) (p : PatPlace) (x : Pat X) (l k : Toks) → pats_to spells n clearly p x l k → is_done l ≡ false
  there_to zero p x l k i = absurd i
  there_to (suc n) p x l k i = pat_there supplied spells g (pats_to spells n) (less_to n) p x l k i

  -- ---- all turns: what a pattern holds is read where less is left, so by induction on that

  -- the reads further on meet the patterns of all heights
  abbrev Below : Stream → Type 0
  Below s = (n : ℕ) → Meets (pats_below supplied (type_names supplied) (ahead s)) (pats_to spells n) (ahead s)

  pat_by : (n : ℕ) (p : PatPlace) (x : Pat X) (l k : Toks) (f : Option Span) (e : Span) (sc : Scope) → Below (at l f e sc) → IsPat spells (pats_to spells n) clearly p x l k → EndsIn p k → Reads_to (pat supplied (type_names supplied) p) x l k f e sc
  pat_by n p x l k f e sc m i o =
      let s = at l f e sc in
      let w = turn_met supplied spells g (pats_below supplied (type_names supplied) (ahead s)) (pats_to spells n) (ahead s) (m n) p x l k f e sc (omega arith) i o in
      record { last = w.last; reads = turn supplied (type_names supplied) p s ∙ w.reads }

  -- up to a number, below which the limit stays
  meets_to : (m limit : ℕ) → limit ≤ m → (n : ℕ) → Meets (pats_below supplied (type_names supplied) limit) (pats_to spells n) limit
  meets_to m limit h zero = record { pat = λ p x l k f e sc z i. absurd i; there = there_to zero; less = less_to zero }
  meets_to zero limit h (suc n) = record { pat = λ p x l k f e sc z. absurd (omega (arith, h, z)); there = there_to (suc n); less = less_to (suc n) }
  meets_to (suc m) limit h (suc n) = record {
    pat = λ p x l k f e sc z i o. below_met (pat supplied (type_names supplied)) limit p x l k f e sc z (pat_by n p x l k f e sc (meets_to m (ahead (at l f e sc)) (omega (arith, h, z))) i o);
    there = there_to (suc n);
    less = less_to (suc n);
  }

  pub knot_met : (limit n : ℕ) → Meets (pats_below supplied (type_names supplied) limit) (pats_to spells n) limit
  knot_met limit = meets_to limit limit (omega arith)

  -- on the front of a list
  pub pat_met : (n : ℕ) (p : PatPlace) (x : Pat X) (l k : Toks) (f : Option Span) (e : Span) (sc : Scope) → IsPat spells (pats_to spells n) clearly p x l k → EndsIn p k → Reads_to (pat supplied (type_names supplied) p) x l k f e sc
  pat_met n p x l k f e sc i o = pat_by n p x l k f e sc (knot_met (ahead (at l f e sc))) i o

  -- ---- all of a list

  -- what a whole read answers
  abbrev Whole : {F : Type 0} → Reader F → F → Stream → Type 0
  Whole reader x s = (t : Stream) × (reader s ≡ Ok (x, t)) × (leaves t ≡ None)

  pub pat_complete : (p : PatPlace) (s : Stream) (x : Pat X) → s.left ≡ None → SpellsPat spells p clearly x s.rest → Whole (pat supplied (type_names supplied) p) x s
  pat_complete p s x n i =
      let w = pat_met i.0 p x s.rest done s.left s.last s.scope i.1 (end_in p) in
      (at done s.left w.last s.scope, w.reads, leaves_none s.left w.last s.scope n)

  -- ---- with a guard

  no_if : token.sees_if done ≡ false
  unfolding sees_word
  no_if = refl

  pub guarded_complete : (s : Stream) (x : Pat X) → s.left ≡ None → SpellsGuarded spells clearly x s.rest → Whole (guarded supplied (type_names supplied)) x s
  unfolding guarded
  guarded_complete s x n (without_guard i) =
      let w = pat_met i.0 LeadingVert x s.rest done s.left s.last s.scope i.1 (end_in LeadingVert) in
      let t = at done s.left w.last s.scope in
      (t, link (guard_after supplied (type_names supplied)) w.reads (chosen (token.sees_if done) false _ _ t _ no_if refl), leaves_none s.left w.last s.scope n)
  guarded_complete s x n (with_guard {x = y} {w = c} {g = z} {m = m} {k = k} h i j q) =
      let w = pat_met h LeadingVert y s.rest m s.left s.last s.scope i (if_in LeadingVert c m k j) in
      let a = word_complete {n = 11} c m k s.left w.last s.scope j in
      let u = g.guard (at k s.left a.last s.scope) z q in
      (u.0, link (guard_after supplied (type_names supplied)) w.reads (chosen (token.sees_if m) true _ _ (at m s.left w.last s.scope) _ (word_seen {n = 11} c m k j) (link _ a.reads (link _ u.1 refl))), uses_none (at k s.left a.last s.scope) u.0 n u.2)

  -- ---- with a type

  pub typed_met : (h z : ℕ) (d : End) (y : Pat X) (c : token.Colon) (t : TypeTree (Attr X) (Expr X)) (l m j k : Toks) (f : Option Span) (e : Span) (sc : Scope) → IsPat spells (pats_to spells h) clearly Single y l m → IsMark true c m j → (types_to spells z clearly).ty Plus d t j k → Fits d k → token.sees_plus k ≡ false → Reads_to (typed supplied) (typed_of [] y c t) l k f e sc
  unfolding typed_over
  typed_met h z d y c t l m j k f e sc i q v o n =
      let w = pat_met h Single y l m f e sc i (single_in m (at_colon c m j q)) in
      let a = mark_complete true {n = 7} {k = 1} refl (omega arith) c m j f w.last sc q in
      let u = g.ty z d t j k f a.last sc v o n in
      record { last = u.last; reads = link _ w.reads (link _ a.reads (link _ u.reads refl)) }

  no_plus : token.sees_plus done ≡ false
  unfolding sees_mark
  no_plus = refl

  pub typed_complete : (s : Stream) (x : PatType X) → s.left ≡ None → SpellsPatType spells clearly x s.rest → Whole (typed supplied) x s
  typed_complete s x n (a_pat_type {x = y} {c = c} {t = t} {m = m} {j = j} h z d i q v) =
      let w = typed_met h z d y c t s.rest m j done s.left s.last s.scope i q v (done_fits d) no_plus in
      (at done s.left w.last s.scope, w.reads, leaves_none s.left w.last s.scope n)
