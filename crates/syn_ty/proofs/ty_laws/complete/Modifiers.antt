-- The modifiers of a trait bound, spelt clearly, are what their read answers and all that it takes, where what follows begins with none of them.
use Rattle.std.proofs.Common.{◌≡◌, Bool, true, false, Option, None, Ok, refl}
use Rattle.syn_ty.proofs.ty_laws.words.Tokens.{DelimSpan, Span, Bracket, sees_group, sees_word, IsWord, is_word, Scope, Stream, Toks, done, group}
use Rattle.syn_ty.proofs.ty_laws.words.Forms.{in_brackets}
use Rattle.syn_ty.proofs.ty_laws.words.Types.{BoundConst, TraitBoundModifiers, IsConstness, no_constness, a_const, a_conditional_const, AreModifiers, some_modifiers, IsOptional, absent, present}
use Rattle.token_core.specs.Groups as groups
use Rattle.token_core.specs.Tokens as token
use Rattle.token_core.proofs.Steps.{link, chosen, Reads_to}
use Rattle.token_core.proofs.Took.{at, leaves_none}
use Rattle.token_core.proofs.WordSpells.{word_complete, word_seen}
use Rattle.syn_forms.specs.tokens.Reading.{asyncness}
use Rattle.syn_forms.proofs.groups_laws.Complete.{reads_inside}
use Rattle.syn_ty.specs.generics.Reading as reading
use Rattle.syn_ty.specs.generics.Reading.{allowed}
use Rattle.syn_ty.proofs.ty_laws.complete.Less.{group_less, no_no, optional_no, same, some, word_takes}
use Rattle.syn_ty.proofs.ty_laws.complete.Within.{NoMore}

-- ---- where no modifier begins

record NoForm (l : Toks) : Type 0 where
  no_bracket : sees_group Bracket l ≡ false
  no_const : token.sees_const l ≡ false

pub record Unmodified (l : Toks) : Type 0 where
  pub no_bracket : sees_group Bracket l ≡ false
  pub no_const : token.sees_const l ≡ false
  pub no_async : token.sees_async l ≡ false

unformed : (l : Toks) → Unmodified l → NoForm l
unformed l u = record { no_bracket = u.no_bracket; no_const = u.no_const }

-- `async` is no `const` form
async_unformed : (o : Option token.Async) (l k : Toks) → IsOptional IsWord o l k → Unmodified k → NoForm l
unfolding sees_word sees_group
async_unformed o l k absent u = unformed l u
async_unformed o l k (present is_word) u = record { no_bracket = refl; no_const = refl }

-- ---- `const` forms

word_no_brackets : (w : token.Const) (l k : Toks) → IsWord w l k → sees_group Bracket l ≡ false
unfolding sees_group
word_no_brackets w l k is_word = refl

brackets_seen : (s : DelimSpan) (c k : Toks) → sees_group Bracket (group Bracket s c k) ≡ true
unfolding sees_group
brackets_seen s c k = refl

brackets_met : (w : token.Const) (s : DelimSpan) (c k : Toks) (f : Option Span) (e : Span) (sc : Scope) → IsWord w c done → in_brackets token.const_word (at (group Bracket s c k) f e sc) ≡ Ok ((groups.bracket s, w), at k f s.closing sc)
brackets_met w s c k f e sc i =
    let y = word_complete {n = 6} w c done None _ _ i in
    link _ (reads_inside Bracket groups.bracket_name token.const_word w s c k (at done None y.last _) f e sc y.reads (leaves_none None y.last _ refl)) refl

-- ---- `async`
async_met : (o : Option token.Async) (l k : Toks) (f : Option Span) (e : Span) (sc : Scope) → IsOptional IsWord o l k → token.sees_async k ≡ false → Reads_to asyncness o l k f e sc
async_met o l k f e sc absent h = record { last = e; reads = chosen (token.sees_async l) false _ _ (at l f e sc) _ h refl }
async_met o l k f e sc (present {a = w} i) h =
    let y = word_complete {n = 21} w l k f e sc i in
    record { last = y.last; reads = chosen (token.sees_async l) true _ _ (at l f e sc) _ (word_seen {n = 21} w l k i) (link _ y.reads refl) }

-- ---- both, and a `const` form where it may stand

-- which is not refused
allowed_met : (consts : Bool) (c : Option BoundConst) (l k : Toks) (s : Stream) → IsConstness consts c l k → allowed consts c s ≡ Ok (c, s)
allowed_met true c l k s i = refl
allowed_met false c l k s no_constness = refl
allowed_met false c l k s (a_const h i) = cc h
allowed_met false c l k s (a_conditional_const h i) = cc h

module _ (consts : Bool) where
  form_met : (c : Option BoundConst) (l k : Toks) (f : Option Span) (e : Span) (sc : Scope) → IsConstness consts c l k → NoForm k → Reads_to reading.const_form c l k f e sc
  unfolding reading.const_form
  form_met c l k f e sc no_constness u = record { last = e; reads = chosen (sees_group Bracket l) false _ _ (at l f e sc) _ u.no_bracket (chosen (token.sees_const l) false _ _ (at l f e sc) _ u.no_const refl) }
  form_met c l k f e sc (a_const {w = w} h i) u =
      let y = word_complete {n = 6} w l k f e sc i in
      record { last = y.last; reads = chosen (sees_group Bracket l) false _ _ (at l f e sc) _ (word_no_brackets w l k i) (chosen (token.sees_const l) true _ _ (at l f e sc) _ (word_seen {n = 6} w l k i) (link _ y.reads refl)) }
  form_met c l k f e sc (a_conditional_const {w = w} {s = s} {k = n} h i) u =
      record { last = s.closing; reads = chosen (sees_group Bracket l) true _ _ (at l f e sc) _ (brackets_seen s n k) (link _ (brackets_met w s n k f e sc i) refl) }

  constness_met : (c : Option BoundConst) (l k : Toks) (f : Option Span) (e : Span) (sc : Scope) → IsConstness consts c l k → NoForm k → Reads_to (reading.constness consts) c l k f e sc
  unfolding reading.constness
  constness_met c l k f e sc i u = let w = form_met c l k f e sc i u in record { last = w.last; reads = link _ w.reads (allowed_met consts c l k (at k f w.last sc) i) }

  -- ---- one after the other

  pub modifiers_met : (x : TraitBoundModifiers) (l k : Toks) (f : Option Span) (e : Span) (sc : Scope) → AreModifiers consts x l k → Unmodified k → Reads_to (reading.modifiers consts) x l k f e sc
  unfolding reading.modifiers
  modifiers_met x l k f e sc (some_modifiers {c = c} {a = a} {m = m} i j) u =
      let w = constness_met c l m f e sc i (async_unformed a m k j u) in
      let y = async_met a m k f w.last sc j u.no_async in
      record { last = y.last; reads = link _ w.reads (link _ y.reads refl) }

  -- no more tokens are left after them
  constness_no : (c : Option BoundConst) (l k : Toks) → IsConstness consts c l k → NoMore l k
  constness_no c l k no_constness = same
  constness_no c l k (a_const {w = w} h i) = some (word_takes w l k i)
  constness_no c l k (a_conditional_const {s = s} {k = n} h i) = some (group_less Bracket s n k)

  pub modifiers_no : (x : TraitBoundModifiers) (l k : Toks) → AreModifiers consts x l k → NoMore l k
  modifiers_no x l k (some_modifiers {c = c} {a = a} {m = m} i j) = no_no (constness_no c l m i) (optional_no (λ w l k i. some (word_takes w l k i)) a m k j)

  -- What holds where `const`, `[const]` or `async` stands, and where what follows them stands, holds where they begin.
  module _ (P : Toks → Type 0) (by_const : (w : token.Const) (l k : Toks) → IsWord w l k → P l) (by_brackets : (s : DelimSpan) (c k : Toks) → consts ≡ true → P (group Bracket s c k)) (by_async : (w : token.Async) (l k : Toks) → IsWord w l k → P l) where
    constness_begins : (c : Option BoundConst) (l k : Toks) → IsConstness consts c l k → P k → P l
    constness_begins c l k no_constness p = p
    constness_begins c l k (a_const {w = w} h i) p = by_const w l k i
    constness_begins c l k (a_conditional_const {s = s} {k = n} h i) p = by_brackets s n k h

    async_begins : (o : Option token.Async) (l k : Toks) → IsOptional IsWord o l k → P k → P l
    async_begins o l k absent p = p
    async_begins o l k (present {a = w} i) p = by_async w l k i

    pub modifiers_begin : (x : TraitBoundModifiers) (l k : Toks) → AreModifiers consts x l k → P k → P l
    modifiers_begin x l k (some_modifiers {c = c} {a = a} {m = m} i j) p = constness_begins c l m i (async_begins a m k j p)
