-- A trait bound, spelt clearly, is what its read answers and all that it takes, with modifiers before its path or without.
use Rattle.std.proofs.lemmas.Slice.Eq.{bytes_eq-Decides}
use Rattle.std.proofs.Common.{◌≡◌, ℕ, ◌≤◌, Bool, true, false, [], Option, Some, None, Ok, refl, sym, ◌∙◌, ap, arith}
use Rattle.syn_ty.proofs.ty_laws.words.Tokens.{DelimSpan, Span, Parenthesis, Bracket, is_keyword, sees_lifetime, text_of, Reader, ◌>>=◌, is_text, sees_group, sees_mark, sees_word, last_char, more_chars, IsMark, is_mark, IsWord, is_word, Scope, Stream, Bytes, Toks, group}
use Rattle.syn_ty.proofs.ty_laws.words.Paths.{AsWritten}
use Rattle.syn_ty.proofs.ty_laws.words.Forms.{ahead, question}
use Rattle.syn_ty.proofs.ty_laws.words.Types.{TraitBoundModifiers, AreModifiers, IsFor, a_trait, a_trait_for, a_trait_asked, IsTraitBound, a_trait_bound, trait_bound_of, binder, optional_binder, trait_after, trait_in, trait_of, a_binder, Sep, angle_of, parenthesized, signed, IsBoundPath, IsParens, is_segment_word, Manner, clearly, End, Parts, Readers, IsOptional, absent, present, BoundLifetimes, Parenthesized, Path, TraitBound}
use Rattle.token_core.specs.Tokens as token
use Rattle.token_core.proofs.MarkSpells.{mark_complete, mark_seen}
use Rattle.token_core.proofs.Steps.{link, chosen, Reads_to}
use Rattle.token_core.proofs.Took.{at}
use Rattle.token_core.proofs.WordSpells.{word_seen}
use Rattle.syn_ty.specs.declared.path.PathArgumentsOf.TheVariants as a
use Rattle.syn_ty.specs.path.Reading as reads
use Rattle.syn_ty.proofs.ty_laws.complete.Less.{mark_no, no_no, optional_no, some}
use Rattle.syn_ty.proofs.ty_laws.complete.Within.{Fits, Meets, NoMore, PathsMeet}
use Rattle.syn_ty.proofs.ty_laws.complete.Modifiers.{Unmodified, modifiers_begin, modifiers_met, modifiers_no}
use Rattle.syn_ty.proofs.ty_laws.complete.Named.{for_less}
use Rattle.syn_ty.proofs.ty_laws.complete.Signed.{Starts, a_first_word, a_first_sep, bound_path_met, bound_path_starts, left_after}

-- ---- what stands before the path of a trait, where nothing stands before it

-- neither a lifetime, nor a capture, nor parentheses
pub record Named (l : Toks) : Type 0 where
  pub no_lifetime : sees_lifetime l ≡ false
  pub no_use : token.sees_use l ≡ false
  pub no_paren : sees_group Parenthesis l ≡ false

-- and no binder
record Unbound (l : Toks) : Type 0 where
  no_for : token.sees_for l ≡ false
  named : Named l

-- and no modifier
record Bare (l : Toks) : Type 0 where
  unbound : Unbound l
  unmodified : Unmodified l

-- the word of a segment is no other one
no_other : (t u : Bytes) (b : Bool) → is_segment_word u ≡ false → is_segment_word t ≡ true → is_text u t ≡ b → is_text u t ≡ false
no_other t u true h k e = let g : true ≡ false = sym k ∙ ap is_segment_word ((bytes_eq-Decides t u).0 e) ∙ h in absurd (cc)
no_other t u false h k e = e

path_bare : (l : Toks) → Starts l → Bare l
unfolding sees_word sees_lifetime sees_group is_keyword
path_bare l (a_first_word {i = i} h) =
    let other = λ (n : ℕ) (g : is_segment_word (text_of n) ≡ false). no_other i.text (text_of n) (is_text (text_of n) i.text) g h refl in
    record {
      unbound = record { no_for = other 10 refl; named = record { no_lifetime = refl; no_use = other 17 refl; no_paren = refl } };
      unmodified = record { no_bracket = refl; no_const = other 6 refl; no_async = other 21 refl };
    }
path_bare l (a_first_sep (is_mark (more_chars (last_char x)))) =
    record { unbound = record { no_for = refl; named = record { no_lifetime = refl; no_use = refl; no_paren = refl } }; unmodified = record { no_bracket = refl; no_const = refl; no_async = refl } }

path_no_question : (l : Toks) → Starts l → token.sees_question l ≡ false
unfolding sees_mark
path_no_question l (a_first_word h) = refl
path_no_question l (a_first_sep (is_mark (more_chars (last_char x)))) = refl

question_bare : (q : token.Question) (l k : Toks) → IsMark true q l k → Bare l
unfolding sees_word sees_lifetime sees_group
question_bare q l k (is_mark (last_char x)) =
    record { unbound = record { no_for = refl; named = record { no_lifetime = refl; no_use = refl; no_paren = refl } }; unmodified = record { no_bracket = refl; no_const = refl; no_async = refl } }

-- ---- where modifiers stand there is no binder, and nothing else that a bound may be

const_unbound : (w : token.Const) (l k : Toks) → IsWord w l k → Unbound l
unfolding sees_word sees_lifetime sees_group
const_unbound w l k is_word = record { no_for = refl; named = record { no_lifetime = refl; no_use = refl; no_paren = refl } }

brackets_unbound : (s : DelimSpan) (c k : Toks) → Unbound (group Bracket s c k)
unfolding sees_word sees_lifetime sees_group
brackets_unbound s c k = record { no_for = refl; named = record { no_lifetime = refl; no_use = refl; no_paren = refl } }

async_unbound : (w : token.Async) (l k : Toks) → IsWord w l k → Unbound l
unfolding sees_word sees_lifetime sees_group
async_unbound w l k is_word = record { no_for = refl; named = record { no_lifetime = refl; no_use = refl; no_paren = refl } }

modifiers_unbound : (consts : Bool) (x : TraitBoundModifiers) (l k : Toks) → AreModifiers consts x l k → Unbound k → Unbound l
modifiers_unbound consts = modifiers_begin consts Unbound const_unbound (λ s c k h. brackets_unbound s c k) async_unbound

module _ {A E : Type 0} (r : Readers A E) (part : Manner → Parts A E) (limit : ℕ) (m : Meets r part limit) (paths : PathsMeet r part limit)
    (pair : (b : Option Sep) (o : token.Lt) (g : token.Gt) (l n j k : Toks) → IsOptional (IsMark true) b l n → IsMark true o n j → IsMark true g j k → (part clearly).arguments (a.AngleBracketed (angle_of b o ([], []) g)) l k)
    (parens_met : (d : End) (x : Parenthesized A E) (l k : Toks) (f : Option Span) (e : Span) (sc : Scope) → ahead (at l f e sc) ≤ limit → IsParens part clearly d x l k → Fits d k → Reads_to (parenthesized r) x l k f e sc)
    (for_met : (x : BoundLifetimes A E) (l k : Toks) (f : Option Span) (e : Span) (sc : Scope) → ahead (at l f e sc) ≤ limit → IsFor part clearly x l k → Reads_to (binder r) x l k f e sc) where
  abbrev For : Type 0
  For = Option (BoundLifetimes A E)

  abbrev Trait : Type 0
  Trait = TraitBound A E

  -- ---- binders

  perhaps_for_no : (o : For) (l k : Toks) → IsOptional (IsFor part clearly) o l k → NoMore l k
  perhaps_for_no = optional_no (λ x l k i. some (for_less part m.firsts x l k i))

  for_seen : (x : BoundLifetimes A E) (l k : Toks) → IsFor part clearly x l k → token.sees_for l ≡ true
  for_seen x l k (a_binder {f = w} {m = n} i g h p) = word_seen {n = 10} w l n i

  for_named : (x : BoundLifetimes A E) (l k : Toks) → IsFor part clearly x l k → Named l
  unfolding sees_word sees_lifetime sees_group
  for_named x l k (a_binder is_word g h p) = record { no_lifetime = refl; no_use = refl; no_paren = refl }

  perhaps_for_named : (o : For) (l k : Toks) → IsOptional (IsFor part clearly) o l k → Named k → Named l
  perhaps_for_named o l k absent s = s
  perhaps_for_named o l k (present {a = x} i) s = for_named x l k i

  -- no binder stands there
  unbound : (l : Toks) (f : Option Span) (e : Span) (sc : Scope) → token.sees_for l ≡ false → optional_binder r (at l f e sc) ≡ Ok (None, at l f e sc)
  unfolding optional_binder
  unbound l f e sc h = chosen (token.sees_for l) false _ _ (at l f e sc) _ h refl

  -- before what is no `for`
  pub perhaps_for_met : (o : For) (l k : Toks) (f : Option Span) (e : Span) (sc : Scope) → ahead (at l f e sc) ≤ limit → IsOptional (IsFor part clearly) o l k → token.sees_for k ≡ false → Reads_to (optional_binder r) o l k f e sc
  unfolding optional_binder
  perhaps_for_met o l k f e sc h absent g = record { last = e; reads = unbound l f e sc g }
  perhaps_for_met o l k f e sc h (present {a = x} i) g =
      let w = for_met x l k f e sc h i in
      record { last = w.last; reads = chosen (token.sees_for l) true _ _ (at l f e sc) _ (for_seen x l k i) (link _ w.reads refl) }

  -- ---- a `?`

  unasked : (l : Toks) (f : Option Span) (e : Span) (sc : Scope) → token.sees_question l ≡ false → question (at l f e sc) ≡ Ok (None, at l f e sc)
  unasked l f e sc h = chosen (token.sees_question l) false _ _ (at l f e sc) _ h refl

  asked : (q : token.Question) (l k : Toks) (f : Option Span) (e : Span) (sc : Scope) → IsMark true q l k → Reads_to question (Some q) l k f e sc
  asked q l k f e sc i =
      let w = mark_complete true {n = 22} {k = 1} refl (omega arith) q l k f e sc i in
      record { last = w.last; reads = chosen (token.sees_question l) true _ _ (at l f e sc) _ (mark_seen true {n = 22} {k = 1} q l k i) (link _ w.reads refl) }

  -- ---- after the first binder and the modifiers: a path, and before it perhaps a `?` where no binder stood

  module _ (x : TraitBoundModifiers) where
    data IsAfter : For → End → Trait → Toks → Toks → Type 0 where
      a_path_after : {o : For} {d : End} {p : Path A E} {l k : Toks} → IsBoundPath part clearly d p l k → IsAfter o d (trait_bound_of None o x None p) l k
      an_asked_after : {d : End} {q : token.Question} {p : Path A E} {l n k : Toks} → IsMark true q l n → IsBoundPath part clearly d p n k → IsAfter None d (trait_bound_of None None x (Some q) p) l k

    after_bare : (o : For) (d : End) (t : Trait) (l k : Toks) → IsAfter o d t l k → Bare l
    after_bare o d t l k (a_path_after {p = p} i) = path_bare l (bound_path_starts part d p l k i)
    after_bare o d t l k (an_asked_after {q = q} {n = n} i j) = question_bare q l n i

    -- the path, after a binder or a `?`
    abbrev after_binder : Option token.Question → For → Reader Trait
    after_binder q y = reads.path r AsWritten >>= (λ p. signed r p >>= trait_of x y q)

    path_met : (q : Option token.Question) (y : For) (d : End) (p : Path A E) (l k : Toks) (f : Option Span) (e : Span) (sc : Scope) → ahead (at l f e sc) ≤ limit → IsBoundPath part clearly d p l k → Fits d k →
        ((s : Stream) → trait_of x y q p s ≡ Ok (trait_bound_of None y x q p, s)) → Reads_to (after_binder q y) (trait_bound_of None y x q p) l k f e sc
    path_met q y d p l k f e sc h i o g =
        let w = bound_path_met r part limit m paths pair parens_met d p l k f e sc h i o in
        record { last = w.last; reads = link _ w.path_reads (link _ w.signed_reads (g (at k f w.last sc))) }

    after_met : (o : For) (d : End) (t : Trait) (l k : Toks) (f : Option Span) (e : Span) (sc : Scope) → ahead (at l f e sc) ≤ limit → IsAfter o d t l k → Fits d k → Reads_to (trait_after r o x) t l k f e sc
    unfolding trait_after
    after_met None d t l k f e sc h (a_path_after {p = p} i) o =
        let w = path_met None None d p l k f e sc h i o (λ s. refl) in
        record { last = w.last; reads = link _ (unasked l f e sc (path_no_question l (bound_path_starts part d p l k i))) w.reads }
    after_met (Some y) d t l k f e sc h (a_path_after {p = p} i) o =
        let w = path_met None (Some y) d p l k f e sc h i o (λ s. refl) in
        record { last = w.last; reads = link _ (unasked l f e sc (path_no_question l (bound_path_starts part d p l k i))) w.reads }
    after_met None d t l k f e sc h (an_asked_after {q = q} {p = p} {n = n} i j) o =
        let s = path_bare n (bound_path_starts part d p n k j) in
        let y = asked q l n f e sc i in
        let w = path_met (Some q) None d p n k f y.last sc (left_after l n f f e y.last sc limit (mark_no q l n i).light h) j o (λ s. refl) in
        record { last = w.last; reads = link _ y.reads (link _ (unbound n f y.last sc s.unbound.no_for) w.reads) }

  -- ---- trait bounds, where `const` forms are allowed or not

  module _ (consts : Bool) where
    -- what a trait bound is made of
    record Opened (d : End) (t : Trait) (l k : Toks) : Type 0 where
      first : For
      modifiers : TraitBoundModifiers
      middle : Toks
      further : Toks
      opens : IsOptional (IsFor part clearly) first l middle
      modified : AreModifiers consts modifiers middle further
      after : IsAfter modifiers first d t further k

    opened : (d : End) (t : Trait) (l k : Toks) → IsTraitBound part clearly consts d t l k → Opened d t l k
    opened d t l k (a_trait_bound (a_trait {x = x} {m = n} i j)) = record { first = None; modifiers = x; middle = l; further = n; opens = absent; modified = i; after = a_path_after j }
    opened d t l k (a_trait_bound (a_trait_for {o = y} {x = x} {m = n} {n = u} i g j)) = record { first = Some y; modifiers = x; middle = n; further = u; opens = present i; modified = g; after = a_path_after j }
    opened d t l k (a_trait_bound (a_trait_asked {x = x} {m = n} i g j)) = record { first = None; modifiers = x; middle = l; further = n; opens = absent; modified = i; after = an_asked_after g j }

    opened_unbound : (d : End) (t : Trait) (l k : Toks) → (s : Opened d t l k) → Unbound s.middle
    opened_unbound d t l k s = modifiers_unbound consts s.modifiers s.middle s.further s.modified (after_bare s.modifiers s.first d t s.further k s.after).unbound

    pub trait_named : (d : End) (t : Trait) (l k : Toks) → IsTraitBound part clearly consts d t l k → Named l
    trait_named d t l k i = let s = opened d t l k i in perhaps_for_named s.first l s.middle s.opens (opened_unbound d t l k s).named

    -- by its parts
    opened_met : (d : End) (t : Trait) (l k : Toks) (s : Opened d t l k) (f : Option Span) (e : Span) (sc : Scope) → ahead (at l f e sc) ≤ limit → Fits d k → Reads_to (trait_in r consts) t l k f e sc
    unfolding trait_in
    opened_met d t l k s f e sc h o =
        let bare = after_bare s.modifiers s.first d t s.further k s.after in
        let light = (no_no (perhaps_for_no s.first l s.middle s.opens) (modifiers_no consts s.modifiers s.middle s.further s.modified)).light in
        let w = perhaps_for_met s.first l s.middle f e sc h s.opens (opened_unbound d t l k s).no_for in
        let u = modifiers_met consts s.modifiers s.middle s.further f w.last sc s.modified bare.unmodified in
        let y = after_met s.modifiers s.first d t s.further k f u.last sc (left_after l s.further f f e u.last sc limit light h) s.after o in
        record { last = y.last; reads = link _ w.reads (link _ u.reads y.reads) }

    pub trait_in_met : (d : End) (t : Trait) (l k : Toks) (f : Option Span) (e : Span) (sc : Scope) → ahead (at l f e sc) ≤ limit → IsTraitBound part clearly consts d t l k → Fits d k → Reads_to (trait_in r consts) t l k f e sc
    trait_in_met d t l k f e sc h i o = opened_met d t l k (opened d t l k i) f e sc h o
