-- A binding, a reference and `_` that a list spells clearly are what their reads answer, over the reads of the patterns within.
use Rattle.std.proofs.Common.{◌≡◌, ℕ, ◌≤◌, Bool, true, false, ◌||◌, if◌then◌else◌, [], Option, Some, None, Ok, Err, refl, ◌∙◌, ap, arith}
use Rattle.syn_pat.proofs.pat_laws.words.Tokens.{Span, Ident, Word, is_keyword, text_of, ident_name, is_ident, is_text, optional, read_word, sees_word, IsMark, IsWord, is_word, Scope, Toks, word}
use Rattle.syn_pat.proofs.pat_laws.words.Paths.{Place}
use Rattle.syn_pat.proofs.pat_laws.words.Forms.{ahead, mutable}
use Rattle.syn_pat.proofs.pat_laws.words.Types.{Manner, clearly, IsOptional, absent, present, Relation}
use Rattle.syn_pat.proofs.pat_laws.words.Patterns.{PatPlace, Single, IsBinding, a_binding, IsSubpat, a_subpat, Pat, PatIdent, reference_of, wild_of, Readers, binding, reference, is_binding_name}
use Rattle.token_core.specs.Marks.{read_named}
use Rattle.token_core.specs.Reads.{any_text, expected, next_word}
use Rattle.token_core.specs.Tokens as token
use Rattle.token_core.proofs.MarkSpells.{mark_complete, mark_seen}
use Rattle.token_core.proofs.Steps.{Reads_to, chosen, link}
use Rattle.token_core.proofs.Took.{at, seen_word}
use Rattle.token_core.proofs.WordSpells.{word_complete, word_seen}
use Rattle.syn_ty.proofs.ty_laws.complete.Leaves.{later}
use Rattle.syn_ty.proofs.ty_laws.complete.Less.{less_no, mark_takes, no_less, optional_no, some, word_less, word_takes}
use Rattle.syn_ty.proofs.ty_laws.complete.Within.{Less, NoMore}
use Rattle.syn_ty.proofs.ty_laws.complete.Params.{absent_met, present_met}
use Rattle.syn_pat.specs.pat.Reading.{bound_head, bound_name, optional_subpat, subpat, wild}
use Rattle.syn_pat.proofs.pat_laws.complete.Names.{not_bound}
use Rattle.syn_pat.proofs.pat_laws.complete.Within.{Ends, Meets, single_in}

-- ---- words

-- one that may be there, before what is another
pub word_met : {n : ℕ} (o : Option (Word n)) (l m : Toks) (f : Option Span) (e : Span) (sc : Scope) → IsOptional IsWord o l m → sees_word (is_text (text_of n)) m ≡ false →
    Reads_to (optional (sees_word (is_text (text_of n))) (read_named n)) o l m f e sc
word_met {n} o l m f e sc absent h = absent_met (sees_word (is_text (text_of n))) (read_named n) l f e sc h
word_met {n} o l m f e sc (present {a = w} i) h = present_met (sees_word (is_text (text_of n))) (read_named n) w l m f e sc (word_seen w l m i) (word_complete w l m f e sc i)

pub word_light : {n : ℕ} (o : Option (Word n)) (l m : Toks) → IsOptional IsWord o l m → NoMore l m
word_light {n} o l m i = optional_no {Is = IsWord {n = n}} (λ w j k u. some (word_takes w j k u)) o l m i

-- ---- names

pub ident_met : (i : Ident) (k : Toks) (f : Option Span) (e : Span) (sc : Scope) → is_ident i.text ≡ true → Reads_to (read_word is_ident ident_name) i (word i k) k f e sc
unfolding read_word next_word
ident_met i k f e sc h = record { last = i.span; reads = ap (λ (b : Bool). if b then Ok (i, at k f i.span sc) else Err (expected ident_name (at (word i k) f e sc))) h }

any_name : (i : Ident) (k : Toks) (f : Option Span) (e : Span) (sc : Scope) → Reads_to (read_word any_text ident_name) i (word i k) k f e sc
unfolding read_word next_word
any_name i k f e sc = record { last = i.span; reads = refl }

or_other : (b c : Bool) → c ≡ false → b || c ≡ true → b ≡ true
or_other true c h g = refl
or_other false c h g = cc (h, g)

-- an `Ident` or `self`
pub name_met : (i : Ident) (k : Toks) (f : Option Span) (e : Span) (sc : Scope) → is_binding_name i.text ≡ true → Reads_to bound_name i (word i k) k f e sc
unfolding bound_name
name_met i k f e sc h = by (is_text token.self_value_text i.text) refl
  where
    by : (b : Bool) → is_text token.self_value_text i.text ≡ b → Reads_to bound_name i (word i k) k f e sc
    by true g = let w = any_name i k f e sc in record { last = w.last; reads = chosen (token.sees_self_value (word i k)) true _ _ (at (word i k) f e sc) _ (seen_word (is_text token.self_value_text) i k ∙ g) w.reads }
    by false g =
        let w = ident_met i k f e sc (or_other (is_ident i.text) _ g h) in
        record { last = w.last; reads = chosen (token.sees_self_value (word i k)) false _ _ (at (word i k) f e sc) _ (seen_word (is_text token.self_value_text) i k ∙ g) w.reads }

pub name_no_mut : (i : Ident) (k : Toks) → is_binding_name i.text ≡ true → token.sees_mut (word i k) ≡ false
unfolding is_keyword
name_no_mut i k h = seen_word (is_text (text_of 13)) i k ∙ not_bound (text_of 13) i.text refl h

pub name_no_ref : (i : Ident) (k : Toks) → is_binding_name i.text ≡ true → token.sees_ref (word i k) ≡ false
unfolding is_keyword
name_no_ref i k h = seen_word (is_text (text_of 14)) i k ∙ not_bound (text_of 14) i.text refl h

-- perhaps after `mut`
pub modes_no_ref : (u : Option token.Mut) (i : Ident) (l k : Toks) → IsOptional IsWord u l (word i k) → is_binding_name i.text ≡ true → token.sees_ref l ≡ false
unfolding sees_word
modes_no_ref u i l k absent h = name_no_ref i k h
modes_no_ref u i l k (present is_word) h = refl

pub head_met : (o : Option token.Ref) (u : Option token.Mut) (i : Ident) (l m k : Toks) (f : Option Span) (e : Span) (sc : Scope) → IsOptional IsWord o l m → IsOptional IsWord u m (word i k) → is_binding_name i.text ≡ true →
    Reads_to bound_head (o, u, i) l k f e sc
unfolding bound_head
head_met o u i l m k f e sc p q h =
    let a = word_met {n = 14} o l m f e sc p (modes_no_ref u i m k q h) in
    let b = word_met {n = 13} u m (word i k) f a.last sc q (name_no_mut i k h) in
    let c = name_met i k f b.last sc h in
    record { last = c.last; reads = link _ a.reads (link _ b.reads (link _ c.reads refl)) }

pub head_less : (o : Option token.Ref) (u : Option token.Mut) (i : Ident) (l m k : Toks) → IsOptional IsWord o l m → IsOptional IsWord u m (word i k) → Less l k
head_less o u i l m k p q = no_less (word_light o l m p) (no_less (word_light u m (word i k) q) (word_less i k))

-- ---- `_`

pub wild_met : {X : Type 0} (w : token.Underscore) (l k : Toks) (f : Option Span) (e : Span) (sc : Scope) → IsWord w l k → Reads_to (wild {X = X}) (wild_of [] w) l k f e sc
wild_met w l k f e sc i = let a = word_complete {n = 19} w l k f e sc i in record { last = a.last; reads = link _ a.reads refl }

-- ---- over the patterns within

module _ {X : Type 0} (spells : Place → X → Toks → Type 0) (r : Readers X) (part : Manner → PatPlace → Relation (Pat X)) (limit : ℕ) (meets : Meets r part limit) where
  subpat_met : (x : token.At × Pat X) (l k : Toks) (f : Option Span) (e : Span) (sc : Scope) → ahead (at l f e sc) ≤ limit → IsSubpat spells part clearly x l k → Ends k → Reads_to (subpat r) x l k f e sc
  unfolding subpat
  subpat_met x l k f e sc lim (a_subpat {a = a} {x = y} {m = m} i j) o =
      let w = mark_complete true {n = 6} {k = 1} refl (omega arith) a l m f e sc i in
      let less = (mark_takes 64 [] refl a l m i).lighter in
      let u = meets.pat Single y m k f w.last sc (later l m f f e w.last sc limit less lim) j (single_in k o) in
      record { last = u.last; reads = link _ w.reads (link _ u.reads refl) }

  -- a pattern after `@`, or none
  optional_subpat_met : (x : Option (token.At × Pat X)) (l k : Toks) (f : Option Span) (e : Span) (sc : Scope) → ahead (at l f e sc) ≤ limit → IsOptional (IsSubpat spells part clearly) x l k → Ends k → Reads_to (optional_subpat r) x l k f e sc
  optional_subpat_met x l k f e sc lim absent o = absent_met token.sees_at (subpat r) l f e sc o.no_at
  optional_subpat_met x l k f e sc lim (present {a = y} (a_subpat {a = a} {m = m} i j)) o =
      present_met token.sees_at (subpat r) y l k f e sc (mark_seen true {n = 6} {k = 1} a l m i) (subpat_met y l k f e sc lim (a_subpat i j) o)

  pub binding_met : (x : PatIdent X) (l k : Toks) (f : Option Span) (e : Span) (sc : Scope) → ahead (at l f e sc) ≤ limit → IsBinding spells part clearly x l k → Ends k → Reads_to (binding r) x l k f e sc
  unfolding binding
  binding_met x l k f e sc lim (a_binding {f = g} {u = u} {i = i} {s = s} {m = m} {n = n} p q h j) o =
      let a = head_met g u i l m n f e sc p q h in
      let less = (head_less g u i l m n p q).lighter in
      let before = later l n f f e a.last sc limit less lim in
      let b = optional_subpat_met s n k f a.last sc (omega (arith, before)) j o in
      record { last = b.last; reads = link _ a.reads (link _ b.reads refl) }

  -- ---- references

  -- `&`, perhaps `mut`, and a single pattern
  module _ (a : token.And) (u : Option token.Mut) (x : Pat X) (l m n k : Toks) (f : Option Span) (e : Span) (sc : Scope) (i : IsMark true a l m) (j : IsOptional IsWord u m n) where
    steps : ((d : Span) → Reads_to mutable u m n f d sc) → ahead (at l f e sc) ≤ limit → part clearly Single x n k → Ends k → Reads_to (reference r) (reference_of [] a u x) l k f e sc
    unfolding reference
    steps h lim y o =
        let w = mark_complete true {n = 5} {k = 1} refl (omega arith) a l m f e sc i in
        let b = h w.last in
        let less = (less_no (mark_takes 38 [] refl a l m i) (word_light u m n j)).lighter in
        let c = meets.pat Single x n k f b.last sc (later l n f f e b.last sc limit less lim) y (single_in k o) in
        record { last = c.last; reads = link _ w.reads (link _ b.reads (link _ c.reads refl)) }

  -- of what does not begin with `mut`
  pub reference_met : (a : token.And) (x : Pat X) (l m k : Toks) (f : Option Span) (e : Span) (sc : Scope) → ahead (at l f e sc) ≤ limit → IsMark true a l m → token.sees_mut m ≡ false → part clearly Single x m k → Ends k →
      Reads_to (reference r) (reference_of [] a None x) l k f e sc
  reference_met a x l m k f e sc lim i h j o = steps a None x l m m k f e sc i absent (λ d. absent_met token.sees_mut token.mut_word m f d sc h) lim j o

  pub mutable_reference_met : (a : token.And) (u : token.Mut) (x : Pat X) (l m n k : Toks) (f : Option Span) (e : Span) (sc : Scope) → ahead (at l f e sc) ≤ limit → IsMark true a l m → IsWord u m n → part clearly Single x n k → Ends k →
      Reads_to (reference r) (reference_of [] a (Some u) x) l k f e sc
  mutable_reference_met a u x l m n k f e sc lim i h j o =
      steps a (Some u) x l m n k f e sc i (present h) (λ d. present_met token.sees_mut token.mut_word u m n f d sc (word_seen {n = 13} u m n h) (word_complete {n = 13} u m n f d sc h)) lim j o
