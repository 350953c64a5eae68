-- What a group of patterns spells clearly is what is read in it: elements joined by commas, and so slices, tuples, and a pattern in parentheses.
use Rattle.std.specs.Prelude.{not}
use Rattle.std.proofs.Common.{◌≡◌, ℕ, ◌<◌, ◌≤◌, Bool, true, false, ◌&&◌, List, [], ◌∷◌, Option, None, Ok, refl, ◌∙◌, ap, arith}
use Rattle.std.proofs.lemmas.Bool.{and_left}
use Rattle.syn_pat.proofs.pat_laws.words.Tokens.{DelimSpan, Span, Delimiter, Parenthesis, Bracket, AreListed, Anywhere, none_left, last_value, value_and_mark, Many, listed, Reader, is_done, none, last_char, IsMark, is_mark, Scope, Toks, done, group}
use Rattle.syn_pat.proofs.pat_laws.words.Paths.{Place}
use Rattle.syn_pat.proofs.pat_laws.words.Forms.{at_end, before_end, list_from, ahead, comma}
use Rattle.syn_pat.proofs.pat_laws.words.Types.{Manner, clearly, Relation, Comma}
use Rattle.syn_pat.proofs.pat_laws.words.Patterns.{PatPlace, LeadingVert, Element, AreElements, is_tuple, Pat, is_rest, slice_of, Readers, elements, paren_content, paren_or_tuple, slice}
use Rattle.token_core.specs.Groups as groups
use Rattle.token_core.proofs.MarkSpells.{mark_complete, mark_size}
use Rattle.token_core.proofs.Steps.{Reads_to, chosen, link}
use Rattle.token_core.proofs.Took.{at, leaves_none}
use Rattle.syn_forms.specs.groups.Reading.{in_brackets, in_parens}
use Rattle.syn_forms.proofs.groups_laws.Complete.{content, content_ahead, reads_inside}
use Rattle.syn_forms.proofs.lists_laws.Complete.{listed_here}
use Rattle.syn_ty.proofs.ty_laws.complete.Leaves.{not_more}
use Rattle.syn_ty.proofs.ty_laws.complete.Less.{less_no, mark_no, some}
use Rattle.syn_pat.specs.declared.pat.PatOf.TheVariants as v
use Rattle.syn_pat.specs.declared.pat.read.groups.InParens.TheVariants as held
use Rattle.syn_pat.specs.pat.Pats.{paren_of, tuple_of}
use Rattle.syn_pat.proofs.pat_laws.complete.Within.{EndsIn, Meets, comma_in, end_in}

-- ---- the end of a group

pub all_done : is_done done ≡ true
unfolding is_done
all_done = refl

pub comma_there : (c : Comma) (l r : Toks) → IsMark true c l r → is_done l ≡ false
unfolding is_done
comma_there c l r (is_mark (last_char x)) = refl

pub comma_met : (c : Comma) (l r : Toks) (f : Option Span) (e : Span) (sc : Scope) → IsMark true c l r → Reads_to comma c l r f e sc
comma_met c l r f e sc i = mark_complete true {n = 4} {k = 1} refl (omega arith) c l r f e sc i

-- less is left in a group
pub inside_less : (d : Delimiter) (s : DelimSpan) (c k : Toks) (f : Option Span) (e : Span) (sc : Scope) (limit : ℕ) → ahead (at (group d s c k) f e sc) ≤ limit → ahead (content d s c k f e sc) < limit
inside_less d s c k f e sc limit h = let g = content_ahead d groups.paren_name s c k f e sc in omega (arith, h, g)

-- what is read to the end of a group is read in it
module _ {A : Type 0} (p : Reader A) (x : A) (s : DelimSpan) (c k : Toks) (f : Option Span) (e : Span) (sc : Scope) where
  pub parens_met : Reads_to p x c done None none (content Parenthesis s c k f e sc).scope → in_parens p (at (group Parenthesis s c k) f e sc) ≡ Ok ((groups.paren s, x), at k f s.closing sc)
  parens_met h =
      let z = content Parenthesis s c k f e sc in
      link _ (reads_inside Parenthesis groups.paren_name p x s c k (at done None h.last z.scope) f e sc h.reads (leaves_none None h.last z.scope refl)) refl

  pub brackets_met : Reads_to p x c done None none (content Bracket s c k f e sc).scope → in_brackets p (at (group Bracket s c k) f e sc) ≡ Ok ((groups.bracket s, x), at k f s.closing sc)
  brackets_met h =
      let z = content Bracket s c k f e sc in
      link _ (reads_inside Bracket groups.bracket_name p x s c k (at done None h.last z.scope) f e sc h.reads (leaves_none None h.last z.scope refl)) refl

-- ---- elements

module _ {X : Type 0} (spells : Place → X → Toks → Type 0) (r : Readers X) (part : Manner → PatPlace → Relation (Pat X)) (limit : ℕ) (meets : Meets r part limit) where
  -- from the first on, or after a comma
  abbrev Listed : PatPlace → Bool → List (Pat X) → List Comma → Toks → Type 0
  Listed place b xs cs l = AreListed (λ (_ : Bool). part clearly place) (IsMark true) Anywhere b xs cs l done

  abbrev read_from : PatPlace → Bool → Reader (Many (Pat X) Comma)
  read_from place = listed (λ (_ : Bool). is_done) (λ (_ : Bool). r place) (λ l. not (is_done l)) comma

  from_met : (place : PatPlace) (b : Bool) (xs : List (Pat X)) (cs : List Comma) (l : Toks) (f : Option Span) (e : Span) (sc : Scope) → ahead (at l f e sc) < limit → Listed place b xs cs l → Reads_to (read_from place b) (xs, cs) l done f e sc
  from_met place b xs cs l f e sc h i =
      listed_here (λ (_ : Bool). is_done) (λ (_ : Bool). r place) (λ m. not (is_done m)) comma (λ (_ : Bool). part clearly place) (IsMark true) Anywhere (EndsIn place) (λ m. ahead (at m None none sc) < limit) sc
      (λ a x m n u j g d t. meets.pat place x m n d t sc u j g)
      (λ c m n j d t. comma_met c m n d t sc j)
      (λ c m n j. (comma_in place c m n j, ap not (comma_there c m n j)))
      (λ a x m n j. meets.there place x m n j)
      (λ a x m n j. (meets.less place x m n j).shorter)
      (λ c m n j. mark_size true {n = 4} {k = 1} c m n j)
      (λ a x c m n o j g u. let le = (some (less_no (meets.less place x m n j) (mark_no {clear = true} {n = 4} {k = 1} c n o g))).light in not_more m o None None none none sc limit le u)
      b xs cs l done h i (record { follows = end_in place; over = ap not all_done; stops_there = λ a may. all_done }) f e

  pub elements_met : (place : PatPlace) (xs : List (Pat X)) (cs : List Comma) (l : Toks) (f : Option Span) (e : Span) (sc : Scope) → ahead (at l f e sc) < limit → AreElements spells part clearly place xs cs l → Reads_to (elements r place) (xs, cs) l done f e sc
  unfolding elements
  elements_met place xs cs l f e sc h i = from_met place true xs cs l f e sc h i

  -- ---- slices

  pub slice_met : (xs : List (Pat X)) (cs : List Comma) (s : DelimSpan) (c k : Toks) (f : Option Span) (e : Span) (sc : Scope) → ahead (at (group Bracket s c k) f e sc) ≤ limit → AreElements spells part clearly Element xs cs c →
      Reads_to (slice r) (slice_of [] (groups.bracket s) (xs, cs)) (group Bracket s c k) k f e sc
  unfolding slice
  slice_met xs cs s c k f e sc h i =
      let u = elements_met Element xs cs c None none (content Bracket s c k f e sc).scope (inside_less Bracket s c k f e sc limit h) i in
      record { last = s.closing; reads = link _ (brackets_met (elements r Element) (xs, cs) s c k f e sc u) refl }

  -- ---- parentheses

  -- after a first element
  abbrev rest_from : Pat X → Reader (Many (Pat X) Comma)
  rest_from x = list_from (λ (_ : Bool). at_end) (r LeadingVert) before_end comma x

  no_more_met : (x : Pat X) (f : Option Span) (e : Span) (sc : Scope) → Reads_to (rest_from x) (x ∷ [], []) done done f e sc
  unfolding list_from
  no_more_met x f e sc = record { last = e; reads = chosen (before_end done) false _ _ (at done f e sc) _ (ap not all_done) refl }

  more_met : (x : Pat X) (c : Comma) (xs : List (Pat X)) (cs : List Comma) (m n : Toks) (f : Option Span) (e : Span) (sc : Scope) → ahead (at m f e sc) < limit → IsMark true c m n → Listed LeadingVert false xs cs n →
      Reads_to (rest_from x) (x ∷ xs, c ∷ cs) m done f e sc
  unfolding list_from
  more_met x c xs cs m n f e sc h i j =
      let a = comma_met c m n f e sc i in
      let u = from_met LeadingVert false xs cs n f a.last sc (not_more m n f f e a.last sc limit (mark_no {clear = true} {n = 4} {k = 1} c m n i).light h) j in
      record { last = u.last; reads = chosen (before_end m) true _ _ (at m f e sc) _ (ap not (comma_there c m n i)) (link _ a.reads (link _ u.reads refl)) }

  -- a pattern that is not `..`
  one_met : (x : Pat X) (l : Toks) (f : Option Span) (e : Span) (sc : Scope) → ahead (at l f e sc) < limit → part clearly LeadingVert x l done → is_rest x ≡ false → Reads_to (paren_content r) (held.One x) l done f e sc
  unfolding paren_content
  one_met x l f e sc h i n =
      let a = meets.pat LeadingVert x l done f e sc h i (end_in LeadingVert) in
      let lone : is_done done && not (is_rest x) ≡ true = ap (λ z. z && not (is_rest x)) all_done ∙ ap not n in
      record {
        last = a.last;
        reads = chosen (is_done l) false _ _ (at l f e sc) _ (meets.there LeadingVert x l done i) (link _ a.reads (chosen (is_done done && not (is_rest x)) true _ _ (at done f a.last sc) _ lone refl));
      }

  several_met : (xs : List (Pat X)) (cs : List Comma) (l : Toks) (f : Option Span) (e : Span) (sc : Scope) → ahead (at l f e sc) < limit → Listed LeadingVert true xs cs l → is_tuple xs cs ≡ true →
      Reads_to (paren_content r) (held.Elements (xs, cs)) l done f e sc
  unfolding paren_content
  several_met xs cs l f e sc h (none_left may) n = record { last = e; reads = chosen (is_done done) true _ _ (at done f e sc) _ all_done refl }
  several_met xs cs l f e sc h (last_value {x = x} i) n =
      let a = meets.pat LeadingVert x l done f e sc h i (end_in LeadingVert) in
      let lone : is_done done && not (is_rest x) ≡ false = ap (λ z. z && not (is_rest x)) all_done ∙ ap not n in
      let u = no_more_met x f a.last sc in
      record {
        last = u.last;
        reads = chosen (is_done l) false _ _ (at l f e sc) _ (meets.there LeadingVert x l done i)
            (link _ a.reads (chosen (is_done done && not (is_rest x)) false _ _ (at done f a.last sc) _ lone (link _ u.reads refl)));
      }
  several_met xs cs l f e sc h (value_and_mark {x = x} {p = c} {xs = ys} {ps = ds} {m = m} {k = k} i j rest) n =
      let a = meets.pat LeadingVert x l m f e sc h i (comma_in LeadingVert c m k j) in
      let lone = and_left (is_done m) (not (is_rest x)) (comma_there c m k j) in
      let u = more_met x c ys ds m k f a.last sc (not_more l m f f e a.last sc limit (some (meets.less LeadingVert x l m i)).light h) j rest in
      record {
        last = u.last;
        reads = chosen (is_done l) false _ _ (at l f e sc) _ (meets.there LeadingVert x l m i) (link _ a.reads (chosen (is_done m && not (is_rest x)) false _ _ (at m f a.last sc) _ lone (link _ u.reads refl)));
      }

  pub paren_met : (x : Pat X) (s : DelimSpan) (c k : Toks) (f : Option Span) (e : Span) (sc : Scope) → ahead (at (group Parenthesis s c k) f e sc) ≤ limit → part clearly LeadingVert x c done → is_rest x ≡ false →
      Reads_to (paren_or_tuple r) (v.Paren (paren_of [] (groups.paren s) x)) (group Parenthesis s c k) k f e sc
  unfolding paren_or_tuple
  paren_met x s c k f e sc h i n =
      let u = one_met x c None none (content Parenthesis s c k f e sc).scope (inside_less Parenthesis s c k f e sc limit h) i n in
      record { last = s.closing; reads = link _ (parens_met (paren_content r) (held.One x) s c k f e sc u) refl }

  pub tuple_met : (xs : List (Pat X)) (cs : List Comma) (s : DelimSpan) (c k : Toks) (f : Option Span) (e : Span) (sc : Scope) → ahead (at (group Parenthesis s c k) f e sc) ≤ limit → AreElements spells part clearly LeadingVert xs cs c → is_tuple xs cs ≡ true →
      Reads_to (paren_or_tuple r) (v.Tuple (tuple_of [] (groups.paren s) (xs, cs))) (group Parenthesis s c k) k f e sc
  unfolding paren_or_tuple
  tuple_met xs cs s c k f e sc h i n =
      let u = several_met xs cs c None none (content Parenthesis s c k f e sc).scope (inside_less Parenthesis s c k f e sc limit h) i n in
      record { last = s.closing; reads = link _ (parens_met (paren_content r) (held.Elements (xs, cs)) s c k f e sc u) refl }
