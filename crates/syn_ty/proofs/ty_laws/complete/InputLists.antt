-- The arguments of a pointer to a function, spelt clearly between its parentheses, are what their read answers and all that it takes: joined by commas, or each with its comma before a variadic.
use Rattle.std.specs.Prelude.{option_map}
use Rattle.std.proofs.lemmas.Bool.{and_from}
use Rattle.std.proofs.Common.{◌≡◌, ℕ, zero, suc, ◌<◌, ◌≤◌, Bool, true, false, if◌then◌else◌, List, [], ◌∷◌, Option, Some, None, is_some, Ok, inl, inr, refl, ◌∙◌, ap, arith}
use Rattle.syn_ty.proofs.ty_laws.words.Tokens.{Span, Ident, front, AreListed, none_left, last_value, value_and_mark, Anywhere, Many, size, Reader, Outcome, ◌>>=◌, after_one, as_punct, is_done, optional, past_mark, past_next, pure, sees_mark, sees_word, last_char, more_chars, IsMark, is_mark, Scope, Toks, done, word, mark, lit, group, enter, leave}
use Rattle.syn_ty.proofs.ty_laws.words.Paths.{ReadValues}
use Rattle.syn_ty.proofs.ty_laws.words.Forms.{Plus, ahead}
use Rattle.syn_ty.proofs.ty_laws.words.Types.{FnPtrVariadicOf, is_name, IsNamedArg, IsVariadic, dots, named_dots, AreInputs, plain_inputs, variadic_inputs, Manner, clearly, End, Parts, AreMarked, no_further, one_further, IsOptional, NamedArg, TypeTree, named_arg_of}
use Rattle.token_core.specs.Reads.{is_end}
use Rattle.token_core.specs.Tokens as token
use Rattle.token_core.proofs.MarkSpells.{mark_complete, mark_seen}
use Rattle.token_core.proofs.Steps.{link, chosen, Reads_to}
use Rattle.token_core.proofs.Took.{at}
use Rattle.syn_forms.specs.inputs.Reading as inputs
use Rattle.syn_forms.specs.inputs.Reading.{sees_dots}
use Rattle.syn_ty.specs.declared.ty.TypeOf.TheVariants as form
use Rattle.syn_ty.proofs.ty_laws.complete.Leaves.{later}
use Rattle.syn_ty.proofs.ty_laws.complete.Forms.{optional_met}
use Rattle.syn_ty.proofs.ty_laws.complete.Inputs.{bare_begins, bare_met, parted}
use Rattle.syn_ty.proofs.ty_laws.complete.Less.{less_no, mark_no, no_less}
use Rattle.syn_ty.proofs.ty_laws.complete.Within.{Firsts, Fits, Less, SuppliedMeets}
use Rattle.syn_ty.proofs.ty_laws.complete.Names.{name_met}
use Rattle.syn_ty.proofs.ty_laws.complete.Signatures.{EndsInput, comma_ends, comma_there, done_ends, nothing_there}
use Rattle.syn_ty.proofs.ty_laws.complete.Signed.{left_after}

-- ---- `...`, perhaps after a name and before a comma

abbrev pub dots_parts : {A : Type 0} → FnPtrVariadicOf A → List A × inputs.Dots
dots_parts x = (x.attrs, (x.name, x.dots, x.comma))

no_comma : token.sees_comma done ≡ false
unfolding sees_mark
no_comma = refl

last_comma : (o : Option token.Comma) (l : Toks) (f : Option Span) (e : Span) (sc : Scope) → IsOptional (IsMark true) o l done → Reads_to (optional token.sees_comma token.comma) o l done f e sc
last_comma o l f e sc i =
    optional_met (IsMark true) token.sees_comma token.comma (λ c m k j. mark_seen true {n = 4} {k = 1} c m k j) (λ c m k g d s j. mark_complete true {n = 4} {k = 1} refl (omega arith) c m k g d s j) o l done f e sc i (λ q. no_comma)

no_name_at : (d : token.DotDotDot) (l k : Toks) → IsMark true d l k → inputs.sees_ident_or_underscore l ≡ false
unfolding sees_word
no_name_at d l k (is_mark (more_chars (more_chars (last_char x)))) = refl

pub plain_dots_met : (d : token.DotDotDot) (o : Option token.Comma) (l m : Toks) (f : Option Span) (e : Span) (sc : Scope) → IsMark true d l m → IsOptional (IsMark true) o m done → Reads_to inputs.dots (None, d, o) l done f e sc
unfolding inputs.dots
plain_dots_met d o l m f e sc i j =
    let a = mark_complete true {n = 9} {k = 3} refl (omega arith) d l m f e sc i in
    let b = last_comma o m f a.last sc j in
    let name : ◌≡◌ {A = Outcome inputs.Name} (optional inputs.sees_ident_or_underscore inputs.name (at l f e sc)) (Ok (None, at l f e sc)) = chosen (inputs.sees_ident_or_underscore l) false _ _ (at l f e sc) _ (no_name_at d l m i) refl in
    record { last = b.last; reads = link _ name (link _ a.reads (link _ b.reads refl)) }

name_at : (i : Ident) (k : Toks) → is_name i.text ≡ true → inputs.sees_ident_or_underscore (word i k) ≡ true
unfolding sees_word
name_at i k h = h

pub named_dots_met : (i : Ident) (c : token.Colon) (d : token.DotDotDot) (o : Option token.Comma) (l m n : Toks) (f : Option Span) (e : Span) (sc : Scope) → is_name i.text ≡ true → IsMark true c l m → IsMark true d m n →
    IsOptional (IsMark true) o n done → Reads_to inputs.dots (Some (i, c), d, o) (word i l) done f e sc
unfolding inputs.dots
named_dots_met i c d o l m n f e sc h j q g =
    let z = name_met i c l m f e sc j in
    let a = mark_complete true {n = 9} {k = 3} refl (omega arith) d m n f z.last sc q in
    let b = last_comma o n f a.last sc g in
    let name : ◌≡◌ {A = Outcome inputs.Name} (optional inputs.sees_ident_or_underscore inputs.name (at (word i l) f e sc)) (Ok (Some (i, c), at m f z.last sc)) =
    chosen (inputs.sees_ident_or_underscore (word i l)) true _ _ (at (word i l) f e sc) _ (name_at i l h) (link _ z.reads refl) in
    record { last = b.last; reads = link _ name (link _ a.reads (link _ b.reads refl)) }

-- what it begins with
record DotsBegin (l : Toks) : Type 0 where
  there : is_done l ≡ false
  no_pound : token.sees_pound l ≡ false
  seen : sees_dots l ≡ true

plain_dots_begin : (d : token.DotDotDot) (l k : Toks) → IsMark true d l k → DotsBegin l
unfolding is_done sees_dots sees_mark
plain_dots_begin d l k (is_mark (more_chars (more_chars (last_char x)))) = record { there = refl; no_pound = refl; seen = refl }

named_dots_begin : (i : Ident) (c : token.Colon) (d : token.DotDotDot) (l m n : Toks) → is_name i.text ≡ true → IsMark true c l m → IsMark true d m n → DotsBegin (word i l)
unfolding is_done sees_dots sees_word sees_mark after_one
named_dots_begin i c d l m n h (is_mark (last_char x)) (is_mark (more_chars (more_chars (last_char y)))) = record { there = refl; no_pound = refl; seen = and_from _ _ h refl }

-- ---- what the parentheses hold

pound_at : (l : Toks) → is_some (past_next 35 true (past_mark []) (as_punct l)) ≡ true → is_end l ≡ false
pound_at done h = cc h
pound_at (word i k) h = refl
pound_at (mark p k) h = refl
pound_at (lit x k) h = refl
pound_at (group d s c k) h = refl
pound_at (enter s k) h = refl
pound_at (leave k) h = refl

-- `#` is no end
pub pound_there : (l : Toks) → token.sees_pound l ≡ true → is_done l ≡ false
unfolding is_done sees_mark
pound_there l h = pound_at (front l) h

module _ {A E : Type 0} (attrs : Reader (List A)) (values : ReadValues E) (part : Manner → Parts A E) (supplied : SuppliedMeets attrs values part) (firsts : Firsts part) (value : Reader (TypeTree A E)) (within : ℕ)
    (value_met : (d : End) (x : TypeTree A E) (l k : Toks) (f : Option Span) (e : Span) (sc : Scope) → ahead (at l f e sc) ≤ within → (part clearly).ty Plus d x l k → Fits d k → token.sees_plus k ≡ false → Reads_to value x l k f e sc) where
  abbrev Arg : Type 0
  Arg = NamedArg A E

  abbrev All : Type 0
  All = inputs.Inputs A Arg

  abbrev Is : Bool → Arg → Toks → Toks → Type 0
  Is = IsNamedArg part clearly

  abbrev reads : ℕ → Bool → Reader All
  reads = inputs.inputs_from named_arg_of attrs value form.Verbatim

  -- attributes, before what is no end
  bears_there : (a : List A) (l m : Toks) → (part clearly).attrs a l m → is_done m ≡ false → is_done l ≡ false
  bears_there a l m i h =
      elim (supplied.attrs_begin a l m i) [
        | inl q ↦ ap is_done q ∙ h
        | inr q ↦ pound_there l q
      ]

  pub arg_less : (first : Bool) (x : Arg) (l k : Toks) → Is first x l k → EndsInput k → Less l k
  arg_less first x l k i o =
      let p = parted part first x l k i in
      no_less (supplied.attrs_light p.attrs l p.from p.bears) (bare_begins part firsts first p.named p.from k p.bare o).1

  -- after an argument
  abbrev put_more : ℕ → Arg → token.Comma → Reader All
  put_more n x c = reads n false >>= (λ more. pure (inputs.put_input x c more))

  abbrev after : ℕ → Arg → Reader All
  after n x s = (if is_done s.rest then pure (inputs.one_input x) else (token.comma >>= put_more n x)) s

  no_more : (n : ℕ) (x : Arg) (f : Option Span) (e : Span) (sc : Scope) → Reads_to (after n x) (inputs.one_input x) done done f e sc
  no_more n x f e sc = record { last = e; reads = chosen (is_done done) true _ _ (at done f e sc) _ nothing_there refl }

  more_met : (n : ℕ) (x : Arg) (c : token.Comma) (v : All) (l k : Toks) (f : Option Span) (e : Span) (sc : Scope) → IsMark true c l k → ((d : Span) → Reads_to (reads n false) v k done f d sc) →
      Reads_to (after n x) (inputs.put_input x c v) l done f e sc
  more_met n x c v l k f e sc i h =
      let a = mark_complete true {n = 4} {k = 1} refl (omega arith) c l k f e sc i in
      let b = h a.last in
      record { last = b.last; reads = chosen (is_done l) false _ _ (at l f e sc) _ (comma_there c l k i) (link _ a.reads (link _ b.reads refl)) }

  -- an argument, and what is read after it
  pub arg_met : (n : ℕ) (first : Bool) (x : Arg) (v : All) (l k : Toks) (f : Option Span) (e : Span) (sc : Scope) → ahead (at l f e sc) ≤ within → Is first x l k → EndsInput k →
      ((d : Span) → Reads_to (after n x) v k done f d sc) → Reads_to (reads (suc n) first) v l done f e sc
  arg_met n first x v l k f e sc h i o more =
      let p = parted part first x l k i in
      let b = (bare_begins part firsts first p.named p.from k p.bare o).0 in
      let a = supplied.attrs_met p.attrs l p.from f e sc p.bears b.no_pound in
      let light = (supplied.attrs_light p.attrs l p.from p.bears).light in
      let w = bare_met part firsts value within value_met first p.named p.from k f a.last sc (left_after l p.from f f e a.last sc within light h) p.bare o in
      let q = more w.last in
      record {
        last = q.last;
        reads = chosen (is_done l) false _ _ (at l f e sc) _ (bears_there p.attrs l p.from p.bears b.there)
            (link _ a.reads (chosen (sees_dots p.from) false _ _ (at p.from f a.last sc) _ b.no_dots (link _ w.reads (ap (λ u. after n u (at k f w.last sc)) p.is ∙ q.reads))));
      }

  -- a variadic
  pub variadic_met : (n : ℕ) (first : Bool) (x : FnPtrVariadicOf A) (l : Toks) (f : Option Span) (e : Span) (sc : Scope) → IsVariadic part clearly x l → Reads_to (reads (suc n) first) (inputs.no_inputs (Some (dots_parts x))) l done f e sc
  variadic_met n first x l f e sc (dots {a = a} {d = d} {o = o} {m = m} {n = k} i j q) =
      let b = plain_dots_begin d m k j in
      let w = supplied.attrs_met a l m f e sc i b.no_pound in
      let v = plain_dots_met d o m k f w.last sc j q in
      record { last = v.last; reads = chosen (is_done l) false _ _ (at l f e sc) _ (bears_there a l m i b.there) (link _ w.reads (chosen (sees_dots m) true _ _ (at m f w.last sc) _ b.seen (link _ v.reads refl))) }
  variadic_met n first x l f e sc (named_dots {a = a} {i = y} {c = c} {d = d} {o = o} {m = m} {n = k} {k = j} i h q g z) =
      let b = named_dots_begin y c d m k j h q g in
      let w = supplied.attrs_met a l (word y m) f e sc i b.no_pound in
      let v = named_dots_met y c d o m k j f w.last sc h q g z in
      record {
        last = v.last;
        reads = chosen (is_done l) false _ _ (at l f e sc) _ (bears_there a l (word y m) i b.there) (link _ w.reads (chosen (sees_dots (word y m)) true _ _ (at (word y m) f w.last sc) _ b.seen (link _ v.reads refl)));
      }

  -- after an argument and its comma
  further : (first : Bool) (x : Arg) (c : token.Comma) (l m k : Toks) (f : Option Span) (e d : Span) (sc : Scope) → ahead (at l f e sc) ≤ within → Is first x l m → IsMark true c m k → ahead (at k f d sc) ≤ within
  further first x c l m k f e d sc h i j =
      let less = less_no (arg_less first x l m i (comma_ends c m k j)) (mark_no c m k j) in
      let a = later l k f f e d sc within less.lighter h in
      omega (arith, a)

  listed_met : (n : ℕ) (first : Bool) (xs : List Arg) (cs : List token.Comma) (l : Toks) (f : Option Span) (e : Span) (sc : Scope) → size l < n → ahead (at l f e sc) ≤ within → AreListed Is (IsMark true) Anywhere first xs cs l done →
      Reads_to (reads n first) ((xs, cs), None) l done f e sc
  listed_met zero first xs cs l f e sc u h i = absurd (omega (arith, u))
  listed_met (suc n) first xs cs l f e sc u h (none_left may) = record { last = e; reads = chosen (is_done done) true _ _ (at done f e sc) _ nothing_there refl }
  listed_met (suc n) first xs cs l f e sc u h (last_value {x = x} i) = arg_met n first x (inputs.one_input x) l done f e sc h i done_ends (λ d. no_more n x f d sc)
  listed_met (suc n) first xs cs l f e sc u h (value_and_mark {x = x} {p = c} {xs = ys} {ps = ds} {m = m} {k = k} i j q) =
      let o = comma_ends c m k j in
      let less = (less_no (arg_less first x l m i o) (mark_no c m k j)).shorter in
      arg_met n first x ((x ∷ ys, c ∷ ds), None) l m f e sc h i o
      (λ d. more_met n x c ((ys, ds), None) m k f d sc j (λ s. listed_met n false ys ds k f s sc (omega (arith, u, less)) (further first x c l m k f e s sc h i j) q))

  marked_met : (n : ℕ) (first : Bool) (xs : List Arg) (cs : List token.Comma) (x : FnPtrVariadicOf A) (l k : Toks) (f : Option Span) (e : Span) (sc : Scope) → size l < n → ahead (at l f e sc) ≤ within →
      AreMarked Is (IsMark true) first xs cs l k → IsVariadic part clearly x k → Reads_to (reads n first) ((xs, cs), Some (dots_parts x)) l done f e sc
  marked_met zero first xs cs x l k f e sc u h i v = absurd (omega (arith, u))
  marked_met (suc n) first xs cs x l k f e sc u h no_further v = variadic_met n first x l f e sc v
  marked_met (suc n) first xs cs x l k f e sc u h (one_further {x = y} {p = c} {xs = ys} {ps = ds} {m = m} {k = j} i g q) v =
      let o = comma_ends c m j g in
      let less = (less_no (arg_less first y l m i o) (mark_no c m j g)).shorter in
      arg_met n first y ((y ∷ ys, c ∷ ds), Some (dots_parts x)) l m f e sc h i o
      (λ d. more_met n y c ((ys, ds), Some (dots_parts x)) m j f d sc g (λ s. marked_met n false ys ds x j k f s sc (omega (arith, u, less)) (further first y c l m j f e s sc h i g) q v))

  pub inputs_met : (v : Many Arg token.Comma) (o : Option (FnPtrVariadicOf A)) (l : Toks) (f : Option Span) (e : Span) (sc : Scope) → ahead (at l f e sc) ≤ within → AreInputs part clearly v o l →
      Reads_to (inputs.inputs named_arg_of attrs value form.Verbatim) (v, option_map dots_parts o) l done f e sc
  unfolding inputs.inputs
  inputs_met v o l f e sc h (plain_inputs {xs = xs} {cs = cs} i) = let w = listed_met (suc (size l)) true xs cs l f e sc (omega arith) h i in record { last = w.last; reads = w.reads }
  inputs_met v o l f e sc h (variadic_inputs {xs = xs} {cs = cs} {x = x} {m = m} i j) = let w = marked_met (suc (size l)) true xs cs x l m f e sc (omega arith) h i j in record { last = w.last; reads = w.reads }
