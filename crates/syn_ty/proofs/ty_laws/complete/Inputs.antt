-- An argument of a pointer to a function, spelt clearly, is what its read answers and all that it takes: a type, perhaps after a name, or what is about `mut self` and held verbatim.
use Rattle.std.proofs.lemmas.Bool.{and_from, and_right, not_from_false, or_from, or_left}
use Rattle.std.proofs.Common.{◌≡◌, ℕ, ◌≤◌, Bool, true, false, ◌&&◌, ◌||◌, List, Option, Some, None, Ok, refl, ap, arith}
use Rattle.syn_ty.proofs.ty_laws.words.Tokens.{Span, Ident, TokenStream, is_keyword, Reader, after_one, is_done, is_text, sees_mark, sees_word, last_char, IsMark, is_mark, is_word, Scope, Toks, word}
use Rattle.syn_ty.proofs.ty_laws.words.Paths.{ReadValues}
use Rattle.syn_ty.proofs.ty_laws.words.Forms.{Plus, sees_mut_self, sees_name, ahead}
use Rattle.syn_ty.proofs.ty_laws.words.Types.{is_name, is_argument_name, IsMutSelf, mut_self, mut_self_typed, named_mut_self, IsNamedArg, a_named_argument, a_verbatim_argument, Manner, clearly, End, Parts, Holds, NamedArg, TypeTree, named_arg_of}
use Rattle.token_core.specs.Tokens as token
use Rattle.token_core.proofs.Steps.{link, chosen, Reads_to}
use Rattle.token_core.proofs.Took.{at}
use Rattle.token_core.proofs.WordSpells.{word_complete}
use Rattle.syn_forms.specs.inputs.Reading as inputs
use Rattle.syn_forms.specs.inputs.Reading.{Name, sees_dots}
use Rattle.syn_ty.specs.declared.ty.TypeOf.TheVariants as form
use Rattle.syn_ty.specs.ty.Functions.{an_argument}
use Rattle.syn_ty.specs.ty.Reading as reading
use Rattle.syn_ty.proofs.ty_laws.complete.Capture.{since_met}
use Rattle.syn_ty.proofs.ty_laws.complete.Leaves.{later}
use Rattle.syn_ty.proofs.ty_laws.complete.Less.{less_less, less_no, mark_no, no_less, word_less, word_takes}
use Rattle.syn_ty.proofs.ty_laws.complete.Within.{Firsts, Fits, Less, SuppliedMeets}
use Rattle.syn_ty.proofs.ty_laws.complete.Names.{mut_self_seen, no_mut_before, no_mut_self, no_name, no_self_name, no_third, self_alone, self_met, self_seen, some_name, unnamed}
use Rattle.syn_ty.proofs.ty_laws.complete.Signatures.{EndsInput, input_fits}
use Rattle.syn_ty.proofs.ty_laws.complete.Signed.{left_after}

-- ---- an argument by its parts

module _ {A E : Type 0} (part : Manner → Parts A E) where
  abbrev Tree : Type 0
  Tree = TypeTree A E

  abbrev Named : Type 0
  Named = Name × Tree

  -- what stands after the attributes
  pub data IsBare : Bool → Named → Toks → Toks → Type 0 where
    bare_type : {first : Bool} {d : End} {x : Tree} {l k : Toks} → (part clearly).ty Plus d x l k → IsBare first (None, x) l k
    bare_named : {first : Bool} {i : Ident} {c : token.Colon} {d : End} {x : Tree} {l m k : Toks} →
        is_argument_name first i.text ≡ true → IsMark true c l m → (part clearly).ty Plus d x m k → IsBare first (Some (i, c), x) (word i l) k
    bare_held : {t : TokenStream} {l k : Toks} → IsMutSelf part clearly l k → Holds t l k → IsBare true (None, form.Verbatim t) l k

  pub record Parted (first : Bool) (x : NamedArg A E) (l k : Toks) : Type 0 where
    pub attrs : List A
    pub named : Named
    pub from : Toks
    pub bears : (part clearly).attrs attrs l from
    pub bare : IsBare first named from k
    pub is : named_arg_of attrs named.0 named.1 ≡ x

  pub parted : (first : Bool) (x : NamedArg A E) (l k : Toks) → IsNamedArg part clearly first x l k → Parted first x l k
  parted first x l k (an_argument {a = a} {x = y} {m = m} i j) = record { attrs = a; named = (None, y); from = m; bears = i; bare = bare_type j; is = refl }
  parted first x l k (a_named_argument {a = a} {i = n} {c = c} {x = y} {m = m} i h q j) = record { attrs = a; named = (Some (n, c), y); from = word n m; bears = i; bare = bare_named h q j; is = refl }
  parted first x l k (a_verbatim_argument {a = a} {t = t} {m = m} i (j, h)) = record { attrs = a; named = (None, form.Verbatim t); from = m; bears = i; bare = bare_held j h; is = refl }

  -- neither the end, nor `#`, nor what begins a variadic
  pub record BareBegins (l : Toks) : Type 0 where
    pub there : is_done l ≡ false
    pub no_pound : token.sees_pound l ≡ false
    pub no_dots : sees_dots l ≡ false

  module _ (firsts : Firsts part) where
    held_begins : (l k : Toks) → IsMutSelf part clearly l k → BareBegins l × Less l k
    unfolding is_done sees_dots sees_mark sees_word after_one is_keyword
    held_begins l k (mut_self {u = u} {w = w} {m = m} is_word is_word) = (record { there = refl; no_pound = refl; no_dots = refl }, less_less (word_takes u l m is_word) (word_takes w m k is_word))
    held_begins l k (mut_self_typed {u = u} {w = w} {c = c} {e = d} {x = x} {m = m} {n = n} {k = o} is_word is_word j i) = (
      record { there = refl; no_pound = refl; no_dots = refl },
      less_less (word_takes u l m is_word) (less_less (word_takes w m n is_word) (no_less (mark_no c n o j) (firsts.ty Plus d x o k i).1)),
    )
    held_begins l k (named_mut_self {i = i} {c = c} {u = u} {w = w} {l = j} {m = m} {n = n} h (is_mark (last_char x)) is_word is_word) = (
      record { there = refl; no_pound = refl; no_dots = and_right _ _ refl },
      less_less (word_less i j) (no_less (mark_no c j m (is_mark (last_char x))) (less_less (word_takes u m n is_word) (word_takes w n k is_word))),
    )

    -- what does not follow a name and `:`
    after_name : (n x y : Bool) → ((n || false) && x) ≡ false → (x ≡ false → y ≡ false) → (n && y) ≡ false
    after_name true x y h g = g h
    after_name false x y h g = refl

    pub bare_begins : (first : Bool) (x : Named) (l k : Toks) → IsBare first x l k → EndsInput k → BareBegins l × Less l k
    unfolding is_done sees_dots inputs.sees_name sees_mark sees_word after_one
    bare_begins first x l k (bare_type {d = d} {x = y} i) o =
        let b = firsts.ty Plus d y l k i in
        (record { there = b.0.there; no_pound = b.0.no_pound; no_dots = or_from _ _ b.0.no_dots (after_name (inputs.sees_ident_or_underscore l) _ _ (b.0.no_name o.no_colon false) (no_third (after_one l))) }, b.1)
    bare_begins first x l k (bare_named {i = i} {c = c} {d = d} {x = y} {l = j} {m = m} h (is_mark (last_char q)) v) o =
        let b = firsts.ty Plus d y m k v in
        (record { there = refl; no_pound = refl; no_dots = and_right (inputs.sees_ident_or_underscore (word i j)) (token.sees_dot_dot_dot m) b.0.no_dots }, less_less (word_less i j) (no_less (mark_no c j m (is_mark (last_char q))) b.1))
    bare_begins first x l k (bare_held i h) o = held_begins l k i

-- ---- reads, over that of the type

module _ {A E : Type 0} (part : Manner → Parts A E) (firsts : Firsts part) (value : Reader (TypeTree A E)) (within : ℕ)
    (value_met : (d : End) (x : TypeTree A E) (l k : Toks) (f : Option Span) (e : Span) (sc : Scope) → ahead (at l f e sc) ≤ within → (part clearly).ty Plus d x l k → Fits d k → token.sees_plus k ≡ false → Reads_to value x l k f e sc) where
  abbrev Value : Type 0
  Value = TypeTree A E

  -- before what ends an argument
  type_met : (d : End) (x : Value) (l k : Toks) (f : Option Span) (e : Span) (sc : Scope) → ahead (at l f e sc) ≤ within → (part clearly).ty Plus d x l k → EndsInput k → Reads_to value x l k f e sc
  type_met d x l k f e sc h i o = value_met d x l k f e sc h i (input_fits d k o) o.no_plus

  -- after tokens
  type_later : (d : End) (x : Value) (l m k : Toks) (f g : Option Span) (e s : Span) (sc : Scope) → ahead (at l f e sc) ≤ within → Less l m → (part clearly).ty Plus d x m k → EndsInput k → Reads_to value x m k g s sc
  type_later d x l m k f g e s sc h less i o = let le = later l m f g e s sc within less.lighter h in type_met d x m k g s sc (omega (arith, le)) i o

  pub plain_met : (x : Named part) (l k : Toks) (f : Option Span) (e : Span) (sc : Scope) → ahead (at l f e sc) ≤ within → IsBare part false x l k → EndsInput k → Reads_to (inputs.plain_argument value) x l k f e sc
  unfolding inputs.plain_argument
  plain_met x l k f e sc h (bare_type {d = d} {x = y} i) o =
      let n = no_name false l f e sc (unnamed false l k (firsts.ty Plus d y l k i).0 o) in
      let v = type_met d y l k f n.last sc h i o in
      record { last = v.last; reads = link _ n.reads (link _ v.reads refl) }
  plain_met x l k f e sc h (bare_named {i = i} {c = c} {d = d} {x = y} {l = j} {m = m} q g t) o =
      let n = some_name false i c j m f e sc q g in
      let v = type_later d y l m k f f e n.last sc h (less_no (word_less i j) (mark_no c j m g)) t o in
      record { last = v.last; reads = link _ n.reads (link _ v.reads refl) }

  -- what is about `mut self`, from where it begins
  abbrev First : Named part → Toks → Toks → Option Span → Span → Scope → Type 0
  First x l k f e sc = Reads_to (inputs.first_argument value form.Verbatim) x l k f e sc

  held_met : (t : TokenStream) (l k : Toks) (f : Option Span) (e : Span) (sc : Scope) → ahead (at l f e sc) ≤ within → IsMutSelf part clearly l k → Holds t l k → EndsInput k → First (None, form.Verbatim t) l k f e sc
  unfolding inputs.first_argument inputs.mut_self inputs.named_argument
  held_met t l k f e sc h (mut_self {u = u} {w = w} {m = m} i j) g o =
      let a = word_complete {n = 13} u l m f e sc i in
      let b = word_complete {n = 1} w m k f a.last sc j in
      let z = since_met t l k f f e b.last sc g in
      record {
        last = b.last;
        reads = chosen (sees_mut_self l) true _ _ (at l f e sc) _ (mut_self_seen u w l m k i j)
            (link _ a.reads (chosen (sees_name true m) false _ _ (at m f a.last sc) _ (self_alone w m k j o.no_colon) (link _ b.reads (link _ z refl))));
      }
  held_met t l k f e sc h (mut_self_typed {u = u} {w = w} {c = c} {e = d} {x = x} {m = m} {n = n} {k = q} i j y v) g o =
      let a = word_complete {n = 13} u l m f e sc i in
      let b = self_met w c m n q f a.last sc j y in
      let less = less_less (word_takes u l m i) (less_no (word_takes w m n j) (mark_no c n q y)) in
      let p = type_later d x l q k f f e b.last sc h less v o in
      let z = since_met t l k f f e p.last sc g in
      record {
        last = p.last;
        reads = chosen (sees_mut_self l) true _ _ (at l f e sc) _ (mut_self_seen u w l m n i j)
            (link _ a.reads (chosen (sees_name true m) true _ _ (at m f a.last sc) _ (self_seen w c m n q j y) (link _ b.reads (link _ p.reads (link _ z refl)))));
      }
  held_met t l k f e sc h (named_mut_self {i = i} {c = c} {u = u} {w = w} {l = j} {m = m} {n = n} q y a b) g o =
      let own = or_left (is_name i.text) (is_text token.self_value_text i.text) q in
      let v = some_name true i c j m f e sc own y in
      let p = word_complete {n = 13} u m n f v.last sc a in
      let s = word_complete {n = 1} w n k f p.last sc b in
      let z = since_met t l k f f e s.last sc g in
      record {
        last = s.last;
        reads = chosen (sees_mut_self l) false _ _ (at l f e sc) _ (no_mut_before true i j own)
            (link _ v.reads (chosen (inputs.is_other (Some (i, c)) && sees_mut_self m) true _ _ (at m f v.last sc) _ (and_from _ _ (not_from_false _ (no_self_name i.text q)) (mut_self_seen u w m n k a b))
            (link _ p.reads (link _ s.reads (link _ z refl)))));
      }

  -- the first argument
  first_met : (x : Named part) (l k : Toks) (f : Option Span) (e : Span) (sc : Scope) → ahead (at l f e sc) ≤ within → IsBare part true x l k → EndsInput k → First x l k f e sc
  unfolding inputs.first_argument inputs.named_argument
  first_met x l k f e sc h (bare_type {d = d} {x = y} i) o =
      let b = (firsts.ty Plus d y l k i).0 in
      let n = no_name true l f e sc (unnamed true l k b o) in
      let v = type_met d y l k f n.last sc h i o in
      let no = no_mut_self l b.no_mut in
      record { last = v.last; reads = chosen (sees_mut_self l) false _ _ (at l f e sc) _ no (link _ n.reads (chosen (sees_mut_self l) false _ _ (at l f n.last sc) _ no (link _ v.reads refl))) }
  first_met x l k f e sc h (bare_named {i = i} {c = c} {d = d} {x = y} {l = j} {m = m} q g t) o =
      let b = (firsts.ty Plus d y m k t).0 in
      let n = some_name true i c j m f e sc q g in
      let v = type_later d y l m k f f e n.last sc h (less_no (word_less i j) (mark_no c j m g)) t o in
      record {
        last = v.last;
        reads = chosen (sees_mut_self l) false _ _ (at l f e sc) _ (no_mut_before true i j q)
            (link _ n.reads (chosen (inputs.is_other (Some (i, c)) && sees_mut_self m) false _ _ (at m f n.last sc) _ (and_right _ _ (no_mut_self m b.no_mut)) (link _ v.reads refl)));
      }
  first_met x l k f e sc h (bare_held {t = t} i g) o = held_met t l k f e sc h i g o

  pub bare_met : (first : Bool) (x : Named part) (l k : Toks) (f : Option Span) (e : Span) (sc : Scope) → ahead (at l f e sc) ≤ within → IsBare part first x l k → EndsInput k →
      Reads_to (inputs.argument value form.Verbatim first) x l k f e sc
  bare_met true x l k f e sc h i o = first_met x l k f e sc h i o
  bare_met false x l k f e sc h i o = plain_met x l k f e sc h i o

  -- ---- an argument by itself, with its attributes: `self` has no place there

  pub named_arg_met : (attrs : Reader (List A)) (values : ReadValues E) → SuppliedMeets attrs values part → (x : NamedArg A E) (l k : Toks) (f : Option Span) (e : Span) (sc : Scope) → ahead (at l f e sc) ≤ within →
      IsNamedArg part clearly false x l k → EndsInput k → Reads_to (reading.named_arg attrs value) x l k f e sc
  unfolding reading.named_arg
  named_arg_met attrs values s x l k f e sc h i o =
      let p = parted part false x l k i in
      let b = bare_begins part firsts false p.named p.from k p.bare o in
      let a = s.attrs_met p.attrs l p.from f e sc p.bears b.0.no_pound in
      let le = (s.attrs_light p.attrs l p.from p.bears).light in
      let v = plain_met p.named p.from k f a.last sc (left_after l p.from f f e a.last sc within le h) p.bare o in
      record { last = v.last; reads = link _ a.reads (link _ v.reads (ap (λ z. Ok (z, at k f v.last sc)) p.is)) }
