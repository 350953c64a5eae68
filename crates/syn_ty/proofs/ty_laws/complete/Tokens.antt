-- Which tests of the readers of types hold of a first word, mark, lifetime or group, and which do not.
use Rattle.std.proofs.Common.{◌≡◌, ℕ, Bool, true, false, ◌&&◌, ◌||◌, ◌==◌, if◌then◌else◌, List, [], ◌∷◌, Option, Some, None, is_some, refl, sym, ◌∙◌, ap}
use Rattle.std.proofs.lemmas.Bool.{eqb-true}
use Rattle.std.proofs.lemmas.Slice.Eq.{bytes_eq-Decides}
use Rattle.syn_ty.proofs.ty_laws.words.Tokens.{Lifetime, DelimSpan, Span, Parenthesis, Bracket, Ident, Punct, front, sees_invisible, is_keyword, sees_lifetime, Many, Reader, after_one, as_punct, is_ident, is_last, is_text, past_mark, past_next, sees_group, sees_mark, sees_word, IsMark, is_mark, last_char, more_chars, IsWord, is_word, IsLifetime, is_lifetime, Scope, Bytes, Toks, word, group}
use Rattle.syn_ty.proofs.ty_laws.words.Paths.{AsWritten, sees_sep, is_mod_word, ReadValues}
use Rattle.syn_ty.proofs.ty_laws.words.Forms.{TypePlace, sees_arguments, sees_turbofish, allows_plus}
use Rattle.syn_ty.proofs.ty_laws.words.Types.{Abi, TypeInferOf, TypeNeverOf, Sep, is_segment_word, IsAbi, an_abi, Readers, begins_named, sees_bindable, sees_builtin, sees_fn_ptr, sees_unsafe_binder, IsOptional, absent, present, TypeImplTrait, TypeParamBound, TypePtr, TypeReference, TypeTree}
use Rattle.token_core.specs.Tokens as token
use Rattle.token_core.proofs.Steps.{Reads_to, chosen, link}
use Rattle.token_core.proofs.Took.{at}
use Rattle.syn_ty.specs.declared.ty.TypeOf.TheVariants as v
use Rattle.syn_ty.specs.ty.Reading as reading

-- ---- marks: no two of them that differ in their first characters stand in one place

abbrev Char : ℕ → Option (Punct × Toks) → Type 0
Char c None = ⊥
Char c (Some p) = p.0.ch ≡ c

where_some : {A : Type 0} (b : Bool) (o : Option A) → is_some (if b then o else None) ≡ true → b ≡ true
where_some true o h = refl
where_some false o h = cc h

char_at : (c : ℕ) (cs : List ℕ) (last : Bool) (o : Option (Punct × Toks)) → is_some (past_next c last (past_mark cs) o) ≡ true → Char c o
char_at c cs last None h = cc h
char_at c cs true (Some p) h = eqb-true p.0.ch c (where_some (p.0.ch == c) _ h)
char_at c cs false (Some p) h = eqb-true p.0.ch c (where_some (p.0.ch == c) _ h)

none_else : {A : Type 0} (b : Bool) (o : Option A) → b ≡ false → is_some (if b then o else None) ≡ false
none_else true o h = cc h
none_else false o h = refl

no_char_at : (c d : ℕ) (ds : List ℕ) (last : Bool) (o : Option (Punct × Toks)) → Char c o → (c == d) ≡ false → is_some (past_next d last (past_mark ds) o) ≡ false
no_char_at c d ds last None h e = refl
no_char_at c d ds true (Some p) h e = none_else (p.0.ch == d) _ (ap (λ n. n == d) h ∙ e)
no_char_at c d ds false (Some p) h e = none_else (p.0.ch == d) _ (ap (λ n. n == d) h ∙ e)

pub other_mark : (c d : ℕ) (cs ds : List ℕ) (l : Toks) → sees_mark (c ∷ cs) l ≡ true → (c == d) ≡ false → sees_mark (d ∷ ds) l ≡ false
unfolding sees_mark
other_mark c d cs ds l h e = no_char_at c d ds (is_last ds) (as_punct (front l)) (char_at c cs (is_last cs) (as_punct (front l)) h) e

either : (a b c d e : Bool) → (a && b) || (c && d) ≡ true → (a ≡ true → e ≡ false) → (c ≡ true → e ≡ false) → e ≡ false
either true b c d e h f g = f refl
either false b true d e h f g = g refl
either false b false d e h f g = cc h

-- arguments do not begin with `#`
pub no_pound_arguments : (l : Toks) → sees_arguments AsWritten l ≡ true → token.sees_pound l ≡ false
unfolding sees_turbofish
no_pound_arguments l h = either (token.sees_lt l) _ (sees_sep l) _ (token.sees_pound l) h (λ e. other_mark 60 35 [] [] l e refl) (λ e. other_mark 58 35 (58 ∷ []) [] l e refl)

-- ---- words

-- a text of one kind is not one of the other
unlike : (w t : Bytes) (ok : Bytes → Bool) (b : Bool) → is_text w t ≡ b → ok w ≡ false → ok t ≡ true → is_text w t ≡ false
unlike w t ok true e h k = let g : true ≡ false = sym k ∙ ap ok ((bytes_eq-Decides t w).0 e) ∙ h in cc g
unlike w t ok false e h k = e

-- a word of a path of mod style is no keyword that is none
not_mod : (w t : Bytes) → is_mod_word w ≡ false → is_mod_word t ≡ true → is_text w t ≡ false
not_mod w t h k = unlike w t is_mod_word (is_text w t) refl h k

-- all words of a segment but `try`
without_try : (a s u v c y : Bool) → (a || s) || (u || (v || (c || y))) ≡ true → y ≡ false → a || (u || (v || (s || c))) ≡ true
without_try true s u v c y h e = refl
without_try false true true v c y h e = refl
without_try false true false true c y h e = refl
without_try false true false false c y h e = refl
without_try false false true v c y h e = refl
without_try false false false true c y h e = refl
without_try false false false false true y h e = refl
without_try false false false false false true h e = cc e
without_try false false false false false false h e = cc h

pub mod_segment : (t : Bytes) → is_segment_word t ≡ true → is_text token.try_text t ≡ false → is_mod_word t ≡ true
mod_segment t h e = without_try (is_ident t) (is_text token.self_type_text t) (is_text token.super_text t) (is_text token.self_value_text t) (is_text token.crate_text t) (is_text token.try_text t) h e

-- ---- what stands after a binder or in its place

pub record NameBegins (l : Toks) : Type 0 where
  pub no_invisible : sees_invisible l ≡ false
  pub no_for : token.sees_for l ≡ false
  pub no_paren : sees_group Parenthesis l ≡ false
  pub named : begins_named l ≡ true

-- What begins with a path, before what follows its first token: the test for `builtin #` holds where a `#` follows that.
pub record PathBegins (l k : Toks) : Type 0 where
  pub name : NameBegins l
  pub no_unsafe : sees_unsafe_binder l ≡ false
  pub no_fn : sees_fn_ptr l ≡ false
  pub no_builtin : token.sees_pound k ≡ false → sees_builtin l ≡ false
  pub bindable : sees_sep l ≡ false → token.sees_lt l ≡ false → sees_bindable l ≡ true

or_none : (a b c : Bool) → a ≡ false → b ≡ false → c ≡ false → a || (b || c) ≡ false
or_none a b c h g k = ap (λ z. z || (b || c)) h ∙ ap (λ z. z || c) g ∙ k

and_none : (a b : Bool) → a ≡ false → a && b ≡ false
and_none a b h = ap (λ z. z && b) h

and_last : (a b : Bool) → b ≡ false → a && b ≡ false
and_last true b h = h
and_last false b h = refl

or_true : (a b : Bool) → a ≡ true → a || b ≡ true
or_true a b h = ap (λ z. z || b) h

pub word_begins : (i : Ident) (k : Toks) → is_mod_word i.text ≡ true → PathBegins (word i k) k
unfolding begins_named sees_bindable sees_fn_ptr sees_unsafe_binder sees_builtin sees_invisible sees_word sees_mark sees_group after_one is_keyword
word_begins i k h =
    let bindable = or_true (is_mod_word i.text) _ h in
    record {
      name = record { no_invisible = refl; no_for = not_mod token.for_text i.text refl h; no_paren = refl; named = or_true _ _ bindable };
      no_unsafe = and_none _ _ (not_mod token.unsafe_text i.text refl h);
      no_fn = or_none _ _ _ (not_mod token.fn_text i.text refl h) (not_mod token.unsafe_text i.text refl h) (not_mod token.extern_text i.text refl h);
      no_builtin = λ e. and_last _ _ e;
      bindable = λ e g. bindable;
    }

pub sep_begins : (c : Sep) (l m k : Toks) → IsMark true c l m → PathBegins l k
unfolding begins_named sees_bindable sees_fn_ptr sees_unsafe_binder sees_builtin sees_invisible sees_word sees_mark sees_group
sep_begins c l m k (is_mark (more_chars (last_char x))) = record { name = record { no_invisible = refl; no_for = refl; no_paren = refl; named = refl }; no_unsafe = refl; no_fn = refl; no_builtin = λ e. refl; bindable = λ e g. cc e }

pub lt_begins : (c : token.Lt) (l m k : Toks) → IsMark true c l m → PathBegins l k
unfolding begins_named sees_bindable sees_fn_ptr sees_unsafe_binder sees_builtin sees_invisible sees_word sees_mark sees_group
lt_begins c l m k (is_mark (last_char x)) = record { name = record { no_invisible = refl; no_for = refl; no_paren = refl; named = refl }; no_unsafe = refl; no_fn = refl; no_builtin = λ e. refl; bindable = λ e g. cc g }

pub word_no_lt : (i : Ident) (k : Toks) → token.sees_lt (word i k) ≡ false
unfolding sees_mark
word_no_lt i k = refl

pub word_no_sep : (i : Ident) (k : Toks) → sees_sep (word i k) ≡ false
unfolding sees_mark
word_no_sep i k = refl

-- ---- a pointer to a function, and `unsafe`

-- a pointer to a function, after its binder
pub record FnBegins (l : Toks) : Type 0 where
  pub name : NameBegins l
  pub no_binder : sees_unsafe_binder l ≡ false
  pub sees : sees_fn_ptr l ≡ true
  pub bindable : sees_bindable l ≡ true

no_lt_abi : (i : Option Abi) (w : token.Fn) (l m n : Toks) → IsOptional IsAbi i l m → IsWord w m n → token.sees_lt l ≡ false
unfolding sees_mark
no_lt_abi i w l m n absent is_word = refl
no_lt_abi i w l m n (present (an_abi is_word j)) h = refl

pub fn_begins : (u : Option token.Unsafe) (i : Option Abi) (w : token.Fn) (l m n k : Toks) → IsOptional IsWord u l m → IsOptional IsAbi i m n → IsWord w n k → FnBegins l
unfolding sees_unsafe_binder sees_fn_ptr sees_bindable begins_named sees_invisible sees_word sees_group after_one is_keyword
fn_begins u i w l m n k (present is_word) j h = record { name = record { no_invisible = refl; no_for = refl; no_paren = refl; named = refl }; no_binder = no_lt_abi i w m n k j h; sees = refl; bindable = refl }
fn_begins u i w l m n k absent (present (an_abi is_word j)) h = record { name = record { no_invisible = refl; no_for = refl; no_paren = refl; named = refl }; no_binder = refl; sees = refl; bindable = refl }
fn_begins u i w l m n k absent absent is_word = record { name = record { no_invisible = refl; no_for = refl; no_paren = refl; named = refl }; no_binder = refl; sees = refl; bindable = refl }

pub unsafe_begins : (w : token.Unsafe) (l m : Toks) → IsWord w l m → NameBegins l
unfolding sees_fn_ptr sees_bindable begins_named sees_invisible sees_word sees_group is_keyword
unsafe_begins w l m is_word = record { no_invisible = refl; no_for = refl; no_paren = refl; named = refl }

-- ---- one turn, by the tests that come before a form

-- neither a group nor a path, and no binder
record TokenBegins (l : Toks) : Type 0 where
  no_invisible : sees_invisible l ≡ false
  no_for : token.sees_for l ≡ false
  no_paren : sees_group Parenthesis l ≡ false
  no_name : begins_named l ≡ false

module _ {A E : Type 0} (attrs : Reader (List A)) (values : ReadValues E) (r : Readers A E) (place : TypePlace) where
  abbrev Tree : Type 0
  Tree = TypeTree A E

  abbrev plus : Bool
  plus = allows_plus place

  abbrev pub Turn : Tree → Toks → Toks → Option Span → Span → Scope → Type 0
  Turn x l k f e sc = Reads_to (reading.type_step attrs values r place) x l k f e sc

  abbrev By : Tree → Toks → Toks → Option Span → Span → Scope → Type 0
  By x l k f e sc = Reads_to (reading.by_token attrs values r plus) x l k f e sc

  by_token : (x : Tree) (l k : Toks) (f : Option Span) (e : Span) (sc : Scope) → TokenBegins l → By x l k f e sc → Turn x l k f e sc
  unfolding reading.type_step reading.unbound_type
  by_token x l k f e sc b h = record {
    last = h.last;
    reads = chosen (sees_invisible l) false _ _ (at l f e sc) _ b.no_invisible (chosen (token.sees_for l) false _ _ (at l f e sc) _ b.no_for
        (chosen (sees_group Parenthesis l) false _ _ (at l f e sc) _ b.no_paren (chosen (begins_named l) false _ _ (at l f e sc) _ b.no_name h.reads)));
  }

  -- ---- parentheses

  pub paren_turn : (x : Tree) (s : DelimSpan) (c m k : Toks) (f : Option Span) (e : Span) (sc : Scope) → Reads_to (reading.paren_type r plus) x (group Parenthesis s c m) k f e sc → Turn x (group Parenthesis s c m) k f e sc
  unfolding reading.type_step reading.unbound_type sees_invisible sees_word sees_group
  paren_turn x s c m k f e sc h = record { last = h.last; reads = h.reads }

  -- ---- words

  pub dyn_turn : (x : Tree) (w : token.Dyn) (l m k : Toks) (f : Option Span) (e : Span) (sc : Scope) → IsWord w l m → Reads_to (reading.dyn_type r plus) x l k f e sc → Turn x l k f e sc
  unfolding reading.by_token begins_named sees_bindable sees_fn_ptr sees_invisible sees_word sees_mark sees_group is_keyword
  dyn_turn x w l m k f e sc is_word h = by_token x l k f e sc (record { no_invisible = refl; no_for = refl; no_paren = refl; no_name = refl }) (record { last = h.last; reads = h.reads })

  pub impl_turn : (y : TypeImplTrait A E) (w : token.Impl) (l m k : Toks) (f : Option Span) (e : Span) (sc : Scope) → IsWord w l m → Reads_to (reading.impl_trait r plus) y l k f e sc → Turn (v.ImplTrait y) l k f e sc
  unfolding reading.by_token reading.by_last_tokens begins_named sees_bindable sees_fn_ptr sees_invisible sees_word sees_mark sees_group is_keyword
  impl_turn y w l m k f e sc is_word h = by_token (v.ImplTrait y) l k f e sc (record { no_invisible = refl; no_for = refl; no_paren = refl; no_name = refl }) (record { last = h.last; reads = link _ h.reads refl })

  pub infer_turn : (y : TypeInferOf A) (w : token.Underscore) (l m k : Toks) (f : Option Span) (e : Span) (sc : Scope) → IsWord w l m → Reads_to reading.infer y l k f e sc → Turn (v.Infer y) l k f e sc
  unfolding reading.by_token reading.by_last_tokens begins_named sees_bindable sees_fn_ptr sees_invisible sees_word sees_mark sees_group is_keyword
  infer_turn y w l m k f e sc is_word h = by_token (v.Infer y) l k f e sc (record { no_invisible = refl; no_for = refl; no_paren = refl; no_name = refl }) (record { last = h.last; reads = link _ h.reads refl })

  -- ---- marks, lifetimes, brackets

  pub bracket_turn : (x : Tree) (s : DelimSpan) (c m k : Toks) (f : Option Span) (e : Span) (sc : Scope) → Reads_to (reading.slice_or_array values r) x (group Bracket s c m) k f e sc → Turn x (group Bracket s c m) k f e sc
  unfolding reading.by_token begins_named sees_bindable sees_fn_ptr sees_invisible sees_word sees_mark sees_group
  bracket_turn x s c m k f e sc h = by_token x (group Bracket s c m) k f e sc (record { no_invisible = refl; no_for = refl; no_paren = refl; no_name = refl }) (record { last = h.last; reads = h.reads })

  pub star_turn : (y : TypePtr A E) (q : token.Star) (l m k : Toks) (f : Option Span) (e : Span) (sc : Scope) → IsMark true q l m → Reads_to (reading.ptr r) y l k f e sc → Turn (v.Ptr y) l k f e sc
  unfolding reading.by_token begins_named sees_bindable sees_fn_ptr sees_invisible sees_word sees_mark sees_group
  star_turn y q l m k f e sc (is_mark (last_char z)) h = by_token (v.Ptr y) l k f e sc (record { no_invisible = refl; no_for = refl; no_paren = refl; no_name = refl }) (record { last = h.last; reads = link _ h.reads refl })

  pub and_turn : (y : TypeReference A E) (q : token.And) (l m k : Toks) (f : Option Span) (e : Span) (sc : Scope) → IsMark true q l m → Reads_to (reading.reference r) y l k f e sc → Turn (v.Reference y) l k f e sc
  unfolding reading.by_token begins_named sees_bindable sees_fn_ptr sees_invisible sees_word sees_mark sees_group
  and_turn y q l m k f e sc (is_mark (last_char z)) h = by_token (v.Reference y) l k f e sc (record { no_invisible = refl; no_for = refl; no_paren = refl; no_name = refl }) (record { last = h.last; reads = link _ h.reads refl })

  pub bang_turn : (y : TypeNeverOf A) (q : token.Bang) (l m k : Toks) (f : Option Span) (e : Span) (sc : Scope) → IsMark true q l m → Reads_to reading.never y l k f e sc → Turn (v.Never y) l k f e sc
  unfolding reading.by_token reading.by_last_tokens begins_named sees_bindable sees_fn_ptr sees_invisible sees_word sees_mark sees_group
  bang_turn y q l m k f e sc (is_mark (last_char z)) h = by_token (v.Never y) l k f e sc (record { no_invisible = refl; no_for = refl; no_paren = refl; no_name = refl }) (record { last = h.last; reads = link _ h.reads refl })

  pub lifetime_turn : (w : Many (TypeParamBound A E) token.Plus) (y : Lifetime) (l m k : Toks) (f : Option Span) (e : Span) (sc : Scope) → IsLifetime y l m → Reads_to (reading.lifetime_object r) w l k f e sc → Turn (reading.object_of w) l k f e sc
  unfolding reading.by_token reading.by_last_tokens begins_named sees_bindable sees_fn_ptr sees_invisible sees_lifetime sees_word sees_mark sees_group
  lifetime_turn w y l m k f e sc is_lifetime h = by_token (reading.object_of w) l k f e sc (record { no_invisible = refl; no_for = refl; no_paren = refl; no_name = refl }) (record { last = h.last; reads = link _ h.reads refl })
