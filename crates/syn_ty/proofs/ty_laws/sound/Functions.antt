-- Where a pointer to a function is read, it is spelt by the rules of the whole grammar: its head, its arguments, of which the first may be about `mut self` and is then held verbatim, and its output; and so is an argument by itself.
use Rattle.std.proofs.lemmas.Slice.Eq.{bytes_eq-Decides}
use Rattle.std.specs.Prelude.{option_map}
use Rattle.std.proofs.Common.{◌≡◌, ℕ, zero, suc, Bool, true, false, not, ◌&&◌, ◌||◌, if◌then◌else◌, List, ◌∷◌, Option, Some, None, Ok, Err, inl, inr, refl, sym, ◌∙◌, ap, subst, arith}
use Rattle.syn_ty.proofs.ty_laws.words.Tokens.{LitStr, Spans, DelimSpan, Paren, Parenthesis, Ident, Word, front, AreListed, none_left, last_value, value_and_mark, Anywhere, sees_str, Many, size, Reader, Outcome, Follows, after_one, and_then, any_text, as_word, expected, ident_name, in_group, is_done, is_ident, is_text, leaves, next_word, optional, past_mark, pure, read_word, second, sees_word, Visible, Refusal, IsMark, IsWord, is_word, IsStr, Stream, Bytes, Toks, done, word, group, TokenStream, ident}
use Rattle.syn_ty.proofs.ty_laws.words.Paths.{ReadValues, Along}
use Rattle.syn_ty.proofs.ty_laws.words.Forms.{Binder, Plus, NoPlus, sees_mut_self, sees_name, position, since}
use Rattle.syn_ty.proofs.ty_laws.words.Types.{Abi, IsFor, optional_binder, IsReturn, IsAbi, an_abi, is_name, is_argument_name, IsMutSelf, mut_self, mut_self_typed, named_mut_self, IsNamedArg, a_named_argument, a_verbatim_argument, IsVariadic, dots, named_dots, AreInputs, plain_inputs, variadic_inputs, IsFnPtr, a_fn_ptr, Manner, loosely, Parts, Holds, AreMarked, no_further, one_further, Readers, a_type, IsOptional, absent, present, BoundLifetimes, NamedArg, ReturnType, TypeFnPtr, TypeTree, named_arg_of}
use Rattle.token_core.specs.Groups as groups
use Rattle.token_core.specs.Lits.{read_str}
use Rattle.token_core.specs.Marks as marks
use Rattle.token_core.specs.Marks.{chars_of, mark_name, mark_of, word_of}
use Rattle.token_core.specs.Reads.{goes_on, past, read_mark, word_if, word_meets}
use Rattle.token_core.specs.Tokens as token
use Rattle.token_core.proofs.LitSpells.{str_sound, str_visible}
use Rattle.token_core.proofs.MarkSpells.{mark_sound, mark_visible}
use Rattle.token_core.proofs.Suffixes.{follows_past, follows_self, follows_trans, follows_word, suffix_mark}
use Rattle.token_core.proofs.Took.{branch, mapped, seen_word, took_all, took_word}
use Rattle.token_core.proofs.Turns.{chain, same_pair}
use Rattle.token_core.proofs.WordSpells.{word_sound, word_visible}
use Rattle.syn_path.proofs.Words.{TookOne}
use Rattle.syn_forms.specs.heads.Reading as heads
use Rattle.syn_forms.specs.inputs.Reading as inputs
use Rattle.syn_forms.specs.inputs.Reading.{Name, sees_ident_or_underscore, is_other}
use Rattle.syn_forms.proofs.tokens_laws.Fronts.{nothing_left, plainly, took_as}
use Rattle.syn_ty.specs.declared.ty.TypeOf.TheVariants as form
use Rattle.syn_ty.specs.ty.Functions.{an_argument}
use Rattle.syn_ty.specs.ty.Reading as reading
use Rattle.syn_ty.specs.ty.Reading.{abi_of, dots_of, fn_ptr_by}
use Rattle.syn_ty.proofs.generics_laws.Sound.{optional_took}
use Rattle.syn_ty.proofs.ty_laws.sound.Held.{holds_since}
use Rattle.syn_ty.proofs.ty_laws.sound.Paths.{and_first}
use Rattle.syn_ty.proofs.ty_laws.sound.Leaves.{IsHeld, held_sound, named_sound, optional_sound}
use Rattle.syn_ty.proofs.ty_laws.sound.Forms.{Told, both, output_took}
use Rattle.syn_ty.proofs.ty_laws.sound.Within.{Held, Supplied}

-- ---- single tokens stand further on

word_further : (test : Bytes → Bool) (e : Refusal) (s t : Stream) (i : Ident) (o : Option (Ident × Stream)) → next_word s ≡ o → word_if test e o ≡ Ok (i, t) → Follows s t
word_further test e s t i None g h = cc
word_further test e s t i (Some p) g h = by_test (test p.0.text) h
  where
    by_test : (b : Bool) → ◌≡◌ {A = Outcome Ident} (if b then Ok p else Err e) (Ok (i, t)) → Follows s t
    by_test true h = let k = same_pair p.0 i p.1 t h in subst (λ z. Follows s z) k.1 (follows_word s p.1 p.0 g)
    by_test false h = cc

along_word : (test : Bytes → Bool) (name : Bytes) → Along (read_word test name)
unfolding read_word
along_word test name s t i h = word_further test (expected name s) s t i (next_word s) refl h

along_named : (n : ℕ) → Along (marks.read_named n)
along_named n s t w h = along_word (is_text (marks.text_of n)) (marks.word_name n) s t (mapped (read_word (is_text (marks.text_of n)) (marks.word_name n) s) (λ (i : Ident). word_of n i.span) w t h).value
    (mapped (read_word (is_text (marks.text_of n)) (marks.word_name n) s) (λ (i : Ident). word_of n i.span) w t h).was

mark_further : (cs : List ℕ) (e : Refusal) (s t : Stream) (m : Spans) (o : Option (Spans × Toks)) → past_mark cs s.rest ≡ o → goes_on (λ (x : Spans). x.third) e s o ≡ Ok (m, t) → Follows s t
mark_further cs e s t m None g h = cc
mark_further cs e s t m (Some q) g h = let k = same_pair q.0 m (past s q.1 q.0.third) t h in subst (λ z. Follows s z) k.1 (follows_past s q.1 q.0.third (suffix_mark cs s.rest q g))

along_mark : (n l : ℕ) → Along (marks.read n l)
unfolding read_mark
along_mark n l s t m h =
    let k = mapped (read_mark (chars_of n) (mark_name n) s) (mark_of n l) m t h in
    mark_further (chars_of n) (expected (mark_name n) s) s t k.value (past_mark (chars_of n) s.rest) refl k.was

-- ---- `extern` and a string, and what stands before the arguments

str_took : (s t : Stream) (x : LitStr) → Visible s.rest → read_str s ≡ Ok (x, t) → TookOne IsStr s t x
str_took s t x v e = plainly {Is = IsStr} str_visible s t x v (str_sound s t x v e)

-- an ABI by its parts
abbrev IsParts : heads.AbiParts → Toks → Toks → Type 0
IsParts p l r = IsAbi (abi_of p) l r

parts_at : (w : token.Extern) (o : Option LitStr) (l m r : Toks) → IsWord w l m → IsOptional IsStr o m r → IsParts (w, o) l r
parts_at w o l m r i j = an_abi i j

parts_took : (s t : Stream) (p : heads.AbiParts) → Visible s.rest → heads.abi s ≡ Ok (p, t) → TookOne IsParts s t p
unfolding heads.abi
parts_took s t p v e =
    let c = chain (token.extern_word s) _ p t e in
    let k = named_sound {n = 8} s c.rest c.value v c.was in
    let with : Option LitStr → heads.AbiParts = λ z. (c.value, z) in
    let d = mapped (optional sees_str read_str c.rest) with p t c.goes in
    let o = optional_sound {Is = IsStr} sees_str read_str str_took c.rest t d.value k.seen d.was in
    record {
      left = λ n. k.left (o.left n);
      seen = o.seen;
      spelt = λ n. subst (λ z. IsParts z s.rest t.rest) d.is (parts_at c.value d.value s.rest c.rest.rest t.rest (k.spelt (o.left n)) (o.spelt n));
    }

pub abi_took : (s t : Stream) (x : Abi) → Visible s.rest → reading.abi s ≡ Ok (x, t) → TookOne IsAbi s t x
abi_took s t x v e =
    let k = mapped (heads.abi s) abi_of x t e in
    took_as {Is = IsParts} {Js = IsAbi} abi_of s t k.value x k.is (λ l m i. i) (parts_took s t k.value v k.was)

pub optional_abi_took : (s t : Stream) (o : Option Abi) → Visible s.rest → reading.optional_abi s ≡ Ok (o, t) → TookOne (IsOptional IsAbi) s t o
optional_abi_took s t o v e = optional_sound {Is = IsAbi} token.sees_extern reading.abi abi_took s t o v e

abi_there : (o : Option heads.AbiParts) (l r : Toks) → IsOptional IsParts o l r → IsOptional IsAbi (option_map abi_of o) l r
abi_there o l r absent = absent
abi_there o l r (present i) = present i

-- perhaps `unsafe`, perhaps an ABI, and `fn`
pub IsHead : heads.FnHead → Toks → Toks → Type 0
IsHead x l r = (m : Toks) × (n : Toks) × IsOptional IsWord x.0 l m × IsOptional IsAbi (option_map abi_of x.1) m n × IsWord x.2 n r

pub head_took : (s t : Stream) (x : heads.FnHead) → Visible s.rest → heads.fn_head s ≡ Ok (x, t) → TookOne IsHead s t x
unfolding heads.fn_head IsHead
head_took s t x v e =
    let c = chain (optional token.sees_unsafe token.unsafe_word s) _ x t e in
    let u = optional_sound {Is = IsWord {n = 16}} token.sees_unsafe token.unsafe_word (named_sound {n = 16}) s c.rest c.value v c.was in
    let d = chain (heads.optional_abi c.rest) _ x t c.goes in
    let a = optional_sound {Is = IsParts} token.sees_extern heads.abi parts_took c.rest d.rest d.value u.seen d.was in
    let with : token.Fn → heads.FnHead = λ z. (c.value, d.value, z) in
    let f = mapped (token.fn_word d.rest) with x t d.goes in
    let k = named_sound {n = 9} d.rest t f.value a.seen f.was in
    record {
      left = λ n. u.left (a.left (k.left n));
      seen = k.seen;
      spelt = λ n.
          let na = k.left n in
          subst (λ z. IsHead z s.rest t.rest) f.is (c.rest.rest, d.rest.rest, u.spelt (a.left na), abi_there d.value c.rest.rest d.rest.rest (a.spelt na), k.spelt n);
    }

-- ---- names before a type

-- a word that meets a test and `:`, or nothing
data IsNamed (test : Bytes → Bool) : Name → Toks → Toks → Type 0 where
  no_name : {r : Toks} → IsNamed test None r r
  a_name : {i : Ident} {c : token.Colon} {l r : Toks} → test i.text ≡ true → IsMark false c l r → IsNamed test (Some (i, c)) (word i l) r

abbrev NameAndColon : Type 0
NameAndColon = Ident × token.Colon

one_name : (test : Bytes → Bool) (s t : Stream) (x : NameAndColon) → Visible s.rest → sees_word test s.rest ≡ true → inputs.name s ≡ Ok (x, t) → TookOne (λ (z : NameAndColon). IsNamed test (Some z)) s t x
unfolding inputs.name
one_name test s t x v m e =
    let c = chain (read_word any_text ident_name s) _ x t e in
    let w = took_word any_text ident_name s c.rest c.value v c.was in
    let vc = subst Visible w.is v in
    let meets : test c.value.text ≡ true = sym (seen_word test c.value c.rest.rest) ∙ ap (sees_word test) (sym w.is) ∙ m in
    let with : token.Colon → NameAndColon = λ z. (c.value, z) in
    let d = mapped (token.colon c.rest) with x t c.goes in
    let k = mark_sound {n = 7} {k = 1} refl (omega arith) c.rest t d.value vc d.was in
    record {
      left = λ n. sym w.left ∙ (sym k.left ∙ n);
      seen = mark_visible false {n = 7} {k = 1} d.value c.rest.rest t.rest k.spelt vc;
      spelt = λ n. subst (λ z. IsNamed test (Some z) s.rest t.rest) d.is (subst (λ z. IsNamed test (Some (c.value, d.value)) z t.rest) (sym w.is) (a_name meets k.spelt));
    }

along_name : Along inputs.name
unfolding inputs.name
along_name s t x e =
    let c = chain (read_word any_text ident_name s) _ x t e in
    let with : token.Colon → NameAndColon = λ z. (c.value, z) in
    let d = mapped (token.colon c.rest) with x t c.goes in
    follows_trans s c.rest t (along_word any_text ident_name s c.rest c.value c.was) (along_mark 7 1 c.rest t d.value d.was)

module _ (test : Bytes → Bool) (sees : Toks → Bool) (meets : (l : Toks) → sees l ≡ true → sees_word test l ≡ true) where
  name_took : (s t : Stream) (n : Name) → Visible s.rest → optional sees inputs.name s ≡ Ok (n, t) → TookOne (IsNamed test) s t n
  name_took s t n v e =
      elim (branch (sees s.rest) _ _ s (Ok (n, t)) e) [
        | inl y ↦ let k = mapped (inputs.name s) (λ (z : NameAndColon). Some z) n t y.1 in
            took_as {Is = λ (z : NameAndColon). IsNamed test (Some z)} {Js = IsNamed test} (λ (z : NameAndColon). Some z) s t k.value n k.is (λ l r i. i) (one_name test s t k.value v (meets s.rest y.0) k.was)
        | inr y ↦ let g = same_pair None n s t y.1 in
            subst (λ z. TookOne (IsNamed test) s t z) g.0 (subst (λ z. TookOne (IsNamed test) s z None) g.1 (record { left = λ k. k; seen = v; spelt = λ k. no_name }))
      ]

pub along_optional_name : (sees : Toks → Bool) → Along (optional sees inputs.name)
along_optional_name sees s t n e =
    elim (branch (sees s.rest) _ _ s (Ok (n, t)) e) [
      | inl y ↦ let k = mapped (inputs.name s) (λ (z : NameAndColon). Some z) n t y.1 in along_name s t k.value k.was
      | inr y ↦ subst (λ z. Follows s z) (same_pair None n s t y.1).1 (follows_self s)
    ]

-- what the tests see

meets_name : (o : Option (Ident × Toks)) → word_meets is_ident o || word_meets (is_text token.underscore_text) o ≡ true → word_meets is_name o ≡ true
meets_name None h = cc h
meets_name (Some p) h = h

seen_name : (l : Toks) → sees_ident_or_underscore l ≡ true → sees_word is_name l ≡ true
unfolding sees_word
seen_name l h = meets_name (as_word (front l)) h

meets_argument_name : (first : Bool) (o : Option (Ident × Toks)) → (word_meets is_ident o || word_meets (is_text token.underscore_text) o) || (first && word_meets (is_text token.self_value_text) o) ≡ true →
    word_meets (is_argument_name first) o ≡ true
meets_argument_name true None h = cc h
meets_argument_name false None h = cc h
meets_argument_name first (Some p) h = h

seen_argument_name : (first : Bool) (l : Toks) → sees_name first l ≡ true → sees_word (is_argument_name first) l ≡ true
unfolding sees_name sees_word
seen_argument_name first l h = meets_argument_name first (as_word (front l)) (and_first _ _ h)

and_second : (b c : Bool) → b && c ≡ true → c ≡ true
and_second true c h = h
and_second false c h = cc h

-- a name that is not `self`
other_name : (a b c : Bool) → (a || b) || c ≡ true → not c ≡ true → a || b ≡ true
other_name true b c h k = refl
other_name false true c h k = refl
other_name false false true h k = cc k
other_name false false false h k = cc h

-- ---- arguments

module _ {A E : Type 0} (part : Manner → Parts A E) where
  abbrev Tree : Type 0
  Tree = TypeTree A E

  abbrev Named : Type 0
  Named = Name × Tree

  abbrev TypeHere : Tree → Toks → Toks → Type 0
  TypeHere = Told ((part loosely).ty Plus)

  abbrev Argument : Bool → NamedArg A E → Toks → Toks → Type 0
  Argument = IsNamedArg part loosely

  -- after any attributes it is an argument
  pub Bare : Bool → Named → Toks → Toks → Type 0
  Bare first x m r = (a : List A) (l : Toks) → (part loosely).attrs a l m → Argument first (named_arg_of a x.0 x.1) l r

  bare_at : (first : Bool) (n : Name) (x : Tree) (l m r : Toks) → IsNamed (is_argument_name first) n l m → TypeHere x m r → Bare first (n, x) l r
  unfolding Bare
  bare_at first n x l m r no_name w = λ a k i. an_argument i w.1
  bare_at first n x l m r (a_name h c) w = λ a k i. a_named_argument i h c w.1

  held_at : (t : TokenStream) (l r : Toks) → IsMutSelf part loosely l r → Holds t l r → Bare true (None, form.Verbatim t) l r
  unfolding Bare
  held_at t l r i h = λ a k j. a_verbatim_argument j (i, h)

  -- over the read of its type, whose law is wanted in the places where it is asked
  module _ (value : Reader Tree) (Asked : Stream → Type 0) (took : (s t : Stream) (x : Tree) → Asked s → Visible s.rest → value s ≡ Ok (x, t) → TookOne TypeHere s t x) where
    after_asked : (first : Bool) (n : Name) (l : Toks) (s t : Stream) (x : Named) → Asked s → Visible s.rest → and_then (value s) (λ z. pure (n, z)) ≡ Ok (x, t) →
        (t.left ≡ None → s.left ≡ None) × Visible t.rest × (t.left ≡ None → IsNamed (is_argument_name first) n l s.rest → Bare first x l t.rest)
    after_asked first n l s t x at v e =
        let with : Tree → Named = λ z. (n, z) in
        let k = mapped (value s) with x t e in
        let w = took s t k.value at v k.was in
        (w.left, w.seen, λ h i. subst (λ z. Bare first z l t.rest) k.is (bare_at first n k.value l s.rest t.rest i (w.spelt h)))

    -- it is asked after a name that may be there
    abbrev pub AfterName : Stream → Type 0
    AfterName s = (n : Name) (u : Stream) → optional (sees_name false) inputs.name s ≡ Ok (n, u) → Asked u

    pub plain_asked : (s t : Stream) (x : Named) → AfterName s → Visible s.rest → inputs.plain_argument value s ≡ Ok (x, t) → TookOne (Bare false) s t x
    unfolding inputs.plain_argument
    plain_asked s t x at v e =
        let c = chain (optional (sees_name false) inputs.name s) _ x t e in
        let k = name_took (is_argument_name false) (sees_name false) (seen_argument_name false) s c.rest c.value v c.was in
        let w = after_asked false c.value s.rest c.rest t x (at c.value c.rest c.was) k.seen c.goes in
        record { left = λ n. k.left (w.0 n); seen = w.1; spelt = λ n. w.2 n (k.spelt (w.0 n)) }

    -- an argument by itself, which is not the first one
    pub named_arg_took : (attrs : Reader (List A)) → ((s t : Stream) (x : List A) → Visible s.rest → attrs s ≡ Ok (x, t) → TookOne (part loosely).attrs s t x) →
        (s t : Stream) (x : NamedArg A E) → ((a : List A) (u : Stream) → attrs s ≡ Ok (a, u) → AfterName u) → Visible s.rest → reading.named_arg attrs value s ≡ Ok (x, t) → TookOne (Argument false) s t x
    unfolding reading.named_arg Bare
    named_arg_took attrs took_attrs s t x at v e =
        let c = chain (attrs s) _ x t e in
        let k = took_attrs s c.rest c.value v c.was in
        let of : Named → NamedArg A E = λ z. named_arg_of c.value z.0 z.1 in
        let d = mapped (inputs.plain_argument value c.rest) of x t c.goes in
        let w = plain_asked c.rest t d.value (at c.value c.rest c.was) k.seen d.was in
        record {
          left = λ n. k.left (w.left n);
          seen = w.seen;
          spelt = λ n. subst (λ z. Argument false z s.rest t.rest) d.is (w.spelt n c.value s.rest (k.spelt (w.left n)));
        }

  -- where the law of the type holds everywhere
  module _ (value : Reader Tree) (took : (s t : Stream) (x : Tree) → Visible s.rest → value s ≡ Ok (x, t) → TookOne TypeHere s t x) where
    -- a type after a name that was read
    after_name : (first : Bool) (n : Name) (l : Toks) (s t : Stream) (x : Named) → Visible s.rest → and_then (value s) (λ z. pure (n, z)) ≡ Ok (x, t) →
        (t.left ≡ None → s.left ≡ None) × Visible t.rest × (t.left ≡ None → IsNamed (is_argument_name first) n l s.rest → Bare first x l t.rest)
    after_name first n l s t x v e = after_asked value (λ z. Unit {0}) (λ a b y u i j. took a b y i j) first n l s t x tt v e

    pub plain_took : (s t : Stream) (x : Named) → Visible s.rest → inputs.plain_argument value s ≡ Ok (x, t) → TookOne (Bare false) s t x
    plain_took s t x v e = plain_asked value (λ z. Unit {0}) (λ a b y u i j. took a b y i j) s t x (λ n u i. tt) v e

    -- ---- the first argument of a pointer to a function

    module _ (along : Along value) where
      -- `self` follows a word that was read
      self_after : {n : ℕ} (w : Word n) (l m : Toks) → IsWord w l m → second token.sees_self_value l ≡ true → token.sees_self_value m ≡ true
      unfolding after_one
      self_after w l m is_word h = h

      -- the word `self` before a colon
      record SelfNamed (c : token.Colon) (l r : Toks) : Type 0 where
        self : token.SelfValue
        after : Toks
        spelt : IsWord self l after
        colon : IsMark false c after r

      self_named : (i : Ident) (c : token.Colon) (l r : Toks) → IsNamed (is_text token.self_value_text) (Some (i, c)) l r → SelfNamed c l r
      self_named i c l r (a_name {l = m} h k) =
          let text : i.text ≡ token.self_value_text = (bytes_eq-Decides i.text token.self_value_text).0 h in
          record { self = word_of 1 i.span; after = m; spelt = subst (λ z. IsWord (word_of 1 i.span) z m) (ap (λ z. word (ident z i.span) m) (sym text)) is_word; colon = k }

      -- what is held verbatim from a position on
      held_since : (s u t : Stream) (x : Named) → Visible s.rest → Visible u.rest → Follows s u → and_then (since (position s) u) (λ z. pure (None, form.Verbatim z)) ≡ Ok (x, t) →
          (u ≡ t) × (IsMutSelf part loosely s.rest t.rest → Bare true x s.rest t.rest)
      held_since s u t x vs vu f e =
          let of : TokenStream → Named = λ z. (None, form.Verbatim z) in
          let k = mapped (since (position s) u) of x t e in
          let h = holds_since s u t k.value vs vu f k.was in
          (h.0, λ i. subst (λ z. Bare true z s.rest t.rest) k.is (held_at k.value s.rest t.rest i (subst (λ (z : Stream). Holds k.value s.rest z.rest) h.0 h.1)))

      typed_at : (u : token.Mut) (i : Ident) (c : token.Colon) (x : Tree) (l m n r : Toks) → IsWord u l m → IsNamed (is_text token.self_value_text) (Some (i, c)) m n → TypeHere x n r → IsMutSelf part loosely l r
      typed_at u i c x l m n r j k w = let h = self_named i c m n k in mut_self_typed j h.spelt h.colon w.1

      mut_self_took : (s t : Stream) (x : Named) → Visible s.rest → sees_mut_self s.rest ≡ true → inputs.mut_self value form.Verbatim s ≡ Ok (x, t) → TookOne (Bare true) s t x
      unfolding inputs.mut_self sees_mut_self
      mut_self_took s t x v b e =
          let c = chain (token.mut_word s) _ x t e in
          let k = word_sound {n = 13} s c.rest c.value v c.was in
          let vc = word_visible {n = 13} c.value s.rest c.rest.rest k.spelt v in
          let fc = along_named 13 s c.rest c.value c.was in
          let here = self_after c.value s.rest c.rest.rest k.spelt (and_second _ _ b) in
          elim (branch (sees_name true c.rest.rest) _ _ c.rest (Ok (x, t)) c.goes) [
            | inl y ↦ let d = chain (inputs.name c.rest) _ x t y.1 in
                let o = one_name (is_text token.self_value_text) c.rest d.rest d.value vc here d.was in
                let f = chain (value d.rest) _ x t d.goes in
                let w = took d.rest f.rest f.value o.seen f.was in
                let follows = follows_trans s c.rest f.rest fc (follows_trans c.rest d.rest f.rest (along_name c.rest d.rest d.value d.was) (along d.rest f.rest f.value f.was)) in
                let g = held_since s f.rest t x v w.seen follows f.goes in
                let back : t.left ≡ None → f.rest.left ≡ None = λ n. ap (λ (z : Stream). z.left) g.0 ∙ n in
                record {
                  left = λ n. sym k.left ∙ o.left (w.left (back n));
                  seen = subst (λ (z : Stream). Visible z.rest) g.0 w.seen;
                  spelt = λ n.
                      g.1 (subst (λ (z : Stream). IsMutSelf part loosely s.rest z.rest) g.0
                      (typed_at c.value d.value.0 d.value.1 f.value s.rest c.rest.rest d.rest.rest f.rest.rest k.spelt (o.spelt (w.left (back n))) (w.spelt (back n))));
                }
            | inr y ↦ let d = chain (token.self_value c.rest) _ x t y.1 in
                let o = word_sound {n = 1} c.rest d.rest d.value vc d.was in
                let vd = word_visible {n = 1} d.value c.rest.rest d.rest.rest o.spelt vc in
                let g = held_since s d.rest t x v vd (follows_trans s c.rest d.rest fc (along_named 1 c.rest d.rest d.value d.was)) d.goes in
                record {
                  left = λ n. sym k.left ∙ (sym o.left ∙ (ap (λ (z : Stream). z.left) g.0 ∙ n));
                  seen = subst (λ (z : Stream). Visible z.rest) g.0 vd;
                  spelt = λ n. g.1 (subst (λ (z : Stream). IsMutSelf part loosely s.rest z.rest) g.0 (mut_self k.spelt o.spelt));
                }
          ]

      named_at : (n : Name) (u : token.Mut) (w : token.SelfValue) (l m k r : Toks) → IsNamed (is_argument_name true) n l m → is_other n ≡ true → sees_mut_self l ≡ false → sees_mut_self m ≡ true → IsWord u m k → IsWord w k r →
          IsMutSelf part loosely l r
      named_at n u w l m k r no_name h a b i j = both (sees_mut_self l) b a
      named_at n u w l m k r (a_name {i = y} h c) g a b i j = named_mut_self (other_name (is_ident y.text) (is_text token.underscore_text y.text) (is_text token.self_value_text y.text) h g) c i j

      named_took : (s t : Stream) (x : Named) → Visible s.rest → sees_mut_self s.rest ≡ false → inputs.named_argument value form.Verbatim s ≡ Ok (x, t) → TookOne (Bare true) s t x
      unfolding inputs.named_argument
      named_took s t x v b e =
          let c = chain (optional (sees_name true) inputs.name s) _ x t e in
          let k = name_took (is_argument_name true) (sees_name true) (seen_argument_name true) s c.rest c.value v c.was in
          let fc = along_optional_name (sees_name true) s c.rest c.value c.was in
          elim (branch (is_other c.value && sees_mut_self c.rest.rest) _ _ c.rest (Ok (x, t)) c.goes) [
            | inl y ↦ let d = chain (token.mut_word c.rest) _ x t y.1 in
                let o = named_sound {n = 13} c.rest d.rest d.value k.seen d.was in
                let f = chain (token.self_value d.rest) _ x t d.goes in
                let w = named_sound {n = 1} d.rest f.rest f.value o.seen f.was in
                let follows = follows_trans s c.rest f.rest fc (follows_trans c.rest d.rest f.rest (along_named 13 c.rest d.rest d.value d.was) (along_named 1 d.rest f.rest f.value f.was)) in
                let g = held_since s f.rest t x v w.seen follows f.goes in
                let back : t.left ≡ None → f.rest.left ≡ None = λ n. ap (λ (z : Stream). z.left) g.0 ∙ n in
                record {
                  left = λ n. k.left (o.left (w.left (back n)));
                  seen = subst (λ (z : Stream). Visible z.rest) g.0 w.seen;
                  spelt = λ n.
                      let nf = back n in
                      let nd = w.left nf in
                      g.1 (subst (λ (z : Stream). IsMutSelf part loosely s.rest z.rest) g.0
                      (named_at c.value d.value f.value s.rest c.rest.rest d.rest.rest f.rest.rest (k.spelt (o.left nd)) (and_first _ _ y.0) b (and_second (is_other c.value) _ y.0) (o.spelt nd) (w.spelt nf)));
                }
            | inr y ↦ let w = after_name true c.value s.rest c.rest t x k.seen y.1 in
                record { left = λ n. k.left (w.0 n); seen = w.1; spelt = λ n. w.2 n (k.spelt (w.0 n)) }
          ]

      pub argument_took : (first : Bool) (s t : Stream) (x : Named) → Visible s.rest → inputs.argument value form.Verbatim first s ≡ Ok (x, t) → TookOne (Bare first) s t x
      unfolding inputs.first_argument
      argument_took false s t x v e = plain_took s t x v e
      argument_took true s t x v e =
          elim (branch (sees_mut_self s.rest) _ _ s (Ok (x, t)) e) [
            | inl y ↦ mut_self_took s t x v y.0 y.1
            | inr y ↦ named_took s t x v y.0 y.1
          ]

-- ---- all arguments, and pointers to functions

module _ {A E : Type 0} (attrs : Reader (List A)) (values : ReadValues E) (r : Readers A E) (part : Manner → Parts A E) (h : Held r part) (g : Supplied attrs values part) where
  -- `...`, perhaps after a name and before a comma
  IsDots : inputs.Dots → Toks → Toks → Type 0
  IsDots d l k = (m : Toks) × (n : Toks) × IsNamed is_name d.0 l m × IsMark false d.1 m n × IsOptional (IsMark false) d.2 n k

  one_comma : (s t : Stream) (c : token.Comma) → Visible s.rest → token.comma s ≡ Ok (c, t) → TookOne (IsMark false) s t c
  one_comma s t c v e = plainly {Is = IsMark false {n = 4} {k = 1}} (λ a l k i w. mark_visible false {n = 4} {k = 1} a l k i w) s t c v (mark_sound {n = 4} {k = 1} refl (omega arith) s t c v e)

  dots_took : (s t : Stream) (d : inputs.Dots) → Visible s.rest → inputs.dots s ≡ Ok (d, t) → TookOne IsDots s t d
  unfolding inputs.dots IsDots
  dots_took s t d v e =
      let c = chain (optional sees_ident_or_underscore inputs.name s) _ d t e in
      let k = name_took is_name sees_ident_or_underscore seen_name s c.rest c.value v c.was in
      let f = chain (token.dot_dot_dot c.rest) _ d t c.goes in
      let m = mark_sound {n = 9} {k = 3} refl (omega arith) c.rest f.rest f.value k.seen f.was in
      let vf = mark_visible false {n = 9} {k = 3} f.value c.rest.rest f.rest.rest m.spelt k.seen in
      let with : Option token.Comma → inputs.Dots = λ z. (c.value, f.value, z) in
      let j = mapped (optional token.sees_comma token.comma f.rest) with d t f.goes in
      let o = optional_sound {Is = IsMark false {n = 4} {k = 1}} token.sees_comma token.comma one_comma f.rest t j.value vf j.was in
      record {
        left = λ n. k.left (sym m.left ∙ o.left n);
        seen = o.seen;
        spelt = λ n. subst (λ z. IsDots z s.rest t.rest) j.is (c.rest.rest, f.rest.rest, k.spelt (sym m.left ∙ o.left n), m.spelt, o.spelt n);
      }

  -- ---- what the parentheses hold

  abbrev Arg : Type 0
  Arg = NamedArg A E

  abbrev Args : Type 0
  Args = Many Arg token.Comma

  abbrev Last : Type 0
  Last = Option (List A × inputs.Dots)

  abbrev All : Type 0
  All = inputs.Inputs A Arg

  abbrev Is : Bool → Arg → Toks → Toks → Type 0
  Is = IsNamedArg part loosely

  abbrev Ending : List A × inputs.Dots → Toks → Toks → Type 0
  Ending d l k = (m : Toks) × (part loosely).attrs d.0 l m × IsDots d.1 m k

  -- by whether `...` ends them
  abbrev By : Bool → Args → Last → Toks → Toks → Type 0
  By first w None l k = AreListed Is (IsMark false) Anywhere first w.0 w.1 l k
  By first w (Some d) l k = (m : Toks) × AreMarked Is (IsMark false) first w.0 w.1 l m × Ending d m k

  abbrev Of : Bool → All → Toks → Toks → Type 0
  Of first x l k = By first x.0 x.1 l k

  put_at : (first : Bool) (x : Arg) (c : token.Comma) (w : Args) (o : Last) (l m n k : Toks) → Is first x l m → IsMark false c m n → By false w o n k → By first (x ∷ w.0, c ∷ w.1) o l k
  put_at first x c w None l m n k i j q = value_and_mark i j q
  put_at first x c w (Some d) l m n k i j q = (q.0, one_further i j q.1, q.2)

  abbrev reads : ℕ → Bool → Reader All
  reads = inputs.inputs_from named_arg_of attrs (r (a_type Plus)) form.Verbatim

  abbrev make : List A → Named part → Arg
  make a x = named_arg_of a x.0 x.1

  from_took : (n : ℕ) (first : Bool) (s t : Stream) (x : All) → Visible s.rest → reads n first s ≡ Ok (x, t) → TookOne (Of first) s t x
  unfolding Bare
  from_took zero first s t x v e = cc
  from_took (suc n) first s t x v e =
      elim (branch (is_done s.rest) _ _ s (Ok (x, t)) e) [
        | inl y ↦ let q = same_pair (inputs.no_inputs None) x s t y.1 in
            subst (λ z. TookOne (Of first) s t z) q.0 (subst (λ z. TookOne (Of first) s z (inputs.no_inputs None)) q.1 (record { left = λ k. k; seen = v; spelt = λ k. none_left tt }))
        | inr y ↦ let c = chain (attrs s) _ x t y.1 in
            let k = g.attrs_took s c.rest c.value v c.was in
            elim (branch (inputs.sees_dots c.rest.rest) _ _ c.rest (Ok (x, t)) c.goes) [
              | inl z ↦ let of : inputs.Dots → All = λ d. inputs.no_inputs (Some (c.value, d)) in
                  let d = mapped (inputs.dots c.rest) of x t z.1 in
                  let w = dots_took c.rest t d.value k.seen d.was in
                  record {
                    left = λ i. k.left (w.left i);
                    seen = w.seen;
                    spelt = λ i. subst (λ u. Of first u s.rest t.rest) d.is (s.rest, no_further, (c.rest.rest, k.spelt (w.left i), w.spelt i));
                  }
              | inr z ↦ let d = chain (inputs.argument (r (a_type Plus)) form.Verbatim first c.rest) _ x t z.1 in
                  let w = argument_took part (r (a_type Plus)) (h.ty Plus) (h.along (a_type Plus)) first c.rest d.rest d.value k.seen d.was in
                  let arg : d.rest.left ≡ None → Is first (make c.value d.value) s.rest d.rest.rest = λ i. w.spelt i c.value s.rest (k.spelt (w.left i)) in
                  elim (branch (is_done d.rest.rest) _ _ d.rest (Ok (x, t)) d.goes) [
                    | inl u ↦ let q = same_pair (inputs.one_input (make c.value d.value)) x d.rest t u.1 in
                        let o : TookOne (Of first) s d.rest (inputs.one_input (make c.value d.value)) = record { left = λ i. k.left (w.left i); seen = w.seen; spelt = λ i. last_value (arg i) } in
                        subst (λ a. TookOne (Of first) s t a) q.0 (subst (λ a. TookOne (Of first) s a (inputs.one_input (make c.value d.value))) q.1 o)
                    | inr u ↦ let f = chain (token.comma d.rest) _ x t u.1 in
                        let m = one_comma d.rest f.rest f.value w.seen f.was in
                        let with : All → All = λ a. inputs.put_input (make c.value d.value) f.value a in
                        let j = mapped (reads n false f.rest) with x t f.goes in
                        let o = from_took n false f.rest t j.value m.seen j.was in
                        record {
                          left = λ i. k.left (w.left (m.left (o.left i)));
                          seen = o.seen;
                          spelt = λ i.
                              let nm = o.left i in
                              subst (λ a. Of first a s.rest t.rest) j.is
                              (put_at first (make c.value d.value) f.value j.value.0 j.value.1 s.rest d.rest.rest f.rest.rest t.rest (arg (m.left nm)) (m.spelt nm) (o.spelt i));
                        }
                  ]
            ]
      ]

  -- all of a content
  abbrev HoldsAll : All → Toks → Type 0
  HoldsAll x l = AreInputs part loosely x.0 (option_map dots_of x.1) l

  variadic_at : (a : List A) (n : Name) (d : token.DotDotDot) (o : Option token.Comma) (l m k j : Toks) → (part loosely).attrs a l m → IsNamed is_name n m k → IsMark false d k j → IsOptional (IsMark false) o j done →
      IsVariadic part loosely (dots_of (a, (n, d, o))) l
  variadic_at a n d o l m k j i no_name q c = dots i q c
  variadic_at a n d o l m k j i (a_name b e) q c = named_dots i b e q c

  all_at : (w : Args) (o : Last) (l : Toks) → By true w o l done → HoldsAll (w, o) l
  unfolding IsDots
  all_at w None l q = plain_inputs q
  all_at w (Some d) l q = variadic_inputs q.1 (variadic_at d.0 d.1.0 d.1.1 d.1.2 q.0 q.2.0 q.2.2.0 q.2.2.1 q.2.1 q.2.2.2 q.2.2.3 q.2.2.4)

  pub all_sound : (s t : Stream) (x : All) → Visible s.rest → inputs.inputs named_arg_of attrs (r (a_type Plus)) form.Verbatim s ≡ Ok (x, t) → leaves t ≡ None → HoldsAll x s.rest
  unfolding inputs.inputs
  all_sound s t x v e n =
      let w = from_took (suc (size s.rest)) true s t x v e in
      all_at x.0 x.1 s.rest (subst (λ z. Of true x s.rest z) (took_all t w.seen n) (w.spelt (nothing_left t n)))

  -- the arguments, in parentheses
  pub IsInputs : Paren × All → Toks → Toks → Type 0
  IsInputs x l k = (s : DelimSpan) × (c : Toks) × (groups.paren s ≡ x.0) × (l ≡ group Parenthesis s c k) × AreInputs part loosely x.1.0 (option_map dots_of x.1.1) c

  inputs_at : (y : DelimSpan × All) (l k : Toks) → IsHeld Parenthesis HoldsAll y l k → IsInputs (groups.paren y.0, y.1) l k
  unfolding IsInputs
  inputs_at y l k i = (y.0, i.content, refl, i.is, i.holds)

  pub inputs_took : (s t : Stream) (x : Paren × All) → Visible s.rest → reading.fn_inputs attrs values r s ≡ Ok (x, t) → TookOne IsInputs s t x
  unfolding reading.fn_inputs
  inputs_took s t x v e =
      let of : DelimSpan × All → Paren × All = λ y. (groups.paren y.0, y.1) in
      let all : Reader All = inputs.inputs named_arg_of attrs (r (a_type Plus)) form.Verbatim in
      let k = mapped (in_group Parenthesis groups.paren_name all s) of x t e in
      took_as {Is = IsHeld Parenthesis HoldsAll} {Js = IsInputs} of s t k.value x k.is (λ l m i. inputs_at k.value l m i) (held_sound Parenthesis HoldsAll groups.paren_name all all_sound s t k.value v k.was)

  -- ---- the whole

  abbrev For : Type 0
  For = Option (BoundLifetimes A E)

  abbrev IsPerhapsFor : For → Toks → Toks → Type 0
  IsPerhapsFor = IsOptional (IsFor part loosely)

  abbrev Pointer : TypeFnPtr A E → Toks → Toks → Type 0
  Pointer = Told (IsFnPtr part loosely)

  fn_at : (b : For) (x : heads.FnHead) (p : Paren) (y : All) (o : ReturnType A E) (l m n k j : Toks) → IsPerhapsFor b l m → IsHead x m n → IsInputs (p, y) n k → Told (IsReturn part loosely NoPlus) o k j → Pointer (fn_ptr_by b (x, (p, y), o)) l j
  unfolding IsHead IsInputs
  fn_at b x p y o l m n k j i q a w =
      let fn : IsWord x.2 q.1 (group Parenthesis a.0 a.1 k) = subst (λ z. IsWord x.2 q.1 z) a.3 q.4 in
      subst (λ z. Pointer (fn_ptr_by b (x, (z, y), o)) l j) a.2 (w.0, a_fn_ptr i q.2 q.3 fn a.4 w.1, w.2, w.3)

  -- after a binder that was read, which may be none
  pub fn_ptr_after_took : (b : For) (l : Toks) (s t : Stream) (x : TypeFnPtr A E) → Visible s.rest → reading.fn_ptr_after attrs values r b s ≡ Ok (x, t) →
      (t.left ≡ None → s.left ≡ None) × Visible t.rest × (t.left ≡ None → IsPerhapsFor b l s.rest → Pointer x l t.rest)
  unfolding reading.fn_ptr_after reading.fn_ptr_parts
  fn_ptr_after_took b l s t x v e =
      let p = mapped (reading.fn_ptr_parts attrs values r s) (fn_ptr_by b) x t e in
      let c = chain (heads.fn_head s) _ p.value t p.was in
      let k = head_took s c.rest c.value v c.was in
      let d = chain (reading.fn_inputs attrs values r c.rest) _ p.value t c.goes in
      let i = inputs_took c.rest d.rest d.value k.seen d.was in
      let with : ReturnType A E → reading.FnPtrParts A E = λ z. (c.value, d.value, z) in
      let f = mapped (reading.return_type r NoPlus d.rest) with p.value t d.goes in
      let w = output_took r part h.ty NoPlus d.rest t f.value i.seen f.was in (
        λ n. k.left (i.left (w.left n)),
        w.seen,
        λ n q.
            let nd = w.left n in
            subst (λ z. Pointer z l t.rest) (ap (fn_ptr_by b) f.is ∙ p.is)
            (fn_at b c.value d.value.0 d.value.1 f.value l s.rest c.rest.rest d.rest.rest t.rest q (k.spelt (i.left nd)) (i.spelt nd) (w.spelt n)),
      )

  pub fn_ptr_took : (s t : Stream) (x : TypeFnPtr A E) → Visible s.rest → reading.fn_ptr attrs values r s ≡ Ok (x, t) → TookOne Pointer s t x
  unfolding reading.fn_ptr
  fn_ptr_took s t x v e =
      let c = chain (optional_binder r s) (reading.fn_ptr_after attrs values r) x t e in
      let k = optional_took r ((part loosely).param Binder) (h.param Binder) s c.rest c.value v c.was in
      let w = fn_ptr_after_took c.value s.rest c.rest t x k.seen c.goes in
      record { left = λ n. k.left (w.0 n); seen = w.1; spelt = λ n. w.2 n (k.spelt (w.0 n)) }
