-- A pointer to a function, spelt clearly, is what its read answers and all that it takes: over the reads of its types and attributes, with its ABI, its arguments, which may end in a variadic, and its output.
use Rattle.std.specs.Prelude.{option_map}
use Rattle.std.proofs.Common.{◌≡◌, ℕ, ◌≤◌, true, false, List, [], Option, Some, None, refl, arith}
use Rattle.syn_ty.proofs.ty_laws.words.Tokens.{DelimSpan, Span, Paren, Parenthesis, sees_invisible, is_keyword, sees_str, Many, Reader, after_one, sees_group, sees_mark, sees_word, none, IsWord, is_word, IsStr, Scope, Toks, group}
use Rattle.syn_ty.proofs.ty_laws.words.Paths.{ReadValues}
use Rattle.syn_ty.proofs.ty_laws.words.Forms.{Plus, NoPlus, ahead}
use Rattle.syn_ty.proofs.ty_laws.words.Types.{Abi, FnPtrVariadicOf, IsFor, binder, optional_binder, a_binder, IsReturn, IsAbi, an_abi, AreInputs, IsFnPtr, a_fn_ptr, Manner, clearly, End, Parts, Readers, a_type, begins_named, sees_bindable, sees_fn_ptr, sees_unsafe_binder, IsOptional, absent, present, BoundLifetimes, NamedArg, ReturnType, TypeFnPtr, fn_ptr_with, named_arg_of}
use Rattle.token_core.specs.Groups as groups
use Rattle.token_core.specs.Lits.{read_str}
use Rattle.token_core.specs.Tokens as token
use Rattle.token_core.proofs.LitSpells.{str_complete, str_seen}
use Rattle.token_core.proofs.Steps.{link, chosen, Reads_to}
use Rattle.token_core.proofs.Took.{at}
use Rattle.token_core.proofs.WordSpells.{word_complete, word_seen}
use Rattle.syn_forms.specs.heads.Reading as heads
use Rattle.syn_forms.specs.inputs.Reading as inputs
use Rattle.syn_forms.proofs.groups_laws.Complete.{content}
use Rattle.syn_ty.specs.declared.ty.TypeOf.TheVariants as form
use Rattle.syn_ty.specs.ty.Reading as reading
use Rattle.syn_ty.specs.ty.Reading.{fn_ptr_by}
use Rattle.syn_ty.proofs.ty_laws.complete.Forms.{optional_met}
use Rattle.syn_ty.proofs.ty_laws.complete.InputLists.{dots_parts, inputs_met}
use Rattle.syn_ty.proofs.ty_laws.complete.Less.{no_no, optional_no, some, str_takes, word_takes}
use Rattle.syn_ty.proofs.ty_laws.complete.Within.{Fits, Meets, NoMore, SuppliedMeets}
use Rattle.syn_ty.proofs.ty_laws.complete.Signatures.{after_group, in_parens_met, inside_group, output_met, read_as}
use Rattle.syn_ty.proofs.ty_laws.complete.Signed.{left_after}
use Rattle.syn_ty.proofs.ty_laws.complete.Named.{for_less}

-- ---- an ABI

abbrev pub abi_parts : Abi → heads.AbiParts
abi_parts x = (x.extern_token, x.name)

-- before what is no string
pub parts_met : (x : Abi) (l k : Toks) (f : Option Span) (e : Span) (sc : Scope) → IsAbi x l k → sees_str k ≡ false → Reads_to heads.abi (abi_parts x) l k f e sc
unfolding heads.abi
parts_met x l k f e sc (an_abi {w = w} {o = o} {m = m} i j) h =
    let a = word_complete {n = 8} w l m f e sc i in
    let b = optional_met IsStr sees_str read_str str_seen str_complete o m k f a.last sc j (λ q. h) in
    record { last = b.last; reads = link _ a.reads (link _ b.reads refl) }

pub abi_seen : (x : Abi) (l k : Toks) → IsAbi x l k → token.sees_extern l ≡ true
abi_seen x l k (an_abi {w = w} {m = m} i j) = word_seen {n = 8} w l m i

pub optional_parts_met : (o : Option Abi) (l k : Toks) (f : Option Span) (e : Span) (sc : Scope) → IsOptional IsAbi o l k → token.sees_extern k ≡ false → sees_str k ≡ false →
    Reads_to heads.optional_abi (option_map abi_parts o) l k f e sc
optional_parts_met o l k f e sc absent h g = record { last = e; reads = chosen (token.sees_extern k) false _ _ (at k f e sc) _ h refl }
optional_parts_met o l k f e sc (present {a = x} i) h g =
    let w = parts_met x l k f e sc i g in
    record { last = w.last; reads = chosen (token.sees_extern l) true _ _ (at l f e sc) _ (abi_seen x l k i) (link _ w.reads refl) }

pub abi_met : (x : Abi) (l k : Toks) (f : Option Span) (e : Span) (sc : Scope) → IsAbi x l k → sees_str k ≡ false → Reads_to reading.abi x l k f e sc
abi_met x l k f e sc i h = let w = parts_met x l k f e sc i h in record { last = w.last; reads = link _ w.reads refl }

pub optional_abi_met : (o : Option Abi) (l k : Toks) (f : Option Span) (e : Span) (sc : Scope) → IsOptional IsAbi o l k → token.sees_extern k ≡ false → sees_str k ≡ false → Reads_to reading.optional_abi o l k f e sc
optional_abi_met o l k f e sc absent h g = record { last = e; reads = chosen (token.sees_extern k) false _ _ (at k f e sc) _ h refl }
optional_abi_met o l k f e sc (present {a = x} i) h g =
    let w = abi_met x l k f e sc i g in
    record { last = w.last; reads = chosen (token.sees_extern l) true _ _ (at l f e sc) _ (abi_seen x l k i) (link _ w.reads refl) }

-- ---- pointers to functions

-- `fn` and what may stand before it
no_str : (w : token.Fn) (l k : Toks) → IsWord w l k → sees_str l ≡ false
unfolding sees_str
no_str w l k is_word = refl

no_extern : (w : token.Fn) (l k : Toks) → IsWord w l k → token.sees_extern l ≡ false
unfolding sees_word
no_extern w l k is_word = refl

no_unsafe : (i : Option Abi) (w : token.Fn) (l m k : Toks) → IsOptional IsAbi i l m → IsWord w m k → token.sees_unsafe l ≡ false
unfolding sees_word
no_unsafe i w l m k absent is_word = refl
no_unsafe i w l m k (present (an_abi is_word j)) is_word = refl

head_met : (u : Option token.Unsafe) (i : Option Abi) (w : token.Fn) (l m n k : Toks) (f : Option Span) (e : Span) (sc : Scope) → IsOptional IsWord u l m → IsOptional IsAbi i m n → IsWord w n k →
    Reads_to heads.fn_head (u, option_map abi_parts i, w) l k f e sc
unfolding heads.fn_head
head_met u i w l m n k f e sc a b c =
    let x = optional_met (IsWord {n = 16}) token.sees_unsafe token.unsafe_word word_seen word_complete u l m f e sc a (λ q. no_unsafe i w m n k b c) in
    let y = optional_parts_met i m n f x.last sc b (no_extern w n k c) (no_str w n k c) in
    let z = word_complete {n = 9} w n k f y.last sc c in
    record { last = z.last; reads = link _ x.reads (link _ y.reads (link _ z.reads refl)) }

abi_no : (x : Abi) (l k : Toks) → IsAbi x l k → NoMore l k
abi_no x l k (an_abi {w = w} {o = o} {m = m} i j) = no_no (some (word_takes w l m i)) (optional_no (λ y n q g. some (str_takes y n q g)) o m k j)

-- by its parts that were read
module _ {A E : Type 0} (b : Option (BoundLifetimes A E)) (u : Option token.Unsafe) (w : token.Fn) (p : Paren) (v : Many (NamedArg A E) token.Comma) (o : ReturnType A E) where
  by_parts : (i : Option Abi) (d : Option (FnPtrVariadicOf A)) → fn_ptr_by b ((u, option_map abi_parts i, w), (p, (v, option_map dots_parts d)), o) ≡ fn_ptr_with [] b u i w p v d o
  by_parts None None = refl
  by_parts None (Some y) = refl
  by_parts (Some x) None = refl
  by_parts (Some x) (Some y) = refl

-- what one begins with after its binder
pub record FnBegins (l : Toks) : Type 0 where
  pub no_invisible : sees_invisible l ≡ false
  pub no_for : token.sees_for l ≡ false
  pub no_paren : sees_group Parenthesis l ≡ false
  pub named : begins_named l ≡ true
  pub bindable : sees_bindable l ≡ true
  pub no_unsafe : sees_unsafe_binder l ≡ false
  pub fn : sees_fn_ptr l ≡ true

module _ {A E : Type 0} (part : Manner → Parts A E) where
  abbrev For : Type 0
  For = Option (BoundLifetimes A E)

  -- what stands after a binder, which may be none
  pub data IsAfter (b : For) : End → TypeFnPtr A E → Toks → Toks → Type 0 where
    after_binder : {e : End} {u : Option token.Unsafe} {i : Option Abi} {w : token.Fn} {s : DelimSpan} {v : Many (NamedArg A E) token.Comma} {d : Option (FnPtrVariadicOf A)} {o : ReturnType A E} {l m n c j k : Toks} →
        IsOptional IsWord u l m → IsOptional IsAbi i m n → IsWord w n (group Parenthesis s c j) → AreInputs part clearly v d c → IsReturn part clearly NoPlus e o j k →
        IsAfter b e (fn_ptr_with [] b u i w (groups.paren s) v d o) l k

  pub record Bound (e : End) (x : TypeFnPtr A E) (l k : Toks) : Type 0 where
    pub lifetimes : For
    pub from : Toks
    pub bears : IsOptional (IsFor part clearly) lifetimes l from
    pub after : IsAfter lifetimes e x from k

  pub bound : (e : End) (x : TypeFnPtr A E) (l k : Toks) → IsFnPtr part clearly e x l k → Bound e x l k
  bound e x l k (a_fn_ptr {b = b} {m = m} i u a w v o) = record { lifetimes = b; from = m; bears = i; after = after_binder u a w v o }

  for_seen : (b : BoundLifetimes A E) (l k : Toks) → IsFor part clearly b l k → token.sees_for l ≡ true
  for_seen b l k (a_binder {f = w} {m = m} i j q g) = word_seen {n = 10} w l m i

  pub after_begins : (b : For) (e : End) (x : TypeFnPtr A E) (l k : Toks) → IsAfter b e x l k → FnBegins l
  unfolding begins_named sees_bindable sees_fn_ptr sees_unsafe_binder sees_invisible sees_word sees_mark sees_group after_one is_keyword
  after_begins b e x l k (after_binder absent absent is_word v o) = record { no_invisible = refl; no_for = refl; no_paren = refl; named = refl; bindable = refl; no_unsafe = refl; fn = refl }
  after_begins b e x l k (after_binder absent (present (an_abi is_word j)) w v o) = record { no_invisible = refl; no_for = refl; no_paren = refl; named = refl; bindable = refl; no_unsafe = refl; fn = refl }
  after_begins b e x l k (after_binder (present is_word) absent is_word v o) = record { no_invisible = refl; no_for = refl; no_paren = refl; named = refl; bindable = refl; no_unsafe = refl; fn = refl }
  after_begins b e x l k (after_binder (present is_word) (present (an_abi is_word j)) w v o) = record { no_invisible = refl; no_for = refl; no_paren = refl; named = refl; bindable = refl; no_unsafe = refl; fn = refl }

module _ {A E : Type 0} (attrs : Reader (List A)) (values : ReadValues E) (r : Readers A E) (part : Manner → Parts A E) (limit : ℕ) (m : Meets r part limit) (supplied : SuppliedMeets attrs values part) where
  -- the arguments, in parentheses
  pub fn_inputs_met : (v : Many (NamedArg A E) token.Comma) (d : Option (FnPtrVariadicOf A)) (s : DelimSpan) (c k : Toks) (f : Option Span) (e : Span) (sc : Scope) → ahead (at (group Parenthesis s c k) f e sc) ≤ limit →
      AreInputs part clearly v d c → Reads_to (reading.fn_inputs attrs values r) (groups.paren s, (v, option_map dots_parts d)) (group Parenthesis s c k) k f e sc
  unfolding reading.fn_inputs
  fn_inputs_met v d s c k f e sc h i =
      let z = content Parenthesis s c k f e sc in
      let less = inside_group s c k f e sc limit h in
      let w = inputs_met attrs values part supplied m.firsts (r (a_type Plus)) (ahead z)
      (λ q x j t g a b le y fits plus. m.ty Plus q x j t g a b (omega (arith, less, le)) y fits (λ p. plus)) v d c None none z.scope (omega arith) i in
      record { last = s.closing; reads = in_parens_met (inputs.inputs named_arg_of attrs (r (a_type Plus)) form.Verbatim) (v, option_map dots_parts d) s c k f e sc w }

  -- one after the other
  parts_read : (h : heads.FnHead) (g : Paren × inputs.Inputs A (NamedArg A E)) (o : ReturnType A E) (l j n k : Toks) (f : Option Span) (e : Span) (sc : Scope) (a : Reads_to heads.fn_head h l j f e sc)
      (b : Reads_to (reading.fn_inputs attrs values r) g j n f a.last sc) → Reads_to (reading.return_type r NoPlus) o n k f b.last sc → Reads_to (reading.fn_ptr_parts attrs values r) (h, g, o) l k f e sc
  unfolding reading.fn_ptr_parts
  parts_read h g o l j n k f e sc a b c = record { last = c.last; reads = link _ a.reads (link _ b.reads (link _ c.reads refl)) }

  pub fn_ptr_after_met : (b : Option (BoundLifetimes A E)) (d : End) (x : TypeFnPtr A E) (l k : Toks) (f : Option Span) (e : Span) (sc : Scope) → ahead (at l f e sc) ≤ limit → IsAfter part b d x l k → Fits d k →
      Reads_to (reading.fn_ptr_after attrs values r b) x l k f e sc
  unfolding reading.fn_ptr_after
  fn_ptr_after_met b d x l k f e sc h (after_binder {u = u} {i = i} {w = w} {s = s} {v = v} {d = y} {o = o} {m = n} {n = p} {c = c} {j = j} ui ai wi q z) fits =
      let a = head_met u i w l n p (group Parenthesis s c j) f e sc ui ai wi in
      let light = (no_no (optional_no (λ t g t2 g2. some (word_takes t g t2 g2)) u l n ui) (no_no (optional_no (λ t g t2 g2. abi_no t g t2 g2) i n p ai) (some (word_takes w p (group Parenthesis s c j) wi)))).light in
      let here = left_after l (group Parenthesis s c j) f f e a.last sc limit light h in
      let g = fn_inputs_met v y s c j f a.last sc here q in
      let after = after_group s c j f f a.last g.last sc limit here in
      let t = output_met r part limit m d o j k f g.last sc (omega (arith, after)) z fits in
      let head : heads.FnHead = (u, option_map abi_parts i, w) in
      let held : Paren × inputs.Inputs A (NamedArg A E) = (groups.paren s, (v, option_map dots_parts y)) in
      read_as (fn_ptr_by b) (reading.fn_ptr_parts attrs values r) (head, held, o) x l k f e sc (parts_read head held o l (group Parenthesis s c j) j k f e sc a g t) (by_parts b u w (groups.paren s) v o i y)

  -- a binder that may be there, over the read of one
  module _ (binder_met : (b : BoundLifetimes A E) (l k : Toks) (f : Option Span) (e : Span) (sc : Scope) → ahead (at l f e sc) ≤ limit → IsFor part clearly b l k → Reads_to (binder r) b l k f e sc) where
    perhaps_for : (b : Option (BoundLifetimes A E)) (l k : Toks) (f : Option Span) (e : Span) (sc : Scope) → ahead (at l f e sc) ≤ limit → IsOptional (IsFor part clearly) b l k → token.sees_for k ≡ false → Reads_to (optional_binder r) b l k f e sc
    unfolding optional_binder
    perhaps_for b l k f e sc h absent n = record { last = e; reads = chosen (token.sees_for k) false _ _ (at k f e sc) _ n refl }
    perhaps_for b l k f e sc h (present {a = x} i) n =
        let w = binder_met x l k f e sc h i in
        record { last = w.last; reads = chosen (token.sees_for l) true _ _ (at l f e sc) _ (for_seen part x l k i) (link _ w.reads refl) }

    pub fn_ptr_met : (d : End) (x : TypeFnPtr A E) (l k : Toks) (f : Option Span) (e : Span) (sc : Scope) → ahead (at l f e sc) ≤ limit → IsFnPtr part clearly d x l k → Fits d k → Reads_to (reading.fn_ptr attrs values r) x l k f e sc
    unfolding reading.fn_ptr
    fn_ptr_met d x l k f e sc h i fits =
        let p = bound part d x l k i in
        let w = perhaps_for p.lifetimes l p.from f e sc h p.bears (after_begins part p.lifetimes d x p.from k p.after).no_for in
        let light = (optional_no (λ y n j g. some (for_less part m.firsts y n j g)) p.lifetimes l p.from p.bears).light in
        let v = fn_ptr_after_met p.lifetimes d x p.from k f w.last sc (left_after l p.from f f e w.last sc limit light h) p.after fits in
        record { last = v.last; reads = link _ w.reads v.reads }
