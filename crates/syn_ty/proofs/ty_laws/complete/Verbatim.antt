-- A type that is held as it was written and begins with `unsafe` and lifetimes, or with `builtin #`, perhaps after a binder, is read where its form is spelt clearly.
use Rattle.std.proofs.Common.{◌≡◌, ℕ, ◌≤◌, Bool, true, false, not, ◌&&◌, List, Option, Ok, Err, if◌then◌else◌, refl, ◌∙◌, ap, arith}
use Rattle.std.proofs.lemmas.Slice.Eq.{bytes_eq-Decides}
use Rattle.syn_ty.proofs.ty_laws.words.Tokens.{Lifetime, DelimSpan, Span, Parenthesis, Ident, TokenStream, is_keyword, read_lifetime, AreListed, Anywhere, terminated, after_one, any_text, builtin_text, expected, ident_name, is_ident, is_text, next_word, read_word, sees_mark, sees_word, IsMark, is_mark, last_char, IsWord, is_word, IsLifetime, is_lifetime, Scope, Bytes, Toks, word, group}
use Rattle.syn_ty.proofs.ty_laws.words.Paths.{is_mod_word}
use Rattle.syn_ty.proofs.ty_laws.words.Forms.{TypePlace, Plus, NoPlus, ahead, allows_plus, comma, sees_gt, position}
use Rattle.syn_ty.proofs.ty_laws.words.Types.{Manner, clearly, End, Parts, Holds, Readers, last_place, sees_bindable, sees_builtin, sees_fn_ptr, sees_unsafe_binder, TypeTree}
use Rattle.token_core.specs.Groups.{paren_name}
use Rattle.token_core.specs.Reads.{inside, open_group}
use Rattle.token_core.specs.Tokens as token
use Rattle.token_core.proofs.MarkSpells.{mark_complete, mark_seen, mark_size}
use Rattle.token_core.proofs.Steps.{Reads_to, link}
use Rattle.token_core.proofs.Took.{at}
use Rattle.token_core.proofs.WordSpells.{word_complete, lifetime_complete, lifetime_size}
use Rattle.syn_forms.specs.declared.places.TypePlace.TheVariants.{Bounded}
use Rattle.syn_forms.specs.heads.Reading as heads
use Rattle.syn_forms.proofs.lists_laws.Complete.{listed_here}
use Rattle.syn_ty.specs.declared.ty.TypeOf.TheVariants as v
use Rattle.syn_ty.specs.ty.Reading as reading
use Rattle.syn_ty.proofs.ty_laws.complete.Capture.{since_met}
use Rattle.syn_ty.proofs.ty_laws.complete.Leaves.{later}
use Rattle.syn_ty.proofs.ty_laws.complete.Less.{less_no, listed_no, lifetime_takes, mark_no, no_no, word_takes}
use Rattle.syn_ty.proofs.ty_laws.complete.Within.{Fits, Meets, NoMore}
use Rattle.syn_ty.proofs.ty_laws.complete.Tokens.{PathBegins, word_begins}

-- ---- lifetimes joined by commas, between angle marks

no_gt_comma : (c : token.Comma) (l r : Toks) → IsMark true c l r → sees_gt l ≡ false
unfolding sees_mark
no_gt_comma c l r (is_mark (last_char x)) = refl

no_gt_lifetime : (x : Lifetime) (l r : Toks) → IsLifetime x l r → sees_gt l ≡ false
unfolding sees_mark
no_gt_lifetime x l r is_lifetime = refl

abbrev Lifetimes : List Lifetime → List token.Comma → Toks → Toks → Type 0
Lifetimes xs cs l k = AreListed (λ (_ : Bool). IsLifetime) (IsMark true) Anywhere true xs cs l k

lifetimes_met : (xs : List Lifetime) (cs : List token.Comma) (l k : Toks) (f : Option Span) (e : Span) (sc : Scope) → Lifetimes xs cs l k → sees_gt k ≡ true → Reads_to (terminated sees_gt read_lifetime comma) (xs, cs) l k f e sc
lifetimes_met xs cs l k f e sc i h =
    listed_here (λ (_ : Bool). sees_gt) (λ (_ : Bool). read_lifetime) (λ z. not (sees_gt z)) comma (λ (_ : Bool). IsLifetime) (IsMark true) Anywhere (λ (_ : Toks). Unit {0}) (λ (_ : Toks). Unit {0}) sc
    (λ b x z m u j g a d. lifetime_complete x z m a d sc j)
    (λ c z m j a d. mark_complete true {n = 4} {k = 1} refl (omega arith) c z m a d sc j)
    (λ c z m j. (tt, ap not (no_gt_comma c z m j)))
    (λ b x z m j. no_gt_lifetime x z m j)
    (λ b x z m j. lifetime_size x z m j)
    (λ c z m j. mark_size true {n = 4} {k = 1} c z m j)
    (λ b x c z m o j g u. tt)
    true xs cs l k tt i (record { follows = tt; over = ap not h; stops_there = λ b may. h }) f e

pub angled_met : (o : token.Lt) (xs : List Lifetime) (cs : List token.Comma) (g : token.Gt) (l m n k : Toks) (f : Option Span) (e : Span) (sc : Scope) → IsMark true o l m → Lifetimes xs cs m n → IsMark true g n k →
    Reads_to (heads.angled read_lifetime) (o, (xs, cs), g) l k f e sc
unfolding heads.angled
angled_met o xs cs g l m n k f e sc i j h =
    let w = mark_complete true {n = 2} {k = 1} refl (omega arith) o l m f e sc i in
    let u = lifetimes_met xs cs m n f w.last sc j (mark_seen true {n = 3} {k = 1} g n k h) in
    let z = mark_complete true {n = 3} {k = 1} refl (omega arith) g n k f u.last sc h in
    record { last = z.last; reads = link _ w.reads (link _ u.reads (link _ z.reads refl)) }

pub angled_no : (o : token.Lt) (xs : List Lifetime) (cs : List token.Comma) (g : token.Gt) (l m n k : Toks) → IsMark true o l m → Lifetimes xs cs m n → IsMark true g n k → NoMore l k
angled_no o xs cs g l m n k i j h = no_no (mark_no o l m i) (no_no (listed_no (λ b x z t y. lifetime_takes x z t y) (λ c z t y. mark_no c z t y) true xs cs m n j) (mark_no g n k h))

-- ---- `unsafe`, lifetimes and a type

-- the last type stands where no plus is allowed either
last_plus : (place : TypePlace) → allows_plus (last_place place) ≡ true → allows_plus place ≡ true
last_plus Plus h = h
last_plus NoPlus h = h
last_plus Bounded h = refl

pub unsafe_seen : (w : token.Unsafe) (o : token.Lt) (l m n : Toks) → IsWord w l m → IsMark true o m n → (sees_unsafe_binder l ≡ true) × (sees_bindable l ≡ true)
unfolding sees_unsafe_binder sees_bindable sees_fn_ptr sees_word after_one is_keyword
unsafe_seen w o l m n is_word i = (mark_seen true {n = 2} {k = 1} o m n i, refl)

module _ {A E : Type 0} (r : Readers A E) (part : Manner → Parts A E) (limit : ℕ) (meets : Meets r part limit) (place : TypePlace) where
  -- from a position on
  pub unsafe_met : (d : End) (t : TokenStream) (w : token.Unsafe) (o : token.Lt) (xs : List Lifetime) (cs : List token.Comma) (g : token.Gt) (x : TypeTree A E) (b l m n j i k : Toks) (f : Option Span) (a e : Span) (sc : Scope) →
      ahead (at l f e sc) ≤ limit → IsWord w l m → IsMark true o m n → Lifetimes xs cs n j → IsMark true g j i → (part clearly).ty (last_place place) d x i k → Fits d k → (allows_plus place ≡ true → token.sees_plus k ≡ false) → Holds t b k →
      Reads_to (reading.unsafe_binder r (position (at b f a sc)) place) (v.Verbatim t) l k f e sc
  unfolding reading.unsafe_binder
  unsafe_met d t w o xs cs g x b l m n j i k f a e sc lim h p q z y fits plus holds =
      let u = word_complete w l m f e sc h in
      let c = angled_met o xs cs g m n j i f u.last sc p q z in
      let less = (less_no (word_takes w l m h) (angled_no o xs cs g m n j i p q z)).lighter in
      let s = meets.ty (last_place place) d x i k f c.last sc (later l i f f e c.last sc limit less lim) y fits (λ k. plus (last_plus place k)) in
      record { last = s.last; reads = link _ u.reads (link _ c.reads (link _ s.reads (link _ (since_met t b k f f a s.last sc holds) refl))) }

-- ---- `builtin`, `#`, an identifier and parentheses

builtin_mod : (t : Bytes) → is_text builtin_text t ≡ true → is_mod_word t ≡ true
unfolding is_keyword
builtin_mod t h = ap is_mod_word ((bytes_eq-Decides t builtin_text).0 h)

pub builtin_begins : (i : Ident) (k : Toks) → is_text builtin_text i.text ≡ true → PathBegins (word i k) k
builtin_begins i k h = word_begins i k (builtin_mod i.text h)

pub builtin_seen : (i : Ident) (p : token.Pound) (m n : Toks) → is_text builtin_text i.text ≡ true → IsMark true p m n → sees_builtin (word i m) ≡ true
unfolding sees_builtin sees_word after_one
builtin_seen i p m n h j = ap (λ z. z && token.sees_pound m) h ∙ mark_seen true {n = 21} {k = 1} p m n j

any_met : (i : Ident) (k : Toks) (f : Option Span) (e : Span) (sc : Scope) → Reads_to (read_word any_text ident_name) i (word i k) k f e sc
unfolding read_word next_word
any_met i k f e sc = record { last = i.span; reads = refl }

name_met : (i : Ident) (k : Toks) (f : Option Span) (e : Span) (sc : Scope) → is_ident i.text ≡ true → Reads_to (read_word is_ident ident_name) i (word i k) k f e sc
unfolding read_word next_word
name_met i k f e sc h = record { last = i.span; reads = ap (λ (b : Bool). if b then Ok (i, at k f i.span sc) else Err (expected ident_name (at (word i k) f e sc))) h }

group_opens : (s : DelimSpan) (c k : Toks) (f : Option Span) (e : Span) (sc : Scope) → Reads_to (open_group Parenthesis paren_name) (s, inside (at (group Parenthesis s c k) f e sc) s c k) (group Parenthesis s c k) k f e sc
unfolding open_group
group_opens s c k f e sc = record { last = s.closing; reads = refl }

builtin_met : (i j : Ident) (p : token.Pound) (s : DelimSpan) (m c k : Toks) (f : Option Span) (e : Span) (sc : Scope) → IsMark true p m (word j (group Parenthesis s c k)) → is_ident j.text ≡ true →
    Reads_to reading.builtin tt (word i m) k f e sc
unfolding reading.builtin
builtin_met i j p s m c k f e sc h g =
    let w = any_met i m f e sc in
    let u = mark_complete true {n = 21} {k = 1} refl (omega arith) p m (word j (group Parenthesis s c k)) f w.last sc h in
    let z = name_met j (group Parenthesis s c k) f u.last sc g in
    let y = group_opens s c k f z.last sc in
    record { last = y.last; reads = link _ w.reads (link _ u.reads (link _ z.reads (link _ y.reads refl))) }

module _ {A E : Type 0} where
  pub builtin_type_met : (t : TokenStream) (i j : Ident) (p : token.Pound) (s : DelimSpan) (b m c k : Toks) (f : Option Span) (a e : Span) (sc : Scope) → IsMark true p m (word j (group Parenthesis s c k)) → is_ident j.text ≡ true → Holds t b k →
      Reads_to (reading.builtin_type {A = A} {E = E} (position (at b f a sc))) (v.Verbatim t) (word i m) k f e sc
  builtin_type_met t i j p s b m c k f a e sc h g holds =
      let w = builtin_met i j p s m c k f e sc h g in
      record { last = w.last; reads = link _ w.reads (link _ (since_met t b k f f a w.last sc holds) refl) }
