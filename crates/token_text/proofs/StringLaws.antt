-- What a string holds, step by step, and that no literal holds two things.
use Rattle.std.proofs.Common.{Bool, true, false, ◌≡◌, ◌+◌, eq-eqb, ◌⊎◌, inl, inr, ℕ, List, [], ◌∷◌, ◌++◌, Option, Some, None, refl, sym, ap, ap₂, ◌∙◌, subst, append_assoc, append-nil, encode_utf8, length, replicate, codes, chars}
use Rattle.token_core.specs.declared.lit.LitStr.{LitStr}
use Rattle.token_core.specs.declared.span.Span.{Span}
use Rattle.token_core.specs.declared.tree.LitKind.{LitKind}
use Rattle.token_core.specs.declared.tree.LitKind.TheVariants as kinds
use Rattle.token_core.specs.declared.tree.LitKind.TheVariants.{Str}
use Rattle.token_core.specs.Lits.{is_str}
use Rattle.token_core.specs.Refusal.{Refusal, Stored, out_of_memory}
use Rattle.token_core.specs.Toks.{Bytes}
use Rattle.token_text.specs.declared.piece.Closing.{Closing}
use Rattle.token_text.specs.Characters.{Text, size, upto, is_nothing}
use Rattle.token_text.specs.Front.{Opening, Past, after_suffix, opening}
use Rattle.token_text.specs.Strings.{Shown, shown, after_closing, inside, between, Held, held, Holds, nothing, a_char, a_break, no_string, Content, Reaches, IsString, text_of, places_of, at_place, bad_escape, escape_text, stuck, Malformed, unopened, inner, more, Taken, Adds, Found}
use Rattle.token_text.proofs.Words.{spelled_so}
use Rattle.token_text.proofs.Scans.{not_same}
use Rattle.token_core.specs.Spans.{span}

-- ---- how it begins

str_is : (k : LitKind) → is_str k ≡ true → k ≡ kinds.Str
str_is kinds.Str h = refl
str_is kinds.ByteStr h = cc
str_is kinds.CStr h = cc
str_is kinds.Byte h = cc
str_is kinds.Char h = cc
str_is kinds.Int h = cc
str_is kinds.Float h = cc

abbrev kind_of : LitKind → Option Opening → LitKind
kind_of k None = k
kind_of k (Some x) = x.0

pub no_opening : (o : Option Opening) → o ≡ None → (how : Closing) (body : Text) → o ≡ Some (kinds.Str, how, body) → ⊥
no_opening o e how body h = let bad = sym e ∙ h in cc

pub other_opening : (o : Option Opening) (k : LitKind) (w : Closing) (b : Text) → o ≡ Some (k, w, b) → is_str k ≡ false → (how : Closing) (body : Text)
    → o ≡ Some (kinds.Str, how, body) → ⊥
other_opening o k w b e n how body h =
    let same : k ≡ kinds.Str = ap (kind_of k) (sym e ∙ h) in
    let bad = sym n ∙ ap is_str same in cc

pub string_opening : (o : Option Opening) (k : LitKind) (w : Closing) (b : Text) → o ≡ Some (k, w, b) → is_str k ≡ true → o ≡ Some (kinds.Str, w, b)
string_opening o k w b e h = e ∙ ap (λ (x : LitKind). Some (x, w, b)) (str_is k h)

-- ---- places

pub inside_there : (s : LitStr) (a b : ℕ) → s.span.lo + length s.text ≡ s.span.hi → inside s a b ≡ span (s.span.lo + a) (s.span.lo + b)
unfolding inside
inside_there s a b h = rw (eq-eqb (s.span.lo + length s.text) s.span.hi h) refl

pub inside_nowhere : (s : LitStr) (a b : ℕ) → ¬ (s.span.lo + length s.text ≡ s.span.hi) → inside s a b ≡ s.span
unfolding inside
inside_nowhere s a b h = rw (not_same (s.span.lo + length s.text) s.span.hi h) refl

pub ruleset insides = (inside_there, inside_nowhere)

-- how much of a text stands before an end of it
pub offset_is : (text w rest : List ℕ) → Past text rest → text ≡ w ++ rest → size (upto (chars text) (chars rest)) ≡ length w
offset_is text w rest past e = ap length (spelled_so text w rest past e)

-- ---- where it is stuck

pub stuck_end : (s : LitStr) (cs : Text) → cs ≡ [] → stuck s cs ≡ no_string s
unfolding stuck
stuck_end s cs e = rw e refl

pub stuck_return : (s : LitStr) (cs ds : Text) (c : ℕ) → cs ≡ c ∷ ds → c ≡ 13 → stuck s cs ≡ at_place (between s cs ds) (codes "carriage return without a line feed")
unfolding stuck
stuck_return s cs ds c e h = rw (e, eq-eqb c 13 h) refl

pub stuck_escape : (s : LitStr) (cs ds : Text) (c : ℕ) → cs ≡ c ∷ ds → ¬ (c ≡ 13) → stuck s cs ≡ bad_escape s cs ds
unfolding stuck
stuck_escape s cs ds c e h = rw (e, not_same c 13 h) refl

pub escape_none : (s : LitStr) (from cs : Text) → cs ≡ [] → bad_escape s from cs ≡ no_string s
escape_none s from cs e = rw e refl

pub escape_place : (s : LitStr) (from cs es : Text) (d : ℕ) (p : Span) (t : Bytes) → cs ≡ d ∷ es → p ≡ between s from es → t ≡ escape_text d
    → bad_escape s from cs ≡ at_place p t
escape_place s from cs es d p t e h k = ap (bad_escape s from) e ∙ ap₂ (λ (q : Span) (u : Bytes). at_place q u) (sym h) (sym k)

pub stored_is : (e r t : Refusal) → Stored e r → t ≡ r → Stored e t
stored_is e r t (inl h) f = inl (h ∙ sym f)
stored_is e r t (inr h) f = inr h

pub stored_return : (s : LitStr) (cs ds : Text) (c : ℕ) (p : Span) (e : Refusal) → cs ≡ c ∷ ds → c ≡ 13 → p ≡ between s cs ds
    → Stored e (at_place p (codes "carriage return without a line feed")) → Stored e (stuck s cs)
stored_return s cs ds c p e h k f g = stored_is e _ _ g (stuck_return s cs ds c h k ∙ ap (λ (q : Span). at_place q (codes "carriage return without a line feed")) (sym f))

-- ---- one step further

holds_more : {s : LitStr} {how : Closing} {body cs ds : Text} {l : List Held} {c : ℕ} → Holds s how body l cs → shown how cs ≡ Some (Some c, ds)
    → Holds s how body (l ++ held c (between s cs ds) ∷ []) ds
holds_more nothing h = a_char h nothing
holds_more (a_char g rest) h = a_char g (holds_more rest h)
holds_more (a_break g rest) h = a_break g (holds_more rest h)

holds_over : {s : LitStr} {how : Closing} {body cs ds : Text} {l : List Held} → Holds s how body l cs → shown how cs ≡ Some (None, ds) → Holds s how body l ds
holds_over nothing h = a_break h nothing
holds_over (a_char g rest) h = a_char g (holds_over rest h)
holds_over (a_break g rest) h = a_break g (holds_over rest h)

text_more : (l : List Held) (x : Held) → text_of (l ++ x ∷ []) ≡ text_of l ++ encode_utf8 x.ch
text_more [] x = append-nil (encode_utf8 x.ch)
text_more (y ∷ l) x = ap (λ t. encode_utf8 y.ch ++ t) (text_more l x) ∙ sym (append_assoc (encode_utf8 y.ch) (text_of l) (encode_utf8 x.ch))

abbrev places_at : Held → List Span
places_at x = replicate (length (encode_utf8 x.ch)) x.place

places_more : (l : List Held) (x : Held) → places_of (l ++ x ∷ []) ≡ places_of l ++ places_at x
places_more [] x = append-nil (places_at x)
places_more (y ∷ l) x = ap (λ t. places_at y ++ t) (places_more l x) ∙ sym (append_assoc (places_at y) (places_of l) (places_at x))

module _ (s : LitStr) (how : Closing) (body : Text) where
  pub taken_none : (rest text : Bytes) (places : List Span) → body ≡ chars rest → text ≡ [] → places ≡ [] → Taken s how body rest text places
  taken_none rest text places e f g = record { held = []; holds = subst (λ t. Holds s how body [] t) e nothing; text_is = f; places_are = g }

  taken_more : (rest after text new_text : Bytes) (places new_places : List Span) (c : ℕ) (place : Span) → Taken s how body rest text places
      → shown how (chars rest) ≡ Some (Some c, chars after) → place ≡ between s (chars rest) (chars after)
      → new_text ≡ text ++ encode_utf8 c → new_places ≡ places ++ replicate (length (encode_utf8 c)) place → Taken s how body after new_text new_places
  taken_more rest after text new_text places new_places c place t h p e f =
      let x = held c (between s (chars rest) (chars after)) in
      record {
        held = t.held ++ x ∷ [];
        holds = holds_more t.holds h;
        text_is = e ∙ ap (λ u. u ++ encode_utf8 c) t.text_is ∙ sym (text_more t.held x);
        places_are = f ∙ ap₂ (λ (u : List Span) (q : Span). u ++ replicate (length (encode_utf8 c)) q) t.places_are p ∙ sym (places_more t.held x);
      }

  taken_over : (rest after text : Bytes) (places : List Span) → Taken s how body rest text places → shown how (chars rest) ≡ Some (None, chars after)
      → Taken s how body after text places
  taken_over rest after text places t h = record { held = t.held; holds = holds_over t.holds h; text_is = t.text_is; places_are = t.places_are }

  pub taken_step : (rest after text new_text : Bytes) (places new_places : List Span) (found : Option ℕ) (place : Span) → Taken s how body rest text places
      → shown how (chars rest) ≡ Some (found, chars after) → place ≡ between s (chars rest) (chars after) → Adds found place text places new_text new_places
      → Taken s how body after new_text new_places
  taken_step rest after text new_text places new_places None place t h p a =
      let u = taken_over rest after text places t h in record { held = u.held; holds = u.holds; text_is = a.0 ∙ u.text_is; places_are = a.1 ∙ u.places_are }
  taken_step rest after text new_text places new_places (Some c) place t h p a = taken_more rest after text new_text places new_places c place t h p a.0 a.1

-- ---- no two things are held

abbrev rest_of : Text → Option Shown → Text
rest_of cs None = cs
rest_of cs (Some x) = x.1

abbrev char_of : ℕ → Option Shown → ℕ
char_of c None = c
char_of c (Some x) = elim x.0 [ None ↦ c | Some d ↦ d ]

abbrev is_char : Option Shown → Option ℕ
is_char None = None
is_char (Some x) = x.0

pub holds_one : {s : LitStr} {how : Closing} {cs ds es : Text} {l m : List Held} → Holds s how cs l ds → Holds s how cs m es → shown how ds ≡ None → shown how es ≡ None
    → (l ≡ m) × (ds ≡ es)
holds_one nothing nothing h k = (refl, refl)
holds_one nothing (a_char g rest) h k = let bad = sym h ∙ g in absurd (cc)
holds_one nothing (a_break g rest) h k = let bad = sym h ∙ g in absurd (cc)
holds_one (a_char f rest) nothing h k = let bad = sym k ∙ f in absurd (cc)
holds_one (a_break f rest) nothing h k = let bad = sym k ∙ f in absurd (cc)
holds_one (a_char f rest) (a_break g other) h k = let bad = ap is_char (sym f ∙ g) in absurd (cc)
holds_one (a_break f rest) (a_char g other) h k = let bad = ap is_char (sym f ∙ g) in absurd (cc)
holds_one {s = s} {how = how} {cs = cs} {es = es} (a_char {c = c} {ds = xs} f rest) (a_char {c = d} {ds = ys} {l = n} g other) h k =
    let same : xs ≡ ys = ap (rest_of cs) (sym f ∙ g) in
    let char : c ≡ d = ap (char_of c) (sym f ∙ g) in
    let r = holds_one rest (subst (λ t. Holds s how t n es) (sym same) other) h k in
    (ap₂ (λ (x : Held) (hs : List Held). x ∷ hs) (ap₂ (λ (x : ℕ) (t : Text). held x (between s cs t)) char same) r.0, r.1)
holds_one {s = s} {how = how} {cs = cs} {es = es} (a_break {ds = xs} f rest) (a_break {ds = ys} {l = n} g other) h k =
    let same : xs ≡ ys = ap (rest_of cs) (sym f ∙ g) in
    holds_one rest (subst (λ t. Holds s how t n es) (sym same) other) h k

abbrev how_of : Closing → Option (LitKind × Closing × Text) → Closing
how_of h None = h
how_of h (Some x) = x.1

abbrev body_of : Text → Option (LitKind × Closing × Text) → Text
body_of cs None = cs
body_of cs (Some x) = x.2

-- two ways to come to where it stops
pub record Same (how also : Closing) (l m : List Held) (ds es : Text) : Type 0 where
  pub ends : how ≡ also
  pub held : l ≡ m
  pub rest : ds ≡ es

reaches_one : {s : LitStr} {how also : Closing} {l m : List Held} {ds es : Text} → Reaches s how l ds → Reaches s also m es → shown how ds ≡ None → shown also es ≡ None
    → Same how also l m ds es
reaches_one {s} {how} {also} {l} {m} {ds} {es} r t h k =
    let e : how ≡ also = ap (how_of how) (sym r.opens ∙ t.opens) in
    let b : r.body ≡ t.body = ap (body_of r.body) (sym r.opens ∙ t.opens) in
    let there : Holds s how r.body m es = subst (λ w. Holds s w r.body m es) (sym e) (subst (λ u. Holds s also u m es) (sym b) t.holds) in
    let p = holds_one r.holds there h (ap (λ w. shown w es) e ∙ k) in
    record { ends = e; held = p.0; rest = p.1 }

-- at its end it stops
closing_stops : (how : Closing) (cs ds : Text) → after_closing how cs ≡ Some ds → shown how cs ≡ None
unfolding shown
closing_stops how cs ds h = rw h refl

abbrev or_text : Text → Option Text → Text
or_text t None = t
or_text t (Some u) = u

abbrev content_of : List Held → Span → Text → Content
content_of l p t = record { held = l; closing = p; suffix = t }

pub string_one : {s : LitStr} {c d : Content} → IsString s c → IsString s d → c ≡ d
string_one {s} {c} {d} a b =
    let r = reaches_one a.reaches b.reaches (closing_stops a.how a.end c.suffix a.closes) (closing_stops b.how b.end d.suffix b.closes) in
    let both : after_closing a.how a.end ≡ after_closing b.how b.end = ap₂ (λ (w : Closing) (t : Text). after_closing w t) r.ends r.rest in
    let suffix : c.suffix ≡ d.suffix = ap (or_text c.suffix) (sym a.closes ∙ both ∙ b.closes) in
    let place : c.closing ≡ d.closing = a.closing ∙ ap₂ (λ (t u : Text). between s t u) r.rest suffix ∙ sym b.closing in
    ap (λ (l : List Held). content_of l c.closing c.suffix) r.held ∙ ap₂ (λ (p : Span) (t : Text). content_of d.held p t) place suffix

pub malformed_no : {s : LitStr} {c : Content} {e : Refusal} → Malformed s e → IsString s c → ⊥
malformed_no (unopened n) a = n a.how a.reaches.body a.reaches.opens
malformed_no {s = s} {c = c} (inner {how = how} {rest = rest} r h k) a =
    let e = reaches_one r a.reaches h (closing_stops a.how a.end c.suffix a.closes) in
    let bad : None ≡ Some c.suffix = sym k ∙ ap₂ (λ (w : Closing) (t : Text). after_closing w t) e.ends e.rest ∙ a.closes in cc
malformed_no {s = s} {c = c} (more {how = how} {rest = rest} {ds = ds} r k n) a =
    let e = reaches_one r a.reaches (closing_stops how rest ds k) (closing_stops a.how a.end c.suffix a.closes) in
    let suffix : ds ≡ c.suffix = ap (or_text ds) (sym k ∙ ap₂ (λ (w : Closing) (t : Text). after_closing w t) e.ends e.rest ∙ a.closes) in
    n (ap after_suffix suffix ∙ a.suffix)

pub malformed_one : {s : LitStr} {e f : Refusal} → Malformed s e → Malformed s f → e ≡ f
malformed_one (unopened n) (unopened m) = refl
malformed_one (unopened n) (inner {how = how} r h k) = absurd (n how r.body r.opens)
malformed_one (unopened n) (more {how = how} r k m) = absurd (n how r.body r.opens)
malformed_one (inner {how = how} r h k) (unopened n) = absurd (n how r.body r.opens)
malformed_one (more {how = how} r k m) (unopened n) = absurd (n how r.body r.opens)
malformed_one {s = s} (inner r h k) (inner t i j) = let e = reaches_one r t h i in ap (stuck s) e.rest
malformed_one (inner {how = how} {rest = rest} r h k) (more {how = also} {rest = other} {ds = ds} t j n) =
    let e = reaches_one r t h (closing_stops also other ds j) in
    let bad : None ≡ Some ds = sym k ∙ ap₂ (λ (w : Closing) (u : Text). after_closing w u) e.ends e.rest ∙ j in absurd (cc)
malformed_one (more {how = how} {rest = rest} {ds = ds} r k n) (inner {how = also} {rest = other} t i j) =
    let e = reaches_one t r i (closing_stops how rest ds k) in
    let bad : None ≡ Some ds = sym j ∙ ap₂ (λ (w : Closing) (u : Text). after_closing w u) e.ends e.rest ∙ k in absurd (cc)
malformed_one (more r k n) (more t j m) = refl

-- ---- what is found out of a literal

pub nothing_yes : (b : Bool) (x y : Text) → b ≡ is_nothing x → b ≡ true → x ≡ y → y ≡ []
nothing_yes b [] y e h f = sym f
nothing_yes b (c ∷ cs) y e h f = let bad = sym h ∙ e in absurd (cc)

pub nothing_no : (b : Bool) (x y : Text) → b ≡ is_nothing x → b ≡ false → x ≡ y → ¬ (y ≡ [])
nothing_no b [] y e h f = λ g. (let bad = sym h ∙ e in absurd (cc))
nothing_no b (c ∷ cs) y e h f = λ g. (let bad = f ∙ g in absurd (cc))

pub unopened_text : (s : LitStr) (t : Bytes) → t ≡ s.text → ((how : Closing) (body : Text) → opening (chars t) ≡ Some (Str, how, body) → ⊥) → Malformed s (no_string s)
unopened_text s t e n = unopened (λ how body h. n how body (ap (λ u. opening (chars u)) e ∙ h))

pub stored_so : {s : LitStr} (e r : Refusal) → Stored e r → Malformed s r → (e ≡ out_of_memory) ⊎ Malformed s e
stored_so {s} e r (inl h) m = inr (subst (λ x. Malformed s x) (sym h) m)
stored_so e r (inr h) m = inl h

module _ (s : LitStr) (how : Closing) (body : Text) (opens : opening (chars s.text) ≡ Some (Str, how, body)) (rest text : Bytes) (places : List Span)
    (t : Taken s how body rest text places) where
  reached : Reaches s how t.held (chars rest)
  reached = record { body = body; opens = opens; holds = t.holds }

  pub stuck_there : shown how (chars rest) ≡ None → after_closing how (chars rest) ≡ None → Malformed s (stuck s (chars rest))
  stuck_there h k = inner reached h k

  pub more_there : (ds : Text) → after_closing how (chars rest) ≡ Some ds → ¬ (after_suffix ds ≡ []) → Malformed s (no_string s)
  more_there ds h n = more reached h n

  pub found_there : (ds : Text) (closing : Span) → after_closing how (chars rest) ≡ Some ds → after_suffix ds ≡ [] → closing ≡ between s (chars rest) ds → Found s text places closing ds
  found_there ds closing h n e = record {
    content = record { held = t.held; closing = closing; suffix = ds };
    is_string = record { how = how; end = chars rest; reaches = reached; closes = h; suffix = n; closing = e };
    text_is = t.text_is;
    places_are = t.places_are;
    closing_is = refl;
    suffix_is = refl;
  }
