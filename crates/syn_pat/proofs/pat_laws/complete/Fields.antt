-- The field of a struct that a list spells clearly is what its read answers after its attributes, over the reads of the patterns within.
use Rattle.std.proofs.Common.{◌≡◌, ℕ, ◌≤◌, true, false, [], Option, Some, None, refl, ◌∙◌, arith}
use Rattle.syn_pat.proofs.pat_laws.words.Tokens.{Member, Span, Ident, TokenStream, is_keyword, text_of, is_done, is_ident, is_text, sees_mark, sees_word, last_char, IsMark, is_mark, IsMember, IsWord, is_word, Scope, Bytes, Toks, done, word}
use Rattle.syn_pat.proofs.pat_laws.words.Paths.{Place}
use Rattle.syn_pat.proofs.pat_laws.words.Forms.{ahead, position}
use Rattle.syn_pat.proofs.pat_laws.words.Types.{Manner, clearly, Holds, IsOptional, absent, present, Relation, Comma}
use Rattle.syn_pat.proofs.pat_laws.words.Patterns.{PatPlace, LeadingVert, IsBoxedName, a_boxed_name, IsField, with_colon, without_colon, boxed, Attrs, FieldPat, Pat, binding_of, field_of, Readers, field, outer_spelt}
use Rattle.token_core.specs.declared.member.Member.TheVariants as member
use Rattle.token_core.specs.Spellings.{named, unnamed, an_index}
use Rattle.token_core.specs.Tokens as token
use Rattle.token_core.proofs.MarkSpells.{mark_complete, mark_seen}
use Rattle.token_core.proofs.MemberSpells.{member_complete}
use Rattle.token_core.proofs.Steps.{Reads_to, chosen, link}
use Rattle.token_core.proofs.Took.{at, seen_word}
use Rattle.syn_ty.proofs.ty_laws.complete.Capture.{since_met}
use Rattle.syn_ty.proofs.ty_laws.complete.Leaves.{later}
use Rattle.syn_ty.proofs.ty_laws.complete.Less.{less_less, mark_takes, word_less, word_takes}
use Rattle.syn_ty.proofs.ty_laws.complete.Within.{Less}
use Rattle.syn_pat.specs.declared.pat.PatOf.TheVariants as v
use Rattle.syn_pat.specs.pat.Reading.{Modes, bound_field, has_mode, member_field, modes, plain_field}
use Rattle.syn_pat.proofs.pat_laws.complete.Bindings.{head_less, ident_met, word_met}
use Rattle.syn_pat.proofs.pat_laws.complete.Names.{unlike}
use Rattle.syn_pat.proofs.pat_laws.complete.Within.{EndsIn, Meets, comma_in, end_in}

-- ---- what follows a field: a comma, or the end

pub record EndsField (k : Toks) : Type 0 where
  pub ends : EndsIn LeadingVert k
  pub no_colon : token.sees_colon k ≡ false

pub end_field : EndsField done
unfolding sees_mark
end_field = record { ends = end_in LeadingVert; no_colon = refl }

pub comma_field : (c : Comma) (l r : Toks) → IsMark true c l r → EndsField l
unfolding sees_mark
comma_field c l r (is_mark (last_char x)) = record { ends = comma_in LeadingVert c l r (is_mark (last_char x)); no_colon = refl }

-- ---- words

-- no keyword is an identifier
ident_no : (w : Bytes) (i : Ident) (k : Toks) → is_ident w ≡ false → is_ident i.text ≡ true → sees_word (is_text w) (word i k) ≡ false
ident_no w i k h g = seen_word (is_text w) i k ∙ unlike is_ident w i.text h g

-- nor does a member begin with one
member_no : (w : Bytes) (n : Member) (l k : Toks) → is_ident w ≡ false → IsMember n l k → sees_word (is_text w) l ≡ false
unfolding sees_word
member_no w n l k h (named {i = i} g) = ident_no w i k h g
member_no w n l k h (unnamed (an_index v)) = refl

-- ---- `box`, `ref` and `mut` before a name

record Free (l : Toks) : Type 0 where
  no_box : token.sees_box l ≡ false
  no_ref : token.sees_ref l ≡ false
  no_mut : token.sees_mut l ≡ false

ident_free : (i : Ident) (k : Toks) → is_ident i.text ≡ true → Free (word i k)
unfolding is_keyword
ident_free i k h = record { no_box = ident_no (text_of 5) i k refl h; no_ref = ident_no (text_of 14) i k refl h; no_mut = ident_no (text_of 13) i k refl h }

member_free : (n : Member) (l k : Toks) → IsMember n l k → Free l
unfolding is_keyword
member_free n l k i = record { no_box = member_no (text_of 5) n l k refl i; no_ref = member_no (text_of 14) n l k refl i; no_mut = member_no (text_of 13) n l k refl i }

mut_no_ref : (u : Option token.Mut) (l k : Toks) → IsOptional IsWord u l k → Free k → token.sees_ref l ≡ false
unfolding sees_word
mut_no_ref u l k absent h = h.no_ref
mut_no_ref u l k (present is_word) h = refl

modes_no_box : (o : Option token.Ref) (u : Option token.Mut) (l m k : Toks) → IsOptional IsWord o l m → IsOptional IsWord u m k → Free k → token.sees_box l ≡ false
unfolding sees_word
modes_no_box o u l m k absent absent h = h.no_box
modes_no_box o u l m k absent (present is_word) h = refl
modes_no_box o u l m k (present is_word) j h = refl

modes_met : (b : Option token.Box) (o : Option token.Ref) (u : Option token.Mut) (l m n k : Toks) (f : Option Span) (e : Span) (sc : Scope) → IsOptional IsWord b l m → IsOptional IsWord o m n → IsOptional IsWord u n k → Free k →
    Reads_to modes (b, o, u) l k f e sc
unfolding modes
modes_met b o u l m n k f e sc p q i h =
    let x = word_met {n = 5} b l m f e sc p (modes_no_box o u m n k q i h) in
    let y = word_met {n = 14} o m n f x.last sc q (mut_no_ref u n k i h) in
    let z = word_met {n = 13} u n k f y.last sc i h.no_mut in
    record { last = z.last; reads = link _ x.reads (link _ y.reads (link _ z.reads refl)) }

none_met : (l : Toks) (f : Option Span) (e : Span) (sc : Scope) → Free l → Reads_to modes (None, None, None) l l f e sc
none_met l f e sc h = modes_met None None None l l l l f e sc absent absent absent h

module _ {X : Type 0} (spells : Place → X → Toks → Type 0) (r : Readers X) (part : Manner → PatPlace → Relation (Pat X)) (limit : ℕ) (meets : Meets r part limit) where
  -- ---- a member, `:` and a pattern

  colon_met : (a : Attrs X) (n : Member) (c : token.Colon) (x : Pat X) (l m k : Toks) (f : Option Span) (e : Span) (sc : Scope) → ahead (at l f e sc) ≤ limit → IsMark true c l m → part clearly LeadingVert x m k → EndsIn LeadingVert k →
      Reads_to (member_field r a n) (field_of a n (Some c) x) l k f e sc
  unfolding member_field
  colon_met a n c x l m k f e sc lim i j o =
      let w = mark_complete true {n = 7} {k = 1} refl (omega arith) c l m f e sc i in
      let u = meets.pat LeadingVert x m k f w.last sc (later l m f f e w.last sc limit (mark_takes 58 [] refl c l m i).lighter lim) j o in
      record { last = u.last; reads = link _ w.reads (link _ u.reads refl) }

  plain_met : (from : _) (a : Attrs X) (n : Member) (y : FieldPat X) (c : token.Colon) (l m k : Toks) (f : Option Span) (e : Span) (sc : Scope) → IsMark true c l m → Reads_to (member_field r a n) y l k f e sc → Reads_to (plain_field r from a n) y l k f e sc
  plain_met from a (member.Unnamed i) y c l m k f e sc h u = record { last = u.last; reads = u.reads }
  plain_met from a (member.Named i) y c l m k f e sc h u = record { last = u.last; reads = chosen (token.sees_colon l) true _ _ (at l f e sc) _ (mark_seen true {n = 7} {k = 1} c l m h) u.reads }

  -- ---- what is read after the attributes

  -- without modes
  no_modes : (a : Attrs X) (n : Member) (y : FieldPat X) (l m k : Toks) (f : Option Span) (e : Span) (sc : Scope) → IsMember n l m → ((d : Span) → Reads_to (plain_field r (position (at l f e sc)) a n) y m k f d sc) → Reads_to (field r a) y l k f e sc
  unfolding field
  no_modes a n y l m k f e sc i h =
      let w = none_met l f e sc (member_free n l m i) in
      let b = member_complete n l m f w.last sc i in
      let c = h b.last in
      record { last = c.last; reads = link _ w.reads (link _ b.reads c.reads) }

  -- with modes, and the name that is bound
  some_modes : (a : Attrs X) (n : Modes) (i : Ident) (y : FieldPat X) (l m k : Toks) (f : Option Span) (e : Span) (sc : Scope) → has_mode n ≡ true → Reads_to modes n l (word i k) f e sc → is_ident i.text ≡ true →
      ((d : Span) → Reads_to (bound_field (position (at l f e sc)) a n i) y k k f d sc) → Reads_to (field r a) y l k f e sc
  unfolding field
  some_modes a n i y l m k f e sc h w g u =
      let b = ident_met i k f w.last sc g in
      let c = u b.last in
      record { last = c.last; reads = link _ w.reads (chosen (has_mode n) true _ _ (at (word i k) f w.last sc) _ h (link _ b.reads c.reads)) }

  name_alone : (a : Attrs X) (i : Ident) (k : Toks) (f : Option Span) (e : Span) (sc : Scope) → is_ident i.text ≡ true → token.sees_colon k ≡ false →
      Reads_to (field r a) (field_of a (member.Named i) None (v.Ident (binding_of [] None None i None))) (word i k) k f e sc
  name_alone a i k f e sc h n = no_modes a (member.Named i) _ (word i k) k k f e sc (named h) (λ d. record { last = d; reads = chosen (token.sees_colon k) false _ _ (at k f d sc) _ n refl })

  bound_met : (a : Attrs X) (o : Option token.Ref) (u : Option token.Mut) (i : Ident) (l m k : Toks) (f : Option Span) (e : Span) (sc : Scope) → IsOptional IsWord o l m → IsOptional IsWord u m (word i k) → is_ident i.text ≡ true → token.sees_colon k ≡ false →
      Reads_to (field r a) (field_of a (member.Named i) None (v.Ident (binding_of [] o u i None))) l k f e sc
  bound_met a o u i l m k f e sc absent absent h n = name_alone a i k f e sc h n
  bound_met a o u i l m k f e sc absent (present j) h n = some_modes a (None, o, u) i _ l m k f e sc refl (modes_met None o u l l m (word i k) f e sc absent absent (present j) (ident_free i k h)) h (λ d. record { last = d; reads = refl })
  bound_met a o u i l m k f e sc (present j) p h n = some_modes a (None, o, u) i _ l m k f e sc refl (modes_met None o u l l m (word i k) f e sc absent (present j) p (ident_free i k h)) h (λ d. record { last = d; reads = refl })

  -- held verbatim
  boxed_met : (a : Attrs X) (i : Ident) (t : TokenStream) (l k : Toks) (f : Option Span) (e : Span) (sc : Scope) → IsBoxedName i l k → Holds t l k → Reads_to (field r a) (field_of a (member.Named i) None (v.Verbatim t)) l k f e sc
  boxed_met a i t l k f e sc (a_boxed_name {b = b} {f = o} {u = u} {m = m} {n = n} p q j h) holds =
      some_modes a (Some b, o, u) i _ l m k f e sc refl (modes_met (Some b) o u l m n (word i k) f e sc (present p) q j (ident_free i k h)) h (λ d. record { last = d; reads = link _ (link _ (since_met t l k f f e d sc holds) refl) refl })

  -- ---- a field: its attributes, and what is read after them

  pub record IsRead (x : FieldPat X) (l k : Toks) : Type 0 where
    pub attrs : Attrs X
    pub begins : Toks
    pub spelt : outer_spelt spells true attrs l begins
    pub there : is_done begins ≡ false
    pub no_pound : token.sees_pound begins ≡ false
    pub no_dots : token.sees_dot_dot begins ≡ false
    pub less : Less begins k
    pub reads : (f : Option Span) (e : Span) (sc : Scope) → ahead (at begins f e sc) ≤ limit → EndsField k → Reads_to (field r attrs) x begins k f e sc

  -- a word or a literal
  record IsPlain (l : Toks) : Type 0 where
    there : is_done l ≡ false
    no_pound : token.sees_pound l ≡ false
    no_dots : token.sees_dot_dot l ≡ false

  member_plain : (n : Member) (l k : Toks) → IsMember n l k → IsPlain l
  unfolding is_done sees_mark
  member_plain n l k (named h) = record { there = refl; no_pound = refl; no_dots = refl }
  member_plain n l k (unnamed (an_index h)) = record { there = refl; no_pound = refl; no_dots = refl }

  head_plain : (o : Option token.Ref) (u : Option token.Mut) (i : Ident) (l m k : Toks) → IsOptional IsWord o l m → IsOptional IsWord u m (word i k) → IsPlain l
  unfolding is_done sees_mark
  head_plain o u i l m k absent absent = record { there = refl; no_pound = refl; no_dots = refl }
  head_plain o u i l m k absent (present is_word) = record { there = refl; no_pound = refl; no_dots = refl }
  head_plain o u i l m k (present is_word) j = record { there = refl; no_pound = refl; no_dots = refl }

  box_plain : (b : token.Box) (l m : Toks) → IsWord b l m → IsPlain l
  unfolding is_done sees_mark
  box_plain b l m is_word = record { there = refl; no_pound = refl; no_dots = refl }

  member_less : (n : Member) (l k : Toks) → IsMember n l k → Less l k
  member_less n l k (named {i = i} h) = word_less i k
  member_less n l k (unnamed (an_index h)) = record { lighter = omega arith; shorter = omega arith }

  pub field_met : (x : FieldPat X) (l k : Toks) → IsField spells part clearly x l k → IsRead x l k
  field_met x l k (with_colon {a = a} {n = n} {c = c} {x = y} {m = m} {k = j} {j = i} p q h w) =
      let b = member_plain n m j q in
      let one = member_less n m j q in
      let two = mark_takes 58 [] refl c j i h in
      record {
        attrs = a;
        begins = m;
        spelt = p;
        there = b.there;
        no_pound = b.no_pound;
        no_dots = b.no_dots;
        less = less_less one (less_less two (meets.less LeadingVert y i k w));
        reads = λ f e sc lim o. no_modes a n x m j k f e sc q (λ d. plain_met (position (at m f e sc)) a n x c j i k f d sc h
            (colon_met a n c y j i k f d sc (let before = later m j f f e d sc limit one.lighter lim in omega (arith, before)) h w o.ends));
      }
  field_met x l k (without_colon {a = a} {f = o} {u = u} {i = i} {m = m} {n = n} p q j h) =
      let b = head_plain o u i m n k q j in
      record { attrs = a; begins = m; spelt = p; there = b.there; no_pound = b.no_pound; no_dots = b.no_dots; less = head_less o u i m n k q j; reads = λ f e sc lim z. bound_met a o u i m n k f e sc q j h z.no_colon }
  field_met x l k (boxed {a = a} {i = i} {t = t} {m = m} p (a_boxed_name {b = b} {f = o} {u = u} {m = n} {n = j} w q y h, holds)) =
      let c = box_plain b m n w in
      record {
        attrs = a;
        begins = m;
        spelt = p;
        there = c.there;
        no_pound = c.no_pound;
        no_dots = c.no_dots;
        less = less_less (word_takes b m n w) (head_less o u i n j k q y);
        reads = λ f e sc lim z. boxed_met a i t m k f e sc (a_boxed_name w q y h) holds;
      }
