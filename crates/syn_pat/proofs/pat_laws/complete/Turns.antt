-- A single pattern is read by its first tokens: each form by the tests that see it, and by none that come before.
use Rattle.std.proofs.Common.{◌≡◌, Bool, true, false, ◌&&◌, ◌||◌, [], Option, refl, ◌∙◌}
use Rattle.std.proofs.lemmas.Bool.{or_from}
use Rattle.syn_pat.proofs.pat_laws.words.Tokens.{Lit, RangeLimits, DelimSpan, Span, Bracket, Parenthesis, Ident, is_keyword, sees_lit, text_of, Reader, is_ident, is_text, sees_group, sees_mark, sees_word, last_char, more_chars, IsLit, a_literal, a_bool, a_negative, IsMark, is_mark, IsWord, is_word, AreLimits, half_open, closed, Scope, Toks, word, group}
use Rattle.syn_pat.proofs.pat_laws.words.Paths.{Place}
use Rattle.syn_pat.proofs.pat_laws.words.Types.{IsOptional, absent, present}
use Rattle.syn_pat.proofs.pat_laws.words.Patterns.{Pat, PatIdent, PatReference, PatSlice, wild_of, Readers, begins_bound, begins_path, binding, bound_or_range, box_pat, paren_or_tuple, path_pat, reference, sees_half_open, sees_named_path, sees_self_path, single, slice, type_names, is_binding_name}
use Rattle.token_core.specs.Lits.{false_text, true_text}
use Rattle.token_core.specs.Tokens as token
use Rattle.token_core.proofs.Steps.{Reads_to, chosen, link}
use Rattle.token_core.proofs.Took.{at, seen_word}
use Rattle.syn_pat.specs.declared.pat.PatOf.TheVariants as v
use Rattle.syn_pat.specs.pat.Reading.{begins_binding, by_mark, by_word, half_open as read_half_open, wild}
use Rattle.syn_pat.proofs.pat_laws.complete.Names.{Behind, not_bound, word_tested}
use Rattle.syn_pat.proofs.pat_laws.complete.Ranges.{limits_seen, word_no_lit}

-- ---- a name that is bound, before what makes no path of it

-- neither an identifier that is a path, nor `self` before `::`, nor another word of a path
no_path_word : (a s t u c b p : Bool) → b ≡ false → p ≡ false → t ≡ false → u ≡ false → c ≡ false → (a && b) || ((s && p) || (false || (false || (t || (u || c))))) ≡ false
no_path_word true true t u c b p hb hp ht hu hc = cc (hb, hp, ht, hu, hc)
no_path_word true false t u c b p hb hp ht hu hc = cc (hb, ht, hu, hc)
no_path_word false true t u c b p hb hp ht hu hc = cc (hp, ht, hu, hc)
no_path_word false false t u c b p hb hp ht hu hc = cc (ht, hu, hc)

behind_sep : (k : Toks) → Behind k ≡ false → token.sees_path_sep k ≡ false
behind_sep k h = first_of (token.sees_path_sep k) _ h
  where
    first_of : (b c : Bool) → b || c ≡ false → b ≡ false
    first_of true c h = cc h
    first_of false c h = refl

name_no_path : (i : Ident) (k : Toks) → is_binding_name i.text ≡ true → Behind k ≡ false → begins_path (word i k) ≡ false
unfolding is_keyword
name_no_path i k h b =
    let t = i.text in
    word_tested i k
    ∙ no_path_word (is_ident t) (is_text token.self_value_text t) (is_text token.self_type_text t) (is_text token.super_text t) (is_text token.crate_text t) (Behind k) (token.sees_path_sep k)
    b (behind_sep k b) (not_bound token.self_type_text t refl h) (not_bound token.super_text t refl h) (not_bound token.crate_text t refl h)

name_no_lit : (i : Ident) (k : Toks) → is_binding_name i.text ≡ true → sees_lit (word i k) ≡ false
unfolding is_keyword
name_no_lit i k h = word_no_lit i k (not_bound true_text i.text refl h) (not_bound false_text i.text refl h)

name_no_bound : (i : Ident) (k : Toks) → is_binding_name i.text ≡ true → begins_bound (word i k) ≡ false
unfolding begins_bound sees_mark is_keyword
name_no_bound i k h = or_from _ _ (name_no_lit i k h) (seen_word (is_text (text_of 6)) i k ∙ not_bound (text_of 6) i.text refl h)

last_two : (a b c d : Bool) → d || c ≡ true → a || (b || (c || d)) ≡ true
last_two true b c d h = refl
last_two false true c d h = refl
last_two false false true d h = refl
last_two false false false true h = refl
last_two false false false false h = cc h

name_binds : (i : Ident) (k : Toks) → is_binding_name i.text ≡ true → begins_binding (word i k) ≡ true
unfolding begins_binding sees_word
name_binds i k h = last_two (token.sees_ref (word i k)) (token.sees_mut (word i k)) (is_text token.self_value_text i.text) (is_ident i.text) h

-- ---- each form

module _ {X : Type 0} (supplied : Place → Reader X) (r : Readers X) where
  abbrev Reads : Pat X → Toks → Toks → Option Span → Span → Scope → Type 0
  Reads y l k f e sc = Reads_to (single supplied (type_names supplied) r) y l k f e sc

  pub path_turn : (y : Pat X) (l k : Toks) (f : Option Span) (e : Span) (sc : Scope) → begins_path l ≡ true → Reads_to (path_pat supplied (type_names supplied) r) y l k f e sc → Reads y l k f e sc
  unfolding single
  path_turn y l k f e sc h u = record { last = u.last; reads = chosen (begins_path l) true _ _ (at l f e sc) _ h u.reads }

  pub wild_turn : (w : token.Underscore) (l k : Toks) (f : Option Span) (e : Span) (sc : Scope) → IsWord w l k → Reads_to (wild {X = X}) (wild_of [] w) l k f e sc → Reads (v.Wild (wild_of [] w)) l k f e sc
  unfolding single by_word begins_path sees_named_path sees_self_path sees_word sees_mark is_keyword
  wild_turn w l k f e sc is_word u = record { last = u.last; reads = link _ u.reads refl }

  pub box_turn : (w : token.Box) (y : Pat X) (l m k : Toks) (f : Option Span) (e : Span) (sc : Scope) → IsWord w l m → Reads_to (box_pat r) y l k f e sc → Reads y l k f e sc
  unfolding single by_word begins_path sees_named_path sees_self_path sees_word sees_mark is_keyword
  box_turn w y l m k f e sc is_word u = record { last = u.last; reads = u.reads }

  -- a literal, perhaps after `-`, and a const block
  pub lit_turn : (x : Lit) (y : Pat X) (l m k : Toks) (f : Option Span) (e : Span) (sc : Scope) → IsLit x l m → Reads_to (bound_or_range supplied (type_names supplied)) y l k f e sc → Reads y l k f e sc
  unfolding single by_word begins_path begins_bound sees_named_path sees_self_path sees_lit sees_word sees_mark is_keyword
  lit_turn x y l m k f e sc a_literal u = record { last = u.last; reads = u.reads }
  lit_turn x y l m k f e sc (a_bool {b = true}) u = record { last = u.last; reads = u.reads }
  lit_turn x y l m k f e sc (a_bool {b = false}) u = record { last = u.last; reads = u.reads }
  lit_turn x y l m k f e sc (a_negative h) u = record { last = u.last; reads = u.reads }

  pub const_turn : (w : token.Const) (y : Pat X) (l m k : Toks) (f : Option Span) (e : Span) (sc : Scope) → IsWord w l m → Reads_to (bound_or_range supplied (type_names supplied)) y l k f e sc → Reads y l k f e sc
  unfolding single by_word begins_path begins_bound sees_named_path sees_self_path sees_lit sees_word sees_mark is_keyword
  const_turn w y l m k f e sc is_word u = record { last = u.last; reads = u.reads }

  -- `ref`, `mut`, or a name
  name_turn : (i : Ident) (x : PatIdent X) (n k : Toks) (f : Option Span) (e : Span) (sc : Scope) → is_binding_name i.text ≡ true → Behind n ≡ false → Reads_to (binding r) x (word i n) k f e sc → Reads (v.Ident x) (word i n) k f e sc
  unfolding single by_word is_keyword
  name_turn i x n k f e sc h b u =
      let l = word i n in
      record {
        last = u.last;
        reads = chosen (begins_path l) false _ _ (at l f e sc) _ (name_no_path i n h b)
            (chosen (token.sees_underscore l) false _ _ (at l f e sc) _ (seen_word (is_text (text_of 19)) i n ∙ not_bound (text_of 19) i.text refl h)
            (chosen (token.sees_box l) false _ _ (at l f e sc) _ (seen_word (is_text (text_of 5)) i n ∙ not_bound (text_of 5) i.text refl h)
            (chosen (begins_bound l) false _ _ (at l f e sc) _ (name_no_bound i n h) (chosen (begins_binding l) true _ _ (at l f e sc) _ (name_binds i n h) (link _ u.reads refl)))));
      }

  ref_turn : (w : token.Ref) (x : PatIdent X) (l m k : Toks) (f : Option Span) (e : Span) (sc : Scope) → IsWord w l m → Reads_to (binding r) x l k f e sc → Reads (v.Ident x) l k f e sc
  unfolding single by_word begins_path begins_bound begins_binding sees_named_path sees_self_path sees_lit sees_word sees_mark is_keyword
  ref_turn w x l m k f e sc is_word u = record { last = u.last; reads = link _ u.reads refl }

  mut_turn : (w : token.Mut) (x : PatIdent X) (l m k : Toks) (f : Option Span) (e : Span) (sc : Scope) → IsWord w l m → Reads_to (binding r) x l k f e sc → Reads (v.Ident x) l k f e sc
  unfolding single by_word begins_path begins_bound begins_binding sees_named_path sees_self_path sees_lit sees_word sees_mark is_keyword
  mut_turn w x l m k f e sc is_word u = record { last = u.last; reads = link _ u.reads refl }

  pub binding_turn : (o : Option token.Ref) (u : Option token.Mut) (i : Ident) (x : PatIdent X) (l m n k : Toks) (f : Option Span) (e : Span) (sc : Scope) → IsOptional IsWord o l m → IsOptional IsWord u m (word i n) → is_binding_name i.text ≡ true → Behind n ≡ false →
      Reads_to (binding r) x l k f e sc → Reads (v.Ident x) l k f e sc
  binding_turn o u i x l m n k f e sc absent absent h b w = name_turn i x n k f e sc h b w
  binding_turn o u i x l m n k f e sc absent (present {a = a} j) h b w = mut_turn a x l (word i n) k f e sc j w
  binding_turn o u i x l m n k f e sc (present {a = a} j) p h b w = ref_turn a x l m k f e sc j w

  -- ---- marks and groups

  pub and_turn : (a : token.And) (x : PatReference X) (l m k : Toks) (f : Option Span) (e : Span) (sc : Scope) → IsMark true a l m → Reads_to (reference r) x l k f e sc → Reads (v.Reference x) l k f e sc
  unfolding single by_word by_mark begins_path begins_bound begins_binding sees_named_path sees_self_path sees_lit sees_word sees_mark sees_group
  and_turn a x l m k f e sc (is_mark (last_char z)) u = record { last = u.last; reads = link _ u.reads refl }

  pub paren_turn : (y : Pat X) (s : DelimSpan) (c k : Toks) (f : Option Span) (e : Span) (sc : Scope) → Reads_to (paren_or_tuple r) y (group Parenthesis s c k) k f e sc → Reads y (group Parenthesis s c k) k f e sc
  unfolding single by_word by_mark begins_path begins_bound begins_binding sees_named_path sees_self_path sees_lit sees_word sees_mark sees_group
  paren_turn y s c k f e sc u = record { last = u.last; reads = u.reads }

  pub bracket_turn : (x : PatSlice X) (s : DelimSpan) (c k : Toks) (f : Option Span) (e : Span) (sc : Scope) → Reads_to (slice r) x (group Bracket s c k) k f e sc → Reads (v.Slice x) (group Bracket s c k) k f e sc
  unfolding single by_word by_mark begins_path begins_bound begins_binding sees_named_path sees_self_path sees_lit sees_word sees_mark sees_group
  bracket_turn x s c k f e sc u = record { last = u.last; reads = link _ u.reads refl }

  -- `..` and `..=`
  pub limits_turn : (y : Pat X) (t : RangeLimits) (l m k : Toks) (f : Option Span) (e : Span) (sc : Scope) → AreLimits true t l m → Reads_to (read_half_open supplied (type_names supplied)) y l k f e sc → Reads y l k f e sc
  unfolding single by_word by_mark begins_path begins_bound begins_binding sees_named_path sees_self_path sees_lit sees_word sees_mark sees_group
  limits_turn y t l m k f e sc (half_open (is_mark (more_chars (last_char x)))) u =
      record { last = u.last; reads = chosen (sees_half_open l) true _ _ (at l f e sc) _ (limits_seen t l m (half_open (is_mark (more_chars (last_char x))))) u.reads }
  limits_turn y t l m k f e sc (closed (is_mark (more_chars (more_chars (last_char x))))) u =
      record { last = u.last; reads = chosen (sees_half_open l) true _ _ (at l f e sc) _ (limits_seen t l m (closed (is_mark (more_chars (more_chars (last_char x)))))) u.reads }
