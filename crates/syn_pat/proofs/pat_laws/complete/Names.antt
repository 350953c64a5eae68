-- What begins with a path is read as one: a path that is no lone word that a pattern binds, and one before a group, a macro call or `..`.
use Rattle.std.proofs.Common.{◌≡◌, ◌⊎◌, ◌&&◌, ◌||◌, Bool, true, false, if◌then◌else◌, List, Option, Some, None, inl, inr, refl, sym, ◌∙◌, ap}
use Rattle.std.proofs.lemmas.Slice.Eq.{bytes_eq-Decides}
use Rattle.syn_pat.proofs.pat_laws.words.Tokens.{Brace, Parenthesis, Ident, none_left, last_value, value_and_mark, after_one, is_ident, is_text, sees_group, sees_mark, sees_word, IsMark, Bytes, Toks, word}
use Rattle.syn_pat.proofs.pat_laws.words.Paths.{is_mod_word}
use Rattle.syn_pat.proofs.pat_laws.words.Types.{is_segment_word, AreSegments, IsAnyPath, qualified, unqualified, by_type, by_type_as_path, IsPath, a_path, a_word, a_word_with_arguments, Sep, Manner, clearly, Parts, absent, present, Path, PathSegment, QSelf}
use Rattle.syn_pat.proofs.pat_laws.words.Patterns.{begins_path, sees_named_path, sees_self_path, is_binding, is_binding_name, is_self, lone_word}
use Rattle.token_core.specs.Tokens as token
use Rattle.token_core.proofs.MarkSpells.{mark_seen}
use Rattle.token_core.proofs.Took.{seen_word}
use Rattle.syn_path.specs.declared.path.PathStyle.TheVariants.{Expr as expressions}
use Rattle.syn_forms.specs.paths.Reading.{is_named_word}
use Rattle.syn_ty.specs.path.Spelling.{IsQualified}
use Rattle.syn_ty.specs.path.Paths.{path_of}
use Rattle.syn_ty.specs.path.Silent as silent
use Rattle.syn_ty.proofs.ty_laws.complete.Tokens.{mod_segment}

-- ---- words

unlike_by : (w t : Bytes) (ok : Bytes → Bool) (b : Bool) → is_text w t ≡ b → ok w ≡ false → ok t ≡ true → is_text w t ≡ false
unlike_by w t ok true e h k = let g : true ≡ false = sym k ∙ ap ok ((bytes_eq-Decides t w).0 e) ∙ h in cc g
unlike_by w t ok false e h k = e

-- a text that a test holds of is none that it does not hold of
pub unlike : (ok : Bytes → Bool) (w t : Bytes) → ok w ≡ false → ok t ≡ true → is_text w t ≡ false
unlike ok w t h k = unlike_by w t ok (is_text w t) refl h k

-- a word of a path is none that is no word of paths, and one that is bound is none that none binds
pub not_mod : (w t : Bytes) → is_mod_word w ≡ false → is_mod_word t ≡ true → is_text w t ≡ false
not_mod w t h k = unlike is_mod_word w t h k

pub not_bound : (w t : Bytes) → is_binding_name w ≡ false → is_binding_name t ≡ true → is_text w t ≡ false
not_bound w t h k = unlike is_binding_name w t h k

-- what makes a path of an identifier before it
abbrev pub Behind : Toks → Bool
Behind k = token.sees_path_sep k || (token.sees_bang k || (sees_group Brace k || (sees_group Parenthesis k || token.sees_dot_dot k)))

abbrev word_test : Bytes → Toks → Bool
word_test t k =
    (is_ident t && Behind k)
    || ((is_text token.self_value_text t && token.sees_path_sep k) || (false || (false || (is_text token.self_type_text t || (is_text token.super_text t || is_text token.crate_text t)))))

pub word_tested : (i : Ident) (k : Toks) → begins_path (word i k) ≡ word_test i.text k
unfolding begins_path sees_named_path sees_self_path sees_word sees_mark after_one
word_tested i k = refl

-- a word of a path, before what makes a path of it; `self` before `::`
any_word : (a s v t c b p : Bool) → a || (s || (v || (t || c))) ≡ true → b ≡ true → (v ≡ true → p ≡ true) → (a && b) || ((v && p) || (false || (false || (t || (s || c))))) ≡ true
any_word true s v t c true p h g f = refl
any_word a s v t c false p h g f = cc g
any_word false s true t c true true h g f = refl
any_word false s true t c true false h g f = cc (f refl)
any_word false s false true c true p h g f = refl
any_word false true false false c true p h g f = refl
any_word false false false false true true p h g f = refl
any_word false false false false false true p h g f = cc h

-- and one that none binds, before anything
unbound_word : (a s v t c b p : Bool) → a || (s || (v || (t || c))) ≡ true → a || v ≡ false → (a && b) || ((v && p) || (false || (false || (t || (s || c))))) ≡ true
unbound_word true s v t c b p h g = cc g
unbound_word false s true t c b p h g = cc g
unbound_word false s false true c b p h g = refl
unbound_word false true false false c b p h g = refl
unbound_word false false false false true b p h g = refl
unbound_word false false false false false b p h g = cc h

pub word_begins : (i : Ident) (k : Toks) → is_mod_word i.text ≡ true → Behind k ≡ true → (is_text token.self_value_text i.text ≡ true → token.sees_path_sep k ≡ true) → begins_path (word i k) ≡ true
word_begins i k h b f =
    let t = i.text in
    word_tested i k
    ∙ any_word (is_ident t) (is_text token.super_text t) (is_text token.self_value_text t) (is_text token.self_type_text t) (is_text token.crate_text t) (Behind k) (token.sees_path_sep k) h b f

pub unbound_begins : (i : Ident) (k : Toks) → is_mod_word i.text ≡ true → is_binding_name i.text ≡ false → begins_path (word i k) ≡ true
unbound_begins i k h g =
    let t = i.text in
    word_tested i k
    ∙ unbound_word (is_ident t) (is_text token.super_text t) (is_text token.self_value_text t) (is_text token.self_type_text t) (is_text token.crate_text t) (Behind k) (token.sees_path_sep k) h g

pub sep_behind : (k : Toks) → token.sees_path_sep k ≡ true → Behind k ≡ true
sep_behind k h = ap (λ z. z || (token.sees_bang k || (sees_group Brace k || (sees_group Parenthesis k || token.sees_dot_dot k)))) h

-- a word before `::`
pub before_sep : (i : Ident) (k : Toks) → is_mod_word i.text ≡ true → token.sees_path_sep k ≡ true → begins_path (word i k) ≡ true
before_sep i k h g = word_begins i k h (sep_behind k g) (λ e. g)

-- `self` is no identifier, and where a word is not `self` nothing is asked of it
pub never_self : (t : Bytes) (b : Bool) → is_text token.self_value_text t ≡ false → is_text token.self_value_text t ≡ true → b ≡ true
never_self t b h g = cc (h, g)

-- ---- marks

third_of : (a b c d : Bool) → c ≡ true → a || (b || (c || d)) ≡ true
third_of true b c d h = refl
third_of false true c d h = refl
third_of false false true d h = refl
third_of false false false d h = cc h

fourth_of : (a b c d e : Bool) → d ≡ true → a || (b || (c || (d || e))) ≡ true
fourth_of true b c d e h = refl
fourth_of false true c d e h = refl
fourth_of false false true d e h = refl
fourth_of false false false true e h = refl
fourth_of false false false false e h = cc h

pub sep_begins : (l : Toks) → token.sees_path_sep l ≡ true → begins_path l ≡ true
unfolding begins_path
sep_begins l h = third_of (sees_named_path l) (sees_self_path l) (token.sees_path_sep l) _ h

pub lt_begins : (l : Toks) → token.sees_lt l ≡ true → begins_path l ≡ true
unfolding begins_path
lt_begins l h = fourth_of (sees_named_path l) (sees_self_path l) (token.sees_path_sep l) (token.sees_lt l) _ h

-- ---- paths

-- an `Ident` or `Self` is a word of a path
named_mod : (a s v t c : Bool) → a || t ≡ true → a || (s || (v || (t || c))) ≡ true
named_mod true s v t c h = refl
named_mod false true v t c h = refl
named_mod false false true t c h = refl
named_mod false false false true c h = refl
named_mod false false false false c h = cc h

pub named_word : (t : Bytes) → is_named_word t ≡ true → is_mod_word t ≡ true
named_word t h = named_mod (is_ident t) (is_text token.super_text t) (is_text token.self_value_text t) (is_text token.self_type_text t) (is_text token.crate_text t) h

pub no_try_mod : (i : Ident) (k : Toks) → is_segment_word i.text ≡ true → token.sees_try (word i k) ≡ false → is_mod_word i.text ≡ true
no_try_mod i k h g = mod_segment i.text h (sym (seen_word (is_text token.try_text) i k) ∙ g)

-- the first token of a path that does not begin with `try`
pub data Opens : Toks → Type 0 where
  by_name : {i : Ident} {k : Toks} → is_mod_word i.text ≡ true → Opens (word i k)
  by_sep : {c : Sep} {l k : Toks} → IsMark true c l k → Opens l
  by_lt : {c : token.Lt} {l k : Toks} → IsMark true c l k → Opens l

module _ {A E : Type 0} (part : Manner → Parts A E) where
  -- it begins as a path whatever follows, or it is a lone word
  pub record IsLone (q : Option (QSelf A E)) (p : Path A E) (l r : Toks) : Type 0 where
    pub ident : Ident
    pub lone : lone_word q p ≡ Some ident
    pub is : l ≡ word ident r
    pub words : is_mod_word ident.text ≡ true

  abbrev Starts : Option (QSelf A E) → Path A E → Toks → Toks → Type 0
  Starts q p l r = (begins_path l ≡ true) ⊎ IsLone q p l r

  segments_start : (xs : List (PathSegment A E)) (cs : List Sep) (l r : Toks) → AreSegments part clearly expressions xs cs l r → token.sees_try l ≡ false → Starts None (path_of None (xs, cs)) l r
  segments_start xs cs l r (none_left h) t = absurd h
  segments_start xs cs l r (last_value (a_word {i = i} h)) t = inr (record { ident = i; lone = ap (λ (b : Bool). if b then Some i else None) (silent.absent A E); is = refl; words = no_try_mod i r h t })
  segments_start xs cs l r (last_value (a_word_with_arguments {i = i} {l = m} h s v)) t = inl (before_sep i m (named_word i.text h) s)
  segments_start xs cs l r (value_and_mark {p = c} {m = m} {k = k} (a_word {i = i} h) j rest) t = inl (before_sep i m (no_try_mod i m h t) (mark_seen true {n = 1} {k = 2} c m k j))
  segments_start xs cs l r (value_and_mark (a_word_with_arguments {i = i} {l = m} h s v) j rest) t = inl (before_sep i m (named_word i.text h) s)

  path_starts : (p : Path A E) (l r : Toks) → IsPath part clearly expressions p l r → token.sees_try l ≡ false → Starts None p l r
  path_starts p l r (a_path {xs = xs} {cs = cs} absent i) t = segments_start xs cs l r i t
  path_starts p l r (a_path {m = m} (present {a = c} j) i) t = inl (sep_begins l (mark_seen true {n = 1} {k = 2} c l m j))

  -- ---- by their first tokens

  segments_open : (xs : List (PathSegment A E)) (cs : List Sep) (l r : Toks) → AreSegments part clearly expressions xs cs l r → token.sees_try l ≡ false → Opens l
  segments_open xs cs l r (none_left h) t = absurd h
  segments_open xs cs l r (last_value (a_word {i = i} h)) t = by_name (no_try_mod i r h t)
  segments_open xs cs l r (last_value (a_word_with_arguments {i = i} h s v)) t = by_name (named_word i.text h)
  segments_open xs cs l r (value_and_mark {m = m} (a_word {i = i} h) j rest) t = by_name (no_try_mod i m h t)
  segments_open xs cs l r (value_and_mark (a_word_with_arguments {i = i} h s v) j rest) t = by_name (named_word i.text h)

  pub any_opens : (q : Option (QSelf A E)) (p : Path A E) (l r : Toks) → IsAnyPath part clearly expressions q p l r → token.sees_try l ≡ false → Opens l
  any_opens q p l r (unqualified (a_path {xs = xs} {cs = cs} absent i)) t = segments_open xs cs l r i t
  any_opens q p l r (unqualified (a_path (present j) i)) t = by_sep j
  any_opens q p l r (qualified (by_type i t u s v)) n = by_lt i
  any_opens q p l r (qualified (by_type_as_path i t plus w x u s v)) n = by_lt i

  -- ---- as they are read

  qualified_lt : (q : QSelf A E) (p : Path A E) (l r : Toks) → IsQualified part clearly expressions q p l r → token.sees_lt l ≡ true
  qualified_lt q p l r (by_type {o = o} {m = m} i t u s v) = mark_seen true {n = 2} {k = 1} o l m i
  qualified_lt q p l r (by_type_as_path {o = o} {m = m} i t plus w x u s v) = mark_seen true {n = 2} {k = 1} o l m i

  any_starts : (q : Option (QSelf A E)) (p : Path A E) (l r : Toks) → IsAnyPath part clearly expressions q p l r → token.sees_try l ≡ false → Starts q p l r
  any_starts q p l r (unqualified i) t = path_starts p l r i t
  any_starts q p l r (qualified {q = o} i) t = inl (lt_begins l (qualified_lt o p l r i))

  -- where it is no word that a pattern binds
  pub unbound_starts : (q : Option (QSelf A E)) (p : Path A E) (l r : Toks) → IsAnyPath part clearly expressions q p l r → token.sees_try l ≡ false → is_binding (lone_word q p) ≡ false → begins_path l ≡ true
  unbound_starts q p l r i t h =
      elim (any_starts q p l r i t) [
        | inl y ↦ y
        | inr y ↦ ap begins_path y.is ∙ unbound_begins y.ident r y.words (sym (ap is_binding y.lone) ∙ h)
      ]

  -- and where it is not `self`, before a group or `..`
  pub head_starts : (q : Option (QSelf A E)) (p : Path A E) (l r : Toks) → IsAnyPath part clearly expressions q p l r → token.sees_try l ≡ false → is_self (lone_word q p) ≡ false → Behind r ≡ true → begins_path l ≡ true
  head_starts q p l r i t h b =
      elim (any_starts q p l r i t) [
        | inl y ↦ y
        | inr y ↦ ap begins_path y.is ∙ word_begins y.ident r y.words b (never_self y.ident.text (token.sees_path_sep r) (sym (ap is_self y.lone) ∙ h))
      ]
