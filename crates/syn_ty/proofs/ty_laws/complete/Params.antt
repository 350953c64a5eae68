-- Parameters and binders that a list spells clearly are what their reads answer, and they take no more.
use Rattle.std.proofs.Common.{◌≡◌, ℕ, ◌<◌, ◌≤◌, Bool, true, false, not, ◌==◌, ◌&&◌, ◌||◌, if◌then◌else◌, List, [], ◌∷◌, Option, Some, None, is_some, Ok, Err, refl, sym, ◌∙◌, ap, subst, arith}
use Rattle.std.proofs.lemmas.Bool.{eqb-true}
use Rattle.std.proofs.lemmas.Slice.Eq.{bytes_eq-Decides}
use Rattle.syn_ty.proofs.ty_laws.words.Tokens.{Lifetime, DelimSpan, Span, Parenthesis, Brace, Bracket, Ident, Punct, is_keyword, sees_lifetime, with_ident, read_lifetime, AreListed, Anywhere, Many, terminated, Reader, ◌>>=◌, ◌<$>◌, any_text, expected, ident_name, is_done, is_ident, is_joint, is_last, is_text, next_word, optional, past_mark, past_next, read_word, sees_group, sees_mark, sees_word, none, last_char, IsMark, is_mark, IsWord, is_word, IsLifetime, is_lifetime, Scope, Bytes, Toks, done, word, mark, lit, group, enter, leave}
use Rattle.syn_ty.proofs.ty_laws.words.Paths.{sees_sep, ReadValues}
use Rattle.syn_ty.proofs.ty_laws.words.Forms.{BoundPlace, Parameter, ParamPlace, Binder, Plus, bounds_to, ahead, comma, sees_gt}
use Rattle.syn_ty.proofs.ty_laws.words.Types.{LifetimeParamOf, AreBounds, no_bounds, last_plus, last_bound, bound_and_plus, IsFor, IsGiven, given, AreLifetimes, IsLifetimeParam, a_lone_lifetime, a_lifetime_with_bounds, AreBoundsAfter, no_colon, after_colon, IsAnyType, any_type, IsTypeParam, a_type_param, IsConstParam, a_const_param, IsParam, a_lifetime_param, a_named_param, a_constant_param, a_bare_param, bound_lifetimes_of, const_param_of, lifetime_param_of, type_param_of, binder, optional_binder, param_after, param_step, in_binder, in_generics, a_binder, ends_constraint, reads_below, Manner, clearly, End, Parts, Readers, a_bound, a_param, a_type, sees_call, Relation, IsOptional, absent, present, BoundLifetimes, ConstParam, GenericParam, TypeParam, TypeParamBound, TypeTree}
use Rattle.token_core.specs.declared.tree.Delimiter.TheVariants as d
use Rattle.token_core.specs.Lifetimes as lifetimes
use Rattle.token_core.specs.Tokens as token
use Rattle.token_core.proofs.MarkSpells.{mark_complete, mark_seen, mark_size}
use Rattle.token_core.proofs.Steps.{link, chosen, Reads_to}
use Rattle.token_core.proofs.Took.{at}
use Rattle.token_core.proofs.Unseen.{no_mark-other}
use Rattle.token_core.proofs.WordSpells.{word_complete, word_seen, lifetime_complete, lifetime_seen, lifetime_size}
use Rattle.syn_forms.specs.declared.places.ParamPlace.TheVariants.{Generics}
use Rattle.syn_forms.specs.heads.Reading as heads
use Rattle.syn_forms.specs.params.Reading as parts
use Rattle.syn_forms.specs.params.Reading.{bounds_after, default_of, ends_lifetime, ends_type}
use Rattle.syn_forms.proofs.lists_laws.Complete.{listed_here}
use Rattle.syn_forms.proofs.nested_laws.Ahead.{ahead-is}
use Rattle.syn_ty.specs.declared.generics.GenericParamOf.TheVariants as g
use Rattle.syn_ty.specs.generics.Reading.{lifetime_after, lifetime_param, sees_ident, type_after, type_param, const_after, const_param}
use Rattle.syn_ty.specs.ty.Knot as knot
use Rattle.syn_ty.proofs.ty_laws.complete.BoundLists.{bounds_to_met}
use Rattle.syn_ty.proofs.ty_laws.complete.Leaves.{later, not_more, comma_light}
use Rattle.syn_ty.proofs.ty_laws.complete.Less.{same, some, no_no, no_less, less_no, less_less, mark_takes, word_takes, word_less}
use Rattle.syn_ty.proofs.ty_laws.complete.Within.{Stops, Fits, Less, NoMore, BoundBegins, ItemBegins, Meets, SuppliedMeets, ends_param}

-- ---- what ends a list

-- Nothing goes on here with a type or with bounds, however they end.
pub record Over (k : Toks) : Type 0 where
  pub stops : Stops k
  pub no_plus : token.sees_plus k ≡ false
  pub no_word : sees_word any_text k ≡ false

pub over_fits : (e : End) (k : Toks) → Over k → Fits e k
over_fits e k o = record { stops = o.stops; no_plus = λ h. o.no_plus; no_word = λ h. o.no_word }

-- the tests look within invisible groups, and after their ends
over_enter : (s : DelimSpan) (k : Toks) → Over k → Over (enter s k)
unfolding sees_mark sees_word sees_group sees_lifetime sees_call
over_enter s k o = let h = o.stops in record {
  stops = record { no_sep = h.no_sep; no_angle = h.no_angle; no_call = h.no_call; no_arrow = h.no_arrow; no_question = h.no_question; no_lifetime = h.no_lifetime; no_paren = h.no_paren; no_bracket = h.no_bracket; no_pound = h.no_pound };
  no_plus = o.no_plus;
  no_word = o.no_word;
}

over_leave : (k : Toks) → Over k → Over (leave k)
unfolding sees_mark sees_word sees_group sees_lifetime sees_call
over_leave k o = let h = o.stops in record {
  stops = record { no_sep = h.no_sep; no_angle = h.no_angle; no_call = h.no_call; no_arrow = h.no_arrow; no_question = h.no_question; no_lifetime = h.no_lifetime; no_paren = h.no_paren; no_bracket = h.no_bracket; no_pound = h.no_pound };
  no_plus = o.no_plus;
  no_word = o.no_word;
}

-- the end
pub done_over : (k : Toks) → is_done k ≡ true → Over k
unfolding is_done sees_mark sees_word sees_group sees_lifetime sees_call
done_over done e = record { stops = record { no_sep = refl; no_angle = refl; no_call = refl; no_arrow = refl; no_question = refl; no_lifetime = refl; no_paren = refl; no_bracket = refl; no_pound = refl }; no_plus = refl; no_word = refl }
done_over (word i k) e = cc e
done_over (mark p k) e = cc e
done_over (lit x k) e = cc e
done_over (group x s c k) e = cc e
done_over (enter s k) e = over_enter s k (done_over k e)
done_over (leave k) e = over_leave k (done_over k e)

-- braces
pub brace_over : (k : Toks) → sees_group Brace k ≡ true → Over k
unfolding sees_mark sees_word sees_group sees_lifetime sees_call
brace_over done e = cc e
brace_over (word i k) e = cc e
brace_over (mark p k) e = cc e
brace_over (lit x k) e = cc e
brace_over (group Parenthesis s c k) e = cc e
brace_over (group Brace s c k) e = record { stops = record { no_sep = refl; no_angle = refl; no_call = refl; no_arrow = refl; no_question = refl; no_lifetime = refl; no_paren = refl; no_bracket = refl; no_pound = refl }; no_plus = refl; no_word = refl }
brace_over (group Bracket s c k) e = cc e
brace_over (group d.None s c k) e = cc e
brace_over (enter s k) e = over_enter s k (brace_over k e)
brace_over (leave k) e = over_leave k (brace_over k e)

-- a character that begins nothing that goes on
pub record Closing (c : ℕ) : Type 0 where
  pub no_bang : (c == 33) ≡ false
  pub no_quote : (c == 39) ≡ false
  pub no_plus : (c == 43) ≡ false
  pub no_minus : (c == 45) ≡ false
  pub no_lt : (c == 60) ≡ false
  pub no_question : (c == 63) ≡ false
  pub no_pound : (c == 35) ≡ false

quote_unseen : (p : Punct) (k : Toks) → (p.ch == 39) ≡ false → sees_lifetime (mark p k) ≡ false
unfolding sees_lifetime
quote_unseen p k e = ap (λ (b : Bool). is_some (if b then (if is_joint p.spacing then with_ident p.span (lifetimes.next_word k) else None) else None)) e

mark_over : (p : Punct) (k : Toks) → Closing p.ch → sees_sep (mark p k) ≡ false → Over (mark p k)
unfolding sees_word sees_group sees_call
mark_over p k c n = record {
  stops = record {
    no_sep = n;
    no_angle = ap (λ b. b && (not (token.sees_le (mark p k)) && not (token.sees_shl_eq (mark p k)))) (no_mark-other 60 [] p k c.no_lt);
    no_call = ap (λ b. b && not (token.sees_ne (mark p k))) (no_mark-other 33 [] p k c.no_bang);
    no_arrow = no_mark-other 45 (62 ∷ []) p k c.no_minus;
    no_question = no_mark-other 63 [] p k c.no_question;
    no_lifetime = quote_unseen p k c.no_quote;
    no_paren = refl;
    no_bracket = refl;
    no_pound = no_mark-other 35 [] p k c.no_pound;
  };
  no_plus = no_mark-other 43 [] p k c.no_plus;
  no_word = refl;
}

-- the first character of a mark that is seen
where_true : {T : Type 0} (b : Bool) (o : Option T) → is_some (if b then o else None) ≡ true → b ≡ true
where_true true o e = refl
where_true false o e = cc e

char_is : (c : ℕ) (cs : List ℕ) (p : Punct) (k : Toks) → sees_mark (c ∷ cs) (mark p k) ≡ true → p.ch ≡ c
unfolding sees_mark
char_is c cs p k e = by_last (is_last cs) e
  where
    by_last : (last : Bool) → is_some (past_next c last (past_mark cs) (Some (p, k))) ≡ true → p.ch ≡ c
    by_last true e = eqb-true p.ch c (where_true (p.ch == c) _ e)
    by_last false e = eqb-true p.ch c (where_true (p.ch == c) _ e)

-- another mark is unseen there
pub other_char : (c x : ℕ) (cs xs : List ℕ) (k : Toks) → (c == x) ≡ false → sees_mark (c ∷ cs) k ≡ true → sees_mark (x ∷ xs) k ≡ false
unfolding sees_mark
other_char c x cs xs done n e = refl
other_char c x cs xs (word i k) n e = refl
other_char c x cs xs (mark p k) n e = no_mark-other x xs p k (ap (λ z. z == x) (char_is c cs p k e) ∙ n)
other_char c x cs xs (lit y k) n e = refl
other_char c x cs xs (group y s z k) n e = refl
other_char c x cs xs (enter s k) n e = other_char c x cs xs k n e
other_char c x cs xs (leave k) n e = other_char c x cs xs k n e

-- a mark of one such character, which is no part of `::`
char_over : (c : ℕ) (k : Toks) → Closing c → sees_mark (c ∷ []) k ≡ true → sees_sep k ≡ false → Over k
unfolding sees_mark
char_over c done g e n = cc e
char_over c (word i k) g e n = cc e
char_over c (mark p k) g e n = mark_over p k (subst Closing (sym (char_is c [] p k e)) g) n
char_over c (lit x k) g e n = cc e
char_over c (group x s y k) g e n = cc e
char_over c (enter s k) g e n = over_enter s k (char_over c k g e n)
char_over c (leave k) g e n = over_leave k (char_over c k g e n)

-- a comma, a `>`, a `;` or a `=`
pub closing : (c : ℕ) → (c == 33) ≡ false → (c == 39) ≡ false → (c == 43) ≡ false → (c == 45) ≡ false → (c == 60) ≡ false → (c == 63) ≡ false → (c == 35) ≡ false → Closing c
closing c a b d e g h i = record { no_bang = a; no_quote = b; no_plus = d; no_minus = e; no_lt = g; no_question = h; no_pound = i }

plain_over : (c : ℕ) (k : Toks) → Closing c → (c == 58) ≡ false → sees_mark (c ∷ []) k ≡ true → Over k
plain_over c k g n e = char_over c k g e (other_char c 58 [] (58 ∷ []) k n e)

pub comma_over : (k : Toks) → token.sees_comma k ≡ true → Over k
comma_over k e = plain_over 44 k (closing 44 refl refl refl refl refl refl refl) refl e

pub gt_over : (k : Toks) → token.sees_gt k ≡ true → Over k
gt_over k e = plain_over 62 k (closing 62 refl refl refl refl refl refl refl) refl e

pub semi_over : (k : Toks) → token.sees_semi k ≡ true → Over k
semi_over k e = plain_over 59 k (closing 59 refl refl refl refl refl refl refl) refl e

pub equals_over : (k : Toks) → token.sees_equals k ≡ true → Over k
equals_over k e = plain_over 61 k (closing 61 refl refl refl refl refl refl refl) refl e

-- a `:` that is no part of `::`
pub colon_over : (k : Toks) → token.sees_colon k ≡ true → token.sees_path_sep k ≡ false → Over k
colon_over k e n = char_over 58 k (closing 58 refl refl refl refl refl refl refl) e n

-- one of two holds
pub of_either : {P : Type 0} (a b : Bool) → (a ≡ true → P) → (b ≡ true → P) → a || b ≡ true → P
of_either true b f g h = f refl
of_either false b f g h = g h

pub constraint_over : (k : Toks) → ends_constraint k ≡ true → Over k
unfolding ends_constraint
constraint_over k h = of_either (token.sees_comma k) (token.sees_gt k) (comma_over k) (gt_over k) h

pub param_over : (k : Toks) → ends_param k ≡ true → Over k
param_over k h = of_either (ends_constraint k) (is_done k) (constraint_over k) (done_over k) h

-- no mark stands at the end
pub done_no_mark : (x : ℕ) (xs : List ℕ) (k : Toks) → is_done k ≡ true → sees_mark (x ∷ xs) k ≡ false
unfolding is_done sees_mark
done_no_mark x xs done e = refl
done_no_mark x xs (word i k) e = refl
done_no_mark x xs (mark p k) e = cc e
done_no_mark x xs (lit y k) e = refl
done_no_mark x xs (group y s c k) e = refl
done_no_mark x xs (enter s k) e = done_no_mark x xs k e
done_no_mark x xs (leave k) e = done_no_mark x xs k e

-- no mark but a comma or a `>` stands after an argument, nor after a parameter
pub constraint_no_mark : (x : ℕ) (xs : List ℕ) (k : Toks) → (44 == x) ≡ false → (62 == x) ≡ false → ends_constraint k ≡ true → sees_mark (x ∷ xs) k ≡ false
unfolding ends_constraint
constraint_no_mark x xs k a b h = of_either (token.sees_comma k) (token.sees_gt k) (other_char 44 x [] xs k a) (other_char 62 x [] xs k b) h

pub param_no_mark : (x : ℕ) (xs : List ℕ) (k : Toks) → (44 == x) ≡ false → (62 == x) ≡ false → ends_param k ≡ true → sees_mark (x ∷ xs) k ≡ false
param_no_mark x xs k a b h = of_either (ends_constraint k) (is_done k) (constraint_no_mark x xs k a b) (done_no_mark x xs k) h

-- ---- how much is left

pub no_later : (l k : Toks) (f g : Option Span) (d e : Span) (sc : Scope) (limit : ℕ) → NoMore l k → ahead (at l f d sc) ≤ limit → ahead (at k g e sc) ≤ limit
no_later l k f g d e sc limit h lim =
    let w = h.light in
    let x = ahead-is (at l f d sc) in
    let y = ahead-is (at k g e sc) in
    omega (arith, w, lim, x, y)

-- ---- steps of a read

-- what is made of an answer
pub mapped_met : {A B : Type 0} (g : A → B) (p : Reader A) (x : A) (l k : Toks) (f : Option Span) (e : Span) (sc : Scope) → Reads_to p x l k f e sc → Reads_to (g <$> p) (g x) l k f e sc
mapped_met g p x l k f e sc h = record { last = h.last; reads = link _ h.reads refl }

-- what may be there
pub absent_met : {A : Type 0} (sees : Toks → Bool) (p : Reader A) (l : Toks) (f : Option Span) (e : Span) (sc : Scope) → sees l ≡ false → Reads_to (optional sees p) None l l f e sc
absent_met sees p l f e sc h = record { last = e; reads = chosen (sees l) false _ _ (at l f e sc) _ h refl }

pub present_met : {A : Type 0} (sees : Toks → Bool) (p : Reader A) (x : A) (l k : Toks) (f : Option Span) (e : Span) (sc : Scope) → sees l ≡ true → Reads_to p x l k f e sc → Reads_to (optional sees p) (Some x) l k f e sc
present_met sees p x l k f e sc h g = record { last = g.last; reads = chosen (sees l) true _ _ (at l f e sc) _ h (link _ g.reads refl) }

-- ---- marks and words

pub colon_met : (c : token.Colon) (l k : Toks) (f : Option Span) (e : Span) (sc : Scope) → IsMark true c l k → Reads_to token.colon c l k f e sc
colon_met c l k f e sc i = mark_complete true {n = 7} {k = 1} refl (omega arith) c l k f e sc i

pub colon_seen : (c : token.Colon) (l k : Toks) → IsMark true c l k → token.sees_colon l ≡ true
colon_seen c l k i = mark_seen true {n = 7} {k = 1} c l k i

pub colon_takes : (c : token.Colon) (l k : Toks) → IsMark true c l k → Less l k
colon_takes c l k i = mark_takes 58 [] refl c l k i

pub equals_met : (c : token.Equals) (l k : Toks) (f : Option Span) (e : Span) (sc : Scope) → IsMark true c l k → Reads_to token.equals c l k f e sc
equals_met c l k f e sc i = mark_complete true {n = 11} {k = 1} refl (omega arith) c l k f e sc i

pub equals_seen : (c : token.Equals) (l k : Toks) → IsMark true c l k → token.sees_equals l ≡ true
equals_seen c l k i = mark_seen true {n = 11} {k = 1} c l k i

pub equals_takes : (c : token.Equals) (l k : Toks) → IsMark true c l k → Less l k
equals_takes c l k i = mark_takes 61 [] refl c l k i

comma_met : (c : token.Comma) (l k : Toks) (f : Option Span) (e : Span) (sc : Scope) → IsMark true c l k → Reads_to comma c l k f e sc
comma_met c l k f e sc i = mark_complete true {n = 4} {k = 1} refl (omega arith) c l k f e sc i

plus_met : (c : token.Plus) (l k : Toks) (f : Option Span) (e : Span) (sc : Scope) → IsMark true c l k → Reads_to token.plus c l k f e sc
plus_met c l k f e sc i = mark_complete true {n = 20} {k = 1} refl (omega arith) c l k f e sc i

-- an identifier whose text meets a test
pub named_met : (test : Bytes → Bool) (i : Ident) (k : Toks) (f : Option Span) (e : Span) (sc : Scope) → test i.text ≡ true → Reads_to (read_word test ident_name) i (word i k) k f e sc
unfolding read_word next_word
named_met test i k f e sc h = record { last = i.span; reads = ap (λ (b : Bool). if b then Ok (i, at k f i.span sc) else Err (expected ident_name (at (word i k) f e sc))) h }

-- ---- lifetimes joined by `+`

-- up to an end, where no `+` follows
pub lives_met : (ends : Toks → Bool) → ((x : Lifetime) (l k : Toks) → IsLifetime x l k → ends l ≡ false) → (xs : List Lifetime) (ps : List token.Plus) (l k : Toks) (f : Option Span) (e : Span) (sc : Scope) →
    AreLifetimes true xs ps l k → ends k ≡ true → token.sees_plus k ≡ false → Reads_to (bounds_to read_lifetime ends) (xs, ps) l k f e sc
lives_met ends begins xs ps l k f e sc i h n =
    listed_here (λ (_ : Bool). ends) (λ (_ : Bool). read_lifetime) token.sees_plus token.plus (λ (_ : Bool). IsLifetime) (IsMark true) Anywhere (λ (_ : Toks). Unit {0}) (λ (_ : Toks). Unit {0}) sc
    (λ b x m o u j w a d. lifetime_complete x m o a d sc j)
    (λ p m o j a d. plus_met p m o a d sc j)
    (λ p m o j. (tt, mark_seen true {n = 20} {k = 1} p m o j))
    (λ b x m o j. begins x m o j)
    (λ b x m o j. lifetime_size x m o j)
    (λ p m o j. mark_size true {n = 20} {k = 1} p m o j)
    (λ b x p m o u j w z. tt)
    true xs ps l k tt i
    (record { follows = tt; over = n; stops_there = λ b may. h }) f e

-- ---- attributes, and what bears them

module _ {A E : Type 0} (attrs : Reader (List A)) (part : Manner → Parts A E)
    (attrs_met : (x : List A) (l k : Toks) (f : Option Span) (e : Span) (sc : Scope) → (part clearly).attrs x l k → token.sees_pound k ≡ false → Reads_to attrs x l k f e sc) where
  pub after_attrs_met : {B : Type 0} (after : List A → Reader B) (a : List A) (x : B) (l m k : Toks) (f : Option Span) (e : Span) (sc : Scope) → (part clearly).attrs a l m → token.sees_pound m ≡ false →
      ((d : Span) → Reads_to (after a) x m k f d sc) → Reads_to (attrs >>= after) x l k f e sc
  after_attrs_met after a x l m k f e sc i n h = let w = attrs_met a l m f e sc i n in let u = h w.last in record { last = u.last; reads = link _ w.reads u.reads }

-- ---- lifetimes

-- a parameter's bounds end where it does
ends_around : (a b d : Bool) → (a || b) || d ≡ true → d || (a || b) ≡ true
ends_around true b true h = refl
ends_around true b false h = refl
ends_around false true true h = refl
ends_around false true false h = refl
ends_around false false true h = refl
ends_around false false false h = cc h

lifetime_ends : (k : Toks) → ends_param k ≡ true → ends_lifetime k ≡ true
unfolding ends_constraint ends_lifetime
lifetime_ends k h = ends_around (token.sees_comma k) (token.sees_gt k) (is_done k) h

life_goes : (x : Lifetime) (l k : Toks) → IsLifetime x l k → ends_lifetime l ≡ false
unfolding ends_lifetime is_done sees_mark
life_goes x l k is_lifetime = refl

-- what begins a lifetime
pub life_no_pound : (x : Lifetime) (l k : Toks) → IsLifetime x l k → token.sees_pound l ≡ false
unfolding sees_mark
life_no_pound x l k is_lifetime = refl

life_no_ident : (x : Lifetime) (l k : Toks) → IsLifetime x l k → sees_ident l ≡ false
unfolding sees_word
life_no_ident x l k is_lifetime = refl

abbrev life_of : {A : Type 0} → List A → parts.LifetimeParts → LifetimeParamOf A
life_of a p = lifetime_param_of a p.0 p.1 p.2

module _ {A : Type 0} (attrs : Reader (List A)) (a : List A) where
  lone_met : (x : Lifetime) (l k : Toks) (f : Option Span) (e : Span) (sc : Scope) → IsLifetime x l k → ends_param k ≡ true → Reads_to (lifetime_after attrs a) (lifetime_param_of a x None ([], [])) l k f e sc
  unfolding parts.lifetime_parts
  lone_met x l k f e sc i h =
      let w = lifetime_complete x l k f e sc i in
      let c = absent_met token.sees_colon token.colon k f w.last sc (param_no_mark 58 [] k refl refl h) in
      let all : Reads_to parts.lifetime_parts (x, None, ([], [])) l k f e sc = record { last = c.last; reads = link _ w.reads (link _ c.reads refl) } in
      mapped_met (life_of a) parts.lifetime_parts (x, None, ([], [])) l k f e sc all

  bounded_met : (x : Lifetime) (c : token.Colon) (xs : List Lifetime) (ps : List token.Plus) (l m n k : Toks) (f : Option Span) (e : Span) (sc : Scope) → IsLifetime x l m → IsMark true c m n → AreLifetimes true xs ps n k → ends_param k ≡ true →
      Reads_to (lifetime_after attrs a) (lifetime_param_of a x (Some c) (xs, ps)) l k f e sc
  unfolding parts.lifetime_parts
  bounded_met x c xs ps l m n k f e sc i j g h =
      let w = lifetime_complete x l m f e sc i in
      let u = present_met token.sees_colon token.colon c m n f w.last sc (colon_seen c m n j) (colon_met c m n f w.last sc j) in
      let v = lives_met ends_lifetime life_goes xs ps n k f u.last sc g (lifetime_ends k h) (param_over k h).no_plus in
      let all : Reads_to parts.lifetime_parts (x, Some c, (xs, ps)) l k f e sc = record { last = v.last; reads = link _ w.reads (link _ u.reads (link _ v.reads refl)) } in
      mapped_met (life_of a) parts.lifetime_parts (x, Some c, (xs, ps)) l k f e sc all

module _ {A E : Type 0} (attrs : Reader (List A)) (part : Manner → Parts A E)
    (attrs_met : (x : List A) (l k : Toks) (f : Option Span) (e : Span) (sc : Scope) → (part clearly).attrs x l k → token.sees_pound k ≡ false → Reads_to attrs x l k f e sc) where
  pub lifetime_param_met : (x : LifetimeParamOf A) (l k : Toks) (f : Option Span) (e : Span) (sc : Scope) → IsLifetimeParam part clearly x l k → ends_param k ≡ true → Reads_to (lifetime_param attrs) x l k f e sc
  unfolding lifetime_param
  lifetime_param_met x l k f e sc (a_lone_lifetime {a = a} {x = y} {m = m} i j) h = after_attrs_met attrs part attrs_met (lifetime_after attrs) a _ l m k f e sc i (life_no_pound y m k j) (λ b. lone_met attrs a y m k f b sc j h)
  lifetime_param_met x l k f e sc (a_lifetime_with_bounds {a = a} {x = y} {c = c} {xs = xs} {ps = ps} {m = m} {n = n} {k = o} i j q g) h =
      after_attrs_met attrs part attrs_met (lifetime_after attrs) a _ l m k f e sc i (life_no_pound y m n j) (λ b. bounded_met attrs a y c xs ps m n o k f b sc j q g h)

-- ---- defaults

-- what stands before a default, or where there is none at the end of a parameter
pub record BeforeDefault (k : Toks) : Type 0 where
  pub over : Over k
  pub ends : ends_type k ≡ true
  pub no_colon : token.sees_colon k ≡ false

ends_with : (a b d q : Bool) → (a || b) || d ≡ true → d || (a || (b || q)) ≡ true
ends_with true b true q h = refl
ends_with true b false q h = refl
ends_with false true true q h = refl
ends_with false true false q h = refl
ends_with false false true q h = refl
ends_with false false false q h = cc h

ends_at_equals : (a b d q : Bool) → q ≡ true → d || (a || (b || q)) ≡ true
ends_at_equals true b true q h = refl
ends_at_equals true b false q h = refl
ends_at_equals false true true q h = refl
ends_at_equals false true false q h = refl
ends_at_equals false false true q h = refl
ends_at_equals false false false q h = h

param_before : (k : Toks) → ends_param k ≡ true → BeforeDefault k
unfolding ends_constraint ends_type
param_before k h = record { over = param_over k h; ends = ends_with (token.sees_comma k) (token.sees_gt k) (is_done k) (token.sees_equals k) h; no_colon = param_no_mark 58 [] k refl refl h }

equals_before : (k : Toks) → token.sees_equals k ≡ true → BeforeDefault k
unfolding ends_type
equals_before k h = record { over = equals_over k h; ends = ends_at_equals (token.sees_comma k) (token.sees_gt k) (is_done k) (token.sees_equals k) h; no_colon = other_char 61 58 [] [] k refl h }

module _ {V : Type 0} (Is : Relation V) where
  abbrev Given : token.Equals × V → Toks → Toks → Type 0
  Given = IsGiven true Is

  default_begins : (o : Option (token.Equals × V)) (l k : Toks) → IsOptional Given o l k → ends_param k ≡ true → BeforeDefault l
  default_begins o l k absent h = param_before l h
  default_begins o l k (present (given {q = q} {m = m} i j)) h = equals_before l (equals_seen q l m i)

  -- the value is read after the `=`, where fewer tokens are left
  default_met : (value : Reader V) (o : Option (token.Equals × V)) (l k : Toks) (f : Option Span) (e : Span) (sc : Scope) → IsOptional Given o l k → ends_param k ≡ true →
      ((x : V) (m : Toks) (d : Span) → Less l m → Is x m k → Reads_to value x m k f d sc) → Reads_to (default_of value) o l k f e sc
  unfolding parts.given
  default_met value o l k f e sc absent h reads = absent_met token.sees_equals (parts.given value) l f e sc (param_no_mark 61 [] l refl refl h)
  default_met value o l k f e sc (present (given {q = q} {x = x} {m = m} i j)) h reads =
      let w = equals_met q l m f e sc i in
      let u = reads x m w.last (equals_takes q l m i) j in
      let all : Reads_to (parts.given value) (q, x) l k f e sc = record { last = u.last; reads = link _ w.reads (link _ u.reads refl) } in
      present_met token.sees_equals (parts.given value) (q, x) l k f e sc (equals_seen q l m i) all

-- ---- bounds up to an end

pub none_of_four : (a b c d : Bool) → a ≡ false → b ≡ false → c ≡ false → d ≡ false → a || (b || (c || d)) ≡ false
none_of_four false false false d h i j k = k
none_of_four false false true d h i j k = cc j
none_of_four false true c d h i j k = cc i
none_of_four true b c d h i j k = cc h

-- no bound begins where those of a type parameter end
pub ends_type_goes : (l : Toks) → BoundBegins Parameter l → ends_type l ≡ false
unfolding ends_type
ends_type_goes l b = none_of_four (is_done l) (token.sees_comma l) (token.sees_gt l) (token.sees_equals l) b.there b.no_comma b.no_gt b.no_equals

module _ {A E : Type 0} (r : Readers A E) (part : Manner → Parts A E) (limit : ℕ) where
  -- Bounds up to an end are read where they are spelt and less than the limit is left, and what follows does not go on with them.
  abbrev pub BoundsMeet : (Bool → Type 0) → (Toks → Bool) → Type 0
  BoundsMeet Ends ends = (d : End) (xs : List (TypeParamBound A E)) (ps : List token.Plus) (l k : Toks) (f : Option Span) (e : Span) (sc : Scope) → ahead (at l f e sc) < limit → AreBounds part clearly Parameter Ends true d xs ps l k →
      (d.is_open ≡ true → Fits d k) → ((first : Bool) → Ends first → ends k ≡ true) → Reads_to (bounds_to (r (a_bound Parameter)) ends) (xs, ps) l k f e sc

  -- up to every end that begins no bound
  pub bounds_meet : Meets r part limit → (Ends : Bool → Type 0) (ends : Toks → Bool) → ((l : Toks) → BoundBegins Parameter l → ends l ≡ false) → BoundsMeet Ends ends
  bounds_meet meets = bounds_to_met r part limit meets Parameter

-- ---- types and constants

module _ {A E : Type 0} (part : Manner → Parts A E) (place : BoundPlace) (Ends : Bool → Type 0) (takes : (d : End) (x : TypeParamBound A E) (l k : Toks) → (part clearly).bound place d x l k → Less l k) where
  -- bounds joined by `+` leave no more tokens
  pub bounds_no : (first : Bool) (d : End) (xs : List (TypeParamBound A E)) (ps : List token.Plus) (l k : Toks) → AreBounds part clearly place Ends first d xs ps l k → NoMore l k
  bounds_no first d xs ps l k (no_bounds may) = same
  bounds_no first d xs ps l k (last_plus may) = same
  bounds_no first d xs ps l k (last_bound {e = b} {x = x} i) = some (takes b x l k i)
  bounds_no first d xs ps l k (bound_and_plus {e = b} {x = x} {p = p} {xs = ys} {ps = qs} {m = m} {k = n} i o j more) = some (less_no (takes b x l m i) (no_no (some (mark_takes 43 [] refl p m n j)) (bounds_no false d ys qs n k more)))

abbrev type_of : {A E : Type 0} → List A → parts.TypeParts (TypeParamBound A E) (TypeTree A E) → TypeParam A E
type_of a p = type_param_of a p.0 p.1 p.2 p.3

abbrev const_of : {A E : Type 0} → List A → parts.ConstParts (TypeTree A E) E → ConstParam A E
const_of a p = const_param_of a p.0 p.1 p.2 p.3 p.4

module _ {A E : Type 0} (attrs : Reader (List A)) (values : ReadValues E) (r : Readers A E) (part : Manner → Parts A E) (limit : ℕ) (meets : Meets r part limit) where
  up_to_end : BoundsMeet r part limit Anywhere ends_type
  up_to_end = bounds_meet r part limit meets Anywhere ends_type ends_type_goes

  any_met : (x : TypeTree A E) (l k : Toks) (f : Option Span) (e : Span) (sc : Scope) → ahead (at l f e sc) < limit → IsAnyType part clearly x l k → Over k → Reads_to (r (a_type Plus)) x l k f e sc
  any_met x l k f e sc h (any_type {e = b} i) o = meets.ty Plus b x l k f e sc h i (over_fits b k o) (λ p. o.no_plus)

  -- what may stand after a `:`
  record After (c : Option token.Colon) (w : Many (TypeParamBound A E) token.Plus) (l k : Toks) (f : Option Span) (e : Span) (sc : Scope) : Type 0 where
    between : Toks
    colon : Reads_to (optional token.sees_colon token.colon) c l between f e sc
    bounds : Reads_to (bounds_after ends_type (r (a_bound Parameter)) c) w between k f colon.last sc
    light : NoMore l k

  after_met : (c : Option token.Colon) (xs : List (TypeParamBound A E)) (ps : List token.Plus) (l k : Toks) (f : Option Span) (e : Span) (sc : Scope) → ahead (at l f e sc) ≤ limit → AreBoundsAfter part clearly c xs ps l k → BeforeDefault k →
      After c (xs, ps) l k f e sc
  after_met c xs ps l k f e sc h no_colon b = record { between = l; colon = absent_met token.sees_colon token.colon l f e sc b.no_colon; bounds = record { last = _; reads = refl }; light = same }
  after_met c xs ps l k f e sc h (after_colon {e = d} {c = q} {m = m} i j) b =
      let w = present_met token.sees_colon token.colon q l m f e sc (colon_seen q l m i) (colon_met q l m f e sc i) in
      let u = up_to_end d xs ps m k f w.last sc (later l m f f e w.last sc limit (colon_takes q l m i).lighter h) j (λ p. over_fits d k b.over) (λ first may. b.ends) in
      record { between = m; colon = w; bounds = record { last = u.last; reads = u.reads }; light = no_no (some (colon_takes q l m i)) (bounds_no part Parameter Anywhere (λ b y o z g. (meets.firsts.bound Parameter b y o z g).1) true d xs ps m k j) }

  -- an `Ident`, perhaps bounds, and perhaps a default
  type_after_met : (a : List A) (i : Ident) (c : Option token.Colon) (xs : List (TypeParamBound A E)) (ps : List token.Plus) (o : Option (token.Equals × TypeTree A E)) (m n k : Toks) (f : Option Span) (e : Span) (sc : Scope) →
      ahead (at (word i m) f e sc) ≤ limit → is_ident i.text ≡ true → AreBoundsAfter part clearly c xs ps m n → IsOptional (IsGiven true (IsAnyType part clearly)) o n k → ends_param k ≡ true →
      Reads_to (type_after attrs values r a) (type_param_of a i c (xs, ps) o) (word i m) k f e sc
  unfolding parts.type_parts
  type_after_met a i c xs ps o m n k f e sc h t j q z =
      let w = named_met is_ident i m f e sc t in
      let b = after_met c xs ps m n f w.last sc (no_later (word i m) m f f e w.last sc limit (some (word_less i m)) h) j (default_begins (IsAnyType part clearly) o n k q z) in
      let v = default_met (IsAnyType part clearly) (r (a_type Plus)) o n k f b.bounds.last sc q z
      (λ x y d less g. any_met x y k f d sc (later (word i m) y f f e d sc limit (no_less (some (word_less i m)) (no_less b.light less)).lighter h) g (param_over k z)) in
      let all : Reads_to (parts.type_parts (r (a_bound Parameter)) (r (a_type Plus))) (i, c, (xs, ps), o) (word i m) k f e sc = record { last = v.last; reads = link _ w.reads (link _ b.colon.reads (link _ b.bounds.reads (link _ v.reads refl))) } in
      mapped_met (type_of a) (parts.type_parts (r (a_bound Parameter)) (r (a_type Plus))) (i, c, (xs, ps), o) (word i m) k f e sc all

  -- `const`, an `Ident`, `:`, a type, and perhaps a default
  const_after_met : SuppliedMeets attrs values part → (a : List A) (w : token.Const) (i : Ident) (c : token.Colon) (x : TypeTree A E) (o : Option (token.Equals × E)) (l m n j k : Toks) (f : Option Span) (e : Span) (sc : Scope) →
      ahead (at l f e sc) ≤ limit → IsWord w l (word i m) → is_ident i.text ≡ true → IsMark true c m n → IsAnyType part clearly x n j → IsOptional (IsGiven true (part clearly).const_default) o j k → ends_param k ≡ true →
      Reads_to (const_after attrs values r a) (const_param_of a w i c x o) l k f e sc
  unfolding parts.const_parts
  const_after_met supplied a w i c x o l m n j k f e sc h is t q y z g =
      let u = word_complete {n = 6} w l (word i m) f e sc is in
      let v = named_met is_ident i m f u.last sc t in
      let b = colon_met c m n f v.last sc q in
      let less = less_less (word_takes w l (word i m) is) (less_less (word_less i m) (colon_takes c m n q)) in
      let s = any_met x n j f b.last sc (later l n f f e b.last sc limit less.lighter h) y (default_begins (part clearly).const_default o j k z g).over in
      let d = default_met (part clearly).const_default values.const_argument o j k f s.last sc z g (λ p y z a b. supplied.default p y k f z sc b) in
      let all : Reads_to (parts.const_parts (r (a_type Plus)) values.const_argument) (w, i, c, x, o) l k f e sc = record { last = d.last; reads = link _ u.reads (link _ v.reads (link _ b.reads (link _ s.reads (link _ d.reads refl)))) } in
      mapped_met (const_of a) (parts.const_parts (r (a_type Plus)) values.const_argument) (w, i, c, x, o) l k f e sc all

-- ---- what a parameter begins with, after its attributes

named_no_pound : (i : Ident) (k : Toks) → token.sees_pound (word i k) ≡ false
unfolding sees_mark
named_no_pound i k = refl

named_no_life : (i : Ident) (k : Toks) → sees_lifetime (word i k) ≡ false
unfolding sees_lifetime
named_no_life i k = refl

const_no_pound : (w : token.Const) (l k : Toks) → IsWord w l k → token.sees_pound l ≡ false
unfolding sees_mark
const_no_pound w l k is_word = refl

const_no_life : (w : token.Const) (l k : Toks) → IsWord w l k → sees_lifetime l ≡ false
unfolding sees_lifetime
const_no_life w l k is_word = refl

const_no_ident : (w : token.Const) (l k : Toks) → IsWord w l k → sees_ident l ≡ false
unfolding sees_word is_keyword
const_no_ident w l k is_word = refl

-- a bare `_`
bare_no_ident : (t : Bytes) → is_text token.underscore_text t ≡ true → is_ident t ≡ false
unfolding is_keyword
bare_no_ident t h = ap is_ident ((bytes_eq-Decides t token.underscore_text).0 h)

bare_no_const : (t : Bytes) → is_text token.underscore_text t ≡ true → is_text token.const_text t ≡ false
bare_no_const t h = ap (is_text token.const_text) ((bytes_eq-Decides t token.underscore_text).0 h)

-- ---- a parameter in its place

module _ {A E : Type 0} (attrs : Reader (List A)) (values : ReadValues E) (r : Readers A E) (place : ParamPlace) (a : List A) where
  abbrev Placed : GenericParam A E → Toks → Toks → Option Span → Span → Scope → Type 0
  Placed x l k f e sc = Reads_to (param_after attrs values r place a) x l k f e sc

module _ {A E : Type 0} (attrs : Reader (List A)) (values : ReadValues E) (r : Readers A E) (a : List A) where
  place_life : (place : ParamPlace) (x : LifetimeParamOf A) (l k : Toks) (f : Option Span) (e : Span) (sc : Scope) → sees_lifetime l ≡ true → sees_ident l ≡ false → Reads_to (lifetime_after attrs a) x l k f e sc → Placed attrs values r place a (g.Lifetime x) l k f e sc
  unfolding in_binder in_generics
  place_life Binder x l k f e sc h n q =
      let w = mapped_met (λ (z : LifetimeParamOf A). g.Lifetime z) (lifetime_after attrs a) x l k f e sc q in
      record { last = w.last; reads = chosen (sees_ident l) false _ _ (at l f e sc) _ n (chosen (sees_lifetime l) true _ _ (at l f e sc) _ h w.reads) }
  place_life Generics x l k f e sc h n q =
      let w = mapped_met (λ (z : LifetimeParamOf A). g.Lifetime z) (lifetime_after attrs a) x l k f e sc q in
      record { last = w.last; reads = chosen (sees_lifetime l) true _ _ (at l f e sc) _ h w.reads }

  place_type : (place : ParamPlace) (x : TypeParam A E) (l k : Toks) (f : Option Span) (e : Span) (sc : Scope) → sees_ident l ≡ true → sees_lifetime l ≡ false → Reads_to (type_after attrs values r a) x l k f e sc → Placed attrs values r place a (g.«Type» x) l k f e sc
  unfolding in_binder in_generics
  place_type Binder x l k f e sc h n q =
      let w = mapped_met (λ (z : TypeParam A E). g.«Type» z) (type_after attrs values r a) x l k f e sc q in
      record { last = w.last; reads = chosen (sees_ident l) true _ _ (at l f e sc) _ h w.reads }
  place_type Generics x l k f e sc h n q =
      let w = mapped_met (λ (z : TypeParam A E). g.«Type» z) (type_after attrs values r a) x l k f e sc q in
      record { last = w.last; reads = chosen (sees_lifetime l) false _ _ (at l f e sc) _ n (chosen (sees_ident l) true _ _ (at l f e sc) _ h w.reads) }

  place_const : (place : ParamPlace) (x : ConstParam A E) (l k : Toks) (f : Option Span) (e : Span) (sc : Scope) → token.sees_const l ≡ true → sees_ident l ≡ false → sees_lifetime l ≡ false → Reads_to (const_after attrs values r a) x l k f e sc →
      Placed attrs values r place a (g.Const x) l k f e sc
  unfolding in_binder in_generics
  place_const Binder x l k f e sc h n m q =
      let w = mapped_met (λ (z : ConstParam A E). g.Const z) (const_after attrs values r a) x l k f e sc q in
      record { last = w.last; reads = chosen (sees_ident l) false _ _ (at l f e sc) _ n (chosen (sees_lifetime l) false _ _ (at l f e sc) _ m (chosen (token.sees_const l) true _ _ (at l f e sc) _ h w.reads)) }
  place_const Generics x l k f e sc h n m q =
      let w = mapped_met (λ (z : ConstParam A E). g.Const z) (const_after attrs values r a) x l k f e sc q in
      record { last = w.last; reads = chosen (sees_lifetime l) false _ _ (at l f e sc) _ m (chosen (sees_ident l) false _ _ (at l f e sc) _ n (chosen (token.sees_const l) true _ _ (at l f e sc) _ h w.reads)) }

  place_bare : (i : Ident) (k : Toks) (f : Option Span) (e : Span) (sc : Scope) → is_text token.underscore_text i.text ≡ true → Placed attrs values r Generics a (g.«Type» (type_param_of a i None ([], []) None)) (word i k) k f e sc
  unfolding in_generics sees_word sees_lifetime
  place_bare i k f e sc h =
      let l = word i k in
      let w = mapped_met (λ (z : Ident). g.«Type» (type_param_of a z None ([], []) None)) (read_word any_text ident_name) i l k f e sc (named_met any_text i k f e sc refl) in
      record { last = w.last; reads = chosen (sees_ident l) false _ _ (at l f e sc) _ (bare_no_ident i.text h) (chosen (token.sees_const l) false _ _ (at l f e sc) _ (bare_no_const i.text h) (chosen (token.sees_underscore l) true _ _ (at l f e sc) _ h w.reads)) }

module _ {A E : Type 0} (attrs : Reader (List A)) (values : ReadValues E) (r : Readers A E) (part : Manner → Parts A E) (limit : ℕ) (meets : Meets r part limit) (supplied : SuppliedMeets attrs values part) where
  after_these : {B : Type 0} (after : List A → Reader B) (a : List A) (x : B) (l m k : Toks) (f : Option Span) (e : Span) (sc : Scope) → (part clearly).attrs a l m → token.sees_pound m ≡ false → ((d : Span) → Reads_to (after a) x m k f d sc) →
      Reads_to (attrs >>= after) x l k f e sc
  after_these after a x l m k f e sc i n h = after_attrs_met attrs part supplied.attrs_met after a x l m k f e sc i n h

  after_left : (a : List A) (l m : Toks) (f : Option Span) (e d : Span) (sc : Scope) → (part clearly).attrs a l m → ahead (at l f e sc) ≤ limit → ahead (at m f d sc) ≤ limit
  after_left a l m f e d sc i h = no_later l m f f e d sc limit (supplied.attrs_light a l m i) h

  -- constants by themselves
  pub const_param_met : (x : ConstParam A E) (l k : Toks) (f : Option Span) (e : Span) (sc : Scope) → ahead (at l f e sc) ≤ limit → IsConstParam part clearly x l k → ends_param k ≡ true → Reads_to (const_param attrs values r) x l k f e sc
  unfolding const_param
  const_param_met x l k f e sc h (a_const_param {a = a} {w = w} {i = i} {c = c} {x = y} {d = o} {m = m} {n = n} {k = j} {j = q} u is t s v z) b =
      after_these (const_after attrs values r) a x l m k f e sc u (const_no_pound w m (word i n) is) (λ d. const_after_met attrs values r part limit meets supplied a w i c y o m n j q k f d sc (after_left a l m f e d sc u h) is t s v z b)

  -- types by themselves
  pub type_param_met : (x : TypeParam A E) (l k : Toks) (f : Option Span) (e : Span) (sc : Scope) → ahead (at l f e sc) ≤ limit → IsTypeParam part clearly x l k → ends_param k ≡ true → Reads_to (type_param attrs values r) x l k f e sc
  unfolding type_param
  type_param_met x l k f e sc h (a_type_param {a = a} {i = i} {c = c} {xs = xs} {ps = ps} {d = o} {m = m} {n = n} u t s z) b =
      after_these (type_after attrs values r) a x l (word i m) k f e sc u (named_no_pound i m) (λ d. type_after_met attrs values r part limit meets a i c xs ps o m n k f d sc (after_left a l (word i m) f e d sc u h) t s z b)

  -- a turn of the knot
  pub param_met : (place : ParamPlace) (x : GenericParam A E) (l k : Toks) (f : Option Span) (e : Span) (sc : Scope) → ahead (at l f e sc) ≤ limit → IsParam part clearly place x l k → ends_param k ≡ true → Reads_to (param_step attrs values r place) x l k f e sc
  unfolding param_step sees_word
  param_met place x l k f e sc h (a_lifetime_param (a_lone_lifetime {a = a} {x = y} {m = m} i j)) b =
      after_these (param_after attrs values r place) a x l m k f e sc i (life_no_pound y m k j)
      (λ d. place_life attrs values r a place (lifetime_param_of a y None ([], [])) m k f d sc (lifetime_seen y m k j) (life_no_ident y m k j) (lone_met attrs a y m k f d sc j b))
  param_met place x l k f e sc h (a_lifetime_param (a_lifetime_with_bounds {a = a} {x = y} {c = c} {xs = xs} {ps = ps} {m = m} {n = n} {k = o} i j q t)) b =
      after_these (param_after attrs values r place) a x l m k f e sc i (life_no_pound y m n j)
      (λ d. place_life attrs values r a place (lifetime_param_of a y (Some c) (xs, ps)) m k f d sc (lifetime_seen y m n j) (life_no_ident y m n j) (bounded_met attrs a y c xs ps m n o k f d sc j q t b))
  param_met place x l k f e sc h (a_named_param (a_type_param {a = a} {i = i} {c = c} {xs = xs} {ps = ps} {d = o} {m = m} {n = n} u t s z)) b =
      after_these (param_after attrs values r place) a x l (word i m) k f e sc u (named_no_pound i m)
      (λ d. place_type attrs values r a place (type_param_of a i c (xs, ps) o) (word i m) k f d sc t (named_no_life i m) (type_after_met attrs values r part limit meets a i c xs ps o m n k f d sc (after_left a l (word i m) f e d sc u h) t s z b))
  param_met place x l k f e sc h (a_constant_param (a_const_param {a = a} {w = w} {i = i} {c = c} {x = y} {d = o} {m = m} {n = n} {k = j} {j = q} u is t s v z)) b =
      after_these (param_after attrs values r place) a x l m k f e sc u (const_no_pound w m (word i n) is)
      (λ d. place_const attrs values r a place (const_param_of a w i c y o) m k f d sc (word_seen {n = 6} w m (word i n) is) (const_no_ident w m (word i n) is) (const_no_life w m (word i n) is)
      (const_after_met attrs values r part limit meets supplied a w i c y o m n j q k f d sc (after_left a l m f e d sc u h) is t s v z b))
  param_met place x l k f e sc h (a_bare_param {a = a} {i = i} u t) b =
      after_these (param_after attrs values r place) a x l (word i k) k f e sc u (named_no_pound i k) (λ d. place_bare attrs values r a i k f d sc t)

-- ---- values in angle brackets

comma_no_gt : (c : token.Comma) (l k : Toks) → IsMark true c l k → sees_gt l ≡ false
unfolding sees_mark
comma_no_gt c l k (is_mark (last_char x)) = refl

-- They are read where they are spelt and less than the limit is left, before a comma and before a `>`; no `>` begins one, and each takes tokens.
module _ {X : Type 0} (value : Reader X) (P : Relation X) (limit : ℕ) (Follows : Toks → Type 0)
    (before_comma : (k : Toks) → token.sees_comma k ≡ true → Follows k) (before_gt : (k : Toks) → token.sees_gt k ≡ true → Follows k)
    (value_met : (x : X) (l k : Toks) (f : Option Span) (e : Span) (sc : Scope) → ahead (at l f e sc) < limit → P x l k → Follows k → Reads_to value x l k f e sc)
    (begins : (x : X) (l k : Toks) → P x l k → ItemBegins l × Less l k) where
  abbrev AreItems : List X → List token.Comma → Toks → Toks → Type 0
  AreItems = AreListed (λ (_ : Bool). P) (IsMark true) Anywhere true

  items_met : (xs : List X) (cs : List token.Comma) (l k : Toks) (f : Option Span) (e : Span) (sc : Scope) → ahead (at l f e sc) < limit → AreItems xs cs l k → token.sees_gt k ≡ true → Reads_to (terminated sees_gt value comma) (xs, cs) l k f e sc
  items_met xs cs l k f e sc h i s =
      listed_here (λ (_ : Bool). sees_gt) (λ (_ : Bool). value) (λ z. not (sees_gt z)) comma (λ (_ : Bool). P) (IsMark true) Anywhere Follows (λ z. ahead (at z None none sc) < limit) sc
      (λ b x m o u j w a d. value_met x m o a d sc u j w)
      (λ c m o j a d. comma_met c m o a d sc j)
      (λ c m o j. (before_comma m (mark_seen true {n = 4} {k = 1} c m o j), ap not (comma_no_gt c m o j)))
      (λ b x m o j. (begins x m o j).0.no_gt)
      (λ b x m o j. (begins x m o j).1.shorter)
      (λ c m o j. mark_size true {n = 4} {k = 1} c m o j)
      (λ b x c m o q j w u. let less = (begins x m o j).1.lighter in let le = comma_light c o q w in not_more m q None None none none sc limit (omega (arith, less, le)) u)
      true xs cs l k h i
      (record { follows = before_gt k s; over = ap not s; stops_there = λ b may. s }) f e

  pub angled_met : (o : token.Lt) (xs : List X) (cs : List token.Comma) (c : token.Gt) (l m n k : Toks) (f : Option Span) (e : Span) (sc : Scope) → ahead (at l f e sc) ≤ limit → IsMark true o l m → AreItems xs cs m n → IsMark true c n k →
      Reads_to (heads.angled value) (o, (xs, cs), c) l k f e sc
  unfolding heads.angled
  angled_met o xs cs c l m n k f e sc h i j q =
      let w = mark_complete true {n = 2} {k = 1} refl (omega arith) o l m f e sc i in
      let u = items_met xs cs m n f w.last sc (later l m f f e w.last sc limit (mark_takes 60 [] refl o l m i).lighter h) j (mark_seen true {n = 3} {k = 1} c n k q) in
      let v = mark_complete true {n = 3} {k = 1} refl (omega arith) c n k f u.last sc q in
      record { last = v.last; reads = link _ w.reads (link _ u.reads (link _ v.reads refl)) }

-- ---- binders, and the generics of a declaration

comma_ends : (k : Toks) → token.sees_comma k ≡ true → ends_param k ≡ true
unfolding ends_constraint
comma_ends k h = ap (λ b. (b || token.sees_gt k) || is_done k) h

or_right : (a b : Bool) → b ≡ true → a || b ≡ true
or_right true b h = refl
or_right false b h = h

gt_ends : (k : Toks) → token.sees_gt k ≡ true → ends_param k ≡ true
unfolding ends_constraint
gt_ends k h = ap (λ b. b || is_done k) (or_right (token.sees_comma k) (token.sees_gt k) h)

module _ {A E : Type 0} (r : Readers A E) (part : Manner → Parts A E) (limit : ℕ) (meets : Meets r part limit) where
  pub params_met : (place : ParamPlace) (o : token.Lt) (xs : List (GenericParam A E)) (cs : List token.Comma) (c : token.Gt) (l m n k : Toks) (f : Option Span) (e : Span) (sc : Scope) → ahead (at l f e sc) ≤ limit →
      IsMark true o l m → AreListed (λ (_ : Bool). (part clearly).param place) (IsMark true) Anywhere true xs cs m n → IsMark true c n k → Reads_to (heads.angled (r (a_param place))) (o, (xs, cs), c) l k f e sc
  params_met place = angled_met (r (a_param place)) ((part clearly).param place) limit (λ k. ends_param k ≡ true) comma_ends gt_ends (meets.param place) (meets.firsts.param place)

  abbrev binder_of : token.For × heads.Angled (GenericParam A E) → BoundLifetimes A E
  binder_of p = bound_lifetimes_of p.0 p.1.0 p.1.1 p.1.2

  pub binder_met : (x : BoundLifetimes A E) (l k : Toks) (f : Option Span) (e : Span) (sc : Scope) → ahead (at l f e sc) ≤ limit → IsFor part clearly x l k → Reads_to (binder r) x l k f e sc
  unfolding binder heads.binder
  binder_met x l k f e sc h (a_binder {f = w} {o = o} {xs = xs} {cs = cs} {c = c} {m = m} {n = n} {k = j} is i q s) =
      let u = word_complete {n = 10} w l m f e sc is in
      let v = params_met Binder o xs cs c m n j k f u.last sc (no_later l m f f e u.last sc limit (some (word_takes w l m is)) h) i q s in
      let all : Reads_to (heads.binder (r (a_param Binder))) (w, (o, (xs, cs), c)) l k f e sc = record { last = v.last; reads = link _ u.reads (link _ v.reads refl) } in
      mapped_met binder_of (heads.binder (r (a_param Binder))) (w, (o, (xs, cs), c)) l k f e sc all

  pub for_seen : (x : BoundLifetimes A E) (l k : Toks) → IsFor part clearly x l k → token.sees_for l ≡ true
  for_seen x l k (a_binder {f = w} {m = m} is i q s) = word_seen {n = 10} w l m is

  -- where there is none, before what is no `for`
  pub optional_binder_met : (o : Option (BoundLifetimes A E)) (l k : Toks) (f : Option Span) (e : Span) (sc : Scope) → ahead (at l f e sc) ≤ limit → IsOptional (IsFor part clearly) o l k → (o ≡ None → token.sees_for k ≡ false) → Reads_to (optional_binder r) o l k f e sc
  unfolding optional_binder
  optional_binder_met o l k f e sc h absent n = absent_met token.sees_for (binder r) l f e sc (n refl)
  optional_binder_met o l k f e sc h (present {a = x} i) n = present_met token.sees_for (binder r) x l k f e sc (for_seen x l k i) (binder_met x l k f e sc h i)

-- ---- by themselves: what they hold is read by the knot, further on

module _ {A E : Type 0} (attrs : Reader (List A)) (values : ReadValues E) (part : Manner → Parts A E) (meets : (limit : ℕ) → Meets (reads_below attrs values limit) part limit) where
  pub binder_alone_met : (x : BoundLifetimes A E) (l k : Toks) (f : Option Span) (e : Span) (sc : Scope) → IsFor part clearly x l k → Reads_to (knot.binder attrs values) x l k f e sc
  unfolding knot.binder
  binder_alone_met x l k f e sc i =
      let limit = ahead (at l f e sc) in
      let u = binder_met (reads_below attrs values limit) part limit (meets limit) x l k f e sc (omega arith) i in
      record { last = u.last; reads = u.reads }

  pub optional_binder_alone_met : (o : Option (BoundLifetimes A E)) (l k : Toks) (f : Option Span) (e : Span) (sc : Scope) → IsOptional (IsFor part clearly) o l k → (o ≡ None → token.sees_for k ≡ false) → Reads_to (knot.optional_binder attrs values) o l k f e sc
  unfolding knot.optional_binder
  optional_binder_alone_met o l k f e sc i n =
      let limit = ahead (at l f e sc) in
      let u = optional_binder_met (reads_below attrs values limit) part limit (meets limit) o l k f e sc (omega arith) i n in
      record { last = u.last; reads = u.reads }

  module _ (supplied : SuppliedMeets attrs values part) where
    pub const_param_alone_met : (x : ConstParam A E) (l k : Toks) (f : Option Span) (e : Span) (sc : Scope) → IsConstParam part clearly x l k → ends_param k ≡ true → Reads_to (knot.const_param attrs values) x l k f e sc
    unfolding knot.const_param
    const_param_alone_met x l k f e sc i b =
        let limit = ahead (at l f e sc) in
        let u = const_param_met attrs values (reads_below attrs values limit) part limit (meets limit) supplied x l k f e sc (omega arith) i b in
        record { last = u.last; reads = u.reads }

    pub type_param_alone_met : (x : TypeParam A E) (l k : Toks) (f : Option Span) (e : Span) (sc : Scope) → IsTypeParam part clearly x l k → ends_param k ≡ true → Reads_to (knot.type_param attrs values) x l k f e sc
    unfolding knot.type_param
    type_param_alone_met x l k f e sc i b =
        let limit = ahead (at l f e sc) in
        let r = reads_below attrs values limit in
        let u = type_param_met attrs values r part limit (meets limit) supplied x l k f e sc (omega arith) i b in
        record { last = u.last; reads = u.reads }
