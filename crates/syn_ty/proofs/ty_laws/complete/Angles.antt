-- Arguments in angle brackets that a list spells clearly are what their reads answer, over the reads of the arguments: with a `::` or without it, and as the arguments of a segment.
use Rattle.std.proofs.Common.{◌≡◌, ℕ, ◌<◌, ◌≤◌, Bool, true, false, not, List, Option, Some, None, refl, sym, ◌∙◌, ap, arith}
use Rattle.std.proofs.lemmas.Bool.{true≢false}
use Rattle.syn_ty.proofs.ty_laws.words.Tokens.{Span, AreListed, Anywhere, terminated, optional, sees_mark, none, IsMark, is_mark, last_char, more_chars, Scope, Toks}
use Rattle.syn_ty.proofs.ty_laws.words.Paths.{Expr, sees_sep, sep}
use Rattle.syn_ty.proofs.ty_laws.words.Forms.{ahead, comma, sees_gt}
use Rattle.syn_ty.proofs.ty_laws.words.Types.{Sep, angle_of, arguments_step, ends_constraint, Styled, IsAngle, an_angle, IsArguments, Manner, clearly, Parts, Readers, an_argument, IsOptional, absent, present, AngleBracketed, GenericArgument, PathArguments}
use Rattle.token_core.specs.Tokens as token
use Rattle.token_core.proofs.MarkSpells.{mark_complete, mark_seen, mark_size}
use Rattle.token_core.proofs.Steps.{Reads_to, chosen, link}
use Rattle.token_core.proofs.Took.{at}
use Rattle.syn_forms.specs.heads.Reading as heads
use Rattle.syn_forms.proofs.lists_laws.Complete.{listed_here}
use Rattle.syn_forms.proofs.nested_laws.Ahead.{ahead-is, weight}
use Rattle.syn_ty.specs.path.Reading.{angle_bracketed, arguments_after, turbofish}
use Rattle.syn_ty.specs.path.Spelling.{some_arguments}
use Rattle.syn_ty.proofs.ty_laws.complete.Leaves.{comma_light, later, not_more}
use Rattle.syn_ty.proofs.ty_laws.complete.Within.{Less, Meets, NoMore}

-- ---- marks

-- a comma and a `>` end an argument
comma_ends : (c : token.Comma) (l r : Toks) → IsMark true c l r → ends_constraint l ≡ true
unfolding ends_constraint sees_mark
comma_ends c l r (is_mark (last_char x)) = refl

pub gt_ends : (c : token.Gt) (l r : Toks) → IsMark true c l r → ends_constraint l ≡ true
unfolding ends_constraint sees_mark
gt_ends c l r (is_mark (last_char x)) = refl

no_gt_comma : (c : token.Comma) (l r : Toks) → IsMark true c l r → sees_gt l ≡ false
unfolding sees_mark
no_gt_comma c l r (is_mark (last_char x)) = refl

pub lt_less : (c : token.Lt) (l r : Toks) → IsMark true c l r → Less l r
lt_less c l r (is_mark (last_char x)) = record { lighter = omega arith; shorter = omega arith }

pub gt_less : (c : token.Gt) (l r : Toks) → IsMark true c l r → Less l r
gt_less c l r (is_mark (last_char x)) = record { lighter = omega arith; shorter = omega arith }

pub sep_less : (c : Sep) (l r : Toks) → IsMark true c l r → Less l r
sep_less c l r (is_mark (more_chars (last_char x))) = record { lighter = omega arith; shorter = omega arith }

pub lt_no_sep : (c : token.Lt) (l r : Toks) → IsMark true c l r → sees_sep l ≡ false
unfolding sees_mark
lt_no_sep c l r (is_mark (last_char x)) = refl

pub sep_reads : (c : Sep) (l r : Toks) (f : Option Span) (e : Span) (sc : Scope) → IsMark true c l r → Reads_to sep c l r f e sc
sep_reads c l r f e sc i = mark_complete true {n = 1} {k = 2} refl (omega arith) c l r f e sc i

-- a `::` that may be there leaves no more tokens
pub optional_sep_light : (o : Option Sep) (l r : Toks) → IsOptional (IsMark true) o l r → NoMore l r
optional_sep_light o l r absent = record { light = omega arith; short = omega arith }
optional_sep_light o l r (present {a = c} i) = let h = sep_less c l r i in let g = h.lighter in let k = h.shorter in record { light = omega (arith, g); short = omega (arith, k) }

-- where no more tokens stand, no more is left
pub no_further : (l k : Toks) (f g : Option Span) (d e : Span) (sc : Scope) (limit : ℕ) → weight k ≤ weight l → ahead (at l f d sc) ≤ limit → ahead (at k g e sc) ≤ limit
no_further l k f g d e sc limit h lim =
    let x = ahead-is (at l f d sc) in
    let y = ahead-is (at k g e sc) in
    omega (arith, h, lim, x, y)

-- ---- the reads

module _ {A E : Type 0} (part : Manner → Parts A E) where
  -- arguments joined by commas
  abbrev Arguments : Bool → List (GenericArgument A E) → List token.Comma → Toks → Toks → Type 0
  Arguments = AreListed (λ (_ : Bool). (part clearly).argument) (IsMark true) Anywhere

module _ {A E : Type 0} (r : Readers A E) (part : Manner → Parts A E) (limit : ℕ) (meets : Meets r part limit) where
  -- up to the `>`
  listed_met : (xs : List (GenericArgument A E)) (cs : List token.Comma) (l k : Toks) (f : Option Span) (e : Span) (sc : Scope) → ahead (at l f e sc) < limit → Arguments part true xs cs l k →
      sees_gt k ≡ true → ends_constraint k ≡ true → Reads_to (terminated sees_gt (r an_argument) comma) (xs, cs) l k f e sc
  listed_met xs cs l k f e sc h i seen ends =
      listed_here (λ (_ : Bool). sees_gt) (λ (_ : Bool). r an_argument) (λ l. not (sees_gt l)) comma (λ (_ : Bool). (part clearly).argument) (IsMark true) Anywhere (λ l. ends_constraint l ≡ true) (λ l. ahead (at l none_here none sc) < limit) sc
      (λ b x l m u i g a d. meets.argument x l m a d sc u i g)
      (λ c l m i a d. mark_complete true {n = 4} {k = 1} refl (omega arith) c l m a d sc i)
      (λ c l m i. (comma_ends c l m i, ap not (no_gt_comma c l m i)))
      (λ b x l m i. (meets.firsts.argument x l m i).0.no_gt)
      (λ b x l m i. (meets.firsts.argument x l m i).1.shorter)
      (λ c l m i. mark_size true {n = 4} {k = 1} c l m i)
      (λ b x c l m n i j u. let less = (meets.firsts.argument x l m i).1.lighter in let le = comma_light c m n j in not_more l n none_here none_here none none sc limit (omega (arith, less, le)) u)
      true xs cs l k h i (record { follows = ends; over = ap not seen; stops_there = λ b may. seen }) f e
    where
      none_here : Option Span
      none_here = None

  angled_met : (o : token.Lt) (xs : List (GenericArgument A E)) (cs : List token.Comma) (g : token.Gt) (l m n k : Toks) (f : Option Span) (e : Span) (sc : Scope) → ahead (at l f e sc) ≤ limit → IsMark true o l m →
      Arguments part true xs cs m n → IsMark true g n k → Reads_to (heads.angled (r an_argument)) (o, (xs, cs), g) l k f e sc
  unfolding heads.angled
  angled_met o xs cs g l m n k f e sc h i v j =
      let a = mark_complete true {n = 2} {k = 1} refl (omega arith) o l m f e sc i in
      let u = listed_met xs cs m n f a.last sc (later l m f f e a.last sc limit (lt_less o l m i).lighter h) v (mark_seen true {n = 3} {k = 1} g n k j) (gt_ends g n k j) in
      let b = mark_complete true {n = 3} {k = 1} refl (omega arith) g n k f u.last sc j in
      record { last = b.last; reads = link _ a.reads (link _ u.reads (link _ b.reads refl)) }

  -- after a `::` that was read, or none
  pub arguments_after_met : (c : Option Sep) (o : token.Lt) (xs : List (GenericArgument A E)) (cs : List token.Comma) (g : token.Gt) (l m n k : Toks) (f : Option Span) (e : Span) (sc : Scope) → ahead (at l f e sc) ≤ limit →
      IsMark true o l m → Arguments part true xs cs m n → IsMark true g n k → Reads_to (arguments_after r c) (angle_of c o (xs, cs) g) l k f e sc
  arguments_after_met c o xs cs g l m n k f e sc h i v j = let u = angled_met o xs cs g l m n k f e sc h i v j in record { last = u.last; reads = link _ u.reads refl }

  optional_sep_met : (c : Option Sep) (o : token.Lt) (l m k : Toks) (f : Option Span) (e : Span) (sc : Scope) → IsOptional (IsMark true) c l m → IsMark true o m k → Reads_to (optional sees_sep sep) c l m f e sc
  optional_sep_met c o l m k f e sc absent i = record { last = e; reads = chosen (sees_sep l) false _ _ (at l f e sc) _ (lt_no_sep o l k i) refl }
  optional_sep_met c o l m k f e sc (present {a = s} j) i =
      let u = sep_reads s l m f e sc j in
      record { last = u.last; reads = chosen (sees_sep l) true _ _ (at l f e sc) _ (mark_seen true {n = 1} {k = 2} s l m j) (link _ u.reads refl) }

  pub angle_met : (x : AngleBracketed A E) (l k : Toks) (f : Option Span) (e : Span) (sc : Scope) → ahead (at l f e sc) ≤ limit → IsAngle part clearly x l k → Reads_to (angle_bracketed r) x l k f e sc
  unfolding angle_bracketed
  angle_met x l k f e sc h (an_angle {c = c} {o = o} {xs = xs} {cs = cs} {g = g} {m = m} {n = n} {k = j} i d v q) =
      let u = optional_sep_met c o l m n f e sc i d in
      let w = arguments_after_met c o xs cs g m n j k f u.last sc (no_further l m f f e u.last sc limit (optional_sep_light c l m i).light h) d v q in
      record { last = w.last; reads = link _ u.reads w.reads }

  -- where the `::` is needed, it is there
  pub turbofish_met : (x : AngleBracketed A E) (l k : Toks) (f : Option Span) (e : Span) (sc : Scope) → ahead (at l f e sc) ≤ limit → IsAngle part clearly x l k → Styled Expr l → Reads_to (turbofish r) x l k f e sc
  unfolding turbofish
  turbofish_met x l k f e sc h (an_angle {o = o} {n = n} absent d v q) s = absurd (true≢false (sym s ∙ lt_no_sep o l n d))
  turbofish_met x l k f e sc h (an_angle {o = o} {xs = xs} {cs = cs} {g = g} {m = m} {n = n} {k = j} (present {a = c} i) d v q) s =
      let u = sep_reads c l m f e sc i in
      let w = arguments_after_met (Some c) o xs cs g m n j k f u.last sc (no_further l m f f e u.last sc limit (optional_sep_light (Some c) l m (present i)).light h) d v q in
      record { last = w.last; reads = link _ u.reads w.reads }

  -- a turn of the knot
  pub arguments_met : (x : PathArguments A E) (l k : Toks) (f : Option Span) (e : Span) (sc : Scope) → ahead (at l f e sc) ≤ limit → IsArguments part clearly x l k → Reads_to (arguments_step r) x l k f e sc
  unfolding arguments_step
  arguments_met x l k f e sc h (some_arguments {x = y} i) = let u = angle_met y l k f e sc h i in record { last = u.last; reads = link _ u.reads refl }
