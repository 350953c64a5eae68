-- What is known of the reads that a pattern holds: each took what its answer spells, where nothing follows that a lone word was taken for a path by; and the same of paths, types, attributes and supplied subtrees.
use Rattle.std.proofs.Common.{◌≡◌, ℕ, Bool, true, false, not, ◌&&◌, ◌||◌, ◌⊎◌, ◌==◌, if◌then◌else◌, inl, inr, List, Option, None, is_some, Ok, refl, ap}
use Rattle.std.proofs.lemmas.Bool.{eqb-true}
use Rattle.syn_pat.proofs.pat_laws.words.Tokens.{Punct, Word, AreListed, none_left, last_value, value_and_mark, Reader, leaves, sees_mark, Visible, last_char, IsMark, is_mark, IsWord, is_word, Stream, Toks, done, word, mark, lit, group, enter, leave, punct}
use Rattle.syn_pat.proofs.pat_laws.words.Paths.{Place, Block, Guard, Along}
use Rattle.syn_pat.proofs.pat_laws.words.Forms.{Plus}
use Rattle.syn_pat.proofs.pat_laws.words.Attributes.{outer, Expr}
use Rattle.syn_pat.proofs.pat_laws.words.Types.{IsAnyPath, Manner, loosely, Relation, Path, QSelf, TypeTree}
use Rattle.syn_pat.proofs.pat_laws.words.Patterns.{PatPlace, Attrs, Pat, Readers, qpath, outer_spelt, types_to}
use Rattle.token_core.specs.Tokens as token
use Rattle.syn_path.proofs.Words.{TookOne}
use Rattle.syn_path.specs.declared.path.PathStyle.TheVariants.{Expr as expressions}
use Rattle.syn_attr.specs.attr.Attrs.{Attribute as Attr}
use Rattle.syn_ty.proofs.ty_laws.sound.Forms.{Told}
use Rattle.syn_pat.specs.pat.Knot as knot
pub use Rattle.syn_pat.specs.pat.Fronts.{sees_called, is_lone}
use Rattle.syn_pat.specs.pat.Admitted.{nowhere}

-- ---- truths joined by `or` and `and`

pub or_left : (b c : Bool) → b ≡ true → b || c ≡ true
or_left true c h = refl
or_left false c h = cc h

pub or_right : (b c : Bool) → c ≡ true → b || c ≡ true
or_right true c h = refl
or_right false c h = h

pub or_none : (b c : Bool) → b ≡ false → c ≡ false → b || c ≡ false
or_none true c h k = cc h
or_none false c h k = k

pub and_second : (b c : Bool) → b && c ≡ true → c ≡ true
and_second true c h = h
and_second false c h = cc h

pub not_false : (b : Bool) → not b ≡ true → b ≡ false
not_false true h = cc h
not_false false h = refl

pub not_true : (b : Bool) → not b ≡ false → b ≡ true
not_true true h = refl
not_true false h = cc h

-- ---- what stops a pattern

-- Neither `::` before parentheses follows, nor `!=`.
abbrev pub Stops : Toks → Type 0
Stops r = (sees_called r ≡ false) × (token.sees_ne r ≡ false)

-- what it spells where it stops
abbrev pub Before : {A : Type 0} → (Toks → Type 0) → Relation A → Relation A
Before stops Is x l r = stops r → Is x l r

pub done_stops : Stops done
unfolding sees_mark
done_stops = (refl, refl)

pub word_stops : {n : ℕ} (w : Word n) (l r : Toks) → IsWord w l r → Stops l
unfolding sees_mark
word_stops w l r is_word = (refl, refl)

pub comma_stops : (c : token.Comma) (l r : Toks) → IsMark false c l r → Stops l
unfolding sees_mark
comma_stops c l r (is_mark (last_char h)) = (refl, refl)

pub bar_stops : (c : token.Bar) (l r : Toks) → IsMark false c l r → Stops l
unfolding sees_mark
bar_stops c l r (is_mark (last_char h)) = (refl, refl)

-- Where a path may be a lone word, and before what else a pattern is told: all that forms put behind one, and the end.
pub record Stopping (lone : Toks → Bool) : Type 1 where
  pub stops : Toks → Type 0
  pub at_done : stops done
  pub at_comma : (c : token.Comma) (l r : Toks) → IsMark false c l r → stops l
  pub at_bar : (c : token.Bar) (l r : Toks) → IsMark false c l r → stops l
  pub is_told : (l : Toks) → stops l → (lone l ≡ true) ⊎ Stops l

-- it is told before what stops it, where a path is a lone word nowhere
abbrev pub admitted : Stopping nowhere
admitted = record { stops = Stops; at_done = done_stops; at_comma = comma_stops; at_bar = bar_stops; is_told = λ l h. inr h }

neither : (b c : Bool) → b || c ≡ false → (b ≡ false) × (c ≡ false)
neither true c h = cc h
neither false true h = cc h
neither false false h = (refl, refl)

-- where no lone word is a path it stops
pub not_lone : (l : Toks) → is_lone l ≡ false → Stops l
not_lone l h = neither (sees_called l) (token.sees_ne l) h

pub stops_or_lone : (b c : Bool) → (b || c ≡ true) ⊎ ((b ≡ false) × (c ≡ false))
stops_or_lone true c = inl refl
stops_or_lone false true = inl refl
stops_or_lone false false = inr (refl, refl)

-- it is told before everything, where a path may be a lone word before what does not stop it
abbrev pub on_fronts : Stopping is_lone
on_fronts = record { stops = λ l. Unit {0}; at_done = tt; at_comma = λ c l r i. tt; at_bar = λ c l r i. tt; is_told = λ l h. stops_or_lone (sees_called l) (token.sees_ne l) }

-- before `..` no `::` stands
dots_at : (p : Punct) (k : Toks) → p.ch ≡ 46 → token.sees_path_sep (mark p k) ≡ false
unfolding sees_mark
dots_at p k h = ap (λ c. token.sees_path_sep (mark (punct c p.spacing p.span) k)) h

pub chosen_some : {A : Type 0} (b : Bool) (o : Option A) → is_some (if b then o else None) ≡ true → b ≡ true
chosen_some true o h = refl
chosen_some false o h = cc h

pub dots_no_sep : (l : Toks) → token.sees_dot_dot l ≡ true → token.sees_path_sep l ≡ false
unfolding sees_mark
dots_no_sep done h = refl
dots_no_sep (word i k) h = refl
dots_no_sep (mark p k) h = dots_at p k (eqb-true p.ch 46 (chosen_some (p.ch == 46) _ h))
dots_no_sep (lit x k) h = refl
dots_no_sep (group d s c k) h = refl
dots_no_sep (enter s k) h = dots_no_sep k h
dots_no_sep (leave k) h = dots_no_sep k h

-- a list of what stops at each mark
module _ {A P : Type 0} (V : Relation A) (M : Relation P) (Ends : Bool → Type 0) (Stop : Toks → Type 0) (stops : (p : P) (l r : Toks) → M p l r → Stop l) where
  pub listed_before : (b : Bool) (xs : List A) (ps : List P) (l r : Toks) → Stop r → AreListed (λ (_ : Bool). Before Stop V) M Ends b xs ps l r → AreListed (λ (_ : Bool). V) M Ends b xs ps l r
  listed_before b xs ps l r h (none_left may) = none_left may
  listed_before b xs ps l r h (last_value v) = last_value (v h)
  listed_before b xs ps l r h (value_and_mark {p = p} {xs = ys} {ps = qs} {m = m} {k = k} v i j) = value_and_mark (v (stops p m k i)) i (listed_before false ys qs k r h j)

-- ---- what was taken after tokens that were read before

pub record TookOn (s t : Stream) (P : Type 0) : Type 0 where
  pub left : t.left ≡ None → s.left ≡ None
  pub seen : Visible t.rest
  pub told : t.left ≡ None → P

-- ---- what is known

-- a path that a type may qualify
abbrev pub AnyPath : Type 0 → Type 0
AnyPath X = Option (QSelf (Attr X) (Expr X)) × Path (Attr X) (Expr X)

module _ {X : Type 0} where
  -- of the patterns within
  pub record Held (stops : Toks → Type 0) (r : Readers X) (part : Manner → PatPlace → Relation (Pat X)) : Type 0 where
    pub took : (p : PatPlace) (s t : Stream) (x : Pat X) → Visible s.rest → r p s ≡ Ok (x, t) → TookOne (Before stops (part loosely p)) s t x
    pub along : (p : PatPlace) → Along (r p)

  module _ (spells : Place → X → Toks → Type 0) where
    -- in the style of expressions, also one that begins with `try`
    abbrev pub IsSomePath : AnyPath X → Toks → Toks → Type 0
    IsSomePath y l r = (n : ℕ) × IsAnyPath (types_to spells n) loosely expressions y.0 y.1 l r

    -- a type with plus
    abbrev pub IsSomeType : TypeTree (Attr X) (Expr X) → Toks → Toks → Type 0
    IsSomeType x l r = (n : ℕ) × Told ((types_to spells n loosely).ty Plus) x l r

  -- of paths, types, attributes and supplied subtrees
  pub record SuppliedTold (supplied : Place → Reader X) (spells : Place → X → Toks → Type 0) : Type 0 where
    pub path : (s t : Stream) (x : AnyPath X) → Visible s.rest → qpath supplied s ≡ Ok (x, t) → TookOne (IsSomePath spells) s t x
    pub ty : (s t : Stream) (x : TypeTree (Attr X) (Expr X)) → Visible s.rest → knot.ty supplied s ≡ Ok (x, t) → TookOne (IsSomeType spells) s t x
    pub attrs : (s t : Stream) (x : Attrs X) → Visible s.rest → outer supplied s ≡ Ok (x, t) → TookOne (outer_spelt spells false) s t x
    -- the body of a const block is all of what its braces hold
    pub body : (s t : Stream) (x : X) → Visible s.rest → supplied Block s ≡ Ok (x, t) → leaves t ≡ None → spells Block x s.rest
    -- and a guard all of what is left
    pub guard : (s t : Stream) (x : X) → Visible s.rest → supplied Guard s ≡ Ok (x, t) → leaves t ≡ None → (s.left ≡ None) × spells Guard x s.rest
    pub path_along : Along (qpath supplied)
    pub attrs_along : Along (outer supplied)
