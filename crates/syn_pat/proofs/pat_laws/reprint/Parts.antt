-- What a pattern is made of prints its normal form clearly, where what is supplied does: what is held, what stands in a group, const blocks, paths, ends of ranges and ranges.
use Rattle.syn_pat.specs.pat.Printing.{path_shown}
use Rattle.std.proofs.Common.{◌≡◌, ℕ, Bool, true, false, List, [], ◌++◌, Option, Some, None, refl, sym, ◌∙◌, ap, subst, append-nil}
use Rattle.syn_pat.proofs.pat_laws.words.Tokens.{Lit, RangeLimits, DelimSpan, Delimiter, Brace, Print, Visible, Word, AreListed, none_left, last_value, value_and_mark, sees_mark, last_char, IsLit, IsMark, is_mark, IsWord, is_word, AreLimits, AreOldLimits, new_limits, old_limits, Toks, done, group, TokenStream, row, trees}
use Rattle.syn_pat.proofs.pat_laws.words.Paths.{Place, Block, Guard, Reprints}
use Rattle.syn_pat.proofs.pat_laws.words.Attributes.{lit_of, normal_values_of, values_of, Expr, ExprConstOf}
use Rattle.syn_pat.proofs.pat_laws.words.Types.{Manner, plainly, clearly, IsVerbatim, AreMarked, no_further, one_further, Comma, Path, QSelf}
use Rattle.syn_pat.proofs.pat_laws.words.Patterns.{PatRange, PatRangeBound, pat_range_of, path_pat_of, outer_spelt, values_spelt, types_to, IsConstBlock, a_const_block, IsPatPath, a_pat_path, IsHead, IsEnd, a_literal_end, a_path_end, a_const_end, IsStart, a_literal_start, a_path_start, a_const_start, IsRange, without_end, without_start, with_both, is_self, lone_word}
use Rattle.token_core.specs.declared.range.RangeLimits.TheVariants as limits
use Rattle.token_core.specs.Groups as groups
use Rattle.token_core.specs.Lits as lits
use Rattle.token_core.specs.Prints as p
use Rattle.token_core.specs.Ranges as ranges
use Rattle.token_core.specs.Rebuilt.{IsVisible}
use Rattle.token_core.specs.Tokens as token
use Rattle.token_core.specs.Trees.{stream_of_trees}
use Rattle.token_core.proofs.LimitSpells.{limits_again, limits_visible, limits_whole, old_limits_again, old_limits_visible}
use Rattle.token_core.proofs.MarkSpells.{mark_whole}
use Rattle.token_core.proofs.LitSpells.{lit_again, lit_visible, lit_whole}
use Rattle.syn_path.specs.declared.path.PathStyle.TheVariants.{Expr as expressions}
use Rattle.syn_path.specs.Ends.{Calm, Ended, Moved, NoBang, Shut}
use Rattle.syn_path.proofs.Ends.{calm_of}
use Rattle.syn_path.proofs.Moves.{row_before}
use Rattle.syn_path.proofs.Words.{Again, AgainFront, row-group}
use Rattle.syn_attr.specs.attr.Attrs.{Attribute as Attr, const_of}
use Rattle.syn_attr.specs.attr.Normal as attr
use Rattle.syn_attr.specs.attr.Printing as shown
use Rattle.syn_forms.proofs.tokens_laws.Mutability.{word_front}
use Rattle.syn_ty.specs.path.Spelling.{IsNoTry}
use Rattle.syn_ty.specs.ty.Normal as types
use Rattle.syn_ty.specs.ty.Printing as texts
use Rattle.syn_ty.proofs.ty_laws.reprint.Angles.{Then, then_front, made_front}
use Rattle.syn_ty.proofs.ty_laws.reprint.Knot.{GivenAgain, Known, known_to}
use Rattle.syn_ty.proofs.ty_laws.reprint.Paths.{styled_to}
use Rattle.syn_ty.proofs.ty_laws.reprint.Qualified.{no_try_again}
use Rattle.syn_ty.proofs.ty_laws.reprint.Leaves.{mark_front}
use Rattle.syn_ty.proofs.ty_laws.reprint.Steps.{row_seen, row_visible}
use Rattle.syn_pat.specs.declared.pat.PatRangeBoundOf.TheVariants as b
use Rattle.syn_pat.specs.pat.Normal as normal
use Rattle.syn_pat.specs.pat.Printing as printing
use Rattle.syn_pat.proofs.pat_laws.reprint.Kinds.{lone_kept}
use Rattle.syn_pat.proofs.pat_laws.reprint.PatsMove.{NoDots}

-- ---- before nothing; and what else is known of the normal form

module _ {A : Type 0} {S : A → Toks → Toks → Type 0} {n : A → A} {f : A → Print} where
  pub at_end : {x : A} {l : Toks} → AgainFront S n f x l done → Again (λ y m. S y m done) n f x l
  at_end k = record { spelt = k.spelt done; visible = λ u. k.visible done u tt; stays = k.stays; same = k.same }

  pub also_front : (P : A → Type 0) {x : A} {l r : Toks} → P (n x) → AgainFront S n f x l r → AgainFront (λ (y : A) (l r : Toks). S y l r × P y) n f x l r
  also_front P h k = record { spelt = λ o. (k.spelt o, h); visible = k.visible; seen = k.seen; stays = k.stays; same = k.same }

-- ---- before what no longer mark begins with `..`

-- what is so there
abbrev pub Stopped : {A : Type 0} → (A → Toks → Toks → Type 0) → A → Toks → Toks → Type 0
Stopped Is x l r = NoDots r → Is x l r

-- nothing follows
pub stops_done : NoDots done
unfolding sees_mark
stops_done = refl

module _ {A : Type 0} {S : A → Toks → Toks → Type 0} {n : A → A} {f : A → Print} where
  pub stopped : {x : A} {l r : Toks} → AgainFront S n f x l r → AgainFront (Stopped S) n f x l r
  stopped k = record { spelt = λ o h. k.spelt o; visible = k.visible; seen = k.seen; stays = k.stays; same = k.same }

-- a comma, a `|`, a colon or a word follows

pub comma_stops : (c : Comma) (l r : Toks) → IsMark true c l r → NoDots l
unfolding sees_mark
comma_stops c l r (is_mark (last_char h)) = refl

pub bar_stops : (c : token.Bar) (l r : Toks) → IsMark true c l r → NoDots l
unfolding sees_mark
bar_stops c l r (is_mark (last_char h)) = refl

pub colon_stops : (c : token.Colon) (l r : Toks) → IsMark true c l r → NoDots l
unfolding sees_mark
colon_stops c l r (is_mark (last_char h)) = refl

pub word_stops : {n : ℕ} (w : Word n) (l r : Toks) → IsWord w l r → NoDots l
unfolding sees_mark
word_stops w l r is_word = refl

-- values with such marks between them
module _ {A P : Type 0} {V : A → Toks → Toks → Type 0} {M : P → Toks → Toks → Type 0} (marks : (p : P) (l r : Toks) → M p l r → NoDots l) where
  pub listed_stop : {Ends : Bool → Type 0} {b : Bool} {xs : List A} {ps : List P} {l r : Toks} → AreListed (λ (_ : Bool). Stopped V) M Ends b xs ps l r → NoDots r → AreListed (λ (_ : Bool). V) M Ends b xs ps l r
  listed_stop (none_left h) e = none_left h
  listed_stop (last_value i) e = last_value (i e)
  listed_stop (value_and_mark i j k) e = value_and_mark (i (marks _ _ _ j)) j (listed_stop k e)

  pub marked_stop : {b : Bool} {xs : List A} {ps : List P} {l r : Toks} → AreMarked (λ (_ : Bool). Stopped V) M b xs ps l r → AreMarked (λ (_ : Bool). V) M b xs ps l r
  marked_stop no_further = no_further
  marked_stop (one_further i j k) = one_further (i (marks _ _ _ j)) j (marked_stop k)

-- ---- in a group

abbrev pub Inside : {A : Type 0} → Delimiter → DelimSpan → (A → Toks → Type 0) → A → Toks → Toks → Type 0
Inside d s T x l r = (c : Toks) × (l ≡ group d s c r) × T x c

pub inside_front : {A : Type 0} (d : Delimiter) (s : DelimSpan) (T : A → Toks → Type 0) (n : A → A) (f : A → Print) → IsVisible d → (x : A) (c r : Toks) → Again T n f x c →
    AgainFront (Inside d s T) n (λ (z : A). p.group d (stream_of_trees (f z)) s) x (group d s c r) r
inside_front d s T n f whole x c r k =
    let seen = λ (h : Toks). row-group d s (f x) h whole in
    record {
      spelt = λ h. (row (f x) done, seen h, k.spelt);
      visible = λ h u w. subst Visible (sym (seen h)) (whole, k.visible u.1, w);
      seen = λ u. u.2;
      stays = k.stays;
      same = ap (λ z. p.group d (stream_of_trees z) s) k.same;
    }

-- ---- held verbatim

module _ (Form : Manner → Toks → Toks → Type 0) (moves : (k : Toks) → NoDots k → (l r : Toks) → Form clearly l r → Calm l → Moved (Form clearly) k l r) (ends : (l r : Toks) → Form clearly l r → Shut r → Ended l) where
  held_before : (t : TokenStream) → Form clearly (row (trees t) done) done → NoBang (row (trees t) done) → (k : Toks) → NoDots k → Form clearly (row (trees t) k) k
  held_before t i q k h =
      let own = row (trees t) done in
      let u = ends own done i refl in
      subst (λ z. Form clearly z k) (row_before (trees t) done k) (moves k h own done i (calm_of own q u.apart)).is

  pub held_front : (t : TokenStream) (l r : Toks) → IsVerbatim Form plainly t l r → AgainFront (Stopped (IsVerbatim Form clearly)) (λ (z : TokenStream). z) (λ (z : TokenStream). trees z) t l r
  held_front t l r (i, j) =
      record { spelt = λ h e. (held_before t i.0 i.1 h e, refl); visible = λ h u w. row_visible (trees t) r h (subst Visible j u) w; seen = λ u. row_seen (trees t) r (subst Visible j u); stays = refl; same = refl }

-- ---- literals, and limits of ranges, which are their own normal forms

pub lit_front : (x : Lit) (l r : Toks) → IsLit x l r → AgainFront IsLit (λ (z : Lit). z) (λ (z : Lit). lits.print z) x l r
lit_front x l r i =
    record { spelt = λ h. lit_again x l r h i; visible = λ h u w. lit_whole x (row (lits.print x) h) h (lit_again x l r h i) w; seen = λ u. lit_visible x l r i u; stays = refl; same = refl }

limits_front : (x : RangeLimits) (l r : Toks) → AreLimits false x l r → AgainFront (AreLimits true) (λ (z : RangeLimits). z) ranges.print x l r
limits_front x l r i =
    record { spelt = λ h. limits_again false x l r h i; visible = λ h u w. limits_whole true x (row (ranges.print x) h) h (limits_again false x l r h i) w; seen = λ u. limits_visible false x l r i u; stays = refl; same = refl }

old_limits_whole : (x : RangeLimits) (l r : Toks) → AreOldLimits true x l r → Visible r → Visible l
old_limits_whole x l r (new_limits i) w = limits_whole true x l r i w
old_limits_whole x l r (old_limits {d = d} i) w = mark_whole true d l r i w

-- `...` prints as `..=`
old_limits_front : (x : RangeLimits) (l r : Toks) → AreOldLimits false x l r → AgainFront (AreOldLimits true) (λ (z : RangeLimits). z) ranges.print x l r
old_limits_front x l r i =
    record { spelt = λ h. old_limits_again false x l r h i; visible = λ h u w. old_limits_whole x (row (ranges.print x) h) h (old_limits_again false x l r h i) w; seen = λ u. old_limits_visible false x l r i u; stays = refl; same = refl }

-- ---- what is supplied

module _ {X : Type 0} (spells : Place → X → Toks → Type 0) (nx : Place → X → X) (px : Place → X → Print) where
  -- attributes, lengths and arguments of types; and subtrees as bodies and guards
  pub record SuppliedAgain : Type 0 where
    pub types : GivenAgain (normal.attrs nx) (normal_values_of nx) (printing.attrs px) (values_of px) (outer_spelt spells) (values_spelt spells)
    pub body : (x : X) (l : Toks) → spells Block x l → Reprints (spells Block) (nx Block) (px Block) x l
    pub body_stays : (x : X) (l : Toks) → spells Block x l → nx Block (nx Block x) ≡ nx Block x
    pub guard : (x : X) (l : Toks) → spells Guard x l → Reprints (spells Guard) (nx Guard) (px Guard) x l
    pub guard_stays : (x : X) (l : Toks) → spells Guard x l → nx Guard (nx Guard x) ≡ nx Guard x

  module _ (g : SuppliedAgain) where
    -- the types of each height
    pub known : (n : ℕ) → Known (normal.attrs nx) (normal_values_of nx) (printing.attrs px) (values_of px) (types_to spells n)
    known = known_to (normal.attrs nx) (normal_values_of nx) (printing.attrs px) (values_of px) (outer_spelt spells) (values_spelt spells) g.types

    -- a subtree in a place
    pub supplied_again : (w : Place) (x : X) (l : Toks) → Reprints (spells w) (nx w) (px w) x l → nx w (nx w x) ≡ nx w x → Again (spells w) (nx w) (px w) x l
    supplied_again w x l k stays = record { spelt = k.again; visible = k.visible; stays = stays; same = k.same }

    -- ---- const blocks

    pub const_again : (x : ExprConstOf (Attr X) X) (l r : Toks) → IsConstBlock spells x l r → AgainFront (IsConstBlock spells) (attr.expr_const nx) (shown.expr_const px) x l r
    const_again x l r (a_const_block {w = w} {s = s} {x = y} {c = c} i j) =
        made_front (Then IsWord (Inside Brace s (spells Block))) (IsConstBlock spells) _ (attr.expr_const nx) _ (shown.expr_const px) (λ (z : token.Const × X). const_of [] z.0 (groups.brace s) z.1)
        (λ z l r i. a_const_block (subst (λ m. IsWord z.0 l m) i.2.1 i.1) i.2.2) (λ z. refl) (λ z. refl) (w, y) l r
        (then_front (word_front w l (group Brace s c r) i) (inside_front Brace s (spells Block) (nx Block) (px Block) tt y c r (supplied_again Block y c (g.body y c j) (g.body_stays y c j))))

    -- ---- paths

    abbrev pub AnyPath : Type 0
    AnyPath = Option (QSelf (Attr X) (Expr X)) × Path (Attr X) (Expr X)

    abbrev pub normal_path : AnyPath → AnyPath
    normal_path z = (types.optional_qself (normal.attrs nx) (normal_values_of nx) z.0, types.path (normal.attrs nx) (normal_values_of nx) z.1)

    abbrev pub print_path : AnyPath → Print
    print_path z = texts.qpath (printing.attrs px) (values_of px) expressions z.0 z.1

    abbrev pub ArePaths : AnyPath → Toks → Toks → Type 0
    ArePaths z l r = IsPatPath spells clearly z.0 z.1 l r

    abbrev pub AreHeads : AnyPath → Toks → Toks → Type 0
    AreHeads z l r = IsHead spells clearly z.0 z.1 l r

    pub path_again : (q : Option (QSelf (Attr X) (Expr X))) (x : Path (Attr X) (Expr X)) (l r : Toks) → IsPatPath spells plainly q x l r → AgainFront ArePaths normal_path print_path (q, x) l r
    path_again q x l r (a_pat_path n i) =
        let styled = styled_to (normal.attrs nx) (normal_values_of nx) (printing.attrs px) (values_of px) (outer_spelt spells) (values_spelt spells) expressions (λ k. (known k).again) n in
        made_front (λ (z : AnyPath). IsNoTry (types_to spells n) clearly expressions z.0 z.1) ArePaths normal_path normal_path print_path print_path (λ (z : AnyPath). z) (λ z l r i. a_pat_path n i) (λ z. refl) (λ z. refl) (q, x) l r
        (no_try_again (normal.attrs nx) (normal_values_of nx) (printing.attrs px) (values_of px) (types_to spells n) (known n).again expressions styled q x l r i)

    -- it is one word where its normal form is
    pub word_kept : (q : Option (QSelf (Attr X) (Expr X))) (x : Path (Attr X) (Expr X)) (l r : Toks) → IsPatPath spells plainly q x l r → lone_word (normal_path (q, x)).0 (normal_path (q, x)).1 ≡ lone_word q x
    word_kept q x l r (a_pat_path n i) = lone_kept spells (normal.attrs nx) (normal_values_of nx) n q x l r i.0

    pub head_again : (q : Option (QSelf (Attr X) (Expr X))) (x : Path (Attr X) (Expr X)) (l r : Toks) → IsHead spells plainly q x l r → AgainFront AreHeads normal_path print_path (q, x) l r
    head_again q x l r (i, h) = also_front (λ (z : AnyPath). is_self (lone_word z.0 z.1) ≡ false) (ap is_self (word_kept q x l r i) ∙ h) (path_again q x l r i)

    -- ---- ranges

    abbrev nb : PatRangeBound X → PatRangeBound X
    nb = normal.range_bound nx

    abbrev pb : PatRangeBound X → Print
    pb = printing.range_bound px (path_shown px)

    pub end_again : (x : PatRangeBound X) (l r : Toks) → IsEnd spells plainly x l r → AgainFront (IsEnd spells clearly) nb pb x l r
    end_again x l r (a_literal_end {x = y} i) = made_front IsLit (IsEnd spells clearly) (λ (z : Lit). z) nb lits.print pb (λ z. b.Lit (lit_of [] z)) (λ z l r i. a_literal_end i) (λ z. refl) (λ z. refl) y l r (lit_front y l r i)
    end_again x l r (a_path_end {q = q} {p = y} i) =
        made_front ArePaths (IsEnd spells clearly) normal_path nb print_path pb (λ (z : AnyPath). b.Path (path_pat_of [] z.0 z.1)) (λ z l r i. a_path_end i) (λ z. refl) (λ z. refl) (q, y) l r (path_again q y l r i)
    end_again x l r (a_const_end {x = y} i) = made_front (IsConstBlock spells) (IsEnd spells clearly) (attr.expr_const nx) nb (shown.expr_const px) pb (λ z. b.Const z) (λ z l r i. a_const_end i) (λ z. refl) (λ z. refl) y l r (const_again y l r i)

    pub start_again : (x : PatRangeBound X) (l r : Toks) → IsStart spells plainly x l r → AgainFront (IsStart spells clearly) nb pb x l r
    start_again x l r (a_literal_start {x = y} i) = made_front IsLit (IsStart spells clearly) (λ (z : Lit). z) nb lits.print pb (λ z. b.Lit (lit_of [] z)) (λ z l r i. a_literal_start i) (λ z. refl) (λ z. refl) y l r (lit_front y l r i)
    start_again x l r (a_path_start {q = q} {p = y} i) =
        made_front AreHeads (IsStart spells clearly) normal_path nb print_path pb (λ (z : AnyPath). b.Path (path_pat_of [] z.0 z.1)) (λ z l r i. a_path_start i) (λ z. refl) (λ z. refl) (q, y) l r (head_again q y l r i)
    start_again x l r (a_const_start {x = y} i) = made_front (IsConstBlock spells) (IsStart spells clearly) (attr.expr_const nx) nb (shown.expr_const px) pb (λ z. b.Const z) (λ z l r i. a_const_start i) (λ z. refl) (λ z. refl) y l r (const_again y l r i)

    pub range_again : (x : PatRange X) (l r : Toks) → IsRange spells plainly x l r → AgainFront (IsRange spells clearly) (normal.range nx) (printing.range px (path_shown px)) x l r
    range_again x l r (without_end {x = y} {d = d} {m = m} i j) =
        made_front (Then (IsStart spells clearly) _) (IsRange spells clearly) _ (normal.range nx) _ (printing.range px (path_shown px)) (λ (z : PatRangeBound X × token.DotDot). pat_range_of [] (Some z.0) (limits.HalfOpen z.1) None)
        (λ z l r i. without_end i.1 i.2) (λ z. refl) (λ z. ap (λ k. pb z.0 ++ k) (append-nil (p.mark z.1))) (y, d) l r (then_front (start_again y l m i) (mark_front d m r j))
    range_again x l r (without_start {t = t} {y = y} {m = m} i j) =
        made_front (Then (AreLimits true) (IsEnd spells clearly)) (IsRange spells clearly) _ (normal.range nx) _ (printing.range px (path_shown px)) (λ (z : RangeLimits × PatRangeBound X). pat_range_of [] None z.0 (Some z.1))
        (λ z l r i. without_start i.1 i.2) (λ z. refl) (λ z. refl) (t, y) l r (then_front (limits_front t l m i) (end_again y m r j))
    range_again x l r (with_both {x = y} {t = t} {y = z} {m = m} {n = n} i j h) =
        made_front (Then (IsStart spells clearly) (Then (AreOldLimits true) (IsEnd spells clearly))) (IsRange spells clearly) _ (normal.range nx) _ (printing.range px (path_shown px)) (λ (z : PatRangeBound X × (RangeLimits × PatRangeBound X)). pat_range_of [] (Some z.0) z.1.0 (Some z.1.1))
        (λ z l r i. with_both i.1 i.2.1 i.2.2) (λ z. refl) (λ z. refl) (y, (t, z)) l r (then_front (start_again y l m i) (then_front (old_limits_front t m n j) (end_again z n r h)))
