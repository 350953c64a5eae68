-- How the print of a type begins: with `for` only where the type does, and as generics only where it does; with an identifier before a `>` only where it is that identifier.
use Rattle.std.proofs.Common.{◌≡◌, ◌&&◌, ◌==◌, ℕ, Bool, true, false, List, [], ◌++◌, length, Some, refl, sym, ◌∙◌, ap, subst}
use Rattle.std.proofs.lemmas.Bool.{or_left}
use Rattle.std.proofs.lemmas.Slice.Eq.{bytes_eq-Decides}
use Rattle.syn_ty.proofs.ty_laws.words.Tokens.{DelimSpan, Delimiter, Ident, Punct, Joint, Word, is_keyword, AreListed, none_left, last_value, value_and_mark, Nowhere, text_of, Print, after_one, is_ident, is_text, second, sees_mark, sees_word, third, IsVisible, IsMark, is_mark, last_char, more_chars, Bytes, Toks, word, mark, group, TokenStream, ident, punct, row, toks}
use Rattle.syn_ty.proofs.ty_laws.words.Paths.{Values, AsWritten, segment_of, path_by}
use Rattle.syn_ty.proofs.ty_laws.words.Forms.{Plus, is_bare_word, is_named_word, longer, with_arguments}
use Rattle.syn_ty.proofs.ty_laws.words.Types.{IsFor, a_binder, Sep, no_arguments, is_segment_word, IsSegment, a_word, a_word_with_arguments, IsPath, a_path, IsQualified, by_type, by_type_as_path, Manner, plainly, End, Parts, absent, present, BoundLifetimes, Path, PathArguments, PathSegment, QSelf, TypeTree}
use Rattle.token_core.specs.Prints as p
use Rattle.token_core.specs.Tokens as token
use Rattle.token_core.proofs.MarkSpells.{mark_again, mark_seen}
use Rattle.token_core.proofs.Rebuilds.{tree-ident, visible-tree}
use Rattle.token_core.proofs.Rows.{row-append}
use Rattle.token_core.proofs.Unseen.{no_mark-other}
use Rattle.token_core.proofs.WordSpells.{word_seen}
use Rattle.syn_path.specs.path.Shapes.{segment_by, segments_by, qualified_by}
use Rattle.syn_ty.specs.generics.Parameters.{begins_as_generics}
use Rattle.syn_ty.specs.ty.Printing as printing
use Rattle.syn_ty.proofs.ty_laws.Prints.{arguments-None}
use Rattle.syn_ty.proofs.ty_laws.reprint.Qualified.{one_more, longer_prints}

-- ---- how tokens begin

-- an identifier, and then a `>`
abbrev pub named : Toks → Bool
named l = sees_word is_ident l && second token.sees_gt l

-- neither with `for`, nor with `<`, nor so
pub record Quiet (l : Toks) : Type 0 where
  pub no_for : token.sees_for l ≡ false
  pub no_lt : token.sees_lt l ≡ false
  pub no_named : named l ≡ false

pub no_generics : (l : Toks) → token.sees_lt l ≡ false → begins_as_generics l ≡ false
no_generics l h = ap (λ (b : Bool). b && (second (sees_word is_ident) l && third token.sees_gt l)) h

-- before an identifier that no `>` follows
and_no : (b : Bool) → b && false ≡ false
and_no true = refl
and_no false = refl

pub no_second : (i : Ident) (k : Toks) → token.sees_gt k ≡ false → named (word i k) ≡ false
unfolding sees_word after_one
no_second i k h = ap (λ (b : Bool). is_ident i.text && b) h ∙ and_no (is_ident i.text)

pub quiet_group : (d : Delimiter) (s : DelimSpan) (c k : Toks) → Quiet (group d s c k)
unfolding sees_word sees_mark
quiet_group d s c k = record { no_for = refl; no_lt = refl; no_named = refl }

pub quiet_mark : (x : Punct) (k : Toks) → (x.ch == 60) ≡ false → Quiet (mark x k)
unfolding sees_word
quiet_mark x k h = record { no_for = refl; no_lt = no_mark-other 60 [] x k h; no_named = refl }

pub quiet_word : (i : Ident) (k : Toks) → is_text (text_of 10) i.text ≡ false → is_ident i.text ≡ false → Quiet (word i k)
unfolding sees_word sees_mark
quiet_word i k h g = record { no_for = h; no_lt = refl; no_named = ap (λ (b : Bool). b && second token.sees_gt (word i k)) g }

-- an identifier or a word of a path, before what is no `>`
pub quiet_before : (i : Ident) (k : Toks) → is_text (text_of 10) i.text ≡ false → token.sees_gt k ≡ false → Quiet (word i k)
unfolding sees_word sees_mark
quiet_before i k h g = record { no_for = h; no_lt = refl; no_named = no_second i k g }

-- no word of a path is `for`
no_for_word : (t : Bytes) → is_text (text_of 10) t ≡ true → is_segment_word t ≡ false
unfolding is_keyword
no_for_word t h = ap is_segment_word ((bytes_eq-Decides t _).0 h)

pub segment_no_for : (t : Bytes) → is_segment_word t ≡ true → is_text (text_of 10) t ≡ false
segment_no_for t k = by_test (is_text (text_of 10) t) refl
  where
    by_test : (b : Bool) → is_text (text_of 10) t ≡ b → is_text (text_of 10) t ≡ false
    by_test true h = let g : true ≡ false = sym k ∙ no_for_word t h in absurd (cc)
    by_test false h = h

-- ---- how a print begins

-- a list that is one identifier, which is printed
pub record Alone (l r : Toks) (q : Print) (k : Toks) : Type 0 where
  pub name : Ident
  pub was : l ≡ word name r
  pub prints : row q k ≡ word name k
  pub ok : is_ident name.text ≡ true

-- of a print, and the list that was spelt before others
pub record Kept (l r : Toks) (q : Print) : Type 0 where
  pub for_kept : token.sees_for l ≡ false → (k : Toks) → token.sees_for (row q k) ≡ false
  pub lt_kept : begins_as_generics l ≡ false → (k : Toks) → begins_as_generics (row q k) ≡ false
  pub alone : (k : Toks) → named (row q k) ≡ true → Alone l r q k

pub quiet_kept : (l r : Toks) (q : Print) → ((k : Toks) → Quiet (row q k)) → Kept l r q
quiet_kept l r q h = record { for_kept = λ e k. (h k).no_for; lt_kept = λ e k. no_generics (row q k) (h k).no_lt; alone = λ k e. let g = (h k).no_named in absurd (cc) }

-- after a binder
pub binder_kept : (l r : Toks) (q : Print) → token.sees_for l ≡ true → ((k : Toks) → token.sees_lt (row q k) ≡ false) → ((k : Toks) → named (row q k) ≡ false) → Kept l r q
binder_kept l r q e h g = record { for_kept = λ n k. absurd (cc); lt_kept = λ n k. no_generics (row q k) (h k); alone = λ k n. let y = g k in absurd (cc) }

pub same_kept : (l r : Toks) (q s : Print) → q ≡ s → Kept l r s → Kept l r q
same_kept l r q s e h = subst (Kept l r) (sym e) h

-- words and groups that are printed first
pub word_quiet : {n : ℕ} (w : Word n) (q : Print) → is_text (text_of 10) (text_of n) ≡ false → is_ident (text_of n) ≡ false → (k : Toks) → Quiet (row (p.word w ++ q) k)
word_quiet {n = n} w q h g k = let i = ident (text_of n) w.span in subst Quiet (sym (tree-ident i (row q k))) (quiet_word i (row q k) h g)

pub group_quiet : (d : Delimiter) (s : DelimSpan) (c : TokenStream) (q : Print) → IsVisible d → (k : Toks) → Quiet (row (p.group d c s ++ q) k)
group_quiet d s c q v k = subst Quiet (sym (visible-tree d c s (row q k) v)) (quiet_group d s (toks c) (row q k))

pub for_first : (w : token.For) (q : Print) (k : Toks) → (token.sees_lt (row (p.word w ++ q) k) ≡ false) × (named (row (p.word w ++ q) k) ≡ false)
unfolding sees_word sees_mark is_keyword
for_first w q k = let i = ident (text_of 10) w.span in subst (λ z. (token.sees_lt z ≡ false) × (named z ≡ false)) (sym (tree-ident i (row q k))) (for_word i (row q k) refl)
  where
    for_word : (i : Ident) (k : Toks) → is_ident i.text ≡ false → (token.sees_lt (word i k) ≡ false) × (named (word i k) ≡ false)
    for_word i k g = (refl, ap (λ (b : Bool). b && second token.sees_gt (word i k)) g)

pub for_seen : {A E : Type 0} (part : Manner → Parts A E) (how : Manner) (x : BoundLifetimes A E) (l r : Toks) → IsFor part how x l r → token.sees_for l ≡ true
for_seen part how x l r (a_binder {f = f} {m = m} i j t q) = word_seen {n = 10} f l m i

word_no_for : (i : Ident) (k : Toks) → is_text (text_of 10) i.text ≡ false → token.sees_for (word i k) ≡ false
unfolding sees_word
word_no_for i k h = h

word_no_lt : (i : Ident) (k : Toks) → token.sees_lt (word i k) ≡ false
unfolding sees_mark
word_no_lt i k = refl

and_first : (a b : Bool) → a && b ≡ true → a ≡ true
and_first true b h = refl
and_first false b h = h

named_ok : (i : Ident) (k : Toks) → named (word i k) ≡ true → is_ident i.text ≡ true
unfolding sees_word
named_ok i k h = and_first (is_ident i.text) (second token.sees_gt (word i k)) h

-- ---- paths

sep_quiet : (c : Sep) (l r : Toks) → IsMark true c l r → Quiet l
sep_quiet c l r (is_mark (more_chars {a = a} {l = m} y)) = quiet_mark (punct 58 Joint a) m refl

pub sep_no_gt : (c : Sep) (l r : Toks) → IsMark true c l r → token.sees_gt l ≡ false
unfolding sees_mark
sep_no_gt c l r (is_mark (more_chars y)) = refl

module _ {A E : Type 0} (pa : List A → Print) (pe : Values E) (part : Manner → Parts A E) where
  abbrev args : PathArguments A E → Print
  args = printing.arguments pa pe AsWritten

  -- arguments begin with no `>`
  abbrev pub ArgumentsBegin : Type 0
  ArgumentsBegin = (x : PathArguments A E) (l r : Toks) → (part plainly).arguments x l r → (k : Toks) → token.sees_gt (row (args x) k) ≡ false

  -- a type that prints an identifier before a `>` is that identifier
  abbrev pub TypesAlone : Type 0
  TypesAlone = (e : End) (x : TypeTree A E) (l r : Toks) → (part plainly).ty Plus e x l r → (k : Toks) → named (row (printing.ty pa pe x) k) ≡ true → Alone l r (printing.ty pa pe x) k

  module _ (arguments_begin : ArgumentsBegin) where
    bare_row : (i : Ident) (k : Toks) → row (segment_by args (segment_of no_arguments i)) k ≡ word i k
    bare_row i k = row-append (p.ident i) (args no_arguments) k ∙ ap (λ z. row (p.ident i) (row z k)) (arguments-None pa pe AsWritten) ∙ tree-ident i k

    held_row : (i : Ident) (x : PathArguments A E) (k : Toks) → row (segment_by args (with_arguments i x)) k ≡ word i (row (args x) k)
    held_row i x k = row-append (p.ident i) (args x) k ∙ tree-ident i (row (args x) k)

    segment_no_for_word : (s : PathSegment A E) (l r : Toks) → IsSegment part plainly AsWritten s l r → is_text (text_of 10) s.ident.text ≡ false
    segment_no_for_word s l r (a_word {i = i} h) = segment_no_for i.text h
    segment_no_for_word s l r (a_word_with_arguments {i = i} h u j) = segment_no_for i.text (or_left (is_named_word i.text) (is_bare_word i.text) h)

    segment_quiet : (s : PathSegment A E) (l r : Toks) → IsSegment part plainly AsWritten s l r → (k : Toks) → token.sees_gt k ≡ false → Quiet (row (segment_by args s) k)
    segment_quiet s l r (a_word {i = i} h) k n = subst Quiet (sym (bare_row i k)) (quiet_before i k (segment_no_for i.text h) n)
    segment_quiet s l r (a_word_with_arguments {i = i} {x = x} {l = m} h u j) k n =
        subst Quiet (sym (held_row i x k)) (quiet_before i (row (args x) k) (segment_no_for_word s l r (a_word_with_arguments h u j)) (arguments_begin x m r j k))

    segments_kept : (xs : List (PathSegment A E)) (cs : List Sep) (l r : Toks) → AreListed (λ (_ : Bool). IsSegment part plainly AsWritten) (IsMark false) Nowhere true xs cs l r → Kept l r (segments_by args (xs, cs))
    segments_kept xs cs l r (none_left u) = absurd u
    segments_kept xs cs l r (last_value (a_word {i = i} h)) =
        let one = segment_by args (segment_of no_arguments i) in
        let seen = λ (k : Toks). row-append one [] k ∙ bare_row i k in
        record {
          for_kept = λ e k. subst (λ z. token.sees_for z ≡ false) (sym (seen k)) (word_no_for i k (segment_no_for i.text h));
          lt_kept = λ e k. subst (λ z. begins_as_generics z ≡ false) (sym (seen k)) (no_generics (word i k) (word_no_lt i k));
          alone = λ k e. record { name = i; was = refl; prints = seen k; ok = named_ok i k (ap named (sym (seen k)) ∙ e) };
        }
    segments_kept xs cs l r (last_value (a_word_with_arguments {i = i} {x = x} {l = m} h u j)) =
        let one = segment_by args (with_arguments i x) in
        quiet_kept l r (one ++ []) (λ k. subst Quiet (sym (row-append one [] k ∙ held_row i x k)) (quiet_before i (row (args x) k) (segment_no_for i.text (or_left (is_named_word i.text) (is_bare_word i.text) h)) (arguments_begin x m r j k)))
    segments_kept xs cs l r (value_and_mark {x = s} {p = c} {xs = ys} {ps = ds} {m = m} {k = o} i j t) =
        let one = segment_by args s in
        let rest = segments_by args (ys, ds) in
        quiet_kept l r (one ++ (p.mark c ++ rest)) (λ k. subst Quiet (sym (row-append one (p.mark c ++ rest) k ∙ ap (row one) (row-append (p.mark c) rest k)))
        (segment_quiet s l m i (row (p.mark c) (row rest k)) (sep_no_gt c (row (p.mark c) (row rest k)) (row rest k) (mark_again false c m o (row rest k) j))))

    pub path_kept : (x : Path A E) (l r : Toks) → IsPath part plainly AsWritten x l r → Kept l r (path_by args x)
    path_kept x l r (a_path {xs = xs} {cs = cs} {m = m} absent t) = segments_kept xs cs m r t
    path_kept x l r (a_path {xs = xs} {cs = cs} {m = m} (present {a = c} i) t) =
        let rest = segments_by args (xs, cs) in
        quiet_kept l r (p.mark c ++ rest) (λ k. subst Quiet (sym (row-append (p.mark c) rest k)) (sep_quiet c (row (p.mark c) (row rest k)) (row rest k) (mark_again false c l m (row rest k) i)))

    -- ---- qualified paths

    abbrev shown_qualified : QSelf A E → Path A E → Print
    shown_qualified q x = qualified_by (printing.arguments pa pe) AsWritten q x

    module _ (types_alone : TypesAlone) where
      lt_named : (clear : Bool) (o : token.Lt) (l m : Toks) → IsMark clear o l m → begins_as_generics l ≡ named m
      unfolding sees_mark after_one
      lt_named clear o l m (is_mark (last_char y)) = refl

      lt_no_word : (clear : Bool) (o : token.Lt) (l m : Toks) → IsMark clear o l m → (token.sees_for l ≡ false) × (named l ≡ false)
      unfolding sees_word
      lt_no_word clear o l m (is_mark (last_char y)) = (refl, refl)

      -- a type and more after `<`, where it is not a lone identifier or what follows it is no `>`
      after_lt : (o : token.Lt) (x : TypeTree A E) (q : Print) (l m r : Toks) → IsMark false o l m → (named m ≡ false → (k : Toks) → named (row (printing.ty pa pe x) (row q k)) ≡ false) → Kept l r (p.mark o ++ (printing.ty pa pe x ++ q))
      after_lt o x q l m r i h =
          let t = printing.ty pa pe x in
          let rest = λ (k : Toks). row t (row q k) in
          let seen = λ (k : Toks). row-append (p.mark o) (t ++ q) k ∙ ap (row (p.mark o)) (row-append t q k) in
          let again = λ (k : Toks). mark_again false o l m (rest k) i in
          let first = λ (k : Toks). lt_no_word true o (row (p.mark o) (rest k)) (rest k) (again k) in
          record {
            for_kept = λ e k. subst (λ z. token.sees_for z ≡ false) (sym (seen k)) (first k).0;
            lt_kept = λ e k. subst (λ z. begins_as_generics z ≡ false) (sym (seen k)) (lt_named true o (row (p.mark o) (rest k)) (rest k) (again k) ∙ h (sym (lt_named false o l m i) ∙ e) k);
            alone = λ k e. let n : named (row (p.mark o ++ (t ++ q)) k) ≡ false = ap named (seen k) ∙ (first k).1 in absurd (cc);
          }

      gt_named : (i : Ident) (g : token.Gt) (n k : Toks) → is_ident i.text ≡ true → IsMark false g n k → named (word i n) ≡ true
      unfolding sees_word after_one
      gt_named i g n k h j = ap (λ (b : Bool). b && token.sees_gt n) h ∙ mark_seen false {n = 3} {k = 1} g n k j

      word_no_gt : {n : ℕ} (w : Word n) (q : Print) (k : Toks) → token.sees_gt (row (p.word w ++ q) k) ≡ false
      unfolding sees_mark
      word_no_gt {n = n} w q k = ap token.sees_gt (tree-ident (ident (text_of n) w.span) (row q k))

      -- after the type stands `as`
      as_next : (q : QSelf A E) (w : token.As) (x : Path A E) (c : Sep) (xs : List (PathSegment A E)) (cs : List Sep) (l r k : Toks) → q.position ≡ length x.segments.0 → q.as_token ≡ Some w → IsPath part plainly AsWritten x l r →
          token.sees_gt (row (shown_qualified q (longer x c (xs, cs))) k) ≡ false
      as_next q w x c xs cs l r k e f (a_path {xs = ys} {cs = ds} {m = m} o t) =
          let h = one_more (λ (_ : Bool). IsSegment part plainly AsWritten) (IsMark false) true ys ds m r t in
          let rest = path_by args x ++ (p.mark q.gt_token ++ (p.mark c ++ segments_by args (xs, cs))) in
          subst (λ z. token.sees_gt (row z k) ≡ false) (sym (longer_prints (printing.arguments pa pe) AsWritten q.gt_token q w x c xs cs e f refl h)) (word_no_gt w rest k)

      by_test : (l r k : Toks) (q : Print) → ((h : named (row q k) ≡ true) → Alone l r q k → ⊥) → ((h : named (row q k) ≡ true) → Alone l r q k) → named (row q k) ≡ false
      by_test l r k q never alone = by_case (named (row q k)) refl
        where
          by_case : (b : Bool) → named (row q k) ≡ b → named (row q k) ≡ false
          by_case true e = absurd (never e (alone e))
          by_case false e = e

      pub qualified_kept : (q : QSelf A E) (x : Path A E) (l r : Toks) → IsQualified part plainly AsWritten q x l r → Kept l r (p.mark q.lt_token ++ (printing.ty pa pe q.ty ++ shown_qualified q x))
      qualified_kept q y l r (by_type {o = o} {e = e} {x = x} {g = g} {c = c} {xs = xs} {cs = cs} {m = m} {n = n} {k = k} i t j d u) =
          let rest = shown_qualified q y in
          after_lt o x rest l m r i (λ h z. by_test m n (row rest z) (printing.ty pa pe x)
          (λ f a. let s : named m ≡ true = ap named a.was ∙ gt_named a.name g n k a.ok j in absurd (cc)) (λ f. types_alone e x m n t (row rest z) f))
      qualified_kept q y l r (by_type_as_path {o = o} {e = e} {x = x} {w = w} {p = a} {g = g} {c = c} {xs = xs} {cs = cs} {m = m} {n = n} {k = k} {j = j} i t d f u b v s) =
          let rest = shown_qualified q y in
          after_lt o x rest l m r i (λ h z. by_test m n (row rest z) (printing.ty pa pe x)
          (λ b y. let s : named (row (printing.ty pa pe x) (row rest z)) ≡ false = ap named y.prints ∙ no_second y.name (row rest z) (as_next q w a c xs cs k j z refl refl u) in absurd (cc)) (λ b. types_alone e x m n t (row rest z) b))
