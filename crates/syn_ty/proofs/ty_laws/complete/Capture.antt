-- What holds no type, spelt clearly, is what its read answers and all that it takes: captures, and tokens that are held as they were written.
use Rattle.std.specs.Prelude.{not}
use Rattle.std.proofs.Common.{◌≡◌, suc, ◌<◌, Bool, true, false, List, [], ◌∷◌, ◌++◌, length, Option, Ok, refl, sym, ◌∙◌, ap, subst, append_assoc, arith}
use Rattle.std.proofs.lemmas.Bool.{le-ltb, lt-ltb}
use Rattle.syn_ty.proofs.ty_laws.words.Tokens.{Span, Ident, TokenTree, sees_lifetime, AreListed, Anywhere, size, Item, Reader, any_text, ident_name, next_word, read_word, sees_mark, sees_word, last_char, IsMark, is_mark, is_lifetime, Scope, Toks, done, word, mark, lit, group, enter, leave, TokenStream, row, trees}
use Rattle.syn_ty.proofs.ty_laws.words.Forms.{list, is_named_word, outside, position, since}
use Rattle.syn_ty.proofs.ty_laws.words.Types.{CapturedParam, PreciseCapture, IsCaptured, a_lifetime_captured, a_name_captured, IsCapture, a_capture, captured_comma, listed_captured, Holds}
use Rattle.token_core.specs.Cut.{trees_between}
use Rattle.token_core.specs.Front.{past_ends}
use Rattle.token_core.specs.Positions.{IsReached, an_end, items, past, row_items, there, tree_items}
use Rattle.token_core.specs.Tokens as token
use Rattle.token_core.proofs.Cuts.{between_same, kept_step, left_step}
use Rattle.token_core.proofs.MarkSpells.{mark_complete, mark_seen, mark_size}
use Rattle.token_core.proofs.Places.{reached_after, reached_outside, reached_shorter, reached_trans}
use Rattle.token_core.proofs.Positions.{adds_tree}
use Rattle.token_core.proofs.Steps.{link, chosen, Reads_to}
use Rattle.token_core.proofs.Took.{at}
use Rattle.token_core.proofs.WordSpells.{word_complete, lifetime_complete, lifetime_seen}
use Rattle.syn_forms.proofs.lists_laws.Complete.{listed_here}
use Rattle.syn_ty.specs.generics.Reading as reading
use Rattle.syn_ty.specs.generics.Reading.{captured_or, sees_captured_ident}

-- ---- captures

no_lifetime_word : (i : Ident) (k : Toks) → sees_lifetime (word i k) ≡ false
unfolding sees_lifetime
no_lifetime_word i k = refl

name_seen : (i : Ident) (k : Toks) → is_named_word i.text ≡ true → sees_captured_ident (word i k) ≡ true
unfolding sees_word
name_seen i k h = h

reads_any : (i : Ident) (k : Toks) (f : Option Span) (e : Span) (sc : Scope) → read_word any_text ident_name (at (word i k) f e sc) ≡ Ok (i, at k f i.span sc)
unfolding read_word next_word
reads_any i k f e sc = refl

-- whatever is told where none stands
captured_or_met : (other : Reader CapturedParam) (x : CapturedParam) (l k : Toks) (f : Option Span) (e : Span) (sc : Scope) → IsCaptured x l k → Reads_to (captured_or other) x l k f e sc
captured_or_met other x l k f e sc (a_lifetime_captured {x = y} i) =
    let w = lifetime_complete y l k f e sc i in
    record { last = w.last; reads = chosen (sees_lifetime l) true _ _ (at l f e sc) _ (lifetime_seen y l k i) (link _ w.reads refl) }
captured_or_met other x l k f e sc (a_name_captured {i = i} h) =
    record { last = i.span; reads = chosen (sees_lifetime l) false _ _ (at l f e sc) _ (no_lifetime_word i k) (chosen (sees_captured_ident l) true _ _ (at l f e sc) _ (name_seen i k h) (link _ (reads_any i k f e sc) refl)) }

pub captured_met : (x : CapturedParam) (l k : Toks) (f : Option Span) (e : Span) (sc : Scope) → IsCaptured x l k → Reads_to reading.captured x l k f e sc
unfolding reading.captured
captured_met x l k f e sc i = let w = captured_or_met _ x l k f e sc i in record { last = w.last; reads = w.reads }

pub listed_captured_met : (x : CapturedParam) (l k : Toks) (f : Option Span) (e : Span) (sc : Scope) → IsCaptured x l k → Reads_to listed_captured x l k f e sc
unfolding listed_captured
listed_captured_met x l k f e sc i = let w = captured_or_met _ x l k f e sc i in record { last = w.last; reads = w.reads }

comma_met : (c : token.Comma) (l k : Toks) (f : Option Span) (e : Span) (sc : Scope) → IsMark true c l k → Reads_to captured_comma c l k f e sc
unfolding captured_comma
comma_met c l k f e sc i =
    let w = mark_complete true {n = 4} {k = 1} refl (omega arith) c l k f e sc i in
    record { last = w.last; reads = chosen (token.sees_comma l) true _ _ (at l f e sc) _ (mark_seen true {n = 4} {k = 1} c l k i) w.reads }

comma_no_gt : (c : token.Comma) (l k : Toks) → IsMark true c l k → token.sees_gt l ≡ false
unfolding sees_mark
comma_no_gt c l k (is_mark (last_char x)) = refl

captured_no_gt : (x : CapturedParam) (l k : Toks) → IsCaptured x l k → token.sees_gt l ≡ false
unfolding sees_mark
captured_no_gt x l k (a_lifetime_captured is_lifetime) = refl
captured_no_gt x l k (a_name_captured h) = refl

captured_size : (x : CapturedParam) (l k : Toks) → IsCaptured x l k → size k < size l
captured_size x l k (a_lifetime_captured is_lifetime) = omega arith
captured_size x l k (a_name_captured h) = omega arith

abbrev AreCaptured : List CapturedParam → List token.Comma → Toks → Toks → Type 0
AreCaptured = AreListed (λ (_ : Bool). IsCaptured) (IsMark true) Anywhere true

params_met : (xs : List CapturedParam) (cs : List token.Comma) (l k : Toks) (f : Option Span) (e : Span) (sc : Scope) → AreCaptured xs cs l k → token.sees_gt k ≡ true →
    Reads_to (list (λ first. token.sees_gt) listed_captured (λ m. not (token.sees_gt m)) captured_comma true) (xs, cs) l k f e sc
params_met xs cs l k f e sc i seen =
    listed_here (λ (_ : Bool). token.sees_gt) (λ (_ : Bool). listed_captured) (λ m. not (token.sees_gt m)) captured_comma (λ (_ : Bool). IsCaptured) (IsMark true) Anywhere (λ (_ : Toks). Unit {0}) (λ (_ : Toks). Unit {0}) sc
    (λ b x m n u j g a d. listed_captured_met x m n a d sc j)
    (λ c m n j a d. comma_met c m n a d sc j)
    (λ c m n j. (tt, ap not (comma_no_gt c m n j)))
    (λ b x m n j. captured_no_gt x m n j)
    (λ b x m n j. captured_size x m n j)
    (λ c m n j. mark_size true {n = 4} {k = 1} c m n j)
    (λ b x c m n o j g u. tt)
    true xs cs l k tt i
    (record { follows = tt; over = ap not seen; stops_there = λ b may. seen }) f e

pub capture_met : (x : PreciseCapture) (l k : Toks) (f : Option Span) (e : Span) (sc : Scope) → IsCapture true x l k → Reads_to reading.capture x l k f e sc
unfolding reading.capture
capture_met x l k f e sc (a_capture {u = u} {o = o} {xs = xs} {cs = cs} {g = g} {m = m} {n = n} {k = j} a b c d) =
    let w = word_complete {n = 17} u l m f e sc a in
    let y = mark_complete true {n = 2} {k = 1} refl (omega arith) o m n f w.last sc b in
    let v = params_met xs cs n j f y.last sc c (mark_seen true {n = 3} {k = 1} g j k d) in
    let z = mark_complete true {n = 3} {k = 1} refl (omega arith) g j k f v.last sc d in
    record { last = z.last; reads = link _ w.reads (link _ y.reads (link _ v.reads (link _ z.reads refl))) }

-- ---- what is held verbatim

-- the ends of invisible groups are no trees
ends_between : (k : Toks) (m : List Item) → trees_between (items k ++ m) (items (past_ends k) ++ m) ≡ []
ends_between done m = between_same m m (le-ltb (length m) (length m) (omega arith))
ends_between (word i k) m = let v = items (word i k) ++ m in between_same v v (le-ltb (length v) (length v) (omega arith))
ends_between (mark p k) m = let v = items (mark p k) ++ m in between_same v v (le-ltb (length v) (length v) (omega arith))
ends_between (lit x k) m = let v = items (lit x k) ++ m in between_same v v (le-ltb (length v) (length v) (omega arith))
ends_between (group d s c k) m = let v = items (group d s c k) ++ m in between_same v v (le-ltb (length v) (length v) (omega arith))
ends_between (enter s k) m = let v = items (enter s k) ++ m in between_same v v (le-ltb (length v) (length v) (omega arith))
ends_between (leave k) m =
    let e = items (past_ends k) ++ m in
    let v = items k ++ m in
    let w = reached_outside k m v there in
    let h = reached_shorter e v w in
    (left_step (an_end ∷ v) e (past an_end w) (lt-ltb (length e) (suc (length v)) (omega (arith, h))) refl).trees ∙ ends_between k m

-- trees before them are those between
row_between : (l : List TokenTree) (k : Toks) (m : List Item) → trees_between (row_items l ++ (items k ++ m)) (items (past_ends k) ++ m) ≡ l
row_between [] k m = ends_between k m
row_between (x ∷ l) k m =
    let e = items (past_ends k) ++ m in
    let r = row_items l ++ (items k ++ m) in
    let v = (tree_items x ++ row_items l) ++ (items k ++ m) in
    let q : v ≡ tree_items x ++ r = append_assoc (tree_items x) (row_items l) (items k ++ m) in
    let w : IsReached e r = reached_trans e (items k ++ m) r (reached_outside k m (items k ++ m) there) (reached_after (row_items l) (items k ++ m)) in
    let u : IsReached e v = subst (λ z. IsReached e z) (sym q) (reached_trans e r (tree_items x ++ r) w (reached_after (tree_items x) r)) in
    kept_step x v r e q u (le-ltb (length r) (length e) (reached_shorter e r w)) ∙ ap (λ z. x ∷ z) (row_between l k m)

row_adds : (l : List TokenTree) (k : Toks) → items (row l k) ≡ row_items l ++ items k
row_adds [] k = refl
row_adds (x ∷ l) k = adds_tree x (row l k) ∙ ap (λ z. tree_items x ++ z) (row_adds l k) ∙ sym (append_assoc (tree_items x) (row_items l) (items k))

-- the tokens that are held, from where they begin
pub since_met : (x : TokenStream) (l k : Toks) (f g : Option Span) (d e : Span) (sc : Scope) → Holds x l k → since (position (at l f d sc)) (at k g e sc) ≡ Ok (x, at k g e sc)
unfolding since
since_met x l k f g d e sc h =
    let m = sc.after in
    let from : position (at l f d sc) ≡ row_items (trees x) ++ (items k ++ m) = ap (λ z. items z ++ m) h ∙ ap (λ z. z ++ m) (row_adds (trees x) k) ∙ append_assoc (row_items (trees x)) (items k) m in
    let is : trees_between (position (at l f d sc)) (outside (at k g e sc)) ≡ trees x = ap (λ z. trees_between z (outside (at k g e sc))) from ∙ row_between (trees x) k m in
    ap (λ z. Ok (z, at k g e sc)) is
