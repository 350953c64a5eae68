-- Trees without their spans: their equations.
use Rattle.std.specs.Prelude.{Decides}
use Rattle.std.specs.Str.{bytes_eq}
use Rattle.std.proofs.lemmas.Slice.Eq.{bytes_eq-Decides}
use Rattle.std.proofs.Math.ListN.{length-map}
use Rattle.token_core.specs.declared.tree.Spacing.{Spacing}
use Rattle.token_core.specs.declared.tree.LitKind.{LitKind}
use Rattle.token_core.specs.Toks.{Bytes}
use Rattle.std.proofs.Common.{◌≡◌, ℕ, Option, Some, None, zero, suc, ◌<◌, Bool, true, false, List, [], ◌∷◌, map, length, get_or, refl, sym, ap, ◌∙◌, arith}
use Rattle.token_core.specs.declared.tree.Ident.{Ident}
use Rattle.token_core.specs.declared.tree.Punct.{Punct}
use Rattle.token_core.specs.declared.tree.Literal.{Literal}
use Rattle.token_core.specs.declared.tree.TokenTree.{TokenTree, roll-TokenTree, map-TokenTree, out-TokenTree, roll-out-TokenTree}
use Rattle.token_core.specs.declared.tree.TokenTree.TheVariants.{outs-Ident, outs-Punct, outs-Literal, outs-Group}
use Rattle.token_core.specs.declared.tree.TokenTree.TheVariants as t
use Rattle.token_core.specs.declared.tree.TokenTree.TheOpen as o
use Rattle.token_core.specs.declared.tree.TokenTree.TheFolds.{fold-roll-TokenTree, fold-roll-Group}
use Rattle.token_core.specs.declared.tree.Group.{Group, roll-Group, roll-out-Group, out-Group, out-roll-Group}
use Rattle.token_core.specs.Spans.{none, delim_span}
use Rattle.token_core.specs.Trees.{TokenStream, ident, punct, literal, group_of, trees, delimiter_of, content_of}
use Rattle.token_core.specs.Same as s
use Rattle.token_core.specs.Same.{bare_tree, bare_group, bare_stream}

bare-tree : (x : o.TokenTree-F TokenTree Group) → bare_tree (roll-TokenTree x) ≡ s.tree_step (map-TokenTree TokenTree Group TokenTree Group bare_tree bare_group x)
unfolding bare_tree bare_group
bare-tree x = fold-roll-TokenTree TokenTree Group s.tree_step s.group_step x

bare-group : (x : o.Group-F TokenTree Group) → bare_group (roll-Group x) ≡ group_of x.content.1 (bare_stream x.content.0) (delim_span none none)
unfolding bare_tree bare_group bare_stream
bare-group x = fold-roll-Group TokenTree Group s.tree_step s.group_step x

pub bare-ident : (i : Ident) → bare_tree (t.Ident i) ≡ t.Ident (ident i.text none)
bare-ident i = ap bare_tree (sym (t.rolls-Ident i)) ∙ bare-tree (o.Ident i)

pub bare-punct : (p : Punct) → bare_tree (t.Punct p) ≡ t.Punct (punct p.ch p.spacing none)
bare-punct p = ap bare_tree (sym (t.rolls-Punct p)) ∙ bare-tree (o.Punct p)

pub bare-literal : (l : Literal) → bare_tree (t.Literal l) ≡ t.Literal (literal l.kind l.text none)
bare-literal l = ap bare_tree (sym (t.rolls-Literal l)) ∙ bare-tree (o.Literal l)

pub bare-of-group : (g : Group) → bare_tree (t.Group g) ≡ t.Group (bare_group g)
bare-of-group g = ap bare_tree (sym (t.rolls-Group g)) ∙ bare-tree (o.Group g)

pub bare_group_is : (g : Group) → bare_group g ≡ group_of (delimiter_of g) (bare_stream (content_of g)) (delim_span none none)
bare_group_is g = ap bare_group (sym (roll-out-Group g)) ∙ bare-group (out-Group g)

pub bare_stream_is : (c : TokenStream) → bare_stream c ≡ map bare_tree c
unfolding bare_stream
bare_stream_is c = refl

-- ---- trees of different kinds

abbrev Layer : Type 0
Layer = o.TokenTree-F TokenTree Group

abbrev kind : Layer → ℕ
kind (o.Ident i) = 0
kind (o.Punct p) = 1
kind (o.Literal l) = 2
kind (o.Group g) = 3

bare_layer : (x : Layer) → kind (out-TokenTree (s.tree_step (map-TokenTree TokenTree Group TokenTree Group bare_tree bare_group x))) ≡ kind x
bare_layer (o.Ident i) = ap kind (outs-Ident (ident i.text none))
bare_layer (o.Punct p) = ap kind (outs-Punct (punct p.ch p.spacing none))
bare_layer (o.Literal l) = ap kind (outs-Literal (literal l.kind l.text none))
bare_layer (o.Group g) = ap kind (outs-Group (bare_group g))

bare_kind : (x : TokenTree) → kind (out-TokenTree (bare_tree x)) ≡ kind (out-TokenTree x)
bare_kind x = ap (λ z. kind (out-TokenTree (bare_tree z))) (sym (roll-out-TokenTree x)) ∙ ap (λ z. kind (out-TokenTree z)) (bare-tree (out-TokenTree x)) ∙ bare_layer (out-TokenTree x)

differ : (x y : TokenTree) (m n : ℕ) → kind (out-TokenTree x) ≡ m → kind (out-TokenTree y) ≡ n → (m ≡ n → ⊥) → Decides false (bare_tree x ≡ bare_tree y)
differ x y m n h k f = ((λ e. absurd (cc)), (λ e. absurd (f (sym h ∙ sym (bare_kind x) ∙ ap (λ z. kind (out-TokenTree z)) e ∙ bare_kind y ∙ k))))

is_ident : (x : TokenTree) (i : Ident) → x ≡ t.Ident i → kind (out-TokenTree x) ≡ 0
is_ident x i e = ap (λ z. kind (out-TokenTree z)) e ∙ ap kind (outs-Ident i)

is_punct : (x : TokenTree) (p : Punct) → x ≡ t.Punct p → kind (out-TokenTree x) ≡ 1
is_punct x p e = ap (λ z. kind (out-TokenTree z)) e ∙ ap kind (outs-Punct p)

is_literal : (x : TokenTree) (l : Literal) → x ≡ t.Literal l → kind (out-TokenTree x) ≡ 2
is_literal x l e = ap (λ z. kind (out-TokenTree z)) e ∙ ap kind (outs-Literal l)

is_group : (x : TokenTree) (g : Group) → x ≡ t.Group g → kind (out-TokenTree x) ≡ 3
is_group x g e = ap (λ z. kind (out-TokenTree z)) e ∙ ap kind (outs-Group g)

pub ident_punct : (i : Ident) (x : TokenTree) (p : Punct) → x ≡ t.Punct p → Decides false (bare_tree (t.Ident i) ≡ bare_tree x)
ident_punct i x p e = differ (t.Ident i) x 0 1 (is_ident _ i refl) (is_punct x p e) (λ h. cc)

pub ident_literal : (i : Ident) (x : TokenTree) (l : Literal) → x ≡ t.Literal l → Decides false (bare_tree (t.Ident i) ≡ bare_tree x)
ident_literal i x l e = differ (t.Ident i) x 0 2 (is_ident _ i refl) (is_literal x l e) (λ h. cc)

pub ident_group : (i : Ident) (x : TokenTree) (g : Group) → x ≡ t.Group g → Decides false (bare_tree (t.Ident i) ≡ bare_tree x)
ident_group i x g e = differ (t.Ident i) x 0 3 (is_ident _ i refl) (is_group x g e) (λ h. cc)

pub punct_ident : (p : Punct) (x : TokenTree) (i : Ident) → x ≡ t.Ident i → Decides false (bare_tree (t.Punct p) ≡ bare_tree x)
punct_ident p x i e = differ (t.Punct p) x 1 0 (is_punct _ p refl) (is_ident x i e) (λ h. cc)

pub punct_literal : (p : Punct) (x : TokenTree) (l : Literal) → x ≡ t.Literal l → Decides false (bare_tree (t.Punct p) ≡ bare_tree x)
punct_literal p x l e = differ (t.Punct p) x 1 2 (is_punct _ p refl) (is_literal x l e) (λ h. cc)

pub punct_group : (p : Punct) (x : TokenTree) (g : Group) → x ≡ t.Group g → Decides false (bare_tree (t.Punct p) ≡ bare_tree x)
punct_group p x g e = differ (t.Punct p) x 1 3 (is_punct _ p refl) (is_group x g e) (λ h. cc)

pub literal_ident : (l : Literal) (x : TokenTree) (i : Ident) → x ≡ t.Ident i → Decides false (bare_tree (t.Literal l) ≡ bare_tree x)
literal_ident l x i e = differ (t.Literal l) x 2 0 (is_literal _ l refl) (is_ident x i e) (λ h. cc)

pub literal_punct : (l : Literal) (x : TokenTree) (p : Punct) → x ≡ t.Punct p → Decides false (bare_tree (t.Literal l) ≡ bare_tree x)
literal_punct l x p e = differ (t.Literal l) x 2 1 (is_literal _ l refl) (is_punct x p e) (λ h. cc)

pub literal_group : (l : Literal) (x : TokenTree) (g : Group) → x ≡ t.Group g → Decides false (bare_tree (t.Literal l) ≡ bare_tree x)
literal_group l x g e = differ (t.Literal l) x 2 3 (is_literal _ l refl) (is_group x g e) (λ h. cc)

pub group_ident : (g : Group) (x : TokenTree) (i : Ident) → x ≡ t.Ident i → Decides false (bare_tree (t.Group g) ≡ bare_tree x)
group_ident g x i e = differ (t.Group g) x 3 0 (is_group _ g refl) (is_ident x i e) (λ h. cc)

pub group_punct : (g : Group) (x : TokenTree) (p : Punct) → x ≡ t.Punct p → Decides false (bare_tree (t.Group g) ≡ bare_tree x)
group_punct g x p e = differ (t.Group g) x 3 1 (is_group _ g refl) (is_punct x p e) (λ h. cc)

pub group_literal : (g : Group) (x : TokenTree) (l : Literal) → x ≡ t.Literal l → Decides false (bare_tree (t.Group g) ≡ bare_tree x)
group_literal g x l e = differ (t.Group g) x 3 2 (is_group _ g refl) (is_literal x l e) (λ h. cc)

-- ---- trees of one kind

abbrev text_in : Layer → Bytes
text_in (o.Ident i) = i.text
text_in (o.Punct p) = []
text_in (o.Literal l) = l.text
text_in (o.Group g) = []

abbrev punct_in : Layer → Option (ℕ × Spacing)
punct_in (o.Ident i) = None
punct_in (o.Punct p) = Some (p.ch, p.spacing)
punct_in (o.Literal l) = None
punct_in (o.Group g) = None

abbrev literal_in : Layer → Option LitKind
literal_in (o.Ident i) = None
literal_in (o.Punct p) = None
literal_in (o.Literal l) = Some l.kind
literal_in (o.Group g) = None

abbrev group_in : Layer → Option Group
group_in (o.Ident i) = None
group_in (o.Punct p) = None
group_in (o.Literal l) = None
group_in (o.Group g) = Some g

pub same_ident : (a b : Ident) (x : TokenTree) (r : Bool) → x ≡ t.Ident b → r ≡ bytes_eq a.text b.text → Decides r (bare_tree (t.Ident a) ≡ bare_tree x)
same_ident a b x r e q =
    let d = bytes_eq-Decides a.text b.text in (
      (λ h. bare-ident a ∙ ap (λ z. t.Ident (ident z none)) (d.0 (sym q ∙ h)) ∙ sym (bare-ident b) ∙ ap bare_tree (sym e)),
      (λ h.
          let k : t.Ident (ident a.text none) ≡ t.Ident (ident b.text none) = sym (bare-ident a) ∙ h ∙ ap bare_tree e ∙ bare-ident b in
          q ∙ d.1 (sym (ap text_in (outs-Ident (ident a.text none))) ∙ ap (λ z. text_in (out-TokenTree z)) k ∙ ap text_in (outs-Ident (ident b.text none)))),
    )

same_some : {X : Type 0} (a b : X) → ◌≡◌ {A = Option X} (Some a) (Some b) → a ≡ b
same_some a b e = cc

pub same_punct : (a b : Punct) (x : TokenTree) (r : Bool) → x ≡ t.Punct b → Decides r ((a.ch ≡ b.ch) × (a.spacing ≡ b.spacing)) → Decides r (bare_tree (t.Punct a) ≡ bare_tree x)
same_punct a b x r e d = (
  (λ h. let k = d.0 h in bare-punct a ∙ ap (λ z. t.Punct (punct z a.spacing none)) k.0 ∙ ap (λ z. t.Punct (punct b.ch z none)) k.1 ∙ sym (bare-punct b) ∙ ap bare_tree (sym e)),
  (λ h.
      let k : t.Punct (punct a.ch a.spacing none) ≡ t.Punct (punct b.ch b.spacing none) = sym (bare-punct a) ∙ h ∙ ap bare_tree e ∙ bare-punct b in
      let w : ◌≡◌ {A = ℕ × Spacing} (a.ch, a.spacing) (b.ch, b.spacing) =
      same_some _ _ (sym (ap punct_in (outs-Punct (punct a.ch a.spacing none))) ∙ ap (λ z. punct_in (out-TokenTree z)) k ∙ ap punct_in (outs-Punct (punct b.ch b.spacing none))) in
      d.1 (ap (λ (z : ℕ × Spacing). z.0) w, ap (λ (z : ℕ × Spacing). z.1) w)),
)

pub same_literal : (a b : Literal) (x : TokenTree) (r : Bool) → x ≡ t.Literal b → Decides r ((a.kind ≡ b.kind) × (a.text ≡ b.text)) → Decides r (bare_tree (t.Literal a) ≡ bare_tree x)
same_literal a b x r e d = (
  (λ h. let k = d.0 h in bare-literal a ∙ ap (λ z. t.Literal (literal z a.text none)) k.0 ∙ ap (λ z. t.Literal (literal b.kind z none)) k.1 ∙ sym (bare-literal b) ∙ ap bare_tree (sym e)),
  (λ h.
      let k : t.Literal (literal a.kind a.text none) ≡ t.Literal (literal b.kind b.text none) = sym (bare-literal a) ∙ h ∙ ap bare_tree e ∙ bare-literal b in
      let w : a.kind ≡ b.kind =
      same_some _ _ (sym (ap literal_in (outs-Literal (literal a.kind a.text none))) ∙ ap (λ z. literal_in (out-TokenTree z)) k ∙ ap literal_in (outs-Literal (literal b.kind b.text none))) in
      d.1 (w, sym (ap text_in (outs-Literal (literal a.kind a.text none))) ∙ ap (λ z. text_in (out-TokenTree z)) k ∙ ap text_in (outs-Literal (literal b.kind b.text none)))),
)

pub same_group : (a b : Group) (x : TokenTree) (r : Bool) → x ≡ t.Group b → Decides r (bare_group a ≡ bare_group b) → Decides r (bare_tree (t.Group a) ≡ bare_tree x)
same_group a b x r e d = (
  (λ h. bare-of-group a ∙ ap t.Group (d.0 h) ∙ sym (bare-of-group b) ∙ ap bare_tree (sym e)),
  (λ h.
      let k : t.Group (bare_group a) ≡ t.Group (bare_group b) = sym (bare-of-group a) ∙ h ∙ ap bare_tree e ∙ bare-of-group b in
      d.1 (same_some _ _ (sym (ap group_in (outs-Group (bare_group a))) ∙ ap (λ z. group_in (out-TokenTree z)) k ∙ ap group_in (outs-Group (bare_group b))))),
)

-- ---- groups and lists

delimiter_bare : (g : Group) → delimiter_of (bare_group g) ≡ delimiter_of g
delimiter_bare g = ap delimiter_of (bare_group_is g) ∙ ap (λ (y : o.Group-F TokenTree Group). y.content.1) (out-roll-Group (record { content = (bare_stream (content_of g), delimiter_of g); span = delim_span none none }))

content_bare : (g : Group) → content_of (bare_group g) ≡ bare_stream (content_of g)
content_bare g = ap content_of (bare_group_is g) ∙ ap (λ (y : o.Group-F TokenTree Group). y.content.0) (out-roll-Group (record { content = (bare_stream (content_of g), delimiter_of g); span = delim_span none none }))

pub other_delimiter : (a b : Group) → (delimiter_of a ≡ delimiter_of b → ⊥) → Decides false (bare_group a ≡ bare_group b)
other_delimiter a b h = ((λ e. absurd (cc)), (λ e. absurd (h (sym (delimiter_bare a) ∙ ap delimiter_of e ∙ delimiter_bare b))))

pub same_content : (a b : Group) (r : Bool) → delimiter_of a ≡ delimiter_of b → Decides r (bare_stream (content_of a) ≡ bare_stream (content_of b)) → Decides r (bare_group a ≡ bare_group b)
same_content a b r h d = (
  (λ e. bare_group_is a ∙ ap (λ z. group_of z (bare_stream (content_of a)) (delim_span none none)) h ∙ ap (λ z. group_of (delimiter_of b) z (delim_span none none)) (d.0 e) ∙ sym (bare_group_is b)),
  (λ e. d.1 (sym (content_bare a) ∙ ap content_of e ∙ content_bare b)),
)

bare_trees : (a b : TokenStream) → bare_stream a ≡ bare_stream b → map bare_tree (trees a) ≡ map bare_tree (trees b)
bare_trees a b e = sym (bare_stream_is a) ∙ e ∙ bare_stream_is b

pub other_length : (a b : TokenStream) → (length (trees a) ≡ length (trees b) → ⊥) → Decides false (bare_stream a ≡ bare_stream b)
other_length a b h = ((λ e. absurd (cc)), (λ e. absurd (h (sym (length-map (trees a) bare_tree) ∙ ap length (bare_trees a b e) ∙ length-map (trees b) bare_tree))))

bare_at : (xs ys : List TokenTree) (i : ℕ) (x y : TokenTree) → map bare_tree xs ≡ map bare_tree ys → i < length xs → x ≡ get_or xs i x → y ≡ get_or ys i y → bare_tree x ≡ bare_tree y
bare_at [] ys i x y e h p q = absurd (omega (arith, h))
bare_at (z ∷ xs) [] i x y e h p q = cc
bare_at (z ∷ xs) (w ∷ ys) zero x y e h p q =
    let k : bare_tree z ≡ bare_tree w = cc in ap bare_tree p ∙ k ∙ ap bare_tree (sym q)
bare_at (z ∷ xs) (w ∷ ys) (suc i) x y e h p q =
    let k : map bare_tree xs ≡ map bare_tree ys = cc in bare_at xs ys i x y k (omega (arith, h)) p q

pub other_tree : (a b : TokenStream) (xs ys : List TokenTree) (i j : ℕ) (x y : TokenTree) → xs ≡ trees a → ys ≡ trees b → j ≡ i → i < length xs → x ≡ get_or xs i x → y ≡ get_or ys j y → Decides false (bare_tree x ≡ bare_tree y) →
    Decides false (bare_stream a ≡ bare_stream b)
other_tree a b xs ys i j x y m n o h p q d = (
  (λ e. absurd (cc)),
  (λ e. d.1 (bare_at xs ys i x y (ap (map bare_tree) m ∙ bare_trees a b e ∙ ap (map bare_tree) (sym n)) h p (q ∙ ap (λ k. get_or ys k y) o))),
)

pub all_same : (a b : TokenStream) → map bare_tree (trees a) ≡ map bare_tree (trees b) → Decides true (bare_stream a ≡ bare_stream b)
all_same a b e = ((λ h. bare_stream_is a ∙ e ∙ sym (bare_stream_is b)), (λ h. refl))
