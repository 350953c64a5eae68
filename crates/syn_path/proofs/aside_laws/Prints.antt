-- What trees print that are the same aside from spans: lists that are the same.
use Rattle.std.proofs.Common.{◌≡◌, ℕ, List, [], ◌∷◌, ◌++◌, Option, Some, None, map, option_map, refl, sym, ap, ap₂, ◌∙◌, subst}
use Rattle.std.proofs.lemmas.List.{map-append}
use Rattle.token_core.specs.declared.lit.Lit.{Lit}
use Rattle.token_core.specs.declared.lit.Lit.TheVariants as v
use Rattle.token_core.specs.declared.mark.Mark.{Mark}
use Rattle.token_core.specs.declared.span.DelimSpan.{DelimSpan}
use Rattle.token_core.specs.declared.span.Span.{Span}
use Rattle.token_core.specs.declared.tree.Delimiter.{Delimiter}
use Rattle.token_core.specs.declared.tree.Ident.{Ident}
use Rattle.token_core.specs.declared.tree.Literal.{Literal}
use Rattle.token_core.specs.declared.tree.Punct.{Punct}
use Rattle.token_core.specs.declared.tree.Spacing.{Spacing}
use Rattle.token_core.specs.declared.tree.Spacing.TheVariants.{Alone, Joint}
use Rattle.token_core.specs.declared.tree.TokenTree.TheVariants as t
use Rattle.token_core.specs.Lists.{joined}
use Rattle.token_core.specs.Lits as lits
use Rattle.token_core.specs.Lits.{bool_text}
use Rattle.token_core.specs.Marks.{chars_of}
use Rattle.token_core.specs.Prints as p
use Rattle.token_core.specs.Prints.{Print}
use Rattle.token_core.specs.Same.{bare_tree, Same}
use Rattle.token_core.specs.Spans.{none, delim_span}
use Rattle.token_core.specs.Trees.{TokenStream, group_of, ident, punct, literal}
use Rattle.token_core.proofs.Bares.{bare-ident, bare-punct, bare-literal, bare_stream_is}
use Rattle.token_core.proofs.Rows.{with_each, beside}
use Rattle.syn_path.specs.aside.Tokens as free
use Rattle.syn_path.proofs.aside_laws.Both.{cons_same}
use Rattle.syn_path.proofs.aside_laws.Held.{seen_group}

-- the same trees, one by one
abbrev pub Alike : Print → Print → Type 0
Alike a b = map bare_tree a ≡ map bare_tree b

pub alike_same : (a b : Print) → Alike a b → Same a b
alike_same a b e = bare_stream_is a ∙ e ∙ sym (bare_stream_is b)

pub alike_both : (a b c d : Print) → Alike a b → Alike c d → Alike (a ++ c) (b ++ d)
alike_both a b c d e h = map-append bare_tree a c ∙ ap₂ (λ (x y : Print). x ++ y) e h ∙ sym (map-append bare_tree b d)

-- ---- tokens

pub ident_alike : (i : Ident) → Alike (p.ident i) (p.ident (free.ident i))
ident_alike i = ap (λ z. z ∷ []) (bare-ident i ∙ sym (bare-ident (ident i.text none)))

one_punct : (c : ℕ) (j : Spacing) (a b : Span) → bare_tree (t.Punct (punct c j a)) ≡ bare_tree (t.Punct (punct c j b))
one_punct c j a b = bare-punct (punct c j a) ∙ sym (bare-punct (punct c j b))

one_literal : (l : Literal) → bare_tree (t.Literal l) ≡ bare_tree (t.Literal (free.literal l))
one_literal l = bare-literal l ∙ sym (bare-literal (literal l.kind l.text none))

puncts_alike : (cs : List ℕ) (ss : List Span) → Alike (p.puncts cs ss) (p.puncts cs (free.spans ss))
puncts_alike [] ss = refl
puncts_alike (c ∷ []) [] = refl
puncts_alike (c ∷ []) (a ∷ ss) = ap (λ z. z ∷ []) (one_punct c Alone a none)
puncts_alike (c ∷ d ∷ cs) [] = cons_same (one_punct c Joint none none) (puncts_alike (d ∷ cs) [])
puncts_alike (c ∷ d ∷ cs) (a ∷ ss) = cons_same (one_punct c Joint a none) (puncts_alike (d ∷ cs) ss)

pub mark_alike : {n k : ℕ} (x : Mark n k) → Alike (p.mark x) (p.mark (free.mark x))
mark_alike {n = n} x = puncts_alike (chars_of n) x.spans

pub lit_alike : (x : Lit) → Alike (lits.print x) (lits.print (free.lit x))
lit_alike (v.Literal l) = ap (λ z. z ∷ []) (one_literal l)
lit_alike (v.Bool b) = ap (λ z. z ∷ []) (bare-ident (ident (bool_text b.value) b.span) ∙ sym (bare-ident (ident (bool_text b.value) none)))
lit_alike (v.Negative n) = cons_same (one_punct 45 Alone n.minus none) (cons_same (one_literal n.number) refl)

pub group_alike : (d : Delimiter) (a b : DelimSpan) (c e : TokenStream) → Alike c e → Alike (p.group d c a) (p.group d e b)
group_alike d a b c e h =
    ap (λ z. z ∷ []) (seen_group d a c ∙ ap (λ z. t.Group (group_of d z (delim_span none none))) (alike_same c e h) ∙ sym (seen_group d b e))

-- ---- what may be missing, and values with marks between them

pub optional_alike : {T : Type 0} (f : T → Print) (h : T → T) → ((x : T) → Alike (f x) (f (h x))) → (o : Option T) → Alike (p.optional f o) (p.optional f (option_map h o))
optional_alike f h e None = refl
optional_alike f h e (Some x) = e x

module _ {T P : Type 0} (f : T → Print) (h : T → T) (g : P → Print) (k : P → P) (marks : (x : P) → Alike (g x) (g (k x))) where
  abbrev One : T → Type 0
  One x = Alike (f x) (f (h x))

  pub joined_each : (l : List ((x : T) × One x)) (ps : List P) → Alike (joined f g (map (λ (a : (x : T) × One x). a.0) l) ps) (joined f g (map h (map (λ (a : (x : T) × One x). a.0) l)) (map k ps))
  joined_each [] ps = refl
  joined_each (a ∷ l) [] = alike_both (f a.0) (f (h a.0)) _ _ a.1 (joined_each l [])
  joined_each (a ∷ l) (q ∷ ps) = alike_both (f a.0) (f (h a.0)) _ _ a.1 (alike_both (g q) (g (k q)) _ _ (marks q) (joined_each l ps))

  pub joined_alike : ((x : T) → One x) → (xs : List T) (ps : List P) → Alike (joined f g xs ps) (joined f g (map h xs) (map k ps))
  joined_alike each xs ps = subst (λ z. Alike (joined f g z ps) (joined f g (map h z) (map k ps))) (beside One each xs) (joined_each (with_each One each xs) ps)
