-- Attributes, metas and expressions on lists that are the same aside from spans.
use Rattle.std.proofs.Common.{◌≡◌, Bool, true, List, [], ◌∷◌, map, refl, sym, ap, ap₂, ◌∙◌}
use Rattle.token_core.specs.declared.lit.Lit.{Lit}
use Rattle.token_core.specs.declared.span.DelimSpan.{DelimSpan}
use Rattle.token_core.specs.declared.tree.Delimiter.{Delimiter}
use Rattle.token_core.specs.declared.tree.Delimiter.TheVariants.{Bracket}
use Rattle.token_core.specs.declared.token.Brace.{Brace}
use Rattle.token_core.specs.Groups as groups
use Rattle.token_core.specs.Headline.{Grammar, Lawful}
use Rattle.token_core.specs.Spellings.{IsLit, IsMark}
use Rattle.syn_path.specs.Traits.{Subtree}
use Rattle.syn_path.specs.mac.Macros.{Bang}
use Rattle.token_core.specs.Spans.{none, delim_span}
use Rattle.token_core.specs.Toks.{Toks, done, group}
use Rattle.token_core.specs.Trees.{TokenStream, toks, ident}
use Rattle.syn_attr.specs.declared.attr.AttrStyle.TheVariants as styles
use Rattle.syn_attr.specs.declared.attr.Meta.{Meta, roll-Meta, map-Meta}
use Rattle.syn_attr.specs.declared.attr.Meta.TheVariants as metas
use Rattle.syn_attr.specs.declared.attr.Meta.TheOpen as o
use Rattle.syn_attr.specs.declared.attr.Meta.TheFolds.{fold-roll-Meta, fold-roll-Expr, fold-roll-MetaNameValue}
use Rattle.syn_attr.specs.declared.attr.MetaList.{MetaList}
use Rattle.syn_attr.specs.declared.attr.MetaNameValue.{MetaNameValue}
use Rattle.syn_attr.specs.declared.expr.Expr.{Expr}
use Rattle.syn_attr.specs.declared.expr.Expr.TheVariants as e
use Rattle.syn_attr.specs.declared.expr.ExprRange.{ExprRange}
use Rattle.syn_path.specs.declared.mac.MacroDelimiter.{MacroDelimiter}
use Rattle.syn_path.specs.declared.supplied.Place.{Place}
use Rattle.syn_path.specs.declared.supplied.Place.TheVariants.{Value, Block, ArrayLen}
use Rattle.syn_path.specs.mac.Spelling.{Delimits}
use Rattle.syn_path.specs.path.Paths.{ModPath, nothing}
use Rattle.syn_attr.specs.attr.Attrs.{Pound, Equals, Attribute, word_path, list_of, name_value_of, literal, attribute_of, block_of, expr_path_of, lit_of}
use Rattle.syn_attr.specs.attr.Grammars as grammars
use Rattle.syn_attr.specs.laws.Lengths.{spells_len}
use Rattle.syn_attr.specs.attr.Spelling.{AreAll, no_more, one_more, IsMetaPath, unsafe_path, mod_path, IsMetaList, a_meta_list, IsValue, a_literal, supplied, IsNameValue, a_name_value, IsMeta, a_path, a_list, a_value, IsOuter, an_outer, IsInner, an_inner, IsConst, a_lone_literal, a_block, IsConstDefault, a_const, a_word}
use Rattle.syn_attr.proofs.attr_laws.Laws.{list_lawful}
use Rattle.syn_path.specs.aside.Lists.{Asides, Moves, MovesSubtree}
use Rattle.syn_path.specs.aside.Tokens as tokens
use Rattle.syn_path.specs.aside.Paths as paths
use Rattle.syn_laws.specs.aside.Attrs as free
use Rattle.syn_path.proofs.aside_laws.Both.{of3, cons_same}
use Rattle.syn_path.proofs.aside_laws.Same.{Same, same_done, same_word, same_group, same_of, bare_same, visible_same, same_sym, Rest, all_left, past_word, past_group, onward, Moved, Mover, aside, moves}
use Rattle.syn_path.proofs.aside_laws.Tokens.{mark_moves, lit_moves}
use Rattle.syn_path.proofs.aside_laws.Paths.{path_move, brackets_move, held_move}

-- a tree that spells all of a list
pub record Kept {A : Type 0} (fr : A → A) (Is : A → Toks → Type 0) (x : A) (m : Toks) : Type 0 where
  pub tree : A
  pub is : Is tree m
  pub same : fr tree ≡ fr x

-- ---- paths and lists of metas

meta_path_moves : {clear : Bool} {x : ModPath} {l r m : Toks} → IsMetaPath clear x l r → Same l m → Moved paths.mod_path (IsMetaPath clear) x r m
meta_path_moves (unsafe_path h) (same_word {t = t} {b = b} s) = record { tree = word_path (ident t b); rest = _; is = unsafe_path h; same = refl; on = s; part = past_word all_left }
meta_path_moves (mod_path i) s = let q = path_move nothing (λ a. a) i s in record { tree = q.tree; rest = q.rest; is = mod_path q.is; same = q.same; on = q.on; part = q.part }

meta_list_at : {clear : Bool} (x : ModPath) (e : MacroDelimiter) (d : Delimiter) (b : DelimSpan) (c r m k : Toks) (y : TokenStream) (p : ModPath) → Same (group d b c r) k → Rest k m →
    IsMetaPath clear p m k → paths.mod_path p ≡ paths.mod_path x → Delimits e d b → c ≡ toks y → Moved free.list (IsMetaList clear) (list_of x (e, y)) r m
meta_list_at x e d b c r m k y p (same_group {b = f} v i s) w q h o u =
    let t = brackets_move f o in
    let z = held_move u i in
    record { tree = list_of p (t.brackets, z.tokens); rest = _; is = a_meta_list q t.is z.is; same = of3 (λ p e y. list_of p (e, y)) h t.same z.same; on = s; part = onward (past_group all_left) w }

meta_list_moves : {clear : Bool} {x : MetaList} {l r m : Toks} → IsMetaList clear x l r → Same l m → Moved free.list (IsMetaList clear) x r m
meta_list_moves (a_meta_list i h e) s = let p = meta_path_moves i s in meta_list_at _ _ _ _ _ _ _ _ _ p.tree p.on p.part p.is p.same h e

-- ---- trees without spans, by their parts

module _ {X : Type 0} (fx : X → X) where
  by_meta : (z : o.Meta-F X (Meta X) (Expr X) (MetaNameValue X) (ExprRange X)) → free.meta fx (roll-Meta X z) ≡
      free.meta_step fx (map-Meta X (Meta X) (Expr X) (MetaNameValue X) (ExprRange X) (Meta X) (Expr X) (MetaNameValue X) (ExprRange X) (free.meta fx) (free.value fx) (free.name_value fx) (free.range fx) z)
  unfolding free.meta free.value free.name_value free.range
  by_meta z = fold-roll-Meta X (Meta X) (Expr X) (MetaNameValue X) (ExprRange X) (free.meta_step fx) (free.expr_step fx) (free.name_value_step fx) (free.range_step fx) z

  free-meta-path : (p : ModPath) → free.meta fx (metas.Path p) ≡ metas.Path (paths.mod_path p)
  free-meta-path p = ap (free.meta fx) (sym (metas.rolls-Path p)) ∙ by_meta (o.Meta::Path p)

  free-meta-list : (x : MetaList) → free.meta fx (metas.List x) ≡ metas.List (free.list x)
  free-meta-list x = ap (free.meta fx) (sym (metas.rolls-List x)) ∙ by_meta (o.List x)

  free-meta-value : (x : MetaNameValue X) → free.meta fx (metas.NameValue x) ≡ metas.NameValue (free.name_value fx x)
  free-meta-value x = ap (free.meta fx) (sym (metas.rolls-NameValue x)) ∙ by_meta (o.NameValue x)

  free-name-value : (p : ModPath) (q : Equals) (v : Expr X) → free.name_value fx (name_value_of p q v) ≡ name_value_of (paths.mod_path p) (tokens.mark q) (free.value fx v)
  unfolding free.meta free.value free.name_value free.range
  free-name-value p q v = fold-roll-MetaNameValue X (Meta X) (Expr X) (MetaNameValue X) (ExprRange X) (free.meta_step fx) (free.expr_step fx) (free.name_value_step fx) (free.range_step fx) (record { path = p; eq_token = q; value = v })

  pub free-literal : (x : Lit) → free.value fx (literal x) ≡ literal (tokens.lit x)
  unfolding free.meta free.value free.name_value free.range
  free-literal x = ap (free.value fx) (sym (e.rolls-Lit (lit_of [] x))) ∙ fold-roll-Expr X (Meta X) (Expr X) (MetaNameValue X) (ExprRange X) (free.meta_step fx) (free.expr_step fx) (free.name_value_step fx) (free.range_step fx) (o.Lit (record { attrs = []; lit = x }))

  pub free-other : (x : X) → free.value fx (e.Other x) ≡ e.Other (fx x)
  unfolding free.meta free.value free.name_value free.range
  free-other x = ap (free.value fx) (sym (e.rolls-Other x)) ∙ fold-roll-Expr X (Meta X) (Expr X) (MetaNameValue X) (ExprRange X) (free.meta_step fx) (free.expr_step fx) (free.name_value_step fx) (free.range_step fx) (o.Other x)

  pub free-block : (b : Brace) (x : X) → free.value fx (e.Block (block_of [] b x)) ≡ e.Block (block_of [] (tokens.brace b) (fx x))
  unfolding free.meta free.value free.name_value free.range
  free-block b x = ap (free.value fx) (sym (e.rolls-Block (block_of [] b x))) ∙ fold-roll-Expr X (Meta X) (Expr X) (MetaNameValue X) (ExprRange X) (free.meta_step fx) (free.expr_step fx) (free.name_value_step fx) (free.range_step fx) (o.Block (record { attrs = []; brace_token = b; body = x }))

  pub free-path : (p : ModPath) → free.value fx (e.Path (expr_path_of [] p)) ≡ e.Path (expr_path_of [] (paths.mod_path p))
  unfolding free.meta free.value free.name_value free.range
  free-path p = ap (free.value fx) (sym (e.rolls-Path (expr_path_of [] p))) ∙ fold-roll-Expr X (Meta X) (Expr X) (MetaNameValue X) (ExprRange X) (free.meta_step fx) (free.expr_step fx) (free.name_value_step fx) (free.range_step fx) (o.Expr::Path (record { attrs = []; path = p }))

-- ---- values, metas and attributes

module _ {X : Type 0} (spells : Place → X → Toks → Type 0) (fx : X → X) (given : MovesSubtree spells fx) where
  -- a supplied subtree
  pub subtree_moves : (w : Place) {x : X} {l m : Toks} → spells w x l → Same l m → Kept fx (spells w) x m
  subtree_moves w {x} {l} {m} i s = let q = given w x l m (visible_same (same_sym s)) (visible_same s) i (bare_same s) in record { tree = q.0; is = q.1; same = q.2 }

  ended : (x : Lit) (m k : Toks) (z : Lit) → Same done k → IsLit z m k → tokens.lit z ≡ tokens.lit x → Kept (free.value fx) (IsValue spells true) (literal x) m
  ended x m k z same_done i h = record { tree = literal z; is = a_literal i; same = free-literal fx z ∙ ap literal h ∙ sym (free-literal fx x) }

  value_moves : {x : Expr X} {l m : Toks} → IsValue spells true x l → Same l m → Kept (free.value fx) (IsValue spells true) x m
  value_moves (a_literal {x = x} i) s = let q = lit_moves i s in ended x _ q.rest q.tree q.on q.is q.same
  value_moves (supplied {x = x} i) s = let q = subtree_moves Value i s in record { tree = e.Other q.tree; is = supplied q.is; same = free-other fx q.tree ∙ ap e.Other q.same ∙ sym (free-other fx x) }

  pub name_value_moves : {x : MetaNameValue X} {l m : Toks} → IsNameValue spells true x l → Same l m → Kept (free.name_value fx) (IsNameValue spells true) x m
  name_value_moves (a_name_value {p = p} {q = q} {v = v} i j k) s =
      let a = meta_path_moves i s in
      let b = mark_moves j a.on in
      let c = value_moves k b.on in
      record { tree = name_value_of a.tree b.tree c.tree; is = a_name_value a.is b.is c.is; same = free-name-value fx a.tree b.tree c.tree ∙ of3 name_value_of a.same b.same c.same ∙ sym (free-name-value fx p q v) }

  path_ended : (x : ModPath) (m k : Toks) (z : ModPath) → Same done k → IsMetaPath true z m k → paths.mod_path z ≡ paths.mod_path x → Kept (free.meta fx) (IsMeta spells true) (metas.Path x) m
  path_ended x m k z same_done i h = record { tree = metas.Path z; is = a_path i; same = free-meta-path fx z ∙ ap metas.Path h ∙ sym (free-meta-path fx x) }

  list_ended : (x : MetaList) (m k : Toks) (z : MetaList) → Same done k → IsMetaList true z m k → free.list z ≡ free.list x → Kept (free.meta fx) (IsMeta spells true) (metas.List x) m
  list_ended x m k z same_done i h = record { tree = metas.List z; is = a_list i; same = free-meta-list fx z ∙ ap metas.List h ∙ sym (free-meta-list fx x) }

  pub meta_moves : {x : Meta X} {l m : Toks} → IsMeta spells true x l → Same l m → Kept (free.meta fx) (IsMeta spells true) x m
  meta_moves (a_path {p = p} i) s = let q = meta_path_moves i s in path_ended p _ q.rest q.tree q.on q.is q.same
  meta_moves (a_list {x = x} i) s = let q = meta_list_moves i s in list_ended x _ q.rest q.tree q.on q.is q.same
  meta_moves (a_value {x = x} i) s = let q = name_value_moves i s in record { tree = metas.NameValue q.tree; is = a_value q.is; same = free-meta-value fx q.tree ∙ ap metas.NameValue q.same ∙ sym (free-meta-value fx x) }

  outer_at : (x : Pound) (b : DelimSpan) (y : Meta X) (c r m k : Toks) (p : Pound) → Same (group Bracket b c r) k → Rest k m → IsMark true p m k → tokens.mark p ≡ tokens.mark x → IsMeta spells true y c →
      Moved (free.attribute fx) (IsOuter spells true) (attribute_of x styles.Outer (groups.bracket b) y) r m
  outer_at x b y c r m k p (same_group {b = f} v i s) w j h u =
      let q = meta_moves u i in
      record { tree = attribute_of p styles.Outer (groups.bracket f) q.tree; rest = _; is = an_outer j q.is; same = ap₂ (λ p z. attribute_of p styles.Outer (groups.bracket (delim_span none none)) z) h q.same; on = s; part = onward (past_group all_left) w }

  pub outer_moves : {x : Attribute X} {l r m : Toks} → IsOuter spells true x l r → Same l m → Moved (free.attribute fx) (IsOuter spells true) x r m
  outer_moves (an_outer i j) s = let q = mark_moves i s in outer_at _ _ _ _ _ _ _ q.tree q.on q.part q.is q.same j

  inner_at : (x : Pound) (z : Bang) (b : DelimSpan) (y : Meta X) (c r l m k : Toks) (p : Pound) (n : Bang) → Same (group Bracket b c r) k → Rest k l → Rest l m → IsMark true p m l → tokens.mark p ≡ tokens.mark x → IsMark true n l k → tokens.mark n ≡ tokens.mark z → IsMeta spells true y c →
      Moved (free.attribute fx) (IsInner spells true) (attribute_of x (styles.Inner z) (groups.bracket b) y) r m
  inner_at x z b y c r l m k p n (same_group {b = f} v i s) w w' j h o g u =
      let q = meta_moves u i in
      record {
        tree = attribute_of p (styles.Inner n) (groups.bracket f) q.tree;
        rest = _;
        is = an_inner j o q.is;
        same = of3 (λ p n t. attribute_of p (styles.Inner n) (groups.bracket (delim_span none none)) t) h g q.same;
        on = s;
        part = onward (past_group all_left) (onward w w');
      }

  pub inner_moves : {x : Attribute X} {l r m : Toks} → IsInner spells true x l r → Same l m → Moved (free.attribute fx) (IsInner spells true) x r m
  inner_moves (an_inner i k j) s =
      let q = mark_moves i s in
      let p = mark_moves k q.on in
      inner_at _ _ _ _ _ _ _ _ _ q.tree p.tree p.on p.part q.part q.is q.same p.is p.same j

-- ---- one after the other

module _ {A : Type 0} (fr : A → A) {Is : A → Toks → Toks → Type 0} where
  pub all_move : {xs : List A} {l r m : Toks} → AreAll Is xs l r → Same l m → Mover fr Is → Moved (map fr) (AreAll Is) xs r m
  all_move no_more s f = record { tree = []; rest = _; is = no_more; same = refl; on = s; part = all_left }
  all_move (one_more i j) s f =
      let q = f _ _ _ _ i s in
      let t = all_move j q.on f in
      record { tree = q.tree ∷ t.tree; rest = t.rest; is = one_more q.is t.is; same = cons_same q.same t.same; on = t.on; part = onward t.part q.part }

-- ---- const arguments and lengths

module _ {X : Type 0} (spells : Place → X → Toks → Type 0) (fx : X → X) (given : MovesSubtree spells fx) where
  pub const_moves : {x : Expr X} {l r m : Toks} → IsConst spells x l r → Same l m → Moved (free.value fx) (IsConst spells) x r m
  const_moves (a_lone_literal {x = x} i) s = let q = lit_moves i s in record { tree = literal q.tree; rest = q.rest; is = a_lone_literal q.is; same = free-literal fx q.tree ∙ ap literal q.same ∙ sym (free-literal fx x); on = q.on; part = q.part }
  const_moves (a_block {b = x} {s = a} i) (same_group {b = b} v c s) =
      let q = subtree_moves spells fx given Block i c in
      record {
        tree = e.Block (block_of [] (groups.brace b) q.tree);
        rest = _;
        is = a_block q.is;
        same = free-block fx (groups.brace b) q.tree ∙ ap (λ z. e.Block (block_of [] (groups.brace (delim_span none none)) z)) q.same ∙ sym (free-block fx (groups.brace a) x);
        on = s;
        part = past_group all_left;
      }

  pub default_moves : {x : Expr X} {l r m : Toks} → IsConstDefault spells x l r → Same l m → Moved (free.value fx) (IsConstDefault spells) x r m
  default_moves (a_const i) s = let q = const_moves i s in record { tree = q.tree; rest = q.rest; is = a_const q.is; same = q.same; on = q.on; part = q.part }
  default_moves (a_word h) (same_word {t = t} {a = a} {b = b} s) =
      record { tree = e.Path (expr_path_of [] (word_path (ident t b))); rest = _; is = a_word h; same = free-path fx (word_path (ident t b)) ∙ sym (free-path fx (word_path (ident t a))); on = s; part = past_word all_left }

  pub len_moves : {x : Expr X} {l m : Toks} → spells_len spells x l → Same l m → Kept (free.value fx) (spells_len spells) x m
  len_moves (x, h, i) s = let q = subtree_moves spells fx given ArrayLen i s in record { tree = e.Other q.tree; is = (q.tree, refl, q.is); same = free-other fx q.tree ∙ ap e.Other q.same ∙ sym (free-other fx x) ∙ ap (free.value fx) (sym h) }

-- ---- the promises

pub list_aside : Asides grammars.list free.list
list_aside = aside grammars.list free.list list_lawful (moves grammars.list free.list (IsMetaList true) (λ x l i. i) (λ x l i. i) (λ x l r m. meta_list_moves))

pub kept_moves : {A : Type 0} (G : Grammar A) (fr : A → A) → ((x : A) (l m : Toks) → G.spells true x l → Same l m → Kept fr (G.spells true) x m) → Moves G fr
kept_moves G fr f b m l v i s = let q = f b m l i (same_of m l v s) in (q.tree, q.is, q.same)

module _ {X : Type 0} (sub : Subtree X) (given : MovesSubtree sub.spells sub.bare) where
  pub name_value_aside : Lawful (grammars.name_value sub) → Asides (grammars.name_value sub) (free.name_value sub.bare)
  name_value_aside laws = let G = grammars.name_value sub in aside G (free.name_value sub.bare) laws (kept_moves G (free.name_value sub.bare) (λ x l m i s. name_value_moves sub.spells sub.bare given i s))

  pub meta_aside : Lawful (grammars.meta sub) → Asides (grammars.meta sub) (free.meta sub.bare)
  meta_aside laws = let G = grammars.meta sub in aside G (free.meta sub.bare) laws (kept_moves G (free.meta sub.bare) (λ x l m i s. meta_moves sub.spells sub.bare given i s))

  pub outer_aside : Lawful (grammars.outer sub) → Asides (grammars.outer sub) (free.attributes sub.bare)
  outer_aside laws =
      let G = grammars.outer sub in
      aside G (free.attributes sub.bare) laws (moves G (free.attributes sub.bare) (AreAll (IsOuter sub.spells true)) (λ x l i. i) (λ x l i. i) (λ x l r m i s. all_move (free.attribute sub.bare) i s (λ x l r m. outer_moves sub.spells sub.bare given)))

  pub inner_aside : Lawful (grammars.inner sub) → Asides (grammars.inner sub) (free.attributes sub.bare)
  inner_aside laws =
      let G = grammars.inner sub in
      aside G (free.attributes sub.bare) laws (moves G (free.attributes sub.bare) (AreAll (IsInner sub.spells true)) (λ x l i. i) (λ x l i. i) (λ x l r m i s. all_move (free.attribute sub.bare) i s (λ x l r m. inner_moves sub.spells sub.bare given)))
