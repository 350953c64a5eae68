-- What patterns hold that is no pattern, on lists that are the same aside from spans: paths, const blocks, macro calls and ranges.
use Rattle.std.proofs.Common.{◌≡◌, ℕ, Bool, true, false, if◌then◌else◌, List, [], ◌∷◌, Option, Some, None, map, option_map, refl, sym, ap, ap₂, ◌∙◌, subst}
use Rattle.token_core.specs.declared.lit.Lit.{Lit}
use Rattle.token_core.specs.declared.range.RangeLimits.{RangeLimits}
use Rattle.token_core.specs.declared.range.RangeLimits.TheVariants as limits
use Rattle.token_core.specs.declared.span.DelimSpan.{DelimSpan}
use Rattle.token_core.specs.declared.tree.Delimiter.TheVariants.{Brace}
use Rattle.token_core.specs.declared.tree.Ident.{Ident}
use Rattle.token_core.specs.Groups as groups
use Rattle.token_core.specs.Ranges.{closed_by}
use Rattle.token_core.specs.Spans.{none, delim_span}
use Rattle.token_core.specs.Spellings.{AreOldLimits, new_limits, old_limits, IsWord}
use Rattle.token_core.specs.Tokens as token
use Rattle.token_core.specs.Toks.{Toks, group}
use Rattle.syn_path.specs.declared.mac.Macro.{Macro}
use Rattle.syn_path.specs.declared.path.NoArguments.{NoArguments}
use Rattle.syn_path.specs.declared.path.PathOf.{PathOf}
use Rattle.syn_path.specs.declared.path.PathSegmentOf.{PathSegmentOf}
use Rattle.syn_path.specs.declared.supplied.Place.{Place}
use Rattle.syn_path.specs.declared.supplied.Place.TheVariants.{Block}
use Rattle.syn_path.specs.path.Paths.{Sep, ModPath, lone_ident, only}
use Rattle.syn_attr.specs.attr.Attrs.{Attribute as Attr, const_of, lit_of}
use Rattle.syn_attr.specs.declared.expr.Expr.{Expr}
use Rattle.syn_attr.specs.declared.expr.ExprConstOf.{ExprConstOf}
use Rattle.syn_ty.specs.declared.generics.GenericParamOf.TheOpen as o
use Rattle.syn_ty.specs.declared.path.PathArgumentsOf.{out-PathArgumentsOf, roll-PathArgumentsOf, roll-out-PathArgumentsOf}
use Rattle.syn_ty.specs.declared.path.PathArgumentsOf.TheVariants as a
use Rattle.syn_ty.specs.path.Paths.{is_none, none_layer}
use Rattle.syn_ty.specs.ty.Parts.{clearly}
use Rattle.syn_ty.specs.ty.Trees.{Layer, Path, PathArguments, QSelf}
use Rattle.syn_pat.specs.declared.pat.PatRangeBoundOf.TheVariants as b
use Rattle.syn_pat.specs.pat.Pats.{Attrs, PatRange, PatRangeBound, pat_range_of, path_pat_of}
use Rattle.syn_pat.specs.pat.Spelling.{is_self, is_binding, lone_word, outer_spelt, values_spelt, types_to, IsConstBlock, a_const_block, IsPatPath, a_pat_path, IsHead, IsEnd, a_literal_end, a_path_end, a_const_end, IsStart, a_literal_start, a_path_start, a_const_start, IsRange, without_end, without_start, with_both, IsPatCall}
use Rattle.syn_laws.specs.aside.Attrs as attr
use Rattle.syn_path.specs.aside.Lists.{MovesSubtree}
use Rattle.syn_path.specs.aside.Paths as paths
use Rattle.syn_laws.specs.aside.Pats as free
use Rattle.syn_path.specs.aside.Tokens as tokens
use Rattle.syn_laws.specs.aside.Types as types
use Rattle.syn_laws.proofs.aside_laws.Attrs.{all_move, const_moves, default_moves, len_moves, outer_moves, subtree_moves}
use Rattle.syn_path.proofs.aside_laws.Both.{of3}
use Rattle.syn_laws.proofs.aside_laws.Knot.{knot}
use Rattle.syn_laws.proofs.aside_laws.Layers.{free-none, free-angle, free-parens}
use Rattle.syn_laws.proofs.aside_laws.Parts.{Moving}
use Rattle.syn_laws.proofs.aside_laws.PathForms.{no_try_moves}
use Rattle.syn_path.proofs.aside_laws.Same.{Same, same_group, Rest, all_left, past_group, onward, Moved}
use Rattle.syn_path.proofs.aside_laws.Tokens.{limits_move, lit_moves, mark_moves, word_moves}
use Rattle.syn_laws.proofs.aside_laws.TypeForms.{type_call_moves}

-- ---- whether arguments are none stays, and so does the word of a path that is one

module _ {A E : Type 0} (na : List A → List A) (ne : E → E) where
  none_kept_layer : (y : Layer o.PathArgumentsOf-F A E) → is_none (types.arguments na ne (roll-PathArgumentsOf A E y)) ≡ is_none (roll-PathArgumentsOf A E y)
  none_kept_layer o.None = ap (λ z. is_none (types.arguments na ne z)) a.rolls-None ∙ ap is_none (free-none na ne) ∙ ap is_none (sym a.rolls-None)
  none_kept_layer (o.AngleBracketed x) =
      ap (λ z. is_none (types.arguments na ne z)) (a.rolls-AngleBracketed x) ∙ ap is_none (free-angle na ne x) ∙ ap none_layer (a.outs-AngleBracketed (types.angle na ne x)) ∙ sym (ap none_layer (a.outs-AngleBracketed x)) ∙ ap is_none (sym (a.rolls-AngleBracketed x))
  none_kept_layer (o.Parenthesized x) =
      ap (λ z. is_none (types.arguments na ne z)) (a.rolls-Parenthesized x) ∙ ap is_none (free-parens na ne x.paren_token x.inputs x.output) ∙ ap none_layer (a.outs-Parenthesized (types.parenthesized na ne x))
      ∙ sym (ap none_layer (a.outs-Parenthesized x)) ∙ ap is_none (sym (a.rolls-Parenthesized x))

  none_kept : (x : PathArguments A E) → is_none (types.arguments na ne x) ≡ is_none x
  none_kept x = subst (λ z. is_none (types.arguments na ne z) ≡ is_none z) (roll-out-PathArgumentsOf A E x) (none_kept_layer (out-PathArgumentsOf A E x))

module _ {G : Type 0} (f : G → G) (lacks : G → Bool) (kept : (x : G) → lacks (f x) ≡ lacks x) where
  some_ident : (b : Bool) (i : Ident) → ◌≡◌ {A = Option Ident} (if b then Some (tokens.ident i) else None) (option_map tokens.ident (if b then Some i else None))
  some_ident true i = refl
  some_ident false i = refl

  only_kept : (c : Option Sep) (l : List (PathSegmentOf G)) → only lacks (option_map tokens.mark c) (map (paths.segment f) l) ≡ option_map tokens.ident (only lacks c l)
  only_kept None [] = refl
  only_kept None (s ∷ []) = ap (λ (z : Bool). if z then Some (tokens.ident s.ident) else None) (kept s.arguments) ∙ some_ident (lacks s.arguments) s.ident
  only_kept None (s ∷ t ∷ l) = refl
  only_kept (Some c) [] = refl
  only_kept (Some c) (s ∷ l) = refl

  pub lone_kept : (p : PathOf G) → lone_ident lacks (paths.path f p) ≡ option_map tokens.ident (lone_ident lacks p)
  lone_kept p = only_kept p.leading_colon p.segments.0

self_kept : (w : Option Ident) → is_self (option_map tokens.ident w) ≡ is_self w
self_kept None = refl
self_kept (Some i) = refl

binding_kept : (w : Option Ident) → is_binding (option_map tokens.ident w) ≡ is_binding w
binding_kept None = refl
binding_kept (Some i) = refl

module _ {A E : Type 0} (na : List A → List A) (ne : E → E) where
  abbrev pub Named : Type 0
  Named = Option (QSelf A E) × Path A E

  abbrev pub named : Named → Named
  named x = (option_map (types.qself na ne) x.0, types.path na ne x.1)

  word_kept : (q : Option (QSelf A E)) (p : Path A E) → lone_word (option_map (types.qself na ne) q) (types.path na ne p) ≡ option_map tokens.ident (lone_word q p)
  word_kept None p = lone_kept (types.arguments na ne) is_none (none_kept na ne) p
  word_kept (Some q) p = refl

  same_words : (x y : Named) → named x ≡ named y → option_map tokens.ident (lone_word x.0 x.1) ≡ option_map tokens.ident (lone_word y.0 y.1)
  same_words x y e = sym (word_kept x.0 x.1) ∙ ap (λ (z : Named). lone_word z.0 z.1) e ∙ word_kept y.0 y.1

  pub same_self : (x y : Named) → named x ≡ named y → is_self (lone_word x.0 x.1) ≡ is_self (lone_word y.0 y.1)
  same_self x y e = sym (self_kept (lone_word x.0 x.1)) ∙ ap is_self (same_words x y e) ∙ self_kept (lone_word y.0 y.1)

  pub same_binding : (x y : Named) → named x ≡ named y → is_binding (lone_word x.0 x.1) ≡ is_binding (lone_word y.0 y.1)
  same_binding x y e = sym (binding_kept (lone_word x.0 x.1)) ∙ ap is_binding (same_words x y e) ∙ binding_kept (lone_word y.0 y.1)

-- ---- macro calls

mod_self : (p q : ModPath) → paths.mod_path p ≡ paths.mod_path q → is_self (lone_ident (λ a. true) p) ≡ is_self (lone_ident (λ a. true) q)
mod_self p q e =
    sym (self_kept (lone_ident (λ a. true) p)) ∙ ap is_self (sym (lone_kept (λ (a : NoArguments). a) (λ a. true) (λ a. refl) p) ∙ ap (lone_ident (λ a. true)) e ∙ lone_kept (λ (a : NoArguments). a) (λ a. true) (λ a. refl) q)
    ∙ self_kept (lone_ident (λ a. true) q)

pub pat_call_moves : {x : Macro} {l r m : Toks} → IsPatCall true x l r → Same l m → Moved paths.mac (IsPatCall true) x r m
pat_call_moves {x} (i, h) s = let q = type_call_moves i s in record { tree = q.tree; rest = q.rest; is = (q.is, mod_self q.tree.path x.path (ap (λ (z : Macro). z.path) q.same) ∙ h); same = q.same; on = q.on; part = q.part }

-- ---- limits of ranges, where `...` is kept as `..=`

pub old_limits_move : {x : RangeLimits} {l r m : Toks} → AreOldLimits true x l r → Same l m → Moved tokens.limits_of (AreOldLimits true) x r m
old_limits_move (new_limits i) s = let q = limits_move i s in record { tree = q.tree; rest = q.rest; is = new_limits q.is; same = q.same; on = q.on; part = q.part }
old_limits_move (old_limits i) s = let q = mark_moves i s in record { tree = closed_by q.tree; rest = q.rest; is = old_limits q.is; same = ap (λ (z : token.DotDotDot). closed_by z) q.same; on = q.on; part = q.part }

module _ {X : Type 0} (spells : Place → X → Toks → Type 0) (fx : X → X) (given : MovesSubtree spells fx) where
  pub attrs_move : {xs : Attrs X} {l r m : Toks} → outer_spelt spells true xs l r → Same l m → Moved (free.attrs fx) (outer_spelt spells true) xs r m
  attrs_move i s = all_move (attr.attribute fx) i s (λ x l r m i s. outer_moves spells fx given i s)

  -- what stands within a type
  pub types_move : (n : ℕ) → Moving (free.attrs fx) (free.value fx) (types_to spells n clearly)
  types_move =
      knot (free.attrs fx) (free.value fx) (outer_spelt spells) (values_spelt spells) (λ x l r m i s. attrs_move i s) (λ x l m i s. len_moves spells fx given i s) (λ x l r m i s. const_moves spells fx given i s)
      (λ x l r m i s. default_moves spells fx given i s)

  block_at : {w : token.Const} {d : DelimSpan} {x : X} {c r m k : Toks} (u : token.Const) → Same (group Brace d c r) k → Rest k m → IsWord u m k → tokens.word u ≡ tokens.word w → spells Block x c → Moved (attr.expr_const fx) (IsConstBlock spells) (const_of [] w (groups.brace d) x) r m
  block_at u (same_group {b = f} v i s) g h e j =
      let q = subtree_moves spells fx given Block j i in
      record {
        tree = const_of [] u (groups.brace f) q.tree;
        rest = _;
        is = a_const_block h q.is;
        same = ap₂ (λ (w : token.Const) (x : X). const_of [] w (groups.brace (delim_span none none)) x) e q.same;
        on = s;
        part = onward (past_group all_left) g;
      }

  pub const_block_moves : {x : ExprConstOf (Attr X) X} {l r m : Toks} → IsConstBlock spells x l r → Same l m → Moved (attr.expr_const fx) (IsConstBlock spells) x r m
  const_block_moves (a_const_block i j) s = let q = word_moves i s in block_at q.tree q.on q.part q.is q.same j

  abbrev pub Names : Type 0
  Names = Named (free.attrs fx) (free.value fx)

  abbrev pub names : Names → Names
  names = named (free.attrs fx) (free.value fx)

  pub pat_path_moves : {q : Option (QSelf (Attr X) (Expr X))} {p : Path (Attr X) (Expr X)} {l r m : Toks} → IsPatPath spells clearly q p l r → Same l m → Moved names (λ z. IsPatPath spells clearly z.0 z.1) (q, p) r m
  pat_path_moves (a_pat_path n i) s = let q = no_try_moves (free.attrs fx) (free.value fx) (types_to spells n) (types_move n) i s in record { tree = q.tree; rest = q.rest; is = a_pat_path n q.is; same = q.same; on = q.on; part = q.part }

  pub head_moves : {q : Option (QSelf (Attr X) (Expr X))} {p : Path (Attr X) (Expr X)} {l r m : Toks} → IsHead spells clearly q p l r → Same l m → Moved names (λ z. IsHead spells clearly z.0 z.1) (q, p) r m
  head_moves {q} {p} (i, h) s = let t = pat_path_moves i s in record { tree = t.tree; rest = t.rest; is = (t.is, same_self (free.attrs fx) (free.value fx) t.tree (q, p) t.same ∙ h); same = t.same; on = t.on; part = t.part }

  -- ---- ranges

  end_moves : {x : PatRangeBound X} {l r m : Toks} → IsEnd spells clearly x l r → Same l m → Moved (free.range_bound fx) (IsEnd spells clearly) x r m
  end_moves (a_literal_end i) s = let q = lit_moves i s in record { tree = b.Lit (lit_of [] q.tree); rest = q.rest; is = a_literal_end q.is; same = ap (λ (z : Lit). b.Lit (lit_of [] z)) q.same; on = q.on; part = q.part }
  end_moves (a_path_end i) s = let q = pat_path_moves i s in record { tree = b.Path (path_pat_of [] q.tree.0 q.tree.1); rest = q.rest; is = a_path_end q.is; same = ap (λ (z : Names). b.Path (path_pat_of [] z.0 z.1)) q.same; on = q.on; part = q.part }
  end_moves (a_const_end i) s = let q = const_block_moves i s in record { tree = b.Const q.tree; rest = q.rest; is = a_const_end q.is; same = ap b.Const q.same; on = q.on; part = q.part }

  start_moves : {x : PatRangeBound X} {l r m : Toks} → IsStart spells clearly x l r → Same l m → Moved (free.range_bound fx) (IsStart spells clearly) x r m
  start_moves (a_literal_start i) s = let q = lit_moves i s in record { tree = b.Lit (lit_of [] q.tree); rest = q.rest; is = a_literal_start q.is; same = ap (λ (z : Lit). b.Lit (lit_of [] z)) q.same; on = q.on; part = q.part }
  start_moves (a_path_start i) s = let q = head_moves i s in record { tree = b.Path (path_pat_of [] q.tree.0 q.tree.1); rest = q.rest; is = a_path_start q.is; same = ap (λ (z : Names). b.Path (path_pat_of [] z.0 z.1)) q.same; on = q.on; part = q.part }
  start_moves (a_const_start i) s = let q = const_block_moves i s in record { tree = b.Const q.tree; rest = q.rest; is = a_const_start q.is; same = ap b.Const q.same; on = q.on; part = q.part }

  pub range_moves : {x : PatRange X} {l r m : Toks} → IsRange spells clearly x l r → Same l m → Moved (free.range fx) (IsRange spells clearly) x r m
  range_moves (without_end i j) s =
      let a = start_moves i s in
      let d = mark_moves j a.on in
      record {
        tree = pat_range_of [] (Some a.tree) (limits.HalfOpen d.tree) None;
        rest = d.rest;
        is = without_end a.is d.is;
        same = ap₂ (λ (a : PatRangeBound X) (d : token.DotDot). pat_range_of [] (Some a) (limits.HalfOpen d) None) a.same d.same;
        on = d.on;
        part = onward d.part a.part;
      }
  range_moves (without_start i j) s =
      let d = limits_move i s in
      let e = end_moves j d.on in
      record { tree = pat_range_of [] None d.tree (Some e.tree); rest = e.rest; is = without_start d.is e.is; same = ap₂ (λ (d : RangeLimits) (e : PatRangeBound X). pat_range_of [] None d (Some e)) d.same e.same; on = e.on; part = onward e.part d.part }
  range_moves (with_both i j k) s =
      let a = start_moves i s in
      let d = old_limits_move j a.on in
      let e = end_moves k d.on in
      record {
        tree = pat_range_of [] (Some a.tree) d.tree (Some e.tree);
        rest = e.rest;
        is = with_both a.is d.is e.is;
        same = of3 (λ (a : PatRangeBound X) (d : RangeLimits) (e : PatRangeBound X). pat_range_of [] (Some a) d (Some e)) a.same d.same e.same;
        on = e.on;
        part = onward e.part (onward d.part a.part);
      }
