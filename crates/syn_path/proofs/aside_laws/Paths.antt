-- Paths and macro calls on lists that are the same aside from spans.
use Rattle.std.proofs.Common.{◌≡◌, Bool, true, List, [], ◌∷◌, Option, Some, None, map, option_map, refl, sym, ap, ◌∙◌}
use Rattle.token_core.specs.declared.tree.TokenTree.{TokenTree}
use Rattle.token_core.specs.declared.tree.Group.{Group, out-roll-Group}
use Rattle.token_core.specs.declared.tree.TokenTree.TheVariants as t
use Rattle.token_core.specs.declared.tree.TokenTree.TheOpen as o
use Rattle.token_core.specs.declared.tree.Delimiter.{Delimiter}
use Rattle.token_core.specs.declared.span.DelimSpan.{DelimSpan}
use Rattle.token_core.specs.Rebuilt.{levels, stream_of}
use Rattle.token_core.specs.Same.{bare_tree, bare_stream}
use Rattle.token_core.specs.Spans.{none, delim_span}
use Rattle.token_core.specs.Clear.{Apart}
use Rattle.token_core.specs.Prints.{Print}
use Rattle.token_core.specs.Tokens as token
use Rattle.token_core.specs.declared.span.Span.{Span}
use Rattle.token_core.specs.declared.tree.Spacing.{Spacing}
use Rattle.token_core.specs.Toks.{Bytes, Toks, mark, group}
use Rattle.token_core.specs.Trees.{TokenStream, toks, group_of, ident, punct, literal}
use Rattle.token_core.proofs.Bares.{bare-ident, bare-punct, bare-literal, bare-of-group, bare_group_is, bare_stream_is}
use Rattle.token_core.proofs.Rebuilds.{stream_of-toks, toks-stream_of}
use Rattle.syn_path.specs.declared.mac.Macro.{Macro}
use Rattle.syn_path.specs.declared.mac.MacroDelimiter.{MacroDelimiter}
use Rattle.syn_path.specs.declared.mac.MacroDelimiter.TheVariants as d
use Rattle.syn_path.specs.declared.path.PathOf.{PathOf}
use Rattle.syn_path.specs.declared.path.PathSegmentOf.{PathSegmentOf}
use Rattle.syn_path.specs.mac.Macros.{macro_of}
use Rattle.syn_path.specs.mac.Grammars as macros
use Rattle.syn_path.specs.mac.Spelling.{bang_at, Delimits, in_paren, in_brace, in_bracket, IsCall, a_macro, IsMacro}
use Rattle.syn_path.specs.path.Grammars as paths
use Rattle.syn_path.specs.path.Paths.{Sep, ModPath, nothing, segment_of, path_of}
use Rattle.syn_path.specs.path.Spelling.{sep_at, sep_chars, IsLeading, no_leading, leading, AreSegments, last_segment, more_segments, IsBarePath, a_bare_path, IsModPath}
use Rattle.syn_path.specs.aside.Lists.{Asides}
use Rattle.syn_path.specs.aside.Tokens as tokens
use Rattle.syn_path.specs.aside.Paths as free
use Rattle.syn_path.proofs.mac_laws.Laws as call
use Rattle.syn_path.proofs.path_laws.Laws as path
use Rattle.syn_path.proofs.aside_laws.Both.{of3, cons_same}
use Rattle.syn_path.proofs.aside_laws.Same.{Same, same_done, same_word, same_mark, same_lit, same_group, visible_same, Rest, all_left, past_word, past_mark, past_group, onward, Moved, aside, moves}
use Rattle.syn_path.proofs.aside_laws.Tokens.{apart_on, MovedMany}

-- ---- token lists that are held

trees_same : {l m : Toks} → Same l m → map bare_tree (levels l).0 ≡ map bare_tree (levels m).0
trees_same same_done = refl
trees_same (same_word {t = t} {a = a} {b = b} s) = cons_same (bare-ident (ident t a) ∙ sym (bare-ident (ident t b))) (trees_same s)
trees_same (same_mark {c = c} {j = j} {a = a} {b = b} s) = cons_same (bare-punct (punct c j a) ∙ sym (bare-punct (punct c j b))) (trees_same s)
trees_same (same_lit {d = k} {t = t} {a = a} {b = b} s) = cons_same (bare-literal (literal k t a) ∙ sym (bare-literal (literal k t b))) (trees_same s)
trees_same (same_group {d = d} {a = a} {b = b} {c = c} {e = e} v i s) = cons_same (held d a b (levels c).0 (levels e).0 (trees_same i)) (trees_same s)
  where
    seen : (d : Delimiter) (a : DelimSpan) (c : TokenStream) → bare_tree (t.Group (group_of d c a)) ≡ t.Group (group_of d (map bare_tree c) (delim_span none none))
    seen d a c =
        bare-of-group (group_of d c a)
        ∙ ap t.Group (bare_group_is (group_of d c a)
        ∙ ap (λ (y : o.Group-F TokenTree Group). group_of y.content.1 (bare_stream y.content.0) (delim_span none none)) (out-roll-Group (record { content = (c, d); span = a }))
        ∙ ap (λ z. group_of d z (delim_span none none)) (bare_stream_is c))

    held : (d : Delimiter) (a b : DelimSpan) (c e : TokenStream) → map bare_tree c ≡ map bare_tree e → bare_tree (t.Group (group_of d c a)) ≡ bare_tree (t.Group (group_of d e b))
    held d a b c e h = seen d a c ∙ ap (λ z. t.Group (group_of d z (delim_span none none))) h ∙ sym (seen d b e)

pub stream_same : {l m : Toks} → Same l m → bare_stream (stream_of l) ≡ bare_stream (stream_of m)
unfolding stream_of
stream_same {l} {m} s = bare_stream_is (levels l).0 ∙ trees_same s ∙ sym (bare_stream_is (levels m).0)

pub record Held (l m : Toks) (x : TokenStream) : Type 0 where
  pub tokens : TokenStream
  pub is : m ≡ toks tokens
  pub same : bare_stream tokens ≡ bare_stream x

pub held_move : {c m : Toks} {x : TokenStream} → c ≡ toks x → Same c m → Held c m x
held_move {c} {m} {x} e s = record { tokens = stream_of m; is = sym (toks-stream_of m (visible_same s)); same = sym (stream_same s) ∙ ap bare_stream (ap stream_of e ∙ stream_of-toks x) }

-- ---- paths without arguments

leading_move : {clear : Bool} {o : Option Sep} {l r m : Toks} → IsLeading clear o l r → Same l m → Moved (option_map tokens.mark) (IsLeading clear) o r m
leading_move no_leading s = record { tree = None; rest = _; is = no_leading; same = refl; on = s; part = all_left }
leading_move {clear = clear} (leading {j = j} h) (same_mark {b = a} (same_mark {b = b} s)) = record { tree = Some (sep_at a b); rest = _; is = leading (apart_on clear sep_chars j s h); same = refl; on = s; part = past_mark (past_mark all_left) }

module _ {A : Type 0} (none : A) (arguments : A → A) {clear : Bool} {ok : Bytes → Bool} where
  segments_move : {xs : List (PathSegmentOf A)} {ps : List Sep} {l r m : Toks} → AreSegments clear ok none xs ps l r → Same l m →
      MovedMany (free.segment arguments) tokens.mark (AreSegments clear ok none) xs ps r m
  segments_move (last_segment h) (same_word {t = t} {b = b} s) = record { values = segment_of none (ident t b) ∷ []; marks = []; rest = _; is = last_segment h; same = refl; same_marks = refl; on = s; part = past_word all_left }
  segments_move (more_segments {j = j} h a i) (same_word {t = t} {b = b} (same_mark {b = c} (same_mark {b = d} s))) =
      let q = segments_move i s in
      record {
        values = segment_of none (ident t b) ∷ q.values;
        marks = sep_at c d ∷ q.marks;
        rest = q.rest;
        is = more_segments h (apart_on clear sep_chars j s a) q.is;
        same = cons_same refl q.same;
        same_marks = cons_same refl q.same_marks;
        on = q.on;
        part = onward q.part (past_word (past_mark (past_mark all_left)));
      }

  pub path_move : {x : PathOf A} {l r m : Toks} → IsBarePath clear ok none x l r → Same l m → Moved (free.path arguments) (IsBarePath clear ok none) x r m
  path_move (a_bare_path i j) s =
      let p = leading_move i s in
      let q = segments_move j p.on in
      record { tree = path_of p.tree (q.values, q.marks); rest = q.rest; is = a_bare_path p.is q.is; same = of3 (λ o v w. path_of o (v, w)) p.same q.same q.same_marks; on = q.on; part = onward q.part p.part }

pub mod_style_aside : {A : Type 0} (none : A) (arguments : A → A) (shown : A → Print) → shown none ≡ [] → Asides (paths.mod_style none shown) (free.path arguments)
mod_style_aside none arguments shown silent = aside (paths.mod_style none shown) (free.path arguments) (path.lawful none shown silent) (moves (paths.mod_style none shown) (free.path arguments) (IsModPath true none) (λ x l i. i) (λ x l i. i) (λ x l r m. path_move none arguments))

-- ---- macro calls

pub record MovedBrackets (e : MacroDelimiter) (d : Delimiter) (b : DelimSpan) : Type 0 where
  pub brackets : MacroDelimiter
  pub is : Delimits brackets d b
  pub same : free.delimiter brackets ≡ free.delimiter e

pub brackets_move : {e : MacroDelimiter} {d : Delimiter} {a : DelimSpan} (b : DelimSpan) → Delimits e d a → MovedBrackets e d b
brackets_move b in_paren = record { brackets = d.Paren _; is = in_paren; same = refl }
brackets_move b in_brace = record { brackets = d.Brace _; is = in_brace; same = refl }
brackets_move b in_bracket = record { brackets = d.Bracket _; is = in_bracket; same = refl }

called : {clear : Bool} {ok : Bytes → Bool} (x : ModPath) (a : Span) (j : Spacing) (e : MacroDelimiter) (d : Delimiter) (b : DelimSpan) (c r m k : Toks) (y : TokenStream) (p : ModPath) → Same (mark (punct token.bang_char j a) (group d b c r)) k → Rest k m →
    IsBarePath clear ok nothing p m k → free.mod_path p ≡ free.mod_path x → Apart clear (token.bang_char ∷ []) j (group d b c r) → Delimits e d b → c ≡ toks y → Moved free.mac (IsCall clear ok) (macro_of x (bang_at a) (e, y)) r m
called {clear} x a j e d b c r m k y p (same_mark {b = g} (same_group {b = f} v i s)) w q h n o u =
    let t = brackets_move f o in
    let z = held_move u i in
    record {
      tree = macro_of p (bang_at g) (t.brackets, z.tokens);
      rest = _;
      is = a_macro q (apart_on clear (token.bang_char ∷ []) j (same_group v i s) n) t.is z.is;
      same = of3 (λ p e y. macro_of p (bang_at none) (e, y)) h t.same z.same;
      on = s;
      part = onward (past_mark (past_group all_left)) w;
    }

pub call_moves : {clear : Bool} {ok : Bytes → Bool} {x : Macro} {l r m : Toks} → IsCall clear ok x l r → Same l m → Moved free.mac (IsCall clear ok) x r m
call_moves (a_macro i a h e) s = let p = path_move nothing (λ a. a) i s in called _ _ _ _ _ _ _ _ _ _ _ p.tree p.on p.part p.is p.same a h e

pub macro_aside : Asides macros.mac free.mac
macro_aside = aside macros.mac free.mac call.lawful (moves macros.mac free.mac (IsMacro true) (λ x l i. i) (λ x l i. i) (λ x l r m. call_moves))
