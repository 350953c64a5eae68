-- What follows the path of a pattern is read after it: a macro call, a struct, a tuple struct, a range, or nothing.
use Rattle.std.specs.Prelude.{is_some}
use Rattle.std.proofs.Common.{◌≡◌, ℕ, zero, ◌≤◌, Bool, true, false, not, ◌&&◌, List, [], Option, Some, None, refl, ◌∙◌, ap, map}
use Rattle.std.proofs.lemmas.Bool.{and_left}
use Rattle.syn_pat.proofs.pat_laws.words.Tokens.{DelimSpan, Span, Delimiter, Brace, Parenthesis, Ident, Spacing, Joint, AreListed, Nowhere, last_value, value_and_mark, Many, Reader, sees_group, sees_mark, none, IsMark, is_mark, last_char, more_chars, Scope, Toks, mark, group, word, TokenStream, punct}
use Rattle.syn_pat.proofs.pat_laws.words.Paths.{Place, ModPath, lone_ident, nothing, IsBarePath, a_bare_path, last_segment, leading, more_segments, no_leading}
use Rattle.syn_pat.proofs.pat_laws.words.Forms.{ahead}
use Rattle.syn_pat.proofs.pat_laws.words.Attributes.{expr_macro_of, Expr}
use Rattle.syn_pat.proofs.pat_laws.words.Types.{is_mod_style, is_segment_word, unqualified, IsSegment, a_word, IsPath, a_path, Manner, clearly, Parts, sees_call, IsOptional, absent, present, Relation, Path, PathSegment, QSelf, Comma}
use Rattle.syn_pat.proofs.pat_laws.words.Patterns.{PatPlace, LeadingVert, AreElements, AreFields, FieldPat, Pat, PatRest, path_pat_of, struct_of, tuple_struct_of, Readers, after_bound, after_path, begins_path, elements, type_names, IsPatPath, a_pat_path, is_self, types_to}
use Rattle.token_core.specs.Groups as groups
use Rattle.token_core.specs.Tokens as token
use Rattle.token_core.specs.Trees.{toks}
use Rattle.token_core.proofs.Steps.{Reads_to, chosen, link}
use Rattle.token_core.proofs.Took.{at}
use Rattle.syn_path.specs.declared.mac.MacroDelimiter.{MacroDelimiter}
use Rattle.syn_path.specs.declared.path.PathStyle.TheVariants.{Expr as expressions}
use Rattle.syn_path.specs.mac.Macros.{macro_of}
use Rattle.syn_path.specs.mac.Reading as macs
use Rattle.syn_path.specs.mac.Spelling.{Delimits, bang_at}
use Rattle.syn_path.specs.path.Paths.{ModSegment, Sep}
use Rattle.syn_path.specs.path.Spelling as bare
use Rattle.syn_path.specs.path.Spelling.{IsLeading}
use Rattle.syn_path.proofs.mac_laws.Complete.{call_after_complete}
use Rattle.syn_attr.specs.attr.Attrs.{Attribute as Attr}
use Rattle.syn_forms.proofs.groups_laws.Complete.{content}
use Rattle.syn_ty.proofs.ty_laws.complete.Calls.{as_path, bang_call, bare_segment, mod_style, without_back}
use Rattle.syn_pat.specs.declared.pat.PatOf.TheVariants as v
use Rattle.syn_pat.specs.declared.pat.PatRangeBoundOf.TheVariants as b
use Rattle.syn_pat.specs.pat.Reading.{tuple_struct_after}
use Rattle.syn_pat.proofs.pat_laws.complete.Groups.{elements_met, inside_less, parens_met}
use Rattle.syn_pat.proofs.pat_laws.complete.Names.{before_sep, never_self, no_try_mod, sep_begins, word_begins}
use Rattle.syn_pat.proofs.pat_laws.complete.Structs.{struct_met}
use Rattle.syn_pat.proofs.pat_laws.complete.Within.{Meets, SuppliedMeets}

-- ---- the path of a call: in the style of expressions, without arguments

module _ {A E : Type 0} (part : Manner → Parts A E) where
  abbrev Is : PathSegment A E → Toks → Toks → Type 0
  Is = IsSegment part clearly expressions

  segments_as : (b : Bool) (all : List ModSegment) (cs : List Sep) (l r : Toks) → bare.AreSegments true is_segment_word nothing all cs l r → AreListed (λ (_ : Bool). Is) (IsMark true) Nowhere b (map (bare_segment A E) all) cs l r
  segments_as b all cs l r (last_segment h) = last_value (a_word h)
  segments_as b all cs l r (more_segments {all = xs} {seps = ds} {l = k} h x i) = value_and_mark (a_word h) (is_mark (more_chars (last_char x))) (segments_as false xs ds k r i)

  leading_as : (o : Option Sep) (l r : Toks) → IsLeading true o l r → IsOptional (IsMark true) o l r
  leading_as o l r no_leading = absent
  leading_as o l r (leading x) = present (is_mark (more_chars (last_char x)))

  call_path : (p : ModPath) (l r : Toks) → IsBarePath true is_segment_word nothing p l r → IsPath part clearly expressions (as_path A E p) l r
  call_path p l r (a_bare_path {o = o} {all = xs} {seps = cs} {m = m} i j) = a_path (leading_as o l m i) (segments_as true xs cs m r j)

pub call_is_path : {X : Type 0} (spells : Place → X → Toks → Type 0) (p : ModPath) (l r : Toks) → IsBarePath true is_segment_word nothing p l r → token.sees_try l ≡ false → IsPatPath spells clearly None (as_path (Attr X) (Expr X) p) l r
call_is_path spells p l r i t = a_pat_path zero (unqualified (call_path (types_to spells zero) p l r i), t)

bang_behind : (i : Ident) (j : Spacing) (a : Span) (k : Toks) → is_segment_word i.text ≡ true → token.sees_try (word i (mark (punct 33 j a) k)) ≡ false → is_self (Some i) ≡ false → begins_path (word i (mark (punct 33 j a) k)) ≡ true
unfolding sees_mark
bang_behind i j a k h t s = let m = mark (punct 33 j a) k in word_begins i m (no_try_mod i m h t) refl (never_self i.text (token.sees_path_sep m) s)

sep_seen : (a c : Span) (j : Spacing) (k : Toks) → token.sees_path_sep (mark (punct 58 Joint a) (mark (punct 58 j c) k)) ≡ true
unfolding sees_mark
sep_seen a c j k = refl

-- not `self` alone, before `!`
pub call_begins : (p : ModPath) (l : Toks) (j : Spacing) (a : Span) (k : Toks) → IsBarePath true is_segment_word nothing p l (mark (punct 33 j a) k) → token.sees_try l ≡ false → is_self (lone_ident (λ x. true) p) ≡ false → begins_path l ≡ true
call_begins p l j a k (a_bare_path no_leading (last_segment {i = i} h)) t s = bang_behind i j a k h t s
call_begins p l j a k (a_bare_path no_leading (more_segments {i = i} {a = x} {b = y} {j = z} {l = m} h w n)) t s =
    let q = mark (punct 58 Joint x) (mark (punct 58 z y) m) in
    before_sep i q (no_try_mod i q h t) (sep_seen x y z m)
call_begins p l j a k (a_bare_path (leading {a = x} {b = y} {j = z} {r = m} w) i) t s = sep_begins l (sep_seen x y z m)

pub bang_no_sep : (j : Spacing) (a : Span) (k : Toks) → token.sees_path_sep (mark (punct 33 j a) k) ≡ false
unfolding sees_mark
bang_no_sep j a k = refl

-- ---- what follows is none of the other forms

pub group_no_sep : (d : Delimiter) (s : DelimSpan) (c k : Toks) → token.sees_path_sep (group d s c k) ≡ false
unfolding sees_mark
group_no_sep d s c k = refl

middle_false : (a b c : Bool) → b ≡ false → a && (b && c) ≡ false
middle_false true b c h = and_left b c h
middle_false false b c h = refl

no_call_by : (k : Toks) → token.sees_bang k ≡ false → sees_call k ≡ false
unfolding sees_call
no_call_by k h = and_left (token.sees_bang k) _ h

group_no_bang : (d : Delimiter) (s : DelimSpan) (c k : Toks) → token.sees_bang (group d s c k) ≡ false
unfolding sees_mark
group_no_bang d s c k = refl

brace_seen : (s : DelimSpan) (c k : Toks) → sees_group Brace (group Brace s c k) ≡ true
unfolding sees_group
brace_seen s c k = refl

paren_seen : (s : DelimSpan) (c k : Toks) → sees_group Parenthesis (group Parenthesis s c k) ≡ true
unfolding sees_group
paren_seen s c k = refl

paren_no_brace : (s : DelimSpan) (c k : Toks) → sees_group Brace (group Parenthesis s c k) ≡ false
unfolding sees_group
paren_no_brace s c k = refl

-- ---- the reads after a path

module _ {X : Type 0} (supplied : Place → Reader X) (spells : Place → X → Toks → Type 0) (g : SuppliedMeets supplied spells) (r : Readers X) (part : Manner → PatPlace → Relation (Pat X)) (limit : ℕ) (meets : Meets r part limit) where
  abbrev Q : Type 0
  Q = Option (QSelf (Attr X) (Expr X))

  abbrev P : Type 0
  P = Path (Attr X) (Expr X)

  pub call_goes : (p : ModPath) (a : Span) (j : Spacing) (w : MacroDelimiter) (d : Delimiter) (s : DelimSpan) (c k : Toks) (tokens : TokenStream) (f : Option Span) (e : Span) (sc : Scope) → Delimits w d s → c ≡ toks tokens →
      Reads_to (after_path supplied (type_names supplied) r None (as_path (Attr X) (Expr X) p)) (v.Macro (expr_macro_of [] (macro_of p (bang_at a) (w, tokens)))) (mark (punct 33 j a) (group d s c k)) k f e sc
  unfolding after_path
  call_goes p a j w d s c k tokens f e sc h i =
      let l = mark (punct 33 j a) (group d s c k) in
      let o = as_path (Attr X) (Expr X) p in
      let u = ap (λ z. macs.call_after z (at l f e sc)) (without_back (Attr X) (Expr X) p) ∙ call_after_complete p a j w d s c k tokens f e sc h i in
      record { last = s.closing; reads = chosen (sees_call l && is_mod_style o) true _ _ (at l f e sc) _ (ap (λ z. z && is_mod_style o) (bang_call a j d s c k) ∙ mod_style (Attr X) (Expr X) p) (link _ u refl) }

  no_call : (q : Q) (p : P) (k : Toks) → token.sees_bang k ≡ false → not (is_some q) && (sees_call k && is_mod_style p) ≡ false
  no_call q p k h = middle_false (not (is_some q)) (sees_call k) (is_mod_style p) (no_call_by k h)

  pub struct_goes : (q : Q) (p : P) (w : Many (FieldPat X) Comma) (o : Option (PatRest X)) (s : DelimSpan) (c k : Toks) (f : Option Span) (e : Span) (sc : Scope) → ahead (at (group Brace s c k) f e sc) ≤ limit → AreFields spells part clearly w o c →
      Reads_to (after_path supplied (type_names supplied) r q p) (v.Struct (struct_of [] q p (groups.brace s) w o)) (group Brace s c k) k f e sc
  unfolding after_path
  struct_goes q p w o s c k f e sc lim i =
      let l = group Brace s c k in
      let u = struct_met supplied spells g r part limit meets q p w o s c k f e sc lim i in
      record {
        last = u.last;
        reads = chosen (not (is_some q) && (sees_call l && is_mod_style p)) false _ _ (at l f e sc) _ (no_call q p l (group_no_bang Brace s c k)) (chosen (sees_group Brace l) true _ _ (at l f e sc) _ (brace_seen s c k) (link _ u.reads refl));
      }

  pub tuple_struct_goes : (q : Q) (p : P) (xs : List (Pat X)) (cs : List Comma) (s : DelimSpan) (c k : Toks) (f : Option Span) (e : Span) (sc : Scope) → ahead (at (group Parenthesis s c k) f e sc) ≤ limit → AreElements spells part clearly LeadingVert xs cs c →
      Reads_to (after_path supplied (type_names supplied) r q p) (v.TupleStruct (tuple_struct_of [] q p (groups.paren s) (xs, cs))) (group Parenthesis s c k) k f e sc
  unfolding after_path tuple_struct_after
  tuple_struct_goes q p xs cs s c k f e sc lim i =
      let l = group Parenthesis s c k in
      let u = elements_met spells r part limit meets LeadingVert xs cs c None none (content Parenthesis s c k f e sc).scope (inside_less Parenthesis s c k f e sc limit lim) i in
      let w = parens_met (elements r LeadingVert) (xs, cs) s c k f e sc u in
      record {
        last = s.closing;
        reads = chosen (not (is_some q) && (sees_call l && is_mod_style p)) false _ _ (at l f e sc) _ (no_call q p l (group_no_bang Parenthesis s c k))
            (chosen (sees_group Brace l) false _ _ (at l f e sc) _ (paren_no_brace s c k) (chosen (sees_group Parenthesis l) true _ _ (at l f e sc) _ (paren_seen s c k) (link _ (link _ w refl) refl)));
      }

  -- a bound, before what begins none of these
  pub bound_goes : (q : Q) (p : P) (y : Pat X) (m k : Toks) (f : Option Span) (e : Span) (sc : Scope) → token.sees_bang m ≡ false → sees_group Brace m ≡ false → sees_group Parenthesis m ≡ false →
      Reads_to (after_bound supplied (type_names supplied) (b.Path (path_pat_of [] q p))) y m k f e sc → Reads_to (after_path supplied (type_names supplied) r q p) y m k f e sc
  unfolding after_path
  bound_goes q p y m k f e sc bang brace paren u =
      record {
        last = u.last;
        reads = chosen (not (is_some q) && (sees_call m && is_mod_style p)) false _ _ (at m f e sc) _ (no_call q p m bang)
            (chosen (sees_group Brace m) false _ _ (at m f e sc) _ brace (chosen (sees_group Parenthesis m) false _ _ (at m f e sc) _ paren u.reads));
      }
