-- What the braces of a struct spell clearly is what is read in them: fields joined by commas, and perhaps `..` at the end.
use Rattle.std.proofs.Common.{◌≡◌, ℕ, zero, suc, ◌<◌, ◌≤◌, Bool, true, false, List, [], ◌∷◌, Option, Some, None, inl, inr, refl, ◌∙◌, ap, sym, arith}
use Rattle.syn_pat.proofs.pat_laws.words.Tokens.{DelimSpan, Span, Brace, AreListed, Anywhere, none_left, last_value, value_and_mark, Many, size, Reader, is_done, sees_mark, none, more_chars, last_char, IsMark, is_mark, Scope, Toks, done, group}
use Rattle.syn_pat.proofs.pat_laws.words.Paths.{Place}
use Rattle.syn_pat.proofs.pat_laws.words.Forms.{ahead}
use Rattle.syn_pat.proofs.pat_laws.words.Attributes.{Expr}
use Rattle.syn_pat.proofs.pat_laws.words.Types.{Manner, clearly, AreMarked, no_further, one_further, Relation, Path, QSelf, Comma}
use Rattle.syn_pat.proofs.pat_laws.words.Patterns.{PatPlace, AreFields, fields_alone, fields_and_rest, IsField, Attrs, FieldPat, Pat, PatRest, rest_of, struct_of, Fields, Readers, fields, fields_from, no_fields, one_field, put_field, outer_spelt}
use Rattle.token_core.specs.Groups as groups
use Rattle.token_core.specs.Tokens as token
use Rattle.token_core.proofs.MarkSpells.{mark_complete, mark_seen}
use Rattle.token_core.proofs.Steps.{Reads_to, chosen, link}
use Rattle.token_core.proofs.Took.{at, leaves_none}
use Rattle.syn_attr.specs.attr.Attrs.{Attribute as Attr}
use Rattle.syn_forms.proofs.groups_laws.Complete.{content, reads_inside}
use Rattle.syn_ty.proofs.ty_laws.complete.Leaves.{not_more}
use Rattle.syn_ty.proofs.ty_laws.complete.Less.{less_no, mark_no, no_less, some}
use Rattle.syn_ty.proofs.ty_laws.complete.Within.{Less}
use Rattle.syn_pat.specs.pat.Reading.{struct_after}
use Rattle.syn_pat.proofs.pat_laws.complete.Fields.{IsRead, comma_field, end_field, field_met}
use Rattle.syn_pat.proofs.pat_laws.complete.Fronts.{done_no_mark}
use Rattle.syn_pat.proofs.pat_laws.complete.Groups.{all_done, comma_met, comma_there, inside_less}
use Rattle.syn_pat.proofs.pat_laws.complete.Within.{Meets, SuppliedMeets}

-- ---- what a mark or attributes begin with is there

no_end : (c : ℕ) (cs : List ℕ) (l : Toks) (b : Bool) → is_done l ≡ b → sees_mark (c ∷ cs) l ≡ true → is_done l ≡ false
no_end c cs l true h g = let k : true ≡ false = sym g ∙ done_no_mark c cs l h in cc (h, k)
no_end c cs l false h g = h

pub mark_there : (c : ℕ) (cs : List ℕ) (l : Toks) → sees_mark (c ∷ cs) l ≡ true → is_done l ≡ false
mark_there c cs l h = no_end c cs l (is_done l) refl h

dots_no_pound : (d : token.DotDot) (l r : Toks) → IsMark true d l r → token.sees_pound l ≡ false
unfolding sees_mark
dots_no_pound d l r (is_mark (more_chars (last_char x))) = refl

module _ {X : Type 0} (supplied : Place → Reader X) (spells : Place → X → Toks → Type 0) (g : SuppliedMeets supplied spells) (r : Readers X) (part : Manner → PatPlace → Relation (Pat X)) (limit : ℕ) (meets : Meets r part limit) where
  attrs_there : (a : Attrs X) (l m : Toks) → outer_spelt spells true a l m → is_done m ≡ false → is_done l ≡ false
  attrs_there a l m i h = elim (g.attrs_begin a l m i) [ inl e ↦ ap is_done e ∙ h | inr p ↦ mark_there 35 [] l p ]

  abbrev Of : FieldPat X → Toks → Toks → Type 0
  Of = IsField spells part clearly

  abbrev Read : FieldPat X → Toks → Toks → Type 0
  Read = IsRead spells r part limit meets

  as_read : (x : FieldPat X) (l k : Toks) → Of x l k → Read x l k
  as_read = field_met spells r part limit meets

  field_less : (x : FieldPat X) (l k : Toks) → Read x l k → Less l k
  field_less x l k w = no_less (g.attrs_light w.attrs l w.begins w.spelt) w.less

  -- ---- turn by turn

  -- a last field
  last_met : (n : ℕ) (x : FieldPat X) (l : Toks) (f : Option Span) (e : Span) (sc : Scope) → ahead (at l f e sc) < limit → Read x l done → Reads_to (fields_from supplied r (suc n)) (one_field x) l done f e sc
  last_met n x l f e sc h w =
      let a = g.attrs w.attrs l w.begins f e sc w.spelt w.no_pound in
      let before = not_more l w.begins f f e a.last sc limit (g.attrs_light w.attrs l w.begins w.spelt).light h in
      let b = w.reads f a.last sc (omega (arith, before)) end_field in
      record {
        last = b.last;
        reads = chosen (is_done l) false _ _ (at l f e sc) _ (attrs_there w.attrs l w.begins w.spelt w.there)
            (link _ a.reads (chosen (token.sees_dot_dot w.begins) false _ _ (at w.begins f a.last sc) _ w.no_dots (link _ b.reads (chosen (is_done done) true _ _ (at done f b.last sc) _ all_done refl))));
      }

  -- one before a comma and what follows it
  before_met : (n : ℕ) (x : FieldPat X) (c : Comma) (w : Fields X) (l m k : Toks) (f : Option Span) (e : Span) (sc : Scope) → ahead (at l f e sc) < limit → Read x l m → IsMark true c m k →
      ((d : Span) → Reads_to (fields_from supplied r n) w k done f d sc) → Reads_to (fields_from supplied r (suc n)) (put_field x c w) l done f e sc
  before_met n x c w l m k f e sc h u i on =
      let a = g.attrs u.attrs l u.begins f e sc u.spelt u.no_pound in
      let before = not_more l u.begins f f e a.last sc limit (g.attrs_light u.attrs l u.begins u.spelt).light h in
      let b = u.reads f a.last sc (omega (arith, before)) (comma_field c m k i) in
      let d = comma_met c m k f b.last sc i in
      let z = on d.last in
      record {
        last = z.last;
        reads = chosen (is_done l) false _ _ (at l f e sc) _ (attrs_there u.attrs l u.begins u.spelt u.there)
            (link _ a.reads (chosen (token.sees_dot_dot u.begins) false _ _ (at u.begins f a.last sc) _ u.no_dots (link _ b.reads (chosen (is_done m) false _ _ (at m f b.last sc) _ (comma_there c m k i) (link _ d.reads (link _ z.reads refl))))));
      }

  rest_met : (n : ℕ) (a : Attrs X) (d : token.DotDot) (l m : Toks) (f : Option Span) (e : Span) (sc : Scope) → outer_spelt spells true a l m → IsMark true d m done → Reads_to (fields_from supplied r (suc n)) (no_fields (Some (rest_of a d))) l done f e sc
  rest_met n a d l m f e sc i j =
      let b = g.attrs a l m f e sc i (dots_no_pound d m done j) in
      let c = mark_complete true {n = 8} {k = 2} refl (omega arith) d m done f b.last sc j in
      let seen = mark_seen true {n = 8} {k = 2} d m done j in
      record {
        last = c.last;
        reads = chosen (is_done l) false _ _ (at l f e sc) _ (attrs_there a l m i (mark_there 46 (46 ∷ []) m seen)) (link _ b.reads (chosen (token.sees_dot_dot m) true _ _ (at m f b.last sc) _ seen (link _ c.reads refl)));
      }

  on_light : (x : FieldPat X) (c : Comma) (l m k : Toks) → Read x l m → IsMark true c m k → Less l k
  on_light x c l m k u i = less_no (field_less x l m u) (mark_no {clear = true} {n = 4} {k = 1} c m k i)

  alone_met : (n : ℕ) (b : Bool) (xs : List (FieldPat X)) (cs : List Comma) (l : Toks) (f : Option Span) (e : Span) (sc : Scope) → size l < n → ahead (at l f e sc) < limit → AreListed (λ (_ : Bool). Of) (IsMark true) Anywhere b xs cs l done →
      Reads_to (fields_from supplied r n) ((xs, cs), None) l done f e sc
  alone_met zero b xs cs l f e sc z h i = absurd (omega (arith, z))
  alone_met (suc n) b xs cs l f e sc z h (none_left may) = record { last = e; reads = chosen (is_done done) true _ _ (at done f e sc) _ all_done refl }
  alone_met (suc n) b xs cs l f e sc z h (last_value {x = x} i) = last_met n x l f e sc h (as_read x l done i)
  alone_met (suc n) b xs cs l f e sc z h (value_and_mark {x = x} {p = c} {xs = ys} {ps = ds} {m = m} {k = k} i j rest) =
      let u = as_read x l m i in
      let less = on_light x c l m k u j in
      let short = less.shorter in
      before_met n x c ((ys, ds), None) l m k f e sc h u j (λ d. alone_met n false ys ds k f d sc (omega (arith, z, short)) (not_more l k f f e d sc limit (some less).light h) rest)

  marked_met : (n : ℕ) (b : Bool) (xs : List (FieldPat X)) (cs : List Comma) (a : Attrs X) (d : token.DotDot) (l m o : Toks) (f : Option Span) (e : Span) (sc : Scope) → size l < n → ahead (at l f e sc) < limit → AreMarked (λ (_ : Bool). Of) (IsMark true) b xs cs l m →
      outer_spelt spells true a m o → IsMark true d o done → Reads_to (fields_from supplied r n) ((xs, cs), Some (rest_of a d)) l done f e sc
  marked_met zero b xs cs a d l m o f e sc z h i p q = absurd (omega (arith, z))
  marked_met (suc n) b xs cs a d l m o f e sc z h no_further p q = rest_met n a d l o f e sc p q
  marked_met (suc n) b xs cs a d l m o f e sc z h (one_further {x = x} {p = c} {xs = ys} {ps = ds} {m = i} {k = k} v j rest) p q =
      let u = as_read x l i v in
      let less = on_light x c l i k u j in
      let short = less.shorter in
      before_met n x c ((ys, ds), Some (rest_of a d)) l i k f e sc h u j (λ y. marked_met n false ys ds a d k m o f y sc (omega (arith, z, short)) (not_more l k f f e y sc limit (some less).light h) rest p q)

  -- ---- all of what braces hold

  pub fields_met : (w : Many (FieldPat X) Comma) (o : Option (PatRest X)) (l : Toks) (f : Option Span) (e : Span) (sc : Scope) → ahead (at l f e sc) < limit → AreFields spells part clearly w o l → Reads_to (fields supplied r) (w, o) l done f e sc
  unfolding fields
  fields_met w o l f e sc h (fields_alone {xs = xs} {cs = cs} i) = let u = alone_met (suc (size l)) true xs cs l f e sc (omega arith) h i in record { last = u.last; reads = u.reads }
  fields_met w o l f e sc h (fields_and_rest {xs = xs} {cs = cs} {a = a} {d = d} {m = m} {n = n} i j k) =
      let u = marked_met (suc (size l)) true xs cs a d l m n f e sc (omega arith) h i j k in record { last = u.last; reads = u.reads }

  pub struct_met : (q : Option (QSelf (Attr X) (Expr X))) (p : Path (Attr X) (Expr X)) (w : Many (FieldPat X) Comma) (o : Option (PatRest X)) (s : DelimSpan) (c k : Toks) (f : Option Span) (e : Span) (sc : Scope) → ahead (at (group Brace s c k) f e sc) ≤ limit →
      AreFields spells part clearly w o c → Reads_to (struct_after supplied r q p) (struct_of [] q p (groups.brace s) w o) (group Brace s c k) k f e sc
  unfolding struct_after
  struct_met q p w o s c k f e sc h i =
      let z = content Brace s c k f e sc in
      let u = fields_met w o c None none z.scope (inside_less Brace s c k f e sc limit h) i in
      record { last = s.closing; reads = link _ (reads_inside Brace groups.brace_name (fields supplied r) (w, o) s c k (at done None u.last z.scope) f e sc u.reads (leaves_none None u.last z.scope refl)) refl }
