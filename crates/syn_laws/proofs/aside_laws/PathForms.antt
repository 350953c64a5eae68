-- Paths with arguments, and arguments, on lists that are the same aside from spans.
use Rattle.std.proofs.Common.{◌≡◌, Bool, true, List, [], ◌∷◌, Option, Some, None, length, map, option_map, refl, sym, ap, ap₂, ◌∙◌}
use Rattle.token_core.specs.declared.span.DelimSpan.{DelimSpan}
use Rattle.token_core.specs.declared.tree.Delimiter.TheVariants.{Parenthesis}
use Rattle.token_core.specs.declared.tree.Ident.{Ident}
use Rattle.token_core.specs.Groups as groups
use Rattle.token_core.specs.Listed.{AreListed, Anywhere}
use Rattle.token_core.specs.Spans.{none, delim_span}
use Rattle.token_core.specs.Spellings.{IsMark}
use Rattle.token_core.specs.Tokens as token
use Rattle.token_core.specs.Toks.{Bytes, Toks, done, group}
use Rattle.token_core.specs.Trees.{ident}
use Rattle.syn_path.specs.declared.path.PathStyle.{PathStyle}
use Rattle.syn_path.specs.declared.path.PathStyle.TheVariants.{AsWritten, Expr}
use Rattle.syn_path.specs.path.Paths.{segment_of, path_of}
use Rattle.syn_forms.specs.declared.places.TypePlace.{TypePlace}
use Rattle.syn_forms.specs.declared.places.TypePlace.TheVariants.{NoPlus}
use Rattle.syn_forms.specs.declared.places.BoundPlace.{BoundPlace}
use Rattle.syn_forms.specs.paths.Reading.{longer, with_arguments}
use Rattle.syn_ty.specs.declared.path.GenericArgumentOf.TheVariants as k
use Rattle.syn_ty.specs.declared.path.PathArgumentsOf.TheVariants as a
use Rattle.syn_ty.specs.declared.ty.ReturnTypeOf.TheVariants as output
use Rattle.syn_ty.specs.generics.Bounds.{AreBounds, no_bounds, last_plus, last_bound, bound_and_plus}
use Rattle.syn_ty.specs.path.Arguments.{ArgumentPlace, IsItemName, an_item, an_item_with_arguments, IsArgument, a_lifetime_argument, a_type_argument, a_const_argument, an_assoc_type, an_assoc_const, a_constraint}
use Rattle.syn_ty.specs.path.Paths.{Sep, no_arguments, angle_of, parens_of, assoc_type_of, assoc_const_of, constraint_of}
use Rattle.syn_ty.specs.path.Signed.{IsReturn, no_output, an_output, IsInput, an_input, IsParens, a_parens, IsDropped, nothing_dropped, a_sep_dropped, a_pair_dropped, IsSigned, a_signed, AreSigned, signed_last, signed_after, IsBoundPath, without_parens, with_parens}
use Rattle.syn_ty.specs.path.Spelling.{Styled, IsAngle, an_angle, IsArguments, some_arguments, IsSegment, a_word, a_word_with_arguments, AreSegments, IsPath, a_path, by_type, by_type_as_path, IsAnyPath, unqualified, qualified, IsNoTry}
use Rattle.syn_ty.specs.ty.Parts.{Manner, clearly, End, Parts}
use Rattle.syn_ty.specs.ty.Spelling.{Relation}
use Rattle.syn_ty.specs.ty.Trees.{AngleBracketed, GenericArgument, NamedArg, Parenthesized, Path, PathArguments, PathSegment, QSelf, ReturnType, TypeParamBound, TypeTree}
use Rattle.syn_ty.specs.ty.Types.{named_arg_of, qself_of}
use Rattle.syn_path.specs.aside.Tokens as tokens
use Rattle.syn_laws.specs.aside.Types as free
use Rattle.syn_path.proofs.aside_laws.Both.{cons_same, of3, of4, of5}
use Rattle.syn_path.proofs.aside_laws.Held.{put_in, MovedForm}
use Rattle.syn_laws.proofs.aside_laws.Layers.{free-angle, free-parens, free-lifetime-argument, free-type-argument, free-const-argument, free-assoc-type, free-assoc-const, free-constraint}
use Rattle.syn_laws.proofs.aside_laws.Parts.{Moving, optional_moves, onto_same, as_long}
use Rattle.syn_path.proofs.aside_laws.Same.{Same, same_word, same_group, all_left, past_word, past_group, onward, Moved, Mover}
use Rattle.syn_path.proofs.aside_laws.Tokens.{MovedMany, listed_ended, listed_move, mark_moves, word_moves, lifetime_moves, mark_seen, word_seen}

styled_seen : (style : PathStyle) {l m : Toks} → Same l m → Styled style l → Styled style m
styled_seen AsWritten s h = h
styled_seen Expr s h = sym (mark_seen _ s) ∙ h

module _ {A E : Type 0} (na : List A → List A) (ne : E → E) (part : Manner → Parts A E) (up : Moving na ne (part clearly)) where
  -- ---- arguments in angle brackets

  pub angle_moves : {x : AngleBracketed A E} {l r m : Toks} → IsAngle part clearly x l r → Same l m → Moved (free.angle na ne) (IsAngle part clearly) x r m
  angle_moves (an_angle i j t g) s =
      let o = optional_moves tokens.mark i s (λ x l r m. mark_moves) in
      let b = mark_moves j o.on in
      let v = listed_move (free.argument na ne) tokens.mark t b.on (λ b. up.argument) (λ x l r m. mark_moves) in
      let c = mark_moves g v.on in
      record {
        tree = angle_of o.tree b.tree (v.values, v.marks) c.tree;
        rest = c.rest;
        is = an_angle o.is b.is v.is c.is;
        same = of5 (λ a b v w c. angle_of a b (v, w) c) o.same b.same v.same v.same_marks c.same;
        on = c.on;
        part = onward c.part (onward v.part (onward b.part o.part));
      }

  pub arguments_move : {x : PathArguments A E} {l r m : Toks} → IsArguments part clearly x l r → Same l m → Moved (free.arguments na ne) (IsArguments part clearly) x r m
  arguments_move (some_arguments i) s = put_in a.AngleBracketed a.AngleBracketed (free-angle na ne) (λ y k i. some_arguments i) (angle_moves i s)

  -- ---- paths in a style

  pub segment_moves : {style : PathStyle} {x : PathSegment A E} {l r m : Toks} → IsSegment part clearly style x l r → Same l m → Moved (free.segment na ne) (IsSegment part clearly style) x r m
  segment_moves (a_word h) (same_word {t = t} {b = b} s) = record { tree = segment_of no_arguments (ident t b); rest = _; is = a_word h; same = refl; on = s; part = past_word all_left }
  segment_moves {style} (a_word_with_arguments h n i) (same_word {t = t} {b = b} s) =
      let q = up.arguments _ _ _ _ i s in
      record { tree = with_arguments (ident t b) q.tree; rest = q.rest; is = a_word_with_arguments h (styled_seen style s n) q.is; same = ap (with_arguments (ident t none)) q.same; on = q.on; part = onward q.part (past_word all_left) }

  pub segments_move : {style : PathStyle} {xs : List (PathSegment A E)} {cs : List Sep} {l r m : Toks} → AreSegments part clearly style xs cs l r → Same l m →
      MovedMany (free.segment na ne) tokens.mark (AreSegments part clearly style) xs cs r m
  segments_move i s = listed_move (free.segment na ne) tokens.mark i s (λ b x l r m. segment_moves) (λ x l r m. mark_moves)

  pub path_moves : {style : PathStyle} {x : Path A E} {l r m : Toks} → IsPath part clearly style x l r → Same l m → Moved (free.path na ne) (IsPath part clearly style) x r m
  path_moves (a_path i j) s =
      let o = optional_moves tokens.mark i s (λ x l r m. mark_moves) in
      let v = segments_move j o.on in
      record { tree = path_of o.tree (v.values, v.marks); rest = v.rest; is = a_path o.is v.is; same = of3 (λ o v w. path_of o (v, w)) o.same v.same v.same_marks; on = v.on; part = onward v.part o.part }

  longer_same : (p q : Path A E) (c d : Sep) (xs ys : List (PathSegment A E)) (cs ds : List Sep) → free.path na ne p ≡ free.path na ne q → tokens.mark c ≡ tokens.mark d → map (free.segment na ne) xs ≡ map (free.segment na ne) ys →
      map tokens.mark cs ≡ map tokens.mark ds → free.path na ne (longer p c (xs, cs)) ≡ free.path na ne (longer q d (ys, ds))
  longer_same p q c d xs ys cs ds e f g h =
      of3 (λ o v w. path_of o (v, w)) (ap (λ (z : Path A E). z.leading_colon) e) (onto_same (free.segment na ne) p.segments.0 xs q.segments.0 ys (ap (λ (z : Path A E). z.segments.0) e) g)
      (onto_same tokens.mark p.segments.1 (c ∷ cs) q.segments.1 (d ∷ ds) (ap (λ (z : Path A E). z.segments.1) e) (cons_same f h))

  -- ---- qualified paths: the type and the path together

  abbrev Named : Type 0
  Named = Option (QSelf A E) × Path A E

  abbrev named : Named → Named
  named x = (option_map (free.qself na ne) x.0, free.path na ne x.1)

  pub any_path_moves : {style : PathStyle} {q : Option (QSelf A E)} {p : Path A E} {l r m : Toks} → IsAnyPath part clearly style q p l r → Same l m → Moved named (λ z. IsAnyPath part clearly style z.0 z.1) (q, p) r m
  any_path_moves (unqualified i) s = let q = path_moves i s in record { tree = (None, q.tree); rest = q.rest; is = unqualified q.is; same = ap (λ (z : Path A E). (None, z)) q.same; on = q.on; part = q.part }
  any_path_moves (qualified (by_type i t g c v)) s =
      let b = mark_moves i s in
      let y = up.ty _ _ _ _ _ _ t b.on in
      let d = mark_moves g y.on in
      let e = mark_moves c d.on in
      let w = segments_move v e.on in
      record {
        tree = (Some (qself_of b.tree y.tree 0 None d.tree), path_of (Some e.tree) (w.values, w.marks));
        rest = w.rest;
        is = qualified (by_type b.is y.is d.is e.is w.is);
        same =
            ap₂ (λ (q : QSelf A E) (p : Path A E). (Some q, p)) (of3 (λ b y d. qself_of b y 0 None d) b.same y.same d.same)
            (of3 (λ (e : Sep) v w. path_of (Some e) (v, w)) e.same w.same w.same_marks);
        on = w.on;
        part = onward w.part (onward e.part (onward d.part (onward y.part b.part)));
      }
  any_path_moves (qualified (by_type_as_path {p = p} {c = x} {xs = xs} {cs = cs} i t n o j g c v)) s =
      let b = mark_moves i s in
      let y = up.ty _ _ _ _ _ _ t b.on in
      let a = word_moves o y.on in
      let q = path_moves j a.on in
      let d = mark_moves g q.on in
      let e = mark_moves c d.on in
      let w = segments_move v e.on in
      record {
        tree = (Some (qself_of b.tree y.tree (length q.tree.segments.0) (Some a.tree) d.tree), longer q.tree e.tree (w.values, w.marks));
        rest = w.rest;
        is = qualified (by_type_as_path b.is y.is n a.is q.is d.is e.is w.is);
        same =
            ap₂ (λ (q : QSelf A E) (p : Path A E). (Some q, p))
            (of5 (λ b y n (a : token.As) d. qself_of b y n (Some a) d) b.same y.same (as_long (free.segment na ne) q.tree.segments.0 p.segments.0 (ap (λ (z : Path A E). z.segments.0) q.same)) a.same d.same)
            (longer_same q.tree p e.tree x w.values xs w.marks cs q.same e.same w.same w.same_marks);
        on = w.on;
        part = onward w.part (onward e.part (onward d.part (onward q.part (onward a.part (onward y.part b.part)))));
      }

  pub no_try_moves : {style : PathStyle} {q : Option (QSelf A E)} {p : Path A E} {l r m : Toks} → IsNoTry part clearly style q p l r → Same l m → Moved named (λ z. IsNoTry part clearly style z.0 z.1) (q, p) r m
  no_try_moves (i, h) s = let q = any_path_moves i s in record { tree = q.tree; rest = q.rest; is = (q.is, sym (word_seen _ s) ∙ h); same = q.same; on = q.on; part = q.part }

  -- ---- bounds joined by `+`

  pub bounds_move : {place : BoundPlace} {Ends : Bool → Type 0} {first : Bool} {e : End} {xs : List (TypeParamBound A E)} {ps : List token.Plus} {l r m : Toks} → AreBounds part clearly place Ends first e xs ps l r → Same l m →
      MovedMany (free.bound na ne) tokens.mark (AreBounds part clearly place Ends first e) xs ps r m
  bounds_move (no_bounds h) s = record { values = []; marks = []; rest = _; is = no_bounds h; same = refl; same_marks = refl; on = s; part = all_left }
  bounds_move (last_plus h) s = record { values = []; marks = []; rest = _; is = last_plus h; same = refl; same_marks = refl; on = s; part = all_left }
  bounds_move (last_bound i) s = let q = up.bound _ _ _ _ _ _ i s in record { values = q.tree ∷ []; marks = []; rest = q.rest; is = last_bound q.is; same = cons_same q.same refl; same_marks = refl; on = q.on; part = q.part }
  bounds_move (bound_and_plus i h j k) s =
      let q = up.bound _ _ _ _ _ _ i s in
      let p = mark_moves j q.on in
      let t = bounds_move k p.on in
      record {
        values = q.tree ∷ t.values;
        marks = p.tree ∷ t.marks;
        rest = t.rest;
        is = bound_and_plus q.is h p.is t.is;
        same = cons_same q.same t.same;
        same_marks = cons_same p.same t.same_marks;
        on = t.on;
        part = onward t.part (onward p.part q.part);
      }

  -- ---- an argument

  abbrev Item : Type 0
  Item = Ident × Option (AngleBracketed A E)

  abbrev item : Item → Item
  item x = (tokens.ident x.0, option_map (free.angle na ne) x.1)

  module _ {first : End → Relation (TypeTree A E)} (given : (e : End) → Mover (free.ty na ne) (first e)) where
    item_moves : {i : Ident} {o : Option (AngleBracketed A E)} {l r m : Toks} → IsItemName first part clearly i o l r → Same l m → Moved item (λ z. IsItemName first part clearly z.0 z.1) (i, o) r m
    item_moves (an_item h) (same_word {t = t} {b = b} s) = record { tree = (ident t b, None); rest = _; is = an_item h; same = refl; on = s; part = past_word all_left }
    item_moves (an_item_with_arguments h i) (same_word {t = t} {b = b} s) =
        let q = up.angle _ _ _ _ i s in
        record { tree = (ident t b, Some q.tree); rest = q.rest; is = an_item_with_arguments h q.is; same = ap (λ (z : AngleBracketed A E). (ident t none, Some z)) q.same; on = q.on; part = onward q.part (past_word all_left) }

    pub argument_moves : {place : ArgumentPlace} {x : GenericArgument A E} {l r m : Toks} → IsArgument first part clearly place x l r → Same l m → Moved (free.argument na ne) (IsArgument first part clearly place) x r m
    argument_moves (a_lifetime_argument i) s = put_in k.Lifetime k.Lifetime (free-lifetime-argument na ne) (λ y k i. a_lifetime_argument i) (lifetime_moves i s)
    argument_moves (a_type_argument i) s = put_in k.«Type» k.«Type» (free-type-argument na ne) (λ y k i. a_type_argument i) (given _ _ _ _ _ i s)
    argument_moves (a_const_argument i) s = put_in k.Const k.Const (free-const-argument na ne) (λ y k i. a_const_argument i) (up.const_argument _ _ _ _ i s)
    argument_moves (an_assoc_type {i = n} {o = o} {q = e} {x = x} i j t) s =
        let a = item_moves i s in
        let b = mark_moves j a.on in
        let c = up.ty _ _ _ _ _ _ t b.on in
        record {
          tree = k.AssocType (assoc_type_of a.tree.0 a.tree.1 b.tree c.tree);
          rest = c.rest;
          is = an_assoc_type a.is b.is c.is;
          same =
              free-assoc-type na ne a.tree.0 a.tree.1 b.tree c.tree
              ∙ of3 (λ (z : Item) e t. k.AssocType (assoc_type_of z.0 z.1 e t)) a.same b.same c.same ∙ sym (free-assoc-type na ne n o e x);
          on = c.on;
          part = onward c.part (onward b.part a.part);
        }
    argument_moves (an_assoc_const {i = n} {o = o} {q = e} {x = x} i j t) s =
        let a = item_moves i s in
        let b = mark_moves j a.on in
        let c = up.const_argument _ _ _ _ t b.on in
        record {
          tree = k.AssocConst (assoc_const_of a.tree.0 a.tree.1 b.tree c.tree);
          rest = c.rest;
          is = an_assoc_const a.is b.is c.is;
          same =
              free-assoc-const na ne a.tree.0 a.tree.1 b.tree c.tree
              ∙ of3 (λ (z : Item) e t. k.AssocConst (assoc_const_of z.0 z.1 e t)) a.same b.same c.same ∙ sym (free-assoc-const na ne n o e x);
          on = c.on;
          part = onward c.part (onward b.part a.part);
        }
    argument_moves (a_constraint {i = n} {o = o} {c = c} {xs = xs} {ps = ps} i j t) s =
        let a = item_moves i s in
        let b = mark_moves j a.on in
        let v = bounds_move t b.on in
        record {
          tree = k.Constraint (constraint_of a.tree.0 a.tree.1 b.tree (v.values, v.marks));
          rest = v.rest;
          is = a_constraint a.is b.is v.is;
          same =
              free-constraint na ne a.tree.0 a.tree.1 b.tree (v.values, v.marks)
              ∙ of4 (λ (z : Item) e x p. k.Constraint (constraint_of z.0 z.1 e (x, p))) a.same b.same v.same v.same_marks ∙ sym (free-constraint na ne n o c (xs, ps));
          on = v.on;
          part = onward v.part (onward b.part a.part);
        }

  -- ---- outputs, and arguments in parentheses

  pub return_moves : {place : TypePlace} {e : End} {x : ReturnType A E} {l r m : Toks} → IsReturn part clearly place e x l r → Same l m → Moved (free.return_type na ne) (IsReturn part clearly place e) x r m
  return_moves no_output s = record { tree = output.Default; rest = _; is = no_output; same = refl; on = s; part = all_left }
  return_moves (an_output i t) s =
      let a = mark_moves i s in
      let b = up.ty _ _ _ _ _ _ t a.on in
      record { tree = output.«Type» a.tree b.tree; rest = b.rest; is = an_output a.is b.is; same = ap₂ (λ (a : token.RArrow) (b : TypeTree A E). output.«Type» a b) a.same b.same; on = b.on; part = onward b.part a.part }

  input_moves : {x : NamedArg A E} {l r m : Toks} → IsInput part clearly x l r → Same l m → Moved (free.named_arg na ne) (IsInput part clearly) x r m
  input_moves (an_input i) s = let q = up.ty _ _ _ _ _ _ i s in record { tree = named_arg_of [] None q.tree; rest = q.rest; is = an_input q.is; same = ap (λ (z : TypeTree A E). named_arg_of (na []) None z) q.same; on = q.on; part = q.part }

  parens_at : {e : End} {s : DelimSpan} {xs : List (NamedArg A E)} {cs : List token.Comma} {o : ReturnType A E} {n r b : Toks} (f : DelimSpan) (k : Toks) → Same n k →
      MovedMany (free.named_arg na ne) tokens.mark (AreListed (λ (_ : Bool). IsInput part clearly) (IsMark true) Anywhere true) xs cs done b → IsReturn part clearly NoPlus e o n r →
      Moved (free.parenthesized na ne) (IsParens part clearly e) (parens_of (groups.paren s) (xs, cs) o) r (group Parenthesis f b k)
  parens_at f k s v i =
      let q = return_moves i s in
      record {
        tree = parens_of (groups.paren f) (v.values, v.marks) q.tree;
        rest = q.rest;
        is = a_parens (listed_ended v) q.is;
        same = of3 (λ x p o. parens_of (groups.paren (delim_span none none)) (x, p) o) v.same v.same_marks q.same;
        on = q.on;
        part = onward q.part (past_group all_left);
      }

  pub parens_move : {e : End} {x : Parenthesized A E} {l r m : Toks} → IsParens part clearly e x l r → Same l m → Moved (free.parenthesized na ne) (IsParens part clearly e) x r m
  parens_move (a_parens i j) (same_group {b = f} {m = k} v c s) = parens_at f k s (listed_move (free.named_arg na ne) tokens.mark i c (λ b x l r m. input_moves) (λ x l r m. mark_moves)) j

  -- ---- the path of a trait bound

  dropped_move : {t : Bytes} {l r m : Toks} → IsDropped part clearly t l r → Same l m → MovedForm (IsDropped part clearly t) r m
  dropped_move nothing_dropped s = record { rest = _; is = nothing_dropped; on = s; part = all_left }
  dropped_move (a_sep_dropped i) s = let a = mark_moves i s in record { rest = a.rest; is = a_sep_dropped a.is; on = a.on; part = a.part }
  dropped_move (a_pair_dropped h i j k n) s =
      let a = optional_moves tokens.mark i s (λ x l r m. mark_moves) in
      let b = mark_moves j a.on in
      let c = mark_moves k b.on in
      let d = optional_moves tokens.mark n c.on (λ x l r m. mark_moves) in
      record { rest = d.rest; is = a_pair_dropped h a.is b.is c.is d.is; on = d.on; part = onward d.part (onward c.part (onward b.part a.part)) }

  signed_moves : {e : End} {x : PathSegment A E} {l r m : Toks} → IsSigned part clearly e x l r → Same l m → Moved (free.segment na ne) (IsSigned part clearly e) x r m
  signed_moves (a_signed {x = x} h d i) (same_word {t = t} {b = b} s) =
      let q = dropped_move d s in
      let p = parens_move i q.on in
      record {
        tree = with_arguments (ident t b) (a.Parenthesized p.tree);
        rest = p.rest;
        is = a_signed h q.is p.is;
        same =
            ap (with_arguments (ident t none))
            (free-parens na ne p.tree.paren_token p.tree.inputs p.tree.output ∙ ap a.Parenthesized p.same ∙ sym (free-parens na ne x.paren_token x.inputs x.output));
        on = p.on;
        part = onward p.part (onward q.part (past_word all_left));
      }

  signed_move : {e : End} {xs : List (PathSegment A E)} {cs : List Sep} {l r m : Toks} → AreSigned part clearly e xs cs l r → Same l m → MovedMany (free.segment na ne) tokens.mark (AreSigned part clearly e) xs cs r m
  signed_move (signed_last i) s = let q = signed_moves i s in record { values = q.tree ∷ []; marks = []; rest = q.rest; is = signed_last q.is; same = cons_same q.same refl; same_marks = refl; on = q.on; part = q.part }
  signed_move (signed_after i j k) s =
      let q = segment_moves i s in
      let p = mark_moves j q.on in
      let t = signed_move k p.on in
      record {
        values = q.tree ∷ t.values;
        marks = p.tree ∷ t.marks;
        rest = t.rest;
        is = signed_after q.is p.is t.is;
        same = cons_same q.same t.same;
        same_marks = cons_same p.same t.same_marks;
        on = t.on;
        part = onward t.part (onward p.part q.part);
      }

  pub bound_path_moves : {e : End} {x : Path A E} {l r m : Toks} → IsBoundPath part clearly e x l r → Same l m → Moved (free.path na ne) (IsBoundPath part clearly e) x r m
  bound_path_moves (without_parens i) s = let q = path_moves i s in record { tree = q.tree; rest = q.rest; is = without_parens q.is; same = q.same; on = q.on; part = q.part }
  bound_path_moves (with_parens i j) s =
      let o = optional_moves tokens.mark i s (λ x l r m. mark_moves) in
      let v = signed_move j o.on in
      record { tree = path_of o.tree (v.values, v.marks); rest = v.rest; is = with_parens o.is v.is; same = of3 (λ o v w. path_of o (v, w)) o.same v.same v.same_marks; on = v.on; part = onward v.part o.part }
