-- Patterns on lists that are the same aside from spans; and what their whole reads promise.
use Rattle.std.proofs.Common.{◌≡◌, ℕ, zero, suc, Bool, true, List, [], ◌∷◌, Option, Some, None, map, option_map, refl, sym, ap, ap₂, ◌∙◌}
use Rattle.token_core.specs.declared.member.Member.{Member}
use Rattle.token_core.specs.declared.member.Member.TheVariants as member
use Rattle.token_core.specs.declared.span.DelimSpan.{DelimSpan}
use Rattle.token_core.specs.declared.tree.Delimiter.TheVariants.{Parenthesis, Brace}
use Rattle.token_core.specs.declared.tree.Ident.{Ident}
use Rattle.token_core.specs.Groups as groups
use Rattle.token_core.specs.Listed.{AreListed, Anywhere}
use Rattle.token_core.specs.Loops.{Many}
use Rattle.token_core.specs.Headline.{Lawful}
use Rattle.token_core.specs.Prints.{Print}
use Rattle.token_core.specs.Reads.{Reader, is_ident}
use Rattle.token_core.specs.Spans.{none, delim_span}
use Rattle.token_core.specs.Spellings.{IsMark, IsWord}
use Rattle.token_core.specs.Tokens as token
use Rattle.token_core.specs.Toks.{Toks, done, word, group}
use Rattle.token_core.specs.Trees.{ident}
use Rattle.syn_path.specs.declared.supplied.Place.{Place}
use Rattle.syn_path.specs.declared.supplied.Place.TheVariants.{Guard}
use Rattle.syn_attr.specs.attr.Attrs.{Attribute as Attr, expr_macro_of, lit_of}
use Rattle.syn_attr.specs.declared.expr.Expr.{Expr}
use Rattle.syn_attr.specs.declared.expr.Expr.TheVariants as e
use Rattle.syn_ty.specs.ty.Parts.{Manner, clearly}
use Rattle.syn_ty.specs.ty.Promises.{promise}
use Rattle.syn_ty.specs.ty.Spelling.{Relation, IsOptional}
use Rattle.syn_ty.specs.ty.Trees.{Path, QSelf, TypeTree}
use Rattle.syn_ty.specs.ty.Types.{Comma}
use Rattle.syn_pat.specs.declared.pat.PatOf.TheVariants as v
use Rattle.syn_pat.specs.declared.place.PatPlace.{PatPlace}
use Rattle.syn_pat.specs.declared.place.PatPlace.TheVariants.{Single, Multi, LeadingVert, Element}
use Rattle.syn_pat.specs.pat.Admitted.{is_tuple, Fits, IsBoxedName, a_boxed_name, IsBoxed, a_box, IsSubpat, a_subpat, IsBinding, a_binding, IsField, with_colon, without_colon, boxed, AreFields, fields_alone, fields_and_rest, AreElements, IsSingle, a_binding_pat, a_wild, a_rest, a_literal, a_const, a_call, a_path, a_range, a_reference, a_mutable_reference, a_paren, a_tuple, a_slice, a_tuple_struct, a_struct, a_verbatim, AreCases, cases, IsPat, a_single, some_cases, one_after_vert, some_after_vert}
use Rattle.syn_pat.specs.pat.Pats.{Attrs, Pat, PatIdent, PatRest, PatType, FieldPat, binding_of, field_of, guard_of, or_of, paren_of, path_pat_of, reference_of, rest_of, slice_of, struct_of, tuple_of, tuple_struct_of, typed_of, wild_of, is_rest}
use Rattle.syn_pat.specs.pat.Spelling.{outer_spelt, IsHead, is_binding_name}
use Rattle.syn_pat.specs.pat.Spelt.{pats_to, SpellsPat, SpellsGuarded, without_guard, with_guard, SpellsPatType, a_pat_type}
use Rattle.syn_path.specs.aside.Lists.{Asides, MovesSubtree}
use Rattle.syn_laws.specs.aside.Pats as free
use Rattle.syn_path.specs.aside.Tokens as tokens
use Rattle.syn_laws.proofs.aside_laws.Attrs.{Kept, free-other, kept_moves, subtree_moves}
use Rattle.syn_path.proofs.aside_laws.Both.{cons_same, of3, of4}
use Rattle.syn_path.proofs.aside_laws.Held.{put_in, MovedForm, held_moves}
use Rattle.syn_laws.proofs.aside_laws.Parts.{marked_move, optional_moves}
use Rattle.syn_laws.proofs.aside_laws.PatLayers.{free-Const, free-Guard, free-Ident, free-Lit, free-Macro, free-Or, free-Paren, free-Path, free-Range, free-Reference, free-Rest, free-Slice, free-Struct, free-Tuple, free-TupleStruct, free-Verbatim, free-Wild, rest_kept, open_kept}
use Rattle.syn_laws.proofs.aside_laws.PatParts.{attrs_move, const_block_moves, head_moves, Names, names, pat_call_moves, pat_path_moves, range_moves, same_binding, types_move}
use Rattle.syn_path.proofs.aside_laws.Same.{Same, same_word, same_group, Rest, all_left, past_word, past_group, onward, Moved, Mover, aside}
use Rattle.syn_path.proofs.aside_laws.Tokens.{MovedMany, ended, listed_ended, listed_move, lit_moves, mark_moves, member_moves, word_moves, word_seen}

-- ---- a name held after `box`

-- the identifier that is named, with other spans
record MovedName (Form : Ident → Toks → Toks → Type 0) (i : Ident) (r m : Toks) : Type 0 where
  pub name : Ident
  pub rest : Toks
  pub is : Form name m rest
  pub same : tokens.ident name ≡ tokens.ident i
  pub on : Same r rest
  pub part : Rest rest m

boxed_at : {i : Ident} {r m k n g : Toks} (b : token.Box) (f : Option token.Ref) (u : Option token.Mut) → Same (word i r) k → Rest k m → IsWord b m n → IsOptional IsWord f n g → IsOptional IsWord u g k → is_ident i.text ≡ true → MovedName IsBoxedName i r m
boxed_at b f u (same_word {t = t} {b = a} s) w x y z h = record { name = ident t a; rest = _; is = a_boxed_name x y z h; same = refl; on = s; part = onward (past_word all_left) w }

boxed_name_moves : {i : Ident} {l r m : Toks} → IsBoxedName i l r → Same l m → MovedName IsBoxedName i r m
boxed_name_moves (a_boxed_name i j k h) s =
    let a = word_moves i s in
    let b = optional_moves tokens.word j a.on (λ x l r m i s. word_moves i s) in
    let c = optional_moves tokens.word k b.on (λ x l r m i s. word_moves i s) in
    boxed_at a.tree b.tree c.tree c.on (onward c.part (onward b.part a.part)) a.is b.is c.is h

module _ {X : Type 0} (spells : Place → X → Toks → Type 0) (fx : X → X) (given : MovesSubtree spells fx) (part : Manner → PatPlace → Relation (Pat X)) (up : (place : PatPlace) → Mover (free.pat fx) (part clearly place)) where
  box_moves : {l r m : Toks} → IsBoxed part clearly l r → Same l m → MovedForm (IsBoxed part clearly) r m
  box_moves (a_box i j) s = let a = word_moves i s in let b = up _ _ _ _ _ j a.on in record { rest = b.rest; is = a_box a.is b.is; on = b.on; part = onward b.part a.part }

  -- ---- bindings

  subpat_moves : {x : token.At × Pat X} {l r m : Toks} → IsSubpat spells part clearly x l r → Same l m → Moved (free.subpat fx) (IsSubpat spells part clearly) x r m
  subpat_moves (a_subpat i j) s =
      let a = mark_moves i s in
      let b = up _ _ _ _ _ j a.on in
      record { tree = (a.tree, b.tree); rest = b.rest; is = a_subpat a.is b.is; same = ap₂ (λ (a : token.At) (b : Pat X). (a, b)) a.same b.same; on = b.on; part = onward b.part a.part }

  binding_at : {f : Option token.Ref} {u : Option token.Mut} {i : Ident} {z : Option (token.At × Pat X)} {n r m k g : Toks} (f' : Option token.Ref) (u' : Option token.Mut) → Same (word i n) k → Rest k m → IsOptional IsWord f' m g → IsOptional IsWord u' g k →
      option_map tokens.word f' ≡ option_map tokens.word f → option_map tokens.word u' ≡ option_map tokens.word u → is_binding_name i.text ≡ true → IsOptional (IsSubpat spells part clearly) z n r →
      Moved (free.binding fx) (IsBinding spells part clearly) (binding_of [] f u i z) r m
  binding_at f u (same_word {t = t} {b = a} s) w x y e h n j =
      let q = optional_moves (free.subpat fx) j s (λ x l r m i s. subpat_moves i s) in
      record {
        tree = binding_of [] f u (ident t a) q.tree;
        rest = q.rest;
        is = a_binding x y n q.is;
        same = of3 (λ (f : Option token.Ref) (u : Option token.Mut) (z : Option (token.At × Pat X)). binding_of [] f u (ident t none) z) e h q.same;
        on = q.on;
        part = onward q.part (onward (past_word all_left) w);
      }

  binding_moves : {x : PatIdent X} {l r m : Toks} → IsBinding spells part clearly x l r → Same l m → Moved (free.binding fx) (IsBinding spells part clearly) x r m
  binding_moves (a_binding i j n k) s =
      let a = optional_moves tokens.word i s (λ x l r m i s. word_moves i s) in
      let b = optional_moves tokens.word j a.on (λ x l r m i s. word_moves i s) in
      binding_at a.tree b.tree b.on (onward b.part a.part) a.is b.is a.same b.same n k

  -- ---- the fields of a struct

  short_at : {a : Attrs X} {f : Option token.Ref} {u : Option token.Mut} {i : Ident} {r m k g h : Toks} (a' : Attrs X) (f' : Option token.Ref) (u' : Option token.Mut) → Same (word i r) k → Rest k m → outer_spelt spells true a' m h → IsOptional IsWord f' h g → IsOptional IsWord u' g k →
      free.attrs fx a' ≡ free.attrs fx a → option_map tokens.word f' ≡ option_map tokens.word f → option_map tokens.word u' ≡ option_map tokens.word u → is_ident i.text ≡ true →
      Moved (free.field fx) (IsField spells part clearly) (field_of a (member.Named i) None (v.Ident (binding_of [] f u i None))) r m
  short_at {f = f0} {u = u0} {i = i0} a f u (same_word {t = t} {b = c} s) w at x y d e h n = record {
    tree = field_of a (member.Named (ident t c)) None (v.Ident (binding_of [] f u (ident t c) None));
    rest = _;
    is = without_colon at x y n;
    same =
        ap₂ (λ (a : Attrs X) (z : Pat X). field_of a (member.Named (ident t none)) None z) d
        (free-Ident fx (binding_of [] f u (ident t c) None) ∙ ap₂ (λ (f : Option token.Ref) (u : Option token.Mut). v.Ident (binding_of [] f u (ident t none) None)) e h ∙ sym (free-Ident fx (binding_of [] f0 u0 i0 None)));
    on = s;
    part = onward (past_word all_left) w;
  }

  field_moves : {x : FieldPat X} {l r m : Toks} → IsField spells part clearly x l r → Same l m → Moved (free.field fx) (IsField spells part clearly) x r m
  field_moves (with_colon i j k t) s =
      let a = attrs_move spells fx given i s in
      let b = member_moves j a.on in
      let c = mark_moves k b.on in
      let d = up _ _ _ _ _ t c.on in
      record {
        tree = field_of a.tree b.tree (Some c.tree) d.tree;
        rest = d.rest;
        is = with_colon a.is b.is c.is d.is;
        same = of4 (λ (a : Attrs X) (b : Member) (c : token.Colon) (d : Pat X). field_of a b (Some c) d) a.same b.same c.same d.same;
        on = d.on;
        part = onward d.part (onward c.part (onward b.part a.part));
      }
  field_moves (without_colon i j k n) s =
      let a = attrs_move spells fx given i s in
      let b = optional_moves tokens.word j a.on (λ x l r m i s. word_moves i s) in
      let c = optional_moves tokens.word k b.on (λ x l r m i s. word_moves i s) in
      short_at a.tree b.tree c.tree c.on (onward c.part (onward b.part a.part)) a.is b.is c.is a.same b.same c.same n
  field_moves (boxed {t = t} i (j, h)) s =
      let a = attrs_move spells fx given i s in
      let n = boxed_name_moves j a.on in
      let b = held_moves {Form = IsBoxedName n.name} t h a.on (record { rest = n.rest; is = n.is; on = n.on; part = n.part }) in
      record {
        tree = field_of a.tree (member.Named n.name) None (v.Verbatim b.tree);
        rest = b.rest;
        is = boxed a.is b.is;
        same =
            of3 (λ (a : Attrs X) (i : Ident) (z : Pat X). field_of a (member.Named i) None z) a.same n.same (free-Verbatim fx b.tree ∙ ap v.Verbatim b.same ∙ sym (free-Verbatim fx t));
        on = b.on;
        part = onward b.part a.part;
      }

  abbrev Fields : Type 0
  Fields = Many (FieldPat X) Comma × Option (PatRest X)

  abbrev fields : Fields → Fields
  fields x = (tokens.many (free.field fx) tokens.mark x.0, option_map (free.rest fx) x.1)

  fields_move : {w : Many (FieldPat X) Comma} {o : Option (PatRest X)} {l m : Toks} → AreFields spells part clearly w o l → Same l m → Kept fields (λ z. AreFields spells part clearly z.0 z.1) (w, o) m
  fields_move (fields_alone i) s =
      let t = listed_move (free.field fx) tokens.mark i s (λ b x l r m i s. field_moves i s) (λ x l r m i s. mark_moves i s) in
      record { tree = ((t.values, t.marks), None); is = fields_alone (listed_ended t); same = ap₂ (λ (x : List (FieldPat X)) (y : List Comma). ((x, y), None)) t.same t.same_marks }
  fields_move (fields_and_rest i j k) s =
      let t = marked_move (free.field fx) tokens.mark i s (λ b x l r m i s. field_moves i s) (λ x l r m i s. mark_moves i s) in
      let a = attrs_move spells fx given j t.on in
      let d = mark_moves k a.on in
      record {
        tree = ((t.values, t.marks), Some (rest_of a.tree d.tree));
        is = fields_and_rest t.is a.is (ended d);
        same = of4 (λ (x : List (FieldPat X)) (y : List Comma) (a : Attrs X) (d : token.DotDot). ((x, y), Some (rest_of a d))) t.same t.same_marks a.same d.same;
      }

  -- ---- a single pattern

  elements_move : {place : PatPlace} {xs : List (Pat X)} {cs : List Comma} {l m : Toks} → AreElements spells part clearly place xs cs l → Same l m → MovedMany (free.pat fx) tokens.mark (AreListed (λ (_ : Bool). part clearly place) (IsMark true) Anywhere true) xs cs done m
  elements_move i s = listed_move (free.pat fx) tokens.mark i s (λ b x l r m i s. up _ _ _ _ _ i s) (λ x l r m i s. mark_moves i s)

  tuple_kept : (xs : List (Pat X)) (cs : List Comma) → is_tuple (map (free.pat fx) xs) (map tokens.mark cs) ≡ is_tuple xs cs
  tuple_kept [] cs = refl
  tuple_kept (x ∷ []) [] = rest_kept fx x
  tuple_kept (x ∷ []) (c ∷ cs) = refl
  tuple_kept (x ∷ y ∷ xs) cs = refl

  tuple_same : (xs ys : List (Pat X)) (cs ds : List Comma) → map (free.pat fx) xs ≡ map (free.pat fx) ys → map tokens.mark cs ≡ map tokens.mark ds → is_tuple ys ds ≡ true → is_tuple xs cs ≡ true
  tuple_same xs ys cs ds e f h = sym (tuple_kept xs cs) ∙ ap₂ (λ (x : List (Pat X)) (y : List Comma). is_tuple x y) e f ∙ tuple_kept ys ds ∙ h

  struct_at : {q : Option (QSelf (Attr X) (Expr X))} {p : Path (Attr X) (Expr X)} {d : DelimSpan} {w : Many (FieldPat X) Comma} {o : Option (PatRest X)} {c r m k : Toks} (n : Names spells fx given) → Same (group Brace d c r) k → Rest k m →
      IsHead spells clearly n.0 n.1 m k → names spells fx given n ≡ names spells fx given (q, p) → AreFields spells part clearly w o c → Moved (free.pat fx) (IsSingle spells part clearly) (v.Struct (struct_of [] q p (groups.brace d) w o)) r m
  struct_at {q} {p} {d} {w} {o} n (same_group {b = f} g i s) z h e j =
      let t = fields_move j i in
      record {
        tree = v.Struct (struct_of [] n.0 n.1 (groups.brace f) t.tree.0 t.tree.1);
        rest = _;
        is = a_struct h t.is;
        same =
            free-Struct fx (struct_of [] n.0 n.1 (groups.brace f) t.tree.0 t.tree.1)
            ∙ ap₂ (λ (n : Names spells fx given) (t : Fields). v.Struct (struct_of [] n.0 n.1 (groups.brace (delim_span none none)) t.0 t.1)) e t.same ∙ sym (free-Struct fx (struct_of [] q p (groups.brace d) w o));
        on = s;
        part = onward (past_group all_left) z;
      }

  tuple_struct_at : {q : Option (QSelf (Attr X) (Expr X))} {p : Path (Attr X) (Expr X)} {d : DelimSpan} {xs : List (Pat X)} {cs : List Comma} {c r m k : Toks} (n : Names spells fx given) → Same (group Parenthesis d c r) k → Rest k m →
      IsHead spells clearly n.0 n.1 m k → names spells fx given n ≡ names spells fx given (q, p) → AreElements spells part clearly LeadingVert xs cs c → Moved (free.pat fx) (IsSingle spells part clearly) (v.TupleStruct (tuple_struct_of [] q p (groups.paren d) (xs, cs))) r m
  tuple_struct_at {q} {p} {d} {xs} {cs} n (same_group {b = f} g i s) z h e j =
      let t = elements_move j i in
      record {
        tree = v.TupleStruct (tuple_struct_of [] n.0 n.1 (groups.paren f) (t.values, t.marks));
        rest = _;
        is = a_tuple_struct h (listed_ended t);
        same =
            free-TupleStruct fx (tuple_struct_of [] n.0 n.1 (groups.paren f) (t.values, t.marks))
            ∙ of3 (λ (n : Names spells fx given) (x : List (Pat X)) (y : List Comma). v.TupleStruct (tuple_struct_of [] n.0 n.1 (groups.paren (delim_span none none)) (x, y))) e t.same t.same_marks
            ∙ sym (free-TupleStruct fx (tuple_struct_of [] q p (groups.paren d) (xs, cs)));
        on = s;
        part = onward (past_group all_left) z;
      }

  single_moves : {x : Pat X} {l r m : Toks} → IsSingle spells part clearly x l r → Same l m → Moved (free.pat fx) (IsSingle spells part clearly) x r m
  single_moves (a_binding_pat i) s = put_in v.Ident v.Ident (free-Ident fx) (λ y k i. a_binding_pat i) (binding_moves i s)
  single_moves (a_wild i) s = put_in (λ w. v.Wild (wild_of [] w)) (λ w. v.Wild (wild_of [] w)) (λ w. free-Wild fx (wild_of [] w)) (λ y k i. a_wild i) (word_moves i s)
  single_moves (a_rest i) s = put_in (λ w. v.Rest (rest_of [] w)) (λ w. v.Rest (rest_of [] w)) (λ w. free-Rest fx (rest_of [] w)) (λ y k i. a_rest i) (mark_moves i s)
  single_moves (a_literal i) s = put_in (λ w. v.Lit (lit_of [] w)) (λ w. v.Lit (lit_of [] w)) (λ w. free-Lit fx (lit_of [] w)) (λ y k i. a_literal i) (lit_moves i s)
  single_moves (a_const i) s = put_in v.Const v.Const (free-Const fx) (λ y k i. a_const i) (const_block_moves spells fx given i s)
  single_moves (a_call i) s = put_in (λ w. v.Macro (expr_macro_of [] w)) (λ w. v.Macro (expr_macro_of [] w)) (λ w. free-Macro fx (expr_macro_of [] w)) (λ y k i. a_call i) (pat_call_moves i s)
  single_moves (a_path {q = q} {p = p} i h) s =
      let t = pat_path_moves spells fx given i s in
      record {
        tree = v.Path (path_pat_of [] t.tree.0 t.tree.1);
        rest = t.rest;
        is = a_path t.is (same_binding (free.attrs fx) (free.value fx) t.tree (q, p) t.same ∙ h);
        same = free-Path fx (path_pat_of [] t.tree.0 t.tree.1) ∙ ap (λ (z : Names spells fx given). v.Path (path_pat_of [] z.0 z.1)) t.same ∙ sym (free-Path fx (path_pat_of [] q p));
        on = t.on;
        part = t.part;
      }
  single_moves (a_range i) s = put_in v.Range v.Range (free-Range fx) (λ y k i. a_range i) (range_moves spells fx given i s)
  single_moves (a_reference {a = a} {x = x} i h j) s =
      let c = mark_moves i s in
      let q = up _ _ _ _ _ j c.on in
      record {
        tree = v.Reference (reference_of [] c.tree None q.tree);
        rest = q.rest;
        is = a_reference c.is (sym (word_seen _ c.on) ∙ h) q.is;
        same = free-Reference fx (reference_of [] c.tree None q.tree) ∙ ap₂ (λ (a : token.And) (x : Pat X). v.Reference (reference_of [] a None x)) c.same q.same ∙ sym (free-Reference fx (reference_of [] a None x));
        on = q.on;
        part = onward q.part c.part;
      }
  single_moves (a_mutable_reference {a = a} {u = u} {x = x} i k j) s =
      let c = mark_moves i s in
      let d = word_moves k c.on in
      let q = up _ _ _ _ _ j d.on in
      record {
        tree = v.Reference (reference_of [] c.tree (Some d.tree) q.tree);
        rest = q.rest;
        is = a_mutable_reference c.is d.is q.is;
        same =
            free-Reference fx (reference_of [] c.tree (Some d.tree) q.tree) ∙ of3 (λ (a : token.And) (u : token.Mut) (x : Pat X). v.Reference (reference_of [] a (Some u) x)) c.same d.same q.same
            ∙ sym (free-Reference fx (reference_of [] a (Some u) x));
        on = q.on;
        part = onward q.part (onward d.part c.part);
      }
  single_moves (a_paren {s = d} {x = x} i h) (same_group {b = f} g c s) =
      let q = up _ _ _ _ _ i c in
      record {
        tree = v.Paren (paren_of [] (groups.paren f) q.tree);
        rest = _;
        is = a_paren (ended q) (sym (rest_kept fx q.tree) ∙ ap is_rest q.same ∙ rest_kept fx x ∙ h);
        same = free-Paren fx (paren_of [] (groups.paren f) q.tree) ∙ ap (λ (z : Pat X). v.Paren (paren_of [] (groups.paren (delim_span none none)) z)) q.same ∙ sym (free-Paren fx (paren_of [] (groups.paren d) x));
        on = s;
        part = past_group all_left;
      }
  single_moves (a_tuple {s = d} {xs = xs} {cs = cs} i h) (same_group {b = f} g c s) =
      let t = elements_move i c in
      record {
        tree = v.Tuple (tuple_of [] (groups.paren f) (t.values, t.marks));
        rest = _;
        is = a_tuple (listed_ended t) (tuple_same t.values xs t.marks cs t.same t.same_marks h);
        same =
            free-Tuple fx (tuple_of [] (groups.paren f) (t.values, t.marks)) ∙ ap₂ (λ (x : List (Pat X)) (y : List Comma). v.Tuple (tuple_of [] (groups.paren (delim_span none none)) (x, y))) t.same t.same_marks
            ∙ sym (free-Tuple fx (tuple_of [] (groups.paren d) (xs, cs)));
        on = s;
        part = past_group all_left;
      }
  single_moves (a_slice {s = d} {xs = xs} {cs = cs} i) (same_group {b = f} g c s) =
      let t = elements_move i c in
      record {
        tree = v.Slice (slice_of [] (groups.bracket f) (t.values, t.marks));
        rest = _;
        is = a_slice (listed_ended t);
        same =
            free-Slice fx (slice_of [] (groups.bracket f) (t.values, t.marks)) ∙ ap₂ (λ (x : List (Pat X)) (y : List Comma). v.Slice (slice_of [] (groups.bracket (delim_span none none)) (x, y))) t.same t.same_marks
            ∙ sym (free-Slice fx (slice_of [] (groups.bracket d) (xs, cs)));
        on = s;
        part = past_group all_left;
      }
  single_moves (a_tuple_struct i j) s = let q = head_moves spells fx given i s in tuple_struct_at q.tree q.on q.part q.is q.same j
  single_moves (a_struct i j) s = let q = head_moves spells fx given i s in struct_at q.tree q.on q.part q.is q.same j
  single_moves (a_verbatim {t = t} (i, h)) s = put_in v.Verbatim v.Verbatim (free-Verbatim fx) (λ y k i. a_verbatim i) (held_moves t h s (box_moves i s))

  -- ---- a pattern in its place

  fits_kept : (place : PatPlace) (x y : Pat X) → free.pat fx y ≡ free.pat fx x → Fits place x → Fits place y
  fits_kept Single x y e h = h
  fits_kept Multi x y e h = h
  fits_kept LeadingVert x y e h = h
  fits_kept Element x y e h = open_kept fx x y e h

  cases_move : {xs : List (Pat X)} {cs : List token.Bar} {l r m : Toks} → AreCases spells part clearly xs cs l r → Same l m → MovedMany (free.pat fx) tokens.mark (AreCases spells part clearly) xs cs r m
  cases_move (cases i j k) s =
      let a = single_moves i s in
      let b = mark_moves j a.on in
      let t = listed_move (free.pat fx) tokens.mark k b.on (λ b x l r m i s. up _ _ _ _ _ i s) (λ x l r m i s. mark_moves i s) in
      record { values = a.tree ∷ t.values; marks = b.tree ∷ t.marks; rest = t.rest; is = cases a.is b.is t.is; same = cons_same a.same t.same; same_marks = cons_same b.same t.same_marks; on = t.on; part = onward t.part (onward b.part a.part) }

  pub pat_moves : {place : PatPlace} {x : Pat X} {l r m : Toks} → IsPat spells part clearly place x l r → Same l m → Moved (free.pat fx) (IsPat spells part clearly place) x r m
  pat_moves {place} (a_single {x = x} i h) s = let q = single_moves i s in record { tree = q.tree; rest = q.rest; is = a_single q.is (fits_kept place x q.tree q.same h); same = q.same; on = q.on; part = q.part }
  pat_moves (some_cases {xs = xs} {cs = cs} h i) s =
      let t = cases_move i s in
      record {
        tree = v.Or (or_of [] None (t.values, t.marks));
        rest = t.rest;
        is = some_cases h t.is;
        same = free-Or fx (or_of [] None (t.values, t.marks)) ∙ ap₂ (λ (x : List (Pat X)) (y : List token.Bar). v.Or (or_of [] None (x, y))) t.same t.same_marks ∙ sym (free-Or fx (or_of [] None (xs, cs)));
        on = t.on;
        part = t.part;
      }
  pat_moves (one_after_vert {b = b} {x = x} h i j) s =
      let a = mark_moves i s in
      let q = single_moves j a.on in
      record {
        tree = v.Or (or_of [] (Some a.tree) (q.tree ∷ [], []));
        rest = q.rest;
        is = one_after_vert h a.is q.is;
        same = free-Or fx (or_of [] (Some a.tree) (q.tree ∷ [], [])) ∙ ap₂ (λ (a : token.Bar) (x : Pat X). v.Or (or_of [] (Some a) (x ∷ [], []))) a.same q.same ∙ sym (free-Or fx (or_of [] (Some b) (x ∷ [], [])));
        on = q.on;
        part = onward q.part a.part;
      }
  pat_moves (some_after_vert {b = b} {xs = xs} {cs = cs} h i j) s =
      let a = mark_moves i s in
      let t = cases_move j a.on in
      record {
        tree = v.Or (or_of [] (Some a.tree) (t.values, t.marks));
        rest = t.rest;
        is = some_after_vert h a.is t.is;
        same = free-Or fx (or_of [] (Some a.tree) (t.values, t.marks)) ∙ of3 (λ (a : token.Bar) (x : List (Pat X)) (y : List token.Bar). v.Or (or_of [] (Some a) (x, y))) a.same t.same t.same_marks ∙ sym (free-Or fx (or_of [] (Some b) (xs, cs)));
        on = t.on;
        part = onward t.part a.part;
      }

-- ---- heights, and the readers of patterns

module _ {X : Type 0} (spells : Place → X → Toks → Type 0) (fx : X → X) (given : MovesSubtree spells fx) where
  pats_move : (n : ℕ) (place : PatPlace) → Mover (free.pat fx) (pats_to spells n clearly place)
  pats_move zero place x l r m i s = absurd i
  pats_move (suc n) place x l r m i s = pat_moves spells fx given (pats_to spells n) (pats_move n) i s

  whole_moves : (place : PatPlace) (x : Pat X) (l m : Toks) → SpellsPat spells place clearly x l → Same l m → Kept (free.pat fx) (SpellsPat spells place clearly) x m
  whole_moves place x l m (n, i) s = let q = pat_moves spells fx given (pats_to spells n) (pats_move n) i s in record { tree = q.tree; is = (n, ended q); same = q.same }

  guarded_moves : (x : Pat X) (l m : Toks) → SpellsGuarded spells clearly x l → Same l m → Kept (free.pat fx) (SpellsGuarded spells clearly) x m
  guarded_moves x l m (without_guard i) s = let q = whole_moves LeadingVert x l m i s in record { tree = q.tree; is = without_guard q.is; same = q.same }
  guarded_moves y l m (with_guard {x = x} {w = w} {g = g} n i j k) s =
      let q = pat_moves spells fx given (pats_to spells n) (pats_move n) i s in
      let a = word_moves j q.on in
      let c = subtree_moves spells fx given Guard k a.on in
      record {
        tree = v.Guard (guard_of [] q.tree a.tree (e.Other c.tree));
        is = with_guard n q.is a.is c.is;
        same =
            free-Guard fx (guard_of [] q.tree a.tree (e.Other c.tree))
            ∙ of3 (λ (x : Pat X) (w : token.If) (z : Expr X). v.Guard (guard_of [] x w z)) q.same a.same (free-other fx c.tree ∙ ap e.Other c.same ∙ sym (free-other fx g)) ∙ sym (free-Guard fx (guard_of [] x w (e.Other g)));
      }

  typed_moves : (x : PatType X) (l m : Toks) → SpellsPatType spells clearly x l → Same l m → Kept (free.typed fx) (SpellsPatType spells clearly) x m
  typed_moves y l m (a_pat_type n k f i j t) s =
      let q = pat_moves spells fx given (pats_to spells n) (pats_move n) i s in
      let a = mark_moves j q.on in
      let c = (types_move spells fx given k).ty _ _ _ _ _ _ t a.on in
      record { tree = typed_of [] q.tree a.tree c.tree; is = a_pat_type n k f q.is a.is (ended c); same = of3 (λ (x : Pat X) (w : token.Colon) (z : TypeTree (Attr X) (Expr X)). typed_of [] x w z) q.same a.same c.same }

  pub pat_aside : (place : PatPlace) (form : Pat X → Pat X) (print : Pat X → Print) (reader : Reader (Pat X)) → Lawful (promise (SpellsPat spells place) form print reader) → Asides (promise (SpellsPat spells place) form print reader) (free.pat fx)
  pat_aside place form print reader laws = let G = promise (SpellsPat spells place) form print reader in aside G (free.pat fx) laws (kept_moves G (free.pat fx) (whole_moves place))

  pub guarded_aside : (form : Pat X → Pat X) (print : Pat X → Print) (reader : Reader (Pat X)) → Lawful (promise (SpellsGuarded spells) form print reader) → Asides (promise (SpellsGuarded spells) form print reader) (free.pat fx)
  guarded_aside form print reader laws = let G = promise (SpellsGuarded spells) form print reader in aside G (free.pat fx) laws (kept_moves G (free.pat fx) guarded_moves)

  pub typed_aside : (form : PatType X → PatType X) (print : PatType X → Print) (reader : Reader (PatType X)) → Lawful (promise (SpellsPatType spells) form print reader) → Asides (promise (SpellsPatType spells) form print reader) (free.typed fx)
  typed_aside form print reader laws = let G = promise (SpellsPatType spells) form print reader in aside G (free.typed fx) laws (kept_moves G (free.typed fx) typed_moves)
