-- A single pattern prints its normal form clearly, where the patterns that it holds do: each of its forms.
use Rattle.syn_pat.specs.pat.Printing.{path_shown}
use Rattle.std.proofs.Common.{◌≡◌, Bool, true, false, List, [], ◌++◌, map, Some, None, sym, ◌∙◌, ap, subst, append-nil}
use Rattle.syn_pat.proofs.pat_laws.words.Tokens.{Lit, DelimSpan, Delimiter, Parenthesis, Brace, Bracket, Anywhere, Many, Print, Visible, IsMark, IsLit, IsWord, Toks, done, group, TokenStream, row, trees}
use Rattle.syn_pat.proofs.pat_laws.words.Paths.{Macro, Place}
use Rattle.syn_pat.proofs.pat_laws.words.Attributes.{expr_macro_of, lit_of}
use Rattle.syn_pat.proofs.pat_laws.words.Types.{many, Manner, plainly, clearly, IsVerbatim, Relation, Comma}
use Rattle.syn_pat.proofs.pat_laws.words.Patterns.{types_shown, PatPlace, Single, LeadingVert, Element, AreElements, IsBinding, IsBoxed, is_tuple, IsSingle, a_binding_pat, a_wild, a_rest, a_literal, a_const, a_call, a_path, a_range, a_reference, a_mutable_reference, a_paren, a_tuple, a_slice, a_tuple_struct, a_struct, a_verbatim, Pat, is_rest, path_pat_of, reference_of, rest_of, slice_of, struct_of, tuple_struct_of, wild_of, is_binding, lone_word, IsConstBlock, IsHead, IsPatCall, IsRange}
use Rattle.token_core.specs.Groups as groups
use Rattle.token_core.specs.Lits as lits
use Rattle.token_core.specs.Prints as p
use Rattle.token_core.specs.Tokens as token
use Rattle.syn_path.specs.mac.Printing.{mac}
use Rattle.syn_path.proofs.Words.{Again, AgainFront}
use Rattle.syn_attr.specs.attr.Normal as attr
use Rattle.syn_attr.specs.attr.Printing as shown
use Rattle.syn_forms.proofs.tokens_laws.Mutability.{word_front}
use Rattle.syn_ty.proofs.ty_laws.reprint.Angles.{Then, then_front, made_front}
use Rattle.syn_ty.proofs.ty_laws.reprint.Forms.{type_call_again}
use Rattle.syn_ty.proofs.ty_laws.reprint.Leaves.{listed_front, mark_front}
use Rattle.syn_pat.specs.declared.pat.PatOf.TheVariants as v
use Rattle.syn_pat.specs.pat.Normal as normal
use Rattle.syn_pat.specs.pat.Pats.{paren_of, tuple_of}
use Rattle.syn_pat.specs.pat.Printing as printing
use Rattle.syn_pat.proofs.pat_laws.reprint.Begins.{mut_kept}
use Rattle.syn_pat.proofs.pat_laws.reprint.Fields.{PatsAgain, np, pp, AreHeld, Held, normal_held, print_held, binding_again, fields_again}
use Rattle.syn_pat.proofs.pat_laws.reprint.Kinds.{no_comma, tuple_kept}
use Rattle.syn_pat.proofs.pat_laws.reprint.Normals.{kind_kept, normal-Const, normal-Ident, normal-Lit, normal-Macro, normal-Paren, normal-Path, normal-Range, normal-Reference, normal-Rest, normal-Slice, normal-Struct, normal-Tuple, normal-TupleStruct, normal-Verbatim, normal-Wild}
use Rattle.syn_pat.proofs.pat_laws.reprint.Parts.{SuppliedAgain, Inside, Stopped, also_front, comma_stops, held_front, inside_front, listed_stop, lit_front, stopped, stops_done, AnyPath, ArePaths, AreHeads, normal_path, print_path, const_again, head_again, path_again, range_again, word_kept}
use Rattle.syn_pat.proofs.pat_laws.reprint.PatsMove.{boxed_moves, boxed_over}
use Rattle.syn_pat.proofs.pat_laws.Prints.{pat-Const, pat-Ident, pat-Lit, pat-Macro, pat-Paren, pat-Path, pat-Range, pat-Reference, pat-Rest, pat-Slice, pat-Struct, pat-Tuple, pat-TupleStruct, pat-Verbatim, pat-Wild}

module _ {X : Type 0} (spells : Place → X → Toks → Type 0) (nx : Place → X → X) (px : Place → X → Print) (g : SuppliedAgain spells nx px) (part : Manner → PatPlace → Relation (Pat X)) (again : PatsAgain spells nx px part) where
  abbrev N : Pat X → Pat X
  N = np spells nx px

  abbrev P : Pat X → Print
  P = pp spells nx px

  abbrev Is : Pat X → Toks → Toks → Type 0
  Is = IsSingle spells part clearly

  -- ---- all of what a group holds

  abbrev pub Elements : Type 0
  Elements = Many (Pat X) Comma

  abbrev pub All : PatPlace → Elements → Toks → Type 0
  All place z c = AreElements spells part clearly place z.0 z.1 c

  abbrev print_all : Elements → Print
  print_all z = printing.list px (types_shown px) z

  elements_again : (place : PatPlace) (xs : List (Pat X)) (cs : List Comma) (c : Toks) → AreElements spells part plainly place xs cs c → Again (All place) (many N) print_all (xs, cs) c
  elements_again place xs cs c i =
      let k = listed_front (λ (_ : Bool). part plainly place) (λ (_ : Bool). Stopped (part clearly place)) (IsMark false) (IsMark true) Anywhere N P p.mark (λ _. again.pat place) mark_front true xs cs c done i in
      record { spelt = listed_stop comma_stops (k.spelt done) stops_done; visible = λ u. k.visible done u tt; stays = k.stays; same = k.same }

  -- no comma is printed after a tuple
  abbrev AreTuple : Elements → Toks → Type 0
  AreTuple z c = All LeadingVert z c × (is_tuple z.0 z.1 ≡ true)

  abbrev print_tuple : Elements → Print
  print_tuple z = printing.list px (types_shown px) z ++ printing.tuple_comma is_rest z.0 z.1

  no_more : (z : Elements) → is_tuple z.0 z.1 ≡ true → print_tuple z ≡ print_all z
  no_more z h = ap (λ k. print_all z ++ k) (no_comma z.0 z.1 h) ∙ append-nil (print_all z)

  tuple_again : (xs : List (Pat X)) (cs : List Comma) (c : Toks) → AreElements spells part plainly LeadingVert xs cs c → is_tuple xs cs ≡ true → Again AreTuple (many N) print_tuple (xs, cs) c
  tuple_again xs cs c i h =
      let k = elements_again LeadingVert xs cs c i in
      let kept = tuple_kept N (kind_kept nx) xs cs ∙ h in
      let once = no_more (xs, cs) h in
      record {
        spelt = (subst (λ z. All LeadingVert (map N xs, cs) (row z done)) (sym once) k.spelt, kept);
        visible = λ u. subst (λ z. Visible (row z done)) (sym once) (k.visible u);
        stays = k.stays;
        same = no_more (map N xs, cs) kept ∙ k.same ∙ sym once;
      }

  -- ---- in its parentheses, one that is not `..`

  abbrev IsEnclosed : Pat X → Toks → Type 0
  IsEnclosed x c = part clearly LeadingVert x c done × (is_rest x ≡ false)

  enclosed_again : (x : Pat X) (c : Toks) → part plainly LeadingVert x c done → is_rest x ≡ false → Again IsEnclosed N P x c
  enclosed_again x c i h =
      let k = again.pat LeadingVert x c done i in
      record { spelt = (k.spelt done stops_done, kind_kept nx x ∙ h); visible = λ u. k.visible done u tt; stays = k.stays; same = k.same }

  -- ---- one that does not begin with `mut`

  abbrev IsNoMut : Pat X → Toks → Toks → Type 0
  IsNoMut x l r = (token.sees_mut l ≡ false) × part clearly Single x l r

  no_mut_again : (x : Pat X) (l r : Toks) → token.sees_mut l ≡ false → part plainly Single x l r → AgainFront (Stopped IsNoMut) N P x l r
  no_mut_again x l r h i =
      let k = again.pat Single x l r i in
      record {
        spelt = λ o e. (again.begins clearly (N x) (row (P x) o) o (k.spelt o e) ∙ mut_kept nx x ∙ sym (again.begins plainly x l r i) ∙ h, k.spelt o e);
        visible = k.visible;
        seen = k.seen;
        stays = k.stays;
        same = k.same;
      }

  -- ---- a path, and a group after it

  abbrev After : {B : Type 0} → Delimiter → DelimSpan → (B → Toks → Type 0) → AnyPath spells nx px g × B → Toks → Toks → Type 0
  After d s T = Then (AreHeads spells nx px g) (Inside d s T)

  into_group : {B : Type 0} (d : Delimiter) (s : DelimSpan) (T : B → Toks → Type 0) (z : AnyPath spells nx px g × B) (l r : Toks) → After d s T z l r → (c : Toks) × IsHead spells clearly z.0.0 z.0.1 l (group d s c r) × T z.1 c
  into_group d s T z l r i = (i.2.0, subst (λ m. IsHead spells clearly z.0.0 z.0.1 l m) i.2.1 i.1, i.2.2)

  -- ---- each form

  pub single_again : (x : Pat X) (l r : Toks) → IsSingle spells part plainly x l r → AgainFront (Stopped Is) N P x l r
  single_again x l r (a_binding_pat {x = y} i) = made_front (Stopped (IsBinding spells part clearly)) (Stopped Is) (normal.binding nx) N (printing.binding px (types_shown px)) P v.Ident (λ z l r i e. a_binding_pat (i e)) (normal-Ident nx) (pat-Ident px (types_shown px)) y l r (binding_again spells nx px g part again y l r i)
  single_again x l r (a_wild {w = w} i) = stopped (made_front IsWord Is (λ (z : token.Underscore). z) N (λ (z : token.Underscore). p.word z) P (λ z. v.Wild (wild_of [] z)) (λ z l r i. a_wild i) (λ z. normal-Wild nx (wild_of [] z)) (λ z. pat-Wild px (types_shown px) (wild_of [] z)) w l r (word_front w l r i))
  single_again x l r (a_rest {d = d} i) = stopped (made_front (IsMark true) Is (λ (z : token.DotDot). z) N (λ (z : token.DotDot). p.mark z) P (λ z. v.Rest (rest_of [] z)) (λ z l r i. a_rest i) (λ z. normal-Rest nx (rest_of [] z)) (λ z. pat-Rest px (types_shown px) (rest_of [] z)) d l r (mark_front d l r i))
  single_again x l r (a_literal {x = y} i) = stopped (made_front IsLit Is (λ (z : Lit). z) N lits.print P (λ z. v.Lit (lit_of [] z)) (λ z l r i. a_literal i) (λ z. normal-Lit nx (lit_of [] z)) (λ z. pat-Lit px (types_shown px) (lit_of [] z)) y l r (lit_front y l r i))
  single_again x l r (a_const {x = y} i) = stopped (made_front (IsConstBlock spells) Is (attr.expr_const nx) N (shown.expr_const px) P v.Const (λ z l r i. a_const i) (normal-Const nx) (pat-Const px (types_shown px)) y l r (const_again spells nx px g y l r i))
  single_again x l r (a_call {x = y} i) =
      stopped (made_front (IsPatCall true) Is (λ (z : Macro). z) N mac P (λ z. v.Macro (expr_macro_of [] z)) (λ z l r i. a_call i) (λ z. normal-Macro nx (expr_macro_of [] z)) (λ z. pat-Macro px (types_shown px) (expr_macro_of [] z)) y l r
      (also_front _ i.1 (type_call_again y l r i.0)))
  single_again x l r (a_path {q = q} {p = y} i h) =
      stopped (made_front (λ (z : AnyPath spells nx px g) (l r : Toks). ArePaths spells nx px g z l r × (is_binding (lone_word z.0 z.1) ≡ false)) Is (normal_path spells nx px g) N (print_path spells nx px g) P (λ z. v.Path (path_pat_of [] z.0 z.1))
      (λ z l r i. a_path i.0 i.1) (λ z. normal-Path nx (path_pat_of [] z.0 z.1)) (λ z. pat-Path px (types_shown px) (path_pat_of [] z.0 z.1)) (q, y) l r
      (also_front (λ (z : AnyPath spells nx px g). is_binding (lone_word z.0 z.1) ≡ false) (ap is_binding (word_kept spells nx px g q y l r i) ∙ h) (path_again spells nx px g q y l r i)))
  single_again x l r (a_range {x = y} i) = stopped (made_front (IsRange spells clearly) Is (normal.range nx) N (printing.range px (path_shown px)) P v.Range (λ z l r i. a_range i) (normal-Range nx) (pat-Range px (types_shown px)) y l r (range_again spells nx px g y l r i))
  single_again x l r (a_reference {a = a} {x = y} {m = m} i h j) =
      made_front (Then (IsMark true) (Stopped IsNoMut)) (Stopped Is) _ N _ P (λ (z : token.And × Pat X). v.Reference (reference_of [] z.0 None z.1)) (λ z l r i e. let k = i.2 e in a_reference i.1 k.0 k.1)
      (λ z. normal-Reference nx (reference_of [] z.0 None z.1)) (λ z. pat-Reference px (types_shown px) (reference_of [] z.0 None z.1)) (a, y) l r (then_front (mark_front a l m i) (no_mut_again y m r h j))
  single_again x l r (a_mutable_reference {a = a} {u = u} {x = y} {m = m} {n = n} i h j) =
      made_front (Then (IsMark true) (Then IsWord (Stopped (part clearly Single)))) (Stopped Is) _ N _ P (λ (z : token.And × (token.Mut × Pat X)). v.Reference (reference_of [] z.0 (Some z.1.0) z.1.1)) (λ z l r i e. a_mutable_reference i.1 i.2.1 (i.2.2 e))
      (λ z. normal-Reference nx (reference_of [] z.0 (Some z.1.0) z.1.1)) (λ z. pat-Reference px (types_shown px) (reference_of [] z.0 (Some z.1.0) z.1.1)) (a, (u, y)) l r (then_front (mark_front a l m i) (then_front (word_front u m n h) (again.pat Single y n r j)))
  single_again x l r (a_paren {s = s} {x = y} {c = c} i h) =
      stopped (made_front (Inside Parenthesis s IsEnclosed) Is N N _ P (λ (z : Pat X). v.Paren (paren_of [] (groups.paren s) z)) (λ z l r i. subst (λ m. Is (v.Paren (paren_of [] (groups.paren s) z)) m r) (sym i.1) (a_paren i.2.0 i.2.1))
      (λ z. normal-Paren nx (paren_of [] (groups.paren s) z)) (λ z. pat-Paren px (types_shown px) (paren_of [] (groups.paren s) z)) y l r (inside_front Parenthesis s IsEnclosed N P tt y c r (enclosed_again y c i h)))
  single_again x l r (a_tuple {s = s} {xs = xs} {cs = cs} {c = c} i h) =
      stopped (made_front (Inside Parenthesis s AreTuple) Is (many N) N _ P (λ (z : Elements). v.Tuple (tuple_of [] (groups.paren s) z)) (λ z l r i. subst (λ m. Is (v.Tuple (tuple_of [] (groups.paren s) z)) m r) (sym i.1) (a_tuple i.2.0 i.2.1))
      (λ z. normal-Tuple nx (tuple_of [] (groups.paren s) z)) (λ z. pat-Tuple px (types_shown px) (tuple_of [] (groups.paren s) z)) (xs, cs) l r (inside_front Parenthesis s AreTuple (many N) print_tuple tt (xs, cs) c r (tuple_again xs cs c i h)))
  single_again x l r (a_slice {s = s} {xs = xs} {cs = cs} {c = c} i) =
      stopped (made_front (Inside Bracket s (All Element)) Is (many N) N _ P (λ (z : Elements). v.Slice (slice_of [] (groups.bracket s) z)) (λ z l r i. subst (λ m. Is (v.Slice (slice_of [] (groups.bracket s) z)) m r) (sym i.1) (a_slice i.2))
      (λ z. normal-Slice nx (slice_of [] (groups.bracket s) z)) (λ z. pat-Slice px (types_shown px) (slice_of [] (groups.bracket s) z)) (xs, cs) l r (inside_front Bracket s (All Element) (many N) print_all tt (xs, cs) c r (elements_again Element xs cs c i)))
  single_again x l r (a_tuple_struct {q = q} {p = y} {s = s} {xs = xs} {cs = cs} {c = c} i j) =
      stopped (made_front (After Parenthesis s (All LeadingVert)) Is _ N _ P (λ (z : AnyPath spells nx px g × Elements). v.TupleStruct (tuple_struct_of [] z.0.0 z.0.1 (groups.paren s) z.1))
      (λ z l r i. let k = into_group Parenthesis s (All LeadingVert) z l r i in a_tuple_struct k.1 k.2) (λ z. normal-TupleStruct nx (tuple_struct_of [] z.0.0 z.0.1 (groups.paren s) z.1)) (λ z. pat-TupleStruct px (types_shown px) (tuple_struct_of [] z.0.0 z.0.1 (groups.paren s) z.1)) ((q, y), (xs, cs)) l r
      (then_front (head_again spells nx px g q y l (group Parenthesis s c r) i) (inside_front Parenthesis s (All LeadingVert) (many N) print_all tt (xs, cs) c r (elements_again LeadingVert xs cs c j))))
  single_again x l r (a_struct {q = q} {p = y} {s = s} {w = w} {o = o} {c = c} i j) =
      let H = Held spells nx px g part again in
      let T = AreHeld spells nx px g part again in
      stopped (made_front (After Brace s T) Is _ N _ P (λ (z : AnyPath spells nx px g × H). v.Struct (struct_of [] z.0.0 z.0.1 (groups.brace s) z.1.0 z.1.1))
      (λ z l r i. let k = into_group Brace s T z l r i in a_struct k.1 k.2) (λ z. normal-Struct nx (struct_of [] z.0.0 z.0.1 (groups.brace s) z.1.0 z.1.1)) (λ z. pat-Struct px (types_shown px) (struct_of [] z.0.0 z.0.1 (groups.brace s) z.1.0 z.1.1)) ((q, y), (w, o)) l r
      (then_front (head_again spells nx px g q y l (group Brace s c r) i) (inside_front Brace s T (normal_held spells nx px g part again) (print_held spells nx px g part again) tt (w, o) c r (fields_again spells nx px g part again w o c j))))
  single_again x l r (a_verbatim {t = t} i) =
      made_front (Stopped (IsVerbatim (IsBoxed part) clearly)) (Stopped Is) (λ (z : TokenStream). z) N (λ (z : TokenStream). trees z) P v.Verbatim (λ z l r i e. a_verbatim (i e)) (normal-Verbatim nx) (pat-Verbatim px (types_shown px)) t l r (held_front (IsBoxed part) (λ k e l r j q. boxed_moves spells g.types.moves part again.moves k e j q) (λ l r j q. boxed_over spells g.types.moves part again.moves j q) t l r i)
