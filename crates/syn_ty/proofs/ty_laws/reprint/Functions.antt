-- An ABI, the arguments of a pointer to a function and the pointer itself print their normal form clearly, where the types, attributes and binders that they hold do.
use Rattle.std.proofs.Common.{◌≡◌, Bool, true, false, List, [], ◌++◌, map, Option, Some, None, refl, sym, ◌∙◌, ap, subst, append_assoc, append-nil}
use Rattle.syn_ty.proofs.ty_laws.words.Tokens.{Paren, Parenthesis, Ident, Anywhere, Many, Print, Visible, IsMark, IsWord, Toks, done, word, group, row, stream_of_trees, trees}
use Rattle.syn_ty.proofs.ty_laws.words.Paths.{NormalValues, Values}
use Rattle.syn_ty.proofs.ty_laws.words.Forms.{Plus, NoPlus}
use Rattle.syn_ty.proofs.ty_laws.words.Types.{Abi, FnPtrVariadicOf, IsFor, many, binder_start, IsAbi, IsMutSelf, IsNamedArg, a_named_argument, a_verbatim_argument, IsVariadic, dots, named_dots, AreInputs, plain_inputs, variadic_inputs, IsFnPtr, a_fn_ptr, Manner, plainly, clearly, End, Parts, last_comma, IsOptional, absent, present, BoundLifetimes, NamedArg, ReturnType, TypeFnPtr, TypeTree, Comma, fn_ptr_with, named_arg_of}
use Rattle.token_core.specs.Groups as groups
use Rattle.token_core.specs.Lists as lists
use Rattle.token_core.specs.Prints as p
use Rattle.token_core.specs.Tokens as token
use Rattle.token_core.proofs.Rebuilds.{tree-ident}
use Rattle.token_core.proofs.Rows.{row-append}
use Rattle.syn_path.proofs.Words.{Again, AgainFront, row-group}
use Rattle.syn_forms.proofs.tokens_laws.Mutability.{word_front}
use Rattle.syn_ty.specs.declared.ty.TypeOf.TheVariants as v
use Rattle.syn_ty.specs.generics.NormalShapes as shapes
use Rattle.syn_ty.specs.generics.Shapes as shown
use Rattle.syn_ty.specs.generics.Shapes.{binder_end, binder_joined}
use Rattle.syn_ty.specs.ty.Functions.{an_argument}
use Rattle.syn_ty.specs.ty.Normal as normal
use Rattle.syn_ty.specs.ty.Printing as printing
use Rattle.syn_ty.specs.ty.Printing.{comma_at}
use Rattle.syn_ty.specs.ty.Types.{variadic_of}
use Rattle.syn_ty.proofs.ty_laws.reprint.Within.{Again as AllAgain, SuppliedAgain}
use Rattle.syn_ty.proofs.ty_laws.reprint.EndsTypes.{mut_self_over}
use Rattle.syn_ty.proofs.ty_laws.reprint.HeldForms.{held_before}
use Rattle.syn_ty.proofs.ty_laws.reprint.MovesTypes.{mut_self_moves}
use Rattle.syn_ty.proofs.ty_laws.reprint.Normals.{fn_ptr_normal, normal-Verbatim}
use Rattle.syn_ty.proofs.ty_laws.reprint.Params.{for_again}
use Rattle.syn_ty.proofs.ty_laws.Prints.{fn_ptr_parts, ty-Verbatim}
use Rattle.syn_ty.proofs.ty_laws.reprint.Leaves.{listed_front, mark_front}
use Rattle.syn_ty.proofs.ty_laws.reprint.Signatures.{abi_again, comma_front, marked_front, marked_full, optional_front, return_again}
use Rattle.syn_ty.proofs.ty_laws.reprint.Steps.{row_seen, row_visible}

-- ---- what the parentheses hold

abbrev pub Inputs : Type 0 → Type 0 → Type 0
Inputs A E = Many (NamedArg A E) Comma × Option (FnPtrVariadicOf A)

module _ {A E : Type 0} where
  abbrev pub AreAll : (Manner → Parts A E) → Manner → Inputs A E → Toks → Type 0
  AreAll part how z l = AreInputs part how z.0 z.1 l

  abbrev pub normal_inputs : (List A → List A) → NormalValues E → Inputs A E → Inputs A E
  normal_inputs na ne z = (many (normal.named_arg na ne) z.0, normal.optional_variadic na ne z.1)

  abbrev pub print_inputs : (List A → Print) → Values E → Inputs A E → Print
  print_inputs pa pe z = printing.inputs pa pe z.0 ++ printing.more pa pe z.0 z.1

-- ---- arguments

module _ {A E : Type 0} (na : List A → List A) (ne : NormalValues E) (pa : List A → Print) (pe : Values E) (part : Manner → Parts A E) (again : AllAgain na ne pa pe part) (supplied : SuppliedAgain na ne pa pe part) where
  abbrev nt : TypeTree A E → TypeTree A E
  nt = normal.ty na ne

  abbrev pt : TypeTree A E → Print
  pt = printing.ty pa pe

  abbrev named : Ident → token.Colon → Print
  named i c = p.ident i ++ p.mark c

  -- attributes before what has no name, and before a name
  row-bare : (a : List A) (x : Print) (h : Toks) → row ((pa a ++ []) ++ x) h ≡ row (pa a) (row x h)
  row-bare a x h = row-append (pa a ++ []) x h ∙ row-append (pa a) [] (row x h)

  row-named : (a : List A) (i : Ident) (c : token.Colon) (x : Print) (h : Toks) → row ((pa a ++ named i c) ++ x) h ≡ row (pa a) (word i (row (p.mark c) (row x h)))
  row-named a i c x h = row-append (pa a ++ named i c) x h ∙ row-append (pa a) (named i c) (row x h) ∙ ap (row (pa a)) (tree-ident i (row (p.mark c) (row x h)))

  pub variadic_again : (x : FnPtrVariadicOf A) (l : Toks) → IsVariadic part plainly x l → Again (IsVariadic part clearly) (normal.variadic na ne) (printing.variadic pa pe) x l
  variadic_again x l (dots {a = a} {d = d} {o = o} {m = m} {n = n} i j t) =
      let s = supplied.attrs a l m i in
      let k = mark_front d m n j in
      let w = comma_front o n done t in
      let last = row (printing.optional_comma o) done in
      let rest = p.mark d ++ printing.optional_comma o in
      let seen = row-bare a rest done ∙ ap (row (pa a)) (row-append (p.mark d) (printing.optional_comma o) done) in
      record {
        spelt = subst (IsVariadic part clearly (variadic_of (na a) None d o)) (sym seen) (dots (s.spelt (row (p.mark d) last)) (k.spelt last) (w.spelt done));
        visible = λ u. subst Visible (sym seen) (s.visible (row (p.mark d) last) u (k.visible last (s.seen u) (w.visible done (k.seen (s.seen u)) tt)));
        stays = ap (λ z. variadic_of z None d o) s.stays;
        same = ap (λ z. (z ++ []) ++ rest) s.same;
      }
  variadic_again x l (named_dots {a = a} {i = i} {c = c} {d = d} {o = o} {m = m} {n = n} {k = b} g q j f t) =
      let s = supplied.attrs a l (word i m) g in
      let e = mark_front c m n j in
      let k = mark_front d n b f in
      let w = comma_front o b done t in
      let last = row (printing.optional_comma o) done in
      let rest = p.mark d ++ printing.optional_comma o in
      let more = row (p.mark d) last in
      let all = word i (row (p.mark c) more) in
      let seen = row-named a i c rest done ∙ ap (λ z. row (pa a) (word i (row (p.mark c) z))) (row-append (p.mark d) (printing.optional_comma o) done) in
      record {
        spelt = subst (IsVariadic part clearly (variadic_of (na a) (Some (i, c)) d o)) (sym seen) (named_dots (s.spelt all) q (e.spelt more) (k.spelt last) (w.spelt done));
        visible = λ u. subst Visible (sym seen) (s.visible all u (e.visible more (s.seen u) (k.visible last (e.seen (s.seen u)) (w.visible done (k.seen (e.seen (s.seen u))) tt))));
        stays = ap (λ z. variadic_of z (Some (i, c)) d o) s.stays;
        same = ap (λ z. (z ++ named i c) ++ rest) s.same;
      }

  pub named_arg_again : (first : Bool) (x : NamedArg A E) (l r : Toks) → IsNamedArg part plainly first x l r → AgainFront (IsNamedArg part clearly first) (normal.named_arg na ne) (printing.named_arg pa pe) x l r
  named_arg_again first x l r (an_argument {a = a} {e = e} {x = y} {m = m} i j) =
      let s = supplied.attrs a l m i in
      let k = again.ty Plus e y m r j in
      let seen = λ (h : Toks). row-bare a (pt y) h in
      record {
        spelt = λ h. subst (λ z. IsNamedArg part clearly first (named_arg_of (na a) None (nt y)) z h) (sym (seen h)) (an_argument (s.spelt (row (pt y) h)) (k.spelt h));
        visible = λ h u w. subst Visible (sym (seen h)) (s.visible (row (pt y) h) u (k.visible h (s.seen u) w));
        seen = λ u. k.seen (s.seen u);
        stays = ap (λ z. named_arg_of z None (nt (nt y))) s.stays ∙ ap (named_arg_of (na a) None) k.stays;
        same = ap (λ z. (z ++ []) ++ pt (nt y)) s.same ∙ ap (λ z. (pa a ++ []) ++ z) k.same;
      }
  named_arg_again first x l r (a_named_argument {a = a} {i = i} {c = c} {e = e} {x = y} {m = m} {n = n} g q j t) =
      let s = supplied.attrs a l (word i m) g in
      let d = mark_front c m n j in
      let k = again.ty Plus e y n r t in
      let all = λ (h : Toks). word i (row (p.mark c) (row (pt y) h)) in
      let seen = λ (h : Toks). row-named a i c (pt y) h in
      record {
        spelt = λ h. subst (λ z. IsNamedArg part clearly first (named_arg_of (na a) (Some (i, c)) (nt y)) z h) (sym (seen h)) (a_named_argument (s.spelt (all h)) q (d.spelt (row (pt y) h)) (k.spelt h));
        visible = λ h u w. subst Visible (sym (seen h)) (s.visible (all h) u (d.visible (row (pt y) h) (s.seen u) (k.visible h (d.seen (s.seen u)) w)));
        seen = λ u. k.seen (d.seen (s.seen u));
        stays = ap (λ z. named_arg_of z (Some (i, c)) (nt (nt y))) s.stays ∙ ap (named_arg_of (na a) (Some (i, c))) k.stays;
        same = ap (λ z. (z ++ named i c) ++ pt (nt y)) s.same ∙ ap (λ z. (pa a ++ named i c) ++ z) k.same;
      }
  named_arg_again first x l r (a_verbatim_argument {a = a} {t = y} {m = m} i (j, q)) =
      let s = supplied.attrs a l m i in
      let is = normal-Verbatim na ne y in
      let held = held_before (IsMutSelf part) (λ k l r i q. mut_self_moves part k (again.moving k) i q) (λ l r i q. mut_self_over part (again.moving done).ends i q) y j.0 j.1 in
      let shows = ty-Verbatim pa pe y in
      let seen = λ (h : Toks). row-bare a (pt (v.Verbatim y)) h ∙ ap (λ z. row (pa a) (row z h)) shows in
      record {
        spelt = λ h. subst (λ z. IsNamedArg part clearly true (named_arg_of (na a) None z) (row (printing.named_arg pa pe x) h) h) (sym is)
            (subst (λ z. IsNamedArg part clearly true (named_arg_of (na a) None (v.Verbatim y)) z h) (sym (seen h)) (a_verbatim_argument (s.spelt (row (trees y) h)) (held h, refl)));
        visible = λ h u w. subst Visible (sym (seen h)) (s.visible (row (trees y) h) u (row_visible (trees y) r h (subst Visible q (s.seen u)) w));
        seen = λ u. row_seen (trees y) r (subst Visible q (s.seen u));
        stays = ap (λ z. named_arg_of z None (nt (nt (v.Verbatim y)))) s.stays ∙ ap (named_arg_of (na a) None) (ap nt is);
        same = ap (λ z. (z ++ []) ++ pt (nt (v.Verbatim y))) s.same ∙ ap (λ z. (pa a ++ []) ++ pt z) is;
      }

  -- ---- what the parentheses hold

  pub inputs_again : (v : Many (NamedArg A E) Comma) (d : Option (FnPtrVariadicOf A)) (l : Toks) → AreInputs part plainly v d l → Again (AreAll part clearly) (normal_inputs na ne) (print_inputs pa pe) (v, d) l
  inputs_again v d l (plain_inputs {xs = xs} {cs = cs} i) =
      let k = listed_front (IsNamedArg part plainly) (IsNamedArg part clearly) (IsMark false) (IsMark true) Anywhere (normal.named_arg na ne) (printing.named_arg pa pe) p.mark named_arg_again mark_front true xs cs l done i in
      let bare = λ (z : Many (NamedArg A E) Comma). append-nil (printing.inputs pa pe z) in
      let seen = ap (λ z. row z done) (bare (xs, cs)) in
      record {
        spelt = subst (λ z. AreInputs part clearly (map (normal.named_arg na ne) xs, cs) None z) (sym seen) (plain_inputs (k.spelt done));
        visible = λ u. subst Visible (sym seen) (k.visible done u tt);
        stays = ap (λ (z : Many (NamedArg A E) Comma). (z, None)) k.stays;
        same = ap (λ z. z ++ []) k.same;
      }
  inputs_again v d l (variadic_inputs {xs = xs} {cs = cs} {x = x} {m = m} i j) =
      let k = marked_front (IsNamedArg part plainly) (IsNamedArg part clearly) (IsMark false) (IsMark true) (normal.named_arg na ne) (printing.named_arg pa pe) p.mark named_arg_again mark_front true xs cs l m i in
      let w = variadic_again x m j in
      let ys = map (normal.named_arg na ne) xs in
      let last = row (printing.variadic pa pe x) done in
      let full = marked_full (IsNamedArg part plainly) (IsMark false) (comma_at x.dots) true xs cs l m i in
      let again_full = marked_full (IsNamedArg part clearly) (IsMark true) (comma_at x.dots) true ys cs (row (printing.inputs pa pe (xs, cs)) done) done (k.spelt done) in
      let seen = row-append (printing.inputs pa pe (xs, cs)) (printing.more pa pe (xs, cs) (Some x)) done ∙ ap (λ z. row (printing.inputs pa pe (xs, cs)) (row (z ++ printing.variadic pa pe x) done)) full in
      record {
        spelt = subst (λ z. AreInputs part clearly (ys, cs) (Some (normal.variadic na ne x)) z) (sym seen) (variadic_inputs (k.spelt last) w.spelt);
        visible = λ u. subst Visible (sym seen) (k.visible last u (w.visible (k.seen u)));
        stays = ap (λ (z : Many (NamedArg A E) Comma). (z, Some (normal.variadic na ne (normal.variadic na ne x)))) k.stays ∙ ap (λ z. ((ys, cs), Some z)) w.stays;
        same = ap (λ z. z ++ (last_comma (comma_at x.dots) ys cs ++ printing.variadic pa pe (normal.variadic na ne x))) k.same ∙ ap (λ z. printing.inputs pa pe (xs, cs) ++ (z ++ printing.variadic pa pe (normal.variadic na ne x))) (again_full ∙ sym full)
            ∙ ap (λ z. printing.inputs pa pe (xs, cs) ++ (last_comma (comma_at x.dots) xs cs ++ z)) w.same;
      }

  -- ---- a pointer to a function, over the print of binders

  abbrev np : Option (BoundLifetimes A E) → Option (BoundLifetimes A E)
  np b = shapes.binder_by (normal.param na ne) b

  abbrev pb : Option (BoundLifetimes A E) → Print
  pb b = shown.binder_by (printing.param pa pe) b

  binder_whole : (b : Option (BoundLifetimes A E)) (x : Print) → binder_start b ++ (binder_joined (printing.param pa pe) b ++ (binder_end b ++ x)) ≡ pb b ++ x
  binder_whole None x = refl
  binder_whole (Some b) x =
      let o = p.mark b.lt_token in
      let params = lists.joined (printing.param pa pe) p.mark b.lifetimes.0 b.lifetimes.1 in
      let c = p.mark b.gt_token in
      append_assoc (p.word b.for_token) o (params ++ (c ++ x))
      ∙ ap (λ z. p.word b.for_token ++ z) (ap (λ z. o ++ z) (sym (append_assoc params c x)) ∙ sym (append_assoc o (params ++ c) x))
      ∙ sym (append_assoc (p.word b.for_token) (o ++ (params ++ c)) x)

  abbrev head : Option token.Unsafe → Option Abi → token.Fn → Print
  head u i w = printing.optional_word u ++ (printing.optional_abi i ++ p.word w)

  abbrev tail : Paren → Inputs A E → ReturnType A E → Print
  tail s z o = p.group Parenthesis (stream_of_trees (print_inputs pa pe z)) s.span ++ printing.return_type pa pe o

  fn_ptr_whole : (b : Option (BoundLifetimes A E)) (u : Option token.Unsafe) (i : Option Abi) (w : token.Fn) (s : Paren) (z : Inputs A E) (o : ReturnType A E) → printing.fn_ptr pa pe (fn_ptr_with [] b u i w s z.0 z.1 o) ≡ pb b ++ (head u i w ++ tail s z o)
  fn_ptr_whole b u i w s z o =
      fn_ptr_parts pa pe [] b u i w s z.0 z.1 o ∙ ap (λ y. binder_start b ++ (binder_joined (printing.param pa pe) b ++ y)) (append_assoc (binder_end b) (head u i w) (tail s z o)) ∙ binder_whole b (head u i w ++ tail s z o)

  binder_again : (o : Option (BoundLifetimes A E)) (l r : Toks) → IsOptional (IsFor part plainly) o l r → AgainFront (IsOptional (IsFor part clearly)) np pb o l r
  binder_again o l r absent = record { spelt = λ h. absent; visible = λ h u w. w; seen = λ u. u; stays = refl; same = refl }
  binder_again o l r (present {a = a} i) = let k = for_again na ne pa pe part again a l r i in record { spelt = λ h. present (k.spelt h); visible = λ h u w. k.visible h u w; seen = λ u. k.seen u; stays = ap Some k.stays; same = k.same }

  pub fn_ptr_again : (e : End) (x : TypeFnPtr A E) (l r : Toks) → IsFnPtr part plainly e x l r → AgainFront (IsFnPtr part clearly e) (normal.fn_ptr na ne) (printing.fn_ptr pa pe) x l r
  fn_ptr_again e x l r (a_fn_ptr {b = b} {u = u} {i = i} {w = w} {s = s} {v = v} {d = d} {o = o} {m = m} {n = n} {k = q} {c = c} {j = j} ib iu ii iw iv io) =
      let kb = binder_again b l m ib in
      let ku = optional_front (IsWord {n = 16}) IsWord (λ (z : token.Unsafe). p.word z) word_front u m n iu in
      let ki = optional_front IsAbi IsAbi printing.abi abi_again i n q ii in
      let kw = word_front w q (group Parenthesis s c j) iw in
      let kv = inputs_again v d c iv in
      let ko = return_again na ne pa pe part again NoPlus e o j r io in
      let paren = groups.paren s in
      let z = normal_inputs na ne (v, d) in
      let out = normal.return_type na ne o in
      let to = λ (y : Option (BoundLifetimes A E)) (g : Inputs A E) (h : ReturnType A E). fn_ptr_with [] y u i w paren g.0 g.1 h in
      let once = fn_ptr_normal na ne [] b u i w paren v d o ∙ ap (λ y. fn_ptr_with y (np b) u i w paren z.0 z.1 out) supplied.own in
      let twice = fn_ptr_normal na ne [] (np b) u i w paren z.0 z.1 out ∙ ap (λ y. fn_ptr_with y (np (np b)) u i w paren (normal_inputs na ne z).0 (normal_inputs na ne z).1 (normal.return_type na ne out)) supplied.own
      ∙ ap (λ y. to y (normal_inputs na ne z) (normal.return_type na ne out)) kb.stays ∙ ap (λ y. to (np b) y (normal.return_type na ne out)) kv.stays ∙ ap (λ y. to (np b) z y) ko.stays in
      let t5 = λ (h : Toks). row (printing.return_type pa pe o) h in
      let t4 = λ (h : Toks). group Parenthesis s (row (print_inputs pa pe (v, d)) done) (t5 h) in
      let t3 = λ (h : Toks). row (p.word w) (t4 h) in
      let t2 = λ (h : Toks). row (printing.optional_abi i) (t3 h) in
      let t1 = λ (h : Toks). row (printing.optional_word u) (t2 h) in
      let last = λ (h : Toks). row-append (p.group Parenthesis (stream_of_trees (print_inputs pa pe (v, d))) s) (printing.return_type pa pe o) h ∙ row-group Parenthesis s (print_inputs pa pe (v, d)) (t5 h) tt in
      let seen = λ (h : Toks). ap (λ y. row y h) (fn_ptr_whole b u i w paren (v, d) o) ∙ row-append (pb b) (head u i w ++ tail paren (v, d) o) h
      ∙ ap (row (pb b)) (row-append (head u i w) (tail paren (v, d) o) h ∙ ap (row (head u i w)) (last h) ∙ row-append (printing.optional_word u) (printing.optional_abi i ++ p.word w) (t4 h) ∙ ap (row (printing.optional_word u)) (row-append (printing.optional_abi i) (p.word w) (t4 h))) in
      record {
        spelt = λ h. subst (λ g. IsFnPtr part clearly e g (row (printing.fn_ptr pa pe x) h) h) (sym once)
            (subst (λ g. IsFnPtr part clearly e (to (np b) z out) g h) (sym (seen h)) (a_fn_ptr (kb.spelt (t1 h)) (ku.spelt (t2 h)) (ki.spelt (t3 h)) (kw.spelt (t4 h)) kv.spelt (ko.spelt h)));
        visible = λ h y g. subst Visible (sym (seen h)) (
            let a = kb.seen y in
            let b' = ku.seen a in
            let c' = ki.seen b' in
            let d' = kw.seen c' in
            kb.visible (t1 h) y (ku.visible (t2 h) a (ki.visible (t3 h) b' (kw.visible (t4 h) c' (tt, kv.visible d'.1, ko.visible h d'.2 g)))));
        seen = λ y. ko.seen (kw.seen (ki.seen (ku.seen (kb.seen y)))).2;
        stays = ap (normal.fn_ptr na ne) once ∙ twice ∙ sym once;
        same = ap (printing.fn_ptr pa pe) once ∙ fn_ptr_whole (np b) u i w paren z out ∙ ap (λ y. y ++ (head u i w ++ tail paren z out)) kb.same
            ∙ ap (λ y. pb b ++ (head u i w ++ (p.group Parenthesis (stream_of_trees y) s ++ printing.return_type pa pe out))) kv.same
            ∙ ap (λ y. pb b ++ (head u i w ++ (p.group Parenthesis (stream_of_trees (print_inputs pa pe (v, d))) s ++ y))) ko.same
            ∙ sym (fn_ptr_whole b u i w paren (v, d) o);
      }
