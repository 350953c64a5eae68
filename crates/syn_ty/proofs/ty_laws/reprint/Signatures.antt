-- What a function returns, arguments in parentheses, ABIs and values that each have their mark print their normal form clearly, where what they hold does.
use Rattle.std.proofs.Common.{◌≡◌, Bool, true, false, List, [], ◌∷◌, ◌++◌, map, Option, None, refl, sym, ◌∙◌, ap, subst}
use Rattle.syn_ty.proofs.ty_laws.words.Tokens.{Lifetime, LitStr, Parenthesis, Anywhere, Many, Print, Visible, IsMark, IsLifetime, IsStr, Toks, done, row, stream_of_trees}
use Rattle.syn_ty.proofs.ty_laws.words.Paths.{NormalValues, Values}
use Rattle.syn_ty.proofs.ty_laws.words.Forms.{TypePlace, Plus, NoPlus}
use Rattle.syn_ty.proofs.ty_laws.words.Types.{Abi, parens_of, IsReturn, no_output, an_output, IsInput, an_input, IsParens, a_parens, IsAbi, an_abi, Manner, plainly, clearly, End, Parts, AreMarked, no_further, one_further, last_comma, Relation, IsOptional, absent, present, NamedArg, Parenthesized, ReturnType, TypeTree, Comma, named_arg_of}
use Rattle.token_core.specs.Groups as groups
use Rattle.token_core.specs.Lifetimes as lifetimes
use Rattle.token_core.specs.Lists as lists
use Rattle.token_core.specs.Lits as lits
use Rattle.token_core.specs.Prints as p
use Rattle.token_core.proofs.LitSpells.{str_again, str_visible, str_whole}
use Rattle.token_core.proofs.Rows.{row-append}
use Rattle.token_core.proofs.WordSpells.{lifetime_again, lifetime_visible, lifetime_whole}
use Rattle.syn_path.proofs.Words.{AgainFront, row-group}
use Rattle.syn_forms.proofs.tokens_laws.Mutability.{word_front}
use Rattle.syn_ty.specs.declared.ty.ReturnTypeOf.TheVariants as output
use Rattle.syn_ty.specs.ty.Normal as normal
use Rattle.syn_ty.specs.ty.Printing as printing
use Rattle.syn_ty.proofs.ty_laws.reprint.Within.{Again, SuppliedAgain}
use Rattle.syn_ty.proofs.ty_laws.reprint.Leaves.{listed_front, mark_front}

-- where the normal form of a tree is known, and that of its normal form
module _ {A : Type 0} (S : Relation A) (n m : A → A) (pr : A → Print) where
  pub normal_front : (x : A) (l r : Toks) → n x ≡ m x → n (m x) ≡ m (m x) → AgainFront S m pr x l r → AgainFront S n pr x l r
  normal_front x l r once twice k =
      record {
        spelt = λ h. subst (λ z. S z (row (pr x) h) h) (sym once) (k.spelt h);
        visible = λ h u w. k.visible h u w;
        seen = λ u. k.seen u;
        stays = ap n once ∙ twice ∙ k.stays ∙ sym once;
        same = ap pr once ∙ k.same;
      }

-- ---- what may be there, and is its own normal form

module _ {A : Type 0} (V W : Relation A) (g : A → Print) (again : (x : A) (l r : Toks) → V x l r → AgainFront W (λ (z : A). z) g x l r) where
  pub optional_front : (o : Option A) (l r : Toks) → IsOptional V o l r → AgainFront (IsOptional W) (λ (z : Option A). z) (λ (z : Option A). p.optional g z) o l r
  optional_front o l r absent = record { spelt = λ h. absent; visible = λ h u w. w; seen = λ u. u; stays = refl; same = refl }
  optional_front o l r (present {a = a} i) = let k = again a l r i in record { spelt = λ h. present (k.spelt h); visible = λ h u w. k.visible h u w; seen = λ u. k.seen u; stays = refl; same = refl }

pub lifetime_front : (x : Lifetime) (l r : Toks) → IsLifetime x l r → AgainFront IsLifetime (λ (z : Lifetime). z) lifetimes.print x l r
lifetime_front x l r i =
    record {
      spelt = λ h. lifetime_again x l r h i;
      visible = λ h u w. lifetime_whole x (row (lifetimes.print x) h) h (lifetime_again x l r h i) w;
      seen = λ u. lifetime_visible x l r i u;
      stays = refl;
      same = refl;
    }

-- ---- values that each have their mark

module _ {A P : Type 0} (V W : Bool → Relation A) (M N : Relation P) (n : A → A) (pr : A → Print) (g : P → Print)
    (value : (b : Bool) (x : A) (l r : Toks) → V b x l r → AgainFront (W b) n pr x l r) (joint : (x : P) (l r : Toks) → M x l r → AgainFront N (λ (z : P). z) g x l r) where
  pub marked_front : (b : Bool) (xs : List A) (ps : List P) (l r : Toks) → AreMarked V M b xs ps l r →
      AgainFront (λ (z : Many A P). AreMarked W N b z.0 z.1) (λ (z : Many A P). (map n z.0, z.1)) (λ (z : Many A P). lists.joined pr g z.0 z.1) (xs, ps) l r
  marked_front b xs ps l r no_further = record { spelt = λ h. no_further; visible = λ h u w. w; seen = λ u. u; stays = refl; same = refl }
  marked_front b xs ps l r (one_further {x = x} {p = q} {xs = ys} {ps = qs} {m = m} {k = o} i j t) =
      let k = value b x l m i in
      let d = joint q m o j in
      let c = marked_front false ys qs o r t in
      let rest = lists.joined pr g ys qs in
      let seen = λ (h : Toks). row-append (pr x) (g q ++ rest) h ∙ ap (row (pr x)) (row-append (g q) rest h) in
      record {
        spelt = λ h. subst (λ z. AreMarked W N b (n x ∷ map n ys) (q ∷ qs) z h) (sym (seen h)) (one_further (k.spelt (row (g q) (row rest h))) (d.spelt (row rest h)) (c.spelt h));
        visible = λ h u w. subst Visible (sym (seen h)) (k.visible (row (g q) (row rest h)) u (d.visible (row rest h) (k.seen u) (c.visible h (d.seen (k.seen u)) w)));
        seen = λ u. c.seen (d.seen (k.seen u));
        stays = ap (λ z. (z ∷ map n (map n ys), q ∷ qs)) k.stays ∙ ap (λ (z : Many A P). (n x ∷ z.0, q ∷ qs)) c.stays;
        same = ap (λ z. z ++ (g q ++ lists.joined pr g (map n ys) qs)) k.same ∙ ap (λ z. pr x ++ (g q ++ z)) c.same;
      }

-- a comma is there after the last one
module _ {A : Type 0} (V : Bool → Relation A) (M : Relation Comma) where
  pub marked_full : (c : Comma) (b : Bool) (xs : List A) (ps : List Comma) (l r : Toks) → AreMarked V M b xs ps l r → last_comma c xs ps ≡ []
  marked_full c b xs ps l r no_further = refl
  marked_full c b xs ps l r (one_further {xs = ys} {ps = qs} {k = o} i j t) = marked_full c false ys qs o r t

pub comma_front : (o : Option Comma) (l r : Toks) → IsOptional (IsMark false) o l r → AgainFront (IsOptional (IsMark true)) (λ (z : Option Comma). z) printing.optional_comma o l r
comma_front o l r absent = record { spelt = λ h. absent; visible = λ h u w. w; seen = λ u. u; stays = refl; same = refl }
comma_front o l r (present {a = a} i) = let k = mark_front a l r i in record { spelt = λ h. present (k.spelt h); visible = λ h u w. k.visible h u w; seen = λ u. k.seen u; stays = refl; same = refl }

-- ---- an ABI

str_front : (x : LitStr) (l r : Toks) → IsStr x l r → AgainFront IsStr (λ (z : LitStr). z) lits.print_str x l r
str_front x l r i =
    record {
      spelt = λ h. str_again x l r h i;
      visible = λ h u w. str_whole x (row (lits.print_str x) h) h (str_again x l r h i) w;
      seen = λ u. str_visible x l r i u;
      stays = refl;
      same = refl;
    }

pub abi_again : (x : Abi) (l r : Toks) → IsAbi x l r → AgainFront IsAbi (λ (z : Abi). z) printing.abi x l r
abi_again x l r (an_abi {w = w} {o = o} {m = m} i j) =
    let d = word_front w l m i in
    let k = optional_front IsStr IsStr lits.print_str str_front o m r j in
    let last = λ (h : Toks). row (printing.convention o) h in
    let seen = λ (h : Toks). row-append (p.word w) (printing.convention o) h in
    record {
      spelt = λ h. subst (λ z. IsAbi (record { extern_token = w; name = o }) z h) (sym (seen h)) (an_abi (d.spelt (last h)) (k.spelt h));
      visible = λ h u s. subst Visible (sym (seen h)) (d.visible (last h) u (k.visible h (d.seen u) s));
      seen = λ u. k.seen (d.seen u);
      stays = refl;
      same = refl;
    }

-- ---- what a function returns, and arguments in parentheses

module _ {A E : Type 0} (na : List A → List A) (ne : NormalValues E) (pa : List A → Print) (pe : Values E) (part : Manner → Parts A E) (again : Again na ne pa pe part) where
  abbrev nt : TypeTree A E → TypeTree A E
  nt = normal.ty na ne

  abbrev pt : TypeTree A E → Print
  pt = printing.ty pa pe

  pub return_again : (place : TypePlace) (e : End) (x : ReturnType A E) (l r : Toks) → IsReturn part plainly place e x l r → AgainFront (IsReturn part clearly place e) (normal.return_type na ne) (printing.return_type pa pe) x l r
  return_again place e x l r no_output = record { spelt = λ h. no_output; visible = λ h u w. w; seen = λ u. u; stays = refl; same = refl }
  return_again place e x l r (an_output {c = c} {x = y} {m = m} i j) =
      let d = mark_front c l m i in
      let k = again.ty place e y m r j in
      let seen = λ (h : Toks). row-append (p.mark c) (pt y) h in
      record {
        spelt = λ h. subst (λ z. IsReturn part clearly place e (output.«Type» c (nt y)) z h) (sym (seen h)) (an_output (d.spelt (row (pt y) h)) (k.spelt h));
        visible = λ h u w. subst Visible (sym (seen h)) (d.visible (row (pt y) h) u (k.visible h (d.seen u) w));
        seen = λ u. k.seen (d.seen u);
        stays = ap (output.«Type» c) k.stays;
        same = ap (λ z. p.mark c ++ z) k.same;
      }

  module _ (supplied : SuppliedAgain na ne pa pe part) where
    input_is : (x : TypeTree A E) → printing.named_arg pa pe (named_arg_of [] None x) ≡ pt x
    input_is x = ap (λ z. (z ++ []) ++ pt x) supplied.silent

    abbrev typed : NamedArg A E → NamedArg A E
    typed x = named_arg_of [] None (nt x.ty)

    pub input_again : (x : NamedArg A E) (l r : Toks) → IsInput part plainly x l r → AgainFront (IsInput part clearly) (normal.named_arg na ne) (printing.named_arg pa pe) x l r
    input_again x l r (an_input {e = e} {x = y} i) =
        let k = again.ty Plus e y l r i in
        let seen = λ (h : Toks). ap (λ z. row z h) (input_is y) in
        normal_front (IsInput part clearly) (normal.named_arg na ne) typed (printing.named_arg pa pe) (named_arg_of [] None y) l r (ap (λ z. named_arg_of z None (nt y)) supplied.own) (ap (λ z. named_arg_of z None (nt (nt y))) supplied.own) (record {
          spelt = λ h. subst (λ z. IsInput part clearly (named_arg_of [] None (nt y)) z h) (sym (seen h)) (an_input (k.spelt h));
          visible = λ h u w. subst Visible (sym (seen h)) (k.visible h u w);
          seen = λ u. k.seen u;
          stays = ap (named_arg_of [] None) k.stays;
          same = input_is (nt y) ∙ k.same ∙ sym (input_is y);
        })

    pub parens_again : (e : End) (x : Parenthesized A E) (l r : Toks) → IsParens part plainly e x l r → AgainFront (IsParens part clearly e) (normal.parenthesized na ne) (printing.parenthesized pa pe) x l r
    parens_again e x l r (a_parens {s = s} {xs = xs} {cs = cs} {o = o} {c = c} {m = m} i j) =
        let k = listed_front (λ (b : Bool). IsInput part plainly) (λ (b : Bool). IsInput part clearly) (IsMark false) (IsMark true) Anywhere (normal.named_arg na ne) (printing.named_arg pa pe) p.mark (λ b. input_again) mark_front true xs cs c done i in
        let w = return_again NoPlus e o m r j in
        let all = printing.inputs pa pe (xs, cs) in
        let last = λ (h : Toks). row (printing.return_type pa pe o) h in
        let seen = λ (h : Toks). row-append (p.group Parenthesis (stream_of_trees all) s) (printing.return_type pa pe o) h ∙ row-group Parenthesis s all (last h) tt in
        record {
          spelt = λ h. subst (λ z. IsParens part clearly e (parens_of (groups.paren s) (map (normal.named_arg na ne) xs, cs) (normal.return_type na ne o)) z h) (sym (seen h)) (a_parens (k.spelt done) (w.spelt h));
          visible = λ h u v. subst Visible (sym (seen h)) (tt, k.visible done u.1 tt, w.visible h u.2 v);
          seen = λ u. w.seen u.2;
          stays = ap (λ z. parens_of (groups.paren s) z (normal.return_type na ne (normal.return_type na ne o))) k.stays ∙ ap (parens_of (groups.paren s) (map (normal.named_arg na ne) xs, cs)) w.stays;
          same = ap (λ z. p.group Parenthesis (stream_of_trees z) s ++ printing.return_type pa pe (normal.return_type na ne o)) k.same ∙ ap (λ z. p.group Parenthesis (stream_of_trees all) s ++ z) w.same;
        }
