-- Arguments in angle brackets print clearly in their normal form, where each argument does, as the arguments of a segment too, in both styles; with what forms one after the other print.
use Rattle.std.proofs.Common.{◌≡◌, ℕ, Bool, true, false, List, ◌++◌, Option, Some, refl, sym, ◌∙◌, ap, subst}
use Rattle.std.proofs.lemmas.Bool.{true≢false}
use Rattle.syn_ty.proofs.ty_laws.words.Tokens.{Mark, Ident, Many, Print, sees_mark, Visible, IsMark, is_mark, last_char, Bytes, Toks, word, row}
use Rattle.syn_ty.proofs.ty_laws.words.Paths.{PathStyle, AsWritten, Expr, NormalValues, Values}
use Rattle.syn_ty.proofs.ty_laws.words.Types.{Sep, angle_of, is_lifetime, Styled, IsAngle, an_angle, IsArguments, sorted, Manner, plainly, clearly, Parts, IsOptional, absent, present, AngleBracketed, GenericArgument, PathArguments, Comma}
use Rattle.token_core.specs.Prints as p
use Rattle.token_core.specs.Tokens as token
use Rattle.token_core.proofs.MarkSpells.{mark_again, mark_seen}
use Rattle.token_core.proofs.Rebuilds.{tree-ident}
use Rattle.token_core.proofs.Rows.{row-append}
use Rattle.syn_path.proofs.Words.{AgainFront}
use Rattle.syn_ty.specs.declared.path.PathArgumentsOf.TheVariants as a
use Rattle.syn_ty.specs.path.Spelling.{some_arguments}
use Rattle.syn_ty.specs.ty.Normal as normal
use Rattle.syn_ty.specs.ty.Printing as printing
use Rattle.syn_ty.proofs.ty_laws.reprint.Within.{Again}
use Rattle.syn_ty.proofs.ty_laws.reprint.AnglesSorted.{sorted_again}
use Rattle.syn_ty.proofs.ty_laws.reprint.Normals.{normal-AngleBracketed, argument_kept}
use Rattle.syn_ty.proofs.ty_laws.Prints.{arguments-AngleBracketed}
use Rattle.syn_ty.proofs.ty_laws.reprint.Leaves.{mark_front}

-- ---- forms by their parts

-- one form, and then another
abbrev pub Then : {A B : Type 0} → (A → Toks → Toks → Type 0) → (B → Toks → Toks → Type 0) → A × B → Toks → Toks → Type 0
Then S T z l r = (m : Toks) × S z.0 l m × T z.1 m r

module _ {A B : Type 0} {S : A → Toks → Toks → Type 0} {T : B → Toks → Toks → Type 0} {n : A → A} {u : B → B} {f : A → Print} {g : B → Print} where
  pub then_front : {x : A} {y : B} {l m r : Toks} → AgainFront S n f x l m → AgainFront T u g y m r → AgainFront (Then S T) (λ (z : A × B). (n z.0, u z.1)) (λ (z : A × B). f z.0 ++ g z.1) (x, y) l r
  then_front {x = x} {y = y} h k =
      record {
        spelt = λ o. subst (λ z. Then S T (n x, u y) z o) (sym (row-append (f x) (g y) o)) (row (g y) o, h.spelt (row (g y) o), k.spelt o);
        visible = λ o v w. subst Visible (sym (row-append (f x) (g y) o)) (h.visible (row (g y) o) v (k.visible o (h.seen v) w));
        seen = λ v. k.seen (h.seen v);
        stays = ap (λ z. (z, u (u y))) h.stays ∙ ap (λ z. (n x, z)) k.stays;
        same = ap (λ z. z ++ g (u y)) h.same ∙ ap (λ z. f x ++ z) k.same;
      }

-- a form of which another tree is made, whose normal form and print are known
module _ {A B : Type 0} (S : A → Toks → Toks → Type 0) (T : B → Toks → Toks → Type 0) (n : A → A) (u : B → B) (f : A → Print) (g : B → Print) (make : A → B) where
  -- of this one
  pub made_at : (x : A) (l r : Toks) → ((l r : Toks) → S (n x) l r → T (make (n x)) l r) → u (make x) ≡ make (n x) → u (make (n x)) ≡ make (n (n x)) → g (make x) ≡ f x → g (make (n x)) ≡ f (n x) →
      AgainFront S n f x l r → AgainFront T u g (make x) l r
  made_at x l r makes form forms print prints k =
      record {
        spelt = λ h. subst (λ z. T (u (make x)) (row z h) h) (sym print) (subst (λ z. T z (row (f x) h) h) (sym form) (makes (row (f x) h) h (k.spelt h)));
        visible = λ h v w. subst (λ z. Visible (row z h)) (sym print) (k.visible h v w);
        seen = k.seen;
        stays = ap u form ∙ forms ∙ ap make k.stays ∙ sym form;
        same = ap g form ∙ prints ∙ k.same ∙ sym print;
      }

  -- of each
  pub made_front : ((x : A) (l r : Toks) → S x l r → T (make x) l r) → ((x : A) → u (make x) ≡ make (n x)) → ((x : A) → g (make x) ≡ f x) → (x : A) (l r : Toks) →
      AgainFront S n f x l r → AgainFront T u g (make x) l r
  made_front makes forms prints x l r k = made_at x l r (makes (n x)) (forms x) (forms (n x)) (prints x) (prints (n x)) k

-- an identifier whose text is admitted
abbrev pub IsIdent : (Bytes → Bool) → Ident → Toks → Toks → Type 0
IsIdent ok i l r = (ok i.text ≡ true) × (l ≡ word i r)

pub ident_front : (ok : Bytes → Bool) (i : Ident) (r : Toks) → ok i.text ≡ true → AgainFront (IsIdent ok) (λ (z : Ident). z) p.ident i (word i r) r
ident_front ok i r h =
    record {
      spelt = λ k. (h, tree-ident i k);
      visible = λ k v w. subst Visible (sym (tree-ident i k)) w;
      seen = λ v. v;
      stays = refl;
      same = refl;
    }

pub optional_front : {n k : ℕ} (o : Option (Mark n k)) (l r : Toks) → IsOptional (IsMark false) o l r → AgainFront (IsOptional (IsMark true {n = n} {k = k})) (λ (z : Option (Mark n k)). z) (λ (z : Option (Mark n k)). p.optional p.mark z) o l r
optional_front o l r absent = record { spelt = λ h. absent; visible = λ h v w. w; seen = λ v. v; stays = refl; same = refl }
optional_front o l r (present {a = m} i) = let k = mark_front m l r i in record { spelt = λ h. present (k.spelt h); visible = λ h v w. k.visible h v w; seen = λ v. k.seen v; stays = refl; same = refl }

-- ---- arguments in angle brackets

pub lt_no_sep : (clear : Bool) (c : token.Lt) (l r : Toks) → IsMark clear c l r → token.sees_path_sep l ≡ false
unfolding sees_mark
lt_no_sep clear c l r (is_mark (last_char x)) = refl

module _ {A E : Type 0} (na : List A → List A) (ne : NormalValues E) (pa : List A → Print) (pe : Values E) (part : Manner → Parts A E) (again : Again na ne pa pe part) where
  -- by their parts
  abbrev Start : Type 0
  Start = Option Sep × token.Lt

  abbrev Rest : Type 0
  Rest = Many (GenericArgument A E) Comma × token.Gt

  abbrev make_angle : Start × Rest → AngleBracketed A E
  make_angle z = angle_of z.0.0 z.0.1 z.1.0 z.1.1

  pub angle_again : (x : AngleBracketed A E) (l r : Toks) → IsAngle part plainly x l r → AgainFront (IsAngle part clearly) (normal.angle na ne) (printing.angle pa pe AsWritten) x l r
  angle_again x l r (an_angle {c = c} {o = o} {xs = xs} {cs = cs} {g = g} {l = b} {m = m} {n = n} {k = k} i j t w) =
      let v = sorted_again (part plainly).argument (part clearly).argument (normal.argument na ne) (printing.argument pa pe) again.argument is_lifetime (argument_kept na ne) xs cs n k t in
      made_front _ (IsAngle part clearly) _ (normal.angle na ne) _ (printing.angle pa pe AsWritten) make_angle (λ x l r i. an_angle i.1.1 i.1.2 i.2.1 i.2.2) (λ x. refl) (λ x. refl) ((c, o), ((xs, cs), g)) l r
      (then_front (then_front (optional_front c l m i) (mark_front o m n j)) (then_front v (mark_front g k r w)))

  -- ---- in both styles

  -- with what stands before it in this style
  abbrev pub StyledAngle : PathStyle → AngleBracketed A E → Toks → Toks → Type 0
  StyledAngle style z l r = Styled style l × IsAngle part clearly z l r

  row-angle : (c : Sep) (o : token.Lt) (v : Many (GenericArgument A E) Comma) (g : token.Gt) (h : Toks) →
      row (printing.angle pa pe AsWritten (angle_of (Some c) o v g)) h ≡ row (p.mark c) (row (p.mark o ++ (sorted is_lifetime (printing.argument pa pe) v ++ p.mark g)) h)
  row-angle c o v g h =
      let rest = sorted is_lifetime (printing.argument pa pe) v ++ p.mark g in
      row-append (p.mark c ++ p.mark o) rest h ∙ row-append (p.mark c) (p.mark o) (row rest h) ∙ ap (row (p.mark c)) (sym (row-append (p.mark o) rest h))

  pub styled_angle_again : (style : PathStyle) (x : AngleBracketed A E) (l r : Toks) → Styled style l → IsAngle part plainly x l r →
      AgainFront (StyledAngle style) (normal.angle na ne) (printing.angle pa pe style) x l r
  styled_angle_again AsWritten x l r s i = let k = angle_again x l r i in record { spelt = λ h. (tt, k.spelt h); visible = k.visible; seen = k.seen; stays = k.stays; same = k.same }
  styled_angle_again Expr x l r s (an_angle {o = o} {m = m} {n = n} absent j t w) = absurd (true≢false (sym s ∙ lt_no_sep false o m n j))
  styled_angle_again Expr x l r s (an_angle {c = c} {o = o} {xs = xs} {cs = cs} {g = g} {m = m} (present {a = q} i) j t w) =
      let k = angle_again x l r (an_angle (present i) j t w) in
      let sees = λ (h : Toks). let rest = row (p.mark o ++ (sorted is_lifetime (printing.argument pa pe) (xs, cs) ++ p.mark g)) h in mark_seen true q (row (p.mark q) rest) rest (mark_again false q l m rest i) in
      record {
        spelt = λ h. (subst (λ z. token.sees_path_sep z ≡ true) (sym (row-angle q o (xs, cs) g h)) (sees h), k.spelt h);
        visible = k.visible;
        seen = k.seen;
        stays = k.stays;
        same = k.same;
      }

  -- as the arguments of a segment
  pub arguments_again : (style : PathStyle) (x : PathArguments A E) (l r : Toks) → Styled style l → IsArguments part plainly x l r →
      AgainFront (λ (z : PathArguments A E) (l r : Toks). Styled style l × IsArguments part clearly z l r) (normal.arguments na ne) (printing.arguments pa pe style) x l r
  arguments_again style x l r s (some_arguments {x = y} i) =
      made_front (StyledAngle style) _ (normal.angle na ne) _ (printing.angle pa pe style) _ a.AngleBracketed (λ x l r i. (i.0, some_arguments i.1)) (normal-AngleBracketed na ne) (arguments-AngleBracketed pa pe style) y l r
      (styled_angle_again style y l r s i)

  pub arguments_written_again : (x : PathArguments A E) (l r : Toks) → IsArguments part plainly x l r → AgainFront (IsArguments part clearly) (normal.arguments na ne) (printing.arguments pa pe AsWritten) x l r
  arguments_written_again x l r i = let k = arguments_again AsWritten x l r tt i in record { spelt = λ h. (k.spelt h).1; visible = k.visible; seen = k.seen; stays = k.stays; same = k.same }
