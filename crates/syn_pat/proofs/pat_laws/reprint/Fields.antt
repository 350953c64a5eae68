-- Bindings, and the fields of a struct, print their normal form clearly, where the patterns that they hold do.
use Rattle.std.proofs.Common.{◌≡◌, Bool, true, false, [], ◌++◌, map, Option, Some, None, refl, sym, ◌∙◌, ap, subst, append-nil}
use Rattle.syn_pat.proofs.pat_laws.words.Tokens.{Member, Ident, Anywhere, Many, Print, is_ident, Visible, IsMark, IsMember, IsWord, Bytes, Toks, done, word, TokenStream, row, trees}
use Rattle.syn_pat.proofs.pat_laws.words.Paths.{Place}
use Rattle.syn_pat.proofs.pat_laws.words.Types.{many, Manner, plainly, clearly, IsVerbatim, IsOptional, absent, present, Relation, Comma}
use Rattle.syn_pat.proofs.pat_laws.words.Patterns.{types_shown, PatPlace, Single, LeadingVert, IsBinding, a_binding, IsBoxedName, IsField, with_colon, without_colon, boxed, AreFields, fields_alone, fields_and_rest, IsSubpat, a_subpat, Attrs, FieldPat, Pat, PatIdent, PatRest, binding_of, field_of, rest_of, outer_spelt, is_binding_name}
use Rattle.token_core.specs.declared.member.Member.TheVariants as member
use Rattle.token_core.specs.Members as members
use Rattle.token_core.specs.Prints as p
use Rattle.token_core.specs.Tokens as token
use Rattle.token_core.proofs.MemberSpells.{member_again, member_visible, member_whole}
use Rattle.syn_path.proofs.Words.{Again, AgainFront}
use Rattle.syn_forms.proofs.tokens_laws.Mutability.{word_front}
use Rattle.syn_ty.specs.ty.Printing.{optional_word}
use Rattle.syn_ty.specs.ty.Types.{comma}
use Rattle.syn_ty.proofs.ty_laws.reprint.Angles.{Then, then_front, made_front, IsIdent, ident_front}
use Rattle.syn_ty.proofs.ty_laws.reprint.Leaves.{listed_front, mark_front}
use Rattle.syn_ty.proofs.ty_laws.reprint.Signatures.{marked_front, marked_full, optional_front}
use Rattle.syn_pat.specs.declared.pat.PatOf.TheVariants as v
use Rattle.syn_pat.specs.pat.Normal as normal
use Rattle.syn_pat.specs.pat.Printing as printing
use Rattle.syn_pat.proofs.pat_laws.reprint.Begins.{mut_first}
use Rattle.syn_pat.proofs.pat_laws.reprint.Normals.{normal-Ident, normal-Verbatim}
use Rattle.syn_pat.proofs.pat_laws.reprint.Parts.{SuppliedAgain, Stopped, comma_stops, held_front, listed_stop, marked_stop, stopped, stops_done}
use Rattle.syn_pat.proofs.pat_laws.reprint.PatsMove.{SinglesMove, boxed_name_moves, boxed_name_over}
use Rattle.syn_pat.proofs.pat_laws.Prints.{last_mapped, pat-Ident, pat-Verbatim}

member_front : (x : Member) (l r : Toks) → IsMember x l r → AgainFront IsMember (λ (z : Member). z) members.print x l r
member_front x l r i =
    record { spelt = λ h. member_again x l r h i; visible = λ h u w. member_whole x (row (members.print x) h) h (member_again x l r h i) w; seen = λ u. member_visible x l r i u; stays = refl; same = refl }

module _ {X : Type 0} (spells : Place → X → Toks → Type 0) (nx : Place → X → X) (px : Place → X → Print) where
  abbrev pub np : Pat X → Pat X
  np = normal.pat nx

  abbrev pub pp : Pat X → Print
  pp = printing.pat px (types_shown px)

  -- what is known of the patterns within, also before other tokens; and with what they begin
  pub record PatsAgain (part : Manner → PatPlace → Relation (Pat X)) : Type 0 where
    pub pat : (p : PatPlace) (x : Pat X) (l r : Toks) → part plainly p x l r → AgainFront (Stopped (part clearly p)) np pp x l r
    pub moves : SinglesMove (part clearly)
    pub begins : (how : Manner) (x : Pat X) (l r : Toks) → part how Single x l r → token.sees_mut l ≡ mut_first x

  module _ (g : SuppliedAgain spells nx px) (part : Manner → PatPlace → Relation (Pat X)) (again : PatsAgain part) where
    -- ---- bindings

    sub_again : (s : Option (token.At × Pat X)) (l r : Toks) → IsOptional (IsSubpat spells part plainly) s l r → AgainFront (Stopped (IsOptional (IsSubpat spells part clearly))) (normal.subpattern nx) (printing.subpattern_by px pp) s l r
    sub_again s l r absent = record { spelt = λ h e. absent; visible = λ h u w. w; seen = λ u. u; stays = refl; same = refl }
    sub_again s l r (present (a_subpat {a = a} {x = x} {m = m} i j)) =
        made_front (Then (IsMark true) (Stopped (part clearly Single))) (Stopped (IsOptional (IsSubpat spells part clearly))) _ (normal.subpattern nx) _ (printing.subpattern_by px pp) (λ (z : token.At × Pat X). Some z)
        (λ z l r i e. present (a_subpat i.1 (i.2 e))) (λ z. refl) (λ z. refl) (a, x) l r (then_front (mark_front a l m i) (again.pat Single x m r j))

    -- perhaps `ref`, perhaps `mut`, and a name
    abbrev Name : Type 0
    Name = Option token.Ref × (Option token.Mut × Ident)

    abbrev IsName : (Bytes → Bool) → Name → Toks → Toks → Type 0
    IsName ok = Then (IsOptional IsWord) (Then (IsOptional IsWord) (IsIdent ok))

    abbrev print_name : Name → Print
    print_name z = optional_word z.0 ++ (optional_word z.1.0 ++ p.ident z.1.1)

    name_front : (ok : Bytes → Bool) (f : Option token.Ref) (u : Option token.Mut) (i : Ident) (l m n : Toks) → IsOptional IsWord f l m → IsOptional IsWord u m (word i n) → ok i.text ≡ true → AgainFront (IsName ok) (λ (z : Name). z) print_name (f, (u, i)) l n
    name_front ok f u i l m n a b h =
        then_front (optional_front IsWord IsWord (λ z. p.word z) word_front f l m a) (then_front (optional_front IsWord IsWord (λ z. p.word z) word_front u m (word i n) b) (ident_front ok i n h))

    -- before what follows the name
    name_parts : (ok : Bytes → Bool) (z : Name) (l r : Toks) → IsName ok z l r → (m : Toks) × IsOptional IsWord z.0 l m × IsOptional IsWord z.1.0 m (word z.1.1 r) × (ok z.1.1.text ≡ true)
    name_parts ok z l r i = (i.0, i.1, subst (λ k. IsOptional IsWord z.1.0 i.0 k) i.2.2.1 i.2.1, i.2.2.0)

    pub binding_again : (x : PatIdent X) (l r : Toks) → IsBinding spells part plainly x l r → AgainFront (Stopped (IsBinding spells part clearly)) (normal.binding nx) (printing.binding px (types_shown px)) x l r
    binding_again x l r (a_binding {f = f} {u = u} {i = i} {s = s} {m = m} {n = n} a b h j) =
        made_front (Then (IsName is_binding_name) (Stopped (IsOptional (IsSubpat spells part clearly)))) (Stopped (IsBinding spells part clearly)) _ (normal.binding nx) _ (printing.binding px (types_shown px)) (λ (z : Name × Option (token.At × Pat X)). binding_of [] z.0.0 z.0.1.0 z.0.1.1 z.1)
        (λ z l r i e. let k = name_parts is_binding_name z.0 l i.0 i.1 in a_binding k.1 k.2 k.3 (i.2 e)) (λ z. refl) (λ z. refl) ((f, (u, i)), s) l r (then_front (name_front is_binding_name f u i l m n a b h) (sub_again s n r j))

    -- ---- a field

    abbrev Outer : Attrs X → Toks → Toks → Type 0
    Outer = outer_spelt spells true

    abbrev Fields : FieldPat X → Toks → Toks → Type 0
    Fields = IsField spells part clearly

    abbrev nf : FieldPat X → FieldPat X
    nf = normal.field nx

    abbrev pf : FieldPat X → Print
    pf = printing.field px (types_shown px)

    -- one that binds its name
    abbrev name_field : Attrs X × Name → FieldPat X
    name_field z = field_of z.0 (member.Named z.1.1.1) None (v.Ident (binding_of [] z.1.0 z.1.1.0 z.1.1.1 None))

    name_prints : (z : Attrs X × Name) → pf (name_field z) ≡ printing.attrs px z.0 ++ print_name z.1
    name_prints z =
        let a = printing.attrs px z.0 in
        ap (λ k. (a ++ []) ++ k) (pat-Ident px (types_shown px) (binding_of [] z.1.0 z.1.1.0 z.1.1.1 None)) ∙ ap (λ k. k ++ (print_name z.1 ++ [])) (append-nil a) ∙ ap (λ k. a ++ k) (append-nil (print_name z.1))

    -- and one that is held verbatim
    abbrev held_field : Ident → Attrs X × TokenStream → FieldPat X
    held_field i z = field_of z.0 (member.Named i) None (v.Verbatim z.1)

    held_prints : (i : Ident) (z : Attrs X × TokenStream) → pf (held_field i z) ≡ printing.attrs px z.0 ++ trees z.1
    held_prints i z = let a = printing.attrs px z.0 in ap (λ k. (a ++ []) ++ k) (pat-Verbatim px (types_shown px) z.1) ∙ ap (λ k. k ++ trees z.1) (append-nil a)

    pub field_again : (x : FieldPat X) (l r : Toks) → IsField spells part plainly x l r → AgainFront (Stopped Fields) nf pf x l r
    field_again x l r (with_colon {a = a} {n = n} {c = c} {x = y} {m = m} {k = k} {j = j} i t q w) =
        made_front (Then (Then Outer (Then IsMember (IsMark true))) (Stopped (part clearly LeadingVert))) (Stopped Fields) _ nf _ pf (λ (z : (Attrs X × (Member × token.Colon)) × Pat X). field_of z.0.0 z.0.1.0 (Some z.0.1.1) z.1)
        (λ z l r i e. with_colon i.1.1 i.1.2.1 i.1.2.2 (i.2 e)) (λ z. refl) (λ z. refl) ((a, (n, c)), y) l r
        (then_front (then_front (g.types.attrs a l m i) (then_front (member_front n m k t) (mark_front c k j q))) (again.pat LeadingVert y j r w))
    field_again x l r (without_colon {a = a} {f = f} {u = u} {i = i} {m = m} {n = n} o t q h) =
        stopped (made_front (Then Outer (IsName is_ident)) Fields _ nf _ pf name_field (λ z l r i. let k = name_parts is_ident z.1 i.0 r i.2 in without_colon i.1 k.1 k.2 k.3)
        (λ z. ap (field_of (normal.attrs nx z.0) (member.Named z.1.1.1) None) (normal-Ident nx (binding_of [] z.1.0 z.1.1.0 z.1.1.1 None))) name_prints (a, (f, (u, i))) l r (then_front (g.types.attrs a l m o) (name_front is_ident f u i m n r t q h)))
    field_again x l r (boxed {a = a} {i = i} {t = t} {m = m} o h) =
        made_front (Then Outer (Stopped (IsVerbatim (λ (w : Manner). IsBoxedName i) clearly))) (Stopped Fields) _ nf _ pf (held_field i) (λ z l r j e. boxed j.1 (j.2 e))
        (λ z. ap (field_of (normal.attrs nx z.0) (member.Named i) None) (normal-Verbatim nx z.1)) (held_prints i) (a, t) l r (then_front (g.types.attrs a l m o) (held_front (λ (w : Manner). IsBoxedName i) (λ k e l r j q. boxed_name_moves k j q) (λ l r j q. boxed_name_over j q) t m r h))

    -- ---- what the braces of a struct hold

    abbrev pub Held : Type 0
    Held = Many (FieldPat X) Comma × Option (PatRest X)

    abbrev pub AreHeld : Held → Toks → Type 0
    AreHeld z l = AreFields spells part clearly z.0 z.1 l

    abbrev pub normal_held : Held → Held
    normal_held z = (many nf z.0, normal.optional_rest nx z.1)

    abbrev pub print_held : Held → Print
    print_held z = printing.fields px (types_shown px) z.0 ++ (printing.rest_comma px z.1 z.0 ++ printing.optional_rest px z.1)

    -- fields that each have their comma, and `..`
    abbrev All : Type 0
    All = Many (FieldPat X) Comma × (Attrs X × token.DotDot)

    abbrev rest_held : All → Held
    rest_held z = (z.0, Some (rest_of z.1.0 z.1.1))

    pub fields_again : (w : Many (FieldPat X) Comma) (o : Option (PatRest X)) (l : Toks) → AreFields spells part plainly w o l → Again AreHeld normal_held print_held (w, o) l
    fields_again w o l (fields_alone {xs = xs} {cs = cs} i) =
        let k = listed_front (λ (_ : Bool). IsField spells part plainly) (λ (_ : Bool). Stopped Fields) (IsMark false) (IsMark true) Anywhere nf pf p.mark (λ _. field_again) mark_front true xs cs l done i in
        let nil = append-nil (printing.fields px (types_shown px) (xs, cs)) in
        record {
          spelt = subst (λ z. AreHeld (normal_held (w, o)) (row z done)) (sym nil) (fields_alone (listed_stop comma_stops (k.spelt done) stops_done));
          visible = λ u. subst (λ z. Visible (row z done)) (sym nil) (k.visible done u tt);
          stays = ap (λ (z : Many (FieldPat X) Comma). (z, None)) k.stays;
          same = ap (λ z. z ++ []) k.same;
        }
    fields_again w o l (fields_and_rest {xs = xs} {cs = cs} {a = a} {d = d} {m = m} {n = n} i j h) =
        let made = marked_front (λ (_ : Bool). IsField spells part plainly) (λ (_ : Bool). Stopped Fields) (IsMark false) (IsMark true) nf pf p.mark (λ _. field_again) mark_front true xs cs l m i in
        let k = then_front made (then_front (g.types.attrs a m n j) (mark_front d n done h)) in
        let full = marked_full (λ (_ : Bool). IsField spells part plainly) (IsMark false) comma true xs cs l m i in
        let once = ap (λ y. printing.fields px (types_shown px) (xs, cs) ++ (y ++ (printing.attrs px a ++ p.mark d))) full in
        let twice = ap (λ y. printing.fields px (types_shown px) (map nf xs, cs) ++ (y ++ (printing.attrs px (normal.attrs nx a) ++ p.mark d))) (last_mapped nf xs cs ∙ full) in
        record {
          spelt = subst (λ z. AreHeld (normal_held (w, o)) (row z done)) (sym once) (let s = k.spelt done in fields_and_rest (marked_stop comma_stops s.1) s.2.1 s.2.2);
          visible = λ u. subst (λ z. Visible (row z done)) (sym once) (k.visible done u tt);
          stays = ap rest_held k.stays;
          same = twice ∙ k.same ∙ sym once;
        }
