-- Qualified paths print clearly in their normal form, where the types and the arguments in them do, and so do paths that a type may qualify.
use Rattle.std.proofs.Common.{◌≡◌, zero, suc, min, length, Bool, true, false, List, [], ◌∷◌, ◌++◌, map, Option, Some, None, refl, sym, ◌∙◌, ap, arith, append_assoc, append-nil}
use Rattle.std.proofs.lemmas.List.{length-append, length-map, map-append}
use Rattle.std.proofs.Math.Nat.{min-eq_left, zero-min}
use Rattle.syn_ty.proofs.ty_laws.words.Tokens.{AreListed, none_left, last_value, value_and_mark, Nowhere, Many, Print, IsMark, Toks, row}
use Rattle.syn_ty.proofs.ty_laws.words.Paths.{PathOf, PathSegmentOf, PathStyle, AsWritten, path_by, NormalValues, SpelledValues, Values}
use Rattle.syn_ty.proofs.ty_laws.words.Forms.{longer, Plus}
use Rattle.syn_ty.proofs.ty_laws.words.Types.{Sep, many, IsSegment, IsPath, a_path, IsQualified, by_type, by_type_as_path, IsAnyPath, unqualified, qualified, IsNoTry, Manner, plainly, clearly, Parts, Path, PathSegment, QSelf, TypePath, TypeTree, IsPathAlone, a_path_alone, qualified_with}
use Rattle.token_core.specs.Prints as p
use Rattle.token_core.specs.Tokens as token
use Rattle.token_core.proofs.MarkSpells.{mark_again}
use Rattle.token_core.proofs.Rows.{row-append}
use Rattle.syn_path.specs.declared.path.QSelfOf.{QSelfOf}
use Rattle.syn_path.specs.path.Shapes.{segment_by, segments_by, around_by, qualified_at, qualified_by, as_or_default, colon}
use Rattle.syn_path.proofs.path_laws.Around.{by_some}
use Rattle.syn_ty.specs.path.Paths.{path_of}
use Rattle.syn_path.proofs.Words.{AgainFront}
use Rattle.syn_forms.proofs.tokens_laws.Mutability.{word_front}
use Rattle.syn_ty.specs.path.Printing as paths
use Rattle.syn_ty.specs.ty.Normal as normal
use Rattle.syn_ty.specs.ty.Printing as printing
use Rattle.syn_ty.specs.ty.Types.{qself_of}
use Rattle.syn_ty.proofs.ty_laws.reprint.Within.{Again, SuppliedAgain}
use Rattle.syn_ty.proofs.ty_laws.reprint.Angles.{then_front, made_at, made_front}
use Rattle.syn_ty.proofs.ty_laws.reprint.Normals.{path_type_normal}
use Rattle.syn_ty.proofs.ty_laws.reprint.Paths.{StyledAgain, written_again, segments_again, path_again, lt_no_try, path_no_try}
use Rattle.syn_ty.proofs.ty_laws.Prints.{path_type_parts}
use Rattle.syn_ty.proofs.ty_laws.reprint.Leaves.{mark_front}

-- as many segments as marks, and one more
abbrev pub OneMore : {A B : Type 0} → List A → List B → Type 0
OneMore xs ps = length xs ≡ suc (length ps)

module _ {A P : Type 0} (V : Bool → A → Toks → Toks → Type 0) (M : P → Toks → Toks → Type 0) where
  pub one_more : (b : Bool) (xs : List A) (ps : List P) (l r : Toks) → AreListed V M Nowhere b xs ps l r → OneMore xs ps
  one_more b xs ps l r (none_left u) = absurd u
  one_more b xs ps l r (last_value i) = refl
  one_more b xs ps l r (value_and_mark {xs = ys} {ps = qs} {k = k} i j t) = ap suc (one_more false ys qs k r t)

module _ {G : Type 0} (arguments : PathStyle → G → Print) (style : PathStyle) (gt : token.Gt) where
  -- after `>` segments stand in the style
  around_none : (xs : List (PathSegmentOf G)) (cs : List Sep) → around_by arguments style gt zero xs cs ≡ segments_by (arguments style) (xs, cs)
  around_none [] cs = refl
  around_none (x ∷ xs) [] = ap (λ z. segment_by (arguments style) x ++ z) (around_none xs [])
  around_none (x ∷ xs) (c ∷ cs) = ap (λ z. segment_by (arguments style) x ++ (p.mark c ++ z)) (around_none xs cs)

  -- all segments of a path in the style of types, `>`, and those that go on with it
  around_all : (ps : List (PathSegmentOf G)) (qs : List Sep) (c : Sep) (xs : List (PathSegmentOf G)) (cs : List Sep) → OneMore ps qs →
      around_by arguments style gt (length ps) (ps ++ xs) (qs ++ (c ∷ cs)) ≡ segments_by (arguments AsWritten) (ps, qs) ++ (p.mark gt ++ (p.mark c ++ segments_by (arguments style) (xs, cs)))
  around_all [] qs c xs cs h = absurd (omega (arith, h))
  around_all (x ∷ []) [] c xs cs h =
      let one = segment_by (arguments AsWritten) x in
      append_assoc one (p.mark gt) (p.mark c ++ around_by arguments style gt zero xs cs) ∙ ap (λ z. one ++ (p.mark gt ++ (p.mark c ++ z))) (around_none xs cs)
      ∙ ap (λ z. z ++ (p.mark gt ++ (p.mark c ++ segments_by (arguments style) (xs, cs)))) (sym (append-nil one))
  around_all (x ∷ []) (q ∷ qs) c xs cs h = absurd (omega (arith, h))
  around_all (x ∷ y ∷ ps) [] c xs cs h = absurd (omega (arith, h))
  around_all (x ∷ y ∷ ps) (q ∷ qs) c xs cs h =
      let one = segment_by (arguments AsWritten) x in
      let more = segments_by (arguments AsWritten) (y ∷ ps, qs) in
      let rest = p.mark gt ++ (p.mark c ++ segments_by (arguments style) (xs, cs)) in
      ap (λ z. one ++ (p.mark q ++ z)) (around_all (y ∷ ps) qs c xs cs (omega (arith, h))) ∙ ap (λ z. one ++ z) (sym (append_assoc (p.mark q) more rest)) ∙ sym (append_assoc one (p.mark q ++ more) rest)

  -- the print of a path that goes on with the one behind `as`
  module _ {T : Type 0} where
    pub longer_prints : (q : QSelfOf T) (w : token.As) (x : PathOf G) (c : Sep) (xs : List (PathSegmentOf G)) (cs : List Sep) → q.position ≡ length x.segments.0 → q.as_token ≡ Some w → q.gt_token ≡ gt → OneMore x.segments.0 x.segments.1 →
        qualified_by arguments style q (longer x c (xs, cs)) ≡ p.word w ++ (path_by (arguments AsWritten) x ++ (p.mark gt ++ (p.mark c ++ segments_by (arguments style) (xs, cs))))
    longer_prints q w x c xs cs at has is h =
        let ps = x.segments.0 in
        let all = longer x c (xs, cs) in
        let count : min q.position (length (ps ++ xs)) ≡ length ps = ap (λ n. min n (length (ps ++ xs))) at ∙ min-eq_left (rw (length-append) (omega arith)) in
        let some : min q.position (length (ps ++ xs)) ≡ 0 → ⊥ = λ e. let k = sym count ∙ e in omega (arith, h, k) in
        let rest = p.mark gt ++ (p.mark c ++ segments_by (arguments style) (xs, cs)) in
        by_some arguments style q all some
        ∙ ap (λ n. as_or_default q.as_token ++ (colon x.leading_colon ++ around_by arguments style q.gt_token n all.segments.0 all.segments.1)) count
        ∙ ap (λ z. as_or_default z ++ (colon x.leading_colon ++ around_by arguments style q.gt_token (length ps) all.segments.0 all.segments.1)) has
        ∙ ap (λ z. p.word w ++ (colon x.leading_colon ++ around_by arguments style z (length ps) all.segments.0 all.segments.1)) is
        ∙ ap (λ z. p.word w ++ (colon x.leading_colon ++ z)) (around_all ps x.segments.1 c xs cs h)
        ∙ ap (λ z. p.word w ++ z) (sym (append_assoc (colon x.leading_colon) (segments_by (arguments AsWritten) x.segments) rest))

module _ {A E : Type 0} (na : List A → List A) (ne : NormalValues E) (pa : List A → Print) (pe : Values E) (part : Manner → Parts A E) (again : Again na ne pa pe part) (style : PathStyle) (styled : StyledAgain na ne pa pe part style) where
  -- a path with the type that qualifies it
  abbrev pub Qualified : Type 0
  Qualified = QSelf A E × Path A E

  abbrev pub AreQualified : Qualified → Toks → Toks → Type 0
  AreQualified z l r = IsQualified part clearly style z.0 z.1 l r

  abbrev pub normal_qualified : Qualified → Qualified
  normal_qualified z = (normal.qself na ne z.0, normal.path na ne z.1)

  abbrev pub print_qualified : Qualified → Print
  print_qualified z = printing.qpath pa pe style (Some z.0) z.1

  -- ---- by a type

  abbrev Segs : Type 0
  Segs = Many (PathSegment A E) Sep

  abbrev ByType : Type 0
  ByType = token.Lt × (TypeTree A E × (token.Gt × (Sep × Segs)))

  abbrev make_by_type : ByType → Qualified
  make_by_type z = (qself_of z.0 z.1.0 0 None z.1.1.0, path_of (Some z.1.1.1.0) z.1.1.1.1)

  by_type_prints : (z : ByType) → print_qualified (make_by_type z) ≡ p.mark z.0 ++ (printing.ty pa pe z.1.0 ++ (p.mark z.1.1.0 ++ (p.mark z.1.1.1.0 ++ paths.segments pa pe style z.1.1.1.1)))
  by_type_prints z =
      let made = make_by_type z in
      ap (λ n. p.mark z.0 ++ (printing.ty pa pe z.1.0 ++ qualified_at (printing.arguments pa pe) style made.0 made.1 n)) (zero-min (length z.1.1.1.1.0))

  -- ---- by a type as a path

  abbrev ByPath : Type 0
  ByPath = token.Lt × (TypeTree A E × (token.As × (Path A E × (token.Gt × (Sep × Segs)))))

  abbrev make_by_path : ByPath → Qualified
  make_by_path z = (qself_of z.0 z.1.0 (length z.1.1.1.0.segments.0) (Some z.1.1.0) z.1.1.1.1.0, longer z.1.1.1.0 z.1.1.1.1.1.0 z.1.1.1.1.1.1)

  abbrev normal_by_path : ByPath → ByPath
  normal_by_path z = (z.0, (normal.ty na ne z.1.0, (z.1.1.0, (normal.path na ne z.1.1.1.0, (z.1.1.1.1.0, (z.1.1.1.1.1.0, many (normal.segment na ne) z.1.1.1.1.1.1))))))

  by_path_normal : (z : ByPath) → normal_qualified (make_by_path z) ≡ make_by_path (normal_by_path z)
  by_path_normal z =
      let x = z.1.1.1.0 in
      let ps = x.segments.0 in
      let c = z.1.1.1.1.1.0 in
      let all = z.1.1.1.1.1.1 in
      let f = normal.segment na ne in
      ap (λ n. (qself_of z.0 (normal.ty na ne z.1.0) n (Some z.1.1.0) z.1.1.1.1.0, path_of x.leading_colon (map f (ps ++ all.0), x.segments.1 ++ (c ∷ all.1)))) (sym (length-map ps f))
      ∙ ap (λ l. (qself_of z.0 (normal.ty na ne z.1.0) (length (map f ps)) (Some z.1.1.0) z.1.1.1.1.0, path_of x.leading_colon (l, x.segments.1 ++ (c ∷ all.1)))) (map-append f ps all.0)

  by_path_prints : (z : ByPath) → OneMore z.1.1.1.0.segments.0 z.1.1.1.0.segments.1 → print_qualified (make_by_path z) ≡
      p.mark z.0 ++ (printing.ty pa pe z.1.0 ++ (p.word z.1.1.0 ++ (paths.path pa pe AsWritten z.1.1.1.0 ++ (p.mark z.1.1.1.1.0 ++ (p.mark z.1.1.1.1.1.0 ++ paths.segments pa pe style z.1.1.1.1.1.1)))))
  by_path_prints z h =
      let all = z.1.1.1.1.1.1 in
      ap (λ k. p.mark z.0 ++ (printing.ty pa pe z.1.0 ++ k)) (longer_prints (printing.arguments pa pe) style z.1.1.1.1.0 (make_by_path z).0 z.1.1.0 z.1.1.1.0 z.1.1.1.1.1.0 all.0 all.1 refl refl refl h)

  path_one_more : (x : Path A E) (l r : Toks) → IsPath part plainly AsWritten x l r → OneMore x.segments.0 x.segments.1
  path_one_more x l r (a_path {xs = xs} {cs = cs} {m = m} i t) = one_more (λ (b : Bool). IsSegment part plainly AsWritten) (IsMark false) true xs cs m r t

  pub qualified_again : (q : QSelf A E) (x : Path A E) (l r : Toks) → IsQualified part plainly style q x l r → AgainFront AreQualified normal_qualified print_qualified (q, x) l r
  qualified_again q x l r (by_type {o = o} {e = e} {x = y} {g = g} {c = c} {xs = xs} {cs = cs} {m = m} {n = n} {k = k} {j = j} i t w d s) =
      made_front _ AreQualified _ normal_qualified _ print_qualified make_by_type (λ x l r i. by_type i.1 i.2.1 i.2.2.1 i.2.2.2.1 i.2.2.2.2) (λ z. refl) by_type_prints (o, (y, (g, (c, (xs, cs))))) l r
      (then_front (mark_front o l m i) (then_front (again.ty Plus e y m n t) (then_front (mark_front g n k w) (then_front (mark_front c k j d) (segments_again na ne pa pe part style styled xs cs j r s)))))
  qualified_again q x l r (by_type_as_path {o = o} {e = e} {x = y} {w = w} {p = z} {g = g} {c = c} {xs = xs} {cs = cs} {m = m} {n = n} {k = k} {j = j} {i = b} {h = h} i t a v u d f s) =
      let more = path_one_more z k j u in
      made_at _ AreQualified _ normal_qualified _ print_qualified make_by_path (o, (y, (w, (z, (g, (c, (xs, cs))))))) l r
      (λ l r i. by_type_as_path i.1 i.2.1 a i.2.2.1 i.2.2.2.1 i.2.2.2.2.1 i.2.2.2.2.2.1 i.2.2.2.2.2.2)
      (by_path_normal (o, (y, (w, (z, (g, (c, (xs, cs)))))))) (by_path_normal (normal_by_path (o, (y, (w, (z, (g, (c, (xs, cs))))))))) (by_path_prints (o, (y, (w, (z, (g, (c, (xs, cs))))))) more)
      (by_path_prints (normal_by_path (o, (y, (w, (z, (g, (c, (xs, cs)))))))) (length-map z.segments.0 (normal.segment na ne) ∙ more))
      (then_front (mark_front o l m i) (then_front (again.ty Plus e y m n t) (then_front (word_front w n k v) (then_front (path_again na ne pa pe part AsWritten (written_again na ne pa pe part again) z k j u)
      (then_front (mark_front g j b d) (then_front (mark_front c b h f) (segments_again na ne pa pe part style styled xs cs h r s)))))))

  -- ---- paths that a type may qualify

  abbrev pub AnyPath : Type 0
  AnyPath = Option (QSelf A E) × Path A E

  abbrev pub AreAny : AnyPath → Toks → Toks → Type 0
  AreAny z l r = IsAnyPath part clearly style z.0 z.1 l r

  abbrev pub normal_any : AnyPath → AnyPath
  normal_any z = (normal.optional_qself na ne z.0, normal.path na ne z.1)

  abbrev pub print_any : AnyPath → Print
  print_any z = printing.qpath pa pe style z.0 z.1

  pub any_path_again : (o : Option (QSelf A E)) (x : Path A E) (l r : Toks) → IsAnyPath part plainly style o x l r → AgainFront AreAny normal_any print_any (o, x) l r
  any_path_again o x l r (unqualified i) =
      made_front (IsPath part clearly style) AreAny (normal.path na ne) normal_any (paths.path pa pe style) print_any (λ z. (None, z)) (λ z l r i. unqualified i) (λ z. refl) (λ z. refl) x l r (path_again na ne pa pe part style styled x l r i)
  any_path_again o x l r (qualified {q = q} i) =
      made_front AreQualified AreAny normal_qualified normal_any print_qualified print_any (λ z. (Some z.0, z.1)) (λ z l r i. qualified i) (λ z. refl) (λ z. refl) (q, x) l r (qualified_again q x l r i)

  -- what does not begin with `try` prints no `try` at its start
  begins : (c : token.Lt) (l m k : Toks) (z : Print) → IsMark false c l m → token.sees_try (row (p.mark c ++ z) k) ≡ false
  begins c l m k z i = ap token.sees_try (row-append (p.mark c) z k) ∙ lt_no_try c (row (p.mark c) (row z k)) (row z k) (mark_again false c l m (row z k) i)

  qualified_no_try : (q : QSelf A E) (x : Path A E) (l r k : Toks) → IsQualified part plainly style q x l r → token.sees_try (row (print_qualified (q, x)) k) ≡ false
  qualified_no_try q x l r k (by_type {o = c} {m = m} i t w d s) = begins c l m k _ i
  qualified_no_try q x l r k (by_type_as_path {o = c} {m = m} i t a v u d f s) = begins c l m k _ i

  prints_no_try : (o : Option (QSelf A E)) (x : Path A E) (l r k : Toks) → token.sees_try l ≡ false → IsAnyPath part plainly style o x l r → token.sees_try (row (print_any (o, x)) k) ≡ false
  prints_no_try o x l r k h (unqualified i) = path_no_try na ne pa pe part style styled x l r k h i
  prints_no_try o x l r k h (qualified {q = q} i) = qualified_no_try q x l r k i

  pub no_try_again : (o : Option (QSelf A E)) (x : Path A E) (l r : Toks) → IsNoTry part plainly style o x l r → AgainFront (λ (z : AnyPath) (l r : Toks). IsNoTry part clearly style z.0 z.1 l r) normal_any print_any (o, x) l r
  no_try_again o x l r i =
      let k = any_path_again o x l r i.0 in
      record { spelt = λ h. (k.spelt h, prints_no_try o x l r h i.1 i.0); visible = k.visible; seen = k.seen; stays = k.stays; same = k.same }

-- ---- a path alone

module _ {A E : Type 0} (na : List A → List A) (ne : NormalValues E) (pa : List A → Print) (pe : Values E) (part : Manner → Parts A E) (again : Again na ne pa pe part) (supplied : SuppliedAgain na ne pa pe part)
    (attrs : Bool → List A → Toks → Toks → Type 0) (values : SpelledValues E) where
  pub path_alone_again : (x : TypePath A E) (l r : Toks) → IsPathAlone attrs values part plainly x l r → AgainFront (IsPathAlone attrs values part clearly) (normal.path_type na ne) (printing.path_type pa pe) x l r
  path_alone_again x l r (a_path_alone {o = o} {p = y} i) =
      let styled = written_again na ne pa pe part again in
      made_front (AreAny na ne pa pe part again AsWritten styled) (IsPathAlone attrs values part clearly) (normal_any na ne pa pe part again AsWritten styled) (normal.path_type na ne) (print_any na ne pa pe part again AsWritten styled) (printing.path_type pa pe)
      (λ z. qualified_with [] z.0 z.1) (λ z l r i. a_path_alone i)
      (λ z. path_type_normal na ne [] z.0 z.1 ∙ ap (λ k. qualified_with k (normal.optional_qself na ne z.0) (normal.path na ne z.1)) supplied.own) (λ z. path_type_parts pa pe [] z.0 z.1) (o, y) l r
      (any_path_again na ne pa pe part again AsWritten styled o y l r i)
