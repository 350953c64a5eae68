-- The fields of a struct's pattern are read turn by turn, of any number of turns that are left.
use Rattle.std.proofs.Common.{◌≡◌, ℕ, zero, suc, ◌<◌, ◌≤◌, Bool, true, false, [], ◌∷◌, ◌++◌, Option, Some, None, Ok, Err, refl, sym, ◌∙◌, ap, subst, arith, if◌then◌else◌, append_assoc, append-nil}
use Rattle.syn_pat.proofs.pat_laws.words.Tokens.{Many, size, Outcome, Reader, and_then, ◌>>=◌, is_done, pure, Refusal, Stream}
use Rattle.syn_pat.proofs.pat_laws.words.Paths.{Place}
use Rattle.syn_pat.proofs.pat_laws.words.Forms.{comma}
use Rattle.syn_pat.proofs.pat_laws.words.Attributes.{outer}
use Rattle.syn_pat.proofs.pat_laws.words.Types.{Comma}
use Rattle.syn_pat.proofs.pat_laws.words.Patterns.{Attrs, PatRest, rest_of, PatOver, ReadersOver, field, fields, fields_from, no_fields, one_field, put_field, FieldPatOf}
use Rattle.syn_attr.specs.attr.Attrs.{Attribute as Attr}
use Rattle.syn_pat.specs.pat.Reading.{FieldsOver}
use Rattle.token_core.specs.Loops.{onto}
use Rattle.token_core.specs.Reads.{◌<$>◌}
use Rattle.token_core.specs.Tokens as token

module _ {X G Q T : Type 0} where
  -- what was found, before what is read
  abbrev pub begun : Many (FieldPatOf (PatOver X G Q T) (Attr X)) Comma → Outcome (FieldsOver X G Q T) → Outcome (FieldsOver X G Q T)
  begun v (Ok p) = Ok ((onto v p.0.0, p.0.1), p.1)
  begun v (Err e) = Err e

  -- before the first field
  pub none_yet : (o : Outcome (FieldsOver X G Q T)) → begun ([], []) o ≡ o
  none_yet (Ok p) = refl
  none_yet (Err e) = refl

  begun-put : (v : Many (FieldPatOf (PatOver X G Q T) (Attr X)) Comma) (x : FieldPatOf (PatOver X G Q T) (Attr X)) (c : Comma) (o : Outcome (FieldsOver X G Q T)) → begun v (and_then o (λ more. pure (put_field x c more))) ≡ begun (v.0 ++ x ∷ [], v.1 ++ c ∷ []) o
  begun-put v x c (Err e) = refl
  begun-put v x c (Ok q) = ap (λ z. Ok (((z, v.1 ++ c ∷ q.0.0.1), q.0.1), q.1)) (sym (append_assoc v.0 (x ∷ []) q.0.0.0)) ∙ ap (λ z. Ok ((((v.0 ++ x ∷ []) ++ q.0.0.0, z), q.0.1), q.1)) (sym (append_assoc v.1 (c ∷ []) q.0.0.1))

  begun-none : (v : Many (FieldPatOf (PatOver X G Q T) (Attr X)) Comma) (d : Option (PatRest X)) (s : Stream) → begun v (Ok (no_fields d, s)) ≡ Ok ((v, d), s)
  begun-none v d s = ap (λ z. Ok (((z, v.1 ++ []), d), s)) (append-nil v.0) ∙ ap (λ z. Ok (((v.0, z), d), s)) (append-nil v.1)

module _ {X G Q T : Type 0} (supplied : Place → Reader X) (r : ReadersOver X G Q T) where
  abbrev Goes : ℕ → Reader (FieldsOver X G Q T)
  Goes = fields_from supplied r

  abbrev after_comma : ℕ → FieldPatOf (PatOver X G Q T) (Attr X) → Comma → Reader (FieldsOver X G Q T)
  after_comma n y c = Goes n >>= (λ more. pure (put_field y c more))

  abbrev after_field : ℕ → FieldPatOf (PatOver X G Q T) (Attr X) → Reader (FieldsOver X G Q T)
  after_field n y = λ t. (if is_done t.rest then pure (one_field y) else (comma >>= after_comma n y)) t

  abbrev chosen : ℕ → Attrs X → Bool → Reader (FieldsOver X G Q T)
  chosen n a last = if last then ((λ d. no_fields (Some (rest_of a d))) <$> token.dot_dot) else (field r a >>= after_field n)

  abbrev after_attrs : ℕ → Attrs X → Reader (FieldsOver X G Q T)
  after_attrs n a = λ t. chosen n a (token.sees_dot_dot t.rest) t

  abbrev turn : ℕ → Bool → Reader (FieldsOver X G Q T)
  turn n over = if over then pure (no_fields None) else (outer supplied >>= after_attrs n)

  -- attributes
  pub record Borne (s t : Stream) (a : Attrs X) : Type 0 where
    pub goes : is_done s.rest ≡ false
    pub reads : outer supplied s ≡ Ok (a, t)

  borne : (n : ℕ) (v : Many (FieldPatOf (PatOver X G Q T) (Attr X)) Comma) (s t : Stream) (a : Attrs X) → Borne s t a → begun v (Goes (suc n) s) ≡ begun v (after_attrs n a t)
  borne n v s t a h = ap (λ (z : Bool). begun v (turn n z s)) h.goes ∙ ap (λ (z : Outcome (Attrs X)). begun v (and_then z (after_attrs n))) h.reads

  dotted : (n : ℕ) (v : Many (FieldPatOf (PatOver X G Q T) (Attr X)) Comma) (s t : Stream) (a : Attrs X) → Borne s t a → token.sees_dot_dot t.rest ≡ true → begun v (Goes (suc n) s) ≡ begun v (and_then (token.dot_dot t) (λ d. pure (no_fields (Some (rest_of a d)))))
  dotted n v s t a h k = borne n v s t a h ∙ ap (λ (z : Bool). begun v (chosen n a z t)) k

  -- `..`
  ended : (n : ℕ) (v : Many (FieldPatOf (PatOver X G Q T) (Attr X)) Comma) (s t u : Stream) (a : Attrs X) (d : token.DotDot) → Borne s t a → token.sees_dot_dot t.rest ≡ true → token.dot_dot t ≡ Ok (d, u) → begun v (Goes (suc n) s) ≡ Ok ((v, Some (rest_of a d)), u)
  ended n v s t u a d h k g = dotted n v s t a h k ∙ ap (λ (z : Outcome token.DotDot). begun v (and_then z (λ d. pure (no_fields (Some (rest_of a d)))))) g ∙ begun-none v (Some (rest_of a d)) u

  undotted : (n : ℕ) (v : Many (FieldPatOf (PatOver X G Q T) (Attr X)) Comma) (s t : Stream) (a : Attrs X) → Borne s t a → token.sees_dot_dot t.rest ≡ false → begun v (Goes (suc n) s) ≡ begun v (and_then (field r a t) (after_field n))
  undotted n v s t a h k = borne n v s t a h ∙ ap (λ (z : Bool). begun v (chosen n a z t)) k

  -- a field with its attributes
  pub record Fielded (s t u : Stream) (a : Attrs X) (x : FieldPatOf (PatOver X G Q T) (Attr X)) : Type 0 where
    pub bears : Borne s t a
    pub no_dots : token.sees_dot_dot t.rest ≡ false
    pub reads : field r a t ≡ Ok (x, u)

  fielded : (n : ℕ) (v : Many (FieldPatOf (PatOver X G Q T) (Attr X)) Comma) (s t u : Stream) (a : Attrs X) (x : FieldPatOf (PatOver X G Q T) (Attr X)) → Fielded s t u a x → begun v (Goes (suc n) s) ≡ begun v (after_field n x u)
  fielded n v s t u a x h = undotted n v s t a h.bears h.no_dots ∙ ap (λ (z : Outcome (FieldPatOf (PatOver X G Q T) (Attr X))). begun v (and_then z (after_field n))) h.reads

  abbrev followed : ℕ → FieldPatOf (PatOver X G Q T) (Attr X) → Bool → Reader (FieldsOver X G Q T)
  followed n y ends = if ends then pure (one_field y) else (comma >>= after_comma n y)

  -- the last field
  last : (n : ℕ) (v : Many (FieldPatOf (PatOver X G Q T) (Attr X)) Comma) (s t u : Stream) (a : Attrs X) (x : FieldPatOf (PatOver X G Q T) (Attr X)) → Fielded s t u a x → is_done u.rest ≡ true → begun v (Goes (suc n) s) ≡ Ok (((v.0 ++ x ∷ [], v.1), None), u)
  last n v s t u a x h k = fielded n v s t u a x h ∙ ap (λ (z : Bool). begun v (followed n x z u)) k ∙ ap (λ z. Ok (((v.0 ++ x ∷ [], z), None), u)) (append-nil v.1)

  marked : (n : ℕ) (v : Many (FieldPatOf (PatOver X G Q T) (Attr X)) Comma) (s t u : Stream) (a : Attrs X) (x : FieldPatOf (PatOver X G Q T) (Attr X)) → Fielded s t u a x → is_done u.rest ≡ false → begun v (Goes (suc n) s) ≡ begun v (and_then (comma u) (after_comma n x))
  marked n v s t u a x h k = fielded n v s t u a x h ∙ ap (λ (z : Bool). begun v (followed n x z u)) k

  -- a field and a comma
  on : (n : ℕ) (v : Many (FieldPatOf (PatOver X G Q T) (Attr X)) Comma) (s t u w : Stream) (a : Attrs X) (x : FieldPatOf (PatOver X G Q T) (Attr X)) (c : Comma) → Fielded s t u a x → is_done u.rest ≡ false → comma u ≡ Ok (c, w) →
      begun v (Goes (suc n) s) ≡ begun (v.0 ++ x ∷ [], v.1 ++ c ∷ []) (Goes n w)
  on n v s t u w a x c h k g = marked n v s t u a x h k ∙ ap (λ (z : Outcome Comma). begun v (and_then z (after_comma n x))) g ∙ begun-put v x c (Goes n w)

  -- what is told of the fields after some turns, with more turns left than there are tokens
  pub record Told (whole : Outcome (FieldsOver X G Q T)) (v : Many (FieldPatOf (PatOver X G Q T) (Attr X)) Comma) (s : Stream) : Type 0 where
    pub turns : ℕ
    pub enough : size s.rest ≤ turns
    pub told : whole ≡ begun v (Goes (suc turns) s)

  -- before the first turn
  pub start : (s : Stream) → Told (fields supplied r s) ([], []) s
  unfolding fields
  start s = record { turns = size s.rest; enough = omega arith; told = sym (none_yet (Goes (suc (size s.rest)) s)) }

  next_at : (n : ℕ) (o : Outcome (FieldsOver X G Q T)) (v : Many (FieldPatOf (PatOver X G Q T) (Attr X)) Comma) (s t u w : Stream) (a : Attrs X) (x : FieldPatOf (PatOver X G Q T) (Attr X)) (c : Comma) → size s.rest ≤ n → o ≡ begun v (Goes (suc n) s) → Fielded s t u a x → is_done u.rest ≡ false → comma u ≡ Ok (c, w) → size w.rest < size s.rest →
      Told o (v.0 ++ x ∷ [], v.1 ++ c ∷ []) w
  next_at zero o v s t u w a x c le e h k g less = absurd (omega (arith, le, less))
  next_at (suc n) o v s t u w a x c le e h k g less = record { turns = n; enough = omega (arith, le, less); told = e ∙ on (suc n) v s t u w a x c h k g }

  -- after one turn more
  pub next : (o : Outcome (FieldsOver X G Q T)) (v y : Many (FieldPatOf (PatOver X G Q T) (Attr X)) Comma) (s t u w : Stream) (a : Attrs X) (x : FieldPatOf (PatOver X G Q T) (Attr X)) (c : Comma) → Told o v s → Fielded s t u a x → is_done u.rest ≡ false → comma u ≡ Ok (c, w) → size w.rest < size s.rest →
      y ≡ (v.0 ++ x ∷ [], v.1 ++ c ∷ []) → Told o y w
  next o v y s t u w a x c i h k g less e = subst (λ z. Told o z w) (sym e) (next_at i.turns o v s t u w a x c i.enough i.told h k g less)

  -- nothing follows
  over : (n : ℕ) (v : Many (FieldPatOf (PatOver X G Q T) (Attr X)) Comma) (s : Stream) → is_done s.rest ≡ true → begun v (Goes (suc n) s) ≡ Ok ((v, None), s)
  over n v s k = ap (λ (z : Bool). begun v (turn n z s)) k ∙ begun-none v None s

  pub told_over : (o : Outcome (FieldsOver X G Q T)) (v : Many (FieldPatOf (PatOver X G Q T) (Attr X)) Comma) (s : Stream) → Told o v s → is_done s.rest ≡ true → o ≡ Ok ((v, None), s)
  told_over o v s i k = i.told ∙ over i.turns v s k

  -- the fields end in `..`
  pub told_ended : (o : Outcome (FieldsOver X G Q T)) (v : Many (FieldPatOf (PatOver X G Q T) (Attr X)) Comma) (s t u : Stream) (a : Attrs X) (d : token.DotDot) → Told o v s → Borne s t a → token.sees_dot_dot t.rest ≡ true → token.dot_dot t ≡ Ok (d, u) → o ≡ Ok ((v, Some (rest_of a d)), u)
  told_ended o v s t u a d i h k g = i.told ∙ ended i.turns v s t u a d h k g

  -- the fields end in one without a comma
  pub told_last : (o : Outcome (FieldsOver X G Q T)) (v w : Many (FieldPatOf (PatOver X G Q T) (Attr X)) Comma) (s t u : Stream) (a : Attrs X) (x : FieldPatOf (PatOver X G Q T) (Attr X)) → Told o v s → Fielded s t u a x → is_done u.rest ≡ true → w ≡ (v.0 ++ x ∷ [], v.1) → o ≡ Ok ((w, None), u)
  told_last o v w s t u a x i h k e = i.told ∙ last i.turns v s t u a x h k ∙ ap (λ z. Ok ((z, None), u)) (sym e)

  -- the comma behind a field is refused
  pub told_refused : (o : Outcome (FieldsOver X G Q T)) (v : Many (FieldPatOf (PatOver X G Q T) (Attr X)) Comma) (s t u : Stream) (a : Attrs X) (x : FieldPatOf (PatOver X G Q T) (Attr X)) (e : Refusal) → Told o v s → Fielded s t u a x → is_done u.rest ≡ false → comma u ≡ Err e → o ≡ Err e
  told_refused o v s t u a x e i h k g = i.told ∙ marked i.turns v s t u a x h k ∙ ap (λ (z : Outcome Comma). begun v (and_then z (after_comma i.turns x))) g

  -- the attributes of a field are refused
  pub no_attrs : (o : Outcome (FieldsOver X G Q T)) (v : Many (FieldPatOf (PatOver X G Q T) (Attr X)) Comma) (s : Stream) (e : Refusal) → Told o v s → is_done s.rest ≡ false → outer supplied s ≡ Err e → o ≡ Err e
  no_attrs o v s e i h k = i.told ∙ ap (λ (z : Bool). begun v (turn i.turns z s)) h ∙ ap (λ (z : Outcome (Attrs X)). begun v (and_then z (after_attrs i.turns))) k

  -- `..` is refused
  pub no_dots_read : (o : Outcome (FieldsOver X G Q T)) (v : Many (FieldPatOf (PatOver X G Q T) (Attr X)) Comma) (s t : Stream) (a : Attrs X) (e : Refusal) → Told o v s → Borne s t a → token.sees_dot_dot t.rest ≡ true → token.dot_dot t ≡ Err e → o ≡ Err e
  no_dots_read o v s t a e i h k g = i.told ∙ dotted i.turns v s t a h k ∙ ap (λ (z : Outcome token.DotDot). begun v (and_then z (λ d. pure (no_fields (Some (rest_of a d)))))) g

  -- a field is refused
  pub no_field : (o : Outcome (FieldsOver X G Q T)) (v : Many (FieldPatOf (PatOver X G Q T) (Attr X)) Comma) (s t : Stream) (a : Attrs X) (e : Refusal) → Told o v s → Borne s t a → token.sees_dot_dot t.rest ≡ false → field r a t ≡ Err e → o ≡ Err e
  no_field o v s t a e i h k g = i.told ∙ undotted i.turns v s t a h k ∙ ap (λ (z : Outcome (FieldPatOf (PatOver X G Q T) (Attr X))). begun v (and_then z (after_field i.turns))) g
