-- The arguments of a pointer to a function are read turn by turn, of any number of turns that are left.
use Rattle.std.proofs.Common.{◌≡◌, ℕ, zero, suc, ◌<◌, ◌≤◌, Bool, true, false, List, [], ◌∷◌, ◌++◌, Option, Some, None, Ok, Err, refl, sym, ◌∙◌, ap, subst, arith, if◌then◌else◌, append_assoc, append-nil}
use Rattle.token_core.specs.Trees.{TokenStream}
use Rattle.token_core.specs.Refusal.{Refusal}
use Rattle.token_core.specs.Stream.{Stream}
use Rattle.token_core.specs.Reads.{Reader, Outcome, and_then, ◌>>=◌, ◌<$>◌, pure, is_done}
use Rattle.token_core.specs.Loops.{size, Many, onto}
use Rattle.token_core.specs.Tokens as token
use Rattle.syn_forms.specs.inputs.Reading.{Name, Dots, Inputs, no_inputs, one_input, put_input, argument, sees_dots, dots, inputs_from, inputs}

module _ {B I : Type 0} where
  -- what was found, before what is read
  abbrev pub begun : Many I token.Comma → Outcome (Inputs B I) → Outcome (Inputs B I)
  begun v (Ok p) = Ok ((onto v p.0.0, p.0.1), p.1)
  begun v (Err e) = Err e

  -- before the first argument
  pub none_yet : (o : Outcome (Inputs B I)) → begun ([], []) o ≡ o
  none_yet (Ok p) = refl
  none_yet (Err e) = refl

  begun-put : (v : Many I token.Comma) (x : I) (c : token.Comma) (o : Outcome (Inputs B I)) → begun v (and_then o (λ more. pure (put_input x c more))) ≡ begun (v.0 ++ x ∷ [], v.1 ++ c ∷ []) o
  begun-put v x c (Err e) = refl
  begun-put v x c (Ok q) = ap (λ z. Ok (((z, v.1 ++ c ∷ q.0.0.1), q.0.1), q.1)) (sym (append_assoc v.0 (x ∷ []) q.0.0.0)) ∙ ap (λ z. Ok ((((v.0 ++ x ∷ []) ++ q.0.0.0, z), q.0.1), q.1)) (sym (append_assoc v.1 (c ∷ []) q.0.0.1))

  begun-none : (v : Many I token.Comma) (d : Option (List B × Dots)) (s : Stream) → begun v (Ok (no_inputs d, s)) ≡ Ok ((v, d), s)
  begun-none v d s = ap (λ z. Ok (((z, v.1 ++ []), d), s)) (append-nil v.0) ∙ ap (λ z. Ok (((v.0, z), d), s)) (append-nil v.1)

module _ {B A I : Type 0} (make : List B → Name → A → I) (attrs : Reader (List B)) (value : Reader A) (verbatim : TokenStream → A) where
  abbrev Goes : ℕ → Bool → Reader (Inputs B I)
  Goes = inputs_from make attrs value verbatim

  abbrev after_comma : ℕ → I → token.Comma → Reader (Inputs B I)
  after_comma n y c = Goes n false >>= (λ more. pure (put_input y c more))

  abbrev after_argument : ℕ → List B → Name × A → Reader (Inputs B I)
  after_argument n a x = λ t. (if is_done t.rest then pure (one_input (make a x.0 x.1)) else (token.comma >>= after_comma n (make a x.0 x.1))) t

  abbrev after_attrs : ℕ → Bool → List B → Reader (Inputs B I)
  after_attrs n b a = λ t. (if sees_dots t.rest then ((λ d. no_inputs (Some (a, d))) <$> dots) else (argument value verbatim b >>= after_argument n a)) t

  abbrev turn : ℕ → Bool → Bool → Reader (Inputs B I)
  turn n b over = if over then pure (no_inputs None) else (attrs >>= after_attrs n b)

  -- attributes
  pub record Borne (s t : Stream) (a : List B) : Type 0 where
    pub goes : is_done s.rest ≡ false
    pub reads : attrs s ≡ Ok (a, t)

  borne : (n : ℕ) (v : Many I token.Comma) (b : Bool) (s t : Stream) (a : List B) → Borne s t a → begun v (Goes (suc n) b s) ≡ begun v (after_attrs n b a t)
  borne n v b s t a h = ap (λ (z : Bool). begun v (turn n b z s)) h.goes ∙ ap (λ (z : Outcome (List B)). begun v (and_then z (after_attrs n b))) h.reads

  abbrev chosen : ℕ → Bool → List B → Bool → Reader (Inputs B I)
  chosen n b a last = if last then ((λ d. no_inputs (Some (a, d))) <$> dots) else (argument value verbatim b >>= after_argument n a)

  dotted : (n : ℕ) (v : Many I token.Comma) (b : Bool) (s t : Stream) (a : List B) → Borne s t a → sees_dots t.rest ≡ true → begun v (Goes (suc n) b s) ≡ begun v (and_then (dots t) (λ d. pure (no_inputs (Some (a, d)))))
  dotted n v b s t a h k = borne n v b s t a h ∙ ap (λ (z : Bool). begun v (chosen n b a z t)) k

  -- `...`
  ended : (n : ℕ) (v : Many I token.Comma) (b : Bool) (s t u : Stream) (a : List B) (d : Dots) → Borne s t a → sees_dots t.rest ≡ true → dots t ≡ Ok (d, u) → begun v (Goes (suc n) b s) ≡ Ok ((v, Some (a, d)), u)
  ended n v b s t u a d h k g = dotted n v b s t a h k ∙ ap (λ (z : Outcome Dots). begun v (and_then z (λ d. pure (no_inputs (Some (a, d)))))) g ∙ begun-none v (Some (a, d)) u

  undotted : (n : ℕ) (v : Many I token.Comma) (b : Bool) (s t : Stream) (a : List B) → Borne s t a → sees_dots t.rest ≡ false → begun v (Goes (suc n) b s) ≡ begun v (and_then (argument value verbatim b t) (after_argument n a))
  undotted n v b s t a h k = borne n v b s t a h ∙ ap (λ (z : Bool). begun v (chosen n b a z t)) k

  -- an argument with its attributes
  pub record Argued (b : Bool) (s t u : Stream) (a : List B) (x : Name × A) : Type 0 where
    pub bears : Borne s t a
    pub no_dots : sees_dots t.rest ≡ false
    pub reads : argument value verbatim b t ≡ Ok (x, u)

  argued : (n : ℕ) (v : Many I token.Comma) (b : Bool) (s t u : Stream) (a : List B) (x : Name × A) → Argued b s t u a x → begun v (Goes (suc n) b s) ≡ begun v (after_argument n a x u)
  argued n v b s t u a x h = undotted n v b s t a h.bears h.no_dots ∙ ap (λ (z : Outcome (Name × A)). begun v (and_then z (after_argument n a))) h.reads

  abbrev followed : ℕ → I → Bool → Reader (Inputs B I)
  followed n y ends = if ends then pure (one_input y) else (token.comma >>= after_comma n y)

  -- the last argument
  last : (n : ℕ) (v : Many I token.Comma) (b : Bool) (s t u : Stream) (a : List B) (x : Name × A) → Argued b s t u a x → is_done u.rest ≡ true → begun v (Goes (suc n) b s) ≡ Ok (((v.0 ++ make a x.0 x.1 ∷ [], v.1), None), u)
  last n v b s t u a x h k = argued n v b s t u a x h ∙ ap (λ (z : Bool). begun v (followed n (make a x.0 x.1) z u)) k ∙ ap (λ z. Ok (((v.0 ++ make a x.0 x.1 ∷ [], z), None), u)) (append-nil v.1)

  marked : (n : ℕ) (v : Many I token.Comma) (b : Bool) (s t u : Stream) (a : List B) (x : Name × A) → Argued b s t u a x → is_done u.rest ≡ false → begun v (Goes (suc n) b s) ≡ begun v (and_then (token.comma u) (after_comma n (make a x.0 x.1)))
  marked n v b s t u a x h k = argued n v b s t u a x h ∙ ap (λ (z : Bool). begun v (followed n (make a x.0 x.1) z u)) k

  -- an argument and a comma
  on : (n : ℕ) (v : Many I token.Comma) (b : Bool) (s t u w : Stream) (a : List B) (x : Name × A) (c : token.Comma) → Argued b s t u a x → is_done u.rest ≡ false → token.comma u ≡ Ok (c, w) →
      begun v (Goes (suc n) b s) ≡ begun (v.0 ++ make a x.0 x.1 ∷ [], v.1 ++ c ∷ []) (Goes n false w)
  on n v b s t u w a x c h k g = marked n v b s t u a x h k ∙ ap (λ (z : Outcome token.Comma). begun v (and_then z (after_comma n (make a x.0 x.1)))) g ∙ begun-put v (make a x.0 x.1) c (Goes n false w)

  -- what is told of the arguments after some turns, with more turns left than there are tokens
  pub record Told (whole : Outcome (Inputs B I)) (v : Many I token.Comma) (b : Bool) (s : Stream) : Type 0 where
    pub turns : ℕ
    pub enough : size s.rest ≤ turns
    pub told : whole ≡ begun v (Goes (suc turns) b s)

  -- before the first turn
  pub start : (s : Stream) → Told (inputs make attrs value verbatim s) ([], []) true s
  unfolding inputs
  start s = record { turns = size s.rest; enough = omega arith; told = sym (none_yet (Goes (suc (size s.rest)) true s)) }

  next_at : (n : ℕ) (o : Outcome (Inputs B I)) (v : Many I token.Comma) (b : Bool) (s t u w : Stream) (a : List B) (x : Name × A) (c : token.Comma) → size s.rest ≤ n → o ≡ begun v (Goes (suc n) b s) → Argued b s t u a x → is_done u.rest ≡ false → token.comma u ≡ Ok (c, w) → size w.rest < size s.rest →
      Told o (v.0 ++ make a x.0 x.1 ∷ [], v.1 ++ c ∷ []) false w
  next_at zero o v b s t u w a x c le e h k g less = absurd (omega (arith, le, less))
  next_at (suc n) o v b s t u w a x c le e h k g less = record { turns = n; enough = omega (arith, le, less); told = e ∙ on (suc n) v b s t u w a x c h k g }

  -- after one turn more
  pub next : (o : Outcome (Inputs B I)) (v y : Many I token.Comma) (b : Bool) (s t u w : Stream) (a : List B) (x : Name × A) (c : token.Comma) → Told o v b s → Argued b s t u a x → is_done u.rest ≡ false → token.comma u ≡ Ok (c, w) → size w.rest < size s.rest →
      y ≡ (v.0 ++ make a x.0 x.1 ∷ [], v.1 ++ c ∷ []) → Told o y false w
  next o v y b s t u w a x c i h k g less e = subst (λ z. Told o z false w) (sym e) (next_at i.turns o v b s t u w a x c i.enough i.told h k g less)

  -- the arguments end in `...`
  pub told_ended : (o : Outcome (Inputs B I)) (v : Many I token.Comma) (b : Bool) (s t u : Stream) (a : List B) (d : Dots) → Told o v b s → Borne s t a → sees_dots t.rest ≡ true → dots t ≡ Ok (d, u) → o ≡ Ok ((v, Some (a, d)), u)
  told_ended o v b s t u a d i h k g = i.told ∙ ended i.turns v b s t u a d h k g

  -- the arguments end in one without a comma
  pub told_last : (o : Outcome (Inputs B I)) (v w : Many I token.Comma) (b : Bool) (s t u : Stream) (a : List B) (x : Name × A) → Told o v b s → Argued b s t u a x → is_done u.rest ≡ true → w ≡ (v.0 ++ make a x.0 x.1 ∷ [], v.1) → o ≡ Ok ((w, None), u)
  told_last o v w b s t u a x i h k e = i.told ∙ last i.turns v b s t u a x h k ∙ ap (λ z. Ok ((z, None), u)) (sym e)

  -- there are no more
  pub told_over : (o : Outcome (Inputs B I)) (v : Many I token.Comma) (b : Bool) (s : Stream) → Told o v b s → is_done s.rest ≡ true → o ≡ Ok ((v, None), s)
  told_over o v b s i h = i.told ∙ ap (λ (z : Bool). begun v (turn i.turns b z s)) h ∙ begun-none v None s

  -- attributes, `...`, an argument and a comma that are refused
  pub no_attrs : (o : Outcome (Inputs B I)) (v : Many I token.Comma) (b : Bool) (s : Stream) (e : Refusal) → Told o v b s → is_done s.rest ≡ false → attrs s ≡ Err e → o ≡ Err e
  no_attrs o v b s e i h k = i.told ∙ ap (λ (z : Bool). begun v (turn i.turns b z s)) h ∙ ap (λ (z : Outcome (List B)). begun v (and_then z (after_attrs i.turns b))) k

  pub no_dots_read : (o : Outcome (Inputs B I)) (v : Many I token.Comma) (b : Bool) (s t : Stream) (a : List B) (e : Refusal) → Told o v b s → Borne s t a → sees_dots t.rest ≡ true → dots t ≡ Err e → o ≡ Err e
  no_dots_read o v b s t a e i h k g = i.told ∙ dotted i.turns v b s t a h k ∙ ap (λ (z : Outcome Dots). begun v (and_then z (λ d. pure (no_inputs (Some (a, d)))))) g

  pub no_argument : (o : Outcome (Inputs B I)) (v : Many I token.Comma) (b : Bool) (s t : Stream) (a : List B) (e : Refusal) → Told o v b s → Borne s t a → sees_dots t.rest ≡ false → argument value verbatim b t ≡ Err e → o ≡ Err e
  no_argument o v b s t a e i h k g = i.told ∙ undotted i.turns v b s t a h k ∙ ap (λ (z : Outcome (Name × A)). begun v (and_then z (after_argument i.turns a))) g

  pub no_comma : (o : Outcome (Inputs B I)) (v : Many I token.Comma) (b : Bool) (s t u : Stream) (a : List B) (x : Name × A) (e : Refusal) → Told o v b s → Argued b s t u a x → is_done u.rest ≡ false → token.comma u ≡ Err e → o ≡ Err e
  no_comma o v b s t u a x e i h k g = i.told ∙ marked i.turns v b s t u a x h k ∙ ap (λ (z : Outcome token.Comma). begun v (and_then z (after_comma i.turns (make a x.0 x.1)))) g
