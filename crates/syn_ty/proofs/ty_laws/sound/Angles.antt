-- Where arguments in angle brackets are read, they are spelt by the rules of the whole grammar, over the same law of an argument: the turn of the knot that reads them, and the reader that wants the `::`.
use Rattle.std.proofs.Common.{◌≡◌, Bool, true, false, not, Option, Some, None, Ok, refl, sym, ◌∙◌, subst, arith}
use Rattle.syn_ty.proofs.ty_laws.words.Tokens.{AreListed, Anywhere, Many, terminated, Reader, optional, Visible, IsMark, Stream, Toks}
use Rattle.syn_ty.proofs.ty_laws.words.Paths.{Expr}
use Rattle.syn_ty.proofs.ty_laws.words.Forms.{comma, sees_gt}
use Rattle.syn_ty.proofs.ty_laws.words.Types.{Sep, angle_of, arguments_step, Styled, IsAngle, an_angle, IsArguments, Manner, loosely, Parts, Readers, an_argument, Relation, IsOptional, present, AngleBracketed, GenericArgument, PathArguments}
use Rattle.token_core.specs.Tokens as token
use Rattle.token_core.proofs.Listings.{listed_sound, listed_visible}
use Rattle.token_core.proofs.MarkSpells.{mark_seen, mark_sound, mark_visible}
use Rattle.token_core.proofs.Took.{mapped}
use Rattle.token_core.proofs.Turns.{chain, same_pair}
use Rattle.syn_path.proofs.Words.{TookOne}
use Rattle.syn_forms.specs.heads.Reading as heads
use Rattle.syn_forms.specs.tokens.Reading.{gt, lt}
use Rattle.syn_forms.proofs.tokens_laws.Fronts.{took_as}
use Rattle.syn_ty.specs.declared.path.PathArgumentsOf.TheVariants as a
use Rattle.syn_ty.specs.path.Reading.{angle_bracketed, arguments_after, turbofish}
use Rattle.syn_ty.specs.path.Spelling.{some_arguments}
use Rattle.syn_ty.proofs.ty_laws.sound.Paths.{sep_took}
use Rattle.syn_ty.proofs.ty_laws.sound.Leaves.{comma_seen, comma_took, optional_sound}

-- ---- values between angle marks

module _ {G : Type 0} (V : Relation G) (value : Reader G) (took : (s t : Stream) (x : G) → Visible s.rest → value s ≡ Ok (x, t) → TookOne V s t x) where
  abbrev Values : Type 0
  Values = Many G token.Comma

  abbrev All : Values → Toks → Toks → Type 0
  All w l k = AreListed (λ (_ : Bool). V) (IsMark false) Anywhere true w.0 w.1 l k

  abbrev values : Reader Values
  values = terminated sees_gt value comma

  value_took : (s t : Stream) (x : G) → Visible s.rest → value s ≡ Ok (x, t) → t.left ≡ None → (s.left ≡ None) × V x s.rest t.rest
  value_took s t x v e h = let k = took s t x v e in (k.left h, k.spelt h)

  values_sound : (s t : Stream) (w : Values) → Visible s.rest → values s ≡ Ok (w, t) → t.left ≡ None → (s.left ≡ None) × All w s.rest t.rest
  values_sound s t w v e h =
      listed_sound (λ (_ : Bool). sees_gt) (λ (_ : Bool). value) (λ l. not (sees_gt l)) comma (λ (_ : Bool). V) (IsMark false) Anywhere (λ (z : Stream). z.left ≡ None)
      (λ c l k. tt) (λ c b d x u i. (took b d x u i).seen) comma_seen (λ c b d x u k i. value_took b d x u i) (λ b d x u k i. comma_took b d x u i) true s t w v e h

  values_seen : (s t : Stream) (w : Values) → Visible s.rest → values s ≡ Ok (w, t) → Visible t.rest
  values_seen s t w v e =
      listed_visible (λ (_ : Bool). sees_gt) (λ (_ : Bool). value) (λ l. not (sees_gt l)) comma (λ (_ : Bool). V) (IsMark false) Anywhere (λ (z : Stream). z.left ≡ None)
      (λ c l k. tt) (λ c b d x u i. (took b d x u i).seen) comma_seen (λ c b d x u k i. value_took b d x u i) (λ b d x u k i. comma_took b d x u i) true s t w v e

  -- `<`, the values and `>`
  abbrev pub IsAngled : heads.Angled G → Toks → Toks → Type 0
  IsAngled x l k = (m : Toks) × (n : Toks) × IsMark false x.0 l m × All x.1 m n × IsMark false x.2 n k

  pub angled_took : (s t : Stream) (x : heads.Angled G) → Visible s.rest → heads.angled value s ≡ Ok (x, t) → TookOne IsAngled s t x
  unfolding heads.angled
  angled_took s t x v e =
      let d = chain (lt s) _ x t e in
      let kd = mark_sound {n = 2} {k = 1} refl (omega arith) s d.rest d.value v d.was in
      let vd = mark_visible false {n = 2} {k = 1} d.value s.rest d.rest.rest kd.spelt v in
      let f = chain (values d.rest) _ x t d.goes in
      let vf = values_seen d.rest f.rest f.value vd f.was in
      let h = chain (gt f.rest) _ x t f.goes in
      let kh = mark_sound {n = 3} {k = 1} refl (omega arith) f.rest h.rest h.value vf h.was in
      let all : heads.Angled G = (d.value, f.value, h.value) in
      let q = same_pair all x h.rest t h.goes in
      let w : TookOne IsAngled s h.rest all = record {
        left = λ n. sym kd.left ∙ (values_sound d.rest f.rest f.value vd f.was (sym kh.left ∙ n)).0;
        seen = mark_visible false {n = 3} {k = 1} h.value f.rest.rest h.rest.rest kh.spelt vf;
        spelt = λ n. (d.rest.rest, f.rest.rest, kd.spelt, (values_sound d.rest f.rest f.value vd f.was (sym kh.left ∙ n)).1, kh.spelt);
      } in
      subst (λ z. TookOne IsAngled s z x) q.1 (subst (λ z. TookOne IsAngled s h.rest z) q.0 w)

-- ---- arguments in angle brackets

module _ {A E : Type 0} (r : Readers A E) (part : Manner → Parts A E)
    (took : (s t : Stream) (x : GenericArgument A E) → Visible s.rest → r an_argument s ≡ Ok (x, t) → TookOne (part loosely).argument s t x) where
  abbrev Marked : heads.Angled (GenericArgument A E) → Toks → Toks → Type 0
  Marked = IsAngled (part loosely).argument (r an_argument) took

  abbrev Angled : Type 0
  Angled = heads.Angled (GenericArgument A E)

  angle_at : (c : Option Sep) (x : Angled) (l m k : Toks) → IsOptional (IsMark false) c l m → Marked x m k → IsAngle part loosely (angle_of c x.0 x.1 x.2) l k
  angle_at c x l m k o i = an_angle o i.2 i.3 i.4

  pub angle_took : (s t : Stream) (x : AngleBracketed A E) → Visible s.rest → angle_bracketed r s ≡ Ok (x, t) → TookOne (IsAngle part loosely) s t x
  unfolding angle_bracketed
  angle_took s t x v e =
      let c = chain (optional token.sees_path_sep token.path_sep s) (arguments_after r) x t e in
      let o = optional_sound {Is = IsMark false {n = 1} {k = 2}} token.sees_path_sep token.path_sep sep_took s c.rest c.value v c.was in
      let with : Angled → AngleBracketed A E = λ p. angle_of c.value p.0 p.1 p.2 in
      let k = mapped (heads.angled (r an_argument) c.rest) with x t c.goes in
      let w = angled_took (part loosely).argument (r an_argument) took c.rest t k.value o.seen k.was in
      record {
        left = λ n. o.left (w.left n);
        seen = w.seen;
        spelt = λ n. subst (λ z. IsAngle part loosely z s.rest t.rest) k.is (angle_at c.value k.value s.rest c.rest.rest t.rest (o.spelt (w.left n)) (w.spelt n));
      }

  -- a turn of the knot
  pub arguments_took : (s t : Stream) (x : PathArguments A E) → Visible s.rest → arguments_step r s ≡ Ok (x, t) → TookOne (IsArguments part loosely) s t x
  unfolding arguments_step
  arguments_took s t x v e =
      let k = mapped (angle_bracketed r s) a.AngleBracketed x t e in
      took_as {Is = IsAngle part loosely} {Js = IsArguments part loosely} a.AngleBracketed s t k.value x k.is (λ l m i. some_arguments i) (angle_took s t k.value v k.was)

  -- with their `::`
  abbrev Turbofish : AngleBracketed A E → Toks → Toks → Type 0
  Turbofish x l k = IsAngle part loosely x l k × Styled Expr l

  pub turbofish_took : (s t : Stream) (x : AngleBracketed A E) → Visible s.rest → turbofish r s ≡ Ok (x, t) → TookOne Turbofish s t x
  unfolding turbofish
  turbofish_took s t x v e =
      let c = chain (token.path_sep s) (λ (y : Sep). arguments_after r (Some y)) x t e in
      let o = sep_took s c.rest c.value v c.was in
      let with : Angled → AngleBracketed A E = λ p. angle_of (Some c.value) p.0 p.1 p.2 in
      let k = mapped (heads.angled (r an_argument) c.rest) with x t c.goes in
      let w = angled_took (part loosely).argument (r an_argument) took c.rest t k.value o.seen k.was in
      record {
        left = λ n. o.left (w.left n);
        seen = w.seen;
        spelt = λ n.
            let i = o.spelt (w.left n) in
            subst (λ z. Turbofish z s.rest t.rest) k.is (angle_at (Some c.value) k.value s.rest c.rest.rest t.rest (present i) (w.spelt n), mark_seen false {n = 1} {k = 2} c.value s.rest c.rest.rest i);
      }
