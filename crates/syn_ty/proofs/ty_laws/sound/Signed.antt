-- Where arguments in parentheses are read, they are spelt by the rules of the whole grammar; and where a path takes them, with the tokens before them that it drops, it is the path of a trait bound.
use Rattle.std.proofs.Common.{◌≡◌, Bool, true, false, not, ◌&&◌, List, [], ◌∷◌, Option, None, Ok, inl, inr, refl, sym, ◌∙◌, ap, subst}
use Rattle.syn_ty.proofs.ty_laws.words.Tokens.{DelimSpan, Parenthesis, AreListed, none_left, last_value, value_and_mark, Anywhere, Nowhere, Many, terminated, Reader, ◌>>=◌, in_group, is_done, leaves, optional, pure, Visible, IsMark, Stream, Bytes, Toks, done}
use Rattle.syn_ty.proofs.ty_laws.words.Paths.{AsWritten}
use Rattle.syn_ty.proofs.ty_laws.words.Forms.{TypePlace, Plus, NoPlus, in_parens, last_with, with_arguments, comma}
use Rattle.syn_ty.proofs.ty_laws.words.Types.{Sep, is_empty, no_arguments, parens_of, parenthesized, return_of, sees_signature, signed, takes_signature, AreSigned, IsBoundPath, IsDropped, IsInput, IsParens, IsSigned, a_pair_dropped, a_parens, a_sep_dropped, a_signed, an_input, nothing_dropped, signed_after, signed_last, with_parens, without_parens, IsPath, IsSegment, a_path, a_word, a_word_with_arguments, Manner, loosely, End, closed, Parts, Readers, a_type, IsOptional, absent, present, NamedArg, Parenthesized, Path, PathArguments, PathSegment, TypeTree, named_arg_of}
use Rattle.token_core.specs.Groups as groups
use Rattle.token_core.specs.Tokens as token
use Rattle.token_core.proofs.Listings.{listed_sound, listed_visible}
use Rattle.token_core.proofs.Took.{branch, mapped, took_all}
use Rattle.token_core.proofs.Turns.{chain, same_pair}
use Rattle.syn_path.proofs.Words.{TookOne}
use Rattle.syn_forms.specs.heads.Reading as heads
use Rattle.syn_forms.specs.inputs.Reading.{signature}
use Rattle.syn_forms.specs.lists.Reading.{made}
use Rattle.syn_forms.specs.paths.Reading.{last_arguments, path_with}
use Rattle.syn_forms.proofs.tokens_laws.Fronts.{nothing_left, took_as}
use Rattle.syn_ty.specs.declared.path.PathArgumentsOf.TheVariants as a
use Rattle.syn_ty.proofs.ty_laws.sound.Paths.{and_first, or_first, sep_took}
use Rattle.syn_ty.proofs.ty_laws.sound.Leaves.{IsHeld, comma_seen, comma_took, held_sound, optional_sound}
use Rattle.syn_ty.proofs.ty_laws.sound.Forms.{IsArrowed, Told, arrow_took, never_open, output_at}

-- ---- arguments in parentheses

module _ {A E : Type 0} (r : Readers A E) (part : Manner → Parts A E)
    (took : (p : TypePlace) (s t : Stream) (x : TypeTree A E) → Visible s.rest → r (a_type p) s ≡ Ok (x, t) → TookOne (Told ((part loosely).ty p)) s t x) where
  abbrev Input : Type 0
  Input = NamedArg A E

  abbrev Inputs : Type 0
  Inputs = Many Input token.Comma

  abbrev Is : Input → Toks → Toks → Type 0
  Is = IsInput part loosely

  abbrev input : Reader Input
  input = made (named_arg_of [] None) (r (a_type Plus))

  input_took : (s t : Stream) (x : Input) → Visible s.rest → input s ≡ Ok (x, t) → TookOne Is s t x
  input_took s t x v e =
      let k = mapped (r (a_type Plus) s) (named_arg_of [] None) x t e in
      took_as {Is = Told ((part loosely).ty Plus)} {Js = Is} (named_arg_of [] None) s t k.value x k.is (λ l m i. an_input i.1) (took Plus s t k.value v k.was)

  value_took : (s t : Stream) (x : Input) → Visible s.rest → input s ≡ Ok (x, t) → t.left ≡ None → (s.left ≡ None) × Is x s.rest t.rest
  value_took s t x v e h = let k = input_took s t x v e in (k.left h, k.spelt h)

  abbrev Holds : Inputs → Toks → Toks → Type 0
  Holds w l k = AreListed (λ (_ : Bool). Is) (IsMark false) Anywhere true w.0 w.1 l k

  -- all of what the parentheses hold
  abbrev HoldsAll : Inputs → Toks → Type 0
  HoldsAll w l = Holds w l done

  inputs_sound : (s t : Stream) (w : Inputs) → Visible s.rest → terminated is_done input comma s ≡ Ok (w, t) → leaves t ≡ None → HoldsAll w s.rest
  inputs_sound s t w v e h =
      let k = listed_sound (λ (_ : Bool). is_done) (λ (_ : Bool). input) (λ l. not (is_done l)) comma (λ (_ : Bool). Is) (IsMark false) Anywhere (λ (z : Stream). z.left ≡ None)
      (λ b l g. tt) (λ b c d x u i. (input_took c d x u i).seen) comma_seen (λ b c d x u g i. value_took c d x u i) (λ c d x u g i. comma_took c d x u i) true s t w v e (nothing_left t h) in
      let over = took_all t
      (listed_visible (λ (_ : Bool). is_done) (λ (_ : Bool). input) (λ l. not (is_done l)) comma (λ (_ : Bool). Is) (IsMark false) Anywhere (λ (z : Stream). z.left ≡ None)
      (λ b l g. tt) (λ b c d x u i. (input_took c d x u i).seen) comma_seen (λ b c d x u g i. value_took c d x u i) (λ c d x u g i. comma_took c d x u i) true s t w v e) h in
      subst (λ z. Holds w s.rest z) over k.1

  abbrev Of : Parenthesized A E → Toks → Toks → Type 0
  Of = Told (IsParens part loosely)

  parens_at : (g : DelimSpan × Inputs) (o : Option (token.RArrow × TypeTree A E)) (l m k : Toks) → IsHeld Parenthesis HoldsAll g l m → IsOptional (IsArrowed r part took NoPlus) o m k →
      Of (parens_of (groups.paren g.0) g.1 (return_of o)) l k
  parens_at g o l m k i j =
      let w = output_at r part took NoPlus o m k j in
      (w.0, subst (λ z. IsParens part loosely w.0 (parens_of (groups.paren g.0) g.1 (return_of o)) z k) (sym i.is) (a_parens i.holds w.1), w.2, w.3)

  pub parens_took : (s t : Stream) (x : Parenthesized A E) → Visible s.rest → parenthesized r s ≡ Ok (x, t) → TookOne Of s t x
  unfolding parenthesized signature
  parens_took s t x v e =
      let of : (_ × Inputs × Option (token.RArrow × TypeTree A E)) → Parenthesized A E = λ p. parens_of p.0 p.1 (return_of p.2) in
      let p = mapped (signature (named_arg_of [] None) (r (a_type Plus)) (r (a_type NoPlus)) s) of x t e in
      let c = chain (in_parens (terminated is_done input comma) s) _ p.value t p.was in
      let g = mapped (in_group Parenthesis groups.paren_name (terminated is_done input comma) s) (λ y. (groups.paren y.0, y.1)) c.value c.rest c.was in
      let h = held_sound Parenthesis HoldsAll groups.paren_name (terminated is_done input comma) inputs_sound s c.rest g.value v g.was in
      let f = mapped (heads.returned (r (a_type NoPlus)) c.rest) (λ o. (c.value.0, c.value.1, o)) p.value t c.goes in
      let o = optional_sound {Is = IsArrowed r part took NoPlus} token.sees_r_arrow (heads.arrow (r (a_type NoPlus))) (arrow_took r part took NoPlus) c.rest t f.value h.seen f.was in
      let is : parens_of (groups.paren g.value.0) g.value.1 (return_of f.value) ≡ x = ap (λ y. parens_of y.0 y.1 (return_of f.value)) g.is ∙ ap of f.is ∙ p.is in
      record {
        left = λ n. h.left (o.left n);
        seen = o.seen;
        spelt = λ n. subst (λ z. Of z s.rest t.rest) is (parens_at g.value f.value s.rest c.rest.rest t.rest (h.spelt (o.left n)) (o.spelt n));
      }

-- ---- the path of a trait bound

module _ {A E : Type 0} (part : Manner → Parts A E) where
  -- a pair of angle marks between which nothing stands, perhaps after `::`
  unfoldable pub EmptyPair : Toks → Toks → Type 0
  EmptyPair l k = (c : Option Sep) × (o : token.Lt) × (g : token.Gt) × (m : Toks) × (n : Toks) × IsOptional (IsMark false) c l m × IsMark false o m n × IsMark false g n k

  module _ (pair : (x : PathArguments A E) (l k : Toks) → (part loosely).arguments x l k → is_empty x ≡ true → EmptyPair l k) where
    abbrev Segment : Type 0
    Segment = PathSegment A E

    abbrev IsPlain : Segment → Toks → Toks → Type 0
    IsPlain = IsSegment part loosely AsWritten

    abbrev ArePlain : Bool → List Segment → List Sep → Toks → Toks → Type 0
    ArePlain = AreListed (λ (_ : Bool). IsPlain) (IsMark false) Nowhere

    sep_dropped : (t : Bytes) (o : Option Sep) (l k : Toks) → IsOptional (IsMark false) o l k → IsDropped part loosely t l k
    sep_dropped t o l k absent = nothing_dropped
    sep_dropped t o l k (present i) = a_sep_dropped i

    -- the last segment with arguments in parentheses in place of its own, which are none
    last_signed : (x : Segment) (o : Option Sep) (e : End) (y : Parenthesized A E) (l m n k : Toks) → IsPlain x l m → is_empty x.arguments ≡ true → IsOptional (IsMark false) o m n → IsParens part loosely e y n k →
        IsSigned part loosely e (with_arguments x.ident (a.Parenthesized y)) l k
    unfolding EmptyPair
    last_signed x o e y l m n k (a_word {i = i} w) h j p = a_signed w (sep_dropped i.text o m n j) p
    last_signed x o e y l m n k (a_word_with_arguments {i = i} {x = z} {l = q} w s z') h j p =
        let b = pair z q m z' h in a_signed (or_first _ _ w) (a_pair_dropped w b.5 b.6 b.7 j) p

    -- further segments are there
    record Shown (xs : List Segment) : Type 0 where
      first : Segment
      others : List Segment
      is : xs ≡ first ∷ others

    shown : (b : Bool) (xs : List Segment) (cs : List Sep) (l k : Toks) → ArePlain b xs cs l k → Shown xs
    shown b xs cs l k (none_left h) = absurd h
    shown b xs cs l k (last_value {x = x} i) = record { first = x; others = []; is = refl }
    shown b xs cs l k (value_and_mark {x = x} {xs = ys} i j rest) = record { first = x; others = ys; is = refl }

    signed_at : (b : Bool) (xs : List Segment) (cs : List Sep) (z : PathArguments A E) (o : Option Sep) (e : End) (y : Parenthesized A E) (l m n k : Toks) → ArePlain b xs cs l m → is_empty (last_arguments z xs) ≡ true →
        IsOptional (IsMark false) o m n → IsParens part loosely e y n k → AreSigned part loosely e (last_with (a.Parenthesized y) xs) cs l k
    signed_at b xs cs z o e y l m n k (none_left i) h j p = absurd i
    signed_at b xs cs z o e y l m n k (last_value {x = x} i) h j p = signed_last (last_signed x o e y l m n k i h j p)
    signed_at b xs cs z o e y l m n k (value_and_mark {x = x} {p = c} {xs = ys} {ps = ps} {k = q} i g rest) h j p =
        let s = shown false ys ps q m rest in
        let w = signed_at false ys ps x.arguments o e y q m n k rest h j p in
        subst (λ u. AreSigned part loosely e (last_with (a.Parenthesized y) (x ∷ u)) (c ∷ ps) l k) (sym s.is) (signed_after i g (subst (λ u. AreSigned part loosely e (last_with (a.Parenthesized y) u) ps q k) s.is w))

    -- a path that takes arguments in parentheses
    pub takes_parens : (x : Path A E) (o : Option Sep) (e : End) (y : Parenthesized A E) (l m n k : Toks) → IsPath part loosely AsWritten x l m → is_empty (last_arguments no_arguments x.segments.0) ≡ true →
        IsOptional (IsMark false) o m n → IsParens part loosely e y n k → IsBoundPath part loosely e (path_with (a.Parenthesized y) x) l k
    takes_parens x o e y l m n k (a_path {xs = xs} {cs = cs} {m = q} c i) h j p = with_parens c (signed_at true xs cs no_arguments o e y q m n k i h j p)

-- what stands after a path
module _ {A E : Type 0} (r : Readers A E) (part : Manner → Parts A E)
    (took : (p : TypePlace) (s t : Stream) (x : TypeTree A E) → Visible s.rest → r (a_type p) s ≡ Ok (x, t) → TookOne (Told ((part loosely).ty p)) s t x)
    (pair : (x : PathArguments A E) (l k : Toks) → (part loosely).arguments x l k → is_empty x ≡ true → EmptyPair part l k) where
  abbrev Ends : Path A E → Toks → Toks → Type 0
  Ends = Told (IsBoundPath part loosely)

  abbrev Further : Path A E → Path A E → Stream → Stream → Toks → Type 0
  Further p x s t l = (t.left ≡ None → s.left ≡ None) × Visible t.rest × (t.left ≡ None → IsPath part loosely AsWritten p l s.rest → Ends x l t.rest)

  -- the arguments in parentheses that follow are taken, perhaps after `::`
  pub signed_took : (p x : Path A E) (l : Toks) (s t : Stream) → Visible s.rest → signed r p s ≡ Ok (x, t) → Further p x s t l
  unfolding signed
  signed_took p x l s t v e =
      elim (branch (takes_signature p && sees_signature s.rest) _ _ s (Ok (x, t)) e) [
        | inl y ↦ let with : Parenthesized A E → Path A E = λ z. path_with (a.Parenthesized z) p in
            let rest : Option Sep → Reader (Path A E) = λ c. parenthesized r >>= (λ z. pure (with z)) in
            let c = chain (optional token.sees_path_sep token.path_sep s) rest x t y.1 in
            let o = optional_sound {Is = IsMark false {n = 1} {k = 2}} token.sees_path_sep token.path_sep sep_took s c.rest c.value v c.was in
            let k = mapped (parenthesized r c.rest) with x t c.goes in
            let w = parens_took r part took c.rest t k.value o.seen k.was in (
              λ n. o.left (w.left n),
              w.seen,
              λ n i.
                  let j = w.spelt n in
                  subst (λ z. Ends z l t.rest) k.is (j.0, takes_parens part pair p c.value j.0 k.value l s.rest c.rest.rest t.rest i (and_first _ _ y.0) (o.spelt (w.left n)) j.1, j.2, j.3),
            )
        | inr y ↦ let g = same_pair p x s t y.1 in (
          λ n. ap (λ (z : Stream). z.left) g.1 ∙ n,
          subst (λ (z : Stream). Visible z.rest) g.1 v,
          λ n i.
              subst (λ z. Ends z l t.rest) g.0 (subst (λ (z : Stream). Ends p l z.rest) g.1 (closed, without_parens i, never_open, never_open)),
        )
      ]
