-- Where a type is held as it was written, its tokens are those of a form without a case: what begins with `unsafe` and lifetimes, or with `builtin #`, perhaps after a binder.
use Rattle.std.proofs.Common.{◌≡◌, true, false, List, Option, None, Ok, refl, sym, ◌∙◌, ap, subst, arith}
use Rattle.syn_ty.proofs.ty_laws.words.Tokens.{Lifetime, DelimSpan, Parenthesis, Ident, TokenStream, read_lifetime, Item, Follows, Outcome, Reader, ◌<$>◌, and_then, any_text, builtin_text, closing, ident_name, is_ident, is_text, read_word, sees_word, Visible, IsMark, IsWord, IsLifetime, Stream, Toks, word, group}
use Rattle.syn_ty.proofs.ty_laws.words.Paths.{Along}
use Rattle.syn_ty.proofs.ty_laws.words.Forms.{TypePlace, outside, position, since}
use Rattle.syn_ty.proofs.ty_laws.words.Types.{IsFor, IsType, a_verbatim_type, an_unsafe_binder, a_builtin, Manner, loosely, closed, Holds, Parts, Readers, a_type, last_place, sees_builtin, IsOptional, BoundLifetimes, TypeTree}
use Rattle.token_core.specs.Cut.{between}
use Rattle.token_core.specs.Groups as groups
use Rattle.token_core.specs.Reads.{finished, open_group}
use Rattle.token_core.specs.Tokens as token
use Rattle.token_core.proofs.MarkSpells.{mark_sound, mark_visible}
use Rattle.token_core.proofs.Suffixes.{follows_trans}
use Rattle.token_core.proofs.Took.{mapped, seen_word, took_word}
use Rattle.token_core.proofs.Turns.{chain, same_pair}
use Rattle.syn_forms.specs.heads.Reading as heads
use Rattle.syn_path.proofs.Groups.{took_inside}
use Rattle.syn_ty.specs.declared.ty.TypeOf.TheVariants as v
use Rattle.syn_ty.specs.ty.Reading as reading
use Rattle.syn_ty.proofs.ty_laws.sound.Angles.{IsAngled, angled_took}
use Rattle.syn_ty.proofs.ty_laws.sound.Groups.{left_before}
use Rattle.syn_ty.proofs.ty_laws.sound.Held.{holds_since}
use Rattle.syn_ty.proofs.ty_laws.sound.Paths.{and_first}
use Rattle.syn_ty.proofs.ty_laws.sound.Leaves.{life_sound, named_sound}
use Rattle.syn_ty.proofs.ty_laws.sound.Forms.{Told, never_open}
use Rattle.syn_ty.proofs.ty_laws.sound.TypePaths.{Onward}
use Rattle.syn_ty.proofs.ty_laws.sound.Within.{Held}

-- the stream stays where it is
stays_there : (from : List Item) (s t : Stream) (x : TokenStream) → since from s ≡ Ok (x, t) → s ≡ t
unfolding since
stays_there from s t x e = (same_pair (between from (outside s)) x s t e).1

-- ---- `builtin`, `#`, an identifier and parentheses

-- what was read, by its parts
record Builtin (l m : Toks) : Type 0 where
  first : Ident
  pound : token.Pound
  name : Ident
  span : DelimSpan
  content : Toks
  after : Toks
  is : l ≡ word first after
  word_is : is_text builtin_text first.text ≡ true
  mark : IsMark false pound after (word name (group Parenthesis span content m))
  name_is : is_ident name.text ≡ true

-- the group at the front
group_opened : (s t : Stream) (g : DelimSpan × Stream) → Visible s.rest → open_group Parenthesis groups.paren_name s ≡ Ok (g, t) → (c : Toks) × (s.rest ≡ group Parenthesis g.0 c t.rest)
unfolding finished
group_opened s t g u e =
    let p : Reader (Unit {0}) = λ z. Ok (tt, z) in
    let goes : Outcome (DelimSpan × Stream) → Outcome (DelimSpan × Unit {0}) = λ o. and_then o (λ (y : DelimSpan × Stream). λ (z : Stream). closing y.0 z (p y.1)) in
    let x : DelimSpan × Unit {0} = (g.0, tt) in
    let k = took_inside Parenthesis groups.paren_name p s (finished g.1 t) x u (ap goes e) in
    (k.content, k.is)

builtin_took : (s t : Stream) (n : Unit {0}) → Visible s.rest → sees_builtin s.rest ≡ true → reading.builtin s ≡ Ok (n, t) → Builtin s.rest t.rest × Visible t.rest
unfolding sees_builtin reading.builtin
builtin_took s t n u g e =
    let c = chain (read_word any_text ident_name s) _ n t e in
    let kc = took_word any_text ident_name s c.rest c.value u c.was in
    let vc = subst Visible kc.is u in
    let d = chain (token.pound c.rest) _ n t c.goes in
    let kd = mark_sound {n = 21} {k = 1} refl (omega arith) c.rest d.rest d.value vc d.was in
    let vd = mark_visible false {n = 21} {k = 1} d.value c.rest.rest d.rest.rest kd.spelt vc in
    let f = chain (read_word is_ident ident_name d.rest) _ n t d.goes in
    let kf = took_word is_ident ident_name d.rest f.rest f.value vd f.was in
    let vf = subst Visible kf.is vd in
    let j = chain (open_group Parenthesis groups.paren_name f.rest) _ n t f.goes in
    let kj = group_opened f.rest j.rest j.value vf j.was in
    let vj = subst Visible kj.1 vf in
    let q = same_pair tt n j.rest t j.goes in
    let all : Builtin s.rest j.rest.rest = record {
      first = c.value;
      pound = d.value;
      name = f.value;
      span = j.value.0;
      content = kj.0;
      after = c.rest.rest;
      is = kc.is;
      word_is = sym (seen_word (is_text builtin_text) c.value c.rest.rest) ∙ ap (sees_word (is_text builtin_text)) (sym kc.is) ∙ and_first _ _ g;
      mark = subst (λ z. IsMark false d.value c.rest.rest z) (kf.is ∙ ap (word f.value) kj.1) kd.spelt;
      name_is = kf.meets;
    } in
    (subst (λ (z : Stream). Builtin s.rest z.rest) q.1 all, subst (λ (z : Stream). Visible z.rest) q.1 vj.2)

module _ {A E : Type 0} (r : Readers A E) (part : Manner → Parts A E) (h : Held r part) (place : TypePlace) where
  abbrev Tree : Type 0
  Tree = TypeTree A E

  abbrev For : Type 0
  For = Option (BoundLifetimes A E)

  abbrev IsPerhapsFor : For → Toks → Toks → Type 0
  IsPerhapsFor = IsOptional (IsFor part loosely)

  abbrev Of : Tree → Toks → Toks → Type 0
  Of = Told (IsType part loosely place)

  builtin_at : (l : For) (k m n : Toks) (x : TokenStream) → Builtin m n → Holds x k n → IsPerhapsFor l k m → Of (v.Verbatim x) k n
  builtin_at l k m n x b i o = (closed, a_verbatim_type (a_builtin (subst (λ z. IsPerhapsFor l k z) b.is o) b.word_is b.mark b.name_is, i), never_open, never_open)

  -- from the position where the type began, before a binder that was read
  pub builtin_type_took : Along reading.builtin → (l : For) (k s t : Stream) (x : Tree) → Visible k.rest → Follows k s → Visible s.rest → sees_builtin s.rest ≡ true → reading.builtin_type (position k) s ≡ Ok (x, t) →
      Onward (IsPerhapsFor l k.rest s.rest) (Of x k.rest t.rest) s t
  builtin_type_took along l k s t x w f u g e =
      let c = chain (reading.builtin s) (λ n. v.Verbatim <$> since (position k)) x t e in
      let b = builtin_took s c.rest c.value u g c.was in
      let j = mapped (since (position k) c.rest) v.Verbatim x t c.goes in
      let a = along s c.rest c.value c.was in
      let q = holds_since k c.rest t j.value w b.1 (follows_trans k s c.rest f a) j.was in (
        λ n. left_before s c.rest a (ap (λ (z : Stream). z.left) q.0 ∙ n),
        subst (λ (z : Stream). Visible z.rest) q.0 b.1,
        λ n i. subst (λ z. Of z k.rest t.rest) j.is (subst (λ (z : Stream). Of (v.Verbatim j.value) k.rest z.rest) q.0 (builtin_at l k.rest s.rest c.rest.rest j.value b.0 q.1 i)),
      )

  -- ---- `unsafe`, lifetimes between angle marks, and a type

  abbrev Lifetimes : heads.Angled Lifetime → Toks → Toks → Type 0
  Lifetimes = IsAngled IsLifetime read_lifetime life_sound

  unsafe_at : (l : For) (w : token.Unsafe) (y : heads.Angled Lifetime) (z : Tree) (k m n j i : Toks) (x : TokenStream) → IsPerhapsFor l k m → IsWord w m n → Lifetimes y n j → Told ((part loosely).ty (last_place place)) z j i → Holds x k i →
      Of (v.Verbatim x) k i
  unsafe_at l w y z k m n j i x o a b c d = (c.0, a_verbatim_type (an_unsafe_binder o a b.2 b.3 b.4 c.1, d), c.2, c.3)

  pub unsafe_binder_took : ((from : List Item) (p : TypePlace) → Along (reading.unsafe_binder r from p)) → (l : For) (k s t : Stream) (x : Tree) → Visible k.rest → Follows k s → Visible s.rest →
      reading.unsafe_binder r (position k) place s ≡ Ok (x, t) → Onward (IsPerhapsFor l k.rest s.rest) (Of x k.rest t.rest) s t
  unfolding reading.unsafe_binder
  unsafe_binder_took along l k s t x w f u e =
      let c = chain (token.unsafe_word s) _ x t e in
      let kc = named_sound {n = 16} s c.rest c.value u c.was in
      let d = chain (heads.angled read_lifetime c.rest) _ x t c.goes in
      let kd = angled_took IsLifetime read_lifetime life_sound c.rest d.rest d.value kc.seen d.was in
      let j = chain (r (a_type (last_place place)) d.rest) _ x t d.goes in
      let kj = h.ty (last_place place) d.rest j.rest j.value kd.seen j.was in
      let m = mapped (since (position k) j.rest) v.Verbatim x t j.goes in
      let same = stays_there (position k) j.rest t m.value m.was in
      let a = along (position k) place s t x e in
      let q = holds_since k j.rest t m.value w kj.seen (subst (λ z. Follows k z) (sym same) (follows_trans k s t f a)) m.was in
      let back : t.left ≡ None → j.rest.left ≡ None = λ n. ap (λ (z : Stream). z.left) same ∙ n in (
        λ n. left_before s t a n,
        subst (λ (z : Stream). Visible z.rest) same kj.seen,
        λ n i.
            let nd = kj.left (back n) in
            let nc = kd.left nd in
            subst (λ z. Of z k.rest t.rest) m.is (subst (λ (z : Stream). Of (v.Verbatim m.value) k.rest z.rest) same
            (unsafe_at l c.value d.value j.value k.rest s.rest c.rest.rest d.rest.rest j.rest.rest m.value i (kc.spelt nc) (kd.spelt nd) (kj.spelt (back n)) q.1)),
      )
