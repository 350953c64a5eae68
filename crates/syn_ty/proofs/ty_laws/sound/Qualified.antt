-- Where a path that a type may qualify is read, it is spelt by the rules of the whole grammar: a type before `as` does not end in a plus, since a word follows.
use Rattle.std.proofs.Common.{◌≡◌, true, false, Option, Some, None, Ok, inl, inr, refl, sym, ◌∙◌, subst, arith}
use Rattle.syn_ty.proofs.ty_laws.words.Tokens.{Word, Reader, any_text, sees_word, Visible, IsMark, IsWord, is_word, Stream, Toks}
use Rattle.syn_ty.proofs.ty_laws.words.Paths.{PathStyle, AsWritten}
use Rattle.syn_ty.proofs.ty_laws.words.Forms.{TypePlace, Plus}
use Rattle.syn_ty.proofs.ty_laws.words.Types.{Sep, no_arguments, IsPath, IsQualified, by_type, by_type_as_path, Manner, loosely, End, Parts, Readers, a_type, some_arguments, IsOptional, absent, present, Path, PathArguments, QSelf, TypeTree}
use Rattle.token_core.specs.Tokens as token
use Rattle.token_core.proofs.MarkSpells.{mark_sound, mark_visible}
use Rattle.token_core.proofs.Took.{branch, mapped, seen_word}
use Rattle.token_core.proofs.Turns.{chain, same_pair}
use Rattle.syn_path.proofs.Words.{TookOne}
use Rattle.syn_forms.specs.paths.Reading as paths
use Rattle.syn_forms.specs.paths.Reading.{qualified_of}
use Rattle.syn_ty.proofs.ty_laws.sound.Paths.{All, Segments, path_took, segments_took, sep_took}
use Rattle.syn_ty.proofs.ty_laws.sound.Leaves.{named_sound}
use Rattle.syn_ty.proofs.ty_laws.sound.Forms.{Told, both, not_true}

-- a word is seen where one stands
word_seen : {n : _} (w : Word n) (l k : Toks) → IsWord w l k → sees_word any_text l ≡ true
word_seen w l k is_word = seen_word any_text _ _

-- what a word follows does not end in a plus
before_word : {n : _} (e : End) (w : Word n) (l k : Toks) → (e.in_plus ≡ true → sees_word any_text l ≡ false) → IsWord w l k → e.in_plus ≡ false
before_word e w l k h i = not_true e.in_plus (λ g. both (sees_word any_text l) (word_seen w l k i) (h g))

module _ {A E : Type 0} (r : Readers A E) (part : Manner → Parts A E)
    (took : (p : TypePlace) (s t : Stream) (x : TypeTree A E) → Visible s.rest → r (a_type p) s ≡ Ok (x, t) → TookOne (Told ((part loosely).ty p)) s t x)
    (took_arguments : (s t : Stream) (x : PathArguments A E) → Visible s.rest → r some_arguments s ≡ Ok (x, t) → TookOne (part loosely).arguments s t x) where
  abbrev AsPath : Type 0
  AsPath = token.As × Path A E

  -- `as` and a path
  abbrev IsAsPath : AsPath → Toks → Toks → Type 0
  IsAsPath x l k = (m : Toks) × IsWord x.0 l m × IsPath part loosely AsWritten x.1 m k

  read_as : Reader (Option AsPath)
  read_as = paths.as_path no_arguments (r some_arguments)

  as_took : (s t : Stream) (o : Option AsPath) → Visible s.rest → read_as s ≡ Ok (o, t) → TookOne (IsOptional IsAsPath) s t o
  unfolding read_as paths.as_path
  as_took s t o v e =
      elim (branch (token.sees_as s.rest) _ _ s (Ok (o, t)) e) [
        | inl y ↦ let c = chain (token.as_word s) _ o t y.1 in
            let k = named_sound {n = 4} s c.rest c.value v c.was in
            let with : Path A E → Option AsPath = λ p. Some (c.value, p) in
            let f = mapped (paths.path no_arguments (r some_arguments) AsWritten c.rest) with o t c.goes in
            let w = path_took r part took_arguments AsWritten c.rest t f.value k.seen f.was in
            record { left = λ n. k.left (w.left n); seen = w.seen; spelt = λ n. subst (λ z. IsOptional IsAsPath z s.rest t.rest) f.is (present (c.rest.rest, k.spelt (w.left n), w.spelt n)) }
        | inr y ↦ let g = same_pair None o s t y.1 in
            subst (λ z. TookOne (IsOptional IsAsPath) s t z) g.0 (subst (λ z. TookOne (IsOptional IsAsPath) s z None) g.1 (record { left = λ n. n; seen = v; spelt = λ n. absent }))
      ]

  module _ (style : PathStyle) where
    abbrev Qualified : Type 0
    Qualified = QSelf A E × Path A E

    abbrev Of : Qualified → Toks → Toks → Type 0
    Of y l k = IsQualified part loosely style y.0 y.1 l k

    qualified_at : (o : token.Lt) (x : TypeTree A E) (a : Option AsPath) (g : token.Gt) (c : Sep) (all : Segments r part took_arguments style) (l m n k j h i : Toks) → IsMark false o l m → Told ((part loosely).ty Plus) x m n →
        IsOptional IsAsPath a n k → IsMark false g k j → IsMark false c j h → All r part took_arguments style all h i → Of (qualified_of o x a g c all) l i
    qualified_at o x a g c all l m n k j h i d w absent e f s = by_type d w.1 e f s
    qualified_at o x a g c all l m n k j h i d w (present {a = b} p) e f s = by_type_as_path d w.1 (before_word w.0 b.0 n p.0 w.3 p.1) p.1 p.2 e f s

    pub qualified_took : (s t : Stream) (y : Qualified) → Visible s.rest → paths.qualified (r (a_type Plus)) no_arguments (r some_arguments) style s ≡ Ok (y, t) → TookOne Of s t y
    unfolding paths.qualified read_as
    qualified_took s t y v e =
        let c = chain (token.lt s) _ y t e in
        let kc = mark_sound {n = 2} {k = 1} refl (omega arith) s c.rest c.value v c.was in
        let vc = mark_visible false {n = 2} {k = 1} c.value s.rest c.rest.rest kc.spelt v in
        let d = chain (r (a_type Plus) c.rest) _ y t c.goes in
        let kd = took Plus c.rest d.rest d.value vc d.was in
        let f = chain (paths.as_path no_arguments (r some_arguments) d.rest) _ y t d.goes in
        let kf = as_took d.rest f.rest f.value kd.seen f.was in
        let g = chain (token.gt f.rest) _ y t f.goes in
        let kg = mark_sound {n = 3} {k = 1} refl (omega arith) f.rest g.rest g.value kf.seen g.was in
        let vg = mark_visible false {n = 3} {k = 1} g.value f.rest.rest g.rest.rest kg.spelt kf.seen in
        let h = chain (token.path_sep g.rest) _ y t g.goes in
        let kh = sep_took g.rest h.rest h.value vg h.was in
        let with : Segments r part took_arguments style → Qualified = λ z. qualified_of c.value d.value f.value g.value h.value z in
        let i = mapped (paths.segments no_arguments (r some_arguments) token.sees_path_sep style h.rest) with y t h.goes in
        let w = segments_took r part took_arguments style token.sees_path_sep h.rest t i.value kh.seen i.was in
        record {
          left = λ n. sym kc.left ∙ kd.left (kf.left (sym kg.left ∙ kh.left (w.left n)));
          seen = w.seen;
          spelt = λ n.
              let nh = kh.left (w.left n) in
              let nf = sym kg.left ∙ nh in
              subst (λ z. Of z s.rest t.rest) i.is (qualified_at c.value d.value f.value g.value h.value i.value s.rest c.rest.rest d.rest.rest f.rest.rest g.rest.rest h.rest.rest t.rest kc.spelt (kd.spelt (kf.left nf)) (kf.spelt nf) kg.spelt (kh.spelt (w.left n)) (w.spelt n));
        }
