-- An item: what is promised of it by what is promised of its parts.
use Rattle.std.proofs.Common.{◌≡◌, ◌||◌, Bool, true, false, Ok, Err, refl}
use Rattle.token_core.specs.declared.tree.Delimiter.TheVariants as d
use Rattle.token_core.specs.declared.tree.Ident.{Ident}
use Rattle.token_core.specs.Fronted.{Fronting, Fronted}
use Rattle.token_core.specs.Reads.{Follows, sees_group}
use Rattle.token_core.specs.Refusal.{Refusal}
use Rattle.token_core.specs.Stream.{Stream}
use Rattle.token_core.specs.Tokens as token
use Rattle.token_core.specs.Toks.{Toks}
use Rattle.token_core.proofs.MarkSpells.{mark_seen}
use Rattle.token_core.proofs.Steps.{link}
use Rattle.token_core.proofs.WordSpells.{word_seen}
use Rattle.item_small.specs.declared.item.BodyOf.{BodyOf}
use Rattle.item_small.specs.declared.item.ItemOf.{ItemOf}
use Rattle.item_small.specs.item.Promises as promises
use Rattle.item_small.specs.item.Promises.{begins_body, Fits}
use Rattle.item_small.specs.item.Reading as reading
use Rattle.item_small.specs.item.Spelling.{IsBody, named, unit, IsItem, an_item}
use Rattle.item_small.specs.item.Trees.{Struct, item_of}
use Rattle.token_core.specs.fronts.Both as pairs
use Rattle.token_core.proofs.fronts_laws.Both as both
use Rattle.token_core.proofs.fronts_laws.Both.{took_both}
use Rattle.token_core.specs.fronts.Same.{Alike}
use Rattle.token_core.proofs.fronts_laws.Same.{answered_alike, refused_alike}
use Rattle.item_small.proofs.front_laws.Tokens.{name_front, word_front}
use Rattle.item_small.proofs.item_laws.Bodies.{sees_brace}

either : (a b : Bool) → b ≡ true → a || b ≡ true
either true b h = refl
either false b h = h

first : (a b : Bool) → a ≡ true → a || b ≡ true
first true b h = refl
first false b h = cc h

-- a body begins with braces or `;`
pub body_begins : {A T : Type 0} (a : Fronting A) (t : Fronting T) (clear : Bool) (x : BodyOf A T) (l k : Toks) → IsBody a t clear x l k → begins_body l ≡ true
body_begins a t clear x l k (named {s = s} {l = c} i) = first (sees_group d.Brace l) (token.sees_semi l) (sees_brace s c k)
body_begins a t clear x l k (unit {q = q} i) = either (sees_group d.Brace l) (token.sees_semi l) (mark_seen clear q l k i)

abbrev pub struct_front : Fronting Struct
struct_front = word_front {n = 43}

module _ {A G W T : Type 0} (a : Fronting A) (g : Fronting G) (w : Fronting W) (t : Fronting T) where
  abbrev Item : Fronting (ItemOf A G W T)
  Item = promises.item a g w t

  abbrev Body : Fronting (BodyOf A T)
  Body = promises.body a t

  -- the parts of an item, the first up to the others
  abbrev After_generics : Type 0
  After_generics = W × BodyOf A T

  abbrev After_name : Type 0
  After_name = G × After_generics

  abbrev After_word : Type 0
  After_word = Ident × After_name

  abbrev After_attrs : Type 0
  After_attrs = Struct × After_word

  abbrev All : Type 0
  All = A × After_attrs

  abbrev Clause : Fronting After_generics
  Clause = pairs.both w Body

  abbrev Declared : Fronting After_name
  Declared = pairs.both g Clause

  abbrev Named : Fronting After_word
  Named = pairs.both name_front Declared

  abbrev Bare : Fronting After_attrs
  Bare = pairs.both struct_front Named

  abbrev Parts : Fronting All
  Parts = pairs.both a Bare

  abbrev to : All → ItemOf A G W T
  to x = item_of x.0 x.1.0 x.1.1.0 x.1.1.1.0 x.1.1.1.1.0 x.1.1.1.1.1

  abbrev from : ItemOf A G W T → All
  from x = (x.attrs, (x.struct_token, (x.ident, (x.generics, (x.where_clause, x.body)))))

  parted : (clear : Bool) (x : ItemOf A G W T) (l k : Toks) → IsItem a g w t clear x l k → Parts.begins clear (from x) l k
  parted clear x l k (an_item {m = m} {n = n} {k = o} {o = p} {p = q} h s i y z v) = (m, h, (n, s, (o, i, (p, y, (q, z, v)))))

  made : (clear : Bool) (x : All) (l k : Toks) → Parts.begins clear x l k → IsItem a g w t clear (to x) l k
  made clear x l k i = an_item i.1 i.2.1 i.2.2.1 i.2.2.2.1 i.2.2.2.2.1 i.2.2.2.2.2

  reads : (s u : Stream) (x : All) → Parts.grammar.reader s ≡ Ok (x, u) → Item.grammar.reader s ≡ Ok (to x, u)
  unfolding reading.item
  reads s u x e =
      let i = took_both a.grammar.reader Bare.grammar.reader s u x e in
      let j = took_both reading.struct_word Named.grammar.reader i.between u x.1 i.second in
      let k = took_both reading.name Declared.grammar.reader j.between u x.1.1 j.second in
      let l = took_both g.grammar.reader Clause.grammar.reader k.between u x.1.1.1 k.second in
      let m = took_both w.grammar.reader Body.grammar.reader l.between u x.1.1.1.1 l.second in
      link _ i.first (link _ j.first (link _ k.first (link _ l.first (link _ m.first (link _ m.second refl)))))

  module _ (fits : Fits a g w t) where
    alike : Alike Parts Item to from
    alike = record {
      back = λ x. refl;
      parted = parted;
      made = made;
      follows = λ k o. refl;
      normal = λ x. refl;
      print = λ x. refl;
      plain = λ x k h. (fits.field.attrs_plain x.0 _ h.0, (tt, (tt, (fits.generics_plain _ _ h.1, (fits.clause_plain _ _ h.2, h.3)))));
      reads = reads;
    }

    clause_fits : pairs.Fit w Body
    clause_fits clear x l k i o = fits.body l (body_begins a t clear x l k i)

    declared_fits : pairs.Fit g Clause
    declared_fits clear x l k i o = fits.clause clear x.0 l i.0 i.1 (body_begins a t clear x.1 i.0 k i.2)

    named_fits : pairs.Fit name_front Declared
    named_fits clear x l k i o = refl

    bare_fits : pairs.Fit struct_front Named
    bare_fits clear x l k i o = refl

    parts_fit : pairs.Fit a Bare
    parts_fit clear x l k i o = fits.word l (word_seen x.0 l i.0 i.1)

    refused : (s : Stream) (e : Refusal) → Fronted Parts s (Err e) s → Fronted Item s (Err e) s
    refused s e h = refused_alike Parts Item to from alike s e h

    pub no_attrs : (s : Stream) (e : Refusal) → Fronted a s (Err e) s → Fronted Item s (Err e) s
    no_attrs s e h = refused s e (both.no_first a Bare parts_fit s e h)

    module _ (s m : Stream) (x : A) (h : Fronted a s (Ok x) m) where
      after_attrs : (e : Refusal) → Fronted Bare m (Err e) m → Fronted Item s (Err e) s
      after_attrs e f = refused s e (both.no_second a Bare parts_fit s m x e h f)

      pub no_word : (e : Refusal) → Fronted struct_front m (Err e) m → Fronted Item s (Err e) s
      no_word e f = after_attrs e (both.no_first struct_front Named bare_fits m e f)

      module _ (n : Stream) (q : Struct) (i : Fronted struct_front m (Ok q) n) where
        after_word : (e : Refusal) → Fronted Named n (Err e) n → Fronted Item s (Err e) s
        after_word e f = after_attrs e (both.no_second struct_front Named bare_fits m n q e i f)

        pub no_name : (e : Refusal) → Fronted name_front n (Err e) n → Fronted Item s (Err e) s
        no_name e f = after_word e (both.no_first name_front Declared named_fits n e f)

        module _ (k : Stream) (y : Ident) (j : Fronted name_front n (Ok y) k) where
          after_name : (e : Refusal) → Fronted Declared k (Err e) k → Fronted Item s (Err e) s
          after_name e f = after_word e (both.no_second name_front Declared named_fits n k y e j f)

          pub no_generics : (e : Refusal) → Fronted g k (Err e) k → Fronted Item s (Err e) s
          no_generics e f = after_name e (both.no_first g Clause declared_fits k e f)

          module _ (o : Stream) (z : G) (l : Fronted g k (Ok z) o) where
            after_generics : (e : Refusal) → Fronted Clause o (Err e) o → Fronted Item s (Err e) s
            after_generics e f = after_name e (both.no_second g Clause declared_fits k o z e l f)

            pub no_clause : (e : Refusal) → Fronted w o (Err e) o → Fronted Item s (Err e) s
            no_clause e f = after_generics e (both.no_first w Body clause_fits o e f)

            module _ (p : Stream) (c : W) (v : Fronted w o (Ok c) p) where
              pub no_body : (e : Refusal) → Fronted Body p (Err e) p → Fronted Item s (Err e) s
              no_body e f = after_generics e (both.no_second w Body clause_fits o p c e v f)

              pub item_fronted : (u : Stream) (b : BodyOf A T) → Fronted Body p (Ok b) u → Follows m u → Follows n u → Follows k u → Follows o u → Follows p u → Fronted Item s (Ok (item_of x q y z c b)) u
              item_fronted u b f f1 f2 f3 f4 f5 =
                  answered_alike Parts Item to from alike s u (x, (q, (y, (z, (c, b)))))
                  (both.paired a Bare parts_fit s m u x (q, (y, (z, (c, b)))) h
                  (both.paired struct_front Named bare_fits m n u q (y, (z, (c, b))) i
                  (both.paired name_front Declared named_fits n k u y (z, (c, b)) j (both.paired g Clause declared_fits k o u z (c, b) l (both.paired w Body clause_fits o p u c b v f f5) f4) f3)
                  f2)
                  f1)
