-- A field: what is promised of it by what is promised of its attributes and its type.
use Rattle.std.proofs.Common.{◌≡◌, Bool, true, Result, Ok, Err, refl}
use Rattle.token_core.specs.declared.tree.Ident.{Ident}
use Rattle.token_core.specs.Fronted.{Fronting, Fronted}
use Rattle.token_core.specs.Reads.{Follows, Parsed, Parses, is_ident, sees_word}
use Rattle.token_core.specs.Refusal.{Refusal}
use Rattle.token_core.specs.Stream.{Stream}
use Rattle.token_core.specs.Toks.{Toks}
use Rattle.token_core.proofs.Steps.{link}
use Rattle.item_small.specs.declared.item.FieldOf.{FieldOf}
use Rattle.item_small.specs.item.Promises as promises
use Rattle.item_small.specs.item.Promises.{FieldFits, FieldRead, FieldRefused}
use Rattle.item_small.specs.item.Reading as reading
use Rattle.item_small.specs.item.Spelling.{IsField, a_field, IsName, a_name}
use Rattle.item_small.specs.item.Trees.{Colon, field_of}
use Rattle.token_core.specs.fronts.Both as pairs
use Rattle.token_core.proofs.fronts_laws.Both as both
use Rattle.token_core.proofs.fronts_laws.Both.{took_both}
use Rattle.token_core.specs.fronts.Same.{Alike}
use Rattle.token_core.proofs.fronts_laws.Same.{answered_alike, refused_alike}
use Rattle.item_small.proofs.front_laws.Tokens.{mark_front, name_front}

pub name_seen : (i : Ident) (l r : Toks) → IsName i l r → sees_word is_ident l ≡ true
unfolding sees_word
name_seen i l r (a_name h) = h

abbrev pub colon_front : Fronting Colon
colon_front = mark_front {n = 7} {k = 1}

module _ {A T : Type 0} (a : Fronting A) (t : Fronting T) where
  abbrev Field : Fronting (FieldOf A T)
  Field = promises.field a t

  -- the parts of a field, the first up to the others
  abbrev Typed : Fronting (Colon × T)
  Typed = pairs.both colon_front t

  abbrev Named : Fronting (Ident × (Colon × T))
  Named = pairs.both name_front Typed

  abbrev Parts : Fronting (A × (Ident × (Colon × T)))
  Parts = pairs.both a Named

  abbrev to : A × (Ident × (Colon × T)) → FieldOf A T
  to x = field_of x.0 x.1.0 x.1.1.0 x.1.1.1

  abbrev from : FieldOf A T → A × (Ident × (Colon × T))
  from x = (x.attrs, (x.ident, (x.colon_token, x.ty)))

  parted : (clear : Bool) (x : FieldOf A T) (l k : Toks) → IsField a t clear x l k → Parts.begins clear (from x) l k
  parted clear x l k (a_field {m = m} {n = n} {k = o} h i c q) = (m, h, (n, i, (o, c, q)))

  made : (clear : Bool) (x : A × (Ident × (Colon × T))) (l k : Toks) → Parts.begins clear x l k → IsField a t clear (to x) l k
  made clear x l k i = a_field i.1 i.2.1 i.2.2.1 i.2.2.2

  reads : (s u : Stream) (x : A × (Ident × (Colon × T))) → Parts.grammar.reader s ≡ Ok (x, u) → Field.grammar.reader s ≡ Ok (to x, u)
  unfolding reading.field
  reads s u x e =
      let f = took_both a.grammar.reader Named.grammar.reader s u x e in
      let g = took_both reading.name Typed.grammar.reader f.between u x.1 f.second in
      let h = took_both reading.colon t.grammar.reader g.between u x.1.1 g.second in
      link _ f.first (link _ g.first (link _ h.first (link _ h.second refl)))

  module _ (fits : FieldFits a t) where
    alike : Alike Parts Field to from
    alike = record {
      back = λ x. refl;
      parted = parted;
      made = made;
      follows = fits.ends;
      normal = λ x. refl;
      print = λ x. refl;
      plain = λ x k h. (fits.attrs_plain x.0 _ h.0, (tt, (tt, h.1)));
      reads = reads;
    }

    typed_fits : pairs.Fit colon_front t
    typed_fits clear x l k i o = refl

    named_fits : pairs.Fit name_front Typed
    named_fits clear x l k i o = refl

    parts_fit : pairs.Fit a Named
    parts_fit clear x l k i o = fits.name l (name_seen x.0 l i.0 i.1)

    pub no_attrs : (s : Stream) (e : Refusal) → Fronted a s (Err e) s → Fronted Field s (Err e) s
    no_attrs s e h = refused_alike Parts Field to from alike s e (both.no_first a Named parts_fit s e h)

    module _ (s m : Stream) (x : A) (h : Fronted a s (Ok x) m) where
      after_attrs : (e : Refusal) → Fronted Named m (Err e) m → Fronted Field s (Err e) s
      after_attrs e f = refused_alike Parts Field to from alike s e (both.no_second a Named parts_fit s m x e h f)

      pub no_name : (e : Refusal) → Fronted name_front m (Err e) m → Fronted Field s (Err e) s
      no_name e g = after_attrs e (both.no_first name_front Typed named_fits m e g)

      module _ (n : Stream) (i : Ident) (j : Fronted name_front m (Ok i) n) where
        after_name : (e : Refusal) → Fronted Typed n (Err e) n → Fronted Field s (Err e) s
        after_name e f = after_attrs e (both.no_second name_front Typed named_fits m n i e j f)

        pub no_colon : (e : Refusal) → Fronted colon_front n (Err e) n → Fronted Field s (Err e) s
        no_colon e g = after_name e (both.no_first colon_front t typed_fits n e g)

        module _ (k : Stream) (c : Colon) (q : Fronted colon_front n (Ok c) k) where
          pub no_type : (e : Refusal) → Fronted t k (Err e) k → Fronted Field s (Err e) s
          no_type e g = after_name e (both.no_second colon_front t typed_fits n k c e q g)

          pub field_fronted : (u : Stream) (y : T) → Fronted t k (Ok y) u → Follows m u → Follows n u → Follows k u → Fronted Field s (Ok (field_of x i c y)) u
          field_fronted u y g f1 f2 f3 =
              answered_alike Parts Field to from alike s u (x, (i, (c, y)))
              (both.paired a Named parts_fit s m u x (i, (c, y)) h
              (both.paired name_front Typed named_fits m n u i (c, y) j (both.paired colon_front t typed_fits n k u c y q g f3) f2)
              f1)

  -- what a read says, with what it promises on fronts
  pub as_read : (s u : Stream) (r : Result (FieldOf A T) Refusal) → Parses Field.grammar.reader r s u → (FieldFits a t → Fronted Field s r u) → Parsed (FieldRead a t s) (FieldRefused a t s) r u
  as_read s u (Ok x) h f = record { gives = h.0; within = h.1; fronts = f }
  as_read s u (Err e) h f = λ k. record { fails = h.0 k; fronts = f }
