-- What the readers of items promise, by what those of their parts say of fronts.
use Rattle.std.specs.Prelude.{◌≡◌, ◌||◌, Bool, true, false, List, [], ◌∷◌, Ok, Err}
use Rattle.token_core.specs.declared.tree.Delimiter.TheVariants.{Brace}
use Rattle.token_core.specs.Fronted.{Fronting, Fronted}
use Rattle.token_core.specs.Headline.{Grammar}
use Rattle.token_core.specs.Reads.{Follows, is_done, is_ident, sees_group, sees_word, is_text}
use Rattle.token_core.specs.Marks.{text_of}
use Rattle.token_core.specs.Refusal.{Refusal}
use Rattle.token_core.specs.Stream.{Stream}
use Rattle.token_core.specs.Tokens as token
use Rattle.token_core.specs.Toks.{Toks, done}
use Rattle.item_small.specs.declared.item.BodyOf.{BodyOf}
use Rattle.item_small.specs.declared.item.BodyOf.TheVariants as b
use Rattle.item_small.specs.declared.item.FieldOf.{FieldOf}
use Rattle.item_small.specs.declared.item.ItemOf.{ItemOf}
use Rattle.item_small.specs.item.Normal as normal
use Rattle.item_small.specs.item.Printing as printing
use Rattle.item_small.specs.item.Reading as reading
use Rattle.item_small.specs.item.Spelling.{IsField, IsBody, IsItem}

-- a body begins there
abbrev pub begins_body : Toks → Bool
begins_body k = sees_group Brace k || token.sees_semi k

-- what may follow a type of a field: the end, or a comma
abbrev pub ends_field : Toks → Bool
ends_field k = is_done k || token.sees_comma k

module _ {A T : Type 0} (a : Fronting A) (t : Fronting T) where
  abbrev pub AllPlain : List (FieldOf A T) → Type 0
  AllPlain [] = Unit {0}
  AllPlain (x ∷ xs) = (a.grammar.plain x.attrs × t.grammar.plain x.ty) × AllPlain xs

  abbrev pub body_plain : BodyOf A T → Type 0
  body_plain (b.Named s v) = AllPlain v.0
  body_plain (b.Unit q) = Unit {0}

  abbrev pub field : Fronting (FieldOf A T)
  field = record {
    grammar = record {
      spells = λ clear x l. IsField a t clear x l done;
      normal = normal.field a t;
      print = printing.field a t;
      plain = λ x. a.grammar.plain x.attrs × t.grammar.plain x.ty;
      reader = reading.field a.grammar.reader t.grammar.reader;
    };
    begins = IsField a t;
    follows = ends_field;
    plain = λ x k. a.grammar.plain x.attrs × t.plain x.ty k;
  }

  -- Attributes may stand before a name, and a type before the end or a comma. What attributes spell before more tokens is no end. What is plain by itself is plain there.
  pub record FieldFits : Type 0 where
    pub starts : (x : A) (l k : Toks) → a.begins true x l k → is_done k ≡ false → is_done l ≡ false
    pub name : (k : Toks) → sees_word is_ident k ≡ true → a.follows k ≡ true
    pub ends : (k : Toks) → ends_field k ≡ true → t.follows k ≡ true
    pub attrs_plain : (x : A) (k : Toks) → a.grammar.plain x → a.plain x k
    pub ty_plain : (x : T) (k : Toks) → ends_field k ≡ true → t.grammar.plain x → t.plain x k

  -- What a read of a field answers: what its reference reader does, further on, and as it promises on fronts.
  pub record FieldRead (s : Stream) (x : FieldOf A T) (u : Stream) : Type 0 where
    pub gives : reading.field a.grammar.reader t.grammar.reader s ≡ Ok (x, u)
    pub within : Follows s u
    pub fronts : FieldFits → Fronted field s (Ok x) u

  pub record FieldRefused (s : Stream) (e : Refusal) : Type 0 where
    pub fails : reading.field a.grammar.reader t.grammar.reader s ≡ Err e
    pub fronts : FieldFits → Fronted field s (Err e) s

  -- what may follow a body: anything
  abbrev pub body : Fronting (BodyOf A T)
  body = record {
    grammar = record {
      spells = λ clear x l. IsBody a t clear x l done;
      normal = normal.body a t;
      print = printing.body a t;
      plain = body_plain;
      reader = reading.body a.grammar.reader t.grammar.reader;
    };
    begins = IsBody a t;
    follows = λ k. true;
    plain = λ x k. body_plain x;
  }

module _ {A G W T : Type 0} (a : Fronting A) (g : Fronting G) (w : Fronting W) (t : Fronting T) where
  abbrev pub grammar : Grammar (ItemOf A G W T)
  grammar = record {
    spells = λ clear x l. IsItem a g w t clear x l done;
    normal = normal.item a g w t;
    print = printing.item a g w t;
    plain = λ x. a.grammar.plain x.attrs × g.grammar.plain x.generics × w.grammar.plain x.where_clause × body_plain a t x.body;
    reader = reading.item a.grammar.reader g.grammar.reader w.grammar.reader t.grammar.reader;
  }

  -- what may follow an item: anything
  abbrev pub item : Fronting (ItemOf A G W T)
  item = record { grammar = grammar; begins = IsItem a g w t; follows = λ k. true; plain = λ x k. grammar.plain x }

  -- Each part may stand before what comes next in an item.
  pub record Fits : Type 0 where
    pub field : FieldFits a t
    -- attributes before `struct`
    pub word : (k : Toks) → sees_word (is_text (text_of 43)) k ≡ true → a.follows k ≡ true
    -- generics before a where clause that a body follows
    pub clause : (clear : Bool) (x : W) (l k : Toks) → w.begins clear x l k → begins_body k ≡ true → g.follows l ≡ true
    -- a where clause before a body
    pub body : (k : Toks) → begins_body k ≡ true → w.follows k ≡ true
    -- what is plain by itself is plain there
    pub generics_plain : (x : G) (k : Toks) → g.grammar.plain x → g.plain x k
    pub clause_plain : (x : W) (k : Toks) → w.grammar.plain x → w.plain x k
