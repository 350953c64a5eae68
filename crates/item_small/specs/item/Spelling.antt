-- Which lists an item spells, its parts in their places. Each part spells what stands between its beginning and the next one's.
use Rattle.std.specs.Prelude.{◌≡◌, Bool, true, List}
use Rattle.token_core.specs.declared.span.DelimSpan.{DelimSpan}
use Rattle.token_core.specs.declared.tree.Delimiter.TheVariants.{Brace}
use Rattle.token_core.specs.declared.tree.Ident.{Ident}
use Rattle.token_core.specs.Fronted.{Fronting}
use Rattle.token_core.specs.Groups.{brace}
use Rattle.token_core.specs.Listed.{AreListed, Anywhere}
use Rattle.token_core.specs.Reads.{is_ident}
use Rattle.token_core.specs.Spellings.{IsMark, IsWord}
use Rattle.token_core.specs.Toks.{Toks, done, word, group}
use Rattle.item_small.specs.declared.item.BodyOf.{BodyOf}
use Rattle.item_small.specs.declared.item.BodyOf.TheVariants as b
use Rattle.item_small.specs.declared.item.FieldOf.{FieldOf}
use Rattle.item_small.specs.declared.item.ItemOf.{ItemOf}
use Rattle.item_small.specs.item.Trees.{Struct, Semi, Colon, Comma, field_of, item_of}

-- an identifier that is no keyword
pub data IsName : Ident → Toks → Toks → Type 0 where
  a_name : {i : Ident} {r : Toks} → is_ident i.text ≡ true → IsName i (word i r) r

module _ {A T : Type 0} (a : Fronting A) (t : Fronting T) (clear : Bool) where
  -- attributes, a name, `:` and a type
  pub data IsField : FieldOf A T → Toks → Toks → Type 0 where
    a_field : {x : A} {i : Ident} {c : Colon} {y : T} {l m n k r : Toks} → a.begins clear x l m → IsName i m n → IsMark clear c n k → t.begins clear y k r → IsField (field_of x i c y) l r

  -- fields joined by commas, of which there may be none and the last may have its comma
  abbrev pub AreFields : Bool → List (FieldOf A T) → List Comma → Toks → Toks → Type 0
  AreFields = AreListed (λ (_ : Bool). IsField) (IsMark clear) Anywhere

  -- fields, which are all that braces hold, or `;`
  pub data IsBody : BodyOf A T → Toks → Toks → Type 0 where
    named : {s : DelimSpan} {xs : List (FieldOf A T)} {cs : List Comma} {l r : Toks} → AreFields true xs cs l done → IsBody (b.Named (brace s) (xs, cs)) (group Brace s l r) r
    unit : {q : Semi} {l r : Toks} → IsMark clear q l r → IsBody (b.Unit q) l r

module _ {A G W T : Type 0} (a : Fronting A) (g : Fronting G) (w : Fronting W) (t : Fronting T) (clear : Bool) where
  -- attributes, `struct`, a name, generics, a where clause and a body
  pub data IsItem : ItemOf A G W T → Toks → Toks → Type 0 where
    an_item : {x : A} {s : Struct} {i : Ident} {y : G} {z : W} {v : BodyOf A T} {l m n k o p r : Toks} →
        a.begins clear x l m → IsWord s m n → IsName i n k → g.begins clear y k o → w.begins clear z o p → IsBody a t clear v p r → IsItem (item_of x s i y z v) l r
