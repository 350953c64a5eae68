-- What the readers of patterns take on the front of a list.
use Rattle.std.specs.Prelude.{◌≡◌, ◌&&◌, ◌||◌, ℕ, zero, suc, Bool, false, []}
use Rattle.token_core.specs.declared.tree.Delimiter.TheVariants.{Parenthesis}
use Rattle.token_core.specs.Reads.{sees_group, third}
use Rattle.token_core.specs.Spellings.{IsMark}
use Rattle.token_core.specs.Tokens as token
use Rattle.token_core.specs.Toks.{Toks}
use Rattle.syn_path.specs.declared.supplied.Place.{Place}
use Rattle.syn_attr.specs.attr.Attrs.{Attribute as Attr}
use Rattle.syn_attr.specs.declared.expr.Expr.{Expr}
use Rattle.syn_forms.specs.declared.places.TypePlace.TheVariants.{Plus}
use Rattle.syn_ty.specs.ty.Fronts as types
use Rattle.syn_ty.specs.ty.Parts.{Manner, loosely}
use Rattle.syn_ty.specs.ty.Spelling.{Relation}
use Rattle.syn_ty.specs.ty.Trees.{TypeTree}
use Rattle.syn_pat.specs.declared.place.PatPlace.{PatPlace}
use Rattle.syn_pat.specs.declared.place.PatPlace.TheVariants.{Single}
use Rattle.syn_pat.specs.pat.Admitted.{IsPat, IsPatWhere}
use Rattle.syn_pat.specs.pat.Pats.{Pat, PatType, typed_of}
use Rattle.syn_pat.specs.pat.Spelling.{outer_spelt, values_spelt}
use Rattle.syn_pat.specs.pat.Spelt.{pats_to}

-- a `::` before parentheses, with which no path goes on
abbrev pub sees_called : Toks → Bool
sees_called l = token.sees_path_sep l && third (sees_group Parenthesis) l

-- Before `::` and parentheses, and before `!=`, a lone word is read as a path, and not as what it binds. No pattern is admitted there.
abbrev pub is_lone : Toks → Bool
is_lone r = sees_called r || token.sees_ne r

module _ {X : Type 0} (spells : Place → X → Toks → Type 0) where
  -- patterns of at most this height, whose last word may be a path there
  abbrev pub fronts_to : ℕ → Manner → PatPlace → Relation (Pat X)
  fronts_to zero how place x l r = ⊥
  fronts_to (suc n) how place x l r = IsPatWhere spells (fronts_to n) how is_lone place x l r

  -- an admitted one
  abbrev pub IsSomePat : PatPlace → Pat X → Toks → Toks → Type 0
  IsSomePat place x l r = (n : ℕ) × IsPat spells (pats_to spells n) loosely place x l r

  -- a pattern of some height; where no lone word is read as a path, an admitted one
  abbrev pub pat : PatPlace → Pat X → Toks → Toks → Type 0
  pat place x l r = ((n : ℕ) × IsPatWhere spells (fronts_to n) loosely is_lone place x l r) × (is_lone r ≡ false → IsSomePat place x l r)

  -- a single pattern, `:` and a type with plus: the pattern is admitted, since none of these stands before a type
  pub data IsSomePatType : PatType X → Toks → Toks → Type 0 where
    some_pat_type : {x : Pat X} {c : token.Colon} {t : TypeTree (Attr X) (Expr X)} {l m j k : Toks} →
        IsSomePat Single x l m → IsMark false c m j → types.ty (outer_spelt spells) (values_spelt spells) Plus t j k → IsSomePatType (typed_of [] x c t) l k

  abbrev pub typed : PatType X → Toks → Toks → Type 0
  typed = IsSomePatType
