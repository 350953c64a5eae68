-- The name of an associated item: by the segment that a path is, and what follows a type that names none.
use Rattle.std.proofs.Common.{◌≡◌, false, List, [], ◌∷◌, Option, Some, None, Ok, refl}
use Rattle.std.specs.Prelude.{is_some}
use Rattle.syn_ty.proofs.ty_laws.words.Tokens.{Stream}
use Rattle.syn_ty.proofs.ty_laws.words.Paths.{ReadValues}
use Rattle.syn_ty.proofs.ty_laws.words.Types.{out-PathArgumentsOf, Sep, ItemName, generics_layer, with_name, item_of_path, after_type, Readers, PathSegment, QSelf, TypeTree}
use Rattle.syn_path.specs.path.Paths.{lone_of}
use Rattle.syn_ty.specs.declared.path.GenericArgumentOf.TheVariants as g

module _ {A E : Type 0} where
  abbrev pub name_of : Option (PathSegment A E) → Option (ItemName A E)
  name_of None = None
  name_of (Some s) = with_name s.ident (generics_layer (out-PathArgumentsOf A E s.arguments))

  abbrev pub name_in : Option (QSelf A E) → Option (PathSegment A E) → Option (ItemName A E)
  name_in None o = name_of o
  name_in (Some q) o = None

  pub item-lone : (q : Option (QSelf A E)) (c : Option Sep) (all : List (PathSegment A E)) → item_of_path q c all ≡ name_in q (lone_of c all)
  item-lone (Some q) c all = refl
  item-lone None (Some c) all = refl
  item-lone None None [] = refl
  item-lone None None (s ∷ []) = refl
  item-lone None None (s ∷ t ∷ all) = refl

  -- a type that names no item is an argument
  pub nameless : (values : ReadValues E) (r : Readers A E) (t : TypeTree A E) (o : Option (ItemName A E)) (s : Stream) → is_some o ≡ false → after_type values r t o s ≡ Ok (g.«Type» t, s)
  nameless values r t None s h = refl
  nameless values r t (Some n) s h = cc

pub ruleset items = (item-lone)

pub ruleset nameless_types = (nameless)
