-- The reads of paths and their arguments, over the reads of what they hold.
use Rattle.std.specs.Prelude.{Bool, not, ◌&&◌, ◌||◌, if◌then◌else◌, List, [], ◌∷◌, Option, Some, None}
use Rattle.std.specs.List.{list_all}
use Rattle.syn_forms.specs.declared.places.BoundPlace.TheVariants.{Parameter}
use Rattle.syn_forms.specs.declared.places.TypePlace.TheVariants.{Plus, NoPlus}
use Rattle.syn_forms.specs.heads.Reading as heads
use Rattle.syn_forms.specs.inputs.Reading.{signature}
use Rattle.syn_forms.specs.lists.Reading.{bounds_to}
use Rattle.syn_forms.specs.paths.Reading as paths
use Rattle.syn_path.specs.declared.path.PathStyle.{PathStyle}
use Rattle.syn_path.specs.declared.path.PathStyle.TheVariants.{AsWritten}
use Rattle.syn_path.specs.path.Reading.{sees_sep, sep}
use Rattle.syn_path.specs.Values.{ReadValues}
use Rattle.syn_ty.specs.declared.generics.GenericParamOf.TheOpen as o
use Rattle.syn_ty.specs.declared.path.GenericArgumentOf.TheVariants as g
use Rattle.syn_ty.specs.declared.path.PathArgumentsOf.{out-PathArgumentsOf}
use Rattle.syn_ty.specs.declared.path.PathArgumentsOf.TheVariants as a
use Rattle.syn_ty.specs.declared.ty.ReturnTypeOf.{ReturnTypeOf}
use Rattle.syn_ty.specs.declared.ty.ReturnTypeOf.TheVariants as ret
use Rattle.syn_ty.specs.declared.ty.TypeOf.{out-TypeOf}
use Rattle.syn_ty.specs.declared.ty.TypePathOf.{out-TypePathOf}
use Rattle.syn_ty.specs.path.Paths.{Sep, angle_of, assoc_const_of, assoc_type_of, constraint_of, is_empty, is_none, no_arguments, parens_of}
use Rattle.syn_ty.specs.ty.Points.{Readers, a_bound, a_type, an_argument, some_arguments}
use Rattle.syn_ty.specs.ty.Trees.{AngleBracketed, GenericArgument, Layer, Parenthesized, Path, PathArguments, PathSegment, QSelf, TypePath, TypeTree}
use Rattle.syn_ty.specs.ty.Types.{named_arg_of, qualified_with}
use Rattle.token_core.specs.declared.tree.Delimiter.TheVariants as d
use Rattle.token_core.specs.declared.tree.Ident.{Ident}
use Rattle.token_core.specs.Lifetimes.{read_lifetime, sees_lifetime}
use Rattle.token_core.specs.Lits.{sees_lit}
use Rattle.token_core.specs.Reads.{Reader, ◌>>=◌, ◌<$>◌, optional, peek, pure, second, sees_group, third}
use Rattle.token_core.specs.Toks.{Toks}
use Rattle.token_core.specs.Tokens as token

-- ---- tests

-- a literal or braces: what a const argument begins with
unfoldable pub sees_const : Toks → Bool
sees_const l = sees_lit l || sees_group d.Brace l

-- a lifetime by itself: with a `+` after it, it begins a trait object
unfoldable pub sees_lone_lifetime : Toks → Bool
sees_lone_lifetime l = sees_lifetime l && not (second token.sees_plus l)

-- where the bounds of an associated type end; the end of the input doesn't end them
unfoldable pub ends_constraint : Toks → Bool
ends_constraint l = token.sees_comma l || token.sees_gt l

-- parentheses, also after `::`
unfoldable pub sees_signature : Toks → Bool
sees_signature l = sees_group d.Parenthesis l || (sees_sep l && third (sees_group d.Parenthesis) l)

-- ---- questions about trees that were read

-- an associated item's name and its arguments
abbrev pub ItemName : Type 0 → Type 0 → Type 0
ItemName A E = Ident × Option (AngleBracketed A E)

module _ {A E : Type 0} where
  -- the arguments of an associated item's name: none or in angle brackets; those in parentheses are no such arguments
  abbrev pub generics_layer : Layer o.PathArgumentsOf-F A E → Option (Option (AngleBracketed A E))
  generics_layer o.None = Some None
  generics_layer (o.AngleBracketed x) = Some (Some x)
  generics_layer (o.Parenthesized x) = None

  abbrev pub with_name : Ident → Option (Option (AngleBracketed A E)) → Option (ItemName A E)
  with_name i None = None
  with_name i (Some x) = Some (i, x)

  abbrev pub item_of_segments : List (PathSegment A E) → Option (ItemName A E)
  item_of_segments [] = None
  item_of_segments (s ∷ []) = with_name s.ident (generics_layer (out-PathArgumentsOf A E s.arguments))
  item_of_segments (s ∷ t ∷ all) = None

  abbrev pub item_of_path : Option (QSelf A E) → Option Sep → List (PathSegment A E) → Option (ItemName A E)
  item_of_path None None all = item_of_segments all
  item_of_path None (Some c) all = None
  item_of_path (Some q) c all = None

  abbrev pub item_of_path_layer : Layer o.TypePathOf-F A E → Option (ItemName A E)
  item_of_path_layer x = item_of_path x.qself x.path.leading_colon x.path.segments.0

  abbrev pub item_layer : Layer o.TypeOf-F A E → Option (ItemName A E)
  item_layer (o.Path x) = item_of_path_layer (out-TypePathOf A E x)
  item_layer (o.Array x) = None
  item_layer (o.FnPtr x) = None
  item_layer (o.Group x) = None
  item_layer (o.ImplTrait x) = None
  item_layer (o.Infer x) = None
  item_layer (o.Macro x) = None
  item_layer (o.Never x) = None
  item_layer (o.Paren x) = None
  item_layer (o.Ptr x) = None
  item_layer (o.Reference x) = None
  item_layer (o.Slice x) = None
  item_layer (o.TraitObject x) = None
  item_layer (o.Tuple x) = None
  item_layer (o.TypeOf::Verbatim x) = None

  -- the name of an associated item, where the type is a path of one segment without leading colon or qualified self
  abbrev pub item_of : TypeTree A E → Option (ItemName A E)
  item_of x = item_layer (out-TypeOf A E x)

  -- a path without arguments
  abbrev pub is_mod_style : Path A E → Bool
  is_mod_style p = list_all (λ s. is_none s.arguments) p.segments.0

  -- the last segment has no arguments, or none between its angle brackets; a path has a segment
  abbrev pub takes_signature : Path A E → Bool
  takes_signature p = is_empty (paths.last_arguments no_arguments p.segments.0)

-- ---- what a signature is made of

module _ {T : Type 0} where
  abbrev pub return_of : Option (token.RArrow × T) → ReturnTypeOf T
  return_of None = ret.Default
  return_of (Some p) = ret.«Type» p.0 p.1

-- ---- reads of paths

module _ {A E : Type 0} (r : Readers A E) where
  -- `<'a, T>` after a `::` that may be there
  abbrev pub arguments_after : Option Sep → Reader (AngleBracketed A E)
  arguments_after c = (λ p. angle_of c p.0 p.1 p.2) <$> heads.angled (r an_argument)

  unfoldable pub angle_bracketed : Reader (AngleBracketed A E)
  angle_bracketed = optional sees_sep sep >>= arguments_after

  -- the `::` is needed
  unfoldable pub turbofish : Reader (AngleBracketed A E)
  turbofish = sep >>= (λ c. arguments_after (Some c))

  -- one turn: the arguments of a segment
  unfoldable pub arguments_step : Reader (PathArguments A E)
  arguments_step = a.AngleBracketed <$> angle_bracketed

  abbrev pub segment : PathStyle → Reader (PathSegment A E)
  segment = paths.segment no_arguments (r some_arguments)

  abbrev pub path : PathStyle → Reader (Path A E)
  path = paths.path no_arguments (r some_arguments)

  -- what goes on with the path of a type
  abbrev pub rest : Path A E → Reader (Path A E)
  rest = paths.rest no_arguments (r some_arguments) AsWritten

  -- a path, qualified by a type with plus where a `<` stands
  abbrev pub maybe_qualified : PathStyle → Reader (Option (QSelf A E) × Path A E)
  maybe_qualified = paths.maybe_qualified (r (a_type Plus)) no_arguments (r some_arguments)

  unfoldable pub path_type : Reader (TypePath A E)
  path_type = (λ p. qualified_with [] p.0 p.1) <$> maybe_qualified AsWritten

  -- `(A, B) -> C`: the output is read without plus
  unfoldable pub parenthesized : Reader (Parenthesized A E)
  parenthesized = (λ p. parens_of p.0 p.1 (return_of p.2)) <$> signature (named_arg_of [] None) (r (a_type Plus)) (r (a_type NoPlus))

  -- after the path of a trait: a signature, which takes the place of an empty `<>`; the `::` before it is not kept
  unfoldable pub signed : Path A E → Reader (Path A E)
  signed p = do
    here ← peek (λ l. takes_signature p && sees_signature l)
    if here then (do
      c ← optional sees_sep sep
      x ← parenthesized
      pure (paths.path_with (a.Parenthesized x) p)) else pure p

-- ---- an argument in angle brackets, over the read of a type at its front

module _ {A E : Type 0} (values : ReadValues E) (r : Readers A E) where
  -- after `=`: a constant at a literal or braces, else a type
  abbrev pub assoc : Ident → Option (AngleBracketed A E) → token.Equals → Reader (GenericArgument A E)
  assoc i x e = do
    value ← peek sees_const
    if value then (λ v. g.AssocConst (assoc_const_of i x e v)) <$> values.const_argument else (λ t. g.AssocType (assoc_type_of i x e t)) <$> r (a_type Plus)

  abbrev pub constraint : Ident → Option (AngleBracketed A E) → token.Colon → Reader (GenericArgument A E)
  constraint i x c = (λ v. g.Constraint (constraint_of i x c v)) <$> bounds_to (r (a_bound Parameter)) ends_constraint

  -- what follows a type that may be the name of an associated item
  unfoldable pub after_item : TypeTree A E → Ident → Option (AngleBracketed A E) → Reader (GenericArgument A E)
  after_item t i x = do
    is_assoc ← peek token.sees_equals
    if is_assoc then (token.equals >>= assoc i x) else (do
      is_constraint ← peek token.sees_colon
      if is_constraint then (token.colon >>= constraint i x) else pure (g.«Type» t))

  abbrev pub after_type : TypeTree A E → Option (ItemName A E) → Reader (GenericArgument A E)
  after_type t None = pure (g.«Type» t)
  after_type t (Some n) = after_item t n.0 n.1

  module _ (first : Reader (TypeTree A E)) where
    -- one turn: a lifetime, a constant, or what begins with a type
    unfoldable pub argument_step : Reader (GenericArgument A E)
    argument_step = do
      is_lifetime ← peek sees_lone_lifetime
      if is_lifetime then g.Lifetime <$> read_lifetime else (do
        is_const ← peek sees_const
        if is_const then g.Const <$> values.const_argument else (first >>= (λ t. after_type t (item_of t))))
