-- For each reader, what its whole read promises aside from spans.
use Rattle.std.specs.Prelude.{List, option_map}
use Rattle.token_core.specs.Prints.{Print}
use Rattle.syn_path.specs.mac.Grammars as macros
use Rattle.syn_path.specs.path.Grammars as paths
use Rattle.syn_path.specs.Traits as traits
use Rattle.syn_attr.specs.attr.Attrs.{Attribute as Attr}
use Rattle.syn_attr.specs.attr.Consts.{outer}
use Rattle.syn_attr.specs.attr.Grammars as attributes
use Rattle.syn_attr.specs.attr.Traits as given
use Rattle.syn_attr.specs.declared.expr.Expr.{Expr}
use Rattle.syn_forms.specs.declared.places.TypePlace.{TypePlace}
use Rattle.syn_forms.specs.tokens.Grammars as tokens
use Rattle.syn_generics.specs.generics.Promises as clauses
use Rattle.syn_pat.specs.declared.place.PatPlace.{PatPlace}
use Rattle.syn_pat.specs.pat.Promises as patterns
use Rattle.syn_ty.specs.ty.Grammars as plain
use Rattle.syn_ty.specs.ty.Promises as promises
use Rattle.syn_laws.specs.aside.Attrs as free_attrs
use Rattle.syn_laws.specs.aside.Generics as free_generics
use Rattle.syn_path.specs.aside.Lists.{Asides}
use Rattle.syn_path.specs.aside.Paths as free_paths
use Rattle.syn_laws.specs.aside.Pats as free_patterns
use Rattle.syn_laws.specs.aside.Types as free

-- ---- what holds no attribute and no expression

pub record WithoutValues : Type 0 where
  pub macro_call : Asides macros.mac free_paths.mac
  pub meta_list : Asides attributes.list free_attrs.list
  pub mutability : Asides tokens.mutability free.mutability
  pub abi : Asides promises.abi free.abi
  pub optional_abi : Asides promises.optional_abi (option_map free.abi)
  pub capture : Asides promises.capture free.capture
  pub captured : Asides promises.captured free.captured

-- a path of mod style, whatever may stand in the place of arguments, and whatever these are without spans
pub record ModPaths {G : Type 0} (none : G) (shown : G → Print) : Type 0 where
  pub mod_style : (arguments : G → G) → Asides (paths.mod_style none shown) (free_paths.path arguments)

-- ---- over a supplied subtree

module _ {X : Type 0} (sub : traits.Subtree X) where
  pub record Attributes : Type 0 where
    pub meta : Asides (attributes.meta sub) (free_attrs.meta sub.bare)
    pub name_value : Asides (attributes.name_value sub) (free_attrs.name_value sub.bare)
    pub outer : Asides (attributes.outer sub) (free_attrs.attributes sub.bare)
    pub inner : Asides (attributes.inner sub) (free_attrs.attributes sub.bare)

  -- attributes and expressions in types
  abbrev attrs : traits.Attributes (Attr X)
  attrs = given.attributes sub

  abbrev exprs : traits.Expressions (Expr X)
  exprs = given.expressions sub

  -- without their spans
  abbrev attrs_bare : List (Attr X) → List (Attr X)
  attrs_bare = free_attrs.attributes sub.bare

  abbrev exprs_bare : Expr X → Expr X
  exprs_bare = free_attrs.value sub.bare

  -- paths and their arguments
  pub record Paths : Type 0 where
    pub path : Asides (promises.path attrs exprs) (free.path attrs_bare exprs_bare)
    pub segment : Asides (promises.segment attrs exprs) (free.segment attrs_bare exprs_bare)
    pub argument : Asides (promises.argument attrs exprs) (free.argument attrs_bare exprs_bare)
    pub angle : Asides (promises.angle attrs exprs) (free.angle attrs_bare exprs_bare)
    pub turbofish : Asides (promises.turbofish attrs exprs) (free.angle attrs_bare exprs_bare)
    pub parenthesized : Asides (promises.parenthesized attrs exprs) (free.parenthesized attrs_bare exprs_bare)

  -- types, in a place with plus or without
  pub record Types : Type 0 where
    pub ty : (place : TypePlace) → Asides (promises.ty attrs exprs place) (free.ty attrs_bare exprs_bare)
    pub return_type : (place : TypePlace) → Asides (promises.return_type attrs exprs place) (free.return_type attrs_bare exprs_bare)
    pub trait_object : (place : TypePlace) → Asides (promises.trait_object attrs exprs place) (free.trait_object attrs_bare exprs_bare)
    pub impl_trait : (place : TypePlace) → Asides (promises.impl_trait attrs exprs place) (free.impl_trait attrs_bare exprs_bare)
    pub array : Asides (promises.array attrs exprs) (free.array attrs_bare exprs_bare)
    pub fn_ptr : Asides (promises.fn_ptr attrs exprs) (free.fn_ptr attrs_bare exprs_bare)
    pub group : Asides (promises.group attrs exprs) (free.group attrs_bare exprs_bare)
    pub paren : Asides (promises.paren attrs exprs) (free.paren attrs_bare exprs_bare)
    pub path_type : Asides (promises.path_type attrs exprs) (free.path_type attrs_bare exprs_bare)
    pub ptr : Asides (promises.ptr attrs exprs) (free.ptr attrs_bare exprs_bare)
    pub reference : Asides (promises.reference attrs exprs) (free.reference attrs_bare exprs_bare)
    pub slice : Asides (promises.slice attrs exprs) (free.slice attrs_bare exprs_bare)
    pub tuple : Asides (promises.tuple attrs exprs) (free.tuple attrs_bare exprs_bare)
    pub named_arg : Asides (promises.named_arg attrs exprs) (free.named_arg attrs_bare exprs_bare)
    pub infer : Asides (plain.infer attrs.normal) (free.infer attrs_bare exprs_bare)
    pub never : Asides (plain.never attrs.normal) (free.never attrs_bare exprs_bare)
    pub macro_type : Asides (plain.macro_type attrs.normal) (free.macro_type attrs_bare exprs_bare)

  -- parameters, binders and bounds
  pub record Parameters : Type 0 where
    pub param : Asides (promises.param attrs exprs) (free.param attrs_bare exprs_bare)
    pub lifetime_param : Asides (promises.lifetime_param attrs) (free.lifetime_param attrs_bare exprs_bare)
    pub type_param : Asides (promises.type_param attrs exprs) (free.type_param attrs_bare exprs_bare)
    pub const_param : Asides (promises.const_param attrs exprs) (free.const_param attrs_bare exprs_bare)
    pub binder : Asides (promises.binder attrs exprs) (free.bound_lifetimes attrs_bare exprs_bare)
    pub optional_binder : Asides (promises.optional_binder attrs exprs) (option_map (free.bound_lifetimes attrs_bare exprs_bare))
    pub bound : Asides (promises.bound attrs exprs) (free.bound attrs_bare exprs_bare)
    pub trait_bound : Asides (promises.trait_bound attrs exprs) (free.trait_bound attrs_bare exprs_bare)

  -- generics and where clauses
  pub record Generics : Type 0 where
    pub generics : Asides (clauses.generics attrs exprs) (free_generics.generics attrs_bare exprs_bare)
    pub where_clause : Asides (clauses.where_clause attrs exprs) (free_generics.where_clause attrs_bare exprs_bare)
    pub optional_where_clause : Asides (clauses.optional_where_clause attrs exprs) (option_map (free_generics.where_clause attrs_bare exprs_bare))
    pub predicate : Asides (clauses.predicate attrs exprs) (free_generics.predicate attrs_bare exprs_bare)

  -- patterns: single, multi and with leading vert; with a guard; and with a type
  pub record Patterns : Type 0 where
    pub pat : (place : PatPlace) → Asides (patterns.pat sub place) (free_patterns.pat sub.bare)
    pub guarded : Asides (patterns.guarded sub) (free_patterns.pat sub.bare)
    pub typed : Asides (patterns.typed sub) (free_patterns.typed sub.bare)
