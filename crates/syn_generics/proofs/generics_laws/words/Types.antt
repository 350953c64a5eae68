-- What the laws of generics name of types, bounds and parameters.
pub use Rattle.syn_ty.specs.generics.Bounds.{IsFor}
pub use Rattle.syn_ty.specs.generics.Members.{Member, comma_of, lacks, some_left, adds, each, members, members_of, firsts, others, sorted, sort}
pub use Rattle.syn_ty.specs.generics.NormalShapes.{many}
pub use Rattle.syn_ty.specs.generics.Parameters.{begins_as_generics, AreLifetimes, a_type_param, a_const_param, IsParam, a_lifetime_param, a_named_param, a_constant_param, a_bare_param}
pub use Rattle.syn_ty.specs.generics.Params.{Comma, is_lifetime, const_param_of, type_param_of}
pub use Rattle.syn_ty.specs.generics.Reading.{sees_ident, binder}
unfoldable pub use Rattle.syn_ty.specs.generics.Reading.{optional_binder}
pub use Rattle.syn_ty.specs.generics.Shapes.{or_default, lifetimes_joined}
pub use Rattle.syn_ty.specs.generics.Spelling.{a_binder}
pub use Rattle.syn_ty.specs.generics.Views.{strip, strip_layer}
pub use Rattle.syn_ty.specs.ty.Knot.{reads_below, ty}
pub use Rattle.syn_ty.specs.ty.Parts.{Manner, plainly, clearly, End, Parts, loosely}
pub use Rattle.syn_ty.specs.ty.Points.{Readers, a_param}
pub use Rattle.syn_ty.specs.ty.Spelling.{IsOptional, absent, present, an_infer, a_never, Relation}
pub use Rattle.syn_ty.specs.ty.Trees.{BoundLifetimes, TypeTree, GenericParam, Path, PathArguments, PathSegment, QSelf, TypeFnPtr, TypeParamBound, ConstParam}
