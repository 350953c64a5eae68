-- What the laws of patterns name of types, paths, bounds and parameters.
pub use Rattle.syn_ty.specs.generics.NormalShapes.{many}
pub use Rattle.syn_ty.specs.path.Paths.{Sep, is_none}
pub use Rattle.syn_ty.specs.path.Reading.{is_mod_style}
pub use Rattle.syn_ty.specs.path.Spelling.{AreSegments, IsAnyPath, IsPath, IsSegment, a_path, a_word, a_word_with_arguments, by_type, by_type_as_path, is_segment_word, qualified, unqualified}
pub use Rattle.syn_ty.specs.ty.Parts.{AreMarked, End, Holds, IsVerbatim, Manner, Parts, clearly, loosely, no_further, one_further, plainly}
unfoldable pub use Rattle.syn_ty.specs.ty.Reading.{sees_call}
pub use Rattle.syn_ty.specs.ty.Spelling.{IsOptional, Relation, absent, present}
pub use Rattle.syn_ty.specs.ty.Trees.{Path, PathSegment, QSelf, TypeTree}
pub use Rattle.syn_ty.specs.ty.Types.{Comma}
