-- What the laws of types name of paths, macro calls and what is supplied.
pub use Rattle.syn_path.specs.Ends.{Calm, Ended, Moved, Shut}
pub use Rattle.syn_path.specs.Lengths.{AttributeLaws}
pub use Rattle.syn_path.specs.Supplied.{UsesUp}
pub use Rattle.syn_path.specs.Took.{Along, TookOne}
pub use Rattle.syn_path.specs.Values.{NormalValues, ReadValues, SpelledValues, Values}
pub use Rattle.syn_path.specs.declared.mac.Macro.{Macro}
pub use Rattle.syn_path.specs.declared.path.PathOf.{PathOf}
pub use Rattle.syn_path.specs.declared.path.PathSegmentOf.{PathSegmentOf}
pub use Rattle.syn_path.specs.declared.path.PathStyle.{PathStyle}
pub use Rattle.syn_path.specs.declared.path.PathStyle.TheVariants.{AsWritten, Expr}
pub use Rattle.syn_path.specs.mac.Macros.{macro_of}
pub use Rattle.syn_path.specs.mac.Printing.{mac}
pub use Rattle.syn_path.specs.mac.Spelling.{IsCall, a_macro}
pub use Rattle.syn_path.specs.path.Paths.{Sep, path_of, segment_of}
pub use Rattle.syn_path.specs.path.Reading.{sees_sep, sep}
pub use Rattle.syn_path.specs.path.Shapes.{path_by}
pub use Rattle.syn_path.specs.path.Spelling.{AreSegments, IsBarePath, IsLeading, a_bare_path, is_mod_word, last_segment, leading, more_segments, no_leading}
