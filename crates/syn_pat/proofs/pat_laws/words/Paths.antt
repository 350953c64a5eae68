-- What the laws of patterns name of paths, macro calls and what is supplied.
pub use Rattle.syn_path.specs.Supplied.{Reprints, SameOutcome, UsesUp}
pub use Rattle.syn_path.specs.Took.{Along}
pub use Rattle.syn_path.specs.declared.mac.Macro.{Macro}
pub use Rattle.syn_path.specs.declared.path.PathOf.{PathOf}
pub use Rattle.syn_path.specs.declared.path.PathStyle.{PathStyle}
pub use Rattle.syn_path.specs.declared.supplied.Place.{Place}
pub use Rattle.syn_path.specs.declared.supplied.Place.TheVariants.{Block, Guard}
pub use Rattle.syn_path.specs.mac.Spelling.{IsCall, a_macro}
pub use Rattle.syn_path.specs.path.Paths.{ModPath, lone_ident, nothing}
pub use Rattle.syn_path.specs.path.Spelling.{IsBarePath, a_bare_path, is_mod_word, last_segment, leading, more_segments, no_leading}
