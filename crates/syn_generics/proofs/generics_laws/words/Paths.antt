-- What the laws of generics name of paths, calls and what is supplied.
pub use Rattle.syn_path.specs.Took.{Along}
pub use Rattle.syn_path.specs.Values.{NormalValues, ReadValues, SpelledValues, Values}
