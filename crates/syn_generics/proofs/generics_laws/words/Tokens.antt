-- What the laws of generics name of tokens: lists, streams, reads and spellings.
pub use Rattle.token_core.specs.Lifetimes.{read_lifetime}
unfoldable pub use Rattle.token_core.specs.Lifetimes.{sees_lifetime}
pub use Rattle.token_core.specs.Listed.{AreListed, Anywhere, Nowhere, none_left, last_value, value_and_mark}
pub use Rattle.token_core.specs.Lists.{joined}
pub use Rattle.token_core.specs.Loops.{Many}
pub use Rattle.token_core.specs.Marks.{text_of}
pub use Rattle.token_core.specs.Prints.{Print}
pub use Rattle.token_core.specs.Reads.{Reader, any_text, as_word, is_text, word_meets, builtin_text, is_ident, meets, second, third, optional}
unfoldable pub use Rattle.token_core.specs.Reads.{is_done, sees_group, sees_word, after_one, sees_mark}
pub use Rattle.token_core.specs.Rebuilt.{Visible}
pub use Rattle.token_core.specs.Spans.{none}
pub use Rattle.token_core.specs.Spellings.{IsMark, is_mark, last_char, more_chars, IsWord, is_word, IsLifetime, is_lifetime}
pub use Rattle.token_core.specs.Stream.{Stream, Scope}
pub use Rattle.token_core.specs.Toks.{Bytes, Toks, done, word, mark, group, lit, enter, leave}
pub use Rattle.token_core.specs.Trees.{row, punct}
pub use Rattle.token_core.specs.declared.lifetime.Lifetime.{Lifetime}
pub use Rattle.token_core.specs.declared.span.Span.{Span}
pub use Rattle.token_core.specs.declared.tree.Delimiter.TheVariants.{Brace, Parenthesis, Bracket}
pub use Rattle.token_core.specs.declared.tree.Ident.{Ident}
