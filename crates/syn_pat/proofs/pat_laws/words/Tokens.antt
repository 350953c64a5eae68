-- What the laws of patterns name of tokens, streams and reads.
unfoldable pub use Rattle.token_core.specs.Keywords.{is_keyword}
pub use Rattle.token_core.specs.Listed.{Anywhere, AreListed, Nowhere, last_value, none_left, value_and_mark}
unfoldable pub use Rattle.token_core.specs.Lits.{sees_lit}
pub use Rattle.token_core.specs.Loops.{Many, never, size}
unfoldable pub use Rattle.token_core.specs.Loops.{listed}
pub use Rattle.token_core.specs.Marks.{text_of}
pub use Rattle.token_core.specs.Prints.{Print}
pub use Rattle.token_core.specs.Reads.{Outcome, Reader, and_then, ident_name, in_group, is_ident, is_text, leaves, optional, pure, ◌>>=◌}
unfoldable pub use Rattle.token_core.specs.Reads.{after_one, is_done, read_word, sees_group, sees_mark, sees_word}
pub use Rattle.token_core.specs.Rebuilt.{Visible}
pub use Rattle.token_core.specs.Refusal.{Refusal}
pub use Rattle.token_core.specs.Spans.{none}
pub use Rattle.token_core.specs.Spellings.{AreLimits, AreOldLimits, IsLit, IsMark, IsMember, IsWord, a_bool, a_literal, a_negative, closed, half_open, is_mark, is_word, last_char, more_chars, new_limits, old_limits}
pub use Rattle.token_core.specs.Stream.{Scope, Stream}
pub use Rattle.token_core.specs.Toks.{Bytes, Toks, done, enter, group, leave, lit, mark, word}
pub use Rattle.token_core.specs.Trees.{TokenStream, punct, row, trees}
pub use Rattle.token_core.specs.declared.lit.Lit.{Lit}
pub use Rattle.token_core.specs.declared.mark.Mark.{Mark}
pub use Rattle.token_core.specs.declared.member.Member.{Member}
pub use Rattle.token_core.specs.declared.range.RangeLimits.{RangeLimits}
pub use Rattle.token_core.specs.declared.span.DelimSpan.{DelimSpan}
pub use Rattle.token_core.specs.declared.span.Span.{Span}
pub use Rattle.token_core.specs.declared.tree.Delimiter.{Delimiter}
pub use Rattle.token_core.specs.declared.tree.Delimiter.TheVariants.{Brace, Bracket, Parenthesis}
pub use Rattle.token_core.specs.declared.tree.Ident.{Ident}
pub use Rattle.token_core.specs.declared.tree.Punct.{Punct}
pub use Rattle.token_core.specs.declared.tree.Spacing.{Spacing}
pub use Rattle.token_core.specs.declared.tree.Spacing.TheVariants.{Joint}
pub use Rattle.token_core.specs.declared.word.Word.{Word}
