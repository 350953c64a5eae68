-- What the laws of types name of tokens, streams and reads.
pub use Rattle.token_core.specs.Front.{front}
unfoldable pub use Rattle.token_core.specs.Groups.{sees_invisible}
unfoldable pub use Rattle.token_core.specs.Keywords.{is_keyword}
pub use Rattle.token_core.specs.Lifetimes.{read_lifetime, with_ident}
unfoldable pub use Rattle.token_core.specs.Lifetimes.{sees_lifetime}
pub use Rattle.token_core.specs.Listed.{AfterMark, Anywhere, AreListed, Nowhere, last_value, none_left, value_and_mark}
pub use Rattle.token_core.specs.Lists.{joined}
unfoldable pub use Rattle.token_core.specs.Lits.{sees_lit, sees_str}
pub use Rattle.token_core.specs.Loops.{Many, listed_from, never, size, terminated}
unfoldable pub use Rattle.token_core.specs.Loops.{listed}
pub use Rattle.token_core.specs.Marks.{text_of}
pub use Rattle.token_core.specs.Positions.{Item}
pub use Rattle.token_core.specs.Prints.{Print}
pub use Rattle.token_core.specs.Reads.{Follows, Outcome, Reader, Reads, and_then, any_text, as_punct, as_word, builtin_text, closing, expected, here, ident_name, in_group, is_ident, is_joint, is_last, is_text, leaves, optional, past_mark, past_next, pure, second, third, ◌<$>◌, ◌>>=◌}
unfoldable pub use Rattle.token_core.specs.Reads.{after_one, is_done, next_word, read_word, sees_group, sees_mark, sees_word}
pub use Rattle.token_core.specs.Rebuilt.{IsVisible, Visible}
pub use Rattle.token_core.specs.Refusal.{Refusal}
pub use Rattle.token_core.specs.Spans.{none}
pub use Rattle.token_core.specs.Spellings.{IsLifetime, IsMark, IsStr, IsWord, is_lifetime, is_mark, is_word, last_char, more_chars}
pub use Rattle.token_core.specs.Stream.{Scope, Stream}
pub use Rattle.token_core.specs.Toks.{Bytes, Toks, done, enter, group, leave, lit, mark, word}
pub use Rattle.token_core.specs.Trees.{TokenStream, ident, punct, row, stream_of_trees, toks, trees}
pub use Rattle.token_core.specs.declared.lifetime.Lifetime.{Lifetime}
pub use Rattle.token_core.specs.declared.lit.Lit.{Lit}
pub use Rattle.token_core.specs.declared.lit.LitStr.{LitStr}
pub use Rattle.token_core.specs.declared.mark.Mark.{Mark}
pub use Rattle.token_core.specs.declared.mark.Spans.{Spans}
pub use Rattle.token_core.specs.declared.span.DelimSpan.{DelimSpan}
pub use Rattle.token_core.specs.declared.span.Span.{Span}
pub use Rattle.token_core.specs.declared.token.GroupToken.{GroupToken}
pub use Rattle.token_core.specs.declared.token.Paren.{Paren}
pub use Rattle.token_core.specs.declared.tree.Delimiter.{Delimiter}
pub use Rattle.token_core.specs.declared.tree.Delimiter.TheVariants.{Brace, Bracket, Parenthesis}
pub use Rattle.token_core.specs.declared.tree.Ident.{Ident}
pub use Rattle.token_core.specs.declared.tree.Punct.{Punct}
pub use Rattle.token_core.specs.declared.tree.Spacing.{Spacing}
pub use Rattle.token_core.specs.declared.tree.Spacing.TheVariants.{Joint}
pub use Rattle.token_core.specs.declared.tree.TokenTree.{TokenTree}
pub use Rattle.token_core.specs.declared.word.Word.{Word}
