use Rattle.std.proofs.Common.{ap, ◌∙◌}
use Rattle.std.specs.Str.{bytes_eq}
use Rattle.token_core.proofs.Bares.{ident_punct, ident_literal, ident_group, same_ident}
use Rattle.token_core.proofs.tree.is_ident.Goals as goal

pub returns-in-Punct : goal.returns-in-Punct
returns-in-Punct c = ident_punct _ _ c.in-Punct.field-0 c.in-Punct.is

pub returns-in-Literal : goal.returns-in-Literal
returns-in-Literal c = ident_literal _ _ c.in-Literal.field-0 c.in-Literal.is

pub returns-in-Group : goal.returns-in-Group
returns-in-Group c = ident_group _ _ c.in-Group.field-0 c.in-Group.is

pub returns-in-Ident : goal.returns-in-Ident
returns-in-Ident c = same_ident _ c.in-Ident.i _ _ c.in-Ident.is (c.is.ensures ∙ ap (bytes_eq c.args.ident.now.text) c.text.ensures)
