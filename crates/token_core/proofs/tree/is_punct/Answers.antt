use Rattle.token_core.proofs.Bares.{punct_ident, punct_literal, punct_group, same_punct}
use Rattle.token_core.proofs.tree.is_punct.Goals as goal

pub returns-in-Ident : goal.returns-in-Ident
returns-in-Ident c = punct_ident _ _ c.in-Ident.field-0 c.in-Ident.is

pub returns-in-Literal : goal.returns-in-Literal
returns-in-Literal c = punct_literal _ _ c.in-Literal.field-0 c.in-Literal.is

pub returns-in-Group : goal.returns-in-Group
returns-in-Group c = punct_group _ _ c.in-Group.field-0 c.in-Group.is

pub returns-in-Punct : goal.returns-in-Punct
returns-in-Punct c = same_punct _ _ _ _ c.in-Punct.is c.same_punct.ensures
