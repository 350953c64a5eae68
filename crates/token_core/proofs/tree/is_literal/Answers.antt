use Rattle.token_core.proofs.Bares.{literal_ident, literal_punct, literal_group, same_literal}
use Rattle.token_core.proofs.tree.is_literal.Goals as goal

pub returns-in-Ident : goal.returns-in-Ident
returns-in-Ident c = literal_ident _ _ c.in-Ident.field-0 c.in-Ident.is

pub returns-in-Punct : goal.returns-in-Punct
returns-in-Punct c = literal_punct _ _ c.in-Punct.field-0 c.in-Punct.is

pub returns-in-Group : goal.returns-in-Group
returns-in-Group c = literal_group _ _ c.in-Group.field-0 c.in-Group.is

pub returns-in-Literal : goal.returns-in-Literal
returns-in-Literal c = same_literal _ _ _ _ c.in-Literal.is c.same_literal.ensures
