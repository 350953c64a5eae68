use Rattle.std.proofs.Common.{refl}
use Rattle.token_core.specs.declared.tree.TokenTree.TheVariants.{outs-Ident, outs-Punct, outs-Literal}
use Rattle.token_core.specs.Seen.{view-word, view-mark, view-lit}
use Rattle.token_core.proofs.buffer.tree_front.Goals as goal

pub returns-in-Ident-clause-shown : goal.returns-in-Ident-clause-shown
returns-in-Ident-clause-shown c = rw (c.of.ensures, c.in-Ident.is, outs-Ident, view-word) refl

pub returns-in-Punct-clause-shown : goal.returns-in-Punct-clause-shown
returns-in-Punct-clause-shown c = rw (c.of-in-Punct.ensures, c.in-Punct.is, outs-Punct, view-mark) refl

pub returns-in-Literal-clause-shown : goal.returns-in-Literal-clause-shown
returns-in-Literal-clause-shown c = rw (c.of-in-Literal.ensures, c.in-Literal.is, outs-Literal, view-lit) refl
