use Rattle.token_text.proofs.Choices.{unopened_slash, unopened_quote, unopened_backslash}
use Rattle.token_text.proofs.Pasts.{tells_past}
use Rattle.token_text.proofs.front.unopened.Goals as goal

pub returns-in-47 : goal.returns-in-47
returns-in-47 c = tells_past _ _ _ _ _ c.requires.1 (unopened_slash c.args.docs c.args.first _ c.in-47.is) c.slash.ensures

pub returns-in-39 : goal.returns-in-39
returns-in-39 c = tells_past _ _ _ _ _ c.requires.1 (unopened_quote c.args.docs c.args.first _ c.in-39.is) c.lifetime.ensures

pub returns-in-92 : goal.returns-in-92
returns-in-92 c = tells_past _ _ _ _ _ c.requires.1 (unopened_backslash c.args.docs c.args.first _ c.in-92.is) c.backslash.ensures
