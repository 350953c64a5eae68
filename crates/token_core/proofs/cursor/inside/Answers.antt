use Rattle.std.proofs.Common.{sym, ◌∙◌}
use Rattle.token_core.specs.Entries.{saw}
use Rattle.token_core.specs.Positions.{entries_items}
use Rattle.token_core.proofs.SeenClasses.{opens}
use Rattle.token_core.proofs.cursor.inside.Goals as goal

pub returns-in-Open : goal.returns-in-Open
returns-in-Open c = opens (saw c.args.entry.now) c.in-Open.field-0 (entries_items c.args.more.now) (sym c.class.ensures ∙ c.in-Open.is)
