use Rattle.wt_window.specs.Surrounded.{allowed}
use Rattle.wt_search.proofs.Levels.{same_table}
use Rattle.wt_search.proofs.level.table_at.Goals as goal

pub returns-in-Ok-clause-table : goal.returns-in-Ok-clause-table
returns-in-Ok-clause-table c = same_table c.args.set.list.now.tiles c.args.axis c.args.radius (allowed c.in-Ok.table) (c.in-Ok.ensures {u = tt}).0
