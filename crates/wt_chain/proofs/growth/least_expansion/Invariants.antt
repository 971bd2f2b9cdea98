use Rattle.std.proofs.Common.{◌≡◌, ◌-◌}
use Rattle.wt_grid.specs.declared.axis.Axis.TheVariants.{One, Two}
use Rattle.wt_grid.specs.First.{first_from}
use Rattle.wt_chain.specs.Tables.{turns_table}
use Rattle.wt_chain.specs.Faults.{enough, least_expansion}
use Rattle.wt_chain.proofs.growth.least_expansion.Given as goal

abbrev pub invariant-loop-turn : goal.invariant-loop-turn
invariant-loop-turn l = record {
  widths : l.wide ≡ turns_table One l.links l.renaming l.turn;
  heights : l.high ≡ turns_table Two l.links l.renaming l.turn;
  left : first_from (enough l.links l.renaming l.count) l.turn (l.count - l.turn) ≡ least_expansion l.links l.renaming l.count;
}
