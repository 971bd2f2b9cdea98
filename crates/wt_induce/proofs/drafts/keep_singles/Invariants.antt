use Rattle.std.proofs.Common.{◌≡◌, ◌++◌, drop}
use Rattle.wt_grid.specs.Order.{first_in}
use Rattle.wt_torus.specs.Letters.{those}
use Rattle.wt_induce.specs.Faults.{planes_fault}
use Rattle.wt_induce.specs.Induced.{reduced_draft, is_kept, singles}
use Rattle.wt_induce.proofs.drafts.keep_singles.Given as goal

abbrev pub invariant-loop-p : goal.invariant-loop-p
invariant-loop-p l = record {
  kept : l.kept.items ++ those reduced_draft is_kept (singles l.zone (drop l.p-index l.regions)) ≡ l.initial.kept.items ++ those reduced_draft is_kept (singles l.zone l.regions);
  none : first_in planes_fault (singles l.zone (drop l.p-index l.regions)) ≡ first_in planes_fault (singles l.zone l.regions);
}
