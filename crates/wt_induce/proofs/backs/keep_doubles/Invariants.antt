use Rattle.std.proofs.Common.{◌≡◌, ◌++◌, drop}
use Rattle.std.specs.List.{flat_map}
use Rattle.wt_grid.specs.Order.{first_in}
use Rattle.wt_torus.specs.Letters.{those}
use Rattle.wt_induce.specs.Induced.{reduced_draft, is_kept}
use Rattle.wt_induce.specs.Backs.{region_drafts, region_pairs_fault}
use Rattle.wt_induce.proofs.backs.keep_doubles.Given as goal

abbrev pub invariant-loop-p : goal.invariant-loop-p
invariant-loop-p l = record {
  kept : l.kept.items ++ those reduced_draft is_kept (flat_map (region_drafts l.zone l.backs) (drop l.p-index l.regions)) ≡ l.initial.kept.items ++ those reduced_draft is_kept (flat_map (region_drafts l.zone l.backs) l.regions);
  none : first_in (region_pairs_fault l.zone l.backs) (drop l.p-index l.regions) ≡ first_in (region_pairs_fault l.zone l.backs) l.regions;
}
