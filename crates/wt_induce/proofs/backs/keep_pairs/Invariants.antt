use Rattle.std.proofs.Common.{◌≡◌, ◌++◌, drop}
use Rattle.std.specs.List.{flat_map}
use Rattle.wt_grid.specs.Order.{first_in}
use Rattle.wt_torus.specs.Letters.{those}
use Rattle.wt_induce.specs.Induced.{reduced_draft, is_kept}
use Rattle.wt_induce.specs.Backs.{back_drafts, back_fault}
use Rattle.wt_induce.proofs.backs.keep_pairs.Given as goal

abbrev pub invariant-loop-q : goal.invariant-loop-q
invariant-loop-q l = record {
  kept : l.kept.items ++ those reduced_draft is_kept (flat_map (back_drafts l.front l.label) (drop l.q-index l.backs)) ≡ l.initial.kept.items ++ those reduced_draft is_kept (flat_map (back_drafts l.front l.label) l.backs);
  none : first_in (back_fault l.front l.label) (drop l.q-index l.backs) ≡ first_in (back_fault l.front l.label) l.backs;
}
