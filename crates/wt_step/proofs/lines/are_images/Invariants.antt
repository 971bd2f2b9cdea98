use Rattle.std.proofs.Common.{◌≡◌, ◌<◌, ◌≤◌, ◌-◌, ℕ, true}
use Rattle.std.specs.List.{list_any}
use Rattle.wt_grid.specs.declared.image.Image.TheVariants.{Two}
use Rattle.wt_lane.specs.Masks.{mask_bit}
use Rattle.wt_step.specs.Words.{same_image}
use Rattle.wt_step.proofs.lines.are_images.Given as goal

abbrev pub invariant-loop-b : goal.invariant-loop-b
invariant-loop-b l = record {
  few : l.from ≤ 256;
  images : (k : ℕ) → k < l.from → mask_bit l.mask k ≡ 1 → list_any (same_image (Two l.a k)) l.raw.images ≡ true;
}

abbrev pub decreases-loop-b : goal.decreases-loop-b
decreases-loop-b l = 257 - l.from
