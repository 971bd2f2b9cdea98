-- The coding law and its converse.
use Rattle.std.proofs.Common.{arith, ◌≡◌, ℕ, ◌<◌, ◌≤◌, length, false}
use Rattle.wt_grid.specs.declared.axis.Axis.{Axis}
use Rattle.std.proofs.lemmas.List.{length-map}
use Rattle.wt_plane.specs.HalfPlanes.{Spot, IsSpot}
use Rattle.wt_grid.specs.Grid.{Grid, along, across, lines}
use Rattle.wt_grid.specs.Parts.{AllBelow}
use Rattle.wt_grid.proofs.Rectangles.{in_image, below_lines}
use Rattle.wt_torus.specs.declared.partition.Partition.{Partition}
use Rattle.wt_torus.specs.Codes.{IsCode}
use Rattle.wt_torus.proofs.Lowered.{lowest_is, less_is_half}
use Rattle.wt_morphism.specs.Images.{piece, pieces}
use Rattle.wt_morphism.proofs.Evenness.{only_image}
use Rattle.wt_induce.specs.Induced.{induced, morphism}
use Rattle.wt_torus.specs.Sound.{IsSound}
use Rattle.wt_induce.specs.Law.{is_half, IsInWindow, block_lines, code_along, IsCodedByBlocks}
use Rattle.wt_induce.proofs.Coded.{coded, decoded}

pub coding_law : (axis : Axis) (p : Partition) → IsSound p → is_half axis p.torus ≡ false → (z : Spot) → IsSpot z → IsInWindow axis p.torus z → (q : Grid) → IsCode (induced axis p) z q → IsCodedByBlocks axis p z q
unfolding morphism
coding_law axis p sound half z spot inside q code =
    let c = coded lowest_is less_is_half axis p sound half z spot.divisor inside q code in
    let m = morphism axis p in
    let low = below_lines axis (length (pieces m)) q (in_image (pieces m) (lines axis q) (lines axis (code_along axis p z (block_lines axis p.torus z (along axis q)) (across axis q))) c.1) in
    let below : AllBelow (length m.table) q = λ x y lx ly. (let a = low x y lx ly in let e = length-map m.table piece in omega arith) in
    let i = (only_image m q (code_along axis p z (block_lines axis p.torus z (along axis q)) (across axis q)) code.grid c.0.grid below).0 c.1 in
    record { code = c.0; even = i.0; image = i.1 }

pub converse_law : (axis : Axis) (p : Partition) → IsSound p → is_half axis p.torus ≡ false → (z : Spot) → IsSpot z → IsInWindow axis p.torus z → (g : Grid) → IsCode p z g
    → (n : ℕ) → 1 ≤ n → block_lines axis p.torus z n < along axis g → IsCode (induced axis p) z (code_along axis (induced axis p) z n (across axis g))
converse_law axis p sound half z spot inside g code n some less = decoded lowest_is less_is_half axis p sound half z spot.divisor inside g code n some less
