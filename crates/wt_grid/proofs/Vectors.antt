-- Vectors, read along either axis.
use Rattle.std.proofs.Common.{arith, ◌≡◌, ◌+◌, ℕ, Bool, true, false, sym, ◌∙◌, ap}
use Rattle.wt_grid.specs.Axes.{other}
use Rattle.wt_grid.specs.declared.axis.Axis.{Axis}
use Rattle.wt_grid.specs.Grid.{Grid, at}
use Rattle.wt_grid.specs.Shifts.{HasVector}
use Rattle.wt_grid.proofs.TraceSteps.{at_other, along_other, across_other}

-- the other axis reads the same vector the other way
pub other_vector : (axis : Axis) (opposed : Bool) (d e : ℕ) (g : Grid) → HasVector axis opposed d e g → HasVector (other axis) opposed e d g
other_vector axis true d e g h i j li la lb =
    let oa = along_other axis g in
    let ob = across_other axis g in
    let z : j + 0 ≡ j = omega arith in
    let w : i + 0 ≡ i = omega arith in
    at_other axis g i (j + d)
    ∙ (ap (λ (x : ℕ). at axis g (j + d) x) (sym w) ∙ (sym (h j i (omega arith) (omega arith) (omega arith)) ∙ (sym (at_other axis g (i + e) j) ∙ ap (λ (x : ℕ). at (other axis) g (i + e) x) (sym z))))
other_vector axis false d e g h i j li la lb =
    let oa = along_other axis g in
    let ob = across_other axis g in
    let z : j + 0 ≡ j = omega arith in
    let w : i + 0 ≡ i = omega arith in
    ap (λ (x : ℕ). at (other axis) g i x) z
    ∙ (at_other axis g i j ∙ (ap (λ (x : ℕ). at axis g j x) (sym w) ∙ (h j i (omega arith) (omega arith) (omega arith) ∙ sym (at_other axis g (i + e) (j + d)))))
