use Rattle.std.proofs.Common.{arith, ◌≡◌, ℕ, ◌*◌, length, ap, sym, ◌∙◌}
use Rattle.std.proofs.lemmas.Grind.{common_steps}
use Rattle.wt_grid.specs.Grid.{listed}
use Rattle.wt_grid.specs.First.{first_from}
use Rattle.wt_grid.proofs.Bridge.{length-listed}
use Rattle.wt_torus.specs.Codes.{row_fault}
use Rattle.wt_torus.specs.Cells.{line_fault, index_label}
use Rattle.wt_torus.proofs.Cells.{rows_are, cells_are}
use Rattle.wt_torus.proofs.coding.letters.Goals as goal

pub labels-requires-clause-wide : goal.labels-requires-clause-wide
labels-requires-clause-wide c =
    let e : length c.deref.result.now ≡ c.args.w = ap length (c.deref.ensures.value ∙ c.in_ok-xs.ensures) ∙ length-listed c.args.w _ in
    omega (arith, c.requires.wide.1)

pub labels-requires-clause-high : goal.labels-requires-clause-high
labels-requires-clause-high c =
    let e : length c.deref-2.result.now ≡ c.args.h = ap length (c.deref-2.ensures.value ∙ c.in_ok-ys.ensures) ∙ length-listed c.args.h _ in
    omega (arith, c.requires.high)

pub returns-in_err-cells-clause-fault : goal.returns-in_err-cells-clause-fault
returns-in_err-cells-clause-fault c =
    let p = c.args.p.now in
    let xs = c.deref.result.now in
    let ys = c.deref-2.result.now in
    let ex = c.deref.ensures.value ∙ c.in_ok-xs.ensures in
    let ey = c.deref-2.ensures.value ∙ c.in_ok-ys.ensures in
    let t = c.torus.ensures in
    let high : length ys ≡ c.args.h = ap length ey ∙ length-listed c.args.h _ in
    let same : first_from (line_fault p xs ys) 0 (length ys) ≡ first_from (row_fault p c.args.z.now c.args.w) 0 c.args.h =
    ap (λ (n : ℕ). first_from (line_fault p xs ys) 0 n) high
    ∙ rows_are p c.args.z.now c.args.w c.args.h xs ys ex ey t.width.divisor t.height.divisor t.move1.divisor t.move2.divisor c.point.ensures.spot.divisor in
    grind (arith, common_steps)

pub returns-clause-fault : goal.returns-clause-fault
returns-clause-fault c =
    let p = c.args.p.now in
    let xs = c.deref.result.now in
    let ys = c.deref-2.result.now in
    let ex = c.deref.ensures.value ∙ c.in_ok-xs.ensures in
    let ey = c.deref-2.ensures.value ∙ c.in_ok-ys.ensures in
    let t = c.torus.ensures in
    let high : length ys ≡ c.args.h = ap length ey ∙ length-listed c.args.h _ in
    sym (ap (λ (n : ℕ). first_from (line_fault p xs ys) 0 n) high
    ∙ rows_are p c.args.z.now c.args.w c.args.h xs ys ex ey t.width.divisor t.height.divisor t.move1.divisor t.move2.divisor c.point.ensures.spot.divisor)
    ∙ c.in_ok-cells.ensures.fault

pub returns-clause-cells : goal.returns-clause-cells
returns-clause-cells c =
    let p = c.args.p.now in
    let xs = c.deref.result.now in
    let ys = c.deref-2.result.now in
    let ex = c.deref.ensures.value ∙ c.in_ok-xs.ensures in
    let ey = c.deref-2.ensures.value ∙ c.in_ok-ys.ensures in
    let t = c.torus.ensures in
    let wide : length xs ≡ c.args.w = ap length ex ∙ length-listed c.args.w _ in
    let high : length ys ≡ c.args.h = ap length ey ∙ length-listed c.args.h _ in
    c.in_ok-cells.ensures.cells
    ∙ (ap (λ (n : ℕ). listed (n * length xs) (index_label p xs ys (length xs))) high
    ∙ (ap (λ (n : ℕ). listed (c.args.h * n) (index_label p xs ys n)) wide
    ∙ cells_are p c.args.z.now c.args.w c.args.h xs ys ex ey t.width.divisor t.height.divisor t.move1.divisor t.move2.divisor c.point.ensures.spot.divisor c.requires.wide.0 (returns-clause-fault c)))
