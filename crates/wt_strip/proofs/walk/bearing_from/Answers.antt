use Rattle.std.proofs.Common.{arith, ◌+◌, ◌≤◌, ℕ, List, subst, inl, inr}
use Rattle.std.proofs.lemmas.Bool.{cases_lt}
use Rattle.wt_strip.specs.Listed.{row_at}
use Rattle.wt_strip.specs.Walks.{CanBear}
use Rattle.wt_strip.proofs.Bears.{none_upon}
use Rattle.wt_strip.proofs.walk.bearing_from.Goals as goal

pub rows-preserved : goal.rows-preserved
rows-preserved c =
    let i = c.rows.invariant in
    let from = i.from in
    let past = c.past_alike-at.ensures.past in
    let told = c.in-Some.ensures {u = tt} in
    let narrow : c.in-Some.x + 1 ≤ c.args.w = let lt = told.0 in let long = c.row.ensures.long in omega (arith, lt, long) in
    record {
      from = omega (arith, from, past);
      within = c.past_alike-at.ensures.within;
      passed = λ s ge lt. elim (cases_lt s c.rows.at) [
        | inl less ↦ i.passed s ge less
        | inr le ↦ none_upon c.args.sides.now.tiles.now c.args.w (c.in-Some.x + 1) (row_at c.args.w c.args.below.now c.rows.at) (row_at c.args.w c.args.below.now s) narrow
            (c.past_alike-at.ensures.alike s le lt)
            (subst (λ (p : List ℕ). CanBear c.args.sides.now.tiles.now (c.in-Some.x + 1) p → ⊥) c.row.ensures.cells told.1)
      ];
    }
