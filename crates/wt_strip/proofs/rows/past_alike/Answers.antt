use Rattle.std.proofs.Common.{arith, ◌+◌, ◌-◌, List, ℕ, subst}
use Rattle.wt_strip.specs.Listed.{row_at}
use Rattle.wt_strip.specs.Walks.{AreAlike}
use Rattle.wt_strip.proofs.Cells.{reached}
use Rattle.wt_strip.proofs.Skips.{alone, reach}
use Rattle.wt_strip.proofs.rows.past_alike.Goals as goal

pub halves-preserved-then-begins_alike : goal.halves-preserved-then-begins_alike
halves-preserved-then-begins_alike c =
    let i = c.halves.invariant in
    let m = reached c.halves.low c.halves.high (c.halves.low - c.args.r - 1) c.min-ahead.result c.halves-test.true c.min-ahead.ensures in
    let within = i.within in
    let past = i.past in
    let at = c.halves.low + c.min-ahead.result in
    let told : AreAlike c.args.n (row_at c.args.w c.args.cells.now at) (row_at c.args.w c.args.cells.now c.args.r) =
    subst (λ (p : List ℕ). AreAlike c.args.n p (row_at c.args.w c.args.cells.now c.args.r)) c.row-here.ensures.cells
    (subst (λ (q : List ℕ). AreAlike c.args.n c.row-here.result.now q) c.row-first.ensures.cells (c.begins_alike.ensures.alike c.if-begins_alike.true)) in
    record {
      past = omega (arith, past, m.0);
      ordered = m.1;
      within = within;
      alike = λ s ge lt. reach c.args.w c.args.cells.now c.requires.wide c.requires.ascending c.args.n c.args.r at s c.requires.narrow (omega (arith, m.1, within)) told ge lt;
    }

pub halves-preserved : goal.halves-preserved
halves-preserved c =
    let i = c.halves.invariant in
    let m = reached c.halves.low c.halves.high (c.halves.low - c.args.r - 1) c.min-ahead.result c.halves-test.true c.min-ahead.ensures in
    let within = i.within in
    record {
      past = i.past;
      ordered = m.0;
      within = omega (arith, m.1, within);
      alike = i.alike;
    }

pub halves-init : goal.halves-init
halves-init c =
    let inside = c.requires.inside in
    record {
      past = omega arith;
      ordered = omega (arith, inside);
      within = omega arith;
      alike = λ s ge lt. alone c.args.w c.args.cells.now c.args.n c.args.r s ge lt;
    }
