use Rattle.std.proofs.Common.{arith, ◌≡◌, ◌-◌, length, sym, ap, ◌∙◌}
use Rattle.wt_grid.specs.First.{first_from}
use Rattle.wt_markov.specs.WindowFaults.{window_fault_at}
use Rattle.wt_markov.proofs.window.regions_fault.Goals as goal

pub returns : goal.returns
returns c =
    let n = length c.args.p.now.regions in
    let same = ap length c.as_slice-i-end.ensures in
    let left : n - c.loop-i.i ≡ 0 = omega arith in
    sym (sym c.loop-i.invariant ∙ ap (first_from (window_fault_at c.args.raw.now c.args.p.now) c.loop-i.i) left)
