use Rattle.std.specs.Prelude.{◌≡◌, ◌≤◌, ◌+◌, ◌-◌, ◌*◌, length}
use Rattle.wt_grid.specs.First.{first_from}
use Rattle.wt_torus.specs.declared.partition.TheConstants.{MAX_REGIONS}
use Rattle.wt_markov.specs.Faults.{pair_row, pair_fault, pairs_from, pair_count}
use Rattle.wt_markov.proofs.pairs.pairs_in.Given as goal

abbrev pub invariant-loop-i : goal.invariant-loop-i
invariant-loop-i l =
    (first_from (pair_row l.tiles l.axis l.p) l.i (length l.p.regions - l.i) ≡ pair_fault l.tiles l.axis l.p)
    × (l.count + pairs_from l.axis l.p l.i (length l.p.regions - l.i) ≡ pair_count l.axis l.p)
    × (l.count ≤ l.i * MAX_REGIONS)
