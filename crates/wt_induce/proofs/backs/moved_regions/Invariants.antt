use Rattle.std.proofs.Common.{◌≡◌, ◌++◌, drop, map}
use Rattle.wt_induce.specs.Backs.{back_of}
use Rattle.wt_induce.proofs.backs.moved_regions.Given as goal

abbrev pub invariant-loop-q : goal.invariant-loop-q
invariant-loop-q l = l.all.items ++ map (back_of l.axis l.step) (drop l.q-index l.regions) ≡ map (back_of l.axis l.step) l.regions
