use Rattle.std.specs.Prelude.{[], ◌∷◌, pos, refl}
use Rattle.wt_ring.proofs.Ring.{x_, n_, ◌⊕◌, ⊖_, solve}
use Rattle.wt_golden.proofs.WholeRing.{golden, plus_assoc, plus_comm, plus_zero, times_assoc, times_comm, times_one, times_plus, phi_square}
use Rattle.wt_golden.proofs.laws.golden_ring.Goals as goal

pub returns : goal.returns
returns c = record {
  sums = plus_assoc;
  turned_sums = plus_comm;
  zero = plus_zero;
  opposites = λ x. solve golden (x ∷ []) (x_ 0 ⊕ ⊖_ (x_ 0)) (n_ (pos 0)) refl;
  products = times_assoc;
  turned_products = times_comm;
  one = times_one;
  both = times_plus;
  square = phi_square;
}
