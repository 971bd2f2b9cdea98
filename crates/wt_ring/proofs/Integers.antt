-- The whole numbers as a ring.
use Rattle.std.specs.Prelude.{◌≡◌, ℕ, ◌*◌, ℤ, pos, negsuc, ◌+ℤ◌, ◌*ℤ◌, neg_ℤ, refl}
use Rattle.std.proofs.Common.{ap, arith}
use Rattle.std.proofs.lemmas.Int.{ints}
use borrow.Author.Differences.{up, down, product_is, sum_is_lem}
use Rattle.std.proofs.Math.IntN.{+ℤ_assoc, +ℤ_comm, +ℤ_idr, *ℤ_comm, *ℤ-zero}
use Rattle.wt_ring.proofs.Ring.{Ring}

times_by : (k : ℕ) {m n : ℕ} → m ≡ n → m * k ≡ n * k
times_by k e = ap (λ t. t * k) e

pub mul_assoc_z : (x y z : ℤ) → (x *ℤ y) *ℤ z ≡ x *ℤ (y *ℤ z)
mul_assoc_z x y z =
    let p = product_is x y in
    let q = product_is y z in
    omega (
      arith,
      ints,
      times_by (up z) p.0,
      times_by (down z) p.0,
      times_by (up z) p.1,
      times_by (down z) p.1,
      times_by (up x) q.0,
      times_by (down x) q.0,
      times_by (up x) q.1,
      times_by (down x) q.1,
    )

pub dist_z : (x y z : ℤ) → x *ℤ (y +ℤ z) ≡ x *ℤ y +ℤ x *ℤ z
dist_z x y z = let s = sum_is_lem y z in omega (arith, ints, times_by (up x) s, times_by (down x) s)

pub neg_z : (x : ℤ) → neg_ℤ x ≡ negsuc 0 *ℤ x
neg_z x = omega (arith, ints)

pub mul_one_z : (x : ℤ) → x *ℤ pos 1 ≡ x
mul_one_z x = omega (arith, ints)

abbrev pub integers : Ring ℤ
integers = record {
  num = λ n. n;
  add = λ x y. x +ℤ y;
  mul = λ x y. x *ℤ y;
  neg = neg_ℤ;
  add_assoc = +ℤ_assoc;
  add_comm = +ℤ_comm;
  add_zero = +ℤ_idr;
  mul_assoc = mul_assoc_z;
  mul_comm = *ℤ_comm;
  mul_one = mul_one_z;
  mul_zero = *ℤ-zero;
  dist = dist_z;
  num_add = λ m n. refl;
  num_mul = λ m n. refl;
  neg_is = neg_z;
}
