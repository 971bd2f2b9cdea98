-- The number of a number's binary digits is the least exponent of 2 whose power is above it.
use Rattle.std.proofs.Common.{arith, ◌≡◌, ◌≤◌, ◌<◌, ◌+◌, ◌*◌, ◌/◌, ◌^◌, ◌∙◌, ℕ, zero, suc, ap, inl, inr}
use Rattle.std.proofs.Math.Pow.{pow-lt}
use Rattle.std.proofs.lemmas.Bool.{cases_lt}
use Rattle.std.proofs.lemmas.Int.Digits.{length-digits_of-le, length-digits_of_step}
use Rattle.wt_scale.specs.Vectors.{digits}
use Rattle.wt_scale.proofs.NoPeriods.{doubled}

below_by : (turns m : ℕ) → m ≤ turns → m < 2 ^ digits m
below_by turns zero le = omega arith
below_by zero (suc m) le = omega arith
below_by (suc turns) (suc m) le =
    let half : ℕ = suc m / 2 in
    let d : ℕ = digits half in
    let r = below_by turns half (omega arith) in
    let n : digits (suc m) ≡ suc d = omega (arith, length-digits_of_step 2 (suc m) (omega arith) (omega arith)) in
    let p : 2 ^ digits (suc m) ≡ 2 ^ d + 2 ^ d = ap (λ (k : ℕ). 2 ^ k) n ∙ doubled d in
    let q = 2 ^ d in
    omega (arith, p, r)

-- 2 to the power of the number of digits is above the number
pub below_digits : (m : ℕ) → m < 2 ^ digits m
below_digits m = below_by m m (omega arith)

-- and no lower power is
pub least_digits : (m k : ℕ) → m < 2 ^ k → digits m ≤ k
least_digits m k lt = length-digits_of-le 2 k m (omega arith) lt

-- powers of 2 grow with the exponent
pow_up : (i j : ℕ) → i ≤ j → 2 ^ i ≤ 2 ^ j
pow_up i j le = elim (cases_lt i j) [
  | inl h ↦ (let p : 2 ^ i < 2 ^ j = pow-lt h in omega arith)
  | inr h ↦ (let e : i ≡ j = omega arith in let p : 2 ^ i ≡ 2 ^ j = ap (λ (k : ℕ). 2 ^ k) e in omega arith)
]

-- a number between two powers of 2
pub digits_between : (m k : ℕ) → 2 ^ k ≤ m → m < 2 * 2 ^ k → k + 1 ≡ digits m
digits_between m k le lt =
    let p : 2 ^ suc k ≡ 2 ^ k + 2 ^ k = doubled k in
    let a : digits m ≤ suc k = least_digits m (suc k) (let q = 2 ^ k in omega (arith, p, lt)) in
    let b = below_digits m in
    elim (cases_lt k (digits m)) [
      | inl h ↦ omega arith
      | inr h ↦ (let u = pow_up (digits m) k h in absurd (omega (arith, u, b, le)))
    ]
