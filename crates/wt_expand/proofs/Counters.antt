-- How many levels a counter has, and where their blocks lie.
use Rattle.std.proofs.Common.{arith, ◌≤◌, ◌<◌, ◌*◌, ◌-◌, ℕ, List, length}
use Rattle.std.proofs.Math.Nat.{mul-le-mul}
use Rattle.wt_step.specs.declared.raw.RawLink.{RawLink}
use Rattle.wt_expand.specs.Levels.{levels}
use Rattle.wt_expand.proofs.Levels.{length_levels}

pub few_levels : (steps : List RawLink) (start turns : ℕ) → start < length steps → length steps ≤ 32 → turns ≤ 35184372088832 → length (levels steps start turns) ≤ 1125899906842656
few_levels steps start turns lt few short =
    let left : length steps - start ≤ 32 = omega (arith, few) in
    let t : turns * (length steps - start) ≤ 35184372088832 * 32 = mul-le-mul {n₁ = turns} {m₁ = length steps - start} {n₂ = 35184372088832} {m₂ = 32} short left in
    let l = length_levels steps start turns (omega (arith, lt)) in
    omega (arith, t, few, lt, l)

-- a block's place is small
pub small_place : (i n b : ℕ) → i ≤ n → n ≤ 1125899906842656 → b ≤ 4356 → i * b ≤ 4904419994207209536
small_place i n b le few thin =
    let small : i ≤ 1125899906842656 = omega (arith, le, few) in
    let t : i * b ≤ 1125899906842656 * 4356 = mul-le-mul {n₁ = i} {m₁ = b} {n₂ = 1125899906842656} {m₂ = 4356} small thin in
    omega (arith, t)
