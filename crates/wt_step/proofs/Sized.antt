-- How many blocks and cells there are.
use Rattle.std.proofs.Common.{arith, ◌≡◌, ◌≤◌, ◌+◌, ◌-◌, ℕ, zero, suc, List, length, Bool, true, false, ap, sym, ◌∙◌, subst}
use Rattle.wt_grid.specs.declared.axis.Axis.TheVariants.{One, Two}
use Rattle.wt_grid.specs.declared.axis.Axis.{Axis}
use Rattle.wt_step.specs.declared.blocks.Block.{Block}
use Rattle.wt_step.specs.Blocks.{blocks_in, width_of, height_of, one_if}
use Rattle.wt_step.proofs.BlockLists.{length-blocks}

pub width_some : (axis : Axis) (n m : ℕ) → 1 ≤ n → 1 ≤ m → 1 ≤ width_of axis n m
width_some One n m a b = a
width_some Two n m a b = b

pub width_few : (axis : Axis) (n m : ℕ) → n ≤ 4096 → m ≤ 4096 → width_of axis n m ≤ 4096
width_few One n m a b = a
width_few Two n m a b = b

pub height_some : (axis : Axis) (n m : ℕ) → 1 ≤ n → 1 ≤ m → 1 ≤ height_of axis n m
height_some One n m a b = b
height_some Two n m a b = a

pub height_few : (axis : Axis) (n m : ℕ) → n ≤ 4096 → m ≤ 4096 → height_of axis n m ≤ 4096
height_few One n m a b = b
height_few Two n m a b = a

one_small : (b : Bool) → one_if b ≤ 1
one_small true = omega arith
one_small false = omega arith

some_lines : (pairs : ℕ → Bool) (i n : ℕ) → 1 ≤ n → 1 ≤ length (blocks_in pairs false i n)
some_lines pairs i zero le = absurd (omega arith)
some_lines pairs i (suc zero) le = omega arith
some_lines pairs i (suc (suc n)) le = omega arith

module _ (pairs : ℕ → Bool) (n : ℕ) (low high : Bool) (bs : List Block) where
  pub same_count : bs ≡ blocks_in pairs false (one_if low) ((n - one_if high) - one_if low) → bs ≡ blocks_in pairs false (one_if low) (n - (one_if low + one_if high))
  same_count e = let k : (n - one_if high) - one_if low ≡ n - (one_if low + one_if high) = omega arith in e ∙ ap (λ (c : ℕ). blocks_in pairs false (one_if low) c) k

  pub some_of_core : 3 ≤ n → bs ≡ blocks_in pairs false (one_if low) ((n - one_if high) - one_if low) → 1 ≤ length bs
  some_of_core le e =
      let a = one_small low in
      let b = one_small high in
      let h = some_lines pairs (one_if low) ((n - one_if high) - one_if low) (omega arith) in
      subst (λ (cs : List Block). 1 ≤ length cs) (sym e) h

  pub few_of_core : n ≤ 4096 → bs ≡ blocks_in pairs false (one_if low) ((n - one_if high) - one_if low) → length bs ≤ 4096
  few_of_core le e =
      let h = length-blocks pairs false (one_if low) ((n - one_if high) - one_if low) in
      subst (λ (cs : List Block). length cs ≤ 4096) (sym e) (omega arith)
