-- Turns put together, and counts with them.
use Rattle.std.proofs.Common.{arith, ◌≡◌, ◌<◌, ◌+◌, ℕ, zero, suc, List, length, refl, sym, ◌∙◌, ap}
use Rattle.std.specs.Prelude.{None, drop}
use Rattle.wt_grid.specs.Grid.{Grid}
use Rattle.wt_grid.specs.Widths.{total}
use Rattle.wt_step.specs.declared.raw.RawLink.{RawLink}
use Rattle.wt_chain.specs.declared.raw.RawChain.{RawChain}
use Rattle.wt_chain.specs.Faults.{chain_fault}
use Rattle.wt_chain.specs.Looped.{IsLooped}
use Rattle.wt_chain.specs.Sets.{first_count}
use Rattle.wt_chain.specs.Turns.{turned, turned_times, single}
use Rattle.wt_check.specs.Powers.{power, count}
use Rattle.wt_check.proofs.Powers.{chain_closed, power_valid}
use Rattle.wt_check.proofs.Pulled.{power_total}

times_add : (loop : List RawLink) (renaming : List ℕ) (m n : ℕ) (g : Grid) → turned_times loop renaming (m + n) g ≡ turned_times loop renaming n (turned_times loop renaming m g)
times_add loop renaming zero n g = let e : 0 + n ≡ n = omega arith in rw e refl
times_add loop renaming (suc m) n g = let e : suc m + n ≡ suc (m + n) = omega arith in rw e (times_add loop renaming m n (turned loop renaming g))

pub one_more : (loop : List RawLink) (renaming : List ℕ) (n t : ℕ) → power loop renaming (n + 1) t ≡ turned loop renaming (power loop renaming n t)
one_more loop renaming n t = times_add loop renaming n 1 (single t)

pub counts_of_turns : (c : RawChain) → chain_fault c ≡ None → (loop : IsLooped c) → (m n t u : ℕ) → t < first_count (drop loop.start c.steps)
    → count u (power (drop loop.start c.steps) loop.renaming (m + n) t)
    ≡ total (λ v. count u (power (drop loop.start c.steps) loop.renaming n v)) (power (drop loop.start c.steps) loop.renaming m t).cells
counts_of_turns c fault loop m n t u lt =
    let closed = chain_closed c fault loop.start loop.expansion loop.renaming loop.ends in
    let few = closed.counted in
    ap (λ (g : Grid). count u g) (times_add (drop loop.start c.steps) loop.renaming m n (single t))
    ∙ power_total (drop loop.start c.steps) loop.renaming closed n (power (drop loop.start c.steps) loop.renaming m t) (power_valid (drop loop.start c.steps) loop.renaming closed t (omega (arith, few, lt)) m) u
