-- Counts pushed through images, tile by tile.
use Rattle.std.proofs.Common.{arith, ◌≡◌, ◌<◌, ◌≤◌, ◌+◌, ◌*◌, ◌^◌, ℕ, zero, suc, List, slice_index, [], ◌∷◌, length, replicate, get_or, Bool, true, false, ◌≢◌, true≢false, nat_eq, refl, sym, ◌∙◌, ap}
use Rattle.wt_chain.specs.Tables.{entries_of}
use Rattle.std.proofs.Math.ListN.{set}
use Rattle.std.proofs.lemmas.List.{get_or-replicate, get_or-set_same, get_or-set_other}
use Rattle.std.proofs.lemmas.Bool.Decides.{nat_tests}
use Rattle.std.proofs.lemmas.List.FromFn.{get_or-map-range_with_len}
use Rattle.wt_chain.specs.Growth.{origin}
use Rattle.wt_check.specs.Powers.{unit, units, sum_below, pushed, tile_back}
use Rattle.wt_check.proofs.Totals.{sum_part}

module _ (tiles : ℕ → List ℕ) (ns : List ℕ) (u : ℕ) where
  pub pushed_none : pushed tiles ns 0 u ≡ 0
  unfolding pushed
  pushed_none = refl

  pub pushed_more : (n : ℕ) → pushed tiles ns (n + 1) u ≡ pushed tiles ns n u + slice_index ns n * units u (tiles n)
  unfolding pushed
  pushed_more n = let e : n + 1 ≡ suc n = omega arith in rw e refl

  pub pushed_part : (k n : ℕ) → k ≤ n → pushed tiles ns k u ≤ pushed tiles ns n u
  unfolding pushed
  pushed_part k n le = sum_part n k (λ x. slice_index ns x * units u (tiles x)) le

  -- one more is large, and so are all
  pub large_pushed : (k : ℕ) → k < 256 → 2 ^ 128 ≤ pushed tiles ns k u + slice_index ns k * units u (tiles k) → 2 ^ 128 ≤ pushed tiles ns 256 u
  large_pushed k lt h =
      let m = pushed_more k in
      let p = pushed_part (k + 1) 256 (omega arith) in
      omega (arith, m, p, h)

-- a tile that is renamed back counts where it is renamed to
pub large_at : (renaming ns : List ℕ) (o k before : ℕ) → o ≡ origin renaming k → before ≡ pushed (tile_back renaming) ns k o → 2 ^ 128 ≤ before + slice_index ns k → k < 256
    → 2 ^ 128 ≤ pushed (tile_back renaming) ns 256 o
large_at renaming ns o k before e p h lt =
    let s : nat_eq (origin renaming k) o ≡ true = grind (arith, nat_tests, e) in
    large_pushed (tile_back renaming) ns o k lt (rw s (omega (arith, p, h)))

pub pushed_back : (renaming ns : List ℕ) (o k u before : ℕ) → o ≡ origin renaming k → before ≡ pushed (tile_back renaming) ns k u
    → before + slice_index ns k * unit u o ≡ pushed (tile_back renaming) ns (k + 1) u
pushed_back renaming ns o k u before e p =
    let m = pushed_more (tile_back renaming) ns u k in
    let z : unit u (origin renaming k) + 0 ≡ unit u o = (let r : unit u (origin renaming k) ≡ unit u o = ap (unit u) (sym e) in omega (arith, r)) in
    let f : slice_index ns k * (unit u (origin renaming k) + 0) ≡ slice_index ns k * unit u o = ap (λ (x : ℕ). slice_index ns k * x) z in
    omega (arith, m, f, p)

-- the table of origins
pub origins_at : (renaming os : List ℕ) (k : ℕ) → os ≡ entries_of (origin renaming) → k < 256 → get_or os k 0 ≡ origin renaming k
origins_at renaming os k e lt = rw e (get_or-map-range_with_len (origin renaming) 0 256 k k 0 lt (omega arith))

-- one tile alone
pub one_counted : (t u : ℕ) → t < 256 → u < 256 → get_or (set (replicate 256 0) t 1) u 0 ≡ units u (t ∷ [])
one_counted t u lt lu = by (nat_eq t u) refl
  where
    by : (b : Bool) → nat_eq t u ≡ b → get_or (set (replicate 256 0) t 1) u 0 ≡ units u (t ∷ [])
    by true e =
        let s : t ≡ u = grind (arith, nat_tests, e) in
        rw (e, sym s) (get_or-set_same (replicate 256 0) t 1 0 (omega arith))
    by false e =
        let n : t ≢ u = λ s. let f : nat_eq t u ≡ true = grind (arith, nat_tests, s) in true≢false (sym f ∙ e) in
        rw e (get_or-set_other (replicate 256 0) t u 1 0 (λ s. n (sym s)) ∙ get_or-replicate 256 u 0 0 lu)
