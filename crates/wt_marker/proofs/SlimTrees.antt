-- Standard trees with nothing known are slim: few levels, few children, small cells, and they cite nothing.
use Rattle.std.proofs.Common.{arith, ◌≡◌, ℕ, zero, suc, ◌+◌, ◌*◌, ◌<◌, ◌≤◌, Bool, true, false, nat_lt, List, [], ◌∷◌, length, replicate, set, get_or, slice_get, Option, None, Some, refl, ap, subst, length-set}
use Rattle.wt_step.specs.Limits.{IsSlim, AreSlim, IsSlimEntry}
use Rattle.std.proofs.lemmas.Bool.{and_parts}
use Rattle.wt_grid.specs.declared.axis.Axis.TheVariants.{One, Two}
use Rattle.wt_grid.specs.declared.axis.Axis.{Axis}
use Rattle.std.proofs.lemmas.Bool.Decides.{nat_tests}
use Rattle.wt_tile.specs.declared.tile.Tile.{Tile}
use Rattle.wt_grid.specs.First.{first_from}
use Rattle.wt_pattern.specs.Windows.{window_size}
use Rattle.wt_refute.specs.declared.tree.Refuted.{Refuted}
use Rattle.wt_refute.specs.Refutation.{Refutation, branch_count}
use Rattle.wt_refute.specs.Placed.{Placed, place, window_of, next_cell, tile_in, is_vacant, passing, fitting, fits_cell}
use Rattle.wt_refute.specs.Refutes.{is_cited, is_known, next_placed}
use Rattle.wt_refute.specs.Standard.{citation_at, tightest, node, branches_with, tree_within, standard_tree}
use Rattle.std.proofs.lemmas.List.{get_or-replicate, length-replicate}
use Rattle.wt_refute.proofs.Built.{tightest_free, vacant}
use Rattle.wt_refute.proofs.Made.{refutation-tree_of}
use Rattle.wt_refute.proofs.Shape.{few_cells, middle_within}
use Rattle.wt_marker.specs.Derived.{refuted_pairs, tree_at, entry_of, entries}
use Rattle.wt_marker.proofs.Listed.{Each, each_map, each_of}

-- free cells
abbrev free_count : List (Option ℕ) → ℕ
free_count [] = 0
free_count (None ∷ cells) = 1 + free_count cells
free_count (Some t ∷ cells) = free_count cells

one_less : (cells : List (Option ℕ)) (i t : ℕ) → i < length cells → get_or cells i None ≡ None → free_count (set cells i (Some t)) + 1 ≡ free_count cells
one_less [] i t lt e = absurd (omega arith)
one_less (None ∷ cells) zero t lt e = omega arith
one_less (Some s ∷ cells) zero t lt e = absurd cc
one_less (None ∷ cells) (suc i) t lt e = let r = one_less cells i t (omega arith) e in omega arith
one_less (Some s ∷ cells) (suc i) t lt e = one_less cells i t (omega arith) e

few_free : (cells : List (Option ℕ)) → free_count cells ≤ length cells
few_free [] = omega arith
few_free (None ∷ cells) = let le = few_free cells in omega arith
few_free (Some s ∷ cells) = let le = few_free cells in omega arith

length_passing : (test : ℕ → Bool) (i n : ℕ) → length (passing test i n) ≤ n
length_passing test i zero = omega arith
length_passing test i (suc n) = go (test i) refl (length_passing test (i + 1) n)
  where
    go : (b : Bool) → test i ≡ b → length (passing test (i + 1) n) ≤ n → length (passing test i (suc n)) ≤ suc n
    go true e le = rw e (omega arith)
    go false e le = rw e (omega arith)

-- nothing is cited
uncited : (radius : ℕ) (p : Placed) (cell : ℕ) (axis : Axis) (a b : Option ℕ) → is_known radius [] p cell axis a b ≡ false
uncited radius p cell axis None b = refl
uncited radius p cell axis (Some a) None = refl
uncited radius p cell axis (Some a) (Some b) = refl

none_at : (radius : ℕ) (p : Placed) (i : ℕ) → citation_at radius [] p i ≡ None
none_at radius p i =
    let e : is_cited radius [] p i One ≡ false = uncited radius p i One (tile_in p i) (next_placed p i One) in
    let f : is_cited radius [] p i Two ≡ false = uncited radius p i Two (tile_in p i) (next_placed p i Two) in
    rw (e, f) refl

none_from : (radius : ℕ) (p : Placed) (i n : ℕ) → first_from (citation_at radius [] p) i n ≡ None
none_from radius p i zero = refl
none_from radius p i (suc n) = rw (none_at radius p i) (none_from radius p (i + 1) n)

count_with : (tree : ℕ → Refutation) (tiles : List ℕ) → branch_count (branches_with tree tiles) ≡ length tiles
count_with tree [] = refl
count_with tree (t ∷ ts) = ap suc (count_with tree ts)

module _ (ts : List Tile) (radius : ℕ) (few : length ts ≤ 256) where
  each_slim : (levels : ℕ) (tree : ℕ → Refutation) (i n : ℕ) (test : ℕ → Bool) → i + n ≤ 256 → ((t : ℕ) → IsSlim levels (tree t)) → AreSlim levels (branches_with tree (passing test i n))
  each_slim levels tree i zero test le h = tt
  each_slim levels tree i (suc n) test le h = go (test i) refl (each_slim levels tree (i + 1) n test (omega arith) h)
    where
      go : (b : Bool) → test i ≡ b → AreSlim levels (branches_with tree (passing test (i + 1) n)) → AreSlim levels (branches_with tree (passing test i (suc n)))
      go true e r = rw e (omega arith, h i, r)
      go false e r = rw e r

  slim_within : (depth levels : ℕ) (p : Placed) → length p.cells ≤ 90 → free_count p.cells < levels → IsSlim levels (tree_within ts radius [] depth p)
  slim_within depth zero p size lt = absurd (omega arith)
  slim_within zero (suc levels) p size lt = (omega arith, omega arith, tt)
  slim_within (suc depth) (suc levels) p size lt = rw (none_from radius p 0 (length p.cells)) (go (tightest ts p) refl (λ q s l. slim_within depth levels q s l))
    where
      go : (o : Option ℕ) → tightest ts p ≡ o → ((q : Placed) → length q.cells ≤ 90 → free_count q.cells < levels → IsSlim levels (tree_within ts radius [] depth q)) → IsSlim (suc levels) (node None o (λ cell. branches_with (λ tile. tree_within ts radius [] depth (place p cell tile)) (fitting ts p cell)))
      go None e r = (omega arith, omega arith, tt)
      go (Some cell) e r =
          let free = and_parts (nat_lt cell (length p.cells)) (is_vacant (tile_in p cell)) (tightest_free ts p cell e) in
          let inside : cell < length p.cells = grind (arith, nat_tests, free.0) in
          let nothing = vacant (tile_in p cell) free.1 in
          let count = length_passing (fits_cell ts p cell) 0 (length ts) in
          let c = count_with (λ tile. tree_within ts radius [] depth (place p cell tile)) (fitting ts p cell) in (
            omega arith,
            rw c (omega arith),
            each_slim levels (λ tile. tree_within ts radius [] depth (place p cell tile)) 0 (length ts) (fits_cell ts p cell) (omega arith)
                (λ t. r (place p cell t) (omega (arith, length-set p.cells cell (Some t), size))
                (let less = one_less p.cells cell t inside nothing in omega arith)),
          )

no_more_free : (cells : List (Option ℕ)) (i t : ℕ) → free_count (set cells i (Some t)) ≤ free_count cells
no_more_free [] i t = omega arith
no_more_free (None ∷ cells) zero t = omega arith
no_more_free (Some s ∷ cells) zero t = omega arith
no_more_free (None ∷ cells) (suc i) t = let r = no_more_free cells i t in omega arith
no_more_free (Some s ∷ cells) (suc i) t = no_more_free cells i t

-- a window has at most 90 cells, and its two tiles are placed
pub standard_slim : (ts : List Tile) (axis : Axis) (a b radius : ℕ) → length ts ≤ 256 → radius ≤ 4 → IsSlim 90 (standard_tree ts axis a b radius [])
standard_slim ts axis a b radius few small =
    let w = (window_size axis radius).0 in
    let h = (window_size axis radius).1 in
    let free : List (Option ℕ) = replicate (w * h) None in
    let middle = radius * w + radius in
    let inside : middle < w * h = middle_within axis radius in
    let n : length free ≡ w * h = length-replicate {A = Option ℕ} (w * h) None in
    let most = few_cells axis radius (window_size axis radius) refl small in
    let less = one_less free middle a (omega (arith, n, inside)) (get_or-replicate {A = Option ℕ} (w * h) middle None None inside) in
    let then' = no_more_free (set free middle (Some a)) (next_cell axis w middle) b in
    let all = few_free free in
    let l1 = length-set free middle (Some a) in
    let l2 = length-set (set free middle (Some a)) (next_cell axis w middle) (Some b) in
    slim_within ts radius few (length (window_of axis a b radius).cells) 90 (window_of axis a b radius) (omega (arith, l1, l2, n, most)) (omega (arith, less, then', all, n, most))

-- the refutations of a step have its radius and slim trees
pub slim_entries : (ts : List Tile) (radius : ℕ) → length ts ≤ 256 → radius ≤ 4 → (axis : Axis) (f : ℕ → ℕ → Bool) → Each (IsSlimEntry radius) (entries ts radius axis f)
slim_entries ts radius few small axis f = each_map (IsSlimEntry radius) (entry_of ts radius axis) (refuted_pairs ts axis f)
    (each_of (λ q. IsSlimEntry radius (entry_of ts radius axis q)) (refuted_pairs ts axis f)
    (λ q. (refl, rw (refutation-tree_of (tree_at ts radius axis q)) (standard_slim ts axis q.0 q.1 radius few small))))
