-- Derived steps are within the limits of a text.
use Rattle.std.proofs.Common.{arith, ◌≡◌, ℕ, zero, suc, ◌+◌, ◌*◌, ◌<◌, ◌≤◌, Bool, true, false, List, [], ◌∷◌, ◌++◌, length, length-append, map, None, refl}
use Rattle.wt_step.specs.Limits.{IsSlimEntry, IsSlimStep}
use Rattle.std.specs.Fmt.{decimal}
use Rattle.std.specs.List.{range_with_len, All}
use Rattle.std.proofs.lemmas.Fmt.{length-decimal-le, decimal_nonempty}
use Rattle.wt_text.proofs.Numbers.{decimal_digits}
use Rattle.wt_grid.specs.declared.axis.Axis.TheVariants.{One, Two}
use Rattle.wt_grid.specs.declared.axis.Axis.{Axis}
use Rattle.wt_grid.proofs.First.{neither}
use Rattle.wt_tile.specs.declared.tile.Tile.{Tile}
use Rattle.wt_tile.specs.Names.{IsName, all_name_bytes}
use Rattle.wt_marker.specs.Gather.{gather, only_if, pair_at, row_of, pairs_of}
use Rattle.wt_marker.specs.Coarse.{edges_of, all1, all2}
use Rattle.wt_marker.specs.Derived.{Plan, IsPlan, tiles_of, dominoes, is_refuted, refuted_pairs, entry_of, entries, images_of, edges_in, derived, derive_fault, images_fault, trees_fault}
use Rattle.wt_marker.proofs.Listed.{each_append, each_at}
use Rattle.wt_marker.proofs.Plans.{some_other}
use Rattle.wt_marker.proofs.Joins.{length_mapped}
use Rattle.wt_marker.proofs.Numbered.{digits_named}
use Rattle.wt_marker.proofs.CoarseSets.{few1, few2}
use Rattle.wt_marker.proofs.Faulted.{right_images}
use Rattle.wt_marker.proofs.SlimTrees.{slim_entries}

-- Pairs are few.

one_at_most : (b : Bool) (q : ℕ × ℕ) → length (only_if b q) ≤ 1
one_at_most true q = omega arith
one_at_most false q = omega arith

few_in_row : (p : ℕ → ℕ → Bool) (a i n : ℕ) → length (gather (pair_at p a) i n) ≤ n
few_in_row p a i zero = omega arith
few_in_row p a i (suc n) =
    let one = one_at_most (p a i) (a, i) in
    let r = few_in_row p a (i + 1) n in omega (arith, length-append (pair_at p a i) (gather (pair_at p a) (i + 1) n), one, r)

few_in_rows : (p : ℕ → ℕ → Bool) (m i n : ℕ) → m ≤ 256 → length (gather (row_of p m) i n) ≤ n * 256
few_in_rows p m i zero le = omega arith
few_in_rows p m i (suc n) le =
    let one = few_in_row p i 0 m in
    let r = few_in_rows p m (i + 1) n le in omega (arith, length-append (row_of p m i) (gather (row_of p m) (i + 1) n), one, r)

few_pairs : (p : ℕ → ℕ → Bool) (n : ℕ) → n ≤ 256 → length (pairs_of p n) ≤ 65536
few_pairs p n le = let r = few_in_rows p n 0 n le in omega arith

few_entries : (ts : List Tile) (radius : ℕ) (one two : ℕ → ℕ → Bool) → length ts ≤ 256 → length (entries ts radius One one ++ entries ts radius Two two) ≤ 131072
few_entries ts radius one two few =
    let a = few_pairs (is_refuted ts One one) (length ts) few in
    let b = few_pairs (is_refuted ts Two two) (length ts) few in
    let c = length_mapped (entry_of ts radius One) (refuted_pairs ts One one) in
    let d = length_mapped (entry_of ts radius Two) (refuted_pairs ts Two two) in
    omega (arith, length-append (entries ts radius One one) (entries ts radius Two two), a, b, c, d)

-- Decimal numbers are names.

named_well : (n : ℕ) → n < 65536 → IsName (decimal n)
named_well n lt =
    let e : all_name_bytes (decimal n) ≡ true = digits_named (decimal n) (decimal_digits n (omega arith)) in
    record { some = decimal_nonempty n (omega arith); few = (let l = length-decimal-le 5 n (omega arith) (omega arith) (omega arith) in omega arith); alphabet = e }

all_named : (i n : ℕ) → i + n ≤ 65536 → All IsName (map decimal (range_with_len i n))
all_named i zero le k d lt = absurd (omega arith)
all_named i (suc n) le zero d lt = named_well i (omega arith)
all_named i (suc n) le (suc k) d lt = all_named (i + 1) n (omega arith) k d (omega arith)

pub slim_step : (p : Plan) (budget : ℕ) → p.radius ≤ 4 → length p.fine.tiles ≤ 256 → IsPlan p → derive_fault p budget ≡ None → IsSlimStep (derived p)
slim_step p budget small few h e =
    let g = neither (images_fault p.fine.tiles p.axis (images_of p)) (trees_fault p.fine.tiles p.radius p.one p.two budget) e in
    let r = right_images p.fine.tiles p.axis (images_of p) g.0 in
    let n = length_mapped (edges_of p.fine.tiles p.axis) (images_of p) in
    let most = r.1 in
    let some = some_other p h in
    let m1 = few1 [] (edges_in p) in
    let m2 = few2 [] (edges_in p) in
    let es = entries p.fine.tiles p.radius One p.one ++ entries p.fine.tiles p.radius Two p.two in
    record {
      names1 = all_named 0 (length (all1 [] (edges_in p))) (omega (arith, n, most, m1));
      names2 = all_named 0 (length (all2 [] (edges_in p))) (omega (arith, n, most, m2));
      markers = omega (arith, some, few);
      allowed1 = few_pairs p.one (tiles_of p) few;
      allowed2 = few_pairs p.two (tiles_of p) few;
      refuted = few_entries p.fine.tiles p.radius p.one p.two few;
      entries = λ k d lt. each_at (IsSlimEntry p.radius) es k d
          (each_append (IsSlimEntry p.radius) (entries p.fine.tiles p.radius One p.one) (entries p.fine.tiles p.radius Two p.two)
          (slim_entries p.fine.tiles p.radius few small One p.one) (slim_entries p.fine.tiles p.radius few small Two p.two)) lt;
      images = most;
    }
