-- The parts of a derived step, put together.
use Rattle.std.proofs.Common.{arith, ◌≡◌, ℕ, zero, suc, ◌+◌, ◌<◌, ◌≤◌, min, Bool, true, false, ◌&&◌, nat_lt, List, length, [], ◌∷◌, ◌++◌, Option, None, refl}
use Rattle.std.proofs.lemmas.Bool.{and_parts}
use Rattle.wt_grid.specs.declared.image.Image.{Image}
use Rattle.wt_grid.specs.declared.axis.Side.{Side}
use Rattle.wt_grid.specs.declared.axis.Axis.TheVariants.{One, Two}
use Rattle.std.specs.List.{All, list_all}
use Rattle.std.proofs.lemmas.Bool.Decides.{nat_tests}
use Rattle.wt_tile.specs.declared.tile.TileList.{TileList}
use Rattle.wt_grid.specs.First.{or_else}
use Rattle.wt_grid.specs.Order.{in_order, leads, is_below, comes_before}
use Rattle.wt_refute.specs.declared.tree.Refuted.{Refuted}
use Rattle.wt_step.specs.declared.raw.RawStep.{RawStep}
use Rattle.wt_marker.specs.declared.end.DeriveEnd.{DeriveEnd}
use Rattle.wt_marker.specs.Demanded.{demanded}
use Rattle.wt_marker.specs.Coarse.{coarse_set, is_joined}
use Rattle.wt_marker.specs.Derived.{Plan, IsPlan, allowed_pairs, entries, images_of, edges_in, derived, derive_fault, images_fault, trees_fault, nodes_in}
use Rattle.wt_marker.proofs.Listed.{all_of_each}
use Rattle.wt_marker.proofs.Plans.{domino}
use Rattle.wt_grid.proofs.First.{neither}
use Rattle.wt_tile.specs.Sets.{set_fault}
use Rattle.wt_step.specs.Faults.{step_fault}
use Rattle.wt_marker.proofs.Faulted.{right_images, right_trees}
use Rattle.wt_marker.proofs.Goodness.{each_image, no_step_fault}

pub some_length : (n : ℕ) (b : Bool) → (n ≡ 0 → b ≡ true) → b ≡ false → 0 < n
some_length zero b h e = absurd (let k = h refl in cc)
some_length (suc n) b h e = omega arith

-- the nodes of both axes, where they were counted up to one beyond the limit
pub few_both : (n1 n2 m0 m1 m2 : ℕ) → m0 ≡ 0 → m1 ≡ min (m0 + n1) 1048577 → m2 ≡ min (m1 + n2) 1048577 → m2 ≤ 1048576 → (m1 ≤ 1048576) × (n1 + n2 ≤ 1048576)
few_both n1 n2 m0 m1 m2 z e f le = (omega (arith, z, e, f), omega (arith, z, e, f))

pub many_both : (n1 n2 m0 m1 m2 : ℕ) → m0 ≡ 0 → m1 ≡ min (m0 + n1) 1048577 → m2 ≡ min (m1 + n2) 1048577 → 1048576 < m2 → 1048576 < n1 + n2
many_both n1 n2 m0 m1 m2 z e f lt = omega (arith, z, e, f)

pub all_small : (n : ℕ) (xs : List ℕ) → n ≤ 256 → in_order (is_below n) comes_before xs ≡ true → All (λ t. t < 256) xs
all_small n [] le e k d lt = absurd (omega arith)
all_small n (x ∷ xs) le e zero d lt =
    let g = and_parts (nat_lt x n && leads comes_before x xs) (in_order (is_below n) comes_before xs) e in
    let h = and_parts (nat_lt x n) (leads comes_before x xs) g.0 in
    let b : x < n = grind (arith, nat_tests, h.0) in omega arith
all_small n (x ∷ xs) le e (suc k) d lt = all_small n xs le (and_parts (nat_lt x n && leads comes_before x xs) (in_order (is_below n) comes_before xs) e).1 k d (omega arith)

-- the tiles of each image match
pub images_joined : (p : Plan) → IsPlan p → list_all (is_joined p.fine.tiles p.axis) (images_of p) ≡ true
images_joined p h = all_of_each (is_joined p.fine.tiles p.axis) (images_of p) (each_image p h (λ x. is_joined p.fine.tiles p.axis x ≡ true)
    (λ u lt e. refl) (λ a b la lb e j. (domino p h p.axis a b e).2))

pub demanded_same : (side : Side) (f : ℕ → ℕ → Bool) (qs rs : List (ℕ × ℕ)) (m k : ℕ → Bool) (n l : ℕ) → qs ≡ rs → ((a : ℕ) → m a ≡ k a) → n ≡ l → demanded side f qs m n ≡ demanded side f rs k l
demanded_same side f qs rs m k n l e g h = λ i. demanded side f (e i) (λ a. g a i) (h i)

pub derived_same : (p : Plan) (fine coarse : TileList) (markers : List ℕ) (one two : List (ℕ × ℕ)) (refuted : List Refuted) (images : List Image)
    → fine ≡ p.fine → coarse ≡ coarse_set (edges_in p) → markers ≡ p.class → one ≡ allowed_pairs p One → two ≡ allowed_pairs p Two
    → refuted ≡ entries p.fine.tiles p.radius One p.one ++ entries p.fine.tiles p.radius Two p.two → images ≡ images_of p
    → Path RawStep (record { axis = p.axis; side = p.side; radius = p.radius; fine = fine; coarse = coarse; markers = markers; allowed1 = one; allowed2 = two; refuted = refuted; images = images }) (derived p)
derived_same p fine coarse markers one two refuted images a b c d e f g =
    λ i. record { axis = p.axis; side = p.side; radius = p.radius; fine = a i; coarse = b i; markers = c i; allowed1 = d i; allowed2 = e i; refuted = f i; images = g i }

pub neither_reason : (a b : Option DeriveEnd) → a ≡ None → b ≡ None → or_else a b ≡ None
neither_reason a b e f = rw (e, f) refl

-- a step that is derived without a fault is good
pub good_plan : (p : Plan) (budget : ℕ) → p.radius ≤ 4 → set_fault p.fine ≡ None → IsPlan p → derive_fault p budget ≡ None → step_fault (derived p) ≡ None
good_plan p budget small fine h e =
    let g = neither (images_fault p.fine.tiles p.axis (images_of p)) (trees_fault p.fine.tiles p.radius p.one p.two budget) e in
    let r = right_images p.fine.tiles p.axis (images_of p) g.0 in
    no_step_fault p h small fine r.0 r.1 r.2

-- a step that is derived without a fault has few nodes
pub few_nodes_in_all : (p : Plan) (budget : ℕ) → derive_fault p budget ≡ None → nodes_in p.fine.tiles p.radius One p.one + nodes_in p.fine.tiles p.radius Two p.two ≤ 1048576
few_nodes_in_all p budget e =
    let g = neither (images_fault p.fine.tiles p.axis (images_of p)) (trees_fault p.fine.tiles p.radius p.one p.two budget) e in
    right_trees p.fine.tiles p.radius p.one p.two budget g.1
