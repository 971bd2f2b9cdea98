-- Steps without a fault are good, and each takes apart the set before it.
use Rattle.std.proofs.Common.{arith, ◌≡◌, ◌≤◌, ◌+◌, ◌-◌, ℕ, zero, suc, List, [], ◌∷◌, drop, take, get_or, length, Bool, true, false, ◌&&◌, nat_eq, Option, None, Some, option_map, Decides, refl, sym, ◌∙◌, ap}
use Rattle.wt_grid.proofs.Unless.{holds}
use Rattle.wt_grid.specs.Unless.{unless}
use Rattle.std.proofs.lemmas.Bool.{and_parts}
use Rattle.std.proofs.lemmas.List.{take_all}
use Rattle.std.proofs.lemmas.Bool.Decides.{nat_tests}
use Rattle.std.proofs.lemmas.Slice.Eq.{slice_eq-Decides, bytes_eq-Decides}
use Rattle.std.specs.Cmp.Lexicographic.{pointwise}
use Rattle.std.specs.Str.{bytes_eq}
use Rattle.wt_tile.specs.declared.tile.Tile.{Tile}
use Rattle.wt_tile.specs.declared.tile.TileList.{TileList}
use Rattle.wt_tile.specs.Sets.{set_fault, same_tile}
use Rattle.wt_tile.proofs.Sizes.{few_tiles}
use Rattle.wt_bijection.specs.Renaming.{renaming_fault}
use Rattle.wt_bijection.proofs.Lengths.{no_fault}
use Rattle.wt_grid.specs.First.{or_else}
use Rattle.wt_grid.proofs.First.{neither, none_under}
use Rattle.wt_step.specs.declared.raw.RawLink.{RawLink}
use Rattle.wt_step.specs.declared.raw.StepFault.{StepFault}
use Rattle.wt_step.specs.Links.{link_fault, fine_of, coarse_of}
use Rattle.wt_chain.specs.declared.raw.Refusal.{Refusal}
use Rattle.wt_chain.specs.declared.raw.Refusal.TheVariants.{Step, NotNext}
use Rattle.wt_chain.specs.Sets.{same_set, comes_next, last_set, AreLinked, IsRun, IsRenamed, IsClosedBy}
use Rattle.wt_chain.specs.Faults.{step_fault_at, steps_fault_from, steps_fault}
use Rattle.wt_chain.proofs.Grown.{coarse_good}

-- Sets that are the same are equal.

tile_of : (a b c d e f g h : ℕ) → a ≡ e → b ≡ f → c ≡ g → d ≡ h
    → Path Tile (record { east = a; north = b; west = c; south = d }) (record { east = e; north = f; west = g; south = h })
tile_of a b c d e f g h p q r s = cc

tile_decides : (a b : Tile) → Decides (same_tile a b) (a ≡ b)
tile_decides a b = (there, back)
  where
    there : same_tile a b ≡ true → a ≡ b
    there e =
        let x = and_parts (nat_eq a.east b.east && nat_eq a.north b.north && nat_eq a.west b.west) (nat_eq a.south b.south) e in
        let y = and_parts (nat_eq a.east b.east && nat_eq a.north b.north) (nat_eq a.west b.west) x.0 in
        let z = and_parts (nat_eq a.east b.east) (nat_eq a.north b.north) y.0 in
        tile_of a.east a.north a.west a.south b.east b.north b.west b.south
        (grind (arith, nat_tests, z.0)) (grind (arith, nat_tests, z.1)) (grind (arith, nat_tests, y.1)) (grind (arith, nat_tests, x.1))

    same : (n : ℕ) → nat_eq n n ≡ true
    same n = grind (arith, nat_tests)

    back : a ≡ b → same_tile a b ≡ true
    back e = rw (← e) (rw (same a.east, same a.north, same a.west, same a.south) refl)

list_of : (a d : List Tile) (b c e f : List (List ℕ)) → a ≡ d → b ≡ e → c ≡ f
    → Path TileList (record { tiles = a; names1 = b; names2 = c }) (record { tiles = d; names1 = e; names2 = f })
list_of a d b c e f p q r = cc

pub same_set_equal : (a b : TileList) → same_set a b ≡ true → a ≡ b
same_set_equal a b e =
    let x = and_parts (pointwise same_tile a.tiles b.tiles && pointwise bytes_eq a.names1 b.names1) (pointwise bytes_eq a.names2 b.names2) e in
    let y = and_parts (pointwise same_tile a.tiles b.tiles) (pointwise bytes_eq a.names1 b.names1) x.0 in
    list_of a.tiles b.tiles a.names1 a.names2 b.names1 b.names2
    ((slice_eq-Decides tile_decides a.tiles b.tiles _ refl).0 y.0)
    ((slice_eq-Decides bytes_eq-Decides a.names1 b.names1 _ refl).0 y.1)
    ((slice_eq-Decides bytes_eq-Decides a.names2 b.names2 _ refl).0 x.1)

pub equal_same_set : (a b : TileList) → a ≡ b → same_set a b ≡ true
equal_same_set a b e = rw e (rw (tiles_same b.tiles, names_same b.names1, names_same b.names2) refl)
  where
    tiles_same : (ts : List Tile) → pointwise same_tile ts ts ≡ true
    tiles_same ts = (slice_eq-Decides tile_decides ts ts _ refl).1 refl

    names_same : (ns : List (List ℕ)) → pointwise bytes_eq ns ns ≡ true
    names_same ns = (slice_eq-Decides bytes_eq-Decides ns ns _ refl).1 refl

-- Steps.

linked_from : (k : ℕ) (set : TileList) (links : List RawLink) → steps_fault_from k (Some set) links ≡ None → AreLinked set links
linked_from k set [] e = tt
linked_from k set (link ∷ links) e =
    let p = neither (step_fault_at k (Some set) link) (steps_fault_from (k + 1) (Some (coarse_of link)) links) e in
    let q = neither (option_map (Step k) (link_fault link)) (unless (same_set set (fine_of link)) (NotNext k)) p.0 in
    (none_under (Step k) (link_fault link) q.0, sym (same_set_equal set (fine_of link) (holds (same_set set (fine_of link)) (NotNext k) q.1)), linked_from (k + 1) (coarse_of link) links p.1)

pub run_from : (links : List RawLink) → steps_fault links ≡ None → IsRun links
run_from [] e = tt
run_from (link ∷ links) e =
    let p = neither (step_fault_at 0 None link) (steps_fault_from 1 (Some (coarse_of link)) links) e in
    let q = neither (option_map (Step 0) (link_fault link)) None p.0 in
    (none_under (Step 0) (link_fault link) q.0, refl, linked_from 1 (coarse_of link) links p.1)

linked_run : (set : TileList) (links : List RawLink) → AreLinked set links → IsRun links
linked_run set [] h = tt
linked_run set (link ∷ links) h = (h.0, refl, h.2)

-- the steps from one on
pub run_drop : (k : ℕ) (links : List RawLink) → IsRun links → IsRun (drop k links)
run_drop zero links h = h
run_drop (suc k) [] h = tt
run_drop (suc k) (link ∷ links) h = run_drop k links (linked_run (coarse_of link) links h.2)

-- the set behind good steps is a tile set
pub last_good : (set : TileList) (links : List RawLink) → AreLinked set links → set_fault set ≡ None → set_fault (last_set set links) ≡ None
last_good set [] h g = g
last_good set (link ∷ links) h g = last_good (coarse_of link) links h.2 (coarse_good link h.0)

-- The sets that a renaming joins.

pub from_good : (link : RawLink) (links : List RawLink) → AreLinked (fine_of link) (link ∷ links) → set_fault (last_set (coarse_of link) links) ≡ None
from_good link links h = last_good (coarse_of link) links h.2 (coarse_good link h.0)

pub few_numbers : (link : RawLink) (links : List RawLink) (renaming : List ℕ) → AreLinked (fine_of link) (link ∷ links)
    → renaming_fault (last_set (coarse_of link) links).tiles (fine_of link).tiles renaming ≡ None → length renaming ≤ 256
few_numbers link links renaming h e =
    let few = few_tiles (last_set (coarse_of link) links) (from_good link links h) in
    let whole = no_fault (last_set (coarse_of link) links).tiles (fine_of link).tiles renaming e in
    omega arith

pub closes : (loop : List RawLink) (renaming : List ℕ) → IsRun loop → IsRenamed loop renaming → IsClosedBy loop renaming
closes [] renaming run same = absurd same
closes (link ∷ links) renaming run same = (run, same)

-- the steps, told by the first of them
pub first_of_steps : (links : List RawLink) (link : RawLink) → 1 ≤ length links → link ≡ get_or links 0 link → links ≡ link ∷ take (length links - 1) (drop 1 links)
first_of_steps [] link le e = absurd (omega arith)
first_of_steps (l ∷ ls) link le e =
    let n : length (l ∷ ls) - 1 ≡ length ls = omega arith in
    rw (n, take_all (length ls) ls (omega arith)) (ap (λ (x : RawLink). x ∷ ls) (sym e))
