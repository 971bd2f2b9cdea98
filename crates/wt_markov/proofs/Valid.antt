-- Where Markov holds, every code is a valid pattern.
use Rattle.std.proofs.Common.{arith, ◌≡◌, ℕ, suc, ◌<◌, List, length, true, slice_get, Some, sym, subst, ◌∙◌}
use Rattle.std.proofs.lemmas.Bool.{and_parts}
use Rattle.wt_golden.specs.Whole.{Whole, minus, is_positive}
use Rattle.wt_golden.specs.Fractions.{top}
use Rattle.wt_plane.specs.HalfPlanes.{Spot, IsSpot}
use Rattle.wt_grid.specs.Grid.{Grid, along, across, at}
use Rattle.wt_grid.specs.Parts.{AllBelow, IsValid}
use Rattle.wt_pattern.specs.Patterns.{IsPattern}
use Rattle.wt_tile.specs.declared.tile.Tile.{Tile}
use Rattle.wt_grid.specs.declared.axis.Axis.{Axis}
use Rattle.wt_grid.specs.declared.axis.Axis.TheVariants.{One, Two}
use Rattle.wt_tile.specs.Matching.{matches}
use Rattle.wt_torus.specs.declared.letter.Letter.TheVariants as letter_of
use Rattle.wt_torus.specs.declared.partition.Labelled.{Labelled}
use Rattle.wt_torus.specs.declared.partition.Partition.{Partition}
use Rattle.wt_torus.specs.Boxes.{length_of, move_of, is_below}
use Rattle.wt_torus.specs.Rotation.{orbit, step}
use Rattle.wt_torus.specs.Letters.{letter}
use Rattle.wt_torus.specs.Codes.{IsCode}
use Rattle.wt_torus.proofs.Scale.{two_signs, less_is, same_letter}
use Rattle.wt_torus.specs.Sound.{IsSound}
use Rattle.wt_induce.specs.Law.{reached_along}
use Rattle.wt_induce.proofs.Points.{IsDirected}
use Rattle.wt_induce.proofs.Planes.{point_at}
use Rattle.wt_induce.proofs.Coded.{moves_inside, all_directed}
use Rattle.wt_markov.specs.Markov.{Markov}
use Rattle.wt_markov.proofs.Held.{region_of, each_get}
use Rattle.wt_markov.proofs.Shared.{Shared, shared, reached_same}
use Rattle.wt_markov.proofs.Turned.{orbit_step, follows}

-- the letter at cell j of line i
pub code_at : (axis : Axis) (p : Partition) (z : Spot) (g : Grid) → IsCode p z g → (i j : ℕ) → i < along axis g → j < across axis g
    → letter p (reached_along axis p.torus z i j) ≡ letter_of.One (at axis g i j)
code_at One p z g c i j li lj = c.letters i j li lj
code_at Two p z g c i j li lj = c.letters j i lj li

pub directed_at : (p : Partition) → IsSound p → (i : ℕ) (r : Labelled) → slice_get p.regions i ≡ Some r → IsDirected r.region.planes
directed_at p sound i r e = each_get (λ (q : Labelled). IsDirected q.region.planes) p.regions i r (all_directed p.regions sound.directed) e

module _ (axis : Axis) (p : Partition) (sound : IsSound p) (z : Spot) (h : Shared axis p.torus z) where
  moves : (is_positive (top (move_of axis p.torus)) ≡ true) × (is_below (top (move_of axis p.torus)) (move_of axis p.torus).d (length_of axis p.torus) ≡ true)
  moves = and_parts (is_positive (top (move_of axis p.torus))) (is_below (top (move_of axis p.torus)) (move_of axis p.torus).d (length_of axis p.torus)) (moves_inside axis p sound)

  pub some : is_positive h.M ≡ true
  some = sym (two_signs (top (move_of axis p.torus)) h.M h.d (move_of axis p.torus).d h.above h.move_over h.move_is) ∙ moves.0

  pub less : is_positive (minus h.L h.M) ≡ true
  less = sym (less_is h.d (move_of axis p.torus) (length_of axis p.torus) h.M h.L h.above h.move_over h.length_over h.move_is h.length_is) ∙ moves.1

  abbrev pub spot_at : ℕ → ℕ → Spot
  spot_at i j = point_at axis (orbit h.L h.M h.T i) (orbit h.O h.N h.S j) h.d

  -- a letter of the code, over the denominator
  pub letter_at : (g : Grid) → IsCode p z g → (i j : ℕ) → i < along axis g → j < across axis g → letter p (spot_at i j) ≡ letter_of.One (at axis g i j)
  letter_at g c i j li lj = sym (same_letter p (reached_along axis p.torus z i j) (spot_at i j) (reached_same axis p.torus z h i j)) ∙ code_at axis p z g c i j li lj

  module _ (ts : List Tile) (markov : Markov ts p) (g : Grid) (c : IsCode p z g) where
    pub tile_at : (i j : ℕ) → i < along axis g → j < across axis g → at axis g i j < length ts
    tile_at i j li lj =
        let r = region_of p (spot_at i j) (at axis g i j) (letter_at g c i j li lj) in
        subst (λ (a : ℕ). a < length ts) r.label (markov.tiles r.number r.region r.there)

    pub fits_at : (i j : ℕ) → suc i < along axis g → j < across axis g → matches ts axis (at axis g i j) (at axis g (suc i) j) ≡ true
    fits_at i j li lj =
        let t = orbit h.L h.M h.T i in
        let s = orbit h.O h.N h.S j in
        let a = at axis g i j in
        let b = at axis g (suc i) j in
        let r = region_of p (point_at axis t s h.d) a (letter_at g c i j (omega arith) lj) in
        let there : letter p (point_at axis (step h.L h.M t) s h.d) ≡ letter_of.One b =
        subst (λ (u : Whole). letter p (point_at axis u s h.d) ≡ letter_of.One b) (orbit_step h.L h.M h.T some less i) (letter_at g c (suc i) j li lj) in
        let q = region_of p (point_at axis (step h.L h.M t) s h.d) b there in
        let f = follows axis p.torus sound.width sound.height h.d h.above h.L h.M h.length_over h.length_is h.move_over h.move_is r.region q.region
        (directed_at p sound r.number r.region r.there) (directed_at p sound q.number q.region q.there) t s r.inside r.held q.inside q.held in
        let m = markov.matched axis r.number q.number r.region q.region r.there q.there f in
        subst (λ (x : ℕ). matches ts axis x b ≡ true) r.label (subst (λ (y : ℕ). matches ts axis r.region.label y ≡ true) q.label m)

pub codes_valid : (ts : List Tile) (p : Partition) → IsSound p → Markov ts p → (z : Spot) → IsSpot z → (g : Grid) → IsCode p z g → IsPattern ts g
codes_valid ts p sound markov z spot g c =
    let one = shared One p sound z spot.divisor in
    let two = shared Two p sound z spot.divisor in
    let below : AllBelow (length ts) g = λ x y lx ly. tile_at One p sound z one ts markov g c x y lx ly in
    (c.grid, below, valid one two)
  where
    valid : Shared One p.torus z → Shared Two p.torus z → IsValid (matches ts) g
    valid one two One i j li lj = fits_at One p sound z one ts markov g c i j li lj
    valid one two Two i j li lj = fits_at Two p sound z two ts markov g c i j li lj
