-- What the code's zones say.
use Rattle.std.proofs.Common.{arith, ◌≡◌, ℕ, zero, suc, ◌+◌, ◌-◌, ◌<◌, ◌≤◌, length, List, ◌++◌, Bool, true, false, ◌&&◌, ◌||◌, not, cond, Option, None, Some, refl, sym, ap, ◌∙◌}
use Rattle.wt_grid.specs.declared.axis.Axis.{Axis}
use Rattle.wt_grid.specs.declared.axis.Axis.TheVariants.{One, Two}
use Rattle.wt_plane.specs.HalfPlanes.{reduced_half}
use Rattle.wt_induce.specs.Zones.{between, beyond, beneath, zero_fraction}
use Rattle.std.specs.List.{list_all}
use Rattle.wt_torus.specs.declared.partition.Labelled.{Labelled}
use Rattle.wt_torus.specs.Boxes.{Rotation}
use Rattle.wt_induce.specs.Faults.{is_small_half, moved_back}
use Rattle.wt_markov.specs.declared.turns.Turns.{Turns}
use Rattle.wt_markov.specs.Follow.{meets, box, can_follow}
use Rattle.wt_tile.specs.declared.tile.Tile.{Tile}
use Rattle.wt_tile.specs.Matching.{matches}
use Rattle.wt_torus.specs.declared.partition.Partition.{Partition}
use Rattle.wt_markov.specs.declared.fault.MarkovFault.{MarkovFault}
use Rattle.wt_markov.specs.declared.fault.MarkovFault.TheVariants.{TooLarge, Pair}
use Rattle.wt_markov.specs.Faults.{region_at, zones_fit, moved_fit, pair_fault_at, pair_fault, followers, pairs_from, pair_count}
use Rattle.wt_grid.specs.First.{first_from}
use Rattle.wt_markov.specs.Turns.{IsTurns}

pub fit_is : (axis : Axis) (r : Rotation) (z : Turns) → IsTurns axis r z → (q : Labelled)
    → (list_all is_small_half (moved_back z.axis z.on q.region.planes) && list_all is_small_half (moved_back z.axis z.back q.region.planes)) ≡ moved_fit axis r q
fit_is axis r z i q = rw (i.along, i.on, i.back) refl

pub follow_is : (axis : Axis) (r : Rotation) (z : Turns) → IsTurns axis r z → (p q : Labelled)
    → (meets (z.low ++ (p.region.planes ++ moved_back z.axis z.on q.region.planes)) || meets (z.high ++ (p.region.planes ++ moved_back z.axis z.back q.region.planes))) ≡ can_follow axis r p q
unfolding can_follow
follow_is axis r z i p q = rw (i.along, i.on, i.back, i.low, i.high) refl

-- where the second two of four half-planes are out of limit, the four are
unfit_behind : (a b c : Bool) → c ≡ false → (a && (b && c)) ≡ false
unfit_behind true true c e = e
unfit_behind true false c e = refl
unfit_behind false b c e = refl

pub box_unfit : (r : Rotation) → list_all is_small_half (between Two zero_fraction r.height) ≡ false → list_all is_small_half (box r) ≡ false
box_unfit r e =
    unfit_behind (is_small_half (reduced_half (beyond One zero_fraction))) (is_small_half (reduced_half (beneath One r.width))) (list_all is_small_half (between Two zero_fraction r.height)) e

pub both_fit : (a b : Bool) → (a && b) ≡ true → (a ≡ true) × (b ≡ true)
both_fit true b e = (refl, e)
both_fit false b e = absurd cc

settle : (a b c m : Bool) (x : MarkovFault) → a ≡ true → b ≡ true → cond (a && b) (cond (c && not m) (Some x) None) (Some TooLarge) ≡ cond (c && not m) (Some x) None
settle a b c m x e f = rw (e, f) refl

abbrev fits_by : Turns → Labelled → Bool
fits_by z q = list_all is_small_half (moved_back z.axis z.on q.region.planes) && list_all is_small_half (moved_back z.axis z.back q.region.planes)

abbrev follows_by : Turns → Labelled → Labelled → Bool
follows_by z p q = meets (z.low ++ (p.region.planes ++ moved_back z.axis z.on q.region.planes)) || meets (z.high ++ (p.region.planes ++ moved_back z.axis z.back q.region.planes))

-- the fault of a pair, by what the code has found
pub pair_is : (ts : List Tile) (axis : Axis) (p : Partition) (i j : ℕ) (first second : Labelled) → region_at p i ≡ first → region_at p j ≡ second
    → (z : Turns) → IsTurns axis p.torus z → zones_fit axis p.torus ≡ true
    → (fit b m : Bool) → fit ≡ fits_by z second → fit ≡ true → b ≡ follows_by z first second → m ≡ matches ts axis first.label second.label
    → (pair_fault_at ts axis p i j ≡ cond (b && not m) (Some (Pair axis i j)) None) × (b ≡ can_follow axis p.torus (region_at p i) (region_at p j))
pair_is ts axis p i j first second ei ej z iz zf fit b m ef t eb em =
    let f : moved_fit axis p.torus (region_at p j) ≡ true = sym (fit_is axis p.torus z iz (region_at p j)) ∙ (ap (fits_by z) ej ∙ (sym ef ∙ t)) in
    let g : b ≡ can_follow axis p.torus (region_at p i) (region_at p j) =
    eb ∙ (ap (λ (x : Labelled). follows_by z x second) (sym ei) ∙ (ap (follows_by z (region_at p i)) (sym ej) ∙ follow_is axis p.torus z iz (region_at p i) (region_at p j))) in
    let h : m ≡ matches ts axis (region_at p i).label (region_at p j).label =
    em ∙ (ap (λ (x : Labelled). matches ts axis x.label second.label) (sym ei) ∙ ap (λ (x : Labelled). matches ts axis (region_at p i).label x.label) (sym ej)) in (
      settle (zones_fit axis p.torus) (moved_fit axis p.torus (region_at p j)) (can_follow axis p.torus (region_at p i) (region_at p j)) (matches ts axis (region_at p i).label (region_at p j).label) (Pair axis i j) zf f
          ∙ ap (λ (x : Bool). cond (x && not (matches ts axis (region_at p i).label (region_at p j).label)) (Some (Pair axis i j)) None) (sym g)
          ∙ ap (λ (x : Bool). cond (b && not x) (Some (Pair axis i j)) None) (sym h),
      g,
    )

pub followers_more : (axis : Axis) (p : Partition) (i j n : ℕ) → j < n
    → followers axis p i j (n - j) ≡ (cond (can_follow axis p.torus (region_at p i) (region_at p j)) 1 0) + followers axis p i (j + 1) (n - (j + 1))
followers_more axis p i j n lt = let one : n - j ≡ suc (n - (j + 1)) = omega arith in ap (followers axis p i j) one

pub pairs_more : (axis : Axis) (p : Partition) (i n : ℕ) → i < n → pairs_from axis p i (n - i) ≡ followers axis p i 0 (length p.regions) + pairs_from axis p (i + 1) (n - (i + 1))
pairs_more axis p i n lt = let one : n - i ≡ suc (n - (i + 1)) = omega arith in ap (pairs_from axis p i) one

-- where a number of the zones is out of limit, that is the fault of the first pair
unfit_at : (b x : Bool) (y z : Option MarkovFault) → b ≡ false → cond (b && x) y z ≡ z
unfit_at b x y z e = rw e refl

unfit_in : (f : ℕ → ℕ → Option MarkovFault) (n : ℕ) (e : MarkovFault) → 1 ≤ n → f 0 0 ≡ Some e → first_from (λ i. first_from (f i) 0 n) 0 n ≡ Some e
unfit_in f zero e le h = absurd (omega arith)
unfit_in f (suc n) e le h = rw h refl

pub unfit : (ts : List Tile) (axis : Axis) (p : Partition) → zones_fit axis p.torus ≡ false → 1 ≤ length p.regions → pair_fault ts axis p ≡ Some TooLarge
unfit ts axis p e le = unfit_in (pair_fault_at ts axis p) (length p.regions) TooLarge le
    (unfit_at (zones_fit axis p.torus) (moved_fit axis p.torus (region_at p 0))
    (cond (can_follow axis p.torus (region_at p 0) (region_at p 0) && not (matches ts axis (region_at p 0).label (region_at p 0).label)) (Some (Pair axis 0 0)) None) (Some TooLarge) e)

none_in : (f : ℕ → ℕ → Option MarkovFault) (n : ℕ) → n ≡ 0 → first_from (λ i. first_from (f i) 0 n) 0 n ≡ None
none_in f n e = rw e refl

pub no_regions : (ts : List Tile) (axis : Axis) (p : Partition) → length p.regions ≡ 0 → (pair_fault ts axis p ≡ None) × (pair_count axis p ≡ 0)
no_regions ts axis p e = (none_in (pair_fault_at ts axis p) (length p.regions) e, ap (pairs_from axis p 0) e)
