-- Patterns whose tiles are renamed.
use Rattle.std.proofs.Common.{arith, ◌≡◌, ◌≤◌, ◌<◌, ◌+◌, ℕ, zero, suc, List, [], ◌∷◌, length, get_or, Bool, true, false, nat_eq, refl, sym, ◌∙◌, ap}
use Rattle.wt_grid.proofs.Grids.{listed_same}
use Rattle.wt_grid.specs.declared.axis.Axis.TheVariants.{One, Two}
use Rattle.wt_grid.specs.declared.axis.Axis.{Axis}
use Rattle.std.proofs.lemmas.Bool.Decides.{nat_tests}
use Rattle.wt_tile.specs.declared.tile.Tile.{Tile}
use Rattle.wt_tile.specs.Matching.{matches, tile_at}
use Rattle.wt_bijection.specs.Carried.{IsRenaming}
use Rattle.wt_pattern.specs.Patterns.{IsPattern}
use Rattle.wt_grid.specs.Grid.{Grid, IsGrid, cell, along, across, at, grid_of}
use Rattle.wt_grid.specs.Shifts.{IsRepeated}
use Rattle.wt_grid.specs.Widths.{Stage, next_row, last_row}
use Rattle.wt_grid.specs.Traces.{segment, IsTraced}
use Rattle.wt_grid.proofs.Bridge.{cell_of}
use Rattle.wt_grid.proofs.Parts.{grid_grid}
use Rattle.wt_grid.proofs.Traces.{listed_map}
use Rattle.wt_chain.specs.Growth.{origin_from, origin, renaming_stage}

later : (r : ℕ) (rs : List ℕ) (t i : ℕ) → nat_eq r t ≡ false → i < length (r ∷ rs) → get_or (r ∷ rs) i 0 ≡ t → (j : ℕ) × (j < length rs) × (get_or rs j 0 ≡ t)
later r rs t zero n l f = absurd (let h : r ≡ t = f in grind (arith, nat_tests, n, h))
later r rs t (suc j) n l f = (j, omega arith, f)

abbrev Hit : ℕ → List ℕ → ℕ → Type 0
Hit k rs t = (j : ℕ) × (origin_from k rs t ≡ k + j) × (j < length rs) × (get_or rs j 0 ≡ t)

hit : (k r : ℕ) (rs : List ℕ) (t i : ℕ) (b : Bool) → nat_eq r t ≡ b → i < length (r ∷ rs) → get_or (r ∷ rs) i 0 ≡ t → ((j : ℕ) → j < length rs → get_or rs j 0 ≡ t → Hit (k + 1) rs t) → Hit k (r ∷ rs) t
hit k r rs t i true n lt e rec = (0, rw n (omega arith), omega arith, grind (arith, nat_tests, n))
hit k r rs t i false n lt e rec =
    let p = later r rs t i n lt e in
    let s = rec p.0 p.1 p.2 in
    let same : (k + 1) + s.0 ≡ k + suc s.0 = omega arith in
    (suc s.0, rw n (s.1 ∙ same), omega arith, s.3)

first_hit : (k : ℕ) (rs : List ℕ) (t i : ℕ) → i < length rs → get_or rs i 0 ≡ t → Hit k rs t
first_hit k [] t i lt e = absurd (omega arith)
first_hit k (r ∷ rs) t i lt e = hit k r rs t i (nat_eq r t) refl lt e (λ j lj f. first_hit (k + 1) rs t j lj f)

module _ (from to : List Tile) (list : List ℕ) (ren : IsRenaming from to list) where
  pub origin_back : (i : ℕ) → i < length from → origin list (get_or list i 0) ≡ i
  origin_back i lt =
      let w = ren.whole in
      let h = first_hit 0 list (get_or list i 0) i (omega arith) refl in
      let lj : h.0 < length from = (let l = h.2 in omega arith) in
      let z : 0 + h.0 ≡ h.0 = omega arith in
      h.1 ∙ (z ∙ ren.apart h.0 i lj lt h.3)

  keeps_matching : (axis : Axis) (a b : ℕ) → a < length from → b < length from → matches from axis a b ≡ true → matches to axis (get_or list a 0) (get_or list b 0) ≡ true
  unfolding matches
  keeps_matching One a b la lb m =
      let e : (tile_at from a).east ≡ (tile_at from b).west = grind (arith, nat_tests, m) in
      let f : (tile_at to (get_or list a 0)).east ≡ (tile_at to (get_or list b 0)).west = ren.colours1.first a la ∙ (ap ren.colours1.image e ∙ sym (ren.colours1.second b lb)) in
      grind (arith, nat_tests, f)
  keeps_matching Two a b la lb m =
      let e : (tile_at from a).north ≡ (tile_at from b).south = grind (arith, nat_tests, m) in
      let f : (tile_at to (get_or list a 0)).north ≡ (tile_at to (get_or list b 0)).south = ren.colours2.first a la ∙ (ap ren.colours2.image e ∙ sym (ren.colours2.second b lb)) in
      grind (arith, nat_tests, f)

  module _ (g : Grid) (p : IsPattern from g) where
    pub renamed : Grid
    renamed = grid_of g.width g.height (λ x y. get_or list (cell g x y) 0)

    pub renamed_width : renamed.width ≡ g.width
    unfolding renamed
    renamed_width = refl

    pub renamed_height : renamed.height ≡ g.height
    unfolding renamed
    renamed_height = refl

    renamed_cell : (x y : ℕ) → x < g.width → y < g.height → cell renamed x y ≡ get_or list (cell g x y) 0
    unfolding renamed
    renamed_cell x y lx ly = cell_of g.width g.height x y (λ x y. get_or list (cell g x y) 0) lx ly

    pub renamed_at : (axis : Axis) (i j : ℕ) → i < along axis g → j < across axis g → at axis renamed i j ≡ get_or list (at axis g i j) 0
    renamed_at One i j li lj = renamed_cell i j li lj
    renamed_at Two i j li lj = renamed_cell j i lj li

    pub renamed_along : (axis : Axis) → along axis renamed ≡ along axis g
    renamed_along One = renamed_width
    renamed_along Two = renamed_height

    pub renamed_across : (axis : Axis) → across axis renamed ≡ across axis g
    renamed_across One = renamed_height
    renamed_across Two = renamed_width

    below : (axis : Axis) (i j : ℕ) → i < along axis g → j < across axis g → at axis g i j < length from
    below One i j li lj = p.1 i j li lj
    below Two i j li lj = p.1 j i lj li

    renamed_grid : IsGrid renamed
    unfolding renamed
    renamed_grid = grid_grid g.width g.height (λ x y. get_or list (cell g x y) 0) p.0.wide p.0.high

    pub renamed_pattern : IsPattern to renamed
    renamed_pattern = (renamed_grid, (λ x y lx ly. tile x y lx ly), (λ axis i j li lj. valid axis i j li lj))
      where
        tile : (x y : ℕ) → x < renamed.width → y < renamed.height → cell renamed x y < length to
        tile x y lx ly =
            let w = renamed_width in let h = renamed_height in
            rw (renamed_cell x y (omega arith) (omega arith)) (ren.inside (cell g x y) (p.1 x y (omega arith) (omega arith)))

        valid : (axis : Axis) (i j : ℕ) → suc i < along axis renamed → j < across axis renamed → matches to axis (at axis renamed i j) (at axis renamed (suc i) j) ≡ true
        valid axis i j li lj =
            let a = renamed_along axis in let b = renamed_across axis in
            rw (renamed_at axis i j (omega arith) (omega arith), renamed_at axis (suc i) j (omega arith) (omega arith))
            (keeps_matching axis (at axis g i j) (at axis g (suc i) j) (below axis i j (omega arith) (omega arith)) (below axis (suc i) j (omega arith) (omega arith)) (p.2 axis i j (omega arith) (omega arith)))

    pub renamed_repeats : (axis : Axis) (d a b : ℕ) → IsRepeated axis d a b g → IsRepeated axis d a b renamed
    renamed_repeats axis d a b h i j li la lb =
        let x = renamed_along axis in let y = renamed_across axis in
        renamed_at axis i (j + a) (omega arith) (omega arith)
        ∙ (ap (λ (t : ℕ). get_or list t 0) (h i j (omega arith) (omega arith) (omega arith)) ∙ sym (renamed_at axis (i + d) (j + b) (omega arith) (omega arith)))

    renamed_row : (axis : Axis) (i j n : ℕ) → i + n ≤ along axis g → j < across axis g → next_row (renaming_stage list) (segment axis renamed i j n) ≡ segment axis g i j n
    renamed_row axis i j n le lt =
        listed_map (λ t. origin list t) n (λ k. at axis renamed (i + k) j)
        ∙ listed_same n (λ k. origin list (at axis renamed (i + k) j)) (λ k. at axis g (i + k) j) (λ k lk.
        ap (origin list) (renamed_at axis (i + k) j (omega arith) lt) ∙ origin_back (at axis g (i + k) j) (below axis (i + k) j (omega arith) lt))

    pub renamed_traced : (axis : Axis) (ss : List Stage) (d0 d : ℕ) → IsTraced axis ss d0 g d → IsTraced axis (renaming_stage list ∷ ss) d0 renamed d
    renamed_traced axis ss d0 d h i j le lt =
        let x = renamed_along axis in let y = renamed_across axis in
        ap (λ (row : List ℕ). length (last_row ss row)) (renamed_row axis i j d (omega arith) (omega arith)) ∙ h i j (omega arith) (omega arith)
