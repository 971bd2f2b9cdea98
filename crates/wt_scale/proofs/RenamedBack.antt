-- Patterns over the set that a renaming leads to, renamed back.
use Rattle.std.proofs.Common.{arith, ◌≡◌, ◌<◌, ℕ, suc, List, length, get_or, true, refl, sym, ◌∙◌, ap}
use Rattle.wt_grid.specs.declared.axis.Axis.TheVariants.{One, Two}
use Rattle.wt_grid.specs.declared.axis.Axis.{Axis}
use Rattle.std.proofs.lemmas.Bool.Decides.{nat_tests}
use Rattle.wt_tile.specs.declared.tile.Tile.{Tile}
use Rattle.wt_tile.specs.Matching.{matches, tile_at}
use Rattle.wt_bijection.specs.Carried.{IsRenaming}
use Rattle.wt_pattern.specs.Patterns.{IsPattern}
use Rattle.wt_grid.specs.Grid.{Grid, cell, along, across, at}
use Rattle.wt_grid.specs.Parts.{AllBelow}
use Rattle.wt_grid.proofs.Bridge.{cell_of}
use Rattle.wt_grid.proofs.Parts.{grid_grid}
use Rattle.wt_chain.specs.Growth.{origin}
use Rattle.wt_chain.specs.Turns.{renamed_back}
use Rattle.wt_scale.specs.Existence.{IsSameSized}
use Rattle.wt_scale.proofs.Renamed.{origin_back}

module _ (from to : List Tile) (list : List ℕ) (ren : IsRenaming from to list) where
  -- each tile is carried onto from its origin
  origin_of : (t : ℕ) → t < length to → (origin list t < length from) × (get_or list (origin list t) 0 ≡ t)
  origin_of t lt =
      let o = ren.onto t lt in
      let e : get_or list o.0 0 ≡ t = o.2 in
      let same : origin list t ≡ o.0 = ap (λ (u : ℕ). origin list u) (sym e) ∙ origin_back from to list ren o.0 o.1 in
      let below = o.1 in
      (omega arith, ap (λ (i : ℕ). get_or list i 0) same ∙ e)

  -- the colour of an edge goes back
  goes_back : (f : Tile → ℕ) (back : ℕ → ℕ) → ((i : ℕ) → i < length from → back (f (tile_at to (get_or list i 0))) ≡ f (tile_at from i)) → (t : ℕ) → t < length to → back (f (tile_at to t)) ≡ f (tile_at from (origin list t))
  goes_back f back h t lt = let o = origin_of t lt in ap (λ (u : ℕ). back (f (tile_at to u))) (sym o.1) ∙ h (origin list t) o.0

  back_matches : (axis : Axis) (a b : ℕ) → a < length to → b < length to → matches to axis a b ≡ true → matches from axis (origin list a) (origin list b) ≡ true
  unfolding matches
  back_matches One a b la lb m =
      let c = ren.colours1 in
      let e : (tile_at to a).east ≡ (tile_at to b).west = grind (arith, nat_tests, m) in
      let f : (tile_at from (origin list a)).east ≡ (tile_at from (origin list b)).west =
      sym (goes_back (λ t. t.east) c.origin c.first_back a la) ∙ (ap c.origin e ∙ goes_back (λ t. t.west) c.origin c.second_back b lb) in
      grind (arith, nat_tests, f)
  back_matches Two a b la lb m =
      let c = ren.colours2 in
      let e : (tile_at to a).north ≡ (tile_at to b).south = grind (arith, nat_tests, m) in
      let f : (tile_at from (origin list a)).north ≡ (tile_at from (origin list b)).south =
      sym (goes_back (λ t. t.north) c.origin c.first_back a la) ∙ (ap c.origin e ∙ goes_back (λ t. t.south) c.origin c.second_back b lb) in
      grind (arith, nat_tests, f)

  module _ (g : Grid) (p : IsPattern to g) where
    back_at : (axis : Axis) (i j : ℕ) → i < along axis g → j < across axis g → at axis (renamed_back list g) i j ≡ origin list (at axis g i j)
    back_at One i j li lj = cell_of g.width g.height i j (λ x y. origin list (cell g x y)) li lj
    back_at Two i j li lj = cell_of g.width g.height j i (λ x y. origin list (cell g x y)) lj li

    tile_below : (axis : Axis) (i j : ℕ) → i < along axis g → j < across axis g → at axis g i j < length to
    tile_below One i j li lj = p.1 i j li lj
    tile_below Two i j li lj = p.1 j i lj li

    back_along : (axis : Axis) → along axis (renamed_back list g) ≡ along axis g
    back_along One = refl
    back_along Two = refl

    back_across : (axis : Axis) → across axis (renamed_back list g) ≡ across axis g
    back_across One = refl
    back_across Two = refl

    back_below : AllBelow (length from) (renamed_back list g)
    back_below x y lx ly = rw (back_at One x y lx ly) (origin_of (cell g x y) (p.1 x y lx ly)).0

    back_valid : (axis : Axis) (i j : ℕ) → suc i < along axis (renamed_back list g) → j < across axis (renamed_back list g) → matches from axis (at axis (renamed_back list g) i j) (at axis (renamed_back list g) (suc i) j) ≡ true
    back_valid axis i j li lj =
        let a = back_along axis in let b = back_across axis in
        rw (back_at axis i j (omega arith) (omega arith), back_at axis (suc i) j (omega arith) (omega arith))
        (back_matches axis (at axis g i j) (at axis g (suc i) j) (tile_below axis i j (omega arith) (omega arith)) (tile_below axis (suc i) j (omega arith) (omega arith)) (p.2 axis i j (omega arith) (omega arith)))

  pub renamed_back_valid : (g : Grid) → IsPattern to g → IsSameSized from g (renamed_back list g)
  renamed_back_valid g p = record {
    pattern = (grid_grid g.width g.height (λ x y. origin list (cell g x y)) p.0.wide p.0.high, back_below g p, back_valid g p);
    wide = refl;
    high = refl;
  }
