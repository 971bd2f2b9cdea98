-- Valid patterns as towers of rows.
use Rattle.std.proofs.Common.{arith, ◌≡◌, ℕ, zero, suc, ◌+◌, ◌-◌, ◌<◌, ◌≤◌, List, length, slice_index, refl, sym, subst}
use Rattle.wt_tile.specs.declared.tile.Tile.{Tile}
use Rattle.wt_tile.specs.Matching.{matches}
use Rattle.wt_grid.specs.Grid.{Grid, cell, listed, grid_of}
use Rattle.wt_grid.specs.declared.axis.Axis.TheVariants.{One, Two}
use Rattle.wt_grid.specs.Parts.{part, IsValid}
use Rattle.wt_grid.proofs.Bridge.{length-listed, get_or-listed, cell_of}
use Rattle.wt_grid.proofs.Parts.{grid_grid, below_part, valid_part}
use Rattle.wt_pattern.specs.Patterns.{IsPattern}
use Rattle.wt_strip.specs.Layers.{IsRow, IsUnder, IsInLayer}

-- row y of a rectangle
abbrev pub row_of : Grid → ℕ → List ℕ
row_of g y = listed g.width (λ x. cell g x y)

module _ (ts : List Tile) where
  pub cell_at : (g : Grid) (x y : ℕ) → x < g.width → slice_index (row_of g y) x ≡ cell g x y
  cell_at g x y lt = get_or-listed g.width x (λ x. cell g x y) 0 lt

  pub valid_row : (g : Grid) → IsPattern ts g → (y : ℕ) → y < g.height → IsRow ts g.width (row_of g y)
  valid_row g p y ly = record {
    long = long;
    tiles = λ x lx. let e = cell_at g x y lx in let b = p.1 x y lx ly in omega (arith, e, b);
    across = λ x lx. rw (cell_at g x y (omega arith), cell_at g (suc x) y lx) (p.2 One x y lx ly);
  }
    where
      long : length (row_of g y) ≡ g.width
      long = length-listed g.width (λ x. cell g x y)

  pub valid_under : (g : Grid) → IsPattern ts g → (y : ℕ) → suc y < g.height → IsUnder ts g.width (row_of g y) (row_of g (suc y))
  valid_under g p y ly = λ x lx. rw (cell_at g x y lx, cell_at g x (suc y) lx) (p.2 Two y x ly lx)

  -- row y of a valid pattern is in layer y
  pub upon : (g : Grid) → IsPattern ts g → (y : ℕ) → y < g.height → IsInLayer ts g.width y (row_of g y)
  upon g p zero ly = valid_row g p 0 ly
  upon g p (suc y) ly = (
    valid_row g p (suc y) ly,
    (
      row_of g y,
      upon g p y (omega arith),
      valid_under g p y ly,
    ),
  )

  -- a row upon rows that are told from the top
  abbrev pub topped : List ℕ → (ℕ → List ℕ) → ℕ → List ℕ
  topped q f zero = q
  topped q f (suc k) = f k

  -- n + 1 rows from the top, each upon the next
  pub record IsTower (w n : ℕ) (f : ℕ → List ℕ) : Type 0 where
    pub rows : (k : ℕ) → k ≤ n → IsRow ts w (f k)
    pub unders : (k : ℕ) → k < n → IsUnder ts w (f (suc k)) (f k)

  pub tower : (w n : ℕ) (q : List ℕ) → IsInLayer ts w n q → (f : ℕ → List ℕ) × (f 0 ≡ q) × IsTower w n f
  tower w zero q h = (λ k. q, refl, record { rows = λ k le. h; unders = λ k lt. absurd (omega arith) })
  tower w (suc n) q h =
      let below = tower w n h.1.0 h.1.1 in
      (topped q below.0, top q below.0, record { rows = rows q below.0 h.0 below.2.rows; unders = unders q below.0 (subst (λ p. IsUnder ts w p q) (sym below.1) h.1.2) below.2.unders })
    where
      top : (q : List ℕ) (f : ℕ → List ℕ) → topped q f 0 ≡ q
      top q f = refl

      rows : (q : List ℕ) (f : ℕ → List ℕ) → IsRow ts w q → ((k : ℕ) → k ≤ n → IsRow ts w (f k)) → (k : ℕ) → k ≤ suc n → IsRow ts w (topped q f k)
      rows q f h r zero le = h
      rows q f h r (suc k) le = r k (omega arith)

      unders : (q : List ℕ) (f : ℕ → List ℕ) → IsUnder ts w (f 0) q → ((k : ℕ) → k < n → IsUnder ts w (f (suc k)) (f k)) → (k : ℕ) → k < suc n → IsUnder ts w (topped q f (suc k)) (topped q f k)
      unders q f h r zero lt = h
      unders q f h r (suc k) lt = r k (omega arith)

  abbrev pub tower_cell : ℕ → (ℕ → List ℕ) → ℕ → ℕ → ℕ
  tower_cell n f x y = slice_index (f (n - y)) x

  pub pattern_of : (w n : ℕ) (f : ℕ → List ℕ) → 1 ≤ w → IsTower w n f → IsPattern ts (grid_of w (suc n) (tower_cell n f))
  pattern_of w n f wide t = (
    grid_grid w (suc n) (tower_cell n f) wide (omega arith),
    λ x y lx ly. rw (cell_of w (suc n) x y (tower_cell n f) lx ly) ((t.rows (n - y) (omega arith)).tiles x lx),
    valid,
  )
    where
      valid : IsValid (matches ts) (grid_of w (suc n) (tower_cell n f))
      valid One i j li lj =
          rw (cell_of w (suc n) i j (tower_cell n f) (omega arith) lj, cell_of w (suc n) (suc i) j (tower_cell n f) li lj)
          ((t.rows (n - j) (omega arith)).across i li)
      valid Two i j li lj =
          let e : n - i ≡ suc (n - suc i) = omega arith in
          rw (cell_of w (suc n) j i (tower_cell n f) lj (omega arith), cell_of w (suc n) j (suc i) (tower_cell n f) lj li, e)
          (t.unders (n - suc i) (omega arith) j lj)

  pub to_layers : (g : Grid) (n : ℕ) → IsPattern ts g → g.height ≡ suc n → (q : List ℕ) × IsInLayer ts g.width n q
  to_layers g n p e = (row_of g n, upon g p n (omega arith))

  pub to_patterns : (w n : ℕ) (q : List ℕ) → 1 ≤ w → IsInLayer ts w n q → (g : Grid) × IsPattern ts g × (g.width ≡ w) × (g.height ≡ suc n)
  to_patterns w n q wide h =
      let t = tower w n q h in
      (grid_of w (suc n) (tower_cell n t.0), pattern_of w n t.0 wide t.2, refl, refl)

  -- a part of a pattern is one
  pub pattern_part : (g : Grid) (w h : ℕ) → IsPattern ts g → 1 ≤ w → 1 ≤ h → w ≤ g.width → h ≤ g.height → IsPattern ts (part g 0 0 w h)
  pattern_part g w h p lw lh gw gh = (
    grid_grid w h (λ i j. cell g (0 + i) (0 + j)) lw lh,
    below_part (length ts) g 0 0 w h p.1 (omega (arith, gw)) (omega (arith, gh)),
    valid_part (matches ts) g 0 0 w h p.2 (omega (arith, gw)) (omega (arith, gh)),
  )
