-- In a wrapping rectangle each pair of neighbours has a window of any radius: the rectangle goes on round it.
use Rattle.std.proofs.Common.{arith, ◌≡◌, ℕ, zero, suc, ◌+◌, ◌-◌, ◌*◌, ◌%◌, ◌<◌, ◌≤◌, List, length, ap, ◌∙◌, subst}
use Rattle.wt_grid.specs.declared.axis.Axis.TheVariants.{One, Two}
use Rattle.wt_grid.specs.declared.axis.Axis.{Axis}
use Rattle.std.proofs.lemmas.Nat.{mod-mul-add}
use Rattle.wt_tile.specs.declared.tile.Tile.{Tile}
use Rattle.wt_tile.specs.Matching.{matches}
use Rattle.wt_grid.specs.Grid.{Grid, cell, along, across, at}
use Rattle.wt_grid.specs.Parts.{part_along, IsWindow}
use Rattle.wt_grid.proofs.Parts.{window_at}
use Rattle.wt_pattern.specs.Patterns.{IsPattern}
use Rattle.wt_pattern.specs.Windows.{IsSurroundable}
use Rattle.wt_periodic.specs.Wraps.{following, cell_right, cell_above, IsWrapOf}
use Rattle.wt_periodic.specs.Repeats.{repeated}
use Rattle.wt_periodic.proofs.Following.{next_mod}
use Rattle.wt_periodic.proofs.Repeats.{at_repeated, is_periodic}

-- a pair of a valid rectangle, r lines from its border, has a window
pair_of : (ts : List Tile) (axis : Axis) (g : Grid) (i j r : ℕ) → IsPattern ts g → r ≤ i → r ≤ j → i + r + 2 ≤ along axis g → j + r + 1 ≤ across axis g → IsSurroundable ts axis (at axis g i j) (at axis g (suc i) j) r
pair_of ts axis g i j r p li lj la lb =
    let w = window_at (length ts) (matches ts) axis g (i - r) (j - r) r p.1 p.2 (omega arith) (omega arith) in
    let e : i - r + r ≡ i = omega arith in
    let f : j - r + r ≡ j = omega arith in (
      part_along axis g (i - r) (j - r) (r + r + 2) (r + r + 1),
      (let P : ℕ → ℕ → Type 0 = λ x y. IsWindow (length ts) (matches ts) axis (at axis g x y) (at axis g (suc x) y) r (part_along axis g (i - r) (j - r) (r + r + 2) (r + r + 1)) in
          subst (λ (x : ℕ). P x j) e (subst (λ (y : ℕ). P (i - r + r) y) f w)),
    )

same_pair : (ts : List Tile) (axis : Axis) (r a b a' b' : ℕ) → a ≡ a' → b ≡ b' → IsSurroundable ts axis a b r → IsSurroundable ts axis a' b' r
same_pair ts axis r a b a' b' e f s = subst (λ (x : ℕ). IsSurroundable ts axis x b' r) e (subst (λ (y : ℕ). IsSurroundable ts axis a y r) f s)

many : (r w : ℕ) → 1 ≤ w → r ≤ r * w
many zero w le = omega arith
many (suc r) w le = let h = many r w le in let e : suc r * w ≡ r * w + w = omega arith in omega (arith, h, e, le)

pub pair_right : (ts : List Tile) (w h : ℕ) (g : Grid) (r : ℕ) → IsWrapOf ts w h g → (x y : ℕ) → x < g.width → y < g.height → IsSurroundable ts One (cell g x y) (cell_right g x y) r
pair_right ts w h g r p x y lx ly =
    let far : r ≤ r * g.width = many r g.width p.grid.wide in
    let up : r ≤ r * g.height = many r g.height p.grid.high in
    let all = is_periodic ts w h g p (r * g.width + x + r + 2) (r * g.height + y + r + 1) (omega arith) (omega arith) in
    let s : IsSurroundable ts One (cell (repeated g (r * g.width + x + r + 2) (r * g.height + y + r + 1)) (r * g.width + x) (r * g.height + y)) (cell (repeated g (r * g.width + x + r + 2) (r * g.height + y + r + 1)) (suc (r * g.width + x)) (r * g.height + y)) r =
    pair_of ts One (repeated g (r * g.width + x + r + 2) (r * g.height + y + r + 1)) (r * g.width + x) (r * g.height + y) r all.pattern (omega (arith, far)) (omega (arith, up)) (omega arith) (omega arith) in
    same_pair ts One r _ _ (cell g x y) (cell_right g x y)
    (at_repeated g (r * g.width + x + r + 2) (r * g.height + y + r + 1) (r * g.width + x) (r * g.height + y) (omega arith) (omega arith)
    ∙ ap (λ (k : ℕ). cell g k ((r * g.height + y) % g.height)) (mod-mul-add r g.width x lx)
    ∙ ap (λ (k : ℕ). cell g x k) (mod-mul-add r g.height y ly))
    (at_repeated g (r * g.width + x + r + 2) (r * g.height + y + r + 1) (suc (r * g.width + x)) (r * g.height + y) (omega arith) (omega arith)
    ∙ ap (λ (k : ℕ). cell g k ((r * g.height + y) % g.height)) (next_mod g.width (r * g.width + x) p.grid.wide ∙ ap (λ (k : ℕ). following g.width k) (mod-mul-add r g.width x lx))
    ∙ ap (λ (k : ℕ). cell g (following g.width x) k) (mod-mul-add r g.height y ly))
    s

pub pair_above : (ts : List Tile) (w h : ℕ) (g : Grid) (r : ℕ) → IsWrapOf ts w h g → (x y : ℕ) → x < g.width → y < g.height → IsSurroundable ts Two (cell g x y) (cell_above g x y) r
pair_above ts w h g r p x y lx ly =
    let far : r ≤ r * g.width = many r g.width p.grid.wide in
    let up : r ≤ r * g.height = many r g.height p.grid.high in
    let all = is_periodic ts w h g p (r * g.width + x + r + 1) (r * g.height + y + r + 2) (omega arith) (omega arith) in
    let s : IsSurroundable ts Two (cell (repeated g (r * g.width + x + r + 1) (r * g.height + y + r + 2)) (r * g.width + x) (r * g.height + y)) (cell (repeated g (r * g.width + x + r + 1) (r * g.height + y + r + 2)) (r * g.width + x) (suc (r * g.height + y))) r =
    pair_of ts Two (repeated g (r * g.width + x + r + 1) (r * g.height + y + r + 2)) (r * g.height + y) (r * g.width + x) r all.pattern (omega (arith, up)) (omega (arith, far)) (omega arith) (omega arith) in
    same_pair ts Two r _ _ (cell g x y) (cell_above g x y)
    (at_repeated g (r * g.width + x + r + 1) (r * g.height + y + r + 2) (r * g.width + x) (r * g.height + y) (omega arith) (omega arith)
    ∙ ap (λ (k : ℕ). cell g k ((r * g.height + y) % g.height)) (mod-mul-add r g.width x lx)
    ∙ ap (λ (k : ℕ). cell g x k) (mod-mul-add r g.height y ly))
    (at_repeated g (r * g.width + x + r + 1) (r * g.height + y + r + 2) (r * g.width + x) (suc (r * g.height + y)) (omega arith) (omega arith)
    ∙ ap (λ (k : ℕ). cell g k (suc (r * g.height + y) % g.height)) (mod-mul-add r g.width x lx)
    ∙ ap (λ (k : ℕ). cell g x k) (next_mod g.height (r * g.height + y) p.grid.high ∙ ap (λ (k : ℕ). following g.height k) (mod-mul-add r g.height y ly)))
    s
