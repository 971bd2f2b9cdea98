-- There is at most one least wrapping rectangle.
use Rattle.std.proofs.Common.{arith, ◌≡◌, ◌⊎◌, ℕ, ◌*◌, ◌<◌, ◌≤◌, List, inl, inr, refl, sym, ap, ◌∙◌, subst}
use Rattle.std.proofs.lemmas.Bool.{cases_lt}
use Rattle.std.proofs.Math.Nat.{mul-div_cancel_left}
use Rattle.std.specs.Prelude.{◌/◌}
use Rattle.wt_tile.specs.declared.tile.Tile.{Tile}
use Rattle.wt_grid.specs.Grid.{Grid}
use Rattle.wt_grid.specs.Order.{IsBefore}
use Rattle.wt_grid.proofs.Order.{one_before}
use Rattle.wt_periodic.specs.Wraps.{IsWrapOf}
use Rattle.wt_periodic.specs.Least.{IsEarlier, IsLeastWrap}

one_list : (f g : List ℕ) → (f ≡ g) ⊎ IsBefore f g → (g ≡ f) ⊎ IsBefore g f → f ≡ g
one_list f g (inl e) b = e
one_list f g (inr a) (inl e) = sym e
one_list f g (inr a) (inr b) = absurd (one_before f g a b)

one_height : (w h k : ℕ) → 1 ≤ w → w * h ≡ w * k → h ≡ k
one_height w h k some e = sym (mul-div_cancel_left h some) ∙ ap (λ (n : ℕ). n / w) e ∙ mul-div_cancel_left k some

-- of two sizes one is earlier, or they are the same
one_size : (w h m n : ℕ) → 1 ≤ w → (IsEarlier w h m n → ⊥) → (IsEarlier m n w h → ⊥) → (w ≡ m) × (h ≡ n)
one_size w h m n some a b = elim (cases_lt (w * h) (m * n)) [
  | inl l ↦ absurd (a (inl l))
  | inr ge ↦ elim (cases_lt (m * n) (w * h)) [
    | inl l ↦ absurd (b (inl l))
    | inr le ↦ (let area : w * h ≡ m * n = omega (arith, ge, le) in same_area area)
  ]
]
  where
    same_width : w ≡ m → w * h ≡ m * n → (w ≡ m) × (h ≡ n)
    same_width e area = (e, one_height w h n some (area ∙ ap (λ (k : ℕ). k * n) (sym e)))

    same_area : w * h ≡ m * n → (w ≡ m) × (h ≡ n)
    same_area area = elim (cases_lt w m) [
      | inl l ↦ absurd (a (inr (area, l)))
      | inr ge ↦ elim (cases_lt m w) [
        | inl l ↦ absurd (b (inr (sym area, l)))
        | inr le ↦ same_width (omega (arith, ge, le)) area
      ]
    ]

one_grid : (w h : ℕ) (f : List ℕ) (g : Grid) → g.width ≡ w → g.height ≡ h → g.cells ≡ f → g ≡ record { width = w; height = h; cells = f }
one_grid w h f g ew eh ef = rw (sym ew, sym eh, sym ef) refl

pub one_least : (ts : List Tile) (limit : ℕ) (g h : Grid) → IsLeastWrap ts limit g → IsLeastWrap ts limit h → g ≡ h
one_least ts limit g h p q =
    let s = one_size g.width g.height h.width h.height p.size.wide
    (λ e. q.first g.width g.height p.size e g p.least.wrap)
    (λ e. p.first h.width h.height q.size e h q.least.wrap) in
    let there : IsWrapOf ts g.width g.height h = subst (λ (w : ℕ). IsWrapOf ts w g.height h) (sym s.0) (subst (λ (n : ℕ). IsWrapOf ts h.width n h) (sym s.1) q.least.wrap) in
    let back : IsWrapOf ts h.width h.height g = subst (λ (w : ℕ). IsWrapOf ts w h.height g) s.0 (subst (λ (n : ℕ). IsWrapOf ts g.width n g) s.1 p.least.wrap) in
    let cells : g.cells ≡ h.cells = one_list g.cells h.cells (p.least.least h there) (q.least.least g back) in
    one_grid h.width h.height h.cells g s.0 s.1 cells
