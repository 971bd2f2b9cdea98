-- Cells and lines.
use Rattle.std.proofs.Common.{arith, ◌≡◌, ℕ, zero, suc, ◌+◌, ◌*◌, ◌/◌, ◌%◌, ◌<◌, length, get_or, Bool, true, refl, ap, ◌∙◌}
use Rattle.std.proofs.lemmas.Nat.{mul-add-lt, div-mul-add, mod-mul-add}
use Rattle.wt_grid.specs.Lines.{IsAcross, IsBeside, IsField}
use Rattle.wt_grid.specs.Grid.{cell, listed, grid_of}

pub length-listed : {A : Type 0} (n : ℕ) (f : ℕ → A) → length (listed n f) ≡ n
length-listed zero f = refl
length-listed (suc n) f = ap suc (length-listed n (λ k. f (suc k)))

pub get_or-listed : {A : Type 0} (n i : ℕ) (f : ℕ → A) (d : A) → i < n → get_or (listed n f) i d ≡ f i
get_or-listed zero i f d lt = absurd (omega arith)
get_or-listed (suc n) zero f d lt = refl
get_or-listed (suc n) (suc i) f d lt = get_or-listed n i (λ k. f (suc k)) d (omega arith)

-- what the rectangle with these cells has at a place
pub cell_of : (w h x y : ℕ) (f : ℕ → ℕ → ℕ) → x < w → y < h → cell (grid_of w h f) x y ≡ f x y
cell_of w h x y f lx ly =
    let within : y * w + x < w * h = mul-add-lt y w x h ly lx in
    get_or-listed (w * h) (y * w + x) (λ k. f (k % w) (k / w)) 0 within ∙ rw (mod-mul-add y w x lx, div-mul-add y w x lx) refl

pub across_listed : (f : ℕ → ℕ → Bool) (n : ℕ) (g : ℕ → ℕ) → ((j : ℕ) → suc j < n → f (g j) (g (suc j)) ≡ true) → IsAcross f (listed n g)
across_listed f zero g h = tt
across_listed f (suc zero) g h = tt
across_listed f (suc (suc n)) g h = (h 0 (omega arith), across_listed f (suc n) (λ k. g (suc k)) (λ j lt. h (suc j) (omega arith)))

pub beside_listed : (f : ℕ → ℕ → Bool) (n : ℕ) (a b : ℕ → ℕ) → ((j : ℕ) → j < n → f (a j) (b j) ≡ true) → IsBeside f (listed n a) (listed n b)
beside_listed f zero a b h = tt
beside_listed f (suc n) a b h = (h 0 (omega arith), beside_listed f n (λ k. a (suc k)) (λ k. b (suc k)) (λ j lt. h (suc j) (omega arith)))

pub field_listed : (f g : ℕ → ℕ → Bool) (n m : ℕ) (a : ℕ → ℕ → ℕ)
    → ((i j : ℕ) → suc i < n → j < m → f (a i j) (a (suc i) j) ≡ true)
    → ((i j : ℕ) → i < n → suc j < m → g (a i j) (a i (suc j)) ≡ true)
    → IsField f g (listed n (λ i. listed m (a i)))
field_listed f g zero m a p q = tt
field_listed f g (suc zero) m a p q = across_listed g m (a 0) (λ j lt. q 0 j (omega arith) lt)
field_listed f g (suc (suc n)) m a p q = (
  across_listed g m (a 0) (λ j lt. q 0 j (omega arith) lt),
  beside_listed f m (a 0) (a 1) (λ j lt. p 0 j (omega arith) lt),
  field_listed f g (suc n) m (λ i. a (suc i)) (λ i j li lj. p (suc i) j (omega arith) lj) (λ i j li lj. q (suc i) j (omega arith) lj),
)
