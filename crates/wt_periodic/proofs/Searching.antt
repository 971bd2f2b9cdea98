-- What a search of closed fillings in reading order finds.
use Rattle.std.proofs.Common.{Option, None, Some, is_some, true, refl, arith, ◌≡◌, ℕ, ◌<◌, ◌≤◌, List, length, get_or, take, min, inl, inr, sym, ap, ◌∙◌}
use Rattle.std.proofs.lemmas.Bool.{cases_lt}
use Rattle.std.proofs.lemmas.List.{get_or-take}
use Rattle.wt_lane.specs.Masks.{mask_bit}
use Rattle.wt_mask.specs.Masks.{mask_at}

-- a filling that goes on below a tile, where the tiles from `from` on to it aren't in the mask
pub passed : (fit : List ℕ) (x from t : ℕ) → mask_bit fit x ≡ 1 → (x < from → ⊥) → ((i : ℕ) → from ≤ i → i < t → mask_bit fit i ≡ 0) → x < t → ⊥
passed fit x from t has before zeros below = elim (cases_lt x from) [
  | inl l ↦ before l
  | inr ge ↦ (let none = zeros x ge below in absurd (omega (arith, has, none)))
]

-- lists that agree in their first cell, where it is among those that agree
pub same_first : (f g : List ℕ) (at : ℕ) → 0 < at → take at g ≡ take at f → get_or g 0 0 ≡ get_or f 0 0
same_first f g at lt e = sym (get_or-take at g 0 0 lt) ∙ ap (λ (l : List ℕ). get_or l 0 0) e ∙ get_or-take at f 0 0 lt

-- lists that agree in their first cells
pub agree : (f g : List ℕ) (at i : ℕ) → i < at → take at g ≡ take at f → get_or f i 0 ≡ get_or g i 0
agree f g at i lt e = sym (get_or-take at f i 0 lt) ∙ sym (ap (λ (l : List ℕ). get_or l i 0) e) ∙ get_or-take at g i 0 lt

pub some_of : (o : Option ℕ) → is_some o ≡ true → (x : ℕ) × (o ≡ Some x)
some_of None e = absurd (cc)
some_of (Some x) e = (x, refl)

-- a tile that is in the mask of the tile before, where that is looked up
pub looked_up : (masks items : List (List ℕ)) (result : List ℕ) (t there u : ℕ) → masks ≡ items → t ≡ there
    → ((v : ℕ) → t < length masks → mask_bit result v ≡ mask_bit (mask_at masks t) v) → (there < length items) × (mask_bit (mask_at items there) u ≡ 1) → mask_bit result u ≡ 1
looked_up masks items result t there u e q m h = m u (rw (e, q) h.0) ∙ rw (e, q) h.1

-- a tile that is in three masks is in what they have in common
pub in_three : (x y z a b : ℕ) → x ≡ 1 → y ≡ 1 → z ≡ 1 → a ≡ min x y → b ≡ min a z → b ≡ 1
in_three x y z a b ex ey ez ea eb = rw (eb, ea, ex, ey, ez) refl
