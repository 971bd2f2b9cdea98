-- Rows of a coarse pattern, read from rows of the fine one.
use Rattle.std.proofs.Common.{arith, ◌≡◌, ◌≤◌, ◌<◌, ◌+◌, ◌-◌, ◌*◌, ◌/◌, ◌%◌, ℕ, zero, suc, List, [], ◌∷◌, ◌++◌, take, drop, set, length, get_or, Bool, true, false, nat_lt, refl, sym, ◌∙◌, ap, subst, inl, inr}
use Rattle.std.proofs.lemmas.Bool.{cases_lt}
use Rattle.std.proofs.lemmas.Bool.Decides.{nat_tests}
use Rattle.std.proofs.lemmas.List.{take_more_set, get_or-drop, get_or_past, length-take, length-drop, length-append}
use Rattle.std.proofs.lemmas.Nat.{div-mul-add, mod-mul-add}
use Rattle.wt_grid.specs.declared.axis.Axis.TheVariants.{One, Two}
use Rattle.wt_grid.specs.declared.axis.Axis.{Axis}
use Rattle.wt_grid.specs.Grid.{Grid, cell, along, across, at, listed}
use Rattle.wt_grid.specs.Parts.{AllBelow, core}
use Rattle.wt_grid.proofs.Grids.{listed_same}
use Rattle.wt_grid.proofs.Parts.{along_core, across_core}
use Rattle.wt_pattern.proofs.RowFaults.{row, row_cell}
use Rattle.wt_step.specs.declared.raw.RawStep.{RawStep}
use Rattle.wt_step.specs.declared.raw.RawRestrict.{RawRestrict}
use Rattle.wt_step.specs.declared.blocks.Block.{Block}
use Rattle.wt_step.specs.Cores.{core_length, core_width}
use Rattle.wt_step.specs.Blocks.{core_at, blocks_in, block_at, block_tile, coarse_at, coarse_in, tile_in, block_in, found_at, pair_found_at, kept_in, one_if, IsWithin, AreWithin}
use Rattle.wt_step.proofs.Listed.{listed_more}

-- one number more of a row that is filled from the front
pub stored : (f : ℕ → ℕ) (xs : List ℕ) (i v : ℕ) → i < length xs → take i xs ≡ listed i f → v ≡ f i → take (i + 1) (set xs i v) ≡ listed (i + 1) f
stored f xs i v lt e h = take_more_set xs i v lt ∙ ap (λ (l : List ℕ). l ++ v ∷ []) e ∙ ap (λ (x : ℕ). listed i f ++ x ∷ []) h ∙ sym (listed_more i f)

listed_add : {A : Type 0} (n m : ℕ) (f : ℕ → A) → listed (n + m) f ≡ listed n f ++ listed m (λ k. f (n + k))
listed_add zero m f = let z : 0 + m ≡ m = omega arith in ap (λ (k : ℕ). listed k f) z ∙ listed_same m f (λ k. f (0 + k)) (λ i lt. let e : i ≡ 0 + i = omega arith in ap f e)
listed_add {A} (suc n) m f =
    let s : suc n + m ≡ suc (n + m) = omega arith in
    let t : listed m (λ k. f (suc (n + k))) ≡ listed m (λ k. f (suc n + k)) = listed_same m (λ k. f (suc (n + k))) (λ k. f (suc n + k)) (λ i lt. let e : suc (n + i) ≡ suc n + i = omega arith in ap f e) in
    ap (λ (k : ℕ). listed k f) s ∙ ap (λ (l : List A). f 0 ∷ l) (listed_add n m (λ k. f (suc k)) ∙ ap (λ (l : List A). listed n (λ k. f (suc k)) ++ l) t)

-- one row more of a rectangle
pub row_more : (w y : ℕ) (f : ℕ → ℕ → ℕ) (cells now r : List ℕ) → cells ≡ listed (w * y) (λ k. f (k % w) (k / w)) → r ≡ listed w (λ x. f x y) → now ≡ cells ++ r
    → now ≡ listed (w * (y + 1)) (λ k. f (k % w) (k / w))
row_more w y f cells now r e er en =
    let turn : w * y + w ≡ w * (y + 1) = omega arith in
    en
    ∙ ap (λ (l : List ℕ). l ++ r) e
    ∙ ap (λ (l : List ℕ). listed (w * y) (λ k. f (k % w) (k / w)) ++ l) (er ∙ listed_same w (λ x. f x y) (λ x. f ((w * y + x) % w) ((w * y + x) / w)) (λ x lt.
    let flip : w * y + x ≡ y * w + x = omega arith in
    let m : (w * y + x) % w ≡ x = ap (λ (k : ℕ). k % w) flip ∙ mod-mul-add y w x lt in
    let d : (w * y + x) / w ≡ y = ap (λ (k : ℕ). k / w) flip ∙ div-mul-add y w x lt in
    rw (m, d) refl))
    ∙ sym (listed_add (w * y) w (λ k. f (k % w) (k / w)))
    ∙ ap (λ (k : ℕ). listed k (λ k. f (k % w) (k / w))) turn

-- Rows of the fine pattern from a column on.

pub tail_cell : (g : Grid) (x y i : ℕ) (r : List ℕ) → r ≡ row g y → x + i < g.width → get_or (drop x r) i 0 ≡ cell g (x + i) y
tail_cell g x y i r e lt = get_or-drop x r i 0 ∙ ap (λ (l : List ℕ). get_or l (x + i) 0) e ∙ row_cell g (x + i) y lt

pub tail_below : (g : Grid) (x y : ℕ) (r : List ℕ) → r ≡ row g y → length r ≡ g.width → y < g.height → (n : ℕ) → 0 < n → AllBelow n g → (i : ℕ) → get_or (drop x r) i 0 < n
tail_below g x y r e long high n some all i = elim (cases_lt (x + i) g.width) [
  | inl lt ↦ rw (tail_cell g x y i r e lt) (all (x + i) y lt high)
  | inr le ↦ rw (get_or_past (drop x r) i 0 (omega (arith, length-drop x r))) some
]

-- Blocks.

-- each block lies in the lines in which it was looked for
blocks_inside : (pairs : ℕ → Bool) (inside : Bool) (i n : ℕ) (k : ℕ) → k < length (blocks_in pairs inside i n)
    → IsWithin (i + n) (block_at (blocks_in pairs inside i n) k)
blocks_inside pairs inside i zero k lt = absurd (omega arith)
blocks_inside pairs true i (suc n) k lt =
    let e : i + 1 + n ≡ i + suc n = omega arith in
    subst (λ (m : ℕ). IsWithin m (block_at (blocks_in pairs false (i + 1) n) k)) e (blocks_inside pairs false (i + 1) n k lt)
blocks_inside pairs false i (suc zero) zero lt = (omega arith, λ h. absurd cc)
blocks_inside pairs false i (suc zero) (suc k) lt = absurd (omega arith)
blocks_inside pairs false i (suc (suc n)) zero lt = (omega arith, λ h. omega arith)
blocks_inside pairs false i (suc (suc n)) (suc k) lt =
    let e : i + 1 + suc n ≡ i + suc (suc n) = omega arith in
    subst (λ (m : ℕ). IsWithin m (block_at (blocks_in pairs (pairs i) (i + 1) (suc n)) k)) e (blocks_inside pairs (pairs i) (i + 1) (suc n) k (omega arith))

wider : (m n : ℕ) (b : Block) → m ≤ n → IsWithin m b → IsWithin n b
wider m n b le h = (let a = h.0 in omega arith, λ d. let a = h.1 d in omega arith)

pub blocks_within : (pairs : ℕ → Bool) (i n m : ℕ) (bs : List Block) → bs ≡ blocks_in pairs false i n → i + n ≤ m → AreWithin m bs
blocks_within pairs i n m bs e le = subst (λ (cs : List Block). AreWithin m cs) (sym e) (λ k lt. wider (i + n) m (block_at (blocks_in pairs false i n) k) le (blocks_inside pairs false i n k lt))

one_small : (b : Bool) → one_if b ≤ 1
one_small true = omega arith
one_small false = omega arith

-- so do those of a core without its cut lines
pub core_within : (pairs : ℕ → Bool) (n : ℕ) (low high : Bool) (bs : List Block) → 3 ≤ n → bs ≡ blocks_in pairs false (one_if low) ((n - one_if high) - one_if low) → AreWithin n bs
core_within pairs n low high bs le e = let a = one_small low in let b = one_small high in blocks_within pairs (one_if low) ((n - one_if high) - one_if low) n bs e (omega arith)

-- Cells of the core.

-- a cell of the core as a cell of the pattern
core_read : (s : RawStep) (p : Grid) (i j : ℕ) → i < core_length s p → j < core_width s p → core_at s p i j ≡ at s.axis p (s.radius + i) (s.radius + j)
core_read s p i j li lj =
    let x = along_core s.axis s.radius p in
    let y = across_core s.axis s.radius p in
    let tx : nat_lt (s.radius + i) (along s.axis p) ≡ true = (let lt : s.radius + i < along s.axis p = omega arith in grind (arith, nat_tests, lt)) in
    let ty : nat_lt (s.radius + j) (across s.axis p) ≡ true = (let lt : s.radius + j < across s.axis p = omega arith in grind (arith, nat_tests, lt)) in
    rw (tx, ty) refl

module _ (s : RawStep) (p : Grid) (singles pairs : List ℕ) where
  -- one tile of a row across the blocks
  tile_same : (r : List ℕ) (b : Block) (j : ℕ) → IsWithin (core_length s p) b → ((k : ℕ) → k < core_length s p → get_or r k 0 ≡ core_at s p k j)
      → tile_in (length s.fine.tiles) singles pairs r b ≡ block_tile s p singles pairs b j
  tile_same r b j w read = go b.double refl
    where
      go : (d : Bool) → b.double ≡ d → tile_in (length s.fine.tiles) singles pairs r b ≡ block_tile s p singles pairs b j
      go true e = rw (e, read b.line w.0, read (b.line + 1) (w.1 e)) refl
      go false e = rw (e, read b.line w.0) refl

  pub across_row : s.axis ≡ One → (r : List ℕ) (bs : List Block) (j n : ℕ) → n ≡ length bs → AreWithin (core_length s p) bs → j < core_width s p
      → ((k : ℕ) → s.radius + k < p.width → get_or r k 0 ≡ cell p (s.radius + k) (s.radius + j))
      → listed n (block_in (length s.fine.tiles) singles pairs r bs) ≡ listed n (coarse_in s p singles pairs bs j)
  across_row axis r bs j n en w lj read =
      listed_same n (block_in (length s.fine.tiles) singles pairs r bs) (coarse_in s p singles pairs bs j) (λ i lt.
      tile_same r (block_at bs i) j (w i (omega arith)) (λ k lk.
      read k (let x = along_core s.axis s.radius p in let e : along s.axis p ≡ p.width = rw axis refl in omega arith)
      ∙ sym (core_read s p k j lk lj ∙ ap (λ (a : Axis). at a p (s.radius + k) (s.radius + j)) axis))
      ∙ sym (ap (λ (a : Axis). coarse_at s p singles pairs bs a i j) axis))

  -- a cell of a core along axis 2, by the row of its line
  up_read : s.axis ≡ Two → (r : List ℕ) (line i : ℕ) → line < core_length s p → i < core_width s p
      → ((k : ℕ) → s.radius + k < p.width → get_or r k 0 ≡ cell p (s.radius + k) (s.radius + line)) → get_or r i 0 ≡ core_at s p line i
  up_read axis r line i ll li read =
      read i (let y = across_core s.axis s.radius p in let e : across s.axis p ≡ p.width = rw axis refl in omega arith)
      ∙ sym (core_read s p line i ll li ∙ ap (λ (a : Axis). at a p (s.radius + line) (s.radius + i)) axis)

  module _ (axis : s.axis ≡ Two) (bs : List Block) (y n : ℕ) (en : n ≡ core_width s p) (w : AreWithin (core_length s p) bs) (ly : y < length bs) (low : List ℕ)
      (read : (k : ℕ) → s.radius + k < p.width → get_or low k 0 ≡ cell p (s.radius + k) (s.radius + (block_at bs y).line)) where
    pub single_row : (block_at bs y).double ≡ false → listed n (found_at singles low) ≡ listed n (coarse_in s p singles pairs bs y)
    single_row d =
        listed_same n (found_at singles low) (coarse_in s p singles pairs bs y) (λ i lt.
        let here = up_read axis low (block_at bs y).line i (w y ly).0 (omega arith) read in
        ap (λ (a : ℕ). get_or singles a 0) here ∙ sym (ap (λ (a : Axis). coarse_at s p singles pairs bs a i y) axis ∙ rw d refl))

    pub double_row : (block_at bs y).double ≡ true → (high : List ℕ)
        → ((k : ℕ) → s.radius + k < p.width → get_or high k 0 ≡ cell p (s.radius + k) (s.radius + ((block_at bs y).line + 1)))
        → listed n (pair_found_at pairs (length s.fine.tiles) low high) ≡ listed n (coarse_in s p singles pairs bs y)
    double_row d high above =
        listed_same n (pair_found_at pairs (length s.fine.tiles) low high) (coarse_in s p singles pairs bs y) (λ i lt.
        let here = up_read axis low (block_at bs y).line i (w y ly).0 (omega arith) read in
        let there = up_read axis high ((block_at bs y).line + 1) i ((w y ly).1 d) (omega arith) above in
        ap (λ (a : ℕ). get_or pairs (a * length s.fine.tiles + get_or high i 0) 0) here
        ∙ ap (λ (b : ℕ). get_or pairs (core_at s p (block_at bs y).line i * length s.fine.tiles + b) 0) there
        ∙ sym (ap (λ (a : Axis). coarse_at s p singles pairs bs a i y) axis ∙ rw d refl))

-- a core with a cell leaves more than its border
pub core_room : (axis : Axis) (r : ℕ) (p : Grid) → 1 ≤ along axis (core r p) → 1 ≤ across axis (core r p) → (r + r < p.width) × (r + r < p.height)
core_room One r p long wide = (omega arith, omega arith)
core_room Two r p long wide = (omega arith, omega arith)

-- a list written back to the front of another, which is as long
pub front_length : (n : ℕ) (xs ys : List ℕ) → length xs ≡ n → length (take n (xs ++ ys)) ≡ n
front_length n xs ys e = omega (arith, length-take n (xs ++ ys), length-append xs ys)

-- a row of the core of a restrict step
pub kept_row : (s : RawRestrict) (p : Grid) (places r : List ℕ) (y n : ℕ) → n ≡ (core s.radius p).width → y < (core s.radius p).height
    → ((k : ℕ) → s.radius + k < p.width → get_or r k 0 ≡ cell p (s.radius + k) (s.radius + y)) → listed n (found_at places r) ≡ listed n (kept_in s p places y)
kept_row s p places r y n en ly read =
    listed_same n (found_at places r) (kept_in s p places y) (λ i lt.
    let tx : nat_lt (s.radius + i) p.width ≡ true = (let l : s.radius + i < p.width = omega arith in grind (arith, nat_tests, l)) in
    let ty : nat_lt (s.radius + y) p.height ≡ true = (let l : s.radius + y < p.height = omega arith in grind (arith, nat_tests, l)) in
    ap (λ (a : ℕ). get_or places a 0) (read i (omega arith)) ∙ sym (rw (tx, ty) refl))
