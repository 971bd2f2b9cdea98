-- A tile set has at most 512 colours on each axis.
use Rattle.std.proofs.Common.{arith, ◌≡◌, ◌<◌, ◌≤◌, ◌+◌, ◌*◌, ℕ, zero, suc, List, [], ◌∷◌, length, max, Bool, true, false, ◌&&◌, Option, None, Some, is_some, unwrap_or, nat_eq, nat_lt, nat_le, if◌then◌else◌, refl, inl, inr}
use Rattle.wt_grid.specs.declared.axis.Axis.TheVariants.{One, Two}
use Rattle.wt_grid.specs.declared.axis.Axis.{Axis}
use Rattle.std.proofs.lemmas.Bool.{cases_lt, and_parts}
use Rattle.std.proofs.lemmas.Bool.Decides.{nat_tests}
use Rattle.std.proofs.lemmas.List.{get_or_past}
use Rattle.wt_tile.specs.declared.tile.Tile.{Tile}
use Rattle.wt_tile.specs.declared.tile.TileList.{TileList}
use Rattle.wt_tile.specs.declared.tile.SetFault.{SetFault}
use Rattle.wt_tile.specs.declared.tile.SetFault.TheVariants.{Empty, TooMany, NoColour}
use Rattle.wt_tile.specs.Matching.{tile_at, blank, ahead, behind}
use Rattle.wt_tile.specs.Sets.{comes_in_order, come, colour_fault, set_fault}
use Rattle.wt_tile.proofs.Sizes.{few_tiles}
use Rattle.wt_bijection.specs.Kept.{AreSmall}

-- two colours that come in order behind n others
in_order : (n named a b : ℕ) → comes_in_order n named a b ≡ true → (a ≤ n) × (b ≤ n + 1) × (come n a b ≤ n + 2)
in_order n named a b e =
    let p = and_parts (nat_le a n && nat_lt a named && nat_le b (max n (a + 1))) (nat_lt b named) e in
    let q = and_parts (nat_le a n && nat_lt a named) (nat_le b (max n (a + 1))) p.0 in
    let r = and_parts (nat_le a n) (nat_lt a named) q.0 in
    let x : a ≤ n = grind (arith, nat_tests, r.0) in
    let y : b ≤ max n (a + 1) = grind (arith, nat_tests, q.1) in
    (x, grind (arith, x, y), grind (arith, x, y))

colours_below : (i n1 n2 named1 named2 : ℕ) (tiles : List Tile) → colour_fault i n1 n2 named1 named2 tiles ≡ None → (axis : Axis) (k : ℕ) → k < length tiles
    → (ahead axis (tile_at tiles k) < max n1 n2 + 2 * length tiles) × (behind axis (tile_at tiles k) < max n1 n2 + 2 * length tiles)
colours_below i n1 n2 named1 named2 [] e axis k lt = absurd (omega arith)
colours_below i n1 n2 named1 named2 (t ∷ ts) e axis k lt =
    go (comes_in_order n1 named1 t.east t.west && comes_in_order n2 named2 t.north t.south) refl k axis lt (λ r j l. colours_below (i + 1) (come n1 t.east t.west) (come n2 t.north t.south) named1 named2 ts r axis j l)
  where
    go : (b : Bool) → (comes_in_order n1 named1 t.east t.west && comes_in_order n2 named2 t.north t.south) ≡ b → (k : ℕ) (axis : Axis) → k < length (t ∷ ts)
        → (colour_fault (i + 1) (come n1 t.east t.west) (come n2 t.north t.south) named1 named2 ts ≡ None → (j : ℕ) → j < length ts
        → (ahead axis (tile_at ts j) < max (come n1 t.east t.west) (come n2 t.north t.south) + 2 * length ts) × (behind axis (tile_at ts j) < max (come n1 t.east t.west) (come n2 t.north t.south) + 2 * length ts))
        → (ahead axis (tile_at (t ∷ ts) k) < max n1 n2 + 2 * length (t ∷ ts)) × (behind axis (tile_at (t ∷ ts) k) < max n1 n2 + 2 * length (t ∷ ts))
    go true h zero One l r = let b = and_parts (comes_in_order n1 named1 t.east t.west) (comes_in_order n2 named2 t.north t.south) h in let o = in_order n1 named1 t.east t.west b.0 in (grind (arith, o.0), grind (arith, o.1))
    go true h zero Two l r = let b = and_parts (comes_in_order n1 named1 t.east t.west) (comes_in_order n2 named2 t.north t.south) h in let o = in_order n2 named2 t.north t.south b.1 in (grind (arith, o.0), grind (arith, o.1))
    go true h (suc k) axis l r =
        let b = and_parts (comes_in_order n1 named1 t.east t.west) (comes_in_order n2 named2 t.north t.south) h in
        let o = in_order n1 named1 t.east t.west b.0 in
        let q = in_order n2 named2 t.north t.south b.1 in
        let p = r (rw h at e) k (omega arith) in
        (grind (arith, o.2, q.2, p.0), grind (arith, o.2, q.2, p.1))
    go false h k axis l r = absurd (let f = rw h at e in cc)

-- a set without a fault has its colours numbered by first coming
no_colour_fault : (n : ℕ) (i : Option ℕ) (rest : Option SetFault)
    → (if nat_eq n 0 then Some Empty else if nat_lt 256 n then Some TooMany else if is_some i then Some (NoColour (unwrap_or i 0)) else rest) ≡ None → i ≡ None
no_colour_fault n None rest e = refl
no_colour_fault n (Some x) rest e = go (nat_eq n 0) (nat_lt 256 n) e
  where
    go : (a b : Bool) → (if a then Some Empty else if b then Some TooMany else Some (NoColour x)) ≡ None → Some x ≡ None
    go true b e = absurd cc
    go false true e = absurd cc
    go false false e = absurd cc

past : (tiles : List Tile) (k : ℕ) → length tiles ≤ k → tile_at tiles k ≡ blank
past tiles k le = get_or_past tiles k blank le

pub small_set : (l : TileList) → set_fault l ≡ None → AreSmall l.tiles
unfolding set_fault
small_set l e = λ axis k. elim (cases_lt k (length l.tiles)) [
  | inl lt ↦
      let few = few_tiles l e in
      let none = no_colour_fault (length l.tiles) (colour_fault 0 0 0 (length l.names1) (length l.names2) l.tiles) _ e in
      let b = colours_below 0 0 0 (length l.names1) (length l.names2) l.tiles none axis k lt in
      (omega (arith, b.0, few.1), omega (arith, b.1, few.1))
  | inr ge ↦ rw (past l.tiles k ge) (blank_is axis)
]
  where
    blank_is : (axis : Axis) → (ahead axis blank < 512) × (behind axis blank < 512)
    blank_is One = (omega arith, omega arith)
    blank_is Two = (omega arith, omega arith)
