-- A list of tiles that was read is a tile set, but that it may be empty or repeat a tile.
use Rattle.std.proofs.Common.{arith, ◌≡◌, ◌≤◌, ◌<◌, ℕ, zero, suc, ◌+◌, max, Bool, true, false, cond, ◌||◌, not, List, [], ◌∷◌, length, map, Option, None, Some, Result, Ok, refl, sym, nat_eq}
use Rattle.wt_grid.specs.declared.axis.Axis.TheVariants.{One, Two}
use Rattle.std.specs.Prelude.{nat_le, nat_lt, is_some, unwrap_or}
use Rattle.std.proofs.lemmas.Bool.Decides.{nat_tests}
use Rattle.wt_tile.specs.declared.tile.Tile.{Tile}
use Rattle.wt_tile.specs.declared.tile.TileList.{TileList}
use Rattle.wt_tile.specs.declared.tile.SetFault.{SetFault}
use Rattle.wt_tile.specs.declared.tile.SetFault.TheVariants.{Empty, TooMany, NoColour, Names, Repeated}
use Rattle.wt_tile.specs.Sets.{set_fault, colour_fault, comes_in_order, come, colours, east_west, north_south, repeated, apart}
use Rattle.wt_line.specs.declared.faults.What.{What}
use Rattle.wt_text.specs.Lines.{Line}
use Rattle.wt_text.proofs.Texts.{IsPart}
use Rattle.wt_names.specs.Numbering.{InOrder}
use Rattle.wt_names.specs.Rows.{along1, along2}
use Rattle.wt_pattern.specs.TileRows.{tile_edges, tile_rows, rows_spelling, IsListed}
use Rattle.wt_pattern.proofs.SetTexts.{TilesFit, tiles_law, fits_listed, listed_numbered}
use Rattle.wt_pattern.specs.Plain.{IsPlain}

at_most : (total n : ℕ) (cs : List ℕ) → InOrder total n cs → n ≤ total
at_most total n [] o = omega (arith, o)
at_most total n (c ∷ cs) o = go (nat_eq c n) (at_most total (cond (nat_eq c n) (suc n) n) cs o.1)
  where
    go : (b : Bool) → cond b (suc n) n ≤ total → n ≤ total
    go true h = omega (arith, h)
    go false h = h

-- the next number, as the set counts it
next : (c n : ℕ) → c ≤ n → cond (nat_eq c n) (suc n) n ≡ max n (c + 1)
next c n le = go (nat_eq c n) refl
  where
    go : (b : Bool) → nat_eq c n ≡ b → cond b (suc n) n ≡ max n (c + 1)
    go true e = grind (arith, nat_tests)
    go false e = grind (arith, nat_tests)

record Steps (total n a b : ℕ) (cs : List ℕ) : Type 0 where
  comes : comes_in_order n total a b ≡ true
  rest : InOrder total (come n a b) cs

two : (total n a b : ℕ) (cs : List ℕ) → InOrder total n (a ∷ b ∷ cs) → Steps total n a b cs
two total n a b cs o =
    let n1 = next a n o.0 in
    let o1 : InOrder total (max n (a + 1)) (b ∷ cs) = rw (sym n1) o.1 in
    let n2 = next b (max n (a + 1)) o1.0 in
    let o2 : InOrder total (come n a b) cs = rw (sym n2) o1.1 in
    let m = at_most total (come n a b) cs o2 in
    let p = o.0 in
    let q = o1.0 in
    record { comes = grind (arith, nat_tests, m, p, q); rest = o2 }

along1_tile : (t : Tile) (ts : List Tile) → along1 (map tile_edges (t ∷ ts)) ≡ t.east ∷ t.west ∷ along1 (map tile_edges ts)
along1_tile t ts = refl

no_colour : (i n1 n2 t1 t2 : ℕ) (ts : List Tile) → InOrder t1 n1 (along1 (map tile_edges ts)) → InOrder t2 n2 (along2 (map tile_edges ts)) → colour_fault i n1 n2 t1 t2 ts ≡ None
no_colour i n1 n2 t1 t2 [] o p = refl
no_colour i n1 n2 t1 t2 (t ∷ ts) o p =
    let a = two t1 n1 t.east t.west (along1 (map tile_edges ts)) o in
    let b = two t2 n2 t.north t.south (along2 (map tile_edges ts)) p in
    rw (a.comes, b.comes) (no_colour (i + 1) (come n1 t.east t.west) (come n2 t.north t.south) t1 t2 ts a.rest b.rest)

all1 : (n total : ℕ) (ts : List Tile) → InOrder total n (along1 (map tile_edges ts)) → colours (λ t. t.east) (λ t. t.west) n ts ≡ total
all1 n total [] o = o
all1 n total (t ∷ ts) o = all1 (come n t.east t.west) total ts (two total n t.east t.west (along1 (map tile_edges ts)) o).rest

all2 : (n total : ℕ) (ts : List Tile) → InOrder total n (along2 (map tile_edges ts)) → colours (λ t. t.north) (λ t. t.south) n ts ≡ total
all2 n total [] o = o
all2 n total (t ∷ ts) o = all2 (come n t.north t.south) total ts (two total n t.north t.south (along2 (map tile_edges ts)) o).rest

at_last : (b : Bool) (x : ℕ × ℕ) → IsPlain (cond b (Some (Repeated x.0 x.1)) None)
at_last true x = tt
at_last false x = tt

not_less : (n : ℕ) → nat_lt n n ≡ false
not_less n = grind (arith, nat_tests)

few : (n : ℕ) → n ≤ 256 → nat_lt 256 n ≡ false
few n le = grind (arith, nat_tests)

plain : (list : TileList) → IsListed list → length list.tiles ≤ 256 → IsPlain (set_fault list)
unfolding set_fault
plain list good le =
    let n = listed_numbered list good in
    let c : colour_fault 0 0 0 (length list.names1) (length list.names2) list.tiles ≡ None = no_colour 0 0 0 (length list.names1) (length list.names2) list.tiles n.order1 n.order2 in
    let e1 : east_west list.tiles ≡ length list.names1 = all1 0 (length list.names1) list.tiles n.order1 in
    let e2 : north_south list.tiles ≡ length list.names2 = all2 0 (length list.names2) list.tiles n.order2 in
    go (nat_eq (length list.tiles) 0) c n.apart1 n.apart2 e1 e2
  where
    go : (b : Bool) → colour_fault 0 0 0 (length list.names1) (length list.names2) list.tiles ≡ None → apart list.names1 ≡ true → apart list.names2 ≡ true → east_west list.tiles ≡ length list.names1 → north_south list.tiles ≡ length list.names2
        → IsPlain (cond b (Some Empty) (cond (nat_lt 256 (length list.tiles)) (Some TooMany) (cond (is_some (colour_fault 0 0 0 (length list.names1) (length list.names2) list.tiles)) (Some (NoColour (unwrap_or (colour_fault 0 0 0 (length list.names1) (length list.names2) list.tiles) 0)))
        (cond (not (apart list.names1) || nat_lt (east_west list.tiles) (length list.names1)) (Some (Names One)) (cond (not (apart list.names2) || nat_lt (north_south list.tiles) (length list.names2)) (Some (Names Two))
        (cond (is_some (repeated 0 [] list.tiles)) (Some (Repeated (unwrap_or (repeated 0 [] list.tiles) (0, 0)).0 (unwrap_or (repeated 0 [] list.tiles) (0, 0)).1)) None))))))
    go true c a1 a2 e1 e2 = tt
    go false c a1 a2 e1 e2 = rw (few (length list.tiles) le, c, a1, a2, e1, e2, not_less (length list.names1), not_less (length list.names2)) (at_last (is_some (repeated 0 [] list.tiles)) (unwrap_or (repeated 0 [] list.tiles) (0, 0)))

-- rows of names that are read are such a list
pub rows_plain : (n : ℕ) (p : ℕ × List Line) (list : TileList) (q : ℕ × List Line) → n ≤ 256 → tile_rows {W = What} n p ≡ Ok (list, q) → IsPlain (set_fault list)
rows_plain n p list q le e =
    let law : IsPart {W = What} (tile_rows n) rows_spelling (TilesFit n) = tiles_law n in
    let g = fits_listed list n (law.found p list q e).1 in
    plain list g.1 (omega (arith, g.0, le))
