-- A tile set whose names have their form has a text.
use Rattle.std.proofs.Common.{arith, ◌≡◌, ℕ, zero, suc, ◌+◌, ◌<◌, ◌≤◌, max, Bool, true, false, ◌&&◌, nat_lt, nat_le, nat_eq, if◌then◌else◌, List, [], ◌∷◌, length, map, slice_index_or, IsTrue, refl, sym, ap, ◌∙◌, subst, eq-eqb}
use Rattle.std.specs.List.{All}
use Rattle.std.proofs.lemmas.Bool.{eqb-false}
use Rattle.std.proofs.lemmas.Bool.Decides.{nat_tests}
use Rattle.wt_grid.specs.declared.axis.Axis.TheVariants.{One, Two}
use Rattle.wt_tile.specs.declared.tile.Tile.{Tile}
use Rattle.wt_tile.specs.declared.tile.TileList.{TileList}
use Rattle.wt_tile.specs.Names.{IsName, all_name_bytes}
use Rattle.wt_tile.specs.Sets.{IsTileSet, edges}
use Rattle.wt_tile.proofs.TileSets.{Goes, reach, set_goes, apart_names}
use Rattle.wt_names.specs.Numbering.{InOrder, name_at, named}
use Rattle.wt_names.specs.Rows.{Edges, NumberedTiles, along1, along2, tiles_from, is_name, RowFits, IsNumbered}
use Rattle.wt_pattern.specs.TileRows.{tile_edges, row_names, list_rows, IsListed}
use Rattle.wt_pattern.specs.SetTexts.{as_numbered, RowsFit}
use Rattle.wt_pattern.proofs.SetTexts.{numbered_listed}

-- colours that come in order are numbered by first coming
in_order : (named n : ℕ) (cs : List ℕ) → Goes n named cs → reach n cs ≡ named → InOrder named n cs
in_order named n [] g e = e
in_order named n (c ∷ cs) g e = (g.0, subst (λ (m : ℕ). InOrder named m cs) (sym (next (nat_eq c n) refl)) (in_order named (max n (c + 1)) cs g.2 e))
  where
    next : (b : Bool) → nat_eq c n ≡ b → (if b then suc n else n) ≡ max n (c + 1)
    next b e = let le = g.0 in grind (arith, nat_tests)

edges_along1 : (ts : List Tile) → along1 (map tile_edges ts) ≡ edges One ts
edges_along1 [] = refl
edges_along1 (t ∷ ts) = ap (λ (cs : List ℕ). t.east ∷ t.west ∷ cs) (edges_along1 ts)

edges_along2 : (ts : List Tile) → along2 (map tile_edges ts) ≡ edges Two ts
edges_along2 [] = refl
edges_along2 (t ∷ ts) = ap (λ (cs : List ℕ). t.north ∷ t.south ∷ cs) (edges_along2 ts)

numbered_set : (l : TileList) → IsTileSet l → IsNumbered (as_numbered l)
numbered_set l s =
    let one = set_goes l s One in
    let two = set_goes l s Two in
    record {
      order1 = subst (λ (cs : List ℕ). InOrder (length l.names1) 0 cs) (sym (edges_along1 l.tiles)) (in_order (length l.names1) 0 (edges One l.tiles) one.0 one.1);
      order2 = subst (λ (cs : List ℕ). InOrder (length l.names2) 0 cs) (sym (edges_along2 l.tiles)) (in_order (length l.names2) 0 (edges Two l.tiles) two.0 two.1);
      apart1 = apart_names l.names1 (s.apart One);
      apart2 = apart_names l.names2 (s.apart Two);
    }

-- ---- the form of the names

name_test : (x : List ℕ) → IsName x → is_name x ≡ true
name_test x n =
    let some : nat_lt 0 (length x) ≡ true = (let lt = n.some in grind (arith, nat_tests)) in
    let few : nat_le (length x) 16 ≡ true = (let le = n.few in grind (arith, nat_tests)) in
    let bytes : all_name_bytes x ≡ true = n.alphabet in
    rw (some, few, bytes) refl

at_place : (names : List (List ℕ)) (c : ℕ) → c < length names → name_at names c ≡ slice_index_or names c []
at_place [] c lt = absurd (omega arith)
at_place (x ∷ xs) zero lt = refl
at_place (x ∷ xs) (suc c) lt = at_place xs c (omega arith)

name_fits : (names : List (List ℕ)) (c : ℕ) → All IsName names → c < length names → is_name (name_at names c) ≡ true
name_fits names c all lt = name_test (name_at names c) (subst IsName (sym (at_place names c lt)) (all c [] lt))

rows_fit : (names1 names2 : List (List ℕ)) → All IsName names1 → All IsName names2 → (n m : ℕ) (ts : List Tile)
    → Goes n (length names1) (edges One ts) → Goes m (length names2) (edges Two ts)
    → RowsFit (tiles_from (named names1 (along1 (map tile_edges ts))) (named names2 (along2 (map tile_edges ts))))
rows_fit names1 names2 all1 all2 n m [] g h = tt
rows_fit names1 names2 all1 all2 n m (t ∷ ts) g h = (
  (name_fits names1 t.east all1 g.1, (name_fits names2 t.north all2 h.1, (name_fits names1 t.west all1 g.2.1, name_fits names2 t.south all2 h.2.1))),
  rows_fit names1 names2 all1 all2 (max (max n (t.east + 1)) (t.west + 1)) (max (max m (t.north + 1)) (t.south + 1)) ts g.2.2 h.2.2,
)

pub set_listed : (l : TileList) → IsTileSet l → All IsName l.names1 → All IsName l.names2 → IsListed l
set_listed l s all1 all2 = numbered_listed l (rows_fit l.names1 l.names2 all1 all2 0 0 l.tiles (set_goes l s One).0 (set_goes l s Two).0) (numbered_set l s)
