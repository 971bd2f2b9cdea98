-- Rows of names as numbered tiles, and back.
use Rattle.std.proofs.Common.{rules, arith, ◌≡◌, ℕ, zero, suc, ◌≤◌, Bool, true, false, List, [], ◌∷◌, ◌++◌, length, take, refl, sym, ap, ◌∙◌, subst}
use Rattle.wt_tile.specs.Sets.{apart}
use Rattle.wt_names.specs.Numbering.{seen_after, numbered, all_seen, named, InOrder}
use Rattle.wt_names.specs.Rows.{Edges, along1, along2, tiles_from, NumberedTiles, with_numbers, with_names, IsNumbered}
use Rattle.wt_names.proofs.Numbered.{names_again, numbers_again}
use Rattle.wt_names.proofs.Ordered.{numbered_in_order, seen_apart}

tiles_again : {A : Type 0} (ts : List (Edges A)) → tiles_from (along1 ts) (along2 ts) ≡ ts
tiles_again [] = refl
tiles_again (t ∷ ts) = ap (λ (r : List (Edges _)). t ∷ r) (tiles_again ts)

numbered_edges : (seen1 seen2 : List (List ℕ)) (rows : List (Edges (List ℕ)))
    → (along1 (tiles_from (numbered seen1 (along1 rows)) (numbered seen2 (along2 rows))) ≡ numbered seen1 (along1 rows))
    × (along2 (tiles_from (numbered seen1 (along1 rows)) (numbered seen2 (along2 rows))) ≡ numbered seen2 (along2 rows))
numbered_edges seen1 seen2 [] = (refl, refl)
numbered_edges seen1 seen2 (r ∷ rows) =
    let h = numbered_edges (seen_after (seen_after seen1 r.right) r.left) (seen_after (seen_after seen2 r.top) r.bottom) rows in
    rw (h.0, h.1) (refl, refl)

named_edges : (names1 names2 : List (List ℕ)) (ts : List (Edges ℕ))
    → (along1 (tiles_from (named names1 (along1 ts)) (named names2 (along2 ts))) ≡ named names1 (along1 ts))
    × (along2 (tiles_from (named names1 (along1 ts)) (named names2 (along2 ts))) ≡ named names2 (along2 ts))
named_edges names1 names2 [] = (refl, refl)
named_edges names1 names2 (t ∷ ts) = let h = named_edges names1 names2 ts in rw (h.0, h.1) (refl, refl)

-- rows are read back
pub rows_again : (rows : List (Edges (List ℕ))) → with_names (with_numbers rows) ≡ rows
rows_again rows =
    let h = numbered_edges [] [] rows in
    let one : named (all_seen [] (along1 rows)) (along1 (tiles_from (numbered [] (along1 rows)) (numbered [] (along2 rows)))) ≡ along1 rows = ap (named (all_seen [] (along1 rows))) h.0 ∙ names_again [] (along1 rows) in
    let two : named (all_seen [] (along2 rows)) (along2 (tiles_from (numbered [] (along1 rows)) (numbered [] (along2 rows)))) ≡ along2 rows = ap (named (all_seen [] (along2 rows))) h.1 ∙ names_again [] (along2 rows) in
    rw (one, two) (tiles_again rows)

-- numbered tiles are found again
pub numbered_again : (list : NumberedTiles) → IsNumbered list → with_numbers (with_names list) ≡ list
numbered_again list good =
    let h = named_edges list.names1 list.names2 list.tiles in
    let one = numbers_again list.names1 good.apart1 0 (along1 list.tiles) good.order1 in
    let two = numbers_again list.names2 good.apart2 0 (along2 list.tiles) good.order2 in
    let n1 : numbered [] (along1 (with_names list)) ≡ along1 list.tiles = ap (numbered []) h.0 ∙ one.0 in
    let n2 : numbered [] (along2 (with_names list)) ≡ along2 list.tiles = ap (numbered []) h.1 ∙ two.0 in
    let s1 : all_seen [] (along1 (with_names list)) ≡ list.names1 = ap (all_seen []) h.0 ∙ one.1 in
    let s2 : all_seen [] (along2 (with_names list)) ≡ list.names2 = ap (all_seen []) h.1 ∙ two.1 in
    rw (n1, n2, s1, s2, tiles_again list.tiles) refl

-- rows give numbered tiles
pub rows_numbered : (rows : List (Edges (List ℕ))) → IsNumbered (with_numbers rows)
rows_numbered rows =
    let h = numbered_edges [] [] rows in
    record {
      order1 = subst (λ (x : List ℕ). InOrder (length (all_seen [] (along1 rows))) 0 x) (sym h.0) (numbered_in_order [] (along1 rows));
      order2 = subst (λ (x : List ℕ). InOrder (length (all_seen [] (along2 rows))) 0 x) (sym h.1) (numbered_in_order [] (along2 rows));
      apart1 = seen_apart [] (along1 rows) refl;
      apart2 = seen_apart [] (along2 rows) refl;
    }
