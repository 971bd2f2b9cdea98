-- The coarse tiles of images are a tile set, where none comes twice.
use Rattle.std.proofs.Common.{arith, ◌≡◌, ℕ, zero, suc, ◌+◌, ◌^◌, ◌<◌, ◌≤◌, max, Bool, true, false, nat_eq, nat_lt, nat_le, List, [], ◌∷◌, length, length-append, map, None, refl, sym, ap, ◌∙◌}
use Rattle.std.proofs.lemmas.Bool.{false_from_ne_true}
use Rattle.std.specs.Fmt.{decimal}
use Rattle.std.specs.Str.{bytes_eq}
use Rattle.std.specs.List.{range_with_len, list_any}
use Rattle.std.proofs.lemmas.Fmt.{decimal_injective}
use Rattle.std.proofs.lemmas.Bool.Decides.{nat_tests}
use Rattle.std.proofs.lemmas.Slice.Eq.{bytes_eq-Decides}
use Rattle.wt_tile.specs.declared.fusion.Fused.{Fused}
use Rattle.wt_tile.specs.declared.fusion.Edge.{Edge}
use Rattle.wt_tile.specs.Sets.{comes_in_order, come as count_come, colour_fault, colours, east_west, north_south, is_among, apart, repeated, set_fault}
use Rattle.wt_marker.specs.Coarse.{same_edge, place, come, come_both, number_tiles, all1, all2, names_of, coarse_set}
use Rattle.wt_marker.proofs.Numbered.{place_within, place_new}
use Rattle.wt_marker.proofs.Joins.{Front, all1_front, all2_front, length_numbered}

-- one edge more
length_come : (seen : List Edge) (e : Edge) → length (come seen e) ≡ max (length seen) (place e seen + 1)
length_come seen e = go (list_any (same_edge e) seen) refl
  where
    go : (b : Bool) → list_any (same_edge e) seen ≡ b → length (come seen e) ≡ max (length seen) (place e seen + 1)
    go true t = let lt = place_within e seen t in rw t (omega arith)
    go false t = let n = place_new e seen t in rw t (omega (arith, n, length-append seen (e ∷ [])))

place_most : (seen : List Edge) (e : Edge) → place e seen ≤ length seen
place_most seen e = go (list_any (same_edge e) seen) refl
  where
    go : (b : Bool) → list_any (same_edge e) seen ≡ b → place e seen ≤ length seen
    go true t = let lt = place_within e seen t in omega arith
    go false t = let n = place_new e seen t in omega (arith, n)

front_most : (xs ys : List Edge) → Front xs ys → length xs ≤ length ys
front_most xs ys f = rw f.1 (omega (arith, length-append xs f.0))

-- two edges in order of first coming
in_order : (seen all : List Edge) (e w : Edge) → Front (come_both seen e w) all → comes_in_order (length seen) (length all) (place e seen) (place w (come seen e)) ≡ true
in_order seen all e w f =
    let a = place_most seen e in
    let b = place_most (come seen e) w in
    let c = length_come seen e in
    let d = length_come (come seen e) w in
    let m = front_most (come_both seen e w) all f in
    let p : nat_le (place e seen) (length seen) ≡ true = grind (arith, nat_tests) in
    let small : place e seen < length all = omega (arith, a, b, c, d, m) in
    let q : nat_lt (place e seen) (length all) ≡ true = grind (arith, nat_tests) in
    let le : place w (come seen e) ≤ max (length seen) (place e seen + 1) = omega (arith, b, c) in
    let r : nat_le (place w (come seen e)) (max (length seen) (place e seen + 1)) ≡ true = grind (arith, nat_tests, le) in
    let small2 : place w (come seen e) < length all = omega (arith, a, b, c, d, m) in
    let s : nat_lt (place w (come seen e)) (length all) ≡ true = grind (arith, nat_tests) in
    rw (p, q, r, s) refl

come_count : (seen : List Edge) (e w : Edge) → count_come (length seen) (place e seen) (place w (come seen e)) ≡ length (come_both seen e w)
come_count seen e w = sym (length_come (come seen e) w ∙ rw (length_come seen e) refl)

no_colour_fault : (i : ℕ) (seen1 seen2 end1 end2 : List Edge) (ts : List Fused) → Front (all1 seen1 ts) end1 → Front (all2 seen2 ts) end2 → end1 ≡ all1 seen1 ts → end2 ≡ all2 seen2 ts
    → colour_fault i (length seen1) (length seen2) (length end1) (length end2) (number_tiles seen1 seen2 ts) ≡ None
no_colour_fault i seen1 seen2 end1 end2 [] f g e h = refl
no_colour_fault i seen1 seen2 end1 end2 (t ∷ ts) f g e h =
    let one = in_order seen1 (all1 seen1 (t ∷ ts)) t.east t.west (all1_front (come_both seen1 t.east t.west) ts) in
    let two = in_order seen2 (all2 seen2 (t ∷ ts)) t.north t.south (all2_front (come_both seen2 t.north t.south) ts) in
    let p : comes_in_order (length seen1) (length end1) (place t.east seen1) (place t.west (come seen1 t.east)) ≡ true = rw e one in
    let q : comes_in_order (length seen2) (length end2) (place t.north seen2) (place t.south (come seen2 t.north)) ≡ true = rw h two in
    let r = no_colour_fault (i + 1) (come_both seen1 t.east t.west) (come_both seen2 t.north t.south) end1 end2 ts f g e h in
    rw (p, q, come_count seen1 t.east t.west, come_count seen2 t.north t.south) r

-- all colours have come
reach1 : (seen1 seen2 : List Edge) (ts : List Fused) → colours (λ t. t.east) (λ t. t.west) (length seen1) (number_tiles seen1 seen2 ts) ≡ length (all1 seen1 ts)
reach1 seen1 seen2 [] = refl
reach1 seen1 seen2 (t ∷ ts) = ap (λ (k : ℕ). colours (λ t. t.east) (λ t. t.west) k (number_tiles (come_both seen1 t.east t.west) (come_both seen2 t.north t.south) ts)) (come_count seen1 t.east t.west)
    ∙ reach1 (come_both seen1 t.east t.west) (come_both seen2 t.north t.south) ts

reach2 : (seen1 seen2 : List Edge) (ts : List Fused) → colours (λ t. t.north) (λ t. t.south) (length seen2) (number_tiles seen1 seen2 ts) ≡ length (all2 seen2 ts)
reach2 seen1 seen2 [] = refl
reach2 seen1 seen2 (t ∷ ts) = ap (λ (k : ℕ). colours (λ t. t.north) (λ t. t.south) k (number_tiles (come_both seen1 t.east t.west) (come_both seen2 t.north t.south) ts)) (come_count seen2 t.north t.south)
    ∙ reach2 (come_both seen1 t.east t.west) (come_both seen2 t.north t.south) ts

-- names of different numbers

other_name : (a b : ℕ) → a < b → b < 2 ^ 64 → bytes_eq (decimal a) (decimal b) ≡ false
other_name a b lt small = false_from_ne_true (bytes_eq (decimal a) (decimal b)) (λ e.
    let same = decimal_injective a b (omega arith) small ((bytes_eq-Decides (decimal a) (decimal b)).0 e) in omega (arith, same))

not_later : (a i n : ℕ) → a < i → i + n ≤ 65536 → is_among (decimal a) (map decimal (range_with_len i n)) ≡ false
not_later a i zero lt small = refl
not_later a i (suc n) lt small = rw (other_name a i lt (omega arith), not_later a (i + 1) n (omega arith) (omega arith)) refl

names_apart : (i n : ℕ) → i + n ≤ 65536 → apart (map decimal (range_with_len i n)) ≡ true
names_apart i zero small = refl
names_apart i (suc n) small = rw (not_later i (i + 1) n (omega arith) (omega arith), names_apart (i + 1) n (omega arith)) refl

length_names : (i n : ℕ) → length (map decimal (range_with_len i n)) ≡ n
length_names i zero = refl
length_names i (suc n) = ap suc (length_names (i + 1) n)

-- few edges
length_both : (seen : List Edge) (e w : Edge) → length (come_both seen e w) ≤ length seen + 2
length_both seen e w =
    let a = place_most seen e in
    let b = place_most (come seen e) w in
    let c = length_come seen e in
    let d = length_come (come seen e) w in omega (arith, a, b, c, d)

pub few1 : (seen : List Edge) (ts : List Fused) → length (all1 seen ts) ≤ length seen + (length ts + length ts)
few1 seen [] = omega arith
few1 seen (t ∷ ts) = let a = few1 (come_both seen t.east t.west) ts in let b = length_both seen t.east t.west in omega (arith, a, b)

pub few2 : (seen : List Edge) (ts : List Fused) → length (all2 seen ts) ≤ length seen + (length ts + length ts)
few2 seen [] = omega arith
few2 seen (t ∷ ts) = let a = few2 (come_both seen t.north t.south) ts in let b = length_both seen t.north t.south in omega (arith, a, b)

pub coarse_good : (ts : List Fused) → 0 < length ts → length ts ≤ 256 → repeated 0 [] (number_tiles [] [] ts) ≡ None → set_fault (coarse_set ts) ≡ None
unfolding set_fault
coarse_good ts some few once =
    let n = length_numbered [] [] ts in
    let l1 = length_names 0 (length (all1 [] ts)) in
    let l2 = length_names 0 (length (all2 [] ts)) in
    let m1 = few1 [] ts in
    let m2 = few2 [] ts in
    let a : nat_eq (length (number_tiles [] [] ts)) 0 ≡ false = rw n (grind (arith, nat_tests, some)) in
    let b : nat_lt 256 (length (number_tiles [] [] ts)) ≡ false = rw n (grind (arith, nat_tests, few)) in
    let c : colour_fault 0 0 0 (length (names_of (length (all1 [] ts)))) (length (names_of (length (all2 [] ts)))) (number_tiles [] [] ts) ≡ None =
    rw (l1, l2) (no_colour_fault 0 [] [] (all1 [] ts) (all2 [] ts) ts (all1_front (all1 [] ts) []) (all2_front (all2 [] ts) []) refl refl) in
    let d1 : apart (names_of (length (all1 [] ts))) ≡ true = names_apart 0 (length (all1 [] ts)) (omega (arith, m1)) in
    let d2 : apart (names_of (length (all2 [] ts))) ≡ true = names_apart 0 (length (all2 [] ts)) (omega (arith, m2)) in
    let r1 = reach1 [] [] ts in
    let r2 = reach2 [] [] ts in
    let f1 : nat_lt (east_west (number_tiles [] [] ts)) (length (names_of (length (all1 [] ts)))) ≡ false = rw (r1, l1) (grind (arith, nat_tests)) in
    let f2 : nat_lt (north_south (number_tiles [] [] ts)) (length (names_of (length (all2 [] ts)))) ≡ false = rw (r2, l2) (grind (arith, nat_tests)) in
    rw (a, b, c, d1, f1, d2, f2, once) refl
