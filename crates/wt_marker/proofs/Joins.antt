-- Coarse tiles match as their images do: their numbers are equal exactly where their edges are.
use Rattle.std.proofs.Common.{arith, ◌≡◌, ℕ, zero, suc, ◌<◌, Bool, true, false, nat_eq, List, [], ◌∷◌, ◌++◌, length, map, get_or, if◌then◌else◌, refl, sym, ap, ◌∙◌, append_assoc}
use Rattle.std.proofs.lemmas.Bool.{false_from_ne_true}
use Rattle.std.specs.Cmp.{both_ways}
use Rattle.std.specs.List.{list_any}
use Rattle.wt_grid.specs.Axes.{same_axis}
use Rattle.wt_grid.specs.Images.{first_tile, last_tile}
use Rattle.wt_grid.specs.declared.image.Image.TheVariants.{One as Single, Two as Double}
use Rattle.wt_grid.specs.declared.image.Image.{Image}
use Rattle.wt_grid.specs.declared.axis.Axis.TheVariants.{One, Two}
use Rattle.wt_grid.specs.declared.axis.Axis.{Axis}
use Rattle.std.proofs.lemmas.Bool.Decides.{nat_tests}
use Rattle.wt_tile.specs.declared.tile.Tile.{Tile}
use Rattle.wt_tile.specs.declared.fusion.Fused.{Fused}
use Rattle.wt_tile.specs.declared.fusion.Edge.{Edge}
use Rattle.wt_tile.specs.Matching.{matches, blank}
use Rattle.wt_step.specs.Words.{pieces_match}
use Rattle.wt_marker.specs.Coarse.{same_edge, place, come, come_both, number_tiles, all1, all2, edges_of}
use Rattle.wt_marker.proofs.Truth.{not_both}
use Rattle.wt_marker.proofs.Listed.{has_left, has_right}
use Rattle.wt_marker.proofs.Numbered.{edge_same, own_edge, place_new}

abbrev pub edge_ahead : Axis → Fused → Edge
edge_ahead One t = t.east
edge_ahead Two t = t.north

abbrev pub edge_behind : Axis → Fused → Edge
edge_behind One t = t.west
edge_behind Two t = t.south

-- what the edges of images say, as the step's conditions have it
abbrev pub pieces_join : List Tile → Axis → Axis → Image → Image → Bool
pieces_join ts own axis x y = if same_axis axis own then matches ts axis (last_tile x) (first_tile y) else pieces_match ts axis x y

pub edges_tell : (ts : List Tile) (own axis : Axis) (x y : Image) → same_edge (edge_ahead axis (edges_of ts own x)) (edge_behind axis (edges_of ts own y)) ≡ pieces_join ts own axis x y
unfolding matches
edges_tell ts One One (Single a) (Single c) = refl
edges_tell ts One One (Single a) (Double c d) = refl
edges_tell ts One One (Double a b) (Single c) = refl
edges_tell ts One One (Double a b) (Double c d) = refl
edges_tell ts One Two (Single a) (Single c) = refl
edges_tell ts One Two (Single a) (Double c d) = refl
edges_tell ts One Two (Double a b) (Single c) = refl
edges_tell ts One Two (Double a b) (Double c d) = refl
edges_tell ts Two One (Single a) (Single c) = refl
edges_tell ts Two One (Single a) (Double c d) = refl
edges_tell ts Two One (Double a b) (Single c) = refl
edges_tell ts Two One (Double a b) (Double c d) = refl
edges_tell ts Two Two (Single a) (Single c) = refl
edges_tell ts Two Two (Single a) (Double c d) = refl
edges_tell ts Two Two (Double a b) (Single c) = refl
edges_tell ts Two Two (Double a b) (Double c d) = refl

-- Places in a list that grows.

pub place_front : (e : Edge) (xs ys : List Edge) → list_any (same_edge e) xs ≡ true → place e (xs ++ ys) ≡ place e xs
place_front e [] ys h = absurd cc
place_front e (x ∷ xs) ys h = go (same_edge e x) refl (λ k. place_front e xs ys k)
  where
    go : (b : Bool) → same_edge e x ≡ b → (list_any (same_edge e) xs ≡ true → place e (xs ++ ys) ≡ place e xs) → place e (x ∷ (xs ++ ys)) ≡ place e (x ∷ xs)
    go true t r = rw t refl
    go false t r = rw t (ap suc (r (rw t at h)))

place_last : (e : Edge) (xs : List Edge) → list_any (same_edge e) xs ≡ false → place e (xs ++ e ∷ []) ≡ length xs
place_last e [] h = rw (own_edge e) refl
place_last e (x ∷ xs) h = go (same_edge e x) refl (λ k. place_last e xs k)
  where
    go : (b : Bool) → same_edge e x ≡ b → (list_any (same_edge e) xs ≡ false → place e (xs ++ e ∷ []) ≡ length xs) → place e (x ∷ (xs ++ e ∷ [])) ≡ length (x ∷ xs)
    go true t r = absurd (let k : true ≡ false = rw t at h in cc)
    go false t r = rw t (ap suc (r (rw t at h)))

pub come_has : (seen : List Edge) (e : Edge) → list_any (same_edge e) (come seen e) ≡ true
come_has seen e = go (list_any (same_edge e) seen) refl
  where
    go : (b : Bool) → list_any (same_edge e) seen ≡ b → list_any (same_edge e) (come seen e) ≡ true
    go true t = rw t t
    go false t = rw t (has_right (same_edge e) seen (e ∷ []) (rw (own_edge e) refl))

pub come_place : (seen : List Edge) (e : Edge) → place e (come seen e) ≡ place e seen
come_place seen e = go (list_any (same_edge e) seen) refl
  where
    go : (b : Bool) → list_any (same_edge e) seen ≡ b → place e (come seen e) ≡ place e seen
    go true t = rw t refl
    go false t = rw t (place_last e seen t ∙ sym (place_new e seen t))

-- what came stays in front
abbrev pub Front : List Edge → List Edge → Type 0
Front xs ys = (more : List Edge) × (ys ≡ xs ++ more)

nothing : (xs : List Edge) → xs ++ [] ≡ xs
nothing [] = refl
nothing (x ∷ xs) = ap (λ ys. x ∷ ys) (nothing xs)

pub front_of : (xs ys zs : List Edge) → Front xs ys → Front ys zs → Front xs zs
front_of xs ys zs f g = (f.0 ++ g.0, g.1 ∙ (rw f.1 (simp append_assoc refl)))

pub come_front : (seen : List Edge) (e : Edge) → Front seen (come seen e)
come_front seen e = go (list_any (same_edge e) seen) refl
  where
    go : (b : Bool) → list_any (same_edge e) seen ≡ b → Front seen (come seen e)
    go true t = ([], rw t (sym (nothing seen)))
    go false t = (e ∷ [], rw t refl)

pub both_front : (seen : List Edge) (e w : Edge) → Front seen (come_both seen e w)
both_front seen e w = front_of seen (come seen e) (come_both seen e w) (come_front seen e) (come_front (come seen e) w)

pub all1_front : (seen : List Edge) (ts : List Fused) → Front seen (all1 seen ts)
all1_front seen [] = ([], sym (nothing seen))
all1_front seen (t ∷ ts) = front_of seen (come_both seen t.east t.west) (all1 seen (t ∷ ts)) (both_front seen t.east t.west) (all1_front (come_both seen t.east t.west) ts)

pub all2_front : (seen : List Edge) (ts : List Fused) → Front seen (all2 seen ts)
all2_front seen [] = ([], sym (nothing seen))
all2_front seen (t ∷ ts) = front_of seen (come_both seen t.north t.south) (all2 seen (t ∷ ts)) (both_front seen t.north t.south) (all2_front (come_both seen t.north t.south) ts)

-- the number of an edge is its place in the end
pub record IsNumber (n : ℕ) (e : Edge) (all : List Edge) : Type 0 where
  pub held : list_any (same_edge e) all ≡ true
  pub number : n ≡ place e all

numbers_front : (n : ℕ) (e : Edge) (xs ys : List Edge) → Front xs ys → IsNumber n e xs → IsNumber n e ys
numbers_front n e xs ys f h = record {
  held = rw f.1 (has_left (same_edge e) xs f.0 h.held);
  number = h.number ∙ (rw f.1 (sym (place_front e xs f.0 h.held)));
}

come_number : (seen : List Edge) (e : Edge) → IsNumber (place e seen) e (come seen e)
come_number seen e = record { held = come_has seen e; number = sym (come_place seen e) }

first_number : (seen all : List Edge) (e w : Edge) → Front (come_both seen e w) all → IsNumber (place e seen) e all
first_number seen all e w f = numbers_front (place e seen) e (come seen e) all (front_of (come seen e) (come_both seen e w) all (come_front (come seen e) w) f) (come_number seen e)

second_number : (seen all : List Edge) (e w : Edge) → Front (come_both seen e w) all → IsNumber (place w (come seen e)) w all
second_number seen all e w f = numbers_front (place w (come seen e)) w (come_both seen e w) all f (come_number (come seen e) w)

-- the four numbers of a tile
pub record IsTileOf (tile : Tile) (t : Fused) (end1 end2 : List Edge) : Type 0 where
  pub east : IsNumber tile.east t.east end1
  pub west : IsNumber tile.west t.west end1
  pub north : IsNumber tile.north t.north end2
  pub south : IsNumber tile.south t.south end2

pub numbers_at : (seen1 seen2 : List Edge) (ts : List Fused) (i : ℕ) (d : Tile) (e : Fused) → i < length ts
    → IsTileOf (get_or (number_tiles seen1 seen2 ts) i d) (get_or ts i e) (all1 seen1 ts) (all2 seen2 ts)
numbers_at seen1 seen2 [] i d e lt = absurd (omega arith)
numbers_at seen1 seen2 (t ∷ ts) zero d e lt =
    let f1 = all1_front (come_both seen1 t.east t.west) ts in
    let f2 = all2_front (come_both seen2 t.north t.south) ts in
    record {
      east = first_number seen1 (all1 seen1 (t ∷ ts)) t.east t.west f1;
      west = second_number seen1 (all1 seen1 (t ∷ ts)) t.east t.west f1;
      north = first_number seen2 (all2 seen2 (t ∷ ts)) t.north t.south f2;
      south = second_number seen2 (all2 seen2 (t ∷ ts)) t.north t.south f2;
    }
numbers_at seen1 seen2 (t ∷ ts) (suc i) d e lt = numbers_at (come_both seen1 t.east t.west) (come_both seen2 t.north t.south) ts i d e (omega arith)

suc_eq : (a b : ℕ) → nat_eq (suc a) (suc b) ≡ nat_eq a b
suc_eq a b = both_ways (nat_eq (suc a) (suc b)) (nat_eq a b) (λ e. grind (arith, nat_tests, e)) (λ e. grind (arith, nat_tests, e))

zero_not : (a : ℕ) → nat_eq 0 (suc a) ≡ false
zero_not a = grind (arith, nat_tests)

not_zero : (a : ℕ) → nat_eq (suc a) 0 ≡ false
not_zero a = grind (arith, nat_tests)

-- places are equal exactly where the edges are
pub same_place : (e w : Edge) (xs : List Edge) → list_any (same_edge e) xs ≡ true → list_any (same_edge w) xs ≡ true → nat_eq (place e xs) (place w xs) ≡ same_edge e w
same_place e w [] h k = absurd cc
same_place e w (x ∷ xs) h k = go (same_edge e x) (same_edge w x) refl refl (λ h k. same_place e w xs h k)
  where
    go : (b c : Bool) → same_edge e x ≡ b → same_edge w x ≡ c → (list_any (same_edge e) xs ≡ true → list_any (same_edge w) xs ≡ true → nat_eq (place e xs) (place w xs) ≡ same_edge e w)
        → nat_eq (place e (x ∷ xs)) (place w (x ∷ xs)) ≡ same_edge e w
    go true true s t r =
        let a = edge_same e x s in
        let b = edge_same w x t in
        rw (s, t) (sym (rw (a, b) (own_edge x)))
    go true false s t r =
        let a = edge_same e x s in
        let other : same_edge e w ≡ false = false_from_ne_true (same_edge e w) (λ q. let b = edge_same e w q in not_both (same_edge w x) (rw (sym b) s) t) in
        rw (s, t, other) (zero_not (place w xs))
    go false true s t r =
        let a = edge_same w x t in
        let other : same_edge e w ≡ false = false_from_ne_true (same_edge e w) (λ q. let b = edge_same e w q in not_both (same_edge e x) (rw b t) s) in
        rw (s, t, other) (not_zero (place e xs))
    go false false s t r = rw (s, t) (suc_eq (place e xs) (place w xs) ∙ r (rw s at h) (rw t at k))

tells : (m n : ℕ) (e w : Edge) (all : List Edge) → IsNumber m e all → IsNumber n w all → nat_eq m n ≡ same_edge e w
tells m n e w all h k = rw (h.number, k.number) (same_place e w all h.held k.held)

-- coarse tiles match exactly where the edges are equal
pub tiles_tell : (ts : List Fused) (axis : Axis) (i j : ℕ) (e : Fused) → i < length ts → j < length ts
    → matches (number_tiles [] [] ts) axis i j ≡ same_edge (edge_ahead axis (get_or ts i e)) (edge_behind axis (get_or ts j e))
unfolding matches
tiles_tell ts One i j e li lj =
    let a = numbers_at [] [] ts i blank e li in
    let b = numbers_at [] [] ts j blank e lj in
    tells _ _ (get_or ts i e).east (get_or ts j e).west (all1 [] ts) a.east b.west
tiles_tell ts Two i j e li lj =
    let a = numbers_at [] [] ts i blank e li in
    let b = numbers_at [] [] ts j blank e lj in
    tells _ _ (get_or ts i e).north (get_or ts j e).south (all2 [] ts) a.north b.south

pub length_numbered : (seen1 seen2 : List Edge) (ts : List Fused) → length (number_tiles seen1 seen2 ts) ≡ length ts
length_numbered seen1 seen2 [] = refl
length_numbered seen1 seen2 (t ∷ ts) = ap suc (length_numbered (come_both seen1 t.east t.west) (come_both seen2 t.north t.south) ts)

pub map_at : {A B : Type 0} (f : A → B) (xs : List A) (i : ℕ) (d : A) (e : B) → i < length xs → get_or (map f xs) i e ≡ f (get_or xs i d)
map_at f [] i d e lt = absurd (omega arith)
map_at f (x ∷ xs) zero d e lt = refl
map_at f (x ∷ xs) (suc i) d e lt = map_at f xs i d e (omega arith)

pub length_mapped : {A B : Type 0} (f : A → B) (xs : List A) → length (map f xs) ≡ length xs
length_mapped f [] = refl
length_mapped f (x ∷ xs) = ap suc (length_mapped f xs)
