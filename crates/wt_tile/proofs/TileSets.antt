-- A list without a fault is a tile set, and a tile set has no fault.
use Rattle.std.proofs.Common.{arith, ◌≡◌, ◌⊎◌, ℕ, zero, suc, ◌+◌, ◌-◌, max, ◌<◌, ◌≤◌, List, [], ◌∷◌, ◌++◌, length, length-append, take, Contains, Option, None, Some, is_some, unwrap_or, slice_get, get_or, Bool, true, false, not, ◌&&◌, ◌||◌, nat_le, nat_lt, nat_eq, if◌then◌else◌, ◌↔◌, refl, sym, ap, ◌∙◌, inl, inr, subst, append_assoc}
use Rattle.wt_grid.specs.declared.axis.Axis.TheVariants.{One, Two}
use Rattle.wt_grid.specs.declared.axis.Axis.{Axis}
use Rattle.std.specs.Str.{bytes_eq}
use Rattle.std.proofs.lemmas.Bool.{cases_lt, and_parts, not-true, or_right}
use Rattle.std.proofs.lemmas.Bool.Decides.{nat_tests}
use Rattle.std.proofs.lemmas.Option.{slice_get-get_or, slice_get_within, get_or_from_slice_get}
use Rattle.std.proofs.lemmas.List.Elements.{Contains-append_left, Contains-append_right, Contains-append_cases}
use Rattle.wt_tile.specs.declared.tile.Tile.{Tile}
use Rattle.wt_tile.specs.declared.tile.TileList.{TileList}
use Rattle.wt_tile.specs.declared.tile.SetFault.{SetFault}
use Rattle.wt_tile.specs.declared.tile.SetFault.TheVariants.{Empty, TooMany, NoColour, Names, Repeated}
use Rattle.wt_tile.specs.Matching.{ahead, behind}
use Rattle.std.proofs.lemmas.Slice.Eq.{bytes_eq-Decides}
use Rattle.wt_tile.specs.Sets.{edges, names, IsNumbered, AllApart, IsTileSet, comes_in_order, come, colour_fault, colours, east_west, north_south, is_among, apart, same_tile, place_of, match_place, repeated, set_fault}

-- Colours that come in order.

-- where n colours have come, each next one is at most the next number, and has a name
abbrev pub Goes : ℕ → ℕ → List ℕ → Type 0
Goes n named [] = Unit {0}
Goes n named (c ∷ cs) = (c ≤ n) × (c < named) × Goes (max n (c + 1)) named cs

-- how many colours have come in the end
abbrev pub reach : ℕ → List ℕ → ℕ
reach n [] = n
reach n (c ∷ cs) = reach (max n (c + 1)) cs

in_order : (n named a b : ℕ) → comes_in_order n named a b ≡ true → (a ≤ n) × (a < named) × (b ≤ max n (a + 1)) × (b < named)
in_order n named a b e =
    let p = and_parts (nat_le a n && nat_lt a named && nat_le b (max n (a + 1))) (nat_lt b named) e in
    let q = and_parts (nat_le a n && nat_lt a named) (nat_le b (max n (a + 1))) p.0 in
    let r = and_parts (nat_le a n) (nat_lt a named) q.0 in
    (grind (arith, nat_tests, r.0), grind (arith, nat_tests, r.1), grind (arith, nat_tests, q.1), grind (arith, nat_tests, p.1))

order_in : (n named a b : ℕ) → a ≤ n → a < named → b ≤ max n (a + 1) → b < named → comes_in_order n named a b ≡ true
order_in n named a b p q r s =
    let e : nat_le a n ≡ true = grind (arith, nat_tests) in
    let f : nat_lt a named ≡ true = grind (arith, nat_tests) in
    let g : nat_le b (max n (a + 1)) ≡ true = grind (arith, nat_tests) in
    let h : nat_lt b named ≡ true = grind (arith, nat_tests) in
    rw (e, f, g, h) refl

goes : (i n1 n2 named1 named2 : ℕ) (ts : List Tile) → colour_fault i n1 n2 named1 named2 ts ≡ None → Goes n1 named1 (edges One ts) × Goes n2 named2 (edges Two ts)
goes i n1 n2 named1 named2 [] e = (tt, tt)
goes i n1 n2 named1 named2 (t ∷ ts) e = by (comes_in_order n1 named1 t.east t.west && comes_in_order n2 named2 t.north t.south) refl
    (λ h. goes (i + 1) (come n1 t.east t.west) (come n2 t.north t.south) named1 named2 ts h)
  where
    by : (b : Bool) → (comes_in_order n1 named1 t.east t.west && comes_in_order n2 named2 t.north t.south) ≡ b
        → (colour_fault (i + 1) (come n1 t.east t.west) (come n2 t.north t.south) named1 named2 ts ≡ None
        → Goes (come n1 t.east t.west) named1 (edges One ts) × Goes (come n2 t.north t.south) named2 (edges Two ts))
        → Goes n1 named1 (edges One (t ∷ ts)) × Goes n2 named2 (edges Two (t ∷ ts))
    by true p rest =
        let r = rest (rw p at e) in
        let q = and_parts (comes_in_order n1 named1 t.east t.west) (comes_in_order n2 named2 t.north t.south) p in
        let a = in_order n1 named1 t.east t.west q.0 in
        let b = in_order n2 named2 t.north t.south q.1 in
        ((a.0, a.1, (a.2, a.3, r.0)), (b.0, b.1, (b.2, b.3, r.1)))
    by false p rest = absurd (let h : Some i ≡ None = rw p at e in cc)

goes_back : (i n1 n2 named1 named2 : ℕ) (ts : List Tile) → Goes n1 named1 (edges One ts) → Goes n2 named2 (edges Two ts) → colour_fault i n1 n2 named1 named2 ts ≡ None
goes_back i n1 n2 named1 named2 [] g h = refl
goes_back i n1 n2 named1 named2 (t ∷ ts) g h =
    let e = order_in n1 named1 t.east t.west g.0 g.1 g.2.0 g.2.1 in
    let f = order_in n2 named2 t.north t.south h.0 h.1 h.2.0 h.2.1 in
    rw (e, f) (goes_back (i + 1) (come n1 t.east t.west) (come n2 t.north t.south) named1 named2 ts g.2.2 h.2.2)

reach_one : (n : ℕ) (ts : List Tile) → colours (λ t. t.east) (λ t. t.west) n ts ≡ reach n (edges One ts)
reach_one n [] = refl
reach_one n (t ∷ ts) = reach_one (come n t.east t.west) ts

reach_two : (n : ℕ) (ts : List Tile) → colours (λ t. t.north) (λ t. t.south) n ts ≡ reach n (edges Two ts)
reach_two n [] = refl
reach_two n (t ∷ ts) = reach_two (come n t.north t.south) ts

head_in : (c : ℕ) (cs : List ℕ) → Contains (c ∷ cs) c
head_in c cs = (0, omega arith, refl)

tail_in : (c d : ℕ) (cs : List ℕ) → Contains cs d → Contains (c ∷ cs) d
tail_in c d cs h = Contains-append_right (c ∷ []) cs d h

-- each number below the end has come
reached : (n named : ℕ) (cs : List ℕ) → Goes n named cs → (d : ℕ) → d < reach n cs → (d < n) ⊎ Contains cs d
reached n named [] g d lt = inl lt
reached n named (c ∷ cs) g d lt = elim (reached (max n (c + 1)) named cs g.2 d lt) [
  | inl low ↦ elim (cases_lt d n) [
    | inl before ↦ inl before
    | inr after ↦ let same : c ≡ d = (let le = g.0 in omega arith) in inr (subst (λ (x : ℕ). Contains (c ∷ cs) x) same (head_in c cs))
  ]
  | inr h ↦ inr (tail_in c d cs h)
]

reach_most : (n : ℕ) (cs : List ℕ) → n ≤ reach n cs
reach_most n [] = omega arith
reach_most n (c ∷ cs) = let r = reach_most (max n (c + 1)) cs in omega arith

-- the colour at a place is at most the number of those that came before
numbered_at : (n named : ℕ) (cs : List ℕ) → Goes n named cs → (k c : ℕ) → slice_get cs k ≡ Some c → (c ≤ reach n (take k cs)) × (c < named)
numbered_at n named [] g k c e = absurd (let lt = slice_get_within [] k c e in omega arith)
numbered_at n named (x ∷ cs) g zero c e = let same : x ≡ c = cc in rw (sym same) (g.0, g.1)
numbered_at n named (x ∷ cs) g (suc k) c e = numbered_at (max n (x + 1)) named cs g.2 k c e

front_goes : (n named : ℕ) (cs : List ℕ) (k : ℕ) → Goes n named cs → Goes n named (take k cs)
front_goes n named cs zero g = tt
front_goes n named [] (suc k) g = tt
front_goes n named (x ∷ cs) (suc k) g = (g.0, g.1, front_goes (max n (x + 1)) named cs k g.2)

is_numbered : (named : ℕ) (cs : List ℕ) → Goes 0 named cs → IsNumbered cs
is_numbered named cs g k c d e lt =
    let at = numbered_at 0 named cs g k c e in
    elim (reached 0 named (take k cs) (front_goes 0 named cs k g) d (let le = at.0 in omega arith)) [ inl low ↦ absurd (omega arith) | inr h ↦ h ]

place_of_in : (cs : List ℕ) (c : ℕ) → Contains cs c → (k : ℕ) × (slice_get cs k ≡ Some c)
place_of_in cs c h = (h.0, slice_get-get_or cs h.0 c h.1 ∙ ap (λ (x : ℕ). Some x) h.2)

is_named : (named : ℕ) (cs : List ℕ) → Goes 0 named cs → named ≤ reach 0 cs → (c : ℕ) → Contains cs c ↔ (c < named)
is_named named cs g le c = (
  λ h. let p = place_of_in cs c h in (numbered_at 0 named cs g p.0 c p.1).1,
  λ lt. elim (reached 0 named cs g c (omega arith)) [ inl low ↦ absurd (omega arith) | inr h ↦ h ],
)

in_reach : (n : ℕ) (cs : List ℕ) (k c : ℕ) → slice_get cs k ≡ Some c → c < reach n cs
in_reach n [] k c e = absurd (let lt = slice_get_within [] k c e in omega arith)
in_reach n (x ∷ cs) zero c e = let same : x ≡ c = cc in let m = reach_most (max n (x + 1)) cs in omega arith
in_reach n (x ∷ cs) (suc k) c e = in_reach (max n (x + 1)) cs k c e

names_reach : (named : ℕ) (cs : List ℕ) → ((c : ℕ) → c < named → Contains cs c) → named ≤ reach 0 cs
names_reach zero cs h = omega arith
names_reach (suc n) cs h = let p = place_of_in cs n (h n (omega arith)) in let r = in_reach 0 cs p.0 n p.1 in omega arith

-- colours that were seen are below n, and each smaller number than a next colour was seen
numbered_goes : (n named : ℕ) (seen cs : List ℕ) → ((d : ℕ) → Contains seen d → d < n) → ((k c d : ℕ) → slice_get cs k ≡ Some c → d < c → Contains (seen ++ take k cs) d)
    → ((c : ℕ) → Contains cs c → c < named) → Goes n named cs
numbered_goes n named seen [] below num all = tt
numbered_goes n named seen (c ∷ cs) below num all = (next, all c (head_in c cs), numbered_goes (max n (c + 1)) named (seen ++ c ∷ []) cs below' num' (λ d h. all d (tail_in c d cs h)))
  where
    nothing : (xs : List ℕ) → xs ++ [] ≡ xs
    nothing [] = refl
    nothing (x ∷ xs) = ap (λ (ys : List ℕ). x ∷ ys) (nothing xs)

    next : c ≤ n
    next = elim (cases_lt n c) [
      | inl lt ↦ absurd (let h : Contains (seen ++ []) n = num 0 c n refl lt in let k : Contains seen n = rw (nothing seen) at h in let l = below n k in omega arith)
      | inr le ↦ le
    ]

    below' : (d : ℕ) → Contains (seen ++ c ∷ []) d → d < max n (c + 1)
    below' d h = elim (Contains-append_cases seen (c ∷ []) d h) [
      | inl s ↦ let lt = below d s in omega arith
      | inr o ↦ let same : c ≡ d = only c d o in omega arith
    ]
      where
        only : (x y : ℕ) → Contains (x ∷ []) y → x ≡ y
        only x y (zero, lt, e) = e
        only x y (suc k, lt, e) = absurd (omega arith)

    num' : (k x d : ℕ) → slice_get cs k ≡ Some x → d < x → Contains (seen ++ c ∷ [] ++ take k cs) d
    num' k x d e lt = rw append_assoc (num (suc k) x d e lt)

-- Names that are apart.

among_at : (x : List ℕ) (ys : List (List ℕ)) (k : ℕ) → slice_get ys k ≡ Some x → is_among x ys ≡ true
among_at x [] k e = absurd (let lt = slice_get_within [] k x e in omega arith)
among_at x (y ∷ ys) zero e = let same : x ≡ y = cc in let t : bytes_eq x y ≡ true = (bytes_eq-Decides x y).1 same in rw t refl
among_at x (y ∷ ys) (suc k) e = or_right (bytes_eq x y) (is_among x ys) (among_at x ys k e)

among_place : (x : List ℕ) (ys : List (List ℕ)) → is_among x ys ≡ true → (k : ℕ) × (slice_get ys k ≡ Some x)
among_place x [] e = absurd (cc)
among_place x (y ∷ ys) e = by (bytes_eq x y) refl (λ h. among_place x ys h)
  where
    by : (b : Bool) → bytes_eq x y ≡ b → (is_among x ys ≡ true → (k : ℕ) × (slice_get ys k ≡ Some x)) → (k : ℕ) × (slice_get (y ∷ ys) k ≡ Some x)
    by true p rest = let same : x ≡ y = (bytes_eq-Decides x y).0 p in (0, ap (λ (z : List ℕ). Some z) (sym same))
    by false p rest = let h : is_among x ys ≡ true = rw p at e in let r = rest h in (suc r.0, r.1)

names_apart : (xs : List (List ℕ)) → apart xs ≡ true → AllApart xs
names_apart [] e i j x p q = absurd (let lt = slice_get_within [] i x p in omega arith)
names_apart (y ∷ ys) e zero zero x p q = refl
names_apart (y ∷ ys) e zero (suc j) x p q =
    let same : y ≡ x = cc in
    let h = not-true (is_among y ys) (and_parts (not (is_among y ys)) (apart ys) e).0 in
    let there : is_among y ys ≡ true = among_at y ys j (q ∙ ap (λ (z : List ℕ). Some z) (sym same)) in
    absurd (cc)
names_apart (y ∷ ys) e (suc i) zero x p q =
    let same : y ≡ x = cc in
    let h = not-true (is_among y ys) (and_parts (not (is_among y ys)) (apart ys) e).0 in
    let there : is_among y ys ≡ true = among_at y ys i (p ∙ ap (λ (z : List ℕ). Some z) (sym same)) in
    absurd (cc)
names_apart (y ∷ ys) e (suc i) (suc j) x p q = ap suc (names_apart ys (and_parts (not (is_among y ys)) (apart ys) e).1 i j x p q)

pub apart_names : (xs : List (List ℕ)) → AllApart xs → apart xs ≡ true
apart_names [] h = refl
apart_names (y ∷ ys) h = by (is_among y ys) refl (apart_names ys (λ i j x p q. let e : suc i ≡ suc j = h (suc i) (suc j) x p q in omega arith))
  where
    by : (b : Bool) → is_among y ys ≡ b → apart ys ≡ true → (not (is_among y ys) && apart ys) ≡ true
    by true p rest = let r = among_place y ys p in absurd (let e : 0 ≡ suc r.0 = h 0 (suc r.0) y refl r.1 in omega arith)
    by false p rest = rw (p, rest) refl

-- Tiles that are apart.

tile_path : (u t : Tile) → u.east ≡ t.east → u.north ≡ t.north → u.west ≡ t.west → u.south ≡ t.south → u ≡ t
tile_path u t p q r s = λ i. record { east = p i; north = q i; west = r i; south = s i }

tiles_equal : (u t : Tile) → same_tile u t ≡ true → u ≡ t
tiles_equal u t e =
    let a = and_parts (nat_eq u.east t.east && nat_eq u.north t.north && nat_eq u.west t.west) (nat_eq u.south t.south) e in
    let b = and_parts (nat_eq u.east t.east && nat_eq u.north t.north) (nat_eq u.west t.west) a.0 in
    let c = and_parts (nat_eq u.east t.east) (nat_eq u.north t.north) b.0 in
    tile_path u t (grind (arith, nat_tests, c.0)) (grind (arith, nat_tests, c.1)) (grind (arith, nat_tests, b.1)) (grind (arith, nat_tests, a.1))

own_tile : (t : Tile) → same_tile t t ≡ true
own_tile t =
    let a : nat_eq t.east t.east ≡ true = grind (arith, nat_tests) in
    let b : nat_eq t.north t.north ≡ true = grind (arith, nat_tests) in
    let c : nat_eq t.west t.west ≡ true = grind (arith, nat_tests) in
    let d : nat_eq t.south t.south ≡ true = grind (arith, nat_tests) in
    rw (a, b, c, d) refl

place_none : (i : ℕ) (t : Tile) (us : List Tile) → place_of i t us ≡ None → (k : ℕ) → slice_get us k ≡ Some t → ⊥
place_none i t [] e k q = let lt = slice_get_within [] k t q in omega arith
place_none i t (u ∷ us) e zero q = let same : u ≡ t = cc in let h : same_tile u t ≡ true = rw same (own_tile t) in let f : Some i ≡ None = rw h at e in cc
place_none i t (u ∷ us) e (suc k) q = by (same_tile u t) refl (λ h. place_none (i + 1) t us h k q)
  where
    by : (b : Bool) → same_tile u t ≡ b → (place_of (i + 1) t us ≡ None → ⊥) → ⊥
    by true p rest = let f : Some i ≡ None = rw p at e in cc
    by false p rest = rest (rw p at e)

place_some : (i : ℕ) (t : Tile) (us : List Tile) (p : ℕ) → place_of i t us ≡ Some p → (k : ℕ) × (slice_get us k ≡ Some t)
place_some i t [] p e = absurd (cc)
place_some i t (u ∷ us) p e = by (same_tile u t) refl (λ h. place_some (i + 1) t us p h)
  where
    by : (b : Bool) → same_tile u t ≡ b → (place_of (i + 1) t us ≡ Some p → (k : ℕ) × (slice_get us k ≡ Some t)) → (k : ℕ) × (slice_get (u ∷ us) k ≡ Some t)
    by true q rest = (0, ap (λ (z : Tile). Some z) (tiles_equal u t q))
    by false q rest = let r = rest (rw q at e) in (suc r.0, r.1)

get_left : {A : Type 0} (xs ys : List A) (i : ℕ) (x : A) → slice_get xs i ≡ Some x → slice_get (xs ++ ys) i ≡ Some x
get_left [] ys i x e = absurd (let lt = slice_get_within [] i x e in omega arith)
get_left (y ∷ xs) ys zero x e = e
get_left (y ∷ xs) ys (suc i) x e = get_left xs ys i x e

get_seam : {A : Type 0} (xs : List A) (t : A) (ys : List A) → slice_get (xs ++ t ∷ ys) (length xs) ≡ Some t
get_seam [] t ys = refl
get_seam (x ∷ xs) t ys = get_seam xs t ys

get_cases : {A : Type 0} (xs : List A) (t : A) (i : ℕ) (x : A) → slice_get (xs ++ t ∷ []) i ≡ Some x → (slice_get xs i ≡ Some x) ⊎ ((i ≡ length xs) × (x ≡ t))
get_cases [] t zero x e = inr (refl, cc)
get_cases [] t (suc i) x e = absurd (let lt = slice_get_within (t ∷ []) (suc i) x e in omega arith)
get_cases (y ∷ xs) t zero x e = inl e
get_cases (y ∷ xs) t (suc i) x e = elim (get_cases xs t i x e) [ inl l ↦ inl l | inr r ↦ inr (ap suc r.0, r.1) ]

apart_more : {A : Type 0} (xs : List A) (t : A) → AllApart xs → ((i : ℕ) → slice_get xs i ≡ Some t → ⊥) → AllApart (xs ++ t ∷ [])
apart_more {A} xs t h free i j x p q = elim (get_cases xs t i x p) [
  | inl a ↦ elim (get_cases xs t j x q) [
    | inl b ↦ h i j x a b
    | inr b ↦ absurd (free i (a ∙ ap (λ (z : A). Some z) b.1))
  ]
  | inr a ↦ elim (get_cases xs t j x q) [
    | inl b ↦ absurd (free j (b ∙ ap (λ (z : A). Some z) a.1))
    | inr b ↦ a.0 ∙ sym b.0
  ]
]

-- none of the tiles was seen before
abbrev Fresh : List Tile → List Tile → Type 0
Fresh seen [] = Unit {0}
Fresh seen (t ∷ ts) = (place_of 0 t seen ≡ None) × Fresh (seen ++ t ∷ []) ts

no_match : (a : Option ℕ) (second : ℕ) (later : Option (ℕ × ℕ)) → match_place a second later ≡ None → (a ≡ None) × (later ≡ None)
no_match None second later e = (refl, e)
no_match (Some a) second later e = absurd (cc)

fresh : (second : ℕ) (seen ts : List Tile) → repeated second seen ts ≡ None → Fresh seen ts
fresh second seen [] e = tt
fresh second seen (t ∷ ts) e = let p = no_match (place_of 0 t seen) second (repeated (second + 1) (seen ++ t ∷ []) ts) e in (p.0, fresh (second + 1) (seen ++ t ∷ []) ts p.1)

not_repeated : (second : ℕ) (seen ts : List Tile) → Fresh seen ts → repeated second seen ts ≡ None
not_repeated second seen [] f = refl
not_repeated second seen (t ∷ ts) f = rw (f.0, not_repeated (second + 1) (seen ++ t ∷ []) ts f.1) refl

nothing_more : (xs : List Tile) → xs ++ [] ≡ xs
nothing_more [] = refl
nothing_more (x ∷ xs) = ap (λ (ys : List Tile). x ∷ ys) (nothing_more xs)

tiles_apart : (seen ts : List Tile) → AllApart seen → Fresh seen ts → AllApart (seen ++ ts)
tiles_apart seen [] h f = rw (nothing_more seen) h
tiles_apart seen (t ∷ ts) h f =
    let r : AllApart (seen ++ t ∷ [] ++ ts) = tiles_apart (seen ++ t ∷ []) ts (apart_more seen t h (place_none 0 t seen f.0)) f.1 in
    rw append_assoc at r

apart_tiles : (seen ts : List Tile) → AllApart (seen ++ ts) → Fresh seen ts
apart_tiles seen [] h = tt
apart_tiles seen (t ∷ ts) h = (by (place_of 0 t seen) refl, apart_tiles (seen ++ t ∷ []) ts (rw append_assoc h))
  where
    by : (a : Option ℕ) → place_of 0 t seen ≡ a → place_of 0 t seen ≡ None
    by None p = p
    by (Some k) p =
        let r = place_some 0 t seen k p in
        let inside = slice_get_within seen r.0 t r.1 in
        absurd (let same : r.0 ≡ length seen = h r.0 (length seen) t (get_left seen (t ∷ ts) r.0 t r.1) (get_seam seen t ts) in omega arith)

-- All faults in their order.

passes : (a : Bool) (fault : SetFault) (rest : Option SetFault) → (if a then Some fault else rest) ≡ None → (a ≡ false) × (rest ≡ None)
passes true fault rest e = absurd (cc)
passes false fault rest e = (refl, e)

not_some : {A : Type 0} (a : Option A) → is_some a ≡ false → a ≡ None
not_some None e = refl
not_some (Some a) e = absurd (cc)

neither_one : (a b : Bool) → (not a || b) ≡ false → (a ≡ true) × (b ≡ false)
neither_one true b e = (refl, e)
neither_one false b e = absurd (cc)

no_colours : IsNumbered []
no_colours k c d e lt = absurd (let l = slice_get_within [] k c e in omega arith)

none_seen : AllApart {A = Tile} []
none_seen i j x p q = absurd (let l = slice_get_within [] i x p in omega arith)

pub tile_set : (l : TileList) → set_fault l ≡ None → IsTileSet l
unfolding set_fault
tile_set l e =
    let a = passes (nat_eq (length l.tiles) 0) Empty _ e in
    let b = passes (nat_lt 256 (length l.tiles)) TooMany _ a.1 in
    let c = passes (is_some (colour_fault 0 0 0 (length l.names1) (length l.names2) l.tiles)) _ _ b.1 in
    let d = passes (not (apart l.names1) || nat_lt (east_west l.tiles) (length l.names1)) _ _ c.1 in
    let f = passes (not (apart l.names2) || nat_lt (north_south l.tiles) (length l.names2)) _ _ d.1 in
    let g = passes (is_some (repeated 0 [] l.tiles)) _ _ f.1 in
    let order = goes 0 0 0 (length l.names1) (length l.names2) l.tiles (not_some (colour_fault 0 0 0 (length l.names1) (length l.names2) l.tiles) c.0) in
    let n1 = neither_one (apart l.names1) (nat_lt (east_west l.tiles) (length l.names1)) d.0 in
    let n2 = neither_one (apart l.names2) (nat_lt (north_south l.tiles) (length l.names2)) f.0 in
    let m1 : length l.names1 ≤ reach 0 (edges One l.tiles) = rw (reach_one 0 l.tiles) at (let le : length l.names1 ≤ east_west l.tiles = grind (arith, nat_tests, n1.1) in le) in
    let m2 : length l.names2 ≤ reach 0 (edges Two l.tiles) = rw (reach_two 0 l.tiles) at (let le : length l.names2 ≤ north_south l.tiles = grind (arith, nat_tests, n2.1) in le) in
    record {
      some = grind (arith, nat_tests, a.0);
      few = grind (arith, nat_tests, b.0);
      distinct = tiles_apart [] l.tiles none_seen (fresh 0 [] l.tiles (not_some (repeated 0 [] l.tiles) g.0));
      numbered = λ axis. elim axis as (λ x. IsNumbered (edges x l.tiles)) [ One ↦ is_numbered (length l.names1) (edges One l.tiles) order.0 | Two ↦ is_numbered (length l.names2) (edges Two l.tiles) order.1 ];
      named = λ axis. elim axis as (λ x. (c : ℕ) → Contains (edges x l.tiles) c ↔ (c < length (names x l))) [ One ↦ is_named (length l.names1) (edges One l.tiles) order.0 m1 | Two ↦ is_named (length l.names2) (edges Two l.tiles) order.1 m2 ];
      apart = λ axis. elim axis as (λ x. AllApart (names x l)) [ One ↦ names_apart l.names1 n1.0 | Two ↦ names_apart l.names2 n2.0 ];
    }

reach_within : (n named : ℕ) (cs : List ℕ) → n ≤ named → Goes n named cs → reach n cs ≤ named
reach_within n named [] le g = le
reach_within n named (c ∷ cs) le g = reach_within (max n (c + 1)) named cs (let lt = g.1 in omega arith) g.2

-- the colours of a tile set come in order, and as many as have names
pub set_goes : (l : TileList) → IsTileSet l → (axis : Axis) → Goes 0 (length (names axis l)) (edges axis l.tiles) × (reach 0 (edges axis l.tiles) ≡ length (names axis l))
set_goes l s axis =
    let n = length (names axis l) in
    let g : Goes 0 n (edges axis l.tiles) = numbered_goes 0 n [] (edges axis l.tiles) (λ d h. absurd (let lt = h.1 in omega arith)) (s.numbered axis) (λ c h. (s.named axis c).0 h) in
    let some = names_reach n (edges axis l.tiles) (λ k lt. (s.named axis k).1 lt) in
    let most = reach_within 0 n (edges axis l.tiles) (omega arith) g in
    (g, omega arith)

pub no_fault : (l : TileList) → IsTileSet l → set_fault l ≡ None
unfolding set_fault
no_fault l s =
    let some = s.some in
    let few = s.few in
    let g1 : Goes 0 (length l.names1) (edges One l.tiles) = numbered_goes 0 (length l.names1) [] (edges One l.tiles) (λ d h. absurd (let lt = h.1 in omega arith)) (s.numbered One) (λ c h. (s.named One c).0 h) in
    let g2 : Goes 0 (length l.names2) (edges Two l.tiles) = numbered_goes 0 (length l.names2) [] (edges Two l.tiles) (λ d h. absurd (let lt = h.1 in omega arith)) (s.numbered Two) (λ c h. (s.named Two c).0 h) in
    let a : nat_eq (length l.tiles) 0 ≡ false = grind (arith, nat_tests) in
    let b : nat_lt 256 (length l.tiles) ≡ false = grind (arith, nat_tests) in
    let c : colour_fault 0 0 0 (length l.names1) (length l.names2) l.tiles ≡ None = goes_back 0 0 0 (length l.names1) (length l.names2) l.tiles g1 g2 in
    let d1 : apart l.names1 ≡ true = apart_names l.names1 (s.apart One) in
    let d2 : apart l.names2 ≡ true = apart_names l.names2 (s.apart Two) in
    let r1 = names_reach (length l.names1) (edges One l.tiles) (λ k lt. (s.named One k).1 lt) in
    let r2 = names_reach (length l.names2) (edges Two l.tiles) (λ k lt. (s.named Two k).1 lt) in
    let q1 = reach_one 0 l.tiles in
    let q2 = reach_two 0 l.tiles in
    let f1 : nat_lt (east_west l.tiles) (length l.names1) ≡ false = grind (arith, nat_tests) in
    let f2 : nat_lt (north_south l.tiles) (length l.names2) ≡ false = grind (arith, nat_tests) in
    let g : repeated 0 [] l.tiles ≡ None = not_repeated 0 [] l.tiles (apart_tiles [] l.tiles s.distinct) in
    rw (a, b, c, d1, f1, d2, f2, g) refl
