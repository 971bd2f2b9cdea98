-- Where no known entry is of a lower radius, nothing can be cited.
use Rattle.std.proofs.Common.{arith, ◌≡◌, ◌⊎◌, ℕ, zero, suc, ◌+◌, ◌≤◌, Bool, true, false, ◌&&◌, ◌||◌, cond, nat_lt, nat_eq, List, [], ◌∷◌, length, get_or, Option, None, Some, refl, ap, sym, ◌∙◌, inl, inr}
use Rattle.std.specs.List.{list_any}
use Rattle.wt_grid.specs.Axes.{axis_number, same_axis}
use Rattle.wt_grid.specs.declared.axis.Axis.TheVariants.{One, Two}
use Rattle.wt_grid.specs.declared.axis.Axis.{Axis}
use Rattle.std.proofs.lemmas.Bool.{and_parts, or_cases, ltb-true, eqb-true}
use Rattle.std.proofs.lemmas.Bool.Decides.{nat_tests}
use Rattle.wt_grid.specs.First.{or_else, first_from}
use Rattle.wt_grid.specs.Pairs.{pair_before}
use Rattle.wt_refute.specs.declared.tree.Refuted.{Refuted}
use Rattle.wt_refute.specs.Entries.{entries_follow, ascends}
use Rattle.wt_refute.specs.Placed.{Placed, tile_in}
use Rattle.wt_refute.specs.Refutes.{lies_inside, serves, next_placed, is_known, is_cited}
use Rattle.wt_refute.specs.Standard.{citation_at, first_citation}

abbrev pub is_lower : ℕ → Refuted → Bool
is_lower radius entry = nat_lt entry.radius radius

-- an entry's radius is at most that of the next
onward : (x y : Refuted) → entries_follow x y ≡ true → x.radius ≤ y.radius
onward x y e = elim (or_cases (nat_lt x.radius y.radius) (nat_eq x.radius y.radius && (nat_lt (axis_number x.axis) (axis_number y.axis) || (nat_eq (axis_number x.axis) (axis_number y.axis) && pair_before y.a y.b (x.a, x.b)))) e) [
  | inl less ↦ let l = ltb-true x.radius y.radius less in omega arith
  | inr rest ↦
      let p = and_parts (nat_eq x.radius y.radius) (nat_lt (axis_number x.axis) (axis_number y.axis) || (nat_eq (axis_number x.axis) (axis_number y.axis) && pair_before y.a y.b (x.a, x.b))) rest in
      let s = eqb-true x.radius y.radius p.0 in omega arith
]

none_lower : (radius : ℕ) (x : Refuted) (xs : List Refuted) → ascends (x ∷ xs) ≡ true → nat_lt x.radius radius ≡ false → list_any (is_lower radius) (x ∷ xs) ≡ false
none_lower radius x [] e f = rw f refl
none_lower radius x (y ∷ ys) e f =
    let p = and_parts (entries_follow x y) (ascends (y ∷ ys)) e in
    let le = onward x y p.0 in
    let high : nat_lt y.radius radius ≡ false = grind (arith, nat_tests, f, le) in
    rw f (none_lower radius y ys p.1 high)

-- the first entry tells whether one is of a lower radius
pub first_tells : (radius : ℕ) (x : Refuted) (xs : List Refuted) → ascends (x ∷ xs) ≡ true → nat_lt x.radius radius ≡ list_any (is_lower radius) (x ∷ xs)
first_tells radius x xs e = by (nat_lt x.radius radius) refl
  where
    by : (b : Bool) → nat_lt x.radius radius ≡ b → nat_lt x.radius radius ≡ list_any (is_lower radius) (x ∷ xs)
    by true f = rw f refl
    by false f = f ∙ sym (none_lower radius x xs e f)

pub first_of_list : (radius : ℕ) (known : List Refuted) (x : Refuted) → 1 ≤ length known → x ≡ get_or known 0 x → ascends known ≡ true → nat_lt x.radius radius ≡ list_any (is_lower radius) known
first_of_list radius [] x some e order = absurd (omega (arith, some))
first_of_list radius (y ∷ ys) x some e order = ap (λ (k : Refuted). nat_lt k.radius radius) e ∙ first_tells radius y ys order

never : (q b : Bool) → (q && false && b) ≡ false
never true b = refl
never false b = refl

neither : (x y : Bool) → (x || y) ≡ false → (x ≡ false) × (y ≡ false)
neither true y e = absurd cc
neither false y e = (refl, e)

none_serves : (radius w h cell : ℕ) (axis : Axis) (a b : ℕ) (known : List Refuted) → list_any (is_lower radius) known ≡ false → list_any (serves radius w h cell axis a b) known ≡ false
none_serves radius w h cell axis a b [] e = refl
none_serves radius w h cell axis a b (x ∷ xs) e =
    let n = neither (nat_lt x.radius radius) (list_any (is_lower radius) xs) e in
    let no : serves radius w h cell axis a b x ≡ false =
    ap (λ (k : Bool). same_axis x.axis axis && nat_eq x.a a && nat_eq x.b b && k && lies_inside w h cell axis x.radius) n.0
    ∙ never (same_axis x.axis axis && nat_eq x.a a && nat_eq x.b b) (lies_inside w h cell axis x.radius) in
    rw no (none_serves radius w h cell axis a b xs n.1)

module _ (radius : ℕ) (known : List Refuted) (p : Placed) (none : list_any (is_lower radius) known ≡ false) where
  not_known : (cell : ℕ) (axis : Axis) (a b : Option ℕ) → is_known radius known p cell axis a b ≡ false
  not_known cell axis None b = refl
  not_known cell axis (Some a) None = refl
  not_known cell axis (Some a) (Some b) = none_serves radius p.width p.height cell axis a b known none

  no_citation_at : (cell : ℕ) → citation_at radius known p cell ≡ None
  no_citation_at cell =
      ap (λ (k : Bool). cond k (Some (cell, One)) (cond (is_cited radius known p cell Two) (Some (cell, Two)) None)) (not_known cell One (tile_in p cell) (next_placed p cell One))
      ∙ ap (λ (k : Bool). cond k (Some (cell, Two)) None) (not_known cell Two (tile_in p cell) (next_placed p cell Two))

  no_citation_from : (i n : ℕ) → first_from (citation_at radius known p) i n ≡ None
  no_citation_from i zero = refl
  no_citation_from i (suc n) =
      ap (λ (o : Option (ℕ × Axis)). or_else o (first_from (citation_at radius known p) (i + 1) n)) (no_citation_at i) ∙ no_citation_from (i + 1) n

  pub no_citation : first_citation radius known p ≡ None
  no_citation = no_citation_from 0 (length p.cells)
