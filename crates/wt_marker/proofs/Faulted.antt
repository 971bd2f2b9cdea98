-- The first reason for a refusal, step by step.
use Rattle.std.proofs.Common.{arith, ◌≡◌, ◌⊎◌, ℕ, ◌+◌, ◌<◌, ◌≤◌, Bool, true, false, nat_eq, nat_lt, List, [], length, map, Option, None, Some, option_map, if◌then◌else◌, refl, inl, inr}
use Rattle.wt_grid.specs.declared.image.Image.{Image}
use Rattle.wt_grid.specs.declared.axis.Axis.TheVariants.{One, Two}
use Rattle.wt_grid.specs.declared.axis.Axis.{Axis}
use Rattle.std.proofs.lemmas.Bool.Decides.{nat_tests}
use Rattle.wt_tile.specs.declared.tile.Tile.{Tile}
use Rattle.wt_tile.specs.Sets.{repeated}
use Rattle.wt_grid.specs.First.{or_else}
use Rattle.wt_grid.proofs.First.{neither}
use Rattle.wt_marker.specs.declared.end.DeriveEnd.{DeriveEnd}
use Rattle.wt_marker.specs.declared.end.DeriveEnd.TheVariants.{EmptySet, TooManyTiles, TooManyNodes, OutOfMemory}
use Rattle.wt_marker.specs.Coarse.{edges_of, number_tiles}
use Rattle.wt_marker.specs.Derived.{first_spent, nodes_in, trees_fault, images_fault, repeated_pair}

module _ (ts : List Tile) (axis : Axis) (images : List Image) where
  pub no_image : length images ≡ 0 → images_fault ts axis images ≡ Some EmptySet
  unfolding images_fault
  no_image e = let a : nat_eq (length images) 0 ≡ true = grind (arith, nat_tests, e) in rw a refl

  pub many_images : 256 < length images → images_fault ts axis images ≡ Some TooManyTiles
  unfolding images_fault
  many_images lt =
      let a : nat_eq (length images) 0 ≡ false = grind (arith, nat_tests, lt) in
      let b : nat_lt 256 (length images) ≡ true = grind (arith, nat_tests, lt) in rw (a, b) refl

  pub fused : 0 < length images → length images ≤ 256 → images_fault ts axis images ≡ option_map repeated_pair (repeated 0 [] (number_tiles [] [] (map (edges_of ts axis) images)))
  unfolding images_fault
  fused some few =
      let a : nat_eq (length images) 0 ≡ false = grind (arith, nat_tests, some) in
      let b : nat_lt 256 (length images) ≡ false = grind (arith, nat_tests, few) in rw (a, b) refl

  empty_only : (b : Bool) (rest : Option DeriveEnd) → or_else (if b then Some EmptySet else None) rest ≡ None → (b ≡ false) × (rest ≡ None)
  empty_only true rest e = absurd cc
  empty_only false rest e = (refl, e)

  many_only : (b : Bool) (rest : Option DeriveEnd) → or_else (if b then Some TooManyTiles else None) rest ≡ None → (b ≡ false) × (rest ≡ None)
  many_only true rest e = absurd cc
  many_only false rest e = (refl, e)

  twice_only : (o : Option (ℕ × ℕ)) → option_map repeated_pair o ≡ None → o ≡ None
  twice_only None e = refl
  twice_only (Some q) e = absurd cc

  -- what no fault says
  pub right_images : images_fault ts axis images ≡ None → (0 < length images) × (length images ≤ 256) × (repeated 0 [] (number_tiles [] [] (map (edges_of ts axis) images)) ≡ None)
  unfolding images_fault
  right_images e =
      let a = empty_only (nat_eq (length images) 0) _ e in
      let b = many_only (nat_lt 256 (length images)) _ a.1 in
      (grind (arith, nat_tests, a.0), grind (arith, nat_tests, b.0), twice_only _ b.1)

module _ (ts : List Tile) (radius : ℕ) (one two : ℕ → ℕ → Bool) (budget : ℕ) where
  pub spent_one : (e : DeriveEnd) → first_spent ts radius budget One one ≡ Some e → trees_fault ts radius one two budget ≡ Some e
  unfolding trees_fault
  spent_one e a = rw a refl

  pub spent_two : (e : DeriveEnd) → first_spent ts radius budget One one ≡ None → first_spent ts radius budget Two two ≡ Some e → trees_fault ts radius one two budget ≡ Some e
  unfolding trees_fault
  spent_two e a b = rw (a, b) refl

  pub many_nodes : first_spent ts radius budget One one ≡ None → first_spent ts radius budget Two two ≡ None → 1048576 < nodes_in ts radius One one + nodes_in ts radius Two two → trees_fault ts radius one two budget ≡ Some TooManyNodes
  unfolding trees_fault
  many_nodes a b lt = let c : nat_lt 1048576 (nodes_in ts radius One one + nodes_in ts radius Two two) ≡ true = grind (arith, nat_tests, lt) in rw (a, b, c) refl

  pub few_nodes : first_spent ts radius budget One one ≡ None → first_spent ts radius budget Two two ≡ None → nodes_in ts radius One one + nodes_in ts radius Two two ≤ 1048576 → trees_fault ts radius one two budget ≡ None
  unfolding trees_fault
  few_nodes a b le = let c : nat_lt 1048576 (nodes_in ts radius One one + nodes_in ts radius Two two) ≡ false = grind (arith, nat_tests, le) in rw (a, b, c) refl

  nodes_only : (b : Bool) → (if b then Some TooManyNodes else None) ≡ None → b ≡ false
  nodes_only true e = absurd cc
  nodes_only false e = refl

  pub right_trees : trees_fault ts radius one two budget ≡ None → nodes_in ts radius One one + nodes_in ts radius Two two ≤ 1048576
  unfolding trees_fault
  right_trees e =
      let a = neither (first_spent ts radius budget One one) _ e in
      let b = neither (first_spent ts radius budget Two two) _ a.1 in
      let c = nodes_only (nat_lt 1048576 (nodes_in ts radius One one + nodes_in ts radius Two two)) b.1 in
      grind (arith, nat_tests, c)

-- a reason for a refusal, or that memory ran out
pub or_memory : (e : DeriveEnd) (o p : Option DeriveEnd) → (o ≡ Some e → p ≡ Some e) → (e ≡ OutOfMemory) ⊎ (o ≡ Some e) → (e ≡ OutOfMemory) ⊎ (p ≡ Some e)
or_memory e o p f (inl m) = inl m
or_memory e o p f (inr s) = inr (f s)

pub first_reason : (a b : Option DeriveEnd) (e : DeriveEnd) → a ≡ Some e → or_else a b ≡ Some e
first_reason a b e h = rw h refl

pub second_reason : (a b : Option DeriveEnd) (e : DeriveEnd) → a ≡ None → b ≡ Some e → or_else a b ≡ Some e
second_reason a b e h k = rw (h, k) refl
