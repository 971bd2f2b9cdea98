-- Patterns over the first set of a good loop grow, turn by turn.
use Rattle.std.proofs.Common.{arith, ◌≤◌, ◌<◌, ◌*◌, ℕ, zero, suc, List, [], ◌∷◌, length, ap, subst}
use Rattle.wt_grid.specs.declared.axis.Axis.TheVariants.{One, Two}
use Rattle.wt_tile.specs.declared.tile.Tile.{Tile}
use Rattle.wt_tile.specs.declared.tile.TileList.{TileList}
use Rattle.wt_bijection.specs.Carried.{IsRenaming}
use Rattle.wt_pattern.specs.Patterns.{IsPattern}
use Rattle.wt_grid.specs.Grid.{Grid, at}
use Rattle.wt_grid.specs.Widths.{width}
use Rattle.wt_grid.proofs.Widths.{length_last}
use Rattle.wt_step.specs.declared.raw.RawLink.{RawLink}
use Rattle.wt_step.specs.Links.{fine_of, coarse_of}
use Rattle.wt_chain.specs.Sets.{last_set, AreLinked}
use Rattle.wt_chain.specs.Growth.{turn_stages}
use Rattle.wt_chain.specs.Turns.{image_under, image_through, renamed_back, turned, turned_times}
use Rattle.wt_chain.specs.Good.{IsGoodLoop, HasGrown}
use Rattle.wt_chain.proofs.Turned.{row, row_long, times_row}
use Rattle.wt_scale.specs.Existence.{IsTwiceSized}
use Rattle.wt_scale.proofs.LinkImages.{link_image, no_smaller}
use Rattle.wt_scale.proofs.RenamedBack.{renamed_back_valid}
use Rattle.wt_scale.proofs.NoPeriods.{twice, grow_wide, grow_high}

-- a valid pattern that is no smaller than another
pub record Larger (ts : List Tile) (g h : Grid) : Type 0 where
  pub pattern : IsPattern ts h
  pub wide : g.width ≤ h.width
  pub high : g.height ≤ h.height

-- The image of a valid pattern under several good steps is valid and no smaller.
pub through_valid : (ls : List RawLink) (set : TileList) → AreLinked set ls → (g : Grid) → IsPattern (last_set set ls).tiles g → Larger set.tiles g (image_through ls g)
through_valid [] set linked g p = record { pattern = p; wide = omega arith; high = omega arith }
through_valid (l ∷ ls) set linked g p =
    let r = through_valid ls (coarse_of l) linked.2 g p in
    let v = link_image l linked.0 (image_through ls g) r.pattern in
    let n = no_smaller l (image_through ls g) in
    let wide = r.wide in let high = r.high in
    let nw = n.0 in let nh = n.1 in
    record {
      pattern = subst (λ (x : TileList). IsPattern x.tiles (image_under l (image_through ls g))) linked.1 v.pattern;
      wide = omega (arith, wide, nw);
      high = omega (arith, high, nh);
    }

module _ (l : RawLink) (ls : List RawLink) (list : List ℕ) (linked : AreLinked (fine_of l) (l ∷ ls)) (ren : IsRenaming (last_set (coarse_of l) ls).tiles (fine_of l).tiles list) where
  pub turned_valid : (g : Grid) → IsPattern (fine_of l).tiles g → IsPattern (fine_of l).tiles (turned (l ∷ ls) list g)
  turned_valid g p =
      let b = renamed_back_valid (last_set (coarse_of l) ls).tiles (fine_of l).tiles list ren g p in
      (through_valid (l ∷ ls) (fine_of l) linked (renamed_back list g) b.pattern).pattern

  pub times_valid : (n : ℕ) (g : Grid) → IsPattern (fine_of l).tiles g → IsPattern (fine_of l).tiles (turned_times (l ∷ ls) list n g)
  times_valid zero g p = p
  times_valid (suc n) g p = times_valid n (turned (l ∷ ls) list g) (turned_valid g p)

  module _ (e : ℕ) (grows : (t : ℕ) → t < length (fine_of l).tiles → HasGrown (l ∷ ls) list e t) where
    twice_wide : (g : Grid) → IsPattern (fine_of l).tiles g → 2 * g.width ≤ (turned_times (l ∷ ls) list e g).width
    twice_wide g p =
        let s = turn_stages One (l ∷ ls) list e in
        let a = row_long One (turned_times (l ∷ ls) list e g) in
        let b = ap length (times_row One (l ∷ ls) list e g p.0) in
        let c = length_last s (row One g) in
        let some = p.0.high in
        let t = twice (width s) (length (fine_of l).tiles) (grow_wide l ls list e linked ren grows) g.width (λ k. at One g k 0) (λ k lk. p.1 k 0 lk (omega arith)) in
        omega (arith, a, b, c, t)

    twice_high : (g : Grid) → IsPattern (fine_of l).tiles g → 2 * g.height ≤ (turned_times (l ∷ ls) list e g).height
    twice_high g p =
        let s = turn_stages Two (l ∷ ls) list e in
        let a = row_long Two (turned_times (l ∷ ls) list e g) in
        let b = ap length (times_row Two (l ∷ ls) list e g p.0) in
        let c = length_last s (row Two g) in
        let some = p.0.wide in
        let t = twice (width s) (length (fine_of l).tiles) (grow_high l ls list e linked ren grows) g.height (λ k. at Two g k 0) (λ k lk. p.1 0 k (omega arith) lk) in
        omega (arith, a, b, c, t)

-- After as many turns as let each tile grow, each side of a valid pattern is at least twice as long.
pub doubled_sides : (l : RawLink) (ls : List RawLink) → AreLinked (fine_of l) (l ∷ ls) → (list : List ℕ) (e : ℕ) → IsGoodLoop (l ∷ ls) list e → (g : Grid) → IsPattern (fine_of l).tiles g
    → IsTwiceSized (fine_of l).tiles g (turned_times (l ∷ ls) list e g)
doubled_sides l ls linked list e good g p = record {
  pattern = times_valid l ls list linked good.0 e g p;
  wide = twice_wide l ls list linked good.0 e good.1 g p;
  high = twice_high l ls list linked good.0 e good.1 g p;
}
