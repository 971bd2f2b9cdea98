-- Over the first set of a good looped chain each pick is a valid pattern, so there are some of every size.
use Rattle.std.proofs.Common.{arith, ◌≡◌, ◌≤◌, ◌<◌, ◌+◌, ◌*◌, ◌^◌, ℕ, zero, suc, max, List, [], ◌∷◌, length, take, drop, refl, sym, ◌∙◌, ap, subst}
use Rattle.wt_tile.specs.Matching.{matches}
use Rattle.wt_grid.specs.declared.axis.Axis.TheVariants.{One, Two}
use Rattle.std.proofs.Math.Nat.{le-max_left, le-max_right}
use Rattle.wt_tile.specs.declared.tile.Tile.{Tile}
use Rattle.wt_tile.specs.declared.tile.TileList.{TileList}
use Rattle.wt_tile.proofs.Sizes.{few_tiles}
use Rattle.wt_pattern.specs.Patterns.{IsPattern}
use Rattle.wt_grid.specs.Grid.{Grid, cell}
use Rattle.wt_grid.specs.Parts.{AllBelow, IsValid}
use Rattle.wt_grid.proofs.Parts.{grid_grid, below_part, valid_part}
use Rattle.wt_step.specs.declared.raw.RawLink.{RawLink}
use Rattle.wt_step.specs.Links.{fine_of}
use Rattle.wt_chain.specs.declared.raw.RawChain.{RawChain}
use Rattle.wt_chain.specs.declared.raw.End.TheVariants.{Loop}
use Rattle.wt_chain.specs.Sets.{last_set, AreLinked}
use Rattle.wt_chain.specs.Turns.{image_through, turned, turned_times, single}
use Rattle.wt_chain.specs.Good.{IsGoodChain, IsGoodLoop, IsGoodEnd}
use Rattle.wt_chain.proofs.Grown.{fine_good}
use Rattle.wt_scale.specs.Existence.{IsPatternOf, HasPattern}
use Rattle.wt_scale.specs.Pick.{power_for, lower_left, grown, pick}
use Rattle.wt_scale.proofs.NoPeriods.{doubled, linked_apart, run_linked, split_steps, run_is_linked}
use Rattle.wt_scale.proofs.Doubling.{through_valid, doubled_sides}
use Rattle.wt_scale.proofs.Powers.{enough}
use Rattle.wt_chain.proofs.Goodness.{linked_run}

-- one tile alone is a valid pattern
pub single_pattern : (ts : List Tile) → 0 < length ts → IsPattern ts (single 0)
single_pattern ts some = (record { wide = omega arith; high = omega arith; whole = refl }, below, valid)
  where
    below : AllBelow (length ts) (single 0)
    below x y lx ly = let z : y * 1 + x ≡ 0 = omega arith in rw z some

    valid : IsValid (matches ts) (single 0)
    valid One i j li lj = absurd (omega arith)
    valid Two i j li lj = absurd (omega arith)

-- a part of a valid pattern is valid
cut_down : (ts : List Tile) (g : Grid) (w h : ℕ) → IsPattern ts g → 1 ≤ w → 1 ≤ h → w ≤ g.width → h ≤ g.height → IsPatternOf ts w h (lower_left w h g)
cut_down ts g w h p some_wide some_high lw lh = record {
  pattern = (grid_grid w h (λ i j. cell g (0 + i) (0 + j)) some_wide some_high, below_part (length ts) g 0 0 w h p.1 (omega arith) (omega arith), valid_part (matches ts) g 0 0 w h p.2 (omega arith) (omega arith));
  wide = refl;
  high = refl;
}

-- turns behind turns are as many as both together
turns_behind : (loop : List RawLink) (list : List ℕ) (a b : ℕ) (g : Grid) → turned_times loop list (a + b) g ≡ turned_times loop list b (turned_times loop list a g)
turns_behind loop list zero b g = let z : 0 + b ≡ b = omega arith in ap (λ (n : ℕ). turned_times loop list n g) z
turns_behind loop list (suc a) b g = let s : suc a + b ≡ suc (a + b) = omega arith in ap (λ (n : ℕ). turned_times loop list n g) s ∙ turns_behind loop list a b (turned loop list g)

-- one time more is e turns behind the others
grown_more : (loop : List RawLink) (list : List ℕ) (e k : ℕ) → grown loop list e (suc k) ≡ turned_times loop list e (grown loop list e k)
grown_more loop list e k = let s : suc k * e ≡ k * e + e = omega arith in ap (λ (n : ℕ). turned_times loop list n (single 0)) s ∙ turns_behind loop list (k * e) e (single 0)

-- a valid pattern with sides of at least this length
pub record IsLong (ts : List Tile) (side : ℕ) (g : Grid) : Type 0 where
  pub pattern : IsPattern ts g
  pub wide : side ≤ g.width
  pub high : side ≤ g.height

module _ (l : RawLink) (ls : List RawLink) (linked : AreLinked (fine_of l) (l ∷ ls)) (list : List ℕ) (e : ℕ) (good : IsGoodLoop (l ∷ ls) list e) where
  -- e turns more double the sides
  longer : (side : ℕ) (g : Grid) → IsLong (fine_of l).tiles side g → IsLong (fine_of l).tiles (side + side) (turned_times (l ∷ ls) list e g)
  longer side g r =
      let t = doubled_sides l ls linked list e good g r.pattern in
      let wide = r.wide in let high = r.high in
      let tw = t.wide in let th = t.high in
      record {
        pattern = t.pattern;
        wide = omega (arith, wide, tw);
        high = omega (arith, high, th);
      }

  -- k times e turns make of one tile a pattern of sides of at least 2 to the power k
  grown_long : (k : ℕ) → IsLong (fine_of l).tiles (2 ^ k) (grown (l ∷ ls) list e k)
  grown_long zero =
      let one : 2 ^ 0 ≡ 1 = refl in
      let none : 0 * e ≡ 0 = omega arith in
      subst (λ (n : ℕ). IsLong (fine_of l).tiles (2 ^ 0) (turned_times (l ∷ ls) list n (single 0))) (sym none) record {
        pattern = single_pattern (fine_of l).tiles (few_tiles (fine_of l) (fine_good l linked.0)).0;
        wide = omega arith;
        high = omega arith;
      }
  grown_long (suc k) =
      let r = longer (2 ^ k) (grown (l ∷ ls) list e k) (grown_long k) in
      let s = subst (λ (n : ℕ). IsLong (fine_of l).tiles n (turned_times (l ∷ ls) list e (grown (l ∷ ls) list e k))) (sym (doubled k)) r in
      subst (λ (g : Grid). IsLong (fine_of l).tiles (2 ^ suc k) g) (sym (grown_more (l ∷ ls) list e k)) s

-- Images under the steps before the loop are no smaller: for each n, turns for the power of n come to sides of at least n.
pub long_from_start : (first : RawLink) (rest : List RawLink) → AreLinked (fine_of first) (first ∷ rest) → (start : ℕ) (list : List ℕ) (e : ℕ) (loop : List RawLink) → drop start (first ∷ rest) ≡ loop → IsGoodLoop loop list e
    → (n : ℕ) → IsLong (fine_of first).tiles n (image_through (take start (first ∷ rest)) (grown loop list e (power_for n)))
long_from_start first rest linked start list e [] same good n = absurd good
long_from_start first rest linked start list e (l ∷ ls) same good n =
    let prefix = take start (first ∷ rest) in
    let set = fine_of first in
    let whole = subst (λ (ys : List RawLink). AreLinked set ys) (sym (split_steps first rest (l ∷ ls) start same)) linked in
    let two = linked_apart set prefix (l ∷ ls) whole in
    let own = run_linked (last_set set prefix) (l ∷ ls) two.1 l ls refl in
    let k = power_for n in
    let g = grown_long l ls own.0 list e good k in
    let t = through_valid prefix set two.0 (grown (l ∷ ls) list e k) (subst (λ (x : TileList). IsPattern x.tiles (grown (l ∷ ls) list e k)) own.1 g.pattern) in
    let b = enough n in
    let gw = g.wide in let gh = g.high in
    let tw = t.wide in let th = t.high in
    record { pattern = t.pattern; wide = omega (arith, b, gw, tw); high = omega (arith, b, gh, th) }

from_start : (first : RawLink) (rest : List RawLink) → AreLinked (fine_of first) (first ∷ rest) → (start : ℕ) (list : List ℕ) (e : ℕ) (loop : List RawLink) → drop start (first ∷ rest) ≡ loop → IsGoodLoop loop list e
    → (w h : ℕ) → 1 ≤ w → 1 ≤ h → IsPatternOf (fine_of first).tiles w h (lower_left w h (image_through (take start (first ∷ rest)) (grown loop list e (power_for (max w h)))))
from_start first rest linked start list e loop same good w h some_wide some_high =
    let g = long_from_start first rest linked start list e loop same good (max w h) in
    let mw = le-max_left w h in let mh = le-max_right w h in
    let gw = g.wide in let gh = g.high in
    cut_down (fine_of first).tiles (image_through (take start (first ∷ rest)) (grown loop list e (power_for (max w h)))) w h g.pattern some_wide some_high (omega (arith, mw, gw)) (omega (arith, mh, gh))

-- Each pick is a valid pattern over the first set, of its size.
pub valid_pick : (c : RawChain) → IsGoodChain c → (start e : ℕ) (list : List ℕ) → c.end ≡ Loop start list e → (first : RawLink) (rest : List RawLink) → c.steps ≡ first ∷ rest
    → (w h : ℕ) → 1 ≤ w → 1 ≤ h → IsPatternOf (fine_of first).tiles w h (pick c.steps start list e w h)
valid_pick c good start e list end first rest steps w h some_wide some_high =
    let linked = run_is_linked first rest c.steps steps (linked_run c.steps good.run) in
    let loop : IsGoodLoop (drop start (first ∷ rest)) list e = subst (λ (xs : List RawLink). IsGoodLoop (drop start xs) list e) steps (subst (λ (z : _). IsGoodEnd c.steps z) end good.end) in
    subst (λ (xs : List RawLink). IsPatternOf (fine_of first).tiles w h (pick xs start list e w h)) (sym steps)
    (from_start first rest linked start list e (drop start (first ∷ rest)) refl loop w h some_wide some_high)

-- So there is a valid pattern of each size.
pub every_size : (c : RawChain) → IsGoodChain c → (start e : ℕ) (list : List ℕ) → c.end ≡ Loop start list e → (first : RawLink) (rest : List RawLink) → c.steps ≡ first ∷ rest
    → (w h : ℕ) → 1 ≤ w → 1 ≤ h → HasPattern (fine_of first).tiles w h
every_size c good start e list end first rest steps w h some_wide some_high = record {
  grid = pick c.steps start list e w h;
  sized = valid_pick c good start e list end first rest steps w h some_wide some_high;
}
