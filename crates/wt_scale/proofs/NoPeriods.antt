-- No vector is a period of a large valid pattern over the first set of a looped chain.
use Rattle.std.proofs.Common.{arith, ◌≡◌, ◌⊎◌, ◌≤◌, ◌<◌, ◌+◌, ◌*◌, ◌^◌, ℕ, zero, suc, ℤ, List, [], ◌∷◌, ◌++◌, length, take, drop, Bool, refl, sym, ◌∙◌, ap, subst, inl, inr}
use Rattle.wt_grid.specs.declared.axis.Axis.TheVariants.{One, Two}
use Rattle.std.proofs.lemmas.List.{take-append-drop}
use Rattle.std.proofs.Math.Nat.{pow-succ'}
use Rattle.wt_tile.specs.declared.tile.Tile.{Tile}
use Rattle.wt_tile.specs.declared.tile.TileList.{TileList}
use Rattle.wt_bijection.specs.Carried.{IsRenaming}
use Rattle.wt_pattern.specs.Patterns.{IsPattern}
use Rattle.wt_pattern.specs.Periods.{IsPeriod}
use Rattle.wt_grid.specs.Grid.{Grid, at, listed}
use Rattle.wt_grid.specs.Shifts.{HasVector}
use Rattle.wt_grid.specs.Widths.{Stage, total, width}
use Rattle.wt_grid.specs.Traces.{segment}
use Rattle.wt_grid.proofs.Bridge.{length-listed}
use Rattle.wt_grid.proofs.Widths.{length_last}
use Rattle.wt_step.specs.declared.raw.RawLink.{RawLink}
use Rattle.wt_step.specs.Links.{fine_of, coarse_of}
use Rattle.wt_chain.specs.declared.raw.RawChain.{RawChain}
use Rattle.wt_chain.specs.declared.raw.End.TheVariants.{Loop}
use Rattle.wt_chain.specs.Sets.{last_set, AreLinked, IsRun}
use Rattle.wt_chain.specs.Growth.{stages, turn_stages}
use Rattle.wt_chain.specs.Good.{IsGoodChain, IsGoodLoop, IsGoodEnd, HasGrown}
use Rattle.wt_chain.proofs.Turned.{wide, high}
use Rattle.wt_scale.specs.Sizes.{size_from, turns_size, size_of}
use Rattle.wt_step.specs.Carried.{magnitude}
use Rattle.wt_step.proofs.SignedPeriods.{are_opposed, to_vector}
use Rattle.wt_scale.proofs.Standing.{Standing, larger_turns, steps_up, turns_up, anew}
use Rattle.wt_chain.proofs.Goodness.{linked_run}

-- where each tile grows to two cells at least, a run of cells grows to twice its length
pub twice : (f : ℕ → ℕ) (n : ℕ) → ((t : ℕ) → t < n → 2 ≤ f t) → (m : ℕ) (a : ℕ → ℕ) → ((k : ℕ) → k < m → a k < n) → m + m ≤ total f (listed m a)
twice f n h zero a b = omega arith
twice f n h (suc m) a b = let x = h (a 0) (b 0 (omega arith)) in let r = twice f n h m (λ k. a (suc k)) (λ k lt. b (suc k) (omega arith)) in omega arith

module _ (ts : List Tile) (rows columns : List Stage) (grow_wide : (t : ℕ) → t < length ts → 2 ≤ width rows t) (grow_high : (t : ℕ) → t < length ts → 2 ≤ width columns t) where
  right_halves : (side : ℕ) (opposed : Bool) (d e : ℕ) → d + 2 ≤ side → e + 2 ≤ side → (s : Standing ts side opposed rows columns d e) → s.right + s.right ≤ d
  right_halves side opposed d e ld le s =
      let a = s.right_most in let w = s.wide in let h = s.high in
      let r = s.right_runs 0 0 (omega arith) (omega arith) in
      let l = length_last rows (segment One s.grid 0 0 s.right) in
      let t = twice (width rows) (length ts) grow_wide s.right (λ k. at One s.grid (0 + k) 0) (λ k lk. s.pattern.1 (0 + k) 0 (omega arith) (omega arith)) in
      omega (arith, r, l, t)

  up_halves : (side : ℕ) (opposed : Bool) (d e : ℕ) → d + 2 ≤ side → e + 2 ≤ side → (s : Standing ts side opposed rows columns d e) → s.up + s.up ≤ e
  up_halves side opposed d e ld le s =
      let a = s.up_most in let w = s.wide in let h = s.high in
      let r = s.up_runs 0 0 (omega arith) (omega arith) in
      let l = length_last columns (segment Two s.grid 0 0 s.up) in
      let t = twice (width columns) (length ts) grow_high s.up (λ k. at Two s.grid (0 + k) 0) (λ k lk. s.pattern.1 0 (0 + k) (omega arith) (omega arith)) in
      omega (arith, r, l, t)

-- sizes of turns add up
turns_add : (loop : List RawLink) (a b side : ℕ) → turns_size loop (a + b) side ≡ turns_size loop a (turns_size loop b side)
turns_add loop a zero side = let z : a + 0 ≡ a = omega arith in ap (λ (n : ℕ). turns_size loop n side) z
turns_add loop a (suc b) side = let z : a + suc b ≡ suc (a + b) = omega arith in ap (λ (n : ℕ). turns_size loop n side) z ∙ turns_add loop a b (size_from loop side)

one_more : (e k : ℕ) → e * suc k ≡ e + e * k
one_more e k = omega arith

pub doubled : (k : ℕ) → 2 ^ suc k ≡ 2 ^ k + 2 ^ k
doubled k = pow-succ' 2 k ∙ (let p = 2 ^ k in omega arith)

module _ (l : RawLink) (ls : List RawLink) (list : List ℕ) (e : ℕ) (linked : AreLinked (fine_of l) (l ∷ ls)) (ren : IsRenaming (last_set (coarse_of l) ls).tiles (fine_of l).tiles list)
    (grows : (t : ℕ) → t < length (fine_of l).tiles → HasGrown (l ∷ ls) list e t) where
  pub grow_wide : (t : ℕ) → t < length (fine_of l).tiles → 2 ≤ width (turn_stages One (l ∷ ls) list e) t
  grow_wide t lt = let g = (grows t lt).wide in let w = wide (l ∷ ls) list e t in omega arith

  pub grow_high : (t : ℕ) → t < length (fine_of l).tiles → 2 ≤ width (turn_stages Two (l ∷ ls) list e) t
  grow_high t lt = let g = (grows t lt).high in let w = high (l ∷ ls) list e t in omega arith

  -- after k times e turns a component that isn't 0 was at least 2 to the power k
  outgrown : (k side : ℕ) (opposed : Bool) (d c : ℕ) → d + 2 ≤ side → c + 2 ≤ side → Standing (fine_of l).tiles (turns_size (l ∷ ls) (e * k) side) opposed [] [] d c
      → (1 ≤ d → 2 ^ k ≤ d) × (1 ≤ c → 2 ^ k ≤ c)
  outgrown zero side opposed d c ld lc s = (λ h. h, λ h. h)
  outgrown (suc k) side opposed d c ld lc s =
      let next : ℕ = turns_size (l ∷ ls) (e * k) side in
      let big = larger_turns (l ∷ ls) (e * k) side in
      let sizes : turns_size (l ∷ ls) (e * suc k) side ≡ turns_size (l ∷ ls) e next = ap (λ (n : ℕ). turns_size (l ∷ ls) n side) (one_more e k) ∙ turns_add (l ∷ ls) e (e * k) side in
      let s' : Standing (fine_of l).tiles (turns_size (l ∷ ls) e next) opposed [] [] d c = subst (λ (n : ℕ). Standing (fine_of l).tiles n opposed [] [] d c) sizes s in
      let u = turns_up l ls list linked ren e next opposed d c (omega arith) (omega arith) s' in
      let a = right_halves (fine_of l).tiles (turn_stages One (l ∷ ls) list e) (turn_stages Two (l ∷ ls) list e) grow_wide grow_high next opposed d c (omega arith) (omega arith) u in
      let b = up_halves (fine_of l).tiles (turn_stages One (l ∷ ls) list e) (turn_stages Two (l ∷ ls) list e) grow_wide grow_high next opposed d c (omega arith) (omega arith) u in
      let x = u.right_most in let y = u.up_most in
      let r = outgrown k side opposed u.right u.up (omega arith) (omega arith) (anew (fine_of l).tiles next opposed (turn_stages One (l ∷ ls) list e) (turn_stages Two (l ∷ ls) list e) d c u) in
      let p = doubled k in
      (λ h. twice_as d u.right (2 ^ k) (2 ^ suc k) (r.0 (u.right_some h)) a p, λ h. twice_as c u.up (2 ^ k) (2 ^ suc k) (r.1 (u.up_some h)) b p)
    where
      twice_as : (d r p q : ℕ) → p ≤ r → r + r ≤ d → q ≡ p + p → q ≤ d
      twice_as d r p q a b e = omega arith

-- the steps of a run, and those behind the first ones
pub linked_apart : (set : TileList) (xs ys : List RawLink) → AreLinked set (xs ++ ys) → AreLinked set xs × AreLinked (last_set set xs) ys
linked_apart set [] ys h = (tt, h)
linked_apart set (x ∷ xs) ys h = let r = linked_apart (coarse_of x) xs ys h.2 in ((h.0, h.1, r.0), r.1)

first_of_run : List RawLink → TileList → TileList
first_of_run [] set = set
first_of_run (l ∷ ls) set = fine_of l

pub run_linked : (set : TileList) (loop : List RawLink) → AreLinked set loop → (l : RawLink) (ls : List RawLink) → loop ≡ l ∷ ls → (AreLinked (fine_of l) (l ∷ ls)) × (fine_of l ≡ set)
run_linked set [] h l ls e = absurd cc
run_linked set (x ∷ xs) h l ls e =
    let t : AreLinked set (l ∷ ls) = subst (λ (ys : List RawLink). AreLinked set ys) e h in
    ((t.0, refl, t.2), t.1)

-- The size that the chain asks for vectors of at most m leaves no room for one.
loop_outgrows : (l : RawLink) (ls : List RawLink) (list : List ℕ) (e : ℕ) → AreLinked (fine_of l) (l ∷ ls) → IsRenaming (last_set (coarse_of l) ls).tiles (fine_of l).tiles list
    → ((t : ℕ) → t < length (fine_of l).tiles → HasGrown (l ∷ ls) list e t) → (k m : ℕ) (opposed : Bool) (d c : ℕ) → d ≤ m → c ≤ m → m < 2 ^ k → (1 ≤ d) ⊎ (1 ≤ c)
    → Standing (fine_of l).tiles (turns_size (l ∷ ls) (e * k) (m + 2)) opposed [] [] d c → ⊥
loop_outgrows l ls list e linked ren grows k m opposed d c ld lc lm some s =
    let r = outgrown l ls list e linked ren grows k (m + 2) opposed d c (omega arith) (omega arith) s in
    elim some [ inl h ↦ (let x = r.0 h in omega arith) | inr h ↦ (let x = r.1 h in omega arith) ]

started : (ts : List Tile) (side : ℕ) (opposed : Bool) (d c : ℕ) (p : Grid) → IsPattern ts p → side ≤ p.width → side ≤ p.height → HasVector One opposed d c p → Standing ts side opposed [] [] d c
started ts side opposed d c p v w h x = record {
  grid = p;
  pattern = v;
  wide = w;
  high = h;
  right = d;
  up = c;
  vector = x;
  right_most = omega arith;
  up_most = omega arith;
  right_some = λ k. k;
  up_some = λ k. k;
  right_runs = λ i j le lt. length-listed d _;
  up_runs = λ i j le lt. length-listed c _;
}

pub split_steps : (first : RawLink) (rest loop : List RawLink) (start : ℕ) → drop start (first ∷ rest) ≡ loop → take start (first ∷ rest) ++ loop ≡ first ∷ rest
split_steps first rest loop start e = ap (λ (ys : List RawLink). take start (first ∷ rest) ++ ys) (sym e) ∙ take-append-drop start (first ∷ rest)

at_start : (first : RawLink) (rest : List RawLink) → AreLinked (fine_of first) (first ∷ rest) → (start : ℕ) (list : List ℕ) (e : ℕ) (loop : List RawLink) → drop start (first ∷ rest) ≡ loop → IsGoodLoop loop list e
    → (k m : ℕ) (opposed : Bool) (d c : ℕ) → d ≤ m → c ≤ m → m < 2 ^ k → (1 ≤ d) ⊎ (1 ≤ c)
    → Standing (fine_of first).tiles (size_from (take start (first ∷ rest)) (turns_size loop (e * k) (m + 2))) opposed [] [] d c → ⊥
at_start first rest linked start list e [] same good k m opposed d c ld lc lm some s = good
at_start first rest linked start list e (l ∷ ls) same good k m opposed d c ld lc lm some s =
    let prefix = take start (first ∷ rest) in
    let set = fine_of first in
    let whole = subst (λ (ys : List RawLink). AreLinked set ys) (sym (split_steps first rest (l ∷ ls) start same)) linked in
    let two = linked_apart set prefix (l ∷ ls) whole in
    let own = run_linked (last_set set prefix) (l ∷ ls) two.1 l ls refl in
    let big = larger_turns (l ∷ ls) (e * k) (m + 2) in
    let t = steps_up prefix set (turns_size (l ∷ ls) (e * k) (m + 2)) opposed [] [] d c two.0 (omega arith) (omega arith) s in
    let here : Standing (fine_of l).tiles (turns_size (l ∷ ls) (e * k) (m + 2)) opposed (stages One prefix []) (stages Two prefix []) d c = subst (λ (x : TileList). Standing x.tiles (turns_size (l ∷ ls) (e * k) (m + 2)) opposed (stages One prefix []) (stages Two prefix []) d c) (sym own.1) t in
    let a = here.right_most in let b = here.up_most in
    loop_outgrows l ls list e own.0 good.0 good.1 k m opposed here.right here.up (omega arith) (omega arith) lm (still some here.right_some here.up_some)
    (anew (fine_of l).tiles (turns_size (l ∷ ls) (e * k) (m + 2)) opposed (stages One prefix []) (stages Two prefix []) d c here)
  where
    still : {d c r u : ℕ} → (1 ≤ d) ⊎ (1 ≤ c) → (1 ≤ d → 1 ≤ r) → (1 ≤ c → 1 ≤ u) → (1 ≤ r) ⊎ (1 ≤ u)
    still some f g = elim some [ inl h ↦ inl (f h) | inr h ↦ inr (g h) ]

pub run_is_linked : (first : RawLink) (rest steps : List RawLink) → steps ≡ first ∷ rest → IsRun steps → AreLinked (fine_of first) (first ∷ rest)
run_is_linked first rest steps e run = subst (λ (xs : List RawLink). IsRun xs) e run

-- No vector of components up to m is a period of a valid pattern of the stated size over the first set.
pub no_period : (c : RawChain) → IsGoodChain c → (start e : ℕ) (list : List ℕ) → c.end ≡ Loop start list e → (first : RawLink) (rest : List RawLink) → c.steps ≡ first ∷ rest
    → (x y : ℤ) (m k : ℕ) → magnitude x ≤ m → magnitude y ≤ m → m < 2 ^ k → (1 ≤ magnitude x) ⊎ (1 ≤ magnitude y)
    → (p : Grid) → IsPattern (fine_of first).tiles p → size_of c.steps start e k m ≤ p.width → size_of c.steps start e k m ≤ p.height → IsPeriod p x y → ⊥
no_period c good start e list end first rest steps x y m k lx ly lm some p v w h period =
    let linked = run_is_linked first rest c.steps steps (linked_run c.steps good.run) in
    let loop : IsGoodLoop (drop start (first ∷ rest)) list e = subst (λ (xs : List RawLink). IsGoodLoop (drop start xs) list e) steps (subst (λ (z : _). IsGoodEnd c.steps z) end good.end) in
    let vec = to_vector One p x y period in
    let opposed = are_opposed x y in
    let size : ℕ = size_of (first ∷ rest) start e k m in
    let w' : size ≤ p.width = subst (λ (xs : List RawLink). size_of xs start e k m ≤ p.width) steps w in
    let h' : size ≤ p.height = subst (λ (xs : List RawLink). size_of xs start e k m ≤ p.height) steps h in
    at_start first rest linked start list e (drop start (first ∷ rest)) refl loop k m opposed (magnitude x) (magnitude y) lx ly lm some
    (started (fine_of first).tiles size opposed (magnitude x) (magnitude y) p v w' h' vec)
