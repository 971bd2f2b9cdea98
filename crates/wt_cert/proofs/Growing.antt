-- Branches read one after the other, as a loop does.
use Rattle.std.proofs.Common.{◌≡◌, ℕ, suc, ◌-◌, ◌+◌, ◌≤◌, ◌<◌, List, [], ◌∷◌, ◌++◌, Result, Ok, Err, refl, sym, ap, ◌∙◌, arith, Bool, zero}
use Rattle.wt_line.specs.declared.faults.What.{What}
use Rattle.wt_line.specs.declared.faults.What.TheVariants.{Number}
use Rattle.wt_line.specs.declared.faults.LineFault.{LineFault}
use Rattle.wt_line.specs.declared.faults.LineFault.TheVariants as line
use Rattle.wt_line.specs.Faults.{LineFails}
use Rattle.wt_text.specs.Words.{number}
use Rattle.wt_text.specs.Readers as words
use Rattle.wt_text.specs.Readers.{◌then◌}
use Rattle.wt_refute.specs.Refutation.{Refutation, Branches, no_more, more, node_count, count_in}
use Rattle.wt_refute.specs.Refutation.{branch, cite}
use Rattle.wt_refute.specs.View.{branches_of}
use Rattle.wt_cert.specs.Seen.{led_by}
use Rattle.wt_grid.specs.declared.axis.Axis.{Axis}
use Rattle.wt_cert.specs.Trees.{Ending, children, cites, limited, branches_in, tree_in, cell_in, ending, ending_in, grown, tile_left, cell_left, ending_left}

abbrev pub with_front : List (ℕ × Refutation) → Result (Branches × List (List ℕ)) (words.LineFault What) → Result (Branches × List (List ℕ)) (words.LineFault What)
with_front front read = read then λ b. Ok (led_by front b.0, b.1)

led_more : (front : List (ℕ × Refutation)) (tile : ℕ) (tree : Refutation) (b : Branches) → led_by front (more tile tree b) ≡ led_by (front ++ (tile, tree) ∷ []) b
led_more [] tile tree b = refl
led_more (x ∷ xs) tile tree b = ap (more x.0 x.1) (led_more xs tile tree b)

pub count_led : (front : List (ℕ × Refutation)) (tile : ℕ) (tree : Refutation) → count_in (led_by (front ++ (tile, tree) ∷ []) no_more) ≡ count_in (led_by front no_more) + node_count tree
count_led [] tile tree = omega arith
count_led (x ∷ xs) tile tree = omega (arith, count_led xs tile tree)

module _ (read : ℕ → List (List ℕ) → Result (Refutation × List (List ℕ)) (words.LineFault What)) where
  regroup : (front : List (ℕ × Refutation)) (tile : ℕ) (tree : Refutation) (r : Result (Branches × List (List ℕ)) (words.LineFault What)) → with_front front (r then λ b. Ok (more tile tree b.0, b.1)) ≡ with_front (front ++ (tile, tree) ∷ []) r
  regroup front tile tree (Ok b) = ap (λ (y : Branches). Ok (y, b.1)) (led_more front tile tree b.0)
  regroup front tile tree (Err e) = refl

  -- a branch more, by its tile
  branch_step : (n nodes : ℕ) (ts : List (List ℕ)) → branches_in read (suc n) nodes ts ≡ (tile_left ts then λ t. read nodes t.1 then λ x. branches_in read n (nodes + node_count x.0) x.1 then λ b. Ok (more t.0 x.0 b.0, b.1))
  branch_step n nodes [] = refl
  branch_step n nodes (t ∷ ts) = go (limited 65535 Number (number t))
    where
      next : ℕ → Result (Branches × List (List ℕ)) (words.LineFault What)
      next t = read nodes ts then λ x. branches_in read n (nodes + node_count x.0) x.1 then λ b. Ok (more t x.0 b.0, b.1)

      go : (r : Result ℕ (words.LineFault What)) → (r then next) ≡ ((r then λ t. Ok (t, ts)) then λ (t : ℕ × List (List ℕ)). read nodes t.1 then λ x. branches_in read n (nodes + node_count x.0) x.1 then λ b. Ok (more t.0 x.0 b.0, b.1))
      go (Ok x) = refl
      go (Err e) = refl

  pub grows_on : (front : List (ℕ × Refutation)) (count i nodes : ℕ) (ts after rest : List (List ℕ)) (tile : ℕ) (tree : Refutation) (total : Result (Branches × List (List ℕ)) (words.LineFault What)) → i < count
      → tile_left ts ≡ Ok (tile, after) → read nodes after ≡ Ok (tree, rest)
      → with_front front (branches_in read (count - i) nodes ts) ≡ total → with_front (front ++ (tile, tree) ∷ []) (branches_in read (count - (i + 1)) (nodes + node_count tree) rest) ≡ total
  grows_on front count i nodes ts after rest tile tree total lt small one so_far =
      let k : count - i ≡ suc (count - (i + 1)) = omega arith in
      let step : with_front front (branches_in read (count - i) nodes ts) ≡ with_front (front ++ (tile, tree) ∷ []) (branches_in read (count - (i + 1)) (nodes + node_count tree) rest) =
      rw (k, branch_step (count - (i + 1)) nodes ts, small, one) (regroup front tile tree (branches_in read (count - (i + 1)) (nodes + node_count tree) rest)) in
      sym step ∙ so_far

  tile_fault : (front : List (ℕ × Refutation)) (n nodes : ℕ) (ts : List (List ℕ)) (e : words.LineFault What) → tile_left ts ≡ Err e → with_front front (branches_in read (suc n) nodes ts) ≡ Err e
  tile_fault front n nodes ts e h = rw (branch_step n nodes ts, h) refl

  tree_fault : (front : List (ℕ × Refutation)) (n nodes : ℕ) (ts after : List (List ℕ)) (tile : ℕ) (e : words.LineFault What) → tile_left ts ≡ Ok (tile, after) → read nodes after ≡ Err e → with_front front (branches_in read (suc n) nodes ts) ≡ Err e
  tree_fault front n nodes ts after tile e small h = rw (branch_step n nodes ts, small, h) refl

  pub bad_tile : (e : LineFault) (front : List (ℕ × Refutation)) (count i nodes : ℕ) (ts : List (List ℕ)) (total : Result (Branches × List (List ℕ)) (words.LineFault What)) → i < count
      → LineFails e (tile_left ts) → with_front front (branches_in read (count - i) nodes ts) ≡ total → LineFails e total
  bad_tile line.OutOfMemory front count i nodes ts total lt h so_far = tt
  bad_tile line.Wrong front count i nodes ts total lt h so_far =
      let k : count - i ≡ suc (count - (i + 1)) = omega arith in
      sym so_far ∙ ap (λ (m : ℕ). with_front front (branches_in read m nodes ts)) k ∙ tile_fault front (count - (i + 1)) nodes ts words.wrong h
  bad_tile (line.Past what) front count i nodes ts total lt h so_far =
      let k : count - i ≡ suc (count - (i + 1)) = omega arith in
      sym so_far ∙ ap (λ (m : ℕ). with_front front (branches_in read m nodes ts)) k ∙ tile_fault front (count - (i + 1)) nodes ts (words.past what) h

  pub bad_tree : (e : LineFault) (front : List (ℕ × Refutation)) (count i nodes : ℕ) (ts after : List (List ℕ)) (tile : ℕ) (total : Result (Branches × List (List ℕ)) (words.LineFault What)) → i < count
      → tile_left ts ≡ Ok (tile, after) → LineFails e (read nodes after) → with_front front (branches_in read (count - i) nodes ts) ≡ total → LineFails e total
  bad_tree line.OutOfMemory front count i nodes ts after tile total lt small h so_far = tt
  bad_tree line.Wrong front count i nodes ts after tile total lt small h so_far =
      let k : count - i ≡ suc (count - (i + 1)) = omega arith in
      sym so_far ∙ ap (λ (m : ℕ). with_front front (branches_in read m nodes ts)) k ∙ tree_fault front (count - (i + 1)) nodes ts after tile words.wrong small h
  bad_tree (line.Past what) front count i nodes ts after tile total lt small h so_far =
      let k : count - i ≡ suc (count - (i + 1)) = omega arith in
      sym so_far ∙ ap (λ (m : ℕ). with_front front (branches_in read m nodes ts)) k ∙ tree_fault front (count - (i + 1)) nodes ts after tile (words.past what) small h

  pub all_grown : (front : List (ℕ × Refutation)) (count i nodes : ℕ) (ts : List (List ℕ)) (total : Result (Branches × List (List ℕ)) (words.LineFault What)) → count ≤ i → with_front front (branches_in read (count - i) nodes ts) ≡ total → total ≡ Ok (led_by front no_more, ts)
  all_grown front count i nodes ts total le so_far =
      let k : count - i ≡ 0 = omega arith in
      sym so_far ∙ ap (λ (m : ℕ). with_front front (branches_in read m nodes ts)) k

pub front_none : (r : Result (Branches × List (List ℕ)) (words.LineFault What)) → with_front [] r ≡ r
front_none (Ok b) = refl
front_none (Err e) = refl

pub led_is : (xs : List (ℕ × Refutation)) → led_by xs no_more ≡ branches_of xs
led_is [] = refl
led_is (x ∷ xs) = ap (more x.0 x.1) (led_is xs)

-- a tree, by its cell and what stands after it
tree_step : (citing : Bool) (levels nodes : ℕ) (ts : List (List ℕ)) → tree_in citing (suc levels) nodes ts ≡ (cell_left nodes ts then λ x. ending_left citing x.1 then λ y. grown (tree_in citing levels) x.0 (nodes + 1) y.1 y.0)
tree_step citing levels nodes [] = refl
tree_step citing levels nodes (cell ∷ []) = refl
tree_step citing levels nodes (cell ∷ count ∷ ts) = go (cell_in nodes cell)
  where
    behind : (c : ℕ) (s : Result Ending (words.LineFault What))
        → (s then λ e. grown (tree_in citing levels) c (nodes + 1) ts e) ≡ ((s then λ e. Ok (e, ts)) then λ (y : Ending × List (List ℕ)). grown (tree_in citing levels) c (nodes + 1) y.1 y.0)
    behind c (Ok e) = refl
    behind c (Err w) = refl

    go : (r : Result ℕ (words.LineFault What))
        → (r then λ c. ending_in (ending citing count) then λ e. grown (tree_in citing levels) c (nodes + 1) ts e) ≡ ((r then λ c. Ok (c, count ∷ ts)) then λ (x : ℕ × List (List ℕ)). ending_left citing x.1 then λ (y : Ending × List (List ℕ)). grown (tree_in citing levels) x.0 (nodes + 1) y.1 y.0)
    go (Ok c) = behind c (ending_in (ending citing count))
    go (Err w) = refl

tree_at : (citing : Bool) (levels nodes : ℕ) (ts : List (List ℕ)) → 1 ≤ levels → tree_in citing levels nodes ts ≡ (cell_left nodes ts then λ x. ending_left citing x.1 then λ y. grown (tree_in citing (levels - 1)) x.0 (nodes + 1) y.1 y.0)
tree_at citing zero nodes ts le = absurd (omega arith)
tree_at citing (suc levels) nodes ts le = let m : suc levels - 1 ≡ levels = omega arith in rw m (tree_step citing levels nodes ts)

pub tree_grown : (citing : Bool) (levels nodes c n : ℕ) (ts left after rest : List (List ℕ)) (b : Branches) → 1 ≤ levels → cell_left nodes ts ≡ Ok (c, left) → ending_left citing left ≡ Ok (children n, after)
    → branches_in (tree_in citing (levels - 1)) n (nodes + 1) after ≡ Ok (b, rest) → tree_in citing levels nodes ts ≡ Ok (branch c b, rest)
tree_grown citing levels nodes c n ts left after rest b le k e h = rw (tree_at citing levels nodes ts le, k, e, h) refl

pub tree_cites : (citing : Bool) (levels nodes c : ℕ) (axis : Axis) (ts left after : List (List ℕ)) → 1 ≤ levels → cell_left nodes ts ≡ Ok (c, left) → ending_left citing left ≡ Ok (cites axis, after) → tree_in citing levels nodes ts ≡ Ok (cite c axis, after)
tree_cites citing levels nodes c axis ts left after le k e = rw (tree_at citing levels nodes ts le, k, e) refl

cell_fails : (citing : Bool) (levels nodes : ℕ) (ts : List (List ℕ)) (e : words.LineFault What) → 1 ≤ levels → cell_left nodes ts ≡ Err e → tree_in citing levels nodes ts ≡ Err e
cell_fails citing levels nodes ts e le k = rw (tree_at citing levels nodes ts le, k) refl

ending_fails : (citing : Bool) (levels nodes c : ℕ) (ts left : List (List ℕ)) (e : words.LineFault What) → 1 ≤ levels → cell_left nodes ts ≡ Ok (c, left) → ending_left citing left ≡ Err e → tree_in citing levels nodes ts ≡ Err e
ending_fails citing levels nodes c ts left e le k h = rw (tree_at citing levels nodes ts le, k, h) refl

branches_fail : (citing : Bool) (levels nodes c n : ℕ) (ts left after : List (List ℕ)) (e : words.LineFault What) → 1 ≤ levels → cell_left nodes ts ≡ Ok (c, left) → ending_left citing left ≡ Ok (children n, after)
    → branches_in (tree_in citing (levels - 1)) n (nodes + 1) after ≡ Err e → tree_in citing levels nodes ts ≡ Err e
branches_fail citing levels nodes c n ts left after e le k p h = rw (tree_at citing levels nodes ts le, k, p, h) refl

pub bad_cell : (e : LineFault) (citing : Bool) (levels nodes : ℕ) (ts : List (List ℕ)) → 1 ≤ levels → LineFails e (cell_left nodes ts) → LineFails e (tree_in citing levels nodes ts)
bad_cell line.OutOfMemory citing levels nodes ts le k = tt
bad_cell line.Wrong citing levels nodes ts le k = cell_fails citing levels nodes ts words.wrong le k
bad_cell (line.Past what) citing levels nodes ts le k = cell_fails citing levels nodes ts (words.past what) le k

pub bad_ending : (e : LineFault) (citing : Bool) (levels nodes c : ℕ) (ts left : List (List ℕ)) → 1 ≤ levels → cell_left nodes ts ≡ Ok (c, left) → LineFails e (ending_left citing left) → LineFails e (tree_in citing levels nodes ts)
bad_ending line.OutOfMemory citing levels nodes c ts left le k h = tt
bad_ending line.Wrong citing levels nodes c ts left le k h = ending_fails citing levels nodes c ts left words.wrong le k h
bad_ending (line.Past what) citing levels nodes c ts left le k h = ending_fails citing levels nodes c ts left (words.past what) le k h

pub bad_branches : (e : LineFault) (citing : Bool) (levels nodes c n : ℕ) (ts left after : List (List ℕ)) → 1 ≤ levels → cell_left nodes ts ≡ Ok (c, left) → ending_left citing left ≡ Ok (children n, after)
    → LineFails e (branches_in (tree_in citing (levels - 1)) n (nodes + 1) after) → LineFails e (tree_in citing levels nodes ts)
bad_branches line.OutOfMemory citing levels nodes c n ts left after le k p h = tt
bad_branches line.Wrong citing levels nodes c n ts left after le k p h = branches_fail citing levels nodes c n ts left after words.wrong le k p h
bad_branches (line.Past what) citing levels nodes c n ts left after le k p h = branches_fail citing levels nodes c n ts left after (words.past what) le k p h
