-- The coarse rectangle that is read from the blocks of a pattern is the one of the law.
use Rattle.std.proofs.Common.{arith, ◌≡◌, ◌≤◌, ◌<◌, ◌+◌, ◌-◌, ◌&&◌, ℕ, zero, suc, List, [], ◌∷◌, length, get_or, Bool, true, false, not, nat_lt, refl, sym, ◌∙◌, ap, subst}
use Rattle.wt_grid.specs.declared.axis.Axis.TheVariants.{One, Two}
use Rattle.wt_grid.specs.declared.axis.Axis.{Axis}
use Rattle.std.proofs.lemmas.Bool.Decides.{nat_tests}
use Rattle.wt_grid.specs.Lines.{IsImage, AllLong, is_marker_line}
use Rattle.wt_grid.specs.Cuts.{cut}
use Rattle.wt_grid.specs.Grid.{Grid, IsGrid, along, across, at, listed, lines, grid_of}
use Rattle.wt_grid.specs.Parts.{core}
use Rattle.wt_grid.proofs.Parts.{at_core, along_core, across_core, grid_grid}
use Rattle.wt_grid.proofs.Bridge.{get_or-listed, cell_of}
use Rattle.wt_grid.proofs.Law.{cut_long}
use Rattle.wt_grid.proofs.Grids.{length_lines, long_lines, long_coarse, listed_same}
use Rattle.wt_grid.proofs.Rectangles.{same_cells, wide_along, line_cell}
use Rattle.wt_pattern.specs.Patterns.{IsPattern}
use Rattle.wt_step.specs.declared.raw.RawStep.{RawStep}
use Rattle.wt_step.specs.declared.blocks.Block.{Block}
use Rattle.wt_step.specs.Words.{is_marker, ends_block}
use Rattle.wt_step.specs.Good.{IsGoodStep}
use Rattle.wt_step.specs.Meaning.{pieces, IsMarkerDesubstitution}
use Rattle.wt_step.specs.Coarse.{is_marked}
use Rattle.wt_step.specs.Blocks.{core_at, marks_in_code, pairs_at, blocks_in, block_tile, block_at, coarse_at, coarse_grid, one_if, ends_at, IsIndexed}
use Rattle.wt_step.proofs.Desubstitution.{some_coarse}
use Rattle.wt_step.proofs.CutListed.{behind, cut_listed}
use Rattle.wt_step.proofs.Readings.{Reads, reads, length-reads, tiles}

one_length : (a b : ℕ) (ls : List (List ℕ)) → 1 ≤ length ls → AllLong a ls → AllLong b ls → a ≡ b
one_length a b [] le h k = absurd (omega arith)
one_length a b (u ∷ ls) le h k = sym h.0 ∙ k.0

from_behind : (b : Bool) (f : ℕ → List ℕ) (k : ℕ) → behind b f k ≡ f (one_if b + k)
from_behind true f k = let e : suc k ≡ 1 + k = omega arith in ap f e
from_behind false f k = let e : k ≡ 0 + k = omega arith in ap f e

module _ (s : RawStep) (p : Grid) (ones twos : List ℕ) (bs : List Block) (m : ℕ) (some : 1 ≤ m) (lines_some : 1 ≤ length bs) where
  same_grid : (axis : Axis) (q : Grid) → IsGrid q → along axis q ≡ length bs → across axis q ≡ m
      → ((i j : ℕ) → i < length bs → j < m → at axis q i j ≡ block_tile s p ones twos (block_at bs i) j) → coarse_grid s p ones twos bs axis m ≡ q
  same_grid One q iq w h e =
      same_cells (grid_of (length bs) m (coarse_at s p ones twos bs One)) q (grid_grid (length bs) m (coarse_at s p ones twos bs One) lines_some some) iq (sym w) (sym h)
      (λ x y lx ly. cell_of (length bs) m x y (coarse_at s p ones twos bs One) lx ly ∙ sym (e x y lx ly))
  same_grid Two q iq w h e =
      same_cells (grid_of m (length bs) (coarse_at s p ones twos bs Two)) q (grid_grid m (length bs) (coarse_at s p ones twos bs Two) some lines_some) iq (sym h) (sym w)
      (λ x y lx ly. cell_of m (length bs) x y (coarse_at s p ones twos bs Two) lx ly ∙ sym (e y x ly lx))

module _ (s : RawStep) (g : IsGoodStep s) (p : Grid) where
  -- a cell of the core
  core_cell : (i j : ℕ) → i < along s.axis (core s.radius p) → j < across s.axis (core s.radius p) → at s.axis (core s.radius p) i j ≡ core_at s p i j
  core_cell i j li lj =
      let x = along_core s.axis s.radius p in
      let y = across_core s.axis s.radius p in
      let tx : nat_lt (s.radius + i) (along s.axis p) ≡ true = (let lt : s.radius + i < along s.axis p = omega arith in grind (arith, nat_tests, lt)) in
      let ty : nat_lt (s.radius + j) (across s.axis p) ≡ true = (let lt : s.radius + j < across s.axis p = omega arith in grind (arith, nat_tests, lt)) in
      at_core s.axis s.radius p i j li lj ∙ sym (rw (tx, ty) refl)

  abbrev low : Bool
  low = ends_block s.side (marks_in_code s p 0)

  abbrev high : Bool
  high = not (ends_block s.side (marks_in_code s p (along s.axis (core s.radius p) - 1)))

  module _ (h : IsPattern s.fine.tiles p) (la : 3 ≤ along s.axis (core s.radius p)) (m : ℕ) (em : across s.axis (core s.radius p) ≡ suc m) where
    abbrev n : ℕ
    n = along s.axis (core s.radius p)

    abbrev F : ℕ → List ℕ
    F i = listed (across s.axis (core s.radius p)) (λ j. at s.axis (core s.radius p) i j)

    line_same : (i : ℕ) → i < n → F i ≡ listed (suc m) (core_at s p i)
    line_same i lt =
        listed_same (across s.axis (core s.radius p)) (λ j. at s.axis (core s.radius p) i j) (core_at s p i) (λ j lj. core_cell i j lt lj)
        ∙ ap (λ (k : ℕ). listed k (core_at s p i)) em

    flag_same : (i : ℕ) → i < n → is_marker_line (is_marker s) (F i) ≡ marks_in_code s p i
    flag_same i lt = ap (is_marker_line (is_marker s)) (line_same i lt)

    same_cut : (c c' : ℕ) (a a' b b' : Bool) → c ≡ c' → a ≡ a' → b ≡ b'
        → listed (c - (one_if (ends_block s.side a) + one_if (not (ends_block s.side b)))) (behind (ends_block s.side a) F)
        ≡ listed (c' - (one_if (ends_block s.side a') + one_if (not (ends_block s.side b')))) (behind (ends_block s.side a') F)
    same_cut c c' a a' b b' ec ea eb = rw (ec, ea, eb) refl

    cut_is : cut s.side (is_marker s) (lines s.axis (core s.radius p)) ≡ listed (n - (one_if low + one_if high)) (behind low F)
    cut_is =
        let e : n ≡ suc (suc (n - 2)) = omega arith in
        let last : suc (n - 2) ≡ n - 1 = omega arith in
        ap (λ (c : ℕ). cut s.side (is_marker s) (listed c F)) e
        ∙ (cut_listed (is_marker s) s.side (n - 2) F
        ∙ same_cut (suc (suc (n - 2))) n (is_marker_line (is_marker s) (F 0)) (marks_in_code s p 0) (is_marker_line (is_marker s) (F (suc (n - 2)))) (marks_in_code s p (n - 1))
        (sym e) (flag_same 0 (omega arith)) (flag_same (suc (n - 2)) (omega arith) ∙ ap (marks_in_code s p) last))

    pub the_reads : (qs : List (List ℕ)) → IsImage (pieces s) qs (cut s.side (is_marker s) (lines s.axis (core s.radius p)))
        → Reads (pieces s) (λ i. listed (suc m) (core_at s p i)) (blocks_in (pairs_at s p) false (one_if low) (n - (one_if low + one_if high))) qs
    the_reads qs i =
        reads s g (λ i. core_at s p i 0) (λ i. listed m (λ j. core_at s p i (suc j))) (n - (one_if low + one_if high)) (one_if low) (behind low F)
        (λ k lt. from_behind low F k ∙ line_same (one_if low + k) (omega arith)) qs (subst (λ (ls : List (List ℕ)). IsImage (pieces s) qs ls) cut_is i)

    module _ (bs : List Block) (eb : bs ≡ blocks_in (pairs_at s p) false (one_if low) (n - (one_if low + one_if high))) (ones twos : List ℕ)
        (index : IsIndexed s.images (length s.fine.tiles) (length s.images) ones twos) where
      law : (q : Grid) × IsMarkerDesubstitution s p q × IsPattern s.coarse.tiles q
      law = some_coarse s g p h la (omega arith)

      read : (q : Grid) → IsMarkerDesubstitution s p q → Reads (pieces s) (λ i. listed (suc m) (core_at s p i)) bs (lines s.axis q)
      read q i = subst (λ (cs : List Block). Reads (pieces s) (λ i. listed (suc m) (core_at s p i)) cs (lines s.axis q)) (sym eb) (the_reads (lines s.axis q) i)

      as_long : (q : Grid) → IsMarkerDesubstitution s p q → along s.axis q ≡ length bs
      as_long q i = sym (length-reads (pieces s) (λ i. listed (suc m) (core_at s p i)) bs (lines s.axis q) (read q i) ∙ length_lines s.axis q)

      as_wide : (q : Grid) → IsGrid q → IsMarkerDesubstitution s p q → across s.axis q ≡ suc m
      as_wide q iq i =
          let long = cut_long s.side (across s.axis (core s.radius p)) (is_marker s) (lines s.axis (core s.radius p)) (long_lines s.axis (core s.radius p)) in
          let k = long_coarse (pieces s) (across s.axis (core s.radius p)) (lines s.axis q) (cut s.side (is_marker s) (lines s.axis (core s.radius p))) i long in
          let some = wide_along s.axis q iq in
          let size = length_lines s.axis q in
          one_length (across s.axis q) (across s.axis (core s.radius p)) (lines s.axis q) (omega arith) (long_lines s.axis q) k ∙ em

      pub some_blocks : 1 ≤ length bs
      some_blocks = let q = law in let pat : IsPattern s.coarse.tiles q.0 = q.2 in let e = as_long q.0 q.1 in let w = wide_along s.axis q.0 pat.0 in omega arith

      -- the rectangle of the blocks is the coarse one of the law
      pub parsed : IsMarkerDesubstitution s p (coarse_grid s p ones twos bs s.axis (suc m)) × IsPattern s.coarse.tiles (coarse_grid s p ones twos bs s.axis (suc m))
      parsed =
          let q = law in
          let pat : IsPattern s.coarse.tiles q.0 = q.2 in
          let iq : IsGrid q.0 = pat.0 in
          let l = as_long q.0 q.1 in
          let w = as_wide q.0 iq q.1 in
          let same : coarse_grid s p ones twos bs s.axis (suc m) ≡ q.0 = same_grid s p ones twos bs (suc m) (omega arith) some_blocks s.axis q.0 iq l w
          (λ i j li lj. sym (line_cell s.axis q.0 i j (omega arith) (omega arith)) ∙ tiles s g p (suc m) ones twos index bs (lines s.axis q.0) (read q.0 q.1) i j li lj) in
          subst (λ (r : Grid). IsMarkerDesubstitution s p r × IsPattern s.coarse.tiles r) (sym same) (q.1, pat)

module _ (s : RawStep) (g : IsGoodStep s) (p : Grid) (h : IsPattern s.fine.tiles p) (la : 3 ≤ along s.axis (core s.radius p)) (bs : List Block) where
  pub some_blocks_of : (k : ℕ) → across s.axis (core s.radius p) ≡ k → 1 ≤ k
      → bs ≡ blocks_in (pairs_at s p) false (one_if (low s g p)) (along s.axis (core s.radius p) - (one_if (low s g p) + one_if (high s g p)))
      → (ones twos : List ℕ) → IsIndexed s.images (length s.fine.tiles) (length s.images) ones twos → 1 ≤ length bs
  some_blocks_of zero e le eb ones twos index = absurd (omega arith)
  some_blocks_of (suc m) e le eb ones twos index = some_blocks s g p h la m e bs eb ones twos index

  pub parsed_of : (k : ℕ) → across s.axis (core s.radius p) ≡ k → 1 ≤ k
      → bs ≡ blocks_in (pairs_at s p) false (one_if (low s g p)) (along s.axis (core s.radius p) - (one_if (low s g p) + one_if (high s g p)))
      → (ones twos : List ℕ) → IsIndexed s.images (length s.fine.tiles) (length s.images) ones twos
      → IsMarkerDesubstitution s p (coarse_grid s p ones twos bs s.axis k) × IsPattern s.coarse.tiles (coarse_grid s p ones twos bs s.axis k)
  parsed_of zero e le eb ones twos index = absurd (omega arith)
  parsed_of (suc m) e le eb ones twos index = parsed s g p h la m e bs eb ones twos index

-- whether a line of the core is one of markers
pub marked_same : (s : RawStep) (g : IsGoodStep s) (p : Grid) (i : ℕ) → i < along s.axis (core s.radius p) → 1 ≤ across s.axis (core s.radius p) → marks_in_code s p i ≡ is_marked s p i
marked_same s g p i li lj = ap (is_marker s) (sym (core_cell s g p i 0 li (omega arith)))

-- what the code makes of its blocks
pub taken : (s : RawStep) (g : IsGoodStep s) (p : Grid) → IsPattern s.fine.tiles p → 3 ≤ along s.axis (core s.radius p)
    → (k : ℕ) → across s.axis (core s.radius p) ≡ k → 1 ≤ k → (bs : List Block) (lo hi : Bool)
    → lo ≡ ends_at s p 0 → hi ≡ not (ends_at s p (along s.axis (core s.radius p) - 1))
    → bs ≡ blocks_in (pairs_at s p) false (one_if lo) (along s.axis (core s.radius p) - (one_if lo + one_if hi))
    → (ones twos : List ℕ) → IsIndexed s.images (length s.fine.tiles) (length s.images) ones twos → (q : Grid) → q ≡ coarse_grid s p ones twos bs s.axis k
    → IsMarkerDesubstitution s p q × IsPattern s.coarse.tiles q
taken s g p h la k ek lk bs lo hi el eh eb ones twos index q eq =
    let r = parsed_of s g p h la bs k ek lk (rw (el, eh) at eb) ones twos index in
    subst (λ (q : Grid). IsMarkerDesubstitution s p q × IsPattern s.coarse.tiles q) (sym eq) r
