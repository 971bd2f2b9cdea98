-- The lines of a core are the cut core between the border lines that are cut.
use Rattle.std.proofs.Common.{arith, ◌≡◌, ◌≤◌, ◌+◌, ◌-◌, ◌++◌, ℕ, suc, List, [], ◌∷◌, Bool, true, false, not, nat_le, refl, sym, ◌∙◌, ap, subst}
use Rattle.std.proofs.lemmas.Bool.{and_parts}
use Rattle.wt_grid.specs.declared.axis.Side.{Side}
use Rattle.std.proofs.lemmas.List.{append-nil}
use Rattle.std.proofs.lemmas.Bool.Decides.{nat_tests}
use Rattle.wt_grid.specs.Grid.{Grid, along, across, at, listed, lines}
use Rattle.wt_grid.specs.Lines.{is_marker_line}
use Rattle.wt_grid.specs.Cuts.{cut}
use Rattle.wt_grid.specs.Parts.{core}
use Rattle.wt_step.specs.declared.raw.RawStep.{RawStep}
use Rattle.wt_step.specs.declared.raw.RawLink.TheVariants.{Marker}
use Rattle.wt_step.specs.Words.{is_marker, ends_block}
use Rattle.wt_step.specs.Blocks.{one_if}
use Rattle.wt_step.specs.Meaning.{cut_core}
use Rattle.wt_step.specs.Coarse.{has_margin, is_marked, cuts_low, cuts_high, core_line, cut_line}
use Rattle.wt_step.proofs.Listed.{listed_last}
use Rattle.wt_step.proofs.CutListed.{behind, same_count, cut_listed}

with_last : (n : ℕ) (f : ℕ → List ℕ) (b : Bool) → listed (suc n) f ≡ listed (suc n - one_if b) f ++ cut_line b (f n)
with_last n f true = listed_last n f ∙ ap (λ (ls : List (List ℕ)). ls ++ (f n ∷ [])) (same_count n (suc n - 1) f (omega arith))
with_last n f false = same_count (suc n) (suc n - 0) f (omega arith) ∙ sym (append-nil (listed (suc n - 0) f))

-- what is left between the first and the last line
with_both : (n : ℕ) (f : ℕ → List ℕ) (a b : Bool) → listed (suc (suc n)) f ≡ cut_line a (f 0) ++ (listed (suc (suc n) - (one_if a + one_if b)) (behind a f) ++ cut_line b (f (suc n)))
with_both n f true b =
    ap (λ (ls : List (List ℕ)). f 0 ∷ ls) (with_last n (λ k. f (suc k)) b
    ∙ ap (λ (ls : List (List ℕ)). ls ++ cut_line b (f (suc n))) (same_count (suc n - one_if b) (suc (suc n) - (1 + one_if b)) (λ k. f (suc k)) (omega arith)))
with_both n f false b =
    with_last (suc n) f b
    ∙ ap (λ (ls : List (List ℕ)). ls ++ cut_line b (f (suc n))) (same_count (suc (suc n) - one_if b) (suc (suc n) - (0 + one_if b)) f (omega arith))

module _ (side : Side) (marker : ℕ → Bool) (f : ℕ → List ℕ) where
  same_flags : (n : ℕ) (a a' b b' : Bool) → a ≡ a' → b ≡ b' → listed (suc (suc n) - (one_if a + one_if b)) (behind a f) ≡ listed (suc (suc n) - (one_if a' + one_if b')) (behind a' f)
  same_flags n a a' b b' e h = rw (e, h) refl

  cut_between : (n : ℕ) (a b : Bool) → ends_block side (is_marker_line marker (f 0)) ≡ a → not (ends_block side (is_marker_line marker (f (suc n)))) ≡ b
      → listed (suc (suc n)) f ≡ cut_line a (f 0) ++ (cut side marker (listed (suc (suc n)) f) ++ cut_line b (f (suc n)))
  cut_between n a b e h =
      with_both n f a b
      ∙ ap (λ (ls : List (List ℕ)). cut_line a (f 0) ++ (ls ++ cut_line b (f (suc n))))
      (sym (cut_listed marker side n f ∙ same_flags n (ends_block side (is_marker_line marker (f 0))) a (not (ends_block side (is_marker_line marker (f (suc n))))) b e h))

  pub borders : (n : ℕ) (a b : Bool) → 2 ≤ n → ends_block side (is_marker_line marker (f 0)) ≡ a → not (ends_block side (is_marker_line marker (f (n - 1)))) ≡ b
      → listed n f ≡ cut_line a (f 0) ++ (cut side marker (listed n f) ++ cut_line b (f (n - 1)))
  borders n a b le e h =
      let size : suc (suc (n - 2)) ≡ n = omega arith in
      let last : suc (n - 2) ≡ n - 1 = omega arith in
      let r = cut_between (n - 2) a b e (ap (λ (k : ℕ). not (ends_block side (is_marker_line marker (f k)))) last ∙ h) in
      subst (λ (k : ℕ). listed k f ≡ cut_line a (f 0) ++ (cut side marker (listed k f) ++ cut_line b (f (n - 1)))) size
      (r ∙ ap (λ (k : ℕ). cut_line a (f 0) ++ (cut side marker (listed (suc (suc (n - 2))) f) ++ cut_line b (f k))) last)

module _ (s : RawStep) (p : Grid) where
  first_cell : (i : ℕ) → 1 ≤ across s.axis (core s.radius p) → is_marker_line (is_marker s) (core_line s p i) ≡ is_marked s p i
  first_cell i le =
      let e : across s.axis (core s.radius p) ≡ suc (across s.axis (core s.radius p) - 1) = omega arith in
      ap (λ (k : ℕ). is_marker_line (is_marker s) (listed k (λ j. at s.axis (core s.radius p) i j))) e

  pub border_lines : has_margin (Marker s) p ≡ true
      → lines s.axis (core s.radius p)
      ≡ cut_line (cuts_low (Marker s) p) (core_line s p 0) ++ (cut_core s p ++ cut_line (cuts_high (Marker s) p) (core_line s p (along s.axis (core s.radius p) - 1)))
  border_lines h =
      let n = along s.axis (core s.radius p) in
      let t = and_parts (nat_le 3 n) (nat_le 1 (across s.axis (core s.radius p))) h in
      let l : 3 ≤ n = grind (arith, nat_tests, t.0) in
      let w : 1 ≤ across s.axis (core s.radius p) = grind (arith, nat_tests, t.1) in
      borders s.side (is_marker s) (core_line s p) n (cuts_low (Marker s) p) (cuts_high (Marker s) p) (omega arith)
      (ap (ends_block s.side) (first_cell 0 w)) (ap (λ (t : Bool). not (ends_block s.side t)) (first_cell (n - 1) w))
