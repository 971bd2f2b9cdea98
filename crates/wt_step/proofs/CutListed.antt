-- The cut lines of a rectangle, by the first and the last line.
use Rattle.std.proofs.Common.{arith, ◌≡◌, ◌+◌, ◌-◌, ℕ, suc, List, [], ◌∷◌, ◌++◌, Bool, true, false, not, if◌then◌else◌, refl, sym, ◌∙◌, ap}
use Rattle.wt_grid.specs.declared.axis.Side.TheVariants.{After, Before}
use Rattle.wt_grid.specs.declared.axis.Side.{Side}
use Rattle.wt_grid.specs.Grid.{listed}
use Rattle.wt_grid.specs.Lines.{is_marker_line, cut_end}
use Rattle.wt_grid.specs.Cuts.{backwards, cut_front, cut_lines, cut}
use Rattle.wt_grid.proofs.Backwards.{backwards_append, backwards_twice}
use Rattle.wt_step.specs.Blocks.{one_if}
use Rattle.wt_step.proofs.Listed.{listed_last}
use Rattle.wt_step.specs.Words.{ends_block}

-- the lines behind the first, where that is cut
abbrev pub behind : {A : Type 0} → Bool → (ℕ → A) → ℕ → A
behind true f k = f (suc k)
behind false f k = f k

pub same_count : {A : Type 0} (n m : ℕ) (f : ℕ → A) → n ≡ m → listed n f ≡ listed m f
same_count n m f e = ap (λ (k : ℕ). listed k f) e

module _ (marker : ℕ → Bool) where
  end_last : (us : List (List ℕ)) (x : List ℕ) → cut_end marker (us ++ (x ∷ [])) ≡ (if is_marker_line marker x then us ++ (x ∷ []) else us)
  end_last [] x = refl
  end_last (u ∷ []) x = go (is_marker_line marker x) refl
    where
      go : (b : Bool) → is_marker_line marker x ≡ b → cut_end marker (u ∷ x ∷ []) ≡ (if is_marker_line marker x then u ∷ x ∷ [] else u ∷ [])
      go true e = rw e refl
      go false e = rw e refl
  end_last (u ∷ v ∷ us) x = go (is_marker_line marker x) refl (end_last (v ∷ us) x)
    where
      go : (b : Bool) → is_marker_line marker x ≡ b → cut_end marker (v ∷ us ++ (x ∷ [])) ≡ (if is_marker_line marker x then v ∷ us ++ (x ∷ []) else v ∷ us)
          → cut_end marker (u ∷ v ∷ us ++ (x ∷ [])) ≡ (if is_marker_line marker x then u ∷ v ∷ us ++ (x ∷ []) else u ∷ v ∷ us)
      go true e h = let h' = rw e at h in rw e (ap (λ (l : List (List ℕ)). u ∷ l) h')
      go false e h = let h' = rw e at h in rw e (ap (λ (l : List (List ℕ)). u ∷ l) h')

  -- without a last line that is no marker line
  end_listed : (n : ℕ) (f : ℕ → List ℕ) (b : Bool) → is_marker_line marker (f n) ≡ b → cut_end marker (listed (suc n) f) ≡ listed (suc n - one_if (not b)) f
  end_listed n f true e =
      let h : cut_end marker (listed n f ++ (f n ∷ [])) ≡ listed n f ++ (f n ∷ []) = end_last (listed n f) (f n) ∙ rw e refl in
      ap (cut_end marker) (listed_last n f) ∙ (h ∙ (sym (listed_last n f) ∙ same_count (suc n) (suc n - 0) f (omega arith)))
  end_listed n f false e =
      let h : cut_end marker (listed n f ++ (f n ∷ [])) ≡ listed n f = end_last (listed n f) (f n) ∙ rw e refl in
      ap (cut_end marker) (listed_last n f) ∙ (h ∙ same_count n (suc n - 1) f (omega arith))

  after_cut : (n : ℕ) (f : ℕ → List ℕ) (a b : Bool) → is_marker_line marker (f 0) ≡ a → is_marker_line marker (f (suc n)) ≡ b
      → cut_lines marker (listed (suc (suc n)) f) ≡ listed (suc (suc n) - (one_if a + one_if (not b))) (behind a f)
  after_cut n f true b e h =
      rw e (end_listed n (λ k. f (suc k)) b h ∙ same_count (suc n - one_if (not b)) (suc (suc n) - (1 + one_if (not b))) (λ k. f (suc k)) (omega arith))
  after_cut n f false b e h =
      rw e (end_listed (suc n) f b h ∙ same_count (suc (suc n) - one_if (not b)) (suc (suc n) - (0 + one_if (not b))) f (omega arith))

  -- the lines backwards, without a last one that is a marker line
  front_backwards : (n : ℕ) (f : ℕ → List ℕ) (b : Bool) → is_marker_line marker (f (suc n)) ≡ b
      → cut_front marker (backwards (listed (suc (suc n)) f)) ≡ backwards (listed (suc (suc n) - one_if b) f)
  front_backwards n f b e =
      let l : backwards (listed (suc (suc n)) f) ≡ f (suc n) ∷ backwards (listed (suc n) f) = ap backwards (listed_last (suc n) f) ∙ backwards_append (listed (suc n) f) (f (suc n) ∷ []) in
      ap (cut_front marker) l ∙ go b e l
    where
      go : (b : Bool) → is_marker_line marker (f (suc n)) ≡ b → backwards (listed (suc (suc n)) f) ≡ f (suc n) ∷ backwards (listed (suc n) f)
          → cut_front marker (f (suc n) ∷ backwards (listed (suc n) f)) ≡ backwards (listed (suc (suc n) - one_if b) f)
      go true e l = rw e (ap backwards (same_count (suc n) (suc (suc n) - 1) f (omega arith)))
      go false e l = rw e (sym l ∙ ap backwards (same_count (suc (suc n)) (suc (suc n) - 0) f (omega arith)))

  -- without a first line that is no marker line
  end_backwards : (n : ℕ) (f : ℕ → List ℕ) (a : Bool) → is_marker_line marker (f 0) ≡ a
      → backwards (cut_end marker (backwards (listed (suc n) f))) ≡ listed (suc n - one_if (not a)) (behind (not a) f)
  end_backwards n f true e =
      let h : cut_end marker (backwards (listed (suc n) f)) ≡ backwards (listed (suc n) f) = end_last (backwards (listed n (λ k. f (suc k)))) (f 0) ∙ rw e refl in
      ap backwards h ∙ (backwards_twice (listed (suc n) f) ∙ same_count (suc n) (suc n - 0) f (omega arith))
  end_backwards n f false e =
      let h : cut_end marker (backwards (listed (suc n) f)) ≡ backwards (listed n (λ k. f (suc k))) = end_last (backwards (listed n (λ k. f (suc k)))) (f 0) ∙ rw e refl in
      ap backwards h ∙ (backwards_twice (listed n (λ k. f (suc k))) ∙ same_count n (suc n - 1) (λ k. f (suc k)) (omega arith))

  before_cut : (n : ℕ) (f : ℕ → List ℕ) (a b : Bool) → is_marker_line marker (f 0) ≡ a → is_marker_line marker (f (suc n)) ≡ b
      → backwards (cut_lines marker (backwards (listed (suc (suc n)) f))) ≡ listed (suc (suc n) - (one_if (not a) + one_if b)) (behind (not a) f)
  before_cut n f a b e h = go b h
    where
      go : (b : Bool) → is_marker_line marker (f (suc n)) ≡ b → backwards (cut_lines marker (backwards (listed (suc (suc n)) f))) ≡ listed (suc (suc n) - (one_if (not a) + one_if b)) (behind (not a) f)
      go true h =
          ap (λ (l : List (List ℕ)). backwards (cut_end marker l)) (front_backwards n f true h ∙ ap backwards (same_count (suc (suc n) - 1) (suc n) f (omega arith)))
          ∙ (end_backwards n f a e ∙ same_count (suc n - one_if (not a)) (suc (suc n) - (one_if (not a) + 1)) (behind (not a) f) (omega arith))
      go false h =
          ap (λ (l : List (List ℕ)). backwards (cut_end marker l)) (front_backwards n f false h ∙ ap backwards (same_count (suc (suc n) - 0) (suc (suc n)) f (omega arith)))
          ∙ (end_backwards (suc n) f a e ∙ same_count (suc (suc n) - one_if (not a)) (suc (suc n) - (one_if (not a) + 0)) (behind (not a) f) (omega arith))

  -- what is cut of n + 2 lines
  pub cut_listed : (side : Side) (n : ℕ) (f : ℕ → List ℕ)
      → cut side marker (listed (suc (suc n)) f)
      ≡ listed (suc (suc n) - (one_if (ends_block side (is_marker_line marker (f 0))) + one_if (not (ends_block side (is_marker_line marker (f (suc n))))))) (behind (ends_block side (is_marker_line marker (f 0))) f)
  cut_listed After n f = after_cut n f (is_marker_line marker (f 0)) (is_marker_line marker (f (suc n))) refl refl
  cut_listed Before n f = go (is_marker_line marker (f (suc n))) refl
    where
      go : (b : Bool) → is_marker_line marker (f (suc n)) ≡ b → backwards (cut_lines marker (backwards (listed (suc (suc n)) f)))
          ≡ listed (suc (suc n) - (one_if (not (is_marker_line marker (f 0))) + one_if (not (not b)))) (behind (not (is_marker_line marker (f 0))) f)
      go true e = before_cut n f (is_marker_line marker (f 0)) true refl e
      go false e = before_cut n f (is_marker_line marker (f 0)) false refl e
