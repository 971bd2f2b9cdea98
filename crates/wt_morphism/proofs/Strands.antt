-- The lines of an image, one more at a time.
use Rattle.std.proofs.Common.{arith, ◌≡◌, ℕ, zero, suc, ◌+◌, ◌-◌, ◌<◌, ◌≤◌, Bool, true, false, cond, List, [], ◌∷◌, length, ◌++◌, append_assoc, refl, ap, sym, ◌∙◌}
use Rattle.wt_morphism.specs.declared.laid.Strand.{Strand}
use Rattle.wt_morphism.specs.Strands.{strands}

-- one line more
pub strands_more : (two : ℕ → Bool) (i n : ℕ) → i < n
    → strands two i (n - i) ≡ (record { line = i; second = false }) ∷ cond (two i) ((record { line = i; second = true }) ∷ strands two (i + 1) (n - (i + 1))) (strands two (i + 1) (n - (i + 1)))
strands_more two i n lt = let one' : n - i ≡ suc (n - (i + 1)) = omega arith in ap (strands two i) one'

abbrev whole : Bool → ℕ → List Strand → List Strand
whole b i rest = (record { line = i; second = false }) ∷ cond b ((record { line = i; second = true }) ∷ rest) rest

-- the lines of one more line of the pattern, which stands for one or for two
module _ (two : ℕ → Bool) (i n : ℕ) (lt : i < n) (xs all : List Strand) (left : xs ++ strands two i (n - i) ≡ all) where
  abbrev rest : List Strand
  rest = strands two (i + 1) (n - (i + 1))

  unfolded : (b : Bool) → two i ≡ b → xs ++ whole b i rest ≡ all
  unfolded b e = ap (λ (k : Bool). xs ++ whole k i rest) (sym e) ∙ (ap (λ (ys : List Strand). xs ++ ys) (sym (strands_more two i n lt)) ∙ left)

  pub one_line : two i ≡ false → (xs ++ (record { line = i; second = false }) ∷ []) ++ strands two (i + 1) (n - (i + 1)) ≡ all
  one_line e = append_assoc xs ((record { line = i; second = false }) ∷ []) rest ∙ unfolded false e

  pub two_lines : two i ≡ true → ((xs ++ (record { line = i; second = false }) ∷ []) ++ (record { line = i; second = true }) ∷ []) ++ strands two (i + 1) (n - (i + 1)) ≡ all
  two_lines e =
      append_assoc (xs ++ (record { line = i; second = false }) ∷ []) ((record { line = i; second = true }) ∷ []) rest
      ∙ (append_assoc xs ((record { line = i; second = false }) ∷ []) ((record { line = i; second = true }) ∷ rest) ∙ unfolded true e)
