-- The blocks of lines, one line at a time.
use Rattle.std.proofs.Common.{arith, ◌≡◌, ◌≤◌, ◌<◌, ◌+◌, ◌-◌, ℕ, zero, suc, List, [], ◌∷◌, ◌++◌, length, Bool, true, false, ◌&&◌, nat_lt, refl, sym, ◌∙◌, ap, subst}
use Rattle.std.proofs.lemmas.List.{append_assoc}
use Rattle.std.proofs.lemmas.Bool.Decides.{nat_tests}
use Rattle.wt_step.specs.declared.blocks.Block.{Block}
use Rattle.wt_step.specs.Blocks.{blocks_in}

pub blocks_inside : (pairs : ℕ → Bool) (i end : ℕ) → i < end → blocks_in pairs true i (end - i) ≡ blocks_in pairs false (i + 1) (end - (i + 1))
blocks_inside pairs i end lt = go (end - (i + 1)) (omega arith)
  where
    go : (n : ℕ) → end - i ≡ suc n → blocks_in pairs true i (end - i) ≡ blocks_in pairs false (i + 1) (end - (i + 1))
    go n e = let f : end - (i + 1) ≡ n = omega arith in rw (e, f) refl

pub blocks_begin : (pairs : ℕ → Bool) (i end : ℕ) → i < end
    → blocks_in pairs false i (end - i) ≡ record { line = i; double = nat_lt 1 (end - i) && pairs i } ∷ blocks_in pairs (nat_lt 1 (end - i) && pairs i) (i + 1) (end - (i + 1))
blocks_begin pairs i end lt = go (end - (i + 1)) (omega arith)
  where
    go : (n : ℕ) → end - i ≡ suc n
        → blocks_in pairs false i (end - i) ≡ record { line = i; double = nat_lt 1 (end - i) && pairs i } ∷ blocks_in pairs (nat_lt 1 (end - i) && pairs i) (i + 1) (end - (i + 1))
    go zero e = let f : end - (i + 1) ≡ 0 = omega arith in let d : nat_lt 1 (suc zero) ≡ false = grind (arith, nat_tests) in rw (e, f, d) refl
    go (suc n) e = let f : end - (i + 1) ≡ suc n = omega arith in let d : nat_lt 1 (suc (suc n)) ≡ true = grind (arith, nat_tests) in rw (e, f, d) refl

pub length-blocks : (pairs : ℕ → Bool) (inside : Bool) (i n : ℕ) → length (blocks_in pairs inside i n) ≤ n
length-blocks pairs inside i zero = omega arith
length-blocks pairs true i (suc n) = let r = length-blocks pairs false (i + 1) n in omega arith
length-blocks pairs false i (suc zero) = omega arith
length-blocks pairs false i (suc (suc n)) = let r = length-blocks pairs (pairs i) (i + 1) (suc n) in omega arith

module _ (pairs : ℕ → Bool) (xs whole : List Block) (i end : ℕ) (lt : i < end) where
  -- the second line of a block adds none
  pub step_inside : (b : Bool) → b ≡ true → xs ++ blocks_in pairs b i (end - i) ≡ whole → xs ++ blocks_in pairs false (i + 1) (end - (i + 1)) ≡ whole
  step_inside b e h = ap (λ (ys : List Block). xs ++ ys) (sym (blocks_inside pairs i end lt)) ∙ (ap (λ (b : Bool). xs ++ blocks_in pairs b i (end - i)) (sym e) ∙ h)

  -- and any other line begins one
  pub step_begin : (b d : Bool) → b ≡ false → d ≡ (nat_lt 1 (end - i) && pairs i) → xs ++ blocks_in pairs b i (end - i) ≡ whole
      → (xs ++ (record { line = i; double = d } ∷ [])) ++ blocks_in pairs d (i + 1) (end - (i + 1)) ≡ whole
  step_begin b d e f h =
      let D = nat_lt 1 (end - i) && pairs i in
      let P : Bool → Type 0 = λ d. (xs ++ (record { line = i; double = d } ∷ [])) ++ blocks_in pairs d (i + 1) (end - (i + 1)) ≡ whole in
      subst P (sym f) (append_assoc xs (record { line = i; double = D } ∷ []) (blocks_in pairs D (i + 1) (end - (i + 1)))
      ∙ (ap (λ (ys : List Block). xs ++ ys) (sym (blocks_begin pairs i end lt)) ∙ (ap (λ (b : Bool). xs ++ blocks_in pairs b i (end - i)) (sym e) ∙ h)))

-- The same for their number.
module _ (pairs : ℕ → Bool) (n whole i end : ℕ) (lt : i < end) where
  pub count_inside : (b : Bool) → b ≡ true → n + length (blocks_in pairs b i (end - i)) ≡ whole → n + length (blocks_in pairs false (i + 1) (end - (i + 1))) ≡ whole
  count_inside b e h = ap (λ (ys : List Block). n + length ys) (sym (blocks_inside pairs i end lt)) ∙ (ap (λ (b : Bool). n + length (blocks_in pairs b i (end - i))) (sym e) ∙ h)

  pub count_begin : (b d : Bool) → b ≡ false → d ≡ (nat_lt 1 (end - i) && pairs i) → n + length (blocks_in pairs b i (end - i)) ≡ whole → (n + 1) + length (blocks_in pairs d (i + 1) (end - (i + 1))) ≡ whole
  count_begin b d e f h =
      let D = nat_lt 1 (end - i) && pairs i in
      let l : length (blocks_in pairs false i (end - i)) ≡ suc (length (blocks_in pairs D (i + 1) (end - (i + 1)))) = ap length (blocks_begin pairs i end lt) in
      let k : n + length (blocks_in pairs false i (end - i)) ≡ whole = ap (λ (b : Bool). n + length (blocks_in pairs b i (end - i))) (sym e) ∙ h in
      subst (λ (x : Bool). (n + 1) + length (blocks_in pairs x (i + 1) (end - (i + 1))) ≡ whole) (sym f) (omega arith)

  pub count_room : (b : Bool) → b ≡ false → n + length (blocks_in pairs b i (end - i)) ≡ whole → n + 1 ≤ whole
  count_room b e h = let k = count_begin b (nat_lt 1 (end - i) && pairs i) e refl h in omega arith
