-- Coordinates after some turns.
use Rattle.std.proofs.Common.{arith, ◌≡◌, ℕ, zero, suc, ◌+◌, [], ◌∷◌, true, false, refl, sym, ap, ◌∙◌, inl, inr}
use Rattle.std.specs.Prelude.{pos}
use Rattle.wt_golden.specs.Whole.{Whole, whole, plus, minus, times, is_positive}
use Rattle.wt_ring.proofs.Ring.{x_, ◌⊕◌, ◌⊗◌, ⊖_, n_, solve}
use Rattle.wt_golden.proofs.WholeRing.{golden, whole_plus}
use Rattle.wt_torus.specs.Rotation.{IsInside, step, orbit}
use Rattle.wt_torus.specs.Reduced.{IsReduced}
use Rattle.wt_torus.proofs.Rotation.{flag, step_inside}

next_whole : (i : ℕ) → whole (pos (suc i)) ≡ plus (whole (pos i)) (whole (pos 1))
next_whole i = ap (λ (n : ℕ). whole (pos n)) (let e : suc i ≡ i + 1 = omega arith in e) ∙ whole_plus (pos i) (pos 1)

module _ (L M : Whole) (some : is_positive M ≡ true) (less : is_positive (minus L M) ≡ true) where
  pub reduced : (i : ℕ) (t : Whole) → IsInside L t → IsReduced L M t i
  reduced zero t inside = record { inside = inside; lengths = 0; moved = solve golden (t ∷ L ∷ M ∷ []) (x_ 0 ⊕ (x_ 1 ⊗ n_ (pos 0))) (x_ 0 ⊕ (x_ 2 ⊗ n_ (pos 0))) refl }
  reduced (suc i) t inside =
      let r = reduced i (step L M t) (step_inside L M some less t inside) in
      elim (flag (is_positive (minus L (plus t M)))) [
        | inl e ↦ record {
          inside = r.inside;
          lengths = r.lengths;
          moved = r.moved ∙ (ap (λ (s : Whole). plus s (times M (whole (pos i)))) (on t e)
              ∙ (solve golden (t ∷ M ∷ whole (pos i) ∷ []) ((x_ 0 ⊕ x_ 1) ⊕ (x_ 1 ⊗ x_ 2)) (x_ 0 ⊕ (x_ 1 ⊗ (x_ 2 ⊕ n_ (pos 1)))) refl ∙ ap (λ (n : Whole). plus t (times M n)) (sym (next_whole i))));
        }
        | inr e ↦ record {
          inside = r.inside;
          lengths = suc r.lengths;
          moved = ap (λ (n : Whole). plus (orbit L M (step L M t) i) (times L n)) (next_whole r.lengths)
              ∙ (solve golden (orbit L M (step L M t) i ∷ L ∷ whole (pos r.lengths) ∷ []) (x_ 0 ⊕ (x_ 1 ⊗ (x_ 2 ⊕ n_ (pos 1)))) ((x_ 0 ⊕ (x_ 1 ⊗ x_ 2)) ⊕ x_ 1) refl
              ∙ (ap (λ (s : Whole). plus s L) (r.moved ∙ ap (λ (s : Whole). plus s (times M (whole (pos i)))) (back t e))
              ∙ (solve golden (t ∷ M ∷ L ∷ whole (pos i) ∷ []) ((((x_ 0 ⊕ x_ 1) ⊕ ⊖_ (x_ 2)) ⊕ (x_ 1 ⊗ x_ 3)) ⊕ x_ 2) (x_ 0 ⊕ (x_ 1 ⊗ (x_ 3 ⊕ n_ (pos 1)))) refl ∙ ap (λ (n : Whole). plus t (times M n)) (sym (next_whole i)))));
        }
      ]
    where
      on : (t : Whole) → is_positive (minus L (plus t M)) ≡ true → step L M t ≡ plus t M
      on t e = rw e refl

      back : (t : Whole) → is_positive (minus L (plus t M)) ≡ false → step L M t ≡ minus (plus t M) L
      back t e = rw e refl
