use Rattle.std.proofs.Common.{arith, ◌≡◌, ℕ, ◌%◌, ◌^◌, length, length-take, length-drop, drop, sym, ◌∙◌, nat_eq, true, w16, List, Bool, false, refl}
use Rattle.std.specs.Bool.{OnTrue}
use Rattle.std.proofs.lemmas.Bool.Decides.{nat_tests}
use lib.Lanes.{mask_l, zip2, chunk}
use Rattle.std.proofs.lemmas.Simd.{tops_compared, mask_l-mod, length-zip2}
use Rattle.wt_lane.proofs.Same.{same_of_mask, differs}
use Rattle.wt_lane.proofs.rows.is_same_in.Goals as goal

on_true : (b : Bool) (P : Type 0) → (b ≡ true → P) → OnTrue b P
on_true true P f = f refl
on_true false P f = tt

none_apart : (xs ys : List ℕ) → length xs ≡ 8 → length ys ≡ 8 → OnTrue (nat_eq (mask_l (zip2 differs xs ys) % 2 ^ 64) 0) (xs ≡ ys)
none_apart xs ys long long' =
    on_true _ _ (λ e. let none : mask_l (zip2 differs xs ys) % 2 ^ 64 ≡ 0 = grind (arith, nat_tests, e) in
    same_of_mask xs ys (omega arith) (sym (mask_l-mod (zip2 differs xs ys) 64 (omega (arith, length-zip2 differs xs ys))) ∙ none))

pub returns : goal.returns
returns c = rw (tops_compared w16 differs (chunk c.args.at 8 c.args.a.now) (chunk c.args.at 8 c.args.b.now)) (none_apart _ _ (omega (arith, length-take 8 (drop c.args.at c.args.a.now), length-drop c.args.at c.args.a.now)) (omega (arith, length-take 8 (drop c.args.at c.args.b.now), length-drop c.args.at c.args.b.now)))
