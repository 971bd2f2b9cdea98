-- Numbers of a row that all pass, tested piece by piece.
use Rattle.std.proofs.Common.{◌≡◌, ℕ, ◌+◌, ◌&&◌, List, Bool, true, take, drop, sym, ap, ◌∙◌}
use Rattle.std.specs.List.{list_all}
use Rattle.std.proofs.lemmas.List.{take-append-drop, drop-drop}
use Rattle.std.proofs.lemmas.List.Folds.{list_all-append}
use lib.Lanes.{chunk}

-- behind a piece whose numbers pass, all pass where the others do
pub all_further : (p : ℕ → Bool) (n at : ℕ) (row : List ℕ) (passed : Bool) → passed ≡ true → passed ≡ list_all p (chunk at n row) → list_all p (drop (at + n) row) ≡ list_all p (drop at row)
all_further p n at row passed e h =
    ap (list_all p) (sym (drop-drop n at row))
    ∙ sym (ap (λ (b : Bool). b && list_all p (drop n (drop at row))) (sym h ∙ e))
    ∙ sym (list_all-append p (take n (drop at row)) (drop n (drop at row)))
    ∙ ap (list_all p) (take-append-drop n (drop at row))
