-- The cells of rows that are taken from the end.
use Rattle.std.proofs.Common.{◌≡◌, ℕ, List, [], ◌∷◌, ◌++◌, refl, sym, ap, ◌∙◌, append_assoc}
use Rattle.std.proofs.lemmas.List.{append-nil}
use Rattle.wt_pattern.specs.PatternRows.{from_bottom}

pub bottom_first : (rows : List (List ℕ)) (row : List ℕ) → from_bottom (rows ++ row ∷ []) ≡ row ++ from_bottom rows
bottom_first [] row = sym (append-nil row)
bottom_first (r ∷ rs) row = ap (λ (x : List ℕ). x ++ r) (bottom_first rs row) ∙ append_assoc row (from_bottom rs) r

pub taken : (cells row new : List ℕ) (rows more : List (List ℕ)) (total : List ℕ) → rows ≡ more ++ row ∷ [] → new ≡ cells ++ row → cells ++ from_bottom rows ≡ total → new ++ from_bottom more ≡ total
taken cells row new rows more total r n so_far =
    let e : from_bottom rows ≡ row ++ from_bottom more = ap from_bottom r ∙ bottom_first more row in
    ap (λ (x : List ℕ). x ++ from_bottom more) n ∙ append_assoc cells row (from_bottom more) ∙ ap (λ (x : List ℕ). cells ++ x) (sym e) ∙ so_far
