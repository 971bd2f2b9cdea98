-- Names of colours, by both definitions.
use Rattle.std.proofs.Common.{rules, arith, ◌≡◌, ℕ, Bool, true, false, cond, ◌&&◌, nat_lt, nat_le, List, [], ◌∷◌, length, Option, Some, None, refl, sym, ap, ◌∙◌}
use Rattle.wt_tile.specs.Names.{all_name_bytes}
use Rattle.wt_tile.specs.Names as tile
use Rattle.wt_names.specs.Rows.{is_name}

same_bytes : (bs : List ℕ) → tile.all_name_bytes bs ≡ all_name_bytes bs
same_bytes [] = refl
same_bytes (b ∷ bs) = ap (λ (x : Bool). tile.is_name_byte b && x) (same_bytes bs)

same_test : (bs : List ℕ) → (nat_lt 0 (length bs) && nat_le (length bs) 16 && tile.all_name_bytes bs) ≡ is_name bs
same_test bs = rw (same_bytes bs) refl

pub named : (bs x : List ℕ) → Some x ≡ tile.name_of bs → (is_name bs ≡ true) × (x ≡ bs)
named bs x e = go (nat_lt 0 (length bs) && nat_le (length bs) 16 && tile.all_name_bytes bs) (same_test bs) e
  where
    go : (b : Bool) → b ≡ is_name bs → Some x ≡ cond b (Some bs) None → (is_name bs ≡ true) × (x ≡ bs)
    go true k h = (sym k, cc)
    go false k h = absurd cc

pub not_named : (bs : List ℕ) → None ≡ tile.name_of bs → is_name bs ≡ false
not_named bs e = go (nat_lt 0 (length bs) && nat_le (length bs) 16 && tile.all_name_bytes bs) (same_test bs) e
  where
    go : (b : Bool) → b ≡ is_name bs → None ≡ cond b (Some bs) None → is_name bs ≡ false
    go true k h = absurd cc
    go false k h = sym k

pub of_name : (bs : List ℕ) → is_name bs ≡ true → tile.name_of bs ≡ Some bs
of_name bs e = go (nat_lt 0 (length bs) && nat_le (length bs) 16 && tile.all_name_bytes bs) (same_test bs)
  where
    go : (b : Bool) → b ≡ is_name bs → cond b (Some bs) None ≡ Some bs
    go true k = refl
    go false k = absurd cc
