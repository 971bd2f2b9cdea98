-- The set U: its lines are read as a list, and that is a tile set.
use Rattle.std.proofs.Common.{◌≡◌, ℕ, List, [], ◌∷◌, refl, sym, ◌∙◌, subst}
use Rattle.std.specs.Prelude.{None, Ok, Err, codes}
use Rattle.wt_line.specs.declared.faults.What.{What}
use Rattle.wt_text.specs.Readers.{syntax_at, limit_at, whole_text, seen_as, one_line, whole, both}
use Rattle.wt_tile.specs.declared.tile.Tile.{Tile}
use Rattle.wt_tile.specs.declared.tile.TileList.{TileList}
use Rattle.wt_tile.specs.Sets.{set_fault}
use Rattle.wt_program.specs.Samples.{u_read, IsU}

abbrev tile : ℕ → ℕ → ℕ → ℕ → Tile
tile e n w s = record { east = e; north = n; west = w; south = s }

abbrev u : TileList
u = record {
  tiles = tile 0 0 1 0 ∷ tile 0 0 2 1 ∷ tile 1 2 0 3 ∷ tile 3 2 0 4 ∷ tile 2 3 1 3 ∷ tile 2 3 2 5 ∷ tile 2 4 0 3 ∷ tile 2 4 3 3 ∷ tile 4 0 5 0 ∷ tile 6 1 7 0
      ∷ tile 6 1 8 1 ∷ tile 9 1 5 0 ∷ tile 7 3 6 3 ∷ tile 7 3 5 3 ∷ tile 5 3 6 4 ∷ tile 5 3 5 4 ∷ tile 5 4 4 2 ∷ tile 5 4 9 4 ∷ tile 8 5 5 3 ∷ [];
  names1 = codes "F" ∷ codes "J" ∷ codes "H" ∷ codes "D" ∷ codes "B" ∷ codes "I" ∷ codes "G" ∷ codes "E" ∷ codes "C" ∷ codes "A" ∷ [];
  names2 = codes "O" ∷ codes "L" ∷ codes "M" ∷ codes "P" ∷ codes "K" ∷ codes "N" ∷ [];
}

is_u : u_read ≡ Ok u
unfolding whole_text seen_as one_line whole both
is_u = refl

good_u : set_fault u ≡ None
unfolding set_fault
good_u = refl

pub never_syntax : (n : ℕ) → u_read ≡ Err (syntax_at n) → ⊥
never_syntax n e = let h : Ok u ≡ Err (syntax_at n) = sym is_u ∙ e in cc

pub never_limit : (what : What) (n : ℕ) → u_read ≡ Err (limit_at what n) → ⊥
never_limit what n e = let h : Ok u ≡ Err (limit_at what n) = sym is_u ∙ e in cc

pub good_list : (list : TileList) → IsU list → set_fault list ≡ None
good_list list e =
    let h : Ok u ≡ Ok list = sym is_u ∙ e in
    let same : u ≡ list = cc h in
    subst (λ (l : TileList). set_fault l ≡ None) same good_u
