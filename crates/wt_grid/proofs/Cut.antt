-- Lines of a field, cut at both ends, have exactly one coarse field.
use Rattle.std.proofs.Common.{arith, ◌≡◌, ◌≤◌, ◌+◌, ℕ, List, [], ◌∷◌, length, Bool, true, false, refl}
use Rattle.wt_grid.specs.Lines.{Table, IsGood, IsField, IsImage, is_marker_line, cut_end, AllFilled, Begins}
use Rattle.wt_grid.proofs.Desub.{parse}
use Rattle.wt_grid.specs.Cuts.{cut_front, cut_lines}

-- What holds of a cut list, by what holds of the list.
pub field_rest : (f g : ℕ → ℕ → Bool) (u : List ℕ) (ls : List (List ℕ)) → IsField f g (u ∷ ls) → IsField f g ls
field_rest f g u [] h = tt
field_rest f g u (v ∷ ls) h = h.2

pub field_front : (f g : ℕ → ℕ → Bool) (marker : ℕ → Bool) (ls : List (List ℕ)) → IsField f g ls → IsField f g (cut_front marker ls)
field_front f g marker [] h = tt
field_front f g marker (u ∷ ls) h = at_first (is_marker_line marker u) refl
  where
    at_first : (b : Bool) → is_marker_line marker u ≡ b → IsField f g (cut_front marker (u ∷ ls))
    at_first true e = rw e (field_rest f g u ls h)
    at_first false e = rw e h

pub field_end : (f g : ℕ → ℕ → Bool) (marker : ℕ → Bool) (ls : List (List ℕ)) → IsField f g ls → IsField f g (cut_end marker ls)
field_end f g marker [] h = tt
field_end f g marker (u ∷ []) h = at_last (is_marker_line marker u) refl
  where
    at_last : (b : Bool) → is_marker_line marker u ≡ b → IsField f g (cut_end marker (u ∷ []))
    at_last true e = rw e h
    at_last false e = rw e tt
field_end f g marker (u ∷ v ∷ []) h = at_last (is_marker_line marker v) refl
  where
    at_last : (b : Bool) → is_marker_line marker v ≡ b → IsField f g (cut_end marker (u ∷ v ∷ []))
    at_last true e = rw e h
    at_last false e = rw e h.0
field_end f g marker (u ∷ v ∷ w ∷ ls) h = (h.0, h.1, field_end f g marker (v ∷ w ∷ ls) h.2)

pub field_cut : (f g : ℕ → ℕ → Bool) (marker : ℕ → Bool) (ls : List (List ℕ)) → IsField f g ls → IsField f g (cut_lines marker ls)
field_cut f g marker ls h = field_end f g marker (cut_front marker ls) (field_front f g marker ls h)

pub filled_front : (marker : ℕ → Bool) (ls : List (List ℕ)) → AllFilled ls → AllFilled (cut_front marker ls)
filled_front marker [] h = tt
filled_front marker ([] ∷ ls) h = absurd h
filled_front marker ((a ∷ as') ∷ ls) h = at_first (marker a) refl
  where
    at_first : (b : Bool) → marker a ≡ b → AllFilled (cut_front marker ((a ∷ as') ∷ ls))
    at_first true e = rw e h
    at_first false e = rw e h

pub filled_end : (marker : ℕ → Bool) (ls : List (List ℕ)) → AllFilled ls → AllFilled (cut_end marker ls)
filled_end marker [] h = tt
filled_end marker ([] ∷ ls) h = absurd h
filled_end marker ((a ∷ as') ∷ []) h = at_last (marker a) refl
  where
    at_last : (b : Bool) → marker a ≡ b → AllFilled (cut_end marker ((a ∷ as') ∷ []))
    at_last true e = rw e tt
    at_last false e = rw e tt
filled_end marker ((a ∷ as') ∷ v ∷ ls) h = filled_end marker (v ∷ ls) h

pub filled_cut : (marker : ℕ → Bool) (ls : List (List ℕ)) → AllFilled ls → AllFilled (cut_lines marker ls)
filled_cut marker ls h = filled_end marker (cut_front marker ls) (filled_front marker ls h)

-- at most two lines are cut
length_end : (marker : ℕ → Bool) (ls : List (List ℕ)) → length ls ≤ length (cut_end marker ls) + 1
length_end marker [] = omega arith
length_end marker (u ∷ []) = omega arith
length_end marker (u ∷ v ∷ ls) = let r = length_end marker (v ∷ ls) in omega arith

length_front : (marker : ℕ → Bool) (ls : List (List ℕ)) → length ls ≤ length (cut_front marker ls) + 1
length_front marker [] = omega arith
length_front marker (u ∷ ls) = at_first (is_marker_line marker u) refl
  where
    at_first : (b : Bool) → is_marker_line marker u ≡ b → length (u ∷ ls) ≤ length (cut_front marker (u ∷ ls)) + 1
    at_first true e = rw e (omega arith)
    at_first false e = rw e (omega arith)

pub length_cut : (marker : ℕ → Bool) (ls : List (List ℕ)) → length ls ≤ length (cut_lines marker ls) + 2
length_cut marker ls = let a = length_front marker ls in let b = length_end marker (cut_front marker ls) in omega arith

module _ (t : Table) (good : IsGood t) where
  pub begins : (ls : List (List ℕ)) → AllFilled ls → IsField t.along t.across ls → Begins t.marker (cut_front t.marker ls)
  begins [] n f = tt
  begins ([] ∷ ls) n f = absurd n
  begins ((a ∷ as') ∷ []) n f = at_first (t.marker a) refl
    where
      at_first : (b : Bool) → t.marker a ≡ b → Begins t.marker (cut_front t.marker ((a ∷ as') ∷ []))
      at_first true e = rw e tt
      at_first false e = rw e e
  begins ((a ∷ as') ∷ [] ∷ ls) n f = absurd n
  begins ((a ∷ as') ∷ (b ∷ bs) ∷ ls) n f = at_first (t.marker a) (t.marker b) refl refl
    where
      at_first : (m k : Bool) → t.marker a ≡ m → t.marker b ≡ k → Begins t.marker (cut_front t.marker ((a ∷ as') ∷ (b ∷ bs) ∷ ls))
      at_first false k e h = rw e e
      at_first true false e h = rw e h
      at_first true true e h = absurd (good.apart a b f.1.0 e h)

  pub parse_cut : (ls : List (List ℕ)) → AllFilled ls → IsField t.along t.across ls → (qs : List (List ℕ)) × IsImage t.images qs (cut_lines t.marker ls)
  parse_cut ls n f = parse t good (cut_front t.marker ls) (filled_front t.marker ls n) (field_front t.along t.across t.marker ls f) (begins ls n f)
