-- What a step makes of a period: its part along the step's axis is counted in blocks.
use Rattle.std.specs.Prelude.{◌≡◌, ℕ, suc, ◌+◌, ◌≤◌, ◌<◌, ℤ, pos, negsuc, neg_ℤ, Bool, false, ◌&&◌, nat_le, length, take, drop}
use Rattle.wt_grid.specs.declared.axis.Axis.TheVariants.{One, Two}
use Rattle.wt_grid.specs.declared.axis.Axis.{Axis}
use Rattle.wt_grid.specs.Grid.{Grid, along, lines}
use Rattle.wt_grid.specs.Parts.{core}
use Rattle.wt_grid.specs.Shifts.{HasVector}
use Rattle.wt_grid.specs.Images.{image_lines}
use Rattle.wt_step.specs.declared.raw.RawStep.{RawStep}
use Rattle.wt_step.specs.declared.raw.RawLink.{RawLink}
use Rattle.wt_step.specs.declared.raw.RawLink.TheVariants.{Marker, Restrict}
use Rattle.wt_step.specs.Meaning.{pieces}
use Rattle.wt_step.specs.Cores.{core_length, core_width}
use Rattle.wt_step.specs.Blocks.{pairs_at, blocks_in, one_if, ends_at}

-- how many lines the first n lines of the coarse rectangle q stand for
abbrev pub lines_below : RawStep → Grid → ℕ → ℕ
lines_below s q n = length (image_lines (pieces s) (take n (lines s.axis q)))

-- A period of d lines along the step's axis and e cells across it has become one of n coarse lines and e cells on the coarse rectangle q: n coarse lines stand for d lines, wherever they begin.
pub record IsCarried (s : RawStep) (opposed : Bool) (d e n : ℕ) (q : Grid) : Type 0 where
  pub vector : HasVector s.axis opposed n e q
  pub few : n ≤ along s.axis q
  pub filled : (k : ℕ) → k + n ≤ along s.axis q → length (image_lines (pieces s) (take n (drop k (lines s.axis q)))) ≡ d
  -- no longer than before, and at least half as long: so none exactly where there was none
  pub shorter : n ≤ d
  pub half : d ≤ n + n

-- the core has three lines more along the axis than d, and one cell more across it than e
abbrev pub HasRoom : RawStep → Grid → ℕ → ℕ → Type 0
HasRoom s p d e = (d + 3 ≤ core_length s p) × (e < core_width s p)

-- each period of p for which there is room has become one of the coarse rectangle q
abbrev pub HasCarriedPeriods : RawStep → Grid → Grid → Type 0
HasCarriedPeriods s p q = (opposed : Bool) (d e : ℕ) → HasRoom s p d e → HasVector s.axis opposed d e p → (n : ℕ) × IsCarried s opposed d e n q

-- ---- vectors of integers

-- how long a component of a vector is
abbrev pub magnitude : ℤ → ℕ
magnitude (pos n) = n
magnitude (negsuc n) = suc n

-- a length with the sign of a component
abbrev pub with_sign : ℤ → ℕ → ℤ
with_sign (pos k) n = pos n
with_sign (negsuc k) n = neg_ℤ (pos n)

-- the core is three lines longer than the vector along the axis, and one cell wider across it
abbrev pub has_room_along : Axis → Grid → ℤ → ℤ → Bool
has_room_along One core dx dy = nat_le (magnitude dx + 3) core.width && nat_le (magnitude dy + 1) core.height
has_room_along Two core dx dy = nat_le (magnitude dx + 1) core.width && nat_le (magnitude dy + 3) core.height

-- the core is as large as the law asks for this vector; for a restrict step it is wider and higher than the vector
abbrev pub has_room : RawLink → Grid → ℤ → ℤ → Bool
has_room (Marker s) p dx dy = has_room_along s.axis (core s.radius p) dx dy
has_room (Restrict s) p dx dy = nat_le (magnitude dx + 1) (core s.radius p).width && nat_le (magnitude dy + 1) (core s.radius p).height

-- the first n lines of the coarse rectangle q stand for d lines, and those of no other number do
pub record IsCount (s : RawStep) (q : Grid) (d n : ℕ) : Type 0 where
  pub inside : n ≤ along s.axis q
  pub filled : lines_below s q n ≡ d
  pub only : (m : ℕ) → m ≤ along s.axis q → lines_below s q m ≡ d → m ≡ n

-- e is the component d, counted in lines of the coarse rectangle q, with the same sign
abbrev pub IsCounted : RawStep → Grid → ℤ → ℤ → Type 0
IsCounted s q d e = (e ≡ with_sign d (magnitude e)) × IsCount s q (magnitude d) (magnitude e)

-- v is the vector (dx, dy) with its component along the axis counted in coarse lines
abbrev pub IsCountedAlong : Axis → RawStep → Grid → ℤ → ℤ → ℤ × ℤ → Type 0
IsCountedAlong One s q dx dy v = IsCounted s q dx v.0 × (v.1 ≡ dy)
IsCountedAlong Two s q dx dy v = (v.0 ≡ dx) × IsCounted s q dy v.1

-- the same along the step's axis; a restrict step leaves the vector as it is
abbrev pub IsCountedBy : RawLink → Grid → ℤ → ℤ → ℤ × ℤ → Type 0
IsCountedBy (Marker s) q dx dy v = IsCountedAlong s.axis s q dx dy v
IsCountedBy (Restrict s) q dx dy v = v ≡ (dx, dy)

-- ---- the same, read from the fine pattern

-- how many blocks begin in the first d lines of the cut core
abbrev pub blocks_begun : RawStep → Grid → ℕ → ℕ
blocks_begun s p d = length (blocks_in (pairs_at s p) false (one_if (ends_at s p 0)) d)

-- a component counted in blocks, with its sign
abbrev pub in_blocks : RawStep → Grid → ℤ → ℤ
in_blocks s p d = with_sign d (blocks_begun s p (magnitude d))

-- a vector whose component along the axis is counted so
abbrev pub vector_along : Axis → RawStep → Grid → ℤ → ℤ → ℤ × ℤ
vector_along One s p dx dy = (in_blocks s p dx, dy)
vector_along Two s p dx dy = (dx, in_blocks s p dy)

-- the same for a step of either kind
abbrev pub carried_vector : RawLink → Grid → ℤ → ℤ → ℤ × ℤ
carried_vector (Marker s) p dx dy = vector_along s.axis s p dx dy
carried_vector (Restrict s) p dx dy = (dx, dy)
