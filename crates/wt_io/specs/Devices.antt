-- Devices in memory, as their callers see them.
use Rattle.std.specs.Prelude.{ℕ, List}

-- a source: the bytes that are still to come, how many of them a call moves at most, the numbers of the calls that fail,
-- the number of the next call, and how many calls have failed
pub record Reading : Type 0 where
  pub left : List ℕ
  pub piece : ℕ
  pub fail : List ℕ
  pub calls : ℕ
  pub faults : ℕ

-- a sink: the bytes that it holds and the most that it can hold; the others as for a source
pub record Writing : Type 0 where
  pub held : List ℕ
  pub room : ℕ
  pub piece : ℕ
  pub fail : List ℕ
  pub calls : ℕ
  pub faults : ℕ
