-- A fault that is told where a condition fails.
use Rattle.std.specs.Prelude.{Bool, Option, None, Some, if◌then◌else◌}

-- no fault where the condition holds
abbrev pub unless : {A : Type 0} → Bool → A → Option A
unless ok fault = if ok then None else Some fault
