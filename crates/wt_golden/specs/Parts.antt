-- The fraction that three numbers in 128 bits are.
use Rattle.wt_golden.specs.declared.parts.Parts.{Parts}
use Rattle.wt_golden.specs.Fractions.{Fraction}

-- the fraction of the three numbers, in lowest terms or not
abbrev pub fraction : Parts → Fraction
fraction p = record { a = p.a; b = p.b; d = p.d }
