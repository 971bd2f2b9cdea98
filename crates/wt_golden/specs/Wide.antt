-- The whole golden number that 128 bits for each part hold.
use Rattle.wt_golden.specs.declared.wide.Wide.{Wide}
use Rattle.wt_golden.specs.Whole.{Whole}

-- the whole golden number of the two parts
abbrev pub number : Wide → Whole
number w = record { a = w.a; b = w.b }
