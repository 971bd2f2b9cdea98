-- The words of the limits, and the numbers of a line with their limits.
use Rattle.std.specs.Prelude.{ℕ, nat_eq, if◌then◌else◌, List, [], ◌∷◌, Option, None, Some, Result, codes}
use Rattle.wt_text.specs.Words.{number}
use Rattle.wt_text.specs.Readers.{◌>>=◌, within, number_to}
use Rattle.wt_line.specs.declared.limits.TheConstants.{MOST, MAX_RADIUS}
use Rattle.wt_line.specs.declared.faults.What.{What}
use Rattle.wt_line.specs.declared.faults.What.TheVariants.{Steps, Radius, Tiles, Pairs, Nodes, Depth, Expansion, Number, Width, Height, Power, Turns, Regions, Planes, Golden, Rows}

-- the word of a limit, as a refusal prints it
abbrev pub limit_word : What → List ℕ
limit_word Steps = codes "steps"
limit_word Radius = codes "radius"
limit_word Tiles = codes "tiles"
limit_word Pairs = codes "pairs"
limit_word Nodes = codes "nodes"
limit_word Depth = codes "depth"
limit_word Expansion = codes "expansion"
limit_word Number = codes "number"
limit_word Width = codes "width"
limit_word Height = codes "height"
limit_word Power = codes "power"
limit_word Turns = codes "turns"
limit_word Regions = codes "regions"
limit_word Planes = codes "planes"
limit_word Golden = codes "golden"
limit_word Rows = codes "rows"

-- a number that has no limit of its own: at most 65,535
abbrev pub small : List (List ℕ) → Option (Result ℕ What × List (List ℕ))
small = number_to MOST Number

-- a radius: at most 4
abbrev pub radius : List (List ℕ) → Option (Result ℕ What × List (List ℕ))
radius = number_to MAX_RADIUS Radius

-- a number of at least 1, with a limit: 0 is no such number
abbrev pub number_from_one : ℕ → What → List (List ℕ) → Option (Result ℕ What × List (List ℕ))
number_from_one most what [] = None
number_from_one most what (t ∷ ts) = number t >>= λ n. if nat_eq n 0 then None else Some (within most what n, ts)
