-- How a pattern is written with its width and height, and the input of `desub`.
use Rattle.std.specs.Prelude.{◌≤◌, ℕ, List, [], ◌∷◌, ◌++◌, codes}
use Rattle.std.specs.Fmt.{decimal}
use Rattle.wt_text.specs.Lines.{Line, line_of}
use Rattle.wt_text.specs.Spellings.{AllFit}
use Rattle.wt_grid.specs.Grid.{Grid}
use Rattle.wt_line.specs.declared.limits.TheConstants.{MOST}
use Rattle.wt_pattern.specs.PatternRows.{pattern_lines}
use Rattle.wt_pattern.specs.Shape.{IsShape}
use Rattle.wt_chain.specs.declared.raw.RawChain.{RawChain}
use Rattle.wt_cert.specs.Fits.{IsWritable}
use Rattle.wt_cert.specs.Spelling.{cert_lines}

-- the line that says the width and the height
abbrev pub shape_tokens : ℕ × ℕ → List (List ℕ)
shape_tokens s = codes "pattern" ∷ decimal s.0 ∷ decimal s.1 ∷ []

-- the line of the width and the height, and then the rows, the top one first
abbrev pub shaped_lines : Grid → List Line
shaped_lines g = line_of (shape_tokens (g.width, g.height)) ∷ pattern_lines g

-- a rectangle that has such a text: 1 to 4096 by 1 to 4096 cells, each at most 65,535
pub record HasShapedText (g : Grid) : Type 0 where
  pub shape : IsShape g
  pub small : AllFit (λ c. c ≤ MOST) g.cells

-- the input of `desub`: a certificate, and then a pattern with its width and height
abbrev pub desub_lines : RawChain × Grid → List Line
desub_lines x = cert_lines x.0 ++ shaped_lines x.1

-- what such an input can hold
abbrev pub HasDesubText : RawChain × Grid → Type 0
HasDesubText x = IsWritable x.0 × HasShapedText x.1
