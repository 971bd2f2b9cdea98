-- Scaffolding: how values of the code stand for what is read.
use Rattle.std.specs.Prelude.{ℕ, List, [], ◌∷◌, Result}
use Rattle.wt_grid.specs.declared.axis.Axis.{Axis}
use Rattle.wt_text.specs.Lines.{Line}
use Rattle.wt_refute.specs.Refutation.{Refutation, Branches, more}
use Rattle.wt_refute.specs.View.{refutation}
use Rattle.wt_refute.specs.declared.tree.Refuted.{Refuted}
use Rattle.wt_step.specs.declared.raw.Lost.{Lost}
use Rattle.wt_line.specs.declared.faults.What.{What}
use Rattle.wt_step.specs.declared.raw.RawLink.{RawLink}
use Rattle.wt_chain.specs.declared.raw.Version.{Version}
use Rattle.wt_text.specs.Readers.{TextFault, Either, first, second}
use Rattle.wt_cert.specs.Parts.{link_part}
use Rattle.wt_cert.specs.declared.read.trees.Ending.{Ending}
use Rattle.wt_cert.specs.declared.read.trees.Ending.TheVariants.{Children, Cites}
use Rattle.wt_cert.specs.declared.read.heads.Head as heads
use Rattle.wt_cert.specs.declared.read.heads.Head.TheVariants.{Marker, Restrict}
use Rattle.wt_cert.specs.declared.read.heads.EndLine.{EndLine}
use Rattle.wt_cert.specs.declared.read.heads.EndLine.TheVariants.{Open, Loop}
use Rattle.wt_cert.specs.LineForms.{Head}
use Rattle.wt_cert.specs.Trees as trees

-- what the code read after a cell
abbrev pub ending_view : Ending → trees.Ending
ending_view (Children n) = trees.children n
ending_view (Cites axis) = trees.cites axis

-- branches in front of others
abbrev pub led_by : List (ℕ × Refutation) → Branches → Branches
led_by [] b = b
led_by (x ∷ xs) b = more x.0 x.1 (led_by xs b)

-- what the code read of the first line of a block
abbrev pub head_view : heads.Head → Head
head_view (Marker axis side radius) = first (axis, (side, radius))
head_view (Restrict radius) = second radius

-- what the code read of the line of the end
abbrev pub end_view : EndLine → Either (Unit {0}) (ℕ × ℕ)
end_view Open = first tt
end_view (Loop start expansion) = second (start, expansion)

-- what is written of a refutation
abbrev pub refuted_view : Refuted → Axis × (ℕ × (ℕ × (ℕ × Refutation)))
refuted_view r = (r.axis, (r.a, (r.b, (r.radius, refutation r.tree))))

-- what is written of a lost tile
abbrev pub lost_view : Lost → ℕ × Refutation
lost_view x = (x.tile, refutation x.tree)

-- the reader of the block of the step that a state gives
abbrev pub link_at_step : Version → ℕ × ℕ → ℕ × List Line → Result (RawLink × (ℕ × List Line)) (TextFault What)
link_at_step version s = link_part version s.0 s.1
