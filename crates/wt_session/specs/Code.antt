-- What `code N T Gx Gy w h` answers.
use Rattle.std.specs.Prelude.{◌≡◌, ℕ, Bool, true, false, ◌&&◌, not, List, ◌++◌, codes, Option, None, Some, Result, Ok, Err, if◌then◌else◌}
use Rattle.std.specs.Fmt.{decimal}
use Rattle.std.specs.Ordering.{is_lt}
use Rattle.wt_golden.specs.Whole.{sign}
use Rattle.wt_golden.specs.Fractions.{Fraction, top, order}
use Rattle.wt_grid.specs.Grid.{Grid}
use Rattle.wt_plane.specs.HalfPlanes.{Spot, spot, reduced_spot}
use Rattle.wt_torus.specs.declared.coded.CodeFault.{CodeFault}
use Rattle.wt_torus.specs.declared.coded.CodeFault.TheVariants.{OutsideBox, TooLarge, Unplaced, Doubled, OutOfMemory}
use Rattle.wt_torus.specs.declared.partition.Partition.{Partition}
use Rattle.wt_torus.specs.Boxes.{Rotation}
use Rattle.wt_torus.specs.Codes.{is_small, code_fault, code_of}
use Rattle.wt_session.specs.Expand.{bound_rows}
use Rattle.wt_session.specs.Names.{Names}
use Rattle.wt_session.specs.Replies.{Reply, refused, limit, partition_named}

-- a point off the box
abbrev pub off_box : Reply
off_box = refused (codes "refused outside box\n")

-- a number that is out of limit
abbrev pub golden_limit : Reply
golden_limit = limit (codes "limit golden\n")

-- a cell without a letter
abbrev pub cell_text : List ℕ → ℕ → ℕ → List ℕ
cell_text what x y = codes "refused " ++ (what ++ (codes " at " ++ (decimal x ++ (codes " " ++ (decimal y ++ codes "\n")))))

-- the code, bound to a name, over no set; or why there is none
abbrev pub IsCodedReply : List ℕ → Grid → Option CodeFault → Reply → Type 0
IsCodedReply n g None reply = reply ≡ bound_rows n None g
IsCodedReply n g (Some OutsideBox) reply = reply ≡ off_box
IsCodedReply n g (Some TooLarge) reply = reply ≡ golden_limit
IsCodedReply n g (Some (Unplaced x y)) reply = reply ≡ refused (cell_text (codes "unplaced") x y)
IsCodedReply n g (Some (Doubled x y)) reply = reply ≡ refused (cell_text (codes "doubled") x y)
IsCodedReply n g (Some OutOfMemory) reply = ⊥

-- from 0 on and below the side
abbrev pub is_on : Fraction → Fraction → Bool
is_on side t = not (is_lt (sign (top t))) && is_lt (order t side)

-- the point (x, y) is in the box, with its low borders
abbrev pub is_on_box : Rotation → Fraction → Fraction → Bool
is_on_box r x y = is_on r.width x && is_on r.height y

-- a point whose numbers over its least common denominator are within the limit, or not
abbrev pub IsPointReply : List ℕ → Partition → Spot → ℕ → ℕ → Bool → Reply → Type 0
IsPointReply n p z w h true reply = IsCodedReply n (code_of p z w h) (code_fault p z w h) reply
IsPointReply n p z w h false reply = reply ≡ golden_limit

-- a point that is in the box, or not
abbrev pub IsPlaceReply : List ℕ → Partition → Fraction → Fraction → ℕ → ℕ → Bool → Reply → Type 0
IsPlaceReply n p x y w h true reply = IsPointReply n p (reduced_spot (spot x y)) w h (is_small (reduced_spot (spot x y))) reply
IsPlaceReply n p x y w h false reply = reply ≡ off_box

-- the partition, or why there is none
abbrev pub IsCodeOf : List ℕ → Fraction → Fraction → ℕ → ℕ → Result Partition Reply → Reply → Type 0
IsCodeOf n x y w h (Err stopped) reply = reply ≡ stopped
IsCodeOf n x y w h (Ok p) reply = IsPlaceReply n p x y w h (is_on_box p.torus x y) reply

-- The reply of `code`: the letters of w by h turns of the point (x, y), the top row first. Refused for the name, a point off the box, a
-- point out of limit, and then at the first cell in reading order that has no letter within the limit.
abbrev pub IsCodeReply : Names → List ℕ → List ℕ → Fraction → Fraction → ℕ → ℕ → Reply → Type 0
IsCodeReply names n t x y w h reply = IsCodeOf n x y w h (partition_named names t) reply
