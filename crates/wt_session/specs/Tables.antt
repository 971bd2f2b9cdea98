-- Words that ask for the dominoes of a set: what they answer where the search of a window is spent.
use Rattle.std.specs.Prelude.{◌≡◌, ℕ, Bool, List, ◌++◌, codes, Result, Ok, Err}
use Rattle.std.specs.Fmt.{decimal}
use Rattle.wt_grid.specs.Axes.{axis_number}
use Rattle.wt_grid.specs.declared.axis.Axis.{Axis}
use Rattle.wt_grid.specs.declared.axis.Axis.TheVariants.{One, Two}
use Rattle.wt_tile.specs.declared.tile.Tile.{Tile}
use Rattle.wt_window.specs.declared.domino_table.TableEnd.{TableEnd}
use Rattle.wt_window.specs.declared.domino_table.TableEnd.TheVariants.{Spent, OutOfMemory}
use Rattle.wt_window.specs.Surrounded.{allowed}
use Rattle.wt_window.specs.Outcomes.{MayAnswerTable}
use Rattle.wt_session.specs.Replies.{Reply, spent}

-- an axis, and two tiles that match along it
abbrev pub pair_text : Axis → ℕ → ℕ → List ℕ
pair_text axis a b = codes "axis " ++ (decimal (axis_number axis) ++ (codes " pair " ++ (decimal a ++ (codes " " ++ (decimal b ++ codes "\n")))))

-- the search of the window of two tiles is spent
abbrev pub spent_text : Axis → ℕ → ℕ → List ℕ
spent_text axis a b = codes "spent " ++ pair_text axis a b

-- What is known of a reply where this was answered to a question for a table: if there is one, what is said of its dominoes; else it tells the pair at which the budget is spent. `line` makes its line.
abbrev pub IsTableReply : (Axis → ℕ → ℕ → List ℕ) → Axis → ((ℕ → ℕ → Bool) → Reply → Type 0) → Result (List (List ℕ)) TableEnd → Reply → Type 0
IsTableReply line axis Said (Ok rows) reply = Said (allowed rows) reply
IsTableReply line axis Said (Err (Spent a b)) reply = reply ≡ spent (line axis a b)
IsTableReply line axis Said (Err OutOfMemory) reply = ⊥

-- the dominoes of an axis are asked for, and the reply is one of those to what may be answered
abbrev pub AsksTable : (Axis → ℕ → ℕ → List ℕ) → List Tile → Axis → ℕ → ℕ → ((ℕ → ℕ → Bool) → Reply → Type 0) → Reply → Type 0
AsksTable line ts axis r budget Said reply = (answer : Result (List (List ℕ)) TableEnd) × MayAnswerTable ts axis r budget answer × IsTableReply line axis Said answer reply

-- the same for both axes: those of axis 1 first, and those of axis 2 only where the first aren't spent
abbrev pub AsksTables : (Axis → ℕ → ℕ → List ℕ) → List Tile → ℕ → ℕ → ((ℕ → ℕ → Bool) → (ℕ → ℕ → Bool) → Reply → Type 0) → Reply → Type 0
AsksTables line ts r budget Said reply = AsksTable line ts One r budget (λ one. AsksTable line ts Two r budget (Said one)) reply
