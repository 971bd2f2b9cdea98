-- What `sample N` replies. Nothing is read for it: its set is U.
use Rattle.std.specs.Prelude.{◌≡◌, ℕ, ℤ, pos, negsuc, List, [], ◌∷◌, ◌++◌, length, codes, is_none, count_by, Bool, None, Result, Ok, Err}
use Rattle.std.specs.Fmt.{decimal}
use Rattle.wt_grid.specs.declared.axis.Axis.TheVariants.{One, Two}
use Rattle.wt_grid.specs.declared.axis.Side.TheVariants.{After}
use Rattle.wt_grid.specs.Grid.{Grid, listed}
use Rattle.wt_text.specs.Lines.{lines}
use Rattle.wt_text.specs.Readers.{TextFault, whole_text}
use Rattle.wt_line.specs.declared.faults.What.{What}
use Rattle.wt_tile.specs.declared.tile.TileList.{TileList}
use Rattle.wt_pattern.specs.TileRows.{tile_rows}
use Rattle.wt_pattern.specs.Periods.{first_period_fault}
use Rattle.wt_step.specs.Links.{fine_of}
use Rattle.wt_step.specs.Coarse.{IsDesubstitution, desub_fault}
use Rattle.wt_chain.specs.declared.raw.RawChain.{RawChain}
use Rattle.wt_chain.specs.declared.raw.End.{End}
use Rattle.wt_chain.specs.Looped.{IsLooped}
use Rattle.wt_scale.specs.Existence.{IsPatternOf}
use Rattle.wt_expand.specs.Expansion.{pick_fault, pick_of}
use Rattle.wt_check.specs.Powers.{units}
use Rattle.wt_check.specs.Texts.{loop_text}
use Rattle.wt_search.specs.declared.end.SearchEnd.{SearchEnd}
use Rattle.wt_search.specs.Asked.{Asked, asked}
use Rattle.wt_search.specs.Found.{MayAnswerSearch}
use Rattle.wt_session.specs.Census.{counts_text}
use Rattle.wt_session.specs.Levels.{IsEndReply}
use Rattle.wt_session.specs.Replies.{stops}
use Rattle.wt_program.specs.declared.reply.Reply.{Reply}
use Rattle.wt_program.specs.declared.reply.Reply.TheVariants.{Answered}
use Rattle.wt_program.specs.declared.sample.TheConstants.{BUDGET, LEVELS}
use Rattle.wt_program.specs.Scripts.{by_status}

-- The search.

-- Labbé's set U, a line for each of 19 tiles: right, top, left, bottom
abbrev pub u_text : List ℕ
u_text = codes "F O J O\nF O H L\nJ M F P\nD M F K\nH P J P\nH P H N\nH K F P\nH K D P\nB O I O\nG L E O\nG L C L\nA L I O\nE P G P\nE P I P\nI P G K\nI P I K\nI K B M\nI K A K\nC N I P\n"

-- the list of tiles that these lines say, or their first fault
abbrev pub u_read : Result TileList (TextFault What)
u_read = whole_text (tile_rows 19) (lines u_text)

-- this list
abbrev pub IsU : TileList → Type 0
IsU list = u_read ≡ Ok list

-- the question for the chain: axes 1 and 2 in turn, side after, radius 1
abbrev pub u_question : Asked
u_question = asked (One ∷ Two ∷ []) After 1 BUDGET

-- What is said of the pattern.

-- the vectors with components of at most 3, one of each two opposite ones
abbrev pub vectors : List (ℤ × ℤ)
vectors =
    (pos 0, pos 1) ∷ (pos 0, pos 2) ∷ (pos 0, pos 3)
    ∷ (pos 1, negsuc 2) ∷ (pos 1, negsuc 1) ∷ (pos 1, negsuc 0) ∷ (pos 1, pos 0) ∷ (pos 1, pos 1) ∷ (pos 1, pos 2) ∷ (pos 1, pos 3)
    ∷ (pos 2, negsuc 2) ∷ (pos 2, negsuc 1) ∷ (pos 2, negsuc 0) ∷ (pos 2, pos 0) ∷ (pos 2, pos 1) ∷ (pos 2, pos 2) ∷ (pos 2, pos 3)
    ∷ (pos 3, negsuc 2) ∷ (pos 3, negsuc 1) ∷ (pos 3, negsuc 0) ∷ (pos 3, pos 0) ∷ (pos 3, pos 1) ∷ (pos 3, pos 2) ∷ (pos 3, pos 3) ∷ []

-- the vector is a period of the rectangle
abbrev pub has_period : Grid → ℤ × ℤ → Bool
has_period p v = is_none (first_period_fault v.0 v.1 p)

-- how many of the vectors are periods
unfoldable pub period_count : Grid → ℕ
period_count p = count_by (has_period p) vectors

-- how often each of n tiles stands among the cells
abbrev pub tile_counts : ℕ → List ℕ → List ℕ
tile_counts n cells = listed n (λ t. units t cells)

-- the line of the size, and that of the loop
unfoldable pub head_text : ℕ → End → List ℕ
head_text n end = codes "sample " ++ (decimal n ++ (codes "\n" ++ loop_text end))

-- that the pattern is valid, and how many of the vectors are periods of it
unfoldable pub tests_text : Grid → List ℕ
tests_text p = codes "valid\nperiods " ++ (decimal (period_count p) ++ codes " of 24\n")

-- the width and height of the coarse pattern
unfoldable pub size_text : Grid → List ℕ
size_text q = codes "coarse " ++ (decimal q.width ++ (codes " " ++ (decimal q.height ++ codes "\n")))

-- the text of a pattern p over n tiles, with its coarse pattern q
abbrev pub sample_text : ℕ → End → ℕ → Grid → Grid → List ℕ
sample_text n end tiles p q = head_text n end ++ (tests_text p ++ (size_text q ++ counts_text (tile_counts tiles p.cells)))

-- What is known of a chain that is found for a sample of n by n cells: its loop, its valid pick, and that its first step, of the set, takes the pick apart.
pub record IsSampling (n : ℕ) (set : TileList) (c : RawChain) : Type 0 where
  pub loop : IsLooped c
  pub fine : fine_of loop.first ≡ set
  pub valid : IsPatternOf set.tiles n n (pick_of c n n)
  pub made : pick_fault c n n ≡ None
  pub apart : desub_fault loop.first (pick_of c n n) ≡ None

-- The replies.

-- The reply to a chain that is found: its pick of n by n cells is a valid pattern, and that has a coarse pattern by step 0.
pub record IsSampled (n : ℕ) (set : TileList) (c : RawChain) (reply : Reply) : Type 0 where
  pub loop : IsLooped c
  pub valid : IsPatternOf set.tiles n n (pick_of c n n)
  pub coarse : Grid
  pub apart : IsDesubstitution loop.first (pick_of c n n) coarse
  pub told : reply ≡ Answered (sample_text n c.end (length set.tiles) (pick_of c n n) coarse)

-- the reply to a search that ends otherwise: the line of the script word `search`, alone
abbrev pub IsEnded : SearchEnd → Reply → Type 0
IsEnded e reply = (status : ℕ) × (text : List ℕ) × IsEndReply e (stops status text) × (reply ≡ by_status status text)

-- the reply to what the search may answer
abbrev pub IsSampleAnswer : ℕ → TileList → Result RawChain SearchEnd → Reply → Type 0
IsSampleAnswer n set (Ok c) reply = IsSampled n set c reply
IsSampleAnswer n set (Err e) reply = IsEnded e reply

-- The reply of `sample`.
abbrev pub IsSampleReply : ℕ → Reply → Type 0
IsSampleReply n reply = (set : TileList) × IsU set × (answer : Result RawChain SearchEnd) × MayAnswerSearch u_question set LEVELS answer × IsSampleAnswer n set answer reply
