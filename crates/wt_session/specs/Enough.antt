-- Budgets that are enough for a command.
use Rattle.std.specs.Prelude.{ℕ, suc, ◌≡◌, ◌<◌, ◌≤◌, true, List, length, All, IfOk}
use Rattle.wt_grid.specs.declared.axis.Axis.{Axis}
use Rattle.wt_grid.specs.declared.axis.Axis.TheVariants.{One, Two}
use Rattle.wt_tile.specs.declared.tile.Tile.{Tile}
use Rattle.wt_tile.specs.Matching.{matches}
use Rattle.wt_pattern.specs.Windows.{IsEmptyWindow}
use Rattle.wt_refute.specs.Refutation.{node_count}
use Rattle.wt_refute.specs.Standard.{standard_tree}
use Rattle.wt_step.specs.declared.raw.RawStep.{RawStep}
use Rattle.wt_step.specs.declared.raw.RawLink.{RawLink}
use Rattle.wt_step.specs.declared.raw.RawLink.TheVariants.{Marker, Restrict}
use Rattle.wt_chain.specs.declared.raw.End.{End}
use Rattle.wt_chain.specs.declared.raw.End.TheVariants.{Open, Loop}
use Rattle.wt_chain.specs.Sets.{last_set}
use Rattle.wt_window.specs.Trials.{trials, window}
use Rattle.wt_search.specs.Asked.{asked}
use Rattle.wt_search.specs.Enough.{HasEnough, IsEnough}
use Rattle.wt_search.specs.Light.{light_entries, asked_after}
use Rattle.wt_script.specs.declared.word.Word.{Word}
use Rattle.wt_script.specs.declared.word.Word.TheVariants as word
use Rattle.wt_session.specs.declared.value.Value.{Value}
use Rattle.wt_session.specs.declared.value.Value.TheVariants.{Set, Pattern, Chain, Partition}
use Rattle.wt_session.specs.Names.{Names}
use Rattle.wt_session.specs.Replies.{Reply, spent, set_named, value_named, chain_named}
use Rattle.wt_session.specs.Derive.{no_set}

-- the window of two tiles that match has no more trials than the budget
abbrev pub HasEnoughTrials : List Tile → Axis → ℕ → ℕ → ℕ → ℕ → Type 0
HasEnoughTrials ts axis a b r budget = matches ts axis a b ≡ true → trials ts (window axis a b r) ≤ budget

-- the same of each two tiles that match along the axis
abbrev pub HasEnoughAlong : List Tile → Axis → ℕ → ℕ → Type 0
HasEnoughAlong ts axis r budget = (a b : ℕ) → a < length ts → b < length ts → HasEnoughTrials ts axis a b r budget

-- the same of both axes
abbrev pub HasEnoughAround : List Tile → ℕ → ℕ → Type 0
HasEnoughAround ts r budget = HasEnoughAlong ts One r budget × HasEnoughAlong ts Two r budget

-- behind an open chain: the same of its last set, and of standard trees; behind a loop nothing is asked
abbrev pub HasEnoughAtEnd : List RawLink → ℕ → ℕ → End → Type 0
HasEnoughAtEnd links r budget Open = HasEnough (last_set no_set links).tiles r budget
HasEnoughAtEnd links r budget (Loop start renaming expansion) = Unit {0}

-- behind a set or a chain
abbrev pub HasEnoughBehind : ℕ → ℕ → Value → Type 0
HasEnoughBehind r budget (Set set) = HasEnough set.tiles r budget
HasEnoughBehind r budget (Pattern p) = Unit {0}
HasEnoughBehind r budget (Chain c) = HasEnoughAtEnd c.steps r budget c.end
HasEnoughBehind r budget (Partition p) = Unit {0}

-- A pair that a step refutes, at radius r + 1: its window has no more trials than the budget, and where it is empty, its standard tree has no more nodes, with the entries of radii from 1 to r known.
pub record HasEnoughAtRadius (s : RawStep) (budget r : ℕ) (axis : Axis) (q : ℕ × ℕ) : Type 0 where
  pub window : trials s.fine.tiles (window axis q.0 q.1 (suc r)) ≤ budget
  pub tree : IsEmptyWindow s.fine.tiles axis q.0 q.1 (suc r) → node_count (standard_tree s.fine.tiles axis q.0 q.1 (suc r) (light_entries s r)) ≤ budget

-- so it is at each radius from 1 to the step's, with each refuted pair that has a window of each lower one; of a restrict step nothing is asked
abbrev pub HasEnoughForStep : ℕ → RawLink → Type 0
HasEnoughForStep budget (Marker s) = (axis : Axis) (r : ℕ) → r < s.radius → All (HasEnoughAtRadius s budget r axis) (asked_after s axis r)
HasEnoughForStep budget (Restrict s) = Unit {0}

-- so it is with each step
abbrev pub HasEnoughForSteps : ℕ → List RawLink → Type 0
HasEnoughForSteps budget links = All (HasEnoughForStep budget) links

-- The budget of a command is enough: no window that it asks for has more trials, and no standard tree of an empty one has more nodes. A command without a budget needs none.
abbrev pub IsEnoughFor : Names → Word → Type 0
IsEnoughFor names (word.Tiles n list) = Unit {0}
IsEnoughFor names (word.Pattern n s cells) = Unit {0}
IsEnoughFor names (word.Valid p) = Unit {0}
IsEnoughFor names (word.Period p dx dy) = Unit {0}
IsEnoughFor names (word.Fuse s axis u v) = Unit {0}
IsEnoughFor names (word.Cert c) = Unit {0}
IsEnoughFor names (word.Check n bytes) = Unit {0}
IsEnoughFor names (word.Upgrade n c) = Unit {0}
IsEnoughFor names (word.Lighten n c b) = IfOk (chain_named names c) (λ ch. HasEnoughForSteps b ch.steps)
IsEnoughFor names (word.Expand n c w h) = Unit {0}
IsEnoughFor names (word.Image c t) = Unit {0}
IsEnoughFor names (word.Desub n c k p) = Unit {0}
IsEnoughFor names (word.Bound c dx dy) = Unit {0}
IsEnoughFor names (word.Draw p style) = Unit {0}
IsEnoughFor names (word.Json m) = Unit {0}
IsEnoughFor names (word.Dominoes s axis r b) = IfOk (set_named names s) (λ set. HasEnoughAlong set.tiles axis r b)
IsEnoughFor names (word.Surround s axis t u r b) = IfOk (set_named names s) (λ set. HasEnoughTrials set.tiles axis t u r b)
IsEnoughFor names (word.Markers s axis r b) = IfOk (set_named names s) (λ set. HasEnoughAround set.tiles r b)
IsEnoughFor names (word.Same s t) = Unit {0}
IsEnoughFor names (word.Search n s axes side r l b) = IfOk (set_named names s) (λ set. IsEnough (asked axes side r b) set l)
IsEnoughFor names (word.Derive n f axis side r j b) = IfOk (value_named names f) (HasEnoughBehind r b)
IsEnoughFor names (word.Primitive c) = Unit {0}
IsEnoughFor names (word.Seeds c q) = Unit {0}
IsEnoughFor names (word.Census c k t) = Unit {0}
IsEnoughFor names (word.Torus n width height move1 move2 regions) = Unit {0}
IsEnoughFor names (word.Code n t x y w h) = Unit {0}
IsEnoughFor names (word.Induce n t axis) = Unit {0}

-- the reply isn't that a budget is spent
abbrev pub IsUnspent : Reply → Type 0
IsUnspent reply = (line : List ℕ) → reply ≡ spent line → ⊥
