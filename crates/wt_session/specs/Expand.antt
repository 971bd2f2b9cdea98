-- What `expand N C w h` answers.
use Rattle.std.specs.Prelude.{ℕ, List, Option, Result, Ok, Err}
use Rattle.wt_text.specs.Lines.{bytes_of}
use Rattle.wt_grid.specs.Grid.{Grid}
use Rattle.wt_tile.specs.declared.tile.TileList.{TileList}
use Rattle.wt_pattern.specs.PatternRows.{pattern_lines}
use Rattle.wt_step.specs.declared.raw.RawLink.{RawLink}
use Rattle.wt_chain.specs.declared.raw.RawChain.{RawChain}
use Rattle.wt_chain.specs.declared.raw.End.{End}
use Rattle.wt_chain.specs.declared.raw.End.TheVariants.{Open, Loop}
use Rattle.wt_chain.specs.Sets.{set_at}
use Rattle.wt_scale.specs.Pick.{pick}
use Rattle.wt_session.specs.declared.value.Value.TheVariants.{Pattern}
use Rattle.wt_session.specs.Sheets.{Laid}
use Rattle.wt_session.specs.Names.{Names}
use Rattle.wt_session.specs.Replies.{Reply, binds, open_chain, chain_named}

-- a pattern is bound, and its rows are the answer, the top one first
abbrev pub bound_rows : List ℕ → Option TileList → Grid → Reply
bound_rows n over p = binds n (Pattern (record { pattern = p; over = over })) (bytes_of (pattern_lines p))

-- the pick of this size, over the set of level 0
abbrev pub expanded : List ℕ → List RawLink → End → ℕ → ℕ → Reply
expanded n steps Open w h = open_chain
expanded n steps (Loop start renaming e) w h = bound_rows n (set_at steps 0) (pick steps start renaming e w h)

-- the chain, or why there is none
abbrev pub expand_of : List ℕ → ℕ → ℕ → Result RawChain Reply → Reply
expand_of n w h (Err reply) = reply
expand_of n w h (Ok c) = expanded n c.steps c.end w h

-- the reply of `expand`: the pick of w by h cells, bound to the name n
abbrev pub expand_reply : Names → List ℕ → List ℕ → ℕ → ℕ → Reply
expand_reply names n c w h = expand_of n w h (chain_named names c)
