-- What `image C t` answers.
use Rattle.std.specs.Prelude.{ℕ, nat_lt, if◌then◌else◌, List, drop, codes, Result, Ok, Err}
use Rattle.wt_text.specs.Lines.{bytes_of}
use Rattle.wt_grid.specs.declared.limits.TheConstants.{MAX_SIDE}
use Rattle.wt_grid.specs.Grid.{Grid}
use Rattle.wt_pattern.specs.PatternRows.{pattern_lines}
use Rattle.wt_step.specs.declared.raw.RawLink.{RawLink}
use Rattle.wt_chain.specs.declared.raw.RawChain.{RawChain}
use Rattle.wt_chain.specs.declared.raw.End.{End}
use Rattle.wt_chain.specs.declared.raw.End.TheVariants.{Open, Loop}
use Rattle.wt_chain.specs.Sets.{first_count}
use Rattle.wt_expand.specs.Turn.{turned_tile}
use Rattle.wt_session.specs.Names.{Names}
use Rattle.wt_session.specs.Replies.{Reply, says, limit, no_tile, open_chain, chain_named}

-- the rows of what one turn makes of a tile, within the limits of a pattern
abbrev pub image_text : Grid → Reply
image_text g =
    if nat_lt MAX_SIDE g.width then limit (codes "limit width\n") else if nat_lt MAX_SIDE g.height then limit (codes "limit height\n") else says (bytes_of (pattern_lines g))

-- a tile of the first set of a loop
abbrev pub image_in : List RawLink → List ℕ → ℕ → Reply
image_in loop renaming t = if nat_lt t (first_count loop) then image_text (turned_tile loop renaming t) else no_tile t

-- a tile, as the chain ends
abbrev pub image_by : List RawLink → End → ℕ → Reply
image_by steps Open t = open_chain
image_by steps (Loop start renaming e) t = image_in (drop start steps) renaming t

-- the chain, or why there is none
abbrev pub image_of : ℕ → Result RawChain Reply → Reply
image_of t (Err reply) = reply
image_of t (Ok c) = image_by c.steps c.end t

-- The reply of `image`: the rows of what one turn makes of the tile t. Refused for the name, an open chain, no tile, the width, the height.
abbrev pub image_reply : Names → List ℕ → ℕ → Reply
image_reply names c t = image_of t (chain_named names c)
