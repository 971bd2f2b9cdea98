-- seeds C q: the fixed 2 by 2 patterns of a power of the loop, each as lower left, lower right, upper left, upper right.
use Rattle.std.specs.Prelude.{ℕ, List, ◌++◌, length, drop, codes, Result, Ok, Err}
use Rattle.std.specs.Fmt.{decimal}
use Rattle.wt_step.specs.declared.raw.RawLink.{RawLink}
use Rattle.wt_chain.specs.declared.raw.RawChain.{RawChain}
use Rattle.wt_chain.specs.declared.raw.End.{End}
use Rattle.wt_chain.specs.declared.raw.End.TheVariants.{Open, Loop}
use Rattle.wt_check.specs.Seeds.{loop_seeds}
use Rattle.wt_session.specs.Names.{Names}
use Rattle.wt_session.specs.Replies.{Reply, says, open_chain, chain_named}
use Rattle.wt_session.specs.Rows.{rows_text}

-- how many there are, and each in a line
abbrev pub seeds_text : List (List ℕ) → List ℕ
seeds_text seeds = codes "seeds " ++ (decimal (length seeds) ++ (codes "\n" ++ rows_text seeds))

-- the reply for the steps and the end of a chain
abbrev pub seeds_by : ℕ → List RawLink → End → Reply
seeds_by q steps Open = open_chain
seeds_by q steps (Loop start renaming expansion) = says (seeds_text (loop_seeds (drop start steps) renaming q))

-- the reply for a chain that was looked up
abbrev pub seeds_of : ℕ → Result RawChain Reply → Reply
seeds_of q (Err stopped) = stopped
seeds_of q (Ok c) = seeds_by q c.steps c.end

-- the reply to `seeds C q`
abbrev pub seeds_reply : Names → List ℕ → ℕ → Reply
seeds_reply names c q = seeds_of q (chain_named names c)
