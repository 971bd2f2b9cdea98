-- A set of which no vector is a period of large valid patterns has no wrapping rectangle.
use Rattle.std.proofs.Common.{arith, suc, ◌≤◌, inl}
use Rattle.std.specs.Prelude.{pos}
use Rattle.wt_chain.specs.declared.raw.RawChain.{RawChain}
use Rattle.wt_chain.specs.Looped.{first_tiles}
use Rattle.wt_scale.specs.Holds.{HasNoPeriod}
use Rattle.wt_scale.specs.Loops.{loop_size}
use Rattle.wt_scale.specs.Vectors.{digits}
use Rattle.wt_scale.proofs.Digits.{below_digits}
use Rattle.wt_periodic.specs.Repeats.{repeated}
use Rattle.wt_periodic.specs.NoWraps.{HasNoWrap}
use Rattle.wt_periodic.proofs.Repeats.{is_periodic}

-- Repeated to the size past which its width is no period, a wrapping rectangle would have it as one.
pub never_wraps : (c : RawChain) → HasNoPeriod c → HasNoWrap c
never_wraps c none loop w h g p =
    let wide : 1 ≤ g.width = p.grid.wide in
    let r = is_periodic (first_tiles loop) w h g p (suc (loop_size loop (digits g.width) g.width)) (suc (loop_size loop (digits g.width) g.width)) (omega arith) (omega arith) in
    none loop (pos g.width) (pos 0) g.width (digits g.width) (omega arith) (omega arith) (below_digits g.width) (inl wide)
    (repeated g (suc (loop_size loop (digits g.width) g.width)) (suc (loop_size loop (digits g.width) g.width))) r.pattern (omega arith) (omega arith) r.right
