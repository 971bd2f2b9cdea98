use Rattle.std.proofs.Common.{arith, ◌≡◌, ◌<◌, ◌∙◌, List, [], ℕ, length, slice_index_or, sym, subst}
use Rattle.wt_strip.specs.Stripped.{AreStuckUnder}
use Rattle.wt_strip.proofs.Faults.{any_default}
use Rattle.wt_strip.proofs.Strips.{stuck_more}
use Rattle.wt_strip.proofs.least.stuck_rows.Goals as goal

pub stuck_in-requires-clause-above : goal.stuck_in-requires-clause-above
stuck_in-requires-clause-above c =
    let i = c.loop-m.invariant in
    let l = i.long in
    let lt : c.loop-m.m < length c.loop-m.stuck.items = omega (arith, l) in
    let here : c.as_slice.result.now ≡ slice_index_or c.loop-m.stuck.items c.loop-m.m [] = c.as_slice.ensures ∙ (c.index.ensures ∙ any_default c.loop-m.stuck.items c.loop-m.m c.index.result.now lt) in
    subst (λ (cs : List ℕ). AreStuckUnder c.args.sides.now.tiles.now c.args.w (length c.args.made.now) c.loop-m.m cs) (sym here) (i.told c.loop-m.m (omega arith))

pub loop-m-preserved : goal.loop-m-preserved
loop-m-preserved c =
    let i = c.loop-m.invariant in
    let more = stuck_more c.args.sides.now.tiles.now c.args.w (length c.args.made.now) c.loop-m.m c.loop-m.stuck.items c.push-in-loop-m.new.self.items c.in_ok-rows.rows.items c.new-in-loop-m.result i.long i.told (c.in_ok-rows.ensures {u = tt}) c.new-in-loop-m.ensures c.in_ok-push-2.ensures.items in
    record { long = more.0; told = more.1 }
