use Rattle.std.proofs.Common.{arith, ap, ◌∙◌, length, List, ℕ, replicate}
use Rattle.std.proofs.lemmas.List.{length-replicate, length-set}
use Rattle.wt_grid.specs.declared.limits.TheConstants.{MAX_COLOURS}
use Rattle.wt_mask.proofs.Meets.{met_none, met_more}
use Rattle.wt_mask.proofs.sides.side.Goals as goal

pub loop-u-init : goal.loop-u-init
loop-u-init c = record {
  long = ap length c.no_masks-rows.ensures ∙ length-replicate {A = List ℕ} MAX_COLOURS (replicate 4 0);
  met = λ colour lt. rw c.no_masks-rows.ensures (met_none c.args.tiles.now c.args.way colour lt);
}

pub loop-u-preserved : goal.loop-u-preserved
loop-u-preserved c =
    let long = c.loop-u.invariant.long in
    record {
      long = grind (arith, length-set, long);
      met = met_more c.args.tiles.now c.args.way c.loop-u.u c.loop-u.rows c.set_bit.new.mask c.from-colour.result (cc) (omega arith) c.set_bit.ensures c.loop-u.invariant.met;
    }
