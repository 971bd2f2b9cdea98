use Rattle.std.proofs.Common.{arith, ◌<◌, ◌^◌, refl, length}
use Rattle.wt_mask.proofs.Bits.{joined_past, joined_more, kept_more}
use Rattle.wt_window.proofs.carry.join_word.Goals as goal

pub returns-then-tile-table-clause-joined : goal.returns-then-tile-table-clause-joined
returns-then-tile-table-clause-joined c = λ j u lj lt w h.
    let some : 0 < c.bits.rest = omega arith in
    let fits : c.bits.rest < 2 ^ 64 = omega arith in
    c.bits.invariant.joined j u lj lt w (joined_past (length c.args.table.now) c.args.first c.args.word c.bits.rest _ some fits refl c.if-tile-table.true j lt) h

pub bits-preserved : goal.bits-preserved
bits-preserved c =
    let some : 0 < c.bits.rest = omega arith in
    let fits : c.bits.rest < 2 ^ 64 = omega arith in
    record {
      old = λ u h. kept_more c.bits.all c.join_into.new.a _ c.join_into.ensures u (c.bits.invariant.old u h);
      joined = joined_more c.args.table.now c.bits.all c.join_into.new.a c.args.first c.args.word c.bits.rest some fits c.join_into.ensures c.bits.invariant.joined;
    }
