use Rattle.std.proofs.Common.{rules, arith, ◌+◌, ◌-◌, ◌≡◌, ◌++◌, take, drop, map}
use Rattle.std.specs.Fmt.{decimal}
use Rattle.wt_write.specs.Behind.{behind_spaces}
use Rattle.wt_write.proofs.Spaces.{piece_more, front_kept}
use Rattle.wt_write.proofs.rows.push_numbers.Goals as goal

pub loop-at-preserved : goal.loop-at-preserved
loop-at-preserved c =
    let k = c.loop-at.at + c.min-count.result - c.loop-at.at in
    let piece = behind_spaces (map decimal (take k (drop c.loop-at.at c.args.numbers.now))) in
    let made : c.extend_from_slice.new.self.items ≡ c.loop-at.out.items ++ piece = search rules in
    record {
      within = search rules;
      so_far = piece_more c.args.out.now.items c.loop-at.out.items c.extend_from_slice.new.self.items c.args.numbers.now c.loop-at.at k c.min-count.result (omega arith) c.loop-at.invariant.so_far made;
      longer = search rules;
      before = front_kept c.args.out.now.items c.loop-at.out.items c.extend_from_slice.new.self.items piece c.loop-at.invariant.longer c.loop-at.invariant.before made;
    }
