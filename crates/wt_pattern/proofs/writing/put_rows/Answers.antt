use Rattle.std.proofs.Common.{rules, arith, ◌≡◌, ◌-◌, ◌++◌, suc}
use Rattle.wt_text.specs.Lines.{bytes_of}
use Rattle.wt_pattern.specs.PatternRows.{pattern_lines}
use Rattle.wt_pattern.proofs.Written.{row_written, still_before}
use Rattle.wt_pattern.proofs.writing.put_rows.Goals as goal

pub loop-y-preserved : goal.loop-y-preserved
loop-y-preserved c =
    let kept = still_before c.args.out.now.items c.loop-y.out.items _ _ c.push_row.new.out.items c.loop-y.invariant.longer c.loop-y.invariant.before c.in_ok-push_row.ensures.ok in
    record {
      so_far = row_written c.args.p.now c.loop-y.y (c.loop-y.y - 1) c.loop-y.out.items c.push_row.new.out.items (c.args.out.now.items ++ bytes_of (pattern_lines c.args.p.now)) (omega (arith, c.loop-y-test.true)) (rw c.row.ensures.cells at c.in_ok-push_row.ensures.ok) c.loop-y.invariant.so_far;
      within = omega (arith, c.loop-y.invariant.within);
      longer = kept.0;
      before = kept.1;
    }
