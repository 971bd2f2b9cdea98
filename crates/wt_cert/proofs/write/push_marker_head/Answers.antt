use Rattle.wt_cert.specs.Spelling.{axis_digit, side_word}
use Rattle.wt_cert.proofs.Blocks.{head_written}
use Rattle.wt_cert.proofs.write.push_marker_head.Goals as goal

pub returns : goal.returns
returns c =
    head_written c.args.out.now.items c.push_word.new.out.items c.number_behind.new.out.items c.push_word-2.new.out.items c.push_axis.new.out.items c.push_word-3.new.out.items c.push_side.new.out.items c.push_word-4.new.out.items c.number_behind-2.new.out.items c.end_line.new.out.items (axis_digit c.args.step.now.axis) (side_word c.args.step.now.side) c.args.k c.from.result c.args.step.now.radius c.from.ensures c.in_ok-push_word.ensures.ok c.in_ok-number_behind.ensures.ok c.in_ok-push_word-2.ensures.ok c.in_ok-push_axis.ensures c.in_ok-push_word-3.ensures.ok c.in_ok-push_side.ensures c.in_ok-push_word-4.ensures.ok c.in_ok-number_behind-2.ensures.ok c.in_ok-end_line.ensures.ok
