use Rattle.wt_refute.specs.View.{refutation}
use Rattle.wt_cert.specs.Trees.{tree_spelling}
use Rattle.wt_cert.specs.Spelling.{axis_digit, radius_tokens}
use Rattle.wt_cert.proofs.Written.{refutation_written}
use Rattle.wt_cert.proofs.write.lines.push_refutation.Goals as goal

pub returns : goal.returns
returns c =
    refutation_written c.args.out.now.items (axis_digit c.args.entry.now.axis) c.push_axis.new.out.items c.number_behind.new.out.items c.number_behind-2.new.out.items c.radius_behind.new.out.items c.push_tree.new.out.items c.end_line.new.out.items c.from.result c.from-2.result c.args.entry.now.a c.args.entry.now.b (radius_tokens c.args.version c.args.entry.now.radius) (tree_spelling (refutation c.args.entry.now.tree)) c.from.ensures c.from-2.ensures c.in_ok-push_axis.ensures c.in_ok-number_behind.ensures.ok c.in_ok-number_behind-2.ensures.ok c.in_ok-radius_behind.ensures c.in_ok-push_tree.ensures c.in_ok-end_line.ensures.ok
