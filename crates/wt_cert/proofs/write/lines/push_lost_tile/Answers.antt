use Rattle.wt_refute.specs.View.{refutation}
use Rattle.wt_cert.specs.Trees.{tree_spelling}
use Rattle.wt_cert.proofs.Written.{lost_written}
use Rattle.wt_cert.proofs.write.lines.push_lost_tile.Goals as goal

pub returns : goal.returns
returns c = lost_written c.args.out.now.items c.push_number.new.out.items c.push_tree.new.out.items c.end_line.new.out.items c.from.result c.args.lost.now.tile (tree_spelling (refutation c.args.lost.now.tree)) c.from.ensures c.in_ok-push_number.ensures.ok c.in_ok-push_tree.ensures c.in_ok-end_line.ensures.ok
