use Rattle.std.proofs.Common.{◌++◌}
use Rattle.wt_text.specs.Lines.{bytes_of}
use Rattle.wt_cert.specs.Spelling.{blocks_lines}
use Rattle.wt_cert.proofs.Blocks.{block_written}
use Rattle.wt_cert.proofs.write.push_blocks.Goals as goal

pub loop-k-preserved : goal.loop-k-preserved
loop-k-preserved c = block_written c.args.version c.args.links.now c.loop-k.k c.index-links-k.result c.loop-k.out.items c.push_link.new.out.items (c.args.out.now.items ++ bytes_of (blocks_lines c.args.version 0 c.args.links.now)) c.loop-k-test.true c.index-links-k.is c.in_ok-push_link.ensures c.loop-k.invariant
