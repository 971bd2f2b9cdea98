use Rattle.wt_program.proofs.Counted.{counts_told}
use Rattle.wt_program.proofs.sample.push_tiles.Goals as goal

pub returns : goal.returns
returns c =
    counts_told c.args.cells.now c.count_tiles-counts.result c.args.out.now.items c.push_counts.new.out.items c.args.tiles
    c.count_tiles-counts.ensures.size c.requires.few c.count_tiles-counts.ensures.each c.in_ok-push_counts.ensures
