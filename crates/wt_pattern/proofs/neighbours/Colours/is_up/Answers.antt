use Rattle.wt_pattern.proofs.RowFaults.{by_colours}
use Rattle.wt_pattern.proofs.neighbours.Colours.is_up.Goals as goal

pub returns : goal.returns
returns c =
    let k = c.args.self.now in
    rw (c.from.ensures, c.from-2.ensures) (by_colours k.tiles.now k.east k.north k.west k.south k.each c.args.a c.args.b c.requires.first c.requires.second).1
