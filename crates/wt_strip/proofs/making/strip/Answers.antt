use Rattle.std.proofs.Common.{List, MatchResult, ◌∙◌, subst}
use Rattle.wt_tile.specs.declared.tile.Tile.{Tile}
use Rattle.wt_strip.specs.Stripped.{IsStripped, IsStripEnd}
use Rattle.wt_strip.proofs.Strips.{accepted_of}
use Rattle.wt_strip.proofs.making.strip.Goals as goal

pub returns-clause-accepted : goal.returns-clause-accepted
returns-clause-accepted c =
    accepted_of c.args.set.list.now.tiles c.args.width c.args.limit c.strip_tiles.result
    (subst (λ (ts : List Tile). MatchResult c.strip_tiles.result (λ found. IsStripped ts c.args.width c.args.limit found) (λ end. IsStripEnd ts c.args.width c.args.limit end)) (c.new.ensures ∙ c.tiles.ensures.value) c.strip_tiles.ensures)
