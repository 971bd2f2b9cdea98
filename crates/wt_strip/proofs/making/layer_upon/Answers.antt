use Rattle.std.proofs.Common.{rules, arith, ◌<◌, ◌-◌, length, refl}
use Rattle.wt_strip.specs.Layers.{IsInLayer}
use Rattle.wt_strip.specs.Listed.{IsUpon}
use Rattle.wt_strip.proofs.Strips.{answer_same, same_made}
use Rattle.wt_strip.proofs.making.layer_upon.Goals as goal

pub returns : goal.returns
returns c =
    let some : 0 < length c.args.made.now = search rules in
    answer_same c.next_layer.result (λ v. v.items) (IsUpon c.args.sides.now.tiles.now c.args.w 1 c.as_slice.result.now) (IsInLayer c.args.sides.now.tiles.now c.args.w (length c.args.made.now)) c.args.w c.args.room
    (same_made c.args.sides.now.tiles.now c.args.w c.requires.wide c.args.made.now (length c.args.made.now - 1) c.as_slice.result.now c.index-made-made.result c.requires.made (λ e. absurd (omega (arith, some, e))) refl c.as_slice.ensures c.index-made-made.is)
    c.next_layer.ensures
