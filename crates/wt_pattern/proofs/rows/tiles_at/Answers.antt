use Rattle.std.proofs.Common.{arith, ◌≡◌, ◌++◌, ◌∷◌, [], List, sym}
use Rattle.std.proofs.lemmas.Result.{err_from_is_err_and}
use Rattle.wt_text.specs.Lines.{lines}
use Rattle.wt_pattern.specs.TileRows.{tile_rows}
use Rattle.wt_pattern.specs.Numbered.{row_named}
use Rattle.wt_pattern.proofs.TileTurns.{begins, goes_on, ends, is_done}
use Rattle.wt_pattern.proofs.Plain.{rows_plain}
use Rattle.wt_pattern.proofs.rows.tiles_at.Goals as goal

pub loop-init : goal.loop-init
loop-init c = record {
  so_far = rw (c.new-tiles.ensures.items, c.new-names1.ensures.items, c.new-names2.ensures.items) (begins c.args.count (c.args.place.number, lines c.args.place.bytes.now));
  few1 = omega (arith, c.new-names1.ensures.len);
  few2 = omega (arith, c.new-names2.ensures.len);
}

pub returns-in_err-row-clause-read : goal.returns-in_err-row-clause-read
returns-in_err-row-clause-read c =
    let p = err_from_is_err_and c.from_residual.result c.from_residual.ensures.1 in
    rw (p.1, p.2) (ends c.in_err-row.field-0.0 c.loop.tiles.items c.loop.names1.items c.loop.names2.items c.args.count c.loop.counter (c.loop.place.number, lines c.loop.place.bytes.now) (tile_rows c.args.count (c.args.place.number, lines c.args.place.bytes.now)) c.loop-test.true c.in_err-row.ensures.read c.loop.invariant.so_far)

pub loop-preserved : goal.loop-preserved
loop-preserved c = record {
  so_far = rw (c.in_ok-push.ensures.items, c.in_ok-tile.ensures.value, c.in_ok-tile.ensures.named1, c.in_ok-tile.ensures.named2)
      (goes_on c.loop.tiles.items c.loop.names1.items c.loop.names2.items c.args.count c.loop.counter (c.loop.place.number, lines c.loop.place.bytes.now) (row_named c.in_ok-row.row) (c.in_ok-row.next.number, lines c.in_ok-row.next.bytes.now) (tile_rows c.args.count (c.args.place.number, lines c.args.place.bytes.now)) c.loop-test.true c.in_ok-row.ensures.read c.loop.invariant.so_far);
  few1 = omega (arith, c.in_ok-tile.ensures.fewer1, c.loop.invariant.few1);
  few2 = omega (arith, c.in_ok-tile.ensures.fewer2, c.loop.invariant.few2);
}

pub returns-clause-plain : goal.returns-clause-plain
returns-clause-plain c =
    let read = is_done c.loop.tiles.items c.loop.names1.items c.loop.names2.items c.args.count c.loop.counter (c.loop.place.number, lines c.loop.place.bytes.now) (tile_rows c.args.count (c.args.place.number, lines c.args.place.bytes.now)) c.loop-test.false c.loop.invariant.so_far in
    rw (c.new.ensures, c.new-2.ensures, c.new-3.ensures) (rows_plain c.args.count (c.args.place.number, lines c.args.place.bytes.now) (record { tiles = c.loop.tiles.items; names1 = c.loop.names1.items; names2 = c.loop.names2.items }) (c.loop.place.number, lines c.loop.place.bytes.now) c.requires read)
