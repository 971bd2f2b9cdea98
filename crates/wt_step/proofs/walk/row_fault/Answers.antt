use Rattle.std.proofs.Common.{arith, rules, ◌≡◌, ◌<◌, ◌≤◌, length, None, sym}
use Rattle.wt_step.specs.Faults.{pair_fault, row_fault}
use Rattle.wt_step.proofs.Passed.{behind, next_row}
use Rattle.wt_step.proofs.Even.{jump, at_end, at_more, at_fault}
use Rattle.wt_step.proofs.walk.row_fault.Goals as goal

pub are_places_at-requires-clause-behind : goal.are_places_at-requires-clause-behind
are_places_at-requires-clause-behind c =
    behind c.args.raw.now c.args.axis c.args.a c.loop-odd.from c.next_odd-b.result c.loop-odd.places c.loop-odd.invariant.placed c.next_odd-b.ensures.least

pub returns-then-b-tiles : goal.returns-then-b-tiles
returns-then-b-tiles c =
    let s = c.args.raw.now in
    let all = row_fault s c.args.axis c.args.a in
    let there = c.if-not-are_places_at.ensures in
    let end : c.next_odd-b.result ≡ length s.fine.tiles = omega (arith, c.if-b-tiles.true, c.count_tiles-tiles.ensures.value) in
    let most : c.next_odd-b.result ≤ length s.fine.tiles = omega (arith, end) in
    let j = jump s c.requires.shaped c.args.axis c.args.a c.loop-odd.from c.next_odd-b.result c.odd_tiles-odd.result c.loop-odd.places all c.loop-odd.invariant.placed there c.odd_tiles-odd.ensures c.next_odd-b.ensures.least most c.next_odd-b.ensures.even c.loop-odd.invariant.left in
    (at_end (pair_fault s c.args.axis c.args.a) (length s.fine.tiles) all (rw end at j), next_row s c.args.axis c.args.a c.loop-odd.places c.requires.shaped (rw end at there))

pub returns-in-Some : goal.returns-in-Some
returns-in-Some c =
    let s = c.args.raw.now in
    let all = row_fault s c.args.axis c.args.a in
    let lt : c.next_odd-b.result < length s.fine.tiles = omega (arith, c.if-b-tiles.false, c.next_odd-b.ensures.most, c.count_tiles-tiles.ensures.value) in
    let most : c.next_odd-b.result ≤ length s.fine.tiles = omega (arith, lt) in
    let j = jump s c.requires.shaped c.args.axis c.args.a c.loop-odd.from c.next_odd-b.result c.odd_tiles-odd.result c.loop-odd.places all c.loop-odd.invariant.placed c.if-not-are_places_at.ensures c.odd_tiles-odd.ensures c.next_odd-b.ensures.least most c.next_odd-b.ensures.even c.loop-odd.invariant.left in
    at_fault (pair_fault s c.args.axis c.args.a) (length s.fine.tiles) all c.next_odd-b.result c.in-Some.fault lt (sym c.in-Some.ensures) j

pub loop-odd-preserved : goal.loop-odd-preserved
loop-odd-preserved c =
    let s = c.args.raw.now in
    let all = row_fault s c.args.axis c.args.a in
    let lt : c.next_odd-b.result < length s.fine.tiles = omega (arith, c.if-b-tiles.false, c.next_odd-b.ensures.most, c.count_tiles-tiles.ensures.value) in
    let most : c.next_odd-b.result ≤ length s.fine.tiles = omega (arith, lt) in
    let none : pair_fault s c.args.axis c.args.a c.next_odd-b.result ≡ None = search rules in
    let j = jump s c.requires.shaped c.args.axis c.args.a c.loop-odd.from c.next_odd-b.result c.odd_tiles-odd.result c.loop-odd.places all c.loop-odd.invariant.placed c.if-not-are_places_at.ensures c.odd_tiles-odd.ensures c.next_odd-b.ensures.least most c.next_odd-b.ensures.even c.loop-odd.invariant.left in
    record {
      left = at_more (pair_fault s c.args.axis c.args.a) (length s.fine.tiles) all c.next_odd-b.result lt none j;
      placed = c.next_places-places.ensures;
      within = omega (arith, lt, c.count_tiles-tiles.ensures.value);
    }
