use Rattle.std.proofs.Common.{arith, rules, ◌≡◌, ◌≤◌, length}
use Rattle.wt_expand.proofs.Copied.{copied_word}
use Rattle.wt_expand.proofs.words.put_word.Goals as goal

pub returns-then-count-le-SHORT-clause-put : goal.returns-then-count-le-SHORT-clause-put
returns-then-count-le-SHORT-clause-put c =
    let whole : length c.args.table.now.tiles ≡ 2112 = search rules in
    copied_word c.args.row.now c.args.table.now.tiles c.copy_from_slice.new.self c.args.len _ c.from-count.result _ 16 c.from-start.result _ c.from-count.result c.from-start.ensures c.from-count.ensures
    c.requires.within (omega (arith, c.if-room-ge-MAX_WORD.true, c.if-count-le-SHORT.true)) c.if-count-le-SHORT.true (omega (arith, whole, c.requires.place, c.from-start.ensures)) c.copy_from_slice.ensures.after

pub returns-then-count-le-MIDDLE-clause-put : goal.returns-then-count-le-MIDDLE-clause-put
returns-then-count-le-MIDDLE-clause-put c =
    let whole : length c.args.table.now.tiles ≡ 2112 = search rules in
    copied_word c.args.row.now c.args.table.now.tiles c.copy_from_slice-then-count-le-MIDDLE.new.self c.args.len _ c.from-count.result _ 32 c.from-start.result _ c.from-count.result c.from-start.ensures c.from-count.ensures
    c.requires.within (omega (arith, c.if-room-ge-MAX_WORD.true, c.if-count-le-MIDDLE.true)) c.if-count-le-MIDDLE.true (omega (arith, whole, c.requires.place, c.from-start.ensures)) c.copy_from_slice-then-count-le-MIDDLE.ensures.after

pub returns-then-room-ge-MAX_WORD-clause-put : goal.returns-then-room-ge-MAX_WORD-clause-put
returns-then-room-ge-MAX_WORD-clause-put c =
    let whole : length c.args.table.now.tiles ≡ 2112 = search rules in
    let few : c.from-count.result ≤ 64 = omega (arith, c.requires.few, c.from-count.ensures) in
    copied_word c.args.row.now c.args.table.now.tiles c.copy_from_slice-then-room-ge-MAX_WORD.new.self c.args.len _ c.from-count.result _ 64 c.from-start.result _ c.from-count.result c.from-start.ensures c.from-count.ensures
    c.requires.within (omega (arith, c.if-room-ge-MAX_WORD.true, few)) few (omega (arith, whole, c.requires.place, c.from-start.ensures)) c.copy_from_slice-then-room-ge-MAX_WORD.ensures.after

pub returns-clause-put : goal.returns-clause-put
returns-clause-put c =
    let whole : length c.args.table.now.tiles ≡ 2112 = search rules in
    copied_word c.args.row.now c.args.table.now.tiles c.copy_from_slice-2.new.self c.args.len _ c.min-some.result _ c.min-some.result c.from-start.result _ c.from-count.result c.from-start.ensures c.from-count.ensures
    c.requires.within c.min-some.ensures (omega arith) (omega (arith, whole, c.requires.place, c.requires.few, c.min-some.ensures, c.from-start.ensures, c.from-count.ensures)) c.copy_from_slice-2.ensures.after
