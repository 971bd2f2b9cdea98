use Rattle.std.proofs.Common.{rules, take, ◌≡◌, length}
use Rattle.std.proofs.lemmas.List.{length-take-le}
use Rattle.wt_strip.proofs.Walked.{way_cut}
use Rattle.wt_strip.proofs.Leasts.{cut_first, same_start, same_next}
use Rattle.wt_strip.proofs.least.next_row.Goals as goal

pub returns-then-y-eq0-clause-first : goal.returns-then-y-eq0-clause-first
returns-then-y-eq0-clause-first c = λ e q h missing.
    let s = same_start c.args.sides.now.tiles.now c.args.w c.args.y (take c.args.w c.args.row.now) c.all_allowed.result c.if-y-eq0.true c.requires.narrow c.all_allowed.ensures in
    let b = s.back q h in
    cut_first c.args.w c.first_missing.new.row q (c.first_missing.ensures.first e q b.0 b.1 missing)

pub returns-clause-next : goal.returns-clause-next
returns-clause-next c = λ e.
    let m = c.first_missing-2.ensures.missed e in
    let long : length (take c.args.w c.args.row.now) ≡ c.args.w = length-take-le c.args.w c.args.row.now (search rules) in
    (same_next c.args.sides.now.tiles.now c.args.w c.args.y (take c.args.w c.args.row.now) c.allow_upon.new.allowed c.if-y-eq0.false long c.allow_upon.ensures).there (take c.args.w c.first_missing-2.new.row)
    (length-take-le c.args.w c.first_missing-2.new.row m.0.long, way_cut c.args.sides.now.tiles.now c.allow_upon.new.allowed c.args.w c.first_missing-2.new.row m.0)

pub returns-clause-first : goal.returns-clause-first
returns-clause-first c = λ e q h missing.
    let long : length (take c.args.w c.args.row.now) ≡ c.args.w = length-take-le c.args.w c.args.row.now (search rules) in
    let b = (same_next c.args.sides.now.tiles.now c.args.w c.args.y (take c.args.w c.args.row.now) c.allow_upon.new.allowed c.if-y-eq0.false long c.allow_upon.ensures).back q h in
    cut_first c.args.w c.first_missing-2.new.row q (c.first_missing-2.ensures.first e q b.0 b.1 missing)

pub returns-clause-none : goal.returns-clause-none
returns-clause-none c = λ e q h.
    let long : length (take c.args.w c.args.row.now) ≡ c.args.w = length-take-le c.args.w c.args.row.now (search rules) in
    let b = (same_next c.args.sides.now.tiles.now c.args.w c.args.y (take c.args.w c.args.row.now) c.allow_upon.new.allowed c.if-y-eq0.false long c.allow_upon.ensures).back q h in
    c.first_missing-2.ensures.none e q b.0 b.1
