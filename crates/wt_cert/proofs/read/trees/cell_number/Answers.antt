use Rattle.std.proofs.Common.{arith, rules, ◌≡◌, true}
use Rattle.wt_line.specs.Given.{left}
use Rattle.wt_cert.proofs.Heads.{cell_past, cell_within}
use Rattle.wt_cert.proofs.read.trees.cell_number.Goals as goal

pub returns-then-cell-from-clause-read : goal.returns-then-cell-from-clause-read
returns-then-cell-from-clause-read c =
    let more : c.in-Some.rest.more ≡ true = search rules in
    cell_past c.args.nodes (left c.args.rest.more c.args.rest.line.now) c.in-Some.cell c.in-Some.rest.more c.in-Some.rest.line.now (omega (arith, c.if-nodes-ge-MAX_NODES.false)) c.in-Some.ensures.read more (omega (arith, c.if-cell-from.true, c.from.ensures))

pub returns-clause-read : goal.returns-clause-read
returns-clause-read c =
    let more : c.in-Some.rest.more ≡ true = search rules in
    cell_within c.args.nodes (left c.args.rest.more c.args.rest.line.now) c.in-Some.cell c.in-Some.rest.more c.in-Some.rest.line.now (omega (arith, c.if-nodes-ge-MAX_NODES.false)) c.in-Some.ensures.read more (omega (arith, c.if-cell-from.false, c.from.ensures))
