use Rattle.std.proofs.Common.{arith, ◌<◌, length}
use Rattle.std.proofs.lemmas.Bool.Decides.{nat_tests}
use Rattle.std.proofs.lemmas.Result.{err_from_is_err_and}
use Rattle.wt_script.specs.Script.{script}
use Rattle.wt_line.specs.Left.{lines_left}
use Rattle.wt_script.proofs.Pieces.{begins, goes_on, fewer, ends, fit_on}
use Rattle.wt_script.proofs.script.parse_script.Goals as goal

pub loop-place-init : goal.loop-place-init
loop-place-init c = record {
  so_far = rw (c.new-commands.ensures.items, c.new-place.ensures.bytes, c.new-place.ensures.number) (begins c.args.bytes.now);
  fits = rw c.new-commands.ensures.items tt;
}

pub returns-in_err-piece-clause-read : goal.returns-in_err-piece-clause-read
returns-in_err-piece-clause-read c =
    let p = err_from_is_err_and c.from_residual.result c.from_residual.ensures.1 in
    let some : 0 < length c.loop-place.place.bytes.now = grind (arith, nat_tests, c.loop-place-test.true, c.is_empty.ensures) in
    rw (p.1, p.2) (ends c.loop-place.commands.items c.in_err-piece.field-0.0 c.loop-place.place.number c.loop-place.place.bytes.now (script c.args.bytes.now) some c.loop-place.invariant.so_far c.in_err-piece.ensures.read)

pub loop-place-smaller : goal.loop-place-smaller
loop-place-smaller c = fewer (lines_left c.loop-place.place) (lines_left c.in_ok-piece.next) c.in_ok-piece.piece c.in_ok-piece.ensures.read

pub loop-place-preserved : goal.loop-place-preserved
loop-place-preserved c = record {
  so_far = rw c.in_ok-keep.ensures (goes_on c.loop-place.commands.items (lines_left c.loop-place.place) c.in_ok-piece.piece (lines_left c.in_ok-piece.next) (script c.args.bytes.now) c.loop-place.invariant.so_far c.in_ok-piece.ensures.read);
  fits = rw c.in_ok-keep.ensures (fit_on c.loop-place.commands.items c.in_ok-piece.piece c.loop-place.invariant.fits c.in_ok-piece.ensures.fits);
}
