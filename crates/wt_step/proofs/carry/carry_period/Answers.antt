use Rattle.std.proofs.Common.{ℤ, pos, ◌≡◌, ◌↔◌, ◌≤◌, sym, subst}
use Rattle.std.proofs.lemmas.Int.{to_z-of_z}
use mir.Syntax.{w64}
use Rattle.wt_grid.specs.Grid.{Grid, IsGrid}
use Rattle.wt_pattern.specs.Periods.{IsPeriod}
use Rattle.wt_step.specs.Views.{link_of}
use Rattle.wt_step.specs.Coarse.{IsDesubstitution}
use Rattle.wt_step.specs.Carried.{IsCountedBy, magnitude, carried_vector}
use Rattle.wt_step.proofs.CarriedVectors.{is_good, value, period, shorter, zeros}
use Rattle.wt_step.proofs.carry.carry_period.Goals as goal

pub returns-clause-value : goal.returns-clause-value
returns-clause-value c =
    let l = link_of c.args.link in
    let same : c.carried_vector.result ≡ carried_vector l c.args.p.now c.args.dx c.args.dy = rw (to_z-of_z w64 c.args.dx c.ranges.dx, to_z-of_z w64 c.args.dy c.ranges.dy) at c.carried_vector.ensures in
    subst (λ (v : ℤ × ℤ). (q : Grid) → IsGrid q → IsDesubstitution l c.args.p.now q → IsCountedBy l q c.args.dx c.args.dy v) (sym same)
    (value c.args.p.now c.args.dx c.args.dy c.requires.period l (is_good c.args.link) c.requires.pattern c.requires.room)

pub returns-clause-period : goal.returns-clause-period
returns-clause-period c =
    let l = link_of c.args.link in
    let same : c.carried_vector.result ≡ carried_vector l c.args.p.now c.args.dx c.args.dy = rw (to_z-of_z w64 c.args.dx c.ranges.dx, to_z-of_z w64 c.args.dy c.ranges.dy) at c.carried_vector.ensures in
    subst (λ (v : ℤ × ℤ). (q : Grid) → IsGrid q → IsDesubstitution l c.args.p.now q → IsPeriod q v.0 v.1) (sym same)
    (period c.args.p.now c.args.dx c.args.dy c.requires.period l (is_good c.args.link) c.requires.pattern c.requires.room)

pub returns-clause-shorter : goal.returns-clause-shorter
returns-clause-shorter c =
    let l = link_of c.args.link in
    let same : c.carried_vector.result ≡ carried_vector l c.args.p.now c.args.dx c.args.dy = rw (to_z-of_z w64 c.args.dx c.ranges.dx, to_z-of_z w64 c.args.dy c.ranges.dy) at c.carried_vector.ensures in
    subst (λ (v : ℤ × ℤ). (magnitude v.0 ≤ magnitude c.args.dx) × (magnitude v.1 ≤ magnitude c.args.dy)) (sym same)
    (shorter c.args.p.now c.args.dx c.args.dy c.requires.period l (is_good c.args.link) c.requires.pattern c.requires.room)

pub returns-clause-zero : goal.returns-clause-zero
returns-clause-zero c =
    let l = link_of c.args.link in
    let same : c.carried_vector.result ≡ carried_vector l c.args.p.now c.args.dx c.args.dy = rw (to_z-of_z w64 c.args.dx c.ranges.dx, to_z-of_z w64 c.args.dy c.ranges.dy) at c.carried_vector.ensures in
    subst (λ (v : ℤ × ℤ). ((v.0 ≡ pos 0) ↔ (c.args.dx ≡ pos 0)) × ((v.1 ≡ pos 0) ↔ (c.args.dy ≡ pos 0))) (sym same)
    (zeros c.args.p.now c.args.dx c.args.dy c.requires.period l (is_good c.args.link) c.requires.pattern c.requires.room)
