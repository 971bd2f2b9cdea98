use Rattle.std.proofs.Common.{arith, ap, ◌∙◌, ◌+◌, ◌-◌, ℕ, List, take, drop}
use Rattle.wt_io.specs.Devices.{Reading}
use Rattle.wt_io.proofs.Moved.{moved}
use Rattle.wt_io.proofs.mem_source.MemSourceSource.read.Goals as goal

pub returns-clause-bytes : goal.returns-clause-bytes
returns-clause-bytes c =
    let at = c.self.inside.at in
    let n = c.min-count.result in
    let items = c.self.inside.bytes.items in
    moved at n c.self.inside.piece c.args.self.now.left items c.copy_from_slice.new.self c.args.buf.now (ap (λ (r : Reading). r.left) c.self.view_is) c.self.invariant.1 c.self.invariant.0 (omega (arith, c.min-count.ensures, c.min.ensures, c.len.ensures, c.self.invariant)) (c.copy_from_slice.ensures.after ∙ ap (λ (xs : List ℕ). take (at + n - at) (drop at xs)) c.deref-2.ensures.value)
