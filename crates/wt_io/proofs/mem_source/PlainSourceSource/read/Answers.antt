use Rattle.std.proofs.Common.{arith, ap, ◌∙◌, ◌+◌, ◌-◌, ℕ, List, take, drop, length}
use Rattle.wt_io.proofs.Moved.{moved}
use Rattle.wt_io.proofs.mem_source.PlainSourceSource.read.Goals as goal

pub returns-clause-bytes : goal.returns-clause-bytes
returns-clause-bytes c =
    let at = c.self.inside.at in
    let n = c.min-count.result in
    let items = c.self.inside.bytes.items in
    moved at n (length items + 1) c.args.self.now items c.copy_from_slice.new.self c.args.buf.now c.self.view_is c.self.invariant (omega arith) (omega (arith, c.min-count.ensures, c.len.ensures, c.self.invariant)) (c.copy_from_slice.ensures.after ∙ ap (λ (xs : List ℕ). take (at + n - at) (drop at xs)) c.deref.ensures.value)
