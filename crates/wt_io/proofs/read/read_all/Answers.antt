use Rattle.std.proofs.Common.{arith, ◌≡◌, ◌≤◌, ◌+◌, List, ℕ, ◌++◌, take, length, length-append, length-take, append_assoc, ap, ◌∙◌, sym}
use Rattle.std.specs.Prelude.{Option, None, Some}
use Rattle.std.specs.Io.KnownBytes.{Consumes}
use Rattle.wt_io.proofs.read.read_all.Goals as goal

consumes_on : (a b c : Option (List ℕ)) (xs ys : List ℕ) → Consumes a b xs → Consumes b c ys → Consumes a c (xs ++ ys)
consumes_on None b c xs ys p q = tt
consumes_on (Some x) None c xs ys p q = absurd p
consumes_on (Some x) (Some y) None xs ys p q = absurd q
consumes_on (Some x) (Some y) (Some z) xs ys p q = p ∙ ap (λ r. xs ++ r) q ∙ sym (append_assoc xs ys z)

-- a piece more was taken
took : (a b c : Option (List ℕ)) (all piece : List ℕ) (count : ℕ) → Consumes a b all → Consumes b c (take count piece) → count ≤ length piece → (bytes : List ℕ) × Consumes a c bytes × (length bytes ≡ length all + count)
took a b c all piece count p q le = (all ++ take count piece, consumes_on a b c all (take count piece) p q, omega (arith, length-append all (take count piece), length-take count piece))

pub returns-then-count-limit-clause-too_long : goal.returns-then-count-limit-clause-too_long
returns-then-count-limit-clause-too_long g c e =
    let t = took _ _ _ _ _ c.in-Ok.count c.loop-all.invariant.taken c.in-Ok.ensures.bytes.0 (omega (arith, c.in-Ok.ensures.bound)) in
    (t.0, t.1, omega (arith, t.2))

pub returns-then-count-limit-clause-stops : goal.returns-then-count-limit-clause-stops
returns-then-count-limit-clause-stops g c e =
    let t = took _ _ _ _ _ c.in-Ok.count c.loop-all.invariant.taken c.in-Ok.ensures.bytes.0 (omega (arith, c.in-Ok.ensures.bound)) in
    (t.0, t.1, omega (arith, t.2, c.in-Ok.ensures.bound))

pub returns-then-is_err-clause-memory_within : goal.returns-then-is_err-clause-memory_within
returns-then-is_err-clause-memory_within g c e =
    let t = took _ _ _ _ _ c.in-Ok.count c.loop-all.invariant.taken c.in-Ok.ensures.bytes.0 (omega (arith, c.in-Ok.ensures.bound)) in
    (t.0, t.1, omega (arith, t.2))
