use Rattle.std.proofs.Common.{arith, ℕ, ◌≡◌, ◌+◌, ◌∷◌, ◌++◌, List, [], ℤ, Some, suc, drop, slice_index_or, sym, ◌∙◌, ap}
use Rattle.std.proofs.Math.Seq.{drop-cons}
use Rattle.wt_plane.specs.HalfPlanes.{Half}
use Rattle.wt_session.specs.Partitions.{half_of, halves_from}
use Rattle.wt_session.proofs.Made.{led, one_half}
use Rattle.wt_session.proofs.partitions.half_planes.Goals as goal

pub loop-j-preserved : goal.loop-j-preserved
loop-j-preserved c =
    let j = c.loop-j.j in
    let ns = slice_index_or c.args.planes.now j [] in
    let all : drop j c.args.planes.now ≡ ns ∷ drop (suc j) c.args.planes.now = drop-cons c.args.planes.now j [] c.loop-j-test.true in
    let e : half_of ns ≡ Some c.in-Some.plane = sym c.half_plane.ensures ∙ c.in-Some.is in
    let one : j + 1 ≡ suc j = omega arith in
    let made : c.push.new.self.items ≡ c.loop-j.made.items ++ c.in-Some.plane ∷ [] = (c.in_ok-push-in-Some.ensures {u = tt}).items in
    let before : led c.loop-j.made.items (halves_from j (ns ∷ drop (suc j) c.args.planes.now)) ≡ halves_from 0 c.args.planes.now =
    ap (λ (xs : List (List ℤ)). led c.loop-j.made.items (halves_from j xs)) (sym all) ∙ c.loop-j.invariant in
    ap (λ (f : List Half). led f (halves_from (j + 1) (drop (j + 1) c.args.planes.now))) made
    ∙ (ap (λ (k : ℕ). led (c.loop-j.made.items ++ c.in-Some.plane ∷ []) (halves_from (j + 1) (drop k c.args.planes.now))) one
    ∙ one_half c.loop-j.made.items j ns c.in-Some.plane (drop (suc j) c.args.planes.now) (halves_from 0 c.args.planes.now) e before)
