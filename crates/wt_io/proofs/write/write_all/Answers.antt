use Rattle.std.proofs.Common.{arith, ◌≡◌, ◌+◌, ◌-◌, List, ℕ, ◌++◌, take, drop, take-add, append_assoc, ap, ◌∙◌, sym, length, length-drop}
use Rattle.std.proofs.lemmas.List.{take_all}
use Rattle.std.specs.Prelude.{Option, None, Some}
use Rattle.std.specs.Io.KnownBytes.{Appends}
use Rattle.wt_io.proofs.write.write_all.Goals as goal

appends_on : (a b c : Option (List ℕ)) (xs ys : List ℕ) → Appends a b xs → Appends b c ys → Appends a c (xs ++ ys)
appends_on None b c xs ys p q = tt
appends_on (Some x) None c xs ys p q = absurd p
appends_on (Some x) (Some y) None xs ys p q = absurd q
appends_on (Some x) (Some y) (Some z) xs ys p q = q ∙ ap (λ r. r ++ ys) p ∙ append_assoc x xs ys

more : (at n : ℕ) (b : List ℕ) → take (at + n) b ≡ take at b ++ take n (take (length b - at) (drop at b))
more at n b = take-add at n b ∙ ap (λ r. take at b ++ take n r) (sym (take_all (length b - at) (drop at b) (omega (arith, length-drop at b))))

pub loop-at-preserved : goal.loop-at-preserved
loop-at-preserved g c = record {
  within = omega (arith, length-drop c.loop-at.at c.args.bytes.now, c.in-Ok.ensures.bound);
  written = rw more (appends_on _ _ _ _ _ c.loop-at.invariant.written c.in-Ok.ensures.bytes);
  kept = c.in-Ok.ensures.cause.kept ∙ c.loop-at.invariant.kept;
}
