-- Bytes that move from a place of a list to the front of a buffer.
use Rattle.std.proofs.Common.{arith, ◌≡◌, ◌≤◌, ◌<◌, ◌+◌, ◌-◌, ℕ, List, [], ◌++◌, take, drop, length, min, length-take, length-drop, length-append, sym, ap, ◌∙◌}
use Rattle.std.proofs.lemmas.List.{take_at, take-append-drop, drop-drop}
use Rattle.std.proofs.Math.ListN.{drop_of_length-le}

-- they are the next bytes, and the others are left; a buffer with room takes none only where none is left
pub moved : (at n most : ℕ) (left bytes front buf : List ℕ) → drop at bytes ≡ left → at ≤ length bytes → 0 < most → n ≡ min (length buf) (min most (length bytes - at)) → front ≡ take (at + n - at) (drop at bytes)
    → (left ≡ take n (front ++ drop n buf) ++ drop (at + n) bytes) × (n ≡ 0 → 0 < length (front ++ drop n buf) → drop (at + n) bytes ≡ [])
moved at n most left bytes front buf here within some count e =
    let k : at + n - at ≡ n = omega arith in
    let piece : front ≡ take n (drop at bytes) = e ∙ ap (λ (m : ℕ). take m (drop at bytes)) k in
    let long : length front ≡ n = ap length piece ∙ omega (arith, length-take n (drop at bytes), length-drop at bytes) in (
      sym here ∙ sym (take-append-drop n (drop at bytes)) ∙ ap (λ (x : List ℕ). x ++ drop n (drop at bytes)) (sym piece ∙ sym (take_at front (drop n buf) n long))
          ∙ ap (λ (x : List ℕ). take n (front ++ drop n buf) ++ x) (drop-drop n at bytes),
      λ z s. drop_of_length-le bytes (omega (arith, s, length-append front (drop n buf), length-drop n buf)),
    )
