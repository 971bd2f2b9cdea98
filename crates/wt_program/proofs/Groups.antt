-- The texts of small numbers, made and copied in groups of four bytes.
use Rattle.std.proofs.Common.{arith, ◌≡◌, ◌<◌, ◌≤◌, ◌+◌, ◌*◌, ℕ, List, [], ◌∷◌, ◌++◌, length, get_or, set, take, drop, refl, sym, ◌∙◌, ap, subst, map, append_assoc, inl, inr}
use Rattle.std.proofs.lemmas.List.{drop-take, take-take, take_at, drop_at, take-append-le, length-take-le, length-drop, length-set, take_more_set}
use Rattle.std.proofs.lemmas.Grind.{get_or-set_at}
use Rattle.std.proofs.lemmas.Bool.{cases_lt}
use Rattle.std.proofs.lemmas.Slice.{take-put_mid}
use Rattle.std.proofs.Math.Seq.{take-add}
use Rattle.std.specs.Fmt.{decimal}
use Rattle.wt_text.specs.Words.{spaced}
use borrow.Rule.Slice.PartMut.{put_mid, post_of}
use Rattle.wt_program.specs.Numerals.{IsNumeral}

-- the text of a number is set in its group
pub made : (bytes lens digits now : List ℕ) (k r : ℕ) → r < 256 → length bytes ≡ 1024 → length lens ≡ 256 → now ≡ digits → digits ≡ decimal r → length digits ≤ 3
    → IsNumeral (put_mid (4 * r + 1) k (set bytes (4 * r) 32) now) (set lens r (1 + length digits)) r
made bytes lens digits now k r lt size count same text few =
    let xs = set bytes (4 * r) 32 in
    let whole = put_mid (4 * r + 1) k xs now in
    let n = 1 + length digits in
    let here : get_or (set lens r n) r 0 ≡ n = get_or-set_at lens r r n 0 refl (omega (arith, lt, count)) in
    let long : length now ≡ length digits = ap length same in
    let front : take (4 * r + n) whole ≡ (take (4 * r) bytes ++ 32 ∷ []) ++ now =
    take-put_mid (4 * r + 1) k xs now (4 * r + n) (omega (arith, long)) (omega (arith, lt, size, length-set bytes (4 * r) 32))
    ∙ ap (λ (p : List ℕ). p ++ now) (take_more_set bytes (4 * r) 32 (omega (arith, lt, size))) in
    let group : take n (drop (4 * r) whole) ≡ 32 ∷ decimal r =
    sym (drop-take (4 * r) n whole) ∙ ap (λ (p : List ℕ). drop (4 * r) p) (front ∙ append_assoc (take (4 * r) bytes) (32 ∷ []) now)
    ∙ drop_at (take (4 * r) bytes) (32 ∷ now) (4 * r) (length-take-le (4 * r) bytes (omega (arith, lt, size))) ∙ ap (λ (p : List ℕ). 32 ∷ p) (same ∙ text) in
    record {
      few = subst (λ (m : ℕ). m ≤ 4) (sym here) (omega (arith, few));
      text = subst (λ (m : ℕ). take m (drop (4 * r) whole) ≡ 32 ∷ decimal r) (sym here) group;
    }

kept : (b c lens now : List ℕ) (n t : ℕ) → t < n → take (4 * n) c ≡ take (4 * n) b → get_or now t 0 ≡ get_or lens t 0 → IsNumeral b lens t → IsNumeral c now t
kept b c lens now n t lt same count is =
    let k = get_or lens t 0 in
    let front : (x : List ℕ) → take k (drop (4 * t) x) ≡ drop (4 * t) (take (4 * t + k) (take (4 * n) x)) =
    λ (x : List ℕ). sym (drop-take (4 * t) k x) ∙ ap (λ (p : List ℕ). drop (4 * t) p) (sym (take-take (4 * t + k) (4 * n) x (omega (arith, is.few, lt)))) in
    let group : take k (drop (4 * t) c) ≡ 32 ∷ decimal t = front c ∙ ap (λ (p : List ℕ). drop (4 * t) (take (4 * t + k) p)) same ∙ sym (front b) ∙ is.text in
    record {
      few = subst (λ (m : ℕ). m ≤ 4) (sym count) is.few;
      text = subst (λ (m : ℕ). take m (drop (4 * t) c) ≡ 32 ∷ decimal t) (sym count) group;
    }

-- one number more, and those before it stay
pub one_more : (b c lens now : List ℕ) (n : ℕ) → take (4 * n) c ≡ take (4 * n) b → ((t : ℕ) → t < n → get_or now t 0 ≡ get_or lens t 0) → IsNumeral c now n → ((t : ℕ) → t < n → IsNumeral b lens t)
    → (t : ℕ) → t < n + 1 → IsNumeral c now t
one_more b c lens now n same count is each t lt = elim (cases_lt t n) [
  | inl less ↦ kept b c lens now n t less same (count t less) (each t less)
  | inr le ↦ let e : n ≡ t = omega (arith, lt, le) in subst (λ (m : ℕ). IsNumeral c now m) e is
]

-- the first bytes of a part that was written
front_put : (a k n : ℕ) (xs ys : List ℕ) → a ≤ length xs → n ≤ length ys → take (a + n) (put_mid a k xs ys) ≡ take a xs ++ take n ys
front_put a k n xs ys le few =
    let rest = ys ++ post_of a k xs in
    let long : length (take a xs) ≡ a = length-take-le a xs le in
    take-add a n (put_mid a k xs ys) ∙ ap (λ (p : List ℕ). p ++ take n (drop a (put_mid a k xs ys))) (take_at (take a xs) rest a long)
    ∙ ap (λ (p : List ℕ). take a xs ++ take n p) (drop_at (take a xs) rest a long) ∙ ap (λ (p : List ℕ). take a xs ++ p) (take-append-le n ys (post_of a k xs) few)

-- a group was copied, and n of its bytes count
pub copied : (bytes lens text now : List ℕ) (len k four n t number : ℕ) → t ≡ number → t < 256 → length bytes ≡ 1024 → IsNumeral bytes lens t → n ≡ get_or lens t 0 → len + 6 ≤ length text → four ≡ 4
    → now ≡ take four (drop (4 * t) bytes) → take (len + n) (put_mid len k text now) ≡ take len text ++ 32 ∷ decimal number
copied bytes lens text now len k four n t number e lt size is count room fours same =
    let few : n ≤ 4 = subst (λ (m : ℕ). m ≤ 4) (sym count) is.few in
    let long : length now ≡ 4 = ap length same ∙ length-take-le four (drop (4 * t) bytes) (omega (arith, fours, lt, size, length-drop (4 * t) bytes)) ∙ fours in
    let group : take n now ≡ 32 ∷ decimal t = ap (λ (p : List ℕ). take n p) same ∙ take-take n four (drop (4 * t) bytes) (omega (arith, few, fours)) ∙ ap (λ (m : ℕ). take m (drop (4 * t) bytes)) count ∙ is.text in
    front_put len k n text now (omega (arith, room)) (omega (arith, few, long)) ∙ ap (λ (p : List ℕ). take len text ++ p) (group ∙ ap (λ (m : ℕ). 32 ∷ decimal m) e)

pub made_at : (bytes lens digits now : List ℕ) (k r t : ℕ) → r ≡ t → t < 256 → length bytes ≡ 1024 → length lens ≡ 256 → now ≡ digits → digits ≡ decimal t → length digits ≤ 3
    → IsNumeral (put_mid (4 * r + 1) k (set bytes (4 * r) 32) now) (set lens r (1 + length digits)) t
made_at bytes lens digits now k r t e lt size count same text few =
    subst (λ (m : ℕ). IsNumeral (put_mid (4 * r + 1) k (set bytes (4 * r) 32) now) (set lens r (1 + length digits)) m) e
    (made bytes lens digits now k r (omega (arith, e, lt)) size count same (text ∙ ap decimal (sym e)) few)

-- the line of no number
pub empty_row : (row text : List ℕ) → length row < 1 → 1 ≤ length text → take 1 (set text 0 10) ≡ spaced (map decimal row) ++ 10 ∷ []
empty_row [] text lt some = take_more_set text 0 10 (omega (arith, some))
empty_row (x ∷ xs) text lt some = absurd (omega (arith, lt))
