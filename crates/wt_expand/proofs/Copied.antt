-- Words that are copied into a row, as far as there is room.
use Rattle.std.proofs.Common.{arith, ◌≡◌, ◌≤◌, ◌+◌, ◌-◌, ◌++◌, ℕ, zero, suc, min, List, [], ◌∷◌, length, take, drop, refl, sym, ◌∙◌, ap, append_assoc, inl, inr}
use Rattle.std.proofs.lemmas.List.{take-take, take_at, drop_at, take_all, length-take, length-drop, take-append-le, length-take-le}
use Rattle.std.proofs.lemmas.Bool.{cases_lt}
use Rattle.std.proofs.Math.Seq.{take-add}
use borrow.Rule.Slice.PartMut.{put_mid, post_of}

-- behind n tiles, of what follows
behind : (n m : ℕ) (xs ys : List ℕ) → length xs ≡ n → take (n + m) (xs ++ ys) ≡ xs ++ take m ys
behind n m xs ys long =
    take-add n m (xs ++ ys) ∙ ap (λ (p : List ℕ). p ++ take m (drop n (xs ++ ys))) (take_at xs ys n long)
    ∙ ap (λ (p : List ℕ). xs ++ take m p) (drop_at xs ys n long)

-- as many of the first m as there is room for
least : (m room n : ℕ) (xs : List ℕ) → n ≡ min m room → take n xs ≡ take room (take m xs)
least m room n xs e = elim (cases_lt m room) [
  | inl lt ↦ let same : n ≡ m = omega (arith, e, lt) in ap (λ (k : ℕ). take k xs) same ∙ sym (take_all room (take m xs) (omega (arith, lt, length-take m xs)))
  | inr le ↦ let same : n ≡ room = omega (arith, e, le) in ap (λ (k : ℕ). take k xs) same ∙ sym (take-take room m xs le)
]

-- c tiles were copied behind the first tiles of a row, and n of them count: m, or as many as there is room for
pub copied : (row tiles now : List ℕ) (len k n m c : ℕ) → len ≤ length row → n ≡ min m (length row - len) → n ≤ c → c ≤ length tiles → now ≡ take c tiles
    → take (len + n) (put_mid len k row now) ≡ take (length row) (take len row ++ take m tiles)
copied row tiles now len k n m c within least_of few whole same =
    let front = take len row in
    let long : length front ≡ len = length-take-le len row within in
    let room : len + (length row - len) ≡ length row = omega (arith, within) in
    let have : length now ≡ c = ap length same ∙ length-take-le c tiles whole in
    let some : take n now ≡ take (length row - len) (take m tiles) = ap (take n) same ∙ take-take n c tiles few ∙ least m (length row - len) n tiles least_of in
    behind len n front (now ++ post_of len k row) long
    ∙ ap (λ (p : List ℕ). front ++ p) (take-append-le n now (post_of len k row) (omega (arith, few, have)) ∙ some)
    ∙ sym (behind len (length row - len) front (take m tiles) long)
    ∙ ap (λ (r : ℕ). take r (front ++ take m tiles)) room

-- the same of a word that lies among others
pub copied_word : (row all now : List ℕ) (len k n m c start s count : ℕ) → start ≡ s → count ≡ m → len ≤ length row → n ≡ min count (length row - len) → n ≤ c → start + c ≤ length all
    → now ≡ take (start + c - start) (drop start all) → take (len + n) (put_mid len k row now) ≡ take (length row) (take len row ++ take m (drop s all))
copied_word row all now len k n m c start s count at size within least_of few whole same =
    let d : start + c - start ≡ c = omega arith in
    copied row (drop start all) now len k n count c within least_of few (omega (arith, length-drop start all, whole)) (same ∙ ap (λ (j : ℕ). take j (drop start all)) d)
    ∙ ap (λ (j : ℕ). take (length row) (take len row ++ take j (drop start all))) size
    ∙ ap (λ (j : ℕ). take (length row) (take len row ++ take m (drop j all))) at

cut_front : (n : ℕ) (xs ys : List ℕ) → take n (take n xs ++ ys) ≡ take n (xs ++ ys)
cut_front zero xs ys = refl
cut_front (suc n) [] ys = refl
cut_front (suc n) (x ∷ xs) ys = ap (λ (zs : List ℕ). x ∷ zs) (cut_front n xs ys)

-- one word was written behind another
pub both_words : (row mid new first second : List ℕ) (len next n : ℕ) → take next mid ≡ take (length row) (take len row ++ first) → length mid ≡ length row
    → take n new ≡ take (length mid) (take next mid ++ second) → take n new ≡ take (length row) (take len row ++ (first ++ second))
both_words row mid new first second len next n one room two =
    two ∙ ap (λ (m : ℕ). take m (take next mid ++ second)) room ∙ ap (λ (p : List ℕ). take (length row) (p ++ second)) one
    ∙ cut_front (length row) (take len row ++ first) second ∙ ap (take (length row)) (append_assoc (take len row) first second)
