-- How the tokens of a line and the lines of a text begin.
use Rattle.std.proofs.Common.{arith, ◌≡◌, ◌≢◌, ℕ, suc, ◌+◌, ◌<◌, true, false, nat_eq, List, [], ◌∷◌, ◌++◌, ◌-◌, ◌≤◌, nat_le, length, take, drop, refl, sym, ap, ◌∙◌}
use Rattle.std.specs.Prelude.{All, slice_range}
use Rattle.std.proofs.lemmas.Bool.Decides.{nat_tests}
use Rattle.std.proofs.Common.{length-append, length-drop}
use Rattle.std.proofs.lemmas.List.{take_all, take_at, drop-drop}
use Rattle.wt_io.specs.Unread.{tokens_left}
use Rattle.wt_text.specs.Words.{tokens}
use Rattle.wt_text.specs.Lines.{lines}

other_test : (b c : ℕ) → b ≢ c → nat_eq b c ≡ false
other_test b c n = grind (arith, nat_tests)

-- bytes that are all of another value
front_free : (c b : ℕ) (t : List ℕ) → All (λ x. x ≢ c) (b ∷ t) → nat_eq b c ≡ false
front_free c b t h = other_test b c (h 0 0 (omega arith))

rest_free : (c b : ℕ) (t : List ℕ) → All (λ x. x ≢ c) (b ∷ t) → All (λ x. x ≢ c) t
rest_free c b t h = λ k d lt. h (suc k) d (omega arith)

pub one_token : (t : List ℕ) → All (λ x. x ≢ 32) t → tokens t ≡ t ∷ []
one_token [] h = refl
one_token (b ∷ t) h = rw (front_free 32 b t h, one_token t (rest_free 32 b t h)) refl

pub first_token : (t bs : List ℕ) → All (λ x. x ≢ 32) t → tokens (t ++ 32 ∷ bs) ≡ t ∷ tokens bs
first_token [] bs h = refl
first_token (b ∷ t) bs h = rw (front_free 32 b t h, first_token t bs (rest_free 32 b t h)) refl

pub first_line : (t bs : List ℕ) → All (λ x. x ≢ 10) t → lines (t ++ 10 ∷ bs) ≡ record { text = t; ended = true } ∷ lines bs
first_line [] bs h = refl
first_line (b ∷ t) bs h = rw (front_free 10 b t h, first_line t bs (rest_free 10 b t h)) refl

pub last_line : (b : ℕ) (t : List ℕ) → All (λ x. x ≢ 10) (b ∷ t) → lines (b ∷ t) ≡ record { text = b ∷ t; ended = false } ∷ []
last_line b [] h = rw (front_free 10 b [] h) refl
last_line b (c ∷ t) h = rw (front_free 10 b (c ∷ t) h, last_line c t (rest_free 10 b (c ∷ t) h)) refl

-- a line that is cut at its first space
pub first_of_tokens : (line t bs : List ℕ) → line ≡ t ++ 32 ∷ bs → All (λ x. x ≢ 32) t → tokens line ≡ t ∷ tokens bs
first_of_tokens line t bs e h = ap tokens e ∙ first_token t bs h

-- a text that is cut at its first newline, and one that has none
pub first_of_lines : (bytes t bs : List ℕ) → bytes ≡ t ++ 10 ∷ bs → All (λ x. x ≢ 10) t → lines bytes ≡ record { text = t; ended = true } ∷ lines bs
first_of_lines bytes t bs e h = ap lines e ∙ first_line t bs h

pub only_line : (bytes : List ℕ) → 0 < length bytes → All (λ x. x ≢ 10) bytes → lines bytes ≡ record { text = bytes; ended = false } ∷ lines (take (length bytes - length bytes) (drop (length bytes) bytes))
only_line [] some h = absurd (omega arith)
only_line (b ∷ t) some h = last_line b t h ∙ ap (λ (x : List ℕ). record { text = b ∷ t; ended = false } ∷ lines x) (sym (none_of (length (b ∷ t)) (b ∷ t)))
  where
    none_of : (n : ℕ) (xs : List ℕ) → take (n - n) (drop n xs) ≡ []
    none_of n xs = let z : n - n ≡ 0 = omega arith in rw z refl

is_within : (n m : ℕ) → n ≤ m → nat_le n m ≡ true
is_within n m le = grind (arith, nat_tests)

is_past : (n m : ℕ) → m < n → nat_le n m ≡ false
is_past n m lt = grind (arith, nat_tests)

-- a token of a line that is cut at the next space, and one that no space follows
pub token_at : (line rest t bs : List ℕ) (start : ℕ) → start ≤ length line → rest ≡ take (length line - start) (drop start line) → rest ≡ t ++ 32 ∷ bs → All (λ x. x ≢ 32) t
    → tokens_left (record { line = line; at = start }) ≡ slice_range line start (start + length t) ∷ tokens_left (record { line = line; at = start + length t + 1 })
token_at line rest t bs start le all e h =
    let here : drop start line ≡ t ++ 32 ∷ bs = sym (take_all (length line - start) (drop start line) (omega (arith, length-drop start line))) ∙ sym all ∙ e in
    let long : length line ≡ start + length t + 1 + length bs = omega (arith, length-drop start line, ap length here, length-append t (32 ∷ bs)) in
    let k : start + length t - start ≡ length t = omega arith in
    let one : take (start + length t - start) (t ++ 32 ∷ bs) ≡ t = rw k (take_at t (32 ∷ bs) (length t) refl) in
    let j : start + length t + 1 ≡ start + suc (length t) = omega arith in
    let behind : drop (start + length t + 1) line ≡ bs = rw j (sym (drop-drop (suc (length t)) start line) ∙ ap (drop (suc (length t))) here ∙ past t) in
    rw (is_within start (length line) le, is_within (start + length t + 1) (length line) (omega (arith, long)), here, behind, first_token t bs h)
    (ap (λ (x : List ℕ). x ∷ tokens bs) (sym one))
  where
    past : (t : List ℕ) → drop (suc (length t)) (t ++ 32 ∷ bs) ≡ bs
    past [] = refl
    past (b ∷ t) = past t

pub last_token_at : (line rest : List ℕ) (start : ℕ) → start ≤ length line → rest ≡ take (length line - start) (drop start line) → All (λ x. x ≢ 32) rest
    → tokens_left (record { line = line; at = start }) ≡ slice_range line start (length line) ∷ tokens_left (record { line = line; at = length line + 1 })
last_token_at line rest start le all h =
    let here : drop start line ≡ rest = sym (take_all (length line - start) (drop start line) (omega (arith, length-drop start line))) ∙ sym all in
    rw (is_within start (length line) le, is_past (length line + 1) (length line) (omega arith), here, one_token rest h) (ap (λ (x : List ℕ). x ∷ []) (sym (take_all (length line - start) rest (omega (arith, ap length here, length-drop start line)))))
