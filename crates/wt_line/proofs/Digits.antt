-- The first token of a line, by the digits that the line begins with.
use Rattle.std.proofs.Common.{arith, ◌≡◌, ◌≢◌, ℕ, suc, ◌≤◌, ◌<◌, ◌+◌, ◌-◌, Bool, true, false, cond, ◌&&◌, nat_le, nat_eq, List, [], ◌∷◌, length, get_or, take, drop, length-take, length-drop, Some, None, refl, sym, ap, ◌∙◌}
use Rattle.std.specs.Prelude.{option_map}
use Rattle.std.specs.Char.{is_ascii_digit}
use Rattle.std.specs.List.{prefix_len}
use Rattle.std.specs.Str.{all_ascii_digits}
use Rattle.std.proofs.lemmas.Bool.{leb-true, and_parts}
use Rattle.std.proofs.lemmas.Bool.Decides.{nat_tests}
use Rattle.std.proofs.lemmas.List.{take_all}
use Rattle.std.proofs.lemmas.List.Sums.{take_while-cons}
use Rattle.wt_io.specs.Numbers.{digits_of}
use Rattle.wt_text.specs.Words.{tokens, in_first, is_decimal, number}
use Rattle.wt_line.specs.Given.{left, held, held_number}

digit_is_no_space : (b : ℕ) → is_ascii_digit b ≡ true → nat_eq b 32 ≡ false
digit_is_no_space b e =
    let p = and_parts (nat_le 48 b) (nat_le b 57) e in
    let le : 48 ≤ b = leb-true 48 b p.0 in
    grind (arith, nat_tests)

other_test : (b c : ℕ) → b ≢ c → nat_eq b c ≡ false
other_test b c n = grind (arith, nat_tests)

whole_token : (line : List ℕ) → length (digits_of line) ≡ length line → tokens line ≡ digits_of line ∷ []
whole_token [] e = refl
whole_token (b ∷ bs) e = go (is_ascii_digit b) refl (take_while-cons is_ascii_digit b bs) e (whole_token bs)
  where
    go : (d : Bool) → is_ascii_digit b ≡ d → digits_of (b ∷ bs) ≡ cond d (b ∷ digits_of bs) [] → length (digits_of (b ∷ bs)) ≡ suc (length bs) → (length (digits_of bs) ≡ length bs → tokens bs ≡ digits_of bs ∷ []) → tokens (b ∷ bs) ≡ digits_of (b ∷ bs) ∷ []
    go true t k l h = rw (digit_is_no_space b t, k, h (omega (arith, l, ap length k))) refl
    go false t k l h = absurd (omega (arith, l, ap length k))

cut_token : (line : List ℕ) → length (digits_of line) < length line → get_or line (length (digits_of line)) 0 ≡ 32 → tokens line ≡ digits_of line ∷ tokens (drop (suc (length (digits_of line))) line)
cut_token [] lt s = absurd (omega (arith, lt))
cut_token (b ∷ bs) lt s = go (is_ascii_digit b) refl (take_while-cons is_ascii_digit b bs) lt s (cut_token bs)
  where
    go : (d : Bool) → is_ascii_digit b ≡ d → digits_of (b ∷ bs) ≡ cond d (b ∷ digits_of bs) [] → length (digits_of (b ∷ bs)) < suc (length bs) → get_or (b ∷ bs) (length (digits_of (b ∷ bs))) 0 ≡ 32
        → (length (digits_of bs) < length bs → get_or bs (length (digits_of bs)) 0 ≡ 32 → tokens bs ≡ digits_of bs ∷ tokens (drop (suc (length (digits_of bs))) bs))
        → tokens (b ∷ bs) ≡ digits_of (b ∷ bs) ∷ tokens (drop (suc (length (digits_of (b ∷ bs)))) (b ∷ bs))
    go true t k l m h =
        let at : get_or bs (length (digits_of bs)) 0 ≡ 32 = ap (λ (x : List ℕ). get_or (b ∷ bs) (length x) 0) (sym k) ∙ m in
        rw (digit_is_no_space b t, k, h (omega (arith, l, ap length k)) at) refl
    go false t k l m h =
        let at : b ≡ 32 = ap (λ (x : List ℕ). get_or (b ∷ bs) (length x) 0) (sym k) ∙ m in
        rw (at, ap (λ (x : List ℕ). x) (ap (λ (c : ℕ). digits_of (c ∷ bs)) (sym at) ∙ k)) refl

-- the first of some tokens has another byte than digits
abbrev IsOther : List (List ℕ) → Type 0
IsOther [] = ⊥
IsOther (t ∷ ts) = all_ascii_digits t ≡ false

other_token : (line : List ℕ) → length (digits_of line) < length line → get_or line (length (digits_of line)) 0 ≢ 32 → IsOther (tokens line)
other_token [] lt s = absurd (omega (arith, lt))
other_token (b ∷ bs) lt s = go (is_ascii_digit b) refl (take_while-cons is_ascii_digit b bs) lt s (other_token bs)
  where
    longer : (ts : List (List ℕ)) → IsOther ts → IsOther (in_first b ts)
    longer [] o = absurd o
    longer (t ∷ ts) o = rw o (none (is_ascii_digit b))
      where
        none : (x : Bool) → (x && false) ≡ false
        none true = refl
        none false = refl

    fresh : (ts : List (List ℕ)) → is_ascii_digit b ≡ false → IsOther (in_first b ts)
    fresh [] e = rw e refl
    fresh (t ∷ ts) e = rw e refl

    go : (d : Bool) → is_ascii_digit b ≡ d → digits_of (b ∷ bs) ≡ cond d (b ∷ digits_of bs) [] → length (digits_of (b ∷ bs)) < suc (length bs) → get_or (b ∷ bs) (length (digits_of (b ∷ bs))) 0 ≢ 32
        → (length (digits_of bs) < length bs → get_or bs (length (digits_of bs)) 0 ≢ 32 → IsOther (tokens bs)) → IsOther (tokens (b ∷ bs))
    go true t k l m h =
        let at : get_or bs (length (digits_of bs)) 0 ≢ 32 = λ e. m (ap (λ (x : List ℕ). get_or (b ∷ bs) (length x) 0) k ∙ e) in
        rw (digit_is_no_space b t) (longer (tokens bs) (h (omega (arith, l, ap length k)) at))
    go false t k l m h =
        let at : b ≢ 32 = λ e. m (ap (λ (x : List ℕ). get_or (b ∷ bs) (length x) 0) k ∙ e) in
        rw (other_test b 32 at) (fresh (tokens bs) t)

-- ---- as the code sees them

pub digits_short : (line : List ℕ) (n : ℕ) → n ≡ length (digits_of line) → n ≢ length line → n < length line
digits_short line n e other = omega (arith, e, other, length-take (prefix_len is_ascii_digit line) line)

pub token_ends : (line : List ℕ) (n : ℕ) → n ≡ length (digits_of line) → n ≡ length line → tokens line ≡ digits_of line ∷ []
token_ends line n e w = whole_token line (sym e ∙ w)

pub token_cut : (line rest : List ℕ) (n : ℕ) → n ≡ length (digits_of line) → n < length line → get_or line n 0 ≡ 32 → rest ≡ take (length line - (n + 1)) (drop (n + 1) line) → tokens line ≡ digits_of line ∷ tokens rest
token_cut line rest n e lt s r =
    let all : rest ≡ drop (n + 1) line = r ∙ take_all (length line - (n + 1)) (drop (n + 1) line) (omega (arith, length-drop (n + 1) line)) in
    let k : suc (length (digits_of line)) ≡ n + 1 = omega (arith, e) in
    cut_token line (omega (arith, e, lt)) (ap (λ (m : ℕ). get_or line m 0) (sym e) ∙ s) ∙ ap (λ (x : List ℕ). digits_of line ∷ tokens x) (ap (λ (m : ℕ). drop m line) k ∙ sym all)

pub token_other : (line : List ℕ) (n : ℕ) → n ≡ length (digits_of line) → n < length line → get_or line n 0 ≢ 32 → held_number (tokens line) ≡ None
token_other line n e lt s = go (tokens line) (other_token line (omega (arith, e, lt)) (λ h. s (ap (λ (m : ℕ). get_or line m 0) e ∙ h)))
  where
    none : (x : Bool) → (x && false) ≡ false
    none true = refl
    none false = refl

    go : (ts : List (List ℕ)) → IsOther ts → held_number ts ≡ None
    go [] o = absurd o
    go (t ∷ ts) o = let d : is_decimal t ≡ false = rw o (none _) in rw d refl

pub number_read : (more : Bool) (line digits : List ℕ) (ts : List (List ℕ)) (n : ℕ) → more ≡ true → tokens line ≡ digits ∷ ts → Some n ≡ held (number digits) → held_number (left more line) ≡ Some (n, ts)
number_read true line digits ts n m e h = rw e (ap (option_map {U = ℕ × List (List ℕ)} (λ m. (m, ts))) (sym h))
number_read false line digits ts n m e h = absurd cc

pub number_none : (more : Bool) (line digits : List ℕ) (ts : List (List ℕ)) → more ≡ true → tokens line ≡ digits ∷ ts → None ≡ held (number digits) → held_number (left more line) ≡ None
number_none true line digits ts m e h = rw e (ap (option_map {U = ℕ × List (List ℕ)} (λ m. (m, ts))) (sym h))
number_none false line digits ts m e h = absurd cc
