-- Tokens with a space between each two are the first, and the others behind spaces.
use Rattle.std.proofs.Common.{arith, ◌≡◌, ℕ, List, [], ◌∷◌, ◌++◌, suc, ◌-◌, ◌≤◌, length, get_or, take, drop, set, map, ◌+◌, ◌<◌, ◌/◌, ◌%◌, zero, refl, sym, ap, ◌∙◌, append_assoc}
use Rattle.std.proofs.lemmas.List.{append-nil, take_all, take_more_set, take-append-le, drop-drop}
use Rattle.std.proofs.lemmas.Fmt.{decimal_digit, decimal_step}
use Rattle.std.specs.Fmt.{decimal}
use Rattle.wt_text.specs.Words.{spaced}
use Rattle.wt_write.specs.Behind.{behind_spaces}

pub spaced_first : (t : List ℕ) (ts : List (List ℕ)) → spaced (t ∷ ts) ≡ t ++ behind_spaces ts
spaced_first t [] = sym (append-nil t)
spaced_first t (u ∷ us) = ap (λ (x : List ℕ). t ++ 32 ∷ x) (spaced_first u us)

pub behind_both : (xs ys : List (List ℕ)) → behind_spaces (xs ++ ys) ≡ behind_spaces xs ++ behind_spaces ys
behind_both [] ys = refl
behind_both (x ∷ xs) ys = ap (λ (r : List ℕ). 32 ∷ (x ++ r)) (behind_both xs ys) ∙ ap (λ (r : List ℕ). 32 ∷ r) (sym (append_assoc x (behind_spaces xs) (behind_spaces ys)))

row_parts : (ns : List ℕ) → 1 ≤ length ns → spaced (map decimal ns) ≡ decimal (get_or ns 0 0) ++ behind_spaces (map decimal (take (length ns - 1) (drop 1 ns)))
row_parts [] le = absurd (omega arith)
row_parts (n ∷ ns) le = rw (take_all (suc (length ns) - 1) ns (omega arith)) (spaced_first (decimal n) (map decimal ns))

-- a row is written number by number
pub row_written : (old ns : List ℕ) (first : ℕ) (a b c : List ℕ) → 1 ≤ length ns → first ≡ get_or ns 0 0 → a ≡ old ++ decimal first → b ≡ a ++ behind_spaces (map decimal (take (length ns - 1) (drop 1 ns))) → c ≡ b ++ 10 ∷ [] → c ≡ old ++ spaced (map decimal ns) ++ 10 ∷ []
row_written old ns first a b c le e ea eb ec = rw (ec, eb, ea, e, row_parts ns le) (simp append_assoc)

-- a digit behind the first bytes
pub one_digit : (text : List ℕ) (len n : ℕ) → n < 10 → len < length text → take (len + 1) (set text len (48 + n)) ≡ take len text ++ decimal n
one_digit text len n lt inside = take_more_set text len (48 + n) inside ∙ ap (λ (r : List ℕ). take len text ++ r) (sym (decimal_digit n lt))

-- a second digit behind the first
pub two_digits : (text old : List ℕ) (len end n : ℕ) → 10 ≤ n → n < 100 → end < length text → take end text ≡ take len old ++ decimal (n / 10) → take (end + 1) (set text end (48 + n % 10)) ≡ take len old ++ decimal n
two_digits text old len end n le lt inside e =
    take_more_set text end (48 + n % 10) inside
    ∙ ap (λ (r : List ℕ). r ++ (48 + n % 10) ∷ []) e
    ∙ append_assoc (take len old) (decimal (n / 10)) ((48 + n % 10) ∷ [])
    ∙ ap (λ (r : List ℕ). take len old ++ r) (sym (decimal_step n le (omega arith)))

-- numbers cut in two
parts : (k : ℕ) (ns : List ℕ) → behind_spaces (map decimal (take k ns)) ++ behind_spaces (map decimal (drop k ns)) ≡ behind_spaces (map decimal ns)
parts zero ns = refl
parts (suc k) [] = refl
parts (suc k) (n ∷ ns) =
    ap (λ (r : List ℕ). 32 ∷ r) (append_assoc (decimal n) (behind_spaces (map decimal (take k ns))) (behind_spaces (map decimal (drop k ns))))
    ∙ ap (λ (r : List ℕ). 32 ∷ (decimal n ++ r)) (parts k ns)

-- one piece more of the numbers
pub piece_more : (old out new ns : List ℕ) (at k n : ℕ) → k ≡ n → out ++ behind_spaces (map decimal (drop at ns)) ≡ old ++ behind_spaces (map decimal ns)
    → new ≡ out ++ behind_spaces (map decimal (take k (drop at ns))) → new ++ behind_spaces (map decimal (drop (at + n) ns)) ≡ old ++ behind_spaces (map decimal ns)
piece_more old out new ns at k n same before made =
    ap (λ (r : List ℕ). r ++ behind_spaces (map decimal (drop (at + n) ns))) made
    ∙ append_assoc out (behind_spaces (map decimal (take k (drop at ns)))) (behind_spaces (map decimal (drop (at + n) ns)))
    ∙ ap (λ (r : List ℕ). out ++ (behind_spaces (map decimal (take k (drop at ns))) ++ behind_spaces (map decimal r))) (sym (drop-drop n at ns))
    ∙ ap (λ (i : ℕ). out ++ (behind_spaces (map decimal (take k (drop at ns))) ++ behind_spaces (map decimal (drop i (drop at ns))))) (sym same)
    ∙ ap (λ (r : List ℕ). out ++ r) (parts k (drop at ns))
    ∙ before

-- what stood before a piece still does
pub front_kept : (old out new piece : List ℕ) → length old ≤ length out → take (length old) out ≡ old → new ≡ out ++ piece → take (length old) new ≡ old
front_kept old out new piece le e made = ap (take (length old)) made ∙ take-append-le (length old) out piece le ∙ e
