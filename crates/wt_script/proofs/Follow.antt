-- A script is read piece by piece.
use Rattle.std.proofs.Common.{arith, ◌≡◌, ℕ, zero, suc, ◌+◌, ◌≤◌, List, [], ◌∷◌, length, Option, None, Result, Ok, Err, true, refl, ap}
use Rattle.wt_line.specs.declared.faults.What.{What}
use Rattle.wt_text.specs.Lines.{Line}
use Rattle.wt_text.specs.Readers.{◌then◌, TextFault}
use Rattle.wt_script.specs.declared.word.Command.{Command}
use Rattle.wt_script.specs.Script.{is_skipped, piece_at, in_front, pieces, commands_from}
use Rattle.wt_script.proofs.Takes.{piece_takes}

-- n pieces are enough, and more of them give no more
enough : (most m n : ℕ) (ls : List Line) → length ls ≤ most → length ls ≤ m → pieces most n ls ≡ pieces m n ls
enough zero zero n [] a b = refl
enough zero (suc m) n [] a b = refl
enough (suc most) zero n [] a b = refl
enough (suc most) (suc m) n [] a b = refl
enough zero m n (l ∷ ls) a b = absurd (omega (arith, a))
enough (suc most) zero n (l ∷ ls) a b = absurd (omega (arith, b))
enough (suc most) (suc m) n (l ∷ ls) a b = go (piece_at n (l ∷ ls)) refl (enough most m)
  where
    go : (r : Result (Option Command × (ℕ × List Line)) (TextFault What)) → piece_at n (l ∷ ls) ≡ r → ((k : ℕ) (ks : List Line) → length ks ≤ most → length ks ≤ m → pieces most k ks ≡ pieces m k ks)
        → ◌≡◌ {A = Result (List Command) (TextFault What)} (r then λ x. pieces most x.1.0 x.1.1 then λ cs. Ok (in_front x.0 cs)) (r then λ x. pieces m x.1.0 x.1.1 then λ cs. Ok (in_front x.0 cs))
    go (Err e) h again = refl
    go (Ok x) h again =
        let t = piece_takes n (l ∷ ls) x.0 x.1 h in
        ap (λ (r : Result (List Command) (TextFault What)). r then λ cs. Ok (in_front x.0 cs)) (again x.1.0 x.1.1 (omega (arith, t, a)) (omega (arith, t, b)))

pub followed : (n : ℕ) (l : Line) (ls : List Line) → commands_from n (l ∷ ls) ≡ (piece_at n (l ∷ ls) then λ x. commands_from x.1.0 x.1.1 then λ cs. Ok (in_front x.0 cs))
followed n l ls = go (piece_at n (l ∷ ls)) refl
  where
    go : (r : Result (Option Command × (ℕ × List Line)) (TextFault What)) → piece_at n (l ∷ ls) ≡ r
        → ◌≡◌ {A = Result (List Command) (TextFault What)} (r then λ x. pieces (length ls) x.1.0 x.1.1 then λ cs. Ok (in_front x.0 cs)) (r then λ x. commands_from x.1.0 x.1.1 then λ cs. Ok (in_front x.0 cs))
    go (Err e) h = refl
    go (Ok x) h =
        let t = piece_takes n (l ∷ ls) x.0 x.1 h in
        ap (λ (r : Result (List Command) (TextFault What)). r then λ cs. Ok (in_front x.0 cs)) (enough (length ls) (length x.1.1) x.1.0 x.1.1 (omega (arith, t)) (omega arith))

pub skipped : (n : ℕ) (l : Line) (ls : List Line) → is_skipped l ≡ true → commands_from n (l ∷ ls) ≡ commands_from (n + 1) ls
skipped n l ls e = rw e (go (commands_from (n + 1) ls))
  where
    go : (r : Result (List Command) (TextFault What)) → (r then λ cs. Ok (in_front None cs)) ≡ r
    go (Ok cs) = refl
    go (Err e) = refl
