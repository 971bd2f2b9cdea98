-- Numbers by first coming are in order, and the names seen are apart.
use Rattle.std.proofs.Common.{rules, arith, ◌≡◌, ℕ, zero, suc, ◌+◌, ◌≤◌, ◌<◌, if◌then◌else◌, Bool, true, false, cond, not, ◌&&◌, ◌||◌, nat_eq, List, [], ◌∷◌, ◌++◌, length, refl, sym, ap, ◌∙◌, subst, length-append, eq-eqb}
use Rattle.wt_tile.specs.Sets.{is_among, apart}
use Rattle.std.specs.Str.{bytes_eq}
use Rattle.std.proofs.lemmas.Slice.Eq.{bytes_eq-Decides}
use Rattle.std.proofs.lemmas.Bool.Decides.{nat_tests}
use Rattle.wt_names.specs.Numbering.{place, seen_after, numbered, all_seen, InOrder}

place_among : (x : List ℕ) (ys : List (List ℕ)) → is_among x ys ≡ true → place x ys < length ys
place_among x [] h = absurd cc
place_among x (y ∷ ys) h = go (bytes_eq x y) (is_among x ys) (place_among x ys) h
  where
    go : (b c : Bool) → (c ≡ true → place x ys < length ys) → (b || c) ≡ true → cond b 0 (suc (place x ys)) < suc (length ys)
    go true c r k = omega arith
    go false c r k = omega (arith, r k)

pub place_new : (x : List ℕ) (ys : List (List ℕ)) → is_among x ys ≡ false → place x ys ≡ length ys
place_new x [] h = refl
place_new x (y ∷ ys) h = go (bytes_eq x y) (is_among x ys) (place_new x ys) h
  where
    go : (b c : Bool) → (c ≡ false → place x ys ≡ length ys) → (b || c) ≡ false → cond b 0 (suc (place x ys)) ≡ suc (length ys)
    go true c r k = absurd cc
    go false c r k = ap suc (r k)

not_equal : (a b : ℕ) → a < b → nat_eq a b ≡ false
not_equal a b lt = grind (arith, nat_tests)

pub numbered_in_order : (seen xs : List (List ℕ)) → InOrder (length (all_seen seen xs)) (length seen) (numbered seen xs)
numbered_in_order seen [] = refl
numbered_in_order seen (x ∷ xs) = go (is_among x seen) refl (numbered_in_order (seen_after seen x) xs)
  where
    go : (b : Bool) → is_among x seen ≡ b → InOrder (length (all_seen (if b then seen else seen ++ x ∷ []) xs)) (length (if b then seen else seen ++ x ∷ [])) (numbered (if b then seen else seen ++ x ∷ []) xs)
        → (place x seen ≤ length seen) × InOrder (length (all_seen (if b then seen else seen ++ x ∷ []) xs)) (if nat_eq (place x seen) (length seen) then suc (length seen) else length seen) (numbered (if b then seen else seen ++ x ∷ []) xs)
    go true e r =
        let lt : place x seen < length seen = place_among x seen e in
        (omega (arith, lt), rw (not_equal (place x seen) (length seen) lt) r)
    go false e r =
        let same : place x seen ≡ length seen = place_new x seen e in
        let test : nat_eq (place x seen) (length seen) ≡ true = eq-eqb _ _ same in
        let one : length (seen ++ x ∷ []) ≡ suc (length seen) = omega (arith, length-append seen (x ∷ [])) in
        let P : ℕ → Type 0 = λ n. InOrder (length (all_seen (seen ++ x ∷ []) xs)) n (numbered (seen ++ x ∷ []) xs) in
        (omega (arith, same), rw test (subst P one r))

none_more : (y x : List ℕ) (ys : List (List ℕ)) → is_among y ys ≡ false → bytes_eq y x ≡ false → is_among y (ys ++ x ∷ []) ≡ false
none_more y x [] h e = rw e refl
none_more y x (z ∷ ys) h e = go (bytes_eq y z) (is_among y ys) (λ k. none_more y x ys k e) h
  where
    go : (b c : Bool) → (c ≡ false → is_among y (ys ++ x ∷ []) ≡ false) → (b || c) ≡ false → (b || is_among y (ys ++ x ∷ [])) ≡ false
    go true c r k = absurd cc
    go false c r k = r k

turned : (x y : List ℕ) → bytes_eq x y ≡ false → bytes_eq y x ≡ false
turned x y e = go (bytes_eq y x) refl
  where
    go : (b : Bool) → bytes_eq y x ≡ b → b ≡ false
    go false k = refl
    go true k = let same : y ≡ x = (bytes_eq-Decides y x).0 k in let t : bytes_eq x y ≡ true = (bytes_eq-Decides x y).1 (sym same) in absurd cc

apart_more : (x : List ℕ) (ys : List (List ℕ)) → apart ys ≡ true → is_among x ys ≡ false → apart (ys ++ x ∷ []) ≡ true
apart_more x [] a n = refl
apart_more x (y ∷ ys) a n = go (is_among y ys) refl (apart ys) (bytes_eq x y) refl (is_among x ys) (apart_more x ys) a n (none_more y x ys)
  where
    go : (b : Bool) → is_among y ys ≡ b → (c : Bool) (d : Bool) → bytes_eq x y ≡ d → (e : Bool) → (c ≡ true → e ≡ false → apart (ys ++ x ∷ []) ≡ true) → (not b && c) ≡ true → (d || e) ≡ false
        → (is_among y ys ≡ false → bytes_eq y x ≡ false → is_among y (ys ++ x ∷ []) ≡ false) → (not (is_among y (ys ++ x ∷ [])) && apart (ys ++ x ∷ [])) ≡ true
    go true p c d q e r s t f = absurd cc
    go false p c true q e r s t f = absurd cc
    go false p c false q e r s t f = let k : is_among y (ys ++ x ∷ []) ≡ false = f p (turned x y q) in let m : apart (ys ++ x ∷ []) ≡ true = r s t in rw (k, m) refl

pub seen_apart : (seen xs : List (List ℕ)) → apart seen ≡ true → apart (all_seen seen xs) ≡ true
seen_apart seen [] a = a
seen_apart seen (x ∷ xs) a = seen_apart (seen_after seen x) xs (go (is_among x seen) refl)
  where
    go : (b : Bool) → is_among x seen ≡ b → apart (if b then seen else seen ++ x ∷ []) ≡ true
    go true e = a
    go false e = apart_more x seen a e
