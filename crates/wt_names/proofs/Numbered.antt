-- Numbers and names, both ways.
use Rattle.std.proofs.Common.{rules, arith, ◌≡◌, ◌⊎◌, ℕ, zero, suc, ◌+◌, ◌≤◌, ◌<◌, ◌≢◌, if◌then◌else◌, Bool, true, false, cond, not, ◌&&◌, ◌||◌, nat_eq, List, [], ◌∷◌, ◌++◌, length, take, drop, refl, sym, ap, ◌∙◌, append_assoc, subst, inl, inr, length-append, eq-eqb}
use Rattle.wt_tile.specs.Sets.{is_among, apart}
use Rattle.std.specs.Str.{bytes_eq}
use Rattle.std.proofs.lemmas.Slice.Eq.{bytes_eq-Decides}
use Rattle.std.proofs.lemmas.List.{append-nil, take_all}
use Rattle.std.proofs.lemmas.Bool.{eqb-true, eqb-false, and_parts, not-true}
use Rattle.wt_names.specs.Numbering.{place, seen_after, numbered, all_seen, name_at, named, InOrder}

same_name : (x y : List ℕ) → bytes_eq x y ≡ true → x ≡ y
same_name x y = (bytes_eq-Decides x y).0

-- a name that is among some stands at its place
name_split : (x y : List ℕ) (ys more : List (List ℕ)) (b c : Bool) → bytes_eq x y ≡ b → (c ≡ true → name_at (ys ++ more) (place x ys) ≡ x) → (b || c) ≡ true
    → name_at (y ∷ (ys ++ more)) (cond b 0 (suc (place x ys))) ≡ x
name_split x y ys more true c e rest h = sym (same_name x y e)
name_split x y ys more false c e rest h = rest h

name_place : (x : List ℕ) (ys more : List (List ℕ)) → is_among x ys ≡ true → name_at (ys ++ more) (place x ys) ≡ x
name_place x [] more h = absurd cc
name_place x (y ∷ ys) more h = name_split x y ys more (bytes_eq x y) (is_among x ys) refl (name_place x ys more) h

-- a new name stands at the end
new_split : (x y : List ℕ) (ys more : List (List ℕ)) (b c : Bool) → bytes_eq x y ≡ b → (c ≡ false → name_at ((ys ++ x ∷ []) ++ more) (place x ys) ≡ x) → (b || c) ≡ false
    → name_at (y ∷ ((ys ++ x ∷ []) ++ more)) (cond b 0 (suc (place x ys))) ≡ x
new_split x y ys more true c e rest h = absurd cc
new_split x y ys more false c e rest h = rest h

name_new : (x : List ℕ) (ys more : List (List ℕ)) → is_among x ys ≡ false → name_at ((ys ++ x ∷ []) ++ more) (place x ys) ≡ x
name_new x [] more h = refl
name_new x (y ∷ ys) more h = new_split x y ys more (bytes_eq x y) (is_among x ys) refl (name_new x ys more) h

after_split : (x : List ℕ) (seen more : List (List ℕ)) (b : Bool) → is_among x seen ≡ b → name_at (cond b seen (seen ++ x ∷ []) ++ more) (place x seen) ≡ x
after_split x seen more true e = name_place x seen more e
after_split x seen more false e = name_new x seen more e

-- what is seen stays in front
seen_front : (seen xs : List (List ℕ)) → (more : List (List ℕ)) × (all_seen seen xs ≡ seen ++ more)
seen_front seen [] = ([], sym (append-nil seen))
seen_front seen (x ∷ xs) =
    let r = seen_front (seen_after seen x) xs in
    let s = grown (is_among x seen) in
    (s.0 ++ r.0, r.1 ∙ ap (λ (ys : List (List ℕ)). ys ++ r.0) s.1 ∙ append_assoc seen s.0 r.0)
  where
    grown : (b : Bool) → (more : List (List ℕ)) × (cond b seen (seen ++ x ∷ []) ≡ seen ++ more)
    grown true = ([], sym (append-nil seen))
    grown false = (x ∷ [], refl)

-- numbers by first coming, read back as names
pub names_again : (seen xs : List (List ℕ)) → named (all_seen seen xs) (numbered seen xs) ≡ xs
names_again seen [] = refl
names_again seen (x ∷ xs) =
    let f = seen_front (seen_after seen x) xs in
    let here : name_at (all_seen (seen_after seen x) xs) (place x seen) ≡ x =
    ap (λ (ys : List (List ℕ)). name_at ys (place x seen)) f.1 ∙ after_split x seen f.0 (is_among x seen) refl in
    let rest = names_again (seen_after seen x) xs in
    cc

-- ---- the other way

pub self_equal : (x : List ℕ) → bytes_eq x x ≡ true
self_equal x = (bytes_eq-Decides x x).1 refl

among_name : (names : List (List ℕ)) (c : ℕ) → c < length names → is_among (name_at names c) names ≡ true
among_name [] c lt = absurd (omega arith)
among_name (x ∷ xs) zero lt = rw (self_equal x) refl
among_name (x ∷ xs) (suc c) lt = or_right (bytes_eq (name_at xs c) x) (is_among (name_at xs c) xs) (among_name xs c (omega arith))
  where
    or_right : (a b : Bool) → b ≡ true → (a || b) ≡ true
    or_right true b e = refl
    or_right false b e = e

-- a name that is none of some differs from each
differs : (x : List ℕ) (names : List (List ℕ)) (c : ℕ) → is_among x names ≡ false → c < length names → bytes_eq (name_at names c) x ≡ false
differs x names c none lt = go (bytes_eq (name_at names c) x) refl
  where
    go : (b : Bool) → bytes_eq (name_at names c) x ≡ b → bytes_eq (name_at names c) x ≡ false
    go false e = e
    go true e =
        let same : name_at names c ≡ x = same_name (name_at names c) x e in
        let P : List ℕ → Type 0 = λ y. is_among y names ≡ true in
        let among : is_among x names ≡ true = subst P same (among_name names c lt) in
        absurd cc

-- a name that was seen has its number
old_name : (names : List (List ℕ)) (n c : ℕ) → apart names ≡ true → c < n → n ≤ length names
    → (is_among (name_at names c) (take n names) ≡ true) × (place (name_at names c) (take n names) ≡ c)
old_name [] n c a lt le = absurd (omega arith)
old_name (x ∷ xs) zero c a lt le = absurd (omega arith)
old_name (x ∷ xs) (suc n) zero a lt le = rw (self_equal x) (refl, refl)
old_name (x ∷ xs) (suc n) (suc c) a lt le =
    let p = and_parts (not (is_among x xs)) (apart xs) a in
    let d = differs x xs c (not-true (is_among x xs) p.0) (omega arith) in
    let r = old_name xs n c p.1 (omega arith) (omega arith) in
    rw d (r.0, ap suc r.1)

-- the next name wasn't seen
new_name : (names : List (List ℕ)) (n : ℕ) → apart names ≡ true → n < length names
    → (is_among (name_at names n) (take n names) ≡ false) × (place (name_at names n) (take n names) ≡ n) × (take n names ++ name_at names n ∷ [] ≡ take (suc n) names)
new_name [] n a lt = absurd (omega arith)
new_name (x ∷ xs) zero a lt = (refl, refl, refl)
new_name (x ∷ xs) (suc n) a lt =
    let p = and_parts (not (is_among x xs)) (apart xs) a in
    let d = differs x xs n (not-true (is_among x xs) p.0) (omega arith) in
    let r = new_name xs n p.1 (omega arith) in
    rw d (r.0, ap suc r.1, ap (λ (ys : List (List ℕ)). x ∷ ys) r.2)

reaches : (total n : ℕ) (ns : List ℕ) → InOrder total n ns → n ≤ total
reaches total n [] h = omega arith
reaches total n (c ∷ cs) h = go (nat_eq c n) (reaches total (if nat_eq c n then suc n else n) cs h.1)
  where
    go : (b : Bool) → (if b then suc n else n) ≤ total → n ≤ total
    go true k = omega arith
    go false k = k

one_more : {x y : ℕ} {xs ys : List ℕ} → x ≡ y → xs ≡ ys → x ∷ xs ≡ y ∷ ys
one_more p q = cc

-- names by number, numbered again
pub numbers_again : (names : List (List ℕ)) → apart names ≡ true → (n : ℕ) (ns : List ℕ) → InOrder (length names) n ns
    → (numbered (take n names) (named names ns) ≡ ns) × (all_seen (take n names) (named names ns) ≡ names)
numbers_again names a n [] h = (refl, rw h (take_all (length names) names (omega arith)))
numbers_again names a n (c ∷ cs) h = go (nat_eq c n) refl (numbers_again names a (if nat_eq c n then suc n else n) cs h.1) (reaches (length names) (if nat_eq c n then suc n else n) cs h.1)
  where
    go : (b : Bool) → nat_eq c n ≡ b
        → (numbered (take (if b then suc n else n) names) (named names cs) ≡ cs) × (all_seen (take (if b then suc n else n) names) (named names cs) ≡ names)
        → (if b then suc n else n) ≤ length names
        → (numbered (take n names) (named names (c ∷ cs)) ≡ c ∷ cs) × (all_seen (take n names) (named names (c ∷ cs)) ≡ names)
    go true e r le =
        let same : c ≡ n = eqb-true c n e in
        let w = new_name names n a (omega arith) in
        let x : name_at names c ≡ name_at names n = ap (name_at names) same in
        let none : is_among (name_at names c) (take n names) ≡ false = ap (λ (y : List ℕ). is_among y (take n names)) x ∙ w.0 in
        let at_n : place (name_at names c) (take n names) ≡ c = ap (λ (y : List ℕ). place y (take n names)) x ∙ w.1 ∙ sym same in
        let grown : seen_after (take n names) (name_at names c) ≡ take (suc n) names = rw none (ap (λ (y : List ℕ). take n names ++ y ∷ []) x ∙ w.2) in
        (one_more at_n (ap (λ (s : List (List ℕ)). numbered s (named names cs)) grown ∙ r.0), ap (λ (s : List (List ℕ)). all_seen s (named names cs)) grown ∙ r.1)
    go false e r le =
        let other : c ≡ n → ⊥ = eqb-false c n e in
        let lt : c < n = omega (arith, h.0) in
        let w = old_name names n c a lt le in
        let same : seen_after (take n names) (name_at names c) ≡ take n names = rw w.0 refl in
        (one_more w.1 (ap (λ (s : List (List ℕ)). numbered s (named names cs)) same ∙ r.0), ap (λ (s : List (List ℕ)). all_seen s (named names cs)) same ∙ r.1)
