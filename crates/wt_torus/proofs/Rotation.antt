-- Rotations stay inside, and the rotation of a window is the first return.
use Rattle.std.proofs.Common.{arith, ◌≡◌, ℕ, zero, suc, ◌+◌, Bool, true, false, not, refl, sym, ap, subst, ◌∙◌, ◌⊎◌, inl, inr}
use Rattle.std.proofs.lemmas.Int.{ints}
use Rattle.std.specs.Prelude.{pos, ◌-ℤ◌}
use Rattle.wt_golden.specs.Whole.{Whole, whole, plus, minus, opposite, is_positive}
use Rattle.wt_golden.proofs.WholeRing.{same_whole}
use Rattle.wt_golden.proofs.Order.{positive_plus, positive_or_not, positive_never_both}
use Rattle.wt_torus.specs.Rotation.{IsInside, step, orbit, Window, window, turns, returns, IsInZone, HasWindow, IsFirstReturn}

abbrev zero_whole : Whole
zero_whole = whole (pos 0)

pub flag : (b : Bool) → (b ≡ true) ⊎ (b ≡ false)
flag true = inl refl
flag false = inr refl

pub both : {A : Type 0} (b : Bool) → b ≡ true → b ≡ false → A
both true e f = absurd cc
both false e f = absurd cc

-- Positive numbers: sums of them are, and of a number other than 0 and its opposite exactly one is.

sums : (x y : Whole) → is_positive x ≡ true → is_positive y ≡ true → is_positive (plus x y) ≡ true
sums x y e f = (positive_plus x y (record { above = e }) (record { above = f })).above

total : (x : Whole) → is_positive x ≡ false → (x ≡ zero_whole) ⊎ (is_positive (minus zero_whole x) ≡ true)
unfolding plus opposite
total x e = elim (positive_or_not x) [
  | inl z ↦ inl z
  | inr (inl p) ↦ both (is_positive x) p.above e
  | inr (inr p) ↦ inr (ap is_positive (same_whole (minus zero_whole x) (opposite x) (omega (arith, ints)) (omega (arith, ints))) ∙ p.above)
]

apart : (x : Whole) → is_positive x ≡ true → is_positive (minus zero_whole x) ≡ false
unfolding plus opposite
apart x e = elim (flag (is_positive (minus zero_whole x))) [
  | inl f ↦ absurd (positive_never_both x (record { above = e }) (record { above = ap is_positive (same_whole (opposite x) (minus zero_whole x) (omega (arith, ints)) (omega (arith, ints))) ∙ f }))
  | inr f ↦ f
]

-- a number that is written in two ways
as_true : (x y : Whole) (b : Bool) → x.a ≡ y.a → x.b ≡ y.b → is_positive x ≡ b → is_positive y ≡ b
as_true x y b e f h = sym (ap is_positive (same_whole x y e f)) ∙ h

pub zero_false : is_positive zero_whole ≡ false
unfolding plus opposite
zero_false = elim (flag (is_positive zero_whole)) [
  | inl e ↦ both (is_positive zero_whole) e (as_true (minus zero_whole zero_whole) zero_whole false (omega (arith, ints)) (omega (arith, ints)) (apart zero_whole e))
  | inr e ↦ e
]

-- no number is positive beside its opposite
opposite_false : (x y : Whole) → y.a ≡ pos 0 -ℤ x.a → y.b ≡ pos 0 -ℤ x.b → is_positive x ≡ true → is_positive y ≡ false
unfolding plus opposite
opposite_false x y e f h = as_true (minus zero_whole x) y false (omega (arith, ints)) (omega (arith, ints)) (apart x h)

-- at least 0
abbrev AtLeast : Whole → Type 0
AtLeast t = (t ≡ zero_whole) ⊎ (is_positive t ≡ true)

onto : (t x : Whole) → AtLeast t → is_positive x ≡ true → is_positive (plus t x) ≡ true
unfolding plus opposite
onto t x (inl z) h = rw z (as_true x (plus zero_whole x) true (omega (arith, ints)) (omega (arith, ints)) h)
onto t x (inr p) h = sums t x p h

-- what isn't positive has an opposite that is at least 0
at_least : (x y : Whole) → y.a ≡ pos 0 -ℤ x.a → y.b ≡ pos 0 -ℤ x.b → is_positive x ≡ false → AtLeast y
unfolding plus opposite
at_least x y e f h = elim (total x h) [
  | inl z ↦ inl (same_whole y zero_whole (let a = ap (λ (r : Whole). r.a) z in omega (arith, ints)) (let a = ap (λ (r : Whole). r.b) z in omega (arith, ints)))
  | inr p ↦ inr (as_true (minus zero_whole x) y true (omega (arith, ints)) (omega (arith, ints)) p)
]

module _ (length move : Whole) where
  step_on : (t : Whole) → is_positive (minus length (plus t move)) ≡ true → step length move t ≡ plus t move
  step_on t e = rw e refl

  step_back : (t : Whole) → is_positive (minus length (plus t move)) ≡ false → step length move t ≡ minus (plus t move) length
  step_back t e = rw e refl

turns_one : (size length move t : Whole) → is_positive (minus size (step length move t)) ≡ true → turns size length move t ≡ 1
turns_one size length move t e = rw e refl

turns_two : (size length move t : Whole) → is_positive (minus size (step length move t)) ≡ false → turns size length move t ≡ 2
turns_two size length move t e = rw e refl

pub step_inside : (length move : Whole) → is_positive move ≡ true → is_positive (minus length move) ≡ true → (t : Whole) → IsInside length t → IsInside length (step length move t)
unfolding plus opposite
step_inside length move some less t i = elim (flag (is_positive (minus length (plus t move)))) [
  | inl e ↦ rw (step_on length move t e) (inr (onto t move i.0 some), e)
  | inr e ↦ rw (step_back length move t e) (
    at_least (minus length (plus t move)) (minus (plus t move) length) (omega (arith, ints)) (omega (arith, ints)) e,
    as_true (plus (minus length t) (minus length move)) (minus length (minus (plus t move) length)) true (omega (arith, ints)) (omega (arith, ints)) (sums (minus length t) (minus length move) i.1 less),
  )
]

module _ (length move : Whole) (some : is_positive move ≡ true) (less : is_positive (minus length move) ≡ true) where
  -- What holds at a coordinate of a window.
  pub record AtReturn (w : Window) (t : Whole) : Type 0 where
    -- the rotation of the window is the first return
    pub back : orbit length move t (turns w.size length move t) ≡ step w.size w.move t
    pub inside : IsInside w.size (step w.size w.move t)
    pub single : IsInZone w w.single_below t → turns w.size length move t ≡ 1
    pub double : IsInZone w (not w.single_below) t → (turns w.size length move t ≡ 2) × (step length move t ≡ plus t move) × (is_positive (minus length (plus t move)) ≡ true)
    -- from the bound it comes to 0
    pub zones : is_positive t ≡ true → IsInZone w w.single_below t ⊎ IsInZone w (not w.single_below) t ⊎ (step w.size w.move t ≡ zero_whole)

  orbit_one : (size t : Whole) → turns size length move t ≡ 1 → orbit length move t (turns size length move t) ≡ step length move t
  orbit_one size t e = rw e refl

  orbit_two : (size t : Whole) → turns size length move t ≡ 2 → orbit length move t (turns size length move t) ≡ step length move (step length move t)
  orbit_two size t e = rw e refl

  module _ (half : is_positive (minus length (plus move move)) ≡ true) where
    abbrev low : Window
    low = record { size = minus length move; move = move; bound = minus length (plus move move); single_below = true }

    low_window : window length move ≡ low
    low_window = rw half refl

    low_size_more : is_positive (minus low.size low.move) ≡ true
    unfolding plus opposite
    low_size_more = as_true (minus length (plus move move)) (minus low.size low.move) true (omega (arith, ints)) (omega (arith, ints)) half

    low_on : (t : Whole) → IsInside low.size t → step length move t ≡ plus t move
    unfolding plus opposite
    low_on t i = step_on length move t (as_true (minus low.size t) (minus length (plus t move)) true (omega (arith, ints)) (omega (arith, ints)) i.1)

    low_test : (t : Whole) (b : Bool) → IsInside low.size t → is_positive (minus low.bound t) ≡ b → is_positive (minus low.size (step length move t)) ≡ b
    unfolding plus opposite
    low_test t b i c = rw (low_on t i) (as_true (minus low.bound t) (minus low.size (plus t move)) b (omega (arith, ints)) (omega (arith, ints)) c)

    low_return : (t : Whole) → IsInside low.size t → AtReturn low t
    unfolding plus opposite
    low_return t i = elim (flag (is_positive (minus low.bound t))) [
      | inl c ↦
          let one = turns_one low.size length move t (low_test t true i c) in record {
            back = orbit_one low.size t one ∙ (low_on t i ∙ sym (step_on low.size low.move t (as_true (minus low.bound t) (minus low.size (plus t low.move)) true (omega (arith, ints)) (omega (arith, ints)) c)));
            inside = step_inside low.size low.move some low_size_more t i;
            single = λ z. one;
            double = λ z. both (is_positive (minus low.bound t)) c (opposite_false (minus t low.bound) (minus low.bound t) (omega (arith, ints)) (omega (arith, ints)) z.0);
            zones = λ p. inl (p, c);
          }
      | inr c ↦
          let two = turns_two low.size length move t (low_test t false i c) in
          let on = step_back low.size low.move t (as_true (minus low.bound t) (minus low.size (plus t low.move)) false (omega (arith, ints)) (omega (arith, ints)) c) in record {
            back = orbit_two low.size t two ∙ (ap (step length move) (low_on t i)
                ∙ (step_back length move (plus t move) (as_true (minus low.bound t) (minus length (plus (plus t move) move)) false (omega (arith, ints)) (omega (arith, ints)) c)
                ∙ (same_whole (minus (plus (plus t move) move) length) (minus (plus t low.move) low.size) (omega (arith, ints)) (omega (arith, ints)) ∙ sym on)));
            inside = step_inside low.size low.move some low_size_more t i;
            single = λ z. both (is_positive (minus low.bound t)) z.1 c;
            double = λ z. (two, low_on t i, as_true (minus low.size t) (minus length (plus t move)) true (omega (arith, ints)) (omega (arith, ints)) i.1);
            zones = λ p. elim (total (minus low.bound t) c) [
              | inl z ↦ inr (inr (on ∙ same_whole (minus (plus t low.move) low.size) zero_whole (let a = ap (λ (r : Whole). r.a) z in omega (arith, ints)) (let a = ap (λ (r : Whole). r.b) z in omega (arith, ints))))
              | inr q ↦ inr (inl (as_true (minus zero_whole (minus low.bound t)) (minus t low.bound) true (omega (arith, ints)) (omega (arith, ints)) q, i.1))
            ];
          }
    ]

  module _ (half : is_positive (minus (plus move move) length) ≡ true) where
    abbrev high : Window
    high = record { size = move; move = minus (plus move move) length; bound = minus length move; single_below = false }

    high_window : window length move ≡ high
    unfolding plus opposite
    high_window = rw (opposite_false (minus (plus move move) length) (minus length (plus move move)) (omega (arith, ints)) (omega (arith, ints)) half) refl

    high_size_more : is_positive (minus high.size high.move) ≡ true
    unfolding plus opposite
    high_size_more = as_true (minus length move) (minus high.size high.move) true (omega (arith, ints)) (omega (arith, ints)) less

    -- what the move of the window does below the bound and above it
    high_up : (t : Whole) (b : Bool) → is_positive (minus high.bound t) ≡ b → is_positive (minus high.size (plus t high.move)) ≡ b
    unfolding plus opposite
    high_up t b c = as_true (minus high.bound t) (minus high.size (plus t high.move)) b (omega (arith, ints)) (omega (arith, ints)) c

    high_on : (t : Whole) (b : Bool) → is_positive (minus high.bound t) ≡ b → is_positive (minus length (plus t move)) ≡ b
    unfolding plus opposite
    high_on t b c = as_true (minus high.bound t) (minus length (plus t move)) b (omega (arith, ints)) (omega (arith, ints)) c

    none_left : (t : Whole) → AtLeast t → is_positive (minus move (plus t move)) ≡ false
    unfolding plus opposite
    none_left t (inl z) = rw z (as_true zero_whole (minus move (plus zero_whole move)) false (omega (arith, ints)) (omega (arith, ints)) zero_false)
    none_left t (inr p) = opposite_false t (minus move (plus t move)) (omega (arith, ints)) (omega (arith, ints)) p

    high_return : (t : Whole) → IsInside high.size t → AtReturn high t
    unfolding plus opposite
    high_return t i = elim (flag (is_positive (minus high.bound t))) [
      | inl c ↦
          let on = step_on length move t (high_on t true c) in
          let up = step_on high.size high.move t (high_up t true c) in
          let two = turns_two high.size length move t (rw on (none_left t i.0)) in
          let far : is_positive (plus t high.move) ≡ true = onto t high.move i.0 half in record {
            back = orbit_two high.size t two ∙ (ap (step length move) on
                ∙ (step_back length move (plus t move) (opposite_false (plus t high.move) (minus length (plus (plus t move) move)) (omega (arith, ints)) (omega (arith, ints)) far)
                ∙ (same_whole (minus (plus (plus t move) move) length) (plus t high.move) (omega (arith, ints)) (omega (arith, ints)) ∙ sym up)));
            inside = step_inside high.size high.move half high_size_more t i;
            single = λ z. both (is_positive (minus high.bound t)) c (opposite_false (minus t high.bound) (minus high.bound t) (omega (arith, ints)) (omega (arith, ints)) z.0);
            double = λ z. (two, on, high_on t true c);
            zones = λ p. inr (inl (p, c));
          }
      | inr c ↦
          let on = step_back length move t (high_on t false c) in
          let up = step_back high.size high.move t (high_up t false c) in
          let one = turns_one high.size length move t (rw on
          (as_true (plus (minus high.size t) (minus length move)) (minus high.size (minus (plus t move) length)) true (omega (arith, ints)) (omega (arith, ints)) (sums (minus high.size t) (minus length move) i.1 less))) in record {
            back = orbit_one high.size t one ∙ (on ∙ (same_whole (minus (plus t move) length) (minus (plus t high.move) high.size) (omega (arith, ints)) (omega (arith, ints)) ∙ sym up));
            inside = step_inside high.size high.move half high_size_more t i;
            single = λ z. one;
            double = λ z. both (is_positive (minus high.bound t)) z.1 c;
            zones = λ p. elim (total (minus high.bound t) c) [
              | inl z ↦ inr (inr (up ∙ same_whole (minus (plus t high.move) high.size) zero_whole (let a = ap (λ (r : Whole). r.a) z in omega (arith, ints)) (let a = ap (λ (r : Whole). r.b) z in omega (arith, ints))))
              | inr q ↦ inl (as_true (minus zero_whole (minus high.bound t)) (minus t high.bound) true (omega (arith, ints)) (omega (arith, ints)) q, i.1)
            ];
          }
    ]

  -- Twice the move isn't the length: then each coordinate of the window returns as said.
  pub first_return : (plus move move ≡ length → ⊥) → (t : Whole) → IsInside (window length move).size t → AtReturn (window length move) t
  unfolding plus opposite
  first_return half t i = elim (flag (is_positive (minus length (plus move move)))) [
    | inl e ↦ subst (λ (w : Window). IsInside w.size t → AtReturn w t) (sym (low_window e)) (low_return e t) i
    | inr e ↦ elim (total (minus length (plus move move)) e) [
      | inl z ↦ absurd (half (same_whole (plus move move) length (let a = ap (λ (r : Whole). r.a) z in omega (arith, ints)) (let a = ap (λ (r : Whole). r.b) z in omega (arith, ints))))
      | inr p ↦
          let h = as_true (minus zero_whole (minus length (plus move move))) (minus (plus move move) length) true (omega (arith, ints)) (omega (arith, ints)) p in
          subst (λ (w : Window). IsInside w.size t → AtReturn w t) (sym (high_window h)) (high_return h t) i
    ]
  ]

  -- after the turns up to its n-th return a coordinate stands where n turns of the window bring it
  pub orbit_on : (n k : ℕ) (t : Whole) → orbit length move t (n + k) ≡ orbit length move (orbit length move t n) k
  orbit_on zero k t = let e : zero + k ≡ k = omega arith in rw e refl
  orbit_on (suc n) k t = let e : suc n + k ≡ suc (n + k) = omega arith in rw e (orbit_on n k (step length move t))

  pub at_returns : (plus move move ≡ length → ⊥) → (n : ℕ) (t : Whole) → IsInside (window length move).size t
      → orbit length move t (returns (window length move) length move t n) ≡ orbit (window length move).size (window length move).move t n
  at_returns half zero t i = refl
  at_returns half (suc n) t i =
      let w = window length move in
      let a = first_return half t i in
      let next = step w.size w.move t in
      orbit_on (turns w.size length move t) (returns w length move next n) t
      ∙ (ap (λ (s : Whole). orbit length move s (returns w length move next n)) a.back ∙ at_returns half n next a.inside)

  -- the window ends before the circle does
  pub window_less : (plus move move ≡ length → ⊥) → is_positive (minus length (window length move).size) ≡ true
  unfolding plus opposite
  window_less half = elim (flag (is_positive (minus length (plus move move)))) [
    | inl e ↦ rw (low_window e) (as_true move (minus length (minus length move)) true (omega (arith, ints)) (omega (arith, ints)) some)
    | inr e ↦ elim (total (minus length (plus move move)) e) [
      | inl z ↦ absurd (half (same_whole (plus move move) length (let a = ap (λ (r : Whole). r.a) z in omega (arith, ints)) (let a = ap (λ (r : Whole). r.b) z in omega (arith, ints))))
      | inr p ↦
          let h = as_true (minus zero_whole (minus length (plus move move))) (minus (plus move move) length) true (omega (arith, ints)) (omega (arith, ints)) p in
          rw (high_window h) less
    ]
  ]

  -- its move is above 0, and below its size
  pub window_moves : (plus move move ≡ length → ⊥) → (is_positive (window length move).move ≡ true) × (is_positive (minus (window length move).size (window length move).move) ≡ true)
  unfolding plus opposite
  window_moves half = elim (flag (is_positive (minus length (plus move move)))) [
    | inl e ↦ rw (low_window e) (some, as_true (minus length (plus move move)) (minus (minus length move) move) true (omega (arith, ints)) (omega (arith, ints)) e)
    | inr e ↦ elim (total (minus length (plus move move)) e) [
      | inl z ↦ absurd (half (same_whole (plus move move) length (let a = ap (λ (r : Whole). r.a) z in omega (arith, ints)) (let a = ap (λ (r : Whole). r.b) z in omega (arith, ints))))
      | inr p ↦
          let h = as_true (minus zero_whole (minus length (plus move move))) (minus (plus move move) length) true (omega (arith, ints)) (omega (arith, ints)) p in
          rw (high_window h) (h, as_true (minus length move) (minus move (minus (plus move move) length)) true (omega (arith, ints)) (omega (arith, ints)) less)
    ]
  ]

one_is_two : (n : ℕ) → n ≡ 1 → n ≡ 2 → ⊥
one_is_two n e f = omega arith

pub is_first_return : (length move t : Whole) → HasWindow length move → IsInside (window length move).size t → IsFirstReturn length move t
is_first_return length move t h i =
    let a = first_return length move h.some h.less h.half t i in
    let size = (window length move).size in
    record {
      back = a.back;
      inside = a.inside;
      first = λ two j. one_is_two (turns size length move t) (turns_one size length move t j.1) two;
      single = a.single;
      double = λ z. (a.double z).0;
    }
