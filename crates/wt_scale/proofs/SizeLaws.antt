-- What the size that a chain answers for a vector excludes.
use Rattle.std.proofs.Common.{arith, ◌≡◌, ◌⊎◌, ◌≤◌, ◌<◌, ◌+◌, ◌-◌, ◌^◌, ℕ, zero, suc, ℤ, List, [], ◌∷◌, length, drop, max, Bool, true, false, nat_eq, nat_lt, if◌then◌else◌, Ok, Err, refl, sym, ◌∙◌, ap, subst, inl, inr}
use Rattle.std.proofs.Math.Nat.{le-max_left, le-max_right, max-le}
use Rattle.std.proofs.lemmas.Bool.{cases_lt}
use Rattle.std.proofs.lemmas.Bool.Decides.{nat_tests}
use Rattle.wt_pattern.specs.Patterns.{IsPattern}
use Rattle.wt_pattern.specs.Periods.{IsPeriod}
use Rattle.wt_grid.specs.Grid.{Grid}
use Rattle.wt_step.specs.declared.raw.RawLink.{RawLink}
use Rattle.wt_step.specs.Links.{fine_of}
use Rattle.wt_chain.specs.declared.raw.RawChain.{RawChain}
use Rattle.wt_chain.specs.declared.raw.End.{End}
use Rattle.wt_chain.specs.declared.raw.End.TheVariants.{Open, Loop}
use Rattle.wt_chain.specs.Good.{IsGoodLoop, IsGoodEnd, IsGoodChain}
use Rattle.wt_scale.specs.declared.size.SizeFault.TheVariants.{ZeroVector, TooLarge}
use Rattle.wt_scale.specs.Sizes.{size_from, turns_size}
use Rattle.wt_step.specs.Carried.{magnitude}
use Rattle.wt_scale.specs.Vectors.{digits, reach, size_up_to, in_u128, size_by_end, size_result}
use Rattle.wt_scale.proofs.NoPeriods.{no_period}
use Rattle.wt_scale.proofs.Digits.{below_digits}

-- a loop has a step to begin with
inside_at : (links : List RawLink) (start : ℕ) (list : List ℕ) (e : ℕ) → IsGoodLoop (drop start links) list e → start ≤ length links
inside_at links zero list e h = omega arith
inside_at [] (suc start) list e h = absurd h
inside_at (link ∷ links) (suc start) list e h = let r = inside_at links start list e h in omega arith

pub start_inside : (c : RawChain) → IsGoodChain c → (start e : ℕ) (list : List ℕ) → c.end ≡ Loop start list e → start ≤ length c.steps
start_inside c good start e list end = inside_at c.steps start list e (subst (λ (z : End). IsGoodEnd c.steps z) end good.end)

fitting_by : (b : Bool) (n size : ℕ) → (if b then Ok n else Err TooLarge) ≡ Ok size → n ≡ size
fitting_by true n size h = cc
fitting_by false n size h = absurd cc

-- a number that fits is answered itself
fitting : (n size : ℕ) → in_u128 n ≡ Ok size → n ≡ size
fitting n size h = fitting_by (nat_lt n (2 ^ 128)) n size h

answered_by : (b : Bool) (n size : ℕ) → (if b then Err ZeroVector else in_u128 n) ≡ Ok size → (b ≡ false) × (n ≡ size)
answered_by true n size h = absurd cc
answered_by false n size h = (refl, fitting n size h)

-- where there is an answer, the vector isn't zero, and the size is the answer
answered : (links : List RawLink) (start e m size : ℕ) (list : List ℕ) → size_by_end links (Loop start list e) m ≡ Ok size → (1 ≤ m) × (size_up_to links start e m ≡ size)
answered links start e m size list h =
    let a = answered_by (nat_eq m 0) (size_up_to links start e m) size h in
    let some : 1 ≤ m = grind (arith, nat_tests, a.0) in
    (some, a.1)

nonzero : (a b : ℕ) → 1 ≤ max a b → (1 ≤ a) ⊎ (1 ≤ b)
nonzero a b h = elim (cases_lt 0 a) [
  | inl x ↦ inl (omega arith)
  | inr x ↦ elim (cases_lt 0 b) [
    | inl y ↦ inr (omega arith)
    | inr y ↦ (let z : max a b ≤ 0 = max-le x y in absurd (omega arith))
  ]
]

looped : (c : RawChain) → IsGoodChain c → (end : End) → c.end ≡ end → (first : RawLink) (rest : List RawLink) → c.steps ≡ first ∷ rest
    → (x y : ℤ) (size : ℕ) → size_by_end c.steps end (reach x y) ≡ Ok size
    → (p : Grid) → IsPattern (fine_of first).tiles p → size ≤ p.width → size ≤ p.height → IsPeriod p x y → ⊥
looped c good Open same first rest steps x y size h p v w t period = absurd cc
looped c good (Loop start list e) same first rest steps x y size h p v w t period =
    let a = answered c.steps start e (reach x y) size list h in
    no_period c good start e list same first rest steps x y (reach x y) (digits (reach x y)) (le-max_left (magnitude x) (magnitude y)) (le-max_right (magnitude x) (magnitude y))
    (below_digits (reach x y)) (nonzero (magnitude x) (magnitude y) a.0) p v (omega (arith, a.1, w)) (omega (arith, a.1, t)) period

-- A valid pattern whose sides are at least the answered size doesn't have the vector as a period.
pub excluded : (c : RawChain) → IsGoodChain c → (first : RawLink) (rest : List RawLink) → c.steps ≡ first ∷ rest → (x y : ℤ) (size : ℕ) → size_result c x y ≡ Ok size
    → (p : Grid) → IsPattern (fine_of first).tiles p → size ≤ p.width → size ≤ p.height → IsPeriod p x y → ⊥
excluded c good first rest steps x y size h = looped c good c.end refl first rest steps x y size h

-- one turn less is left
pub one_turn : (loop : List RawLink) (n t size side : ℕ) → t < n → turns_size loop (n - t) size ≡ turns_size loop n side → turns_size loop (n - (t + 1)) (size_from loop size) ≡ turns_size loop n side
one_turn loop n t size side lt h = let e : n - t ≡ suc (n - (t + 1)) = omega arith in sym (ap (λ (k : ℕ). turns_size loop k size) e) ∙ h

-- none is left
pub all_turned : (loop : List RawLink) (n t size side : ℕ) → n ≤ t → turns_size loop (n - t) size ≡ turns_size loop n side → size ≡ turns_size loop n side
all_turned loop n t size side le h = let e : n - t ≡ 0 = omega arith in sym (ap (λ (k : ℕ). turns_size loop k size) e) ∙ h
