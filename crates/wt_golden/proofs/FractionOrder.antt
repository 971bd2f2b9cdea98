-- The order of fractions is an order of a field, and neither it nor sums and products see how a number is spelled.
use Rattle.std.specs.Prelude.{◌≡◌, ◌↔◌, pos, ◌*ℤ◌, ◌<ℤ◌, [], ◌∷◌, refl}
use Rattle.std.proofs.Common.{sym, ◌∙◌, ap, subst, inl, inr}
use Rattle.std.specs.Ordering.{MatchOrdering}
use Rattle.std.specs.declared.cmp.Ordering.{Ordering}
use Rattle.std.specs.declared.cmp.Ordering.TheVariants.{Less, Equal, Greater}
use Rattle.wt_ring.proofs.Ring.{x_, n_, ◌⊕◌, ◌⊗◌, ⊖_, solve}
use Rattle.wt_golden.specs.Whole.{Whole, whole, plus, minus, times, opposite, sign, IsPositive}
use Rattle.wt_golden.specs.Fractions.{Fraction, top, sum, product, order, nought, IsSameNumber, IsGreater}
use Rattle.wt_golden.proofs.WholeRing.{golden, times_zero, whole_times}
use Rattle.wt_golden.proofs.Order.{positive_plus, positive_times, positive_or_not, positive_whole, positive_factor, sign_says, sign_greater, sign_equal, sign_less}

-- ---- the sign doesn't see a factor above 0
pub sign_scaled : (k x : Whole) → IsPositive k → sign (times k x) ≡ sign x
sign_scaled k x p = elim (positive_or_not x) as (λ _. sign (times k x) ≡ sign x) [
  | inl e ↦ sign_equal (times k x) (ap (times k) e ∙ times_zero k) ∙ sym (sign_equal x e)
  | inr s ↦ elim s as (λ _. sign (times k x) ≡ sign x) [
    | inl f ↦ sign_greater (times k x) (positive_times k x p f) ∙ sym (sign_greater x f)
    | inr f ↦ sign_less (times k x) (subst IsPositive (solve golden (k ∷ x ∷ []) (x_ 0 ⊗ ⊖_ (x_ 1)) (⊖_ (x_ 0 ⊗ x_ 1)) refl) (positive_times k (opposite x) p f))
        ∙ sym (sign_less x f)
  ]
]

-- ---- what each answer says
abbrev Says : Whole → Ordering → Type 0
Says x o = MatchOrdering o (IsPositive (opposite x)) (x ≡ whole (pos 0)) (IsPositive x)

said : (x : Whole) (o : Ordering) → sign x ≡ o → Says x o
said x o e = subst (Says x) e (sign_says x)

abbrev left : Fraction → Fraction → Whole
left f g = times (top f) (whole g.d)

turned : (x y : Whole) → opposite (minus x y) ≡ minus y x
turned x y = solve golden (x ∷ y ∷ []) (⊖_ (x_ 0 ⊕ ⊖_ (x_ 1))) (x_ 1 ⊕ ⊖_ (x_ 0)) refl

difference_zero : (x y : Whole) → x ≡ y → minus x y ≡ whole (pos 0)
difference_zero x y e = ap (λ t. minus t y) e ∙ solve golden (y ∷ []) (x_ 0 ⊕ ⊖_ (x_ 0)) (n_ (pos 0)) refl

zero_difference : (x y : Whole) → minus x y ≡ whole (pos 0) → x ≡ y
zero_difference x y e =
    solve golden (x ∷ y ∷ []) (x_ 0) ((x_ 0 ⊕ ⊖_ (x_ 1)) ⊕ x_ 1) refl ∙ ap (λ t. plus t y) e ∙ solve golden (y ∷ []) (n_ (pos 0) ⊕ x_ 0) (x_ 0) refl

pub equal_same : (f g : Fraction) → (order f g ≡ Equal) ↔ IsSameNumber f g
equal_same f g = (
  λ e. zero_difference (left f g) (left g f) (said (minus (left f g) (left g f)) Equal e),
  λ e. sign_equal (minus (left f g) (left g f)) (difference_zero (left f g) (left g f) e),
)

pub greater_is : (f g : Fraction) → (order f g ≡ Greater) ↔ IsGreater f g
greater_is f g = (said (minus (left f g) (left g f)) Greater, sign_greater (minus (left f g) (left g f)))

pub less_is : (f g : Fraction) → (order f g ≡ Less) ↔ IsGreater g f
less_is f g = (
  λ e. subst IsPositive (turned (left f g) (left g f)) (said (minus (left f g) (left g f)) Less e),
  λ p. sign_less (minus (left f g) (left g f)) (subst IsPositive (sym (turned (left f g) (left g f))) p),
)

pub order_nought : (f : Fraction) → order f nought ≡ sign (top f)
order_nought f = ap sign (solve golden (top f ∷ whole f.d ∷ []) (x_ 0 ⊗ n_ (pos 1) ⊕ ⊖_ (n_ (pos 0) ⊗ x_ 1)) (x_ 0) refl)

-- ---- an order of a field
pub greater_through : (f g h : Fraction) → pos 0 <ℤ f.d → pos 0 <ℤ g.d → pos 0 <ℤ h.d → IsGreater f g → IsGreater g h → IsGreater f h
greater_through f g h pf pg ph fg gh =
    positive_factor (whole g.d) (minus (left f h) (left h f)) (positive_whole g.d pg)
    (subst IsPositive
    (solve golden (top f ∷ top g ∷ top h ∷ whole f.d ∷ whole g.d ∷ whole h.d ∷ [])
    (x_ 5 ⊗ (x_ 0 ⊗ x_ 4 ⊕ ⊖_ (x_ 1 ⊗ x_ 3)) ⊕ x_ 3 ⊗ (x_ 1 ⊗ x_ 5 ⊕ ⊖_ (x_ 2 ⊗ x_ 4)))
    (x_ 4 ⊗ (x_ 0 ⊗ x_ 5 ⊕ ⊖_ (x_ 2 ⊗ x_ 3))) refl)
    (positive_plus _ _
    (positive_times (whole h.d) (minus (left f g) (left g f)) (positive_whole h.d ph) fg)
    (positive_times (whole f.d) (minus (left g h) (left h g)) (positive_whole f.d pf) gh)))

abbrev sum_top : Fraction → Fraction → Whole
sum_top f h = plus (times (top f) (whole h.d)) (times (top h) (whole f.d))

pub greater_sums : (f g h : Fraction) → pos 0 <ℤ h.d → IsGreater f g → IsGreater (sum f h) (sum g h)
unfolding sum
greater_sums f g h ph fg =
    let d = whole h.d in
    subst IsPositive
    (solve golden (top f ∷ top g ∷ top h ∷ whole f.d ∷ whole g.d ∷ d ∷ [])
    (x_ 5 ⊗ x_ 5 ⊗ (x_ 0 ⊗ x_ 4 ⊕ ⊖_ (x_ 1 ⊗ x_ 3)))
    ((x_ 0 ⊗ x_ 5 ⊕ x_ 2 ⊗ x_ 3) ⊗ (x_ 4 ⊗ x_ 5) ⊕ ⊖_ ((x_ 1 ⊗ x_ 5 ⊕ x_ 2 ⊗ x_ 4) ⊗ (x_ 3 ⊗ x_ 5))) refl
    ∙ ap (λ t. minus (times (sum_top f h) t) (times (sum_top g h) (times (whole f.d) d))) (sym (whole_times g.d h.d))
    ∙ ap (λ t. minus (times (sum_top f h) (whole (g.d *ℤ h.d))) (times (sum_top g h) t)) (sym (whole_times f.d h.d)))
    (positive_times (times d d) (minus (left f g) (left g f)) (positive_times d d (positive_whole h.d ph) (positive_whole h.d ph)) fg)

pub greater_products : (f g h : Fraction) → pos 0 <ℤ h.d → IsGreater f g → IsGreater h nought → IsGreater (product f h) (product g h)
unfolding product
greater_products f g h ph fg hp =
    let d = whole h.d in
    let above : IsPositive (top h) = subst IsPositive (solve golden (top h ∷ d ∷ []) (x_ 0 ⊗ n_ (pos 1) ⊕ ⊖_ (n_ (pos 0) ⊗ x_ 1)) (x_ 0) refl) hp in
    subst IsPositive
    (solve golden (top f ∷ top g ∷ top h ∷ whole f.d ∷ whole g.d ∷ d ∷ [])
    (x_ 2 ⊗ x_ 5 ⊗ (x_ 0 ⊗ x_ 4 ⊕ ⊖_ (x_ 1 ⊗ x_ 3)))
    (x_ 0 ⊗ x_ 2 ⊗ (x_ 4 ⊗ x_ 5) ⊕ ⊖_ (x_ 1 ⊗ x_ 2 ⊗ (x_ 3 ⊗ x_ 5))) refl
    ∙ ap (λ t. minus (times (times (top f) (top h)) t) (times (times (top g) (top h)) (times (whole f.d) d))) (sym (whole_times g.d h.d))
    ∙ ap (λ t. minus (times (times (top f) (top h)) (whole (g.d *ℤ h.d))) (times (times (top g) (top h)) t)) (sym (whole_times f.d h.d)))
    (positive_times (times (top h) d) (minus (left f g) (left g f)) (positive_times (top h) d above (positive_whole h.d ph)) fg)

-- ---- the spelling doesn't count
pub order_spelling : (f g h k : Fraction) → pos 0 <ℤ f.d → pos 0 <ℤ g.d → pos 0 <ℤ h.d → pos 0 <ℤ k.d → IsSameNumber f h → IsSameNumber g k → order f g ≡ order h k
order_spelling f g h k pf pg ph pk fh gk =
    let df = whole f.d in
    let dg = whole g.d in
    let dh = whole h.d in
    let dk = whole k.d in
    sym (sign_scaled (times dh dk) (minus (left f g) (left g f)) (positive_times dh dk (positive_whole h.d ph) (positive_whole k.d pk)))
    ∙ ap sign (
    solve golden (top f ∷ top g ∷ df ∷ dg ∷ dh ∷ dk ∷ [])
    ((x_ 4 ⊗ x_ 5) ⊗ (x_ 0 ⊗ x_ 3 ⊕ ⊖_ (x_ 1 ⊗ x_ 2))) ((x_ 0 ⊗ x_ 4) ⊗ (x_ 3 ⊗ x_ 5) ⊕ ⊖_ ((x_ 1 ⊗ x_ 5) ⊗ (x_ 2 ⊗ x_ 4))) refl
    ∙ ap (λ t. minus (times t (times dg dk)) (times (times (top g) dk) (times df dh))) fh
    ∙ ap (λ t. minus (times (times (top h) df) (times dg dk)) (times t (times df dh))) gk
    ∙ solve golden (top h ∷ top k ∷ df ∷ dg ∷ dh ∷ dk ∷ [])
    ((x_ 0 ⊗ x_ 2) ⊗ (x_ 3 ⊗ x_ 5) ⊕ ⊖_ ((x_ 1 ⊗ x_ 3) ⊗ (x_ 2 ⊗ x_ 4))) ((x_ 2 ⊗ x_ 3) ⊗ (x_ 0 ⊗ x_ 5 ⊕ ⊖_ (x_ 1 ⊗ x_ 4))) refl)
    ∙ sign_scaled (times df dg) (minus (left h k) (left k h)) (positive_times df dg (positive_whole f.d pf) (positive_whole g.d pg))

pub sum_spelling : (f g h k : Fraction) → IsSameNumber f h → IsSameNumber g k → IsSameNumber (sum f g) (sum h k)
unfolding sum
sum_spelling f g h k fh gk =
    let df = whole f.d in
    let dg = whole g.d in
    let dh = whole h.d in
    let dk = whole k.d in
    ap (times (sum_top f g)) (whole_times h.d k.d)
    ∙ solve golden (top f ∷ top g ∷ df ∷ dg ∷ dh ∷ dk ∷ [])
    ((x_ 0 ⊗ x_ 3 ⊕ x_ 1 ⊗ x_ 2) ⊗ (x_ 4 ⊗ x_ 5)) ((x_ 0 ⊗ x_ 4) ⊗ (x_ 3 ⊗ x_ 5) ⊕ (x_ 1 ⊗ x_ 5) ⊗ (x_ 2 ⊗ x_ 4)) refl
    ∙ ap (λ t. plus (times t (times dg dk)) (times (times (top g) dk) (times df dh))) fh
    ∙ ap (λ t. plus (times (times (top h) df) (times dg dk)) (times t (times df dh))) gk
    ∙ solve golden (top h ∷ top k ∷ df ∷ dg ∷ dh ∷ dk ∷ [])
    ((x_ 0 ⊗ x_ 2) ⊗ (x_ 3 ⊗ x_ 5) ⊕ (x_ 1 ⊗ x_ 3) ⊗ (x_ 2 ⊗ x_ 4)) ((x_ 0 ⊗ x_ 5 ⊕ x_ 1 ⊗ x_ 4) ⊗ (x_ 2 ⊗ x_ 3)) refl
    ∙ ap (times (sum_top h k)) (sym (whole_times f.d g.d))

pub product_spelling : (f g h k : Fraction) → IsSameNumber f h → IsSameNumber g k → IsSameNumber (product f g) (product h k)
unfolding product
product_spelling f g h k fh gk =
    let df = whole f.d in
    let dg = whole g.d in
    let dh = whole h.d in
    let dk = whole k.d in
    ap (times (times (top f) (top g))) (whole_times h.d k.d)
    ∙ solve golden (top f ∷ top g ∷ dh ∷ dk ∷ []) ((x_ 0 ⊗ x_ 1) ⊗ (x_ 2 ⊗ x_ 3)) ((x_ 0 ⊗ x_ 2) ⊗ (x_ 1 ⊗ x_ 3)) refl
    ∙ ap (λ t. times t (times (top g) dk)) fh
    ∙ ap (times (times (top h) df)) gk
    ∙ solve golden (top h ∷ top k ∷ df ∷ dg ∷ []) ((x_ 0 ⊗ x_ 2) ⊗ (x_ 1 ⊗ x_ 3)) ((x_ 0 ⊗ x_ 1) ⊗ (x_ 2 ⊗ x_ 3)) refl
    ∙ ap (times (times (top h) (top k))) (sym (whole_times f.d g.d))
