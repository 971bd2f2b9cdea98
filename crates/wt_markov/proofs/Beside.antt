-- A point on the border of a half-plane: what holds there meets with either side.
use Rattle.std.proofs.Common.{◌≡◌, ◌⊎◌, List, [], ◌∷◌, ◌++◌, Bool, true, false, refl, sym, ap, subst, ◌∙◌, inl, inr}
use Rattle.std.proofs.lemmas.Bool.{and_parts}
use Rattle.wt_golden.specs.Whole.{whole, opposite, is_positive}
use Rattle.std.specs.Prelude.{pos}
use Rattle.wt_ring.proofs.Ring.{x_, ◌⊕◌, ◌⊗◌, ⊖_, solve}
use Rattle.wt_golden.proofs.WholeRing.{golden}
use Rattle.wt_plane.specs.HalfPlanes.{Half, Spot, IsSpot, HasDirection, HasCommonSpot, value, opposite_half}
use Rattle.wt_plane.specs.Regions.{holds_all, clash_with, clash_with_two}
use Rattle.wt_plane.specs.Clash.{clashes}
use Rattle.wt_plane.proofs.Meeting.{Settles, clashes_settle}
use Rattle.wt_plane.proofs.Regions.{nudged}
use Rattle.wt_torus.proofs.Rotation.{flag}
use Rattle.wt_torus.proofs.Scale.{holds}
use Rattle.wt_induce.specs.Induced.{some_clash}
use Rattle.wt_induce.proofs.Numbers.{Each}
use Rattle.wt_induce.proofs.Points.{IsDirected, each_append}
use Rattle.wt_markov.specs.Follow.{meets}

opposite_value : (h : Half) (z : Spot) → opposite (value h z) ≡ value (opposite_half h) z
opposite_value h z = solve golden (h.p ∷ h.q ∷ h.r ∷ z.x ∷ z.y ∷ whole z.d ∷ [])
    (⊖_ (((x_ 0 ⊗ x_ 3) ⊕ (x_ 1 ⊗ x_ 4)) ⊕ (x_ 2 ⊗ x_ 5))) (((⊖_ (x_ 0) ⊗ x_ 3) ⊕ (⊖_ (x_ 1) ⊗ x_ 4)) ⊕ (⊖_ (x_ 2) ⊗ x_ 5)) refl

-- Half-planes of which no three clash meet.
module _ (P : Half → Type 0) (apart : (f g h : Half) → P f → P g → P h → clashes f g h ≡ false) where
  none_third : (f g : Half) (hs : List Half) → P f → P g → Each P hs → clash_with f g hs ≡ false
  none_third f g [] i j e = refl
  none_third f g (h ∷ hs) i j e = rw (apart f g h i j e.0) (none_third f g hs i j e.1)

  none_second : (f : Half) (hs : List Half) → P f → Each P hs → clash_with_two f hs ≡ false
  none_second f [] i e = refl
  none_second f (h ∷ hs) i e = rw (none_third f h (h ∷ hs) i e.0 e) (none_second f hs i e.1)

  none_all : (hs : List Half) → Each P hs → some_clash hs ≡ false
  none_all [] e = refl
  none_all (h ∷ hs) e = rw (none_second h (h ∷ hs) e.0 e) (none_all hs e.1)

-- z lies on the border of b, b' holds where b's opposite does, and e holds at z
module _ (b b' : Half) (z : Spot) (spot : IsSpot z) (db : HasDirection b) (db' : HasDirection b')
    (facing : (y : Spot) → holds y b' ≡ is_positive (opposite (value b y))) (zero : value b z ≡ whole (pos 0)) (e : Half) (he : holds z e ≡ true) where
  abbrev On : Half → Type 0
  On f = (holds z f ≡ true) ⊎ (f ≡ b')

  abbrev Near : Half → Type 0
  Near f = HasDirection f × On f

  beside : (g k : Half) → holds z g ≡ true → holds z k ≡ true → HasCommonSpot b' g k
  beside g k hg hk =
      let n = nudged b g k z spot db zero (record { above = hg }) (record { above = hk }) in
      (n.0, n.1, record { above = facing n.0 ∙ (ap is_positive (opposite_value b n.0) ∙ n.2.above) }, n.3, n.4)

  common : (f g k : Half) → On f → On g → On k → HasCommonSpot f g k
  common f g k (inl x) (inl y) (inl w) = (z, spot, record { above = x }, record { above = y }, record { above = w })
  common f g k (inr x) (inl y) (inl w) = subst (λ (v : Half). HasCommonSpot v g k) (sym x) (beside g k y w)
  common f g k (inl x) (inr y) (inl w) = let n = beside f k x w in subst (λ (v : Half). HasCommonSpot f v k) (sym y) (n.0, n.1, n.3, n.2, n.4)
  common f g k (inl x) (inl y) (inr w) = let n = beside f g x y in subst (λ (v : Half). HasCommonSpot f g v) (sym w) (n.0, n.1, n.3, n.4, n.2)
  common f g k (inr x) (inr y) (inl w) =
      let n = beside k k w w in
      subst (λ (v : Half). HasCommonSpot v g k) (sym x) (subst (λ (v : Half). HasCommonSpot b' v k) (sym y) (n.0, n.1, n.2, n.2, n.3))
  common f g k (inr x) (inl y) (inr w) =
      let n = beside g g y y in
      subst (λ (v : Half). HasCommonSpot v g k) (sym x) (subst (λ (v : Half). HasCommonSpot b' g v) (sym w) (n.0, n.1, n.2, n.3, n.2))
  common f g k (inl x) (inr y) (inr w) =
      let n = beside f f x x in
      subst (λ (v : Half). HasCommonSpot f v k) (sym y) (subst (λ (v : Half). HasCommonSpot f b' v) (sym w) (n.0, n.1, n.3, n.2, n.2))
  common f g k (inr x) (inr y) (inr w) =
      let n = beside e e he he in
      subst (λ (v : Half). HasCommonSpot v g k) (sym x) (subst (λ (v : Half). HasCommonSpot b' v k) (sym y) (subst (λ (v : Half). HasCommonSpot b' b' v) (sym w) (n.0, n.1, n.2, n.2, n.2)))

  no_clash : (f g k : Half) → Near f → Near g → Near k → clashes f g k ≡ false
  no_clash f g k nf ng nk = elim (flag (clashes f g k)) [
    | inl c ↦
        let none : HasCommonSpot f g k → ⊥ = subst (λ (t : Bool). Settles t f g k) c (clashes_settle f g k nf.0 ng.0 nk.0) in
        absurd (none (common f g k nf.1 ng.1 nk.1))
    | inr c ↦ c
  ]

  near_all : (hs : List Half) → IsDirected hs → holds_all hs z ≡ true → Each Near hs
  near_all [] d h = tt
  near_all (f ∷ hs) d h = let t = and_parts (holds z f) (holds_all hs z) h in ((d.0, inl t.0), near_all hs d.1 t.1)

  -- what holds at z meets with b'
  pub meets_beside : (xs ys : List Half) → IsDirected xs → IsDirected ys → holds_all xs z ≡ true → holds_all ys z ≡ true → meets (xs ++ (ys ++ (b' ∷ []))) ≡ true
  meets_beside xs ys dx dy hx hy =
      let last : Each Near (b' ∷ []) = ((db', inr refl), tt) in
      rw (none_all Near no_clash (xs ++ (ys ++ (b' ∷ []))) (each_append Near xs (ys ++ (b' ∷ [])) (near_all xs dx hx) (each_append Near ys (b' ∷ []) (near_all ys dy hy) last))) refl
