-- The letter of the induced partition at a point, by the letters of the partition.
use Rattle.std.proofs.Common.{arith, ◌≡◌, ℕ, ◌++◌, List, [], ◌∷◌, map, Bool, true, false, not, ◌&&◌, Some, slice_get, refl, sym, ap, subst, ◌∙◌, ◌⊎◌, inl, inr}
use Rattle.wt_grid.specs.declared.image.Image.TheVariants.{One as Single, Two as Double}
use Rattle.wt_grid.specs.declared.image.Image.{Image}
use Rattle.wt_grid.specs.declared.axis.Axis.TheVariants.{One as First, Two as Second}
use Rattle.wt_grid.specs.declared.axis.Axis.{Axis}
use Rattle.std.specs.Prelude.{ℤ, pos, ◌<ℤ◌}
use Rattle.std.specs.List.{flat_map}
use Rattle.std.proofs.lemmas.Int.{ints}
use Rattle.std.proofs.lemmas.Bool.{and_parts, and_from}
use Rattle.wt_golden.specs.Whole.{Whole, whole, plus, minus, times, opposite, is_positive, IsPositive}
use Rattle.wt_golden.specs.Fractions.{Fraction}
use Rattle.wt_ring.proofs.Ring.{x_, ◌⊕◌, ◌⊗◌, ⊖_, n_, solve}
use Rattle.wt_golden.proofs.WholeRing.{golden}
use Rattle.wt_golden.proofs.Order.{positive_plus, positive_not_zero, positive_whole}
use Rattle.wt_plane.specs.HalfPlanes.{Half, Spot, HasDirection, HasCommonSpot, AllDirected, IsInside, reduced_half, moved_half}
use Rattle.wt_plane.specs.Regions.{holds_all, clash_with, clash_with_two, reduced}
use Rattle.wt_plane.proofs.Meeting.{Settles, clashes_settle}
use Rattle.wt_plane.proofs.Regions.{reduced_stays}
use Rattle.wt_plane.specs.Clash.{clashes}
use Rattle.wt_torus.specs.declared.letter.Letter.TheVariants.{One as Only}
use Rattle.wt_torus.specs.declared.partition.Labelled.{Labelled}
use Rattle.wt_torus.specs.declared.partition.Partition.{Partition}
use Rattle.wt_torus.specs.Boxes.{move_of}
use Rattle.wt_torus.specs.Rotation.{Window, IsInZone}
use Rattle.wt_torus.specs.Letters.{only_label, those, is_held, label_of}
use Rattle.wt_torus.proofs.Rotation.{flag, both}
use Rattle.wt_induce.specs.Images.{number_of}
use Rattle.wt_induce.specs.declared.zones.Frame.{Frame}
use Rattle.wt_induce.specs.declared.drafts.Draft.{Draft}
use Rattle.wt_induce.specs.Zones.{frame_on, beyond, beneath, moved_along, zero_fraction, zone_low, zone_high, zone}
use Rattle.wt_induce.specs.Induced.{some_clash, single, singles, double, doubles, drafts, is_kept, reduced_draft, kept, image_of, images, numbered, induced}
use Rattle.wt_induce.proofs.Numbers.{Each, all_numbered}
use Rattle.wt_induce.proofs.Letters.{those_append, those_map, those_none, those_same, those_out, each_those, IsOnly, IsKnown, only_image, image_only, pairs, only_single, single_only, only_pair, pair_only}
use Rattle.wt_induce.proofs.Letters.{singles as single_images}
use Rattle.wt_torus.proofs.Scale.{IsOver, scaled_zero, holds}
use Rattle.wt_torus.proofs.Lowered.{IsLess}
use Rattle.wt_induce.proofs.Planes.{point_at, beyond_holds, beneath_holds, moved_holds, divided_holds}

-- ---- tests of lists

pub held_append : (z : Spot) (xs ys : List Half) → holds_all (xs ++ ys) z ≡ (holds_all xs z && holds_all ys z)
held_append z [] ys = refl
held_append z (x ∷ xs) ys = elim (flag (holds z x)) [
  | inl e ↦ rw e (held_append z xs ys)
  | inr e ↦ rw e refl
]

held_map : (y z : Spot) (f : Half → Half) (xs : List Half) → ((x : Half) → holds y (f x) ≡ holds z x) → holds_all (map f xs) y ≡ holds_all xs z
held_map y z f [] h = refl
held_map y z f (x ∷ xs) h = rw (h x, held_map y z f xs h) refl

-- ---- directions

zero_scaled : (x : Whole) (k : ℤ) → x ≡ whole (pos 0) → times x (whole k) ≡ whole (pos 0)
zero_scaled x k e = ap (λ (y : Whole). times y (whole k)) e ∙ solve golden (whole k ∷ []) (n_ (pos 0) ⊗ x_ 0) (n_ (pos 0)) refl

pub divided_direction : (h g : Half) (k : ℤ) → IsLess h g k → HasDirection h → HasDirection g
divided_direction h g k l n = λ z. n (l.p ∙ zero_scaled g.p k z.0, l.q ∙ zero_scaled g.q k z.1)

pub moved_direction : (axis : Axis) (f : Fraction) (h : Half) → pos 0 <ℤ f.d → HasDirection h → HasDirection (moved_along axis f h)
unfolding moved_half
moved_direction First f h l n = λ z. n (
  scaled_zero h.p f.d l (solve golden (h.p ∷ whole f.d ∷ []) (x_ 0 ⊗ x_ 1) (x_ 0 ⊗ (x_ 1 ⊗ n_ (pos 1))) refl ∙ z.0),
  scaled_zero h.q f.d l (solve golden (h.q ∷ whole f.d ∷ []) (x_ 0 ⊗ x_ 1) (x_ 0 ⊗ (x_ 1 ⊗ n_ (pos 1))) refl ∙ z.1),
)
moved_direction Second f h l n = λ z. n (
  scaled_zero h.p f.d l (solve golden (h.p ∷ whole f.d ∷ []) (x_ 0 ⊗ x_ 1) (x_ 0 ⊗ (n_ (pos 1) ⊗ x_ 1)) refl ∙ z.0),
  scaled_zero h.q f.d l (solve golden (h.q ∷ whole f.d ∷ []) (x_ 0 ⊗ x_ 1) (x_ 0 ⊗ (n_ (pos 1) ⊗ x_ 1)) refl ∙ z.1),
)

whole_zero : (k : ℤ) → pos 0 <ℤ k → whole k ≡ whole (pos 0) → ⊥
whole_zero k h e = positive_not_zero (subst IsPositive e (positive_whole k h))

opposite_zero : (k : ℤ) → pos 0 <ℤ k → opposite (whole k) ≡ whole (pos 0) → ⊥
opposite_zero k h e = whole_zero k h (solve golden (whole k ∷ []) (x_ 0) (⊖_ (⊖_ (x_ 0))) refl ∙ (ap opposite e ∙ solve golden [] (⊖_ (n_ (pos 0))) (n_ (pos 0)) refl))

pub beyond_direction : (axis : Axis) (f : Fraction) → pos 0 <ℤ f.d → HasDirection (beyond axis f)
beyond_direction First f l = λ z. whole_zero f.d l z.0
beyond_direction Second f l = λ z. whole_zero f.d l z.1

pub beneath_direction : (axis : Axis) (f : Fraction) → pos 0 <ℤ f.d → HasDirection (beneath axis f)
beneath_direction First f l = λ z. opposite_zero f.d l z.0
beneath_direction Second f l = λ z. opposite_zero f.d l z.1

pub each_append : {A : Type 0} (P : A → Type 0) (xs ys : List A) → Each P xs → Each P ys → Each P (xs ++ ys)
each_append P [] ys h k = k
each_append P (x ∷ xs) ys h k = (h.0, each_append P xs ys h.1 k)

pub each_map : {A B : Type 0} (P : A → Type 0) (Q : B → Type 0) (f : A → B) (xs : List A) → ((x : A) → P x → Q (f x)) → Each P xs → Each Q (map f xs)
each_map P Q f [] h e = tt
each_map P Q f (x ∷ xs) h e = (h x e.0, each_map P Q f xs h e.1)

each_flat : {A B : Type 0} (P : A → Type 0) (Q : B → Type 0) (f : A → List B) (xs : List A) → ((x : A) → P x → Each Q (f x)) → Each P xs → Each Q (flat_map f xs)
each_flat P Q f [] h e = tt
each_flat P Q f (x ∷ xs) h e = each_append Q (f x) (flat_map f xs) (h x e.0) (each_flat P Q f xs h e.1)

abbrev pub IsDirected : List Half → Type 0
IsDirected hs = Each HasDirection hs

-- ---- what clashes and what is reduced

clash_none : (f g h : Half) (z : Spot) → pos 0 <ℤ z.d → HasDirection f → HasDirection g → HasDirection h → clashes f g h ≡ true → holds z f ≡ true → holds z g ≡ true → holds z h ≡ true → ⊥
clash_none f g h z over df dg dh c a b e =
    let none : HasCommonSpot f g h → ⊥ = subst (λ (t : Bool). Settles t f g h) c (clashes_settle f g h df dg dh) in
    none (z, record { divisor = over }, record { above = a }, record { above = b }, record { above = e })

inside_held : (hs : List Half) (z : Spot) → IsInside hs z → holds_all hs z ≡ true
inside_held [] z i = refl
inside_held (h ∷ hs) z i = and_from (holds z h) (holds_all hs z) i.0.above (inside_held hs z i.1)

held_inside : (hs : List Half) (z : Spot) → holds_all hs z ≡ true → IsInside hs z
held_inside [] z e = tt
held_inside (h ∷ hs) z e = let t = and_parts (holds z h) (holds_all hs z) e in (record { above = t.0 }, held_inside hs z t.1)

each_directed : (hs : List Half) → IsDirected hs → AllDirected hs
each_directed [] d = tt
each_directed (h ∷ hs) d = (d.0, each_directed hs d.1)

reduced_holds : (hs : List Half) (z : Spot) → pos 0 <ℤ z.d → IsDirected hs → holds_all (reduced [] hs) z ≡ holds_all hs z
reduced_holds hs z over d =
    let stays = reduced_stays [] hs z (record { divisor = over }) (each_directed hs d) in
    elim (flag (holds_all hs z)) [
      | inl e ↦ inside_held (reduced [] hs) z (stays.1 (held_inside hs z e)) ∙ sym e
      | inr e ↦ elim (flag (holds_all (reduced [] hs) z)) [
        | inl f ↦ both (holds_all hs z) (inside_held hs z (stays.0 (held_inside (reduced [] hs) z f))) e
        | inr f ↦ f ∙ sym e
      ]
    ]

-- ---- what is kept

module _ (z : Spot) (over : pos 0 <ℤ z.d) where
  abbrev pub Is : Half → Type 0
  Is h = HasDirection h × (holds z h ≡ true)

  pub is_all : (hs : List Half) → IsDirected hs → holds_all hs z ≡ true → Each Is hs
  is_all [] d e = tt
  is_all (h ∷ hs) d e = let t = and_parts (holds z h) (holds_all hs z) e in ((d.0, t.0), is_all hs d.1 t.1)

  none_third : (f g : Half) (hs : List Half) → Is f → Is g → Each Is hs → clash_with f g hs ≡ false
  none_third f g [] i j e = refl
  none_third f g (h ∷ hs) i j e = elim (flag (clashes f g h)) [
    | inl c ↦ absurd (clash_none f g h z over i.0 j.0 e.0.0 c i.1 j.1 e.0.1)
    | inr c ↦ rw c (none_third f g hs i j e.1)
  ]

  none_second : (f : Half) (hs : List Half) → Is f → Each Is hs → clash_with_two f hs ≡ false
  none_second f [] i e = refl
  none_second f (h ∷ hs) i e = rw (none_third f h (h ∷ hs) i e.0 e) (none_second f hs i e.1)

  pub none_clash : (hs : List Half) → Each Is hs → some_clash hs ≡ false
  none_clash [] e = refl
  none_clash (h ∷ hs) e = rw (none_second h (h ∷ hs) e.0 e) (none_clash hs e.1)

never : (x y : Whole) → is_positive x ≡ true → is_positive y ≡ true → plus x y ≡ whole (pos 0) → ⊥
never x y e f z = positive_not_zero (subst IsPositive z (positive_plus x y (record { above = e }) (record { above = f })))

-- of elements that are kept and changed, where what passes at last was kept
those_kept : {A B C : Type 0} (R : A → Type 0) (f : B → C) (p : B → Bool) (g : A → B) (q : A → Bool) (f' : A → C) (p' : A → Bool) (xs : List A)
    → ((x : A) → f (g x) ≡ f' x) → ((x : A) → R x → p (g x) ≡ p' x) → ((x : A) → R x → p' x ≡ true → q x ≡ true) → Each R xs → those f p (those g q xs) ≡ those f' p' xs
those_kept R f p g q f' p' [] e h k r = refl
those_kept R f p g q f' p' (x ∷ xs) e h k r = elim (flag (p' x)) [
  | inl t ↦ rw (k x r.0 t, t) (rw (h x r.0 ∙ t, e x) (ap (λ (s : List _). f' x ∷ s) (those_kept R f p g q f' p' xs e h k r.1)))
  | inr t ↦ elim (flag (q x)) [
    | inl s ↦ rw (s, t) (rw (h x r.0 ∙ t) (those_kept R f p g q f' p' xs e h k r.1))
    | inr s ↦ rw (s, t) (those_kept R f p g q f' p' xs e h k r.1)
  ]
]

-- The window over one denominator.
pub record IsFrame (d : ℤ) (w : Frame) (W : Window) : Type 0 where
  pub size_over : pos 0 <ℤ w.size.d
  pub size : IsOver d w.size W.size
  pub bound_over : pos 0 <ℤ w.bound.d
  pub bound : IsOver d w.bound W.bound
  pub single : w.single_below ≡ W.single_below

and_true : (b : Bool) → (b && true) ≡ b
and_true true = refl
and_true false = refl

and_false : (b : Bool) → (b && false) ≡ false
and_false true = refl
and_false false = refl

module _ (least_is : (h : Half) → (k : ℤ) × IsLess h (reduced_half h) k)
    (axis : Axis) (d : ℤ) (over : pos 0 <ℤ d) where
  pub least_holds : (h : Half) (z : Spot) → holds z (reduced_half h) ≡ holds z h
  least_holds h z = let l = least_is h in divided_holds h (reduced_half h) l.0 l.1 z

  pub least_direction : (h : Half) → HasDirection h → HasDirection (reduced_half h)
  least_direction h n = let l = least_is h in divided_direction h (reduced_half h) l.0 l.1 n

  pub point_over : (a : Axis) (t s : Whole) → pos 0 <ℤ (point_at a t s d).d
  point_over First t s = over
  point_over Second t s = over

  pub zero_over : IsOver d zero_fraction (whole (pos 0))
  zero_over = solve golden (whole d ∷ []) (n_ (pos 0) ⊗ x_ 0) (n_ (pos 0) ⊗ n_ (pos 1)) refl

  pub one_above : pos 0 <ℤ pos 1
  one_above = omega (arith, ints)

  pub less_zero : (t : Whole) → is_positive (minus t (whole (pos 0))) ≡ is_positive t
  less_zero t = ap is_positive (solve golden (t ∷ []) (x_ 0 ⊕ ⊖_ (n_ (pos 0))) (x_ 0) refl)

  -- ---- zones
  module _ (w : Frame) (W : Window) (frame : IsFrame d w W) (t s : Whole) where
    low_end : (b : Bool) → Whole
    low_end true = whole (pos 0)
    low_end false = W.bound

    zone_is : (b : Bool) → holds_all (zone axis w b) (point_at axis t s d) ≡ (holds (point_at axis t s d) (beyond axis (zone_low w b)) && (holds (point_at axis t s d) (beneath axis (zone_high w b)) && true))
    zone_is b = rw (least_holds (beyond axis (zone_low w b)) (point_at axis t s d), least_holds (beneath axis (zone_high w b)) (point_at axis t s d)) refl

    low_zone : holds_all (zone axis w true) (point_at axis t s d) ≡ (is_positive t && (is_positive (minus W.bound t) && true))
    low_zone = zone_is true ∙ rw (beyond_holds d zero_fraction (whole (pos 0)) zero_over one_above axis t s, beneath_holds d w.bound W.bound frame.bound frame.bound_over axis t s, less_zero t) refl

    high_zone : holds_all (zone axis w false) (point_at axis t s d) ≡ (is_positive (minus t W.bound) && (is_positive (minus W.size t) && true))
    high_zone = zone_is false ∙ rw (beyond_holds d w.bound W.bound frame.bound frame.bound_over axis t s, beneath_holds d w.size W.size frame.size frame.size_over axis t s) refl

    three : (a b : Bool) → (a && (b && true)) ≡ true → (a ≡ true) × (b ≡ true)
    three true true e = (refl, refl)
    three true false e = absurd cc
    three false b e = absurd cc

    from_three : (a b : Bool) → a ≡ true → b ≡ true → (a && (b && true)) ≡ true
    from_three a b e f = rw (e, f) refl

    pub in_zone : (b : Bool) → IsInZone W b t → holds_all (zone axis w b) (point_at axis t s d) ≡ true
    in_zone true i = low_zone ∙ from_three (is_positive t) (is_positive (minus W.bound t)) i.0 i.1
    in_zone false i = high_zone ∙ from_three (is_positive (minus t W.bound)) (is_positive (minus W.size t)) i.0 i.1

    pub zone_in : (b : Bool) → holds_all (zone axis w b) (point_at axis t s d) ≡ true → IsInZone W b t
    zone_in true e = three (is_positive t) (is_positive (minus W.bound t)) (sym low_zone ∙ e)
    zone_in false e = three (is_positive (minus t W.bound)) (is_positive (minus W.size t)) (sym high_zone ∙ e)

  -- ---- the images of the drafts that hold a point
  abbrev test : Spot → Draft → Bool
  test z c = holds_all c.planes z

  module _ (zs : List Half) (t s M : Whole) (move : Fraction) (move_over : pos 0 <ℤ move.d) (move_is : IsOver d move M) where
    abbrev pub here : Spot
    here = point_at axis t s d

    abbrev pub there : Spot
    there = point_at axis (plus t M) s d

    single_test : (r : Labelled) → test here (single zs r) ≡ (is_held here r && holds_all zs here)
    single_test r = held_append here r.region.planes zs

    pub singles_in : (rs : List Labelled) → holds_all zs here ≡ true → those image_of (test here) (singles zs rs) ≡ single_images (those label_of (is_held here) rs)
    singles_in rs e =
        those_map image_of (test here) (single zs) rs
        ∙ (those_same (λ (r : Labelled). Single r.label) (λ r. test here (single zs r)) (is_held here) rs (λ r. single_test r ∙ (ap (λ (b : Bool). is_held here r && b) e ∙ and_true (is_held here r)))
        ∙ those_out Single label_of (is_held here) rs)

    pub singles_out : (rs : List Labelled) → holds_all zs here ≡ false → those image_of (test here) (singles zs rs) ≡ []
    singles_out rs e =
        those_map image_of (test here) (single zs) rs
        ∙ those_none (λ (r : Labelled). Single r.label) (λ r. test here (single zs r)) rs (λ r. single_test r ∙ (ap (λ (b : Bool). is_held here r && b) e ∙ and_false (is_held here r)))

    pub moved_test : (hs : List Half) → holds_all (map (λ h. reduced_half (moved_along axis move h)) hs) here ≡ holds_all hs there
    moved_test hs = held_map here there (λ h. reduced_half (moved_along axis move h)) hs (λ h. least_holds (moved_along axis move h) here ∙ moved_holds d move M move_is move_over axis h t s)

    double_test : (p q : Labelled) → test here (double axis move zs p q) ≡ (is_held here p && (holds_all zs here && is_held there q))
    double_test p q =
        held_append here p.region.planes (zs ++ map (λ h. reduced_half (moved_along axis move h)) q.region.planes)
        ∙ ap (λ (b : Bool). is_held here p && b) (held_append here zs (map (λ h. reduced_half (moved_along axis move h)) q.region.planes)
        ∙ ap (λ (b : Bool). holds_all zs here && b) (moved_test q.region.planes))

    pairs_of : (p : Labelled) (rs : List Labelled) → those image_of (test here) (map (double axis move zs p) rs) ≡ those (λ q. Double p.label q.label) (λ q. test here (double axis move zs p q)) rs
    pairs_of p rs = those_map image_of (test here) (double axis move zs p) rs

    pairs_in : (p : Labelled) (rs : List Labelled) → holds_all zs here ≡ true → is_held here p ≡ true → those image_of (test here) (map (double axis move zs p) rs) ≡ map (Double p.label) (those label_of (is_held there) rs)
    pairs_in p rs e f =
        pairs_of p rs
        ∙ (those_same (λ (q : Labelled). Double p.label q.label) (λ q. test here (double axis move zs p q)) (is_held there) rs
        (λ q. double_test p q ∙ rw (f, e) refl)
        ∙ those_out (Double p.label) label_of (is_held there) rs)

    pairs_out : (p : Labelled) (rs : List Labelled) → ((q : Labelled) → test here (double axis move zs p q) ≡ false) → those image_of (test here) (map (double axis move zs p) rs) ≡ []
    pairs_out p rs h = pairs_of p rs ∙ those_none (λ (q : Labelled). Double p.label q.label) (λ q. test here (double axis move zs p q)) rs h

    pub doubles_in : (ps rs : List Labelled) → holds_all zs here ≡ true → those image_of (test here) (flat_map (λ p. map (double axis move zs p) rs) ps) ≡ pairs (those label_of (is_held here) ps) (those label_of (is_held there) rs)
    doubles_in [] rs e = refl
    doubles_in (p ∷ ps) rs e =
        let rest = doubles_in ps rs e in
        those_append image_of (test here) (map (double axis move zs p) rs) (flat_map (λ p. map (double axis move zs p) rs) ps)
        ∙ elim (flag (is_held here p)) as (λ _. (those image_of (test here) (map (double axis move zs p) rs) ++ those image_of (test here) (flat_map (λ p. map (double axis move zs p) rs) ps)) ≡ pairs (those label_of (is_held here) (p ∷ ps)) (those label_of (is_held there) rs)) [
          | inl f ↦ rw (pairs_in p rs e f, rest, f) refl
          | inr f ↦ rw (pairs_out p rs (λ q. double_test p q ∙ rw f refl), f) rest
        ]

    pub doubles_out : (ps rs : List Labelled) → holds_all zs here ≡ false → those image_of (test here) (flat_map (λ p. map (double axis move zs p) rs) ps) ≡ []
    doubles_out [] rs e = refl
    doubles_out (p ∷ ps) rs e =
        those_append image_of (test here) (map (double axis move zs p) rs) (flat_map (λ p. map (double axis move zs p) rs) ps)
        ∙ rw (pairs_out p rs (λ q. double_test p q ∙ rw e (and_false (is_held here p)))) (doubles_out ps rs e)

  zones_apart : (W : Window) (t : Whole) (b : Bool) → IsInZone W b t → IsInZone W (not b) t → ⊥
  zones_apart W t true i j = never (minus W.bound t) (minus t W.bound) i.1 j.0 (solve golden (W.bound ∷ t ∷ []) ((x_ 0 ⊕ ⊖_ (x_ 1)) ⊕ (x_ 1 ⊕ ⊖_ (x_ 0))) (n_ (pos 0)) refl)
  zones_apart W t false i j = never (minus W.bound t) (minus t W.bound) j.1 i.0 (solve golden (W.bound ∷ t ∷ []) ((x_ 0 ⊕ ⊖_ (x_ 1)) ⊕ (x_ 1 ⊕ ⊖_ (x_ 0))) (n_ (pos 0)) refl)

  module _ (p : Partition) (directed : Each (λ (r : Labelled). IsDirected r.region.planes) p.regions) (W : Window) (M : Whole)
      (move_over : pos 0 <ℤ (move_of axis p.torus).d) (move_is : IsOver d (move_of axis p.torus) M) (frame : IsFrame d (frame_on axis p.torus) W) where
    abbrev w : Frame
    w = frame_on axis p.torus

    abbrev sb : Bool
    sb = W.single_below

    -- ---- all drafts have directions
    zone_directed : (b : Bool) → IsDirected (zone axis w b)
    zone_directed true = (
      least_direction (beyond axis zero_fraction) (beyond_direction axis zero_fraction one_above),
      (least_direction (beneath axis w.bound) (beneath_direction axis w.bound frame.bound_over), tt),
    )
    zone_directed false = (
      least_direction (beyond axis w.bound) (beyond_direction axis w.bound frame.bound_over),
      (least_direction (beneath axis w.size) (beneath_direction axis w.size frame.size_over), tt),
    )

    moved_directed : (hs : List Half) → IsDirected hs → IsDirected (map (λ h. reduced_half (moved_along axis (move_of axis p.torus) h)) hs)
    moved_directed hs e = each_map HasDirection HasDirection (λ h. reduced_half (moved_along axis (move_of axis p.torus) h)) hs
        (λ h n. least_direction (moved_along axis (move_of axis p.torus) h) (moved_direction axis (move_of axis p.torus) h move_over n)) e

    abbrev IsDraft : Draft → Type 0
    IsDraft c = IsDirected c.planes

    abbrev HasRegion : Labelled → Type 0
    HasRegion r = IsDirected r.region.planes

    drafts_directed : Each IsDraft (drafts axis p)
    drafts_directed = each_append IsDraft (singles (zone axis w w.single_below) p.regions) (doubles axis (move_of axis p.torus) (zone axis w (not w.single_below)) p.regions)
        (each_map HasRegion IsDraft (single (zone axis w w.single_below)) p.regions (λ r e. each_append HasDirection r.region.planes (zone axis w w.single_below) e (zone_directed w.single_below)) directed)
        (each_flat HasRegion IsDraft (λ r. map (double axis (move_of axis p.torus) (zone axis w (not w.single_below)) r) p.regions) p.regions
        (λ r e. each_map HasRegion IsDraft (double axis (move_of axis p.torus) (zone axis w (not w.single_below)) r) p.regions
        (λ q f. each_append HasDirection r.region.planes (zone axis w (not w.single_below) ++ map (λ h. reduced_half (moved_along axis (move_of axis p.torus) h)) q.region.planes) e
        (each_append HasDirection (zone axis w (not w.single_below)) (map (λ h. reduced_half (moved_along axis (move_of axis p.torus) h)) q.region.planes) (zone_directed (not w.single_below)) (moved_directed q.region.planes f))) directed) directed)

    -- ---- the images at a point
    module _ (t s : Whole) where
      abbrev at : Spot
      at = point_at axis t s d

      abbrev on : Spot
      on = point_at axis (plus t M) s d

      abbrev imgs : List Image
      imgs = those image_of (test at) (drafts axis p)

      keeps : (c : Draft) → IsDraft c → test at c ≡ true → is_kept c ≡ true
      keeps c n e = rw (none_clash at (point_over axis t s) c.planes (is_all at (point_over axis t s) c.planes n e)) refl

      reduced_test : (c : Draft) → IsDraft c → test at (reduced_draft c) ≡ test at c
      reduced_test c n = reduced_holds c.planes at (point_over axis t s) n

      pub new_labels : those label_of (is_held at) (induced axis p).regions ≡ map (number_of (images axis p)) imgs
      unfolding induced
      new_labels =
          those_map label_of (is_held at) (numbered (images axis p)) (kept axis p)
          ∙ (those_kept IsDraft (λ (c : Draft). number_of (images axis p) c.image) (λ (c : Draft). holds_all c.planes at) reduced_draft is_kept
          (λ (c : Draft). number_of (images axis p) c.image) (test at) (drafts axis p) (λ c. refl) reduced_test keeps drafts_directed
          ∙ those_out (number_of (images axis p)) image_of (test at) (drafts axis p))

      pub known : Each (IsKnown (images axis p) (number_of (images axis p))) imgs
      unfolding images
      known =
          let is = images axis p in
          let all = all_numbered (map image_of (kept axis p)) in
          let some = each_those (IsKnown is (number_of is)) image_of (test at) (kept axis p) all in
          subst (λ (xs : List Image). Each (IsKnown is (number_of is)) xs)
          (those_kept IsDraft image_of (test at) reduced_draft is_kept image_of (test at) (drafts axis p) (λ c. refl) reduced_test keeps drafts_directed) some

      out_of : (b : Bool) → (IsInZone W b t → ⊥) → holds_all (zone axis w b) at ≡ false
      out_of b n = elim (flag (holds_all (zone axis w b) at)) [
        | inl e ↦ absurd (n (zone_in w W frame t s b e))
        | inr e ↦ e
      ]

      parts : imgs ≡ those image_of (test at) (singles (zone axis w w.single_below) p.regions) ++ those image_of (test at) (doubles axis (move_of axis p.torus) (zone axis w (not w.single_below)) p.regions)
      parts = those_append image_of (test at) (singles (zone axis w w.single_below) p.regions) (doubles axis (move_of axis p.torus) (zone axis w (not w.single_below)) p.regions)

      append_none : (xs : List Image) → xs ++ [] ≡ xs
      append_none [] = refl
      append_none (x ∷ xs) = ap (λ (ys : List Image). x ∷ ys) (append_none xs)

      pub single_images_at : IsInZone W sb t → imgs ≡ single_images (those label_of (is_held at) p.regions)
      single_images_at i =
          let here : holds_all (zone axis w w.single_below) at ≡ true = rw frame.single (in_zone w W frame t s sb i) in
          let none : holds_all (zone axis w (not w.single_below)) at ≡ false = rw frame.single (out_of (not sb) (λ j. zones_apart W t sb i j)) in
          parts ∙ rw (
            singles_in (zone axis w w.single_below) t s M (move_of axis p.torus) move_over move_is p.regions here,
            doubles_out (zone axis w (not w.single_below)) t s M (move_of axis p.torus) move_over move_is p.regions p.regions none,
          ) (append_none (single_images (those label_of (is_held at) p.regions)))

      pub double_images_at : IsInZone W (not sb) t → imgs ≡ pairs (those label_of (is_held at) p.regions) (those label_of (is_held on) p.regions)
      double_images_at i =
          let none : holds_all (zone axis w w.single_below) at ≡ false = rw frame.single (out_of sb (λ j. zones_apart W t sb j i)) in
          let here : holds_all (zone axis w (not w.single_below)) at ≡ true = rw frame.single (in_zone w W frame t s (not sb) i) in
          parts ∙ rw (
            singles_out (zone axis w w.single_below) t s M (move_of axis p.torus) move_over move_is p.regions none,
            doubles_in (zone axis w (not w.single_below)) t s M (move_of axis p.torus) move_over move_is p.regions p.regions here,
          ) refl

      pub no_images_at : (IsInZone W sb t → ⊥) → (IsInZone W (not sb) t → ⊥) → imgs ≡ []
      no_images_at m n =
          let none : holds_all (zone axis w w.single_below) at ≡ false = rw frame.single (out_of sb m) in
          let neither : holds_all (zone axis w (not w.single_below)) at ≡ false = rw frame.single (out_of (not sb) n) in
          parts ∙ rw (
            singles_out (zone axis w w.single_below) t s M (move_of axis p.torus) move_over move_is p.regions none,
            doubles_out (zone axis w (not w.single_below)) t s M (move_of axis p.torus) move_over move_is p.regions p.regions neither,
          ) refl

      -- ---- the new letter
      -- what a new label stands for, by the letters here and after one turn
      pub coarse_is : (l : ℕ) → only_label (map (number_of (images axis p)) imgs) ≡ Only l
          → (IsInZone W sb t × ((a : ℕ) × (only_label (those label_of (is_held at) p.regions) ≡ Only a) × (slice_get (images axis p) l ≡ Some (Single a))))
          ⊎ (IsInZone W (not sb) t × ((a : ℕ) × (b : ℕ) × (only_label (those label_of (is_held at) p.regions) ≡ Only a) × (only_label (those label_of (is_held on) p.regions) ≡ Only b) × (slice_get (images axis p) l ≡ Some (Double a b))))
      coarse_is l e =
          let is = images axis p in
          let o = only_image is (number_of is) imgs l known e in
          elim (flag (holds_all (zone axis w sb) at)) [
            | inl z ↦
                let i = zone_in w W frame t s sb z in
                let r = only_single o.0 (those label_of (is_held at) p.regions) (subst (λ (xs : List Image). IsOnly o.0 xs) (single_images_at i) o.2) in
                inl (i, (r.0, r.2, o.1 ∙ ap Some r.1))
            | inr z ↦ elim (flag (holds_all (zone axis w (not sb)) at)) [
              | inl u ↦
                  let i = zone_in w W frame t s (not sb) u in
                  let r = only_pair o.0 (those label_of (is_held at) p.regions) (those label_of (is_held on) p.regions) (subst (λ (xs : List Image). IsOnly o.0 xs) (double_images_at i) o.2) in
                  inr (i, (r.0, r.1, r.3, r.4, o.1 ∙ ap Some r.2))
              | inr u ↦
                  let n = no_images_at (λ i. both (holds_all (zone axis w sb) at) (in_zone w W frame t s sb i) z) (λ i. both (holds_all (zone axis w (not sb)) at) (in_zone w W frame t s (not sb) i) u) in
                  absurd (subst (λ (xs : List Image). IsOnly o.0 xs) n o.2)
            ]
          ]

      pub coarse_single : (a : ℕ) → IsInZone W sb t → only_label (those label_of (is_held at) p.regions) ≡ Only a
          → only_label (map (number_of (images axis p)) imgs) ≡ Only (number_of (images axis p) (Single a))
      coarse_single a i e =
          let is = images axis p in
          image_only is (number_of is) imgs (Single a) (subst (λ (xs : List Image). IsOnly (Single a) xs) (sym (single_images_at i)) (single_only a (those label_of (is_held at) p.regions) e))

      pub coarse_double : (a b : ℕ) → IsInZone W (not sb) t → only_label (those label_of (is_held at) p.regions) ≡ Only a → only_label (those label_of (is_held on) p.regions) ≡ Only b
          → only_label (map (number_of (images axis p)) imgs) ≡ Only (number_of (images axis p) (Double a b))
      coarse_double a b i e f =
          let is = images axis p in
          image_only is (number_of is) imgs (Double a b) (subst (λ (xs : List Image). IsOnly (Double a b) xs) (sym (double_images_at i)) (pair_only a b (those label_of (is_held at) p.regions) (those label_of (is_held on) p.regions) e f))
