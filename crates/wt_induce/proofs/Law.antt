-- The coding law and its converse, over one denominator.
use Rattle.std.proofs.Common.{◌≡◌, ℕ, ◌<◌, ◌≤◌, List, [], ◌∷◌, map, Bool, true, false, not, ◌&&◌, cond, Some, slice_get, refl, sym, ap, ◌∙◌, inl, inr}
use Rattle.wt_grid.specs.Axes.{other}
use Rattle.wt_grid.specs.declared.image.Image.{Image}
use Rattle.wt_grid.specs.declared.image.Image.TheVariants.{One as Single, Two as Double}
use Rattle.wt_grid.specs.declared.axis.Axis.TheVariants.{One as First, Two as Second}
use Rattle.wt_grid.specs.declared.axis.Axis.{Axis}
use Rattle.std.specs.Prelude.{ℤ, pos, ◌<ℤ◌}
use Rattle.std.specs.Option.{option_map}
use Rattle.std.proofs.lemmas.Option.{slice_get-map}
use Rattle.std.proofs.lemmas.Bool.{and_parts, and_from}
use Rattle.wt_golden.specs.Whole.{Whole, plus, minus, is_positive}
use Rattle.wt_golden.specs.Fractions.{Fraction}
use Rattle.wt_ring.proofs.Ring.{x_, ◌⊕◌, ⊖_, solve}
use Rattle.wt_golden.proofs.WholeRing.{golden}
use Rattle.wt_golden.proofs.Order.{positive_plus}
use Rattle.wt_plane.specs.HalfPlanes.{Half, Spot, reduced_half}
use Rattle.wt_grid.specs.Grid.{listed}
use Rattle.wt_grid.specs.Lines.{IsImage}
use Rattle.wt_torus.specs.declared.letter.Letter.{Letter}
use Rattle.wt_torus.specs.declared.letter.Letter.TheVariants.{One as Only, Unplaced, Doubled}
use Rattle.wt_torus.specs.declared.partition.Labelled.{Labelled}
use Rattle.wt_torus.specs.declared.partition.Partition.{Partition}
use Rattle.wt_torus.specs.Boxes.{Rotation, length_of, move_of, is_between, is_in_box}
use Rattle.wt_torus.specs.Rotation.{IsInside, orbit, Window, window, returns, IsInZone}
use Rattle.wt_torus.specs.Letters.{only_label, those, is_held, label_of, letter, number_in}
use Rattle.wt_torus.proofs.Rotation.{first_return, window_less}
use Rattle.wt_morphism.specs.Images.{piece}
use Rattle.wt_induce.specs.Images.{number_of}
use Rattle.wt_induce.specs.Zones.{frame_on, framed}
use Rattle.wt_induce.specs.Induced.{images, induced}
use Rattle.wt_induce.proofs.Numbers.{Each}
use Rattle.wt_torus.proofs.Scale.{IsOver, below_is}
use Rattle.wt_torus.proofs.Lowered.{IsLess}
use Rattle.wt_induce.proofs.Planes.{point_at}
use Rattle.wt_induce.proofs.Points.{IsDirected, IsFrame, new_labels, coarse_is, coarse_single, coarse_double}
use Rattle.wt_induce.proofs.Coding as coding

-- ---- letters and boxes

letter_from : (b : Bool) (x : Letter) (l : ℕ) → cond b x Unplaced ≡ Only l → (b ≡ true) × (x ≡ Only l)
letter_from true x l e = (refl, e)
letter_from false x l e = absurd cc

pub letter_parts : (p : Partition) (z : Spot) (l : ℕ) → letter p z ≡ Only l → (is_in_box p.torus z ≡ true) × (only_label (those label_of (is_held z) p.regions) ≡ Only l)
unfolding letter
letter_parts p z l e = letter_from (is_in_box p.torus z) (only_label (those label_of (is_held z) p.regions)) l e

pub parts_letter : (p : Partition) (z : Spot) (l : ℕ) → is_in_box p.torus z ≡ true → only_label (those label_of (is_held z) p.regions) ≡ Only l → letter p z ≡ Only l
unfolding letter
parts_letter p z l b e = rw b e

pub box_parts : (axis : Axis) (r : Rotation) (t s : Whole) (d : ℤ) → is_in_box r (point_at axis t s d) ≡ true → (is_between t d (length_of axis r) ≡ true) × (is_between s d (length_of (other axis) r) ≡ true)
box_parts First r t s d e = and_parts (is_between t d r.width) (is_between s d r.height) e
box_parts Second r t s d e = let h = and_parts (is_between s d r.width) (is_between t d r.height) e in (h.1, h.0)

pub parts_box : (axis : Axis) (r : Rotation) (t s : Whole) (d : ℤ) → is_between t d (length_of axis r) ≡ true → is_between s d (length_of (other axis) r) ≡ true → is_in_box r (point_at axis t s d) ≡ true
parts_box First r t s d e f = and_from (is_between t d r.width) (is_between s d r.height) e f
parts_box Second r t s d e f = and_from (is_between s d r.width) (is_between t d r.height) f e

pub framed_length : (axis : Axis) (r : Rotation) → length_of axis (framed axis r) ≡ (frame_on axis r).size
framed_length First r = refl
framed_length Second r = refl

pub framed_other : (axis : Axis) (r : Rotation) → length_of (other axis) (framed axis r) ≡ length_of (other axis) r
framed_other First r = refl
framed_other Second r = refl

-- strictly between 0 and a length, over one denominator
pub between_is : (t : Whole) (d : ℤ) (f : Fraction) (g : Whole) → pos 0 <ℤ f.d → IsOver d f g → is_between t d f ≡ (is_positive t && is_positive (minus g t))
between_is t d f g h o = ap (λ (b : Bool). is_positive t && b) (below_is t d f g h o)

abbrev pub IsDefined : Letter → Type 0
IsDefined x = x ≡ Only (number_in x)

pub defined_from : (x : Letter) (a : ℕ) → x ≡ Only a → IsDefined x
defined_from (Only b) a e = refl
defined_from Unplaced a e = absurd cc
defined_from Doubled a e = absurd cc

pub number_from : (x : Letter) (a : ℕ) → x ≡ Only a → a ≡ number_in x
number_from (Only b) a e = cc
number_from Unplaced a e = absurd cc
number_from Doubled a e = absurd cc

module _ (least_is : (h : Half) → (k : ℤ) × IsLess h (reduced_half h) k)
    (axis : Axis) (d : ℤ) (over : pos 0 <ℤ d)
    (p : Partition) (directed : Each (λ (r : Labelled). IsDirected r.region.planes) p.regions) (L M : Whole)
    (length_over : pos 0 <ℤ (length_of axis p.torus).d) (length_is : IsOver d (length_of axis p.torus) L)
    (move_over : pos 0 <ℤ (move_of axis p.torus).d) (move_is : IsOver d (move_of axis p.torus) M)
    (some : is_positive M ≡ true) (less : is_positive (minus L M) ≡ true) (half : plus M M ≡ L → ⊥)
    (frame : IsFrame d (frame_on axis p.torus) (window L M)) (h : ℕ) (rows : 1 ≤ h) (ys : ℕ → Whole) where
  abbrev W : Window
  W = window L M

  abbrev sb : Bool
  sb = W.single_below

  abbrev is : List Image
  is = images axis p

  abbrev at : Whole → ℕ → Spot
  at t j = point_at axis t (ys j) d

  abbrev fine_letter : Whole → ℕ → Letter
  fine_letter t j = letter p (at t j)

  abbrev coarse_letter : Whole → ℕ → Letter
  coarse_letter t j = letter (induced axis p) (at t j)

  abbrev fine : Whole → ℕ → ℕ
  fine t j = number_in (fine_letter t j)

  abbrev coarse : Whole → ℕ → ℕ
  coarse t j = number_in (coarse_letter t j)

  abbrev Fine : Whole → ℕ → Type 0
  Fine t j = IsDefined (fine_letter t j)

  abbrev Coarse : Whole → ℕ → Type 0
  Coarse t j = IsDefined (coarse_letter t j)

  abbrev pieces_of : List Image
  pieces_of = map piece is

  piece_at_number : (l : ℕ) (x : Image) → slice_get is l ≡ Some x → slice_get pieces_of l ≡ Some (piece x)
  piece_at_number l x e = slice_get-map piece is l ∙ ap (option_map piece) e

  -- the box of the window, and the box
  pub torus_of : (induced axis p).torus ≡ framed axis p.torus
  unfolding induced
  torus_of = refl

  coarse_box : (t s : Whole) → is_in_box (framed axis p.torus) (point_at axis t s d) ≡ true → (is_positive t ≡ true) × (is_positive (minus W.size t) ≡ true) × (is_between s d (length_of (other axis) p.torus) ≡ true)
  coarse_box t s e =
      let h = box_parts axis (framed axis p.torus) t s d e in
      let b : is_between t d (frame_on axis p.torus).size ≡ true = ap (is_between t d) (sym (framed_length axis p.torus)) ∙ h.0 in
      let parts = and_parts (is_positive t) (is_positive (minus W.size t)) (sym (between_is t d (frame_on axis p.torus).size W.size frame.size_over frame.size) ∙ b) in
      (parts.0, parts.1, ap (is_between s d) (sym (framed_other axis p.torus)) ∙ h.1)

  box_coarse : (t s : Whole) → is_positive t ≡ true → is_positive (minus W.size t) ≡ true → is_between s d (length_of (other axis) p.torus) ≡ true → is_in_box (framed axis p.torus) (point_at axis t s d) ≡ true
  box_coarse t s e f g =
      let b = between_is t d (frame_on axis p.torus).size W.size frame.size_over frame.size ∙ and_from (is_positive t) (is_positive (minus W.size t)) e f in
      parts_box axis (framed axis p.torus) t s d (ap (is_between t d) (framed_length axis p.torus) ∙ b) (ap (is_between s d) (framed_other axis p.torus) ∙ g)

  fine_box : (t s : Whole) → is_in_box p.torus (point_at axis t s d) ≡ true → (is_positive t ≡ true) × (is_positive (minus L t) ≡ true) × (is_between s d (length_of (other axis) p.torus) ≡ true)
  fine_box t s e =
      let h = box_parts axis p.torus t s d e in
      let parts = and_parts (is_positive t) (is_positive (minus L t)) (sym (between_is t d (length_of axis p.torus) L length_over length_is) ∙ h.0) in
      (parts.0, parts.1, h.1)

  box_fine : (t s : Whole) → is_positive t ≡ true → is_positive (minus L t) ≡ true → is_between s d (length_of (other axis) p.torus) ≡ true → is_in_box p.torus (point_at axis t s d) ≡ true
  box_fine t s e f g =
      parts_box axis p.torus t s d (between_is t d (length_of axis p.torus) L length_over length_is ∙ and_from (is_positive t) (is_positive (minus L t)) e f) g

  sum_positive : (x y : Whole) → is_positive x ≡ true → is_positive y ≡ true → is_positive (plus x y) ≡ true
  sum_positive x y e f = (positive_plus x y (record { above = e }) (record { above = f })).above

  -- below the size of the window is below the length
  inner : (t : Whole) → is_positive (minus W.size t) ≡ true → is_positive (minus L t) ≡ true
  inner t e = ap is_positive (solve golden (L ∷ W.size ∷ t ∷ []) (x_ 0 ⊕ ⊖_ (x_ 2)) ((x_ 0 ⊕ ⊖_ (x_ 1)) ⊕ (x_ 1 ⊕ ⊖_ (x_ 2))) refl) ∙ sum_positive (minus L W.size) (minus W.size t) (window_less L M some less half) e

  -- ---- a new letter stands for the letters of its block
  blocks : (t : Whole) (j : ℕ) → IsInside W.size t → j < h → Coarse t j → coding.IsBlock L M some less half pieces_of h rows Fine Coarse fine coarse t j
  blocks t j i lt c =
      let z = at t j in
      let q = letter_parts (induced axis p) z (coarse t j) c in
      let box = coarse_box t (ys j) (ap (λ (r : Rotation). is_in_box r z) (sym torus_of) ∙ q.0) in
      let here = box_fine t (ys j) box.0 (inner t box.1) box.2 in
      elim (coarse_is least_is axis d over p directed W M move_over move_is frame t (ys j) (coarse t j)
      (ap only_label (sym (new_labels least_is axis d over p directed W M move_over move_is frame t (ys j))) ∙ q.1)) [
        | inl b ↦
            let a = b.1.0 in
            let f = parts_letter p z a here b.1.1 in
            inl (b.0, defined_from (fine_letter t j) a f, piece_at_number (coarse t j) (Single a) b.1.2 ∙ ap (λ (n : ℕ). Some (Single n)) (number_from (fine_letter t j) a f))
        | inr b ↦
            let a = b.1.0 in
            let a' = b.1.1 in
            let r = (first_return L M some less half t i).double b.0 in
            let there = box_fine (plus t M) (ys j) (sum_positive t M box.0 some) r.2 box.2 in
            let f = parts_letter p z a here b.1.2 in
            let g = parts_letter p (at (plus t M) j) a' there b.1.3 in
            inr (
              b.0,
              defined_from (fine_letter t j) a f,
              defined_from (fine_letter (plus t M) j) a' g,
              piece_at_number (coarse t j) (Double a a') b.1.4 ∙ (ap (λ (n : ℕ). Some (Double n a')) (number_from (fine_letter t j) a f) ∙ ap (λ (n : ℕ). Some (Double (fine t j) n)) (number_from (fine_letter (plus t M) j) a' g)),
            )
      ]

  positive : (t : Whole) (j : ℕ) → Fine t j → is_positive t ≡ true
  positive t j f = let q = letter_parts p (at t j) (fine t j) f in (fine_box t (ys j) q.0).0

  singles : (t : Whole) (j : ℕ) → IsInside W.size t → IsInZone W sb t → Fine t j → Coarse t j
  singles t j i zone f =
      let z = at t j in
      let q = letter_parts p z (fine t j) f in
      let box = fine_box t (ys j) q.0 in
      let here = ap (λ (r : Rotation). is_in_box r z) torus_of ∙ box_coarse t (ys j) box.0 i.1 box.2 in
      let e = ap only_label (new_labels least_is axis d over p directed W M move_over move_is frame t (ys j))
      ∙ coarse_single least_is axis d over p directed W M move_over move_is frame t (ys j) (fine t j) zone q.1 in
      defined_from (coarse_letter t j) (number_of is (Single (fine t j))) (parts_letter (induced axis p) z (number_of is (Single (fine t j))) here e)

  doubles : (t : Whole) (j : ℕ) → IsInside W.size t → IsInZone W (not sb) t → Fine t j → Fine (plus t M) j → Coarse t j
  doubles t j i zone f g =
      let z = at t j in
      let q = letter_parts p z (fine t j) f in
      let q' = letter_parts p (at (plus t M) j) (fine (plus t M) j) g in
      let box = fine_box t (ys j) q.0 in
      let here = ap (λ (r : Rotation). is_in_box r z) torus_of ∙ box_coarse t (ys j) box.0 i.1 box.2 in
      let e = ap only_label (new_labels least_is axis d over p directed W M move_over move_is frame t (ys j))
      ∙ coarse_double least_is axis d over p directed W M move_over move_is frame t (ys j) (fine t j) (fine (plus t M) j) zone q.1 q'.1 in
      defined_from (coarse_letter t j) (number_of is (Double (fine t j) (fine (plus t M) j))) (parts_letter (induced axis p) z (number_of is (Double (fine t j) (fine (plus t M) j))) here e)

  -- ---- the law and its converse
  pub law : (n : ℕ) (t : Whole) → IsInside W.size t → ((k j : ℕ) → k < n → j < h → Coarse (orbit W.size W.move t k) j)
      → ((i j : ℕ) → i < returns W L M t n → j < h → Fine (orbit L M t i) j)
      × IsImage pieces_of (listed n (λ k. listed h (coarse (orbit W.size W.move t k)))) (listed (returns W L M t n) (λ i. listed h (fine (orbit L M t i))))
  law n t i all = (
    coding.defined L M some less half pieces_of h rows Fine Coarse fine coarse blocks n t i all,
    coding.images L M some less half pieces_of h rows Fine Coarse fine coarse blocks n t i all,
  )

  pub converse : (n l : ℕ) (t : Whole) → IsInside W.size t → ((i j : ℕ) → i < l → j < h → Fine (orbit L M t i) j) → returns W L M t n < l
      → (k j : ℕ) → k < n → j < h → Coarse (orbit W.size W.move t k) j
  converse n l t i all lt = coding.converse L M some less half pieces_of h rows Fine Coarse fine coarse positive singles doubles n l t i all lt
