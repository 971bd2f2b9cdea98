-- Lists with the numbers of images noted at their tiles.
use Rattle.std.proofs.Common.{arith, ◌≡◌, ◌≤◌, ◌<◌, ◌+◌, ◌*◌, ◌/◌, ◌%◌, ℕ, zero, suc, List, [], ◌∷◌, length, get_or, set, slice_get, slice_index_or, Some, Bool, true, nat_eq, nat_lt, refl, sym, ◌∙◌, ap, subst, inl, inr}
use Rattle.std.specs.List.{list_all}
use Rattle.wt_grid.specs.declared.image.Image.TheVariants.{One as Single, Two as Double}
use Rattle.wt_grid.specs.declared.image.Image.{Image}
use Rattle.std.proofs.lemmas.Bool.{cases_lt, and_parts}
use Rattle.std.proofs.lemmas.Bool.Decides.{nat_tests}
use Rattle.std.proofs.lemmas.List.{get_or-set_same, get_or-set_other, length-set}
use Rattle.std.proofs.lemmas.Nat.{div-mul-add, mod-mul-add, mul-add-lt}
use Rattle.wt_step.specs.declared.raw.RawStep.{RawStep}
use Rattle.wt_step.specs.Words.{image_fits, image_at}
use Rattle.wt_step.specs.Good.{IsGoodStep}
use Rattle.wt_step.specs.Blocks.{IsIndexed, note_single, note_pair}
use Rattle.wt_step.proofs.Tables.{some_of, one_image}

at_place : {A : Type 0} (xs : List A) (i : ℕ) (d : A) → i < length xs → slice_get xs i ≡ Some (slice_index_or xs i d)
at_place [] i d lt = absurd (omega arith)
at_place (x ∷ xs) zero d lt = refl
at_place (x ∷ xs) (suc i) d lt = at_place xs i d (omega arith)

each_of : {A : Type 0} (p : A → Bool) (xs : List A) (i : ℕ) (d : A) → list_all p xs ≡ true → i < length xs → p (slice_index_or xs i d) ≡ true
each_of p [] i d e lt = absurd (omega arith)
each_of p (x ∷ xs) zero d e lt = (and_parts (p x) (list_all p xs) e).0
each_of p (x ∷ xs) (suc i) d e lt = each_of p xs i d (and_parts (p x) (list_all p xs) e).1 (omega arith)

less : (a n : ℕ) → nat_lt a n ≡ true → a < n
less a n e = grind (arith, nat_tests, e)

-- two places of a square are one only for the same row and column
same_place : (n a b c d : ℕ) → b < n → d < n → a * n + b ≡ c * n + d → (a ≡ c) × (b ≡ d)
same_place n a b c d lb ld e = (
  sym (div-mul-add a n b lb) ∙ (ap (λ (x : ℕ). x / n) e ∙ div-mul-add c n d ld),
  sym (mod-mul-add a n b lb) ∙ (ap (λ (x : ℕ). x % n) e ∙ mod-mul-add c n d ld),
)

pub good_sizes : (s : RawStep) → IsGoodStep s → (length s.fine.tiles ≤ 256) × (length s.images ≤ 256) × (length s.images ≡ length s.coarse.tiles)
good_sizes s g =
    let e = (and_parts (nat_eq (length s.images) (length s.coarse.tiles)) (list_all (image_fits (length s.fine.tiles)) s.images) g.image_list).0 in
    let same : length s.images ≡ length s.coarse.tiles = grind (arith, nat_tests, e) in
    let le = g.coarse.few in
    (g.fine.few, omega arith, same)

pub fits_at : (s : RawStep) → IsGoodStep s → (i : ℕ) → i < length s.images → image_fits (length s.fine.tiles) (image_at s i) ≡ true
fits_at s g i lt = each_of (image_fits (length s.fine.tiles)) s.images i (Single 0) (and_parts (nat_eq (length s.images) (length s.coarse.tiles)) (list_all (image_fits (length s.fine.tiles)) s.images) g.image_list).1 lt

module _ (s : RawStep) (g : IsGoodStep s) (k : ℕ) (lk : k < length s.images) (singles pairs : List ℕ) (h : IsIndexed s.images (length s.fine.tiles) k singles pairs) where
  fitting : (i : ℕ) (x : Image) → slice_get s.images i ≡ Some x → image_fits (length s.fine.tiles) x ≡ true
  fitting i x e = let r = some_of s.images i x (Single 0) e in subst (λ (y : Image). image_fits (length s.fine.tiles) y ≡ true) r.1 (fits_at s g i r.0)

  single_noted : (a : ℕ) → slice_get s.images k ≡ Some (Single a) → IsIndexed s.images (length s.fine.tiles) (k + 1) (set singles a k) pairs
  single_noted a e =
      let la : a < length s.fine.tiles = less a (length s.fine.tiles) (fitting k (Single a) e) in
      let size = h.size1 in
      record {
        size1 = length-set singles a k ∙ h.size1;
        size2 = h.size2;
        ones = λ i b lt f. elim (cases_lt i k) [
          | inl lo ↦ get_or-set_other singles a b k 0 (λ same. let x = one_image s g i k (Single b) f (e ∙ ap (λ (c : ℕ). Some (Single c)) (sym same)) in absurd (omega arith)) ∙ h.ones i b lo f
          | inr hi ↦
              let x : i ≡ k = omega arith in
              let y : Some (Single b) ≡ Some (Single a) = sym f ∙ (ap (slice_get s.images) x ∙ e) in
              let z : b ≡ a = cc in
              ap (λ (c : ℕ). get_or (set singles a k) c 0) z ∙ (get_or-set_same singles a k 0 (omega arith) ∙ sym x)
        ];
        twos = λ i b c lt f. elim (cases_lt i k) [
          | inl lo ↦ h.twos i b c lo f
          | inr hi ↦ absurd (let x : i ≡ k = omega arith in let y : Some (Double b c) ≡ Some (Single a) = sym f ∙ (ap (slice_get s.images) x ∙ e) in cc)
        ];
      }

  double_noted : (a b : ℕ) → slice_get s.images k ≡ Some (Double a b) → IsIndexed s.images (length s.fine.tiles) (k + 1) singles (set pairs (a * length s.fine.tiles + b) k)
  double_noted a b e =
      let fk = and_parts (nat_lt a (length s.fine.tiles)) (nat_lt b (length s.fine.tiles)) (fitting k (Double a b) e) in
      let la = less a (length s.fine.tiles) fk.0 in
      let lb = less b (length s.fine.tiles) fk.1 in
      let size = h.size2 in
      let inside : a * length s.fine.tiles + b < length s.fine.tiles * length s.fine.tiles = mul-add-lt a (length s.fine.tiles) b (length s.fine.tiles) la lb in
      record {
        size1 = h.size1;
        size2 = length-set pairs (a * length s.fine.tiles + b) k ∙ h.size2;
        ones = λ i c lt f. elim (cases_lt i k) [
          | inl lo ↦ h.ones i c lo f
          | inr hi ↦ absurd (let x : i ≡ k = omega arith in let y : Some (Single c) ≡ Some (Double a b) = sym f ∙ (ap (slice_get s.images) x ∙ e) in cc)
        ];
        twos = λ i c d lt f.
            let fi = and_parts (nat_lt c (length s.fine.tiles)) (nat_lt d (length s.fine.tiles)) (fitting i (Double c d) f) in
            let ld = less d (length s.fine.tiles) fi.1 in
            elim (cases_lt i k) [
              | inl lo ↦ get_or-set_other pairs (a * length s.fine.tiles + b) (c * length s.fine.tiles + d) k 0 (λ same.
                  let z = same_place (length s.fine.tiles) c d a b ld lb same in
                  let p : Double c d ≡ Double a b = (let z0 : c ≡ a = z.0 in let z1 : d ≡ b = z.1 in cc) in
                  let x = one_image s g i k (Double c d) f (e ∙ ap Some (sym p)) in absurd (omega arith)) ∙ h.twos i c d lo f
              | inr hi ↦
                  let x : i ≡ k = omega arith in
                  let y : Some (Double c d) ≡ Some (Double a b) = sym f ∙ (ap (slice_get s.images) x ∙ e) in
                  let z : c * length s.fine.tiles + d ≡ a * length s.fine.tiles + b = (let z0 : c ≡ a = cc in let z1 : d ≡ b = cc in rw (z0, z1) refl) in
                  ap (λ (u : ℕ). get_or (set pairs (a * length s.fine.tiles + b) k) u 0) z ∙ (get_or-set_same pairs (a * length s.fine.tiles + b) k 0 (let w : length pairs ≡ length s.fine.tiles * length s.fine.tiles = h.size2 in rw w inside) ∙ sym x)
            ];
      }

  -- one image more
  pub indexed_more : IsIndexed s.images (length s.fine.tiles) (k + 1) (note_single (image_at s k) k singles) (note_pair (length s.fine.tiles) (image_at s k) k pairs)
  indexed_more = go (image_at s k) (at_place s.images k (Single 0) lk)
    where
      go : (x : Image) → slice_get s.images k ≡ Some x → IsIndexed s.images (length s.fine.tiles) (k + 1) (note_single x k singles) (note_pair (length s.fine.tiles) x k pairs)
      go (Single a) e = single_noted a e
      go (Double a b) e = double_noted a b e
