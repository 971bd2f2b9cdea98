-- Lines and cells.
use Rattle.std.proofs.Common.{arith, ◌≡◌, ℕ, zero, suc, ◌<◌, ◌≤◌, List, [], ◌∷◌, length, get_or, Bool, true, refl, ap, ◌∙◌, subst, inl, inr}
use Rattle.wt_grid.specs.Axes.{other}
use Rattle.wt_grid.specs.declared.image.Image.{Image}
use Rattle.wt_grid.specs.declared.axis.Axis.TheVariants.{One, Two}
use Rattle.wt_grid.specs.declared.axis.Axis.{Axis}
use Rattle.wt_grid.specs.Lines.{IsAcross, IsBeside, IsField, Singles, Pairs, IsImage, AllFilled, AllLong}
use Rattle.wt_grid.specs.Grid.{Grid, IsGrid, along, across, at, listed, lines, of_lines}
use Rattle.wt_grid.proofs.Bridge.{length-listed, cell_of, field_listed}
use Rattle.wt_grid.specs.Parts.{IsValid}
use Rattle.wt_grid.proofs.Parts.{grid_grid}

across_at : (g : ℕ → ℕ → Bool) (m : ℕ) (a : ℕ → ℕ) → IsAcross g (listed m a) → (j : ℕ) → suc j < m → g (a j) (a (suc j)) ≡ true
across_at g zero a h j lt = absurd (omega arith)
across_at g (suc zero) a h j lt = absurd (omega arith)
across_at g (suc (suc m)) a h zero lt = h.0
across_at g (suc (suc m)) a h (suc j) lt = across_at g (suc m) (λ k. a (suc k)) h.1 j (omega arith)

beside_at : (f : ℕ → ℕ → Bool) (m : ℕ) (a b : ℕ → ℕ) → IsBeside f (listed m a) (listed m b) → (j : ℕ) → j < m → f (a j) (b j) ≡ true
beside_at f zero a b h j lt = absurd (omega arith)
beside_at f (suc m) a b h zero lt = h.0
beside_at f (suc m) a b h (suc j) lt = beside_at f m (λ k. a (suc k)) (λ k. b (suc k)) h.1 j (omega arith)

field_along : (f g : ℕ → ℕ → Bool) (n m : ℕ) (a : ℕ → ℕ → ℕ) → IsField f g (listed n (λ i. listed m (a i))) → (i j : ℕ) → suc i < n → j < m → f (a i j) (a (suc i) j) ≡ true
field_along f g zero m a h i j li lj = absurd (omega arith)
field_along f g (suc zero) m a h i j li lj = absurd (omega arith)
field_along f g (suc (suc n)) m a h zero j li lj = beside_at f m (a 0) (a 1) h.1 j lj
field_along f g (suc (suc n)) m a h (suc i) j li lj = field_along f g (suc n) m (λ k. a (suc k)) h.2 i j (omega arith) lj

field_across : (f g : ℕ → ℕ → Bool) (n m : ℕ) (a : ℕ → ℕ → ℕ) → IsField f g (listed n (λ i. listed m (a i))) → (i j : ℕ) → i < n → suc j < m → g (a i j) (a i (suc j)) ≡ true
field_across f g zero m a h i j li lj = absurd (omega arith)
field_across f g (suc zero) m a h zero j li lj = across_at g m (a 0) h j lj
field_across f g (suc zero) m a h (suc i) j li lj = absurd (omega arith)
field_across f g (suc (suc n)) m a h zero j li lj = across_at g m (a 0) h.0 j lj
field_across f g (suc (suc n)) m a h (suc i) j li lj = field_across f g (suc n) m (λ k. a (suc k)) h.2 i j (omega arith) lj

-- The lines of a valid rectangle are a field, and those of no other.
pub field_lines : (m : Axis → ℕ → ℕ → Bool) (axis : Axis) (g : Grid) → IsValid m g → IsField (m axis) (m (other axis)) (lines axis g)
field_lines m One g v = field_listed (m One) (m Two) g.width g.height (λ i j. at One g i j) (λ i j li lj. v One i j li lj) (λ i j li lj. v Two j i lj li)
field_lines m Two g v = field_listed (m Two) (m One) g.height g.width (λ i j. at Two g i j) (λ i j li lj. v Two i j li lj) (λ i j li lj. v One j i lj li)

pub lines_field : (m : Axis → ℕ → ℕ → Bool) (axis : Axis) (g : Grid) → IsField (m axis) (m (other axis)) (lines axis g) → IsValid m g
lines_field m One g h One i j li lj = field_along (m One) (m Two) g.width g.height (λ i j. at One g i j) h i j li lj
lines_field m One g h Two i j li lj = field_across (m One) (m Two) g.width g.height (λ i j. at One g i j) h j i lj li
lines_field m Two g h One i j li lj = field_across (m Two) (m One) g.height g.width (λ i j. at Two g i j) h j i lj li
lines_field m Two g h Two i j li lj = field_along (m Two) (m One) g.height g.width (λ i j. at Two g i j) h i j li lj

-- Lines of one length.

long_listed : (n m : ℕ) (a : ℕ → ℕ → ℕ) → AllLong m (listed n (λ i. listed m (a i)))
long_listed zero m a = tt
long_listed (suc n) m a = (length-listed m (a 0), long_listed n m (λ i. a (suc i)))

pub long_lines : (axis : Axis) (g : Grid) → AllLong (across axis g) (lines axis g)
long_lines axis g = long_listed (along axis g) (across axis g) (λ i j. at axis g i j)

pub length_lines : (axis : Axis) (g : Grid) → length (lines axis g) ≡ along axis g
length_lines axis g = length-listed (along axis g) _

pub filled_long : (m : ℕ) (ls : List (List ℕ)) → 1 ≤ m → AllLong m ls → AllFilled ls
filled_long m [] le h = tt
filled_long m ([] ∷ ls) le h = absurd (let e : 0 ≡ m = h.0 in omega arith)
filled_long m ((a ∷ as') ∷ ls) le h = filled_long m ls le h.1

pub listed_same : {A : Type 0} (n : ℕ) (f g : ℕ → A) → ((i : ℕ) → i < n → f i ≡ g i) → listed n f ≡ listed n g
listed_same zero f g h = refl
listed_same (suc n) f g h =
    let e = h 0 (omega arith) in
    let r = listed_same n (λ k. f (suc k)) (λ k. g (suc k)) (λ i lt. h (suc i) (omega arith)) in
    cc

listed_all : {A : Type 0} (xs : List A) (d : A) → listed (length xs) (λ i. get_or xs i d) ≡ xs
listed_all [] d = refl
listed_all (x ∷ xs) d = ap (λ (ys : List _). x ∷ ys) (listed_all xs d)

pub long_get : (m : ℕ) (ls : List (List ℕ)) (i : ℕ) → AllLong m ls → i < length ls → length (get_or ls i []) ≡ m
long_get m [] i h lt = absurd (omega arith)
long_get m (u ∷ ls) zero h lt = h.0
long_get m (u ∷ ls) (suc i) h lt = long_get m ls i h.1 (omega arith)

of_lines_lines : (m : ℕ) (ls : List (List ℕ)) (f : ℕ → ℕ → ℕ) → AllLong m ls → ((i j : ℕ) → i < length ls → j < m → f i j ≡ get_or (get_or ls i []) j 0)
    → listed (length ls) (λ i. listed m (f i)) ≡ ls
of_lines_lines m ls f h e =
    listed_same (length ls) (λ i. listed m (f i)) (λ i. get_or ls i []) (λ i lt.
    listed_same m (f i) (λ j. get_or (get_or ls i []) j 0) (λ j lj. e i j lt lj)
    ∙ (let n = long_get m ls i h lt in subst (λ (k : ℕ). listed k (λ j. get_or (get_or ls i []) j 0) ≡ get_or ls i []) n (listed_all (get_or ls i []) 0)))
    ∙ listed_all ls []

pub lines_of : (axis : Axis) (m : ℕ) (ls : List (List ℕ)) → AllLong m ls → lines axis (of_lines axis m ls) ≡ ls
lines_of One m ls h = of_lines_lines m ls (λ i j. at One (of_lines One m ls) i j) h (λ i j li lj. cell_of (length ls) m i j (λ x y. get_or (get_or ls x []) y 0) li lj)
lines_of Two m ls h = of_lines_lines m ls (λ i j. at Two (of_lines Two m ls) i j) h (λ i j li lj. cell_of m (length ls) j i (λ x y. get_or (get_or ls y []) x 0) lj li)

pub grid_of_lines : (axis : Axis) (m : ℕ) (ls : List (List ℕ)) → 1 ≤ m → 1 ≤ length ls → IsGrid (of_lines axis m ls)
grid_of_lines One m ls lm ll = grid_grid (length ls) m (λ x y. get_or (get_or ls x []) y 0) ll lm
grid_of_lines Two m ls lm ll = grid_grid m (length ls) (λ x y. get_or (get_or ls y []) x 0) lm ll

-- Coarse lines are as long as the lines of their image.

length_singles : (im : List Image) (q u : List ℕ) → Singles im q u → length q ≡ length u
length_singles im [] [] s = refl
length_singles im [] (a ∷ as') s = absurd s
length_singles im (i ∷ is) [] s = absurd s
length_singles im (i ∷ is) (a ∷ as') s = ap suc (length_singles im is as' s.1)

length_pairs : (im : List Image) (q u v : List ℕ) → Pairs im q u v → length q ≡ length u
length_pairs im [] [] v s = refl
length_pairs im [] (a ∷ as') v s = absurd s
length_pairs im (i ∷ is) [] v s = absurd s
length_pairs im (i ∷ is) (a ∷ as') [] s = absurd s
length_pairs im (i ∷ is) (a ∷ as') (b ∷ bs) s = ap suc (length_pairs im is as' bs s.1)

pub long_coarse : (im : List Image) (m : ℕ) (qs ls : List (List ℕ)) → IsImage im qs ls → AllLong m ls → AllLong m qs
long_coarse im m [] [] i h = tt
long_coarse im m [] (u ∷ ls) i h = absurd i
long_coarse im m (q ∷ qs) [] i h = absurd i
long_coarse im m (q ∷ qs) (u ∷ []) i h = (length_singles im q u i.0 ∙ h.0, long_coarse im m qs [] i.1 tt)
long_coarse im m (q ∷ qs) (u ∷ v ∷ ls) i h = elim i [
  | inl s ↦ (length_singles im q u s.0 ∙ h.0, long_coarse im m qs (v ∷ ls) s.1 h.1)
  | inr p ↦ (length_pairs im q u v p.0 ∙ h.0, long_coarse im m qs ls p.1 h.1.1)
]
