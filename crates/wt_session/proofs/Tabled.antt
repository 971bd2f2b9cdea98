-- Every table of dominoes is told, or spent at its first pair where nothing may be tried; and every window is.
use Rattle.std.proofs.Common.{arith, ◌≡◌, ◌⊎◌, ◌<◌, ◌≤◌, ◌+◌, ◌/◌, ◌%◌, ◌*◌, ◌^◌, ℕ, zero, suc, Bool, true, false, List, [], ◌∷◌, ◌++◌, length, get_or, take, Option, None, Some, Result, Ok, Err, inl, inr, refl, sym, subst, ap, ◌∙◌}
use Rattle.std.specs.Prelude.{bit_or, codes}
use Rattle.std.proofs.Math.ListN.{set}
use Rattle.std.proofs.lemmas.Bool.{cases_lt}
use Rattle.std.proofs.lemmas.List.{length-set, take-take, get_or-take}
use Rattle.wt_grid.specs.declared.axis.Axis.{Axis}
use Rattle.wt_grid.specs.declared.axis.Axis.TheVariants as axes
use Rattle.wt_grid.specs.Order.{IsBefore}
use Rattle.wt_grid.specs.Grid.{Grid}
use Rattle.wt_tile.specs.declared.tile.Tile.{Tile}
use Rattle.wt_tile.specs.Matching.{matches}
use Rattle.wt_lane.specs.Masks.{mask_bit}
use Rattle.wt_lane.proofs.Bits.{no_bit}
use Rattle.wt_mask.proofs.Bits.{set_bit_at}
use Rattle.wt_window.specs.declared.window.WindowEnd.{WindowEnd}
use Rattle.wt_window.specs.declared.window.WindowEnd.TheVariants as window_ends
use Rattle.wt_window.specs.declared.domino_table.TableEnd.TheVariants as table_ends
use Rattle.wt_window.specs.Trials.{window, cells, fillings, IsFilling}
use Rattle.wt_window.specs.Surrounded.{surroundable, Tells, allowed, IsRow, IsFirstMatch, IsLeastWindow}
use Rattle.wt_window.specs.Outcomes.{HasNoMatch, IsSpentPair, MayAnswerWindow}
use Rattle.wt_window.proofs.Members.{In}
use Rattle.wt_window.proofs.Listed.{listed, listing, is_wide}
use Rattle.wt_window.proofs.Windows.{empty_windows}
use Rattle.wt_window.proofs.Found.{least_found}
use Rattle.wt_window.proofs.Searched.{trials_some}
use Rattle.wt_window.proofs.Tabled.{row_with, row_without, AreRows, rows_more, table_exact}
use Rattle.wt_window.proofs.Outcomes.{tested, unmatched, at_zero}
use Rattle.wt_session.specs.Replies.{Reply, says, spent}
use Rattle.wt_session.specs.Tables.{AsksTable, AsksTables, spent_text}
use Rattle.wt_session.specs.Surround.{IsWindowReply, window_text}
use Rattle.wt_session.proofs.Decided.{Dec, least_below, some_below, IsLeast}

-- ---- the table of a set

-- with one bit more
abbrev with_bit : List ℕ → ℕ → List ℕ
with_bit m i = set m (i / 64) (bit_or (get_or m (i / 64) 0) (1 * 2 ^ (i % 64) % 18446744073709551616))

abbrev no_bits : List ℕ
no_bits = 0 ∷ 0 ∷ 0 ∷ 0 ∷ []

no_words : (k : ℕ) → get_or no_bits k 0 ≡ 0
no_words zero = refl
no_words (suc zero) = refl
no_words (suc (suc zero)) = refl
no_words (suc (suc (suc zero))) = refl
no_words (suc (suc (suc (suc k)))) = refl

unset : (b : ℕ) → mask_bit no_bits b ≡ 0
unset b = no_bit (get_or no_bits (b / 64) 0) (b % 64) (no_words (b / 64))

module _ (ts : List Tile) (axis : Axis) (r : ℕ) where
  -- the mask of those of the first n tiles that may follow a
  row_upto : (a n : ℕ) → n ≤ 256 → (mask : List ℕ) × (length mask ≡ 4) × IsRow ts axis a r n mask
  row_upto a zero le = (no_bits, refl, record { has = λ b e. absurd (omega (arith, e, unset b)); all = λ b lt s. absurd (omega (arith, lt)) })
  row_upto a (suc n) le = by (surroundable ts axis r a n) refl (row_upto a n (omega (arith, le)))
    where
      by : (b : Bool) → surroundable ts axis r a n ≡ b → (mask : List ℕ) × (length mask ≡ 4) × IsRow ts axis a r n mask → (mask : List ℕ) × (length mask ≡ 4) × IsRow ts axis a r (suc n) mask
      by true e old =
          let one : n + 1 ≡ suc n = omega arith in
          let row : IsRow ts axis a r (n + 1) (with_bit old.0 n) = row_with ts axis a r n old.0 (with_bit old.0 n) (λ k. set_bit_at old.0 n k old.1 (omega (arith, le))) ((tested ts axis a n r).0 e) old.2 in
          (with_bit old.0 n, length-set old.0 (n / 64) (bit_or (get_or old.0 (n / 64) 0) (1 * 2 ^ (n % 64) % 18446744073709551616)) ∙ old.1, subst (λ (m : ℕ). IsRow ts axis a r m (with_bit old.0 n)) one row)
      by false e old =
          let one : n + 1 ≡ suc n = omega arith in
          let row : IsRow ts axis a r (n + 1) old.0 = row_without ts axis a r n old.0 (λ s. let yes : surroundable ts axis r a n ≡ true = (tested ts axis a n r).1 s in let both : true ≡ false = sym yes ∙ e in absurd cc) old.2 in
          (old.0, old.1, subst (λ (m : ℕ). IsRow ts axis a r m old.0) one row)

  rows_upto : (n : ℕ) → length ts ≤ 256 → (rows : List (List ℕ)) × AreRows ts axis r n rows
  rows_upto zero few = ([], record { long = refl; each = λ a lt. absurd (omega (arith, lt)) })
  rows_upto (suc n) few =
      let before = rows_upto n few in
      let row = row_upto n (length ts) few in
      let one : n + 1 ≡ suc n = omega arith in
      (before.0 ++ row.0 ∷ [], subst (λ (m : ℕ). AreRows ts axis r m (before.0 ++ row.0 ∷ [])) one (rows_more ts axis r n before.0 row.0 row.2 before.1))

  -- a table that tells which pairs have a window
  table_told : length ts ≤ 256 → (rows : List (List ℕ)) × Tells ts axis r (allowed rows)
  table_told few = let rows = rows_upto (length ts) few in (rows.0, table_exact ts axis r rows.0 rows.1)

-- ---- the first pair that matches

is_true : (b : Bool) → Dec (b ≡ true)
is_true true = inl refl
is_true false = inr (λ e. absurd cc)

module _ (ts : List Tile) (axis : Axis) where
  abbrev Fits : ℕ → ℕ → Type 0
  Fits a b = matches ts axis a b ≡ true

  abbrev FitsSome : ℕ → Type 0
  FitsSome a = (b : ℕ) × (b < length ts) × Fits a b

  fits_some : (a : ℕ) → Dec (FitsSome a)
  fits_some a = some_below (Fits a) (λ b. is_true (matches ts axis a b)) (length ts)

  pub first_match : HasNoMatch ts axis ⊎ ((a : ℕ) × (b : ℕ) × IsFirstMatch ts axis a b)
  first_match = elim (least_below FitsSome fits_some (length ts)) [
    | inl none ↦ inl (λ a b la lb m. none a la (b, lb, m))
    | inr found ↦ inr (by found.0 found.1)
  ]
    where
      by : (a : ℕ) → IsLeast FitsSome (length ts) a → (a : ℕ) × (b : ℕ) × IsFirstMatch ts axis a b
      by a least = elim (least_below (Fits a) (λ b. is_true (matches ts axis a b)) (length ts)) [
        | inl none ↦ let h = least.holds in absurd (none h.0 h.1 h.2)
        | inr found ↦ (
          a,
          found.0,
          record {
            first = least.below;
            second = found.1.below;
            fits = found.1.holds;
            none_before = λ c d lc ld m. least.first c lc (d, ld, m);
            none_beside = λ d ld m. found.1.first d ld m;
          },
        )
      ]

  pub spent_first : (r budget a b : ℕ) → budget ≡ 0 → IsFirstMatch ts axis a b → IsSpentPair ts axis a b r budget
  spent_first r budget a b z first = record {
    first = first.first;
    second = first.second;
    fits = first.fits;
    over = rw z (trials_some ts (window axis a b r) (cells (window axis a b r)) []);
    at_zero = λ e. first;
  }

-- ---- replies to questions for tables

pub asked_some : (line : Axis → ℕ → ℕ → List ℕ) (ts : List Tile) (axis : Axis) (r budget : ℕ) (Said : (ℕ → ℕ → Bool) → Reply → Type 0)
    → length ts ≤ 256 → ((f : ℕ → ℕ → Bool) → (reply : Reply) × Said f reply) → (reply : Reply) × AsksTable line ts axis r budget Said reply
asked_some line ts axis r budget Said few said = by (cases_lt 0 budget) (first_match ts axis)
  where
    whole : (budget ≡ 0 → HasNoMatch ts axis) → (reply : Reply) × AsksTable line ts axis r budget Said reply
    whole none = let table = table_told ts axis r few in let told = said (allowed table.0) in (told.0, (Ok table.0, (table.1, none), told.1))

    by : (0 < budget) ⊎ (budget ≤ 0) → HasNoMatch ts axis ⊎ ((a : ℕ) × (b : ℕ) × IsFirstMatch ts axis a b) → (reply : Reply) × AsksTable line ts axis r budget Said reply
    by (inl lt) first = whole (λ z. absurd (omega (arith, lt, z)))
    by (inr le) (inl none) = whole (λ z. none)
    by (inr le) (inr h) =
        let z : budget ≡ 0 = omega (arith, le) in
        (spent (line axis h.0 h.1), (Err (table_ends.Spent h.0 h.1), inr (h.0, h.1, refl, spent_first ts axis r budget h.0 h.1 z h.2), refl))

pub asked_both : (line : Axis → ℕ → ℕ → List ℕ) (ts : List Tile) (r budget : ℕ) (Said : (ℕ → ℕ → Bool) → (ℕ → ℕ → Bool) → Reply → Type 0)
    → length ts ≤ 256 → ((f g : ℕ → ℕ → Bool) → (reply : Reply) × Said f g reply) → (reply : Reply) × AsksTables line ts r budget Said reply
asked_both line ts r budget Said few said =
    asked_some line ts axes.One r budget (λ one. AsksTable line ts axes.Two r budget (Said one)) few (λ f. asked_some line ts axes.Two r budget (Said f) few (said f))

-- ---- the least window

-- of two lists of one length, one comes before the other, or they are the same
abbrev Ordered : List ℕ → List ℕ → Type 0
Ordered f g = (f ≡ g) ⊎ IsBefore f g ⊎ IsBefore g f

behind_head : (x : ℕ) (f g : List ℕ) → IsBefore f g → IsBefore (x ∷ f) (x ∷ g)
behind_head x f g h = (suc h.0, ap (λ (t : List ℕ). x ∷ t) h.1, h.2)

ordered : (f g : List ℕ) → length f ≡ length g → Ordered f g
ordered [] [] e = inl refl
ordered [] (y ∷ ys) e = absurd (omega (arith, e))
ordered (x ∷ xs) [] e = absurd (omega (arith, e))
ordered (x ∷ xs) (y ∷ ys) e = by (cases_lt x y) (cases_lt y x) (ordered xs ys (omega (arith, e)))
  where
    by : (x < y) ⊎ (y ≤ x) → (y < x) ⊎ (x ≤ y) → Ordered xs ys → Ordered (x ∷ xs) (y ∷ ys)
    by (inl lt) other rest = inr (inl (0, refl, lt))
    by (inr ge) (inl gt) rest = inr (inr (0, refl, gt))
    by (inr ge) (inr le) rest = let same : x ≡ y = omega (arith, ge, le) in subst (λ (z : ℕ). Ordered (x ∷ xs) (z ∷ ys)) same (on rest)
      where
        on : Ordered xs ys → Ordered (x ∷ xs) (x ∷ ys)
        on (inl e) = inl (ap (λ (t : List ℕ). x ∷ t) e)
        on (inr (inl h)) = inr (inl (behind_head x xs ys h))
        on (inr (inr h)) = inr (inr (behind_head x ys xs h))

shorter : (k n : ℕ) (f g : List ℕ) → take n f ≡ take n g → k ≤ n → take k f ≡ take k g
shorter k n f g e le = sym (take-take k n f le) ∙ (ap (take k) e ∙ take-take k n g le)

same_at : (k n : ℕ) (f g : List ℕ) → take n f ≡ take n g → k < n → get_or f k 0 ≡ get_or g k 0
same_at k n f g e lt = sym (get_or-take n f k 0 lt) ∙ (ap (λ (l : List ℕ). get_or l k 0) e ∙ get_or-take n g k 0 lt)

before_both : (f g h : List ℕ) → IsBefore f g → IsBefore g h → IsBefore f h
before_both f g h p q = by (cases_lt p.0 q.0) (cases_lt q.0 p.0)
  where
    lower : get_or f p.0 0 < get_or g p.0 0
    lower = p.2

    upper : get_or g q.0 0 < get_or h q.0 0
    upper = q.2

    by : (p.0 < q.0) ⊎ (q.0 ≤ p.0) → (q.0 < p.0) ⊎ (p.0 ≤ q.0) → IsBefore f h
    by (inl lt) other =
        let at = same_at p.0 q.0 g h q.1 lt in
        let less : get_or f p.0 0 < get_or h p.0 0 = omega (arith, lower, at) in
        (p.0, p.1 ∙ shorter p.0 q.0 g h q.1 (omega (arith, lt)), less)
    by (inr ge) (inl gt) =
        let at = same_at q.0 p.0 f g p.1 gt in
        let less : get_or f q.0 0 < get_or h q.0 0 = omega (arith, upper, at) in
        (q.0, shorter q.0 p.0 f g p.1 (omega (arith, gt)) ∙ q.1, less)
    by (inr ge) (inr le) =
        let e : q.0 ≡ p.0 = omega (arith, ge, le) in
        let there : get_or g p.0 0 < get_or h p.0 0 = subst (λ (k : ℕ). get_or g k 0 < get_or h k 0) e upper in
        let less : get_or f p.0 0 < get_or h p.0 0 = omega (arith, lower, there) in
        (p.0, p.1 ∙ subst (λ (k : ℕ). take k g ≡ take k h) e q.1, less)

abbrev AtMost : List ℕ → List ℕ → Type 0
AtMost f g = (f ≡ g) ⊎ IsBefore f g

at_most_both : (f g h : List ℕ) → IsBefore f g → AtMost g h → AtMost f h
at_most_both f g h p (inl e) = inr (subst (IsBefore f) e p)
at_most_both f g h p (inr q) = inr (before_both f g h p q)

-- the least of some lists of one length
abbrev HasLeast : List (List ℕ) → Type 0
HasLeast fs = (f : List ℕ) × In fs f × ((g : List ℕ) → In fs g → AtMost f g)

least_of : (n : ℕ) (f : List ℕ) (fs : List (List ℕ)) → ((g : List ℕ) → In (f ∷ fs) g → length g ≡ n) → HasLeast (f ∷ fs)
least_of n f [] long = (f, inl refl, go)
  where
    go : (g : List ℕ) → In (f ∷ []) g → AtMost f g
    go g (inl e) = inl e
    go g (inr h) = absurd h
least_of n f (x ∷ xs) long = by (least_of n x xs (λ g h. long g (inr h)))
  where
    by : HasLeast (x ∷ xs) → HasLeast (f ∷ x ∷ xs)
    by rest = choose (ordered f rest.0 (long f (inl refl) ∙ sym (long rest.0 (inr rest.1))))
      where
        choose : Ordered f rest.0 → HasLeast (f ∷ x ∷ xs)
        choose (inl e) = (f, inl refl, go)
          where
            go : (g : List ℕ) → In (f ∷ x ∷ xs) g → AtMost f g
            go g (inl s) = inl s
            go g (inr h) = subst (λ (y : List ℕ). AtMost y g) (sym e) (rest.2 g h)
        choose (inr (inl p)) = (f, inl refl, go)
          where
            go : (g : List ℕ) → In (f ∷ x ∷ xs) g → AtMost f g
            go g (inl s) = inl s
            go g (inr h) = at_most_both f rest.0 g p (rest.2 g h)
        choose (inr (inr p)) = (rest.0, inr rest.1, go)
          where
            go : (g : List ℕ) → In (f ∷ x ∷ xs) g → AtMost rest.0 g
            go g (inl s) = inr (subst (IsBefore rest.0) s p)
            go g (inr h) = rest.2 g h

module _ (ts : List Tile) (axis : Axis) (a b r budget : ℕ) where
  abbrev all_fillings : List (List ℕ)
  all_fillings = fillings ts (window axis a b r) (cells (window axis a b r))

  abbrev Answers : Type 0
  Answers = (reply : Reply) × (answer : Result (Option Grid) WindowEnd) × MayAnswerWindow ts axis a b r budget answer × IsWindowReply axis a b answer reply

  found_window : (fs : List (List ℕ)) → all_fillings ≡ fs → 0 < budget → Answers
  found_window [] e some = (says (codes "none\n"), Ok None, ((empty_windows ts axis a b r).0 e, λ m. some), refl)
  found_window (f ∷ fs) e some =
      let each : (g : List ℕ) → In (f ∷ fs) g → IsFilling ts (window axis a b r) (cells (window axis a b r)) g =
      λ g h. listed ts (window axis a b r) (cells (window axis a b r)) g (subst (λ (l : List (List ℕ)). In l g) (sym e) h) in
      let least = least_of (cells (window axis a b r)) f fs (λ g h. (each g h).size) in
      let window_of : Grid = record { width = (window axis a b r).width; height = (window axis a b r).height; cells = least.0 } in
      let is : IsLeastWindow ts axis a b r window_of = least_found ts axis a b r (window axis a b r) least.0 refl (each least.0 least.1)
      (λ g p. least.2 g (subst (λ (l : List (List ℕ)). In l g) e (listing ts (window axis a b r) (cells (window axis a b r)) g (is_wide axis a b r) p))) in
      (says (window_text window_of), Ok (Some window_of), (is, λ m. some), refl)

  pub window_some : Answers
  window_some = by (matches ts axis a b) refl (cases_lt 0 budget)
    where
      by : (m : Bool) → matches ts axis a b ≡ m → (0 < budget) ⊎ (budget ≤ 0) → Answers
      by m e (inl lt) = found_window all_fillings refl lt
      by false e (inr le) = (says (codes "none\n"), Ok None, unmatched ts axis a b r budget e, refl)
      by true e (inr le) = let z : budget ≡ 0 = omega (arith, le) in (spent (spent_text axis a b), Err window_ends.Spent, at_zero ts axis a b r budget e z, refl)
