-- Images that ever grow have grown after as many turns as there are tiles.
use Rattle.std.proofs.Common.{arith, ◌≡◌, ◌≢◌, ◌<◌, ◌≤◌, ◌+◌, ◌-◌, ℕ, zero, suc, List, [], ◌∷◌, length, Option, None, Some, is_none, Bool, true, false, ◌&&◌, ◌||◌, nat_le, min, if◌then◌else◌, refl, sym, ◌∙◌, ap, inl, inr}
use Rattle.wt_grid.proofs.Unless.{holds}
use Rattle.wt_grid.specs.Unless.{unless}
use Rattle.std.specs.Cmp.{both_ways}
use Rattle.wt_grid.specs.Traces.{piece_tiles}
use Rattle.wt_grid.specs.Images.{first_tile}
use Rattle.wt_grid.specs.declared.image.Image.TheVariants.{One as Single, Two as Double}
use Rattle.wt_grid.specs.declared.image.Image.{Image}
use Rattle.wt_grid.specs.declared.axis.Axis.TheVariants.{One, Two}
use Rattle.wt_grid.specs.declared.axis.Axis.{Axis}
use Rattle.std.proofs.lemmas.Bool.Decides.{nat_tests}
use Rattle.wt_tile.specs.declared.tile.TileList.{TileList}
use Rattle.wt_tile.proofs.Sizes.{few_tiles}
use Rattle.wt_grid.specs.First.{or_else, first_from}
use Rattle.std.proofs.lemmas.Bool.{cases_lt, and_parts}
use Rattle.wt_grid.specs.Widths.{Stage, width, total}
use Rattle.wt_grid.proofs.First.{none_from, all_none}
use Rattle.wt_bijection.specs.Renaming.{renaming_fault}
use Rattle.wt_bijection.proofs.Lengths.{no_fault}
use Rattle.wt_step.specs.declared.raw.RawLink.{RawLink}
use Rattle.wt_step.specs.Links.{fine_of, coarse_of}
use Rattle.wt_chain.specs.declared.raw.Refusal.{Refusal}
use Rattle.wt_chain.specs.declared.raw.Refusal.TheVariants.{Expansion}
use Rattle.wt_chain.specs.Sets.{AreLinked, last_set, first_count, IsClosedBy}
use Rattle.wt_chain.specs.Growth.{image_of, is_along, stage, stages, origin, renaming_stage, turn, turn_stages, has_grown}
use Rattle.wt_chain.specs.Faults.{growth_fault_at, growth_fault, enough, least_expansion}
use Rattle.wt_chain.proofs.Grown.{first_fits, fine_good, step_some, origin_below, first_same}
use Rattle.wt_chain.proofs.Paths.{ever}

abbrev is_double : Image → Bool
is_double (Single a) = false
is_double (Double a b) = true

-- One step: the image is two tiles along the axis, or that of its first tile is long.

abbrev starts : Axis → RawLink → ℕ → Bool
starts axis link t = is_along axis link && is_double (image_of link t)

stage_by : (along : Bool) (image : Image) (left : List Stage) → ((t : ℕ) → 1 ≤ width left t)
    → nat_le 2 (if along then total (width left) (piece_tiles image) else width left (first_tile image)) ≡ ((along && is_double image) || nat_le 2 (width left (first_tile image)))
stage_by true (Single a) left some = let same : width left a + 0 ≡ width left a = omega arith in rw same refl
stage_by true (Double a b) left some = let wide : 2 ≤ width left a + (width left b + 0) = omega (arith, some a, some b) in grind (arith, nat_tests, wide)
stage_by false (Single a) left some = refl
stage_by false (Double a b) left some = refl

stage_is : (axis : Axis) (link : RawLink) (left : List Stage) → ((t : ℕ) → 1 ≤ width left t) → (t : ℕ)
    → nat_le 2 (width (stage axis link ∷ left) t) ≡ (starts axis link t || nat_le 2 (width left (first_tile (image_of link t))))
stage_is axis link left some t = stage_by (is_along axis link) (image_of link t) left some

stage_some : (axis : Axis) (link : RawLink) (left : List Stage) → ((t : ℕ) → 1 ≤ width left t) → (t : ℕ) → 1 ≤ width (stage axis link ∷ left) t
stage_some axis link left some t = step_some (is_along axis link) (image_of link t) left some

-- All steps of a loop.

abbrev follow : List RawLink → ℕ → ℕ
follow [] u = u
follow (link ∷ links) u = first_tile (image_of link (follow links u))

abbrev starts_in : Axis → List RawLink → ℕ → Bool
starts_in axis [] u = false
starts_in axis (link ∷ links) u = starts_in axis links u || starts axis link (follow links u)

regroup : (a b c : Bool) → (a || (b || c)) ≡ (a || b || c)
regroup true b c = refl
regroup false b c = refl

stages_some : (axis : Axis) (links : List RawLink) (left : List Stage) → ((t : ℕ) → 1 ≤ width left t) → (t : ℕ) → 1 ≤ width (stages axis links left) t
stages_some axis [] left some t = some t
stages_some axis (link ∷ links) left some t = stages_some axis links (stage axis link ∷ left) (stage_some axis link left some) t

stages_are : (axis : Axis) (links : List RawLink) (left : List Stage) → ((t : ℕ) → 1 ≤ width left t) → (u : ℕ)
    → nat_le 2 (width (stages axis links left) u) ≡ (starts_in axis links u || nat_le 2 (width left (follow links u)))
stages_are axis [] left some u = refl
stages_are axis (link ∷ links) left some u =
    stages_are axis links (stage axis link ∷ left) (stage_some axis link left some) u
    ∙ (ap (λ b. starts_in axis links u || b) (stage_is axis link left some (follow links u))
    ∙ regroup (starts_in axis links u) (starts axis link (follow links u)) (nat_le 2 (width left (first_tile (image_of link (follow links u))))))

-- Turns.

turns_some : (axis : Axis) (loop : List RawLink) (renaming : List ℕ) (e t : ℕ) → 1 ≤ width (turn_stages axis loop renaming e) t
turns_some axis loop renaming zero t = omega arith
turns_some axis loop renaming (suc e) t = stages_some axis loop (turn_stages axis loop renaming e) (turns_some axis loop renaming e) (origin renaming t)

abbrev long : Axis → List RawLink → List ℕ → ℕ → ℕ → Bool
long axis loop renaming e t = nat_le 2 (width (turn_stages axis loop renaming e) t)

turn_is : (axis : Axis) (loop : List RawLink) (renaming : List ℕ) (e t : ℕ)
    → long axis loop renaming (suc e) t ≡ (starts_in axis loop (origin renaming t) || long axis loop renaming e (follow loop (origin renaming t)))
turn_is axis loop renaming e t = stages_are axis loop (turn_stages axis loop renaming e) (turns_some axis loop renaming e) (origin renaming t)

no_turn : (axis : Axis) (loop : List RawLink) (renaming : List ℕ) (t : ℕ) → long axis loop renaming 0 t ≡ false
no_turn axis loop renaming t = refl

follow_below : (set : TileList) (links : List RawLink) (u : ℕ) → AreLinked set links → u < length (last_set set links).tiles → follow links u < length set.tiles
follow_below set [] u h lt = lt
follow_below set (link ∷ links) u h lt =
    let f = first_fits link h.0 (follow links u) (follow_below (coarse_of link) links u h.2 lt) in
    rw (← h.1) f

-- the images that ever grow have grown after n turns
long_ever : (axis : Axis) (loop : List RawLink) (renaming : List ℕ) → IsClosedBy loop renaming → (e m t : ℕ) → first_count loop ≤ m → t < first_count loop
    → long axis loop renaming e t ≡ true → long axis loop renaming m t ≡ true
long_ever axis [] renaming h e m t le lt l = absurd h
long_ever axis (link ∷ links) renaming h e m t le lt l =
    ever (λ u. starts_in axis (link ∷ links) (origin renaming u)) (λ u. follow (link ∷ links) (origin renaming u)) (long axis (link ∷ links) renaming)
    (no_turn axis (link ∷ links) renaming) (turn_is axis (link ∷ links) renaming) (first_count (link ∷ links)) below e m t le lt l
  where
    below : (u : ℕ) → u < first_count (link ∷ links) → follow (link ∷ links) (origin renaming u) < first_count (link ∷ links)
    below u less =
        let some = few_tiles (fine_of link) (fine_good link h.0.0) in
        let whole = no_fault (last_set (coarse_of link) links).tiles (fine_of link).tiles renaming h.1 in
        follow_below (fine_of link) (link ∷ links) (origin renaming u) h.0 (origin_below 0 renaming u (length (last_set (coarse_of link) links).tiles) (omega arith) (omega arith))

-- where some number of turns is enough, so is each from the number of tiles on
pub enough_later : (loop : List RawLink) (renaming : List ℕ) → IsClosedBy loop renaming → (e m : ℕ) → first_count loop ≤ m
    → growth_fault loop renaming e (first_count loop) ≡ None → growth_fault loop renaming m (first_count loop) ≡ None
enough_later loop renaming h e m le g = all_none (growth_fault_at loop renaming m) 0 (first_count loop) (λ t lo hi. at_tile t (omega arith))
  where
    at_tile : (t : ℕ) → t < first_count loop → growth_fault_at loop renaming m t ≡ None
    at_tile t lt =
        let grown = holds (has_grown loop renaming e t) (Expansion t) (none_from (growth_fault_at loop renaming e) 0 (first_count loop) t g (omega arith) (omega arith)) in
        let b = and_parts (long One loop renaming e t) (long Two loop renaming e t) grown in
        let wide = long_ever One loop renaming h e m t le lt b.0 in
        let high = long_ever Two loop renaming h e m t le lt b.1 in
        rw (wide, high) refl

some_count : (loop : List RawLink) (renaming : List ℕ) → IsClosedBy loop renaming → 0 < first_count loop
some_count [] renaming h = absurd h
some_count (link ∷ links) renaming h = (few_tiles (fine_of link) (fine_good link h.0.0)).0

-- where no number of turns up to the number of tiles is enough, none is
pub none_later : (loop : List RawLink) (renaming : List ℕ) → IsClosedBy loop renaming → least_expansion loop renaming (first_count loop) ≡ None
    → (e : ℕ) → growth_fault loop renaming e (first_count loop) ≡ None → ⊥
none_later loop renaming h none e g =
    let n = first_count loop in
    let some = some_count loop renaming h in
    let last = enough_later loop renaming h e (n - 1 + 1) (omega arith) g in
    let at : enough loop renaming n (n - 1) ≡ None = none_from (enough loop renaming n) 0 n (n - 1) none (omega arith) (omega arith) in
    let is : enough loop renaming n (n - 1) ≡ Some (n - 1 + 1) = rw last refl in
    cc

few_count : (loop : List RawLink) (renaming : List ℕ) → IsClosedBy loop renaming → first_count loop ≤ 256
few_count [] renaming h = absurd h
few_count (link ∷ links) renaming h = (few_tiles (fine_of link) (fine_good link h.0.0)).1

-- more than 256 turns tell no more than 256
pub capped : (loop : List RawLink) (renaming : List ℕ) → IsClosedBy loop renaming → (e : ℕ)
    → growth_fault loop renaming (min e 256) (first_count loop) ≡ growth_fault loop renaming e (first_count loop)
capped loop renaming h e = elim (cases_lt e 256) [
  | inl less ↦ let same : min e 256 ≡ e = omega arith in rw same refl
  | inr more ↦ let same : min e 256 ≡ 256 = omega arith in rw same
      (first_same (growth_fault_at loop renaming 256) (growth_fault_at loop renaming e) 0 (first_count loop) (λ t lo hi. at_tile more t (omega arith)))
]
  where
    along : (axis : Axis) → 256 ≤ e → (t : ℕ) → t < first_count loop → long axis loop renaming 256 t ≡ long axis loop renaming e t
    along axis more t lt =
        let few = few_count loop renaming h in
        both_ways (long axis loop renaming 256 t) (long axis loop renaming e t)
        (long_ever axis loop renaming h 256 e t (omega arith) lt) (long_ever axis loop renaming h e 256 t (omega arith) lt)

    at_tile : 256 ≤ e → (t : ℕ) → t < first_count loop → growth_fault_at loop renaming 256 t ≡ growth_fault_at loop renaming e t
    at_tile more t lt = rw (along One more t lt, along Two more t lt) refl
