-- Picks of looped chains, as they are bound.
use Rattle.std.proofs.Common.{arith, ◌≡◌, ℕ, ◌≤◌, List, [], ◌∷◌, length, refl, sym, ap, subst, ◌∙◌}
use Rattle.std.specs.Prelude.{Option, None, Some, Bool, true, nat_lt}
use Rattle.std.proofs.lemmas.Bool.Decides.{nat_tests}
use Rattle.wt_grid.specs.Limits.{is_side}
use Rattle.wt_grid.specs.Grid.{Grid}
use Rattle.wt_tile.specs.declared.tile.TileList.{TileList}
use Rattle.wt_pattern.specs.Validity.{first_stranger}
use Rattle.wt_pattern.proofs.FaultLaws.{no_stranger}
use Rattle.wt_step.specs.declared.raw.RawLink.{RawLink}
use Rattle.wt_step.specs.Links.{fine_of}
use Rattle.wt_chain.specs.declared.raw.RawChain.{RawChain}
use Rattle.wt_chain.specs.declared.raw.End.{End}
use Rattle.wt_chain.specs.declared.raw.End.TheVariants.{Open, Loop}
use Rattle.wt_chain.specs.Faults.{chain_fault}
use Rattle.wt_chain.specs.Sets.{set_at}
use Rattle.wt_chain.proofs.Goodness.{good}
use Rattle.wt_scale.specs.Pick.{pick}
use Rattle.wt_scale.proofs.EverySize.{valid_pick}
use Rattle.wt_expand.specs.declared.fault.ExpandFault.{ExpandFault}
use Rattle.wt_expand.specs.declared.fault.ExpandFault.TheVariants.{OpenChain, Width, Height, OutOfMemory}
use Rattle.wt_expand.specs.Expansion.{pick_fault, end_pick_fault, end_pick, pick_of}
use Rattle.wt_expand.specs.Wholes.{IsCause}
use Rattle.wt_session.specs.Replies.{Reply, open_chain}
use Rattle.wt_session.specs.Expand.{bound_rows, expanded}

side_true : (n : ℕ) → 1 ≤ n → n ≤ 1024 → is_side n ≡ true
side_true n some few = grind (arith, nat_tests, some, few)

no_fault : (start e : ℕ) (renaming : List ℕ) (w h : ℕ) → 1 ≤ w → w ≤ 1024 → 1 ≤ h → h ≤ 1024 → end_pick_fault (Loop start renaming e) w h ≡ None
no_fault start e renaming w h sw fw sh fh = rw (side_true w sw fw, side_true h sh fh) refl

-- a pick that is made
picked_by : (n : List ℕ) (steps : List RawLink) (end : End) (w h : ℕ) → end_pick_fault end w h ≡ None → expanded n steps end w h ≡ bound_rows n (set_at steps 0) (end_pick steps end w h)
picked_by n steps Open w h none = absurd cc
picked_by n steps (Loop start renaming e) w h none = refl

pub picked : (c : RawChain) (n : List ℕ) (w h : ℕ) → pick_fault c w h ≡ None → expanded n c.steps c.end w h ≡ bound_rows n (set_at c.steps 0) (pick_of c w h)
picked c n w h none = picked_by n c.steps c.end w h none

-- sides up to 1024 are no cause
caused_by : (n : List ℕ) (steps : List RawLink) (end : End) (w h : ℕ) → 1 ≤ w → w ≤ 1024 → 1 ≤ h → h ≤ 1024 → IsCause (end_pick_fault end w h) OpenChain → expanded n steps end w h ≡ open_chain
caused_by n steps Open w h sw fw sh fh is = refl
caused_by n steps (Loop start renaming e) w h sw fw sh fh is =
    let k : IsCause None OpenChain = rw (no_fault start e renaming w h sw fw sh fh) at is in
    absurd cc

pub not_picked : (c : RawChain) (n : List ℕ) (w h : ℕ) → 1 ≤ w → w ≤ 1024 → 1 ≤ h → h ≤ 1024 → IsCause (pick_fault c w h) OpenChain → expanded n c.steps c.end w h ≡ open_chain
not_picked c n w h sw fw sh fh is = caused_by n c.steps c.end w h sw fw sh fh is

never : (end : End) (w h : ℕ) (fault : ExpandFault) → 1 ≤ w → w ≤ 1024 → 1 ≤ h → h ≤ 1024 → IsCause (end_pick_fault end w h) fault → (fault ≡ Width → ⊥) × (fault ≡ Height → ⊥)
never Open w h fault sw fw sh fh is = ((λ e. absurd cc), (λ e. absurd cc))
never (Loop start renaming e) w h fault sw fw sh fh is =
    let k : IsCause None fault = rw (no_fault start e renaming w h sw fw sh fh) at is in
    ((λ e. absurd cc), (λ e. absurd cc))

pub never_wide : (c : RawChain) (w h : ℕ) → 1 ≤ w → w ≤ 1024 → 1 ≤ h → h ≤ 1024 → IsCause (pick_fault c w h) Width → ⊥
never_wide c w h sw fw sh fh is = (never c.end w h Width sw fw sh fh is).0 refl

pub never_high : (c : RawChain) (w h : ℕ) → 1 ≤ w → w ≤ 1024 → 1 ≤ h → h ≤ 1024 → IsCause (pick_fault c w h) Height → ⊥
never_high c w h sw fw sh fh is = (never c.end w h Height sw fw sh fh is).1 refl

first_at : (first : RawLink) (rest : List RawLink) → set_at (first ∷ rest) 0 ≡ Some (fine_of first)
first_at first rest =
    let p : nat_lt 0 (length (first ∷ rest)) ≡ true = grind (arith, nat_tests) in
    rw p refl

-- the cells of a pick are tiles of the first set
tiles_by : (c : RawChain) → chain_fault c ≡ None → (steps : List RawLink) → c.steps ≡ steps → (end : End) → c.end ≡ end → (w h : ℕ) → 1 ≤ w → 1 ≤ h → end_pick_fault end w h ≡ None
    → (set : TileList) → set_at steps 0 ≡ Some set → first_stranger (length set.tiles) (end_pick c.steps end w h) ≡ None
tiles_by c good_chain steps same Open ends w h sw sh none set at = absurd cc
tiles_by c good_chain [] same (Loop start renaming e) ends w h sw sh none set at = absurd (let a : None ≡ Some set = at in cc)
tiles_by c good_chain (first ∷ rest) same (Loop start renaming e) ends w h sw sh none set at =
    let a : Some (fine_of first) ≡ Some set = sym (first_at first rest) ∙ at in
    let k : fine_of first ≡ set = cc a in
    let sized = valid_pick c (good c good_chain) start e renaming ends first rest same w h sw sh in
    subst (λ (s : TileList). first_stranger (length s.tiles) (pick c.steps start renaming e w h) ≡ None) k (no_stranger (length (fine_of first).tiles) (pick c.steps start renaming e w h) sized.pattern.1)

pub picked_tiles : (c : RawChain) → chain_fault c ≡ None → (w h : ℕ) → 1 ≤ w → 1 ≤ h → pick_fault c w h ≡ None → (set : TileList) → set_at c.steps 0 ≡ Some set
    → first_stranger (length set.tiles) (pick_of c w h) ≡ None
picked_tiles c good_chain w h sw sh none set at = tiles_by c good_chain c.steps refl c.end refl w h sw sh none set at
