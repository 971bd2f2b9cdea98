-- A step without a fault is good, and a good step has no fault.
use Rattle.std.proofs.Common.{arith, ◌≡◌, ◌≤◌, ◌<◌, ◌+◌, ℕ, suc, length, slice_get, Option, None, Some, option_map, true, refl, sym, ap, subst}
use Rattle.wt_grid.specs.declared.axis.Axis.{Axis}
use Rattle.wt_grid.proofs.First.{none_from, all_none, none_under}
use Rattle.wt_tile.proofs.TileSets.{tile_set, no_fault as set_none}
use Rattle.wt_refute.specs.declared.tree.Refuted.{Refuted}
use Rattle.wt_refute.specs.Refutes.{Refutes, tree_fault}
use Rattle.wt_refute.specs.Placed.{window_of}
use Rattle.wt_refute.specs.View.{refutation}
use Rattle.wt_refute.specs.Entries.{is_entry}
use Rattle.wt_refute.proofs.Faults.{no_fault as tree_none}
use Rattle.wt_step.specs.declared.raw.RawStep.{RawStep}
use Rattle.wt_step.specs.declared.raw.StepFault.TheVariants.{Node}
use Rattle.wt_step.specs.Words.{is_barred, entry_at}
use Rattle.wt_step.specs.Faults.{tree_answer, tree_fault_at, trees_fault, step_fault, IsShaped}
use Rattle.wt_step.specs.Good.{IsGoodStep}
use Rattle.wt_step.proofs.Faultless.{IsFaultless, faultless, no_fault as none_of}
use Rattle.wt_step.proofs.Named.{find_some, fits_entry, entry_of, known_entry, named_barred}

-- the tree of each refutation is that of a barred pair, and has no fault there
tree_right : (s : RawStep) → IsFaultless s → (i : ℕ) (k : Refuted) → slice_get s.refuted i ≡ Some k
    → Refutes s.fine.tiles k.radius s.refuted (window_of k.axis k.a k.b k.radius) (refutation k.tree)
tree_right s f i k e =
    let fit = fits_entry s.radius (length s.fine.tiles) s.refuted i k f.shaped.refuted e in
    let le = fit.0 in
    let known = known_entry s f.shaped.refuted i k e in
    let barred = named_barred s f.named k.axis k.a k.b k.radius k fit.1 fit.2 fit.0 known in
    let none = none_from (tree_fault_at s k.axis k.a k.b) 0 (s.radius + 1) k.radius (f.trees k.axis k.a k.b fit.1 fit.2 barred) (omega arith) (omega arith) in
    let P : Option Refuted → Type 0 = λ o. tree_answer s k.axis k.a k.b k.radius o ≡ None in
    (tree_none s.fine.tiles k.axis k.a k.b k.radius s.refuted k.tree).0
    (none_under (Node k.axis k.a k.b) (tree_fault s.fine.tiles k.axis k.a k.b k.radius s.refuted k.tree) (subst P known none))

pub good_step : (s : RawStep) → step_fault s ≡ None → IsGoodStep s
good_step s e = let f = faultless s e in
    record {
      radius = f.shaped.radius;
      fine = tile_set s.fine f.shaped.fine;
      coarse = tile_set s.coarse f.shaped.coarse;
      marker_list = f.shaped.markers;
      allowed_lists = f.shaped.allowed;
      refuted_list = f.shaped.refuted;
      image_list = f.shaped.images;
      named = f.named;
      trees = tree_right s f;
      marked = f.marked;
      images = f.images;
      distinct = f.distinct;
      has_tiles = f.has_tiles;
      has_pairs = f.has_pairs;
      joins = f.joins;
    }

-- and back

pub shape_of : (s : RawStep) → IsGoodStep s → IsShaped s
shape_of s g = record {
  radius = g.radius;
  fine = set_none s.fine g.fine;
  coarse = set_none s.coarse g.coarse;
  markers = g.marker_list;
  allowed = g.allowed_lists;
  refuted = g.refuted_list;
  images = g.image_list;
}

trees_of : (s : RawStep) → IsGoodStep s → (axis : Axis) (a b : ℕ) → trees_fault s axis a b ≡ None
trees_of s g axis a b = all_none (tree_fault_at s axis a b) 0 (s.radius + 1) (λ r lo lr. answer r (entry_at s axis a b r) refl)
  where
    answer : (r : ℕ) (o : Option Refuted) → entry_at s axis a b r ≡ o → tree_answer s axis a b r o ≡ None
    answer r None e = refl
    answer r (Some k) e =
        let f = find_some (is_entry r axis a b) s.refuted k e in
        let of = entry_of r axis a b k f.2 in
        let own : tree_fault s.fine.tiles k.axis k.a k.b k.radius s.refuted k.tree ≡ None =
        (tree_none s.fine.tiles k.axis k.a k.b k.radius s.refuted k.tree).1 (g.trees f.0 k f.1) in
        ap (option_map (Node axis a b))
        (subst (λ (r' : ℕ). tree_fault s.fine.tiles axis a b r' s.refuted k.tree ≡ None) of.0
        (subst (λ (b' : ℕ). tree_fault s.fine.tiles axis a b' k.radius s.refuted k.tree ≡ None) of.3
        (subst (λ (a' : ℕ). tree_fault s.fine.tiles axis a' k.b k.radius s.refuted k.tree ≡ None) of.2
        (subst (λ (v : Axis). tree_fault s.fine.tiles v k.a k.b k.radius s.refuted k.tree ≡ None) of.1 own))))

pub no_fault : (s : RawStep) → IsGoodStep s → step_fault s ≡ None
no_fault s g = none_of s (record {
  shaped = shape_of s g;
  named = g.named;
  trees = λ axis a b la lb h. trees_of s g axis a b;
  marked = g.marked;
  images = g.images;
  distinct = g.distinct;
  has_tiles = g.has_tiles;
  has_pairs = g.has_pairs;
  joins = g.joins;
})
