-- A partition that was made of a torus with denominators above 0 is sound.
use Rattle.std.proofs.Common.{arith, ◌≡◌, ℕ, suc, ◌+◌, ◌≤◌, ◌&&◌, not, Bool, true, false, cond, List, [], ◌∷◌, length, refl, sym, ap, ◌∙◌, subst}
use Rattle.std.specs.Prelude.{ℤ, pos, Option, None, Some, Result, Ok, Err}
use Rattle.wt_text.specs.Readers.{◌then◌}
use Rattle.wt_text.proofs.Numbers.{if_some, some_is}
use Rattle.wt_text.proofs.Texts.{then_ok, ok_is}
use Rattle.wt_golden.specs.Whole.{Whole, whole}
use Rattle.wt_plane.specs.HalfPlanes.{Half, HasDirection, AllDirected, reduced_half}
use Rattle.wt_torus.specs.declared.partition.Labelled.{Labelled}
use Rattle.wt_torus.specs.declared.partition.Partition.{Partition}
use Rattle.wt_torus.specs.Boxes.{is_rotation}
use Rattle.wt_torus.specs.Sound.{RegionsDirected, IsSound}
use Rattle.wt_markov.proofs.Held.{less_direction}
use Rattle.wt_script.specs.declared.torus.RawBox.{RawBox}
use Rattle.wt_script.specs.declared.torus.RawRegion.{RawRegion}
use Rattle.wt_session.specs.declared.partitions.PartitionFault.{PartitionFault}
use Rattle.wt_session.specs.declared.partitions.PartitionFault.TheVariants.{Torus}
use Rattle.wt_session.specs.Partitions.{rotation_of, written_half, is_zero, is_plane, half_from, half_of, half_before, halves_from, labelled, regions_from, partition_of}
use Rattle.wt_program.proofs.Tori.{IsUpright}

and_first : (a b : Bool) → a && b ≡ true → a ≡ true
and_first true b e = refl
and_first false b e = absurd cc

-- the numbers of x and y of a half-plane aren't both 0
directed : (h : Half) → is_plane h ≡ true → HasDirection h
directed h e both =
    let t : not (is_zero h.p && is_zero h.q) ≡ true = and_first (not (is_zero h.p && is_zero h.q)) _ e in
    let u : not (is_zero (whole (pos 0)) && is_zero (whole (pos 0))) ≡ true = rw (both.0, both.1) at t in
    cc

half_directed : (ns : List ℤ) (h : Half) → half_of ns ≡ Some h → HasDirection h
unfolding half_from
half_directed ns h e =
    let w = written_half ns in
    let t = if_some (is_plane w) (Some (reduced_half w)) h e in
    subst HasDirection (some_is _ _ t.1) (less_direction w (directed w t.0))

halves_directed : (j : ℕ) (ns : List (List ℤ)) (hs : List Half) → halves_from j ns ≡ Ok hs → AllDirected hs
halves_directed j [] hs e = subst AllDirected (ok_is _ _ e) tt
halves_directed j (n ∷ ns) hs e = go (half_of n) refl e (halves_directed (j + 1) ns)
  where
    go : (o : Option Half) → half_of n ≡ o → half_before j o (halves_from (j + 1) ns) ≡ Ok hs → ((rest : List Half) → halves_from (j + 1) ns ≡ Ok rest → AllDirected rest) → AllDirected hs
    go None s t others = absurd cc
    go (Some h) s t others =
        let x = then_ok (halves_from (j + 1) ns) _ hs t in
        subst AllDirected (ok_is _ _ x.2) (half_directed n h s, others x.0 x.1)

labelled_directed : (i a : ℕ) (r : Result (List Half) ℕ) (x : Labelled) → ((hs : List Half) → r ≡ Ok hs → AllDirected hs) → labelled i a r ≡ Ok x → AllDirected x.region.planes
labelled_directed i a (Ok hs) x all e = subst (λ (l : Labelled). AllDirected l.region.planes) (ok_is _ _ e) (all hs refl)
labelled_directed i a (Err j) x all e = absurd cc

regions_directed : (i : ℕ) (rs : List RawRegion) (xs : List Labelled) → regions_from i rs ≡ Ok xs → RegionsDirected xs
regions_directed i [] xs e = subst RegionsDirected (ok_is _ _ e) tt
regions_directed i (r ∷ rs) xs e =
    let x = then_ok (labelled i r.label (halves_from 0 r.planes)) _ xs e in
    let y = then_ok (regions_from (i + 1) rs) _ xs x.2 in
    subst RegionsDirected (ok_is _ _ y.2) (labelled_directed i r.label (halves_from 0 r.planes) x.0 (halves_directed 0 r.planes) x.1, regions_directed (i + 1) rs y.0 y.1)

regions_length : (i : ℕ) (rs : List RawRegion) (xs : List Labelled) → regions_from i rs ≡ Ok xs → length xs ≡ length rs
regions_length i [] xs e = sym (ap length (ok_is _ _ e))
regions_length i (r ∷ rs) xs e =
    let x = then_ok (labelled i r.label (halves_from 0 r.planes)) _ xs e in
    let y = then_ok (regions_from (i + 1) rs) _ xs x.2 in
    sym (ap length (ok_is _ _ y.2)) ∙ ap suc (regions_length (i + 1) rs y.0 y.1)

-- a partition has no more regions than were read
pub few_regions : (sides : RawBox) (rs : List RawRegion) (p : Partition) → partition_of sides rs ≡ Ok p → length rs ≤ 1024 → length p.regions ≤ 1024
few_regions sides rs p e few = go (is_rotation (rotation_of sides)) e
  where
    go : (b : Bool) → cond b (regions_from 0 rs then λ xs. Ok (record { torus = rotation_of sides; regions = xs })) (Err Torus) ≡ Ok p → length p.regions ≤ 1024
    go false t = absurd cc
    go true t =
        let x = then_ok (regions_from 0 rs) _ p t in
        let same : length p.regions ≡ length x.0 = sym (ap (λ (q : Partition). length q.regions) (ok_is _ _ x.2)) in
        let many = regions_length 0 rs x.0 x.1 in
        omega (arith, same, many, few)

pub sound : (sides : RawBox) (rs : List RawRegion) (p : Partition) → IsUpright sides → partition_of sides rs ≡ Ok p → IsSound p
sound sides rs p up e = go (is_rotation (rotation_of sides)) refl e
  where
    go : (b : Bool) → is_rotation (rotation_of sides) ≡ b
        → cond b (regions_from 0 rs then λ xs. Ok (record { torus = rotation_of sides; regions = xs })) (Err Torus) ≡ Ok p → IsSound p
    go false r t = absurd cc
    go true r t =
        let x = then_ok (regions_from 0 rs) _ p t in
        subst IsSound (ok_is _ _ x.2) (record {
          rotation = r;
          width = up.width;
          height = up.height;
          move1 = up.move1;
          move2 = up.move2;
          directed = regions_directed 0 rs x.0 x.1;
        })
