-- A good chain within the limits has a text.
use Rattle.std.proofs.Common.{arith, ◌≡◌, ℕ, zero, suc, ◌+◌, ◌<◌, ◌≤◌, Bool, true, ◌&&◌, nat_lt, nat_le, nat_eq, List, [], ◌∷◌, length, drop, slice_index, refl, sym, subst}
use Rattle.std.specs.List.{All, list_all}
use Rattle.std.proofs.lemmas.Bool.{and_parts}
use Rattle.std.proofs.lemmas.Bool.Decides.{nat_tests}
use Rattle.wt_grid.specs.Order.{in_order, leads, comes_before, is_below}
use Rattle.wt_grid.specs.Pairs.{pair_fits, pairs_follow}
use Rattle.wt_grid.specs.declared.axis.Axis.TheVariants.{One, Two}
use Rattle.wt_grid.specs.declared.image.Image.TheVariants.{One as Single, Two as Double}
use Rattle.wt_grid.specs.declared.image.Image.{Image}
use Rattle.wt_tile.specs.declared.tile.TileList.{TileList}
use Rattle.wt_tile.specs.Names.{IsName}
use Rattle.wt_tile.specs.Sets.{IsTileSet}
use Rattle.wt_text.specs.Spellings.{AllFit, FitInTurn}
use Rattle.wt_text.specs.Readers.{left_by}
use Rattle.wt_pattern.proofs.SetsListed.{set_listed}
use Rattle.wt_refute.specs.declared.tree.Refuted.{Refuted}
use Rattle.wt_refute.specs.Refutation.{Refutation, Branches, branch, cite, no_more, more, node_count, count_in}
use Rattle.wt_refute.specs.View.{refutation}
use Rattle.wt_bijection.specs.Carried.{IsRenaming}
use Rattle.wt_step.specs.declared.raw.RawStep.{RawStep}
use Rattle.wt_step.specs.declared.raw.RawLink.{RawLink}
use Rattle.wt_step.specs.declared.raw.RawLink.TheVariants.{Marker, Restrict}
use Rattle.wt_step.specs.Words.{entry_fits, image_fits}
use Rattle.wt_refute.specs.Entries.{entries_follow}
use Rattle.wt_step.specs.Links.{fine_of, coarse_of}
use Rattle.wt_step.specs.Good.{IsGoodStep}
use Rattle.wt_step.specs.Limits.{IsSlim, AreSlim, IsSlimEntry, IsSlimStep}
use Rattle.wt_chain.specs.declared.raw.Version.{Version}
use Rattle.wt_chain.specs.declared.raw.Version.TheVariants as versions
use Rattle.wt_chain.specs.declared.raw.End.{End}
use Rattle.wt_chain.specs.declared.raw.End.TheVariants.{Open, Loop}
use Rattle.wt_chain.specs.declared.raw.RawChain.{RawChain}
use Rattle.wt_chain.specs.Sets.{last_set, first_count, BeginsWith}
use Rattle.wt_chain.specs.Limits.{nodes_with, nodes_through, IsSmallEnd, AreSlimSteps, IsWithinLimits}
use Rattle.wt_chain.specs.Good.{AreGoodSteps, IsGoodRun, IsGoodLoop, IsGoodEnd, IsGoodChain}
use Rattle.wt_cert.specs.LineForms.{may_cite}
use Rattle.wt_cert.specs.Parts.{with_refuted, with_link}
use Rattle.wt_cert.specs.Trees.{IsWritableTree, AreWritableBranches}
use Rattle.wt_cert.specs.Fits.{IsSmall, AreWritableTiles, AreWritableNumbers, IsWritablePair, IsWritableImage, IsWritableRadius, IsWritableRefutation, IsWritableMarker, IsWritableLink, IsWritableEnd, IsWritable}

-- ---- trees

mutual
  tree_fits : (citing : Bool) (levels nodes : ℕ) (tree : Refutation) → IsSlim levels tree → nodes + node_count tree ≤ 1048576 → IsWritableTree citing levels nodes tree
  tree_fits citing zero nodes tree slim le = absurd slim
  tree_fits citing (suc levels) nodes (branch cell b) slim le = (omega arith, slim.0, slim.1, branches_fit citing levels (nodes + 1) b slim.2 (omega arith))
  tree_fits citing (suc levels) nodes (cite cell axis) slim le = absurd slim

  branches_fit : (citing : Bool) (levels nodes : ℕ) (b : Branches) → AreSlim levels b → nodes + count_in b ≤ 1048576 → AreWritableBranches citing levels nodes b
  branches_fit citing levels nodes no_more slim le = tt
  branches_fit citing levels nodes (more tile tree b) slim le = (slim.0, tree_fits citing levels nodes tree slim.1 (omega arith), branches_fit citing levels (nodes + node_count tree) b slim.2 (omega arith))

-- ---- lists

each_fits : {A : Type 0} (fits : A → Bool) (before : A → A → Bool) (P : A → Type 0) → ((x : A) → fits x ≡ true → P x) → (xs : List A) → in_order fits before xs ≡ true → AllFit P xs
each_fits fits before P h [] e = tt
each_fits fits before P h (x ∷ xs) e =
    let p = and_parts (fits x && leads before x xs) (in_order fits before xs) e in
    (h x (and_parts (fits x) (leads before x xs) p.0).0, each_fits fits before P h xs p.1)

below_small : (n x : ℕ) → n ≤ 256 → nat_lt x n ≡ true → IsSmall x
below_small n x few e = grind (arith, nat_tests, e)

pair_small : (n : ℕ) (x : ℕ × ℕ) → n ≤ 256 → pair_fits n x ≡ true → IsWritablePair x
pair_small n x few e = let p = and_parts (nat_lt x.0 n) (nat_lt x.1 n) e in (below_small n x.0 few p.0, below_small n x.1 few p.1)

image_small : (n : ℕ) (x : Image) → n ≤ 256 → image_fits n x ≡ true → IsWritableImage x
image_small n (Single a) few e = below_small n a few e
image_small n (Double a b) few e = let p = and_parts (nat_lt a n) (nat_lt b n) e in (below_small n a few p.0, below_small n b few p.1)

images_small : (n : ℕ) (xs : List Image) → n ≤ 256 → list_all (image_fits n) xs ≡ true → AllFit IsWritableImage xs
images_small n [] few e = tt
images_small n (x ∷ xs) few e = let p = and_parts (image_fits n x) (list_all (image_fits n) xs) e in (image_small n x few p.0, images_small n xs few p.1)

-- ---- refutations, with the nodes counted on

nodes_grow : (nodes : ℕ) (xs : List Refuted) → nodes ≤ nodes_with nodes xs
nodes_grow nodes [] = omega arith
nodes_grow nodes (r ∷ rs) = let le = nodes_grow (nodes + node_count (refutation r.tree)) rs in omega arith

radius_fits : (version : Version) (r radius : ℕ) → radius ≡ r → r ≤ 4 → IsWritableRadius version r radius
radius_fits versions.One r radius e le = e
radius_fits versions.Two r radius e le = omega arith

refuted_fits : (version : Version) (radius n nodes : ℕ) (xs : List Refuted) → radius ≤ 4 → n ≤ 256 → in_order (entry_fits radius n) entries_follow xs ≡ true
    → All (IsSlimEntry radius) xs → nodes_with nodes xs ≤ 1048576 → FitInTurn (IsWritableRefutation version radius) with_refuted nodes xs
refuted_fits version radius n nodes [] small few e slim le = tt
refuted_fits version radius n nodes (r ∷ rs) small few e slim le =
    let p = and_parts (entry_fits radius n r && leads entries_follow r rs) (in_order (entry_fits radius n) entries_follow rs) e in
    let q = and_parts (entry_fits radius n r) (leads entries_follow r rs) p.0 in
    let b = and_parts (nat_le r.radius radius && nat_lt r.a n) (nat_lt r.b n) q.0 in
    let a = and_parts (nat_le r.radius radius) (nat_lt r.a n) b.0 in
    let own : IsSlimEntry radius r = slim 0 r (omega arith) in
    let grown = nodes_grow (nodes + node_count (refutation r.tree)) rs in (
      record {
        small_a = below_small n r.a few a.1;
        small_b = below_small n r.b few b.1;
        radius = radius_fits version radius r.radius own.0 small;
        tree = tree_fits (may_cite version) 90 nodes (refutation r.tree) own.1 (omega arith);
      },
      refuted_fits version radius n (nodes + node_count (refutation r.tree)) rs small few p.1 (λ k d lt. slim (suc k) d (omega arith)) le,
    )

-- ---- steps

tiles_fit : (l : TileList) → IsTileSet l → All IsName l.names1 → All IsName l.names2 → AreWritableTiles l
tiles_fit l s all1 all2 = record { few = s.few; listed = set_listed l s all1 all2 }

marker_fits : (version : Version) (nodes : ℕ) (s : RawStep) → IsGoodStep s → IsSlimStep s → All IsName s.fine.names1 → All IsName s.fine.names2
    → nodes_with nodes s.refuted ≤ 1048576 → IsWritableMarker version nodes s
marker_fits version nodes s good slim all1 all2 le =
    let n = length s.fine.tiles in
    let few = good.fine.few in
    let m = and_parts (in_order (is_below n) comes_before s.markers && nat_lt 0 (length s.markers)) (nat_lt (length s.markers) n) good.marker_list in
    let m1 = and_parts (in_order (is_below n) comes_before s.markers) (nat_lt 0 (length s.markers)) m.0 in
    let i = and_parts (nat_eq (length s.images) (length s.coarse.tiles)) (list_all (image_fits n) s.images) good.image_list in
    record {
      radius = good.radius;
      fine = tiles_fit s.fine good.fine all1 all2;
      coarse = tiles_fit s.coarse good.coarse slim.names1 slim.names2;
      markers = (slim.markers, each_fits (is_below n) comes_before IsSmall (λ x e. below_small n x few e) s.markers m1.0);
      allowed1 = (slim.allowed1, each_fits (pair_fits n) pairs_follow IsWritablePair (λ x e. pair_small n x few e) s.allowed1 (good.allowed_lists One));
      allowed2 = (slim.allowed2, each_fits (pair_fits n) pairs_follow IsWritablePair (λ x e. pair_small n x few e) s.allowed2 (good.allowed_lists Two));
      refuted = (slim.refuted, refuted_fits version s.radius n nodes s.refuted good.radius few good.refuted_list slim.entries le);
      images = (slim.images, images_small n s.images few i.1);
    }

same_nodes : (nodes : ℕ) (xs : List Refuted) → left_by with_refuted nodes xs ≡ nodes_with nodes xs
same_nodes nodes [] = refl
same_nodes nodes (r ∷ rs) = same_nodes (nodes + node_count (refutation r.tree)) rs

through_grow : (nodes : ℕ) (links : List RawLink) → AreSlimSteps links → nodes ≤ nodes_through nodes links
through_grow nodes [] slim = omega arith
through_grow nodes (Marker s ∷ links) slim = let one = nodes_grow nodes s.refuted in let rest = through_grow (nodes_with nodes s.refuted) links slim.1 in omega arith
through_grow nodes (Restrict s ∷ links) slim = absurd slim

steps_fit : (version : Version) (set : TileList) (nodes : ℕ) (links : List RawLink) → AreGoodSteps set links → AreSlimSteps links → All IsName set.names1 → All IsName set.names2
    → nodes_through nodes links ≤ 1048576 → FitInTurn (IsWritableLink version) with_link nodes links
steps_fit version set nodes [] good slim all1 all2 le = tt
steps_fit version set nodes (Restrict s ∷ links) good slim all1 all2 le = absurd slim
steps_fit version set nodes (Marker s ∷ links) good slim all1 all2 le =
    let grown = through_grow (nodes_with nodes s.refuted) links slim.1 in
    let fine : s.fine ≡ set = good.1 in
    let rest = steps_fit version s.coarse (nodes_with nodes s.refuted) links good.2 slim.1 slim.0.names1 slim.0.names2 le in (
      marker_fits version nodes s good.0 slim.0 (subst (λ (l : TileList). All IsName l.names1) (sym fine) all1) (subst (λ (l : TileList). All IsName l.names2) (sym fine) all2) (omega arith),
      subst (λ (n : ℕ). FitInTurn (IsWritableLink version) with_link n links) (sym (same_nodes nodes s.refuted)) rest,
    )

-- ---- the end

below_all : (n : ℕ) (xs : List ℕ) → n ≤ 256 → ((i : ℕ) → i < length xs → slice_index xs i < n) → AllFit IsSmall xs
below_all n [] few h = tt
below_all n (x ∷ xs) few h = ((let lt = h 0 (omega arith) in omega arith), below_all n xs few (λ i lt. h (suc i) (omega arith)))

few_first : (set : TileList) (links : List RawLink) (start : ℕ) → AreGoodSteps set links → first_count (drop start links) ≤ 256
few_first set [] zero good = omega arith
few_first set [] (suc start) good = omega arith
few_first set (Marker s ∷ links) zero good = good.0.fine.few
few_first set (Restrict s ∷ links) zero good = good.0.fine.few
few_first set (Marker s ∷ links) (suc start) good = few_first s.coarse links start good.2
few_first set (Restrict s ∷ links) (suc start) good = few_first s.coarse links start good.2

loop_small : (loop : List RawLink) (renaming : List ℕ) (expansion : ℕ) → IsGoodLoop loop renaming expansion → first_count loop ≤ 256 → AreWritableNumbers renaming
loop_small [] renaming expansion good few = absurd good
loop_small (link ∷ links) renaming expansion good few =
    let r : IsRenaming (last_set (coarse_of link) links).tiles (fine_of link).tiles renaming = good.0 in
    let whole = r.whole in
    let alike = r.alike in
    (omega (arith, whole, alike), below_all (length (fine_of link).tiles) renaming few (λ i lt. r.inside i (omega (arith, whole))))

end_fits : (set : TileList) (links : List RawLink) (end : End) → AreGoodSteps set links → length links ≤ 32 → IsGoodEnd links end → IsSmallEnd links end → IsWritableEnd end
end_fits set links Open run few good small = tt
end_fits set links (Loop start renaming expansion) run few good small =
    let most = few_first set links start run in
    ((let lt = small.0 in omega arith), (let le = small.1 in omega arith), loop_small (drop start links) renaming expansion good most)

pub good_writable : (set : TileList) (c : RawChain) → IsGoodChain c → BeginsWith set c.steps → All IsName set.names1 → All IsName set.names2 → IsWithinLimits c → IsWritable c
good_writable set c good begins all1 all2 within =
    let run = run_from set c.steps good.run begins in
    record { some = good.some; few = good.few; steps = steps_fit c.version set 0 c.steps run within.steps all1 all2 within.nodes; end = end_fits set c.steps c.end run good.few good.end within.end }
  where
    run_from : (set : TileList) (links : List RawLink) → IsGoodRun links → BeginsWith set links → AreGoodSteps set links
    run_from set [] run b = tt
    run_from set (link ∷ links) run b = subst (λ (l : TileList). AreGoodSteps l (link ∷ links)) b run
