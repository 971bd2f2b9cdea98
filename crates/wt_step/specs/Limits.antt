-- Steps within the limits of a text, apart from how many nodes their trees have.
use Rattle.std.specs.Prelude.{◌≡◌, ℕ, zero, suc, ◌≤◌, length, All}
use Rattle.wt_grid.specs.declared.limits.TheConstants.{MAX_TILES}
use Rattle.wt_refute.specs.declared.tree.Refuted.{Refuted}
use Rattle.wt_refute.specs.Refutation.{Refutation, Branches, branch, cite, no_more, more, branch_count}
use Rattle.wt_refute.specs.View.{refutation}
use Rattle.wt_tile.specs.Names.{IsName}
use Rattle.wt_step.specs.declared.raw.RawStep.{RawStep}

-- at most d levels, each node with at most 256 children, cells and tiles below 65,536, and nothing
-- cited
abbrev mutual
  pub IsSlim : ℕ → Refutation → Type 0
  IsSlim zero tree = ⊥
  IsSlim (suc levels) (branch cell branches) = (cell ≤ 65535) × (branch_count branches ≤ MAX_TILES) × AreSlim levels branches
  IsSlim (suc levels) (cite cell axis) = ⊥

  pub AreSlim : ℕ → Branches → Type 0
  AreSlim levels no_more = Unit {0}
  AreSlim levels (more tile tree others) = (tile ≤ 65535) × IsSlim levels tree × AreSlim levels others

-- a refutation of this radius, with a slim tree
abbrev pub IsSlimEntry : ℕ → Refuted → Type 0
IsSlimEntry radius r = (r.radius ≡ radius) × IsSlim 90 (refutation r.tree)

-- A step within the limits of a certificate's text. What else they ask a good step has, since its tiles
-- are below 256.
pub record IsSlimStep (s : RawStep) : Type 0 where
  pub names1 : All IsName s.coarse.names1
  pub names2 : All IsName s.coarse.names2
  pub markers : length s.markers ≤ MAX_TILES
  pub allowed1 : length s.allowed1 ≤ 65536
  pub allowed2 : length s.allowed2 ≤ 65536
  pub refuted : length s.refuted ≤ 131072
  pub entries : All (IsSlimEntry s.radius) s.refuted
  pub images : length s.images ≤ MAX_TILES
