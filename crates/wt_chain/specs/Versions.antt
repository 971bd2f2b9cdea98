-- What the two versions of certificates allow.
use Rattle.std.specs.Prelude.{ℕ, List, Bool, true, false, ◌&&◌, ◌||◌, not, nat_eq, if◌then◌else◌}
use Rattle.std.specs.List.{list_all}
use Rattle.wt_refute.specs.Refutation.{Refutation, Branches, branch, cite, no_more, more}
use Rattle.wt_refute.specs.View.{refutation}
use Rattle.wt_refute.specs.declared.tree.Refuted.{Refuted}
use Rattle.wt_step.specs.declared.raw.RawLink.{RawLink}
use Rattle.wt_step.specs.declared.raw.RawLink.TheVariants.{Marker, Restrict}
use Rattle.wt_chain.specs.declared.raw.Version.{Version}
use Rattle.wt_chain.specs.declared.raw.Version.TheVariants.{One, Two}

-- a node of the tree cites
abbrev mutual
  pub cites : Refutation → Bool
  cites (branch cell branches) = any_cites branches
  cites (cite cell axis) = true

  pub any_cites : Branches → Bool
  any_cites no_more = false
  any_cites (more tile tree branches) = cites tree || any_cites branches

-- the refutation has its step's radius, and no node that cites
abbrev pub is_plain : ℕ → Refuted → Bool
is_plain radius r = nat_eq r.radius radius && not (cites (refutation r.tree))

-- version one has this step
abbrev pub is_first_version : RawLink → Bool
is_first_version (Marker s) = list_all (is_plain s.radius) s.refuted
is_first_version (Restrict s) = false

-- the version has these steps
abbrev pub version_fits : Version → List RawLink → Bool
version_fits One links = list_all is_first_version links
version_fits Two links = true

-- the version of a chain that is put together: one while all its steps allow it
abbrev pub version_of : List RawLink → Version
version_of links = if list_all is_first_version links then One else Two

-- that of a chain with one step more
abbrev pub one_more : Version → RawLink → Version
one_more One link = if is_first_version link then One else Two
one_more Two link = Two
