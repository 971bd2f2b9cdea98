-- Chains that are put together stay good.
use Rattle.std.proofs.Common.{arith, ◌≡◌, ◌<◌, ◌≤◌, ◌+◌, ℕ, List, [], ◌∷◌, ◌++◌, length, length-append, Option, None, Some, option_map, Bool, true, false, ◌&&◌, nat_lt, if◌then◌else◌, refl, sym, ◌∙◌, ap}
use Rattle.wt_grid.specs.Unless.{unless}
use Rattle.std.specs.List.{list_all}
use Rattle.std.proofs.lemmas.Bool.Decides.{nat_tests}
use Rattle.wt_tile.specs.declared.tile.TileList.{TileList}
use Rattle.wt_grid.specs.First.{or_else}
use Rattle.wt_grid.proofs.First.{neither}
use Rattle.wt_step.specs.declared.raw.RawLink.{RawLink}
use Rattle.wt_step.specs.Links.{link_fault, fine_of, coarse_of}
use Rattle.wt_chain.specs.declared.raw.RawChain.{RawChain}
use Rattle.wt_chain.specs.declared.raw.End.{End}
use Rattle.wt_chain.specs.declared.raw.Refusal.TheVariants.{Step, NotNext}
use Rattle.wt_chain.specs.declared.raw.Version.{Version}
use Rattle.wt_chain.specs.declared.raw.Version.TheVariants.{One, Two}
use Rattle.wt_chain.specs.declared.push.PushFault.TheVariants.{NotNext as Apart, TooMany}
use Rattle.wt_chain.specs.Versions.{version_fits, version_of, one_more, is_first_version}
use Rattle.wt_chain.specs.Sets.{same_set, follows, comes_next, last_set, set_behind}
use Rattle.wt_chain.specs.Faults.{step_fault_at, steps_fault_from, steps_fault, end_fault, chain_fault}
use Rattle.wt_chain.specs.Chains.{IsOpen, push_fault}
use Rattle.wt_chain.proofs.Good.{Parts, parts, no_fault}

-- Versions.

all_more : {A : Type 0} (p : A → Bool) (xs : List A) (x : A) → list_all p (xs ++ x ∷ []) ≡ (list_all p xs && p x)
all_more p [] x = at_one (p x)
  where
    at_one : (b : Bool) → (b && true) ≡ (true && b)
    at_one true = refl
    at_one false = refl
all_more p (y ∷ xs) x = ap (λ b. p y && b) (all_more p xs x) ∙ regroup (p y) (list_all p xs) (p x)
  where
    regroup : (a b c : Bool) → (a && (b && c)) ≡ (a && b && c)
    regroup true b c = refl
    regroup false b c = refl

version_by : Bool → Version
version_by b = if b then One else Two

version_more : (links : List RawLink) (link : RawLink) → one_more (version_of links) link ≡ version_of (links ++ link ∷ [])
version_more links link = at_all (list_all is_first_version links) refl
  where
    at_all : (b : Bool) → list_all is_first_version links ≡ b → one_more (version_of links) link ≡ version_of (links ++ link ∷ [])
    at_all true e = rw (all_more is_first_version links link, e) refl
    at_all false e = rw (all_more is_first_version links link, e) refl

-- a chain that is put together has a version that has its steps
pub own_version : (links : List RawLink) → version_fits (version_of links) links ≡ true
own_version links = at_all (list_all is_first_version links) refl
  where
    at_all : (b : Bool) → list_all is_first_version links ≡ b → version_fits (version_of links) links ≡ true
    at_all true e = rw e (e)
    at_all false e = rw e refl

-- One step more.

more_from : (k : ℕ) (set : TileList) (links : List RawLink) (link : RawLink) → steps_fault_from k (Some set) links ≡ None
    → link_fault link ≡ None → same_set (last_set set links) (fine_of link) ≡ true → steps_fault_from k (Some set) (links ++ link ∷ []) ≡ None
more_from k set [] link e g s = rw (g, s) refl
more_from k set (first ∷ links) link e g s =
    let n = neither (step_fault_at k (Some set) first) (steps_fault_from (k + 1) (Some (coarse_of first)) links) e in
    rw n.0 (more_from (k + 1) (coarse_of first) links link n.1 g s)

more_steps : (links : List RawLink) (link : RawLink) → steps_fault links ≡ None → link_fault link ≡ None → comes_next (set_behind links) link ≡ true
    → steps_fault (links ++ link ∷ []) ≡ None
more_steps [] link e g s = rw g refl
more_steps (first ∷ links) link e g s =
    let n = neither (step_fault_at 0 None first) (steps_fault_from 1 (Some (coarse_of first)) links) e in
    rw n.0 (more_from 1 (coarse_of first) links link n.1 g s)

pushed : (links : List RawLink) (link : RawLink) → push_fault links link ≡ None → (comes_next (set_behind links) link ≡ true) × (length links < 32)
pushed links link e = at_next (comes_next (set_behind links) link) refl (nat_lt (length links) 32) refl
  where
    at_next : (a : Bool) → comes_next (set_behind links) link ≡ a → (b : Bool) → nat_lt (length links) 32 ≡ b → (comes_next (set_behind links) link ≡ true) × (length links < 32)
    at_next true s true t = (s, grind (arith, nat_tests, t))
    at_next true s false t = absurd (let h = rw (s, t) at e in cc)
    at_next false s b t = absurd (let h = rw s at e in cc)

pub one_open : (link : RawLink) → link_fault link ≡ None → IsOpen (link ∷ []) (one_more One link)
one_open link e = record { some = omega arith; few = omega arith; good = rw e refl; fits = version_more [] link }

pub more_open : (links : List RawLink) (version : Version) (link : RawLink) → IsOpen links version → push_fault links link ≡ None → link_fault link ≡ None
    → IsOpen (links ++ link ∷ []) (one_more version link)
more_open links version link h p g =
    let n = pushed links link p in
    record {
      some = omega (arith, length-append links (link ∷ []));
      few = omega (arith, length-append links (link ∷ []), n.1);
      good = more_steps links link h.good g n.0;
      fits = ap (λ v. one_more v link) h.fits ∙ version_more links link;
    }

-- The chain that is closed, or left open.

pub ended : (links : List RawLink) (version : Version) (end : End) → IsOpen links version → end_fault links end ≡ None
    → chain_fault (record { version = version; steps = links; end = end }) ≡ None
ended links version end h e =
    no_fault (record { version = version; steps = links; end = end })
    (record { some = h.some; few = h.few; version = ap (λ v. version_fits v links) h.fits ∙ own_version links; steps = h.good; end = e })

pub reopened : (c : RawChain) → chain_fault c ≡ None → IsOpen c.steps (version_of c.steps)
reopened c e = let p = parts c e in record { some = p.some; few = p.few; good = p.steps; fits = refl }

-- the chain in version two
pub upgraded : (c : RawChain) → chain_fault c ≡ None → chain_fault (record c { version = Two }) ≡ None
upgraded c e =
    let p = parts c e in
    no_fault (record c { version = Two }) (record { some = p.some; few = p.few; version = refl; steps = p.steps; end = p.end })
