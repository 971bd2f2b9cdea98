-- Half-planes and regions made one after the other, as loops do.
use Rattle.std.proofs.Common.{◌≡◌, ℕ, ◌+◌, ℤ, List, [], ◌∷◌, ◌++◌, Option, None, Some, Result, Ok, Err, refl, sym, ap, ◌∙◌, append_assoc}
use Rattle.std.proofs.lemmas.List.{append-nil}
use Rattle.wt_plane.specs.HalfPlanes.{Half}
use Rattle.wt_script.specs.declared.torus.RawRegion.{RawRegion}
use Rattle.wt_text.specs.Readers.{◌then◌}
use Rattle.wt_torus.specs.declared.partition.Labelled.{Labelled}
use Rattle.wt_session.specs.declared.partitions.PartitionFault.{PartitionFault}
use Rattle.wt_session.specs.Partitions.{half_of, half_before, halves_from, labelled, regions_from}

-- what was made before, and what is still made
abbrev pub led : {A E : Type 0} → List A → Result (List A) E → Result (List A) E
led front r = r then λ xs. Ok (front ++ xs)

pub begins : {A E : Type 0} (r : Result (List A) E) → led [] r ≡ r
begins (Ok xs) = refl
begins (Err e) = refl

regroup : {A E : Type 0} (front : List A) (x : A) (r : Result (List A) E) → led front (r then λ xs. Ok (x ∷ xs)) ≡ led (front ++ x ∷ []) r
regroup front x (Ok xs) = ap (λ (f : List _). Ok f) (simp append_assoc)
regroup front x (Err e) = refl

pub one_half : (front : List Half) (j : ℕ) (ns : List ℤ) (h : Half) (rest : List (List ℤ)) (total : Result (List Half) ℕ) → half_of ns ≡ Some h → led front (halves_from j (ns ∷ rest)) ≡ total → led (front ++ h ∷ []) (halves_from (j + 1) rest) ≡ total
one_half front j ns h rest total e so =
    let one : led front (halves_from j (ns ∷ rest)) ≡ led (front ++ h ∷ []) (halves_from (j + 1) rest) = rw e (regroup front h (halves_from (j + 1) rest)) in
    sym one ∙ so

pub no_half : (front : List Half) (j : ℕ) (ns : List ℤ) (rest : List (List ℤ)) (total : Result (List Half) ℕ) → half_of ns ≡ None → led front (halves_from j (ns ∷ rest)) ≡ total → total ≡ Err j
no_half front j ns rest total e so =
    let one : led front (halves_from j (ns ∷ rest)) ≡ Err j = rw e refl in
    sym so ∙ one

pub halves_done : (front : List Half) (j : ℕ) (total : Result (List Half) ℕ) → led front (halves_from j []) ≡ total → total ≡ Ok front
halves_done front j total so = sym so ∙ ap (λ (f : List Half). Ok f) (append-nil front)

pub one_region : (front : List Labelled) (i : ℕ) (r : RawRegion) (x : Labelled) (rs : List RawRegion) (total : Result (List Labelled) PartitionFault) → Ok x ≡ labelled i r.label (halves_from 0 r.planes) → led front (regions_from i (r ∷ rs)) ≡ total → led (front ++ x ∷ []) (regions_from (i + 1) rs) ≡ total
one_region front i r x rs total e so =
    let one : led front (regions_from i (r ∷ rs)) ≡ led (front ++ x ∷ []) (regions_from (i + 1) rs) = rw (sym e) (regroup front x (regions_from (i + 1) rs)) in
    sym one ∙ so

pub no_region : (front : List Labelled) (i : ℕ) (r : RawRegion) (fault : PartitionFault) (rs : List RawRegion) (total : Result (List Labelled) PartitionFault) → Err fault ≡ labelled i r.label (halves_from 0 r.planes) → led front (regions_from i (r ∷ rs)) ≡ total → total ≡ Err fault
no_region front i r fault rs total e so =
    let one : led front (regions_from i (r ∷ rs)) ≡ Err fault = rw (sym e) refl in
    sym so ∙ one

pub regions_done : (front : List Labelled) (i : ℕ) (total : Result (List Labelled) PartitionFault) → led front (regions_from i []) ≡ total → total ≡ Ok front
regions_done front i total so = sym so ∙ ap (λ (f : List Labelled). Ok f) (append-nil front)
